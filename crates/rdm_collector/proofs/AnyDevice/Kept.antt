-- What stays true of a record while a collector polls any device: u says that the last poll is unanswered, last is what the
-- device said last, d was dispensed and r was recorded. What was recorded is what was dispensed, or, where the last poll is
-- unanswered, lacks what was said last at its end.
use Rattle.std.proofs.Common.{◌≡◌, ◌≤◌, Bool, true, false, ◌⊎◌, List, [], ◌∷◌, ◌++◌, length, Option, Some, None, refl, sym, ap, subst, ◌∙◌, arith, inl, inr}
use Rattle.std.proofs.lemmas.Bool.{cases_Bool}
use Rattle.std.proofs.lemmas.List.{append-nil}
use Rattle.rdm_collector.specs.AnyDevice.Devices.{MayGive}
use Rattle.rdm_collector.specs.AnyDevice.Items.{Item, same_item}
use Rattle.rdm_collector.specs.AnyDevice.Joining.{ends_with, and_then, join, PrefixLaw}
use Rattle.rdm_collector.proofs.AnyDevice.Joining.{and_then_old, and_then_new, and_then-and_then, join-push}

-- one list is the other, or lacks what was said last at its end
abbrev pub IsBehind : Option Item → List Item → List Item → Type 0
IsBehind last js ks = (js ≡ ks) ⊎ ((x : Item) × (last ≡ Some x) × (and_then same_item js x ≡ ks))

pub record Kept (u : Bool) (last : Option Item) (d r : List Item) : Type 0 where
  pub level : u ≡ false → join same_item r ≡ join same_item d
  pub behind : IsBehind last (join same_item r) (join same_item d)

some_item : (x y : Item) → Some x ≡ Some y → x ≡ y
some_item x y e = cc

none_is_item : (x : Item) → None ≡ Some x → ⊥
none_is_item x e = cc

-- nothing happened yet
pub Kept-before : (u : Bool) (last : Option Item) → Kept u last [] []
Kept-before u last = record { level = λ _. refl; behind = inl refl }

-- a poll of which nothing is heard, and which gives nothing
pub Kept-unheard : (u : Bool) (last : Option Item) (d r : List Item) → Kept u last d r → Kept true last d r
Kept-unheard u last d r k = record { level = λ e. absurd cc; behind = k.behind }

-- the device has said nothing yet, so nothing is behind
not_behind : (last : Option Item) (js ks : List Item) → last ≡ None → IsBehind last js ks → js ≡ ks
not_behind last js ks none (inl e) = e
not_behind last js ks none (inr (x, is, e)) = absurd (none_is_item x (sym none ∙ is))

-- a poll that is rejected
pub Kept-rejected : (u : Bool) (last : Option Item) (d r : List Item) → Kept u last d r → (u ≡ true → last ≡ None) → Kept false last d r
Kept-rejected false last d r k none = k
Kept-rejected true last d r k none =
    let level : join same_item r ≡ join same_item d = not_behind last (join same_item r) (join same_item d) (none refl) k.behind in
    record { level = λ _. level; behind = inl level }

-- ---- what is given

-- something new is given to a record that is level
level_then : (x : Item) (d r : List Item) → join same_item r ≡ join same_item d → and_then same_item (join same_item r) x ≡ join same_item (d ++ x ∷ [])
level_then x d r e = ap (λ (js : List Item). and_then same_item js x) e ∙ sym (join-push d x)

-- what was said last is given again
again_then : (last x : Item) (d r : List Item) → x ≡ last → IsBehind (Some last) (join same_item r) (join same_item d) → and_then same_item (join same_item r) x ≡ join same_item (d ++ x ∷ [])
again_then last x d r is (inl e) = level_then x d r e
again_then last x d r is (inr (y, last_is, e)) =
    let P : Item → Type 0 = λ z. and_then same_item (join same_item r) z ≡ join same_item d in
    let one : and_then same_item (join same_item r) x ≡ join same_item d = subst P (sym (is ∙ some_item last y last_is)) e in
    sym (and_then-and_then (join same_item r) x) ∙ ap (λ (js : List Item). and_then same_item js x) one ∙ sym (join-push d x)

given : (u : Bool) (last : Option Item) (waiting : List Item) (x : Item) (d r : List Item) → Kept u last d r → MayGive u last waiting x → and_then same_item (join same_item r) x ≡ join same_item (d ++ x ∷ [])
given true (Some last) waiting x d r k may = again_then last x d r may k.behind
given true None waiting x d r k may = level_then x d r (not_behind None (join same_item r) (join same_item d) refl k.behind)
given false last (w ∷ waiting) x d r k may = level_then x d r (k.level refl)
given false last [] x d r k may = level_then x d r (k.level refl)

-- .. and not heard, or heard
pub Kept-given_unheard : (u : Bool) (last : Option Item) (waiting : List Item) (x : Item) (d r : List Item) → Kept u last d r → MayGive u last waiting x → Kept true (Some x) (d ++ x ∷ []) r
Kept-given_unheard u last waiting x d r k may =
    record { level = λ e. absurd cc; behind = inr (x, refl, given u last waiting x d r k may) }

pub Kept-given : (u : Bool) (last : Option Item) (waiting : List Item) (x : Item) (d r : List Item) → Kept u last d r → MayGive u last waiting x → Kept false (Some x) (d ++ x ∷ []) (r ++ x ∷ [])
Kept-given u last waiting x d r k may =
    let level : join same_item (r ++ x ∷ []) ≡ join same_item (d ++ x ∷ []) = join-push r x ∙ given u last waiting x d r k may in
    record { level = λ _. level; behind = inl level }

-- ---- the law

one_behind : (last : Option Item) (js ks : List Item) → IsBehind last js ks → (rest : List Item) × (js ++ rest ≡ ks) × (length rest ≤ 1)
one_behind last js ks (inl e) = ([], append-nil js ∙ e, omega arith)
one_behind last js ks (inr (x, is, e)) =
    elim (cases_Bool (ends_with same_item js x)) [
      | inl old ↦ ([], append-nil js ∙ sym (and_then_old js x old) ∙ e, omega arith)
      | inr new ↦ (x ∷ [], sym (and_then_new js x new) ∙ e, omega arith)
    ]

pub Kept-prefix : (u : Bool) (last : Option Item) (d r : List Item) → Kept u last d r → PrefixLaw same_item u d r
Kept-prefix u last d r k =
    let short = one_behind last (join same_item r) (join same_item d) k.behind in
    record { rest = short.0; prefix = short.1; at_most_one = short.2; equal = k.level }
