-- Against any device no message that was given is lost but the last.
use Rattle.std.proofs.Common.{◌≡◌, ◌⊎◌, ◌==◌, Bool, true, false, List, [], ◌∷◌, ◌++◌, map, drop, Option, Some, None, refl, sym, ap, subst, ◌∙◌, true≢false, inl, inr, append_assoc}
use Rattle.std.proofs.lemmas.Bool.{cases_Bool, both_ways, and_from, and_parts, eqb-true, eq-eqb}
use Rattle.std.proofs.lemmas.List.{append-nil, map-append}
use Rattle.rdm_collector.specs.declared.any_device.collected.Collected.{Collected}
use Rattle.rdm_collector.specs.Recording.{same_message}
use Rattle.rdm_collector.specs.AnyDevice.Collecting.{DeviceState}
use Rattle.rdm_collector.specs.AnyDevice.Devices.{Device, Event, IsRun, MayGive, after, after_all, after_giving, arrived, arrived_by, device_after, device_after_all}
use Rattle.rdm_collector.specs.AnyDevice.Items.{Item, item_of, same_item, type_code}
use Rattle.rdm_collector.specs.AnyDevice.Joining.{ends_with, and_then, join}
use Rattle.rdm_collector.specs.AnyDevice.NoLoss.{IsSubsequence, but_last, NoneIsLostOfAnyDevice, LosingIsRefused}
use Rattle.rdm_collector.specs.AnyDevice.NoLoss.IsSubsequence.{Nothing, Skips, Takes}
use Rattle.rdm_collector.proofs.AnyDevice.Effects.{Quiet, Lost, Got, Given, Effect, effect}
use Rattle.rdm_collector.proofs.AnyDevice.Joining.{item-refl, and_then_old, and_then_new, join-push, join-nil, join-one, join-two}
use Rattle.rdm_collector.proofs.Joining.{same-true, same-refl}

-- ---- what says the same

same_parts : (x y : Item) → same_item x y ≡ true → (type_code x.response ≡ type_code y.response) × (x.message ≡ y.message)
unfolding same_item
same_parts x y e =
    let both = and_parts (type_code x.response == type_code y.response) (same_message x.message y.message) e in
    (eqb-true _ _ both.0, same-true x.message y.message both.1)

same_from_parts : (x y : Item) → type_code x.response ≡ type_code y.response → x.message ≡ y.message → same_item x y ≡ true
unfolding same_item
same_from_parts x y codes messages =
    and_from _ _ (eq-eqb _ _ codes) (ap (same_message x.message) (sym messages) ∙ same-refl x.message)

same-sym : (x y : Item) → same_item x y ≡ true → same_item y x ≡ true
same-sym x y e = let both = same_parts x y e in same_from_parts y x (sym both.0) (sym both.1)

same-trans : (x y z : Item) → same_item x y ≡ true → same_item y z ≡ true → same_item x z ≡ true
same-trans x y z e f =
    let one = same_parts x y e in
    let two = same_parts y z f in
    same_from_parts x z (one.0 ∙ two.0) (one.1 ∙ two.1)

-- ---- subsequences, as `proofs/Joining.antt` has them of messages

push : (xs ys : List Item) (x : Item) → IsSubsequence xs ys → IsSubsequence xs (ys ++ x ∷ [])
push _ _ x (Nothing ys) = Nothing (ys ++ x ∷ [])
push _ _ x (Skips xs y ys h) = Skips xs y (ys ++ x ∷ []) (push xs ys x h)
push _ _ x (Takes w y xs ys e h) = Takes w y xs (ys ++ x ∷ []) e (push xs ys x h)

pub subsequence-then : (xs ys : List Item) (x : Item) → IsSubsequence xs ys → IsSubsequence xs (and_then same_item ys x)
subsequence-then xs ys x h =
    elim (cases_Bool (ends_with same_item ys x)) [
      | inl old ↦ rw (and_then_old ys x old) h
      | inr new ↦ rw (and_then_new ys x new) (push xs ys x h)
    ]

-- both get it at the end
push_both : (xs ys : List Item) (x : Item) → IsSubsequence xs ys → IsSubsequence (xs ++ x ∷ []) (ys ++ x ∷ [])
push_both _ _ x (Nothing []) = Takes x x [] [] (item-refl x) (Nothing [])
push_both _ _ x (Nothing (y ∷ ys)) = Skips (x ∷ []) y (ys ++ x ∷ []) (push_both [] ys x (Nothing ys))
push_both _ _ x (Skips xs y ys h) = Skips (xs ++ x ∷ []) y (ys ++ x ∷ []) (push_both xs ys x h)
push_both _ _ x (Takes w y xs ys e h) = Takes w y (xs ++ x ∷ []) (ys ++ x ∷ []) e (push_both xs ys x h)

ends : (ys : List Item) (x : Item) → ends_with same_item ys x ≡ true → IsSubsequence (x ∷ []) ys
ends [] x e = absurd (true≢false (sym e))
ends (y ∷ []) x e = Takes x y [] [] (same-sym y x e) (Nothing [])
ends (y ∷ z ∷ zs) x e = Skips (x ∷ []) y (z ∷ zs) (ends (z ∷ zs) x e)

-- the second has it at its end already, and the first hasn't
at_end : (xs ys : List Item) (x : Item) → IsSubsequence xs ys → ends_with same_item xs x ≡ false → ends_with same_item ys x ≡ true → IsSubsequence (xs ++ x ∷ []) ys
at_end _ _ x (Nothing ys) new old = ends ys x old
at_end _ _ x (Skips [] y [] h) new old = ends (y ∷ []) x old
at_end _ _ x (Skips (w ∷ ws) y [] h) new old = elim h [ ]
at_end _ _ x (Skips xs y (z ∷ zs) h) new old = Skips (xs ++ x ∷ []) y (z ∷ zs) (at_end xs (z ∷ zs) x h new old)
at_end _ _ x (Takes w y [] [] e h) new old = absurd (both_ways _ new (same-trans w y x e old))
at_end _ _ x (Takes w y [] (z ∷ zs) e h) new old = Takes w y (x ∷ []) (z ∷ zs) e (ends (z ∷ zs) x old)
at_end _ _ x (Takes w y (v ∷ vs) [] e h) new old = elim h [ ]
at_end _ _ x (Takes w y (v ∷ vs) (z ∷ zs) e h) new old =
    Takes w y ((v ∷ vs) ++ x ∷ []) (z ∷ zs) e (at_end (v ∷ vs) (z ∷ zs) x h new old)

pub subsequence-same : (xs ys : List Item) (x : Item) → IsSubsequence xs ys → IsSubsequence (and_then same_item xs x) (and_then same_item ys x)
subsequence-same xs ys x h =
    elim (cases_Bool (ends_with same_item xs x)) [
      | inl old ↦ rw (and_then_old xs x old) (subsequence-then xs ys x h)
      | inr new ↦
          elim (cases_Bool (ends_with same_item ys x)) [
            | inl there ↦ rw (and_then_new xs x new, and_then_old ys x there) (at_end xs ys x h new there)
            | inr none ↦ rw (and_then_new xs x new, and_then_new ys x none) (push_both xs ys x h)
          ]
    ]

but_last-push : (xs : List Item) (x : Item) → but_last (xs ++ x ∷ []) ≡ xs
but_last-push [] x = refl
but_last-push (y ∷ []) x = refl
but_last-push (y ∷ z ∷ zs) x = ap (λ (ws : List Item). y ∷ ws) (but_last-push (z ∷ zs) x)

subsequence-but_last : (xs ys : List Item) → IsSubsequence xs ys → IsSubsequence (but_last xs) ys
subsequence-but_last _ _ (Nothing ys) = Nothing ys
subsequence-but_last _ _ (Skips xs y ys h) = Skips (but_last xs) y ys (subsequence-but_last xs ys h)
subsequence-but_last _ _ (Takes w y [] ys e h) = Nothing (y ∷ ys)
subsequence-but_last _ _ (Takes w y (z ∷ zs) ys e h) = Takes w y (but_last (z ∷ zs)) ys e (subsequence-but_last (z ∷ zs) ys h)

-- ---- what stays true: g was given, r was recorded, u says that the last poll is unanswered, and last is what was said last

-- all that was given was recorded, but what was said last
abbrev IsButLast : Option Item → List Item → List Item → Type 0
IsButLast last g r = (h : List Item) × (x : Item) × (last ≡ Some x) × (g ≡ h ++ x ∷ []) × IsSubsequence (join same_item h) (join same_item r)

record Kept (u : Bool) (last : Option Item) (g r : List Item) : Type 0 where
  pub all : u ≡ false → IsSubsequence (join same_item g) (join same_item r)
  pub but_one : IsSubsequence (join same_item g) (join same_item r) ⊎ IsButLast last g r

none_is : (x : Item) → None ≡ Some x → ⊥
none_is x e = cc

some_item : (x y : Item) → Some x ≡ Some y → x ≡ y
some_item x y e = cc

-- the device has said nothing, so nothing is lost
all_of : (last : Option Item) (g r : List Item) → last ≡ None → IsSubsequence (join same_item g) (join same_item r) ⊎ IsButLast last g r
    → IsSubsequence (join same_item g) (join same_item r)
all_of last g r none (inl all) = all
all_of last g r none (inr (h, x, is, e, sub)) = absurd (none_is x (sym none ∙ is))

-- something is recorded on top
then_recorded : (x : Item) (g r : List Item) → IsSubsequence (join same_item g) (join same_item r) → IsSubsequence (join same_item g) (join same_item (r ++ x ∷ []))
then_recorded x g r all = rw (join-push r x) (subsequence-then (join same_item g) (join same_item r) x all)

then_both : (x : Item) (g r : List Item) → IsSubsequence (join same_item g) (join same_item r) → IsSubsequence (join same_item (g ++ x ∷ [])) (join same_item (r ++ x ∷ []))
then_both x g r all = rw (join-push g x, join-push r x) (subsequence-same (join same_item g) (join same_item r) x all)

-- what was said last is recorded
caught_up : (last : Option Item) (x : Item) (g r : List Item) → last ≡ Some x → IsSubsequence (join same_item g) (join same_item r) ⊎ IsButLast last g r
    → IsSubsequence (join same_item g) (join same_item (r ++ x ∷ []))
caught_up last x g r is (inl all) = then_recorded x g r all
caught_up last x g r is (inr (h, y, last_is, e, sub)) =
    let P : List Item → Type 0 = λ xs. IsSubsequence (join same_item xs) (join same_item (r ++ x ∷ [])) in
    let Q : Item → Type 0 = λ z. h ++ z ∷ [] ≡ g in
    subst P (subst Q (some_item y x (sym last_is ∙ is)) (sym e)) (then_both x h r sub)

-- ---- what leaves the queue at a poll

-- What was given in all is g, of a queue that had these messages in all.
record Stands (base : List Collected) (ever : List Item) (s : DeviceState) (d : Device) : Type 0 where
  pub given : List Item
  pub queue : given ++ d.waiting ≡ ever
  pub recorded : List Collected
  pub is_recorded : s.recorded ≡ base ++ recorded
  pub kept : Kept s.unanswered d.last given (map item_of recorded)

-- The device gives a message: whether it leaves the queue.
abbrev leaves : Bool → List Item → Item → List Item
leaves true waiting x = []
leaves false [] x = []
leaves false (w ∷ waiting) x = x ∷ []

queue_at : (u : Bool) (d : Device) (waiting : List Item) (x : Item) (g ever : List Item) → d.waiting ≡ waiting → g ++ d.waiting ≡ ever
    → MayGive u d.last waiting x → (g ++ leaves u waiting x) ++ (after_giving u d x).waiting ≡ ever
queue_at true d waiting x g ever is e may = ap (λ (xs : List Item). xs ++ d.waiting) (append-nil g) ∙ e
queue_at false d [] x g ever is e may =
    ap (λ (xs : List Item). xs ++ drop 1 d.waiting) (append-nil g) ∙ ap (λ (w : List Item). g ++ drop 1 w) is ∙ ap (λ (w : List Item). g ++ w) (sym is) ∙ e
queue_at false d (w ∷ waiting) x g ever is e may =
    ap (λ (ws : List Item). (g ++ x ∷ []) ++ drop 1 ws) is ∙ append_assoc g (x ∷ []) waiting ∙ ap (λ (y : Item). g ++ y ∷ waiting) may
    ∙ ap (λ (ws : List Item). g ++ ws) (sym is) ∙ e

queue_after : (u : Bool) (d : Device) (x : Item) (g ever : List Item) → MayGive u d.last d.waiting x → g ++ d.waiting ≡ ever
    → (g ++ leaves u d.waiting x) ++ (after_giving u d x).waiting ≡ ever
queue_after u d x g ever may e = queue_at u d d.waiting x g ever refl e may

last_is : (u : Bool) (d : Device) (x : Item) → (after_giving u d x).last ≡ Some x
last_is true d x = refl
last_is false d x = refl

-- what was said last is given again, and is lost if it was lost
still : (last x : Item) (g r : List Item) → x ≡ last → IsSubsequence (join same_item g) (join same_item r) ⊎ IsButLast (Some last) g r
    → IsSubsequence (join same_item (g ++ [])) (join same_item r) ⊎ IsButLast (Some x) (g ++ []) r
still last x g r is (inl all) = inl (rw (append-nil g) all)
still last x g r is (inr (h, y, last_is, e, sub)) = inr (h, y, ap (λ (z : Item). Some z) is ∙ last_is, append-nil g ∙ e, sub)

-- .. and isn't heard
kept_lost : (u : Bool) (last : Option Item) (waiting : List Item) (x : Item) (g r : List Item) → MayGive u last waiting x → Kept u last g r
    → Kept true (Some x) (g ++ leaves u waiting x) r
kept_lost true (Some last) waiting x g r may k = record { all = λ e. absurd (true≢false e); but_one = still last x g r may k.but_one }
kept_lost true None waiting x g r may k = record { all = λ e. absurd (true≢false e); but_one = inl (rw (append-nil g) (all_of None g r refl k.but_one)) }
kept_lost false last [] x g r may k = record { all = λ e. absurd (true≢false e); but_one = inl (rw (append-nil g) (k.all refl)) }
kept_lost false last (w ∷ waiting) x g r may k = record { all = λ e. absurd (true≢false e); but_one = inr (g, x, refl, refl, k.all refl) }

-- .. and is recorded
all_got : (u : Bool) (last : Option Item) (waiting : List Item) (x : Item) (g r : List Item) → MayGive u last waiting x → Kept u last g r
    → IsSubsequence (join same_item (g ++ leaves u waiting x)) (join same_item (r ++ x ∷ []))
all_got true (Some last) waiting x g r may k = rw (append-nil g) (caught_up (Some last) x g r (ap (λ (z : Item). Some z) (sym may)) k.but_one)
all_got true None waiting x g r may k = rw (append-nil g) (then_recorded x g r (all_of None g r refl k.but_one))
all_got false last [] x g r may k = rw (append-nil g) (then_recorded x g r (k.all refl))
all_got false last (w ∷ waiting) x g r may k = then_both x g r (k.all refl)

kept_got : (u : Bool) (last : Option Item) (waiting : List Item) (x : Item) (g r : List Item) → MayGive u last waiting x → Kept u last g r
    → Kept false (Some x) (g ++ leaves u waiting x) (r ++ x ∷ [])
kept_got u last waiting x g r may k =
    let all : IsSubsequence (join same_item (g ++ leaves u waiting x)) (join same_item (r ++ x ∷ [])) = all_got u last waiting x g r may k in
    record { all = λ e. all; but_one = inl all }

-- nothing is given
kept_quiet : (u v : Bool) (last : Option Item) (g r : List Item) → (u ≡ true → (v ≡ true) ⊎ (last ≡ None)) → Kept u last g r → Kept v last g r
kept_quiet false v last g r quiet k = record { all = λ e. k.all refl; but_one = k.but_one }
kept_quiet true v last g r quiet k =
    elim (quiet refl) [
      | inl still ↦ record { all = λ e. absurd (true≢false (sym still ∙ e)); but_one = k.but_one }
      | inr none ↦ record { all = λ e. all_of last g r none k.but_one; but_one = k.but_one }
    ]

-- ---- each event

at_last : (u : Bool) (last other : Option Item) (g r : List Item) → other ≡ last → Kept u last g r → Kept u other g r
at_last u last other g r e k = let P : Option Item → Type 0 = λ o. Kept u o g r in subst P (sym e) k

at_unanswered : (u v : Bool) (last : Option Item) (g r : List Item) → v ≡ u → Kept u last g r → Kept v last g r
at_unanswered u v last g r e k = let P : Bool → Type 0 = λ b. Kept b last g r in subst P (sym e) k

quiet : (base : List Collected) (ever arrived : List Item) (s t : DeviceState) (d e : Device) → Quiet arrived s t d e → Stands base ever s d → Stands base (ever ++ arrived) t e
quiet base ever arrived s t d e q st = record {
  given = st.given;
  queue = ap (λ (w : List Item). st.given ++ w) q.waiting ∙ sym (append_assoc st.given d.waiting arrived) ∙ ap (λ (w : List Item). w ++ arrived) st.queue;
  recorded = st.recorded;
  is_recorded = q.recorded ∙ st.is_recorded;
  kept = at_last t.unanswered d.last e.last st.given (map item_of st.recorded) q.last
      (kept_quiet s.unanswered t.unanswered d.last st.given (map item_of st.recorded) q.unanswered st.kept);
}

last_after : (u : Bool) (d e : Device) (x : Item) → e ≡ after_giving u d x → e.last ≡ Some x
last_after u d e x is = ap (λ (z : Device). z.last) is ∙ last_is u d x

lost : (base : List Collected) (ever : List Item) (s t : DeviceState) (d e : Device) → Lost s t d e → Stands base ever s d → Stands base ever t e
lost base ever s t d e l st =
    let u : Bool = s.unanswered in
    let x : Item = l.item in
    let g : List Item = st.given ++ leaves u d.waiting x in
    let r : List Item = map item_of st.recorded in
    record {
      given = g;
      queue = ap (λ (z : Device). g ++ z.waiting) l.device ∙ queue_after u d x st.given ever l.may st.queue;
      recorded = st.recorded;
      is_recorded = l.recorded ∙ st.is_recorded;
      kept = at_unanswered true t.unanswered e.last g r l.unanswered (at_last true (Some x) e.last g r (last_after u d e x l.device)
          (kept_lost u d.last d.waiting x st.given r l.may st.kept));
    }

got : (base : List Collected) (ever : List Item) (s t : DeviceState) (d e : Device) → Got s t d e → Stands base ever s d → Stands base ever t e
got base ever s t d e l st =
    let u : Bool = s.unanswered in
    let c : Collected = l.collected in
    let x : Item = item_of c in
    let g : List Item = st.given ++ leaves u d.waiting x in
    let r : List Item = map item_of (st.recorded ++ c ∷ []) in
    let P : List Item → Type 0 = λ xs. Kept false (Some x) g xs in
    let now : Kept false (Some x) g r = subst P (sym (map-append item_of st.recorded (c ∷ []))) (kept_got u d.last d.waiting x st.given (map item_of st.recorded) l.may st.kept) in
    record {
      given = g;
      queue = ap (λ (z : Device). g ++ z.waiting) l.device ∙ queue_after u d x st.given ever l.may st.queue;
      recorded = st.recorded ++ c ∷ [];
      is_recorded = l.recorded ∙ ap (λ (xs : List Collected). xs ++ c ∷ []) st.is_recorded ∙ append_assoc base st.recorded (c ∷ []);
      kept = at_unanswered false t.unanswered e.last g r l.unanswered (at_last false (Some x) e.last g r (last_after u d e x l.device) now);
    }

given : (base : List Collected) (ever : List Item) (s t : DeviceState) (d e : Device) → Given s t d e → Stands base ever s d → Stands base ever t e
given base ever s t d e (inl l) st = lost base ever s t d e l st
given base ever s t d e (inr g) st = got base ever s t d e g st

happens : (base : List Collected) (ever arrived : List Item) (s t : DeviceState) (d e : Device) → Effect arrived s t d e → Stands base ever s d → Stands base (ever ++ arrived) t e
happens base ever arrived s t d e (inl q) st = quiet base ever arrived s t d e q st
happens base ever arrived s t d e (inr (none, g)) st =
    let P : List Item → Type 0 = λ xs. Stands base xs t e in
    subst P (sym (ap (λ (xs : List Item). ever ++ xs) none ∙ append-nil ever)) (given base ever s t d e g st)

-- ---- all events

ran : (base : List Collected) (ever : List Item) (s : DeviceState) (d : Device) (es : List Event) → Stands base ever s d → IsRun s d es
    → Stands base (ever ++ arrived es) (after_all s es) (device_after_all s d es)
ran base ever s d [] st run = let P : List Item → Type 0 = λ xs. Stands base xs s d in subst P (sym (append-nil ever)) st
ran base ever s d (x ∷ xs) st run =
    let t : DeviceState = after s x in
    let e : Device = device_after s d x in
    let P : List Item → Type 0 = λ ys. Stands base ys (after_all t xs) (device_after_all t e xs) in
    subst P (append_assoc ever (arrived_by x) (arrived xs)) (ran base (ever ++ arrived_by x) t e xs (happens base ever (arrived_by x) s t d e (effect s d x run.0) st) run.1)

begun : (s : DeviceState) (d : Device) → Stands s.recorded d.waiting s d
begun s d =
    let none : IsSubsequence (join same_item []) (join same_item []) = rw join-nil (Nothing []) in
    record { given = []; queue = refl; recorded = []; is_recorded = sym (append-nil s.recorded); kept = record { all = λ e. none; but_one = inl none } }

-- ---- the law

all_but_one : (last : Option Item) (g r : List Item) → IsSubsequence (join same_item g) (join same_item r) ⊎ IsButLast last g r
    → IsSubsequence (but_last (join same_item g)) (join same_item r)
all_but_one last g r (inl all) = subsequence-but_last (join same_item g) (join same_item r) all
all_but_one last g r (inr (h, x, is, e, sub)) =
    let P : List Item → Type 0 = λ xs. IsSubsequence (but_last (join same_item xs)) (join same_item r) in
    subst P (sym e) (elim (cases_Bool (ends_with same_item (join same_item h) x)) [
      | inl old ↦ rw (join-push h x, and_then_old (join same_item h) x old) (subsequence-but_last (join same_item h) (join same_item r) sub)
      | inr new ↦ rw (join-push h x, and_then_new (join same_item h) x new, but_last-push (join same_item h) x) sub
    ])

pub none_is_lost : NoneIsLostOfAnyDevice
none_is_lost s d es run =
    let done = ran s.recorded d.waiting s d es (begun s d) run in
    record {
      given = done.given;
      are_given = done.queue;
      recorded = done.recorded;
      is_recorded = done.is_recorded;
      no_loss = record { all = done.kept.all; but_one = λ e. all_but_one (device_after_all s d es).last done.given (map item_of done.recorded) done.kept.but_one };
    }

-- ---- what it rules out

not_in : (x y : Item) (xs : List Item) → same_item x y ≡ false → IsSubsequence (x ∷ xs) (y ∷ []) → ⊥
not_in _ _ _ other (Skips (x ∷ xs) y [] h) = elim h [ ]
not_in _ _ _ other (Takes x y xs [] e h) = both_ways _ other e

pub losing : LosingIsRefused
losing false lost next other law =
    let P : List Item → Type 0 = λ xs. IsSubsequence xs (next ∷ []) in
    let Q : List Item → Type 0 = λ ys. IsSubsequence (join same_item (lost ∷ next ∷ [])) ys in
    not_in lost next (next ∷ []) other (subst P (join-two lost next other) (subst Q (join-one next) (law.all refl)))
losing true lost next other law =
    let P : List Item → Type 0 = λ xs. IsSubsequence (but_last xs) (next ∷ []) in
    let Q : List Item → Type 0 = λ ys. IsSubsequence (but_last (join same_item (lost ∷ next ∷ []))) ys in
    not_in lost next [] other (subst P (join-two lost next other) (subst Q (join-one next) (law.but_one refl)))
