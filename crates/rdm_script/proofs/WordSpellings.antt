-- The words of a strict command are read exactly as what they spell.
use Rattle.std.proofs.Common.{◌≡◌, ℕ, Bool, true, false, cond, leb, List, [], length, map, Option, Some, None, ◌⊎◌, inl, inr, refl, sym, ap, subst, ◌∙◌, arith}
use Rattle.std.specs.Prelude.{codes}
use Rattle.std.specs.Str.{bytes_eq}
use Rattle.std.proofs.lemmas.Bool.{leb-true, le-leb}
use Rattle.std.proofs.lemmas.Option.{same_Some}
use Rattle.std.proofs.lemmas.List.{length-map}
use Rattle.std.proofs.lemmas.Slice.Eq.{bytes_eq-Decides}
use Rattle.rdm_frame.specs.declared.uid.Uid.{Uid}
use Rattle.rdm_frame.specs.Addressing.{all_devices, all_of}
use Rattle.rdm_frame.specs.Digits.{upper}
use Rattle.rdm_frame.specs.DigitReading.{bytes_in}
use Rattle.rdm_frame.specs.UidText.{SpellsUid}
use Rattle.rdm_frame.proofs.Spellings.{bytes_read, bytes_again}
use Rattle.rdm_frame.proofs.NumberSpellings.{long, uid_spelled}
use Rattle.rdm_collector.specs.declared.command.Action.{Action}
use Rattle.rdm_collector.specs.declared.command.Action.TheVariants.{Disc, Get, Set}
use Rattle.rdm_script.specs.Grammar.{action_in, destination_in, bytes_load_in}
use Rattle.rdm_script.specs.Spelling.{SpellsDestination, SpellsData, SpellsAction}

-- ---- which way a choice went

abbrev pub Chosen : {A : Type 0} → Bool → A → A → A → Type 0
Chosen b x y z = ((b ≡ true) × (x ≡ z)) ⊎ ((b ≡ false) × (y ≡ z))

pub chosen : {A : Type 0} (b : Bool) (x y z : A) → cond b x y ≡ z → Chosen b x y z
chosen true x y z h = inl (refl, h)
chosen false x y z h = inr (refl, h)

pub not_true : (b : Bool) → (b ≡ true → ⊥) → b ≡ false
not_true true h = absurd (h refl)
not_true false h = refl

pub guarded : {A : Type 0} (b : Bool) (o : Option A) (z : A) → cond b o None ≡ Some z → (b ≡ true) × (o ≡ Some z)
guarded true o z h = (refl, h)
guarded false o z h = absurd cc

-- ---- whom a command is for

pub destination_read : (dev : Uid) (text : List ℕ) (u : Uid) → destination_in dev text ≡ Some u → SpellsDestination dev text u
unfolding destination_in
destination_read dev text u e =
    elim (chosen (bytes_eq text (codes "dev")) (Some dev) _ (Some u) e) [
      | inl h ↦ inl ((bytes_eq-Decides text (codes "dev")).0 h.0, sym (same_Some dev u h.1))
      | inr h ↦ inr (elim (chosen (bytes_eq text (codes "all")) (Some all_devices) _ (Some u) h.1) [
        | inl k ↦ inl ((bytes_eq-Decides text (codes "all")).0 k.0, sym (same_Some all_devices u k.1))
        | inr k ↦ inr (elim (chosen (bytes_eq text (codes "maker")) (Some (all_of dev.maker)) _ (Some u) k.1) [
          | inl m ↦ inl ((bytes_eq-Decides text (codes "maker")).0 m.0, sym (same_Some (all_of dev.maker) u m.1))
          | inr m ↦ inr ((uid_spelled text u).0 m.1)
        ])
      ])
    ]

-- a word of another length is another word
pub differs : (text name : List ℕ) → (length text ≡ length name → ⊥) → bytes_eq text name ≡ false
differs text name h = not_true (bytes_eq text name) (λ e. h (ap length ((bytes_eq-Decides text name).0 e)))

thirteen : (text : List ℕ) (u : Uid) → SpellsUid text u → length text ≡ 13
thirteen text u s = let kept : length (map upper text) ≡ length text = rw length-map refl in sym kept ∙ ap length s.printed

pub destination_again : (dev : Uid) (text : List ℕ) (u : Uid) → SpellsDestination dev text u → destination_in dev text ≡ Some u
unfolding destination_in
destination_again dev text u (inl h) = rw (h.0, h.1) refl
destination_again dev text u (inr (inl h)) = rw (h.0, h.1) refl
destination_again dev text u (inr (inr (inl h))) = rw (h.0, h.1) refl
destination_again dev text u (inr (inr (inr s))) =
    let n = thirteen text u s in
    rw (differs text (codes "dev") (λ e. omega arith), differs text (codes "all") (λ e. omega arith), differs text (codes "maker") (λ e. omega arith)) ((uid_spelled text u).1 s)

-- ---- the other words

pub data_read : (text load : List ℕ) → bytes_load_in text ≡ Some load → SpellsData text load
unfolding bytes_load_in
data_read text load e =
    elim (chosen (bytes_eq text (codes "-")) (Some []) _ (Some load) e) [
      | inl h ↦ inl ((bytes_eq-Decides text (codes "-")).0 h.0, sym (same_Some [] load h.1))
      | inr h ↦
          let g = guarded (leb (length text) 510) (bytes_in text) load h.1 in
          let s = bytes_read text load g.1 in
          inr (omega (arith, long text load s, leb-true _ _ g.0), s)
    ]

pub data_again : (text load : List ℕ) → SpellsData text load → bytes_load_in text ≡ Some load
unfolding bytes_load_in
data_again text load (inl h) = rw (h.0, h.1) refl
data_again text load (inr s) =
    let n = long text load s.1 in
    rw (differs text (codes "-") (λ e. omega (arith, n, e)), le-leb (length text) 510 (omega (arith, n, s.0))) (bytes_again text load s.1)

pub action_read : (text : List ℕ) (a : Action) → action_in text ≡ Some a → SpellsAction text a
action_read text a e =
    elim (chosen (bytes_eq text (codes "get")) (Some Get) _ (Some a) e) [
      | inl h ↦ subst (λ (x : Action). SpellsAction text x) (same_Some Get a h.1) ((bytes_eq-Decides text (codes "get")).0 h.0)
      | inr h ↦
          elim (chosen (bytes_eq text (codes "set")) (Some Set) _ (Some a) h.1) [
            | inl k ↦ subst (λ (x : Action). SpellsAction text x) (same_Some Set a k.1) ((bytes_eq-Decides text (codes "set")).0 k.0)
            | inr k ↦
                let g = guarded (bytes_eq text (codes "disc")) (Some Disc) a k.1 in
                subst (λ (x : Action). SpellsAction text x) (same_Some Disc a g.1) ((bytes_eq-Decides text (codes "disc")).0 g.0)
          ]
    ]

pub action_again : (text : List ℕ) (a : Action) → SpellsAction text a → action_in text ≡ Some a
action_again text Disc s = rw s refl
action_again text Get s = rw s refl
action_again text Set s = rw s refl
