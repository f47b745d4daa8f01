-- Lists that are written element by element.
use Rattle.std.proofs.Common.{◌≡◌, ℕ, ◌+◌, ◌<◌, List, [], ◌∷◌, ◌++◌, length, get_or, drop, refl, sym, ap, ◌∙◌, append_assoc, add-one}
use Rattle.std.specs.Prelude.{flat_map}
use Rattle.std.proofs.lemmas.List.{at_drop_more}
use Rattle.std.proofs.lemmas.List.Concat.{flat_map-cons}
use Rattle.rdm_profile.specs.declared.profile.Slot.{Slot}
use Rattle.rdm_device.specs.Columns.Replies.{slot_infos, slot_defaults}
use Rattle.rdm_profile.specs.Values.{word_slots}

pub codes_step : (list : List ℕ) (i : ℕ) (codes : List ℕ) (total : List ℕ) → i < length codes → list ++ flat_map word_slots (drop i codes) ≡ total → (list ++ word_slots (get_or codes i 0)) ++ flat_map word_slots (drop (i + 1) codes) ≡ total
codes_step list i codes total lt so_far =
    let more : flat_map word_slots (drop i codes) ≡ word_slots (get_or codes i 0) ++ flat_map word_slots (drop (i + 1) codes) = at_drop_more (flat_map word_slots) codes i 0 lt ∙ flat_map-cons word_slots (get_or codes i 0) (drop (i + 1) codes) in
    append_assoc list (word_slots (get_or codes i 0)) (flat_map word_slots (drop (i + 1) codes)) ∙ ap (λ (xs : List ℕ). list ++ xs) (sym more) ∙ so_far

regroup : (a b c d e : List ℕ) → (((a ++ b) ++ c) ++ d) ++ e ≡ a ++ (b ++ (c ++ (d ++ e)))
regroup a b c d e = simp append_assoc

regroup3 : (a b c d : List ℕ) → ((a ++ b) ++ c) ++ d ≡ a ++ (b ++ (c ++ d))
regroup3 a b c d = simp append_assoc

pub infos_step : (list : List ℕ) (i : ℕ) (slots : List Slot) (d : Slot) (total : List ℕ) → i < length slots → list ++ slot_infos i (drop i slots) ≡ total → (((list ++ word_slots i) ++ (get_or slots i d).kind ∷ []) ++ word_slots (get_or slots i d).label) ++ slot_infos (i + 1) (drop (i + 1) slots) ≡ total
infos_step list i slots d total lt so_far =
    let rest : List ℕ = slot_infos (i + 1) (drop (i + 1) slots) in
    let more : slot_infos i (drop i slots) ≡ word_slots i ++ ((get_or slots i d).kind ∷ [] ++ (word_slots (get_or slots i d).label ++ rest)) = at_drop_more (slot_infos i) slots i d lt ∙ rw (← add-one i) refl in
    regroup list (word_slots i) ((get_or slots i d).kind ∷ []) (word_slots (get_or slots i d).label) rest ∙ ap (λ (xs : List ℕ). list ++ xs) (sym more) ∙ so_far

pub defaults_step : (list : List ℕ) (i : ℕ) (slots : List Slot) (d : Slot) (total : List ℕ) → i < length slots → list ++ slot_defaults i (drop i slots) ≡ total → ((list ++ word_slots i) ++ (get_or slots i d).value ∷ []) ++ slot_defaults (i + 1) (drop (i + 1) slots) ≡ total
defaults_step list i slots d total lt so_far =
    let rest : List ℕ = slot_defaults (i + 1) (drop (i + 1) slots) in
    let more : slot_defaults i (drop i slots) ≡ word_slots i ++ ((get_or slots i d).value ∷ [] ++ rest) = at_drop_more (slot_defaults i) slots i d lt ∙ rw (← add-one i) refl in
    regroup3 list (word_slots i) ((get_or slots i d).value ∷ []) rest ∙ ap (λ (xs : List ℕ). list ++ xs) (sym more) ∙ so_far
