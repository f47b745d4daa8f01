-- What is said of a profile.
use Rattle.std.proofs.Common.{◌≡◌, ℕ, ◌+◌, ◌*◌, ◌<◌, List, [], ◌∷◌, ◌++◌, length, length-append, get_or, drop, refl, sym, ap, ◌∙◌, append_assoc, arith}
use Rattle.std.specs.Prelude.{flat_map}
use Rattle.std.proofs.lemmas.List.{at_drop_more}
use Rattle.std.proofs.lemmas.List.Concat.{flat_map-cons}
use Rattle.rdm_profile.specs.declared.profile.Profile.{Profile}
use Rattle.rdm_profile.specs.declared.profile.own.ParameterDef.{ParameterDef}
use Rattle.rdm_profile.specs.Values.{word_slots}
use Rattle.rdm_saved.specs.SavedText.{devices_text, own_text, profile_text}
use Rattle.rdm_saved.specs.SameProfile.{profile_size}

-- one more parameter is appended
pub own_step : (list : List ℕ) (i : ℕ) (ds : List ParameterDef) (d : ParameterDef) (total : List ℕ) → i < length ds → list ++ flat_map own_text (drop i ds) ≡ total → (list ++ own_text (get_or ds i d)) ++ flat_map own_text (drop (i + 1) ds) ≡ total
own_step list i ds d total lt so_far =
    let more : flat_map own_text (drop i ds) ≡ own_text (get_or ds i d) ++ flat_map own_text (drop (i + 1) ds) = at_drop_more (flat_map own_text) ds i d lt ∙ flat_map-cons own_text (get_or ds i d) (drop (i + 1) ds) in
    append_assoc list (own_text (get_or ds i d)) (flat_map own_text (drop (i + 1) ds)) ∙ ap (λ (xs : List ℕ). list ++ xs) (sym more) ∙ so_far

own_size : (ds : List ParameterDef) → length (flat_map own_text ds) ≡ 4 * length ds
own_size [] = refl
own_size (d ∷ ds) = omega (arith, length-append (own_text d) (flat_map own_text ds), own_size ds)

words_size : (ns : List ℕ) → length (flat_map word_slots ns) ≡ 2 * length ns
words_size [] = refl
words_size (n ∷ ns) = omega (arith, length-append (word_slots n) (flat_map word_slots ns), words_size ns)

-- how many bytes it has
pub text_size : (p : Profile) (kept : ℕ) → length (profile_text p kept) + 2 ≡ profile_size p
text_size p kept =
    omega (arith, length-append (devices_text p kept) (flat_map own_text p.particulars.own ++ flat_map word_slots p.particulars.without.items), length-append (flat_map own_text p.particulars.own) (flat_map word_slots p.particulars.without.items), own_size p.particulars.own, words_size p.particulars.without.items)

-- how many bytes it has with the manufacturer ID before it
pub head_size : (maker : ℕ) (p : Profile) (kept : ℕ) → length (word_slots maker ++ profile_text p kept) ≡ profile_size p
head_size maker p kept = omega (arith, length-append (word_slots maker) (profile_text p kept), text_size p kept)
