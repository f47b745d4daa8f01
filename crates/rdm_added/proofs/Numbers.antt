-- Numbers that a SET hands in, and that are kept as their data.
use Rattle.std.proofs.Common.{◌≡◌, ℕ, ◌<◌, ◌==◌, true, List, [], ◌∷◌, length, map, get_or, refl, sym, ap, ◌∙◌, arith}
use Rattle.std.specs.Prelude.{slice_index}
use Rattle.std.specs.Int.{w16, w32, from_be_bytes}
use Rattle.std.proofs.lemmas.Bool.{eqb-true}
use Rattle.std.proofs.lemmas.Nat.{be_bytes_2, be_bytes_4}
use Rattle.rdm_profile.specs.declared.profile.own.ParameterDef.{ParameterDef}
use Rattle.rdm_profile.specs.declared.profile.own.Rights.{Rights}
use Rattle.rdm_profile.specs.declared.profile.own.Rights.TheVariants as rights
use Rattle.rdm_profile.specs.declared.profile.own.Shape.{Shape}
use Rattle.rdm_profile.specs.declared.profile.own.Shape.TheVariants as shapes
use Rattle.rdm_profile.specs.declared.value.Value.{Value}
use Rattle.rdm_added.specs.Added.{own_stored, stored_by, kept_stored, index_kept, bytes_kept}
use Rattle.rdm_added.specs.Spot.{Change, Spot}
use Rattle.rdm_profile.specs.Forms.{has_length, value_in}
use Rattle.rdm_added.specs.Numbers.{is_number, sets_number}
use Rattle.rdm_added.specs.Map.{Entry, update}
use Rattle.rdm_profile.specs.OwnParameters.{form_of}
use Rattle.rdm_added.specs.Views.State.{stored_in}
use Rattle.rdm_added.proofs.KeptValues.{kept_all}

abbrev IsBytes : List ℕ → Type 0
IsBytes bytes = (i : ℕ) → get_or bytes i 0 < 256

single : (bytes : List ℕ) → length bytes ≡ 1 → bytes ≡ slice_index bytes 0 ∷ []
single [] one = absurd (omega arith)
single (a ∷ []) one = refl
single (a ∷ b ∷ bytes) one = absurd (omega arith)

one_slot : (bytes : List ℕ) → (length bytes == 1) ≡ true → bytes ≡ slice_index bytes 0 ∷ []
one_slot bytes long = single bytes (eqb-true (length bytes) 1 long)

bytes_again : (s : Shape) (bytes : List ℕ) → is_number s ≡ true → has_length (form_of s) (length bytes) ≡ true → IsBytes bytes → bytes ≡ bytes_kept s (value_in (form_of s) bytes)
bytes_again shapes.Byte bytes number long small = one_slot bytes long
bytes_again shapes.SignedByte bytes number long small = one_slot bytes long
bytes_again shapes.Choice bytes number long small = one_slot bytes long
bytes_again shapes.Word bytes number long small = sym (be_bytes_2 bytes (from_be_bytes w16 bytes) (eqb-true (length bytes) 2 long) small refl)
bytes_again shapes.SignedWord bytes number long small = sym (be_bytes_2 bytes (from_be_bytes w16 bytes) (eqb-true (length bytes) 2 long) small refl)
bytes_again shapes.Long bytes number long small = sym (be_bytes_4 bytes (from_be_bytes w32 bytes) (eqb-true (length bytes) 4 long) small refl)
bytes_again shapes.SignedLong bytes number long small = sym (be_bytes_4 bytes (from_be_bytes w32 bytes) (eqb-true (length bytes) 4 long) small refl)
bytes_again _ bytes number long small = absurd cc

at_zero : (s : Shape) (v : Value) → is_number s ≡ true → 0 ≡ index_kept s v
at_zero shapes.Scenes v number = absurd cc
at_zero _ v number = refl

kept_by : (r : Rights) (d : ParameterDef) → sets_number r d.shape ≡ true → (is_number d.shape ≡ true) × (stored_by r d ≡ kept_stored d)
kept_by rights.Both d number = (number, refl)
kept_by rights.Get d number = absurd cc
kept_by rights.Set d number = absurd cc
kept_by rights.Clear d number = absurd cc

-- each entry of the parameter keeps its data
pub number_kept : (d : ParameterDef) (spot : Spot) (bytes : List ℕ) (es new : List Entry) → sets_number d.rights d.shape ≡ true → has_length (form_of d.shape) (length bytes) ≡ true → IsBytes bytes → new ≡ map (stored_in d.pid 0 bytes) es → new ≡ update (own_stored d spot (value_in (form_of d.shape) bytes)) es
number_kept d spot bytes es new number long small e =
    let v : Value = value_in (form_of d.shape) bytes in
    let (is, by) = kept_by d.rights d number in
    kept_all d spot v es new 0 bytes (at_zero d.shape v is) (bytes_again d.shape bytes is long small) e ∙ ap (λ (change : Change). update (change spot v) es) (sym by)
