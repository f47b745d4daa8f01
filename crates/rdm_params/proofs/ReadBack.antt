-- What is written of a value is read back as that value.
use Rattle.std.proofs.Common.{◌≡◌, ℕ, Option, Some, None, Ok, length, refl, ap}
use Rattle.std.specs.Prelude.{IsTrue}
use Rattle.std.proofs.lemmas.Bool.{le-leb}
use Rattle.std.proofs.lemmas.Nat.{from_be_bytes-to_be_bytes_2, from_be_bytes-to_be_bytes_4}
use Rattle.rdm_profile.specs.declared.value.Value.{Value}
use Rattle.rdm_profile.specs.declared.value.Value.TheVariants.{Nothing, Byte, Word, Long, Preset, Label}
use Rattle.rdm_table.specs.Table.Rows.{command_of, Command}
use Rattle.rdm_profile.specs.Forms.{Form, nothing, byte, word, long, preset, label, sized, has_form}
use Rattle.rdm_params.specs.Laws.{FitsSlots, HasFormOf, ReadsBack}
use Rattle.rdm_table.specs.Table.Uses.{read_as, read}
use Rattle.rdm_profile.specs.Values.{bytes_of}

form_again : (form : Form) (v : Value) → IsTrue (has_form form v) → FitsSlots v → read_as form (bytes_of v) ≡ Ok v
form_again nothing Nothing h fits = refl
form_again byte (Byte n) h fits = refl
form_again word (Word n) h fits = ap (λ (m : ℕ). Ok (Word m)) (from_be_bytes-to_be_bytes_2 n fits)
form_again long (Long n) h fits = ap (λ (m : ℕ). Ok (Long m)) (from_be_bytes-to_be_bytes_4 n fits)
form_again preset (Preset mode level) h fits = ap (λ (m : ℕ). Ok (Preset m level)) (from_be_bytes-to_be_bytes_2 mode fits.0)
form_again label (Label text) h fits = rw (le-leb (length text) 32 fits) refl
form_again (sized n) (Label text) h fits = rw (h, le-leb (length text) 32 fits) refl
form_again _ _ h fits = absurd cc

command_again : (command : Option Command) (v : Value) → HasFormOf command v → FitsSlots v → read command (bytes_of v) ≡ Ok v
command_again None v h fits = absurd h
command_again (Some c) v h fits = form_again c.form v h fits

pub reads_back : ReadsBack
reads_back pid verb v h fits = command_again (command_of pid verb) v h fits
