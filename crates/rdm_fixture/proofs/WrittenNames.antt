-- What is written of numbers that the standard has names for.
use Rattle.std.proofs.Common.{◌≡◌, ◌≤◌, ◌==◌, ℕ, pos, Bool, true, false, List, Option, Some, None, IfSome, if◌then◌else◌, refl, ap, arith}
use Rattle.toml.specs.Data.{integer, string}
use Rattle.rdm_fixture_keys.specs.Values.{label_id, named}
use Rattle.rdm_standard_names.specs.Names.{greatest_of, name_numbered, number_named}
use Rattle.rdm_standard_names.specs.declared.kind.NameKind.{NameKind}
use Rattle.rdm_standard_names.specs.declared.kind.NameKind.TheVariants.{Labels}
use Rattle.rdm_standard_names.proofs.ReadBack.{is_read_back}
use Rattle.rdm_fixture.specs.Writing.{IsPlain, label_field, name_or_number, named_field}
use Rattle.rdm_fixture.proofs.Said.{number_plain, number_says}

pub written_name : (kind : NameKind) (n : ℕ) (name : List ℕ) → Some name ≡ name_numbered kind n → string name ≡ named_field kind n
written_name kind n name e = ap (λ (o : Option (List ℕ)). name_or_number o n) e

pub written_number : (kind : NameKind) (n : ℕ) → None ≡ name_numbered kind n → integer (pos n) ≡ named_field kind n
written_number kind n e = ap (λ (o : Option (List ℕ)). name_or_number o n) e

-- ---- it is read as the number

said : (kind : NameKind) (n : ℕ) (o : Option (List ℕ)) → n ≤ greatest_of kind → IfSome o (λ name. number_named kind name ≡ Some n)
    → named kind (name_or_number o n) ≡ Some n
said kind n None fits read = number_says 0 (greatest_of kind) n (omega arith) fits
said kind n (Some name) fits read = read

named_says : (kind : NameKind) (n : ℕ) → n ≤ greatest_of kind → named kind (named_field kind n) ≡ Some n
named_says kind n fits = said kind n (name_numbered kind n) fits (is_read_back kind n)

pub byte_says : (kind : NameKind) (n : ℕ) → greatest_of kind ≡ 0xFF → n ≤ 0xFF → named kind (named_field kind n) ≡ Some n
byte_says kind n greatest fits = named_says kind n (omega (arith, greatest, fits))

pub word_says : (kind : NameKind) (n : ℕ) → greatest_of kind ≡ 0xFFFF → n ≤ 0xFFFF → named kind (named_field kind n) ≡ Some n
word_says kind n greatest fits = named_says kind n (omega (arith, greatest, fits))

-- the same of the label of a primary slot: a name is read as one of a label
label_said : (n : ℕ) (o : Option (List ℕ)) → n ≤ 0xFFFF → IfSome o (λ name. number_named Labels name ≡ Some n)
    → label_id 0 (name_or_number o n) ≡ Some n
label_said n None fits read = number_says 0 0xFFFF n (omega arith) fits
label_said n (Some name) fits read = read

pub named_label_says : (kind n : ℕ) → kind ≡ 0 → n ≤ 0xFFFF → label_id kind (label_field kind n) ≡ Some n
named_label_says kind n e fits = rw e (label_said n (name_numbered Labels n) fits (is_read_back Labels n))

pub plain_label_says : (kind n : ℕ) → (kind == 0) ≡ false → n ≤ 0xFFFF → label_id kind (label_field kind n) ≡ Some n
plain_label_says kind n e fits = rw e (number_says 0 0xFFFF n (omega arith) fits)

-- ---- how deep it is

plain_either : (n : ℕ) (o : Option (List ℕ)) (m : ℕ) → IsPlain n (name_or_number o m)
plain_either n None m = number_plain n _
plain_either n (Some name) m = record { shallow = omega arith; dates = refl }

pub named_plain : (n : ℕ) (kind : NameKind) (m : ℕ) → IsPlain n (named_field kind m)
named_plain n kind m = plain_either n (name_numbered kind m) m

plain_if : (n : ℕ) (primary : Bool) (m : ℕ) → IsPlain n (if primary then named_field Labels m else integer (pos m))
plain_if n true m = named_plain n Labels m
plain_if n false m = number_plain n _

pub label_plain : (n kind m : ℕ) → IsPlain n (label_field kind m)
label_plain n kind m = plain_if n (kind == 0) m
