-- What a key of the fields says.
use Rattle.std.proofs.Common.{◌≡◌, Bool, true, false, ℕ, ℤ, ◌≤◌, pos, List, [], ◌∷◌, Option, Some, None, refl, ap, ◌∙◌, arith}
use Rattle.std.proofs.lemmas.Bool.{le-leb}
use Rattle.rdm_frame.specs.declared.uid.Uid.{Uid}
use Rattle.toml.specs.Data.{Data, integer, boolean}
use Rattle.rdm_fixture_keys.specs.Keys.{must, may, Must, May}
use Rattle.rdm_fixture_keys.specs.Values.{flag, number, text}
use Rattle.rdm_fixture.specs.Writing.{text_field, flag_field, uid_field, IsPlain}
use Rattle.rdm_fixture.proofs.Fields.{Field, members_from, find_field, or_else, get_from, ArePlain}

pub number_says : (least most n : ℕ) → least ≤ n → n ≤ most → number least most (integer (pos n)) ≡ Some n
number_says least most n low high = rw (le-leb least n low, le-leb n most high) refl

pub or_none : (o : Option Data) → or_else o None ≡ o
or_none None = refl
or_none (Some d) = refl

-- a key that holds what says x, or what is written of a text
module _ (key : List ℕ) (fs : List Field) where
  pub must_say : {A : Type 0} (says : Data → Option A) (d : Data) (x : A) → find_field key fs ≡ Some d → says d ≡ Some x → Must (members_from fs) key says x
  must_say says d x found is = ap (must says) (get_from key fs ∙ found) ∙ is

  pub may_say : {A : Type 0} (default : A) (says : Data → Option A) (d : Data) (x : A) → find_field key fs ≡ Some d → says d ≡ Some x → May (members_from fs) key default says x
  may_say default says d x found is = ap (may default says) (get_from key fs ∙ found) ∙ is

  pub may_text : (s : List ℕ) → find_field key fs ≡ or_else (text_field s) None → may [] text (text_field s) ≡ Some s → May (members_from fs) key [] text s
  may_text s found says = ap (may [] text) (get_from key fs ∙ found ∙ or_none (text_field s)) ∙ says

-- a truth that is false if it isn't said
pub flag_says : (b : Bool) → may false flag (flag_field b) ≡ Some b
flag_says true = refl
flag_says false = refl

-- ---- how deep it is

pub number_plain : (n : ℕ) (z : ℤ) → IsPlain n (integer z)
number_plain n z = record { shallow = omega arith; dates = refl }

pub flag_plain : (n : ℕ) (b : Bool) → IsPlain n (boolean b)
flag_plain n b = record { shallow = omega arith; dates = refl }

pub text_plain : (n : ℕ) (key s : List ℕ) (fs : List Field) → ArePlain n fs → ArePlain n ((key, text_field s) ∷ fs)
text_plain n key [] fs h = h
text_plain n key (c ∷ cs) fs h = (record { shallow = omega arith; dates = refl }, h)

pub flag_field_plain : (n : ℕ) (key : List ℕ) (b : Bool) (fs : List Field) → ArePlain n fs → ArePlain n ((key, flag_field b) ∷ fs)
flag_field_plain n key true fs rest = (flag_plain n true, rest)
flag_field_plain n key false fs rest = rest

pub uid_field_plain : (n : ℕ) (key : List ℕ) (o : Option Uid) (fs : List Field) → ArePlain n fs → ArePlain n ((key, uid_field o) ∷ fs)
uid_field_plain n key None fs rest = rest
uid_field_plain n key (Some uid) fs rest = (record { shallow = omega arith; dates = refl }, rest)

pub option_plain : (n : ℕ) (key : List ℕ) (o : Option Data) (fs : List Field) → ((d : Data) → o ≡ Some d → IsPlain n d) → ArePlain n fs → ArePlain n ((key, o) ∷ fs)
option_plain n key None fs is rest = rest
option_plain n key (Some d) fs is rest = (is d refl, rest)
