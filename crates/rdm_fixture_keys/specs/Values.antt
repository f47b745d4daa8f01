-- What one value of a file says: a number, a worker, a truth, a text, a UID or a language, or nothing that a fixture can be made with.
use Rattle.std.specs.Prelude.{ℕ, ◌+◌, ◌*◌, ◌==◌, ℤ, pos, neg_ℤ, Bool, ◌&&◌, if◌then◌else◌, nat_le, int_le, List, [], ◌∷◌, length, Option, Some, None, option_map, option_and_then}
use Rattle.std.specs.List.{list_all}
use Rattle.std.specs.Int.Signed.{le_z}
use Rattle.rdm_profile.specs.declared.profile.workers.Worker.{Worker}
use Rattle.rdm_profile.specs.declared.profile.workers.Worker.TheVariants.{First, Second}
use Rattle.rdm_frame.specs.declared.uid.Uid.{Uid}
use Rattle.rdm_frame.specs.Addressing.{is_broadcast}
use Rattle.rdm_frame.specs.DigitReading.{uid_in}
use Rattle.rdm_standard_names.specs.Names.{greatest_of, number_named}
use Rattle.rdm_standard_names.specs.declared.kind.NameKind.{NameKind}
use Rattle.rdm_standard_names.specs.declared.kind.NameKind.TheVariants.{Labels}
use Rattle.toml.specs.Data.{Data, string, integer, boolean}

-- whether the number is in a range
abbrev pub within : ℕ → ℕ → ℕ → Bool
within least most n = nat_le least n && nat_le n most

-- the number, if it is an integer from least to most
abbrev pub number : ℕ → ℕ → Data → Option ℕ
number least most (integer (pos n)) = if within least most n then Some n else None
number least most _ = None

-- the number of a thing that the standard has a name for: by that name, or as it is. E1.20, appendices A and C.
abbrev pub named : NameKind → Data → Option ℕ
named kind (string s) = number_named kind s
named kind d = number 0 (greatest_of kind) d

-- The label ID of a slot of this type. That of a primary slot says what the slot is for, and has a name; that of a secondary slot is the
-- number of the slot that it refines. E1.20 section 10.6.4, tables C-1 and C-2.
abbrev pub label_id : ℕ → Data → Option ℕ
label_id kind (string s) = if kind == 0 then number_named Labels s else None
label_id kind d = number 0 0xFFFF d

-- the worker of a number
abbrev pub numbered : ℕ → Worker
numbered n = if n == 0 then First else Second

-- the worker, if it is 0 or 1
abbrev pub worker : Data → Option Worker
worker d = option_map numbered (number 0 1 d)

-- the signed number of 16 bits, if it is one
abbrev pub signed : Data → Option ℤ
signed (integer z) = if le_z (neg_ℤ (pos 32768)) z && le_z z (pos 32767) then Some z else None
signed _ = None

-- the number, if it is an integer from low to high
abbrev pub integer_from : ℤ → ℤ → Data → Option ℤ
integer_from low high (integer z) = if int_le low z && int_le z high then Some z else None
integer_from low high _ = None

-- whether it is true or false
abbrev pub flag : Data → Option Bool
flag (boolean b) = Some b
flag _ = None

-- whether the character is a printable one of ASCII: a blank is, and a line feed isn't
abbrev pub is_printable : ℕ → Bool
is_printable = within 0x20 0x7E

-- whether the text can be sent: it has at most 32 characters, all of them printable. E1.20 sections 10.5.3 to 10.5.5.
abbrev pub is_text : List ℕ → Bool
is_text s = nat_le (length s) 32 && list_all is_printable s

-- the text, if it is one that can be sent
abbrev pub text : Data → Option (List ℕ)
text (string s) = if is_text s then Some s else None
text _ = None

-- whether the character is one of `a` to `z`
abbrev pub is_letter : ℕ → Bool
is_letter = within 0x61 0x7A

-- the language of a code of two small letters, as `en`. E1.20 section 10.5.7.
abbrev pub language_in : List ℕ → Option ℕ
language_in (a ∷ b ∷ []) = if is_letter a && is_letter b then Some (256 * a + b) else None
language_in _ = None

abbrev pub language : Data → Option ℕ
language (string s) = language_in s
language _ = None

-- the UID, such as `7FF0:00000001`, if it belongs to one device. E1.20 sections 6.2.4 and 6.2.5.
abbrev pub own_uid : Uid → Option Uid
own_uid u = if is_broadcast u then None else Some u

abbrev pub uid : Data → Option Uid
uid (string s) = option_and_then own_uid (uid_in s)
uid _ = None

-- the same of a key that may be left out; without it there is none
abbrev pub only_uid : Data → Option (Option Uid)
only_uid d = option_map (λ u. Some u) (uid d)
