-- What is put into a table that is written, and what TOML can write of it.
use Rattle.std.specs.Prelude.{◌≡◌, ℕ, ◌==◌, ◌≤◌, if◌then◌else◌, pos, Bool, true, false, IsTrue, List, [], ◌∷◌, Option, Some, None, codes}
use Rattle.std.specs.Ordering.{nat_cmp, match_ordering}
use Rattle.std.specs.Cmp.Lexicographic.{slice_cmp}
use Rattle.std.specs.Str.Lossy.{utf8_lossy}
use Rattle.rdm_frame.specs.Digits.{digits}
use Rattle.rdm_frame.specs.Severities.{severity_name}
use Rattle.rdm_frame.specs.UidText.{uid_text}
use Rattle.rdm_frame.specs.declared.uid.Uid.{Uid}
use Rattle.rdm_profile.specs.declared.profile.locks.Lock.{Lock}
use Rattle.rdm_profile.specs.declared.profile.mute_reply.MuteReply.{MuteReply}
use Rattle.rdm_profile.specs.declared.profile.own.Rights.{Rights}
use Rattle.rdm_profile.specs.declared.profile.own.Rights.TheVariants as rights
use Rattle.rdm_profile.specs.declared.profile.own.Shape.{Shape}
use Rattle.rdm_profile.specs.declared.profile.own.Shape.TheVariants as shapes
use Rattle.rdm_commands.specs.declared.jobs.outcome.Outcome.{Outcome}
use Rattle.rdm_commands.specs.declared.jobs.outcome.Outcome.TheVariants.{Done, Reading, Failed}
use Rattle.rdm_profile.specs.Profiles.{IsGoodUnit}
use Rattle.rdm_fixture.specs.declared.fixture.Fixture.{Fixture}
use Rattle.rdm_fixture.specs.declared.profile.locks.Locking.{Locking}
use Rattle.rdm_fixture.specs.Describable.{HasPrintableUnit}
use Rattle.rdm_fixture.specs.Format.{IsUnit, root_keys}
use Rattle.rdm_fixture_keys.specs.Keys.{has_only}
use Rattle.rdm_fixture.specs.Starting.{IsCounted}
use Rattle.rdm_fixture_keys.specs.Values.{number, signed}
use Rattle.rdm_standard_names.specs.Names.{name_numbered}
use Rattle.rdm_standard_names.specs.declared.kind.NameKind.{NameKind}
use Rattle.rdm_standard_names.specs.declared.kind.NameKind.TheVariants.{Labels}
use Rattle.toml.specs.Data.{Data, string, integer, boolean, depth, has_valid_dates, Members, no_members, member}

-- the members with this one besides, in the order of the keys; if the key was there, it has the new value
abbrev pub with_member : List ℕ → Data → Members → Members
with_member k d no_members = member k d no_members
with_member k d (member l e ms) =
    match_ordering (slice_cmp nat_cmp k l) (member k d (member l e ms)) (member l d ms) (member l e (with_member k d ms))

-- the same, if there is a value
abbrev pub with_field : List ℕ → Option Data → Members → Members
with_field k None ms = ms
with_field k (Some d) ms = with_member k d ms

-- what is written of a text: nothing if it is empty. Printable characters are written as they are.
abbrev pub text_field : List ℕ → Option Data
text_field [] = None
text_field (c ∷ cs) = Some (string (utf8_lossy (c ∷ cs)))

-- what is written of a truth: nothing if it is `false`
abbrev pub flag_field : Bool → Option Data
flag_field true = Some (boolean true)
flag_field false = None

-- what is written of a UID: nothing if there is none
abbrev pub uid_field : Option Uid → Option Data
uid_field None = None
uid_field (Some uid) = Some (string (uid_text uid))

-- what is written of a number that has a name, or that has none
abbrev pub name_or_number : Option (List ℕ) → ℕ → Data
name_or_number (Some name) n = string name
name_or_number None n = integer (pos n)

-- what is written of a number that the standard may have a name for. E1.20, appendices A and C.
abbrev pub named_field : NameKind → ℕ → Data
named_field kind n = name_or_number (name_numbered kind n) n

-- what is written of the label ID of a slot of this type: that of a primary slot may have a name
abbrev pub label_field : ℕ → ℕ → Data
label_field kind n = if kind == 0 then named_field Labels n else integer (pos n)

-- The data nest at most n deep, and every date-time in them can be written.
pub record IsPlain (n : ℕ) (d : Data) : Type 0 where
  pub shallow : depth d ≤ n
  pub dates : has_valid_dates d ≡ true

-- ---- parameters that the profile adds

-- the names of their commands and of the types of their data. Tables A-16 and A-15.
abbrev pub rights_name : Rights → List ℕ
rights_name rights.Get = codes "get"
rights_name rights.Set = codes "set"
rights_name rights.Both = codes "get_set"
rights_name rights.Clear = codes "get_clear"

abbrev pub shape_name : Shape → List ℕ
shape_name shapes.Byte = codes "unsigned_byte"
shape_name shapes.SignedByte = codes "signed_byte"
shape_name shapes.Word = codes "unsigned_word"
shape_name shapes.SignedWord = codes "signed_word"
shape_name shapes.Long = codes "unsigned_dword"
shape_name shapes.SignedLong = codes "signed_dword"
shape_name shapes.Text = codes "ascii"
shape_name (shapes.Bits n) = codes "bit_field"
shape_name (shapes.Slots n) = codes "not_defined"
shape_name shapes.Choice = codes "choice"
shape_name shapes.Names = codes "names"
shape_name shapes.Rates = codes "rates"
shape_name shapes.Scenes = codes "scenes"
shape_name shapes.Lock = codes "lock"
shape_name shapes.Pin = codes "pin"
shape_name shapes.Block = codes "block"

-- what is written of data that are no number: a text as it is, and all else in digits
abbrev pub written_slots : Shape → List ℕ → List ℕ
written_slots shapes.Text slots = utf8_lossy slots
written_slots _ slots = utf8_lossy (digits slots)

-- ---- what lock states keep from being set

-- what is written of a lock: its state, and its parameter alone
abbrev pub locking_of : Lock → Locking
locking_of l = record { state = l.state; pids = record { items = l.pid ∷ [] } }

-- ---- how jobs end

-- the members, and these besides, one after the other
abbrev pub with_fields : List (List ℕ × Option Data) → Members → Members
with_fields [] ms = ms
with_fields (f ∷ fs) ms = with_fields fs (with_field f.0 f.1 ms)

abbrev pub word_field : ℕ → Option Data
word_field n = Some (integer (pos n))

-- what is written of an outcome: that it is done, the reading, or the fields of a status message. Section 10.3.2.
abbrev pub outcome_fields : Outcome → List (List ℕ × Option Data)
outcome_fields Done = (codes "done", Some (boolean true)) ∷ []
outcome_fields (Reading value) = (codes "reading", Some (integer value)) ∷ []
outcome_fields (Failed severity id v1 v2) =
    (codes "severity", Some (string (severity_name severity))) ∷ (codes "status_id", word_field id)
    ∷ (codes "data_value_1", word_field v1) ∷ (codes "data_value_2", word_field v2) ∷ []

-- the numbers of an outcome have 16 bits
abbrev pub HasWords : Outcome → Type 0
HasWords Done = Unit {0}
HasWords (Reading value) = signed (integer value) ≡ Some value
HasWords (Failed severity id v1 v2) =
    (number 0 0xFFFF (integer (pos id)) ≡ Some id) × (number 0 0xFFFF (integer (pos v1)) ≡ Some v1) × (number 0 0xFFFF (integer (pos v2)) ≡ Some v2)

-- ---- what it tells when it is muted

-- the members, and what the answers to DISC_MUTE and DISC_UN_MUTE tell besides. Section 7.6.
abbrev pub with_mute_reply : MuteReply → Members → Members
with_mute_reply m ms =
    with_field (codes "proxied_device") (flag_field m.proxied_device)
    (with_field (codes "boot_loader") (flag_field m.boot_loader) (with_field (codes "binding_uid") (uid_field m.binding) ms))

-- ---- the root

-- The table has what the root says of itself, and what its counters show, and nothing else.
pub record IsRoot (t : Members) (f : Fixture) : Type 0 where
  pub keys : IsTrue (has_only root_keys t)
  pub unit : (slots : ℕ) → IsGoodUnit f.profile.root slots → HasPrintableUnit f.profile.root → IsUnit slots t f.profile.root
  pub counted : IsCounted t f.start
