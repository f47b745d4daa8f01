-- Reading what was kept of a survey.
use Rattle.std.specs.Prelude.{ℕ, ◌+◌, ◌^◌, ◌==◌, ◌&&◌, not, Bool, true, false, List, [], ◌∷◌, ◌++◌, codes, Option, Some, None, is_some, option_and_then, Result, Ok, Err, if◌then◌else◌}
use Rattle.std.specs.Int.{w16, w32}
use Rattle.json.specs.Json.{Json, Items, no_items, item, document}
use Rattle.json.specs.Find.{get, as_array, as_str}
use Rattle.rdm_frame.specs.declared.uid.Uid.{Uid}
use Rattle.rdm_frame.specs.DigitReading.{uid_in}
use Rattle.rdm_survey.specs.declared.row.SubDevice.{SubDevice}
use Rattle.rdm_compare.specs.declared.field.Field.{Field}
use Rattle.rdm_compare.specs.declared.field.Field.TheVariants as field
use Rattle.rdm_compare.specs.declared.kept.Kept.{Kept}
use Rattle.rdm_compare.specs.declared.read_error.ReadError.{ReadError}
use Rattle.rdm_compare.specs.declared.read_error.ReadError.TheVariants as error
use Rattle.rdm_compare.specs.declared.fixture_reading.Names.{Names}
use Rattle.rdm_compare.specs.declared.fixture_reading.Make.{Make}
use Rattle.rdm_compare.specs.declared.fixture_reading.Personality.{Personality}
use Rattle.rdm_compare.specs.declared.fixture_reading.Slots.{Slots}
use Rattle.rdm_compare.specs.Differences.{fixture_of, sub_of}
use Rattle.rdm_compare.specs.Saving.{key_of}
use Rattle.rdm_compare.specs.Texts.{json_id, json_number, json_text}

infixl 10 ◌>>=◌
abbrev pub ◌>>=◌ : {A B : Type 0} → Result A ReadError → (A → Result B ReadError) → Result B ReadError
Ok x >>= f = f x
Err e >>= f = Err e

abbrev pub is_format : Option ℕ → Bool
is_format None = false
is_format (Some n) = n == 1

-- what was read, or that the value is wrong
abbrev pub right : {A : Type 0} → ℕ → Field → Option A → Result (Option A) ReadError
right n f None = Err (error.WrongValue n f)
right n f (Some x) = Ok (Some x)

abbrev pub right_if_told : {A : Type 0} → (Json → Option A) → ℕ → Field → Option Json → Result (Option A) ReadError
right_if_told read n f None = Ok None
right_if_told read n f (Some v) = right n f (read v)

-- What the fixture with number n tells in a field: nothing if there is no such member.
unfoldable pub told_by : {A : Type 0} → (Json → Option A) → ℕ → Field → Json → Result (Option A) ReadError
told_by read n f j = right_if_told read n f (get (key_of f) j)

abbrev pub text_by : ℕ → Field → Json → Result (Option (List ℕ)) ReadError
text_by n f j = told_by json_text n f j

abbrev pub number_by : ℕ → ℕ → Field → Json → Result (Option ℕ) ReadError
number_by bound n f j = told_by (json_number bound) n f j

-- its UID
abbrev pub uid_or : ℕ → Option Uid → Result Uid ReadError
uid_or n None = Err (error.NoUid n)
uid_or n (Some uid) = Ok uid

unfoldable pub uid_by : ℕ → Json → Result Uid ReadError
uid_by n j = uid_or n (option_and_then uid_in (option_and_then as_str (get (codes "uid") j)))

-- a sub-device: its number and its footprint have to be there
abbrev pub needed : List ℕ → Json → Option ℕ
needed name j = option_and_then (json_number 65536) (get name j)

abbrev pub number_if_told : Option Json → Option (Option ℕ)
number_if_told None = Some None
number_if_told (Some v) = option_and_then (λ n. Some (Some n)) (json_number 65536 v)

abbrev pub sub_of_three : Option ℕ → Option (Option ℕ) → Option ℕ → Option SubDevice
sub_of_three (Some number) (Some address) (Some footprint) = Some (record { number = number; address = address; footprint = footprint })
sub_of_three None address footprint = None
sub_of_three (Some number) None footprint = None
sub_of_three (Some number) (Some address) None = None

unfoldable pub sub_in : Json → Option SubDevice
sub_in j = sub_of_three (needed (codes "number") j) (number_if_told (get (codes "address") j)) (needed (codes "footprint") j)

-- sub-devices one behind the other
abbrev pub subs_in : Items → Option (List SubDevice)
subs_in no_items = Some []
subs_in (item j js) = option_and_then (λ (s : SubDevice). option_and_then (λ (more : List SubDevice). Some (s ∷ more)) (subs_in js)) (sub_in j)

-- no number stands twice
abbrev pub subs_are_once : List SubDevice → Bool
subs_are_once [] = true
subs_are_once (s ∷ more) = not (is_some (sub_of s.number more)) && subs_are_once more

abbrev pub once : List SubDevice → Option (List SubDevice)
once list = if subs_are_once list then Some list else None

abbrev pub right_subs : ℕ → Option (List SubDevice) → Result (List SubDevice) ReadError
right_subs n None = Err (error.WrongSubDevices n)
right_subs n (Some list) = Ok list

abbrev pub subs_if_told : ℕ → Option Json → Result (List SubDevice) ReadError
subs_if_told n None = Ok []
subs_if_told n (Some v) = right_subs n (option_and_then once (option_and_then subs_in (as_array v)))

unfoldable pub subs_by : ℕ → Json → Result (List SubDevice) ReadError
subs_by n j = subs_if_told n (get (codes "sub_devices") j)

-- what the members of a fixture tell, a few at a time
unfoldable pub names_by : ℕ → Json → Result Names ReadError
names_by n j = do
  manufacturer ← text_by n field.Manufacturer j
  model ← text_by n field.Model j
  label ← text_by n field.Label j
  Ok (record { manufacturer = manufacturer; model = model; label = label })

unfoldable pub makes_by : ℕ → Json → Result Make ReadError
makes_by n j = do
  software ← text_by n field.Software j
  software_id ← told_by (json_id w32) n field.SoftwareId j
  model_id ← told_by (json_id w16) n field.ModelId j
  Ok (record { software = software; software_id = software_id; model_id = model_id })

unfoldable pub personality_by : ℕ → Json → Result Personality ReadError
personality_by n j = do
  number ← number_by 256 n field.Personality j
  name ← text_by n field.PersonalityName j
  count ← number_by 256 n field.Personalities j
  Ok (record { number = number; name = name; count = count })

unfoldable pub slots_by : ℕ → Json → Result Slots ReadError
slots_by n j = do
  address ← number_by 65536 n field.Address j
  footprint ← number_by 65536 n field.Footprint j
  hours ← number_by (2 ^ 32) n field.Hours j
  Ok (record { address = address; footprint = footprint; hours = hours })

abbrev pub kept_from : Uid → Names → Make → Personality → Slots → List SubDevice → Kept
kept_from uid names make personality slots subs = record {
  uid = uid;
  manufacturer = names.manufacturer;
  model = names.model;
  model_id = make.model_id;
  label = names.label;
  software = make.software;
  software_id = make.software_id;
  personality = personality.number;
  personality_name = personality.name;
  personalities = personality.count;
  address = slots.address;
  footprint = slots.footprint;
  hours = slots.hours;
  sub_devices = subs;
}

-- The fixture with number n.
unfoldable pub fixture_by : ℕ → Json → Result Kept ReadError
fixture_by n j = do
  uid ← uid_by n j
  names ← names_by n j
  make ← makes_by n j
  personality ← personality_by n j
  slots ← slots_by n j
  subs ← subs_by n j
  Ok (kept_from uid names make personality slots subs)

-- fixtures one behind the other, of which the first has number n
abbrev pub list_in : ℕ → Items → Result (List Kept) ReadError
list_in n no_items = Ok []
list_in n (item j js) = do
  kept ← fixture_by n j
  more ← list_in (n + 1) js
  Ok (kept ∷ more)

-- fixtures that were read, and those behind them
abbrev pub behind : List Kept → Result (List Kept) ReadError → Result (List Kept) ReadError
behind list (Ok more) = Ok (list ++ more)
behind list (Err e) = Err e

-- No UID stands twice: else the first that does.
abbrev pub are_once : List Kept → Result (Unit {0}) ReadError
are_once [] = Ok tt
are_once (k ∷ more) = if is_some (fixture_of k.uid more) then Err (error.Twice k.uid) else are_once more

abbrev pub or_no_fixtures : Option Items → Result Items ReadError
or_no_fixtures None = Err error.NoFixtures
or_no_fixtures (Some items) = Ok items

unfoldable pub has_format : Json → Bool
has_format j = is_format (option_and_then (json_number 65536) (get (codes "format") j))

-- The survey of a document.
unfoldable pub survey_in : Json → Result (List Kept) ReadError
survey_in j = if has_format j then (do
  items ← or_no_fixtures (option_and_then as_array (get (codes "fixtures") j))
  list ← list_in 1 items
  once ← are_once list
  Ok list) else Err error.OtherFormat

abbrev pub survey_or : Option Json → Result (List Kept) ReadError
survey_or None = Err error.NotJson
survey_or (Some j) = survey_in j

-- The survey of a text of JSON.
abbrev pub saved_in : List ℕ → Result (List Kept) ReadError
saved_in text = survey_or (document text)
