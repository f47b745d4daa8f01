-- A parameter of E1.20 or E1.37-1 as a file has it: its commands and its data are those of the standard, its limits and what it starts with
-- are as the fixture told.
use Rattle.std.specs.Prelude.{ℕ, ◌+◌, min, Bool, true, false, not, ◌==◌, ◌&&◌, ◌||◌, if◌then◌else◌, List, [], ◌∷◌, length, take, slice_index, unwrap_or, pos}
use Rattle.rdm_profile.specs.declared.profile.fields.Field.{Field}
use Rattle.rdm_profile.specs.declared.profile.fields.Width.TheVariants.{One, Two}
use Rattle.rdm_profile.specs.declared.profile.own.ParameterDef.{ParameterDef}
use Rattle.rdm_profile.specs.declared.profile.own.Rights.{Rights}
use Rattle.rdm_profile.specs.declared.profile.own.Rights.TheVariants as rights
use Rattle.rdm_profile.specs.declared.profile.own.Shape.{Shape}
use Rattle.rdm_profile.specs.declared.profile.own.Shape.TheVariants as shapes
use Rattle.rdm_table.specs.Table.Names.{parameter_name}
use Rattle.rdm_describe.specs.declared.answers.Answer.{Answer}
use Rattle.rdm_describe.specs.Answers.{data_of, is_answered, word_at}
use Rattle.rdm_describe.specs.Choices.{choice_count}
use Rattle.rdm_describe.specs.Own.{is_both}
use Rattle.rdm_describe.specs.Scenes.{field, fixed_count, from_to, preset_info, says_so, scene_count, scene_field, time_field}
use Rattle.rdm_describe.specs.Texts.{text_of}

-- what the fixture answered to its GET
abbrev pub shown : List Answer → ℕ → List ℕ
shown answers pid = data_of answers 0 pid 0

-- ---- its commands and its data

abbrev pub rights_of : ℕ → Rights
rights_of pid =
    if pid == 0x0015 then rights.Clear
    else if (pid == 0x1001) || (pid == 0x1030) then rights.Set
    else if (pid == 0x0070) || ((pid == 0x0340) || ((pid == 0x0344) || ((pid == 0x0346) || ((pid == 0x0348) || ((pid == 0x0642)
    || (pid == 0x1041)))))) then rights.Get
    else rights.Both

-- one number
abbrev pub number_shape : ℕ → Shape
number_shape pid =
    if pid == 0x0342 then shapes.Word
    else if (pid == 0x0343) || ((pid == 0x0345) || (pid == 0x0347)) then shapes.Choice
    else if pid == 0x0640 then shapes.Pin
    else if pid == 0x0641 then shapes.Lock
    else shapes.Byte

-- no data of its own
abbrev pub bare_shape : ℕ → Shape
bare_shape pid =
    if pid == 0x0140 then shapes.Block
    else if pid == 0x0348 then shapes.Rates
    else if pid == 0x1042 then shapes.Scenes
    else shapes.Names

-- how many slots the others have: the standard says so, but for PRODUCT_DETAIL_ID_LIST, which is as long as it was told
abbrev pub size_of : List Answer → ℕ → ℕ
size_of answers pid =
    if pid == 0x0070 then min 255 (length (shown answers pid))
    else if pid == 0x0015 then 6
    else if (pid == 0x0141) || ((pid == 0x0142) || (pid == 0x0603)) then 7
    else if pid == 0x0340 then 11
    else if pid == 0x0341 then 5
    else if pid == 0x1030 then 8
    else if pid == 0x1041 then 32
    else 1

abbrev pub is_number : ℕ → Bool
is_number pid =
    (pid == 0x0342) || ((pid == 0x0343) || ((pid == 0x0345) || ((pid == 0x0347) || ((pid == 0x0440) || ((pid == 0x0640) || ((pid == 0x0641)
    || (pid == 0x1044)))))))

abbrev pub is_bare : ℕ → Bool
is_bare pid = (pid == 0x0140) || ((pid == 0x0344) || ((pid == 0x0346) || ((pid == 0x0348) || ((pid == 0x0642) || (pid == 0x1042)))))

abbrev pub shape_of : List Answer → ℕ → Shape
shape_of answers pid =
    if is_number pid then number_shape pid else if is_bare pid then bare_shape pid else shapes.Slots (size_of answers pid)

-- ---- its limits

-- DIMMER_INFO: the limits of MINIMUM_LEVEL 2 and 2, those of MAXIMUM_LEVEL 2 and 2, the curves 1, the bits 1, and whether levels split 1
abbrev pub knows_levels : List Answer → Bool
knows_levels answers = length (shown answers 0x0340) == 11

-- the limit at a place of it, or this one, where it wasn't told
abbrev pub level_at : List Answer → ℕ → ℕ → ℕ
level_at answers place otherwise = if knows_levels answers then word_at (shown answers 0x0340) place else otherwise

-- a level of MINIMUM_LEVEL
abbrev pub level_field : List Answer → Field
level_field answers = from_to Two (level_at answers 0 0) (level_at answers 2 0xFFFF)

-- REAL_TIME_CLOCK: the year, month, day, hour, minute and second, of which a minute can have 61. E1.20 section 10.10.
abbrev pub clock_fields : List Field
clock_fields =
    from_to Two 2003 0xFFFF ∷ from_to One 1 12 ∷ from_to One 1 31 ∷ from_to One 0 23 ∷ from_to One 0 59 ∷ from_to One 0 60 ∷ []

-- DMX_FAIL_MODE: a scene, a delay, a hold time and a level
abbrev pub fail_fields : List Answer → List Field
fail_fields answers =
    scene_field answers 0 ∷ time_field answers 16 (says_so answers 3) ∷ time_field answers 20 (says_so answers 4) ∷ from_to One 0 0xFF ∷ []

-- DMX_STARTUP_MODE: the same; PRESET_INFO doesn't say whether the delay can be without end, and so it can
abbrev pub startup_fields : List Answer → List Field
startup_fields answers =
    scene_field answers 0 ∷ time_field answers 24 true ∷ time_field answers 28 (says_so answers 5) ∷ from_to One 0 0xFF ∷ []

-- CAPTURE_PRESET: a scene, the times of its fades up and down, and a wait time
abbrev pub capture_fields : List Answer → List Field
capture_fields answers =
    scene_field answers 1 ∷ time_field answers 8 false ∷ time_field answers 8 false ∷ time_field answers 12 false ∷ []

-- codes of one slot, of which one stands beside the others
abbrev pub code : ℕ → ℕ → ℕ → List Field
code low high also = field One low high also ∷ []

-- the numbers in the slots of each; where there are none, any slots are in range
abbrev pub fields_of : List Answer → ℕ → List Field
fields_of answers pid =
    if pid == 0x0015 then from_to Two 0 0xFFFF ∷ from_to Two 0 0xFFFF ∷ from_to Two 0 0xFFFF ∷ []
    else if pid == 0x0141 then fail_fields answers
    else if pid == 0x0142 then startup_fields answers
    else if pid == 0x0341 then level_field answers ∷ level_field answers ∷ from_to One 0 1 ∷ []
    else if pid == 0x0603 then clock_fields
    else if pid == 0x1001 then code 1 1 0xFF
    else if pid == 0x1030 then capture_fields answers
    else if pid == 0x1040 then code 0 0 0xFF
    else if pid == 0x1043 then code 0 3 0xFF
    else []

-- the least value of one number; of PRESET_STATUS, how many scenes can only be read
abbrev pub low_of : List Answer → ℕ → ℕ
low_of answers pid =
    if pid == 0x0342 then level_at answers 4 0
    else if (pid == 0x0343) || ((pid == 0x0345) || (pid == 0x0347)) then 1
    else if pid == 0x1042 then fixed_count answers
    else 0

-- the greatest value of one number; of PRESET_STATUS, how many scenes there are
abbrev pub high_of : List Answer → ℕ → ℕ
high_of answers pid =
    if pid == 0x0342 then level_at answers 6 0xFFFF
    else if (pid == 0x0343) || ((pid == 0x0345) || ((pid == 0x0347) || (pid == 0x0641))) then choice_count answers pid
    else if pid == 0x0440 then 255
    else if pid == 0x0640 then 9999
    else if pid == 0x1042 then scene_count answers
    else if pid == 0x1044 then 1
    else 0

-- ---- what it starts with

-- the first scene, and the least times
abbrev pub first_capture : List ℕ → List ℕ
first_capture info =
    0 ∷ 1 ∷ slice_index info 8 ∷ slice_index info 9 ∷ slice_index info 8 ∷ slice_index info 9
    ∷ slice_index info 12 ∷ slice_index info 13 ∷ []

-- what the fixture told
abbrev pub told_start : List Answer → ℕ → List ℕ
told_start answers pid = take 32 (shown answers pid)

-- the first slot of it
abbrev pub chosen : List Answer → ℕ → List ℕ
chosen answers pid = take 1 (shown answers pid)

-- a PIN that can't be read is 0000
abbrev pub pin : List Answer → List ℕ
pin answers = if is_answered answers 0 0x0640 0 then told_start answers 0x0640 else 0 ∷ 0 ∷ []

-- What the fixture told, of which the first slot is the value of a choice and of a lock state. An order, of which there is nothing to read,
-- starts with its least numbers.
abbrev pub start_of : List Answer → ℕ → List ℕ
start_of answers pid =
    if is_bare pid then []
    else if pid == 0x1001 then 1 ∷ []
    else if pid == 0x1030 then first_capture (preset_info answers)
    else if (pid == 0x0343) || ((pid == 0x0345) || ((pid == 0x0347) || (pid == 0x0641))) then chosen answers pid
    else if pid == 0x0640 then pin answers
    else told_start answers pid

-- ---- all of it

-- FACTORY_DEFAULTS sets back what can be read and set, as far as a file knows, and neither scenes, locks, PINs nor a clock
abbrev pub is_kept : ℕ → Bool
is_kept pid = (pid == 0x0140) || ((pid == 0x0603) || ((pid == 0x0640) || ((pid == 0x0641) || (pid == 0x1042))))

abbrev pub resets_of : ℕ → Bool
resets_of pid = is_both (rights_of pid) && not (is_kept pid)

-- as the standard calls it
abbrev pub called : ℕ → List ℕ
called pid = text_of (unwrap_or (parameter_name pid) [])

unfoldable pub draft_of : List Answer → ℕ → ParameterDef
draft_of answers pid = record {
  pid = pid;
  rights = rights_of pid;
  shape = shape_of answers pid;
  low = pos (low_of answers pid);
  high = pos (high_of answers pid);
  fields = record { items = fields_of answers pid };
  start = start_of answers pid;
  unit = 0;
  prefix = 0;
  name = called pid;
  resets = resets_of pid;
}
