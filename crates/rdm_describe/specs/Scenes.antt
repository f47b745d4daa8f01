-- The scenes of a fixture: how many there are, the limits of their times, and which can only be read. E1.37-1, PRESET_INFO and
-- PRESET_STATUS.
use Rattle.std.specs.Prelude.{ℕ, zero, suc, ◌+◌, min, Bool, true, not, ◌==◌, ◌&&◌, nat_le, if◌then◌else◌, List, length, slice_index}
use Rattle.rdm_profile.specs.declared.profile.fields.Field.{Field}
use Rattle.rdm_profile.specs.declared.profile.fields.Width.{Width}
use Rattle.rdm_profile.specs.declared.profile.fields.Width.TheVariants.{One, Two}
use Rattle.rdm_describe.specs.declared.answers.Answer.{Answer}
use Rattle.rdm_describe.specs.Answers.{data_of, word_at, long_at}

-- ---- numbers of slots

-- a number from the least to the greatest, and one that it can be beside these
abbrev pub field : Width → ℕ → ℕ → ℕ → Field
field width low high also = record { width = width; low = low; high = high; also = also }

-- a number from the least to the greatest
abbrev pub from_to : Width → ℕ → ℕ → Field
from_to width low high = field width low high low

-- ---- PRESET_INFO: six of one slot, of which the last three say whether a time can be without end; the greatest scene number 2; and for
-- ---- fades, waits, and the delay and hold time of DMX_FAIL_MODE and of DMX_STARTUP_MODE, the least time 2 and the greatest 2

abbrev pub preset_info : List Answer → List ℕ
preset_info answers = data_of answers 0 0x1041 0

abbrev pub knows_scenes : List Answer → Bool
knows_scenes answers = length (preset_info answers) == 32

-- how many scenes there are: none, where that isn't told
abbrev pub scenes_told : List Answer → ℕ
scenes_told answers = if knows_scenes answers then word_at (preset_info answers) 6 else 0

-- a file has at most 255 that can be captured, and at most 65534 that can be played
abbrev pub scene_count : List Answer → ℕ
scene_count answers = min 255 (scenes_told answers)

abbrev pub preset_count : List Answer → ℕ
preset_count answers = min 65534 (scenes_told answers)

-- a scene number from this one on; where it isn't told how many there are, any
abbrev pub scene_field : List Answer → ℕ → Field
scene_field answers least = from_to Two least (if knows_scenes answers then scenes_told answers else 0xFFFF)

-- whether PRESET_INFO says so at a place
abbrev pub says_so : List Answer → ℕ → Bool
says_so answers place = not (slice_index (preset_info answers) place == 0)

-- a time between the limits at a place, or without end, if it can be; where no limits are told, any
abbrev pub time_field : List Answer → ℕ → Bool → Field
time_field answers place can_be_endless =
    if knows_scenes answers
    then field Two (word_at (preset_info answers) place) (word_at (preset_info answers) (place + 2))
    (if can_be_endless then 0xFFFF else word_at (preset_info answers) place)
    else from_to Two 0 0xFFFF

-- ---- PRESET_STATUS: the scene 2, its times 2, 2 and 2, and 0 if it isn't programmed, 1 if it is, 2 if it is and can only be read

abbrev pub scene : List Answer → ℕ → List ℕ
scene answers number = data_of answers 0 0x1042 number

abbrev pub is_fixed : List Answer → ℕ → Bool
is_fixed answers number = slice_index (scene answers number) 8 == 2

-- how many of the first n scenes, from the first on, can only be read
unfoldable pub fixed_of : List Answer → ℕ → ℕ
fixed_of answers zero = 0
fixed_of answers (suc n) = if (fixed_of answers n == n) && is_fixed answers (suc n) then suc n else fixed_of answers n

abbrev pub fixed_count : List Answer → ℕ
fixed_count answers = fixed_of answers (scene_count answers)

-- Whether a scene is as each starts in a file whose first ones can only be read, so many: its times are 0, and no other is programmed.
abbrev pub is_blank : List Answer → ℕ → ℕ → Bool
is_blank answers fixed number =
    (long_at (scene answers number) 2 == 0) && ((word_at (scene answers number) 6 == 0)
    && (slice_index (scene answers number) 8 == (if nat_le number fixed then 2 else 0)))
