-- The things of which a fixture lets choose one, as a curve or a lock state: how many there are, and what they are called. E1.37-1: CURVE,
-- OUTPUT_RESPONSE_TIME, MODULATION_FREQUENCY, LOCK_STATE and their descriptions, whose PIDs are the next ones.
use Rattle.std.specs.Prelude.{ℕ, ◌+◌, ◌-◌, min, ◌==◌, if◌then◌else◌, List, drop, slice_index}
use Rattle.rdm_profile.specs.declared.profile.choices.ChoiceName.{ChoiceName}
use Rattle.rdm_describe.specs.declared.answers.Answer.{Answer}
use Rattle.rdm_describe.specs.Answers.{data_of, long_at}
use Rattle.rdm_describe.specs.Texts.{text_of}

-- ---- how many: the second slot of the reply

abbrev pub things_told : List Answer → ℕ → ℕ
things_told answers pid = slice_index (data_of answers 0 pid 0) 1

-- of which a file has 64 in all, those of the lower PIDs first
abbrev pub curve_count : List Answer → ℕ
curve_count answers = min 64 (things_told answers 0x0343)

abbrev pub time_count : List Answer → ℕ
time_count answers = min (64 - curve_count answers) (things_told answers 0x0345)

abbrev pub frequency_count : List Answer → ℕ
frequency_count answers = min (64 - (curve_count answers + time_count answers)) (things_told answers 0x0347)

abbrev pub state_count : List Answer → ℕ
state_count answers = min (64 - (curve_count answers + (time_count answers + frequency_count answers))) (things_told answers 0x0641)

abbrev pub choice_count : List Answer → ℕ → ℕ
choice_count answers pid =
    if pid == 0x0343 then curve_count answers else if pid == 0x0345 then time_count answers
    else if pid == 0x0347 then frequency_count answers else if pid == 0x0641 then state_count answers else 0

-- ---- what they are called: the number 1, for a frequency the hertz 4, and the text

-- the thing with this number, as the description with this PID tells of it
abbrev pub name_of : List Answer → ℕ → ℕ → ChoiceName
name_of answers pid number = let slots = data_of answers 0 pid number in record {
  pid = pid;
  number = number;
  hertz = if pid == 0x0348 then long_at slots 1 else 0;
  name = text_of (drop (if pid == 0x0348 then 5 else 1) slots);
}
