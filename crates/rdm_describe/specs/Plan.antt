-- What a fixture is asked, in three rounds: a question of a round follows from what was answered in the rounds before. E1.20 section 10.
use Rattle.std.specs.Prelude.{ℕ, ◌+◌, ◌-◌, min, max, Bool, ◌==◌, ◌&&◌, ◌||◌, nat_le, if◌then◌else◌, List, [], ◌∷◌, ◌++◌, slice_index}
use Rattle.std.specs.List.{flat_map}
use Rattle.rdm_describe.specs.declared.answers.Answer.{Answer}
use Rattle.rdm_describe.specs.declared.answers.Question.{Question}
use Rattle.rdm_describe.specs.declared.plan.Round.{Round}
use Rattle.rdm_describe.specs.declared.plan.Round.TheVariants.{First, Second, Third}
use Rattle.rdm_describe.specs.Answers.{asked, each, has}
use Rattle.rdm_describe.specs.Choices.{choice_count}
use Rattle.rdm_describe.specs.Own.{description}
use Rattle.rdm_describe.specs.Parts.{personality_count, sensor_count, slot_count, sub_count, info}
use Rattle.rdm_describe.specs.Scenes.{scene_count}

-- the root or a sub-device is asked for a parameter, if it lists it
abbrev pub if_listed : List Answer → ℕ → ℕ → List Question
if_listed answers sub pid = if has answers sub pid then asked sub pid 0 ∷ [] else []

-- the same for each of some parameters
abbrev pub all_listed : List Answer → ℕ → List ℕ → List Question
all_listed answers sub pids = flat_map (if_listed answers sub) pids

-- it is asked for a parameter about each number from the first on, so many
abbrev pub about_each : ℕ → ℕ → ℕ → ℕ → List Question
about_each sub pid first count = each (λ number. asked sub pid number ∷ []) first count

-- the same, if it lists the parameter
abbrev pub about_each_if : List Answer → ℕ → ℕ → ℕ → ℕ → List Question
about_each_if answers sub pid first count = about_each sub pid first (if has answers sub pid then count else 0)

-- ---- the first round: SUPPORTED_PARAMETERS, DEVICE_INFO and SOFTWARE_VERSION_LABEL, which each fixture has

abbrev pub first_questions : List Question
first_questions = asked 0 0x0050 0 ∷ asked 0 0x0060 0 ∷ asked 0 0x00C0 0 ∷ []

-- ---- the second round: by what the root lists, and by the numbers of DEVICE_INFO

-- what is read of the root without more, if it lists it: texts, languages, the boot software, slots and counters, and the parameters of
-- E1.20 and E1.37-1 beside those of the table
abbrev pub readable_pids : List ℕ
readable_pids =
    0x0080 ∷ 0x0081 ∷ 0x0082 ∷ 0x00A0 ∷ 0x00C1 ∷ 0x00C2 ∷ 0x0120 ∷ 0x0122 ∷ 0x0400 ∷ 0x0401 ∷ 0x0402 ∷ 0x0405
    ∷ 0x0015 ∷ 0x0070 ∷ 0x0141 ∷ 0x0142 ∷ 0x0340 ∷ 0x0341 ∷ 0x0342 ∷ 0x0343 ∷ 0x0345 ∷ 0x0347 ∷ 0x0440 ∷ 0x0603 ∷ 0x0640 ∷ 0x0641
    ∷ 0x1040 ∷ 0x1041 ∷ 0x1043 ∷ 0x1044 ∷ []

-- what a parameter of its maker's own is
abbrev pub if_makers : List Answer → ℕ → List Question
if_makers answers pid = if has answers 0 pid then asked 0 0x0051 pid ∷ [] else []

-- what a sub-device is, and which parameters the first one has
abbrev pub about_subs : List Answer → List Question
about_subs answers = each (λ sub. asked sub 0x0060 0 ∷ []) 1 (sub_count answers) ++ about_each 1 0x0050 0 (min 1 (sub_count answers))

-- what is told without more, personalities and sensors
abbrev pub about_root : List Answer → List Question
about_root answers =
    all_listed answers 0 readable_pids
    ++ (about_each_if answers 0 0x00E1 1 (personality_count answers 0)
    ++ (about_each_if answers 0 0x0200 0 (sensor_count answers)
    ++ about_each_if answers 0 0x0201 0 (sensor_count answers)))

-- self tests, status IDs, parameters of the maker's own, and sub-devices
abbrev pub about_more : List Answer → List Question
about_more answers =
    about_each_if answers 0 0x1021 1 32
    ++ (about_each_if answers 0 0x0031 0x8000 32
    ++ (each (if_makers answers) 0x8000 0x7FE0
    ++ about_subs answers))

abbrev pub second_questions : List Answer → List Question
second_questions answers = about_root answers ++ about_more answers

-- ---- the third round: by SLOT_INFO, by what parameters of the maker's own are, by what the first sub-device has, and by how many things
-- ---- there are to choose from, and scenes

-- a parameter of its maker's own can be read. Table A-16.
abbrev pub can_be_read : List Answer → ℕ → Bool
can_be_read answers pid = (slice_index (description answers pid) 4 == 1) || (slice_index (description answers pid) 4 == 3)

abbrev pub if_readable : List Answer → ℕ → List Question
if_readable answers pid = if has answers 0 pid && can_be_read answers pid then asked 0 pid 0 ∷ [] else []

-- what a sub-device calls itself, and its software, which each has
abbrev pub name_pids : List ℕ
name_pids = 0x0080 ∷ 0x0081 ∷ 0x0082 ∷ []

abbrev pub about_first_sub : List Answer → List Question
about_first_sub answers =
    all_listed answers 1 name_pids
    ++ (about_each 1 0x00C0 0 (min 1 (sub_count answers))
    ++ about_each_if answers 1 0x00E1 1 (personality_count answers 1))

-- what curves, response times, frequencies and lock states are called, and what each scene is
abbrev pub about_things : List Answer → List Question
about_things answers =
    about_each_if answers 0 0x0344 1 (choice_count answers 0x0343)
    ++ (about_each_if answers 0 0x0346 1 (choice_count answers 0x0345)
    ++ (about_each_if answers 0 0x0348 1 (choice_count answers 0x0347)
    ++ (about_each_if answers 0 0x0642 1 (choice_count answers 0x0641)
    ++ about_each_if answers 0 0x1042 1 (scene_count answers))))

abbrev pub third_questions : List Answer → List Question
third_questions answers =
    about_each_if answers 0 0x0121 0 (slot_count answers)
    ++ (each (if_readable answers) 0x8000 0x7FE0
    ++ (about_first_sub answers
    ++ about_things answers))

-- ---- all

abbrev pub questions_of : List Answer → Round → List Question
questions_of answers First = first_questions
questions_of answers Second = second_questions answers
questions_of answers Third = third_questions answers

abbrev pub all_questions : List Answer → List Question
all_questions answers = first_questions ++ (second_questions answers ++ third_questions answers)
