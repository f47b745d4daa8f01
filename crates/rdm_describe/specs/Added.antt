-- The parameters of E1.20 and E1.37-1 beside those of the table that a fixture has, as far as a file can say them.
use Rattle.std.specs.Prelude.{ℕ, ◌+◌, Bool, not, ◌==◌, ◌&&◌, ◌||◌, if◌then◌else◌, List, [], ◌∷◌, ◌++◌, slice_index}
use Rattle.std.specs.List.{flat_map, list_all}
use Rattle.rdm_profile.specs.declared.profile.choices.ChoiceName.{ChoiceName}
use Rattle.rdm_profile.specs.declared.profile.own.ParameterDef.{ParameterDef}
use Rattle.rdm_profile.specs.OwnParameters.{has_good_fields}
use Rattle.rdm_profile.specs.Standards.{follows}
use Rattle.rdm_describe.specs.declared.answers.Answer.{Answer}
use Rattle.rdm_describe.specs.Answers.{each, has}
use Rattle.rdm_describe.specs.Choices.{choice_count, name_of}
use Rattle.rdm_describe.specs.Drafts.{draft_of, shown}
use Rattle.rdm_describe.specs.Own.{is_sayable, own_of}

-- those that a file can have, in the order of their PIDs
abbrev pub added_pids : List ℕ
added_pids =
    0x0015 ∷ 0x0070 ∷ 0x0140 ∷ 0x0141 ∷ 0x0142 ∷ 0x0340 ∷ 0x0341 ∷ 0x0342 ∷ 0x0343 ∷ 0x0344 ∷ 0x0345 ∷ 0x0346 ∷ 0x0347 ∷ 0x0348
    ∷ 0x0440 ∷ 0x0603 ∷ 0x0640 ∷ 0x0641 ∷ 0x0642 ∷ 0x1001 ∷ 0x1030 ∷ 0x1040 ∷ 0x1041 ∷ 0x1042 ∷ 0x1043 ∷ 0x1044 ∷ []

-- its limits and what it starts with are such as its standard and a file can have
abbrev pub is_right : ParameterDef → Bool
is_right d = is_sayable d && (has_good_fields d && follows d)

-- the fixture lists it, and told of it what a file needs
unfoldable pub is_told : List Answer → ℕ → Bool
is_told answers pid = has answers 0 pid && is_right (draft_of answers pid)

-- A parameter, and one that a file must have beside it: a choice and what its things are called, LOCK_STATE and LOCK_PIN, and PRESET_STATUS
-- and PRESET_INFO, which says how many scenes there are.
abbrev pub partners : List (ℕ × ℕ)
partners =
    (0x0343, 0x0344) ∷ (0x0344, 0x0343) ∷ (0x0345, 0x0346) ∷ (0x0346, 0x0345) ∷ (0x0347, 0x0348) ∷ (0x0348, 0x0347)
    ∷ (0x0641, 0x0640) ∷ (0x0641, 0x0642) ∷ (0x0642, 0x0640) ∷ (0x0642, 0x0641) ∷ (0x1042, 0x1041) ∷ []

abbrev pub has_partners : List Answer → ℕ → Bool
has_partners answers pid = list_all (λ pair. not (pair.0 == pid) || is_told answers pair.1) partners

-- DIMMER_INFO has as many curves as CURVE, if that is in the file
abbrev pub has_curves : List Answer → Bool
has_curves answers =
    not (is_told answers 0x0343 && is_told answers 0x0344) || (slice_index (shown answers 0x0340) 8 == choice_count answers 0x0343)

-- whether it is in the file
unfoldable pub stands : List Answer → ℕ → Bool
stands answers pid = is_told answers pid && (has_partners answers pid && (not (pid == 0x0340) || has_curves answers))

abbrev pub added_at : List Answer → ℕ → List ParameterDef
added_at answers pid = if stands answers pid then draft_of answers pid ∷ [] else []

abbrev pub added_of : List Answer → List ParameterDef
added_of answers = flat_map (added_at answers) added_pids

-- and behind them those of the maker's own
unfoldable pub parameters_of : List Answer → List ParameterDef
parameters_of answers = added_of answers ++ own_of answers

-- what the things of a choice are called that is in the file
abbrev pub names_of : List Answer → ℕ → List ChoiceName
names_of answers pid = each (λ number. name_of answers (pid + 1) number ∷ []) 1 (if stands answers pid then choice_count answers pid else 0)

unfoldable pub choices_of : List Answer → List ChoiceName
choices_of answers = names_of answers 0x0343 ++ (names_of answers 0x0345 ++ (names_of answers 0x0347 ++ names_of answers 0x0641))
