-- What a file can't say of a fixture, or says otherwise: a note for each.
use Rattle.std.specs.Prelude.{ℕ, ◌+◌, ◌-◌, ◌*◌, ◌/◌, Bool, true, false, not, ◌==◌, ◌&&◌, ◌||◌, nat_lt, nat_le, if◌then◌else◌, List, [], ◌∷◌, ◌++◌, length, drop, slice_index}
use Rattle.std.specs.List.{flat_map, list_any}
use Rattle.rdm_profile.specs.LeftOut.{is_optional, optional_pids}
use Rattle.rdm_profile.specs.declared.profile.own.ParameterDef.{ParameterDef}
use Rattle.rdm_describe.specs.declared.answers.Answer.{Answer}
use Rattle.rdm_describe.specs.declared.answers.Question.{Question}
use Rattle.rdm_describe.specs.declared.notes.Note.{Note}
use Rattle.rdm_describe.specs.declared.notes.Note.TheVariants.{Unread, Altered, Cut, Unsayable, OtherScene, Kept, Differs, InPersonality}
use Rattle.rdm_describe.specs.Answers.{data_of, each, has, is_answered, long_at, supported, word_at, word_count}
use Rattle.rdm_describe.specs.Added.{parameters_of, stands}
use Rattle.rdm_describe.specs.Choices.{choice_count, things_told}
use Rattle.rdm_describe.specs.Parts.{coded_languages, info, is_needed, slot_count, slot_info, statuses_of, sub_count, tests_of}
use Rattle.rdm_describe.specs.Plan.{all_questions}
use Rattle.rdm_describe.specs.Scenes.{fixed_count, is_blank, scene_count, scenes_told}
use Rattle.rdm_describe.specs.Texts.{is_altered}

-- ---- what the fixture didn't answer

-- A self test or a status ID may not be there: that isn't told.
abbrev pub may_be_none : ℕ → Bool
may_be_none pid = (pid == 0x1021) || (pid == 0x0031)

abbrev pub is_unread : List Answer → Question → Bool
is_unread answers q = not (is_answered answers q.sub q.pid q.about) && not (may_be_none q.pid)

abbrev pub if_unread : List Answer → Question → List Note
if_unread answers q = if is_unread answers q then Unread q ∷ [] else []

-- ---- texts that are other ones in the file

-- the text of the data of an answer: it stands behind so many slots, if there is one
abbrev pub text_in : ℕ → List ℕ → List ℕ
text_in pid slots =
    if (pid == 0x0080) || ((pid == 0x0081) || ((pid == 0x0082) || ((pid == 0x00C0) || ((pid == 0x00C2) || (pid == 0x0031))))) then slots
    else if (pid == 0x1021) || ((pid == 0x0344) || ((pid == 0x0346) || (pid == 0x0642))) then drop 1 slots
    else if pid == 0x0121 then drop 2 slots
    else if pid == 0x00E1 then drop 3 slots
    else if pid == 0x0348 then drop 5 slots
    else if pid == 0x0200 then drop 13 slots
    else if pid == 0x0051 then drop 20 slots
    else []

abbrev pub if_altered : Answer → List Note
if_altered a = if is_altered (text_in a.question.pid a.data.items) then Altered a.question ∷ [] else []

-- ---- lists that are longer than a file's

abbrev pub if_cut : ℕ → ℕ → ℕ → List Note
if_cut pid told kept = if nat_lt kept told then Cut pid told kept ∷ [] else []

-- the things of a choice
abbrev pub if_choice_cut : List Answer → ℕ → List Note
if_choice_cut answers pid = if_cut pid (things_told answers pid) (choice_count answers pid)

unfoldable pub cut_things : List Answer → List Note
cut_things answers =
    if_choice_cut answers 0x0343
    ++ (if_choice_cut answers 0x0345
    ++ (if_choice_cut answers 0x0347
    ++ (if_choice_cut answers 0x0641
    ++ if_cut 0x1042 (scenes_told answers) (scene_count answers))))

-- personalities, slots, sensors and self tests
unfoldable pub cut_parts : List Answer → List Note
cut_parts answers =
    if_cut 0x00E0 (slice_index (info answers 0) 13) 8
    ++ (if_cut 0x0120 (length (slot_info answers) / 5) (slot_count answers)
    ++ (if_cut 0x0200 (slice_index (info answers 0) 18) 8
    ++ if_cut 0x1020 (length (tests_of answers)) 8))

-- status texts, languages and parameters
unfoldable pub cut_texts : List Answer → List Note
cut_texts answers =
    if_cut 0x0031 (length (statuses_of answers)) 8
    ++ (if_cut 0x00A0 (length (coded_languages (data_of answers 0 0x00A0 0))) 8
    ++ if_cut 0x0051 (length (parameters_of answers)) 32)

unfoldable pub cut_lists : List Answer → List Note
cut_lists answers = cut_parts answers ++ (cut_texts answers ++ cut_things answers)

-- ---- parameters

-- those that each file has, and those that it can leave out
abbrev pub is_common : ℕ → Bool
is_common pid =
    is_optional pid || ((pid == 0x0020) || ((pid == 0x0050) || ((pid == 0x0051) || ((pid == 0x0060) || ((pid == 0x00C0) || ((pid == 0x00F0) || (pid == 0x1000)))))))

abbrev pub is_one_of : List ParameterDef → ℕ → Bool
is_one_of ds pid = list_any (λ d. d.pid == pid) ds

-- the parameter at a place of SUPPORTED_PARAMETERS, if no file can say it: it isn't one of these
abbrev pub if_unsayable : List ParameterDef → ℕ → List Note
if_unsayable ds pid = if is_common pid || is_one_of ds pid then [] else Unsayable pid ∷ []

abbrev pub unsayable_at : List Answer → List ParameterDef → ℕ → List Note
unsayable_at answers ds place = if_unsayable ds (word_at (supported answers 0) (2 * place))

-- a scene that isn't as a file has it, whose first ones can only be read, so many
abbrev pub if_other_scene : List Answer → ℕ → ℕ → List Note
if_other_scene answers fixed number =
    if is_answered answers 0 0x1042 number && not (is_blank answers fixed number) then OtherScene number ∷ [] else []

-- those of PRESET_STATUS, if it is in the file
abbrev pub other_scenes : List Answer → List Note
other_scenes answers = each (if_other_scene answers (fixed_count answers)) 1 (if stands answers 0x1042 then scene_count answers else 0)

-- a parameter that the fixture doesn't list, and that the file has, since another one needs it
abbrev pub if_kept : List Answer → ℕ → List Note
if_kept answers pid = if not (has answers 0 pid) && is_needed answers pid then Kept pid ∷ [] else []

-- QUEUED_MESSAGE is in each file
abbrev pub if_no_queue : List Answer → List Note
if_no_queue answers = if has answers 0 0x0020 then [] else Kept 0x0020 ∷ []

-- ---- sub-devices, and the personality that the fixture has now

-- two devices are of one model, category and software, and have as many personalities. Section 10.5.1.
abbrev pub is_same_kind : List ℕ → List ℕ → Bool
is_same_kind a b =
    (word_at a 2 == word_at b 2) && ((word_at a 4 == word_at b 4) && ((long_at a 6 == long_at b 6) && (slice_index a 13 == slice_index b 13)))

abbrev pub if_differs : List Answer → ℕ → List Note
if_differs answers sub = if is_same_kind (info answers sub) (info answers 1) then [] else Differs sub ∷ []

abbrev pub if_other_personality : List Answer → List Note
if_other_personality answers = if nat_le 2 (slice_index (info answers 0) 12) then InPersonality (slice_index (info answers 0) 12) ∷ [] else []

-- ---- all

-- on what was told, and a file has otherwise or not at all
unfoldable pub notes_on_answers : List Answer → List Note
notes_on_answers answers =
    flat_map (if_unread answers) (all_questions answers)
    ++ (flat_map if_altered answers
    ++ (cut_lists answers
    ++ (each (unsayable_at answers (parameters_of answers)) 0 (word_count (supported answers 0))
    ++ other_scenes answers)))

-- on what a file has, and the fixture hasn't
unfoldable pub notes_on_file : List Answer → List Note
notes_on_file answers =
    flat_map (if_kept answers) optional_pids
    ++ (if_no_queue answers
    ++ (each (if_differs answers) 2 (sub_count answers - 1)
    ++ if_other_personality answers))

abbrev pub notes_of : List Answer → List Note
notes_of answers = notes_on_answers answers ++ notes_on_file answers
