-- What is written of a fixture that answered: comments, and the text of its file.
use Rattle.std.specs.Prelude.{◌≡◌, ℕ, Bool, ◌==◌, if◌then◌else◌, List, [], ◌∷◌, ◌++◌, map, Option, Some, None, codes, decimal}
use Rattle.std.specs.List.{flat_map}
use Rattle.std.specs.Int.{w16, to_be_bytes}
use Rattle.rdm_frame.specs.Digits.{digits}
use Rattle.rdm_frame.specs.UidText.{uid_text}
use Rattle.rdm_frame.specs.declared.uid.Uid.{Uid}
use Rattle.rdm_table.specs.Table.Names.{parameter_name}
use Rattle.rdm_fixture.specs.declared.fixture.Fixture.{Fixture}
use Rattle.rdm_fixture.specs.Describes.{Describes}
use Rattle.rdm_describe.specs.declared.answers.About.{About}
use Rattle.rdm_describe.specs.declared.answers.About.TheVariants.{Nothing, Byte, Word}
use Rattle.rdm_describe.specs.declared.answers.Answer.{Answer}
use Rattle.rdm_describe.specs.declared.answers.Question.{Question}
use Rattle.rdm_describe.specs.declared.describing.Description.{Description}
use Rattle.rdm_describe.specs.declared.notes.Note.{Note}
use Rattle.rdm_describe.specs.declared.notes.Note.TheVariants.{Unread, Altered, Cut, Unsayable, OtherScene, Kept, Differs, InPersonality}
use Rattle.rdm_describe.specs.Answers.{about_of, data_of}
use Rattle.rdm_describe.specs.Drafts.{shown}
use Rattle.rdm_describe.specs.Own.{description}
use Rattle.rdm_describe.specs.Scenes.{scene}
use Rattle.rdm_describe.specs.Parts.{info}
use Rattle.rdm_describe.specs.Texts.{printed}

-- ---- words

-- a number in hexadecimal digits
abbrev pub hex : ℕ → List ℕ
hex n = codes "0x" ++ digits (to_be_bytes w16 n)

abbrev pub name_or : ℕ → Option (List ℕ) → List ℕ
name_or pid (Some name) = name
name_or pid None = hex pid

-- a parameter by the name of the standard, or by its number
abbrev pub name_of : ℕ → List ℕ
name_of pid = name_or pid (parameter_name pid)

abbrev pub sub_words : ℕ → List ℕ
sub_words sub = codes "sub-device " ++ decimal sub ++ codes ": "

-- which sub-device it is; nothing for the root
abbrev pub place_of : ℕ → List ℕ
place_of sub = if sub == 0 then [] else sub_words sub

abbrev pub number_of : About → ℕ → List ℕ
number_of Nothing about = []
number_of Byte about = codes " " ++ decimal about
number_of Word about = codes " " ++ hex about

-- the sub-device, the parameter, and what it is asked about
abbrev pub question_words : Question → List ℕ
question_words q = place_of q.sub ++ name_of q.pid ++ number_of (about_of q.pid) q.about

-- data in hexadecimal digits
abbrev pub told : List ℕ → List ℕ
told [] = codes "nothing"
told (slot ∷ slots) = digits (slot ∷ slots)

-- a text that has other characters than a file can have
abbrev pub altered_words : List Answer → Question → List ℕ
altered_words answers q =
    question_words q ++ codes " isn't a text of at most 32 printable characters, and is another one here; it told " ++ told (data_of answers q.sub q.pid q.about)

-- a list that is longer than a file's
abbrev pub cut_words : ℕ → ℕ → ℕ → List ℕ
cut_words pid count kept = name_of pid ++ codes ": the fixture has " ++ decimal count ++ codes ", of which the first are here: " ++ decimal kept

-- a parameter that no file can say: its GET told this, and its description that
abbrev pub unsayable_words : List Answer → ℕ → List ℕ
unsayable_words answers pid =
    name_of pid ++ codes " is a parameter of the fixture that isn't here. It told " ++ told (shown answers pid)
    ++ codes ", and PARAMETER_DESCRIPTION " ++ told (description answers pid)

-- a scene with times, or that is programmed
abbrev pub scene_words : List Answer → ℕ → List ℕ
scene_words answers number =
    name_of 0x1042 ++ codes ": scene " ++ decimal number ++ codes " starts without what it told: " ++ told (scene answers number)

-- a sub-device of another kind
abbrev pub different_words : List Answer → ℕ → List ℕ
different_words answers sub = place_of sub ++ codes "it is another device than sub-device 1, as which it is here, and told " ++ told (info answers sub)

-- a question without an answer
abbrev pub unread_words : Question → List ℕ
unread_words q = question_words q ++ codes " wasn't answered"

-- a personality that isn't the first
abbrev pub personality_words : ℕ → List ℕ
personality_words number = codes "the fixture has personality " ++ decimal number ++ codes " now, and starts with 1 here"

abbrev pub note_words : List Answer → Note → List ℕ
note_words answers (Unread q) = unread_words q
note_words answers (Altered q) = altered_words answers q
note_words answers (Cut pid count kept) = cut_words pid count kept
note_words answers (Unsayable pid) = unsayable_words answers pid
note_words answers (OtherScene number) = scene_words answers number
note_words answers (Kept pid) = name_of pid ++ codes " isn't a parameter of the fixture, but is one here"
note_words answers (Differs sub) = different_words answers sub
note_words answers (InPersonality number) = personality_words number

-- ---- comments

-- A line of TOML that says nothing: a number sign, a space, printable characters, and the end of the line. Another character is a
-- question mark, so that nothing that a fixture told ends the comment.
abbrev pub comment : List ℕ → List ℕ
comment words = codes "# " ++ (map printed words ++ codes "\n")

abbrev pub heading_words : Uid → List ℕ
heading_words uid = codes "What " ++ uid_text uid ++ codes " answered on a line. No answer tells these, which can be written here by hand:"

-- what no answer tells
abbrev pub untold_words : List ℕ
untold_words = codes "how jobs end (outcome), who has them (workers), how long SETs take (estimates), what lock states lock (lock), what"

abbrev pub unasked_words : List ℕ
unasked_words =
    codes "FACTORY_DEFAULTS resets, how many presets there are without PRESET_INFO, self tests above 32, status IDs above 0x801F,"

abbrev pub unmuted_words : List ℕ
unmuted_words =
    codes "what DISC_MUTE tells (binding_uid, boot_loader, proxied_device), whether newer messages replace older ones (newest_only)."

abbrev pub heading : Uid → List ℕ
heading uid = comment (heading_words uid) ++ comment untold_words ++ comment unasked_words ++ comment unmuted_words

-- the notes, a comment each
abbrev pub comments : Uid → List Answer → List Note → List ℕ
comments uid answers notes = heading uid ++ flat_map (λ note. comment (note_words answers note)) notes

-- ---- the whole

-- The text is the comments and then what describes the fixture; and so the whole describes it, too.
pub record IsFileOf (uid : Uid) (answers : List Answer) (notes : List Note) (f : Fixture) (text : List ℕ) : Type 0 where
  pub file : List ℕ
  pub whole : text ≡ comments uid answers notes ++ file
  pub describes : Describes text f
