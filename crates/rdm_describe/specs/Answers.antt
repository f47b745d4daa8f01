-- What a fixture answered, and what stands in the data of an answer. E1.20 sections 6.2.10 and 10.4.1.
use Rattle.std.specs.Prelude.{ℕ, zero, suc, ◌+◌, ◌*◌, ◌/◌, min, ℤ, Bool, true, false, ◌==◌, ◌&&◌, ◌||◌, List, [], ◌∷◌, ◌++◌, length, slice_index, find, Option, Some, None, is_some, if◌then◌else◌}
use Rattle.std.specs.Int.{w8, w16, w32, from_be_bytes, to_be_bytes, cast_signed}
use Rattle.rdm_describe.specs.declared.answers.About.{About}
use Rattle.rdm_describe.specs.declared.answers.About.TheVariants.{Nothing, Byte, Word}
use Rattle.rdm_describe.specs.declared.answers.Answer.{Answer}
use Rattle.rdm_describe.specs.declared.answers.Question.{Question}

-- ---- numbers, one after another

-- what this gives for each number from the first on, so many, one behind the other
unfoldable pub each : {A : Type 0} → (ℕ → List A) → ℕ → ℕ → List A
each f first zero = []
each f first (suc n) = each f first n ++ f (first + n)

-- ---- an answer

-- a GET of a parameter of the root (0) or of a sub-device, about a number such as that of a sensor; 0, where there is none to tell
abbrev pub asked : ℕ → ℕ → ℕ → Question
asked sub pid about = record { sub = sub; pid = pid; about = about }

abbrev pub is_answer_to : ℕ → ℕ → ℕ → Answer → Bool
is_answer_to sub pid about a = (a.question.sub == sub) && ((a.question.pid == pid) && (a.question.about == about))

-- the first answer to a question
abbrev pub answer_to : List Answer → ℕ → ℕ → ℕ → Option Answer
answer_to answers sub pid about = find (is_answer_to sub pid about) answers

abbrev pub is_answered : List Answer → ℕ → ℕ → ℕ → Bool
is_answered answers sub pid about = is_some (answer_to answers sub pid about)

abbrev pub data_in : Option Answer → List ℕ
data_in None = []
data_in (Some a) = a.data.items

-- its data; no data, if the fixture didn't answer
abbrev pub data_of : List Answer → ℕ → ℕ → ℕ → List ℕ
data_of answers sub pid about = data_in (answer_to answers sub pid about)

abbrev pub estimate_in : Option Answer → Option ℕ
estimate_in None = None
estimate_in (Some a) = a.estimate

-- how long the fixture said that it takes, in tenths of a second, if it didn't answer at once. ACK_TIMER, section 6.3.3.
abbrev pub estimate_of : List Answer → ℕ → ℕ → ℕ → Option ℕ
estimate_of answers sub pid about = estimate_in (answer_to answers sub pid about)

-- ---- numbers in the data, the most significant byte first; a slot that isn't there counts as 0

abbrev pub word_at : List ℕ → ℕ → ℕ
word_at slots i = from_be_bytes w16 (slice_index slots i ∷ slice_index slots (i + 1) ∷ [])

abbrev pub long_at : List ℕ → ℕ → ℕ
long_at slots i = from_be_bytes w32 (slice_index slots i ∷ slice_index slots (i + 1) ∷ slice_index slots (i + 2) ∷ slice_index slots (i + 3) ∷ [])

abbrev pub signed_byte_at : List ℕ → ℕ → ℤ
signed_byte_at slots i = cast_signed w8 (slice_index slots i)

abbrev pub signed_word_at : List ℕ → ℕ → ℤ
signed_word_at slots i = cast_signed w16 (word_at slots i)

abbrev pub signed_long_at : List ℕ → ℕ → ℤ
signed_long_at slots i = cast_signed w32 (long_at slots i)

-- ---- which parameters there are

-- how many numbers of two slots the data have, of which the first 1000 are read
abbrev pub word_count : List ℕ → ℕ
word_count slots = min 1000 (length slots / 2)

-- whether a number is one of the first n
unfoldable pub is_among : List ℕ → ℕ → ℕ → Bool
is_among slots word zero = false
is_among slots word (suc n) = is_among slots word n || (word_at slots (2 * n) == word)

-- whether a list of numbers of two slots has one
abbrev pub lists : List ℕ → ℕ → Bool
lists slots word = is_among slots word (word_count slots)

-- what the root, or a sub-device, answers to SUPPORTED_PARAMETERS. Section 10.4.1.
abbrev pub supported : List Answer → ℕ → List ℕ
supported answers sub = data_of answers sub 0x0050 0

-- whether it has a parameter
abbrev pub has : List Answer → ℕ → ℕ → Bool
has answers sub pid = lists (supported answers sub) pid

-- ---- how a question is sent

-- by which data a parameter is told what it is asked about: one slot, two, or none
abbrev pub about_of : ℕ → About
about_of pid =
    if (pid == 0x00E1) || ((pid == 0x0200) || ((pid == 0x0201) || ((pid == 0x0344) || ((pid == 0x0346) || ((pid == 0x0348) || ((pid == 0x0642) || (pid == 0x1021))))))) then Byte
    else if (pid == 0x0031) || ((pid == 0x0051) || ((pid == 0x0121) || (pid == 0x1042))) then Word
    else Nothing

abbrev pub number_data : About → ℕ → List ℕ
number_data Nothing about = []
number_data Byte about = slice_index (to_be_bytes w16 about) 1 ∷ []
number_data Word about = to_be_bytes w16 about

-- the data of its GET
abbrev pub load_of : Question → List ℕ
load_of q = number_data (about_of q.pid) q.about
