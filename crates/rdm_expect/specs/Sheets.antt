-- Which lines of a text are expectations, of which request, and which of them is the first that has a flaw.
use Rattle.std.specs.Prelude.{◌≡◌, ℕ, zero, suc, ◌+◌, ◌-◌, ◌<◌, ◌≤◌, Bool, ◌==◌, List, [], ◌∷◌, ◌++◌, length, map, take, drop, slice_get, Option, Some, None, Result, Ok, Err, codes, if◌then◌else◌}
use Rattle.std.specs.Option.{option_and_then, option_map_or}
use Rattle.std.specs.List.{join_with_byte, sum_by}
use Rattle.rdm_trace.specs.Traces.{pieces_of}
use Rattle.rdm_expect.specs.Lines.{words_of, begins, sent_by}
use Rattle.rdm_expect.specs.Wishes.{wish_in}
use Rattle.rdm_expect.specs.declared.wish.Wish.{Wish}
use Rattle.rdm_expect.specs.declared.wish.Flaw.{Flaw}
use Rattle.rdm_expect.specs.declared.wish.Flaw.TheVariants as flaw
use Rattle.rdm_expect.specs.declared.sheet.Expectation.{Expectation}

-- a line whose first word is `expect`
abbrev pub is_expectation : List ℕ → Bool
is_expectation line = begins (words_of line) (codes "EXPECT")

-- ---- the script

-- what the script has in place of a line: an expectation is an empty line there
abbrev pub kept : List ℕ → List ℕ
kept line = if is_expectation line then [] else line

-- The script that a text has: its lines in order, with the expectations left empty.
abbrev pub script_of : List ℕ → List ℕ
script_of text = join_with_byte 10 (map kept (pieces_of text))

-- what stands before the line at an index: an LF, but for the first
abbrev pub separator : ℕ → List ℕ
separator zero = []
separator (suc index) = 10 ∷ []

-- ---- the expectations

-- how many requests a line sends
abbrev pub sends : List ℕ → ℕ
sends line = sent_by (words_of line)

-- how many requests the first lines send
abbrev pub sent_before : List (List ℕ) → ℕ → ℕ
sent_before lines index = sum_by sends (take index lines)

-- what an expectation with these words wants behind so many requests, of which it needs one
abbrev pub wanted_in : ℕ → List (List ℕ) → Result Wish Flaw
wanted_in sent words = if sent == 0 then Err flaw.NoRequest else wish_in (drop 1 words)

abbrev pub wanted_behind : ℕ → List ℕ → Result Wish Flaw
wanted_behind sent line = wanted_in sent (words_of line)

-- The expectation that a line is, behind so many lines and requests: it is about the last of the requests.
abbrev pub expected : ℕ → ℕ → Result Wish Flaw → List Expectation
expected index sent (Ok wish) = record { line = index + 1; request = sent - 1; wish = wish } ∷ []
expected index sent (Err flaw) = []

abbrev pub expected_by : ℕ → ℕ → List ℕ → List Expectation
expected_by index sent line = if is_expectation line then expected index sent (wanted_behind sent line) else []

-- the same of the line at this index
abbrev pub expected_at : List (List ℕ) → ℕ → List Expectation
expected_at lines index = option_map_or (expected_by index (sent_before lines index)) (slice_get lines index) []

-- the expectations of the first lines, in order
abbrev pub expected_within : List (List ℕ) → ℕ → List Expectation
expected_within lines zero = []
expected_within lines (suc count) = expected_within lines count ++ expected_at lines count

-- The expectations of these lines, in order.
abbrev pub expectations_of : List (List ℕ) → List Expectation
expectations_of lines = expected_within lines (length lines)

-- ---- flaws

abbrev pub flaw_of : Result Wish Flaw → Option Flaw
flaw_of (Ok wish) = None
flaw_of (Err flaw) = Some flaw

-- the flaw of a line behind so many requests, if it is an expectation and has one
abbrev pub flaw_behind : ℕ → List ℕ → Option Flaw
flaw_behind sent line = if is_expectation line then flaw_of (wanted_behind sent line) else None

-- the flaw of the line at this index
abbrev pub flaw_at : List (List ℕ) → ℕ → Option Flaw
flaw_at lines index = option_and_then (flaw_behind (sent_before lines index)) (slice_get lines index)

-- no line before this one has a flaw
abbrev pub AreFlawlessBefore : List (List ℕ) → ℕ → Type 0
AreFlawlessBefore lines end = (index : ℕ) → index < end → flaw_at lines index ≡ None

-- The line with this number, counted from 1, is the first that has a flaw, and it is this one.
pub record IsFirstFlaw (lines : List (List ℕ)) (number : ℕ) (found : Flaw) : Type 0 where
  pub index : ℕ
  pub counted : number ≡ index + 1
  pub is : flaw_at lines index ≡ Some found
  pub before : AreFlawlessBefore lines index

-- The text has these expectations, none of which has a flaw, and this script.
pub record IsSheet (text script : List ℕ) (expectations : List Expectation) : Type 0 where
  pub within : length text ≤ 65536
  pub script_is : script ≡ script_of text
  pub flawless : AreFlawlessBefore (pieces_of text) (length (pieces_of text))
  pub whole : expectations ≡ expectations_of (pieces_of text)
