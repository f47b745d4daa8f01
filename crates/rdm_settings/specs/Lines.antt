-- The lines of a file, and their cells. RFC 4180; a line may end with LF or with CR and LF.
use Rattle.std.specs.Prelude.{ℕ, ◌%◌, Bool, ◌==◌, ◌||◌, List, [], map, count_by, option_map, Option}
use Rattle.std.specs.List.{list_any, slice_split}
use Rattle.std.specs.Str.Lines.{strip_carriage_return}
use Rattle.csv.specs.Machine.{next_record}
use Rattle.csv.specs.Reading.{default_config, strip_bom}
use Rattle.csv.specs.declared.parser.State.TheVariants as state

abbrev pub is_line_end : ℕ → Bool
is_line_end b = b == 10

-- the lines, without what ends them
unfoldable pub lines_of : List ℕ → List (List ℕ)
lines_of text = map strip_carriage_return (slice_split is_line_end text)

-- a quote is open at the end, or a carriage return stands before it: a cell has no more than one line
abbrev pub is_torn : List ℕ → Bool
is_torn line = (count_by (λ b. b == 34) line % 2 == 1) || list_any (λ b. b == 13) line

-- the cells of a line that isn't blank, as the csv crate reads them; a byte order mark before them is none of theirs
unfoldable pub cells_in : List ℕ → Option (List (List ℕ))
cells_in line = option_map (λ read. read.0) (next_record default_config state.StartRecord [] [] (strip_bom line))
