-- How a whole text is read as a trace.
use Rattle.std.specs.Prelude.{◌≡◌, ℕ, ◌+◌, ◌-◌, Bool, true, false, ◌==◌, ◌&&◌, ◌||◌, nat_lt, slice_index, List, length, take, slice_get, Option, Some, None, is_some}
use Rattle.std.specs.Option.{option_to_list}
use Rattle.std.specs.Str.Lines.{strip_carriage_return}
use Rattle.std.specs.List.{flat_map, list_all, slice_split}
use Rattle.rdm_trace.specs.declared.line.Line.{Line}
use Rattle.rdm_trace.specs.Reading.{line_in}

-- the lines of a text: what stands before, between and behind its LFs
unfoldable pub pieces_of : List ℕ → List (List ℕ)
pieces_of text = slice_split (λ b. b == 10) text

-- what one of them says, without the CR at its end
abbrev pub line_of : List ℕ → Option Line
line_of piece = line_in (strip_carriage_return piece)

-- it is a remark, which begins with a number sign
abbrev pub is_remark : List ℕ → Bool
is_remark piece = nat_lt 0 (length piece) && (slice_index piece 0 == 35)

-- one that a trace may have
abbrev pub is_line : List ℕ → Bool
is_line piece = is_some (line_of piece) || is_remark piece

-- What the lines of a text say, in order. A remark says nothing.
abbrev pub lines_said : List (List ℕ) → List Line
lines_said pieces = flat_map (λ piece. option_to_list (line_of piece)) pieces

-- Every line is one of a trace or a remark, but for what stands behind the last LF: that may have been cut off.
abbrev pub AreWhole : List (List ℕ) → Type 0
AreWhole pieces = list_all is_line (take (length pieces - 1) pieces) ≡ true

-- The line with this number, counted from 1, is the first that isn't part of a trace.
pub record IsFirstUnread (pieces : List (List ℕ)) (number : ℕ) : Type 0 where
  pub index : ℕ
  pub counted : number ≡ index + 1
  pub piece : List ℕ
  pub there : slice_get pieces index ≡ Some piece
  pub unread : line_of piece ≡ None
  pub other : is_remark piece ≡ false
  pub before : list_all is_line (take index pieces) ≡ true
