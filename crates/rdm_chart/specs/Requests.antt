-- How many requests a trace has.
use Rattle.std.specs.Prelude.{ℕ, ◌+◌, Bool, List, [], ◌∷◌, take, codes, if◌then◌else◌}
use Rattle.std.specs.Str.{bytes_eq}

-- a line that begins as a request does
unfoldable pub begins_request : List ℕ → Bool
begins_request line = bytes_eq (take 5 line) (codes "send ")

-- one of these lines, or none
abbrev pub one_of : List ℕ → ℕ
one_of line = if begins_request line then 1 else 0

-- how many of the lines of a text do
abbrev pub request_count : List (List ℕ) → ℕ
request_count [] = 0
request_count (line ∷ lines) = one_of line + request_count lines
