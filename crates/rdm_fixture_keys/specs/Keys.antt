-- What the keys of a table say, and which tables say nothing: those with a key that the format hasn't got.
use Rattle.std.specs.Prelude.{◌≡◌, ℕ, Bool, true, ◌&&◌, List, Option, Some, None, option_and_then, Result, Ok, Err}
use Rattle.std.specs.List.{list_any}
use Rattle.std.specs.Str.{bytes_eq}
use Rattle.toml.specs.Data.{Data, Members, no_members, member, get_member}

-- ---- one key

-- what a key that has to be there says
abbrev pub must : {A : Type 0} → (Data → Option A) → Option Data → Option A
must says found = option_and_then says found

-- what a key that may be left out says
abbrev pub may : {A : Type 0} → A → (Data → Option A) → Option Data → Option A
may default says None = Some default
may default says (Some d) = says d

-- the table has the key, and what it holds says x
abbrev pub Must : {A : Type 0} → Members → List ℕ → (Data → Option A) → A → Type 0
Must t key says x = must says (get_member key t) ≡ Some x

-- the same, and without the key x is the default
abbrev pub May : {A : Type 0} → Members → List ℕ → A → (Data → Option A) → A → Type 0
May t key default says x = may default says (get_member key t) ≡ Some x

-- ---- all keys

-- every key is one of these
abbrev pub has_only : List (List ℕ) → Members → Bool
has_only keys no_members = true
has_only keys (member k d ms) = list_any (bytes_eq k) keys && has_only keys ms

-- ---- what a reader finds

-- The reader answers with what the source says, and refuses exactly the sources that say nothing.
abbrev pub Reads : {S A E : Type 0} → (S → A → Type 0) → S → Result A E → Type 0
Reads P source (Ok x) = P source x
Reads {A = A} P source (Err e) = (x : A) → ¬ P source x
