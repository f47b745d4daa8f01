-- What bytes an image is.
use Rattle.std.specs.Prelude.{ℕ, ◌+◌, ◌-◌, ◌^◌, ◌<◌, List, ◌++◌, length, sum, slice_index}
use Rattle.std.specs.Int.{w16, w32, to_be_bytes}

-- The key of what it is of, a counter and how many bytes the payload has, most significant byte first.
abbrev pub fields_text : ℕ → ℕ → ℕ → List ℕ
fields_text key counter len = to_be_bytes w32 key ++ to_be_bytes w16 counter ++ to_be_bytes w16 len

-- The check: what the sum of all bytes behind it lacks to 4294967295. So a byte that is raised lowers the check that it
-- should have, and can't raise it.
abbrev pub check_of : ℕ → ℕ → List ℕ → ℕ
check_of key counter payload = 2 ^ 32 - 1 - (sum (fields_text key counter (length payload)) + sum payload)

abbrev pub header_text : ℕ → ℕ → List ℕ → List ℕ
header_text key counter payload = to_be_bytes w32 (check_of key counter payload) ++ fields_text key counter (length payload)

-- The text of an image: the check in four bytes, the key in four, the counter in two, the length in two, and the payload.
unfoldable pub image_text : ℕ → ℕ → List ℕ → List ℕ
image_text key counter payload = header_text key counter payload ++ payload

-- each number of an image fits its bytes
pub record IsImage (key counter : ℕ) (payload : List ℕ) : Type 0 where
  pub key_fits : key < 2 ^ 32
  pub counter_fits : counter < 2 ^ 16
  pub short : length payload < 2 ^ 16
  pub bytes : (i : ℕ) → slice_index payload i < 256
