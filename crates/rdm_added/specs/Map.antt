-- The values that a device keeps: for each key, a PID and an index, the bytes of its value.
use Rattle.std.specs.Prelude.{ℕ, Bool, ◌==◌, ◌&&◌, List, [], ◌∷◌, Option, find, if◌then◌else◌}
use Rattle.std.specs.Option.{option_map}

-- The index is 0, but for sensors, where it is the number of the sensor, and for orders, where 1 is the key of their count,
-- and for scenes, where it is the number of the scene.
pub record Entry : Type 0 where
  pub pid : ℕ
  pub index : ℕ
  pub bytes : List ℕ

abbrev pub entry : ℕ → ℕ → List ℕ → Entry
entry pid index bytes = record { pid = pid; index = index; bytes = bytes }

-- whether the entry has this key
abbrev pub has_key : ℕ → ℕ → Entry → Bool
has_key pid index e = (e.pid == pid) && (e.index == index)

-- the bytes at a key, and none if there is no such key
abbrev pub lookup : List Entry → ℕ → ℕ → List ℕ
lookup [] pid index = []
lookup (e ∷ es) pid index = if has_key pid index e then e.bytes else lookup es pid index

-- the bytes of the value of a parameter, at index 0, if it has one
abbrev pub value_at : List Entry → ℕ → Option (List ℕ)
value_at es pid = option_map (λ e. e.bytes) (find (has_key pid 0) es)

-- the map in which each entry has the bytes that it becomes; no key comes or goes
abbrev pub update : (Entry → List ℕ) → List Entry → List Entry
update becomes [] = []
update becomes (e ∷ es) = entry e.pid e.index (becomes e) ∷ update becomes es
