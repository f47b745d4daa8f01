-- What the lock state keeps from being set, and who may change it. E1.37-1, LOCK_STATE and LOCK_PIN.
use Rattle.std.specs.Prelude.{ℕ, Bool, ◌==◌, ◌&&◌, ◌||◌, nat_lt, bytes_eq, List, length, take, drop, slice_index, if◌then◌else◌}
use Rattle.std.specs.List.{list_any}
use Rattle.std.specs.Int.{w16, from_be_bytes}
use Rattle.rdm_profile.specs.declared.profile.locks.Lock.{Lock}
use Rattle.rdm_added.specs.Map.{Entry, lookup}

-- the lock state: what is kept of LOCK_STATE, and 0, which is unlocked, where there is none
abbrev pub lock_state : List Entry → ℕ
lock_state added = slice_index (lookup added 0x0641 0) 0

-- the PIN: what is kept of LOCK_PIN
abbrev pub pin_kept : List Entry → List ℕ
pin_kept added = lookup added 0x0640 0

-- whether it locks this parameter in this state
abbrev pub is_lock_of : ℕ → ℕ → Lock → Bool
is_lock_of state pid l = (l.state == state) && (l.pid == pid)

-- whether one of these locks a parameter in this state
abbrev pub locks_in : List Lock → ℕ → ℕ → Bool
locks_in locks state pid = list_any (is_lock_of state pid) locks

abbrev pub is_locked : List Lock → List Entry → ℕ → Bool
is_locked locks added pid = locks_in locks (lock_state added) pid

-- The parameter whose values a SET writes: its own, but RECORD_SENSORS writes those of SENSOR_VALUE, and DMX_BLOCK_ADDRESS start addresses.
-- Section 10.7.3 and E1.37-1, DMX_BLOCK_ADDRESS.
abbrev pub value_set : ℕ → ℕ
value_set pid = if pid == 0x0202 then 0x0201 else (if pid == 0x0140 then 0x00F0 else pid)

-- whether a SET of a parameter is locked: the parameter is, or that whose values it writes
abbrev pub is_set_locked : List Lock → List Entry → ℕ → Bool
is_set_locked locks added pid = is_locked locks added pid || is_locked locks added (value_set pid)

-- whether the data of a SET of LOCK_PIN say a new PIN that is none: these are 0 to 9999
abbrev pub is_no_pin : ℕ → List ℕ → Bool
is_no_pin pid bytes = (pid == 0x0640) && (length bytes == 4) && nat_lt 9999 (from_be_bytes w16 (take 2 bytes))

-- ---- what a SET of them hands in: of the lock state, the PIN and the state; of the PIN, the new one and that which is kept

abbrev pub state_of : List ℕ → ℕ
state_of slots = slice_index slots 2

abbrev pub knows_pin : List ℕ → List ℕ → Bool
knows_pin pin slots = bytes_eq (take 2 slots) pin

abbrev pub knows_old_pin : List ℕ → List ℕ → Bool
knows_old_pin pin slots = bytes_eq (drop 2 slots) pin

abbrev pub new_pin : List ℕ → List ℕ
new_pin slots = take 2 slots
