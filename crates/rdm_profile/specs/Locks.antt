-- Which parameters a lock state can keep from being set. E1.37-1, LOCK_STATE and LOCK_PIN.
use Rattle.std.specs.Prelude.{ℕ, Bool, ◌==◌, ◌&&◌, ◌||◌, not, nat_le, List, [], ◌∷◌}
use Rattle.std.specs.List.{list_any}
use Rattle.rdm_profile.specs.declared.profile.locks.Lock.{Lock}
use Rattle.rdm_profile.specs.declared.profile.own.ParameterDef.{ParameterDef}
use Rattle.rdm_profile.specs.Choices.{greatest}
use Rattle.rdm_profile.specs.LeftOut.{lacks}
use Rattle.rdm_profile.specs.OwnParameters.{has_get, has_set}

-- whether a lock is of a state that there is: from 1 to the greatest of LOCK_STATE, of which 0 is unlocked
abbrev pub is_state_of : Lock → ParameterDef → Bool
is_state_of l d = (d.pid == 0x0641) && nat_le 1 l.state && nat_le l.state (greatest d)

abbrev pub has_state : List ParameterDef → Lock → Bool
has_state ds l = list_any (is_state_of l) ds

-- whether LOCK_PIN is among these parameters
abbrev pub has_pin : List ParameterDef → Bool
has_pin ds = list_any (λ d. d.pid == 0x0640) ds

-- whether a parameter, if it is LOCK_STATE, can be read, and has LOCK_PIN beside it: without a PIN no SET of it succeeds
abbrev pub can_open : List ParameterDef → ParameterDef → Bool
can_open ds d = not (d.pid == 0x0641) || (has_get d.rights && has_pin ds)

-- the parameters of the table that have a SET which no job carries out
abbrev pub quick_pids : List ℕ
quick_pids =
    0x0032 ∷ 0x0033 ∷ 0x0082 ∷ 0x0090 ∷ 0x00B0 ∷ 0x00E0 ∷ 0x00F0 ∷ 0x0201 ∷ 0x0202
    ∷ 0x0400 ∷ 0x0401 ∷ 0x0402 ∷ 0x0404 ∷ 0x0405 ∷ 0x0500 ∷ 0x0501 ∷ 0x0600 ∷ 0x0601 ∷ 0x0602
    ∷ 0x1000 ∷ 0x1031 ∷ []

-- whether the root has such a parameter of the table, where these are left out
abbrev pub sets_of_table : List ℕ → ℕ → Bool
sets_of_table without pid = list_any (λ quick. quick == pid) quick_pids && not (lacks without pid)

-- whether one of these parameters is it, and has a SET
abbrev pub sets_of_own : List ParameterDef → ℕ → Bool
sets_of_own ds pid = list_any (λ d. (d.pid == pid) && has_set d.rights) ds

-- Whether a lock can hold its parameter, and be opened again: the root has a SET of it, no job carries that out, and it isn't LOCK_STATE.
abbrev pub can_hold : List ℕ → List ParameterDef → Lock → Bool
can_hold without ds l = not (l.pid == 0x0641) && (sets_of_table without l.pid || sets_of_own ds l.pid)
