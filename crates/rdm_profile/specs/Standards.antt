-- The parameters of E1.20 and of E1.37-1 that a profile can add to the table, a line each, in the order of their PIDs: the commands that
-- the standard gives it, and the data. E1.20 section 10 and table A-3; E1.37-1, its sections on these parameters and its table of PIDs.
use Rattle.std.specs.Prelude.{ℕ, pos, ◌*◌, ◌%◌, Bool, true, false, ◌==◌, ◌&&◌, ◌||◌, not, nat_le, bytes_eq, List, [], ◌∷◌, length, codes}
use Rattle.std.specs.List.{list_all, list_any}
use Rattle.std.specs.Ordering.{int_eq}
use Rattle.rdm_profile.specs.declared.profile.fields.Field.{Field}
use Rattle.rdm_profile.specs.declared.profile.own.ParameterDef.{ParameterDef}
use Rattle.rdm_profile.specs.declared.profile.own.Rights.{Rights}
use Rattle.rdm_profile.specs.declared.profile.own.Rights.TheVariants as rights
use Rattle.rdm_profile.specs.declared.profile.own.Shape.{Shape}
use Rattle.rdm_profile.specs.declared.profile.own.Shape.TheVariants as shapes
use Rattle.rdm_profile.specs.Fields.{have_sizes}

-- A line: the PID, the name, the commands that the parameter can have, and whether the data of a parameter of a profile are those of the
-- standard.
pub record Standard : Type 0 where
  pub pid : ℕ
  pub name : List ℕ
  pub rights : Rights
  pub fits : ParameterDef → Bool

abbrev pub standard : ℕ → List ℕ → Rights → (ParameterDef → Bool) → Standard
standard pid name rights fits = record { pid = pid; name = name; rights = rights; fits = fits }

-- so many slots in all, in which numbers of so many slots each stand one after another; a profile need not say the fields
abbrev pub are_numbers : ℕ → List ℕ → Shape → List Field → Bool
are_numbers size sizes shapes.Byte fs = bytes_eq sizes (1 ∷ [])
are_numbers size sizes shapes.Word fs = bytes_eq sizes (2 ∷ [])
are_numbers size sizes shapes.Long fs = bytes_eq sizes (4 ∷ [])
are_numbers size sizes (shapes.Slots n) fs = (n == size) && ((length fs == 0) || have_sizes fs sizes)
are_numbers size sizes _ fs = false

abbrev pub numbers : ℕ → List ℕ → ParameterDef → Bool
numbers size sizes d = are_numbers size sizes d.shape d.fields.items

-- a list of numbers of two slots: one at least, and so many at most
abbrev pub are_words : ℕ → Shape → Bool
are_words most shapes.Word = nat_le 1 most
are_words most (shapes.Slots n) = (n % 2 == 0) && nat_le 2 n && nat_le n (2 * most)
are_words most _ = false

abbrev pub words : ℕ → ParameterDef → Bool
words most d = are_words most d.shape

-- the number of one of several things, from 1
abbrev pub is_choice : Shape → Bool
is_choice shapes.Choice = true
is_choice _ = false

abbrev pub choice : ParameterDef → Bool
choice d = is_choice d.shape && int_eq d.low (pos 1)

-- what these are called
abbrev pub is_names : Shape → Bool
is_names shapes.Names = true
is_names _ = false

abbrev pub names : ParameterDef → Bool
names d = is_names d.shape

-- what these are called, and the frequency of each
abbrev pub is_rates : Shape → Bool
is_rates shapes.Rates = true
is_rates _ = false

abbrev pub rates : ParameterDef → Bool
rates d = is_rates d.shape

-- each of several scenes
abbrev pub is_scenes : Shape → Bool
is_scenes shapes.Scenes = true
is_scenes _ = false

abbrev pub scenes : ParameterDef → Bool
scenes d = is_scenes d.shape

-- the number of a lock state, from 0
abbrev pub is_lock : Shape → Bool
is_lock shapes.Lock = true
is_lock _ = false

abbrev pub lock : ParameterDef → Bool
lock d = is_lock d.shape && int_eq d.low (pos 0)

-- a PIN
abbrev pub is_pin : Shape → Bool
is_pin shapes.Pin = true
is_pin _ = false

abbrev pub pin : ParameterDef → Bool
pin d = is_pin d.shape && int_eq d.low (pos 0) && int_eq d.high (pos 9999)

-- where the slots of all sub-devices lie
abbrev pub is_block : Shape → Bool
is_block shapes.Block = true
is_block _ = false

-- whether there is a GET
abbrev pub is_shown : Rights → Bool
is_shown rights.Set = false
is_shown _ = true

abbrev pub block : ParameterDef → Bool
block d = is_block d.shape && is_shown d.rights

-- the lines
abbrev pub standards : List Standard
standards =
    standard 0x0015 (codes "COMMS_STATUS") rights.Clear (numbers 6 (2 ∷ 2 ∷ 2 ∷ []))  -- short messages, wrong lengths, wrong checksums
    ∷ standard 0x0070 (codes "PRODUCT_DETAIL_ID_LIST") rights.Get (words 6)
    ∷ standard 0x0140 (codes "DMX_BLOCK_ADDRESS") rights.Both block
    ∷ standard 0x0141 (codes "DMX_FAIL_MODE") rights.Both (numbers 7 (2 ∷ 2 ∷ 2 ∷ 1 ∷ []))  -- scene, delay, hold time, level
    ∷ standard 0x0142 (codes "DMX_STARTUP_MODE") rights.Both (numbers 7 (2 ∷ 2 ∷ 2 ∷ 1 ∷ []))  -- the same
    ∷ standard 0x0340 (codes "DIMMER_INFO") rights.Get (numbers 11 (2 ∷ 2 ∷ 2 ∷ 2 ∷ 1 ∷ 1 ∷ 1 ∷ []))  -- limits of the levels, curves, bits, split
    ∷ standard 0x0341 (codes "MINIMUM_LEVEL") rights.Both (numbers 5 (2 ∷ 2 ∷ 1 ∷ []))  -- increasing, decreasing, on below it
    ∷ standard 0x0342 (codes "MAXIMUM_LEVEL") rights.Both (numbers 2 (2 ∷ []))
    ∷ standard 0x0343 (codes "CURVE") rights.Both choice
    ∷ standard 0x0344 (codes "CURVE_DESCRIPTION") rights.Get names
    ∷ standard 0x0345 (codes "OUTPUT_RESPONSE_TIME") rights.Both choice
    ∷ standard 0x0346 (codes "OUTPUT_RESPONSE_TIME_DESCRIPTION") rights.Get names
    ∷ standard 0x0347 (codes "MODULATION_FREQUENCY") rights.Both choice
    ∷ standard 0x0348 (codes "MODULATION_FREQUENCY_DESCRIPTION") rights.Get rates
    ∷ standard 0x0440 (codes "BURN_IN") rights.Both (numbers 1 (1 ∷ []))  -- hours
    ∷ standard 0x0603 (codes "REAL_TIME_CLOCK") rights.Both (numbers 7 (2 ∷ 1 ∷ 1 ∷ 1 ∷ 1 ∷ 1 ∷ []))  -- year, month, day, hour, minute, second
    ∷ standard 0x0640 (codes "LOCK_PIN") rights.Both pin
    ∷ standard 0x0641 (codes "LOCK_STATE") rights.Both lock
    ∷ standard 0x0642 (codes "LOCK_STATE_DESCRIPTION") rights.Get names
    ∷ standard 0x1001 (codes "RESET_DEVICE") rights.Set (numbers 1 (1 ∷ []))  -- warm or cold
    ∷ standard 0x1030 (codes "CAPTURE_PRESET") rights.Set (numbers 8 (2 ∷ 2 ∷ 2 ∷ 2 ∷ []))  -- scene, times up and down, wait time
    ∷ standard 0x1040 (codes "IDENTIFY_MODE") rights.Both (numbers 1 (1 ∷ []))
    ∷ standard 0x1041 (codes "PRESET_INFO") rights.Get (numbers 32 [])  -- 6 of one slot and 13 of two, more than a profile can say
    ∷ standard 0x1042 (codes "PRESET_STATUS") rights.Both scenes
    ∷ standard 0x1043 (codes "PRESET_MERGEMODE") rights.Both (numbers 1 (1 ∷ []))
    ∷ standard 0x1044 (codes "POWER_ON_SELF_TEST") rights.Both (numbers 1 (1 ∷ []))
    ∷ []

-- whether these rights give no command that the standard doesn't
abbrev pub may_have : Rights → Rights → Bool
may_have rights.Get rights.Get = true
may_have rights.Get _ = false
may_have rights.Set rights.Set = true
may_have rights.Set _ = false
may_have rights.Both rights.Clear = false
may_have rights.Both _ = true
may_have rights.Clear rights.Clear = true
may_have rights.Clear rights.Get = true
may_have rights.Clear _ = false

-- whether a SET clears counts, and has no data
abbrev pub is_clear : Rights → Bool
is_clear rights.Clear = true
is_clear _ = false

-- whether data are of a shape that only a parameter of the standards has
abbrev pub is_standards : Shape → Bool
is_standards shape = is_choice shape || is_names shape || is_rates shape || is_scenes shape || is_lock shape || is_pin shape || is_block shape

-- whether a parameter is as each line of this PID says
abbrev pub follows_at : ℕ → ParameterDef → Bool
follows_at pid d = list_all (λ s. not (s.pid == pid) || (may_have s.rights d.rights && s.fits d)) standards

abbrev pub is_of_standards : ℕ → Bool
is_of_standards pid = list_any (λ s. s.pid == pid) standards

-- whether its data or its commands are those that only a parameter of the standards has
abbrev pub is_only_standards : ParameterDef → Bool
is_only_standards d = is_standards d.shape || is_clear d.rights

-- as its line says; where it has none, its data have a shape and its commands are those that makers can describe
abbrev pub follows : ParameterDef → Bool
follows d = follows_at d.pid d && (not (is_only_standards d) || is_of_standards d.pid)
