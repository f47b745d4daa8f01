-- The order of rows: by a key, and then by UID. What isn't told comes last.
use Rattle.std.specs.Prelude.{ℕ, List, [], Option, Some, None, unwrap_or, option_and_then}
use Rattle.std.specs.Ordering.{nat_cmp, ordering_then}
use Rattle.std.specs.declared.cmp.Ordering.{Ordering}
use Rattle.std.specs.declared.cmp.Ordering.TheVariants.{Equal}
use Rattle.std.specs.Cmp.Lexicographic.{slice_cmp}
use Rattle.rdm_frame.specs.UidNumber.{uid_number}
use Rattle.rdm_survey.specs.declared.device_info.DeviceInfo.{DeviceInfo}
use Rattle.rdm_survey.specs.declared.row.Row.{Row}
use Rattle.rdm_survey.specs.declared.order.Order.{Order}
use Rattle.rdm_survey.specs.declared.order.Order.TheVariants as by

-- 1 if it isn't told, and 0 if it is
abbrev pub missing : {A : Type 0} → Option A → ℕ
missing None = 1
missing (Some x) = 0

-- the start address of the root, if it is known and there is one
abbrev pub address_of : Row → Option ℕ
address_of row = option_and_then (λ (device : DeviceInfo). device.address) row.device

-- numbers that are told by their size, and behind them those that aren't
abbrev pub number_cmp : Option ℕ → Option ℕ → Ordering
number_cmp a b = ordering_then (nat_cmp (missing a) (missing b)) (nat_cmp (unwrap_or a 0) (unwrap_or b 0))

-- texts that are told, byte by byte, and behind them those that aren't
abbrev pub text_cmp : Option (List ℕ) → Option (List ℕ) → Ordering
text_cmp a b = ordering_then (nat_cmp (missing a) (missing b)) (slice_cmp nat_cmp (unwrap_or a []) (unwrap_or b []))

abbrev pub key_cmp : Order → Row → Row → Ordering
key_cmp by.Uid a b = Equal
key_cmp by.Address a b = number_cmp (address_of a) (address_of b)
key_cmp by.Model a b = text_cmp a.model b.model
key_cmp by.Label a b = text_cmp a.label b.label

-- Rows with one key go by their UIDs.
abbrev pub row_cmp : Order → Row → Row → Ordering
row_cmp order a b = ordering_then (key_cmp order a b) (nat_cmp (uid_number a.uid) (uid_number b.uid))
