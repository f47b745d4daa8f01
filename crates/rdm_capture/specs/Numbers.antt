-- Numbers in the byte order of a capture, and how long a tick of its clock is.
use Rattle.std.specs.Prelude.{ℕ, ◌-◌, ◌*◌, ◌/◌, ◌^◌, List, min}
use Rattle.byteorder.specs.Endian.{big_number, little_number}
use Rattle.rdm_capture.specs.declared.packet.Order.{Order}
use Rattle.rdm_capture.specs.declared.packet.Order.TheVariants.{Big, Little}
use Rattle.rdm_capture.specs.declared.packet.Resolution.{Resolution}
use Rattle.rdm_capture.specs.declared.packet.Resolution.TheVariants.{Decimal, Binary}

-- the number in the first so many bytes
unfoldable pub number : Order → ℕ → List ℕ → ℕ
number Big count t = big_number count t
number Little count t = little_number count t

-- how many ticks a second has
abbrev pub ticks_of : Resolution → ℕ
ticks_of (Decimal digits) = 10 ^ digits
ticks_of (Binary bits) = 2 ^ bits

-- So many ticks, in nanoseconds: at most 2 ^ 64 - 1.
unfoldable pub nanoseconds : Resolution → ℕ → ℕ
nanoseconds resolution ticks = min (ticks * 1000000000 / ticks_of resolution) (2 ^ 64 - 1)
