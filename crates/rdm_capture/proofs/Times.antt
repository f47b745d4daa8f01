-- How long ticks are.
use Rattle.std.proofs.Common.{◌≡◌, ℕ, ◌*◌, ◌/◌, ◌^◌, ◌<◌, ◌≤◌, arith}
use Rattle.std.proofs.Math.Nat.{one-le-pow, div-eq_of_lt, div-le_self}
use Rattle.rdm_capture.specs.declared.packet.Resolution.{Resolution}
use Rattle.rdm_capture.specs.declared.packet.Resolution.TheVariants.{Decimal, Binary}
use Rattle.rdm_capture.specs.Numbers.{ticks_of, nanoseconds}

pub ticks_pos : (r : Resolution) → 0 < ticks_of r
ticks_pos (Decimal n) = let h = one-le-pow n 10 (omega arith) in omega arith
ticks_pos (Binary n) = let h = one-le-pow n 2 (omega arith) in omega arith

-- ticks that are too short to make a nanosecond
pub none_together : (r : Resolution) (ticks : ℕ) → ticks < 2 ^ 64 → 2 ^ 128 ≤ ticks_of r → 0 ≡ nanoseconds r ticks
unfolding nanoseconds
none_together r ticks few many =
    let below : ticks * 1000000000 < ticks_of r = omega (arith, few, many) in
    let none : ticks * 1000000000 / ticks_of r ≡ 0 = div-eq_of_lt below in
    omega (arith, none)

pub at_most : (r : Resolution) (ticks : ℕ) → nanoseconds r ticks ≤ ticks * 1000000000
unfolding nanoseconds
at_most r ticks = omega (arith, div-le_self (ticks * 1000000000) (ticks_of r))
