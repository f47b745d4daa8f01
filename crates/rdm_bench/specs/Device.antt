-- The device that hears frames.
use Rattle.std.specs.Prelude.{ℕ, ℤ, pos, Bool, true, List, [], ◌∷◌, if◌then◌else◌}
use Rattle.rdm_profile.specs.declared.profile.Profile.{Profile}
use Rattle.rdm_profile.specs.declared.profile.own.ParameterDef.{ParameterDef}
use Rattle.rdm_profile.specs.declared.profile.own.Rights.TheVariants.{Both}
use Rattle.rdm_profile.specs.declared.profile.own.Shape.{Shape}
use Rattle.rdm_profile.specs.declared.profile.own.Shape.TheVariants.{Byte, Word}
use Rattle.rdm_profile.specs.Demo.{demo}
use Rattle.rdm_profile.specs.Particulars.{usual_particular}

-- a number from 0 on, with GET and SET
abbrev pub own_number : ℕ → Shape → ℤ → List ℕ → ParameterDef
own_number pid shape high start =
    record { pid = pid; rights = Both; shape = shape; low = pos 0; high = high; fields = record { items = [] }; start = start; unit = 0; prefix = 0; name = []; resets = true }

-- a number of two slots at PID 8000, and one of one slot at 8001
abbrev pub own_numbers : List ParameterDef
own_numbers = own_number 0x8000 Word (pos 65535) (0 ∷ 0 ∷ []) ∷ own_number 0x8001 Byte (pos 255) (0 ∷ []) ∷ []

-- the demo fixture with so many sub-devices, with those two parameters of its maker's own or with none
abbrev pub bench_profile : Bool → ℕ → Profile
bench_profile own subs = if own then record (demo subs) { particulars = record usual_particular { own = own_numbers } } else demo subs
