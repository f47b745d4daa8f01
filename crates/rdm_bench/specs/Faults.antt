-- What a run is answered with.
use Rattle.std.specs.Prelude.{ℕ}
use Rattle.rdm_bench.specs.declared.fault.Fault.{Fault}
use Rattle.rdm_bench.specs.declared.fault.Fault.TheVariants.{OutOfMemory, TooManySubs, UnknownReports}

-- the code of each fault; 0 says that there is none
abbrev pub code_of : Fault → ℕ
code_of OutOfMemory = 1
code_of TooManySubs = 2
code_of UnknownReports = 3
