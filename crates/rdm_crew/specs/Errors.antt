-- The words of the errors of a run.
use Rattle.std.specs.Prelude.{ℕ, List, codes}
use Rattle.rdm_crew.specs.declared.error.RunError.{RunError}
use Rattle.rdm_crew.specs.declared.error.RunError.TheVariants.{OutOfMemory, Reserved, TooLong, Unsettled, Astray, Missing, BadSetup}

abbrev pub error_words : RunError → List ℕ
error_words OutOfMemory = codes "out of memory"
error_words Reserved = codes "reserved"
error_words TooLong = codes "too long"
error_words Unsettled = codes "unsettled"
error_words Astray = codes "astray"
error_words Missing = codes "missing"
error_words BadSetup = codes "bad setup"
