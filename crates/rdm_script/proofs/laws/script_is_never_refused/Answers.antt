use Rattle.std.proofs.Common.{◌≡◌, ℕ, List, arith, refl}
use Rattle.rdm_script.specs.Dialects.{Dialect}
use Rattle.rdm_crew.specs.declared.step.CrewStep.{CrewStep}
use Rattle.rdm_script.specs.declared.script.ScriptSetup.{ScriptSetup}
use Rattle.rdm_script.specs.declared.grammar.parsing.ScriptError.{ScriptError}
use Rattle.rdm_script.specs.declared.grammar.parsing.ScriptError.TheVariants.{OutOfMemory, TooLong, Line}
use Rattle.rdm_script.specs.Grammar.{IsRead, Refuses}
use Rattle.rdm_script.proofs.ScriptSpellings.{never_faulty, script_read}
use Rattle.rdm_script.proofs.laws.script_is_never_refused.Goals as goal

never : (dev : Dialect) (text : List ℕ) (setup : ScriptSetup) (steps : List CrewStep) (e : ScriptError) → IsRead dev text setup steps → Refuses dev e text → e ≡ OutOfMemory
never dev text setup steps OutOfMemory read refused = refl
never dev text setup steps TooLong read refused = absurd (omega (arith, read.within, refused))
never dev text setup steps (Line number) read refused = absurd (never_faulty dev text setup steps number read refused.1)

pub returns : goal.returns
returns c = λ dev text setup steps e spelled refused. never dev text setup steps e (script_read dev text setup steps spelled) refused
