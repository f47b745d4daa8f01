-- What a program that fails has left.
use Rattle.std.proofs.Common.{◌≡◌, ◌≢◌, ℕ, List, take, Option, Result, Ok, Err, IfErr, IfSome, refl}
use Rattle.std.specs.Bool.{⊤}
use Rattle.std.specs.Io.KnownBytes.{Keeps, Appends}
use Rattle.rdm_script.specs.declared.program.ProgramError.{ProgramError}
use Rattle.rdm_script.specs.declared.program.ProgramError.TheVariants.{Read, Script, Memory, Run, Write}
use Rattle.rdm_script.specs.ErrorLine.{Tells}
use Rattle.rdm_script.specs.Scene.{Scene}
use Rattle.rdm_script.specs.Program.{IsTraceOf, IsFailure, Leaves, status_of, outcome_status}

pub failed : (scene : Scene) (r : Result ⊤ ProgramError) (status : ℕ) (input old new errors_old errors_new : Option (List ℕ)) → status ≡ outcome_status r
    → IfErr r (λ e. e ≢ Write → Keeps old new)
    → (r ≡ Err Write → IfSome input (λ bytes. (text : List ℕ) × (count : ℕ) × IsTraceOf scene bytes text × Appends old new (take count text)))
    → IfErr r (λ e. IfSome input (IsFailure scene e))
    → IfErr r (λ e. Tells e errors_old errors_new)
    → status ≢ 0 → (e : ProgramError) × (status ≡ status_of e) × IfSome input (IsFailure scene e) × Tells e errors_old errors_new × Leaves scene e input old new
failed scene (Ok done) status input old new errors_old errors_new is silent front err told fails = absurd (fails is)
failed scene (Err Read) status input old new errors_old errors_new is silent front err told fails = (Read, is, err, told, silent (λ e. cc))
failed scene (Err (Script fault)) status input old new errors_old errors_new is silent front err told fails = (Script fault, is, err, told, silent (λ e. cc))
failed scene (Err Memory) status input old new errors_old errors_new is silent front err told fails = (Memory, is, err, told, silent (λ e. cc))
failed scene (Err (Run fault)) status input old new errors_old errors_new is silent front err told fails = (Run fault, is, err, told, silent (λ e. cc))
failed scene (Err Write) status input old new errors_old errors_new is silent front err told fails = (Write, is, err, told, front refl)
