use Rattle.std.proofs.Common.{ℕ, ◌<◌, List, length, take, sym, subst, Option, Result, Ok, Err, IfErr, OnOk, OnErr, arith}
use Rattle.std.specs.Bool.{⊤}
use Rattle.std.specs.Io.KnownBytes.{Appends}
use Rattle.std.proofs.lemmas.List.{take_all}
use Rattle.rdm_script.specs.declared.program.ProgramError.{ProgramError}
use Rattle.rdm_script.specs.ErrorLine.{error_line, Tells}
use Rattle.rdm_script.proofs.exit.report.Goals as goal

-- the whole line is a front of it
told : {E : Type 0} → (result : Result ⊤ E) (e : ProgramError) (old new : Option (List ℕ)) → OnOk result (Appends old new (error_line e))
    → OnErr result ((count : ℕ) × (count < length (error_line e)) × Appends old new (take count (error_line e))) → Tells e old new
told (Ok done) e old new ok front =
    (length (error_line e), subst (λ (bytes : List ℕ). Appends old new bytes) (sym (take_all (length (error_line e)) (error_line e) (omega (arith)))) ok)
told (Err fault) e old new ok front = (front.0, front.2)

pub returns-in-Err-clause-told : goal.returns-in-Err-clause-told
returns-in-Err-clause-told g c =
    subst (λ (outcome : Result ⊤ ProgramError). IfErr outcome (λ e. Tells e (g.W.Write.contents c.args.errors.now) (g.W.Write.contents c.write_error_line.new.writer)))
    (sym c.in-Err.is)
    (told c.write_error_line.result c.in-Err.error (g.W.Write.contents c.args.errors.now) (g.W.Write.contents c.write_error_line.new.writer)
    c.write_error_line.ensures.ok c.write_error_line.ensures.front)
