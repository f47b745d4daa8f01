use Rattle.std.specs.Process.{exit_status}
use Rattle.rdm_script.specs.DemoParts.{demo_scene}
use Rattle.rdm_script.proofs.Failing.{failed}
use Rattle.rdm_script.proofs.exit.run_program.Goals as goal

pub returns-clause-failed : goal.returns-clause-failed
returns-clause-failed g c =
    failed demo_scene c.run_script.result (exit_status c.report.result) (g.R.Read.remaining c.args.reader.now)
    (g.W.Write.contents c.args.writer.now) (g.W.Write.contents c.run_script.new.writer)
    (g.E.Write.contents c.args.errors.now) (g.E.Write.contents c.report.new.errors)
    c.report.ensures.status c.run_script.ensures.silent c.run_script.ensures.front c.run_script.ensures.err c.report.ensures.told
