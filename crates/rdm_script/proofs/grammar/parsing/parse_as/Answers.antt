use Rattle.std.proofs.Common.{◌∙◌, arith, sym}
use Rattle.rdm_script.proofs.ScriptSpellings.{never_faulty, script_spelled, script_read, script_alters}
use Rattle.rdm_script.proofs.grammar.parsing.parse_as.Goals as goal

pub returns-in_err-read_lines-clause-only : goal.returns-in_err-read_lines-clause-only
returns-in_err-read_lines-clause-only c = λ setup steps spelled.
    let d = c.args.dialect.now in
    let text = c.args.text.now in
    absurd (never_faulty d text setup steps _ (script_read d text setup steps spelled) c.in_err-read_lines.ensures.err)

pub returns-clause-ok : goal.returns-clause-ok
returns-clause-ok c =
    script_spelled c.args.dialect.now c.args.text.now c.read_lines.new.script.setup c.read_lines.new.script.steps.items (record {
      within = omega (arith, c.if-text-gt-MOST_BYTES.false);
      says = c.in_ok-read_lines.ensures.ok;
    })

pub returns-clause-only : goal.returns-clause-only
returns-clause-only c = λ setup steps spelled.
    let read = script_read c.args.dialect.now c.args.text.now setup steps spelled in
    (c.in_ok-read_lines.ensures.ok.setup_is ∙ sym read.says.setup_is, c.in_ok-read_lines.ensures.ok.in_order ∙ sym read.says.in_order)

pub returns-clause-faults : goal.returns-clause-faults
returns-clause-faults c = script_alters c.args.dialect.now c.args.text.now c.read_lines.new.script.setup c.read_lines.new.script.steps.items (returns-clause-ok c)
