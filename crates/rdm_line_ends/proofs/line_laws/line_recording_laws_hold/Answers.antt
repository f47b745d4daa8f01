use Rattle.rdm_line_ends.proofs.LineRuns.{line_laws_hold}
use Rattle.rdm_line_ends.proofs.line_laws.line_recording_laws_hold.Goals as goal

pub returns : goal.returns
returns c = line_laws_hold c.two_commands_fetch.ensures.queue c.two_commands_fetch.ensures.status c.two_commands_fetch.ensures.set
