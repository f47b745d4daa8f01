use Rattle.rdm_interface.proofs.Lines.{lines_are_heard, lossy_lines_are_heard}
use Rattle.rdm_interface.proofs.laws.lines_are_heard.Goals as goal

pub returns-clause-line : goal.returns-clause-line
returns-clause-line g c = lines_are_heard g.P.Port.hears

pub returns-clause-lossy : goal.returns-clause-lossy
returns-clause-lossy g c = lossy_lines_are_heard g.P.Port.hears
