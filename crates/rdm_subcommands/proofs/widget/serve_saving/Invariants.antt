use Rattle.std.proofs.Common.{◌<◌, length}
use Rattle.rdm_subcommands.proofs.widget.serve_saving.Given as goal

abbrev pub invariant-loop-turn : goal.invariant-loop-turn
invariant-loop-turn g l = length l.held < 605
