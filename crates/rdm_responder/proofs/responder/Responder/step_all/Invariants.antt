use Rattle.std.proofs.Common.{◌≡◌, ◌≤◌, length, drop}
use Rattle.std.specs.Vec.{vec_capacity, vec_len}
use Rattle.rdm_responder.proofs.Runs.{Completes}
use Rattle.rdm_responder.proofs.responder.Responder.step_all.Given as goal

abbrev pub invariant-loop-input : goal.invariant-loop-input
invariant-loop-input l = record {
  run : Completes l.fn.self l.self l.outputs.items l.inputs (drop l.input-index l.inputs);
  count : vec_len l.outputs ≡ l.input-index;
  room : length l.inputs ≤ vec_capacity l.outputs;
}
