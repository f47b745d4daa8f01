use Rattle.std.proofs.Common.{List, ℕ, ap, sym, ◌∙◌}
use Rattle.std.specs.Prelude.{map}
use Rattle.rdm_capture.specs.Packets.{seen, told}
use Rattle.rdm_capture.specs.Captures.{start_said, place_known, piece_at}
use Rattle.rdm_capture.proofs.Going.{going_on, going_ends, going_stops}
use Rattle.rdm_capture.proofs.reading.read_from.Goals as goal

pub returns-in-None : goal.returns-in-None
returns-in-None c =
    going_stops c.args.bytes.now (start_said c.args.start).known (place_known c.loop-at.place) c.args.start.size c.loop-at.at (map seen c.loop-at.packets.items) c.loop-at.invariant
    c.loop-at-test.true (ap (λ (l : List ℕ). piece_at (place_known c.loop-at.place) l) (sym c.behind.ensures) ∙ sym c.in-None.ensures.value)

pub loop-at-preserved : goal.loop-at-preserved
loop-at-preserved c =
    going_on c.args.bytes.now (start_said c.args.start).known (place_known c.loop-at.place) (place_known c.learn.new.place) c.args.start.size c.loop-at.at c.in-Some.block.size (told c.in-Some.block.content)
    (map seen c.loop-at.packets.items) (map seen c.learn.new.packets.items) c.loop-at.invariant
    c.loop-at-test.true (ap (λ (l : List ℕ). piece_at (place_known c.loop-at.place) l) (sym c.behind.ensures) ∙ sym c.in-Some.ensures.value)
    c.in_ok-learn-in-Some.ensures.known c.in_ok-learn-in-Some.ensures.packets

pub returns : goal.returns
returns c =
    going_ends c.args.bytes.now (start_said c.args.start).known (place_known c.loop-at.place) c.args.start.size c.loop-at.at (map seen c.loop-at.packets.items) c.loop-at.invariant c.loop-at-test.false
