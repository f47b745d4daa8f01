use Rattle.std.proofs.Common.{◌≡◌, ◌∙◌, ℕ, List, [], ◌∷◌, ◌++◌, refl, sym, subst}
use Rattle.std.proofs.lemmas.List.{append-nil}
use Rattle.rdm_responder.specs.History.{Heard, then_event}
use Rattle.rdm_responder.specs.StandsFor.{State, StandsFor}
use Rattle.rdm_bench.specs.declared.reports.Reports.{Reports}
use Rattle.rdm_bench.specs.Replay.{IsReplay}
use Rattle.rdm_bench.specs.Tally.{tally_of}
use Rattle.rdm_bench.proofs.Runs.{bytes_answered, heard_and_reported, replay_and_run}
use Rattle.rdm_bench.proofs.replay.Replay.hear.Goals as goal
use Rattle.rdm_bench.proofs.replay.Replay.hear.Goals.{then-stepped, else-stepped}

pub returns-clause-replayed : goal.returns-clause-replayed
returns-clause-replayed c start before from =
    let g = from.0 in
    let frame = c.args.frame in
    let stepped = c.step_into-stepped in
    let responder : c.if-stepped.self.responder ≡ stepped.new.self = elim c.if-stepped.branch [
      | then-stepped w ↦ rw w.self-is refl
      | else-stepped w ↦ rw w.self-is refl
    ] in
    let reports : c.if-stepped.self.reports ≡ c.args.self.now.reports = elim c.if-stepped.branch [
      | then-stepped w ↦ rw w.self-is refl
      | else-stepped w ↦ rw w.self-is refl
    ] in
    let tallied : (bytes : List ℕ) → c.args.self.now.tally ≡ tally_of bytes → c.if-stepped.self.tally ≡ tally_of (bytes ++ bytes_answered stepped.result.replied stepped.new.wire) = λ bytes is. elim c.if-stepped.branch [
      | then-stepped w ↦ rw (w.self-is, w.if-stepped.true, ← w.as_slice.ensures.value) (w.add.ensures bytes is)
      | else-stepped w ↦ rw (w.self-is, w.if-stepped.false, append-nil bytes) is
    ] in
    let heard = then_event g (Heard frame.now) in
    let reported = c.report.ensures heard (subst (λ (r : State). StandsFor r heard) (sym responder) (stepped.ensures.stands g from.1)) in
    let first = subst (λ (r : Reports). IsReplay start r before c.args.self.now.tally g) (sym reports) from.2 in
    let run = heard_and_reported g reported.0 frame stepped.result.replied stepped.new.wire c.job.result _ (stepped.ensures.reply g from.1) (c.job.ensures ∙ stepped.ensures.job g from.1) reported.2 in
    (reported.0, reported.1, replay_and_run start g reported.0 _ before (frame.now ∷ []) _ _ _ _ first run tallied)
