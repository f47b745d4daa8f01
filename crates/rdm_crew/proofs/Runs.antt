-- The whole run: the pieces of the steps, and the last piece.
use Rattle.std.proofs.Common.{◌≡◌, ℕ, List, [], ◌++◌, sym, ap, subst, ◌∙◌}
use Rattle.rdm_commands.specs.declared.panel.Change.{Change}
use Rattle.rdm_commands.specs.declared.jobs.outcome.Outcome.{Outcome}
use Rattle.rdm_outbox.specs.declared.job.Job.{Job}
use Rattle.rdm_params.specs.Jobs.Work.{Choice}
use Rattle.rdm_outbox.specs.Jobs.{outstanding_count}
use Rattle.rdm_responder.specs.Runs.{outbox_of}
use Rattle.rdm_responder.specs.declared.report.Report.{Report}
use Rattle.rdm_bus.specs.declared.event.Event.{Event}
use Rattle.rdm_bus.specs.BusLaws.{recorded}
use Rattle.rdm_bus.specs.BusRun.{Start, after_all}
use Rattle.rdm_lane.specs.declared.taken.Taken.{Taken}
use Rattle.rdm_lane.specs.Ends.{PostState}
use Rattle.rdm_lane.specs.Lane.{LaneLaw}
use Rattle.rdm_crew.specs.declared.bus.crew.Crew.{Crew}
use Rattle.rdm_crew.specs.declared.bus.desk.Desk.{Desk}
use Rattle.rdm_crew.specs.declared.step.CrewStep.{CrewStep}
use Rattle.rdm_crew.specs.declared.trace.Ended.{Ended}
use Rattle.rdm_crew.specs.Closes.{handed_by, IsHandedOver}
use Rattle.rdm_crew.specs.Crews.{HasJobs, jobs_for, IsTied, HavePlayed}
use Rattle.rdm_crew.specs.Desks.{chosen, began, stands_at, IsSameDesk, HaveArrived}
use Rattle.rdm_bus.specs.Happened.{changes_in}
use Rattle.rdm_crew.specs.Stages.{IsEnded}
use Rattle.rdm_crew.specs.RunTrace.{IsCut, IsAnswered, IsRunTrace, FitsFor}
use Rattle.rdm_crew.specs.Watchers.{AreOffered}
use Rattle.rdm_crew.proofs.Drawing.{jobs_stay, same_jobs, stands_after}

pub closing_jobs : (c : Crew) (e : Desk) (first second : PostState Job) → IsTied c → e.setup ≡ c.desk.setup → HaveArrived c.desk e → first ≡ c.first → second ≡ c.second → HasJobs e first second
closing_jobs c e first second tied same arrived f s =
    let stay : (p : ℕ) → jobs_for p c.desk ≡ jobs_for p e = λ p. jobs_stay p c.desk e same (same_jobs c.desk e arrived) in (
      ap (λ (p : PostState Job). p.items) f ∙ tied.jobs.0 ∙ stay 0,
      ap (λ (p : PostState Job). p.items) s ∙ tied.jobs.1 ∙ stay 1,
    )

run_cut : (steps : List CrewStep) (d m e : Desk) → d.system.trace ≡ [] → IsSameDesk m e → HavePlayed steps d m → HaveArrived m e → outstanding_count (outbox_of (stands_at e).history) ≡ 0 → IsCut (began d) steps e.system.trace
run_cut steps d m e new same played arrived none =
    let last : IsCut (stands_at d) steps (played.0 ++ arrived.0) =
    played.2 arrived.0 (arrived.2, subst (λ (s : Start). outstanding_count (outbox_of s.history) ≡ 0) (stands_after m e arrived.0 same.0 arrived.1) none) in
    let events : e.system.trace ≡ played.0 ++ arrived.0 = arrived.1 ∙ ap (λ (l : List Event). l ++ arrived.0) (played.1 ∙ ap (λ (l : List Event). l ++ played.0) new) in
    subst (IsCut (began d) steps) (sym events) (subst (λ (l : List Event). IsCut (after_all (began d) l) steps (played.0 ++ arrived.0)) new last)

run_trace : (steps : List CrewStep) (d m e : Desk) (g0 g1 : List Job → Job → Outcome → Type 0) (offers : ℕ → Change → Type 0) (t : Ended) → d.system.trace ≡ [] → m.setup ≡ d.setup → IsSameDesk m e → HavePlayed steps d m → HaveArrived m e
    → t.system.trace ≡ e.system.trace → outstanding_count (outbox_of (stands_at e).history) ≡ 0 → IsAnswered (chosen e) 0 g0 e.system.trace → IsAnswered (chosen e) 1 g1 e.system.trace
    → AreOffered offers 0 (changes_in e.system.trace) → IsRunTrace d.setup.value g0 g1 offers steps t.system.trace
run_trace steps d m e g0 g1 offers t new kept same played arrived events none first second changes =
    let ws : chosen e ≡ chosen d = ap (λ s. s.value.profile.workers) (same.0 ∙ kept) in
    subst (IsRunTrace d.setup.value g0 g1 offers steps) (sym events)
    (record {
      cut = run_cut steps d m e new same played arrived none;
      first = subst (λ (v : Choice). IsAnswered v 0 g0 e.system.trace) ws first;
      second = subst (λ (v : Choice). IsAnswered v 1 g1 e.system.trace) ws second;
      changes = changes;
    })

-- what a run leaves whose last reports were drawn
pub ended_at : (steps : List CrewStep) (d m e : Desk) (g0 g1 : List Job → Job → Outcome → Type 0) (offers : ℕ → Change → Type 0) (t : Ended) → d.system.trace ≡ [] → m.setup ≡ d.setup → IsSameDesk m e → HavePlayed steps d m → HaveArrived m e
    → t.system.trace ≡ e.system.trace → outstanding_count (outbox_of (stands_at e).history) ≡ 0 → IsAnswered (chosen e) 0 g0 e.system.trace → IsAnswered (chosen e) 1 g1 e.system.trace
    → AreOffered offers 0 (changes_in e.system.trace)
    → t.system.collector.recorded ≡ recorded e.system.trace → IsHandedOver (chosen e) e.system.trace (handed_by e.reports.taken) → t.reports.taken ≡ e.reports.taken → LaneLaw 2 t.reports.taken t.reports.posted
    → IsEnded d.setup.value g0 g1 offers steps t
ended_at steps d m e g0 g1 offers t new kept same played arrived events none first second changes collected handed taken law =
    let ws : chosen e ≡ chosen d = ap (λ s. s.value.profile.workers) (same.0 ∙ kept) in
    record {
      trace = run_trace steps d m e g0 g1 offers t new kept same played arrived events none first second changes;
      collected = collected ∙ ap recorded (sym events);
      handed = subst (λ (v : Choice). IsHandedOver v t.system.trace (handed_by t.reports.taken)) ws
          (subst (λ (l : List Event). IsHandedOver (chosen e) l (handed_by t.reports.taken)) (sym events)
          (subst (λ (l : List (Taken Report)). IsHandedOver (chosen e) e.system.trace (handed_by l)) (sym taken) handed));
      lane = law;
    }

-- ---- where the setup stays, so does the choice of workers

pub fits_at : (d e : Desk) (g0 g1 : Job → Outcome → Type 0) → e.setup ≡ d.setup → FitsFor (chosen d) 0 g0 × FitsFor (chosen d) 1 g1 → FitsFor (chosen e) 0 g0 × FitsFor (chosen e) 1 g1
fits_at d e g0 g1 same fits =
    let ws : chosen d ≡ chosen e = ap (λ s. s.value.profile.workers) (sym same) in
    subst (λ (v : Choice). FitsFor v 0 g0 × FitsFor v 1 g1) ws fits
