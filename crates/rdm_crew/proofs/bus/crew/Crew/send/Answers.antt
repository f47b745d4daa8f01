use Rattle.std.proofs.Common.{ℕ, ◌<◌, refl, sym, ap, subst, ◌∷◌, ◌++◌, [], ◌∙◌, Option}
use Rattle.std.specs.Option.{option_to_list}
use Rattle.rdm_commands.proofs.TwoWorkers.{there_are_two_workers}
use Rattle.rdm_responder.specs.declared.stepped.Started.{Started}
use Rattle.rdm_responder.specs.Started.{job_in}
use Rattle.rdm_bus.specs.Steps.{step_of}
use Rattle.rdm_crew.specs.Desks.{began, chosen}
use Rattle.rdm_crew.proofs.Playing.{own_worker, first_has_room, second_has_room, handed, none_handed}
use Rattle.rdm_crew.proofs.bus.crew.Crew.send.Goals as goal

pub hand_out-requires-clause-first : goal.hand_out-requires-clause-first
hand_out-requires-clause-first g c =
    let before = c.requires.tied.drawn.run in
    first_has_room c.started_work_is_its_command.ensures.get c.started_work_is_its_command.ensures.set c.args.self.now (step_of c.args.step.now) c.in_ok-started.ensures.event.0 c.in-Some.started.job c.requires.tied
    (c.in_ok-started.ensures.event.2 (began c.args.self.now.desk) before.0 before.1)
    (sym (c.in_ok-started.ensures.event.3 ∙ ap (λ (o : Option Started). option_to_list (job_in o)) c.in-Some.is))

pub hand_out-requires-clause-second : goal.hand_out-requires-clause-second
hand_out-requires-clause-second g c =
    let before = c.requires.tied.drawn.run in
    second_has_room c.started_work_is_its_command.ensures.get c.started_work_is_its_command.ensures.set c.args.self.now (step_of c.args.step.now) c.in_ok-started.ensures.event.0 c.in-Some.started.job c.requires.tied
    (c.in_ok-started.ensures.event.2 (began c.args.self.now.desk) before.0 before.1)
    (sym (c.in_ok-started.ensures.event.3 ∙ ap (λ (o : Option Started). option_to_list (job_in o)) c.in-Some.is))

pub returns-in-Some-clause-played : goal.returns-in-Some-clause-played
returns-in-Some-clause-played g c =
    let before = c.requires.tied.drawn.run in
    let at = began c.args.self.now.desk in
    handed c.args.self.now c.hand_out.new.self _ (step_of c.args.step.now) c.in_ok-started.ensures.event.0 c.in-Some.started.job c.hand_out.result c.requires.tied c.requires.sent
    (refl, refl, c.in_ok-started.ensures.event.1, c.in_ok-started.ensures.event.2 at before.0 before.1, (before.0 ++ step_of c.args.step.now ∷ [], c.in_ok-started.ensures.trace at before.0 before.1))
    (sym (c.in_ok-started.ensures.event.3 ∙ ap (λ (o : Option Started). option_to_list (job_in o)) c.in-Some.is))
    c.hand_out.ensures.put c.hand_out.ensures.desk c.hand_out.ensures.same.1 c.hand_out.ensures.same.2

pub returns-in-None-clause-played : goal.returns-in-None-clause-played
returns-in-None-clause-played g c =
    let before = c.requires.tied.drawn.run in
    let at = began c.args.self.now.desk in
    none_handed c.args.self.now _ (step_of c.args.step.now) c.in_ok-started.ensures.event.0 c.requires.tied c.requires.sent
    (refl, refl, c.in_ok-started.ensures.event.1, c.in_ok-started.ensures.event.2 at before.0 before.1, (before.0 ++ step_of c.args.step.now ∷ [], c.in_ok-started.ensures.trace at before.0 before.1))
    (sym (c.in_ok-started.ensures.event.3 ∙ ap (λ (o : Option Started). option_to_list (job_in o)) c.in-None.is)) refl refl

pub hand_out-requires-clause-two : goal.hand_out-requires-clause-two
hand_out-requires-clause-two g c =
    let own = own_worker c.args.self.now.desk _ c.in-Some.started c.requires.tied.drawn.run c.in_ok-started.ensures.worker c.in-Some.is in
    subst (λ (n : ℕ). n < 2) (sym own) (there_are_two_workers (chosen c.args.self.now.desk) c.in-Some.started.job.work)

pub hand_out-requires-clause-choice : goal.hand_out-requires-clause-choice
hand_out-requires-clause-choice g c = own_worker c.args.self.now.desk _ c.in-Some.started c.requires.tied.drawn.run c.in_ok-started.ensures.worker c.in-Some.is
