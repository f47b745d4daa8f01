use Rattle.std.proofs.Common.{List, sym, ap, subst, refl, ◌∙◌}
use Rattle.rdm_outbox.specs.declared.job.Job.{Job}
use Rattle.rdm_outcomes.specs.Outcomes.{HasEnded}
use Rattle.rdm_responder.specs.History.{Setup}
use Rattle.rdm_widget.specs.Measuring.{after_courses}
use Rattle.rdm_widget.proofs.Measured.{come_setup, come_reported}
use Rattle.rdm_widget.proofs.live_fixture.LiveFixture.follow_courses.Goals as goal

pub returns : goal.returns
returns c = λ s is.
    record {
      uid = is.uid ∙ ap (λ (setup : Setup). setup.uid) (sym (come_setup s.looked c.args.now s.notices s.courses s.history));
      responder =
          rw (c.as_slice-2.ensures.value, c.as_slice.ensures.value, is.courses, is.notices, is.looked)
          at (c.note_all.ensures (after_courses c.args.self.now.looked c.args.now c.as_slice.result.now s.history) (c.follow_all.ensures s.history is.responder));
      planned =
          subst (λ (l : List Job). HasEnded c.args.self.now.planned s.rules l) (sym (come_reported s.looked c.args.now s.notices s.courses s.history)) is.planned;
      first = is.first;
      second = is.second;
      courses = is.courses;
      notices = is.notices;
      looked = refl;
    }
