use Rattle.std.proofs.Common.{◌≡◌, ℕ, List, true, OnOk, subst}
use Rattle.rdm_words.specs.Learned.{was_asked}
use Rattle.rdm_words.proofs.Learning.{noted_so}
use Rattle.rdm_words.proofs.learned.Learned.note.Goals as goal

pub returns : goal.returns
returns c =
    let question = c.args.question.now in
    record {
      noted = subst (λ (asked : List ℕ). OnOk c.put.result (was_asked question.uid question.pid asked c.put.new.answers.items ≡ true)) c.copy.ensures
          (noted_so c.put.result _ _ _ c.put.ensures);
    }
