use Rattle.std.proofs.Common.{ℕ, List, subst}
use Rattle.rdm_script.specs.WrongWords.{AreFault, IsFirstWrong}
use Rattle.rdm_script.proofs.Words.{bytes_of}
use Rattle.rdm_script.proofs.WrongSteps.{poll_wrong, poll_ends}
use Rattle.rdm_script.proofs.grammar.wrong.wrong_in_poll.Goals as goal

pub returns-in-Some-clause-told : goal.returns-in-Some-clause-told
returns-in-Some-clause-told c d begun =
    rw c.wrong.ensures (poll_wrong d begun (bytes_of c.args.words.now) _ c.requires (subst (λ (fs : List (List ℕ)). IsFirstWrong AreFault fs c.in-Some.word.index) c.words_from.ensures c.in-Some.ensures.told))

pub returns-in-None-clause-told : goal.returns-in-None-clause-told
returns-in-None-clause-told c d begun = poll_ends d begun (bytes_of c.args.words.now) c.requires (subst AreFault c.words_from.ensures c.in-None.ensures.told)
