-- A lawful history, and one event more.
use Rattle.std.proofs.Common.{List, [], ◌∷◌, ◌++◌}
use Rattle.std.specs.Prelude.{fold}
use Rattle.rdm_responder.specs.History.{Event, History, then_event}
use Rattle.rdm_responder.specs.Lawful.{MayHappen, AreLawful, IsLawful}
use Rattle.rdm_responder.specs.Rules.{Account, account_of, account_before, account_after}

one_more : (a : Account) (es : List Event) (e : Event) → AreLawful a es → MayHappen (fold account_after a es) e → AreLawful a (es ++ e ∷ [])
one_more a [] e all may = (may, tt)
one_more a (x ∷ xs) e all may = (all.0, one_more (account_after a x) xs e all.1 may)

last_of_all : (a : Account) (es : List Event) (e : Event) → AreLawful a (es ++ e ∷ []) → MayHappen (fold account_after a es) e
last_of_all a [] e all = all.0
last_of_all a (x ∷ xs) e all = last_of_all (account_after a x) xs e all.1

-- a history stays lawful by an event exactly where it may happen
pub lawful_then : (h : History) (e : Event) → IsLawful h → MayHappen (account_of h) e → IsLawful (then_event h e)
unfolding account_of
lawful_then h e lawful may = one_more (account_before h.setup) h.events e lawful may

pub may_happen : (h : History) (e : Event) → IsLawful (then_event h e) → MayHappen (account_of h) e
unfolding account_of
may_happen h e lawful = last_of_all (account_before h.setup) h.events e lawful
