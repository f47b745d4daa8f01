-- What a receiver has heard, with a signal more.
use Rattle.std.proofs.Common.{◌≡◌, ℕ, List, [], ◌∷◌, ◌++◌, Option, Some, None, refl, sym, ap, subst, ◌∙◌}
use Rattle.std.proofs.lemmas.List.Sums.{fold_push}
use Rattle.rdm_receiver.specs.declared.receiver.Receiver.{Receiver}
use Rattle.rdm_receiver.specs.declared.signal.Signal.{Signal}
use Rattle.rdm_receiver.specs.Signals.{output_after, output_since, since_break, then_signal}
use Rattle.rdm_receiver.specs.Receiving.{HasHeard, Keeps}

pub since_more : (signals : List Signal) (signal : Signal) → since_break (signals ++ signal ∷ []) ≡ then_signal (since_break signals) signal
unfolding since_break
since_more signals signal = fold_push then_signal None signals signal

-- what it keeps is what it has heard
pub kept : (r : Receiver) (signals : List Signal) → HasHeard r signals → Keeps r (since_break signals)
unfolding HasHeard
kept r signals heard = heard

pub heard_more : (r : Receiver) (signals : List Signal) (signal same : Signal) → signal ≡ same → Keeps r (then_signal (since_break signals) same)
    → HasHeard r (signals ++ signal ∷ [])
unfolding HasHeard
heard_more r signals signal same e keeps = subst (Keeps r) (sym (since_more signals signal ∙ ap (then_signal (since_break signals)) e)) keeps

pub output_more : (signals : List Signal) (signal same : Signal) → signal ≡ same
    → output_since (then_signal (since_break signals) same) ≡ output_after (signals ++ signal ∷ [])
output_more signals signal same e = sym (ap output_since (since_more signals signal ∙ ap (then_signal (since_break signals)) e))
