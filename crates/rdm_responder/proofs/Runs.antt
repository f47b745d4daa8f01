-- A loop over the inputs of a run: whatever finishes the rest of the run finishes the whole.
use Rattle.std.proofs.Common.{◌≡◌, ℕ, ◌+◌, ◌<◌, ◌≤◌, List, [], ◌∷◌, ◌++◌, length, get_or, drop, refl, sym, ap, subst, ◌∙◌, append_assoc, add-one}
use Rattle.std.proofs.Math.Seq.{drop-cons}
use Rattle.std.proofs.lemmas.List.{append-nil, drop_all}
use Rattle.rdm_responder.specs.declared.run.Input.{Input}
use Rattle.rdm_responder.specs.declared.run.Input.TheVariants as input
use Rattle.rdm_responder.specs.declared.run.Output.{Output}
use Rattle.rdm_responder.specs.declared.run.Output.TheVariants as output
use Rattle.rdm_responder.specs.History.{History}
use Rattle.rdm_responder.specs.Runs.{IsRun}
use Rattle.rdm_responder.specs.StandsFor.{State, StandsFor}

-- one step, and then a run
one_and_run : (h g end : History) (i : Input) (o : Output) (inputs : List Input) (outputs : List Output) → IsRun h (i ∷ []) (o ∷ []) g → IsRun g inputs outputs end → IsRun h (i ∷ inputs) (o ∷ outputs) end
one_and_run h g end (input.Heard bytes) (output.Answered reply job) inputs outputs one run =
    (one.0, one.1, subst (λ (k : History). IsRun k inputs outputs end) one.2 run)
one_and_run h g end (input.Heard bytes) (output.Arrived arrival) inputs outputs one run = one
one_and_run h g end (input.Heard bytes) (output.HandedBack astray) inputs outputs one run = one
one_and_run h g end (input.Heard bytes) (output.Changed message) inputs outputs one run = one
one_and_run h g end (input.Heard bytes) (output.NoRoom refused) inputs outputs one run = one
one_and_run h g end (input.Reported report) (output.Answered reply job) inputs outputs one run = one
one_and_run h g end (input.Reported report) (output.Arrived arrival) inputs outputs one run =
    (one.0, subst (λ (k : History). IsRun k inputs outputs end) one.1 run)
one_and_run h g end (input.Reported report) (output.HandedBack astray) inputs outputs one run =
    (one.0, one.1, subst (λ (k : History). IsRun k inputs outputs end) one.2 run)
one_and_run h g end (input.Reported report) (output.Changed message) inputs outputs one run = one
one_and_run h g end (input.Reported report) (output.NoRoom refused) inputs outputs one run = one
one_and_run h g end (input.Changed change) (output.Answered reply job) inputs outputs one run = one
one_and_run h g end (input.Changed change) (output.Arrived arrival) inputs outputs one run = one
one_and_run h g end (input.Changed change) (output.HandedBack astray) inputs outputs one run = one
one_and_run h g end (input.Changed change) (output.Changed message) inputs outputs one run =
    (one.0, subst (λ (k : History). IsRun k inputs outputs end) one.1 run)
one_and_run h g end (input.Changed change) (output.NoRoom refused) inputs outputs one run =
    (one.0, one.1, subst (λ (k : History). IsRun k inputs outputs end) one.2 run)

-- The outputs so far, with those of any run of the rest, are the outputs of a run of all.
abbrev pub Completes : State → State → List Output → List Input → List Input → Type 0
Completes start state outputs inputs rest =
    (h : History) → StandsFor start h → (g : History) × StandsFor state g
    × ((more : List Output) (end : History) → IsRun g rest more end → IsRun h inputs (outputs ++ more) end)

-- a step from any history that a state stands for
abbrev pub Steps : State → State → Input → Output → Type 0
Steps state next i o = (h : History) → StandsFor state h → (g : History) × StandsFor next g × IsRun h (i ∷ []) (o ∷ []) g

pub completes_first : (start : State) (outputs : List Output) (inputs : List Input) → outputs ≡ [] → Completes start start outputs inputs inputs
completes_first start outputs inputs e h stands = (h, stands, λ more end run. rw e run)

pub completes_next : (start state next : State) (outputs : List Output) (inputs : List Input) (i : ℕ) (d item : Input) (o : Output) (more : List Output) → more ≡ outputs ++ o ∷ [] → item ≡ get_or inputs i d → i < length inputs → Completes start state outputs inputs (drop i inputs) → Steps state next item o → Completes start next more inputs (drop (i + 1) inputs)
completes_next start state next outputs inputs i d item o more pushed at lt so_far steps h from =
    let before = so_far h from in
    let step = subst (λ (x : Input). Steps state next x o) at steps before.0 before.1 in
    let rest : drop i inputs ≡ get_or inputs i d ∷ drop (i + 1) inputs = drop-cons inputs i d lt ∙ ap (λ (k : ℕ). get_or inputs i d ∷ drop k inputs) (sym (add-one i)) in (
      step.0,
      step.1,
      λ others end run.
          rw (pushed, append_assoc outputs (o ∷ []) others)
          (before.2 (o ∷ others) end (rw rest (one_and_run before.0 step.0 end (get_or inputs i d) o (drop (i + 1) inputs) others step.2 run))),
    )

pub completes_all : (start state : State) (outputs : List Output) (inputs : List Input) (i : ℕ) → length inputs ≤ i → Completes start state outputs inputs (drop i inputs) → (h : History) → StandsFor start h → (end : History) × StandsFor state end × IsRun h inputs outputs end
completes_all start state outputs inputs i past so_far h from =
    let before = so_far h from in
    (before.0, before.1, subst (λ (os : List Output). IsRun h inputs os before.0) (append-nil outputs) (before.2 [] before.0 (rw (drop_all i inputs past) refl)))
