-- What is answered to requests.
use Rattle.std.proofs.Common.{◌≡◌, ℕ, Bool, true, false, ◌&&◌, ◌||◌, ◌==◌, cond, List, [], ◌∷◌, ◌++◌, refl, sym, ap, ap₂, ◌∙◌, true≢false}
use Rattle.std.specs.List.{list_all}
use Rattle.std.proofs.lemmas.Bool.{eqb-true}
use Rattle.rdm_messages.specs.Framing.{Message, bytes_of}
use Rattle.rdm_messages.specs.Hearing.{Hearing}
use Rattle.rdm_messages.specs.Protocol.{parameters, serial_number, answer_of_line, answer_of_discovery, answer_to, after_message}
use Rattle.rdm_messages.specs.Serving.{Turn, messages_in, answers, is_request, replies_in, answer_with, answers_with}

-- what is answered to a message with this label, if it is a request to which this comes
abbrev to_label : List Message → List Message → ℕ → List Message
to_label line discovery n =
    cond (n == 3) (parameters ∷ []) (cond (n == 10) (serial_number ∷ []) (cond (n == 7) line (cond (n == 11) discovery [])))

by_label : (n : ℕ) (line discovery : List Message) (t : Bool) → (n == 7) ≡ t → (t || (n == 11)) ≡ true → to_label line discovery n ≡ cond (n == 11) discovery line
by_label n line discovery true e is =
    let seven : n ≡ 7 = eqb-true n 7 e in ap (to_label line discovery) seven ∙ ap (λ k. cond (k == 11) discovery line) (sym seven)
by_label n line discovery false e is =
    let eleven : n ≡ 11 = eqb-true n 11 is in ap (to_label line discovery) eleven ∙ ap (λ k. cond (k == 11) discovery line) (sym eleven)

to_request : (n : ℕ) (line discovery : List Message) → ((n == 7) || (n == 11)) ≡ true → to_label line discovery n ≡ cond (n == 11) discovery line
to_request n line discovery is = by_label n line discovery (n == 7) refl is

one_answer : {D S : Type 0} (line : Hearing D S) (now : ℕ) (s : S) (m : Message) → is_request m ≡ true → answer_to line now s m ≡ answer_with m (line.reply now s m.body)
one_answer line now s m is = to_request m.label (answer_of_line (line.reply now s m.body)) (answer_of_discovery (line.reply now s m.body)) is

both : (a b : Bool) → (a && b) ≡ true → (a ≡ true) × (b ≡ true)
both true b e = (refl, e)
both false b e = absurd (true≢false (sym e))

pub answered_with : {D S : Type 0} (line : Hearing D S) (s : S) (turns : List Turn) → list_all is_request (messages_in turns) ≡ true
    → answers line s turns ≡ answers_with (messages_in turns) (replies_in line s turns)
answered_with line s [] all = refl
answered_with line s (turn ∷ turns) all =
    let each = both (is_request turn.message) (list_all is_request (messages_in turns)) all in
    ap₂ (λ (xs ys : List ℕ). xs ++ ys) (ap bytes_of (one_answer line turn.at s turn.message each.0))
    (answered_with line (after_message line turn.at s turn.message) turns each.1)
