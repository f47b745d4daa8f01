use Rattle.std.proofs.Common.{◌≡◌, ℕ, List, true, OnOk, ap, string_bytes, subst, sym, ◌∙◌}
use Rattle.rdm_frame.specs.declared.frame.Frame.{Frame}
use Rattle.rdm_words.specs.DataFacts.{body_facts, put_off_facts}
use Rattle.rdm_words.specs.Naming.{AddsNames}
use Rattle.rdm_words.specs.Unread.{is_put_off, is_response}
use Rattle.rdm_words.proofs.Naming.{adds_put_off}
use Rattle.rdm_words.proofs.frame.frame_words.put_body.Goals as goal

-- what is named of the data of an ACK_TIMER or a NACK
put_off_body : (f : Frame) (d : List ℕ) → is_response f.class ≡ true → is_put_off f.port ≡ true → f.body ≡ d → put_off_facts d ≡ body_facts f
put_off_body f d response off is = rw (response, off) (ap (λ (b : List ℕ). put_off_facts b) (sym is))

pub returns-then-is_put_off-clause-named : goal.returns-then-is_put_off-clause-named
returns-then-is_put_off-clause-named c =
    let seen = sym c.frame.view_is in
    subst (λ (facts : List (List ℕ)). OnOk c.put_put_off.result (AddsNames facts (string_bytes c.args.text.now) (string_bytes c.put_put_off.new.text)))
    (put_off_body c.args.frame.now c.frame.inside.body.now (ap (λ (f : Frame). is_response f.class) seen ∙ (sym c.is_response.ensures ∙ c.if-is_response.true))
    (ap (λ (f : Frame). is_put_off f.port) seen ∙ (sym c.is_put_off.ensures ∙ c.if-is_put_off.true)) (ap (λ (f : Frame). f.body) seen))
    (adds_put_off c.put_put_off.result c.frame.inside.body.now (string_bytes c.args.text.now) (string_bytes c.put_put_off.new.text) c.put_put_off.ensures)
