use Rattle.std.proofs.Common.{◌≡◌, ◌++◌, ℕ, List, OnOk, codes, string_bytes, subst, append_assoc, ap, ◌∙◌}
use Rattle.rdm_frame.specs.UidText.{uid_text}
use Rattle.rdm_words.specs.HeaderWords.{parties_words, destination_words}
use Rattle.rdm_words.proofs.Appends.{two}
use Rattle.rdm_words.proofs.frame.header.put_parties.Goals as goal

pub returns : goal.returns
unfolding parties_words
returns c =
    let front = uid_text c.args.source ++ (codes " " ++ (c.args.verb.now ++ codes " ")) in
    subst (λ (w : List ℕ). OnOk c.put_destination.result (string_bytes c.put_destination.new.text ≡ string_bytes c.args.text.now ++ w))
    (append_assoc (uid_text c.args.source) (codes " " ++ (c.args.verb.now ++ codes " ")) (destination_words c.args.uid)
    ∙ ap (λ (w : List ℕ). uid_text c.args.source ++ (codes " " ++ w)) (append_assoc c.args.verb.now (codes " ") (destination_words c.args.uid)))
    (two c.put_destination.result (string_bytes c.args.text.now) front _ (destination_words c.args.uid) _ c.in_ok-write.ensures.bytes c.put_destination.ensures)
