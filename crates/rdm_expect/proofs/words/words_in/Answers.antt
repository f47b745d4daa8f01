use Rattle.std.proofs.Common.{List, ◌++◌, flat_map, Bor, ℕ, ap, ◌∙◌}
use Rattle.rdm_expect.specs.Lines.{kept_word}
use Rattle.rdm_expect.proofs.WordSteps.{words_are}
use Rattle.rdm_expect.proofs.words.words_in.Goals as goal

pub returns : goal.returns
returns c = λ line is.
    words_are c.args.text.now line c.put_words.new.words.items c.in_ok-pieces.pieces.items
    (c.in_ok-put_words.ensures ∙ ap (λ (ws : List (Bor (List ℕ))). ws ++ flat_map kept_word c.deref.result.now) c.new-words.ensures.items ∙ ap (flat_map kept_word) c.deref.ensures.value)
    c.in_ok-pieces.ensures is
