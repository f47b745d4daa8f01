use Rattle.std.proofs.Common.{◌≡◌, ℕ, List, string_bytes, subst, ◌∙◌}
use Rattle.rdm_words.specs.Fixed.{with_start, AreWordsOfWhole}
use Rattle.rdm_words.specs.Unread.{AreLastOfWhole}
use Rattle.rdm_words.proofs.Fixed.{Adds}
use Rattle.rdm_words.specs.FrameFacts.{AreFactsOfWhole}
use Rattle.rdm_words.proofs.FrameNames.{Names}
use Rattle.rdm_words.proofs.Last.{Ends}
use Rattle.rdm_words.proofs.frame.frame_words.put_bytes_words.Goals as goal

pub returns : goal.returns
returns c =
    let old = string_bytes c.args.text.now in
    let new = string_bytes c.put_whole_words.new.text in
    let same : c.as_slice.result.now ≡ with_start c.args.bytes.now = c.as_slice.ensures.value ∙ c.with_start.ensures in
    record {
      fixed = subst (λ (b : List ℕ). Adds c.put_whole_words.result (λ words. AreWordsOfWhole b words) old new) same c.put_whole_words.ensures.fixed;
      last = subst (λ (b : List ℕ). Ends c.put_whole_words.result (λ words. AreLastOfWhole b words) old new) same c.put_whole_words.ensures.last;
      named = subst (λ (b : List ℕ). Names c.put_whole_words.result (λ facts. AreFactsOfWhole b facts) old new) same c.put_whole_words.ensures.named;
    }
