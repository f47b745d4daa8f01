use Rattle.rdm_words.specs.Fixed.{AreWordsOfBytes}
use Rattle.rdm_words.specs.FrameFacts.{AreFactsOfBytes}
use Rattle.rdm_words.specs.Unread.{AreLastOfBytes}
use Rattle.rdm_words.proofs.Fixed.{told_these}
use Rattle.rdm_words.proofs.line_words.put_wire_words.Goals as goal

pub returns : goal.returns
returns c =
    record {
      told = told_these c.put_told.result (λ words. AreWordsOfBytes c.args.bytes.now words) (λ words. AreLastOfBytes c.args.bytes.now words) (λ facts. AreFactsOfBytes c.args.bytes.now facts) _ _ _ _ _
          c.as_bytes.ensures.value c.new-text.ensures.bytes c.in_ok-put_bytes_words.ensures.fixed c.in_ok-put_bytes_words.ensures.last c.in_ok-put_bytes_words.ensures.named c.put_told.ensures.told;
    }
