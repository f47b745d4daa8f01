use Rattle.rdm_words.specs.Fixed.{AreWordsOfLine}
use Rattle.rdm_words.specs.FrameFacts.{AreFactsOfLine}
use Rattle.rdm_words.specs.Unread.{AreLastOfLine}
use Rattle.rdm_words.proofs.Fixed.{told_these}
use Rattle.rdm_words.proofs.line_words.put_line_words.Goals as goal

pub returns : goal.returns
returns c =
    record {
      told = told_these c.put_told.result (λ words. AreWordsOfLine c.args.before.now c.args.line.now words) (λ words. AreLastOfLine c.args.line.now words) (λ facts. AreFactsOfLine c.args.line.now facts) _ _ _ _ _
          c.as_bytes.ensures.value c.new-text.ensures.bytes c.in_ok-put_trace_line.ensures.fixed c.in_ok-put_trace_line.ensures.last c.in_ok-put_trace_line.ensures.named c.put_told.ensures.told;
    }
