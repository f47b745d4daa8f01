use Rattle.std.proofs.Common.{[], Some, refl, sym, ◌∙◌, arith}
use Rattle.rdm_receiver.specs.declared.signal.Signal.TheVariants.{Break, Byte, Error}
use Rattle.rdm_receiver.specs.Signals.{since_break}
use Rattle.rdm_receiver.specs.Receiving.{IsBegun, KeepsBytes}
use Rattle.rdm_receiver.proofs.Hearing.{heard_more, kept, output_more}
use Rattle.rdm_receiver.proofs.receiver.Receiver.receive.Goals as goal

pub returns-in-Break-clause-heard : goal.returns-in-Break-clause-heard
returns-in-Break-clause-heard c = λ signals heard. heard_more _ signals c.args.signal Break c.in-Break.is (record {
  packet = λ _. (
    refl,
    refl,
    record {
      start = λ h. absurd (omega (arith, h));
      sub_start = λ h. absurd (omega (arith, h));
      least = λ h. absurd (omega (arith, h));
      unfinished = λ h. absurd (omega (arith, h));
      fits = omega arith;
    },
  );
  levels = λ e. absurd (omega (arith, e));
  spent = λ waits. absurd (waits.no_packet refl);
})

pub returns-in-Break-clause-output : goal.returns-in-Break-clause-output
returns-in-Break-clause-output c = λ signals heard. output_more signals c.args.signal Break c.in-Break.is

pub returns-in-Error-clause-heard : goal.returns-in-Error-clause-heard
returns-in-Error-clause-heard c = λ signals heard. heard_more _ signals c.args.signal Error c.in-Error.is (record {
  no_packet = λ e. absurd (omega (arith, e));
  no_levels = λ e. absurd (omega (arith, e));
})

pub returns-in-Error-clause-output : goal.returns-in-Error-clause-output
returns-in-Error-clause-output c = λ signals heard. output_more signals c.args.signal Error c.in-Error.is

pub returns-in-Byte-clause-heard : goal.returns-in-Byte-clause-heard
returns-in-Byte-clause-heard c = λ signals heard. heard_more _ signals c.args.signal (Byte c.in-Byte.byte) c.in-Byte.is
    (c.take.ensures.keeps (since_break signals) (kept c.args.self.now signals heard))

pub returns-in-Byte-clause-output : goal.returns-in-Byte-clause-output
returns-in-Byte-clause-output c = λ signals heard.
    c.take.ensures.output (since_break signals) (kept c.args.self.now signals heard) ∙ output_more signals c.args.signal (Byte c.in-Byte.byte) c.in-Byte.is
