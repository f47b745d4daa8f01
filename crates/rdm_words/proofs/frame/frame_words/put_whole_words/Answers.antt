use Rattle.std.proofs.Common.{arith}
use Rattle.rdm_words.proofs.Fixed.{adds_none, adds_bytes, clash, same_err}
use Rattle.rdm_words.proofs.FrameNames.{names_frame, names_none}
use Rattle.rdm_words.proofs.Last.{last_of_frame, last_of_none}
use Rattle.rdm_words.proofs.frame.frame_words.put_whole_words.Goals as goal

pub returns-in-Ok : goal.returns-in-Ok
returns-in-Ok c =
    record {
      fixed = adds_none c.put_frame.result c.args.bytes.now _ _ (λ e first. clash c.decode_view.result _ e c.in-Ok.is ((c.decode_view.ensures.fault e).1 first));
      last = last_of_frame c.put_frame.result c.decode_view.result c.args.bytes.now c.in-Ok.frame _ _ c.in-Ok.is c.in-Ok.ensures.ok.0 c.decode_view.ensures.value
          (λ e first. clash c.decode_view.result _ e c.in-Ok.is ((c.decode_view.ensures.fault e).1 first)) c.put_frame.ensures.last;
      named = names_frame c.put_frame.result c.decode_view.result c.args.bytes.now c.in-Ok.frame _ _ c.in-Ok.is c.decode_view.ensures.value c.put_frame.ensures.named;
    }

pub returns-in-Err : goal.returns-in-Err
returns-in-Err c =
    record {
      fixed = adds_bytes c.put_other.result c.in-Err.error c.args.bytes.now _ _ (λ i. omega (arith, c.type_inv.bytes i))
          (λ e first. same_err c.decode_view.result c.in-Err.error e c.in-Err.is ((c.decode_view.ensures.fault e).1 first)) c.put_other.ensures.answer c.put_other.ensures.stray;
      last = last_of_none c.put_other.result c.decode_view.result c.args.bytes.now c.in-Err.error _ _ c.in-Err.is c.decode_view.ensures.value (λ i. omega (arith, c.type_inv.bytes i))
          (λ e first. same_err c.decode_view.result c.in-Err.error e c.in-Err.is ((c.decode_view.ensures.fault e).1 first)) c.put_other.ensures.readable;
      named = names_none c.put_other.result c.decode_view.result c.args.bytes.now c.in-Err.error _ _ c.in-Err.is c.decode_view.ensures.value;
    }
