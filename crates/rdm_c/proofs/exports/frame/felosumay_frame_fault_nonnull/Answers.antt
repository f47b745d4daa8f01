use Rattle.std.proofs.Common.{rules, ◌≡◌, refl, sym, ap, ◌∙◌, Option, Some, None, Err, true, false, is_some, arith}
use Rattle.rdm_frame.specs.declared.decoding.FrameError.TheVariants.{Short, Start, SubStart, Length, Pdl, Checksum}
use Rattle.rdm_frame.specs.declared.frame.Frame.{Frame}
use Rattle.rdm_frame.specs.Reading.{frame_in}
use Rattle.rdm_c.proofs.exports.frame.felosumay_frame_fault_nonnull.Goals as goal

pub returns-in-Ok-clause-frame : goal.returns-in-Ok-clause-frame
returns-in-Ok-clause-frame c =
    let there : frame_in c.args.bytes.now ≡ Some c.in-Ok.field-0 = search rules in
    (λ e. ap (λ (o : Option Frame). is_some o) there, λ h. refl)

pub returns-in-Err-Short-clause-frame : goal.returns-in-Err-Short-clause-frame
returns-in-Err-Short-clause-frame c =
    let none : frame_in c.args.bytes.now ≡ None = search rules in
    (λ e. absurd (omega (arith, e)), λ h. absurd (let never : true ≡ false = sym h ∙ ap (λ (o : Option Frame). is_some o) none in cc))

pub returns-in-Err-Short-clause-fault : goal.returns-in-Err-Short-clause-fault
returns-in-Err-Short-clause-fault c =
    let is : c.decode_view.result ≡ Err Short = search rules in
    (c.decode_view.ensures.fault Short).0 is

pub returns-in-Err-Start-clause-frame : goal.returns-in-Err-Start-clause-frame
returns-in-Err-Start-clause-frame c =
    let none : frame_in c.args.bytes.now ≡ None = search rules in
    (λ e. absurd (omega (arith, e)), λ h. absurd (let never : true ≡ false = sym h ∙ ap (λ (o : Option Frame). is_some o) none in cc))

pub returns-in-Err-Start-clause-fault : goal.returns-in-Err-Start-clause-fault
returns-in-Err-Start-clause-fault c =
    let is : c.decode_view.result ≡ Err Start = search rules in
    (c.decode_view.ensures.fault Start).0 is

pub returns-in-Err-SubStart-clause-frame : goal.returns-in-Err-SubStart-clause-frame
returns-in-Err-SubStart-clause-frame c =
    let none : frame_in c.args.bytes.now ≡ None = search rules in
    (λ e. absurd (omega (arith, e)), λ h. absurd (let never : true ≡ false = sym h ∙ ap (λ (o : Option Frame). is_some o) none in cc))

pub returns-in-Err-SubStart-clause-fault : goal.returns-in-Err-SubStart-clause-fault
returns-in-Err-SubStart-clause-fault c =
    let is : c.decode_view.result ≡ Err SubStart = search rules in
    (c.decode_view.ensures.fault SubStart).0 is

pub returns-in-Err-Length-clause-frame : goal.returns-in-Err-Length-clause-frame
returns-in-Err-Length-clause-frame c =
    let none : frame_in c.args.bytes.now ≡ None = search rules in
    (λ e. absurd (omega (arith, e)), λ h. absurd (let never : true ≡ false = sym h ∙ ap (λ (o : Option Frame). is_some o) none in cc))

pub returns-in-Err-Length-clause-fault : goal.returns-in-Err-Length-clause-fault
returns-in-Err-Length-clause-fault c =
    let is : c.decode_view.result ≡ Err Length = search rules in
    (c.decode_view.ensures.fault Length).0 is

pub returns-in-Err-Pdl-clause-frame : goal.returns-in-Err-Pdl-clause-frame
returns-in-Err-Pdl-clause-frame c =
    let none : frame_in c.args.bytes.now ≡ None = search rules in
    (λ e. absurd (omega (arith, e)), λ h. absurd (let never : true ≡ false = sym h ∙ ap (λ (o : Option Frame). is_some o) none in cc))

pub returns-in-Err-Pdl-clause-fault : goal.returns-in-Err-Pdl-clause-fault
returns-in-Err-Pdl-clause-fault c =
    let is : c.decode_view.result ≡ Err Pdl = search rules in
    (c.decode_view.ensures.fault Pdl).0 is

pub returns-in-Err-Checksum-clause-frame : goal.returns-in-Err-Checksum-clause-frame
returns-in-Err-Checksum-clause-frame c =
    let none : frame_in c.args.bytes.now ≡ None = search rules in
    (λ e. absurd (omega (arith, e)), λ h. absurd (let never : true ≡ false = sym h ∙ ap (λ (o : Option Frame). is_some o) none in cc))

pub returns-in-Err-Checksum-clause-fault : goal.returns-in-Err-Checksum-clause-fault
returns-in-Err-Checksum-clause-fault c =
    let is : c.decode_view.result ≡ Err Checksum = search rules in
    (c.decode_view.ensures.fault Checksum).0 is
