use Rattle.std.proofs.Common.{◌≡◌, ℕ, ◌-◌, ◌≤◌, List, Some, length, take, drop, sym, ap, subst, ◌∙◌, refl, arith}
use Rattle.std.proofs.lemmas.Bool.{false≢true}
use Rattle.std.proofs.lemmas.Bool.Decides.{Decides-eqb}
use Rattle.std.proofs.lemmas.Slice.Eq.{slice_eq-Decides}
use Rattle.rdm_frame.specs.declared.uid.Uid.{Uid}
use Rattle.rdm_frame.specs.FrameText.{IsUid}
use Rattle.rdm_frame.specs.Discovery.{branch_reply, IsBranchReply}
use Rattle.rdm_frame.proofs.Branches.{part_length, part_again, whole_part}
use Rattle.rdm_frame.proofs.discovery.branch_uid.Goals as goal
use Rattle.rdm_frame.proofs.discovery.branch_uid.Goals.{then-len-le-CODED_BYTES-via-then-len-le-CODED_BYTES, then-len-le-CODED_BYTES-via-else-len-le-CODED_BYTES+then-len-gt-REPLY_BYTES}

pub returns-then-len-le-CODED_BYTES-clause-read : goal.returns-then-len-le-CODED_BYTES-clause-read
returns-then-len-le-CODED_BYTES-clause-read c uid fits part =
    let e : length c.args.bytes.now ≡ 24 - part.0 = ap length part.2 ∙ part_length uid part.0 in
    absurd (elim c.then-len-le-CODED_BYTES.branch [ then-len-le-CODED_BYTES-via-then-len-le-CODED_BYTES w ↦ omega (arith, part.1) | then-len-le-CODED_BYTES-via-else-len-le-CODED_BYTES+then-len-gt-REPLY_BYTES w ↦ omega (arith, part.1) ])

pub returns-then-eq-clause-read : goal.returns-then-eq-clause-read
returns-then-eq-clause-read c uid fits part =
    ap (λ (u : Uid). Some u) (c.uncoded_uid-uid.ensures ∙ part_again uid fits c.args.bytes.now part.0 part.1 part.2)

pub returns-then-eq-clause-only : goal.returns-then-eq-clause-only
returns-then-eq-clause-only c uid e =
    let same : c.uncoded_uid-uid.result ≡ uid = cc in
    let u = c.uncoded_uid-uid.result in
    let lost : ℕ = 24 - length c.args.bytes.now in
    let equal = (slice_eq-Decides Decides-eqb c.args.bytes.now _ _ refl).0 (sym c.if-eq.ensures) in
    let text : c.args.bytes.now ≡ drop lost (branch_reply u) = equal ∙ ap (λ (t : List ℕ). take (24 - lost) (drop lost t)) c.disc_reply-reply.ensures ∙ whole_part u lost in
    subst (λ (v : Uid). IsUid v × IsBranchReply v c.args.bytes.now) same (let fits : IsUid u = record { maker = omega (arith, c.uncoded_uid-uid.type_inv); device = omega (arith, c.uncoded_uid-uid.type_inv) } in let few : lost ≤ 7 = omega arith in (fits, (lost, few, text)))

pub returns-else-eq-clause-read : goal.returns-else-eq-clause-read
returns-else-eq-clause-read c uid fits part =
    let u : c.uncoded_uid-uid.result ≡ uid = c.uncoded_uid-uid.ensures ∙ part_again uid fits c.args.bytes.now part.0 part.1 part.2 in
    let lost : ℕ = 24 - length c.args.bytes.now in
    let e : length c.args.bytes.now ≡ 24 - part.0 = ap length part.2 ∙ part_length uid part.0 in
    let same : part.0 ≡ lost = omega (arith, part.1) in
    let text : c.args.bytes.now ≡ take (24 - lost) (drop lost c.disc_reply-reply.result) = part.2 ∙ ap (λ (n : ℕ). drop n (branch_reply uid)) same ∙ sym (ap (λ (t : List ℕ). take (24 - lost) (drop lost t)) (c.disc_reply-reply.ensures ∙ ap branch_reply u) ∙ whole_part uid lost) in
    absurd (false≢true (c.if-eq.ensures ∙ (slice_eq-Decides Decides-eqb c.args.bytes.now _ _ refl).1 text))
