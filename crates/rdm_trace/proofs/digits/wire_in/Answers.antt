use Rattle.std.proofs.Common.{◌≡◌, ◌+◌, ◌-◌, ◌≤◌, ◌==◌, ◌||◌, true, [], ◌∷◌, length, get_or, ap, sym, ◌∙◌, arith}
use Rattle.std.proofs.lemmas.List.{length-append}
use Rattle.rdm_trace.proofs.Spacing.{with_front, space_is_blank, tab_is_blank, behind_blank, behind_byte}
use Rattle.rdm_trace.proofs.digits.wire_in.Goals as goal
use Rattle.rdm_trace.proofs.digits.wire_in.Goals.{then-first-eq32-via-then-first-eq32, then-first-eq32-via-else-first-eq32+then-first-eq9}

pub loop-rest-preserved-then-first-eq32 : goal.loop-rest-preserved-then-first-eq32
loop-rest-preserved-then-first-eq32 c =
    let rest = c.loop-rest.rest.now in
    let front = c.loop-rest.bytes in
    let blank : ((get_or rest 0 0 == 32) || (get_or rest 0 0 == 9)) ≡ true = elim c.then-first-eq32.branch [
      | then-first-eq32-via-then-first-eq32 w ↦ space_is_blank _ w.if-first-eq32.true
      | then-first-eq32-via-else-first-eq32+then-first-eq9 w ↦ tab_is_blank _ w.if-first-eq9.true
    ] in
    record {
      bytes = ap (with_front front) (behind_blank (257 - length front) rest c.in-len1-up.len_at_least blank) ∙ c.loop-rest.invariant.bytes;
      room = c.loop-rest.invariant.room;
    }

pub loop-rest-preserved : goal.loop-rest-preserved
loop-rest-preserved c =
    let rest = c.loop-rest.rest.now in
    let front = c.loop-rest.bytes in
    let byte = c.in_ok-code_in.field-0 in
    let read = sym c.code_in.ensures ∙ c.in_ok-code_in.was in
    rw c.append.ensures (record {
      bytes = behind_byte front rest byte c.in-len2-up.len_at_least c.if-first-eq32.false c.if-first-eq9.false c.loop-rest.invariant.room (λ e. c.if-as_slice-eq-MOST_SLOTS.false (ap length c.as_slice.ensures.value ∙ e)) read ∙ c.loop-rest.invariant.bytes;
      room = omega (arith, length-append front (byte ∷ []), c.loop-rest.invariant.room, c.if-as_slice-eq-MOST_SLOTS.false, ap length c.as_slice.ensures.value);
    })
