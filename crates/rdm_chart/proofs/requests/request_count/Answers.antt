use Rattle.std.proofs.Common.{◌≡◌, ◌+◌, ◌-◌, length, take, drop, arith, sym, ap, ◌∙◌}
use Rattle.std.proofs.lemmas.List.{take_all, length-drop}
use Rattle.rdm_trace.specs.Traces.{pieces_of}
use Rattle.rdm_trace.proofs.Traces.{pieces_more, pieces_last}
use Rattle.rdm_chart.specs.Requests.{one_of, request_count}
use Rattle.rdm_chart.proofs.requests.request_count.Goals as goal

pub loop-end-preserved : goal.loop-end-preserved
loop-end-preserved c =
    let rest = c.loop-end.rest.now in
    let end = c.in-Some.end in
    let behind = end + 1 in
    let more : request_count (pieces_of rest) ≡ one_of (take end rest) + request_count (pieces_of (drop behind rest)) =
    ap request_count (pieces_more rest end (sym c.in-Some.ensures.end)) in
    rw (take_all (length rest - behind) (drop behind rest) (omega (arith, length-drop behind rest)))
    (record {
      counted = omega (arith, more, c.one_of-count.ensures.count, c.loop-end.invariant.counted);
      within = omega (arith, length-drop behind rest, c.in-Some.ensures.within, c.one_of-count.ensures.within, c.loop-end.invariant.within);
    })

pub returns : goal.returns
returns c =
    let rest = c.loop-end.rest.now in
    let last : request_count (pieces_of rest) ≡ one_of rest + 0 = ap request_count (pieces_last rest (sym c.in_default.ensures.end)) in
    omega (arith, last, c.one_of.ensures.count, c.loop-end.invariant.counted)
