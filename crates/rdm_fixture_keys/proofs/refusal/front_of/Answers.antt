use Rattle.std.proofs.Common.{◌≤◌, ◌+◌, ◌++◌, ◌-◌, length, encode_utf8, sym, ap, ◌∙◌, arith, append-nil}
use Rattle.std.proofs.lemmas.List.{length-append}
use Rattle.std.proofs.lemmas.Str.{IsUtf8-past_char}
use Rattle.rdm_fixture_keys.specs.Faults.{shown_character, kept}
use Rattle.rdm_fixture_keys.proofs.Names.{shown_none, shown_step, front_step, front_stops}
use Rattle.rdm_fixture_keys.proofs.refusal.front_of.Goals as goal

pub returns-then-len-len_utf8-clause-value : goal.returns-then-len-len_utf8-clause-value
returns-then-len-len_utf8-clause-value c =
    let held = c.loop-c.invariant in
    let parts = c.in-Some.ensures.steps.0 in
    let front = ap (λ cs. c.loop-c.name.bytes ++ kept (c.args.room - length c.loop-c.name.bytes) cs) (sym (shown_step _ _ c.in-Some.c held.utf8 parts)) ∙ held.front in
    let shown = c.shown_character-shown.ensures in
    front_stops c.loop-c.name.bytes _ c.args.room (shown_character c.in-Some.c) _ held.fits
    (omega (arith, c.if-len-len_utf8.true, c.len.ensures.value, c.len_utf8.ensures.len, ap (λ s. length (encode_utf8 s)) shown)) front

pub loop-c-preserved : goal.loop-c-preserved
loop-c-preserved c =
    let held = c.loop-c.invariant in
    let parts = c.in-Some.ensures.steps.0 in
    let front = ap (λ cs. c.loop-c.name.bytes ++ kept (c.args.room - length c.loop-c.name.bytes) cs) (sym (shown_step _ _ c.in-Some.c held.utf8 parts)) ∙ held.front in
    let shown = c.shown_character-shown.ensures in
    let room : length c.loop-c.name.bytes + length (encode_utf8 (shown_character c.in-Some.c)) ≤ c.args.room =
    omega (arith, c.if-len-len_utf8.false, c.len.ensures.value, c.len_utf8.ensures.len, ap (λ s. length (encode_utf8 s)) shown) in
    let bytes = c.push.ensures.bytes ∙ ap (λ s. c.loop-c.name.bytes ++ encode_utf8 s) shown in
    record {
      utf8 = IsUtf8-past_char _ _ c.in-Some.c held.utf8 parts;
      front = rw bytes (front_step c.loop-c.name.bytes _ c.args.room (shown_character c.in-Some.c) _ room front);
      fits = rw (bytes, length-append) room;
    }

pub returns-clause-value : goal.returns-clause-value
returns-clause-value c =
    let held = c.loop-c.invariant in
    let none = shown_none _ c.in-None.ensures.steps.0.0 in
    sym (append-nil _) ∙ ap (λ cs. c.loop-c.name.bytes ++ kept (c.args.room - length c.loop-c.name.bytes) cs) (sym none) ∙ held.front
