use Rattle.std.proofs.Common.{◌∙◌, Some, refl, sym, ap, true≢false}
use Rattle.std.specs.Option.{is_some}
use Rattle.rdm_collector.specs.Answers.{is_poll}
use Rattle.rdm_collector.specs.AnyDevice.Collecting.{DeviceState}
use Rattle.rdm_console.specs.Mailboxes.{Draft, Mail, collected_of}
use Rattle.rdm_console.specs.Sorting.{draft_in}
use Rattle.rdm_console.proofs.Hearing.{is_over}
use Rattle.rdm_console.proofs.Posts.{IsNext, ended_next, keeps_after, keeps_as_before, sorted_after}
use Rattle.rdm_console.proofs.mailbox.Mailbox.hear.Goals as goal

pub invariant_of-self : goal.invariant_of-self
invariant_of-self c =
    let new = c.listen-taken.ensures.new in
    let over = ap (λ (s : DeviceState). s.transaction) new ∙ is_over c.self.inside.collector c.args.heard.now in
    (ap (λ (s : DeviceState). s.recorded) new, sym (ap is_some over), c.self.invariant.2, λ poll. absurd (true≢false (sym poll ∙ ap is_poll over)))

pub returns-in_default-clause-keeps : goal.returns-in_default-clause-keeps
returns-in_default-clause-keeps c = λ all k.
    let view = c.self.view_is in
    let old : Mail = record { device = c.self.inside.uid; collector = c.self.inside.collector; last = c.self.inside.last; message = draft_in c.self.inside.message; before = draft_in c.self.inside.before } in
    let new : Mail = record { device = c.self.inside.uid; collector = c.listen-taken.new.collector; last = c.self.inside.last; message = draft_in c.self.inside.message; before = draft_in c.self.inside.before } in
    keeps_as_before old new c.args.self.now all (collected_of c.args.self.now.collector c.args.heard.now) view refl refl refl
    (sym c.in_default.is ∙ c.listen-taken.ensures.item ∙ ap (λ (m : Mail). collected_of m.collector c.args.heard.now) view) k

pub invariant_of-self-2 : goal.invariant_of-self-2
invariant_of-self-2 c =
    let new = c.listen-taken.ensures.new in
    let over = ap (λ (s : DeviceState). s.transaction) new ∙ is_over c.self.inside.collector c.args.heard.now in
    let ended = ap (λ (d : Draft). is_some d.end) c.put.ensures.message ∙ ended_next (draft_in c.self.inside.message) c.self.inside.last c.in-Some.item c.self.invariant.2 in
    (ap (λ (s : DeviceState). s.recorded) new, sym (ap is_some over), ended, λ poll. absurd (true≢false (sym poll ∙ ap is_poll over)))

pub returns-clause-sorted : goal.returns-clause-sorted
returns-clause-sorted c = λ all item k one.
    let view = c.self.view_is in
    let old : Mail = record { device = c.self.inside.uid; collector = c.self.inside.collector; last = c.self.inside.last; message = draft_in c.self.inside.message; before = draft_in c.self.inside.before } in
    let new : Mail = record { device = c.self.inside.uid; collector = c.listen-taken.new.collector; last = Some c.in-Some.item; message = draft_in c.put.new.message; before = draft_in c.put.new.before } in
    let next : IsNext old new c.in-Some.item c.sort_of.result = record {
      ended = c.self.invariant.2;
      last = refl;
      message = c.put.ensures.message;
      before = c.put.ensures.before;
      says = c.sort_of.ensures ∙ rw (c.is_part-is_part.ensures, c.repeats_last-repeats.ensures) refl;
    } in (
      c.sort_of.result,
      refl,
      sorted_after old new c.args.self.now all c.in-Some.item item c.sort_of.result view next
          (sym c.in-Some.is ∙ c.listen-taken.ensures.item ∙ ap (λ (m : Mail). collected_of m.collector c.args.heard.now) view ∙ one) k,
    )

pub returns-clause-keeps : goal.returns-clause-keeps
returns-clause-keeps c = λ all k.
    let view = c.self.view_is in
    let old : Mail = record { device = c.self.inside.uid; collector = c.self.inside.collector; last = c.self.inside.last; message = draft_in c.self.inside.message; before = draft_in c.self.inside.before } in
    let new : Mail = record { device = c.self.inside.uid; collector = c.listen-taken.new.collector; last = Some c.in-Some.item; message = draft_in c.put.new.message; before = draft_in c.put.new.before } in
    let next : IsNext old new c.in-Some.item c.sort_of.result = record {
      ended = c.self.invariant.2;
      last = refl;
      message = c.put.ensures.message;
      before = c.put.ensures.before;
      says = c.sort_of.ensures ∙ rw (c.is_part-is_part.ensures, c.repeats_last-repeats.ensures) refl;
    } in
    keeps_after old new c.args.self.now all c.in-Some.item (collected_of c.args.self.now.collector c.args.heard.now) c.sort_of.result view next
    (sym c.in-Some.is ∙ c.listen-taken.ensures.item ∙ ap (λ (m : Mail). collected_of m.collector c.args.heard.now) view) k
