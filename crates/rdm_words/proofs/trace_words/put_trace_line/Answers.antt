use Rattle.std.proofs.Common.{ℕ, List, Option, refl, ap, ◌∙◌}
use Rattle.rdm_trace.specs.declared.line.Line.TheVariants.{Reply}
use Rattle.rdm_words.proofs.Fixed.{adds_send, adds_reply, adds_heard, adds_found, adds_time}
use Rattle.rdm_words.proofs.FrameNames.{names_send, names_reply, names_found, names_heard, names_message, names_panel, names_report, names_time}
use Rattle.rdm_words.proofs.Last.{last_of_send, last_of_reply, last_of_heard, last_of_found, last_of_message, last_of_time}
use Rattle.rdm_words.proofs.trace_words.put_trace_line.Goals as goal

pub returns-in_ok-put_bytes_words-in-Send : goal.returns-in_ok-put_bytes_words-in-Send
returns-in_ok-put_bytes_words-in-Send c =
    record {
      fixed = adds_send c.put_fault.result c.args.before.now c.args.line.now _ _ c.in-Send.fault _ _ _ c.in-Send.is refl
          c.in_ok-put_bytes_words-in-Send.ensures.fixed c.put_fault.ensures.words c.put_fault.ensures.plain;
      last = last_of_send c.put_fault.result c.args.line.now _ _ c.in-Send.fault _ _ _ c.in-Send.is refl
          c.in_ok-put_bytes_words-in-Send.ensures.last c.put_fault.ensures.words c.put_fault.ensures.plain;
      named = names_send c.put_fault.result c.args.line.now _ _ c.in-Send.fault _ _ _ c.in-Send.is refl
          c.in_ok-put_bytes_words-in-Send.ensures.named c.put_fault.ensures.words;
    }

pub returns-in-Some : goal.returns-in-Some
returns-in-Some c =
    record {
      fixed = adds_reply c.put_bytes_words-in-Some.result c.args.before.now c.args.line.now _ _ _ _
          (c.in-Reply.is ∙ ap (λ (f : Option (List ℕ)). Reply f) c.in-Some.is) refl c.put_bytes_words-in-Some.ensures.fixed;
      last = last_of_reply c.put_bytes_words-in-Some.result c.args.line.now _ _ _ _
          (c.in-Reply.is ∙ ap (λ (f : Option (List ℕ)). Reply f) c.in-Some.is) refl c.put_bytes_words-in-Some.ensures.last;
      named = names_reply c.put_bytes_words-in-Some.result c.args.line.now _ _ _ _
          (c.in-Reply.is ∙ ap (λ (f : Option (List ℕ)). Reply f) c.in-Some.is) refl c.put_bytes_words-in-Some.ensures.named;
    }

pub returns-in-Found : goal.returns-in-Found
returns-in-Found c =
    record {
      fixed = adds_found c.put_found.result c.args.before.now c.args.line.now c.in-Found.uid _ _ c.in-Found.is c.put_found.ensures;
      last = last_of_found c.put_found.result c.args.line.now c.in-Found.uid _ _ c.in-Found.is;
      named = names_found c.put_found.result c.args.line.now c.in-Found.uid _ _ c.in-Found.is;
    }

pub returns-in-Message-clause-last : goal.returns-in-Message-clause-last
returns-in-Message-clause-last c = last_of_message c.put_message.result c.args.line.now c.in-Message.message _ _ c.in-Message.is c.put_message.ensures.last

pub returns-in-Message-clause-named : goal.returns-in-Message-clause-named
returns-in-Message-clause-named c = names_message c.put_message.result c.args.line.now c.in-Message.message _ _ c.in-Message.is c.put_message.ensures.named

pub returns-in-Panel-clause-named : goal.returns-in-Panel-clause-named
returns-in-Panel-clause-named c =
    names_panel c.put_panel.result c.args.line.now c.in-Panel.change c.in-Panel.refused _ _ c.in-Panel.is c.put_panel.ensures

pub returns-in_ok-put_job-in-Arrive-clause-named : goal.returns-in_ok-put_job-in-Arrive-clause-named
returns-in_ok-put_job-in-Arrive-clause-named c =
    names_report c.put_outcome.result c.args.line.now c.in-Arrive.job c.in-Arrive.outcome _ _ _ c.in-Arrive.is c.in_ok-put_job-in-Arrive.ensures.words c.put_outcome.ensures

pub returns-in-Heard : goal.returns-in-Heard
returns-in-Heard c =
    record {
      fixed = adds_heard c.put_heard.result c.args.before.now c.args.line.now c.in-Heard.heard _ _ c.in-Heard.is c.put_heard.ensures.answer c.put_heard.ensures.other;
      last = last_of_heard c.put_heard.result c.args.line.now c.in-Heard.heard _ _ c.in-Heard.is;
      named = names_heard c.put_heard.result c.args.line.now c.in-Heard.heard _ _ c.in-Heard.is;
    }

pub returns-in-Time : goal.returns-in-Time
returns-in-Time c =
    record {
      fixed = adds_time c.put_time.result c.args.before.now c.args.line.now c.in-Time.millis _ _ c.in-Time.is c.put_time.ensures.plain c.put_time.ensures.words;
      last = last_of_time c.put_time.result c.args.line.now c.in-Time.millis _ _ c.in-Time.is;
      named = names_time c.put_time.result c.args.line.now c.in-Time.millis _ _ c.in-Time.is;
    }
