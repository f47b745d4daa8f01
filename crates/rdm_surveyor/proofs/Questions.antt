-- What was sent for a question, and what was heard of it.
use Rattle.std.proofs.Common.{◌≡◌, ℕ, zero, suc, Bool, true, false, cond, ◌&&◌, List, [], Option, Some, None, Result, Ok, Err, refl, sym, ap, ◌∙◌, subst}
use Rattle.std.specs.Prelude.{IfOk, IfErr}
use Rattle.std.specs.Option.{option_map_or}
use Rattle.rdm_frame.specs.declared.frame.Frame.{Frame}
use Rattle.rdm_frame.specs.declared.uid.Uid.{Uid}
use Rattle.rdm_frame.specs.FrameText.{frame_text}
use Rattle.rdm_frame.specs.Addressing.{same_uid}
use Rattle.rdm_frame.specs.Reading.{frame_in}
use Rattle.rdm_collector.specs.declared.port.PortError.{PortError}
use Rattle.rdm_collector.specs.declared.command.Command.{Command}
use Rattle.rdm_collector.specs.declared.any_device.heard.DeviceHeard.{DeviceHeard}
use Rattle.rdm_collector.specs.declared.any_device.heard.DeviceHeard.TheVariants as heard
use Rattle.rdm_collector.specs.Answers.{is_reply}
use Rattle.rdm_collector.specs.Requests.{class_of, request_of}
use Rattle.rdm_collector.specs.AnyDevice.Collecting.{DeviceState, after_ask, after_frame, after_taken, heard_as as frame_as, heard_frame}
use Rattle.rdm_console.specs.declared.mailbox.Came.{Came}
use Rattle.rdm_console.specs.declared.mailbox.Came.TheVariants as came
use Rattle.rdm_console.specs.declared.exchanging.AskFault.{AskFault}
use Rattle.rdm_console.specs.declared.exchanging.AskFault.TheVariants as wrong
use Rattle.rdm_console.specs.Exchanges.{FailsAsking, HasGoneWrong, IsAnswered, IsAskedAgain, IsHeard, IsUnanswered, Turn, reply_as}
use Rattle.rdm_console.specs.Mailboxes.{Mail, after_bytes, came_as, collected_of, first_of, heard_as}
use Rattle.rdm_surveyor.specs.Asking.{Ends, IsAsked, IsAskedInVain, IsAskedOnce, Question, command_of, replies, reply_to}

-- ---- a collector that sent a command

-- It is for the same device, and still has nothing.
pub record IsQuiet (s t : DeviceState) : Type 0 where
  pub uid : t.uid ≡ s.uid
  pub target : t.target ≡ s.target
  pub recorded : t.recorded ≡ s.recorded

either_quiet : {X : Type 0} (t : DeviceState) (go : X → DeviceState) (x y : X) (c : Bool) → IsQuiet t (go x) → IsQuiet t (go y) → IsQuiet t (go (cond c x y))
either_quiet t go x y true p q = p
either_quiet t go x y false p q = q

frame_quiet : (s : DeviceState) (c : Command) (o : Option Frame) → IsQuiet (after_ask s c) (option_map_or (after_frame (after_ask s c)) o (after_ask s c))
frame_quiet s c None = record { uid = refl; target = refl; recorded = refl }
frame_quiet s c (Some f) =
    either_quiet (after_ask s c) (λ (u : DeviceState). u) _ _ (same_uid f.src s.target && same_uid f.dst s.uid)
    (either_quiet (after_ask s c) (after_taken (after_ask s c) f) _ _ (is_reply s.tn (class_of c.action) c.sub c.pid f)
    (record { uid = refl; target = refl; recorded = refl }) (record { uid = refl; target = refl; recorded = refl }))
    (record { uid = refl; target = refl; recorded = refl })

pub quiet : (s : DeviceState) (c : Command) (bytes : Option (List ℕ)) → IsQuiet s (after_bytes (after_ask s c) bytes)
quiet s c None = record { uid = refl; target = refl; recorded = refl }
quiet s c (Some b) =
    let q = frame_quiet s c (frame_in b) in
    record { uid = q.uid; target = q.target; recorded = q.recorded }

-- ---- a mailbox that asks a fixture

-- It is for the fixture, and has nothing.
pub record IsFor (e : Ends) (m : Mail) : Type 0 where
  pub console : m.collector.uid ≡ e.console
  pub fixture : m.device ≡ e.fixture
  pub target : m.collector.target ≡ e.fixture
  pub recorded : m.collector.recorded ≡ []

pub still_for : (e : Ends) (c : Command) (before after : Mail) (bytes : Option (List ℕ)) (said : Came) → IsFor e before
    → IsHeard before after (after_ask before.collector c) bytes said → IsFor e after
still_for e c before after bytes said is h =
    let q = quiet before.collector c bytes in
    record {
      console = ap (λ (s : DeviceState). s.uid) h.collector ∙ q.uid ∙ is.console;
      fixture = h.device ∙ is.fixture;
      target = ap (λ (s : DeviceState). s.target) h.collector ∙ q.target ∙ is.target;
      recorded = ap (λ (s : DeviceState). s.recorded) h.collector;
    }

-- what it takes for the reply
both_as : {X : Type 0} (go : X → DeviceHeard) (x y : X) (a b : Bool) (bytes : List ℕ) → came_as (go x) ≡ came.Reply → came_as (go y) ≡ came.Ignored
    → reply_as (came_as (cond a (go (cond b x y)) heard.Ignored)) (Some bytes) ≡ cond (a && b) (Some bytes) None
both_as go x y true true bytes ex ey = ap (λ (w : Came). reply_as w (Some bytes)) ex
both_as go x y true false bytes ex ey = ap (λ (w : Came). reply_as w (Some bytes)) ey
both_as go x y false b bytes ex ey = refl

frame_reply : (e : Ends) (s : DeviceState) (q : Question) (bytes : List ℕ) (o : Option Frame) → s.uid ≡ e.console → s.target ≡ e.fixture
    → reply_as (came_as (option_map_or (heard_frame (after_ask s (command_of e q))) o heard.Ignored)) (Some bytes)
    ≡ cond (option_map_or (replies e q s.tn) o false) (Some bytes) None
frame_reply e s q bytes None eu et = refl
frame_reply e s q bytes (Some f) eu et =
    both_as (frame_as f) _ _ (same_uid f.src s.target && same_uid f.dst s.uid) (is_reply s.tn 0x20 q.sub q.pid f) bytes refl refl
    ∙ ap (λ (u : Uid). cond ((same_uid f.src s.target && same_uid f.dst u) && is_reply s.tn 0x20 q.sub q.pid f) (Some bytes) None) eu
    ∙ ap (λ (u : Uid). cond ((same_uid f.src u && same_uid f.dst e.console) && is_reply s.tn 0x20 q.sub q.pid f) (Some bytes) None) et

replied : (e : Ends) (s : DeviceState) (q : Question) (bytes : Option (List ℕ)) → s.uid ≡ e.console → s.target ≡ e.fixture
    → reply_as (came_as (heard_as (after_ask s (command_of e q)) bytes)) bytes ≡ reply_to e q s.tn bytes
replied e s q None eu et = refl
replied e s q (Some bytes) eu et = frame_reply e s q bytes (frame_in bytes) eu et

-- nothing is collected then
none_collected : (s : DeviceState) (c : Command) (bytes : Option (List ℕ)) → s.recorded ≡ [] → collected_of (after_ask s c) bytes ≡ None
none_collected s c bytes e = ap first_of ((quiet s c bytes).recorded ∙ e)

-- ---- a question

module _ {P : Type 0} (hears : P → List ℕ → Option (List ℕ) → P → Type 0) (e : Ends) (q : Question) where
  once : (before after : Turn P) (reply : Option (List ℕ)) → IsFor e before.mail → IsAnswered hears (command_of e q) before after reply
      → IsAskedOnce hears e q before.port reply after.port
  once before after reply is said =
      let s = before.mail.collector in
      record {
        number = s.tn;
        heard = said.heard;
        sent = subst (λ (u : Uid). hears before.port (frame_text (request_of u s.tn (command_of e q))) said.heard after.port) is.console said.sent.sent;
        is_reply =
            said.is_reply
            ∙ ap (λ (w : Came). reply_as w said.heard) (said.sent.taken.other (none_collected s (command_of e q) said.heard is.recorded))
            ∙ replied e s q said.heard is.console is.target;
      }

  for_once : (before after : Turn P) (reply : Option (List ℕ)) → IsFor e before.mail → IsAnswered hears (command_of e q) before after reply → IsFor e after.mail
  for_once before after reply is said = still_for e (command_of e q) before.mail after.mail said.heard said.said is said.sent.taken

  for_vain : (n : ℕ) (before after : Turn P) → IsFor e before.mail → IsUnanswered hears (command_of e q) n before after → IsFor e after.mail
  for_vain zero before after is same = subst (λ (t : Turn P). IsFor e t.mail) (sym same) is
  for_vain (suc n) before after is (mid, vain, last) = for_once mid after None (for_vain n before mid is vain) last

  in_vain : (n : ℕ) (before after : Turn P) → IsFor e before.mail → IsUnanswered hears (command_of e q) n before after
      → IsAskedInVain hears e q n before.port after.port
  in_vain zero before after is same = ap (λ (t : Turn P). t.port) same
  in_vain (suc n) before after is (mid, vain, last) =
      (mid.port, in_vain n before mid is vain, once mid after None (for_vain n before mid is vain) last)

  -- It was asked so.
  pub is_asked : (before after : Turn P) (r : Result (Option (List ℕ)) AskFault) → IsFor e before.mail
      → IfOk r (IsAskedAgain hears (command_of e q) before after) → IfOk r (λ reply. IsAsked hears e q before.port reply after.port)
  is_asked before after (Err why) is said = said
  is_asked before after (Ok reply) is said = record {
    times = said.times;
    mid = said.mid.port;
    in_vain = in_vain said.times before said.mid is said.in_vain;
    last = once said.mid after reply (for_vain said.times before said.mid is said.in_vain) said.last;
    within = said.within;
    all_in_vain = said.all_in_vain;
  }

  for_wrong : (fails : P → List ℕ → PortError → P → Type 0) (mid after : Turn P) (why : AskFault) → IsFor e mid.mail
      → HasGoneWrong fails (command_of e q) mid after why → IsFor e after.mail
  for_wrong fails mid after (wrong.Ask error) is (refused, same) = subst (λ (t : Turn P). IsFor e t.mail) (sym same) is
  for_wrong fails mid after (wrong.Port error) is failed = still_for e (command_of e q) mid.mail after.mail None failed.said is failed.taken

  -- The mailbox is for the same fixture then, also if the port failed.
  pub for_still : (fails : P → List ℕ → PortError → P → Type 0) (before after : Turn P) (r : Result (Option (List ℕ)) AskFault) → IsFor e before.mail
      → IfOk r (IsAskedAgain hears (command_of e q) before after) → IfErr r (FailsAsking hears fails (command_of e q) before after) → IsFor e after.mail
  for_still fails before after (Ok reply) is said f =
      for_once said.mid after reply (for_vain said.times before said.mid is said.in_vain) said.last
  for_still fails before after (Err why) is said f =
      for_wrong fails f.mid after why (for_vain f.times before f.mid is f.in_vain) f.wrong
