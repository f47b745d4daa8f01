-- What a console sends through a port, and what it hears. E1.20 sections 6.2, 6.3.2, 6.3.3 and 10.3.1.
use Rattle.std.specs.Prelude.{◌≡◌, ℕ, zero, suc, ◌≤◌, false, List, ◌++◌, Option, Some, None}
use Rattle.std.specs.Option.{is_some, option_to_list}
use Rattle.rdm_frame.specs.FrameText.{frame_text}
use Rattle.rdm_collector.specs.declared.port.PortError.{PortError}
use Rattle.rdm_collector.specs.declared.command.Command.{Command}
use Rattle.rdm_collector.specs.declared.any_device.collected.Collected.{Collected}
use Rattle.rdm_collector.specs.Sending.{command_request, poll_request, refusal_of}
use Rattle.rdm_collector.specs.AnyDevice.Collecting.{DeviceState, after_ask, after_poll, sender}
use Rattle.rdm_console.specs.declared.mailbox.Sorted.{Sorted}
use Rattle.rdm_console.specs.declared.mailbox.Came.{Came}
use Rattle.rdm_console.specs.declared.mailbox.Came.TheVariants as came
use Rattle.rdm_console.specs.declared.exchanging.AskFault.{AskFault}
use Rattle.rdm_console.specs.declared.exchanging.AskFault.TheVariants as wrong
use Rattle.rdm_console.specs.Mailboxes.{IsSorted, Keeps, Mail, after_bytes, came_as, collected_of, heard_as, post_in}
use Rattle.rdm_console.specs.Sorting.{cleared}

-- ---- one request

-- Where a console stands between two requests: its mailbox, and its port.
pub record Turn (P : Type 0) : Type 0 where
  pub mail : Mail
  pub port : P

abbrev pub turn : {P : Type 0} → Mail → P → Turn P
turn mail port = record { mail = mail; port = port }

-- the bytes of a request: that of a command, or of a poll, which fetches a message. Sections 6.2 and 10.3.1.
abbrev pub request_text : DeviceState → Option Command → List ℕ
request_text s (Some c) = frame_text (command_request (sender s) c)
request_text s None = frame_text (poll_request (sender s))

-- the collector while it waits for the answer
abbrev pub asked_by : DeviceState → Option Command → DeviceState
asked_by s (Some c) = after_ask s c
asked_by s None = after_poll s

-- What a mailbox hears of a request that its collector waits for so: a message, sorted by all that was collected before, or something else.
-- Its transaction is over then.
pub record IsHeard (mail after : Mail) (s : DeviceState) (heard : Option (List ℕ)) (said : Came) : Type 0 where
  pub sorted : (all : List Collected) (item : Collected) → Keeps mail all → collected_of s heard ≡ Some item
      → (x : Sorted) × (said ≡ came.Message x) × IsSorted all mail.last item x (post_in after.message)
  pub keeps : (all : List Collected) → Keeps mail all → Keeps after (all ++ option_to_list (collected_of s heard))
  pub other : collected_of s heard ≡ None → said ≡ came_as (heard_as s heard)
  pub device : after.device ≡ mail.device
  pub collector : after.collector ≡ cleared (after_bytes s heard)

-- A request is sent once, this is heard, or nothing, and the mailbox hears it.
pub record IsSentOnce {P : Type 0} (hears : P → List ℕ → Option (List ℕ) → P → Type 0) (request : Option Command) (before after : Turn P) (heard : Option (List ℕ)) (said : Came) : Type 0 where
  pub sent : hears before.port (request_text before.mail.collector request) heard after.port
  pub taken : IsHeard before.mail after.mail (asked_by before.mail.collector request) heard said

-- A request is sent once, and the port fails so: the mailbox hears nothing.
pub record HasFailedOnce {P : Type 0} (fails : P → List ℕ → PortError → P → Type 0) (request : Option Command) (before after : Turn P) (error : PortError) : Type 0 where
  pub failed : fails before.port (request_text before.mail.collector request) error after.port
  pub said : Came
  pub taken : IsHeard before.mail after.mail (asked_by before.mail.collector request) None said

-- ---- a command that is sent again

-- the bytes of a reply, if these are one
abbrev pub reply_as : Came → Option (List ℕ) → Option (List ℕ)
reply_as came.Reply heard = heard
reply_as said heard = None

-- A command is sent once, and this is the reply, or nothing is.
pub record IsAnswered {P : Type 0} (hears : P → List ℕ → Option (List ℕ) → P → Type 0) (c : Command) (before after : Turn P) (reply : Option (List ℕ)) : Type 0 where
  pub heard : Option (List ℕ)
  pub said : Came
  pub sent : IsSentOnce hears (Some c) before after heard said
  pub is_reply : reply ≡ reply_as said heard

-- It is sent once, and this went wrong: it can't be sent, and nothing is; or the port fails.
abbrev pub HasGoneWrong : {P : Type 0} → (P → List ℕ → PortError → P → Type 0) → Command → Turn P → Turn P → AskFault → Type 0
HasGoneWrong fails c before after (wrong.Ask error) = (refusal_of (sender before.mail.collector) c ≡ Some error) × (after ≡ before)
HasGoneWrong fails c before after (wrong.Port error) = HasFailedOnce fails (Some c) before after error

-- It is sent N times, and nothing answers it.
abbrev pub IsUnanswered : {P : Type 0} → (P → List ℕ → Option (List ℕ) → P → Type 0) → Command → ℕ → Turn P → Turn P → Type 0
IsUnanswered hears c zero before after = after ≡ before
IsUnanswered {P} hears c (suc n) before after = (mid : Turn P) × IsUnanswered hears c n before mid × IsAnswered hears c mid after None

-- It is sent, and again while nothing answers it, three times at most: this is the reply at last, if there is one.
pub record IsAskedAgain {P : Type 0} (hears : P → List ℕ → Option (List ℕ) → P → Type 0) (c : Command) (before after : Turn P) (reply : Option (List ℕ)) : Type 0 where
  pub times : ℕ
  pub mid : Turn P
  pub in_vain : IsUnanswered hears c times before mid
  pub last : IsAnswered hears c mid after reply
  pub within : times ≤ 2
  pub all_in_vain : is_some reply ≡ false → times ≡ 2

-- It is sent, and again while nothing answers it, and at the last sending this went wrong.
pub record FailsAsking {P : Type 0} (hears : P → List ℕ → Option (List ℕ) → P → Type 0) (fails : P → List ℕ → PortError → P → Type 0) (c : Command) (before after : Turn P) (why : AskFault) : Type 0 where
  pub times : ℕ
  pub mid : Turn P
  pub in_vain : IsUnanswered hears c times before mid
  pub wrong : HasGoneWrong fails c mid after why
  pub within : times ≤ 2
