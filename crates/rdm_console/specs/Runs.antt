-- Whole runs of a conversation, and what is so of each. E1.20 sections 6.3.2 to 6.3.4 and 10.3.1.
use Rattle.std.specs.Prelude.{◌≡◌, ◌≢◌, ℕ, true, List, [], ◌∷◌, Option, Some, None, if◌then◌else◌}
use Rattle.rdm_frame.specs.declared.status.Entry.{Entry}
use Rattle.rdm_collector.specs.declared.command.Action.TheVariants.{Get}
use Rattle.rdm_collector.specs.declared.command.Command.{Command}
use Rattle.rdm_collector.specs.declared.reply.Response.{Response}
use Rattle.rdm_collector.specs.declared.reply.Response.TheVariants.{AckTimer}
use Rattle.rdm_console.specs.declared.mailbox.Sorted.TheVariants.{Letter}
use Rattle.rdm_console.specs.declared.mailbox.Came.{Came}
use Rattle.rdm_console.specs.declared.mailbox.Came.TheVariants.{Message, NotYet}
use Rattle.rdm_console.specs.declared.conversation.Answered.{Answered}
use Rattle.rdm_console.specs.declared.conversation.Answered.TheVariants.{By}
use Rattle.rdm_console.specs.declared.conversation.Next.{Next}
use Rattle.rdm_console.specs.declared.conversation.Next.TheVariants as next
use Rattle.rdm_console.specs.Belonging.{belongs}
use Rattle.rdm_console.specs.Endings.{cause_in}
use Rattle.rdm_console.specs.Mailboxes.{Post}
use Rattle.rdm_console.specs.Conversations.{Talk, after_answer, after_poll, after_wait, behind_answer, behind_poll, new_talk}

-- ---- a run

-- What a console did, and what came of it: it sent the command, which was answered so; or a poll, of which this came, and then the mailbox
-- had this message; or it waited so many tenths of a second.
pub data Deed : Type 0 where
  Asked : Answered → Deed
  Polled : Came → Option Post → Deed
  Waited : ℕ → Deed

-- Where a conversation stands, and what is done next.
pub record Stand : Type 0 where
  pub talk : Talk
  pub next : Next

-- a conversation of this command begins
abbrev pub begun : Command → Stand
begun c = record { talk = new_talk c; next = next.Ask }

-- The deed is the one that is done next.
abbrev pub IsNext : Next → Deed → Type 0
IsNext next.Ask (Asked a) = Unit {0}
IsNext next.Poll (Polled x p) = Unit {0}
IsNext (next.Wait tenths) (Waited t) = t ≡ tenths
IsNext n d = ⊥

-- where it stands behind a deed: as `hear_answer`, `hear_poll` and `waited` say
abbrev pub stand_after : Stand → Deed → Stand
stand_after s (Asked a) = record { talk = behind_answer s.talk a; next = after_answer s.talk a }
stand_after s (Polled x p) = record { talk = behind_poll s.talk x p; next = after_poll s.talk x p }
stand_after s (Waited t) = record { talk = s.talk; next = after_wait s.talk }

-- These deeds are done, one after another, each as the conversation says.
abbrev pub IsRun : Stand → List Deed → Stand → Type 0
IsRun s [] end = end ≡ s
IsRun s (d ∷ ds) end = IsNext s.next d × IsRun (stand_after s d) ds end

-- ---- what is so of each

-- the command was sent
abbrev pub IsAsked : Deed → Type 0
IsAsked (Asked a) = Unit {0}
IsAsked d = ⊥

abbrev pub BeginsByAsking : List Deed → Type 0
BeginsByAsking [] = Unit {0}
BeginsByAsking (d ∷ ds) = IsAsked d

-- How long a response says that the result takes, if it says so. Section 6.3.3.
abbrev pub estimate_in : Response → Option ℕ
estimate_in (AckTimer tenths) = Some tenths
estimate_in r = None

-- What the device estimates in a deed: in its answer to the command, to the poll, or in the result. Sections 6.3.3 and 10.3.1.
abbrev pub estimate : Command → Deed → Option ℕ
estimate c (Asked (By r)) = estimate_in r
estimate c (Polled (NotYet tenths) p) = Some tenths
estimate c (Polled (Message Letter) (Some p)) = if belongs c p.told then estimate_in p.told.response else None
estimate c d = None

-- Nothing is sent until so much time has passed.
abbrev pub IsInTime : Option ℕ → List Deed → Type 0
IsInTime (Some tenths) (d ∷ ds) = d ≡ Waited tenths
IsInTime e ds = Unit {0}

-- Behind each ACK_TIMER it is waited for as long as it estimates, before anything is sent.
abbrev pub AreInTime : Command → List Deed → Type 0
AreInTime c [] = Unit {0}
AreInTime c (d ∷ ds) = IsInTime (estimate c d) ds × AreInTime c ds

-- The command was answered by ACK_TIMER.
abbrev pub IsTaken : Deed → Type 0
IsTaken (Asked (By (AckTimer tenths))) = Unit {0}
IsTaken d = ⊥

-- the command was not sent
abbrev pub IsNoCommand : Deed → Type 0
IsNoCommand (Asked a) = ⊥
IsNoCommand d = Unit {0}

abbrev pub AreNoCommands : List Deed → Type 0
AreNoCommands [] = Unit {0}
AreNoCommands (d ∷ ds) = IsNoCommand d × AreNoCommands ds

-- Behind ACK_TIMER, by which the device has taken it, the command isn't sent again.
abbrev pub AreSentOnce : List Deed → Type 0
AreSentOnce [] = Unit {0}
AreSentOnce (d ∷ ds) = (IsTaken d → AreNoCommands ds) × AreSentOnce ds

-- This response is the result of the command: it answered the command itself; or it is that of a message which belongs to it.
abbrev pub IsResult : Command → Response → Deed → Type 0
IsResult c r (Asked a) = a ≡ By r
IsResult c r (Polled (Message Letter) (Some p)) = (belongs c p.told ≡ true) × (p.told.response ≡ r)
IsResult c r d = ⊥

-- This entry of a status message says what is wrong with the sub-device of the command. Section 10.3.2.
abbrev pub IsCause : Command → Entry → Deed → Type 0
IsCause c entry (Polled (Message Letter) (Some p)) = cause_in c.sub p.told ≡ Some entry
IsCause c entry d = ⊥

-- the conversation may end so by this deed
abbrev pub MayEnd : Command → Next → Deed → Type 0
MayEnd c (next.Over r) d = IsResult c r d
MayEnd c (next.Failed entry) d = IsCause c entry d
MayEnd c n d = Unit {0}

-- it ends so by the last of these
abbrev pub EndsBy : Command → Next → List Deed → Type 0
EndsBy c n [] = n ≡ next.Ask
EndsBy c n (d ∷ []) = MayEnd c n d
EndsBy c n (d ∷ e ∷ ds) = EndsBy c n (e ∷ ds)

-- In a run of a conversation of this command that stands so then:
pub record IsLawful (c : Command) (deeds : List Deed) (n : Next) : Type 0 where
  -- the command is sent first
  pub first : BeginsByAsking deeds
  pub in_time : AreInTime c deeds
  -- what is no GET is sent once, as soon as the device has taken it
  pub once : c.action ≢ Get → AreSentOnce deeds
  -- what is told as the result belongs to the command, and what as the cause of a failure is one
  pub ends : EndsBy c n deeds

abbrev pub ConversationsAreLawful : Type 0
ConversationsAreLawful = (c : Command) (deeds : List Deed) (end : Stand) → IsRun (begun c) deeds end → IsLawful c deeds end.next
