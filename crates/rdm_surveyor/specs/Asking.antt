-- A question that a console asks of a fixture, and the reply that it hears. E1.20 sections 6.2 and 6.3.
use Rattle.std.specs.Prelude.{◌≡◌, ℕ, zero, suc, ◌≤◌, Bool, false, ◌&&◌, if◌then◌else◌, List, [], Option, Some, None}
use Rattle.std.specs.Option.{is_some, option_map_or}
use Rattle.rdm_frame.specs.declared.uid.Uid.{Uid}
use Rattle.rdm_frame.specs.declared.frame.Frame.{Frame}
use Rattle.rdm_frame.specs.Addressing.{same_uid}
use Rattle.rdm_frame.specs.FrameText.{frame_text}
use Rattle.rdm_frame.specs.Reading.{frame_in}
use Rattle.rdm_collector.specs.declared.command.Action.TheVariants.{Get}
use Rattle.rdm_collector.specs.declared.command.Command.{Command}
use Rattle.rdm_collector.specs.Answers.{is_reply}
use Rattle.rdm_collector.specs.Requests.{request_of}

-- The console that asks, and the fixture that it asks.
pub record Ends : Type 0 where
  pub console : Uid
  pub fixture : Uid

abbrev pub ends : Uid → Uid → Ends
ends console fixture = record { console = console; fixture = fixture }

-- A question: a GET of a parameter of a sub-device, or of the root, which is 0, with these data.
pub record Question : Type 0 where
  pub sub : ℕ
  pub pid : ℕ
  pub body : List ℕ

abbrev pub question : ℕ → ℕ → List ℕ → Question
question sub pid body = record { sub = sub; pid = pid; body = body }

abbrev pub of_root : ℕ → Question
of_root pid = question 0 pid []

abbrev pub command_of : Ends → Question → Command
command_of e q = record { dst = e.fixture; action = Get; sub = q.sub; pid = q.pid; load = q.body }

-- its bytes, in the transaction with this number
abbrev pub question_text : Ends → Question → ℕ → List ℕ
question_text e q tn = frame_text (request_of e.console tn (command_of e q))

-- A frame replies to it then: it goes from the fixture to the console, has the number of the transaction and the class of a response to
-- a GET, and the same sub-device and parameter. Section 6.2.
abbrev pub replies : Ends → Question → ℕ → Frame → Bool
replies e q tn f = (same_uid f.src e.fixture && same_uid f.dst e.console) && is_reply tn 0x20 q.sub q.pid f

-- what was heard, if it is the text of a frame that replies
abbrev pub reply_to : Ends → Question → ℕ → Option (List ℕ) → Option (List ℕ)
reply_to e q tn None = None
reply_to e q tn (Some bytes) = if option_map_or (replies e q tn) (frame_in bytes) false then Some bytes else None

-- It was sent once through a port, and this was the reply, or nothing was.
pub record IsAskedOnce {P : Type 0} (hears : P → List ℕ → Option (List ℕ) → P → Type 0) (e : Ends) (q : Question) (before : P) (reply : Option (List ℕ)) (after : P) : Type 0 where
  pub number : ℕ
  pub heard : Option (List ℕ)
  pub sent : hears before (question_text e q number) heard after
  pub is_reply : reply ≡ reply_to e q number heard

-- It was sent N times, and nothing replied.
abbrev pub IsAskedInVain : {P : Type 0} → (P → List ℕ → Option (List ℕ) → P → Type 0) → Ends → Question → ℕ → P → P → Type 0
IsAskedInVain hears e q zero before after = after ≡ before
IsAskedInVain {P} hears e q (suc n) before after = (mid : P) × IsAskedInVain hears e q n before mid × IsAskedOnce hears e q mid None after

-- It was asked: sent, and sent again while nothing replied, three times at most; and this was the reply at last, if there was one.
pub record IsAsked {P : Type 0} (hears : P → List ℕ → Option (List ℕ) → P → Type 0) (e : Ends) (q : Question) (before : P) (reply : Option (List ℕ)) (after : P) : Type 0 where
  pub times : ℕ
  pub mid : P
  pub in_vain : IsAskedInVain hears e q times before mid
  pub last : IsAskedOnce hears e q mid reply after
  pub within : times ≤ 2
  pub all_in_vain : is_some reply ≡ false → times ≡ 2

-- The fixture told this: the question was asked, and so much its reply tells.
pub record IsTold {P T : Type 0} (hears : P → List ℕ → Option (List ℕ) → P → Type 0) (e : Ends) (q : Question) (tells : Option (List ℕ) → T) (before : P) (told : T) (after : P) : Type 0 where
  pub reply : Option (List ℕ)
  pub asked : IsAsked hears e q before reply after
  pub is_told : told ≡ tells reply
