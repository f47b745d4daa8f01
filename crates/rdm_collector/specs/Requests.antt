-- The requests of a controller. E1.20 section 6.2.
use Rattle.std.specs.Prelude.{ℕ, Bool, ◌||◌, ◌==◌, [], ◌∷◌}
use Rattle.rdm_frame.specs.declared.uid.Uid.{Uid}
use Rattle.rdm_frame.specs.declared.frame.Frame.{Frame}
use Rattle.rdm_collector.specs.declared.command.Action.{Action}
use Rattle.rdm_collector.specs.declared.command.Action.TheVariants.{Disc, Get, Set}
use Rattle.rdm_collector.specs.declared.command.Command.{Command}
use Rattle.rdm_collector.specs.declared.want.Want.{Want}
use Rattle.rdm_collector.specs.declared.want.Want.TheVariants.{Advisory, Warning, Error}

-- The command classes of the requests. Table A-1.
abbrev pub class_of : Action → ℕ
class_of Disc = 0x10
class_of Get = 0x20
class_of Set = 0x30

-- The request of a command from this controller, in the transaction with this number, from port 1. Section 6.2.
abbrev pub request_of : Uid → ℕ → Command → Frame
request_of source tn c =
    record { dst = c.dst; src = source; tn = tn; port = 1; count = 0; sub = c.sub; class = class_of c.action; pid = c.pid; body = c.load }

-- QUEUED_MESSAGE and STATUS_MESSAGES are kept for the controller itself. Sections 10.3.1 and 10.3.2.
abbrev pub is_reserved : ℕ → Bool
is_reserved pid = (pid == 0x0020) || (pid == 0x0030)

-- The status types of what is wanted. Table A-4.
abbrev pub type_of : Want → ℕ
type_of Advisory = 0x02
type_of Warning = 0x03
type_of Error = 0x04

-- QUEUED_MESSAGE with a status type, asked of the root of a device. Section 10.3.1.
abbrev pub queued_message : Uid → ℕ → Command
queued_message device type = record { dst = device; action = Get; sub = 0; pid = 0x0020; load = type ∷ [] }
