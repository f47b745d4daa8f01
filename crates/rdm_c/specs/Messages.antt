-- What a collector takes and gives, as the numbers that C has of it.
use Rattle.std.specs.Prelude.{◌≡◌, ℕ, List, length, take, drop, ◌==◌, if◌then◌else◌, Option, Some, None}
use Rattle.std.specs.Option.{option_map}
use Rattle.rdm_collector.specs.declared.command.Action.{Action}
use Rattle.rdm_collector.specs.declared.command.Action.TheVariants.{Disc, Get, Set}
use Rattle.rdm_collector.specs.declared.command.Command.{Command}
use Rattle.rdm_collector.specs.AnyDevice.Collecting.{DeviceState}
use Rattle.rdm_collector.specs.declared.any_device.collected.Collected.{Collected}
use Rattle.rdm_collector.specs.declared.any_device.heard.DeviceHeard.{DeviceHeard}
use Rattle.rdm_collector.specs.declared.any_device.heard.DeviceHeard.TheVariants as heard
use Rattle.rdm_collector.specs.declared.want.Want.{Want}
use Rattle.rdm_collector.specs.declared.want.Want.TheVariants.{Advisory, Warning, Error}
use Rattle.rdm_c.specs.declared.message.CommandNumbers.{CommandNumbers}
use Rattle.rdm_c.specs.declared.message.HeardNumbers.{HeardNumbers}
use Rattle.rdm_c.specs.declared.message.MessageNumbers.{MessageNumbers}
use Rattle.rdm_c.specs.declared.status.Status.TheVariants as status
use Rattle.rdm_c.specs.Statuses.{code_of}
use Rattle.rdm_c.specs.Endpoints.{flag}
use Rattle.rdm_c.specs.Replies.{type_of, reason_of, tenths_of}

-- The least severity that is wanted, by its status type. E1.20 table A-4.
abbrev pub want_in : ℕ → Option Want
want_in type =
    if type == 0x02 then Some Advisory else if type == 0x03 then Some Warning else if type == 0x04 then Some Error else None

-- What a command class does. Table A-1.
abbrev pub action_in : ℕ → Option Action
action_in class = if class == 0x10 then Some Disc else if class == 0x20 then Some Get else if class == 0x30 then Some Set else None

-- The command that numbers and data stand for. Of data no more than 255 bytes are read: a frame carries 231, so that it is
-- too long with any more, however many.
abbrev pub command_with : CommandNumbers → List ℕ → Action → Command
command_with c load action = record {
  dst = record { maker = c.maker; device = c.device };
  action = action;
  sub = c.sub;
  pid = c.pid;
  load = take 255 load;
}

abbrev pub command_in : CommandNumbers → List ℕ → Option Command
command_in c load = option_map (command_with c load) (action_in c.command_class)

-- what bytes were taken for, with the reason of a NACK of the poll, and the estimate of an ACK_TIMER of the poll
abbrev pub heard_with : ℕ → ℕ → ℕ → HeardNumbers
heard_with kind reason tenths = record { reason = reason; tenths = tenths; kind = kind }

-- as the header numbers it
abbrev pub heard_numbers : DeviceHeard → HeardNumbers
heard_numbers heard.Ignored = heard_with 0 0 0
heard_numbers heard.Message = heard_with 1 0 0
heard_numbers heard.Reply = heard_with 2 0 0
heard_numbers heard.Part = heard_with 3 0 0
heard_numbers heard.Unsupported = heard_with 4 0 0
heard_numbers (heard.Refused reason) = heard_with 5 reason 0
heard_numbers (heard.NotYet tenths) = heard_with 6 0 tenths

-- The numbers say what was collected: the message, its response type, whether it was asked for again, and whether it follows a loss.
pub record Tells (n : MessageNumbers) (c : Collected) : Type 0 where
  pub type : n.kind ≡ type_of c.response
  pub reason : n.reason ≡ reason_of c.response
  pub tenths : n.tenths ≡ tenths_of c.response
  pub class : n.command_class ≡ c.message.class
  pub pid : n.pid ≡ c.message.pid
  pub sub : n.sub ≡ c.message.sub
  pub count : n.count ≡ length c.message.body
  pub body : take n.count n.bytes ≡ c.message.body
  pub repeat : n.may_repeat ≡ flag c.again
  pub loss : n.after_loss ≡ flag c.after_loss

-- What C is told of the first message that was recorded, or that there is none.
abbrev pub MessageTold : ℕ → MessageNumbers → Option Collected → Type 0
MessageTold code n None = code ≡ code_of status.NoMore
MessageTold code n (Some c) = (code ≡ code_of status.Done) × Tells n c

-- the collector once C has the first message
abbrev pub after_next : DeviceState → DeviceState
after_next s = record s { recorded = drop 1 s.recorded }
