-- What a person changes at the fixture's own menu: the values afterwards, and the message that tells a controller. A
-- change has the range and the effect of a SET of the same parameter at the root.
use Rattle.std.specs.Prelude.{ℕ, Bool, ◌&&◌, not, Option, Some, None, if◌then◌else◌}
use Rattle.rdm_frame.specs.declared.message.Message.{Message}
use Rattle.rdm_table.specs.declared.kind.Verb.TheVariants.{Get, Set}
use Rattle.rdm_commands.specs.declared.panel.Change.{Change}
use Rattle.rdm_commands.specs.declared.panel.Change.TheVariants as changes
use Rattle.rdm_profile.specs.declared.value.Value.{Value}
use Rattle.rdm_profile.specs.declared.value.Value.TheVariants.{Nothing, Byte, Word, Label}
use Rattle.rdm_table.specs.Table.Rows.{command_of, is_left_out}
use Rattle.rdm_commands.specs.Commands.Commands.{carried_out, addressed, reply_at, root_spot}
use Rattle.rdm_added.specs.Parameters.{Parameters}
use Rattle.rdm_table.specs.Table.Uses.{in_range_of}

-- the parameter that is changed: DMX_START_ADDRESS, DMX_PERSONALITY or DEVICE_LABEL. Sections 10.6.3, 10.6.1 and 10.5.5.
abbrev pub changed_pid : Change → ℕ
changed_pid (changes.Start start) = 0x00F0
changed_pid (changes.Personality number) = 0x00E0
changed_pid (changes.Label plate) = 0x0082

-- the value that it gets
abbrev pub changed_value : Change → Value
changed_value (changes.Start start) = Word start
changed_value (changes.Personality number) = Byte number
changed_value (changes.Label plate) = Label plate

-- whether the root has the parameter, and a SET of the value would be in range there
abbrev pub can_change : Parameters → Change → Bool
can_change p change = not (is_left_out p.profile (changed_pid change)) && in_range_of (command_of (changed_pid change) Set) (root_spot p) (changed_value change)

-- The values after a change: those after the SET, if that is in range, else the same.
unfoldable pub after_change : Parameters → Change → Parameters
after_change p change =
    if can_change p change then carried_out p 0 (command_of (changed_pid change) Set) (changed_value change) else p

-- the response to a GET of the parameter at the root, with the data that it reads of these values
abbrev pub told : Parameters → Change → Message
told p change = record {
  class = 0x21;
  pid = changed_pid change;
  sub = 0;
  body = reply_at (command_of (changed_pid change) Get) (addressed p 0 Get) Nothing;
}

-- The message that devices with these values queue at a change: of the values afterwards, and none if it isn't in range.
unfoldable pub change_message : Parameters → Change → Option Message
change_message p change = if can_change p change then Some (told (after_change p change) change) else None
