-- How a mailbox goes on with what is collected: what its private functions do. What this comes to, over all that was collected, is in
-- `Mailboxes`.
use Rattle.std.specs.Prelude.{Bool, false, not, ◌&&◌, if◌then◌else◌, List, [], ◌∷◌, ◌++◌, Option, Some, None}
use Rattle.std.specs.Option.{option_or}
use Rattle.rdm_collector.specs.declared.any_device.collected.Collected.{Collected}
use Rattle.rdm_collector.specs.AnyDevice.Collecting.{DeviceState}
use Rattle.rdm_collector.specs.AnyDevice.Parts.{goes_on, is_part, is_repeat, is_unsure}
use Rattle.rdm_console.specs.declared.parcel.End.{End}
use Rattle.rdm_console.specs.declared.parcel.Parcel.{Parcel}
use Rattle.rdm_console.specs.declared.mailbox.Sorted.{Sorted}
use Rattle.rdm_console.specs.declared.mailbox.Sorted.TheVariants as sorted
use Rattle.rdm_console.specs.Mailboxes.{Draft, Post, draft_of, end_in, news_after}

abbrev pub draft_in : Parcel → Draft
draft_in p = record { end = p.end; body = p.body.items; sure = p.is_sure; in_parts = p.in_parts }

-- it is no part
abbrev pub is_ended : Option Collected → Bool
is_ended None = false
is_ended (Some c) = not (is_part c.response)

abbrev pub end_before : Collected → Option End
end_before c = if is_part c.response then None else Some (end_in c)

-- a message, and what goes on with it behind what came last of it
abbrev pub draft_with : Draft → Collected → Collected → Draft
draft_with d last c = record {
  end = option_or d.end (end_before c);
  body = d.body ++ (if is_repeat last c then [] else c.message.body);
  sure = d.sure && not (is_unsure last c);
  in_parts = d.in_parts;
}

abbrev pub goes_on_last : Option Collected → Collected → Bool
goes_on_last None c = false
goes_on_last (Some last) c = goes_on last c

-- the message that was collected last belongs to, and the one before it
abbrev pub put_message : Draft → Option Collected → Collected → Draft
put_message d None c = draft_of (c ∷ [])
put_message d (Some last) c = if goes_on last c then draft_with d last c else draft_of (c ∷ [])

abbrev pub put_before : Draft → Draft → Option Collected → Collected → Draft
put_before before d last c = if goes_on_last last c then before else d

abbrev pub said_by : List Post → Sorted
said_by [] = sorted.Nothing
said_by (p ∷ ps) = sorted.Letter

abbrev pub said_with : Bool → Bool → Option Post → Option Post → Sorted
said_with part repeats before p = if part then sorted.Part else if repeats then sorted.Repeat else said_by (news_after before p)

-- nothing is left of what was recorded
abbrev pub cleared : DeviceState → DeviceState
cleared s = record s { recorded = [] }
