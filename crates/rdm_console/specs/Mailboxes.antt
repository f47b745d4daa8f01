-- The messages that a console makes of what it collected from a device, and which of them it hands on. E1.20 sections 6.3.2, 10.3.1
-- and 10.3.2.
use Rattle.std.specs.Prelude.{◌≡◌, ◌↔◌, ℕ, Bool, true, false, ◌&&◌, ◌||◌, ◌==◌, if◌then◌else◌, List, [], ◌∷◌, ◌++◌, length, take, drop, Option, Some, None}
use Rattle.std.specs.Option.{option_map, option_map_or}
use Rattle.rdm_frame.specs.declared.uid.Uid.{Uid}
use Rattle.rdm_collector.specs.declared.want.Want.{Want}
use Rattle.rdm_collector.specs.declared.any_device.collected.Collected.{Collected}
use Rattle.rdm_collector.specs.declared.any_device.heard.DeviceHeard.{DeviceHeard}
use Rattle.rdm_collector.specs.declared.any_device.heard.DeviceHeard.TheVariants as heard
use Rattle.rdm_collector.specs.AnyDevice.Collecting.{DeviceState, heard_in, after_hearing, after_over, new_device_collector}
use Rattle.rdm_collector.specs.AnyDevice.Items.{Item, same_item}
use Rattle.rdm_collector.specs.AnyDevice.Parts.{first_run, goes_on, is_part, is_repeat, is_sure, joined_data}
use Rattle.rdm_console.specs.declared.parcel.End.{End}
use Rattle.rdm_console.specs.declared.mailbox.Sorted.{Sorted}
use Rattle.rdm_console.specs.declared.mailbox.Sorted.TheVariants as sorted
use Rattle.rdm_console.specs.declared.mailbox.Came.{Came}
use Rattle.rdm_console.specs.declared.mailbox.Came.TheVariants as came
use Rattle.rdm_console.specs.Belonging.{Told}

-- ---- the messages

-- the first of these goes on with the message of what was collected before it
abbrev pub go_on : Collected → List Collected → Bool
go_on c [] = false
go_on c (d ∷ ds) = goes_on c d

abbrev pub with_front : Collected → List (List Collected) → List (List Collected)
with_front c [] = (c ∷ []) ∷ []
with_front c (m ∷ ms) = (c ∷ m) ∷ ms

-- All that was collected, cut into messages: each with its parts and its repeats. A message ends where what is behind it doesn't go on
-- with it.
abbrev pub messages_in : List Collected → List (List Collected)
messages_in [] = []
messages_in (c ∷ cs) = if go_on c cs then with_front c (messages_in cs) else (c ∷ []) ∷ messages_in cs

-- The first of them is the first message of the collector, and the others are those of what is behind it.
abbrev pub MessagesAreTakenOff : Type 0
MessagesAreTakenOff =
    (c : Collected) (cs : List Collected)
    → messages_in (c ∷ cs) ≡ take (first_run (c ∷ cs)) (c ∷ cs) ∷ messages_in (drop (first_run (c ∷ cs)) (c ∷ cs))

-- ---- a message

-- The end of a message: the first of it that is no part. What was collected behind it repeats it. There is none if the rest of its parts
-- hasn't come. Section 6.3.2.
abbrev pub end_of : List Collected → Option Collected
end_of [] = None
end_of (c ∷ cs) = if is_part c.response then end_of cs else Some c

abbrev pub end_in : Collected → End
end_in c = record { response = c.response; class = c.message.class; sub = c.message.sub; pid = c.message.pid; again = c.again }

-- it came in parts
abbrev pub in_parts : List Collected → Bool
in_parts [] = false
in_parts (c ∷ cs) = is_part c.response

-- A message as far as it came: its end, the data of its parts, whether each poll for these was answered, and whether it has several.
pub record Draft : Type 0 where
  pub end : Option End
  pub body : List ℕ
  pub sure : Bool
  pub in_parts : Bool

abbrev pub draft_of : List Collected → Draft
draft_of m = record { end = option_map end_in (end_of m); body = joined_data m; sure = is_sure m; in_parts = in_parts m }

-- A message as it is handed on: what it says; whether its end was asked for again; whether each poll for its parts was answered, so that
-- none is missing; and whether it came in parts.
pub record Post : Type 0 where
  pub told : Told
  pub again : Bool
  pub sure : Bool
  pub in_parts : Bool

-- A message that has its end, and no other, is a letter.
abbrev pub post_with : Draft → End → Post
post_with d e = record {
  told = record { response = e.response; class = e.class; sub = e.sub; pid = e.pid; body = d.body };
  again = e.again;
  sure = d.sure;
  in_parts = d.in_parts;
}

abbrev pub post_in : Draft → Option Post
post_in d = option_map (post_with d) d.end

abbrev pub post_of : List Collected → Option Post
post_of m = post_in (draft_of m)

-- ---- which of them are handed on

-- what a part or a message says
abbrev pub told_of : Collected → Told
told_of c = record { response = c.response; class = c.message.class; sub = c.message.sub; pid = c.message.pid; body = c.message.body }

abbrev pub item_from : Told → Item
item_from x = record { response = x.response; message = record { class = x.class; pid = x.pid; sub = x.sub; body = x.body } }

-- the two say the same
abbrev pub says_the_same : Told → Told → Bool
says_the_same x y = same_item (item_from x) (item_from y)

-- the message before it said the same
abbrev pub is_said_by : Option Post → Told → Bool
is_said_by before x = option_map_or (λ (p : Post). says_the_same p.told x) before false

-- Nothing waits in the device: it answers by a status message, which is empty, or says what the message before it said. Section 10.3.2.
abbrev pub says_nothing : Option Post → Told → Bool
says_nothing before x = (x.pid == 0x0030) && ((length x.body == 0) || is_said_by before x)

abbrev pub news_after : Option Post → Option Post → List Post
news_after before None = []
news_after before (Some p) = if says_nothing before p.told then [] else p ∷ []

-- The letters of these messages, behind another: each once, in order, but for those that say that nothing waits.
abbrev pub posts_behind : List Collected → List (List Collected) → List Post
posts_behind before [] = []
posts_behind before (m ∷ ms) = news_after (post_of before) (post_of m) ++ posts_behind m ms

-- All letters of what was collected.
abbrev pub posts_in : List Collected → List Post
posts_in all = posts_behind [] (messages_in all)

-- ---- a mailbox

-- What a contract sees of a mailbox: its device and its collector; what was collected last; the message that this belongs to, and the
-- one before that.
pub record Mail : Type 0 where
  pub device : Uid
  pub collector : DeviceState
  pub last : Option Collected
  pub message : Draft
  pub before : Draft

abbrev pub last_or : {A : Type 0} → A → List A → A
last_or x [] = x
last_or x (y ∷ ys) = last_or y ys

abbrev pub last_of : List Collected → Option Collected
last_of [] = None
last_of (c ∷ cs) = Some (last_or c cs)

abbrev pub but_last : List (List Collected) → List (List Collected)
but_last [] = []
but_last (m ∷ []) = []
but_last (m ∷ n ∷ ms) = m ∷ but_last (n ∷ ms)

-- The mailbox stands where all this was collected: it keeps the last of it, and of the messages that it makes up the last two.
pub record Keeps (mail : Mail) (all : List Collected) : Type 0 where
  pub last : mail.last ≡ last_of all
  pub message : mail.message ≡ draft_of (last_or [] (messages_in all))
  pub before : mail.before ≡ draft_of (last_or [] (but_last (messages_in all)))

abbrev pub new_mail : Uid → Uid → Want → Mail
new_mail uid target want = record { device = target; collector = new_device_collector uid target want; last = None; message = draft_of []; before = draft_of [] }

-- ---- what is heard

-- it was asked for again, and says the same as what was collected before it. Section 10.3.1.
abbrev pub repeats_last : Option Collected → Collected → Bool
repeats_last None c = false
repeats_last (Some last) c = is_repeat last c

-- the letter that is handed on
abbrev pub handed : Sorted → Option Post → List Post
handed sorted.Letter (Some p) = p ∷ []
handed said p = []

-- What is collected behind all else is sorted so, with this letter in the mailbox.
pub record IsSorted (all : List Collected) (last : Option Collected) (c : Collected) (said : Sorted) (p : Option Post) : Type 0 where
  -- more of the message follows
  pub part : (said ≡ sorted.Part) ↔ (is_part c.response ≡ true)
  -- it was handed on before
  pub repeat : (said ≡ sorted.Repeat) ↔ ((is_part c.response ≡ false) × (repeats_last last c ≡ true))
  -- Each letter is handed on once: all that were, and this one, are the letters of all that was collected.
  pub once : posts_in (all ++ c ∷ []) ≡ posts_in all ++ handed said p

-- the collector after it heard what came in a transaction, which is over then, with what it collected
abbrev pub after_bytes : DeviceState → Option (List ℕ) → DeviceState
after_bytes s None = after_over s
after_bytes s (Some bytes) = after_over (after_hearing s bytes)

abbrev pub heard_as : DeviceState → Option (List ℕ) → DeviceHeard
heard_as s None = heard.Ignored
heard_as s (Some bytes) = heard_in s bytes

abbrev pub first_of : List Collected → Option Collected
first_of [] = None
first_of (c ∷ cs) = Some c

-- what was collected then, of which there is one at most
abbrev pub collected_of : DeviceState → Option (List ℕ) → Option Collected
collected_of s bytes = first_of (after_bytes s bytes).recorded

-- what it comes to if nothing was collected
abbrev pub came_as : DeviceHeard → Came
came_as heard.Reply = came.Reply
came_as heard.Unsupported = came.NoQueue
came_as (heard.Refused reason) = came.Refused reason
came_as (heard.NotYet tenths) = came.NotYet tenths
came_as h = came.Ignored
