-- The parts of a message that doesn't fit one response, and their data joined. E1.20 section 6.3.2.
use Rattle.std.specs.Prelude.{ℕ, ◌+◌, ◌-◌, nat_lt, Bool, true, false, not, ◌&&◌, ◌||◌, ◌==◌, if◌then◌else◌, List, [], ◌∷◌, ◌++◌, length, slice_get}
use Rattle.std.specs.Option.{option_map_or}
use Rattle.rdm_frame.specs.declared.message.Message.{Message}
use Rattle.rdm_collector.specs.declared.reply.Response.{Response}
use Rattle.rdm_collector.specs.declared.any_device.collected.Collected.{Collected}
use Rattle.rdm_collector.specs.AnyDevice.Items.{item_of, same_item, type_code}

-- More of the message follows. Section 6.3.2.
abbrev pub is_part : Response → Bool
is_part r = type_code r == 0x03

-- The two are of one command class, parameter and sub-device.
abbrev pub same_parameter : Message → Message → Bool
same_parameter m n = (m.class == n.class) && (m.pid == n.pid) && (m.sub == n.sub)

-- It was asked for again, and says the same as what was recorded before it: it may be a repeat of it.
abbrev pub is_repeat : Collected → Collected → Bool
is_repeat before c = c.again && same_item (item_of before) (item_of c)

-- It goes on with the message of what was recorded before it: that was a part, and this is of the same parameter; or it may be a
-- repeat.
abbrev pub goes_on : Collected → Collected → Bool
goes_on before c = is_repeat before c || (is_part before.response && same_parameter before.message c.message)

-- how many of those behind go on, one after the other
abbrev pub run_behind : Collected → List Collected → ℕ
run_behind before [] = 0
run_behind before (c ∷ cs) = if goes_on before c then 1 + run_behind c cs else 0

-- How many of what was recorded make up the first message, as far as it came: its parts and its repeats.
abbrev pub first_run : List Collected → ℕ
first_run [] = 0
first_run (c ∷ cs) = 1 + run_behind c cs

-- the last of what was recorded is a part
abbrev pub ends_in_part : List Collected → Bool
ends_in_part cs = option_map_or (λ (c : Collected). is_part c.response) (slice_get cs (length cs - 1)) false

-- The first message is whole, or won't go on, since something else follows its last part. It is not if all that was recorded is
-- the parts of one message, the last of which says that more follows.
abbrev pub has_whole : List Collected → Bool
has_whole cs = nat_lt 0 (length cs) && not ((first_run cs == length cs) && ends_in_part cs)

-- It goes on with a message that the one before it is a part of, and between the two a poll has no answer. So a part may be missing
-- there: one that says the same as the one before it can't be told from a repeat.
abbrev pub is_unsure : Collected → Collected → Bool
is_unsure before c = is_part before.response && c.after_loss

-- whether one of those behind this is unsure
abbrev pub is_unsure_behind : Collected → List Collected → Bool
is_unsure_behind before [] = false
is_unsure_behind before (c ∷ cs) = is_unsure before c || is_unsure_behind c cs

-- Each poll between the first and the last part of a message was answered, so that no part is missing.
abbrev pub is_sure : List Collected → Bool
is_sure [] = true
is_sure (c ∷ cs) = not (is_unsure_behind c cs)

-- the data of what follows this, the repeats left out
abbrev pub data_behind : Collected → List Collected → List ℕ
data_behind before [] = []
data_behind before (c ∷ cs) = (if is_repeat before c then [] else c.message.body) ++ data_behind c cs

-- The data of a message: those of its parts, one behind the other, the repeats left out.
abbrev pub joined_data : List Collected → List ℕ
joined_data [] = []
joined_data (c ∷ cs) = c.message.body ++ data_behind c cs
