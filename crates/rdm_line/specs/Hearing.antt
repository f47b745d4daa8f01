-- Which devices of a line hear bytes, what it makes of their histories, and what they answer. E1.20 section 6.2.4.
use Rattle.std.specs.Prelude.{ℕ, Bool, ◌&&◌, nat_le, List, length, if◌then◌else◌}
use Rattle.std.specs.Option.{option_to_list}
use Rattle.std.specs.List.{flat_map}
use Rattle.rdm_frame.specs.declared.uid.Uid.{Uid}
use Rattle.rdm_frame.specs.Addressing.{is_addressed}
use Rattle.rdm_frame.specs.Reading.{uid_at}
use Rattle.rdm_responder.specs.History.{History, Heard, then_event}
use Rattle.rdm_responder.specs.Rules.{reply_of}

-- The destination, slots 3 to 8 of the bytes, addresses the device with this UID. Shorter bytes address nobody.
abbrev pub hears : Uid → List ℕ → Bool
hears own bytes = nat_le 9 (length bytes) && is_addressed own (uid_at bytes 3)

-- the history of a device after these bytes were on its line
abbrev pub heard_by : List ℕ → History → History
heard_by bytes h = if hears h.setup.uid bytes then then_event h (Heard bytes) else h

-- what all devices of a line answer to these bytes by the reply rules, in their order
abbrev pub answers : List ℕ → List History → List (List ℕ)
answers bytes hs = flat_map (λ h. option_to_list (reply_of h bytes)) hs
