-- What a collector that has recorded nothing records in one transaction answers a poll.
use Rattle.std.proofs.Common.{◌≡◌, ℕ, List, [], ◌∷◌, Option, Some, None, IsSome, IsTrue, refl, sym, ◌∙◌, true≢false, inl, inr}
use Rattle.std.proofs.lemmas.Bool.{cases_Bool}
use Rattle.rdm_collector.specs.declared.any_device.collected.Collected.{Collected}
use Rattle.rdm_collector.specs.Answers.{is_poll}
use Rattle.rdm_collector.specs.AnyDevice.Collecting.{DeviceState, after_hearing}
use Rattle.rdm_collector.proofs.AnyDevice.Hearing.{command_still}
use Rattle.rdm_console.specs.Mailboxes.{after_bytes, collected_of, first_of}

none_first : (cs : List Collected) → cs ≡ [] → IsSome (first_of cs) → ⊥
none_first [] e i = true≢false (sym i)
none_first (c ∷ cs) e i = absurd cc

pub polls_alone : (s : DeviceState) (bytes : Option (List ℕ)) → s.recorded ≡ [] → IsSome (collected_of s bytes) → IsTrue (is_poll s.transaction)
polls_alone s None e i = absurd (none_first s.recorded e i)
polls_alone s (Some b) e i =
    elim (cases_Bool (is_poll s.transaction)) [
      | inl poll ↦ poll
      | inr other ↦ absurd (none_first (after_hearing s b).recorded ((command_still s (b ∷ []) other).recorded ∙ e) i)
    ]

-- its transaction is over
pub is_over : (s : DeviceState) (bytes : Option (List ℕ)) → (after_bytes s bytes).transaction ≡ None
is_over s None = refl
is_over s (Some b) = refl
