-- An interface, as an end of its line.
use Rattle.std.specs.Prelude.{◌≡◌, ℕ, List, Option}
use Rattle.std.specs.declared.io.traits.Read.{Ghosts as ReadGhosts}
use Rattle.std.specs.declared.io.traits.Write.{Ghosts as WriteGhosts}
use Rattle.rdm_collector.specs.declared.port.PortError.{PortError}
use Rattle.rdm_messages.specs.declared.clock.Clock.{Ghosts as ClockGhosts}
use Rattle.rdm_messages.specs.Ends.{End, end_at}
use Rattle.rdm_interface.specs.declared.interface.Interface.{Interface}
use Rattle.rdm_interface.specs.Exchanges.{HasFailed, IsExchanged}

-- The end of the line that an interface is: its clock, what there is to read at its reader, what was written at its writer, and what it
-- holds.
abbrev pub end_of : {R W C : Type 0} {r : ReadGhosts R} {w : WriteGhosts W} {c : ClockGhosts C} → Interface R W C r w c → End C
end_of {r = r} {w = w} i = end_at i.clock (r.remaining i.reader) (w.contents i.writer) i.held

-- This may be heard of a request that is sent through an interface: what the exchange says. The limit stays.
abbrev pub hears_of : {R W C : Type 0} {r : ReadGhosts R} {w : WriteGhosts W} {c : ClockGhosts C}
    → Interface R W C r w c → List ℕ → Option (List ℕ) → Interface R W C r w c → Type 0
hears_of {c = c} before request heard after = IsExchanged c.tells before.span (end_of before) (end_of after) request heard × (after.span ≡ before.span)

-- It may fail so. The limit stays.
abbrev pub fails_of : {R W C : Type 0} {r : ReadGhosts R} {w : WriteGhosts W} {c : ClockGhosts C}
    → Interface R W C r w c → List ℕ → PortError → Interface R W C r w c → Type 0
fails_of before request error after = HasFailed (end_of before) (end_of after) request error × (after.span ≡ before.span)
