use Rattle.std.proofs.Common.{refl}
use Rattle.rdm_fixture.specs.OwnSlots.{SaysShape, mode_said}
use Rattle.rdm_fixture_keys.proofs.Readings.{Reads-err}
use Rattle.rdm_fixture.proofs.OwnSlots.{before_memory}
use Rattle.rdm_fixture.proofs.modes.ModeShapeFromEntry.from_entry.Goals as goal

pub returns-in_err-mode-clause-read : goal.returns-in_err-mode-clause-read
returns-in_err-mode-clause-read c =
    Reads-err SaysShape _ _ c.from_residual.ensures.0 (λ s h. c.in_err-mode.ensures.read (before_memory h.0) h.1)

pub returns-clause-read : goal.returns-clause-read
returns-clause-read c = (mode_said c.in_ok-mode.mode, c.in_ok-mode.ensures.read, rw c.len.ensures.value refl)
