use Rattle.std.proofs.Common.{ℕ, List, ◌∷◌, sym, ap, ◌∙◌}
use Rattle.std.specs.Prelude.{slice_get}
use Rattle.rdm_device.specs.Device.Measuring.{shown_slots}
use Rattle.rdm_device.proofs.Sensors.{sensor_is, sensor_is_not, none_shown}
use Rattle.rdm_device.proofs.columns.replies.reading_of.Goals as goal

pub returns-in-Some : goal.returns-in-Some
returns-in-Some c =
    c.reading.ensures ∙ ap (λ (xs : List ℕ). c.args.number ∷ xs) c.shown.ensures ∙ ap (λ (xs : List ℕ). c.args.number ∷ shown_slots (slice_get c.args.profile.now.sensors.items c.args.number) xs) (sym (sensor_is c.args.number c.args.sensors.now c.in-Some.measured (sym c.measured_at.ensures ∙ c.in-Some.is)))

pub returns-in-None : goal.returns-in-None
returns-in-None c =
    ap (λ (xs : List ℕ). c.args.number ∷ xs) (sym (none_shown (slice_get c.args.profile.now.sensors.items c.args.number))) ∙ ap (λ (xs : List ℕ). c.args.number ∷ shown_slots (slice_get c.args.profile.now.sensors.items c.args.number) xs) (sym (sensor_is_not c.args.number c.args.sensors.now (sym c.measured_at.ensures ∙ c.in-None.is)))
