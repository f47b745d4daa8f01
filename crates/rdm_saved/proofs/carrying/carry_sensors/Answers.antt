use Rattle.std.proofs.Common.{◌≡◌, ℕ, ◌+◌, ◌-◌, ◌*◌, List, ◌++◌, take, drop, ap, ◌∙◌, arith}
use Rattle.rdm_added.specs.declared.state.Measured.{Measured}
use Rattle.rdm_added.specs.Views.State.{sensor_entries}
use Rattle.rdm_saved.specs.SameProfile.{restored_device}
use Rattle.rdm_saved.specs.Carrying.{carried_sensors, sensors_place}
use Rattle.rdm_saved.proofs.Carried.{sensors_carried}
use Rattle.rdm_saved.proofs.carrying.carry_sensors.Goals as goal

pub returns : goal.returns
returns c =
    let n : ℕ = c.said_sensors.result in
    let count : ℕ = c.min-count.result in
    let place : ℕ = c.sensors_place-place.result in
    let piece : place + 2 * count - place ≡ 2 * count = omega arith in
    let bytes : take (place + 2 * count - place) (drop place c.args.image.now) ≡ take (2 * count) (drop (sensors_place c.args.image.now) c.args.image.now) = ap (λ (k : ℕ). take k (drop place c.args.image.now)) piece ∙ ap (λ (k : ℕ). take (2 * count) (drop k c.args.image.now)) c.sensors_place-place.ensures.value in
    let first : sensor_entries 0 c.restore_sensors.new.sensors ≡ restored_device (sensor_entries 0 (take count c.args.sensors.now)) (take (place + 2 * count - place) (drop place c.args.image.now)) = c.restore_sensors.ensures ∙ ap (λ (ms : List Measured). restored_device (sensor_entries 0 ms) (take (place + 2 * count - place) (drop place c.args.image.now))) c.split_at_mut-first.ensures.front in
    ap (λ (ms : List Measured). sensor_entries 0 (c.restore_sensors.new.sensors ++ ms)) c.split_at_mut-first.ensures.back
    ∙ sensors_carried n count c.args.sensors.now c.restore_sensors.new.sensors (drop (sensors_place c.args.image.now) c.args.image.now) _ c.min-count.ensures bytes first
    ∙ ap (λ (k : ℕ). carried_sensors k (sensor_entries 0 c.args.sensors.now) (drop (sensors_place c.args.image.now) c.args.image.now)) c.said_sensors.ensures.value
