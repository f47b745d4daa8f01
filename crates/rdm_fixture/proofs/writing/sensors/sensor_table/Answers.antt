use Rattle.std.proofs.Common.{◌≤◌, ap, length, refl, option_map, arith, rules}
use Rattle.std.specs.Int.{w16}
use Rattle.std.proofs.lemmas.Int.{to_z-of_z}
use Rattle.toml.specs.View.{view, members_view}
use Rattle.rdm_fixture.specs.Lists.{ListAt, OfTable}
use Rattle.rdm_fixture.specs.OverTime.{IsPoint}
use Rattle.rdm_fixture.proofs.WrittenEntries.{sensor_says, present_says, course_says, sensor_plain}
use Rattle.rdm_fixture.proofs.WrittenFixtures.{deeper_some}
use Rattle.rdm_fixture.proofs.WrittenLists.{some_plain}
use Rattle.rdm_fixture.proofs.writing.sensors.sensor_table.Goals as goal

pub returns-clause-sensor : goal.returns-clause-sensor
returns-clause-sensor c = λ can.
    let low = to_z-of_z w16 c.args.sensor.now.low (search rules) in
    let high = to_z-of_z w16 c.args.sensor.now.high (search rules) in
    let normal_low = to_z-of_z w16 c.args.sensor.now.normal_low (search rules) in
    let normal_high = to_z-of_z w16 c.args.sensor.now.normal_high (search rules) in
    rw (
      c.in_ok-put-4.ensures refl,
      c.in_ok-put-3.ensures refl,
      c.in_ok-put-2.ensures refl,
      c.in_ok-put.ensures refl,
      c.in_ok-put_flag.ensures refl,
      c.in_ok-put_text.ensures.put refl,
      c.in_ok-put_byte.ensures.put refl,
      c.in_ok-put_signed-4.ensures.put refl,
      c.in_ok-put_signed-3.ensures.put refl,
      c.in_ok-put_signed-2.ensures.put refl,
      c.in_ok-put_signed.ensures.put refl,
      c.in_ok-put_named_byte-3.ensures.put refl,
      c.in_ok-put_named_byte-2.ensures.put refl,
      c.in_ok-put_named_byte.ensures.put refl,
      ap members_view c.new-table.ensures.empty,
      low,
      high,
      normal_low,
      normal_high,
    )
    (sensor_says c.args.sensor.now (option_map view c.present_of.result) (option_map view c.in_ok-points.points) (option_map view c.in_ok-way_of.field-0) (option_map view c.repeats_of.result) c.put_named_byte.ensures.says c.put_named_byte-2.ensures.says c.put_named_byte-3.ensures.says
    (rw low at c.put_signed.ensures.says) (rw high at c.put_signed-2.ensures.says) (rw normal_low at c.put_signed-3.ensures.says)
    (rw normal_high at c.put_signed-4.ensures.says) c.put_byte.ensures.says (c.put_text.ensures.says can))

pub returns-clause-present : goal.returns-clause-present
returns-clause-present c =
    let low = to_z-of_z w16 c.args.sensor.now.low (search rules) in
    let high = to_z-of_z w16 c.args.sensor.now.high (search rules) in
    let normal_low = to_z-of_z w16 c.args.sensor.now.normal_low (search rules) in
    let normal_high = to_z-of_z w16 c.args.sensor.now.normal_high (search rules) in
    rw (
      c.in_ok-put-4.ensures refl,
      c.in_ok-put-3.ensures refl,
      c.in_ok-put-2.ensures refl,
      c.in_ok-put.ensures refl,
      c.in_ok-put_flag.ensures refl,
      c.in_ok-put_text.ensures.put refl,
      c.in_ok-put_byte.ensures.put refl,
      c.in_ok-put_signed-4.ensures.put refl,
      c.in_ok-put_signed-3.ensures.put refl,
      c.in_ok-put_signed-2.ensures.put refl,
      c.in_ok-put_signed.ensures.put refl,
      c.in_ok-put_named_byte-3.ensures.put refl,
      c.in_ok-put_named_byte-2.ensures.put refl,
      c.in_ok-put_named_byte.ensures.put refl,
      ap members_view c.new-table.ensures.empty,
      low,
      high,
      normal_low,
      normal_high,
    )
    (present_says c.args.sensor.now (option_map view c.present_of.result) (option_map view c.in_ok-points.points) (option_map view c.in_ok-way_of.field-0) (option_map view c.repeats_of.result) c.args.present c.present_of.ensures.says)

pub returns-clause-course : goal.returns-clause-course
returns-clause-course c = λ fits.
    let few : length c.args.course.now.points.items ≤ 16 = omega (arith, ap length c.as_slice.ensures.value, c.as_slice.ensures.fits) in
    let listed : ListAt (OfTable IsPoint) (option_map view c.in_ok-points.points) c.args.course.now.points.items =
    rw c.as_slice.ensures.value at (c.in_ok-points.ensures.says 0 (λ k x less. tt)) in
    let low = to_z-of_z w16 c.args.sensor.now.low (search rules) in
    let high = to_z-of_z w16 c.args.sensor.now.high (search rules) in
    let normal_low = to_z-of_z w16 c.args.sensor.now.normal_low (search rules) in
    let normal_high = to_z-of_z w16 c.args.sensor.now.normal_high (search rules) in
    rw (
      c.in_ok-put-4.ensures refl,
      c.in_ok-put-3.ensures refl,
      c.in_ok-put-2.ensures refl,
      c.in_ok-put.ensures refl,
      c.in_ok-put_flag.ensures refl,
      c.in_ok-put_text.ensures.put refl,
      c.in_ok-put_byte.ensures.put refl,
      c.in_ok-put_signed-4.ensures.put refl,
      c.in_ok-put_signed-3.ensures.put refl,
      c.in_ok-put_signed-2.ensures.put refl,
      c.in_ok-put_signed.ensures.put refl,
      c.in_ok-put_named_byte-3.ensures.put refl,
      c.in_ok-put_named_byte-2.ensures.put refl,
      c.in_ok-put_named_byte.ensures.put refl,
      ap members_view c.new-table.ensures.empty,
      low,
      high,
      normal_low,
      normal_high,
    )
    (course_says c.args.sensor.now (option_map view c.present_of.result) (option_map view c.in_ok-points.points) (option_map view c.in_ok-way_of.field-0) (option_map view c.repeats_of.result)
    c.args.course.now listed few c.in_ok-way_of.ensures.says c.repeats_of.ensures.says fits)

pub returns-clause-plain : goal.returns-clause-plain
returns-clause-plain c =
    let low = to_z-of_z w16 c.args.sensor.now.low (search rules) in
    let high = to_z-of_z w16 c.args.sensor.now.high (search rules) in
    let normal_low = to_z-of_z w16 c.args.sensor.now.normal_low (search rules) in
    let normal_high = to_z-of_z w16 c.args.sensor.now.normal_high (search rules) in
    rw (
      c.in_ok-put-4.ensures refl,
      c.in_ok-put-3.ensures refl,
      c.in_ok-put-2.ensures refl,
      c.in_ok-put.ensures refl,
      c.in_ok-put_flag.ensures refl,
      c.in_ok-put_text.ensures.put refl,
      c.in_ok-put_byte.ensures.put refl,
      c.in_ok-put_signed-4.ensures.put refl,
      c.in_ok-put_signed-3.ensures.put refl,
      c.in_ok-put_signed-2.ensures.put refl,
      c.in_ok-put_signed.ensures.put refl,
      c.in_ok-put_named_byte-3.ensures.put refl,
      c.in_ok-put_named_byte-2.ensures.put refl,
      c.in_ok-put_named_byte.ensures.put refl,
      ap members_view c.new-table.ensures.empty,
      low,
      high,
      normal_low,
      normal_high,
    )
    (sensor_plain c.args.sensor.now (option_map view c.present_of.result) (option_map view c.in_ok-points.points) (option_map view c.in_ok-way_of.field-0) (option_map view c.repeats_of.result)
    (deeper_some 0 2 _ (omega arith) (some_plain 0 c.present_of.result c.present_of.ensures.plain))
    (some_plain 2 c.in_ok-points.points c.in_ok-points.ensures.plain)
    (deeper_some 0 2 _ (omega arith) (some_plain 0 c.in_ok-way_of.field-0 c.in_ok-way_of.ensures.plain))
    (deeper_some 0 2 _ (omega arith) (some_plain 0 c.repeats_of.result c.repeats_of.ensures.plain)))
