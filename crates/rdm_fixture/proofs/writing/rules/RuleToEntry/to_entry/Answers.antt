use Rattle.std.proofs.Common.{ap, refl, option_map}
use Rattle.toml.specs.View.{view, members_view}
use Rattle.rdm_fixture.proofs.WrittenRules.{put_together, rule_says, rule_plain}
use Rattle.rdm_fixture.proofs.WrittenLists.{some_plain}
use Rattle.rdm_fixture.proofs.writing.rules.RuleToEntry.to_entry.Goals as goal

pub returns-clause-says : goal.returns-clause-says
returns-clause-says c = λ slots can.
    let r = c.args.self.now in
    rw (
      c.in_ok-table.ensures.put,
      c.in_ok-put-2.ensures refl,
      c.in_ok-put.ensures refl,
      c.in_ok-put_name.ensures refl,
      c.name.ensures,
      c.kind.ensures,
      ap members_view c.new-table.ensures.empty,
    )
    (rw (put_together r.task (option_map view c.value_of.result) (option_map view c.turn_of.result) r.outcome)
    (rule_says r (option_map view c.value_of.result) (option_map view c.turn_of.result) can c.in_ok-table.ensures.words
    c.value_of.ensures.says c.turn_of.ensures.says))

pub returns-clause-plain : goal.returns-clause-plain
returns-clause-plain c =
    let r = c.args.self.now in
    rw (
      c.in_ok-table.ensures.put,
      c.in_ok-put-2.ensures refl,
      c.in_ok-put.ensures refl,
      c.in_ok-put_name.ensures refl,
      c.name.ensures,
      c.kind.ensures,
      ap members_view c.new-table.ensures.empty,
    )
    (rw (put_together r.task (option_map view c.value_of.result) (option_map view c.turn_of.result) r.outcome)
    (rule_plain r.task (option_map view c.value_of.result) (option_map view c.turn_of.result) r.outcome
    (some_plain 0 c.value_of.result c.value_of.ensures.plain) (some_plain 0 c.turn_of.result c.turn_of.ensures.plain)))
