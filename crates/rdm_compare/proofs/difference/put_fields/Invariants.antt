use Rattle.std.proofs.Common.{◌≡◌, ◌++◌, take}
use Rattle.std.specs.List.{flat_map}
use Rattle.rdm_compare.specs.Differences.{field_change}
use Rattle.rdm_compare.proofs.difference.put_fields.Given as goal

abbrev pub invariant-loop-field : goal.invariant-loop-field
invariant-loop-field l = l.list.items ≡ l.fn.list.items ++ flat_map (field_change l.was l.is) (take l.field-index l.fields)
