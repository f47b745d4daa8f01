use Rattle.std.proofs.Common.{List, map, codes}
use Rattle.arrayvec.specs.declared.array_vec.ArrayVec.{ArrayVec}
use Rattle.toml.specs.View.{table_view}
use Rattle.rdm_profile.specs.declared.profile.modes.Mode.{Mode}
use Rattle.rdm_profile.specs.declared.profile.modes.ModeShape.{ModeShape}
use Rattle.rdm_profile.specs.Modes.{shape_of}
use Rattle.rdm_fixture.specs.Lists.{Lists, OfTable}
use Rattle.rdm_fixture.specs.OwnSlots.{AreModes, SaysShape}
use Rattle.rdm_fixture_keys.proofs.Readings.{Reads-ok}
use Rattle.rdm_fixture.proofs.OwnSlots.{Reads-refused, shaped, modes_said}
use Rattle.rdm_fixture.proofs.modes.shapes.Goals as goal

pub returns-clause-said : goal.returns-clause-said
returns-clause-said c =
    Reads-ok {A = ArrayVec ModeShape 247 (Unit {0})} (λ t xs. Lists t (codes "mode") (OfTable SaysShape) 0 247 xs.items)
    (λ _. (ms : List Mode) × AreModes (table_view c.args.table.now) ms) (table_view c.args.table.now) _
    (λ xs h. modes_said (table_view c.args.table.now) xs.items h) c.list.ensures.read

pub returns-clause-none : goal.returns-clause-none
returns-clause-none c =
    Reads-refused {A = ArrayVec ModeShape 247 (Unit {0})} (λ t xs. Lists t (codes "mode") (OfTable SaysShape) 0 247 xs.items)
    ((ms : List Mode) → ¬ AreModes (table_view c.args.table.now) ms) (table_view c.args.table.now) _
    (λ none ms h. none (record { items = map shape_of ms }) (shaped (table_view c.args.table.now) ms h)) c.list.ensures.read
