use Rattle.std.proofs.Common.{◌≡◌, take, ap, ◌∙◌, arith}
use Rattle.std.proofs.lemmas.List.{take_all}
use Rattle.toml.specs.Data.{string}
use Rattle.toml.specs.View.{view}
use Rattle.toml.proofs.Views.{view-Array}
use Rattle.rdm_fixture.specs.Format.{parameter_named}
use Rattle.rdm_fixture.specs.Writing.{IsPlain}
use Rattle.rdm_fixture.proofs.WrittenParameters.{name_more, string_is_plain}
use Rattle.rdm_fixture.proofs.WrittenLists.{plain_last}
use Rattle.rdm_fixture.proofs.writing.tables.names_of.Goals as goal

pub loop-pid-preserved : goal.loop-pid-preserved
loop-pid-preserved c =
    let value : view c.in_ok-string.field-0 ≡ string c.name_of.result.now = c.in_ok-string.ensures in
    let plain : IsPlain 0 (view c.in_ok-string.field-0) = string_is_plain _ _ value in
    let shallow = plain.shallow in
    record {
      says = λ optional.
          rw c.in_ok-push.ensures.items
          (name_more c.loop-pid.names.items c.in_ok-string.field-0 c.args.pids.now c.loop-pid.pid-index
          c.loop-pid-test.true (c.loop-pid.invariant.says optional)
          (ap parameter_named value ∙ c.name_of.ensures (optional c.loop-pid.pid-index 0 c.loop-pid-test.true)));
      plain = rw c.in_ok-push.ensures.items
          (plain_last 1 c.loop-pid.names.items c.in_ok-string.field-0 (omega arith) c.loop-pid.invariant.plain (omega (arith, shallow)) plain.dates);
    }

pub returns-clause-says : goal.returns-clause-says
returns-clause-says c = λ optional.
    let whole : take c.loop-pid.pid-index c.args.pids.now ≡ c.args.pids.now = take_all _ _ c.loop-pid-test.false in
    rw (view-Array c.loop-pid.names) (rw whole at (c.loop-pid.invariant.says optional))
