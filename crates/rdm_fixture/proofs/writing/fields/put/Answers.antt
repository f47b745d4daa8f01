use Rattle.std.proofs.Common.{ap, ◌∙◌}
use Rattle.toml.specs.View.{view, table_view, members_view}
use Rattle.rdm_fixture.specs.Writing.{with_member}
use Rattle.rdm_fixture.proofs.Fields.{members_view-insert_entry}
use Rattle.rdm_fixture.proofs.writing.fields.put.Goals as goal

pub returns : goal.returns
returns c = λ ok.
    let old = table_view c.args.table.now in
    rw c.in-Some.is (ap members_view c.in_ok-insert.ensures.entries
    ∙ members_view-insert_entry c.args.table.now.entries c.in_ok-from_str.field-0 c.in-Some.value
    ∙ ap (λ k. with_member k (view c.in-Some.value) old) c.in_ok-from_str.ensures.ok)
