use Rattle.std.proofs.Common.{codes, decimal, ◌++◌, ℕ, List, ap, ◌∙◌}
use Rattle.rdm_describe.specs.Comments as spec
use Rattle.toml.specs.Parse.{skip_bom}
use Rattle.rdm_describe.proofs.Commented.{described}
use Rattle.rdm_describe.proofs.comments.put_description.Goals as goal

pub returns-in-Ok-with_comments-clause-ok : goal.returns-in-Ok-with_comments-clause-ok
returns-in-Ok-with_comments-clause-ok c =
    let d = c.args.description.now in
    let front = spec.comments d.fixture.uid c.args.answers.now d.notes.items in
    described d.fixture.uid c.args.answers.now d.notes.items c.in-Ok.file.bytes.items c.in-Ok-with_comments.text.items d.fixture
    (c.in-Ok-with_comments.ensures ∙ ap (λ (t : List ℕ). front ++ skip_bom t) c.as_bytes.ensures.value) c.in-Ok.ensures.ok
