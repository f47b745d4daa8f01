use Rattle.std.proofs.Common.{rules, ◌≡◌, [], Some}
use Rattle.std.specs.Prelude.{slice_get}
use Rattle.std.proofs.lemmas.List.{nil_from_length}
use Rattle.rdm_profile.specs.declared.value.Value.TheVariants.{Nothing}
use Rattle.rdm_table.specs.declared.kind.Verb.TheVariants.{Get}
use Rattle.rdm_commands.specs.Commands.Commands.{addressed}
use Rattle.rdm_table.specs.Table.Kinds.{pid_of}
use Rattle.rdm_commands.proofs.PlainGets.{plain_reply}
use Rattle.rdm_commands.proofs.commands.Devices.get_plain.Goals as goal

pub returns-clause-ok : goal.returns-clause-ok
returns-clause-ok c =
    let first : slice_get (addressed c.args.self.now c.args.sub Get) 0 ≡ Some c.place_of.result = search rules in
    let empty : c.args.data.now ≡ [] = search (rules, nil_from_length) in
    plain_reply c.args.self.now c.args.sub (pid_of c.args.kind) c.place_of.result c.args.data.now c.state_into.new.body first c.requires.bare c.requires.way empty (c.state_into.ensures Nothing)
