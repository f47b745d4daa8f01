use Rattle.std.proofs.Common.{rules, ◌≡◌, ◌≢◌, [], true, false, ◌==◌, Err}
use Rattle.std.proofs.lemmas.List.{nil_from_length}
use Rattle.rdm_frame.specs.declared.nack.Nack.TheVariants.{UnknownPid}
use Rattle.rdm_table.specs.declared.kind.Verb.TheVariants.{Get}
use Rattle.rdm_commands.specs.Commands.Commands.{addressed, is_some_device}
use Rattle.rdm_table.specs.Table.Rows.{row_of, is_left_out}
use Rattle.rdm_table.specs.Table.Uses.{access}
use Rattle.rdm_commands.proofs.AddedCommands.{plain_get, get_of_sub, table_get}
use Rattle.rdm_commands.proofs.commands.Devices.try_get.Goals as goal

pub returns-then-is_empty-clause-err : goal.returns-then-is_empty-clause-err
returns-then-is_empty-clause-err c =
    let here : is_some_device (addressed c.args.self.now c.args.sub Get) ≡ true = search rules in
    let none : c.args.self.now.profile.particulars.own ≡ [] = search (rules, nil_from_length) in
    let stays : is_left_out c.args.self.now.profile c.args.pid ≡ false = search rules in
    let refused : access (row_of c.args.pid) (c.args.sub == 0) Get ≡ Err UnknownPid = search rules in
    plain_get c.args.self.now c.args.sub c.args.pid c.args.data.now UnknownPid here none stays refused

pub returns-then-sub-ne0-clause-err : goal.returns-then-sub-ne0-clause-err
returns-then-sub-ne0-clause-err c =
    let here : is_some_device (addressed c.args.self.now c.args.sub Get) ≡ true = search rules in
    let n : c.args.sub ≢ 0 = search rules in
    let stays : is_left_out c.args.self.now.profile c.args.pid ≡ false = search rules in
    let refused : access (row_of c.args.pid) (c.args.sub == 0) Get ≡ Err UnknownPid = search rules in
    get_of_sub c.args.self.now c.args.sub c.args.pid c.args.data.now UnknownPid here n stays refused

pub returns-in-Err : goal.returns-in-Err
returns-in-Err c =
    let here : is_some_device (addressed c.args.self.now c.args.sub Get) ≡ true = search rules in
    let stays : is_left_out c.args.self.now.profile c.args.pid ≡ false = search rules in
    let other : c.in-Err.nack ≢ UnknownPid = search rules in
    record {
      ok = tt;
      err = table_get c.args.self.now c.args.sub c.args.pid c.args.data.now c.in-Err.nack here stays other c.in-Err.ensures.err;
      job = tt;
      empty = λ (not_done : _). c.requires;
    }
