use Rattle.std.proofs.Common.{sym, subst}
use Rattle.std.specs.Option.{option_map}
use Rattle.rdm_table.specs.declared.kind.Verb.{Verb}
use Rattle.rdm_params.specs.Table.Kinds.{pid_of}
use Rattle.rdm_params.specs.Table.Rows.{row_of}
use Rattle.rdm_entry.specs.Slots.{Fit}
use Rattle.rdm_entry.proofs.table.fields_in_table.Goals as goal

pub returns-in-Get : goal.returns-in-Get
returns-in-Get c =
    subst (λ (v : Verb). Fit (row_of (pid_of c.args.kind)) v (option_map (λ fields. fields.now) c.get_fields.result)) (sym c.in-Get.is) c.get_fields.ensures

pub returns-in-Set : goal.returns-in-Set
returns-in-Set c =
    subst (λ (v : Verb). Fit (row_of (pid_of c.args.kind)) v (option_map (λ fields. fields.now) c.set_fields.result)) (sym c.in-Set.is) c.set_fields.ensures
