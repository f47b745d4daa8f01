use Rattle.std.proofs.Common.{sym, subst}
use Rattle.rdm_search.specs.declared.stage.Stage.{Stage}
use Rattle.rdm_search.specs.declared.stage.Stage.TheVariants.{Asking}
use Rattle.rdm_search.specs.Answers.{found_uids}
use Rattle.rdm_search.specs.Ranges.{IsRange}
use Rattle.rdm_search.specs.Stages.{IsStage, Hears, whole}
use Rattle.rdm_search.proofs.Hearings.{start_hears, branch_hears, mute_hears}
use Rattle.rdm_search.proofs.hearing.after.Goals as goal

pub returns-in-Start-clause-hears : goal.returns-in-Start-clause-hears
returns-in-Start-clause-hears c =
    let us = found_uids c.args.found.now.items in
    subst (λ (s : Stage). Hears s us c.args.bytes.now (Asking whole) us) (sym c.in-Start.is) (start_hears us c.args.bytes.now)

pub returns-in-Asking-clause-hears : goal.returns-in-Asking-clause-hears
returns-in-Asking-clause-hears c =
    let us = found_uids c.args.found.now.items in
    subst (λ (s : Stage). Hears s us c.args.bytes.now c.after_branch.result us) (sym c.in-Asking.is) (branch_hears c.in-Asking.range us c.args.bytes.now c.after_branch.result (λ line stands. (c.after_branch.ensures.leads us line stands, c.after_branch.ensures.strays us line stands)))

pub returns-in_ok-next-in-Muting-clause-hears : goal.returns-in_ok-next-in-Muting-clause-hears
returns-in_ok-next-in-Muting-clause-hears c =
    let fits : IsRange c.in-Muting.range = subst IsStage c.in-Muting.is c.requires in
    subst (λ (s : Stage). Hears s (found_uids c.args.found.now.items) c.args.bytes.now c.in_ok-next-in-Muting.next (found_uids c.after_mute.new.found.items)) (sym c.in-Muting.is) (mute_hears c.in-Muting.range c.in-Muting.uid c.args.found.now.items c.after_mute.new.found.items c.args.bytes.now c.in_ok-next-in-Muting.next fits c.in_ok-next-in-Muting.ensures.stage c.in_ok-next-in-Muting.ensures.found)
