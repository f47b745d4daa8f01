use Rattle.rdm_added.proofs.added.setting.store_by.Goals as goal

pub returns-in-Clear-clause-after : goal.returns-in-Clear-clause-after
returns-in-Clear-clause-after c spot same = rw c.in-Clear.is (c.store_start.ensures.after spot c.args.value.now)

pub returns-in-Get-clause-after : goal.returns-in-Get-clause-after
returns-in-Get-clause-after c spot same = rw c.in-Get.is (c.store_kept.ensures.after spot)

pub returns-in-Both-clause-after : goal.returns-in-Both-clause-after
returns-in-Both-clause-after c spot same = rw c.in-Both.is (c.store_kept-in-Both.ensures.after spot)
