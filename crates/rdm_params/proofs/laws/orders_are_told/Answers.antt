use Rattle.rdm_params.proofs.OrderCounts.{counts_stay_placed, counts_stay_committed, counts_stay_changed}
use Rattle.rdm_params.proofs.Orders.{orders_are_told, orders_are_counted, counts_stay}
use Rattle.rdm_params.proofs.laws.orders_are_told.Goals as goal

pub returns-clause-told : goal.returns-clause-told
returns-clause-told c = orders_are_told

pub returns-clause-counted : goal.returns-clause-counted
returns-clause-counted c = orders_are_counted

pub returns-clause-stays : goal.returns-clause-stays
returns-clause-stays c = counts_stay

pub returns-clause-placed : goal.returns-clause-placed
returns-clause-placed c = counts_stay_placed

pub returns-clause-committed : goal.returns-clause-committed
returns-clause-committed c = counts_stay_committed

pub returns-clause-changed : goal.returns-clause-changed
returns-clause-changed c = counts_stay_changed
