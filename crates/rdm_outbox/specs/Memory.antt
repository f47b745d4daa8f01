-- How an outbox lies in memory.
use Rattle.std.specs.Prelude.{◌≡◌, ◌≤◌}
use Rattle.std.specs.Vec.{vec_capacity}
use Rattle.rdm_outbox.specs.declared.outbox.Outbox.TheInside.{Inside}
use Rattle.rdm_outbox.specs.State.{State, HasRoom}

-- what a contract sees of it
abbrev pub seen : Inside → State
seen o = record {
  q = o.q;
  jobs = o.jobs;
  entries = o.entries;
  first_job = o.first_job;
  workers = o.workers;
  first = o.first.items;
  second = o.second.items;
  first_given = o.first_given;
  second_given = o.second_given;
  queue = o.queue.items;
  unshown = o.unshown.items;
  last = o.last;
}

-- The room rule holds, each ring holds q items, and the list as many entries as may wait: all of them had their memory at the
-- start.
pub record FitsItsMemory (o : Inside) : Type 0 where
  pub room : HasRoom (seen o)
  pub first : o.first.capacity ≡ o.q
  pub second : o.second.capacity ≡ o.q
  pub queue : o.queue.capacity ≡ o.q
  pub entries : o.entries ≤ vec_capacity o.unshown
