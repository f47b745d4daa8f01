-- There are two workers.
use Rattle.std.proofs.Common.{◌<◌, lit<}
use Rattle.rdm_profile.specs.declared.profile.workers.Worker.{Worker}
use Rattle.rdm_profile.specs.declared.profile.workers.Worker.TheVariants.{First, Second}
use Rattle.rdm_profile.specs.declared.profile.workers.Workers.{Workers}
use Rattle.rdm_profile.specs.Workers.{worker_number}
use Rattle.rdm_table.specs.declared.slow.Slow.{Slow}
use Rattle.rdm_table.specs.declared.slow.Slow.TheVariants.{Lamp, Power, SelfTest, Sensor}
use Rattle.rdm_table.specs.declared.way.Way.{Way}
use Rattle.rdm_table.specs.declared.way.Way.TheVariants.{AtOnce, ByJob, FromQueue, FromStatus, Clears}
use Rattle.rdm_commands.specs.declared.jobs.work.Work.{Work}
use Rattle.rdm_table.specs.Table.Rows.{command_of}
use Rattle.rdm_commands.specs.Jobs.Work.{worker_in, worker_at}
use Rattle.rdm_table.specs.Table.Uses.{way_of, worker_for}

of_number : (worker : Worker) → worker_number worker < 2
of_number First = lit< tt
of_number Second = lit< tt

for_slow : (ws : Workers) (slow : Slow) → worker_for ws slow < 2
for_slow ws Lamp = of_number ws.lamp
for_slow ws Power = of_number ws.power
for_slow ws SelfTest = of_number ws.self_test
for_slow ws Sensor = of_number ws.sensor

in_way : (ws : Workers) (way : Way) → worker_in ws way < 2
in_way ws AtOnce = lit< tt
in_way ws (ByJob slow) = for_slow ws slow
in_way ws FromQueue = lit< tt
in_way ws FromStatus = lit< tt
in_way ws Clears = lit< tt

pub there_are_two_workers : (ws : Workers) (w : Work) → worker_at ws w < 2
there_are_two_workers ws w = in_way ws (way_of (command_of w.pid w.verb))
