-- Who takes part when a script is played, and how they are set up where it doesn't say.
use Rattle.rdm_frame.specs.declared.uid.Uid.{Uid}
use Rattle.rdm_collector.specs.declared.want.Want.TheVariants.{Advisory}
use Rattle.rdm_script.specs.declared.script.ScriptSetup.{ScriptSetup}

-- the device of the demonstration, 7FF0:00000001
abbrev pub demo_device : Uid
demo_device = record { maker = 0x7FF0; device = 0x00000001 }

-- the controller, 7FF0:00000002
abbrev pub controller : Uid
controller = record { maker = 0x7FF0; device = 0x00000002 }

-- no sub-devices, room for eight results of slow commands, and status entries of every severity
abbrev pub plain_setup : ScriptSetup
plain_setup = record { subs = 0; queue_size = 8; want = Advisory }
