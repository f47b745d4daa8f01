-- The steps that `find` spells: those of a search of a line that has one fixture alone. E1.20 sections 7.5 and 7.6.
use Rattle.std.specs.Prelude.{ℕ, List, [], ◌∷◌, ◌++◌}
use Rattle.rdm_frame.specs.declared.uid.Uid.{Uid}
use Rattle.rdm_frame.specs.Addressing.{all_devices}
use Rattle.rdm_frame.specs.FrameText.{uid_slots}
use Rattle.rdm_frame.specs.declared.fault.Fault.TheVariants as fault
use Rattle.rdm_collector.specs.declared.command.Action.TheVariants.{Disc}
use Rattle.rdm_crew.specs.declared.step.CrewStep.{CrewStep}
use Rattle.rdm_crew.specs.declared.step.CrewStep.TheVariants.{Ask}
use Rattle.rdm_script.specs.declared.dialect.Spelling.{Spelling}
use Rattle.rdm_script.specs.declared.dialect.Spelling.TheVariants.{Strict, Friendly}

-- a discovery command for the root, with which nothing goes wrong
abbrev pub discovery : Uid → ℕ → List ℕ → CrewStep
discovery destination pid load = Ask (record { dst = destination; action = Disc; sub = 0; pid = pid; load = load }) fault.None

-- DISC_UNIQUE_BRANCH from the least UID to the greatest
abbrev pub whole_branch : CrewStep
whole_branch = discovery all_devices 0x0001 (uid_slots (record { maker = 0; device = 0 }) ++ uid_slots all_devices)

-- All are un-muted, and asked who is there; the fixture that answered is muted, and all are asked again.
abbrev pub search_of : Uid → List CrewStep
search_of device = discovery all_devices 0x0003 [] ∷ whole_branch ∷ discovery device 0x0002 [] ∷ whole_branch ∷ []

-- how many steps a line says at most
abbrev pub most_steps : Spelling → ℕ
most_steps Strict = 1
most_steps Friendly = 4
