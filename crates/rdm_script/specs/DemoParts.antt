-- The demonstration: its fixture, how its jobs end, and what its panel offers.
use Rattle.std.specs.Prelude.{◌≡◌, ℕ, ◌==◌, Option, Some, None, codes, if◌then◌else◌}
use Rattle.rdm_profile.specs.Demo.{demo}
use Rattle.rdm_commands.specs.declared.panel.Change.{Change}
use Rattle.rdm_commands.specs.declared.panel.Change.TheVariants.{Start, Personality, Label}
use Rattle.rdm_outcomes.specs.Demo.{demo_outcome}
use Rattle.rdm_script.specs.declared.dialect.Spelling.{Spelling}
use Rattle.rdm_script.specs.declared.dialect.Spelling.TheVariants.{Strict}
use Rattle.rdm_script.specs.Parties.{demo_device}
use Rattle.rdm_script.specs.Scene.{Scene}

-- The changes at the panel, in order: a label, a start address, a personality that the fixture hasn't got, and one that it
-- has (DEVICE_LABEL, DMX_START_ADDRESS and DMX_PERSONALITY, sections 10.5.5, 10.6.3 and 10.6.1).
abbrev pub panel_change : ℕ → Option Change
panel_change number =
    if number == 0 then Some (Label (codes "Panel"))
    else (if number == 1 then Some (Start 101)
    else (if number == 2 then Some (Personality 9)
    else (if number == 3 then Some (Personality 2) else None)))

-- The moving head of the demonstration, with as many sub-devices as there can be (E1.20 section 9). Both workers end a
-- job in the one way that rdm_outcomes says. The words of its scripts are spelled so.
abbrev pub demo_scene_in : Spelling → Scene
demo_scene_in spelling = record {
  device = demo_device;
  profile = demo 512;
  spelling = spelling;
  first = λ before job outcome. outcome ≡ demo_outcome job;
  second = λ before job outcome. outcome ≡ demo_outcome job;
  offers = λ number change. panel_change number ≡ Some change;
}

-- the demonstration with scripts in strict words
abbrev pub demo_scene : Scene
demo_scene = demo_scene_in Strict
