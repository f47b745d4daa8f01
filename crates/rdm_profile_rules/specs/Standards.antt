-- The shapes of the data of the standards' parameters, as the definitions have them. E1.20 section 10; E1.37-1.
use Rattle.std.specs.Prelude.{Bool}
use Rattle.rdm_profile.specs.declared.profile.own.ParameterDef.{ParameterDef}
use Rattle.rdm_profile.specs.Standards.{numbers, words, choice, names, rates, scenes, lock, pin, block}
use Rattle.rdm_profile_rules.specs.declared.lines.StandardShape.{StandardShape}
use Rattle.rdm_profile_rules.specs.declared.lines.StandardShape.TheVariants as kinds

-- whether the data of a parameter of a profile are these
abbrev pub fits : StandardShape → ParameterDef → Bool
fits (kinds.Numbers size sizes) = numbers size sizes.now
fits (kinds.Words most) = words most
fits kinds.Choice = choice
fits kinds.Names = names
fits kinds.Rates = rates
fits kinds.Scenes = scenes
fits kinds.Lock = lock
fits kinds.Pin = pin
fits kinds.Block = block
