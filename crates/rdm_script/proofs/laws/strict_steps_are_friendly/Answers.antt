use Rattle.std.proofs.Common.{List, ℕ, inl}
use Rattle.rdm_frame.specs.declared.uid.Uid.{Uid}
use Rattle.rdm_profile.specs.declared.profile.own.ParameterDef.{ParameterDef}
use Rattle.rdm_crew.specs.declared.step.CrewStep.{CrewStep}
use Rattle.rdm_crew.specs.declared.step.CrewStep.TheVariants.{Ask, Collect, Draw, Settle, Panel}
use Rattle.rdm_script.specs.Dialects.{strict, friendly}
use Rattle.rdm_script.specs.Spelling.{SpellsStep}
use Rattle.rdm_script.proofs.laws.strict_steps_are_friendly.Goals as goal

as_friendly : (device : Uid) (own : List ParameterDef) (words : List (List ℕ)) (step : CrewStep) → SpellsStep (strict device) words step → SpellsStep (record (friendly device) { own = own }) words step
as_friendly device own words (Ask c f) s = (record { five = s.0.five; action = s.0.action; destination = s.0.destination; sub = inl s.0.sub; pid = inl s.0.pid; load = inl s.0.load }, s.1)
as_friendly device own words (Collect f) s = s
as_friendly device own words Draw s = s
as_friendly device own words (Settle empties) s = s
as_friendly device own words (Panel empties) s = s

pub returns : goal.returns
returns c = as_friendly
