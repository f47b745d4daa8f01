use Rattle.std.proofs.Common.{◌≡◌, true}
use Rattle.rdm_profile.specs.Choices.{have_names}
use Rattle.rdm_profile_rules.proofs.choice_checks.have_names.Given as goal

-- the things so far have names
abbrev pub invariant-loop-before : goal.invariant-loop-before
invariant-loop-before l = have_names l.choices l.pid l.before ≡ true
