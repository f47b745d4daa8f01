-- How long slow commands take, where a profile says nothing else. E1.20 section 6.3.3.
use Rattle.rdm_profile.specs.declared.profile.estimates.Estimates.{Estimates}

-- in tenths of a second
abbrev pub usual : Estimates
usual = record { lamp = 50; power = 20; self_test = 100; sensor = 5 }
