-- Which table is a status message that comes at its time. E1.20 section 10.3.2.
use Rattle.std.specs.Prelude.{ℕ, Bool, true, nat_le, IsTrue, List, [], ◌∷◌, pos, Option, Some, None, codes}
use Rattle.toml.specs.Data.{Data, Members}
use Rattle.rdm_courses.specs.declared.notice.Notice.{Notice}
use Rattle.rdm_fixture_keys.specs.declared.refusal.Wanted.{Wanted}
use Rattle.rdm_fixture_keys.specs.declared.refusal.Wanted.TheVariants as wanted
use Rattle.rdm_fixture_keys.specs.Keys.{Must, May, has_only}
use Rattle.rdm_fixture_keys.specs.Values.{number}
use Rattle.rdm_fixture_keys.specs.Wrong.{Part, only, needed, needed_number, free, free_number}
use Rattle.rdm_fixture.specs.Outcomes.{severity, only_number}

abbrev pub notice_keys : List (List ℕ)
notice_keys =
    codes "at" ∷ codes "every" ∷ codes "sub_device" ∷ codes "severity" ∷ codes "status_id" ∷ codes "data_value_1" ∷ codes "data_value_2" ∷ []

-- When it comes, in seconds, and what it says.
pub record IsNotice (t : Members) (n : Notice) : Type 0 where
  pub keys : IsTrue (has_only notice_keys t)
  pub at : Must t (codes "at") (number 0 0xFFFFFFFF) n.at
  pub every : May t (codes "every") None (only_number 1 0xFFFFFFFF) n.every
  pub sub : May t (codes "sub_device") 0 (number 0 512) n.sub
  pub severity : Must t (codes "severity") severity n.severity
  pub id : Must t (codes "status_id") (number 0 0xFFFF) n.id
  pub v1 : May t (codes "data_value_1") 0 (number 0 0xFFFF) n.v1
  pub v2 : May t (codes "data_value_2") 0 (number 0 0xFFFF) n.v2

-- what is looked at, part by part, in the order in which it is done
abbrev pub notice_parts : List Part
notice_parts =
    only notice_keys ∷ needed_number (codes "at") 0 0xFFFFFFFF
    ∷ free (codes "every") (only_number 1 0xFFFFFFFF) (wanted.Number (pos 1) (pos 0xFFFFFFFF)) ∷ free_number (codes "sub_device") 0 512
    ∷ needed (codes "severity") severity wanted.Severity ∷ needed_number (codes "status_id") 0 0xFFFF
    ∷ free_number (codes "data_value_1") 0 0xFFFF ∷ free_number (codes "data_value_2") 0 0xFFFF ∷ []

-- it comes again after a second or more
abbrev pub comes_again : Option ℕ → Bool
comes_again None = true
comes_again (Some every) = nat_le 1 every

-- what is wanted of a key that has to be there, and says nothing
abbrev pub lacking : Option Data → Wanted → Wanted
lacking None w = wanted.Key
lacking (Some d) w = w
