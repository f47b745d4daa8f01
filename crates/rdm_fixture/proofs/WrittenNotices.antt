-- What is written of the status messages that come at their times.
use Rattle.std.proofs.Common.{◌≡◌, ◌∙◌, pos, List, [], ◌∷◌, Option, Some, None, IsTrue, refl, ap, arith, codes}
use Rattle.std.proofs.lemmas.Bool.{and_parts, leb-true}
use Rattle.rdm_frame.specs.Severities.{severity_name}
use Rattle.rdm_courses.specs.declared.notice.Notice.{Notice}
use Rattle.toml.specs.Data.{Data, integer, string, table}
use Rattle.rdm_fixture.specs.Describable.{is_base_form, is_noticed}
use Rattle.rdm_fixture.specs.Notices.{IsNotice, notice_keys, comes_again}
use Rattle.rdm_fixture.specs.Outcomes.{severity, only_number}
use Rattle.rdm_fixture.specs.Writing.{IsPlain}
use Rattle.rdm_fixture_keys.specs.Keys.{may}
use Rattle.rdm_fixture_keys.specs.Values.{number}
use Rattle.rdm_fixture.proofs.Fields.{Field, members_from, get_from, only_from, plain_from}
use Rattle.rdm_fixture.proofs.Said.{number_says, must_say, may_say, or_none, number_plain, option_plain}
use Rattle.rdm_fixture.proofs.WrittenEntries.{says_long, says_word}
use Rattle.rdm_fixture.proofs.WrittenRules.{severity_again, name_plain}

module _ (n : Notice) (again : Option Data) where
  abbrev pub notice_fields : List Field
  notice_fields =
      (codes "data_value_2", Some (integer (pos n.v2))) ∷ (codes "data_value_1", Some (integer (pos n.v1))) ∷ (codes "status_id", Some (integer (pos n.id)))
      ∷ (codes "severity", Some (string (severity_name n.severity))) ∷ (codes "sub_device", Some (integer (pos n.sub))) ∷ (codes "every", again)
      ∷ (codes "at", Some (integer (pos n.at))) ∷ []

  pub notice_says : IsTrue (is_noticed n) → (IsTrue (comes_again n.every) → may None (only_number 1 0xFFFFFFFF) again ≡ Some n.every)
      → says_long n.at → says_word n.id → says_word n.v1 → says_word n.v2 → IsNotice (members_from notice_fields) n
  notice_says can every at id v1 v2 =
      let (comes, more) = and_parts (comes_again n.every) _ can in
      let (few, base) = and_parts _ (is_base_form n.severity) more in
      let fs = notice_fields in record {
        keys = only_from notice_keys fs refl;
        at = must_say (codes "at") fs (number 0 0xFFFFFFFF) _ _ refl at;
        every = ap (may None (only_number 1 0xFFFFFFFF)) (get_from (codes "every") fs ∙ or_none again) ∙ every comes;
        sub = may_say (codes "sub_device") fs 0 (number 0 512) _ _ refl (number_says 0 512 n.sub (omega arith) (leb-true n.sub 512 few));
        severity = must_say (codes "severity") fs severity _ _ refl (severity_again n.severity base);
        id = must_say (codes "status_id") fs (number 0 0xFFFF) _ _ refl id;
        v1 = may_say (codes "data_value_1") fs 0 (number 0 0xFFFF) _ _ refl v1;
        v2 = may_say (codes "data_value_2") fs 0 (number 0 0xFFFF) _ _ refl v2;
      }

  pub notice_plain : ((d : Data) → again ≡ Some d → IsPlain 0 d) → IsPlain 1 (table (members_from notice_fields))
  notice_plain is =
      plain_from 0 notice_fields (
        number_plain 0 _,
        (
          number_plain 0 _,
          (
            number_plain 0 _,
            (
              name_plain _,
              (
                number_plain 0 _,
                option_plain 0 (codes "every") again _ is (number_plain 0 _, tt),
              ),
            ),
          ),
        ),
      )
