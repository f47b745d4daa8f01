-- What is written of a personality that has slots of its own.
use Rattle.std.proofs.Common.{◌≡◌, ◌≤◌, pos, List, [], ◌∷◌, length, Option, Some, refl, sym, ◌∙◌, subst, arith, codes}
use Rattle.rdm_profile.specs.declared.profile.modes.Mode.{Mode}
use Rattle.toml.specs.Data.{Data, integer, table}
use Rattle.rdm_fixture_keys.specs.Entries.{IsSlot}
use Rattle.rdm_fixture_keys.specs.Values.{number}
use Rattle.rdm_fixture.specs.Lists.{ListAt, OfTable}
use Rattle.rdm_fixture.specs.OwnSlots.{IsMode, mode_keys}
use Rattle.rdm_fixture.specs.Writing.{text_field, IsPlain}
use Rattle.rdm_fixture.proofs.Fields.{Field, members_from, get_from, only_from, plain_from}
use Rattle.rdm_fixture.proofs.Said.{number_says, must_say, may_say, may_text, or_none, number_plain, text_plain, option_plain}
use Rattle.rdm_fixture.proofs.WrittenEntries.{says_byte, says_text}

module _ (m : Mode) (slots : Option Data) where
  abbrev pub mode_fields : List Field
  mode_fields =
      (codes "slot", slots) ∷ (codes "slots_of", Some (integer (pos m.slots_of))) ∷ (codes "description", text_field m.personality.name)
      ∷ (codes "dmx_footprint", Some (integer (pos m.personality.footprint))) ∷ []

  pub mode_says : m.personality.footprint ≤ 512 → says_text m.personality.name → says_byte m.slots_of
      → ListAt (OfTable IsSlot) slots m.slots → length m.slots ≤ 46 → IsMode (members_from mode_fields) m
  mode_says fits name number_of said few = record {
    keys = only_from mode_keys mode_fields refl;
    footprint = must_say (codes "dmx_footprint") mode_fields (number 0 512) _ _ refl (number_says 0 512 m.personality.footprint (omega arith) fits);
    name = may_text (codes "description") mode_fields m.personality.name refl name;
    slots_of = may_say (codes "slots_of") mode_fields 0 (number 0 255) _ _ refl number_of;
    slots = record {
      items = subst (λ (o : Option Data). ListAt (OfTable IsSlot) o m.slots) (sym (get_from (codes "slot") mode_fields ∙ or_none slots)) said;
      enough = omega arith;
      fit = few;
    };
  }

  pub mode_plain : ((d : Data) → slots ≡ Some d → IsPlain 2 d) → IsPlain 3 (table (members_from mode_fields))
  mode_plain is =
      plain_from 2 mode_fields
      (option_plain 2 (codes "slot") slots _ is (number_plain 2 _, text_plain 2 (codes "description") m.personality.name _ (number_plain 2 _, tt)))
