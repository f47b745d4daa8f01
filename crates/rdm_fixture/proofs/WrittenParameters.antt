-- What is written of the parameters that the maker adds, and of those that the fixture lacks.
use Rattle.std.proofs.Common.{◌≡◌, ℕ, ◌+◌, ◌<◌, ◌≤◌, pos, int_le, Bool, true, false, ◌&&◌, ◌||◌, ◌==◌, ◌⊎◌, List, [], ◌∷◌, ◌++◌, length, get_or, take, Option, Some, None, option_and_then, option_map, is_some, IsTrue, inl, inr, refl, sym, ap, subst, ◌∙◌, arith, codes, if◌then◌else◌}
use Rattle.std.specs.List.{list_any, list_all}
use Rattle.std.proofs.lemmas.Bool.{and_parts, eqb-true}
use Rattle.std.proofs.lemmas.List.{take_more}
use Rattle.rdm_profile.specs.declared.profile.fields.Field.{Field as Number}
use Rattle.rdm_profile.specs.declared.profile.fields.Width.{Width}
use Rattle.rdm_profile.specs.declared.profile.fields.Width.TheVariants as widths
use Rattle.rdm_profile.specs.declared.profile.own.ParameterDef.{ParameterDef}
use Rattle.rdm_profile.specs.Fields.{width_of}
use Rattle.rdm_profile.specs.LeftOut.{optional_pids, is_optional}
use Rattle.rdm_profile.specs.OwnParameters.{is_addable, can_start, has_good_fields}
use Rattle.rdm_profile.specs.Standards.{follows}
use Rattle.rdm_table.specs.declared.kind.Kind.{Kind}
use Rattle.rdm_params.specs.Table.Kinds.{pid_of, name_of, kind_named, kind_with}
use Rattle.rdm_table.proofs.KindNames.{named_is}
use Rattle.toml.specs.Data.{Data, integer, string, boolean, table, get_member}
use Rattle.toml.specs.View.{view, items_view}
use Rattle.toml.specs.declared.value.Value.{Value}
use Rattle.rdm_fixture.specs.Describable.{are_printable, can_stand, limits_stand, is_sayable}
use Rattle.rdm_fixture.specs.Format.{parameter_named}
use Rattle.rdm_fixture_keys.specs.Keys.{must}
use Rattle.rdm_fixture.specs.Lists.{EachIs, ListAt, OfTable}
use Rattle.rdm_fixture_keys.specs.Values.{integer_from, flag, named, number}
use Rattle.rdm_standard_names.specs.declared.kind.NameKind.TheVariants.{Prefixes, Units}
use Rattle.rdm_fixture.specs.Parameters.{IsField, field_keys, width, greatest_said, SaysParameter, IsParameter, parameter_keys, own_pid, command_class, data_type, slots_of, shape_in, least_of, greatest_of, limit, start, is_setting, can_reset}
use Rattle.rdm_fixture.specs.Writing.{named_field, text_field, rights_name, shape_name, IsPlain}
use Rattle.rdm_fixture.proofs.WrittenNames.{named_plain}
use Rattle.rdm_fixture.proofs.Fields.{Field, members_from, get_from, only_from, plain_from}
use Rattle.rdm_fixture.proofs.ListEntries.{EachIs-last}
use Rattle.rdm_fixture.proofs.NumberSlots.{le_through, integer_again, can_be_of}
use Rattle.rdm_fixture.proofs.Said.{must_say, may_say, may_text, or_none, number_plain, flag_plain, text_plain, option_plain}
use Rattle.rdm_fixture.proofs.Starts.{type_again, rights_again, start_sized}
use Rattle.rdm_fixture.proofs.WrittenEntries.{says_named, says_word, says_long, says_text}

-- ---- the numbers that slots say

abbrev pub numbers_fields : Number → List Field
numbers_fields f =
    (codes "also_valid_value", Some (integer (pos f.also))) ∷ (codes "maximum_valid_value", Some (integer (pos f.high)))
    ∷ (codes "minimum_valid_value", Some (integer (pos f.low))) ∷ (codes "slots", Some (integer (pos (width_of f.width)))) ∷ []

width_again : (w : Width) → width (integer (pos (width_of w))) ≡ Some w
width_again widths.One = refl
width_again widths.Two = refl
width_again widths.Four = refl

pub number_says_field : (f : Number) → says_long f.low → says_long f.high → says_long f.also → IsField (members_from (numbers_fields f)) f
number_says_field f low high also = let fs = numbers_fields f in record {
  keys = only_from field_keys fs refl;
  width = must_say (codes "slots") fs width _ _ refl (width_again f.width);
  low = may_say (codes "minimum_valid_value") fs 0 (number 0 0xFFFFFFFF) _ _ refl low;
  high = may_say (codes "maximum_valid_value") fs (greatest_said f.width) (number 0 0xFFFFFFFF) _ _ refl high;
  also = may_say (codes "also_valid_value") fs f.low (number 0 0xFFFFFFFF) _ _ refl also;
}

pub number_plain_field : (f : Number) → IsPlain 1 (table (members_from (numbers_fields f)))
number_plain_field f = plain_from 0 (numbers_fields f) (number_plain 0 _, (number_plain 0 _, (number_plain 0 _, (number_plain 0 _, tt))))

-- ---- a parameter that the profile adds

abbrev pub parameter_fields : ParameterDef → Option Data → Data → List Field
parameter_fields d numbers given =
    (codes "description", text_field d.name) ∷ (codes "factory_defaults", Some (boolean d.resets))
    ∷ (codes "prefix", Some (named_field Prefixes d.prefix)) ∷ (codes "unit", Some (named_field Units d.unit))
    ∷ (codes "default_value", Some given) ∷ (codes "fields", numbers) ∷ (codes "maximum_valid_value", Some (integer d.high))
    ∷ (codes "minimum_valid_value", Some (integer d.low)) ∷ (codes "data_type", Some (string (shape_name d.shape)))
    ∷ (codes "command_class", Some (string (rights_name d.rights))) ∷ (codes "pid", Some (integer (pos d.pid))) ∷ []

pid_again : (n : ℕ) → says_word n → is_addable n ≡ true → own_pid (integer (pos n)) ≡ Some n
pid_again n says free =
    ap (option_and_then (λ pid. if is_addable pid then Some pid else None)) says ∙ ap (λ (b : Bool). if b then Some n else None) free

said_again : (d : ParameterDef) (numbers : Option Data) (given : Data) → IsTrue (is_addable d.pid) → IsTrue (can_start d) → IsTrue (is_sayable d)
    → says_word d.pid → says_named Units d.unit → says_named Prefixes d.prefix → says_text d.name
    → ListAt (OfTable IsField) numbers d.fields.items → length d.fields.items ≤ 8
    → start d.shape d.low d.high given ≡ Some d.start → SaysParameter (members_from (parameter_fields d numbers given)) d
said_again d numbers given free good said pid unit prefix name listed few starts =
    let fs = parameter_fields d numbers given in
    let (limits, rest) = and_parts (limits_stand d) (can_stand d.shape d.start && (are_printable d.name && can_reset d)) said in
    let (least, more) = and_parts (int_le (least_of d.shape) d.low) (int_le d.low d.high && int_le d.high (greatest_of d.shape)) limits in
    let (order, greatest) = and_parts (int_le d.low d.high) (int_le d.high (greatest_of d.shape)) more in
    let at_start : get_member (codes "default_value") (members_from fs) ≡ Some given = get_from (codes "default_value") fs in
    let at_type : get_member (codes "data_type") (members_from fs) ≡ Some (string (shape_name d.shape)) = get_from (codes "data_type") fs in
    let can = can_be_of d d.shape d.start refl refl good in
    let typed : shape_in (members_from fs) ≡ Some d.shape =
    ap (λ (o : Option Data). must (data_type (slots_of o)) (get_member (codes "data_type") (members_from fs))) at_start
    ∙ ap (must (data_type (slots_of (Some given)))) at_type
    ∙ type_again (slots_of (Some given)) d.shape (start_sized d.shape d.low d.high d.fields.items given d.start starts can) in
    record {
      keys = only_from parameter_keys fs refl;
      pid = must_say (codes "pid") fs own_pid _ _ refl (pid_again d.pid pid free);
      rights = must_say (codes "command_class") fs command_class _ _ refl (rights_again d.rights);
      shape = typed;
      low = may_say (codes "minimum_valid_value") fs (least_of d.shape) (limit d.shape) _ _ refl
          (integer_again (least_of d.shape) (greatest_of d.shape) d.low least (le_through d.low d.high (greatest_of d.shape) order greatest));
      high = may_say (codes "maximum_valid_value") fs (greatest_of d.shape) (integer_from d.low (greatest_of d.shape)) _ _ refl
          (integer_again d.low (greatest_of d.shape) d.high order greatest);
      fields = record { items = rw (get_from (codes "fields") fs, or_none numbers) listed; enough = omega arith; fit = few };
      start = must_say (codes "default_value") fs (start d.shape d.low d.high) _ _ refl starts;
      unit = may_say (codes "unit") fs 0 (named Units) _ _ refl unit;
      prefix = may_say (codes "prefix") fs 0 (named Prefixes) _ _ refl prefix;
      resets = may_say (codes "factory_defaults") fs (is_setting d.rights d.shape) flag _ _ refl refl;
      name = may_text (codes "description") fs d.name refl name;
    }

-- the parts of what a file asks of it
pub start_stands : (d : ParameterDef) → IsTrue (is_sayable d) → IsTrue (can_stand d.shape d.start)
start_stands d said =
    let (limits, rest) = and_parts (limits_stand d) (can_stand d.shape d.start && (are_printable d.name && can_reset d)) said in
    (and_parts (can_stand d.shape d.start) (are_printable d.name && can_reset d) rest).0

last_stand : (d : ParameterDef) → IsTrue (is_sayable d) → IsTrue (are_printable d.name && can_reset d)
last_stand d said =
    let (limits, rest) = and_parts (limits_stand d) (can_stand d.shape d.start && (are_printable d.name && can_reset d)) said in
    (and_parts (can_stand d.shape d.start) (are_printable d.name && can_reset d) rest).1

pub name_stands : (d : ParameterDef) → IsTrue (is_sayable d) → IsTrue (are_printable d.name)
name_stands d said = (and_parts (are_printable d.name) (can_reset d) (last_stand d said)).0

reset_stands : (d : ParameterDef) → IsTrue (is_sayable d) → IsTrue (can_reset d)
reset_stands d said = (and_parts (are_printable d.name) (can_reset d) (last_stand d said)).1

pub parameter_says : (d : ParameterDef) (numbers : Option Data) (given : Data) → IsTrue (is_addable d.pid) → IsTrue (can_start d) → IsTrue (has_good_fields d)
    → IsTrue (follows d) → IsTrue (is_sayable d) → says_word d.pid → says_named Units d.unit → says_named Prefixes d.prefix → says_text d.name
    → ListAt (OfTable IsField) numbers d.fields.items → length d.fields.items ≤ 8
    → start d.shape d.low d.high given ≡ Some d.start → IsParameter (members_from (parameter_fields d numbers given)) d
parameter_says d numbers given free good fields standard said pid unit prefix name listed few starts = record {
  said = said_again d numbers given free good said pid unit prefix name listed few starts;
  fields = fields;
  start = good;
  standard = standard;
  reset = reset_stands d said;
}

string_plain : (s : List ℕ) → IsPlain 0 (string s)
string_plain s = record { shallow = omega arith; dates = refl }

name_plain : (s : List ℕ) → IsPlain 2 (string s)
name_plain s = record { shallow = omega arith; dates = refl }

pub string_is_plain : (d : Data) (s : List ℕ) → d ≡ string s → IsPlain 0 d
string_is_plain d s e = subst (IsPlain 0) (sym e) (string_plain s)

pub parameter_plain : (d : ParameterDef) (numbers : Option Data) (given : Data) → ((n : Data) → numbers ≡ Some n → IsPlain 2 n) → IsPlain 2 given
    → IsPlain 3 (table (members_from (parameter_fields d numbers given)))
parameter_plain d numbers given are is =
    plain_from 2 (parameter_fields d numbers given)
    (text_plain 2 (codes "description") d.name _ (
      flag_plain 2 _,
      (
        named_plain 2 Prefixes d.prefix,
        (
          named_plain 2 Units d.unit,
          (
            is,
            option_plain 2 (codes "fields") numbers _ are
                (number_plain 2 _, (number_plain 2 _, (name_plain _, (name_plain _, (number_plain 2 _, tt))))),
          ),
        ),
      ),
    ))

-- ---- parameters that the fixture lacks

either : (a b : Bool) → (a || b) ≡ true → (a ≡ true) ⊎ (b ≡ true)
either true b h = inl refl
either false b h = inr h

any_known : (pid : ℕ) (pids : List ℕ) → list_any (λ p. p == pid) pids ≡ true → list_all (λ p. is_some (kind_with p)) pids ≡ true → is_some (kind_with pid) ≡ true
any_known pid [] h k = absurd (cc)
any_known pid (p ∷ pids) h k =
    let (here, rest) = and_parts (is_some (kind_with p)) (list_all (λ q. is_some (kind_with q)) pids) k in
    elim (either (p == pid) (list_any (λ q. q == pid) pids) h) [
      | inl same ↦ subst (λ (q : ℕ). is_some (kind_with q) ≡ true) (eqb-true p pid same) here
      | inr later ↦ any_known pid pids later rest
    ]

all_known : list_all (λ p. is_some (kind_with p)) optional_pids ≡ true
unfolding kind_with
all_known = refl

not_known : (o : Option Kind) → is_some o ≡ true → o ≡ None → ⊥
not_known None h e = absurd (cc)
not_known (Some kind) h e = cc

-- each of them is in the table
pub optional_known : (pid : ℕ) → IsTrue (is_optional pid) → kind_with pid ≡ None → ⊥
optional_known pid h none = not_known (kind_with pid) (any_known pid optional_pids h all_known) none

pub named_again : (kind : Kind) (pid : ℕ) (name : List ℕ) → pid_of kind ≡ pid → name ≡ name_of kind → option_map pid_of (kind_named name) ≡ Some pid
named_again kind pid name is e =
    ap (λ (n : List ℕ). option_map pid_of (kind_named n)) e ∙ ap (option_map pid_of) ((named_is (name_of kind) kind).1 refl) ∙ ap (λ (p : ℕ). Some p) is

pub name_more : (vs : List Value) (v : Value) (xs : List ℕ) (i : ℕ) → i < length xs
    → EachIs (λ d pid. parameter_named d ≡ Some pid) (items_view vs) (take i xs) → parameter_named (view v) ≡ Some (get_or xs i 0)
    → EachIs (λ d pid. parameter_named d ≡ Some pid) (items_view (vs ++ v ∷ [])) (take (i + 1) xs)
name_more vs v xs i less before is =
    rw (take_more xs i 0 less) (EachIs-last (λ d pid. parameter_named d ≡ Some pid) vs (take i xs) v (get_or xs i 0) before is)
