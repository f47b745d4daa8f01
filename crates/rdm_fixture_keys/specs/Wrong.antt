-- Which fault of a table is told: one of the first of its parts that isn't right.
use Rattle.std.specs.Prelude.{◌≡◌, ℕ, pos, neg_ℤ, false, ◌⊎◌, IsTrue, List, [], ◌∷◌, Option, Some, None, IsSome, ⊤}
use Rattle.std.specs.List.{list_any}
use Rattle.std.specs.Str.{bytes_eq}
use Rattle.toml.specs.Data.{Data, Members, no_members, member, get_member}
use Rattle.rdm_fixture_keys.specs.declared.refusal.Wanted.{Wanted}
use Rattle.rdm_fixture_keys.specs.declared.refusal.Wanted.TheVariants.{Key, Named, NoSuchKey, Number, Text}
use Rattle.rdm_fixture_keys.specs.Faults.{Fault, fault}
use Rattle.rdm_fixture_keys.specs.Keys.{must, has_only}
use Rattle.rdm_fixture_keys.specs.Values.{named, number, signed, text}
use Rattle.rdm_standard_names.specs.declared.kind.NameKind.{NameKind}

-- A part of a table: when it is right, and of which fault it is told that it isn't.
pub record Part : Type 1 where
  pub Right : Members → Type 0
  pub Wrong : Members → Fault → Type 0

-- The parts are looked at one after the other: those before the one that is wrong are right.
abbrev pub FirstWrong : List Part → Members → Fault → Type 0
FirstWrong [] t f = ⊥
FirstWrong (p ∷ ps) t f = p.Wrong t f ⊎ (p.Right t × FirstWrong ps t f)

-- all of them are right
abbrev pub AllRight : List Part → Members → Type 0
AllRight [] t = ⊤
AllRight (p ∷ ps) t = p.Right t × AllRight ps t

-- A part that is right where the table says a value as `P` has it, and of whose faults `W` tells.
abbrev pub says_one : {A : Type 0} → (Members → A → Type 0) → (Members → Fault → Type 0) → Part
says_one {A = A} P W = record { Right = λ t. (x : A) × P t x; Wrong = W }

-- A part that depends on another value of the table: `says` reads that value, and `part` is the part that goes with it. Where the table
-- doesn't say the value, the part is neither right nor wrong: a part before it is wrong then.
abbrev pub given : {A : Type 0} → (Members → Option A) → (A → Part) → Part
given {A = A} says part = record {
  Right = λ t. (x : A) × (says t ≡ Some x) × (part x).Right t;
  Wrong = λ t f. (x : A) × (says t ≡ Some x) × (part x).Wrong t f;
}

-- ---- all keys

-- the first key of the table that is none of these
abbrev pub FirstOther : List (List ℕ) → Members → List ℕ → Type 0
FirstOther keys no_members key = ⊥
FirstOther keys (member k d ms) key =
    ((list_any (bytes_eq k) keys ≡ false) × (key ≡ k)) ⊎ (IsTrue (list_any (bytes_eq k) keys) × FirstOther keys ms key)

-- there is no key besides these
abbrev pub only : List (List ℕ) → Part
only keys = record {
  Right = λ t. IsTrue (has_only keys t);
  Wrong = λ t f. (key : List ℕ) × FirstOther keys t key × (f ≡ fault key NoSuchKey);
}

-- ---- one key

-- what the key holds isn't one of the values that are wanted
abbrev pub SaysNone : {A : Type 0} → (Data → Option A) → Option Data → Type 0
SaysNone says None = ⊥
SaysNone says (Some d) = says d ≡ None

-- what the key holds, if it is there, is one of them
abbrev pub SaysSome : {A : Type 0} → (Data → Option A) → Option Data → Type 0
SaysSome says None = ⊤
SaysSome says (Some d) = IsSome (says d)

-- a key that has to be there; `missing` is what is wanted if it isn't
abbrev pub needed_as : Wanted → {A : Type 0} → List ℕ → (Data → Option A) → Wanted → Part
needed_as missing key says wanted = record {
  Right = λ t. IsSome (must says (get_member key t));
  Wrong = λ t f. ((get_member key t ≡ None) × (f ≡ fault key missing)) ⊎ (SaysNone says (get_member key t) × (f ≡ fault key wanted));
}

abbrev pub needed : {A : Type 0} → List ℕ → (Data → Option A) → Wanted → Part
needed key says wanted = needed_as Key key says wanted

-- a key that may be left out
abbrev pub free : {A : Type 0} → List ℕ → (Data → Option A) → Wanted → Part
free key says wanted = record {
  Right = λ t. SaysSome says (get_member key t);
  Wrong = λ t f. SaysNone says (get_member key t) × (f ≡ fault key wanted);
}

abbrev pub needed_number : List ℕ → ℕ → ℕ → Part
needed_number key least most = needed key (number least most) (Number (pos least) (pos most))

abbrev pub free_number : List ℕ → ℕ → ℕ → Part
free_number key least most = free key (number least most) (Number (pos least) (pos most))

abbrev pub needed_name : List ℕ → NameKind → Part
needed_name key kind = needed key (named kind) (Named kind)

abbrev pub free_name : List ℕ → NameKind → Part
free_name key kind = free key (named kind) (Named kind)

abbrev pub free_signed : List ℕ → Part
free_signed key = free key signed (Number (neg_ℤ (pos 32768)) (pos 32767))

abbrev pub free_text : List ℕ → Part
free_text key = free key text Text
