-- The first wrong word of a line, part by part.
use Rattle.std.proofs.Common.{◌≡◌, ◌≢◌, ℕ, suc, ◌+◌, ◌<◌, ◌≤◌, Bool, List, [], ◌∷◌, ◌++◌, length, take, drop, None, inl, inr, refl, sym, subst, arith}
use Rattle.std.specs.Prelude.{codes}
use Rattle.rdm_frame.specs.declared.uid.Uid.{Uid}
use Rattle.rdm_profile.specs.declared.profile.own.ParameterDef.{ParameterDef}
use Rattle.rdm_script.specs.Dialects.{Dialect}
use Rattle.rdm_script.specs.declared.dialect.Spelling.{Spelling}
use Rattle.rdm_script.specs.declared.dialect.Spelling.TheVariants.{Strict, Friendly}
use Rattle.rdm_frame.specs.DigitReading.{byte_in, number_in, uid_in}
use Rattle.rdm_params.specs.Table.Kinds.{kind_named}
use Rattle.rdm_script.specs.Decimals.{decimal_in, number_up_to}
use Rattle.rdm_params.specs.Table.Names.{pid_named}
use Rattle.rdm_script.specs.Grammar.{word, action_in, destination_in, sub_named, bytes_load_in, sub_in, pid_by_name, pid_in, load_in, lost_in, raise_in}
use Rattle.rdm_script.specs.WrongWords.{AreLine, AreFault, IsFirstWrong}
use Rattle.rdm_script.proofs.LineParts.{some_isnt, IsAltered, AreAltered, AreCommand, no_altered, lost_isnt, fault_parts, no_fault, loss, raised, command_line, line_command}

-- ---- behind a word

-- where the first word is what it has to be, the first wrong one is behind it
pub behind : (P : List (List ℕ) → Type 0) (name : List ℕ) (words : List (List ℕ)) (i : ℕ) → IsFirstWrong (λ ws. P (name ∷ ws)) words i → IsFirstWrong P (name ∷ words) (i + 1)
behind P name words i h =
    let one : i + 1 ≡ suc i = omega arith in
    let two : i + 1 + 1 ≡ suc (i + 1) = omega arith in
    record {
      front = (h.front.0, subst (λ (n : ℕ). P (take n (name ∷ words) ++ h.front.0)) (sym one) h.front.1);
      wrong = elim h.wrong [
        | inl e ↦ inl (omega (arith, e))
        | inr never ↦ inr (λ can. never (can.0, subst (λ (n : ℕ). P (take n (name ∷ words) ++ can.0)) two can.1))
      ];
    }

-- what is wanted may be said in other words
pub likewise : (P Q : List (List ℕ) → Type 0) (words : List (List ℕ)) (i : ℕ) → ((ws : List (List ℕ)) → P ws → Q ws) → ((ws : List (List ℕ)) → Q ws → P ws) → IsFirstWrong P words i → IsFirstWrong Q words i
likewise P Q words i to from h =
    record {
      front = (h.front.0, to _ h.front.1);
      wrong = elim h.wrong [
        | inl e ↦ inl e
        | inr never ↦ inr (λ can. never (can.0, from _ can.1))
      ];
    }

-- ---- what goes wrong with a transaction

pub wrong_name : (words : List (List ℕ)) → 0 < length words → lost_in (word words 0) ≡ None → (IsAltered (word words 0) → ⊥) → IsFirstWrong AreFault words 0
wrong_name [] some lost altered = absurd (omega (arith, some))
wrong_name (name ∷ words) some lost altered =
    record {
      front = ([], no_fault);
      wrong = inr (λ can. elim (fault_parts name can.0 can.1) [
        | inl h ↦ h.0 lost
        | inr h ↦ altered h.0
      ]);
    }

pub lost_ends : (words : List (List ℕ)) → 0 < length words → length words ≤ 1 → lost_in (word words 0) ≢ None → AreFault words
lost_ends [] some few lost = absurd (omega (arith, some))
lost_ends (name ∷ []) some few lost = loss name lost
lost_ends (name ∷ a ∷ words) some few lost = absurd (omega (arith, few))

pub lost_long : (words : List (List ℕ)) → 1 < length words → lost_in (word words 0) ≢ None → IsFirstWrong AreFault words 1
lost_long [] many lost = absurd (omega (arith, many))
lost_long (name ∷ []) many lost = absurd (omega (arith, many))
lost_long (name ∷ a ∷ words) many lost =
    record {
      front = ([], loss name lost);
      wrong = inr (λ can. elim (fault_parts name (a ∷ can.0) can.1) [
        | inl h ↦ (let never : a ∷ can.0 ≡ [] = h.1 in cc)
        | inr h ↦ lost_isnt name lost h.0
      ]);
    }

altered_behind : (name : List ℕ) (words : List (List ℕ)) → IsAltered name → AreFault (name ∷ words) → AreAltered words
altered_behind name words is h =
    elim (fault_parts name words h) [
      | inl g ↦ absurd (lost_isnt name g.0 is)
      | inr g ↦ g.1
    ]

slot_0 : number_up_to 255 (codes "0") ≢ None
unfolding number_up_to decimal_in
slot_0 = some_isnt (number_up_to 255 (codes "0")) _ refl

raise_1 : raise_in (codes "1") ≢ None
unfolding raise_in number_up_to decimal_in
raise_1 = some_isnt (raise_in (codes "1")) _ refl

pub wrong_slot : (words : List (List ℕ)) → IsAltered (word words 0) → number_up_to 255 (word words 1) ≡ None → IsFirstWrong AreFault words 1
wrong_slot [] is none = absurd (no_altered is)
wrong_slot (name ∷ []) is none =
    record { front = (codes "0" ∷ codes "1" ∷ [], raised name (codes "0") (codes "1") is slot_0 raise_1); wrong = inl refl }
wrong_slot (name ∷ slot ∷ words) is none =
    record { front = (codes "0" ∷ codes "1" ∷ [], raised name (codes "0") (codes "1") is slot_0 raise_1); wrong = inr (λ can. (altered_behind name (slot ∷ can.0) is can.1).slot none) }

pub no_number : (most : ℕ) → number_up_to most [] ≡ None
unfolding number_up_to decimal_in
no_number most = refl

pub wrong_raise : (words : List (List ℕ)) → IsAltered (word words 0) → number_up_to 255 (word words 1) ≢ None → raise_in (word words 2) ≡ None → IsFirstWrong AreFault words 2
wrong_raise [] is some none = absurd (some (no_number 255))
wrong_raise (name ∷ []) is some none = absurd (some (no_number 255))
wrong_raise (name ∷ slot ∷ []) is some none =
    record { front = (codes "1" ∷ [], raised name slot (codes "1") is some raise_1); wrong = inl refl }
wrong_raise (name ∷ slot ∷ raise ∷ words) is some none =
    record { front = (codes "1" ∷ [], raised name slot (codes "1") is some raise_1); wrong = inr (λ can. (altered_behind name (slot ∷ raise ∷ can.0) is can.1).raise none) }

no_raise : raise_in [] ≡ None
unfolding raise_in
no_raise = rw (no_number 255) refl

pub raise_ends : (words : List (List ℕ)) → length words ≤ 3 → IsAltered (word words 0) → number_up_to 255 (word words 1) ≢ None → raise_in (word words 2) ≢ None → AreFault words
raise_ends [] few is slot raise = absurd (no_altered is)
raise_ends (name ∷ []) few is slot raise = absurd (raise no_raise)
raise_ends (name ∷ a ∷ []) few is slot raise = absurd (raise no_raise)
raise_ends (name ∷ a ∷ b ∷ []) few is slot raise = raised name a b is slot raise
raise_ends (name ∷ a ∷ b ∷ c ∷ words) few is slot raise = absurd (omega (arith, few))

pub raise_long : (words : List (List ℕ)) → 3 < length words → IsAltered (word words 0) → number_up_to 255 (word words 1) ≢ None → raise_in (word words 2) ≢ None → IsFirstWrong AreFault words 3
raise_long [] many is slot raise = absurd (omega (arith, many))
raise_long (name ∷ []) many is slot raise = absurd (omega (arith, many))
raise_long (name ∷ a ∷ []) many is slot raise = absurd (omega (arith, many))
raise_long (name ∷ a ∷ b ∷ []) many is slot raise = absurd (omega (arith, many))
raise_long (name ∷ a ∷ b ∷ c ∷ words) many is slot raise =
    record { front = ([], raised name a b is slot raise); wrong = inr (λ can. (let three = (altered_behind name (a ∷ b ∷ c ∷ can.0) is can.1).two in omega (arith, three))) }

-- ---- a command

no_destination : (device : Uid) → destination_in device [] ≡ None
unfolding destination_in uid_in number_in
no_destination device = refl

no_sub : (spelling : Spelling) → sub_in spelling [] ≡ None
unfolding sub_in sub_named number_in
no_sub Strict = refl
no_sub Friendly = rw (no_number 512) refl

no_pid : (spelling : Spelling) (own : List ParameterDef) → pid_in spelling own [] ≡ None
unfolding pid_in pid_by_name pid_named kind_named number_in
no_pid Strict own = refl
no_pid Friendly own = refl

to_device : (device : Uid) → destination_in device (codes "dev") ≢ None
unfolding destination_in
to_device device = some_isnt (destination_in device (codes "dev")) _ refl

sub_0 : (spelling : Spelling) → sub_in spelling (codes "0000") ≢ None
unfolding sub_in number_in byte_in
sub_0 Strict = some_isnt (sub_in Strict (codes "0000")) _ refl
sub_0 Friendly = some_isnt (sub_in Friendly (codes "0000")) _ refl

pid_0 : (spelling : Spelling) (own : List ParameterDef) → pid_in spelling own (codes "0000") ≢ None
unfolding pid_in number_in byte_in
pid_0 Strict own = some_isnt (pid_in Strict own (codes "0000")) _ refl
pid_0 Friendly own = some_isnt (pid_in Friendly own (codes "0000")) _ refl

load_0 : (spelling : Spelling) → load_in spelling (codes "-") ≢ None
unfolding load_in bytes_load_in
load_0 Strict = some_isnt (load_in Strict (codes "-")) _ refl
load_0 Friendly = some_isnt (load_in Friendly (codes "-")) _ refl

-- any command that begins so
begin_1 : (d : Dialect) (name : List ℕ) → action_in name ≢ None → AreCommand d (name ∷ codes "dev" ∷ codes "0000" ∷ codes "0000" ∷ codes "-" ∷ [])
begin_1 d name a = record { five = omega arith; action = a; destination = to_device d.device; sub = sub_0 d.spelling; pid = pid_0 d.spelling d.own; load = load_0 d.spelling; fault = no_fault }

begin_2 : (d : Dialect) (name destination : List ℕ) → action_in name ≢ None → destination_in d.device destination ≢ None → AreCommand d (name ∷ destination ∷ codes "0000" ∷ codes "0000" ∷ codes "-" ∷ [])
begin_2 d name destination a u = record { five = omega arith; action = a; destination = u; sub = sub_0 d.spelling; pid = pid_0 d.spelling d.own; load = load_0 d.spelling; fault = no_fault }

begin_3 : (d : Dialect) (name destination sub : List ℕ) → action_in name ≢ None → destination_in d.device destination ≢ None → sub_in d.spelling sub ≢ None → AreCommand d (name ∷ destination ∷ sub ∷ codes "0000" ∷ codes "-" ∷ [])
begin_3 d name destination sub a u s = record { five = omega arith; action = a; destination = u; sub = s; pid = pid_0 d.spelling d.own; load = load_0 d.spelling; fault = no_fault }

begin_4 : (d : Dialect) (name destination sub pid : List ℕ) → action_in name ≢ None → destination_in d.device destination ≢ None → sub_in d.spelling sub ≢ None → pid_in d.spelling d.own pid ≢ None → AreCommand d (name ∷ destination ∷ sub ∷ pid ∷ codes "-" ∷ [])
begin_4 d name destination sub pid a u s p = record { five = omega arith; action = a; destination = u; sub = s; pid = p; load = load_0 d.spelling; fault = no_fault }

pub wrong_destination : (d : Dialect) (begun : Bool) (words : List (List ℕ)) → action_in (word words 0) ≢ None → destination_in d.device (word words 1) ≡ None → IsFirstWrong (AreLine d begun) words 1
wrong_destination d begun [] a u = absurd (a refl)
wrong_destination d begun (name ∷ []) a u =
    record { front = (codes "dev" ∷ codes "0000" ∷ codes "0000" ∷ codes "-" ∷ [], command_line d begun name _ (begin_1 d name a)); wrong = inl refl }
wrong_destination d begun (name ∷ w ∷ words) a u =
    record {
      front = (codes "dev" ∷ codes "0000" ∷ codes "0000" ∷ codes "-" ∷ [], command_line d begun name _ (begin_1 d name a));
      wrong = inr (λ can. (line_command d begun name (w ∷ can.0) a can.1).destination u);
    }

pub wrong_sub : (d : Dialect) (begun : Bool) (words : List (List ℕ)) → action_in (word words 0) ≢ None → destination_in d.device (word words 1) ≢ None → sub_in d.spelling (word words 2) ≡ None → IsFirstWrong (AreLine d begun) words 2
wrong_sub d begun [] a u s = absurd (a refl)
wrong_sub d begun (name ∷ []) a u s = absurd (u (no_destination d.device))
wrong_sub d begun (name ∷ w ∷ []) a u s =
    record { front = (codes "0000" ∷ codes "0000" ∷ codes "-" ∷ [], command_line d begun name _ (begin_2 d name w a u)); wrong = inl refl }
wrong_sub d begun (name ∷ w ∷ x ∷ words) a u s =
    record {
      front = (codes "0000" ∷ codes "0000" ∷ codes "-" ∷ [], command_line d begun name _ (begin_2 d name w a u));
      wrong = inr (λ can. (line_command d begun name (w ∷ x ∷ can.0) a can.1).sub s);
    }

pub wrong_pid : (d : Dialect) (begun : Bool) (words : List (List ℕ)) → action_in (word words 0) ≢ None → destination_in d.device (word words 1) ≢ None → sub_in d.spelling (word words 2) ≢ None → pid_in d.spelling d.own (word words 3) ≡ None → IsFirstWrong (AreLine d begun) words 3
wrong_pid d begun [] a u s p = absurd (a refl)
wrong_pid d begun (name ∷ []) a u s p = absurd (u (no_destination d.device))
wrong_pid d begun (name ∷ w ∷ []) a u s p = absurd (s (no_sub d.spelling))
wrong_pid d begun (name ∷ w ∷ x ∷ []) a u s p =
    record { front = (codes "0000" ∷ codes "-" ∷ [], command_line d begun name _ (begin_3 d name w x a u s)); wrong = inl refl }
wrong_pid d begun (name ∷ w ∷ x ∷ y ∷ words) a u s p =
    record {
      front = (codes "0000" ∷ codes "-" ∷ [], command_line d begun name _ (begin_3 d name w x a u s));
      wrong = inr (λ can. (line_command d begun name (w ∷ x ∷ y ∷ can.0) a can.1).pid p);
    }

-- four words of a command, and the data are missing
pub no_load : (d : Dialect) (begun : Bool) (words : List (List ℕ)) → length words ≤ 4 → action_in (word words 0) ≢ None → destination_in d.device (word words 1) ≢ None → sub_in d.spelling (word words 2) ≢ None → pid_in d.spelling d.own (word words 3) ≢ None → IsFirstWrong (AreLine d begun) words 4
no_load d begun [] few a u s p = absurd (a refl)
no_load d begun (name ∷ []) few a u s p = absurd (u (no_destination d.device))
no_load d begun (name ∷ w ∷ []) few a u s p = absurd (s (no_sub d.spelling))
no_load d begun (name ∷ w ∷ x ∷ []) few a u s p = absurd (p (no_pid d.spelling d.own))
no_load d begun (name ∷ w ∷ x ∷ y ∷ []) few a u s p =
    record { front = (codes "-" ∷ [], command_line d begun name _ (begin_4 d name w x y a u s p)); wrong = inl refl }
no_load d begun (name ∷ w ∷ x ∷ y ∷ z ∷ words) few a u s p = absurd (omega (arith, few))

load_behind : (d : Dialect) (begun : Bool) (name w x y z : List ℕ) (words : List (List ℕ)) → action_in name ≢ None → destination_in d.device w ≢ None → sub_in d.spelling x ≢ None → pid_in d.spelling d.own y ≢ None → load_in d.spelling z ≡ None
    → IsFirstWrong (AreLine d begun) (name ∷ w ∷ x ∷ y ∷ z ∷ words) 4
load_behind d begun name w x y z words a u s p l =
    record {
      front = (codes "-" ∷ [], command_line d begun name _ (begin_4 d name w x y a u s p));
      wrong = inr (λ can. (line_command d begun name (w ∷ x ∷ y ∷ z ∷ can.0) a can.1).load l);
    }

-- what goes wrong behind the five words of a command
whole_command : (d : Dialect) (begun : Bool) (name w x y z : List ℕ) → action_in name ≢ None → destination_in d.device w ≢ None → sub_in d.spelling x ≢ None → pid_in d.spelling d.own y ≢ None → load_in d.spelling z ≢ None
    → (words : List (List ℕ)) → AreFault words → AreLine d begun (name ∷ w ∷ x ∷ y ∷ z ∷ words)
whole_command d begun name w x y z a u s p l words f =
    command_line d begun name (w ∷ x ∷ y ∷ z ∷ words) (record { five = omega arith; action = a; destination = u; sub = s; pid = p; load = l; fault = f })

fault_behind : (d : Dialect) (begun : Bool) (name w x y z : List ℕ) (words : List (List ℕ)) (i : ℕ) → action_in name ≢ None → destination_in d.device w ≢ None → sub_in d.spelling x ≢ None → pid_in d.spelling d.own y ≢ None → load_in d.spelling z ≢ None
    → IsFirstWrong AreFault words i → IsFirstWrong (AreLine d begun) (name ∷ w ∷ x ∷ y ∷ z ∷ words) (i + 5)
fault_behind d begun name w x y z words i a u s p l h =
    let P = AreLine d begun in
    let here = likewise AreFault (λ ws. P (name ∷ w ∷ x ∷ y ∷ z ∷ ws)) words i (whole_command d begun name w x y z a u s p l) (λ ws line. (line_command d begun name (w ∷ x ∷ y ∷ z ∷ ws) a line).fault) h in
    let b1 = behind (λ ws. P (name ∷ w ∷ x ∷ y ∷ ws)) z words i here in
    let b2 = behind (λ ws. P (name ∷ w ∷ x ∷ ws)) y (z ∷ words) (i + 1) b1 in
    let b3 = behind (λ ws. P (name ∷ w ∷ ws)) x (y ∷ z ∷ words) (i + 1 + 1) b2 in
    let b4 = behind (λ ws. P (name ∷ ws)) w (x ∷ y ∷ z ∷ words) (i + 1 + 1 + 1) b3 in
    let b5 = behind P name (w ∷ x ∷ y ∷ z ∷ words) (i + 1 + 1 + 1 + 1) b4 in
    let five : i + 1 + 1 + 1 + 1 + 1 ≡ i + 5 = omega arith in
    subst (λ n. IsFirstWrong P (name ∷ w ∷ x ∷ y ∷ z ∷ words) n) five b5

-- ---- five words of a command, and those behind them

pub nothing_wrong : (words : List (List ℕ)) → words ≡ [] → AreFault words
nothing_wrong words e = subst AreFault (sym e) no_fault

pub wrong_load : (d : Dialect) (begun : Bool) (words : List (List ℕ)) → 4 < length words → action_in (word words 0) ≢ None → destination_in d.device (word words 1) ≢ None → sub_in d.spelling (word words 2) ≢ None → pid_in d.spelling d.own (word words 3) ≢ None → load_in d.spelling (word words 4) ≡ None
    → IsFirstWrong (AreLine d begun) words 4
wrong_load d begun [] many a u s p l = absurd (a refl)
wrong_load d begun (name ∷ []) many a u s p l = absurd (u (no_destination d.device))
wrong_load d begun (name ∷ w ∷ []) many a u s p l = absurd (s (no_sub d.spelling))
wrong_load d begun (name ∷ w ∷ x ∷ []) many a u s p l = absurd (p (no_pid d.spelling d.own))
wrong_load d begun (name ∷ w ∷ x ∷ y ∷ []) many a u s p l = absurd (omega (arith, many))
wrong_load d begun (name ∷ w ∷ x ∷ y ∷ z ∷ words) many a u s p l = load_behind d begun name w x y z words a u s p l

pub wrong_behind : (d : Dialect) (begun : Bool) (words : List (List ℕ)) (i : ℕ) → 4 < length words → action_in (word words 0) ≢ None → destination_in d.device (word words 1) ≢ None → sub_in d.spelling (word words 2) ≢ None → pid_in d.spelling d.own (word words 3) ≢ None → load_in d.spelling (word words 4) ≢ None
    → IsFirstWrong AreFault (drop 5 words) i → IsFirstWrong (AreLine d begun) words (i + 5)
wrong_behind d begun [] i many a u s p l h = absurd (a refl)
wrong_behind d begun (name ∷ []) i many a u s p l h = absurd (u (no_destination d.device))
wrong_behind d begun (name ∷ w ∷ []) i many a u s p l h = absurd (s (no_sub d.spelling))
wrong_behind d begun (name ∷ w ∷ x ∷ []) i many a u s p l h = absurd (p (no_pid d.spelling d.own))
wrong_behind d begun (name ∷ w ∷ x ∷ y ∷ []) i many a u s p l h = absurd (omega (arith, many))
wrong_behind d begun (name ∷ w ∷ x ∷ y ∷ z ∷ words) i many a u s p l h = fault_behind d begun name w x y z words i a u s p l h

pub command_ends : (d : Dialect) (begun : Bool) (words : List (List ℕ)) → 4 < length words → action_in (word words 0) ≢ None → destination_in d.device (word words 1) ≢ None → sub_in d.spelling (word words 2) ≢ None → pid_in d.spelling d.own (word words 3) ≢ None → load_in d.spelling (word words 4) ≢ None
    → AreFault (drop 5 words) → AreLine d begun words
command_ends d begun [] many a u s p l f = absurd (a refl)
command_ends d begun (name ∷ words) many a u s p l f =
    command_line d begun name words (record { five = omega (arith, many); action = a; destination = u; sub = s; pid = p; load = l; fault = f })
