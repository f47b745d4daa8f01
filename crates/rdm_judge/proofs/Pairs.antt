-- What devices of one make answer to a request, whatever each of them keeps: the same, or one rejects what another takes.
use Rattle.std.proofs.Common.{◌≡◌, ℕ, Bool, true, false, not, cond, ◌==◌, ◌||◌, Result, Ok, Err, refl}
use Rattle.std.proofs.lemmas.Bool.{eq-eqb}
use Rattle.rdm_frame.specs.declared.frame.Frame.{Frame}
use Rattle.rdm_frame.specs.declared.nack.Nack.{Nack}
use Rattle.rdm_frame.specs.declared.nack.Nack.TheVariants.{FormatError, DataOutOfRange, WriteProtect, SubDeviceOutOfRange}
use Rattle.rdm_frame.specs.Nacks.{nack_code}
use Rattle.rdm_profile.specs.declared.value.Value.{Value}
use Rattle.rdm_params.specs.Commands.Commands.{check, open_to, ◌>>=◌}
use Rattle.rdm_judge.specs.Judging.{comes_before, is_either, is_set}

pub same_number : (n : ℕ) → (n == n) ≡ true
same_number n = eq-eqb n n refl

pub first_of : (a b : Bool) → a ≡ true → (a || b) ≡ true
first_of true b e = refl
first_of false b e = absurd cc

pub either_same : (f : Frame) (n : ℕ) → is_either f n n ≡ true
either_same f n = first_of ((n == n) || comes_before f n n) _ (first_of (n == n) _ (same_number n))

-- ---- two results of rules 6 to 11

-- a reason of one of the two, where the other takes the request
abbrev pub Leaves : Frame → Nack → Type 0
Leaves f DataOutOfRange = Unit {0}
Leaves f WriteProtect = is_set f ≡ true
Leaves f _ = ⊥

abbrev pub Both : {A : Type 0} → Frame → Result A Nack → Result A Nack → Type 0
Both f (Err n) (Err m) = is_either f (nack_code n) (nack_code m) ≡ true
Both f (Err n) (Ok y) = Leaves f n
Both f (Ok x) (Err m) = Leaves f m
Both f (Ok x) (Ok y) = x ≡ y

-- both go on with one result
pub then_both : {A B : Type 0} (f : Frame) (r : Result A Nack) (s t : A → Result B Nack) → ((x : A) → Both f (s x) (t x)) → Both f (r >>= s) (r >>= t)
then_both f (Ok x) s t both = both x
then_both f (Err n) s t both = either_same f (nack_code n)

-- Whether the value is in range at each of the devices of the two, and no job would start at all of them. `all` is that it is for all
-- sub-devices and slow.
abbrev suited : Value → Bool → Bool → Result Value Nack
suited v within all = check within DataOutOfRange >>= (λ u. check (not all) SubDeviceOutOfRange) >>= (λ w. Ok v)

-- 0xFFFF where it is for all
abbrev ForAll : Frame → Bool → Type 0
ForAll f all = all ≡ true → ((f.sub == 0xFFFF) ≡ true) × (is_set f ≡ true)

before_jobs : (f : Frame) → is_set f ≡ true → (f.sub == 0xFFFF) ≡ true → is_either f 6 9 ≡ true
before_jobs f set all = rw (set, all) refl

after_range : (f : Frame) → is_set f ≡ true → (f.sub == 0xFFFF) ≡ true → is_either f 9 6 ≡ true
after_range f set all = rw (set, all) refl

locked_before_jobs : (f : Frame) → is_set f ≡ true → (f.sub == 0xFFFF) ≡ true → is_either f 4 9 ≡ true
locked_before_jobs f set all = rw (set, all) refl

locked_after_jobs : (f : Frame) → is_set f ≡ true → (f.sub == 0xFFFF) ≡ true → is_either f 9 4 ≡ true
locked_after_jobs f set all = rw (set, all) refl

pub both_suited : (f : Frame) (v : Value) (a b all : Bool) → ForAll f all → Both f (suited v a all) (suited v b all)
both_suited f v true true true for = either_same f 9
both_suited f v true true false for = refl
both_suited f v true false true for = let is = for refl in after_range f is.1 is.0
both_suited f v true false false for = tt
both_suited f v false true true for = let is = for refl in before_jobs f is.1 is.0
both_suited f v false true false for = tt
both_suited f v false false all for = either_same f 6

-- ---- behind a lock

abbrev rest_of : Bool → Result Value Nack → (Value → Result Value Nack) → Result Value Nack
rest_of no_pin read' later = check (not no_pin) FormatError >>= (λ u. read' >>= later)

abbrev behind : Bool → Bool → Result Value Nack → (Value → Result Value Nack) → Result Value Nack
behind protected no_pin read' later = open_to protected no_pin >>= (λ u. read' >>= later)

-- a reason behind the lock, beside WRITE_PROTECT
abbrev pub Behind : Frame → Result Value Nack → Type 0
Behind f (Err n) = (is_either f 4 (nack_code n) ≡ true) × (is_either f (nack_code n) 4 ≡ true)
Behind f (Ok v) = Unit {0}

pub locked_format : (f : Frame) → is_set f ≡ true → Behind f (Err FormatError)
locked_format f set = (rw set refl, rw set refl)

locked_range : (f : Frame) → is_set f ≡ true → Behind f (Err DataOutOfRange)
locked_range f set = (rw set refl, rw set refl)

pub suited_behind : (f : Frame) → is_set f ≡ true → (v : Value) (a all : Bool) → ForAll f all → Behind f (suited v a all)
suited_behind f set v true true for = let is = for refl in (locked_before_jobs f is.1 is.0, locked_after_jobs f is.1 is.0)
suited_behind f set v true false for = tt
suited_behind f set v false all for = locked_range f set

pub read_behind : (f : Frame) → is_set f ≡ true → (has : Bool) (value : Value) (later : Value → Result Value Nack) → ((v : Value) → Behind f (later v)) → Behind f (cond has (Ok value) (Err FormatError) >>= later)
read_behind f set true value later behind' = behind' value
read_behind f set false value later behind' = locked_format f set

pub pin_behind : (f : Frame) → is_set f ≡ true → (no_pin : Bool) (r : Result Value Nack) → Behind f r → Behind f (check (not no_pin) FormatError >>= (λ u. r))
pin_behind f set true r behind' = locked_format f set
pin_behind f set false r behind' = behind'

pub both_locked : (f : Frame) → is_set f ≡ true → (a b no_pin : Bool) (r s : Result Value Nack) → Behind f (check (not no_pin) FormatError >>= (λ u. r)) → Behind f (check (not no_pin) FormatError >>= (λ u. s)) → Both f (check (not no_pin) FormatError >>= (λ u. r)) (check (not no_pin) FormatError >>= (λ u. s)) → Both f (open_to a no_pin >>= (λ u. r)) (open_to b no_pin >>= (λ u. s))
both_locked f set true true no_pin r s br bs both = either_same f 4
both_locked f set true false true r s br bs both = bs.0
both_locked f set true false false r (Err n) br bs both = bs.0
both_locked f set true false false r (Ok v) br bs both = set
both_locked f set false true true r s br bs both = br.1
both_locked f set false true false (Err n) s br bs both = br.1
both_locked f set false true false (Ok v) s br bs both = set
both_locked f set false false no_pin r s br bs both = both
