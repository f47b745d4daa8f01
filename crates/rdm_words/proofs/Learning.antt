-- What was noted was asked, and an answer is one of those that are kept.
use Rattle.std.proofs.Common.{◌≡◌, ℕ, ◌<◌, zero, suc, Bool, true, false, List, [], ◌∷◌, ◌++◌, length, get_or, slice_get, Result, Ok, Err, OnOk, Option, Some, None, IfSome, refl, arith, ◌||◌}
use Rattle.std.specs.Str.{bytes_eq}
use Rattle.std.proofs.lemmas.Bool.{eq-eqb}
use Rattle.rdm_frame.specs.declared.uid.Uid.{Uid}
use Rattle.rdm_words.specs.declared.learned.Answer.{Answer}
use Rattle.rdm_words.specs.Learned.{is_about, was_asked, IsSaidBy}

bytes_same : (bs : List ℕ) → bytes_eq bs bs ≡ true
bytes_same [] = refl
bytes_same (b ∷ bs) = rw (eq-eqb b b refl, bytes_same bs) refl

about_itself : (a : Answer) → is_about a.uid a.pid a.asked a ≡ true
about_itself a = rw (eq-eqb a.uid.maker a.uid.maker refl, eq-eqb a.uid.device a.uid.device refl, eq-eqb a.pid a.pid refl, bytes_same a.asked) refl

pub noted : (answers : List Answer) (a : Answer) → was_asked a.uid a.pid a.asked (answers ++ a ∷ []) ≡ true
noted [] a = rw (about_itself a) refl
noted (b ∷ answers) a = by (is_about a.uid a.pid a.asked b) (noted answers a)
  where
    by : (x : Bool) → was_asked a.uid a.pid a.asked (answers ++ a ∷ []) ≡ true → (x || was_asked a.uid a.pid a.asked (answers ++ a ∷ [])) ≡ true
    by true h = refl
    by false h = h

-- the same where an answer is put behind others
pub noted_so : {T E : Type 0} (r : Result T E) (old new : List Answer) (a : Answer) → OnOk r (new ≡ old ++ a ∷ []) → OnOk r (was_asked a.uid a.pid a.asked new ≡ true)
noted_so (Ok t) old new a is = rw is (noted old a)
noted_so (Err e) old new a is = tt

pub there : (answers : List Answer) (i : ℕ) (d : Answer) → i < length answers → slice_get answers i ≡ Some (get_or answers i d)
there [] i d h = absurd (omega (arith, h))
there (a ∷ answers) zero d h = refl
there (a ∷ answers) (suc i) d h = there answers i d (omega (arith, h))

-- where the code finds an answer to a question
pub said_by : {D : Type 0} (r : Option D) (view : D → List ℕ) (uid : Uid) (pid : ℕ) (asked : List ℕ) (answers : List Answer) (i : ℕ) (d : Answer)
    → i < length answers → is_about uid pid asked (get_or answers i d) ≡ true → IfSome r (λ x. (get_or answers i d).told ≡ Some (view x))
    → IfSome r (λ x. IsSaidBy uid pid asked (view x) answers)
said_by None view uid pid asked answers i d lt about told = tt
said_by (Some x) view uid pid asked answers i d lt about told =
    record { answer = get_or answers i d; index = i; among = there answers i d lt; about = about; told_so = told }
