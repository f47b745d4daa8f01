-- The bytes that count stand behind a break.
use Rattle.std.proofs.Common.{◌≡◌, ◌⊎◌, inl, inr, ℕ, List, [], ◌∷◌, ◌++◌, map, Option, Some, None, refl, sym, ap, ◌∙◌, append_assoc, append-nil}
use Rattle.std.specs.Prelude.{fold}
use Rattle.std.proofs.lemmas.List.Sums.{fold-append}
use Rattle.rdm_receiver.specs.declared.signal.Signal.{Signal}
use Rattle.rdm_receiver.specs.declared.signal.Signal.TheVariants.{Break, Byte, Error}
use Rattle.rdm_receiver.specs.Signals.{since_break, then_signal}

-- they end so
record EndsSo (signals : List Signal) (bytes : List ℕ) : Type 0 where
  before : List Signal
  whole : signals ≡ before ++ Break ∷ map Byte bytes

-- nothing but bytes came behind those that counted before
record OnlyBytes (heard : Option (List ℕ)) (signals : List Signal) (bytes : List ℕ) : Type 0 where
  first : List ℕ
  rest : List ℕ
  counted : heard ≡ Some first
  all : bytes ≡ first ++ rest
  only : signals ≡ map Byte rest

some_is : (xs ys : List ℕ) → Some xs ≡ Some ys → xs ≡ ys
some_is xs ys e = cc

none_is : (xs : List ℕ) → None ≡ Some xs → ⊥
none_is xs e = cc

next : (heard : Option (List ℕ)) (signal : Signal) (rest : List Signal) (bytes : List ℕ) → OnlyBytes (then_signal heard signal) rest bytes
    → EndsSo (signal ∷ rest) bytes ⊎ OnlyBytes heard (signal ∷ rest) bytes
next heard Break rest bytes o =
    let none : o.first ≡ [] = sym (some_is [] o.first o.counted) in
    inl (record { before = []; whole = ap (λ (l : List Signal). Break ∷ l) (o.only ∙ ap (map Byte) (sym (o.all ∙ ap (λ (l : List ℕ). l ++ o.rest) none))) })
next None (Byte byte) rest bytes o = absurd (none_is o.first o.counted)
next (Some heard) (Byte byte) rest bytes o =
    let one : heard ++ byte ∷ [] ≡ o.first = some_is (heard ++ byte ∷ []) o.first o.counted in
    inr (record {
      first = heard;
      rest = byte ∷ o.rest;
      counted = refl;
      all = o.all ∙ ap (λ (l : List ℕ). l ++ o.rest) (sym one) ∙ append_assoc heard (byte ∷ []) o.rest;
      only = ap (λ (l : List Signal). Byte byte ∷ l) o.only;
    })
next heard Error rest bytes o = absurd (none_is o.first o.counted)

longer : (heard : Option (List ℕ)) (signal : Signal) (rest : List Signal) (bytes : List ℕ)
    → EndsSo rest bytes ⊎ OnlyBytes (then_signal heard signal) rest bytes → EndsSo (signal ∷ rest) bytes ⊎ OnlyBytes heard (signal ∷ rest) bytes
longer heard signal rest bytes (inl e) = inl (record { before = signal ∷ e.before; whole = ap (λ (l : List Signal). signal ∷ l) e.whole })
longer heard signal rest bytes (inr o) = next heard signal rest bytes o

ends : (heard : Option (List ℕ)) (signals : List Signal) (bytes : List ℕ) → fold then_signal heard signals ≡ Some bytes
    → EndsSo signals bytes ⊎ OnlyBytes heard signals bytes
ends heard [] bytes e = inr (record { first = bytes; rest = []; counted = e; all = sym (append-nil bytes); only = refl })
ends heard (signal ∷ rest) bytes e = longer heard signal rest bytes (ends (then_signal heard signal) rest bytes e)

from_none : (signals : List Signal) (bytes : List ℕ) → EndsSo signals bytes ⊎ OnlyBytes None signals bytes
    → (before : List Signal) × (signals ≡ before ++ Break ∷ map Byte bytes)
from_none signals bytes (inl e) = (e.before, e.whole)
from_none signals bytes (inr o) = absurd (none_is o.first o.counted)

pub stand : (signals : List Signal) (bytes : List ℕ) → since_break signals ≡ Some bytes → (before : List Signal) × (signals ≡ before ++ Break ∷ map Byte bytes)
unfolding since_break
stand signals bytes e = from_none signals bytes (ends None signals bytes e)

bytes_count : (first bytes : List ℕ) → fold then_signal (Some first) (map Byte bytes) ≡ Some (first ++ bytes)
bytes_count first [] = ap Some (sym (append-nil first))
bytes_count first (byte ∷ bytes) = bytes_count (first ++ byte ∷ []) bytes ∙ ap Some (append_assoc first (byte ∷ []) bytes)

pub count : (before : List Signal) (bytes : List ℕ) → since_break (before ++ Break ∷ map Byte bytes) ≡ Some bytes
unfolding since_break
count before bytes = fold-append then_signal None before (Break ∷ map Byte bytes) ∙ bytes_count [] bytes
