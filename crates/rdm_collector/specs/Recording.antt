-- What a collector's record says of the messages that the device dispensed. E1.20 section 10.3.1.
--
-- D is what was dispensed: the messages of all replies to polls, those included that repeat a message or were lost. R is
-- what was recorded: the messages of the replies that the collector heard. G is what was given: the messages that left the
-- device's queue.
use Rattle.std.specs.Prelude.{◌≡◌, ◌≤◌, Bool, true, false, ◌&&◌, ◌==◌, if◌then◌else◌, List, [], ◌∷◌, ◌++◌, length, fold}
use Rattle.std.specs.Str.{bytes_eq}
use Rattle.rdm_frame.specs.declared.message.Message.{Message}

-- the two say the same: class, parameter ID, sub-device and data
unfoldable pub same_message : Message → Message → Bool
same_message m n = (m.class == n.class) && (m.pid == n.pid) && (m.sub == n.sub) && bytes_eq m.body n.body

abbrev pub ends_with : List Message → Message → Bool
ends_with [] m = false
ends_with (x ∷ []) m = same_message x m
ends_with (x ∷ y ∷ ys) m = ends_with (y ∷ ys) m

-- a message at the end, unless it is the end already
unfoldable pub and_then : List Message → Message → List Message
and_then js m = if ends_with js m then js else js ++ m ∷ []

-- Each run of adjacent equal messages made one.
unfoldable pub join : List Message → List Message
join ms = fold and_then [] ms

-- That is what join does, seen from the front: of two equal neighbours the first goes, and of two others it stays.
abbrev pub JoinsFromTheFront : Type 0
JoinsFromTheFront =
    (x y : Message) (ys : List Message) → join (x ∷ y ∷ ys) ≡ (if same_message x y then join (y ∷ ys) else x ∷ join (y ∷ ys))

-- all but the last element, if there is one
abbrev pub but_last : List Message → List Message
but_last [] = []
but_last (x ∷ []) = []
but_last (x ∷ y ∷ ys) = x ∷ but_last (y ∷ ys)

-- the first list is the second with none or more of its elements left out
pub data IsSubsequence : List Message → List Message → Type 0 where
  Nothing : (ys : List Message) → IsSubsequence [] ys
  Skips : (xs : List Message) (y : Message) (ys : List Message) → IsSubsequence xs ys → IsSubsequence xs (y ∷ ys)
  Takes : (x : Message) (xs : List Message) (ys : List Message) → IsSubsequence xs ys → IsSubsequence (x ∷ xs) (x ∷ ys)

-- The prefix law. Joined, R is a prefix of D, at most one message shorter, and all of it if the last poll is answered.
pub record PrefixLaw (unanswered : Bool) (dispensed recorded : List Message) : Type 0 where
  pub rest : List Message
  pub prefix : join recorded ++ rest ≡ join dispensed
  pub at_most_one : length rest ≤ 1
  pub equal : unanswered ≡ false → join recorded ≡ join dispensed

-- The no-loss law. Joined, all of G is in R, in its order, if the last poll is answered; else all but its last message.
pub record NoLossLaw (unanswered : Bool) (given recorded : List Message) : Type 0 where
  pub all : unanswered ≡ false → IsSubsequence (join given) (join recorded)
  pub but_one : unanswered ≡ true → IsSubsequence (but_last (join given)) (join recorded)

-- What the prefix law rules out, of any two messages that aren't equal.
--
-- A message that was lost is skipped: the next poll fetched another, or the device had dropped it.
abbrev pub SkippingIsRefused : Type 0
SkippingIsRefused =
    (u : Bool) (lost next : Message) → same_message lost next ≡ false → ¬ PrefixLaw u (lost ∷ next ∷ []) (next ∷ [])

-- Nothing is recorded.
abbrev pub RecordingNothingIsRefused : Type 0
RecordingNothingIsRefused =
    (u : Bool) (first second : Message) → same_message first second ≡ false → ¬ PrefixLaw u (first ∷ second ∷ []) []

-- The device repeats an older message than its last answer, as when it doesn't keep an empty status message.
abbrev pub RepeatingAnOlderOneIsRefused : Type 0
RepeatingAnOlderOneIsRefused =
    (u : Bool) (older lost : Message) → same_message older lost ≡ false → ¬ PrefixLaw u (older ∷ lost ∷ older ∷ []) (older ∷ older ∷ [])
