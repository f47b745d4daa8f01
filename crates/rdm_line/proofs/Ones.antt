-- Bytes for one device, and what they make of a line.
use Rattle.std.proofs.Common.{◌≡◌, ◌↔◌, ℕ, ◌≤◌, true, false, List, ◌∷◌, ◌++◌, length, map, Option, None, sym, ap, subst, ◌∙◌}
use Rattle.std.specs.Prelude.{nat_le, is_some, IsSome}
use Rattle.std.specs.Option.{option_to_list}
use Rattle.std.specs.List.{AllZip}
use Rattle.std.proofs.lemmas.Bool.{le-leb, or_left, and_from, false≢true}
use Rattle.rdm_frame.specs.declared.uid.Uid.{Uid}
use Rattle.rdm_frame.specs.Addressing.{same_uid, is_broadcast, is_addressed}
use Rattle.rdm_frame.specs.Reading.{uid_at}
use Rattle.rdm_responder.specs.History.{History, Heard, then_event}
use Rattle.rdm_responder.specs.Rules.{reply_of}
use Rattle.rdm_line.specs.Hearing.{answers, hears, heard_by}
use Rattle.rdm_line.specs.Line.{State, StandFor, IsOnlyAt, uids_of}
use Rattle.rdm_line.proofs.Alone.{Others, Alone, alone, others_deaf, uid_decides}
use Rattle.rdm_line.proofs.Unheard.{Deaf, deaf_same, one_heard, one_answers, uids_stay}

-- the one device that the bytes are for
pub record One {D : Type 0} (R : D → History → Type 0) (devices : List D) (hs : List History) (bytes : List ℕ) (i : ℕ) : Type 0 where
  pub before : List History
  pub one : History
  pub after : List History
  pub place : length before ≡ i
  pub all : hs ≡ before ++ one ∷ after
  pub zip : AllZip R devices (before ++ one ∷ after)
  pub deaf_before : Deaf bytes before
  pub deaf_after : Deaf bytes after
  pub hearing : hears one.setup.uid bytes ≡ true
  pub answer : answers bytes hs ≡ option_to_list (reply_of one bytes)
  pub heard : map (heard_by bytes) hs ≡ before ++ then_event one (Heard bytes) ∷ after

hears_its_own : (own : Uid) (bytes : List ℕ) → 9 ≤ length bytes → own ≡ uid_at bytes 3 → hears own bytes ≡ true
hears_its_own own bytes long e =
    and_from (nat_le 9 (length bytes)) (is_addressed own (uid_at bytes 3)) (le-leb 9 (length bytes) long)
    (or_left (same_uid (uid_at bytes 3) own) _ ((uid_decides (uid_at bytes 3) own).1 (sym e)))

pub one_of : {D : Type 0} (R : D → History → Type 0) (devices : List D) (uids : List Uid) (hs : List History) (dst : Uid) (bytes : List ℕ) (i : ℕ) → AllZip R devices hs → uids_of hs ≡ uids → 9 ≤ length bytes → dst ≡ uid_at bytes 3 → is_broadcast dst ≡ false → IsOnlyAt dst uids i → One R devices hs bytes i
one_of R devices uids hs dst bytes i zip stand long d single place =
    let at : Alone dst hs i = alone dst hs i (subst (λ (us : List Uid). IsOnlyAt dst us i) (sym stand) place) in
    let alone_there : is_broadcast (uid_at bytes 3) ≡ false = ap is_broadcast (sym d) ∙ single in
    let deaf_before = others_deaf bytes at.before alone_there (subst (λ (u : Uid). Others u at.before) d at.others_before) in
    let deaf_after = others_deaf bytes at.after alone_there (subst (λ (u : Uid). Others u at.after) d at.others_after) in
    let hearing = hears_its_own at.one.setup.uid bytes long (at.uid ∙ d) in
    record {
      before = at.before;
      one = at.one;
      after = at.after;
      place = at.place;
      all = at.all;
      zip = subst (AllZip R devices) at.all zip;
      deaf_before = deaf_before;
      deaf_after = deaf_after;
      hearing = hearing;
      answer = ap (answers bytes) at.all ∙ one_answers bytes at.before at.one at.after deaf_before deaf_after;
      heard = ap (map (heard_by bytes)) at.all ∙ one_heard bytes at.before at.one at.after deaf_before deaf_after hearing;
    }

-- ---- the histories of the line

pub stand_heard : {D : Type 0} (R : D → History → Type 0) (old new : State D) (hs : List History) (bytes : List ℕ) → StandFor R old hs → AllZip R new.devices (map (heard_by bytes) hs) → new.uids ≡ old.uids → StandFor R new (map (heard_by bytes) hs)
stand_heard R old new hs bytes stand zip same = record { each = zip; uids = uids_stay bytes hs ∙ stand.uids ∙ sym same }

pub stand_deaf : {D : Type 0} (R : D → History → Type 0) (line : State D) (hs : List History) (bytes : List ℕ) → StandFor R line hs → Deaf bytes hs → StandFor R line (map (heard_by bytes) hs)
stand_deaf R line hs bytes stand deaf = subst (StandFor R line) (sym (deaf_same bytes hs deaf)) stand

pub absent_from : (o : Option ℕ) (P : Type 0) → (IsSome o ↔ P) → o ≡ None → P → ⊥
absent_from o P iff none there = false≢true (ap (λ (q : Option ℕ). is_some q) (sym none) ∙ iff.1 there)
