-- The one device of a line that has a UID.
use Rattle.std.proofs.Common.{◌≡◌, ◌≢◌, ℕ, zero, suc, ◌<◌, Bool, false, List, [], ◌∷◌, ◌++◌, length, get_or, refl, sym, ap, subst, ◌∙◌, arith}
use Rattle.std.specs.Prelude.{◌&&◌, ◌==◌, nat_le, Contains}
use Rattle.std.specs.List.{AllByRecursion}
use Rattle.std.proofs.lemmas.Bool.{and_left, and_right, or_from, false_from_ne_true}
use Rattle.std.proofs.lemmas.Bool.Decides.{Decides-eqb, Decides-and, Decides-like}
use Rattle.std.specs.Bool.{Decides}
use Rattle.rdm_frame.specs.declared.uid.Uid.{Uid}
use Rattle.rdm_frame.specs.Addressing.{same_uid, is_broadcast, is_addressed}
use Rattle.rdm_frame.specs.Reading.{uid_at}
use Rattle.rdm_responder.specs.History.{History}
use Rattle.rdm_line.specs.Hearing.{hears}
use Rattle.rdm_line.specs.Line.{uids_of, IsOnlyAt}
use Rattle.rdm_line.proofs.Unheard.{Deaf}

abbrev pub Others : Uid → List History → Type 0
Others u hs = AllByRecursion (λ (h : History). h.setup.uid ≢ u) hs

-- the device at a place, which alone has that UID
pub record Alone (u : Uid) (hs : List History) (i : ℕ) : Type 0 where
  pub before : List History
  pub one : History
  pub after : List History
  pub all : hs ≡ before ++ one ∷ after
  pub place : length before ≡ i
  pub uid : one.setup.uid ≡ u
  pub others_before : Others u before
  pub others_after : Others u after

pub others : (u : Uid) (hs : List History) → ((j : ℕ) → j < length (uids_of hs) → get_or (uids_of hs) j u ≢ u) → Others u hs
others u [] none = tt
others u (h ∷ hs) none = (none 0 (omega arith), others u hs (λ j lt. none (suc j) (omega arith)))

pub alone : (u : Uid) (hs : List History) (i : ℕ) → IsOnlyAt u (uids_of hs) i → Alone u hs i
alone u [] i is = absurd (omega (arith, is.within))
alone u (h ∷ hs) zero is = record {
  before = [];
  one = h;
  after = hs;
  all = refl;
  place = refl;
  uid = is.there;
  others_before = tt;
  others_after = others u hs (λ j lt e. (let n : suc j ≡ 0 = is.only (suc j) (omega arith) e in omega arith));
}
alone u (h ∷ hs) (suc i) is =
    let rest = alone u hs i (record { within = omega (arith, is.within); there = is.there; only = λ j lt e. (let n : suc j ≡ suc i = is.only (suc j) (omega arith) e in omega arith) }) in
    record {
      before = h ∷ rest.before;
      one = rest.one;
      after = rest.after;
      all = ap (λ (xs : List History). h ∷ xs) rest.all;
      place = ap suc rest.place;
      uid = rest.uid;
      others_before = (λ e. (let n : 0 ≡ suc i = is.only 0 (omega arith) e in omega arith), rest.others_before);
      others_after = rest.others_after;
    }

abbrev uid : ℕ → ℕ → Uid
uid m d = record { maker = m; device = d }

uid_same : (m m' d d' : ℕ) → (m ≡ m') × (d ≡ d') → uid m d ≡ uid m' d'
uid_same m m' d d' e = rw (e.0, e.1) refl

pub uid_decides : (u v : Uid) → Decides (same_uid u v) (u ≡ v)
uid_decides u v =
    Decides-like (same_uid u v) (uid_same u.maker v.maker u.device v.device) (λ e. (ap (λ (w : Uid). w.maker) e, ap (λ (w : Uid). w.device) e))
    (Decides-and (u.maker == v.maker) (u.device == v.device) (Decides-eqb u.maker v.maker) (Decides-eqb u.device v.device))

pub not_same : (u v : Uid) → (u ≡ v → ⊥) → same_uid u v ≡ false
not_same u v h = false_from_ne_true (same_uid u v) (λ t. h ((uid_decides u v).0 t))

-- Bytes for one device address no other.
pub other_unaddressed : (own dst : Uid) → is_broadcast dst ≡ false → own ≢ dst → is_addressed own dst ≡ false
other_unaddressed own dst single other =
    or_from (same_uid dst own) _ (not_same dst own (λ e. other (sym e))) (and_left (is_broadcast dst) _ single)

other_deaf : (bytes : List ℕ) (own : Uid) → is_broadcast (uid_at bytes 3) ≡ false → own ≢ uid_at bytes 3 → hears own bytes ≡ false
other_deaf bytes own single other =
    ap (λ (b : Bool). nat_le 9 (length bytes) && b) (other_unaddressed own (uid_at bytes 3) single other) ∙ and_right (nat_le 9 (length bytes)) false refl

pub others_deaf : (bytes : List ℕ) (hs : List History) → is_broadcast (uid_at bytes 3) ≡ false → Others (uid_at bytes 3) hs → Deaf bytes hs
others_deaf bytes [] single others = tt
others_deaf bytes (h ∷ hs) single others = (other_deaf bytes h.setup.uid single others.0, others_deaf bytes hs single others.1)

-- Bytes for a device that isn't on the line address nobody.
pub absent_deaf : (bytes : List ℕ) (hs : List History) (uids : List Uid) (dst : Uid) → uids_of hs ≡ uids → dst ≡ uid_at bytes 3 → is_broadcast dst ≡ false → (Contains uids dst → ⊥) → Deaf bytes hs
absent_deaf bytes hs uids dst e d single absent =
    let gone : Contains (uids_of hs) (uid_at bytes 3) → ⊥ = λ there. absent (subst (λ (us : List Uid). Contains us dst) e (subst (Contains (uids_of hs)) (sym d) there)) in
    others_deaf bytes hs (ap is_broadcast (sym d) ∙ single) (others (uid_at bytes 3) hs (λ j lt is. gone (j, lt, is)))
