-- What is saved of sub-devices, and of parameters that the maker adds, one behind the other.
use Rattle.std.proofs.Common.{◌≡◌, ℕ, ◌+◌, ◌≤◌, ◌<◌, List, [], ◌∷◌, ◌++◌, length, length-append, take, drop, get_or, refl, sym, ap, ◌∙◌, arith}
use Rattle.std.specs.Prelude.{flat_map}
use borrow.Rule.Slice.PartMut.{put_mid}
use Rattle.std.proofs.lemmas.Slice.{take-put_mid, drop-put_mid}
use Rattle.std.proofs.lemmas.List.{take_at, drop_at, take_more, take-append-drop, append-nil}
use Rattle.std.proofs.lemmas.Grind.{flat_map-append}
use Rattle.rdm_added.specs.declared.state.CommonValues.{CommonValues}
use Rattle.rdm_added.specs.Map.{Entry}
use Rattle.rdm_added.specs.Views.State.{common_entries}
use Rattle.rdm_saved.specs.SavedText.{lasting, device_text}
use Rattle.rdm_saved.specs.SameProfile.{device_size}
use Rattle.rdm_saved.specs.Laws.{IsWhole}
use Rattle.rdm_saved.proofs.Lists.{drop_drop}
use Rattle.rdm_saved.proofs.Sizes.{common_size}

whole_length : (es : List Entry) → IsWhole es → length (device_text es) ≡ device_size es
whole_length [] whole = refl
whole_length (e ∷ es) whole = omega (arith, whole.0, whole_length es whole.1, length-append (lasting e) (device_text es))

pub text_length : (d : CommonValues) → IsWhole (common_entries d) → length (device_text (common_entries d)) ≡ 46
text_length d whole = whole_length (common_entries d) whole ∙ common_size d

two_same : {a a' b b' : List ℕ} → a ≡ a' → b ≡ b' → a ++ b ≡ a' ++ b'
two_same e f = rw (e, f) refl

module _ {A : Type 0} (text_of : A → List ℕ) where
  one_more : (xs : List A) (i : ℕ) (d : A) → i < length xs → flat_map text_of (take (i + 1) xs) ≡ flat_map text_of (take i xs) ++ text_of (get_or xs i d)
  one_more xs i d lt =
      ap (flat_map text_of) (take_more xs i d lt) ∙ flat_map-append text_of (take i xs) (get_or xs i d ∷ []) ∙ ap (λ (ys : List ℕ). flat_map text_of (take i xs) ++ ys) (append-nil (text_of (get_or xs i d)))

  pub len_more : (xs : List A) (i : ℕ) (d : A) (a n b : ℕ) → i < length xs → length (flat_map text_of (take i xs)) ≡ a → length (text_of (get_or xs i d)) ≡ n → b ≡ a + n → length (flat_map text_of (take (i + 1) xs)) ≡ b
  len_more xs i d a n b lt len one next =
      omega (arith, ap length (one_more xs i d lt), length-append (flat_map text_of (take i xs)) (text_of (get_or xs i d)), len, one, next)

  -- one more is written
  pub written_more : (xs : List A) (i : ℕ) (d : A) (start out piece : List ℕ) (a k n b : ℕ) → i < length xs → k ≡ n → b ≡ a + n → out ≡ flat_map text_of (take i xs) ++ drop a start → length (flat_map text_of (take i xs)) ≡ a → piece ≡ text_of (get_or xs i d) → length (text_of (get_or xs i d)) ≡ n → put_mid a k out piece ≡ flat_map text_of (take (i + 1) xs) ++ drop b start
  written_more xs i d start out piece a k n b lt whole next so_far len is one =
      let before_text : List ℕ = flat_map text_of (take i xs) in
      let long : length piece ≡ n = ap length is ∙ one in
      let room : a ≤ length out = omega (arith, ap length so_far, length-append before_text (drop a start), len) in
      let all : List ℕ = put_mid a k out piece in
      let front : take b all ≡ take a out ++ piece = take-put_mid a k out piece b (omega (arith, long, next)) room in
      let back : drop b all ≡ drop b out = drop-put_mid a k out piece b (omega (arith, whole, next)) room (omega (arith, long, whole)) in
      let before : take a out ≡ before_text = ap (take a) so_far ∙ take_at before_text (drop a start) a len in
      let behind : drop b out ≡ drop b start = ap (λ (m : ℕ). drop m out) next ∙ sym (drop_drop a n out) ∙ ap (drop n) (ap (drop a) so_far ∙ drop_at before_text (drop a start) a len) ∙ drop_drop a n start ∙ ap (λ (m : ℕ). drop m start) (sym next) in
      sym (take-append-drop b all) ∙ two_same (front ∙ two_same before is ∙ sym (one_more xs i d lt)) (back ∙ behind)
