-- What a search of an image finds, by the lists that were saved.
use Rattle.std.proofs.Common.{◌≡◌, ℕ, suc, ◌-◌, Bool, true, false, ◌==◌, ◌&&◌, ◌||◌, List, [], ◌∷◌, ◌++◌, length, append_assoc, take, drop, replicate, Option, Some, refl, sym, ap, ◌∙◌}
use Rattle.std.specs.Prelude.{bytes_eq, flat_map, find, if◌then◌else◌}
use Rattle.std.specs.Int.{byte_at}
use Rattle.std.specs.List.{list_any}
use Rattle.std.specs.Option.{option_map}
use Rattle.std.proofs.Math.Seq.{drop-append_seam, take-append_seam}
use Rattle.std.proofs.lemmas.List.{take_at}
use Rattle.rdm_profile.specs.declared.profile.own.ParameterDef.{ParameterDef}
use Rattle.rdm_profile.specs.Values.{word_slots}
use Rattle.rdm_added.specs.Map.{Entry}
use Rattle.rdm_saved.specs.SavedText.{own_text, kept_text, added_text}
use Rattle.rdm_saved.specs.SameProfile.{kept_said}
use Rattle.rdm_saved.specs.Carrying.{has_piece, is_kept_of, kept_in}
use Rattle.rdm_saved.specs.Laws.{AreTexts}
use Rattle.rdm_saved.proofs.Whole.{kept_size}
use Rattle.rdm_updates.specs.Updated.{is_same_word, has_key_of, saved_of}

pub drop_at : (xs ys : List ℕ) (n : ℕ) → length xs ≡ n → drop n (xs ++ ys) ≡ ys
drop_at xs ys n e = rw (← e) (drop-append_seam xs ys)

-- the PIDs that are left out
pub omitted_is : (ns : List ℕ) (rest : List ℕ) (pid : ℕ) → has_piece 2 (length ns) (flat_map word_slots ns ++ rest) (word_slots pid) ≡ list_any (λ out. is_same_word out pid) ns
omitted_is [] rest pid = refl
omitted_is (n ∷ ns) rest pid = ap (λ (b : Bool). is_same_word n pid || b) (omitted_is ns rest pid)

-- the parameters that the maker adds
pub own_is : (ds : List ParameterDef) (rest : List ℕ) (d : ParameterDef) → has_piece 4 (length ds) (flat_map own_text ds ++ rest) (own_text d) ≡ list_any (λ other. bytes_eq (own_text other) (own_text d)) ds
own_is [] rest d = refl
own_is (x ∷ xs) rest d = ap (λ (b : Bool). bytes_eq (own_text x) (own_text d) || b) (own_is xs rest d)

-- ---- what is kept of them

and_split : (a b c d : Bool) → (a && (b && (c && (d && true)))) ≡ ((a && (b && true)) && (c && (d && true)))
and_split true true c d = refl
and_split true false c d = refl
and_split false b c d = refl

-- the key of what was saved
key_is : (e s : Entry) → is_kept_of e.pid e.index (kept_text s) ≡ has_key_of e s
key_is e s = and_split (byte_at 1 s.pid == byte_at 1 e.pid) (byte_at 0 s.pid == byte_at 0 e.pid) (byte_at 1 s.index == byte_at 1 e.index) (byte_at 0 s.index == byte_at 0 e.index)

-- the value that was saved
said_is : (s : Entry) → kept_said (kept_text s) ≡ s.bytes
said_is s = take-append_seam s.bytes (replicate (32 - length s.bytes) 0)

found_or : (b : Bool) (s : Entry) (rest : Option Entry) → option_map (λ (x : Entry). x.bytes) (if b then Some s else rest) ≡ (if b then Some s.bytes else option_map (λ (x : Entry). x.bytes) rest)
found_or true s rest = refl
found_or false s rest = refl

pub if_same : {A : Type 0} {b b' : Bool} {x x' y y' : A} → b ≡ b' → x ≡ x' → y ≡ y' → (if b then x else y) ≡ (if b' then x' else y')
if_same p q r = rw (p, q, r) refl

pub kept_is : (ss : List Entry) (rest : List ℕ) (e : Entry) → AreTexts ss → kept_in (length ss) (added_text ss ++ rest) e.pid e.index ≡ saved_of e ss
kept_is [] rest e short = refl
kept_is (s ∷ ss) rest e short =
    let text : List ℕ = kept_text s in
    let more : List ℕ = added_text ss ++ rest in
    let size : length text ≡ 37 = kept_size s short.0 in
    let bytes : added_text (s ∷ ss) ++ rest ≡ text ++ more = append_assoc text (added_text ss) rest in
    let front : take 37 (text ++ more) ≡ text = take_at text more 37 size in
    let back : drop 37 (text ++ more) ≡ more = drop_at text more 37 size in
    ap (λ (xs : List ℕ). kept_in (suc (length ss)) xs e.pid e.index) bytes
    ∙ if_same (ap (is_kept_of e.pid e.index) front ∙ key_is e s) (ap (λ (xs : List ℕ). Some (kept_said xs)) front ∙ ap (λ (xs : List ℕ). Some xs) (said_is s)) (ap (λ (xs : List ℕ). kept_in (length ss) xs e.pid e.index) back ∙ kept_is ss rest e short.1)
    ∙ sym (found_or (has_key_of e s) s (find (has_key_of e) ss))
