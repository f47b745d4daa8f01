-- What is saved is restored.
use Rattle.std.proofs.Common.{◌≡◌, ℕ, ◌+◌, ◌-◌, Bool, true, false, ◌==◌, List, [], ◌∷◌, ◌++◌, length, length-append, append_assoc, take, drop, replicate, refl, sym, ap, ◌∙◌, arith}
use Rattle.std.specs.Prelude.{slice_index, flat_map, if◌then◌else◌}
use Rattle.std.proofs.Math.Seq.{drop-append_seam, take-append_seam}
use Rattle.std.proofs.lemmas.List.{take_at}
use Rattle.std.proofs.lemmas.Slice.Eq.{bytes_eq-Decides}
use Rattle.rdm_profile.specs.declared.profile.Profile.{Profile}
use Rattle.rdm_profile.specs.Values.{word_slots}
use Rattle.rdm_added.specs.Map.{Entry, entry}
use Rattle.rdm_added.specs.Parameters.{Parameters}
use Rattle.rdm_saved.specs.SavedText.{is_of_the_moment, label_text, kept_text, lasting, device_text, added_text, profile_text, values_text, sum_text, saved_text}
use Rattle.rdm_saved.specs.SameProfile.{size, device_size, devices_size, restored_value, restored_device, restored_kept, restored_added, restored_devices, restored_whole, added_size, profile_size}
use Rattle.rdm_saved.specs.Restoring.{saved_len, says_profile, restored}
use Rattle.rdm_saved.specs.Laws.{IsWhole, AreTexts, AreWhole, HaveSamePids, AllHaveSamePids, AreOfOneMake, taken_value, taken_device, taken_added, taken_devices, taken}
use Rattle.rdm_saved.proofs.Lists.{drop_drop}
use Rattle.rdm_saved.proofs.Profiles.{head_size}
use Rattle.rdm_saved.proofs.Whole.{kept_size}

-- what lasts, by the three tests of the PID
abbrev lasted : Bool → Bool → Bool → List ℕ → List ℕ
lasted moment sensor label bytes = if moment then [] else if sensor then drop 6 bytes else if label then label_text bytes else bytes

by_tests : (moment sensor label : Bool) (now saved : List ℕ) → (if moment then now else if sensor then take 6 now ++ lasted moment sensor label saved else if label then take (slice_index (lasted moment sensor label saved) 0) (drop 1 (lasted moment sensor label saved)) else lasted moment sensor label saved) ≡ (if moment then now else if sensor then take 6 now ++ drop 6 saved else saved)
by_tests true sensor label now saved = refl
by_tests false true label now saved = refl
by_tests false false true now saved = take-append_seam saved (replicate (32 - length saved) 0)
by_tests false false false now saved = refl

value_back : (e s : Entry) → e.pid ≡ s.pid → restored_value e (lasting s) ≡ taken_value e s
value_back e s same =
    let is : lasting s ≡ lasted (is_of_the_moment e.pid) (e.pid == 0x0201) (e.pid == 0x0082) s.bytes = ap (λ (pid : ℕ). lasted (is_of_the_moment pid) (pid == 0x0201) (pid == 0x0082) s.bytes) (sym same) in
    ap (restored_value e) is ∙ by_tests (is_of_the_moment e.pid) (e.pid == 0x0201) (e.pid == 0x0082) e.bytes s.bytes

size_back : (es ss : List Entry) → HaveSamePids es ss → IsWhole ss → device_size es ≡ length (device_text ss)
size_back [] [] same whole = refl
size_back [] (s ∷ ss) same whole = absurd same
size_back (e ∷ es) [] same whole = absurd same
size_back (e ∷ es) (s ∷ ss) same whole =
    let first : size e.pid ≡ length (lasting s) = ap size same.0 ∙ sym whole.0 in
    omega (arith, first, size_back es ss same.1 whole.1, length-append (lasting s) (device_text ss))

entry_same : (e : Entry) {a b : List ℕ} {xs ys : List Entry} → a ≡ b → xs ≡ ys → entry e.pid e.index a ∷ xs ≡ entry e.pid e.index b ∷ ys
entry_same e p q = rw (p, q) refl

drop_at : (xs ys : List ℕ) (n : ℕ) → length xs ≡ n → drop n (xs ++ ys) ≡ ys
drop_at xs ys n e = rw (← e) (drop-append_seam xs ys)

device_back : (es ss : List Entry) (rest : List ℕ) → HaveSamePids es ss → IsWhole ss → restored_device es (device_text ss ++ rest) ≡ taken_device es ss
device_back [] [] rest same whole = refl
device_back [] (s ∷ ss) rest same whole = absurd same
device_back (e ∷ es) [] rest same whole = absurd same
device_back (e ∷ es) (s ∷ ss) rest same whole =
    let first : length (lasting s) ≡ size e.pid = whole.0 ∙ ap size (sym same.0) in
    let bytes : device_text (s ∷ ss) ++ rest ≡ lasting s ++ (device_text ss ++ rest) = append_assoc (lasting s) (device_text ss) rest in
    ap (restored_device (e ∷ es)) bytes
    ∙ entry_same e (ap (restored_value e) (take_at (lasting s) (device_text ss ++ rest) (size e.pid) first) ∙ value_back e s same.0) (ap (restored_device es) (drop_at (lasting s) (device_text ss ++ rest) (size e.pid) first) ∙ device_back es ss rest same.1 whole.1)

devices_back : (ds ss : List (List Entry)) (rest : List ℕ) → AllHaveSamePids ds ss → AreWhole ss → restored_devices ds (flat_map device_text ss ++ rest) ≡ taken_devices ds ss
devices_back [] [] rest same whole = refl
devices_back [] (s ∷ ss) rest same whole = absurd same
devices_back (d ∷ ds) [] rest same whole = absurd same
devices_back (d ∷ ds) (s ∷ ss) rest same whole =
    let bytes : flat_map device_text (s ∷ ss) ++ rest ≡ device_text s ++ (flat_map device_text ss ++ rest) = append_assoc (device_text s) (flat_map device_text ss) rest in
    let first : restored_device d (device_text s ++ (flat_map device_text ss ++ rest)) ≡ taken_device d s = device_back d s (flat_map device_text ss ++ rest) same.0 whole.0 in
    let behind : drop (device_size d) (device_text s ++ (flat_map device_text ss ++ rest)) ≡ flat_map device_text ss ++ rest = drop_at (device_text s) (flat_map device_text ss ++ rest) (device_size d) (sym (size_back d s same.0 whole.0)) in
    ap (restored_devices (d ∷ ds)) bytes ∙ ap (λ (es : List Entry). es ∷ restored_devices ds (drop (device_size d) (device_text s ++ (flat_map device_text ss ++ rest)))) first
    ∙ ap (λ (es : List (List Entry)). taken_device d s ∷ es) (ap (restored_devices ds) behind ∙ devices_back ds ss rest same.1 whole.1)

sizes_back : (ds ss : List (List Entry)) → AllHaveSamePids ds ss → AreWhole ss → devices_size ds ≡ length (flat_map device_text ss)
sizes_back [] [] same whole = refl
sizes_back [] (s ∷ ss) same whole = absurd same
sizes_back (d ∷ ds) [] same whole = absurd same
sizes_back (d ∷ ds) (s ∷ ss) same whole = omega (arith, size_back d s same.0 whole.0, sizes_back ds ss same.1 whole.1, length-append (device_text s) (flat_map device_text ss))

added_sizes : (es ss : List Entry) → HaveSamePids es ss → AreTexts ss → added_size es ≡ length (added_text ss)
added_sizes [] [] same short = refl
added_sizes [] (s ∷ ss) same short = absurd same
added_sizes (e ∷ es) [] same short = absurd same
added_sizes (e ∷ es) (s ∷ ss) same short =
    omega (arith, kept_size s short.0, added_sizes es ss same.1 short.1, length-append (kept_text s) (added_text ss))

kept_back : (e s : Entry) → restored_kept e (kept_text s) ≡ entry e.pid e.index s.bytes
kept_back e s = ap (entry e.pid e.index) (take-append_seam s.bytes (replicate (32 - length s.bytes) 0))

both_same : {x y : Entry} {xs ys : List Entry} → x ≡ y → xs ≡ ys → x ∷ xs ≡ y ∷ ys
both_same p q = rw (p, q) refl

added_back : (es ss : List Entry) (rest : List ℕ) → HaveSamePids es ss → AreTexts ss → restored_added es (added_text ss ++ rest) ≡ taken_added es ss
added_back [] [] rest same short = refl
added_back [] (s ∷ ss) rest same short = absurd same
added_back (e ∷ es) [] rest same short = absurd same
added_back (e ∷ es) (s ∷ ss) rest same short =
    let text : List ℕ = kept_text s in
    let size : length text ≡ 37 = kept_size s short.0 in
    let bytes : added_text (s ∷ ss) ++ rest ≡ text ++ (added_text ss ++ rest) = append_assoc text (added_text ss) rest in
    ap (restored_added (e ∷ es)) bytes
    ∙ both_same (ap (restored_kept e) (take_at text (added_text ss ++ rest) 37 size) ∙ kept_back e s) (ap (restored_added es) (drop_at text (added_text ss ++ rest) 37 size) ∙ added_back es ss rest same.1 short.1)

-- what is said of the manufacturer and the profile
abbrev pub head : ℕ → Parameters → List ℕ
head maker saved = word_slots maker ++ profile_text saved.profile (length saved.added)

head_length : (maker : ℕ) (now saved : Parameters) → AreOfOneMake now saved → length (head maker saved) ≡ profile_size now.profile
head_length maker now saved make = head_size maker saved.profile (length saved.added) ∙ ap profile_size (sym make.profile)

-- how many bytes the image has
pub length_back : (maker : ℕ) (now saved : Parameters) → IsWhole saved.root → AreTexts saved.added → AreWhole saved.subs → AreOfOneMake now saved → length (saved_text maker saved) ≡ saved_len now
unfolding saved_text
length_back maker now saved root added subs make =
    omega (arith, head_length maker now saved make, size_back now.root saved.root make.root root, added_sizes now.added saved.added make.added added, sizes_back now.subs saved.subs make.subs subs, length-append (values_text maker saved) (sum_text (values_text maker saved)), length-append ((head maker saved ++ device_text saved.root) ++ added_text saved.added) (flat_map device_text saved.subs), length-append (head maker saved ++ device_text saved.root) (added_text saved.added), length-append (head maker saved) (device_text saved.root))

pub regroup : (a b c d e : List ℕ) → (((a ++ b) ++ c) ++ d) ++ e ≡ a ++ (b ++ (c ++ (d ++ e)))
regroup a b c d e = simp append_assoc

abbrev with_devices : Parameters → List Entry → List Entry → List (List Entry) → Parameters
with_devices p root added subs = record p { root = root; added = added; subs = subs }

devices_same : (p : Parameters) {a b c d : List Entry} {xs ys : List (List Entry)} → a ≡ b → c ≡ d → xs ≡ ys → with_devices p a c xs ≡ with_devices p b d ys
devices_same p e f g = rw (e, f, g) refl

-- values of the same PIDs are as many
same_count : (es ss : List Entry) → HaveSamePids es ss → length es ≡ length ss
same_count [] [] same = refl
same_count [] (s ∷ ss) same = absurd same
same_count (e ∷ es) [] same = absurd same
same_count (e ∷ es) (s ∷ ss) same = omega (arith, same_count es ss same.1)

-- what an image begins with
pub head_back : (maker : ℕ) (now saved : Parameters) → AreOfOneMake now saved → take (profile_size now.profile) (saved_text maker saved) ≡ head maker saved
unfolding saved_text
head_back maker now saved make =
    ap (take (profile_size now.profile)) (regroup (head maker saved) (device_text saved.root) (added_text saved.added) (flat_map device_text saved.subs) (sum_text (values_text maker saved)))
    ∙ take_at (head maker saved) (device_text saved.root ++ (added_text saved.added ++ (flat_map device_text saved.subs ++ sum_text (values_text maker saved)))) (profile_size now.profile) (head_length maker now saved make)

-- it says the profile
pub says_back : (maker : ℕ) (now saved : Parameters) → AreOfOneMake now saved → says_profile now (saved_text maker saved) ≡ true
says_back maker now saved make =
    let front : drop 2 (take (profile_size now.profile) (saved_text maker saved)) ≡ profile_text saved.profile (length saved.added) = ap (drop 2) (head_back maker now saved make) in
    let same : profile_text saved.profile (length saved.added) ≡ profile_text now.profile (length now.added) = ap (λ (n : ℕ). profile_text saved.profile n) (sym (same_count now.added saved.added make.added)) ∙ ap (λ (p : Profile). profile_text p (length now.added)) (sym make.profile) in
    (bytes_eq-Decides _ _).1 (front ∙ same)

-- the values that are restored from the parts
whole_back : (maker : ℕ) (now saved : Parameters) → IsWhole saved.root → AreTexts saved.added → AreWhole saved.subs → AreOfOneMake now saved → restored_whole now (saved_text maker saved) ≡ taken now saved
unfolding saved_text
whole_back maker now saved root added subs make =
    let sum : List ℕ = sum_text (values_text maker saved) in
    let m : ℕ = profile_size now.profile in
    let n : ℕ = device_size now.root in
    let k : ℕ = added_size now.added in
    let end : List ℕ = flat_map device_text saved.subs ++ sum in
    let profile : length (head maker saved) ≡ m = head_length maker now saved make in
    let behind : drop m (saved_text maker saved) ≡ device_text saved.root ++ (added_text saved.added ++ end) = ap (drop m) (regroup (head maker saved) (device_text saved.root) (added_text saved.added) (flat_map device_text saved.subs) sum) ∙ drop_at (head maker saved) (device_text saved.root ++ (added_text saved.added ++ end)) m profile in
    let after : drop (m + n) (saved_text maker saved) ≡ added_text saved.added ++ end = sym (drop_drop m n (saved_text maker saved)) ∙ ap (drop n) behind ∙ drop_at (device_text saved.root) (added_text saved.added ++ end) n (sym (size_back now.root saved.root make.root root)) in
    let last : drop (m + n + k) (saved_text maker saved) ≡ end = sym (drop_drop (m + n) k (saved_text maker saved)) ∙ ap (drop k) after ∙ drop_at (added_text saved.added) end k (sym (added_sizes now.added saved.added make.added added)) in
    devices_same now (ap (restored_device now.root) behind ∙ device_back now.root saved.root (added_text saved.added ++ end) make.root root)
    (ap (restored_added now.added) after ∙ added_back now.added saved.added end make.added added)
    (ap (restored_devices now.subs) last ∙ devices_back now.subs saved.subs sum make.subs subs)

-- the values that are restored
pub values_back : (maker : ℕ) (now saved : Parameters) → IsWhole saved.root → AreTexts saved.added → AreWhole saved.subs → AreOfOneMake now saved → restored now (saved_text maker saved) ≡ taken now saved
unfolding restored
values_back maker now saved root added subs make = rw (says_back maker now saved make) (whole_back maker now saved root added subs make)
