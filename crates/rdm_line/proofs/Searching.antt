-- A line of devices, as a search sees it.
use Rattle.std.proofs.Common.{◌≡◌, ◌≢◌, ◌↔◌, ℕ, zero, suc, ◌+◌, ◌-◌, ◌^◌, ◌<◌, ◌≤◌, Bool, true, false, List, [], ◌∷◌, ◌++◌, length, get_or, map, Option, Some, None, refl, sym, ap, subst, ◌∙◌, inl, inr, ◌⊎◌, cond, arith}
use Rattle.std.specs.Prelude.{◌&&◌, ◌||◌, ◌==◌, not, max, fold, is_some, IsSome, AllPairs, All, Contains, slice_index, bit_or, if◌then◌else◌}
use Rattle.std.specs.Option.{option_to_list, option_and_then}
use Rattle.std.specs.Int.{w16, to_be_bytes}
use Rattle.std.proofs.lemmas.Bool.{cond-true, cond-false, false≢true, or_left, or_right, cases_Bool, both_ways}
use Rattle.std.proofs.lemmas.List.{length-append, get_or-append_right}
use Rattle.std.proofs.lemmas.Nat.{from_be_bytes-to_be_bytes_2, from_be_bytes-to_be_bytes_4}
use Rattle.std.proofs.lemmas.List.FromFn.{length-map-range_with_len}
use Rattle.std.proofs.lemmas.Slice.Eq.{bytes_eq-Decides}
use Rattle.rdm_frame.specs.declared.uid.Uid.{Uid}
use Rattle.rdm_frame.specs.declared.frame.Frame.{Frame}
use Rattle.rdm_frame.specs.Addressing.{is_addressed, is_broadcast, same_uid, all_devices}
use Rattle.rdm_frame.specs.Discovery.{branch_reply}
use Rattle.rdm_frame.specs.FrameText.{frame_text, head_slots, IsFrame, IsUid, uid_slots}
use Rattle.rdm_frame.specs.Reading.{frame_in, frame_of, uid_at}
use Rattle.rdm_frame.proofs.Texts.{frame_again}
use Rattle.rdm_search.specs.declared.request.Request.TheVariants.{UnMute, UniqueBranch, Mute}
use Rattle.rdm_search.specs.Line.{Fixture, IsDevice, IsCalled, IsHeard, calls, callers, uids, after_mute, after_un_mute}
use Rattle.rdm_search.specs.Requests.{request_frame}
use Rattle.rdm_responder.specs.History.{History, Heard, then_event}
use Rattle.rdm_responder.specs.Requests.{Request, Ignored, Branch, Muting, Set, discovery_of, get_of, request_of, request_in}
use Rattle.rdm_responder.specs.Rules.{Account, account_of, account_with, answer_to, is_between, is_muted, reply_of, Response, answer_with, binding_slots, mute_data}
use Rattle.rdm_params.specs.Device.Parameters.{Parameters}
use Rattle.rdm_search.specs.Answers.{mute_answer, is_mute_answer, found_in}
use Rattle.rdm_responder.proofs.Accounts.{account_of-then}
use Rattle.rdm_line.specs.declared.collision.Collision.{Collision}
use Rattle.rdm_line.specs.declared.collision.Collision.TheVariants.{AllBits, First, Rubbish}
use Rattle.rdm_line.specs.Collisions.{all_bits, collided, on_wire}
use Rattle.rdm_line.specs.Hearing.{answers, hears, heard_by}
use Rattle.rdm_line.specs.Line.{uids_of}
use Rattle.rdm_line.specs.Searching.{fixture_of, RequestsMute, RequestsAreHeard}
use Rattle.rdm_line.proofs.Collisions.{silent_all, no_answer, one_answers, broadcasts}
use Rattle.rdm_line.specs.Laws.{IsBranch}
use Rattle.rdm_line.proofs.Alone.{uid_decides, absent_deaf}
use Rattle.rdm_line.proofs.Unheard.{setup_of, heard_as, unchanged, uid_stays, deaf_silent, frame_read}

-- ---- a frame is read as itself

read_again : (f : Frame) → IsFrame f → frame_in (frame_text f) ≡ Some f
unfolding frame_in
read_again f fits =
    cond-true _ _ _ ((bytes_eq-Decides (frame_text f) (frame_text (frame_of (frame_text f)))).1 (ap frame_text (sym (frame_again f fits))))
    ∙ ap (λ (g : Frame). Some g) (frame_again f fits)

-- ---- the account after a request

account_then : (h : History) (f : Frame) → IsFrame f → account_of (then_event h (Heard (frame_text f))) ≡ account_with (account_of h) (request_of h.setup.uid f)
account_then h f fits =
    account_of-then h (Heard (frame_text f))
    ∙ ap (λ (o : Option Frame). account_with (account_of h) (request_in (account_of h).setup.uid o)) (read_again f fits)
    ∙ ap (λ (u : Uid). account_with (account_of h) (request_of u f)) (ap (λ s. s.uid) (setup_of h))

account_by : (h : History) (f : Frame) (b : Bool) → IsFrame f → hears h.setup.uid (frame_text f) ≡ b → account_of (heard_by (frame_text f) h) ≡ account_with (account_of h) (request_of h.setup.uid f)
account_by h f true fits e = ap account_of (heard_as h (frame_text f) true e) ∙ account_then h f fits
account_by h f false fits e = ap account_of (heard_as h (frame_text f) false e) ∙ sym (unchanged h (frame_text f) e) ∙ account_then h f fits

account_heard : (h : History) (f : Frame) → IsFrame f → account_of (heard_by (frame_text f) h) ≡ account_with (account_of h) (request_of h.setup.uid f)
account_heard h f fits = account_by h f (hears h.setup.uid (frame_text f)) fits refl

-- ---- what the requests are

all_addressed : (own : Uid) → is_addressed own all_devices ≡ true
all_addressed own = or_right (same_uid all_devices own) true refl

abbrev other_class : Frame → Request
other_class f = cond (f.class == 0x20) (get_of f) (cond (f.class == 0x30) (Set f) Ignored)

abbrev by_class : Frame → Request
by_class f = cond (f.class == 0x10) (discovery_of f) (other_class f)

discovered : (f : Frame) → f.class ≡ 0x10 → by_class f ≡ discovery_of f
discovered f c = cond-true (f.class == 0x10) (discovery_of f) (other_class f) (ap (λ (n : ℕ). n == 0x10) c)

to_all : (own : Uid) (f : Frame) → f.dst ≡ all_devices → f.class ≡ 0x10 → request_of own f ≡ discovery_of f
to_all own f d c = cond-true (is_addressed own f.dst) (by_class f) Ignored (ap (is_addressed own) d ∙ all_addressed own) ∙ discovered f c

un_mute_is : (source : Uid) (tn : ℕ) → discovery_of (request_frame source tn UnMute) ≡ Muting false (request_frame source tn UnMute)
unfolding discovery_of
un_mute_is source tn = refl

mute_is : (source : Uid) (tn : ℕ) (uid : Uid) → discovery_of (request_frame source tn (Mute uid)) ≡ Muting true (request_frame source tn (Mute uid))
unfolding discovery_of
mute_is source tn uid = refl

-- ---- the mute flags

last_is : (ms : List Bool) (b : Bool) → is_muted (ms ++ b ∷ []) ≡ b
last_is ms b =
    let n = length-append ms (b ∷ []) in
    let e : length (ms ++ b ∷ []) - 1 - length ms ≡ 0 = omega (arith, n) in
    get_or-append_right ms (b ∷ []) (length ms) (length (ms ++ b ∷ []) - 1) false refl (omega (arith, n)) ∙ ap (λ (k : ℕ). get_or (b ∷ []) k false) e

abbrev fixture : Uid → Bool → Fixture
fixture u b = record { uid = u; muted = b }

fixture_same : (u v : Uid) (a b : Bool) → u ≡ v → a ≡ b → fixture u a ≡ fixture v b
fixture_same u v a b e1 e2 = rw (e1, e2) refl

muted_after : (h : History) (f : Frame) (r : Request) → IsFrame f → request_of h.setup.uid f ≡ r → is_muted (account_of (heard_by (frame_text f) h)).mutings ≡ is_muted (account_with (account_of h) r).mutings
muted_after h f r fits e =
    ap (λ (a : Account). is_muted a.mutings) (account_heard h f fits) ∙ ap (λ (q : Request). is_muted (account_with (account_of h) q).mutings) e

same_uid_after : (h : History) (bytes : List ℕ) → (heard_by bytes h).setup.uid ≡ h.setup.uid
same_uid_after h bytes = uid_stays h bytes (hears h.setup.uid bytes) refl

un_muted : (source : Uid) (tn : ℕ) → IsFrame (request_frame source tn UnMute) → (h : History) → fixture_of (heard_by (frame_text (request_frame source tn UnMute)) h) ≡ after_un_mute (fixture_of h)
un_muted source tn fits h =
    let f = request_frame source tn UnMute in
    fixture_same _ h.setup.uid _ false (same_uid_after h (frame_text f))
    (muted_after h f (Muting false f) fits (to_all h.setup.uid f refl refl ∙ un_mute_is source tn) ∙ last_is (account_of h).mutings false)

branch_at : (source : Uid) (tn : ℕ) (low high : Uid) → discovery_of (request_frame source tn (UniqueBranch low high)) ≡ Branch (uid_at (uid_slots low ++ uid_slots high) 0) (uid_at (uid_slots low ++ uid_slots high) 6)
unfolding discovery_of
branch_at source tn low high = refl

branched : (source : Uid) (tn : ℕ) (low high : Uid) → IsFrame (request_frame source tn (UniqueBranch low high)) → (h : History) → fixture_of (heard_by (frame_text (request_frame source tn (UniqueBranch low high))) h) ≡ fixture_of h
branched source tn low high fits h =
    let f = request_frame source tn (UniqueBranch low high) in
    fixture_same _ h.setup.uid _ (is_muted (account_of h).mutings) (same_uid_after h (frame_text f))
    (muted_after h f (Branch (uid_at (uid_slots low ++ uid_slots high) 0) (uid_at (uid_slots low ++ uid_slots high) 6)) fits (to_all h.setup.uid f refl refl ∙ branch_at source tn low high))

or_false : (b : Bool) → b ≡ (b || false)
or_false true = refl
or_false false = refl

mute_by : (source : Uid) (tn : ℕ) (uid : Uid) (h : History) (b : Bool) → IsFrame (request_frame source tn (Mute uid)) → is_addressed h.setup.uid uid ≡ b → is_muted (account_of (heard_by (frame_text (request_frame source tn (Mute uid))) h)).mutings ≡ (is_muted (account_of h).mutings || b)
mute_by source tn uid h true fits e =
    let f = request_frame source tn (Mute uid) in
    muted_after h f (Muting true f) fits (cond-true (is_addressed h.setup.uid uid) (by_class f) Ignored e ∙ mute_is source tn uid)
    ∙ last_is (account_of h).mutings true ∙ sym (or_right (is_muted (account_of h).mutings) true refl)
mute_by source tn uid h false fits e =
    let f = request_frame source tn (Mute uid) in
    muted_after h f Ignored fits (cond-false (is_addressed h.setup.uid uid) (by_class f) Ignored e) ∙ or_false (is_muted (account_of h).mutings)

muted_one : (source : Uid) (tn : ℕ) (uid : Uid) → IsFrame (request_frame source tn (Mute uid)) → (h : History) → fixture_of (heard_by (frame_text (request_frame source tn (Mute uid))) h) ≡ after_mute uid (fixture_of h)
muted_one source tn uid fits h =
    let f = request_frame source tn (Mute uid) in
    fixture_same _ h.setup.uid _ (is_muted (account_of h).mutings || is_addressed h.setup.uid uid) (same_uid_after h (frame_text f)) (mute_by source tn uid h (is_addressed h.setup.uid uid) fits refl)

map_each : (g : History → History) (k : Fixture → Fixture) → ((h : History) → fixture_of (g h) ≡ k (fixture_of h)) → (hs : List History) → map fixture_of (map g hs) ≡ map k (map fixture_of hs)
map_each g k each [] = refl
map_each g k each (h ∷ hs) = rw (each h, map_each g k each hs) refl

map_same : (g : History → History) → ((h : History) → fixture_of (g h) ≡ fixture_of h) → (hs : List History) → map fixture_of (map g hs) ≡ map fixture_of hs
map_same g each [] = refl
map_same g each (h ∷ hs) = rw (each h, map_same g each hs) refl

pub requests_mute : RequestsMute
requests_mute hs UnMute source tn is fits = map_each (heard_by (frame_text (request_frame source tn UnMute))) after_un_mute (un_muted source tn fits) hs
requests_mute hs (UniqueBranch low high) source tn is fits = map_same (heard_by (frame_text (request_frame source tn (UniqueBranch low high)))) (branched source tn low high fits) hs
requests_mute hs (Mute uid) source tn is fits = map_each (heard_by (frame_text (request_frame source tn (Mute uid)))) (after_mute uid) (muted_one source tn uid fits) hs

-- ---- what is on the wire

reply_by : (h : History) (f : Frame) (r : Request) → IsFrame f → request_of h.setup.uid f ≡ r → reply_of h (frame_text f) ≡ answer_to (account_of h) r
reply_by h f r fits e =
    ap (λ (o : Option Frame). answer_to (account_of h) (request_in (account_of h).setup.uid o)) (read_again f fits)
    ∙ ap (λ (u : Uid). answer_to (account_of h) (request_of u f)) (ap (λ s. s.uid) (setup_of h)) ∙ ap (answer_to (account_of h)) e

un_mute_silent : (source : Uid) (tn : ℕ) → IsFrame (request_frame source tn UnMute) → (h : History) → reply_of h (frame_text (request_frame source tn UnMute)) ≡ None
un_mute_silent source tn fits h =
    let f = request_frame source tn UnMute in
    reply_by h f (Muting false f) fits (to_all h.setup.uid f refl refl ∙ un_mute_is source tn) ∙ no_answer _ f f _ _ refl refl

abbrev uid_ : ℕ → ℕ → Uid
uid_ m d = record { maker = m; device = d }

uid_same : (m m' d d' : ℕ) → m ≡ m' → d ≡ d' → uid_ m d ≡ uid_ m' d'
uid_same m m' d d' e1 e2 = rw (e1, e2) refl

low_at : (low high : Uid) → IsUid low → uid_at (uid_slots low ++ uid_slots high) 0 ≡ low
low_at low high fits = uid_same _ low.maker _ low.device (from_be_bytes-to_be_bytes_2 low.maker fits.maker) (from_be_bytes-to_be_bytes_4 low.device fits.device)

high_at : (low high : Uid) → IsUid high → uid_at (uid_slots low ++ uid_slots high) 6 ≡ high
high_at low high fits = uid_same _ high.maker _ high.device (from_be_bytes-to_be_bytes_2 high.maker fits.maker) (from_be_bytes-to_be_bytes_4 high.device fits.device)

abbrev pub Reply_ : Uid → Uid → History → Option (List ℕ)
Reply_ low high h = cond (calls low high (fixture_of h)) (Some (branch_reply h.setup.uid)) None

pub branch_reply_of : (source : Uid) (tn : ℕ) (low high : Uid) → IsUid low → IsUid high → IsFrame (request_frame source tn (UniqueBranch low high)) → (h : History) → reply_of h (frame_text (request_frame source tn (UniqueBranch low high))) ≡ Reply_ low high h
branch_reply_of source tn low high fit_low fit_high fits h =
    let f = request_frame source tn (UniqueBranch low high) in
    reply_by h f _ fits (to_all h.setup.uid f refl refl ∙ branch_at source tn low high)
    ∙ ap (λ (u : Uid). answer_to (account_of h) (Branch u (uid_at (uid_slots low ++ uid_slots high) 6))) (low_at low high fit_low)
    ∙ ap (λ (u : Uid). answer_to (account_of h) (Branch low u)) (high_at low high fit_high)
    ∙ ap (λ (u : Uid). cond (not (is_muted (account_of h).mutings) && is_between low u high) (Some (branch_reply u)) None) (ap (λ s. s.uid) (setup_of h))

called_by : (low high : Uid) (h : History) (hs : List History) (bytes : List ℕ) (b : Bool) → calls low high (fixture_of h) ≡ b → reply_of h bytes ≡ Reply_ low high h → answers bytes hs ≡ map branch_reply (callers low high (map fixture_of hs)) → answers bytes (h ∷ hs) ≡ map branch_reply (callers low high (map fixture_of (h ∷ hs)))
called_by low high h hs bytes true t e rest =
    ap (λ (o : Option (List ℕ)). option_to_list o ++ answers bytes hs) (e ∙ cond-true _ _ _ t)
    ∙ ap (λ (xs : List (List ℕ)). branch_reply h.setup.uid ∷ xs) rest
    ∙ ap (λ (fs : List Fixture). map branch_reply (uids fs)) (sym (cond-true (calls low high (fixture_of h)) _ _ t))
called_by low high h hs bytes false t e rest =
    ap (λ (o : Option (List ℕ)). option_to_list o ++ answers bytes hs) (e ∙ cond-false _ _ _ t)
    ∙ rest
    ∙ ap (λ (fs : List Fixture). map branch_reply (uids fs)) (sym (cond-false (calls low high (fixture_of h)) _ _ t))

pub branch_answers : (low high : Uid) (bytes : List ℕ) → ((h : History) → reply_of h bytes ≡ Reply_ low high h) → (hs : List History) → answers bytes hs ≡ map branch_reply (callers low high (map fixture_of hs))
branch_answers low high bytes each [] = refl
branch_answers low high bytes each (h ∷ hs) = called_by low high h hs bytes (calls low high (fixture_of h)) refl (each h) (branch_answers low high bytes each hs)

has_bytes : (u : Uid) → length (branch_reply u) ≡ 24
unfolding branch_reply
has_bytes u = refl

bits_long : (xs ys : List ℕ) → length xs ≤ length (all_bits xs ys)
bits_long xs ys =
    let n = length-map-range_with_len (λ i. bit_or (slice_index xs i) (slice_index ys i)) 0 (max (length xs) (length ys)) in
    omega (arith, n)

all_long : (first : List ℕ) (others : List (List ℕ)) → length first ≤ length (fold all_bits first others)
all_long first [] = omega arith
all_long first (x ∷ others) = (let one = bits_long first x in let rest = all_long (all_bits first x) others in omega (arith, one, rest))

collided_sounds : (rule : Collision) (first : List ℕ) (others : List (List ℕ)) → 1 ≤ length first → collided rule first others ≢ []
collided_sounds AllBits first others some e = (let n = all_long first others in let z = ap (length {A = ℕ}) e in omega (arith, n, z, some))
collided_sounds First first others some e = (let z = ap (length {A = ℕ}) e in omega (arith, z, some))
collided_sounds (Rubbish seed) first others some e = (let z : 24 ≡ 0 = ap (length {A = ℕ}) e in omega (arith, z))

pub called : (rule : Collision) (us : List Uid) → IsCalled us (on_wire rule [] (map branch_reply us)).1
called rule [] = refl
called rule (u ∷ []) = (0, omega arith, refl)
called rule (u ∷ (v ∷ us)) = (let n = has_bytes u in collided_sounds rule (branch_reply u) (branch_reply v ∷ map branch_reply us) (omega (arith, n)))

pub un_mutes_are_heard : (hs : List History) (rule : Collision) (source : Uid) (tn : ℕ) → IsFrame (request_frame source tn UnMute) → (on_wire rule [] (answers (frame_text (request_frame source tn UnMute)) hs)).1 ≡ []
un_mutes_are_heard hs rule source tn fits = ap (λ (xs : List (List ℕ)). (on_wire rule [] xs).1) (silent_all hs (frame_text (request_frame source tn UnMute)) (un_mute_silent source tn fits))

pub branches_are_heard : (hs : List History) (rule : Collision) (source : Uid) (tn : ℕ) (low high : Uid) → IsUid low → IsUid high → IsFrame (request_frame source tn (UniqueBranch low high)) → IsCalled (callers low high (map fixture_of hs)) (on_wire rule [] (answers (frame_text (request_frame source tn (UniqueBranch low high))) hs)).1
branches_are_heard hs rule source tn low high fit_low fit_high fits =
    subst (λ (xs : List (List ℕ)). IsCalled (callers low high (map fixture_of hs)) (on_wire rule [] xs).1)
    (sym (branch_answers low high (frame_text (request_frame source tn (UniqueBranch low high))) (branch_reply_of source tn low high fit_low fit_high fits) hs))
    (called rule (callers low high (map fixture_of hs)))

-- ---- the answer to a mute

some_same : (f g : Frame) → Some f ≡ Some g → f ≡ g
some_same f g e = cc

-- the response of a device that tells this
abbrev answer_frame : Uid → Uid → ℕ → List ℕ → Frame
answer_frame own source tn body = record { dst = source; src = own; tn = tn; port = 0; count = 0; sub = 0; class = 0x11; pid = 0x0002; body = body }

answer_by : (own : Uid) (f : Frame) (count : ℕ) (r : Response) → is_broadcast f.dst ≡ false → answer_with own f count r ≡ Some (frame_text (record { dst = f.src; src = own; tn = f.tn; port = r.port; count = count; sub = r.sub; class = r.class; pid = r.pid; body = r.body }))
unfolding answer_with
answer_by own f count r single = cond-false (is_broadcast f.dst) _ _ single

-- two slots or eight, each of which is a byte
told_bytes : (field : ℕ) (binding : Option Uid) (i : ℕ) → slice_index (to_be_bytes w16 field ++ binding_slots binding) i < 2 ^ 8
told_bytes field binding zero = omega arith
told_bytes field binding (suc zero) = omega arith
told_bytes field None (suc (suc i)) = omega arith
told_bytes field (Some uid) (suc (suc zero)) = omega arith
told_bytes field (Some uid) (suc (suc (suc zero))) = omega arith
told_bytes field (Some uid) (suc (suc (suc (suc zero)))) = omega arith
told_bytes field (Some uid) (suc (suc (suc (suc (suc zero))))) = omega arith
told_bytes field (Some uid) (suc (suc (suc (suc (suc (suc zero)))))) = omega arith
told_bytes field (Some uid) (suc (suc (suc (suc (suc (suc (suc zero))))))) = omega arith
told_bytes field (Some uid) (suc (suc (suc (suc (suc (suc (suc (suc i)))))))) = omega arith

told_long : (field : ℕ) (binding : Option Uid) → length (to_be_bytes w16 field ++ binding_slots binding) ≤ 8
told_long field None = omega arith
told_long field (Some uid) = omega arith

-- the number of the control field
abbrev field_of : Parameters → ℕ
field_of p =
    (if length p.subs == 0 then 0 else 0x0002)
    + (if p.profile.particulars.mute_reply.boot_loader then 0x0004 else 0)
    + (if p.profile.particulars.mute_reply.proxied_device then 0x0008 else 0)

mute_bytes : (p : Parameters) (i : ℕ) → slice_index (mute_data p) i < 2 ^ 8
mute_bytes p i = told_bytes (field_of p) p.profile.particulars.mute_reply.binding i

mute_long : (p : Parameters) → length (mute_data p) ≤ 231
mute_long p = (let few = told_long (field_of p) p.profile.particulars.mute_reply.binding in omega (arith, few))

answer_fits : (own source : Uid) (tn : ℕ) (p : Parameters) → IsUid own → IsUid source → tn < 2 ^ 8 → IsFrame (answer_frame own source tn (mute_data p))
answer_fits own source tn p fits fits' small = record {
  dst = fits';
  src = fits;
  tn = small;
  port = omega arith;
  count = omega arith;
  sub = omega arith;
  class = omega arith;
  pid = omega arith;
  body = mute_long p;
  data_slots = mute_bytes p;
}

own_answer : (u : Uid) (source : Uid) (tn : ℕ) (body : List ℕ) → IsFrame (answer_frame u source tn body) → IsSome (mute_answer u (frame_text (answer_frame u source tn body)))
own_answer u source tn body fits =
    let f = answer_frame u source tn body in
    ap (λ (o : Option Frame). is_some (option_and_then (λ g. if is_mute_answer u g then Some (found_in g) else None) o)) (read_again f fits)
    ∙ ap (λ o. is_some o) (cond-true (is_mute_answer u f) _ _ ((uid_decides u u).1 refl))

-- what the device that is muted answers
mute_reply : (source : Uid) (tn : ℕ) (uid : Uid) → IsFrame (request_frame source tn (Mute uid)) → is_broadcast uid ≡ false → (h : History) → h.setup.uid ≡ uid → reply_of h (frame_text (request_frame source tn (Mute uid))) ≡ Some (frame_text (answer_frame uid source tn (mute_data (account_of h).parameters)))
mute_reply source tn uid fits single h own =
    let f = request_frame source tn (Mute uid) in
    let addressed : is_addressed h.setup.uid uid ≡ true = or_left (same_uid uid h.setup.uid) _ ((uid_decides uid h.setup.uid).1 (sym own)) in
    reply_by h f (Muting true f) fits (cond-true (is_addressed h.setup.uid uid) (by_class f) Ignored addressed ∙ mute_is source tn uid)
    ∙ answer_by (account_of h).setup.uid f 0 _ single
    ∙ ap (λ (u : Uid). Some (frame_text (answer_frame u source tn (mute_data (account_of h).parameters)))) (ap (λ s. s.uid) (setup_of h) ∙ own)

silent : frame_in [] ≡ None
unfolding frame_in frame_text head_slots
silent = refl

no_mute_answer : (u : Uid) → mute_answer u [] ≡ None
no_mute_answer u = rw silent refl

uids_same : (hs : List History) → uids (map fixture_of hs) ≡ uids_of hs
uids_same [] = refl
uids_same (h ∷ hs) = ap (λ (us : List Uid). h.setup.uid ∷ us) (uids_same hs)

not_branch : (source : Uid) (tn : ℕ) (uid : Uid) → IsFrame (request_frame source tn (Mute uid)) → IsBranch (frame_text (request_frame source tn (Mute uid))) → ⊥
not_branch source tn uid fits is =
    let f = request_frame source tn (Mute uid) in
    let same : f ≡ is.0 = some_same f is.0 (sym (read_again f fits) ∙ is.1) in
    let pid : 2 ≡ 1 = ap (λ (g : Frame). g.pid) same ∙ is.3 in
    omega (arith, pid)

not_either : (v : Uid) (us : List Uid) (u : Uid) → same_uid v u ≡ false → (Contains us u → ⊥) → Contains (v ∷ us) u → ⊥
not_either v us u other gone (zero, lt, e) = both_ways (same_uid v u) other ((uid_decides v u).1 e)
not_either v us u other gone (suc k, lt, e) = gone (k, omega (arith, lt), e)

-- the device that has a UID
owner : (hs : List History) (u : Uid) (k : ℕ) → k < length (uids_of hs) → get_or (uids_of hs) k u ≡ u → (h : History) × Contains hs h × (h.setup.uid ≡ u)
owner [] u k lt e = absurd (omega (arith, lt))
owner (h ∷ hs) u zero lt e = (h, (0, omega arith, refl), e)
owner (h ∷ hs) u (suc k) lt e = (let rest = owner hs u k (omega (arith, lt)) e in (rest.0, (suc rest.1.0, omega (arith, rest.1.1), rest.1.2), rest.2))

mute_there : (hs : List History) (rule : Collision) (source : Uid) (tn : ℕ) (uid : Uid) → AllPairs (λ u v. u ≢ v) (uids_of hs) → IsFrame (request_frame source tn (Mute uid)) → IsDevice uid → (h : History) → Contains hs h → h.setup.uid ≡ uid → IsSome (mute_answer uid (on_wire rule [] (answers (frame_text (request_frame source tn (Mute uid))) hs)).1)
mute_there hs rule source tn uid apart fits device h there own =
    let f = request_frame source tn (Mute uid) in
    let a = answer_frame uid source tn (mute_data (account_of h).parameters) in
    let one = one_answers hs h (frame_text f) f apart there (read_again f fits) device.one own
    ∙ ap (λ (o : Option (List ℕ)). option_to_list o) (mute_reply source tn uid fits device.one h own) in
    subst (λ (xs : List (List ℕ)). IsSome (mute_answer uid (on_wire rule [] xs).1)) (sym one)
    (own_answer uid source tn (mute_data (account_of h).parameters) (answer_fits uid source tn (account_of h).parameters device.fits fits.src fits.tn))

is_device : (us : List Uid) (u : Uid) → All (λ v. IsDevice v) us → Contains us u → IsDevice u
is_device us u all there = subst IsDevice there.2 (all there.0 u there.1)

text_dst : (f : Frame) → IsFrame f → f.dst ≡ uid_at (frame_text f) 3
text_dst f fits = (frame_read (frame_text f) f (read_again f fits)).dst

mute_silent : (hs : List History) (source : Uid) (tn : ℕ) (uid : Uid) → IsFrame (request_frame source tn (Mute uid)) → (Contains (uids_of hs) uid → ⊥) → answers (frame_text (request_frame source tn (Mute uid))) hs ≡ []
mute_silent hs source tn uid fits gone =
    let f = request_frame source tn (Mute uid) in
    elim (cases_Bool (is_broadcast uid)) [
      | inl all ↦ broadcasts hs (frame_text f) f (read_again f fits) all (not_branch source tn uid fits)
      | inr single ↦ deaf_silent (frame_text f) hs (absent_deaf (frame_text f) hs (uids_of hs) uid refl (text_dst f fits) single gone)
    ]

mute_absent : (hs : List History) (rule : Collision) (source : Uid) (tn : ℕ) (uid : Uid) → IsFrame (request_frame source tn (Mute uid)) → (Contains (uids_of hs) uid → ⊥) → (on_wire rule [] (answers (frame_text (request_frame source tn (Mute uid))) hs)).1 ≡ []
mute_absent hs rule source tn uid fits gone = ap (λ (xs : List (List ℕ)). (on_wire rule [] xs).1) (mute_silent hs source tn uid fits gone)

nobody_answers : (hs : List History) (rule : Collision) (source : Uid) (tn : ℕ) (uid : Uid) → IsFrame (request_frame source tn (Mute uid)) → (Contains (uids_of hs) uid → ⊥) → IsSome (mute_answer uid (on_wire rule [] (answers (frame_text (request_frame source tn (Mute uid))) hs)).1) → ⊥
nobody_answers hs rule source tn uid fits gone some =
    false≢true (sym (ap (λ (xs : List ℕ). is_some (mute_answer uid xs)) (mute_absent hs rule source tn uid fits gone) ∙ ap (λ o. is_some o) (no_mute_answer uid)) ∙ some)

pub there_or_not : (us : List Uid) (u : Uid) → Contains us u ⊎ (Contains us u → ⊥)
there_or_not [] u = inr (λ h. omega (arith, h.1))
there_or_not (v ∷ us) u =
    elim (cases_Bool (same_uid v u)) [
      | inl same ↦ inl (0, omega arith, (uid_decides v u).0 same)
      | inr other ↦ elim (there_or_not us u) [ inl h ↦ inl (suc h.0, omega (arith, h.1), h.2) | inr gone ↦ inr (not_either v us u other gone) ]
    ]

owned_mute : (hs : List History) (rule : Collision) (source : Uid) (tn : ℕ) (uid : Uid) → All (λ u. IsDevice u) (uids_of hs) → AllPairs (λ u v. u ≢ v) (uids_of hs) → IsFrame (request_frame source tn (Mute uid)) → Contains (uids_of hs) uid → IsSome (mute_answer uid (on_wire rule [] (answers (frame_text (request_frame source tn (Mute uid))) hs)).1)
owned_mute hs rule source tn uid devices apart fits here =
    let o = owner hs uid here.0 here.1 here.2 in
    mute_there hs rule source tn uid apart fits (is_device (uids_of hs) uid devices here) o.0 o.1 o.2

pub mutes_are_heard : (hs : List History) (rule : Collision) (source : Uid) (tn : ℕ) (uid : Uid) → All (λ u. IsDevice u) (uids_of hs) → AllPairs (λ u v. u ≢ v) (uids_of hs) → IsFrame (request_frame source tn (Mute uid)) → IsHeard (Mute uid) (map fixture_of hs) (on_wire rule [] (answers (frame_text (request_frame source tn (Mute uid))) hs)).1
mutes_are_heard hs rule source tn uid devices apart fits = (
  (
    λ some. subst (λ (us : List Uid). Contains us uid) (sym (uids_same hs)) (elim (there_or_not (uids_of hs) uid) [ inl there ↦ there | inr gone ↦ absurd (nobody_answers hs rule source tn uid fits gone some) ]),
    λ there. owned_mute hs rule source tn uid devices apart fits (subst (λ (us : List Uid). Contains us uid) (uids_same hs) there),
  ),
  λ sounds.
      elim (there_or_not (uids_of hs) uid) [
        | inl there ↦ owned_mute hs rule source tn uid devices apart fits there
        | inr gone ↦ absurd (sounds (mute_absent hs rule source tn uid fits gone))
      ],
)

pub requests_are_heard : RequestsAreHeard
requests_are_heard hs rule UnMute source tn devices apart is fits = un_mutes_are_heard hs rule source tn fits
requests_are_heard hs rule (UniqueBranch low high) source tn devices apart is fits = branches_are_heard hs rule source tn low high is.0 is.1 fits
requests_are_heard hs rule (Mute uid) source tn devices apart is fits = mutes_are_heard hs rule source tn uid devices apart fits
