-- What a fixture replies is never judged wrong.
use Rattle.std.proofs.Common.{◌≡◌, ℕ, Bool, true, false, not, cond, ◌==◌, ◌&&◌, ◌||◌, ◌+◌, ◌++◌, List, length, Option, Some, None, inl, inr, refl, sym, ap, subst, ◌∙◌}
use Rattle.std.proofs.lemmas.Slice.Eq.{bytes_eq-Decides}
use Rattle.std.specs.Int.{w16, to_be_bytes}
use Rattle.std.specs.Str.{bytes_eq}
use Rattle.rdm_frame.specs.declared.uid.Uid.{Uid}
use Rattle.rdm_frame.specs.declared.frame.Frame.{Frame}
use Rattle.rdm_frame.specs.Addressing.{is_broadcast}
use Rattle.rdm_frame.specs.Discovery.{branch_reply}
use Rattle.rdm_frame.specs.FrameText.{frame_text}
use Rattle.rdm_frame.specs.Reading.{frame_in, frame_of}
use Rattle.rdm_profile.specs.declared.profile.Profile.{Profile}
use Rattle.rdm_commands.specs.declared.verdict.Verdict.{Verdict as Answer}
use Rattle.rdm_commands.specs.declared.verdict.Verdict.TheVariants.{Reply, Start, Queue, Status, Clear, Refuse}
use Rattle.rdm_outbox.specs.Account as outbox
use Rattle.rdm_outbox.specs.Jobs.{has_room}
use Rattle.rdm_commands.specs.declared.jobs.work.Work.{Work}
use Rattle.rdm_params.specs.Commands.Commands.{answer_to_set, got}
use Rattle.rdm_params.specs.Device.Parameters.{Parameters}
use Rattle.rdm_params.specs.Jobs.Laws.{SameDevices}
use Rattle.rdm_params.proofs.Fetches.{get_queues, get_statuses, set_fetches_nothing}
use Rattle.rdm_responder.specs.Requests.{Request, Ignored, Branch, Muting, Get, Set, request_in, request_of}
use Rattle.rdm_responder.specs.Rules.{Account, Response, account_of, ack, answer_to, answer_with, binding_slots, is_between, is_muted, message_count, mute_data, outbox_after, reply_with, response_of}
use Rattle.rdm_judge.specs.declared.asked.Asked.TheVariants as asking
use Rattle.rdm_judge.specs.declared.verdict.Verdict.{Verdict}
use Rattle.rdm_judge.specs.declared.verdict.Verdict.TheVariants.{Right}
use Rattle.rdm_judge.specs.Judging.{NeverWrong, asked_with, broken, fetches, is_wrong, judged, on_frames, on_other, verdict_beside}
use Rattle.rdm_judge.proofs.RequestFacts.{Facts, request_is}
use Rattle.rdm_judge.proofs.Fixtures.{same_devices, setup_stays}
use Rattle.rdm_judge.proofs.Answers.{Alike, get_alike, kind_of, set_alike}
use Rattle.rdm_judge.proofs.Responses.{Heads, frame_for, never_broken}

-- ---- replies that are equal

bytes_self : (t : List ℕ) → bytes_eq t t ≡ true
bytes_self t = (bytes_eq-Decides t t).1 refl

same_reply : (own : Uid) (found : Option Frame) (reply : Option (List ℕ)) → is_wrong (verdict_beside own found reply reply) ≡ false
same_reply own found None = refl
same_reply own found (Some t) = rw (bytes_self t) refl

unless_right : (same : Bool) (v : Verdict) → is_wrong v ≡ false → is_wrong (cond same Right v) ≡ false
unless_right true v e = refl
unless_right false v e = e

-- ---- DISC_UNIQUE_BRANCH

on_branches : (own : Uid) (f : Frame) (lower upper : Uid) (t : List ℕ) → t ≡ branch_reply own → is_between lower own upper ≡ true → asked_with (request_of own f) ≡ asking.Branch lower upper → is_wrong (on_other own (Some f) None t) ≡ false
on_branches own f lower upper t is within e =
    rw (e, within, (bytes_eq-Decides t (branch_reply own)).1 is) refl

branch_at : (own : Uid) (f : Frame) (lower upper : Uid) (first second within : Bool) → is_between lower own upper ≡ within → asked_with (request_of own f) ≡ asking.Branch lower upper → is_wrong (verdict_beside own (Some f) (cond (not first && within) (Some (branch_reply own)) None) (cond (not second && within) (Some (branch_reply own)) None)) ≡ false
branch_at own f lower upper true true within b e = refl
branch_at own f lower upper true false true b e = on_branches own f lower upper (branch_reply own) refl b e
branch_at own f lower upper true false false b e = refl
branch_at own f lower upper false true true b e = refl
branch_at own f lower upper false true false b e = refl
branch_at own f lower upper false false true b e = same_reply own (Some f) (Some (branch_reply own))
branch_at own f lower upper false false false b e = refl

-- ---- GET and SET

frames_at : (f : Frame) (x y : List ℕ) (first second : Bool) → broken f (frame_of x) (frame_of y) ≡ None → is_wrong (on_frames f (cond first (Some (frame_of x)) None) (cond second (Some (frame_of y)) None)) ≡ false
frames_at f x y true true e = rw e refl
frames_at f x y true false e = refl
frames_at f x y false true e = refl
frames_at f x y false false e = refl

frames_are_open : (f : Frame) (x y : List ℕ) → broken f (frame_of x) (frame_of y) ≡ None → is_wrong (on_frames f (frame_in x) (frame_in y)) ≡ false
unfolding frame_in
frames_are_open f x y e = frames_at f x y (bytes_eq x (frame_text (frame_of x))) (bytes_eq y (frame_text (frame_of y))) e

command_at : (own : Uid) (f : Frame) (x y : List ℕ) (silent : Bool) → asked_with (request_of own f) ≡ asking.Command → broken f (frame_of x) (frame_of y) ≡ None → is_wrong (verdict_beside own (Some f) (cond silent None (Some x)) (cond silent None (Some y))) ≡ false
command_at own f x y true e none = refl
command_at own f x y false e none = unless_right (bytes_eq y x) (on_other own (Some f) (Some x) y) (rw e (frames_are_open f x y none))

-- the two responses to a command
answers_at : (own : Uid) (f : Frame) (p : Profile) (b c : outbox.Account) (v w : Answer) (count other : ℕ) → asked_with (request_of own f) ≡ asking.Command → Alike f (kind_of v) (kind_of w) → Heads f (response_of p b f v) → Heads f (response_of p c f w) → is_wrong (verdict_beside own (Some f) (answer_with own f count (response_of p b f v)) (answer_with own f other (response_of p c f w))) ≡ false
unfolding answer_with
answers_at own f p b c v w count other e alike h k =
    command_at own f (frame_text (frame_for own f count (response_of p b f v))) (frame_text (frame_for own f other (response_of p c f w))) (is_broadcast f.dst) e (never_broken p own f b c v w count other alike h k)

-- ---- the parameter of a response

own_parameter : (f : Frame) (r : Response) → r.sub ≡ f.sub → r.class ≡ f.class + 1 → r.pid ≡ f.pid → Heads f r
own_parameter f r sub class pid = inr (sub, class, pid)

fetched : (f : Frame) (pid : ℕ) → (f.class == 0x20) ≡ true → f.pid ≡ pid → ((pid == 0x0020) || (pid == 0x0030)) ≡ true → fetches f ≡ true
fetched f pid class e either = rw (class, e) either

start_heads : (p : Profile) (b : outbox.Account) (f : Frame) (w : Work) (room : Bool) → has_room b w ≡ room → Heads f (response_of p b f (Start w))
start_heads p b f w true room = rw room (inr (refl, refl, refl))
start_heads p b f w false room = rw room (inr (refl, refl, refl))

pub get_heads : (p : Profile) (b : outbox.Account) (d : Parameters) (f : Frame) (v : Answer) → (f.class == 0x20) ≡ true → got d f.sub f.pid f.body ≡ v → Heads f (response_of p b f v)
get_heads p b d f (Reply bytes) class e = inr (refl, refl, refl)
get_heads p b d f (Start w) class e = start_heads p b f w (has_room b w) refl
get_heads p b d f (Queue ask) class e = inl (fetched f 0x0020 class (get_queues d f.sub f.pid f.body ask e).0 refl)
get_heads p b d f (Status ask) class e = inl (fetched f 0x0030 class (get_statuses d f.sub f.pid f.body ask e) refl)
get_heads p b d f Clear class e = inr (refl, refl, refl)
get_heads p b d f (Refuse n) class e = inr (refl, refl, refl)

pub set_heads : (p : Profile) (b : outbox.Account) (d : Parameters) (f : Frame) (v : Answer) → answer_to_set d f.sub f.pid f.body ≡ v → Heads f (response_of p b f v)
set_heads p b d f (Reply bytes) e = inr (refl, refl, refl)
set_heads p b d f (Start w) e = start_heads p b f w (has_room b w) refl
set_heads p b d f (Queue ask) e = absurd ((set_fetches_nothing d f.sub f.pid f.body ask).0 e)
set_heads p b d f (Status ask) e = absurd ((set_fetches_nothing d f.sub f.pid f.body ask).1 e)
set_heads p b d f Clear e = inr (refl, refl, refl)
set_heads p b d f (Refuse n) e = inr (refl, refl, refl)

-- ---- two accounts of one fixture

-- the account with this UID and this profile, whose are equal to its own
record Twins (own : Uid) (profile : Profile) (a c : Account) : Type 0 where
  first_uid : a.setup.uid ≡ own
  second_uid : c.setup.uid ≡ own
  first_profile : a.parameters.profile ≡ profile
  second_profile : c.parameters.profile ≡ profile
  devices : SameDevices a.parameters c.parameters

abbrev pub as_own : Uid → Profile → Account → Request → Option (List ℕ)
as_own own profile a Ignored = None
as_own own profile a (Branch lower upper) = cond (not (is_muted a.mutings) && is_between lower own upper) (Some (branch_reply own)) None
as_own own profile a (Muting muted f) = answer_with own f 0 (ack f (mute_data a.parameters))
as_own own profile a (Get f) = reply_with own profile a.outbox f (got a.parameters f.sub f.pid f.body)
as_own own profile a (Set f) = reply_with own profile a.outbox f (answer_to_set a.parameters f.sub f.pid f.body)

pub is_own : (own : Uid) (profile : Profile) (a : Account) (r : Request) → a.setup.uid ≡ own → a.parameters.profile ≡ profile → answer_to a r ≡ as_own own profile a r
is_own own profile a Ignored u p = refl
is_own own profile a (Branch lower upper) u p = ap (λ (x : Uid). as_own x profile a (Branch lower upper)) u
is_own own profile a (Muting muted f) u p = ap (λ (x : Uid). as_own x profile a (Muting muted f)) u
is_own own profile a (Get f) u p = ap (λ (x : Uid). as_own x a.parameters.profile a (Get f)) u ∙ ap (λ (x : Profile). as_own own x a (Get f)) p
is_own own profile a (Set f) u p = ap (λ (x : Uid). as_own x a.parameters.profile a (Set f)) u ∙ ap (λ (x : Profile). as_own own x a (Set f)) p

-- what is told of so many sub-devices, and of a profile
abbrev told_of : ℕ → Profile → List ℕ
told_of subs p =
    to_be_bytes w16 (cond (subs == 0) 0 0x0002 + cond p.particulars.mute_reply.boot_loader 0x0004 0 + cond p.particulars.mute_reply.proxied_device 0x0008 0)
    ++ binding_slots p.particulars.mute_reply.binding

told_alike : (p q : Parameters) → SameDevices p q → mute_data q ≡ mute_data p
told_alike p q same = ap (λ (n : ℕ). told_of n q.profile) same.subs ∙ ap (λ (x : Profile). told_of (length p.subs) x) same.profile

at_request : (own : Uid) (profile : Profile) (a c : Account) (f : Frame) (r : Request) → request_of own f ≡ r → Facts f r → SameDevices a.parameters c.parameters → is_wrong (verdict_beside own (Some f) (as_own own profile a r) (as_own own profile c r)) ≡ false
at_request own profile a c f Ignored e facts same = refl
at_request own profile a c f (Branch lower upper) e facts same = branch_at own f lower upper (is_muted a.mutings) (is_muted c.mutings) (is_between lower own upper) refl (ap asked_with e)
at_request own profile a c f (Muting muted g) e facts same =
    subst (λ (slots : List ℕ). is_wrong (verdict_beside own (Some f) (answer_with own g 0 (ack g (mute_data a.parameters))) (answer_with own g 0 (ack g slots))) ≡ false) (sym (told_alike a.parameters c.parameters same))
    (same_reply own (Some f) (answer_with own g 0 (ack g (mute_data a.parameters))))
at_request own profile a c f (Get g) e facts same =
    subst (λ (x : Frame). is_wrong (verdict_beside own (Some f) (as_own own profile a (Get x)) (as_own own profile c (Get x))) ≡ false) (sym facts.0)
    (let v = got a.parameters f.sub f.pid f.body in
    let w = got c.parameters f.sub f.pid f.body in
    answers_at own f profile a.outbox c.outbox v w (message_count (outbox_after a.outbox v)) (message_count (outbox_after c.outbox w)) (ap asked_with e) (get_alike f a.parameters c.parameters f.sub f.pid f.body same)
    (get_heads profile a.outbox a.parameters f v facts.1 refl) (get_heads profile c.outbox c.parameters f w facts.1 refl))
at_request own profile a c f (Set g) e facts same =
    subst (λ (x : Frame). is_wrong (verdict_beside own (Some f) (as_own own profile a (Set x)) (as_own own profile c (Set x))) ≡ false) (sym facts.0)
    (let v = answer_to_set a.parameters f.sub f.pid f.body in
    let w = answer_to_set c.parameters f.sub f.pid f.body in
    answers_at own f profile a.outbox c.outbox v w (message_count (outbox_after a.outbox v)) (message_count (outbox_after c.outbox w)) (ap asked_with e) (set_alike f a.parameters c.parameters f.pid f.body facts.1 same)
    (set_heads profile a.outbox a.parameters f v refl) (set_heads profile c.outbox c.parameters f w refl))

in_request : (own : Uid) (profile : Profile) (a c : Account) (found : Option Frame) → SameDevices a.parameters c.parameters → is_wrong (verdict_beside own found (as_own own profile a (request_in own found)) (as_own own profile c (request_in own found))) ≡ false
in_request own profile a c None same = refl
in_request own profile a c (Some f) same = at_request own profile a c f (request_of own f) refl (request_is own f) same

both_own : (own : Uid) (profile : Profile) (a c : Account) (found : Option Frame) → Twins own profile a c → is_wrong (verdict_beside own found (answer_to a (request_in a.setup.uid found)) (answer_to c (request_in c.setup.uid found))) ≡ false
both_own own profile a c found twins =
    let first = ap (λ (u : Uid). answer_to a (request_in u found)) twins.first_uid ∙ is_own own profile a (request_in own found) twins.first_uid twins.first_profile in
    let second = ap (λ (u : Uid). answer_to c (request_in u found)) twins.second_uid ∙ is_own own profile c (request_in own found) twins.second_uid twins.second_profile in
    subst (λ (x : Option (List ℕ)). is_wrong (verdict_beside own found x (answer_to c (request_in c.setup.uid found))) ≡ false) (sym first)
    (subst (λ (y : Option (List ℕ)). is_wrong (verdict_beside own found (as_own own profile a (request_in own found)) y) ≡ false) (sym second) (in_request own profile a c found twins.devices))

pub never_wrong : NeverWrong
unfolding judged
never_wrong h k bytes one =
    let same = same_devices h k one in
    both_own h.setup.uid (account_of h).parameters.profile (account_of h) (account_of k) (frame_in bytes) (record {
      first_uid = ap (λ s. s.uid) (setup_stays h);
      second_uid = ap (λ s. s.uid) (setup_stays k) ∙ one.uid;
      first_profile = refl;
      second_profile = same.profile;
      devices = same;
    })
