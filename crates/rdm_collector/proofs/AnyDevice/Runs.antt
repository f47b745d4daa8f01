-- Against any device what is recorded is what it dispensed, and answers go on.
use Rattle.std.proofs.Common.{◌≡◌, ◌≢◌, ℕ, ◌+◌, ◌%◌, ◌==◌, ◌||◌, Bool, true, false, cond, List, [], ◌∷◌, ◌++◌, map, Option, Some, None, refl, sym, ap, subst, ◌∙◌, true≢false, inl, inr, append_assoc}
use Rattle.std.specs.List.{fold}
use Rattle.std.proofs.lemmas.List.{append-nil, map-append}
use Rattle.rdm_frame.specs.declared.frame.Frame.{Frame}
use Rattle.rdm_collector.specs.declared.reply.Response.{Response}
use Rattle.rdm_collector.specs.declared.want.Want.{Want}
use Rattle.rdm_collector.specs.declared.want.Want.TheVariants.{Advisory, Warning, Error}
use Rattle.rdm_collector.specs.declared.any_device.heard.DeviceHeard.{DeviceHeard}
use Rattle.rdm_collector.specs.declared.any_device.heard.DeviceHeard.TheVariants as heard
use Rattle.rdm_collector.specs.declared.any_device.collected.Collected.{Collected}
use Rattle.rdm_collector.specs.Requests.{type_of, request_of, queued_message}
use Rattle.rdm_collector.specs.AnyDevice.Answers.{poll_heard}
use Rattle.rdm_collector.specs.AnyDevice.Collecting.{DeviceState, after_ask, after_poll, after_over, after_answer, after_hearing, collected}
use Rattle.rdm_collector.specs.AnyDevice.Devices.{Device, Event, IsNext, IsRun, MayDecline, MayGive, after, after_all, after_giving, asks_again, device_after, dispensed, dispensed_by, is_kept, poll_of}
use Rattle.rdm_collector.specs.AnyDevice.Devices.Event.{Arrived, Asked, Polled}
use Rattle.rdm_collector.specs.AnyDevice.Devices.Reply.{Silence, Gives, Declines}
use Rattle.rdm_collector.specs.AnyDevice.Items.{Item, item_in, item_of}
use Rattle.rdm_collector.specs.AnyDevice.Laws.{AnyDeviceIsRecorded, AnswersGoOn}
use Rattle.rdm_collector.proofs.AnyDevice.Hearing.{heard_reply, noise_alone, reply_or_noise, command_still}
use Rattle.rdm_collector.proofs.AnyDevice.Kept.{Kept, Kept-before, Kept-unheard, Kept-rejected, Kept-given, Kept-given_unheard, Kept-prefix}

-- ---- what the request of a poll asks for

asks_at : (u : Bool) (w : Want) → (cond u 0x01 (type_of w) == 0x01) ≡ u
asks_at true w = refl
asks_at false Advisory = refl
asks_at false Warning = refl
asks_at false Error = refl

pub asks : (s : DeviceState) → asks_again (poll_of s) ≡ s.unanswered
asks s = asks_at s.unanswered s.want

-- ---- where a collector stands

-- What it recorded on top of this base is what was dispensed, as far as it is known to be.
abbrev Stands : List Collected → DeviceState → Option Item → List Item → Type 0
Stands base t last d = (cs : List Collected) × (t.recorded ≡ base ++ cs) × Kept t.unanswered last d (map item_of cs)

same_end : (base : List Collected) (t : DeviceState) (last : Option Item) (d : List Item) → Stands base t last d → Stands base t last (d ++ [])
same_end base t last d st = let P : List Item → Type 0 = λ xs. Stands base t last xs in subst P (sym (append-nil d)) st

at_state : (base : List Collected) (t u : DeviceState) (last : Option Item) (d : List Item) → u ≡ t → Stands base t last d → Stands base u last d
at_state base t u last d e st = let P : DeviceState → Type 0 = λ x. Stands base x last d in subst P (sym e) st

at_last : (base : List Collected) (t : DeviceState) (last other : Option Item) (d : List Item) → other ≡ last → Stands base t last d → Stands base t other d
at_last base t last other d e st = let P : Option Item → Type 0 = λ x. Stands base t x d in subst P (sym e) st

-- ---- a command

commanded : (base : List Collected) (t u : DeviceState) (last : Option Item) (d : List Item) → u.recorded ≡ t.recorded → u.unanswered ≡ t.unanswered
    → Stands base t last d → Stands base u last d
commanded base t u last d er eu (cs, is, k) =
    let P : Bool → Type 0 = λ v. Kept v last d (map item_of cs) in
    (cs, er ∙ is, subst P (sym eu) k)

-- ---- a poll of which nothing is heard

unheard : (base : List Collected) (s : DeviceState) (last : Option Item) (d : List Item) → Stands base s last d → Stands base (after_poll s) last d
unheard base s last d (cs, is, k) = (cs, is, Kept-unheard s.unanswered last d (map item_of cs) k)

-- ---- a poll that gives a message

given_unheard : (base : List Collected) (s : DeviceState) (d : Device) (x : Item) (ds : List Item) → Stands base s d.last ds → MayGive s.unanswered d.last d.waiting x
    → Stands base (after_poll s) (Some x) (ds ++ x ∷ [])
given_unheard base s d x ds (cs, is, k) may = (cs, is, Kept-given_unheard s.unanswered d.last d.waiting x ds (map item_of cs) k may)

pub kept_answer : (t : DeviceState) (c : Collected) (h : DeviceHeard) → is_kept h ≡ true
    → after_answer t c h ≡ record (after_over t) { unanswered = false; lost = false; recorded = t.recorded ++ c ∷ [] }
kept_answer t c heard.Message e = refl
kept_answer t c heard.Part e = refl
kept_answer t c heard.Unsupported e = absurd (true≢false (sym e))
kept_answer t c (heard.Refused reason) e = absurd (true≢false (sym e))
kept_answer t c (heard.NotYet tenths) e = absurd (true≢false (sym e))
kept_answer t c heard.Reply e = absurd (true≢false (sym e))
kept_answer t c heard.Ignored e = absurd (true≢false (sym e))

given_heard : (base : List Collected) (s : DeviceState) (d : Device) (c : Collected) (ds : List Item) (h : DeviceHeard) → Stands base s d.last ds
    → is_kept h ≡ true → MayGive s.unanswered d.last d.waiting (item_of c) → Stands base (after_answer (after_poll s) c h) (Some (item_of c)) (ds ++ item_of c ∷ [])
given_heard base s d c ds h (cs, is, k) kept may =
    let P : List Item → Type 0 = λ xs. Kept false (Some (item_of c)) (ds ++ item_of c ∷ []) xs in
    let now : Kept false (Some (item_of c)) (ds ++ item_of c ∷ []) (map item_of (cs ++ c ∷ [])) =
    subst P (sym (map-append item_of cs (c ∷ []))) (Kept-given s.unanswered d.last d.waiting (item_of c) ds (map item_of cs) k may) in
    at_state base (record (after_over (after_poll s)) { unanswered = false; lost = false; recorded = s.recorded ++ c ∷ [] }) (after_answer (after_poll s) c h) (Some (item_of c)) (ds ++ item_of c ∷ [])
    (kept_answer (after_poll s) c h kept)
    (cs ++ c ∷ [], ap (λ (xs : List Collected). xs ++ c ∷ []) is ∙ append_assoc base cs (c ∷ []), now)

last_given : (v : Bool) (d : Device) (x : Item) → (after_giving v d x).last ≡ Some x
last_given true d x = refl
last_given false d x = refl

-- ---- a poll that is declined

rejected : (base : List Collected) (s t : DeviceState) (last : Option Item) (d : List Item) → t.recorded ≡ s.recorded → t.unanswered ≡ false
    → Stands base s last d → (s.unanswered ≡ true → last ≡ None) → Stands base t last d
rejected base s t last d er eu (cs, is, k) none =
    let P : Bool → Type 0 = λ v. Kept v last d (map item_of cs) in
    (cs, er ∙ is, subst P (sym eu) (Kept-rejected s.unanswered last d (map item_of cs) k none))

declined : (base : List Collected) (s : DeviceState) (last : Option Item) (d : List Item) (c : Collected) (h : DeviceHeard) → Stands base s last d
    → is_kept h ≡ false → MayDecline s.unanswered last h → Stands base (after_answer (after_poll s) c h) last d
declined base s last d c heard.Message st e may = absurd (true≢false e)
declined base s last d c heard.Part st e may = absurd (true≢false e)
declined base s last d c heard.Unsupported st e may = rejected base s (after_answer (after_poll s) c heard.Unsupported) last d refl refl st may
declined base s last d c (heard.Refused reason) st e may = rejected base s (after_answer (after_poll s) c (heard.Refused reason)) last d refl refl st may
declined base s last d c (heard.NotYet tenths) st e may = st
declined base s last d c heard.Reply st e may = rejected base s (after_answer (after_poll s) c heard.Reply) last d refl refl st may
declined base s last d c heard.Ignored st e may = rejected base s (after_answer (after_poll s) c heard.Ignored) last d refl refl st may

-- ---- each event

gives : (base : List Collected) (s : DeviceState) (d : Device) (ds : List Item) (f : Frame) (r : Response) (bs : List (List ℕ)) → Stands base s d.last ds
    → IsNext s d (Polled (Gives f r) bs) → Stands base (after s (Polled (Gives f r) bs)) (device_after s d (Polled (Gives f r) bs)).last (ds ++ item_in f r ∷ [])
gives base s d ds f r bs st next =
    let x : Item = item_in f r in
    let P : Bool → Type 0 = λ v. MayGive v d.last d.waiting x in
    let may : MayGive s.unanswered d.last d.waiting x = subst P (asks s) next.0.3 in
    let t : DeviceState = fold after_hearing (after_poll s) bs in
    at_last base t (Some x) (after_giving (asks_again (poll_of s)) d x).last (ds ++ x ∷ []) (last_given (asks_again (poll_of s)) d x)
    (elim (reply_or_noise s f r next.0.0 next.0.1 bs next.1) [
      | inl same ↦ at_state base (after_poll s) t (Some x) (ds ++ x ∷ []) same (given_unheard base s d x ds st may)
      | inr made ↦ at_state base (after_answer (after_poll s) (collected s.unanswered (s.lost || s.unanswered) f r) (poll_heard f.pid r)) t (Some x) (ds ++ x ∷ []) made (given_heard base s d (collected s.unanswered (s.lost || s.unanswered) f r) ds (poll_heard f.pid r) st next.0.2 may)
    ])

declines : (base : List Collected) (s : DeviceState) (d : Device) (ds : List Item) (f : Frame) (r : Response) (bs : List (List ℕ)) → Stands base s d.last ds
    → IsNext s d (Polled (Declines f r) bs) → Stands base (after s (Polled (Declines f r) bs)) d.last ds
declines base s d ds f r bs st next =
    let P : Bool → Type 0 = λ v. MayDecline v d.last (poll_heard f.pid r) in
    let may : MayDecline s.unanswered d.last (poll_heard f.pid r) = subst P (asks s) next.0.3 in
    let t : DeviceState = fold after_hearing (after_poll s) bs in
    elim (reply_or_noise s f r next.0.0 next.0.1 bs next.1) [
      | inl same ↦ at_state base (after_poll s) t d.last ds same (unheard base s d.last ds st)
      | inr made ↦ at_state base (after_answer (after_poll s) (collected s.unanswered (s.lost || s.unanswered) f r) (poll_heard f.pid r)) t d.last ds made (declined base s d.last ds (collected s.unanswered (s.lost || s.unanswered) f r) (poll_heard f.pid r) st next.0.2 may)
    ]

happens : (base : List Collected) (s : DeviceState) (d : Device) (ds : List Item) (e : Event) → Stands base s d.last ds → IsNext s d e
    → Stands base (after s e) (device_after s d e).last (ds ++ dispensed_by e)
happens base s d ds (Arrived x) st next = same_end base s d.last ds st
happens base s d ds (Asked c bs) st next =
    let still = command_still (after_ask s c) bs refl in
    same_end base (after s (Asked c bs)) d.last ds (commanded base s (fold after_hearing (after_ask s c) bs) d.last ds still.recorded still.unanswered st)
happens base s d ds (Polled Silence bs) st next =
    same_end base (after s (Polled Silence bs)) d.last ds (at_state base (after_poll s) (fold after_hearing (after_poll s) bs) d.last ds (noise_alone s bs next.1) (unheard base s d.last ds st))
happens base s d ds (Polled (Gives f r) bs) st next = gives base s d ds f r bs st next
happens base s d ds (Polled (Declines f r) bs) st next = same_end base (after s (Polled (Declines f r) bs)) d.last ds (declines base s d ds f r bs st next)

-- ---- all events

ran : (base : List Collected) (s : DeviceState) (d : Device) (ds : List Item) (es : List Event) → Stands base s d.last ds → IsRun s d es
    → (last : Option Item) × Stands base (after_all s es) last (ds ++ dispensed es)
ran base s d ds [] st run = (d.last, same_end base s d.last ds st)
ran base s d ds (e ∷ es) st run =
    let one = happens base s d ds e st run.0 in
    let P : List Item → Type 0 = λ xs. (last : Option Item) × Stands base (after_all (after s e) es) last xs in
    subst P (append_assoc ds (dispensed_by e) (dispensed es)) (ran base (after s e) (device_after s d e) (ds ++ dispensed_by e) es one run.1)

pub recorded : AnyDeviceIsRecorded
recorded s d es run =
    let done = ran s.recorded s d [] es ([], sym (append-nil s.recorded), Kept-before s.unanswered d.last) run in
    record { recorded = done.1.0; is_recorded = done.1.1; prefix = Kept-prefix _ _ _ _ done.1.2 }

-- ---- answers go on

asks_for_next : (s : DeviceState) (c : Collected) (h : DeviceHeard) → ((tenths : ℕ) → h ≢ heard.NotYet tenths)
    → poll_of (after_answer (after_poll s) c h) ≡ request_of s.uid ((s.tn + 1) % 256) (queued_message s.target (type_of s.want))
asks_for_next s c heard.Message never = refl
asks_for_next s c heard.Part never = refl
asks_for_next s c heard.Unsupported never = refl
asks_for_next s c (heard.Refused reason) never = refl
asks_for_next s c (heard.NotYet tenths) never = absurd (never tenths refl)
asks_for_next s c heard.Reply never = refl
asks_for_next s c heard.Ignored never = refl

pub go_on : AnswersGoOn
go_on s f r fits is never =
    ap (λ (t : DeviceState). poll_of t) (heard_reply s f r fits is) ∙ asks_for_next s (collected s.unanswered (s.lost || s.unanswered) f r) (poll_heard f.pid r) never
