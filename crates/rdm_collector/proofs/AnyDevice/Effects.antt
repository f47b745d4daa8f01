-- What an event leaves of a collector and of its device: s and d are before it, t and e after it.
use Rattle.std.proofs.Common.{◌≡◌, ◌⊎◌, ℕ, ◌||◌, Bool, true, false, List, [], ◌∷◌, ◌++◌, None, refl, sym, ap, subst, ◌∙◌, true≢false, inl, inr}
use Rattle.std.specs.List.{fold}
use Rattle.std.proofs.lemmas.List.{append-nil}
use Rattle.rdm_frame.specs.declared.frame.Frame.{Frame}
use Rattle.rdm_collector.specs.declared.reply.Response.{Response}
use Rattle.rdm_collector.specs.declared.any_device.heard.DeviceHeard.{DeviceHeard}
use Rattle.rdm_collector.specs.declared.any_device.heard.DeviceHeard.TheVariants as heard
use Rattle.rdm_collector.specs.declared.any_device.collected.Collected.{Collected}
use Rattle.rdm_collector.specs.AnyDevice.Answers.{poll_heard}
use Rattle.rdm_collector.specs.AnyDevice.Collecting.{DeviceState, after_ask, after_poll, after_over, after_answer, after_hearing, collected}
use Rattle.rdm_collector.specs.AnyDevice.Devices.{Device, Event, IsNext, MayDecline, MayGive, after, after_giving, arrived_by, device_after, is_kept}
use Rattle.rdm_collector.specs.AnyDevice.Devices.Event.{Arrived, Asked, Polled}
use Rattle.rdm_collector.specs.AnyDevice.Devices.Reply.{Silence, Gives, Declines}
use Rattle.rdm_collector.specs.AnyDevice.Items.{Item, item_in, item_of}
use Rattle.rdm_collector.proofs.AnyDevice.Hearing.{noise_alone, reply_or_noise, command_still}
use Rattle.rdm_collector.proofs.AnyDevice.Runs.{asks, kept_answer}

-- Nothing is given, and these arrive. What was lost stays lost, unless the device had said nothing.
pub record Quiet (arrived : List Item) (s t : DeviceState) (d e : Device) : Type 0 where
  pub recorded : t.recorded ≡ s.recorded
  pub last : e.last ≡ d.last
  pub waiting : e.waiting ≡ d.waiting ++ arrived
  pub unanswered : s.unanswered ≡ true → (t.unanswered ≡ true) ⊎ (d.last ≡ None)

-- this is given, and isn't heard
pub record Lost (s t : DeviceState) (d e : Device) : Type 0 where
  pub item : Item
  pub recorded : t.recorded ≡ s.recorded
  pub unanswered : t.unanswered ≡ true
  pub may : MayGive s.unanswered d.last d.waiting item
  pub device : e ≡ after_giving s.unanswered d item

-- this is given, and recorded
pub record Got (s t : DeviceState) (d e : Device) : Type 0 where
  pub collected : Collected
  pub recorded : t.recorded ≡ s.recorded ++ collected ∷ []
  pub unanswered : t.unanswered ≡ false
  pub may : MayGive s.unanswered d.last d.waiting (item_of collected)
  pub device : e ≡ after_giving s.unanswered d (item_of collected)
  pub again : collected.again ≡ s.unanswered
  pub after_loss : collected.again ≡ true → collected.after_loss ≡ true

abbrev pub Given : DeviceState → DeviceState → Device → Device → Type 0
Given s t d e = Lost s t d e ⊎ Got s t d e

abbrev pub Effect : List Item → DeviceState → DeviceState → Device → Device → Type 0
Effect arrived s t d e = Quiet arrived s t d e ⊎ ((arrived ≡ []) × Given s t d e)

-- ---- a poll that gives something

lost_too : (lost u : Bool) → u ≡ true → (lost || u) ≡ true
lost_too true u e = refl
lost_too false u e = e

got : (s u : DeviceState) (d : Device) (c : Collected) (h : DeviceHeard) → u ≡ after_answer (after_poll s) c h → is_kept h ≡ true
    → MayGive s.unanswered d.last d.waiting (item_of c) → c.again ≡ s.unanswered → (c.again ≡ true → c.after_loss ≡ true)
    → Got s (after_over u) d (after_giving s.unanswered d (item_of c))
got s u d c h made kept may again after_loss =
    let is = made ∙ kept_answer (after_poll s) c h kept in
    record {
      collected = c;
      recorded = ap (λ (x : DeviceState). x.recorded) is;
      unanswered = ap (λ (x : DeviceState). x.unanswered) is;
      may = may;
      device = refl;
      again = again;
      after_loss = after_loss;
    }

pub gives : (s : DeviceState) (d : Device) (f : Frame) (r : Response) (bs : List (List ℕ)) → IsNext s d (Polled (Gives f r) bs)
    → Given s (after s (Polled (Gives f r) bs)) d (device_after s d (Polled (Gives f r) bs))
gives s d f r bs next =
    let x : Item = item_in f r in
    let P : Bool → Type 0 = λ v. MayGive v d.last d.waiting x in
    let may : MayGive s.unanswered d.last d.waiting x = subst P (asks s) next.0.3 in
    let t : DeviceState = after s (Polled (Gives f r) bs) in
    let Q : Bool → Type 0 = λ v. Given s t d (after_giving v d x) in
    let c : Collected = collected s.unanswered (s.lost || s.unanswered) f r in
    subst Q (sym (asks s)) (elim (reply_or_noise s f r next.0.0 next.0.1 bs next.1) [
      | inl same ↦ inl (record {
        item = x;
        recorded = ap (λ (y : DeviceState). y.recorded) same;
        unanswered = ap (λ (y : DeviceState). y.unanswered) same;
        may = may;
        device = refl;
      })
      | inr made ↦ inr (got s (fold after_hearing (after_poll s) bs) d c (poll_heard f.pid r) made next.0.2 may refl (lost_too s.lost s.unanswered))
    ])

-- ---- an event that gives nothing

quiet : (s t : DeviceState) (d : Device) → t.recorded ≡ s.recorded → (s.unanswered ≡ true → (t.unanswered ≡ true) ⊎ (d.last ≡ None)) → Quiet [] s t d d
quiet s t d er eu = record { recorded = er; last = refl; waiting = sym (append-nil d.waiting); unanswered = eu }

declined : (s : DeviceState) (d : Device) (c : Collected) (h : DeviceHeard) → is_kept h ≡ false → MayDecline s.unanswered d.last h
    → Quiet [] s (after_answer (after_poll s) c h) d d
declined s d c heard.Message e may = absurd (true≢false e)
declined s d c heard.Part e may = absurd (true≢false e)
declined s d c heard.Unsupported e may = quiet s (after_answer (after_poll s) c heard.Unsupported) d refl (λ u. inr (may u))
declined s d c (heard.Refused reason) e may = quiet s (after_answer (after_poll s) c (heard.Refused reason)) d refl (λ u. inr (may u))
declined s d c (heard.NotYet tenths) e may = quiet s (after_answer (after_poll s) c (heard.NotYet tenths)) d refl (λ u. inl u)
declined s d c heard.Reply e may = quiet s (after_answer (after_poll s) c heard.Reply) d refl (λ u. inr (may u))
declined s d c heard.Ignored e may = quiet s (after_answer (after_poll s) c heard.Ignored) d refl (λ u. inr (may u))

over_quiet : (s u v : DeviceState) (d : Device) → u ≡ v → Quiet [] s v d d → Quiet [] s (after_over u) d d
over_quiet s u v d e q =
    let P : DeviceState → Type 0 = λ x. Quiet [] s (after_over x) d d in
    subst P (sym e) (quiet s (after_over v) d q.recorded q.unanswered)

unheard : (s : DeviceState) (d : Device) → Quiet [] s (after_poll s) d d
unheard s d = quiet s (after_poll s) d refl (λ u. inl refl)

declines : (s : DeviceState) (d : Device) (f : Frame) (r : Response) (bs : List (List ℕ)) → IsNext s d (Polled (Declines f r) bs)
    → Quiet [] s (after s (Polled (Declines f r) bs)) d d
declines s d f r bs next =
    let P : Bool → Type 0 = λ v. MayDecline v d.last (poll_heard f.pid r) in
    let may : MayDecline s.unanswered d.last (poll_heard f.pid r) = subst P (asks s) next.0.3 in
    let u : DeviceState = fold after_hearing (after_poll s) bs in
    let c : Collected = collected s.unanswered (s.lost || s.unanswered) f r in
    elim (reply_or_noise s f r next.0.0 next.0.1 bs next.1) [
      | inl same ↦ over_quiet s u (after_poll s) d same (unheard s d)
      | inr made ↦ over_quiet s u (after_answer (after_poll s) c (poll_heard f.pid r)) d made (declined s d c (poll_heard f.pid r) next.0.2 may)
    ]

asked : (s u : DeviceState) (d : Device) → u.recorded ≡ s.recorded → u.unanswered ≡ s.unanswered → Quiet [] s (after_over u) d d
asked s u d er eu = quiet s (after_over u) d er (λ e. inl (eu ∙ e))

pub effect : (s : DeviceState) (d : Device) (e : Event) → IsNext s d e → Effect (arrived_by e) s (after s e) d (device_after s d e)
effect s d (Arrived x) next =
    inl (record { recorded = refl; last = refl; waiting = refl; unanswered = λ u. inl u })
effect s d (Asked c bs) next =
    let still = command_still (after_ask s c) bs refl in
    inl (asked s (fold after_hearing (after_ask s c) bs) d still.recorded still.unanswered)
effect s d (Polled Silence bs) next =
    inl (over_quiet s (fold after_hearing (after_poll s) bs) (after_poll s) d (noise_alone s bs next.1) (unheard s d))
effect s d (Polled (Gives f r) bs) next = inr (refl, gives s d f r bs next)
effect s d (Polled (Declines f r) bs) next = inl (declines s d f r bs next)
