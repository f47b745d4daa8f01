-- What has happened at the panel, over lists of events, and what each step makes of it.
use Rattle.std.proofs.Common.{◌≡◌, ℕ, ◌<◌, List, [], ◌∷◌, ◌++◌, Option, Some, None, refl, sym, ap, subst, ◌∙◌, arith, append-nil}
use Rattle.std.specs.Prelude.{Result, Ok, Err, MatchResult, OnOk}
use Rattle.std.specs.Option.{option_to_list}
use Rattle.std.proofs.lemmas.List.Concat.{flat_map-append}
use Rattle.rdm_commands.specs.declared.panel.Change.{Change}
use Rattle.rdm_outbox.specs.declared.job.Job.{Job}
use Rattle.rdm_responder.specs.declared.report.Report.{Report}
use Rattle.rdm_bus.specs.declared.event.Event.{Event}
use Rattle.rdm_bus.specs.declared.event.Event.TheVariants.{Bus, Arrived, Changed}
use Rattle.rdm_bus.specs.declared.event.Step.{Step}
use Rattle.rdm_bus.specs.declared.event.Step.TheVariants as bus
use Rattle.rdm_bus.specs.BusRun.{Start, IsPlayed, after}
use Rattle.rdm_lane.specs.declared.taken.Taken.{Taken}
use Rattle.rdm_lane.specs.declared.taken.Taken.TheVariants.{Item, Mark}
use Rattle.rdm_lane.specs.Ends.{PostState, TakeState, IsNext, IsSameTake, took}
use Rattle.rdm_lane.specs.Lane.{items_from}
use Rattle.rdm_crew.specs.declared.bus.crew.Crew.{Crew}
use Rattle.rdm_crew.specs.declared.bus.desk.Desk.{Desk}
use Rattle.rdm_crew.specs.declared.step.CrewStep.TheVariants.{Draw, Panel}
use Rattle.rdm_crew.specs.declared.bus.stop.Stop.{Stop}
use Rattle.rdm_crew.specs.declared.bus.stop.Stop.TheVariants as stop
use Rattle.rdm_crew.specs.Crews.{HasChanges, HasChanged, HasPlayed, HasSent, IsRefused, IsSent, IsStopped, IsTied}
use Rattle.rdm_crew.specs.Desks.{stands_at, IsDrawn, HaveArrived, HaveSettled, IsCutShort}
use Rattle.rdm_bus.specs.Happened.{arrived_in, changed_in, changes_in, started_in}
use Rattle.rdm_crew.specs.RunTrace.{AreArrivals}
use Rattle.rdm_crew.proofs.Items.{from-item, from-mark}

-- ---- lists of events

changes-append : (es fs : List Event) → changes_in (es ++ fs) ≡ changes_in es ++ changes_in fs
unfolding changes_in
changes-append es fs = flat_map-append changed_in es fs

change_one : (e : Event) → changes_in (e ∷ []) ≡ changed_in e
unfolding changes_in
change_one e = append-nil (changed_in e)

changes_cons : (e : Event) (es : List Event) → changes_in (e ∷ es) ≡ changed_in e ++ changes_in es
unfolding changes_in
changes_cons e es = refl

pub no_changes : changes_in [] ≡ []
unfolding changes_in
no_changes = refl

-- ---- events

arrival_changes : (s : Start) (r : Report) (e : Event) → IsPlayed s (bus.Arrive r) e → changed_in e ≡ []
arrival_changes s r (Bus sent poll f reply job heard) is = absurd is
arrival_changes s r (Arrived reported m kept) is = refl
arrival_changes s r (Changed change m) is = absurd is

arrivals_change : (s : Start) (es : List Event) → AreArrivals s es → changes_in es ≡ []
arrivals_change s [] all = no_changes
arrivals_change s (e ∷ es) all =
    changes_cons e es ∙ ap (λ (l : List Change). l ++ changes_in es) (arrival_changes s all.0.0 e all.0.1) ∙ arrivals_change (after s e) es all.1

sent_changes : (s : Start) (p : Step) (e : Event) → IsSent p → IsPlayed s p e → changed_in e ≡ []
sent_changes s (bus.Ask c f) e sent is = ap changed_in is.1.event_is
sent_changes s (bus.Collect f) e sent is = ap changed_in is.event_is
sent_changes s (bus.Arrive r) e sent is = absurd sent
sent_changes s (bus.Change c) e sent is = absurd sent

-- a change is no arrival, starts no job, and is the one change of its event
pub change_quiet : (s : Start) (c : Change) (e : Event) → IsPlayed s (bus.Change c) e → arrived_in e ≡ []
change_quiet s c (Bus sent poll f reply job heard) is = absurd is
change_quiet s c (Arrived reported m kept) is = absurd is
change_quiet s c (Changed change m) is = refl

pub change_starts : (s : Start) (c : Change) (e : Event) → IsPlayed s (bus.Change c) e → started_in e ≡ []
change_starts s c (Bus sent poll f reply job heard) is = absurd is
change_starts s c (Arrived reported m kept) is = absurd is
change_starts s c (Changed change m) is = refl

change_is : (s : Start) (c : Change) (e : Event) → IsPlayed s (bus.Change c) e → changed_in e ≡ c ∷ []
change_is s c (Bus sent poll f reply job heard) is = absurd is
change_is s c (Arrived reported m kept) is = absurd is
change_is s c (Changed change m) is = ap (λ (x : Change). x ∷ []) is.0

-- ---- what has happened since

-- no change
still_has : (d e : Desk) (t : TakeState Change) (es : List Event) → e.system.trace ≡ d.system.trace ++ es → changes_in es ≡ [] → HasChanges d t → HasChanges e t
still_has d e t es longer none has = (
  has.0 ∙ sym (ap changes_in longer ∙ changes-append d.system.trace es ∙ ap (λ (l : List Change). changes_in d.system.trace ++ l) none ∙ append-nil (changes_in d.system.trace)),
  has.1,
)

pub arrived_has : (d e : Desk) (t : TakeState Change) → HaveArrived d e → HasChanges d t → HasChanges e t
arrived_has d e t arrived has = still_has d e t arrived.0 arrived.1 (arrivals_change (stands_at d) arrived.0 arrived.2) has

sent_has : (p : Step) (d e : Desk) (t : TakeState Change) → IsSent p → HasSent p d e → HasChanges d t → HasChanges e t
sent_has p d e t sent is has = still_has d e t (is.0 ∷ []) is.1 (change_one is.0 ∙ sent_changes (stands_at d) p is.0 sent is.2) has

-- one change, which was taken
changed_has : (c : Change) (d e : Desk) (t u : TakeState Change) → items_from 0 u.taken ≡ items_from 0 t.taken ++ c ∷ [] → u.posts ≡ t.posts → HasChanged c d e → HasChanges d t → HasChanges e u
changed_has c d e t u took posts is has = (
  took
      ∙ ap (λ (l : List Change). l ++ c ∷ []) has.0
      ∙ sym (ap changes_in is.1 ∙ changes-append d.system.trace (is.0 ∷ []) ∙ ap (λ (l : List Change). changes_in d.system.trace ++ l) (change_one is.0 ∙ change_is (stands_at d) c is.0 is.2)),
  posts ∙ has.1,
)

-- ---- each step

pub sent_keeps : (p : Step) (c d : Crew) (r : Result Unit Stop) → IsSent p → MatchResult r (λ _. IsTied d × HasSent p c.desk d.desk) (λ why. IsRefused p why) → d.changes ≡ c.changes → HasChanges c.desk c.changes
    → OnOk r (HasChanges d.desk d.changes)
sent_keeps p c d (Ok u) sent played same has = subst (HasChanges d.desk) (sym same) (sent_has p c.desk d.desk c.changes sent played.1 has)
sent_keeps p c d (Err why) sent played same has = tt

pub drawn_keeps : (c d : Crew) (r : Result Unit Stop) → MatchResult r (λ _. IsTied d × HasPlayed Draw c.desk d.desk) (λ why. IsStopped Draw d why) → d.changes ≡ c.changes → HasChanges c.desk c.changes
    → OnOk r (HasChanges d.desk d.changes)
drawn_keeps c d (Ok u) played same has = subst (HasChanges d.desk) (sym same) (arrived_has c.desk d.desk c.changes (played.1.0, played.1.1, played.1.2.0) has)
drawn_keeps c d (Err why) played same has = tt

pub settled_keeps : (c d : Crew) (r : Result Unit Stop) → MatchResult r (λ _. IsDrawn d.desk × HaveSettled c.desk d.desk) (λ why. IsCutShort c.desk d.desk why) → d.changes ≡ c.changes → HasChanges c.desk c.changes
    → OnOk r (HasChanges d.desk d.changes)
settled_keeps c d (Ok u) settled same has = subst (HasChanges d.desk) (sym same) (arrived_has c.desk d.desk c.changes (settled.1.0, settled.1.1, settled.1.2.0) has)
settled_keeps c d (Err why) settled same has = tt

-- the same crew, whatever it has taken of the panel
retied : (c d : Crew) → d.desk ≡ c.desk → d.first ≡ c.first → d.second ≡ c.second → IsTied c → IsTied d
retied c d desk first second tied =
    subst (λ (x : Desk). IsTied (record d { desk = x })) (sym desk)
    (subst (λ (x : PostState Job). IsTied (record d { desk = c.desk; first = x })) (sym first)
    (subst (λ (x : PostState Job). IsTied (record d { desk = c.desk; first = c.first; second = x })) (sym second)
    (record { drawn = tied.drawn; jobs = tied.jobs; first_limit = tied.first_limit; second_limit = tied.second_limit })))

-- the piece of a Panel step where no change happened
pub no_change : (c d : Crew) (n : ℕ) → d.desk ≡ c.desk → d.first ≡ c.first → d.second ≡ c.second → IsTied c → IsTied d × HasPlayed (Panel n) c.desk d.desk
no_change c d n desk first second tied =
    let trace : d.desk.system.trace ≡ c.desk.system.trace ++ [] = ap (λ (x : Desk). x.system.trace) desk ∙ sym (append-nil c.desk.system.trace) in
    (retied c d desk first second tied, ([], trace, (tt, omega arith)))

-- what was taken stands for what has happened, where no change was taken
pub none_taken : (c d : Crew) (next : Option Change) → next ≡ None → d.desk ≡ c.desk → items_from 0 d.changes.taken ≡ items_from 0 c.changes.taken ++ option_to_list next → IsSameTake c.changes d.changes → HasChanges c.desk c.changes
    → HasChanges d.desk d.changes
none_taken c d next none desk took same has = (
  took
      ∙ ap (λ (o : Option Change). items_from 0 c.changes.taken ++ option_to_list o) none
      ∙ append-nil (items_from 0 c.changes.taken)
      ∙ has.0
      ∙ ap (λ (x : Desk). changes_in x.system.trace) (sym desk),
  same.1 ∙ has.1,
)

-- one change was taken, and played or not
pub one_change : (c m d : Crew) (n : ℕ) (change : Change) (r : Result Unit Stop) → m.desk ≡ c.desk → MatchResult r (λ _. IsTied d × HasChanged change m.desk d.desk) (λ why. why ≡ stop.OutOfMemory)
    → MatchResult r (λ _. IsTied d × HasPlayed (Panel n) c.desk d.desk) (λ why. why ≡ stop.OutOfMemory)
one_change c m d n change (Ok u) same played =
    let is : HasChanged change c.desk d.desk = subst (λ (x : Desk). HasChanged change x d.desk) same played.1 in
    (played.0, (is.0 ∷ [], is.1, (((change, is.2), tt), omega arith)))
one_change c m d n change (Err why) same played = played

pub one_taken : (c m d : Crew) (next : Option Change) (change : Change) (r : Result Unit Stop) → next ≡ Some change → m.desk ≡ c.desk → items_from 0 m.changes.taken ≡ items_from 0 c.changes.taken ++ option_to_list next → IsSameTake c.changes m.changes
    → MatchResult r (λ _. IsTied d × HasChanged change m.desk d.desk) (λ why. why ≡ stop.OutOfMemory) → d.changes ≡ m.changes → HasChanges c.desk c.changes → OnOk r (HasChanges d.desk d.changes)
one_taken c m d next change (Ok u) some same took ends played kept has =
    subst (HasChanges d.desk) (sym kept)
    (changed_has change c.desk d.desk c.changes m.changes (took ∙ ap (λ (o : Option Change). items_from 0 c.changes.taken ++ option_to_list o) some) ends.1 (subst (λ (x : Desk). HasChanged change x d.desk) same played.1) has)
one_taken c m d next change (Err why) some same took ends played kept has = tt

pub tied_before : (c m : Crew) → m.desk ≡ c.desk → m.first ≡ c.first → m.second ≡ c.second → IsTied c → IsTied m
tied_before c m desk first second tied = retied c m desk first second tied

-- ---- one take from the panel's lane

below_one : (q : ℕ) → q < 1 → q ≡ 0
below_one q below = omega arith

module _ (s : TakeState Change) (one : s.posts ≡ 1) where
  -- a change is the only post's
  first_post : (q : ℕ) → q < s.posts → q ≡ 0
  first_post q below = below_one q (subst (λ n. q < n) one below)

  pub took_change : (e : Taken Change) (q n : ℕ) (c : Change) (t : TakeState Change) → e ≡ Item q n c → IsNext s e → t ≡ took s e → items_from 0 t.taken ≡ items_from 0 s.taken ++ c ∷ []
  took_change e q n c t same came took_one =
      let next : IsNext s (Item q n c) = subst (IsNext s) same came in
      ap (λ (u : TakeState Change). items_from 0 u.taken) took_one
      ∙ ap (λ (k : Taken Change). items_from 0 (took s k).taken) same
      ∙ ap (λ k. items_from 0 (s.taken ++ Item k n c ∷ [])) (first_post q next.0)
      ∙ from-item s.taken n c

pub took_mark : (s t : TakeState Change) (e : Taken Change) (q : ℕ) → e ≡ Mark q → t ≡ took s e → items_from 0 t.taken ≡ items_from 0 s.taken
took_mark s t e q same took_one =
    ap (λ (u : TakeState Change). items_from 0 u.taken) took_one ∙ ap (λ (k : Taken Change). items_from 0 (took s k).taken) same ∙ from-mark 0 q s.taken (Mark q) refl
