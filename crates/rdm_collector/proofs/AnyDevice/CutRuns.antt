-- The parts of a message are joined, against any device.
use Rattle.std.proofs.Common.{◌≡◌, ◌⊎◌, ℕ, Bool, true, false, List, [], ◌∷◌, ◌++◌, drop, Option, Some, None, refl, sym, ap, subst, ◌∙◌, true≢false, inl, inr, append_assoc}
use Rattle.std.proofs.lemmas.Bool.{cases_Bool}
use Rattle.std.proofs.lemmas.List.{append-nil}
use Rattle.rdm_frame.specs.declared.message.Message.{Message}
use Rattle.rdm_collector.specs.declared.any_device.collected.Collected.{Collected}
use Rattle.rdm_collector.specs.AnyDevice.Collecting.{DeviceState}
use Rattle.rdm_collector.specs.AnyDevice.Cut.{parts_of, JoinedAsCut, CutMessagesAreJoined}
use Rattle.rdm_collector.specs.AnyDevice.Devices.{Device, Event, IsRun, MayGive, after, after_all, after_giving, arrived_by, device_after}
use Rattle.rdm_collector.specs.AnyDevice.Devices.Event.{Polled}
use Rattle.rdm_collector.specs.AnyDevice.Devices.Reply.{Gives}
use Rattle.rdm_collector.specs.AnyDevice.Items.{Item, item_of}
use Rattle.rdm_collector.proofs.AnyDevice.Cut.{all_of, part_of, IsBut, IsWhole, first_recorded, next_recorded, repeat_recorded, all_recorded, behind_recorded, nothing_joined, some_joined, whole_joined}
use Rattle.rdm_collector.proofs.AnyDevice.Effects.{Quiet, Lost, Got, Given, Effect, gives, effect}
use Rattle.rdm_collector.proofs.AnyDevice.GoingOn.{end_of, end_of-push}

module _ (m : Message) (items : List Item) (all : List ℕ) where
  -- ---- where a run stands

  -- All parts but these were recorded, and no other was given.
  record IsLevel (d : Device) (r : List Collected) : Type 0 where
    pub next : List ℕ
    pub left : List (List ℕ)
    pub others : List Item
    pub first : Collected
    pub behind : List Collected
    pub are : r ≡ first ∷ behind
    pub so_far : IsBut m items all (next ∷ left) first behind
    pub last : d.last ≡ Some (item_of (end_of first behind))
    pub waiting : d.waiting ≡ parts_of m (next ∷ left) ++ others

  -- Nothing was recorded yet, or all but these parts were.
  abbrev IsSoFar : List (List ℕ) → List Collected → Type 0
  IsSoFar left [] = (parts_of m left ≡ items) × (all_of left ≡ all)
  IsSoFar left (c ∷ cs) = IsBut m items all left c cs

  -- The next part was given, and is lost.
  record IsLate (u : Bool) (d : Device) (r : List Collected) : Type 0 where
    pub next : List ℕ
    pub left : List (List ℕ)
    pub others : List Item
    pub unanswered : u ≡ true
    pub so_far : IsSoFar (next ∷ left) r
    pub last : d.last ≡ Some (part_of m next left)
    pub waiting : d.waiting ≡ parts_of m left ++ others

  record IsDone (r : List Collected) : Type 0 where
    pub first : Collected
    pub behind : List Collected
    pub are : r ≡ first ∷ behind
    pub whole : IsWhole items all first behind

  abbrev Stands : Bool → Device → List Collected → Type 0
  Stands u d r = IsLevel d r ⊎ (IsLate u d r ⊎ IsDone r)

  -- ---- what may be given

  last_again : (u : Bool) (last : Option Item) (waiting : List Item) (x y : Item) → u ≡ true → last ≡ Some y → MayGive u last waiting x → x ≡ y
  last_again u last waiting x y eu el may =
      let P : Bool → Type 0 = λ v. MayGive v last waiting x in
      let Q : Option Item → Type 0 = λ o. MayGive true o waiting x in
      subst Q el (subst P eu may)

  next_one : (u : Bool) (last : Option Item) (waiting : List Item) (x y : Item) (ys : List Item) → u ≡ false → waiting ≡ y ∷ ys → MayGive u last waiting x → x ≡ y
  next_one u last waiting x y ys eu ew may =
      let P : Bool → Type 0 = λ v. MayGive v last waiting x in
      let Q : List Item → Type 0 = λ w. MayGive false last w x in
      subst Q ew (subst P eu may)

  -- the device afterwards
  last_after : (u : Bool) (d e : Device) (x y : Item) → e ≡ after_giving u d x → x ≡ y → e.last ≡ Some y
  last_after true d e x y is same = ap (λ (z : Device). z.last) is ∙ ap (λ (z : Item). Some z) same
  last_after false d e x y is same = ap (λ (z : Device). z.last) is ∙ ap (λ (z : Item). Some z) same

  waiting_again : (u : Bool) (d e : Device) (x : Item) → u ≡ true → e ≡ after_giving u d x → e.waiting ≡ d.waiting
  waiting_again true d e x eu is = ap (λ (z : Device). z.waiting) is
  waiting_again false d e x eu is = absurd (true≢false (sym eu))

  waiting_next : (u : Bool) (d e : Device) (x y : Item) (ys : List Item) → u ≡ false → e ≡ after_giving u d x → d.waiting ≡ y ∷ ys → e.waiting ≡ ys
  waiting_next false d e x y ys eu is ew = ap (λ (z : Device). z.waiting) is ∙ ap (λ (w : List Item). drop 1 w) ew
  waiting_next true d e x y ys eu is ew = absurd (true≢false eu)

  -- ---- a part was recorded: it was the last, or others are left

  landed : (u : Bool) (e : Device) (left : List (List ℕ)) (others : List Item) (c : Collected) (cs : List Collected) → IsBut m items all left c cs
      → e.last ≡ Some (item_of (end_of c cs)) → e.waiting ≡ parts_of m left ++ others → Stands u e (c ∷ cs)
  landed u e [] others c cs so_far el ew = inr (inr (record { first = c; behind = cs; are = refl; whole = all_recorded m items all c cs so_far }))
  landed u e (next ∷ left) others c cs so_far el ew =
      inl (record { next = next; left = left; others = others; first = c; behind = cs; are = refl; so_far = so_far; last = el; waiting = ew })

  -- the part that is next is recorded on top of what was
  recorded_next : (u : Bool) (e : Device) (next : List ℕ) (left : List (List ℕ)) (others : List Item) (r : List Collected) (c : Collected) → IsSoFar (next ∷ left) r
      → item_of c ≡ part_of m next left → (c.again ≡ true → c.after_loss ≡ true) → e.last ≡ Some (item_of c) → e.waiting ≡ parts_of m left ++ others
      → Stands u e (r ++ c ∷ [])
  recorded_next u e next left others [] c so_far is lost el ew =
      landed u e left others c [] (first_recorded m items all next left c is so_far.0 so_far.1) el ew
  recorded_next u e next left others (b ∷ bs) c so_far is lost el ew =
      landed u e left others b (bs ++ c ∷ []) (next_recorded m items all next left b bs c so_far is lost)
      (el ∙ ap (λ (x : Collected). Some (item_of x)) (sym (end_of-push b bs c))) ew

  -- ---- each effect

  level_so_far : (r : List Collected) (next : List ℕ) (left : List (List ℕ)) (c : Collected) (cs : List Collected) → r ≡ c ∷ cs → IsBut m items all (next ∷ left) c cs → IsSoFar (next ∷ left) r
  level_so_far r next left c cs e so_far = let P : List Collected → Type 0 = λ xs. IsSoFar (next ∷ left) xs in subst P (sym e) so_far

  none_is : (x : Item) → None ≡ Some x → ⊥
  none_is x e = cc

  quiet : (arrived : List Item) (s t : DeviceState) (d e : Device) (r : List Collected) → Quiet arrived s t d e → Stands s.unanswered d r → Stands t.unanswered e r
  quiet arrived s t d e r q (inl l) = inl (record {
    next = l.next;
    left = l.left;
    others = l.others ++ arrived;
    first = l.first;
    behind = l.behind;
    are = l.are;
    so_far = l.so_far;
    last = q.last ∙ l.last;
    waiting = q.waiting ∙ ap (λ (w : List Item). w ++ arrived) l.waiting ∙ append_assoc (parts_of m (l.next ∷ l.left)) l.others arrived;
  })
  quiet arrived s t d e r q (inr (inl l)) =
      elim (q.unanswered l.unanswered) [
        | inl still ↦ inr (inl (record {
          next = l.next;
          left = l.left;
          others = l.others ++ arrived;
          unanswered = still;
          so_far = l.so_far;
          last = q.last ∙ l.last;
          waiting = q.waiting ∙ ap (λ (w : List Item). w ++ arrived) l.waiting ∙ append_assoc (parts_of m l.left) l.others arrived;
        }))
        | inr none ↦ absurd (none_is (part_of m l.next l.left) (sym none ∙ l.last))
      ]
  quiet arrived s t d e r q (inr (inr done)) = inr (inr done)

  lost : (s t : DeviceState) (d e : Device) (r : List Collected) → Lost s t d e → Stands s.unanswered d r → Stands t.unanswered e r
  lost s t d e r g (inl l) =
      elim (cases_Bool s.unanswered) [
        | inl again ↦
            let is : g.item ≡ item_of (end_of l.first l.behind) = last_again s.unanswered d.last d.waiting g.item (item_of (end_of l.first l.behind)) again l.last g.may in
            inl (record {
              next = l.next;
              left = l.left;
              others = l.others;
              first = l.first;
              behind = l.behind;
              are = l.are;
              so_far = l.so_far;
              last = last_after s.unanswered d e g.item (item_of (end_of l.first l.behind)) g.device is;
              waiting = waiting_again s.unanswered d e g.item again g.device ∙ l.waiting;
            })
        | inr fresh ↦
            let is : g.item ≡ part_of m l.next l.left = next_one s.unanswered d.last d.waiting g.item (part_of m l.next l.left) (parts_of m l.left ++ l.others) fresh l.waiting g.may in
            inr (inl (record {
              next = l.next;
              left = l.left;
              others = l.others;
              unanswered = g.unanswered;
              so_far = level_so_far r l.next l.left l.first l.behind l.are l.so_far;
              last = last_after s.unanswered d e g.item (part_of m l.next l.left) g.device is;
              waiting = waiting_next s.unanswered d e g.item (part_of m l.next l.left) (parts_of m l.left ++ l.others) fresh g.device l.waiting;
            }))
      ]
  lost s t d e r g (inr (inl l)) =
      let is : g.item ≡ part_of m l.next l.left = last_again s.unanswered d.last d.waiting g.item (part_of m l.next l.left) l.unanswered l.last g.may in
      inr (inl (record {
        next = l.next;
        left = l.left;
        others = l.others;
        unanswered = g.unanswered;
        so_far = l.so_far;
        last = last_after s.unanswered d e g.item (part_of m l.next l.left) g.device is;
        waiting = waiting_again s.unanswered d e g.item l.unanswered g.device ∙ l.waiting;
      }))
  lost s t d e r g (inr (inr done)) = inr (inr done)

  recorded_again : (u : Bool) (e : Device) (others : List Item) (next : List ℕ) (left : List (List ℕ)) (r : List Collected) (b : Collected) (bs : List Collected) (c : Collected)
      → r ≡ b ∷ bs → IsBut m items all (next ∷ left) b bs → item_of c ≡ item_of (end_of b bs) → c.again ≡ true → e.last ≡ Some (item_of c) → e.waiting ≡ parts_of m (next ∷ left) ++ others
      → Stands u e (r ++ c ∷ [])
  recorded_again u e others next left r b bs c are so_far is again el ew =
      let P : List Collected → Type 0 = λ xs. Stands u e (xs ++ c ∷ []) in
      subst P (sym are) (landed u e (next ∷ left) others b (bs ++ c ∷ []) (repeat_recorded m items all next left b bs c so_far is again)
      (el ∙ ap (λ (x : Collected). Some (item_of x)) (sym (end_of-push b bs c))) ew)

  got : (s t : DeviceState) (d e : Device) (r : List Collected) (g : Got s t d e) → Stands s.unanswered d r → Stands t.unanswered e (r ++ g.collected ∷ [])
  got s t d e r g (inl l) =
      let c : Collected = g.collected in
      let el : e.last ≡ Some (item_of c) = last_after s.unanswered d e (item_of c) (item_of c) g.device refl in
      elim (cases_Bool s.unanswered) [
        | inl again ↦
            let is : item_of c ≡ item_of (end_of l.first l.behind) = last_again s.unanswered d.last d.waiting (item_of c) (item_of (end_of l.first l.behind)) again l.last g.may in
            recorded_again t.unanswered e l.others l.next l.left r l.first l.behind c l.are l.so_far is (g.again ∙ again) el
            (waiting_again s.unanswered d e (item_of c) again g.device ∙ l.waiting)
        | inr fresh ↦
            let is : item_of c ≡ part_of m l.next l.left = next_one s.unanswered d.last d.waiting (item_of c) (part_of m l.next l.left) (parts_of m l.left ++ l.others) fresh l.waiting g.may in
            recorded_next t.unanswered e l.next l.left l.others r c (level_so_far r l.next l.left l.first l.behind l.are l.so_far) is g.after_loss el
            (waiting_next s.unanswered d e (item_of c) (part_of m l.next l.left) (parts_of m l.left ++ l.others) fresh g.device l.waiting)
      ]
  got s t d e r g (inr (inl l)) =
      let c : Collected = g.collected in
      let is : item_of c ≡ part_of m l.next l.left = last_again s.unanswered d.last d.waiting (item_of c) (part_of m l.next l.left) l.unanswered l.last g.may in
      recorded_next t.unanswered e l.next l.left l.others r c l.so_far is g.after_loss (last_after s.unanswered d e (item_of c) (item_of c) g.device refl)
      (waiting_again s.unanswered d e (item_of c) l.unanswered g.device ∙ l.waiting)
  got s t d e r g (inr (inr done)) =
      inr (inr (record {
        first = done.first;
        behind = done.behind ++ g.collected ∷ [];
        are = ap (λ (xs : List Collected). xs ++ g.collected ∷ []) done.are;
        whole = behind_recorded items all done.first done.behind g.collected done.whole;
      }))

  -- ---- all events

  -- what was recorded on top of this base
  abbrev StandsOn : List Collected → DeviceState → Device → Type 0
  StandsOn base s d = (r : List Collected) × (s.recorded ≡ base ++ r) × Stands s.unanswered d r

  given : (base : List Collected) (s t : DeviceState) (d e : Device) → Given s t d e → StandsOn base s d → StandsOn base t e
  given base s t d e (inl g) (r, is, st) = (r, g.recorded ∙ is, lost s t d e r g st)
  given base s t d e (inr g) (r, is, st) =
      (r ++ g.collected ∷ [], g.recorded ∙ ap (λ (xs : List Collected). xs ++ g.collected ∷ []) is ∙ append_assoc base r (g.collected ∷ []), got s t d e r g st)

  happens : (base : List Collected) (arrived : List Item) (s t : DeviceState) (d e : Device) → Effect arrived s t d e → StandsOn base s d → StandsOn base t e
  happens base arrived s t d e (inl q) (r, is, st) = (r, q.recorded ∙ is, quiet arrived s t d e r q st)
  happens base arrived s t d e (inr g) st = given base s t d e g.1 st

  ran : (base : List Collected) (s : DeviceState) (d : Device) (es : List Event) → StandsOn base s d → IsRun s d es → (e : Device) × StandsOn base (after_all s es) e
  ran base s d [] st run = (d, st)
  ran base s d (x ∷ xs) st run =
      ran base (after s x) (device_after s d x) xs (happens base (arrived_by x) s (after s x) d (device_after s d x) (effect s d x run.0) st) run.1

  -- the first part is given
  begun : (s t : DeviceState) (d e : Device) (next : List ℕ) (left : List (List ℕ)) (others : List Item) → parts_of m (next ∷ left) ≡ items → all_of (next ∷ left) ≡ all
      → d.waiting ≡ parts_of m (next ∷ left) ++ others → s.unanswered ≡ false → Given s t d e → StandsOn s.recorded t e
  begun s t d e next left others are bytes ew fresh (inl g) =
      let rest : List Item = parts_of m left ++ others in
      let is : g.item ≡ part_of m next left = next_one s.unanswered d.last d.waiting g.item (part_of m next left) rest fresh ew g.may in (
        [],
        g.recorded ∙ sym (append-nil s.recorded),
        inr (inl (record {
          next = next;
          left = left;
          others = others;
          unanswered = g.unanswered;
          so_far = (are, bytes);
          last = last_after s.unanswered d e g.item (part_of m next left) g.device is;
          waiting = waiting_next s.unanswered d e g.item (part_of m next left) rest fresh g.device ew;
        })),
      )
  begun s t d e next left others are bytes ew fresh (inr g) =
      let c : Collected = g.collected in
      let rest : List Item = parts_of m left ++ others in
      let is : item_of c ≡ part_of m next left = next_one s.unanswered d.last d.waiting (item_of c) (part_of m next left) rest fresh ew g.may in (
        c ∷ [],
        g.recorded,
        recorded_next t.unanswered e next left others [] c (are, bytes) is g.after_loss (last_after s.unanswered d e (item_of c) (item_of c) g.device refl)
            (waiting_next s.unanswered d e (item_of c) (part_of m next left) rest fresh g.device ew),
      )

-- ---- the law

so_far_joined : (m : Message) (parts : List (List ℕ)) (items : List Item) (all next : List ℕ) (left : List (List ℕ)) (r : List Collected)
    → IsSoFar m items all (next ∷ left) r → JoinedAsCut m parts r
so_far_joined m parts items all next left [] so_far = nothing_joined m parts
so_far_joined m parts items all next left (c ∷ cs) so_far = some_joined m parts items all next left c cs so_far

joined : (m : Message) (parts : List (List ℕ)) (u : Bool) (d : Device) (r : List Collected) → Stands m (parts_of m parts) m.body u d r → JoinedAsCut m parts r
joined m parts u d r (inl l) =
    let P : List Collected → Type 0 = λ xs. JoinedAsCut m parts xs in
    subst P (sym l.are) (some_joined m parts (parts_of m parts) m.body l.next l.left l.first l.behind l.so_far)
joined m parts u d r (inr (inl l)) = so_far_joined m parts (parts_of m parts) m.body l.next l.left r l.so_far
joined m parts u d r (inr (inr done)) =
    let P : List Collected → Type 0 = λ xs. JoinedAsCut m parts xs in
    subst P (sym done.are) (whole_joined m parts done.first done.behind done.whole)

pub are_joined : CutMessagesAreJoined
are_joined s d m part parts others f r heard events bytes waiting fresh run =
    let t : DeviceState = after s (Polled (Gives f r) heard) in
    let e : Device = device_after s d (Polled (Gives f r) heard) in
    let all : List (List ℕ) = part ∷ parts in
    let st = begun m (parts_of m all) m.body s t d e part parts others refl bytes waiting fresh (gives s d f r heard run.0) in
    let done = ran m (parts_of m all) m.body s.recorded t e events st run.1 in
    record { recorded = done.1.0; is_recorded = done.1.1; joined = joined m all (after_all t events).unanswered done.0 done.1.0 done.1.2 }
