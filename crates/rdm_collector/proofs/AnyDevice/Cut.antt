-- The parts of a message are joined to it.
use Rattle.std.proofs.Common.{◌≡◌, ◌⊎◌, ℕ, ◌==◌, ◌&&◌, ◌||◌, not, Bool, true, false, List, [], ◌∷◌, ◌++◌, take, flat_map, refl, sym, ap, subst, ◌∙◌, true≢false, inl, inr, append_assoc}
use Rattle.std.specs.List.{list_any}
use Rattle.std.proofs.Math.Bool.{or-false}
use Rattle.std.proofs.lemmas.Bool.{cases_Bool, and_from, or_left, or_right, eq-eqb, eqb-true, cond-true, cond-false}
use Rattle.std.proofs.lemmas.List.{append-nil}
use Rattle.std.proofs.lemmas.List.Folds.{list_any-append}
use Rattle.rdm_frame.specs.declared.message.Message.{Message}
use Rattle.rdm_collector.specs.declared.reply.Response.{Response}
use Rattle.rdm_collector.specs.declared.any_device.collected.Collected.{Collected}
use Rattle.rdm_collector.specs.AnyDevice.Cut.{response_before, parts_of, NeighboursDiffer, is_end, JoinedAsCut}
use Rattle.rdm_collector.specs.AnyDevice.Items.{Item, item_of, same_item, type_code}
use Rattle.rdm_collector.specs.AnyDevice.Parts.{is_part, same_parameter, is_repeat, goes_on, first_run, has_whole, is_unsure_behind, is_sure, data_behind, joined_data}
use Rattle.rdm_collector.proofs.AnyDevice.GoingOn.{end_of, GoOn, StopsAt, end_of-push, GoOn-push, data_behind-push, unsure-kept, unsure-pushed, whole_of, not_whole_of, front_of}
use Rattle.rdm_collector.proofs.AnyDevice.Joining.{item-refl}

-- the data of parts, one behind the other
abbrev pub all_of : List (List ℕ) → List ℕ
all_of parts = flat_map (λ part. part) parts

-- a part, with these behind it
abbrev pub part_of : Message → List ℕ → List (List ℕ) → Item
part_of m part others = record { response = response_before others; message = record m { body = part } }

-- nothing is left
abbrev pub is_over : List (List ℕ) → Bool
is_over [] = true
is_over (part ∷ others) = false

-- These are joined to all but what is left; or one of them may be a repeat or a part.
abbrev pub AreJoined : List Item → List ℕ → List ℕ → Collected → List Collected → Type 0
AreJoined items all left c cs = (joined_data (c ∷ cs) ++ left ≡ all) ⊎ ((NeighboursDiffer items → ⊥) × (is_unsure_behind c cs ≡ true))

-- The message was recorded but for these parts, which are left.
pub record IsBut (m : Message) (items : List Item) (all : List ℕ) (left : List (List ℕ)) (c : Collected) (cs : List Collected) : Type 0 where
  pub before : List Item
  pub items_are : before ++ item_of (end_of c cs) ∷ parts_of m left ≡ items
  pub part : List ℕ
  pub last : item_of (end_of c cs) ≡ part_of m part left
  pub go_on : GoOn c cs
  pub ended : list_any is_end (c ∷ cs) ≡ is_over left
  pub joined : AreJoined items all (all_of left) c cs

-- The message was recorded, and others behind it.
pub record IsWhole (items : List Item) (all : List ℕ) (c : Collected) (cs : List Collected) : Type 0 where
  pub parts : List Collected
  pub others : List Collected
  pub are : cs ≡ parts ++ others
  pub go_on : GoOn c parts
  pub ends : is_part (end_of c parts).response ≡ false
  pub stops : StopsAt (end_of c parts) others
  pub ended : list_any is_end (c ∷ cs) ≡ true
  pub joined : AreJoined items all [] c parts

-- ---- what is joined

again_from : (again same : Bool) → (again && same) ≡ true → again ≡ true
again_from true same e = refl
again_from false same e = absurd cc

same_from : (again same : Bool) → (again && same) ≡ true → same ≡ true
same_from true same e = e
same_from false same e = absurd cc

-- with a repeat behind them they are joined to the same, and with something new to what that says too
repeat_joins : (c : Collected) (cs : List Collected) (d : Collected) → is_repeat (end_of c cs) d ≡ true → joined_data (c ∷ (cs ++ d ∷ [])) ≡ joined_data (c ∷ cs)
repeat_joins c cs d e =
    ap (λ (xs : List ℕ). c.message.body ++ xs) (data_behind-push c cs d ∙ ap (λ (xs : List ℕ). data_behind c cs ++ xs) (cond-true _ _ _ e) ∙ append-nil (data_behind c cs))

new_joins : (c : Collected) (cs : List Collected) (d : Collected) → is_repeat (end_of c cs) d ≡ false → joined_data (c ∷ (cs ++ d ∷ [])) ≡ joined_data (c ∷ cs) ++ d.message.body
new_joins c cs d e =
    ap (λ (xs : List ℕ). c.message.body ++ xs) (data_behind-push c cs d ∙ ap (λ (xs : List ℕ). data_behind c cs ++ xs) (cond-false _ _ _ e))
    ∙ sym (append_assoc c.message.body (data_behind c cs) d.message.body)

pushed_joined : (all part left : List ℕ) (c : Collected) (cs : List Collected) (d : Collected) → d.message.body ≡ part → is_repeat (end_of c cs) d ≡ false
    → joined_data (c ∷ cs) ++ (part ++ left) ≡ all → joined_data (c ∷ (cs ++ d ∷ [])) ++ left ≡ all
pushed_joined all part left c cs d body new bytes =
    ap (λ (xs : List ℕ). xs ++ left) (new_joins c cs d new ∙ ap (λ (xs : List ℕ). joined_data (c ∷ cs) ++ xs) body)
    ∙ append_assoc (joined_data (c ∷ cs)) part left ∙ bytes

repeat_joined : (items : List Item) (all left : List ℕ) (c : Collected) (cs : List Collected) (d : Collected) → is_repeat (end_of c cs) d ≡ true
    → AreJoined items all left c cs → AreJoined items all left c (cs ++ d ∷ [])
repeat_joined items all left c cs d e (inl bytes) = inl (ap (λ (xs : List ℕ). xs ++ left) (repeat_joins c cs d e) ∙ bytes)
repeat_joined items all left c cs d e (inr (same, unsure)) = inr (same, unsure-kept c cs d unsure)

-- ---- a part is recorded

-- an ACK alone is an end, and an ACK_OVERFLOW a part
end_before : (others : List (List ℕ)) → (type_code (response_before others) == 0x00) ≡ is_over others
end_before [] = refl
end_before (part ∷ others) = refl

response_is : (x : Item) (m : Message) (part : List ℕ) (others : List (List ℕ)) → x ≡ part_of m part others → x.response ≡ response_before others
response_is x m part others e = ap (λ (y : Item). y.response) e

is_end_is : (c : Collected) (m : Message) (part : List ℕ) (others : List (List ℕ)) → item_of c ≡ part_of m part others → is_end c ≡ is_over others
is_end_is c m part others e = ap (λ (r : Response). type_code r == 0x00) (response_is (item_of c) m part others e) ∙ end_before others

body_is : (c : Collected) (m : Message) (part : List ℕ) (others : List (List ℕ)) → item_of c ≡ part_of m part others → c.message.body ≡ part
body_is c m part others e = ap (λ (y : Item). y.message.body) e

-- the first
pub first_recorded : (m : Message) (items : List Item) (all part : List ℕ) (left : List (List ℕ)) (c : Collected) → item_of c ≡ part_of m part left
    → parts_of m (part ∷ left) ≡ items → all_of (part ∷ left) ≡ all → IsBut m items all left c []
first_recorded m items all part left c is are bytes = record {
  before = [];
  items_are = ap (λ (x : Item). x ∷ parts_of m left) is ∙ are;
  part = part;
  last = is;
  go_on = tt;
  ended = or-false (is_end c) ∙ is_end_is c m part left is;
  joined = inl (ap (λ (xs : List ℕ). xs ++ all_of left) (append-nil c.message.body ∙ body_is c m part left is) ∙ bytes);
}

same_parameters : (m : Message) (a b : List ℕ) (x y : Item) (p q : List (List ℕ)) → x ≡ part_of m a p → y ≡ part_of m b q → same_parameter x.message y.message ≡ true
same_parameters m a b x y p q ex ey =
    rw (ex, ey) (and_from _ _ (and_from _ _ (eq-eqb m.class m.class refl) (eq-eqb m.pid m.pid refl)) (eq-eqb m.sub m.sub refl))

part_before : (e : Collected) (m : Message) (a next : List ℕ) (left : List (List ℕ)) → item_of e ≡ part_of m a (next ∷ left) → is_part e.response ≡ true
part_before e m a next left is = ap (λ (x : Item). is_part x.response) is

next_goes_on : (m : Message) (a b : List ℕ) (left : List (List ℕ)) (e d : Collected) → item_of e ≡ part_of m a (b ∷ left) → item_of d ≡ part_of m b left → goes_on e d ≡ true
next_goes_on m a b left e d ee ed =
    or_right (is_repeat e d) _ (and_from _ _ (part_before e m a b left ee) (same_parameters m a b (item_of e) (item_of d) (b ∷ left) left ee ed))

-- what is joined then: the next part isn't a repeat, or can't be told from one
next_joined : (m : Message) (items : List Item) (all part : List ℕ) (left : List (List ℕ)) (c : Collected) (cs : List Collected) (d : Collected) (before : List Item)
    → before ++ item_of (end_of c cs) ∷ parts_of m (part ∷ left) ≡ items → is_part (end_of c cs).response ≡ true → item_of d ≡ part_of m part left
    → (d.again ≡ true → d.after_loss ≡ true) → AreJoined items all (all_of (part ∷ left)) c cs → AreJoined items all (all_of left) c (cs ++ d ∷ [])
next_joined m items all part left c cs d before are is_a_part is lost (inr (same, unsure)) = inr (same, unsure-kept c cs d unsure)
next_joined m items all part left c cs d before are is_a_part is lost (inl bytes) =
    elim (cases_Bool (is_repeat (end_of c cs) d)) [
      | inl repeat ↦ inr (
        (λ differ. true≢false (sym (same_from d.again _ repeat) ∙ ap (same_item (item_of (end_of c cs))) is ∙ differ before (parts_of m left) (item_of (end_of c cs)) (part_of m part left) (sym are))),
        unsure-pushed c cs d (and_from _ _ is_a_part (lost (again_from d.again _ repeat))),
      )
      | inr new ↦ inl (pushed_joined all part (all_of left) c cs d (body_is d m part left is) new bytes)
    ]

pub next_recorded : (m : Message) (items : List Item) (all part : List ℕ) (left : List (List ℕ)) (c : Collected) (cs : List Collected) (d : Collected)
    → IsBut m items all (part ∷ left) c cs → item_of d ≡ part_of m part left → (d.again ≡ true → d.after_loss ≡ true) → IsBut m items all left c (cs ++ d ∷ [])
next_recorded m items all part left c cs d so_far is lost =
    let e : Collected = end_of c cs in
    let x : Item = item_of d in
    let pushed : item_of (end_of c (cs ++ d ∷ [])) ≡ x = ap item_of (end_of-push c cs d) in
    record {
      before = so_far.before ++ item_of e ∷ [];
      items_are = append_assoc so_far.before (item_of e ∷ []) _ ∙ ap (λ (y : Item). so_far.before ++ item_of e ∷ y ∷ parts_of m left) (pushed ∙ is) ∙ so_far.items_are;
      part = part;
      last = pushed ∙ is;
      go_on = GoOn-push c cs d so_far.go_on (next_goes_on m so_far.part part left e d so_far.last is);
      ended = list_any-append is_end (c ∷ cs) (d ∷ []) ∙ ap (λ (b : Bool). b || (is_end d || false)) so_far.ended ∙ or-false (is_end d) ∙ is_end_is d m part left is;
      joined = next_joined m items all part left c cs d so_far.before so_far.items_are (part_before e m so_far.part part left so_far.last) is lost so_far.joined;
    }

-- ---- a repeat is recorded

pub repeat_recorded : (m : Message) (items : List Item) (all next : List ℕ) (left : List (List ℕ)) (c : Collected) (cs : List Collected) (d : Collected)
    → IsBut m items all (next ∷ left) c cs → item_of d ≡ item_of (end_of c cs) → d.again ≡ true → IsBut m items all (next ∷ left) c (cs ++ d ∷ [])
repeat_recorded m items all next left c cs d so_far is again =
    let e : Collected = end_of c cs in
    let same : same_item (item_of e) (item_of d) ≡ true = ap (same_item (item_of e)) is ∙ item-refl (item_of e) in
    let repeat : is_repeat e d ≡ true = and_from _ _ again same in
    let pushed : item_of (end_of c (cs ++ d ∷ [])) ≡ item_of e = ap item_of (end_of-push c cs d) ∙ is in
    record {
      before = so_far.before;
      items_are = ap (λ (y : Item). so_far.before ++ y ∷ parts_of m (next ∷ left)) pushed ∙ so_far.items_are;
      part = so_far.part;
      last = pushed ∙ so_far.last;
      go_on = GoOn-push c cs d so_far.go_on (or_left _ _ repeat);
      ended = list_any-append is_end (c ∷ cs) (d ∷ []) ∙ ap (λ (b : Bool). b || (is_end d || false)) so_far.ended ∙ or-false (is_end d) ∙ is_end_is d m so_far.part (next ∷ left) (is ∙ so_far.last);
      joined = repeat_joined items all (all_of (next ∷ left)) c cs d repeat so_far.joined;
    }

-- ---- all is recorded

pub all_recorded : (m : Message) (items : List Item) (all : List ℕ) (c : Collected) (cs : List Collected) → IsBut m items all [] c cs → IsWhole items all c cs
all_recorded m items all c cs so_far = record {
  parts = cs;
  others = [];
  are = sym (append-nil cs);
  go_on = so_far.go_on;
  ends = ap (λ (x : Item). is_part x.response) so_far.last;
  stops = tt;
  ended = so_far.ended;
  joined = so_far.joined;
}

-- .. and something else behind it
ended_too : (c : Collected) (cs : List Collected) (d : Collected) → list_any is_end (c ∷ cs) ≡ true → list_any is_end (c ∷ (cs ++ d ∷ [])) ≡ true
ended_too c cs d e = list_any-append is_end (c ∷ cs) (d ∷ []) ∙ or_left _ _ e

-- what says the same as no part is none
no_part_either : (x y : Item) → same_item x y ≡ true → is_part x.response ≡ false → is_part y.response ≡ false
unfolding same_item
no_part_either x y same e =
    let codes : type_code x.response ≡ type_code y.response = eqb-true (type_code x.response) (type_code y.response) (again_from _ _ same) in
    ap (λ (n : ℕ). n == 0x03) (sym codes) ∙ e

repeat_only : (part repeat same : Bool) → part ≡ false → (repeat || (part && same)) ≡ true → repeat ≡ true
repeat_only false true same p e = refl
repeat_only false false same p e = e
repeat_only true repeat same p e = absurd cc

repeat_behind : (items : List Item) (all : List ℕ) (c : Collected) (cs parts : List Collected) (d : Collected) → cs ≡ parts ++ [] → GoOn c parts
    → is_part (end_of c parts).response ≡ false → list_any is_end (c ∷ cs) ≡ true → AreJoined items all [] c parts → is_repeat (end_of c parts) d ≡ true
    → IsWhole items all c (cs ++ d ∷ [])
repeat_behind items all c cs parts d are go ends ended joined repeat = record {
  parts = parts ++ d ∷ [];
  others = [];
  are = ap (λ (xs : List Collected). xs ++ d ∷ []) (are ∙ append-nil parts) ∙ sym (append-nil (parts ++ d ∷ []));
  go_on = GoOn-push c parts d go (or_left _ _ repeat);
  ends = ap (λ (x : Collected). is_part x.response) (end_of-push c parts d) ∙ no_part_either (item_of (end_of c parts)) (item_of d) (same_from d.again _ repeat) ends;
  stops = tt;
  ended = ended_too c cs d ended;
  joined = repeat_joined items all [] c parts d repeat joined;
}

other_behind : (items : List Item) (all : List ℕ) (c : Collected) (cs parts others : List Collected) (d : Collected) → cs ≡ parts ++ others → GoOn c parts
    → is_part (end_of c parts).response ≡ false → StopsAt (end_of c parts) (others ++ d ∷ []) → list_any is_end (c ∷ cs) ≡ true → AreJoined items all [] c parts
    → IsWhole items all c (cs ++ d ∷ [])
other_behind items all c cs parts others d are go ends stops ended joined = record {
  parts = parts;
  others = others ++ d ∷ [];
  are = ap (λ (xs : List Collected). xs ++ d ∷ []) are ∙ append_assoc parts others (d ∷ []);
  go_on = go;
  ends = ends;
  stops = stops;
  ended = ended_too c cs d ended;
  joined = joined;
}

behind_at : (items : List Item) (all : List ℕ) (c : Collected) (cs parts others : List Collected) (d : Collected) → cs ≡ parts ++ others → GoOn c parts
    → is_part (end_of c parts).response ≡ false → StopsAt (end_of c parts) others → list_any is_end (c ∷ cs) ≡ true → AreJoined items all [] c parts
    → IsWhole items all c (cs ++ d ∷ [])
behind_at items all c cs parts (o ∷ os) d are go ends stops ended joined = other_behind items all c cs parts (o ∷ os) d are go ends stops ended joined
behind_at items all c cs parts [] d are go ends stops ended joined =
    elim (cases_Bool (goes_on (end_of c parts) d)) [
      | inl goes ↦ repeat_behind items all c cs parts d are go ends ended joined (repeat_only (is_part (end_of c parts).response) _ _ ends goes)
      | inr stop ↦ other_behind items all c cs parts [] d are go ends stop ended joined
    ]

pub behind_recorded : (items : List Item) (all : List ℕ) (c : Collected) (cs : List Collected) (d : Collected) → IsWhole items all c cs → IsWhole items all c (cs ++ d ∷ [])
behind_recorded items all c cs d w = behind_at items all c cs w.parts w.others d w.are w.go_on w.ends w.stops w.ended w.joined

-- ---- what was recorded then

not_whole : (m : Message) (parts : List (List ℕ)) (recorded : List Collected) → has_whole recorded ≡ false → list_any is_end recorded ≡ false → JoinedAsCut m parts recorded
not_whole m parts recorded whole ended = record {
  whole = whole ∙ sym ended;
  differing = λ differ e. absurd (true≢false (sym e ∙ whole));
  sure = λ is_sure e. absurd (true≢false (sym e ∙ whole));
}

pub nothing_joined : (m : Message) (parts : List (List ℕ)) → JoinedAsCut m parts []
nothing_joined m parts = not_whole m parts [] refl refl

pub some_joined : (m : Message) (parts : List (List ℕ)) (items : List Item) (all next : List ℕ) (left : List (List ℕ)) (c : Collected) (cs : List Collected)
    → IsBut m items all (next ∷ left) c cs → JoinedAsCut m parts (c ∷ cs)
some_joined m parts items all next left c cs so_far =
    not_whole m parts (c ∷ cs) (not_whole_of c cs so_far.go_on (part_before (end_of c cs) m so_far.part next left so_far.last)) so_far.ended

differing_joined : (items : List Item) (all : List ℕ) (c : Collected) (parts : List Collected) → NeighboursDiffer items → AreJoined items all [] c parts → joined_data (c ∷ parts) ≡ all
differing_joined items all c parts differ (inl bytes) = sym (append-nil (joined_data (c ∷ parts))) ∙ bytes
differing_joined items all c parts differ (inr (same, unsure)) = absurd (same differ)

not_both : (b : Bool) → not b ≡ true → b ≡ true → ⊥
not_both true e x = cc
not_both false e x = cc

sure_joined : (items : List Item) (all : List ℕ) (c : Collected) (parts : List Collected) → is_sure (c ∷ parts) ≡ true → AreJoined items all [] c parts → joined_data (c ∷ parts) ≡ all
sure_joined items all c parts sure (inl bytes) = sym (append-nil (joined_data (c ∷ parts))) ∙ bytes
sure_joined items all c parts sure (inr (same, unsure)) = absurd (not_both (is_unsure_behind c parts) sure unsure)

whole_at : (m : Message) (cut : List (List ℕ)) (c : Collected) (parts others : List Collected) → IsWhole (parts_of m cut) m.body c (parts ++ others)
    → GoOn c parts → is_part (end_of c parts).response ≡ false → StopsAt (end_of c parts) others → AreJoined (parts_of m cut) m.body [] c parts
    → JoinedAsCut m cut (c ∷ (parts ++ others))
whole_at m cut c parts others w go ends stops joined =
    let front : take (first_run (c ∷ (parts ++ others))) (c ∷ (parts ++ others)) ≡ c ∷ parts = front_of c parts others go stops in
    record {
      whole = whole_of c parts others go ends stops ∙ sym w.ended;
      differing = λ differ e. ap joined_data front ∙ differing_joined (parts_of m cut) m.body c parts differ joined;
      sure = λ sure e. ap joined_data front ∙ sure_joined (parts_of m cut) m.body c parts (ap is_sure (sym front) ∙ sure) joined;
    }

pub whole_joined : (m : Message) (cut : List (List ℕ)) (c : Collected) (cs : List Collected) → IsWhole (parts_of m cut) m.body c cs → JoinedAsCut m cut (c ∷ cs)
whole_joined m cut c cs w =
    let P : List Collected → Type 0 = λ xs. JoinedAsCut m cut (c ∷ xs) in
    let Q : List Collected → Type 0 = λ xs. IsWhole (parts_of m cut) m.body c xs in
    subst P (sym w.are) (whole_at m cut c w.parts w.others (subst Q w.are w) w.go_on w.ends w.stops w.joined)
