-- Nothing of a worker comes after its close, by the law of the report lane.
use Rattle.std.proofs.Common.{◌≡◌, ℕ, zero, suc, ◌+◌, ◌<◌, ◌≢◌, ◌==◌, Bool, true, false, cond, List, [], ◌∷◌, ◌++◌, refl, sym, ap, subst, ◌∙◌, arith, append_assoc, ⊎_elim}
use Rattle.std.specs.List.{list_any}
use Rattle.std.proofs.lemmas.Bool.{eqb-true, eq-eqb}
use Rattle.std.proofs.lemmas.Bool.Decides.{eqb_tells}
use Rattle.std.proofs.lemmas.List.Elements.{filter-append}
use Rattle.rdm_params.specs.Jobs.Work.{Choice, worker_at}
use Rattle.rdm_responder.specs.declared.report.Report.{Report}
use Rattle.rdm_bus.specs.Happened.{reports_of}
use Rattle.rdm_bus.specs.Headline.{Handed, Result as Came, Close, results_in, NothingAfterClose}
use Rattle.rdm_lane.specs.declared.taken.Taken.{Taken}
use Rattle.rdm_lane.specs.declared.taken.Taken.TheVariants.{Item, Mark, Empty, Closed}
use Rattle.rdm_lane.specs.Ends.{IsOver}
use Rattle.rdm_lane.specs.Lane.{is_from, of, is_mark, has_mark, numbered, items_of, items_from}
use Rattle.rdm_crew.specs.declared.bus.desk.Desk.{Desk}
use Rattle.rdm_crew.specs.Closes.{handed_by, HasClosed, IsHandedOver, AfterTheMarkIsRuledOut}
use Rattle.rdm_crew.specs.Desks.{OfTwo, IsDrawn}
use Rattle.rdm_crew.specs.Settling.{IsTakenOf}
use Rattle.rdm_crew.proofs.Accounts.{first_choice}
use Rattle.rdm_crew.proofs.Sorted.{EachOwn, sorted}

-- ---- what is handed over

handed_items : (es : List (Taken Report)) → results_in (handed_by es) ≡ items_of es
unfolding items_of
handed_items [] = refl
handed_items (Item q n r ∷ es) = ap (λ (rs : List Report). r ∷ rs) (handed_items es)
handed_items (Mark q ∷ es) = handed_items es
handed_items (Empty ∷ es) = handed_items es
handed_items (Closed ∷ es) = handed_items es

closed_later : (p : ℕ) (x : Handed) (handed : List Handed) → HasClosed p handed → HasClosed p (x ∷ handed)
closed_later p x handed (before, after, e) = (x ∷ before, after, ap (λ (hs : List Handed). x ∷ hs) e)

closes_here : (p q : ℕ) (es : List (Taken Report)) (own? : Bool) → (q == p) ≡ own? → (has_mark p es ≡ true → HasClosed p (handed_by es)) → list_any is_mark (cond own? (Mark q ∷ of p es) (of p es)) ≡ true → HasClosed p (Close q ∷ handed_by es)
closes_here p q es true own later marked = ([], handed_by es, ap (λ w. Close w ∷ handed_by es) (eqb-true _ _ own))
closes_here p q es false own later marked = closed_later p (Close q) (handed_by es) (later marked)

item_no_mark : (p q n : ℕ) (r : Report) (es : List (Taken Report)) (own? : Bool) → list_any is_mark (cond own? (Item q n r ∷ of p es) (of p es)) ≡ true → has_mark p es ≡ true
item_no_mark p q n r es true marked = marked
item_no_mark p q n r es false marked = marked

has_closed : (p : ℕ) (es : List (Taken Report)) → has_mark p es ≡ true → HasClosed p (handed_by es)
has_closed p [] marked = absurd cc
has_closed p (Item q n r ∷ es) marked = closed_later p (Came r) (handed_by es) (has_closed p es (item_no_mark p q n r es (q == p) marked))
has_closed p (Mark q ∷ es) marked = closes_here p q es (q == p) refl (has_closed p es) marked
has_closed p (Empty ∷ es) marked = has_closed p es marked
has_closed p (Closed ∷ es) marked = has_closed p es marked

-- ---- nothing after the close

none_left : (xs ys : List (Taken Report)) → xs ++ ys ≡ [] → xs ≡ []
none_left [] ys e = refl
none_left (x ∷ xs) ys e = absurd cc

some_stay : (xs ys : List (Taken Report)) (x : Taken Report) → xs ++ x ∷ ys ≡ [] → ⊥
some_stay [] ys x e = cc
some_stay (y ∷ xs) ys x e = cc

tails : (x y : Taken Report) (xs ys : List (Taken Report)) → x ∷ xs ≡ y ∷ ys → xs ≡ ys
tails x y xs ys e = cc

mark_no_item : (p q n : ℕ) (r : Report) (xs ys : List (Taken Report)) → Mark p ∷ xs ≡ Item q n r ∷ ys → ⊥
mark_no_item p q n r xs ys e = cc

-- a mark in what a closed post has put is the last of it
mark_last : (p n : ℕ) (rs : List Report) (front after rest : List (Taken Report)) → front ++ Mark p ∷ (after ++ rest) ≡ numbered p n rs ++ Mark p ∷ [] → after ≡ []
mark_last p n [] [] after rest e = none_left after rest (tails _ _ _ _ e)
mark_last p n [] (x ∷ front) after rest e = absurd (some_stay front (after ++ rest) (Mark p) (tails _ _ _ _ e))
mark_last p n (r ∷ rs) [] after rest e = absurd (mark_no_item p p n r _ _ e)
mark_last p n (r ∷ rs) (x ∷ front) after rest e = mark_last p (n + 1) rs front after rest (tails _ _ _ _ e)

of_mark : (p : ℕ) (after : List (Taken Report)) → of p (Mark p ∷ after) ≡ Mark p ∷ of p after
of_mark p after = ap (λ (own : Bool). cond own (Mark p ∷ of p after) (of p after)) (eq-eqb p p refl)

none_after : (p : ℕ) (es : List (Taken Report)) (rs : List Report) (before after : List (Taken Report)) → IsTakenOf p es rs → es ≡ before ++ Mark p ∷ after → items_from p after ≡ []
unfolding items_of
none_after p es rs before after (rest, prefix) parts =
    let split : of p es ≡ of p before ++ (Mark p ∷ of p after) = ap (of p) parts ∙ filter-append (is_from p) before (Mark p ∷ after) ∙ ap (λ (l : List (Taken Report)). of p before ++ l) (of_mark p after) in
    ap items_of (mark_last p 0 rs (of p before) (of p after) rest
    (sym (append_assoc (of p before) (Mark p ∷ of p after) rest) ∙ ap (λ (l : List (Taken Report)). l ++ rest) (sym split) ∙ prefix))

-- Where nothing is taken of a worker after its mark, nothing is handed over after its close.
closes : (ws : Choice) (es before : List (Taken Report)) (all : List (Taken Report)) → all ≡ before ++ es
    → ((p : ℕ) (front after : List (Taken Report)) → all ≡ front ++ Mark p ∷ after → reports_of ws p (items_of after) ≡ []) → NothingAfterClose ws (handed_by es)
closes ws [] before all parts none = tt
closes ws (Item q n r ∷ es) before all parts none = closes ws es (before ++ Item q n r ∷ []) all (parts ∙ sym (append_assoc before (Item q n r ∷ []) es)) none
closes ws (Mark q ∷ es) before all parts none =
    (ap (reports_of ws q) (handed_items es) ∙ none q before es parts, closes ws es (before ++ Mark q ∷ []) all (parts ∙ sym (append_assoc before (Mark q ∷ []) es)) none)
closes ws (Empty ∷ es) before all parts none = closes ws es (before ++ Empty ∷ []) all (parts ∙ sym (append_assoc before (Empty ∷ []) es)) none
closes ws (Closed ∷ es) before all parts none = closes ws es (before ++ Closed ∷ []) all (parts ∙ sym (append_assoc before (Closed ∷ []) es)) none

back_own : (ws : Choice) (front es : List (Taken Report)) → EachOwn ws (front ++ es) → EachOwn ws es
back_own ws [] es own = own
back_own ws (Item q n r ∷ front) es own = back_own ws front es own.1
back_own ws (Mark q ∷ front) es own = back_own ws front es own
back_own ws (Empty ∷ front) es own = back_own ws front es own
back_own ws (Closed ∷ front) es own = back_own ws front es own

back_two : (front es : List (Taken Report)) → OfTwo (front ++ es) → OfTwo es
back_two [] es two = two
back_two (Item q n r ∷ front) es two = back_two front es two.1
back_two (Mark q ∷ front) es two = back_two front es two
back_two (Empty ∷ front) es two = back_two front es two
back_two (Closed ∷ front) es two = back_two front es two

-- there is no third worker
not_third : (ws : Choice) (p q : ℕ) (r : Report) (rs : List Report) → q < 2 → reports_of ws (suc (suc p)) rs ≡ [] → cond (q == suc (suc p)) (r ∷ reports_of ws (suc (suc p)) rs) (reports_of ws (suc (suc p)) rs) ≡ []
not_third ws p q r rs below none = ⊎_elim
    (λ (y : ((q == suc (suc p)) ≡ true) × (q ≡ suc (suc p))). absurd (omega (arith, below, y.1)))
    (λ (n : ((q == suc (suc p)) ≡ false) × (q ≢ suc (suc p))). ap (λ (own : Bool). cond own (r ∷ reports_of ws (suc (suc p)) rs) (reports_of ws (suc (suc p)) rs)) n.0 ∙ none)
    (eqb_tells q (suc (suc p)))

no_third : (ws : Choice) (p : ℕ) (es : List (Taken Report)) → OfTwo es → EachOwn ws es → reports_of ws (suc (suc p)) (items_of es) ≡ []
unfolding items_of
no_third ws p [] two own = refl
no_third ws p (Item q n r ∷ es) two own =
    ap (λ w. cond (w == suc (suc p)) (r ∷ reports_of ws (suc (suc p)) (items_of es)) (reports_of ws (suc (suc p)) (items_of es))) own.0
    ∙ not_third ws p q r (items_of es) two.0 (no_third ws p es two.1 own.1)
no_third ws p (Mark q ∷ es) two own = no_third ws p es two own
no_third ws p (Empty ∷ es) two own = no_third ws p es two own
no_third ws p (Closed ∷ es) two own = no_third ws p es two own

module _ (ws : Choice) (d : Desk) (first second : List Report) (own : EachOwn ws d.reports.taken) (two : OfTwo d.reports.taken) (of_first : IsTakenOf 0 d.reports.taken first) (of_second : IsTakenOf 1 d.reports.taken second) where
  none_later : (p : ℕ) (front after : List (Taken Report)) → d.reports.taken ≡ front ++ Mark p ∷ after → reports_of ws p (items_of after) ≡ []
  none_later zero front after parts = sorted ws 0 after (back_own ws front (Mark 0 ∷ after) (subst (EachOwn ws) parts own)) ∙ none_after 0 d.reports.taken first front after of_first parts
  none_later (suc zero) front after parts = sorted ws 1 after (back_own ws front (Mark 1 ∷ after) (subst (EachOwn ws) parts own)) ∙ none_after 1 d.reports.taken second front after of_second parts
  none_later (suc (suc p)) front after parts = no_third ws p after (back_two front (Mark (suc (suc p)) ∷ after) (subst OfTwo parts two)) (back_own ws front (Mark (suc (suc p)) ∷ after) (subst (EachOwn ws) parts own))

  -- what was taken, with both marks, is what was handed over
  pub handed_over : IsDrawn d → IsOver d.reports → IsHandedOver ws d.system.trace (handed_by d.reports.taken)
  handed_over is over =
      let posts : d.reports.posts ≡ 2 = is.posts in
      record {
        enters = sym is.all ∙ sym (handed_items d.reports.taken);
        nothing_after_close = closes ws d.reports.taken [] d.reports.taken refl none_later;
        first_closed = has_closed 0 d.reports.taken (over 0 (omega arith));
        second_closed = has_closed 1 d.reports.taken (over 1 (omega arith));
      }

-- ---- what the headline rules out

kept_none : (ws : Choice) (w : ℕ) (x : Report) (rs : List Report) (own? : Bool) → cond own? (x ∷ reports_of ws w rs) (reports_of ws w rs) ≡ [] → reports_of ws w rs ≡ []
kept_none ws w x rs true e = absurd cc
kept_none ws w x rs false e = e

one_is_none : (r : Report) (rs : List Report) → r ∷ rs ≡ [] → ⊥
one_is_none r rs e = cc

has_later : (ws : Choice) (between after : List (Taken Report)) (p n : ℕ) (r : Report) → reports_of ws (worker_at ws r.job.work) (results_in (handed_by (between ++ Item p n r ∷ after))) ≡ [] → ⊥
has_later ws [] after p n r none =
    let w : ℕ = worker_at ws r.job.work in
    let rest : List Report = reports_of ws w (results_in (handed_by after)) in
    one_is_none r rest (ap (λ (own : Bool). cond own (r ∷ rest) rest) (sym (eq-eqb w w refl)) ∙ none)
has_later ws (Item q m x ∷ between) after p n r none =
    has_later ws between after p n r (kept_none ws (worker_at ws r.job.work) x (results_in (handed_by (between ++ Item p n r ∷ after))) _ none)
has_later ws (Mark q ∷ between) after p n r none = has_later ws between after p n r none
has_later ws (Empty ∷ between) after p n r none = has_later ws between after p n r none
has_later ws (Closed ∷ between) after p n r none = has_later ws between after p n r none

not_later : (ws : Choice) (before between after : List (Taken Report)) (p n : ℕ) (r : Report) → NothingAfterClose ws (handed_by (before ++ Mark (worker_at ws r.job.work) ∷ between ++ Item p n r ∷ after)) → ⊥
not_later ws [] between after p n r closed = has_later ws between after p n r closed.0
not_later ws (Item q m x ∷ before) between after p n r closed = not_later ws before between after p n r closed
not_later ws (Mark q ∷ before) between after p n r closed = not_later ws before between after p n r closed.1
not_later ws (Empty ∷ before) between after p n r closed = not_later ws before between after p n r closed
not_later ws (Closed ∷ before) between after p n r closed = not_later ws before between after p n r closed

pub after_the_mark : AfterTheMarkIsRuledOut
after_the_mark setup steps before between after p n r events collected law =
    let ws : Choice = setup.profile.workers in
    not_later ws before between after p n r
    (subst (λ (v : Choice). NothingAfterClose v (handed_by (before ++ Mark (worker_at ws r.job.work) ∷ between ++ Item p n r ∷ after))) (first_choice setup) law.headline.nothing_after_close)
