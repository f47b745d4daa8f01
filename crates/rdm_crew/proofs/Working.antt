-- What each step of a worker keeps.
use Rattle.std.proofs.Common.{◌≡◌, ◌<◌, ◌+◌, ℕ, true, false, List, [], ◌∷◌, ◌++◌, length, refl, sym, ◌∙◌, ap, subst, arith, append_assoc, append-nil}
use Rattle.std.proofs.lemmas.List.{length-append}
use Rattle.rdm_commands.specs.declared.jobs.outcome.Outcome.{Outcome}
use Rattle.rdm_outbox.specs.declared.job.Job.{Job}
use Rattle.rdm_responder.specs.declared.report.Report.{Report}
use Rattle.rdm_lane.specs.declared.taken.Taken.{Taken}
use Rattle.rdm_lane.specs.declared.taken.Taken.TheVariants.{Item, Mark}
use Rattle.rdm_lane.specs.Ends.{PostState, TakeState, IsNext, IsSameTake, IsSamePost, took, with_item}
use Rattle.rdm_lane.specs.Lane.{of, has_mark, items_of, items_from}
use Rattle.rdm_crew.specs.declared.threads.worker.Worked.{Worked}
use Rattle.rdm_crew.specs.Workers.{Answers, AnswersAfter, IsIdle, IsWorking, IsWorked}
use Rattle.rdm_crew.proofs.Items.{from-item, from-mark, count}

-- one more job and a report on it
answers-push : (gives : List Job → Job → Outcome → Type 0) (before js : List Job) (rs : List Report) (j : Job) (r : Report) → AnswersAfter gives before js rs → length js ≡ length rs → r.job ≡ j → gives (before ++ js) j r.outcome → AnswersAfter gives before (js ++ j ∷ []) (rs ++ r ∷ [])
answers-push gives before [] [] j r answered many own given = (own, subst (λ (l : List Job). gives l j r.outcome) (append-nil before) given, tt)
answers-push gives before [] (s ∷ rs) j r answered many own given = absurd answered
answers-push gives before (i ∷ js) [] j r answered many own given = absurd (omega arith)
answers-push gives before (i ∷ js) (s ∷ rs) j r answered many own given =
    (answered.0, answered.1, answers-push gives (before ++ i ∷ []) js rs j r answered.2 (omega arith) own (subst (λ (l : List Job). gives l j r.outcome) (sym (append_assoc before (i ∷ []) js)) given))

-- one more job, and no report yet
answers-more : (gives : List Job → Job → Outcome → Type 0) (before js : List Job) (rs : List Report) (more : List Job) → AnswersAfter gives before js rs → AnswersAfter gives before (js ++ more) rs
answers-more gives before js [] more answered = tt
answers-more gives before [] (r ∷ rs) more answered = absurd answered
answers-more gives before (j ∷ js) (r ∷ rs) more answered = (answered.0, answered.1, answers-more gives (before ++ j ∷ []) js rs more answered.2)

-- What a part gives now after more jobs, it gave at first after these and more.
abbrev pub Counts : (first now : List Job → Job → Outcome → Type 0) → List Job → Type 0
Counts first now done = (before : List Job) (j : Job) (o : Outcome) → now before j o → first (done ++ before) j o

-- what it gives for the next job
pub given_next : (first now : List Job → Job → Outcome → Type 0) (done : List Job) (j : Job) (o : Outcome) → Counts first now done → now [] j o → first done j o
given_next first now done j o counts given = subst (λ (l : List Job). first l j o) (append-nil done) (counts [] j o given)

no_items : length (items_from {T = Job} 0 []) ≡ 0
unfolding items_of
no_items = refl

-- the ends before the first job
pub begins : (gives : List Job → Job → Outcome → Type 0) (jobs : TakeState Job) (reports : PostState Report) → IsIdle jobs reports → IsWorking gives jobs reports jobs reports
begins gives jobs reports idle = record {
  take = (refl, refl);
  post = (refl, refl, refl);
  one_post = idle.one_post;
  limit = idle.limit;
  answers = subst (λ rs. Answers gives (items_from 0 jobs.taken) rs) (sym idle.none_put) tt;
  each = subst (λ es. length (items_from 0 es) ≡ length reports.items) (sym idle.none_taken) (subst (λ rs. length (items_from {T = Job} 0 []) ≡ length rs) (sym idle.none_put) no_items);
}

pub begun : (first : List Job → Job → Outcome → Type 0) (jobs : TakeState Job) (reports : PostState Report) → IsIdle jobs reports → Counts first first (items_from 0 jobs.taken)
unfolding items_of
begun first jobs reports idle before j o given = subst (λ es. first (items_from 0 es ++ before) j o) (sym idle.none_taken) given

module _ (gives : List Job → Job → Outcome → Type 0) (jobs : TakeState Job) (reports : PostState Report) (s : TakeState Job) (p : PostState Report) (working : IsWorking gives jobs reports s p) where
  one : s.posts ≡ 1
  one = working.take.1 ∙ working.one_post

  -- a job that is taken is the only post's
  first : (q : ℕ) → q < s.posts → q ≡ 0
  first q below = let posts : s.posts ≡ 1 = one in omega arith

  -- there is room for a report on a job that was taken
  pub room : (e : Taken Job) (q n : ℕ) (j : Job) → e ≡ Item q n j → IsNext s e → length p.items < p.limit
  room e q n j same came =
      let next : IsNext s (Item q n j) = subst (IsNext s) same came in
      let none : has_mark 0 s.taken ≡ false = subst (λ k. has_mark k s.taken ≡ false) (first q next.0) next.3 in
      let number : n ≡ length (of 0 s.taken) = subst (λ k. n ≡ length (of k s.taken)) (first q next.0) next.1 in
      let below : n < 4294967295 = next.2 in
      let many : length (items_from 0 s.taken) ≡ length (of 0 s.taken) = count 0 s.taken none in
      let each : length (items_from 0 s.taken) ≡ length p.items = working.each in
      let limit : p.limit ≡ 4294967295 = working.post.2 ∙ working.limit in
      omega arith

  -- the jobs after one more
  pub taken_after : (e : Taken Job) (q n : ℕ) (j : Job) → e ≡ Item q n j → IsNext s e → items_from 0 (took s e).taken ≡ items_from 0 s.taken ++ j ∷ []
  taken_after e q n j same came =
      let next : IsNext s (Item q n j) = subst (IsNext s) same came in
      ap (λ k. items_from 0 (took s k).taken) same ∙ ap (λ k. items_from 0 (s.taken ++ Item k n j ∷ [])) (first q next.0) ∙ from-item s.taken n j

  -- one more job and a report on it
  pub reports_one : (e : Taken Job) (q n : ℕ) (j : Job) (r : Report) (t : TakeState Job) (o : PostState Report) → e ≡ Item q n j → IsNext s e
      → t ≡ took s e → o ≡ with_item p r → r.job ≡ j → gives (items_from 0 s.taken) j r.outcome → IsWorking gives jobs reports t o
  reports_one e q n j r t o same came took_one put_one own given =
      subst (λ u. IsWorking gives jobs reports u o) (sym took_one) (subst (IsWorking gives jobs reports (took s e)) (sym put_one) (record {
        take = working.take;
        post = working.post;
        one_post = working.one_post;
        limit = working.limit;
        answers = subst (λ js. Answers gives js (p.items ++ r ∷ [])) (sym (taken_after e q n j same came)) (answers-push gives [] (items_from 0 s.taken) p.items j r working.answers working.each own given);
        each = ap length (taken_after e q n j same came) ∙ length-append (items_from 0 s.taken) (j ∷ []) ∙ ap (λ k. k + 1) working.each ∙ sym (length-append p.items (r ∷ []));
      }))

  -- a mark
  pub marks : (e : Taken Job) (q : ℕ) (t : TakeState Job) → e ≡ Mark q → t ≡ took s e → IsWorking gives jobs reports t p
  marks e q t same took_one =
      let after : items_from 0 (took s e).taken ≡ items_from 0 s.taken = ap (λ k. items_from 0 (took s k).taken) same ∙ from-mark 0 q s.taken (Mark q) refl in
      subst (λ u. IsWorking gives jobs reports u p) (sym took_one) (record {
        take = working.take;
        post = working.post;
        one_post = working.one_post;
        limit = working.limit;
        answers = subst (λ js. Answers gives js p.items) (sym after) working.answers;
        each = ap length after ∙ working.each;
      })

  -- The end, where memory is refused for the report on the last job.
  pub ends_without : (e : Taken Job) (q n : ℕ) (j : Job) (t : TakeState Job) (o : PostState Report) (w : Worked) → e ≡ Item q n j → IsNext s e
      → t ≡ took s e → o ≡ p → w.jobs ≡ t → w.reports ≡ o → w.refused ≡ true → IsWorked gives jobs reports w
  ends_without e q n j t o w same came took_one put_none its_jobs its_reports refused =
      let after : items_from 0 w.jobs.taken ≡ items_from 0 s.taken ++ j ∷ [] = ap (λ u. items_from 0 u.taken) (its_jobs ∙ took_one) ∙ taken_after e q n j same came in
      let post : w.reports ≡ p = its_reports ∙ put_none in
      let whole : w.jobs ≡ took s e = its_jobs ∙ took_one in
      record {
        take = subst (IsSameTake jobs) (sym whole) working.take;
        post = subst (IsSamePost reports) (sym post) working.post;
        answers = subst (λ js. Answers gives js w.reports.items) (sym after) (subst (λ u. Answers gives (items_from 0 s.taken ++ j ∷ []) u.items) (sym post) (answers-more gives [] (items_from 0 s.taken) p.items (j ∷ []) working.answers));
        save_one =
            let many : length (items_from 0 w.jobs.taken) ≡ length (items_from 0 s.taken) + 1 = ap length after ∙ length-append (items_from 0 s.taken) (j ∷ []) in
            let each : length (items_from 0 s.taken) ≡ length p.items = working.each in
            let put : length w.reports.items ≡ length p.items = ap (λ u. length u.items) post in
            omega arith;
        all = λ not. absurd cc;
      }

module _ (gives first now : List Job → Job → Outcome → Type 0) (jobs : TakeState Job) (reports : PostState Report) (s : TakeState Job) (p : PostState Report) (working : IsWorking gives jobs reports s p) where
  -- it counts a mark as nothing
  pub counted_still : (e : Taken Job) (q : ℕ) (t : TakeState Job) → e ≡ Mark q → t ≡ took s e → Counts first now (items_from 0 s.taken) → Counts first now (items_from 0 t.taken)
  counted_still e q t same took_one counts =
      let after : items_from 0 (took s e).taken ≡ items_from 0 s.taken = ap (λ k. items_from 0 (took s k).taken) same ∙ from-mark 0 q s.taken (Mark q) refl in
      subst (λ u. Counts first now (items_from 0 u.taken)) (sym took_one) (subst (Counts first now) (sym after) counts)

module _ (gives first now later : List Job → Job → Outcome → Type 0) (jobs : TakeState Job) (reports : PostState Report) (s : TakeState Job) (p : PostState Report) (working : IsWorking gives jobs reports s p) where
  -- it counts a job that it does
  pub counted_on : (e : Taken Job) (q n : ℕ) (j : Job) (t : TakeState Job) → e ≡ Item q n j → IsNext s e → t ≡ took s e → Counts first now (items_from 0 s.taken)
      → ((before : List Job) (i : Job) (o : Outcome) → later before i o → now (j ∷ before) i o) → Counts first later (items_from 0 t.taken)
  counted_on e q n j t same came took_one counts counts_one =
      let done : List Job = items_from 0 s.taken in
      let more : Counts first later (done ++ j ∷ []) = λ before i o given. subst (λ (l : List Job). first l i o) (sym (append_assoc done (j ∷ []) before)) (counts (j ∷ before) i o (counts_one before i o given)) in
      subst (λ u. Counts first later (items_from 0 u.taken)) (sym took_one) (subst (Counts first later) (sym (taken_after gives jobs reports s p working e q n j same came)) more)
