-- What happens on a scene happens on each scene of the same device that gives at least as much.
use Rattle.std.proofs.Common.{◌≡◌, ◌<◌, ◌⊎◌, ℕ, suc, List, [], ◌∷◌, ◌++◌, Result, Ok, Err, IfOk, IfErr, subst}
use Rattle.rdm_frame.specs.declared.uid.Uid.{Uid}
use Rattle.rdm_profile.specs.declared.profile.Profile.{Profile}
use Rattle.rdm_commands.specs.declared.panel.Change.{Change}
use Rattle.rdm_commands.specs.declared.jobs.outcome.Outcome.{Outcome}
use Rattle.rdm_params.specs.Jobs.Work.{Choice}
use Rattle.rdm_outbox.specs.declared.job.Job.{Job}
use Rattle.rdm_responder.specs.declared.report.Report.{Report}
use Rattle.rdm_bus.specs.declared.event.Event.{Event}
use Rattle.rdm_bus.specs.BusLaws.{recorded}
use Rattle.rdm_crew.specs.declared.error.RunError.{RunError}
use Rattle.rdm_crew.specs.declared.error.RunError.TheVariants as run
use Rattle.rdm_crew.specs.declared.step.CrewStep.{CrewStep}
use Rattle.rdm_crew.specs.RunTrace.{IsCut, IsAnswered}
use Rattle.rdm_crew.specs.Setups.{IsBadSetup, switched_on}
use Rattle.rdm_crew.specs.Watchers.{AreOffered}
use Rattle.rdm_crew.specs.Workers.{AnswersAfter}
use Rattle.rdm_trace.specs.declared.line.Line.{Line}
use Rattle.rdm_trace.specs.LineText.{lines_text}
use Rattle.rdm_script.specs.Dialects.{Dialect}
use Rattle.rdm_script.specs.declared.dialect.Spelling.{Spelling}
use Rattle.rdm_script.specs.declared.playing.Unplayed.{Unplayed}
use Rattle.rdm_script.specs.declared.playing.Unplayed.TheVariants as unplayed
use Rattle.rdm_script.specs.declared.script.ScriptSetup.{ScriptSetup}
use Rattle.rdm_script.specs.Grammar.{Refuses}
use Rattle.rdm_script.specs.Program.{IsTraceOf, IsStopped}
use Rattle.rdm_script.specs.Playing.{IsPlayOf, IsStoppedAt, IsUnplayed, NamesStopLine}
use Rattle.rdm_script.specs.Running.{crew_setup, IsBad, IsGood, IsScriptRun, Stops}
use Rattle.rdm_script.specs.Scene.{Scene, spoken_at}
use Rattle.rdm_script.specs.Spelling.{IsScript}
use Rattle.rdm_script.specs.Told.{finds_of}
use Rattle.rdm_script.specs.declared.found.Finds.{Finds}
use Rattle.rdm_script.specs.RunLines.{trace_lines}

pub record IsWider (s t : Scene) : Type 0 where
  pub device : s.device ≡ t.device
  pub profile : s.profile ≡ t.profile
  pub spelling : s.spelling ≡ t.spelling
  pub first : (before : List Job) (j : Job) (o : Outcome) → s.first before j o → t.first before j o
  pub second : (before : List Job) (j : Job) (o : Outcome) → s.second before j o → t.second before j o
  pub offers : (n : ℕ) (c : Change) → s.offers n c → t.offers n c

-- what depends on the device alone
moved : (P : Uid → Profile → Type 0) (s t : Scene) → IsWider s t → P s.device s.profile → P t.device t.profile
moved P s t w h = subst (P t.device) w.profile (subst (λ (d : Uid). P d s.profile) w.device h)

-- what depends on the dialect alone
retold : (P : Dialect → Type 0) (s t : Scene) → IsWider s t → P (spoken_at s) → P (spoken_at t)
retold P s t w h =
    let own = s.profile.particulars.own in
    let at_device = subst (λ (d : Uid). P (record { device = d; spelling = s.spelling; own = own })) w.device h in
    let at_spelling = subst (λ (k : Spelling). P (record { device = t.device; spelling = k; own = own })) w.spelling at_device in
    subst (λ (p : Profile). P (record { device = t.device; spelling = t.spelling; own = p.particulars.own })) w.profile at_spelling

-- the lines are those of the device's workers
retraced : (s t : Scene) → IsWider s t → (finds : Dialect → Finds) (events : List Event) (P : List Line → Type 0)
    → P (trace_lines s.profile.workers (finds (spoken_at s)) events (recorded events)) → P (trace_lines t.profile.workers (finds (spoken_at t)) events (recorded events))
retraced s t w finds events P h =
    subst (λ (p : Profile). P (trace_lines p.workers (finds (spoken_at t)) events (recorded events))) w.profile
    (retold (λ (d : Dialect). P (trace_lines s.profile.workers (finds d) events (recorded events))) s t w h)

answers_wider : (f g : List Job → Job → Outcome → Type 0) → ((b : List Job) (j : Job) (o : Outcome) → f b j o → g b j o) → (before js : List Job) (rs : List Report) → AnswersAfter f before js rs → AnswersAfter g before js rs
answers_wider f g wider before js [] h = tt
answers_wider f g wider before [] (r ∷ rs) h = absurd h
answers_wider f g wider before (j ∷ js) (r ∷ rs) h = (h.0, wider before j r.outcome h.1, answers_wider f g wider (before ++ j ∷ []) js rs h.2)

answered_wider : (ws : Choice) (worker : ℕ) (f g : List Job → Job → Outcome → Type 0) → ((b : List Job) (j : Job) (o : Outcome) → f b j o → g b j o) → (events : List Event) → IsAnswered ws worker f events → IsAnswered ws worker g events
answered_wider ws worker f g wider events a = record { answers = answers_wider f g wider [] _ _ a.answers; all = a.all }

offered_wider : (f g : ℕ → Change → Type 0) → ((n : ℕ) (c : Change) → f n c → g n c) → (n : ℕ) (cs : List Change) → AreOffered f n cs → AreOffered g n cs
offered_wider f g wider n [] h = tt
offered_wider f g wider n (c ∷ cs) h = (wider n c h.0, offered_wider f g wider (suc n) cs h.1)

good_wider : (s t : Scene) (setup : ScriptSetup) → IsWider s t → IsGood s setup → IsGood t setup
good_wider s t setup w h = moved (λ (d : Uid) (p : Profile). ¬ ((p.subs < setup.subs) ⊎ IsBadSetup (crew_setup d p setup))) s t w h

bad_wider : (s t : Scene) (setup : ScriptSetup) → IsWider s t → IsBad s setup → IsBad t setup
bad_wider s t setup w h = moved (λ (d : Uid) (p : Profile). (p.subs < setup.subs) ⊎ IsBadSetup (crew_setup d p setup)) s t w h

run_wider : (s t : Scene) (setup : ScriptSetup) (steps : List CrewStep) (events : List Event) → IsWider s t → IsScriptRun s setup steps events → IsScriptRun t setup steps events
run_wider s t setup steps events w run = record {
  cut = moved (λ (d : Uid) (p : Profile). IsCut (switched_on (crew_setup d p setup)) steps events) s t w run.cut;
  first = subst (λ (p : Profile). IsAnswered p.workers 0 t.first events) w.profile (answered_wider s.profile.workers 0 s.first t.first w.first events run.first);
  second = subst (λ (p : Profile). IsAnswered p.workers 1 t.second events) w.profile (answered_wider s.profile.workers 1 s.second t.second w.second events run.second);
  changes = offered_wider s.offers t.offers w.offers 0 _ run.changes;
}

trace_wider : (s t : Scene) → IsWider s t → (input text : List ℕ) → IsTraceOf s input text → IsTraceOf t input text
trace_wider s t w input text h = record {
  setup = h.setup;
  steps = h.steps;
  events = h.events;
  spelled = retold (λ (d : Dialect). IsScript d input h.setup h.steps) s t w h.spelled;
  good = good_wider s t h.setup w h.good;
  run = run_wider s t h.setup h.steps h.events w h.run;
  written = retraced s t w (λ d. finds_of d input) h.events (λ (ls : List Line). text ≡ lines_text ls) h.written;
}

play_wider : (s t : Scene) → IsWider s t → (text : List ℕ) (lines : List Line) → IsPlayOf s text lines → IsPlayOf t text lines
play_wider s t w text lines h = record {
  setup = h.setup;
  steps = h.steps;
  events = h.events;
  spelled = retold (λ (d : Dialect). IsScript d text h.setup h.steps) s t w h.spelled;
  good = good_wider s t h.setup w h.good;
  run = run_wider s t h.setup h.steps h.events w h.run;
  told = retraced s t w (λ d. finds_of d text) h.events (λ (ls : List Line). lines ≡ ls) h.told;
}

stops_wider : (s t : Scene) (e : RunError) (setup : ScriptSetup) (steps : List CrewStep) → IsWider s t → Stops s e setup steps → Stops t e setup steps
stops_wider s t run.OutOfMemory setup steps w h = tt
stops_wider s t run.Reserved setup steps w h = (good_wider s t setup w h.0, h.1)
stops_wider s t run.TooLong setup steps w h = (good_wider s t setup w h.0, h.1)
stops_wider s t run.Unsettled setup steps w h = (good_wider s t setup w h.0, h.1)
stops_wider s t run.Astray setup steps w h = absurd h
stops_wider s t run.Missing setup steps w h = absurd h
stops_wider s t run.BadSetup setup steps w h = bad_wider s t setup w h

stopped_wider : (s t : Scene) (input : List ℕ) (e : RunError) → IsWider s t → IsStopped s input e → IsStopped t input e
stopped_wider s t input e w h = record {
  setup = h.setup;
  steps = h.steps;
  spelled = retold (λ (d : Dialect). IsScript d input h.setup h.steps) s t w h.spelled;
  because = stops_wider s t e h.setup h.steps w h.because;
}

-- ---- of a script that was played

pub played_wider : {A : Type 0} (s t : Scene) → IsWider s t → (r : Result A Unplayed) (text : List ℕ) (items : A → List Line)
    → IfOk r (λ a. IsPlayOf s text (items a)) → IfOk r (λ a. IsPlayOf t text (items a))
played_wider s t w (Ok a) text items h = play_wider s t w text (items a) h
played_wider s t w (Err e) text items h = tt

pub played_text_wider : {A : Type 0} (s t : Scene) → IsWider s t → (r : Result A Unplayed) (text : List ℕ) (items : A → List Line)
    → IfOk r (λ a. IsTraceOf s text (lines_text (items a))) → IfOk r (λ a. IsTraceOf t text (lines_text (items a)))
played_text_wider s t w (Ok a) text items h = trace_wider s t w text (lines_text (items a)) h
played_text_wider s t w (Err e) text items h = tt

cause_wider : (s t : Scene) → IsWider s t → (text : List ℕ) (e : Unplayed) → IsUnplayed s text e → IsUnplayed t text e
cause_wider s t w text unplayed.OutOfMemory h = tt
cause_wider s t w text (unplayed.Faulty e) h = (retold (λ (d : Dialect). Refuses d e text) s t w h.0, h.1)
cause_wider s t w text (unplayed.Stopped e line) h = (stopped_wider s t text e w h.0, h.1)

pub unplayed_wider : {A : Type 0} (s t : Scene) → IsWider s t → (r : Result A Unplayed) (text : List ℕ) → IfErr r (IsUnplayed s text) → IfErr r (IsUnplayed t text)
unplayed_wider s t w (Ok a) text h = tt
unplayed_wider s t w (Err e) text h = cause_wider s t w text e h

names_wider : (s t : Scene) → IsWider s t → (text : List ℕ) (e : Unplayed) → NamesStopLine s text e → NamesStopLine t text e
names_wider s t w text unplayed.OutOfMemory h = tt
names_wider s t w text (unplayed.Faulty e) h = tt
names_wider s t w text (unplayed.Stopped e line) h = retold (λ (d : Dialect). IsStoppedAt d text e line) s t w h

pub line_wider : {A : Type 0} (s t : Scene) → IsWider s t → (r : Result A Unplayed) (text : List ℕ) → IfErr r (NamesStopLine s text) → IfErr r (NamesStopLine t text)
line_wider s t w (Ok a) text h = tt
line_wider s t w (Err e) text h = names_wider s t w text e h
