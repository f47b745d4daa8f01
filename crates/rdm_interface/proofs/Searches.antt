-- A search through a controller's port.
use Rattle.std.proofs.Common.{◌≡◌, ℕ, zero, suc, ◌+◌, ◌-◌, ◌*◌, ◌<◌, ◌≤◌, false, eqb, List, [], ◌∷◌, ◌++◌, length, map, Option, Some, None, Result, Ok, Err, refl, sym, ap, ◌∙◌, subst, inl, inr, arith, add-one, append_assoc}
use Rattle.std.specs.Prelude.{IfOk, IfErr}
use Rattle.std.specs.Option.{option_to_list}
use Rattle.std.proofs.lemmas.Bool.{cases_eq, eq-eqb, ne_eqb, cond-true, cond-false}
use Rattle.std.proofs.lemmas.List.{append-nil, length-append, length-map, map-append}
use Rattle.rdm_collector.specs.declared.port.PortError.{PortError}
use Rattle.rdm_frame.specs.declared.uid.Uid.{Uid}
use Rattle.rdm_frame.specs.declared.frame.Frame.{Frame}
use Rattle.rdm_frame.specs.FrameText.{frame_text, IsFrame}
use Rattle.rdm_search.specs.declared.error.SearchError.{SearchError}
use Rattle.rdm_search.specs.declared.found.Found.{Found}
use Rattle.rdm_search.specs.declared.request.Request.{Request}
use Rattle.rdm_search.specs.declared.stage.Stage.{Stage}
use Rattle.rdm_search.specs.declared.stage.Stage.TheVariants.{Start, Asking as AskingStage, Muting, Ended}
use Rattle.rdm_search.specs.Answers.{found_uids, newcomer}
use Rattle.rdm_search.specs.Exchanges.{Exchange, IsRun, IsAsked, HasHeard}
use Rattle.rdm_search.specs.Line.{Fixture, IsFound}
use Rattle.rdm_search.specs.Losses.{is_answered}
use Rattle.rdm_search.specs.Requests.{request_frame}
use Rattle.rdm_search.specs.Searches.{next_of, found_after}
use Rattle.rdm_search.specs.Stages.{request_of, IsStage, IsReal, Stands, Hears, price}
use Rattle.rdm_search.proofs.Exchanges.{asked_said, heard_then, nothing_said, run_then, sends}
use Rattle.rdm_search.proofs.Reals.{keeps_real, one_paid, stays_real}
use Rattle.rdm_search.proofs.Runs.{Same, Comes, request_fits, answer_leads, ended, costs, next_frame, next_none, next_err}
use Rattle.rdm_interface.specs.Askings.{Asking, IsAsking, AreAsked, HasAsked, HasFailedAt, Situation, AreHeardOf, FindsReal, GoesOn, askings_of}
use Rattle.rdm_interface.specs.Lines.{IsHeardOnce, IsExchange, IsUnanswered, IsAskedAgain, FailsAsking}
use Rattle.rdm_interface.proofs.Repeats.{asking, AllVain, heard_apart, answered_of, kept_of}

abbrev Relation : Type 0 → Type 1
Relation P = P → List ℕ → Option (List ℕ) → P → Type 0

-- ---- what was asked

pub asked_then : {P : Type 0} (hears : Relation P) (source : Uid) (xs ys : List Asking) (a b c : P) → AreAsked hears source a xs b → AreAsked hears source b ys c → AreAsked hears source a (xs ++ ys) c
asked_then hears source [] ys a b c e later = subst (λ p. AreAsked hears source p ys c) e later
asked_then hears source (x ∷ xs) ys a b c first later = (first.0, first.1, first.2, asked_then hears source xs ys first.0 b c first.3 later)

pub nothing_asked : {P : Type 0} (hears : Relation P) (source : Uid) (most : ℕ) (a b : P) (IsSo : List Asking → Type 0) → b ≡ a → IsSo [] → HasAsked hears source most a b IsSo
nothing_asked hears source most a b IsSo e so = record { askings = []; sent = e; few = omega arith; is_so = so }

-- One after another.
pub has_asked_then : {P : Type 0} (hears : Relation P) (source again : Uid) (m n both : ℕ) (a b c : P) (IsSo Then All : List Asking → Type 0) → HasAsked hears source m a b IsSo → again ≡ source → HasAsked hears again n b c Then
    → m + n ≤ both → ((xs ys : List Asking) → IsSo xs → Then ys → All (xs ++ ys)) → HasAsked hears source both a c All
has_asked_then {P} hears source again m n both a b c IsSo Then All first e later le so = record {
  askings = first.askings ++ later.askings;
  sent = asked_then hears source first.askings later.askings a b c first.sent (subst (λ (s : Uid). AreAsked hears s b later.askings c) e later.sent);
  few = omega (arith, length-append first.askings later.askings, first.few, later.few, le);
  is_so = so first.askings later.askings first.is_so later.is_so;
}

-- The same, of what is called otherwise.
pub has_asked_as : {P : Type 0} (hears : Relation P) (source other : Uid) (m n : ℕ) (a b c : P) (IsSo Other : List Asking → Type 0) → HasAsked hears other m a b IsSo → other ≡ source → c ≡ b → m ≤ n
    → ((xs : List Asking) → IsSo xs → Other xs) → HasAsked hears source n a c Other
has_asked_as {P} hears source other m n a b c IsSo Other asked e e' le so = record {
  askings = asked.askings;
  sent =
      subst (λ (p : P). AreAsked hears source a asked.askings p) (sym e') (subst (λ (s : Uid). AreAsked hears s a asked.askings b) e asked.sent);
  few = omega (arith, asked.few, le);
  is_so = so asked.askings asked.is_so;
}

-- ---- what failed

-- Some askings, and then some more, at the last of which the port failed.
pub fails_then : {P : Type 0} (hears : Relation P) (fails : P → List ℕ → PortError → P → Type 0) (source again : Uid) (m n both : ℕ) (a b c : P) (error : PortError) (IsSo : List Asking → Type 0)
    → HasAsked hears source m a b IsSo → again ≡ source → HasFailedAt hears fails again n b c error → m + n ≤ both → HasFailedAt hears fails source both a c error
fails_then {P} hears fails source again m n both a b c error IsSo first e last le =
    let later : HasFailedAt hears fails source n b c error = subst (λ (s : Uid). HasFailedAt hears fails s n b c error) e last in
    record {
      askings = first.askings ++ later.askings;
      last = later.last;
      sent = asked_then hears source first.askings later.askings a b later.last first.sent later.sent;
      request = later.request;
      tn = later.tn;
      is_request = later.is_request;
      failed = later.failed;
      few = omega (arith, length-append first.askings later.askings, first.few, later.few, le);
    }

-- The same, of what is called otherwise.
pub fails_as : {P : Type 0} (hears : Relation P) (fails : P → List ℕ → PortError → P → Type 0) (source other : Uid) (m n : ℕ) (a b : P) (error : PortError)
    → HasFailedAt hears fails other m a b error → other ≡ source → m ≤ n → HasFailedAt hears fails source n a b error
fails_as hears fails source other m n a b error failing e le =
    fails_then hears fails source other 0 m n a a b error (λ (xs : List Asking). Unit {0}) (nothing_asked hears source 0 a a (λ (xs : List Asking). Unit {0}) refl tt) e failing (omega (arith, le))

-- the last sending of a frame
pub fails_at_last : {P A : Type 0} (hears : Relation P) (fails : P → List ℕ → PortError → P → Type 0) (retries times : ℕ) (before mid after : P) (frame : Frame) (r : Result A PortError)
    → IsUnanswered hears frame times before mid → times ≤ retries → IfErr r (λ error. fails mid (frame_text frame) error after) → IfErr r (FailsAsking hears fails retries before after frame)
fails_at_last hears fails retries times before mid after frame (Ok h) vain le failed = tt
fails_at_last hears fails retries times before mid after frame (Err e) vain le failed = record { times = times; mid = mid; in_vain = vain; failed = failed; within = le }

-- ---- a frame that was asked until it was answered

-- the bytes that were heard before the last, and of what
record AreRepeated {P : Type 0} (hears : Relation P) (source : Uid) (most : ℕ) (before after : P) (request : Request) (tn : ℕ) (heard : List ℕ) : Type 0 where
  others : List (List ℕ)
  vain : AllVain (request_frame source tn request) others
  few : length others ≤ most
  all : is_answered (request_frame source tn request) heard ≡ false → length others ≡ most
  sent : AreAsked hears source before (map (asking request tn) (others ++ heard ∷ [])) after

vain_then : (frame : Frame) (others : List (List ℕ)) (heard : List ℕ) → AllVain frame others → is_answered frame heard ≡ false → AllVain frame (others ++ heard ∷ [])
vain_then frame [] heard vain none = (none, tt)
vain_then frame (h ∷ others) heard vain none = (vain.0, vain_then frame others heard vain.1 none)

sent_once : {P : Type 0} (hears : Relation P) (source : Uid) (request : Request) (tn : ℕ) (others : List (List ℕ)) (heard : List ℕ) (a b c : P) → IsAsking source (asking request tn heard) → AreAsked hears source a (map (asking request tn) others) b
    → IsHeardOnce hears b c (frame_text (request_frame source tn request)) heard → AreAsked hears source a (map (asking request tn) (others ++ heard ∷ [])) c
sent_once hears source request tn others heard a b c fits first once =
    subst (λ (xs : List Asking). AreAsked hears source a xs c) (sym (map-append (asking request tn) others (heard ∷ [])))
    (asked_then hears source (map (asking request tn) others) (asking request tn heard ∷ []) a b c first (c, fits, once, refl))

-- what was asked in vain
record AreVain {P : Type 0} (hears : Relation P) (source : Uid) (n : ℕ) (before after : P) (request : Request) (tn : ℕ) : Type 0 where
  others : List (List ℕ)
  vain : AllVain (request_frame source tn request) others
  size : length others ≡ n
  sent : AreAsked hears source before (map (asking request tn) others) after

are_vain : {P : Type 0} (hears : Relation P) (source : Uid) (n : ℕ) (before after : P) (request : Request) (tn : ℕ) → ((heard : List ℕ) → IsAsking source (asking request tn heard)) → IsUnanswered hears (request_frame source tn request) n before after → AreVain hears source n before after request tn
are_vain hears source zero before after request tn fits vain = record { others = []; vain = tt; size = refl; sent = vain }
are_vain hears source (suc n) before after request tn fits vain =
    let first = are_vain hears source n before vain.0 request tn fits vain.2 in
    record {
      others = first.others ++ vain.1 ∷ [];
      vain = vain_then (request_frame source tn request) first.others vain.1 first.vain vain.4;
      size = omega (arith, length-append first.others (vain.1 ∷ []), first.size);
      sent = sent_once hears source request tn first.others vain.1 before vain.0 after (fits vain.1) first.sent vain.3;
    }

are_repeated : {P : Type 0} (hears : Relation P) (source : Uid) (most : ℕ) (before after : P) (request : Request) (tn : ℕ) (heard : List ℕ) → ((h : List ℕ) → IsAsking source (asking request tn h)) → IsAskedAgain hears most before after (request_frame source tn request) heard → AreRepeated hears source most before after request tn heard
are_repeated hears source most before after request tn heard fits again =
    let first = are_vain hears source again.times before again.mid request tn fits again.in_vain in
    record {
      others = first.others;
      vain = first.vain;
      few = omega (arith, first.size, again.within);
      all = λ none. first.size ∙ again.all_in_vain none;
      sent = sent_once hears source request tn first.others heard before again.mid after (fits heard) first.sent again.last;
    }

-- It is one transaction of a search, of which this is so.
has_asked : {P : Type 0} (hears : Relation P) (source : Uid) (most : ℕ) (before after : P) (request : Request) (tn : ℕ) (heard : List ℕ) (IsSo : List Asking → Type 0) → AreRepeated hears source most before after request tn heard
    → ((others : List (List ℕ)) → AllVain (request_frame source tn request) others → (is_answered (request_frame source tn request) heard ≡ false → length others ≡ most) → IsSo (map (asking request tn) (others ++ heard ∷ [])))
    → HasAsked hears source (most + 1) before after IsSo
has_asked hears source most before after request tn heard IsSo r so = record {
  askings = map (asking request tn) (r.others ++ heard ∷ []);
  sent = r.sent;
  few = omega (arith, length-map (r.others ++ heard ∷ []) (asking request tn), length-append r.others (heard ∷ []), r.few);
  is_so = so r.others r.vain r.all;
}

-- ---- the search goes on

-- it has ended
pub ends : (source : Uid) (tn left : ℕ) (stage : Stage) (found : List Uid) (line : List Fixture) → Same (Ok None) (next_of source tn (request_of stage) left) → Stands stage found line → IsFound found line
ends source tn left stage found line e stands = ended stage found line (next_none source tn (request_of stage) left e) stands

-- it makes one transaction, and has that much less before it
pub goes_on : {P : Type 0} (hears : Relation P) (most : ℕ) (before after : P) (source : Uid) (tn left : ℕ) (stage next : Stage) (found more : List Uid) (frame : Frame) (heard : List ℕ)
    → IsStage stage → IsFrame frame → Same (Ok (Some frame)) (next_of source tn (request_of stage) left) → IsAskedAgain hears most before after frame heard
    → Hears stage found heard next more → HasAsked hears source (most + 1) before after (GoesOn most stage found next more)
goes_on hears most before after source tn left stage next found more frame heard valid frame_fits e again leads =
    let n = next_frame source tn (request_of stage) left frame e in
    let again_so : IsAskedAgain hears most before after (request_frame source tn n.0) heard = subst (λ f. IsAskedAgain hears most before after f heard) n.2 again in
    has_asked hears source most before after n.0 tn heard (GoesOn most stage found next more)
    (are_repeated hears source most before after n.0 tn heard (λ h. (request_fits stage n.0 valid n.1, subst IsFrame n.2 frame_fits)) again_so)
    (λ others vain all s s' stands h. (
    let kept = kept_of most n.0 source tn others heard s s' vain all h in
    let comes = answer_leads stage next found more n.0 s.fixtures heard s.altered s'.altered (leads n.0 s.fixtures n.1 stands) kept.0 in
    subst (λ (l : List Fixture). Comes stage s.fixtures next more l s.altered s'.altered) (sym kept.1) comes))

-- it may make none, though it isn't at its end
pub stops : (source : Uid) (tn left : ℕ) (stage : Stage) (found : List Uid) (line : List Fixture) (fault : SearchError) → IsStage stage → Same (Err fault) (next_of source tn (request_of stage) left) → Stands stage found line
    → 2 * left < price stage line
stops source tn left stage found line fault valid e stands =
    let n = next_err source tn (request_of stage) left fault e in
    let least = costs stage found line n.0 valid n.1 stands in
    omega (arith, n.2, least)

within : (retries left : ℕ) → 0 < left → (Q : ℕ → Type 0) → Q (retries + 1) → Q (askings_of retries left)
within retries left some Q q = subst Q (sym (cond-false (eqb left 0) 0 (retries + 1) (ne_eqb left 0 (λ e. omega (arith, e, some))))) q

-- the port may fail
pub fails_at : {P : Type 0} (hears : Relation P) (fails : P → List ℕ → PortError → P → Type 0) (retries : ℕ) (before after : P) (source : Uid) (tn left : ℕ) (stage : Stage) (frame : Frame) (error : PortError)
    → IsStage stage → IsFrame frame → Same (Ok (Some frame)) (next_of source tn (request_of stage) left) → FailsAsking hears fails retries before after frame error
    → HasFailedAt hears fails source (askings_of retries left) before after error
fails_at hears fails retries before after source tn left stage frame error valid frame_fits e failing =
    let n = next_frame source tn (request_of stage) left frame e in
    let fits : (heard : List ℕ) → IsAsking source (asking n.0 tn heard) = λ h. (request_fits stage n.0 valid n.1, subst IsFrame n.2 frame_fits) in
    let so : FailsAsking hears fails retries before after (request_frame source tn n.0) error = subst (λ f. FailsAsking hears fails retries before after f error) n.2 failing in
    let first = are_vain hears source so.times before so.mid n.0 tn fits so.in_vain in
    within retries left n.3 (λ (m : ℕ). HasFailedAt hears fails source m before after error)
    (record {
      askings = map (asking n.0 tn) first.others;
      last = so.mid;
      sent = first.sent;
      request = n.0;
      tn = tn;
      is_request = fits [];
      failed = so.failed;
      few = omega (arith, length-map first.others (asking n.0 tn), first.size, so.within);
    })

-- and what it found is on the line
pub finds_real : {P : Type 0} (hears : Relation P) (retries : ℕ) (before after : P) (source : Uid) (tn left : ℕ) (stage : Stage) (found more : List Found) (frame : Frame) (heard : List ℕ)
    → IsStage stage → IsFrame frame → Same (Ok (Some frame)) (next_of source tn (request_of stage) left) → IsAskedAgain hears retries before after frame heard
    → more ≡ found_after stage found heard → HasAsked hears source (askings_of retries left) before after (FindsReal (IsReal (found_uids found)) (found_uids more))
finds_real hears retries before after source tn left stage found more frame heard valid frame_fits e again noted =
    let n = next_frame source tn (request_of stage) left frame e in
    let again_so : IsAskedAgain hears retries before after (request_frame source tn n.0) heard = subst (λ f. IsAskedAgain hears retries before after f heard) n.2 again in
    within retries left n.3 (λ (m : ℕ). HasAsked hears source m before after (FindsReal (IsReal (found_uids found)) (found_uids more)))
    (has_asked hears source retries before after n.0 tn heard (FindsReal (IsReal (found_uids found)) (found_uids more))
    (are_repeated hears source retries before after n.0 tn heard (λ h. (request_fits stage n.0 valid n.1, subst IsFrame n.2 frame_fits)) again_so)
    (λ others vain all most s s' real h.
    stays_real stage found more s.fixtures heard s'.fixtures n.0 n.1 noted real (answered_of most n.0 source tn others heard s s' vain h)))

-- or nothing more was found, for want of memory
pub keeps_found : {P : Type 0} (hears : Relation P) (retries : ℕ) (before after : P) (source : Uid) (tn left : ℕ) (stage : Stage) (found more : List Found) (frame : Frame) (heard : List ℕ)
    → IsStage stage → IsFrame frame → Same (Ok (Some frame)) (next_of source tn (request_of stage) left) → IsAskedAgain hears retries before after frame heard
    → more ≡ found → HasAsked hears source (askings_of retries left) before after (FindsReal (IsReal (found_uids found)) (found_uids more))
keeps_found hears retries before after source tn left stage found more frame heard valid frame_fits e again same =
    let n = next_frame source tn (request_of stage) left frame e in
    let again_so : IsAskedAgain hears retries before after (request_frame source tn n.0) heard = subst (λ f. IsAskedAgain hears retries before after f heard) n.2 again in
    within retries left n.3 (λ (m : ℕ). HasAsked hears source m before after (FindsReal (IsReal (found_uids found)) (found_uids more)))
    (has_asked hears source retries before after n.0 tn heard (FindsReal (IsReal (found_uids found)) (found_uids more))
    (are_repeated hears source retries before after n.0 tn heard (λ h. (request_fits stage n.0 valid n.1, subst IsFrame n.2 frame_fits)) again_so)
    (λ others vain all most s s' real h.
    subst (λ (xs : List Found). IsReal (found_uids xs) s'.fixtures) (sym same)
    (keeps_real found s.fixtures heard s'.fixtures n.0 real (answered_of most n.0 source tn others heard s s' vain h))))

-- it asked nothing, and found nothing more
pub real_still : (found more : List Found) → more ≡ found → FindsReal (IsReal (found_uids found)) (found_uids more) []
real_still found more e most s s' real h =
    subst (λ (t : Situation). IsReal (found_uids more) t.fixtures) (sym h) (subst (λ (xs : List Found). IsReal (found_uids xs) s.fixtures) (sym e) real)

-- ---- asking again

pub asked_next : {P : Type 0} (hears : P → List ℕ → Option (List ℕ) → P → Type 0) (before mid after : P) (frame : Frame) (heard : List ℕ) (n : ℕ)
    → IsUnanswered hears frame n before mid → IsHeardOnce hears mid after (frame_text frame) heard → is_answered frame heard ≡ false → IsUnanswered hears frame (n + 1) before after
asked_next hears before mid after frame heard n vain last none =
    let next : IsUnanswered hears frame (suc n) before after = (mid, heard, vain, last, none) in
    subst (λ k. IsUnanswered hears frame k before after) (sym (add-one n)) next

-- what is heard at last
pub asked_at_last : {P E : Type 0} (hears : P → List ℕ → Option (List ℕ) → P → Type 0) (retries : ℕ) (before mid after : P) (frame : Frame) (r : Result (List ℕ) E)
    → IsUnanswered hears frame retries before mid → IfOk r (IsHeardOnce hears mid after (frame_text frame)) → IfOk r (IsAskedAgain hears retries before after frame)
asked_at_last hears retries before mid after frame (Ok h) vain once = record { times = retries; mid = mid; in_vain = vain; last = once; within = omega arith; all_in_vain = λ e. refl }
asked_at_last hears retries before mid after frame (Err e) vain once = tt

-- ---- what was said

then_once : {P : Type 0} (hears : P → List ℕ → Option (List ℕ) → P → Type 0) (frame : Frame) (others : List (List ℕ)) (heard : List ℕ) (a b c : P) → IsRun (IsExchange hears) (map (sends frame) others) a b → IsHeardOnce hears b c (frame_text frame) heard → IsRun (IsExchange hears) (map (sends frame) (others ++ heard ∷ [])) a c
then_once hears frame others heard a b c run once =
    subst (λ (xs : List Exchange). IsRun (IsExchange hears) xs a c) (sym (map-append (sends frame) others (heard ∷ [])))
    (run_then (IsExchange hears) (map (sends frame) others) (sends frame heard ∷ []) a b c run (c, once, refl))

vain_run : {P : Type 0} (hears : P → List ℕ → Option (List ℕ) → P → Type 0) (frame : Frame) (n : ℕ) (before after : P) → IsUnanswered hears frame n before after → (others : List (List ℕ)) × IsRun (IsExchange hears) (map (sends frame) others) before after
vain_run hears frame zero before after vain = ([], vain)
vain_run hears frame (suc n) before after vain =
    let first = vain_run hears frame n before vain.0 vain.2 in
    (first.0 ++ vain.1 ∷ [], then_once hears frame first.0 vain.1 before vain.0 after first.1 vain.3)

asked_of : {P : Type 0} (hears : P → List ℕ → Option (List ℕ) → P → Type 0) (retries : ℕ) (frame : Frame) (heard : List ℕ) (before after : P) → IsAskedAgain hears retries before after frame heard → IsAsked (IsExchange hears) before frame heard after
asked_of hears retries frame heard before after again =
    let vain = vain_run hears frame again.times before again.mid again.in_vain in
    (vain.0, then_once hears frame vain.0 heard before again.mid after vain.1 again.last)

-- one transaction
pub transaction_said : {P : Type 0} (hears : P → List ℕ → Option (List ℕ) → P → Type 0) (retries : ℕ) (before after : P) (source : Uid) (tn left : ℕ) (stage : Stage) (found more : List Found) (frame : Frame) (heard : List ℕ)
    → Same (Ok (Some frame)) (next_of source tn (request_of stage) left) → IsAskedAgain hears retries before after frame heard
    → more ≡ found_after stage found heard → HasHeard (IsExchange hears) source before after found more
transaction_said hears retries before after source tn left stage found more frame heard e again noted =
    let n = next_frame source tn (request_of stage) left frame e in
    let again_so : IsAskedAgain hears retries before after (request_frame source tn n.0) heard = subst (λ f. IsAskedAgain hears retries before after f heard) n.2 again in
    asked_said (IsExchange hears) source tn stage n.0 before after found more heard n.1 (asked_of hears retries (request_frame source tn n.0) heard before after again_so) noted

pub said_to_end : {P : Type 0} (hears : P → List ℕ → Option (List ℕ) → P → Type 0) (source : Uid) (before after : P) (known found : List Found) → (last : P) × HasHeard (IsExchange hears) source before last known found × (after ≡ last) → HasHeard (IsExchange hears) source before after known found
said_to_end {P} hears source before after known found said = subst (λ (p : P). HasHeard (IsExchange hears) source before p known found) (sym said.2) said.1

-- Nothing was found where it fails.
pub failed_said : {P : Type 0} (hears : P → List ℕ → Option (List ℕ) → P → Type 0) (source : Uid) (before : P) (known found : List Found) → found ≡ known → (last : P) × HasHeard (IsExchange hears) source before last known found × Unit {0}
failed_said hears source before known found e = (before, nothing_said (IsExchange hears) source [] before before known found refl e, tt)

-- ---- one transaction after another

-- On every line it has come nearer to its end by as many transactions as it has made.
abbrev pub Nears : ℕ → Stage → List Uid → ℕ → Stage → List Uid → ℕ → List Asking → Type 0
Nears most stage found left stage' found' left' askings =
    (before after : Situation) → Stands stage found before.fixtures → AreHeardOf most before askings after
    → Stands stage' found' after.fixtures
    × (price stage' after.fixtures + 2 * left + 3 * before.altered ≤ price stage before.fixtures + 2 * left' + 3 * after.altered)

-- what a search has come to through a port
pub record Through {P : Type 0} (hears : Relation P) (most : ℕ) (source : Uid) (stage : Stage) (left : ℕ) (found : List Found) (port : P) (source' : Uid) (stage' : Stage) (left' : ℕ) (found' : List Found) (port' : P) : Type 0 where
  pub took : ℕ
  pub stands : HasAsked hears source took port port' (Nears most stage (found_uids found) left stage' (found_uids found') left')
  pub real : HasAsked hears source took port port' (FindsReal (IsReal (found_uids found)) (found_uids found'))
  pub paid : took + (most + 1) * left' ≤ (most + 1) * left
  pub kept : (more : List Found) × (found' ≡ found ++ more)
  pub said : HasHeard (IsExchange hears) source port port' found found'
  pub same_source : source' ≡ source

nears_then : (most : ℕ) (s s' s'' : Stage) (n n' n'' : ℕ) (f f' f'' : List Uid) (xs ys : List Asking) → n'' + 1 ≡ n' → Nears most s f n s' f' n' xs → GoesOn most s' f' s'' f'' ys → Nears most s f n s'' f'' n'' (xs ++ ys)
nears_then most s s' s'' n n' n'' f f' f'' xs ys less first then a c stands h =
    let parts = heard_apart most xs ys a c h in
    let before = first a parts.0 stands parts.1 in
    let now = then parts.0 c before.0 parts.2 in
    (now.0, omega (arith, before.1, now.1, less))

real_then : (AreSuch : List Fixture → Type 0) (f' f'' : List Uid) (xs ys : List Asking) → FindsReal AreSuch f' xs → FindsReal (IsReal f') f'' ys → FindsReal AreSuch f'' (xs ++ ys)
real_then AreSuch f' f'' xs ys first then most a c such h =
    let parts = heard_apart most xs ys a c h in
    then most parts.0 c (first most a parts.0 such parts.1) parts.2

-- what a step takes is paid
pub paid_by : (most took n n' : ℕ) → took + (most + 1) * n' ≤ (most + 1) * n → took + askings_of most n' ≤ (most + 1) * n
paid_by most took n n' paid =
    elim (cases_eq n' 0) [
      | inl none ↦
          let e : askings_of most n' ≡ 0 = cond-true (eqb n' 0) 0 (most + 1) (eq-eqb n' 0 none) in
          omega (arith, paid, e)
      | inr some ↦
          let e : askings_of most n' ≡ most + 1 = cond-false (eqb n' 0) 0 (most + 1) (ne_eqb n' 0 some) in
          let one = one_paid (most + 1) n' (omega (arith, some)) in
          omega (arith, paid, e, one)
    ]

nears_none : (most : ℕ) (s : Stage) (n : ℕ) (f : List Uid) → Nears most s f n s f n []
nears_none most s n f a c stands h = subst (λ (t : Situation). Stands s f t.fixtures × (price s t.fixtures + 2 * n + 3 * a.altered ≤ price s a.fixtures + 2 * n + 3 * t.altered)) (sym h) (stands, omega arith)

pub through_none : {P : Type 0} (hears : Relation P) (most : ℕ) (u : Uid) (s : Stage) (n : ℕ) (f : List Found) (p : P) → Through hears most u s n f p u s n f p
through_none hears most u s n f p = record {
  took = 0;
  stands = nothing_asked hears u 0 p p (Nears most s (found_uids f) n s (found_uids f) n) refl (nears_none most s n (found_uids f));
  real = nothing_asked hears u 0 p p (FindsReal (IsReal (found_uids f)) (found_uids f)) refl (real_still f f refl);
  paid = omega arith;
  kept = ([], sym (append-nil f));
  said = nothing_said (IsExchange hears) u [] p p f f refl refl;
  same_source = refl;
}

-- what one transaction more may have found
pub real_to_end : {P : Type 0} (hears : Relation P) (most : ℕ) (u u' : Uid) (s s' : Stage) (n n' : ℕ) (f f' f'' : List Found) (p p' last : P) → Through hears most u s n f p u' s' n' f' p'
    → HasAsked hears u' (askings_of most n') p' last (FindsReal (IsReal (found_uids f')) (found_uids f'')) → HasAsked hears u ((most + 1) * n) p last (FindsReal (IsReal (found_uids f)) (found_uids f''))
real_to_end hears most u u' s s' n n' f f' f'' p p' last so real =
    has_asked_then hears u u' so.took (askings_of most n') ((most + 1) * n) p p' last (FindsReal (IsReal (found_uids f)) (found_uids f')) (FindsReal (IsReal (found_uids f')) (found_uids f'')) (FindsReal (IsReal (found_uids f)) (found_uids f''))
    so.real so.same_source real (paid_by most so.took n n' so.paid) (real_then (IsReal (found_uids f)) (found_uids f') (found_uids f''))

-- where its port didn't fail
pub real_here : {P : Type 0} (hears : Relation P) (most : ℕ) (u : Uid) (n : ℕ) (f f' : List Found) (p p' last : P) → HasAsked hears u (askings_of most n) p last (FindsReal (IsReal (found_uids f)) (found_uids f')) → p' ≡ last → HasAsked hears u (askings_of most n) p p' (FindsReal (IsReal (found_uids f)) (found_uids f'))
real_here hears most u n f f' p p' last real e =
    has_asked_as hears u u (askings_of most n) (askings_of most n) p last p' (FindsReal (IsReal (found_uids f)) (found_uids f')) (FindsReal (IsReal (found_uids f)) (found_uids f')) real refl e (omega arith) (λ xs so. so)

-- and one transaction more
pub through_next : {P : Type 0} (hears : Relation P) (most : ℕ) (u u' u'' : Uid) (s s' s'' : Stage) (n n' n'' : ℕ) (f f' f'' : List Found) (p p' p'' : P) → Through hears most u s n f p u' s' n' f' p'
    → HasAsked hears u' (most + 1) p' p'' (GoesOn most s' (found_uids f') s'' (found_uids f''))
    → HasAsked hears u' (askings_of most n') p' p'' (FindsReal (IsReal (found_uids f')) (found_uids f''))
    → (more : List Found) × (f'' ≡ f' ++ more) → n'' + 1 ≡ n' → HasHeard (IsExchange hears) u' p' p'' f' f'' → u'' ≡ u' → Through hears most u s n f p u'' s'' n'' f'' p''
through_next hears most u u' u'' s s' s'' n n' n'' f f' f'' p p' p'' so on real more left said same =
    let some : askings_of most n' ≡ most + 1 = cond-false (eqb n' 0) 0 (most + 1) (ne_eqb n' 0 (λ e. omega (arith, e, left))) in
    let one = one_paid (most + 1) n' (omega (arith, left)) in
    let less : n' - 1 ≡ n'' = omega (arith, left) in
    let paid : (most + 1) * n'' + (most + 1) ≡ (most + 1) * n' = subst (λ (k : ℕ). (most + 1) * k + (most + 1) ≡ (most + 1) * n') less one in
    record {
      took = so.took + (most + 1);
      stands =
          has_asked_then hears u u' so.took (most + 1) (so.took + (most + 1)) p p' p'' (Nears most s (found_uids f) n s' (found_uids f') n') (GoesOn most s' (found_uids f') s'' (found_uids f'')) (Nears most s (found_uids f) n s'' (found_uids f'') n'')
          so.stands so.same_source on (omega arith) (λ xs ys. nears_then most s s' s'' n n' n'' (found_uids f) (found_uids f') (found_uids f'') xs ys left);
      real =
          has_asked_then hears u u' so.took (askings_of most n') (so.took + (most + 1)) p p' p'' (FindsReal (IsReal (found_uids f)) (found_uids f')) (FindsReal (IsReal (found_uids f')) (found_uids f'')) (FindsReal (IsReal (found_uids f)) (found_uids f''))
          so.real so.same_source real (omega (arith, some)) (real_then (IsReal (found_uids f)) (found_uids f') (found_uids f''));
      paid = omega (arith, so.paid, paid);
      kept = (so.kept.0 ++ more.0, more.1 ∙ ap (λ (xs : List Found). xs ++ more.0) so.kept.1 ∙ append_assoc f so.kept.0 more.0);
      said = heard_then (IsExchange hears) u u' p p' p'' f f' f'' so.said so.same_source said;
      same_source = same ∙ so.same_source;
    }

-- what was found stays, and more stands behind it
pub noted_more : (stage : Stage) (found : List Found) (heard : List ℕ) → (more : List Found) × (found_after stage found heard ≡ found ++ more)
noted_more Start found heard = ([], sym (append-nil found))
noted_more (AskingStage r) found heard = ([], sym (append-nil found))
noted_more (Muting r u) found heard = (option_to_list (newcomer found u heard), refl)
noted_more Ended found heard = ([], sym (append-nil found))
