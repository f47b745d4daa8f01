-- Requests that are asked again.
use Rattle.std.proofs.Common.{◌≡◌, ◌≢◌, ℕ, suc, ◌+◌, ◌≤◌, Bool, true, false, not, eqb, ◌||◌, List, [], ◌∷◌, map, length, Option, Some, None, refl, sym, ap, ◌∙◌, subst, inl, inr, ◌⊎◌, arith}
use Rattle.std.specs.Prelude.{Contains, IsSome, is_some, ◌↔◌}
use Rattle.std.proofs.lemmas.Bool.{false≢true, ne_eqb}
use Rattle.rdm_frame.specs.declared.uid.Uid.{Uid}
use Rattle.rdm_frame.specs.Addressing.{is_addressed}
use Rattle.rdm_search.specs.declared.request.Request.{Request}
use Rattle.rdm_search.specs.declared.request.Request.TheVariants.{UnMute, UniqueBranch, Mute}
use Rattle.rdm_search.specs.Answers.{mute_answer}
use Rattle.rdm_search.specs.Line.{Fixture, IsForNobody, IsHeard, IsAltered, IsCounted, IsAnswer, uids, after_request}
use Rattle.rdm_search.specs.Requests.{request_frame}
use Rattle.rdm_search.specs.declared.found.Found.{Found}
use Rattle.rdm_search.specs.Losses.{carried_out, is_answered, IsVoid, IsPartly, IsKept, IsLost}
use Rattle.rdm_search.proofs.Mutes.{fixture, two}
use Rattle.rdm_search.proofs.Runs.{request_keeps}

-- ---- twice is once

or_twice : (m a : Bool) → ((m || a) || a) ≡ (m || a)
or_twice true a = refl
or_twice false true = refl
or_twice false false = refl

twice : (request : Request) (f : Fixture) → carried_out request (carried_out request f) ≡ carried_out request f
twice UnMute f = refl
twice (UniqueBranch a b) f = refl
twice (Mute u) f = ap (fixture f.uid) (or_twice f.muted (is_addressed f.uid u))

same_uid : (request : Request) (f : Fixture) → (carried_out request f).uid ≡ f.uid
same_uid UnMute f = refl
same_uid (UniqueBranch a b) f = refl
same_uid (Mute u) f = refl

all_same : (line : List Fixture) → line ≡ map (λ f. f) line
all_same [] = refl
all_same (f ∷ line) = ap (λ (rest : List Fixture). f ∷ rest) (all_same line)

by_all : (request : Request) (line : List Fixture) → after_request request line ≡ map (carried_out request) line
by_all UnMute line = refl
by_all (UniqueBranch a b) line = all_same line
by_all (Mute u) line = refl

-- ---- some have carried it out

two_uids : (u v : Uid) (us vs : List Uid) → u ≡ v → us ≡ vs → u ∷ us ≡ v ∷ vs
two_uids u v us vs e e' = rw (e, e') refl

pub partly_uids : (request : Request) (line after : List Fixture) → IsPartly request line after → uids after ≡ uids line
partly_uids request [] [] p = refl
partly_uids request [] (g ∷ after) p = absurd p
partly_uids request (f ∷ line) [] p = absurd p
partly_uids request (f ∷ line) (g ∷ after) p =
    let one : g.uid ≡ f.uid = elim p.0 [ inl e ↦ ap (λ (x : Fixture). x.uid) e | inr e ↦ ap (λ (x : Fixture). x.uid) e ∙ same_uid request f ] in
    two_uids g.uid f.uid (uids after) (uids line) one (partly_uids request line after p.1)

then_all : (request : Request) (line after : List Fixture) → IsPartly request line after → map (carried_out request) after ≡ map (carried_out request) line
then_all request [] [] p = refl
then_all request [] (g ∷ after) p = absurd p
then_all request (f ∷ line) [] p = absurd p
then_all request (f ∷ line) (g ∷ after) p =
    let one : carried_out request g ≡ carried_out request f = elim p.0 [ inl e ↦ ap (carried_out request) e | inr e ↦ ap (carried_out request) e ∙ twice request f ] in
    two (carried_out request f) (carried_out request g) _ _ one (then_all request line after p.1)

after_all : (request : Request) (line after : List Fixture) → IsPartly request (map (carried_out request) line) after → after ≡ map (carried_out request) line
after_all request [] [] p = refl
after_all request [] (g ∷ after) p = absurd p
after_all request (f ∷ line) [] p = absurd p
after_all request (f ∷ line) (g ∷ after) p =
    let one : g ≡ carried_out request f = elim p.0 [ inl e ↦ e | inr e ↦ e ∙ twice request f ] in
    two (carried_out request f) g _ _ one (after_all request line after p.1)

abbrev Either : Request → Fixture → Fixture → Type 0
Either request f g = (g ≡ f) ⊎ (g ≡ carried_out request f)

one_more : (request : Request) (f g h : Fixture) → Either request f g → Either request g h → Either request f h
one_more request f g h (inl e) (inl e') = inl (e' ∙ e)
one_more request f g h (inr e) (inl e') = inr (e' ∙ e)
one_more request f g h (inl e) (inr e') = inr (e' ∙ ap (carried_out request) e)
one_more request f g h (inr e) (inr e') = inr (e' ∙ ap (carried_out request) e ∙ twice request f)

partly_more : (request : Request) (a b c : List Fixture) → IsPartly request a b → IsPartly request b c → IsPartly request a c
partly_more request [] [] [] p q = q
partly_more request [] [] (h ∷ c) p q = q
partly_more request [] (g ∷ b) c p q = absurd p
partly_more request (f ∷ a) [] c p q = absurd p
partly_more request (f ∷ a) (g ∷ b) [] p q = q
partly_more request (f ∷ a) (g ∷ b) (h ∷ c) p q = (one_more request f g h p.0 q.0, partly_more request a b c p.1 q.1)

-- ---- what is heard afterwards could have been heard before

answers_of : (u : Uid) (line after : List Fixture) (heard : List ℕ) → uids after ≡ uids line → IsHeard (Mute u) after heard → IsHeard (Mute u) line heard
answers_of u line after heard e h = (subst (λ (us : List Uid). IsSome (mute_answer u heard) ↔ Contains us u) e h.0, h.1)

before : (request : Request) (line after : List Fixture) (heard : List ℕ) → IsPartly request line after → IsHeard request after heard → IsHeard request line heard
before UnMute line after heard p h = h
before (UniqueBranch a b) line after heard p h =
    let same : after ≡ line = all_same after ∙ then_all (UniqueBranch a b) line after p ∙ sym (all_same line) in
    subst (λ (l : List Fixture). IsHeard (UniqueBranch a b) l heard) same h
before (Mute u) line after heard p h = answers_of u line after heard (partly_uids (Mute u) line after p) h

before_all : (request : Request) (line : List Fixture) (heard : List ℕ) → IsHeard request (after_request request line) heard → IsHeard request line heard
before_all UnMute line heard h = h
before_all (UniqueBranch a b) line heard h = h
before_all (Mute u) line heard h = answers_of u line (after_request (Mute u) line) heard (request_keeps (Mute u) line) h

twice_map : (request : Request) (line : List Fixture) → map (carried_out request) (map (carried_out request) line) ≡ map (carried_out request) line
twice_map request [] = refl
twice_map request (f ∷ line) = two (carried_out request f) (carried_out request (carried_out request f)) _ _ (twice request f) (twice_map request line)

twice_all : (request : Request) (line : List Fixture) → after_request request (after_request request line) ≡ after_request request line
twice_all request line =
    by_all request (after_request request line) ∙ ap (map (carried_out request)) (by_all request line) ∙ twice_map request line ∙ sym (by_all request line)

-- an answer that was altered afterwards could have been altered before
nobody_of : (u : Uid) (line after : List Fixture) → uids after ≡ uids line → IsForNobody (Mute u) after → IsForNobody (Mute u) line
nobody_of u line after e gone there = gone (subst (λ (us : List Uid). Contains us u) (sym e) there)

altered_of : (u : Uid) (line after : List Fixture) (heard : List ℕ) → uids after ≡ uids line → IsAltered (Mute u) after heard → IsAltered (Mute u) line heard
altered_of u line after heard e h = (nobody_of u line after e h.0, h.1, h.2)

altered_before : (request : Request) (line after : List Fixture) (heard : List ℕ) → IsPartly request line after → IsAltered request after heard → IsAltered request line heard
altered_before UnMute line after heard p h = h
altered_before (UniqueBranch a b) line after heard p h =
    let same : after ≡ line = all_same after ∙ then_all (UniqueBranch a b) line after p ∙ sym (all_same line) in
    subst (λ (l : List Fixture). IsAltered (UniqueBranch a b) l heard) same h
altered_before (Mute u) line after heard p h = altered_of u line after heard (partly_uids (Mute u) line after p) h

altered_before_all : (request : Request) (line : List Fixture) (heard : List ℕ) → IsAltered request (after_request request line) heard → IsAltered request line heard
altered_before_all UnMute line heard h = h
altered_before_all (UniqueBranch a b) line heard h = h
altered_before_all (Mute u) line heard h = altered_of u line (after_request (Mute u) line) heard (request_keeps (Mute u) line) h

-- ---- no valid answer

abbrev pub IsUnanswered : Request → List ℕ → Type 0
IsUnanswered UnMute heard = heard ≡ []
IsUnanswered (UniqueBranch a b) heard = heard ≡ []
IsUnanswered (Mute u) heard = mute_answer u heard ≡ None

is_silent : (heard : List ℕ) → not (eqb (length heard) 0) ≡ false → heard ≡ []
is_silent [] e = refl
is_silent (b ∷ heard) e = absurd (false≢true (sym e ∙ ap not (ne_eqb (length (b ∷ heard)) 0 (λ none. omega arith))))

no_one : (o : Option Found) → is_some o ≡ false → o ≡ None
no_one None e = refl
no_one (Some x) e = absurd cc

pub unanswered : (request : Request) (source : Uid) (tn : ℕ) (heard : List ℕ) → is_answered (request_frame source tn request) heard ≡ false → IsUnanswered request heard
unanswered UnMute source tn heard e = is_silent heard e
unanswered (UniqueBranch a b) source tn heard e = is_silent heard e
unanswered (Mute u) source tn heard e = no_one (mute_answer u heard) e

pub void_is : (request : Request) (source : Uid) (tn : ℕ) (line : List Fixture) (heard : List ℕ) → IsVoid request line heard → is_answered (request_frame source tn request) heard ≡ false
void_is UnMute source tn line heard v = ap (λ (xs : List ℕ). not (eqb (length xs) 0)) v
void_is (UniqueBranch a b) source tn line heard v = ap (λ (xs : List ℕ). not (eqb (length xs) 0)) v
void_is (Mute u) source tn line heard v = ap (λ (o : Option Found). is_some o) v.0

-- ---- how many were altered

-- nobody answers this afterwards, nor did anybody before
nobody_before : (request : Request) (line after : List Fixture) → uids after ≡ uids line → IsForNobody request after → IsForNobody request line
nobody_before UnMute line after e h = h
nobody_before (UniqueBranch a b) line after e h = h
nobody_before (Mute u) line after e h = nobody_of u line after e h

counted_before : (request : Request) (line after : List Fixture) (n n' : ℕ) → uids after ≡ uids line → IsCounted request after n n' → IsCounted request line n n'
counted_before request line after n n' e (inl same) = inl same
counted_before request line after n n' e (inr h) = inr (nobody_before request line after e h.0, h.1)

-- so many more were altered, and then so many more
counted_on : (request : Request) (line : List Fixture) (n m m' : ℕ) → IsCounted request line n m → IsCounted request line m m' → IsCounted request line n m'
counted_on request line n m m' (inl e) (inl e') = inl (e' ∙ e)
counted_on request line n m m' (inl e) (inr h') = inr (h'.0, omega (arith, e, h'.1))
counted_on request line n m m' (inr h) (inl e') = inr (h.0, omega (arith, h.1, e'))
counted_on request line n m m' (inr h) (inr h') = inr (h.0, omega (arith, h.1, h'.1))

counted_suc : (request : Request) (line : List Fixture) (n m : ℕ) → IsCounted request line n m → IsCounted request line (suc n) (suc m)
counted_suc request line n m (inl e) = inl (ap (λ (k : ℕ). suc k) e)
counted_suc request line n m (inr h) = inr (h.0, omega (arith, h.1))

pub no_answer : (u : Uid) (heard : List ℕ) → mute_answer u heard ≡ None → IsSome (mute_answer u heard) → ⊥
no_answer u heard e some = false≢true (sym (ap (λ (o : Option Found). is_some o) e) ∙ some)

-- after an altered answer that was no valid one, so many more may be
altered_on : (request : Request) (line : List Fixture) (heard : List ℕ) (n m : ℕ) → IsUnanswered request heard → IsAltered request line heard → IsCounted request line (suc n) m → IsCounted request line n m
altered_on UnMute line heard n m silent h more = absurd h
altered_on (UniqueBranch a b) line heard n m silent h more = absurd (h.1 silent)
altered_on (Mute u) line heard n m silent h (inl e) = inr (h.0, omega (arith, e))
altered_on (Mute u) line heard n m silent h (inr more) = inr (h.0, omega (arith, more.1))

-- it was no valid answer
sure : (request : Request) (line : List Fixture) (heard : List ℕ) (n m : ℕ) → IsUnanswered request heard → IsAnswer request line heard n m → IsCounted request line n m
sure request line heard n m silent (inl h) = h.1
sure request line heard n m silent (inr h) = altered_on request line heard n m silent h.0 h.1

-- a mute without a valid answer that wasn't lost was for nobody
gone_by : (u : Uid) (line : List Fixture) (heard : List ℕ) (n m : ℕ) → mute_answer u heard ≡ None → IsAnswer (Mute u) line heard n m → IsForNobody (Mute u) line
gone_by u line heard n m silent (inl h) = λ there. no_answer u heard silent (h.0.0.1 there)
gone_by u line heard n m silent (inr h) = h.0.0

lost_mute : (u : Uid) (line l : List Fixture) (heard' : List ℕ) → IsForNobody (Mute u) line → uids l ≡ uids line → IsVoid (Mute u) l heard' → IsHeard (Mute u) line heard'
lost_mute u line l heard' gone e v =
    ((λ some. absurd (no_answer u heard' v.0 some), λ there. absurd (gone there)), λ sounds. absurd (gone (subst (λ (us : List Uid). Contains us u) e (v.1 sounds))))

-- what is heard of a lost one could have been heard of one that nobody answers
lost_heard : (request : Request) (line l : List Fixture) (heard heard' : List ℕ) (n m : ℕ) → IsUnanswered request heard → IsAnswer request line heard n m → uids l ≡ uids line → IsVoid request l heard' → IsHeard request line heard'
lost_heard UnMute line l heard heard' n m silent h e v = v
lost_heard (UniqueBranch a b) line l heard heard' n m silent (inl h) e v = subst (IsHeard (UniqueBranch a b) line) (silent ∙ sym v) h.0
lost_heard (UniqueBranch a b) line l heard heard' n m silent (inr h) e v = absurd (h.0.1 silent)
lost_heard (Mute u) line l heard heard' n m silent h e v = lost_mute u line l heard' (gone_by u line heard n m silent h) e v

void_before : (request : Request) (line l : List Fixture) (heard : List ℕ) → uids l ≡ uids line → IsVoid request l heard → IsVoid request line heard
void_before UnMute line l heard e v = v
void_before (UniqueBranch a b) line l heard e v = v
void_before (Mute u) line l heard e v = (v.0, λ sounds. subst (λ (us : List Uid). Contains us u) e (v.1 sounds))

-- ---- once more

abbrev pub Asked : Request → List Fixture → List ℕ → List Fixture → ℕ → ℕ → ℕ → ℕ → Type 0
Asked request line heard after least lost n n' = IsKept request line heard after n n' ⊎ (IsLost request line heard after × (least ≤ lost) × (n' ≡ n))

counted_from : (request : Request) (line : List Fixture) (heard : List ℕ) (n m m' : ℕ) → IsCounted request line n m → IsAnswer request line heard m m' → IsAnswer request line heard n m'
counted_from request line heard n m m' more (inl h) = inl (h.0, counted_on request line n m m' more h.1)
counted_from request line heard n m m' more (inr h) = inr (h.0, counted_on request line (suc n) (suc m) m' (counted_suc request line n m more) h.1)

answer_before : (request : Request) (line after : List Fixture) (heard : List ℕ) (n n' : ℕ) → IsPartly request line after → IsAnswer request after heard n n' → IsAnswer request line heard n n'
answer_before request line after heard n n' p (inl h) = inl (before request line after heard p h.0, counted_before request line after n n' (partly_uids request line after p) h.1)
answer_before request line after heard n n' p (inr h) = inr (altered_before request line after heard p h.0, counted_before request line after (suc n) n' (partly_uids request line after p) h.1)

answer_before_all : (request : Request) (line : List Fixture) (heard : List ℕ) (n n' : ℕ) → IsAnswer request (after_request request line) heard n n' → IsAnswer request line heard n n'
answer_before_all request line heard n n' (inl h) = inl (before_all request line heard h.0, counted_before request line (after_request request line) n n' (request_keeps request line) h.1)
answer_before_all request line heard n n' (inr h) = inr (altered_before_all request line heard h.0, counted_before request line (after_request request line) (suc n) n' (request_keeps request line) h.1)

pub kept_kept : (request : Request) (line l : List Fixture) (heard heard' : List ℕ) (l' : List Fixture) (n m m' : ℕ) → IsUnanswered request heard → IsKept request line heard l n m → IsKept request l heard' l' m m' → IsKept request line heard' l' n m'
kept_kept request line l heard heard' l' n m m' silent k k' =
    let first = sure request line heard n m silent k.0 in
    let second = answer_before_all request line heard' m m' (subst (λ (x : List Fixture). IsAnswer request x heard' m m') k.1 k'.0) in
    (counted_from request line heard' n m m' first second, k'.1 ∙ ap (after_request request) k.1 ∙ twice_all request line)

pub kept_lost : (request : Request) (line l : List Fixture) (heard heard' : List ℕ) (l' : List Fixture) (n m m' : ℕ) → IsUnanswered request heard → IsKept request line heard l n m → IsLost request l heard' l' → m' ≡ m → IsKept request line heard' l' n m'
kept_lost request line l heard heard' l' n m m' silent k k' e =
    let more = subst (IsCounted request line n) (sym e) (sure request line heard n m silent k.0) in
    let same : uids l ≡ uids line = ap uids k.1 ∙ request_keeps request line in
    let all : l ≡ map (carried_out request) line = k.1 ∙ by_all request line in
    (inl (lost_heard request line l heard heard' n m silent k.0 same k'.0, more), after_all request line l' (subst (λ (x : List Fixture). IsPartly request x l') all k'.1) ∙ sym (by_all request line))

pub lost_kept : (request : Request) (line l : List Fixture) (heard heard' : List ℕ) (l' : List Fixture) (n m m' : ℕ) → IsLost request line heard l → m ≡ n → IsKept request l heard' l' m m' → IsKept request line heard' l' n m'
lost_kept request line l heard heard' l' n m m' k e k' =
    (counted_from request line heard' n m m' (inl e) (answer_before request line l heard' m m' k.1 k'.0), k'.1 ∙ by_all request l ∙ then_all request line l k.1 ∙ sym (by_all request line))

pub lost_lost : (request : Request) (line l : List Fixture) (heard heard' : List ℕ) (l' : List Fixture) → IsLost request line heard l → IsLost request l heard' l' → IsLost request line heard' l'
lost_lost request line l heard heard' l' k k' = (void_before request line l heard' (partly_uids request line l k.1) k'.0, partly_more request line l l' k.1 k'.1)

pub once_more : (request : Request) (line l : List Fixture) (heard heard' : List ℕ) (l' : List Fixture) (least least' lost lost' n m m' : ℕ) → least' ≤ least + 1 → IsUnanswered request heard → Asked request line heard l least lost n m
    → (IsKept request l heard' l' m m' × (lost' ≡ 0)) ⊎ (IsLost request l heard' l' × (lost' ≡ suc lost) × (m' ≡ m)) → Asked request line heard' l' least' lost' n m'
once_more request line l heard heard' l' least least' lost lost' n m m' le e (inl k) (inl k') = inl (kept_kept request line l heard heard' l' n m m' e k k'.0)
once_more request line l heard heard' l' least least' lost lost' n m m' le e (inl k) (inr k') = inl (kept_lost request line l heard heard' l' n m m' e k k'.0 k'.2)
once_more request line l heard heard' l' least least' lost lost' n m m' le e (inr k) (inl k') = inl (lost_kept request line l heard heard' l' n m m' k.0 k.2 k'.0)
once_more request line l heard heard' l' least least' lost lost' n m m' le e (inr k) (inr k') = inr (lost_lost request line l heard heard' l' k.0 k'.0, omega (arith, k.1, k'.1, le), k'.2 ∙ k.2)
