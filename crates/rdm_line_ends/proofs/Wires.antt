-- What is on the wire belongs to the request that was heard.
use Rattle.std.proofs.Common.{◌≡◌, ◌≢◌, ℕ, suc, ◌<◌, ◌≤◌, ◌==◌, true, List, [], ◌∷◌, ◌++◌, length, fold, max, Option, Some, None, refl, sym, ap, subst, ◌∙◌, inl, inr, arith}
use Rattle.std.specs.Prelude.{AllPairs, bit_or, slice_index}
use Rattle.std.specs.List.{AllByRecursion}
use Rattle.std.specs.Option.{option_to_list}
use Rattle.std.proofs.lemmas.Bool.{and_from, both_ways, cases_Bool, eq-eqb}
use Rattle.std.proofs.lemmas.List.FromFn.{length-map-range_with_len}
use Rattle.rdm_frame.specs.declared.frame.Frame.{Frame}
use Rattle.rdm_frame.specs.Reading.{frame_in}
use Rattle.rdm_responder.specs.History.{History}
use Rattle.rdm_responder.specs.Requests.{request_in}
use Rattle.rdm_responder.specs.Rules.{account_of, answer_to, reply_of}
use Rattle.rdm_line.specs.declared.collision.Collision.{Collision}
use Rattle.rdm_line.specs.declared.collision.Collision.TheVariants.{AllBits, First, Rubbish}
use Rattle.rdm_line.specs.declared.on_wire.OnWire.{OnWire}
use Rattle.rdm_line.specs.declared.on_wire.OnWire.TheVariants.{Nothing}
use Rattle.rdm_line.specs.Collisions.{all_bits, collided, on_wire}
use Rattle.rdm_line.specs.Hearing.{answers}
use Rattle.rdm_line.specs.Laws.{IsBranch}
use Rattle.rdm_line.specs.Line.{uids_of}
use Rattle.rdm_line.proofs.Collisions.{collide, silent_all}
use Rattle.rdm_messages.specs.Protocol.{from_line}
use Rattle.rdm_interface.specs.Answers.{belongs, is_branch, wanted_for}
use Rattle.rdm_interface.specs.Sessions.{IsReplyTo}
use Rattle.rdm_line_ends.specs.Replies.{AreBytes, WhatIsOnTheWireBelongs}
use Rattle.rdm_line_ends.proofs.Replying.{branch_belongs, branch_size, branches_are_answered, replies_belong}

-- ---- who answered

head_is : (x y : List ℕ) (xs ys : List (List ℕ)) → x ∷ xs ≡ y ∷ ys → x ≡ y
head_is x y xs ys e = cc

nothing_is : (x : List ℕ) (xs : List (List ℕ)) → [] ≡ x ∷ xs → ⊥
nothing_is x xs e = cc

one_of : (h : History) (hs : List History) (request answer : List ℕ) (more : List (List ℕ)) (reply : Option (List ℕ)) → reply_of h request ≡ reply
    → option_to_list reply ++ answers request hs ≡ answer ∷ more → (answers request hs ≡ answer ∷ more → (k : History) × (reply_of k request ≡ Some answer))
    → (k : History) × (reply_of k request ≡ Some answer)
one_of h hs request answer more None is e later = later e
one_of h hs request answer more (Some x) is e later = (h, is ∙ ap (λ (l : List ℕ). Some l) (head_is x answer (answers request hs) more e))

-- the first answer is that of a device
first_of : (hs : List History) (request answer : List ℕ) (more : List (List ℕ)) → answers request hs ≡ answer ∷ more → (h : History) × (reply_of h request ≡ Some answer)
first_of [] request answer more e = absurd cc
first_of (h ∷ hs) request answer more e = one_of h hs request answer more (reply_of h request) refl e (first_of hs request answer more)

-- ---- a collision

abbrev IsLong : List ℕ → Type 0
IsLong answer = length answer ≡ 24

branch_long : (request : List ℕ) (f : Frame) (h : History) (reply : Option (List ℕ)) (rest : List (List ℕ)) → frame_in request ≡ Some f → is_branch f ≡ true → reply_of h request ≡ reply
    → AllByRecursion IsLong rest → AllByRecursion IsLong (option_to_list reply ++ rest)
branch_long request f h None rest found branch is all = all
branch_long request f h (Some x) rest found branch is all =
    (ap (λ (l : List ℕ). length l) (branches_are_answered h request x f found branch is) ∙ branch_size h.setup.uid, all)

-- each answer to DISC_UNIQUE_BRANCH has 24 bytes
branches_long : (hs : List History) (request : List ℕ) (f : Frame) → frame_in request ≡ Some f → is_branch f ≡ true → AllByRecursion IsLong (answers request hs)
branches_long [] request f found branch = tt
branches_long (h ∷ hs) request f found branch =
    branch_long request f h (reply_of h request) (answers request hs) found branch refl (branches_long hs request f found branch)

bits_long : (xs ys : List ℕ) → IsLong xs → IsLong ys → IsLong (all_bits xs ys)
bits_long xs ys one other =
    length-map-range_with_len (λ i. bit_or (slice_index xs i) (slice_index ys i)) 0 (max (length xs) (length ys))
    ∙ ap (λ n. max n (length ys)) one ∙ ap (λ n. max 24 n) other

all_long : (first : List ℕ) (others : List (List ℕ)) → IsLong first → AllByRecursion IsLong others → IsLong (fold all_bits first others)
all_long first [] one all = one
all_long first (x ∷ others) one all = all_long (all_bits first x) others (bits_long first x one all.0) all.1

-- and so has what they make together
collision_long : (rule : Collision) (first : List ℕ) (others : List (List ℕ)) → IsLong first → AllByRecursion IsLong others → IsLong (collided rule first others)
collision_long AllBits first others one all = all_long first others one all
collision_long First first others one all = one
collision_long (Rubbish seed) first others one all = refl

frame_is : (f g : Frame) → Some f ≡ Some g → f ≡ g
frame_is f g e = cc

-- what several answered was DISC_UNIQUE_BRANCH
several : (hs : List History) (request : List ℕ) (f : Frame) → AllPairs (λ u v. u ≢ v) (uids_of hs) → frame_in request ≡ Some f → 1 < length (answers request hs) → is_branch f ≡ true
several hs request f apart found many =
    elim (cases_Bool (is_branch f)) [
      | inl branch ↦ branch
      | inr other ↦
          (
          let no_branch : IsBranch request → ⊥ = λ is.
          (let same : f ≡ is.0 = frame_is f is.0 (sym found ∙ is.1) in
          both_ways (is_branch f) other (ap is_branch same ∙ and_from (is.0.class == 0x10) (is.0.pid == 0x0001) (eq-eqb is.0.class 0x10 is.2) (eq-eqb is.0.pid 0x0001 is.3))) in
          let few = collide hs request apart no_branch in
          absurd (omega (arith, few, many))
          )
    ]

none_answers : (hs : List History) (request : List ℕ) → frame_in request ≡ None → answers request hs ≡ []
none_answers hs request found = silent_all hs request (λ h. ap (λ (o : Option Frame). answer_to (account_of h) (request_in (account_of h).setup.uid o)) found)

collision_belongs : (hs : List History) (rule : Collision) (request first second : List ℕ) (others : List (List ℕ)) (o : Option Frame) → AllPairs (λ u v. u ≢ v) (uids_of hs) → frame_in request ≡ o
    → answers request hs ≡ first ∷ (second ∷ others) → (length (collided rule first (second ∷ others)) ≤ 257) × (belongs (wanted_for o) (from_line (collided rule first (second ∷ others))) ≡ true)
collision_belongs hs rule request first second others None apart found e = absurd (nothing_is first (second ∷ others) (sym (none_answers hs request found) ∙ e))
collision_belongs hs rule request first second others (Some f) apart found e =
    let size : length (answers request hs) ≡ suc (suc (length others)) = ap (λ (l : List (List ℕ)). length l) e in
    let branch = several hs request f apart found (omega (arith, size)) in
    let all = subst (AllByRecursion IsLong) e (branches_long hs request f found branch) in
    branch_belongs f (collided rule first (second ∷ others)) branch (collision_long rule first (second ∷ others) all.0 all.1)

-- ---- what is on the wire

wire_belongs : (hs : List History) (rule : Collision) (request before bytes : List ℕ) (told : OnWire) (all : List (List ℕ)) → AllPairs (λ u v. u ≢ v) (uids_of hs) → AreBytes request → AreBytes bytes
    → told ≢ Nothing → answers request hs ≡ all → on_wire rule before all ≡ (told, bytes) → IsReplyTo request (Some bytes)
wire_belongs hs rule request before bytes told [] apart asked are some e wire = absurd (some (sym (ap (λ (w : OnWire × List ℕ). w.0) wire)))
wire_belongs hs rule request before bytes told (answer ∷ []) apart asked are some e wire =
    let one = first_of hs request answer [] e in
    let same : answer ≡ bytes = ap (λ (w : OnWire × List ℕ). w.1) wire in
    replies_belong one.0 request bytes asked are (one.1 ∙ ap (λ (l : List ℕ). Some l) same)
wire_belongs hs rule request before bytes told (first ∷ (second ∷ others)) apart asked are some e wire =
    let same : collided rule first (second ∷ others) ≡ bytes = ap (λ (w : OnWire × List ℕ). w.1) wire in
    subst (λ (l : List ℕ). (length l ≤ 257) × (belongs (wanted_for (frame_in request)) (from_line l) ≡ true)) same
    (collision_belongs hs rule request first second others (frame_in request) apart refl e)

pub on_the_wire : WhatIsOnTheWireBelongs
on_the_wire hs rule request before bytes told apart asked are some wire =
    wire_belongs hs rule request before bytes told (answers request hs) apart asked are some refl wire
