-- Two requests that one response answers.
use Rattle.std.proofs.Common.{◌≡◌, ℕ, ◌+◌, Bool, true, false, ◌&&◌, ◌||◌, ◌==◌, cond, refl, sym, ap, ◌∙◌, arith, true≢false, inl, inr}
use Rattle.std.proofs.lemmas.Bool.{both_ways, cases_Bool, eqb-true}
use Rattle.rdm_frame.specs.declared.frame.Frame.{Frame}
use Rattle.rdm_frame.specs.declared.uid.Uid.{Uid}
use Rattle.rdm_frame.specs.Addressing.{is_broadcast, same_uid}
use Rattle.rdm_interface.specs.Answers.{comes_from, is_fetch, responds_to, is_response}
use Rattle.rdm_interface.specs.Sessions.{LateAnswersArePassedOver}

both : (a b : Bool) → (a && b) ≡ true → (a ≡ true) × (b ≡ true)
both true b e = (refl, e)
both false b e = absurd (true≢false (sym e))

uid_with : ℕ → ℕ → Uid
uid_with maker device = record { maker = maker; device = device }

one_uid : (u v : Uid) → same_uid u v ≡ true → u ≡ v
unfolding uid_with
one_uid u v e =
    let parts = both (u.maker == v.maker) (u.device == v.device) e in
    ap (λ m. uid_with m u.device) (eqb-true u.maker v.maker parts.0) ∙ ap (λ d. uid_with v.maker d) (eqb-true u.device v.device parts.1)

-- the device that was asked, if it was one
single : (destination device : Uid) → comes_from destination device ≡ true → is_broadcast destination ≡ false → device ≡ destination
single destination device e one =
    elim (cases_Bool (same_uid device destination)) [
      | inl same ↦ one_uid device destination same
      | inr other ↦ absurd (both_ways (is_broadcast destination) one (sym (ap (λ t. t || is_broadcast destination) other) ∙ e))
    ]

-- the parts of a test
record IsOf (request f : Frame) : Type 0 where
  number : f.tn ≡ request.tn
  device : is_broadcast request.dst ≡ false → f.src ≡ request.dst
  controller : f.dst ≡ request.src
  command : responds_to request f ≡ true

is_of : (request f : Frame) → is_response request f ≡ true → IsOf request f
is_of request f e =
    let one = both ((f.tn == request.tn) && comes_from request.dst f.src && same_uid f.dst request.src) (responds_to request f) e in
    let two = both ((f.tn == request.tn) && comes_from request.dst f.src) (same_uid f.dst request.src) one.0 in
    let three = both (f.tn == request.tn) (comes_from request.dst f.src) two.0 in
    record {
      number = eqb-true f.tn request.tn three.0;
      device = single request.dst f.src three.1;
      controller = one_uid f.dst request.src two.1;
      command = one.1;
    }

-- the command of a response to what fetches no message
record IsSameCommand (request f : Frame) : Type 0 where
  class : f.class ≡ request.class + 1
  sub : f.sub ≡ request.sub
  pid : f.pid ≡ request.pid

same_command : (request f : Frame) → is_fetch request ≡ false → responds_to request f ≡ true → IsSameCommand request f
same_command request f no_fetch e =
    let tested : ((f.class == request.class + 1) && (f.sub == request.sub) && (f.pid == request.pid)) ≡ true =
    sym (ap (λ t. cond t ((f.class == 0x21) || (f.class == 0x31)) ((f.class == request.class + 1) && (f.sub == request.sub) && (f.pid == request.pid))) no_fetch) ∙ e in
    let one = both ((f.class == request.class + 1) && (f.sub == request.sub)) (f.pid == request.pid) tested in
    let two = both (f.class == request.class + 1) (f.sub == request.sub) one.0 in
    record {
      class = eqb-true f.class (request.class + 1) two.0;
      sub = eqb-true f.sub request.sub two.1;
      pid = eqb-true f.pid request.pid one.1;
    }

pub late_answers : LateAnswersArePassedOver
late_answers request other f a b =
    let one = is_of request f a in
    let two = is_of other f b in
    record {
      number = sym one.number ∙ two.number;
      device = λ no_broadcast no_other. sym (one.device no_broadcast) ∙ two.device no_other;
      controller = sym one.controller ∙ two.controller;
      command = λ no_fetch no_other.
          let c = same_command request f no_fetch one.command in
          let d = same_command other f no_other two.command in
          (omega (arith, c.class, d.class), sym c.sub ∙ d.sub, sym c.pid ∙ d.pid);
    }
