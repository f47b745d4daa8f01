-- A line with no fixture.
use Rattle.std.proofs.Common.{◌≡◌, ℕ, ◌≤◌, List, [], None, refl, sym, subst, inl, arith}
use Rattle.std.specs.Prelude.{Contains, IsSome, ◌↔◌}
use Rattle.rdm_frame.specs.declared.uid.Uid.{Uid}
use Rattle.rdm_frame.specs.FrameText.{frame_text, head_slots}
use Rattle.rdm_frame.specs.Reading.{frame_in}
use Rattle.rdm_search.specs.declared.request.Request.{Request}
use Rattle.rdm_search.specs.declared.request.Request.TheVariants.{UnMute, UniqueBranch, Mute}
use Rattle.rdm_search.specs.Answers.{mute_answer}
use Rattle.rdm_search.specs.Line.{Fixture, IsHeard, IsAnswer, after_request}

silent : frame_in [] ≡ None
unfolding frame_in frame_text head_slots
silent = refl

no_answer : (u : Uid) → mute_answer u [] ≡ None
no_answer u = rw silent refl

absent : (u : Uid) → IsHeard (Mute u) [] []
absent u = rw (no_answer u) ((λ some. absurd cc, λ there. absurd (omega (arith, there.1))), λ sounds. absurd (sounds refl))

nothing_heard : (request : Request) (heard : List ℕ) → heard ≡ [] → IsHeard request [] heard
nothing_heard UnMute heard e = e
nothing_heard (UniqueBranch a b) heard e = e
nothing_heard (Mute u) heard e = subst (λ (h : List ℕ). IsHeard (Mute u) [] h) (sym e) (absent u)

pub nothing_comes : (request : Request) (heard : List ℕ) → heard ≡ [] → IsAnswer request [] heard 0 0
nothing_comes request heard e = inl (nothing_heard request heard e, inl refl)

pub nobody_after : (request : Request) → [] ≡ after_request request []
nobody_after UnMute = refl
nobody_after (UniqueBranch a b) = refl
nobody_after (Mute u) = refl
