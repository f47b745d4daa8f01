-- What a port hears in a run of a search, and what was found by it.
use Rattle.std.specs.Prelude.{◌≡◌, ℕ, List, [], ◌∷◌, ◌++◌, map, Contains, All, Some}
use Rattle.rdm_frame.specs.declared.uid.Uid.{Uid}
use Rattle.rdm_frame.specs.declared.frame.Frame.{Frame}
use Rattle.rdm_search.specs.declared.found.Found.{Found}
use Rattle.rdm_search.specs.declared.request.Request.TheVariants.{Mute}
use Rattle.rdm_search.specs.Answers.{mute_answer}
use Rattle.rdm_search.specs.Requests.{request_frame}

-- A frame that was sent, and the bytes that were heard after it: none if nothing was.
pub record Exchange : Type 0 where
  pub frame : Frame
  pub heard : List ℕ

-- These exchanges, one after another, lead the port from one state to another. What one exchange is, `hears` says.
abbrev pub IsRun : {P : Type 0} → (P → Frame → List ℕ → P → Type 0) → List Exchange → P → P → Type 0
IsRun hears [] before after = after ≡ before
IsRun {P} hears (x ∷ xs) before after = (mid : P) × hears before x.frame x.heard mid × IsRun hears xs mid after

-- A frame is sent once, or several times, and this is heard at last.
abbrev pub IsAsked : {P : Type 0} → (P → Frame → List ℕ → P → Type 0) → P → Frame → List ℕ → P → Type 0
IsAsked hears before frame heard after =
    (others : List (List ℕ)) × IsRun hears (map (λ h. record { frame = frame; heard = h }) (others ++ heard ∷ [])) before after

-- In one of these exchanges the device was muted, and this is what its valid answer says. Section 7.6.
pub record IsSaid (run : List Exchange) (source : Uid) (x : Found) : Type 0 where
  pub tn : ℕ
  pub heard : List ℕ
  pub muted : Contains run (record { frame = request_frame source tn (Mute x.uid); heard = heard })
  pub answer : mute_answer x.uid heard ≡ Some x

-- While a search by this controller went on from what was known, the port made these exchanges and no others, and what was found
-- since is what was said in them.
pub record HasHeard {P : Type 0} (hears : P → Frame → List ℕ → P → Type 0) (source : Uid) (before after : P) (known found : List Found) : Type 0 where
  pub run : List Exchange
  pub took : IsRun hears run before after
  pub more : List Found
  pub behind : found ≡ known ++ more
  pub said : All (λ x. IsSaid run source x) more
