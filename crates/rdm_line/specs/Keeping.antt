-- What a device keeps of what its last request came to.
use Rattle.std.specs.Prelude.{◌≡◌, ◌↔◌, ℕ, true, false, List, zip, Option, None, is_some, IfSome, IsSomeAnd}
use Rattle.std.specs.List.{AllZip}
use Rattle.rdm_frame.specs.Reading.{frame_in}
use Rattle.rdm_params.specs.Commands.Changed.{change_of}
use Rattle.rdm_responder.specs.declared.stepped.Stepped.{Stepped}
use Rattle.rdm_responder.specs.History.{History, Heard, then_event}
use Rattle.rdm_responder.specs.Rules.{account_of, job_of, reply_of}
use Rattle.rdm_responder.specs.Started.{job_in, IsAsInProfile}
use Rattle.rdm_line.specs.Hearing.{hears}

-- These bytes came to this, after this history: whether they were answered, which job they started, and what they changed.
pub record CameTo (h : History) (bytes : List ℕ) (stepped : Stepped) : Type 0 where
  pub replied : stepped.replied ≡ is_some (reply_of h bytes)
  pub job : job_in stepped.started ≡ job_of h bytes
  -- its worker and its estimate, section 6.3.3
  pub table : IfSome stepped.started (IsAsInProfile (account_of h).parameters.profile)
  pub unchanged : (stepped.changed ≡ None) ↔ ((account_of (then_event h (Heard bytes))).parameters ≡ (account_of h).parameters)
  pub what : IfSome stepped.changed (λ c. IsSomeAnd (frame_in bytes) (λ f. c ≡ change_of f.sub f.pid))

-- A device that hears bytes keeps what they came to, if it keeps such at all; else it keeps what it kept before.
pub record HasKept {D : Type 0} (came_to : D → Option Stepped) (bytes : List ℕ) (h : History) (before after : D) : Type 0 where
  pub heard : hears h.setup.uid bytes ≡ true → IfSome (came_to after) (CameTo h bytes)
  pub unheard : hears h.setup.uid bytes ≡ false → came_to after ≡ came_to before

-- Each device of a line with these histories has kept that.
abbrev pub HaveKept : {D : Type 0} → (D → Option Stepped) → List ℕ → List History → List D → List D → Type 0
HaveKept came_to bytes hs before after = AllZip (λ h x. HasKept came_to bytes h x.0 x.1) hs (zip before after)
