-- What C is told of bytes that a responder hears.
use Rattle.std.specs.Prelude.{◌≡◌, ◌↔◌, ℕ, List, None, IfSome, IsSomeAnd, length}
use Rattle.std.specs.Option.{is_some, option_map}
use Rattle.rdm_frame.specs.Reading.{frame_in}
use Rattle.rdm_params.specs.Commands.Changed.{change_of}
use Rattle.rdm_responder.specs.History.{History, Heard, then_event}
use Rattle.rdm_responder.specs.Rules.{account_of, job_of, reply_of}
use Rattle.rdm_c.specs.declared.job.SteppedNumbers.{SteppedNumbers}
use Rattle.rdm_c.specs.Changes.{change_in, IsPlainly}
use Rattle.rdm_c.specs.Endpoints.{flag, told}
use Rattle.rdm_c.specs.Jobs.{numbers_of, started_in}

-- The bytes of the reply stand at the front, so many of them, if there is one; and whether there is one is told.
abbrev pub ReplyTold : History → List ℕ → List ℕ → SteppedNumbers → Type 0
ReplyTold h bytes reply n =
    (told n.replied n.count reply ≡ reply_of h bytes) × IfSome (reply_of h bytes) (λ r. n.count ≡ length r)
    × (n.replied ≡ flag (is_some (reply_of h bytes)))

-- The job that started, if one did; and whether one did is told.
abbrev pub StartTold : History → List ℕ → SteppedNumbers → Type 0
StartTold h bytes n =
    (started_in n ≡ option_map (numbers_of (account_of h).parameters.profile) (job_of h bytes))
    × (n.started ≡ flag (is_some (job_of h bytes)))

-- No change is told exactly if no parameter changed.
abbrev pub NoChangeTold : History → List ℕ → SteppedNumbers → Type 0
NoChangeTold h bytes n = (change_in n ≡ None) ↔ ((account_of (then_event h (Heard bytes))).parameters ≡ (account_of h).parameters)

-- A change that is told is that of the request, in the one way that there is to tell it.
abbrev pub ChangeTold : List ℕ → SteppedNumbers → Type 0
ChangeTold bytes n = IfSome (change_in n) (λ c. IsSomeAnd (frame_in bytes) (λ f. c ≡ change_of f.sub f.pid)) × IsPlainly n
