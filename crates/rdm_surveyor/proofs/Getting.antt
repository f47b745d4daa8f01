-- A command that is a GET, and what is sent for it.
use Rattle.std.proofs.Common.{◌≡◌, ◌⊎◌, inl, inr, ℕ, zero, suc, List, Option, Some, None, Result, Ok, Err, OnOk, refl, sym, ap, subst}
use Rattle.std.specs.Prelude.{IfOk, IfErr}
use Rattle.rdm_collector.specs.declared.port.PortError.{PortError}
use Rattle.rdm_collector.specs.declared.command.Command.{Command}
use Rattle.rdm_collector.specs.declared.command.Action.TheVariants as action
use Rattle.rdm_collector.specs.Requests.{class_of}
use Rattle.rdm_collector.specs.Sending.{command_request}
use Rattle.rdm_collector.specs.AnyDevice.Collecting.{DeviceState, sender}
use Rattle.rdm_console.specs.declared.exchanging.AskFault.{AskFault}
use Rattle.rdm_console.specs.declared.exchanging.AskFault.TheVariants as wrong
use Rattle.rdm_console.specs.Exchanges.{FailsAsking, HasGoneWrong, IsAnswered, IsAskedAgain, IsUnanswered, Turn, request_text}
use Rattle.rdm_surveyor.specs.Getting.{FailsGet, GoesOn, GoesOnTrying, HasGot, HasTried, IsGet, IsGot}

-- the bytes of such a command
is_get : (s : DeviceState) (c : Command) → c.action ≡ action.Get → IsGet (request_text s (Some c))
is_get s c get = record { frame = command_request (sender s) c; is_text = refl; class = ap class_of get }

-- nothing was sent yet
pub none_got : {P : Type 0} (hears : P → List ℕ → Option (List ℕ) → P → Type 0) (p : P) → HasGot hears p p
none_got hears p = record { count = zero; got = refl }

-- one more was sent
pub one_more : {P : Type 0} (hears : P → List ℕ → Option (List ℕ) → P → Type 0) (before mid after : P) → HasGot hears before mid → IsGot hears mid after → HasGot hears before after
one_more hears before mid after got one = record { count = suc got.count; got = (mid, got.got, one) }

-- the command was sent once
once : {P : Type 0} (hears : P → List ℕ → Option (List ℕ) → P → Type 0) (c : Command) (before after : Turn P) (reply : Option (List ℕ))
    → c.action ≡ action.Get → IsAnswered hears c before after reply → IsGot hears before.port after.port
once hears c before after reply get said = record {
  request = request_text before.mail.collector (Some c);
  heard = said.heard;
  is_get = is_get before.mail.collector c get;
  sent = said.sent.sent;
}

-- it was sent N times in vain
in_vain : {P : Type 0} (hears : P → List ℕ → Option (List ℕ) → P → Type 0) (c : Command) (n : ℕ) (start : P) (before after : Turn P)
    → c.action ≡ action.Get → IsUnanswered hears c n before after → HasGot hears start before.port → HasGot hears start after.port
in_vain hears c zero start before after get same got = subst (λ t. HasGot hears start t.port) (sym same) got
in_vain hears c (suc n) start before after get (mid, vain, last) got =
    one_more hears start mid.port after.port (in_vain hears c n start before mid get vain got) (once hears c mid after None get last)

-- A command that is a GET was asked, and answered at last or not.
pub asked : {P : Type 0} (hears : P → List ℕ → Option (List ℕ) → P → Type 0) (c : Command) (before after : Turn P) (r : Result (Option (List ℕ)) AskFault)
    → c.action ≡ action.Get → IfOk r (IsAskedAgain hears c before after) → IfOk r (λ reply. GoesOn hears before.port after.port)
asked hears c before after (Ok reply) get said = λ start got.
    one_more hears start said.mid.port after.port (in_vain hears c said.times start before said.mid get said.in_vain got) (once hears c said.mid after reply get said.last)
asked hears c before after (Err why) get said = said

ended : {P : Type 0} (fails : P → List ℕ → PortError → P → Type 0) (c : Command) (mid after : Turn P) (why : AskFault)
    → c.action ≡ action.Get → HasGoneWrong fails c mid after why → (after.port ≡ mid.port) ⊎ FailsGet fails mid.port after.port
ended fails c mid after (wrong.Ask error) get (refused, same) = inl (ap (λ t. t.port) same)
ended fails c mid after (wrong.Port error) get failed = inr (record {
  request = request_text mid.mail.collector (Some c);
  error = error;
  is_get = is_get mid.mail.collector c get;
  failed = failed.failed;
})

-- It failed.
pub failed : {P : Type 0} (hears : P → List ℕ → Option (List ℕ) → P → Type 0) (fails : P → List ℕ → PortError → P → Type 0) (c : Command) (before after : Turn P) (r : Result (Option (List ℕ)) AskFault)
    → c.action ≡ action.Get → IfErr r (FailsAsking hears fails c before after) → IfErr r (λ why. GoesOnTrying hears fails before.port after.port)
failed hears fails c before after (Err why) get said = λ start got. record {
  last = said.mid.port;
  got = in_vain hears c said.times start before said.mid get said.in_vain got;
  ended = ended fails c said.mid after why get said.wrong;
}
failed hears fails c before after (Ok reply) get said = said

-- What went on went on trying.
pub tried : {P : Type 0} (hears : P → List ℕ → Option (List ℕ) → P → Type 0) (fails : P → List ℕ → PortError → P → Type 0) (start after : P) → HasGot hears start after → HasTried hears fails start after
tried hears fails start after got = record { last = after; got = got; ended = inl refl }

module _ {P : Type 0} (hears : P → List ℕ → Option (List ℕ) → P → Type 0) where
  -- One more was sent.
  pub exchanged : (before mid after : P) (request : List ℕ) (heard : Option (List ℕ)) → GoesOn hears before mid → IsGet request → hears mid request heard after
      → GoesOn hears before after
  exchanged before mid after request heard so_far get sent = λ start got.
      one_more hears start mid after (so_far start got) (record { request = request; heard = heard; is_get = get; sent = sent })

  -- What went on is tried, whatever comes then.
  pub goes_trying : (fails : P → List ℕ → PortError → P → Type 0) (before after : P) → GoesOn hears before after → GoesOnTrying hears fails before after
  goes_trying fails before after so_far = λ start got. tried hears fails start after (so_far start got)

  -- The port failed at one more.
  pub broken : (fails : P → List ℕ → PortError → P → Type 0) (before mid after : P) (request : List ℕ) (error : PortError) → GoesOn hears before mid → IsGet request
      → fails mid request error after → GoesOnTrying hears fails before after
  broken fails before mid after request error so_far get failed = λ start got.
      record { last = mid; got = so_far start got; ended = inr (record { request = request; error = error; is_get = get; failed = failed }) }

  -- Where nothing was sent before, what was sent since is all.
  pub from_nothing : {T E : Type 0} (r : Result T E) (before after : P) → OnOk r (GoesOn hears before after) → OnOk r (HasGot hears before after)
  from_nothing (Err e) before after got = tt
  from_nothing (Ok t) before after got = got before (none_got hears before)
