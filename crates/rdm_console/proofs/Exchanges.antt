-- A request that is sent, and sent again while nothing answers it.
use Rattle.std.proofs.Common.{◌≡◌, ℕ, suc, ◌+◌, ◌≤◌, false, true, List, Option, Some, None, Result, Ok, Err, sym, ◌∙◌, subst, arith, add-one, true≢false}
use Rattle.std.specs.Prelude.{IfOk, IfErr}
use Rattle.std.specs.Option.{is_some}
use Rattle.rdm_collector.specs.declared.port.PortError.{PortError}
use Rattle.rdm_collector.specs.declared.command.Command.{Command}
use Rattle.rdm_collector.specs.declared.any_device.collected.Collected.{Collected}
use Rattle.rdm_collector.specs.AnyDevice.Collecting.{DeviceState}
use Rattle.rdm_console.specs.declared.mailbox.Came.{Came}
use Rattle.rdm_console.specs.declared.exchanging.AskFault.{AskFault}
use Rattle.rdm_console.specs.Mailboxes.{Keeps, Mail}
use Rattle.rdm_console.specs.Exchanges.{FailsAsking, HasGoneWrong, IsAnswered, IsAskedAgain, IsHeard, IsUnanswered, Turn}

-- a mailbox stands where it stood while its collector waits
moved : (mail : Mail) (s : DeviceState) (all : List Collected) → Keeps mail all → Keeps (record mail { collector = s }) all
moved mail s all k = record { last = k.last; message = k.message; before = k.before }

pub heard_by : (mail at after : Mail) (s : DeviceState) (heard : Option (List ℕ)) (said : Came) → at ≡ record mail { collector = s }
    → IsHeard at after at.collector heard said → IsHeard mail after s heard said
heard_by mail at after s heard said same h =
    let now : IsHeard (record mail { collector = s }) after s heard said = subst (λ (m : Mail). IsHeard m after m.collector heard said) same h in
    record {
      sorted = λ all item k one. now.sorted all item (moved mail s all k) one;
      keeps = λ all k. now.keeps all (moved mail s all k);
      other = now.other;
      device = now.device;
      collector = now.collector;
    }

-- ---- again

-- it was sent once more in vain
pub asked_next : {P : Type 0} (hears : P → List ℕ → Option (List ℕ) → P → Type 0) (c : Command) (n : ℕ) (before mid after : Turn P) (reply : Option (List ℕ))
    → IsUnanswered hears c n before mid → IsAnswered hears c mid after reply → is_some reply ≡ false → IsUnanswered hears c (n + 1) before after
asked_next hears c n before mid after (Some bytes) vain once none = absurd (true≢false none)
asked_next hears c n before mid after None vain once none =
    let next : IsUnanswered hears c (suc n) before after = (mid, vain, once) in
    subst (λ k. IsUnanswered hears c k before after) (sym (add-one n)) next

-- it is answered after fewer turns
pub answered : {P : Type 0} (hears : P → List ℕ → Option (List ℕ) → P → Type 0) (c : Command) (n : ℕ) (before mid after : Turn P) (reply : Option (List ℕ))
    → IsUnanswered hears c n before mid → IsAnswered hears c mid after reply → is_some reply ≡ true → n ≤ 2 → IsAskedAgain hears c before after reply
answered hears c n before mid after reply vain once some few = record {
  times = n;
  mid = mid;
  in_vain = vain;
  last = once;
  within = few;
  all_in_vain = λ none. absurd (true≢false (sym some ∙ none));
}

-- it is sent for the last time
pub last_answer : {P : Type 0} (hears : P → List ℕ → Option (List ℕ) → P → Type 0) (c : Command) (n : ℕ) (before mid after : Turn P) (r : Result (Option (List ℕ)) AskFault)
    → IsUnanswered hears c n before mid → n ≡ 2 → IfOk r (IsAnswered hears c mid after) → IfOk r (IsAskedAgain hears c before after)
last_answer hears c n before mid after (Ok reply) vain two once = record {
  times = n;
  mid = mid;
  in_vain = vain;
  last = once;
  within = omega (arith, two);
  all_in_vain = λ none. two;
}
last_answer hears c n before mid after (Err why) vain two once = once

pub last_fault : {P : Type 0} (hears : P → List ℕ → Option (List ℕ) → P → Type 0) (fails : P → List ℕ → PortError → P → Type 0) (c : Command) (n : ℕ) (before mid after : Turn P)
    (r : Result (Option (List ℕ)) AskFault) → IsUnanswered hears c n before mid → n ≡ 2 → IfErr r (HasGoneWrong fails c mid after) → IfErr r (FailsAsking hears fails c before after)
last_fault hears fails c n before mid after (Err why) vain two wrong = record {
  times = n;
  mid = mid;
  in_vain = vain;
  wrong = wrong;
  within = omega (arith, two);
}
last_fault hears fails c n before mid after (Ok reply) vain two wrong = wrong
