-- A command is said exactly by the words that spell it.
use Rattle.std.proofs.Common.{◌≡◌, List, ℕ, Some, refl, subst}
use Rattle.std.proofs.lemmas.Option.{option_and_then_some, same_Some}
use Rattle.rdm_frame.specs.DigitReading.{◌>>=◌}
use Rattle.rdm_collector.specs.declared.command.Command.{Command}
use Rattle.rdm_script.specs.Dialects.{Dialect}
use Rattle.rdm_script.specs.Grammar.{action_in, destination_in, sub_in, pid_in, load_in, command_in}
use Rattle.rdm_script.specs.Spelling.{SpellsDestination, SpellsSub, SpellsPid, SpellsLoad, SpellsAction}
use Rattle.rdm_script.proofs.WordSpellings.{destination_read, destination_again, action_read, action_again}
use Rattle.rdm_script.proofs.FriendlySpellings.{sub_read, sub_again, pid_read, pid_again, load_read, load_again}

-- the five words of a command, one by one
pub record SpellsWords (d : Dialect) (w0 w1 w2 w3 w4 : List ℕ) (c : Command) : Type 0 where
  pub action : SpellsAction w0 c.action
  pub destination : SpellsDestination d.device w1 c.dst
  pub sub : SpellsSub d.spelling w2 c.sub
  pub pid : SpellsPid d.spelling d.own w3 c.pid
  pub load : SpellsLoad d.spelling w4 c.load

pub command_read : (d : Dialect) (action dst sub pid load : List ℕ) (c : Command) → command_in d action dst sub pid load ≡ Some c → SpellsWords d action dst sub pid load c
unfolding command_in
command_read dialect action dst sub pid load c e =
    let k = dialect.spelling in
    let own = dialect.own in
    option_and_then_some (λ a. destination_in dialect.device dst >>= λ d. sub_in k sub >>= λ s. pid_in k own pid >>= λ p. load_in k load >>= λ l. Some (record { dst = d; action = a; sub = s; pid = p; load = l })) (action_in action) c e (λ a is_a e1.
    option_and_then_some (λ d. sub_in k sub >>= λ s. pid_in k own pid >>= λ p. load_in k load >>= λ l. Some (record { dst = d; action = a; sub = s; pid = p; load = l })) (destination_in dialect.device dst) c e1 (λ d is_d e2.
    option_and_then_some (λ s. pid_in k own pid >>= λ p. load_in k load >>= λ l. Some (record { dst = d; action = a; sub = s; pid = p; load = l })) (sub_in k sub) c e2 (λ s is_s e3.
    option_and_then_some (λ p. load_in k load >>= λ l. Some (record { dst = d; action = a; sub = s; pid = p; load = l })) (pid_in k own pid) c e3 (λ p is_p e4.
    option_and_then_some (λ l. Some (record { dst = d; action = a; sub = s; pid = p; load = l })) (load_in k load) c e4 (λ l is_l made.
    let one : Command = record { dst = d; action = a; sub = s; pid = p; load = l } in
    subst (λ (x : Command). SpellsWords dialect action dst sub pid load x) (same_Some one c made) (record { action = action_read action a is_a; destination = destination_read dialect.device dst d is_d; sub = sub_read k sub s is_s; pid = pid_read k own pid p is_p; load = load_read k load l is_l }))))))

pub command_again : (d : Dialect) (action dst sub pid load : List ℕ) (c : Command) → SpellsWords d action dst sub pid load c → command_in d action dst sub pid load ≡ Some c
unfolding command_in
command_again d action dst sub pid load c s =
    rw (action_again action c.action s.action, destination_again d.device dst c.dst s.destination, sub_again d.spelling sub c.sub s.sub, pid_again d.spelling d.own pid c.pid s.pid, load_again d.spelling load c.load s.load) refl
