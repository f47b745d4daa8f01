-- Orders stay counted whatever becomes of the values beside SETs.
use Rattle.std.proofs.Common.{◌≡◌, ℕ, ◌==◌, not, Bool, true, false, cond, List, Option, Some, None, Result, Ok, Err, refl}
use Rattle.std.specs.Prelude.{is_some}
use Rattle.std.specs.List.{list_any}
use Rattle.std.specs.Option.{option_map_or}
use Rattle.rdm_frame.specs.declared.nack.Nack.{Nack}
use Rattle.rdm_table.specs.declared.kind.Verb.TheVariants.{Set}
use Rattle.rdm_commands.specs.declared.jobs.outcome.Outcome.TheVariants.{Done, Reading, Failed}
use Rattle.rdm_profile.specs.declared.profile.own.ParameterDef.{ParameterDef}
use Rattle.rdm_profile.specs.declared.value.Value.{Value}
use Rattle.rdm_profile.specs.declared.value.Value.TheVariants.{Byte}
use Rattle.rdm_added.specs.Added.{placed_form, placed_stored}
use Rattle.rdm_profile.specs.Forms.{value_of}
use Rattle.rdm_added.specs.Map.{has_key, update}
use Rattle.rdm_device.specs.Device.Measuring.{placed_by}
use Rattle.rdm_added.specs.Parameters.{Parameters}
use Rattle.rdm_table.specs.Table.Rows.{command_of, Command}
use Rattle.rdm_commands.specs.Commands.Commands.{carried_out, is_all_call, root_spot}
use Rattle.rdm_commands.specs.Commands.Panel.{changed_pid, changed_value, can_change, after_change}
use Rattle.rdm_commands.specs.Commands.Placing.{place_refusal, after_value, after_place, has_set, own_at, own_placed}
use Rattle.rdm_commands.specs.Jobs.Commit.{after_commit}
use Rattle.rdm_params.specs.Laws.{is_counted, CountsStayPlaced, CountsStayCommitted, CountsStayChanged}
use Rattle.rdm_table.specs.Table.Uses.{read, keeps}
use Rattle.rdm_params.proofs.Orders.{update_counts, stays_at}

carried_counts : (p : Parameters) (sub order : ℕ) (command : Option Command) (v : Value) → is_counted (carried_out p sub command v) order ≡ is_counted p order
carried_counts p sub order command v = stays_at p sub order command v (sub == 0) (is_all_call sub Set)

pub counts_stay_committed : CountsStayCommitted
unfolding after_commit
counts_stay_committed p w Done order = carried_counts p w.sub order (command_of w.pid Set) (Byte w.arg)
counts_stay_committed p w (Reading v) order = refl
counts_stay_committed p w (Failed severity id v1 v2) order = refl

if_in_range : (p new : Parameters) (order : ℕ) (within : Bool) → is_counted new order ≡ is_counted p order → is_counted (cond within new p) order ≡ is_counted p order
if_in_range p new order true same = same
if_in_range p new order false same = refl

pub counts_stay_changed : CountsStayChanged
unfolding after_change
counts_stay_changed p change order =
    let command : Option Command = command_of (changed_pid change) Set in
    if_in_range p (carried_out p 0 command (changed_value change)) order (can_change p change) (carried_counts p 0 order command (changed_value change))

value_counts : (p : Parameters) (sub pid order : ℕ) (read' : Result Value Nack) → is_counted (after_value p sub pid read') order ≡ is_counted p order
value_counts p sub pid order (Err nack) = refl
value_counts p sub pid order (Ok v) = carried_counts p sub order (command_of pid Set) v

placed_counts : (p : Parameters) (d : ParameterDef) (order : ℕ) (o : Option Value) → list_any (has_key order 1) (option_map_or (λ value. update (placed_stored d (root_spot p) value) p.added) o p.added) ≡ is_counted p order
placed_counts p d order None = refl
placed_counts p d order (Some v) = update_counts (placed_stored d (root_spot p) v) p.added order

own_counts : (p : Parameters) (bytes : List ℕ) (order : ℕ) (own : Option ParameterDef) → is_counted (option_map_or (λ d. own_placed p d bytes) own p) order ≡ is_counted p order
own_counts p bytes order None = refl
own_counts p bytes order (Some d) = placed_counts p d order (value_of (placed_form d.shape) bytes)

either_counts : (p new other : Parameters) (order : ℕ) (first : Bool) → is_counted new order ≡ is_counted p order → is_counted other order ≡ is_counted p order → is_counted (cond first new other) order ≡ is_counted p order
either_counts p new other order true a b = a
either_counts p new other order false a b = b

pub counts_stay_placed : CountsStayPlaced
unfolding after_place
counts_stay_placed p sub pid order bytes =
    let stored = either_counts p _ (record p { root = update (placed_by bytes) p.root }) order (keeps (command_of pid Set)) (value_counts p sub pid order (read (command_of pid Set) bytes)) refl in
    either_counts p p _ order (is_some (place_refusal p sub pid bytes)) refl (either_counts p _ _ order (not (has_set p sub pid)) (own_counts p bytes order (own_at p sub pid)) stored)
