-- GETs that hand in no data and are answered at once.
use Rattle.std.proofs.Common.{◌≡◌, ℕ, true, List, [], Option, Some, Ok, refl, sym, ap, ◌∙◌}
use Rattle.std.specs.Prelude.{slice_get}
use Rattle.std.specs.Option.{option_map_or}
use Rattle.rdm_table.specs.declared.kind.Verb.TheVariants.{Get}
use Rattle.rdm_commands.specs.declared.jobs.ask.Ask.{Ask}
use Rattle.rdm_table.specs.declared.way.Way.{Way}
use Rattle.rdm_table.specs.declared.way.Way.TheVariants.{AtOnce}
use Rattle.rdm_commands.specs.declared.jobs.work.Work.{Work}
use Rattle.rdm_commands.specs.declared.verdict.Verdict.TheVariants.{Reply}
use Rattle.rdm_profile.specs.declared.profile.Profile.{Profile}
use Rattle.rdm_profile.specs.declared.value.Value.{Value}
use Rattle.rdm_profile.specs.declared.value.Value.TheVariants.{Nothing}
use Rattle.rdm_profile.specs.Forms.{nothing}
use Rattle.rdm_added.specs.Parameters.{Parameters}
use Rattle.rdm_added.specs.Spot.{Spot}
use Rattle.rdm_profile.specs.Values.{byte_or_0}
use Rattle.rdm_table.specs.Table.Rows.{command_of, Command}
use Rattle.rdm_commands.specs.Commands.Commands.{addressed, read_data, verdict, answered, reply_at, work}
use Rattle.rdm_commands.specs.Jobs.Asks.{ask_of}
use Rattle.rdm_table.specs.Table.Uses.{read_as, is_bare, way_of, way_here, reply}
use Rattle.rdm_commands.proofs.ReadData.{one_device, bare_command}

-- what is answered at once is answered so at the devices of every profile
at_once : (p : Profile) (way : Way) (arg : ℕ) (bytes : List ℕ) (job : Work) (ask : Ask) → way ≡ AtOnce → answered (way_here p way Get arg) bytes job ask ≡ Reply bytes
at_once p AtOnce arg bytes job ask e = refl
at_once p _ arg bytes job ask e = absurd cc

first_reply : (command : Option Command) (spots : List Spot) (spot : Spot) (value : Value) → slice_get spots 0 ≡ Some spot → reply_at command spots value ≡ reply command spot value
first_reply command spots spot value first = ap (λ (o : Option Spot). option_map_or (λ s. reply command s value) o []) first

nothing_read : (p : Parameters) (sub pid : ℕ) (spot : Spot) (bytes : List ℕ) → slice_get (addressed p sub Get) 0 ≡ Some spot → is_bare (command_of pid Get) ≡ true → bytes ≡ []
    → read_data p sub (command_of pid Get) Get bytes ≡ Ok Nothing
nothing_read p sub pid spot bytes first bare empty =
    one_device p sub (command_of pid Get) Get spot bytes first refl ∙ (bare_command pid Get spot bytes bare ∙ ap (read_as nothing) empty)

-- such a GET without data answers what the first device gives
pub plain_reply : (p : Parameters) (sub pid : ℕ) (spot : Spot) (bytes body : List ℕ) → slice_get (addressed p sub Get) 0 ≡ Some spot → is_bare (command_of pid Get) ≡ true
    → way_of (command_of pid Get) ≡ AtOnce → bytes ≡ [] → body ≡ reply (command_of pid Get) spot Nothing
    → Reply body ≡ verdict p sub pid (command_of pid Get) Get (read_data p sub (command_of pid Get) Get bytes)
plain_reply p sub pid spot bytes body first bare way empty given =
    let told : Reply body ≡ Reply (reply_at (command_of pid Get) (addressed p sub Get) Nothing)
    = ap (λ (b : List ℕ). Reply b) (given ∙ sym (first_reply (command_of pid Get) (addressed p sub Get) spot Nothing first)) in
    let answer : answered (way_here p.profile (way_of (command_of pid Get)) Get (byte_or_0 Nothing)) (reply_at (command_of pid Get) (addressed p sub Get) Nothing) (work sub pid Get Nothing) (ask_of (byte_or_0 Nothing))
    ≡ Reply (reply_at (command_of pid Get) (addressed p sub Get) Nothing)
    = at_once p.profile (way_of (command_of pid Get)) (byte_or_0 Nothing) (reply_at (command_of pid Get) (addressed p sub Get) Nothing) (work sub pid Get Nothing) (ask_of (byte_or_0 Nothing)) way in
    told ∙ (sym answer ∙ sym (ap (verdict p sub pid (command_of pid Get) Get) (nothing_read p sub pid spot bytes first bare empty)))
