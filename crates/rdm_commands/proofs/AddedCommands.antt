-- Commands of PIDs that the table doesn't have, or that a profile leaves out.
use Rattle.std.proofs.Common.{◌≡◌, ◌≢◌, ℕ, ◌==◌, ◌&&◌, ◌||◌, not, Bool, true, false, cond, List, [], length, Option, Some, None, Result, Ok, Err, refl, sym, ap, ◌∙◌}
use Rattle.std.specs.Prelude.{is_some, is_ok, find, take, nat_lt, IfOk, IfErr}
use Rattle.std.specs.Option.{option_map_or}
use Rattle.std.proofs.lemmas.Bool.{ne_eqb}
use Rattle.rdm_frame.specs.declared.nack.Nack.{Nack}
use Rattle.rdm_frame.specs.declared.nack.Nack.TheVariants.{WriteProtect, FormatError, UnknownPid, UnsupportedCommandClass, DataOutOfRange, SubDeviceOutOfRange}
use Rattle.rdm_table.specs.declared.kind.Verb.{Verb}
use Rattle.rdm_table.specs.declared.kind.Verb.TheVariants.{Get, Set}
use Rattle.rdm_table.specs.declared.way.Way.{Way}
use Rattle.rdm_table.specs.declared.way.Way.TheVariants.{AtOnce}
use Rattle.rdm_commands.specs.declared.verdict.Verdict.{Verdict}
use Rattle.rdm_commands.specs.declared.verdict.Verdict.TheVariants.{Reply, Refuse}
use Rattle.rdm_profile.specs.declared.profile.own.ParameterDef.{ParameterDef}
use Rattle.rdm_profile.specs.declared.profile.Profile.{Profile}
use Rattle.rdm_added.specs.Added.{set_form, set_range, takes, own_stored, is_pid_of}
use Rattle.rdm_added.specs.Scenes.{protects_by}
use Rattle.rdm_added.specs.Locking.{is_set_locked, is_no_pin, pin_kept}
use Rattle.std.specs.Int.{w16, from_be_bytes}
use Rattle.rdm_profile.specs.Forms.{has_length, value_in, value_of}
use Rattle.rdm_profile.specs.OwnParameters.{has_set}
use Rattle.rdm_profile.specs.declared.value.Value.{Value}
use Rattle.rdm_added.specs.Map.{Entry, update}
use Rattle.rdm_added.specs.Parameters.{Parameters}
use Rattle.rdm_added.specs.Spot.{Spot}
use Rattle.rdm_commands.specs.Commands.Added.{row_here, handed_with, handed_here, reply_here, after_with, after_here, stored_here}
use Rattle.rdm_table.specs.Table.Rows.{command_of, Command, Row, row_of, row_or, row_at, table, is_left_out, added_row, takes_added, command_in}
use Rattle.rdm_commands.specs.Commands.Commands.{command_at, accepted, got, answer_to_set, after_set, is_read_only, is_lockable, open_to, unprotected, read_data, read_data_at, addressed, is_some_device, is_all_call, root_spot, verdict, answered, work, got_by_row, answer_by_row, after_by_row, after_accepted, carried_out, check, ◌>>=◌}
use Rattle.rdm_table.specs.Table.Uses.{added_written, access, change, reply, way_of, way_at, way_here, is_by_job}
use Rattle.rdm_commands.specs.Jobs.Asks.{ask_of}
use Rattle.rdm_profile.specs.Values.{byte_or_0}
use Rattle.rdm_commands.proofs.BlockRows.{not_got, not_answered, not_moved}
use Rattle.rdm_commands.proofs.AddedRows.{here_is, parameter_is}
use Rattle.rdm_table.proofs.FactoryRows.{update_leaves}
use Rattle.rdm_commands.proofs.ReadData.{one_device}
use Rattle.rdm_table.proofs.Supported.{nothing_added, row_alone}

-- ---- the row of a PID

first_known : (first later : Option Row) (is_root : Bool) (verb : Verb) → access first is_root verb ≡ Ok tt → row_or first later ≡ first
first_known None later is_root verb e = absurd cc
first_known (Some r) later is_root verb e = refl

stays_at : (p : Profile) (pid : ℕ) → is_left_out p pid ≡ false → row_at p pid ≡ row_or (row_of pid) (row_here p pid)
stays_at p pid stays = ap (λ (left : Bool). cond left None (row_or (row_of pid) (row_here p pid))) stays

-- what the table has, and the profile doesn't leave out, the devices have
pub tabled : (p : Profile) (pid : ℕ) (is_root : Bool) (verb : Verb) → is_left_out p pid ≡ false → access (row_of pid) is_root verb ≡ Ok tt → row_at p pid ≡ row_of pid
tabled p pid is_root verb stays e = stays_at p pid stays ∙ first_known (row_of pid) (row_here p pid) is_root verb e

lacking : (p : Profile) (pid : ℕ) → is_left_out p pid ≡ true → row_at p pid ≡ None
lacking p pid left = ap (λ (left : Bool). cond left None (row_or (row_of pid) (row_here p pid))) left

-- ---- refusals

refuses : (here : Bool) (r : Result (Unit {0}) Nack) (f : Unit {0} → Result Value Nack) (nack : Nack) → here ≡ true → r ≡ Err nack → ((check here SubDeviceOutOfRange >>= (λ u. r)) >>= f) ≡ Err nack
refuses true (Err n) f nack h e = cc
refuses true (Ok u) f nack h e = absurd cc
refuses false r f nack h e = absurd cc

pub not_accepted : (p : Parameters) (sub pid : ℕ) (verb : Verb) (bytes : List ℕ) (nack : Nack) → is_some_device (addressed p sub verb) ≡ true → access (row_at p.profile pid) (sub == 0) verb ≡ Err nack → accepted p sub pid verb bytes ≡ Err nack
unfolding accepted
not_accepted p sub pid verb bytes nack here e =
    refuses (is_some_device (addressed p sub verb)) (access (row_at p.profile pid) (sub == 0) verb) (λ u. unprotected p.profile p.added pid (command_at p pid verb) verb bytes >>= (λ w. read_data p sub (command_at p pid verb) verb bytes)) nack here e

refused_get : (p : Parameters) (sub pid : ℕ) (bytes : List ℕ) (nack : Nack) → is_some_device (addressed p sub Get) ≡ true → access (row_at p.profile pid) (sub == 0) Get ≡ Err nack → got p sub pid bytes ≡ Refuse nack
refused_get p sub pid bytes nack here e = not_got p sub pid bytes nack (not_accepted p sub pid Get bytes nack here e)

refused_set : (p : Parameters) (sub pid : ℕ) (bytes : List ℕ) (nack : Nack) → is_some_device (addressed p sub Set) ≡ true → access (row_at p.profile pid) (sub == 0) Set ≡ Err nack → answer_to_set p sub pid bytes ≡ Refuse nack
refused_set p sub pid bytes nack here e = not_answered p sub pid bytes nack (not_accepted p sub pid Set bytes nack here e)

refused_leaves : (p : Parameters) (sub pid : ℕ) (bytes : List ℕ) (nack : Nack) → is_some_device (addressed p sub Set) ≡ true → access (row_at p.profile pid) (sub == 0) Set ≡ Err nack → p ≡ after_set p sub pid bytes
refused_leaves p sub pid bytes nack here e = not_moved p sub pid bytes nack (not_accepted p sub pid Set bytes nack here e)

-- where there is no device
no_device : (p : Parameters) (sub pid : ℕ) (verb : Verb) (bytes : List ℕ) → is_some_device (addressed p sub verb) ≡ false → accepted p sub pid verb bytes ≡ Err SubDeviceOutOfRange
unfolding accepted
no_device p sub pid verb bytes none =
    ap (λ (here : Bool). (check here SubDeviceOutOfRange >>= (λ u. access (row_at p.profile pid) (sub == 0) verb)) >>= (λ u. unprotected p.profile p.added pid (command_at p pid verb) verb bytes >>= (λ w. read_data p sub (command_at p pid verb) verb bytes))) none

pub no_device_get : (p : Parameters) (sub pid : ℕ) (bytes : List ℕ) → is_some_device (addressed p sub Get) ≡ false → got p sub pid bytes ≡ Refuse SubDeviceOutOfRange
no_device_get p sub pid bytes none = not_got p sub pid bytes SubDeviceOutOfRange (no_device p sub pid Get bytes none)

pub no_device_set : (p : Parameters) (sub pid : ℕ) (bytes : List ℕ) → is_some_device (addressed p sub Set) ≡ false → answer_to_set p sub pid bytes ≡ Refuse SubDeviceOutOfRange
no_device_set p sub pid bytes none = not_answered p sub pid bytes SubDeviceOutOfRange (no_device p sub pid Set bytes none)

pub no_device_leaves : (p : Parameters) (sub pid : ℕ) (bytes : List ℕ) → is_some_device (addressed p sub Set) ≡ false → p ≡ after_set p sub pid bytes
no_device_leaves p sub pid bytes none = not_moved p sub pid bytes SubDeviceOutOfRange (no_device p sub pid Set bytes none)

-- of a PID that the profile leaves out
lacking_access : (p : Profile) (pid : ℕ) (is_root : Bool) (verb : Verb) → is_left_out p pid ≡ true → access (row_at p pid) is_root verb ≡ Err UnknownPid
lacking_access p pid is_root verb left = ap (λ (row : Option Row). access row is_root verb) (lacking p pid left)

pub lacking_get : (p : Parameters) (sub pid : ℕ) (bytes : List ℕ) → is_some_device (addressed p sub Get) ≡ true → is_left_out p.profile pid ≡ true → got p sub pid bytes ≡ Refuse UnknownPid
lacking_get p sub pid bytes here left = refused_get p sub pid bytes UnknownPid here (lacking_access p.profile pid (sub == 0) Get left)

pub lacking_set : (p : Parameters) (sub pid : ℕ) (bytes : List ℕ) → is_some_device (addressed p sub Set) ≡ true → is_left_out p.profile pid ≡ true → answer_to_set p sub pid bytes ≡ Refuse UnknownPid
lacking_set p sub pid bytes here left = refused_set p sub pid bytes UnknownPid here (lacking_access p.profile pid (sub == 0) Set left)

pub lacking_leaves : (p : Parameters) (sub pid : ℕ) (bytes : List ℕ) → is_some_device (addressed p sub Set) ≡ true → is_left_out p.profile pid ≡ true → p ≡ after_set p sub pid bytes
lacking_leaves p sub pid bytes here left = refused_leaves p sub pid bytes UnknownPid here (lacking_access p.profile pid (sub == 0) Set left)

-- of a PID that the table doesn't have, where the profile adds none
plain_at : (p : Profile) (pid : ℕ) (is_root : Bool) (verb : Verb) (nack : Nack) → p.particulars.own ≡ [] → is_left_out p pid ≡ false → access (row_of pid) is_root verb ≡ Err nack → access (row_at p pid) is_root verb ≡ Err nack
plain_at p pid is_root verb nack none stays e =
    ap (λ (row : Option Row). access row is_root verb) (stays_at p pid stays ∙ ap (row_or (row_of pid)) (nothing_added p pid none) ∙ row_alone (row_of pid)) ∙ e

pub plain_get : (p : Parameters) (sub pid : ℕ) (bytes : List ℕ) (nack : Nack) → is_some_device (addressed p sub Get) ≡ true → p.profile.particulars.own ≡ [] → is_left_out p.profile pid ≡ false → access (row_of pid) (sub == 0) Get ≡ Err nack → got p sub pid bytes ≡ Refuse nack
plain_get p sub pid bytes nack here none stays e = refused_get p sub pid bytes nack here (plain_at p.profile pid (sub == 0) Get nack none stays e)

pub plain_set : (p : Parameters) (sub pid : ℕ) (bytes : List ℕ) (nack : Nack) → is_some_device (addressed p sub Set) ≡ true → p.profile.particulars.own ≡ [] → is_left_out p.profile pid ≡ false → access (row_of pid) (sub == 0) Set ≡ Err nack → answer_to_set p sub pid bytes ≡ Refuse nack
plain_set p sub pid bytes nack here none stays e = refused_set p sub pid bytes nack here (plain_at p.profile pid (sub == 0) Set nack none stays e)

pub plain_leaves : (p : Parameters) (sub pid : ℕ) (bytes : List ℕ) (nack : Nack) → is_some_device (addressed p sub Set) ≡ true → p.profile.particulars.own ≡ [] → is_left_out p.profile pid ≡ false → access (row_of pid) (sub == 0) Set ≡ Err nack → p ≡ after_set p sub pid bytes
plain_leaves p sub pid bytes nack here none stays e = refused_leaves p sub pid bytes nack here (plain_at p.profile pid (sub == 0) Set nack none stays e)

-- of a PID that the table has, where it refuses the command
refused_first : (first later : Option Row) (is_root : Bool) (verb : Verb) (nack : Nack) → nack ≢ UnknownPid → access first is_root verb ≡ Err nack → row_or first later ≡ first
refused_first None later is_root verb nack other e = absurd (other cc)
refused_first (Some r) later is_root verb nack other e = refl

refused_access : (p : Profile) (pid : ℕ) (is_root : Bool) (verb : Verb) (nack : Nack) → is_left_out p pid ≡ false → nack ≢ UnknownPid → access (row_of pid) is_root verb ≡ Err nack → access (row_at p pid) is_root verb ≡ Err nack
refused_access p pid is_root verb nack stays other e =
    ap (λ (row : Option Row). access row is_root verb) (stays_at p pid stays ∙ refused_first (row_of pid) (row_here p pid) is_root verb nack other e) ∙ e

pub table_get : (p : Parameters) (sub pid : ℕ) (bytes : List ℕ) (nack : Nack) → is_some_device (addressed p sub Get) ≡ true → is_left_out p.profile pid ≡ false → nack ≢ UnknownPid → access (row_of pid) (sub == 0) Get ≡ Err nack → got p sub pid bytes ≡ Refuse nack
table_get p sub pid bytes nack here stays other e = refused_get p sub pid bytes nack here (refused_access p.profile pid (sub == 0) Get nack stays other e)

pub table_set : (p : Parameters) (sub pid : ℕ) (bytes : List ℕ) (nack : Nack) → is_some_device (addressed p sub Set) ≡ true → is_left_out p.profile pid ≡ false → nack ≢ UnknownPid → access (row_of pid) (sub == 0) Set ≡ Err nack → answer_to_set p sub pid bytes ≡ Refuse nack
table_set p sub pid bytes nack here stays other e = refused_set p sub pid bytes nack here (refused_access p.profile pid (sub == 0) Set nack stays other e)

pub table_leaves : (p : Parameters) (sub pid : ℕ) (bytes : List ℕ) (nack : Nack) → is_some_device (addressed p sub Set) ≡ true → is_left_out p.profile pid ≡ false → nack ≢ UnknownPid → access (row_of pid) (sub == 0) Set ≡ Err nack → p ≡ after_set p sub pid bytes
table_leaves p sub pid bytes nack here stays other e = refused_leaves p sub pid bytes nack here (refused_access p.profile pid (sub == 0) Set nack stays other e)

-- of a sub-device
abbrev unit_err : Nack → Result (Unit {0}) Nack
unit_err nack = Err nack

abbrev ok_unit : Result (Unit {0}) Nack
ok_unit = Ok tt

at_sub : (first later : Option Row) (verb : Verb) (nack : Nack) → access later false verb ≡ Err UnknownPid → access first false verb ≡ Err nack → access (row_or first later) false verb ≡ Err nack
at_sub None later verb nack unknown e = unknown ∙ e
at_sub (Some r) later verb nack unknown e = e

pub sub_access : (p : Profile) (pid sub : ℕ) (verb : Verb) (nack : Nack) → sub ≢ 0 → is_left_out p pid ≡ false → access (row_of pid) (sub == 0) verb ≡ Err nack → access (row_at p pid) (sub == 0) verb ≡ Err nack
sub_access p pid sub verb nack n stays e =
    let other : (sub == 0) ≡ false = ne_eqb sub 0 n in
    let first : access (row_of pid) false verb ≡ Err nack = ap (λ (b : Bool). access (row_of pid) b verb) (sym other) ∙ e in
    ap (λ (b : Bool). access (row_at p pid) b verb) other ∙ ap (λ (row : Option Row). access row false verb) (stays_at p pid stays) ∙ at_sub (row_of pid) (row_here p pid) verb nack ((here_is p pid).at_sub verb) first

pub get_of_sub : (p : Parameters) (sub pid : ℕ) (bytes : List ℕ) (nack : Nack) → is_some_device (addressed p sub Get) ≡ true → sub ≢ 0 → is_left_out p.profile pid ≡ false → access (row_of pid) (sub == 0) Get ≡ Err nack → got p sub pid bytes ≡ Refuse nack
get_of_sub p sub pid bytes nack here n stays e = refused_get p sub pid bytes nack here (sub_access p.profile pid sub Get nack n stays e)

pub set_of_sub : (p : Parameters) (sub pid : ℕ) (bytes : List ℕ) (nack : Nack) → is_some_device (addressed p sub Set) ≡ true → sub ≢ 0 → is_left_out p.profile pid ≡ false → access (row_of pid) (sub == 0) Set ≡ Err nack → answer_to_set p sub pid bytes ≡ Refuse nack
set_of_sub p sub pid bytes nack here n stays e = refused_set p sub pid bytes nack here (sub_access p.profile pid sub Set nack n stays e)

pub leaves_of_sub : (p : Parameters) (sub pid : ℕ) (bytes : List ℕ) (nack : Nack) → is_some_device (addressed p sub Set) ≡ true → sub ≢ 0 → is_left_out p.profile pid ≡ false → access (row_of pid) (sub == 0) Set ≡ Err nack → p ≡ after_set p sub pid bytes
leaves_of_sub p sub pid bytes nack here n stays e = refused_leaves p sub pid bytes nack here (sub_access p.profile pid sub Set nack n stays e)

-- ---- at the root, of a PID that the table doesn't have

supported_or : (has : Bool) → cond has (Ok tt) (Err UnsupportedCommandClass) ≡ unit_err UnknownPid → ⊥
supported_or true e = cc
supported_or false e = cc

unknown_first : (first later : Option Row) (verb : Verb) → access first true verb ≡ Err UnknownPid → row_or first later ≡ later
unknown_first None later verb e = refl
unknown_first (Some r) later verb e = absurd (supported_or (is_some (command_in (Some r) verb)) e)

-- the row at the root is what the profile adds
pub at_here : (p : Profile) (pid : ℕ) (verb : Verb) → is_left_out p pid ≡ false → access (row_of pid) true verb ≡ Err UnknownPid → row_at p pid ≡ row_here p pid
at_here p pid verb stays e = stays_at p pid stays ∙ unknown_first (row_of pid) (row_here p pid) verb e

no_all_call : (verb : Verb) → is_all_call 0 verb ≡ false
no_all_call Get = refl
no_all_call Set = refl

abbrev taken_at_root : Parameters → ℕ → Option Row → Verb → List ℕ → Result Value Nack
taken_at_root p pid row verb bytes = access row true verb >>= (λ u. unprotected p.profile p.added pid (command_in row verb) verb bytes >>= (λ w. read_data p 0 (command_in row verb) verb bytes))

then_alike : (r : Result (Unit {0}) Nack) (f g : Unit {0} → Result Value Nack) → ((u : Unit {0}) → f u ≡ g u) → (r >>= f) ≡ (r >>= g)
then_alike (Ok u) f g same = same u
then_alike (Err nack) f g same = refl

pub accepted_here : (p : Parameters) (pid : ℕ) (verb : Verb) (bytes : List ℕ) → row_at p.profile pid ≡ row_here p.profile pid → accepted p 0 pid verb bytes ≡ handed_here (root_spot p) pid (row_here p.profile pid) verb bytes
unfolding accepted
accepted_here p pid verb bytes e =
    let here = row_here p.profile pid in
    let free : Result (Unit {0}) Nack = unprotected p.profile p.added pid (command_in here verb) verb bytes in
    ap (λ (row : Option Row). taken_at_root p pid row verb bytes) e ∙ then_alike (access here true verb) (λ u. free >>= (λ w. read_data p 0 (command_in here verb) verb bytes)) (λ u. free >>= (λ w. read_data_at (command_in here verb) (root_spot p) bytes)) (λ u. then_alike free (λ w. read_data p 0 (command_in here verb) verb bytes) (λ w. read_data_at (command_in here verb) (root_spot p) bytes) (λ w. one_device p 0 (command_in here verb) verb (root_spot p) bytes refl (no_all_call verb)))

abbrev reply_of : List ℕ → Verdict
reply_of body = Reply body

abbrev ok_bytes : List ℕ → Result (List ℕ) Nack
ok_bytes body = Ok body

bytes_are : (a b : List ℕ) → ok_bytes a ≡ ok_bytes b → a ≡ b
bytes_are a b e = cc

abbrev pub told : Option Command → Spot → Result Value Nack → Result (List ℕ) Nack
told command spot r = r >>= (λ value. Ok (reply command spot value))

-- what is answered at once is so at every profile
at_once_here : (p : Profile) (verb : Verb) (arg : ℕ) → way_here p AtOnce verb arg ≡ AtOnce
at_once_here p Get arg = refl
at_once_here p Set arg = refl

at_once_at : (p : Profile) (command : Option Command) (verb : Verb) (v : Value) → way_of command ≡ AtOnce → way_at p command verb v ≡ AtOnce
at_once_at p command verb v e = ap (λ (way : Way). way_here p way verb (byte_or_0 v)) e ∙ at_once_here p verb (byte_or_0 v)

replies : (p : Parameters) (pid : ℕ) (command : Option Command) (verb : Verb) (r : Result Value Nack) (body : List ℕ) → way_of command ≡ AtOnce → told command (root_spot p) r ≡ Ok body → verdict p 0 pid command verb r ≡ Reply body
replies p pid command verb (Err nack) body at_once e = absurd cc
replies p pid command verb (Ok v) body at_once e =
    ap (λ (way : Way). answered way (reply command (root_spot p) v) (work 0 pid verb v) (ask_of (byte_or_0 v))) (at_once_at p.profile command verb v at_once) ∙ ap reply_of (bytes_are (reply command (root_spot p) v) body e)

pub told_err : (r : Result Value Nack) (command : Option Command) (spot : Spot) (nack : Nack) → told command spot r ≡ Err nack → r ≡ Err nack
told_err (Err n) command spot nack e = cc
told_err (Ok v) command spot nack e = absurd cc

got_at : (p : Parameters) (pid : ℕ) (bytes : List ℕ) → row_at p.profile pid ≡ row_here p.profile pid → got_by_row p 0 pid bytes ≡ verdict p 0 pid (command_in (row_here p.profile pid) Get) Get (handed_here (root_spot p) pid (row_here p.profile pid) Get bytes)
unfolding got_by_row
got_at p pid bytes e =
    ap (λ (row : Option Row). verdict p 0 pid (command_in row Get) Get (accepted p 0 pid Get bytes)) e ∙ ap (verdict p 0 pid (command_in (row_here p.profile pid) Get) Get) (accepted_here p pid Get bytes e)

pub get_here_replies : (p : Parameters) (pid : ℕ) (bytes body : List ℕ) → is_left_out p.profile pid ≡ false → access (row_of pid) true Get ≡ Err UnknownPid → reply_here (root_spot p) pid (row_here p.profile pid) Get bytes ≡ Ok body → Reply body ≡ got_by_row p 0 pid bytes
get_here_replies p pid bytes body stays unknown e =
    let at = at_here p.profile pid Get stays unknown in
    let here = row_here p.profile pid in
    sym (got_at p pid bytes at ∙ replies p pid (command_in here Get) Get (handed_here (root_spot p) pid here Get bytes) body ((here_is p.profile pid).way Get) e)

set_at : (p q : Parameters) (pid : ℕ) (bytes : List ℕ) → row_at p.profile pid ≡ row_here p.profile pid → verdict q 0 pid (command_at p pid Set) Set (accepted p 0 pid Set bytes) ≡ verdict q 0 pid (command_in (row_here p.profile pid) Set) Set (handed_here (root_spot p) pid (row_here p.profile pid) Set bytes)
set_at p q pid bytes e =
    ap (λ (row : Option Row). verdict q 0 pid (command_in row Set) Set (accepted p 0 pid Set bytes)) e ∙ ap (verdict q 0 pid (command_in (row_here p.profile pid) Set) Set) (accepted_here p pid Set bytes e)

silent_reply : (q : Parameters) (pid : ℕ) (command : Option Command) (r : Result Value Nack) → way_of command ≡ AtOnce → ((spot : Spot) (v : Value) → reply command spot v ≡ []) → is_ok r ≡ true → verdict q 0 pid command Set r ≡ Reply []
silent_reply q pid command (Err nack) at_once silent e = absurd cc
silent_reply q pid command (Ok v) at_once silent e =
    ap (λ (way : Way). answered way (reply command (root_spot q) v) (work 0 pid Set v) (ask_of (byte_or_0 v))) at_once ∙ ap reply_of (silent (root_spot q) v)

pub set_here_replies : (p : Parameters) (pid : ℕ) (bytes : List ℕ) → is_left_out p.profile pid ≡ false → access (row_of pid) true Set ≡ Err UnknownPid → is_ok (handed_here (root_spot p) pid (row_here p.profile pid) Set bytes) ≡ true → Reply [] ≡ answer_by_row p 0 pid bytes
unfolding answer_by_row
set_here_replies p pid bytes stays unknown e =
    let at = at_here p.profile pid Set stays unknown in
    let here = row_here p.profile pid in
    let is = here_is p.profile pid in
    sym (set_at p (after_by_row p 0 pid bytes) pid bytes at ∙ silent_reply (after_by_row p 0 pid bytes) pid (command_in here Set) (handed_here (root_spot p) pid here Set bytes) (is.way Set) is.silent e)

quick : (way : Way) → way ≡ AtOnce → is_by_job way ≡ false
quick way e = ap is_by_job e

leaves_root : (p : Parameters) (command : Option Command) (r : Result Value Nack) → way_of command ≡ AtOnce → ((spot : Spot) (v : Value) (e : Entry) → change command spot v e ≡ e.bytes) → after_accepted p 0 command r ≡ record p { added = stored_here (root_spot p) command r }
leaves_root p command (Err nack) at_once leaves = refl
leaves_root p command (Ok v) at_once leaves =
    ap (λ (slow : Bool). cond slow p (carried_out p 0 command v)) (quick (way_of command) at_once) ∙ ap (λ (root : List Entry). record p { root = root; added = added_written command v (root_spot p) }) (update_leaves (change command (root_spot p) v) p.root (leaves (root_spot p) v))

pub set_here_leaves : (p : Parameters) (pid : ℕ) (bytes : List ℕ) → is_left_out p.profile pid ≡ false → access (row_of pid) true Set ≡ Err UnknownPid → after_by_row p 0 pid bytes ≡ record p { added = after_here (root_spot p) pid (row_here p.profile pid) bytes }
unfolding after_by_row
set_here_leaves p pid bytes stays unknown =
    let at = at_here p.profile pid Set stays unknown in
    let here = row_here p.profile pid in
    let is = here_is p.profile pid in
    ap (λ (row : Option Row). after_accepted p 0 (command_in row Set) (accepted p 0 pid Set bytes)) at ∙ ap (after_accepted p 0 (command_in here Set)) (accepted_here p pid Set bytes at) ∙ leaves_root p (command_in here Set) (handed_here (root_spot p) pid here Set bytes) (is.way Set) is.leaves

-- ---- a SET of a parameter that the maker adds

abbrev ok : Value → Result Value Nack
ok v = Ok v

abbrev taken_by : (Value → Bool) → Value → Result Value Nack
taken_by test v = check (test v) DataOutOfRange >>= (λ u. ok v)

read_is : (fits : Bool) (x v : Value) → cond fits (Some x) None ≡ Some v → cond fits (ok x) (Err FormatError) ≡ ok v
read_is true x v e = cc
read_is false x v e = absurd cc

-- the row of the parameter, with or without a SET
abbrev row_with : ParameterDef → Bool → Row
row_with d set = record { pid = d.pid; root_only = true; get = (added_row d).get; set = cond set (takes_added (set_form d) (set_range d) (own_stored d) d.pid) None }

-- what is handed in, if nothing protects it and the data have the form
handed_now : (d : ParameterDef) (protected no_pin : Bool) (spot : Spot) (bytes : List ℕ) (v : Value) → has_set d.rights ≡ true → protected ≡ false → no_pin ≡ false → value_of (set_form d) bytes ≡ Some v → handed_with (open_to protected no_pin) spot (Some (added_row d)) Set bytes ≡ taken_by (takes d (pin_kept spot.added)) v
handed_now d protected no_pin spot bytes v set free fit value =
    ap (λ (b : Bool). handed_with (open_to b no_pin) spot (Some (added_row d)) Set bytes) free ∙ ap (λ (b : Bool). handed_with (open_to false b) spot (Some (added_row d)) Set bytes) fit ∙ ap (λ (b : Bool). handed_with (Ok tt) spot (Some (row_with d b)) Set bytes) set
    ∙ ap (λ (r : Result Value Nack). r >>= taken_by (takes d (pin_kept spot.added))) (read_is (has_length (set_form d) (length bytes)) (value_in (set_form d) bytes) v value)

pub set_refuses : (d : ParameterDef) (protected no_pin : Bool) (spot : Spot) (bytes : List ℕ) (v : Value) → has_set d.rights ≡ true → protected ≡ false → no_pin ≡ false → value_of (set_form d) bytes ≡ Some v → takes d (pin_kept spot.added) v ≡ false → handed_with (open_to protected no_pin) spot (Some (added_row d)) Set bytes ≡ Err DataOutOfRange
set_refuses d protected no_pin spot bytes v set free fit value outside =
    handed_now d protected no_pin spot bytes v set free fit value ∙ ap (λ (b : Bool). check b DataOutOfRange >>= (λ u. ok v)) outside

pub set_hands : (d : ParameterDef) (protected no_pin : Bool) (spot : Spot) (bytes : List ℕ) (v : Value) → has_set d.rights ≡ true → protected ≡ false → no_pin ≡ false → value_of (set_form d) bytes ≡ Some v → takes d (pin_kept spot.added) v ≡ true → handed_with (open_to protected no_pin) spot (Some (added_row d)) Set bytes ≡ Ok v
set_hands d protected no_pin spot bytes v set free fit value inside =
    handed_now d protected no_pin spot bytes v set free fit value ∙ ap (λ (b : Bool). check b DataOutOfRange >>= (λ u. ok v)) inside

-- what is kept of what is handed in
kept_with : (d : ParameterDef) (has : Bool) (free : Result (Unit {0}) Nack) (spot : Spot) (bytes : List ℕ) (v : Value) (old new : List Entry) → handed_with free spot (Some (row_with d has)) Set bytes ≡ ok v → spot.added ≡ old → new ≡ update (own_stored d spot v) old → new ≡ after_with free spot (Some (row_with d has)) bytes
kept_with d true free spot bytes v old new handed same e =
    sym (ap (stored_here spot (row_with d true).set) handed ∙ ap (update (own_stored d spot v)) same ∙ sym e)
kept_with d false free spot bytes v old new handed same e = absurd cc

pub set_keeps : (d : ParameterDef) (free : Result (Unit {0}) Nack) (spot : Spot) (bytes : List ℕ) (v : Value) (old new : List Entry) → Ok v ≡ handed_with free spot (Some (added_row d)) Set bytes → spot.added ≡ old → new ≡ update (own_stored d spot v) old → new ≡ after_with free spot (Some (added_row d)) bytes
set_keeps d free spot bytes v old new handed same e = kept_with d (has_set d.rights) free spot bytes v old new (sym handed) same e

-- what the root's own parameter is tested by, in the words of every command
quick_set : (d : ParameterDef) → is_some (added_row d).set ≡ true → is_lockable (added_row d).set ≡ true
quick_set d some = quick_at (added_row d).set some ((parameter_is d).way Set)
  where
    quick_at : (o : Option Command) → is_some o ≡ true → way_of o ≡ AtOnce → is_lockable o ≡ true
    quick_at None some at_once = absurd cc
    quick_at (Some c) some at_once = ap (λ (way : Way). not (is_by_job way)) at_once

open_as : (read locked lockable no_pin : Bool) → lockable ≡ true → open_to (read || (locked && lockable)) no_pin ≡ open_to (read || locked) no_pin
open_as true locked lockable no_pin e = refl
open_as false true true no_pin e = refl
open_as false true false no_pin e = absurd cc
open_as false false lockable no_pin e = refl

abbrev pub IsTestOf : Parameters → ℕ → List ℕ → ParameterDef → Bool → Bool → Type 0
IsTestOf p pid bytes d protected no_pin =
    (protected ≡ (is_read_only p.profile.particulars.own pid bytes || is_set_locked p.profile.particulars.locks p.added pid)) × (no_pin ≡ is_no_pin pid bytes)

test_is : (p : Parameters) (pid : ℕ) (bytes : List ℕ) (d : ParameterDef) (protected no_pin : Bool) → is_some (added_row d).set ≡ true → IsTestOf p pid bytes d protected no_pin → open_to protected no_pin ≡ unprotected p.profile p.added pid (added_row d).set Set bytes
test_is p pid bytes d protected no_pin some is =
    ap (λ (b : Bool). open_to b no_pin) is.0 ∙ ap (λ (b : Bool). open_to (is_read_only p.profile.particulars.own pid bytes || is_set_locked p.profile.particulars.locks p.added pid) b) is.1
    ∙ sym (open_as (is_read_only p.profile.particulars.own pid bytes) (is_set_locked p.profile.particulars.locks p.added pid) (is_lockable (added_row d).set) (is_no_pin pid bytes) (quick_set d some))

-- where there is no SET it is refused before
no_set : (free other : Result (Unit {0}) Nack) (spot : Spot) (d : ParameterDef) (bytes : List ℕ) → is_some (added_row d).set ≡ false → handed_with free spot (Some (added_row d)) Set bytes ≡ handed_with other spot (Some (added_row d)) Set bytes
no_set free other spot d bytes none =
    ap (λ (b : Bool). cond b (Ok tt) (Err UnsupportedCommandClass) >>= (λ found. free >>= (λ passed. read_data_at (added_row d).set spot bytes))) none
    ∙ sym (ap (λ (b : Bool). cond b (Ok tt) (Err UnsupportedCommandClass) >>= (λ found. other >>= (λ passed. read_data_at (added_row d).set spot bytes))) none)

handed_as : (p : Parameters) (pid : ℕ) (bytes : List ℕ) (d : ParameterDef) (protected no_pin some : Bool) → is_some (added_row d).set ≡ some → IsTestOf p pid bytes d protected no_pin → handed_with (open_to protected no_pin) (root_spot p) (Some (added_row d)) Set bytes ≡ handed_here (root_spot p) pid (Some (added_row d)) Set bytes
handed_as p pid bytes d protected no_pin true some is = ap (λ (free : Result (Unit {0}) Nack). handed_with free (root_spot p) (Some (added_row d)) Set bytes) (test_is p pid bytes d protected no_pin some is)
handed_as p pid bytes d protected no_pin false none is = no_set (open_to protected no_pin) (unprotected p.profile p.added pid (added_row d).set Set bytes) (root_spot p) d bytes none

pub handed_is : (p : Parameters) (pid : ℕ) (bytes : List ℕ) (d : ParameterDef) (protected no_pin : Bool) → IsTestOf p pid bytes d protected no_pin → handed_with (open_to protected no_pin) (root_spot p) (Some (added_row d)) Set bytes ≡ handed_here (root_spot p) pid (Some (added_row d)) Set bytes
handed_is p pid bytes d protected no_pin is = handed_as p pid bytes d protected no_pin (is_some (added_row d).set) refl is

pub set_ok_at : {A : Type 0} (p : Parameters) (pid : ℕ) (bytes : List ℕ) (d : ParameterDef) (protected no_pin : Bool) (r : Result A Nack) → row_here p.profile pid ≡ Some (added_row d) → IsTestOf p pid bytes d protected no_pin → IfOk r (λ u. (spot : Spot) → spot.added ≡ p.added → is_ok (handed_with (open_to protected no_pin) spot (Some (added_row d)) Set bytes) ≡ true) → IfOk r (λ u. is_ok (handed_here (root_spot p) pid (row_here p.profile pid) Set bytes) ≡ true)
set_ok_at p pid bytes d protected no_pin (Err n) e f h = tt
set_ok_at p pid bytes d protected no_pin (Ok u) e f h =
    ap (λ (row : Option Row). is_ok (handed_here (root_spot p) pid row Set bytes)) e ∙ ap is_ok (sym (handed_is p pid bytes d protected no_pin f)) ∙ h (root_spot p) refl

pub set_err_at : {A : Type 0} (p : Parameters) (pid : ℕ) (bytes : List ℕ) (d : ParameterDef) (protected no_pin : Bool) (r : Result A Nack) → row_here p.profile pid ≡ Some (added_row d) → IsTestOf p pid bytes d protected no_pin → IfErr r (λ nack. (spot : Spot) → spot.added ≡ p.added → handed_with (open_to protected no_pin) spot (Some (added_row d)) Set bytes ≡ Err nack) → IfErr r (λ nack. handed_here (root_spot p) pid (row_here p.profile pid) Set bytes ≡ Err nack)
set_err_at p pid bytes d protected no_pin (Ok u) e f h = tt
set_err_at p pid bytes d protected no_pin (Err n) e f h =
    ap (λ (row : Option Row). handed_here (root_spot p) pid row Set bytes) e ∙ sym (handed_is p pid bytes d protected no_pin f) ∙ h (root_spot p) refl

-- the values in which those of the root's own parameters are others
pub set_viewed : (p : Parameters) (root' added' : List Entry) (pid : ℕ) (bytes : List ℕ) (d : ParameterDef) (protected no_pin : Bool) → root' ≡ p.root → added' ≡ after_with (open_to protected no_pin) (root_spot p) (Some (added_row d)) bytes → row_here p.profile pid ≡ Some (added_row d) → IsTestOf p pid bytes d protected no_pin → record p { root = root'; added = added' } ≡ record p { added = after_here (root_spot p) pid (row_here p.profile pid) bytes }
set_viewed p root' added' pid bytes d protected no_pin e f g h =
    ap (λ (root : List Entry). record p { root = root; added = added' }) e ∙ ap (λ (added : List Entry). record p { added = added }) (f ∙ ap (stored_here (root_spot p) (added_row d).set) (handed_is p pid bytes d protected no_pin h) ∙ ap (λ (row : Option Row). after_here (root_spot p) pid row bytes) (sym g))

-- ---- a SET of the table

no_scenes : row_of 0x1042 ≡ None
unfolding row_of table
no_scenes = refl

no_pins : row_of 0x0640 ≡ None
unfolding row_of table
no_pins = refl

nothing_known : (is_root : Bool) (verb : Verb) → access None is_root verb ≡ Ok tt → ⊥
nothing_known is_root verb e = cc

is_other : (pid n : ℕ) (is_root : Bool) → row_of n ≡ None → access (row_of pid) is_root Set ≡ Ok tt → (pid == n) ≡ false
is_other pid n is_root none e = ne_eqb pid n (λ (same : pid ≡ n). nothing_known is_root Set (ap (λ (row : Option Row). access row is_root Set) (sym none ∙ ap row_of (sym same)) ∙ e))

other_scenes : (ds : List ParameterDef) (pid : ℕ) (bytes : List ℕ) → (pid == 0x1042) ≡ false → is_read_only ds pid bytes ≡ false
other_scenes ds pid bytes e = ap (λ (b : Bool). b && option_map_or (λ d. protects_by d.shape d bytes) (find (is_pid_of pid) ds) false) e

other_pin : (pid : ℕ) (bytes : List ℕ) → (pid == 0x0640) ≡ false → is_no_pin pid bytes ≡ false
other_pin pid bytes e = ap (λ (b : Bool). b && (length bytes == 4) && nat_lt 9999 (from_be_bytes w16 (take 2 bytes))) e

-- what the table has can't be only read, and is no PIN
tabled_open : (profile : Profile) (added : List Entry) (pid : ℕ) (command : Option Command) (is_root : Bool) (bytes : List ℕ) → access (row_of pid) is_root Set ≡ Ok tt → unprotected profile added pid command Set bytes ≡ open_to (is_set_locked profile.particulars.locks added pid && is_lockable command) false
tabled_open profile added pid command is_root bytes e =
    let locked : Bool = is_set_locked profile.particulars.locks added pid && is_lockable command in
    ap (λ (b : Bool). open_to (b || locked) (is_no_pin pid bytes)) (other_scenes profile.particulars.own pid bytes (is_other pid 0x1042 is_root no_scenes e))
    ∙ ap (open_to locked) (other_pin pid bytes (is_other pid 0x0640 is_root no_pins e))

-- what is known is there
there_is : (row : Option Row) (is_root : Bool) → access row is_root Set ≡ Ok tt → is_some (command_in row Set) ≡ true
there_is None is_root e = absurd cc
there_is (Some r) false e = below r.root_only (is_some r.set) e
  where
    below : (root_only some : Bool) → cond root_only (Err UnknownPid) (cond some (Ok tt) (Err UnsupportedCommandClass)) ≡ ok_unit → some ≡ true
    below true some e = absurd cc
    below false true e = refl
    below false false e = absurd cc
there_is (Some r) true e = at_root (is_some r.set) e
  where
    at_root : (some : Bool) → cond some (Ok tt) (Err UnsupportedCommandClass) ≡ ok_unit → some ≡ true
    at_root true e = refl
    at_root false e = absurd cc

lockable_is : (command : Option Command) → is_some command ≡ true → is_lockable command ≡ not (is_by_job (way_of command))
lockable_is None e = absurd cc
lockable_is (Some c) e = refl

second : (locked lockable : Bool) → locked ≡ true → (locked && lockable) ≡ lockable
second true lockable e = refl
second false lockable e = absurd cc

not_second : (locked lockable : Bool) → lockable ≡ false → (locked && lockable) ≡ false
not_second true lockable e = e
not_second false lockable e = refl

-- no lock keeps what a job carries out from being set
pub tabled_slow : (profile : Profile) (added : List Entry) (pid : ℕ) (is_root : Bool) (bytes : List ℕ) → access (row_of pid) is_root Set ≡ Ok tt → is_by_job (way_of (command_of pid Set)) ≡ true → unprotected profile added pid (command_of pid Set) Set bytes ≡ Ok tt
tabled_slow profile added pid is_root bytes e slow =
    let free : is_lockable (command_of pid Set) ≡ false = lockable_is (command_of pid Set) (there_is (row_of pid) is_root e) ∙ ap not slow in
    tabled_open profile added pid (command_of pid Set) is_root bytes e ∙ ap (λ (b : Bool). open_to b false) (not_second (is_set_locked profile.particulars.locks added pid) (is_lockable (command_of pid Set)) free)

pub tabled_free : (profile : Profile) (added : List Entry) (pid : ℕ) (is_root : Bool) (bytes : List ℕ) → access (row_of pid) is_root Set ≡ Ok tt → is_set_locked profile.particulars.locks added pid ≡ false → unprotected profile added pid (command_of pid Set) Set bytes ≡ Ok tt
tabled_free profile added pid is_root bytes e free = tabled_open profile added pid (command_of pid Set) is_root bytes e ∙ ap (λ (b : Bool). open_to (b && is_lockable (command_of pid Set)) false) free

-- what is locked is refused
barred : (p : Parameters) (pid : ℕ) (is_root : Bool) (bytes : List ℕ) → access (row_of pid) is_root Set ≡ Ok tt → is_by_job (way_of (command_of pid Set)) ≡ false → is_set_locked p.profile.particulars.locks p.added pid ≡ true → unprotected p.profile p.added pid (command_of pid Set) Set bytes ≡ Err WriteProtect
barred p pid is_root bytes e quick locked =
    let lockable : is_lockable (command_of pid Set) ≡ true = lockable_is (command_of pid Set) (there_is (row_of pid) is_root e) ∙ ap not quick in
    tabled_open p.profile p.added pid (command_of pid Set) is_root bytes e ∙ ap (λ (b : Bool). open_to b false) (second (is_set_locked p.profile.particulars.locks p.added pid) (is_lockable (command_of pid Set)) locked ∙ lockable)

locked_accepted : (p : Parameters) (sub pid : ℕ) (bytes : List ℕ) → is_some_device (addressed p sub Set) ≡ true → is_left_out p.profile pid ≡ false → access (row_of pid) (sub == 0) Set ≡ Ok tt → is_by_job (way_of (command_of pid Set)) ≡ false → is_set_locked p.profile.particulars.locks p.added pid ≡ true → accepted p sub pid Set bytes ≡ Err WriteProtect
unfolding accepted
locked_accepted p sub pid bytes here stays e quick locked =
    let row : row_at p.profile pid ≡ row_of pid = tabled p.profile pid (sub == 0) Set stays e in
    ap (λ (r : Option Row). (check (is_some_device (addressed p sub Set)) SubDeviceOutOfRange >>= (λ u. access r (sub == 0) Set)) >>= (λ u. unprotected p.profile p.added pid (command_in r Set) Set bytes >>= (λ w. read_data p sub (command_in r Set) Set bytes))) row
    ∙ barred_at (is_some_device (addressed p sub Set)) (access (row_of pid) (sub == 0) Set) (unprotected p.profile p.added pid (command_of pid Set) Set bytes) (λ w. read_data p sub (command_of pid Set) Set bytes) here e (barred p pid (sub == 0) bytes e quick locked)
  where
    barred_at : (b : Bool) (r free : Result (Unit {0}) Nack) (f : Unit {0} → Result Value Nack) → b ≡ true → r ≡ Ok tt → free ≡ Err WriteProtect → ((check b SubDeviceOutOfRange >>= (λ u. r)) >>= (λ u. free >>= f)) ≡ Err WriteProtect
    barred_at b r free f x y z = rw (x, y, z) refl

pub locked_set : (p : Parameters) (sub pid : ℕ) (bytes : List ℕ) → is_some_device (addressed p sub Set) ≡ true → is_left_out p.profile pid ≡ false → access (row_of pid) (sub == 0) Set ≡ Ok tt → is_by_job (way_of (command_of pid Set)) ≡ false → is_set_locked p.profile.particulars.locks p.added pid ≡ true → answer_by_row p sub pid bytes ≡ Refuse WriteProtect
unfolding answer_by_row
locked_set p sub pid bytes here stays e quick locked = ap (verdict (after_by_row p sub pid bytes) sub pid (command_at p pid Set) Set) (locked_accepted p sub pid bytes here stays e quick locked)

pub locked_leaves : (p : Parameters) (sub pid : ℕ) (bytes : List ℕ) → is_some_device (addressed p sub Set) ≡ true → is_left_out p.profile pid ≡ false → access (row_of pid) (sub == 0) Set ≡ Ok tt → is_by_job (way_of (command_of pid Set)) ≡ false → is_set_locked p.profile.particulars.locks p.added pid ≡ true → p ≡ after_by_row p sub pid bytes
unfolding after_by_row
locked_leaves p sub pid bytes here stays e quick locked = sym (ap (after_accepted p sub (command_at p pid Set)) (locked_accepted p sub pid bytes here stays e quick locked))
