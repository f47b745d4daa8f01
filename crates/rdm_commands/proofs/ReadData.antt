-- What a command hands in, at the devices that it addresses.
use Rattle.std.proofs.Common.{◌≡◌, ℕ, ◌-◌, ◌==◌, ◌&&◌, ◌||◌, not, Bool, true, false, cond, List, [], ◌∷◌, length, map, Option, Some, None, Result, Ok, Err, refl, ap, subst, ◌∙◌}
use Rattle.std.specs.Prelude.{slice_get, option_to_list}
use Rattle.std.specs.List.{list_all}
use Rattle.rdm_frame.specs.declared.nack.Nack.{Nack}
use Rattle.rdm_frame.specs.declared.nack.Nack.TheVariants.{DataOutOfRange, SubDeviceOutOfRange, FormatError}
use Rattle.rdm_table.specs.declared.kind.Verb.{Verb}
use Rattle.rdm_profile.specs.declared.value.Value.{Value}
use Rattle.rdm_profile.specs.declared.value.Value.TheVariants.{Nothing}
use Rattle.rdm_table.specs.Table.Rows.{Command, command_of}
use Rattle.rdm_commands.specs.Commands.Commands.{addressed, root_spot, sub_spot, is_all_call, read_data, suits, taken, read_data_at, check, ◌>>=◌}
use Rattle.rdm_profile.specs.Forms.{Form, nothing, has_length}
use Rattle.rdm_added.specs.Spot.{Range, Spot}
use Rattle.rdm_added.specs.Map.{Entry}
use Rattle.rdm_added.specs.Parameters.{Parameters}
use Rattle.rdm_table.specs.Table.Uses.{read, read_as, is_slow, in_range_of, is_bare, is_nothing}
use Rattle.rdm_table.proofs.BareCommands.{takes_nothing, command_takes_nothing}

-- ---- a command without data

abbrev ok : Value → Result Value Nack
ok v = Ok v

abbrev ranged : (Value → Bool) → Value → Result Value Nack
ranged test v = check (test v) DataOutOfRange >>= (λ u. Ok v)

bare_read : (fits : Bool) (test : Value → Bool) → test Nothing ≡ true → (cond fits (Ok Nothing) (Err FormatError) >>= ranged test) ≡ cond fits (Ok Nothing) (Err FormatError)
bare_read true test e = rw e refl
bare_read false test e = refl

bare_form : (form : Form) (range : Range) (spot : Spot) (bytes : List ℕ) → is_nothing form ≡ true → (not (is_nothing form) || range spot Nothing) ≡ true → (read_as form bytes >>= ranged (range spot)) ≡ read_as nothing bytes
bare_form nothing range spot bytes bare e = bare_read (has_length nothing (length bytes)) (range spot) e
bare_form _ range spot bytes bare e = absurd cc

bare_at : (command : Option Command) (spot : Spot) (bytes : List ℕ) → is_bare command ≡ true → takes_nothing spot command ≡ true → read_data_at command spot bytes ≡ read_as nothing bytes
bare_at None spot bytes bare e = absurd cc
bare_at (Some c) spot bytes bare e = bare_form c.form c.range spot bytes bare e

pub bare_command : (pid : ℕ) (verb : Verb) (spot : Spot) (bytes : List ℕ) → is_bare (command_of pid verb) ≡ true → read_data_at (command_of pid verb) spot bytes ≡ read_as nothing bytes
bare_command pid verb spot bytes bare = bare_at (command_of pid verb) spot bytes bare (command_takes_nothing pid verb spot)

-- ---- the devices that are addressed

only_in : (at_root : Bool) (here spot : Spot) (f : List Entry → Spot) (o : Option (List Entry)) → slice_get (cond at_root (here ∷ []) (map f (option_to_list o))) 0 ≡ Some spot → cond at_root (here ∷ []) (map f (option_to_list o)) ≡ spot ∷ []
only_in true here spot f o e = cc
only_in false here spot f (Some x) e = cc
only_in false here spot f None e = absurd cc

only : (p : Parameters) (sub : ℕ) (spot : Spot) (all : Bool) → all ≡ false
    → slice_get (cond (sub == 0) (root_spot p ∷ []) (cond all (map (sub_spot p) p.subs) (map (sub_spot p) (option_to_list (slice_get p.subs (sub - 1)))))) 0 ≡ Some spot
    → cond (sub == 0) (root_spot p ∷ []) (cond all (map (sub_spot p) p.subs) (map (sub_spot p) (option_to_list (slice_get p.subs (sub - 1))))) ≡ spot ∷ []
only p sub spot true one e = absurd cc
only p sub spot false one e = only_in (sub == 0) (root_spot p) spot (sub_spot p) (slice_get p.subs (sub - 1)) e

pub bind_alike : (r : Result Value Nack) (f g : Value → Result Value Nack) → ((v : Value) → f v ≡ g v) → (r >>= f) ≡ (r >>= g)
bind_alike (Ok v) f g same = same v
bind_alike (Err nack) f g same = refl

abbrev suits_all : (Spot → Value → Bool) → List Spot → Bool → Value → Result Value Nack
suits_all test spots jobs v = (check (list_all (λ spot. test spot v) spots) DataOutOfRange >>= (λ u. check (not jobs) SubDeviceOutOfRange)) >>= (λ u. Ok v)

suits_one : (here : Bool) (v : Value) → ((check (here && true) DataOutOfRange >>= (λ u. check true SubDeviceOutOfRange)) >>= (λ u. Ok v)) ≡ (check here DataOutOfRange >>= (λ u. Ok v))
suits_one true v = refl
suits_one false v = refl

suits_at : (test : Spot → Value → Bool) (spots : List Spot) (spot : Spot) (jobs : Bool) (v : Value) → spots ≡ spot ∷ [] → jobs ≡ false → suits_all test spots jobs v ≡ ranged (test spot) v
suits_at test spots spot jobs v one none = rw (one, none) (suits_one (test spot v) v)

no_jobs : (all slow : Bool) → all ≡ false → (all && slow) ≡ false
no_jobs true slow e = absurd cc
no_jobs false slow e = refl

pub one_device : (p : Parameters) (sub : ℕ) (command : Option Command) (verb : Verb) (spot : Spot) (bytes : List ℕ) → slice_get (addressed p sub verb) 0 ≡ Some spot → is_all_call sub verb ≡ false → read_data p sub command verb bytes ≡ read_data_at command spot bytes
one_device p sub command verb spot bytes first one =
    let test : Spot → Value → Bool = λ s v. in_range_of command s v in
    bind_alike (read command bytes) (suits_all test (addressed p sub verb) (is_all_call sub verb && is_slow command)) (ranged (test spot))
    (λ v. suits_at test (addressed p sub verb) spot (is_all_call sub verb && is_slow command) v (only p sub spot (is_all_call sub verb) one first) (no_jobs (is_all_call sub verb) (is_slow command) one))

refused_at : (here later jobs : Bool) (v : Value) (nack : Nack) → (check here DataOutOfRange >>= (λ u. Ok v)) ≡ Err nack
    → ((check (here && later) DataOutOfRange >>= (λ u. check (not jobs) SubDeviceOutOfRange)) >>= (λ u. Ok v)) ≡ Err nack
refused_at true later jobs v nack e = absurd cc
refused_at false later jobs v nack e = e

refused_in : (r : Result Value Nack) (test : Spot → Value → Bool) (spots : List Spot) (spot : Spot) (jobs : Bool) (nack : Nack) → slice_get spots 0 ≡ Some spot → (r >>= ranged (test spot)) ≡ Err nack → (r >>= suits_all test spots jobs) ≡ Err nack
refused_in (Err n) test spots spot jobs nack first e = e
refused_in (Ok v) test [] spot jobs nack first e = absurd cc
refused_in (Ok v) test (s ∷ rest) spot jobs nack first e =
    let same : spot ≡ s = cc in
    refused_at (test s v) (list_all (λ t. test t v) rest) jobs v nack (subst (λ (t : Spot). ranged (test t) v ≡ Err nack) same e)

refused_first : (p : Parameters) (sub : ℕ) (command : Option Command) (verb : Verb) (spot : Spot) (bytes : List ℕ) (nack : Nack) → slice_get (addressed p sub verb) 0 ≡ Some spot → read_data_at command spot bytes ≡ Err nack → read_data p sub command verb bytes ≡ Err nack
refused_first p sub command verb spot bytes nack first e =
    refused_in (read command bytes) (λ s v. in_range_of command s v) (addressed p sub verb) spot (is_all_call sub verb && is_slow command) nack first e

refused : (r : Result (Unit {0}) Nack) (v : Value) (nack : Nack) → r ≡ Err nack → (r >>= (λ u. Ok v)) ≡ Err nack
refused (Ok u) v nack e = absurd cc
refused (Err n) v nack e = cc

fits : (r : Result (Unit {0}) Nack) (v : Value) (u : Unit {0}) → r ≡ Ok u → (r >>= (λ u. Ok v)) ≡ Ok v
fits (Ok w) v u e = refl
fits (Err n) v u e = absurd cc

-- ---- by the steps of reading

at_first : (command : Option Command) (spot : Spot) (bytes : List ℕ) (v : Value) (here : Bool) → read command bytes ≡ Ok v → in_range_of command spot v ≡ here → read_data_at command spot bytes ≡ (check here DataOutOfRange >>= (λ u. ok v))
at_first command spot bytes v here said is =
    ap (λ (r : Result Value Nack). r >>= ranged (in_range_of command spot)) said ∙ ap (λ (b : Bool). check b DataOutOfRange >>= (λ u. ok v)) is

pub unread : (p : Parameters) (sub : ℕ) (command : Option Command) (verb : Verb) (bytes : List ℕ) (nack : Nack) → read command bytes ≡ Err nack → read_data p sub command verb bytes ≡ Err nack
unread p sub command verb bytes nack e = ap (λ (r : Result Value Nack). r >>= taken p sub command verb) e

pub out_of_range : (p : Parameters) (sub : ℕ) (command : Option Command) (verb : Verb) (spot : Spot) (bytes : List ℕ) (v : Value) → slice_get (addressed p sub verb) 0 ≡ Some spot → read command bytes ≡ Ok v → in_range_of command spot v ≡ false → read_data p sub command verb bytes ≡ Err DataOutOfRange
out_of_range p sub command verb spot bytes v first said outside = refused_first p sub command verb spot bytes DataOutOfRange first (at_first command spot bytes v false said outside)

pub one_taken : (p : Parameters) (sub : ℕ) (command : Option Command) (verb : Verb) (spot : Spot) (bytes : List ℕ) (v : Value) → slice_get (addressed p sub verb) 0 ≡ Some spot → is_all_call sub verb ≡ false → read command bytes ≡ Ok v → in_range_of command spot v ≡ true → read_data p sub command verb bytes ≡ Ok v
one_taken p sub command verb spot bytes v first one said inside = one_device p sub command verb spot bytes first one ∙ at_first command spot bytes v true said inside

pub all_taken : (p : Parameters) (sub : ℕ) (command : Option Command) (verb : Verb) (bytes : List ℕ) (v : Value) (u : Unit {0}) → read command bytes ≡ Ok v → suits p sub command verb v ≡ Ok u → read_data p sub command verb bytes ≡ Ok v
all_taken p sub command verb bytes v u said fit = ap (λ (r : Result Value Nack). r >>= taken p sub command verb) said ∙ fits (suits p sub command verb v) v u fit

pub unsuited : (p : Parameters) (sub : ℕ) (command : Option Command) (verb : Verb) (bytes : List ℕ) (v : Value) (nack : Nack) → read command bytes ≡ Ok v → suits p sub command verb v ≡ Err nack → read_data p sub command verb bytes ≡ Err nack
unsuited p sub command verb bytes v nack said unfit = ap (λ (r : Result Value Nack). r >>= taken p sub command verb) said ∙ refused (suits p sub command verb v) v nack unfit
