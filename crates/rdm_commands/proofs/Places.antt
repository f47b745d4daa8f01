-- Which devices a command addresses.
use Rattle.std.proofs.Common.{arith, ◌≡◌, ℕ, ◌-◌, ◌≢◌, ◌<◌, ◌≤◌, ◌==◌, Bool, true, false, List, [], length, map, get_or, Option, Some, None, refl, sym, ap, ◌∙◌}
use Rattle.std.specs.Prelude.{slice_get, option_to_list}
use Rattle.std.specs.Option.{option_map}
use Rattle.std.proofs.lemmas.Bool.{ne_eqb, true≢false}
use Rattle.std.proofs.lemmas.Option.{slice_get-map, slice_get-get_or, slice_get_past}
use Rattle.rdm_table.specs.declared.kind.Verb.{Verb}
use Rattle.rdm_table.specs.declared.kind.Verb.TheVariants.{Get}
use Rattle.rdm_added.specs.declared.state.CommonValues.{CommonValues}
use Rattle.rdm_commands.specs.Commands.Commands.{addressed, is_some_device, is_all_call, sub_spot}
use Rattle.rdm_added.specs.Map.{Entry}
use Rattle.rdm_added.specs.Parameters.{Parameters}
use Rattle.rdm_added.specs.Spot.{Spot}
use Rattle.rdm_added.specs.Views.State.{common_entries}

-- the entries of a sub-device
pub at_place : (subs : List CommonValues) (i : ℕ) → slice_get (map common_entries subs) i ≡ option_map common_entries (slice_get subs i)
at_place subs i = slice_get-map common_entries subs i

first_of : (f : List Entry → Spot) (o : Option (List Entry)) → slice_get (map f (option_to_list o)) 0 ≡ option_map f o
first_of f None = refl
first_of f (Some x) = refl

pub first_of_one : (p : Parameters) (sub : ℕ) (verb : Verb) → sub ≢ 0 → is_all_call sub verb ≡ false → slice_get (addressed p sub verb) 0 ≡ option_map (sub_spot p) (slice_get p.subs (sub - 1))
first_of_one p sub verb n one = rw (ne_eqb sub 0 n, one) (first_of (sub_spot p) (slice_get p.subs (sub - 1)))

pub first_of_subs : (p : Parameters) (sub : ℕ) (verb : Verb) → sub ≢ 0 → is_all_call sub verb ≡ true → slice_get (addressed p sub verb) 0 ≡ option_map (sub_spot p) (slice_get p.subs 0)
first_of_subs p sub verb n all = rw (ne_eqb sub 0 n, all) (slice_get-map (sub_spot p) p.subs 0)

-- a sub-device that there is
pub one_there : (p : Parameters) (subs : List CommonValues) (sub : ℕ) (common : CommonValues) → p.subs ≡ map common_entries subs → sub ≢ 0 → sub ≤ length subs → common ≡ get_or subs (sub - 1) common → slice_get (addressed p sub Get) 0 ≡ Some (sub_spot p (common_entries common))
one_there p subs sub common viewed n fits here =
    let within : sub - 1 < length subs = omega (arith, n, fits) in
    let there : slice_get subs (sub - 1) ≡ Some common = slice_get-get_or subs (sub - 1) common within ∙ ap (λ (d : CommonValues). Some d) (sym here) in
    rw (first_of_one p sub Get n refl, viewed, slice_get-map common_entries subs (sub - 1), there) refl

there_at : (p : Parameters) (sub : ℕ) (zero : Bool) → (sub == 0) ≡ zero → sub ≤ length p.subs → is_some_device (addressed p sub Get) ≡ true
there_at p sub true e fits = rw e refl
there_at p sub false e fits =
    let n : sub ≢ 0 = λ (z : sub ≡ 0). true≢false (sym (ap (λ (m : ℕ). m == 0) z) ∙ e) in
    let within : sub - 1 < length p.subs = omega (arith, n, fits) in
    rw (first_of_one p sub Get n refl, slice_get-get_or p.subs (sub - 1) [] within) refl

-- a GET is for the root or a sub-device
pub is_there : (p : Parameters) (sub : ℕ) → sub ≤ length p.subs → is_some_device (addressed p sub Get) ≡ true
is_there p sub fits = there_at p sub (sub == 0) refl fits

pub is_not_there : (p : Parameters) (sub : ℕ) → length p.subs < sub → is_some_device (addressed p sub Get) ≡ false
is_not_there p sub past =
    let n : sub ≢ 0 = λ (z : sub ≡ 0). omega (arith, z, past) in
    let behind : length p.subs ≤ sub - 1 = omega (arith, past) in
    rw (first_of_one p sub Get n refl, slice_get_past p.subs (sub - 1) behind) refl
