-- What a GET replies that asks with a number.
use Rattle.std.proofs.Common.{◌≡◌, ℕ, Bool, true, false, cond, List, length, Some, None, Result, Ok, Err, sym, ap, ◌∙◌}
use Rattle.rdm_frame.specs.declared.nack.Nack.{Nack}
use Rattle.rdm_frame.specs.declared.nack.Nack.TheVariants.{FormatError, DataOutOfRange}
use Rattle.rdm_profile.specs.declared.profile.own.ParameterDef.{ParameterDef}
use Rattle.rdm_profile.specs.declared.profile.own.Shape.TheVariants as shapes
use Rattle.rdm_profile.specs.declared.value.Value.{Value}
use Rattle.rdm_profile.specs.Forms.{word, has_length, value_in, value_of}
use Rattle.rdm_added.specs.Scenes.{a_scene, scene_shown}
use Rattle.rdm_added.specs.Spot.{Spot}
use Rattle.rdm_commands.specs.Commands.Added.{reply_of}
use Rattle.rdm_commands.specs.Commands.Commands.{check, ◌>>=◌}
use Rattle.rdm_table.specs.Table.Rows.{gets_added}

abbrev ok : Value → Result Value Nack
ok v = Ok v

abbrev ok_bytes : List ℕ → Result (List ℕ) Nack
ok_bytes bytes = Ok bytes

abbrev within : (Value → Bool) → Value → Result Value Nack
within test v = check (test v) DataOutOfRange >>= (λ u. ok v)

read_is : (fits : Bool) (x v : Value) → cond fits (Some x) None ≡ Some v → cond fits (ok x) (Err FormatError) ≡ ok v
read_is true x v e = cc
read_is false x v e = absurd cc

scene_asked : (d : ParameterDef) (spot : Spot) (bytes : List ℕ) (v : Value) (inside : Bool) → value_of word bytes ≡ Some v → a_scene d word spot v ≡ inside → reply_of spot (gets_added shapes.Scenes d d.pid) bytes ≡ (check inside DataOutOfRange >>= (λ u. ok v)) >>= (λ value. ok_bytes (scene_shown d spot value))
scene_asked d spot bytes v inside value is =
    ap (λ (r : Result Value Nack). (r >>= within (a_scene d word spot)) >>= (λ value. ok_bytes (scene_shown d spot value))) (read_is (has_length word (length bytes)) (value_in word bytes) v value)
    ∙ ap (λ (b : Bool). (check b DataOutOfRange >>= (λ u. ok v)) >>= (λ value. ok_bytes (scene_shown d spot value))) is

pub scene_refused : (d : ParameterDef) (spot : Spot) (bytes : List ℕ) (v : Value) → value_of word bytes ≡ Some v → a_scene d word spot v ≡ false → reply_of spot (gets_added shapes.Scenes d d.pid) bytes ≡ Err DataOutOfRange
scene_refused d spot bytes v value outside = scene_asked d spot bytes v false value outside

pub scene_replied : (d : ParameterDef) (spot : Spot) (bytes body : List ℕ) (v : Value) → value_of word bytes ≡ Some v → a_scene d word spot v ≡ true → body ≡ scene_shown d spot v → reply_of spot (gets_added shapes.Scenes d d.pid) bytes ≡ Ok body
scene_replied d spot bytes body v value inside e = scene_asked d spot bytes v true value inside ∙ ap ok_bytes (sym e)
