-- What a SET tells, and the keys and the devices that it may write.
use Rattle.std.proofs.Common.{◌≡◌, ◌≢◌, ℕ, ◌==◌, ◌||◌, Bool, true, false, cond, List, [], ◌∷◌, ◌++◌, refl, sym, ap, subst, ◌∙◌}
use Rattle.std.specs.List.{list_any}
use Rattle.std.proofs.lemmas.Bool.{eqb-false, ne_eqb}
use Rattle.rdm_commands.specs.declared.changed.Changed.TheVariants.{Value, Several}
use Rattle.rdm_commands.specs.Commands.Changed.{change_of, pid_written}
use Rattle.rdm_params.specs.Laws.{keys_of_row, ChangesWhatItTells, LeavesWhatItDoesNotTell, IsSameBut}
use Rattle.rdm_commands.specs.Commands.Commands.{after_set, is_block}
use Rattle.rdm_device.specs.Columns.Replies.{factory_pids, reset_pids}
use Rattle.rdm_params.proofs.OtherDevices.{leaves_the_rest}
use Rattle.rdm_params.proofs.OwnKeys.{changes_its_keys}
use Rattle.rdm_table.proofs.Bools.{not_either}

value_is : (a b x y : ℕ) → Value a b ≡ Value x y → (a ≡ x) × (b ≡ y)
value_is a b x y e = (cc, cc)

one_value : (several : Bool) (a b x y : ℕ) → cond several Several (Value a b) ≡ Value x y → (several ≡ false) × (a ≡ x) × (b ≡ y)
one_value true a b x y e = absurd cc
one_value false a b x y e = let parts = value_is a b x y e in (refl, parts.0, parts.1)

-- what is told: of which device, of which parameter, and that neither all devices nor several parameters are written
pub record ToldOf (sub pid sub_told pid_told : ℕ) : Type 0 where
  pub one_device : (sub == 0xFFFF) ≡ false
  pub no_factory : (pid == 0x0090) ≡ false
  pub no_block : is_block pid ≡ false
  pub device : sub ≡ sub_told
  pub parameter : pid_written pid ≡ pid_told

told_of : (sub pid sub_told pid_told : ℕ) → change_of sub pid ≡ Value sub_told pid_told → ToldOf sub pid sub_told pid_told
told_of sub pid s t e =
    let parts = one_value ((sub == 0xFFFF) || (pid == 0x0090) || is_block pid) sub (pid_written pid) s t e in
    let few = not_either ((sub == 0xFFFF) || (pid == 0x0090)) (is_block pid) parts.0 in
    let one = not_either (sub == 0xFFFF) (pid == 0x0090) few.0 in
    record { one_device = one.0; no_factory = one.1; no_block = few.1; device = parts.1; parameter = parts.2 }

one_key : (many : List ℕ) (factory recorded : Bool) (pid key : ℕ) → factory ≡ false → key ≢ cond recorded 0x0201 pid → list_any (λ k. k == key) (cond factory many (cond recorded (0x0201 ∷ []) (pid ∷ []))) ≡ false
one_key many true recorded pid key few apart = absurd cc
one_key many false true pid key few apart = rw (ne_eqb 0x0201 key (λ (e : 0x0201 ≡ key). apart (sym e))) refl
one_key many false false pid key few apart = rw (ne_eqb pid key (λ (e : pid ≡ key). apart (sym e))) refl

pub changes_what_it_tells : ChangesWhatItTells
changes_what_it_tells p sub pid s t bytes key index e apart =
    let told = told_of sub pid s t e in
    changes_its_keys p sub pid bytes key index
    (ap (λ (b : Bool). list_any (λ k. k == key) (cond b (0x00F0 ∷ []) (keys_of_row p.profile pid))) told.no_block
    ∙ one_key (factory_pids ++ reset_pids p.profile.particulars.own) (pid == 0x0090) (pid == 0x0202) pid key told.no_factory (λ (same : key ≡ pid_written pid). apart (same ∙ told.parameter)))

pub leaves_what_it_does_not_tell : LeavesWhatItDoesNotTell
leaves_what_it_does_not_tell p sub pid s t bytes e =
    let told = told_of sub pid s t e in
    let reached : cond (is_block pid) 0xFFFF sub ≡ sub = ap (λ (b : Bool). cond b 0xFFFF sub) told.no_block in
    let rest : IsSameBut sub p (after_set p sub pid bytes) = subst (λ (n : ℕ). IsSameBut n p (after_set p sub pid bytes)) reached (leaves_the_rest p sub pid bytes) in
    subst (λ (n : ℕ). (n ≢ 0xFFFF) × IsSameBut n p (after_set p sub pid bytes)) told.device (eqb-false sub 0xFFFF told.one_device, rest)
