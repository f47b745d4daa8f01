-- A text that a table says is printable.
use Rattle.std.proofs.Common.{◌≡◌, ℕ, Bool, true, false, List, [], Option, Some, None, IsTrue, if◌then◌else◌, refl, sym, ap, ◌∙◌}
use Rattle.std.proofs.lemmas.Bool.{and_parts}
use Rattle.std.proofs.lemmas.Option.{same_Some}
use Rattle.toml.specs.Data.{Data, string, integer, float, boolean, datetime, array, table, Members, get_member}
use Rattle.rdm_fixture.specs.Describable.{are_printable}
use Rattle.rdm_fixture_keys.specs.Keys.{may}
use Rattle.rdm_fixture_keys.specs.Values.{text, is_text}

pub when : {A : Type 0} (b : Bool) (k n : A) → (if b then Some k else None) ≡ Some n → (b ≡ true) × (k ≡ n)
when true k n h = (refl, same_Some _ _ h)
when false k n h = absurd (cc)

printable : (found : Option Data) (x : List ℕ) → may [] text found ≡ Some x → IsTrue (are_printable x)
printable None x h = ap are_printable (sym (same_Some _ _ h))
printable (Some (string s)) x h =
    let (is, same) = when (is_text s) s x h in ap are_printable (sym same) ∙ (and_parts _ _ is).1
printable (Some (integer z)) x h = absurd (cc)
printable (Some (float f)) x h = absurd (cc)
printable (Some (boolean b)) x h = absurd (cc)
printable (Some (datetime dt)) x h = absurd (cc)
printable (Some (array ds)) x h = absurd (cc)
printable (Some (table t)) x h = absurd (cc)

pub printable_at : (t : Members) (key x : List ℕ) → may [] text (get_member key t) ≡ Some x → IsTrue (are_printable x)
printable_at t key x h = printable (get_member key t) x h
