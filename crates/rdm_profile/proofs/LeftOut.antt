-- Parameters that are left out.
use Rattle.std.proofs.Common.{◌≡◌, ℕ, ◌&&◌, Bool, true, false, List, [], refl, ap, ◌∙◌}
use Rattle.rdm_profile.specs.LeftOut.{is_optional, lacks}

and_false : (b : Bool) → (b && false) ≡ false
and_false true = refl
and_false false = refl

-- where no parameter is left out, none is lacked
pub none_lacked : (pids : List ℕ) (pid : ℕ) → pids ≡ [] → lacks pids pid ≡ false
none_lacked pids pid e = ap (λ (ps : List ℕ). lacks ps pid) e ∙ and_false (is_optional pid)
