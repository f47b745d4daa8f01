-- The things of which one is chosen are numbered from 1.
use Rattle.std.proofs.Common.{◌≡◌, ◌+◌, ◌==◌, ◌≤◌, nat_le, Bool, true, false, ◌&&◌, ◌||◌, List, [], ◌∷◌, get_or, All, IsTrue, refl}
use Rattle.std.specs.List.{list_any}
use Rattle.std.proofs.lemmas.Bool.{leb-true}
use Rattle.rdm_profile.specs.declared.profile.choices.ChoiceName.{ChoiceName}
use Rattle.rdm_profile.specs.declared.profile.own.ParameterDef.{ParameterDef}
use Rattle.rdm_profile.specs.Choices.{greatest, has_names_behind, is_of_choice, is_needed}

pub one_of_two : (a b : Bool) (P : Type 0) → (a ≡ true → P) → (b ≡ true → P) → (a || b) ≡ true → P
one_of_two true b P first second h = first h
one_of_two false b P first second h = second h

from_one : (a b c d : Bool) → (a && b && c && d) ≡ true → c ≡ true
from_one true true true d h = refl
from_one true true false d h = absurd (cc)
from_one true false c d h = absurd (cc)
from_one false b c d h = absurd (cc)

-- a name that is needed is that of a thing with a number
numbered : (ds : List ParameterDef) (c : ChoiceName) → IsTrue (is_needed ds c) → 1 ≤ c.number
numbered [] c h = absurd (cc)
numbered (d ∷ ds) c h =
    one_of_two (is_of_choice c d) (list_any (is_of_choice c) ds) (1 ≤ c.number)
    (λ here. leb-true 1 c.number (from_one (has_names_behind d.shape) (c.pid == d.pid + 1) (nat_le 1 c.number) (nat_le c.number (greatest d)) here))
    (λ later. numbered ds c later) h

pub all_numbered : (ds : List ParameterDef) (cs : List ChoiceName) → All (λ c. IsTrue (is_needed ds c)) cs → All (λ c. 1 ≤ c.number) cs
all_numbered ds cs h = λ k d less. numbered ds (get_or cs k d) (h k d less)
