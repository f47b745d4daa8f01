-- `==` of optional values.
use Rattle.std.proofs.Common.{◌≡◌, Bool, Option, Some, None, refl, ap}
use Rattle.std.specs.Bool.{Decides}
use Rattle.std.specs.Option.{option_eq}
use Rattle.std.proofs.lemmas.Bool.Decides.{Decides-like}

some_is : {X : Type 0} (x y : X) → Some x ≡ Some y → x ≡ y
some_is x y e = cc

pub option_decides : {X : Type 0} (F : X → X → Bool) → ((x y : X) → Decides (F x y) (x ≡ y)) → (a b : Option X) → Decides (option_eq F a b) (a ≡ b)
option_decides F decides None None = (λ _. refl, λ _. refl)
option_decides F decides None (Some y) = (λ e. absurd cc, λ e. absurd cc)
option_decides F decides (Some x) None = (λ e. absurd cc, λ e. absurd cc)
option_decides F decides (Some x) (Some y) = Decides-like (F x y) (ap Some) (some_is x y) (decides x y)
