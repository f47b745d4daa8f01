-- What is behind the first elements of a list.
use Rattle.std.proofs.Common.{◌≡◌, ◌-◌, ℕ, List, length, take, drop, arith}
use Rattle.std.proofs.lemmas.List.{length-drop, take_all}

pub rest_of : {A : Type 0} (n : ℕ) (list : List A) → take (length list - n) (drop n list) ≡ drop n list
rest_of n list = take_all (length list - n) (drop n list) (omega (arith, length-drop n list))
