-- The order of rows is one by which they can be sorted.
use Rattle.std.specs.Prelude.{unwrap_or}
use Rattle.std.proofs.Common.{ℕ, List, [], Option, refl}
use Rattle.std.specs.Cmp.{IsTotalOrder, IsStrictWeakOrder, nat_cmp_total, on_total, then_total}
use Rattle.std.specs.Cmp.Lexicographic.{nat_list_cmp_total}
use Rattle.std.specs.Ordering.{is_lt}
use Rattle.std.proofs.lemmas.List.Sorted.{ranks_by}
use Rattle.rdm_frame.specs.UidNumber.{uid_number}
use Rattle.rdm_survey.specs.declared.order.Order.{Order}
use Rattle.rdm_survey.specs.declared.order.Order.TheVariants as by
use Rattle.rdm_survey.specs.declared.row.Row.{Row}
use Rattle.rdm_survey.specs.Orders.{missing, address_of, number_cmp, text_cmp, key_cmp, row_cmp}

number_total : IsTotalOrder number_cmp
number_total = then_total (on_total missing nat_cmp_total) (on_total (λ (n : Option ℕ). unwrap_or n 0) nat_cmp_total)

text_total : IsTotalOrder text_cmp
text_total = then_total (on_total missing nat_cmp_total) (on_total (λ (t : Option (List ℕ)). unwrap_or t []) nat_list_cmp_total)

level_total : IsTotalOrder (key_cmp by.Uid)
level_total = record { antisymm = λ x y. refl; trans = λ x y z h g. h; congr = λ x y z h. refl }

key_total : (order : Order) → IsTotalOrder (key_cmp order)
key_total by.Uid = level_total
key_total by.Address = on_total address_of number_total
key_total by.Model = on_total (λ (row : Row). row.model) text_total
key_total by.Label = on_total (λ (row : Row). row.label) text_total

row_total : (order : Order) → IsTotalOrder (row_cmp order)
row_total order = then_total (key_total order) (on_total (λ (row : Row). uid_number row.uid) nat_cmp_total)

pub ranks : (order : Order) → IsStrictWeakOrder (λ (a b : Row). is_lt (row_cmp order a b))
ranks order = ranks_by (row_total order) (λ (row : Row). row)
