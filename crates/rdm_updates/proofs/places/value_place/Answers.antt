use Rattle.std.proofs.Common.{arith}
use Rattle.rdm_updates.proofs.Numbered.{count_is, in_own}
use Rattle.rdm_updates.proofs.places.value_place.Goals as goal

pub returns-then-n-lt-OWN_VALUES-clause-value : goal.returns-then-n-lt-OWN_VALUES-clause-value
returns-then-n-lt-OWN_VALUES-clause-value c =
    in_own c.args.image.now c.args.n c.root_place-root.result c.own_place.result c.root_place-root.ensures.value c.if-n-lt-COMMON_VALUES.false c.if-n-lt-OWN_VALUES.true c.own_place.ensures.value

pub value_place_behind-requires-clause-number : goal.value_place_behind-requires-clause-number
value_place_behind-requires-clause-number c = omega (arith, count_is c.args.image.now, c.requires.number)
