use Rattle.std.proofs.Common.{length, rules}
use Rattle.rdm_line.proofs.Searches.{place_of, is_found, in_numbers, hinted_place}
use Rattle.rdm_line.proofs.line.Line.find.Goals as goal

pub returns-in-Some-clause-place : goal.returns-in-Some-clause-place
returns-in-Some-clause-place g c = rw (← c.self.view_is) (hinted_place c.self.inside.numbers.items c.as_slice.result.now c.args.uid c.number-number.result c.in-Some.index (length c.self.inside.devices.items) c.as_slice.ensures.value c.number-number.ensures c.self.invariant.1 c.self.invariant.0 (search rules) c.in-Some.ensures)

pub returns-in-None-clause-found : goal.returns-in-None-clause-found
returns-in-None-clause-found g c = rw (← c.self.view_is, c.ok.ensures.value) (is_found c.self.inside.numbers.items c.args.uid c.binary_search.result c.self.invariant.0 (search rules) (in_numbers c.self.inside.numbers.items c.deref.result.now c.args.uid c.number-number.result c.binary_search.result c.deref.ensures.value c.number-number.ensures c.self.invariant.0 c.binary_search.ensures.position))

pub returns-in-None-clause-place : goal.returns-in-None-clause-place
returns-in-None-clause-place g c = rw (← c.self.view_is, c.ok.ensures.value) (place_of c.self.inside.numbers.items c.args.uid c.binary_search.result (length c.self.inside.devices.items) c.self.invariant.1 c.self.invariant.0 (search rules) (in_numbers c.self.inside.numbers.items c.deref.result.now c.args.uid c.number-number.result c.binary_search.result c.deref.ensures.value c.number-number.ensures c.self.invariant.0 c.binary_search.ensures.position))
