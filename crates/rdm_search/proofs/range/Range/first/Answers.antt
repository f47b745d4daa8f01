use Rattle.std.proofs.Common.{◌≡◌, ℕ, ◌*◌, ap, arith}
use Rattle.rdm_search.specs.Ranges.{width}
use Rattle.rdm_search.proofs.Places.{range_fits}
use Rattle.rdm_search.proofs.range.Range.first.Goals as goal

pub overflow_mul-result : goal.overflow_mul-result
overflow_mul-result c =
    let h = range_fits c.args.self.now.depth c.args.self.now.index c.requires.0 c.requires.1 in
    let e : c.args.self.now.index * c.width.result ≡ c.args.self.now.index * width c.args.self.now.depth = ap (λ (n : ℕ). c.args.self.now.index * n) c.width.ensures.value in
    omega arith

pub returns-clause-fits : goal.returns-clause-fits
returns-clause-fits c =
    let h = range_fits c.args.self.now.depth c.args.self.now.index c.requires.0 c.requires.1 in
    let e : c.args.self.now.index * c.width.result ≡ c.args.self.now.index * width c.args.self.now.depth = ap (λ (n : ℕ). c.args.self.now.index * n) c.width.ensures.value in
    omega arith
