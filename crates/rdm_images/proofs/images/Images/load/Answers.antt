use Rattle.std.proofs.Common.{◌+◌, ◌-◌, ◌≡◌, length, sym, ap, ◌∙◌, arith}
use Rattle.rdm_images.proofs.Finding.{found_lies}
use Rattle.rdm_images.proofs.images.Images.load.Goals as goal

pub slice_bounds-result-end : goal.slice_bounds-result-end
slice_bounds-result-end g c =
    let lies = found_lies c.args.self.now.key (g.M.Memory.area c.args.self.now.memory) c.in-Some.side c.in-Some.image (sym c.in_ok-find.ensures.found ∙ c.in-Some.is) in
    omega (arith, lies.within, ap length c.in_ok-read-in-Some.ensures.bytes, ap length (c.in_ok-find.ensures.same c.in-Some.side))

pub returns-in_ok-read-in-Some-clause-loaded : goal.returns-in_ok-read-in-Some-clause-loaded
returns-in_ok-read-in-Some-clause-loaded g c =
    let lies = found_lies c.args.self.now.key (g.M.Memory.area c.args.self.now.memory) c.in-Some.side c.in-Some.image (sym c.in_ok-find.ensures.found ∙ c.in-Some.is) in
    let few : 12 + c.in-Some.image.length - 12 ≡ c.in-Some.image.length = omega arith in
    let there : c.read.new.buffer ≡ g.M.Memory.area c.args.self.now.memory c.in-Some.side = c.in_ok-read-in-Some.ensures.bytes ∙ c.in_ok-find.ensures.same c.in-Some.side in
    rw (few, there) lies.value
