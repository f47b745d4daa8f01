use Rattle.rdm_images.proofs.Newest.{save_is_sound, save_is_whole, on_err}
use Rattle.rdm_images.proofs.images.Images.save.Goals as goal

pub returns-clause-sound : goal.returns-clause-sound
returns-clause-sound g c = λ sound. save_is_sound (g.M.Memory.area c.args.self.now.memory) (g.M.Memory.area c.find.new.self.memory) (g.M.Memory.area c.replace.new.self.memory) c.next_image-next.result.side c.in_ok-found.ensures.same c.replace.ensures.same c.replace.ensures.sound sound

pub returns-clause-whole : goal.returns-clause-whole
returns-clause-whole g c = on_err c.replace.result (λ torn. save_is_whole c.args.self.now.key c.find.new.self.key c.replace.new.self.key (g.M.Memory.area c.args.self.now.memory) (g.M.Memory.area c.find.new.self.memory) (g.M.Memory.area c.replace.new.self.memory) c.in_ok-found.found c.next_image-next.result.side c.next_image-next.result.counter c.args.payload.now c.in_ok-found.ensures.key c.replace.ensures.key c.in_ok-found.ensures.found c.next_image-next.ensures.side c.next_image-next.ensures.counter c.in_ok-found.ensures.same c.replace.ensures.same torn) c.replace.ensures.torn
