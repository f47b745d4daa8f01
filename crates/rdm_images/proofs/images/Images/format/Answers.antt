use Rattle.rdm_images.proofs.Erasing.{nothing_loaded, erased_sound, both_erased, first_torn, second_torn, on_ok}
use Rattle.rdm_images.proofs.images.Images.format.Goals as goal

pub returns-in_err-erase-clause-torn : goal.returns-in_err-erase-clause-torn
returns-in_err-erase-clause-torn g c = first_torn (g.M.Memory.area c.args.self.now.memory) (g.M.Memory.area c.erase.new.self) c.erase.ensures.torn c.erase.ensures.same

pub returns-clause-none : goal.returns-clause-none
returns-clause-none g c =
    on_ok c.erase-2.result (λ erased. nothing_loaded c.args.self.now.key (g.M.Memory.area c.erase-2.new.self) (both_erased (g.M.Memory.area c.erase.new.self) (g.M.Memory.area c.erase-2.new.self) c.in_ok-erase.ensures.erased c.erase-2.ensures.same erased)) c.erase-2.ensures.erased

pub returns-clause-sound : goal.returns-clause-sound
returns-clause-sound g c =
    on_ok c.erase-2.result (λ erased side. erased_sound _ (both_erased (g.M.Memory.area c.erase.new.self) (g.M.Memory.area c.erase-2.new.self) c.in_ok-erase.ensures.erased c.erase-2.ensures.same erased side)) c.erase-2.ensures.erased

pub returns-clause-torn : goal.returns-clause-torn
returns-clause-torn g c =
    λ sound. second_torn (g.M.Memory.area c.erase.new.self) (g.M.Memory.area c.erase-2.new.self) c.erase-2.ensures.torn c.erase-2.ensures.same
    (first_torn (g.M.Memory.area c.args.self.now.memory) (g.M.Memory.area c.erase.new.self) c.erase.ensures.torn c.erase.ensures.same sound)
