use Rattle.std.proofs.Common.{inl, inr}
use Rattle.std.proofs.lemmas.Result.{err_from_is_err_and}
use Rattle.rdm_images.proofs.Holding.{held_when_risen, sound_when_risen}
use Rattle.rdm_images.proofs.Writing.{written_held, torn_held, torn_sound}
use Rattle.rdm_images.proofs.images.Images.replace.Goals as goal

pub returns-in_err-erase-clause-torn : goal.returns-in_err-erase-clause-torn
returns-in_err-erase-clause-torn g c =
    let p = err_from_is_err_and c.from_residual.result c.from_residual.ensures.1 in
    rw p.1 (λ sound. elim (held_when_risen c.args.self.now.key _ _ c.erase.ensures.torn sound) [
      | inl none ↦ inl none
      | inr same ↦ inr (inl same)
    ])

pub returns-in_err-erase-clause-sound : goal.returns-in_err-erase-clause-sound
returns-in_err-erase-clause-sound g c = λ sound. sound_when_risen _ _ c.erase.ensures.torn sound

pub returns-in_err-write-clause-torn : goal.returns-in_err-write-clause-torn
returns-in_err-write-clause-torn g c =
    let p = err_from_is_err_and c.from_residual-in_err-write.result c.from_residual-in_err-write.ensures.1 in
    rw p.1 (λ sound. elim (torn_held c.args.self.now.key c.args.counter c.args.payload.now _ _ _ c.encode_image.ensures.fits c.encode_image.ensures.text c.write.ensures.torn) [
      | inl none ↦ inl none
      | inr new ↦ inr (inr new)
    ])

pub returns-in_err-write-clause-sound : goal.returns-in_err-write-clause-sound
returns-in_err-write-clause-sound g c =
    λ sound. torn_sound c.args.self.now.key c.args.counter c.args.payload.now _ _ _ c.encode_image.ensures.fits c.encode_image.ensures.text c.write.ensures.torn

pub returns-clause-written : goal.returns-clause-written
returns-clause-written g c =
    written_held c.args.self.now.key c.args.counter c.args.payload.now _ _ _ c.encode_image.ensures.fits c.encode_image.ensures.text c.in_ok-write.ensures.written

pub returns-clause-sound : goal.returns-clause-sound
returns-clause-sound g c =
    λ sound. torn_sound c.args.self.now.key c.args.counter c.args.payload.now _ _ _ c.encode_image.ensures.fits c.encode_image.ensures.text c.write.ensures.torn
