-- `==` of values.
use Rattle.std.proofs.Common.{refl, ap}
use Rattle.std.proofs.lemmas.Bool.Decides.{Decides-like, Decides-eqb, Decides-int_eq}
use Rattle.rdm_profile.specs.declared.value.Value.TheVariants.{Nothing, Byte, Word, Long, Pair, Label, Preset, Named, SlotName, Mode, Reading, Sensor, Info, Block}
use Rattle.rdm_profile.specs.contracts.profile.SensorDefPartialEq.TheImpl as sensor_defs
use Rattle.rdm_profile.specs.contracts.value.ValuePartialEq.TheImpl as values
use Rattle.rdm_profile.proofs.Equality.{IsByValue, text_decides, number, integer}

pub value_decides : IsByValue sensor_defs.ghosts.eq → IsByValue values.ghosts.eq
value_decides sensor Nothing Nothing = (λ _. refl, λ _. refl)
value_decides sensor (Byte x) (Byte y) = Decides-like _ (ap Byte) (λ e. cc) (Decides-eqb x y)
value_decides sensor (Word x) (Word y) = Decides-like _ (ap Word) (λ e. cc) (Decides-eqb x y)
value_decides sensor (Long x) (Long y) = Decides-like _ (ap Long) (λ e. cc) (Decides-eqb x y)
value_decides sensor (Pair x0 x1) (Pair y0 y1) =
    Decides-like _ (λ e. rw (e.0, e.1) refl) (λ e. (cc, cc)) (number x0 y0 (Decides-eqb x1 y1))
value_decides sensor (Label x) (Label y) = Decides-like _ (ap Label) (λ e. cc) (text_decides x y)
value_decides sensor (Preset x0 x1) (Preset y0 y1) =
    Decides-like _ (λ e. rw (e.0, e.1) refl) (λ e. (cc, cc)) (number x0 y0 (Decides-eqb x1 y1))
value_decides sensor (Named x0 x1) (Named y0 y1) =
    Decides-like _ (λ e. rw (e.0, e.1) refl) (λ e. (cc, cc)) (number x0 y0 (text_decides x1 y1))
value_decides sensor (SlotName x0 x1) (SlotName y0 y1) =
    Decides-like _ (λ e. rw (e.0, e.1) refl) (λ e. (cc, cc)) (number x0 y0 (text_decides x1 y1))
value_decides sensor (Mode x0 x1 x2) (Mode y0 y1 y2) =
    Decides-like _ (λ e. rw (e.0, e.1.0, e.1.1) refl) (λ e. (cc, (cc, cc))) (number x0 y0 (number x1 y1 (text_decides x2 y2)))
value_decides sensor (Reading x0 x1 x2 x3 x4) (Reading y0 y1 y2 y3 y4) =
    Decides-like _ (λ e. rw (e.0, e.1.0, e.1.1.0, e.1.1.1.0, e.1.1.1.1) refl) (λ e. (cc, (cc, (cc, (cc, cc))))) (number x0 y0 (integer x1 y1 (integer x2 y2 (integer x3 y3 (Decides-int_eq x4 y4)))))
value_decides sensor (Sensor x0 x1) (Sensor y0 y1) =
    Decides-like _ (λ e. rw (e.0, e.1) refl) (λ e. (cc, cc)) (number x0 y0 (sensor x1 y1))
value_decides sensor (Info x0 x1 x2 x3 x4 x5 x6 x7 x8 x9) (Info y0 y1 y2 y3 y4 y5 y6 y7 y8 y9) =
    Decides-like _ (λ e. rw (e.0, e.1.0, e.1.1.0, e.1.1.1.0, e.1.1.1.1.0, e.1.1.1.1.1.0, e.1.1.1.1.1.1.0, e.1.1.1.1.1.1.1.0, e.1.1.1.1.1.1.1.1.0, e.1.1.1.1.1.1.1.1.1) refl) (λ e. (cc, (cc, (cc, (cc, (cc, (cc, (cc, (cc, (cc, cc)))))))))) (number x0 y0 (number x1 y1 (number x2 y2 (number x3 y3 (number x4 y4 (number x5 y5 (number x6 y6 (number x7 y7 (number x8 y8 (Decides-eqb x9 y9))))))))))
value_decides sensor (Block x) (Block y) = Decides-like _ (ap Block) (λ e. cc) (text_decides x y)
value_decides sensor _ _ = (λ e. absurd cc, λ e. absurd cc)
