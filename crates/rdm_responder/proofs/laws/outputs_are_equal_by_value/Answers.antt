use Rattle.std.proofs.Common.{◌≡◌, refl, ap}
use Rattle.std.specs.Bool.{Decides}
use Rattle.std.proofs.lemmas.Bool.Decides.{Decides-and, Decides-like}
use Rattle.rdm_responder.specs.declared.run.Output.{Output}
use Rattle.rdm_responder.specs.declared.run.Output.TheVariants.{Answered, Arrived, HandedBack, Changed, NoRoom}
use Rattle.rdm_responder.specs.contracts.run.OutputPartialEq.TheImpl as compared
use Rattle.rdm_responder.proofs.Options.{option_decides}
use Rattle.rdm_responder.proofs.laws.outputs_are_equal_by_value.Goals as goal

decides : (c : goal.After-no_rooms_are_equal_by_value) (a b : Output) → Decides (compared.ghosts.eq a b) (a ≡ b)
decides c (Answered w j) (Answered v k) =
    Decides-like _ (λ e. rw (e.0, e.1) refl) (λ e. (cc, cc)) (Decides-and _ _ (option_decides _ c.bytes_are_equal_by_value.ensures w v) (option_decides _ c.jobs_are_equal_by_value.ensures j k))
decides c (Answered w j) (Arrived y) = (λ e. absurd cc, λ e. absurd cc)
decides c (Answered w j) (HandedBack y) = (λ e. absurd cc, λ e. absurd cc)
decides c (Answered w j) (Changed y) = (λ e. absurd cc, λ e. absurd cc)
decides c (Answered w j) (NoRoom y) = (λ e. absurd cc, λ e. absurd cc)
decides c (Arrived x) (Answered v k) = (λ e. absurd cc, λ e. absurd cc)
decides c (Arrived x) (Arrived y) = Decides-like _ (ap Arrived) (λ e. cc) (c.arrivals_are_equal_by_value.ensures x y)
decides c (Arrived x) (HandedBack y) = (λ e. absurd cc, λ e. absurd cc)
decides c (Arrived x) (Changed y) = (λ e. absurd cc, λ e. absurd cc)
decides c (Arrived x) (NoRoom y) = (λ e. absurd cc, λ e. absurd cc)
decides c (HandedBack x) (Answered v k) = (λ e. absurd cc, λ e. absurd cc)
decides c (HandedBack x) (Arrived y) = (λ e. absurd cc, λ e. absurd cc)
decides c (HandedBack x) (HandedBack y) = Decides-like _ (ap HandedBack) (λ e. cc) (c.astrays_are_equal_by_value.ensures x y)
decides c (HandedBack x) (Changed y) = (λ e. absurd cc, λ e. absurd cc)
decides c (HandedBack x) (NoRoom y) = (λ e. absurd cc, λ e. absurd cc)
decides c (Changed x) (Answered v k) = (λ e. absurd cc, λ e. absurd cc)
decides c (Changed x) (Arrived y) = (λ e. absurd cc, λ e. absurd cc)
decides c (Changed x) (HandedBack y) = (λ e. absurd cc, λ e. absurd cc)
decides c (Changed x) (Changed y) = Decides-like _ (ap Changed) (λ e. cc) (option_decides _ c.messages_are_equal_by_value.ensures x y)
decides c (Changed x) (NoRoom y) = (λ e. absurd cc, λ e. absurd cc)
decides c (NoRoom x) (Answered v k) = (λ e. absurd cc, λ e. absurd cc)
decides c (NoRoom x) (Arrived y) = (λ e. absurd cc, λ e. absurd cc)
decides c (NoRoom x) (HandedBack y) = (λ e. absurd cc, λ e. absurd cc)
decides c (NoRoom x) (Changed y) = (λ e. absurd cc, λ e. absurd cc)
decides c (NoRoom x) (NoRoom y) = Decides-like _ (ap NoRoom) (λ e. cc) (c.no_rooms_are_equal_by_value.ensures x y)

pub returns : goal.returns
returns c = decides c
