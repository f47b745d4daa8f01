-- A device joins a line that has histories.
use Rattle.std.proofs.Common.{◌≡◌, List, Result, Ok, Err, sym, subst}
use Rattle.std.specs.Prelude.{OnOk, OnErr}
use mathlib.Core.Logic.{∥∥₁_map}
use Rattle.rdm_responder.specs.History.{History}
use Rattle.rdm_line.specs.Line.{State, StandFor, joined}
use Rattle.rdm_line.specs.Searching.{HasHistories}

pub lives_joined : {A E D : Type 0} (stands : D → History → Type 0) (r : Result A E) (old new : State D) (d : D) → HasHistories stands old → ((h : History) × stands d h)
    → OnOk r ((hs : List History) (h : History) → StandFor stands old hs → stands d h → StandFor stands new (joined h hs)) → OnErr r (new ≡ old) → HasHistories stands new
lives_joined stands (Ok x) old new d lives one joins same = ∥∥₁_map lives (λ p. (joined one.0 p.0, joins p.0 one.0 p.1 one.1))
lives_joined stands (Err e) old new d lives one joins same = subst (HasHistories stands) (sym same) lives
