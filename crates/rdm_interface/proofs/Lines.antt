-- What a port hears on the line behind it may be heard on that line.
use Rattle.std.proofs.Common.{◌≡◌, ◌⊎◌, ℕ, suc, ◌+◌, ◌≤◌, List, [], ◌∷◌, length, Option, refl, sym, ap, subst, inl, inr, arith}
use Rattle.std.specs.Prelude.{unwrap_or}
use Rattle.rdm_frame.specs.declared.uid.Uid.{Uid}
use Rattle.rdm_search.specs.declared.request.Request.{Request}
use Rattle.rdm_search.specs.Line.{Fixture}
use Rattle.rdm_search.specs.Losses.{IsKept, IsLost}
use Rattle.rdm_interface.specs.Askings.{Asking, AreAsked, Situation, IsHeardOf, AreHeardOf, LinesAreHeard, LossyLinesAreHeard}
use Rattle.rdm_interface.specs.Lines.{IsLossyLineOf}
use Rattle.rdm_interface.proofs.Repeats.{asking, recount}

abbrev at : List Fixture → ℕ → ℕ → Situation
at fixtures lost altered = record { fixtures = fixtures; lost = lost; altered = altered }

-- ---- where no more askings in a row are lost than so many

pub lines_are_heard : {P : Type 0} (hears : P → List ℕ → Option (List ℕ) → P → Type 0) → LinesAreHeard hears
lines_are_heard {P} hears fixtures most line source before after [] asked = ap (λ (p : P). at (fixtures p) (line.lost p) (line.altered p)) asked
lines_are_heard {P} hears fixtures most line source before after (x ∷ xs) asked =
    let mid : P = asked.0 in
    let here : Situation = at (fixtures before) (line.lost before) (line.altered before) in
    let next : Situation = at (fixtures mid) (line.lost mid) (line.altered mid) in (
      next,
      subst (λ (h : List ℕ). IsHeardOf most here (asking x.request x.tn h) next) (sym asked.2.2)
          (line.kept_or_lost before mid x.request source x.tn asked.2.0 asked.1.0 asked.2.1),
      lines_are_heard hears fixtures most line source mid after xs asked.3,
    )

-- ---- where any number is

-- nothing was lost, or something was, and then so many are in a row
step : (request : Request) (tn : ℕ) (line : List Fixture) (heard : List ℕ) (after : List Fixture) (most lost altered n n' : ℕ) → suc lost ≤ most → IsKept request line heard after n n' ⊎ IsLost request line heard after
    → (next : Situation) × (next.fixtures ≡ after) × (next.lost ≤ suc lost) × IsHeardOf most (at line lost altered) (asking request tn heard) next
step request tn line heard after most lost altered n n' few (inl k) =
    let r = recount request line heard after n n' altered k in (at after 0 r.0, refl, omega arith, inl (r.1, refl))
step request tn line heard after most lost altered n n' few (inr l) =
    (at after (suc lost) altered, refl, omega arith, inr (l, refl, few, refl))

-- from where it stands, with so many lost in a row
lossy_from : {P : Type 0} (hears : P → List ℕ → Option (List ℕ) → P → Type 0) (fixtures : P → List Fixture) → IsLossyLineOf hears fixtures → (source : Uid) (before after : P) (askings : List Asking) (most lost altered : ℕ)
    → lost + length askings ≤ most → AreAsked hears source before askings after
    → (end : Situation) × (end.fixtures ≡ fixtures after) × AreHeardOf most (at (fixtures before) lost altered) askings end
lossy_from hears fixtures line source before after [] most lost altered few asked = (at (fixtures before) lost altered, sym (ap fixtures asked), refl)
lossy_from {P} hears fixtures line source before after (x ∷ xs) most lost altered few asked =
    let mid : P = asked.0 in
    let one =
    step x.request x.tn (fixtures before) (unwrap_or asked.2.0 []) (fixtures mid) most lost altered (line.altered before) (line.altered mid) (omega (arith, few))
    (line.kept_or_lost before mid x.request source x.tn asked.2.0 asked.1.0 asked.2.1) in
    let others = lossy_from hears fixtures line source mid after xs most one.0.lost one.0.altered (omega (arith, few, one.2)) asked.3 in (
      others.0,
      others.1,
      (
        one.0,
        subst (λ (h : List ℕ). IsHeardOf most (at (fixtures before) lost altered) (asking x.request x.tn h) one.0) (sym asked.2.2) one.3,
        subst (λ (l : List Fixture). AreHeardOf most (at l one.0.lost one.0.altered) xs others.0) (sym one.1) others.2,
      ),
    )

pub lossy_lines_are_heard : {P : Type 0} (hears : P → List ℕ → Option (List ℕ) → P → Type 0) → LossyLinesAreHeard hears
lossy_lines_are_heard hears fixtures line source before after askings asked =
    let end = lossy_from hears fixtures line source before after askings (length askings) 0 0 (omega arith) asked in
    (length askings, at (fixtures before) 0 0, end.0, refl, end.1, end.2)
