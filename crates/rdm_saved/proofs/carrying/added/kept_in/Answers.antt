use Rattle.std.proofs.Common.{◌≡◌, ℕ, ◌+◌, ◌-◌, ◌*◌, Bool, true, List, take, drop, Some, sym, ap, ◌∙◌, arith}
use Rattle.std.specs.Prelude.{if◌then◌else◌}
use Rattle.rdm_saved.specs.SameProfile.{kept_said}
use Rattle.rdm_saved.specs.Carrying.{is_kept_of, kept_in}
use Rattle.rdm_saved.proofs.Pieces.{kept_here}
use Rattle.rdm_saved.proofs.carrying.added.kept_in.Goals as goal

pub returns-then-is_kept_of : goal.returns-then-is_kept_of
returns-then-is_kept_of c =
    let i : ℕ = c.loop-i.i in
    let rest : List ℕ = drop (37 * i) c.args.bytes.now in
    let piece : 37 * i + 37 - 37 * i ≡ 37 = omega arith in
    let later = kept_in (c.args.count - (i + 1)) (drop (37 * (i + 1)) c.args.bytes.now) c.args.pid c.args.index in
    let is : is_kept_of c.args.pid c.args.index (take 37 rest) ≡ true = ap (λ (n : ℕ). is_kept_of c.args.pid c.args.index (take n rest)) (sym piece) ∙ sym c.is_kept_of.ensures ∙ c.if-is_kept_of.true in
    let said : c.kept_in.result ≡ kept_said (take 37 rest) = c.kept_in.ensures ∙ ap (λ (n : ℕ). kept_said (take n rest)) piece in
    ap (λ (bytes : List ℕ). Some bytes) said ∙ ap (λ (b : Bool). if b then Some (kept_said (take 37 rest)) else later) (sym is)
    ∙ sym (kept_here c.args.count i c.args.bytes.now c.args.pid c.args.index c.loop-i-test.true) ∙ sym c.loop-i.invariant
