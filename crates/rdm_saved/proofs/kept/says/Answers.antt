use Rattle.std.proofs.Common.{sym, arith, inl, inr}
use Rattle.rdm_saved.proofs.Refusing.{says_short}
use Rattle.rdm_saved.proofs.kept.says.Goals as goal

pub returns-in-None : goal.returns-in-None
returns-in-None c =
    sym (says_short c.args.profile.now c.args.kept c.args.image.now (elim c.in-None.ensures.lookup.0 [
      | inl few ↦ absurd (omega (arith, few, c.profile_len.ensures.size))
      | inr short ↦ omega (arith, short, c.profile_len.ensures.size)
    ]))
