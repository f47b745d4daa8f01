use Rattle.std.proofs.Common.{ℕ, ◌≡◌, ◌<◌, ◌∙◌, ap, subst, List, [], ◌++◌, length, take, OnOk, OnErr}
use Rattle.std.proofs.lemmas.Fmt.{contents_after_writes}
use Rattle.std.specs.Fmt.{WritesInCalls}
use Rattle.arrayvec.specs.ArrayString.{ArrayString}
use Rattle.std.specs.Io.KnownBytes.{Appends}
use Rattle.rdm_script.specs.ErrorLine.{error_line}
use Rattle.rdm_script.proofs.error_line.write_error_line.Goals as goal

-- what calls put behind an empty text is its bytes
put_behind : (old new : ArrayString) (bytes : List ℕ) → old.bytes ≡ []
    → WritesInCalls (λ (s : ArrayString) (more : List ℕ) (t : ArrayString). t.bytes ≡ s.bytes ++ more) old bytes new → new.bytes ≡ bytes
put_behind old new bytes empty writes =
    contents_after_writes (λ (s : ArrayString) (more : List ℕ) (t : ArrayString). t.bytes ≡ s.bytes ++ more) (λ (s : ArrayString). s.bytes)
    (λ s more t is. is) old bytes new writes ∙ ap (λ (xs : List ℕ). xs ++ bytes) empty

pub returns-in-Ok-clause-ok : goal.returns-in-Ok-clause-ok
returns-in-Ok-clause-ok g c =
    let line = c.as_bytes.ensures.value ∙ c.deref.ensures.0 ∙ put_behind c.new-line.result c.writeln.new.self (error_line c.args.error) c.new-line.ensures c.in-Ok.ensures.writes in
    subst (λ (xs : List ℕ). OnOk c.write_all.result (Appends (g.W.Write.contents c.args.writer.now) (g.W.Write.contents c.write_all.new.writer) xs)) line
    c.write_all.ensures.ok

pub returns-in-Ok-clause-front : goal.returns-in-Ok-clause-front
returns-in-Ok-clause-front g c =
    let line = c.as_bytes.ensures.value ∙ c.deref.ensures.0 ∙ put_behind c.new-line.result c.writeln.new.self (error_line c.args.error) c.new-line.ensures c.in-Ok.ensures.writes in
    subst (λ (xs : List ℕ). OnErr c.write_all.result ((count : ℕ) × (count < length xs)
    × Appends (g.W.Write.contents c.args.writer.now) (g.W.Write.contents c.write_all.new.writer) (take count xs))) line
    c.write_all.ensures.front
