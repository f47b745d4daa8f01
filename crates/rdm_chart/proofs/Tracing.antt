-- The arrows of the lines of a trace, one after the other.
use Rattle.std.proofs.Common.{◌≡◌, ℕ, ◌<◌, ◌≤◌, ◌+◌, List, ◌∷◌, ◌++◌, length, get_or, drop, sym, ap, ◌∙◌, append_assoc}
use Rattle.std.proofs.lemmas.List.{append-nil, drop_all, at_drop_more}
use Rattle.rdm_frame.specs.declared.fault.Fault.{Fault}
use Rattle.rdm_trace.specs.declared.line.Line.{Line}
use Rattle.rdm_chart.specs.declared.arrow.Kind.{Kind}
use Rattle.rdm_chart.specs.Arrows.{kinds_of, fault_behind, kinds_behind}

pub line_drawn : (lines : List Line) (i : ℕ) (d line : Line) (old new said : List Kind) (fault next : Fault) → i < length lines → line ≡ get_or lines i d
    → old ++ kinds_behind fault (drop i lines) ≡ said → new ≡ old ++ kinds_of fault line → next ≡ fault_behind line fault
    → new ++ kinds_behind next (drop (i + 1) lines) ≡ said
line_drawn lines i d line old new said fault next lt at before more same =
    let rest = drop (i + 1) lines in
    let first : kinds_behind fault (drop i lines) ≡ kinds_of fault line ++ kinds_behind (fault_behind line fault) rest =
    at_drop_more (kinds_behind fault) lines i d lt ∙ ap (λ (l : Line). kinds_behind fault (l ∷ rest)) (sym at) in
    ap (λ (f : Fault). new ++ kinds_behind f rest) same
    ∙ ap (λ (ks : List Kind). ks ++ kinds_behind (fault_behind line fault) rest) more
    ∙ append_assoc old (kinds_of fault line) (kinds_behind (fault_behind line fault) rest)
    ∙ ap (λ (ks : List Kind). old ++ ks) (sym first) ∙ before

pub all_drawn : (lines : List Line) (i : ℕ) (drawn said : List Kind) (fault : Fault) → length lines ≤ i → drawn ++ kinds_behind fault (drop i lines) ≡ said → drawn ≡ said
all_drawn lines i drawn said fault past before =
    sym (append-nil drawn) ∙ ap (λ (ls : List Line). drawn ++ kinds_behind fault ls) (sym (drop_all i lines past)) ∙ before
