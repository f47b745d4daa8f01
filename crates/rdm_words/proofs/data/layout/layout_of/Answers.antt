use Rattle.std.proofs.Common.{◌≡◌, Option, sym, subst, ◌∙◌}
use Rattle.rdm_table.specs.declared.kind.Kind.{Kind}
use Rattle.rdm_words.specs.DataFacts.{facts_of_kind}
use Rattle.rdm_words.specs.LaidOut.{layout_facts}
use Rattle.rdm_words.proofs.data.layout.layout_of.Goals as goal

pub returns-in-Some-clause-facts : goal.returns-in-Some-clause-facts
returns-in-Some-clause-facts c = λ d.
    subst (λ (k : Option Kind). layout_facts c.known_layout.result d ≡ facts_of_kind c.args.code c.args.pid k d) (sym c.in-Some.is ∙ c.kind_of.ensures.first)
    (c.known_layout.ensures d)

pub returns-in-None-clause-facts : goal.returns-in-None-clause-facts
returns-in-None-clause-facts c = λ d.
    subst (λ (k : Option Kind). layout_facts c.discovery_layout.result d ≡ facts_of_kind c.args.code c.args.pid k d) (sym c.in-None.is ∙ c.kind_of.ensures.first)
    (c.discovery_layout.ensures.facts d)
