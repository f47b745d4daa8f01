use Rattle.rdm_chart.proofs.charting.page_of.Goals as goal

pub returns-clause-document : goal.returns-clause-document
returns-clause-document c = rw c.into_bytes.ensures.value (c.in_ok-text.ensures.document c.in_ok-picture.ensures.once)

pub returns-clause-arrows : goal.returns-clause-arrows
returns-clause-arrows c = rw (c.into_bytes.ensures.value, ← c.in_ok-picture.ensures.arrows) c.in_ok-text.ensures.arrows
