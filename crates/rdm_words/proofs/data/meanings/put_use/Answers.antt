use Rattle.rdm_words.proofs.Reports.{primary_put, secondary_put}
use Rattle.rdm_words.proofs.data.meanings.put_use.Goals as goal

pub returns-then-kind-eq-PRIMARY : goal.returns-then-kind-eq-PRIMARY
returns-then-kind-eq-PRIMARY c =
    primary_put c.put_row-then-kind-eq-PRIMARY.result c.args.kind c.args.label.now _ _ _ _ c.if-kind-eq-PRIMARY.true c.in_ok-put_row.ensures c.in_ok-push_str.ensures.bytes c.put_row-then-kind-eq-PRIMARY.ensures

pub returns : goal.returns
returns c =
    secondary_put c.write.result c.args.kind c.args.label.now c.number_of-primary.result _ _ _ c.if-kind-eq-PRIMARY.false c.in_ok-put_row.ensures c.number_of-primary.ensures c.write.ensures.bytes
