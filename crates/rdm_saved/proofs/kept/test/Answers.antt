use Rattle.std.proofs.Common.{Bool, true, ap, sym, refl, ◌∙◌}
use Rattle.rdm_saved.specs.SavedText.{kept}
use Rattle.rdm_saved.specs.Restoring.{is_sound, is_of_model}
use Rattle.rdm_saved.proofs.Refusing.{first_of, found, long_enough, tested}
use Rattle.rdm_saved.proofs.kept.test.Goals as goal

pub returns-then-not-has_wanted_len-clause-refused : goal.returns-then-not-has_wanted_len-clause-refused
returns-then-not-has_wanted_len-clause-refused c =
    let values = kept c.args.profile.now c.args.root.now c.args.own.now c.args.subs.now in
    let both = tested c.args.profile.now c.args.root.now c.args.own.now c.args.subs.now c.args.image.now _ _ _ c.added_count.ensures c.says-is_same.ensures c.has_wanted_len.ensures in
    ap (λ (b : Bool). first_of b (is_sound c.args.image.now) (is_of_model c.args.maker values c.args.image.now)) (sym c.if-not-has_wanted_len.true)
    ∙ found c.args.maker values c.args.image.now c.has_wanted_len.result (is_sound c.args.image.now) (is_of_model c.args.maker values c.args.image.now) both.fits refl refl

pub returns-then-not-is_sound-clause-refused : goal.returns-then-not-is_sound-clause-refused
returns-then-not-is_sound-clause-refused c =
    let values = kept c.args.profile.now c.args.root.now c.args.own.now c.args.subs.now in
    let both = tested c.args.profile.now c.args.root.now c.args.own.now c.args.subs.now c.args.image.now _ _ _ c.added_count.ensures c.says-is_same.ensures c.has_wanted_len.ensures in
    ap (λ (b : Bool). first_of true b (is_of_model c.args.maker values c.args.image.now)) (sym c.if-not-is_sound.true)
    ∙ ap (λ (b : Bool). first_of b c.is_sound.result (is_of_model c.args.maker values c.args.image.now)) (sym c.if-not-has_wanted_len.false)
    ∙ found c.args.maker values c.args.image.now c.has_wanted_len.result c.is_sound.result (is_of_model c.args.maker values c.args.image.now) both.fits c.is_sound.ensures refl

pub returns-then-not-is_of_model-clause-refused : goal.returns-then-not-is_of_model-clause-refused
returns-then-not-is_of_model-clause-refused c =
    let values = kept c.args.profile.now c.args.root.now c.args.own.now c.args.subs.now in
    let both = tested c.args.profile.now c.args.root.now c.args.own.now c.args.subs.now c.args.image.now _ _ _ c.added_count.ensures c.says-is_same.ensures c.has_wanted_len.ensures in
    ap (λ (b : Bool). first_of true true b) (sym c.if-not-is_of_model.true)
    ∙ ap (λ (b : Bool). first_of true b c.is_of_model.result) (sym c.if-not-is_sound.false)
    ∙ ap (λ (b : Bool). first_of b c.is_sound.result c.is_of_model.result) (sym c.if-not-has_wanted_len.false)
    ∙ found c.args.maker values c.args.image.now c.has_wanted_len.result c.is_sound.result c.is_of_model.result both.fits c.is_sound.ensures c.is_of_model.ensures

pub returns-clause-refused : goal.returns-clause-refused
returns-clause-refused c =
    let values = kept c.args.profile.now c.args.root.now c.args.own.now c.args.subs.now in
    let both = tested c.args.profile.now c.args.root.now c.args.own.now c.args.subs.now c.args.image.now _ _ _ c.added_count.ensures c.says-is_same.ensures c.has_wanted_len.ensures in
    ap (λ (b : Bool). first_of true true b) (sym c.if-not-is_of_model.false)
    ∙ ap (λ (b : Bool). first_of true b c.is_of_model.result) (sym c.if-not-is_sound.false)
    ∙ ap (λ (b : Bool). first_of b c.is_sound.result c.is_of_model.result) (sym c.if-not-has_wanted_len.false)
    ∙ found c.args.maker values c.args.image.now c.has_wanted_len.result c.is_sound.result c.is_of_model.result both.fits c.is_sound.ensures c.is_of_model.ensures

pub returns-clause-same : goal.returns-clause-same
returns-clause-same c =
    (tested c.args.profile.now c.args.root.now c.args.own.now c.args.subs.now c.args.image.now _ _ _ c.added_count.ensures c.says-is_same.ensures c.has_wanted_len.ensures).same

pub returns-clause-long : goal.returns-clause-long
returns-clause-long c =
    let both = tested c.args.profile.now c.args.root.now c.args.own.now c.args.subs.now c.args.image.now _ _ _ c.added_count.ensures c.says-is_same.ensures c.has_wanted_len.ensures in
    long_enough (kept c.args.profile.now c.args.root.now c.args.own.now c.args.subs.now) c.args.image.now c.has_wanted_len.result both.fits c.if-not-has_wanted_len.false
