use Rattle.std.proofs.Common.{◌≡◌, true, List, subst, rules}
use Rattle.rdm_search.specs.declared.found.Found.{Found}
use Rattle.rdm_search.specs.Searches.{is_in_doubt}
use Rattle.rdm_search.proofs.Hearings.{doubt_repeats, doubt_goes_on}
use Rattle.rdm_search.proofs.hearing.heard.Goals as goal

pub returns-then-again-lt-MOST_AGAIN-clause-hears : goal.returns-then-again-lt-MOST_AGAIN-clause-hears
returns-then-again-lt-MOST_AGAIN-clause-hears c =
    let doubt = subst (λ (xs : List Found). true ≡ is_in_doubt c.args.stage xs c.args.bytes.now) c.as_slice.ensures.value c.in-Some.ensures.doubt in
    doubt_repeats c.args.stage c.args.found.now.items c.args.bytes.now doubt

pub returns-in_ok-name-in-Some-clause-hears : goal.returns-in_ok-name-in-Some-clause-hears
returns-in_ok-name-in-Some-clause-hears c =
    let doubt = subst (λ (xs : List Found). true ≡ is_in_doubt c.args.stage xs c.args.bytes.now) c.as_slice.ensures.value c.in-Some.ensures.doubt in
    doubt_goes_on c.args.stage _ c.in-Some.range c.in-Some.uid c.args.found.now.items c.args.bytes.now c.in-Some.ensures.mute.0 c.in-Some.ensures.mute.1 (search rules) doubt
