use Rattle.std.proofs.Common.{◌≡◌, Some, None, sym, ◌∙◌, arith, rules}
use Rattle.std.specs.Int.{w64}
use Rattle.std.proofs.lemmas.Int.{to_z-of_z}
use Rattle.toml.proofs.Views.{view-String}
use Rattle.rdm_fixture.proofs.NumberSlots.{number_said}
use Rattle.rdm_fixture.proofs.Starts.{number_starts, slots_start_again}
use Rattle.rdm_fixture.proofs.writing.parameters.start_of.Goals as goal

pub returns-in-Some-clause-says : goal.returns-in-Some-clause-says
returns-in-Some-clause-says c = λ d shape start can stand.
    let said : number_said c.args.shape c.args.start.now ≡ Some c.in-Some.number = sym c.number_of.ensures ∙ c.in-Some.is in
    let fits = to_z-of_z w64 c.in-Some.number (search rules) in
    rw (c.from.ensures, fits) (number_starts d c.args.shape c.args.start.now c.in-Some.number (λ i. omega (arith, c.type_inv.start i)) shape start can said)

pub returns-in_ok-text_of-in-None-clause-says : goal.returns-in_ok-text_of-in-None-clause-says
returns-in_ok-text_of-in-None-clause-says c = λ d shape start can stand.
    let none : number_said c.args.shape c.args.start.now ≡ None = sym c.number_of.ensures ∙ c.in-None.is in
    rw (view-String c.in_ok-text_of-in-None.field-0) (slots_start_again d c.args.shape c.args.start.now _ (λ i. omega (arith, c.type_inv.start i)) shape start can stand none c.in_ok-text_of-in-None.ensures)
