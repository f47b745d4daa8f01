-- Status messages that are fetched one behind the other.
use Rattle.std.proofs.Common.{◌≡◌, inl, ℕ, suc, ◌+◌, ◌<◌, true, false, not, List, ◌++◌, Option, refl, sym, ap, ◌∙◌, subst, arith, add-one, append-nil, append_assoc}
use Rattle.rdm_surveyor.specs.declared.reports.Report.{Report}
use Rattle.rdm_surveyor.specs.Asking.{Ends}
use Rattle.rdm_surveyor.specs.Statuses.{AreFetched, Fetched, IsNextFetched, Tale, TellsStatus, counts_of, fetched_with, given_after, is_again, is_over_after, none_fetched, status_request, tale_after}

-- N were asked for, and it isn't over.
pub record IsSoFar {P : Type 0} (hears : P → List ℕ → Option (List ℕ) → P → Type 0) (e : Ends) (number : ℕ) (before : P) (list : List Report) (t : Tale) (more : List Report) (after : P) : Type 0 where
  pub fetched : Fetched
  pub asked : AreFetched hears e number before fetched after
  pub goes_on : fetched.over ≡ false
  pub tale_is : t ≡ fetched.tale
  pub given_is : more ≡ list ++ fetched.given

module _ {P : Type 0} (hears : P → List ℕ → Option (List ℕ) → P → Type 0) (e : Ends) where
  pub none_asked : (p : P) (list : List Report) (t : Tale) → t ≡ none_fetched.tale → IsSoFar hears e 0 p list t list p
  none_asked p list t same = record { fetched = none_fetched; asked = (refl, refl); goes_on = refl; tale_is = same; given_is = sym (append-nil list) }

  one_more : (number : ℕ) (before mid after : P) (list more : List Report) (t : Tale) (heard : Option (List ℕ)) (so_far : IsSoFar hears e number before list t more mid)
      → hears mid (status_request e number (is_again t)) heard after → AreFetched hears e (suc number) before (fetched_with e.fixture so_far.fetched heard) after
  one_more number before mid after list more t heard so_far sent =
      let next : IsNextFetched hears e number so_far.fetched mid (fetched_with e.fixture so_far.fetched heard) after = record {
        heard = heard;
        sent = subst (λ (x : Tale). hears mid (status_request e number (is_again x)) heard after) so_far.tale_is sent;
        goes_on = so_far.goes_on;
        fetched_is = refl;
      } in
      (so_far.fetched, mid, so_far.asked, next)

  given_more : (list given more next : List Report) (f : Fetched) → given ≡ list ++ f.given → more ≡ given ++ next → more ≡ list ++ (f.given ++ next)
  given_more list given more next f eg em = em ∙ ap (λ (x : List Report). x ++ next) eg ∙ append_assoc list f.given next

  -- One more request was sent, and it isn't over.
  pub next_asked : (number : ℕ) (before mid after : P) (list given more : List Report) (t : Tale) (heard : Option (List ℕ))
      → IsSoFar hears e number before list t given mid → hears mid (status_request e number (is_again t)) heard after
      → more ≡ given ++ given_after e.fixture t heard → is_over_after t heard ≡ false
      → IsSoFar hears e (number + 1) before list (tale_after t heard) more after
  next_asked number before mid after list given more t heard so_far sent more_is over =
      let f : Fetched = fetched_with e.fixture so_far.fetched heard in
      record {
        fetched = f;
        asked = subst (λ n. AreFetched hears e n before f after) (sym (add-one number)) (one_more number before mid after list given t heard so_far sent);
        goes_on = ap (λ (x : Tale). is_over_after x heard) (sym so_far.tale_is) ∙ over;
        tale_is = ap (λ (x : Tale). tale_after x heard) so_far.tale_is;
        given_is =
            given_more list given more (given_after e.fixture so_far.fetched.tale heard) so_far.fetched so_far.given_is
            (more_is ∙ ap (λ (x : Tale). given ++ given_after e.fixture x heard) so_far.tale_is);
      }

  -- One more was sent, and it is over.
  pub last_asked : (number : ℕ) (before mid after : P) (list given more : List Report) (t : Tale) (heard : Option (List ℕ)) (counts : _)
      → IsSoFar hears e number before list t given mid → hears mid (status_request e number (is_again t)) heard after
      → more ≡ given ++ given_after e.fixture t heard → is_over_after t heard ≡ true → number < 100 → counts ≡ counts_of (tale_after t heard)
      → TellsStatus hears e before list (record { counts = counts; has_more = false }) more after
  last_asked number before mid after list given more t heard counts so_far sent more_is over few counts_are =
      let over_is = ap (λ (x : Tale). is_over_after x heard) (sym so_far.tale_is) ∙ over in
      record {
        number = suc number;
        fetched = fetched_with e.fixture so_far.fetched heard;
        asked = one_more number before mid after list given t heard so_far sent;
        ended = inl over_is;
        within = omega (arith, few);
        counts = counts_are ∙ ap (λ (x : Tale). counts_of (tale_after x heard)) so_far.tale_is;
        has_more = sym (ap not over_is);
        given =
            given_more list given more (given_after e.fixture so_far.fetched.tale heard) so_far.fetched so_far.given_is
            (more_is ∙ ap (λ (x : Tale). given ++ given_after e.fixture x heard) so_far.tale_is);
      }
