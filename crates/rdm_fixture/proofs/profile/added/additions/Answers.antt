use Rattle.std.proofs.Common.{◌≡◌, ◌<◌, ◌++◌, List, [], ◌∷◌, AllPairs, inl, inr, sym, ◌∙◌, subst, codes}
use Rattle.std.proofs.lemmas.Bool.{false≢true}
use Rattle.rdm_profile.specs.declared.profile.choices.ChoiceName.{ChoiceName}
use Rattle.rdm_profile.specs.declared.profile.locks.Lock.{Lock}
use Rattle.rdm_profile.specs.declared.profile.own.ParameterDef.{ParameterDef}
use Rattle.rdm_profile.specs.Profiles.{Agree, HaveStates}
use Rattle.toml.specs.View.{table_view}
use Rattle.rdm_fixture_keys.specs.Entries.{choice_parts, IsChoice}
use Rattle.rdm_fixture.specs.FirstWrong.{AreAdded, added_parts, parameter_parts, ascending, agreeing, lock_parts, stated}
use Rattle.rdm_fixture.specs.Format.{AreLocks}
use Rattle.rdm_fixture.specs.Parameters.{IsParameter}
use Rattle.rdm_fixture_keys.specs.Wrong.{Part, FirstWrong}
use Rattle.rdm_fixture.specs.Lists.{entries}
use Rattle.rdm_fixture.proofs.OneFixture.{one_list, one_parameter, one_choice_name, one_locks}
use Rattle.rdm_fixture_keys.proofs.Parts.{exit, among}
use Rattle.rdm_fixture_keys.proofs.Readings.{Reads-err}
use Rattle.rdm_fixture.proofs.profile.added.additions.Goals as goal

abbrev own_parts : List Part
own_parts = entries (codes "parameter") IsParameter (FirstWrong parameter_parts) 0 32 ∷ ascending ∷ []

abbrev names_parts : List Part
names_parts = entries (codes "choice") IsChoice (FirstWrong choice_parts) 0 64 ∷ agreeing ∷ (lock_parts ++ (stated ∷ []))

pub returns-in_err-own-clause-read : goal.returns-in_err-own-clause-read
returns-in_err-own-clause-read c = Reads-err (λ t a. AreAdded t a.own.items a.choices.items × AllPairs (λ x y. x.pid < y.pid) a.own.items × Agree a.own.items a.choices.items × AreLocks t a.locks.items × HaveStates a.own.items a.locks.items) _ _ c.from_residual.ensures.0 (λ a h. c.in_err-own.ensures.read a.own (h.0.0, h.1))

pub returns-in_err-own-clause-wrong : goal.returns-in_err-own-clause-wrong
returns-in_err-own-clause-wrong c =
    exit (FirstWrong added_parts (table_view c.args.table.now)) _ _ c.from_residual.ensures.1
    (among own_parts names_parts (table_view c.args.table.now) _ c.in_err-own.ensures.wrong)

pub returns-in_err-choices-clause-read : goal.returns-in_err-choices-clause-read
returns-in_err-choices-clause-read c = Reads-err (λ t a. AreAdded t a.own.items a.choices.items × AllPairs (λ x y. x.pid < y.pid) a.own.items × Agree a.own.items a.choices.items × AreLocks t a.locks.items × HaveStates a.own.items a.locks.items) _ _ c.from_residual-in_err-choices.ensures.0 (λ a h. c.in_err-choices.ensures.read a.choices h.0.1)

pub returns-in_err-choices-clause-wrong : goal.returns-in_err-choices-clause-wrong
returns-in_err-choices-clause-wrong c =
    exit (FirstWrong added_parts (table_view c.args.table.now)) _ _ c.from_residual-in_err-choices.ensures.1
    (inr ((_, c.in_ok-own.ensures.read.0), inr ((_, c.in_ok-own.ensures.read), inl c.in_err-choices.ensures.wrong)))

-- whether those that were read agree
same_agree : (own more : List ParameterDef) (cs ds : List ChoiceName) → own ≡ more → cs ≡ ds → Agree own cs → Agree more ds
same_agree own more cs ds e f h = subst (Agree more) f (subst (λ (xs : List ParameterDef). Agree xs cs) e h)

pub returns-then-not-agree-clause-read : goal.returns-then-not-agree-clause-read
returns-then-not-agree-clause-read c = λ a h.
    let own : a.own.items ≡ c.as_slice.result.now =
    one_list _ _ IsParameter 0 32 _ _ one_parameter h.0.0 c.in_ok-own.ensures.read.0 ∙ sym c.as_slice.ensures.value in
    let choices : a.choices.items ≡ c.as_slice-2.result.now =
    one_list _ _ IsChoice 0 64 _ _ one_choice_name h.0.1 c.in_ok-choices.ensures.read ∙ sym c.as_slice-2.ensures.value in
    absurd (false≢true (sym c.if-not-agree.true ∙ c.agree.ensures.1 (same_agree _ _ _ _ own choices h.2)))

pub returns-then-not-agree-clause-wrong : goal.returns-then-not-agree-clause-wrong
returns-then-not-agree-clause-wrong c =
    let own = c.in_ok-own.ensures.read in
    let choices = c.in_ok-choices.ensures.read in
    inr (
      (_, own.0),
      inr (
        (_, own),
        inr (
          (_, choices),
          inl (
            c.in_ok-own.own.items,
            c.in_ok-choices.choices.items,
            (own.0, choices),
            (λ h. false≢true (sym c.if-not-agree.true ∙ c.agree.ensures.1 (same_agree _ _ _ _ (sym c.as_slice.ensures.value) (sym c.as_slice-2.ensures.value) h))),
            c.at.ensures,
          ),
        ),
      ),
    )

-- those that were read agree
pub returns-in_err-locks-clause-read : goal.returns-in_err-locks-clause-read
returns-in_err-locks-clause-read c = Reads-err (λ t a. AreAdded t a.own.items a.choices.items × AllPairs (λ x y. x.pid < y.pid) a.own.items × Agree a.own.items a.choices.items × AreLocks t a.locks.items × HaveStates a.own.items a.locks.items) _ _ c.from_residual-in_err-locks.ensures.0 (λ a h. c.in_err-locks.ensures.read a.locks h.3)

pub returns-in_err-locks-clause-wrong : goal.returns-in_err-locks-clause-wrong
returns-in_err-locks-clause-wrong c =
    let own = c.in_ok-own.ensures.read in
    let choices = c.in_ok-choices.ensures.read in
    let agreed : Agree c.in_ok-own.own.items c.in_ok-choices.choices.items = same_agree _ _ _ _ c.as_slice.ensures.value c.as_slice-2.ensures.value (c.agree.ensures.0 c.if-not-agree.false) in
    exit (FirstWrong added_parts (table_view c.args.table.now)) _ _ c.from_residual-in_err-locks.ensures.1
    (inr ((_, own.0), inr ((_, own), inr ((_, choices), inr (((c.in_ok-own.own.items, c.in_ok-choices.choices.items), ((own.0, choices), agreed)), among lock_parts (stated ∷ []) (table_view c.args.table.now) _ c.in_err-locks.ensures.wrong)))))

-- whether LOCK_STATE has the states that were read
same_states : (own more : List ParameterDef) (ls ks : List Lock) → own ≡ more → ls ≡ ks → HaveStates own ls → HaveStates more ks
same_states own more ls ks e f h = subst (HaveStates more) f (subst (λ (xs : List ParameterDef). HaveStates xs ls) e h)

pub returns-then-not-have_states-clause-read : goal.returns-then-not-have_states-clause-read
returns-then-not-have_states-clause-read c = λ a h.
    let own : a.own.items ≡ c.as_slice-3.result.now =
    one_list _ _ IsParameter 0 32 _ _ one_parameter h.0.0 c.in_ok-own.ensures.read.0 ∙ sym c.as_slice-3.ensures.value in
    let locks : a.locks.items ≡ c.as_slice-4.result.now = one_locks _ _ _ h.3 c.in_ok-locks.ensures.read ∙ sym c.as_slice-4.ensures.value in
    absurd (false≢true (sym c.if-not-have_states.true ∙ c.have_states.ensures.1 (same_states _ _ _ _ own locks h.4)))

pub returns-then-not-have_states-clause-wrong : goal.returns-then-not-have_states-clause-wrong
returns-then-not-have_states-clause-wrong c =
    let own = c.in_ok-own.ensures.read in
    let choices = c.in_ok-choices.ensures.read in
    let locks = c.in_ok-locks.ensures.read in
    let agreed : Agree c.in_ok-own.own.items c.in_ok-choices.choices.items = same_agree _ _ _ _ c.as_slice.ensures.value c.as_slice-2.ensures.value (c.agree.ensures.0 c.if-not-agree.false) in
    let broken : ¬ HaveStates c.in_ok-own.own.items c.in_ok-locks.locks.items =
    λ h. false≢true (sym c.if-not-have_states.true ∙ c.have_states.ensures.1 (same_states _ _ _ _ (sym c.as_slice-3.ensures.value) (sym c.as_slice-4.ensures.value) h)) in
    inr (
      (_, own.0),
      inr (
        (_, own),
        inr (
          (_, choices),
          inr (
            ((c.in_ok-own.own.items, c.in_ok-choices.choices.items), ((own.0, choices), agreed)),
            inr ((_, locks.tables), inr ((_, locks), inl (c.in_ok-own.own.items, c.in_ok-locks.locks.items, (own.0, locks), broken, c.at-then-not-have_states.ensures))),
          ),
        ),
      ),
    )

pub returns-clause-read : goal.returns-clause-read
returns-clause-read c = (
  (c.in_ok-own.ensures.read.0, c.in_ok-choices.ensures.read),
  c.in_ok-own.ensures.read.1,
  same_agree _ _ _ _ c.as_slice.ensures.value c.as_slice-2.ensures.value (c.agree.ensures.0 c.if-not-agree.false),
  c.in_ok-locks.ensures.read,
  same_states _ _ _ _ c.as_slice-3.ensures.value c.as_slice-4.ensures.value (c.have_states.ensures.0 c.if-not-have_states.false),
)
