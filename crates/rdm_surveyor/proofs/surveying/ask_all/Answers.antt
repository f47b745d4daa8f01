use Rattle.std.proofs.Common.{◌∙◌, true, ℕ, Bool, refl, subst}
use Rattle.rdm_surveyor.specs.Asking.{Ends, ends}
use Rattle.rdm_surveyor.specs.Surveys.{TellSubs, TellsFirst, TellsTexts}
use Rattle.rdm_surveyor.proofs.surveying.ask_all.Goals as goal

pub returns-in_err-statuses-clause-tried : goal.returns-in_err-statuses-clause-tried
returns-in_err-statuses-clause-tried g c = λ start got.
    c.fetch.ensures.tried start (c.in_ok-texts.ensures.got start (c.in_ok-first.ensures.got start got))

pub returns-in_err-ask_subs-clause-tried : goal.returns-in_err-ask_subs-clause-tried
returns-in_err-ask_subs-clause-tried g c = λ start got.
    c.ask_subs.ensures.tried start (c.in_ok-statuses.ensures.got start (c.in_ok-texts.ensures.got start (c.in_ok-first.ensures.got start got)))

pub returns-clause-tried : goal.returns-clause-tried
returns-clause-tried g c = λ start got.
    c.ask_subs.ensures.tried start (c.in_ok-statuses.ensures.got start (c.in_ok-texts.ensures.got start (c.in_ok-first.ensures.got start got)))

pub returns-clause-got : goal.returns-clause-got
returns-clause-got g c = λ start got.
    c.in_ok-ask_subs.ensures.got start (c.in_ok-statuses.ensures.got start (c.in_ok-texts.ensures.got start (c.in_ok-first.ensures.got start got)))

pub returns-clause-told : goal.returns-clause-told
returns-clause-told g c =
    let first_is = c.ask_first.ensures.same ∙ c.new-asker.ensures in
    let texts_is = c.ask_texts.ensures.same ∙ first_is in
    record {
      behind_first = c.ask_first.new.port;
      answers = true;
      uid = refl;
      first =
          subst (λ (b : Bool). TellsFirst g.P.Port.hears (ends c.args.console c.args.uid) c.args.port.now c.in_ok-first.first.device c.in_ok-first.first.manufacturer b c.ask_first.new.port)
          c.if-not-first.false
          (subst (λ (e : Ends). TellsFirst g.P.Port.hears e c.args.port.now c.in_ok-first.first.device c.in_ok-first.first.manufacturer c.in_ok-first.first.answers c.ask_first.new.port)
          c.new-asker.ensures c.in_ok-first.ensures.told);
      rest = record {
        behind_texts = c.ask_texts.new.port;
        behind_status = c.fetch.new.port;
        texts =
            subst (λ (e : Ends). TellsTexts g.P.Port.hears e c.in_ok-first.first.device c.ask_first.new.port c.in_ok-texts.texts c.ask_texts.new.port) first_is
            c.in_ok-texts.ensures.told;
        status = c.in_ok-statuses.ensures.told;
        sub_devices =
            subst (λ (n : ℕ). TellSubs g.P.Port.hears (ends c.args.console c.args.uid) n c.fetch.new.port c.ask_subs.new.told.items c.ask_subs.new.port) c.subs_of-count.ensures
            (subst (λ (e : Ends). TellSubs g.P.Port.hears e c.subs_of-count.result c.fetch.new.port c.ask_subs.new.told.items c.ask_subs.new.port) texts_is
            c.in_ok-ask_subs.ensures.told);
      };
    }
