use Rattle.std.proofs.Common.{ℕ, List, ap, subst, ◌∙◌, arith}
use Rattle.rdm_script.specs.Dialects.{Dialect}
use Rattle.rdm_script.specs.Grammar.{destination_in, sub_in, pid_in, load_in, word}
use Rattle.rdm_script.specs.WrongWords.{AreFault, IsFirstWrong}
use Rattle.rdm_script.proofs.Words.{bytes_of}
use Rattle.rdm_script.proofs.Tests.{none_at, some_at, few_words, many_words}
use Rattle.rdm_script.proofs.WrongWords.{wrong_destination, wrong_sub, wrong_pid, no_load, wrong_load, wrong_behind, command_ends}
use Rattle.rdm_script.proofs.grammar.wrong.wrong_in_command.Goals as goal

pub returns-then-is_none-clause-told : goal.returns-then-is_none-clause-told
returns-then-is_none-clause-told c begun =
    let ws = bytes_of c.args.words.now in
    let d = c.args.dialect.now in
    let destination = c.destination_in.ensures ∙ ap (destination_in c.dialect.inside.device) c.text_at.ensures ∙ ap (λ (x : Dialect). destination_in x.device (word ws 1)) c.dialect.view_is in
    rw c.wrong.ensures (wrong_destination d begun ws c.requires (none_at _ _ _ c.is_none.ensures c.if-is_none.true destination))

pub returns-then-is_none-2-clause-told : goal.returns-then-is_none-2-clause-told
returns-then-is_none-2-clause-told c begun =
    let ws = bytes_of c.args.words.now in
    let d = c.args.dialect.now in
    let destination = c.destination_in.ensures ∙ ap (destination_in c.dialect.inside.device) c.text_at.ensures ∙ ap (λ (x : Dialect). destination_in x.device (word ws 1)) c.dialect.view_is in
    let sub = c.sub_in.ensures ∙ ap (sub_in c.dialect.inside.spelling) c.text_at-2.ensures ∙ ap (λ (x : Dialect). sub_in x.spelling (word ws 2)) c.dialect.view_is in
    let u = some_at _ _ _ c.is_none.ensures c.if-is_none.false destination in
    rw c.wrong-then-is_none-2.ensures (wrong_sub d begun ws c.requires u (none_at _ _ _ c.is_none-2.ensures c.if-is_none-2.true sub))

pub returns-then-is_none-3-clause-told : goal.returns-then-is_none-3-clause-told
returns-then-is_none-3-clause-told c begun =
    let ws = bytes_of c.args.words.now in
    let d = c.args.dialect.now in
    let destination = c.destination_in.ensures ∙ ap (destination_in c.dialect.inside.device) c.text_at.ensures ∙ ap (λ (x : Dialect). destination_in x.device (word ws 1)) c.dialect.view_is in
    let sub = c.sub_in.ensures ∙ ap (sub_in c.dialect.inside.spelling) c.text_at-2.ensures ∙ ap (λ (x : Dialect). sub_in x.spelling (word ws 2)) c.dialect.view_is in
    let pid = c.pid_in.ensures ∙ ap (pid_in c.dialect.inside.spelling c.dialect.inside.own.now) c.text_at-parameter.ensures ∙ ap (λ (x : Dialect). pid_in x.spelling x.own (word ws 3)) c.dialect.view_is in
    let u = some_at _ _ _ c.is_none.ensures c.if-is_none.false destination in
    let s = some_at _ _ _ c.is_none-2.ensures c.if-is_none-2.false sub in
    rw c.wrong-then-is_none-3.ensures (wrong_pid d begun ws c.requires u s (none_at _ _ _ c.is_none-3.ensures c.if-is_none-3.true pid))

pub returns-then-words-le4-clause-told : goal.returns-then-words-le4-clause-told
returns-then-words-le4-clause-told c begun =
    let ws = bytes_of c.args.words.now in
    let d = c.args.dialect.now in
    let destination = c.destination_in.ensures ∙ ap (destination_in c.dialect.inside.device) c.text_at.ensures ∙ ap (λ (x : Dialect). destination_in x.device (word ws 1)) c.dialect.view_is in
    let sub = c.sub_in.ensures ∙ ap (sub_in c.dialect.inside.spelling) c.text_at-2.ensures ∙ ap (λ (x : Dialect). sub_in x.spelling (word ws 2)) c.dialect.view_is in
    let pid = c.pid_in.ensures ∙ ap (pid_in c.dialect.inside.spelling c.dialect.inside.own.now) c.text_at-parameter.ensures ∙ ap (λ (x : Dialect). pid_in x.spelling x.own (word ws 3)) c.dialect.view_is in
    let u = some_at _ _ _ c.is_none.ensures c.if-is_none.false destination in
    let s = some_at _ _ _ c.is_none-2.ensures c.if-is_none-2.false sub in
    let p = some_at _ _ _ c.is_none-3.ensures c.if-is_none-3.false pid in
    rw c.wrong-then-words-le4.ensures (no_load d begun ws (few_words c.args.words.now 4 (grind arith)) c.requires u s p)

pub returns-then-is_none-4-clause-told : goal.returns-then-is_none-4-clause-told
returns-then-is_none-4-clause-told c begun =
    let ws = bytes_of c.args.words.now in
    let d = c.args.dialect.now in
    let destination = c.destination_in.ensures ∙ ap (destination_in c.dialect.inside.device) c.text_at.ensures ∙ ap (λ (x : Dialect). destination_in x.device (word ws 1)) c.dialect.view_is in
    let sub = c.sub_in.ensures ∙ ap (sub_in c.dialect.inside.spelling) c.text_at-2.ensures ∙ ap (λ (x : Dialect). sub_in x.spelling (word ws 2)) c.dialect.view_is in
    let pid = c.pid_in.ensures ∙ ap (pid_in c.dialect.inside.spelling c.dialect.inside.own.now) c.text_at-parameter.ensures ∙ ap (λ (x : Dialect). pid_in x.spelling x.own (word ws 3)) c.dialect.view_is in
    let load = c.load_in.ensures ∙ ap (load_in c.dialect.inside.spelling) c.text_at-load.ensures ∙ ap (λ (x : Dialect). load_in x.spelling (word ws 4)) c.dialect.view_is in
    let u = some_at _ _ _ c.is_none.ensures c.if-is_none.false destination in
    let s = some_at _ _ _ c.is_none-2.ensures c.if-is_none-2.false sub in
    let p = some_at _ _ _ c.is_none-3.ensures c.if-is_none-3.false pid in
    let many = many_words c.args.words.now 4 (grind arith) in
    rw c.wrong-then-is_none-4.ensures (wrong_load d begun ws many c.requires u s p (none_at _ _ _ c.is_none-4.ensures c.if-is_none-4.true load))

pub returns-in-Some-clause-told : goal.returns-in-Some-clause-told
returns-in-Some-clause-told c begun =
    let ws = bytes_of c.args.words.now in
    let d = c.args.dialect.now in
    let destination = c.destination_in.ensures ∙ ap (destination_in c.dialect.inside.device) c.text_at.ensures ∙ ap (λ (x : Dialect). destination_in x.device (word ws 1)) c.dialect.view_is in
    let sub = c.sub_in.ensures ∙ ap (sub_in c.dialect.inside.spelling) c.text_at-2.ensures ∙ ap (λ (x : Dialect). sub_in x.spelling (word ws 2)) c.dialect.view_is in
    let pid = c.pid_in.ensures ∙ ap (pid_in c.dialect.inside.spelling c.dialect.inside.own.now) c.text_at-parameter.ensures ∙ ap (λ (x : Dialect). pid_in x.spelling x.own (word ws 3)) c.dialect.view_is in
    let load = c.load_in.ensures ∙ ap (load_in c.dialect.inside.spelling) c.text_at-load.ensures ∙ ap (λ (x : Dialect). load_in x.spelling (word ws 4)) c.dialect.view_is in
    let u = some_at _ _ _ c.is_none.ensures c.if-is_none.false destination in
    let s = some_at _ _ _ c.is_none-2.ensures c.if-is_none-2.false sub in
    let p = some_at _ _ _ c.is_none-3.ensures c.if-is_none-3.false pid in
    let l = some_at _ _ _ c.is_none-4.ensures c.if-is_none-4.false load in
    let many = many_words c.args.words.now 4 (grind arith) in
    rw c.wrong-in-Some.ensures (wrong_behind d begun ws _ many c.requires u s p l (subst (λ (fs : List (List ℕ)). IsFirstWrong AreFault fs c.in-Some.word.index) c.words_from.ensures c.in-Some.ensures.told))

pub returns-in-None-clause-told : goal.returns-in-None-clause-told
returns-in-None-clause-told c begun =
    let ws = bytes_of c.args.words.now in
    let d = c.args.dialect.now in
    let destination = c.destination_in.ensures ∙ ap (destination_in c.dialect.inside.device) c.text_at.ensures ∙ ap (λ (x : Dialect). destination_in x.device (word ws 1)) c.dialect.view_is in
    let sub = c.sub_in.ensures ∙ ap (sub_in c.dialect.inside.spelling) c.text_at-2.ensures ∙ ap (λ (x : Dialect). sub_in x.spelling (word ws 2)) c.dialect.view_is in
    let pid = c.pid_in.ensures ∙ ap (pid_in c.dialect.inside.spelling c.dialect.inside.own.now) c.text_at-parameter.ensures ∙ ap (λ (x : Dialect). pid_in x.spelling x.own (word ws 3)) c.dialect.view_is in
    let load = c.load_in.ensures ∙ ap (load_in c.dialect.inside.spelling) c.text_at-load.ensures ∙ ap (λ (x : Dialect). load_in x.spelling (word ws 4)) c.dialect.view_is in
    let u = some_at _ _ _ c.is_none.ensures c.if-is_none.false destination in
    let s = some_at _ _ _ c.is_none-2.ensures c.if-is_none-2.false sub in
    let p = some_at _ _ _ c.is_none-3.ensures c.if-is_none-3.false pid in
    let l = some_at _ _ _ c.is_none-4.ensures c.if-is_none-4.false load in
    let many = many_words c.args.words.now 4 (grind arith) in
    command_ends d begun ws many c.requires u s p l (subst AreFault c.words_from.ensures c.in-None.ensures.told)
