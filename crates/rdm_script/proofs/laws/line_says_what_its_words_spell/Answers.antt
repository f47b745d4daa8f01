use Rattle.std.proofs.Common.{ap, sym, ◌∙◌}
use Rattle.rdm_frame.specs.declared.uid.Uid.{Uid}
use Rattle.rdm_script.specs.declared.grammar.line.Line.TheVariants.{Finds}
use Rattle.rdm_script.proofs.LineSpellings.{line_read, line_again, finds_read, finds_again, first_read, first_says, first_found, first_finds, sets_read, first_sets}
use Rattle.rdm_script.proofs.laws.line_says_what_its_words_spell.Goals as goal

pub returns-clause-step : goal.returns-clause-step
returns-clause-step c = λ dev words step. (line_read dev words step, λ s. line_again dev words step s.0 s.1)

pub returns-clause-first_step : goal.returns-clause-first_step
returns-clause-first_step c = λ dev words step. (first_read dev words step, λ s. first_says dev words step s.0 s.1)

pub returns-clause-search : goal.returns-clause-search
returns-clause-search c = λ dev words device. (finds_read dev words device, λ s. finds_again dev words s.0 ∙ ap (λ (u : Uid). Finds u) (sym s.1))

pub returns-clause-first_search : goal.returns-clause-first_search
returns-clause-first_search c = λ dev words device. (first_found dev words device, λ s. first_finds dev words s.0 ∙ ap (λ (u : Uid). Finds u) (sym s.1))

pub returns-clause-setup : goal.returns-clause-setup
returns-clause-setup c = λ dev words setup. (sets_read dev words setup, first_sets dev words setup)
