use Rattle.rdm_line_ends.proofs.laws.interfaces_are_ends_of_lines.Goals as goal

pub returns : goal.returns
returns g c = record { exchanged = λ before after request heard came. came.0; stays = λ before after request heard came. came.1 }
