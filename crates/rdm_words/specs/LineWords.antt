-- How the words of a recorded message and of a change at the fixture's menu are put together.
use Rattle.std.specs.Prelude.{ℕ, Bool, List, [], ◌++◌, Option, codes, decimal, if◌then◌else◌}
use Rattle.rdm_commands.specs.declared.panel.Change.{Change}
use Rattle.rdm_commands.specs.declared.panel.Change.TheVariants.{Start, Personality, Label}
use Rattle.rdm_words.specs.HeaderWords.{class_words, parameter_words, place_words, quoted}

unfoldable pub heading_words : ℕ → ℕ → ℕ → Option (List ℕ) → List ℕ
heading_words class pid sub own =
    codes "recorded: " ++ (class_words class ++ (codes " " ++ (parameter_words pid own ++ (codes ", " ++ place_words sub))))

abbrev pub change_words : Change → List ℕ
change_words (Start start) = codes "DMX start address " ++ decimal start
change_words (Personality number) = codes "personality " ++ decimal number
change_words (Label label) = codes "device label " ++ quoted label

abbrev pub refused_words : Bool → List ℕ
refused_words refused = if refused then codes ", refused" else []

abbrev pub panel_words : Change → Bool → List ℕ
panel_words change refused = codes "at the fixture's menu: " ++ (change_words change ++ refused_words refused)
