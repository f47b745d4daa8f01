-- There is room for the steps of each line of a text.
use Rattle.std.proofs.Common.{◌≡◌, ℕ, ◌+◌, ◌*◌, ◌<◌, ◌≤◌, Bool, true, List, refl, arith}
use Rattle.rdm_frame.specs.declared.uid.Uid.{Uid}
use Rattle.rdm_script.specs.Dialects.{Dialect}
use Rattle.rdm_script.specs.declared.dialect.Spelling.{Spelling}
use Rattle.rdm_script.specs.declared.dialect.Spelling.TheVariants.{Strict, Friendly}
use Rattle.rdm_script.specs.declared.grammar.line.Line.TheVariants.{Finds}
use Rattle.rdm_script.specs.Grammar.{is_find, line_at}
use Rattle.rdm_script.specs.Search.{most_steps}
use Rattle.rdm_script.proofs.LineSpellings.{search_is_find}

-- for those of the line at this index
pub room_here : (k : Spelling) (i count len room : ℕ) → i < count → len ≤ i * most_steps k → count * most_steps k ≤ room → len + most_steps k ≤ room
room_here Strict i count len room lt taken there = omega arith
room_here Friendly i count len room lt taken there = omega arith

-- and for those behind it
pub room_taken : (k : Spelling) (i old new : ℕ) → new ≤ old + most_steps k → old ≤ i * most_steps k → new ≤ (i + 1) * most_steps k
room_taken Strict i old new more taken = omega arith
room_taken Friendly i old new more taken = omega arith

-- a step fits into it
pub one_fits : (k : Spelling) → 1 ≤ most_steps k
one_fits Strict = omega arith
one_fits Friendly = omega arith

-- and a search
search_room : (k : Spelling) (words : List (List ℕ)) → is_find k words ≡ true → most_steps k ≡ 4
search_room Strict words e = absurd cc
search_room Friendly words e = refl

pub search_fits : (dev : Dialect) (begun : Bool) (words : List (List ℕ)) (u : Uid) → line_at dev begun words ≡ Finds u → most_steps dev.spelling ≡ 4
search_fits dev begun words u e = search_room dev.spelling words (search_is_find dev begun words u e)
