use Rattle.std.proofs.Common.{◌≡◌, ◌++◌, IsUtf8, chars, flat_map, string_bytes}
use Rattle.std.specs.Str.Iter.{chars_rest}
use Rattle.rdm_markup.specs.Markup.{in_markup}
use Rattle.rdm_markup.proofs.escaping.put_escaped.Given as goal

abbrev pub invariant-loop-c : goal.invariant-loop-c
invariant-loop-c l = IsUtf8 (chars_rest l.c-iterator)
    × (string_bytes l.markup ++ flat_map (in_markup l.fn.place) (chars (chars_rest l.c-iterator)) ≡ string_bytes l.fn.markup ++ flat_map (in_markup l.fn.place) (chars l.fn.text))
