use Rattle.std.proofs.Common.{◌≡◌, ◌++◌, ◌-◌, ◌≤◌, length, IsUtf8}
use Rattle.std.specs.Str.Iter.{chars_rest}
use Rattle.rdm_fixture_keys.specs.Faults.{kept}
use Rattle.rdm_fixture_keys.proofs.Names.{shown_characters}
use Rattle.rdm_fixture_keys.proofs.refusal.front_of.Given as goal

abbrev pub invariant-loop-c : goal.invariant-loop-c
invariant-loop-c l = record {
  utf8 : IsUtf8 (chars_rest l.c-iterator);
  front : l.name.bytes ++ kept (l.room - length l.name.bytes) (shown_characters (chars_rest l.c-iterator)) ≡ kept l.room (shown_characters l.key);
  fits : length l.name.bytes ≤ l.room;
}
