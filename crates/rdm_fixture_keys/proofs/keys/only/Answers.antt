use Rattle.std.proofs.Common.{◌≡◌, true, false, [], ◌∷◌, ◌++◌, map, string_bytes, sym, ap, ◌∙◌, append_assoc}
use Rattle.std.specs.List.{list_any}
use Rattle.std.specs.Str.{bytes_eq}
use Rattle.toml.specs.View.{members_view}
use Rattle.toml.proofs.Views.{Entry}
use Rattle.rdm_fixture_keys.specs.declared.refusal.Wanted.TheVariants as wanted
use Rattle.rdm_fixture_keys.specs.Faults.{fault}
use Rattle.rdm_fixture_keys.specs.Keys.{has_only}
use Rattle.rdm_fixture_keys.specs.Wrong.{FirstOther}
use Rattle.rdm_fixture_keys.proofs.OnlyKeys.{has_only-middle, told, and_false, other_at}
use Rattle.rdm_fixture_keys.proofs.keys.only.Goals as goal

pub returns-then-not-is_one_of-clause-variant : goal.returns-then-not-is_one_of-clause-variant
returns-then-not-is_one_of-clause-variant c =
    let keys = c.args.keys.now in
    let inv = c.loop-key.invariant in
    let done = inv.0 in
    let e : Entry = (c.in-Some.key.now, c.in-Some.field-0-1.now) in
    let left = c.next.new.self in
    let all : c.args.table.now.entries ≡ done ++ e ∷ left = inv.1 ∙ ap (λ es. done ++ es) c.in-Some.ensures.steps in
    let missed : list_any (bytes_eq (string_bytes e.0)) (map (λ k. k.now) keys) ≡ false =
    told _ _ keys _ _ c.as_str.ensures.value c.is_one_of.ensures c.if-not-is_one_of.true in
    let none : has_only (map (λ k. k.now) keys) (members_view c.args.table.now.entries) ≡ false =
    ap (λ es. has_only (map (λ k. k.now) keys) (members_view es)) all ∙ has_only-middle _ done e left ∙ and_false _ _ _ missed in
    (λ never. absurd (cc), λ h. cc)

pub loop-key-preserved : goal.loop-key-preserved
loop-key-preserved c =
    let keys = c.args.keys.now in
    let inv = c.loop-key.invariant in
    let done = inv.0 in
    let e : Entry = (c.in-Some.key.now, c.in-Some.field-0-1.now) in
    let left = c.next.new.self in
    let all : c.args.table.now.entries ≡ done ++ e ∷ left = inv.1 ∙ ap (λ es. done ++ es) c.in-Some.ensures.steps in
    let hit : list_any (bytes_eq (string_bytes e.0)) (map (λ k. k.now) keys) ≡ true =
    told _ _ keys _ _ c.as_str.ensures.value c.is_one_of.ensures c.if-not-is_one_of.false in
    (done ++ e ∷ [], all ∙ sym (append_assoc done (e ∷ []) left), has_only-middle _ done e [] ∙ rw (inv.2, hit))

-- It is the first: those before it are among the keys.
pub returns-then-not-is_one_of-clause-wrong : goal.returns-then-not-is_one_of-clause-wrong
returns-then-not-is_one_of-clause-wrong c =
    let keys = c.args.keys.now in
    let inv = c.loop-key.invariant in
    let done = inv.0 in
    let e : Entry = (c.in-Some.key.now, c.in-Some.field-0-1.now) in
    let left = c.next.new.self in
    let all : c.args.table.now.entries ≡ done ++ e ∷ left = inv.1 ∙ ap (λ es. done ++ es) c.in-Some.ensures.steps in
    let missed : list_any (bytes_eq (string_bytes e.0)) (map (λ k. k.now) keys) ≡ false =
    told _ _ keys _ _ c.as_str.ensures.value c.is_one_of.ensures c.if-not-is_one_of.true in
    let other : FirstOther (map (λ k. k.now) keys) (members_view (done ++ e ∷ left)) (string_bytes e.0) = other_at _ done e left inv.2 missed in
    let there : FirstOther (map (λ k. k.now) keys) (members_view c.args.table.now.entries) (string_bytes e.0) = rw all other in
    (string_bytes e.0, there, c.at.ensures ∙ ap (λ k. fault k wanted.NoSuchKey) c.as_str-then-not-is_one_of.ensures.value)
