-- A block that starts at an address is told there.
use Rattle.std.proofs.Common.{◌≡◌, ℕ, ◌+◌, ◌-◌, ◌^◌, ◌<◌, ◌≤◌, ◌==◌, ◌&&◌, ◌||◌, not, Bool, true, false, cond, List, [], ◌∷◌, ◌++◌, Option, Some, refl, sym, ap, subst, ◌∙◌, arith}
use Rattle.std.specs.Prelude.{find, min, nat_le, is_some, slice_get, slice_index}
use Rattle.std.specs.Int.{w16, from_be_bytes}
use Rattle.std.specs.List.{list_all}
use Rattle.std.specs.Option.{option_map, option_map_or}
use Rattle.std.proofs.Math.Nat.{min-eq_left}
use Rattle.std.proofs.lemmas.Bool.{eq-eqb, eqb-true, leb-true}
use Rattle.std.proofs.lemmas.List.Sums.{sum_by-cons}
use Rattle.std.proofs.lemmas.Nat.{from_be_bytes-to_be_bytes_2}
use Rattle.rdm_profile.specs.declared.profile.Profile.{Profile}
use Rattle.rdm_profile.specs.declared.value.Value.TheVariants.{Word}
use Rattle.rdm_device.specs.Columns.Changes.{stored_at}
use Rattle.rdm_profile.specs.Forms.{word}
use Rattle.rdm_device.specs.Device.Blocks.{sub_devices, has_slots, total, start_in, follow, base_if, base_address, started, started_from, keeps_start, BlockIsTold}
use Rattle.rdm_added.specs.Map.{Entry, has_key, lookup, update}
use Rattle.rdm_profile.specs.Modes.{with_modes}
use Rattle.rdm_added.specs.Spot.{Spot, sub_device, footprint}
use Rattle.rdm_profile.specs.Values.{word_slots}

never : false ≡ true → ⊥
never e = cc

both : (a b : Bool) → (a && b) ≡ true → (a ≡ true) × (b ≡ true)
both true b e = (refl, e)
both false b e = absurd (never e)

-- ---- what one device keeps

one_kept : (here there first : Bool) (x y rest rest' : List ℕ) → (here ≡ true → there ≡ false) → rest' ≡ rest → cond (here && first) (cond ((there && first) && true) x y) rest' ≡ cond (here && first) y rest
one_kept true true first x y rest rest' apart e = absurd (never (sym (apart refl)))
one_kept true false true x y rest rest' apart e = refl
one_kept true false false x y rest rest' apart e = e
one_kept false there first x y rest rest' apart e = e

not_both_keys : (n : ℕ) → (n == 0x00E0) ≡ true → (n == 0x00F0) ≡ false
not_both_keys n e = subst (λ (k : ℕ). (k == 0x00F0) ≡ false) (sym (eqb-true n 0x00E0 e)) refl

same_personality : (spot : Spot) (base : ℕ) (es : List Entry) → lookup (update (stored_at 0x00F0 word spot (Word base)) es) 0x00E0 0 ≡ lookup es 0x00E0 0
same_personality spot base [] = refl
same_personality spot base (e ∷ es) =
    one_kept (e.pid == 0x00E0) (e.pid == 0x00F0) (e.index == 0) (word_slots base) e.bytes (lookup es 0x00E0 0) (lookup (update (stored_at 0x00F0 word spot (Word base)) es) 0x00E0 0) (not_both_keys e.pid) (same_personality spot base es)

one_new : (here : Bool) (x : Entry) (new rest : List ℕ) (later : Option Entry) → is_some (option_map (λ (e : Entry). e.bytes) (cond here (Some x) later)) ≡ true → (is_some (option_map (λ (e : Entry). e.bytes) later) ≡ true → rest ≡ new) → cond here (cond (here && true) new x.bytes) rest ≡ new
one_new true x new rest later e behind = refl
one_new false x new rest later e behind = behind e

new_start : (spot : Spot) (base : ℕ) (es : List Entry) → keeps_start es ≡ true → lookup (update (stored_at 0x00F0 word spot (Word base)) es) 0x00F0 0 ≡ word_slots base
new_start spot base [] e = absurd (never e)
new_start spot base (x ∷ es) e =
    one_new (has_key 0x00F0 0 x) x (word_slots base) (lookup (update (stored_at 0x00F0 word spot (Word base)) es) 0x00F0 0) (find (has_key 0x00F0 0) es) e (new_start spot base es)

slots_by : Profile → List ℕ → ℕ
slots_by profile bytes = option_map_or (λ m. m.footprint) (slice_get (with_modes profile.sub []) (slice_index bytes 0 - 1)) 0

either_slots : (profile : Profile) (spot : Spot) (base : ℕ) (es : List Entry) (none : Bool) → footprint (sub_device profile (cond none es (update (stored_at 0x00F0 word spot (Word base)) es))) ≡ footprint (sub_device profile es)
unfolding slots_by
either_slots profile spot base es true = refl
either_slots profile spot base es false = ap (slots_by profile) (same_personality spot base es)

-- a device that starts elsewhere uses as many slots
same_slots : (profile : Profile) (base : ℕ) (es : List Entry) → footprint (sub_device profile (started base (sub_device profile es))) ≡ footprint (sub_device profile es)
same_slots profile base es = either_slots profile (sub_device profile es) base es (footprint (sub_device profile es) == 0)

-- and starts there, if it uses some
starts_there : (profile : Profile) (base : ℕ) (es : List Entry) → keeps_start es ≡ true → base ≤ 513 → (footprint (sub_device profile es) == 0) ≡ false → start_in (started base (sub_device profile es)) ≡ base
starts_there profile base es keeps le uses =
    let spot : Spot = sub_device profile es in
    let small : base < 2 ^ 16 = omega (arith, le) in
    ap (λ (none : Bool). start_in (cond none es (update (stored_at 0x00F0 word spot (Word base)) es))) uses ∙ ap (from_be_bytes w16) (new_start spot base es keeps) ∙ from_be_bytes-to_be_bytes_2 base small

-- ---- all of them

abbrev moved : Profile → ℕ → List (List Entry) → List Spot
moved profile base subs = sub_devices profile (started_from base (sub_devices profile subs))

more : (profile : Profile) (es : List Entry) (subs : List (List Entry)) → total (sub_devices profile (es ∷ subs)) ≡ footprint (sub_device profile es) + total (sub_devices profile subs)
more profile es subs = sum_by-cons footprint (sub_device profile es) (sub_devices profile subs)

same_total : (profile : Profile) (base : ℕ) (subs : List (List Entry)) → total (moved profile base subs) ≡ total (sub_devices profile subs)
same_total profile base [] = refl
same_total profile base (es ∷ subs) =
    let next : ℕ = base + footprint (sub_device profile es) in
    sum_by-cons footprint (sub_device profile (started base (sub_device profile es))) (moved profile next subs)
    ∙ ap (λ (n : ℕ). n + total (moved profile next subs)) (same_slots profile base es)
    ∙ ap (λ (n : ℕ). footprint (sub_device profile es) + n) (same_total profile next subs)
    ∙ sym (more profile es subs)

and_true : (a b : Bool) → a ≡ true → b ≡ true → (a && b) ≡ true
and_true true b e f = f
and_true false b e f = absurd (never e)

same_number : (n : ℕ) → (n == n) ≡ true
same_number n = eq-eqb n n refl

one_follows : (profile : Profile) (base : ℕ) (es : List Entry) (none : Bool) → (footprint (sub_device profile es) == 0) ≡ none → keeps_start es ≡ true → base ≤ 513 → (none || (start_in (started base (sub_device profile es)) == base)) ≡ true
one_follows profile base es true uses keeps le = refl
one_follows profile base es false uses keeps le = ap (λ (n : ℕ). n == base) (starts_there profile base es keeps le uses) ∙ same_number base

all_follow : (profile : Profile) (base : ℕ) (subs : List (List Entry)) → list_all keeps_start subs ≡ true → base + total (sub_devices profile subs) ≤ 513 → follow base (moved profile base subs) ≡ true
all_follow profile base [] keeps le = refl
all_follow profile base (es ∷ subs) keeps le =
    let here : Spot = sub_device profile es in
    let new : Spot = sub_device profile (started base here) in
    let kept = both (keeps_start es) (list_all keeps_start subs) keeps in
    let room : (base + footprint here) + total (sub_devices profile subs) ≤ 513 = omega (arith, le, more profile es subs) in
    let within : base ≤ 513 = omega (arith, room) in
    let first : ((footprint new == 0) || (start_in new.entries == base)) ≡ true =
    ap (λ (n : ℕ). (n == 0) || (start_in new.entries == base)) (same_slots profile base es) ∙ one_follows profile base es (footprint here == 0) refl kept.0 within
    in
    let rest : follow (base + footprint new) (moved profile (base + footprint here) subs) ≡ true =
    ap (λ (n : ℕ). follow (base + n) (moved profile (base + footprint here) subs)) (same_slots profile base es) ∙ all_follow profile (base + footprint here) subs kept.1 room
    in
    and_true ((footprint new == 0) || (start_in new.entries == base)) (follow (base + footprint new) (moved profile (base + footprint here) subs)) first rest

abbrev first_start : (ℕ → ℕ) → List Spot → ℕ
first_start f spots = option_map_or (λ spot. f (start_in spot.entries)) (find has_slots spots) 0xFFFF

one_found : (profile : Profile) (base : ℕ) (es : List Entry) (subs : List (List Entry)) (f : ℕ → ℕ) (none : Bool) → (footprint (sub_device profile es) == 0) ≡ none → keeps_start es ≡ true → base + total (sub_devices profile (es ∷ subs)) ≤ 513 → 1 ≤ total (sub_devices profile (es ∷ subs)) → (1 ≤ total (sub_devices profile subs) → first_start f (moved profile (base + footprint (sub_device profile es)) subs) ≡ f (base + footprint (sub_device profile es))) → option_map_or (λ spot. f (start_in spot.entries)) (cond (not none) (Some (sub_device profile (started base (sub_device profile es)))) (find has_slots (moved profile (base + footprint (sub_device profile es)) subs))) 0xFFFF ≡ f base
one_found profile base es subs f true uses keeps le some behind =
    let nothing : footprint (sub_device profile es) ≡ 0 = eqb-true (footprint (sub_device profile es)) 0 uses in
    let next : ℕ = base + footprint (sub_device profile es) in
    let here : next ≡ base = omega (arith, nothing) in
    behind (omega (arith, some, more profile es subs, nothing)) ∙ ap f here
one_found profile base es subs f false uses keeps le some behind =
    ap f (starts_there profile base es keeps (omega (arith, le)) uses)

-- the first that uses slots starts where the block does
found_first : (profile : Profile) (base : ℕ) (subs : List (List Entry)) (f : ℕ → ℕ) → list_all keeps_start subs ≡ true → 1 ≤ total (sub_devices profile subs) → base + total (sub_devices profile subs) ≤ 513 → first_start f (moved profile base subs) ≡ f base
found_first profile base [] f keeps some le = absurd (omega (arith, some))
found_first profile base (es ∷ subs) f keeps some le =
    let kept = both (keeps_start es) (list_all keeps_start subs) keeps in
    ap (λ (n : ℕ). option_map_or (λ spot. f (start_in spot.entries)) (cond (not (n == 0)) (Some (sub_device profile (started base (sub_device profile es)))) (find has_slots (moved profile (base + footprint (sub_device profile es)) subs))) 0xFFFF) (same_slots profile base es)
    ∙ one_found profile base es subs f (footprint (sub_device profile es) == 0) refl kept.0 le some
    (λ more_use. found_first profile (base + footprint (sub_device profile es)) subs f kept.1 more_use (omega (arith, le, more profile es subs)))

pub block_is_told : BlockIsTold
block_is_told profile subs base keeps can =
    let spots : List Spot = sub_devices profile subs in
    let new : List Spot = moved profile base subs in
    let parts = both (nat_le 1 base && nat_le 1 (total spots)) (nat_le (base + total spots) 513) can in
    let some : 1 ≤ total spots = leb-true _ _ (both (nat_le 1 base) (nat_le 1 (total spots)) parts.0).1 in
    let room : base + total spots ≤ 513 = leb-true _ _ parts.1 in
    let few : total spots ≤ 0xFFFF = omega (arith, room) in
    let slots : min (total new) 0xFFFF ≡ total spots = ap (λ (n : ℕ). min n 0xFFFF) (same_total profile base subs) ∙ min-eq_left few in
    let address : base_address new ≡ base = found_first profile base subs (λ start. base_if start new) keeps some room ∙ ap (λ (b : Bool). cond b base 0xFFFF) (all_follow profile base subs keeps room) in
    ap (λ (n : ℕ). word_slots n ++ word_slots (base_address new)) slots ∙ ap (λ (n : ℕ). word_slots (total spots) ++ word_slots n) address
