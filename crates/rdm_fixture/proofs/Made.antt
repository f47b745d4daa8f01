-- A device can be made with each profile that a table says.
use Rattle.std.proofs.Common.{◌≡◌, ℕ, ◌+◌, ◌<◌, ◌≤◌, min, pos, negsuc, Bool, true, false, if◌then◌else◌, List, [], ◌∷◌, length, Option, Some, None, All, IsTrue, option_map, option_and_then, not, refl, sym, ap, ◌∙◌, arith, codes}
use Rattle.std.specs.Prelude.{unwrap_or}
use Rattle.std.proofs.lemmas.Bool.{and_parts, leb-true}
use Rattle.std.proofs.lemmas.Option.{same_Some}
use Rattle.std.proofs.lemmas.List.Elements.{All-cons}
use Rattle.rdm_frame.specs.declared.uid.Uid.{Uid}
use Rattle.rdm_frame.specs.Addressing.{is_broadcast}
use Rattle.rdm_frame.specs.DigitReading.{uid_in}
use Rattle.rdm_profile.specs.declared.profile.Personality.{Personality}
use Rattle.rdm_profile.specs.declared.profile.Profile.{Profile}
use Rattle.rdm_profile.specs.declared.profile.SelfTest.{SelfTest}
use Rattle.rdm_profile.specs.declared.profile.own.ParameterDef.{ParameterDef}
use Rattle.rdm_profile.specs.declared.profile.Unit.{Unit as DeviceUnit}
use Rattle.rdm_profile.specs.MuteReply.{can_bind}
use Rattle.rdm_profile.specs.OwnParameters.{is_addable, has_limits, can_start, has_good_fields}
use Rattle.rdm_profile.specs.Standards.{follows}
use Rattle.rdm_profile.specs.Profiles.{IsGoodUnit, CanOpen, CanHold, CanBeMade}
use Rattle.toml.specs.Data.{Data, string, integer, float, boolean, datetime, array, table, Items, no_items, item, Members, get_member}
use Rattle.rdm_fixture_keys.specs.Values.{number, own_uid, only_uid}
use Rattle.rdm_fixture_keys.specs.Keys.{may, must}
use Rattle.rdm_fixture.specs.Lists.{OfTable, EachIs, ListAt}
use Rattle.rdm_fixture_keys.specs.Entries.{IsPersonality, IsSelfTest}
use Rattle.rdm_fixture.specs.Format.{IsUnit, SubDevices, LanguagesAt, IsProfile, slot_count, root_slots}
use Rattle.rdm_fixture.specs.Parameters.{IsParameter}
use Rattle.rdm_fixture.proofs.ListEntries.{slot_count-of}
use Rattle.rdm_fixture.proofs.SaidParameters.{free_pid, good_limits}

-- ---- numbers

some_if : (b : Bool) (k n : ℕ) → (if b then Some k else None) ≡ Some n → (b ≡ true) × (k ≡ n)
some_if true k n h = (refl, same_Some _ _ h)
some_if false k n h = absurd (cc)

pub number_range : (least most : ℕ) (d : Data) (n : ℕ) → number least most d ≡ Some n → (least ≤ n) × (n ≤ most)
number_range least most (integer (pos k)) n h =
    let (within, same) = some_if _ k n h in
    let (low, high) = and_parts _ _ within in
    let low : least ≤ k = leb-true least k low in
    let high : k ≤ most = leb-true k most high in
    (omega (arith, low, same), omega (arith, high, same))
number_range least most (integer (negsuc k)) n h = absurd (cc)
number_range least most (string s) n h = absurd (cc)
number_range least most (float f) n h = absurd (cc)
number_range least most (boolean b) n h = absurd (cc)
number_range least most (datetime dt) n h = absurd (cc)
number_range least most (array ds) n h = absurd (cc)
number_range least most (table t) n h = absurd (cc)

may_range : (default least most : ℕ) (found : Option Data) (n : ℕ) → least ≤ default → default ≤ most
    → may default (number least most) found ≡ Some n → (least ≤ n) × (n ≤ most)
may_range default least most None n low high h = let same = same_Some _ _ h in (omega (arith, same), omega (arith, same))
may_range default least most (Some d) n low high h = number_range least most d n h

-- the greatest number of a key that may be left out
pub may_most : (default most : ℕ) (found : Option Data) (n : ℕ) → default ≤ most → may default (number 0 most) found ≡ Some n → n ≤ most
may_most default most found n high h = (may_range default 0 most found n (omega arith) high h).1

must_range : (least most : ℕ) (found : Option Data) (n : ℕ) → must (number least most) found ≡ Some n → (least ≤ n) × (n ≤ most)
must_range least most None n h = absurd (cc)
must_range least most (Some d) n h = number_range least most d n h

-- ---- lists

all_none : {A : Type 0} (Q : A → Type 0) → All Q []
all_none Q k d less = absurd (omega arith)

pub all_said : {A : Type 0} (P : Data → A → Type 0) (Q : A → Type 0) → ((d : Data) (x : A) → P d x → Q x)
    → (ds : Items) (xs : List A) → EachIs P ds xs → All Q xs
all_said P Q gives no_items [] h = all_none Q
all_said P Q gives no_items (x ∷ xs) h = absurd h
all_said P Q gives (item d ds) [] h = absurd h
all_said P Q gives (item d ds) (x ∷ xs) h = All-cons Q x xs (gives d x h.0) (all_said P Q gives ds xs h.1)

pub all_at : {A : Type 0} (P : Data → A → Type 0) (Q : A → Type 0) → ((d : Data) (x : A) → P d x → Q x)
    → (found : Option Data) (xs : List A) → ListAt P found xs → All Q xs
all_at P Q gives None xs h = rw h (all_none Q)
all_at P Q gives (Some (array ds)) xs h = all_said P Q gives ds xs h
all_at P Q gives (Some (table t)) xs h = absurd h
all_at P Q gives (Some (string s)) xs h = absurd h
all_at P Q gives (Some (integer z)) xs h = absurd h
all_at P Q gives (Some (float f)) xs h = absurd h
all_at P Q gives (Some (boolean b)) xs h = absurd h
all_at P Q gives (Some (datetime dt)) xs h = absurd h

pub of_table : {A : Type 0} (P : Members → A → Type 0) (Q : A → Type 0) → ((t : Members) (x : A) → P t x → Q x)
    → (d : Data) (x : A) → OfTable P d x → Q x
of_table P Q gives (table t) x h = gives t x h
of_table P Q gives (string s) x h = absurd h
of_table P Q gives (integer z) x h = absurd h
of_table P Q gives (float f) x h = absurd h
of_table P Q gives (boolean b) x h = absurd h
of_table P Q gives (datetime dt) x h = absurd h
of_table P Q gives (array ds) x h = absurd h

-- ---- devices

fits : (slots most : ℕ) → slots ≤ most → (t : Members) (m : Personality) → IsPersonality slots t m → m.footprint ≤ most
fits slots most less t m h = let (low, high) = must_range 0 slots (get_member (codes "dmx_footprint") t) _ h.footprint in omega (arith, high, less)

good_unit : (slots most : ℕ) (t : Members) (u : DeviceUnit) → slots ≤ most → IsUnit slots t u → IsGoodUnit u most
good_unit slots most t u less h =
    let (low, high) = may_range 1 1 512 (get_member (codes "dmx_start_address") t) _ (omega arith) (omega arith) h.start in
    let some = h.personalities.enough in
    record {
      personality = omega (arith, some);
      start_least = low;
      start_greatest = high;
      footprints = all_at _ (λ m. m.footprint ≤ most) (of_table (IsPersonality slots) _ (fits slots most less)) (get_member (codes "personality") t) _ h.personalities.items;
    }

good_sub : (slots : ℕ) (t : Members) (found : Option Data) (n : ℕ) (u : DeviceUnit) → slots ≤ 512
    → SubDevices slots t found n u → (n ≤ 512) × IsGoodUnit u 512
good_sub slots t None n u less h = let none = h.0 in (omega (arith, none), good_unit slots 512 t u less h.1)
good_sub slots t (Some (table s)) n u less h =
    let (low, high) = must_range 0 512 (get_member (codes "count") s) _ h.count in (high, good_unit 512 512 s u (omega arith) h.unit)
good_sub slots t (Some (array ds)) n u less h = absurd h
good_sub slots t (Some (string s)) n u less h = absurd h
good_sub slots t (Some (integer z)) n u less h = absurd h
good_sub slots t (Some (float f)) n u less h = absurd h
good_sub slots t (Some (boolean b)) n u less h = absurd h
good_sub slots t (Some (datetime dt)) n u less h = absurd h

some_language : (found : Option Data) (xs : List ℕ) → LanguagesAt found xs → 0 < length xs
some_language None xs h = rw h (omega arith)
some_language (Some (array ds)) xs h = let some = h.0 in omega (arith, some)
some_language (Some (table t)) xs h = absurd h
some_language (Some (string s)) xs h = absurd h
some_language (Some (integer z)) xs h = absurd h
some_language (Some (float f)) xs h = absurd h
some_language (Some (boolean b)) xs h = absurd h
some_language (Some (datetime dt)) xs h = absurd h

numbered : (t : Members) (s : SelfTest) → IsSelfTest t s → (0 < s.number) × (s.number < 255)
numbered t s h = let (low, high) = must_range 1 254 (get_member (codes "number") t) _ h.number in (omega (arith, low), omega (arith, high))

pub slots_counted : (found : Option ℕ) (described count more : ℕ) → Some more ≡ found → described ≡ count → min 512 (described + more) ≡ min 512 (count + unwrap_or found 0)
slots_counted found described count more is same =
    ap (λ (n : ℕ). min 512 (n + more)) same ∙ ap (λ (o : Option ℕ). min 512 (count + unwrap_or o 0)) is

-- a binding UID belongs to one port
bound_at : (b : Bool) (v : Uid) (o : Option Uid) → is_broadcast v ≡ b → option_map (λ u. Some u) (if b then None else Some v) ≡ Some o → IsTrue (can_bind o)
bound_at true v o is h = absurd (cc)
bound_at false v o is h = ap can_bind (sym (same_Some _ _ h)) ∙ ap not is

bound_in : (r : Option Uid) (o : Option Uid) → option_map (λ u. Some u) (option_and_then own_uid r) ≡ Some o → IsTrue (can_bind o)
bound_in None o h = absurd (cc)
bound_in (Some v) o h = bound_at (is_broadcast v) v o refl h

bound : (found : Option Data) (o : Option Uid) → may None only_uid found ≡ Some o → IsTrue (can_bind o)
bound None o h = ap can_bind (sym (same_Some _ _ h))
bound (Some (string s)) o h = bound_in (uid_in s) o h
bound (Some (integer z)) o h = absurd (cc)
bound (Some (float f)) o h = absurd (cc)
bound (Some (boolean b)) o h = absurd (cc)
bound (Some (datetime dt)) o h = absurd (cc)
bound (Some (array ds)) o h = absurd (cc)
bound (Some (table t)) o h = absurd (cc)

-- as many slots as the root can use
pub all_slots : (found : Option ℕ) (described count more : ℕ) → found ≡ Some more → described ≡ count → min 512 (described + unwrap_or found 0) ≡ min 512 (count + more)
all_slots found described count more is same = rw (is, same) refl

-- what holds of each parameter that a table says
all_parameters : (Q : ParameterDef → Type 0) → ((t : Members) (d : ParameterDef) → IsParameter t d → Q d) → (t : Members) (ds : List ParameterDef)
    → ListAt (OfTable IsParameter) (get_member (codes "parameter") t) ds → All Q ds
all_parameters Q gives t ds h = all_at _ Q (of_table IsParameter Q gives) (get_member (codes "parameter") t) ds h

pub made : (t : Members) (p : Profile) → IsProfile t p → CanOpen p.particulars.own → CanHold p.particulars.without.items p.particulars.own p.particulars.locks → CanBeMade p
made t p h opened held =
    let count : length p.slots.items ≡ slot_count (get_member (codes "slot") t) = slot_count-of _ (get_member (codes "slot") t) _ h.slots.items in
    let slots : root_slots t ≡ min 512 (length p.slots.items + p.particulars.more_slots) =
    all_slots (may 0 (number 0 512) (get_member (codes "more_slots") t)) (slot_count (get_member (codes "slot") t)) (length p.slots.items) p.particulars.more_slots h.more_slots (sym count) in
    let (subs, sub) = good_sub (root_slots t) t (get_member (codes "sub_devices") t) _ _ (omega arith) h.sub in
    let (low, high) = may_range 0 0 65534 (get_member (codes "presets") t) _ (omega arith) (omega arith) h.presets in (
      subs,
      record {
        root = good_unit (root_slots t) (min 512 (length p.slots.items + p.particulars.more_slots)) t p.root (omega (arith, slots)) h.root;
        sub = sub;
        language = some_language (get_member (codes "languages") t) _ h.languages;
        test_numbers = all_at _ (λ s. (0 < s.number) × (s.number < 255)) (of_table IsSelfTest _ numbered) (get_member (codes "self_test") t) _ h.tests.items;
        tests_differ = h.tests_differ;
        statuses_differ = h.statuses_differ;
        presets = omega (arith, high);
        own = record {
          count = h.own.fit;
          pids = (
            all_parameters (λ d. IsTrue (is_addable d.pid)) free_pid t _ h.own.items,
            λ i j d less within same. let below = h.own_ascend i j d less within in absurd (omega (arith, below, same)),
          );
          limits = all_parameters (λ d. IsTrue (has_limits d.shape d.low d.high)) good_limits t _ h.own.items;
          starts = all_parameters (λ d. IsTrue (can_start d)) (λ s d said. said.start) t _ h.own.items;
          ascending = h.own_ascend;
          fields = all_parameters (λ d. IsTrue (has_good_fields d)) (λ s d said. said.fields) t _ h.own.items;
          standards = all_parameters (λ d. IsTrue (follows d)) (λ s d said. said.standard) t _ h.own.items;
          agree = h.agree;
        };
        without = h.may_lack;
        locks = record { states = h.states; opened = opened; held = held };
        binding = bound (get_member (codes "binding_uid") t) _ h.mute_reply.binding;
        modes = h.modes_agree;
      },
    )
