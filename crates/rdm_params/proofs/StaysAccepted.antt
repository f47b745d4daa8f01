-- What is accepted as a slow command is accepted whatever the values are.
use Rattle.std.proofs.Common.{◌≡◌, ℕ, zero, suc, ◌-◌, ◌==◌, ◌&&◌, ◌||◌, not, Bool, true, false, cond, List, [], ◌∷◌, length, map, replicate, Option, Some, None, Result, Ok, Err, refl, sym, ap, ◌∙◌}
use Rattle.std.specs.Prelude.{slice_get, slice_set, slice_index_or, option_to_list, is_some}
use Rattle.std.specs.List.{list_all}
use Rattle.std.specs.Option.{option_map_or}
use Rattle.std.proofs.lemmas.List.{length-map, length-set}
use Rattle.rdm_frame.specs.declared.nack.Nack.{Nack}
use Rattle.rdm_frame.specs.declared.nack.Nack.TheVariants.{DataOutOfRange, SubDeviceOutOfRange}
use Rattle.rdm_table.specs.declared.kind.Verb.{Verb}
use Rattle.rdm_table.specs.declared.kind.Verb.TheVariants.{Get, Set}
use Rattle.rdm_profile.specs.declared.profile.Profile.{Profile}
use Rattle.rdm_commands.specs.declared.jobs.outcome.Outcome.TheVariants.{Done, Reading, Failed}
use Rattle.rdm_table.specs.declared.way.Way.{Way}
use Rattle.rdm_table.specs.declared.way.Way.TheVariants.{AtOnce, ByJob, FromQueue, FromStatus, Clears}
use Rattle.rdm_profile.specs.declared.value.Value.{Value}
use Rattle.rdm_profile.specs.declared.value.Value.TheVariants.{Byte}
use Rattle.rdm_table.specs.Table.Rows.{command_of, Command, Row, row_of, row_in, row_or, row_at, is_left_out, added_rows, command_in}
use Rattle.rdm_commands.specs.Commands.Commands.{command_at, accepted, read_data, after_by_row, after_accepted, carried_out, addressed, root_spot, sub_spot, is_all_call, is_some_device, known, is_read_only, is_lockable, open_to, unprotected, suits, check, ◌>>=◌}
use Rattle.rdm_table.specs.Table.Uses.{written, added_written, access, read, is_by_job, is_slow, in_range_of, keeps}
use Rattle.rdm_added.specs.Locking.{is_set_locked, is_no_pin}
use Rattle.rdm_commands.specs.Commands.Panel.{changed_pid, changed_value, can_change, after_change}
use Rattle.rdm_commands.specs.Commands.Placing.{place_refusal, after_value, after_place, has_set, own_at, own_placed}
use Rattle.rdm_profile.specs.declared.profile.own.ParameterDef.{ParameterDef}
use Rattle.rdm_added.specs.Map.{Entry, update}
use Rattle.rdm_device.specs.Device.Measuring.{placed_by}
use Rattle.rdm_added.specs.Parameters.{Parameters}
use Rattle.rdm_commands.specs.Jobs.Commit.{after_commit}
use Rattle.rdm_params.specs.Jobs.Laws.{SameDevices, StaysAccepted, SetKeepsDevices, CommitKeepsDevices, PanelKeepsDevices, PlaceKeepsDevices}
use Rattle.rdm_added.specs.Spot.{Spot}
use Rattle.rdm_commands.proofs.BlockRows.{after_either, as_many}
use Rattle.rdm_params.proofs.RowFacts.{FactsOfWay, Facts, ByProfile, facts_of}

-- ---- ranges that look at the profile alone

profile_decides_in : (pid : ℕ) (verb : Verb) (c : Command) (way : Way) → FactsOfWay pid verb c way → is_by_job way ≡ true → ByProfile c
profile_decides_in pid verb c AtOnce facts slow = absurd cc
profile_decides_in pid verb c (ByJob kind) facts slow = facts.0
profile_decides_in pid verb c FromQueue facts slow = absurd cc
profile_decides_in pid verb c FromStatus facts slow = absurd cc
profile_decides_in pid verb c Clears facts slow = absurd cc

profile_decides : (pid : ℕ) (verb : Verb) (o : Option Command) → Facts pid verb o → is_slow o ≡ true → (s t : Spot) (v : Value) → s.profile ≡ t.profile → in_range_of o s v ≡ in_range_of o t v
profile_decides pid verb None facts slow s t v same = absurd cc
profile_decides pid verb (Some c) facts slow s t v same = profile_decides_in pid verb c c.way facts slow s t v same

-- ---- the devices that are addressed

abbrev profiles : List Spot → List Profile
profiles spots = map (λ (s : Spot). s.profile) spots

profiles_of_subs : (p : Parameters) (subs : List (List Entry)) → profiles (map (sub_spot p) subs) ≡ replicate (length subs) p.profile
profiles_of_subs p [] = refl
profiles_of_subs p (es ∷ subs) = ap (λ (ps : List Profile). p.profile ∷ ps) (profiles_of_subs p subs)

subs_alike : (p q : Parameters) (xs ys : List (List Entry)) → q.profile ≡ p.profile → length ys ≡ length xs → profiles (map (sub_spot q) ys) ≡ profiles (map (sub_spot p) xs)
subs_alike p q xs ys same many =
    profiles_of_subs q ys ∙ ap (λ (n : ℕ). replicate n q.profile) many ∙ ap (replicate (length xs)) same ∙ sym (profiles_of_subs p xs)

one_alike : (xs ys : List (List Entry)) (i : ℕ) → length ys ≡ length xs → length (option_to_list (slice_get ys i)) ≡ length (option_to_list (slice_get xs i))
one_alike [] [] i e = refl
one_alike [] (y ∷ ys) i e = absurd cc
one_alike (x ∷ xs) [] i e = absurd cc
one_alike (x ∷ xs) (y ∷ ys) zero e = refl
one_alike (x ∷ xs) (y ∷ ys) (suc i) e = one_alike xs ys i cc

alike_at : (p q : Parameters) (i : ℕ) → SameDevices p q → (at_root all : Bool) → profiles (cond at_root (root_spot q ∷ []) (cond all (map (sub_spot q) q.subs) (map (sub_spot q) (option_to_list (slice_get q.subs i))))) ≡ profiles (cond at_root (root_spot p ∷ []) (cond all (map (sub_spot p) p.subs) (map (sub_spot p) (option_to_list (slice_get p.subs i)))))
alike_at p q i same true all = ap (λ (profile : Profile). profile ∷ []) same.profile
alike_at p q i same false true = subs_alike p q p.subs q.subs same.profile same.subs
alike_at p q i same false false = subs_alike p q (option_to_list (slice_get p.subs i)) (option_to_list (slice_get q.subs i)) same.profile (one_alike p.subs q.subs i same.subs)

alike : (p q : Parameters) (sub : ℕ) (verb : Verb) → SameDevices p q → profiles (addressed q sub verb) ≡ profiles (addressed p sub verb)
alike p q sub verb same = alike_at p q (sub - 1) same (sub == 0) (is_all_call sub verb)

some_alike : (xs ys : List Spot) → profiles ys ≡ profiles xs → is_some_device ys ≡ is_some_device xs
some_alike [] [] e = refl
some_alike [] (y ∷ ys) e = absurd cc
some_alike (x ∷ xs) [] e = absurd cc
some_alike (x ∷ xs) (y ∷ ys) e = refl

head_of : (a b : Profile) (ps qs : List Profile) → a ∷ ps ≡ b ∷ qs → a ≡ b
head_of a b ps qs e = cc

tail_of : (a b : Profile) (ps qs : List Profile) → a ∷ ps ≡ b ∷ qs → ps ≡ qs
tail_of a b ps qs e = cc

all_alike : (f : Spot → Bool) → ((s t : Spot) → s.profile ≡ t.profile → f s ≡ f t) → (xs ys : List Spot) → profiles ys ≡ profiles xs → list_all f ys ≡ list_all f xs
all_alike f same [] [] e = refl
all_alike f same [] (y ∷ ys) e = absurd cc
all_alike f same (x ∷ xs) [] e = absurd cc
all_alike f same (x ∷ xs) (y ∷ ys) e =
    rw (same y x (head_of y.profile x.profile (profiles ys) (profiles xs) e), all_alike f same xs ys (tail_of y.profile x.profile (profiles ys) (profiles xs) e)) refl

-- ---- acceptance

then_same : {A B : Type 0} (r : Result A Nack) (f g : A → Result B Nack) → ((x : A) → f x ≡ g x) → (r >>= f) ≡ (r >>= g)
then_same (Ok x) f g same = same x
then_same (Err nack) f g same = refl

pub known_alike : (p q : Parameters) (sub : ℕ) (row : Option Row) (verb : Verb) → SameDevices p q → known q sub row verb ≡ known p sub row verb
known_alike p q sub row verb same =
    ap (λ (here : Bool). check here SubDeviceOutOfRange >>= (λ u. access row (sub == 0) verb)) (some_alike (addressed p sub verb) (addressed q sub verb) (alike p q sub verb same))

-- the range of a command looks at the profile alone
abbrev Decides : Option Command → Type 0
Decides command = (s t : Spot) (v : Value) → s.profile ≡ t.profile → in_range_of command s v ≡ in_range_of command t v

suits_alike : (p q : Parameters) (sub : ℕ) (command : Option Command) (verb : Verb) (v : Value) → SameDevices p q → Decides command → suits q sub command verb v ≡ suits p sub command verb v
suits_alike p q sub command verb v same decides =
    ap (λ (within : Bool). check within DataOutOfRange >>= (λ u. check (not (is_all_call sub verb && is_slow command)) SubDeviceOutOfRange)) (all_alike (λ spot. in_range_of command spot v) (λ s t e. decides s t v e) (addressed p sub verb) (addressed q sub verb) (alike p q sub verb same))

-- a slow command of the table is that of the devices, unless the profile leaves it out
slow_range : (verb : Verb) (left : Bool) (first later : Option Row) → is_slow (command_in first verb) ≡ true → Decides (command_in first verb) → Decides (command_in (cond left None (row_or first later)) verb)
slow_range verb true first later slow decides = λ s t v e. refl
slow_range verb false None later slow decides = absurd cc
slow_range verb false (Some r) later slow decides = decides

-- neither of them is locked
job_unlockable : (command : Option Command) → is_slow command ≡ true → is_lockable command ≡ false
job_unlockable None slow = absurd cc
job_unlockable (Some c) slow = ap not slow

slow_unlockable : (verb : Verb) (left : Bool) (first later : Option Row) → is_slow (command_in first verb) ≡ true → is_lockable (command_in (cond left None (row_or first later)) verb) ≡ false
slow_unlockable verb true first later slow = refl
slow_unlockable verb false None later slow = absurd cc
slow_unlockable verb false (Some r) later slow = job_unlockable (command_in (Some r) verb) slow

never_locked : (read locked lockable no_pin : Bool) → lockable ≡ false → open_to (read || (locked && lockable)) no_pin ≡ open_to read no_pin
never_locked true locked lockable no_pin e = refl
never_locked false true true no_pin e = absurd cc
never_locked false true false no_pin e = refl
never_locked false false lockable no_pin e = refl

slow_free : (profile : Profile) (xs ys : List Entry) (pid : ℕ) (command : Option Command) (verb : Verb) (bytes : List ℕ) → is_lockable command ≡ false → unprotected profile xs pid command verb bytes ≡ unprotected profile ys pid command verb bytes
slow_free profile xs ys pid command Get bytes e = refl
slow_free profile xs ys pid command Set bytes e =
    never_locked (is_read_only profile.particulars.own pid bytes) (is_set_locked profile.particulars.locks xs pid) (is_lockable command) (is_no_pin pid bytes) e ∙ sym (never_locked (is_read_only profile.particulars.own pid bytes) (is_set_locked profile.particulars.locks ys pid) (is_lockable command) (is_no_pin pid bytes) e)

abbrev accepted_by : Parameters → Profile → ℕ → ℕ → Verb → List ℕ → Result Value Nack
accepted_by p profile sub pid verb bytes =
    known p sub (row_at profile pid) verb >>= (λ u. unprotected profile p.added pid (command_in (row_at profile pid) verb) verb bytes >>= (λ w. read_data p sub (command_in (row_at profile pid) verb) verb bytes))

pub stays_accepted : StaysAccepted
unfolding accepted
stays_accepted p q sub pid verb bytes same slow =
    let row : Option Row = row_at p.profile pid in
    let command : Option Command = command_in row verb in
    let decides : Decides command = slow_range verb (is_left_out p.profile pid) (row_of pid) (row_in (added_rows p.profile) pid) slow (λ s t v e. profile_decides pid verb (command_of pid verb) (facts_of pid verb) slow s t v e) in
    let free : Parameters → Result (Unit {0}) Nack = λ d. unprotected p.profile d.added pid command verb bytes in
    let later : Parameters → Unit {0} → Result Value Nack = λ d u. read command bytes >>= (λ value. suits d sub command verb value >>= (λ w. Ok value)) in
    let rest : Parameters → Unit {0} → Result Value Nack = λ d u. free d >>= later d in
    ap (λ (profile : Profile). accepted_by q profile sub pid verb bytes) same.profile ∙ ap (λ (r : Result (Unit {0}) Nack). r >>= rest q) (known_alike p q sub row verb same) ∙ then_same (known p sub row verb) (rest q) (rest p) (λ u. ap (λ (r : Result (Unit {0}) Nack). r >>= later q) (slow_free p.profile q.added p.added pid command verb bytes (slow_unlockable verb (is_left_out p.profile pid) (row_of pid) (row_in (added_rows p.profile) pid) slow)) ∙ then_same (free p) (later q) (later p) (λ w. then_same (read command bytes) _ _ (λ value. ap (λ (r : Result (Unit {0}) Nack). r >>= (λ w. Ok value)) (suits_alike p q sub command verb value same decides))))

-- ---- the devices after a SET and after the end of a job

carried_at : (p : Parameters) (sub : ℕ) (command : Option Command) (v : Value) (at_root all : Bool) → SameDevices p (cond at_root (record p { root = written command v (root_spot p); added = added_written command v (root_spot p) }) (cond all (record p { subs = map (λ entries. written command v (sub_spot p entries)) p.subs }) (record p { subs = slice_set p.subs (sub - 1) (written command v (sub_spot p (slice_index_or p.subs (sub - 1) []))) })))
carried_at p sub command v true all = record { profile = refl; subs = refl }
carried_at p sub command v false true = record { profile = refl; subs = length-map p.subs (λ entries. written command v (sub_spot p entries)) }
carried_at p sub command v false false = record { profile = refl; subs = length-set p.subs (sub - 1) _ }

carried_keeps : (p : Parameters) (sub : ℕ) (command : Option Command) (v : Value) → SameDevices p (carried_out p sub command v)
carried_keeps p sub command v = carried_at p sub command v (sub == 0) (is_all_call sub Set)

unless_slow : (p new : Parameters) (slow : Bool) → SameDevices p new → SameDevices p (cond slow p new)
unless_slow p new true same = record { profile = refl; subs = refl }
unless_slow p new false same = same

after_keeps : (p : Parameters) (sub : ℕ) (command : Option Command) (value : Result Value Nack) → SameDevices p (after_accepted p sub command value)
after_keeps p sub command (Err nack) = record { profile = refl; subs = refl }
after_keeps p sub command (Ok v) = unless_slow p (carried_out p sub command v) (is_slow command) (carried_keeps p sub command v)

row_keeps : (p : Parameters) (sub pid : ℕ) (bytes : List ℕ) → SameDevices p (after_by_row p sub pid bytes)
unfolding after_by_row
row_keeps p sub pid bytes = after_keeps p sub (command_at p pid Set) (accepted p sub pid Set bytes)

pub set_keeps_devices : SetKeepsDevices
set_keeps_devices p sub pid bytes =
    after_either (SameDevices p) p sub pid bytes (record { profile = refl; subs = refl }) (λ is base. record { profile = refl; subs = as_many p base }) (λ no. row_keeps p sub pid bytes)

pub commit_keeps_devices : CommitKeepsDevices
unfolding after_commit
commit_keeps_devices p w Done = carried_keeps p w.sub (command_of w.pid Set) (Byte w.arg)
commit_keeps_devices p w (Reading v) = record { profile = refl; subs = refl }
commit_keeps_devices p w (Failed severity id v1 v2) = record { profile = refl; subs = refl }

if_in_range : (p new : Parameters) (within : Bool) → SameDevices p new → SameDevices p (cond within new p)
if_in_range p new true same = same
if_in_range p new false same = record { profile = refl; subs = refl }

pub panel_keeps_devices : PanelKeepsDevices
unfolding after_change
panel_keeps_devices p change =
    let command : Option Command = command_of (changed_pid change) Set in
    if_in_range p (carried_out p 0 command (changed_value change)) (can_change p change) (carried_keeps p 0 command (changed_value change))

value_keeps : (p : Parameters) (sub pid : ℕ) (read' : Result Value Nack) → SameDevices p (after_value p sub pid read')
value_keeps p sub pid (Err nack) = record { profile = refl; subs = refl }
value_keeps p sub pid (Ok v) = carried_keeps p sub (command_of pid Set) v

own_keeps : (p : Parameters) (bytes : List ℕ) (own : Option ParameterDef) → SameDevices p (option_map_or (λ d. own_placed p d bytes) own p)
own_keeps p bytes None = record { profile = refl; subs = refl }
own_keeps p bytes (Some d) = record { profile = refl; subs = refl }

either_keeps : (p new other : Parameters) (first : Bool) → SameDevices p new → SameDevices p other → SameDevices p (cond first new other)
either_keeps p new other true a b = a
either_keeps p new other false a b = b

pub place_keeps_devices : PlaceKeepsDevices
unfolding after_place
place_keeps_devices p sub pid bytes =
    let stored = either_keeps p _ (record p { root = update (placed_by bytes) p.root }) (keeps (command_of pid Set)) (value_keeps p sub pid (read (command_of pid Set) bytes)) (record { profile = refl; subs = refl }) in
    either_keeps p p _ (is_some (place_refusal p sub pid bytes)) (record { profile = refl; subs = refl }) (either_keeps p _ _ (not (has_set p sub pid)) (own_keeps p bytes (own_at p sub pid)) stored)
