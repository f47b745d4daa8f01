-- What a command answers that starts a job, or that fetches what waits.
use Rattle.std.proofs.Common.{◌≡◌, ◌≢◌, ℕ, zero, suc, ◌==◌, ◌&&◌, Bool, true, false, cond, List, [], ◌∷◌, length, Option, Some, None, Result, Ok, Err, refl, sym, subst, ap, ◌∙◌, arith}
use Rattle.std.specs.Prelude.{nat_le}
use Rattle.std.specs.List.{list_all}
use Rattle.std.proofs.lemmas.Bool.{ne_eqb}
use Rattle.rdm_frame.specs.declared.nack.Nack.{Nack}
use Rattle.rdm_frame.specs.declared.nack.Nack.TheVariants.{FormatError, DataOutOfRange, SubDeviceOutOfRange}
use Rattle.rdm_table.specs.declared.kind.Verb.{Verb}
use Rattle.rdm_table.specs.declared.kind.Verb.TheVariants.{Get, Set}
use Rattle.rdm_commands.specs.declared.jobs.ask.Ask.{Ask}
use Rattle.rdm_commands.specs.declared.jobs.ask.Ask.TheVariants as asks
use Rattle.rdm_table.specs.declared.way.Way.{Way}
use Rattle.rdm_table.specs.declared.way.Way.TheVariants.{AtOnce, ByJob, FromQueue, FromStatus, Clears}
use Rattle.rdm_commands.specs.declared.jobs.work.Work.{Work}
use Rattle.rdm_profile.specs.declared.profile.Profile.{Profile}
use Rattle.rdm_profile.specs.declared.value.Value.{Value}
use Rattle.rdm_profile.specs.declared.value.Value.TheVariants.{Byte}
use Rattle.rdm_commands.specs.declared.verdict.Verdict.{Verdict}
use Rattle.rdm_commands.specs.declared.verdict.Verdict.TheVariants.{Start, Queue, Status, Clear}
use Rattle.rdm_commands.specs.Commands.Commands.{command_at, accepted, addressed, answered, verdict, work, known, unprotected, suits, check, is_some_device, is_block, block_told, block_taken, block_answer, got, got_by_row, answer_to_set, answer_by_row, after_by_row, reply_at, ◌>>=◌}
use Rattle.rdm_profile.specs.Forms.{byte}
use Rattle.rdm_added.specs.Parameters.{Parameters}
use Rattle.rdm_device.specs.Columns.Ranges.{a_message_type}
use Rattle.rdm_commands.specs.Jobs.Asks.{ask_of}
use Rattle.rdm_params.specs.Jobs.Laws.{IsWorkOf, GetStartsItsWork, SetStartsItsWork, GetQueues, GetStatuses, SetFetchesNothing, SetClears, GetClearsNothing}
use Rattle.rdm_added.specs.Spot.{Spot}
use Rattle.rdm_table.specs.Table.Rows.{Command, Row, row_at}
use Rattle.rdm_table.specs.Table.Uses.{read_as, read, way_of, way_at, way_here, needs_no_job, is_by_job, is_slow, in_range_of}
use Rattle.rdm_profile.specs.Values.{byte_or_0}
use Rattle.rdm_params.proofs.RowFacts.{FactsOfWay, Facts, facts_at, slow_at}

-- ---- what an answer says of the way

abbrev start : Work → Verdict
start w = Start w

abbrev queue : Ask → Verdict
queue ask = Queue ask

start_is : (v w : Work) → start v ≡ start w → v ≡ w
start_is v w e = cc

queue_is : (a b : Ask) → queue a ≡ queue b → a ≡ b
queue_is a b e = cc

started_by : (way : Way) (bytes : List ℕ) (job : Work) (ask : Ask) (w : Work) → answered way bytes job ask ≡ Start w → (is_by_job way ≡ true) × (job ≡ w)
started_by AtOnce bytes job ask w e = absurd cc
started_by (ByJob slow) bytes job ask w e = (refl, start_is job w e)
started_by FromQueue bytes job ask w e = absurd cc
started_by FromStatus bytes job ask w e = absurd cc
started_by Clears bytes job ask w e = absurd cc

queued_by : (way : Way) (bytes : List ℕ) (job : Work) (ask a : Ask) → answered way bytes job ask ≡ Queue a → (way ≡ FromQueue) × (ask ≡ a)
queued_by AtOnce bytes job ask a e = absurd cc
queued_by (ByJob slow) bytes job ask a e = absurd cc
queued_by FromQueue bytes job ask a e = (refl, queue_is ask a e)
queued_by FromStatus bytes job ask a e = absurd cc
queued_by Clears bytes job ask a e = absurd cc

status_by : (way : Way) (bytes : List ℕ) (job : Work) (ask a : Ask) → answered way bytes job ask ≡ Status a → way ≡ FromStatus
status_by AtOnce bytes job ask a e = absurd cc
status_by (ByJob slow) bytes job ask a e = absurd cc
status_by FromQueue bytes job ask a e = absurd cc
status_by FromStatus bytes job ask a e = refl
status_by Clears bytes job ask a e = absurd cc

cleared_by : (way : Way) (bytes : List ℕ) (job : Work) (ask : Ask) → answered way bytes job ask ≡ Clear → way ≡ Clears
cleared_by AtOnce bytes job ask e = absurd cc
cleared_by (ByJob slow) bytes job ask e = absurd cc
cleared_by FromQueue bytes job ask e = absurd cc
cleared_by FromStatus bytes job ask e = absurd cc
cleared_by Clears bytes job ask e = refl

-- ---- the way at a profile is that of the row, or at once

by_job_if : (quick : Bool) (way : Way) → is_by_job (cond quick AtOnce way) ≡ true → is_by_job way ≡ true
by_job_if true way e = absurd cc
by_job_if false way e = e

by_job_of_row : (p : Profile) (way : Way) (verb : Verb) (arg : ℕ) → is_by_job (way_here p way verb arg) ≡ true → is_by_job way ≡ true
by_job_of_row p way Get arg e = by_job_if (needs_no_job p way arg) way e
by_job_of_row p way Set arg e = e

as_if : (quick : Bool) (way other : Way) → other ≢ AtOnce → cond quick AtOnce way ≡ other → way ≡ other
as_if true way other later e = absurd (later (sym e))
as_if false way other later e = e

as_row : (p : Profile) (way other : Way) (verb : Verb) (arg : ℕ) → other ≢ AtOnce → way_here p way verb arg ≡ other → way ≡ other
as_row p way other Get arg later e = as_if (needs_no_job p way arg) way other later e
as_row p way other Set arg later e = e

queue_later : FromQueue ≢ AtOnce
queue_later e = absurd cc

status_later : FromStatus ≢ AtOnce
status_later e = absurd cc

clears_later : Clears ≢ AtOnce
clears_later e = absurd cc

-- ---- what the rows say of each way

takes_byte_in : (pid : ℕ) (verb : Verb) (c : Command) (way : Way) → FactsOfWay pid verb c way → is_by_job way ≡ true → c.form ≡ byte
takes_byte_in pid verb c AtOnce facts slow = absurd cc
takes_byte_in pid verb c (ByJob kind) facts slow = facts.1.0
takes_byte_in pid verb c FromQueue facts slow = absurd cc
takes_byte_in pid verb c FromStatus facts slow = absurd cc
takes_byte_in pid verb c Clears facts slow = absurd cc

takes_byte : (pid : ℕ) (verb : Verb) (o : Option Command) → Facts pid verb o → is_slow o ≡ true → (bytes : List ℕ) → read o bytes ≡ read_as byte bytes
takes_byte pid verb None facts slow bytes = absurd cc
takes_byte pid verb (Some c) facts slow bytes = rw (takes_byte_in pid verb c c.way facts slow) refl

in_queue : (pid : ℕ) (verb : Verb) (o : Option Command) → Facts pid verb o → way_of o ≡ FromQueue → (pid ≡ 0x0020) × ((verb ≡ Get) × ((s : Spot) (v : Value) → in_range_of o s v ≡ a_message_type byte s v))
in_queue pid verb None facts e = absurd cc
in_queue pid verb (Some c) facts e = subst (FactsOfWay pid verb c) e facts

in_status : (pid : ℕ) (verb : Verb) (o : Option Command) → Facts pid verb o → way_of o ≡ FromStatus → (pid ≡ 0x0030) × (verb ≡ Get)
in_status pid verb None facts e = absurd cc
in_status pid verb (Some c) facts e = subst (FactsOfWay pid verb c) e facts

in_clearing : (pid : ℕ) (verb : Verb) (o : Option Command) → Facts pid verb o → way_of o ≡ Clears → (pid ≡ 0x0032) × (verb ≡ Set)
in_clearing pid verb None facts e = absurd cc
in_clearing pid verb (Some c) facts e = subst (FactsOfWay pid verb c) e facts

-- ---- what acceptance says

abbrev ok : {A : Type 0} → A → Result A Nack
ok x = Ok x

then_ok : {A B : Type 0} (r : Result A Nack) (f : A → Result B Nack) (v : B) → (r >>= f) ≡ Ok v → (x : A) × ((r ≡ Ok x) × (f x ≡ Ok v))
then_ok (Ok x) f v e = (x, (refl, e))
then_ok (Err nack) f v e = absurd cc

check_ok : (holds : Bool) (nack : Nack) (u : Unit {0}) → check holds nack ≡ Ok u → holds ≡ true
check_ok true nack u e = refl
check_ok false nack u e = absurd cc

some_device : (p : Parameters) (sub : ℕ) (row : Option Row) (verb : Verb) (u : Unit {0}) → known p sub row verb ≡ Ok u → is_some_device (addressed p sub verb) ≡ true
some_device p sub row verb u e =
    let first = then_ok (check (is_some_device (addressed p sub verb)) SubDeviceOutOfRange) _ u e in
    check_ok (is_some_device (addressed p sub verb)) SubDeviceOutOfRange first.0 first.1.0

abbrev is_within : Parameters → ℕ → Option Command → Verb → Value → Bool
is_within p sub command verb v = list_all (λ spot. in_range_of command spot v) (addressed p sub verb)

within : (p : Parameters) (sub : ℕ) (command : Option Command) (verb : Verb) (v : Value) (u : Unit {0}) → suits p sub command verb v ≡ Ok u → is_within p sub command verb v ≡ true
within p sub command verb v u e =
    let first = then_ok (check (is_within p sub command verb v) DataOutOfRange) _ u e in
    check_ok (is_within p sub command verb v) DataOutOfRange first.0 first.1.0

ok_is : (v w : Value) → ok v ≡ ok w → v ≡ w
ok_is v w e = cc

-- what is read is accepted, in the range of every device, and there is a device
record Accepts (p : Parameters) (sub : ℕ) (command : Option Command) (verb : Verb) (bytes : List ℕ) (v : Value) : Type 0 where
  pub is_read : read command bytes ≡ Ok v
  pub device : is_some_device (addressed p sub verb) ≡ true
  pub range : is_within p sub command verb v ≡ true

accepts : (p : Parameters) (sub pid : ℕ) (verb : Verb) (bytes : List ℕ) (v : Value) → accepted p sub pid verb bytes ≡ Ok v → Accepts p sub (command_at p pid verb) verb bytes v
unfolding accepted
accepts p sub pid verb bytes v e =
    let command : Option Command = command_at p pid verb in
    let first = then_ok (known p sub (row_at p.profile pid) verb) _ v e in
    let free = then_ok (unprotected p.profile p.added pid command verb bytes) _ v first.1.1 in
    let second = then_ok (read command bytes) _ v free.1.1 in
    let third = then_ok (suits p sub command verb second.0) _ v second.1.1 in
    let same : second.0 ≡ v = ok_is second.0 v third.1.1 in
    record {
      is_read = second.1.0 ∙ ap ok same;
      device = some_device p sub (row_at p.profile pid) verb first.0 first.1.0;
      range = subst (λ (x : Value). is_within p sub command verb x ≡ true) same (within p sub command verb second.0 third.0 third.1.0);
    }

-- ---- a work is that of its command

abbrev is_byte : List ℕ → Value → Type 0
is_byte bytes v = (bytes ≡ byte_or_0 v ∷ []) × (v ≡ Byte (byte_or_0 v))

too_long : (fits : Bool) (x v : Value) → fits ≡ false → cond fits (ok x) (Err FormatError) ≢ ok v
too_long true x v long e = absurd cc
too_long false x v long e = absurd cc

byte_read : (bytes : List ℕ) (v : Value) → read_as byte bytes ≡ Ok v → is_byte bytes v
byte_read [] v e = absurd cc
byte_read (b ∷ []) v e = subst (is_byte (b ∷ [])) (ok_is (Byte b) v e) (refl, refl)
byte_read (b ∷ c ∷ rest) v e = absurd (too_long (length (b ∷ c ∷ rest) == 1) (Byte b) v (ne_eqb (length (b ∷ c ∷ rest)) 1 (λ (same : length (b ∷ c ∷ rest) ≡ 1). omega arith)) e)

job_of : (p : Parameters) (sub pid : ℕ) (verb : Verb) (bytes : List ℕ) (v : Value) → accepted p sub pid verb bytes ≡ Ok v → is_slow (command_at p pid verb) ≡ true → IsWorkOf p sub pid verb (work sub pid verb v)
job_of p sub pid verb bytes v e slow =
    let says = accepts p sub pid verb bytes v e in
    let one = byte_read bytes v (sym (takes_byte pid verb (command_at p pid verb) (facts_at p pid verb) slow bytes) ∙ says.is_read) in
    record {
      same_sub = refl;
      same_pid = refl;
      same_verb = refl;
      accepted = record { slow = sym (ap is_slow (slow_at p pid verb slow)) ∙ slow; command = ap (accepted p sub pid verb) (sym one.0) ∙ e ∙ ap ok one.1 };
    }

starts_its_work : (p now : Parameters) (sub pid : ℕ) (verb : Verb) (bytes : List ℕ) (w : Work) (value : Result Value Nack) → accepted p sub pid verb bytes ≡ value → verdict now sub pid (command_at p pid verb) verb value ≡ Start w → IsWorkOf p sub pid verb w
starts_its_work p now sub pid verb bytes w (Err nack) e answer = absurd cc
starts_its_work p now sub pid verb bytes w (Ok v) e answer =
    let command = command_at p pid verb in
    let by = started_by (way_at now.profile command verb v) (reply_at command (addressed now sub verb) v) (work sub pid verb v) (ask_of (byte_or_0 v)) w answer in
    subst (IsWorkOf p sub pid verb) by.1 (job_of p sub pid verb bytes v e (by_job_of_row now.profile (way_of command) verb (byte_or_0 v) by.0))

-- a block's answer starts, asks and clears nothing
abbrev IsSilent : Verdict → Type 0
IsSilent v = ((w : Work) → v ≡ Start w → ⊥) × ((ask : Ask) → v ≡ Queue ask → ⊥) × ((ask : Ask) → v ≡ Status ask → ⊥) × (v ≡ Clear → ⊥)

told_silent : (p : Parameters) (r : Result Value Nack) → IsSilent (block_told p r)
told_silent p (Err nack) = (λ w e. absurd cc, λ a e. absurd cc, λ a e. absurd cc, λ e. absurd cc)
told_silent p (Ok v) = (λ w e. absurd cc, λ a e. absurd cc, λ a e. absurd cc, λ e. absurd cc)

answer_silent : (r : Result ℕ Nack) → IsSilent (block_answer r)
answer_silent (Err nack) = (λ w e. absurd cc, λ a e. absurd cc, λ a e. absurd cc, λ e. absurd cc)
answer_silent (Ok base) = (λ w e. absurd cc, λ a e. absurd cc, λ a e. absurd cc, λ e. absurd cc)

by_row : (b : Bool) (x y v : Verdict) → (x ≡ v → ⊥) → cond b x y ≡ v → y ≡ v
by_row true x y v silent e = absurd (silent e)
by_row false x y v silent e = e

-- so each other answer is that of the row
pub got_row : (p : Parameters) (sub pid : ℕ) (bytes : List ℕ) (v : Verdict) → (block_told p (accepted p sub pid Get bytes) ≡ v → ⊥) → got p sub pid bytes ≡ v → verdict p sub pid (command_at p pid Get) Get (accepted p sub pid Get bytes) ≡ v
unfolding got got_by_row
got_row p sub pid bytes v silent e = by_row (is_block pid) (block_told p (accepted p sub pid Get bytes)) (got_by_row p sub pid bytes) v silent e

pub answer_row : (p : Parameters) (sub pid : ℕ) (bytes : List ℕ) (v : Verdict) → (block_answer (block_taken p (accepted p sub pid Set bytes)) ≡ v → ⊥) → answer_to_set p sub pid bytes ≡ v → verdict (after_by_row p sub pid bytes) sub pid (command_at p pid Set) Set (accepted p sub pid Set bytes) ≡ v
unfolding answer_to_set answer_by_row
answer_row p sub pid bytes v silent e = by_row (is_block pid) (block_answer (block_taken p (accepted p sub pid Set bytes))) (answer_by_row p sub pid bytes) v silent e

pub get_starts_its_work : GetStartsItsWork
get_starts_its_work p sub pid bytes w e =
    starts_its_work p p sub pid Get bytes w (accepted p sub pid Get bytes) refl (got_row p sub pid bytes (Start w) ((told_silent p (accepted p sub pid Get bytes)).0 w) e)

pub set_starts_its_work : SetStartsItsWork
set_starts_its_work p sub pid bytes w e =
    starts_its_work p (after_by_row p sub pid bytes) sub pid Set bytes w (accepted p sub pid Set bytes) refl (answer_row p sub pid bytes (Start w) ((answer_silent (block_taken p (accepted p sub pid Set bytes))).0 w) e)

-- ---- what is fetched

first_true : (a b : Bool) → (a && b) ≡ true → a ≡ true
first_true true b e = refl
first_true false b e = absurd cc

first_within : (f : Spot → Bool) (spots : List Spot) → is_some_device spots ≡ true → list_all f spots ≡ true → (s : Spot) × (f s ≡ true)
first_within f [] device all = absurd cc
first_within f (s ∷ spots) device all = (s, first_true (f s) (list_all f spots) all)

something : (none a b c : Bool) → none ≡ false → cond none asks.None (cond a asks.Last (cond b asks.Advisory (cond c asks.Warning asks.Error))) ≢ asks.None
something true a b c h e = absurd cc
something false true b c h e = absurd cc
something false false true c h e = absurd cc
something false false false true h e = absurd cc
something false false false false h e = absurd cc

of_type : (n : ℕ) → (nat_le 1 n && nat_le n 4) ≡ true → ask_of n ≢ asks.None
of_type zero e none = absurd cc
of_type (suc n) e none = something (suc n == 0) (suc n == 1) (suc n == 2) (suc n == 3) (ne_eqb (suc n) 0 (λ (same : suc n ≡ 0). omega arith)) none

asks_something : (s : Spot) (v : Value) → a_message_type byte s v ≡ true → ask_of (byte_or_0 v) ≢ asks.None
asks_something s (Byte n) e = of_type n e
asks_something s _ e = absurd cc

queues : (p now : Parameters) (sub pid : ℕ) (verb : Verb) (bytes : List ℕ) (ask : Ask) (value : Result Value Nack) → accepted p sub pid verb bytes ≡ value → verdict now sub pid (command_at p pid verb) verb value ≡ Queue ask → (pid ≡ 0x0020) × ((verb ≡ Get) × (ask ≢ asks.None))
queues p now sub pid verb bytes ask (Err nack) e answer = absurd cc
queues p now sub pid verb bytes ask (Ok v) e answer =
    let command = command_at p pid verb in
    let by = queued_by (way_at now.profile command verb v) (reply_at command (addressed now sub verb) v) (work sub pid verb v) (ask_of (byte_or_0 v)) ask answer in
    let row = in_queue pid verb command (facts_at p pid verb) (as_row now.profile (way_of command) FromQueue verb (byte_or_0 v) queue_later by.0) in
    let says = accepts p sub pid verb bytes v e in
    let one = first_within (λ spot. in_range_of command spot v) (addressed p sub verb) says.device says.range in
    (row.0, (row.1.0, subst (λ (a : Ask). a ≢ asks.None) by.1 (asks_something one.0 v (sym (row.1.1 one.0 v) ∙ one.1))))

statuses : (p now : Parameters) (sub pid : ℕ) (verb : Verb) (ask : Ask) (value : Result Value Nack) → verdict now sub pid (command_at p pid verb) verb value ≡ Status ask → (pid ≡ 0x0030) × (verb ≡ Get)
statuses p now sub pid verb ask (Err nack) answer = absurd cc
statuses p now sub pid verb ask (Ok v) answer =
    let command = command_at p pid verb in
    in_status pid verb command (facts_at p pid verb) (as_row now.profile (way_of command) FromStatus verb (byte_or_0 v) status_later (status_by (way_at now.profile command verb v) (reply_at command (addressed now sub verb) v) (work sub pid verb v) (ask_of (byte_or_0 v)) ask answer))

pub get_queues : GetQueues
get_queues p sub pid bytes ask e =
    let row = got_row p sub pid bytes (Queue ask) ((told_silent p (accepted p sub pid Get bytes)).1 ask) e in
    let says = queues p p sub pid Get bytes ask (accepted p sub pid Get bytes) refl row in
    (says.0, says.1.1)

pub get_statuses : GetStatuses
get_statuses p sub pid bytes ask e =
    let row = got_row p sub pid bytes (Status ask) ((told_silent p (accepted p sub pid Get bytes)).2 ask) e in
    (statuses p p sub pid Get ask (accepted p sub pid Get bytes) row).0

set_is_no_get : Set ≢ Get
set_is_no_get e = absurd cc

pub set_fetches_nothing : SetFetchesNothing
set_fetches_nothing p sub pid bytes ask =
    let silent = answer_silent (block_taken p (accepted p sub pid Set bytes)) in (
      λ e. set_is_no_get (queues p (after_by_row p sub pid bytes) sub pid Set bytes ask (accepted p sub pid Set bytes) refl (answer_row p sub pid bytes (Queue ask) (silent.1 ask) e)).1.0,
      λ e. set_is_no_get (statuses p (after_by_row p sub pid bytes) sub pid Set ask (accepted p sub pid Set bytes) (answer_row p sub pid bytes (Status ask) (silent.2 ask) e)).1,
    )

-- ---- what clears status entries

clearing : (p now : Parameters) (sub pid : ℕ) (verb : Verb) (value : Result Value Nack) → verdict now sub pid (command_at p pid verb) verb value ≡ Clear → (pid ≡ 0x0032) × (verb ≡ Set)
clearing p now sub pid verb (Err nack) answer = absurd cc
clearing p now sub pid verb (Ok v) answer =
    let command = command_at p pid verb in
    in_clearing pid verb command (facts_at p pid verb) (as_row now.profile (way_of command) Clears verb (byte_or_0 v) clears_later (cleared_by (way_at now.profile command verb v) (reply_at command (addressed now sub verb) v) (work sub pid verb v) (ask_of (byte_or_0 v)) answer))

pub set_clears : SetClears
set_clears p sub pid bytes e =
    let row = answer_row p sub pid bytes Clear (answer_silent (block_taken p (accepted p sub pid Set bytes))).3 e in
    (clearing p (after_by_row p sub pid bytes) sub pid Set (accepted p sub pid Set bytes) row).0

get_is_no_set : Get ≢ Set
get_is_no_set e = absurd cc

pub get_clears_nothing : GetClearsNothing
get_clears_nothing p sub pid bytes e =
    let row = got_row p sub pid bytes Clear (told_silent p (accepted p sub pid Get bytes)).3 e in
    get_is_no_set (clearing p p sub pid Get (accepted p sub pid Get bytes) row).1
