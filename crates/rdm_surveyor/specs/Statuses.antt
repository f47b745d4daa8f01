-- What the status messages of a fixture come to. E1.20 sections 6.3.2, 10.3.1 and 10.3.2, and table A-4.
use Rattle.std.specs.Prelude.{◌≡◌, ◌⊎◌, ℕ, zero, suc, ◌+◌, ◌*◌, ◌/◌, ◌-◌, ◌^◌, ◌≤◌, min, nat_lt, Bool, true, false, not, ◌&&◌, ◌||◌, ◌==◌, if◌then◌else◌, List, [], ◌∷◌, ◌++◌, length, slice_index, Option, Some, None}
use Rattle.std.specs.Option.{option_map_or}
use Rattle.std.specs.Str.{bytes_eq}
use Rattle.rdm_frame.specs.declared.uid.Uid.{Uid}
use Rattle.rdm_frame.specs.declared.status.Severity.{Severity}
use Rattle.rdm_frame.specs.declared.status.Severity.TheVariants.{Warning, Error}
use Rattle.rdm_frame.specs.FrameText.{frame_text}
use Rattle.rdm_frame.specs.Severities.{severity_in}
use Rattle.rdm_collector.specs.Replies.{Said, reply_in}
use Rattle.rdm_collector.specs.AnyDevice.Items.{type_code}
use Rattle.rdm_console.specs.Belonging.{has_value}
use Rattle.rdm_console.specs.Endings.{is_ack}
use Rattle.rdm_survey.specs.declared.row.StatusCounts.{StatusCounts}
use Rattle.rdm_surveyor.specs.declared.reports.Report.{Report}
use Rattle.rdm_surveyor.specs.declared.reports.Statuses.{Statuses}
use Rattle.rdm_surveyor.specs.declared.statuses.Taken.{Taken}
use Rattle.rdm_surveyor.specs.declared.statuses.Taken.TheVariants as taken
use Rattle.rdm_surveyor.specs.Asking.{Ends}

-- ---- errors and warnings

abbrev pub error_of : Option Severity → ℕ
error_of (Some Error) = 1
error_of other = 0

abbrev pub warning_of : Option Severity → ℕ
warning_of (Some Warning) = 1
warning_of other = 0

-- how many of the first N entries are errors, and how many are warnings: an entry has nine slots, of which the third is its type
abbrev pub errors_in : List ℕ → ℕ → ℕ
errors_in slots zero = 0
errors_in slots (suc n) = errors_in slots n + error_of (severity_in (slice_index slots (9 * n + 2)))

abbrev pub warnings_in : List ℕ → ℕ → ℕ
warnings_in slots zero = 0
warnings_in slots (suc n) = warnings_in slots n + warning_of (severity_in (slice_index slots (9 * n + 2)))

-- a count, which stops at the most that 32 bits hold
abbrev pub held : ℕ → ℕ
held n = min n (2 ^ 32 - 1)

-- these counts, and the whole entries of a status message
abbrev pub counts_with : StatusCounts → List ℕ → StatusCounts
counts_with counts slots = record {
  errors = held (counts.errors + errors_in slots (length slots / 9));
  warnings = held (counts.warnings + warnings_in slots (length slots / 9));
}

-- ---- the replies

-- What the replies came to so far: whether one was a status message, also an empty one, so that the fixture tells its status; the errors
-- and warnings; the data of the parts of a message whose end hasn't come; the reply that was handed on last; and how many requests in a
-- row weren't answered.
pub record Tale : Type 0 where
  pub tells : Bool
  pub counts : StatusCounts
  pub part : List ℕ
  pub last : Option (List ℕ)
  pub silent : ℕ

abbrev pub new_tale : Tale
new_tale = record { tells = false; counts = record { errors = 0; warnings = 0 }; part = []; last = None; silent = 0 }

-- how many errors and warnings there are, if the fixture tells its status
abbrev pub counts_of : Tale → Option StatusCounts
counts_of t = if t.tells then Some t.counts else None

-- The last message is asked for again, since the request before wasn't answered.
abbrev pub is_again : Tale → Bool
is_again t = nat_lt 0 t.silent

-- it is a status message. Section 10.3.2.
abbrev pub is_status : Said → Bool
is_status said = (said.class == 0x21) && (said.pid == 0x0030)

-- the two say the same
abbrev pub says_the_same : Said → Said → Bool
says_the_same a b =
    (type_code a.response == type_code b.response) && (a.class == b.class) && (a.pid == b.pid) && (a.sub == b.sub) && bytes_eq a.body b.body

-- the reply that was handed on last said the same
abbrev pub is_said : Option (List ℕ) → Said → Bool
is_said None said = false
is_said (Some last) said = option_map_or (λ before. says_the_same before said) (reply_in last) false

-- Nothing waits: it is a status message that is empty, or says what the reply before it said.
abbrev pub says_nothing : Tale → Said → Bool
says_nothing t said = (is_status said && (length said.body == 0)) || is_said t.last said

-- What a response is taken for: it is handed on; or it repeats what came, and there may be more; or there is no more.
abbrev pub taken_by : Tale → Said → Taken
taken_by t said =
    if has_value said.response then (if says_nothing t said then (if is_again t then taken.Repeat else taken.Over) else taken.Report)
    else taken.Over

abbrev pub taken_in : Tale → List ℕ → Taken
taken_in t reply = option_map_or (taken_by t) (reply_in reply) taken.Over

-- A status message is counted when its last part came.
abbrev pub counted : Tale → Said → Tale
counted t said =
    if is_status said then
    (if is_ack said.response then record t { counts = counts_with t.counts (t.part ++ said.body); part = [] }
    else record t { part = t.part ++ said.body })
    else t

abbrev pub noted : Tale → List ℕ → Taken → Said → Tale
noted t reply taken.Report said = record (counted t said) { last = Some reply }
noted t reply taken said = t

abbrev pub tells_status : Said → Bool
tells_status said = has_value said.response && is_status said

abbrev pub after_said : Tale → List ℕ → Option Said → Tale
after_said t reply None = record t { silent = 0 }
after_said t reply (Some said) = record (noted t reply (taken_by t said) said) { tells = t.tells || tells_status said; silent = 0 }

-- ---- what is heard of a request

abbrev pub tale_after : Tale → Option (List ℕ) → Tale
tale_after t None = record t { silent = t.silent + 1 }
tale_after t (Some reply) = after_said t reply (reply_in reply)

abbrev pub is_over : Taken → Bool
is_over taken.Over = true
is_over taken = false

-- it is over, if there is no more, or three requests in a row weren't answered
abbrev pub is_over_after : Tale → Option (List ℕ) → Bool
is_over_after t None = t.silent + 1 == 3
is_over_after t (Some reply) = is_over (taken_in t reply)

abbrev pub report_of : Uid → Tale → List ℕ → Taken → List Report
report_of uid t reply taken.Report = record { uid = uid; reply = reply; again = is_again t } ∷ []
report_of uid t reply taken = []

-- what is handed on of it
abbrev pub given_after : Uid → Tale → Option (List ℕ) → List Report
given_after uid t None = []
given_after uid t (Some reply) = report_of uid t reply (taken_in t reply)

-- ---- the whole

-- The bytes of a request for the errors and warnings, in the transaction with this number, or for the last message again. Table A-4.
abbrev pub status_request : Ends → ℕ → Bool → List ℕ
status_request e number again = frame_text (record {
  dst = e.fixture;
  src = e.console;
  tn = number;
  port = 1;
  count = 0;
  sub = 0;
  class = 0x20;
  pid = 0x0030;
  body = (if again then 0x01 else 0x03) ∷ [];
})

-- What was fetched so far: what the replies came to, those that were handed on, and whether it is over.
pub record Fetched : Type 0 where
  pub tale : Tale
  pub given : List Report
  pub over : Bool

abbrev pub none_fetched : Fetched
none_fetched = record { tale = new_tale; given = []; over = false }

abbrev pub fetched_with : Uid → Fetched → Option (List ℕ) → Fetched
fetched_with uid f heard = record {
  tale = tale_after f.tale heard;
  given = f.given ++ given_after uid f.tale heard;
  over = is_over_after f.tale heard;
}

-- One more request was sent, since it wasn't over.
pub record IsNextFetched {P : Type 0} (hears : P → List ℕ → Option (List ℕ) → P → Type 0) (e : Ends) (number : ℕ) (less : Fetched) (before : P) (fetched : Fetched) (after : P) : Type 0 where
  pub heard : Option (List ℕ)
  pub sent : hears before (status_request e number (is_again less.tale)) heard after
  pub goes_on : less.over ≡ false
  pub fetched_is : fetched ≡ fetched_with e.fixture less heard

-- N requests were sent, one behind the other, and this was fetched.
abbrev pub AreFetched : {P : Type 0} → (P → List ℕ → Option (List ℕ) → P → Type 0) → Ends → ℕ → P → Fetched → P → Type 0
AreFetched hears e zero before fetched after = (fetched ≡ none_fetched) × (after ≡ before)
AreFetched {P} hears e (suc n) before fetched after =
    (less : Fetched) × (mid : P) × AreFetched hears e n before less mid × IsNextFetched hears e n less mid fetched after

-- The fixture told its status: it was asked until it was over, or 100 times; its replies came to these counts, and each that tells
-- something stands at the end of a list.
pub record TellsStatus {P : Type 0} (hears : P → List ℕ → Option (List ℕ) → P → Type 0) (e : Ends) (before : P) (list : List Report) (statuses : Statuses) (more : List Report) (after : P) : Type 0 where
  pub number : ℕ
  pub fetched : Fetched
  pub asked : AreFetched hears e number before fetched after
  pub ended : (fetched.over ≡ true) ⊎ (number ≡ 100)
  pub within : number ≤ 100
  pub counts : statuses.counts ≡ counts_of fetched.tale
  pub has_more : statuses.has_more ≡ not fetched.over
  pub given : more ≡ list ++ fetched.given

-- ---- the last message again

-- what is known before the last message is asked for again: nothing, behind a request that wasn't answered
abbrev pub asking_again : Tale
asking_again = tale_after new_tale None

-- The fixture was asked for its last status message again, once, and what tells something stands at the end of a list. Table A-4.
pub record TellsLast {P : Type 0} (hears : P → List ℕ → Option (List ℕ) → P → Type 0) (e : Ends) (before : P) (list more : List Report) (after : P) : Type 0 where
  pub heard : Option (List ℕ)
  pub sent : hears before (status_request e 0 true) heard after
  pub given : more ≡ list ++ given_after e.fixture asking_again heard
