-- How a script is read, by lines and words: the reader's view of what Spelling.antt defines. `d` is the dialect of the
-- script, and `dev` the UID of the device that it is played on.
use Rattle.std.specs.Prelude.{◌≡◌, ◌≢◌, ℕ, zero, suc, ◌+◌, ◌-◌, ◌<◌, ◌≤◌, Bool, true, false, not, ◌||◌, ◌==◌, ◌&&◌, if◌then◌else◌, List, [], ◌∷◌, length, position, fold, drop, take, filter, find, map, slice_index, slice_index_or, slice_get, Option, Some, None, nat_le, nat_lt, All, codes}
use Rattle.std.specs.Option.{option_map, option_map_or, option_or}
use Rattle.std.specs.Int.{w16}
use Rattle.std.specs.Str.{bytes_eq}
use Rattle.std.specs.Str.Lines.{strip_carriage_return as without_return}
use Rattle.std.specs.List.{slice_split, flat_map, list_all}
use Rattle.rdm_frame.specs.declared.uid.Uid.{Uid}
use Rattle.rdm_frame.specs.Addressing.{all_devices, all_of}
use Rattle.rdm_frame.specs.Digits.{within}
use Rattle.rdm_frame.specs.DigitReading.{◌>>=◌, bytes_in, number_in, uid_in}
use Rattle.rdm_frame.specs.declared.fault.Fault.{Fault}
use Rattle.rdm_frame.specs.declared.fault.Fault.TheVariants as fault
use Rattle.rdm_profile.specs.declared.profile.own.ParameterDef.{ParameterDef}
use Rattle.rdm_collector.specs.declared.command.Action.{Action}
use Rattle.rdm_collector.specs.declared.command.Action.TheVariants.{Disc, Get, Set}
use Rattle.rdm_collector.specs.declared.command.Command.{Command}
use Rattle.rdm_collector.specs.declared.want.Want.{Want}
use Rattle.rdm_collector.specs.declared.want.Want.TheVariants.{Advisory, Warning, Error}
use Rattle.rdm_crew.specs.declared.step.CrewStep.{CrewStep}
use Rattle.rdm_crew.specs.declared.step.CrewStep.TheVariants.{Ask, Collect, Draw, Settle, Panel}
use Rattle.rdm_script.specs.Dialects.{Dialect}
use Rattle.rdm_script.specs.declared.dialect.Spelling.{Spelling}
use Rattle.rdm_script.specs.declared.dialect.Spelling.TheVariants.{Strict, Friendly}
use Rattle.rdm_script.specs.declared.script.ScriptSetup.{ScriptSetup}
use Rattle.rdm_script.specs.declared.grammar.line.Line.{Line}
use Rattle.rdm_script.specs.declared.grammar.line.Line.TheVariants.{Skipped, Sets, Says, Finds, Faulty}
use Rattle.rdm_script.specs.declared.grammar.parsing.ScriptError.{ScriptError}
use Rattle.rdm_script.specs.declared.grammar.parsing.ScriptError.TheVariants as errors
use Rattle.rdm_script.specs.Parties.{plain_setup}
use Rattle.rdm_script.specs.Decimals.{number_up_to}
use Rattle.rdm_params.specs.Table.Names.{pid_named}
use Rattle.rdm_script.specs.Search.{search_of}

abbrev pub word : List (List ℕ) → ℕ → List ℕ
word words i = slice_index_or words i []

-- ---- a command, word by word

abbrev pub action_in : List ℕ → Option Action
action_in word =
    if bytes_eq word (codes "get") then Some Get
    else (if bytes_eq word (codes "set") then Some Set
    else (if bytes_eq word (codes "disc") then Some Disc
    else None))

-- the device of the script, every device, every device of its manufacturer, or a UID
unfoldable pub destination_in : Uid → List ℕ → Option Uid
destination_in dev word =
    if bytes_eq word (codes "dev") then Some dev
    else (if bytes_eq word (codes "all") then Some all_devices
    else (if bytes_eq word (codes "maker") then Some (all_of dev.maker)
    else uid_in word))

-- one to three digits, with no zero in front of others
abbrev pub is_plain : List ℕ → Bool
is_plain word = nat_le (length word) 3 && not (nat_lt 1 (length word) && slice_index word 0 == 48)

-- the root by its name, or a number up to 512
unfoldable pub sub_named : List ℕ → Option ℕ
sub_named word =
    if bytes_eq word (codes "root") then Some 0
    else (if is_plain word then number_up_to 512 word else None)

-- four digits, or as a friendly script may say it
unfoldable pub sub_in : Spelling → List ℕ → Option ℕ
sub_in Strict word = number_in w16 word
sub_in Friendly word = option_or (number_in w16 word) (sub_named word)

-- a hyphen for no data, or the digits of at most 255 bytes
unfoldable pub bytes_load_in : List ℕ → Option (List ℕ)
bytes_load_in word = if bytes_eq word (codes "-") then Some [] else (if nat_le (length word) 510 then bytes_in word else None)

-- a printable character of ASCII, but for the double quote
abbrev pub is_shown : ℕ → Bool
is_shown b = within 0x20 b 0x7E && not (b == 34)

-- double quotes stand at both ends
abbrev pub is_quoted : List ℕ → Bool
is_quoted word = nat_le 2 (length word) && ((slice_index word 0 == 34) && (slice_index word (length word - 1) == 34))

-- what stands behind the first and before the last
abbrev pub between : List ℕ → List ℕ
between word = take (length word - 1 - 1) (drop 1 word)

-- the first of these parameters with this name
abbrev pub own_named : List ParameterDef → List ℕ → Option ℕ
own_named own name = option_map (λ d. d.pid) (find (λ d. bytes_eq name d.name) own)

-- in double quotes stands the name of a parameter of the maker's own, without them that of one of the standard's
unfoldable pub pid_by_name : List ParameterDef → List ℕ → Option ℕ
pid_by_name own word = if is_quoted word then own_named own (between word) else pid_named word

-- four digits, or the name in a friendly script
unfoldable pub pid_in : Spelling → List ParameterDef → List ℕ → Option ℕ
pid_in Strict own word = number_in w16 word
pid_in Friendly own word = option_or (number_in w16 word) (pid_by_name own word)

-- the text in double quotes
unfoldable pub quoted_in : List ℕ → Option (List ℕ)
quoted_in word =
    if is_quoted word then (if list_all is_shown (between word) && nat_le (length (between word)) 255 then Some (between word) else None)
    else None

-- the data, or a text in a friendly script
unfoldable pub load_in : Spelling → List ℕ → Option (List ℕ)
load_in Strict word = bytes_load_in word
load_in Friendly word = option_or (bytes_load_in word) (quoted_in word)

-- an action, a destination, a sub-device, a PID and the data
unfoldable pub command_in : Dialect → List ℕ → List ℕ → List ℕ → List ℕ → List ℕ → Option Command
command_in d action dst sub pid load = do
  a ← action_in action
  u ← destination_in d.device dst
  s ← sub_in d.spelling sub
  p ← pid_in d.spelling d.own pid
  l ← load_in d.spelling load
  Some (record { dst = u; action = a; sub = s; pid = p; load = l })

-- ---- what goes wrong

abbrev pub lost_in : List ℕ → Option Fault
lost_in name =
    if bytes_eq name (codes "lost-request") then Some fault.LostRequest
    else (if bytes_eq name (codes "lost-reply") then Some fault.LostReply
    else None)

-- from 1 to 255
unfoldable pub raise_in : List ℕ → Option ℕ
raise_in word = do
  x ← number_up_to 255 word
  if x == 0 then None else Some x

abbrev pub altered : List ℕ → ℕ → ℕ → Option Fault
altered name k x =
    if bytes_eq name (codes "bad-request") then Some (fault.BadRequest k x)
    else (if bytes_eq name (codes "bad-reply") then Some (fault.BadReply k x)
    else None)

unfoldable pub altered_in : List ℕ → List ℕ → List ℕ → Option Fault
altered_in name slot raise = do
  k ← number_up_to 255 slot
  x ← raise_in raise
  altered name k x

-- nothing goes wrong where there is no word
unfoldable pub fault_in : List (List ℕ) → Option Fault
fault_in words =
    if length words == 0 then Some fault.None
    else (if length words == 1 then lost_in (word words 0)
    else (if length words == 3 then altered_in (word words 0) (word words 1) (word words 2)
    else None))

-- ---- a line

-- spaces and tabs stand between words
abbrev pub is_blank : ℕ → Bool
is_blank b = b == 32 || b == 9

-- what stands between blanks is a word, unless it is empty
abbrev pub is_word : List ℕ → Bool
is_word piece = not (length piece == 0)

abbrev pub is_quote : ℕ → Bool
is_quote b = b == 34

-- how many bytes at the front of a line are in double quotes, these included: all, where the second quote is missing
unfoldable pub quoted_front : List ℕ → ℕ
quoted_front line =
    if slice_index line 0 == 34 then option_map_or (λ end. end + 2) (position is_quote (drop 1 line)) (length line)
    else 0

-- where a blank ends the first piece of a line. In a friendly script none does so in double quotes, with which a piece begins.
unfoldable pub piece_end : Spelling → List ℕ → Option ℕ
piece_end Strict line = position is_blank line
piece_end Friendly line = option_map (λ n. quoted_front line + n) (position is_blank (drop (quoted_front line) line))

-- the first pieces of a line, and then the rest of it: each piece ends at a blank, and the next begins behind that
abbrev pub pieces_within : ℕ → List ℕ → List (List ℕ)
pieces_within zero line = line ∷ []
pieces_within (suc n) line = option_map_or (λ end. take end line ∷ pieces_within n (drop (end + 1) line)) (piece_end Friendly line) (line ∷ [])

-- the pieces of a line: there are no more than one for each byte, and one
unfoldable pub pieces_of : Spelling → List ℕ → List (List ℕ)
pieces_of Strict line = slice_split is_blank line
pieces_of Friendly line = pieces_within (length line) line

abbrev pub words_of : Spelling → List ℕ → List (List ℕ)
words_of spelling line = filter is_word (pieces_of spelling line)

-- a line without words, or a comment: its first word begins with a `#`
abbrev pub is_skipped : List (List ℕ) → Bool
is_skipped words = length words == 0 || slice_index (word words 0) 0 == 35

abbrev pub want_in : List ℕ → Option Want
want_in word =
    if bytes_eq word (codes "advisory") then Some Advisory
    else (if bytes_eq word (codes "warning") then Some Warning
    else (if bytes_eq word (codes "error") then Some Error
    else None))

-- how many sub-devices, for how many results there is room, and what is wanted
unfoldable pub setup_of : List ℕ → List ℕ → List ℕ → Option ScriptSetup
setup_of subs queue_size want = do
  s ← number_up_to 65535 subs
  q ← number_up_to 65535 queue_size
  w ← want_in want
  Some (record { subs = s; queue_size = q; want = w })

unfoldable pub setup_in : List (List ℕ) → Option ScriptSetup
setup_in words =
    if (length words == 4) && bytes_eq (word words 0) (codes "setup") then setup_of (word words 1) (word words 2) (word words 3)
    else None

unfoldable pub asked : Option Command → Option Fault → Option CrewStep
asked command fault = do
  c ← command
  f ← fault
  Some (Ask c f)

-- five words of a command, and what goes wrong
unfoldable pub command_step_in : Dialect → List (List ℕ) → Option CrewStep
command_step_in d words =
    if nat_le 5 (length words) then asked (command_in d (word words 0) (word words 1) (word words 2) (word words 3) (word words 4)) (fault_in (drop 5 words))
    else None

-- a poll, one report, reports until no job is outstanding, a change at the panel, or a command
unfoldable pub step_in : Dialect → List (List ℕ) → Option CrewStep
step_in d words =
    if bytes_eq (word words 0) (codes "collect") then option_map (λ f. Collect f) (fault_in (drop 1 words))
    else (if (length words == 1) && bytes_eq (word words 0) (codes "draw") then Some Draw
    else (if (length words == 2) && bytes_eq (word words 0) (codes "settle") then option_map (λ n. Settle n) (number_up_to 4294967295 (word words 1))
    else (if (length words == 2) && bytes_eq (word words 0) (codes "panel") then option_map (λ n. Panel n) (number_up_to 4294967295 (word words 1))
    else command_step_in d words)))

-- a search: the one word of a line of a friendly script
abbrev pub is_find : Spelling → List (List ℕ) → Bool
is_find Strict words = false
is_find Friendly words = (length words == 1) && bytes_eq (word words 0) (codes "find")

-- What the words of a line say.
unfoldable pub line_in : Dialect → List (List ℕ) → Line
line_in d words =
    if is_skipped words then Skipped
    else (if is_find d.spelling words then Finds d.device
    else option_map_or (λ step. Says step) (step_in d words) Faulty)

-- What they say where no line before says anything: a setup may stand there.
unfoldable pub first_line_in : Dialect → List (List ℕ) → Line
first_line_in d words = option_map_or (λ setup. Sets setup) (setup_in words) (line_in d words)

-- whether a line before says anything tells which of the two it is
abbrev pub line_at : Dialect → Bool → List (List ℕ) → Line
line_at d begun words = if begun then line_in d words else first_line_in d words

-- ---- a script

-- a carriage return before an LF goes with it; what follows the last LF keeps its own
abbrev pub without_returns : List (List ℕ) → List (List ℕ)
without_returns [] = []
without_returns (last ∷ []) = last ∷ []
without_returns (line ∷ next ∷ more) = without_return line ∷ without_returns (next ∷ more)

-- The lines of a text: LF ends each. The last LF may be missing, and behind it stands an empty line.
unfoldable pub lines_of : List ℕ → List (List ℕ)
lines_of text = without_returns (slice_split (λ b. b == 10) text)

-- what each line says
abbrev pub said_later : Dialect → List (List ℕ) → List Line
said_later d lines = map (λ line. line_in d (words_of d.spelling line)) lines

-- What each line says: the first one that isn't skipped may be a setup.
abbrev pub said_by : Dialect → List (List ℕ) → List Line
said_by d [] = []
said_by d (line ∷ more) = first_line_in d (words_of d.spelling line) ∷ (if is_skipped (words_of d.spelling line) then said_by d more else said_later d more)

abbrev pub steps_of_line : Line → List CrewStep
steps_of_line Skipped = []
steps_of_line (Sets setup) = []
steps_of_line (Says step) = step ∷ []
steps_of_line (Finds device) = search_of device
steps_of_line Faulty = []

-- the setup once a line is read
abbrev pub setup_after : ScriptSetup → Line → ScriptSetup
setup_after setup Skipped = setup
setup_after setup (Sets other) = other
setup_after setup (Says step) = setup
setup_after setup (Finds device) = setup
setup_after setup Faulty = setup

-- whether a line says anything by now
abbrev pub begun_after : Bool → Line → Bool
begun_after begun Skipped = begun
begun_after begun (Sets setup) = true
begun_after begun (Says step) = true
begun_after begun (Finds device) = true
begun_after begun Faulty = true

-- No line is faulty, and the lines say this setup and these steps in order.
pub record AreSaid (said : List Line) (setup : ScriptSetup) (steps : List CrewStep) : Type 0 where
  pub faultless : All (λ line. line ≢ Faulty) said
  pub setup_is : setup ≡ fold setup_after plain_setup said
  pub in_order : steps ≡ flat_map steps_of_line said

-- The first faulty line, counted from 1.
pub record IsFirstFaulty (said : List Line) (number : ℕ) : Type 0 where
  pub counted : 1 ≤ number
  pub faulty : slice_get said (number - 1) ≡ Some Faulty
  pub front : All (λ line. line ≢ Faulty) (take (number - 1) said)

-- The reader's view of a script: no line is read as faulty, and this setup and these steps are what is read.
pub record IsRead (d : Dialect) (text : List ℕ) (setup : ScriptSetup) (steps : List CrewStep) : Type 0 where
  pub within : length text ≤ 65536
  pub says : AreSaid (said_by d (lines_of text)) setup steps

-- Why a text is no script: it is too long, or else it has a first faulty line.
abbrev pub Refuses : Dialect → ScriptError → List ℕ → Type 0
Refuses d errors.OutOfMemory text = Unit {0}
Refuses d errors.TooLong text = 65536 < length text
Refuses d (errors.Line number) text = (length text ≤ 65536) × IsFirstFaulty (said_by d (lines_of text)) number
