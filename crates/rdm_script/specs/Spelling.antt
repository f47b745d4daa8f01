-- What a script is: how its lines spell a setup and steps, word by word. Bytes are spelled as a trace prints them, with
-- digits of either case. `d` is the dialect: the UID of the device that the script is played on, whether the words are
-- spelled strictly, and the parameters of the maker's own. In a friendly script a sub-device, a parameter and data have further spellings,
-- and a line may say a search; all else is the same.
use Rattle.std.specs.Prelude.{◌≡◌, ◌≢◌, true, false, ℕ, ◌<◌, ◌≤◌, ◌⊎◌, List, [], ◌∷◌, ◌++◌, length, drop, map, slice_index, Some, codes}
use Rattle.std.specs.List.{list_all}
use Rattle.std.specs.Int.{w16}
use Rattle.rdm_frame.specs.declared.uid.Uid.{Uid}
use Rattle.rdm_frame.specs.Addressing.{all_devices, all_of}
use Rattle.rdm_frame.specs.Digits.{SpellsBytes, SpellsNumber}
use Rattle.rdm_frame.specs.UidText.{SpellsUid}
use Rattle.rdm_frame.specs.declared.fault.Fault.{Fault}
use Rattle.rdm_frame.specs.declared.fault.Fault.TheVariants as fault
use Rattle.rdm_profile.specs.declared.profile.own.ParameterDef.{ParameterDef}
use Rattle.rdm_collector.specs.declared.command.Action.{Action}
use Rattle.rdm_collector.specs.declared.command.Action.TheVariants.{Disc, Get, Set}
use Rattle.rdm_collector.specs.declared.command.Command.{Command}
use Rattle.rdm_collector.specs.declared.want.Want.{Want}
use Rattle.rdm_collector.specs.declared.want.Want.TheVariants.{Advisory, Warning, Error}
use Rattle.rdm_crew.specs.declared.step.CrewStep.{CrewStep}
use Rattle.rdm_crew.specs.declared.step.CrewStep.TheVariants.{Ask, Collect, Draw, Settle, Panel}
use Rattle.rdm_script.specs.Dialects.{Dialect}
use Rattle.rdm_script.specs.declared.dialect.Spelling.{Spelling}
use Rattle.rdm_script.specs.declared.dialect.Spelling.TheVariants.{Strict, Friendly}
use Rattle.rdm_script.specs.declared.script.ScriptSetup.{ScriptSetup}
use Rattle.rdm_script.specs.Decimals.{SpellsDecimal}
use Rattle.rdm_script.specs.Parties.{plain_setup}
use Rattle.rdm_script.specs.Search.{search_of}
use Rattle.rdm_script.specs.Grammar.{word, pid_by_name, is_shown, is_skipped, words_of, lines_of}

-- The word says whom a command is for: by a name, or by a UID. The names are those of the device that the script is
-- played on, of every device, and of every device of its manufacturer.
abbrev pub SpellsDestination : Uid → List ℕ → Uid → Type 0
SpellsDestination dev text u =
    ((text ≡ codes "dev") × (u ≡ dev)) ⊎
    (((text ≡ codes "all") × (u ≡ all_devices)) ⊎
    (((text ≡ codes "maker") × (u ≡ all_of dev.maker)) ⊎ SpellsUid text u))

-- The word is a number up to 512 in one to three decimal digits, with no zero in front.
pub record SpellsCount (text : List ℕ) (n : ℕ) : Type 0 where
  pub digits : SpellsDecimal text n
  pub at_most_three : length text ≤ 3
  pub plain : (length text ≡ 1) ⊎ (slice_index text 0 ≢ 48)
  pub fits : n ≤ 512

-- The word says which sub-device: by four hexadecimal digits. A friendly script may say `root`, or a decimal number.
abbrev pub SpellsSub : Spelling → List ℕ → ℕ → Type 0
SpellsSub Strict text sub = SpellsNumber w16 text sub
SpellsSub Friendly text sub = SpellsNumber w16 text sub ⊎ (((text ≡ codes "root") × (sub ≡ 0)) ⊎ SpellsCount text sub)

-- The word says which parameter: by the four hexadecimal digits of its PID. A friendly script may say its name: one of
-- the standard's, or in double quotes one of the maker's own.
abbrev pub SpellsPid : Spelling → List ParameterDef → List ℕ → ℕ → Type 0
SpellsPid Strict own text pid = SpellsNumber w16 text pid
SpellsPid Friendly own text pid = SpellsNumber w16 text pid ⊎ (pid_by_name own text ≡ Some pid)

-- The word is the data of a command: a hyphen for none, or at most 255 bytes.
abbrev pub SpellsData : List ℕ → List ℕ → Type 0
SpellsData text load = ((text ≡ codes "-") × (load ≡ [])) ⊎ ((length load ≤ 255) × SpellsBytes text load)

-- The word is a text in double quotes, of at most 255 printable characters of ASCII, with no double quote among them.
pub record SpellsQuoted (text load : List ℕ) : Type 0 where
  pub quoted : text ≡ 34 ∷ (load ++ 34 ∷ [])
  pub printable : list_all is_shown load ≡ true
  pub fits : length load ≤ 255

-- The word says the data of a command. A friendly script may say them as a text.
abbrev pub SpellsLoad : Spelling → List ℕ → List ℕ → Type 0
SpellsLoad Strict text load = SpellsData text load
SpellsLoad Friendly text load = SpellsData text load ⊎ SpellsQuoted text load

-- The word says what a command does.
abbrev pub SpellsAction : List ℕ → Action → Type 0
SpellsAction text Disc = text ≡ codes "disc"
SpellsAction text Get = text ≡ codes "get"
SpellsAction text Set = text ≡ codes "set"

-- The first five words of a line say this command.
pub record SpellsCommand (d : Dialect) (words : List (List ℕ)) (c : Command) : Type 0 where
  pub five : 5 ≤ length words
  pub action : SpellsAction (word words 0) c.action
  pub destination : SpellsDestination d.device (word words 1) c.dst
  pub sub : SpellsSub d.spelling (word words 2) c.sub
  pub pid : SpellsPid d.spelling d.own (word words 3) c.pid
  pub load : SpellsLoad d.spelling (word words 4) c.load

-- The words are this name, a slot and by how much it is raised.
pub record SpellsRaise (name : List ℕ) (words : List (List ℕ)) (k x : ℕ) : Type 0 where
  pub three : length words ≡ 3
  pub named : word words 0 ≡ name
  pub slot : SpellsDecimal (word words 1) k
  pub slot_fits : k ≤ 255
  pub raise : SpellsDecimal (word words 2) x
  pub raises : 0 < x
  pub raise_fits : x ≤ 255

-- The words say what goes wrong with a transaction. Where there are none, nothing does.
abbrev pub SpellsFault : List (List ℕ) → Fault → Type 0
SpellsFault words fault.None = words ≡ []
SpellsFault words fault.LostRequest = words ≡ codes "lost-request" ∷ []
SpellsFault words fault.LostReply = words ≡ codes "lost-reply" ∷ []
SpellsFault words (fault.BadRequest k x) = SpellsRaise (codes "bad-request") words k x
SpellsFault words (fault.BadReply k x) = SpellsRaise (codes "bad-reply") words k x

-- The words are this name, and how often a lane may be found empty.
pub record SpellsEmpties (name : List ℕ) (words : List (List ℕ)) (n : ℕ) : Type 0 where
  pub two : length words ≡ 2
  pub named : word words 0 ≡ name
  pub empties : SpellsDecimal (word words 1) n
  pub empties_fit : n ≤ 4294967295

-- The words of a line say this step.
abbrev pub SpellsStep : Dialect → List (List ℕ) → CrewStep → Type 0
SpellsStep d words (Ask c f) = SpellsCommand d words c × SpellsFault (drop 5 words) f
SpellsStep d words (Collect f) = (word words 0 ≡ codes "collect") × SpellsFault (drop 1 words) f
SpellsStep d words Draw = words ≡ codes "draw" ∷ []
SpellsStep d words (Settle empties) = SpellsEmpties (codes "settle") words empties
SpellsStep d words (Panel empties) = SpellsEmpties (codes "panel") words empties

-- The words of a line say a search of the device that the script is played on. Those of a strict script never do.
abbrev pub SpellsFind : Dialect → List (List ℕ) → Type 0
SpellsFind d words = (d.spelling ≡ Friendly) × (words ≡ codes "find" ∷ [])

-- The words of a line say these steps: a single one, or those of a search.
abbrev pub SpellsLine : Dialect → List (List ℕ) → List CrewStep → Type 0
SpellsLine d words said = ((step : CrewStep) × (said ≡ step ∷ []) × SpellsStep d words step) ⊎ (SpellsFind d words × (said ≡ search_of d.device))

-- The word says which messages the controller wants.
abbrev pub SpellsWant : List ℕ → Want → Type 0
SpellsWant text Advisory = text ≡ codes "advisory"
SpellsWant text Warning = text ≡ codes "warning"
SpellsWant text Error = text ≡ codes "error"

-- The words of a line say this setup: how many sub-devices there are, for how many results of slow commands there is
-- room, and what the controller wants.
pub record SpellsSetup (words : List (List ℕ)) (s : ScriptSetup) : Type 0 where
  pub four : length words ≡ 4
  pub named : word words 0 ≡ codes "setup"
  pub subs : SpellsDecimal (word words 1) s.subs
  pub subs_fit : s.subs ≤ 65535
  pub queue_size : SpellsDecimal (word words 2) s.queue_size
  pub queue_size_fits : s.queue_size ≤ 65535
  pub want : SpellsWant (word words 3) s.want

-- What lines say, each taken by its words: a line without words or a comment says nothing, and every other one says the
-- steps that its words spell.
abbrev pub SpellSteps : Dialect → List (List (List ℕ)) → List CrewStep → Type 0
SpellSteps d [] steps = steps ≡ []
SpellSteps d (words ∷ more) steps =
    ((is_skipped words ≡ true) × SpellSteps d more steps) ⊎
    ((is_skipped words ≡ false) × (said : List CrewStep) × (rest : List CrewStep) × (steps ≡ said ++ rest) × SpellsLine d words said × SpellSteps d more rest)

-- The lines say this setup, and then these steps. Before the setup stand only lines that say nothing.
abbrev pub SpellSetupAndSteps : Dialect → List (List (List ℕ)) → ScriptSetup → List CrewStep → Type 0
SpellSetupAndSteps d [] setup steps = ⊥
SpellSetupAndSteps d (words ∷ more) setup steps =
    ((is_skipped words ≡ true) × SpellSetupAndSteps d more setup steps) ⊎ (SpellsSetup words setup × SpellSteps d more steps)

-- The text is a script of this setup and these steps: it has at most 65,536 bytes, and its lines say them in order. A
-- script that says no setup has the plain one.
pub record IsScript (d : Dialect) (text : List ℕ) (setup : ScriptSetup) (steps : List CrewStep) : Type 0 where
  pub within : length text ≤ 65536
  pub says : SpellSetupAndSteps d (map (words_of d.spelling) (lines_of text)) setup steps ⊎ ((setup ≡ plain_setup) × SpellSteps d (map (words_of d.spelling) (lines_of text)) steps)
