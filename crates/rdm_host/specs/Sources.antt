-- Where bytes are read, and whose they are.
use Rattle.std.specs.Prelude.{◌≡◌, ℕ, List, Option, Some, None, codes, if◌then◌else◌}
use Rattle.std.specs.Str.{bytes_eq}
use Rattle.clap.specs.declared.parser.matches.ArgMatches.{ArgMatches}
use Rattle.clap.specs.Matches.{found_of, first_value}
use Rattle.rdm_host.specs.declared.fixture.FixtureFile.{FixtureFile}
use Rattle.rdm_host.specs.declared.source.Source.{Source}
use Rattle.rdm_host.specs.declared.source.Source.TheVariants.{Input, File}

-- the path of a file; standard input has none
abbrev pub path_of : Source → Option (List ℕ)
path_of Input = None
path_of (File path) = Some path.now

-- the path that a word of the command line names: no word and a hyphen name standard input
abbrev pub path_named : Option (List ℕ) → Option (List ℕ)
path_named None = None
path_named (Some word) = if bytes_eq word (codes "-") then None else Some word

-- It is the fixture's file that the command line asks for, if it asks for one: its bytes are what is read at that name.
abbrev pub IsAskedFor : (Option (List ℕ) → List ℕ → Type 0) → ArgMatches → Option FixtureFile → Type 0
IsAskedFor reads asked None = first_value (found_of asked) (codes "fixture") ≡ None
IsAskedFor reads asked (Some file) =
    (word : List ℕ) × (first_value (found_of asked) (codes "fixture") ≡ Some word) × reads (path_named (Some word)) file.bytes.items
