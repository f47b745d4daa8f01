-- What a file sets twice.
use Rattle.std.specs.Prelude.{ℕ, Bool, ◌==◌, ◌&&◌, List, [], ◌∷◌, ◌++◌, find, Option}
use Rattle.std.specs.Option.{option_map, option_map_or}
use Rattle.rdm_frame.specs.Addressing.{same_uid}
use Rattle.rdm_settings.specs.declared.complaint.Complaint.{Complaint}
use Rattle.rdm_settings.specs.declared.complaint.Trouble.{Trouble}
use Rattle.rdm_settings.specs.declared.complaint.Trouble.TheVariants as trouble
use Rattle.rdm_settings.specs.declared.setting.Setting.{Setting}

-- what is wrong with a whole line
abbrev pub of_line : ℕ → Trouble → Complaint
of_line line wrong = record { line = line; column = []; cell = []; trouble = wrong }

-- they set the same parameter of the same device
abbrev pub same : Setting → Setting → Bool
same a b = same_uid a.uid b.uid && ((a.sub == b.sub) && (a.pid == b.pid))

-- the line of the first that sets the same
abbrev pub line_before : List Setting → Setting → Option ℕ
line_before before s = option_map (λ first. first.line) (find (λ first. same s first) before)

abbrev pub again : Setting → ℕ → Complaint
again s line = of_line s.line (trouble.SetTwice s.uid s.sub s.pid line)

-- a complaint of a setting if one of those before it sets the same
unfoldable pub set_again : List Setting → Setting → List Complaint
set_again before s = option_map_or (λ line. again s line ∷ []) (line_before before s) []

-- the same of each setting behind these
abbrev pub twice_behind : List Setting → List Setting → List Complaint
twice_behind before [] = []
twice_behind before (s ∷ more) = set_again before s ++ twice_behind (before ++ s ∷ []) more

abbrev pub twice : List Setting → List Complaint
twice settings = twice_behind [] settings
