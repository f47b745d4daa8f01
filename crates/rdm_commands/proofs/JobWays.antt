-- What is answered by a job is so by its row, and a GET so answered measures.
use Rattle.std.proofs.Common.{◌≡◌, ℕ, ◌==◌, Bool, true, false, cond, List, [], ◌∷◌, Option, Some, refl, sym, ap, ◌∙◌}
use Rattle.std.specs.List.{list_all}
use Rattle.rdm_table.specs.declared.kind.Verb.{Verb}
use Rattle.rdm_table.specs.declared.kind.Verb.TheVariants.{Get, Set}
use Rattle.rdm_table.specs.declared.slow.Slow.{Slow}
use Rattle.rdm_table.specs.declared.slow.Slow.TheVariants.{Lamp, Power, SelfTest, Sensor}
use Rattle.rdm_table.specs.declared.way.Way.{Way}
use Rattle.rdm_table.specs.declared.way.Way.TheVariants.{AtOnce, ByJob}
use Rattle.rdm_profile.specs.declared.profile.Profile.{Profile}
use Rattle.rdm_table.specs.Table.Rows.{command_of, Row, table, row_of, row_in, command_in}
use Rattle.rdm_table.specs.Table.Uses.{way_of, needs_no_job, way_here}
use Rattle.rdm_table.proofs.Bools.{both_true}

unless_at_once : (at_once : Bool) (way : Way) (slow : Slow) → cond at_once AtOnce way ≡ ByJob slow → way ≡ ByJob slow
unless_at_once true way slow e = absurd cc
unless_at_once false way slow e = e

pub job_here : (p : Profile) (way : Way) (verb : Verb) (arg : ℕ) (slow : Slow) → way_here p way verb arg ≡ ByJob slow → way ≡ ByJob slow
job_here p way Get arg slow e = unless_at_once (needs_no_job p way arg) way slow e
job_here p way Set arg slow e = e

abbrev measures : Way → Bool
measures (ByJob Lamp) = false
measures (ByJob Power) = false
measures (ByJob SelfTest) = false
measures _ = true

abbrev measures_of : Option Row → Bool
measures_of row = measures (way_of (command_in row Get))

first_or : (here : Bool) (r : Row) (later : Option Row) → measures_of (Some r) ≡ true → measures_of later ≡ true → measures_of (cond here (Some r) later) ≡ true
first_or true r later a b = a
first_or false r later a b = b

gets_measure : (rows : List Row) (pid : ℕ) → list_all (λ r. measures_of (Some r)) rows ≡ true → measures_of (row_in rows pid) ≡ true
gets_measure [] pid all = refl
gets_measure (r ∷ rows) pid all =
    let parts = both_true (measures_of (Some r)) (list_all (λ x. measures_of (Some x)) rows) all in
    first_or (r.pid == pid) r (row_in rows pid) parts.0 (gets_measure rows pid parts.1)

of_sensor : (slow : Slow) → measures (ByJob slow) ≡ true → slow ≡ Sensor
of_sensor Sensor e = refl
of_sensor Lamp e = absurd cc
of_sensor Power e = absurd cc
of_sensor SelfTest e = absurd cc

all_measure : list_all (λ r. measures_of (Some r)) table ≡ true
unfolding table
all_measure = refl

-- the table's only slow GETs measure
slow_get : (pid : ℕ) (slow : Slow) → way_of (command_of pid Get) ≡ ByJob slow → slow ≡ Sensor
unfolding row_of
slow_get pid slow e = of_sensor slow (sym (ap measures e) ∙ gets_measure table pid all_measure)

pub started_by : (p : Profile) (pid : ℕ) (verb : Verb) (way : Way) (arg : ℕ) (slow : Slow) → way ≡ way_of (command_of pid verb) → way_here p way verb arg ≡ ByJob slow → verb ≡ Get → slow ≡ Sensor
started_by p pid verb way arg slow same at get =
    slow_get pid slow (ap (λ (v : Verb). way_of (command_of pid v)) (sym get) ∙ sym same ∙ job_here p way verb arg slow at)
