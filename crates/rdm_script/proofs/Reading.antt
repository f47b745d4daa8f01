-- What is so of the bytes that were read is so of the whole input.
use Rattle.std.proofs.Common.{◌≡◌, ℕ, ◌+◌, ◌<◌, ◌≤◌, List, ◌++◌, length, take, Option, Some, None, IfSome, refl, sym, ap, subst, ◌∙◌, arith}
use Rattle.std.proofs.lemmas.List.{append-nil, length-append}
use Rattle.std.specs.Io.KnownBytes.{Appends, Consumes, IsAtEnd}
use Rattle.rdm_script.specs.declared.grammar.parsing.ScriptError.TheVariants as script
use Rattle.rdm_script.specs.declared.program.ProgramError.{ProgramError}
use Rattle.rdm_script.specs.declared.program.ProgramError.TheVariants.{Read, Script, Memory, Run, Write}
use Rattle.rdm_crew.specs.declared.error.RunError.TheVariants as run
use Rattle.rdm_script.specs.declared.playing.Unplayed.{Unplayed}
use Rattle.rdm_script.specs.declared.playing.Unplayed.TheVariants.{OutOfMemory, Faulty, Stopped}
use Rattle.rdm_script.specs.Playing.{IsUnplayed, fault_of_play}
use Rattle.rdm_script.specs.Program.{IsTraceOf, IsFailure}
use Rattle.rdm_script.specs.Scene.{Scene}

-- where the reader was read to its end
known : (P : List ℕ → Type 0) (before after : Option (List ℕ)) (items : List ℕ) → Consumes before after items → IsAtEnd after → P items → IfSome before P
known P None after items took ended h = tt
known P (Some bytes) None items took ended h = absurd took
known P (Some bytes) (Some rest) items took ended h =
    let whole : bytes ≡ items = took ∙ ap (λ (xs : List ℕ). items ++ xs) ended ∙ append-nil items in
    subst P (sym whole) h

-- where too much was read for a script
too_long : (before after : Option (List ℕ)) (items : List ℕ) → Consumes before after items → 65536 < length items → IfSome before (λ input. 65536 < length input)
too_long None after items took long = tt
too_long (Some bytes) None items took long = absurd took
too_long (Some bytes) (Some rest) items took long =
    let more : length bytes ≡ length items + length rest = ap length took ∙ length-append items rest in
    omega (arith, more, long)

each : (P Q : List ℕ → Type 0) → ((input : List ℕ) → P input → Q input) → (o : Option (List ℕ)) → IfSome o P → IfSome o Q
each P Q more None h = tt
each P Q more (Some input) h = more input h

always : (P : List ℕ → Type 0) → ((input : List ℕ) → P input) → (o : Option (List ℕ)) → IfSome o P
always P holds None = tt
always P holds (Some input) = holds input

-- the reader was read to its end, unless there is more than a script may have
abbrev pub IsInput : Option (List ℕ) → Option (List ℕ) → List ℕ → Type 0
IsInput before after items = Consumes before after items × (length items ≤ 65536 → IsAtEnd after)

pub failed_input : (scene : Scene) (e : ProgramError) (before after : Option (List ℕ)) (items : List ℕ) → IsInput before after items → IsFailure scene e items → IfSome before (IsFailure scene e)
failed_input scene Read before after items input h = always (IsFailure scene Read) (λ i. tt) before
failed_input scene (Script script.OutOfMemory) before after items input h = absurd (h.1 refl)
failed_input scene (Script script.TooLong) before after items input h =
    each (λ i. 65536 < length i) (IsFailure scene (Script script.TooLong)) (λ i long. (long, h.1)) before (too_long before after items input.0 h.0)
failed_input scene (Script (script.Line n)) before after items input h =
    known (IsFailure scene (Script (script.Line n))) before after items input.0 (input.1 h.0.0) h
failed_input scene Memory before after items input h = always (IsFailure scene Memory) (λ i. tt) before
failed_input scene (Run e) before after items input h = known (IsFailure scene (Run e)) before after items input.0 (input.1 h.0.spelled.within) h
failed_input scene Write before after items input h = always (IsFailure scene Write) (λ i. tt) before

pub traced_input : (scene : Scene) (before after old new : Option (List ℕ)) (items text : List ℕ) → IsInput before after items → IsTraceOf scene items text → Appends old new text
    → IfSome before (λ input. (t : List ℕ) × IsTraceOf scene input t × Appends old new t)
traced_input scene before after old new items text input trace wrote =
    known (λ i. (t : List ℕ) × IsTraceOf scene i t × Appends old new t) before after items input.0 (input.1 trace.spelled.within) (text, trace, wrote)

pub front_input : (scene : Scene) (before after old new : Option (List ℕ)) (items text : List ℕ) → IsInput before after items → IsTraceOf scene items text → (count : ℕ) × Appends old new (take count text)
    → IfSome before (λ input. (t : List ℕ) × (count : ℕ) × IsTraceOf scene input t × Appends old new (take count t))
front_input scene before after old new items text input trace wrote =
    known (λ i. (t : List ℕ) × (count : ℕ) × IsTraceOf scene i t × Appends old new (take count t)) before after items input.0 (input.1 trace.spelled.within) (text, wrote.0, trace, wrote.1)

-- why a script isn't played is why the program fails
pub unplayed_fails : (scene : Scene) (text : List ℕ) (why : Unplayed) → IsUnplayed scene text why → IsFailure scene (fault_of_play why) text
unplayed_fails scene text OutOfMemory h = tt
unplayed_fails scene text (Faulty script.OutOfMemory) h = tt
unplayed_fails scene text (Faulty script.TooLong) h = h
unplayed_fails scene text (Faulty (script.Line n)) h = h
unplayed_fails scene text (Stopped run.OutOfMemory line) h = tt
unplayed_fails scene text (Stopped run.Reserved line) h = h
unplayed_fails scene text (Stopped run.TooLong line) h = h
unplayed_fails scene text (Stopped run.Unsettled line) h = h
unplayed_fails scene text (Stopped run.Astray line) h = h
unplayed_fails scene text (Stopped run.Missing line) h = h
unplayed_fails scene text (Stopped run.BadSetup line) h = h
