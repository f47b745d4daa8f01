-- What devices of one make answer to a GET or a SET: both acknowledge it, both start the same job, or one rejects what the other takes.
use Rattle.std.proofs.Common.{◌≡◌, ℕ, Bool, true, false, not, cond, ◌==◌, ◌&&◌, List, Option, Some, None, Result, Ok, Err, refl, sym, ap, subst, ◌∙◌, length}
use Rattle.std.specs.List.{list_all}
use Rattle.rdm_frame.specs.declared.frame.Frame.{Frame}
use Rattle.rdm_frame.specs.declared.nack.Nack.{Nack}
use Rattle.rdm_frame.specs.declared.nack.Nack.TheVariants.{UnknownPid, FormatError, UnsupportedCommandClass, DataOutOfRange, WriteProtect, BufferFull, SubDeviceOutOfRange}
use Rattle.rdm_frame.specs.Nacks.{nack_code}
use Rattle.rdm_profile.specs.declared.profile.Profile.{Profile}
use Rattle.rdm_profile.specs.declared.value.Value.{Value}
use Rattle.rdm_profile.specs.Forms.{has_length, value_in}
use Rattle.rdm_profile.specs.Values.{byte_or_0, word_or_0}
use Rattle.rdm_table.specs.declared.kind.Verb.{Verb}
use Rattle.rdm_table.specs.declared.kind.Verb.TheVariants as verbs
use Rattle.rdm_table.specs.declared.way.Way.{Way}
use Rattle.rdm_table.specs.declared.way.Way.TheVariants.{AtOnce, ByJob, FromQueue, FromStatus, Clears}
use Rattle.rdm_table.specs.Table.Rows.{Command, Row, row_of, row_or, row_at, is_left_out, command_in, command_of}
use Rattle.rdm_table.specs.Table.Uses.{read, way_of, way_at, way_here, needs_no_job, is_by_job, is_slow, in_range_of}
use Rattle.rdm_added.specs.Locking.{is_no_pin}
use Rattle.rdm_commands.specs.Commands.Added.{row_here}
use Rattle.rdm_commands.proofs.AddedRows.{here_is}
use Rattle.rdm_commands.specs.declared.jobs.ask.Ask.{Ask}
use Rattle.rdm_commands.specs.declared.jobs.work.Work.{Work}
use Rattle.rdm_commands.specs.declared.verdict.Verdict.{Verdict}
use Rattle.rdm_commands.specs.declared.verdict.Verdict.TheVariants.{Reply, Start, Queue, Status, Clear, Refuse}
use Rattle.rdm_commands.specs.Jobs.Asks.{ask_of}
use Rattle.rdm_device.specs.Device.Blocks.{fits}
use Rattle.rdm_params.specs.Commands.Commands.{accepted, addressed, after_accepted, after_by_row, answer_by_row, answer_to_set, answered, block_answer, block_taken, block_told, carried_out, check, command_at, got, got_by_row, is_all_call, is_block, is_protected, known, read_data, reply_at, sub_spots, taken, unprotected, verdict, work, ◌>>=◌}
use Rattle.rdm_params.specs.Device.Parameters.{Parameters}
use Rattle.rdm_params.specs.Jobs.Laws.{SameDevices}
use Rattle.rdm_params.proofs.StaysAccepted.{known_alike, stays_accepted}
use Rattle.rdm_judge.specs.Judging.{is_either, is_set}
use Rattle.rdm_judge.proofs.Pairs.{Both, Leaves, both_locked, both_suited, either_same, pin_behind, read_behind, locked_format, suited_behind, Behind, then_both}

-- ---- rules 6 to 11

abbrev by_profile : Parameters → Profile → ℕ → ℕ → Verb → List ℕ → Result Value Nack
by_profile d profile sub pid verb bytes =
    known d sub (row_at profile pid) verb >>= (λ u. unprotected profile d.added pid (command_in (row_at profile pid) verb) verb bytes >>= (λ w. read_data d sub (command_in (row_at profile pid) verb) verb bytes))

is_by_profile : (d : Parameters) (sub pid : ℕ) (verb : Verb) (bytes : List ℕ) → accepted d sub pid verb bytes ≡ by_profile d d.profile sub pid verb bytes
unfolding accepted
is_by_profile d sub pid verb bytes = refl

both_known : (f : Frame) (p q : Parameters) (profile : Profile) (sub pid : ℕ) (verb : Verb) (bytes : List ℕ) → SameDevices p q → ((u : Unit {0}) → Both f (unprotected profile p.added pid (command_in (row_at profile pid) verb) verb bytes >>= (λ w. read_data p sub (command_in (row_at profile pid) verb) verb bytes)) (unprotected profile q.added pid (command_in (row_at profile pid) verb) verb bytes >>= (λ w. read_data q sub (command_in (row_at profile pid) verb) verb bytes))) → Both f (by_profile p profile sub pid verb bytes) (by_profile q profile sub pid verb bytes)
both_known f p q profile sub pid verb bytes same rest =
    subst (λ (r : Result (Unit {0}) Nack). Both f (by_profile p profile sub pid verb bytes) (r >>= (λ u. unprotected profile q.added pid (command_in (row_at profile pid) verb) verb bytes >>= (λ w. read_data q sub (command_in (row_at profile pid) verb) verb bytes)))) (sym (known_alike p q sub (row_at profile pid) verb same))
    (then_both f (known p sub (row_at profile pid) verb) _ _ rest)

both_read : (f : Frame) (p q : Parameters) (sub : ℕ) (command : Option Command) (verb : Verb) (bytes : List ℕ) → ((is_all_call sub verb && is_slow command) ≡ true → ((f.sub == 0xFFFF) ≡ true) × (is_set f ≡ true)) → Both f (read_data p sub command verb bytes) (read_data q sub command verb bytes)
both_read f p q sub command verb bytes for =
    then_both f (read command bytes) _ _ (λ v. both_suited f v (list_all (λ spot. in_range_of command spot v) (addressed p sub verb)) (list_all (λ spot. in_range_of command spot v) (addressed q sub verb)) (is_all_call sub verb && is_slow command) for)

both_get : (f : Frame) (p q : Parameters) (profile : Profile) (sub pid : ℕ) (bytes : List ℕ) → SameDevices p q → Both f (by_profile p profile sub pid verbs.Get bytes) (by_profile q profile sub pid verbs.Get bytes)
both_get f p q profile sub pid bytes same = both_known f p q profile sub pid verbs.Get bytes same (λ u. both_read f p q sub (command_in (row_at profile pid) verbs.Get) verbs.Get bytes (λ e. absurd cc))

first_true : (a b : Bool) → (a && b) ≡ true → a ≡ true
first_true true b e = refl
first_true false b e = absurd cc

for_all : (f : Frame) (command : Option Command) → is_set f ≡ true → (is_all_call f.sub verbs.Set && is_slow command) ≡ true → ((f.sub == 0xFFFF) ≡ true) × (is_set f ≡ true)
for_all f command set e = (first_true (f.sub == 0xFFFF) (is_slow command) e, set)

data_behind : (f : Frame) (d : Parameters) (command : Option Command) (bytes : List ℕ) → is_set f ≡ true → Behind f (read_data d f.sub command verbs.Set bytes)
data_behind f d None bytes set = locked_format f set
data_behind f d (Some c) bytes set =
    read_behind f set (has_length c.form (length bytes)) (value_in c.form bytes) (λ v. taken d f.sub (Some c) verbs.Set v)
    (λ v. suited_behind f set v (list_all (λ spot. in_range_of (Some c) spot v) (addressed d f.sub verbs.Set)) (is_all_call f.sub verbs.Set && is_slow (Some c)) (for_all f (Some c) set))

both_set : (f : Frame) (p q : Parameters) (profile : Profile) (pid : ℕ) (bytes : List ℕ) → is_set f ≡ true → SameDevices p q → Both f (by_profile p profile f.sub pid verbs.Set bytes) (by_profile q profile f.sub pid verbs.Set bytes)
both_set f p q profile pid bytes set same =
    let command : Option Command = command_in (row_at profile pid) verbs.Set in
    let no_pin : Bool = is_no_pin pid bytes in
    let r : Result Value Nack = read_data p f.sub command verbs.Set bytes in
    let s : Result Value Nack = read_data q f.sub command verbs.Set bytes in
    both_known f p q profile f.sub pid verbs.Set bytes same (λ u. both_locked f set (is_protected profile p.added pid command bytes) (is_protected profile q.added pid command bytes) no_pin r s
    (pin_behind f set no_pin r (data_behind f p command bytes set)) (pin_behind f set no_pin s (data_behind f q command bytes set))
    (then_both f (check (not no_pin) FormatError) (λ u. r) (λ u. s) (λ u. both_read f p q f.sub command verbs.Set bytes (for_all f command set))))

both_by : (f : Frame) (p q : Parameters) (sub pid : ℕ) (verb : Verb) (bytes : List ℕ) → SameDevices p q → Both f (by_profile p p.profile sub pid verb bytes) (by_profile q p.profile sub pid verb bytes) → Both f (accepted p sub pid verb bytes) (accepted q sub pid verb bytes)
both_by f p q sub pid verb bytes same both =
    subst (λ (r : Result Value Nack). Both f r (accepted q sub pid verb bytes)) (sym (is_by_profile p sub pid verb bytes))
    (subst (λ (s : Result Value Nack). Both f (by_profile p p.profile sub pid verb bytes) s) (sym (is_by_profile q sub pid verb bytes ∙ ap (λ (profile : Profile). by_profile q profile sub pid verb bytes) same.profile)) both)

-- ---- the verdicts

-- What a verdict is for the response: an ACK, a job, or a reason.
pub data Kind : Type 0 where
  Acked : Kind
  Started : Work → Kind
  Refused : Nack → Kind

abbrev pub kind_of : Verdict → Kind
kind_of (Reply bytes) = Acked
kind_of (Start w) = Started w
kind_of (Queue ask) = Acked
kind_of (Status ask) = Acked
kind_of Clear = Acked
kind_of (Refuse n) = Refused n

abbrev pub Alike : Frame → Kind → Kind → Type 0
Alike f (Refused n) (Refused m) = is_either f (nack_code n) (nack_code m) ≡ true
Alike f (Refused n) Acked = Leaves f n
Alike f (Refused n) (Started w) = ⊥
Alike f Acked (Refused m) = Leaves f m
Alike f Acked Acked = Unit {0}
Alike f Acked (Started w) = ⊥
Alike f (Started w) (Refused m) = ⊥
Alike f (Started w) Acked = ⊥
Alike f (Started w) (Started x) = w ≡ x

in_one_way : (f : Frame) (way : Way) (first second : List ℕ) (job : Work) (ask : Ask) → Alike f (kind_of (answered way first job ask)) (kind_of (answered way second job ask))
in_one_way f AtOnce first second job ask = tt
in_one_way f (ByJob slow) first second job ask = refl
in_one_way f FromQueue first second job ask = tt
in_one_way f FromStatus first second job ask = tt
in_one_way f Clears first second job ask = tt

left_by_second : (f : Frame) (n : Nack) (way : Way) (bytes : List ℕ) (job : Work) (ask : Ask) → is_by_job way ≡ false → Leaves f n → Alike f (Refused n) (kind_of (answered way bytes job ask))
left_by_second f n AtOnce bytes job ask quick leaves = leaves
left_by_second f n (ByJob slow) bytes job ask quick leaves = absurd cc
left_by_second f n FromQueue bytes job ask quick leaves = leaves
left_by_second f n FromStatus bytes job ask quick leaves = leaves
left_by_second f n Clears bytes job ask quick leaves = leaves

left_by_first : (f : Frame) (n : Nack) (way : Way) (bytes : List ℕ) (job : Work) (ask : Ask) → is_by_job way ≡ false → Leaves f n → Alike f (kind_of (answered way bytes job ask)) (Refused n)
left_by_first f n AtOnce bytes job ask quick leaves = leaves
left_by_first f n (ByJob slow) bytes job ask quick leaves = absurd cc
left_by_first f n FromQueue bytes job ask quick leaves = leaves
left_by_first f n FromStatus bytes job ask quick leaves = leaves
left_by_first f n Clears bytes job ask quick leaves = leaves

either_quick : (at_once : Bool) (way : Way) → is_by_job way ≡ false → is_by_job (cond at_once AtOnce way) ≡ false
either_quick true way e = refl
either_quick false way e = e

quick_here : (profile : Profile) (way : Way) (verb : Verb) (arg : ℕ) → is_by_job way ≡ false → is_by_job (way_here profile way verb arg) ≡ false
quick_here profile way verbs.Get arg e = either_quick (needs_no_job profile way arg) way e
quick_here profile way verbs.Set arg e = e

quick_row : (left : Bool) (first later : Option Row) (verb : Verb) → is_slow (command_in first verb) ≡ false → way_of (command_in later verb) ≡ AtOnce → is_slow (command_in (cond left None (row_or first later)) verb) ≡ false
quick_row true first later verb quick at_once = refl
quick_row false (Some r) later verb quick at_once = quick
quick_row false None later verb quick at_once = ap is_by_job at_once

quick_at : (profile : Profile) (pid : ℕ) (verb : Verb) → is_slow (command_of pid verb) ≡ false → is_slow (command_in (row_at profile pid) verb) ≡ false
quick_at profile pid verb quick = quick_row (is_left_out profile pid) (row_of pid) (row_here profile pid) verb quick ((here_is profile pid).way verb)

-- the same value at both
same_value : (f : Frame) (now then : Parameters) (sub pid : ℕ) (command : Option Command) (verb : Verb) (v : Value) → then.profile ≡ now.profile → Alike f (kind_of (verdict now sub pid command verb (Ok v))) (kind_of (verdict then sub pid command verb (Ok v)))
same_value f now then sub pid command verb v e =
    subst (λ (profile : Profile). Alike f (kind_of (verdict now sub pid command verb (Ok v))) (kind_of (answered (way_at profile command verb v) (reply_at command (addressed then sub verb) v) (work sub pid verb v) (ask_of (byte_or_0 v))))) (sym e)
    (in_one_way f (way_at now.profile command verb v) (reply_at command (addressed now sub verb) v) (reply_at command (addressed then sub verb) v) (work sub pid verb v) (ask_of (byte_or_0 v)))

slow_alike : (f : Frame) (now then : Parameters) (sub pid : ℕ) (command : Option Command) (verb : Verb) (r : Result Value Nack) → then.profile ≡ now.profile → Alike f (kind_of (verdict now sub pid command verb r)) (kind_of (verdict then sub pid command verb r))
slow_alike f now then sub pid command verb (Ok v) e = same_value f now then sub pid command verb v e
slow_alike f now then sub pid command verb (Err n) e = either_same f (nack_code n)

quick_alike : (f : Frame) (now then : Parameters) (sub pid : ℕ) (command : Option Command) (verb : Verb) (r s : Result Value Nack) → then.profile ≡ now.profile → is_slow command ≡ false → Both f r s → Alike f (kind_of (verdict now sub pid command verb r)) (kind_of (verdict then sub pid command verb s))
quick_alike f now then sub pid command verb (Ok v) (Ok w) e quick both =
    subst (λ (x : Value). Alike f (kind_of (verdict now sub pid command verb (Ok v))) (kind_of (verdict then sub pid command verb (Ok x)))) both (same_value f now then sub pid command verb v e)
quick_alike f now then sub pid command verb (Ok v) (Err m) e quick leaves =
    left_by_first f m (way_at now.profile command verb v) (reply_at command (addressed now sub verb) v) (work sub pid verb v) (ask_of (byte_or_0 v)) (quick_here now.profile (way_of command) verb (byte_or_0 v) quick) leaves
quick_alike f now then sub pid command verb (Err n) (Ok w) e quick leaves =
    left_by_second f n (way_at then.profile command verb w) (reply_at command (addressed then sub verb) w) (work sub pid verb w) (ask_of (byte_or_0 w)) (quick_here then.profile (way_of command) verb (byte_or_0 w) quick) leaves
quick_alike f now then sub pid command verb (Err n) (Err m) e quick both = both

-- by the row of the profile, whether or not it is slow
row_alike : (f : Frame) (p q now then : Parameters) (sub pid : ℕ) (verb : Verb) (bytes : List ℕ) (slow : Bool) → is_slow (command_of pid verb) ≡ slow → SameDevices p q → then.profile ≡ now.profile → Both f (accepted p sub pid verb bytes) (accepted q sub pid verb bytes) → Alike f (kind_of (verdict now sub pid (command_at p pid verb) verb (accepted p sub pid verb bytes))) (kind_of (verdict then sub pid (command_at p pid verb) verb (accepted q sub pid verb bytes)))
row_alike f p q now then sub pid verb bytes true slow same e both =
    subst (λ (s : Result Value Nack). Alike f (kind_of (verdict now sub pid (command_at p pid verb) verb (accepted p sub pid verb bytes))) (kind_of (verdict then sub pid (command_at p pid verb) verb s))) (sym (stays_accepted p q sub pid verb bytes same slow))
    (slow_alike f now then sub pid (command_at p pid verb) verb (accepted p sub pid verb bytes) e)
row_alike f p q now then sub pid verb bytes false quick same e both =
    quick_alike f now then sub pid (command_at p pid verb) verb (accepted p sub pid verb bytes) (accepted q sub pid verb bytes) e (quick_at p.profile pid verb quick) both

-- the command of both is that of the first
at_first : (f : Frame) (p q then : Parameters) (sub pid : ℕ) (verb : Verb) (r : Result Value Nack) (k : Kind) → SameDevices p q → Alike f k (kind_of (verdict then sub pid (command_at p pid verb) verb r)) → Alike f k (kind_of (verdict then sub pid (command_at q pid verb) verb r))
at_first f p q then sub pid verb r k same alike =
    subst (λ (profile : Profile). Alike f k (kind_of (verdict then sub pid (command_in (row_at profile pid) verb) verb r))) (sym same.profile) alike

told_alike : (f : Frame) (p q : Parameters) (r s : Result Value Nack) → Both f r s → Alike f (kind_of (block_told p r)) (kind_of (block_told q s))
told_alike f p q (Ok v) (Ok w) both = tt
told_alike f p q (Ok v) (Err m) leaves = leaves
told_alike f p q (Err n) (Ok w) leaves = leaves
told_alike f p q (Err n) (Err m) both = both

either_alike : (f : Frame) (first : Bool) (a b c d : Verdict) → Alike f (kind_of a) (kind_of b) → Alike f (kind_of c) (kind_of d) → Alike f (kind_of (cond first a c)) (kind_of (cond first b d))
either_alike f true a b c d first second = first
either_alike f false a b c d first second = second

pub get_alike : (f : Frame) (p q : Parameters) (sub pid : ℕ) (bytes : List ℕ) → SameDevices p q → Alike f (kind_of (got p sub pid bytes)) (kind_of (got q sub pid bytes))
unfolding got got_by_row
get_alike f p q sub pid bytes same =
    let both = both_by f p q sub pid verbs.Get bytes same (both_get f p q p.profile sub pid bytes same) in
    either_alike f (is_block pid) (block_told p (accepted p sub pid verbs.Get bytes)) (block_told q (accepted q sub pid verbs.Get bytes)) _ _
    (told_alike f p q (accepted p sub pid verbs.Get bytes) (accepted q sub pid verbs.Get bytes) both)
    (at_first f p q q sub pid verbs.Get (accepted q sub pid verbs.Get bytes) (kind_of (verdict p sub pid (command_at p pid verbs.Get) verbs.Get (accepted p sub pid verbs.Get bytes))) same
    (row_alike f p q p q sub pid verbs.Get bytes (is_slow (command_of pid verbs.Get)) refl same same.profile both))

-- DATA_OUT_OF_RANGE beside a reason that the other doesn't have
out_or : (f : Frame) (n : Nack) → Leaves f n → (is_either f (nack_code n) 6 ≡ true) × (is_either f 6 (nack_code n) ≡ true)
out_or f DataOutOfRange leaves = (refl, refl)
out_or f WriteProtect set = (rw set refl, rw set refl)
out_or f UnknownPid leaves = absurd leaves
out_or f FormatError leaves = absurd leaves
out_or f UnsupportedCommandClass leaves = absurd leaves
out_or f BufferFull leaves = absurd leaves
out_or f SubDeviceOutOfRange leaves = absurd leaves

moved_at : (f : Frame) (a b : Bool) (v w : ℕ) → Alike f (kind_of (block_answer (cond a (Ok v) (Err DataOutOfRange)))) (kind_of (block_answer (cond b (Ok w) (Err DataOutOfRange))))
moved_at f true true v w = tt
moved_at f true false v w = tt
moved_at f false true v w = tt
moved_at f false false v w = refl

left_by_first_block : (f : Frame) (n : Nack) (a : Bool) (v : ℕ) → Leaves f n → Alike f (kind_of (block_answer (cond a (Ok v) (Err DataOutOfRange)))) (Refused n)
left_by_first_block f n true v leaves = leaves
left_by_first_block f n false v leaves = (out_or f n leaves).1

left_by_second_block : (f : Frame) (n : Nack) (a : Bool) (v : ℕ) → Leaves f n → Alike f (Refused n) (kind_of (block_answer (cond a (Ok v) (Err DataOutOfRange))))
left_by_second_block f n true v leaves = leaves
left_by_second_block f n false v leaves = (out_or f n leaves).0

moved_alike : (f : Frame) (p q : Parameters) (r s : Result Value Nack) → Both f r s → Alike f (kind_of (block_answer (block_taken p r))) (kind_of (block_answer (block_taken q s)))
moved_alike f p q (Ok v) (Ok w) both = moved_at f (fits (word_or_0 v) (sub_spots p)) (fits (word_or_0 w) (sub_spots q)) (word_or_0 v) (word_or_0 w)
moved_alike f p q (Ok v) (Err m) leaves = left_by_first_block f m (fits (word_or_0 v) (sub_spots p)) (word_or_0 v) leaves
moved_alike f p q (Err n) (Ok w) leaves = left_by_second_block f n (fits (word_or_0 w) (sub_spots q)) (word_or_0 w) leaves
moved_alike f p q (Err n) (Err m) both = both

one_of_three : (p a b c : Parameters) (first second : Bool) → a.profile ≡ p.profile → b.profile ≡ p.profile → c.profile ≡ p.profile → (cond first a (cond second b c)).profile ≡ p.profile
one_of_three p a b c true second ea eb ec = ea
one_of_three p a b c false true ea eb ec = eb
one_of_three p a b c false false ea eb ec = ec

one_of_two : (p a b : Parameters) (first : Bool) → a.profile ≡ p.profile → b.profile ≡ p.profile → (cond first a b).profile ≡ p.profile
one_of_two p a b true ea eb = ea
one_of_two p a b false ea eb = eb

accepted_profile : (p : Parameters) (sub : ℕ) (command : Option Command) (r : Result Value Nack) → (after_accepted p sub command r).profile ≡ p.profile
accepted_profile p sub command (Err n) = refl
accepted_profile p sub command (Ok v) = one_of_two p p (carried_out p sub command v) (is_slow command) refl (one_of_three p _ _ _ (sub == 0) (is_all_call sub verbs.Set) refl refl refl)

-- a SET leaves the profile
after_profile : (p : Parameters) (sub pid : ℕ) (bytes : List ℕ) → (after_by_row p sub pid bytes).profile ≡ p.profile
unfolding after_by_row
after_profile p sub pid bytes = accepted_profile p sub (command_at p pid verbs.Set) (accepted p sub pid verbs.Set bytes)

pub set_alike : (f : Frame) (p q : Parameters) (pid : ℕ) (bytes : List ℕ) → is_set f ≡ true → SameDevices p q → Alike f (kind_of (answer_to_set p f.sub pid bytes)) (kind_of (answer_to_set q f.sub pid bytes))
unfolding answer_to_set answer_by_row
set_alike f p q pid bytes set same =
    let both = both_by f p q f.sub pid verbs.Set bytes same (both_set f p q p.profile pid bytes set same) in
    let now : Parameters = after_by_row p f.sub pid bytes in
    let then : Parameters = after_by_row q f.sub pid bytes in
    either_alike f (is_block pid) (block_answer (block_taken p (accepted p f.sub pid verbs.Set bytes))) (block_answer (block_taken q (accepted q f.sub pid verbs.Set bytes))) _ _
    (moved_alike f p q (accepted p f.sub pid verbs.Set bytes) (accepted q f.sub pid verbs.Set bytes) both)
    (at_first f p q then f.sub pid verbs.Set (accepted q f.sub pid verbs.Set bytes) (kind_of (verdict now f.sub pid (command_at p pid verbs.Set) verbs.Set (accepted p f.sub pid verbs.Set bytes))) same
    (row_alike f p q now then f.sub pid verbs.Set bytes (is_slow (command_of pid verbs.Set)) refl same (after_profile q f.sub pid bytes ∙ same.profile ∙ sym (after_profile p f.sub pid bytes)) both))
