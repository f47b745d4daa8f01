-- What fixtures said of themselves, and what was asked.
use Rattle.std.specs.Prelude.{◌≡◌, ℕ, Bool, true, ◌==◌, ◌&&◌, List, slice_get, Some}
use Rattle.std.specs.List.{list_any}
use Rattle.std.specs.Str.{bytes_eq}
use Rattle.rdm_frame.specs.declared.frame.Frame.{Frame}
use Rattle.rdm_frame.specs.declared.uid.Uid.{Uid}
use Rattle.rdm_frame.specs.Addressing.{same_uid}
use Rattle.rdm_frame.specs.Reading.{frame_in}
use Rattle.rdm_words.specs.declared.learned.Answer.{Answer}

-- the answer is that of this fixture to this question
abbrev pub is_about : Uid → ℕ → List ℕ → Answer → Bool
is_about uid pid asked a = same_uid a.uid uid && ((a.pid == pid) && bytes_eq a.asked asked)

-- one of the answers is
abbrev pub was_asked : Uid → ℕ → List ℕ → List Answer → Bool
was_asked uid pid asked answers = list_any (is_about uid pid asked) answers

-- This fixture, and no other one, told these data when it was asked so.
pub record IsSaidBy (uid : Uid) (pid : ℕ) (asked : List ℕ) (told : List ℕ) (answers : List Answer) : Type 0 where
  pub answer : Answer
  pub index : ℕ
  pub among : slice_get answers index ≡ Some answer
  pub about : is_about uid pid asked answer ≡ true
  pub told_so : answer.told ≡ Some told

-- The bytes are a frame from this device.
pub record IsSource (uid : Uid) (bytes : List ℕ) : Type 0 where
  pub frame : Frame
  pub read : frame_in bytes ≡ Some frame
  pub from : frame.src ≡ uid
