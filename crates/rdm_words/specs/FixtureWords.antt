-- The words of a fixture: which lines of them are fixed, and where they stand.
use Rattle.std.specs.Prelude.{◌≡◌, ℕ, ◌==◌, List, [], ◌∷◌, ◌++◌, codes, decimal, if◌then◌else◌}
use Rattle.std.specs.Int.{w16, to_be_bytes}
use Rattle.rdm_profile.specs.declared.profile.Profile.{Profile}
use Rattle.rdm_frame.specs.declared.uid.Uid.{Uid}
use Rattle.rdm_frame.specs.Digits.{digits}
use Rattle.rdm_frame.specs.UidText.{uid_text}
use Rattle.rdm_words.specs.Plain.{IsPlain}

-- the first line
abbrev pub uid_line : Uid → List ℕ
uid_line uid = codes "UID " ++ (uid_text uid ++ 10 ∷ [])

-- the front of the second line: the model of the root
abbrev pub model_words : ℕ → List ℕ
model_words model = codes "root device: model " ++ digits (to_be_bytes w16 model)

-- how many sub-devices there are
abbrev pub subs_line : ℕ → List ℕ
subs_line subs = if subs == 0 then codes "no sub-devices" ++ 10 ∷ [] else decimal subs ++ (codes " sub-devices" ++ 10 ∷ [])

-- These words say the fixture: its UID on the first line, the model of the root and what else is said of it, how many sub-devices there
-- are, on a line of their own, and what is said of each of them.
pub record SaysFixture (uid : Uid) (profile : Profile) (own : List ℕ) : Type 0 where
  pub root : List ℕ
  pub sub : List ℕ
  pub whole : own ≡ uid_line uid ++ (model_words profile.root.model ++ (root ++ (subs_line profile.subs ++ sub)))
  pub plain : IsPlain own
