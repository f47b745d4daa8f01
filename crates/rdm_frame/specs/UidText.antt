-- How a UID is written, as 7FF0:00000001. E1.20 sections 6.2.4 and 6.2.5.
use Rattle.std.specs.Prelude.{◌≡◌, ℕ, List, ◌∷◌, ◌++◌, map}
use Rattle.std.specs.Int.{w16, w32, to_be_bytes}
use Rattle.rdm_frame.specs.declared.uid.Uid.{Uid}
use Rattle.rdm_frame.specs.FrameText.{IsUid}
use Rattle.rdm_frame.specs.Digits.{digits, upper}

-- What is written of a UID: the manufacturer ID, a colon and the device ID.
abbrev pub uid_text : Uid → List ℕ
uid_text u = digits (to_be_bytes w16 u.maker) ++ 58 ∷ digits (to_be_bytes w32 u.device)

-- The text spells this UID: in upper case it is what is written of it.
pub record SpellsUid (text : List ℕ) (u : Uid) : Type 0 where
  pub fits : IsUid u
  pub printed : map upper text ≡ uid_text u
