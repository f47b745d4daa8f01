-- What an area holds that was written, or written in part.
use Rattle.std.proofs.Common.{◌≡◌, ℕ, ◌⊎◌, List, ◌++◌, Some, None, ap, subst, ◌∙◌, inl, inr}
use Rattle.rdm_images.specs.ImageText.{image_text, IsImage}
use Rattle.rdm_images.specs.Areas.{Rises, IsSound}
use Rattle.rdm_images.specs.Reading.{saved, held}
use Rattle.rdm_images.proofs.Holding.{held_when_risen, sound_when_risen}
use Rattle.rdm_images.proofs.Texts.{text_held, text_sound}

pub written_held : (key counter : ℕ) (payload image rest area : List ℕ) → IsImage key counter payload → image ≡ image_text key counter payload → area ≡ image ++ rest → held key area ≡ Some (saved counter payload)
written_held key counter payload image rest area fits e f =
    ap (held key) (f ∙ ap (λ (t : List ℕ). t ++ rest) e) ∙ text_held key counter payload rest fits

rises_text : (image image' rest area : List ℕ) → image ≡ image' → Rises (image ++ rest) area → Rises (image' ++ rest) area
rises_text image image' rest area e h = subst (λ (t : List ℕ). Rises (t ++ rest) area) e h

pub torn_held : (key counter : ℕ) (payload image rest area : List ℕ) → IsImage key counter payload → image ≡ image_text key counter payload → Rises (image ++ rest) area → (held key area ≡ None) ⊎ (held key area ≡ Some (saved counter payload))
torn_held key counter payload image rest area fits e h =
    elim (held_when_risen key _ area (rises_text image _ rest area e h) (text_sound key counter payload rest fits)) [
      | inl none ↦ inl none
      | inr same ↦ inr (same ∙ text_held key counter payload rest fits)
    ]

pub torn_sound : (key counter : ℕ) (payload image rest area : List ℕ) → IsImage key counter payload → image ≡ image_text key counter payload → Rises (image ++ rest) area → IsSound area
torn_sound key counter payload image rest area fits e h =
    sound_when_risen _ area (rises_text image _ rest area e h) (text_sound key counter payload rest fits)
