-- What the prefix law rules out, by what joining makes of two or three messages.
use Rattle.std.proofs.Common.{◌≡◌, false, List, [], ◌∷◌, ◌++◌, length, refl, sym, ap, ◌∙◌, arith}
use Rattle.std.proofs.lemmas.Bool.{both_ways}
use Rattle.rdm_frame.specs.declared.message.Message.{Message}
use Rattle.rdm_collector.specs.Recording.{same_message, join, SkippingIsRefused, RecordingNothingIsRefused, RepeatingAnOlderOneIsRefused}
use Rattle.rdm_collector.proofs.Joining.{same-refl, same-symmetric, joins_from_the_front, join-nil, join-one}

-- the first of a list, or else another message
abbrev head : List Message → Message → Message
head [] m = m
head (x ∷ xs) m = x

-- two messages that aren't equal stay apart
pub join-two : (m n : Message) → same_message m n ≡ false → join (m ∷ n ∷ []) ≡ m ∷ n ∷ []
join-two m n other = joins_from_the_front m n [] ∙ rw (other, join-one n) refl

pub not_skipped : (lost next : Message) → same_message lost next ≡ false → (rest : List Message) → join (next ∷ []) ++ rest ≡ join (lost ∷ next ∷ []) → ⊥
not_skipped lost next other rest prefix =
    let both : (next ∷ []) ++ rest ≡ lost ∷ next ∷ [] = ap (λ (js : List Message). js ++ rest) (sym (join-one next)) ∙ prefix ∙ join-two lost next other in
    let same : next ≡ lost = ap (λ (js : List Message). head js next) both in
    both_ways _ other (rw same (same-refl lost))

pub skipping : SkippingIsRefused
skipping u lost next other law = not_skipped lost next other law.rest law.prefix

pub recording_nothing : RecordingNothingIsRefused
recording_nothing u first second other law =
    let both : [] ++ law.rest ≡ first ∷ second ∷ [] = ap (λ (js : List Message). js ++ law.rest) (sym join-nil) ∙ law.prefix ∙ join-two first second other in
    omega (arith, law.at_most_one, ap length both)

-- joined, the older message is recorded once, and three were dispensed
pub repeating_an_older_one : RepeatingAnOlderOneIsRefused
repeating_an_older_one u older lost other law =
    let once : join (older ∷ older ∷ []) ≡ older ∷ [] = joins_from_the_front older older [] ∙ rw (same-refl older, join-one older) refl in
    let three : join (older ∷ lost ∷ older ∷ []) ≡ older ∷ lost ∷ older ∷ [] = joins_from_the_front older lost (older ∷ []) ∙ rw (other, join-two lost older (same-symmetric older lost other)) refl in
    let both : (older ∷ []) ++ law.rest ≡ older ∷ lost ∷ older ∷ [] = ap (λ (js : List Message). js ++ law.rest) (sym once) ∙ law.prefix ∙ three in
    omega (arith, law.at_most_one, ap length both)
