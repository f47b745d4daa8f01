-- What stands in an image, and where.
use Rattle.std.proofs.Common.{◌≡◌, ℕ, suc, ◌+◌, ◌*◌, ◌<◌, List, [], ◌∷◌, ◌++◌, length, length-append, append_assoc, take, drop, map, refl, sym, ap, ◌∙◌, arith}
use Rattle.std.specs.Prelude.{flat_map, min}
use Rattle.rdm_profile.specs.declared.profile.own.ParameterDef.{ParameterDef}
use Rattle.rdm_profile.specs.Values.{word_slots, front_word}
use Rattle.rdm_added.specs.Map.{Entry}
use Rattle.rdm_added.specs.Parameters.{Parameters}
use Rattle.rdm_added.specs.declared.state.CommonValues.{CommonValues}
use Rattle.rdm_added.specs.declared.state.Measured.{Measured}
use Rattle.rdm_added.specs.Views.State.{common_entries, sensor_entries}
use Rattle.rdm_saved.specs.SavedText.{own_text, kept_text, device_text, added_text, profile_text, values_text, sum_text, saved_text}
use Rattle.rdm_saved.specs.SameProfile.{profile_size}
use Rattle.rdm_saved.specs.Carrying.{said_subs, said_sensors, said_own, said_without, said_kept, root_place, knows}
use Rattle.rdm_saved.specs.Laws.{AreTexts, AreWhole}
use Rattle.rdm_saved.proofs.Back.{regroup}
use Rattle.rdm_saved.proofs.Lists.{drop_drop}
use Rattle.rdm_saved.proofs.Profiles.{head_size}
use Rattle.rdm_saved.proofs.Whole.{kept_size}
use Rattle.rdm_updates.specs.Updated.{adds}
use Rattle.rdm_updates.proofs.Pieces.{drop_at, omitted_is, own_is}
use Rattle.rdm_updates.proofs.Devices.{SaysOmitted, common_text_size}

-- ---- sizes

own_size : (ds : List ParameterDef) → length (flat_map own_text ds) ≡ 4 * length ds
own_size [] = refl
own_size (d ∷ ds) = omega (arith, length-append (own_text d) (flat_map own_text ds), own_size ds)

pub sensors_size : (n : ℕ) (ms : List Measured) → length (device_text (sensor_entries n ms)) ≡ 2 * length ms
sensors_size n [] = refl
sensors_size n (m ∷ ms) = omega (arith, sensors_size (suc n) ms)

pub added_size : (es : List Entry) → AreTexts es → length (added_text es) ≡ 37 * length es
added_size [] short = refl
added_size (e ∷ es) short = omega (arith, kept_size e short.0, added_size es short.1, length-append (kept_text e) (added_text es))

pub subs_size : (ss : List CommonValues) → AreWhole (map common_entries ss) → length (flat_map device_text (map common_entries ss)) ≡ 46 * length ss
subs_size [] whole = refl
subs_size (s ∷ ss) whole = omega (arith, common_text_size s whole.0, subs_size ss whole.1, length-append (device_text (common_entries s)) (flat_map device_text (map common_entries ss)))

-- the number that two bytes say
pub word_said : (n : ℕ) → n < 65536 → front_word (word_slots n) ≡ n
word_said n few = omega (arith, few)

-- ---- the counts

-- what is said of the manufacturer and the profile
abbrev pub head : ℕ → Parameters → List ℕ
head maker saved = word_slots maker ++ profile_text saved.profile (length saved.added)

-- what stands behind it, and behind the values of the root
abbrev pub behind_root : ℕ → Parameters → List ℕ
behind_root maker saved = added_text saved.added ++ (flat_map device_text saved.subs ++ sum_text (values_text maker saved))

abbrev pub behind_head : ℕ → Parameters → List ℕ
behind_head maker saved = device_text saved.root ++ behind_root maker saved

pub image_is : (maker : ℕ) (saved : Parameters) → saved_text maker saved ≡ head maker saved ++ behind_head maker saved
unfolding saved_text
image_is maker saved = regroup (head maker saved) (device_text saved.root) (added_text saved.added) (flat_map device_text saved.subs) (sum_text (values_text maker saved))

pub sensors_said : (maker : ℕ) (saved : Parameters) → said_sensors (saved_text maker saved) ≡ length saved.profile.sensors.items
unfolding saved_text
sensors_said maker saved = refl

pub own_said : (maker : ℕ) (saved : Parameters) → said_own (saved_text maker saved) ≡ length saved.profile.particulars.own
unfolding saved_text
own_said maker saved = refl

pub without_said : (maker : ℕ) (saved : Parameters) → said_without (saved_text maker saved) ≡ length saved.profile.particulars.without.items
unfolding saved_text
without_said maker saved = refl

pub subs_said : (maker : ℕ) (saved : Parameters) → saved.profile.subs < 65536 → said_subs (saved_text maker saved) ≡ saved.profile.subs
unfolding saved_text
subs_said maker saved few = word_said saved.profile.subs few

pub kept_said : (maker : ℕ) (saved : Parameters) → length saved.added < 65536 → said_kept (saved_text maker saved) ≡ length saved.added
unfolding saved_text
kept_said maker saved few =
    let all : min (length saved.added) 65535 ≡ length saved.added = omega (arith, few) in
    ap (λ (n : ℕ). front_word (word_slots n)) all ∙ word_said (length saved.added) few

pub sub_model_said : (maker : ℕ) (saved : Parameters) → take 2 (drop 9 (saved_text maker saved)) ≡ word_slots saved.profile.sub.model
unfolding saved_text
sub_model_said maker saved = refl

-- where the values of the root stand
pub root_at : (maker : ℕ) (saved : Parameters) → root_place (saved_text maker saved) ≡ profile_size saved.profile
root_at maker saved = rw (own_said maker saved, without_said maker saved) refl

-- ---- what the profile says

-- what stands behind the front of every image
front_is : (maker : ℕ) (saved : Parameters) → drop 23 (saved_text maker saved) ≡ flat_map own_text saved.profile.particulars.own ++ (flat_map word_slots saved.profile.particulars.without.items ++ behind_head maker saved)
front_is maker saved =
    ap (drop 23) (image_is maker saved) ∙ append_assoc (flat_map own_text saved.profile.particulars.own) (flat_map word_slots saved.profile.particulars.without.items) (behind_head maker saved)

pub knows_is : (maker : ℕ) (saved : Parameters) (d : ParameterDef) → knows (saved_text maker saved) d ≡ adds saved.profile d
knows_is maker saved d = rw (own_said maker saved, front_is maker saved) (own_is saved.profile.particulars.own (flat_map word_slots saved.profile.particulars.without.items ++ behind_head maker saved) d)

pub says_omitted : (maker : ℕ) (saved : Parameters) → SaysOmitted (saved_text maker saved) saved.profile
says_omitted maker saved pid =
    let image : List ℕ = saved_text maker saved in
    let own : List ParameterDef = saved.profile.particulars.own in
    let rest : List ℕ = flat_map word_slots saved.profile.particulars.without.items ++ behind_head maker saved in
    let place : drop (23 + 4 * length own) image ≡ rest = sym (drop_drop 23 (4 * length own) image) ∙ ap (drop (4 * length own)) (front_is maker saved) ∙ drop_at (flat_map own_text own) rest (4 * length own) (own_size own) in
    rw (own_said maker saved, without_said maker saved, place) (omitted_is saved.profile.particulars.without.items (behind_head maker saved) pid)

-- ---- the values

pub behind_is : (maker : ℕ) (saved : Parameters) → drop (root_place (saved_text maker saved)) (saved_text maker saved) ≡ behind_head maker saved
behind_is maker saved =
    let n : ℕ = profile_size saved.profile in
    ap (λ (k : ℕ). drop k (saved_text maker saved)) (root_at maker saved) ∙ ap (drop n) (image_is maker saved) ∙ drop_at (head maker saved) (behind_head maker saved) n (head_size maker saved.profile (length saved.added))
