-- The words of a fixture are plain, and stand behind what was there.
use Rattle.std.proofs.Common.{◌≡◌, ℕ, ◌<◌, ◌^◌, ◌==◌, Bool, true, false, cond, List, [], ◌∷◌, ◌++◌, Result, Ok, Err, OnOk, codes, decimal, refl, ap, ◌∙◌, append_assoc}
use Rattle.std.specs.Int.{w16, to_be_bytes}
use Rattle.rdm_profile.specs.declared.profile.Profile.{Profile}
use Rattle.rdm_frame.specs.declared.uid.Uid.{Uid}
use Rattle.rdm_frame.specs.Digits.{digits}
use Rattle.rdm_frame.specs.UidText.{uid_text}
use Rattle.rdm_words.specs.FixtureWords.{uid_line, model_words, subs_line, SaysFixture}
use Rattle.rdm_words.specs.Plain.{IsPlain}
use Rattle.rdm_words.proofs.Fixed.{tried, plain_decimal, plain_hex, plain_uid, word_fits}
use Rattle.rdm_words.proofs.Plainness.{plain_append}

plain_uid_line : (uid : Uid) → IsPlain (uid_line uid)
plain_uid_line uid =
    plain_append (codes "UID ") (uid_text uid ++ 10 ∷ []) (tried (codes "UID ") refl) (plain_append (uid_text uid) (10 ∷ []) (plain_uid uid) (refl, tt))

plain_model : (model : ℕ) → IsPlain (model_words model)
plain_model model =
    plain_append (codes "root device: model ") (digits (to_be_bytes w16 model)) (tried (codes "root device: model ") refl)
    (plain_hex (to_be_bytes w16 model) (word_fits model))

pub plain_subs_line : (subs : ℕ) → subs < 2 ^ 64 → IsPlain (subs_line subs)
plain_subs_line subs fits = by (subs == 0)
  where
    by : (none : Bool) → IsPlain (cond none (codes "no sub-devices" ++ 10 ∷ []) (decimal subs ++ (codes " sub-devices" ++ 10 ∷ [])))
    by true = tried (codes "no sub-devices" ++ 10 ∷ []) refl
    by false =
        plain_append (decimal subs) (codes " sub-devices" ++ 10 ∷ []) (plain_decimal subs fits) (tried (codes " sub-devices" ++ 10 ∷ []) refl)

-- five parts, one behind the other
joined : (before a b c d e : List ℕ) → (((((before ++ a) ++ b) ++ c) ++ d) ++ e) ≡ before ++ (a ++ (b ++ (c ++ (d ++ e))))
joined before a b c d e =
    append_assoc (((before ++ a) ++ b) ++ c) d e ∙ append_assoc ((before ++ a) ++ b) c (d ++ e) ∙ append_assoc (before ++ a) b (c ++ (d ++ e))
    ∙ append_assoc before a (b ++ (c ++ (d ++ e)))

pub says_fixture : {T E : Type 0} (r : Result T E) (uid : Uid) (profile : Profile) (before first second third fourth after root : List ℕ)
    → IsPlain (subs_line profile.subs) → first ≡ before ++ uid_line uid → second ≡ first ++ model_words profile.root.model
    → IsPlain root → third ≡ second ++ root → fourth ≡ third ++ subs_line profile.subs
    → OnOk r ((sub : List ℕ) × IsPlain sub × (after ≡ fourth ++ sub))
    → OnOk r ((own : List ℕ) × SaysFixture uid profile own × (after ≡ before ++ own))
says_fixture (Err e) uid profile before first second third fourth after root fits p q plain s u last = tt
says_fixture (Ok t) uid profile before first second third fourth after root fits p q plain s u last =
    let sub = last.0 in
    let model = model_words profile.root.model in
    let line = subs_line profile.subs in (
      uid_line uid ++ (model ++ (root ++ (line ++ sub))),
      record {
        root = root;
        sub = sub;
        whole = refl;
        plain = plain_append (uid_line uid) (model ++ (root ++ (line ++ sub))) (plain_uid_line uid)
            (plain_append model (root ++ (line ++ sub)) (plain_model profile.root.model)
            (plain_append root (line ++ sub) plain (plain_append line sub fits last.1)));
      },
      last.2
          ∙ ap (λ (w : List ℕ). w ++ sub)
          (u ∙ ap (λ (w : List ℕ). w ++ line)
          (s ∙ ap (λ (w : List ℕ). w ++ root) (q ∙ ap (λ (w : List ℕ). w ++ model) p)))
          ∙ joined before (uid_line uid) model root line sub,
    )
