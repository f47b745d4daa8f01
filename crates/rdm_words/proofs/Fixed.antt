-- Words that are fixed are plain, and so they are written as they are.
use Rattle.std.proofs.Common.{◌≡◌, ◌≢◌, ℕ, zero, suc, ◌+◌, ◌/◌, ◌%◌, ◌<◌, ◌^◌, Bool, true, false, ◌&&◌, List, [], ◌∷◌, ◌++◌, Option, Some, None, codes, decimal, slice_index, length, map, Result, Ok, Err, OnOk, refl, sym, ap, subst, ◌∙◌, arith, append_assoc, inl, inr}
use Rattle.std.specs.List.{AllByRecursion, list_all}
use Rattle.std.specs.Int.{w16, w32, to_be_bytes}
use Rattle.std.specs.Str.{IsAscii}
use Rattle.std.proofs.lemmas.Str.Ascii.{IsAscii-nil}
use Rattle.std.proofs.lemmas.Bool.Decides.{nat_tests}
use Rattle.std.proofs.lemmas.Fmt.{decimal_by_steps}
use Rattle.std.proofs.lemmas.List.{length-drop}
use Rattle.std.proofs.lemmas.Grind.{flat_map-append}
use Rattle.rdm_frame.specs.declared.decoding.FrameError.{FrameError}
use Rattle.rdm_frame.specs.declared.decoding.FrameError.TheVariants.{Short, Start, SubStart, Length, Pdl, Checksum}
use Rattle.rdm_frame.specs.declared.uid.Uid.{Uid}
use Rattle.rdm_frame.specs.Digits.{digits}
use Rattle.rdm_frame.specs.Discovery.{branch_reply, IsBranchReply}
use Rattle.rdm_frame.specs.Reading.{IsFirstFault}
use Rattle.rdm_frame.specs.UidText.{uid_text}
use Rattle.rdm_frame.specs.declared.fault.Fault.{Fault}
use Rattle.rdm_collector.specs.declared.transaction.Heard.{Heard as TheHeard}
use Rattle.rdm_collector.specs.declared.transaction.Heard.TheVariants as heard
use Rattle.rdm_trace.specs.declared.line.Line.{Line}
use Rattle.rdm_trace.specs.declared.line.Line.TheVariants.{Send, Reply, Heard, Found, Time}
use Rattle.rdm_words.specs.Plain.{is_plain, IsPlain, IsFixed, shown_byte, shown}
use Rattle.rdm_words.specs.declared.before.Before.{Before}
use Rattle.rdm_words.specs.Before.{IsAnswerOf, IsAnswerIn}
use Rattle.rdm_words.specs.Fixed.{cause_words, stray_words, answer_words, raised_words, fault_line, heard_words, answerer_words, found_words, job_words, time_words, is_readable, AreWordsOfWhole, AreWordsOfBytes, AreWordsOfHeard, AreWordsOfLine}
use Rattle.rdm_words.specs.Said.{Tells}
use Rattle.rdm_words.specs.Naming.{NamesInLine, SaysFacts}
use Rattle.rdm_words.proofs.Naming.{line_named}
use Rattle.rdm_words.proofs.Plainness.{plain_append, digit_plain, digit_small, told_line}

-- ---- texts that are plain

-- by trying each byte
pub tried : (bytes : List ℕ) → list_all is_plain bytes ≡ true → IsPlain bytes
tried [] h = tt
tried (b ∷ bytes) h = by (is_plain b) refl h (λ rest. tried bytes rest)
  where
    by : (x : Bool) → is_plain b ≡ x → (x && list_all is_plain bytes) ≡ true → (list_all is_plain bytes ≡ true → IsPlain bytes)
        → IsPlain (b ∷ bytes)
    by true e h more = (e, more h)
    by false e h more = absurd cc

abbrev pub AreBytes : List ℕ → Type 0
AreBytes bytes = AllByRecursion (λ b. b < 256) bytes

pub each_fits : (bytes : List ℕ) → ((i : ℕ) → slice_index bytes i < 256) → AreBytes bytes
each_fits [] fits = tt
each_fits (b ∷ bytes) fits = (fits 0, each_fits bytes (λ i. fits (suc i)))

pub plain_hex : (bytes : List ℕ) → AreBytes bytes → IsPlain (digits bytes)
plain_hex [] fits = tt
plain_hex (b ∷ bytes) fits =
    let h : b < 256 = fits.0 in
    (digit_plain (b / 16) (omega arith), (digit_plain (b % 16) (omega arith), plain_hex bytes fits.1))

pub ascii_digits : (bytes : List ℕ) → AreBytes bytes → IsAscii (digits bytes)
ascii_digits [] fits = IsAscii-nil
ascii_digits (b ∷ bytes) fits = by (ascii_digits bytes fits.1)
  where
    by : IsAscii (digits bytes) → (i : ℕ) → slice_index (digits (b ∷ bytes)) i < 128
    by more zero = let h : b < 256 = fits.0 in digit_small (b / 16) (omega arith)
    by more (suc zero) = let h : b < 256 = fits.0 in digit_small (b % 16) (omega arith)
    by more (suc (suc i)) = more i

pub ascii_hex : (bytes : List ℕ) → ((i : ℕ) → slice_index bytes i < 256) → IsAscii (digits bytes)
ascii_hex bytes fits = ascii_digits bytes (each_fits bytes fits)

ten_plain : (n : ℕ) → n < 10 → is_plain (48 + n) ≡ true
ten_plain n h = grind (arith, nat_tests)

pub plain_decimal : (n : ℕ) → n < 2 ^ 64 → IsPlain (decimal n)
plain_decimal n h =
    decimal_by_steps (λ (m : ℕ) (ds : List ℕ). IsPlain ds) (λ m small. (ten_plain m small, tt))
    (λ m ds ge p. plain_append ds ((48 + m % 10) ∷ []) p (ten_plain (m % 10) (omega arith), tt)) n h

-- ---- the words of bytes

plain_cause : (cause : FrameError) → IsPlain (cause_words cause)
plain_cause Short = tried (cause_words Short) refl
plain_cause Start = tried (cause_words Start) refl
plain_cause SubStart = tried (cause_words SubStart) refl
plain_cause Length = tried (cause_words Length) refl
plain_cause Pdl = tried (cause_words Pdl) refl
plain_cause Checksum = tried (cause_words Checksum) refl

pub fixed_stray : (cause : FrameError) (bytes : List ℕ) → AreBytes bytes → IsFixed (stray_words cause bytes)
fixed_stray cause bytes fits = record { some = some; plain = plain }
  where
    some : stray_words cause bytes ≢ []
    some e = absurd cc

    plain : IsPlain (stray_words cause bytes)
    plain =
        plain_append (codes "no frame (" ++ cause_words cause ++ codes "): ") (digits bytes)
        (plain_append (codes "no frame (" ++ cause_words cause) (codes "): ")
        (plain_append (codes "no frame (") (cause_words cause) (tried (codes "no frame (") refl) (plain_cause cause)) (tried (codes "): ") refl))
        (plain_hex bytes fits)

pub word_fits : (n : ℕ) → AreBytes (to_be_bytes w16 n)
word_fits n = (omega arith, (omega arith, tt))

long_fits : (n : ℕ) → AreBytes (to_be_bytes w32 n)
long_fits n = (omega arith, (omega arith, (omega arith, (omega arith, tt))))

pub plain_uid : (uid : Uid) → IsPlain (uid_text uid)
plain_uid uid =
    plain_append (digits (to_be_bytes w16 uid.maker)) (58 ∷ digits (to_be_bytes w32 uid.device)) (plain_hex (to_be_bytes w16 uid.maker) (word_fits uid.maker))
    (refl, plain_hex (to_be_bytes w32 uid.device) (long_fits uid.device))

fixed_answer : (uid : Uid) → IsFixed (answer_words uid)
fixed_answer uid = record { some = some; plain = plain }
  where
    some : answer_words uid ≢ []
    some e = absurd cc

    plain : IsPlain (answer_words uid)
    plain = plain_append (uid_text uid) (codes " answers: DISC_UNIQUE_BRANCH") (plain_uid uid) (tried (codes " answers: DISC_UNIQUE_BRANCH") refl)

fixed_bytes : (bytes : List ℕ) → AreBytes bytes → (words : List ℕ) → AreWordsOfWhole bytes words → IsFixed words
fixed_bytes bytes fits words (inl stray) = subst (λ (w : List ℕ). IsFixed w) (sym stray.3) (fixed_stray stray.0 bytes fits)
fixed_bytes bytes fits words (inr answer) = subst (λ (w : List ℕ). IsFixed w) (sym answer.2) (fixed_answer answer.0)

-- an answer has at most 24 bytes, and so it is no frame
short_answer : (uid : Uid) (bytes : List ℕ) → IsBranchReply uid bytes → IsFirstFault Short bytes
unfolding branch_reply
short_answer uid bytes reply =
    (tt, λ long. absurd (omega (arith, long, length-drop reply.0 (branch_reply uid), ap (λ (t : List ℕ). length t) reply.2)))

-- the words that are fixed are of no frame
none_of_frame : (bytes words : List ℕ) → ((cause : FrameError) → IsFirstFault cause bytes → ⊥) → AreWordsOfWhole bytes words → ⊥
none_of_frame bytes words none (inl stray) = none stray.0 stray.1.0
none_of_frame bytes words none (inr answer) = none Short (short_answer answer.0 bytes answer.1.1)

-- what is appended where it works out
abbrev pub Adds : {T E : Type 0} → Result T E → (List ℕ → Type 0) → List ℕ → List ℕ → Type 0
Adds r Are old new = OnOk r ((words : List ℕ) → Are words → IsFixed words × (new ≡ old ++ words))

pub clash : {T E : Type 0} (r : Result T E) (t : T) (e : E) → r ≡ Ok t → r ≡ Err e → ⊥
clash r t e p q = absurd cc

abbrev err_or : {T E : Type 0} → E → Result T E → E
err_or d (Ok t) = d
err_or d (Err e) = e

abbrev some_or : {A : Type 0} → A → Option A → A
some_or d None = d
some_or d (Some a) = a

pub same_some : {A : Type 0} (a b : A) → Some a ≡ Some b → a ≡ b
same_some {A = A} a b e = ap (λ (x : Option A). some_or a x) e

pub same_err : {T E : Type 0} (r : Result T E) (a b : E) → r ≡ Err a → r ≡ Err b → a ≡ b
same_err {T = T} {E = E} r a b p q = ap (λ (x : Result T E). err_or a x) (sym p ∙ q)

pub adds_none : {T E : Type 0} (r : Result T E) (bytes old new : List ℕ) → ((cause : FrameError) → IsFirstFault cause bytes → ⊥)
    → Adds r (λ words. AreWordsOfWhole bytes words) old new
adds_none (Ok t) bytes old new none = λ words are. absurd (none_of_frame bytes words none are)
adds_none (Err e) bytes old new none = tt

pub adds_bytes : {T E : Type 0} (r : Result T E) (error : FrameError) (bytes old new : List ℕ) → ((i : ℕ) → slice_index bytes i < 256)
    → ((cause : FrameError) → IsFirstFault cause bytes → error ≡ cause)
    → ((uid : Uid) → IsAnswerOf uid bytes → OnOk r (new ≡ old ++ answer_words uid))
    → (((uid : Uid) → IsAnswerOf uid bytes → ⊥) → is_readable bytes ≢ true → OnOk r (new ≡ old ++ stray_words error bytes))
    → Adds r (λ words. AreWordsOfWhole bytes words) old new
adds_bytes (Err e) error bytes old new fits same answers strays = tt
adds_bytes (Ok t) error bytes old new fits same answers strays = λ words are. (fixed_bytes bytes (each_fits bytes fits) words are, by words are)
  where
    by : (words : List ℕ) → AreWordsOfWhole bytes words → new ≡ old ++ words
    by words (inl stray) =
        strays stray.1.1 stray.2 ∙ ap (λ (e : FrameError). old ++ stray_words e bytes) (same stray.0 stray.1.0) ∙ ap (λ (w : List ℕ). old ++ w) (sym stray.3)
    by words (inr answer) = answers answer.0 answer.1 ∙ ap (λ (w : List ℕ). old ++ w) (sym answer.2)

-- ---- the words of lines

pub plain_raised : (slot : ℕ) (of : List ℕ) (raise : ℕ) → slot < 2 ^ 64 → IsPlain of → raise < 2 ^ 64 → IsPlain (raised_words slot of raise)
plain_raised slot of raise low p high =
    plain_append (10 ∷ codes "  fault: slot ") (decimal slot ++ (codes " of the " ++ (of ++ (codes " is raised by " ++ decimal raise))))
    (tried (10 ∷ codes "  fault: slot ") refl)
    (plain_append (decimal slot) (codes " of the " ++ (of ++ (codes " is raised by " ++ decimal raise))) (plain_decimal slot low)
    (plain_append (codes " of the ") (of ++ (codes " is raised by " ++ decimal raise)) (tried (codes " of the ") refl)
    (plain_append of (codes " is raised by " ++ decimal raise) p
    (plain_append (codes " is raised by ") (decimal raise) (tried (codes " is raised by ") refl) (plain_decimal raise high)))))

pub request_plain : IsPlain (codes "request")
request_plain = tried (codes "request") refl

pub reply_plain : IsPlain (codes "reply")
reply_plain = tried (codes "reply") refl

pub plain_job : (worker number : ℕ) → worker < 2 ^ 64 → number < 2 ^ 64 → IsPlain (job_words worker number)
plain_job worker number low high =
    plain_append (codes "job ") (decimal number ++ (codes " of worker " ++ decimal worker)) (tried (codes "job ") refl)
    (plain_append (decimal number) (codes " of worker " ++ decimal worker) (plain_decimal number high)
    (plain_append (codes " of worker ") (decimal worker) (tried (codes " of worker ") refl) (plain_decimal worker low)))

pub fixed_starts : (words : List ℕ) → IsPlain words → IsFixed (words ++ codes " starts")
fixed_starts words p = record { some = some words; plain = plain_append words (codes " starts") p (tried (codes " starts") refl) }
  where
    some : (words : List ℕ) → words ++ codes " starts" ≢ []
    some [] e = absurd cc
    some (x ∷ xs) e = absurd cc

pub fixed_heard : (heard : Option TheHeard) → IsFixed (heard_words heard)
fixed_heard None = record { some = λ e. absurd cc; plain = tried (heard_words None) refl }
fixed_heard (Some heard.Message) = record { some = λ e. absurd cc; plain = tried (heard_words (Some heard.Message)) refl }
fixed_heard (Some heard.Reply) = record { some = λ e. absurd cc; plain = tried (heard_words (Some heard.Reply)) refl }
fixed_heard (Some heard.Ignored) = record { some = λ e. absurd cc; plain = tried (heard_words (Some heard.Ignored)) refl }

fixed_answerer : (uid : Uid) → IsFixed (answerer_words uid)
fixed_answerer uid = record {
  some = λ e. absurd cc;
  plain = plain_append (codes "the controller hears the answer of ") (uid_text uid) (tried (codes "the controller hears the answer of ") refl) (plain_uid uid);
}

-- what the controller took a reply for
heard_so : (taken : Option TheHeard) (words old new : List ℕ) → words ≡ heard_words taken → new ≡ old ++ heard_words taken → IsFixed words × (new ≡ old ++ words)
heard_so taken words old new is added =
    (subst (λ (w : List ℕ). IsFixed w) (sym is) (fixed_heard taken), added ∙ ap (λ (w : List ℕ). old ++ w) (sym is))

by_heard : (reply : Option (List ℕ)) (taken : Option TheHeard) (old new : List ℕ)
    → ((uid : Uid) → taken ≡ Some heard.Ignored → IsAnswerIn reply uid → new ≡ old ++ answerer_words uid)
    → ((taken ≡ Some heard.Ignored → (uid : Uid) → IsAnswerIn reply uid → ⊥) → new ≡ old ++ heard_words taken)
    → (words : List ℕ) → AreWordsOfHeard reply taken words → IsFixed words × (new ≡ old ++ words)
by_heard reply (Some heard.Ignored) old new answer other words (inl are) =
    (subst (λ (w : List ℕ). IsFixed w) (sym are.2) (fixed_answerer are.0), answer are.0 refl are.1 ∙ ap (λ (w : List ℕ). old ++ w) (sym are.2))
by_heard reply (Some heard.Ignored) old new answer other words (inr are) =
    heard_so (Some heard.Ignored) words old new are.1 (other (λ e. are.0))
by_heard reply (Some heard.Message) old new answer other words are = heard_so (Some heard.Message) words old new are (other (λ e. absurd cc))
by_heard reply (Some heard.Reply) old new answer other words are = heard_so (Some heard.Reply) words old new are (other (λ e. absurd cc))
by_heard reply None old new answer other words are = heard_so None words old new are (other (λ e. absurd cc))

pub adds_heard : {T E : Type 0} (r : Result T E) (before : Before) (line : Line) (taken : Option TheHeard) (old new : List ℕ)
    → line ≡ Heard taken
    → ((uid : Uid) → taken ≡ Some heard.Ignored → IsAnswerIn before.reply uid → OnOk r (new ≡ old ++ answerer_words uid))
    → ((taken ≡ Some heard.Ignored → (uid : Uid) → IsAnswerIn before.reply uid → ⊥) → OnOk r (new ≡ old ++ heard_words taken))
    → Adds r (λ words. AreWordsOfLine before line words) old new
adds_heard (Err e) before line taken old new is answer other = tt
adds_heard (Ok t) before line taken old new is answer other = λ words are.
    by_heard before.reply taken old new answer other words (subst (λ (l : Line). AreWordsOfLine before l words) is are)

fixed_found : (uid : Uid) → IsFixed (found_words uid)
fixed_found uid = record {
  some = λ e. absurd cc;
  plain = plain_append (codes "the controller finds ") (uid_text uid) (tried (codes "the controller finds ") refl) (plain_uid uid);
}

pub fixed_none : IsFixed (codes "no reply")
fixed_none = record { some = λ e. absurd cc; plain = tried (codes "no reply") refl }

pub fixed_end : IsFixed (codes "end of the trace")
fixed_end = record { some = λ e. absurd cc; plain = tried (codes "end of the trace") refl }

pub fixed_append : (xs ys : List ℕ) → IsFixed xs → IsPlain ys → IsFixed (xs ++ ys)
fixed_append [] ys p q = absurd (p.some refl)
fixed_append (x ∷ xs) ys p q = record { some = λ e. absurd cc; plain = plain_append (x ∷ xs) ys p.plain q }

send_adds : (before : Before) (bytes : List ℕ) (fault : Fault) (old mid new : List ℕ)
    → ((words : List ℕ) → AreWordsOfBytes bytes words → IsFixed words × (mid ≡ old ++ words))
    → new ≡ mid ++ fault_line fault → IsPlain (fault_line fault)
    → (words : List ℕ) → AreWordsOfLine before (Send bytes fault) words → IsFixed words × (new ≡ old ++ words)
send_adds before bytes fault old mid new first second plain words are =
    let front = first are.0 are.1 in (
      subst (λ (w : List ℕ). IsFixed w) (sym are.2) (fixed_append are.0 (fault_line fault) front.0 plain),
      second ∙ ap (λ (w : List ℕ). w ++ fault_line fault) front.1 ∙ append_assoc old are.0 (fault_line fault) ∙ ap (λ (w : List ℕ). old ++ w) (sym are.2),
    )

pub adds_send : {T E : Type 0} (r : Result T E) (before : Before) (line : Line) (given bytes : List ℕ) (fault : Fault) (old mid new : List ℕ)
    → line ≡ Send bytes fault → given ≡ bytes
    → ((words : List ℕ) → AreWordsOfBytes given words → IsFixed words × (mid ≡ old ++ words))
    → OnOk r (new ≡ mid ++ fault_line fault) → IsPlain (fault_line fault) → Adds r (λ words. AreWordsOfLine before line words) old new
adds_send (Err e) before line given bytes fault old mid new is same first second plain = tt
adds_send (Ok t) before line given bytes fault old mid new is same first second plain = λ words are.
    send_adds before given fault old mid new first second plain words
    (subst (λ (l : Line). AreWordsOfLine before l words) (is ∙ ap (λ (b : List ℕ). Send b fault) (sym same)) are)

pub adds_reply : {T E : Type 0} (r : Result T E) (before : Before) (line : Line) (given bytes old new : List ℕ)
    → line ≡ Reply (Some bytes) → given ≡ bytes → Adds r (λ words. AreWordsOfBytes given words) old new → Adds r (λ words. AreWordsOfLine before line words) old new
adds_reply (Err e) before line given bytes old new is same adds = tt
adds_reply (Ok t) before line given bytes old new is same adds = λ words are.
    adds words (subst (λ (l : Line). AreWordsOfLine before l words) (is ∙ ap (λ (b : List ℕ). Reply (Some b)) (sym same)) are)

pub adds_found : {T E : Type 0} (r : Result T E) (before : Before) (line : Line) (uid : Uid) (old new : List ℕ)
    → line ≡ Found uid → OnOk r (new ≡ old ++ found_words uid) → Adds r (λ words. AreWordsOfLine before line words) old new
adds_found (Err e) before line uid old new is added = tt
adds_found (Ok t) before line uid old new is added = λ words are.
    let same : words ≡ found_words uid = subst (λ (l : Line). AreWordsOfLine before l words) is are in
    (subst (λ (w : List ℕ). IsFixed w) (sym same) (fixed_found uid), added ∙ ap (λ (w : List ℕ). old ++ w) (sym same))

-- when the next line happened
pub plain_time : (millis : ℕ) → millis < 2 ^ 64 → IsPlain (time_words millis)
plain_time millis h =
    plain_append (codes "at ") (decimal (millis / 1000) ++ (46 ∷ (tenth ++ (hundredth ++ (last ++ codes " s"))))) (tried (codes "at ") refl)
    (plain_append (decimal (millis / 1000)) (46 ∷ (tenth ++ (hundredth ++ (last ++ codes " s")))) (plain_decimal (millis / 1000) (omega (arith, h))) (
      refl,
      plain_append tenth (hundredth ++ (last ++ codes " s")) (plain_decimal (millis / 100 % 10) (omega arith))
          (plain_append hundredth (last ++ codes " s") (plain_decimal (millis / 10 % 10) (omega arith))
          (plain_append last (codes " s") (plain_decimal (millis % 10) (omega arith)) (tried (codes " s") refl))),
    ))
  where
    tenth : List ℕ
    tenth = decimal (millis / 100 % 10)

    hundredth : List ℕ
    hundredth = decimal (millis / 10 % 10)

    last : List ℕ
    last = decimal (millis % 10)

pub adds_time : {T E : Type 0} (r : Result T E) (before : Before) (line : Line) (millis : ℕ) (old new : List ℕ)
    → line ≡ Time millis → IsPlain (time_words millis) → OnOk r (new ≡ old ++ time_words millis) → Adds r (λ words. AreWordsOfLine before line words) old new
adds_time (Err e) before line millis old new is plain added = tt
adds_time (Ok t) before line millis old new is plain added = λ words are.
    let same : words ≡ time_words millis = subst (λ (l : Line). AreWordsOfLine before l words) is are in (
      subst (λ (w : List ℕ). IsFixed w) (sym same) (record { some = λ e. absurd cc; plain = plain }),
      added ∙ ap (λ (w : List ℕ). old ++ w) (sym same),
    )

-- ---- written as they are

shown_one : (b : ℕ) → is_plain b ≡ true → shown_byte b ≡ b ∷ []
unfolding shown_byte
shown_one b h = rw h refl

pub as_they_are : (words : List ℕ) → IsPlain words → shown words ≡ words
as_they_are [] p = refl
as_they_are (b ∷ words) p = ap (λ (w : List ℕ). w ++ shown words) (shown_one b p.0) ∙ ap (λ (w : List ℕ). b ∷ w) (as_they_are words p.1)

none_behind : (xs ys : List ℕ) → xs ++ ys ≡ [] → ys ≡ []
none_behind [] ys e = e
none_behind (x ∷ xs) ys e = absurd cc

-- what is written of a text, or of a remark in place of one that is empty
pub tells_text : (text own : List ℕ) → own ≢ [] → (text ≢ [] → own ≡ text)
    → Tells (λ (said : List ℕ). IsFixed said × (said ≡ text)) (λ (said : List ℕ). IsFixed said × (front : List ℕ) × (text ≡ front ++ said))
    (λ (facts : List (List ℕ)). (text ≢ []) × NamesInLine facts text) (shown own ++ 10 ∷ [])
tells_text text own some same = record { told = told_line own some; fixed = fixed; last = last; named = named }
  where
    fixed : (said : List ℕ) → IsFixed said × (said ≡ text) → shown own ++ 10 ∷ [] ≡ said ++ 10 ∷ []
    fixed said h =
        let is : own ≡ said = same (λ e. h.0.some (h.1 ∙ e)) ∙ sym h.1 in
        ap (λ (w : List ℕ). w ++ 10 ∷ []) (ap (λ (w : List ℕ). shown w) is ∙ as_they_are said h.0.plain)

    last : (said : List ℕ) → IsFixed said × (front : List ℕ) × (text ≡ front ++ said) → (front : List ℕ) × (shown own ++ 10 ∷ [] ≡ front ++ (said ++ 10 ∷ []))
    last said h =
        let is : own ≡ h.1 ++ said = same (λ e. h.0.some (none_behind h.1 said (sym h.2 ∙ e))) ∙ h.2 in
        let parts : shown own ≡ shown h.1 ++ said =
        ap (λ (w : List ℕ). shown w) is ∙ flat_map-append shown_byte h.1 said ∙ ap (λ (w : List ℕ). shown h.1 ++ w) (as_they_are said h.0.plain) in
        (shown h.1, ap (λ (w : List ℕ). w ++ 10 ∷ []) parts ∙ append_assoc (shown h.1) said (10 ∷ []))

    named : (facts : List (List ℕ)) → (text ≢ []) × NamesInLine facts text → NamesInLine (map shown facts) (shown own ++ 10 ∷ [])
    named facts h = line_named facts own (subst (λ (w : List ℕ). NamesInLine facts w) (sym (same h.0)) h.1)

pub tells_these : (Are Last Other Others : List ℕ → Type 0) (Facts More : List (List ℕ) → Type 0) (own : List ℕ) → Tells Other Others More own
    → ((words : List ℕ) → Are words → Other words) → ((words : List ℕ) → Last words → Others words) → ((facts : List (List ℕ)) → Facts facts → More facts)
    → Tells Are Last Facts own
tells_these Are Last Other Others Facts More own tells same also these = record {
  told = tells.told;
  fixed = λ words are. tells.fixed words (same words are);
  last = λ words are. tells.last words (also words are);
  named = λ facts are. tells.named facts (these facts are);
}

pub told_these : {T E : Type 0} (r : Result T E) (Are Last : List ℕ → Type 0) (Facts : List (List ℕ) → Type 0) (start text bytes before after : List ℕ)
    → bytes ≡ text → start ≡ []
    → ((words : List ℕ) → Are words → IsFixed words × (text ≡ start ++ words))
    → ((words : List ℕ) → Last words → IsFixed words × (front : List ℕ) × (text ≡ start ++ (front ++ words)))
    → ((facts : List (List ℕ)) → Facts facts → SaysFacts facts start text)
    → OnOk r ((own : List ℕ)
    × Tells (λ (said : List ℕ). IsFixed said × (said ≡ bytes)) (λ (said : List ℕ). IsFixed said × (front : List ℕ) × (bytes ≡ front ++ said))
    (λ (facts : List (List ℕ)). (bytes ≢ []) × NamesInLine facts bytes) own
    × (after ≡ before ++ own))
    → OnOk r ((own : List ℕ) × Tells Are Last Facts own × (after ≡ before ++ own))
told_these (Err e) Are Last Facts start text bytes before after same none fixed last named told = tt
told_these (Ok t) Are Last Facts start text bytes before after same none fixed last named told = (
  told.0,
  tells_these Are Last (λ said. IsFixed said × (said ≡ bytes)) (λ said. IsFixed said × (front : List ℕ) × (bytes ≡ front ++ said))
      Facts (λ facts. (bytes ≢ []) × NamesInLine facts bytes) told.0 told.1
      (λ words are. let f = fixed words are in (f.0, sym (same ∙ f.1 ∙ ap (λ (s : List ℕ). s ++ words) none)))
      (λ words are. let f = last words are in (f.0, f.1, same ∙ f.2 ∙ ap (λ (s : List ℕ). s ++ (f.1 ++ words)) none))
      (λ facts are.
      let f = named facts are in
      let is : bytes ≡ f.words = same ∙ f.whole ∙ ap (λ (s : List ℕ). s ++ f.words) none in
      (λ e. f.some (sym is ∙ e), subst (λ (w : List ℕ). NamesInLine facts w) (sym is) f.named)),
  told.2,
)
