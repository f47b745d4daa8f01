-- The last words of what is said: they are plain, and stand at the end.
use Rattle.std.proofs.Common.{◌≡◌, ◌≢◌, ℕ, ◌<◌, List, [], ◌∷◌, ◌++◌, Option, Some, None, codes, slice_index, Result, Ok, Err, OnOk, refl, sym, ap, subst, ◌∙◌, append_assoc, inl, inr, true}
use Rattle.std.specs.Result.{result_ok}
use Rattle.rdm_frame.specs.declared.frame.Frame.{Frame}
use Rattle.rdm_frame.specs.declared.uid.Uid.{Uid}
use Rattle.rdm_frame.specs.Digits.{digits}
use Rattle.rdm_frame.specs.FrameText.{IsFrame}
use Rattle.rdm_frame.specs.Reading.{frame_in, IsFirstFault}
use Rattle.rdm_collector.specs.declared.transaction.Heard.{Heard as TheHeard}
use Rattle.rdm_trace.specs.declared.line.Line.{Line}
use Rattle.rdm_trace.specs.declared.line.Line.TheVariants.{Send, Reply, Heard, Found, Message as TheMessage, Time}
use Rattle.rdm_frame.specs.declared.decoding.FrameError.{FrameError}
use Rattle.rdm_frame.specs.declared.fault.Fault.{Fault}
use Rattle.rdm_frame.specs.declared.message.Message.{Message}
use Rattle.rdm_words.specs.Before.{IsAnswerOf}
use Rattle.rdm_words.specs.Fixed.{fault_line, stray_words, is_readable}
use Rattle.rdm_words.specs.Plain.{IsPlain, IsFixed}
use Rattle.rdm_words.specs.Unread.{data_line, stray_line, AreUnread, HasUnread, AreLastOfWhole, AreLastOfBytes, AreLastOfLine}
use Rattle.rdm_words.proofs.Fixed.{tried, each_fits, plain_hex, fixed_append, fixed_stray, same_some}
use Rattle.rdm_words.proofs.Plainness.{plain_append}

-- what is appended ends so, where it works out
abbrev pub Ends : {T E : Type 0} → Result T E → (List ℕ → Type 0) → List ℕ → List ℕ → Type 0
Ends r Last old new = OnOk r ((words : List ℕ) → Last words → IsFixed words × (front : List ℕ) × (new ≡ old ++ (front ++ words)))

pub plain_data : (bytes : List ℕ) → ((i : ℕ) → slice_index bytes i < 256) → IsPlain (data_line bytes)
plain_data bytes fits = plain_append (10 ∷ codes "  data ") (digits bytes) (tried (10 ∷ codes "  data ") refl) (plain_hex bytes (each_fits bytes fits))

fixed_data : (bytes : List ℕ) → bytes ≢ [] → ((i : ℕ) → slice_index bytes i < 256) → IsFixed (data_line bytes)
fixed_data bytes some fits = record { some = λ e. absurd cc; plain = plain_data bytes fits }

pub the_frame : {E : Type 0} (r : Result Frame E) (bytes : List ℕ) (f g : Frame) → r ≡ Ok f → result_ok r ≡ frame_in bytes → frame_in bytes ≡ Some g → f ≡ g
the_frame {E = E} r bytes f g is value has = same_some f g (sym (ap (λ (x : Result Frame E). result_ok x) is) ∙ value ∙ has)

pub last_of_frame : {T E F : Type 0} (r : Result T E) (read : Result Frame F) (bytes : List ℕ) (f : Frame) (old new : List ℕ)
    → read ≡ Ok f → IsFrame f → result_ok read ≡ frame_in bytes → ((cause : FrameError) → IsFirstFault cause bytes → ⊥)
    → (HasUnread f → OnOk r ((front : List ℕ) × (new ≡ old ++ (front ++ data_line f.body))))
    → Ends r (λ words. AreLastOfWhole bytes words) old new
last_of_frame (Err e) read bytes f old new is fits value none put = tt
last_of_frame (Ok t) read bytes f old new is fits value none put = λ words are. by words are
  where
    by : (words : List ℕ) → AreLastOfWhole bytes words → IsFixed words × (front : List ℕ) × (new ≡ old ++ (front ++ words))
    by words (inl are) =
        let same : are.0 ≡ f = sym (the_frame read bytes f are.0 is value are.1) in
        let unread : HasUnread f = subst (λ (g : Frame). HasUnread g) same are.2 in
        let line : words ≡ data_line f.body = are.3 ∙ ap (λ (g : Frame). data_line g.body) same in
        let out = put unread in (
          subst (λ (w : List ℕ). IsFixed w) (sym line) (fixed_data f.body unread.unread.some (λ i. fits.data_slots i)),
          out.0,
          out.1 ∙ ap (λ (w : List ℕ). old ++ (out.0 ++ w)) (sym line),
        )
    by words (inr are) = absurd (none are.0 are.1.0)

pub no_frame : {F : Type 0} (read : Result Frame F) (bytes : List ℕ) (e : F) (f : Frame) → read ≡ Err e → result_ok read ≡ frame_in bytes → frame_in bytes ≡ Some f → ⊥
no_frame {F = F} read bytes e f is value has =
    let none : None ≡ Some f = sym (ap (λ (x : Result Frame F). result_ok x) is) ∙ value ∙ has in absurd cc

fixed_stray_line : (cause : FrameError) (bytes : List ℕ) → ((i : ℕ) → slice_index bytes i < 256) → IsFixed (stray_line cause bytes)
fixed_stray_line cause bytes fits = record {
  some = λ e. absurd cc;
  plain = plain_append (10 ∷ codes "  ") (stray_words cause bytes) (tried (10 ∷ codes "  ") refl) (fixed_stray cause bytes (each_fits bytes fits)).plain;
}

pub last_of_none : {T E : Type 0} (r : Result T E) (read : Result Frame FrameError) (bytes : List ℕ) (error : FrameError) (old new : List ℕ)
    → read ≡ Err error → result_ok read ≡ frame_in bytes → ((i : ℕ) → slice_index bytes i < 256)
    → ((cause : FrameError) → IsFirstFault cause bytes → error ≡ cause)
    → (((uid : Uid) → IsAnswerOf uid bytes → ⊥) → is_readable bytes ≡ true → OnOk r ((front : List ℕ) × (new ≡ old ++ (front ++ stray_line error bytes))))
    → Ends r (λ words. AreLastOfWhole bytes words) old new
last_of_none (Err x) read bytes error old new is value fits same put = tt
last_of_none (Ok t) read bytes error old new is value fits same put = λ words are. by words are
  where
    by : (words : List ℕ) → AreLastOfWhole bytes words → IsFixed words × (front : List ℕ) × (new ≡ old ++ (front ++ words))
    by words (inl are) = absurd (no_frame read bytes error are.0 is value are.1)
    by words (inr are) =
        let line : words ≡ stray_line error bytes = are.3 ∙ ap (λ (e : FrameError). stray_line e bytes) (sym (same are.0 are.1.0)) in
        let out = put are.1.1 are.2 in (
          subst (λ (w : List ℕ). IsFixed w) (sym line) (fixed_stray_line error bytes fits),
          out.0,
          out.1 ∙ ap (λ (w : List ℕ). old ++ (out.0 ++ w)) (sym line),
        )

regrouped : (a b c d : List ℕ) → (a ++ (b ++ c)) ++ d ≡ a ++ (b ++ (c ++ d))
regrouped a b c d = append_assoc a (b ++ c) d ∙ ap (λ (w : List ℕ). a ++ w) (append_assoc b c d)

pub last_of_send : {T E : Type 0} (r : Result T E) (line : Line) (given bytes : List ℕ) (fault : Fault) (old mid new : List ℕ)
    → line ≡ Send bytes fault → given ≡ bytes
    → ((words : List ℕ) → AreLastOfBytes given words → IsFixed words × (front : List ℕ) × (mid ≡ old ++ (front ++ words)))
    → OnOk r (new ≡ mid ++ fault_line fault) → IsPlain (fault_line fault) → Ends r (λ words. AreLastOfLine line words) old new
last_of_send (Err e) line given bytes fault old mid new is same first second plain = tt
last_of_send (Ok t) line given bytes fault old mid new is same first second plain = λ words are.
    let at : AreLastOfLine (Send given fault) words =
    subst (λ (l : Line). AreLastOfLine l words) (is ∙ ap (λ (b : List ℕ). Send b fault) (sym same)) are in
    let front = first at.0 at.1 in (
      subst (λ (w : List ℕ). IsFixed w) (sym at.2) (fixed_append at.0 (fault_line fault) front.0 plain),
      front.1,
      second ∙ ap (λ (w : List ℕ). w ++ fault_line fault) front.2 ∙ regrouped old front.1 at.0 (fault_line fault)
          ∙ ap (λ (w : List ℕ). old ++ (front.1 ++ w)) (sym at.2),
    )

pub last_of_reply : {T E : Type 0} (r : Result T E) (line : Line) (given bytes old new : List ℕ)
    → line ≡ Reply (Some bytes) → given ≡ bytes → Ends r (λ words. AreLastOfBytes given words) old new → Ends r (λ words. AreLastOfLine line words) old new
last_of_reply (Err e) line given bytes old new is same ends = tt
last_of_reply (Ok t) line given bytes old new is same ends = λ words are.
    ends words (subst (λ (l : Line). AreLastOfLine l words) (is ∙ ap (λ (b : List ℕ). Reply (Some b)) (sym same)) are)

pub last_of_found : {T E : Type 0} (r : Result T E) (line : Line) (uid : Uid) (old new : List ℕ)
    → line ≡ Found uid → Ends r (λ words. AreLastOfLine line words) old new
last_of_found (Err e) line uid old new is = tt
last_of_found (Ok t) line uid old new is = λ words are. absurd (subst (λ (l : Line). AreLastOfLine l words) is are)

pub last_of_heard : {T E : Type 0} (r : Result T E) (line : Line) (heard : Option TheHeard) (old new : List ℕ)
    → line ≡ Heard heard → Ends r (λ words. AreLastOfLine line words) old new
last_of_heard (Err e) line heard old new is = tt
last_of_heard (Ok t) line heard old new is = λ words are. absurd (subst (λ (l : Line). AreLastOfLine l words) is are)

pub last_of_time : {T E : Type 0} (r : Result T E) (line : Line) (millis : ℕ) (old new : List ℕ)
    → line ≡ Time millis → Ends r (λ words. AreLastOfLine line words) old new
last_of_time (Err e) line millis old new is = tt
last_of_time (Ok t) line millis old new is = λ words are. absurd (subst (λ (l : Line). AreLastOfLine l words) is are)

pub last_of_message : {T E : Type 0} (r : Result T E) (line : Line) (message : Message) (old new : List ℕ)
    → line ≡ TheMessage message
    → (AreUnread message.class message.pid message.body
    → OnOk r (IsPlain (data_line message.body) × (front : List ℕ) × (new ≡ old ++ (front ++ data_line message.body))))
    → Ends r (λ words. AreLastOfLine line words) old new
last_of_message (Err e) line message old new is put = tt
last_of_message (Ok t) line message old new is put = λ words are.
    let at : AreLastOfLine (TheMessage message) words = subst (λ (l : Line). AreLastOfLine l words) is are in
    let out = put at.0 in (
      subst (λ (w : List ℕ). IsFixed w) (sym at.1) (record { some = λ e. absurd cc; plain = out.0 }),
      out.1,
      out.2 ∙ ap (λ (w : List ℕ). old ++ (out.1 ++ w)) (sym at.1),
    )

-- Bytes that aren't a frame, behind what they say and on a line of their own.
pub strayed : {T E : Type 0} (r : Result T E) (cause : FrameError) (bytes old head first second new : List ℕ)
    → first ≡ old ++ head → second ≡ first ++ codes "\n  " → OnOk r (new ≡ second ++ stray_words cause bytes)
    → OnOk r ((front : List ℕ) × (new ≡ old ++ (front ++ stray_line cause bytes)))
strayed (Err e) cause bytes old head first second new one two put = tt
strayed (Ok t) cause bytes old head first second new one two put = (
  head,
  put ∙ ap (λ (w : List ℕ). w ++ stray_words cause bytes) (two ∙ ap (λ (w : List ℕ). w ++ codes "\n  ") one)
      ∙ append_assoc (old ++ head) (codes "\n  ") (stray_words cause bytes)
      ∙ append_assoc old head (stray_line cause bytes),
)
