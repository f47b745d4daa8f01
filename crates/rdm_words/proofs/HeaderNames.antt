-- The words of a header name what they have to, one part after the other: each in front of a rest that names more.
use Rattle.std.proofs.Common.{◌≡◌, ◌≢◌, ℕ, ◌==◌, Bool, true, false, cond, List, [], ◌∷◌, ◌++◌, length, Option, Some, None, Result, Ok, Err, OnOk, codes, decimal, refl, sym, ap, subst, ◌∙◌, append_assoc, append-nil}
use Rattle.std.specs.Int.{w8, w16, to_be_bytes, from_be_bytes}
use Rattle.rdm_frame.specs.declared.frame.Frame.{Frame}
use Rattle.rdm_frame.specs.declared.uid.Uid.{Uid}
use Rattle.rdm_frame.specs.Addressing.{all_devices, is_broadcast, same_uid}
use Rattle.rdm_frame.specs.Digits.{digits}
use Rattle.rdm_frame.specs.UidText.{uid_text}
use Rattle.rdm_words.specs.HeaderFacts.{name_and, name_or, class_name, class_fact, parameter_facts, place_fact, port_facts, waiting_facts, tenths_text, details_facts, reply_type_facts, subject_facts, response_header, request_header, header_facts}
use Rattle.rdm_words.specs.HeaderWords.{words_or, with_number, named_words, line_below, quoted, destination_words, parties_words, class_words, words_of_parameter, parameter_words, place_words, subject_words, port_words, waiting_noun, waiting_words, details_words, reply_type_words, request_words, response_words, verb_of, header_words}
use Rattle.rdm_words.specs.LineWords.{heading_words}
use Rattle.rdm_words.specs.Naming.{BeginsApart, Names, NamesInLine, AddsNames, SaysFacts}
use Rattle.rdm_words.specs.Tables.{nack_reason, reply_type_name, standard_name}
use Rattle.rdm_words.specs.Unread.{is_response}
use Rattle.rdm_words.proofs.Naming.{in_front, named_both, begins_both, begins_below, some_front}

module _ (more : List (List ℕ)) (rest : List ℕ) (begins : BeginsApart rest) (n : Names more rest) where
  -- a name, or a number behind what it is
  named_or : (noun : List ℕ) (name : Option (List ℕ)) (number : List ℕ) → Names (name_or name number ∷ more) (32 ∷ (words_or (noun ++ (32 ∷ [])) name number ++ rest))
  named_or noun None number =
      subst (λ (w : List ℕ). Names (number ∷ more) (32 ∷ w)) (sym (append_assoc (noun ++ (32 ∷ [])) number rest ∙ append_assoc noun (32 ∷ []) (number ++ rest))) (32 ∷ noun, 32, rest, refl, refl, begins, n)
  named_or noun (Some name) number = ([], 32, rest, refl, refl, begins, n)

  -- a number behind a name
  behind_name : (number : List ℕ) → Names (number ∷ more) (codes " (" ++ (number ++ (codes ")" ++ rest)))
  behind_name number = (32 ∷ [], 40, 41 ∷ rest, refl, refl, refl, in_front more (41 ∷ []) rest n)

  regrouped : (name number : List ℕ) → with_number name number ++ rest ≡ name ++ (codes " (" ++ (number ++ (codes ")" ++ rest)))
  regrouped name number =
      append_assoc name (codes " (" ++ (number ++ codes ")")) rest ∙ ap (λ (w : List ℕ). name ++ (codes " (" ++ w)) (append_assoc number (codes ")") rest)

  -- a name with its number
  with_name : (name number : List ℕ) → Names (name ∷ number ∷ more) (32 ∷ (with_number name number ++ rest))
  with_name name number =
      subst (λ (w : List ℕ). Names (name ∷ number ∷ more) (32 ∷ w)) (sym (regrouped name number))
      ([], 32, codes " (" ++ (number ++ (codes ")" ++ rest)), refl, refl, refl, behind_name number)

  -- a name with its number, or the number alone
  named_and : (name : Option (List ℕ)) (number : List ℕ) → Names (name_and name number ++ more) (32 ∷ (named_words name number ++ rest))
  named_and None number = ([], 32, rest, refl, refl, begins, n)
  named_and (Some name) number = with_name name number

  parameter : (name own : Option (List ℕ)) (pid : List ℕ) → Names (name_and name pid ++ more) (32 ∷ (words_of_parameter name own pid ++ rest))
  parameter (Some name) own pid = with_name name pid
  parameter None (Some own) pid =
      subst (λ (w : List ℕ). Names (pid ∷ more) (32 ∷ w)) (sym (regrouped (quoted own) pid))
      (in_front (pid ∷ more) (32 ∷ quoted own) (codes " (" ++ (pid ++ (codes ")" ++ rest))) (behind_name pid))
  parameter None None pid = (32 ∷ codes "parameter", 32, rest, refl, refl, begins, n)

  destination : (uid : Uid) → Names (uid_text uid ∷ more) (32 ∷ (destination_words uid ++ rest))
  unfolding destination_words
  destination uid = by (same_uid uid all_devices) (is_broadcast uid)
    where
      u : List ℕ
      u = uid_text uid

      maker : List ℕ
      maker = digits (to_be_bytes w16 uid.maker)

      by : (x y : Bool) → Names (u ∷ more)
          (32 ∷ (cond x (codes "all devices (" ++ (u ++ codes "):"))
          (cond y (codes "all devices of " ++ (maker ++ (codes " (" ++ (u ++ codes "):")))) (u ++ codes ":")) ++ rest))
      by true y =
          subst (λ (w : List ℕ). Names (u ∷ more) (codes " all devices (" ++ w)) (sym (append_assoc u (codes "):") rest))
          (codes " all devices ", 40, codes "):" ++ rest, refl, refl, refl, in_front more (codes "):") rest n)
      by false true =
          subst (λ (w : List ℕ). Names (u ∷ more) (codes " all devices of " ++ w))
          (sym (append_assoc maker (codes " (" ++ (u ++ codes "):")) rest ∙ ap (λ (w : List ℕ). maker ++ (codes " (" ++ w)) (append_assoc u (codes "):") rest)))
          (in_front (u ∷ more) (codes " all devices of " ++ maker) (codes " (" ++ (u ++ (codes "):" ++ rest)))
          (codes " ", 40, codes "):" ++ rest, refl, refl, refl, in_front more (codes "):") rest n))
      by false false =
          subst (λ (w : List ℕ). Names (u ∷ more) (32 ∷ w)) (sym (append_assoc u (codes ":") rest))
          ([], 32, 58 ∷ rest, refl, refl, refl, in_front more (58 ∷ []) rest n)

  place : (sub : ℕ) → Names (place_fact sub ∷ more) (codes ", " ++ (place_words sub ++ rest))
  unfolding place_words
  place sub = by (sub == 0) (sub == 0xFFFF)
    where
      by : (x y : Bool) → Names (cond x (codes "root") (cond y (codes "all sub-devices") (decimal sub)) ∷ more)
          (codes ", " ++ (cond x (codes "root") (cond y (codes "all sub-devices") (codes "sub-device " ++ decimal sub)) ++ rest))
      by true y = (codes ",", 32, rest, refl, refl, begins, n)
      by false true = (codes ",", 32, rest, refl, refl, begins, n)
      by false false = (codes ", sub-device", 32, rest, refl, refl, begins, n)

  transaction : (tn : ℕ) → Names (decimal tn ∷ more) (codes ", transaction " ++ (decimal tn ++ rest))
  transaction tn = (codes ", transaction", 32, rest, refl, refl, begins, n)

  begins_port : (p : ℕ) → BeginsApart (port_words p ++ rest)
  unfolding port_words
  begins_port p = by (p == 1)
    where
      by : (x : Bool) → BeginsApart (cond x [] (codes ", port " ++ decimal p) ++ rest)
      by true = begins
      by false = refl

  port : (p : ℕ) → Names (port_facts p ++ more) (port_words p ++ rest)
  unfolding port_words
  port p = by (p == 1)
    where
      by : (x : Bool) → Names (cond x [] (decimal p ∷ []) ++ more) (cond x [] (codes ", port " ++ decimal p) ++ rest)
      by true = n
      by false = (codes ", port", 32, rest, refl, refl, begins, n)

  begins_details : (code : ℕ) (body : List ℕ) → BeginsApart (details_words code body ++ rest)
  unfolding details_words
  begins_details code body = by (length body == 2) (code == 1) (code == 2)
    where
      by : (x y z : Bool) → BeginsApart
          (cond x (cond y (codes " " ++ tenths_text (from_be_bytes w16 body))
          (cond z (codes " " ++ named_words (nack_reason (from_be_bytes w16 body)) (digits body)) [])) [] ++ rest)
      by true true z = refl
      by true false true = refl
      by true false false = begins
      by false y z = begins

  details : (code : ℕ) (body : List ℕ) → Names (details_facts code body ++ more) (details_words code body ++ rest)
  unfolding details_words
  details code body = by (length body == 2) (code == 1) (code == 2)
    where
      tenths : List ℕ
      tenths = tenths_text (from_be_bytes w16 body)

      reason : Option (List ℕ)
      reason = nack_reason (from_be_bytes w16 body)

      by : (x y z : Bool) → Names (cond x (cond y (tenths ∷ []) (cond z (name_and reason (digits body)) [])) [] ++ more)
          (cond x (cond y (codes " " ++ tenths) (cond z (codes " " ++ named_words reason (digits body)) [])) [] ++ rest)
      by true true z = ([], 32, rest, refl, refl, begins, n)
      by true false true = named_and reason (digits body)
      by true false false = n
      by false y z = n

-- how a request is answered
reply_type : (more : List (List ℕ)) (rest : List ℕ) → BeginsApart rest → Names more rest → (code : ℕ) (body : List ℕ)
    → Names (reply_type_facts code body ++ more) (32 ∷ (reply_type_words code body ++ rest))
unfolding reply_type_words
reply_type more rest begins n code body =
    subst (λ (w : List ℕ). Names (reply_type_facts code body ++ more) (32 ∷ w))
    (sym (append_assoc (words_or (codes "response type ") (reply_type_name code) (digits (to_be_bytes w8 code))) (details_words code body) rest))
    (named_or (details_facts code body ++ more) (details_words code body ++ rest) (begins_details more rest begins n code body) (details more rest begins n code body)
    (codes "response type") (reply_type_name code) (digits (to_be_bytes w8 code)))

subject : (more : List (List ℕ)) (rest : List ℕ) → BeginsApart rest → Names more rest → (f : Frame) (own : Option (List ℕ))
    → Names (subject_facts f ++ more) (subject_words f.pid f.sub f.tn own ++ rest)
unfolding subject_words parameter_words
subject more rest begins n f own =
    let tn = transaction more rest begins n f.tn in
    let at = place (decimal f.tn ∷ more) (codes ", transaction " ++ (decimal f.tn ++ rest)) refl tn f.sub in
    let named = parameter (place_fact f.sub ∷ decimal f.tn ∷ more) (codes ", " ++ (place_words f.sub ++ (codes ", transaction " ++ (decimal f.tn ++ rest)))) refl at
    (standard_name f.pid) own (digits (to_be_bytes w16 f.pid)) in
    let words : subject_words f.pid f.sub f.tn own ++ rest
    ≡ 32 ∷ (parameter_words f.pid own ++ (codes ", " ++ (place_words f.sub ++ (codes ", transaction " ++ (decimal f.tn ++ rest))))) =
    ap (λ (w : List ℕ). 32 ∷ w) (append_assoc (parameter_words f.pid own) (codes ", " ++ (place_words f.sub ++ (codes ", transaction " ++ decimal f.tn))) rest)
    ∙ ap (λ (w : List ℕ). 32 ∷ (parameter_words f.pid own ++ (codes ", " ++ w))) (append_assoc (place_words f.sub) (codes ", transaction " ++ decimal f.tn) rest) in
    subst (λ (facts : List (List ℕ)). Names facts (subject_words f.pid f.sub f.tn own ++ rest)) (sym (append_assoc (parameter_facts f.pid) (place_fact f.sub ∷ decimal f.tn ∷ []) more))
    (subst (λ (w : List ℕ). Names (parameter_facts f.pid ++ (place_fact f.sub ∷ decimal f.tn ∷ more)) w) (sym words) named)

begins_noun : (count : ℕ) → BeginsApart (waiting_noun count)
begins_noun count = by (count == 1) (count == 255)
  where
    by : (x y : Bool) → BeginsApart (cond x (codes " message waits") (cond y (codes " or more messages wait") (codes " messages wait")))
    by true y = refl
    by false true = refl
    by false false = refl

begins_waiting : (count : ℕ) → BeginsApart (waiting_words count)
unfolding waiting_words
begins_waiting count = by (count == 0)
  where
    by : (x : Bool) → BeginsApart (cond x [] (codes ", " ++ (decimal count ++ waiting_noun count)))
    by true = tt
    by false = refl

waiting : (count : ℕ) → Names (waiting_facts count) (waiting_words count)
unfolding waiting_words
waiting count = by (count == 0)
  where
    by : (x : Bool) → Names (cond x [] (decimal count ∷ [])) (cond x [] (codes ", " ++ (decimal count ++ waiting_noun count)))
    by true = tt
    by false = (codes ",", 32, waiting_noun count, refl, refl, begins_noun count, tt)

-- the parties in front of the rest
parties : (more : List (List ℕ)) (rest : List ℕ) → Names more rest → BeginsApart rest → (verb : List ℕ) (f : Frame)
    → NamesInLine (uid_text f.src ∷ uid_text f.dst ∷ more) (parties_words verb f.src f.dst ++ rest)
unfolding parties_words
parties more rest n begins verb f =
    let words : parties_words verb f.src f.dst ++ rest ≡ uid_text f.src ++ (codes " " ++ (verb ++ (codes " " ++ (destination_words f.dst ++ rest)))) =
    append_assoc (uid_text f.src) (codes " " ++ (verb ++ (codes " " ++ destination_words f.dst))) rest
    ∙ ap (λ (w : List ℕ). uid_text f.src ++ (codes " " ++ w)) (append_assoc verb (codes " " ++ destination_words f.dst) rest) in
    subst (λ (w : List ℕ). NamesInLine (uid_text f.src ∷ uid_text f.dst ∷ more) w) (sym words) (
      [],
      10,
      codes " " ++ (verb ++ (codes " " ++ (destination_words f.dst ++ rest))),
      refl,
      refl,
      refl,
      in_front (uid_text f.dst ∷ more) (codes " " ++ verb) (codes " " ++ (destination_words f.dst ++ rest)) (destination more rest begins n f.dst),
    )

request : (verb : List ℕ) (f : Frame) (own : Option (List ℕ)) → NamesInLine (request_header f) (request_words verb f own)
unfolding request_words class_words subject_words
request verb f own =
    let end = waiting f.count in
    let behind = port (waiting_facts f.count) (waiting_words f.count) (begins_waiting f.count) end f.port in
    let about = subject (port_facts f.port ++ waiting_facts f.count) (port_words f.port ++ waiting_words f.count)
    (begins_port (waiting_facts f.count) (waiting_words f.count) (begins_waiting f.count) end f.port) behind f own in
    let class = named_or (subject_facts f ++ (port_facts f.port ++ waiting_facts f.count)) (subject_words f.pid f.sub f.tn own ++ (port_words f.port ++ waiting_words f.count)) refl about
    (codes "command class") (class_name f.class) (digits (to_be_bytes w8 f.class)) in
    parties (class_fact f.class ∷ (subject_facts f ++ (port_facts f.port ++ waiting_facts f.count)))
    (codes " " ++ (class_words f.class ++ (subject_words f.pid f.sub f.tn own ++ (port_words f.port ++ waiting_words f.count)))) class refl verb f

response : (f : Frame) (own : Option (List ℕ)) → NamesInLine (response_header f) (response_words f own)
unfolding response_words class_words subject_words
response f own =
    let end = waiting f.count in
    let about = subject (waiting_facts f.count) (waiting_words f.count) (begins_waiting f.count) end f own in
    let class = named_or (subject_facts f ++ waiting_facts f.count) (subject_words f.pid f.sub f.tn own ++ waiting_words f.count) refl about
    (codes "command class") (class_name f.class) (digits (to_be_bytes w8 f.class)) in
    let behind = in_front (class_fact f.class ∷ (subject_facts f ++ waiting_facts f.count)) (44 ∷ [])
    (32 ∷ (class_words f.class ++ (subject_words f.pid f.sub f.tn own ++ waiting_words f.count))) class in
    let how = reply_type (class_fact f.class ∷ (subject_facts f ++ waiting_facts f.count))
    (codes ", " ++ (class_words f.class ++ (subject_words f.pid f.sub f.tn own ++ waiting_words f.count))) refl behind f.port f.body in
    parties (reply_type_facts f.port f.body ++ (class_fact f.class ∷ (subject_facts f ++ waiting_facts f.count)))
    (codes " " ++ (reply_type_words f.port f.body ++ (codes ", " ++ (class_words f.class ++ (subject_words f.pid f.sub f.tn own ++ waiting_words f.count))))) how refl (codes "answers") f

pub header : (f : Frame) (own : Option (List ℕ)) → NamesInLine (header_facts f) (header_words f own)
header f own = by (is_response f.class)
  where
    by : (x : Bool) → NamesInLine (cond x (response_header f) (request_header f)) (cond x (response_words f own) (request_words (verb_of f.class) f own))
    by true = response f own
    by false = request (verb_of f.class) f own

some_behind : (front more : List ℕ) → more ≢ [] → front ++ more ≢ []
some_behind [] more some e = some e
some_behind (x ∷ front) more some e = absurd cc

some_verb : (verb : List ℕ) (f : Frame) → parties_words verb f.src f.dst ≢ []
unfolding parties_words
some_verb verb f = some_behind (uid_text f.src) (codes " " ++ (verb ++ (codes " " ++ destination_words f.dst))) (λ e. absurd cc)

-- there are such words
pub some_header : (f : Frame) (own : Option (List ℕ)) → header_words f own ≢ []
unfolding request_words response_words
some_header f own = by (is_response f.class)
  where
    by : (x : Bool) → cond x (response_words f own) (request_words (verb_of f.class) f own) ≢ []
    by true = some_front (parties_words (codes "answers") f.src f.dst)
        (codes " " ++ (reply_type_words f.port f.body ++ (codes ", " ++ (class_words f.class ++ (subject_words f.pid f.sub f.tn own ++ waiting_words f.count)))))
        (some_verb (codes "answers") f)
    by false = some_front (parties_words (verb_of f.class) f.src f.dst)
        (codes " " ++ (class_words f.class ++ (subject_words f.pid f.sub f.tn own ++ (port_words f.port ++ waiting_words f.count)))) (some_verb (verb_of f.class) f)

-- Words that name facts, a line of its own below, and lines that follow.
pub said_above : {T E : Type 0} (r : Result T E) (facts below : List (List ℕ)) (words said old head start first second new : List ℕ)
    → NamesInLine facts words → words ≢ [] → start ≡ [] → head ≡ start ++ words → first ≡ old ++ head → second ≡ first ++ line_below said
    → OnOk r (AddsNames below second new) → OnOk r (SaysFacts (facts ++ below) old new)
said_above (Err e) facts below words said old head start first second new named some none is one two lines = tt
said_above (Ok t) facts below words said old head start first second new named some none is one two lines =
    let same : head ≡ words = is ∙ ap (λ (w : List ℕ). w ++ words) none in record {
      words = words ++ (line_below said ++ lines.words);
      whole = lines.whole ∙ ap (λ (w : List ℕ). w ++ lines.words) (two ∙ ap (λ (w : List ℕ). w ++ line_below said) (one ∙ ap (λ (w : List ℕ). old ++ w) same))
          ∙ append_assoc (old ++ words) (line_below said) lines.words
          ∙ append_assoc old words (line_below said ++ lines.words);
      some = some_front words (line_below said ++ lines.words) some;
      named = named_both facts below (10 ∷ words) (line_below said ++ lines.words) named
          (begins_both (line_below said) lines.words (begins_below said) lines.begins) (in_front below (line_below said) lines.words lines.named);
    }

pub frame_said : {T E : Type 0} (r : Result T E) (below : List (List ℕ)) (f : Frame) (own : Option (List ℕ)) (said old head start first second new : List ℕ)
    → start ≡ [] → head ≡ start ++ header_words f own → first ≡ old ++ head → second ≡ first ++ line_below said
    → OnOk r (AddsNames below second new) → OnOk r (SaysFacts (header_facts f ++ below) old new)
frame_said r below f own said old head start first second new =
    said_above r (header_facts f) below (header_words f own) said old head start first second new (header f own) (some_header f own)

heading : (class pid sub : ℕ) (own : Option (List ℕ))
    → NamesInLine (class_fact class ∷ (parameter_facts pid ++ (place_fact sub ∷ []))) (heading_words class pid sub own)
unfolding heading_words class_words parameter_words
heading class pid sub own =
    let at = subst (λ (w : List ℕ). Names (place_fact sub ∷ []) (codes ", " ++ w)) (append-nil (place_words sub)) (place [] [] tt tt sub) in
    let about = parameter (place_fact sub ∷ []) (codes ", " ++ place_words sub) refl at (standard_name pid) own (digits (to_be_bytes w16 pid)) in
    let said = named_or (parameter_facts pid ++ (place_fact sub ∷ [])) (codes " " ++ (parameter_words pid own ++ (codes ", " ++ place_words sub))) refl about
    (codes "command class") (class_name class) (digits (to_be_bytes w8 class)) in
    in_front (class_fact class ∷ (parameter_facts pid ++ (place_fact sub ∷ []))) (10 ∷ codes "recorded:")
    (codes " " ++ (class_words class ++ (codes " " ++ (parameter_words pid own ++ (codes ", " ++ place_words sub))))) said

some_heading : (class pid sub : ℕ) (own : Option (List ℕ)) → heading_words class pid sub own ≢ []
unfolding heading_words
some_heading class pid sub own e = absurd cc

pub message_said : {T E : Type 0} (r : Result T E) (below : List (List ℕ)) (class pid sub : ℕ) (own : Option (List ℕ)) (said old head start first second new : List ℕ)
    → start ≡ [] → head ≡ start ++ heading_words class pid sub own → first ≡ old ++ head → second ≡ first ++ line_below said
    → OnOk r (AddsNames below second new) → OnOk r (SaysFacts ((class_fact class ∷ (parameter_facts pid ++ (place_fact sub ∷ []))) ++ below) old new)
message_said r below class pid sub own said old head start first second new =
    said_above r (class_fact class ∷ (parameter_facts pid ++ (place_fact sub ∷ []))) below (heading_words class pid sub own) said old head start first second new
    (heading class pid sub own) (some_heading class pid sub own)
