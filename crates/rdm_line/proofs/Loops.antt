-- Bytes for many devices, one after another.
use Rattle.std.proofs.Common.{◌≡◌, ◌<◌, ◌≤◌, ◌+◌, ◌∷◌, ◌++◌, [], List, ℕ, suc, length, map, take, drop, Bool, true, false, Option, None, sym, ap, subst, ◌∙◌, arith}
use Rattle.std.specs.Bool.{OnFalse}
use Rattle.std.proofs.lemmas.Bool.{OnFalse_at}
use Rattle.std.specs.List.{AllZip}
use Rattle.std.specs.Option.{option_to_list}
use Rattle.std.proofs.lemmas.List.{take_all, drop_all, append-nil, length-map, map-append, append_assoc}
use Rattle.std.proofs.lemmas.Grind.{flat_map-append}
use Rattle.std.proofs.lemmas.Slice.Zip.{AllZip-long}
use Rattle.rdm_responder.specs.History.{History, Heard, then_event}
use Rattle.rdm_responder.specs.Rules.{reply_of, answered}
use Rattle.rdm_line.specs.declared.on_wire.OnWire.{OnWire}
use Rattle.rdm_line.specs.declared.on_wire.OnWire.TheVariants.{Nothing, Reply}
use Rattle.rdm_line.specs.declared.collision.Collision.{Collision}
use Rattle.rdm_line.specs.Collisions.{on_wire}
use Rattle.rdm_line.specs.Hearing.{answers, hears, heard_by}
use Rattle.rdm_line.proofs.Unheard.{heard_as}
use Rattle.rdm_line.proofs.Zips.{Cut, cut}

next : (i : ℕ) → suc i ≡ i + 1
next i = omega arith

-- those before a place have heard the bytes
abbrev pub sofar : List ℕ → List History → ℕ → List History
sofar bytes hs i = map (heard_by bytes) (take i hs) ++ drop i hs

-- the histories round a place, of which those before have heard the bytes
abbrev pub Round : List ℕ → List History → ℕ → History → Type 0
Round bytes hs i h = sofar bytes hs i ≡ map (heard_by bytes) (take i hs) ++ h ∷ drop (suc i) hs

pub round : (bytes : List ℕ) (hs : List History) (i : ℕ) (c : Cut hs i) → Round bytes hs i c.item
round bytes hs i c = ap (λ (ks : List History). map (heard_by bytes) (take i hs) ++ ks) c.rest

pub place : (bytes : List ℕ) (hs : List History) (i : ℕ) (c : Cut hs i) → length (map (heard_by bytes) (take i hs)) ≡ i
place bytes hs i c = length-map (take i hs) (heard_by bytes) ∙ c.place

onward : (bytes : List ℕ) (hs : List History) (i : ℕ) (c : Cut hs i) → map (heard_by bytes) (take i hs) ++ heard_by bytes c.item ∷ drop (suc i) hs ≡ sofar bytes hs (suc i)
onward bytes hs i c =
    sym (append_assoc (map (heard_by bytes) (take i hs)) (heard_by bytes c.item ∷ []) (drop (suc i) hs))
    ∙ ap (λ (ks : List History). ks ++ drop (suc i) hs) (sym (map-append (heard_by bytes) (take i hs) (c.item ∷ [])) ∙ ap (map (heard_by bytes)) (sym c.more))

pub next_stands : {D : Type 0} (R : D → History → Type 0) (bytes : List ℕ) (initial now next : List D) (hs : List History) (i : ℕ) → AllZip R initial hs → i < length initial → AllZip R now (sofar bytes hs i)
    → ((before after : List History) (h : History) → length before ≡ i → AllZip R now (before ++ h ∷ after) → AllZip R next (before ++ heard_by bytes h ∷ after))
    → AllZip R next (sofar bytes hs (i + 1))
next_stands R bytes initial now later hs i zip lt stands step =
    let c = cut hs i (omega (arith, AllZip-long R initial hs zip)) in
    subst (AllZip R later) (onward bytes hs i c ∙ ap (sofar bytes hs) (next i)) (step (map (heard_by bytes) (take i hs)) (drop (suc i) hs) c.item (place bytes hs i c) (subst (AllZip R now) (round bytes hs i c) stands))

more_answers : (bytes : List ℕ) (hs : List History) (i : ℕ) (c : Cut hs i) → answers bytes (take i hs) ++ answers bytes (c.item ∷ []) ≡ answers bytes (take (suc i) hs)
more_answers bytes hs i c =
    sym (flat_map-append (λ (h : History). option_to_list (reply_of h bytes)) (take i hs) (c.item ∷ [])) ∙ ap (answers bytes) (sym c.more)

pub next_line : {D : Type 0} (R : D → History → Type 0) (bytes : List ℕ) (initial now : List D) (hs : List History) (i : ℕ) (rule : Collision) (first : List ℕ) (was is : OnWire × List ℕ) → AllZip R initial hs → i < length initial → AllZip R now (sofar bytes hs i)
    → was ≡ on_wire rule first (answers bytes (take i hs))
    → ((before after : List History) (h : History) (b : List ℕ) (xs : List (List ℕ)) → length before ≡ i → AllZip R now (before ++ h ∷ after) → was ≡ on_wire rule b xs → is ≡ on_wire rule b (xs ++ answers bytes (h ∷ [])))
    → is ≡ on_wire rule first (answers bytes (take (i + 1) hs))
next_line R bytes initial now hs i rule first was is zip lt stands line step =
    let c = cut hs i (omega (arith, AllZip-long R initial hs zip)) in
    step (map (heard_by bytes) (take i hs)) (drop (suc i) hs) c.item first (answers bytes (take i hs)) (place bytes hs i c) (subst (AllZip R now) (round bytes hs i c) stands) line
    ∙ ap (on_wire rule first) (more_answers bytes hs i c ∙ ap (λ (n : ℕ). answers bytes (take n hs)) (next i))

-- all have heard the bytes
pub ended : (bytes : List ℕ) (hs : List History) (i : ℕ) → length hs ≤ i → sofar bytes hs i ≡ map (heard_by bytes) hs
ended bytes hs i le = rw (take_all i hs le, drop_all i hs le) (append-nil (map (heard_by bytes) hs))

pub ended_stands : {D : Type 0} (R : D → History → Type 0) (bytes : List ℕ) (initial now : List D) (hs : List History) (i : ℕ) → AllZip R initial hs → length initial ≤ i → AllZip R now (sofar bytes hs i) → AllZip R now (map (heard_by bytes) hs)
ended_stands R bytes initial now hs i zip le stands = subst (AllZip R now) (ended bytes hs i (omega (arith, AllZip-long R initial hs zip))) stands

pub ended_line : {D : Type 0} (R : D → History → Type 0) (bytes : List ℕ) (initial : List D) (hs : List History) (i : ℕ) (rule : Collision) (first : List ℕ) (is : OnWire × List ℕ) → AllZip R initial hs → length initial ≤ i → is ≡ on_wire rule first (answers bytes (take i hs)) → is ≡ on_wire rule first (answers bytes hs)
ended_line R bytes initial hs i rule first is zip le line =
    line ∙ ap (λ (ks : List History). on_wire rule first (answers bytes ks)) (take_all i hs (omega (arith, AllZip-long R initial hs zip)))

-- ---- one device

pub was_silent : (rule : Collision) (first : List ℕ) (xs : List (List ℕ)) (was : OnWire × List ℕ) (reply : Option (List ℕ)) → reply ≡ None → was ≡ on_wire rule first xs → was ≡ on_wire rule first (xs ++ (option_to_list reply ++ []))
was_silent rule first xs was reply none line =
    line ∙ ap (on_wire rule first) (sym (ap (λ (o : Option (List ℕ)). xs ++ (option_to_list o ++ [])) none ∙ append-nil xs))

pub has_replied : (rule : Collision) (first : List ℕ) (xs : List (List ℕ)) (is : OnWire × List ℕ) (x w : List ℕ) (b : Bool) (reply : Option (List ℕ)) → b ≡ true → x ≡ w → answered b w ≡ reply → is ≡ on_wire rule first (xs ++ x ∷ []) → is ≡ on_wire rule first (xs ++ (option_to_list reply ++ []))
has_replied rule first xs is x w b reply t e a line =
    line
    ∙ ap (λ (y : List ℕ). on_wire rule first (xs ++ y ∷ [])) e
    ∙ ap (λ (o : Option (List ℕ)). on_wire rule first (xs ++ (option_to_list o ++ []))) (ap (λ (c : Bool). answered c w) (sym t) ∙ a)

pub none_of : (w : List ℕ) (b : Bool) (reply : Option (List ℕ)) → b ≡ false → answered b w ≡ reply → reply ≡ None
none_of w b reply f a = sym a ∙ ap (λ (c : Bool). answered c w) f

pub set_heard : {D : Type 0} (R : D → History → Type 0) (xs : List D) (before : List History) (h : History) (after : List History) (bytes : List ℕ) → hears h.setup.uid bytes ≡ true → AllZip R xs (before ++ then_event h (Heard bytes) ∷ after) → AllZip R xs (before ++ heard_by bytes h ∷ after)
set_heard R xs before h after bytes hearing zip = subst (λ (k : History). AllZip R xs (before ++ k ∷ after)) (sym (heard_as h bytes true hearing)) zip

pub set_unheard : {D : Type 0} (R : D → History → Type 0) (xs : List D) (before : List History) (h : History) (after : List History) (bytes : List ℕ) → hears h.setup.uid bytes ≡ false → AllZip R xs (before ++ h ∷ after) → AllZip R xs (before ++ heard_by bytes h ∷ after)
set_unheard R xs before h after bytes deaf zip = subst (λ (k : History). AllZip R xs (before ++ k ∷ after)) (sym (heard_as h bytes false deaf)) zip

-- bytes for one device alone
pub one_replied : (rule : Collision) (first w : List ℕ) (b : Bool) (reply : Option (List ℕ)) (xs : List (List ℕ)) → b ≡ true → answered b w ≡ reply → xs ≡ option_to_list reply → (Reply, w) ≡ on_wire rule first xs
one_replied rule first w b reply xs t a e =
    ap (λ (o : Option (List ℕ)). on_wire rule first (option_to_list o)) (ap (λ (c : Bool). answered c w) (sym t) ∙ a) ∙ ap (on_wire rule first) (sym e)

pub one_silent : (rule : Collision) (first w : List ℕ) (b : Bool) (reply : Option (List ℕ)) (xs : List (List ℕ)) → b ≡ false → OnFalse b (w ≡ first) → answered b w ≡ reply → xs ≡ option_to_list reply → (Nothing, w) ≡ on_wire rule first xs
one_silent rule first w b reply xs f silent a e =
    ap (λ (v : List ℕ). (Nothing, v)) (OnFalse_at f silent)
    ∙ ap (λ (o : Option (List ℕ)). on_wire rule first (option_to_list o)) (sym (none_of w b reply f a)) ∙ ap (on_wire rule first) (sym e)
