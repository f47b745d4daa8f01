-- Comments before a text of TOML say nothing.
use Rattle.std.proofs.Common.{◌≡◌, ◌≤◌, ◌+◌, ◌-◌, ℕ, zero, suc, Bool, true, false, cond, if◌then◌else◌, nat_le, ◌&&◌, ◌==◌, List, [], ◌∷◌, ◌++◌, length, drop, map, slice_index, Option, Some, None, option_map, option_and_then, refl, sym, ap, ◌∙◌, arith, append_assoc}
use Rattle.std.proofs.lemmas.List.{length-drop, length-append}
use Rattle.std.proofs.lemmas.Bool.Decides.{nat_tests}
use Rattle.std.specs.List.{flat_map}
use Rattle.toml_parser.specs.Lexical.{first, skip_from, skip_blank, skip_turn}
use Rattle.toml.specs.Data.{Members}
use Rattle.toml.specs.Tables.{Document, Expression, close, define, no_nodes}
use Rattle.toml.specs.Parse.{lines, line, parse_document, skip_bom}
use Rattle.rdm_frame.specs.declared.uid.Uid.{Uid}
use Rattle.rdm_fixture.specs.declared.fixture.Fixture.{Fixture}
use Rattle.rdm_fixture.specs.Describes.{Describes}
use Rattle.rdm_describe.specs.declared.answers.Answer.{Answer}
use Rattle.rdm_describe.specs.declared.notes.Note.{Note}
use Rattle.rdm_describe.specs.Comments.{IsFileOf, comment, comments, heading, heading_words, note_words, unasked_words, unmuted_words, untold_words}
use Rattle.rdm_describe.specs.Texts.{is_printable, printed}

-- ---- what is skipped

turn : (c next : ℕ) → is_printable c ≡ true → skip_turn true true c next ≡ Some true
turn c next h = grind (arith, nat_tests)

printable_skipped : (c : ℕ) (cs : List ℕ) → is_printable c ≡ true → skip_from true true (c ∷ cs) ≡ skip_from true true cs
unfolding skip_from
printable_skipped c cs h = rw (turn c (first cs) h) refl

mark_skipped : (cs : List ℕ) → skip_from true true (0x3F ∷ cs) ≡ skip_from true true cs
unfolding skip_from
mark_skipped cs = refl

either_skipped : (test : Bool) (c : ℕ) (cs : List ℕ) → is_printable c ≡ test → skip_from true true ((if test then c else 0x3F) ∷ cs) ≡ skip_from true true cs
either_skipped true c cs h = printable_skipped c cs h
either_skipped false c cs h = mark_skipped cs

printed_skipped : (c : ℕ) (cs : List ℕ) → skip_from true true (printed c ∷ cs) ≡ skip_from true true cs
printed_skipped c cs = either_skipped (is_printable c) c cs refl

words_skipped : (words rest : List ℕ) → skip_from true true (map printed words ++ rest) ≡ skip_from true true rest
words_skipped [] rest = refl
words_skipped (c ∷ cs) rest = printed_skipped c (map printed cs ++ rest) ∙ words_skipped cs rest

end_skipped : (rest : List ℕ) → skip_from true true (0x0A ∷ rest) ≡ skip_from true false rest
unfolding skip_from
end_skipped rest = refl

begun : (rest : List ℕ) → skip_from true false (0x23 ∷ 0x20 ∷ rest) ≡ skip_from true true rest
unfolding skip_from
begun rest = refl

-- a comment
pub comment_skipped : (words rest : List ℕ) → skip_blank (comment words ++ rest) ≡ skip_blank rest
comment_skipped words rest =
    begun ((map printed words ++ (0x0A ∷ [])) ++ rest)
    ∙ ap (λ (text : List ℕ). skip_from true true text) (append_assoc (map printed words) (0x0A ∷ []) rest)
    ∙ words_skipped words (0x0A ∷ rest)
    ∙ end_skipped rest

-- comments, one for each of these
pub comments_skipped : {A : Type 0} (words : A → List ℕ) (list : List A) (rest : List ℕ)
    → skip_blank (flat_map (λ x. comment (words x)) list ++ rest) ≡ skip_blank rest
comments_skipped words [] rest = refl
comments_skipped words (x ∷ xs) rest =
    ap (λ (text : List ℕ). skip_blank text) (append_assoc (comment (words x)) (flat_map (λ y. comment (words y)) xs) rest)
    ∙ comment_skipped (words x) (flat_map (λ y. comment (words y)) xs ++ rest)
    ∙ comments_skipped words xs rest

-- ---- a document is one at more turns

bind_more : {A B : Type 0} (o : Option A) (f g : A → Option B) (b : B) → ((a : A) → f a ≡ Some b → g a ≡ Some b)
    → option_and_then f o ≡ Some b → option_and_then g o ≡ Some b
bind_more None f g b more h = h
bind_more (Some a) f g b more h = more a h

cond_more : {B : Type 0} (test : Bool) (x y z : Option B) (b : B) → (y ≡ Some b → z ≡ Some b)
    → (if test then x else y) ≡ Some b → (if test then x else z) ≡ Some b
cond_more true x y z b more h = h
cond_more false x y z b more h = more h

map_more : {A B : Type 0} (o p : Option A) (f : A → B) (b : B) → ((a : A) → o ≡ Some a → p ≡ Some a) → option_map f o ≡ Some b → option_map f p ≡ Some b
map_more None p f b more h = cc
map_more (Some a) p f b more h = rw (more a refl) h

lines_more : (n m : ℕ) (doc : Document) (text : List ℕ) (d : Document) → n ≤ m → lines n doc text ≡ Some d → lines m doc text ≡ Some d
unfolding lines
lines_more zero m doc text d few h = cc
lines_more (suc n) zero doc text d few h = absurd (omega arith)
lines_more (suc n) (suc m) doc text d few h =
    cond_more (length (skip_blank text) == 0) (Some doc) _ _ d
    (bind_more {A = Expression × List ℕ} (line (skip_blank text)) _ _ d
    (λ e. bind_more {A = Document} (define doc e.0) _ _ d (λ next. lines_more n m next e.1 d (omega arith)))) h

at_blank : (n : ℕ) (doc : Document) (a b : List ℕ) → skip_blank a ≡ skip_blank b → lines (suc n) doc a ≡ lines (suc n) doc b
unfolding lines
at_blank n doc a b same = rw same refl

short_either : (test : Bool) (text : List ℕ) → length text ≤ length (if test then drop 3 text else text) + 3
short_either true text = omega (arith, length-drop 3 text)
short_either false text = omega arith

bom_is_short : (text : List ℕ) → length text ≤ length (skip_bom text) + 3
unfolding skip_bom
bom_is_short text = short_either _ text

no_bom : (b c : ℕ) (text : List ℕ) → skip_bom (0x23 ∷ b ∷ c ∷ text) ≡ 0x23 ∷ b ∷ c ∷ text
unfolding skip_bom
no_bom b c text = refl

-- What is skipped may stand before a document, without its byte order mark.
pub behind_comments : (b c : ℕ) (front text : List ℕ) (document : Members)
    → skip_blank ((0x23 ∷ b ∷ c ∷ front) ++ skip_bom text) ≡ skip_blank (skip_bom text)
    → parse_document text ≡ Some document → parse_document ((0x23 ∷ b ∷ c ∷ front) ++ skip_bom text) ≡ Some document
unfolding parse_document
behind_comments b c front text document skipped parsed =
    let whole : List ℕ = (0x23 ∷ b ∷ c ∷ front) ++ skip_bom text in
    let long : length text ≤ length whole = omega (arith, bom_is_short text, length-append (0x23 ∷ b ∷ c ∷ front) (skip_bom text)) in
    map_more _ _ _ document (λ d h.
    ap (λ (t : List ℕ). lines (suc (length whole)) (no_nodes, []) t) (no_bom b c (front ++ skip_bom text))
    ∙ at_blank (length whole) (no_nodes, []) whole (skip_bom text) skipped
    ∙ lines_more (suc (length text)) (suc (length whole)) (no_nodes, []) (skip_bom text) d (omega arith) h) parsed

both_skipped : (a b rest : List ℕ) → ((r : List ℕ) → skip_blank (a ++ r) ≡ skip_blank r) → ((r : List ℕ) → skip_blank (b ++ r) ≡ skip_blank r)
    → skip_blank ((a ++ b) ++ rest) ≡ skip_blank rest
both_skipped a b rest of_a of_b = ap (λ (text : List ℕ). skip_blank text) (append_assoc a b rest) ∙ of_a (b ++ rest) ∙ of_b rest

heading_skipped : (uid : Uid) (rest : List ℕ) → skip_blank (heading uid ++ rest) ≡ skip_blank rest
heading_skipped uid rest =
    both_skipped (comment (heading_words uid) ++ comment untold_words ++ comment unasked_words) (comment unmuted_words) rest
    (λ r. both_skipped (comment (heading_words uid) ++ comment untold_words) (comment unasked_words) r
    (λ s. both_skipped (comment (heading_words uid)) (comment untold_words) s (comment_skipped (heading_words uid)) (comment_skipped untold_words))
    (comment_skipped unasked_words))
    (comment_skipped unmuted_words)

all_skipped : (uid : Uid) (answers : List Answer) (notes : List Note) (rest : List ℕ) → skip_blank (comments uid answers notes ++ rest) ≡ skip_blank rest
all_skipped uid answers notes rest =
    both_skipped (heading uid) (flat_map (λ note. comment (note_words answers note)) notes) rest (heading_skipped uid) (comments_skipped (λ note. note_words answers note) notes)

-- What describes a fixture does so behind the comments, too.
pub described : (uid : Uid) (answers : List Answer) (notes : List Note) (file text : List ℕ) (f : Fixture)
    → text ≡ comments uid answers notes ++ skip_bom file → Describes file f → IsFileOf uid answers notes f text
described uid answers notes file text f whole d =
    let parsed : parse_document (comments uid answers notes ++ skip_bom file) ≡ Some d.document =
    behind_comments 0x20 0x57 (drop 3 (comments uid answers notes)) file d.document (all_skipped uid answers notes (skip_bom file)) d.parsed in
    record {
      file = skip_bom file;
      whole = whole;
      describes = record {
        document = d.document;
        parsed = ap (λ (t : List ℕ). parse_document t) whole ∙ parsed;
        fixture = d.fixture;
      };
    }
