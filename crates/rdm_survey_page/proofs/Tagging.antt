-- The tags of a page, piece by piece.
use Rattle.std.proofs.Common.{◌≡◌, ℕ, ◌==◌, Bool, true, false, codes, List, [], ◌∷◌, ◌++◌, length, refl, sym, ap, append_assoc, ◌∙◌, arith}
use Rattle.std.proofs.lemmas.List.{append-nil}
use Rattle.std.specs.List.{AllByRecursion, flat_map}
use Rattle.std.proofs.lemmas.Bool.Decides.{nat_tests}
use Rattle.rdm_survey.specs.declared.columns.Column.{Column}
use Rattle.rdm_survey.specs.declared.place.Clash.{Clash}
use Rattle.rdm_survey.specs.declared.row.Row.{Row}
use Rattle.rdm_survey.specs.Places.{clashes}
use Rattle.rdm_survey.specs.Table.{columns, words_in}
use Rattle.rdm_survey_page.specs.Clashes.{clash_item, clash_list, clash_words, is_in_clash}
use Rattle.rdm_survey_page.specs.Escaping.{escaped, IsPlain}
use Rattle.rdm_survey_page.specs.Outlines.{cell_tags, clash_tags, front_tags, item_tags, page_tags, row_tags, tags, tags_from}
use Rattle.rdm_survey_page.specs.Pages.{cell, end, front, heading, page_text, row_tag, row_text, style, table_end, table_front}
use Rattle.rdm_survey_page.proofs.Reading.{escaped_plain}

-- The tags of a piece, which begins and ends outside of a tag.
abbrev HasTags : List ℕ → List ℕ → Type 0
HasTags piece own = (rest : List ℕ) → tags_from false (piece ++ rest) ≡ own ++ tags_from false rest

joined : (a b x y : List ℕ) → HasTags a x → HasTags b y → HasTags (a ++ b) (x ++ y)
joined a b x y h g rest =
    ap (λ (t : List ℕ). tags_from false t) (append_assoc a b rest)
    ∙ h (b ++ rest)
    ∙ ap (λ (t : List ℕ). x ++ t) (g rest)
    ∙ sym (append_assoc x y (tags_from false rest))

each : {X : Type 0} (f g : X → List ℕ) (xs : List X) → ((x : X) → HasTags (f x) (g x)) → HasTags (flat_map f xs) (flat_map g xs)
each f g [] h = λ rest. refl
each f g (x ∷ xs) h = joined (f x) (flat_map f xs) (g x) (flat_map g xs) (h x) (each f g xs h)

no_tag : (b : ℕ) → IsPlain b → (b == 0x3C) ≡ false
no_tag b h = grind (arith, nat_tests, h.0)

words_skipped : (words : List ℕ) → AllByRecursion IsPlain words → HasTags words []
words_skipped [] h = λ rest. refl
words_skipped (b ∷ words) h = λ rest. rw (no_tag b h.0) (words_skipped words h.1 rest)

escaped_skipped : (words : List ℕ) → HasTags (escaped words) []
escaped_skipped words = words_skipped (escaped words) (escaped_plain words)

cell_has : (row : Row) (column : Column) → HasTags (cell row column) (cell_tags column)
unfolding cell
cell_has row column =
    joined (codes "<td>") (escaped (words_in column row) ++ codes "</td>") (codes "<td>") (codes "</td>") (λ rest. refl)
    (joined (escaped (words_in column row)) (codes "</td>") [] (codes "</td>") (escaped_skipped (words_in column row)) (λ rest. refl))

begin_has : (marked : Bool) → HasTags (row_tag marked) (row_tag marked)
unfolding row_tag
begin_has true = λ rest. refl
begin_has false = λ rest. refl

row_has : (list : List Clash) (row : Row) → HasTags (row_text list row) (row_tags list row)
unfolding row_text
row_has list row =
    let tag = row_tag (is_in_clash list row.uid) in
    let cells = flat_map (cell row) columns in
    let own = flat_map cell_tags columns in
    joined (tag ++ cells) (codes "<td></td></tr>\n") (tag ++ own) (codes "<td></td></tr>")
    (joined tag cells tag own (begin_has (is_in_clash list row.uid)) (each (cell row) cell_tags columns (cell_has row))) (λ rest. refl)

item_has : (clash : Clash) → HasTags (clash_item clash) (item_tags clash)
unfolding clash_item
item_has clash =
    joined (codes "<li>") (escaped (clash_words clash) ++ codes "</li>\n") (codes "<li>") (codes "</li>") (λ rest. refl)
    (joined (escaped (clash_words clash)) (codes "</li>\n") [] (codes "</li>") (escaped_skipped (clash_words clash)) (λ rest. refl))

list_has : (list : List Clash) → HasTags (clash_list list) (clash_tags list)
list_has [] = λ rest. refl
list_has (clash ∷ more) =
    let items = flat_map clash_item (clash ∷ more) in
    let own = flat_map item_tags (clash ∷ more) in
    joined (codes "<ul>\n") (items ++ codes "</ul>\n") (codes "<ul>") (own ++ codes "</ul>") (λ rest. refl)
    (joined items (codes "</ul>\n") own (codes "</ul>") (each clash_item item_tags (clash ∷ more) item_has) (λ rest. refl))

-- the parts of `front_tags`
abbrev to_title : List ℕ
to_title = codes "<!DOCTYPE html><html lang=\"en\"><head><meta charset=\"utf-8\"><meta name=\"viewport\" content=\"width=device-width\"><title>"

abbrev to_heading : List ℕ
to_heading = codes "</title><style></style></head><body><h1>"

abbrev to_rows : List ℕ
to_rows = codes "</h1><table><thead><tr>" ++ flat_map (λ (column : Column). codes "<th scope=\"col\"></th>") columns ++ codes "<th scope=\"col\"></th></tr></thead><tbody>"

front_has : HasTags front to_title
unfolding front
front_has rest = refl

style_has : HasTags style to_heading
unfolding style
style_has rest = refl

table_front_has : HasTags table_front to_rows
unfolding table_front
table_front_has rest = refl

abbrev to_clashes : List ℕ
to_clashes = codes "</tbody></table><h2></h2>"

table_end_has : HasTags table_end to_clashes
unfolding table_end
table_end_has rest = refl

abbrev to_end : List ℕ
to_end = codes "<p class=\"by\"><span></span><span></span></p></body></html>"

end_has : HasTags end to_end
unfolding end
end_has rest = refl

-- ---- the page, from its front on

-- words behind a piece
words_behind : (piece own words : List ℕ) → HasTags piece own → HasTags (piece ++ escaped words) (own ++ [])
words_behind piece own words h = joined piece (escaped words) own [] h (escaped_skipped words)

abbrev head : List ℕ → List ℕ
head words = front ++ escaped words ++ style ++ escaped words

abbrev head_own : List ℕ
head_own = to_title ++ [] ++ to_heading ++ []

head_has : (words : List ℕ) → HasTags (head words) head_own
head_has words =
    words_behind (front ++ escaped words ++ style) (to_title ++ [] ++ to_heading) words
    (joined (front ++ escaped words) style (to_title ++ []) to_heading (words_behind front to_title words front_has) style_has)

abbrev above : List ℕ → List ℕ
above words = head words ++ table_front

above_has : (words : List ℕ) → HasTags (above words) (head_own ++ to_rows)
above_has words = joined (head words) table_front head_own to_rows (head_has words) table_front_has

abbrev with_rows : List ℕ → List Clash → List Row → List ℕ
with_rows words list rows = above words ++ flat_map (row_text list) rows ++ table_end

abbrev rows_own : List Clash → List Row → List ℕ
rows_own list rows = head_own ++ to_rows ++ flat_map (row_tags list) rows ++ to_clashes

rows_has : (words : List ℕ) (list : List Clash) (rows : List Row) → HasTags (with_rows words list rows) (rows_own list rows)
rows_has words list rows =
    let texts = flat_map (row_text list) rows in
    let own = flat_map (row_tags list) rows in
    joined (above words ++ texts) table_end (head_own ++ to_rows ++ own) to_clashes
    (joined (above words) texts (head_own ++ to_rows) own (above_has words) (each (row_text list) (row_tags list) rows (row_has list))) table_end_has

whole_has : (words : List ℕ) (list : List Clash) (rows : List Row)
    → HasTags (with_rows words list rows ++ clash_list list ++ end) (rows_own list rows ++ clash_tags list ++ to_end)
whole_has words list rows =
    joined (with_rows words list rows ++ clash_list list) end (rows_own list rows ++ clash_tags list) to_end
    (joined (with_rows words list rows) (clash_list list) (rows_own list rows) (clash_tags list) (rows_has words list rows) (list_has list)) end_has

front_joined : (x : List ℕ) → head_own ++ to_rows ++ x ≡ front_tags ++ x
front_joined x = refl

pub page_tagged : (title : List ℕ) → (rows : List Row) → tags (page_text title rows) ≡ page_tags rows
page_tagged title rows =
    let list = clashes rows in
    ap (λ (t : List ℕ). tags_from false t) (sym (append-nil (page_text title rows)))
    ∙ whole_has (heading title (length rows)) list rows []
    ∙ append-nil (rows_own list rows ++ clash_tags list ++ to_end)
    ∙ ap (λ (t : List ℕ). t ++ to_clashes ++ clash_tags list ++ to_end) (front_joined (flat_map (row_tags list) rows))
