-- The tags of a page: no words on it are a part of them.
use Rattle.std.specs.Prelude.{ℕ, ◌==◌, Bool, true, false, List, [], ◌∷◌, ◌++◌, codes, if◌then◌else◌}
use Rattle.std.specs.List.{flat_map}
use Rattle.rdm_survey.specs.declared.columns.Column.{Column}
use Rattle.rdm_survey.specs.declared.place.Clash.{Clash}
use Rattle.rdm_survey.specs.declared.row.Row.{Row}
use Rattle.rdm_survey.specs.Places.{clashes}
use Rattle.rdm_survey.specs.Table.{columns}
use Rattle.rdm_survey_page.specs.Clashes.{is_in_clash}
use Rattle.rdm_survey_page.specs.Pages.{row_tag}

-- the tags of a document without what stands between them, from inside a tag or from outside
abbrev pub tags_from : Bool → List ℕ → List ℕ
tags_from inside [] = []
tags_from false (b ∷ text) = if b == 0x3C then b ∷ tags_from true text else tags_from false text
tags_from true (b ∷ text) = if b == 0x3E then b ∷ tags_from false text else b ∷ tags_from true text

-- The tags of a document, one behind the other.
abbrev pub tags : List ℕ → List ℕ
tags text = tags_from false text

-- those of a cell, of a row, of an item and of the clashes
abbrev pub cell_tags : Column → List ℕ
cell_tags column = codes "<td></td>"

-- a row with a cell for each column and one for notes, which is marked if slots of the fixture clash
abbrev pub row_tags : List Clash → Row → List ℕ
row_tags list row =
    row_tag (is_in_clash list row.uid) ++ flat_map cell_tags columns ++ codes "<td></td></tr>"

abbrev pub item_tags : Clash → List ℕ
item_tags clash = codes "<li></li>"

abbrev pub clash_tags : List Clash → List ℕ
clash_tags [] = codes "<p></p>"
clash_tags (clash ∷ more) = codes "<ul>" ++ flat_map item_tags (clash ∷ more) ++ codes "</ul>"

-- what stands before the rows
abbrev pub front_tags : List ℕ
front_tags =
    codes "<!DOCTYPE html><html lang=\"en\"><head><meta charset=\"utf-8\"><meta name=\"viewport\" content=\"width=device-width\">"
    ++ codes "<title></title><style></style></head><body><h1></h1><table><thead><tr>"
    ++ flat_map (λ (column : Column). codes "<th scope=\"col\"></th>") columns ++ codes "<th scope=\"col\"></th></tr></thead><tbody>"

-- The tags of a page: one element in another, each closed.
abbrev pub page_tags : List Row → List ℕ
page_tags rows =
    front_tags ++ flat_map (row_tags (clashes rows)) rows ++ codes "</tbody></table><h2></h2>"
    ++ clash_tags (clashes rows) ++ codes "<p class=\"by\"><span></span><span></span></p></body></html>"
