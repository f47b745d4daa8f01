-- A survey as a page of HTML: a table with a row for each fixture, and below it what is wrong with the slots.
use Rattle.std.specs.Prelude.{ℕ, Bool, List, ◌++◌, length, codes, if◌then◌else◌}
use Rattle.std.specs.List.{flat_map}
use Rattle.rdm_survey.specs.declared.columns.Column.{Column}
use Rattle.rdm_survey.specs.declared.place.Clash.{Clash}
use Rattle.rdm_survey.specs.declared.row.Row.{Row}
use Rattle.rdm_survey.specs.Places.{clashes}
use Rattle.rdm_survey.specs.Table.{columns, counted, words_in}
use Rattle.rdm_survey_page.specs.Clashes.{clash_list, is_in_clash}
use Rattle.rdm_survey_page.specs.Escaping.{escaped}

-- The cell of a column, with what stands there in the table on a terminal.
unfoldable pub cell : Row → Column → List ℕ
cell row column = codes "<td>" ++ escaped (words_in column row) ++ codes "</td>"

-- the tag that begins a row, marked or not
unfoldable pub row_tag : Bool → List ℕ
row_tag marked = if marked then codes "<tr class=\"clash\">" else codes "<tr>"

-- The row of a fixture, whose last cell is for notes. It is marked if slots of the fixture clash.
unfoldable pub row_text : List Clash → Row → List ℕ
row_text list row =
    row_tag (is_in_clash list row.uid) ++ flat_map (cell row) columns ++ codes "<td></td></tr>\n"

-- ---- what stands on every page

-- what stands before the title
unfoldable pub front : List ℕ
front =
    codes "<!DOCTYPE html>\n"
    ++ codes "<html lang=\"en\">\n"
    ++ codes "<head>\n"
    ++ codes "<meta charset=\"utf-8\">\n"
    ++ codes "<meta name=\"viewport\" content=\"width=device-width\">\n"
    ++ codes "<title>"

-- what stands between the title and the heading: how the page looks, on a screen, dark or light, and on paper
unfoldable pub style : List ℕ
style =
    codes "</title>\n"
    ++ codes "<style>\n"
    ++ codes ":root { color-scheme: light dark; }\n"
    ++ codes "body { margin: 1.5em; font: 14px/1.4 system-ui, sans-serif; color: #111; background: #fff; }\n"
    ++ codes "h1 { margin: 0 0 .6em; font-size: 1.5em; }\n"
    ++ codes "h2 { margin: 1.2em 0 .4em; font-size: 1.15em; }\n"
    ++ codes "table { width: 100%; border-collapse: collapse; }\n"
    ++ codes "th, td { padding: .3em .5em; border: 1px solid #999; text-align: left; vertical-align: top; white-space: nowrap; }\n"
    ++ codes "th { background: #ddd; }\n"
    ++ codes "td:nth-child(2), td:nth-child(3), td:nth-child(4), td:nth-child(7), td:nth-child(8), td:nth-child(12) {\n"
    ++ codes "white-space: normal; overflow-wrap: anywhere; }\n"
    ++ codes "td:nth-child(1), td:nth-child(5) { font-family: monospace; }\n"
    ++ codes "td:nth-child(5) { font-weight: bold; }\n"
    ++ codes "td:nth-child(6), td:nth-child(9), td:nth-child(10), td:nth-child(11) { text-align: right; }\n"
    ++ codes "td:nth-child(13) { min-width: 8em; }\n"
    ++ codes "tr.clash td { background: #fdd; }\n"
    ++ codes "tr.clash td:nth-child(5)::after { content: \" !\"; color: #c00; }\n"
    ++ codes ".by { margin-top: 2em; }\n"
    ++ codes ".by span { display: inline-block; width: 14em; margin-right: 2em; border-bottom: 1px solid; }\n"
    ++ codes "@media screen and (prefers-color-scheme: dark) {\n"
    ++ codes "body { color: #eee; background: #161616; }\n"
    ++ codes "th, td { border-color: #555; }\n"
    ++ codes "th { background: #333; }\n"
    ++ codes "tr.clash td { background: #522; }\n"
    ++ codes "tr.clash td:nth-child(5)::after { color: #f88; }\n"
    ++ codes "}\n"
    ++ codes "@page { size: A4 landscape; margin: 10mm; }\n"
    ++ codes "@media print {\n"
    ++ codes ":root { color-scheme: light; }\n"
    ++ codes "body { margin: 0; font-size: 8.5pt; }\n"
    ++ codes "thead { display: table-header-group; }\n"
    ++ codes "tr, li, .by { break-inside: avoid; }\n"
    ++ codes "h2 { break-after: avoid; }\n"
    ++ codes "th, tr.clash td { print-color-adjust: exact; }\n"
    ++ codes "}\n"
    ++ codes "</style>\n"
    ++ codes "</head>\n"
    ++ codes "<body>\n"
    ++ codes "<h1>"

-- what stands between the heading and the rows: the names of the columns
unfoldable pub table_front : List ℕ
table_front =
    codes "</h1>\n"
    ++ codes "<table>\n"
    ++ codes "<thead>\n"
    ++ codes "<tr>\n"
    ++ codes "<th scope=\"col\">UID</th>\n"
    ++ codes "<th scope=\"col\">Manufacturer</th>\n"
    ++ codes "<th scope=\"col\">Model</th>\n"
    ++ codes "<th scope=\"col\">Label</th>\n"
    ++ codes "<th scope=\"col\">Address</th>\n"
    ++ codes "<th scope=\"col\">Slots</th>\n"
    ++ codes "<th scope=\"col\">Personality</th>\n"
    ++ codes "<th scope=\"col\">Software</th>\n"
    ++ codes "<th scope=\"col\">Subs</th>\n"
    ++ codes "<th scope=\"col\">Sensors</th>\n"
    ++ codes "<th scope=\"col\">Hours</th>\n"
    ++ codes "<th scope=\"col\">Status</th>\n"
    ++ codes "<th scope=\"col\">Notes</th>\n"
    ++ codes "</tr>\n"
    ++ codes "</thead>\n"
    ++ codes "<tbody>\n"

-- what stands between the rows and the clashes
unfoldable pub table_end : List ℕ
table_end =
    codes "</tbody>\n"
    ++ codes "</table>\n"
    ++ codes "<h2>Clashes</h2>\n"

-- what stands behind the clashes
unfoldable pub end : List ℕ
end =
    codes "<p class=\"by\">Checked by <span></span> Date <span></span></p>\n"
    ++ codes "</body>\n"
    ++ codes "</html>\n"

-- `Main stage: 12 fixtures`
abbrev pub heading : List ℕ → ℕ → List ℕ
heading title count = title ++ codes ": " ++ counted count (codes " fixture")

-- The page, under this title.
abbrev pub page_text : List ℕ → List Row → List ℕ
page_text title rows =
    front ++ escaped (heading title (length rows)) ++ style ++ escaped (heading title (length rows))
    ++ table_front ++ flat_map (row_text (clashes rows)) rows ++ table_end ++ clash_list (clashes rows) ++ end
