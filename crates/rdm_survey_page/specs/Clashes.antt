-- What is wrong with the slots of a survey, in words.
use Rattle.std.specs.Prelude.{ℕ, ◌==◌, ◌||◌, nat_lt, min, max, Bool, List, [], ◌∷◌, ◌++◌, codes, decimal, if◌then◌else◌}
use Rattle.std.specs.List.{flat_map, list_any}
use Rattle.rdm_frame.specs.declared.uid.Uid.{Uid}
use Rattle.rdm_frame.specs.Addressing.{same_uid}
use Rattle.rdm_survey.specs.declared.place.Place.{Place}
use Rattle.rdm_survey.specs.declared.place.Clash.{Clash}
use Rattle.rdm_survey.specs.declared.place.Clash.TheVariants.{PastEnd, Overlap}
use Rattle.rdm_survey.specs.Members.{uid_word}
use Rattle.rdm_survey_page.specs.Escaping.{escaped}

-- a clash of slots of this fixture
abbrev pub names : Uid → Clash → Bool
names uid (PastEnd a) = same_uid a.uid uid
names uid (Overlap a b) = same_uid a.uid uid || same_uid b.uid uid

-- slots of this fixture clash
unfoldable pub is_in_clash : List Clash → Uid → Bool
is_in_clash list uid = list_any (names uid) list

-- which sub-device it is; nothing for the root
abbrev pub sub_words : ℕ → List ℕ
sub_words sub = if sub == 0 then [] else codes " sub-device " ++ decimal sub

-- whose slots they are
unfoldable pub place_words : Place → List ℕ
place_words a = uid_word a.uid ++ sub_words a.sub

-- the slots that two places share, from the first to the last, or the one slot
abbrev pub several_words : ℕ → ℕ → List ℕ
several_words first last = codes " share slots " ++ decimal first ++ codes " to " ++ decimal last

abbrev pub one_words : ℕ → List ℕ
one_words slot = codes " share slot " ++ decimal slot

unfoldable pub shared_words : ℕ → ℕ → List ℕ
shared_words first last = if nat_lt first last then several_words first last else one_words first

-- `7FF0:00000001 and 7FF0:00000002 sub-device 1 share slots 101 to 108`, or `7FF0:00000001 goes past slot 512`
abbrev pub clash_words : Clash → List ℕ
clash_words (PastEnd a) = place_words a ++ codes " goes past slot 512"
clash_words (Overlap a b) =
    place_words a ++ codes " and " ++ place_words b ++ shared_words (max a.first b.first) (min a.last b.last)

-- a clash as an item of a list
unfoldable pub clash_item : Clash → List ℕ
clash_item clash = codes "<li>" ++ escaped (clash_words clash) ++ codes "</li>\n"

-- An item for each clash, or `No clashes.`
abbrev pub clash_list : List Clash → List ℕ
clash_list [] = codes "<p>No clashes.</p>\n"
clash_list (clash ∷ more) = codes "<ul>\n" ++ flat_map clash_item (clash ∷ more) ++ codes "</ul>\n"
