-- Choices, and what their things are called: E1.37-1, CURVE, OUTPUT_RESPONSE_TIME, MODULATION_FREQUENCY and their descriptions.
use Rattle.std.specs.Prelude.{ℕ, zero, suc, ◌+◌, ◌%◌, Bool, true, false, ◌==◌, ◌&&◌, ◌||◌, not, nat_le, nat_lt, List, slice_index}
use Rattle.std.specs.List.{list_all, list_any}
use Rattle.std.specs.Int.{w64, cast_unsigned}
use Rattle.rdm_profile.specs.declared.profile.choices.ChoiceName.{ChoiceName}
use Rattle.rdm_profile.specs.declared.profile.own.ParameterDef.{ParameterDef}
use Rattle.rdm_profile.specs.declared.profile.own.Shape.{Shape}
use Rattle.rdm_profile.specs.declared.profile.own.Shape.TheVariants as shapes

-- the greatest number that can be chosen
abbrev pub greatest : ParameterDef → ℕ
greatest d = cast_unsigned w64 d.high % 256

-- whether a name is that of the thing with this number, and this parameter tells it
abbrev pub is_name_of : ℕ → ℕ → ChoiceName → Bool
is_name_of pid number c = (c.pid == pid) && (c.number == number)

abbrev pub has_name : List ChoiceName → ℕ → ℕ → Bool
has_name cs pid number = list_any (is_name_of pid number) cs

-- whether each number from 1 on has a name, so many
abbrev pub have_names : List ChoiceName → ℕ → ℕ → Bool
have_names cs pid zero = true
have_names cs pid (suc n) = has_name cs pid (suc n) && have_names cs pid n

-- whether another parameter tells what the things are called of which one is chosen: those of a choice, and lock states
abbrev pub has_names_behind : Shape → Bool
has_names_behind shapes.Choice = true
has_names_behind shapes.Lock = true
has_names_behind _ = false

-- whether the second parameter tells what the things of the first are called: its PID is the next one
abbrev pub tells_of : ParameterDef → ParameterDef → Bool
tells_of choice names = has_names_behind choice.shape && (names.pid == choice.pid + 1)

-- whether DIMMER_INFO starts with as many curves as a parameter lets choose from, if that is CURVE
abbrev pub has_curves : ParameterDef → ParameterDef → Bool
has_curves info curve = not (curve.pid == 0x0343) || (greatest curve == slice_index info.start 8)

-- whether there is a parameter that tells what the things of a choice are called, each of them; and a choice for one that tells so
abbrev pub is_paired : Shape → List ParameterDef → List ChoiceName → ParameterDef → Bool
is_paired shapes.Choice ds cs d = list_any (tells_of d) ds && have_names cs (d.pid + 1) (greatest d)
is_paired shapes.Lock ds cs d = list_any (tells_of d) ds && have_names cs (d.pid + 1) (greatest d)
is_paired shapes.Names ds cs d = list_any (λ choice. tells_of choice d) ds
is_paired shapes.Rates ds cs d = list_any (λ choice. tells_of choice d) ds
is_paired _ ds cs d = true

-- whether a parameter agrees with those beside it
abbrev pub agrees : List ParameterDef → List ChoiceName → ParameterDef → Bool
agrees ds cs d = is_paired d.shape ds cs d && (not (d.pid == 0x0340) || list_all (has_curves d) ds)

-- whether a name is that of a thing which can be chosen
abbrev pub is_of_choice : ChoiceName → ParameterDef → Bool
is_of_choice c choice = has_names_behind choice.shape && (c.pid == choice.pid + 1) && nat_le 1 c.number && nat_le c.number (greatest choice)

abbrev pub is_needed : List ParameterDef → ChoiceName → Bool
is_needed ds c = list_any (is_of_choice c) ds

-- whether a name comes before another, by its PID and its number
abbrev pub comes_before : ChoiceName → ChoiceName → Bool
comes_before c e = nat_lt c.pid e.pid || ((c.pid == e.pid) && nat_lt c.number e.number)
