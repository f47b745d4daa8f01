-- The names of the standard, each with its number: E1.20, appendices A and C.
use Rattle.std.specs.Prelude.{ℕ, ◌==◌, Bool, true, false, if◌then◌else◌, List, [], ◌∷◌, Option, codes, find, option_map}
use Rattle.rdm_standard_names.specs.Tables.{number_like, number_of}
use Rattle.rdm_standard_names.specs.declared.kind.NameKind.{NameKind}
use Rattle.rdm_standard_names.specs.declared.kind.NameKind.TheVariants.{Sensors, Units, Prefixes, Categories, Slots, Labels}

-- what a sensor measures. Table A-12.
abbrev pub sensor_types : List (ℕ × List ℕ)
sensor_types =
    (0x00, codes "temperature") ∷
    (0x01, codes "voltage") ∷
    (0x02, codes "current") ∷
    (0x03, codes "frequency") ∷
    (0x04, codes "resistance") ∷
    (0x05, codes "power") ∷
    (0x06, codes "mass") ∷
    (0x07, codes "length") ∷
    (0x08, codes "area") ∷
    (0x09, codes "volume") ∷
    (0x0A, codes "density") ∷
    (0x0B, codes "velocity") ∷
    (0x0C, codes "acceleration") ∷
    (0x0D, codes "force") ∷
    (0x0E, codes "energy") ∷
    (0x0F, codes "pressure") ∷
    (0x10, codes "time") ∷
    (0x11, codes "angle") ∷
    (0x12, codes "position X") ∷
    (0x13, codes "position Y") ∷
    (0x14, codes "position Z") ∷
    (0x15, codes "angular velocity") ∷
    (0x16, codes "luminous intensity") ∷
    (0x17, codes "luminous flux") ∷
    (0x18, codes "illuminance") ∷
    (0x19, codes "chrominance red") ∷
    (0x1A, codes "chrominance green") ∷
    (0x1B, codes "chrominance blue") ∷
    (0x1C, codes "contacts") ∷
    (0x1D, codes "memory") ∷
    (0x1E, codes "items") ∷
    (0x1F, codes "humidity") ∷
    (0x20, codes "counter 16 bit") ∷
    (0x7F, codes "other") ∷ []

-- the symbols of units. Table A-13.
abbrev pub units : List (ℕ × List ℕ)
units =
    (0x00, codes "") ∷
    (0x01, 0xC2 ∷ 0xB0 ∷ 0x43 ∷ []) ∷  -- °C
    (0x02, codes "V DC") ∷
    (0x03, codes "V AC peak") ∷
    (0x04, codes "V AC RMS") ∷
    (0x05, codes "A DC") ∷
    (0x06, codes "A AC peak") ∷
    (0x07, codes "A AC RMS") ∷
    (0x08, codes "Hz") ∷
    (0x09, 0xCE ∷ 0xA9 ∷ []) ∷  -- Ω
    (0x0A, codes "W") ∷
    (0x0B, codes "kg") ∷
    (0x0C, codes "m") ∷
    (0x0D, 0x6D ∷ 0xC2 ∷ 0xB2 ∷ []) ∷  -- m²
    (0x0E, 0x6D ∷ 0xC2 ∷ 0xB3 ∷ []) ∷  -- m³
    (0x0F, 0x6B ∷ 0x67 ∷ 0x2F ∷ 0x6D ∷ 0xC2 ∷ 0xB3 ∷ []) ∷  -- kg/m³
    (0x10, codes "m/s") ∷
    (0x11, 0x6D ∷ 0x2F ∷ 0x73 ∷ 0xC2 ∷ 0xB2 ∷ []) ∷  -- m/s²
    (0x12, codes "N") ∷
    (0x13, codes "J") ∷
    (0x14, codes "Pa") ∷
    (0x15, codes "s") ∷
    (0x16, 0xC2 ∷ 0xB0 ∷ []) ∷  -- °
    (0x17, codes "sr") ∷
    (0x18, codes "cd") ∷
    (0x19, codes "lm") ∷
    (0x1A, codes "lx") ∷
    (0x1B, codes "IRE") ∷
    (0x1C, codes "B") ∷ []

-- the symbols of prefixes. Table A-14.
abbrev pub prefixes : List (ℕ × List ℕ)
prefixes =
    (0x00, codes "") ∷
    (0x01, codes "d") ∷
    (0x02, codes "c") ∷
    (0x03, codes "m") ∷
    (0x04, 0xC2 ∷ 0xB5 ∷ []) ∷  -- µ
    (0x05, codes "n") ∷
    (0x06, codes "p") ∷
    (0x07, codes "f") ∷
    (0x08, codes "a") ∷
    (0x09, codes "z") ∷
    (0x0A, codes "y") ∷
    (0x11, codes "da") ∷
    (0x12, codes "h") ∷
    (0x13, codes "k") ∷
    (0x14, codes "M") ∷
    (0x15, codes "G") ∷
    (0x16, codes "T") ∷
    (0x17, codes "P") ∷
    (0x18, codes "E") ∷
    (0x19, codes "Z") ∷
    (0x1A, codes "Y") ∷ []

-- product categories. Table A-5.
abbrev pub categories : List (ℕ × List ℕ)
categories =
    (0x0000, codes "not declared") ∷
    (0x0100, codes "fixture") ∷
    (0x0101, codes "fixture, fixed") ∷
    (0x0102, codes "fixture, moving yoke") ∷
    (0x0103, codes "fixture, moving mirror") ∷
    (0x01FF, codes "fixture, other") ∷
    (0x0200, codes "fixture accessory") ∷
    (0x0201, codes "fixture accessory, color") ∷
    (0x0202, codes "fixture accessory, yoke") ∷
    (0x0203, codes "fixture accessory, mirror") ∷
    (0x0204, codes "fixture accessory, effect") ∷
    (0x0205, codes "fixture accessory, beam") ∷
    (0x02FF, codes "fixture accessory, other") ∷
    (0x0300, codes "projector") ∷
    (0x0301, codes "projector, fixed") ∷
    (0x0302, codes "projector, moving yoke") ∷
    (0x0303, codes "projector, moving mirror") ∷
    (0x03FF, codes "projector, other") ∷
    (0x0400, codes "atmospheric") ∷
    (0x0401, codes "atmospheric, effect") ∷
    (0x0402, codes "atmospheric, pyro") ∷
    (0x04FF, codes "atmospheric, other") ∷
    (0x0500, codes "dimmer") ∷
    (0x0501, codes "dimmer, AC incandescent") ∷
    (0x0502, codes "dimmer, AC fluorescent") ∷
    (0x0503, codes "dimmer, AC cold cathode") ∷
    (0x0504, codes "dimmer, AC non-dim") ∷
    (0x0505, codes "dimmer, AC ELV") ∷
    (0x0506, codes "dimmer, AC other") ∷
    (0x0507, codes "dimmer, DC level") ∷
    (0x0508, codes "dimmer, DC PWM") ∷
    (0x0509, codes "dimmer, CS LED") ∷
    (0x05FF, codes "dimmer, other") ∷
    (0x0600, codes "power") ∷
    (0x0601, codes "power, control") ∷
    (0x0602, codes "power, source") ∷
    (0x06FF, codes "power, other") ∷
    (0x0700, codes "scenic") ∷
    (0x0701, codes "scenic, drive") ∷
    (0x07FF, codes "scenic, other") ∷
    (0x0800, codes "data") ∷
    (0x0801, codes "data, distribution") ∷
    (0x0802, codes "data, conversion") ∷
    (0x08FF, codes "data, other") ∷
    (0x0900, codes "AV") ∷
    (0x0901, codes "AV, audio") ∷
    (0x0902, codes "AV, video") ∷
    (0x09FF, codes "AV, other") ∷
    (0x0A00, codes "monitor") ∷
    (0x0A01, codes "monitor, AC line power") ∷
    (0x0A02, codes "monitor, DC power") ∷
    (0x0A03, codes "monitor, environmental") ∷
    (0x0AFF, codes "monitor, other") ∷
    (0x7000, codes "control") ∷
    (0x7001, codes "control, controller") ∷
    (0x7002, codes "control, backup device") ∷
    (0x70FF, codes "control, other") ∷
    (0x7100, codes "test") ∷
    (0x7101, codes "test, equipment") ∷
    (0x71FF, codes "test, equipment other") ∷
    (0x7FFF, codes "other") ∷ []

-- the types of slots. Table C-1.
abbrev pub slot_types : List (ℕ × List ℕ)
slot_types =
    (0x00, codes "primary") ∷
    (0x01, codes "fine") ∷
    (0x02, codes "timing") ∷
    (0x03, codes "speed") ∷
    (0x04, codes "control") ∷
    (0x05, codes "index") ∷
    (0x06, codes "rotation") ∷
    (0x07, codes "index rotate") ∷
    (0xFF, codes "undefined") ∷ []

-- what primary slots are for. Table C-2.
abbrev pub slot_labels : List (ℕ × List ℕ)
slot_labels =
    (0x0001, codes "intensity") ∷
    (0x0002, codes "intensity master") ∷
    (0x0101, codes "pan") ∷
    (0x0102, codes "tilt") ∷
    (0x0201, codes "color wheel") ∷
    (0x0202, codes "color sub cyan") ∷
    (0x0203, codes "color sub yellow") ∷
    (0x0204, codes "color sub magenta") ∷
    (0x0205, codes "color add red") ∷
    (0x0206, codes "color add green") ∷
    (0x0207, codes "color add blue") ∷
    (0x0208, codes "color correction") ∷
    (0x0209, codes "color scroll") ∷
    (0x0210, codes "color semaphore") ∷
    (0x0211, codes "color add amber") ∷
    (0x0212, codes "color add white") ∷
    (0x0213, codes "color add warm white") ∷
    (0x0214, codes "color add cool white") ∷
    (0x0215, codes "color sub UV") ∷
    (0x0216, codes "color hue") ∷
    (0x0217, codes "color saturation") ∷
    (0x0301, codes "static gobo wheel") ∷
    (0x0302, codes "roto gobo wheel") ∷
    (0x0303, codes "prism wheel") ∷
    (0x0304, codes "effects wheel") ∷
    (0x0401, codes "beam size iris") ∷
    (0x0402, codes "edge") ∷
    (0x0403, codes "frost") ∷
    (0x0404, codes "strobe") ∷
    (0x0405, codes "zoom") ∷
    (0x0406, codes "framing shutter") ∷
    (0x0407, codes "shutter rotate") ∷
    (0x0408, codes "douser") ∷
    (0x0409, codes "barn door") ∷
    (0x0501, codes "lamp control") ∷
    (0x0502, codes "fixture control") ∷
    (0x0503, codes "fixture speed") ∷
    (0x0504, codes "macro") ∷
    (0x0505, codes "power control") ∷
    (0x0506, codes "fan control") ∷
    (0x0507, codes "heater control") ∷
    (0x0508, codes "fountain control") ∷
    (0xFFFF, codes "undefined") ∷ []

-- the names of a kind of thing
unfoldable pub names_of : NameKind → List (ℕ × List ℕ)
names_of Sensors = sensor_types
names_of Units = units
names_of Prefixes = prefixes
names_of Categories = categories
names_of Slots = slot_types
names_of Labels = slot_labels

-- Whether the names are symbols, in which m and M differ.
unfoldable pub are_symbols : NameKind → Bool
are_symbols Units = true
are_symbols Prefixes = true
are_symbols _ = false

-- The number with this name. A symbol is read letter for letter, other names in upper or lower case.
abbrev pub number_named : NameKind → List ℕ → Option ℕ
number_named kind name = if are_symbols kind then number_of (names_of kind) name else number_like (names_of kind) name

-- the name of a number
abbrev pub name_numbered : NameKind → ℕ → Option (List ℕ)
name_numbered kind number = option_map (λ row. row.1) (find (λ row. row.0 == number) (names_of kind))

-- the greatest number of the field that holds one: categories and label IDs take two bytes, all others one
abbrev pub greatest_of : NameKind → ℕ
greatest_of Categories = 0xFFFF
greatest_of Labels = 0xFFFF
greatest_of _ = 0xFF

-- the word by which `felosumay fixture --names` asks for a kind
unfoldable pub word_of : NameKind → List ℕ
word_of Sensors = codes "sensors"
word_of Units = codes "units"
word_of Prefixes = codes "prefixes"
word_of Categories = codes "categories"
word_of Slots = codes "slots"
word_of Labels = codes "labels"
