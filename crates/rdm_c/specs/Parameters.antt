-- The parameter of the maker's own that a plain struct of C's stands for. E1.20 section 10.4.2, tables A-15 and A-16.
use Rattle.std.specs.Prelude.{◌≡◌, ℕ, Bool, ◌==◌, ◌&&◌, ◌||◌, nat_le, not, List, map, take, if◌then◌else◌}
use Rattle.std.specs.List.{list_all}
use Rattle.rdm_profile.specs.declared.profile.Profile.{Profile}
use Rattle.rdm_profile.specs.declared.profile.choices.ChoiceName.{ChoiceName}
use Rattle.rdm_profile.specs.declared.profile.fields.Field.{Field}
use Rattle.rdm_profile.specs.declared.profile.fields.Width.{Width}
use Rattle.rdm_profile.specs.declared.profile.fields.Width.TheVariants as widths
use Rattle.rdm_profile.specs.declared.profile.locks.Lock.{Lock}
use Rattle.rdm_profile.specs.declared.profile.own.ParameterDef.{ParameterDef}
use Rattle.rdm_profile.specs.declared.profile.own.Rights.{Rights}
use Rattle.rdm_profile.specs.declared.profile.own.Rights.TheVariants as rights
use Rattle.rdm_profile.specs.declared.profile.own.Shape.{Shape}
use Rattle.rdm_profile.specs.declared.profile.own.Shape.TheVariants as shapes
use Rattle.rdm_c.specs.declared.profile.parameters.ChoiceNumbers.{ChoiceNumbers}
use Rattle.rdm_c.specs.declared.profile.parameters.FieldNumbers.{FieldNumbers}
use Rattle.rdm_c.specs.declared.profile.parameters.LockNumbers.{LockNumbers}
use Rattle.rdm_c.specs.declared.profile.parameters.ParameterNumbers.{ParameterNumbers}
use Rattle.rdm_c.specs.Texts.{text_in}

-- the commands of a number: those of table A-16, and F0 for a GET and a SET that sets back
abbrev pub rights_in : ℕ → Rights
rights_in commands =
    if commands == 0x01 then rights.Get
    else if commands == 0x02 then rights.Set
    else if commands == 0xF0 then rights.Clear else rights.Both

-- whether commands have this number
abbrev pub has_commands : ℕ → Bool
has_commands commands = (nat_le 1 commands && nat_le commands 3) || (commands == 0xF0)

-- data of more slots than there can be, with which no profile is good
abbrev pub too_long : Shape
too_long = shapes.Slots 255

-- the data of a type of table A-15, with so many slots where it doesn't say how many; the numbers from F0 on are none of the table's
abbrev pub shape_of : ℕ → ℕ → Shape
shape_of kind size =
    if kind == 0x00 then shapes.Slots size
    else if kind == 0x01 then shapes.Bits size
    else if kind == 0x02 then shapes.Text
    else if kind == 0x03 then shapes.Byte
    else if kind == 0x04 then shapes.SignedByte
    else if kind == 0x05 then shapes.Word
    else if kind == 0x06 then shapes.SignedWord
    else if kind == 0x07 then shapes.Long
    else if kind == 0x08 then shapes.SignedLong
    else if kind == 0xF0 then shapes.Choice
    else if kind == 0xF1 then shapes.Names
    else if kind == 0xF2 then shapes.Rates
    else if kind == 0xF3 then shapes.Scenes
    else if kind == 0xF4 then shapes.Lock
    else if kind == 0xF5 then shapes.Pin
    else if kind == 0xF6 then shapes.Block else too_long

-- those data, where commands have the number that is passed
abbrev pub shape_in : ℕ → ℕ → ℕ → Shape
shape_in commands kind size = if has_commands commands then shape_of kind size else too_long

-- the width of a number of so many slots; of another number of slots there is none, and one slot stands for it
abbrev pub width_in : ℕ → Width
width_in slots = if slots == 2 then widths.Two else if slots == 4 then widths.Four else widths.One

abbrev pub has_width : FieldNumbers → Bool
has_width f = (f.slots == 1) || (f.slots == 2) || (f.slots == 4)

abbrev pub field_in : FieldNumbers → Field
field_in f = record { width = width_in f.slots; low = f.low; high = f.high; also = f.also }

-- whether there are no more fields than there can be, and each has 1, 2 or 4 slots
abbrev pub has_widths : ParameterNumbers → Bool
has_widths p = nat_le p.field_count 8 && list_all has_width (take p.field_count p.fields)

-- The parameter. If its type or its commands have no number of those above, or its fields aren't ones, its data are too long, and so the
-- profile is refused.
abbrev pub parameter_in : ParameterNumbers → ParameterDef
parameter_in p = record {
  pid = p.pid;
  rights = rights_in p.commands;
  shape = if has_widths p then shape_in p.commands p.kind p.size else too_long;
  low = p.low;
  high = p.high;
  fields = record { items = map field_in (take p.field_count p.fields) };
  start = text_in p.start;
  unit = p.unit;
  prefix = p.prefix;
  name = text_in p.name;
  resets = not (p.resets == 0);
}

-- the name of a thing that can be chosen
abbrev pub choice_in : ChoiceNumbers → ChoiceName
choice_in c = record { pid = c.pid; number = c.number; hertz = c.hertz; name = text_in c.name }

-- a parameter that a lock state keeps from being set
abbrev pub lock_in : LockNumbers → Lock
lock_in l = record { state = l.state; pid = l.pid }

-- The profile has these parameters of the maker's own, these names of choices and these locks, and leaves these parameters out.
abbrev pub HasOwn : Profile → List ParameterDef → List ChoiceName → List Lock → List ℕ → Type 0
HasOwn p ds cs ls without =
    (p.particulars.own ≡ ds) × (p.particulars.choices ≡ cs) × (p.particulars.locks ≡ ls) × (p.particulars.without.items ≡ without)
