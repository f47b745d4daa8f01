-- What the words behind `expect` want, in upper case, or which flaw they have.
use Rattle.std.specs.Prelude.{ℕ, ◌*◌, nat_le, List, [], ◌∷◌, length, Option, Some, None, Result, Ok, Err, codes, if◌then◌else◌}
use Rattle.std.specs.Int.{w16}
use Rattle.std.specs.Option.{option_map, option_and_then, option_map_or, option_or}
use Rattle.std.specs.Str.{bytes_eq}
use Rattle.rdm_frame.specs.DigitReading.{bytes_in, number_in}
use Rattle.rdm_table.specs.Table.Names.{pid_named}
use Rattle.rdm_trace.specs.Numbers.{number_up_to}
use Rattle.rdm_expect.specs.Reasons.{reason_in}
use Rattle.rdm_expect.specs.declared.wish.Wish.{Wish}
use Rattle.rdm_expect.specs.declared.wish.Wish.TheVariants.{Ack, AckTimer, AckOverflow, Nack, Data, Length, MessageCount, Parameter, Found, Nothing, Reply, Within}
use Rattle.rdm_expect.specs.declared.wish.Flaw.{Flaw}
use Rattle.rdm_expect.specs.declared.wish.Flaw.TheVariants as flaw

-- this, if no word is left
abbrev pub alone : Wish → List (List ℕ) → Result Wish Flaw
alone wish [] = Ok wish
alone wish (word ∷ more) = Err flaw.End

-- what the only word that is left says, or else this flaw
abbrev pub said_alone : (List ℕ → Option Wish) → Flaw → List (List ℕ) → Result Wish Flaw
said_alone says other [] = Err other
said_alone says other (word ∷ []) = option_map_or (λ wish. Ok wish) (says word) (Err other)
said_alone says other (word ∷ next ∷ more) = Err flaw.End

-- a NACK, for any reason or for this one
abbrev pub nack_in : List (List ℕ) → Result Wish Flaw
nack_in [] = Ok (Nack None)
nack_in (word ∷ more) = said_alone (λ word. option_map (λ code. Nack (Some code)) (reason_in word)) flaw.Reason (word ∷ more)

-- a hyphen for no data, or the digits of at most 231 bytes, as many as a frame can have
unfoldable pub data_in : List ℕ → Option Wish
data_in word =
    if bytes_eq word (codes "-") then Some (Data [])
    else if nat_le (length word) 462 then option_map (λ body. Data body) (bytes_in word) else None

-- a number that fits the slot of a message count
abbrev pub count_in : List ℕ → Option Wish
count_in word = option_map (λ n. MessageCount n) (number_up_to 255 word)

-- the name that a standard gives a parameter, or the four digits of its PID
unfoldable pub parameter_in : List ℕ → Option Wish
parameter_in word = option_map (λ pid. Parameter pid) (option_or (pid_named word) (number_in w16 word))

-- at least so many bytes and at most so many, if that can be
abbrev pub between : ℕ → ℕ → Option Wish
between least most = if nat_le least most then Some (Length least most) else None

-- how many bytes the data have, at least and at most: a frame has at most 231
unfoldable pub length_of : List ℕ → List ℕ → Option Wish
length_of least most = option_and_then (λ n. option_and_then (between n) (number_up_to 231 most)) (number_up_to 231 least)

-- one number, or two with TO between them
abbrev pub length_in : List (List ℕ) → Result Wish Flaw
length_in [] = Err flaw.Length
length_in (number ∷ []) = option_map_or (λ wish. Ok wish) (length_of number number) (Err flaw.Length)
length_in (least ∷ to ∷ []) = Err flaw.Length
length_in (least ∷ to ∷ most ∷ []) =
    if bytes_eq to (codes "TO") then option_map_or (λ wish. Ok wish) (length_of least most) (Err flaw.Length) else Err flaw.Length
length_in (least ∷ to ∷ most ∷ next ∷ more) = Err flaw.End

-- how many milliseconds a unit of time has
abbrev pub unit_in : List ℕ → Option ℕ
unit_in word = if bytes_eq word (codes "S") then Some 1000 else if bytes_eq word (codes "MS") then Some 1 else None

-- a number and its unit
unfoldable pub time_of : List ℕ → List ℕ → Option Wish
time_of number unit = option_and_then (λ n. option_map (λ each. Within (n * each)) (unit_in unit)) (number_up_to 4294967295 number)

abbrev pub time_in : List (List ℕ) → Result Wish Flaw
time_in [] = Err flaw.Time
time_in (number ∷ []) = Err flaw.Time
time_in (number ∷ unit ∷ []) = option_map_or (λ wish. Ok wish) (time_of number unit) (Err flaw.Time)
time_in (number ∷ unit ∷ next ∷ more) = Err flaw.End

-- what these words want of what a reply has, where the first is this name
unfoldable pub part_named : List ℕ → List (List ℕ) → Result Wish Flaw
part_named name more =
    if bytes_eq name (codes "DATA") then said_alone data_in flaw.Data more
    else if bytes_eq name (codes "LENGTH") then length_in more
    else if bytes_eq name (codes "MESSAGE_COUNT") then said_alone count_in flaw.Count more
    else if bytes_eq name (codes "PARAMETER") then said_alone parameter_in flaw.Parameter more
    else if bytes_eq name (codes "WITHIN") then time_in more
    else Err flaw.Word

-- what these words want, of which the first is this name
unfoldable pub wish_named : List ℕ → List (List ℕ) → Result Wish Flaw
wish_named name more =
    if bytes_eq name (codes "ACK") then alone Ack more
    else if bytes_eq name (codes "ACK_TIMER") then alone AckTimer more
    else if bytes_eq name (codes "ACK_OVERFLOW") then alone AckOverflow more
    else if bytes_eq name (codes "NOTHING") then alone Nothing more
    else if bytes_eq name (codes "REPLY") then alone Reply more
    else if bytes_eq name (codes "FOUND") then alone Found more
    else if bytes_eq name (codes "NACK") then nack_in more
    else part_named name more

abbrev pub wish_in : List (List ℕ) → Result Wish Flaw
wish_in [] = Err flaw.Word
wish_in (name ∷ more) = wish_named name more
