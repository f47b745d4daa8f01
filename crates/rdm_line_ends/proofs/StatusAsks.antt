-- Who asks for status entries asks the root, and with one byte.
use Rattle.std.proofs.Common.{◌≡◌, ◌≢◌, ℕ, ◌==◌, Bool, true, false, cond, List, [], ◌∷◌, length, Option, None, Result, Ok, Err, refl, sym, subst, ap, ◌∙◌, arith}
use Rattle.std.proofs.lemmas.Bool.{eqb-true, ne_eqb}
use Rattle.rdm_frame.specs.declared.nack.Nack.{Nack}
use Rattle.rdm_frame.specs.declared.nack.Nack.TheVariants.{FormatError, SubDeviceOutOfRange}
use Rattle.rdm_table.specs.declared.kind.Verb.TheVariants.{Get}
use Rattle.rdm_commands.specs.declared.jobs.ask.Ask.{Ask}
use Rattle.rdm_commands.specs.declared.verdict.Verdict.{Verdict}
use Rattle.rdm_commands.specs.declared.verdict.Verdict.TheVariants.{Status}
use Rattle.rdm_profile.specs.declared.profile.Profile.{Profile}
use Rattle.rdm_profile.specs.declared.value.Value.{Value}
use Rattle.rdm_profile.specs.declared.value.Value.TheVariants.{Byte}
use Rattle.rdm_profile.specs.Forms.{byte}
use Rattle.rdm_added.specs.Parameters.{Parameters}
use Rattle.rdm_profile.specs.Values.{byte_or_0}
use Rattle.rdm_params.specs.Commands.Commands.{command_at, accepted, addressed, verdict, known, suits, check, is_some_device, got, got_by_row, ◌>>=◌}
use Rattle.rdm_params.specs.Jobs.Asks.{ask_of}
use Rattle.rdm_params.specs.Table.Rows.{Row, table, row_of, row_at, is_left_out, command_in}
use Rattle.rdm_params.specs.Table.Uses.{access, read, read_as}
use Rattle.rdm_params.proofs.Fetches.{get_statuses}

-- of what is asked for
pub record IsAsked (sub : ℕ) (bytes : List ℕ) (ask : Ask) : Type 0 where
  pub byte : ℕ
  pub root : sub ≡ 0
  pub body : bytes ≡ byte ∷ []
  pub ask_is : ask ≡ ask_of byte

abbrev status : Ask → Verdict
status ask = Status ask

status_is : (a b : Ask) → status a ≡ status b → a ≡ b
status_is a b e = cc

-- ---- what acceptance says

abbrev ok : {A : Type 0} → A → Result A Nack
ok x = Ok x

ok_is : (v w : Value) → ok v ≡ ok w → v ≡ w
ok_is v w e = cc

-- of steps that succeed the first does
then_ok : {A B : Type 0} (r : Result A Nack) (f : A → Result B Nack) (v : B) → (r >>= f) ≡ Ok v → (x : A) × ((r ≡ Ok x) × (f x ≡ Ok v))
then_ok (Ok x) f v e = (x, (refl, e))
then_ok (Err nack) f v e = absurd cc

-- the device has the parameter, and the data say the value
record Accepts (p : Parameters) (sub pid : ℕ) (bytes : List ℕ) (v : Value) : Type 0 where
  unit : Unit {0}
  may : access (row_at p.profile pid) (sub == 0) Get ≡ Ok unit
  is_read : read (command_at p pid Get) bytes ≡ Ok v

accepts : (p : Parameters) (sub pid : ℕ) (bytes : List ℕ) (v : Value) → accepted p sub pid Get bytes ≡ Ok v → Accepts p sub pid bytes v
unfolding accepted
accepts p sub pid bytes v e =
    let first = then_ok (known p sub (row_at p.profile pid) Get) _ v e in
    let device = then_ok (check (is_some_device (addressed p sub Get)) SubDeviceOutOfRange) _ first.0 first.1.0 in
    let second = then_ok (read (command_at p pid Get) bytes) _ v first.1.1 in
    let third = then_ok (suits p sub (command_at p pid Get) Get second.0) _ v second.1.1 in
    record { unit = first.0; may = device.1.1; is_read = second.1.0 ∙ ap ok (ok_is second.0 v third.1.1) }

too_long : (fits : Bool) (x v : Value) → fits ≡ false → cond fits (ok x) (Err FormatError) ≢ ok v
too_long true x v long e = absurd cc
too_long false x v long e = absurd cc

byte_read : (bytes : List ℕ) (v : Value) → read_as byte bytes ≡ Ok v → bytes ≡ byte_or_0 v ∷ []
byte_read [] v e = absurd cc
byte_read (b ∷ []) v e = ap (λ (x : Value). byte_or_0 x ∷ []) (ok_is (Byte b) v e)
byte_read (b ∷ c ∷ rest) v e = absurd (too_long (length (b ∷ c ∷ rest) == 1) (Byte b) v (ne_eqb (length (b ∷ c ∷ rest)) 1 (λ (same : length (b ∷ c ∷ rest) ≡ 1). omega arith)) e)

-- ---- what is asked for

-- it has the row of STATUS_MESSAGES
row_there : (p : Profile) → row_at p 0x0030 ≡ cond (is_left_out p 0x0030) None (row_of 0x0030)
unfolding row_of table
row_there p = refl

at_root : (left is_root : Bool) (u : Unit {0}) → access (cond left None (row_of 0x0030)) is_root Get ≡ Ok u → (left ≡ false) × (is_root ≡ true)
unfolding row_of table
at_root true is_root u e = absurd cc
at_root false false u e = absurd cc
at_root false true u e = (refl, refl)

takes_byte : (bytes : List ℕ) → read (command_in (row_of 0x0030) Get) bytes ≡ read_as byte bytes
unfolding row_of table
takes_byte bytes = refl

asks_for : (p : Parameters) (sub : ℕ) (v : Value) (ask : Ask) → verdict p sub 0x0030 (command_in (row_of 0x0030) Get) Get (ok v) ≡ Status ask → ask ≡ ask_of (byte_or_0 v)
unfolding row_of table
asks_for p sub v ask e = sym (status_is (ask_of (byte_or_0 v)) ask e)

asked_with : (p : Parameters) (sub : ℕ) (bytes : List ℕ) (ask : Ask) (value : Result Value Nack) → accepted p sub 0x0030 Get bytes ≡ value
    → verdict p sub 0x0030 (command_at p 0x0030 Get) Get value ≡ Status ask → IsAsked sub bytes ask
asked_with p sub bytes ask (Err nack) e answer = absurd cc
asked_with p sub bytes ask (Ok v) e answer =
    let says = accepts p sub 0x0030 bytes v e in
    let at = at_root (is_left_out p.profile 0x0030) (sub == 0) says.unit (subst (λ (r : Option Row). access r (sub == 0) Get ≡ Ok says.unit) (row_there p.profile) says.may) in
    let there : row_at p.profile 0x0030 ≡ row_of 0x0030 = row_there p.profile ∙ ap (λ left. cond left None (row_of 0x0030)) at.0 in
    let is_read : read (command_in (row_of 0x0030) Get) bytes ≡ Ok v = subst (λ (r : Option Row). read (command_in r Get) bytes ≡ Ok v) there says.is_read in
    record {
      byte = byte_or_0 v;
      root = eqb-true sub 0 at.1;
      body = byte_read bytes v (sym (takes_byte bytes) ∙ is_read);
      ask_is =
          asks_for p sub v ask
          (subst (λ (r : Option Row). verdict p sub 0x0030 (command_in r Get) Get (ok v) ≡ Status ask) there answer);
    }

asked_at : (p : Parameters) (sub : ℕ) (bytes : List ℕ) (ask : Ask) → got p sub 0x0030 bytes ≡ Status ask → IsAsked sub bytes ask
unfolding got got_by_row
asked_at p sub bytes ask e = asked_with p sub bytes ask (accepted p sub 0x0030 Get bytes) refl e

pub status_asked : (p : Parameters) (sub pid : ℕ) (bytes : List ℕ) (ask : Ask) → got p sub pid bytes ≡ Status ask → IsAsked sub bytes ask
status_asked p sub pid bytes ask e =
    asked_at p sub bytes ask (subst (λ n. got p sub n bytes ≡ Status ask) (get_statuses p sub pid bytes ask e) e)
