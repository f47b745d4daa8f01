-- The status types. E1.20 sections 10.3.1 and 10.3.2, table A-4.
use Rattle.std.specs.Prelude.{ℕ, ◌==◌, if◌then◌else◌}
use Rattle.rdm_commands.specs.declared.jobs.ask.Ask.{Ask}
use Rattle.rdm_commands.specs.declared.jobs.ask.Ask.TheVariants as asks

-- what the byte of QUEUED_MESSAGE or STATUS_MESSAGES asks for; there is no type above 04
abbrev pub ask_of : ℕ → Ask
ask_of n =
    if n == 0x00 then asks.None
    else (if n == 0x01 then asks.Last
    else (if n == 0x02 then asks.Advisory
    else (if n == 0x03 then asks.Warning
    else asks.Error)))
