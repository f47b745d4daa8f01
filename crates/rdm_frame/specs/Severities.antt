-- How bad it is what a status entry tells. E1.20 table A-4.
use Rattle.std.specs.Prelude.{ℕ, ◌==◌, if◌then◌else◌, List, Option, Some, None, codes}
use Rattle.rdm_frame.specs.declared.status.Severity.{Severity}
use Rattle.rdm_frame.specs.declared.status.Severity.TheVariants.{Advisory, Warning, Error, AdvisoryCleared, WarningCleared, ErrorCleared}

-- the code of each severity
abbrev pub severity_code : Severity → ℕ
severity_code Advisory = 0x02
severity_code Warning = 0x03
severity_code Error = 0x04
severity_code AdvisoryCleared = 0x12
severity_code WarningCleared = 0x13
severity_code ErrorCleared = 0x14

-- the severity of a code
abbrev pub severity_in : ℕ → Option Severity
severity_in code =
    if code == 0x02 then Some Advisory
    else if code == 0x03 then Some Warning
    else if code == 0x04 then Some Error
    else if code == 0x12 then Some AdvisoryCleared
    else if code == 0x13 then Some WarningCleared
    else if code == 0x14 then Some ErrorCleared else None

-- each severity in words
abbrev pub severity_name : Severity → List ℕ
severity_name Advisory = codes "advisory"
severity_name Warning = codes "warning"
severity_name Error = codes "error"
severity_name AdvisoryCleared = codes "advisory cleared"
severity_name WarningCleared = codes "warning cleared"
severity_name ErrorCleared = codes "error cleared"

-- the rank of each severity; what is over ranks with what it was
abbrev pub rank_of : Severity → ℕ
rank_of Advisory = 2
rank_of Warning = 3
rank_of Error = 4
rank_of AdvisoryCleared = 2
rank_of WarningCleared = 3
rank_of ErrorCleared = 4
