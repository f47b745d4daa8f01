-- A port of which a trace is kept.
use Rattle.std.specs.Prelude.{◌≡◌, ◌⊎◌, ℕ, List, Option}
use Rattle.rdm_collector.specs.declared.port.PortError.{PortError}
use Rattle.rdm_collector.specs.declared.port.PortError.TheVariants.{Write}

-- It may fail as the port itself does; or since the trace isn't kept, before the request is sent or behind what was heard.
abbrev pub FailsKept : {P : Type 0} → (P → List ℕ → Option (List ℕ) → P → Type 0) → (P → List ℕ → PortError → P → Type 0)
    → P → List ℕ → PortError → P → Type 0
FailsKept {P} hears fails before request error after =
    fails before request error after
    ⊎ ((error ≡ Write) × ((after ≡ before) ⊎ ((heard : Option (List ℕ)) × hears before request heard after)))
