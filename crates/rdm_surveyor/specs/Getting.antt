-- What a survey sends: GETs, by which no fixture changes what it is set to. E1.20 section 6.2.10 and table A-1.
use Rattle.std.specs.Prelude.{◌≡◌, ◌⊎◌, ℕ, zero, suc, List, Option}
use Rattle.rdm_frame.specs.declared.frame.Frame.{Frame}
use Rattle.rdm_frame.specs.FrameText.{frame_text}
use Rattle.rdm_collector.specs.declared.port.PortError.{PortError}

-- the bytes of a GET. Table A-1.
pub record IsGet (text : List ℕ) : Type 0 where
  pub frame : Frame
  pub is_text : text ≡ frame_text frame
  pub class : frame.class ≡ 0x20

-- One was sent through a port, and something was heard of it, or nothing.
pub record IsGot {P : Type 0} (hears : P → List ℕ → Option (List ℕ) → P → Type 0) (before after : P) : Type 0 where
  pub request : List ℕ
  pub heard : Option (List ℕ)
  pub is_get : IsGet request
  pub sent : hears before request heard after

-- So many were sent, one behind the other, and nothing else.
abbrev pub AreGot : {P : Type 0} → (P → List ℕ → Option (List ℕ) → P → Type 0) → ℕ → P → P → Type 0
AreGot hears zero before after = after ≡ before
AreGot {P} hears (suc n) before after = (mid : P) × AreGot hears n before mid × IsGot hears mid after

-- GETs were sent, and nothing else.
pub record HasGot {P : Type 0} (hears : P → List ℕ → Option (List ℕ) → P → Type 0) (before after : P) : Type 0 where
  pub count : ℕ
  pub got : AreGot hears count before after

-- The port failed at one that was sent.
pub record FailsGet {P : Type 0} (fails : P → List ℕ → PortError → P → Type 0) (before after : P) : Type 0 where
  pub request : List ℕ
  pub error : PortError
  pub is_get : IsGet request
  pub failed : fails before request error after

-- GETs were sent, and nothing else; and at the last of them the port failed perhaps.
pub record HasTried {P : Type 0} (hears : P → List ℕ → Option (List ℕ) → P → Type 0) (fails : P → List ℕ → PortError → P → Type 0) (before after : P) : Type 0 where
  pub last : P
  pub got : HasGot hears before last
  pub ended : (after ≡ last) ⊎ FailsGet fails last after

-- Where nothing but GETs was sent before, nothing else was sent since.
abbrev pub GoesOn : {P : Type 0} → (P → List ℕ → Option (List ℕ) → P → Type 0) → P → P → Type 0
GoesOn {P} hears before after = (start : P) → HasGot hears start before → HasGot hears start after

abbrev pub GoesOnTrying : {P : Type 0} → (P → List ℕ → Option (List ℕ) → P → Type 0) → (P → List ℕ → PortError → P → Type 0) → P → P → Type 0
GoesOnTrying {P} hears fails before after = (start : P) → HasGot hears start before → HasTried hears fails start after
