-- What a line and a station end as, once what they lent is given back.
use Rattle.std.specs.Prelude.{◌≡◌, ℕ, Option, slice_set}
use Rattle.std.specs.Option.{OnSome}
use Rattle.std.specs.Borrow.{Lends, LendsSo, Fml, RattleType, MutBor}
use Rattle.rdm_frame.specs.declared.uid.Uid.{Uid}
use Rattle.rdm_responder.specs.StandsFor.{State as ResponderState}
use Rattle.rdm_responder.specs.contracts.responder.Responder.{the_row as responder_row}
use Rattle.rdm_line.specs.Line.{State, IsOnlyAt}
use Rattle.rdm_line.specs.declared.device.Device.{Ghosts}
use Rattle.rdm_line.specs.declared.station.Station.{Station}
use Rattle.rdm_line.specs.contracts.line.Line.{the_row}
use Rattle.rdm_line.specs.contracts.station.Station.{the_row as station_row}

-- The device with this UID is `device`, and all else of the line is what it was.
abbrev pub HasPut : {D : Type 0} → Uid → D → State D → State D → Type 0
HasPut uid device before after = (i : ℕ) × IsOnlyAt uid before.uids i × (after ≡ record before { devices = slice_set before.devices i device })

module _ (D : RattleType) (device : Ghosts D.Denot) (line : MutBor (State D.Denot)) where
  -- the device with this UID ends as it is given back, and the line stays if there is none
  abbrev pub lends_device : Uid → Option (MutBor D.Denot) → Fml
  lends_device uid r = LendsSo (the_row D device) D line r (λ after w. OnSome r (HasPut uid w line.now after)) (λ after. after ≡ line.now)

-- the station's responder ends as it is given back, and all else of it stays
abbrev pub lends_responder : MutBor Station → MutBor ResponderState → Fml
lends_responder station r = Lends station_row responder_row station r (λ responder. record station.now { responder = responder })
