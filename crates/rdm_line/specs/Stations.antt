-- When a station is in the state that a history leads to: its responder is.
use Rattle.rdm_responder.specs.History.{History}
use Rattle.rdm_responder.specs.StandsFor.{StandsFor}
use Rattle.rdm_line.specs.declared.station.Station.{Station}

abbrev pub StationStandsFor : Station → History → Type 0
StationStandsFor station h = StandsFor station.responder h
