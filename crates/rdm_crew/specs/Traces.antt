-- What a caller sees of a trace.
use Rattle.std.specs.Prelude.{List}
use Rattle.rdm_frame.specs.declared.message.Message.{Message}
use Rattle.rdm_responder.specs.declared.report.Report.{Report}
use Rattle.rdm_bus.specs.declared.event.Event.{Event}
use Rattle.rdm_lane.specs.Settling.{SettledState}

-- What has happened, and the messages that the controller collected, both in order; and the lists of the report lane: what the
-- bus thread took from it, and what each worker put.
pub record Traced : Type 0 where
  pub events : List Event
  pub recorded : List Message
  pub reports : SettledState Report
