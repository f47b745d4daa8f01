use Rattle.rdm_bus.proofs.RulingOut.{twice, later_first, answering_the_unheard, after_the_close, skipping, recording_nothing, recording_twice, dropping_an_equal_one, booking_no_poll, another_message}
use Rattle.rdm_bus.proofs.laws.headline_rules_out.Goals as goal

pub returns-clause-twice : goal.returns-clause-twice
returns-clause-twice c = twice

pub returns-clause-later_first : goal.returns-clause-later_first
returns-clause-later_first c = later_first

pub returns-clause-answering_the_unheard : goal.returns-clause-answering_the_unheard
returns-clause-answering_the_unheard c = answering_the_unheard

pub returns-clause-after_the_close : goal.returns-clause-after_the_close
returns-clause-after_the_close c = after_the_close

pub returns-clause-skipping : goal.returns-clause-skipping
returns-clause-skipping c = skipping

pub returns-clause-recording_nothing : goal.returns-clause-recording_nothing
returns-clause-recording_nothing c = recording_nothing

pub returns-clause-recording_twice : goal.returns-clause-recording_twice
returns-clause-recording_twice c = recording_twice

pub returns-clause-dropping_an_equal_one : goal.returns-clause-dropping_an_equal_one
returns-clause-dropping_an_equal_one c = dropping_an_equal_one

pub returns-clause-booking_no_poll : goal.returns-clause-booking_no_poll
returns-clause-booking_no_poll c = booking_no_poll

pub returns-clause-another_message : goal.returns-clause-another_message
returns-clause-another_message c = another_message
