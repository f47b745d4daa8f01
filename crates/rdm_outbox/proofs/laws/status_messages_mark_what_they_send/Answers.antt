use Rattle.rdm_outbox.proofs.Marks.{show_marks_the_first, show_only_marks, sends_what_it_marks, none_is_sent_twice}
use Rattle.rdm_outbox.proofs.laws.status_messages_mark_what_they_send.Goals as goal

pub returns-clause-marks : goal.returns-clause-marks
returns-clause-marks c = show_marks_the_first

pub returns-clause-rest : goal.returns-clause-rest
returns-clause-rest c = show_only_marks

pub returns-clause-sends : goal.returns-clause-sends
returns-clause-sends c = sends_what_it_marks

pub returns-clause-once : goal.returns-clause-once
returns-clause-once c = none_is_sent_twice
