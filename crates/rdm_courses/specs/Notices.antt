-- Status messages that come at their times. Times are in milliseconds since power-on, those of messages in seconds. E1.20 section 10.3.2.
use Rattle.std.specs.Prelude.{ℕ, ◌*◌, Bool, Option, Some, None}
use Rattle.std.specs.Option.{option_map_or}
use Rattle.rdm_frame.specs.declared.status.Entry.{Entry}
use Rattle.rdm_courses.specs.declared.notice.Notice.{Notice}
use Rattle.rdm_courses.specs.Courses.{comes}

-- how long it takes until a message comes again; 0 stands for never
abbrev pub round_of_notice : Notice → ℕ
round_of_notice n = option_map_or (λ every. 1000 * every) n.every 0

-- it has come by now, and since the last look
abbrev pub notice_comes : Notice → Option ℕ → ℕ → Bool
notice_comes n looked now = comes (round_of_notice n) looked now (1000 * n.at)

-- what it says
abbrev pub entry_of : Notice → Entry
entry_of n = record { sub = n.sub; severity = n.severity; id = n.id; v1 = n.v1; v2 = n.v2 }
