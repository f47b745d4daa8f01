-- What a sensor shows over time. Times are in milliseconds since power-on, those of points in seconds. E1.20 section 10.7.2.
use Rattle.std.specs.Prelude.{ℕ, ◌-◌, ◌*◌, ◌/◌, ◌%◌, ◌==◌, ℤ, pos, ◌+ℤ◌, ◌-ℤ◌, unsigned_abs, Bool, true, false, not, ◌&&◌, ◌||◌, if◌then◌else◌, nat_le, nat_lt, int_le, List, [], ◌∷◌, ◌++◌, length, map, filter, slice_get, Option, Some, None}
use Rattle.std.specs.Option.{option_map_or, option_to_list}
use Rattle.rdm_courses.specs.declared.course.Point.{Point}
use Rattle.rdm_courses.specs.declared.course.Way.{Way}
use Rattle.rdm_courses.specs.declared.course.Way.TheVariants.{Steps, Ramp}
use Rattle.rdm_courses.specs.declared.course.Course.{Course}

-- the course without points
abbrev pub no_course : Course
no_course = record { points = record { items = [] }; way = Steps; repeats = false }

-- when a point comes first
abbrev pub time_of : Point → ℕ
time_of p = 1000 * p.at

-- how long a round of a course takes that repeats: until its last point. One that doesn't repeat has no rounds, and 0 stands for it.
abbrev pub round_of : Course → ℕ
round_of c = if c.repeats then option_map_or time_of (slice_get c.points.items (length c.points.items - 1)) 0 else 0

-- ---- the value at a time

-- which time of the round it is
abbrev pub within_round : Course → ℕ → ℕ
within_round c now = if round_of c == 0 then now else now % round_of c

-- what is shown on the straight line from v to w, of which this part of the whole has passed, rounded toward v
abbrev pub on_line : ℤ → ℤ → ℕ → ℕ → ℤ
on_line v w passed whole =
    if int_le v w then v +ℤ pos (unsigned_abs (w -ℤ v) * passed / whole) else v -ℤ pos (unsigned_abs (v -ℤ w) * passed / whole)

-- what is shown between two points
abbrev pub between : Way → Point → Point → ℕ → ℤ
between Steps p q t = p.value
between Ramp p q t = on_line p.value q.value (t - time_of p) (time_of q - time_of p)

-- what is shown at a time by which this point has come, and those behind it may have; the value of the last one holds
abbrev pub held : Way → Point → List Point → ℕ → ℤ
held way p [] t = p.value
held way p (q ∷ qs) t = if nat_le (time_of q) t then held way q qs t else between way p q t

-- before the first point it is nothing
abbrev pub shown : Way → List Point → ℕ → Option ℤ
shown way [] t = None
shown way (p ∷ ps) t = if nat_le (time_of p) t then Some (held way p ps t) else None

abbrev pub value_at : Course → ℕ → Option ℤ
value_at c now = shown c.way c.points.items (within_round c now)

-- ---- what came since

-- What came first at this time, and again in each round, is new if nobody has looked yet, if it hadn't come at the last look, or if it
-- came again in a later round.
abbrev pub is_new : ℕ → Option ℕ → ℕ → ℕ → Bool
is_new round None now first = true
is_new round (Some looked) now first =
    nat_lt looked first || (not (round == 0) && nat_lt ((looked - first) / round) ((now - first) / round))

-- it has come by now, and since the last look
abbrev pub comes : ℕ → Option ℕ → ℕ → ℕ → Bool
comes round looked now first = nat_le first now && is_new round looked now first

abbrev pub has_come : ℕ → Option ℕ → ℕ → Point → Bool
has_come round looked now p = comes round looked now (time_of p)

-- the values of the points that have come since, each once, in their order
abbrev pub values_come : ℕ → Option ℕ → ℕ → List Point → List ℤ
values_come round looked now ps = map (λ p. p.value) (filter (has_come round looked now) ps)

-- What the sensor has shown since the last look: the values of the points that have come, and then what it shows at this time.
abbrev pub shown_since : Course → Option ℕ → ℕ → List ℤ
shown_since c looked now = values_come (round_of c) looked now c.points.items ++ option_to_list (value_at c now)
