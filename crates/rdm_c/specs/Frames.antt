-- Which test bytes fail that are to be a frame, as the header numbers the tests. E1.20 section 6.2.
use Rattle.std.specs.Prelude.{ℕ, ◌==◌, if◌then◌else◌, Option, Some, None}
use Rattle.rdm_frame.specs.declared.decoding.FrameError.{FrameError}
use Rattle.rdm_frame.specs.declared.decoding.FrameError.TheVariants.{Short, Start, SubStart, Length, Pdl, Checksum}

-- the test of a number; 0 stands for none
abbrev pub frame_fault_in : ℕ → Option FrameError
frame_fault_in number =
    if number == 1 then Some Short
    else if number == 2 then Some Start
    else if number == 3 then Some SubStart
    else if number == 4 then Some Length
    else if number == 5 then Some Pdl
    else if number == 6 then Some Checksum else None
