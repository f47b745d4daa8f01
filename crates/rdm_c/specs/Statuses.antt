-- The codes of what became of a call, as the header lists them.
use Rattle.std.specs.Prelude.{ℕ, Option, Some, None}
use Rattle.rdm_collector.specs.declared.sender.AskError.{AskError}
use Rattle.rdm_collector.specs.declared.sender.AskError.TheVariants as ask
use Rattle.rdm_commands.specs.declared.placing.PlaceError.{PlaceError}
use Rattle.rdm_commands.specs.declared.placing.PlaceError.TheVariants as place
use Rattle.rdm_saved.specs.declared.errors.RestoreError.{RestoreError}
use Rattle.rdm_saved.specs.declared.errors.RestoreError.TheVariants as restore
use Rattle.rdm_c.specs.declared.status.Status.{Status}
use Rattle.rdm_c.specs.declared.status.Status.TheVariants.{Done, OutOfMemory, BadProfile, BadSize, BadUid, Absent, Astray, Unknown, Refused, NoValue, Reserved, Busy, TooLong, NoMore, NoRoom, OutOfRange, Limit, NoDevice, NotStored, BadLength, ShortImage, ImageLength, AlteredImage, ForeignImage, NoReply, InUse, Unaligned, ShortMemory, NoImage, FlashFailed}

abbrev pub code_of : Status → ℕ
code_of Done = 0
code_of OutOfMemory = 1
code_of BadProfile = 2
code_of BadSize = 3
code_of BadUid = 4
code_of Absent = 5
code_of Astray = 6
code_of Unknown = 7
code_of Refused = 8
code_of NoValue = 9
code_of Reserved = 10
code_of Busy = 11
code_of TooLong = 12
code_of NoMore = 13
code_of NoRoom = 14
code_of OutOfRange = 15
code_of Limit = 16
code_of NoDevice = 17
code_of NotStored = 18
code_of BadLength = 19
code_of ShortImage = 20
code_of ImageLength = 21
code_of AlteredImage = 22
code_of ForeignImage = 23
code_of NoReply = 24
code_of InUse = 25
code_of Unaligned = 26
code_of ShortMemory = 27
code_of NoImage = 28
code_of FlashFailed = 29

-- what a collector's refusal of a command is called, and what it is called that there is none
abbrev pub of_refusal : Option AskError → Status
of_refusal None = Done
of_refusal (Some ask.Reserved) = Reserved
of_refusal (Some ask.Busy) = Busy
of_refusal (Some ask.TooLong) = TooLong

-- what the refusal of a value that firmware places is called, and what it is called that there is none
abbrev pub of_place_refusal : Option PlaceError → Status
of_place_refusal None = Done
of_place_refusal (Some place.NoDevice) = NoDevice
of_place_refusal (Some place.NoValue) = NotStored
of_place_refusal (Some place.Length) = BadLength
of_place_refusal (Some place.OutOfRange) = OutOfRange

-- what the refusal of an image to restore is called, and what it is called that there is none
abbrev pub of_restore_refusal : Option RestoreError → Status
of_restore_refusal None = Done
of_restore_refusal (Some restore.Length) = ImageLength
of_restore_refusal (Some restore.Altered) = AlteredImage
of_restore_refusal (Some restore.OfAnother) = ForeignImage
