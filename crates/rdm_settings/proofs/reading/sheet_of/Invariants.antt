use Rattle.std.proofs.Common.{◌≡◌, take}
use Rattle.std.specs.List.{flat_map}
use Rattle.rdm_settings.specs.Sheets.{complaint_in, setting_in}
use Rattle.rdm_settings.proofs.reading.sheet_of.Given as goal

abbrev pub invariant-loop-finding : goal.invariant-loop-finding
invariant-loop-finding l = record {
  settings : l.settings.items ≡ flat_map setting_in (take l.finding-index l.list);
  complaints : l.complaints.items ≡ flat_map complaint_in (take l.finding-index l.list);
}
