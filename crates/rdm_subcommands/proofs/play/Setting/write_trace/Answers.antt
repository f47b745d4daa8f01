use Rattle.std.proofs.Common.{ℕ, List, ap, subst, ◌∙◌}
use Rattle.std.specs.Io.KnownBytes.{Appends}
use Rattle.rdm_trace.specs.LineText.{lines_text}
use Rattle.rdm_expect.specs.Sheets.{script_of}
use Rattle.rdm_subcommands.proofs.Settings.{played_text}
use Rattle.rdm_subcommands.proofs.play.Setting.write_trace.Goals as goal

pub returns-in-Ok : goal.returns-in-Ok
returns-in-Ok g c = record {
  ok = (
    lines_text c.in_ok-played.played.lines.items,
    played_text c.args.self.now.file (script_of c.args.script.text.now) c.in_ok-played.played.lines.items c.in_ok-played.ensures.ok,
    subst (λ (bytes : List ℕ). Appends (g.W.Write.contents c.args.writer.now) (g.W.Write.contents c.write_all.new.self) bytes)
        (c.as_slice-2.ensures.value ∙ c.in_ok-text.ensures ∙ ap lines_text c.as_slice.ensures.value) c.in-Ok.ensures.bytes,
  );
}
