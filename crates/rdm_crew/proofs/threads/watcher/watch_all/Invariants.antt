use Rattle.std.proofs.Common.{◌≡◌, ℕ, length}
use Rattle.rdm_commands.specs.declared.panel.Change.{Change}
use Rattle.rdm_lane.specs.Ends.{IsSamePost}
use Rattle.rdm_crew.specs.Watchers.{AreOffered}
use Rattle.rdm_crew.proofs.threads.watcher.watch_all.Given as goal

-- The panel offers what it offered at the start, and a change was put for each number so far.
abbrev pub invariant-loop-number : goal.invariant-loop-number
invariant-loop-number g l =
    ((n : ℕ) (c : Change) → g.N.Panel.offers l.panel n c → g.N.Panel.offers l.fn.panel n c)
    × IsSamePost l.fn.changes l.changes × (length l.changes.items ≡ l.number)
    × AreOffered (g.N.Panel.offers l.fn.panel) 0 l.changes.items
