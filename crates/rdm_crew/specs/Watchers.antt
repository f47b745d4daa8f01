-- What a panel's watcher makes of the panel: the changes that it offers, one for each number, in order.
use Rattle.std.specs.Prelude.{◌≡◌, ℕ, suc, List, [], ◌∷◌}
use Rattle.rdm_commands.specs.declared.panel.Change.{Change}
use Rattle.rdm_lane.specs.Ends.{PostState, IsSamePost}
use Rattle.rdm_crew.specs.declared.threads.watcher.Watched.{Watched}

-- The changes are offered for the numbers from n on, one by one.
abbrev pub AreOffered : (ℕ → Change → Type 0) → ℕ → List Change → Type 0
AreOffered offers n [] = Unit {0}
AreOffered offers n (c ∷ cs) = offers n c × AreOffered offers (suc n) cs

-- how many changes a panel may offer in a run
abbrev pub most_changes : ℕ
most_changes = 1024

-- A post of a panel's lane before the watcher begins.
pub record IsUnwatched (changes : PostState Change) : Type 0 where
  pub none_put : changes.items ≡ []
  pub limit : changes.limit ≡ most_changes

-- What a watcher leaves: what it put are changes that the panel offers for 0, 1, 2 and so on.
pub record IsWatched (offers : ℕ → Change → Type 0) (changes : PostState Change) (w : Watched) : Type 0 where
  pub post : IsSamePost changes w.changes
  pub offered : AreOffered offers 0 w.changes.items
