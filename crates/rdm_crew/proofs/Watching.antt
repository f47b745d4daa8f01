-- What a watcher puts is offered, one by one.
use Rattle.std.proofs.Common.{◌≡◌, ℕ, suc, ◌+◌, List, [], ◌∷◌, ◌++◌, length, sym, ap, subst, ◌∙◌, arith}
use Rattle.std.proofs.lemmas.List.{length-append}
use Rattle.rdm_commands.specs.declared.panel.Change.{Change}
use Rattle.rdm_lane.specs.declared.taken.Taken.{Taken}
use Rattle.rdm_lane.specs.Ends.{PostState, TakeState, IsSamePost, IsSameTake, with_item}
use Rattle.rdm_lane.specs.Lane.{items_from}
use Rattle.rdm_lane.proofs.ThreeSentences.{takes_a_prefix}
use Rattle.rdm_crew.specs.declared.bus.desk.Desk.{Desk}
use Rattle.rdm_crew.specs.declared.threads.watcher.Watched.{Watched}
use Rattle.rdm_crew.specs.Crews.{HasChanges}
use Rattle.rdm_bus.specs.Happened.{changes_in}
use Rattle.rdm_crew.specs.Settling.{IsTakenOf, IsLaneOfOne}
use Rattle.rdm_crew.specs.Watchers.{AreOffered, IsWatched}

module _ (offers : ℕ → Change → Type 0) where
  -- one more change, offered for the number after them
  pub offered-more : (n : ℕ) (cs : List Change) (c : Change) → AreOffered offers n cs → offers (n + length cs) c → AreOffered offers n (cs ++ c ∷ [])
  offered-more n [] c all one = (subst (λ m. offers m c) (omega arith) one, tt)
  offered-more n (d ∷ ds) c all one = (all.0, offered-more (suc n) ds c all.1 (subst (λ m. offers m c) (omega arith) one))

  -- the first of them
  pub offered-front : (n : ℕ) (cs rest : List Change) → AreOffered offers n (cs ++ rest) → AreOffered offers n cs
  offered-front n [] rest all = tt
  offered-front n (c ∷ cs) rest all = (all.0, offered-front (suc n) cs rest all.1)

  -- the post after one more change
  pub keeps : (first before after : PostState Change) (number : ℕ) (c : Change) → after ≡ with_item before c → IsSamePost first before → length before.items ≡ number → AreOffered offers 0 before.items → offers number c
      → IsSamePost first after × (length after.items ≡ number + 1) × AreOffered offers 0 after.items
  keeps first before after number c put same many all one =
      subst (λ (p : PostState Change). IsSamePost first p × (length p.items ≡ number + 1) × AreOffered offers 0 p.items) (sym put) (
        same,
        length-append before.items (c ∷ []) ∙ ap (λ n. n + 1) many,
        offered-more 0 before.items c all (subst (λ n. offers n c) (let m : length before.items ≡ number = many in omega arith) one),
      )

  -- what was taken of them is offered too
  pub offered_taken : (taken : List (Taken Change)) (put : List Change) → IsTakenOf 0 taken put → AreOffered offers 0 put → AreOffered offers 0 (items_from 0 taken)
  offered_taken taken put sent all =
      let front = (takes_a_prefix 0 taken put sent).0 in
      offered-front 0 (items_from 0 taken) front.0 (subst (AreOffered offers 0) (sym front.1) all)

  -- the changes that happened are those that the panel offers
  pub offered_in : (d : Desk) (changes : TakeState Change) (post : PostState Change) (w : Watched) → HasChanges d changes → IsTakenOf 0 changes.taken w.changes.items → IsWatched offers post w → AreOffered offers 0 (changes_in d.system.trace)
  offered_in d changes post w has sent watched = subst (AreOffered offers 0) has.0 (offered_taken changes.taken w.changes.items sent watched.offered)

-- the ends of the panel's lane, once its watcher is joined
pub joined_lane : (offers : ℕ → Change → Type 0) (changes : TakeState Change) (post : PostState Change) (w : Watched) → IsLaneOfOne changes post → IsWatched offers post w → IsLaneOfOne changes w.changes
joined_lane offers changes post w lane watched = record { lane = watched.post.0 ∙ lane.lane; producer = watched.post.1 ∙ lane.producer; posts = lane.posts }

-- .. and once changes were taken
pub same_lane : (before after : TakeState Change) (post : PostState Change) → IsSameTake before after → IsLaneOfOne before post → IsLaneOfOne after post
same_lane before after post same lane = record { lane = lane.lane ∙ sym same.0; producer = lane.producer; posts = same.1 ∙ lane.posts }
