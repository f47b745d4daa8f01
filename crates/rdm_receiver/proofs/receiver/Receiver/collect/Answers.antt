use Rattle.std.proofs.Common.{◌≡◌, ◌≢◌, ◌<◌, ◌≤◌, ◌+◌, true, false, length, get_or, set, refl, sym, arith, rules}
use Rattle.rdm_receiver.specs.declared.receiver.Receiver.{Receiver}
use Rattle.rdm_receiver.specs.Receiving.{IsWaiting, may_stand}
use Rattle.rdm_receiver.proofs.Keeping.{keeps_full, keeps_right, keeps_whole, keeps_wrong, none_right, waiting}
use Rattle.rdm_receiver.proofs.receiver.Receiver.collect.Goals as goal
use Rattle.rdm_receiver.proofs.receiver.Receiver.collect.Goals.{then-place-ge-MOST_SLOTS-via-then-place-ge-MOST_SLOTS, then-place-ge-MOST_SLOTS-via-else-place-ge-MOST_SLOTS+then-not-may_stand}

pub returns-then-place-ge-MOST_SLOTS-clause-keeps : goal.returns-then-place-ge-MOST_SLOTS-clause-keeps
returns-then-place-ge-MOST_SLOTS-clause-keeps c =
    let other : c.args.self.now.count ≡ 0 → c.args.byte ≢ 0 = search rules in
    elim c.then-place-ge-MOST_SLOTS.branch [
      | then-place-ge-MOST_SLOTS-via-then-place-ge-MOST_SLOTS w ↦ λ bytes keeps.
          let full : 257 ≤ c.args.self.now.count = search rules in
          keeps_full c.args.self.now _ bytes c.args.byte c.requires (waiting _ refl) full keeps
      | then-place-ge-MOST_SLOTS-via-else-place-ge-MOST_SLOTS+then-not-may_stand w ↦ λ bytes keeps.
          let wrong : may_stand c.args.self.now.count c.args.byte ≡ false = search rules in
          keeps_wrong c.args.self.now _ bytes c.args.byte c.requires (waiting _ refl) wrong other keeps
    ]

pub returns-then-place-from-clause-keeps : goal.returns-then-place-from-clause-keeps
returns-then-place-from-clause-keeps c =
    let same : c.from-place.result ≡ c.args.self.now.count = search rules in
    let far : 2 < c.from-place.result = search rules in
    let whole : c.from-place.result ≡ get_or (set c.args.self.now.packet c.from-place.result c.args.byte) 2 0 + 1 = search rules in
    λ bytes keeps. keeps_whole c.args.self.now _ bytes c.args.byte c.from-place.result c.requires (waiting _ refl) same far whole keeps

pub returns-clause-keeps : goal.returns-clause-keeps
returns-clause-keeps c =
    let same : c.from-place.result ≡ c.args.self.now.count = search rules in
    let room : c.from-place.result < length c.args.self.now.packet = search rules in
    let right : may_stand c.from-place.result c.args.byte ≡ true = search rules in
    let fits : c.args.byte ≤ 255 = search rules in
    let unended : 2 < c.from-place.result → c.from-place.result ≢ get_or (set c.args.self.now.packet c.from-place.result c.args.byte) 2 0 + 1 = search rules in
    λ bytes keeps. keeps_right c.args.self.now _ bytes c.args.byte c.from-place.result c.requires c.requires same refl refl room right fits unended keeps

pub returns-clause-output : goal.returns-clause-output
returns-clause-output c =
    let same : c.from-place.result ≡ c.args.self.now.count = search rules in
    let right : may_stand c.from-place.result c.args.byte ≡ true = search rules in
    let fits : c.args.byte ≤ 255 = search rules in
    let unended : 2 < c.from-place.result → c.from-place.result ≢ get_or (set c.args.self.now.packet c.from-place.result c.args.byte) 2 0 + 1 = search rules in
    λ bytes keeps. none_right c.args.self.now bytes c.args.byte c.from-place.result c.requires same right fits unended keeps
