use Rattle.std.proofs.Common.{◌≡◌, arith, sym, take, subst, true, false}
use Rattle.std.specs.Prelude.{◌&&◌, nat_lt}
use Rattle.rdm_frame.specs.declared.status.Entry.{Entry}
use Rattle.rdm_outbox.specs.Statuses.{asks_for}
use Rattle.rdm_outbox.proofs.Entries.{said_shown, left_shown, room_shown, said_kept, left_kept, left_whole}
use Rattle.rdm_outbox.proofs.Fronts.{said_at_first, left_at_first}
use Rattle.rdm_outbox.proofs.showing.show_asked.Goals as goal
use Rattle.rdm_outbox.proofs.showing.show_asked.Goals.{then-is_shown, else-is_shown}

pub loop-at-init : goal.loop-at-init
loop-at-init c = record {
  said = said_at_first c.args.body.now c.args.most c.args.ask c.args.entries.now c.first_place-kept.result c.requires.empty c.first_place-kept.ensures;
  left = left_at_first c.args.most c.args.ask c.args.entries.now c.first_place-kept.result c.first_place-kept.ensures;
  room = rw c.requires.empty (omega arith);
  kept = omega arith;
}

pub loop-at-preserved : goal.loop-at-preserved
loop-at-preserved c =
    elim c.if-is_shown.branch [
      | then-is_shown w ↦ rw (w.body-is, w.room-is, w.entries-is, w.kept-is) (record {
        said = rw (w.append_entry.ensures, c.entry-entry.ensures) (said_shown c.loop-at.body c.loop-at.room c.args.ask c.loop-at.entries c.loop-at.at _ _ (omega arith) (subst (λ (e : Entry). (nat_lt 0 c.loop-at.room && asks_for c.args.ask e) ≡ true) c.entry-entry.ensures (sym w.if-is_shown.ensures)) c.loop-at.invariant.said);
        left = left_shown (take c.loop-at.kept c.loop-at.entries) c.loop-at.room c.args.ask c.loop-at.entries c.loop-at.at _ _ (omega arith) (subst (λ (e : Entry). (nat_lt 0 c.loop-at.room && asks_for c.args.ask e) ≡ true) c.entry-entry.ensures (sym w.if-is_shown.ensures)) c.loop-at.invariant.left;
        room = rw w.append_entry.ensures (room_shown c.loop-at.body c.loop-at.room c.args.ask _ c.args.most (sym w.if-is_shown.ensures) c.loop-at.invariant.room);
        kept = omega arith;
      })
      | else-is_shown w ↦ rw (w.body-is, w.room-is, w.entries-is, w.kept-is, w.of.ensures, c.entry-entry.ensures) (record {
        said = said_kept c.loop-at.body c.loop-at.room c.args.ask c.loop-at.entries c.loop-at.kept c.loop-at.at _ _ c.loop-at.invariant.kept (omega arith) (subst (λ (e : Entry). (nat_lt 0 c.loop-at.room && asks_for c.args.ask e) ≡ false) c.entry-entry.ensures (sym w.if-is_shown.ensures)) c.loop-at.invariant.said;
        left = left_kept c.loop-at.room c.args.ask c.loop-at.entries c.loop-at.kept c.loop-at.at _ _ c.loop-at.invariant.kept (omega arith) (subst (λ (e : Entry). (nat_lt 0 c.loop-at.room && asks_for c.args.ask e) ≡ false) c.entry-entry.ensures (sym w.if-is_shown.ensures)) c.loop-at.invariant.left;
        room = c.loop-at.invariant.room;
        kept = omega arith;
      })
    ]

pub returns-clause-left : goal.returns-clause-left
returns-clause-left c = left_whole (take c.loop-at.kept c.loop-at.entries) c.loop-at.room c.args.ask c.loop-at.entries c.loop-at.at _ (omega arith) c.loop-at.invariant.left
