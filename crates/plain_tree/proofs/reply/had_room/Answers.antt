use Rattle.plain_tree.proofs.Lemmas.{◌∙◌, ap, sym, had_room, acts_other, no_room, room_own, room_end}
use Rattle.plain_tree.proofs.reply.had_room.Goals as goal
use Rattle.plain_tree.proofs.reply.had_room.Goals.{else-entry-id-via-then-entry-id+else-is_full, else-entry-id-via-else-entry-id}

pub returns-then-is_full : goal.returns-then-is_full
returns-then-is_full c = no_room c.args.id c.args.list.now c.loop-entry.entry-index c.entry-item.result c.is_full.result c.loop-entry-test.true c.entry-item.is c.if-entry-id.true c.is_full.ensures c.if-is_full.true c.loop-entry.invariant

pub loop-entry-preserved : goal.loop-entry-preserved
loop-entry-preserved c = elim c.else-entry-id.branch [
  | else-entry-id-via-then-entry-id+else-is_full w ↦ room_own c.args.id c.args.list.now c.loop-entry.entry-index c.entry-item.result w.is_full.result c.loop-entry-test.true c.entry-item.is w.if-entry-id.true w.is_full.ensures w.if-is_full.false c.loop-entry.invariant
  | else-entry-id-via-else-entry-id w ↦ ap had_room (sym (acts_other c.args.id c.args.list.now c.loop-entry.entry-index c.entry-item.result c.loop-entry-test.true c.entry-item.is w.if-entry-id.false)) ∙ c.loop-entry.invariant
]

pub returns : goal.returns
returns c = room_end c.args.id c.args.list.now c.loop-entry.entry-index c.loop-entry-test.false c.loop-entry.invariant
