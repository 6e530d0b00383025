use Rattle.inode_parts.proofs.Lemmas.{true, Option, None, sym, ap, Face, Heard, counted_face, sees_nothing, seen_ends}
use Rattle.path_walk.specs.declared.asks.Heard.TheVariants as heard
use Rattle.inode_parts.specs.declared.note.Note.TheVariants as note
use Rattle.inode_parts.proofs.relock_part.seen.Goals as goal

pub returns-clause-program : goal.returns-clause-program
returns-clause-program c path =
    let saw : Option Face → Heard = λ f. heard.Saw (record { face = f; found = None; empty = true }) in
    sym (seen_ends path c.args.notes.now c.set.new.self c.args.seat c.args.hand.now note.Nothing c.record_at-inode.result.now None true (saw c.face_unless_free.result) c.record_at-inode.ensures c.requires (ap saw c.face_unless_free.ensures.is) c.set.ensures)

pub returns-clause-sees : goal.returns-clause-sees
returns-clause-sees c version path =
    let face = c.face_unless_free.result in
    sees_nothing version path c.args.seat (heard.Saw (record { face = face; found = None; empty = true })) c.args.notes.now c.set.new.self (counted_face face c.face_unless_free.ensures.few) note.Nothing c.set.ensures
