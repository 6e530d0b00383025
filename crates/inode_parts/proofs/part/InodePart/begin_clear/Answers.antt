use Rattle.inode_parts.proofs.Lemmas.{ℕ, ap, ◌∙◌, Free, Dinode, P, put_entry, InodePlace, record_in, note_at, slot_in, seat_of_lock, clear_is_part}
use Rattle.inode_parts.proofs.part.InodePart.begin_clear.Goals as goal

pub returns-clause-part : goal.returns-clause-part
returns-clause-part c path name begins =
    let sizes = c.args.sizes.now in
    let n = c.args.number in
    let m = c.args.notes.now in
    let before = c.args.hand.now in
    let is = c.lock_seat-seat.ensures in
    let there = c.record_at.ensures ∙ ap (λ (k : InodePlace). record_in k before) is in
    let slot = c.found_slot-slot.ensures ∙ ap (λ (k : InodePlace). slot_in (note_at k m)) is in
    let program =
    c.new-clear.ensures.program before
    ∙ ap (λ (d : Dinode). let p : P Dinode = put_entry sizes.version sizes.inodestart n d c.found_slot-slot.result Free in p) there
    ∙ ap (λ (s : ℕ). let p : P Dinode = put_entry sizes.version sizes.inodestart n (record_in (seat_of_lock n before) before) s Free in p) slot in
    clear_is_part sizes path m n name before (record { seat = c.lock_seat-seat.result; slot = c.found_slot-slot.result; clear = c.new-clear.result }) begins is slot program
