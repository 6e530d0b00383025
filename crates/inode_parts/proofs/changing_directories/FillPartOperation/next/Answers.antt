use Rattle.inode_parts.proofs.Lemmas.{ap, refl, ◌∙◌, Ret, answer_in, handed, no_index, fill_part_asked, fill_ends, fill_on, filled_so, buffers_beside, leaves_both, loaded-there, loaded_still, still_amid, with_record}
use Rattle.path_walk.specs.declared.asks.Heard.TheVariants as heard
use Rattle.inode_parts.specs.declared.note.Note.TheVariants as note
use Rattle.inode_parts.proofs.changing_directories.FillPartOperation.next.Goals as goal

pub clear_index_at-requires : goal.clear_index_at-requires
clear_index_at-requires c =
    let came = c.requires.came in
    loaded_still c.args.self.now.seat came.0 c.next.new.hand (c.in-Some.ensures.beside came.0 came.1.0 came.2) came.1.1

pub returns-in-None-clause-goes : goal.returns-in-None-clause-goes
returns-in-None-clause-goes c path before ready after =
    let p = c.args.self.now in
    let did = c.in-None.ensures in
    fill_on path c.args.notes.now p before c.next.new.hand (answer_in (fill_part_asked p) c.args.answer.now c.args.hand.now) (did.beside before ready.0 after) (record { seat = p.seat; fill = c.next.new.self }) refl (did.goes before ready.0 after)

pub returns-in-Some-clause-goes : goal.returns-in-Some-clause-goes
returns-in-Some-clause-goes c path before ready after =
    let p = c.args.self.now in
    let m = c.args.notes.now in
    let h = c.next.new.hand in
    let f = c.in-Some.filled in
    let did = c.in-Some.ensures in
    let same = did.beside before ready.0 after in
    let set = c.change.ensures.record ∙ ap (with_record p.seat f.inode) c.clear_index_at.ensures.index in
    fill_ends path m p before h (answer_in (fill_part_asked p) c.args.answer.now c.args.hand.now) same f (Ret (handed path c.change.new.notes (heard.Is f.whole) c.change.new.hand))
    (filled_so path m c.change.new.notes p.seat h c.change.new.hand f (loaded_still p.seat before h same ready.1) set c.change.ensures.notes) (did.goes before ready.0 after)

pub returns-in-None-clause-leaves : goal.returns-in-None-clause-leaves
returns-in-None-clause-leaves c version path a start before amid ready after =
    let k = c.args.self.now.seat in
    let h = c.next.new.hand in
    (still_amid a.0 start k before h (buffers_beside k before h (c.in-None.ensures.beside before ready.0 after)) amid, refl)

pub returns-in-Some-clause-leaves : goal.returns-in-Some-clause-leaves
returns-in-Some-clause-leaves c version path a start before amid ready after =
    let k = c.args.self.now.seat in
    let h = c.next.new.hand in
    let d = c.in-Some.filled.inode in
    let did = c.in-Some.ensures in
    let same = did.beside before ready.0 after in
    let still = still_amid a.0 start k before h (buffers_beside k before h same) amid in
    let set = c.change.ensures.record ∙ ap (with_record k d) c.clear_index_at.ensures.index in
    leaves_both a.0 start h c.change.new.hand k d no_index c.args.notes.now c.change.new.notes note.Nothing still did.ends (loaded-there k h (loaded_still k before h same ready.1)) set c.change.ensures.notes
