use Rattle.inode_parts.proofs.Lemmas.{ap, refl, ◌∙◌, Ret, answer_in, cleared, index_at, handed, cleared_so, clear_part_asked, clear_ends, clear_on, buffers_beside, leaves_both, loaded-there, loaded_still, still_amid, with_record}
use Rattle.path_walk.specs.declared.asks.Heard.TheVariants as heard
use Rattle.inode_parts.specs.declared.note.Note.TheVariants as note
use Rattle.inode_parts.proofs.changing_directories.ClearPartOperation.next.Goals as goal

pub clear_in_index-requires : goal.clear_in_index-requires
clear_in_index-requires c =
    let came = c.requires.came in
    loaded_still c.args.self.now.seat came.0 c.next.new.hand (c.in-Some.ensures.beside came.0 came.1.0 came.2) came.1.1

pub returns-in-None-clause-goes : goal.returns-in-None-clause-goes
returns-in-None-clause-goes c path before ready after =
    let p = c.args.self.now in
    let did = c.in-None.ensures in
    clear_on path c.args.notes.now p before c.next.new.hand (answer_in (clear_part_asked p) c.args.answer.now c.args.hand.now) (did.beside before ready.0 after) (record { seat = p.seat; slot = p.slot; clear = c.next.new.self }) refl refl (did.goes before ready.0 after)

pub returns-in-Some-clause-goes : goal.returns-in-Some-clause-goes
returns-in-Some-clause-goes c path before ready after =
    let p = c.args.self.now in
    let m = c.args.notes.now in
    let h = c.next.new.hand in
    let d = c.in-Some.inode in
    let did = c.in-Some.ensures in
    let same = did.beside before ready.0 after in
    let set = c.change.ensures.record ∙ ap (with_record p.seat d) c.clear_in_index.ensures in
    clear_ends path m p before h (answer_in (clear_part_asked p) c.args.answer.now c.args.hand.now) same d (Ret (handed path c.change.new.notes heard.WasDone c.change.new.hand))
    (cleared_so path m c.change.new.notes p.seat p.slot h c.change.new.hand d (loaded_still p.seat before h same ready.1) set c.change.ensures.notes) (did.goes before ready.0 after)

pub returns-in-None-clause-leaves : goal.returns-in-None-clause-leaves
returns-in-None-clause-leaves c version path a start before amid ready after =
    let k = c.args.self.now.seat in
    let h = c.next.new.hand in
    (still_amid a.0 start k before h (buffers_beside k before h (c.in-None.ensures.beside before ready.0 after)) amid, refl)

pub returns-in-Some-clause-leaves : goal.returns-in-Some-clause-leaves
returns-in-Some-clause-leaves c version path a start before amid ready after =
    let p = c.args.self.now in
    let k = p.seat in
    let h = c.next.new.hand in
    let d = c.in-Some.inode in
    let did = c.in-Some.ensures in
    let same = did.beside before ready.0 after in
    let still = still_amid a.0 start k before h (buffers_beside k before h same) amid in
    let set = c.change.ensures.record ∙ ap (with_record k d) c.clear_in_index.ensures in
    leaves_both a.0 start h c.change.new.hand k d (cleared p.slot (index_at k h)) c.args.notes.now c.change.new.notes note.Nothing still did.ends (loaded-there k h (loaded_still k before h same ready.1)) set c.change.ensures.notes
