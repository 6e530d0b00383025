use Rattle.inode_parts.proofs.Lemmas.{◌≡◌, ◌++◌, ℕ, List, true, None, refl, sym, subst, ◌∙◌, is_some, not, Searched, Ret, bind, P, lookup, found_with, number_at, loaded_in, number_found, beside_in, listed_ends, named_ends, note_of, face_unless_free, sees_entries, sees_name, sees_nothing, seen_ends, seen_over}
use Rattle.inode_parts.specs.declared.note.Note.TheVariants as note
use Rattle.inode_parts.proofs.take_part.TakePart.look.Goals as goal

pub returns-in-Nothing-clause-program : goal.returns-in-Nothing-clause-program
returns-in-Nothing-clause-program c =
    let path = c.args.path.now ++ c.args.second.now in
    rw c.in-Nothing.is (sym
    (seen_ends path c.args.notes.now c.set.new.self c.args.seat c.args.hand.now note.Nothing c.record_at-inode.result.now None true c.saw.new.heard c.record_at-inode.ensures c.requires.taken c.saw.ensures.heard c.set.ensures))

pub returns-in-Is-clause-program : goal.returns-in-Is-clause-program
returns-in-Is-clause-program c =
    let path = c.args.path.now ++ c.args.second.now in
    let m = c.args.notes.now in
    let k = c.args.seat in
    let h = c.args.hand.now in
    let e = c.in-Name.element in
    let found = c.in-Is.found in
    let is = c.record_at-inode.ensures in
    let prog = subst (λ (name : List ℕ). let p : P Searched = lookup c.args.version name (loaded_in k h) in Ret (found_with k found h) ≡ p) c.name.ensures c.in-Is.ensures.program in
    rw c.in-Name.is
    (sym (seen_over path m c.named.new.notes k h (note_of e found) c.record_at-inode.result.now (number_found found) true c.named.new.heard is c.requires.taken c.named.ensures.heard c.named.ensures.notes)
    ∙ (λ i. bind (prog i) (named_ends path (beside_in path m k h) (number_at k h) (loaded_in k h) e)))

pub returns-in-Is-entries-clause-program : goal.returns-in-Is-entries-clause-program
returns-in-Is-entries-clause-program c =
    let path = c.args.path.now ++ c.args.second.now in
    let m = c.args.notes.now in
    let k = c.args.seat in
    let h = c.args.hand.now in
    let found = c.in-Is-entries.found in
    let is = c.record_at-inode.ensures in
    rw c.in-Entries.is
    (sym (seen_over path m c.listed.new.notes k h note.Nothing c.record_at-inode.result.now None (not (is_some found)) c.listed.new.heard is c.requires.taken c.listed.ensures.heard c.listed.ensures.notes)
    ∙ (λ i. bind (c.in-Is-entries.ensures.program i) (listed_ends path (beside_in path m k h) (number_at k h) (loaded_in k h))))

pub returns-in-Nothing-clause-sees : goal.returns-in-Nothing-clause-sees
returns-in-Nothing-clause-sees c =
    let path = c.args.path.now ++ c.args.second.now in
    rw c.in-Nothing.is (sees_nothing c.args.version path c.args.seat c.saw.new.heard c.args.notes.now c.set.new.self c.saw.ensures.counted note.Nothing c.set.ensures)

pub returns-in-Is-clause-sees : goal.returns-in-Is-clause-sees
returns-in-Is-clause-sees c =
    let path = c.args.path.now ++ c.args.second.now in
    rw c.in-Name.is
    (sees_name c.args.version path c.args.seat c.named.new.heard c.args.notes.now c.named.new.notes c.named.ensures.counted c.in-Name.element (face_unless_free c.record_at-inode.result.now) c.in-Is.found c.in-Is.ensures.slot
    c.named.ensures.heard c.named.ensures.notes)

pub returns-in-Is-entries-clause-sees : goal.returns-in-Is-entries-clause-sees
returns-in-Is-entries-clause-sees c =
    let path = c.args.path.now ++ c.args.second.now in
    rw c.in-Entries.is (sees_entries c.args.version path c.args.seat c.listed.new.heard c.args.notes.now c.listed.new.notes c.listed.ensures.counted note.Nothing c.listed.ensures.notes)

pub returns-in-Runs-clause-looks : goal.returns-in-Runs-clause-looks
returns-in-Runs-clause-looks c = (refl, sym c.in-Name.is, refl, refl)

pub returns-in-Runs-entries-clause-looks : goal.returns-in-Runs-entries-clause-looks
returns-in-Runs-entries-clause-looks c = (refl, sym c.in-Entries.is, refl, refl)
