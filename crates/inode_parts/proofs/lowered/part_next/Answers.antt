use Rattle.inode_parts.proofs.Lemmas.{◌≡◌, ℕ, List, ◌++◌, length, take, drop, sym, ap, subst, ◌∙◌, arith, append-nil, drop_all, take_all, Goes, left_after, answer_in, text_in, handed, read_file_asked, read_file_left, part_left_after, heard_if, Part, read_after, reads}
use Rattle.inode_parts.specs.declared.part.InodePart.TheVariants as part
use Rattle.inode_parts.proofs.lowered.part_next.Goals as goal

-- the buffer has its new bytes
filled_so : (new old : List ℕ) (len : ℕ) → length new ≡ length old → len ≡ length old → take len (new ++ drop (length new) old) ≡ new
filled_so new old len same is =
    ap (λ (behind : List ℕ). take len (new ++ behind)) (drop_all (length new) old (omega arith))
    ∙ ap (take len) (append-nil new)
    ∙ take_all len new (omega arith)

pub returns-in-Read-clause-goes : goal.returns-in-Read-clause-goes
returns-in-Read-clause-goes c before =
    let read = c.in-ReadFile.read in
    let buf = c.in-Read.buf in
    let new = c.next.new.text in
    let m = c.args.notes.now in
    let h = c.args.hand.now in
    let q = c.next.new.self in
    let o = heard_if c.next.result c.next.new.heard in
    let answer = answer_in (read_file_asked read) c.args.answer.now h in
    let value = c.as_mut_slice.ensures.value in
    let old = ap length value in
    let same : length new ≡ length buf.items = omega (arith, old) in
    let text = filled_so new buf.items buf.len same (omega arith) in
    rw (c.in-ReadFile.is, c.in-Read.is) (λ ready after.
    subst (λ (t : List ℕ). Goes (read_file_left buf.items read before) answer (part_left_after t m o (part.ReadFile q) h)) (sym text)
    (subst (λ (r : Part). Goes (read_file_left buf.items read before) answer r) (read_after new m o q h)
    (subst (λ (t : List ℕ). Goes (read_file_left t read before) answer (left_after (read_file_left new) (handed new m) o q h)) value (c.next.ensures.goes m before ready after))))

pub returns-in-Read-clause-under : goal.returns-in-Read-clause-under
returns-in-Read-clause-under c v op start before =
    let path = text_in c.args.call.now in
    let m = c.args.notes.now in
    let h = c.args.hand.now in
    rw c.in-ReadFile.is (λ under ready after.
    reads v path start before h m m (heard_if c.next.result c.next.new.heard) c.in-ReadFile.read c.next.new.self (λ fd n offset count amid. c.next.ensures.leaves v path m fd n offset count start.hand before amid ready after) op under)
