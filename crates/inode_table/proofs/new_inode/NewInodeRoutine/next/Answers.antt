use Rattle.inode_table.proofs.Lemmas.{◌≡◌, ◌+◌, ◌-◌, ◌∙◌, sym, ap, subst, ℕ, Option, Bool, Some, IsSome, arith, GuardState, BufferState, P, Claims, NoPlace, ClaimResult, make_in, new_from, rest_of, Looking, Made, Hand, reference_at, answer_in, claimed_by, Is, block_in, bytes_in, first-beside, reference-beside, no-place}
use Rattle.inode_table.proofs.new_inode.NewInodeRoutine.next.Goals as goal

-- what follows a claim, by the buffer
abbrev made_by : Looking → ClaimResult → Option (GuardState BufferState) → P Made
made_by l answer o = make_in (rest_of l) l.kind (block_in o) (bytes_in o) answer

pub returns-in-Number-clause-goes : goal.returns-in-Number-clause-goes
unfolding answer_in
returns-in-Number-clause-goes c before =
    let h = c.args.hand.now in
    rw (c.in-Look.is, c.in-Number.is) (λ ready after.
    ap (made_by c.in-Look.looking (Claims c.in-Number.number)) (sym (ap (λ (h : Hand). h.first) after ∙ first-beside c.in-Look.seat (Some c.in-Number.number) before)))

pub returns-in-Is-clause-goes : goal.returns-in-Is-clause-goes
unfolding answer_in
returns-in-Is-clause-goes c before =
    let h = c.args.hand.now in
    let l = c.in-Look.looking in
    rw (c.in-Look.is, c.in-Is.is) (λ ready after.
    let is = no-place c.in-Look.seat c.in-Is.field-0 before h after in
    ap (λ (b : Bool). made_by l (claimed_by (Is b)) before.first) is.0 ∙ ap (made_by l NoPlace) (sym (ap (λ (h : Hand). h.first) is.1)))

pub returns-then-looking-eq0-clause-goes : goal.returns-then-looking-eq0-clause-goes
unfolding answer_in
returns-then-looking-eq0-clause-goes c before =
    rw (c.in-Look.is, c.in-Nothing.is) (λ ready after. c.none_left.ensures.program c.args.hand.now)

pub returns-else-looking-eq0-clause-goes : goal.returns-else-looking-eq0-clause-goes
unfolding answer_in
returns-else-looking-eq0-clause-goes c before =
    let h = c.args.hand.now in
    let l = c.in-Look.looking in
    let less : l.left - 1 + 1 ≡ l.left = omega arith in
    rw (c.in-Look.is, c.in-Nothing.is) (λ ready after.
    sym (c.look_at.ensures.program h
    ∙ ap (λ (l : Looking). let p : P Made = new_from (l.left + 1) l.kind l.sizes l.before in p) c.after.ensures
    ∙ ap (λ (n : ℕ). let p : P Made = new_from n l.kind l.sizes (l.before + 1) in p) less))

pub returns-else-looking-eq0-clause-ready : goal.returns-else-looking-eq0-clause-ready
returns-else-looking-eq0-clause-ready c =
    let h = c.args.hand.now in
    let k = c.in-Look.seat in
    let came = rw (c.in-Look.is, c.in-Nothing.is) at c.requires.came in
    let before = came.0 in
    let ready = came.1 in
    let after = came.2 in
    c.look_at.ensures.ready h (ap (λ (h : Hand). h.first) after) (ap (λ (h : Hand). h.second) after ∙ ready.2)
    (ap (λ (h : Hand). reference_at k h) after ∙ reference-beside k before ∙ ready.0.2)
    (subst (λ (h : Hand). IsSome h.txn) (sym after) ready.3)
