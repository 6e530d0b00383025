use Rattle.inode_data.proofs.Lemmas.{◌≡◌, ℕ, Option, sym, subst, ap, ◌∙◌, look_up, name_direct, with_table, name_in_table, Second, block_at, bytes_at, answer_in, goes_bind, Goes, GuardState, BufferState, bind, fetched_goes, second-kept, missing, table_in, P, Located, Place, fetch_left, fetch_asked, fetch_block, take_left, take_asked, take_place}
use Rattle.inode_data.proofs.locate.LocateControl.next.Goals as goal

pub returns-in_err-number-in-Direct-clause-goes : goal.returns-in_err-number-in-Direct-clause-goes
returns-in_err-number-in-Direct-clause-goes c before =
    let m = c.in-Direct.take in
    rw (c.in-Direct.is, c.from_residual.ensures) (λ ready after. goes_bind (take_left m before) (take_left c.next.new.self c.args.hand.now) (name_direct c.in-Direct.i c.args.self.now.inode) (answer_in (take_asked m) c.args.answer.now c.args.hand.now)
    (c.in_err-number-in-Direct.ensures.goes before ready.0.0.0 after))

pub returns-in-None-clause-goes : goal.returns-in-None-clause-goes
returns-in-None-clause-goes c before =
    let m = c.in-NewTable.take in
    rw c.in-NewTable.is (λ ready after. goes_bind (take_left m before) (take_left c.next-in-NewTable.new.self c.args.hand.now) (with_table c.args.self.now.sizes c.in-NewTable.i c.args.self.now.inode)
    (answer_in (take_asked m) c.args.answer.now c.args.hand.now) (c.in-None.ensures.goes before ready.0.0.0 after))

pub returns-in_err-number-in-NewEntry-clause-goes : goal.returns-in_err-number-in-NewEntry-clause-goes
returns-in_err-number-in-NewEntry-clause-goes c before =
    let m = c.in-NewEntry.take in
    let did = c.in_err-number-in-NewEntry.ensures in
    let k = c.args.hand.now in
    let d = c.args.self.now.inode in
    let i = c.in-NewEntry.i in
    rw (c.in-NewEntry.is, c.from_residual-in_err-number-in-NewEntry.ensures) (λ ready after.
    let same : before.second ≡ k.second = second-kept (take_place m) before k ready.0.0.1 (sym (did.beside before after)) in
    subst (λ (o : Option (GuardState BufferState)). Goes (bind (take_left m before) (table_in i d before.second)) (answer_in (take_asked m) c.args.answer.now c.args.hand.now) (bind (take_left c.next-in-NewEntry.new.self k) (table_in i d o))) same
    (goes_bind (take_left m before) (take_left c.next-in-NewEntry.new.self k) (table_in i d before.second) (answer_in (take_asked m) c.args.answer.now c.args.hand.now) (did.goes before ready.0.0.0 after)))

pub returns-then-number-eq0-clause-goes : goal.returns-then-number-eq0-clause-goes
returns-then-number-eq0-clause-goes c before =
    let f = c.in-Table.fetch in
    let did = c.in_ok-next-in-Table.ensures in
    let k = c.args.hand.now in
    let d = c.args.self.now.inode in
    let sizes = c.args.self.now.sizes in
    let i = c.in-Table.i in
    let answer = answer_in (fetch_asked f) c.args.answer.now c.args.hand.now in
    rw c.in-Table.is (λ ready after.
    let went : Goes (bind (fetch_left f before) (look_up sizes i d (fetch_block f))) answer (look_up sizes i d (block_at Second k) (bytes_at Second k)) =
    subst (λ (p : Place). Goes (bind (fetch_left f before) (look_up sizes i d (fetch_block f))) answer (look_up sizes i d (block_at p k) (bytes_at p k))) (did.ends.2 ∙ ready.0.1)
    (fetched_goes f before k answer c.in_ok-next-in-Table.field-0 (look_up sizes i d) (did.goes before ready.0.0 after) did.ends) in
    subst (λ (p : P Located). Goes (bind (fetch_left f before) (look_up sizes i d (fetch_block f))) answer p)
    (missing sizes i d (block_at Second k) (bytes_at Second k) (sym c.number_at-number.ensures ∙ c.if-number-eq0.true) ∙ ap (λ (p : P (Option ℕ)). bind p (name_in_table i d (block_at Second k) (bytes_at Second k))) (sym (c.new-take.ensures.program k)))
    went)
