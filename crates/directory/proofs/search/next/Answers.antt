use Rattle.directory.proofs.Lemmas.{P, FetchedBlock, ◌∙◌, ap, arith, Dinode, fetch_block, index_at, record_in, search_some}
use Rattle.directory.proofs.search.next.Goals as goal

pub returns-clause-ready : goal.returns-clause-ready
returns-clause-ready c none = (omega arith, c.new-fetch.ensures.ready c.args.hand.now none, c.requires.loaded)

pub returns-clause-program : goal.returns-clause-program
returns-clause-program c aim =
    let h = c.args.hand.now in
    let k = c.args.seat in
    let program = c.new-fetch.ensures.program h ∙ ap (λ (d : Dinode). let p : P FetchedBlock = fetch_block d c.args.block in p) c.record_at.ensures in
    search_some c.args.version aim (record_in k h) c.args.block (index_at k h) c.args.left _ c.if-left-eq0.false program
