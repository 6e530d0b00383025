use Rattle.inode_data.proofs.Lemmas.{ap, ◌∙◌, store, freed, number_in}
use Rattle.inode_data.proofs.free_inode.store_free.Goals as goal

pub returns-clause-program : goal.returns-clause-program
returns-clause-program c =
    let e = c.args.emptying in
    c.with-store.ensures.program ∙ ap (store e.sizes.inodestart (number_in e.seat c.args.hand.now)) (c.free-inode.ensures ∙ ap freed c.record_at.ensures)
