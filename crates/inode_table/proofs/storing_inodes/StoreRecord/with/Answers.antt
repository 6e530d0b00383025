use Rattle.inode_table.proofs.Lemmas.{ap, ◌∙◌, Dinode, Inode, record_of, store, inode_in, number_in, recorded-in, loaded-there, stands}
use Rattle.inode_table.proofs.storing_inodes.StoreRecord.with.Goals as goal

pub returns-clause-program : goal.returns-clause-program
returns-clause-program c =
    let h = c.args.hand.now in
    let k = c.args.seat in
    let is = ap (inode_in k) c.set_record.ensures ∙ recorded-in k c.args.inode h (loaded-there k h c.requires.loaded) in
    c.new.ensures.program ∙ (ap (λ (v : Inode). store c.args.inodestart v.number (record_of v)) is
    ∙ ap (λ (d : Dinode). store c.args.inodestart (number_in k h) d) (stands c.args.inode (inode_in k h)))

pub returns-clause-record : goal.returns-clause-record
returns-clause-record c =
    let h = c.args.hand.now in
    let k = c.args.seat in
    ap (λ (v : Inode). record_of v) (ap (inode_in k) c.set_record.ensures ∙ recorded-in k c.args.inode h (loaded-there k h c.requires.loaded)) ∙ stands c.args.inode (inode_in k h)
