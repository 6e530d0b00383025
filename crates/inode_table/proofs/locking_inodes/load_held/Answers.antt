use Rattle.inode_table.proofs.Lemmas.{◌∙◌, sym, ap, ℕ, Loaded, P, load, Inode, inode_in, number_in, not-loaded}
use Rattle.inode_table.proofs.locking_inodes.load_held.Goals as goal

pub returns-clause-program : goal.returns-clause-program
returns-clause-program c =
    let h = c.args.hand.now in
    let k = c.args.seat in
    c.new.ensures.program h ∙ ap (λ (n : ℕ). let p : P Loaded = load c.args.inodestart n in p) (c.number.ensures ∙ ap (λ (v : Inode). v.number) c.inode.ensures)
    ∙ sym (not-loaded c.args.inodestart (number_in k h) (inode_in k h).content (sym c.is_loaded.ensures ∙ c.if-is_loaded.false))
