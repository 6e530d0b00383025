use Rattle.std.specs.Prelude.{replicate}
use Rattle.std.proofs.lemmas.List.{length-replicate}
use Rattle.inode_data.specs.PartWriting.{IsWriting}
use Rattle.inode_data.proofs.Lemmas.{◌∙◌, ℕ, List, length, past_so, sym, subst}
use Rattle.inode_data.proofs.write_part.pass.Goals as goal

pub onward-requires : goal.onward-requires
onward-requires c =
    let past = c.passed-next.ensures (replicate c.args.count 0) (length-replicate c.args.count 0) in
    subst (λ (k : ℕ). IsWriting k c.passed-next.result) (sym past.left) past.ready

pub returns-clause-program : goal.returns-clause-program
returns-clause-program c bytes h is =
    c.onward.ensures.program bytes h ∙ past_so c.args.writing c.passed-next.result c.args.so_far bytes (c.passed-next.ensures bytes is)
