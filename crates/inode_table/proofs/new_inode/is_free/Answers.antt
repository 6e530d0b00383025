use Rattle.fs_layout.specs.Widths.{inode_len, inodes_per_block}
use Rattle.inode_table.proofs.Lemmas.{rules, ◌≡◌, ◌+◌, ◌*◌, ◌%◌, w16, sym, ◌∙◌, ap, arith, cast_signed, u16_at, dinode_at, u16_at-part}
use Rattle.inode_table.proofs.new_inode.is_free.Goals as goal

pub returns-then-number-ninodes : goal.returns-then-number-ninodes
returns-then-number-ninodes c =
    let block = c.args.block.now in
    let at = inode_len * (c.args.number % inodes_per_block) in
    let same : at + 0 ≡ at = omega arith in
    let kind : c.kind_at.result ≡ (dinode_at (c.args.number % inodes_per_block) block).kind = c.kind_at.ensures ∙ ap (cast_signed w16) (sym (u16_at-part block at inode_len 0 (omega arith) ∙ ap (u16_at block) same)) in
    search (rules, kind)
