use Rattle.fs_layout.proofs.Lemmas.{ℕ, ◌≡◌, ◌∙◌, ap, drop, length, arith, flat_map, overwrite, u32_bytes, spell_log_head, log_head_of, length-u32_bytes, then_overwrite, front-overwrite, log_head_of-spell}
use Rattle.fs_layout.proofs.log_head.write_log_head.Goals as goal

written : (c : goal.After-put_u32s) → c.put_u32s.new.bytes ≡ overwrite c.args.block.now 0 (spell_log_head c.args.blocks.now)
written c =
    let n : ℕ = length c.args.blocks.now in
    then_overwrite c.args.block.now c.put_u32.new.bytes c.put_u32s.new.bytes (u32_bytes n) (flat_map u32_bytes c.args.blocks.now) 0 4
    c.put_u32.ensures c.put_u32s.ensures.bytes (omega (arith, length-u32_bytes n)) (omega arith)

pub returns-clause-bytes : goal.returns-clause-bytes
returns-clause-bytes c = written c

pub returns-clause-reads_back : goal.returns-clause-reads_back
returns-clause-reads_back c =
    let spelled = spell_log_head c.args.blocks.now in
    ap log_head_of (written c ∙ front-overwrite c.args.block.now spelled)
    ∙ log_head_of-spell c.args.blocks.now (drop (length spelled) c.args.block.now) c.requires c.put_u32s.ensures.fits
