use Rattle.fs_layout.proofs.Lemmas.{◌≡◌, ◌∙◌, ap, drop, length, overwrite, spell_super, super_of, front-overwrite, super_of-spell}
use Rattle.fs_layout.proofs.superblock.write_super.Goals as goal

pub returns-clause-reads_back : goal.returns-clause-reads_back
returns-clause-reads_back c =
    let s = c.args.superblock.now in
    let wrote : c.put_u32s.new.bytes ≡ overwrite c.args.block.now 0 (spell_super s) = rw (← c.magic.ensures) c.put_u32s.ensures.bytes in
    ap (super_of s.version) (wrote ∙ front-overwrite c.args.block.now (spell_super s))
    ∙ super_of-spell s (drop (length (spell_super s)) c.args.block.now) c.put_u32s.ensures.fits.1
