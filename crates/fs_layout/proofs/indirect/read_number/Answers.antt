use Rattle.fs_layout.proofs.Lemmas.{◌≡◌, ◌+◌, ◌*◌, ◌∙◌, ap, sym, arith, u32_at, get_or-u32s_at}
use Rattle.fs_layout.proofs.indirect.read_number.Goals as goal

pub returns : goal.returns
returns c =
    let at : 4 * c.args.place ≡ 0 + 4 * c.args.place = omega arith in
    c.u32_in.ensures ∙ ap (u32_at c.args.block.now) at ∙ sym (get_or-u32s_at 256 c.args.block.now 0 c.args.place c.requires)
