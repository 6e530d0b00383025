use Rattle.image_tree.proofs.Lemmas.{◌∙◌, ap, sym, ℕ, List, arith, numbers_of, iff_false, held, refuted, twelfth_of_node, free_no_size, unfit_no_size, size_told}
use Rattle.image_tree.proofs.sizes.has_good_size.Goals as goal

pub returns-then-is_free-clause-good : goal.returns-then-is_free-clause-good
returns-then-is_free-clause-good g c =
    held _ (free_no_size c.args.layout.now.version (g.D.Device.contents c.args.device.now) c.args.i c.in_ok-inode.inode c.in_ok-inode.ensures.inode (sym c.is_free.ensures ∙ c.if-is_free.true))

pub returns-then-not-is_fitting-clause-good : goal.returns-then-not-is_fitting-clause-good
returns-then-not-is_fitting-clause-good g c =
    refuted _ (unfit_no_size (g.D.Device.contents c.args.device.now) c.args.layout.now c.args.i c.in_ok-inode.inode c.requires.layout c.requires.low c.requires.bound
    c.in_ok-inode.ensures.inode (sym c.is_free.ensures ∙ c.if-is_free.false) (iff_false c.is_fitting.ensures c.if-not-is_fitting.true))

pub load_numbers-requires-clause-bound : goal.load_numbers-requires-clause-bound
load_numbers-requires-clause-bound g c =
    rw c.load_inode.ensures.device.contents
    (twelfth_of_node (g.D.Device.contents c.args.device.now) c.args.layout.now c.args.i c.in_ok-inode.inode c.requires.layout c.requires.numbers c.requires.low
    c.requires.bound c.in_ok-inode.ensures.inode (sym c.is_free.ensures ∙ c.if-is_free.false) (omega arith))

pub returns-clause-good : goal.returns-clause-good
returns-clause-good g c =
    let disk : List (List ℕ) = g.D.Device.contents c.args.device.now in
    size_told disk c.args.layout.now c.args.i c.in_ok-inode.inode c.requires.layout c.requires.low c.requires.bound c.in_ok-inode.ensures.inode
    (sym c.is_free.ensures ∙ c.if-is_free.false) (c.is_fitting.ensures.0 c.if-not-is_fitting.false) c.has_blocks.result c.as_slice.result.now
    (c.as_slice.ensures.value ∙ c.in_ok-numbers.ensures.numbers ∙ ap (λ (d : List (List ℕ)). numbers_of d c.in_ok-inode.inode) c.load_inode.ensures.device.contents)
    c.has_blocks.ensures
