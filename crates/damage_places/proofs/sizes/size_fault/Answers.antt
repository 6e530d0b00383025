use Rattle.image_tree.proofs.Lemmas.{◌∙◌, ap, sym, ℕ, List, arith, numbers_of, twelfth_of_node, free_no_size}
use Rattle.damage_places.proofs.InodeLemmas.{hole_here, misfit_here, node_here}
use Rattle.damage_places.proofs.sizes.size_fault.Goals as goal

pub returns-then-is_free-clause-fault : goal.returns-then-is_free-clause-fault
returns-then-is_free-clause-fault g c =
    free_no_size c.args.layout.now.version (g.D.Device.contents c.args.device.now) c.args.i c.in_ok-inode.inode c.in_ok-inode.ensures.inode (sym c.is_free.ensures ∙ c.if-is_free.true)

pub returns-in-Some-clause-fault : goal.returns-in-Some-clause-fault
returns-in-Some-clause-fault g c =
    let disk : List (List ℕ) = g.D.Device.contents c.args.device.now in
    let node = node_here disk c.args.layout.now c.args.i c.in_ok-inode.inode c.requires.layout c.requires.low c.requires.bound c.in_ok-inode.ensures.inode (sym c.is_free.ensures ∙ c.if-is_free.false) in
    misfit_here c.args.layout.now.version disk c.args.i c.in_ok-inode.inode c.in-Some.fault c.in_ok-inode.ensures.inode node c.in-Some.ensures

pub load_numbers-requires-clause-bound : goal.load_numbers-requires-clause-bound
load_numbers-requires-clause-bound g c =
    rw c.load_inode.ensures.device.contents
    (twelfth_of_node (g.D.Device.contents c.args.device.now) c.args.layout.now c.args.i c.in_ok-inode.inode c.requires.layout c.requires.numbers c.requires.low
    c.requires.bound c.in_ok-inode.ensures.inode (sym c.is_free.ensures ∙ c.if-is_free.false) (omega arith))

pub returns-in-Some-first_hole-clause-fault : goal.returns-in-Some-first_hole-clause-fault
returns-in-Some-first_hole-clause-fault g c =
    let disk : List (List ℕ) = g.D.Device.contents c.args.device.now in
    let node = node_here disk c.args.layout.now c.args.i c.in_ok-inode.inode c.requires.layout c.requires.low c.requires.bound c.in_ok-inode.ensures.inode (sym c.is_free.ensures ∙ c.if-is_free.false) in
    hole_here c.args.layout.now.version disk c.args.i c.in_ok-inode.inode c.as_slice.result.now c.in-Some-first_hole.block c.in_ok-inode.ensures.inode node c.in_default.ensures
    (c.as_slice.ensures.value ∙ c.in_ok-numbers.ensures.numbers ∙ ap (λ (d : List (List ℕ)). numbers_of d c.in_ok-inode.inode) c.load_inode.ensures.device.contents)
    c.in-Some-first_hole.ensures
