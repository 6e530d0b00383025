use Rattle.image_tree.proofs.Lemmas.{once_moved, once_moved_back}
use Rattle.image_tree.proofs.names.are_distinct.Goals as goal

pub returns : goal.returns
returns c =
    let old = c.args.names.now in
    let new = c.sort_unstable.new.self in
    let moved = c.sort_unstable.ensures.permutation in
    (λ yes. once_moved_back old new moved (c.neighbours_differ.ensures.0 yes), λ once. c.neighbours_differ.ensures.1 (once_moved old new moved once))
