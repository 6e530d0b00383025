use Rattle.image_tree.proofs.Lemmas.{◌∙◌, sym, ap, ℕ, List, arith, not, is_node, node_is}
use Rattle.image_tree.proofs.Vocabulary.{Super, false_from_ne_true}
use Rattle.image_tree.proofs.EntryLemmas.{node_flag}
use Rattle.damage_places.proofs.entries.is_node_number.Goals as goal
use Rattle.damage_places.proofs.entries.is_node_number.Goals.{then-n-eq0-via-then-n-eq0, then-n-eq0-via-else-n-eq0+then-layout-n}

pub returns-then-n-eq0-clause-node : goal.returns-then-n-eq0-clause-node
returns-then-n-eq0-clause-node g c =
    let disk : List (List ℕ) = g.D.Device.contents c.args.device.now in
    sym (false_from_ne_true (is_node disk c.args.n) (λ t.
    let is = node_is disk c.args.n t in
    let low = is.low in
    let bound = is.bound in
    let s = ap (λ (z : Super). z.ninodes) c.requires.layout.sizes in
    let f = c.from-n.ensures in
    elim c.then-n-eq0.branch [
      | then-n-eq0-via-then-n-eq0 w ↦ (let z = w.if-n-eq0.true in absurd (omega arith))
      | then-n-eq0-via-else-n-eq0+then-layout-n w ↦ (let z = w.if-layout-n.true in absurd (omega arith))
    ]))

pub returns-clause-node : goal.returns-clause-node
returns-clause-node g c =
    let disk : List (List ℕ) = g.D.Device.contents c.args.device.now in
    let f = c.from-n.ensures in
    ap not c.is_free.ensures
    ∙ node_flag disk c.args.layout.now c.from-n.result c.in_ok-inode.inode c.requires.layout (omega arith) (omega arith) c.in_ok-inode.ensures.inode
    ∙ ap (is_node disk) f
