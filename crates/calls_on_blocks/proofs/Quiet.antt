-- A world in which nobody is in a transaction, and the disks that recovery would leave as it is seen.
use Rattle.calls_on_blocks.proofs.Vocabulary.{◌≡◌, ℕ, List, length, sym, subst, ◌∙◌, IsNamedPart, tree_of, settle, TreeData, IsWellFormed, tree_in, IsRecoveredSo, joined, Inv, Blocks as World, log_of, Shows, nobody_joined, quiet_worlds_are_images}
use Rattle.fs_machine.specs.Shown.{seen_of}
use Rattle.inode_machine.specs.World as above

pub quiet_stands : (r : World) (w : above.World) → Shows r w → Inv w → joined (log_of r).members ≡ 0 → (disk : List (List ℕ)) → length disk ≡ length (log_of r).contents
    → IsRecoveredSo (log_of r).sizes (seen_of (log_of r)) disk → IsWellFormed disk × IsNamedPart (settle w.all) (tree_of (tree_in disk))
quiet_stands r w shows inv none disk long so =
    let q = quiet_worlds_are_images r w shows inv (λ h lt. shows.members h lt ∙ nobody_joined (log_of r).members h none) in
    let same = q.1 disk long so in
    (same.0, subst (λ (t : TreeData). IsNamedPart (settle w.all) (tree_of t)) (sym same.1) q.2)
