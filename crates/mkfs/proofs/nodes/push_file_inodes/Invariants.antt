use Rattle.mkfs.proofs.Lemmas.{◌≡◌, ◌≤◌, ◌+◌, ◌*◌, ◌++◌, drop, map, flat_map, spell_dinode, contents_of, file_node, inodes_from}
use Rattle.mkfs.proofs.nodes.push_file_inodes.Given as goal

abbrev pub invariant-loop-file : goal.invariant-loop-file
invariant-loop-file l =
    (l.at ≤ l.first + 269 * l.file-index)
    × (l.image.items ++ flat_map spell_dinode (inodes_from l.at (map file_node (contents_of (drop l.file-index l.files))))
    ≡ l.fn.image.items ++ flat_map spell_dinode (inodes_from l.first (map file_node (contents_of l.files))))
