use Rattle.mkfs.proofs.Lemmas.{◌≡◌, ◌≤◌, ◌+◌, ◌*◌, ◌++◌, drop, map, contents_of, data_from, file_node}
use Rattle.mkfs.proofs.nodes.push_files.Given as goal

abbrev pub invariant-loop-file : goal.invariant-loop-file
invariant-loop-file l =
    (l.at ≤ l.first + 269 * l.file-index)
    × (l.image.items ++ data_from l.at (map file_node (contents_of (drop l.file-index l.files)))
    ≡ l.fn.image.items ++ data_from l.first (map file_node (contents_of l.files)))
