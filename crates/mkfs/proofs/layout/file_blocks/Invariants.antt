use Rattle.mkfs.proofs.Lemmas.{◌≡◌, ◌≤◌, ◌+◌, ◌*◌, drop, contents_of, file_blocks}
use Rattle.mkfs.proofs.layout.file_blocks.Given as goal

abbrev pub invariant-loop-file : goal.invariant-loop-file
invariant-loop-file l =
    (l.blocks + file_blocks (contents_of (drop l.file-index l.files)) ≡ file_blocks (contents_of l.files)) × (l.blocks ≤ 269 * l.file-index)
