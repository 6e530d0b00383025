use Rattle.directory.proofs.Lemmas.{◌≡◌, ◌≤◌, ◌++◌, length, used_in}
use Rattle.directory.proofs.index.raise.Given as goal

abbrev pub invariant-loop-place : goal.invariant-loop-place
invariant-loop-place l = record {
  had : l.had ≡ length l.fn.index.slots;
  blocks : l.index.blocks ≡ l.fn.index.blocks;
  slots : l.index.slots ≡ l.fn.index.slots ++ used_in l.version l.k l.place l.block;
  few : length l.index.slots ≤ 64;
}
