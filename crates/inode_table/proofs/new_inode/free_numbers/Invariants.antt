use Rattle.inode_table.proofs.Lemmas.{◌≡◌, ◌*◌, ◌≤◌, length, take, inodes_per_block, free_among}
use Rattle.inode_table.proofs.new_inode.free_numbers.Given as goal

abbrev pub invariant-loop-k : goal.invariant-loop-k
invariant-loop-k l = record {
  room : length l.numbers ≡ inodes_per_block;
  few : l.count ≤ l.k;
  among : take l.count l.numbers ≡ free_among l.ninodes (inodes_per_block * l.before) l.block l.k;
}
