-- Whose each block becomes when one is put: for the proof alone.
use Rattle.std.specs.Prelude.{ℕ, List, [], Bool, false, ◌&&◌, ◌||◌, not, ◌==◌, nat_lt, if◌then◌else◌, Option, Some, None}
use Rattle.inodes_on_blocks.specs.Vocabulary.{is_marked, named_by, last, is_hart}
use Rattle.inodes_on_blocks.specs.Holds.{owner_upto}

-- By block: the inode whose it is, and whether its bit is set though it is no inode's. Then the hart that has set
-- that, until an inode names the block.
pub record Owners : Type 0 where
  pub owner : ℕ → ℕ
  pub left : ℕ → Bool
  pub taken : ℕ → Option ℕ

-- After hart h has put the bitmap: a block whose bit it set is in its hand, one whose bit it cleared is nobody's.
abbrev pub bits_put : ℕ → (old new : List (List ℕ)) → Owners → Owners
bits_put h old new o = record {
  owner = λ b. if is_marked new b then o.owner b else 0;
  left = λ b. if is_marked new b then o.left b || not (is_marked old b) else false;
  taken = λ b. if is_marked new b then (if is_marked old b then o.taken b else Some h) else None;
}

-- the inode, of those whose locks hart h has, that names a block
abbrev pub named_of : (lock : ℕ → Option ℕ) → ℕ → List (List ℕ) → ℕ → ℕ
named_of lock h disk = owner_upto (λ i. if is_hart (lock i) h then named_by disk i else []) (last disk)

-- what the hart had taken, and one of its inodes names now
abbrev pub is_named : (lock : ℕ → Option ℕ) → ℕ → List (List ℕ) → Owners → ℕ → Bool
is_named lock h new o b = is_hart (o.taken b) h && nat_lt 0 (named_of lock h new b)

-- After it has put an inode: what it had taken, and that inode names, is the inode's.
abbrev pub inode_put : (lock : ℕ → Option ℕ) → ℕ → (new : List (List ℕ)) → Owners → Owners
inode_put lock h new o = record {
  owner = λ b. if is_named lock h new o b then named_of lock h new b else o.owner b;
  left = λ b. if is_named lock h new o b then false else o.left b;
  taken = λ b. if is_named lock h new o b then None else o.taken b;
}

-- after a put before the bitmap, of it, or after it, with `bitmap` as its block
abbrev pub owners_put : (lock : ℕ → Option ℕ) → (h bitmap b : ℕ) → (old new : List (List ℕ)) → Owners → Owners
owners_put lock h bitmap b old new o = if b == bitmap then bits_put h old new o else (if nat_lt b bitmap then inode_put lock h new o else o)
