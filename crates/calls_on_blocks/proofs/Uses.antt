-- The operations of each call that is served: each acts at one moment below.
use Rattle.calls_on_blocks.proofs.Vocabulary.{◌≡◌, ◌<◌, ℕ, true, List, [], length, Option, inl, inr, sym, subst, Super, IsBytes, Call, Reply, hart_count, Ret, Do, Uses, P, machine, program, HasInodes, IsMade, is_served, InodeType, Take, UnlockInode, Forget, Store, Fill, Enter, Clear, Empty, Install, StatFile, ReadFile, JoinFile, WriteFile, Shut, SetDirectory, Lend, LendDirectory, Release, Join, Leave, Say}
use Rattle.inode_machine.specs.World.Op.{UpStart, Up, WalkDown, Down, Free, Claim, Slot, LockFile, LockOpen, CheckFile, Double}
use Rattle.inode_machine.specs.World as above
use Rattle.plain_tree.specs.declared.call.Call.TheVariants as calls
use Rattle.call_programs.specs.Asks.{AsksSo, Before, IsNew, IsPieceOf, May, after, fresh, holding}
use Rattle.call_programs.proofs.Calls.{calls_ask}
use Rattle.calls_on_blocks.proofs.Operations as ops
use Rattle.calls_on_blocks.proofs.Operations.{Within}
use Rattle.calls_on_blocks.proofs.Pieces.{bytes_are, piece_bytes, piece_some}

pub is_made : (inode_type : InodeType) → IsNew inode_type → IsMade inode_type
is_made inode_type (inl is) = subst IsMade (sym is) tt
is_made inode_type (inr is) = subst IsMade (sym is) tt

-- what is written is bytes, at least one
pub is_bytes : (call : Call) (b : List ℕ) → is_served call ≡ true → IsPieceOf call b → (0 < length b) × IsBytes b
is_bytes (calls.Write fd bytes) b e is =
    subst (λ (z : List ℕ). (0 < length z) × IsBytes z) (sym is.1.2) (piece_some bytes is.1.0 is.0 is.1.1, piece_bytes bytes is.1.0 (bytes_are bytes e))
is_bytes call b e is = absurd is

module _ (sizes : Super) (h : ℕ) (lt : h < hart_count) (inodes : HasInodes sizes) (call : Call) (e : is_served call ≡ true) where
  within : (s : Before) (op : above.Op) (m : above.Answer op → Option above.Mark) (k : above.Answer op → P Reply) → May sizes.version call s op m k → Within sizes h op m
  within s (Take n looking) m k may = ops.takes sizes h lt n looking m
  within s (UnlockInode n) m k may = ops.gives sizes h lt n m
  within s (UpStart absolute) m k may = ops.starts sizes h lt absolute m
  within s (Up n) m k may = ops.ups sizes h lt n m
  within s (WalkDown n) m k may = ops.walk_downs sizes h lt n m
  within s (Down n) m k may = ops.downs sizes h lt n m
  within s (Free n) m k may = ops.frees sizes h lt n m
  within s (Forget n) m k may = ops.forgets sizes h lt n m
  within s (Claim inode_type) m k may = ops.claims sizes h lt inodes inode_type (is_made inode_type may.0) m
  within s (Store n count) m k may = ops.stores sizes h lt n count m
  within s (Fill n d) m k may = ops.fills sizes h lt n d m
  within s (Enter d name n) m k may = ops.enters sizes h lt d name n m
  within s (Clear d name) m k may = ops.clears sizes h lt d name m
  within s (Empty n) m k may = ops.empties sizes h lt n m
  within s Slot m k may = ops.places_taken sizes h lt m
  within s (Install f inode_type) m k may = ops.installs sizes h lt f inode_type m
  within s (StatFile fd) m k may = ops.stats sizes h lt fd m
  within s (LockFile fd) m k may = ops.locks_to_read sizes h lt fd m
  within s (ReadFile fd n offset count) m k may = ops.reads sizes h lt fd n offset count m
  within s (CheckFile fd) m k may = ops.checks sizes h lt fd m
  within s (JoinFile fd) m k may = ops.joins_files sizes h lt fd m
  within s (LockOpen fd n) m k may = ops.locks_to_write sizes h lt fd n m
  within s (WriteFile fd n offset bytes) m k may = let is = is_bytes call bytes e may.0 in ops.writes sizes h lt fd n offset bytes is.0 is.1 m
  within s (Double fd) m k may = ops.doubles sizes h lt fd m
  within s (Shut fd) m k may = ops.shuts sizes h lt fd m
  within s (SetDirectory n) m k may = ops.settles sizes h lt n m
  within s (Lend child from) m k may = ops.lends sizes h lt child from m
  within s (LendDirectory child) m k may = ops.lends_directory sizes h lt child m
  within s (Release child) m k may = ops.releases sizes h lt child m
  within s Join m k may = ops.joins sizes h lt m
  within s Leave m k may = ops.leaves sizes h lt m
  within s Say m k may = ops.says sizes h lt m

  uses : (s : Before) (p : P Reply) → AsksSo sizes.version call s p → Uses (machine sizes.version) (Within sizes h) p
  uses s (Ret r) asks = tt
  uses s (Do op m k) asks = (within s op m k asks.0.1, λ a. uses (after sizes.version call s op m k asks.0 a) (k a) (asks.1 a))

  pub served_uses : Uses (machine sizes.version) (Within sizes h) (program sizes.version call)
  served_uses = uses (holding [] fresh []) (program sizes.version call) (calls_ask sizes.version call)
