-- The result of a mount.
use Rattle.std.specs.Prelude.{◌≡◌, ◌≢◌, ℕ, false, List, [], None, replicate}
use Rattle.hart_core.specs.Vocabulary.{HasBytes, HasWholeBlocks, block_at, logged, recovered, sizes_of, IsOutsideLog, buffer_count, hart_count, unused_from, Open, IsPlaced, MountFault, DeviceFault, IsWellFormed, JudgesFault, fault_count_of, tree_in, AreFreed, AreNamed}
use Rattle.fs_machine.specs.Fresh.{fresh}
use Rattle.hart_core.specs.Harts.{HartsOf}

-- A disk that a mount has settled: it is a well-formed image of the same tree, its log is empty, and each node has a name. Outside the log
-- it is as recovery would leave it, but for the nodes that had no name: they are free, and so are their blocks. When each node had a name
-- before, each block is as recovery would leave it.
pub record IsSettled (old new : List (List ℕ)) : Type 0 where
  pub blocks : AreNamed old → (b : ℕ) → IsOutsideLog (sizes_of old) b → block_at new b ≡ recovered old b
  pub empty : logged new ≡ []
  pub sizes : sizes_of new ≡ sizes_of old
  pub well : IsWellFormed new
  pub tree : tree_in new ≡ tree_in old
  pub named : AreNamed new
  pub freed : AreFreed old new

module _ {D : Type 0} (contents : D → List (List ℕ)) (failures : D → ℕ) where
  -- Over this device, which has failed at no call, eight harts are idle. Nothing is cached, recorded or open. No
  -- inode is referred to but the root, which is every hart's directory.
  pub record Rests (device : D) (w : HartsOf D) : Type 0 where
    pub disk : IsSettled (contents device) (contents w.core.log.cache.device)
    -- its blocks are whole, and of bytes; and the log is in it
    pub whole : HasWholeBlocks (contents w.core.log.cache.device)
    pub bytes : HasBytes (contents w.core.log.cache.device)
    pub placed : IsPlaced (contents w.core.log.cache.device) (sizes_of (contents device))
    pub failures_are : failures w.core.log.cache.device ≡ failures device
    pub log : w.core.log ≡ record {
      cache = record { device = w.core.log.cache.device; seats = unused_from 0 buffer_count };
      sizes = sizes_of (contents device);
      group = [];
      members = replicate hart_count None;
      phase = Open;
    }
    pub tables : w.core.tables ≡ fresh
    pub runs : w.stopped ≡ false
    pub children : w.children ≡ replicate hart_count None
    pub idle : w.calls ≡ replicate hart_count None

  -- The device is handed back. It has failed only if that is the answer. It is as it was but for a recovery, or the
  -- freeing of a node, that the failure stopped.
  pub record HandsBack (device back : D) (fault : MountFault) : Type 0 where
    pub judges : JudgesFault (contents device) fault
    pub unwritten : fault ≢ DeviceFault → contents back ≡ contents device
    pub sizes : sizes_of (contents back) ≡ sizes_of (contents device)
    pub well : IsWellFormed (contents device) → IsWellFormed (contents back)
    pub tree : IsWellFormed (contents device) → tree_in (contents back) ≡ tree_in (contents device)
    pub failures_are : failures back ≡ fault_count_of fault (failures device)
