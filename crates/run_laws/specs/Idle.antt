-- What a hart without a call has: its open files and its current directory, and nothing that a call has begun.
use Rattle.std.specs.Prelude.{◌≡◌, ◌≢◌, ℕ, ◌+◌, ◌<◌, ◌≤◌, ◌==◌, false, List, Some, None, count_by, get_or, slice_get}
use Rattle.run_laws.specs.Vocabulary.{Call, hart_count, one_if, sum_below, EventOf, fresh, run, Taken, TablesState, is_file_of, owed, references_of, Outside, reference_limit, World, Shows, loaded, first, block_calls, Came, Event, AreIdle, HartsOf, shared_of, ShowsImage, IsHistory, IsMounted, WorldOf}
use Rattle.fs_machine.specs.Steps.{State}

-- ---- one hart

-- Hart h has begun nothing. It holds no inode for a link, and so has raised no link count for a name to come. It
-- refers to its current directory, once, and to no other inode: its open files refer to theirs. It keeps no inode, as
-- it keeps one that it has locked, has made or has to free; and no place for an open file.
pub record HasBegunNothing (h : ℕ) (w : World) : Type 0 where
  pub link : w.all.holds h ≡ None
  pub references : (n : ℕ) → (w.harts h).refs n ≡ one_if ((w.desks h).directory == n)
  pub inodes : (n : ℕ) → w.keeper n ≢ Some h
  pub place : (w.desks h).hand ≡ None

-- ---- all harts

-- The references to each inode are counted: one for each open file of it, and those that each hart has.
abbrev pub CountsReferences : TablesState → World → Type 0
CountsReferences t w = (n : ℕ) → references_of n t ≡ count_by (is_file_of n) t.files + sum_below hart_count (λ h. (w.harts h).refs n)

-- Nothing remains of any call. Open files and current directories account for all references to each inode. No place
-- is taken for a file that isn't open. The blocks as they are seen are a well-formed image, whose link counts no link
-- has raised.
pub record NothingIsLeft (s : State) : Type 0 where
  pub references : (n : ℕ) → references_of n s.tables ≡ owed n s.tables
  pub places : (k : ℕ) → slice_get s.tables.files k ≢ Some Taken
  pub image : ShowsImage s.log

module _ {D : Type 0} (contents : D → List (List ℕ)) (failures : D → ℕ) where
  -- the whole inodes to which a history leads, of a run of this world
  abbrev pub inodes_after : WorldOf D → List (EventOf Call Outside) → World
  inodes_after w history =
      let now = w.harts.core.log.cache.device in
      (run (block_calls w.sizes) history (fresh (block_calls w.sizes) (first (contents now) (failures now)))).world.seen

  -- what is said of idle harts, with these whole inodes beside them
  pub record IdleHartsAreThrough (new : HartsOf D) (w : World) : Type 0 where
    -- the tables show them, and count what open files and harts refer to; no hart refers to an inode more than eight times
    pub shown : let t = (shared_of contents failures new).tables in Shows t w (loaded t)
    pub counts : CountsReferences (shared_of contents failures new).tables w
    pub few : (h n : ℕ) → h < hart_count → (w.harts h).refs n ≤ reference_limit
    -- a hart without a call
    pub idle : (h : ℕ) → get_or new.calls h None ≡ None → HasBegunNothing h w
    -- if no hart has one; and then no failure of the device has stopped them
    pub all : AreIdle new.calls → (new.stopped ≡ false) × NothingIsLeft (shared_of contents failures new)

  -- So it is after each history of a run, from a world as a mount left it.
  abbrev pub IdleHartsHaveBegunNothing : WorldOf D → Type 0
  IdleHartsHaveBegunNothing w =
      (device : D) (events : List Event) (came : List Came) (new : HartsOf D) (history : List (EventOf Call Outside))
      → IsMounted contents failures device w → IsHistory contents failures w.sizes w.harts events came new history
      → IdleHartsAreThrough new (inodes_after w history)
