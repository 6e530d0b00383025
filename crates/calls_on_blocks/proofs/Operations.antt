-- The operations on whole inodes act at one moment below, within what their call's transactions may record.
use Rattle.calls_on_blocks.proofs.Vocabulary.{◌≡◌, ◌<◌, ℕ, List, length, Bool, true, Option, Super, Version, IsBytes, Cause, OpenFile, Name, hart_count, AtomicWithin, Stage, MoveStep as Step, TakesMove, Face, Query, Sight, InodeType, places, machine, JoinResult, LoanResult, LockResult, WriteResult as Wrote, Take, UnlockInode, UpStart, WalkDown, Forget, Store, Fill, Enter, Clear, Empty, Slot, Install, StatFile, ReadFile, JoinFile, WriteFile, Shut, SetDirectory, Lend, LendDirectory, Release, Join, Leave, Say, Laws, laws, ActsOnceAt, Labels, Keeps, HasInodes, IsMade, HasSpent, recorded_blocks, ActsWithin, ProgramsSpend, Spends, up_acts, up_start_acts, walk_down_acts, down_acts, forget_acts, join_file_acts, join_acts, leave_acts, lend_acts, lend_directory_acts, release_acts, claim_within, enter_within, fill_within, file_acts, open_acts, read_acts, slot_acts, install_acts, double_acts, close_acts, check_acts, say_acts, programs_spend, stat_acts, give_acts, settle_acts, take_acts, acts_within, store_within, clear_within, empty_within, free_within, write_within, handlers, layer}
use Rattle.inode_machine.specs.Rules as rules
use Rattle.inode_machine.specs.World as above
use Rattle.inode_machine.specs.World.Op.{Up, Down, Free, Claim, LockFile, LockOpen, CheckFile, Double}
use Rattle.calls_on_blocks.proofs.Beside.{within_beside}

-- ---- the history that explains the calls

abbrev pub history : Version → Labels
history v =
    record {
      Step = Step;
      Tree = Stage;
      places = places v;
      tree = above.stage_of;
      Takes = TakesMove v;
      Others = rules.Others;
      Clean = λ w. w.clean ≡ true;
    }

pub keeps : (v : Version) → Keeps (history v)
keeps v h a b xs o = record { same = o.same; rests = o.rests; opens = o.opens }

-- ---- the operations

module _ (sizes : Super) (h : ℕ) where
  abbrev labels : Labels
  labels = history sizes.version

  lawful : Laws (machine sizes.version)
  lawful = laws sizes.version

  kept : Keeps labels
  kept = keeps sizes.version

  -- an operation's program acts at one moment, if the hart's transaction has room for what it records
  abbrev pub Within : (op : above.Op) → (above.Answer op → Option above.Mark) → Type 1
  Within op m = AtomicWithin (machine sizes.version) (layer sizes) (handlers sizes) (recorded_blocks sizes.version labels) (λ r s. HasSpent sizes h s r.blocks) h op m

  recorded : (op : above.Op) (m : above.Answer op → Option above.Mark) → ActsWithin sizes labels h op m (λ c. handlers sizes c op) → Within op m
  recorded op m within = within_beside sizes (handlers sizes) h (recorded_blocks sizes.version labels) (λ r s. HasSpent sizes h s r) op m within

  module _ (lt : h < hart_count) where
    -- one that asks for no room
    acting : (op : above.Op) (m : above.Answer op → Option above.Mark) → Spends sizes op (λ c. handlers sizes c op) → ActsOnceAt sizes labels h op m (λ c. handlers sizes c op) → Within op m
    acting op m spends acts = recorded op m (acts_within sizes labels lawful kept h lt op m (λ c. handlers sizes c op) spends acts)

    spend : ProgramsSpend sizes
    spend = programs_spend sizes

    -- locks and references

    pub takes : (n : ℕ) (looking : Query) (m : Sight → Option above.Mark) → Within (Take n looking) m
    takes n looking m = acting (Take n looking) m (spend.take n looking) (take_acts sizes labels lawful kept h lt n looking m)

    pub gives : (n : ℕ) (m : Unit {0} → Option above.Mark) → Within (UnlockInode n) m
    gives n m = acting (UnlockInode n) m (spend.give n) (give_acts sizes labels lawful kept h lt n m)

    pub starts : (absolute : Bool) (m : Option ℕ → Option above.Mark) → Within (UpStart absolute) m
    starts absolute m = acting (UpStart absolute) m (spend.up_start absolute) (up_start_acts sizes labels lawful kept h lt absolute m)

    pub ups : (n : ℕ) (m : Bool → Option above.Mark) → Within (Up n) m
    ups n m = acting (Up n) m (spend.up n) (up_acts sizes labels lawful kept h lt n m)

    pub walk_downs : (n : ℕ) (m : Bool → Option above.Mark) → Within (WalkDown n) m
    walk_downs n m = acting (WalkDown n) m (spend.walk_down n) (walk_down_acts sizes labels lawful kept h lt n m)

    pub downs : (n : ℕ) (m : Bool → Option above.Mark) → Within (Down n) m
    downs n m = acting (Down n) m (spend.down n) (down_acts sizes labels lawful kept h lt n m)

    pub forgets : (n : ℕ) (m : Unit {0} → Option above.Mark) → Within (Forget n) m
    forgets n m = acting (Forget n) m (spend.forget n) (forget_acts sizes labels lawful kept h lt n m)

    -- records

    pub frees : (n : ℕ) (m : Unit {0} → Option above.Mark) → Within (Free n) m
    frees n m = recorded (Free n) m (free_within sizes labels lawful kept h lt n m)

    pub claims : HasInodes sizes → (inode_type : InodeType) → IsMade inode_type → (m : above.ClaimResult → Option above.Mark) → Within (Claim inode_type) m
    claims inodes inode_type made m = recorded (Claim inode_type) m (claim_within sizes labels lawful kept h lt inode_type made inodes m)

    pub stores : (n count : ℕ) (m : Unit {0} → Option above.Mark) → Within (Store n count) m
    stores n count m = recorded (Store n count) m (store_within sizes labels lawful kept h lt n count m)

    pub fills : (n d : ℕ) (m : Bool → Option above.Mark) → Within (Fill n d) m
    fills n d m = recorded (Fill n d) m (fill_within sizes labels lawful kept h lt n d m)

    pub enters : (d : ℕ) (e : Name) (n : ℕ) (m : above.EntryResult → Option above.Mark) → Within (Enter d e n) m
    enters d e n m = recorded (Enter d e n) m (enter_within sizes labels lawful kept h lt d e n m)

    pub clears : (n : ℕ) (e : Name) (m : Unit {0} → Option above.Mark) → Within (Clear n e) m
    clears n e m = recorded (Clear n e) m (clear_within sizes labels lawful kept h lt n e m)

    pub empties : (n : ℕ) (m : Unit {0} → Option above.Mark) → Within (Empty n) m
    empties n m = recorded (Empty n) m (empty_within sizes labels lawful kept h lt n m)

    -- descriptors

    pub places_taken : (m : Bool → Option above.Mark) → Within Slot m
    places_taken m = acting Slot m spend.slot (slot_acts sizes labels lawful kept h lt m)

    pub installs : (f : OpenFile) (inode_type : InodeType) (m : Option ℕ → Option above.Mark) → Within (Install f inode_type) m
    installs f inode_type m = acting (Install f inode_type) m (spend.install f inode_type) (install_acts sizes labels lawful kept h lt f inode_type m)

    pub doubles : (fd : ℕ) (m : Option (Option ℕ) → Option above.Mark) → Within (Double fd) m
    doubles fd m = acting (Double fd) m (spend.double fd) (double_acts sizes labels lawful kept h lt fd m)

    pub shuts : (fd : ℕ) (m : Option (Option ℕ) → Option above.Mark) → Within (Shut fd) m
    shuts fd m = acting (Shut fd) m (spend.close fd) (close_acts sizes labels lawful kept h lt fd m)

    pub stats : (fd : ℕ) (m : Option (ℕ × Face) → Option above.Mark) → Within (StatFile fd) m
    stats fd m = acting (StatFile fd) m (spend.stat_file fd) (stat_acts sizes labels lawful kept h lt fd m)

    pub locks_to_read : (fd : ℕ) (m : LockResult → Option above.Mark) → Within (LockFile fd) m
    locks_to_read fd m = acting (LockFile fd) m (spend.lock_file fd) (file_acts sizes labels lawful kept h lt fd m)

    pub reads : (fd n offset count : ℕ) (m : List ℕ → Option above.Mark) → Within (ReadFile fd n offset count) m
    reads fd n offset count m = acting (ReadFile fd n offset count) m (spend.read_file fd n offset count) (read_acts sizes labels lawful kept h lt fd n offset count m)

    pub locks_to_write : (fd n : ℕ) (m : ℕ × ℕ → Option above.Mark) → Within (LockOpen fd n) m
    locks_to_write fd n m = acting (LockOpen fd n) m (spend.lock_open fd n) (open_acts sizes labels lawful kept h lt fd n m)

    pub writes : (fd n offset : ℕ) (bytes : List ℕ) → 0 < length bytes → IsBytes bytes → (m : Wrote → Option above.Mark) → Within (WriteFile fd n offset bytes) m
    writes fd n offset bytes some are m = recorded (WriteFile fd n offset bytes) m (write_within sizes labels lawful kept h lt fd n offset bytes some are m)

    pub checks : (fd : ℕ) (m : Option Cause → Option above.Mark) → Within (CheckFile fd) m
    checks fd m = acting (CheckFile fd) m (spend.check_file fd) (check_acts sizes labels lawful kept h lt fd m)

    pub joins_files : (fd : ℕ) (m : JoinResult → Option above.Mark) → Within (JoinFile fd) m
    joins_files fd m = acting (JoinFile fd) m (spend.join_file fd) (join_file_acts sizes labels lawful kept h lt fd m)

    -- the hart itself

    pub settles : (n : ℕ) (m : ℕ → Option above.Mark) → Within (SetDirectory n) m
    settles n m = acting (SetDirectory n) m (spend.settle n) (settle_acts sizes labels lawful kept h lt n m)

    pub joins : (m : Unit {0} → Option above.Mark) → Within Join m
    joins m = acting Join m spend.join (join_acts sizes labels lawful kept h lt m)

    pub leaves : (m : Unit {0} → Option above.Mark) → Within Leave m
    leaves m = acting Leave m spend.leave (leave_acts sizes labels lawful kept h lt m)

    pub says : (m : Unit {0} → Option above.Mark) → Within Say m
    says m = acting Say m spend.say (say_acts sizes labels lawful kept h lt m)

    -- what is handed to a child

    pub lends : (child from : ℕ) (m : LoanResult → Option above.Mark) → Within (Lend child from) m
    lends child from m = acting (Lend child from) m (spend.lend child from) (lend_acts sizes labels lawful kept h lt child from m)

    pub lends_directory : (child : ℕ) (m : ℕ → Option above.Mark) → Within (LendDirectory child) m
    lends_directory child m = acting (LendDirectory child) m (spend.lend_directory child) (lend_directory_acts sizes labels lawful kept h lt child m)

    pub releases : (child : ℕ) (m : Unit {0} → Option above.Mark) → Within (Release child) m
    releases child m = acting (Release child) m (spend.release child) (release_acts sizes labels lawful kept h lt child m)
