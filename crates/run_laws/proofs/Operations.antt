-- Each operation on whole inodes that fits acts at one moment below, within what its call's transactions may record: under the history that is the operations
-- themselves.
use Rattle.run_laws.proofs.Vocabulary.{◌<◌, ℕ, Option, Super, hart_count, Uses, Ret, Do, AtomicWithin, P, Take, UnlockInode, UpStart, Up, WalkDown, Down, Free, Forget, Claim, Store, Fill, Enter, Clear, Empty, Slot, Install, StatFile, LockFile, ReadFile, LockOpen, CheckFile, JoinFile, WriteFile, Double, Shut, SetDirectory, Lend, LendDirectory, Release, Join, Leave, Say, ActsOnceAt, HasInodes, HasSpent, recorded_blocks, ActsWithin, ProgramsSpend, Spends, up_acts, up_start_acts, walk_down_acts, down_acts, forget_acts, join_file_acts, join_acts, leave_acts, lend_acts, lend_directory_acts, release_acts, claim_within, enter_within, fill_within, file_acts, open_acts, read_acts, slot_acts, install_acts, double_acts, close_acts, check_acts, say_acts, programs_spend, stat_acts, give_acts, settle_acts, take_acts, acts_within, store_within, clear_within, empty_within, free_within, write_within, handlers, layer, operations, whole_inodes, Labels, Laws}
use Rattle.inode_machine.specs.World as above
use Rattle.inodes_on_blocks.specs.Lowering.{Keeps}
use Rattle.run_laws.proofs.Beside.{within_beside}
use Rattle.run_laws.proofs.Fits.{AllFitUpTo, Fits}
use Rattle.run_laws.proofs.Whole.{keeps_whole, whole_laws}

-- ---- the operations

module _ (sizes : Super) (h : ℕ) where
  abbrev labels : Labels
  labels = operations sizes.version

  lawful : Laws (whole_inodes sizes.version)
  lawful = whole_laws sizes.version

  kept : Keeps labels
  kept = keeps_whole sizes.version

  -- an operation's program acts at one moment, if the hart's transaction has room for what it records
  abbrev pub Within : (op : above.Op) → (above.Answer op → Option above.Mark) → Type 1
  Within op m =
      AtomicWithin (whole_inodes sizes.version) (layer sizes) (handlers sizes) (recorded_blocks sizes.version labels) (λ r s. HasSpent sizes h s r.blocks) h op m

  recorded : (op : above.Op) (m : above.Answer op → Option above.Mark) → ActsWithin sizes labels h op m (λ c. handlers sizes c op) → Within op m
  recorded op m within = within_beside sizes labels (handlers sizes) h (recorded_blocks sizes.version labels) (λ r s. HasSpent sizes h s r) op m within

  module _ (lt : h < hart_count) where
    -- one that asks for no room
    acting : (op : above.Op) (m : above.Answer op → Option above.Mark) → Spends sizes op (λ c. handlers sizes c op) → ActsOnceAt sizes labels h op m (λ c. handlers sizes c op) → Within op m
    acting op m spends acts = recorded op m (acts_within sizes labels lawful kept h lt op m (λ c. handlers sizes c op) spends acts)

    spend : ProgramsSpend sizes
    spend = programs_spend sizes

    module _ (inodes : HasInodes sizes) where
      within : (most : ℕ) (op : above.Op) (m : above.Answer op → Option above.Mark) → Fits sizes.version most op → Within op m
      within most (Take n looking) m fits = acting (Take n looking) m (spend.take n looking) (take_acts sizes labels lawful kept h lt n looking m)
      within most (UnlockInode n) m fits = acting (UnlockInode n) m (spend.give n) (give_acts sizes labels lawful kept h lt n m)
      within most (UpStart absolute) m fits = acting (UpStart absolute) m (spend.up_start absolute) (up_start_acts sizes labels lawful kept h lt absolute m)
      within most (Up n) m fits = acting (Up n) m (spend.up n) (up_acts sizes labels lawful kept h lt n m)
      within most (WalkDown n) m fits = acting (WalkDown n) m (spend.walk_down n) (walk_down_acts sizes labels lawful kept h lt n m)
      within most (Down n) m fits = acting (Down n) m (spend.down n) (down_acts sizes labels lawful kept h lt n m)
      within most (Free n) m fits = recorded (Free n) m (free_within sizes labels lawful kept h lt n m)
      within most (Forget n) m fits = acting (Forget n) m (spend.forget n) (forget_acts sizes labels lawful kept h lt n m)
      within most (Claim inode_type) m fits = recorded (Claim inode_type) m (claim_within sizes labels lawful kept h lt inode_type fits inodes m)
      within most (Store n count) m fits = recorded (Store n count) m (store_within sizes labels lawful kept h lt n count m)
      within most (Fill n d) m fits = recorded (Fill n d) m (fill_within sizes labels lawful kept h lt n d m)
      within most (Enter d e n) m fits = recorded (Enter d e n) m (enter_within sizes labels lawful kept h lt d e n m)
      within most (Clear n e) m fits = recorded (Clear n e) m (clear_within sizes labels lawful kept h lt n e m)
      within most (Empty n) m fits = recorded (Empty n) m (empty_within sizes labels lawful kept h lt n m)
      within most Slot m fits = acting Slot m spend.slot (slot_acts sizes labels lawful kept h lt m)
      within most (Install f inode_type) m fits = acting (Install f inode_type) m (spend.install f inode_type) (install_acts sizes labels lawful kept h lt f inode_type m)
      within most (StatFile fd) m fits = acting (StatFile fd) m (spend.stat_file fd) (stat_acts sizes labels lawful kept h lt fd m)
      within most (LockFile fd) m fits = acting (LockFile fd) m (spend.lock_file fd) (file_acts sizes labels lawful kept h lt fd m)
      within most (ReadFile fd n offset count) m fits = acting (ReadFile fd n offset count) m (spend.read_file fd n offset count) (read_acts sizes labels lawful kept h lt fd n offset count m)
      within most (CheckFile fd) m fits = acting (CheckFile fd) m (spend.check_file fd) (check_acts sizes labels lawful kept h lt fd m)
      within most (JoinFile fd) m fits = acting (JoinFile fd) m (spend.join_file fd) (join_file_acts sizes labels lawful kept h lt fd m)
      within most (LockOpen fd n) m fits = acting (LockOpen fd n) m (spend.lock_open fd n) (open_acts sizes labels lawful kept h lt fd n m)
      within most (WriteFile fd n offset bytes) m fits = recorded (WriteFile fd n offset bytes) m (write_within sizes labels lawful kept h lt fd n offset bytes fits.0 fits.1 m)
      within most (Double fd) m fits = acting (Double fd) m (spend.double fd) (double_acts sizes labels lawful kept h lt fd m)
      within most (Shut fd) m fits = acting (Shut fd) m (spend.close fd) (close_acts sizes labels lawful kept h lt fd m)
      within most (SetDirectory n) m fits = acting (SetDirectory n) m (spend.settle n) (settle_acts sizes labels lawful kept h lt n m)
      within most (Lend child from) m fits = acting (Lend child from) m (spend.lend child from) (lend_acts sizes labels lawful kept h lt child from m)
      within most (LendDirectory child) m fits = acting (LendDirectory child) m (spend.lend_directory child) (lend_directory_acts sizes labels lawful kept h lt child m)
      within most (Release child) m fits = acting (Release child) m (spend.release child) (release_acts sizes labels lawful kept h lt child m)
      within most Join m fits = acting Join m spend.join (join_acts sizes labels lawful kept h lt m)
      within most Leave m fits = acting Leave m spend.leave (leave_acts sizes labels lawful kept h lt m)
      within most Say m fits = acting Say m spend.say (say_acts sizes labels lawful kept h lt m)

      -- so do all of a program
      pub all_within : (most : ℕ) {A : Type 0} (p : P A) → AllFitUpTo sizes.version most p → Uses (whole_inodes sizes.version) Within p
      all_within most (Ret a) fits = tt
      all_within most (Do op m k) fits = (within most op m fits.0, λ a. all_within most (k a) (fits.2 a))
