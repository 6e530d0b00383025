-- Each operation on whole inodes as its program below, on a disk of these sizes.
use Rattle.std.specs.Prelude.{Option}
use Rattle.inodes_on_blocks.specs.Vocabulary.{Super, Handover, Take, UnlockInode, UpStart, Up, WalkDown, Down, Free, Forget, Claim, Store, Fill, Enter, Clear, Empty, Slot, Install, StatFile, LockFile, ReadFile, CheckFile, JoinFile, LockOpen, WriteFile, Double, Shut, SetDirectory, Lend, LendDirectory, Release, Join, Leave, Say}
use Rattle.inode_machine.specs.World as above
use Rattle.inodes_on_blocks.specs.Emptying.{empty, free}
use Rattle.inodes_on_blocks.specs.Entering.{enter, fill}
use Rattle.inodes_on_blocks.specs.Files.{lock_file, lock_open, read_file}
use Rattle.inodes_on_blocks.specs.Handlers as one
use Rattle.inodes_on_blocks.specs.Basics.{P, Carry, store}
use Rattle.inodes_on_blocks.specs.Making.{claim}
use Rattle.inodes_on_blocks.specs.Naming.{clear}
use Rattle.inodes_on_blocks.specs.Reading.{stat_file, take}
use Rattle.inodes_on_blocks.specs.Writing.{write_file}

abbrev pub handlers : Super → Carry → (op : above.Op) → (above.Answer op → Option above.Mark) → P (Handover (above.Answer op) Carry)
handlers sizes c (Take n looking) m = take sizes n looking c m
handlers sizes c (UnlockInode n) m = one.give n c m
handlers sizes c (UpStart absolute) m = one.up_start absolute c m
handlers sizes c (Up n) m = one.up n c m
handlers sizes c (WalkDown n) m = one.walk_down n c m
handlers sizes c (Down n) m = one.down n c m
handlers sizes c (Free n) m = free sizes n c m
handlers sizes c (Forget n) m = one.forget n c m
handlers sizes c (Claim inode_type) m = claim sizes inode_type c m
handlers sizes c (Store n count) m = store sizes n count c m
handlers sizes c (Fill n d) m = fill sizes n d c m
handlers sizes c (Enter d e n) m = enter sizes d e n c m
handlers sizes c (Clear d e) m = clear sizes d e c m
handlers sizes c (Empty n) m = empty sizes n c m
handlers sizes c Slot m = one.slot c m
handlers sizes c (Install f inode_type) m = one.install f inode_type c m
handlers sizes c (StatFile fd) m = stat_file sizes fd c m
handlers sizes c (LockFile fd) m = lock_file sizes fd c m
handlers sizes c (ReadFile fd n offset count) m = read_file fd n offset count c m
handlers sizes c (LockOpen fd n) m = lock_open sizes fd n c m
handlers sizes c (CheckFile fd) m = one.check_file fd c m
handlers sizes c (JoinFile fd) m = one.join_file fd c m
handlers sizes c (WriteFile fd n offset bytes) m = write_file sizes fd n offset bytes c m
handlers sizes c (Double fd) m = one.double fd c m
handlers sizes c (Shut fd) m = one.close fd c m
handlers sizes c (SetDirectory n) m = one.settle n c m
handlers sizes c (Lend child from) m = one.lend child from c m
handlers sizes c (LendDirectory child) m = one.lend_directory child c m
handlers sizes c (Release child) m = one.release child c m
handlers sizes c Join m = one.join c m
handlers sizes c Leave m = one.leave c m
handlers sizes c Say m = one.say c m
