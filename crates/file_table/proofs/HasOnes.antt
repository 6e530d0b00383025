-- Each part has an operation to make.
use Rattle.inode_table.proofs.Vocabulary.{HasOne, first, load_left}
use Rattle.fs_machine.specs.declared.hand.Hand.{Hand}
use Rattle.file_table.specs.LockingFiles.{file_left, open_left}
use Rattle.file_table.specs.declared.lock_file.LockFile.{LockFile}
use Rattle.file_table.specs.declared.lock_open.LockOpen.{LockOpen}
use Rattle.inode_table.proofs.HasOnes.{load_has}
use Rattle.file_table.specs.declared.lock_file.LockFile.TheVariants as file
use Rattle.file_table.specs.declared.lock_open.LockOpen.TheVariants as opened

pub file_has : (m : LockFile) (h : Hand) → HasOne (file_left m h)
file_has (file.Lock k i w fd) h = tt
file_has (file.Loading f m) h = first (load_left m h) _ (load_has m h)

pub open_has : (m : LockOpen) (h : Hand) → HasOne (open_left m h)
open_has (opened.Lock k i fd) h = tt
open_has (opened.Loading f m) h = first (load_left m h) _ (load_has m h)
