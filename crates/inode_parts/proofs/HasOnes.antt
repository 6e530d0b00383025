-- A part that is ready has an operation to make, and so has a call with it.
use Rattle.inode_parts.proofs.Vocabulary.{ℕ, List, piece, HasOne, first, finish_has, Hand, file_has, open_has, freeing_has, truncate_has, read_has, write_has, lock_has, new_has, record_has, truncate_left, finish_left, freeing_left, file_left, open_left, lock_left, new_left, record_left, clear_has, enter_has, fill_has, search_has, clear_left, enter_left, fill_left, read_left, write_left, search_left, text_in, lowered_left, LoweredReady, read_file_left, write_file_left, part_left, PartReady, step_left, relock_left, take_left, Lowered, Notes, OneStep, InodePart, ReadFilePart, RelockPart, TakePart, WriteFilePart}
use Rattle.inode_parts.specs.declared.one_step.OneStep.TheVariants as step
use Rattle.inode_parts.specs.declared.part.InodePart.TheVariants as part
use Rattle.inode_parts.specs.declared.file_bytes.ReadFilePart.TheVariants as reads
use Rattle.inode_parts.specs.declared.relock_part.RelockPart.TheVariants as relock
use Rattle.inode_parts.specs.declared.take_part.TakePart.TheVariants as take
use Rattle.inode_parts.specs.declared.file_bytes.WriteFilePart.TheVariants as writes

step_has : (path : List ℕ) (m : Notes) (s : OneStep) (h : Hand) → HasOne (step_left path m s h)
step_has path m (step.UnlockInode k) h = tt
step_has path m (step.SetDirectory k) h = tt
step_has path m (step.UpRoot k) h = tt
step_has path m (step.UpDirectory k) h = tt
step_has path m (step.Up k n) h = tt
step_has path m (step.UpAside n) h = tt
step_has path m (step.WalkDown k) h = tt
step_has path m (step.Down k) h = tt
step_has path m (step.Forget k) h = tt
step_has path m step.Slot h = tt
step_has path m (step.Install k file) h = tt
step_has path m (step.CheckFile fd) h = tt
step_has path m (step.JoinFile fd) h = tt
step_has path m (step.Double fd) h = tt
step_has path m (step.Shut k fd) h = tt
step_has path m (step.Lend k child from) h = tt
step_has path m (step.LendDirectory k child) h = tt
step_has path m step.Release h = tt
step_has path m step.Join h = tt
step_has path m step.Say h = tt

take_has : (path : List ℕ) (m : Notes) (p : TakePart) (h : Hand) → HasOne (take_left path m p h)
take_has path m (take.Locking v q r) h = first (lock_left r h) _ (lock_has r h)
take_has path m (take.Naming v k e s) h = first (search_left _ _ _ s h) _ (search_has _ _ _ s h)
take_has path m (take.Listing v k s) h = first (search_left _ _ _ s h) _ (search_has _ _ _ s h)

relock_has : (path : List ℕ) (m : Notes) (p : RelockPart) (h : Hand) → HasOne (relock_left path m p h)
relock_has path m (relock.Locking k i) h = tt
relock_has path m (relock.Loading r) h = first (lock_left r h) _ (lock_has r h)

read_file_has : (text : List ℕ) (p : ReadFilePart) (h : Hand) → HasOne (read_file_left text p h)
read_file_has text (reads.Reading f p) h = first (read_left _ text p h) _ (read_has _ text p h)
read_file_has text (reads.Ending f count) h = tt

write_file_has : (text : List ℕ) (p : WriteFilePart) (h : Hand) → HasOne (write_file_left text p h)
write_file_has text (writes.Denied k why) h = tt
write_file_has text (writes.Writing f at p) h = first (write_left (piece text at) p h) _ (write_has (piece text at) p h)
write_file_has text (writes.Ending f upto w) h = tt

pub part_has : (path : List ℕ) (m : Notes) (p : InodePart) (h : Hand) → PartReady p h → HasOne (part_left path m p h)
part_has path m (part.One s) h ready = step_has path m s h
part_has path m (part.Leave f) h ready = first (finish_left f h) _ (finish_has f h ready)
part_has path m (part.Store p) h ready = first (record_left p.store h) _ (record_has p.store h)
part_has path m (part.Empty p) h ready = first (truncate_left p.truncate h) _ (truncate_has p.truncate h)
part_has path m (part.Enter p) h ready = first (enter_left p.enter h) _ (enter_has p.enter h)
part_has path m (part.Clear p) h ready = first (clear_left p.clear h) _ (clear_has p.clear h)
part_has path m (part.Fill p) h ready = first (fill_left p.fill h) _ (fill_has p.fill h)
part_has path m (part.Free p) h ready = first (freeing_left p.free h) _ (freeing_has p.free h)
part_has path m (part.Claim p) h ready = first (new_left p.claim h) _ (new_has p.claim h)
part_has path m (part.LockOpen p) h ready = first (open_left p.lock h) _ (open_has p.lock h)
part_has path m (part.LockFile p) h ready = first (file_left p.lock h) _ (file_has p.lock h)
part_has path m (part.StatFile p) h ready = first (file_left p.lock h) _ (file_has p.lock h)
part_has path m (part.Take p) h ready = take_has path m p h
part_has path m (part.Relock p) h ready = relock_has path m p h
part_has path m (part.ReadFile p) h ready = read_file_has path p h
part_has path m (part.WriteFile p) h ready = write_file_has path p h

pub lowered_has : (l : Lowered) (h : Hand) → LoweredReady l h → HasOne (lowered_left l h)
lowered_has l h ready = first (part_left (text_in l.call) l.notes l.part h) _ (part_has (text_in l.call) l.notes l.part h ready.ready)
