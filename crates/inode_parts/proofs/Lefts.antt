-- What is left after an operation of a part, or is heard.
use Rattle.inode_parts.proofs.Vocabulary.{◌≡◌, ℕ, List, Option, Some, None, refl, left_after, Hand, Heard, handed, lock_file_left, read_file_left, stat_left, write_file_left, part_left_after, take_left, LockFilePart, Notes, ReadFilePart, StatFilePart, TakePart, WriteFilePart}
use Rattle.inode_parts.specs.declared.part.InodePart.TheVariants as part

pub lock_file_after : (path : List ℕ) (m : Notes) (r : Option Heard) (p : LockFilePart) (h : Hand) → left_after (lock_file_left path m) (handed path m) r p h ≡ part_left_after path m r (part.LockFile p) h
lock_file_after path m None p h = refl
lock_file_after path m (Some x) p h = refl

pub write_after : (text : List ℕ) (m : Notes) (r : Option Heard) (p : WriteFilePart) (h : Hand) → left_after (write_file_left text) (handed text m) r p h ≡ part_left_after text m r (part.WriteFile p) h
write_after text m None p h = refl
write_after text m (Some x) p h = refl

pub read_after : (text : List ℕ) (m : Notes) (r : Option Heard) (p : ReadFilePart) (h : Hand) → left_after (read_file_left text) (handed text m) r p h ≡ part_left_after text m r (part.ReadFile p) h
read_after text m None p h = refl
read_after text m (Some x) p h = refl

pub stat_after : (path : List ℕ) (m : Notes) (r : Option Heard) (p : StatFilePart) (h : Hand) → left_after (stat_left path m) (handed path m) r p h ≡ part_left_after path m r (part.StatFile p) h
stat_after path m None p h = refl
stat_after path m (Some x) p h = refl

pub take_after : (path : List ℕ) (m : Notes) (r : Option Heard) (p : TakePart) (h : Hand) → left_after (take_left path m) (handed path m) r p h ≡ part_left_after path m r (part.Take p) h
take_after path m None p h = refl
take_after path m (Some x) p h = refl
