-- What a descriptor names locked: each operation is its part.
use Rattle.inode_parts.proofs.Vocabulary.{◌≡◌, ℕ, List, Option, Some, None, refl, sym, subst, ◌∙◌, Loaded, Super, Ret, Do, bind, plain, unmarked, Handover, bind-assoc, LockedState, Refuses, Locks, OpenFile, load_unless, inode_at, Hand, load_locked, load_open, lock_file_loaded, lock_open_loaded, opens, file_left, file_seat, open_left, open_seat, LockFile, LockOpen, file_locked, open_locked, with_file, Carry, carry_in, file_ends, open_ends, answer_by, IsPart, Message, Part, beside_in, Notes}
use Rattle.fs_machine.specs.declared.files.Want.TheVariants as want
use Rattle.fs_machine.specs.Machines as code
use Rattle.fs_machine.specs.Steps as steps
use Rattle.file_table.specs.LockingFiles.{locks}
use Rattle.inode_machine.specs.World as above
use Rattle.inodes_on_blocks.specs.Handlers.{P}
use Rattle.inode_parts.proofs.Basics.{load_then, none_beside}

-- ---- a program that takes the lock, and then

-- how an operation's answer is heard
abbrev answered : (op : above.Op) → Handover Message Carry → Handover (above.Answer op) Carry
answered op r = record { answer = answer_by op r.answer; carry = r.carry }

-- the inode is loaded
module _ (op : above.Op) (i : ℕ) (f : OpenFile) (content : Option Loaded) (loaded : Loaded → P (Handover (above.Answer op) Carry)) where
  pub file_loaded : (ends : LockedState → Part) → ((l : Loaded) → plain (loaded l) ≡ bind (ends (Locks f (Some l))) (λ r. Ret (answered op r)))
      → plain (bind (load_unless i f.number content) loaded) ≡ bind (bind (load_locked i (Locks f content)) ends) (λ r. Ret (answered op r))
  file_loaded ends same =
      load_then i f.number content loaded (λ l. bind (ends (Locks f (Some l))) (λ r. Ret (answered op r))) same
      ∙ sym (bind-assoc (bind (load_unless i f.number content) (locks f)) ends (λ r. Ret (answered op r)) ∙ bind-assoc (load_unless i f.number content) (locks f) (λ a. bind (ends a) (λ r. Ret (answered op r))))

  open_loaded : (ends : OpenFile × Loaded → Part) → ((l : Loaded) → plain (loaded l) ≡ bind (ends (f, l)) (λ r. Ret (answered op r)))
      → plain (bind (load_unless i f.number content) loaded) ≡ bind (bind (load_open i (f, content)) ends) (λ r. Ret (answered op r))
  open_loaded ends same =
      load_then i f.number content loaded (λ l. bind (ends (f, l)) (λ r. Ret (answered op r))) same
      ∙ sym (bind-assoc (bind (load_unless i f.number content) (opens f)) ends (λ r. Ret (answered op r)) ∙ bind-assoc (load_unless i f.number content) (opens f) (λ a. bind (ends a) (λ r. Ret (answered op r))))

module _ (sizes : Super) (path : List ℕ) (m : Notes) (fd : ℕ) where
  -- ---- to read it

  reads_so : (c : Carry) (a : LockedState) → plain (file_locked sizes fd c a) ≡ bind (bind (load_locked sizes.inodestart a) (file_ends path fd c)) (λ r. Ret (answered (above.LockFile fd) r))
  reads_so c (Refuses why) = refl
  reads_so c (Locks f content) = file_loaded (above.LockFile fd) sizes.inodestart f content (with_file (above.LocksIt f.number f.offset) c fd f.number f.offset) (file_ends path fd c) (λ d. refl)

  pub lock_file_is_part : (h : Hand) (r : LockFile) → file_left r h ≡ lock_file_loaded sizes.inodestart want.Read fd → inode_at (file_seat r) h ≡ None
      → IsPart sizes (carry_in path m h) (above.LockFile fd) (bind (file_left r h) (file_ends path fd (beside_in path m (file_seat r) h)))
  lock_file_is_part h r program free =
      let c : Carry = beside_in path m (file_seat r) h in
      subst (λ (b : Carry). IsPart sizes b (above.LockFile fd) (bind (file_left r h) (file_ends path fd c))) (sym (none_beside path m h (file_seat r) free))
      (subst (λ (p : code.P LockedState). IsPart sizes c (above.LockFile fd) (bind p (file_ends path fd c))) (sym program) (λ mark i. Do (steps.LockFile want.Read fd) unmarked (λ a. reads_so c a i)))

  -- ---- to write it

  opens_so : (c : Carry) (n : ℕ) (a : OpenFile × Option Loaded) → plain (open_locked sizes fd c a) ≡ bind (bind (load_open sizes.inodestart a) (open_ends path fd c)) (λ r. Ret (answered (above.LockOpen fd n) r))
  opens_so c n a = open_loaded (above.LockOpen fd n) sizes.inodestart a.0 a.1 (with_file (a.0.number, a.0.offset) c fd a.0.number a.0.offset) (open_ends path fd c) (λ d. refl)

  pub lock_open_is_part : (h : Hand) (r : LockOpen) (n : ℕ) → open_left r h ≡ lock_open_loaded sizes.inodestart fd → inode_at (open_seat r) h ≡ None
      → IsPart sizes (carry_in path m h) (above.LockOpen fd n) (bind (open_left r h) (open_ends path fd (beside_in path m (open_seat r) h)))
  lock_open_is_part h r n program free =
      let c : Carry = beside_in path m (open_seat r) h in
      subst (λ (b : Carry). IsPart sizes b (above.LockOpen fd n) (bind (open_left r h) (open_ends path fd c))) (sym (none_beside path m h (open_seat r) free))
      (subst (λ (p : code.P (OpenFile × Loaded)). IsPart sizes c (above.LockOpen fd n) (bind p (open_ends path fd c))) (sym program) (λ mark i. Do (steps.LockOpen fd) unmarked (λ a. opens_so c n a i)))
