-- What a descriptor names locked, to answer its state: the operation is its part, and what is heard of it.
use Rattle.inode_parts.proofs.Vocabulary.{◌≡◌, ℕ, List, Some, None, refl, sym, ap, subst, ◌∙◌, Loaded, Super, Ret, Do, bind, plain, unmarked, LockedState, Refuses, Locks, Refused, inode_at, Hand, InodePlace, loaded_in, load_locked, lock_file_loaded, file_left, file_seat, HasFile, HeldFile, LockFile, NothingMore, Carry, Has, stat_loaded, stat_locked, put, Face, carry_in, handed, with_note, face_by, stat_ends, other, answer_by, IsPart, beside_in, Notes}
use Rattle.fs_machine.specs.declared.files.Want.TheVariants as want
use Rattle.fs_machine.specs.Machines as code
use Rattle.fs_machine.specs.Steps as steps
use Rattle.inode_machine.specs.World as above
use Rattle.path_walk.specs.declared.asks.Heard.TheVariants as heard
use Rattle.inode_parts.specs.declared.note.Note.TheVariants as note
use Rattle.inode_parts.proofs.FileLocks.{file_loaded}
use Rattle.inode_parts.proofs.Basics.{alone_none, had_now, none_beside, face_same}

module _ (sizes : Super) (path : List ℕ) (m : Notes) (fd : ℕ) where
  tells_so : (c : Carry) (a : LockedState) → plain (stat_locked sizes c a) ≡ bind (bind (load_locked sizes.inodestart a) (stat_ends path c)) (λ r. Ret (record { answer = answer_by (above.StatFile fd) r.answer; carry = r.carry }))
  tells_so c (Refuses why) = refl
  tells_so c (Locks f content) =
      file_loaded (above.StatFile fd) sizes.inodestart f content (stat_loaded c f.number) (stat_ends path c)
      (λ l i. Ret (record { answer = Some (f.number, sym (face_same l.inode) i); carry = put c f.number (Has l NothingMore) }))

  pub stat_file_is_part : (h : Hand) (r : LockFile) → file_left r h ≡ lock_file_loaded sizes.inodestart want.Stat fd → inode_at (file_seat r) h ≡ None
      → IsPart sizes (carry_in path m h) (above.StatFile fd) (bind (file_left r h) (stat_ends path (beside_in path m (file_seat r) h)))
  stat_file_is_part h r program free =
      let c : Carry = beside_in path m (file_seat r) h in
      subst (λ (b : Carry). IsPart sizes b (above.StatFile fd) (bind (file_left r h) (stat_ends path c))) (sym (none_beside path m h (file_seat r) free))
      (subst (λ (p : code.P LockedState). IsPart sizes c (above.StatFile fd) (bind p (stat_ends path c))) (sym program) (λ mark i. Do (steps.LockFile want.Stat fd) unmarked (λ a. tells_so c a i)))

-- ---- what is heard

-- it was refused
pub untold : (path : List ℕ) (m : Notes) (k : InodePlace) (h : Hand) (why : Refused) → inode_at k h ≡ None → stat_ends path (beside_in path m k h) (Refuses why) ≡ Ret (handed path m (heard.Stat None) h)
untold path m k h why free = λ i. Ret (record { answer = (path, heard.Stat None); carry = sym (none_beside path m h k free) i })

-- it is locked at the seat that was chosen for it
module _ (path : List ℕ) (m m2 : Notes) (h : Hand) (f : HeldFile) (k : InodePlace) (at : f.seat ≡ k) (has : HasFile f h) (alone : inode_at (other k) h ≡ None) where
  abbrev l : Loaded
  l = loaded_in f.seat h

  alone_there : inode_at (other f.seat) h ≡ None
  alone_there = subst (λ (k : InodePlace). inode_at (other k) h ≡ None) (sym at) alone

  pub told_at : (n : ℕ) (x : Face) → n ≡ f.file.number → x ≡ face_by l.inode → m2 ≡ with_note f.seat note.Nothing m
      → stat_ends path (beside_in path m k h) (Locks f.file (Some l)) ≡ Ret (handed path m2 (heard.Stat (Some (n, x))) h)
  told_at n x number face noted = λ i. Ret (record {
    answer = (path, heard.Stat (Some (sym number i, sym face i)));
    carry = ((λ j. put (beside_in path m (sym at j) h) f.file.number (Has l NothingMore))
        ∙ had_now path m f.seat h note.Nothing f.file.number has.0 has.1 (alone_none f.file.number f.seat h alone_there)
        ∙ ap (λ (m : Notes). carry_in path m h) (sym noted)) i;
  })
