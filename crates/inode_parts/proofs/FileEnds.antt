-- What is heard of a descriptor's inode that was locked, or wasn't.
use Rattle.inode_parts.proofs.Vocabulary.{◌≡◌, ℕ, List, Some, None, sym, ap, subst, ◌∙◌, Cause, Loaded, Ret, Refuses, Locks, Refused, inode_at, Hand, InodePlace, loaded_in, HasFile, HeldFile, cause_of, carry_in, handed, with_note, file_ends, open_ends, other, beside_in, Notes}
use Rattle.path_walk.specs.declared.asks.Heard.TheVariants as heard
use Rattle.path_walk.specs.declared.asks.Locked.TheVariants as locked
use Rattle.inode_parts.specs.declared.note.Note.TheVariants as note
use Rattle.inode_parts.proofs.Basics.{alone_none, had_now, none_beside}

module _ (path : List ℕ) (m : Notes) (k : InodePlace) (h : Hand) where
  -- it was refused
  pub refused_so : (fd : ℕ) (why : Refused) (x : Cause) → inode_at k h ≡ None → x ≡ cause_of why → file_ends path fd (beside_in path m k h) (Refuses why) ≡ Ret (handed path m (heard.Locked (locked.Refused x)) h)
  refused_so fd why x free e = λ i. Ret (record { answer = (path, heard.Locked (locked.Refused (sym e i))); carry = sym (none_beside path m h k free) i })

module _ (path : List ℕ) (m m2 : Notes) (h : Hand) (f : HeldFile) (has : HasFile f h) (alone : inode_at (other f.seat) h ≡ None) where
  abbrev l : Loaded
  l = loaded_in f.seat h

  -- it is locked, and so much was learned of it
  locked_so : (fd offset : ℕ) → offset ≡ f.file.offset → m2 ≡ with_note f.seat (note.Opened fd f.file.offset) m
      → file_ends path fd (beside_in path m f.seat h) (Locks f.file (Some l)) ≡ Ret (handed path m2 (heard.Locked (locked.Locks f.file.number offset)) h)
  locked_so fd offset e noted = λ i. Ret (record {
    answer = (path, heard.Locked (locked.Locks f.file.number (sym e i)));
    carry = (had_now path m f.seat h (note.Opened fd f.file.offset) f.file.number has.0 has.1 (alone_none f.file.number f.seat h alone) ∙ ap (λ (m : Notes). carry_in path m h) (sym noted)) i;
  })

  opened_so : (fd offset : ℕ) → offset ≡ f.file.offset → m2 ≡ with_note f.seat (note.Opened fd f.file.offset) m
      → open_ends path fd (beside_in path m f.seat h) (f.file, l) ≡ Ret (handed path m2 (heard.At f.file.number offset) h)
  opened_so fd offset e noted = λ i. Ret (record {
    answer = (path, heard.At f.file.number (sym e i));
    carry = (had_now path m f.seat h (note.Opened fd f.file.offset) f.file.number has.0 has.1 (alone_none f.file.number f.seat h alone) ∙ ap (λ (m : Notes). carry_in path m h) (sym noted)) i;
  })

-- the same at the seat that was chosen for it
module _ (path : List ℕ) (m m2 : Notes) (h : Hand) (f : HeldFile) (k : InodePlace) (at : f.seat ≡ k) (has : HasFile f h) (alone : inode_at (other k) h ≡ None) where
  alone_there : inode_at (other f.seat) h ≡ None
  alone_there = subst (λ (k : InodePlace). inode_at (other k) h ≡ None) (sym at) alone

  pub locked_at : (fd offset : ℕ) → offset ≡ f.file.offset → m2 ≡ with_note f.seat (note.Opened fd f.file.offset) m
      → file_ends path fd (beside_in path m k h) (Locks f.file (Some (loaded_in f.seat h))) ≡ Ret (handed path m2 (heard.Locked (locked.Locks f.file.number offset)) h)
  locked_at fd offset e noted = (λ i. file_ends path fd (beside_in path m (sym at i) h) (Locks f.file (Some (loaded_in f.seat h)))) ∙ locked_so path m m2 h f has alone_there fd offset e noted

  pub opened_at : (fd offset : ℕ) → offset ≡ f.file.offset → m2 ≡ with_note f.seat (note.Opened fd f.file.offset) m
      → open_ends path fd (beside_in path m k h) (f.file, loaded_in f.seat h) ≡ Ret (handed path m2 (heard.At f.file.number offset) h)
  opened_at fd offset e noted = (λ i. open_ends path fd (beside_in path m (sym at i) h) (f.file, loaded_in f.seat h)) ∙ opened_so path m m2 h f has alone_there fd offset e noted
