-- No operation gives a hart a lender: a start alone does.
use Rattle.calls_on_blocks.proofs.Vocabulary.{◌≡◌, ℕ, ◌+◌, Bool, true, false, ◌==◌, nat_lt, List, [], Option, Some, None, refl, sym, ◌∙◌, if◌then◌else◌, take, none-some, Version, Cause, has_room, node_or, write_kind, OpenFile, Name, put, ExecResult, Waits, Ran, Stops, ActOf, ran_to, seen_after, IfRan, slot_at, entry_of, double_at, double_if, close_at, close_if, lock_if, lock_at, stat_at, unlocked, start_if, start_number, has_place, referenced, place_count, claim_if, claimed, up_if, is_last, walk_down_if, down_if, slot_if, first_from, file_count, is_empty_slot, install_if, read_refused, write_refused, write_if, write_at, changed_record, with_bytes, read_at, with_offset, join_at, enter_if, is_full_directory, next_used, lend_if, lend_last, with_lent, InodeType, with_mark, machine, Desk, Entry, Take, UnlockInode, UpStart, WalkDown, Forget, Store, Fill, Enter, Clear, Empty, Slot, Install, StatFile, ReadFile, JoinFile, WriteFile, Shut, SetDirectory, Lend, LendDirectory, Release, Join, Leave, Say, Room, RoomFor, Picks, put_elim, part_same, marked_same, Reserves}
use Rattle.inode_machine.specs.Exec.{exec}
use Rattle.inode_machine.specs.World as above
use Rattle.inode_machine.specs.World.Op.{Up, Down, Free, Claim, LockFile, CheckFile, LockOpen, Double}

-- who has a lender had it before
abbrev pub NoNew : above.World → above.World → Type 0
NoNew v u = (g c : ℕ) → (u.desks g).lender ≡ Some c → (v.desks g).lender ≡ Some c

-- a desk was changed, and has its lender still
put_none : (desks : ℕ → Desk) (h : ℕ) (d : Desk) → d.lender ≡ (desks h).lender → (g c : ℕ) → (put desks h d g).lender ≡ Some c → (desks g).lender ≡ Some c
put_none desks h d same g c e = sym (part_same (λ x. x.lender) desks h d g same) ∙ e

-- two were
both_none : (desks : ℕ → Desk) (h k : ℕ) (d e : Desk) → d.lender ≡ (desks h).lender → e.lender ≡ (desks k).lender → (g c : ℕ) → (put (put desks h d) k e g).lender ≡ Some c → (desks g).lender ≡ Some c
both_none desks h k d e one two g c is = put_none desks h d one g c (put_none (put desks h d) k e (two ∙ sym (part_same (λ x. x.lender) desks h d k one)) g c is)

-- a desk was changed, and has none
freed_none : (desks : ℕ → Desk) (h : ℕ) (d : Desk) → d.lender ≡ None → (g c : ℕ) → (put desks h d g).lender ≡ Some c → (desks g).lender ≡ Some c
freed_none desks h d free g c = put_elim desks h d g (λ x. x.lender ≡ Some c → (desks g).lender ≡ Some c) (λ q e. absurd (none-some c (sym free ∙ e))) (λ ne e. e)

lock_none : {A : Type 0} (h n : ℕ) (a : A) (v u : above.World) (o : Option ℕ) → NoNew v u → IfRan (NoNew v) (lock_if h n a v u o)
lock_none h n a v u None none = none
lock_none h n a v u (Some k) none = tt

unlocked_none : (n : ℕ) (v : above.World) (b : Bool) → NoNew v (unlocked n v b)
unlocked_none n v true = λ g c e. e
unlocked_none n v false = λ g c e. e

-- the file moved on
offset_none : (n : ℕ) (v : above.World) (b : Bool) (o : Option ℕ) (e : Entry) (by_ : ℕ) → NoNew v (with_offset (unlocked n v b) o e by_)
offset_none n v true None e by_ = λ g c e. e
offset_none n v false None e by_ = λ g c e. e
offset_none n v true (Some s) e by_ = λ g c e. e
offset_none n v false (Some s) e by_ = λ g c e. e

module _ (version : Version) (h : ℕ) (x : above.Outside) (v : above.World) where
  started_none : (n : ℕ) (b : Bool) → IfRan (NoNew v) (start_if h n v b)
  started_none n true = λ g c e. e
  started_none n false = λ g c e. e

  raised_none : (n : ℕ) (b : Bool) → IfRan (NoNew v) (up_if h n v b)
  raised_none n true = λ g c e. e
  raised_none n false = λ g c e. e

  walked_none : (n : ℕ) (b : Bool) → IfRan (NoNew v) (walk_down_if h n v b)
  walked_none n true = λ g c e. e
  walked_none n false = λ g c e. e

  lowered_none : (n : ℕ) (b : Bool) → IfRan (NoNew v) (down_if h n v b)
  lowered_none n true = λ g c e. e
  lowered_none n false = λ g c e. e

  claimed_none : (inode_type : InodeType) (x : above.Outside) → IfRan (NoNew v) (claim_if h inode_type v x)
  claimed_none inode_type Room = λ g c e. e
  claimed_none inode_type (RoomFor k) = λ g c e. e
  claimed_none inode_type (Picks n) = by (nat_lt (referenced v) place_count)
    where
      by : (b : Bool) → IfRan (NoNew v) (if b then Ran (above.New n) (claimed h inode_type v n) else Ran above.NoPlace v)
      by true = λ g c e. e
      by false = λ g c e. e

  filled_none : (n d : ℕ) (x : above.Outside) → IfRan (NoNew v) (exec version h x (Fill n d) v)
  filled_none n d Room = λ g c e. e
  filled_none n d (RoomFor k) = λ g c e. e
  filled_none n d (Picks k) = λ g c e. e

  entered_none : (d : ℕ) (name : Name) (n : ℕ) (x : above.Outside) (full : Bool) → IfRan (NoNew v) (enter_if d name n v x full)
  entered_none d name n x true = λ g c e. e
  entered_none d name n Room false = λ g c e. e
  entered_none d name n (RoomFor k) false = λ g c e. e
  entered_none d name n (Picks k) false = λ g c e. e

  placed_none : (o : Option ℕ) → IfRan (NoNew v) (slot_if h v o)
  placed_none None = λ g c e. e
  placed_none (Some s) = put_none v.desks h _ refl

  installed_none : (f : OpenFile) (inode_type : InodeType) (o : Option ℕ) (b : Bool) → IfRan (NoNew v) (install_if h v f inode_type o b)
  installed_none f inode_type None b = λ g c e. e
  installed_none f inode_type (Some s) true = put_none v.desks h _ refl
  installed_none f inode_type (Some s) false = put_none v.desks h _ refl

  stat_none : (e : Option Entry) → IfRan (NoNew v) (stat_at version h v e)
  stat_none None = λ g c e. e
  stat_none (Some e) = lock_none h e.file.number _ v _ (v.lock e.file.number) (λ g c is. is)

  locked_none : (e : Option Entry) (why : Option Cause) → IfRan (NoNew v) (lock_at h v e why)
  locked_none e (Some why) = λ g c e. e
  locked_none None None = λ g c e. e
  locked_none (Some e) None = lock_none h e.file.number _ v _ (v.lock e.file.number) (λ g c is. is)

  read_none : (n count : ℕ) (o : Option ℕ) (e : Option Entry) → IfRan (NoNew v) (read_at version v n count o e)
  read_none n count o None = unlocked_none n v (v.alone n)
  read_none n count o (Some e) = offset_none n v (v.alone n) o e _

  joined_none : (e : Option Entry) (why : Option Cause) → IfRan (NoNew v) (join_at h v e why)
  joined_none e (Some why) = λ g c e. e
  joined_none None None = λ g c e. e
  joined_none (Some e) None = put_none v.desks h _ refl

  doubled_none : (o : Option ℕ) (e : Option Entry) → IfRan (NoNew v) (double_at h v o e)
  doubled_none None e = λ g c e. e
  doubled_none (Some s) None = λ g c e. e
  doubled_none (Some s) (Some e) = by (has_room (v.desks h).fds)
    where
      by : (b : Bool) → IfRan (NoNew v) (double_if h v s e b)
      by true = put_none v.desks h _ refl
      by false = λ g c e. e

  shut_none : (fd : ℕ) (o : Option ℕ) (e : Option Entry) → IfRan (NoNew v) (close_at h v fd o e)
  shut_none fd None e = λ g c e. e
  shut_none fd (Some s) None = λ g c e. e
  shut_none fd (Some s) (Some e) = by (e.references == 1)
    where
      by : (b : Bool) → IfRan (NoNew v) (close_if h v fd s e b)
      by true = put_none v.desks h _ refl
      by false = put_none v.desks h _ refl

  settled_none : (n : ℕ) (b : Bool) (g c : ℕ) → (put (unlocked n v b).desks h (record ((unlocked n v b).desks h) { directory = n; left = None }) g).lender ≡ Some c → (v.desks g).lender ≡ Some c
  settled_none n true = put_none v.desks h _ refl
  settled_none n false = put_none v.desks h _ refl

  lent_none : (child : ℕ) (o : Option ℕ) → IfRan (NoNew v) (lend_if h v child o)
  lent_none child None = both_none v.desks h child _ _ refl refl
  lent_none child (Some i) = by (next_used (i + 1) (v.desks h).fds)
    where
      one : NoNew v (with_lent v h i)
      one = put_none v.desks h _ refl

      by : (o : Option ℕ) → NoNew v (lend_last (with_lent v h i) h child o)
      by (Some j) = one
      by None = λ g c e. one g c (both_none (with_lent v h i).desks h child _ _ refl refl g c e)

  released_none : (child g c : ℕ) → (put (put v.desks h (record (v.desks h) { lent = λ i. None })) child (record (v.desks child) { lender = None }) g).lender ≡ Some c → (v.desks g).lender ≡ Some c
  released_none child g c e = put_none v.desks h _ refl g c (freed_none (put v.desks h _) child _ refl g c e)

  wrote_none : (n : ℕ) (b : List ℕ) (o : Option ℕ) (e : Option Entry) (x : above.Outside) → IfRan (NoNew v) (write_at version v o n b x e)
  wrote_none n b o None x = unlocked_none n v (v.alone n)
  wrote_none n b o (Some e) x = by (write_kind version (node_or (v.disk n)).kind e.file.offset b) x
    where
      by : (why : Option Cause) (x : above.Outside) → IfRan (NoNew v) (write_if v o e n b x why)
      by (Some why) x = unlocked_none n v (v.alone n)
      by None Room = offset_none n (changed_record v n (with_bytes e.file.offset b)) (v.alone n) o e _
      by None (RoomFor k) = offset_none n (changed_record v n (with_bytes e.file.offset (take k b))) (v.alone n) o e _
      by None (Picks k) = offset_none n (changed_record v n (with_bytes e.file.offset [])) (v.alone n) o e _

-- ---- all of them

gives_none : (version : Version) (h : ℕ) (op : above.Op) (x : above.Outside) (v : above.World) → IfRan (NoNew v) (exec version h x op v)
gives_none version h (Take n looking) x v = lock_none h n _ v _ (v.lock n) (λ g c e. e)
gives_none version h (UnlockInode n) x v = unlocked_none n v (v.alone n)
gives_none version h (UpStart absolute) x v = started_none version h x v (start_number (v.desks h) absolute) (has_place v (start_number (v.desks h) absolute))
gives_none version h (Up n) x v = raised_none version h x v n (has_place v n)
gives_none version h (WalkDown n) x v = walked_none version h x v n (is_last v n)
gives_none version h (Down n) x v = lowered_none version h x v n (is_last v n)
gives_none version h (Free n) x v = λ g c e. e
gives_none version h (Forget n) x v = λ g c e. e
gives_none version h (Claim inode_type) x v = claimed_none version h x v inode_type x
gives_none version h (Store n count) x v = λ g c e. e
gives_none version h (Fill n d) x v = filled_none version h x v n d x
gives_none version h (Enter d e n) x v = entered_none version h x v d e n x (is_full_directory version (v.disk d))
gives_none version h (Clear d e) x v = λ g c e. e
gives_none version h (Empty n) x v = λ g c e. e
gives_none version h Slot x v = placed_none version h x v (first_from file_count 0 (is_empty_slot v))
gives_none version h (Install f inode_type) x v = installed_none version h x v f inode_type (v.desks h).hand (has_room (v.desks h).fds)
gives_none version h (StatFile fd) x v = stat_none version h x v (entry_of v h fd)
gives_none version h (LockFile fd) x v = locked_none version h x v (entry_of v h fd) (read_refused (entry_of v h fd))
gives_none version h (ReadFile fd n offset count) x v = read_none version h x v n count (slot_at v h fd) (entry_of v h fd)
gives_none version h (CheckFile fd) x v = λ g c e. e
gives_none version h (JoinFile fd) x v = joined_none version h x v (entry_of v h fd) (write_refused (entry_of v h fd))
gives_none version h (LockOpen fd n) x v = lock_none h n _ v _ (v.lock n) (λ g c e. e)
gives_none version h (WriteFile fd n offset bytes) x v = wrote_none version h x v n bytes (slot_at v h fd) (entry_of v h fd) x
gives_none version h (Double fd) x v = doubled_none version h x v (slot_at v h fd) (entry_of v h fd)
gives_none version h (Shut fd) x v = shut_none version h x v fd (slot_at v h fd) (entry_of v h fd)
gives_none version h (SetDirectory n) x v = settled_none version h x v n (v.alone n)
gives_none version h (Lend child from) x v = lent_none version h x v child (next_used from (v.desks h).fds)
gives_none version h (LendDirectory child) x v = lent_none version h x v child None
gives_none version h (Release child) x v = released_none version h x v child
gives_none version h Join x v = put_none v.desks h _ refl
gives_none version h Leave x v = put_none v.desks h _ refl
gives_none version h Say x v = λ g c e. e

-- So who has a lender is still the child of that one's call, whatever acts.
pub acts_reserve : (version : Version) (children : ℕ → Option ℕ) (h : ℕ) (t : Option (ActOf (machine version))) (w : above.World) → Reserves children w → Reserves children (seen_after (machine version) h t w)
acts_reserve version children h None w r = r
acts_reserve version children h (Some t) w r = by (exec version h t.outside t.op w) (gives_none version h t.op t.outside w)
  where
    by : (d : ExecResult (above.Answer t.op) above.World) → IfRan (NoNew w) d → Reserves children (ran_to w (with_mark version h t.mark d))
    by Waits none = r
    by (Ran a u) none = λ g c lt e. r g c lt (none g c (sym ((marked_same version h (t.mark a) u).desks g).lender ∙ e))
    by (Stops u) none = r
