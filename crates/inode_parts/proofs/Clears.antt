-- A name cleared: it is a part, and goes on.
use Rattle.inode_parts.proofs.Vocabulary.{◌≡◌, ℕ, ◌/◌, ◌%◌, Bool, true, false, if◌then◌else◌, List, Option, Some, None, refl, sym, ap, ◌∙◌, subst, IsSome, MatchOption, option_map_or, Name, put, GuardState, Free, Dinode, IndexState, Loaded, Super, Version, dirents_per_block_of, Ret, Do, bind, plain, unmarked, Handover, bind-assoc, Inode, index_of, P, fetch, inode_block, record_of, store_inode, FetchedBlock, fetch_block, Named, give_record, put_dirent, put_entry, search, with_dirent, with_slot, cleared, Hand, InodePlace, One, Two, Goes, index_at, inode_at, inode_in, no_inode, with_index, with_record, IsLoadedAt, goes_with, clear_left, beside_buffers, NothingMore, Had, Apart, Carry, Has, record_had, clear_in, clear_slot, put_named, slot_found, slot_of, carry_in, had_at, had_of, handed, note_at, with_note, clear_part_left, cleared_at, slot_in, ClearBegins, HasFound, locks, seat_of_lock, IsPart, Part, Note, Notes, ClearPart}
use Rattle.fs_machine.specs.Steps as steps
use Rattle.inode_machine.specs.World as above
use Rattle.inodes_on_blocks.specs.Handlers as handlers
use Rattle.inodes_on_blocks.specs.Naming.{Slotted}
use Rattle.path_walk.specs.declared.asks.Heard.TheVariants as heard
use Rattle.inode_parts.specs.declared.note.Note.TheVariants as note
use Rattle.inode_parts.proofs.Basics.{lock_is, both_set, changed_same, changes, index_same, elsewhere, plain_block, then_plain}
use Rattle.inode_parts.proofs.Stores.{put_so}

-- ---- what is had of an inode whose lock is in hand

had_here : (path : List ℕ) (l : Note) (n : ℕ) (o : Option (GuardState Inode)) (x : Had) → locks n o ≡ true → had_at path l o n x ≡ had_of path l (option_map_or (λ (g : GuardState Inode). g.value) o no_inode).content
had_here path l n None x e = absurd (cc e)
had_here path l n (Some g) x e = ap (λ (b : Bool). if b then had_of path l g.value.content else x) e

had_is : (path : List ℕ) (m : Notes) (n : ℕ) (h : Hand) → locks n (inode_at (seat_of_lock n h) h) ≡ true → carry_in path m h n ≡ had_of path (note_at (seat_of_lock n h) m) (inode_in (seat_of_lock n h) h).content
had_is path m n h e = at (locks n h.one) refl e
  where
    at : (b : Bool) → locks n h.one ≡ b → let k : InodePlace = if b then One else Two in locks n (inode_at k h) ≡ true → carry_in path m h n ≡ had_of path (note_at k m) (inode_in k h).content
    at true is e = had_here path m.one n h.one (had_at path m.two h.two n Apart) e
    at false is e = elsewhere path m.one n h.one (had_at path m.two h.two n Apart) is ∙ had_here path m.two n h.two Apart e

-- the slot that was found is that of the name
found_slot_of : (version : Version) (path : List ℕ) (e : Name) (m : Note) (v : Inode) → HasFound version path e m → IsSome v.content → let p : handlers.P Slotted = slot_of version (had_of path m v.content) e in p ≡ Ret (slot_in m, index_of v)
found_slot_of version path e (note.Finds x s) v found some = at v.content some
  where
    at : (o : Option Loaded) → IsSome o → let p : handlers.P Slotted = slot_of version (had_of path (note.Finds x s) o) e in p ≡ Ret (s, index_of (record { number = v.number; content = o }))
    at None some = absurd (cc some)
    at (Some l) some = ap (λ (b : Bool). let p : handlers.P Slotted = if b then Ret (s, l.index) else bind (search version (Named e) l) slot_found in p) found.0
found_slot_of version path e m v found some = absurd found

loaded_there : (k : InodePlace) (h : Hand) → IsLoadedAt k h → IsSome (inode_in k h).content
loaded_there k h there = at (inode_at k h) there
  where
    at : (o : Option (GuardState Inode)) → MatchOption o ⊥ (λ g. IsSome g.value.content) → IsSome (option_map_or (λ (g : GuardState Inode). g.value) o no_inode).content
    at None there = absurd there
    at (Some g) there = there

module _ (sizes : Super) (path : List ℕ) (m : Notes) (n : ℕ) (e : Name) (before : Hand) where
  abbrev k : InodePlace
  k = seat_of_lock n before

  abbrev v : Inode
  v = inode_in k before

  abbrev c : Carry
  c = carry_in path m before

  abbrev s : ℕ
  s = slot_in (note_at k m)

  -- the handler's record is that in hand
  abbrev had : Inode
  had = record { number = n; content = record_had (c n) }

  -- the index without it
  abbrev x : IndexState
  x = cleared s (index_of v)

  abbrev over : Dinode → P (Handover (Unit {0}) Carry)
  over d = Ret (record { answer = tt {0}; carry = put c n (Has (record { inode = d; index = x }) NothingMore) })

  abbrev cleared_in : Inode → P (Handover (Unit {0}) Carry)
  cleared_in v = bind (put_entry sizes.version sizes.inodestart v.number (record_of v) s Free) over

  module _ (mark : Unit {0} → Option above.Mark) where
    block_so : (f : FetchedBlock) → plain (clear_in sizes n e c mark (s, index_of v) f) ≡ bind (put_dirent sizes.version sizes.inodestart n (record_of had) s Free f) over
    block_so f = λ i. Do (steps.Put f.number (Some (with_dirent sizes.version (s % dirents_per_block_of sizes.version) Free f.bytes))) unmarked (λ _. stores i)
      where
        b : ℕ
        b = inode_block sizes.inodestart n

        d : Dinode
        d = with_slot sizes.version s (record_of had)

        stores : plain (bind (fetch b) (put_named (above.Clear n e) above.Room mark (tt {0}) b n (record { inode = d; index = x }) c)) ≡ bind (bind (store_inode sizes.inodestart n d) (give_record d)) over
        stores =
            put_so b n d (handlers.acts (above.Clear n e) above.Room mark) (record { answer = tt {0}; carry = put c n (Has (record { inode = d; index = x }) NothingMore) })
            ∙ sym (bind-assoc (store_inode sizes.inodestart n d) (give_record d) over)

    slot_so : plain (clear_slot sizes n e c mark (s, index_of v)) ≡ cleared_in had
    slot_so =
        then_plain (fetch_block (record_of had) (s / dirents_per_block_of sizes.version)) (fetch_block (record_of had) (s / dirents_per_block_of sizes.version)) (clear_in sizes n e c mark (s, index_of v)) (λ f. bind (put_dirent sizes.version sizes.inodestart n (record_of had) s Free f) over)
        (plain_block (record_of had) (s / dirents_per_block_of sizes.version)) block_so
        ∙ sym (bind-assoc (fetch_block (record_of had) (s / dirents_per_block_of sizes.version)) (put_dirent sizes.version sizes.inodestart n (record_of had) s Free) over)

  module _ (p : ClearPart) (begins : ClearBegins sizes path m n e before) (seat : p.seat ≡ k) (slot : p.slot ≡ s) where
    abbrev then_ : Dinode → P (Handover (Unit {0}) Carry)
    then_ d = bind (cleared_at path m k s before d) (λ r. Ret (record { answer = tt {0}; carry = r.carry }))

    same_over : (d : Dinode) → over d ≡ then_ d
    same_over d = λ i. Ret (record { answer = tt {0}; carry = changes path m k n (record { inode = d; index = x }) before begins.0.0.0 begins.0.0.1 i })

    same_slot : let p : handlers.P Slotted = slot_of sizes.version (c n) e in p ≡ Ret (s, index_of v)
    same_slot =
        ap (λ (y : Had). let p : handlers.P Slotted = slot_of sizes.version y e in p) (had_is path m n before begins.0.0.0)
        ∙ found_slot_of sizes.version path e (note_at k m) v begins.1 (loaded_there k before begins.0.1)

    pub clear_is_part : clear_left p.clear before ≡ put_entry sizes.version sizes.inodestart n (record_of v) s Free → IsPart sizes c (above.Clear n e) (clear_part_left path m p before)
    clear_is_part program mark =
        (λ i. plain (bind (same_slot i) (clear_slot sizes n e c mark)))
        ∙ slot_so mark
        ∙ (λ i. bind (put_entry sizes.version sizes.inodestart n (record_of (lock_is path m n before begins.0.0.0 i)) s Free) over)
        ∙ (λ i. bind (sym program i) (λ d. same_over d i))
        ∙ sym (bind-assoc (clear_left p.clear before) (cleared_at path m k s before) (λ r. Ret (record { answer = tt {0}; carry = r.carry })))
        ∙ (λ i. bind (bind (clear_left p.clear before) (cleared_at path m (sym seat i) (sym slot i) before)) (λ r. Ret (record { answer = tt {0}; carry = r.carry })))

-- ---- how it goes on

module _ (path : List ℕ) (m : Notes) (p : ClearPart) (before h : Hand) (answer : (o : steps.Op) → steps.Answer o) (beside : beside_buffers tt h ≡ beside_buffers tt before) where
  cleared_same : cleared_at path m p.seat p.slot before ≡ cleared_at path m p.seat p.slot h
  cleared_same = λ i d. (changed_same path m p.seat heard.WasDone before h beside i) (record { inode = d; index = cleared p.slot (index_same p.seat before h beside i) })

  pub clear_on : (q : ClearPart) → q.seat ≡ p.seat → q.slot ≡ p.slot → Goes (clear_left p.clear before) answer (clear_left q.clear h) → Goes (clear_part_left path m p before) answer (clear_part_left path m q h)
  clear_on q seat slot goes =
      goes_with (clear_left p.clear before) (clear_left q.clear h) (cleared_at path m p.seat p.slot before) (cleared_at path m q.seat q.slot h) answer
      (cleared_same ∙ (λ i. cleared_at path m (sym seat i) (sym slot i) h)) goes

  pub clear_ends : (d : Dinode) (q : Part) → cleared_at path m p.seat p.slot h d ≡ q → Goes (clear_left p.clear before) answer (Ret d) → Goes (clear_part_left path m p before) answer q
  clear_ends d q is goes =
      subst (λ (q : Part). Goes (clear_part_left path m p before) answer q) is
      (goes_with (clear_left p.clear before) (Ret d) (cleared_at path m p.seat p.slot before) (cleared_at path m p.seat p.slot h) answer cleared_same goes)

-- what is in hand at its end
pub cleared_so : (path : List ℕ) (m m2 : Notes) (k : InodePlace) (s : ℕ) (h after : Hand) (d : Dinode) → IsLoadedAt k h → after ≡ with_record k d (with_index k (cleared s (index_at k h)) h) → m2 ≡ with_note k note.Nothing m
    → cleared_at path m k s h d ≡ Ret (handed path m2 heard.WasDone after)
cleared_so path m m2 k s h after d there set noted = λ i. Ret (handed path (sym noted i) heard.WasDone ((sym (both_set k d (cleared s (index_at k h)) h there) ∙ sym set) i))
