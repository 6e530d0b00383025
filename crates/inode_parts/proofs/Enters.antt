-- A name entered: it is a part, and goes on.
use Rattle.inode_parts.proofs.Vocabulary.{◌≡◌, ℕ, zero, suc, ◌+◌, ◌-◌, ◌*◌, ◌==◌, ◌<◌, ◌≤◌, nat_lt, take, Bool, true, false, if◌then◌else◌, List, length, Option, Some, None, refl, sym, ◌∙◌, ap, subst, arith, is_some, nat_tests, Used, Dinode, Super, spell_dirent, Name, put, Ret, Do, bind, plain, Handover, bind-assoc, IndexState, Inode, Loaded, loaded_of, P, inode_block, store_inode, Address, Direct, InTable, address, blocks_between, fetch_at, fetch_block, WriteResult, grown, store_written, write_blocks, write_part, Room, Found, Searched, EnteredState, code_enter, enter_at, code_enter_in, entered_by, entered_if, first_of, or_next, with_entry, slot_for, Unused, block_count, look_at, search, search_from, slot_count, Hand, InodePlace, Goes, inode_in, goes_with, enter_left, enter_seat, beside_index, entered_to, put_grown, seek_free, acts, NothingMore, Carry, Has, carry_index, record_had, carry_in, enter_part_left, entered, entered_so, HasLock, seat_of_lock, IsPart, Part, Notes, EnterPart, Version, dirent_len_of, most_slots}
use Rattle.std.specs.Prelude.{min}
use Rattle.atomic_programs.specs.Prog.{asks}
use Rattle.directory.specs.Indexes.{first_gap, free_below, index_room, slots_known}
use Rattle.fs_machine.specs.Steps as steps
use Rattle.directory.specs.declared.enter.Room.TheVariants as room
use Rattle.inode_machine.specs.World as above
use Rattle.inodes_on_blocks.specs.Handlers as handlers
use Rattle.path_walk.specs.Asks as whole
use Rattle.path_walk.specs.declared.asks.Entered.TheVariants as entry
use Rattle.path_walk.specs.declared.asks.Heard.TheVariants as heard
use Rattle.inode_parts.proofs.Basics.{lock_is, changed_over, changes, indexed_over, indexes, blocks_few, blocks_full, plain_seek, plain_writes, then_plain}
use Rattle.inode_parts.proofs.Stores.{put_so}

-- the record goes back after its blocks were written, whatever that is marked with
pub grown_so : (sizes : Super) (n : ℕ) (op : above.Op) (outside : above.Outside) (m : above.Answer op → Option above.Mark) (answer : above.Answer op) (c : Carry) (x : IndexState) (w : WriteResult)
    → plain (put_grown op outside m answer sizes n c x w) ≡ bind (store_inode sizes.inodestart n (grown w)) (λ _. Ret (record { answer = answer; carry = put c n (Has (record { inode = grown w; index = x }) NothingMore) }))
grown_so sizes n op outside m answer c x w = put_so (inode_block sizes.inodestart n) n (grown w) (acts op outside m) (record { answer = answer; carry = put c n (Has (record { inode = grown w; index = x }) NothingMore) })

module _ (sizes : Super) (path : List ℕ) (m : Notes) (n : ℕ) (e : Name) (q : ℕ) (before : Hand) where
  abbrev k : InodePlace
  k = seat_of_lock n before

  abbrev v : Inode
  v = inode_in k before

  abbrev c : Carry
  c = carry_in path m before

  abbrev bytes : List ℕ
  bytes = spell_dirent sizes.version (Used q e)

  -- what the operation hands over
  abbrev answer_of : Room → above.EntryResult
  answer_of room.There = above.InPlace
  answer_of room.NoBlock = above.NoBlock
  answer_of room.NoSlot = above.NoSlot

  abbrev carry_of : Dinode → IndexState → Room → Carry
  carry_of d x room.There = put c n (Has (record { inode = d; index = x }) NothingMore)
  carry_of d x room.NoBlock = put c n (Has (record { inode = d; index = x }) NothingMore)
  carry_of d x room.NoSlot = carry_index c n x

  abbrev rest : EnteredState → P (Handover above.EntryResult Carry)
  rest r = Ret (record { answer = answer_of r.room; carry = carry_of r.inode r.index r.room })

  -- the handler's program, of this record
  module _ (mark : above.EntryResult → Option above.Mark) where
    writes_so : (x : IndexState) (slot : ℕ) (w : WriteResult) → plain (entered_to sizes n e q c mark x slot w) ≡ bind (store_written sizes n w) (λ r. bind (entered_by sizes.version slot bytes x r) rest)
    writes_so x slot w = by (w.upto == dirent_len_of sizes.version * (slot + 1)) ∙ sym (bind-assoc (store_inode sizes.inodestart n (grown w)) (λ _. Ret (record { inode = grown w; upto = w.upto })) (λ r. bind (entered_by sizes.version slot bytes x r) rest))
      where
        by : (t : Bool) → plain (if t then put_grown (above.Enter n e q) above.Room mark above.InPlace sizes n c (with_entry sizes.version slot bytes x) w else put_grown (above.Enter n e q) (above.RoomFor 0) mark above.NoBlock sizes n c x w)
            ≡ bind (store_inode sizes.inodestart n (grown w)) (λ _. rest (entered_if sizes.version slot bytes x (grown w) t))
        by true = grown_so sizes n (above.Enter n e q) above.Room mark above.InPlace c (with_entry sizes.version slot bytes x) w
        by false = grown_so sizes n (above.Enter n e q) (above.RoomFor 0) mark above.NoBlock c x w

    module _ (d : Dinode) where
      -- into this slot, with this index
      abbrev slot_in : IndexState → ℕ → handlers.P (Handover above.EntryResult Carry)
      slot_in x slot =
          if nat_lt slot (most_slots sizes.version) then bind (write_blocks (blocks_between (dirent_len_of sizes.version * slot) (dirent_len_of sizes.version * slot + length bytes)) sizes (dirent_len_of sizes.version * slot) bytes d) (entered_to sizes n e q c mark x slot)
          else Ret (record { answer = above.NoSlot; carry = carry_index c n x })

      slot_so : (x : IndexState) (slot : ℕ) → plain (slot_in x slot) ≡ bind (code_enter_in sizes n d bytes x slot) rest
      slot_so x slot = by (nat_lt slot (most_slots sizes.version))
        where
          count : ℕ
          count = blocks_between (dirent_len_of sizes.version * slot) (dirent_len_of sizes.version * slot + length bytes)

          by : (t : Bool) → plain (if t then bind (write_blocks count sizes (dirent_len_of sizes.version * slot) bytes d) (entered_to sizes n e q c mark x slot) else Ret (record { answer = above.NoSlot; carry = carry_index c n x }))
              ≡ bind (if t then bind (write_part sizes n d (dirent_len_of sizes.version * slot) bytes) (entered_by sizes.version slot bytes x) else Ret (record { inode = d; room = room.NoSlot; index = x })) rest
          by true =
              then_plain (write_blocks count sizes (dirent_len_of sizes.version * slot) bytes d) (write_blocks count sizes (dirent_len_of sizes.version * slot) bytes d) (entered_to sizes n e q c mark x slot) (λ w. bind (store_written sizes n w) (λ r. bind (entered_by sizes.version slot bytes x r) rest))
              (plain_writes count sizes (dirent_len_of sizes.version * slot) bytes d) (writes_so x slot)
              ∙ sym (bind-assoc (write_part sizes n d (dirent_len_of sizes.version * slot) bytes) (entered_by sizes.version slot bytes x) rest ∙ bind-assoc (write_blocks count sizes (dirent_len_of sizes.version * slot) bytes d) (store_written sizes n) (λ r. bind (entered_by sizes.version slot bytes x r) rest))
          by false = refl

    enter_so : (l : Loaded) → plain (bind (seek_free sizes.version (acts (above.Enter n e q) above.Room mark) l) (λ o. slot_in l.inode o.index (slot_for sizes.version l.inode o.found))) ≡ bind (code_enter sizes n l q e) rest
    enter_so l =
        then_plain (seek_free sizes.version (acts (above.Enter n e q) above.Room mark) l) (search sizes.version Unused l) (λ o. slot_in l.inode o.index (slot_for sizes.version l.inode o.found)) (λ o. bind (enter_at sizes n l.inode bytes o) rest)
        (plain_seek sizes.version (acts (above.Enter n e q) above.Room mark) l) (λ o. slot_so l.inode o.index (slot_for sizes.version l.inode o.found))
        ∙ sym (bind-assoc (search sizes.version Unused l) (enter_at sizes n l.inode bytes) rest)

  module _ (p : EnterPart) (has : HasLock n before) (seat : enter_seat p.enter ≡ k) where
    abbrev had : Inode
    had = record { number = n; content = record_had (c n) }

    abbrev then_ : EnteredState → P (Handover above.EntryResult Carry)
    then_ r = bind (entered path m k before r) (λ r. Ret (record { answer = whole.entered_in r.answer.1; carry = r.carry }))

    by_room : (d : Dinode) (x : IndexState) (r : Room) → rest (record { inode = d; room = r; index = x }) ≡ then_ (record { inode = d; room = r; index = x })
    by_room d x room.There = λ i. Ret (record { answer = above.InPlace; carry = changes path m k n (record { inode = d; index = x }) before has.0 has.1 i })
    by_room d x room.NoBlock = λ i. Ret (record { answer = above.NoBlock; carry = changes path m k n (record { inode = d; index = x }) before has.0 has.1 i })
    by_room d x room.NoSlot = λ i. Ret (record { answer = above.NoSlot; carry = indexes path m k n x before has.0 has.1 i })

    pub enter_is_part : enter_left p.enter before ≡ code_enter sizes n (loaded_of v) q e → IsPart sizes c (above.Enter n e q) (enter_part_left path m p before)
    enter_is_part program mark =
        enter_so mark (loaded_of had)
        ∙ ap (λ (v : Inode). let r : P (Handover above.EntryResult Carry) = bind (code_enter sizes n (loaded_of v) q e) rest in r) (lock_is path m n before has.0)
        ∙ (λ i. bind (sym program i) (λ r. by_room r.inode r.index r.room i))
        ∙ sym (bind-assoc (enter_left p.enter before) (entered path m k before) (λ r. Ret (record { answer = whole.entered_in r.answer.1; carry = r.carry })))
        ∙ (λ i. bind (bind (enter_left p.enter before) (entered path m (sym seat i) before)) (λ r. Ret (record { answer = whole.entered_in r.answer.1; carry = r.carry })))

-- ---- it makes an operation at least

abbrev Asks : {A : Type 0} → P A → Type 0
Asks p = is_some (asks p) ≡ true

begins_so : {A B : Type 0} (p : P A) (f : A → P B) → Asks p → Asks (bind p f)
begins_so (Ret a) f e = absurd (cc e)
begins_so (Do op m k) f e = refl

goes_on_so : {A B : Type 0} (p : P A) (f : A → P B) → ((a : A) → Asks (f a)) → Asks (bind p f)
goes_on_so (Ret a) f e = e a
goes_on_so (Do op m k) f e = refl

fetch_asks : (d : Dinode) (a : Address) → Asks (fetch_at d a)
fetch_asks d (Direct i) = refl
fetch_asks d (InTable i) = refl

module _ (sizes : Super) (n : ℕ) (d : Dinode) (bytes : List ℕ) where
  slot_asks : (x : IndexState) (slot : ℕ) → nat_lt slot (most_slots sizes.version) ≡ true → Asks (code_enter_in sizes n d bytes x slot)
  slot_asks x slot fits =
      let p : P WriteResult = write_part sizes n d (dirent_len_of sizes.version * slot) bytes in
      let count : ℕ = blocks_between (dirent_len_of sizes.version * slot) (dirent_len_of sizes.version * slot + length bytes) in
      let some : Asks p = goes_on_so (write_blocks count sizes (dirent_len_of sizes.version * slot) bytes d) (store_written sizes n) (λ w. refl) in
      subst (λ (t : Bool). let q : P EnteredState = if t then bind p (entered_by sizes.version slot bytes x) else Ret (record { inode = d; room = room.NoSlot; index = x }) in Asks q) (sym fits) (begins_so p (entered_by sizes.version slot bytes x) some)

  -- if no block is left to be searched it has room for one slot more
  search_asks : (count k : ℕ) (x : IndexState) → (count ≡ 0 → slot_count sizes.version d < most_slots sizes.version) → let p : P Searched = search_from sizes.version count Unused d k x in Asks (bind p (enter_at sizes n d bytes))
  unfolding search_from
  search_asks zero k x room =
      let few : slot_count sizes.version d < most_slots sizes.version = room refl in
      slot_asks x (slot_count sizes.version d) (grind (arith, nat_tests, few))
  search_asks (suc count) k x room =
      let p : P Searched = bind (fetch_block d k) (look_at sizes.version Unused d k x (search_from sizes.version count Unused d (k + 1))) in
      begins_so p (enter_at sizes n d bytes) (begins_so (fetch_block d k) (look_at sizes.version Unused d k x (search_from sizes.version count Unused d (k + 1))) (fetch_asks d (address k)))

-- a slot that the index has free is one that a directory may have
below_found : (limit s : ℕ) (f : Found) → free_below limit s ≡ Some f → f.slot < limit
below_found limit s f e = by (nat_lt s limit) refl e
  where
    by : (b : Bool) → nat_lt s limit ≡ b → let o : Option Found = if b then Some (record { slot = s; number = 0 }) else None in o ≡ Some f → f.slot < limit
    by true lt e =
        let g : Found = record { slot = s; number = 0 } in
        let same : g ≡ f = cc e in
        let is : s ≡ f.slot = ap (λ (f : Found). f.slot) same in
        grind (arith, nat_tests, lt, is)
    by false lt e = absurd (cc e)

free_within : (v : Version) (l : Loaded) (f : Found) → first_of v Unused l.inode l.index ≡ Some f → f.slot < most_slots v
unfolding first_of
free_within v l f e =
    let lt : f.slot < min (slots_known v l.index) (slot_count v l.inode) = below_found (min (slots_known v l.index) (slot_count v l.inode)) (first_gap 0 (take index_room l.index.slots)) f e in
    omega (arith, lt)

module _ (sizes : Super) (n : ℕ) (l : Loaded) (bytes : List ℕ) where
  abbrev left : ℕ
  left = block_count sizes.version l.inode - l.index.blocks

  known_asks : (o : Option Found) → first_of sizes.version Unused l.inode l.index ≡ o → let p : P Searched = or_next o l.index (search_from sizes.version left Unused l.inode l.index.blocks) in Asks (bind p (enter_at sizes n l.inode bytes))
  known_asks (Some f) is = let within : f.slot < most_slots sizes.version = free_within sizes.version l f is in slot_asks sizes n l.inode bytes l.index f.slot (grind (arith, nat_tests, within))
  known_asks None is = search_asks sizes n l.inode bytes left l.index.blocks l.index (λ none. by (nat_lt (slot_count sizes.version l.inode) (most_slots sizes.version)) refl none)
    where
      by : (b : Bool) → nat_lt (slot_count sizes.version l.inode) (most_slots sizes.version) ≡ b → left ≡ 0 → slot_count sizes.version l.inode < most_slots sizes.version
      by true lt none = grind (arith, nat_tests, lt)
      by false ge none =
          let many : most_slots sizes.version ≤ slot_count sizes.version l.inode = grind (arith, nat_tests, ge) in
          let full : slot_count sizes.version l.inode ≡ most_slots sizes.version = omega (arith, many) in
          let few : l.index.blocks ≤ 2 = blocks_few sizes.version l full is in
          absurd (omega (arith, few, blocks_full sizes.version l.inode full, none))

pub never_over : (sizes : Super) (n : ℕ) (l : Loaded) (q : ℕ) (e : Name) (r : EnteredState) → let p : P EnteredState = Ret r in p ≡ code_enter sizes n l q e → ⊥
never_over sizes n l q e r over =
    let some : Asks (code_enter sizes n l q e) = known_asks sizes n l (spell_dirent sizes.version (Used q e)) (first_of sizes.version Unused l.inode l.index) refl in
    let none : is_some (asks (let p : P EnteredState = Ret r in p)) ≡ true = subst Asks (sym over) some in
    absurd (cc none)

-- ---- how it goes on

module _ (path : List ℕ) (m : Notes) (k : InodePlace) (before h : Hand) (beside : beside_index k h ≡ beside_index k before) where
  entered_same : (d : Dinode) (x : IndexState) (r : Room) → entered_so path m k before d x r ≡ entered_so path m k h d x r
  entered_same d x room.There = λ i. changed_over path m k (heard.Entered entry.InPlace) before h beside i (record { inode = d; index = x })
  entered_same d x room.NoBlock = λ i. changed_over path m k (heard.Entered entry.NoBlock) before h beside i (record { inode = d; index = x })
  entered_same d x room.NoSlot = λ i. Ret (record { answer = (path, heard.Entered entry.NoSlot); carry = indexed_over path m k x before h beside i })

module _ (path : List ℕ) (m : Notes) (p : EnterPart) (before h : Hand) (answer : (o : steps.Op) → steps.Answer o) (beside : beside_index (enter_seat p.enter) h ≡ beside_index (enter_seat p.enter) before) where
  pub enter_on : (q : EnterPart) → enter_seat q.enter ≡ enter_seat p.enter → Goes (enter_left p.enter before) answer (enter_left q.enter h) → Goes (enter_part_left path m p before) answer (enter_part_left path m q h)
  enter_on q seat goes =
      goes_with (enter_left p.enter before) (enter_left q.enter h) (entered path m (enter_seat p.enter) before) (entered path m (enter_seat q.enter) h) answer
      ((λ i r. entered_same path m (enter_seat p.enter) before h beside r.inode r.index r.room i) ∙ (λ i. entered path m (sym seat i) h)) goes

  pub enter_ends : (r : EnteredState) (q : Part) → entered path m (enter_seat p.enter) h r ≡ q → Goes (enter_left p.enter before) answer (Ret r) → Goes (enter_part_left path m p before) answer q
  enter_ends r q is goes =
      subst (λ (q : Part). Goes (enter_part_left path m p before) answer q) is
      (goes_with (enter_left p.enter before) (Ret r) (entered path m (enter_seat p.enter) before) (entered path m (enter_seat p.enter) h) answer (λ i r. entered_same path m (enter_seat p.enter) before h beside r.inode r.index r.room i) goes)
