-- What each operation on whole inodes has seen whose program ends without room.
use Rattle.run_laws.proofs.Vocabulary.{◌≡◌, ◌⊎◌, inl, inr, ◌<◌, ◌≤◌, ◌+◌, ◌-◌, ◌*◌, ◌/◌, ◌%◌, ℕ, zero, suc, ◌==◌, Bool, true, false, ◌&&◌, nat_lt, if◌then◌else◌, List, [], ◌∷◌, ◌++◌, length, Option, Some, None, IsSome, is_some, is_none, find, refl, sym, ◌∙◌, ap, subst, arith, length-append, nat_tests, length-replicate, Used, Dinode, IndexState, Loaded, no_index, Searched, Super, spell_dirent, with_entry, dinode_at, length-u16_bytes, Cause, Full, Blocks, Descriptors, Directory, DiskInodes, MemInodes, OpenFiles, Name, dot, dotdot, eq_self, same_or, In, Handover, Ret, ExecResult, Ran, Stops, Waits, bind, first_free, is_unreferenced, up_inode, place_in_memory, fetch, AnswerBelow as Answer, Op, claim_first, claims, in_tables, blocks_between, WriteResult, grown, store_written, write_blocks, write_part, free_among, free_in, inode_blocks, is_free_in, is_zero, inode_block, place_of, store, InodeType, ClaimResult, EntryResult, Wrote, Take, UnlockInode, UpStart, Up, WalkDown, Down, Free, Forget, Claim, Store, Fill, Enter, Clear, Empty, Slot, Install, StatFile, LockFile, ReadFile, CheckFile, JoinFile, LockOpen, WriteFile, Double, Shut, SetDirectory, Lend, LendDirectory, Release, Join, Leave, Say, dots, enter_in, entered_to, filled_to, put_grown, seek_free, Acts, acts, Carry, claim_at, claim_from, claim_in, put_named, handlers, loaded_in, record_in, with_index, give_written, refused_in, write_unless, kind_of, slot_for, most_slots, AnsweredStep, ClaimsFindReferences, ComesTo, HasRead, SawInUse, SawNoBlock, SawNoInode, SawNone, SearchesSeeAll, wanted_to_claim, wanted_to_double, wanted_to_enter, wanted_to_write, wanted_unless, wanted_without, dirent_len_of, new_directory_size_of, inodes_per_block, name_len_of, Version}
use Rattle.image_versions.proofs.Places.{in_range}
use Rattle.fs_machine.specs.Steps as steps
use Rattle.fs_machine.specs.Steps.{State, exec}
use Rattle.inode_machine.specs.World as above
use Rattle.inodes_on_blocks.specs.Handlers.{P}
use Rattle.run_laws.proofs.Searches.{fetched, in_back, in_front, read_back, read_front, saw_back, saw_front, split, written}

-- ---- names

pub spelled : (version : Version) (n : ℕ) (e : Name) → length e ≤ name_len_of version → length (spell_dirent version (Used n e)) ≡ dirent_len_of version
spelled version n e fits = simp (length-append, length-u16_bytes, length-replicate) (omega (arith, fits))

pub dots_spelled : (version : Version) (n d : ℕ) → length (dots version n d) ≡ new_directory_size_of version
dots_spelled version n d =
    length-append (spell_dirent version (Used n dot)) (spell_dirent version (Used d dotdot))
    ∙ (let wide = (in_range version).0 in
    let one = spelled version n dot (omega (arith, wide)) in
    let other = spelled version d dotdot (omega (arith, wide)) in
    omega (arith, one, other))

-- ---- the steps at an operation's end

module _ (sizes : Super) where
  named_ends : (op : above.Op) (outside : above.Outside) (m : above.Answer op
      → Option above.Mark) (answer : above.Answer op) (b n : ℕ) (l : Loaded) (c : Carry)
      (block : List ℕ) (es : List AnsweredStep) (r : Handover (above.Answer op) Carry)
      → ComesTo (put_named op outside m answer b n l c block) es r → r.answer ≡ answer
  named_ends op outside m answer b n l c block [] r q = absurd q
  named_ends op outside m answer b n l c block (e ∷ []) r q = sym (ap (λ (z : Handover (above.Answer op) Carry). z.answer) q.2)
  named_ends op outside m answer b n l c block (e ∷ x ∷ es) r q = absurd q.2

  grown_ends : (op : above.Op) (outside : above.Outside) (m : above.Answer op
      → Option above.Mark) (answer : above.Answer op) (n : ℕ) (c : Carry) (x : IndexState) (w : WriteResult)
      (es : List AnsweredStep) (r : Handover (above.Answer op) Carry) → ComesTo (put_grown op outside m answer sizes n c x w) es r
      → r.answer ≡ answer
  grown_ends op outside m answer n c x w es r q =
      let b : ℕ = inode_block sizes.inodestart n in
      let l : Loaded = record { inode = grown w; index = x } in
      let s = split (fetch b) (put_named op outside m answer b n l c) es r q in
      named_ends op outside m answer b n l c s.value s.back r s.then_

  in_use_behind : (es xs ys : List AnsweredStep) → es ≡ xs ++ ys → (n : ℕ) → SawInUse sizes ys n → SawInUse sizes es n
  in_use_behind es xs ys is n s =
      let b : ℕ = inode_block sizes.inodestart n in
      let e : AnsweredStep = (steps.Claim b s.candidates, steps.NoInode) in
      record {
        block = s.block;
        read = read_back es xs ys b s.block is s.read;
        candidates = s.candidates;
        claims = subst (λ (z : List AnsweredStep). In e z) (sym is) (in_back e xs ys s.claims);
        used = s.used;
      }

  pub seen_behind : (es xs ys : List AnsweredStep) → es ≡ xs ++ ys → (room : Full) → SawNone sizes ys room → SawNone sizes es room
  seen_behind es xs ys is MemInodes saw = tt
  seen_behind es xs ys is OpenFiles saw = tt
  seen_behind es xs ys is Descriptors saw = tt
  seen_behind es xs ys is Blocks saw = saw_back sizes es xs ys is saw
  seen_behind es xs ys is DiskInodes saw = λ n some below. in_use_behind es xs ys is n (saw n some below)
  seen_behind es xs ys is Directory saw = tt

  in_use_front : (es xs ys : List AnsweredStep) → es ≡ xs ++ ys → (n : ℕ) → SawInUse sizes xs n → SawInUse sizes es n
  in_use_front es xs ys is n s =
      let b : ℕ = inode_block sizes.inodestart n in
      let e : AnsweredStep = (steps.Claim b s.candidates, steps.NoInode) in
      record {
        block = s.block;
        read = read_front es xs ys b s.block is s.read;
        candidates = s.candidates;
        claims = subst (λ (z : List AnsweredStep). In e z) (sym is) (in_front e xs ys s.claims);
        used = s.used;
      }

  pub seen_front : (es xs ys : List AnsweredStep) → es ≡ xs ++ ys → (room : Full) → SawNone sizes xs room → SawNone sizes es room
  seen_front es xs ys is MemInodes saw = tt
  seen_front es xs ys is OpenFiles saw = tt
  seen_front es xs ys is Descriptors saw = tt
  seen_front es xs ys is Blocks saw = saw_front sizes es xs ys is saw
  seen_front es xs ys is DiskInodes saw = λ n some below. in_use_front es xs ys is n (saw n some below)
  seen_front es xs ys is Directory saw = tt

  -- the write ended at k, or no block was seen
  none_or : (es xs ys : List AnsweredStep) → es ≡ xs ++ ys → (w : WriteResult) (k : ℕ) → SawNoBlock sizes xs ⊎ (w.upto ≡ k)
      → SawNoBlock sizes es ⊎ (w.upto ≡ k)
  none_or es xs ys is w k (inl saw) = inl (saw_front sizes es xs ys is saw)
  none_or es xs ys is w k (inr upto) = inr upto

  -- of this kind the room was wanted
  of_kind : (es : List AnsweredStep) (kind : Full) → SawNone sizes es kind → (room : Full) → Some kind ≡ Some room → SawNone sizes es room
  of_kind es kind saw room e = subst (SawNone sizes es) (let q : kind ≡ room = cc in q) saw

  -- ---- names

  module _ (d : ℕ) (e : Name) (n : ℕ) (fits : length e ≤ name_len_of sizes.version) (c : Carry) (m : EntryResult → Option above.Mark) where
    abbrev entry : List ℕ
    entry = spell_dirent sizes.version (Used n e)

    -- all of it was written, or no block was seen
    entered_sees : (es ys : List AnsweredStep) (x : IndexState) (slot : ℕ) (w : WriteResult) (r : Handover EntryResult Carry)
        → SawNoBlock sizes es ⊎ (w.upto ≡ dirent_len_of sizes.version * slot + length (spell_dirent sizes.version (Used n e)))
        → ComesTo (entered_to sizes d e n c m x slot w) ys r
        → (room : Full) → wanted_to_enter r.answer ≡ Some room → SawNone sizes es room
    entered_sees es ys x slot w r saw q room want = at (w.upto == dirent_len_of sizes.version * (slot + 1)) refl q
      where
        whole : w.upto ≡ dirent_len_of sizes.version * slot + length (spell_dirent sizes.version (Used n e)) → (w.upto == dirent_len_of sizes.version * (slot + 1)) ≡ true
        whole upto =
            let long = spelled sizes.version n e fits in
            let all : w.upto ≡ dirent_len_of sizes.version * (slot + 1) = omega (arith, upto, long) in
            ap (λ (z : ℕ). z == dirent_len_of sizes.version * (slot + 1)) all ∙ eq_self (dirent_len_of sizes.version * (slot + 1))

        at : (b : Bool) → (w.upto == dirent_len_of sizes.version * (slot + 1)) ≡ b
            → ComesTo (if b then put_grown (Enter d e n) above.Room m above.InPlace sizes d c (with_entry sizes.version slot entry x) w else put_grown
            (Enter d e n) (above.RoomFor 0) m above.NoBlock sizes d c x w) ys r
            → SawNone sizes es room
        at true is p =
            let a = grown_ends (Enter d e n) above.Room m above.InPlace d c (with_entry sizes.version slot entry x) w ys r p in
            absurd (let z : None ≡ Some room = ap wanted_to_enter (sym a) ∙ want in cc)
        at false is p =
            let a = grown_ends (Enter d e n) (above.RoomFor 0) m above.NoBlock d c x w ys r p in
            elim saw [
              | inl none ↦ of_kind es Blocks none room (ap wanted_to_enter (sym a) ∙ want)
              | inr upto ↦ absurd (let z : true ≡ false = sym (whole upto) ∙ is in cc)
            ]

    enter_in_sees : (es : List AnsweredStep) (x : IndexState) (slot : ℕ) (r : Handover EntryResult Carry)
        → ComesTo (enter_in sizes d e n c m x slot) es r → (room : Full) → wanted_to_enter r.answer ≡ Some room → SawNone sizes es room
    enter_in_sees es x slot r q room want = at (nat_lt slot (most_slots sizes.version)) es q
      where
        count : ℕ
        count = blocks_between (dirent_len_of sizes.version * slot) (dirent_len_of sizes.version * slot + length (spell_dirent sizes.version (Used n e)))

        full : P (Handover EntryResult Carry)
        full = Ret (record { answer = above.NoSlot; carry = with_index c d x })

        at : (b : Bool) (es : List AnsweredStep)
            → ComesTo (if b then bind (write_blocks count sizes (dirent_len_of sizes.version * slot) (spell_dirent sizes.version (Used n e)) (record_in c d))
            (entered_to sizes d e n c m x slot) else full) es r
            → SawNone sizes es room
        at true es p =
            let s = split (write_blocks count sizes (dirent_len_of sizes.version * slot) (spell_dirent sizes.version (Used n e)) (record_in c d))
            (entered_to sizes d e n c m x slot) es r p in
            let w = written sizes count (dirent_len_of sizes.version * slot) (spell_dirent sizes.version (Used n e)) (record_in c d) s.front s.value refl s.first in
            let long : ℕ = dirent_len_of sizes.version * slot + length (spell_dirent sizes.version (Used n e)) in
            entered_sees es s.back x slot s.value r (none_or es s.front s.back s.is s.value long w) s.then_ room want
        at false [] p = of_kind [] Directory tt room (ap (λ (z : Handover EntryResult Carry). wanted_to_enter z.answer) p ∙ want)
        at false (y ∷ es) p = absurd p

    pub enter_sees : (es : List AnsweredStep) (r : Handover EntryResult Carry) → ComesTo (handlers sizes c (Enter d e n) m) es r
        → (room : Full) → wanted_to_enter r.answer ≡ Some room → SawNone sizes es room
    enter_sees es r q room want =
        let s = split (seek_free sizes.version (acts (Enter d e n) above.Room m) (loaded_in c d))
        (λ o. enter_in sizes d e n c m o.index (slot_for sizes.version (record_in c d) o.found)) es r q in
        let o : Searched = s.value in
        seen_behind es s.front s.back s.is room (enter_in_sees s.back o.index (slot_for sizes.version (record_in c d) o.found) r s.then_ room want)

  -- ---- a new directory's two names

  module _ (n d : ℕ) (c : Carry) (m : Bool → Option above.Mark) where
    filled_sees : (es ys : List AnsweredStep) (w : WriteResult) (r : Handover Bool Carry)
        → SawNoBlock sizes es ⊎ (w.upto ≡ 0 + length (dots sizes.version n d))
        → ComesTo (filled_to sizes n d c m w) ys r → (room : Full) → wanted_unless Blocks r.answer ≡ Some room → SawNone sizes es room
    filled_sees es ys w r saw q room want = at (w.upto == new_directory_size_of sizes.version) refl q
      where
        whole : w.upto ≡ 0 + length (dots sizes.version n d) → (w.upto == new_directory_size_of sizes.version) ≡ true
        whole upto =
            let long = dots_spelled sizes.version n d in
            let all : w.upto ≡ new_directory_size_of sizes.version = omega (arith, upto, long) in
            ap (λ (z : ℕ). z == new_directory_size_of sizes.version) all ∙ eq_self (new_directory_size_of sizes.version)

        at : (b : Bool) → (w.upto == new_directory_size_of sizes.version) ≡ b
            → ComesTo (if b then put_grown (Fill n d) above.Room m true sizes n c no_index w else put_grown (Fill n d)
            (above.RoomFor 0) m false sizes n c no_index w) ys r
            → SawNone sizes es room
        at true is p =
            let a = grown_ends (Fill n d) above.Room m true n c no_index w ys r p in
            absurd (let z : None ≡ Some room = ap (wanted_unless Blocks) (sym a) ∙ want in cc)
        at false is p =
            let a = grown_ends (Fill n d) (above.RoomFor 0) m false n c no_index w ys r p in
            elim saw [
              | inl none ↦ of_kind es Blocks none room (ap (wanted_unless Blocks) (sym a) ∙ want)
              | inr upto ↦ absurd (let z : true ≡ false = sym (whole upto) ∙ is in cc)
            ]

    fill_sees : (es : List AnsweredStep) (r : Handover Bool Carry) → ComesTo (handlers sizes c (Fill n d) m) es r
        → (room : Full) → wanted_unless Blocks r.answer ≡ Some room → SawNone sizes es room
    fill_sees es r q room want =
        let count : ℕ = blocks_between 0 (0 + length (dots sizes.version n d)) in
        let s = split (write_blocks count sizes 0 (dots sizes.version n d) (record_in c n)) (filled_to sizes n d c m) es r q in
        let w = written sizes count 0 (dots sizes.version n d) (record_in c n) s.front s.value refl s.first in
        filled_sees es s.back s.value r (none_or es s.front s.back s.is s.value (0 + length (dots sizes.version n d)) w) s.then_ room want

  -- ---- a piece of a file

  module _ (fd n offset : ℕ) (bytes : List ℕ) (c : Carry) (m : Wrote → Option above.Mark) where
    -- the inode is stored, and the place up to which it was written stays the same
    pub stored_upto : (w v : WriteResult) (es : List AnsweredStep) → ComesTo {M = Acts} (store_written sizes n w) es v → v.upto ≡ w.upto
    stored_upto w v es q =
        let s = split (store sizes.inodestart n (grown w)) (λ _. ends) es v q in
        last s.back s.then_
      where
        ends : P WriteResult
        ends = Ret (record { inode = grown w; upto = w.upto })

        last : (ys : List AnsweredStep) → ComesTo ends ys v → v.upto ≡ w.upto
        last [] p = sym (ap (λ (z : WriteResult). z.upto) p)
        last (y ∷ ys) p = absurd p

    wrote_sees : (es ys : List AnsweredStep) (v : WriteResult) (r : Handover Wrote Carry)
        → SawNoBlock sizes es ⊎ (v.upto ≡ offset + length bytes)
        → ComesTo (give_written fd n offset bytes m c v) ys r → (room : Full) → wanted_to_write r.answer ≡ Some room
        → SawNone sizes es room
    wrote_sees es [] v r saw q room want = absurd q
    wrote_sees es (y ∷ x ∷ ys) v r saw q room want = absurd q.2
    wrote_sees es (y ∷ []) v r saw q room want =
        at (v.upto == offset + length bytes) refl (ap (λ (z : Handover Wrote Carry). wanted_to_write z.answer) q.2 ∙ want)
      where
        at : (b : Bool) → (v.upto == offset + length bytes) ≡ b
            → wanted_to_write (if b then above.Whole else above.Short (v.upto - offset)) ≡ Some room
            → SawNone sizes es room
        at true is e = absurd (let z : None ≡ Some room = e in cc)
        at false is e = elim saw [
          | inl none ↦ of_kind es Blocks none room e
          | inr upto ↦ absurd (
              let whole : (v.upto == offset + length bytes) ≡ true =
              ap (λ (z : ℕ). z == offset + length bytes) upto ∙ eq_self (offset + length bytes) in
              let z : true ≡ false = sym whole ∙ is in cc)
        ]

    unless_sees : (o : Option Cause) (es : List AnsweredStep) (r : Handover Wrote Carry)
        → ComesTo (write_unless sizes fd n offset bytes m c o) es r
        → (room : Full) → wanted_to_write r.answer ≡ Some room → SawNone sizes es room
    unless_sees (Some why) [] r q room want = absurd q
    unless_sees (Some why) (y ∷ x ∷ ys) r q room want = absurd q.2
    unless_sees (Some why) (y ∷ []) r q room want =
        absurd (let z : None ≡ Some room = ap (λ (z : Handover Wrote Carry). wanted_to_write z.answer) q.2 ∙ want in cc)
    unless_sees None es r q room want =
        let d : Dinode = record_in c n in
        let count : ℕ = blocks_between offset (offset + length bytes) in
        let s = split (write_part sizes n d offset bytes) (give_written fd n offset bytes m c) es r q in
        let t = split (write_blocks count sizes offset bytes d) (store_written sizes n) s.front s.value s.first in
        let w = none_or s.front t.front t.back t.is t.value (offset + length bytes)
        (written sizes count offset bytes d t.front t.value refl t.first) in
        let v = none_or es s.front s.back s.is s.value (offset + length bytes)
        (same s.front t.value s.value (stored_upto t.value s.value t.back t.then_) w) in
        wrote_sees es s.back s.value r v s.then_ room want
      where
        same : (xs : List AnsweredStep) (w v : WriteResult) → v.upto ≡ w.upto → SawNoBlock sizes xs ⊎ (w.upto ≡ offset + length bytes)
            → SawNoBlock sizes xs ⊎ (v.upto ≡ offset + length bytes)
        same xs w v e (inl saw) = inl saw
        same xs w v e (inr upto) = inr (e ∙ upto)

  -- ---- a new inode

  -- a block of inodes was read, and none of its free ones could be claimed
  pub record PassedBlock (es : List AnsweredStep) (q : ℕ) : Type 0 where
    pub block : List ℕ
    pub read : HasRead es (sizes.inodestart + q) block
    pub claims : In (steps.Claim (sizes.inodestart + q) (free_in sizes.ninodes q block), steps.NoInode) es

  passed_behind : (es xs ys : List AnsweredStep) → es ≡ xs ++ ys → (q : ℕ) → PassedBlock ys q → PassedBlock es q
  passed_behind es xs ys is q s =
      let e : AnsweredStep = (steps.Claim (sizes.inodestart + q) (free_in sizes.ninodes q s.block), steps.NoInode) in
      record {
        block = s.block;
        read = read_back es xs ys (sizes.inodestart + q) s.block is s.read;
        claims = subst (λ (z : List AnsweredStep). In e z) (sym is) (in_back e xs ys s.claims);
      }

  module _ (inode_type : InodeType) (c : Carry) (m : ClaimResult → Option above.Mark) where
    abbrev Made : Type 0
    Made = Handover ClaimResult Carry

    no_answer : (a : ClaimResult) (es : List AnsweredStep) (r : Made) → wanted_to_claim r.answer ≡ Some DiskInodes
        → ComesTo {M = Acts} (Ret (record { answer = a; carry = c })) es r → wanted_to_claim a ≡ Some DiskInodes
    no_answer a [] r want q = ap (λ (z : Made). wanted_to_claim z.answer) q ∙ want
    no_answer a (y ∷ es) r want q = absurd q

    -- a block of inodes was looked through, and so were the ones after it
    record Passes (q : ℕ) (block : List ℕ) (more : P Made) (ys : List AnsweredStep) (r : Made) : Type 0 where
      claims : In (steps.Claim (sizes.inodestart + q) (free_in sizes.ninodes q block), steps.NoInode) ys
      step : AnsweredStep
      later : List AnsweredStep
      is : ys ≡ (step ∷ []) ++ later
      goes : ComesTo more later r

    passes : (k q : ℕ) (block : List ℕ) (more : P Made) (ys : List AnsweredStep) (r : Made) → wanted_to_claim r.answer ≡ Some DiskInodes
        → ComesTo (claim_at more sizes inode_type c m k q (sizes.inodestart + q) block) ys r → Passes q block more ys r
    passes k q block more [] r want p = absurd p
    passes k q block more (y ∷ ys) r want p = at p.0 p.1 ys p.2
      where
        b : ℕ
        b = sizes.inodestart + q

        at : (a : steps.ClaimResult) → y ≡ (steps.Claim b (free_in sizes.ninodes q block), a) → (ys : List AnsweredStep)
            → ComesTo (claim_in more (kind_of inode_type) b block c a) ys r → Passes q block more (y ∷ ys) r
        at steps.NoInode is ys p = record { claims = inl (sym is); step = y; later = ys; is = refl; goes = p }
        at steps.NoPlace is [] p = absurd p
        at steps.NoPlace is (z ∷ ys) p = absurd (let e : Some MemInodes ≡ Some DiskInodes = no_answer above.NoPlace ys r want p.2 in cc)
        at (steps.Claims i) is [] p = absurd p
        at (steps.Claims i) is (z ∷ ys) p = absurd (let e : None ≡ Some DiskInodes = no_answer (above.New i) ys r want p.2 in cc)

    pick : (k q : ℕ) (es xs ys : List AnsweredStep) (r : Made) (block : List ℕ) → es ≡ xs ++ ys → HasRead xs (sizes.inodestart + q) block
        → (more : P Made) → Passes q block more ys r
        → ((zs : List AnsweredStep) → ComesTo more zs r → (i : ℕ) → i < k → PassedBlock zs (q + 1 + i))
        → (j : ℕ) → j < suc k → PassedBlock es (q + j)
    pick k q es xs ys r block is read more p rest zero lt =
        let e : AnsweredStep = (steps.Claim (sizes.inodestart + q) (free_in sizes.ninodes q block), steps.NoInode) in
        let same : q ≡ q + 0 = omega arith in
        subst (λ (z : ℕ). PassedBlock es z) same
        (record {
          block = block;
          read = read_front es xs ys (sizes.inodestart + q) block is read;
          claims = subst (λ (z : List AnsweredStep). In e z) (sym is) (in_back e xs ys p.claims);
        })
    pick k q es xs ys r block is read more p rest (suc j) lt =
        let same : q + 1 + j ≡ q + suc j = omega arith in
        subst (λ (z : ℕ). PassedBlock es z) same
        (passed_behind es xs ys is (q + 1 + j) (passed_behind ys (p.step ∷ []) p.later p.is (q + 1 + j)
        (rest p.later p.goes j (omega (arith, lt)))))

    -- block q is passed over, and then the ones after it
    claim_passes : (k q : ℕ) (es : List AnsweredStep) (r : Made) → wanted_to_claim r.answer ≡ Some DiskInodes
        → ComesTo (claim_from k sizes inode_type c m q) es r → (j : ℕ) → j < k → PassedBlock es (q + j)
    unfolding claim_from
    claim_passes zero q es r want p j lt = absurd (omega (arith, lt))
    claim_passes (suc k) q es r want p j lt =
        let more = claim_from k sizes inode_type c m (q + 1) in
        let s = split (fetch (sizes.inodestart + q)) (claim_at more sizes inode_type c m k q (sizes.inodestart + q)) es r p in
        pick k q es s.front s.back r s.value s.is (fetched (sizes.inodestart + q) s.front s.value s.first) more
        (passes k q s.value more s.back r want s.then_) (λ zs goes i below. claim_passes k (q + 1) zs r want goes i below) j lt

    -- an inode that is free in its block is among those of the block that are
    is_among : (first : ℕ) (block : List ℕ) (k j : ℕ) → j < k → is_free_in sizes.ninodes block (first + j) ≡ true
        → In (first + j) (free_among sizes.ninodes first block k)
    unfolding free_among
    is_among first block zero j lt free = absurd (omega (arith, lt))
    is_among first block (suc k) j lt free = elim (same_or j k) [
      | inr other ↦ in_front (first + j) (free_among sizes.ninodes first block k) _
          (is_among first block k j (omega (arith, lt, other)) free)
      | inl same ↦
          in_back (first + j) (free_among sizes.ninodes first block k) _
          (alone (is_free_in sizes.ninodes block (first + k))
          (ap (λ (z : ℕ). is_free_in sizes.ninodes block (first + z)) (sym same) ∙ free) (ap (λ (z : ℕ). first + z) same))
    ]
      where
        alone : (b : Bool) → b ≡ true → first + j ≡ first + k → In (first + j) (if b then (first + k) ∷ [] else [])
        alone true e same = inl same
        alone false e same = absurd (let z : false ≡ true = e in cc)

    claim_sees : (es : List AnsweredStep) (r : Made) → ComesTo (handlers sizes c (Claim inode_type) m) es r
        → wanted_to_claim r.answer ≡ Some DiskInodes → SawNoInode sizes es
    claim_sees es r q want n some below =
        let at : n / inodes_per_block < inode_blocks sizes.ninodes = omega (arith, below) in
        let same : 0 + n / inodes_per_block ≡ n / inodes_per_block = omega arith in
        let p = subst (λ (z : ℕ). PassedBlock es z) same
        (claim_passes (inode_blocks sizes.ninodes) 0 es r want q (n / inodes_per_block) at) in
        record {
          block = p.block;
          read = p.read;
          candidates = free_in sizes.ninodes (n / inodes_per_block) p.block;
          claims = p.claims;
          used = by p.block (is_zero (dinode_at (place_of n) p.block).kind) refl;
        }
      where
        numbers : (nat_lt 0 n && nat_lt n sizes.ninodes) ≡ true
        numbers = grind (arith, nat_tests, some, below)

        place : inodes_per_block * (n / inodes_per_block) + n % inodes_per_block ≡ n
        place = omega arith

        by : (block : List ℕ) (b : Bool) → is_zero (dinode_at (place_of n) block).kind ≡ b
            → (is_zero (dinode_at (place_of n) block).kind ≡ false) ⊎ In n (free_in sizes.ninodes (n / inodes_per_block) block)
        by block false e = inl e
        by block true e =
            let free : is_free_in sizes.ninodes block n ≡ true = (λ i. numbers i && e i) in
            inr (subst (λ (z : ℕ). In z (free_in sizes.ninodes (n / inodes_per_block) block)) place
            (is_among (inodes_per_block * (n / inodes_per_block)) block inodes_per_block (n % inodes_per_block) (omega arith)
            (ap (is_free_in sizes.ninodes block) place ∙ free)))

    claim_ends : (es : List AnsweredStep) (r : Made) → ComesTo (handlers sizes c (Claim inode_type) m) es r
        → (room : Full) → wanted_to_claim r.answer ≡ Some room → SawNone sizes es room
    claim_ends es r q MemInodes want = tt
    claim_ends es r q OpenFiles want = tt
    claim_ends es r q Descriptors want = tt
    claim_ends es r q Directory want = tt
    claim_ends es r q DiskInodes want = claim_sees es r q want
    claim_ends es r q Blocks want = absurd (never r.answer want)
      where
        never : (a : ClaimResult) → wanted_to_claim a ≡ Some Blocks → ⊥
        never (above.New i) e = let z : None ≡ Some Blocks = e in cc
        never above.NoInode e = let z : Some DiskInodes ≡ Some Blocks = e in cc
        never above.NoPlace e = let z : Some MemInodes ≡ Some Blocks = e in cc

  -- ---- all operations

  without_room : {A : Type 0} (es : List AnsweredStep) (kind : Full) → SawNone sizes es kind → (o : Option A) (room : Full)
      → wanted_without kind o ≡ Some room → SawNone sizes es room
  without_room es kind saw None room e = of_kind es kind saw room e
  without_room es kind saw (Some a) room e = absurd (let z : None ≡ Some room = e in cc)

  unless_room : (es : List AnsweredStep) (kind : Full) → SawNone sizes es kind → (b : Bool) (room : Full)
      → wanted_unless kind b ≡ Some room → SawNone sizes es room
  unless_room es kind saw false room e = of_kind es kind saw room e
  unless_room es kind saw true room e = absurd (let z : None ≡ Some room = e in cc)

  double_room : (es : List AnsweredStep) (o : Option (Option ℕ)) (room : Full) → wanted_to_double o ≡ Some room → SawNone sizes es room
  double_room es None room e = absurd (let z : None ≡ Some room = e in cc)
  double_room es (Some None) room e = of_kind es Descriptors tt room e
  double_room es (Some (Some fd)) room e = absurd (let z : None ≡ Some room = e in cc)

  nothing_wanted : (es : List AnsweredStep) (room : Full) → ◌≡◌ {A = Option Full} None (Some room) → SawNone sizes es room
  nothing_wanted es room e = absurd cc

pub all_see : SearchesSeeAll
all_see sizes c (UpStart absolute) m es r room fits q want = without_room sizes es MemInodes tt r.answer room want
all_see sizes c (Up n) m es r room fits q want = unless_room sizes es MemInodes tt r.answer room want
all_see sizes c (Claim inode_type) m es r room fits q want = claim_ends sizes inode_type c m es r q room want
all_see sizes c (Fill n d) m es r room fits q want = fill_sees sizes n d c m es r q room want
all_see sizes c (Enter d e n) m es r room fits q want = enter_sees sizes d e n fits c m es r q room want
all_see sizes c Slot m es r room fits q want = unless_room sizes es OpenFiles tt r.answer room want
all_see sizes c (Install f inode_type) m es r room fits q want = without_room sizes es Descriptors tt r.answer room want
all_see sizes c (WriteFile fd n offset bytes) m es r room fits q want =
    unless_sees sizes fd n offset bytes c m (refused_in (record_in c n) offset bytes) es r q room want
all_see sizes c (Double fd) m es r room fits q want = double_room sizes es r.answer room want
all_see sizes c (Take n looking) m es r room fits q want = nothing_wanted sizes es room want
all_see sizes c (UnlockInode n) m es r room fits q want = nothing_wanted sizes es room want
all_see sizes c (WalkDown n) m es r room fits q want = nothing_wanted sizes es room want
all_see sizes c (Down n) m es r room fits q want = nothing_wanted sizes es room want
all_see sizes c (Free n) m es r room fits q want = nothing_wanted sizes es room want
all_see sizes c (Forget n) m es r room fits q want = nothing_wanted sizes es room want
all_see sizes c (Store n count) m es r room fits q want = nothing_wanted sizes es room want
all_see sizes c (Clear d e) m es r room fits q want = nothing_wanted sizes es room want
all_see sizes c (Empty n) m es r room fits q want = nothing_wanted sizes es room want
all_see sizes c (StatFile fd) m es r room fits q want = nothing_wanted sizes es room want
all_see sizes c (LockFile fd) m es r room fits q want = nothing_wanted sizes es room want
all_see sizes c (ReadFile fd n offset count) m es r room fits q want = nothing_wanted sizes es room want
all_see sizes c (CheckFile fd) m es r room fits q want = nothing_wanted sizes es room want
all_see sizes c (JoinFile fd) m es r room fits q want = nothing_wanted sizes es room want
all_see sizes c (LockOpen fd n) m es r room fits q want = nothing_wanted sizes es room want
all_see sizes c (Shut fd) m es r room fits q want = nothing_wanted sizes es room want
all_see sizes c (SetDirectory n) m es r room fits q want = nothing_wanted sizes es room want
all_see sizes c (Lend child from) m es r room fits q want = nothing_wanted sizes es room want
all_see sizes c (LendDirectory child) m es r room fits q want = nothing_wanted sizes es room want
all_see sizes c (Release child) m es r room fits q want = nothing_wanted sizes es room want
all_see sizes c Join m es r room fits q want = nothing_wanted sizes es room want
all_see sizes c Leave m es r room fits q want = nothing_wanted sizes es room want
all_see sizes c Say m es r room fits q want = nothing_wanted sizes es room want

-- ---- what a claim finds

found_none : (p : ℕ → Bool) (xs : List ℕ) → find p xs ≡ None → (n : ℕ) → In n xs → p n ≡ false
found_none p [] e n i = absurd i
found_none p (x ∷ xs) e n i = at (p x) refl e (λ q later. found_none p xs q n later)
  where
    at : (b : Bool) → p x ≡ b → (if b then Some x else find p xs) ≡ None → (find p xs ≡ None → In n xs → p n ≡ false) → p n ≡ false
    at true is q rest = absurd (let z : Some x ≡ None = q in cc)
    at false is q rest = elim i [ inl same ↦ ap p same ∙ is | inr later ↦ rest q later ]

pub claims_find : ClaimsFindReferences
unfolding exec
claims_find h x b candidates s t e n i = at (first_free s.tables.entries candidates) refl e
  where
    never : (d : ExecResult (Option ℕ) State) → claims d ≡ Ran steps.NoInode t → ⊥
    never Waits q = cc
    never (Ran None u) q = cc
    never (Ran (Some k) u) q = cc
    never (Stops u) q = cc

    there : (o : Option ℕ) → is_none o ≡ false → is_some o ≡ true
    there None q = absurd (let z : true ≡ false = q in cc)
    there (Some k) q = refl

    at : (o : Option ℕ) → first_free s.tables.entries candidates ≡ o → claim_first h b s o ≡ Ran steps.NoInode t
        → IsSome (place_in_memory n s.tables.entries)
    at None is q = there (place_in_memory n s.tables.entries) (found_none (is_unreferenced s.tables.entries) candidates is n i)
    at (Some k) is q = absurd (never (in_tables s (up_inode k s.tables)) q)
