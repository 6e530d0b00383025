-- A read hands back a buffer of the length that it was given, with its own bytes after those that it read.
use Rattle.locked_world.proofs.Vocabulary.{◌≡◌, ℕ, zero, suc, ◌+◌, ◌-◌, ◌/◌, ◌%◌, ◌≤◌, List, [], ◌++◌, length, take, drop, Option, Some, None, refl, arith, drop-append-drop, length-append, length-drop, length-take, overwrite, Dinode, Super, Read, Reply, Handover, lowered, Prog, Ret, Do, bind, plain, LockedState, Locks, fetch, read_unless, Op, Answer, Get, Address, Direct, InTable, address, table_of, FetchedBlock, FilledMemory, filled_with, give_fetched, fetch_number, fetch_named, fetch_at, fetch_block, next_block, blocks_between, part_of, read_part, read_blocks, end_of, read_from, read_on, read_program, read_reply, own_step, say, machine, LockResult, NotLocked, LocksIt, load_unless, file_locked, give_read, read_file, with_file, Carry, handlers, record_in, layer, HandsBack, KeepsAfter, FitsBlock, EndsWith}
use Rattle.atomic_programs.specs.Joined.{Act}
use Rattle.plain_tree.specs.declared.step.Action.TheVariants as actions
use Rattle.fs_machine.specs.Inodes.{Refuses}
use Rattle.inode_machine.specs.World as above

-- wherever a program with marks ends
abbrev pub Ends : {M A : Type 0} → (A → Type 0) → Prog Op Answer M A → Type 0
Ends Is (Ret a) = Is a
Ends Is (Do op m k) = (a : Answer op) → FitsBlock op a → Ends Is (k a)

pub ends_plain : {M A : Type 0} (Is : A → Type 0) (p : Prog Op Answer M A) → Ends Is p → EndsWith Is (plain p)
ends_plain Is (Ret a) e = e
ends_plain Is (Do op m k) e = λ a fits. ends_plain Is (k a) (e a fits)

ends_bind : {M A B : Type 0} (Is : B → Type 0) (Mid : A → Type 0) (p : Prog Op Answer M A) (f : A → Prog Op Answer M B) → Ends Mid p → ((a : A) → Mid a → Ends Is (f a)) → Ends Is (bind p f)
ends_bind Is Mid (Ret a) f e g = g a e
ends_bind Is Mid (Do op m k) f e g = λ a fits. ends_bind Is Mid (k a) f (e a fits) g

ends_any : {M A : Type 0} (p : Prog Op Answer M A) → Ends (λ a. Unit {0}) p
ends_any (Ret a) = tt
ends_any (Do op m k) = λ a fits. ends_any (k a)

-- ---- a block that is fetched

abbrev IsShort : FetchedBlock → Type 0
IsShort f = length f.bytes ≤ 1024

-- as an operation on whole inodes is marked
abbrev M : Type 0
M = Act above.Op above.Answer above.Mark above.Outside

fetched_short : (b : ℕ) → Ends {M = M} (λ (bytes : List ℕ). length bytes ≤ 1024) (fetch b)
fetched_short b = λ o fits. by o fits
  where
    by : (o : Option (List ℕ)) → FitsBlock (Get b) o → Ends {M = M} (λ (bytes : List ℕ). length bytes ≤ 1024) (read_unless b o)
    by None fits = λ bytes short. short
    by (Some bytes) fits = fits

number_short : (b : ℕ) → Ends {M = M} IsShort (fetch_number b)
number_short b = ends_bind IsShort (λ (bytes : List ℕ). length bytes ≤ 1024) (fetch b) (give_fetched b) (fetched_short b) (λ bytes short. short)

at_short : (d : Dinode) (a : Address) → Ends {M = M} IsShort (fetch_at d a)
at_short d (Direct i) = number_short _
at_short d (InTable i) = ends_bind IsShort (λ (bytes : List ℕ). Unit {0}) (fetch (table_of d)) (fetch_named (table_of d) i) (ends_any (fetch (table_of d))) (λ bytes u a fits. number_short _)

-- ---- what is read

appended : (bytes part : List ℕ) (at : ℕ) → at ≡ length bytes → length (overwrite bytes at part) ≡ length bytes + length part
appended bytes part at is =
    omega (arith, is, length-append (take at bytes) (part ++ drop (at + length part) bytes), length-append part (drop (at + length part) bytes), length-take at bytes, length-drop (at + length part) bytes)

part_few : (from upto : ℕ) (block : List ℕ) → length block ≤ 1024 → length (part_of from upto block) ≤ upto - from
part_few from upto block short = omega (arith, length-take (upto - from) (drop (from % 1024) block))

part_within : (from upto : ℕ) (block : List ℕ) → length block ≤ 1024 → length (part_of from upto block) + from ≤ next_block from
part_within from upto block short = omega (arith, short, length-take (upto - from) (drop (from % 1024) block), length-drop (from % 1024) block)

-- all that is read, after what was read before
abbrev AreFew : ℕ → FilledMemory → Type 0
AreFew most f = length f.bytes ≤ most

blocks_few : (n : ℕ) (d : Dinode) (from upto most : ℕ) (m : FilledMemory) → m.count ≡ length m.bytes → length m.bytes + (upto - from) ≤ most → Ends {M = M} (AreFew most) (read_blocks n d from upto m)
unfolding read_blocks
blocks_few zero d from upto most m count room = omega (arith, room)
blocks_few (suc n) d from upto most m count room =
    ends_bind (AreFew most) IsShort (fetch_block d (from / 1024)) (read_part (read_blocks n d (next_block from) upto) from upto m) (at_short d (address (from / 1024)))
    (λ f short a fits.
    let part : List ℕ = part_of from upto f.bytes in
    let few = part_few from upto f.bytes short in
    let within = part_within from upto f.bytes short in
    let long : length (filled_with m part).bytes ≡ length m.bytes + length part = appended m.bytes part m.count count in
    let same : (filled_with m part).count ≡ length (filled_with m part).bytes = omega (arith, long, count) in
    let left : length (filled_with m part).bytes + (upto - next_block from) ≤ most = omega (arith, few, within, room, long) in
    blocks_few n d (next_block from) upto most (filled_with m part) same left)

-- ---- the call

module _ (sizes : Super) (fd : ℕ) (buffer : List ℕ) where
  abbrev HandsIt : Reply → Type 0
  HandsIt = HandsBack (Read fd buffer)

  -- no more bytes were read than the buffer has
  abbrev Fits : Handover (List ℕ) Carry → Type 0
  Fits r = length r.answer ≤ length buffer

  -- a buffer in which nothing was put
  unread : (back : List ℕ) × (Read fd buffer ≡ Read fd back) × KeepsAfter 0 buffer back
  unread = (buffer, refl, (refl, refl))

  replies : (c : Carry) (b : List ℕ) → length b ≤ length buffer → Ends HandsIt (lowered (machine sizes.version) (layer sizes) (handlers sizes) c (say (read_reply fd buffer b)))
  replies c b few =
      let same : length (b ++ drop (length b) buffer) ≡ length buffer = omega (arith, few, length-append b (drop (length b) buffer), length-drop (length b) buffer) in
      λ a fits. (b ++ drop (length b) buffer, refl, (same, drop-append-drop (length b) buffer b (length b) (omega arith) refl))

  reads : (c : Carry) (n offset : ℕ) → Ends HandsIt (lowered (machine sizes.version) (layer sizes) (handlers sizes) c (read_on fd buffer (LocksIt n offset)))
  reads c n offset =
      ends_bind HandsIt Fits (read_file fd n offset (length buffer) c (λ b. own_step (actions.Read fd (length buffer)))) (λ r. lowered (machine sizes.version) (layer sizes) (handlers sizes) r.carry (say (read_reply fd buffer r.answer)))
      (ends_bind Fits (AreFew (length buffer)) (read_from (record_in c n) offset (length buffer) []) (give_read fd n offset (length buffer) (λ b. own_step (actions.Read fd (length buffer))) c)
      (blocks_few (blocks_between offset (end_of (record_in c n) offset (length buffer))) (record_in c n) offset (end_of (record_in c n) offset (length buffer)) (length buffer) (record { count = 0; bytes = [] }) refl (omega arith))
      (λ f few a fits. few))
      (λ r few. replies r.carry r.answer few)

  locked : (c : Carry) (a : LockedState) → Ends HandsIt (bind (file_locked sizes fd c a) (λ r. lowered (machine sizes.version) (layer sizes) (handlers sizes) r.carry (read_on fd buffer r.answer)))
  locked c (Refuses why) = unread
  locked c (Locks f content) =
      ends_bind HandsIt (λ r. Unit {0}) (bind (load_unless sizes.inodestart f.number content) (with_file (LocksIt f.number f.offset) c fd f.number f.offset)) (λ r. lowered (machine sizes.version) (layer sizes) (handlers sizes) r.carry (read_on fd buffer r.answer))
      (ends_any (bind (load_unless sizes.inodestart f.number content) (with_file (LocksIt f.number f.offset) c fd f.number f.offset)))
      (λ r u. any r.carry r.answer)
    where
      any : (c : Carry) (a : LockResult) → Ends HandsIt (lowered (machine sizes.version) (layer sizes) (handlers sizes) c (read_on fd buffer a))
      any c (NotLocked why) = unread
      any c (LocksIt n offset) = reads c n offset

  pub read_hands_back : (c : Carry) → EndsWith HandsIt (plain (lowered (machine sizes.version) (layer sizes) (handlers sizes) c (read_program fd buffer)))
  read_hands_back c = ends_plain HandsIt (lowered (machine sizes.version) (layer sizes) (handlers sizes) c (read_program fd buffer)) (λ a fits. locked c a)
