-- The operation that frees an inode is its part.
use Rattle.inode_parts.proofs.Vocabulary.{◌≡◌, ℕ, List, Option, Some, sym, ap, ◌∙◌, subst, Dinode, Super, Ret, Do, bind, plain, unmarked, Handover, bind-assoc, plain-bind, Inode, fetch, inode_block, put_inode, record_of, store_inode, with_dinode, freed, store_record, truncate, inode_at, inode_in, Hand, InodePlace, beside_freeing, IsEmptying, free_record, freeing_left, store_free, number_in, record_in as record_at, FreeInode, give_content, Carry, Emptied, record_had, put_record, IsSome, put, carry_in, free_ends, FreeBegins, IsAlone, seat_of_lock, IsPart, beside_in, Notes}
use Rattle.fs_machine.specs.Machines as code
use Rattle.fs_machine.specs.Steps as steps
use Rattle.inode_data.specs.Freeing.{without_content}
use Rattle.inode_machine.specs.World as above
use Rattle.inodes_on_blocks.specs.Handlers.{P}
use Rattle.inodes_on_blocks.specs.Storing.{record_in}
use Rattle.inode_parts.proofs.Basics.{gives_ready, lock_is, content_bind, emptied, plain_content, plain_fetch, plain_store, had_beside, lock_is_of}
use Rattle.inode_parts.proofs.Frees.{alone_so, ends_same, there_still}

module _ (sizes : Super) (n : ℕ) (d : Dinode) (c : Carry) where
  abbrev at : ℕ
  at = inode_block sizes.inodestart n

  abbrev e : Dinode
  e = without_content d

  -- nothing is had of it then
  abbrev gone : code.P (Handover (Unit {0}) Carry)
  gone = Ret (record { answer = tt; carry = put c n Emptied })

  abbrev puts : List ℕ → code.P (Handover (Unit {0}) Carry)
  puts block = Do (steps.Put at (Some (with_dinode n (freed e) block))) unmarked (λ _. gone)

  abbrev freed_all : code.P (Handover (Unit {0}) Carry)
  freed_all = emptied sizes d (bind (store_inode sizes.inodestart n e) (λ _. bind (fetch at) puts))

  -- the operation's program
  module _ (m : Unit {0} → Option above.Mark) where
    abbrev marked_puts : List ℕ → P (Handover (Unit {0}) Carry)
    marked_puts = put_record (above.Free n) m (tt {0}) at n (freed e) Emptied c

    abbrev rest : P (Handover (Unit {0}) Carry)
    rest = bind (store_inode sizes.inodestart n e) (λ _. bind (fetch at) marked_puts)

    rest_is : plain rest ≡ bind (store_inode sizes.inodestart n e) (λ _. bind (fetch at) puts)
    rest_is =
        plain-bind (store_inode sizes.inodestart n e) (λ _. bind (fetch at) marked_puts)
        ∙ (λ i. bind (plain_store sizes.inodestart n e i) (λ _. (plain-bind (fetch at) marked_puts ∙ (λ j. bind (plain_fetch at j) puts)) i))

    above_is : plain (give_content sizes d rest) ≡ freed_all
    above_is = plain_content sizes d rest ∙ (λ i. emptied sizes d (rest_is i))

  -- and the code's
  code_is : bind (free_record sizes n d) (λ _. gone) ≡ freed_all
  code_is =
      bind-assoc (truncate sizes n d) (store_free sizes n) (λ _. gone)
      ∙ content_bind sizes d (store_record sizes n e) (λ r. bind (store_free sizes n r) (λ _. gone))
      ∙ (λ i. emptied sizes d ((bind-assoc (store_inode sizes.inodestart n e) (λ _. Ret e) (λ r. bind (store_free sizes n r) (λ _. gone))
      ∙ (λ j. bind (store_inode sizes.inodestart n e) (λ _. bind-assoc (fetch at) (put_inode at n (freed e)) (λ _. gone) j))) i))

-- begun with the lock in hand, it is that operation's
module _ (sizes : Super) (path : List ℕ) (m : Notes) (n : ℕ) (f : FreeInode) (before h : Hand) (begins : FreeBegins sizes n before) where
  abbrev k : InodePlace
  k = seat_of_lock n before

  abbrev had_before : Carry
  had_before = carry_in path m before

  lock : let v : Inode = record { number = n; content = record_had (had_before n) } in v ≡ inode_in k before
  lock = lock_is path m n before begins.0.0

  had_so : put had_before n Emptied ≡ put (beside_in path m k before) (number_in k before) Emptied
  had_so = had_beside path m before k n Emptied (lock_is_of n (inode_at k before) begins.0.0) ∙ ap (λ (v : Inode). put (beside_in path m k before) v.number Emptied) lock

  at_lock : freeing_left f h ≡ free_record sizes (number_in k before) (record_at k before) → beside_freeing (record { seat = k; sizes = sizes }) h ≡ beside_freeing (record { seat = k; sizes = sizes }) before
      → IsPart sizes had_before (above.Free n) (bind (freeing_left f h) (free_ends path (beside_in path m k h) (number_in k h)))
  at_lock program same mark =
      above_is sizes n (record_in had_before n) had_before mark ∙ sym (code_is sizes n (record_in had_before n) had_before)
      ∙ (λ i. bind (left i) (λ _. Ret (record { answer = tt; carry = had_so i })))
      ∙ (λ i. bind (freeing_left f h) (λ u. bind (ends_same (record { seat = k; sizes = sizes }) before h same path m i u) (λ r. Ret (record { answer = tt; carry = r.carry }))))
      ∙ sym (bind-assoc (freeing_left f h) (free_ends path (beside_in path m k h) (number_in k h)) (λ r. Ret (record { answer = tt; carry = r.carry })))
    where
      left : let p : code.P (Unit {0}) = free_record sizes n (record_in had_before n) in p ≡ freeing_left f h
      left = ap (λ (v : Inode). let p : code.P (Unit {0}) = free_record sizes v.number (record_of v) in p) lock ∙ sym program

pub free_is_part : (sizes : Super) (path : List ℕ) (m : Notes) (n : ℕ) (k : InodePlace) (f : FreeInode) (before h : Hand) → k ≡ seat_of_lock n before → FreeBegins sizes n before → freeing_left f h ≡ free_record sizes (number_in k before) (record_at k before)
    → beside_freeing (record { seat = k; sizes = sizes }) h ≡ beside_freeing (record { seat = k; sizes = sizes }) before → IsPart sizes (carry_in path m before) (above.Free n) (bind (freeing_left f h) (free_ends path (beside_in path m k h) (number_in k h)))
free_is_part sizes path m n k f before h is begins =
    subst (λ (k : InodePlace). freeing_left f h ≡ free_record sizes (number_in k before) (record_at k before) → beside_freeing (record { seat = k; sizes = sizes }) h ≡ beside_freeing (record { seat = k; sizes = sizes }) before
    → IsPart sizes (carry_in path m before) (above.Free n) (bind (freeing_left f h) (free_ends path (beside_in path m k h) (number_in k h)))) (sym is)
    (at_lock sizes path m n f before h begins)

-- what its routine asks of the hand
pub free_begins : (sizes : Super) (n : ℕ) (k : InodePlace) (h : Hand) → k ≡ seat_of_lock n h → FreeBegins sizes n h → IsEmptying (record { seat = k; sizes = sizes }) h
free_begins sizes n k h is begins = subst (λ (k : InodePlace). IsEmptying (record { seat = k; sizes = sizes }) h) (sym is) begins.1

-- and the lock stays
pub free_there : (sizes : Super) (n : ℕ) (k : InodePlace) (before h : Hand) → k ≡ seat_of_lock n before → FreeBegins sizes n before → beside_freeing (record { seat = k; sizes = sizes }) h ≡ beside_freeing (record { seat = k; sizes = sizes }) before
    → IsSome (inode_at k h) × IsAlone (number_in k h) k h
free_there sizes n k before h is begins same =
    let has = gives_ready n (seat_of_lock n before) before begins.0.0 begins.0.1 in
    let here : IsSome (inode_at k before) × IsAlone (number_in k before) k before = subst (λ (k : InodePlace). IsSome (inode_at k before) × IsAlone (number_in k before) k before) (sym is) has in
    (there_still (record { seat = k; sizes = sizes }) before h same here.0, alone_so (record { seat = k; sizes = sizes }) before h same here.1)
