-- An inode's count put: it is a part, and goes on.
use Rattle.inode_parts.proofs.Vocabulary.{◌≡◌, ℕ, List, Option, Some, None, refl, sym, ap, ◌∙◌, Dinode, Super, put, Ret, Do, bind, plain, unmarked, Handover, bind-assoc, Inode, loaded_of, P, fetch, read_unless, inode_block, put_inode, record_of, with_dinode, store_inode, Hand, InodePlace, Goes, inode_in, with_buffer, with_record, counted, record_left, record_place, goes_with, Acts, NothingMore, Carry, Has, record_had, carry_in, handed, with_note, HasLock, seat_of_lock, IsPart, Message, store_part_left, Notes, StorePart}
use Rattle.fs_machine.specs.Steps as steps
use Rattle.inode_machine.specs.World as above
use Rattle.inodes_on_blocks.specs.Handlers as handlers
use Rattle.path_walk.specs.declared.asks.Heard.TheVariants as heard
use Rattle.inode_parts.specs.declared.note.Note.TheVariants as note
use Rattle.inode_parts.proofs.Basics.{lock_is, record_set, rewrites, beside_buffer}

-- an inode put in its block, whatever that is marked with, and how it ends
pub put_so : {A : Type 0} (b n : ℕ) (d : Dinode) (mark : Option Acts) (r : A)
    → let ends : List ℕ → handlers.P A = λ block. Do (steps.Put b (Some (with_dinode n d block))) (λ _. mark) (λ _. Ret r) in
    let p : P (Unit {0}) = bind (fetch b) (put_inode b n d) in plain (bind (fetch b) ends) ≡ bind p (λ _. Ret r)
put_so {A} b n d mark r = λ i. Do (steps.Get b) unmarked (λ content. read content i)
  where
    ends : List ℕ → handlers.P A
    ends block = Do (steps.Put b (Some (with_dinode n d block))) (λ _. mark) (λ _. Ret r)

    read : (content : Option (List ℕ)) → let p : P (Unit {0}) = bind (read_unless b content) (put_inode b n d) in plain (bind (read_unless b content) ends) ≡ bind p (λ _. Ret r)
    read None = refl
    read (Some block) = refl

module _ (sizes : Super) (path : List ℕ) (m : Notes) (n count : ℕ) (before : Hand) where
  abbrev k : InodePlace
  k = seat_of_lock n before

  abbrev v : Inode
  v = inode_in k before

  -- of this inode, as the hand has it
  abbrev stored : Inode → P (Handover (Unit {0}) Carry)
  stored v =
      let d : Dinode = counted count (record_of v) in
      bind (store_inode sizes.inodestart v.number d) (λ _. Ret (record { answer = tt {0}; carry = put (carry_in path m before) n (Has (record { inode = d; index = (loaded_of v).index }) NothingMore) }))

  module _ (p : StorePart) (h : Hand) (has : HasLock n before) (seat : p.seat ≡ k) (hand : h ≡ with_record k (counted count (record_of v)) before) where
    abbrev ends : Handover Message Carry
    ends = handed path (with_note p.seat note.Nothing m) heard.WasDone h

    -- the handler's record is that in hand
    abbrev had : Inode
    had = record { number = n; content = record_had (carry_in path m before n) }

    kept : put (carry_in path m before) n (Has (record { inode = counted count (record_of v); index = (loaded_of v).index }) NothingMore) ≡ ends.carry
    kept =
        rewrites path m k n (counted count (record_of v)) before has.0 has.1
        ∙ ap (carry_in path (with_note k note.Nothing m)) (sym (record_set k (counted count (record_of v)) before))
        ∙ (λ i. carry_in path (with_note (sym seat i) note.Nothing m) (sym hand i))

    pub store_is_part : record_left p.store h ≡ store_inode sizes.inodestart v.number (counted count (record_of v)) → IsPart sizes (carry_in path m before) (above.Store n count) (store_part_left path m p h)
    store_is_part program mark =
        put_so (inode_block sizes.inodestart n) n (counted count (record_of had)) (handlers.acts (above.Store n count) above.Room mark)
        (record { answer = tt {0}; carry = put (carry_in path m before) n (Has (record { inode = counted count (record_of had); index = (loaded_of had).index }) NothingMore) })
        ∙ ap stored (lock_is path m n before has.0)
        ∙ (λ i. bind (sym program i) (λ _. Ret (record { answer = tt {0}; carry = kept i })))
        ∙ sym (bind-assoc (record_left p.store h) (λ _. Ret ends) (λ r. Ret (record { answer = tt {0}; carry = r.carry })))

-- ---- how it goes on

module _ (path : List ℕ) (m : Notes) (p : StorePart) (before h : Hand) (answer : (o : steps.Op) → steps.Answer o) (same : with_buffer (record_place p.store) None h ≡ with_buffer (record_place p.store) None before) where
  pub store_on : (q : StorePart) → q.seat ≡ p.seat → Goes (record_left p.store before) answer (record_left q.store h) → Goes (store_part_left path m p before) answer (store_part_left path m q h)
  store_on q seat goes =
      goes_with (record_left p.store before) (record_left q.store h) (λ _. Ret (handed path (with_note p.seat note.Nothing m) heard.WasDone before)) (λ _. Ret (handed path (with_note q.seat note.Nothing m) heard.WasDone h)) answer
      (λ i _. Ret (record { answer = (path, heard.WasDone); carry = (beside_buffer path (with_note p.seat note.Nothing m) (record_place p.store) before h same ∙ (λ j. carry_in path (with_note (sym seat j) note.Nothing m) h)) i })) goes

  pub store_ends : (m2 : Notes) → m2 ≡ with_note p.seat note.Nothing m → Goes (record_left p.store before) answer (Ret tt) → Goes (store_part_left path m p before) answer (Ret (handed path m2 heard.WasDone h))
  store_ends m2 noted goes =
      goes_with (record_left p.store before) (Ret tt) (λ _. Ret (handed path (with_note p.seat note.Nothing m) heard.WasDone before)) (λ _. Ret (handed path m2 heard.WasDone h)) answer
      (λ i _. Ret (record { answer = (path, heard.WasDone); carry = (beside_buffer path (with_note p.seat note.Nothing m) (record_place p.store) before h same ∙ (λ j. carry_in path (sym noted j) h)) i })) goes
