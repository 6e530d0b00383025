-- A content emptied: it is a part, and goes on.
use Rattle.inode_parts.proofs.Vocabulary.{◌≡◌, ℕ, List, sym, ap, ◌∙◌, subst, Dinode, Super, put, Ret, bind, Handover, bind-assoc, Inode, loaded_of, P, fetch, inode_block, record_of, store_inode, store_record, truncate, Hand, Goes, inode_in, beside_emptying, emptying_of, truncate_left, record_in, IsLoadedAt, Emptying, goes_with, NothingMore, Carry, Has, record_had, put_record, carry_in, handed, with_note, recorded_at, rewritten, with_loaded, HasLock, seat_of_lock, IsPart, Message, Part, empty_part_left, empty_seat, Notes, EmptyPart}
use Rattle.fs_machine.specs.Steps as steps
use Rattle.inode_data.specs.Freeing.{without_content}
use Rattle.inode_machine.specs.World as above
use Rattle.inodes_on_blocks.specs.Handlers as handlers
use Rattle.path_walk.specs.declared.asks.Heard.TheVariants as heard
use Rattle.inode_parts.specs.declared.note.Note.TheVariants as note
use Rattle.inode_parts.proofs.Basics.{lock_is, rewrites, rewritten_beside, same_record, content_bind, emptied, plain_content}
use Rattle.inode_parts.proofs.Stores.{put_so}

module _ (sizes : Super) (path : List ℕ) (m : Notes) (n : ℕ) (before : Hand) where
  abbrev e : Emptying
  e = record { seat = seat_of_lock n before; sizes = sizes }

  abbrev v : Inode
  v = inode_in e.seat before

  abbrev c : Carry
  c = carry_in path m before

  -- how it ends, of an inode as the hand has it
  abbrev ends : Inode → Handover (Unit {0}) Carry
  ends v = record { answer = tt {0}; carry = put c n (Has (record { inode = without_content (record_of v); index = (loaded_of v).index }) NothingMore) }

  abbrev stored : Inode → P (Handover (Unit {0}) Carry)
  stored v = emptied sizes (record_of v) (bind (store_inode sizes.inodestart v.number (without_content (record_of v))) (λ _. Ret (ends v)))

  module _ (p : EmptyPart) (h : Hand) (has : HasLock n before) (about : emptying_of p.truncate ≡ e) (beside : beside_emptying e h ≡ beside_emptying e before) where
    -- the handler's record is that in hand
    abbrev had : Inode
    had = record { number = n; content = record_had (c n) }

    abbrev heard_at : Handover Message Carry → Handover (Unit {0}) Carry
    heard_at r = record { answer = tt {0}; carry = r.carry }

    abbrev part_ends : Dinode → Part
    part_ends = rewritten path m e.seat heard.WasDone h

    abbrev then_ : Dinode → P (Handover (Unit {0}) Carry)
    then_ d = bind (part_ends d) (λ r. Ret (heard_at r))

    kept : let d : Dinode = without_content (record_of v) in (ends v).carry ≡ carry_in path (with_note e.seat note.Nothing m) (with_loaded e.seat (recorded_at e.seat h d) h)
    kept =
        let d : Dinode = without_content (record_of v) in
        rewrites path m e.seat n d before has.0 has.1 ∙ rewritten_beside path (with_note e.seat note.Nothing m) e d before h beside

    -- the routine's, and how the part ends
    routine : stored v ≡ bind (truncate sizes v.number (record_of v)) then_
    routine =
        (λ i. emptied sizes (record_of v) (bind (store_inode sizes.inodestart v.number (without_content (record_of v))) (λ _. Ret (record { answer = tt {0}; carry = kept i }))))
        ∙ (λ i. emptied sizes (record_of v) (sym (bind-assoc (store_inode sizes.inodestart v.number (without_content (record_of v))) (λ _. Ret (without_content (record_of v))) then_) i))
        ∙ sym (content_bind sizes (record_of v) (store_record sizes v.number (without_content (record_of v))) then_)

    pub empty_is_part : truncate_left p.truncate h ≡ truncate sizes v.number (record_of v) → IsPart sizes c (above.Empty n) (empty_part_left path m p h)
    empty_is_part program mark =
        let d : Dinode = without_content (record_of had) in
        let b : ℕ = inode_block sizes.inodestart n in
        plain_content sizes (record_of had) (bind (fetch b) (put_record (above.Empty n) mark (tt {0}) b n d (Has (record { inode = d; index = (loaded_of had).index }) NothingMore) c))
        ∙ (λ i. emptied sizes (record_of had) (put_so b n d (handlers.acts (above.Empty n) above.Room mark) (ends had) i))
        ∙ ap stored (lock_is path m n before has.0)
        ∙ routine
        ∙ (λ i. bind (sym program i) then_)
        ∙ sym (bind-assoc (truncate_left p.truncate h) part_ends (λ r. Ret (heard_at r)))
        ∙ (λ i. bind (bind (truncate_left p.truncate h) (rewritten path m (sym about i).seat heard.WasDone h)) (λ r. Ret (heard_at r)))

-- ---- how it goes on

module _ (path : List ℕ) (m : Notes) (p : EmptyPart) (before h : Hand) (answer : (o : steps.Op) → steps.Answer o) (beside : beside_emptying (emptying_of p.truncate) h ≡ beside_emptying (emptying_of p.truncate) before) where
  same_ends : rewritten path m (empty_seat p) heard.WasDone before ≡ rewritten path m (empty_seat p) heard.WasDone h
  same_ends = λ i d. Ret (record {
    answer = (path, heard.WasDone);
    carry = rewritten_beside path (with_note (empty_seat p) note.Nothing m) (emptying_of p.truncate) d before h beside i;
  })

  pub empty_on : (q : EmptyPart) → emptying_of q.truncate ≡ emptying_of p.truncate → Goes (truncate_left p.truncate before) answer (truncate_left q.truncate h) → Goes (empty_part_left path m p before) answer (empty_part_left path m q h)
  empty_on q about goes =
      goes_with (truncate_left p.truncate before) (truncate_left q.truncate h) (rewritten path m (empty_seat p) heard.WasDone before) (rewritten path m (empty_seat q) heard.WasDone h) answer
      (same_ends ∙ (λ i. rewritten path m (sym about i).seat heard.WasDone h)) goes

  pub empty_ends : (m2 : Notes) (e : Emptying) → e ≡ emptying_of p.truncate → IsLoadedAt e.seat h → m2 ≡ with_note e.seat note.Nothing m → Goes (truncate_left p.truncate before) answer (Ret (record_in e.seat h))
      → Goes (empty_part_left path m p before) answer (Ret (handed path m2 heard.WasDone h))
  empty_ends m2 e about there noted goes =
      let last : rewritten path m e.seat heard.WasDone h (record_in e.seat h) ≡ Ret (handed path m2 heard.WasDone h)
      = λ i. Ret (handed path (sym noted i) heard.WasDone (same_record e.seat h there i)) in
      subst (λ (r : Part). Goes (empty_part_left path m p before) answer r) last
      (goes_with (truncate_left p.truncate before) (Ret (record_in e.seat h)) (rewritten path m (empty_seat p) heard.WasDone before) (rewritten path m e.seat heard.WasDone h) answer
      (same_ends ∙ (λ i. rewritten path m (sym about i).seat heard.WasDone h)) goes)
