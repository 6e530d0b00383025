-- The names of a new directory written: it is a part, and goes on.
use Rattle.inode_parts.proofs.Vocabulary.{◌≡◌, ℕ, ◌+◌, ◌==◌, Bool, true, false, if◌then◌else◌, List, length, Option, sym, ◌∙◌, subst, put, Dinode, Super, Ret, bind, plain, Handover, bind-assoc, Inode, unindexed, P, record_of, store_inode, blocks_between, WriteResult, grown, store_written, write_blocks, write_part, Hand, InodePlace, Goes, inode_in, with_index, with_record, IsLoadedAt, goes_with, dots, fill_names, fill_left, filled_by, beside_buffers, Filled, put_grown, NothingMore, Carry, Has, no_index, record_had, carry_in, handed, with_note, fill_part_left, filled, HasLock, seat_of_lock, IsPart, Part, Notes, FillPart, new_directory_size_of}
use Rattle.fs_machine.specs.Steps as steps
use Rattle.inode_machine.specs.World as above
use Rattle.inodes_on_blocks.specs.Entering.{filled_to}
use Rattle.path_walk.specs.Asks as whole
use Rattle.path_walk.specs.declared.asks.Heard.TheVariants as heard
use Rattle.inode_parts.specs.declared.note.Note.TheVariants as note
use Rattle.inode_parts.proofs.Basics.{lock_is, both_set, changed_same, changes, plain_writes, then_plain}
use Rattle.inode_parts.proofs.Enters.{grown_so}

module _ (sizes : Super) (path : List ℕ) (m : Notes) (n parent : ℕ) (before : Hand) where
  abbrev k : InodePlace
  k = seat_of_lock n before

  abbrev v : Inode
  v = inode_in k before

  abbrev c : Carry
  c = carry_in path m before

  -- none of its names is indexed then
  abbrev rest : Filled → P (Handover Bool Carry)
  rest f = Ret (record { answer = f.whole; carry = put c n (Has (unindexed f.inode) NothingMore) })

  -- the handler's program, of this record
  module _ (mark : Bool → Option above.Mark) where
    writes_so : (w : WriteResult) → plain (filled_to sizes n parent c mark w) ≡ bind (store_written sizes n w) (λ r. bind (filled_by sizes.version r) rest)
    writes_so w = by (w.upto == new_directory_size_of sizes.version) ∙ sym (bind-assoc (store_inode sizes.inodestart n (grown w)) (λ _. Ret (record { inode = grown w; upto = w.upto })) (λ r. bind (filled_by sizes.version r) rest))
      where
        by : (t : Bool) → plain (if t then put_grown (above.Fill n parent) above.Room mark true sizes n c no_index w else put_grown (above.Fill n parent) (above.RoomFor 0) mark false sizes n c no_index w)
            ≡ bind (store_inode sizes.inodestart n (grown w)) (λ _. rest (record { inode = grown w; whole = t }))
        by true = grown_so sizes n (above.Fill n parent) above.Room mark true c no_index w
        by false = grown_so sizes n (above.Fill n parent) (above.RoomFor 0) mark false c no_index w

    fill_so : (d : Dinode) → plain (bind (write_blocks (blocks_between 0 (0 + length (dots sizes.version n parent))) sizes 0 (dots sizes.version n parent) d) (filled_to sizes n parent c mark)) ≡ bind (fill_names sizes n d parent) rest
    fill_so d =
        then_plain (write_blocks count sizes 0 (dots sizes.version n parent) d) (write_blocks count sizes 0 (dots sizes.version n parent) d) (filled_to sizes n parent c mark) (λ w. bind (store_written sizes n w) (λ r. bind (filled_by sizes.version r) rest))
        (plain_writes count sizes 0 (dots sizes.version n parent) d) writes_so
        ∙ sym (bind-assoc (write_part sizes n d 0 (dots sizes.version n parent)) (filled_by sizes.version) rest ∙ bind-assoc (write_blocks count sizes 0 (dots sizes.version n parent) d) (store_written sizes n) (λ r. bind (filled_by sizes.version r) rest))
      where
        count : ℕ
        count = blocks_between 0 (0 + length (dots sizes.version n parent))

  module _ (p : FillPart) (has : HasLock n before) (seat : p.seat ≡ k) where
    abbrev had : Inode
    had = record { number = n; content = record_had (c n) }

    abbrev then_ : Filled → P (Handover Bool Carry)
    then_ f = bind (filled path m k before f) (λ r. Ret (record { answer = whole.bool_in r.answer.1; carry = r.carry }))

    same_rest : (f : Filled) → rest f ≡ then_ f
    same_rest f = λ i. Ret (record { answer = f.whole; carry = changes path m k n (unindexed f.inode) before has.0 has.1 i })

    pub fill_is_part : fill_left p.fill before ≡ fill_names sizes n (record_of v) parent → IsPart sizes c (above.Fill n parent) (fill_part_left path m p before)
    fill_is_part program mark =
        fill_so mark (record_of had)
        ∙ (λ i. bind (fill_names sizes n (record_of (lock_is path m n before has.0 i)) parent) rest)
        ∙ (λ i. bind (sym program i) (λ f. same_rest f i))
        ∙ sym (bind-assoc (fill_left p.fill before) (filled path m k before) (λ r. Ret (record { answer = whole.bool_in r.answer.1; carry = r.carry })))
        ∙ (λ i. bind (bind (fill_left p.fill before) (filled path m (sym seat i) before)) (λ r. Ret (record { answer = whole.bool_in r.answer.1; carry = r.carry })))

-- ---- how it goes on

module _ (path : List ℕ) (m : Notes) (p : FillPart) (before h : Hand) (answer : (o : steps.Op) → steps.Answer o) (beside : beside_buffers tt h ≡ beside_buffers tt before) where
  filled_same : filled path m p.seat before ≡ filled path m p.seat h
  filled_same = λ i f. changed_same path m p.seat (heard.Is f.whole) before h beside i (unindexed f.inode)

  pub fill_on : (q : FillPart) → q.seat ≡ p.seat → Goes (fill_left p.fill before) answer (fill_left q.fill h) → Goes (fill_part_left path m p before) answer (fill_part_left path m q h)
  fill_on q seat goes =
      goes_with (fill_left p.fill before) (fill_left q.fill h) (filled path m p.seat before) (filled path m q.seat h) answer (filled_same ∙ (λ i. filled path m (sym seat i) h)) goes

  pub fill_ends : (f : Filled) (q : Part) → filled path m p.seat h f ≡ q → Goes (fill_left p.fill before) answer (Ret f) → Goes (fill_part_left path m p before) answer q
  fill_ends f q is goes =
      subst (λ (q : Part). Goes (fill_part_left path m p before) answer q) is
      (goes_with (fill_left p.fill before) (Ret f) (filled path m p.seat before) (filled path m p.seat h) answer filled_same goes)

-- what is in hand at its end
pub filled_so : (path : List ℕ) (m m2 : Notes) (k : InodePlace) (h after : Hand) (f : Filled) → IsLoadedAt k h → after ≡ with_record k f.inode (with_index k no_index h) → m2 ≡ with_note k note.Nothing m
    → filled path m k h f ≡ Ret (handed path m2 (heard.Is f.whole) after)
filled_so path m m2 k h after f there set noted = λ i. Ret (handed path (sym noted i) (heard.Is f.whole) ((sym (both_set k f.inode no_index h there) ∙ sym set) i))
