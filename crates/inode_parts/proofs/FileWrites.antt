-- A piece of bytes written to an open file: it is a part, and goes on.
use Rattle.inode_parts.proofs.Vocabulary.{◌≡◌, ℕ, ◌+◌, ◌-◌, ◌==◌, ◌≤◌, Bool, true, false, if◌then◌else◌, List, length, Option, Some, None, refl, sym, ap, subst, ◌∙◌, arith, IsSome, unwrap_or, piece, Cause, put, Dinode, Super, Ret, Do, bind, plain, unmarked, Handover, bind-assoc, Inode, Loaded, unindexed, with_inode_of, record_of, store_inode, blocks_between, WriteResult, grown, store_written, write_blocks, write_part, Goes, inode_at, inode_in, recorded, with_record, Hand, InodePlace, record_in, goes_to, goes_with, recorded-in, beside_buffers, write_left, written_as, WriteReady, WritePart, Written, Acts, Apart, Carry, nothing, record_had, give_written, refused_in, write_unless, wrote_to, wrote_of, Wrote, carry_in, ended_as, write_done, write_file_left, write_over, wrote_upto, moved, HasLock, other, seat_of_lock, answer_by, IsPart, Message, LockedFile, Notes, Denied, Writing}
use Rattle.fs_machine.specs.Machines as code
use Rattle.fs_machine.specs.Steps as steps
use Rattle.inode_data.specs.declared.write_part.WritePart.TheVariants as write
use Rattle.inode_machine.specs.World as above
use Rattle.inode_table.specs.Programs.{no_record}
use Rattle.path_walk.specs.declared.asks.Heard.TheVariants as heard
use Rattle.path_walk.specs.declared.asks.Wrote.TheVariants as wrote
use Rattle.inode_parts.proofs.Basics.{lock_is, plain_store, plain_writes, then_plain}
use Rattle.inode_parts.proofs.LockedFiles.{gone, inode_still}

-- ---- it is a part

plain_part : (sizes : Super) (n : ℕ) (d : Dinode) (offset : ℕ) (bytes : List ℕ) → plain (write_part {M = Acts} sizes n d offset bytes) ≡ write_part sizes n d offset bytes
plain_part sizes n d offset bytes =
    let count : ℕ = blocks_between offset (offset + length bytes) in
    then_plain (write_blocks count sizes offset bytes d) (write_blocks count sizes offset bytes d) (store_written sizes n) (store_written sizes n) (plain_writes count sizes offset bytes d)
    (λ w. then_plain (store_inode sizes.inodestart n (grown w)) (store_inode sizes.inodestart n (grown w)) (λ _. Ret (record { inode = grown w; upto = w.upto })) (λ _. Ret (record { inode = grown w; upto = w.upto })) (plain_store sizes.inodestart n (grown w)) (λ _. refl))

heard_so : (offset : ℕ) (bytes : List ℕ) (upto : ℕ) → wrote_to offset bytes upto ≡ wrote_of (wrote_upto offset bytes upto)
heard_so offset bytes upto = by (upto == offset + length bytes)
  where
    by : (b : Bool) → (if b then above.Whole else above.Short (upto - offset)) ≡ wrote_of (if b then wrote.Whole else wrote.Short (upto - offset))
    by true = refl
    by false = refl

module _ (sizes : Super) (text : List ℕ) (m : Notes) (n fd offset : ℕ) (bytes : List ℕ) (h : Hand) (has : HasLock n h) (only : inode_at (other (seat_of_lock n h)) h ≡ None) where
  abbrev c : Carry
  c = carry_in text m h

  abbrev file : LockedFile
  file = record { seat = seat_of_lock n h; fd = fd; offset = offset }

  -- the handler's inode is that in hand
  abbrev had : Inode
  had = record { number = n; content = record_had (c n) }

  lock : had ≡ inode_in (seat_of_lock n h) h
  lock = lock_is text m n h has.0

  given_up : put c n Apart ≡ nothing
  given_up = gone text m (seat_of_lock n h) h only n has.0

  abbrev answered : Handover Message Carry → code.P (Handover above.Wrote Carry)
  answered r = Ret (record { answer = answer_by (above.WriteFile fd n offset bytes) r.answer; carry = r.carry })

  module _ (mark : above.Wrote → Option above.Mark) where
    stands : (d : Dinode) (o : Option Loaded) → let l : Loaded = unwrap_or o (unindexed no_record) in Some (record { inode = d; index = l.index }) ≡ Some (with_inode_of d o)
    stands d None = refl
    stands d (Some l) = refl

    ends_so : (w : WriteResult) → plain (give_written fd n offset bytes mark c w) ≡ bind (write_over text file bytes had w) answered
    ends_so w = λ i.
        Do (steps.Unlock (record { number = n; content = stands w.inode (record_had (c n)) i }) (Some (fd, w.upto))) unmarked (λ _.
        Ret (record { answer = heard_so offset bytes w.upto i; carry = given_up i }))

    writes_so : (d : Dinode) → plain (bind (write_part sizes n d offset bytes) (give_written fd n offset bytes mark c)) ≡ bind (bind (write_part sizes n d offset bytes) (write_over text file bytes had)) answered
    writes_so d =
        then_plain (write_part sizes n d offset bytes) (write_part sizes n d offset bytes) (give_written fd n offset bytes mark c) (λ w. bind (write_over text file bytes had w) answered) (plain_part sizes n d offset bytes) ends_so
        ∙ sym (bind-assoc (write_part sizes n d offset bytes) (write_over text file bytes had) answered)

  module _ (k : InodePlace) (at : k ≡ seat_of_lock n h) where
    record_is : record_of had ≡ record_in k h
    record_is = ap record_of lock ∙ ap (λ (k : InodePlace). record_in k h) (sym at)

    refused_so : (o : Option Cause) → refused_in (record_in k h) offset bytes ≡ o → refused_in (record_of had) offset bytes ≡ o
    refused_so o e = ap (λ (d : Dinode). refused_in d offset bytes) record_is ∙ e

  pub write_is_part : (f : LockedFile) (q : code.P WriteResult) → f ≡ file → refused_in (record_in f.seat h) offset bytes ≡ None → q ≡ write_part sizes n (record_in f.seat h) offset bytes
      → IsPart sizes c (above.WriteFile fd n offset bytes) (bind q (write_over text f bytes (inode_in f.seat h)))
  write_is_part f q is fits program mark =
      (λ i. plain (write_unless sizes fd n offset bytes mark c (refused_so f.seat (ap (λ (f : LockedFile). f.seat) is) None fits i)))
      ∙ writes_so mark (record_of had)
      ∙ (λ i. bind (bind (write_part sizes n (record_of (lock i)) offset bytes) (write_over text file bytes (lock i))) answered)
      ∙ (λ i. bind (bind (write_part sizes n (record_in (sym is i).seat h) offset bytes) (write_over text (sym is i) bytes (inode_in (sym is i).seat h))) answered)
      ∙ (λ i. bind (bind (sym program i) (write_over text f bytes (inode_in f.seat h))) answered)

  pub deny_is_part : (k : InodePlace) (why : Cause) → k ≡ seat_of_lock n h → refused_in (record_in k h) offset bytes ≡ Some why → IsPart sizes c (above.WriteFile fd n offset bytes) (write_file_left text (Denied k why) h)
  deny_is_part k why at refused mark =
      (λ i. plain (write_unless sizes fd n offset bytes mark c (refused_so k at (Some why) refused i)))
      ∙ (λ i. Do (steps.Unlock (lock i) None) unmarked (λ _. Ret (record { answer = above.Refused why; carry = given_up i })))
      ∙ (λ i. Do (steps.Unlock (inode_in (sym at i) h) None) unmarked (λ _. Ret (record { answer = above.Refused why; carry = nothing })))

  -- .. begun so, by what was learned
  module _ (f : LockedFile) (d : Dinode) (seat : f.seat ≡ seat_of_lock n h) (by : f.fd ≡ fd) (from : f.offset ≡ offset) (is : d ≡ record_in f.seat h) where
    refuses : (o : Option Cause) → refused_in d f.offset bytes ≡ o → refused_in (record_in f.seat h) offset bytes ≡ o
    refuses o e = (λ i. refused_in (sym is i) (sym from i) bytes) ∙ e

    pub begun_write : (q : code.P WriteResult) → refused_in d f.offset bytes ≡ None → q ≡ write_part sizes n d f.offset bytes → IsPart sizes c (above.WriteFile fd n offset bytes) (bind q (write_over text f bytes (inode_in f.seat h)))
    begun_write q fits program =
        write_is_part f q (λ i. record { seat = seat i; fd = by i; offset = from i }) (refuses None fits)
        (program ∙ (λ i. let p : code.P WriteResult = write_part sizes n (is i) (from i) bytes in p))

    pub begun_deny : (why : Cause) → refused_in d f.offset bytes ≡ Some why → IsPart sizes c (above.WriteFile fd n offset bytes) (write_file_left text (Denied f.seat why) h)
    begun_deny why refused = deny_is_part f.seat why seat (refuses (Some why) refused)

-- ---- how it goes on

-- this number of the bytes was written
pub bytes_so : (bytes new : List ℕ) (p : WritePart) (h : Hand) → write_done p ≤ length new → WriteReady bytes p h → WriteReady new p h
bytes_so bytes new (write.Locating w m) h done ready = ((ready.0.0, done), ready.1)
bytes_so bytes new (write.Fetching w d m) h done ready = ((ready.0.0, done), ready.1, ready.2, ready.3, ready.4)
bytes_so bytes new (write.There w d) h done ready = ((ready.0.0, done), ready.1, ready.2)
bytes_so bytes new (write.Storing r m) h done ready = ready

pub done_so : (bytes : List ℕ) (p : WritePart) (h : Hand) → WriteReady bytes p h → write_done p ≤ length bytes
done_so bytes (write.Locating w m) h ready = ready.0.1
done_so bytes (write.Fetching w d m) h ready = ready.0.1
done_so bytes (write.There w d) h ready = ready.0.1
done_so bytes (write.Storing r m) h ready = omega arith

-- .. as they were read
pub ready_for : (text : List ℕ) (at : ℕ) (p : WritePart) (h : Hand) (bytes : List ℕ) → bytes ≡ piece text at → write_done p ≤ length (piece text at) → (any : List ℕ) × WriteReady any p h → WriteReady bytes p h
ready_for text at p h bytes is done ready = subst (λ (b : List ℕ). WriteReady b p h) (sym is) (bytes_so ready.0 (piece text at) p h done ready.1)

module _ (text : List ℕ) (f : LockedFile) (at : ℕ) (p : WritePart) (before h : Hand) (answer : (o : steps.Op) → steps.Answer o) (same : beside_buffers tt h ≡ beside_buffers tt before) where
  goes_so : (r : code.P WriteResult) → Goes (write_left (piece text at) p before) answer r → Goes (write_file_left text (Writing f at p) before) answer (bind r (write_over text f (piece text at) (inode_in f.seat h)))
  goes_so r goes =
      goes_with (write_left (piece text at) p before) r (write_over text f (piece text at) (inode_in f.seat before)) (write_over text f (piece text at) (inode_in f.seat h)) answer
      (ap (λ (v : Inode). write_over text f (piece text at) v) (inode_still f.seat before h same)) goes

  pub write_on : (q : WritePart) → Goes (write_left (piece text at) p before) answer (write_left (piece text at) q h) → Goes (write_file_left text (Writing f at p) before) answer (write_file_left text (Writing f at q) h)
  write_on q goes = goes_so (write_left (piece text at) q h) goes

  pub write_ends : (r : Written) (after : Hand) → IsSome (inode_at f.seat h) → after ≡ with_record f.seat r.inode h → Goes (write_left (piece text at) p before) answer (Ret (written_as r))
      → Goes (write_file_left text (Writing f at p) before) answer (write_file_left text (ended_as f (piece text at) r) after)
  write_ends r after there set goes =
      goes_to (write_file_left text (Writing f at p) before) (write_over text f (piece text at) (inode_in f.seat h) (written_as r)) (write_file_left text (ended_as f (piece text at) r) after) answer
      (goes_so (Ret (written_as r)) goes)
      (λ i. moved f ((sym (recorded-in f.seat r.inode h there) ∙ ap (inode_in f.seat) (sym set)) i) r.upto text (heard.Wrote (wrote_upto f.offset (piece text at) r.upto)))
