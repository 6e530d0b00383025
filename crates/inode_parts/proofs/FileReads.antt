-- A part of an open file read: it is a part, and goes on.
use Rattle.inode_parts.proofs.Vocabulary.{◌≡◌, ℕ, ◌+◌, ◌-◌, ◌<◌, ◌≤◌, List, [], ◌++◌, length, drop, Option, Some, None, sym, ap, subst, ◌∙◌, arith, ◌^◌, take-append_seam, drop_of_length-le, append-nil, Dinode, Super, Ret, Do, bind, plain, unmarked, Handover, bind-assoc, Inode, record_of, FilledMemory, blocks_between, end_of, read_from, Goes, inode_at, inode_in, Hand, record_in, goes_with, beside_buffers, read_count, read_left, ReadReady, ReadPart, give_read, Carry, nothing, record_had, carry_in, read_file_left, read_over, FillsFrom, MayMove, moved, HasLock, other, seat_of_lock, answer_by, IsPart, Message, Part, LockedFile, Notes, Reading}
use Rattle.fs_machine.specs.Machines as code
use Rattle.fs_machine.specs.Steps as steps
use Rattle.inode_data.specs.declared.read_part.ReadPart.TheVariants.{Fetching, Giving}
use Rattle.inode_machine.specs.World as above
use Rattle.path_walk.specs.declared.asks.Heard.TheVariants as heard
use Rattle.inode_parts.proofs.Basics.{lock_is, blocks_fill, blocks_same, within}
use Rattle.inode_parts.proofs.LockedFiles.{gone, inode_still}

-- ---- it is a part

alone_so : (b : List ℕ) → b ++ drop (length b) [] ≡ b
alone_so b = (λ i. b ++ drop_nil (length b) i) ∙ append-nil b
  where
    drop_nil : (n : ℕ) → drop {A = ℕ} n [] ≡ []
    drop_nil n = drop_of_length-le [] (let none : 0 ≤ n = omega arith in none)

module _ (sizes : Super) (text : List ℕ) (m : Notes) (n fd offset count : ℕ) (h : Hand) (has : HasLock n h) (only : inode_at (other (seat_of_lock n h)) h ≡ None) where
  abbrev c : Carry
  c = carry_in text m h

  abbrev file : LockedFile
  file = record { seat = seat_of_lock n h; fd = fd; offset = offset }

  -- the handler's inode is that in hand
  abbrev had : Inode
  had = record { number = n; content = record_had (c n) }

  abbrev over : Inode → FilledMemory → Part
  over v x = moved file v (offset + x.count) x.bytes (heard.Read x.count)

  abbrev answered : Handover Message Carry → code.P (Handover (List ℕ) Carry)
  answered r = Ret (record { answer = answer_by (above.ReadFile fd n offset count) r.answer; carry = r.carry })

  module _ (mark : List ℕ → Option above.Mark) where
    ends_so : (b : List ℕ) → plain (give_read fd n offset count mark c (within [] b)) ≡ bind (over had (within text b)) answered
    ends_so b = λ i.
        Do (steps.Unlock had (Some (fd, offset + length b))) unmarked (λ _.
        Ret (record { answer = (alone_so b ∙ sym (take-append_seam b (drop (length b) text))) i; carry = gone text m (seat_of_lock n h) h only n has.0 i }))

    reads_so : plain (bind (read_from (record_of had) offset count []) (give_read fd n offset count mark c)) ≡ bind (bind (read_from (record_of had) offset count text) (over had)) answered
    reads_so =
        blocks_same [] text (give_read fd n offset count mark c) (λ x. bind (over had x) answered) ends_so (blocks_between offset (end_of (record_of had) offset count)) (record_of had) offset (end_of (record_of had) offset count) []
        ∙ sym (bind-assoc (read_from (record_of had) offset count text) (over had) answered)

  pub read_is_part : (f : LockedFile) (q : code.P FilledMemory) → f ≡ file → q ≡ read_from (record_in f.seat h) offset count text → IsPart sizes c (above.ReadFile fd n offset count) (bind q (read_over f h))
  read_is_part f q is program mark =
      reads_so mark
      ∙ (λ i. bind (bind (read_from (record_of (lock_is text m n h has.0 i)) offset count text) (over (lock_is text m n h has.0 i))) answered)
      ∙ (λ i. bind (bind (read_from (record_in (sym is i).seat h) offset count text) (read_over (sym is i) h)) answered)
      ∙ (λ i. bind (bind (sym program i) (read_over f h)) answered)

  -- .. begun so, by what was learned
  pub begun_is_part : (f : LockedFile) (d : Dinode) (q : Dinode → code.P FilledMemory) → f.seat ≡ seat_of_lock n h → f.fd ≡ fd → f.offset ≡ offset → d ≡ record_in f.seat h → q d ≡ read_from d f.offset count text
      → IsPart sizes c (above.ReadFile fd n offset count) (bind (q (record_in f.seat h)) (read_over f h))
  begun_is_part f d q seat by at is program =
      read_is_part f (q (record_in f.seat h)) (λ i. record { seat = seat i; fd = by i; offset = at i })
      (subst (λ (d : Dinode). q d ≡ read_from d offset count text) is (program ∙ ap (λ (from : ℕ). let p : code.P FilledMemory = read_from d from count text in p) at))

-- what is read is at the text's front
pub read_fills : (text : List ℕ) (d : Dinode) (offset count : ℕ) (f : LockedFile) (h : Hand) (q : code.P FilledMemory) → q ≡ read_from d offset count text → FillsFrom text (bind q (read_over f h))
read_fills text d offset count f h q program x y same =
    subst (λ (q : code.P FilledMemory). bind (bind q (read_over f h)) x ≡ bind (bind q (read_over f h)) y) (sym program)
    (bind-assoc (read_from d offset count text) (read_over f h) x
    ∙ blocks_fill text (λ r. bind (read_over f h r) x) (λ r. bind (read_over f h r) y) ends (blocks_between offset (end_of d offset count)) d offset (end_of d offset count) []
    ∙ sym (bind-assoc (read_from d offset count text) (read_over f h) y))
  where
    ends : (b : List ℕ) → bind (read_over f h (within text b)) x ≡ bind (read_over f h (within text b)) y
    ends b = λ i. Do (steps.Unlock (inode_in f.seat h) (Some (f.fd, f.offset + length b))) unmarked (λ _. same b nothing i)

pub begun_fills : (text : List ℕ) (count : ℕ) (f : LockedFile) (h : Hand) (d : Dinode) (q : Dinode → code.P FilledMemory) → d ≡ record_in f.seat h → q d ≡ read_from d f.offset count text → FillsFrom text (bind (q (record_in f.seat h)) (read_over f h))
begun_fills text count f h d q is program =
    read_fills text (record_in f.seat h) f.offset count f h (q (record_in f.seat h)) (subst (λ (d : Dinode). q d ≡ read_from d f.offset count text) is program)

-- the file's offset has room for it
pub may_move : (f : LockedFile) (d : Dinode) (count read : ℕ) → f.offset < 2 ^ 32 → read ≡ end_of d f.offset count - f.offset → MayMove f read
may_move f d count read few is = omega arith

-- ---- how it goes on

-- there is room for what is read
pub room_so : (bytes text : List ℕ) (p : ReadPart) (h : Hand) → read_count p ≤ length text → ReadReady bytes p h → ReadReady text p h
room_so bytes text (Fetching r m) h room ready = (ready.0, room, ready.2)
room_so bytes text (Giving r) h room ready = (ready.0, room, ready.2, ready.3)

pub room_of : (bytes : List ℕ) (p : ReadPart) (h : Hand) → ReadReady bytes p h → read_count p ≤ length bytes
room_of bytes (Fetching r m) h ready = ready.1
room_of bytes (Giving r) h ready = ready.1

module _ (text new : List ℕ) (f : LockedFile) (p : ReadPart) (before h : Hand) (answer : (o : steps.Op) → steps.Answer o) (same : beside_buffers tt h ≡ beside_buffers tt before) where
  over_same : read_over f before ≡ read_over f h
  over_same = λ i x. moved f (inode_still f.seat before h same i) (f.offset + x.count) x.bytes (heard.Read x.count)

  goes_so : (r : code.P FilledMemory) → Goes (read_left (record_in f.seat h) text p before) answer r → Goes (read_file_left text (Reading f p) before) answer (bind r (read_over f h))
  goes_so r goes =
      goes_with (read_left (record_in f.seat before) text p before) r (read_over f before) (read_over f h) answer over_same
      (subst (λ (v : Inode). Goes (read_left (record_of v) text p before) answer r) (sym (inode_still f.seat before h same)) goes)

  pub read_on : (q : ReadPart) → Goes (read_left (record_in f.seat h) text p before) answer (read_left (record_in f.seat h) new q h) → Goes (read_file_left text (Reading f p) before) answer (read_file_left new (Reading f q) h)
  read_on q goes = goes_so (read_left (record_in f.seat h) new q h) goes
