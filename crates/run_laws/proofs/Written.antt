-- A write has written what its answer says that it has written.
use Rattle.run_laws.proofs.Vocabulary.{◌≡◌, ◌<◌, ℕ, Bool, true, false, nat_lt, if◌then◌else◌, List, [], ◌∷◌, length, take, Option, Some, None, refl, sym, ◌∙◌, ap, subst, Cause, BadDescriptor, Node, node_or, write_kind, put, descriptor_count, put_same, ran_to, ExecResult, Ran, changed_record, entry_at, entry_moved, entry_of, slot_at, unlocked, with_bytes, with_offset, write_at, write_if, wrote_in, with_mark, HonestPiece, Writes, Entry, Mark, Picks, Refused, Room, RoomFor, Short, Whole, Wrote as WriteResult, Change, HasWritten, ShortWritesAreShort, WritesAreMade, by_write, Version}
use Rattle.inode_machine.specs.World.{Outside, World}
use Rattle.run_laws.specs.Changes.{Wrote}
use Rattle.run_laws.proofs.Untold.{Kept, answer_or, kept_of, marked_kept}

abbrev entry_in : Kept → ℕ → ℕ → Option Entry
entry_in k h fd = entry_at k.files (if nat_lt fd descriptor_count then (k.tables h).fds fd else None)

-- before and after it the same again
written_between : (h fd : ℕ) (b : List ℕ) (t w v u : World) → kept_of w ≡ kept_of t → HasWritten w h fd b v → kept_of u ≡ kept_of v
    → HasWritten t h fd b u
written_between h fd b t w v u front has back =
    let n : ℕ = has.entry.file.number in
    let offset : ℕ = has.entry.file.offset in
    record {
      entry = has.entry;
      opened = ap (λ (k : Kept). entry_in k h fd) (sym front) ∙ has.opened;
      content =
          ap (λ (k : Kept). k.disk n) back ∙ has.content
          ∙ ap (λ (k : Kept). Some (with_bytes offset b (node_or (k.disk n)))) front;
      stands = ap (λ (k : Kept). entry_in k h fd) back ∙ has.stands;
    }

abbrev bytes_of : List Change → List ℕ
bytes_of (Wrote fd b ∷ cs) = b
bytes_of cs = []

no_bytes : (fd : ℕ) (b : List ℕ) → [] ≡ Wrote fd b ∷ [] → ⊥
no_bytes fd b e = cc

module _ (version : Version) (h fd n : ℕ) (w : World) (e : Entry) (opened : entry_of w h fd ≡ Some e) (number : e.file.number ≡ n) where
  none_open : None ≡ Some e → ⊥
  none_open q = cc

  wrote_has : (b : List ℕ) (s : Option ℕ) → slot_at w h fd ≡ s → (alone : Bool)
      → HasWritten w h fd b (with_offset (unlocked n (changed_record w n (with_bytes e.file.offset b)) alone) s e (length b))
  wrote_has b None q alone = absurd (none_open (sym (ap (λ (s : Option ℕ). entry_at w.files s) q) ∙ opened))
  wrote_has b (Some k) q alone = by alone
    where
      new : Option Node
      new = Some (with_bytes e.file.offset b (node_or (w.disk n)))

      moved : Option Entry
      moved = Some (entry_moved e (length b))

      content : put w.disk n new e.file.number ≡ Some (with_bytes e.file.offset b (node_or (w.disk e.file.number)))
      content = subst (λ (z : ℕ). put w.disk n new z ≡ Some (with_bytes e.file.offset b (node_or (w.disk z)))) (sym number)
          (put_same w.disk n new)

      stands : entry_at (put w.files k moved) (slot_at w h fd) ≡ moved
      stands = ap (λ (s : Option ℕ). entry_at (put w.files k moved) s) q ∙ put_same w.files k moved

      by : (c : Bool)
          → HasWritten w h fd b (with_offset (unlocked n (changed_record w n (with_bytes e.file.offset b)) c) (Some k) e (length b))
      by true = record { entry = e; opened = opened; content = content; stands = stands }
      by false = record { entry = e; opened = opened; content = content; stands = stands }

  module _ (m : Option Mark) (u : World) (bytes b : List ℕ) (a : WriteResult) (is : by_write fd bytes a ≡ Wrote fd b ∷ []) where
    told_is : (c : WriteResult) (v : World) → with_mark version h (λ (z : WriteResult). m) (Ran c v) ≡ Ran a u
        → by_write fd bytes c ≡ Wrote fd b ∷ []
    told_is c v q = ap (λ (d : ExecResult WriteResult World). by_write fd bytes (answer_or a d)) q ∙ is

    has : (c : WriteResult) (v : World) → with_mark version h (λ (z : WriteResult). m) (Ran c v) ≡ Ran a u → HasWritten w h fd b v
        → HasWritten w h fd b u
    has c v q h' =
        written_between h fd b w w v u refl h' (ap (λ (d : ExecResult WriteResult World). kept_of (ran_to w d)) (sym q) ∙ marked_kept version h m v)

    -- the bytes that were written are those of the reported change
    written : (c : WriteResult) (some : List ℕ) → by_write fd bytes c ≡ Wrote fd some ∷ []
        → with_mark version h (λ (z : WriteResult). m) (Ran c (wrote_in w (slot_at w h fd) e n some)) ≡ Ran a u → HasWritten w h fd b u
    written c some told q =
        let v : World = wrote_in w (slot_at w h fd) e n some in
        let same : some ≡ b = ap bytes_of (sym told ∙ told_is c v q) in
        has c v q (subst (λ (z : List ℕ). HasWritten w h fd z v) same (wrote_has some (slot_at w h fd) refl (w.alone n)))

    writes : (x : Outside) (c : Option Cause)
        → with_mark version h (λ (z : WriteResult). m) (write_if w (slot_at w h fd) e n bytes x c) ≡ Ran a u → HasWritten w h fd b u
    writes x (Some why) q = absurd (no_bytes fd b (told_is (Refused why) (unlocked n w (w.alone n)) q))
    writes Room None q = written Whole bytes refl q
    writes (RoomFor k) None q = written (Short k) (take k bytes) refl q
    writes (Picks k) None q = written (Short 0) [] refl q

    wrote : (x : Outside) → with_mark version h (λ (z : WriteResult). m) (write_at version w (slot_at w h fd) n bytes x (entry_of w h fd)) ≡ Ran a u
        → HasWritten w h fd b u
    wrote x q =
        writes x (write_kind version (node_or (w.disk n)).kind e.file.offset bytes)
        (subst (λ (o : Option Entry). with_mark version h (λ (z : WriteResult). m) (write_at version w (slot_at w h fd) n bytes x o) ≡ Ran a u) opened q)

-- ---- a short write

refused_short : (why : Cause) (k : ℕ) → Refused why ≡ Short k → ⊥
refused_short why k q = cc

whole_short : (k : ℕ) → Whole ≡ Short k → ⊥
whole_short k q = cc

short_same : (j k : ℕ) → Short j ≡ Short k → j ≡ k
short_same j k q = cc

module _ (version : Version) (h n : ℕ) (w u : World) (s : Option ℕ) (bytes : List ℕ) (k : ℕ) (m : Option Mark) where
  answered : (c : WriteResult) (v : World) → with_mark version h (λ (z : WriteResult). m) (Ran c v) ≡ Ran (Short k) u → c ≡ Short k
  answered c v q = ap (λ (d : ExecResult WriteResult World). answer_or (Short k) d) q

  short_if : (e : Entry) (x : Outside) → HonestPiece bytes x → (c : Option Cause)
      → with_mark version h (λ (z : WriteResult). m) (write_if w s e n bytes x c) ≡ Ran (Short k) u → k < length bytes
  short_if e x honest (Some why) q = absurd (refused_short why k (answered (Refused why) (unlocked n w (w.alone n)) q))
  short_if e Room honest None q = absurd (whole_short k (answered Whole (wrote_in w s e n bytes) q))
  short_if e (RoomFor j) honest None q =
      subst (λ (z : ℕ). z < length bytes) (short_same j k (answered (Short j) (wrote_in w s e n (take j bytes)) q)) honest
  short_if e (Picks j) honest None q = absurd honest

  short_at : (x : Outside) → HonestPiece bytes x → (o : Option Entry)
      → with_mark version h (λ (z : WriteResult). m) (write_at version w s n bytes x o) ≡ Ran (Short k) u → k < length bytes
  short_at x honest None q = absurd (refused_short BadDescriptor k (answered (Refused BadDescriptor) (unlocked n w (w.alone n)) q))
  short_at x honest (Some e) q = short_if e x honest (write_kind version (node_or (w.disk n)).kind e.file.offset bytes) q

pub writes_short : ShortWritesAreShort
writes_short version t u h fd n offset k bytes mark told s =
    short_at version h n s.before s.after (slot_at s.before h fd) bytes k mark s.outside s.honest (entry_of s.before h fd) s.goes

pub writes_made : WritesAreMade
writes_made version t u h fd n offset bytes b a mark told s is =
    let by : Writes h fd n s.before = s.may.1.1 in
    written_between h fd b t s.before s.after u (ap (λ (z : World). kept_of z) s.from)
    (wrote version h fd n s.before by.entry by.at by.number mark s.after bytes b a is s.outside s.goes)
    (ap (λ (z : World). kept_of z) (sym s.to))
