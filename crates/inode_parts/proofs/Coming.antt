-- How a lock gets into hand.
use Rattle.inode_parts.proofs.Vocabulary.{◌≡◌, ℕ, true, Bool, Option, Some, None, refl, sym, ap, subst, ◌∙◌, ◌==◌, if◌then◌else◌, IsSome, MatchOption, eq_self, GuardState, Inode, inode_at, with_inode, Hand, InodePlace, One, Two, number_in, IsLoadedAt, beside_lock, HasFile, HeldFile, having, note_at, with_note, Comes, CameTo, LearnsFile, Opened, IsAlone, locks, other, seat_of_lock, Note, Notes}
use Rattle.inode_parts.specs.declared.note.Note.TheVariants as note
use Rattle.inode_parts.proofs.Basics.{alone_none, other_free, named_in}

-- ---- on the way

pub comes_first : (k : InodePlace) (start : Hand) → inode_at k start ≡ None → start.first ≡ None → Comes k start start
comes_first k start free empty = (free, empty, refl)

pub comes_on : (k l : InodePlace) (start before h : Hand) → l ≡ k → beside_lock k h ≡ beside_lock k before → Comes k start before → Comes l start h
comes_on k l start before h at same comes = subst (λ (k : InodePlace). Comes k start h) (sym at) (comes.0, comes.1, same ∙ comes.2)

-- ---- at the end

loaded_guard : (o : Option (GuardState Inode)) → MatchOption o ⊥ (λ g. IsSome g.value.content) → (g : GuardState Inode) × (o ≡ Some g) × IsSome g.value.content
loaded_guard None is = absurd is
loaded_guard (Some g) is = (g, refl, is)

guard_there : (k : InodePlace) (h : Hand) → IsLoadedAt k h → (g : GuardState Inode) × (inode_at k h ≡ Some g) × IsSome g.value.content
guard_there One h is = loaded_guard h.one is
guard_there Two h is = loaded_guard h.two is

number_there : (k : InodePlace) (h : Hand) (n : ℕ) (g : GuardState Inode) → inode_at k h ≡ Some g → number_in k h ≡ n → g.value.number ≡ n
number_there k h n g e named = sym (ap (λ (v : Inode). v.number) (named_in k h g e)) ∙ named

-- what is at the seat was put there
put_there : (k : InodePlace) (start h : Hand) → start.first ≡ None → h.first ≡ None → beside_lock k h ≡ beside_lock k start → h ≡ with_inode k (inode_at k h) start
put_there One start h empty over same = λ i. record (same i) { first = (over ∙ sym empty) i; one = h.one }
put_there Two start h empty over same = λ i. record (same i) { first = (over ∙ sym empty) i; two = h.two }

pub came : (k : InodePlace) (n : ℕ) (start h : Hand) → Comes k start h → h.first ≡ None → IsLoadedAt k h → number_in k h ≡ n → CameTo k n start h
came k n start h comes over loaded named =
    let has = guard_there k h loaded in (
      has.0,
      put_there k start h comes.1 over comes.2 ∙ ap (λ (o : Option (GuardState Inode)). with_inode k o start) has.1,
      number_there k h n has.0 has.1 named,
      has.2,
    )

-- .. or nothing came
as_it_was : (k : InodePlace) (h : Hand) → with_inode k (inode_at k h) h ≡ h
as_it_was One h = refl
as_it_was Two h = refl

pub never_came : (k : InodePlace) (start h : Hand) → Comes k start h → h.first ≡ None → inode_at k h ≡ None → h ≡ start
never_came k start h comes over none =
    put_there k start h comes.1 over comes.2 ∙ ap (λ (o : Option (GuardState Inode)). with_inode k o start) (none ∙ sym comes.0) ∙ as_it_was k start

-- ---- its seat, and what is noted there

seat_by : (n : ℕ) (k : InodePlace) (h : Hand) → locks n (inode_at k h) ≡ true → IsAlone n k h → seat_of_lock n h ≡ k
seat_by n One h is alone = ap (λ (b : Bool). let k : InodePlace = if b then One else Two in k) is
seat_by n Two h is alone = ap (λ (b : Bool). let k : InodePlace = if b then One else Two in k) alone

pub its_seat : (n : ℕ) (k : InodePlace) (h : Hand) → IsLoadedAt k h → number_in k h ≡ n → IsAlone n k h → seat_of_lock n h ≡ k
its_seat n k h loaded named alone =
    let has = guard_there k h loaded in
    seat_by n k h (ap (locks n) has.1 ∙ ap (λ (i : ℕ). n == i) (number_there k h n has.0 has.1 named) ∙ eq_self n) alone

pub noted_there : (k : InodePlace) (l : Note) (m : Notes) → note_at k (with_note k l m) ≡ l
noted_there One l m = refl
noted_there Two l m = refl

pub noted_apart : (k : InodePlace) (l : Note) (m : Notes) → note_at (other k) (with_note k l m) ≡ note_at (other k) m
noted_apart One l m = refl
noted_apart Two l m = refl

-- ---- that of a descriptor's inode

module _ (k : InodePlace) (start before h : Hand) (f : HeldFile) (at : f.seat ≡ k) (has : HasFile f h) (same : beside_lock k h ≡ beside_lock k before) (comes : Comes k start before) where
  pub file_opens : Opened f.file.number start h
  file_opens =
      let there = comes_on k f.seat start before h at same comes in
      (f.seat, there.0, came f.seat f.file.number start h there has.2 has.0 has.1)

  pub file_learned : (m m2 : Notes) (fd own offset : ℕ) → inode_at (other k) before ≡ None → own ≡ fd → offset ≡ f.file.offset → m2 ≡ with_note f.seat (note.Opened own f.file.offset) m → LearnsFile fd f.file.number offset (having h m2)
  file_learned m m2 fd own offset free is e noted =
      let alone = alone_none f.file.number f.seat h (other_free k f.seat before h at same free) in
      ap (λ (k : InodePlace). note_at k m2) (its_seat f.file.number f.seat h has.0 has.1 alone)
      ∙ ap (note_at f.seat) noted
      ∙ noted_there f.seat (note.Opened own f.file.offset) m
      ∙ (λ i. note.Opened (is i) (sym e i))
