-- The first listed inode locked: the operation is its part.
use Rattle.inode_parts.proofs.Vocabulary.{◌≡◌, ◌<◌, ◌^◌, ◌⊎◌, inl, inr, ℕ, List, [], ◌∷◌, true, false, Option, Some, None, refl, sym, ap, subst, ◌∙◌, IsSome, is_some, option_map_or, unwrap_or, GuardState, Loaded, Super, Version, Inode, bind, inode_block, load_unless, first_in, first_listed, inode_at, inode_in, no_inode, number_at, reference_at, with_first, with_inode, Hand, InodePlace, One, Two, HasNoBuffer, number_in, HasBlock, lock_loaded, eq_is, eq_self, AtNothing, Query, Take, answer_to, Heard, carry_in, Comes, CameTo, Leaves, having, IsAlone, free_seat, other, refers, seat_of_reference, IsPart, Part, MayRelock, RelockBegins, RelockReady, beside_in, only_seen, IsTaken, Sees, TakeBegins, Notes}
use Rattle.fs_machine.specs.Machines as code
use Rattle.path_walk.specs.declared.asks.Query.TheVariants as query
use Rattle.inode_parts.specs.declared.relock_part.RelockPart.TheVariants as relock
use Rattle.inode_parts.proofs.Seeing.{taken_leaves}
use Rattle.inode_parts.proofs.Basics.{alone_still, same_beside}
use Rattle.inode_parts.proofs.Takes.{locked_is_part}
use Rattle.inode_parts.proofs.Taking.{number_same}

-- ---- by which reference it is locked

referred : (n : ℕ) (o : Option ℕ) → refers n o ≡ true → o ≡ Some n
referred n None e = absurd (cc e)
referred n (Some j) e = sym (ap (λ (j : ℕ). Some j) (eq_is n j e))

refers_so_far : (n : ℕ) (o : Option ℕ) → o ≡ Some n → refers n o ≡ true
refers_so_far n o e = ap (refers n) e ∙ eq_self n

module _ (sizes : Super) (n : ℕ) (q : Query) (h : Hand) (k : InodePlace) (at : k ≡ seat_of_reference n h) where
  pub taken_by : refers n (reference_at k h) ≡ true → TakeBegins sizes n h ⊎ (RelockBegins sizes n h × (q ≡ AtNothing)) → TakeBegins sizes n h
  taken_by there (inl begins) = begins
  taken_by there (inr begins) = absurd (begins.0.0.0 (subst (λ (k : InodePlace). reference_at k h ≡ Some n) at (referred n (reference_at k h) there)))

  pub relocked_by : refers n (reference_at k h) ≡ false → TakeBegins sizes n h ⊎ (RelockBegins sizes n h × (q ≡ AtNothing)) → RelockBegins sizes n h × (q ≡ AtNothing)
  relocked_by none (inl begins) =
      absurd (let clash : true ≡ false = sym (refers_so_far n (reference_at k h) (subst (λ (k : InodePlace). reference_at k h ≡ Some n) (sym at) begins.0)) ∙ none in cc clash)
  relocked_by none (inr begins) = begins

-- ---- it begins

module _ (sizes : Super) (n : ℕ) (h : Hand) (k : InodePlace) (at : k ≡ free_seat h) (begins : RelockBegins sizes n h) where
  named : first_listed h ≡ n
  named = ap first_in begins.0.1.1

  free : inode_at k h ≡ None
  free = subst (λ (k : InodePlace). inode_at k h ≡ None) (sym at) begins.0.3

  pub relock_is_part : (path : List ℕ) (m : Notes) → IsPart sizes (carry_in path m h) (Take n AtNothing) (bind (lock_loaded sizes.inodestart (first_listed h)) (only_seen path (beside_in path m k h) (first_listed h)))
  relock_is_part path m =
      locked_is_part sizes path m n query.Nothing h k (lock_loaded sizes.inodestart (first_listed h)) (first_listed h) (ap (λ (n : ℕ). let p : code.P Loaded = lock_loaded sizes.inodestart n in p) named) named free

  some : h.listed ≡ [] → ⊥
  some none = let clash : n ∷ begins.0.1.0 ≡ [] = sym begins.0.1.1 ∙ none in cc clash

  pub relock_ready : RelockReady (relock.Locking k sizes.inodestart) h
  relock_ready = (
    some,
    subst (λ (k : InodePlace). reference_at k h ≡ None) (sym at) begins.0.2,
    free,
    subst (λ (n : ℕ). IsAlone n k h) (sym named) (subst (λ (k : InodePlace). IsAlone n k h) (sym at) begins.0.4),
    begins.0.5,
    subst (λ (n : ℕ). inode_block sizes.inodestart n < 2 ^ 32) (sym named) begins.1,
  )

-- ---- its lock came, with the reference

module _ (k : InodePlace) (before h : Hand) (g : GuardState Inode) (is : h ≡ with_inode k (Some g) (with_first k before)) (named : g.value.number ≡ first_listed before) where
  pub came_there : inode_at k h ≡ Some g
  came_there = at k is
    where
      at : (k : InodePlace) → h ≡ with_inode k (Some g) (with_first k before) → inode_at k h ≡ Some g
      at One is = ap (λ (h : Hand). h.one) is
      at Two is = ap (λ (h : Hand). h.two) is

  came_reference : reference_at k h ≡ Some (first_listed before)
  came_reference = at k is
    where
      at : (k : InodePlace) → h ≡ with_inode k (Some g) (with_first k before) → reference_at k h ≡ Some (first_listed before)
      at One is = ap (λ (h : Hand). h.to_one) is
      at Two is = ap (λ (h : Hand). h.to_two) is

  other_same : inode_at (other k) before ≡ inode_at (other k) h
  other_same = at k is
    where
      at : (k : InodePlace) → h ≡ with_inode k (Some g) (with_first k before) → inode_at (other k) before ≡ inode_at (other k) h
      at One is = sym (ap (λ (h : Hand). h.two) is)
      at Two is = sym (ap (λ (h : Hand). h.one) is)

  pub came_buffers : HasNoBuffer before → HasNoBuffer h
  came_buffers none = at k is
    where
      at : (k : InodePlace) → h ≡ with_inode k (Some g) (with_first k before) → HasNoBuffer h
      at One is = (ap (λ (h : Hand). h.first) is ∙ none.0, ap (λ (h : Hand). h.second) is ∙ none.1)
      at Two is = (ap (λ (h : Hand). h.first) is ∙ none.0, ap (λ (h : Hand). h.second) is ∙ none.1)

  refers_so : number_at k h ≡ first_listed before
  refers_so = ap (λ (o : Option ℕ). unwrap_or o 0) came_reference

  locks_so : number_in k h ≡ first_listed before
  locks_so = ap (λ (o : Option (GuardState Inode)). (option_map_or (λ (g : GuardState Inode). g.value) o no_inode).number) came_there ∙ named

  pub came_number : number_in k h ≡ number_at k h
  came_number = locks_so ∙ sym refers_so

  pub came_some : IsSome (inode_at k h)
  came_some = ap (λ (o : Option (GuardState Inode)). is_some o) came_there

  pub came_alone : IsAlone (first_listed before) k before → IsAlone (number_at k h) k h
  came_alone alone = subst (λ (n : ℕ). IsAlone n k h) (sym refers_so) (alone_still k before h (first_listed before) other_same alone)

  pub came_block : (inodestart : ℕ) → inode_block inodestart (first_listed before) < 2 ^ 32 → HasBlock inodestart k h
  came_block inodestart block = subst (λ (n : ℕ). inode_block inodestart n < 2 ^ 32) (sym locks_so) block

  -- what is left then
  pub came_goes : (path : List ℕ) (m : Notes) (inodestart : ℕ) (p : code.P Loaded) (r : Part) → p ≡ load_unless inodestart (number_in k h) (inode_in k h).content → bind p (only_seen path (beside_in path m k h) (number_at k h)) ≡ r
      → bind (load_unless inodestart (first_listed before) (inode_in k h).content) (only_seen path (beside_in path m k before) (first_listed before)) ≡ r
  came_goes path m inodestart p r program ends =
      (λ i. bind (load_unless inodestart (sym locks_so i) (inode_in k h).content) (only_seen path (same_beside path m k before h other_same i) (sym refers_so i)))
      ∙ ap (λ (p : code.P Loaded). bind p (only_seen path (beside_in path m k h) (number_at k h))) (sym program)
      ∙ ends

-- ---- what it leaves

-- the reference went to this seat
first_at : (k : InodePlace) (h : Hand) → number_at k (with_first k h) ≡ first_listed h
first_at One h = refl
first_at Two h = refl

-- .. and its lock comes there too
first_comes : (k : InodePlace) (h : Hand) (g : GuardState Inode) → inode_at k h ≡ None → h.first ≡ None → Comes k (with_first k h) (with_inode k (Some g) (with_first k h))
first_comes One h g free empty = (free, empty, refl)
first_comes Two h g free empty = (free, empty, refl)

module _ (n : ℕ) (start : Hand) (may : MayRelock n start) (k : InodePlace) (at : k ≡ free_seat start) where
  abbrev referred_to : Hand
  referred_to = with_first (free_seat start) start

  number_came : number_at k referred_to ≡ n
  number_came = (λ i. number_at (at i) referred_to) ∙ first_at (free_seat start) start ∙ ap first_in may.1.1

  pub relock_comes : (before h : Hand) (g : GuardState Inode) → before ≡ start → h ≡ with_inode k (Some g) (with_first k before) → Comes k referred_to h
  relock_comes before h g still is =
      subst (λ (h : Hand). Comes k referred_to h) (sym (is ∙ ap (λ (h : Hand). with_inode k (Some g) (with_first k h)) still))
      (subst (λ (k : InodePlace). Comes k referred_to (with_inode k (Some g) (with_first k start))) (sym at) (first_comes (free_seat start) start g may.3 may.5.0))

  pub relock_leaves : (v : Version) (path : List ℕ) (m m2 : Notes) (h : Hand) (x : Heard) → Comes k referred_to h → IsTaken k h → h.first ≡ None → Sees v path AtNothing k x m m2
      → Leaves v path (Take n AtNothing) (answer_to [] (Take n AtNothing) x) (having start m) (having h m2)
  relock_leaves v path m m2 h x comes taken over sees =
      let kept = sym (number_same k referred_to h comes.2) ∙ number_came in
      let left = taken_leaves v path m m2 n AtNothing start referred_to k h x kept comes taken over sees in
      ((((λ has. absurd (may.0 has)), (λ none. subst (λ (k : InodePlace). CameTo k n referred_to h) at left.0)), sees.0), left.1)
