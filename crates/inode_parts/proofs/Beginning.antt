-- What is asked of the hand on a disk of these sizes.
use Rattle.inode_parts.proofs.Vocabulary.{arith, ◌≡◌, ◌⊎◌, inl, inr, ℕ, subst, ◌<◌, ◌-◌, ◌^◌, IsSome, Super, inode_block, Hand, inode_at, HasNoBuffer, number_in, AtNothing, Query, MayChange, ClaimBegins, HasChangeable, HasOpened, MayLock, MayOpen, LockBegins, WriteBegins, FreeBegins, Having, HasFreeSeat, HasLock, seat_of_lock, MayRelock, RelockBegins, IsSized, TakeBegins}
use Rattle.inode_parts.proofs.Basics.{locked_there}

module _ (sizes : Super) (sized : IsSized sizes) where
  block_fits : (n : ℕ) → n < 2 ^ 32 → inode_block sizes.inodestart n < 2 ^ 32
  block_fits n few = let early = sized.early in omega arith

  pub may_change : (n : ℕ) (h : Hand) → n < 2 ^ 32 → HasChangeable n h → MayChange sizes n h
  may_change n h few has = (has.0, has.1, block_fits n few, has.2, has.3)

  pub may_take : (n : ℕ) (h : Hand) → n < 2 ^ 32 → MayLock n h → TakeBegins sizes n h
  may_take n h few has = (has.0, has.1, has.2, has.3, block_fits n few)

  -- .. by a reference in hand, or by the first listed one
  pub may_take_by : (n : ℕ) (q : Query) (h : Hand) → n < 2 ^ 32 → MayLock n h ⊎ (MayRelock n h × (q ≡ AtNothing)) → TakeBegins sizes n h ⊎ (RelockBegins sizes n h × (q ≡ AtNothing))
  may_take_by n q h few (inl has) = inl (may_take n h few has)
  may_take_by n q h few (inr has) = inr ((has.0, block_fits n few), has.1)

  number_locked : (n : ℕ) (h : Hand) → HasLock n h → n ≡ number_in (seat_of_lock n h) h
  number_locked n h has = (locked_there n (inode_at (seat_of_lock n h) h) has.0).1

  pub may_free : (n : ℕ) (h : Hand) → n < 2 ^ 32 → HasChangeable n h → FreeBegins sizes n h
  may_free n h few has =
      (has.0, (has.1, subst (λ (n : ℕ). inode_block sizes.inodestart n < 2 ^ 32) (number_locked n h has.0) (block_fits n few), has.2), has.3)

  pub may_lock : (h : Hand) → MayOpen h → LockBegins sizes h
  may_lock h has = (block_fits (2 ^ 16 - 1) (omega arith), has.0, has.1, has.2.0)

  pub may_claim : (h : Hand) → HasFreeSeat h × HasNoBuffer h × IsSome h.txn → ClaimBegins sizes h
  may_claim h has = let early = sized.early in let few = sized.few in ((sized.some, omega arith), has.0, has.1, has.2)

  pub may_write : (n fd offset : ℕ) (s : Having) → n < 2 ^ 32 → HasOpened fd n offset s × IsSome s.hand.txn → WriteBegins sizes fd n offset s
  may_write n fd offset s few has = (has.0, has.1, block_fits n few, sized.size)
