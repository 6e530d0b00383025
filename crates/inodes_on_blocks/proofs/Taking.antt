-- A block that a hart takes for an inode that it is changing. The bit is set, and until the record names it the block
-- is spare.
use Rattle.inodes_on_blocks.proofs.Vocabulary.{◌≡◌, ◌≢◌, inl, inr, ℕ, ◌<◌, Bool, true, false, List, ◌∷◌, Option, Some, None, sym, ◌∙◌, ap, subst, arith, if◌then◌else◌, refl, Dinode, Super, sizes_of, IsData, is_marked, numbers_of, IsOwned, NamesOwned, MarksBlocks, IsBitPut, IsTaken, IsLaidOut, IsSpare, Node, put, either, same_or, put_same, put_other, eq_self, lock_holder, seen_of, with_bit, is_hart, Idle, World, log_of, tables_of, disk_of, world_with, Kept, Carry, InHand, IsThrough, CanPut, IsChanging, PutLeaves, log_with, owners_with, Shows}
use Rattle.inodes_on_blocks.proofs.Basics.{untouched_change, taken, bitmaps_put_bits, held_back, kept_disk, hand_then, lent_then, hart_is, is_here, through_then, through_put, lock_range}
use Rattle.inode_machine.specs.World as above
use Rattle.inodes_on_blocks.proofs.Changing.{owner_with, LeftTo, Changing, stays_with, others_put}
use Rattle.inodes_on_blocks.proofs.OwnerPuts.{owner_taken, taken_other}
use Rattle.inodes_on_blocks.proofs.PutLaws.{set_bits_leave}

-- ---- owners that are the same of the data blocks

module _ (disk : List (List ℕ)) (owner owner' : ℕ → ℕ) (i : ℕ) (same : (b : ℕ) → IsData (sizes_of disk) b → owner' b ≡ owner b) where
  owned_on : (b : ℕ) → IsOwned disk owner i b → IsOwned disk owner' i b
  owned_on b own = record { block = own.block; owner_is = same b own.block ∙ own.owner_is }

  laid_on : (d : Dinode) (x : Node) → IsLaidOut disk owner i d x → IsLaidOut disk owner' i d x
  laid_on d x h = record { inode = h.inode; content = h.content; room = h.room; owned = λ p z lt ne. owned_on _ (h.owned p z lt ne); once = h.once }

  spare_on : (d : Dinode) (b : ℕ) → IsSpare disk owner i d b → IsSpare disk owner' i d b
  spare_on d b s = record { owned = owned_on b s.owned; unnamed = s.unnamed }

  named_on : (numbers : List ℕ) → NamesOwned disk owner i numbers → NamesOwned disk owner' i numbers
  named_on numbers named b block own = named b block (sym (same b block) ∙ own)

-- ---- an inode that is being changed, for which a block was taken

-- as one that is being changed, but that the record doesn't name this block yet
pub record HasSpare (h n b : ℕ) (c : Carry) (o : Option Node) (d : Dinode) (x : Node) (r : World) (g : above.World) : Type 0 where
  pub others : (i : ℕ) → i ≢ n → lock_holder i (tables_of r) ≡ Some h → InHand h i (c i) r g
  pub lock : lock_holder n (tables_of r) ≡ Some h
  pub keeps : g.keeper n ≡ Some h
  pub was : g.disk n ≡ o
  pub through : IsThrough h r
  pub lent : ((g.desks h).lender ≡ None → ⊥) → Idle h g
  pub laid : IsLaidOut (disk_of (log_of r)) (owner_with h n r) n d x
  pub spare : IsSpare (disk_of (log_of r)) (owner_with h n r) n d b
  pub named : NamesOwned (disk_of (log_of r)) (owner_with h n r) n (b ∷ numbers_of (disk_of (log_of r)) d)
  pub taken : r.taken b ≡ Some h

-- it lasts while others step
pub spare_stays : (h n b : ℕ) (c : Carry) (o : Option Node) (d : Dinode) (x : Node) (v w : World) (g u : above.World) → Shows v g → Shows w u → LeftTo h v w → Kept h g u → HasSpare h n b c o d x v g → HasSpare h n b c o d x w u
spare_stays h n b c o d x v w g u shows shows_then left kept is =
    let stays = left.inodes n is.lock in
    let becomes = untouched_change (disk_of (log_of v)) (disk_of (log_of w)) (owner_with h n v) (owner_with h n w) n d x (stays_with h n v w g u shows shows_then left stays) is.laid in
    record {
      others = λ i ne e. let before = left.no_more i e in hand_then h i (c i) v w g u left.sizes (left.inodes i before) kept is.lent (is.others i ne before);
      lock = stays.lock;
      keeps = (kept_disk h n g u kept is.lent is.keeps).0;
      was = (kept_disk h n g u kept is.lent is.keeps).1 ∙ is.was;
      through = through_then h v w left.begun is.through;
      lent = lent_then h g u kept is.lent;
      laid = becomes.laid;
      spare = becomes.spare b is.spare;
      named = subst (λ (ns : List ℕ). NamesOwned (disk_of (log_of w)) (owner_with h n w) n (b ∷ ns)) (sym becomes.numbers) (becomes.named (b ∷ numbers_of (disk_of (log_of v)) d) is.named);
      taken = (held_back (v.taken b) (w.taken b) h (seen_of (log_of v) b) (seen_of (log_of w) b) (sym (left.taken b)) is.taken).0;
    }

-- the bits of what is the inode's, with what was taken, are set
marks_with : (h n : ℕ) (r : World) (g : above.World) → Shows r g → MarksBlocks (disk_of (log_of r)) (owner_with h n r)
marks_with h n r g shows = record {
  front = shows.blocks.running.bits.front;
  owned = λ k block some. elim (either (is_hart (r.taken k) h)) [
    | inl mine ↦ let t = shows.taken k h (hart_is (r.taken k) h mine) in shows.blocks.running.no_others.free k block t.0 ∙ t.1
    | inr apart ↦ shows.blocks.running.bits.owned k block (λ z. some (ap (λ (t : Bool). if t then n else r.owner k) apart ∙ z))
  ];
}

module _ (h n b : ℕ) (c : Carry) (o : Option Node) (d : Dinode) (x : Node) (r : World) (g : above.World) (shows : Shows r g) (changing : Changing h n c o d x r g) (is : IsChanging h n g) (block : IsData (sizes_of (disk_of (log_of r))) b)
    (small : b < (log_of r).sizes.size) (clear : is_marked (disk_of (log_of r)) b ≡ false) (can : CanPut h (log_of r).sizes.bmapstart (with_bit b (seen_of (log_of r) (log_of r).sizes.bmapstart)) (log_of r)) where
  abbrev at : ℕ
  at = (log_of r).sizes.bmapstart

  abbrev bytes : List ℕ
  bytes = with_bit b (seen_of (log_of r) at)

  abbrev then_ : World
  then_ = world_with h at bytes r

  bit : IsBitPut (disk_of (log_of r)) (disk_of (log_of then_)) b true
  bit = (bitmaps_put_bits h b r g shows small).0 can

  some : n ≢ 0
  some z = absurd (let low = (lock_range n h r g shows is.lock).0 in omega (arith, low, z))

  pub take_leaves : PutLeaves h n r (log_with h at bytes r) (owners_with h at bytes r)
  take_leaves = (set_bits_leave h b n bytes r g shows is can block clear bit).0

  owner_then : (k : ℕ) → IsData (sizes_of (disk_of (log_of r))) k → owner_with h n then_ k ≡ put (owner_with h n r) b n k
  owner_then k data_k = elim (same_or k b) [
    | inl e ↦
        ap (λ (t : Bool). if t then n else then_.owner k) (is_here (then_.taken k) h (ap then_.taken e ∙ (set_bits_leave h b n bytes r g shows is can block clear bit).1))
        ∙ sym (ap (put (owner_with h n r) b n) e ∙ put_same (owner_with h n r) b n)
    | inr ne ↦
        (λ z. if is_hart (taken_same ne z) h then n else owner_same z) ∙ sym (put_other (owner_with h n r) b n k ne)
  ]
    where
      taken_same : k ≢ b → then_.taken k ≡ r.taken k
      taken_same ne = rw (eq_self at) (taken_other h n r g shows bytes can b block some clear bit k ne)

      owner_same : then_.owner k ≡ r.owner k
      owner_same = rw (eq_self at) (owner_taken h n r g shows bytes can b block some clear bit k data_k)

  came : IsTaken (disk_of (log_of r)) (disk_of (log_of then_)) (owner_with h n r) n b
  came = taken (disk_of (log_of r)) (disk_of (log_of then_)) (owner_with h n r) n b shows.blocks.running.front some block (marks_with h n r g shows) clear bit

  same_owner : (k : ℕ) → IsData (sizes_of (disk_of (log_of then_))) k → owner_with h n then_ k ≡ put (owner_with h n r) b n k
  same_owner k data_k = owner_then k (subst (λ (s : Super). IsData s k) bit.block.sizes data_k)

  pub spare_then : HasSpare h n b c o d x then_ g
  spare_then = record {
    others = others_put h n at bytes r g shows take_leaves c changing.others;
    lock = changing.lock;
    keeps = changing.keeps;
    was = changing.was;
    through = through_put h r then_ (log_of then_) refl refl changing.through;
    lent = changing.lent;
    laid = laid_on (disk_of (log_of then_)) (put (owner_with h n r) b n) (owner_with h n then_) n same_owner d x (came.laid d x changing.laid);
    spare = spare_on (disk_of (log_of then_)) (put (owner_with h n r) b n) (owner_with h n then_) n same_owner d b (came.spare d x changing.laid);
    named = named_on (disk_of (log_of then_)) (put (owner_with h n r) b n) (owner_with h n then_) n same_owner (b ∷ numbers_of (disk_of (log_of then_)) d) (came.named d x changing.laid changing.named);
    taken = (set_bits_leave h b n bytes r g shows is can block clear bit).1;
  }
