-- The laws of recorded puts.
use Rattle.inodes_on_blocks.proofs.Vocabulary.{◌≡◌, inl, inr, ℕ, ◌<◌, true, List, length, Option, refl, sym, subst, arith, ◌≢◌, false, Some, None, ◌∙◌, nat_lt, nat_tests, Super, either, eq_self, eq_not, Contains, numbers_by, HoldsAt, lock_holder, seen_of, inode_block, Owners, inode_put, owners_put, log_of, tables_of, disk_of, owners_of, PutLeaves, log_with, owners_with, RecordedPutsKeep, DataPutsLeave, ClearedBitsLeave, SetBitsLeave, RecordPutsLeave, NamingPutsLeave}
use Rattle.inodes_on_blocks.proofs.Basics.{good_seen, may_put, same_put, shows_put, lock_range, quiet_owners, quiet_leaves}
use Rattle.fs_machine.specs.Steps as steps
use Rattle.inodes_on_blocks.specs.Recording.{with_record}
use Rattle.inodes_on_blocks.proofs.NamedPuts.{named_leaves, named_here}
use Rattle.inodes_on_blocks.proofs.OwnerPuts.{give_leaves, take_leaves, taken_here, data_put_leaves}

pub recorded_puts_keep : RecordedPutsKeep
unfolding steps.exec
recorded_puts_keep h b n bytes r g x shows is can leaves = (
  may_put h b bytes r.state shows.whole shows.blocks.seen can,
  (shows_put h b n bytes r g shows is.lock is.joined can (owners_with h b bytes r) leaves, same_put h b n bytes r g shows is.lock is.joined can (owners_with h b bytes r) leaves),
)

-- after the bitmap nothing of it changes
pub behind : (lock : ℕ → Option ℕ) (h bitmap b : ℕ) (old new : List (List ℕ)) (o : Owners) → bitmap < b → owners_put lock h bitmap b old new o ≡ o
behind lock h bitmap b old new o past = elim (either (nat_lt b bitmap)) [
  | inl low ↦ absurd (not_below b bitmap past low)
  | inr high ↦ rw (eq_not b bitmap (λ e. absurd (omega (arith, e, past))), high) refl
]
  where
    not_below : (a c : ℕ) → c < a → nat_lt a c ≡ true → ⊥
    not_below a c past low = grind (arith, nat_tests)

pub data_puts_leave : DataPutsLeave
data_puts_leave h b n bytes r g shows is can block own =
    let here = (good_seen (log_of r).sizes (seen_of (log_of r)) (length (log_of r).contents) shows.blocks.seen).sizes_are in
    let past : (log_of r).sizes.bmapstart < b = (subst (λ (s : Super). s.bmapstart < b) here block.0) in
    subst (λ (o : Owners). PutLeaves h n r (log_with h b bytes r) o)
    (sym (behind (λ i. lock_holder i (tables_of r)) h (log_of r).sizes.bmapstart b (disk_of (log_of r)) (disk_of (log_with h b bytes r)) (owners_of r) past))
    (data_put_leaves h n b r g shows bytes can block own (lock_range n h r g shows is.lock).0)

pub cleared_bits_leave : ClearedBitsLeave
cleared_bits_leave h b n bytes r g shows is can block own bit =
    rw (eq_self (log_of r).sizes.bmapstart) (give_leaves h n r g shows bytes can b (lock_range n h r g shows is.lock).0 block own bit)

pub set_bits_leave : SetBitsLeave
set_bits_leave h b n bytes r g shows is can block clear bit =
    let low = (lock_range n h r g shows is.lock).0 in (
      rw (eq_self (log_of r).sizes.bmapstart) (take_leaves h n r g shows bytes can b block (λ e. absurd (omega (arith, e, low))) clear bit),
      rw (eq_self (log_of r).sizes.bmapstart) (taken_here h n r g shows bytes can b block (λ e. absurd (omega (arith, e, low))) clear bit),
    )

pub record_puts_leave : RecordPutsLeave
record_puts_leave h n d r g shows is fits none can =
    let b = inode_block (log_of r).sizes.inodestart n in
    let range = lock_range n h r g shows is.lock in
    let inodes = shows.blocks.seen.good.inodes in
    let bound = range.1 in
    subst (λ (o : Owners). PutLeaves h n r (log_with h b (with_record n d r) r) o)
    (sym (quiet_owners (λ i. lock_holder i (tables_of r)) h (disk_of (log_with h b (with_record n d r) r)) (owners_of r) none (log_of r).sizes.bmapstart b (disk_of (log_of r)) (λ e. absurd (omega (arith, inodes, bound, e)))))
    (quiet_leaves h n d r g shows range.1 fits can (shows.blocks.seen.whole b can.home.within can.home.outside))

-- before the bitmap it is a put of inodes
pub before : (lock : ℕ → Option ℕ) (h bitmap b : ℕ) (old new : List (List ℕ)) (o : Owners) → b < bitmap → owners_put lock h bitmap b old new o ≡ inode_put lock h new o
before lock h bitmap b old new o low = elim (either (nat_lt b bitmap)) [
  | inl is ↦ rw (eq_not b bitmap (λ e. absurd (omega (arith, e, low))), is) refl
  | inr isnt ↦ absurd (not_high b bitmap low isnt)
]
  where
    not_high : (a c : ℕ) → a < c → nat_lt a c ≡ false → ⊥
    not_high a c low isnt = grind (arith, nat_tests)

pub naming_puts_leave : NamingPutsLeave
naming_puts_leave h n d r g shows is fits others can =
    let b = inode_block (log_of r).sizes.inodestart n in
    let range = lock_range n h r g shows is.lock in
    let inodes = shows.blocks.seen.good.inodes in
    let bound = range.1 in
    let long = shows.blocks.seen.whole b can.home.within can.home.outside in
    let new = disk_of (log_with h b (with_record n d r) r) in
    let lock : (ℕ → Option ℕ) = (λ i. lock_holder i (tables_of r)) in
    let all : ((j : ℕ) → j ≢ n → lock_holder j (tables_of r) ≡ Some h → HoldsAt (disk_of (log_of r)) r.owner j (g.disk j)) = (λ j ne out. others j ne (shows.tables.places.holders j ∙ out)) in
    subst (λ (o : Owners). PutLeaves h n r (log_with h b (with_record n d r) r) o × ((c : ℕ) → r.taken c ≡ Some h → Contains (numbers_by new n) c → (o.owner c ≡ n) × (o.taken c ≡ None)))
    (sym (before lock h (log_of r).sizes.bmapstart b (disk_of (log_of r)) new (owners_of r) (omega (arith, inodes, bound))))
    (named_leaves h n d r g shows is.lock is.joined range.0 range.1 fits can long all, named_here h n d r g shows is.lock is.joined range.0 range.1 fits can long all)
