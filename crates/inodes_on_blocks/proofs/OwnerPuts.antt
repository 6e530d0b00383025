-- Whose the blocks are after a put of an inode's data block, and after one of the bitmap that sets or clears a bit.
use Rattle.inodes_on_blocks.proofs.Vocabulary.{◌≡◌, ◌≢◌, ◌⊎◌, inl, inr, ℕ, ◌<◌, ◌≤◌, Bool, true, false, ◌||◌, not, List, length, Option, Some, None, refl, sym, ◌∙◌, ap, subst, arith, if◌then◌else◌, same_Some, Super, sizes_of, IsOutsideLog, either, same_or, eq_self, eq_not, put_same, put_other, put, IsData, is_marked, IsPut, IsBitPut, IsUntouched, LogPart, put_block, seen_of, if_kept, Owners, bits_put, World, log_of, disk_of, owners_of, CanPut, PutLeaves, Shows}
use Rattle.inodes_on_blocks.proofs.Basics.{data_leaves, taken, given_back, good_seen, disk_put, seen_put_other}
use Rattle.inode_machine.specs.World as above

-- an inode is left so with owners that are the same of each data block
owners_alike : (disk new : List (List ℕ)) (o p q : ℕ → ℕ) (j : ℕ) → IsUntouched disk new o p j → ((c : ℕ) → IsData (sizes_of disk) c → q c ≡ p c) → IsUntouched disk new o q j
owners_alike disk new o p q j u same = record {
  sizes = u.sizes;
  inode = u.inode;
  blocks = λ c block own. let at = u.blocks c block own in (at.0, same c block ∙ at.1);
  alone = λ c block own. u.alone c block (sym (same c block) ∙ own);
}

module _ (h n : ℕ) (r : World) (g : above.World) (shows : Shows r g) (bytes : List ℕ) (can : CanPut h (log_of r).sizes.bmapstart bytes (log_of r)) where
  abbrev l : LogPart
  l = log_of r

  abbrev now : LogPart
  now = put_block h l.sizes.bmapstart (Some bytes) l

  abbrev then_ : Owners
  then_ = bits_put h (disk_of l) (disk_of now) (owners_of r)

  here : sizes_of (disk_of l) ≡ l.sizes
  here = (good_seen l.sizes (seen_of l) (length l.contents) shows.blocks.seen).sizes_are

  -- a bit that a hart has set for a block that it took is set
  taken_marked : (c k : ℕ) → r.taken c ≡ Some k → is_marked (disk_of l) c ≡ true
  taken_marked c k e =
      let t = shows.taken c k e in shows.blocks.running.no_others.free c (subst (λ (s : Super). IsData s c) (sym here) t.3) t.0 ∙ t.1

  -- what was taken is seen as before
  pub taken_seen : (k c : ℕ) → if_kept (r.taken c) k (seen_of now c) ≡ if_kept (r.taken c) k (seen_of l c)
  taken_seen k c = by (r.taken c) refl
    where
      by : (t : Option ℕ) → r.taken c ≡ t → if_kept t k (seen_of now c) ≡ if_kept t k (seen_of l c)
      by None e = refl
      by (Some j) e =
          let past = (shows.taken c j e).3.0 in
          ap (λ (x : List ℕ). if_kept (Some j) k x) (seen_put_other h l.sizes.bmapstart bytes r.state shows.whole shows.blocks.seen can c (λ q. absurd (omega (arith, past, q))))

  few : (c : ℕ) → IsData (sizes_of (disk_of now)) c → sizes_of (disk_of now) ≡ sizes_of (disk_of l) → then_.owner c < (sizes_of (disk_of now)).ninodes
  few c block same = elim (either (is_marked (disk_of now) c)) [
    | inl set ↦ rw set (subst (λ (s : Super). r.owner c < s.ninodes) (sym same) (shows.blocks.running.owners c (subst (λ (s : Super). IsData s c) same block)))
    | inr clear ↦ rw clear (let some = shows.blocks.seen.good.few_inodes in let sized : (sizes_of (disk_of now)).ninodes ≡ l.sizes.ninodes = ap (λ (s : Super). s.ninodes) (same ∙ here) in omega (arith, some, sized))
  ]

  -- ---- a block given back

  module _ (b : ℕ) (low : 1 ≤ n) (data_block : IsData (sizes_of (disk_of l)) b) (own : r.owner b ≡ n) (bit : IsBitPut (disk_of l) (disk_of now) b false) where
    cleared : is_marked (disk_of now) b ≡ false
    cleared = bit.bits b ∙ (rw (eq_self b) refl)

    as_before : (c : ℕ) → c ≢ b → is_marked (disk_of now) c ≡ is_marked (disk_of l) c
    as_before c ne = bit.bits c ∙ (rw (eq_not c b ne) refl)

    -- if a bit is set it was
    was_set : (c : ℕ) → is_marked (disk_of now) c ≡ true → is_marked (disk_of l) c ≡ true
    was_set c set = elim (same_or c b) [
      | inl e ↦ absurd (let q : false ≡ true = sym cleared ∙ ap (is_marked (disk_of now)) (sym e) ∙ set in cc)
      | inr ne ↦ sym (as_before c ne) ∙ set
    ]

    pub owner_given : (c : ℕ) → IsData (sizes_of (disk_of l)) c → then_.owner c ≡ put r.owner b 0 c
    owner_given c block = elim (same_or c b) [
      | inl e ↦ ap then_.owner e ∙ (rw cleared refl) ∙ sym (ap (put r.owner b 0) e ∙ put_same r.owner b 0)
      | inr ne ↦ elim (either (is_marked (disk_of now) c)) [
        | inl set ↦ (rw set refl) ∙ sym (put_other r.owner b 0 c ne)
        | inr clear ↦ (rw clear refl) ∙ sym (put_other r.owner b 0 c ne ∙ unowned c block (sym (as_before c ne) ∙ clear))
      ]
    ]
      where
        unowned : (c : ℕ) → IsData (sizes_of (disk_of l)) c → is_marked (disk_of l) c ≡ false → r.owner c ≡ 0
        unowned c block clear = elim (same_or (r.owner c) 0) [
          | inl z ↦ z
          | inr some ↦ absurd (let q : false ≡ true = sym clear ∙ shows.blocks.running.bits.owned c block some in cc)
        ]

    left_given : (c : ℕ) → is_marked (disk_of now) c ≡ true → then_.left c ≡ r.left c
    left_given c set = rw (set, was_set c set) (or_false (r.left c))
      where
        or_false : (t : Bool) → (t || not true) ≡ t
        or_false true = refl
        or_false false = refl

    pub taken_given : (c : ℕ) → then_.taken c ≡ r.taken c
    taken_given c = elim (either (is_marked (disk_of now) c)) [
      | inl set ↦ rw (set, was_set c set) refl
      | inr clear ↦ (rw clear refl) ∙ sym (none (r.taken c) refl clear)
    ]
      where
        none : (t : Option ℕ) → r.taken c ≡ t → is_marked (disk_of now) c ≡ false → t ≡ None
        none None e clear = refl
        none (Some k) e clear = elim (same_or c b) [
          | inl q ↦ absurd (let z : r.owner b ≡ 0 = ap r.owner (sym q) ∙ (shows.taken c k e).0 in omega (arith, z, own, low))
          | inr ne ↦ absurd (let z : false ≡ true = sym clear ∙ as_before c ne ∙ taken_marked c k e in cc)
        ]

    pub give_leaves : PutLeaves h n r now then_
    give_leaves =
        let given = given_back (disk_of l) (disk_of now) r.owner n b shows.blocks.running.front (λ z. absurd (omega (arith, z, low))) data_block own bit in
        let same : sizes_of (disk_of now) ≡ sizes_of (disk_of l) = bit.block.sizes in
        let marks = given.left.bits shows.blocks.running.bits in
        record {
          inodes = λ j lj bj ne. owners_alike (disk_of l) (disk_of now) r.owner (put r.owner b 0) then_.owner j (given.left.inodes j lj bj ne) owner_given;
          bits = record { front = marks.front; owned = λ c block some. set_where c some };
          no_others = record {
            free = λ c block none. elim (either (is_marked (disk_of now) c)) [
              | inl set ↦ set ∙ sym (left_given c set ∙ sym (shows.blocks.running.no_others.free c (subst (λ (s : Super). IsData s c) same block) (sym (owner_set c set) ∙ none)) ∙ was_set c set)
              | inr clear ↦ clear ∙ sym (rw clear refl)
            ];
            apart = λ c some. left_given c (set_where c some) ∙ shows.blocks.running.no_others.apart c (λ z. some (owner_set c (set_where c some) ∙ z));
          };
          owners = λ c block. few c block same;
          shown = λ c k e. shown c k (sym (taken_given c) ∙ e);
          others = λ k ne c. ap (λ (t : Option ℕ). if_kept t k (seen_of now c)) (taken_given c) ∙ taken_seen k c;
        }
      where
        owner_set : (c : ℕ) → is_marked (disk_of now) c ≡ true → then_.owner c ≡ r.owner c
        owner_set c set = rw set refl

        set_where : (c : ℕ) → then_.owner c ≢ 0 → is_marked (disk_of now) c ≡ true
        set_where c some = elim (either (is_marked (disk_of now) c)) [
          | inl set ↦ set
          | inr clear ↦ absurd (some (rw clear refl))
        ]

        shown : (c k : ℕ) → r.taken c ≡ Some k → (then_.owner c ≡ 0) × (then_.left c ≡ true) × IsOutsideLog l.sizes c × IsData l.sizes c
        shown c k e =
            let t = shows.taken c k e in
            let set : is_marked (disk_of now) c ≡ true = as_before c (λ q. absurd (let z : r.owner b ≡ 0 = ap r.owner (sym q) ∙ t.0 in omega (arith, z, own, low))) ∙ taken_marked c k e in
            (owner_set c set ∙ t.0, left_given c set ∙ t.1, t.2, t.3)

  -- ---- a block taken

  module _ (b : ℕ) (data_block : IsData (sizes_of (disk_of l)) b) (some : n ≢ 0) (clear : is_marked (disk_of l) b ≡ false) (bit : IsBitPut (disk_of l) (disk_of now) b true) where
    is_set : is_marked (disk_of now) b ≡ true
    is_set = bit.bits b ∙ (rw (eq_self b) refl)

    same_bit : (c : ℕ) → c ≢ b → is_marked (disk_of now) c ≡ is_marked (disk_of l) c
    same_bit c ne = bit.bits c ∙ (rw (eq_not c b ne) refl)

    -- what was set is
    still_set : (c : ℕ) → is_marked (disk_of l) c ≡ true → is_marked (disk_of now) c ≡ true
    still_set c set = same_bit c (λ q. absurd (let z : false ≡ true = sym clear ∙ ap (is_marked (disk_of l)) (sym q) ∙ set in cc)) ∙ set

    pub owner_taken : (c : ℕ) → IsData (sizes_of (disk_of l)) c → then_.owner c ≡ r.owner c
    owner_taken c block = elim (either (is_marked (disk_of now) c)) [
      | inl set ↦ rw set refl
      | inr off ↦ (rw off refl) ∙ sym (unowned off)
    ]
      where
        unowned : is_marked (disk_of now) c ≡ false → r.owner c ≡ 0
        unowned off = elim (same_or (r.owner c) 0) [
          | inl z ↦ z
          | inr owned ↦ absurd (let z : false ≡ true = sym off ∙ still_set c (shows.blocks.running.bits.owned c block owned) in cc)
        ]

    left_old : (c : ℕ) → is_marked (disk_of l) c ≡ true → then_.left c ≡ r.left c
    left_old c set = rw (still_set c set, set) (or_false (r.left c))
      where
        or_false : (t : Bool) → (t || not true) ≡ t
        or_false true = refl
        or_false false = refl

    taken_old : (c : ℕ) → is_marked (disk_of l) c ≡ true → then_.taken c ≡ r.taken c
    taken_old c set = rw (still_set c set, set) refl

    -- the block itself, which was nobody's, is in the hart's hand
    free : r.owner b ≡ 0
    free = elim (same_or (r.owner b) 0) [
      | inl z ↦ z
      | inr owned ↦ absurd (let z : false ≡ true = sym clear ∙ shows.blocks.running.bits.owned b data_block owned in cc)
    ]

    left_here : then_.left b ≡ true
    left_here = rw (is_set, clear) (or_true (r.left b))
      where
        or_true : (t : Bool) → (t || not false) ≡ true
        or_true true = refl
        or_true false = refl

    pub taken_here : then_.taken b ≡ Some h
    taken_here = rw (is_set, clear) refl

    -- of another block the bit decides as before
    left_other : (c : ℕ) → c ≢ b → IsData (sizes_of (disk_of l)) c → r.owner c ≡ 0 → then_.left c ≡ r.left c
    left_other c ne block none = elim (either (is_marked (disk_of l) c)) [
      | inl set ↦ left_old c set
      | inr off ↦ (rw (same_bit c ne ∙ off) refl) ∙ sym (sym (shows.blocks.running.no_others.free c block none) ∙ off)
    ]

    pub taken_other : (c : ℕ) → c ≢ b → then_.taken c ≡ r.taken c
    taken_other c ne = elim (either (is_marked (disk_of l) c)) [
      | inl set ↦ taken_old c set
      | inr off ↦ (rw (same_bit c ne ∙ off) refl) ∙ sym (none (r.taken c) refl off)
    ]
      where
        none : (t : Option ℕ) → r.taken c ≡ t → is_marked (disk_of l) c ≡ false → t ≡ None
        none None e off = refl
        none (Some k) e off = absurd (let z : false ≡ true = sym off ∙ taken_marked c k e in cc)

    untaken : r.taken b ≡ None
    untaken = by (r.taken b) refl
      where
        by : (t : Option ℕ) → r.taken b ≡ t → t ≡ None
        by None e = refl
        by (Some k) e = absurd (let z : false ≡ true = sym clear ∙ taken_marked b k e in cc)

    pub take_leaves : PutLeaves h n r now then_
    take_leaves =
        let came = taken (disk_of l) (disk_of now) r.owner n b shows.blocks.running.front some data_block shows.blocks.running.bits clear bit in
        let same : sizes_of (disk_of now) ≡ sizes_of (disk_of l) = bit.block.sizes in
        let marks = came.left.bits shows.blocks.running.bits in
        record {
          inodes = λ j lj bj ne. let u = came.left.inodes j lj bj ne in record {
            sizes = u.sizes;
            inode = u.inode;
            blocks = λ c block own. ((u.blocks c block own).0, owner_taken c block ∙ own);
            alone = λ c block own. sym (owner_taken c block) ∙ own;
          };
          bits = record { front = marks.front; owned = λ c block owned. set_where c owned };
          no_others = record {
            free = λ c block none. elim (same_or c b) [
              | inl e ↦ ap (is_marked (disk_of now)) e ∙ is_set ∙ sym (ap then_.left e ∙ left_here)
              | inr ne ↦
                  let block_ = subst (λ (s : Super). IsData s c) same block in
                  let none_ = sym (owner_taken c block_) ∙ none in
                  same_bit c ne ∙ shows.blocks.running.no_others.free c block_ none_ ∙ sym (left_other c ne block_ none_)
            ];
            apart = λ c owned. elim (same_or c b) [
              | inl e ↦ absurd (owned (ap then_.owner e ∙ owner_taken b data_block ∙ free))
              | inr ne ↦
                  left_old c (sym (same_bit c ne) ∙ set_where c owned) ∙ shows.blocks.running.no_others.apart c (λ z. owned (owner_set c (set_where c owned) ∙ z))
            ];
          };
          owners = λ c block. few c block same;
          shown = λ c k e. elim (same_or c b) [
            | inl q ↦ (ap then_.owner q ∙ owner_taken b data_block ∙ free, ap then_.left q ∙ left_here, subst (λ (z : ℕ). IsOutsideLog l.sizes z) (sym q) outside, subst (λ (s : Super). IsData s c) here (subst (λ (z : ℕ). IsData (sizes_of (disk_of l)) z) (sym q) data_block))
            | inr ne ↦
                let t = shows.taken c k (sym (taken_other c ne) ∙ e) in
                let block_ = subst (λ (s : Super). IsData s c) (sym here) t.3 in
                (owner_taken c block_ ∙ t.0, left_other c ne block_ t.0 ∙ t.1, t.2, t.3)
          ];
          others = λ k ne c. elim (same_or c b) [
            | inl e ↦ not_kept k ne c e
            | inr apart ↦ ap (λ (t : Option ℕ). if_kept t k (seen_of now c)) (taken_other c apart) ∙ taken_seen k c
          ];
        }
      where
        owner_set : (c : ℕ) → is_marked (disk_of now) c ≡ true → then_.owner c ≡ r.owner c
        owner_set c set = rw set refl

        set_where : (c : ℕ) → then_.owner c ≢ 0 → is_marked (disk_of now) c ≡ true
        set_where c owned = elim (either (is_marked (disk_of now) c)) [
          | inl set ↦ set
          | inr off ↦ absurd (owned (rw off refl))
        ]

        outside : IsOutsideLog l.sizes b
        outside =
            let past : l.sizes.bmapstart < b = (subst (λ (s : Super). IsData s b) here data_block).0 in
            let log = shows.blocks.seen.good.log in
            let inodes = shows.blocks.seen.good.inodes in
            inr (omega (arith, past, log, inodes))

        not_kept : (k : ℕ) → k ≢ h → (c : ℕ) → c ≡ b → if_kept (then_.taken c) k (seen_of now c) ≡ if_kept (r.taken c) k (seen_of l c)
        not_kept k ne c e =
            ap (λ (t : Option ℕ). if_kept t k (seen_of now c)) (ap then_.taken e ∙ taken_here)
            ∙ ap (λ (t : Bool). if t then Some (seen_of now c) else None) (eq_not h k (λ q. ne (sym q)))
            ∙ sym (ap (λ (t : Option ℕ). if_kept t k (seen_of l c)) (ap r.taken e ∙ untaken))

-- ---- a data block

-- a put of a block that is inode n's, or that the hart has taken
module _ (h n : ℕ) (b : ℕ) (r : World) (g : above.World) (shows : Shows r g) (bytes : List ℕ) (can : CanPut h b bytes (log_of r)) (data_block : IsData (sizes_of (disk_of (log_of r))) b) (own : (r.owner b ≡ n) ⊎ (r.taken b ≡ Some h)) (low_n : 1 ≤ n) where
  abbrev new_log : LogPart
  new_log = put_block h b (Some bytes) (log_of r)

  of_disk : IsPut (disk_of (log_of r)) (disk_of new_log) b
  of_disk = disk_put h b bytes r.state shows.whole shows.blocks.seen can

  -- it is no other inode's
  not_other : (j : ℕ) → 1 ≤ j → j ≢ n → j ≢ r.owner b
  not_other j low ne e = elim own [
    | inl mine ↦ ne (e ∙ mine)
    | inr taken_ ↦ absurd (let z : r.owner b ≡ 0 = (shows.taken b h taken_).0 in omega (arith, z, e, low))
  ]

  pub data_put_leaves : PutLeaves h n r new_log (owners_of r)
  data_put_leaves =
      let old = shows.blocks.running in
      let leaves = data_leaves (disk_of (log_of r)) (disk_of new_log) r.owner (r.owner b) b old.front data_block refl of_disk in
      record {
        inodes = λ j low bound ne. leaves.inodes j low bound (not_other j low ne);
        bits = leaves.bits old.bits;
        no_others = leaves.no_others r.left old.no_others;
        owners = λ c block. subst (λ (s : Super). r.owner c < s.ninodes) (sym of_disk.sizes) (old.owners c (subst (λ (s : Super). IsData s c) of_disk.sizes block));
        shown = shows.taken;
        others = λ k ne c. by k ne c (r.taken c) refl;
      }
    where
      by : (k : ℕ) → k ≢ h → (c : ℕ) (t : Option ℕ) → r.taken c ≡ t → if_kept t k (seen_of new_log c) ≡ if_kept t k (seen_of (log_of r) c)
      by k ne c None e = refl
      by k ne c (Some j) e = elim (same_or j k) [
        | inl q ↦ ap (λ (x : List ℕ). if_kept (Some j) k x) (seen_put_other h b bytes r.state shows.whole shows.blocks.seen can c (apart q))
        | inr off ↦ ap (λ (t : Bool). if t then Some (seen_of new_log c) else None) (eq_not j k off) ∙ sym (ap (λ (t : Bool). if t then Some (seen_of (log_of r) c) else None) (eq_not j k off))
      ]
        where
          apart : j ≡ k → c ≢ b
          apart q z = elim own [
            | inl mine ↦ absurd (let y : r.owner c ≡ r.owner b = ap r.owner z in let x = (shows.taken c j e).0 in omega (arith, x, y, mine, low_n))
            | inr taken_ ↦ ne (sym q ∙ same_Some j h (sym e ∙ ap r.taken z ∙ taken_))
          ]
