-- A record is put that names blocks which the hart has taken: they are the inode's then.
use Rattle.inodes_on_blocks.proofs.Vocabulary.{◌≡◌, ◌≢◌, ◌⊎◌, inl, inr, ℕ, zero, suc, ◌<◌, ◌≤◌, ◌==◌, Bool, true, false, ◌&&◌, List, [], ◌∷◌, length, get_or, Option, Some, None, refl, sym, ◌∙◌, ap, subst, arith, eqb, if◌then◌else◌, nat_lt, Contains, nat_tests, Super, Dinode, IsDinode, sizes_of, one_if, either, same_or, eq_self, eq_not, one_yes, times, is_block, numbers_by, named_by, last, IsData, HoldsAt, owner_upto, LeavesOthers, lock_holder, LogPart, put_block, seen_of, inode_block, with_dinode, is_hart, if_kept, Owners, named_of, is_named, inode_put, World, log_of, tables_of, disk_of, owners_of, CanPut, PutLeaves, Shows, block_len}
use Rattle.inodes_on_blocks.proofs.Basics.{untouched, block_true, times_nil, times_cons, no_hit, times_filtered, good_seen, lock_range, record_put, leaves_others, taken_stays}
use Rattle.inode_machine.specs.World as above

-- ---- who names a block

none_times : (xs : List ℕ) (b : ℕ) → ((k z : ℕ) → k < length xs → get_or xs k z ≢ b) → times b xs ≡ 0
none_times [] b apart = times_nil b
none_times (x ∷ xs) b apart =
    let here = no_hit x b (apart 0 0 (omega arith)) in
    let more = none_times xs b (λ k z l. apart (suc k) z (omega (arith, l))) in
    let sum = times_cons b x xs in
    omega (arith, here, more, sum)

has_times : (xs : List ℕ) (b : ℕ) → Contains xs b → 1 ≤ times b xs
has_times xs b has = by xs has.0 has.1 has.2
  where
    by : (xs : List ℕ) (k : ℕ) → k < length xs → get_or xs k b ≡ b → 1 ≤ times b xs
    by [] k l e = absurd (omega (arith, l))
    by (x ∷ xs) zero l e =
        let one = ap (λ (z : ℕ). one_if (eqb z b)) e ∙ one_yes (eqb b b) (eq_self b) in
        let sum = times_cons b x xs in
        omega (arith, one, sum)
    by (x ∷ xs) (suc k) l e = let more = by xs k (omega (arith, l)) e in let sum = times_cons b x xs in omega (arith, more, sum)

positive : (k : ℕ) → nat_lt 0 k ≡ true → 1 ≤ k
positive k e = grind (arith, nat_tests)

no_positive : (k : ℕ) → nat_lt 0 k ≡ false → k ≡ 0
no_positive k e = grind (arith, nat_tests)

is_positive : (k : ℕ) → 1 ≤ k → nat_lt 0 k ≡ true
is_positive k e = grind (arith, nat_tests)

-- if inode n alone may name it
only_one : (f : ℕ → List ℕ) (most b n : ℕ) → ((j : ℕ) → j ≢ n → times b (f j) ≡ 0) → (owner_upto f most b ≡ 0) ⊎ (owner_upto f most b ≡ n)
unfolding owner_upto
only_one f zero b n others = inl refl
only_one f (suc most) b n others = elim (either (nat_lt 0 (times b (f (suc most))))) [
  | inl some ↦ elim (same_or (suc most) n) [
    | inl e ↦ inr ((rw some refl) ∙ e)
    | inr ne ↦ absurd (let a = positive (times b (f (suc most))) some in let z = others (suc most) ne in omega (arith, a, z))
  ]
  | inr none ↦ rw none (only_one f most b n others)
]

some_one : (f : ℕ → List ℕ) (most b n : ℕ) → 1 ≤ n → n ≤ most → 1 ≤ times b (f n) → owner_upto f most b ≢ 0
unfolding owner_upto
some_one f zero b n low high some e = absurd (omega (arith, low, high))
some_one f (suc most) b n low high some e = elim (either (nat_lt 0 (times b (f (suc most))))) [
  | inl there ↦ absurd (let z : suc most ≡ 0 = sym (rw there refl) ∙ e in omega (arith, z))
  | inr none ↦ elim (same_or n (suc most)) [
    | inl q ↦ absurd (let z = no_positive (times b (f (suc most))) none in let y : times b (f n) ≡ times b (f (suc most)) = ap (λ (k : ℕ). times b (f k)) q in omega (arith, z, y, some))
    | inr ne ↦ some_one f most b n low (omega (arith, high, ne)) some (sym (rw none refl) ∙ e)
  ]
]

-- ---- the put

module _ (h n : ℕ) (d : Dinode) (r : World) (g : above.World) (shows : Shows r g) (mine : g.lock n ≡ Some h) (joined : (g.desks h).joined ≡ true) (low : 1 ≤ n) (bound : n < (log_of r).sizes.ninodes) (is : IsDinode d)
    (can : CanPut h (inode_block (log_of r).sizes.inodestart n) (with_dinode n d (seen_of (log_of r) (inode_block (log_of r).sizes.inodestart n))) (log_of r)) (long : length (seen_of (log_of r) (inode_block (log_of r).sizes.inodestart n)) ≡ block_len)
    (others : (j : ℕ) → j ≢ n → lock_holder j (tables_of r) ≡ Some h → HoldsAt (disk_of (log_of r)) r.owner j (g.disk j)) where
  abbrev l : LogPart
  l = log_of r

  abbrev now : LogPart
  now = put_block h (inode_block l.sizes.inodestart n) (Some (with_dinode n d (seen_of l (inode_block l.sizes.inodestart n)))) l

  abbrev lock : ℕ → Option ℕ
  lock i = lock_holder i (tables_of r)

  abbrev then_ : Owners
  then_ = inode_put lock h (disk_of now) (owners_of r)

  here : sizes_of (disk_of l) ≡ l.sizes
  here = (good_seen l.sizes (seen_of l) (length l.contents) shows.blocks.seen).sizes_are

  leaves : LeavesOthers (disk_of l) (disk_of now) r.owner r.owner n
  leaves = leaves_others h n d r g shows bound is can long

  -- of a block that the hart has taken no other inode of its own says so
  elsewhere : (c : ℕ) → c ≢ 0 → r.taken c ≡ Some h → (j : ℕ) → j ≢ n → times c (if is_hart (lock j) h then named_by (disk_of now) j else []) ≡ 0
  elsewhere c some taken j ne = by (lock j) refl
    where
      at : lock j ≡ Some h → times c (named_by (disk_of now) j) ≡ 0
      at out =
          let range = lock_range j h r g shows (shows.tables.places.holders j ∙ out) in
          let within = subst (λ (s : Super). j < s.ninodes) (sym here) range.1 in
          let held = untouched (disk_of l) (disk_of now) r.owner r.owner j (g.disk j) (leaves.inodes j range.0 within ne) (others j ne out) in
          let low_j = range.0 in
          times_filtered is_block c (numbers_by (disk_of now) j) (block_true c some)
          ∙ none_times (numbers_by (disk_of now) j) c
          (λ k z lt e. absurd (let own = (held.blocks.owned k z lt (λ q. some (sym e ∙ q))).owner_is in let zero_ : r.owner c ≡ 0 = (shows.taken c h taken).0 in let same : r.owner (get_or (numbers_by (disk_of now) j) k z) ≡ r.owner c = ap r.owner e in omega (arith, own, zero_, same, low_j)))

      by : (o : Option ℕ) → lock j ≡ o → times c (if is_hart o h then named_by (disk_of now) j else []) ≡ 0
      by None e = times_nil c
      by (Some k) e = elim (same_or k h) [
        | inl q ↦ ap (λ (t : Bool). times c (if t then named_by (disk_of now) j else [])) (ap (λ (z : ℕ). z == h) q ∙ eq_self h) ∙ at (e ∙ ap (λ (z : ℕ). Some z) q)
        | inr off ↦ ap (λ (t : Bool). times c (if t then named_by (disk_of now) j else [])) (eq_not k h off) ∙ times_nil c
      ]

  -- what is named so is the inode's
  named_is : (c : ℕ) → is_named lock h (disk_of now) (owners_of r) c ≡ true → (r.taken c ≡ Some h) × (named_of lock h (disk_of now) c ≡ n)
  named_is c named = by (r.taken c) refl
    where
      at : r.taken c ≡ Some h → nat_lt 0 (named_of lock h (disk_of now) c) ≡ true → named_of lock h (disk_of now) c ≡ n
      at taken some = elim (only_one (λ i. if is_hart (lock i) h then named_by (disk_of now) i else []) (last (disk_of now)) c n (elsewhere c (λ z. absurd (let past = (shows.taken c h taken).3.0 in omega (arith, past, z))) taken)) [
        | inl none ↦ absurd (let a = positive (named_of lock h (disk_of now) c) some in omega (arith, a, none))
        | inr one ↦ one
      ]

      by : (o : Option ℕ) → r.taken c ≡ o → (r.taken c ≡ Some h) × (named_of lock h (disk_of now) c ≡ n)
      by None e = absurd (let z : false ≡ true = ap (λ (t : Option ℕ). is_hart t h && nat_lt 0 (named_of lock h (disk_of now) c)) (sym e) ∙ named in cc)
      by (Some k) e = elim (same_or k h) [
        | inl q ↦
            let taken : r.taken c ≡ Some h = e ∙ ap (λ (z : ℕ). Some z) q in
            (taken, at taken (sym (ap (λ (t : Bool). t && nat_lt 0 (named_of lock h (disk_of now) c)) (ap (λ (t : Option ℕ). is_hart t h) taken ∙ eq_self h)) ∙ named))
        | inr off ↦ absurd (let z : false ≡ true = sym (ap (λ (t : Option ℕ). is_hart t h && nat_lt 0 (named_of lock h (disk_of now) c)) e ∙ ap (λ (t : Bool). t && nat_lt 0 (named_of lock h (disk_of now) c)) (eq_not k h off)) ∙ named in cc)
      ]

  abbrev Named : ℕ → Type 0
  Named c = (is_named lock h (disk_of now) (owners_of r) c ≡ true) ⊎ (is_named lock h (disk_of now) (owners_of r) c ≡ false)

  sizes_same : sizes_of (disk_of now) ≡ sizes_of (disk_of l)
  sizes_same = (record_put h n d r g shows bound is can long).block.sizes

  pub named_leaves : PutLeaves h n r now then_
  named_leaves =
      let old = shows.blocks.running in
      let marks = leaves.bits old.bits in
      let clear = leaves.no_others r.left old.no_others in
      record {
        inodes = λ j lj bj ne. let u = leaves.inodes j lj bj ne in record {
          sizes = u.sizes;
          inode = u.inode;
          blocks = λ c block own. (
            (u.blocks c block own).0,
            elim (either (is_named lock h (disk_of now) (owners_of r) c)) [
              | inl named ↦ absurd (let z = (shows.taken c h (named_is c named).0).0 in omega (arith, z, own, lj))
              | inr unnamed ↦ (rw unnamed refl) ∙ own
            ],
          );
          alone = λ c block own. elim (either (is_named lock h (disk_of now) (owners_of r) c)) [
            | inl named ↦ absurd (ne (sym own ∙ (rw named refl) ∙ (named_is c named).1))
            | inr unnamed ↦ sym (rw unnamed refl) ∙ own
          ];
        };
        bits = record {
          front = marks.front;
          owned = λ c block some. elim (either (is_named lock h (disk_of now) (owners_of r) c)) [
            | inl named ↦ let t = shows.taken c h (named_is c named).0 in clear.free c block t.0 ∙ t.1
            | inr unnamed ↦ marks.owned c block (λ z. some ((rw unnamed refl) ∙ z))
          ];
        };
        no_others = record {
          free = λ c block none. elim (either (is_named lock h (disk_of now) (owners_of r) c)) [
            | inl named ↦ absurd (let z : n ≡ 0 = sym (named_is c named).1 ∙ sym (rw named refl) ∙ none in omega (arith, z, low))
            | inr unnamed ↦ clear.free c block (sym (rw unnamed refl) ∙ none) ∙ sym (rw unnamed refl)
          ];
          apart = λ c some. elim (either (is_named lock h (disk_of now) (owners_of r) c)) [
            | inl named ↦ rw named refl
            | inr unnamed ↦ (rw unnamed refl) ∙ clear.apart c (λ z. some ((rw unnamed refl) ∙ z))
          ];
        };
        owners = λ c block. elim (either (is_named lock h (disk_of now) (owners_of r) c)) [
          | inl named ↦ subst (λ (k : ℕ). k < (sizes_of (disk_of now)).ninodes) (sym ((rw named refl) ∙ (named_is c named).1)) (subst (λ (s : Super). n < s.ninodes) (sym (sizes_same ∙ here)) bound)
          | inr unnamed ↦ subst (λ (k : ℕ). k < (sizes_of (disk_of now)).ninodes) (sym (rw unnamed refl)) (subst (λ (s : Super). r.owner c < s.ninodes) (sym sizes_same) (old.owners c (subst (λ (s : Super). IsData s c) sizes_same block)))
        ];
        shown = λ c k e. elim (either (is_named lock h (disk_of now) (owners_of r) c)) [
          | inl named ↦ absurd (let z : None ≡ Some k = sym (rw named refl) ∙ e in cc)
          | inr unnamed ↦ let t = shows.taken c k (sym (rw unnamed refl) ∙ e) in ((rw unnamed refl) ∙ t.0, (rw unnamed refl) ∙ t.1, t.2, t.3)
        ];
        others = λ k ne c. elim (either (is_named lock h (disk_of now) (owners_of r) c)) [
          | inl named ↦
              let none : then_.taken c ≡ None = rw named refl in
              ap (λ (t : Option ℕ). if_kept t k (seen_of now c)) none
              ∙ sym (ap (λ (t : Option ℕ). if_kept t k (seen_of l c)) (named_is c named).0 ∙ ap (λ (t : Bool). if t then Some (seen_of l c) else None) (eq_not h k (λ q. ne (sym q))))
          | inr unnamed ↦
              let same : then_.taken c ≡ r.taken c = rw unnamed refl in
              ap (λ (t : Option ℕ). if_kept t k (seen_of now c)) same ∙ taken_stays h n d r g shows bound is can long k c
        ];
      }

  -- and what was taken and is named now is
  pub named_here : (c : ℕ) → r.taken c ≡ Some h → Contains (numbers_by (disk_of now) n) c → (then_.owner c ≡ n) × (then_.taken c ≡ None)
  named_here c taken has = ((rw is_now refl) ∙ (named_is c is_now).1, rw is_now refl)
    where
      above_none : (k : ℕ) → k ≢ 0 → 1 ≤ k
      above_none zero ne = absurd (ne refl)
      above_none (suc k) ne = omega arith

      some : c ≢ 0
      some z = absurd (let past = (shows.taken c h taken).3.0 in omega (arith, past, z))

      named_in : (λ (i : ℕ). if is_hart (lock i) h then named_by (disk_of now) i else []) n ≡ named_by (disk_of now) n
      named_in = ap (λ (t : Bool). if t then named_by (disk_of now) n else []) (ap (λ (o : Option ℕ). is_hart o h) (sym (shows.tables.places.holders n) ∙ mine) ∙ eq_self h)

      within : n ≤ last (disk_of now)
      within = let sized : (sizes_of (disk_of now)).ninodes ≡ l.sizes.ninodes = ap (λ (s : Super). s.ninodes) (sizes_same ∙ here) in omega (arith, sized, bound)

      there : 1 ≤ times c (if is_hart (lock n) h then named_by (disk_of now) n else [])
      there =
          let one = has_times (numbers_by (disk_of now) n) c has in
          subst (λ (k : ℕ). 1 ≤ k) (sym (ap (times c) named_in ∙ times_filtered is_block c (numbers_by (disk_of now) n) (block_true c some))) one

      is_now : is_named lock h (disk_of now) (owners_of r) c ≡ true
      is_now =
          ap (λ (t : Bool). t && nat_lt 0 (named_of lock h (disk_of now) c)) (ap (λ (o : Option ℕ). is_hart o h) taken ∙ eq_self h)
          ∙ is_positive (named_of lock h (disk_of now) c) (above_none (named_of lock h (disk_of now) c) (some_one (λ i. if is_hart (lock i) h then named_by (disk_of now) i else []) (last (disk_of now)) c n low within there))
