-- A transaction has room for what its call's program may spend.
use Rattle.inodes_on_blocks.proofs.Vocabulary.{◌≡◌, inl, inr, ℕ, zero, suc, ◌+◌, ◌<◌, ◌≤◌, ◌==◌, ◌&&◌, ◌||◌, List, [], ◌∷◌, ◌++◌, length, Bool, true, false, Option, Some, None, refl, sym, ◌∙◌, ap, subst, arith, if◌then◌else◌, slice_get, slice_set, Super, one_if, either, eq_is, has, one_more, HasRoom, IsMember, inode_block, Spent, size, with_contents, LogPart, put_block, recorded_in, used, Accounts, IsSpent, RoomLaws, TransactionsHaveRoom}
use Rattle.inode_machine.specs.Budget as budget
use Rattle.inodes_on_blocks.proofs.Groups.{has_more, has_last, has_members, member_at}
use Rattle.inodes_on_blocks.proofs.Rooms.{room_of}
use Rattle.inode_machine.proofs.Counting.{one_most}

-- ---- members

pub one_more_at : (ms : List (Option ℕ)) (h k : ℕ) → slice_get (one_more ms h) h ≡ Some (Some k) → (j : ℕ) × (slice_get ms h ≡ Some (Some j)) × (k ≡ j + 1)
one_more_at [] h k e = absurd (cc e)
one_more_at (None ∷ ms) zero k e = absurd (cc e)
one_more_at (Some j ∷ ms) zero k e = (j, refl, (let same : j + 1 ≡ k = cc e in sym same))
one_more_at (None ∷ ms) (suc h) k e = one_more_at ms h k e
one_more_at (Some j ∷ ms) (suc h) k e = one_more_at ms h k e

pub set_at : (ms : List (Option ℕ)) (h k : ℕ) → slice_get (slice_set ms h (Some 0)) h ≡ Some (Some k) → k ≡ 0
set_at [] h k e = absurd (cc e)
set_at (m ∷ ms) zero k e = let same : 0 ≡ k = cc e in sym same
set_at (m ∷ ms) (suc h) k e = set_at ms h k e

one_less : (t u : Bool) → (t ≡ true → u ≡ true) → one_if t ≤ one_if u
unfolding one_if
one_less true u up = subst (λ (z : Bool). 1 ≤ one_if z) (sym (up refl)) (let z : 1 ≤ 1 = omega arith in z)
one_less false u up = omega arith

one_yes : (t : Bool) → t ≡ true → one_if t ≡ 1
unfolding one_if
one_yes t e = ap one_if e

one_no : (t : Bool) → t ≡ false → one_if t ≡ 0
unfolding one_if
one_no t e = ap one_if e

abbrev Grows : List ℕ → List ℕ → Type 0
Grows ks js = (b : ℕ) → has ks b ≡ true → has js b ≡ true

recorded_grows : (sizes : Super) (ks js ns : List ℕ) → Grows ks js → recorded_in sizes ks ns ≤ recorded_in sizes js ns
recorded_grows sizes ks js [] up = omega arith
recorded_grows sizes ks js (n ∷ ns) up =
    let a = one_less (has ks (inode_block sizes.inodestart n)) (has js (inode_block sizes.inodestart n)) (up (inode_block sizes.inodestart n)) in
    let more = recorded_grows sizes ks js ns up in
    omega (arith, a, more)

recorded_few : (sizes : Super) (ks ns : List ℕ) → recorded_in sizes ks ns ≤ length ns
recorded_few sizes ks [] = omega arith
recorded_few sizes ks (n ∷ ns) = let a = one_most (has ks (inode_block sizes.inodestart n)) in let more = recorded_few sizes ks ns in omega (arith, a, more)

-- an inode whose block isn't there yet
recorded_less : (sizes : Super) (ks ns : List ℕ) (n : ℕ) → budget.has ns n ≡ true → has ks (inode_block sizes.inodestart n) ≡ false → recorded_in sizes ks ns + 1 ≤ length ns
recorded_less sizes ks [] n at out = absurd (let q : false ≡ true = at in cc)
recorded_less sizes ks (m ∷ ns) n at out = elim (either (n == m)) [
  | inl is ↦
      let none : one_if (has ks (inode_block sizes.inodestart m)) ≡ 0 = one_no _ (ap (λ (z : ℕ). has ks (inode_block sizes.inodestart z)) (sym (eq_is n m is)) ∙ out) in
      let few = recorded_few sizes ks ns in
      omega (arith, none, few)
  | inr isnt ↦
      let later : budget.has ns n ≡ true = sym (ap (λ (t : Bool). t || budget.has ns n) isnt) ∙ at in
      let more = recorded_less sizes ks ns n later out in
      let a = one_most (has ks (inode_block sizes.inodestart m)) in
      omega (arith, more, a)
]

-- and then is
recorded_one : (sizes : Super) (ks js ns : List ℕ) (n : ℕ) → Grows ks js → budget.has ns n ≡ true → has ks (inode_block sizes.inodestart n) ≡ false → has js (inode_block sizes.inodestart n) ≡ true
    → recorded_in sizes ks ns + 1 ≤ recorded_in sizes js ns
recorded_one sizes ks js [] n up at out there = absurd (let q : false ≡ true = at in cc)
recorded_one sizes ks js (m ∷ ns) n up at out there = elim (either (n == m)) [
  | inl is ↦
      let same = sym (eq_is n m is) in
      let none : one_if (has ks (inode_block sizes.inodestart m)) ≡ 0 = one_no _ (ap (λ (z : ℕ). has ks (inode_block sizes.inodestart z)) same ∙ out) in
      let one : one_if (has js (inode_block sizes.inodestart m)) ≡ 1 = one_yes _ (ap (λ (z : ℕ). has js (inode_block sizes.inodestart z)) same ∙ there) in
      let more = recorded_grows sizes ks js ns up in
      omega (arith, none, one, more)
  | inr isnt ↦
      let later : budget.has ns n ≡ true = sym (ap (λ (t : Bool). t || budget.has ns n) isnt) ∙ at in
      let more = recorded_one sizes ks js ns n up later out there in
      let a = one_less (has ks (inode_block sizes.inodestart m)) (has js (inode_block sizes.inodestart m)) (up (inode_block sizes.inodestart m)) in
      omega (arith, more, a)
]

and_up : (t u v : Bool) → (u ≡ true → v ≡ true) → (t && u) ≡ true → (t && v) ≡ true
and_up true u v up e = up e
and_up false u v up e = e

-- ---- what is used

module _ (h : ℕ) (l : LogPart) where
  used_grows : (js : List ℕ) (s : Spent) → Grows l.group js → used l s ≤ used (record l { group = js }) s
  used_grows js s up =
      let a = recorded_grows l.sizes l.group js s.records up in
      let b = one_less (s.bitmap && has l.group l.sizes.bmapstart) (s.bitmap && has js l.sizes.bmapstart) (and_up s.bitmap (has l.group l.sizes.bmapstart) (has js l.sizes.bmapstart) (up l.sizes.bmapstart)) in
      omega (arith, a, b)

  used_few : (s : Spent) → used l s ≤ size s
  used_few s =
      let a = recorded_few l.sizes l.group s.records in
      let b = one_less (s.bitmap && has l.group l.sizes.bmapstart) s.bitmap (λ e. first s.bitmap (has l.group l.sizes.bmapstart) e) in
      omega (arith, a, b)
    where
      first : (t u : Bool) → (t && u) ≡ true → t ≡ true
      first true u e = refl
      first false u e = e

  used_less : (b : ℕ) (s : Spent) → IsSpent l.sizes s b → has l.group b ≡ false → used l s + 1 ≤ size s
  used_less b s (inl at) out =
      let a = recorded_less l.sizes l.group s.records at.0 at.1 (ap (has l.group) (sym at.2) ∙ out) in
      let c = one_less (s.bitmap && has l.group l.sizes.bmapstart) s.bitmap (λ e. first s.bitmap (has l.group l.sizes.bmapstart) e) in
      omega (arith, a, c)
    where
      first : (t u : Bool) → (t && u) ≡ true → t ≡ true
      first true u e = refl
      first false u e = e
  used_less b s (inr at) out =
      let a = recorded_few l.sizes l.group s.records in
      let none : one_if (s.bitmap && has l.group l.sizes.bmapstart) ≡ 0 = ap (λ (t : Bool). one_if (t && has l.group l.sizes.bmapstart)) at.0 ∙ one_no _ (ap (has l.group) (sym at.1) ∙ out) in
      let one : one_if s.bitmap ≡ 1 = one_yes s.bitmap at.0 in
      omega (arith, a, none, one)

  used_one : (b : ℕ) (s : Spent) → IsSpent l.sizes s b → has l.group b ≡ false → used l s + 1 ≤ used (record l { group = l.group ++ b ∷ [] }) s
  used_one b s (inl at) out =
      let up : Grows l.group (l.group ++ b ∷ []) = λ c. has_more l.group b c in
      let a = recorded_one l.sizes l.group (l.group ++ b ∷ []) s.records at.0 up at.1 (ap (has l.group) (sym at.2) ∙ out) (ap (has (l.group ++ b ∷ [])) (sym at.2) ∙ has_last l.group b) in
      let c = one_less (s.bitmap && has l.group l.sizes.bmapstart) (s.bitmap && has (l.group ++ b ∷ []) l.sizes.bmapstart) (and_up s.bitmap (has l.group l.sizes.bmapstart) (has (l.group ++ b ∷ []) l.sizes.bmapstart) (up l.sizes.bmapstart)) in
      omega (arith, a, c)
  used_one b s (inr at) out =
      let a = recorded_grows l.sizes l.group (l.group ++ b ∷ []) s.records (λ c. has_more l.group b c) in
      let none : one_if (s.bitmap && has l.group l.sizes.bmapstart) ≡ 0 = ap (λ (t : Bool). one_if (t && has l.group l.sizes.bmapstart)) at.0 ∙ one_no _ (ap (has l.group) (sym at.1) ∙ out) in
      let one : one_if (s.bitmap && has (l.group ++ b ∷ []) l.sizes.bmapstart) ≡ 1 =
      ap (λ (t : Bool). one_if (t && has (l.group ++ b ∷ []) l.sizes.bmapstart)) at.0 ∙ one_yes _ (ap (has (l.group ++ b ∷ [])) (sym at.1) ∙ has_last l.group b) in
      omega (arith, a, none, one)

  -- after a put, whether the block is there already or not
  put_by : (b : ℕ) (s t : Spent) → (has l.group b ≡ true → used l s ≤ used l t) → (has l.group b ≡ false → used l s + 1 ≤ used (record l { group = l.group ++ b ∷ [] }) t) → Accounts h l s
      → (there : Bool) → has l.group b ≡ there → (k : ℕ) → slice_get (if there then l.members else one_more l.members h) h ≡ Some (Some k) → k ≤ used (record l { group = if there then l.group else l.group ++ b ∷ [] }) t
  put_by b s t same new accounts true is k e = let a = accounts k e in let c = same is in omega (arith, a, c)
  put_by b s t same new accounts false is k e = let j = one_more_at l.members h k e in let a = accounts j.0 j.1 in let c = new is in let d = j.2 in omega (arith, a, c, d)

  room_below : (s : Spent) → IsMember l.members h → Accounts h l s → used l s < 10 → HasRoom l.members h
  room_below s member accounts few = let at = member_at l.members h member in let a = accounts at.0 at.1 in room_of l.members h at.0 at.1 (omega (arith, a, few))

  -- a block that may be spent is put
  pub spent_put : (b : ℕ) (bytes : List ℕ) (s : Spent) → Accounts h l s → IsSpent l.sizes s b → Accounts h (put_block h b (Some bytes) l) s
  spent_put b bytes s accounts is = put_by b s s (λ there. omega arith) (λ out. used_one b s is out) accounts (has l.group b) refl

  -- another one is
  pub other_put : (b : ℕ) (bytes : List ℕ) (s : Spent) → Accounts h l s → Accounts h (put_block h b (Some bytes) l) (with_contents 1 s)
  other_put b bytes s accounts =
      put_by b s (with_contents 1 s) (λ there. omega arith) (λ out. let a = used_grows (l.group ++ b ∷ []) s (λ c. has_more l.group b c) in omega (arith, a)) accounts (has l.group b) refl

  room_laws : RoomLaws h l
  room_laws = record {
    begins = λ group k e. let z = set_at l.members h k e in omega (arith, z);
    lasts = λ m s leaves accounts k e.
        let was = sym leaves.member ∙ e in
        let a = accounts k was in
        let up = used_grows m.group s (λ b there. leaves.group b (has_members l.members h k was) there) in
        subst (λ (sizes : Super). k ≤ recorded_in sizes m.group s.records + one_if (s.bitmap && has m.group sizes.bmapstart) + s.contents) (sym leaves.sizes) (omega (arith, a, up));
    record_more = λ n s accounts k e. let a = accounts k e in elim (either (budget.has s.records n)) [
      | inl is ↦ subst (λ (ns : List ℕ). k ≤ recorded_in l.sizes l.group ns + one_if (s.bitmap && has l.group l.sizes.bmapstart) + s.contents) (sym (ap (λ (t : Bool). if t then s.records else n ∷ s.records) is)) a
      | inr isnt ↦ subst (λ (ns : List ℕ). k ≤ recorded_in l.sizes l.group ns + one_if (s.bitmap && has l.group l.sizes.bmapstart) + s.contents) (sym (ap (λ (t : Bool). if t then s.records else n ∷ s.records) isnt)) (omega (arith, a))
    ];
    bitmap_more = λ s accounts k e. let a = accounts k e in let b = one_less (s.bitmap && has l.group l.sizes.bmapstart) (has l.group l.sizes.bmapstart) (λ q. second s.bitmap (has l.group l.sizes.bmapstart) q) in omega (arith, a, b);
    contents_more = λ j s accounts k e. let a = accounts k e in omega (arith, a);
    said = λ b bytes s member accounts few is. (
      λ out. room_below s member accounts (let a = used_less b s is out in omega (arith, a, few)),
      put_by b s s (λ there. omega arith) (λ out. used_one b s is out) accounts (has l.group b) refl,
    );
    other = λ b bytes s member accounts few. (
      λ out. room_below s member accounts (let a = used_few s in omega (arith, a, few)),
      other_put b bytes s accounts,
    );
  }
    where
      second : (t u : Bool) → (t && u) ≡ true → u ≡ true
      second true u e = e
      second false u e = absurd (let q : false ≡ true = e in cc)

pub transactions_have_room : TransactionsHaveRoom
transactions_have_room h l = room_laws h l
