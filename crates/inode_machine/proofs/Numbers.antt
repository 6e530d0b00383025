-- What the layer below must know of an inode that is counted up: its number is one, and its count has room.
use Rattle.inode_machine.proofs.Vocabulary.{◌≡◌, inl, inr, ℕ, zero, suc, ◌+◌, ◌*◌, ◌^◌, ◌<◌, ◌≤◌, Bool, true, false, ◌==◌, Option, Some, None, refl, ◌∙◌, ap, arith, nat_tests, Node, hart_count, root, is_live, sum_below, look_live, Entry, World, OfDirectory, type_of, file_count, is_dead, start_number, number_is, Found, Inv}
use Rattle.inode_machine.proofs.Basics.{one_refs, opens_slots, root_live, one_most}

sum_most : (n c : ℕ) (f : ℕ → ℕ) → ((k : ℕ) → k < n → f k ≤ c) → sum_below n f ≤ n * c
unfolding sum_below
sum_most zero c f all = omega arith
sum_most (suc n) c f all = let top = all n (omega arith) in let below = sum_most n c f (λ k l. all k (omega (arith, l))) in omega (arith, top, below)

number_most : (o : Option Entry) (n : ℕ) → number_is o n ≤ 1
number_most None n = omega arith
number_most (Some e) n = one_most (e.file.number == n)

-- a count has room for one more: so many open files there are, and so often a hart refers to an inode
pub refs_room : (w : World) (i : ℕ) → Inv w → w.refs i + 1 < 2 ^ 32
refs_room w i inv =
    let a = inv.counts i in
    let b = inv.tied.slots i in
    let c = sum_most file_count 1 (λ k. number_is (w.files k) i) (λ k l. number_most (w.files k) i) in
    let d = sum_most hart_count 8 (λ g. (w.harts g).refs i) (λ g l. (inv.refers g l).few i) in
    omega (arith, a, b, c, d)

-- An inode that is there, and has links if nothing refers to it.
pub record Number (n : ℕ) (w : World) : Type 0 where
  pub low : 1 ≤ n
  pub size : n < w.all.ninodes
  pub room : w.refs n + 1 < 2 ^ 32
  pub live : w.refs n ≡ 0 → is_dead (w.disk n) ≡ false

live_not_dead : (o : Option Node) → is_live o ≡ true → is_dead o ≡ false
live_not_dead None e = refl
live_not_dead (Some v) e = grind (arith, nat_tests)

live_there : (o : Option Node) → is_live o ≡ true → (v : Node) × (o ≡ Some v)
live_there None e = absurd cc
live_there (Some v) e = (v, refl)

-- nobody keeps what nothing refers to
unkept : (w : World) (n : ℕ) → Inv w → w.refs n ≡ 0 → w.keeper n ≡ None
unkept w n inv zero_refs = at (w.keeper n) refl
  where
    at : (o : Option ℕ) → w.keeper n ≡ o → w.keeper n ≡ None
    at None q = q
    at (Some g) q =
        let k = inv.kept n g q in
        let o = one_refs w g n inv k.0 in
        absurd (elim k.1 [ inl b ↦ (let a = opens_slots w g n inv b in omega (arith, o, zero_refs, a)) | inr a ↦ omega (arith, o, zero_refs, a) ])

live_number : (w : World) (n : ℕ) → Inv w → is_live (w.all.nodes n) ≡ true → Number n w
live_number w n inv live =
    let there = live_there (w.all.nodes n) live in
    let range = inv.well.range n there.0 there.1 in
    record {
      low = range.0;
      size = range.1;
      room = refs_room w n inv;
      live = λ q. live_not_dead (w.disk n) (ap (λ (o : Option Node). is_live o) (inv.whole n (unkept w n inv q)) ∙ live);
    }

pub found_number : (h n : ℕ) (w : World) → Inv w → Found w.keeper w.all.nodes h n → Number n w
found_number h n w inv f = live_number w n inv (look_live w.all f.directory n f.name inv.well f.finds)

-- a path's start: the hart refers to its directory
pub start_is_number : (h : ℕ) (absolute : Bool) (w : World) → h < hart_count → Inv w → Number (start_number (w.desks h) absolute) w
start_is_number h true w lt inv = live_number w root inv (root_live w.all inv.well)
start_is_number h false w lt inv =
    let d : ℕ = (w.desks h).directory in
    let there = type_there (w.all.nodes d) (inv.directory h lt).inode_type in
    let range = inv.well.range d there.0 there.1 in
    record {
      low = range.0;
      size = range.1;
      room = refs_room w d inv;
      live = λ q. absurd (let o = one_refs w h d inv lt in let p = (inv.refers h lt).home in omega (arith, o, p, q));
    }
  where
    type_there : (o : Option Node) → type_of o ≡ Some OfDirectory → (v : Node) × (o ≡ Some v)
    type_there None e = absurd cc
    type_there (Some v) e = (v, refl)
