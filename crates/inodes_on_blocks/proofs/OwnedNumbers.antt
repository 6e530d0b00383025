-- The block numbers of an inode in the order in which they are given back: its own, those in its indirect block, and
-- that block's.
use Rattle.inodes_on_blocks.proofs.Vocabulary.{◌≡◌, ◌≢◌, inl, inr, ℕ, zero, suc, ◌+◌, ◌≤◌, ◌==◌, List, [], ◌∷◌, ◌++◌, length, take, filter, slice_index, refl, sym, ◌∙◌, ap, subst, arith, Contains-append_left, Contains-append_right, Contains-append_cases, Dinode, Super, sizes_of, Node, eq_self, one_yes, IsData, is_block, indirect_numbers, numbers_of, times, IsOwned, NamesOwned, IsLaidOut, table_of, direct, Avoids, Owns, addresses}
use Rattle.std.proofs.Common.{Contains}
use Rattle.inodes_on_blocks.proofs.ImageBlocks.{block_true, once_times}
use Rattle.inodes_on_blocks.proofs.Lists.{times_cons, times_filtered, times_nil}

-- ---- numbers that occur once

avoids : (b : ℕ) (bs : List ℕ) → times b bs ≡ 0 → Avoids b bs
avoids b [] e = tt
avoids b (c ∷ cs) e = (
  λ q. absurd (let hit = one_yes (c == b) (ap (λ (z : ℕ). c == z) (sym q) ∙ eq_self c) in omega (arith, e, times_cons b c cs, hit)),
  avoids b cs (omega (arith, e, times_cons b c cs)),
)

owns_all : (sizes : Super) (owner : ℕ → ℕ) (n : ℕ) (bs : List ℕ) → ((b : ℕ) → b ≢ 0 → times b bs ≤ 1) → ((b : ℕ) → b ≢ 0 → Contains bs b → IsData sizes b × (owner b ≡ n)) → Owns sizes owner n bs
owns_all sizes owner n [] once all = tt
owns_all sizes owner n (b ∷ bs) once all = (
  λ some.
      let at = all b some (0, omega arith, refl) in
      (at.0, at.1, avoids b bs (let one = once b some in let hit = one_yes (b == b) (eq_self b) in omega (arith, one, times_cons b b bs, hit))),
  owns_all sizes owner n bs (λ c some. let one = once c some in omega (arith, one, times_cons c b bs)) (λ c some has. all c some (suc has.0, (let l = has.1 in omega (arith, l)), has.2)),
)

times_append : (b : ℕ) (xs ys : List ℕ) → times b (xs ++ ys) ≡ times b xs + times b ys
times_append b [] ys = let none = times_nil b in omega (arith, none)
times_append b (x ∷ xs) ys = let rest = times_append b xs ys in omega (arith, rest, times_cons b x (xs ++ ys), times_cons b x xs)

-- ---- the last of an inode's own numbers is its indirect block's

front_and_last : (n : ℕ) (xs : List ℕ) → length xs ≡ suc n → xs ≡ take n xs ++ slice_index xs n ∷ []
front_and_last n [] e = absurd (omega (arith, e))
front_and_last zero (x ∷ []) e = refl
front_and_last zero (x ∷ y ∷ ys) e = absurd (omega (arith, e))
front_and_last (suc n) (x ∷ xs) e = let rest = front_and_last n xs (omega (arith, e)) in λ i. x ∷ rest i

abbrev pub given_order : List (List ℕ) → Dinode → List ℕ
given_order disk d = take direct d.addrs ++ (indirect_numbers disk d ++ table_of d ∷ [])

module _ (disk : List (List ℕ)) (d : Dinode) (thirteen : length d.addrs ≡ addresses) where
  own : d.addrs ≡ take direct d.addrs ++ slice_index d.addrs direct ∷ []
  own = front_and_last direct d.addrs thirteen

  as_often : (b : ℕ) → times b (given_order disk d) ≡ times b (numbers_of disk d)
  unfolding numbers_of
  as_often b =
      let all = times_append b (take direct d.addrs) (indirect_numbers disk d ++ slice_index d.addrs direct ∷ []) in
      let behind = times_append b (indirect_numbers disk d) (slice_index d.addrs direct ∷ []) in
      let before = times_append b d.addrs (indirect_numbers disk d) in
      let own_times : times b d.addrs ≡ times b (take direct d.addrs) + times b (slice_index d.addrs direct ∷ []) = ap (times b) own ∙ times_append b (take direct d.addrs) (slice_index d.addrs direct ∷ []) in
      omega (arith, all, behind, before, own_times)

  in_own : (b : ℕ) → Contains (take direct d.addrs ++ slice_index d.addrs direct ∷ []) b → Contains (numbers_of disk d) b
  unfolding numbers_of
  in_own b has = Contains-append_left d.addrs (indirect_numbers disk d) b (subst (λ (ns : List ℕ). Contains ns b) (sym own) has)

  in_indirect : (b : ℕ) → Contains (indirect_numbers disk d) b → Contains (numbers_of disk d) b
  unfolding numbers_of
  in_indirect b has = Contains-append_right d.addrs (indirect_numbers disk d) b has

  numbers_have : (b : ℕ) → Contains (given_order disk d) b → Contains (numbers_of disk d) b
  numbers_have b has = elim (Contains-append_cases (take direct d.addrs)
      (indirect_numbers disk d ++ slice_index d.addrs direct ∷ []) b has) [
        | inl first ↦ in_own b (Contains-append_left (take direct d.addrs) (slice_index d.addrs direct ∷ []) b first)
        | inr later ↦ elim (Contains-append_cases (indirect_numbers disk d) (slice_index d.addrs direct ∷ []) b later) [
          | inl inside ↦ in_indirect b inside
          | inr table ↦ in_own b (Contains-append_right (take direct d.addrs) (slice_index d.addrs direct ∷ []) b table)
        ]
      ]

  order_has : (b : ℕ) → Contains (numbers_of disk d) b → Contains (given_order disk d) b
  unfolding numbers_of
  order_has b has = elim (Contains-append_cases d.addrs (indirect_numbers disk d) b has) [
    | inl first ↦ elim (Contains-append_cases (take direct d.addrs) (slice_index d.addrs direct ∷ []) b (subst (λ (ns : List ℕ). Contains ns b) own first)) [
      | inl front ↦ Contains-append_left (take direct d.addrs) (indirect_numbers disk d ++ slice_index d.addrs direct ∷ []) b front
      | inr table ↦
          Contains-append_right (take direct d.addrs) (indirect_numbers disk d ++ slice_index d.addrs direct ∷ []) b
          (Contains-append_right (indirect_numbers disk d) (slice_index d.addrs direct ∷ []) b table)
    ]
    | inr inside ↦
        Contains-append_right (take direct d.addrs) (indirect_numbers disk d ++ slice_index d.addrs direct ∷ []) b
        (Contains-append_left (indirect_numbers disk d) (slice_index d.addrs direct ∷ []) b inside)
  ]

  module _ (sizes : Super) (owner : ℕ → ℕ) (n : ℕ) (v : Node) (laid : IsLaidOut disk owner n d v) (here : sizes_of disk ≡ sizes) where
    -- they are data blocks of the inode, and each occurs there once
    pub order_owned : Owns sizes owner n (given_order disk d)
    order_owned =
        owns_all sizes owner n (given_order disk d)
        (λ b some. let one = once_times b (filter is_block (numbers_of disk d)) laid.once in let all = times_filtered is_block b (numbers_of disk d) (block_true b some) in let same = as_often b in omega (arith, one, all, same))
        (λ b some has.
        let there = numbers_have b has in
        let is = subst (λ (c : ℕ). c ≢ 0 → IsOwned disk owner n c) there.2 (laid.owned there.0 b there.1) some in
        (subst (λ (s : Super). IsData s b) here is.block, is.owner_is))

  -- and all that it has
  pub order_named : (owner : ℕ → ℕ) (n : ℕ) → NamesOwned disk owner n (numbers_of disk d) → NamesOwned disk owner n (given_order disk d)
  order_named owner n named b block is = order_has b (named b block is)
