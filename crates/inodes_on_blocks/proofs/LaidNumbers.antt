-- An inode that names one block more than before.
use Rattle.inodes_on_blocks.proofs.Vocabulary.{IsInode, ◌≡◌, ◌≢◌, ⊎_elim, ℕ, zero, suc, ◌+◌, ◌-◌, ◌*◌, ◌^◌, ◌<◌, ◌≤◌, inl, inr, refl, sym, ◌∙◌, ap, subst, arith, List, [], ◌∷◌, ◌++◌, length, set, get_or, slice_index, replicate, get_or-set_other, get_or-set_same, nat_lt, if◌then◌else◌, flat_map, All, Contains, cases_lt, get_or_append_left, get_or-append_right, length-replicate, append-nil, All-replicate, recursion_from_All, Super, Dinode, u32_bytes, u32s_at, recovered, sizes_of, length-u32s_at, u32s_at-bytes, Node, numbers_of, block_number, IsData, numbers_without, numbers_with, same_or, IsOwned, IsNumberPut, IsLaidOut, IsSpare, Names, addresses, block_len, direct, numbers_per_block}
use Rattle.std.proofs.lemmas.List.{length-set}
use Rattle.inodes_on_blocks.proofs.Basics.{at_index, block_of, content_same, device_kept, HasPlaces, within, one_place, once_by_places, all_by_places, contains_at, contains_place, place, number_place, place_apart}

-- the same but for its block numbers
pub record IsLike (d e : Dinode) : Type 0 where
  pub kind : e.kind ≡ d.kind
  pub major : e.major ≡ d.major
  pub minor : e.minor ≡ d.minor
  pub nlink : e.nlink ≡ d.nlink
  pub size : e.size ≡ d.size

-- ns has no number at place p, and ms is the same but has b there
pub record Sets (ns ms : List ℕ) (p b : ℕ) : Type 0 where
  pub free : slice_index ns p ≡ 0
  pub here : slice_index ms p ≡ b
  pub there : (q : ℕ) → q ≢ p → slice_index ms q ≡ slice_index ns q

-- ---- lists

module _ (ns ms : List ℕ) (p b : ℕ) (sets : Sets ns ms p b) (some : b ≢ 0) where
  -- a number that was there is there
  stays : (q : ℕ) → slice_index ns q ≢ 0 → slice_index ms q ≡ slice_index ns q
  stays q ne = sets.there q (λ e. ne (ap (slice_index ns) e ∙ sets.free))

  sets_all : (P : ℕ → Type 0) → All (λ c. c ≢ 0 → P c) ns → P b → All (λ c. c ≢ 0 → P c) ms
  sets_all P all own = all_by_places P ms (λ q ne. elim (same_or q p) [
    | inl e ↦ subst P (sym (ap (slice_index ms) e ∙ sets.here)) own
    | inr other ↦
        let was = sets.there q other in
        subst P (sym was) (at_index P ns q all (λ z. ne (was ∙ z)))
  ])

  sets_places : HasPlaces ns → All (λ c. c ≢ b) ns → HasPlaces ms
  sets_places h apart u w ne e = elim (same_or u p) [
    | inl up ↦ elim (same_or w p) [
      | inl wp ↦ up ∙ sym wp
      | inr wn ↦ absurd (fresh w (sym (sets.there w wn) ∙ sym e ∙ ap (slice_index ms) up ∙ sets.here))
    ]
    | inr un ↦ elim (same_or w p) [
      | inl wp ↦ absurd (fresh u (sym (sets.there u un) ∙ e ∙ ap (slice_index ms) wp ∙ sets.here))
      | inr wn ↦ h u w (λ z. ne (sets.there u un ∙ z)) (sym (sets.there u un) ∙ e ∙ sets.there w wn)
    ]
  ]
    where
      fresh : (q : ℕ) → slice_index ns q ≡ b → ⊥
      fresh q old = apart q 0 (within ns q (λ z. some (sym old ∙ z))) old

  sets_has : (c : ℕ) → c ≢ 0 → Contains (b ∷ ns) c → Contains ms c
  sets_has c ne has = from (contains_place (b ∷ ns) c has)
    where
      from : (k : ℕ) × (k < length (b ∷ ns)) × (slice_index (b ∷ ns) k ≡ c) → Contains ms c
      from (zero, l, e) = contains_at ms p c ne (sets.here ∙ e)
      from (suc k, l, e) = contains_at ms k c ne (stays k (λ z. ne (sym e ∙ z)) ∙ e)

-- ---- an inode

module _ (disk new : List (List ℕ)) (owner : ℕ → ℕ) (i p b : ℕ) (d e : Dinode) (v : Node) (h : IsLaidOut disk owner i d v) (spare : IsSpare disk owner i d b) (like : IsLike d e)
    (sets : Sets (numbers_of disk d) (numbers_of new e) p b) (sizes : sizes_of new ≡ sizes_of disk)
    (same : (k : ℕ) → block_number (numbers_of disk d) k ≢ 0 → recovered new (block_number (numbers_of disk d) k) ≡ recovered disk (block_number (numbers_of disk d) k)) where
  some : b ≢ 0
  some z = let past = spare.owned.block.0 in absurd (omega (arith, z, past))

  number_stays : (k : ℕ) → block_number (numbers_of disk d) k ≢ 0 → block_number (numbers_of new e) k ≡ block_number (numbers_of disk d) k
  number_stays k ne = stays (numbers_of disk d) (numbers_of new e) p b sets some (if nat_lt k direct then k else k + 1) ne

  block_stays : IsOwned disk owner i b → (c : ℕ) → IsOwned disk owner i c → IsOwned new owner i c
  block_stays _ c own = record { block = subst (λ (s : Super). IsData s c) (sym sizes) own.block; owner_is = own.owner_is }

  inside : (k : ℕ) → block_len * k < e.size → block_number (numbers_of disk d) k ≢ 0
  inside k l = let size = like.size in h.room.there k (omega (arith, l, size))

  pub names_more : Names disk new owner i b d e v
  names_more = record {
    laid = record {
      inode = (let is = h.inode in subst (λ (s : Super). IsInode s.version e v) (sym sizes) (record {
        kind = like.kind ∙ is.kind;
        count = like.nlink ∙ is.count;
        size = like.size ∙ is.size;
        device = device_kept d e v.kind like.major like.minor is.device;
      }));
      content =
          content_same disk new d e sizes like.size
          (λ k l.
          let ne = h.room.there k l in
          block_of new e k ∙ ap (recovered new) (number_stays k ne) ∙ same k ne ∙ sym (block_of disk d k))
          v.kind h.content;
      room = record {
        limit = (let size = like.size in let limit = h.room.limit in omega (arith, size, limit));
        there = λ k l z. inside k l (sym (number_stays k (inside k l)) ∙ z);
      };
      owned =
          sets_all (numbers_of disk d) (numbers_of new e) p b sets some (IsOwned new owner i)
          (λ k z l ne. block_stays spare.owned (get_or (numbers_of disk d) k z) (h.owned k z l ne)) (block_stays spare.owned b spare.owned);
      once =
          once_by_places (numbers_of new e)
          (sets_places (numbers_of disk d) (numbers_of new e) p b sets some (λ u w ne is. one_place (numbers_of disk d) u w h.once ne is) spare.unnamed);
    };
    named = λ named c block own.
        let was : IsData (sizes_of disk) c = subst (λ (s : Super). IsData s c) sizes block in
        let past = was.0 in
        sets_has (numbers_of disk d) (numbers_of new e) p b sets some c (λ z. absurd (omega (arith, z, past))) (named c was own);
  }

-- ---- a number in the inode itself

at_front : (xs ys : List ℕ) (q : ℕ) → q < length xs → slice_index (xs ++ ys) q ≡ slice_index xs q
at_front xs ys q l = get_or_append_left xs ys 0 q l

set_front : (xs ys : List ℕ) (p b : ℕ) → p < length xs → slice_index (xs ++ ys) p ≡ 0 → Sets (xs ++ ys) (set xs p b ++ ys) p b
set_front xs ys p b l free = record {
  free = free;
  here = at_front (set xs p b) ys p (omega (arith, length-set xs p b, l)) ∙ get_or-set_same xs p b 0 l;
  there = λ q ne.
      ⊎_elim
      (λ (a : q < length xs). at_front (set xs p b) ys q (omega (arith, length-set xs p b, a)) ∙ get_or-set_other xs p q b 0 ne ∙ sym (at_front xs ys q a))
      (λ (a : length xs ≤ q).
      get_or-append_right (set xs p b) ys (length xs) q 0 (length-set xs p b) a ∙ sym (get_or-append_right xs ys (length xs) q 0 refl a))
      (cases_lt q (length xs));
}

abbrev numbered : Dinode → ℕ → ℕ → Dinode
numbered d p b = record d { addrs = set d.addrs p b }

alike : (d : Dinode) (p b : ℕ) → IsLike d (numbered d p b)
alike d p b = record { kind = refl; major = refl; minor = refl; nlink = refl; size = refl }

numbers_split : (disk : List (List ℕ)) (d : Dinode) → (rest : List ℕ) × (numbers_of disk d ≡ d.addrs ++ rest)
unfolding numbers_of
numbers_split disk d = (_, refl)

-- a direct one leaves the table
direct_sets : (disk : List (List ℕ)) (d : Dinode) (p b : ℕ) → p < direct → p < length d.addrs → slice_index d.addrs p ≡ 0 → Sets (numbers_of disk d) (numbers_of disk (numbered d p b)) p b
unfolding numbers_of
direct_sets disk d p b low l free =
    let table : slice_index (set d.addrs p b) direct ≡ slice_index d.addrs direct = get_or-set_other d.addrs p direct b 0 (λ e. absurd (omega (arith, e, low))) in
    rw table (set_front d.addrs _ p b l (at_front d.addrs _ p l ∙ free))

pub direct_named : (disk : List (List ℕ)) (owner : ℕ → ℕ) (i p b : ℕ) (d : Dinode) (v : Node) → IsLaidOut disk owner i d v → p < direct → p < length d.addrs → slice_index d.addrs p ≡ 0
    → IsSpare disk owner i d b → Names disk disk owner i b d (record d { addrs = set d.addrs p b }) v
direct_named disk owner i p b d v h low l free spare =
    names_more disk disk owner i p b d (numbered d p b) v h spare (alike d p b) (direct_sets disk d p b low l free) refl (λ k ne. refl)

-- ---- a table

zeros_at : (n q : ℕ) → slice_index (replicate n 0) q ≡ 0
zeros_at zero q = refl
zeros_at (suc n) zero = refl
zeros_at (suc n) (suc q) = zeros_at n q

-- zeros after a list are like nothing after it
zeros_behind : (xs : List ℕ) (n q : ℕ) → slice_index (xs ++ replicate n 0) q ≡ slice_index xs q
zeros_behind [] n q = zeros_at n q
zeros_behind (x ∷ xs) n zero = refl
zeros_behind (x ∷ xs) n (suc q) = zeros_behind xs n q

-- a block of zeros has numbers 0
zero_bytes : u32_bytes 0 ≡ 0 ∷ 0 ∷ 0 ∷ 0 ∷ []
unfolding u32_bytes
zero_bytes = refl

zero_spelled : (n : ℕ) → flat_map u32_bytes (replicate n 0) ≡ replicate (4 * n) 0
zero_spelled zero = refl
zero_spelled (suc n) =
    let four : suc (suc (suc (suc (4 * n)))) ≡ 4 * suc n = omega arith in
    ap (λ (bytes : List ℕ). bytes ++ flat_map u32_bytes (replicate n 0)) zero_bytes
    ∙ ap (λ (bytes : List ℕ). 0 ∷ 0 ∷ 0 ∷ 0 ∷ bytes) (zero_spelled n)
    ∙ ap (λ (k : ℕ). replicate k 0) four

no_numbers : u32s_at numbers_per_block (replicate block_len 0) 0 ≡ replicate numbers_per_block 0
no_numbers =
    let zeros : List ℕ = replicate numbers_per_block 0 in
    let count : length zeros ≡ numbers_per_block = length-replicate {A = ℕ} numbers_per_block 0 in
    ap (λ (bytes : List ℕ). u32s_at numbers_per_block bytes 0)
    (sym (append-nil (flat_map u32_bytes zeros) ∙ zero_spelled numbers_per_block))
    ∙ ap (λ (c : ℕ). u32s_at c (flat_map u32_bytes zeros ++ []) 0) (sym count)
    ∙ u32s_at-bytes zeros [] (recursion_from_All (λ n. n < 2 ^ 32) zeros
    (All-replicate (λ n. n < 2 ^ 32) numbers_per_block 0 (omega arith)))

pub table_named : (disk : List (List ℕ)) (owner : ℕ → ℕ) (i b : ℕ) (d : Dinode) (v : Node) → IsLaidOut disk owner i d v → direct < length d.addrs → slice_index d.addrs direct ≡ 0
    → IsSpare disk owner i d b → recovered disk b ≡ replicate block_len 0 → Names disk disk owner i b d (record d { addrs = set d.addrs direct b }) v
table_named disk owner i b d v h l free spare zeros =
    let e : Dinode = numbered d direct b in
    let is : slice_index e.addrs direct ≡ b = get_or-set_same d.addrs direct b 0 l in
    let past = spare.owned.block.0 in
    let with = numbers_with disk e (λ z. absurd (omega (arith, z, is, past))) in
    let rest : u32s_at numbers_per_block (recovered disk (slice_index e.addrs direct)) 0 ≡ replicate numbers_per_block 0 =
    ap (λ (c : ℕ). u32s_at numbers_per_block (recovered disk c) 0) is ∙ ap (λ (bytes : List ℕ). u32s_at numbers_per_block bytes 0) zeros
    ∙ no_numbers in
    let now : numbers_of disk e ≡ e.addrs ++ replicate numbers_per_block 0 = with ∙ ap (λ (xs : List ℕ). e.addrs ++ xs) rest in
    let before : numbers_of disk d ≡ d.addrs = numbers_without disk d free in
    names_more disk disk owner i direct b d e v h spare (alike d direct b)
    (record {
      free = ap (λ (xs : List ℕ). slice_index xs direct) before ∙ free;
      here = ap (λ (xs : List ℕ). slice_index xs direct) now ∙ zeros_behind e.addrs numbers_per_block direct ∙ is;
      there = λ q ne.
          ap (λ (xs : List ℕ). slice_index xs q) now ∙ zeros_behind e.addrs numbers_per_block q ∙ get_or-set_other d.addrs direct q b 0 ne ∙ ap (λ (xs : List ℕ). slice_index xs q) (sym before);
    }) refl (λ k ne. refl)

-- ---- a number in the table

set_behind : (xs ys : List ℕ) (p b : ℕ) → p < length ys → slice_index (xs ++ ys) (length xs + p) ≡ 0 → Sets (xs ++ ys) (xs ++ set ys p b) (length xs + p) b
set_behind xs ys p b l free = record {
  free = free;
  here = get_or-append_right xs (set ys p b) (length xs) (length xs + p) 0 refl (omega arith) ∙ ap (slice_index (set ys p b)) here ∙ get_or-set_same ys p b 0 l;
  there = λ q ne.
      ⊎_elim
      (λ (a : q < length xs). at_front xs (set ys p b) q a ∙ sym (at_front xs ys q a))
      (λ (a : length xs ≤ q).
      get_or-append_right xs (set ys p b) (length xs) q 0 refl a
      ∙ get_or-set_other ys p (q - length xs) b 0 (λ e. ne (omega (arith, e, a)))
      ∙ sym (get_or-append_right xs ys (length xs) q 0 refl a))
      (cases_lt q (length xs));
}
  where
    here : length xs + p - length xs ≡ p
    here = omega arith

pub number_named : (disk new : List (List ℕ)) (owner : ℕ → ℕ) (i p b : ℕ) (d : Dinode) (v : Node) → IsLaidOut disk owner i d v → length d.addrs ≡ addresses → p < numbers_per_block
    → slice_index (numbers_of disk d) (addresses + p) ≡ 0 → IsSpare disk owner i d b → IsNumberPut disk new d p b
    → Names disk new owner i b d d v
number_named disk new owner i p b d v h long low free spare put =
    let old : List ℕ = u32s_at numbers_per_block (recovered disk (slice_index d.addrs direct)) 0 in
    let before : numbers_of disk d ≡ d.addrs ++ old = numbers_with disk d put.some in
    let now : numbers_of new d ≡ d.addrs ++ set old p b = numbers_with new d put.some ∙ ap (λ (xs : List ℕ). d.addrs ++ xs) put.numbers in
    let at : length d.addrs + p ≡ addresses + p = omega (arith, long) in
    let none : slice_index (d.addrs ++ old) (length d.addrs + p) ≡ 0 = ap (slice_index (d.addrs ++ old)) at ∙ ap (λ (xs : List ℕ). slice_index xs (addresses + p)) (sym before) ∙ free in
    let table : slice_index (numbers_of disk d) direct ≡ slice_index d.addrs direct = ap (λ (xs : List ℕ). slice_index xs direct) before ∙ at_front d.addrs old direct (omega (arith, long)) in
    names_more disk new owner i (length d.addrs + p) b d d v h spare (record { kind = refl; major = refl; minor = refl; nlink = refl; size = refl })
    (subst (λ (xs : List ℕ). Sets xs (numbers_of new d) (length d.addrs + p) b) (sym before)
    (subst (λ (xs : List ℕ). Sets (d.addrs ++ old) xs (length d.addrs + p) b) (sym now)
    (set_behind d.addrs old p b
    (omega (arith, low, length-u32s_at numbers_per_block (recovered disk (slice_index d.addrs direct)) 0)) none)))
    put.block.sizes
    (λ k ne. put.block.others (block_number (numbers_of disk d) k)
    (λ e. place_apart k (one_place (numbers_of disk d) (place k) direct h.once (λ z. ne (number_place (numbers_of disk d) k ∙ z)) (sym (number_place (numbers_of disk d) k) ∙ e ∙ sym table))))
