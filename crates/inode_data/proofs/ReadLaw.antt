-- What a read answers.
use Rattle.inode_data.proofs.Vocabulary.{◌≡◌, ⊎_elim, ℕ, zero, suc, ◌+◌, ◌-◌, ◌*◌, ◌/◌, ◌<◌, ◌≤◌, Bool, cond, List, [], ◌++◌, length, take, drop, get_or, Option, Some, None, refl, sym, ap, subst, ◌∙◌, arith, append_assoc, length-append, cases_lt, lt-ltb, le-ltb, append-nil, drop_all, length-take, Dinode, overwrite-overwrite, bind, bind-assoc, Get, P, fetch, read_unless, Oracle, outcome, Address, Direct, InTable, address, table_of, FetchedBlock, FilledMemory, filled_with, give_fetched, fetch_number, fetch_named, fetch_at, fetch_block, next_block, blocks_between, part_of, read_part, read_blocks, end_of, Shows, number_at, content_block, front_blocks, ReadsTheContent, block_len}
use Rattle.inode_data.proofs.ContentFronts.{front, part_then}

-- ---- memory

abbrev start : List ℕ → FilledMemory
start memory = record { count = 0; bytes = memory }

filled_twice : (memory xs ys : List ℕ) → filled_with (filled_with (start memory) xs) ys ≡ filled_with (start memory) (xs ++ ys)
filled_twice memory xs ys =
    let count : 0 + length xs + length ys ≡ 0 + length (xs ++ ys) = omega (arith, length-append xs ys) in
    let bytes = overwrite-overwrite memory xs ys 0 (omega arith) in
    λ i. record { count = count i; bytes = bytes i }

-- ---- how many blocks

pub none_between : (from upto : ℕ) → 0 ≡ blocks_between from upto → upto ≤ from
none_between from upto e =
    ⊎_elim
    (λ (l : from < upto). absurd (let some : 0 ≡ ((upto - 1) / block_len + 1) - from / block_len = e ∙ ap (λ (b : Bool). cond b (((upto - 1) / block_len + 1) - from / block_len) 0) (lt-ltb from upto l) in omega (arith, some, l)))
    (λ (m : upto ≤ from). m)
    (cases_lt from upto)

pub some_between : (n from upto : ℕ) → suc n ≡ blocks_between from upto → from < upto
some_between n from upto e =
    ⊎_elim
    (λ (l : from < upto). l)
    (λ (m : upto ≤ from). absurd (let none : suc n ≡ 0 = e ∙ ap (λ (b : Bool). cond b (((upto - 1) / block_len + 1) - from / block_len) 0) (le-ltb from upto m) in omega (arith, none)))
    (cases_lt from upto)

pub next_between : (n from upto : ℕ) → suc n ≡ blocks_between from upto → from < upto → n ≡ blocks_between (next_block from) upto
next_between n from upto e lt =
    let next : ℕ = next_block from in
    let is : suc n ≡ ((upto - 1) / block_len + 1) - from / block_len = e ∙ ap (λ (b : Bool). cond b (((upto - 1) / block_len + 1) - from / block_len) 0) (lt-ltb from upto lt) in
    ⊎_elim
    (λ (l : next < upto). let here : n ≡ ((upto - 1) / block_len + 1) - next / block_len = omega (arith, is, l) in here ∙ sym (ap (λ (b : Bool). cond b (((upto - 1) / block_len + 1) - next / block_len) 0) (lt-ltb next upto l)))
    (λ (m : upto ≤ next). let here : n ≡ 0 = omega (arith, is, m, lt) in here ∙ sym (ap (λ (b : Bool). cond b (((upto - 1) / block_len + 1) - next / block_len) 0) (le-ltb next upto m)))
    (cases_lt next upto)

module _ (answer : Oracle) (seen : ℕ → List ℕ) (d : Dinode) (shows : Shows answer seen) where
  -- ---- the content's blocks

  abbrev content : ℕ → List ℕ
  content = content_block seen d

  whole : (k q : ℕ) → q < k → length (content q) ≡ block_len
  unfolding content_block
  whole k q lt = shows.whole (number_at seen d (address q))

  fronts : (k : ℕ) → front content k ≡ front_blocks seen d k
  unfolding front front_blocks
  fronts zero = refl
  fronts (suc k) = ap (λ (xs : List ℕ). xs ++ content k) (fronts k)

  -- ---- programs

  fetch_shows : {A : Type 0} (Q : A → Type 0) (b : ℕ) (g : List ℕ → P A) → ((m : ℕ) → Q (outcome answer m (g (seen b)))) → (n : ℕ) → Q (outcome answer n (bind (fetch b) g))
  fetch_shows {A} Q b g each n =
      ⊎_elim
      (λ (e : answer n (Get b) ≡ None). subst (λ (o : Option (List ℕ)). Q (outcome answer (n + 1) (bind (read_unless b o) g))) (sym e)
      (subst (λ (bytes : List ℕ). Q (outcome answer (n + 1 + 1) (g bytes))) (sym (shows.read (n + 1) b)) (each (n + 1 + 1))))
      (λ (e : answer n (Get b) ≡ Some (seen b)). subst (λ (o : Option (List ℕ)). Q (outcome answer (n + 1) (bind (read_unless b o) g))) (sym e) (each (n + 1)))
      (shows.got n b)

  number_shows : {A : Type 0} (Q : A → Type 0) (b : ℕ) (g : FetchedBlock → P A) → ((m : ℕ) → Q (outcome answer m (g (record { number = b; bytes = seen b })))) → (n : ℕ) → Q (outcome answer n (bind (fetch_number b) g))
  number_shows {A} Q b g each n =
      subst (λ (p : P A). Q (outcome answer n p)) (sym (bind-assoc (fetch b) (give_fetched b) g)) (fetch_shows Q b (λ bytes. g (record { number = b; bytes = bytes })) each n)

  at_shows : {A : Type 0} (Q : A → Type 0) (a : Address) (g : FetchedBlock → P A)
      → ((m : ℕ) → Q (outcome answer m (g (record { number = number_at seen d a; bytes = seen (number_at seen d a) })))) → (n : ℕ) → Q (outcome answer n (bind (fetch_at d a) g))
  at_shows Q (Direct i) g each n = number_shows Q (get_or d.addrs i 0) g each n
  at_shows {A} Q (InTable i) g each n =
      subst (λ (p : P A). Q (outcome answer n p)) (sym (bind-assoc (fetch (table_of d)) (fetch_named (table_of d) i) g))
      (fetch_shows Q (table_of d) (λ bytes. bind (fetch_named (table_of d) i bytes) g) (λ m. number_shows Q (number_at seen d (InTable i)) g each (m + 1)) n)

  block_shows : {A : Type 0} (Q : A → Type 0) (k : ℕ) (g : FetchedBlock → P A)
      → ((m : ℕ) → Q (outcome answer m (g (record { number = number_at seen d (address k); bytes = content_block seen d k })))) → (n : ℕ) → Q (outcome answer n (bind (fetch_block d k) g))
  unfolding content_block
  block_shows Q k g each n = at_shows Q (address k) g each n

  -- ---- the blocks in order

  read_more : (memory : List ℕ) (n from upto k : ℕ) (xs : List ℕ) (j : ℕ) → n ≡ blocks_between from upto → upto ≤ block_len * k
      → outcome answer j (read_blocks n d from upto (filled_with (start memory) xs)) ≡ filled_with (start memory) (xs ++ drop from (take upto (front content k)))
  unfolding read_blocks
  read_more memory zero from upto k xs j e within =
      let le : upto ≤ from = none_between from upto e in
      let gone : drop from (take upto (front content k)) ≡ [] = drop_all from _ (omega (arith, le, length-take upto (front content k))) in
      rw gone (ap (filled_with (start memory)) (sym (append-nil xs)))
  read_more memory (suc n) from upto k xs j e within =
      let lt : from < upto = some_between n from upto e in
      let q : from / block_len < k = omega (arith, lt, within) in
      let all : List ℕ = drop from (take upto (front content k)) in
      let part : List ℕ = part_of from upto (content_block seen d (from / block_len)) in
      block_shows (λ (m : FilledMemory). m ≡ filled_with (start memory) (xs ++ all)) (from / block_len)
      (read_part (read_blocks n d (next_block from) upto) from upto (filled_with (start memory) xs))
      (λ m.
      ap (λ (f : FilledMemory). outcome answer (m + 1) (read_blocks n d (next_block from) upto f)) (filled_twice memory xs part)
      ∙ (read_more memory n (next_block from) upto k (xs ++ part) (m + 1) (next_between n from upto e lt) within
      ∙ ap (filled_with (start memory)) (append_assoc xs part _ ∙ ap (λ (ys : List ℕ). xs ++ ys) (part_then content k (whole k) from upto q)))) j

pub reads_content : ReadsTheContent
reads_content answer seen d offset n k memory shows within =
    read_more answer seen d shows memory (blocks_between offset (end_of d offset n)) offset (end_of d offset n) k [] 0 refl within
    ∙ ap (λ (xs : List ℕ). filled_with (start memory) (drop offset (take (end_of d offset n) xs))) (fronts answer seen d shows k)
