-- What the search for a block saw that ends without one.
use Rattle.run_laws.proofs.Vocabulary.{◌≡◌, ◌⊎◌, inl, inr, ◌<◌, ◌≤◌, ◌+◌, ◌-◌, ◌/◌, ◌%◌, min, ℕ, zero, suc, ◌==◌, Bool, true, false, not, if◌then◌else◌, List, [], ◌∷◌, ◌++◌, length, Option, Some, None, refl, sym, ◌∙◌, ap, subst, arith, slice_index, ⊎_elim, cases_lt, length-drop, length-take, Dinode, Super, bit_of, numbers_in, In, Prog, Ret, Do, bind, unmarked, first_below, first_clear_below, give_zeros, take_first, zero_found, FirstIs, first_is, fetch, read_unless, AnswerBelow as Answer, Get, Op, Put, Read, Address, Direct, InTable, Located, address, table_of, blocks_between, direct, WriteResult, front_of, locate, locate_at, located, look_up, name_direct, name_in_table, put_part, take_one, with_address, with_table, write_blocks, write_in, write_located, Acts, none_between, some_between, many_between, none_there, AnsweredStep, ComesTo, HasRead, SawNoBlock, block_len}
use Rattle.std.proofs.Common.{drop}

-- ---- one program after the other

pub in_front : {A : Type 0} (x : A) (xs ys : List A) → In x xs → In x (xs ++ ys)
in_front x [] ys i = absurd i
in_front x (z ∷ xs) ys (inl q) = inl q
in_front x (z ∷ xs) ys (inr i) = inr (in_front x xs ys i)

pub in_back : {A : Type 0} (x : A) (xs ys : List A) → In x ys → In x (xs ++ ys)
in_back x [] ys i = i
in_back x (z ∷ xs) ys i = inr (in_back x xs ys i)

-- the result of a program whose operations begin these
pub record Splits {M A B : Type 0} (p : Prog Op Answer M A) (f : A → Prog Op Answer M B) (es : List AnsweredStep) (r : B) : Type 0 where
  pub value : A
  pub front : List AnsweredStep
  pub back : List AnsweredStep
  pub is : es ≡ front ++ back
  pub first : ComesTo p front value
  pub then_ : ComesTo (f value) back r

pub split : {M A B : Type 0} (p : Prog Op Answer M A) (f : A → Prog Op Answer M B) (es : List AnsweredStep) (r : B)
    → ComesTo (bind p f) es r → Splits p f es r
split (Ret a) f es r c = record { value = a; front = []; back = es; is = refl; first = refl; then_ = c }
split (Do op m k) f [] r c = absurd c
split (Do op m k) f (e ∷ es) r c =
    let s = split (k c.0) f es r c.2 in
    record {
      value = s.value;
      front = e ∷ s.front;
      back = s.back;
      is = ap (λ (xs : List AnsweredStep). e ∷ xs) s.is;
      first = (c.0, c.1, s.first);
      then_ = s.then_;
    }

pub read_front : (es xs ys : List AnsweredStep) (b : ℕ) (bytes : List ℕ) → es ≡ xs ++ ys → HasRead xs b bytes → HasRead es b bytes
read_front es xs ys b bytes is (inl i) =
    inl (subst (λ (z : List AnsweredStep). In (Get b, Some bytes) z) (sym is) (in_front (Get b, Some bytes) xs ys i))
read_front es xs ys b bytes is (inr i) =
    inr (subst (λ (z : List AnsweredStep). In (Read b, bytes) z) (sym is) (in_front (Read b, bytes) xs ys i))

pub read_back : (es xs ys : List AnsweredStep) (b : ℕ) (bytes : List ℕ) → es ≡ xs ++ ys → HasRead ys b bytes → HasRead es b bytes
read_back es xs ys b bytes is (inl i) =
    inl (subst (λ (z : List AnsweredStep). In (Get b, Some bytes) z) (sym is) (in_back (Get b, Some bytes) xs ys i))
read_back es xs ys b bytes is (inr i) =
    inr (subst (λ (z : List AnsweredStep). In (Read b, bytes) z) (sym is) (in_back (Read b, bytes) xs ys i))

-- ---- a block fetched

pub fetched : (b : ℕ) (es : List AnsweredStep) (bytes : List ℕ) → ComesTo {M = Acts} (fetch b) es bytes → HasRead es b bytes
fetched b [] bytes c = absurd c
fetched b (e ∷ es) bytes c = at c.0 c.1 es c.2
  where
    at : (o : Option (List ℕ)) → e ≡ (Get b, o) → (es : List AnsweredStep) → ComesTo {M = Acts} (read_unless b o) es bytes → HasRead
        (e ∷ es) b bytes
    at (Some got) is [] r = inl (inl (sym (is ∙ ap (λ (z : List ℕ). (Get b, Some z)) r)))
    at (Some got) is (x ∷ xs) r = absurd r
    at None is [] r = absurd r
    at None is (x ∷ []) r = inr (inr (inl (sym (r.1 ∙ ap (λ (z : List ℕ). (Read b, z)) r.2))))
    at None is (x ∷ y ∷ xs) r = absurd r.2

-- ---- the search for a block

bits_set : (size : ℕ) (bitmap : List ℕ) → first_clear_below size bitmap ≡ None → (b : ℕ) → b < size → bit_of bitmap b ≡ true
unfolding first_clear_below
bits_set size bitmap none b lt = at (first_below p size) none (first_is p size)
  where
    p : ℕ → Bool
    p k = not (bit_of bitmap k)

    clear : (x : Bool) → not x ≡ false → x ≡ true
    clear true e = refl
    clear false e = absurd (let q : true ≡ false = e in cc)

    at : (o : Option ℕ) → o ≡ None → FirstIs p size o → bit_of bitmap b ≡ true
    at None e f = clear (bit_of bitmap b) (f b lt)
    at (Some k) e f = absurd cc

zeroed : (o : Option ℕ) (es : List AnsweredStep) → ComesTo {M = Acts} (zero_found o) es None → o ≡ None
zeroed None es c = refl
zeroed (Some b) es c =
    let s = split (fetch b) (give_zeros b) es None c in
    absurd (last s.back s.value s.then_)
  where
    last : (ys : List AnsweredStep) (old : List ℕ) → ComesTo {M = Acts} (give_zeros b old) ys None → ⊥
    last [] old q = q
    last (y ∷ []) old q = let z : Some b ≡ None = q.2 in cc
    last (y ∷ z ∷ ys) old q = q.2

module _ (sizes : Super) where
  pub saw_front : (es xs ys : List AnsweredStep) → es ≡ xs ++ ys → SawNoBlock sizes xs → SawNoBlock sizes es
  saw_front es xs ys is s = record { bitmap = s.bitmap; read = read_front es xs ys sizes.bmapstart s.bitmap is s.read; set = s.set }

  pub saw_back : (es xs ys : List AnsweredStep) → es ≡ xs ++ ys → SawNoBlock sizes ys → SawNoBlock sizes es
  saw_back es xs ys is s = record { bitmap = s.bitmap; read = read_back es xs ys sizes.bmapstart s.bitmap is s.read; set = s.set }

  none_taken : (es : List AnsweredStep) → ComesTo {M = Acts} (take_one sizes) es None → SawNoBlock sizes es
  none_taken es c =
      let s = split (fetch sizes.bmapstart) (take_first sizes.bmapstart sizes.size) es None c in
      record {
        bitmap = s.value;
        read = read_front es s.front s.back sizes.bmapstart s.value s.is (fetched sizes.bmapstart s.front s.value s.first);
        set = bits_set sizes.size s.value (rest s.value s.back s.then_);
      }
    where
      rest : (bitmap : List ℕ) (ys : List AnsweredStep) → ComesTo {M = Acts} (take_first sizes.bmapstart sizes.size bitmap) ys None
          → first_clear_below sizes.size bitmap ≡ None
      rest bitmap [] q = absurd q
      rest bitmap (y ∷ ys) q = zeroed (first_clear_below sizes.size bitmap) ys q.2

  -- ---- a block of a content

  abbrev pub Lacks : List AnsweredStep → Located → Type 0
  Lacks es l = l.number ≡ None → SawNoBlock sizes es

  located_there : (d : Dinode) (b : ℕ) (es : List AnsweredStep) (l : Located) → ComesTo {M = Acts} (located d (Some b)) es l →
      l.number ≡ None → ⊥
  located_there d b [] l c e = let q : Some b ≡ None = ap (λ (z : Located). z.number) c ∙ e in cc
  located_there d b (x ∷ es) l c e = c

  direct_lacks : (i : ℕ) (d : Dinode) (xs : List AnsweredStep) (o : Option ℕ) → ComesTo {M = Acts} (take_one sizes) xs o →
      (ys : List AnsweredStep) (l : Located)
      → ComesTo {M = Acts} (name_direct i d o) ys l → l.number ≡ None → SawNoBlock sizes xs
  direct_lacks i d xs None c ys l n e = none_taken xs c
  direct_lacks i d xs (Some b) c ys l n e = absurd (located_there (with_address i b d) b ys l n e)

  table_lacks : (i : ℕ) (d : Dinode) (table : ℕ) (bytes : List ℕ) (xs : List AnsweredStep) (o : Option ℕ) → ComesTo {M = Acts}
      (take_one sizes) xs o
      → (ys : List AnsweredStep) (l : Located) → ComesTo {M = Acts} (name_in_table i d table bytes o) ys l → l.number ≡ None
      → SawNoBlock sizes xs
  table_lacks i d table bytes xs None c ys l n e = none_taken xs c
  table_lacks i d table bytes xs (Some b) c [] l n e = absurd n
  table_lacks i d table bytes xs (Some b) c (y ∷ ys) l n e = absurd (located_there d b ys l n.2 e)

  look_lacks : (i : ℕ) (d : Dinode) (table : ℕ) (bytes : List ℕ) (es : List AnsweredStep) (l : Located)
      → ComesTo {M = Acts} (look_up sizes i d table bytes) es l → Lacks es l
  look_lacks i d table bytes es l c = at (slice_index (numbers_in bytes) i == 0) es c
    where
      at : (b : Bool) (es : List AnsweredStep)
          → ComesTo {M = Acts} (if b then bind (take_one sizes) (name_in_table i d table bytes) else Do (Put table None) unmarked
          (λ _. located d (Some (slice_index (numbers_in bytes) i)))) es l
          → Lacks es l
      at true es q e =
          let s = split (take_one sizes) (name_in_table i d table bytes) es l q in
          saw_front es s.front s.back s.is (table_lacks i d table bytes s.front s.value s.first s.back l s.then_ e)
      at false [] q e = absurd q
      at false (x ∷ es) q e = absurd (located_there d (slice_index (numbers_in bytes) i) es l q.2 e)

  fetched_lacks : (i : ℕ) (d : Dinode) (table : ℕ) (es : List AnsweredStep) (l : Located)
      → ComesTo {M = Acts} (bind (fetch table) (look_up sizes i d table)) es l → Lacks es l
  fetched_lacks i d table es l c e =
      let s = split (fetch table) (look_up sizes i d table) es l c in
      saw_back es s.front s.back s.is (look_lacks i d table s.value s.back l s.then_ e)

  new_table_lacks : (i : ℕ) (d : Dinode) (es xs : List AnsweredStep) (o : Option ℕ) → ComesTo {M = Acts} (take_one sizes) xs o
      → (ys : List AnsweredStep) (l : Located) → es ≡ xs ++ ys → ComesTo {M = Acts} (with_table sizes i d o) ys l → Lacks es l
  new_table_lacks i d es xs None c ys l is n e = saw_front es xs ys is (none_taken xs c)
  new_table_lacks i d es xs (Some table) c ys l is n e =
      saw_back es xs ys is (fetched_lacks i (with_address direct table d) table ys l n e)

  pub at_lacks : (d : Dinode) (a : Address) (es : List AnsweredStep) (l : Located) → ComesTo {M = Acts} (locate_at sizes d a) es l → Lacks es l
  at_lacks d (Direct i) es l c = at (slice_index d.addrs i == 0) c
    where
      at : (b : Bool) → ComesTo {M = Acts} (if b then bind (take_one sizes) (name_direct i d) else located d
          (Some (slice_index d.addrs i))) es l → Lacks es l
      at true q e =
          let s = split (take_one sizes) (name_direct i d) es l q in
          saw_front es s.front s.back s.is (direct_lacks i d s.front s.value s.first s.back l s.then_ e)
      at false q e = absurd (located_there d (slice_index d.addrs i) es l q e)
  at_lacks d (InTable i) es l c = at (table_of d == 0) c
    where
      at : (b : Bool) → ComesTo {M = Acts} (if b then bind (take_one sizes) (with_table sizes i d) else bind (fetch (table_of d))
          (look_up sizes i d (table_of d))) es l → Lacks es l
      at true q e =
          let s = split (take_one sizes) (with_table sizes i d) es l q in
          new_table_lacks i d es s.front s.value s.first s.back l s.is s.then_ e
      at false q e = fetched_lacks i d (table_of d) es l q e

  -- ---- bytes written

  pub next_count : (n at len f : ℕ) → suc n ≡ blocks_between at (at + len) → f ≡ min (block_len - at % block_len) len
      → n ≡ blocks_between (at + f) ((at + f) + (len - f))
  next_count n at len f is part =
      let lt : at < at + len = some_between n at (at + len) is in
      let here : suc n ≡ ((at + len - 1) / block_len + 1) - at / block_len = is ∙ many_between at (at + len) lt in
      ⊎_elim
      (λ (l : len < block_len - at % block_len + 1).
      let none : n ≡ 0 = omega (arith, here, l, lt) in
      none ∙ sym (none_there (at + f) ((at + f) + (len - f)) (omega (arith, part, l))))
      (λ (m : block_len - at % block_len + 1 ≤ len).
      let some : n ≡ (((at + f) + (len - f) - 1) / block_len + 1) - (at + f) / block_len = omega (arith, here, m, part, lt) in
      some ∙ sym (many_between (at + f) ((at + f) + (len - f)) (omega (arith, part, m))))
      (cases_lt len (block_len - at % block_len + 1))

  -- all bytes were written, or the search for a block has seen none
  pub written : (n at : ℕ) (bytes : List ℕ) (d : Dinode) (es : List AnsweredStep) (w : WriteResult)
      → n ≡ blocks_between at (at + length bytes) → ComesTo {M = Acts} (write_blocks n sizes at bytes d) es w
      → SawNoBlock sizes es ⊎ (w.upto ≡ at + length bytes)
  unfolding write_blocks
  written zero at bytes d [] w is c =
      inr (let none : at + length bytes ≤ at = none_between at (at + length bytes) is in
      let all : at ≡ at + length bytes = omega (arith, none) in
      sym (ap (λ (z : WriteResult). z.upto) c) ∙ all)
  written zero at bytes d (e ∷ es) w is c = absurd c
  written (suc n) at bytes d es w is c =
      let s = split (locate sizes d (at / block_len)) (write_located more at bytes) es w c in
      by (λ x ys. written n (at + f) (drop f bytes) x ys w counts) s.value.inode s.value.number s.front s.back
      (at_lacks d (address (at / block_len)) s.front s.value s.first) s.is s.then_
    where
      f : ℕ
      f = length (front_of at bytes)

      more : Dinode → Prog Op Answer Acts WriteResult
      more = write_blocks n sizes (at + length (front_of at bytes)) (drop (length (front_of at bytes)) bytes)

      part : f ≡ min (block_len - at % block_len) (length bytes)
      part = length-take (block_len - at % block_len) bytes

      rest : length (drop f bytes) ≡ length bytes - f
      rest = length-drop f bytes

      counts : n ≡ blocks_between (at + f) ((at + f) + length (drop f bytes))
      counts = next_count n at (length bytes) f is part ∙ ap (λ (z : ℕ). blocks_between (at + f) ((at + f) + z)) (sym rest)

      whole : (at + f) + length (drop f bytes) ≡ at + length bytes
      whole = omega (arith, part, rest)

      Later : Type 0
      Later = (x : Dinode) (ys : List AnsweredStep) → ComesTo (more x) ys w → SawNoBlock sizes ys ⊎
          (w.upto ≡ (at + f) + length (drop f bytes))

      put : Later → (x : Dinode) (b : ℕ) (block : List ℕ) (ys : List AnsweredStep) → ComesTo (put_part (more x) b at bytes block) ys w
          → SawNoBlock sizes ys ⊎ (w.upto ≡ at + length bytes)
      put later x b block [] q = absurd q
      put later x b block (y ∷ ys) q = elim (later x ys q.2) [
        | inl saw ↦ inl (saw_back (y ∷ ys) (y ∷ []) ys refl saw)
        | inr upto ↦ inr (upto ∙ whole)
      ]

      by : Later → (x : Dinode) (o : Option ℕ) (xs ys : List AnsweredStep) → (o ≡ None → SawNoBlock sizes xs) → es ≡ xs ++ ys
          → ComesTo (write_in more at bytes x o) ys w → SawNoBlock sizes es ⊎ (w.upto ≡ at + length bytes)
      by later x None xs ys lacks is q = inl (saw_front es xs ys is (lacks refl))
      by later x (Some b) xs ys lacks is q =
          let s = split (fetch b) (put_part (more x) b at bytes) ys w q in
          elim (put later x b s.value s.back s.then_) [
            | inl saw ↦ inl (saw_back es xs ys is (saw_back ys s.front s.back s.is saw))
            | inr upto ↦ inr upto
          ]
