-- A write that ends for want of a block ends just before it.
use Rattle.run_laws.proofs.Vocabulary.{◌≡◌, ◌≢◌, ◌⊎◌, inl, inr, ◌<◌, ◌≤◌, ◌+◌, ◌-◌, ◌*◌, ◌/◌, ◌%◌, min, ℕ, zero, suc, ◌==◌, nat_lt, Bool, true, false, if◌then◌else◌, List, [], ◌∷◌, ◌++◌, length, Option, Some, None, refl, sym, ◌∙◌, ap, subst, arith, nat_tests, slice_index, length-drop, length-take, Dinode, Super, numbers_in, eq_self, Handover, Prog, Do, bind, unmarked, fetch, AnswerBelow as Answer, Op, Put, Address, Direct, InTable, Located, address, table_of, blocks_between, direct, WriteResult, front_of, locate, locate_at, located, look_up, name_direct, name_in_table, put_part, take_one, with_address, with_table, write_blocks, write_in, write_located, store_written, write_part, give_written, refused_in, write_unless, record_in, Carry, Cause, Wrote, Acts, none_between, some_between, AnsweredStep, ComesTo, HasRead, SawNoBlock, block_len}
use Rattle.std.proofs.Common.{drop, max}
use Rattle.std.proofs.lemmas.List.{get_or-set_other}
use Rattle.inode_machine.specs.World as above
use Rattle.run_laws.specs.ShortWrites.{EndsBeforeMissing, IsMissing, ShortWritesEndBeforeMissing}
use Rattle.run_laws.proofs.SearchEnds.{stored_upto}
use Rattle.run_laws.proofs.Searches.{at_lacks, fetched, next_count, read_back, read_front, saw_back, saw_front, split}
use Rattle.tree_laws.proofs.Maps.{eq_is}

-- ---- more steps round it

missing_front : (es xs ys : List AnsweredStep) → es ≡ xs ++ ys → (d : Dinode) (a : Address) → IsMissing xs d a → IsMissing es d a
missing_front es xs ys is d (Direct i) m = m
missing_front es xs ys is d (InTable i) (inl none) = inl none
missing_front es xs ys is d (InTable i) (inr m) = inr (m.0, read_front es xs ys (table_of d) m.0 is m.1, m.2)

missing_back : (es xs ys : List AnsweredStep) → es ≡ xs ++ ys → (d : Dinode) (a : Address) → IsMissing ys d a → IsMissing es d a
missing_back es xs ys is d (Direct i) m = m
missing_back es xs ys is d (InTable i) (inl none) = inl none
missing_back es xs ys is d (InTable i) (inr m) = inr (m.0, read_back es xs ys (table_of d) m.0 is m.1, m.2)

-- ---- a block of a content

-- the record has the numbers of all other blocks as before
abbrev KeepsOthers : Address → Dinode → Dinode → Type 0
KeepsOthers (Direct k) d e = (i : ℕ) → i ≢ k → slice_index e.addrs i ≡ slice_index d.addrs i
KeepsOthers (InTable k) d e =
    ((i : ℕ) → i ≢ direct → slice_index e.addrs i ≡ slice_index d.addrs i) × ((table_of d ≡ 0) ⊎ (table_of e ≡ table_of d))

keeps_same : (a : Address) (d e : Dinode) → e ≡ d → KeepsOthers a d e
keeps_same (Direct k) d e same = λ i ne. ap (λ (z : Dinode). slice_index z.addrs i) same
keeps_same (InTable k) d e same = ((λ i ne. ap (λ (z : Dinode). slice_index z.addrs i) same), inr (ap (λ (z : Dinode). table_of z) same))

located_is : (d : Dinode) (o : Option ℕ) (es : List AnsweredStep) (l : Located) → ComesTo {M = Acts} (located d o) es l
    → l ≡ record { inode = d; number = o }
located_is d o [] l c = sym c
located_is d o (e ∷ es) l c = absurd c

located_inode : (d : Dinode) (o : Option ℕ) (es : List AnsweredStep) (l : Located) → ComesTo {M = Acts} (located d o) es l → l.inode ≡ d
located_inode d o es l c = ap (λ (z : Located). z.inode) (located_is d o es l c)

-- a block that was found isn't missing
found : (d : Dinode) (b : ℕ) (es : List AnsweredStep) (l : Located) → ComesTo {M = Acts} (located d (Some b)) es l → l.number ≡ None → ⊥
found d b es l c none = let q : Some b ≡ None = sym (ap (λ (z : Located). z.number) (located_is d (Some b) es l c)) ∙ none in cc

module _ (sizes : Super) where
  -- in an indirect block: the record stays
  named_inode : (i : ℕ) (d : Dinode) (table : ℕ) (bytes : List ℕ) (o : Option ℕ) (es : List AnsweredStep) (l : Located)
      → ComesTo {M = Acts} (name_in_table i d table bytes o) es l → l.inode ≡ d
  named_inode i d table bytes None [] l c = absurd c
  named_inode i d table bytes None (e ∷ es) l c = located_inode d None es l c.2
  named_inode i d table bytes (Some b) [] l c = absurd c
  named_inode i d table bytes (Some b) (e ∷ es) l c = located_inode d (Some b) es l c.2

  looked_inode : (i : ℕ) (d : Dinode) (table : ℕ) (bytes : List ℕ) (es : List AnsweredStep) (l : Located)
      → ComesTo {M = Acts} (look_up sizes i d table bytes) es l → l.inode ≡ d
  looked_inode i d table bytes es l c = at (slice_index (numbers_in bytes) i == 0) es c
    where
      at : (b : Bool) (es : List AnsweredStep)
          → ComesTo {M = Acts} (if b then bind (take_one sizes) (name_in_table i d table bytes) else Do (Put table None) unmarked
          (λ _. located d (Some (slice_index (numbers_in bytes) i)))) es l
          → l.inode ≡ d
      at true es q =
          let s = split (take_one sizes) (name_in_table i d table bytes) es l q in
          named_inode i d table bytes s.value s.back l s.then_
      at false [] q = absurd q
      at false (x ∷ es) q = located_inode d (Some (slice_index (numbers_in bytes) i)) es l q.2

  -- there the number is 0
  looked_none : (i : ℕ) (d : Dinode) (table : ℕ) (bytes : List ℕ) (es : List AnsweredStep) (l : Located)
      → ComesTo {M = Acts} (look_up sizes i d table bytes) es l → l.number ≡ None → slice_index (numbers_in bytes) i ≡ 0
  looked_none i d table bytes es l c none = at (slice_index (numbers_in bytes) i == 0) refl es c
    where
      at : (b : Bool) → (slice_index (numbers_in bytes) i == 0) ≡ b → (es : List AnsweredStep)
          → ComesTo {M = Acts} (if b then bind (take_one sizes) (name_in_table i d table bytes) else Do (Put table None) unmarked
          (λ _. located d (Some (slice_index (numbers_in bytes) i)))) es l
          → slice_index (numbers_in bytes) i ≡ 0
      at true is es q = eq_is (slice_index (numbers_in bytes) i) 0 is
      at false is [] q = absurd q
      at false is (x ∷ es) q = absurd (found d (slice_index (numbers_in bytes) i) es l q.2 none)

  direct_keeps : (k : ℕ) (d : Dinode) (o : Option ℕ) (es : List AnsweredStep) (l : Located) → ComesTo {M = Acts} (name_direct k d o) es l
      → KeepsOthers (Direct k) d l.inode
  direct_keeps k d None es l c = keeps_same (Direct k) d l.inode (located_inode d None es l c)
  direct_keeps k d (Some b) es l c = λ i ne.
      ap (λ (z : Dinode). slice_index z.addrs i) (located_inode (with_address k b d) (Some b) es l c)
      ∙ get_or-set_other d.addrs k i b 0 ne

  table_keeps : (k : ℕ) (d : Dinode) → table_of d ≡ 0 → (o : Option ℕ) (es : List AnsweredStep) (l : Located)
      → ComesTo {M = Acts} (with_table sizes k d o) es l → KeepsOthers (InTable k) d l.inode
  table_keeps k d none None es l c = keeps_same (InTable k) d l.inode (located_inode d None es l c)
  table_keeps k d none (Some table) es l c =
      let new : Dinode = with_address direct table d in
      let s = split (fetch table) (look_up sizes k new table) es l c in
      let same = looked_inode k new table s.value s.back l s.then_ in
      ((λ i ne. ap (λ (z : Dinode). slice_index z.addrs i) same ∙ get_or-set_other d.addrs direct i table 0 ne), inl none)

  keeps_at : (d : Dinode) (a : Address) (es : List AnsweredStep) (l : Located) → ComesTo {M = Acts} (locate_at sizes d a) es l
      → KeepsOthers a d l.inode
  keeps_at d (Direct k) es l c = at (slice_index d.addrs k == 0) c
    where
      at : (b : Bool) → ComesTo {M = Acts} (if b then bind (take_one sizes) (name_direct k d) else located d
          (Some (slice_index d.addrs k))) es l → KeepsOthers (Direct k) d l.inode
      at true q = let s = split (take_one sizes) (name_direct k d) es l q in direct_keeps k d s.value s.back l s.then_
      at false q = keeps_same (Direct k) d l.inode (located_inode d (Some (slice_index d.addrs k)) es l q)
  keeps_at d (InTable k) es l c = at (table_of d == 0) refl c
    where
      at : (b : Bool) → (table_of d == 0) ≡ b → ComesTo {M = Acts} (if b then bind (take_one sizes) (with_table sizes k d) else bind
          (fetch (table_of d)) (look_up sizes k d (table_of d))) es l → KeepsOthers (InTable k) d l.inode
      at true is q =
          let s = split (take_one sizes) (with_table sizes k d) es l q in
          table_keeps k d (eq_is (table_of d) 0 is) s.value s.back l s.then_
      at false is q =
          let s = split (fetch (table_of d)) (look_up sizes k d (table_of d)) es l q in
          keeps_same (InTable k) d l.inode (looked_inode k d (table_of d) s.value s.back l s.then_)

  missing_at : (d : Dinode) (a : Address) (es : List AnsweredStep) (l : Located) → ComesTo {M = Acts} (locate_at sizes d a) es l
      → l.number ≡ None → IsMissing es d a
  missing_at d (Direct k) es l c none = at (slice_index d.addrs k == 0) refl c
    where
      at : (b : Bool) → (slice_index d.addrs k == 0) ≡ b
          → ComesTo {M = Acts} (if b then bind (take_one sizes) (name_direct k d) else located d (Some (slice_index d.addrs k))) es l
          → slice_index d.addrs k ≡ 0
      at true is q = eq_is (slice_index d.addrs k) 0 is
      at false is q = absurd (found d (slice_index d.addrs k) es l q none)
  missing_at d (InTable k) es l c none = at (table_of d == 0) refl c
    where
      at : (b : Bool) → (table_of d == 0) ≡ b → ComesTo {M = Acts} (if b then bind (take_one sizes) (with_table sizes k d) else bind
          (fetch (table_of d)) (look_up sizes k d (table_of d))) es l → IsMissing es d (InTable k)
      at true is q = inl (eq_is (table_of d) 0 is)
      at false is q =
          let s = split (fetch (table_of d)) (look_up sizes k d (table_of d)) es l q in
          inr (
            s.value,
            read_front es s.front s.back (table_of d) s.value s.is (fetched (table_of d) s.front s.value s.first),
            looked_none k d (table_of d) s.value s.back l s.then_ none,
          )

-- ---- the record so far

-- from block k on it has the numbers that it had
record IsAsBefore (old new : Dinode) (k : ℕ) : Type 0 where
  own : (i : ℕ) → k ≤ i → i < direct → slice_index new.addrs i ≡ slice_index old.addrs i
  table : (table_of old ≡ 0) ⊎ (table_of new ≡ table_of old)

was_missing : (es : List AnsweredStep) (old new : Dinode) (k : ℕ) → IsAsBefore old new k → IsMissing es new (address k)
    → IsMissing es old (address k)
was_missing es old new k was m = by (nat_lt k direct) refl m
  where
    in_table : (table_of old ≡ 0) ⊎ (table_of new ≡ table_of old) → IsMissing es new (InTable (k - direct))
        → IsMissing es old (InTable (k - direct))
    in_table (inl none) m = inl none
    in_table (inr same) (inl none) = inl (sym same ∙ none)
    in_table (inr same) (inr m) = inr (m.0, subst (λ (b : ℕ). HasRead es b m.0) same m.1, m.2)

    by : (b : Bool) → nat_lt k direct ≡ b → IsMissing es new (if b then Direct k else InTable (k - direct))
        → IsMissing es old (if b then Direct k else InTable (k - direct))
    by true low m = sym (was.own k (omega arith) (grind (arith, nat_tests, low))) ∙ m
    by false high m = in_table was.table m

goes_on : (old new e : Dinode) (k : ℕ) → IsAsBefore old new k → KeepsOthers (address k) new e → IsAsBefore old e (k + 1)
goes_on old new e k was keeps = by (nat_lt k direct) refl keeps
  where
    in_table : (table_of old ≡ 0) ⊎ (table_of new ≡ table_of old) → (table_of new ≡ 0) ⊎ (table_of e ≡ table_of new)
        → (table_of old ≡ 0) ⊎ (table_of e ≡ table_of old)
    in_table (inl none) then_ = inl none
    in_table (inr same) (inl none) = inl (sym same ∙ none)
    in_table (inr same) (inr stays) = inr (stays ∙ same)

    by : (b : Bool) → nat_lt k direct ≡ b → KeepsOthers (if b then Direct k else InTable (k - direct)) new e → IsAsBefore old e (k + 1)
    by true is keeps =
        let low : k < direct = grind (arith, nat_tests, is) in
        record {
          own = λ i from below. keeps i (λ q. absurd (omega (arith, from, q))) ∙ was.own i (omega (arith, from)) below;
          table = in_table was.table (inr (keeps direct (λ q. absurd (omega (arith, low, q)))));
        }
    by false is keeps = record {
      own = λ i from below. keeps.0 i (λ q. absurd (omega (arith, below, q))) ∙ was.own i (omega (arith, from)) below;
      table = in_table was.table keeps.1;
    }

-- ---- bytes written

module _ (sizes : Super) (old : Dinode) where
  -- they end before a block that was missing
  record Ends (es : List AnsweredStep) (at : ℕ) (bytes : List ℕ) (upto : ℕ) : Type 0 where
    block : ℕ
    reached : at < block_len * (block + 1)
    before : upto ≡ max at (block_len * block)
    fewer : upto < at + length bytes
    missing : IsMissing es old (address block)
    none : SawNoBlock sizes es

  ends_behind : (es xs ys : List AnsweredStep) → es ≡ xs ++ ys → (at : ℕ) (bytes : List ℕ) (upto : ℕ) → Ends ys at bytes upto
      → Ends es at bytes upto
  ends_behind es xs ys is at bytes upto e = record {
    block = e.block;
    reached = e.reached;
    before = e.before;
    fewer = e.fewer;
    missing = missing_back es xs ys is old (address e.block) e.missing;
    none = saw_back sizes es xs ys is e.none;
  }

  ends : (n at : ℕ) (bytes : List ℕ) (d : Dinode) (k : ℕ) (es : List AnsweredStep) (w : WriteResult)
      → n ≡ blocks_between at (at + length bytes) → (0 < n → k ≡ at / block_len) → IsAsBefore old d k
      → ComesTo {M = Acts} (write_blocks n sizes at bytes d) es w
      → Ends es at bytes w.upto ⊎ (w.upto ≡ at + length bytes)
  unfolding write_blocks
  ends zero at bytes d k [] w is first was c =
      inr (let none : at + length bytes ≤ at = none_between at (at + length bytes) is in
      let all : at ≡ at + length bytes = omega (arith, none) in
      sym (ap (λ (z : WriteResult). z.upto) c) ∙ all)
  ends zero at bytes d k (e ∷ es) w is first was c = absurd c
  ends (suc n) at bytes d k es w is first was c =
      let s = split (locate sizes d (at / block_len)) (write_located more at bytes) es w c in
      by (λ x ys was_then. ends n (at + f) (drop f bytes) x (at / block_len + 1) ys w counts next was_then) s.value.inode s.value.number
      s.front s.back
      (λ none. (
        at_lacks sizes d (address (at / block_len)) s.front s.value s.first none,
        was_missing s.front old d (at / block_len) here (missing_at sizes d (address (at / block_len)) s.front s.value s.first none),
      ))
      (goes_on old d s.value.inode (at / block_len) here (keeps_at sizes d (address (at / block_len)) s.front s.value s.first))
      s.is s.then_
    where
      f : ℕ
      f = length (front_of at bytes)

      here : IsAsBefore old d (at / block_len)
      here = subst (λ (z : ℕ). IsAsBefore old d z) (first (omega arith)) was

      more : Dinode → Prog Op Answer Acts WriteResult
      more = write_blocks n sizes (at + length (front_of at bytes)) (drop (length (front_of at bytes)) bytes)

      some : at < at + length bytes
      some = some_between n at (at + length bytes) is

      part : f ≡ min (block_len - at % block_len) (length bytes)
      part = length-take (block_len - at % block_len) bytes

      rest : length (drop f bytes) ≡ length bytes - f
      rest = length-drop f bytes

      counts : n ≡ blocks_between (at + f) ((at + f) + length (drop f bytes))
      counts = next_count sizes n at (length bytes) f is part ∙ ap (λ (z : ℕ). blocks_between (at + f) ((at + f) + z)) (sym rest)

      -- if more bytes come, the block was filled
      next : 0 < n → at / block_len + 1 ≡ (at + f) / block_len
      next pos =
          let one : suc (n - 1) ≡ n = omega (arith, pos) in
          let left = some_between (n - 1) (at + f) ((at + f) + length (drop f bytes)) (one ∙ counts) in
          omega (arith, left, rest, part)

      whole : (at + f) + length (drop f bytes) ≡ at + length bytes
      whole = omega (arith, part, rest)

      Later : Type 0
      Later = (x : Dinode) (ys : List AnsweredStep) → IsAsBefore old x (at / block_len + 1) → ComesTo (more x) ys w
          → Ends ys (at + f) (drop f bytes) w.upto ⊎ (w.upto ≡ (at + f) + length (drop f bytes))

      on : (es : List AnsweredStep) → Ends es (at + f) (drop f bytes) w.upto → Ends es at bytes w.upto
      on es e =
          let b = e.before in
          let l = e.fewer in
          let r = e.reached in
          record {
            block = e.block;
            reached = omega (arith, r);
            before = omega (arith, b, l, r, rest, part);
            fewer = omega (arith, l, whole);
            missing = e.missing;
            none = e.none;
          }

      put : Later → (x : Dinode) → IsAsBefore old x (at / block_len + 1) → (b : ℕ) (block : List ℕ) (ys : List AnsweredStep)
          → ComesTo (put_part (more x) b at bytes block) ys w → Ends ys at bytes w.upto ⊎ (w.upto ≡ at + length bytes)
      put later x was_then b block [] q = absurd q
      put later x was_then b block (y ∷ ys) q = elim (later x ys was_then q.2) [
        | inl e ↦ inl (ends_behind (y ∷ ys) (y ∷ []) ys refl at bytes w.upto (on ys e))
        | inr upto ↦ inr (upto ∙ whole)
      ]

      by : Later → (x : Dinode) (o : Option ℕ) (xs ys : List AnsweredStep)
          → (o ≡ None → SawNoBlock sizes xs × IsMissing xs old (address (at / block_len))) → IsAsBefore old x (at / block_len + 1)
          → es ≡ xs ++ ys → ComesTo (write_in more at bytes x o) ys w → Ends es at bytes w.upto ⊎ (w.upto ≡ at + length bytes)
      by later x None xs [] lacks was_then is q =
          let none = lacks refl in
          let upto : at ≡ w.upto = ap (λ (z : WriteResult). z.upto) q in
          inl (record {
            block = at / block_len;
            reached = omega arith;
            before = omega (arith, upto);
            fewer = omega (arith, upto, some);
            missing = missing_front es xs [] is old (address (at / block_len)) none.1;
            none = saw_front sizes es xs [] is none.0;
          })
      by later x None xs (y ∷ ys) lacks was_then is q = absurd q
      by later x (Some b) xs ys lacks was_then is q =
          let s = split (fetch b) (put_part (more x) b at bytes) ys w q in
          elim (put later x was_then b s.value s.back s.then_) [
            | inl e ↦ inl (ends_behind es xs ys is at bytes w.upto (ends_behind ys s.front s.back s.is at bytes w.upto e))
            | inr upto ↦ inr upto
          ]

-- ---- a piece of a file

module _ (sizes : Super) (fd n offset : ℕ) (bytes : List ℕ) (c : Carry) (m : Wrote → Option above.Mark) where
  abbrev d : Dinode
  d = record_in c n

  gave : (es ys : List AnsweredStep) (v : WriteResult) (r : Handover Wrote Carry) (count : ℕ)
      → Ends sizes d es offset bytes v.upto ⊎ (v.upto ≡ offset + length bytes)
      → ComesTo (give_written fd n offset bytes m c v) ys r → r.answer ≡ above.Short count
      → EndsBeforeMissing sizes es d offset bytes count
  gave es [] v r count came q short = absurd q
  gave es (y ∷ x ∷ ys) v r count came q short = absurd q.2
  gave es (y ∷ []) v r count came q short =
      at (v.upto == offset + length bytes) refl (ap (λ (z : Handover Wrote Carry). z.answer) q.2 ∙ short)
    where
      count_of : Wrote → ℕ
      count_of above.Whole = 0
      count_of (above.Refused why) = 0
      count_of (above.Short k) = k

      at : (b : Bool) → (v.upto == offset + length bytes) ≡ b
          → (if b then above.Whole else above.Short (v.upto - offset)) ≡ above.Short count → EndsBeforeMissing sizes es d offset bytes count
      at true is e = absurd (let z : above.Whole ≡ above.Short count = e in cc)
      at false is e = elim came [
        | inl k ↦ (
            let many : v.upto - offset ≡ count = ap count_of e in
            let b = k.before in
            let l = k.fewer in
            record {
              block = k.block;
              reached = k.reached;
              before = omega (arith, many, b);
              fewer = omega (arith, many, b, l);
              missing = k.missing;
              none = k.none;
            }
            )
        | inr upto ↦ absurd (
            let whole : (v.upto == offset + length bytes) ≡ true =
            ap (λ (z : ℕ). z == offset + length bytes) upto ∙ eq_self (offset + length bytes) in
            let z : true ≡ false = sym whole ∙ is in
            cc)
      ]

  refused_or : (o : Option Cause) (es : List AnsweredStep) (r : Handover Wrote Carry) (count : ℕ)
      → ComesTo (write_unless sizes fd n offset bytes m c o) es r → r.answer ≡ above.Short count
      → EndsBeforeMissing sizes es d offset bytes count
  refused_or (Some why) [] r count q short = absurd q
  refused_or (Some why) (y ∷ x ∷ ys) r count q short = absurd q.2
  refused_or (Some why) (y ∷ []) r count q short =
      absurd (let z : above.Refused why ≡ above.Short count = ap (λ (z : Handover Wrote Carry). z.answer) q.2 ∙ short in cc)
  refused_or None es r count q short =
      let blocks : ℕ = blocks_between offset (offset + length bytes) in
      let s = split (write_part sizes n d offset bytes) (give_written fd n offset bytes m c) es r q in
      let t = split (write_blocks blocks sizes offset bytes d) (store_written sizes n) s.front s.value s.first in
      let came = ends sizes d blocks offset bytes d (offset / block_len) t.front t.value refl (λ _. refl)
      (record { own = λ i from below. refl; table = inr refl }) t.first in
      gave es s.back s.value r count
      (whole es s.front s.back s.is t.front t.back t.is s.value.upto t.value.upto
      (stored_upto sizes fd n offset bytes c m t.value s.value t.back t.then_) came)
      s.then_ short
    where
      whole : (es xs ys : List AnsweredStep) → es ≡ xs ++ ys → (us vs : List AnsweredStep) → xs ≡ us ++ vs → (upto from : ℕ) → upto ≡ from
          → Ends sizes d us offset bytes from ⊎ (from ≡ offset + length bytes)
          → Ends sizes d es offset bytes upto ⊎ (upto ≡ offset + length bytes)
      whole es xs ys is us vs is_then upto from same (inr all) = inr (same ∙ all)
      whole es xs ys is us vs is_then upto from same (inl e) =
          subst (λ (z : ℕ). Ends sizes d es offset bytes z ⊎ (z ≡ offset + length bytes)) (sym same)
          (inl (record {
            block = e.block;
            reached = e.reached;
            before = e.before;
            fewer = e.fewer;
            missing = missing_front es xs ys is d (address e.block) (missing_front xs us vs is_then d (address e.block) e.missing);
            none = saw_front sizes es xs ys is (saw_front sizes xs us vs is_then e.none);
          }))

pub short_writes_end : ShortWritesEndBeforeMissing
short_writes_end sizes c fd n offset count bytes m es r q short =
    refused_or sizes fd n offset bytes c m (refused_in (record_in c n) offset bytes) es r count q short
