-- A put of one block leaves what other inodes hold.
use Rattle.inodes_on_blocks.proofs.Vocabulary.{◌≡◌, ◌≢◌, ℕ, ◌+◌, ◌/◌, ◌%◌, ◌<◌, ◌≤◌, Bool, true, false, inl, inr, refl, sym, ◌∙◌, ap, subst, arith, List, ◌∷◌, get_or, length, zero, suc, Contains, Super, Dinode, dinode_at, bit_of, recovered, sizes_of, Node, put, inode_of, numbers_of, IsData, is_marked, UpToLog, same_or, eq_self, eq_not, put_same, put_other, NamesOwned, MarksBlocks, MarksNoOthers, IsPut, IsInodePut, IsBitPut, IsUntouched, LeavesOthers, IsLaidOut, IsSpare, Becomes, IsTaken, IsGivenBack, inodes_per_block}
use Rattle.inodes_on_blocks.specs.Puts.{inode_block}
use Rattle.inodes_on_blocks.proofs.HeldFrames.{laid_kept, system_put}

-- inodes are before the bitmap
pub before_bits : (disk : List (List ℕ)) (i : ℕ) → UpToLog disk → i < (sizes_of disk).ninodes → inode_block disk i < (sizes_of disk).bmapstart
before_bits disk i front bound = let inodes = front.0.0.1.1.inodes in omega (arith, inodes, bound)

module _ (disk new : List (List ℕ)) (b : ℕ) (put : IsPut disk new b) where
  pub other_inode : (i : ℕ) → b ≢ inode_block disk i → inode_of new i ≡ inode_of disk i
  unfolding inode_of
  other_inode i ne =
      ap (λ (s : Super). dinode_at (i % inodes_per_block) (recovered new (s.inodestart + i / inodes_per_block))) put.sizes
      ∙ ap (λ (block : List ℕ). dinode_at (i % inodes_per_block) block) (put.others (inode_block disk i) (λ e. ne (sym e)))

  same_bit : b ≢ (sizes_of disk).bmapstart → (c : ℕ) → is_marked new c ≡ is_marked disk c
  same_bit ne c =
      ap (λ (s : Super). bit_of (recovered new s.bmapstart) c) put.sizes
      ∙ ap (λ (block : List ℕ). bit_of block c) (put.others (sizes_of disk).bmapstart (λ e. ne (sym e)))

  -- no bit changes if the block isn't the bitmap
  marks_kept : (owner : ℕ → ℕ) → b ≢ (sizes_of disk).bmapstart → MarksBlocks disk owner → MarksBlocks new owner
  marks_kept owner ne marks = record {
    front = λ c l. same_bit ne c ∙ marks.front c (subst (λ (s : Super). c ≤ s.bmapstart) put.sizes l);
    owned = λ c block own. same_bit ne c ∙ marks.owned c (subst (λ (s : Super). IsData s c) put.sizes block) own;
  }

  others_kept : (owner : ℕ → ℕ) → b ≢ (sizes_of disk).bmapstart → (left : ℕ → Bool) → MarksNoOthers disk owner left → MarksNoOthers new owner left
  others_kept owner ne left marks = record {
    free = λ c block own. same_bit ne c ∙ marks.free c (subst (λ (s : Super). IsData s c) put.sizes block) own;
    apart = marks.apart;
  }

-- ---- a data block

pub data_leaves : (disk new : List (List ℕ)) (owner : ℕ → ℕ) (i b : ℕ) → UpToLog disk → IsData (sizes_of disk) b → owner b ≡ i → IsPut disk new b → LeavesOthers disk new owner owner i
data_leaves disk new owner i b front this own put =
    let past = this.0 in
    record {
      inodes = λ j low bound ne. record {
        sizes = put.sizes;
        inode = other_inode disk new b put j (λ e. let before = before_bits disk j front bound in absurd (omega (arith, e, before, past)));
        blocks = λ c block is. (put.others c (λ e. ne (sym is ∙ ap owner e ∙ own)), is);
        alone = λ c block is. is;
      };
      bits = marks_kept disk new b put owner (λ e. absurd (omega (arith, e, past)));
      no_others = others_kept disk new b put owner (λ e. absurd (omega (arith, e, past)));
    }

-- ---- an inode

module _ (disk new : List (List ℕ)) (i : ℕ) (d : Dinode) (put : IsInodePut disk new i d) where
  pub inode_is : inode_of new i ≡ d
  unfolding inode_of
  inode_is = ap (λ (s : Super). dinode_at (i % inodes_per_block) (recovered new (s.inodestart + i / inodes_per_block))) put.block.sizes
      ∙ put.this

  -- those in the same block are put as they were
  inode_stays : (j : ℕ) → j ≢ i → inode_of new j ≡ inode_of disk j
  unfolding inode_of
  inode_stays j ne = elim (same_or (inode_block disk i) (inode_block disk j)) [
    | inr apart ↦ other_inode disk new (inode_block disk i) put.block j apart
    | inl e ↦
        ap (λ (s : Super). dinode_at (j % inodes_per_block) (recovered new (s.inodestart + j / inodes_per_block))) put.block.sizes
        ∙ ap (λ (c : ℕ). dinode_at (j % inodes_per_block) (recovered new c)) (sym e)
        ∙ put.others (j % inodes_per_block) (omega arith) (λ r. ne (omega (arith, e, r)))
        ∙ ap (λ (c : ℕ). dinode_at (j % inodes_per_block) (recovered disk c)) e
  ]

pub inode_leaves : (disk new : List (List ℕ)) (owner : ℕ → ℕ) (i : ℕ) (d : Dinode) → UpToLog disk → i < (sizes_of disk).ninodes → IsInodePut disk new i d → LeavesOthers disk new owner owner i
inode_leaves disk new owner i d front bound put =
    let before = before_bits disk i front bound in
    record {
      inodes = λ j low _ ne. record {
        sizes = put.block.sizes;
        inode = inode_stays disk new i d put j ne;
        blocks = λ c block is. (put.block.others c (λ e. let past = block.0 in absurd (omega (arith, e, past, before))), is);
        alone = λ c block is. is;
      };
      bits = marks_kept disk new (inode_block disk i) put.block owner (λ e. absurd (omega (arith, e, before)));
      no_others = others_kept disk new (inode_block disk i) put.block owner (λ e. absurd (omega (arith, e, before)));
    }

-- ---- the bitmap

cons_has : (xs : List ℕ) (x b : ℕ) → Contains xs b → Contains (x ∷ xs) b
cons_has xs x b has = (suc has.0, (let l = has.1 in omega (arith, l)), has.2)

pub rest_has : (xs : List ℕ) (x b : ℕ) → x ≢ b → Contains (x ∷ xs) b → Contains xs b
rest_has xs x b ne has = rest xs has.0 has.1 has.2
  where
    rest : (xs : List ℕ) (k : ℕ) → k < length (x ∷ xs) → get_or (x ∷ xs) k b ≡ b → Contains xs b
    rest xs zero l e = absurd (ne e)
    rest xs (suc k) l e = (k, omega arith, e)

module _ (disk new : List (List ℕ)) (owner : ℕ → ℕ) (i b : ℕ) (front : UpToLog disk) (some : i ≢ 0) (this : IsData (sizes_of disk) b) where
  other_bit : (value : Bool) → IsBitPut disk new b value → (c : ℕ) → c ≢ b → is_marked new c ≡ is_marked disk c
  other_bit value put c ne = put.bits c ∙ (rw (eq_not c b ne) refl)

  own_bit : (value : Bool) → IsBitPut disk new b value → is_marked new b ≡ value
  own_bit value put = put.bits b ∙ (rw (eq_self b) refl)

  -- the bits, if the block has become that of an inode, or of none
  bits_then : (value : Bool) (j : ℕ) → IsBitPut disk new b value → (j ≢ 0 → value ≡ true) → MarksBlocks disk owner → MarksBlocks new (put owner b j)
  bits_then value j put' set marks = record {
    front = λ c l.
        let low : c ≤ (sizes_of disk).bmapstart = subst (λ (s : Super). c ≤ s.bmapstart) put'.block.sizes l in
        let past = this.0 in
        other_bit value put' c (λ e. absurd (omega (arith, e, low, past))) ∙ marks.front c low;
    owned = λ c block own. elim (same_or c b) [
      | inl e ↦
          let is : put owner b j c ≡ j = ap (put owner b j) e ∙ put_same owner b j in
          ap (is_marked new) e ∙ own_bit value put' ∙ set (λ z. own (is ∙ z))
      | inr ne ↦
          other_bit value put' c ne ∙ marks.owned c (subst (λ (s : Super). IsData s c) put'.block.sizes block) (λ z. own (put_other owner b j c ne ∙ z))
    ];
  }

  -- and no other bits, if its own is set just while it has an owner and it is none of those left over
  no_others_then : (value : Bool) (j : ℕ) → IsBitPut disk new b value → (j ≡ 0 → value ≡ false) → (left : ℕ → Bool) → left b ≡ false → MarksNoOthers disk owner left
      → MarksNoOthers new (put owner b j) left
  no_others_then value j put' clear left spare marks = record {
    free = λ c block own. elim (same_or c b) [
      | inl e ↦ ap (is_marked new) e ∙ own_bit value put' ∙ clear (sym (ap (put owner b j) e ∙ put_same owner b j) ∙ own) ∙ sym (ap left e ∙ spare)
      | inr ne ↦
          other_bit value put' c ne ∙ marks.free c (subst (λ (s : Super). IsData s c) put'.block.sizes block) (sym (put_other owner b j c ne) ∙ own)
    ];
    apart = λ c own. elim (same_or c b) [
      | inl e ↦ ap left e ∙ spare
      | inr ne ↦ marks.apart c (λ z. own (put_other owner b j c ne ∙ z))
    ];
  }

  -- a clear bit's block has no owner
  unmarked_free : MarksBlocks disk owner → is_marked disk b ≡ false → owner b ≡ 0
  unmarked_free marks clear = elim (same_or (owner b) 0) [
    | inl is ↦ is
    | inr ne ↦ absurd (let q : false ≡ true = sym clear ∙ marks.owned b this ne in cc)
  ]

  inodes_then : (value : Bool) (j g : ℕ) → IsBitPut disk new b value → 1 ≤ g → g < (sizes_of disk).ninodes → owner b ≢ g → j ≢ g → IsUntouched disk new owner (put owner b j) g
  inodes_then value j g put' low bound was now = record {
    sizes = put'.block.sizes;
    inode =
        other_inode disk new (sizes_of disk).bmapstart put'.block g
        (λ e. let before = before_bits disk g front bound in absurd (omega (arith, e, before)));
    blocks = λ c block is. (
      put'.block.others c (λ e. let past = block.0 in absurd (omega (arith, e, past))),
      put_other owner b j c (λ e. was (sym (ap owner e) ∙ is)) ∙ is,
    );
    alone = λ c block is. elim (same_or c b) [
      | inl e ↦ absurd (now (sym (ap (put owner b j) e ∙ put_same owner b j) ∙ is))
      | inr ne ↦ sym (put_other owner b j c ne) ∙ is
    ];
  }

  data_before : (put' : IsPut disk new (sizes_of disk).bmapstart) (c : ℕ) → IsData (sizes_of new) c → IsData (sizes_of disk) c
  data_before put' c block = subst (λ (s : Super). IsData s c) put'.sizes block

  taken_named : (put' : IsPut disk new (sizes_of disk).bmapstart) (numbers : List ℕ) → NamesOwned disk owner i numbers → NamesOwned new (put owner b i) i (b ∷ numbers)
  taken_named put' numbers named c block is = elim (same_or c b) [
    | inl e ↦ (0, omega arith, sym e)
    | inr ne ↦ cons_has numbers b c (named c (data_before put' c block) (sym (put_other owner b i c ne) ∙ is))
  ]

  -- what names it not keeps its blocks
  taken_keep : owner b ≡ 0 → (c : ℕ) → owner c ≡ i → put owner b i c ≡ i
  taken_keep free c own = put_other owner b i c (λ e. some (sym own ∙ ap owner e ∙ free)) ∙ own

  module _ (put' : IsPut disk new (sizes_of disk).bmapstart) (free : owner b ≡ 0) (d : Dinode) (v : Node) (h : IsLaidOut disk owner i d v) where
    before : Becomes disk new owner owner i d d v
    before = system_put disk new owner i (sizes_of disk).bmapstart d v h (omega arith) put'

    taken_laid : IsLaidOut new (put owner b i) i d v
    taken_laid =
        laid_kept new new owner (put owner b i) i d v refl (λ k z l ne. refl) (λ k z l ne. taken_keep free (get_or (numbers_of new d) k z) (before.laid.owned k z l ne).owner_is) before.laid

    taken_spare : IsSpare new (put owner b i) i d b
    taken_spare =
        let past = this.0 in
        record {
          owned = record { block = subst (λ (s : Super). IsData s b) (sym put'.sizes) this; owner_is = put_same owner b i };
          unnamed = λ k z l e. some (sym (before.laid.owned k z l (λ n. absurd (omega (arith, n, e, past)))).owner_is ∙ ap owner e ∙ free);
        }

    taken_more : NamesOwned disk owner i (numbers_of disk d) → NamesOwned new (put owner b i) i (b ∷ numbers_of new d)
    taken_more named = taken_named put' (numbers_of new d) (subst (NamesOwned disk owner i) (sym before.numbers) named)

  pub taken : MarksBlocks disk owner → is_marked disk b ≡ false → IsBitPut disk new b true → IsTaken disk new owner i b
  taken marks clear put' = let free : owner b ≡ 0 = unmarked_free marks clear in record {
    left = record {
      inodes = λ j low bound ne. inodes_then true i j put' low bound (λ e. absurd (omega (arith, e, free, low))) (λ e. ne (sym e));
      bits = bits_then true i put' (λ _. refl);
      no_others = λ left others. no_others_then true i put' (λ z. absurd (some z)) left (sym (others.free b this free) ∙ clear) others;
    };
    laid = taken_laid put'.block free;
    spare = taken_spare put'.block free;
    named = taken_more put'.block free;
  }

  pub given_back : owner b ≡ i → IsBitPut disk new b false → IsGivenBack disk new owner i b
  given_back own put' = record {
    left = record {
      inodes = λ j low bound ne. inodes_then false 0 j put' low bound (λ e. ne (sym e ∙ own)) (λ e. absurd (omega (arith, e, low)));
      bits = bits_then false 0 put' (λ ne. absurd (ne refl));
      no_others = λ left others. no_others_then false 0 put' (λ _. refl) left (others.apart b (λ z. some (sym own ∙ z))) others;
    };
    named = λ numbers named c block is. elim (same_or c b) [
      | inl e ↦ absurd (some (sym is ∙ ap (put owner b 0) e ∙ put_same owner b 0))
      | inr ne ↦ rest_has numbers b c (λ e. ne (sym e)) (named c (data_before put'.block c block) (sym (put_other owner b 0 c ne) ∙ is))
    ];
  }

-- 0 is no block
pub nothing_owed : (disk : List (List ℕ)) (owner : ℕ → ℕ) (i : ℕ) (numbers : List ℕ) → NamesOwned disk owner i (0 ∷ numbers) → NamesOwned disk owner i numbers
nothing_owed disk owner i numbers named c block is = rest_has numbers 0 c (λ e. let past = block.0 in absurd (omega (arith, e, past))) (named c block is)
