-- What is counted of the first inodes.
use Rattle.image_tree.proofs.Vocabulary.{◌≡◌, ◌∙◌, ap, sym, refl, subst, ℕ, suc, ◌+◌, ◌-◌, ◌*◌, ◌<◌, ◌≤◌, Bool, true, false, cond, not, List, length, filter, arith, length-append, ◌&&◌, Dinode, sizes_of, gathered, count_upto, inode_of, is_free, is_live, is_node, is_block, named_by, numbers_by, last, is_live_node, is_orphan, shape_of, Layout, IsLayout}
use Rattle.image_tree.proofs.Gathered.{gathered-more, gathered-none}
use Rattle.image_tree.proofs.EntryLemmas.{node_flag}

pub record ShapeUpto (disk : List (List ℕ)) (n live orphans blocks : ℕ) : Type 0 where
  pub live_is : live ≡ count_upto (is_live_node disk) n
  pub orphans_is : orphans ≡ count_upto (is_orphan disk) n
  pub blocks_is : blocks ≡ length (gathered (named_by disk) n)
  pub few_live : live ≤ n
  pub few_orphans : orphans ≤ n
  pub few_blocks : blocks ≤ 269 * n

count_upto-more : (p : ℕ → Bool) (i : ℕ) → 1 ≤ i → count_upto p (i + 1 - 1) ≡ count_upto p (i - 1) + cond (p i) 1 0
unfolding count_upto
count_upto-more p i h =
    let e : i + 1 - 1 ≡ suc (i - 1) = omega arith in
    let k : suc (i - 1) ≡ i = omega arith in
    ap (count_upto p) e ∙ ap (λ (k : ℕ). count_upto p (i - 1) + cond (p k) 1 0) k

count_upto-none : (p : ℕ → Bool) → count_upto p 0 ≡ 0
unfolding count_upto
count_upto-none p = refl

pub shape_none : (disk : List (List ℕ)) → ShapeUpto disk 0 0 0 0
shape_none disk = record {
  live_is = sym (count_upto-none (is_live_node disk));
  orphans_is = sym (count_upto-none (is_orphan disk));
  blocks_is = sym (ap length (gathered-none (named_by disk)));
  few_live = omega arith;
  few_orphans = omega arith;
  few_blocks = omega arith;
}

at_most_one : (b : Bool) → cond b 1 0 ≤ 1
at_most_one true = omega arith
at_most_one false = omega arith

pub shape_more : (disk now : List (List ℕ)) (layout : Layout) (i : ℕ) (d : Dinode) (shown numbers : List ℕ) (live orphans blocks a b c : ℕ) → IsLayout disk layout
    → 1 ≤ i → i < layout.sizes.ninodes → d ≡ inode_of disk i → now ≡ disk → shown ≡ numbers → numbers ≡ numbers_by now i → length shown ≤ 269
    → a ≡ cond (not (is_free d) && is_live d) 1 0 → b ≡ cond (not (is_free d) && not (is_live d)) 1 0 → c ≡ length (filter is_block shown) → c ≤ 269
    → ShapeUpto disk (i - 1) live orphans blocks → ShapeUpto disk (i + 1 - 1) (live + a) (orphans + b) (blocks + c)
shape_more disk now layout i d shown numbers live orphans blocks a b c h low bound e same s n short ea eb ec few t =
    let flag : not (is_free d) ≡ is_node disk i = node_flag disk layout i d h low bound e in
    let la : a ≡ cond (is_live_node disk i) 1 0 = ea ∙ ap (λ (f : Bool). cond (f && is_live d) 1 0) flag ∙ ap (λ (x : Dinode). cond (is_node disk i && is_live x) 1 0) e in
    let lb : b ≡ cond (is_orphan disk i) 1 0 = eb ∙ ap (λ (f : Bool). cond (f && not (is_live d)) 1 0) flag ∙ ap (λ (x : Dinode). cond (is_node disk i && not (is_live x)) 1 0) e in
    let own : filter is_block shown ≡ named_by disk i = ap (filter is_block) (s ∙ n ∙ ap (λ (x : List (List ℕ)). numbers_by x i) same) in
    let one_a : a ≤ 1 = subst (λ (k : ℕ). k ≤ 1) (sym la) (at_most_one (is_live_node disk i)) in
    let one_b : b ≤ 1 = subst (λ (k : ℕ). k ≤ 1) (sym lb) (at_most_one (is_orphan disk i)) in
    let fl = t.few_live in
    let fo = t.few_orphans in
    let fb = t.few_blocks in
    record {
      live_is = ap (λ (k : ℕ). k + a) t.live_is ∙ ap (λ (k : ℕ). count_upto (is_live_node disk) (i - 1) + k) la ∙ sym (count_upto-more (is_live_node disk) i low);
      orphans_is = ap (λ (k : ℕ). k + b) t.orphans_is ∙ ap (λ (k : ℕ). count_upto (is_orphan disk) (i - 1) + k) lb ∙ sym (count_upto-more (is_orphan disk) i low);
      blocks_is =
          ap (λ (k : ℕ). k + c) t.blocks_is ∙ ap (λ (k : ℕ). length (gathered (named_by disk) (i - 1)) + k) (ec ∙ ap length own)
          ∙ sym (length-append (gathered (named_by disk) (i - 1)) (named_by disk i)) ∙ sym (ap length (gathered-more (named_by disk) i low));
      few_live = omega arith;
      few_orphans = omega arith;
      few_blocks = omega arith;
    }

pub shape_told : (disk : List (List ℕ)) (layout : Layout) (i live orphans blocks : ℕ) → IsLayout disk layout → layout.sizes.ninodes ≡ i
    → ShapeUpto disk (i - 1) live orphans blocks
    → record { size = layout.sizes.size; ninodes = layout.sizes.ninodes; live = live; orphans = orphans; blocks = blocks } ≡ shape_of disk
shape_told disk layout i live orphans blocks h end t =
    let s = h.sizes in
    let e : i ≡ (sizes_of disk).ninodes = sym end ∙ rw s refl in
    let last_is : i - 1 ≡ last disk = ap (λ (k : ℕ). k - 1) e in
    rw (t.live_is, t.orphans_is, t.blocks_is, last_is, h.sizes) refl
