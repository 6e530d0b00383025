-- A node without a name, freed by a put of two blocks; and one such node after the other.
use Rattle.image_tree.proofs.Vocabulary.{Version, ◌≡◌, ◌≢◌, ◌⊎◌, inl, inr, ℕ, ◌+◌, ◌/◌, ◌%◌, ◌<◌, ◌≤◌, ◌&&◌, not, nat_lt, Bool, true, false, if◌then◌else◌, List, [], refl, sym, ◌∙◌, ap, subst, arith, All, cases_eq, and_parts, false≢true, Super, Dinode, bit_of, dinode_at, sizes_of, recovered, nat_tests, inode_of, is_free, is_live, is_node, numbers_by, numbers_of, HasGoodNumbers, IsData, is_marked, UpToLog, IsWellFormed, is_orphan, tree_in, IsViewOf, AreFreed, AreNamed, HasPlace, IsElsewhere, IsFreedAlone, IsPut, IsReclaimed, freed_inode, ◌-◌, inodes_per_block}
use Rattle.image_tree.proofs.Nodes.{both_from, node_is}
use Rattle.image_tree.proofs.Views.{checks_see_recovered, trees_see_recovered, inode_same, node_same}
use Rattle.image_tree.proofs.Contents.{pick, InRange, ranged, used_good, numbers_same}
use Rattle.image_tree.proofs.Freed.{freed_nodes_leave_images, by_same, orphan_other, orphan_gone}
use Rattle.image_tree.proofs.Puts.{good_super, behind_log}

-- an inode of the image has a place before the bitmap
pub place_of_inode : (v : Version) (d : List (List ℕ)) (j : ℕ) → UpToLog v d → j < (sizes_of d).ninodes → HasPlace (sizes_of d) j
place_of_inode v d j good lt = let g = good_super v d good in let n = g.inodes in omega (arith, n, lt)

module _ (v : Version) (d e : List (List ℕ)) (i : ℕ) (bitmap inodes : List ℕ) (put : IsPut v d e ((sizes_of d).inodestart + i / inodes_per_block) bitmap inodes) (good : UpToLog v d) (bound : i < (sizes_of d).ninodes) where
  home : ℕ
  home = (sizes_of d).inodestart + i / inodes_per_block

  kept_inode : (j : ℕ) → ((q : ℕ) → q < inodes_per_block → q ≢ i % inodes_per_block → dinode_at q inodes ≡ dinode_at q (recovered d ((sizes_of d).inodestart + i / inodes_per_block)))
      → j ≢ i → HasPlace (sizes_of d) j → inode_of e j ≡ inode_of d j
  unfolding inode_of
  kept_inode j others ne place =
      ap (λ (s : Super). dinode_at (j % inodes_per_block) (recovered e (s.inodestart + j / inodes_per_block))) put.sizes
      ∙ elim (cases_eq (j / inodes_per_block) (i / inodes_per_block)) [
        | inl q ↦
            let block : (sizes_of d).inodestart + j / inodes_per_block ≡ (sizes_of d).inodestart + i / inodes_per_block = ap (λ (k : ℕ). (sizes_of d).inodestart + k) q in
            ap (λ (b : ℕ). dinode_at (j % inodes_per_block) (recovered e b)) block
            ∙ ap (λ (bytes : List ℕ). dinode_at (j % inodes_per_block) bytes) put.inodes_are
            ∙ others (j % inodes_per_block) (omega arith) (λ r. ne (omega (arith, q, r)))
            ∙ ap (λ (b : ℕ). dinode_at (j % inodes_per_block) (recovered d b)) (sym block)
        | inr apart ↦
            ap (λ (bytes : List ℕ). dinode_at (j % inodes_per_block) bytes)
            (put.others ((sizes_of d).inodestart + j / inodes_per_block)
            (behind_log v d ((sizes_of d).inodestart + j / inodes_per_block) good (omega arith))
            (λ x. absurd (omega (arith, x, place))) (λ x. apart (omega (arith, x))))
      ]

  kept_data : (b : ℕ) → (b ≡ 0) ⊎ IsData (sizes_of d) b → recovered e b ≡ recovered d b
  kept_data b which =
      let g = good_super v d good in let n = g.inodes in let s = g.logstart in let l = g.log in
      elim which [
        | inl z ↦ put.others b (inl (omega (arith, z, s))) (λ x. absurd (omega (arith, x, z, n, s, l))) (λ x. absurd (omega (arith, x, z, s, l)))
        | inr is ↦
            let past = is.0 in
            put.others b (behind_log v d b good (omega (arith, past, n))) (λ x. absurd (omega (arith, x, past))) (λ x. absurd (omega (arith, x, past, n, bound)))
      ]

  marked_by : (b : ℕ) → is_marked e b ≡ bit_of bitmap b
  marked_by b = ap (λ (s : Super). bit_of (recovered e s.bmapstart) b) put.sizes ∙ ap (λ (bytes : List ℕ). bit_of bytes b) put.bitmap_is

  node_in : inode_of e i ≡ dinode_at (i % inodes_per_block) inodes
  unfolding inode_of
  node_in = ap (λ (s : Super). dinode_at (i % inodes_per_block) (recovered e (s.inodestart + i / inodes_per_block))) put.sizes ∙ ap (λ (bytes : List ℕ). dinode_at (i % inodes_per_block) bytes) put.inodes_are

  kept_elsewhere : (b : ℕ) → IsElsewhere (sizes_of d) b → recovered e b ≡ recovered d b
  kept_elsewhere b out =
      let g = good_super v d good in let n = g.inodes in
      put.others b out.0
      (λ x. elim out.1 [ inl low ↦ absurd (omega (arith, x, low, n)) | inr high ↦ absurd (omega (arith, x, high)) ])
      (λ x. elim out.1 [ inl low ↦ absurd (omega (arith, x, low)) | inr high ↦ absurd (omega (arith, x, high, n, bound)) ])

  pub freed_put : dinode_at (i % inodes_per_block) inodes ≡ freed_inode (inode_of d i)
      → ((q : ℕ) → q < inodes_per_block → q ≢ i % inodes_per_block
      → dinode_at q inodes ≡ dinode_at q (recovered d ((sizes_of d).inodestart + i / inodes_per_block)))
      → All (λ b. b ≢ 0 → bit_of bitmap b ≡ false) (numbers_by d i)
      → ((b : ℕ) → All (λ c. c ≢ 0 → c ≢ b) (numbers_by d i) → bit_of bitmap b ≡ is_marked d b)
      → ((b : ℕ) → is_marked d b ≡ false → bit_of bitmap b ≡ false) → IsFreedAlone v d e i
  freed_put node others cleared kept fewer = record {
    freed = record {
      sizes = put.sizes;
      good = put.good;
      kind = ap (λ (x : Dinode). x.kind) (node_in ∙ node);
      inodes = λ j ne lt. kept_inode j others ne (place_of_inode v d j good lt);
      contents = kept_data;
      cleared = λ k z lt ne. marked_by _ ∙ cleared k z lt ne;
      kept = λ b all. marked_by b ∙ kept b all;
      fewer = λ b none. marked_by b ∙ fewer b none;
    };
    node = node_in ∙ node;
    inodes = λ j ne place. kept_inode j others ne place;
    others = kept_elsewhere;
  }

-- ---- what a disk is after a call

-- well formed, with these sizes and this tree
pub record IsImageOf (v : Version) (d e : List (List ℕ)) : Type 0 where
  pub sizes : sizes_of e ≡ sizes_of d
  pub well : IsWellFormed v e
  pub tree : tree_in v e ≡ tree_in v d

pub either_image : (v : Version) (d e : List (List ℕ)) (i : ℕ) → IsWellFormed v d → is_orphan d i ≡ true → IsViewOf v d e ⊎ IsFreedAlone v d e i → IsImageOf v d e
either_image v d e i well orphan may = elim may [
  | inl view ↦ record { sizes = view.sizes; well = checks_see_recovered v d e view well; tree = trees_see_recovered v d e view well }
  | inr alone ↦ let both = freed_nodes_leave_images v d e i orphan alone.freed well in record { sizes = alone.freed.sizes; well = both.0; tree = both.1 }
]

-- ---- the inodes below one have been handled

pub record ReclaimedTo (d e : List (List ℕ)) (i : ℕ) : Type 0 where
  pub none : (k : ℕ) → 1 ≤ k → k < i → is_orphan e k ≡ false
  pub freed : (k : ℕ) → 1 ≤ k → k < i → is_orphan d k ≡ true → All (λ b. b ≢ 0 → is_marked e b ≡ false) (numbers_by d k)
  pub rest : (k : ℕ) → i ≤ k → k < (sizes_of d).ninodes → (is_orphan e k ≡ is_orphan d k) × (numbers_by e k ≡ numbers_by d k)
  pub same : ((k : ℕ) → 1 ≤ k → k < i → is_orphan d k ≡ false) → e ≡ d
  pub nodes : (k : ℕ) → 1 ≤ k → k < i → is_orphan d k ≡ true → inode_of e k ≡ freed_inode (inode_of d k)
  pub inodes : (k : ℕ) → (1 ≤ k → k < i → is_orphan d k ≡ false) → HasPlace (sizes_of d) k → inode_of e k ≡ inode_of d k
  pub kept : (b : ℕ) → ((k : ℕ) → 1 ≤ k → k < i → is_orphan d k ≡ true → All (λ c. c ≢ 0 → c ≢ b) (numbers_by d k)) → is_marked e b ≡ is_marked d b
  pub others : (b : ℕ) → IsElsewhere (sizes_of d) b → recovered e b ≡ recovered d b

pub reclaimed_first : (d : List (List ℕ)) → ReclaimedTo d d 1
reclaimed_first d = record {
  none = λ k low lt. absurd (omega (arith, low, lt));
  freed = λ k low lt. absurd (omega (arith, low, lt));
  rest = λ k low lt. (refl, refl);
  same = λ all. refl;
  nodes = λ k low lt. absurd (omega (arith, low, lt));
  inodes = λ k none place. refl;
  kept = λ b none. refl;
  others = λ b out. refl;
}

log_good : (v : Version) (d : List (List ℕ)) → IsWellFormed v d → UpToLog v d
log_good v d well = (let a = well.0 in let b = a.0 in let c = b.0 in let f = c.0 in let g = f.0 in let h = g.0 in let i = h.0 in let j = i.0 in j.0)

pub reclaimed_next : (v : Version) (d e n : List (List ℕ)) (i : ℕ) → sizes_of e ≡ sizes_of d → IsWellFormed v e → 1 ≤ i → i < (sizes_of d).ninodes
    → ReclaimedTo d e i → IsReclaimed v e n i → ReclaimedTo d n (i + 1)
reclaimed_next v d e n i sizes well low high to done = elim done [
  | inl was ↦ subst (λ (x : List (List ℕ)). ReclaimedTo d x (i + 1)) (sym was.1) (record {
    none = λ k lo lt. elim (cases_eq k i) [ inl q ↦ ap (is_orphan e) q ∙ was.0 | inr ne ↦ to.none k lo (omega (arith, lt, ne)) ];
    freed = λ k lo lt orphan. elim (cases_eq k i) [
      | inl q ↦ absurd (false≢true (sym was.0 ∙ (to.rest i (omega arith) high).0 ∙ ap (is_orphan d) (sym q) ∙ orphan))
      | inr ne ↦ to.freed k lo (omega (arith, lt, ne)) orphan
    ];
    rest = λ k le lt. to.rest k (omega (arith, le)) lt;
    same = λ all. to.same (λ k lo lt. all k lo (omega (arith, lt)));
    nodes = λ k lo lt orphan. elim (cases_eq k i) [
      | inl q ↦ absurd (false≢true (sym was.0 ∙ (to.rest i (omega arith) high).0 ∙ ap (is_orphan d) (sym q) ∙ orphan))
      | inr ne ↦ to.nodes k lo (omega (arith, lt, ne)) orphan
    ];
    inodes = λ k none place. to.inodes k (λ lo lt. none lo (omega (arith, lt))) place;
    kept = λ b none. to.kept b (λ k lo lt orphan. none k lo (omega (arith, lt)) orphan);
    others = to.others;
  })
  | inr was ↦
      let alone = was.1 in
      let f = alone.freed in
      let good : UpToLog v e = log_good v e well in
      let in_place : (k : ℕ) → HasPlace (sizes_of d) k → HasPlace (sizes_of e) k = (λ k place. subst (λ (s : Super). HasPlace s k) (sym sizes) place) in
      let here = to.rest i (omega arith) high in
      let in_e : (k : ℕ) → k < (sizes_of d).ninodes → k < (sizes_of e).ninodes = (λ k lt. subst (λ (s : Super). k < s.ninodes) (sym sizes) lt) in
      record {
        none = λ k lo lt. elim (cases_eq k i) [
          | inl q ↦ ap (is_orphan n) q ∙ orphan_gone v e n i was.0 f well
          | inr ne ↦ orphan_other v e n i was.0 f well k ne (in_e k (omega (arith, lt, high))) ∙ to.none k lo (omega (arith, lt, ne))
        ];
        freed = λ k lo lt orphan. elim (cases_eq k i) [
          | inl q ↦ subst (λ (j : ℕ). All (λ b. b ≢ 0 → is_marked n b ≡ false) (numbers_by d j)) (sym q) (subst (λ (l : List ℕ). All (λ b. b ≢ 0 → is_marked n b ≡ false) l) here.1 f.cleared)
          | inr ne ↦ λ p z l nz. f.fewer _ (to.freed k lo (omega (arith, lt, ne)) orphan p z l nz)
        ];
        rest = λ k le lt.
            let was_rest = to.rest k (omega (arith, le)) lt in
            let ne : k ≢ i = (λ q. absurd (omega (arith, le, q))) in (
              orphan_other v e n i was.0 f well k ne (in_e k lt) ∙ was_rest.0,
              by_same v e n i was.0 f well k (record { low = omega (arith, low, le); high = in_e k lt }) ne ∙ was_rest.1,
            );
        same = λ all. absurd (false≢true (sym (all i low (omega arith)) ∙ sym here.0 ∙ was.0));
        nodes = λ k lo lt orphan. elim (cases_eq k i) [
          | inl q ↦
              subst (λ (j : ℕ). inode_of n j ≡ freed_inode (inode_of d j)) (sym q)
              (alone.node ∙ ap freed_inode (to.inodes i (λ _ below. absurd (omega (arith, below))) (subst (λ (s : Super). HasPlace s i) sizes (place_of_inode v e i good (in_e i high)))))
          | inr ne ↦ alone.inodes k ne (place_of_inode v e k good (in_e k (omega (arith, lt, high)))) ∙ to.nodes k lo (omega (arith, lt, ne)) orphan
        ];
        inodes = λ k none place. elim (cases_eq k i) [
          | inl q ↦
              let isnt : is_orphan d k ≡ false = none (omega (arith, low, q)) (omega (arith, q)) in
              absurd (false≢true (sym isnt ∙ ap (is_orphan d) q ∙ sym here.0 ∙ was.0))
          | inr ne ↦ alone.inodes k ne (in_place k place) ∙ to.inodes k (λ lo lt. none lo (omega (arith, lt))) place
        ];
        kept = λ b none.
            f.kept b (subst (λ (l : List ℕ). All (λ c. c ≢ 0 → c ≢ b) l) (sym here.1) (none i low (omega arith) (sym here.0 ∙ was.0)))
            ∙ to.kept b (λ k lo lt orphan. none k lo (omega (arith, lt)) orphan);
        others = λ b out. alone.others b (subst (λ (s : Super). IsElsewhere s b) (sym sizes) out) ∙ to.others b out;
      }
]

-- ---- what an inode in range is

pub orphan_is : (d : List (List ℕ)) (i : ℕ) (x : Dinode) → x ≡ inode_of d i → 1 ≤ i → i < (sizes_of d).ninodes → (not (is_free x) && not (is_live x)) ≡ is_orphan d i
unfolding is_node
orphan_is d i x e low high =
    let a : nat_lt 0 i ≡ true = grind (arith, nat_tests) in
    let b : nat_lt i (sizes_of d).ninodes ≡ true = grind (arith, nat_tests) in
    ap (λ (y : Dinode). not (is_free y) && not (is_live y)) e
    ∙ sym (ap (λ (t : Bool). (t && not (is_free (inode_of d i))) && not (is_live (inode_of d i))) (both_from (nat_lt 0 i) (nat_lt i (sizes_of d).ninodes) a b))

-- a block of inodes is between the first one and the bitmap
pub home_low : (v : Version) (d : List (List ℕ)) (s : Super) (i : ℕ) → UpToLog v d → s ≡ sizes_of d → i < s.ninodes → s.inodestart + i / inodes_per_block < s.bmapstart
home_low v d s i good is lt =
    let g : (sizes_of d).inodestart + ((sizes_of d).ninodes + (inodes_per_block - 1)) / inodes_per_block ≤ (sizes_of d).bmapstart =
    (good_super v d good).inodes in
    let n : s.inodestart + (s.ninodes + (inodes_per_block - 1)) / inodes_per_block ≤ s.bmapstart = subst (λ (z : Super). z.inodestart + (z.ninodes + (inodes_per_block - 1)) / inodes_per_block ≤ z.bmapstart) (sym is) g in
    omega (arith, n, lt)

-- what the code put, after reads that left the disk
pub freed_by : (v : Version) (d d1 d2 d3 e : List (List ℕ)) (s : Super) (i : ℕ) (bitmap inodes shown numbers : List ℕ) → d1 ≡ d → d2 ≡ d1 → d3 ≡ d2 → s ≡ sizes_of d → UpToLog v d → i < s.ninodes
    → shown ≡ numbers → numbers ≡ numbers_by d i → dinode_at (i % inodes_per_block) inodes ≡ freed_inode (inode_of d2 i)
    → ((q : ℕ) → q < inodes_per_block → q ≢ i % inodes_per_block
    → dinode_at q inodes ≡ dinode_at q (recovered d2 ((sizes_of d2).inodestart + i / inodes_per_block)))
    → All (λ b. b ≢ 0 → bit_of bitmap b ≡ false) shown
    → ((b : ℕ) → All (λ c. c ≢ 0 → c ≢ b) shown → bit_of bitmap b ≡ is_marked d1 b)
    → ((b : ℕ) → is_marked d1 b ≡ false → bit_of bitmap b ≡ false)
    → IsPut v d3 e (s.inodestart + i / inodes_per_block) bitmap inodes → IsFreedAlone v d e i
freed_by v d d1 d2 d3 e s i bitmap inodes shown numbers same1 same2 same3 is good bound view named node others cleared kept fewer put =
    let two : d2 ≡ d = same2 ∙ same1 in
    let three : d3 ≡ d = same3 ∙ two in
    let all : shown ≡ numbers_by d i = view ∙ named in
    let at_d : IsPut v d e ((sizes_of d).inodestart + i / inodes_per_block) bitmap inodes =
    subst (λ (z : Super). IsPut v d e (z.inodestart + i / inodes_per_block) bitmap inodes) is (subst (λ (z : List (List ℕ)). IsPut v z e (s.inodestart + i / inodes_per_block) bitmap inodes) three put) in
    freed_put v d e i bitmap inodes at_d good (subst (λ (z : Super). i < z.ninodes) is bound) (node ∙ ap (λ (z : List (List ℕ)). freed_inode (inode_of z i)) two)
    (subst (λ (z : List (List ℕ)). (q : ℕ) → q < inodes_per_block → q ≢ i % inodes_per_block → dinode_at q inodes ≡ dinode_at q (recovered z ((sizes_of z).inodestart + i / inodes_per_block))) two others)
    (subst (λ (l : List ℕ). All (λ b. b ≢ 0 → bit_of bitmap b ≡ false) l) all cleared)
    (subst (λ (l : List ℕ). (b : ℕ) → All (λ c. c ≢ 0 → c ≢ b) l → bit_of bitmap b ≡ is_marked d b) all
    (subst (λ (z : List (List ℕ)). (b : ℕ) → All (λ c. c ≢ 0 → c ≢ b) shown → bit_of bitmap b ≡ is_marked z b) same1 kept))
    (subst (λ (z : List (List ℕ)). (b : ℕ) → is_marked z b ≡ false → bit_of bitmap b ≡ false) same1 fewer)

-- ---- the steps of the code

pub either_after : (v : Version) (d d1 e : List (List ℕ)) (i : ℕ) (told : Bool) → d1 ≡ d → IsWellFormed v d → told ≡ is_orphan d i → told ≡ true → IsViewOf v d1 e ⊎ IsFreedAlone v d1 e i → IsImageOf v d e
either_after v d d1 e i told same well is yes_ may =
    either_image v d e i well (sym is ∙ yes_) (subst (λ (z : List (List ℕ)). IsViewOf v z e ⊎ IsFreedAlone v z e i) same may)

pub image_next : (v : Version) (d e n : List (List ℕ)) → IsImageOf v d e → sizes_of n ≡ sizes_of e → IsWellFormed v n → tree_in v n ≡ tree_in v e → IsImageOf v d n
image_next v d e n image sizes well tree = record { sizes = sizes ∙ image.sizes; well = well; tree = tree ∙ image.tree }

-- if each node has a name, nothing is changed at one more inode, whatever the result is
pub same_next : (d e n : List (List ℕ)) (i : ℕ) → ReclaimedTo d e i → 1 ≤ i → i < (sizes_of d).ninodes → (is_orphan e i ≡ false → n ≡ e)
    → ((k : ℕ) → 1 ≤ k → k < (sizes_of d).ninodes → is_orphan d k ≡ false) → n ≡ d
same_next d e n i to low high left all =
    left ((to.rest i (omega arith) high).0 ∙ all i low high) ∙ to.same (λ k lo lt. all k lo (omega (arith, lt, high)))

-- ---- of all inodes

orphan_range : (d : List (List ℕ)) (i : ℕ) → is_orphan d i ≡ true → InRange (sizes_of d) i
unfolding is_node
orphan_range d i is = (ranged (sizes_of d) i (not (is_free (inode_of d i))) (and_parts (is_node d i) (not (is_live (inode_of d i))) is).0).0

pub named_all : (d e : List (List ℕ)) (i : ℕ) → sizes_of e ≡ sizes_of d → ReclaimedTo d e i → (sizes_of d).ninodes ≤ i → AreNamed e
named_all d e i sizes to end k = pick (is_orphan e k) (λ t. is_orphan e k ≡ t → t ≡ false)
    (λ _ is.
    let r = orphan_range e k is in
    let bound : k < (sizes_of d).ninodes = subst (λ (s : Super). k < s.ninodes) sizes r.high in
    sym is ∙ to.none k r.low (omega (arith, bound, end))) (λ _ _. refl) refl

pub are_freed : (d e : List (List ℕ)) (i : ℕ) → ReclaimedTo d e i → (sizes_of d).ninodes ≤ i → AreFreed d e
are_freed d e i to end = record {
  nodes = λ k is. let r = orphan_range d k is in let bound = r.high in to.nodes k r.low (omega (arith, bound, end)) is;
  inodes = λ k isnt place. to.inodes k (λ _ _. isnt) place;
  cleared = λ k is. let r = orphan_range d k is in let bound = r.high in to.freed k r.low (omega (arith, bound, end)) is;
  kept = λ b none. to.kept b (λ k lo lt is. none k is);
  others = to.others;
}

-- ---- after a recovery

module _ (v : Version) (d e : List (List ℕ)) (view : IsViewOf v d e) (well : IsWellFormed v d) where
  pub orphans_seen : (i : ℕ) → is_orphan e i ≡ is_orphan d i
  orphans_seen i =
      ap (λ (t : Bool). t && not (is_live (inode_of e i))) (node_same v d e view well i)
      ∙ ap (λ (x : Dinode). is_node d i && not (is_live x)) (inode_same v d e view well i)

  good_numbers : HasGoodNumbers d
  good_numbers = (let a = well.0 in let b = a.0 in let c = b.0 in let f = c.0 in let g = f.0 in let h = g.0 in h.1)

  log : UpToLog v d
  log = (let a = well.0 in let b = a.0 in let c = b.0 in let f = c.0 in let g = f.0 in let h = g.0 in let i = h.0 in let j = i.0 in j.0)

  data_seen : (b : ℕ) → (b ≡ 0) ⊎ IsData (sizes_of d) b → recovered e b ≡ recovered d b
  data_seen b which =
      let g = good_super v d log in let n = g.inodes in let s = g.logstart in
      view.same b (elim which [ inl z ↦ inl (omega (arith, z, s)) | inr is ↦ let past = is.0 in behind_log v d b log (omega (arith, past, n)) ])

  pub numbers_seen : (i : ℕ) → is_orphan d i ≡ true → numbers_by e i ≡ numbers_by d i
  unfolding numbers_by
  numbers_seen i is =
      let node = node_is d i (and_parts (is_node d i) (not (is_live (inode_of d i))) is).0 in
      ap (λ (x : Dinode). if is_free x then [] else numbers_of e x) (inode_same v d e view well i)
      ∙ ap (λ (t : Bool). if t then [] else numbers_of e (inode_of d i)) node.used
      ∙ numbers_same d e data_seen (inode_of d i) (used_good d good_numbers i (record { low = node.low; high = node.bound }) node.used)
      ∙ ap (λ (t : Bool). if t then [] else numbers_of d (inode_of d i)) (sym node.used)

  marks_seen : (b : ℕ) → is_marked e b ≡ is_marked d b
  marks_seen b =
      let g = good_super v d log in let n = g.inodes in
      ap (λ (s : Super). bit_of (recovered e s.bmapstart) b) view.sizes
      ∙ ap (λ (bytes : List ℕ). bit_of bytes b) (view.same (sizes_of d).bmapstart (behind_log v d (sizes_of d).bmapstart log (omega (arith, n))))

  pub freed_seen : (n : List (List ℕ)) → AreFreed e n → AreFreed d n
  freed_seen n freed = record {
    nodes = λ i is. freed.nodes i (orphans_seen i ∙ is) ∙ ap freed_inode (inode_same v d e view well i);
    inodes = λ i isnt place. freed.inodes i (orphans_seen i ∙ isnt) (subst (λ (s : Super). HasPlace s i) (sym view.sizes) place) ∙ inode_same v d e view well i;
    cleared = λ i is. subst (λ (l : List ℕ). All (λ b. b ≢ 0 → is_marked n b ≡ false) l) (numbers_seen i is) (freed.cleared i (orphans_seen i ∙ is));
    kept = λ b none.
        freed.kept b
        (λ i is.
        let was : is_orphan d i ≡ true = sym (orphans_seen i) ∙ is in
        subst (λ (l : List ℕ). All (λ c. c ≢ 0 → c ≢ b) l) (sym (numbers_seen i was)) (none i was))
        ∙ marks_seen b;
    others = λ b out. freed.others b (subst (λ (s : Super). IsElsewhere s b) (sym view.sizes) out) ∙ view.same b out.0;
  }

  pub named_seen : AreNamed d → AreNamed e
  named_seen all i = orphans_seen i ∙ all i

  pub image_seen : (n : List (List ℕ)) → IsImageOf v e n → IsImageOf v d n
  image_seen n image = record {
    sizes = image.sizes ∙ view.sizes;
    well = image.well;
    tree = image.tree ∙ trees_see_recovered v d e view well;
  }

  pub well_seen : IsWellFormed v e
  well_seen = checks_see_recovered v d e view well
