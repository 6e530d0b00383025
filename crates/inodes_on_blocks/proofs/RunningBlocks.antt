-- The blocks of a running file system.
use Rattle.inodes_on_blocks.proofs.Vocabulary.{◌≡◌, ℕ, zero, suc, ◌<◌, ◌≤◌, Bool, true, false, ◌&&◌, ◌==◌, inl, inr, refl, sym, ◌∙◌, ap, subst, arith, List, Option, Some, None, nat_lt, HasWholeBlocks, Super, sizes_of, Node, Hold, hart_count, Tree, put, tree_of, times, named_by, last, is_marked, UpToLog, IsWellFormed, node_of, tree_in, raises, raised_at, one_if, sum_none, either, same_or, eq_self, eq_not, put_same, put_other, Nodes, HoldsAt, Holds, MarksNoOthers, owner_upto, owner_in, LeavesOthers, IsImageOf, HasOwners, IsRunning, IsTreeOf, left_in}
use Rattle.tree_laws.specs.WellFormed as trees
use Rattle.inodes_on_blocks.proofs.Held.{some_or}
use Rattle.inodes_on_blocks.proofs.HeldImages.{image_of}
use Rattle.inodes_on_blocks.proofs.HeldNamed.{image_at_rest}
use Rattle.inodes_on_blocks.proofs.HeldFrames.{untouched}
use Rattle.inodes_on_blocks.proofs.ImageNodes.{image_holds, are_nodes}

-- ---- a quiet one

-- nobody holds a raised count
unraised : (t : Tree) (n : ℕ) → ((h : ℕ) (o : Hold) → h < hart_count → t.holds h ≡ Some o → o.raised ≡ true → ⊥) → raises t.holds n ≡ 0
unfolding raises one_if
unraised t n none = sum_none hart_count (λ h. raised_at (t.holds h) n) (λ h l. of_hold (t.holds h) (λ o is. none h o l is))
  where
    of_hold : (o : Option Hold) → ((x : Hold) → o ≡ Some x → x.raised ≡ true → ⊥) → raised_at o n ≡ 0
    of_hold None free = refl
    of_hold (Some x) free = elim (either x.raised) [
      | inl up ↦ absurd (free x refl up)
      | inr down ↦ rw down refl
    ]

module _ (disk : List (List ℕ)) (nodes : Nodes) (owner : ℕ → ℕ) (left : ℕ → Bool) (changing : ℕ → Option ℕ) (joined : ℕ → Bool) (h : IsRunning disk nodes owner left changing joined) where
  pub quiet_holds : ((g : ℕ) → joined g ≡ false) → Holds disk nodes owner
  quiet_holds nobody = record {
    front = h.front;
    range = h.range;
    inodes = λ i low bound. elim (some_or (changing i)) [
      | inl none ↦ h.inodes i low bound none
      | inr some ↦ absurd (let q : false ≡ true = sym (nobody some.0) ∙ h.changes i some.0 some.1 in cc)
    ];
    bits = h.bits;
  }

  pub quiet_image : (t : Tree) → trees.IsWellFormed t → IsTreeOf t (sizes_of disk).ninodes nodes joined → ((g : ℕ) → joined g ≡ false) → IsImageOf disk nodes t
  quiet_image t well these nobody =
      image_of disk nodes owner t (quiet_holds nobody) well
      (record { numbers = these.numbers; live = these.live; unraised = λ n. unraised t n (λ g o l is up. absurd (let q : false ≡ true = sym (nobody g) ∙ these.raisers g o l is up in cc)) })

  -- ---- changes

  pub begins : (i g : ℕ) → changing i ≡ None → joined g ≡ true → IsRunning disk nodes owner left (put changing i (Some g)) joined
  begins i g none in_it = record {
    front = h.front;
    whole = h.whole;
    range = h.range;
    inodes = λ j low bound is. elim (same_or j i) [
      | inl e ↦ absurd (let q : Some g ≡ None = sym (put_same changing i (Some g)) ∙ ap (put changing i (Some g)) (sym e) ∙ is in cc)
      | inr ne ↦ h.inodes j low bound (sym (put_other changing i (Some g) j ne) ∙ is)
    ];
    bits = h.bits;
    no_others = h.no_others;
    owners = h.owners;
    changes = λ j k is. elim (same_or j i) [
      | inl e ↦
          let q : Some g ≡ Some k = sym (put_same changing i (Some g)) ∙ ap (put changing i (Some g)) (sym e) ∙ is in
          let same : g ≡ k = cc in
          subst (λ (x : ℕ). joined x ≡ true) same in_it
      | inr ne ↦ h.changes j k (sym (put_other changing i (Some g) j ne) ∙ is)
    ];
  }

  pub node_any : (i g : ℕ) (v : Option Node) → changing i ≡ Some g → 1 ≤ i → i < (sizes_of disk).ninodes → IsRunning disk (put nodes i v) owner left changing joined
  node_any i g v is low bound = record {
    front = h.front;
    whole = h.whole;
    range = λ j w node. elim (same_or j i) [
      | inl e ↦ (omega (arith, e, low), omega (arith, e, bound))
      | inr ne ↦ h.range j w (sym (put_other nodes i v j ne) ∙ node)
    ];
    inodes = λ j low bound none. elim (same_or j i) [
      | inl e ↦ absurd (let q : None ≡ Some g = sym none ∙ ap changing e ∙ is in cc)
      | inr ne ↦ subst (λ (o : Option Node). HoldsAt disk owner j o) (sym (put_other nodes i v j ne)) (h.inodes j low bound none)
    ];
    bits = h.bits;
    no_others = h.no_others;
    owners = h.owners;
    changes = h.changes;
  }

  pub ends : (i : ℕ) → HoldsAt disk owner i (nodes i) → IsRunning disk nodes owner left (put changing i None) joined
  ends i held = record {
    front = h.front;
    whole = h.whole;
    range = h.range;
    inodes = λ j low bound none. elim (same_or j i) [
      | inl e ↦ subst (λ (k : ℕ). HoldsAt disk owner k (nodes k)) (sym e) held
      | inr ne ↦ h.inodes j low bound (sym (put_other changing i None j ne) ∙ none)
    ];
    bits = h.bits;
    no_others = h.no_others;
    owners = h.owners;
    changes = λ j k is. elim (same_or j i) [
      | inl e ↦ absurd (let q : None ≡ Some k = sym (put_same changing i None) ∙ ap (put changing i None) (sym e) ∙ is in cc)
      | inr ne ↦ h.changes j k (sym (put_other changing i None j ne) ∙ is)
    ];
  }

  pub joins : (joined' : ℕ → Bool) → ((i g : ℕ) → changing i ≡ Some g → joined g ≡ true → joined' g ≡ true) → IsRunning disk nodes owner left changing joined'
  joins joined' keep = record {
    front = h.front;
    whole = h.whole;
    range = h.range;
    inodes = h.inodes;
    bits = h.bits;
    no_others = h.no_others;
    owners = h.owners;
    changes = λ i g is. keep i g is (h.changes i g is);
  }

  pub puts_keep : (new : List (List ℕ)) (owner' : ℕ → ℕ) (i g : ℕ) → changing i ≡ Some g → LeavesOthers disk new owner owner' i → sizes_of new ≡ sizes_of disk → UpToLog new
      → HasWholeBlocks new → HasOwners new owner' → IsRunning new nodes owner' left changing joined
  puts_keep new owner' i g is others sizes front whole owners = record {
    front = front;
    whole = whole;
    range = λ j v node. subst (λ (s : Super). (1 ≤ j) × (j < s.ninodes)) (sym sizes) (h.range j v node);
    inodes = λ j low bound none.
        let within : j < (sizes_of disk).ninodes = subst (λ (s : Super). j < s.ninodes) sizes bound in
        untouched disk new owner owner' j (nodes j)
        (others.inodes j low within (λ e. absurd (let q : None ≡ Some g = sym none ∙ ap changing e ∙ is in cc)))
        (h.inodes j low within none);
    bits = others.bits h.bits;
    no_others = others.no_others left h.no_others;
    owners = owners;
    changes = h.changes;
  }

-- ---- an image

-- an owner is one of the inodes that were looked at
owner_high : (f : ℕ → List ℕ) (n b : ℕ) → owner_upto f n b ≤ n
unfolding owner_upto
owner_high f zero b = omega arith
owner_high f (suc n) b = elim (either (nat_lt 0 (times b (f (suc n))))) [
  | inl y ↦ rw y (omega arith)
  | inr y ↦ let ih = owner_high f n b in rw y (omega (arith, ih))
]

none_owns : (disk : List (List ℕ)) → MarksNoOthers disk (owner_in disk) (left_in disk)
none_owns disk = record {
  free = λ b block own. let is : (owner_in disk b == 0) ≡ true = ap (λ (k : ℕ). k == 0) own ∙ eq_self 0 in sym (and_right (is_marked disk b) (owner_in disk b == 0) is);
  apart = λ b own. let no : (owner_in disk b == 0) ≡ false = eq_not (owner_in disk b) 0 own in and_off (is_marked disk b) (owner_in disk b == 0) no;
}
  where
    and_right : (a c : Bool) → c ≡ true → (a && c) ≡ a
    and_right true c e = e
    and_right false c e = refl

    and_off : (a c : Bool) → c ≡ false → (a && c) ≡ false
    and_off true c e = e
    and_off false c e = refl

pub image_runs : (disk : List (List ℕ)) (joined : ℕ → Bool) → HasWholeBlocks disk → IsWellFormed disk → IsRunning disk (node_of disk) (owner_in disk) (left_in disk) (λ i. None) joined
image_runs disk joined whole well =
    let h = image_holds disk whole well in
    let some = h.front.0.0.1.1.few_inodes in
    record {
      front = h.front;
      whole = whole;
      range = h.range;
      inodes = λ i low bound none. h.inodes i low bound;
      bits = h.bits;
      no_others = none_owns disk;
      owners = λ b block. omega (arith, some, owner_high (named_by disk) (last disk) b);
      changes = λ i g is. absurd (let q : None ≡ Some g = is in cc);
    }

pub image_tree_runs : (disk : List (List ℕ)) (joined : ℕ → Bool) → IsTreeOf (tree_of (tree_in disk)) (sizes_of disk).ninodes (node_of disk) joined
image_tree_runs disk joined =
    let these = are_nodes disk in
    record {
      numbers = these.numbers;
      live = these.live;
      raisers = λ h o l is up. absurd (let q : None ≡ Some o = sym ((image_at_rest disk).holds h) ∙ is in cc);
    }
