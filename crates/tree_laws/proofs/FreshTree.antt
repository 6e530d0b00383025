-- A fresh tree is well formed.
use Rattle.image_versions.specs.declared.version.Version.{Version}
use Rattle.tree_laws.proofs.Vocabulary.{◌≡◌, ◌≢◌, ℕ, zero, suc, ◌-◌, ◌<◌, ◌≤◌, true, false, inl, inr, refl, sym, ◌∙◌, ap, subst, arith, ◌∷◌, length, replicate, Option, Some, None, slice_index_or, Node, Hart, Hold, hart_count, descriptor_count, root, Tree, tree_of, resting, dot, dotdot, any_used, fresh, fresh_root, fresh_hart, fresh_slots, Slots, folder, links_of, folders_of, links_in, past, has_up, count_in, mentions, raised_at, raises, NamesOnce, IsInOrder, IsForest, IsThere, IsWellFormed}
use Rattle.tree_laws.proofs.Basics.{same_or, sum_none, count_nil, count_unused, slot_past, dots_differ, flip_name, first_unused, Dots, children_none}

at_replicate : {A : Type 0} → (k n : ℕ) (x : A) → slice_index_or (replicate k x) n x ≡ x
at_replicate zero n x = refl
at_replicate (suc k) zero x = refl
at_replicate (suc k) (suc n) x = at_replicate k n x

unused : (k : ℕ) → any_used (replicate k None) ≡ false
unfolding any_used
unused zero = refl
unused (suc k) = unused k

once_unused : (k : ℕ) → NamesOnce (replicate k None)
unfolding NamesOnce
once_unused zero = tt
once_unused (suc k) = once_unused k

fresh_at : (version : Version) (k n : ℕ) → n ≢ root → slice_index_or (None ∷ Some (fresh_root version) ∷ replicate k None) n None ≡ None
fresh_at version k zero ne = refl
fresh_at version k (suc zero) ne = absurd (ne refl)
fresh_at version k (suc (suc n)) ne = at_replicate k n None

fresh_harts : (h : ℕ) (d : Hart) → h < hart_count → slice_index_or (replicate hart_count fresh_hart) h d ≡ fresh_hart
fresh_harts h d lt = go hart_count h lt
  where
    go : (k n : ℕ) → n < k → slice_index_or (replicate k fresh_hart) n d ≡ fresh_hart
    go zero n l = absurd (omega arith)
    go (suc k) zero l = refl
    go (suc k) (suc n) l = go k n (omega arith)

fresh_list : Version → Slots
fresh_list version = Dots root root (replicate (fresh_slots version - 2) None)

plain_nodes : (version : Version) (ninodes n : ℕ) → n ≢ root → (tree_of (fresh version ninodes)).nodes n ≡ None
plain_nodes version ninodes n ne = fresh_at version (ninodes - 2) n ne

other_folder : (version : Version) (ninodes n : ℕ) → n ≢ root → folder ((tree_of (fresh version ninodes)).nodes n) ≡ None
other_folder version ninodes n ne = ap (λ (o : Option Node). folder o) (plain_nodes version ninodes n ne)

no_holds : (version : Version) (ninodes h : ℕ) → h < hart_count → (tree_of (fresh version ninodes)).holds h ≡ None
no_holds version ninodes h lt = ap (λ (x : Hart). x.hold) (fresh_harts h resting lt)

no_raises : (version : Version) (ninodes n : ℕ) → raises (tree_of (fresh version ninodes)).holds n ≡ 0
unfolding raises
no_raises version ninodes n = sum_none hart_count _ (λ h lt. ap (λ (o : Option Hold). raised_at o n) (no_holds version ninodes h lt))

root_folder : (version : Version) (ninodes : ℕ) → folder ((tree_of (fresh version ninodes)).nodes root) ≡ Some (fresh_list version)
unfolding fresh_list
root_folder version ninodes = refl

no_entries : (version : Version) (ninodes d k : ℕ) → count_in (past (folder ((tree_of (fresh version ninodes)).nodes d))) k ≡ 0
unfolding fresh_list
no_entries version ninodes d k = elim (same_or d root) [
  | inl e ↦ subst (λ (z : ℕ). count_in (past (folder ((tree_of (fresh version ninodes)).nodes z))) k ≡ 0) (sym e) (count_unused (replicate (fresh_slots version - 2) None) k (unused (fresh_slots version - 2)))
  | inr ne ↦ ap (λ (o : Option Slots). count_in (past o) k) (other_folder version ninodes d ne) ∙ count_nil k
]

no_mentions : (version : Version) (ninodes n : ℕ) → mentions (folders_of (tree_of (fresh version ninodes)).nodes) ninodes n ≡ 0
unfolding mentions
no_mentions version ninodes n = sum_none ninodes _ (λ d lt. no_entries version ninodes d n)

once_list : (version : Version) → NamesOnce (fresh_list version)
unfolding fresh_list NamesOnce
once_list version = (
  slot_past (record { name = dotdot; number = root }) (replicate (fresh_slots version - 2) None) dot (flip_name dot dotdot dots_differ) ∙ first_unused (replicate (fresh_slots version - 2) None) dot (unused (fresh_slots version - 2)),
  (first_unused (replicate (fresh_slots version - 2) None) dotdot (unused (fresh_slots version - 2)), once_unused (fresh_slots version - 2)),
)

fresh_length : (version : Version) (ninodes : ℕ) → 2 ≤ ninodes → (tree_of (fresh version ninodes)).ninodes ≡ ninodes
fresh_length version ninodes low = let l : length (replicate {A = Option Node} (ninodes - 2) None) ≡ ninodes - 2 = length_replicate (ninodes - 2) None in omega (arith, l)
  where
    length_replicate : {A : Type 0} → (k : ℕ) (x : A) → length (replicate k x) ≡ k
    length_replicate zero x = refl
    length_replicate (suc k) x = let ih = length_replicate k x in omega (arith, ih)

pub fresh_well : (version : Version) (ninodes : ℕ) → 2 ≤ ninodes → IsWellFormed (tree_of (fresh version ninodes))
unfolding fresh_list
fresh_well version ninodes low =
    let t : Tree = tree_of (fresh version ninodes) in
    let size = fresh_length version ninodes low in
    let F = folders_of t.nodes in
    record {
      range = λ n v is. elim (same_or n root) [
        | inl e ↦ (omega (arith, e), omega (arith, e, size, low))
        | inr ne ↦ absurd (let none = plain_nodes version ninodes n ne in cc (none, is))
      ];
      depth = λ n. 0;
      forest = subst (λ (N : ℕ). IsForest F (links_in t.nodes) (raises t.holds) N (λ n. 0)) (sym size) (record {
        rooted = λ q. absurd (let is = root_folder version ninodes in cc (q, is));
        directory = λ d ss is. elim (same_or d root) [
          | inr ne ↦ absurd (let none = other_folder version ninodes d ne in cc (none, is))
          | inl e ↦
              let q : Some (fresh_list version) ≡ Some ss = sym (root_folder version ninodes) ∙ subst (λ (z : ℕ). F z ≡ Some ss) e is in
              let same : fresh_list version ≡ ss = cc in
              subst (λ (z : ℕ). IsInOrder F (links_in t.nodes) (raises t.holds) ninodes (λ n. 0) z ss) (sym e)
              (subst (λ (z : Slots). IsInOrder F (links_in t.nodes) (raises t.holds) ninodes (λ n. 0) root z) same (record {
                within = omega (arith, low);
                dots = refl;
                once = once_list version;
                above = λ r. absurd (let is = root_folder version ninodes in cc (r, is));
                counted = (let none = children_none F ninodes root (λ c ne. ap (λ (o : Option Slots). has_up o root) (other_folder version ninodes c ne)) in omega (arith, none));
                unheld = no_raises version ninodes root;
                rooted = λ r. (refl, no_mentions version ninodes root);
                place = λ r. absurd (r refl);
              }))
        ];
        other = λ n is. elim (same_or n root) [
          | inl e ↦ absurd (let some : F n ≡ Some (fresh_list version) = subst (λ (z : ℕ). F z ≡ Some (fresh_list version)) (sym e) (root_folder version ninodes) in cc (some, is))
          | inr ne ↦
              let links : links_in t.nodes n ≡ 0 = ap (λ (o : Option Node). links_of o) (plain_nodes version ninodes n ne) in
              let said = no_mentions version ninodes n in
              let up = no_raises version ninodes n in
              omega (arith, links, said, up)
        ];
      });
      holds = λ h o lt is. absurd (let none = no_holds version ninodes h lt in cc (none, is));
      descriptors = λ h i id lh li is. absurd (let none : t.fds h i ≡ None = ap (λ (x : Hart). slice_index_or x.descriptors i None) (fresh_harts h resting lh) ∙ at_replicate descriptor_count i None in cc (none, is));
      directories = λ h lt. subst (λ (z : ℕ). IsThere t.nodes z true) (sym (ap (λ (x : Hart). x.directory) (fresh_harts h resting lt))) (record { node = fresh_root version; is = refl; inode_type = refl });
    }
