-- The nodes on the seen blocks, and what keeps them there.
use Rattle.inodes_on_blocks.proofs.Vocabulary.{◌≡◌, ℕ, zero, suc, true, false, cond, refl, sym, ◌∙◌, ap, subst, arith, List, [], ◌∷◌, length, Option, Some, None, ◌+◌, is_some, ◌≢◌, ◌<◌, ◌≤◌, set, get_or-set_other, sum_by-cons, HasWholeBlocks, block_at, Super, u32_at, super_fields, logged, sizes_of, recovered-empty, SeatState, seen_in, joined_count as joined, TreeData, Node, Tree, put, tree_of, put_same, IsWellFormed, node_of, tree_in, HoldsAt, owner_in, IsImageOf, LeavesOthers, HasOwners, IsRunning, IsTreeOf, left_in, seen_blocks, AreSeen, IsGoodSeen, AreSeenAlike, IsSeenPut, IsRecoveredSo, is_joined, Ghost, shown, AreOnBlocks}
use Rattle.tree_laws.specs.WellFormed as trees
use Rattle.inodes_on_blocks.proofs.RunningBlocks.{quiet_image, begins, node_any, ends, joins, puts_keep, image_runs, image_tree_runs}
use Rattle.inodes_on_blocks.proofs.SeenDisks.{good_seen, seen_put, seen_stays, recovered_image, image_seen}

one_joined : (k : ℕ) (members : List (Option ℕ)) → joined (Some k ∷ members) ≡ 1 + joined members
one_joined k members = sum_by-cons (λ (m : Option ℕ). cond (is_some m) 1 0) (Some k) members

-- if nobody is joined no hart is
pub nobody_joined : (members : List (Option ℕ)) (h : ℕ) → joined members ≡ 0 → is_joined members h ≡ false
nobody_joined [] h none = refl
nobody_joined (None ∷ members) zero none = refl
nobody_joined (None ∷ members) (suc h) none = nobody_joined members h none
nobody_joined (Some k ∷ members) h none = absurd (omega (arith, none, one_joined k members))

-- who was in a transaction is in one after hart h joins
pub still_joined : (members : List (Option ℕ)) (h k f : ℕ) → is_joined members f ≡ true → is_joined (set members h (Some k)) f ≡ true
still_joined [] h k f joined = joined
still_joined (m ∷ members) zero k zero joined = refl
still_joined (m ∷ members) zero k (suc f) joined = joined
still_joined (m ∷ members) (suc h) k zero joined = joined
still_joined (m ∷ members) (suc h) k (suc f) joined = still_joined members h k f joined

module _ (contents : List (List ℕ)) (seats : List SeatState) (sizes : Super) (members : List (Option ℕ)) (g : Ghost) (on : AreOnBlocks contents seats sizes members g) where
  sizes_shown : sizes_of (shown contents seats sizes) ≡ sizes
  sizes_shown = (good_seen sizes (seen_in contents seats) (length contents) on.seen).sizes_are

  pub quiet_image_of : (t : Tree) → trees.IsWellFormed t → IsTreeOf t sizes.ninodes g.nodes (is_joined members) → joined members ≡ 0 → IsImageOf (shown contents seats sizes) g.nodes t
  quiet_image_of t well these none =
      quiet_image (shown contents seats sizes) g.nodes g.owner g.left g.changing (is_joined members) on.running t well
      (subst (λ (s : Super). IsTreeOf t s.ninodes g.nodes (is_joined members)) (sym sizes_shown) these) (λ h. nobody_joined members h none)

  pub quiet_disk : IsWellFormed (shown contents seats sizes) → (disk : List (List ℕ)) → length disk ≡ length contents → IsRecoveredSo sizes (seen_in contents seats) disk
      → IsWellFormed disk × (tree_in disk ≡ tree_in (shown contents seats sizes))
  quiet_disk well disk long so =
      let see : ℕ → List ℕ = seen_in contents seats in
      subst (λ (n : ℕ). IsWellFormed disk × (tree_in disk ≡ tree_in (seen_blocks sizes see n))) long
      (recovered_image sizes see disk (subst (λ (n : ℕ). AreSeen sizes see n) (sym long) on.seen) so
      (subst (λ (n : ℕ). IsWellFormed (seen_blocks sizes see n)) (sym long) well))

  pub record_keeps : (now : List SeatState) (owner' : ℕ → ℕ) (b i h : ℕ) → g.changing i ≡ Some h → IsSeenPut sizes (seen_in contents seats) (seen_in contents now) b
      → LeavesOthers (shown contents seats sizes) (shown contents now sizes) g.owner owner' i → HasOwners (shown contents now sizes) owner'
      → AreOnBlocks contents now sizes members (record g { owner = owner' })
  record_keeps now owner' b i h is put left owners =
      let both = seen_put sizes (seen_in contents seats) (seen_in contents now) (length contents) b on.seen put in
      let good = good_seen sizes (seen_in contents now) (length contents) both.0 in
      record {
        seen = both.0;
        running =
            puts_keep (shown contents seats sizes) g.nodes g.owner g.left g.changing (is_joined members) on.running (shown contents now sizes) owner' i h is left both.1.sizes good.good
            good.whole owners;
      }

  pub unseen_keeps : (after : List (List ℕ)) (now : List SeatState) → length after ≡ length contents → AreSeenAlike sizes (seen_in contents seats) (seen_in after now) (length contents)
      → AreOnBlocks after now sizes members g
  unseen_keeps after now long alike =
      let both = seen_stays sizes (seen_in contents seats) (seen_in after now) (length contents) on.seen alike in
      let same : shown after now sizes ≡ shown contents seats sizes = ap (seen_blocks sizes (seen_in after now)) long ∙ both.1 in
      record {
        seen = subst (λ (n : ℕ). AreSeen sizes (seen_in after now) n) (sym long) both.0;
        running = subst (λ (disk : List (List ℕ)). IsRunning disk g.nodes g.owner g.left g.changing (is_joined members)) (sym same) on.running;
      }

  members_keep : (members' : List (Option ℕ)) → ((i h : ℕ) → g.changing i ≡ Some h → is_joined members h ≡ true → is_joined members' h ≡ true)
      → AreOnBlocks contents seats sizes members' g
  members_keep members' keep = record {
    seen = on.seen;
    running = joins (shown contents seats sizes) g.nodes g.owner g.left g.changing (is_joined members) on.running (is_joined members') keep;
  }

  pub join_keeps : (h k : ℕ) → AreOnBlocks contents seats sizes (set members h (Some k)) g
  join_keeps h k = members_keep (set members h (Some k)) (λ i f is joined. still_joined members h k f joined)

  pub leave_keeps : (h : ℕ) → ((i : ℕ) → g.changing i ≢ Some h) → AreOnBlocks contents seats sizes (set members h None) g
  leave_keeps h free = members_keep (set members h None) (λ i f is joined.
      ap is_some (get_or-set_other members h f None None (λ e. free i (is ∙ ap (λ (x : ℕ). Some x) e))) ∙ joined)

  pub change_begins : (i h : ℕ) → g.changing i ≡ None → is_joined members h ≡ true → AreOnBlocks contents seats sizes members (record g { changing = put g.changing i (Some h) })
  change_begins i h none joined = record {
    seen = on.seen;
    running = begins (shown contents seats sizes) g.nodes g.owner g.left g.changing (is_joined members) on.running i h none joined;
  }

  pub change_ends : (i h : ℕ) (v : Option Node) → g.changing i ≡ Some h → 1 ≤ i → i < sizes.ninodes → HoldsAt (shown contents seats sizes) g.owner i v
      → AreOnBlocks contents seats sizes members (record g { nodes = put g.nodes i v; changing = put g.changing i None })
  change_ends i h v is low bound held =
      let within : i < (sizes_of (shown contents seats sizes)).ninodes = subst (λ (s : Super). i < s.ninodes) (sym sizes_shown) bound in
      let any = node_any (shown contents seats sizes) g.nodes g.owner g.left g.changing (is_joined members) on.running i h v is low within in
      record {
        seen = on.seen;
        running =
            ends (shown contents seats sizes) (put g.nodes i v) g.owner g.left g.changing (is_joined members) any i
            (subst (λ (o : Option Node). HoldsAt (shown contents seats sizes) g.owner i o) (sym (put_same g.nodes i v)) held);
      }

-- ---- a mounted image

module _ (contents : List (List ℕ)) (seats : List SeatState) (members : List (Option ℕ)) (whole : HasWholeBlocks contents) (well : IsWellFormed contents) (none : logged contents ≡ [])
    (same : (b : ℕ) → seen_in contents seats b ≡ block_at contents b) where
  abbrev front : Super
  front = sizes_of contents

  blocks_seen : AreSeen front (seen_in contents seats) (length contents)
  unfolding sizes_of
  blocks_seen =
      let up_to_log = well.0.0.0.0.0.0.0.0.0 in
      let super = up_to_log.0.0.1 in
      record {
        is_super = ap (λ (bytes : List ℕ). u32_at bytes 0) (same 1) ∙ super.0;
        sizes_are = ap super_fields (same 1);
        good = super.1;
        sized = up_to_log.0.1;
        whole = λ b l out. ap length (same b) ∙ whole b [] l;
      }

  abbrev disk : List (List ℕ)
  disk = shown contents seats (sizes_of contents)

  recovered_so : IsRecoveredSo front (seen_in contents seats) contents
  recovered_so = record {
    sizes_are = refl;
    good = well.0.0.0.0.0.0.0.0.0;
    blocks = λ b l out. recovered-empty contents b none ∙ sym (same b);
  }

  pub image_shown : IsWellFormed disk × (tree_in disk ≡ tree_in contents)
  image_shown = image_seen front (seen_in contents seats) contents blocks_seen recovered_so well

  shown_good : IsGoodSeen front (seen_in contents seats) (length contents)
  shown_good = good_seen front (seen_in contents seats) (length contents) blocks_seen

  abbrev pub mounted_ghost : Ghost
  mounted_ghost = record { nodes = node_of disk; owner = owner_in disk; left = left_in disk; changing = λ i. None }

  pub mounted_on : AreOnBlocks contents seats front members mounted_ghost
  mounted_on = record { seen = blocks_seen; running = image_runs disk (is_joined members) shown_good.whole image_shown.0 }

  pub mounted_tree : IsTreeOf (tree_of (tree_in contents)) front.ninodes (node_of disk) (is_joined members)
  mounted_tree =
      subst (λ (s : Super). IsTreeOf (tree_of (tree_in contents)) s.ninodes (node_of disk) (is_joined members)) shown_good.sizes_are
      (subst (λ (x : TreeData). IsTreeOf (tree_of x) (sizes_of disk).ninodes (node_of disk) (is_joined members)) image_shown.1 (image_tree_runs disk (is_joined members)))
