-- What the checks of one inode say of it.
use Rattle.image_tree.proofs.Vocabulary.{AreGoodSlots, Bool, Dinode, Dirent, IsFittingSize, IsGoodCount, IsLayout, IsTrue, List, None, Option, Some, Version, and_parts, children_of, further_names_of, inode_of, is_directory, is_free, is_live, is_live_directory, is_node, names_of, numbers_of, proper_names_of, refl, slot_numbers, slots_in, subst, sym, true, up, false, ℕ, ◌&&◌, ◌<◌, ◌∙◌, ◌≡◌, ◌≤◌, ◌↔◌, All, IsOnce, Reaches}
use Rattle.image_tree.specs.declared.disk.Layout.{Layout}
use Rattle.image_tree.specs.Links.{slot_names}
use Rattle.std.specs.Option.{MatchOption}
use Rattle.image_tree.proofs.Climbs.{climb-same}
use Rattle.image_tree.proofs.Nodes.{directory_from, node_from}
use Rattle.damage_places.proofs.Climbs.{climb-none}
use Rattle.damage_places.specs.Checks.{IsPlaced, Passes}
use Rattle.damage_places.specs.Places.{AreEntries, HasDots, IsCountFault, IsFaultOf, IsHole, IsMisfit, IsSizeFault, IsSlotFault, IsTreeFault, told}
use Rattle.damage_places.specs.declared.place.Check.TheVariants as checks
use Rattle.damage_places.specs.declared.place.InodeFault.{InodeFault}
use Rattle.damage_places.specs.declared.place.InodeFault.TheVariants as faults

-- what an answer says, in other words
pub match_map : {X : Type 0} (found : Option X) (P P2 : Type 0) (Q Q2 : X → Type 0) → (P → P2) → ((x : X) → Q x → Q2 x) → MatchOption found P Q → MatchOption found P2 Q2
match_map None P P2 Q Q2 f g h = f h
match_map (Some x) P P2 Q Q2 f g h = g x h

module _ (disk : List (List ℕ)) (layout : Layout) (i : ℕ) (d : Dinode) (h : IsLayout disk layout) (low : 1 ≤ i) (bound : i < layout.sizes.ninodes) (is : d ≡ inode_of disk i) where
  pub node_here : is_free d ≡ false → is_node disk i ≡ true
  node_here used = node_from disk i (record { low = low; bound = rw (← h.sizes) bound; used = rw is at used })

  pub live_here : (is_directory d && is_live d) ≡ true → is_live_directory disk i ≡ true
  live_here live =
      let parts = and_parts (is_directory d) (is_live d) live in
      directory_from disk i (record { low = low; bound = rw (← h.sizes) bound; directory = rw is at parts.0; live = rw is at parts.1 })

-- ---- sizes

misfit_size : (v : Version) (disk : List (List ℕ)) (d : Dinode) (fault : InodeFault) → IsMisfit v d fault → IsSizeFault v disk d fault
misfit_size v disk d (faults.Hole block size) h = absurd h
misfit_size v disk d (faults.TooLarge size) h = h
misfit_size v disk d (faults.PartSlots size) h = h
misfit_size v disk d _ h = absurd h

pub misfit_here : (v : Version) (disk : List (List ℕ)) (i : ℕ) (d : Dinode) (fault : InodeFault) → d ≡ inode_of disk i → is_node disk i ≡ true → IsMisfit v d fault
    → IsFaultOf v disk i checks.Sizes fault
misfit_here v disk i d fault is node bad = (node, subst (λ (x : Dinode). IsSizeFault v disk x fault) is (misfit_size v disk d fault bad))

pub hole_here : (v : Version) (disk : List (List ℕ)) (i : ℕ) (d : Dinode) (numbers : List ℕ) (block : ℕ) → d ≡ inode_of disk i → is_node disk i ≡ true → IsFittingSize v d
    → numbers ≡ numbers_of disk d → IsHole numbers d.size block → IsFaultOf v disk i checks.Sizes (faults.Hole block d.size)
hole_here v disk i d numbers block is node fits e hole =
    (node, subst (λ (x : Dinode). IsSizeFault v disk x (faults.Hole block d.size)) is (refl, fits, subst (λ (ns : List ℕ). IsHole ns d.size block) e hole))

-- ---- slots

pub slots_here : (v : Version) (disk now : List (List ℕ)) (i : ℕ) (slots : List (Option Dirent)) (found : Option InodeFault) → is_live_directory disk i ≡ true → now ≡ disk
    → slots ≡ slots_in v disk i → MatchOption found (AreGoodSlots (is_node now) i slots) (IsSlotFault (is_node now) i slots)
    → MatchOption found (Passes v disk checks.Slots i) (IsFaultOf v disk i checks.Slots)
slots_here v disk now i slots found live same e says =
    match_map found _ _ _ _
    (λ good _. subst (λ (xs : List (Option Dirent)). AreGoodSlots (is_node disk) i xs) e (subst (λ (d : List (List ℕ)). AreGoodSlots (is_node d) i slots) same good))
    (λ fault bad. (live, subst (λ (xs : List (Option Dirent)). IsSlotFault (is_node disk) i xs fault) e (subst (λ (d : List (List ℕ)). IsSlotFault (is_node d) i slots fault) same bad)))
    says

pub good_slots : (p : ℕ → Bool) (i : ℕ) (slots : List (Option Dirent)) → HasDots i slots → AreEntries slots → All (λ n. p n ≡ true) (slot_numbers slots) → IsOnce (slot_names slots)
    → AreGoodSlots p i slots
good_slots p i slots dots entries nodes names = record { first = dots.0; second = dots.1; entries = entries; nodes = nodes; names = names }

-- ---- the tree

reaches_same : (f g : ℕ → ℕ) (i : ℕ) → ((n : ℕ) → f n ≡ g n) → Reaches f i → Reaches g i
reaches_same f g i same r = record { steps = (r.steps.0, sym (climb-same f g r.steps.0 i same) ∙ r.steps.1) }

pub reach_here : (f g : ℕ → ℕ) (i : ℕ) (told : Bool) → ((n : ℕ) → f n ≡ g n) → (IsTrue told ↔ Reaches f i) → IsTrue told ↔ Reaches g i
reach_here f g i told same says = (λ yes. reaches_same f g i same (says.0 yes), λ r. says.1 (reaches_same g f i (λ n. sym (same n)) r))

pub root_reached : (f : ℕ → ℕ) (i : ℕ) (told : Bool) → (IsTrue told ↔ Reaches f i) → i ≡ 1 → IsTrue told
root_reached f i told says e = says.1 (record { steps = (0, climb-none f i ∙ e) })

tree_fault_same : (i up further own : ℕ) (R S : Type 0) (fault : InodeFault) → (S → R) → IsTreeFault i up further own R fault → IsTreeFault i up further own S fault
tree_fault_same i up further own R S (faults.RootUp u) f h = h
tree_fault_same i up further own R S (faults.RootNamed times) f h = h
tree_fault_same i up further own R S (faults.Named times) f h = h
tree_fault_same i up further own R S (faults.Elsewhere u) f h = h
tree_fault_same i up further own R S (faults.Astray u) f h = (h.0, h.1, h.2, h.3, λ s. h.4 (f s))
tree_fault_same i up further own R S _ f h = absurd h

pub tree_here : (v : Version) (disk : List (List ℕ)) (i parent : ℕ) (told : Bool) (found : Option InodeFault) → is_live_directory disk i ≡ true → parent ≡ up v disk i
    → (IsTrue told ↔ Reaches (up v disk) i)
    → MatchOption found (IsPlaced i parent (further_names_of v disk i) (proper_names_of v disk i) (IsTrue told))
    (IsTreeFault i parent (further_names_of v disk i) (proper_names_of v disk i) (IsTrue told))
    → MatchOption found (Passes v disk checks.Tree i) (IsFaultOf v disk i checks.Tree)
tree_here v disk i parent told found live e says h =
    let f = further_names_of v disk i in
    let p = proper_names_of v disk i in
    match_map found _ _ _ _
    (λ good _. record {
      root = λ one. sym e ∙ good.root one;
      root_unnamed = good.root_unnamed;
      named = good.named;
      proper = good.proper;
      reaches = says.0 good.reaches;
    })
    (λ fault bad. (
      live,
      subst (λ (n : ℕ). IsTreeFault i n f p (Reaches (up v disk) i) fault) e (tree_fault_same i parent f p (IsTrue told) (Reaches (up v disk) i) fault says.1 bad),
    ))
    h

-- ---- counts

pub count_here : (v : Version) (disk : List (List ℕ)) (i : ℕ) (d : Dinode) (found : Option InodeFault) → d ≡ inode_of disk i → is_node disk i ≡ true
    → MatchOption found (IsGoodCount d (names_of v disk i) (further_names_of v disk i) (children_of v disk i))
    (IsCountFault d (names_of v disk i) (further_names_of v disk i) (children_of v disk i))
    → MatchOption found (Passes v disk checks.Counts i) (IsFaultOf v disk i checks.Counts)
count_here v disk i d found is node h =
    match_map found _ _ _ _
    (λ good _. subst (λ (x : Dinode). IsGoodCount x (names_of v disk i) (further_names_of v disk i) (children_of v disk i)) is good)
    (λ fault bad. (node, subst (λ (x : Dinode). IsCountFault x (names_of v disk i) (further_names_of v disk i) (children_of v disk i) fault) is bad))
    h
