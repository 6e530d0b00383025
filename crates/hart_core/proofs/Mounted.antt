-- What a mount leaves.
use Rattle.std.specs.Prelude.{Result, Ok, Err, IfErr, IsErrAnd}
use Rattle.image_tree.specs.declared.fault.MountFault.TheVariants.{NoMemory}
use Rattle.image_tree.specs.Damage as damage
use Rattle.image_tree.specs.Trees as trees
use Rattle.hart_core.proofs.Vocabulary.{◌≡◌, ◌≢◌, ℕ, List, [], refl, sym, ◌∙◌, ap, subst, Super, Version, version_in, block_at, logged, recovered, sizes_of, IsOutsideLog, MountFault, DeviceFault, IsWellFormed, fault_count_of, tree_in, AreFreed, AreNamed, IsSettled, HandsBack}

-- what holds in the version that was found holds in the disk's own
pub well_found : (v : Version) (first disk : List (List ℕ)) → v ≡ version_in first → disk ≡ first → damage.IsWellFormed v disk → IsWellFormed first
well_found v first disk is same well =
    subst (λ (w : Version). damage.IsWellFormed w first) is (subst (λ (d : List (List ℕ)). damage.IsWellFormed v d) same well)

-- and so it does later, because the examination leaves the disk as it was, and the rest leaves its sizes
module _ (v : Version) (first middle last : List (List ℕ)) (is : v ≡ version_in first) (same : middle ≡ first) (sizes : sizes_of last ≡ sizes_of middle) where
  is_middle : v ≡ version_in middle
  is_middle = is ∙ ap version_in (sym same)

  is_last : v ≡ version_in last
  is_last = is_middle ∙ ap (λ (s : Super). s.version) (sym sizes)

  pub sizes_so : sizes_of last ≡ sizes_of first
  sizes_so = sizes ∙ ap sizes_of same

  pub well_so : damage.IsWellFormed v last → IsWellFormed last
  well_so well = subst (λ (w : Version). damage.IsWellFormed w last) is_last well

  pub tree_so : trees.tree_in v last ≡ trees.tree_in v middle → tree_in last ≡ tree_in first
  tree_so tree = ap (λ (w : Version). trees.tree_in w last) (sym is_last) ∙ tree ∙ ap (λ (w : Version). trees.tree_in w middle) is_middle ∙ ap tree_in same

  pub settled_so : (AreNamed middle → (b : ℕ) → IsOutsideLog (sizes_of middle) b → block_at last b ≡ recovered middle b) → logged last ≡ []
      → damage.IsWellFormed v last → trees.tree_in v last ≡ trees.tree_in v middle → AreNamed last → AreFreed middle last → IsSettled first last
  settled_so blocks empty well tree named freed = record {
    blocks = subst (λ (d : List (List ℕ)). AreNamed d → (b : ℕ) → IsOutsideLog (sizes_of d) b → block_at last b ≡ recovered d b) same blocks;
    empty = empty;
    sizes = sizes_so;
    well = well_so well;
    tree = tree_so tree;
    named = named;
    freed = subst (λ (d : List (List ℕ)). AreFreed d last) same freed;
  }

module _ {D : Type 0} (contents : D → List (List ℕ)) (failures : D → ℕ) (first middle last : D) (same : contents middle ≡ contents first) (count : failures middle ≡ failures first) where
  -- memory was refused after the examination
  refused : (fault : MountFault) → fault ≡ NoMemory → HandsBack contents failures first middle fault
  refused fault is = subst (λ (f : MountFault). HandsBack contents failures first middle f) (sym is) (record {
    judges = tt;
    unwritten = λ _. same;
    sizes = ap sizes_of same;
    well = λ good. subst (λ (disk : List (List ℕ)). IsWellFormed disk) (sym same) good;
    tree = λ _. ap tree_in same;
    failures_are = count;
  })

  pub refused_memory : {T : Type 0} (r : Result T MountFault) → IsErrAnd r (λ fault. fault ≡ NoMemory) → IfErr r (λ fault. HandsBack contents failures first middle fault)
  refused_memory (Ok x) is = tt
  refused_memory (Err fault) is = refused fault is

  -- the device failed after the examination
  pub handed_back : (fault : MountFault) → fault ≡ DeviceFault → sizes_of (contents last) ≡ sizes_of (contents first) → IsWellFormed (contents last) → tree_in (contents last) ≡ tree_in (contents first)
      → failures last ≡ fault_count_of DeviceFault (failures middle) → HandsBack contents failures first last fault
  handed_back fault is sizes well tree faults = subst (λ (f : MountFault). HandsBack contents failures first last f) (sym is) (record {
    judges = tt;
    unwritten = λ other. absurd (other refl);
    sizes = sizes;
    well = λ good. well;
    tree = λ good. tree;
    failures_are = faults ∙ ap (fault_count_of DeviceFault) count;
  })
