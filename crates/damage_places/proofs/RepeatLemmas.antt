-- Blocks that are named again.
use Rattle.image_tree.proofs.Vocabulary.{All, All-append, List, ap, arith, gathered, get_or, is_block, length, named_by, numbers_by, subst, sym, take, ℕ, ◌+◌, ◌-◌, ◌<◌, ◌∙◌, ◌≡◌, ◌≢◌, ◌≤◌}
use Rattle.std.proofs.lemmas.List.Elements.{All-filter}
use Rattle.std.proofs.Common.{get_or-take}
use Rattle.fs_layout.proofs.Vocabulary.{length-take-le}
use Rattle.image_tree.proofs.Gathered.{gathered-more, gathered-none}
use Rattle.image_tree.proofs.NumberLists.{All-nil}
use Rattle.damage_places.proofs.NumberLemmas.{none_of}
use Rattle.damage_places.specs.declared.place.Naming.{Naming}
use Rattle.damage_places.specs.Places.{IsRepeat, IsShared, Names, Precedes, named_before}

pub none_yet : (disk : List (List ℕ)) (b : ℕ) → All (λ c. c ≢ b) (gathered (named_by disk) 0)
none_yet disk b = subst (All (λ c. c ≢ b)) (sym (gathered-none (named_by disk))) (All-nil (λ c. c ≢ b))

pub none_more : (disk : List (List ℕ)) (b i : ℕ) (numbers : List ℕ) → 1 ≤ i → numbers ≡ numbers_by disk i → All (λ c. c ≢ b) numbers
    → All (λ c. c ≢ b) (gathered (named_by disk) (i - 1)) → All (λ c. c ≢ b) (gathered (named_by disk) (i + 1 - 1))
none_more disk b i numbers low e here before =
    let P : ℕ → Type 0 = λ c. c ≢ b in
    subst (All P) (sym (gathered-more (named_by disk) i low))
    (All-append P (gathered (named_by disk) (i - 1)) (named_by disk i) before (All-filter is_block P (numbers_by disk i) (subst (All P) e here)))

-- it is named by an inode below, or before by the same one
pub named_somewhere : (disk : List (List ℕ)) (b : ℕ) (second : Naming) (front : List ℕ) → IsRepeat disk b second → front ≡ take second.place (numbers_by disk second.inode)
    → All (λ c. c ≢ b) (gathered (named_by disk) (second.inode - 1)) → All (λ c. c ≢ b) front → ⊥
named_somewhere disk b second front r e below here =
    let P : ℕ → Type 0 = λ c. c ≢ b in
    none_of (named_before disk second) b
    (All-append P _ _ below (All-filter is_block P (take second.place (numbers_by disk second.inode)) (subst (All P) e here))) r.again

pub own_naming : (disk : List (List ℕ)) (b : ℕ) (second : Naming) (front : List ℕ) (place : ℕ) → IsRepeat disk b second → front ≡ take second.place (numbers_by disk second.inode)
    → place < length front → get_or front place 0 ≡ b
    → (place < second.place) × ((place < length (numbers_by disk second.inode)) × (get_or (numbers_by disk second.inode) place 0 ≡ b))
own_naming disk b second front place r e within is =
    let ns = numbers_by disk second.inode in
    let last : second.place < length ns = r.names.0 in
    let l : length front ≡ second.place = ap length e ∙ length-take-le second.place ns (omega arith) in
    let before : place < second.place = omega arith in
    (before, (omega arith, sym (ap (λ (xs : List ℕ). get_or xs place 0) e ∙ get_or-take second.place ns place 0 before) ∙ is))

pub shared_here : (disk now : List (List ℕ)) (b : ℕ) (first second : Naming) → IsRepeat disk b second → now ≡ disk
    → (1 ≤ first.inode) × Precedes first second × Names now first b → IsShared disk b first second
shared_here disk now b first second r same n = record {
  block = r.block;
  low = n.0;
  high = r.high;
  order = n.1;
  names_first = subst (λ (d : List (List ℕ)). Names d first b) same n.2;
  names_second = r.names;
  before = r.once;
}
