-- What all inodes pass, and the first that doesn't.
use Rattle.image_tree.proofs.Vocabulary.{HasGoodCounts, HasGoodSizes, HasGoodSlots, HasRoot, IsOneTree, List, Version, ap, arith, inode_of, is_live_directory, is_number, is_positive, lt-ltb, negsuc, pos, refl, sizes_of, subst, sym, true, ℕ, ℤ, ◌<◌, ◌<ℤ◌, ◌≡◌, ◌≤◌}
use Rattle.std.proofs.lemmas.Int.{ints}
use Rattle.std.proofs.Common.{Option, None}
use Rattle.std.specs.Option.{MatchOption}
use Rattle.image_tree.proofs.Nodes.{directory_from, directory_is, node_is}
use Rattle.damage_places.specs.Checks.{Passes}
use Rattle.damage_places.specs.Places.{IsCounted, IsFirstInode, IsFirstPlace, IsInodePlace, IsListFault, IsLogFault, UpToCheck}
use Rattle.damage_places.specs.Vocabulary.{logged, IsWellFormed, UpToMarks, UpToSlots}
use Rattle.damage_places.proofs.InodeLemmas.{match_map}
use Rattle.damage_places.specs.declared.place.Check.{Check}
use Rattle.damage_places.specs.declared.place.Check.TheVariants as checks
use Rattle.damage_places.specs.declared.place.LogFault.{LogFault}
use Rattle.damage_places.specs.declared.place.LogFault.TheVariants as logs
use Rattle.damage_places.specs.declared.place.Place.{Place}
use Rattle.damage_places.specs.declared.place.Place.TheVariants as places

pub list_place : (disk : List (List ℕ)) (fault : LogFault) → IsCounted disk → IsListFault (sizes_of disk) (logged disk) fault → IsLogFault disk fault
list_place disk (logs.TooMany count) counted h = absurd h
list_place disk (logs.Outside index block) counted h = (counted, h)
list_place disk (logs.Twice first second block) counted h = (counted, h)

pub inode_place : (v : Version) (disk : List (List ℕ)) (check : Check) (place : Place) → UpToCheck v disk check → IsInodePlace v disk 1 check place → IsFirstPlace v disk place
inode_place v disk check (places.Inode own inode fault) before h =
    subst (λ (c : Check). UpToCheck v disk c × IsFirstInode v disk 1 c inode fault) (sym h.0) (before, h.1)
inode_place v disk check _ before h = absurd h

pub sizes_all : (v : Version) (disk : List (List ℕ)) → ((i : ℕ) → 1 ≤ i → i < (sizes_of disk).ninodes → Passes v disk checks.Sizes i) → HasGoodSizes v disk
sizes_all v disk all = λ i node. let is = node_is disk i node in all i is.low is.bound node

pub slots_all : (v : Version) (disk : List (List ℕ)) → ((i : ℕ) → 1 ≤ i → i < (sizes_of disk).ninodes → Passes v disk checks.Slots i) → HasGoodSlots v disk
slots_all v disk all = λ i live. let is = directory_is disk i live in all i is.low is.bound live

pub counts_all : (v : Version) (disk : List (List ℕ)) → ((i : ℕ) → 1 ≤ i → i < (sizes_of disk).ninodes → Passes v disk checks.Counts i) → HasGoodCounts v disk
counts_all v disk all = λ i node. let is = node_is disk i node in all i is.low is.bound node

positive : (z : ℤ) → pos 0 <ℤ z → is_positive z ≡ true
positive (pos n) h = lt-ltb 0 n (omega (arith, ints, h))
positive (negsuc n) h = absurd (omega (arith, ints, h))

root_live : (disk : List (List ℕ)) → 2 ≤ (sizes_of disk).ninodes → HasRoot disk → is_live_directory disk 1 ≡ true
root_live disk two root =
    directory_from disk 1 (record { low = omega arith; bound = two; directory = ap (is_number 1) root.0; live = positive (inode_of disk 1).nlink root.1 })

pub tree_all : (v : Version) (disk : List (List ℕ)) → 2 ≤ (sizes_of disk).ninodes → HasRoot disk
    → ((i : ℕ) → 1 ≤ i → i < (sizes_of disk).ninodes → Passes v disk checks.Tree i) → IsOneTree v disk
tree_all v disk two root all =
    let first = all 1 (omega arith) two (root_live disk two root) in
    record {
      root = first.root refl;
      root_unnamed = first.root_unnamed refl;
      named = λ i live ne. let is = directory_is disk i live in (all i is.low is.bound live).named ne;
      proper = λ i live ne. let is = directory_is disk i live in (all i is.low is.bound live).proper ne;
      reaches = λ i live. let is = directory_is disk i live in (all i is.low is.bound live).reaches;
    }

-- ---- answers

pub first_none : {X : Type 0} (found : Option X) (P : Type 0) (Q : X → Type 0) → found ≡ None → MatchOption found P Q → P
first_none found P Q e h = subst (λ (o : Option _). MatchOption o P Q) e h

-- what a search for this check says of a disk
abbrev pub Searched : Version → List (List ℕ) → Check → Option Place → Type 0
Searched v disk check found =
    MatchOption found ((i : ℕ) → 1 ≤ i → i < (sizes_of disk).ninodes → Passes v disk check i) (IsInodePlace v disk 1 check)

pub sizes_passed : (v : Version) (disk : List (List ℕ)) (found : Option Place) → found ≡ None → Searched v disk checks.Sizes found → HasGoodSizes v disk
sizes_passed v disk found e h = sizes_all v disk (first_none found _ _ e h)

pub slots_place : (v : Version) (disk now : List (List ℕ)) (found : Option Place) → now ≡ disk → UpToMarks v disk → HasGoodSizes v disk → Searched v now checks.Slots found
    → MatchOption found (UpToSlots v disk) (IsFirstPlace v disk)
slots_place v disk now found same before sizes h =
    match_map found _ _ _ _
    (λ all. ((before, sizes), slots_all v disk all))
    (λ place bad. inode_place v disk checks.Slots place (before, sizes) bad)
    (subst (λ (d : List (List ℕ)). Searched v d checks.Slots found) same h)

pub tree_passed : (v : Version) (disk now : List (List ℕ)) (found : Option Place) → now ≡ disk → 2 ≤ (sizes_of disk).ninodes → HasRoot disk → found ≡ None
    → Searched v now checks.Tree found → IsOneTree v disk
tree_passed v disk now found same two root e h =
    tree_all v disk two root (first_none found _ _ e (subst (λ (d : List (List ℕ)). Searched v d checks.Tree found) same h))

pub counts_place : (v : Version) (disk now : List (List ℕ)) (found : Option Place) → now ≡ disk → UpToSlots v disk → IsOneTree v disk → Searched v now checks.Counts found
    → MatchOption found (IsWellFormed v disk) (IsFirstPlace v disk)
counts_place v disk now found same before one h =
    match_map found _ _ _ _
    (λ all. ((before, one), counts_all v disk all))
    (λ place bad. inode_place v disk checks.Counts place (before, one) bad)
    (subst (λ (d : List (List ℕ)). Searched v d checks.Counts found) same h)
