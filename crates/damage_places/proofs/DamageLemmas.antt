-- A place of damage is damaged.
use Rattle.image_tree.proofs.Vocabulary.{All, AreGoodSlots, Contains, Contains-append_left, Contains-append_right, Dirent, IsGoodSuper, IsOnce, List, None, Option, Super, Version, [], ap, arith, filter, gathered, get_or, get_or_default, HasGoodLog, is_block, is_node, length, named_by, numbers_by, sizes_of, subst, sym, take, true, false≢true, inl, inr, ⊎_elim, ℕ, Bool, slot_number, slots_in, ◌+◌, ◌-◌, ◌++◌, ◌<◌, ◌∙◌, ◌∷◌, ◌≡◌, ◌≤◌}
use Rattle.std.proofs.Common.{get_or-take}
use Rattle.fs_layout.proofs.Vocabulary.{length-take-le}
use Rattle.image_tree.proofs.Apart.{gathered_has}
use Rattle.image_tree.proofs.Gathered.{gathered-more, twice_gathered}
use Rattle.image_tree.proofs.MarkLemmas.{front_once, kept_more, kept_other, push_twice, twice_front}
use Rattle.image_tree.proofs.SlotNumbers.{All-at, flat_more, flat_split}
use Rattle.image_tree.specs.Links.{Reaches, children_of, further_names_of, names_of, proper_names_of, slot_name, slot_names, up}
use Rattle.image_tree.specs.Checks.{IsGoodCount, IsGoodSize, IsOneTree}
use Rattle.image_tree.specs.Inodes.{inode_of}
use Rattle.damage_places.specs.Vocabulary.{Dinode}
use Rattle.damage_places.proofs.NumberLemmas.{contains_at, contains_filter}
use Rattle.damage_places.specs.Vocabulary.{IsFirstDamage, last}
use Rattle.damage_places.specs.Checks.{IsPlaced, Passes}
use Rattle.damage_places.specs.Places.{IsFaultOf, IsFormFault, IsLogFault, IsNameFault, IsNumberFault, IsSizeFault, IsCountFault, IsTreeFault, IsShared, IsSlotFault, IsFirstInode, UpToCheck, Keeps, PlacesAreDamage, damage_of_check, named_before}
use Rattle.damage_places.specs.declared.place.Check.{Check}
use Rattle.damage_places.specs.declared.place.Check.TheVariants as checks
use Rattle.damage_places.specs.declared.place.SuperRule.{SuperRule}
use Rattle.damage_places.specs.declared.place.SuperRule.TheVariants as rules
use Rattle.damage_places.specs.declared.place.LogFault.{LogFault}
use Rattle.damage_places.specs.declared.place.LogFault.TheVariants as logs
use Rattle.damage_places.specs.declared.place.Naming.{Naming}
use Rattle.damage_places.specs.declared.place.InodeFault.{InodeFault}
use Rattle.damage_places.specs.declared.place.InodeFault.TheVariants as faults
use Rattle.damage_places.specs.declared.place.Place.TheVariants as places

keeps : (s : Super) (rule : SuperRule) → IsGoodSuper s → Keeps s rule
keeps s rules.Size h = h.size
keeps s rules.LogStart h = h.logstart
keeps s rules.LogLength h = h.nlog
keeps s rules.Log h = h.log
keeps s rules.FewInodes h = h.few_inodes
keeps s rules.ManyInodes h = h.many_inodes
keeps s rules.Inodes h = h.inodes
keeps s rules.Bitmap h = h.bitmap

no_good_log : (disk : List (List ℕ)) (fault : LogFault) → IsLogFault disk fault → HasGoodLog disk → ⊥
no_good_log disk (logs.TooMany count) h good = h.1 (good.count, good.room)
no_good_log disk (logs.Outside index block) h good = h.1.1.bad (good.within index 0 h.1.1.within)
no_good_log disk (logs.Twice first second block) h good = good.once.apart first second 0 h.1.2.order h.1.2.within h.1.2.same

-- ---- blocks that are named twice

named_earlier : (disk : List (List ℕ)) (b : ℕ) (first second : Naming) → IsShared disk b first second → Contains (named_before disk second) b
named_earlier disk b first second h =
    let f = named_by disk in
    let xs = gathered f (second.inode - 1) in
    let ns = numbers_by disk second.inode in
    ⊎_elim
    (λ (lower : first.inode < second.inode).
    let one : Contains (numbers_by disk first.inode) b = (first.place, h.names_first.0, get_or_default (numbers_by disk first.inode) first.place b 0 h.names_first.0 ∙ h.names_first.1) in
    Contains-append_left xs (filter is_block (take second.place ns)) b
    (gathered_has f (second.inode - 1) first.inode b h.low (omega arith) (contains_filter (numbers_by disk first.inode) b h.block one)))
    (λ (same : (first.inode ≡ second.inode) × (first.place < second.place)).
    let within : second.place < length ns = h.names_second.0 in
    let before : first.place < second.place = same.1 in
    let l : length (take second.place ns) ≡ second.place = length-take-le second.place ns (omega arith) in
    let at : get_or ns first.place 0 ≡ b = subst (λ (n : ℕ). get_or (numbers_by disk n) first.place 0 ≡ b) same.0 h.names_first.1 in
    let lt : first.place < length (take second.place ns) = omega arith in
    let one : Contains (take second.place ns) b =
    (first.place, lt, get_or_default (take second.place ns) first.place b 0 lt ∙ get_or-take second.place ns first.place 0 before ∙ at) in
    Contains-append_right xs (filter is_block (take second.place ns)) b (contains_filter (take second.place ns) b h.block one))
    h.order

shared_twice : (disk : List (List ℕ)) (b : ℕ) (first second : Naming) → IsShared disk b first second → IsOnce (gathered (named_by disk) (last disk)) → ⊥
shared_twice disk b first second h =
    let f = named_by disk in
    let i = second.inode in
    let xs = gathered f (i - 1) in
    let ns = numbers_by disk i in
    let low : 1 ≤ i = ⊎_elim (λ (l : first.inode < i). omega (arith, h.low)) (λ (e : (first.inode ≡ i) × (first.place < second.place)). let is = e.0 in omega (arith, h.low)) h.order in
    let high = h.high in
    let more : xs ++ filter is_block (take (second.place + 1) ns) ≡ named_before disk second ++ b ∷ [] =
    kept_more xs ns second.place h.names_second.0
    ∙ ap (λ (n : ℕ). named_before disk second ++ filter is_block (n ∷ [])) h.names_second.1 ∙ kept_other (named_before disk second) b h.block in
    let bad : IsOnce (xs ++ filter is_block (take (second.place + 1) ns)) → ⊥ =
    λ once. push_twice (named_before disk second) b (named_earlier disk b first second h) (subst IsOnce more once) in
    twice_gathered f (i + 1 - 1) (last disk) (omega arith)
    (λ once. twice_front xs ns (second.place + 1) bad (subst IsOnce (gathered-more f i low) once))

-- ---- slots

form_bad : (p : ℕ → Bool) (i : ℕ) (slots : List (Option Dirent)) (fault : InodeFault) → IsFormFault i slots fault → AreGoodSlots p i slots → ⊥
form_bad p i slots faults.NoDot h good = h good.first
form_bad p i slots faults.NoDotDot h good = h.1 good.second
form_bad p i slots (faults.NoEntry slot) h good = good.entries slot None h.1 h.2
form_bad p i slots _ h good = absurd h

number_bad : (p : ℕ → Bool) (i : ℕ) (slots : List (Option Dirent)) (fault : InodeFault) → IsNumberFault p slots fault → AreGoodSlots p i slots → ⊥
number_bad p i slots (faults.NoNode slot number) h good =
    let all : All (λ n. p n ≡ true) (slot_number (get_or slots slot None)) =
    All-at (λ n. p n ≡ true) slot_number slots slot (get_or slots slot None) h.0 (get_or_default slots slot None (get_or slots slot None) h.0) good.nodes in
    let here : All (λ n. p n ≡ true) (number ∷ []) = subst (All (λ n. p n ≡ true)) h.1 all in
    false≢true (sym h.2 ∙ here 0 0 (omega arith))
number_bad p i slots _ h good = absurd h

name_bad : (p : ℕ → Bool) (i : ℕ) (slots : List (Option Dirent)) (fault : InodeFault) → IsNameFault slots fault → AreGoodSlots p i slots → ⊥
name_bad p i slots (faults.NameTwice first slot name) h good =
    let before : first < slot = h.0 in
    let within : slot < length slots = h.1 in
    let l : length (take slot slots) ≡ slot = length-take-le slot slots (omega arith) in
    let lt : first < length (take slot slots) = omega arith in
    let has : Contains (slot_names (take slot slots)) name.items =
    contains_at slot_name (take slot slots) first None name.items lt (ap slot_name (get_or-take slot slots first None before) ∙ h.2) in
    let whole : IsOnce (slot_names (take (slot + 1) slots)) = front_once (slot_names (take (slot + 1) slots)) _ (subst IsOnce (flat_split slot_name slots (slot + 1)) good.names) in
    push_twice (slot_names (take slot slots)) name.items has
    (subst IsOnce (flat_more slot_name slots slot None within ∙ ap (λ (ys : List (List ℕ)). slot_names (take slot slots) ++ ys) h.3) whole)
name_bad p i slots _ h good = absurd h

slot_bad : (p : ℕ → Bool) (i : ℕ) (slots : List (Option Dirent)) (fault : InodeFault) → IsSlotFault p i slots fault → AreGoodSlots p i slots → ⊥
slot_bad p i slots fault h good = elim h [
  | inl form ↦ form_bad p i slots fault form good
  | inr rest ↦ elim rest [
    | inl number ↦ number_bad p i slots fault number.2 good
    | inr name ↦ name_bad p i slots fault name.3 good
  ]
]

-- ---- one inode

size_bad : (v : Version) (disk : List (List ℕ)) (d : Dinode) (fault : InodeFault) → IsSizeFault v disk d fault → IsGoodSize v disk d → ⊥
size_bad v disk d (faults.Hole block size) h good = good.named block h.2.within h.2.bad
size_bad v disk d (faults.TooLarge size) h good = let a = h.1 in let b = good.fits.limit in omega arith
size_bad v disk d (faults.PartSlots size) h good = h.4 (good.fits.slots h.2 h.3)
size_bad v disk d _ h good = absurd h

tree_bad : (i up further own : ℕ) (R : Type 0) (fault : InodeFault) → IsTreeFault i up further own R fault → IsPlaced i up further own R → ⊥
tree_bad i up further own R (faults.RootUp u) h good = h.2 (good.root h.0)
tree_bad i up further own R (faults.RootNamed times) h good = h.3 (good.root_unnamed h.0)
tree_bad i up further own R (faults.Named times) h good = h.2 (good.named h.0)
tree_bad i up further own R (faults.Elsewhere u) h good = h.3 (good.proper h.0)
tree_bad i up further own R (faults.Astray u) h good = h.4 good.reaches
tree_bad i up further own R _ h good = absurd h

count_bad : (d : Dinode) (n further k : ℕ) (fault : InodeFault) → IsCountFault d n further k fault → IsGoodCount d n further k → ⊥
count_bad d n further k (faults.Names links names) h good = h.3 (good.file h.0)
count_bad d n further k (faults.Children links children) h good = h.4 (good.directory h.0 h.1)
count_bad d n further k (faults.DeadNamed times) h good = h.3 (good.dead h.0 h.1)
count_bad d n further k _ h good = absurd h

inode_bad : (v : Version) (disk : List (List ℕ)) (i : ℕ) (check : Check) (fault : InodeFault) → IsFaultOf v disk i check fault → Passes v disk check i → ⊥
inode_bad v disk i checks.Types (faults.Type kind links) h good = h.2 good
inode_bad v disk i checks.Types _ h good = absurd h
inode_bad v disk i checks.Numbers (faults.Outside place block) h good = h.1.bad (good place 0 h.1.within)
inode_bad v disk i checks.Numbers _ h good = absurd h
inode_bad v disk i checks.Marks (faults.Unmarked place block) h good = h.1.bad (good place 0 h.1.within)
inode_bad v disk i checks.Marks _ h good = absurd h
inode_bad v disk i checks.Sizes fault h good = size_bad v disk (inode_of disk i) fault h.1 (good h.0)
inode_bad v disk i checks.Slots fault h good = slot_bad (is_node disk) i (slots_in v disk i) fault h.1 (good h.0)
inode_bad v disk i checks.Tree fault h good =
    tree_bad i (up v disk i) (further_names_of v disk i) (proper_names_of v disk i) (Reaches (up v disk) i) fault h.1 (good h.0)
inode_bad v disk i checks.Counts fault h good =
    count_bad (inode_of disk i) (names_of v disk i) (further_names_of v disk i) (children_of v disk i) fault h.1 (good h.0)

placed : (v : Version) (disk : List (List ℕ)) (i : ℕ) → IsOneTree v disk → Passes v disk checks.Tree i
placed v disk i one =
    λ live. record {
      root = λ e. subst (λ (n : ℕ). up v disk n ≡ 1) (sym e) one.root;
      root_unnamed = λ e. subst (λ (n : ℕ). further_names_of v disk n ≡ 0) (sym e) one.root_unnamed;
      named = λ ne. one.named i live ne;
      proper = λ ne. one.proper i live ne;
      reaches = one.reaches i live;
    }

check_fails : (v : Version) (disk : List (List ℕ)) (i : ℕ) (check : Check) (fault : InodeFault) → UpToCheck v disk check → IsFirstInode v disk 1 check i fault
    → IsFirstDamage v disk (damage_of_check check)
check_fails v disk i checks.Types fault before h = (before, λ good. inode_bad v disk i checks.Types fault h.fault (good i h.low h.high))
check_fails v disk i checks.Numbers fault before h = (before, λ good. inode_bad v disk i checks.Numbers fault h.fault (good i h.low h.high))
check_fails v disk i checks.Marks fault before h = (before.0, λ good. inode_bad v disk i checks.Marks fault h.fault (good.named i h.low h.high))
check_fails v disk i checks.Sizes fault before h = (before, λ good. inode_bad v disk i checks.Sizes fault h.fault (good i))
check_fails v disk i checks.Slots fault before h = (before, λ good. inode_bad v disk i checks.Slots fault h.fault (good i))
check_fails v disk i checks.Tree fault before h = (before, λ good. inode_bad v disk i checks.Tree fault h.fault (placed v disk i good))
check_fails v disk i checks.Counts fault before h = (before, λ good. inode_bad v disk i checks.Counts fault h.fault (good i))

-- ---- all

pub places_are_damage : PlacesAreDamage
places_are_damage v disk (places.Short blocks needed) h =
    let same : blocks ≡ length disk = h.0 in
    let few : blocks < needed = h.1 in
    ⊎_elim
    (λ (two : needed ≡ 2). inl (λ enough. absurd (omega (arith, same, few, two, enough))))
    (λ up. inr (up.0, λ fits. absurd (omega (arith, same, few, up.1, fits))))
    h.2
places_are_damage v disk (places.Magic found) h = (h.0, λ good. h.2 (h.1 ∙ good.0))
places_are_damage v disk (places.Sizes rule sizes) h = (h.0, λ good. h.4 (keeps (sizes_of disk) rule good.1))
places_are_damage v disk (places.Log fault) h = (h.0, no_good_log disk fault h.1)
places_are_damage v disk (places.Root kind links) h = (h.0, h.1.2)
places_are_damage v disk (places.Shared block first second) h = (h.0, shared_twice disk block first second h.1)
places_are_damage v disk (places.Front block) h = (h.0, λ good. false≢true (sym h.1.1 ∙ good.front block h.1.0))
places_are_damage v disk (places.Inode check inode fault) h = check_fails v disk inode check fault h.0 h.1
