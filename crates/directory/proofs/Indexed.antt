-- A directory searched, by its index and then by its blocks.
use Rattle.directory.proofs.Vocabulary.{Version, ◌≡◌, ◌≢◌, ℕ, zero, suc, ◌+◌, ◌-◌, ◌*◌, ◌<◌, ◌≤◌, min, nat_le, if◌then◌else◌, ◌&&◌, ◌==◌, Bool, true, false, List, [], ◌∷◌, ◌++◌, length, drop, take, Option, Some, None, refl, sym, ap, ◌∙◌, subst, arith, and_parts, eqb-true, eqb-false, leb-true, append-nil, length-append, length-take, Dinode, Dirent, Free, Used, u16_at, record_at, dirent_of, dirent_at, number-part, IndexState, IndexedSlot, Loaded, is_used, IsIndex, first_gap, first_of, raised, used_in, slots_known, index_room, Found, Aim, Unused, Searched, block_count, found_in, most_slots, slot_count, slots_in, AreSlots, IsFirst, dirent_len_of, dirents_per_block_of, kept, in_range, take_blocks}
use Rattle.directory.proofs.EntryNumbers.{entry_number}
use Rattle.directory.proofs.FoundInBlocks.{IsBetween, before_mid, behind_none, first_of_all, found_in_block, slot-is, widen}
use Rattle.directory.proofs.FoundInIndex.{first_of_right, gap_few, none_free}
use Rattle.directory.proofs.Listed.{Listed, over, passed, here, listed_joined, listed_none, listed_upto, upto_listed}
use Rattle.directory.proofs.Named.{used_number}
use Rattle.directory.proofs.Padded.{read_kept}

-- what was found first, else what is found from then on
abbrev pub else_searched : Option Found → IndexState → (IndexState → Searched) → Searched
else_searched (Some f) x next = record { found = Some f; index = x }
else_searched None x next = next x

-- what is found in this number of blocks from block k on, and the index as it is then
unfoldable pub searched_from : Version → ℕ → Aim → Dinode → (ℕ → List ℕ) → ℕ → IndexState → Searched
searched_from v zero aim d content k x = record { found = None; index = x }
searched_from v (suc n) aim d content k x = else_searched (found_in v aim d k (content k)) (raised v d k (content k) x) (searched_from v n aim d content (k + 1))

abbrev pub searched : Version → Aim → Loaded → (ℕ → List ℕ) → Searched
searched v aim l content = else_searched (first_of v aim l.inode l.index) l.index (searched_from v (block_count v l.inode - l.index.blocks) aim l.inode content l.index.blocks)

-- ---- an index raised

module _ (v : Version) (bytes : List ℕ) where
  unnumbered : (o : Option Dirent) → dirent_of v bytes ≡ o → u16_at bytes 0 ≡ 0 → is_used o ≡ false
  unnumbered None e h = refl
  unnumbered (Some Free) e h = refl
  unnumbered (Some (Used n name)) e h = absurd (used_number v bytes n name e h)

  numbered : (o : Option Dirent) → dirent_of v bytes ≡ o → o ≢ None → u16_at bytes 0 ≢ 0 → is_used o ≡ true
  numbered None e some h = absurd (some refl)
  numbered (Some Free) e some h = absurd (h (entry_number v bytes Free e))
  numbered (Some (Used n name)) e some h = refl

module _ (v : Version) (content : ℕ → List ℕ) (d : Dinode) (slots : ℕ → Option Dirent) (are : AreSlots v (slot_count v d) content slots) where
  -- the slot at a place of block k
  one_listed : (k p : ℕ) (b : Bool) → p < dirents_per_block_of v → dirents_per_block_of v * k + p < slot_count v d
      → (u16_at (content k) (dirent_len_of v * p) == 0) ≡ b
      → Listed v slots (dirents_per_block_of v * k + p) 1
      (if b then [] else record { place = dirents_per_block_of v * k + p; bytes = kept (record_at (dirent_len_of v) p (content k)) } ∷ [])
  one_listed k p b within few t =
      let is : slots (dirents_per_block_of v * k + p) ≡ dirent_at v p (content k) =
      slot-is v content slots (slot_count v d) are.shown k p within few in
      let some : dirent_at v p (content k) ≢ None = λ h. are.entries (dirents_per_block_of v * k + p) few (is ∙ h) in
      by_test b is some t
    where
      by_test : (b : Bool) → slots (dirents_per_block_of v * k + p) ≡ dirent_at v p (content k) → dirent_at v p (content k) ≢ None → (u16_at (content k) (dirent_len_of v * p) == 0) ≡ b
          → Listed v slots (dirents_per_block_of v * k + p) 1
          (if b then [] else record { place = dirents_per_block_of v * k + p; bytes = kept (record_at (dirent_len_of v) p (content k)) } ∷ [])
      by_test true is some t =
          let none : u16_at (record_at (dirent_len_of v) p (content k)) 0 ≡ 0 = number-part v (content k) p ∙ eqb-true (u16_at (content k) (dirent_len_of v * p)) 0 t in
          passed (ap is_used is ∙ unnumbered v (record_at (dirent_len_of v) p (content k)) (dirent_at v p (content k)) refl none) over
      by_test false is some t =
          let short : length (record_at (dirent_len_of v) p (content k)) ≤ dirent_len_of v = omega (arith, length-take (dirent_len_of v) (drop (dirent_len_of v * p) (content k))) in
          let number : u16_at (record_at (dirent_len_of v) p (content k)) 0 ≢ 0 = λ h. eqb-false (u16_at (content k) (dirent_len_of v * p)) 0 t (sym (number-part v (content k) p) ∙ h) in
          here (ap is_used is ∙ numbered v (record_at (dirent_len_of v) p (content k)) (dirent_at v p (content k)) refl some number) refl
          (read_kept v (record_at (dirent_len_of v) p (content k)) short ∙ sym is) over

  used_listed : (k limit : ℕ) → limit ≤ dirents_per_block_of v → ((p : ℕ) → p < limit → dirents_per_block_of v * k + p < slot_count v d) → Listed v slots (dirents_per_block_of v * k) limit (used_in v k limit (content k))
  unfolding used_in
  used_listed k zero few within = over
  used_listed k (suc p) few within =
      listed_joined v slots (suc p) (used_listed k p (omega arith) (λ q h. within q (omega arith))) refl
      (one_listed k p (u16_at (content k) (dirent_len_of v * p) == 0) (omega arith) (within p (omega arith)) refl) (omega arith)

  -- the used ones of a whole block
  block_listed : (k : ℕ) → Listed v slots (dirents_per_block_of v * k) (dirents_per_block_of v) (used_in v k (slots_in v d k) (content k))
  block_listed k =
      let limit : ℕ = slots_in v d k in
      let used : List IndexedSlot = used_in v k limit (content k) in
      let none = listed_none v slots (dirents_per_block_of v - limit) (dirents_per_block_of v * k + limit) (λ q l h. are.beyond q (omega arith)) in
      subst (λ (es : List IndexedSlot). Listed v slots (dirents_per_block_of v * k) (dirents_per_block_of v) es) (append-nil used)
      (listed_joined v slots (dirents_per_block_of v) (used_listed k limit (omega arith) (λ p h. omega arith)) refl none (omega arith))

  pub raised_right : (k : ℕ) (x : IndexState) → IsIndex v x slots → IsIndex v (raised v d k (content k) x) slots
  unfolding IsIndex raised
  raised_right k x right = by_test ((x.blocks == k) && nat_le (length x.slots + length (used_in v k (slots_in v d k) (content k))) 64) refl
    where
      used : List IndexedSlot
      used = used_in v k (slots_in v d k) (content k)

      by_test : (b : Bool) → ((x.blocks == k) && nat_le (length x.slots + length used) 64) ≡ b → IsIndex v (if b then record { blocks = k + 1; slots = x.slots ++ used } else x) slots
      by_test false t = right
      by_test true t =
          let parts = and_parts (x.blocks == k) (nat_le (length x.slots + length used) 64) t in
          let next : x.blocks ≡ k = eqb-true x.blocks k parts.0 in
          let from : dirents_per_block_of v * x.blocks ≡ dirents_per_block_of v * k = ap (λ (n : ℕ). dirents_per_block_of v * n) next in
          let fits : length x.slots + length used ≤ 64 = leb-true (length x.slots + length used) 64 parts.1 in (
            upto_listed v slots (dirents_per_block_of v * (k + 1)) (x.slots ++ used)
                (listed_joined v slots (dirents_per_block_of v * (k + 1)) (listed_upto v slots (dirents_per_block_of v * x.blocks) x.slots right.0) (omega arith) (block_listed k) (omega arith)),
            omega (arith, length-append x.slots used),
          )

  -- ---- what is found

  else_index : (o : Option Found) (x : IndexState) (next : IndexState → Searched) → IsIndex v x slots → ((y : IndexState) → IsIndex v y slots → IsIndex v (next y).index slots)
      → IsIndex v (else_searched o x next).index slots
  else_index None x next right rest = rest x right
  else_index (Some f) x next right rest = right

  index_from : (aim : Aim) (n k : ℕ) (x : IndexState) → IsIndex v x slots → IsIndex v (searched_from v n aim d content k x).index slots
  unfolding searched_from
  index_from aim zero k x right = right
  index_from aim (suc n) k x right =
      else_index (found_in v aim d k (content k)) (raised v d k (content k) x) (searched_from v n aim d content (k + 1)) (raised_right k x right)
      (λ y h. index_from aim n (k + 1) y h)

  -- block k, and then those after it
  else_found : (aim : Aim) (lo mid hi : ℕ) (o : Option Found) (x : IndexState) (next : IndexState → Searched) → lo ≤ mid → mid ≤ hi → IsBetween aim slots lo mid o
      → ((y : IndexState) → IsBetween aim slots mid hi (next y).found) → IsBetween aim slots lo hi (else_searched o x next).found
  else_found aim lo mid hi None x next l h found rest = behind_none aim slots lo mid hi (next x).found l h found (rest x)
  else_found aim lo mid hi (Some f) x next l h found rest = before_mid aim slots lo mid hi f h found

  finds_from : (aim : Aim) (n k : ℕ) (x : IndexState) → n ≡ block_count v d - k → IsBetween aim slots (dirents_per_block_of v * k) (slot_count v d) (searched_from v n aim d content k x).found
  unfolding searched_from
  finds_from aim zero k x e = λ s l h. let more : k < block_count v d = (take_blocks v (slot_count v d) k).1 (omega arith) in absurd (omega arith)
  finds_from aim (suc n) k x e =
      let some : dirents_per_block_of v * k < slot_count v d = (take_blocks v (slot_count v d) k).0 (omega arith) in
      let mid : ℕ = dirents_per_block_of v * k + slots_in v d k in
      let next : IndexState → Searched = searched_from v n aim d content (k + 1) in
      else_found aim (dirents_per_block_of v * k) mid (slot_count v d) (found_in v aim d k (content k)) (raised v d k (content k) x) next
      (omega arith) (omega arith)
      (found_in_block v content slots d are.shown aim k)
      (λ y. widen aim slots mid (dirents_per_block_of v * (k + 1)) (slot_count v d) (next y).found (omega arith) (λ s a b c. omega arith) (finds_from aim n (k + 1) y (omega arith)))

pub searched_right : (v : Version) (content : ℕ → List ℕ) (l : Loaded) (slots : ℕ → Option Dirent) → AreSlots v (slot_count v l.inode) content slots → IsIndex v l.index slots → (aim : Aim)
    → IsFirst aim slots (slot_count v l.inode) (searched v aim l content).found × IsIndex v (searched v aim l content).index slots
searched_right v content l slots are right aim =
    let d : Dinode = l.inode in
    let x : IndexState = l.index in
    let count : ℕ = slot_count v d in
    let known : ℕ = min (slots_known v x) count in
    let n : ℕ = block_count v d - x.blocks in
    let next : IndexState → Searched = searched_from v n aim d content x.blocks in
    let o : Option Found = first_of v aim d x in
    let found = else_found v content d slots are aim 0 known count o x next (omega arith) (omega arith)
    (first_of_right v d x slots right are.entries are.beyond aim)
    (λ y. widen aim slots known (slots_known v x) count (next y).found (omega arith) (λ s a b c. omega arith)
    (finds_from v content d slots are aim n x.blocks y refl)) in (
      first_of_all aim slots 0 count (else_searched o x next).found refl found,
      else_index v content d slots are o x next right (λ y h. index_from v content d slots are aim n x.blocks y h),
    )

-- if all slots are there and the index has none free, it has the blocks of no more slots than it has room for
pub few_known : (v : Version) (l : Loaded) → slot_count v l.inode ≡ most_slots v → first_of v Unused l.inode l.index ≡ None
    → slots_known v l.index ≤ index_room
unfolding first_of
few_known v l full none =
    let slots : List IndexedSlot = take 64 l.index.slots in
    omega (arith, none_free (min (slots_known v l.index) (slot_count v l.inode)) (first_gap 0 slots) none, gap_few 0 slots, length-take 64 l.index.slots, (in_range v).4)
