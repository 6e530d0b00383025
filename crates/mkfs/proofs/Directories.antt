-- Which inodes of an image are nodes and directories.
use Rattle.mkfs.proofs.Vocabulary.{Version, ◌≡◌, ◌≢◌, ◌⊎◌, inl, inr, ⊎_elim, ℕ, ◌+◌, ◌-◌, ◌<◌, ◌≤◌, true, false, List, [], length, map, Some, sym, ap, ◌∙◌, refl, arith, cases_lt, false≢true, false_from_ne_true, sizes_of, inode_of, is_number, is_positive, is_free, is_directory, is_live, is_node, is_live_directory, slots_in, node_is, node_from, directory_is, directory_from}
use Rattle.mkfs.proofs.Basics.{free_inode, all_entries}
use Rattle.mkfs.proofs.FilesShown.{ShowsFiles}

module _ (v : Version) (disk : List (List ℕ)) (ninodes : ℕ) (names contents : List (List ℕ)) (h : ShowsFiles v disk ninodes names contents) where
  -- the root
  pub root_directory : is_directory (inode_of disk 1) ≡ true
  root_directory = ap (is_number 1) h.root.kind

  pub root_live : is_live (inode_of disk 1) ≡ true
  root_live = ap is_positive h.root.count

  pub root_bound : 1 < (sizes_of disk).ninodes
  root_bound = omega (arith, h.count, h.room)

  pub root_is_live_directory : is_live_directory disk 1 ≡ true
  root_is_live_directory = directory_from disk 1 (record { low = omega arith; bound = root_bound; directory = root_directory; live = root_live })

  pub root_is_node : is_node disk 1 ≡ true
  root_is_node = node_from disk 1 (record { low = omega arith; bound = root_bound; used = ap (is_number 0) h.root.kind })

  -- the files
  pub file_no_directory : (j : ℕ) → j < length contents → is_directory (inode_of disk (j + 2)) ≡ false
  file_no_directory j l = ap (is_number 1) (h.file j l).kind

  pub file_is_node : (j : ℕ) → j < length contents → is_node disk (j + 2) ≡ true
  file_is_node j l = node_from disk (j + 2) (record { low = omega arith; bound = omega (arith, h.count, h.room); used = ap (is_number 0) (h.file j l).kind })

  -- file j is this inode
  abbrev pub IsFile : ℕ → Type 0
  IsFile i = (j : ℕ) × (j < length contents) × (j + 2 ≡ i)

  -- each inode is the root's, a file's or free
  pub which_inode : (i : ℕ) → 1 ≤ i → i < (sizes_of disk).ninodes → (i ≡ 1) ⊎ (IsFile i ⊎ (inode_of disk i ≡ free_inode))
  which_inode i low bound =
      ⊎_elim
      (λ (more : 1 < i).
      ⊎_elim
      (λ (past : 1 + length contents < i). inr (inr (h.free i past (omega (arith, h.count)))))
      (λ (within : i ≤ 1 + length contents). inr (inl (i - 2, omega arith, omega arith)))
      (cases_lt (1 + length contents) i))
      (λ (one : i ≤ 1). inl (omega arith))
      (cases_lt 1 i)

  pub which_node : (i : ℕ) → is_node disk i ≡ true → (i ≡ 1) ⊎ IsFile i
  which_node i node =
      let is = node_is disk i node in
      ⊎_elim
      (λ (root : i ≡ 1). inl root)
      (λ (other : IsFile i ⊎ (inode_of disk i ≡ free_inode)).
      ⊎_elim
      (λ (file : IsFile i). inr file)
      (λ (free : inode_of disk i ≡ free_inode). absurd (false≢true (sym is.used ∙ ap is_free free)))
      other)
      (which_inode i is.low is.bound)

  -- the root is the only directory
  pub one_directory : (i : ℕ) → is_live_directory disk i ≡ true → i ≡ 1
  one_directory i live =
      let is = directory_is disk i live in
      ⊎_elim
      (λ (root : i ≡ 1). root)
      (λ (other : IsFile i ⊎ (inode_of disk i ≡ free_inode)).
      ⊎_elim
      (λ (file : IsFile i).
      let not : is_directory (inode_of disk i) ≡ false =
      ap (λ (k : ℕ). is_directory (inode_of disk k)) (sym file.2) ∙ file_no_directory file.0 file.1 in
      absurd (false≢true (sym not ∙ is.directory)))
      (λ (free : inode_of disk i ≡ free_inode). absurd (false≢true (sym (ap is_directory free) ∙ is.directory)))
      other)
      (which_inode i is.low is.bound)

  pub other_no_directory : (i : ℕ) → i ≢ 1 → is_live_directory disk i ≡ false
  other_no_directory i other = false_from_ne_true (is_live_directory disk i) (λ live. other (one_directory i live))

  -- an inode after the files' is no node
  pub past_no_node : (i : ℕ) → 1 + length contents < i → is_node disk i ≡ false
  past_no_node i past =
      false_from_ne_true (is_node disk i) (λ node.
      ⊎_elim
      (λ (root : i ≡ 1). absurd (omega arith))
      (λ (file : IsFile i). let l = file.1 in let e = file.2 in absurd (omega arith))
      (which_node i node))

  -- ---- the slots

  pub root_slots_in : slots_in v disk 1 ≡ map Some (all_entries v names)
  unfolding slots_in
  root_slots_in = rw root_is_live_directory h.slots

  pub other_slots_in : (i : ℕ) → i ≢ 1 → slots_in v disk i ≡ []
  unfolding slots_in
  other_slots_in i other = rw (other_no_directory i other) refl
