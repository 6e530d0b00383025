-- Which slots a directory has, and how many.
use Rattle.std.proofs.Common.{◌≡◌, ◌↔◌, ◌∙◌, sym, ap, arith, IsTrue, true, leb, ℕ, ◌<◌, ◌≤◌, ◌/◌, ◌&&◌, List}
use Rattle.std.proofs.lemmas.Bool.Decides.{nat_tests}
use Rattle.image_versions.specs.declared.version.Version.{Version}
use Rattle.image_tree.specs.Layout.{IsLayout}
use Rattle.image_tree.specs.declared.disk.Layout.{Layout}
use Rattle.image_tree.proofs.Nodes.{both, directory_from}
use Rattle.migration.specs.Vocabulary.{Dinode, dirent_len_of, inode_of, is_directory, is_live, is_live_directory, most_slots_of}

tested : (a b : ℕ) → IsTrue (leb a b) ↔ (a ≤ b)
tested a b = (λ h. grind (arith, nat_tests), λ h. grind (arith, nat_tests))

-- for a live directory the test is that of its own slots
pub directory_told : (w v : Version) (disk : List (List ℕ)) (layout : Layout) (i a b : ℕ) (d : Dinode) → IsLayout disk layout → 1 ≤ i → i < layout.sizes.ninodes
    → d ≡ inode_of disk i → (is_directory d && is_live d) ≡ true → a ≡ dirent_len_of w → b ≡ most_slots_of v
    → IsTrue (leb (d.size / a) b) ↔ (is_live_directory disk i ≡ true → (inode_of disk i).size / dirent_len_of w ≤ most_slots_of v)
directory_told w v disk layout i a b d h low bound e is f m =
    let parts = both (is_directory d) (is_live d) is in
    let live : is_live_directory disk i ≡ true =
    directory_from disk i (record { low = low; bound = rw (← h.sizes) bound; directory = rw e at parts.0; live = rw e at parts.1 }) in
    let same : (inode_of disk i).size / dirent_len_of w ≡ d.size / a = ap (λ (n : ℕ). (inode_of disk i).size / n) (sym f) ∙ ap (λ (x : Dinode). x.size / a) (sym e) in (
      λ yes _. rw (same, ← m) ((tested (d.size / a) b).0 yes),
      λ good. (tested (d.size / a) b).1 (rw (← same, m) (good live)),
    )
