-- What can be made is made well.
use Rattle.mkfs.proofs.Vocabulary.{Version, ◌≡◌, ℕ, List, length, subst, sym, ◌∙◌, length-map, blocks_of, IsWellFormed, tree_in, NewFile, image_of, root_content, nodes_with, names_of, contents_of, IsMade, CanBeMade, stated_tree}
use Rattle.mkfs.proofs.Basics.{Shows, magic-there}
use Rattle.mkfs.proofs.Wanted.{fits}
use Rattle.mkfs.proofs.ImageShows.{image-shows}
use Rattle.mkfs.proofs.UpToSizes.{up_to_sizes}
use Rattle.mkfs.proofs.TreeChecks.{shown_well_formed, shown_tree}

-- as many names as contents
pub same-length : (files : List NewFile) → length (names_of files) ≡ length (contents_of files)
same-length files = length-map files (λ (f : NewFile). f.name.items) ∙ sym (length-map files (λ (f : NewFile). f.content.items))

pub is-made : (v : Version) (size ninodes : ℕ) (files : List NewFile) (disk : List ℕ) → CanBeMade v size ninodes (names_of files) (contents_of files)
    → disk ≡ image_of v size ninodes (names_of files) (contents_of files) → IsMade v size ninodes (names_of files) (contents_of files) disk
is-made v size ninodes files disk can is =
    let names : List (List ℕ) = names_of files in
    let contents : List (List ℕ) = contents_of files in
    let image : List ℕ = image_of v size ninodes names contents in
    let many = same-length files in
    let shows : Shows (blocks_of image) size ninodes (nodes_with (root_content v names) contents) = image-shows v size ninodes names contents many can in
    let fit = fits v size ninodes names contents many can in
    let magic = magic-there v size ninodes (nodes_with (root_content v names) contents) can.0.0.0.0.few_inodes fit in
    let sizes = up_to_sizes v (blocks_of image) size ninodes names contents many can magic shows in
    record {
      can = can;
      bytes = is;
      well_formed = subst (λ (bytes : List ℕ). IsWellFormed v (blocks_of bytes)) (sym is) (shown_well_formed v (blocks_of image) size ninodes names contents shows many can sizes);
      tree = subst (λ (bytes : List ℕ). tree_in v (blocks_of bytes) ≡ stated_tree v ninodes names contents) (sym is) (shown_tree v (blocks_of image) size ninodes names contents shows many can);
    }
