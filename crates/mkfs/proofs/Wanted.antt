-- What can be made fits its image.
use Rattle.image_versions.specs.Shared.{largest_size}
use Rattle.mkfs.proofs.Vocabulary.{Version, ◌≡◌, ℕ, zero, suc, ◌+◌, ◌<◌, ◌≤◌, ◌^◌, List, length, map, ap, ◌∙◌, sym, subst, arith, All, length-map, All-map, IsName, node_blocks, file_blocks, data_start, root_size, Node, nodes_with, file_node, used_by, root_content, CanBeMade}
use Rattle.mkfs.proofs.RootSizes.{few-bytes, most-slots}
use Rattle.mkfs.proofs.Basics.{used-parts, length-root_content, Fits, AreNodes}

pub root_long : (v : Version) (size ninodes : ℕ) (names contents : List (List ℕ)) → length names ≡ length contents → CanBeMade v size ninodes names contents
    → length (root_content v names) ≡ root_size v (length contents)
root_long v size ninodes names contents many can =
    let few : 2 + length names < 2 ^ 16 = omega (arith, many, can.0.0.1.few, most-slots v) in
    let each : All (IsName v) names = λ i d l. (can.0.0.0.1.each i d l).0 in
    length-root_content v names few each ∙ ap (root_size v) many

pub root_few : (v : Version) (size ninodes : ℕ) (names contents : List (List ℕ)) → length names ≡ length contents → CanBeMade v size ninodes names contents
    → length (root_content v names) ≤ largest_size
root_few v size ninodes names contents many can =
    subst (λ (n : ℕ). n ≤ largest_size) (sym (root_long v size ninodes names contents many can)) (few-bytes v (length contents) can.0.0.1.few)

pub room : (v : Version) (size ninodes : ℕ) (names contents : List (List ℕ)) → length names ≡ length contents → CanBeMade v size ninodes names contents
    → used_by (data_start ninodes) (nodes_with (root_content v names) contents) ≤ size
room v size ninodes names contents many can =
    let first : ℕ = data_start ninodes in
    let same = sym (used-parts first (root_content v names) contents) ∙ ap (λ (n : ℕ). first + node_blocks n + file_blocks contents) (root_long v size ninodes names contents many can) in
    subst (λ (n : ℕ). n ≤ size) (sym same) can.1

each-node : (root : List ℕ) (contents : List (List ℕ)) → length root ≤ largest_size → All (λ content. length content ≤ largest_size) contents → AreNodes (nodes_with root contents)
each-node root contents few h =
    let files : AreNodes (map file_node contents) = All-map (λ (node : Node). length node.content ≤ largest_size) file_node contents h in
    at files
  where
    at : AreNodes (map file_node contents) → AreNodes (nodes_with root contents)
    at files zero d l = few
    at files (suc i) d l = files i d (omega arith)

pub fits : (v : Version) (size ninodes : ℕ) (names contents : List (List ℕ)) → length names ≡ length contents → CanBeMade v size ninodes names contents
    → Fits size ninodes (nodes_with (root_content v names) contents)
fits v size ninodes names contents many can =
    let nodes : List Node = map file_node contents in
    let count : length nodes ≡ length contents = length-map contents file_node in
    record {
      few = can.0.0.0.0.few_blocks;
      inodes = omega (arith, count, can.0.1, can.0.0.0.0.some_inodes);
      contents = each-node (root_content v names) contents (root_few v size ninodes names contents many can) can.0.0.1.each;
      room = room v size ninodes names contents many can;
    }
