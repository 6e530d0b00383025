-- What the new image of version v has of the old one of version w.
use Rattle.std.specs.Prelude.{ℕ, zero, suc, ◌&&◌, List, [], ◌∷◌, ◌++◌, if◌then◌else◌}
use Rattle.migration.specs.Vocabulary.{Version, Dinode, inode_of, is_node, is_live, is_directory, content_of, slots_of, last, sizes_of}
use Rattle.migration.specs.Nodes.{Node, free_node, spell_slots}
use Rattle.migration.specs.Image.{image_with}

-- The new content of a node. That of a directory is spelled anew; that of any other node, even of a device, has the
-- same bytes.
abbrev pub content_as : Version → Version → List (List ℕ) → Dinode → List ℕ
content_as w v disk d = if is_directory d then spell_slots v (slots_of w disk d) else content_of disk d

-- the node with this content; everything else is as the inode says
abbrev pub node_with : Dinode → List ℕ → Node
node_with d content = record { kind = d.kind; major = d.major; minor = d.minor; nlink = d.nlink; content = content }

-- node i, if it is live: one without a name is left out
unfoldable pub new_node : Version → Version → List (List ℕ) → ℕ → Node
new_node w v disk i =
    if is_node disk i && is_live (inode_of disk i)
    then node_with (inode_of disk i) (content_as w v disk (inode_of disk i))
    else free_node

-- the nodes 1 to n
unfoldable pub nodes_upto : Version → Version → List (List ℕ) → ℕ → List Node
nodes_upto w v disk zero = []
nodes_upto w v disk (suc n) = nodes_upto w v disk n ++ new_node w v disk (suc n) ∷ []

-- all of them, each with the number that it had
abbrev pub new_nodes : Version → Version → List (List ℕ) → List Node
new_nodes w v disk = nodes_upto w v disk (last disk)

-- the image of `size` blocks with these nodes, and as many inodes as there were
abbrev pub migrated : Version → Version → ℕ → List (List ℕ) → List ℕ
migrated w v size disk = image_with v size (sizes_of disk).ninodes (new_nodes w v disk)
