-- A world that is mounted on a copy of an image, or isn't.
use Rattle.std.proofs.Common.{ap, sym}
use Rattle.explain.specs.Vocabulary.{Version, version_in}
use Rattle.image_tree.specs.Damage.{JudgesFault as JudgesFaultAt}
use Rattle.explain.proofs.Vocabulary.{◌≡◌, ◌∙◌, ℕ, List, subst, blocks_of, sizes_of, MountFault, Damaged, DeviceFault, NoMemory, IsWellFormed, JudgesFault, Rests, WorldOf, IsRefusedMount, StartsOn, never, refused_by}

pub starts_on : (image disk : List ℕ) (w : WorldOf (List ℕ)) → disk ≡ image → IsWellFormed (blocks_of disk) → Rests blocks_of never disk w.harts → w.sizes ≡ sizes_of (blocks_of disk) → StartsOn image w
starts_on image disk w same well rests sizes = subst (λ (d : List ℕ). StartsOn d w) same (record { well = well; mounted = record { rests = rests; sizes = sizes } })

judged : (image : List ℕ) (fault : MountFault) → JudgesFault (blocks_of image) fault → IsRefusedMount image (refused_by fault)
judged image (Damaged d) judges = judges
judged image DeviceFault judges = tt
judged image NoMemory judges = tt

pub refused_mount : (image disk : List ℕ) (fault : MountFault) → disk ≡ image → JudgesFault (blocks_of disk) fault → IsRefusedMount image (refused_by fault)
refused_mount image disk fault same judges = judged image fault (subst (λ (d : List ℕ). JudgesFault (blocks_of d) fault) same judges)

-- .. as the tree's reader tells it, of the version that was found before
pub refused_tree : (image : List ℕ) (disk after : List (List ℕ)) (v : Version) (fault : MountFault) → disk ≡ blocks_of image → after ≡ disk → v ≡ version_in disk
    → JudgesFaultAt v after fault → IsRefusedMount image (refused_by fault)
refused_tree image disk after v fault same kept found judges =
    judged image fault (subst (λ (d : List (List ℕ)). JudgesFaultAt (version_in d) d fault) (kept ∙ same)
    (subst (λ (w : Version). JudgesFaultAt w after fault) (found ∙ ap version_in (sym kept)) judges))
