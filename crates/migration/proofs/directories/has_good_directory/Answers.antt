use Rattle.std.proofs.Common.{◌∙◌, sym}
use Rattle.image_tree.proofs.EntryLemmas.{no_directory}
use Rattle.image_tree.proofs.Told.{held}
use Rattle.migration.proofs.SlotCounts.{directory_told}
use Rattle.migration.proofs.directories.has_good_directory.Goals as goal

pub returns-then-not-is_live_directory-clause-good : goal.returns-then-not-is_live_directory-clause-good
returns-then-not-is_live_directory-clause-good g c =
    held _ (λ t.
    absurd (no_directory (g.D.Device.contents c.args.old.now) c.args.i c.in_ok-inode.inode c.in_ok-inode.ensures.inode
    (sym c.is_live_directory.ensures ∙ c.if-not-is_live_directory.true) t))

pub returns-clause-good : goal.returns-clause-good
returns-clause-good g c =
    directory_told c.args.layout.now.version c.args.version (g.D.Device.contents c.args.old.now) c.args.layout.now c.args.i c.dirent_len.result c.most_slots.result
    c.in_ok-inode.inode c.requires.layout c.requires.low c.requires.bound c.in_ok-inode.ensures.inode
    (sym c.is_live_directory.ensures ∙ c.if-not-is_live_directory.false) c.dirent_len.ensures c.most_slots.ensures
