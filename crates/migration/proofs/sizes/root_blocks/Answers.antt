use Rattle.std.proofs.Common.{◌≤◌, ◌<◌, ◌*◌, ◌/◌, ◌^◌, ℕ, arith, subst, sym}
use Rattle.migration.specs.Vocabulary.{largest_size}
use Rattle.migration.proofs.RootBlocks.{few_blocks, root_bytes}
use Rattle.migration.proofs.sizes.root_blocks.Goals as goal

pub node_blocks-requires : goal.node_blocks-requires
node_blocks-requires g c =
    let small : c.dirent_len-2.result * (c.in_ok-root.root.size / c.dirent_len.result) ≤ 32 * largest_size =
    root_bytes c.args.layout.now.version c.args.version (g.D.Device.contents c.args.old.now) c.in_ok-root.root c.dirent_len-2.result c.dirent_len.result c.requires.well c.in_ok-root.ensures.inode c.dirent_len-2.ensures c.dirent_len.ensures in
    omega (arith, small)

pub returns-clause-few : goal.returns-clause-few
returns-clause-few g c =
    let small : c.dirent_len-2.result * (c.in_ok-root.root.size / c.dirent_len.result) ≤ 32 * largest_size =
    root_bytes c.args.layout.now.version c.args.version (g.D.Device.contents c.args.old.now) c.in_ok-root.root c.dirent_len-2.result c.dirent_len.result c.requires.well c.in_ok-root.ensures.inode c.dirent_len-2.ensures c.dirent_len.ensures in
    subst (λ (n : ℕ). n < 2 ^ 16) (sym c.node_blocks.ensures.value) (few_blocks _ small)
