use Rattle.image_tree.proofs.Lemmas.{◌∙◌, sym, ap, ℕ, List, slots_in, held, no_directory, slots_told}
use Rattle.image_tree.proofs.entries.has_good_slots_at.Goals as goal

pub returns-then-not-is_live_directory-clause-good : goal.returns-then-not-is_live_directory-clause-good
returns-then-not-is_live_directory-clause-good g c =
    held _ (λ t.
    absurd (no_directory (g.D.Device.contents c.args.device.now) c.args.i c.in_ok-inode.inode c.in_ok-inode.ensures.inode
    (sym c.is_live_directory.ensures ∙ c.if-not-is_live_directory.true) t))

pub returns-clause-good : goal.returns-clause-good
returns-clause-good g c =
    slots_told (g.D.Device.contents c.args.device.now) c.args.layout.now c.args.i c.in_ok-inode.inode c.args.nodes.now c.as_slice.result.now c.in_ok-good.good
    c.requires.layout c.requires.low c.requires.bound c.in_ok-inode.ensures.inode (sym c.is_live_directory.ensures ∙ c.if-not-is_live_directory.false)
    c.requires.table
    (c.as_slice.ensures.value ∙ c.in_ok-slots.ensures.slots ∙ ap (λ (d : List (List ℕ)). slots_in c.args.layout.now.version d c.args.i) c.in_ok-inode.ensures.device.contents)
    c.in_ok-good.ensures
