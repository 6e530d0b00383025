use Rattle.image_tree.proofs.Lemmas.{◌∙◌, ap, sym, ℕ, List, slots_in, no_directory}
use Rattle.damage_places.proofs.InodeLemmas.{live_here, slots_here}
use Rattle.damage_places.proofs.entries.slot_fault.Goals as goal

pub returns-then-not-is_live_directory-clause-fault : goal.returns-then-not-is_live_directory-clause-fault
returns-then-not-is_live_directory-clause-fault g c =
    λ t. absurd (no_directory (g.D.Device.contents c.args.device.now) c.args.i c.in_ok-inode.inode c.in_ok-inode.ensures.inode
    (sym c.is_live_directory.ensures ∙ c.if-not-is_live_directory.true) t)

pub returns-clause-fault : goal.returns-clause-fault
returns-clause-fault g c =
    let disk : List (List ℕ) = g.D.Device.contents c.args.device.now in
    let live = live_here disk c.args.layout.now c.args.i c.in_ok-inode.inode c.requires.layout c.requires.low c.requires.bound c.in_ok-inode.ensures.inode
    (sym c.is_live_directory.ensures ∙ c.if-not-is_live_directory.false) in
    slots_here c.args.layout.now.version disk (g.D.Device.contents c.slots_at.new.device) c.args.i c.as_slice.result.now c.in_ok-fault.fault live
    (c.in_ok-slots.ensures.device.contents ∙ c.in_ok-inode.ensures.device.contents)
    (c.as_slice.ensures.value ∙ c.in_ok-slots.ensures.slots ∙ ap (λ (d : List (List ℕ)). slots_in c.args.layout.now.version d c.args.i) c.in_ok-inode.ensures.device.contents)
    c.in_ok-fault.ensures.fault
