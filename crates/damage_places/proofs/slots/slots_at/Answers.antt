use Rattle.image_tree.proofs.Lemmas.{◌∙◌, sym, ap, ℕ, List, slots_of, slots_in_directory, slots_in_other, numbers_of_directory}
use Rattle.damage_places.proofs.slots.slots_at.Goals as goal

pub returns-then-not-is_live_directory-clause-slots : goal.returns-then-not-is_live_directory-clause-slots
returns-then-not-is_live_directory-clause-slots g c =
    c.new.ensures.items
    ∙ sym (slots_in_other c.args.layout.now.version (g.D.Device.contents c.args.device.now) c.args.i c.in_ok-inode.inode c.in_ok-inode.ensures.inode
    (sym c.is_live_directory.ensures ∙ c.if-not-is_live_directory.true))

pub load_slots-requires-clause-numbers : goal.load_slots-requires-clause-numbers
load_slots-requires-clause-numbers g c =
    numbers_of_directory (g.D.Device.contents c.args.device.now) (g.D.Device.contents c.load_inode.new.device) (g.D.Device.contents c.numbers_at.new.device)
    c.args.i c.in_ok-inode.inode c.as_slice.result.now c.in_ok-inode.ensures.device.contents c.in_ok-numbers.ensures.device.contents c.in_ok-inode.ensures.inode
    (sym c.is_live_directory.ensures ∙ c.if-not-is_live_directory.false) (c.as_slice.ensures.value ∙ c.in_ok-numbers.ensures.numbers)

pub returns-clause-slots : goal.returns-clause-slots
returns-clause-slots g c =
    c.in_ok-slots.ensures.slots
    ∙ ap (λ (d : List (List ℕ)). slots_of c.args.layout.now.version d c.in_ok-inode.inode) (c.in_ok-numbers.ensures.device.contents ∙ c.in_ok-inode.ensures.device.contents)
    ∙ slots_in_directory (g.D.Device.contents c.args.device.now) c.args.layout.now c.args.i c.in_ok-inode.inode c.requires.layout c.requires.low c.requires.bound
    c.in_ok-inode.ensures.inode (sym c.is_live_directory.ensures ∙ c.if-not-is_live_directory.false)
