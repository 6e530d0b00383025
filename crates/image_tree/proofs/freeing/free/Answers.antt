use Rattle.image_tree.proofs.Lemmas.{◌∙◌, inl, inr, ◌+◌, ◌/◌, ℕ, List, subst, IsViewOf, IsFreedAlone, IsPut, freed_nodes_leave_images, on_ok, freed_by, inodes_per_block}
use Rattle.image_tree.proofs.freeing.free.Goals as goal

pub put_both-requires-clause-well : goal.put_both-requires-clause-well
put_both-requires-clause-well g c = λ disk put.
    let d : List (List ℕ) = g.D.Device.contents c.args.device.now in
    (freed_nodes_leave_images c.args.layout.now.version d disk c.args.i c.requires.nameless
    (freed_by c.args.layout.now.version d (g.D.Device.contents c.numbers_at.new.device) (g.D.Device.contents c.freed_bitmap.new.device) (g.D.Device.contents c.freed_inodes.new.device) disk c.args.layout.now.sizes c.args.i
    c.in_ok-bitmap.bitmap c.in_ok-inodes.inodes c.as_slice.result.now c.in_ok-numbers.numbers.items c.in_ok-numbers.ensures.device.contents c.in_ok-bitmap.ensures.device.contents
    c.in_ok-inodes.ensures.device.contents c.requires.layout.sizes c.requires.layout.good c.requires.bound c.as_slice.ensures.value c.in_ok-numbers.ensures.numbers c.in_ok-inodes.ensures.emptied
    c.in_ok-inodes.ensures.others c.in_ok-bitmap.ensures.cleared c.in_ok-bitmap.ensures.kept c.in_ok-bitmap.ensures.fewer put).freed
    c.requires.well).0

pub returns-clause-either : goal.returns-clause-either
returns-clause-either g c =
    let d : List (List ℕ) = g.D.Device.contents c.args.device.now in
    let e : List (List ℕ) = g.D.Device.contents c.put_both.new.device in
    elim c.put_both.ensures.either [
      | inl view ↦ inl (subst (λ (z : List (List ℕ)). IsViewOf c.args.layout.now.version z e) (c.in_ok-inodes.ensures.device.contents ∙ c.in_ok-bitmap.ensures.device.contents ∙ c.in_ok-numbers.ensures.device.contents) view)
      | inr put ↦ inr (
          freed_by c.args.layout.now.version d (g.D.Device.contents c.numbers_at.new.device) (g.D.Device.contents c.freed_bitmap.new.device) (g.D.Device.contents c.freed_inodes.new.device) e c.args.layout.now.sizes c.args.i
          c.in_ok-bitmap.bitmap c.in_ok-inodes.inodes c.as_slice.result.now c.in_ok-numbers.numbers.items c.in_ok-numbers.ensures.device.contents c.in_ok-bitmap.ensures.device.contents
          c.in_ok-inodes.ensures.device.contents c.requires.layout.sizes c.requires.layout.good c.requires.bound c.as_slice.ensures.value c.in_ok-numbers.ensures.numbers c.in_ok-inodes.ensures.emptied
          c.in_ok-inodes.ensures.others c.in_ok-bitmap.ensures.cleared c.in_ok-bitmap.ensures.kept c.in_ok-bitmap.ensures.fewer put)
    ]

pub returns-clause-freed : goal.returns-clause-freed
returns-clause-freed g c =
    let d : List (List ℕ) = g.D.Device.contents c.args.device.now in
    let e : List (List ℕ) = g.D.Device.contents c.put_both.new.device in
    on_ok c.put_both.result (IsPut c.args.layout.now.version (g.D.Device.contents c.freed_inodes.new.device) e (c.args.layout.now.sizes.inodestart + c.args.i / inodes_per_block) c.in_ok-bitmap.bitmap c.in_ok-inodes.inodes) (IsFreedAlone c.args.layout.now.version d e c.args.i)
    (λ put.
    freed_by c.args.layout.now.version d (g.D.Device.contents c.numbers_at.new.device) (g.D.Device.contents c.freed_bitmap.new.device) (g.D.Device.contents c.freed_inodes.new.device) e c.args.layout.now.sizes c.args.i
    c.in_ok-bitmap.bitmap c.in_ok-inodes.inodes c.as_slice.result.now c.in_ok-numbers.numbers.items c.in_ok-numbers.ensures.device.contents c.in_ok-bitmap.ensures.device.contents
    c.in_ok-inodes.ensures.device.contents c.requires.layout.sizes c.requires.layout.good c.requires.bound c.as_slice.ensures.value c.in_ok-numbers.ensures.numbers c.in_ok-inodes.ensures.emptied
    c.in_ok-inodes.ensures.others c.in_ok-bitmap.ensures.cleared c.in_ok-bitmap.ensures.kept c.in_ok-bitmap.ensures.fewer put)
    c.put_both.ensures.put
