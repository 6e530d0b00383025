use Rattle.image_tree.proofs.Lemmas.{◌≡◌, ◌⊎◌, ◌+◌, ◌<◌, ◌≤◌, ℕ, List, [], set, subst, Super, logged, Layout, IsLayout, IsViewOf, copied, either_way, layout_stays}
use Rattle.image_tree.proofs.putting.log_copy.Goals as goal

by : (d e : List (List ℕ)) (layout : Layout) (c : ℕ) (block : List ℕ) → IsLayout d layout → logged d ≡ [] → layout.sizes.logstart < c → c ≤ layout.sizes.logstart + 2
    → (e ≡ d) ⊎ (e ≡ set d c block) → IsViewOf layout.version d e × (logged e ≡ [])
by d e layout c block is none low high may =
    copied layout.version d e c block is.good none (subst (λ (z : Super). z.logstart < c) is.sizes low) (subst (λ (z : Super). c ≤ z.logstart + 2) is.sizes high) may

pub returns-clause-view : goal.returns-clause-view
returns-clause-view g c =
    let d = g.D.Device.contents c.args.device.now in
    let e = g.D.Device.contents c.write.new.self in
    (by d e c.args.layout.now c.args.place c.args.block.now c.requires.layout c.requires.empty c.requires.low c.requires.high
    (either_way c.write.result e d (set d c.args.place c.args.block.now) c.write.ensures.ok c.write.ensures.err)).0

pub returns-clause-empty : goal.returns-clause-empty
returns-clause-empty g c =
    let d = g.D.Device.contents c.args.device.now in
    let e = g.D.Device.contents c.write.new.self in
    (by d e c.args.layout.now c.args.place c.args.block.now c.requires.layout c.requires.empty c.requires.low c.requires.high
    (either_way c.write.result e d (set d c.args.place c.args.block.now) c.write.ensures.ok c.write.ensures.err)).1

pub returns-clause-layout : goal.returns-clause-layout
returns-clause-layout g c =
    layout_stays (g.D.Device.contents c.args.device.now) (g.D.Device.contents c.write.new.self) c.args.layout.now c.requires.layout c.requires.empty
    (returns-clause-view g c) (returns-clause-empty g c)
