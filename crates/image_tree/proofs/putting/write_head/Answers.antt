use Rattle.image_tree.proofs.Lemmas.{◌≡◌, inl, inr, ◌+◌, set, replicate, block_at, IsPut, head_is, either_way, on_ok, block_len}
use Rattle.image_tree.proofs.putting.write_head.Goals as goal

pub returns-clause-either : goal.returns-clause-either
returns-clause-either g c =
    let d = g.D.Device.contents c.args.device.now in
    let e = g.D.Device.contents c.write.new.self in
    let s = c.args.layout.now.sizes in
    elim (either_way c.write.result e d (set d s.logstart c.write_log_head.new.block) c.write.ensures.ok c.write.ensures.err) [
      | inl same ↦ inl same
      | inr new ↦ inr (head_is c.args.layout.now.version d e s c.args.home c.write_log_head.new.block (replicate block_len 0) c.requires.layout.good c.requires.empty c.requires.layout.sizes c.requires.low c.requires.high c.write_log_head.ensures.bytes new)
    ]

pub returns-clause-put : goal.returns-clause-put
returns-clause-put g c =
    let d = g.D.Device.contents c.args.device.now in
    let e = g.D.Device.contents c.write.new.self in
    let s = c.args.layout.now.sizes in
    on_ok c.write.result (e ≡ set d s.logstart c.write_log_head.new.block) (IsPut c.args.layout.now.version d e c.args.home (block_at d (s.logstart + 1)) (block_at d (s.logstart + 2)))
    (λ new. head_is c.args.layout.now.version d e s c.args.home c.write_log_head.new.block (replicate block_len 0) c.requires.layout.good c.requires.empty c.requires.layout.sizes c.requires.low c.requires.high c.write_log_head.ensures.bytes new)
    c.write.ensures.ok
