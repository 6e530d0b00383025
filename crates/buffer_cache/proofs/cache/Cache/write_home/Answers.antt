use Rattle.buffer_cache.proofs.Lemmas.{◌≡◌, ◌<◌, inl, inr, ℕ, List, length, sym, ◌∙◌, ap, subst, IfSome, slice_set, BufferState, SeatState, seen, seen_in, IsHeld, IsSound, sound_home, seen_home, home_then, written_ok, written_err, home_bytes, written_either}
use Rattle.buffer_cache.proofs.cache.Cache.write_home.Goals as goal

pub invariant_of-self : goal.invariant_of-self
invariant_of-self g c =
    let disk = g.D.Device.contents c.self.inside.device in
    let ss : List SeatState = c.self.inside.buffers in
    let b = c.args.guard.now.value.block in
    let bytes = c.bytes.result.now in
    let held = subst (λ v. IsHeld v.seats c.args.guard.now) (sym c.self.view_is) c.requires.held in
    let same = subst (λ v. IfSome c.args.guard.now.value.content (λ x. x ≡ seen g.D.Device.contents v c.args.guard.now.value.block)) (sym c.self.view_is) c.requires.unchanged in
    let home = home_bytes disk ss c.args.guard.now bytes held same (c.bytes.ensures ∙ ap (λ (v : BufferState). v.content) c.value-buffer.ensures) in
    let place : c.block.result ≡ b = c.block.ensures ∙ ap (λ (v : BufferState). v.block) c.value-buffer.ensures in
    let either = written_either c.write.result disk (slice_set disk c.block.result bytes) (g.D.Device.contents c.write.new.self) c.write.ensures.ok c.write.ensures.err in
    let within = subst (λ v. b < length (g.D.Device.contents v.device)) (sym c.self.view_is) c.requires.within in
    elim either [
      | inl old ↦ subst (λ (d : List (List ℕ)). IsSound d ss) (sym old) c.self.invariant
      | inr is ↦ subst (λ (d : List (List ℕ)). IsSound d ss) (sym (is ∙ ap (λ (n : ℕ). slice_set disk n bytes) place)) (sound_home disk ss b bytes within home.0 c.self.invariant)
    ]

pub returns-clause-ok : goal.returns-clause-ok
returns-clause-ok g c =
    let disk = g.D.Device.contents c.self.inside.device in
    let ss : List SeatState = c.self.inside.buffers in
    let b = c.args.guard.now.value.block in
    let bytes = c.bytes.result.now in
    let held = subst (λ v. IsHeld v.seats c.args.guard.now) (sym c.self.view_is) c.requires.held in
    let same = subst (λ v. IfSome c.args.guard.now.value.content (λ x. x ≡ seen g.D.Device.contents v c.args.guard.now.value.block)) (sym c.self.view_is) c.requires.unchanged in
    let home = home_bytes disk ss c.args.guard.now bytes held same (c.bytes.ensures ∙ ap (λ (v : BufferState). v.content) c.value-buffer.ensures) in
    let place : c.block.result ≡ b = c.block.ensures ∙ ap (λ (v : BufferState). v.block) c.value-buffer.ensures in
    let written : slice_set disk c.block.result bytes ≡ slice_set (g.D.Device.contents c.args.self.now.device) b (seen g.D.Device.contents c.args.self.now b) =
    ap (λ (n : ℕ). slice_set disk n bytes) place ∙ ap (λ (x : List ℕ). slice_set disk b x) home.1
    ∙ ap (λ v. slice_set (g.D.Device.contents v.device) b (seen g.D.Device.contents v b)) c.self.view_is in
    written_ok c.write.result _ _ _ c.write.ensures.ok written

pub returns-clause-home : goal.returns-clause-home
returns-clause-home g c =
    let disk = g.D.Device.contents c.self.inside.device in
    let ss : List SeatState = c.self.inside.buffers in
    let b = c.args.guard.now.value.block in
    let bytes = c.bytes.result.now in
    let held = subst (λ v. IsHeld v.seats c.args.guard.now) (sym c.self.view_is) c.requires.held in
    let same = subst (λ v. IfSome c.args.guard.now.value.content (λ x. x ≡ seen g.D.Device.contents v c.args.guard.now.value.block)) (sym c.self.view_is) c.requires.unchanged in
    let home = home_bytes disk ss c.args.guard.now bytes held same (c.bytes.ensures ∙ ap (λ (v : BufferState). v.content) c.value-buffer.ensures) in
    let place : c.block.result ≡ b = c.block.ensures ∙ ap (λ (v : BufferState). v.block) c.value-buffer.ensures in
    let within = subst (λ v. b < length (g.D.Device.contents v.device)) (sym c.self.view_is) c.requires.within in
    home_then c.write.result disk (g.D.Device.contents c.write.new.self) ss b bytes within home.0 (written_ok c.write.result _ _ _ c.write.ensures.ok (ap (λ (n : ℕ). slice_set disk n bytes) place))

pub returns-clause-err : goal.returns-clause-err
returns-clause-err g c =
    let disk = g.D.Device.contents c.self.inside.device in
    let ss : List SeatState = c.self.inside.buffers in
    let b = c.args.guard.now.value.block in
    let bytes = c.bytes.result.now in
    let held = subst (λ v. IsHeld v.seats c.args.guard.now) (sym c.self.view_is) c.requires.held in
    let same = subst (λ v. IfSome c.args.guard.now.value.content (λ x. x ≡ seen g.D.Device.contents v c.args.guard.now.value.block)) (sym c.self.view_is) c.requires.unchanged in
    let home = home_bytes disk ss c.args.guard.now bytes held same (c.bytes.ensures ∙ ap (λ (v : BufferState). v.content) c.value-buffer.ensures) in
    let place : c.block.result ≡ b = c.block.ensures ∙ ap (λ (v : BufferState). v.block) c.value-buffer.ensures in
    let written : slice_set disk c.block.result bytes ≡ slice_set (g.D.Device.contents c.args.self.now.device) b (seen g.D.Device.contents c.args.self.now b) =
    ap (λ (n : ℕ). slice_set disk n bytes) place ∙ ap (λ (x : List ℕ). slice_set disk b x) home.1
    ∙ ap (λ v. slice_set (g.D.Device.contents v.device) b (seen g.D.Device.contents v b)) c.self.view_is in
    written_err c.write.result _ _ _ _ _ c.write.ensures.err (ap (λ v. g.D.Device.contents v.device) c.self.view_is) written

pub returns-clause-seen : goal.returns-clause-seen
returns-clause-seen g c k =
    let disk = g.D.Device.contents c.self.inside.device in
    let ss : List SeatState = c.self.inside.buffers in
    let b = c.args.guard.now.value.block in
    let bytes = c.bytes.result.now in
    let held = subst (λ v. IsHeld v.seats c.args.guard.now) (sym c.self.view_is) c.requires.held in
    let same = subst (λ v. IfSome c.args.guard.now.value.content (λ x. x ≡ seen g.D.Device.contents v c.args.guard.now.value.block)) (sym c.self.view_is) c.requires.unchanged in
    let home = home_bytes disk ss c.args.guard.now bytes held same (c.bytes.ensures ∙ ap (λ (v : BufferState). v.content) c.value-buffer.ensures) in
    let place : c.block.result ≡ b = c.block.ensures ∙ ap (λ (v : BufferState). v.block) c.value-buffer.ensures in
    let either = written_either c.write.result disk (slice_set disk c.block.result bytes) (g.D.Device.contents c.write.new.self) c.write.ensures.ok c.write.ensures.err in
    let stays : seen_in (g.D.Device.contents c.write.new.self) ss k ≡ seen_in disk ss k = elim either [
      | inl old ↦ ap (λ (d : List (List ℕ)). seen_in d ss k) old
      | inr is ↦ ap (λ (d : List (List ℕ)). seen_in d ss k) (is ∙ ap (λ (n : ℕ). slice_set disk n bytes) place) ∙ seen_home disk ss b k bytes home.0
    ] in
    stays ∙ ap (λ v. seen g.D.Device.contents v k) c.self.view_is
