use Rattle.buffer_cache.proofs.Lemmas.{◌≡◌, inl, inr, ℕ, List, sym, ◌∙◌, ap, subst, None, slice_set, SeatState, seat_of, seen, seen_in, IsSound, sound_uncached, seen_past, written_either}
use Rattle.buffer_cache.proofs.cache.Cache.write_uncached.Goals as goal

pub invariant_of-self : goal.invariant_of-self
invariant_of-self g c =
    let disk = g.D.Device.contents c.self.inside.device in
    let ss : List SeatState = c.self.inside.buffers in
    let bytes = c.args.bytes.now in
    let either = written_either c.write.result disk (slice_set disk c.args.b bytes) (g.D.Device.contents c.write.new.self) c.write.ensures.ok c.write.ensures.err in
    let none = subst (λ v. seat_of c.args.b v.seats ≡ None) (sym c.self.view_is) c.requires.uncached in
    elim either [
      | inl same ↦ subst (λ (d : List (List ℕ)). IsSound d ss) (sym same) c.self.invariant
      | inr is ↦ subst (λ (d : List (List ℕ)). IsSound d ss) (sym is) (sound_uncached disk ss c.args.b bytes none c.self.invariant)
    ]

pub returns-clause-seen : goal.returns-clause-seen
returns-clause-seen g c k ne =
    let disk = g.D.Device.contents c.self.inside.device in
    let ss : List SeatState = c.self.inside.buffers in
    let bytes = c.args.bytes.now in
    let either = written_either c.write.result disk (slice_set disk c.args.b bytes) (g.D.Device.contents c.write.new.self) c.write.ensures.ok c.write.ensures.err in
    let stays : seen_in (g.D.Device.contents c.write.new.self) ss k ≡ seen_in disk ss k = elim either [
      | inl same ↦ ap (λ (d : List (List ℕ)). seen_in d ss k) same
      | inr is ↦ ap (λ (d : List (List ℕ)). seen_in d ss k) is ∙ seen_past disk ss c.args.b k bytes ne
    ] in
    stays ∙ ap (λ v. seen g.D.Device.contents v k) c.self.view_is
