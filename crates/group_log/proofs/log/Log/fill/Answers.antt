use Rattle.group_log.proofs.Lemmas.{◌≡◌, ◌∙◌, ap, sym, subst, refl, ℕ, List, Result, Ok, Err, OnOk, OnErr, IsOutsideLog, block_at, SeatState, slot_of, with_seat, with_content, Kept, kept_same, kept_change, sound_kept, KeepSlots, slot_with, slots_kept}
use Rattle.group_log.proofs.log.Log.fill.Goals as goal

filled : {T E : Type 0} (r : Result T E) (b : ℕ) (bytes : List ℕ) (old new : List SeatState) (A : Type 0) → OnOk r (new ≡ with_seat b (with_content bytes) old) → OnErr r (A × (new ≡ old)) → Kept b old new
filled (Ok x) b bytes old new A ok err = subst (λ (s : List SeatState). Kept b old s) (sym ok) (kept_change b (with_content bytes) old (λ s. refl) (λ s. refl) (λ s is. refl))
filled (Err x) b bytes old new A ok err = subst (λ (s : List SeatState). Kept b old s) (sym err.1) (kept_same b old)

filled_slots : {T E : Type 0} (r : Result T E) (b : ℕ) (bytes : List ℕ) (old new : List SeatState) (A : Type 0) → OnOk r (new ≡ with_seat b (with_content bytes) old) → OnErr r (A × (new ≡ old)) → KeepSlots old new
filled_slots (Ok x) b bytes old new A ok err k is = ap (λ (s : List SeatState). slot_of k s) ok ∙ slot_with b k (with_content bytes) old (λ s. refl) (λ s. refl)
filled_slots (Err x) b bytes old new A ok err k is = ap (λ (s : List SeatState). slot_of k s) err.1

pub invariant_of-self : goal.invariant_of-self
invariant_of-self g c =
    let l = c.self.inside in
    let b = c.args.guard.now.value.block in
    let out : IsOutsideLog l.sizes b = subst (λ v. IsOutsideLog v.sizes b) (sym c.self.view_is) c.requires.outside in
    record {
      log = sound_kept (g.D.Device.contents l.cache.device) (g.D.Device.contents c.fill.new.self.device) l.cache.seats c.fill.new.self.seats l.sizes l.group.items l.members l.phase b
          c.self.invariant.log (filled c.fill.result b (block_at (g.D.Device.contents l.cache.device) b) l.cache.seats c.fill.new.self.seats (c.fill.new.guard ≡ c.args.guard.now) c.fill.ensures.seats c.fill.ensures.err)
          out c.fill.ensures.contents c.fill.ensures.seen;
      placed = slots_kept l.sizes l.cache.seats c.fill.new.self.seats l.group.items l.slots.items l.phase
          (filled_slots c.fill.result b (block_at (g.D.Device.contents l.cache.device) b) l.cache.seats c.fill.new.self.seats (c.fill.new.guard ≡ c.args.guard.now) c.fill.ensures.seats c.fill.ensures.err)
          c.self.invariant.log.buffers c.self.invariant.placed;
    }
