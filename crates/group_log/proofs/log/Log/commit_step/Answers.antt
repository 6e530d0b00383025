use Rattle.group_log.proofs.Lemmas.{◌≡◌, ◌≢◌, ◌∙◌, ap, refl, sym, subst, ℕ, List, length, if◌then◌else◌, recovered, IsOutsideLog, seen, Open, Halted, Progress, Waits, Wrote, Ended, Failed, is_point, next_phase, seats_after, IfMade, StaysOrBecomes, done_good, failed_good, done_recovered, failed_recovered, commit_move, done_move, slots_halted, slots_written}
use Rattle.group_log.proofs.log.Log.commit_step.Goals as goal

pub invariant_of-self-in-Failed : goal.invariant_of-self-in-Failed
invariant_of-self-in-Failed g c =
    let l = c.self.inside in
    let begun : (l.phase ≢ Open) × (l.phase ≢ Halted) = subst (λ v. (v.phase ≢ Open) × (v.phase ≢ Halted)) (sym c.self.view_is) c.requires.begun in
    record {
      log = failed_good (g.D.Device.contents l.cache.device) (g.D.Device.contents c.write_next.new.cache.device) l.cache.seats c.write_next.new.cache.seats l.sizes l.group.items c.deref.result.now l.members l.phase
          c.self.invariant.log begun c.deref.ensures.0 c.in-Failed.ensures.writes c.in-Failed.ensures.seen;
      placed = slots_halted l.cache.seats c.write_next.new.cache.seats l.group.items l.slots.items l.phase c.self.invariant.placed;
    }

pub invariant_of-self-in-Done : goal.invariant_of-self-in-Done
invariant_of-self-in-Done g c =
    let l = c.self.inside in
    let begun : (l.phase ≢ Open) × (l.phase ≢ Halted) = subst (λ v. (v.phase ≢ Open) × (v.phase ≢ Halted)) (sym c.self.view_is) c.requires.begun in
    record {
      log = done_good (g.D.Device.contents l.cache.device) (g.D.Device.contents c.write_next.new.cache.device) l.cache.seats c.write_next.new.cache.seats l.sizes l.group.items c.deref.result.now l.members l.phase
          c.self.invariant.log begun c.deref.ensures.0 c.clear_when_open.new.group.items c.after-phase.result c.len.result c.show_each_once.ensures c.in-Done.ensures.writes c.in-Done.ensures.seats c.in-Done.ensures.seen c.len.ensures.value c.after-phase.ensures c.clear_when_open.ensures;
      placed = slots_written l.cache.seats c.write_next.new.cache.seats l.group.items c.clear_when_open.new.group.items l.slots.items c.clear_when_open-in-Done.new.group.items c.len.result l.phase c.after-phase.result
          begun c.show_each_once.ensures c.self.invariant.placed (◌∙◌ {b = seats_after c.deref.result.now l.phase l.cache.seats} c.in-Done.ensures.seats (ap (λ (ks : List ℕ). seats_after ks l.phase l.cache.seats) c.deref.ensures.0))
          c.len.ensures.value c.after-phase.ensures c.clear_when_open.ensures c.clear_when_open-in-Done.ensures;
    }

pub returns-in-Failed-clause-kept : goal.returns-in-Failed-clause-kept
returns-in-Failed-clause-kept g c =
    let l = c.self.inside in
    let begun : (l.phase ≢ Open) × (l.phase ≢ Halted) = subst (λ v. (v.phase ≢ Open) × (v.phase ≢ Halted)) (sym c.self.view_is) c.requires.begun in
    subst (λ v. StaysOrBecomes v.sizes (recovered (g.D.Device.contents v.cache.device)) (λ b. if is_point (length v.group) v.phase then seen g.D.Device.contents v.cache b else recovered (g.D.Device.contents v.cache.device) b) (recovered (g.D.Device.contents c.write_next.new.cache.device)))
    c.self.view_is
    (failed_recovered (g.D.Device.contents l.cache.device) (g.D.Device.contents c.write_next.new.cache.device) l.cache.seats c.write_next.new.cache.seats l.sizes l.group.items c.deref.result.now l.members l.phase
    c.self.invariant.log begun c.deref.ensures.0 c.in-Failed.ensures.writes c.in-Failed.ensures.seen)

if_made : (r : Progress) (P : Type 0) → P → IfMade r P
if_made Waits P p = tt
if_made Wrote P p = p
if_made Ended P p = p
if_made Failed P p = tt

pub returns-in-Done-clause-recovered : goal.returns-in-Done-clause-recovered
returns-in-Done-clause-recovered g c =
    let l = c.self.inside in
    let begun : (l.phase ≢ Open) × (l.phase ≢ Halted) = subst (λ v. (v.phase ≢ Open) × (v.phase ≢ Halted)) (sym c.self.view_is) c.requires.begun in
    if_made c.progress_to.result _
    (subst (λ v. (b : ℕ) → IsOutsideLog v.sizes b → recovered (g.D.Device.contents c.write_next.new.cache.device) b ≡ (if is_point (length v.group) v.phase then seen g.D.Device.contents v.cache b else recovered (g.D.Device.contents v.cache.device) b))
    c.self.view_is
    (done_recovered (g.D.Device.contents l.cache.device) (g.D.Device.contents c.write_next.new.cache.device) l.cache.seats c.write_next.new.cache.seats l.sizes l.group.items c.deref.result.now l.members l.phase
    c.self.invariant.log begun c.deref.ensures.0 c.in-Done.ensures.writes c.in-Done.ensures.seen))

pub returns-in-Failed-clause-moves : goal.returns-in-Failed-clause-moves
returns-in-Failed-clause-moves g c =
    let now = c.args.self.now in
    commit_move g.D.Device.contents now _ Failed (ap (λ v. v.sizes) c.self.view_is) c.requires.begun tt tt tt refl
    (returns-in-Failed-clause-kept g c)
    (subst (λ v. (b : ℕ) → IsOutsideLog v.sizes b → seen g.D.Device.contents c.write_next.new.cache b ≡ seen g.D.Device.contents v.cache b) c.self.view_is c.in-Failed.ensures.seen)

pub returns-in-Done-clause-moves : goal.returns-in-Done-clause-moves
returns-in-Done-clause-moves g c =
    let l = c.self.inside in
    let now = c.args.self.now in
    let begun : (l.phase ≢ Open) × (l.phase ≢ Halted) = subst (λ v. (v.phase ≢ Open) × (v.phase ≢ Halted)) (sym c.self.view_is) c.requires.begun in
    done_move g.D.Device.contents now _ c.after-phase.result c.progress_to.result (ap (λ v. v.sizes) c.self.view_is) c.requires.begun c.progress_to.ensures
    (c.after-phase.ensures ∙ ap (λ (k : ℕ). next_phase k l.phase) c.len.ensures.value ∙ ap (λ v. next_phase (length v.group) v.phase) c.self.view_is)
    (subst (λ v. (b : ℕ) → IsOutsideLog v.sizes b → seen g.D.Device.contents c.write_next.new.cache b ≡ seen g.D.Device.contents v.cache b) c.self.view_is c.in-Done.ensures.seen)
    (subst (λ v. (b : ℕ) → IsOutsideLog v.sizes b → recovered (g.D.Device.contents c.write_next.new.cache.device) b ≡ (if is_point (length v.group) v.phase then seen g.D.Device.contents v.cache b else recovered (g.D.Device.contents v.cache.device) b))
    c.self.view_is
    (done_recovered (g.D.Device.contents l.cache.device) (g.D.Device.contents c.write_next.new.cache.device) l.cache.seats c.write_next.new.cache.seats l.sizes l.group.items c.deref.result.now l.members l.phase
    c.self.invariant.log begun c.deref.ensures.0 c.in-Done.ensures.writes c.in-Done.ensures.seen))
