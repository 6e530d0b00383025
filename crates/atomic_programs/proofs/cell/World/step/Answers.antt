use Rattle.atomic_programs.proofs.Lemmas.{◌≡◌, subst, Step, plain_makes, PlainHonest, swaps, Harts, said, outcome_of, machine_of, MachineFits, code, plain_of, step_gives, honest_here, kept_on, may_here, fits_here, is_code, lawful}
use Rattle.atomic_programs.proofs.cell.World.step.Goals as goal

-- what the logic shows of the hart's next operation is what its machine asks
pub step-doing-requires-clause-may : goal.step-doing-requires-clause-may
step-doing-requires-clause-may g c =
    let w = c.self.inside in
    may_here swaps code machine_of MachineFits 8 w.register w.stopped w.calls c.args.hart c.take_out-doing.result c.self.invariant c.take_out-doing.ensures.value is_code lawful

pub step-doing-requires-clause-fits : goal.step-doing-requires-clause-fits
step-doing-requires-clause-fits g c =
    let w = c.self.inside in
    fits_here swaps code machine_of MachineFits 8 w.register w.stopped w.calls c.args.hart c.take_out-doing.result c.self.invariant c.take_out-doing.ensures.value

pub invariant_of-self : goal.invariant_of-self
invariant_of-self g c =
    let w = c.self.inside in
    let r = c.step-doing.result in
    let t = c.step-doing.new.register in
    let at = c.take_out-doing.ensures.value in
    let first = c.take_out-doing.ensures.after in
    kept_on swaps code machine_of w.register w.stopped w.calls c.args.hart c.take_out-doing.result r.0 _ _ at first c.put_back.ensures is_code MachineFits 8 (Step c.args.hart (said r.1 t)) (outcome_of r.1) t r.2 c.self.invariant
    (honest_here swaps code machine_of w.register w.stopped w.calls c.args.hart c.take_out-doing.result r.0 _ _ at first c.put_back.ensures (said r.1 t) c.step-doing.ensures.honest)
    (step_gives swaps code machine_of w.register w.stopped w.calls c.args.hart c.take_out-doing.result r.0 _ _ at first c.put_back.ensures (said r.1 t) (outcome_of r.1) t r.2 c.step-doing.ensures.makes) c.step-doing.ensures.fits

pub returns-clause-makes : goal.returns-clause-makes
returns-clause-makes g c =
    let w = c.self.inside in
    let r = c.step-doing.result in
    let t = c.step-doing.new.register in
    subst
    (λ (v : Harts). plain_makes swaps code (Step c.args.hart (said r.1 t)) (plain_of v) ≡ record { came = outcome_of r.1; after = plain_of (record { shared = t; stopped = r.2; calls = c.put_back.new.calls }) })
    c.self.view_is
    (step_gives swaps code machine_of w.register w.stopped w.calls c.args.hart c.take_out-doing.result r.0 _ _ c.take_out-doing.ensures.value c.take_out-doing.ensures.after c.put_back.ensures (said r.1 t) (outcome_of r.1) t r.2 c.step-doing.ensures.makes)

pub returns-clause-honest : goal.returns-clause-honest
returns-clause-honest g c =
    let w = c.self.inside in
    let r = c.step-doing.result in
    let t = c.step-doing.new.register in
    subst (λ (v : Harts). PlainHonest swaps code (Step c.args.hart (said r.1 t)) (plain_of v)) c.self.view_is
    (honest_here swaps code machine_of w.register w.stopped w.calls c.args.hart c.take_out-doing.result r.0 _ _ c.take_out-doing.ensures.value c.take_out-doing.ensures.after c.put_back.ensures (said r.1 t) c.step-doing.ensures.honest)
