use Rattle.atomic_programs.proofs.Lemmas.{◌≡◌, subst, Start, is_some, plain_makes, programs_in, swaps, Harts, call_of, outcome_of, machine_of, MachineFits, code, plain_of, start_gives, kept_on, is_code}
use Rattle.atomic_programs.proofs.cell.World.start.Goals as goal

pub invariant_of-self : goal.invariant_of-self
invariant_of-self g c =
    let w = c.self.inside in
    let r = c.start-doing.result in
    let at = c.take_out-doing.ensures.value in
    let first = c.take_out-doing.ensures.after in
    kept_on swaps code machine_of w.register w.stopped w.calls c.args.hart c.take_out-doing.result r.0 _ _ at first c.put_back.ensures is_code MachineFits 8 (Start c.args.hart (call_of c.args.call)) (outcome_of r.1) w.register w.stopped c.self.invariant tt
    (start_gives swaps code machine_of w.register w.stopped w.calls c.args.hart c.take_out-doing.result r.0 _ _ at first c.put_back.ensures (call_of c.args.call) (outcome_of r.1) w.register w.stopped (c.start-doing.ensures.makes (λ j. is_some (programs_in machine_of w.calls j)) w.register w.stopped))
    c.start-doing.ensures.fits

pub returns : goal.returns
returns g c =
    let w = c.self.inside in
    let r = c.start-doing.result in
    record {
      makes =
          subst
          (λ (v : Harts). plain_makes swaps code (Start c.args.hart (call_of c.args.call)) (plain_of v) ≡ record { came = outcome_of r.1; after = plain_of (record { shared = w.register; stopped = w.stopped; calls = c.put_back.new.calls }) })
          c.self.view_is
          (start_gives swaps code machine_of w.register w.stopped w.calls c.args.hart c.take_out-doing.result r.0 _ _ c.take_out-doing.ensures.value c.take_out-doing.ensures.after c.put_back.ensures (call_of c.args.call) (outcome_of r.1) w.register w.stopped
          (c.start-doing.ensures.makes (λ j. is_some (programs_in machine_of w.calls j)) w.register w.stopped));
    }
