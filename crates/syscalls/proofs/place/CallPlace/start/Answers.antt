use Rattle.syscalls.proofs.Lemmas.{sym, subst, IsEmpty, bare-fits, Running, running_of, idle_is, nothing_fits}
use Rattle.syscalls.proofs.place.CallPlace.start.Goals as goal

pub start-requires-clause-runs : goal.start-requires-clause-runs
start-requires-clause-runs c = c.calls_run_by_parts.ensures c.args.sizes.now.version c.args.call c.requires.call

pub returns : goal.returns
unfolding running_of
returns c =
    let w = c.self.inside in
    let empty : IsEmpty c.deref_mut.result.now.hand = subst (λ (m : Running). IsEmpty m.hand) (sym c.deref_mut.ensures.value) (c.self.invariant (idle_is w.is_busy w.machine.value c.args.self.now c.self.view_is c.requires.idle)) in (
      c.start.ensures.program,
      λ hart s. record { ready = c.start.ensures.ready; fits = bare-fits hart s c.deref_mut.result.now.hand c.start.new.hand c.start.ensures.hand (nothing_fits hart s c.deref_mut.result.now.hand empty) },
      c.start.ensures.asks,
    )
