use Rattle.syscalls.proofs.Lemmas.{◌≡◌, Bool, Option, Some, None, refl, sym, ap, ◌∙◌, subst, MatchOption, Reply, Waits, Ran, Done, Stopped, MayNext, state_of, reply_to, call_in, Running, running_of, call_at, heard_of, StepsAt, busy_is, busy_on}
use Rattle.syscalls.proofs.place.CallPlace.step.Goals as goal

pub step-requires-clause-may : goal.step-requires-clause-may
unfolding running_of
step-requires-clause-may g c =
    let w = c.self.inside in
    let at : c.args.self.now ≡ Some c.deref_mut.result.now = busy_is w.is_busy w.machine.value c.args.self.now c.self.view_is c.requires.busy ∙ ap (λ (m : Running). Some m) (sym c.deref_mut.ensures.value) in
    subst (λ (o : Option Running). MatchOption o ⊥ (λ m. MayNext c.args.hart (running_of m) (state_of g.D.Device.contents g.D.Device.failures c.args.core.now))) at c.requires.may

pub returns-in-Waits-clause-steps : goal.returns-in-Waits-clause-steps
unfolding running_of
returns-in-Waits-clause-steps g c =
    let w = c.self.inside in
    let at : c.args.self.now ≡ Some c.deref_mut.result.now = busy_is w.is_busy w.machine.value c.args.self.now c.self.view_is c.requires.busy ∙ ap (λ (m : Running). Some m) (sym c.deref_mut.ensures.value) in
    let left = c.step.new.self in
    let did = c.in-Waits.ensures in
    subst (λ (o : Option Running). StepsAt g.D.Device.contents g.D.Device.failures g.D.Device.Called c.args.hart o (call_at w.is_busy left) (Waits) c.args.last.now c.args.core.now c.step.new.core) (sym at) (
      left,
      ap (λ (b : Bool). call_at b left) (busy_on w.is_busy w.machine.value c.args.self.now c.self.view_is c.requires.busy),
      record { moves = did.steps.moves; honest = did.steps.honest; still = did.steps.still; fits = record { ready = did.steps.fits; fits = did.fits }; others = did.steps.others; called = did.steps.called; tells = did.tells },
    )

pub returns-in-Ran-clause-steps : goal.returns-in-Ran-clause-steps
unfolding running_of
returns-in-Ran-clause-steps g c =
    let w = c.self.inside in
    let at : c.args.self.now ≡ Some c.deref_mut.result.now = busy_is w.is_busy w.machine.value c.args.self.now c.self.view_is c.requires.busy ∙ ap (λ (m : Running). Some m) (sym c.deref_mut.ensures.value) in
    let left = c.step.new.self in
    let did = c.in-Ran.ensures in
    subst (λ (o : Option Running). StepsAt g.D.Device.contents g.D.Device.failures g.D.Device.Called c.args.hart o (call_at w.is_busy left) (Ran c.in-Ran.kind) c.args.last.now c.args.core.now c.step.new.core) (sym at) (
      left,
      ap (λ (b : Bool). call_at b left) (busy_on w.is_busy w.machine.value c.args.self.now c.self.view_is c.requires.busy),
      record { moves = did.steps.moves; honest = did.steps.honest; still = did.steps.still; fits = record { ready = did.steps.fits; fits = did.fits }; others = did.steps.others; called = did.steps.called; tells = did.tells },
    )

pub returns-in-Done-clause-steps : goal.returns-in-Done-clause-steps
unfolding running_of
returns-in-Done-clause-steps g c =
    let w = c.self.inside in
    let at : c.args.self.now ≡ Some c.deref_mut.result.now = busy_is w.is_busy w.machine.value c.args.self.now c.self.view_is c.requires.busy ∙ ap (λ (m : Running). Some m) (sym c.deref_mut.ensures.value) in
    let did = c.in-Done.ensures in
    let says : c.reply.result ≡ reply_to (call_in c.step.new.self.control.call) c.step.new.self.control.says = c.reply.ensures ∙ ap (λ (m : Running). reply_to (call_in m.control.call) m.control.says) c.deref_mut-in-Done.ensures.value in
    subst (λ (o : Option Running). StepsAt g.D.Device.contents g.D.Device.failures g.D.Device.Called c.args.hart o None (Done c.reply.result c.in-Done.kind) c.tell.new.last c.args.core.now c.step.new.core) (sym at)
    (subst (λ (r : Reply). StepsAt g.D.Device.contents g.D.Device.failures g.D.Device.Called c.args.hart (Some c.deref_mut.result.now) None (Done r c.in-Done.kind) c.tell.new.last c.args.core.now c.step.new.core) (sym says) (
      c.step.new.self,
      refl,
      record { moves = did.steps.moves; honest = did.steps.honest; still = did.steps.still; fits = tt; others = did.steps.others; called = did.steps.called; tells = (did.tells, c.tell.ensures ∙ ap heard_of c.deref.ensures) },
    ))

pub returns-in-Stopped-clause-steps : goal.returns-in-Stopped-clause-steps
unfolding running_of
returns-in-Stopped-clause-steps g c =
    let w = c.self.inside in
    let at : c.args.self.now ≡ Some c.deref_mut.result.now = busy_is w.is_busy w.machine.value c.args.self.now c.self.view_is c.requires.busy ∙ ap (λ (m : Running). Some m) (sym c.deref_mut.ensures.value) in
    let left = c.step.new.self in
    let did = c.in-Stopped.ensures in
    subst (λ (o : Option Running). StepsAt g.D.Device.contents g.D.Device.failures g.D.Device.Called c.args.hart o (call_at w.is_busy left) (Stopped) c.args.last.now c.args.core.now c.step.new.core) (sym at) (
      left,
      ap (λ (b : Bool). call_at b left) (busy_on w.is_busy w.machine.value c.args.self.now c.self.view_is c.requires.busy),
      record { moves = did.steps.moves; honest = did.steps.honest; still = did.steps.still; fits = record { ready = did.steps.fits; fits = did.fits }; others = did.steps.others; called = did.steps.called; tells = did.tells },
    )
