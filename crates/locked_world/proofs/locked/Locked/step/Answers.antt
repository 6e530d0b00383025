use Rattle.locked_world.proofs.Lemmas.{rules, ◌≡◌, ◌∙◌, ◌++◌, ◌∷◌, ◌<◌, [], List, refl, ap, sym, subst, arith, length, Call, Passes, Event, Step, Came, Stepped, Idle, Waits, Ran, Done, Stopped, said, shared_of, HandsBack, LockedRun, StoredRun, IsKept, IsRun, with_event, contents, failures, replies_of, MakesStep, IsUnmoved, halt_told, kept_step, kept_done, kept_waits, waits_unmoved, had_spare, replies_below}
use Rattle.locked_world.proofs.locked.Locked.step.Goals as goal

pub invariant_of-self-in-Idle : goal.invariant_of-self-in-Idle
invariant_of-self-in-Idle g c =
    let i = c.self.inside in
    kept_step (record { image = i.image.items; fuse = i.fuse; events = i.story.events; outcomes = i.story.outcomes }) i.book.total i.world i.given i.spare c.self.invariant c.args.hart Passes Idle _ _ c.step.new.self
    refl c.in-Idle.ensures.sizes c.in-Idle.ensures.honest c.in-Idle.ensures.makes c.in-Idle.ensures.called
    (c.idle.ensures.events ∙ ap (λ (z : List Event). z ++ Step c.args.hart ∷ []) c.make_room.ensures.same.0)
    (c.idle.ensures.outcomes ∙ ap (λ (z : List Came). z ++ Stepped Idle ∷ []) c.make_room.ensures.same.1)

pub returns-in-Idle-clause-answer : goal.returns-in-Idle-clause-answer
returns-in-Idle-clause-answer g c =
    let i = c.self.inside in
    let p = c.idle.ensures.events ∙ ap (λ (z : List Event). z ++ Step c.args.hart ∷ []) c.make_room.ensures.same.0 in
    let q = c.idle.ensures.outcomes ∙ ap (λ (z : List Came). z ++ Stepped Idle ∷ []) c.make_room.ensures.same.1 in
    let made : MakesStep i.world c.args.hart Idle c.step.new.self = record { makes = c.in-Idle.ensures.makes; honest = c.in-Idle.ensures.honest; sizes = c.in-Idle.ensures.sizes; called = c.in-Idle.ensures.called } in (
      (
        (λ j. record { image = i.image.items; fuse = i.fuse; events = p j; outcomes = q j }) ∙ ap (λ (z : LockedRun). with_event z.stored (Step c.args.hart) (Stepped Idle)) c.self.view_is,
        subst (λ (z : LockedRun). MakesStep z.world c.args.hart Idle c.step.new.self) c.self.view_is made,
      ),
      refl,
    )

pub invariant_of-self-in-Waits : goal.invariant_of-self-in-Waits
invariant_of-self-in-Waits g c =
    let i = c.self.inside in
    subst (λ (z : StoredRun). IsKept z i.book.total c.step.new.self i.given i.spare) (λ j. record { image = i.image.items; fuse = i.fuse; events = sym c.make_room.ensures.same.0 j; outcomes = sym c.make_room.ensures.same.1 j })
    (kept_waits (record { image = i.image.items; fuse = i.fuse; events = i.story.events; outcomes = i.story.outcomes }) i.book.total i.world i.given i.spare c.self.invariant c.args.hart Passes c.step.new.self c.in-Waits.ensures.sizes c.in-Waits.ensures.makes c.in-Waits.ensures.called)

pub returns-in-Waits-clause-answer : goal.returns-in-Waits-clause-answer
returns-in-Waits-clause-answer g c =
    let i = c.self.inside in
    let made : MakesStep i.world c.args.hart Waits c.step.new.self = record { makes = c.in-Waits.ensures.makes; honest = c.in-Waits.ensures.honest; sizes = c.in-Waits.ensures.sizes; called = c.in-Waits.ensures.called } in (
      (
        subst IsRun c.self.view_is c.self.invariant.run,
        (λ j. record { image = i.image.items; fuse = i.fuse; events = c.make_room.ensures.same.0 j; outcomes = c.make_room.ensures.same.1 j }) ∙ ap (λ (z : LockedRun). z.stored) c.self.view_is,
        subst (λ (z : LockedRun). MakesStep z.world c.args.hart Waits c.step.new.self) c.self.view_is made,
        subst (λ (z : LockedRun). IsUnmoved z.world c.step.new.self) c.self.view_is (waits_unmoved i.world c.step.new.self c.args.hart Passes c.in-Waits.ensures.makes),
      ),
      refl,
    )

pub invariant_of-self-in-Ran : goal.invariant_of-self-in-Ran
invariant_of-self-in-Ran g c =
    let i = c.self.inside in
    kept_step (record { image = i.image.items; fuse = i.fuse; events = i.story.events; outcomes = i.story.outcomes }) i.book.total i.world i.given i.spare c.self.invariant c.args.hart Passes (Ran c.in-Ran.kind) _ _ c.step.new.self
    refl c.in-Ran.ensures.sizes c.in-Ran.ensures.honest c.in-Ran.ensures.makes c.in-Ran.ensures.called
    (c.ran.ensures.events ∙ ap (λ (z : List Event). z ++ Step c.args.hart ∷ []) c.make_room.ensures.same.0)
    (c.ran.ensures.outcomes ∙ ap (λ (z : List Came). z ++ Stepped (Ran c.in-Ran.kind) ∷ []) c.make_room.ensures.same.1)

pub returns-in-Ran-clause-answer : goal.returns-in-Ran-clause-answer
returns-in-Ran-clause-answer g c =
    let i = c.self.inside in
    let p = c.ran.ensures.events ∙ ap (λ (z : List Event). z ++ Step c.args.hart ∷ []) c.make_room.ensures.same.0 in
    let q = c.ran.ensures.outcomes ∙ ap (λ (z : List Came). z ++ Stepped (Ran c.in-Ran.kind) ∷ []) c.make_room.ensures.same.1 in
    let made : MakesStep i.world c.args.hart (Ran c.in-Ran.kind) c.step.new.self = record { makes = c.in-Ran.ensures.makes; honest = c.in-Ran.ensures.honest; sizes = c.in-Ran.ensures.sizes; called = c.in-Ran.ensures.called } in (
      (
        (λ j. record { image = i.image.items; fuse = i.fuse; events = p j; outcomes = q j }) ∙ ap (λ (z : LockedRun). with_event z.stored (Step c.args.hart) (Stepped (Ran c.in-Ran.kind))) c.self.view_is,
        subst (λ (z : LockedRun). MakesStep z.world c.args.hart (Ran c.in-Ran.kind) c.step.new.self) c.self.view_is made,
      ),
      refl,
    )

pub invariant_of-self-in-Stopped : goal.invariant_of-self-in-Stopped
invariant_of-self-in-Stopped g c =
    let i = c.self.inside in
    kept_step (record { image = i.image.items; fuse = i.fuse; events = i.story.events; outcomes = i.story.outcomes }) i.book.total i.world i.given i.spare c.self.invariant c.args.hart (said (Stopped c.in-Stopped.stop) (shared_of contents failures c.step.new.self.harts)) (Stopped c.in-Stopped.stop) _ _ c.step.new.self
    refl c.in-Stopped.ensures.sizes c.in-Stopped.ensures.honest c.in-Stopped.ensures.makes c.in-Stopped.ensures.called
    (c.stopped.ensures.events ∙ ap (λ (z : List Event). z ++ Step c.args.hart ∷ []) c.make_room.ensures.same.0)
    (c.stopped.ensures.outcomes ∙ ap (λ (z : List Came). z ++ Stepped (Stopped c.in-Stopped.stop) ∷ []) c.make_room.ensures.same.1)

pub returns-in-Stopped-clause-answer : goal.returns-in-Stopped-clause-answer
returns-in-Stopped-clause-answer g c =
    let i = c.self.inside in
    let p = c.stopped.ensures.events ∙ ap (λ (z : List Event). z ++ Step c.args.hart ∷ []) c.make_room.ensures.same.0 in
    let q = c.stopped.ensures.outcomes ∙ ap (λ (z : List Came). z ++ Stepped (Stopped c.in-Stopped.stop) ∷ []) c.make_room.ensures.same.1 in
    let made : MakesStep i.world c.args.hart (Stopped c.in-Stopped.stop) c.step.new.self = record { makes = c.in-Stopped.ensures.makes; honest = c.in-Stopped.ensures.honest; sizes = c.in-Stopped.ensures.sizes; called = c.in-Stopped.ensures.called } in (
      halt_told _ c.args.hart c.in-Stopped.stop c.halt_of.result _ c.halt_of.ensures (
        (λ j. record { image = i.image.items; fuse = i.fuse; events = p j; outcomes = q j }) ∙ ap (λ (z : LockedRun). with_event z.stored (Step c.args.hart) (Stepped (Stopped c.in-Stopped.stop))) c.self.view_is,
        subst (λ (z : LockedRun). MakesStep z.world c.args.hart (Stopped c.in-Stopped.stop) c.step.new.self) c.self.view_is made,
      ),
      refl,
    )

pub filled-requires : goal.filled-requires
filled-requires g c =
    let i = c.self.inside in
    let had = had_spare (record { image = i.image.items; fuse = i.fuse; events = i.story.events; outcomes = i.story.outcomes }) i.book.total i.world i.given i.spare c.self.invariant c.args.hart Passes c.in-Done.reply c.step.new.self c.in-Done.ensures.makes in
    let same : had.call ≡ c.in-Some.spare = (let q = sym had.spare ∙ sym c.take_spare.ensures.taken ∙ c.in-Some.is in cc (q)) in
    subst (λ (z : Call). HandsBack z c.in-Done.reply) same had.back

pub overflow_add-self : goal.overflow_add-self
overflow_add-self g c =
    let i = c.self.inside in
    let had = had_spare (record { image = i.image.items; fuse = i.fuse; events = i.story.events; outcomes = i.story.outcomes }) i.book.total i.world i.given i.spare c.self.invariant c.args.hart Passes c.in-Done.reply c.step.new.self c.in-Done.ensures.makes in
    let few = replies_below c.args.hart (record { image = i.image.items; fuse = i.fuse; events = i.story.events; outcomes = i.story.outcomes }) in
    let given = c.self.invariant.given_are c.args.hart (omega (arith, had.below, c.self.invariant.eight)) in
    record { fits = omega (arith, given, few, ap length c.make_room.ensures.same.0, c.make_room.ensures.few) }

pub invariant_of-self-in-Done : goal.invariant_of-self-in-Done
invariant_of-self-in-Done g c =
    let i = c.self.inside in
    let had = had_spare (record { image = i.image.items; fuse = i.fuse; events = i.story.events; outcomes = i.story.outcomes }) i.book.total i.world i.given i.spare c.self.invariant c.args.hart Passes c.in-Done.reply c.step.new.self c.in-Done.ensures.makes in
    let below : c.args.hart < 8 = omega (arith, had.below, c.self.invariant.eight) in
    kept_done (record { image = i.image.items; fuse = i.fuse; events = i.story.events; outcomes = i.story.outcomes }) i.book.total i.world i.given i.spare c.self.invariant c.args.hart Passes c.in-Done.reply _ _ _ c.step.new.self _
    (search (rules, below)) c.in-Done.ensures.sizes c.in-Done.ensures.honest c.in-Done.ensures.makes c.in-Done.ensures.called
    (c.done.ensures.events ∙ ap (λ (z : List Event). z ++ Step c.args.hart ∷ []) c.make_room.ensures.same.0)
    (c.done.ensures.outcomes ∙ (λ j. c.make_room.ensures.same.1 j ++ Stepped (Done (record { answer = c.in-Done.reply.answer; call = c.filled.ensures j })) ∷ []))
    c.add.ensures.total c.take_spare.ensures.left

pub returns-in-Some-clause-answer : goal.returns-in-Some-clause-answer
returns-in-Some-clause-answer g c =
    let i = c.self.inside in
    let had = had_spare (record { image = i.image.items; fuse = i.fuse; events = i.story.events; outcomes = i.story.outcomes }) i.book.total i.world i.given i.spare c.self.invariant c.args.hart Passes c.in-Done.reply c.step.new.self c.in-Done.ensures.makes in
    let given = c.self.invariant.given_are c.args.hart (omega (arith, had.below, c.self.invariant.eight)) in
    let p = c.done.ensures.events ∙ ap (λ (z : List Event). z ++ Step c.args.hart ∷ []) c.make_room.ensures.same.0 in
    let q = c.done.ensures.outcomes ∙ (λ j. c.make_room.ensures.same.1 j ++ Stepped (Done (record { answer = c.in-Done.reply.answer; call = c.filled.ensures j })) ∷ []) in
    let made : MakesStep i.world c.args.hart (Done c.in-Done.reply) c.step.new.self = record { makes = c.in-Done.ensures.makes; honest = c.in-Done.ensures.honest; sizes = c.in-Done.ensures.sizes; called = c.in-Done.ensures.called } in (
      refl,
      given ∙ ap (λ (z : LockedRun). length (replies_of c.args.hart z.stored)) c.self.view_is,
      (
        (λ j. record { image = i.image.items; fuse = i.fuse; events = p j; outcomes = q j }) ∙ ap (λ (z : LockedRun). with_event z.stored (Step c.args.hart) (Stepped (Done c.in-Done.reply))) c.self.view_is,
        subst (λ (z : LockedRun). MakesStep z.world c.args.hart (Done c.in-Done.reply) c.step.new.self) c.self.view_is made,
      ),
      c.add.ensures.amount,
    )
