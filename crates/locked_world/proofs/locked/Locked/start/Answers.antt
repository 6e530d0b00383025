use Rattle.locked_world.proofs.Lemmas.{◌∙◌, ◌++◌, ◌∷◌, [], List, refl, ap, subst, Passes, Start, Came, Started, Refused, LockedRun, with_event, MakesStart, kept_started, kept_refused, begun_below}
use Rattle.locked_world.proofs.locked.Locked.start.Goals as goal

pub lay_by-requires : goal.lay_by-requires
lay_by-requires g c = begun_below c.self.inside.world c.start.new.self c.args.hart c.args.call c.in-Ok-start.ensures.makes

pub invariant_of-self-in-Ok-start : goal.invariant_of-self-in-Ok-start
invariant_of-self-in-Ok-start g c =
    let i = c.self.inside in
    kept_started (record { image = i.image.items; fuse = i.fuse; events = i.story.events; outcomes = i.story.outcomes }) i.book.total i.world i.given i.spare c.self.invariant c.args.hart c.args.call c.in-Ok.copies.spare Passes _ _ _ c.start.new.self _
    c.in-Ok.ensures.1 c.in-Ok-start.ensures.sizes c.in-Ok-start.ensures.makes c.in-Ok-start.ensures.core
    (c.started.ensures.events ∙ (λ j. c.make_room.ensures.same.0 j ++ Start c.args.hart (c.in-Ok.ensures.0 j) ∷ []))
    (c.started.ensures.outcomes ∙ ap (λ (z : List Came). z ++ Started ∷ []) c.make_room.ensures.same.1)
    c.add.ensures.total c.lay_by.ensures

pub invariant_of-self-in-Err : goal.invariant_of-self-in-Err
invariant_of-self-in-Err g c =
    let i = c.self.inside in
    kept_refused (record { image = i.image.items; fuse = i.fuse; events = i.story.events; outcomes = i.story.outcomes }) i.book.total i.world i.given i.spare c.self.invariant c.args.hart c.args.call c.in-Err.why Passes _ _ c.start.new.self
    c.in-Err.ensures.sizes c.in-Err.ensures.makes c.in-Err.ensures.core
    (c.refused.ensures.events ∙ (λ j. c.make_room.ensures.same.0 j ++ Start c.args.hart ((c.one_of-event.ensures ∙ c.in-Ok.ensures.0) j) ∷ []))
    (c.refused.ensures.outcomes ∙ ap (λ (z : List Came). z ++ Refused c.in-Err.why ∷ []) c.make_room.ensures.same.1)

pub returns-in-Ok-start-clause-answer : goal.returns-in-Ok-start-clause-answer
returns-in-Ok-start-clause-answer g c =
    let i = c.self.inside in
    let p = c.started.ensures.events ∙ (λ j. c.make_room.ensures.same.0 j ++ Start c.args.hart (c.in-Ok.ensures.0 j) ∷ []) in
    let q = c.started.ensures.outcomes ∙ ap (λ (z : List Came). z ++ Started ∷ []) c.make_room.ensures.same.1 in
    let made : MakesStart i.world c.args.hart c.args.call Started c.start.new.self = record { makes = c.in-Ok-start.ensures.makes; sizes = c.in-Ok-start.ensures.sizes; core = c.in-Ok-start.ensures.core } in (
      refl,
      c.in-Ok.ensures.2,
      (
        (λ j. record { image = i.image.items; fuse = i.fuse; events = p j; outcomes = q j }) ∙ ap (λ (z : LockedRun). with_event z.stored (Start c.args.hart c.args.call) Started) c.self.view_is,
        subst (λ (z : LockedRun). MakesStart z.world c.args.hart c.args.call Started c.start.new.self) c.self.view_is made,
      ),
      c.add.ensures.amount,
    )

pub returns-in-Err-clause-answer : goal.returns-in-Err-clause-answer
returns-in-Err-clause-answer g c =
    let i = c.self.inside in
    let p = c.refused.ensures.events ∙ (λ j. c.make_room.ensures.same.0 j ++ Start c.args.hart ((c.one_of-event.ensures ∙ c.in-Ok.ensures.0) j) ∷ []) in
    let q = c.refused.ensures.outcomes ∙ ap (λ (z : List Came). z ++ Refused c.in-Err.why ∷ []) c.make_room.ensures.same.1 in
    let made : MakesStart i.world c.args.hart c.args.call (Refused c.in-Err.why) c.start.new.self = record { makes = c.in-Err.ensures.makes; sizes = c.in-Err.ensures.sizes; core = c.in-Err.ensures.core } in (
      c.in-Err.ensures.back.0,
      (
        (
          (λ j. record { image = i.image.items; fuse = i.fuse; events = p j; outcomes = q j }) ∙ ap (λ (z : LockedRun). with_event z.stored (Start c.args.hart c.args.call) (Refused c.in-Err.why)) c.self.view_is,
          subst (λ (z : LockedRun). MakesStart z.world c.args.hart c.args.call (Refused c.in-Err.why) c.start.new.self) c.self.view_is made,
        ),
        c.in-Err.ensures.back.1 ∙ ap (λ (z : LockedRun). z.world) c.self.view_is,
      ),
      refl,
    )
