use Rattle.hart_core.proofs.Lemmas.{◌≡◌, None, sym, ◌∙◌, ap, subst, length, slice_set, get_or, none_there, fault_of, HasBegun, SetsAt, Start, Started, refusal_of, WorldOf, Makes, may_start, idle_at, made_start, made_refused, world_started}
use Rattle.hart_core.proofs.world.World.start.Goals as goal

pub begin-requires-clause-idle : goal.begin-requires-clause-idle
begin-requires-clause-idle g c =
    let w = c.self.inside in
    idle_at g.D.Device.contents g.D.Device.failures w.sizes w.harts
    (subst (λ (v : WorldOf _). length v.harts.calls ≡ 8) (sym c.self.view_is) c.find_start_refusal.ensures.eight) c.args.hart c.args.call c.find_start_refusal.ensures.bytes
    (subst (λ (v : WorldOf _). refusal_of v.harts c.args.hart c.args.call ≡ None) (sym c.self.view_is) (sym c.find_start_refusal.ensures.refusal ∙ c.in-None.is))

pub begin-requires-clause-faultless : goal.begin-requires-clause-faultless
begin-requires-clause-faultless g c =
    may_start c.args.self.now.harts c.args.hart c.args.call (sym c.find_start_refusal.ensures.refusal ∙ c.in-None.is)

pub invariant_of-self : goal.invariant_of-self
invariant_of-self g c =
    let w = c.self.inside in
    let long = subst (λ (v : WorldOf _). length v.harts.calls ≡ 8) (sym c.self.view_is) c.find_start_refusal.ensures.eight in
    let none = subst (λ (v : WorldOf _). refusal_of v.harts c.args.hart c.args.call ≡ None) (sym c.self.view_is) (sym c.find_start_refusal.ensures.refusal ∙ c.in-None.is) in
    world_started g.D.Device.contents g.D.Device.failures w.sizes w.harts long c.args.hart c.args.call c.find_start_refusal.ensures.bytes c.begin.new.self c.self.invariant
    (made_start g.D.Device.contents g.D.Device.failures w.sizes w.harts long c.args.hart c.args.call c.find_start_refusal.ensures.bytes c.begin.new.self none c.begin.ensures.makes c.begin.ensures.eight (c.begin.ensures.children ∙ ap (slice_set w.harts.children c.args.hart) c.find_child-child.ensures))

pub returns-in-Some-clause-makes : goal.returns-in-Some-clause-makes
returns-in-Some-clause-makes g c =
    let v = c.args.self.now in
    made_refused g.D.Device.contents g.D.Device.failures v.sizes v.harts c.find_start_refusal.ensures.eight c.args.hart c.args.call c.find_start_refusal.ensures.bytes c.in-Some.why (sym c.find_start_refusal.ensures.refusal ∙ c.in-Some.is)

pub returns-in-None-clause-makes : goal.returns-in-None-clause-makes
returns-in-None-clause-makes g c =
    let w = c.self.inside in
    let long = subst (λ (v : WorldOf _). length v.harts.calls ≡ 8) (sym c.self.view_is) c.find_start_refusal.ensures.eight in
    let none = subst (λ (v : WorldOf _). refusal_of v.harts c.args.hart c.args.call ≡ None) (sym c.self.view_is) (sym c.find_start_refusal.ensures.refusal ∙ c.in-None.is) in
    subst (λ (v : WorldOf _). Makes g.D.Device.contents g.D.Device.failures v.sizes (Start c.args.hart c.args.call) v.harts Started c.begin.new.self) c.self.view_is
    (made_start g.D.Device.contents g.D.Device.failures w.sizes w.harts long c.args.hart c.args.call c.find_start_refusal.ensures.bytes c.begin.new.self none c.begin.ensures.makes c.begin.ensures.eight (c.begin.ensures.children ∙ ap (slice_set w.harts.children c.args.hart) c.find_child-child.ensures))

pub returns-in-None-clause-begun : goal.returns-in-None-clause-begun
returns-in-None-clause-begun g c =
    let w = c.self.inside in
    let h = c.args.hart in
    let new = c.begin.new.self.calls in
    let long = subst (λ (v : WorldOf _). length v.harts.calls ≡ 8) (sym c.self.view_is) c.find_start_refusal.ensures.eight in
    let idle = idle_at g.D.Device.contents g.D.Device.failures w.sizes w.harts long h c.args.call c.find_start_refusal.ensures.bytes
    (subst (λ (v : WorldOf _). refusal_of v.harts h c.args.call ≡ None) (sym c.self.view_is) (sym c.find_start_refusal.ensures.refusal ∙ c.in-None.is)) in
    subst (λ (v : WorldOf _). (get_or v.harts.calls h None ≡ None) × HasBegun v.sizes c.args.call (get_or new h None) × (fault_of c.args.call ≡ None) × SetsAt h v.harts.calls new) c.self.view_is (
      none_there w.harts.calls h idle,
      c.begin.ensures.begun,
      may_start c.args.self.now.harts h c.args.call (sym c.find_start_refusal.ensures.refusal ∙ c.in-None.is),
      c.begin.ensures.others,
    )
