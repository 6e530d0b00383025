use Rattle.hart_core.proofs.Lemmas.{◌≡◌, Some, None, sym, subst, get_or, slice_get, slice_get_within, Start, Started, plain_makes, plain, state_of, block_calls, blocks, code, HartsOf, programs_of, right_call, all_set, begun_fits, begun_in, leaves_same}
use Rattle.hart_core.proofs.harts.Harts.begin.Goals as goal

pub begin-requires-clause-call : goal.begin-requires-clause-call
begin-requires-clause-call g c = right_call c.args.sizes.now.version c.args.call c.requires.faultless

pub invariant_of-self : goal.invariant_of-self
invariant_of-self g c =
    let w = c.self.inside in
    let s = state_of g.D.Device.contents g.D.Device.failures w.core in
    let at = subst (λ (v : HartsOf _). slice_get v.calls c.args.hart ≡ Some None) (sym c.self.view_is) c.requires.idle in
    all_set c.args.hart s s w.calls c.begin.new.self (get_or c.begin.new.self c.args.hart None) (slice_get_within w.calls c.args.hart None at) c.begin.ensures.kept (leaves_same c.args.hart s) c.self.invariant
    (begun_fits c.args.sizes.now c.args.call (get_or c.begin.new.self c.args.hart None) c.args.hart s c.begin.ensures.begun)

pub returns-clause-makes : goal.returns-clause-makes
returns-clause-makes g c =
    let w = c.self.inside in
    let s = state_of g.D.Device.contents g.D.Device.failures w.core in
    let at = subst (λ (v : HartsOf _). slice_get v.calls c.args.hart ≡ Some None) (sym c.self.view_is) c.requires.idle in
    subst
    (λ (v : HartsOf _). plain_makes blocks code (Start c.args.hart (plain ((block_calls c.args.sizes.now).program c.args.call))) (programs_of g.D.Device.contents g.D.Device.failures v)
    ≡ record { came = Started; after = programs_of g.D.Device.contents g.D.Device.failures (record { core = w.core; stopped = w.stopped; children = w.children; calls = c.begin.new.self }) })
    c.self.view_is
    (begun_in c.args.sizes.now c.args.call c.args.hart s w.stopped w.calls c.begin.new.self (get_or c.begin.new.self c.args.hart None) c.begin.ensures.begun at c.begin.ensures.kept)
