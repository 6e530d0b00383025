use Rattle.group_log.proofs.Lemmas.{◌≡◌, ◌∙◌, sym, subst, ℕ, List, Option, Some, None, slice_get, slice_set, arith, IsQuiet, IsSoundLog, rooms_le, rooms_join, length-set_member}
use Rattle.group_log.proofs.log.Log.join.Goals as goal

pub invariant_of-self : goal.invariant_of-self
invariant_of-self g c =
    let l = c.self.inside in
    let sound = c.self.invariant.log in
    let idle : slice_get l.members c.args.hart ≡ Some None = subst (λ v. slice_get v.members c.args.hart ≡ Some None) (sym c.self.view_is) c.requires.idle in
    let most = rooms_le l.members in
    let more = rooms_join l.members c.args.hart idle in
    let joins : c.join.new.self ≡ slice_set l.members c.args.hart (Some 0) = c.join.ensures in
    record {
      log = subst (λ (ms : List (Option ℕ)). IsSoundLog (g.D.Device.contents l.cache.device) l.cache.seats l.sizes l.group.items ms l.phase) (sym joins) (record {
        place = sound.place;
        room = omega (arith, most, more, c.if-limit-len.false, c.outstanding-others.ensures, c.len.ensures.value, c.min-limit.ensures);
        eight = length-set_member l.members c.args.hart (Some 0) ∙ sound.eight;
        quiet = subst (λ p. IsQuiet p (slice_set l.members c.args.hart (Some 0))) (sym c.in-Open.is) tt;
        homes = sound.homes;
        distinct = sound.distinct;
        buffers = sound.buffers;
        blocks = sound.blocks;
      });
      placed = c.self.invariant.placed;
    }
