use Rattle.group_log.proofs.Lemmas.{sym, subst, ℕ, List, Option, None, replicate, Open, IsSoundLog, fresh_good, fresh_recovered, seen_on_disk, no_slots}
use Rattle.group_log.proofs.log.Log.new.Goals as goal

pub invariant_of-result : goal.invariant_of-result
invariant_of-result g c = record {
  log = subst (λ (ms : List (Option ℕ)). IsSoundLog (g.D.Device.contents c.args.cache.device) c.args.cache.seats c.args.sizes c.new.result.items ms Open) (sym c.new-3.ensures)
      (subst (λ (l : List ℕ). IsSoundLog (g.D.Device.contents c.args.cache.device) c.args.cache.seats c.args.sizes l (replicate 8 None) Open) (sym c.new.ensures)
      (fresh_good (g.D.Device.contents c.args.cache.device) c.args.cache.seats c.args.sizes c.requires.fresh c.requires.place c.requires.empty));
  placed = no_slots c.args.cache.seats c.new.result.items c.new-2.result.items c.new.ensures c.new-2.ensures;
}

pub returns-clause-seen : goal.returns-clause-seen
returns-clause-seen g c = λ b. seen_on_disk (g.D.Device.contents c.args.cache.device) c.args.cache.seats b c.requires.fresh

pub returns-clause-recovered : goal.returns-clause-recovered
returns-clause-recovered g c = λ b. fresh_recovered (g.D.Device.contents c.args.cache.device) c.args.cache.seats b c.requires.fresh c.requires.empty
