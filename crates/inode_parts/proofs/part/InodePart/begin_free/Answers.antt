use Rattle.inode_parts.proofs.Lemmas.{rules, refl, ap, Emptying, free_begins, free_is_part, free_there}
use Rattle.inode_parts.proofs.part.InodePart.begin_free.Goals as goal

pub begin-free-requires-clause-emptying : goal.begin-free-requires-clause-emptying
begin-free-requires-clause-emptying c = free_begins c.args.sizes.now c.args.number c.lock_seat-seat.result c.args.hand.now c.lock_seat-seat.ensures c.requires

pub returns : goal.returns
returns c =
    record {
      part = λ path m. free_is_part c.args.sizes.now path m c.args.number c.lock_seat-seat.result c.begin-free.result c.args.hand.now c.begin-free.new.hand c.lock_seat-seat.ensures c.requires c.begin-free.ensures.program c.begin-free.ensures.beside;
      ready =
          let there = free_there c.args.sizes.now c.args.number c.lock_seat-seat.result c.args.hand.now c.begin-free.new.hand c.lock_seat-seat.ensures c.requires c.begin-free.ensures.beside in
          (c.begin-free.ensures.ready, ap (λ (e : Emptying). e.seat) c.begin-free.ensures.about, there.0, there.1);
      told = λ first second. tt;
      under = λ path m. ((c.lock_seat-seat.ensures, c.requires.2, c.begin-free.ensures.beside), refl);
      hand = search rules;
    }
