use Rattle.inode_parts.proofs.Lemmas.{refl, open_seat, lock_open_is_part, comes_first, first_seat}
use Rattle.inode_parts.proofs.part.InodePart.begin_lock_open.Goals as goal

pub returns : goal.returns
returns c n =
    record {
      part = λ path m.
          let free = first_seat (open_seat c.new-lock.result) c.args.hand.now c.new-lock.ensures.seat c.requires.1 c.requires.2 in
          lock_open_is_part c.args.sizes.now path m c.args.fd c.args.hand.now c.new-lock.result n (c.new-lock.ensures.program c.args.hand.now) free.0;
      ready =
          let free = first_seat (open_seat c.new-lock.result) c.args.hand.now c.new-lock.ensures.seat c.requires.1 c.requires.2 in
          (c.new-lock.ensures.ready c.args.hand.now c.requires.1 c.requires.3, free.1);
      told = λ first second. tt;
      under = λ path m.
          let k = open_seat c.new-lock.result in
          let free = first_seat k c.args.hand.now c.new-lock.ensures.seat c.requires.1 c.requires.2 in
          ((refl, comes_first k c.args.hand.now free.0 c.requires.3), refl);
      hand = refl;
    }
