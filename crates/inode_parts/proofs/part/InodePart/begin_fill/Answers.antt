use Rattle.inode_parts.proofs.Lemmas.{refl, rules, ap, ◌∙◌, Dinode, InodePlace, record_in, fill, fill_is_part}
use Rattle.inode_parts.proofs.part.InodePart.begin_fill.Goals as goal

pub returns : goal.returns
returns c =
    record {
      part = λ path notes.
          let sizes = c.args.sizes.now in
          let n = c.args.number in
          let before = c.args.hand.now in
          let is = c.lock_seat-seat.ensures in
          let there = c.record_at-inode.ensures ∙ ap (λ (k : InodePlace). record_in k before) is in
          let program = c.new-fill.ensures.program before ∙ ap (λ (d : Dinode). fill sizes n d c.args.parent) there in
          fill_is_part sizes path notes n c.args.parent before (record { seat = c.lock_seat-seat.result; fill = c.new-fill.result }) c.requires.0.0 is program;
      ready = search rules;
      told = λ first second. tt;
      under = λ path m. (search rules, refl);
      hand = refl;
    }
