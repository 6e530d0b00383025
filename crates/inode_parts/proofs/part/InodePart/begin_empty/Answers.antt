use Rattle.inode_parts.proofs.Lemmas.{rules, refl, ◌≡◌, sym, ap, subst, ◌∙◌, truncate, InodePlace, beside_emptying, truncate_left, number_in, record_in, Emptying, empty_is_part, freeing-kept, IsAmid}
use Rattle.inode_parts.proofs.part.InodePart.begin_empty.Goals as goal

pub returns : goal.returns
returns c =
    record {
      part = λ path notes.
          let sizes = c.args.sizes.now in
          let before = c.args.hand.now in
          let h = c.begin-truncate.new.hand in
          let is = c.lock_seat-seat.ensures in
          let about_seat : InodePlace → Emptying = λ k. record { seat = k; sizes = sizes } in
          let beside = subst (λ (k : InodePlace). beside_emptying (about_seat k) h ≡ beside_emptying (about_seat k) before) is c.begin-truncate.ensures.beside in
          let program = subst (λ (k : InodePlace). truncate_left c.begin-truncate.result h ≡ truncate sizes (number_in k before) (record_in k before)) is c.begin-truncate.ensures.program in
          empty_is_part sizes path notes c.args.number before (record { truncate = c.begin-truncate.result }) h c.requires.0 (c.begin-truncate.ensures.about ∙ ap about_seat is) beside program;
      ready = search rules;
      told = λ first second. tt;
      under = λ path m.
          let h = c.begin-truncate.new.hand in
          (subst (λ (e : Emptying). IsAmid c.args.number c.args.hand.now e.seat h) (sym c.begin-truncate.ensures.about) (c.lock_seat-seat.ensures, c.requires.4, freeing-kept (record { seat = c.lock_seat-seat.result; sizes = c.args.sizes.now }) h c.args.hand.now c.begin-truncate.ensures.beside), refl);
      hand = search rules;
    }
