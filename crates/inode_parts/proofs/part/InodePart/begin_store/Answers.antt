use Rattle.inode_parts.proofs.Lemmas.{rules, refl, ◌≡◌, ap, subst, ◌∙◌, store, InodePlace, with_record, counted, number_in, record_in, record_left, store_is_part, record_beside, beside_inode}
use Rattle.inode_parts.proofs.part.InodePart.begin_store.Goals as goal

pub returns : goal.returns
returns c =
    record {
      part = λ path notes.
          let sizes = c.args.sizes.now in
          let before = c.args.hand.now in
          let h = c.with_count-store.new.hand in
          let is = c.lock_seat-seat.ensures in
          let hand = subst (λ (k : InodePlace). h ≡ with_record k (counted c.args.count (record_in k before)) before) is c.with_count-store.ensures.hand in
          let program = subst (λ (k : InodePlace). record_left c.with_count-store.result h ≡ store sizes.inodestart (number_in k before) (counted c.args.count (record_in k before))) is c.with_count-store.ensures.program in
          store_is_part sizes path notes c.args.number c.args.count before (record { seat = c.lock_seat-seat.result; store = c.with_count-store.result }) h c.requires.0.0 is hand program;
      ready = search rules;
      told = λ first second. tt;
      under = λ path m.
          let before = c.args.hand.now in
          let k = c.lock_seat-seat.result in
          let d = counted c.args.count (record_in k before) in
          ((c.lock_seat-seat.ensures, c.requires.0.4, ap (beside_inode k) c.with_count-store.ensures.hand ∙ record_beside k d before), refl);
      hand = search rules;
    }
