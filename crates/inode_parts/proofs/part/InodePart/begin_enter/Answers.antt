use Rattle.inode_parts.proofs.Lemmas.{rules, ap, refl, ◌∙◌, P, EnteredState, enter, InodePlace, loaded_in, entered_as, enter_is_part, never_over}
use Rattle.inode_parts.proofs.part.InodePart.begin_enter.Goals as goal

pub unreachable-requires : goal.unreachable-requires
unreachable-requires c =
    let h = c.args.hand.now in
    never_over c.args.sizes.now c.args.number (loaded_in c.lock_seat-seat.result h) c.args.child c.args.name.now (entered_as c.in-Is.field-0 h) c.in-Is.ensures.program

pub returns : goal.returns
returns c =
    record {
      part = λ path notes.
          let sizes = c.args.sizes.now in
          let n = c.args.number in
          let name = c.args.name.now in
          let before = c.args.hand.now in
          let is = c.lock_seat-seat.ensures in
          let program = c.in-Runs.ensures.program ∙ ap (λ (k : InodePlace). let p : P EnteredState = enter sizes n (loaded_in k before) c.args.child name in p) is in
          enter_is_part sizes path notes n name c.args.child before (record { enter = c.in-Runs.enter }) c.requires.0.0 (c.in-Runs.ensures.seat ∙ is) program;
      ready = search rules;
      told = λ first second. tt;
      under = λ path m. ((c.in-Runs.ensures.seat ∙ c.lock_seat-seat.ensures, c.requires.0.4, refl), refl);
      hand = refl;
    }
