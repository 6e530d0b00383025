use Rattle.inode_parts.proofs.Lemmas.{◌≡◌, ◌∙◌, None, refl, subst, sym, reference_at, InodePlace, type_of, claim_is_part, kind_passes}
use Rattle.inode_parts.proofs.part.InodePart.begin_claim.Goals as goal

pub returns : goal.returns
returns c =
    record {
      part = λ path m. claim_is_part c.args.sizes.now (type_of c.args.inode_type) path m c.args.hand.now c.new-claim.result (c.new-claim.ensures.program c.args.hand.now ∙ kind_passes c.args.sizes.now (type_of c.args.inode_type) c.kind.result c.kind.ensures);
      ready =
          let h = c.args.hand.now in
          let begins = c.requires in
          c.new-claim.ensures.ready h begins.2.0 begins.2.1 (subst (λ (k : InodePlace). reference_at k h ≡ None) (sym c.free_seat.ensures) begins.1) begins.3;
      told = λ first second. tt;
      under = λ path m.
          let begins = c.requires in
          ((begins.1, begins.2, c.new-claim.ensures.seat ∙ c.free_seat.ensures, refl), refl);
      hand = refl;
    }
