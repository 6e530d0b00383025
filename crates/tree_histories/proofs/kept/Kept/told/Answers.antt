use Rattle.tree_histories.proofs.Lemmas.{refl, sym, subst, IfOk, Mark, TellsOf, told_alone}
use Rattle.path_walk.specs.declared.asks.Mark.TheVariants as mark
use Rattle.tree_histories.proofs.kept.Kept.told.Goals as goal

pub returns-in-Look-clause-tells : goal.returns-in-Look-clause-tells
returns-in-Look-clause-tells c = subst (λ (m : Mark). IfOk c.looks.result (λ d. TellsOf c.args.self.now c.args.hart m d c.looks.new.self)) (sym c.in-Look.is) c.looks.ensures.tells

pub returns-in-GiveUpWalk-clause-tells : goal.returns-in-GiveUpWalk-clause-tells
returns-in-GiveUpWalk-clause-tells c = subst (λ (m : Mark). IfOk c.quits.result (λ d. TellsOf c.args.self.now c.args.hart m d c.quits.new.self)) (sym c.in-GiveUpWalk.is) c.quits.ensures.tells

pub returns-in-Own-clause-tells : goal.returns-in-Own-clause-tells
returns-in-Own-clause-tells c =
    subst (λ (m : Mark). IfOk c.acts_alone.result (λ d. TellsOf c.args.self.now c.args.hart m d c.acts_alone.new.self)) (sym c.in-Own.is)
    (told_alone c.args.self.now c.acts_alone.new.self c.args.hart mark.Own c.acts_alone.result (λ s. refl) c.acts_alone.ensures.acts)

pub returns-in-Truncate-clause-tells : goal.returns-in-Truncate-clause-tells
returns-in-Truncate-clause-tells c =
    subst (λ (m : Mark). IfOk c.acts_alone-in-Truncate.result (λ d. TellsOf c.args.self.now c.args.hart m d c.acts_alone-in-Truncate.new.self)) (sym c.in-Truncate.is)
    (told_alone c.args.self.now c.acts_alone-in-Truncate.new.self c.args.hart (mark.Truncate c.in-Truncate.fd) c.acts_alone-in-Truncate.result (λ s. refl) c.acts_alone-in-Truncate.ensures.acts)

pub returns-in-Bump-clause-tells : goal.returns-in-Bump-clause-tells
returns-in-Bump-clause-tells c =
    subst (λ (m : Mark). IfOk c.acts_alone-in-Bump.result (λ d. TellsOf c.args.self.now c.args.hart m d c.acts_alone-in-Bump.new.self)) (sym c.in-Bump.is)
    (told_alone c.args.self.now c.acts_alone-in-Bump.new.self c.args.hart mark.Bump c.acts_alone-in-Bump.result (λ s. refl) c.acts_alone-in-Bump.ensures.acts)

pub returns-in-Unbump-clause-tells : goal.returns-in-Unbump-clause-tells
returns-in-Unbump-clause-tells c =
    subst (λ (m : Mark). IfOk c.acts_alone-in-Unbump.result (λ d. TellsOf c.args.self.now c.args.hart m d c.acts_alone-in-Unbump.new.self)) (sym c.in-Unbump.is)
    (told_alone c.args.self.now c.acts_alone-in-Unbump.new.self c.args.hart mark.Unbump c.acts_alone-in-Unbump.result (λ s. refl) c.acts_alone-in-Unbump.ensures.acts)

pub returns-in-Piece-clause-tells : goal.returns-in-Piece-clause-tells
returns-in-Piece-clause-tells c =
    subst (λ (m : Mark). IfOk c.acts_alone-in-Piece.result (λ d. TellsOf c.args.self.now c.args.hart m d c.acts_alone-in-Piece.new.self)) (sym c.in-Piece.is)
    (told_alone c.args.self.now c.acts_alone-in-Piece.new.self c.args.hart (mark.Piece c.in-Piece.index) c.acts_alone-in-Piece.result (λ s. refl) c.acts_alone-in-Piece.ensures.acts)
