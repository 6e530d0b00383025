use Rattle.inode_parts.proofs.Lemmas.{◌++◌, ◌∙◌, refl, sym, subst, Ask, first_in, second_in, carry_in, BeginsWith, part_left, AskTold, PartReady, PartTold, having, step_for, IsPart, UnderWay, InodePart, PartHasBegun, is_part, is_ready, short_fills, short_so, told_for, under_way}
use Rattle.path_walk.specs.Asks.{op_in}
use Rattle.inode_parts.proofs.part.InodePart.begin.Goals as goal

pub returns-then-is_short : goal.returns-then-is_short
returns-then-is_short c =
    let sizes = c.args.sizes.now in
    let path = first_in c.args.call.now ++ second_in c.args.call.now in
    let m = c.args.notes.now in
    let h = c.args.hand.now in
    let op = op_in path c.args.ask in
    let has = short_so sizes.version path m c.args.ask h (sym c.is_short.ensures ∙ c.if-is_short.true) c.requires.begins in
    let is = c.begin_short.ensures.is path in
    record {
      part = subst (λ (p : InodePart). IsPart sizes (carry_in path m h) op (part_left path m p h)) (sym is) (is_part sizes path m h op has);
      ready = subst (λ (p : InodePart). PartReady p h) (sym is) (is_ready op h has);
      told = subst (λ (p : InodePart). PartTold (first_in c.args.call.now) (second_in c.args.call.now) p) (sym is) (told_for (first_in c.args.call.now) (second_in c.args.call.now) (step_for op h));
      fills = short_fills path c.args.ask _ (sym c.is_short.ensures ∙ c.if-is_short.true);
      known = λ begins. (is, refl);
      under = subst (λ (p : InodePart). UnderWay sizes.version path op (having h m) p (having h m)) (sym is) (under_way sizes.version path op h m has);
      hand = refl;
    }

pub begin_take-requires : goal.begin_take-requires
begin_take-requires c =
    let path = first_in c.args.call.now ++ second_in c.args.call.now in
    let m = c.args.notes.now in
    record { sizes = c.requires.sized; begins = (path, m, subst (λ (a : Ask). BeginsWith c.args.sizes.now.version path (op_in path a) (having c.args.hand.now m)) c.in-Take.is c.requires.begins) }

pub returns-in-Take : goal.returns-in-Take
returns-in-Take c =
    let first = first_in c.args.call.now in
    let second = second_in c.args.call.now in
    let path = first ++ second in
    let m = c.args.notes.now in
    let h = c.args.hand.now in
    let p = c.begin_take.new.self in
    subst (λ (a : Ask). BeginsWith c.args.sizes.now.version path (op_in path a) (having h m) → AskTold c.args.sizes.now.version first second a → PartHasBegun c.args.sizes.now first second a m h p h) (sym c.in-Take.is)
    (λ begins told.
    record {
      part = c.begin_take.ensures.part path m begins;
      ready = c.begin_take.ensures.ready;
      told = c.begin_take.ensures.told first second told;
      fills = tt;
      known = λ none. absurd none;
      under = c.begin_take.ensures.under path m begins;
      hand = refl;
    }) c.requires.begins c.requires.told
