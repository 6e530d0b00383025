use Rattle.inode_parts.proofs.Lemmas.{◌≡◌, ℕ, List, [], Some, refl, nothing_in, Carry, ◌++◌, sym, subst, ap, ◌∙◌, program, WholeFits, first_in, second_in, text_in, whole_of, whole_with, with_text, IsOnWay, carry_in, part_left, FillsAs, having, IsPart, new_is, begins_now, first_runs, in_two, stands_of, told_of, way_now, fills_now, on_text, reads_now}
use Rattle.path_walk.specs.Asks.{asks, op_in}
use Rattle.inode_parts.proofs.lowered.Lowered.start.Goals as goal

pub begin-requires : goal.begin-requires
begin-requires c =
    let w = c.new.result in
    let v = c.args.sizes.now.version in
    let fits = c.new.ensures.fits v c.requires.call in
    let s = having c.args.hand.now c.new-self.result in
    let runs = first_runs v c.args.call w s c.new.ensures.call (c.new.ensures.program v) c.requires.runs c.requires.empty in
    let named = c.ask-ask.ensures.named v [] fits in
    let asked = c.ask-ask.ensures.asks v [] fits in
    record {
      sized = c.requires.sizes;
      begins = begins_now v w [] s c.ask-ask.result asked runs;
      stands = stands_of v [] w c.ask-ask.result fits named;
      told = told_of v w c.ask-ask.result named;
    }

pub returns-clause-program : goal.returns-clause-program
returns-clause-program c =
    let w = c.new.result in
    let sizes = c.args.sizes.now in
    let fits = c.new.ensures.fits sizes.version c.requires.call in
    let m = c.new-self.result in
    let h = c.args.hand.now in
    let a = c.ask-ask.result in
    let q = c.begin.new.self in
    let g = c.begin.new.hand in
    let path = text_in w in
    let read = in_two w in
    let is = subst (λ (t : List ℕ). IsPart sizes (carry_in t m h) (op_in t a) (part_left t m q g)) read c.begin.ensures.part in
    let fills = subst (λ (t : List ℕ). FillsAs a t (part_left t m q g)) read c.begin.ensures.fills in
    let same = on_text sizes [] w (part_left path m q g) (fills_now sizes.version [] w a (part_left path m q g) (c.ask-ask.ensures.asks sizes.version [] fits) fills) in
    let whole = new_is sizes path m h (whole_of sizes.version [] w) (program sizes.version c.args.call) (op_in path a) (part_left path m q g) c.requires.empty (c.new.ensures.program sizes.version) (c.ask-ask.ensures.asks sizes.version [] fits) is in
    ap (λ (ns : List ℕ). with_text sizes (part_left path m q g) (whole_with sizes.version ns w)) c.clear.ensures ∙ sym same ∙ whole

pub returns-clause-asks : goal.returns-clause-asks
returns-clause-asks c =
    let w = c.new.result in
    let sizes = c.args.sizes.now in
    let fits = c.new.ensures.fits sizes.version c.requires.call in
    let m = c.new-self.result in
    let h = c.args.hand.now in
    let a = c.ask-ask.result in
    let q = c.begin.new.self in
    let g = c.begin.new.hand in
    let path = text_in w in
    let read = in_two w in
    let is = subst (λ (t : List ℕ). IsPart sizes (carry_in t m h) (op_in t a) (part_left t m q g)) read c.begin.ensures.part in
    let fills = subst (λ (t : List ℕ). FillsAs a t (part_left t m q g)) read c.begin.ensures.fills in
    let asked = c.ask-ask.ensures.asks sizes.version [] fits in
    let listed = sym c.clear.ensures in (
      refl,
      record {
        left = sym (c.new.ensures.program sizes.version) ∙ ap (λ (ns : List ℕ). whole_of sizes.version ns w) listed;
        op = op_in path a;
        asked = subst (λ (ns : List ℕ). asks (whole_of sizes.version ns w) ≡ Some (op_in path a)) listed asked;
        part = subst (λ (k : Carry). IsPart sizes k (op_in path a) (part_left path m q g)) (nothing_in path m h c.requires.empty) is;
        fills = fills_now sizes.version [] w a (part_left path m q g) asked fills;
      },
    )

pub returns-clause-ready : goal.returns-clause-ready
returns-clause-ready c =
    let w = c.new.result in
    let v = c.args.sizes.now.version in
    let fits = c.new.ensures.fits v c.requires.call in
    let m = c.new-self.result in
    let s = having c.args.hand.now m in
    let a = c.ask-ask.result in
    let q = c.begin.new.self in
    let t = having c.begin.new.hand m in
    let runs = first_runs v c.args.call w s c.new.ensures.call (c.new.ensures.program v) c.requires.runs c.requires.empty in
    let named = c.ask-ask.ensures.named v [] fits in
    let way = way_now v w [] s a (c.ask-ask.ensures.asks v [] fits) runs q t c.begin.ensures.under in
    record {
      sized = c.requires.sizes;
      fits = subst (λ (ns : List ℕ). WholeFits v ns w) (sym c.clear.ensures) fits;
      ready = c.begin.ensures.ready;
      told = c.begin.ensures.told;
      reads = reads_now v (first_in w ++ second_in w) w a s t q named c.begin.ensures.under;
      way = subst (λ (ns : List ℕ). IsOnWay v (text_in w) (whole_of v ns w) q t) (sym c.clear.ensures) way;
    }
