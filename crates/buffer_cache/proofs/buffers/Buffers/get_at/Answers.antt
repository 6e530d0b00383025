use Rattle.buffer_cache.proofs.Lemmas.{rules, ◌≡◌, ◌<◌, ℕ, List, length, Option, Some, sym, ◌∙◌, ap, subst, position, IfSome, SeatState, has_block, get_of, numbered, numbered_read, once_of, IsIn, slot_in, keeps_lent, chained_lent}
use Rattle.buffer_cache.proofs.buffers.Buffers.get_at.Goals as goal

-- the block that the code read
block_of : (seats : List SeatState) (b n k : ℕ) (s : SeatState) → IsIn seats b n → s ≡ numbered seats n → IfSome s.block (λ j. k ≡ j) → k ≡ b
block_of seats b n k s is read same = subst (λ (o : Option ℕ). IfSome o (λ j. k ≡ j)) (ap (λ (t : SeatState). t.block) read ∙ is.block) same

pub index-requires : goal.index-requires
index-requires c =
    let in_ = c.self.inside in
    let b = c.requires.there.0 in
    let lt : c.args.slot < length in_.seats.items = (slot_in in_.seats.items in_.order c.args.self.now b c.args.slot c.self.invariant.kept.ordered c.self.view_is (c.requires.once b) c.requires.there.1).within in
    search (rules, lt)

pub lend-requires-clause-place : goal.lend-requires-clause-place
lend-requires-clause-place c =
    let in_ = c.self.inside in
    let b = c.requires.there.0 in
    let is = slot_in in_.seats.items in_.order c.args.self.now b c.args.slot c.self.invariant.kept.ordered c.self.view_is (c.requires.once b) c.requires.there.1 in
    let read = numbered_read in_.seats.items c.args.slot c.index.result.now is.within c.index.ensures in
    subst (λ (k : ℕ). position (has_block k) in_.seats.items ≡ Some c.args.slot) (sym (block_of in_.seats.items b c.args.slot c.block-b.result c.index.result.now is read c.block-b.ensures)) is.place

pub invariant_of-self : goal.invariant_of-self
invariant_of-self c =
    let in_ = c.self.inside in
    let b = c.requires.there.0 in
    let is = slot_in in_.seats.items in_.order c.args.self.now b c.args.slot c.self.invariant.kept.ordered c.self.view_is (c.requires.once b) c.requires.there.1 in
    let read = numbered_read in_.seats.items c.args.slot c.index.result.now is.within c.index.ensures in
    let same = block_of in_.seats.items b c.args.slot c.block-b.result c.index.result.now is read c.block-b.ensures in
    let gives : (c.lend.new.seats.items, c.lend.result) ≡ get_of c.args.hart b in_.seats.items = c.lend.ensures.gives ∙ ap (λ (k : ℕ). get_of c.args.hart k in_.seats.items) same in
    let once = once_of in_.seats.items in_.order c.args.self.now (has_block b) c.self.invariant.kept.ordered c.self.view_is (c.requires.once b) in
    record {
      kept = record { seated = c.lend.ensures.seated; ordered = (keeps_lent in_.seats.items in_.order c.lend.new.seats.items c.args.hart b c.args.slot c.lend.result c.self.invariant.kept.ordered once is.place gives).1 };
      chained = chained_lent in_.seats.items c.lend.new.seats.items in_.chains c.args.hart b c.args.slot c.lend.result is.place gives c.self.invariant.chained;
    }

pub returns : goal.returns
returns c b at =
    let in_ = c.self.inside in
    let is = slot_in in_.seats.items in_.order c.args.self.now b c.args.slot c.self.invariant.kept.ordered c.self.view_is (c.requires.once b) at in
    let read = numbered_read in_.seats.items c.args.slot c.index.result.now is.within c.index.ensures in
    let same = block_of in_.seats.items b c.args.slot c.block-b.result c.index.result.now is read c.block-b.ensures in
    let gives : (c.lend.new.seats.items, c.lend.result) ≡ get_of c.args.hart b in_.seats.items = c.lend.ensures.gives ∙ ap (λ (k : ℕ). get_of c.args.hart k in_.seats.items) same in
    let once = once_of in_.seats.items in_.order c.args.self.now (has_block b) c.self.invariant.kept.ordered c.self.view_is (c.requires.once b) in
    (keeps_lent in_.seats.items in_.order c.lend.new.seats.items c.args.hart b c.args.slot c.lend.result c.self.invariant.kept.ordered once is.place gives).0
    ∙ ap (get_of c.args.hart b) c.self.view_is
