use Rattle.buffer_cache.proofs.Lemmas.{◌≡◌, ◌<◌, ℕ, length, get_or, refl, sym, ◌∙◌, ap, subst, arith, slice_get_read, has_block, numbered, once_at, numbered_read, IsSeeking, seek_begun, seeks_on, sought, sought_all}
use Rattle.buffer_cache.proofs.chains.Chains.find.Goals as goal

pub loop-init : goal.loop-init
loop-init c =
    subst (λ (n : ℕ). IsSeeking (has_block c.args.b) c.args.seats.now c.self.inside.next n 46) (sym c.chain_of-at.ensures)
    (seek_begun c.args.seats.now c.self.inside.next c.self.inside.previous c.args.self.now c.args.b c.self.invariant c.self.view_is c.requires.chained)

pub returns-then-at-ge-BUFFERS : goal.returns-then-at-ge-BUFFERS
returns-then-at-ge-BUFFERS c =
    let on = seeks_on (has_block c.args.b) c.args.seats.now c.self.inside.next c.loop.at c.loop.counter c.loop-test.true c.loop.invariant in
    sought (has_block c.args.b) c.args.seats.now c.requires.chained.count (on.gone c.if-at-ge-BUFFERS.true)

pub returns-then-has_block : goal.returns-then-has_block
returns-then-has_block c =
    let n : ℕ = get_or c.self.inside.next c.loop.at 0 in
    let count = c.requires.chained.count in
    let at = slice_get_read c.args.seats.now (length c.args.seats.now) n c.index-seats-at.result refl (omega (arith, count, c.if-at-ge-BUFFERS.false)) c.index-seats-at.is in
    sym (once_at (has_block c.args.b) c.args.seats.now n c.index-seats-at.result c.requires.once at (sym c.has_block.ensures ∙ c.if-has_block.true))

pub loop-preserved : goal.loop-preserved
loop-preserved c =
    let n : ℕ = get_or c.self.inside.next c.loop.at 0 in
    let count = c.requires.chained.count in
    let lt : n < length c.args.seats.now = omega (arith, count, c.if-at-ge-BUFFERS.false) in
    let seat : c.index-seats-at.result ≡ numbered c.args.seats.now n = numbered_read c.args.seats.now n c.index-seats-at.result lt c.index-seats-at.is in
    let on = seeks_on (has_block c.args.b) c.args.seats.now c.self.inside.next c.loop.at c.loop.counter c.loop-test.true c.loop.invariant in
    on.on (omega (arith, c.if-at-ge-BUFFERS.false)) (ap (has_block c.args.b) (sym seat) ∙ sym c.has_block.ensures ∙ c.if-has_block.false)

pub returns : goal.returns
returns c = sought_all (has_block c.args.b) c.args.seats.now c.self.inside.next c.loop.at _ c.requires.chained.count (omega arith) c.loop.invariant
