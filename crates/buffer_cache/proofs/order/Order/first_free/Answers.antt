use Rattle.buffer_cache.proofs.Lemmas.{◌≡◌, ◌<◌, ℕ, length, get_or, sym, ◌∙◌, ap, arith, is_free, numbered, seats_count, numbered_read, going_begun, goes_on, gone}
use Rattle.buffer_cache.proofs.order.Order.first_free.Goals as goal

pub loop-init : goal.loop-init
loop-init c = going_begun _ c.self.inside.younger c.self.inside.older c.args.self.now c.self.invariant c.self.view_is

pub bounds-self-inside-at : goal.bounds-self-inside-at
bounds-self-inside-at c = let here = c.loop.invariant.here in omega (arith, here)

pub bounds-seats-at : goal.bounds-seats-at
bounds-seats-at c =
    let lt = (goes_on _ c.self.inside.younger c.loop.at c.loop.counter _ c.loop-test.true c.loop.invariant).within in
    let count = seats_count c.args.seats.now c.args.self.now c.requires.ordered in
    omega (arith, lt, count)

pub returns-then-is_free : goal.returns-then-is_free
returns-then-is_free c =
    let n : ℕ = get_or c.self.inside.younger c.loop.at 0 in
    let on = goes_on (λ n. is_free (numbered c.args.seats.now n)) c.self.inside.younger c.loop.at c.loop.counter _ c.loop-test.true c.loop.invariant in
    let lt : n < length c.args.seats.now = let within = on.within in let count = seats_count c.args.seats.now c.args.self.now c.requires.ordered in omega (arith, within, count) in
    let seat : c.index-seats-at.result ≡ numbered c.args.seats.now n = numbered_read c.args.seats.now n c.index-seats-at.result lt c.index-seats-at.is in
    on.passes (ap is_free (sym seat) ∙ sym c.is_free.ensures ∙ c.if-is_free.true)

pub loop-preserved : goal.loop-preserved
loop-preserved c =
    let n : ℕ = get_or c.self.inside.younger c.loop.at 0 in
    let on = goes_on (λ n. is_free (numbered c.args.seats.now n)) c.self.inside.younger c.loop.at c.loop.counter _ c.loop-test.true c.loop.invariant in
    let lt : n < length c.args.seats.now = let within = on.within in let count = seats_count c.args.seats.now c.args.self.now c.requires.ordered in omega (arith, within, count) in
    let seat : c.index-seats-at.result ≡ numbered c.args.seats.now n = numbered_read c.args.seats.now n c.index-seats-at.result lt c.index-seats-at.is in
    on.on (ap is_free (sym seat) ∙ sym c.is_free.ensures ∙ c.if-is_free.false)

pub returns : goal.returns
returns c = gone _ c.self.inside.younger c.loop.at _ _ (omega arith) c.loop.invariant
