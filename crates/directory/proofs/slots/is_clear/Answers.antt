use Rattle.directory.proofs.Lemmas.{◌≡◌, ℕ, ◌+◌, ◌*◌, sym, ap, ◌∙◌, arith, dirent_len_of, u64_at, clear_then, unclear_then}
use Rattle.directory.proofs.slots.is_clear.Goals as goal

pub returns-then-word_at-ne0 : goal.returns-then-word_at-ne0
returns-then-word_at-ne0 c =
    let v = c.args.version in
    let block = c.args.block.now in
    let p : ℕ = c.args.place in
    let i : ℕ = c.loop-i.i in
    let at : c.dirent_len-len.result * p ≡ dirent_len_of v * p = ap (λ (n : ℕ). n * p) c.dirent_len-len.ensures in
    sym (unclear_then v block p c.told-block c.fits-block c.requires i (omega (arith, c.dirent_len-len.ensures, c.loop-i-test.true))
    (λ z. c.if-word_at-ne0.true (c.word_at.ensures ∙ ap (λ (n : ℕ). u64_at block (n + 8 * i)) at ∙ z)))

pub returns : goal.returns
returns c =
    let v = c.args.version in
    let block = c.args.block.now in
    let p : ℕ = c.args.place in
    let at : c.dirent_len-len.result * p ≡ dirent_len_of v * p = ap (λ (n : ℕ). n * p) c.dirent_len-len.ensures in
    sym (clear_then v block p c.told-block c.fits-block c.requires
    (λ i h. ap (λ (n : ℕ). u64_at block (n + 8 * i)) (sym at) ∙ c.loop-i.invariant i (omega (arith, c.dirent_len-len.ensures, c.loop-i-test.false))))
