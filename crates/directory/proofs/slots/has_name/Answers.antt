use Rattle.directory.proofs.Lemmas.{◌≡◌, ◌≢◌, ℕ, ◌+◌, ◌-◌, ◌*◌, ◌/◌, ◌<◌, ◌≤◌, List, sym, ap, ◌∙◌, arith, length, ⊎_elim, cases_eq, cases_lt, eq-eqb, ne_eqb, slice_index, dirent_len_of, in_range, u16_at, u64_at, word_place, IsBytes, named_by_words, unnamed_by_number, unnamed_by_word, u16_at-part}
use Rattle.directory.proofs.slots.has_name.Goals as goal

pub returns-then-word_at-words : goal.returns-then-word_at-words
returns-then-word_at-words c name is fits are =
    let v = c.args.version in
    let slots : List ℕ = c.args.slots.now in
    let p : ℕ = c.args.place in
    let at : c.dirent_len-len.result * p ≡ dirent_len_of v * p = ap (λ (n : ℕ). n * p) c.dirent_len-len.ensures in
    let some : 0 < dirent_len_of v / 8 = omega (arith, (in_range v).2) in
    sym (unnamed_by_word v slots name p c.args.words.now.words c.requires (λ i. omega (arith, c.type_inv.slots i)) is fits are 0 some
    (λ e. c.if-word_at-words.true (c.word_at.ensures ∙ ap (λ (n : ℕ). u64_at slots (n + 2)) at ∙ e)))

pub returns-then-word_at-words-2 : goal.returns-then-word_at-words-2
returns-then-word_at-words-2 c name is fits are =
    let v = c.args.version in
    let slots : List ℕ = c.args.slots.now in
    let p : ℕ = c.args.place in
    let i : ℕ = c.loop-i.i in
    let len : ℕ = c.dirent_len-len.result in
    let at : len * p ≡ dirent_len_of v * p = ap (λ (n : ℕ). n * p) c.dirent_len-len.ensures in
    let here : len * p + 8 * i ≡ dirent_len_of v * p + word_place i = omega (arith, at, c.loop-i.auto.i) in
    let few : i < dirent_len_of v / 8 = omega (arith, c.dirent_len-len.ensures, c.loop-i-test.true) in
    sym (unnamed_by_word v slots name p c.args.words.now.words c.requires (λ k. omega (arith, c.type_inv.slots k)) is fits are i few
    (λ e. c.if-word_at-words-2.true (c.word_at-in-loop-i.ensures ∙ ap (u64_at slots) here ∙ e)))

pub returns : goal.returns
returns c name is fits are =
    let v = c.args.version in
    let slots : List ℕ = c.args.slots.now in
    let words : List ℕ = c.args.words.now.words in
    let p : ℕ = c.args.place in
    let len : ℕ = c.dirent_len-len.result in
    let number : ℕ = c.number_in.result in
    let at : len * p ≡ dirent_len_of v * p = ap (λ (n : ℕ). n * p) c.dirent_len-len.ensures in
    let few : 0 + 2 ≤ length slots - len * p = omega (arith, at, c.requires, (in_range v).2) in
    let from : len * p + 0 ≡ dirent_len_of v * p = omega (arith, at) in
    let read : number ≡ u16_at slots (dirent_len_of v * p) = c.number_in.ensures ∙ u16_at-part slots (len * p) (length slots - len * p) 0 few ∙ ap (u16_at slots) from in
    let slots_fit : IsBytes slots = λ i. omega (arith, c.type_inv.slots i) in
    let all : (i : ℕ) → i < dirent_len_of v / 8 → u64_at slots (dirent_len_of v * p + word_place i) ≡ slice_index words i =
    λ i h.
    ⊎_elim
    (λ (low : i < 1).
    let e : 0 ≡ i = omega arith in
    rw (← e) (ap (λ (n : ℕ). u64_at slots (n + 2)) (sym at) ∙ sym c.word_at.ensures ∙ c.if-word_at-words.false))
    (λ (high : 1 ≤ i).
    let here : dirent_len_of v * p + word_place i ≡ len * p + 8 * i = omega (arith, at, high) in
    ap (u64_at slots) here ∙ c.loop-i.invariant i high (omega (arith, c.dirent_len-len.ensures, c.loop-i-test.false)))
    (cases_lt i 1) in
    ⊎_elim
    (λ (e : number ≡ 0). rw (eq-eqb number 0 e) (sym (unnamed_by_number v slots name p words c.requires slots_fit is fits are (sym read ∙ e))))
    (λ (ne : number ≢ 0). rw (ne_eqb number 0 ne) (sym (named_by_words v slots name p words c.requires slots_fit is fits are all (λ z. ne (read ∙ z)))))
    (cases_eq number 0)
