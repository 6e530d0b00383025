use Rattle.script.proofs.Lemmas.{rules, tests, arith, ap, ◌∙◌, subst, length, ◌==◌, YieldsList-from_slice_split, YieldsList-turn, YieldsList-end, split_rest, split_done, split_callee, line_in, words_of, line_said, Gives, words_now, too_many_words}
use Rattle.script.proofs.line.command_in.Goals as goal

pub returns : goal.returns
returns c =
    let end = YieldsList-end (YieldsList-from_slice_split _ (λ b. b == 32) c.args.line.now (ap (λ s. split_rest s) c.into_iter-word-iterator.ensures.into_iter_gives ∙ c.split-word-items.ensures.rest) (ap (λ s. split_done s) c.into_iter-word-iterator.ensures.into_iter_gives ∙ c.split-word-items.ensures.done) (ap (λ s. split_callee s) c.into_iter-word-iterator.ensures.into_iter_gives ∙ c.split-word-items.ensures.closure) (λ x r q k. search (rules, tests))) c.loop-word.yielded _ c.loop-word.yielded_by _ _ c.in-None.is c.next.ensures.steps in
    subst (λ ws. Gives line_said c.command_of.result (line_in ws)) (ap words_now (c.as_slice.ensures.value ∙ c.loop-word.invariant.2) ∙ end.0) c.command_of.ensures

pub returns-then-len-eq-MOST_WORDS : goal.returns-then-len-eq-MOST_WORDS
returns-then-len-eq-MOST_WORDS c =
    let turn = YieldsList-turn (YieldsList-from_slice_split _ (λ b. b == 32) c.args.line.now (ap (λ s. split_rest s) c.into_iter-word-iterator.ensures.into_iter_gives ∙ c.split-word-items.ensures.rest) (ap (λ s. split_done s) c.into_iter-word-iterator.ensures.into_iter_gives ∙ c.split-word-items.ensures.done) (ap (λ s. split_callee s) c.into_iter-word-iterator.ensures.into_iter_gives ∙ c.split-word-items.ensures.closure) (λ x r q k. search (rules, tests))) c.loop-word.yielded _ c.loop-word.yielded_by _ _ c.in-Some.word c.in-Some.is c.next.ensures.steps in
    let shown = ap length c.loop-word.invariant.2 in
    too_many_words (words_of c.args.line.now) (omega (arith, turn.0, shown, c.if-len-eq-MOST_WORDS.true, c.len.ensures))
