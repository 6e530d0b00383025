use Rattle.script.proofs.Lemmas.{rules, tests, arith, ◌==◌, ◌∷◌, ◌++◌, [], ap, sym, ◌∙◌, length, drop, YieldsList-from_slice_split, YieldsList-turn, YieldsList-end, length_push, split_rest, split_done, split_callee, words_of, single_spaced, all_spaced, word_spaced}
use Rattle.script.proofs.asked.single_spaced.Goals as goal

pub returns : goal.returns
returns c =
    let end = YieldsList-end (YieldsList-from_slice_split _ (λ b. b == 32) c.args.line.now (ap (λ s. split_rest s) c.into_iter-word-iterator.ensures.into_iter_gives ∙ c.split-word-items.ensures.rest) (ap (λ s. split_done s) c.into_iter-word-iterator.ensures.into_iter_gives ∙ c.split-word-items.ensures.done) (ap (λ s. split_callee s) c.into_iter-word-iterator.ensures.into_iter_gives ∙ c.split-word-items.ensures.closure) (λ x r q k. search (rules, tests))) c.loop-word.yielded _ c.loop-word.yielded_by _ _ c.in-None.is c.next.ensures.steps in
    sym (all_spaced c.loop-word.single.items (words_of c.args.line.now) (length c.loop-word.yielded) (omega (arith, end.1))) ∙ c.loop-word.invariant.2

pub loop-word-preserved : goal.loop-word-preserved
loop-word-preserved c =
    let turn = YieldsList-turn (YieldsList-from_slice_split _ (λ b. b == 32) c.args.line.now (ap (λ s. split_rest s) c.into_iter-word-iterator.ensures.into_iter_gives ∙ c.split-word-items.ensures.rest) (ap (λ s. split_done s) c.into_iter-word-iterator.ensures.into_iter_gives ∙ c.split-word-items.ensures.done) (ap (λ s. split_callee s) c.into_iter-word-iterator.ensures.into_iter_gives ∙ c.split-word-items.ensures.closure) (λ x r q k. search (rules, tests))) c.loop-word.yielded _ c.loop-word.yielded_by _ _ c.in-Some.word c.in-Some.is c.next.ensures.steps in
    let more = length_push c.loop-word.yielded c.in-Some.word in
    (c.loop-word.invariant.0, tt, ap (λ xs. single_spaced xs (drop (length (c.loop-word.yielded ++ c.in-Some.word ∷ [])) (words_of c.args.line.now))) c.in_ok-put_word.ensures ∙ word_spaced c.loop-word.single.items (words_of c.args.line.now) (length c.loop-word.yielded) _ c.in-Some.word.now turn.0 turn.1 more ∙ c.loop-word.invariant.2)
