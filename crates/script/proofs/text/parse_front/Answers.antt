use Rattle.script.proofs.Lemmas.{rules, tests, arith, ◌≡◌, ◌==◌, ◌+◌, [], ◌∷◌, ◌++◌, ap, sym, ◌∙◌, subst, length, drop, map, YieldsList-from_slice_split, YieldsList-turn, YieldsList-end, length_push, map-append, split_rest, split_done, split_callee, ScriptLine, line_said, numbered, lines_of, lines_from, said_in, Fails, with_lines, gives_front, none_left, passed_over, nothing_said, one_said}
use Rattle.script.proofs.text.parse_front.Goals as goal

pub returns : goal.returns
returns c =
    let end = YieldsList-end (YieldsList-from_slice_split _ (λ b. b == 10) c.args.text.now (ap (λ s. split_rest s) c.into_iter-line-iterator.ensures.into_iter_gives ∙ c.split-line-items.ensures.rest) (ap (λ s. split_done s) c.into_iter-line-iterator.ensures.into_iter_gives ∙ c.split-line-items.ensures.done) (ap (λ s. split_callee s) c.into_iter-line-iterator.ensures.into_iter_gives ∙ c.split-line-items.ensures.closure) (λ x r q k. search (rules, tests))) c.loop-line.yielded _ c.loop-line.yielded_by _ _ c.in-None.is c.next.ensures.steps in
    gives_front _ c.args.text.now (sym c.loop-line.invariant.3 ∙ none_left (map numbered c.loop-line.lines.items) (c.loop-line.number + 1) (lines_of c.args.text.now) (length c.loop-line.yielded) (omega (arith, end.1)))

pub returns-in-Err-Bad : goal.returns-in-Err-Bad
returns-in-Err-Bad c =
    let turn = YieldsList-turn (YieldsList-from_slice_split _ (λ b. b == 10) c.args.text.now (ap (λ s. split_rest s) c.into_iter-line-iterator.ensures.into_iter_gives ∙ c.split-line-items.ensures.rest) (ap (λ s. split_done s) c.into_iter-line-iterator.ensures.into_iter_gives ∙ c.split-line-items.ensures.done) (ap (λ s. split_callee s) c.into_iter-line-iterator.ensures.into_iter_gives ∙ c.split-line-items.ensures.closure) (λ x r q k. search (rules, tests))) c.loop-line.yielded _ c.loop-line.yielded_by _ _ c.in-Some.line c.in-Some.is c.next.ensures.steps in
    gives_front _ c.args.text.now (sym c.loop-line.invariant.3 ∙ nothing_said (map numbered c.loop-line.lines.items) (c.loop-line.number + 1) (lines_of c.args.text.now) (length c.loop-line.yielded) c.in-Some.line.now turn.0 turn.1 (sym c.is_passed_over.ensures ∙ c.if-is_passed_over.false) (subst (λ e. Fails e (said_in c.in-Some.line.now)) c.in-Err-Bad.field-0-is c.in-Err-Bad.ensures))

pub loop-line-preserved-then-is_passed_over : goal.loop-line-preserved-then-is_passed_over
loop-line-preserved-then-is_passed_over c =
    let turn = YieldsList-turn (YieldsList-from_slice_split _ (λ b. b == 10) c.args.text.now (ap (λ s. split_rest s) c.into_iter-line-iterator.ensures.into_iter_gives ∙ c.split-line-items.ensures.rest) (ap (λ s. split_done s) c.into_iter-line-iterator.ensures.into_iter_gives ∙ c.split-line-items.ensures.done) (ap (λ s. split_callee s) c.into_iter-line-iterator.ensures.into_iter_gives ∙ c.split-line-items.ensures.closure) (λ x r q k. search (rules, tests))) c.loop-line.yielded _ c.loop-line.yielded_by _ _ c.in-Some.line c.in-Some.is c.next.ensures.steps in
    let more = length_push c.loop-line.yielded c.in-Some.line in
    (c.loop-line.invariant.0, tt, omega (arith, more, c.loop-line.invariant.2), passed_over (map numbered c.loop-line.lines.items) (c.loop-line.number + 1) (lines_of c.args.text.now) (length c.loop-line.yielded) _ c.in-Some.line.now turn.0 turn.1 more (sym c.is_passed_over.ensures ∙ c.if-is_passed_over.true) ∙ c.loop-line.invariant.3)

pub loop-line-preserved : goal.loop-line-preserved
loop-line-preserved c =
    let turn = YieldsList-turn (YieldsList-from_slice_split _ (λ b. b == 10) c.args.text.now (ap (λ s. split_rest s) c.into_iter-line-iterator.ensures.into_iter_gives ∙ c.split-line-items.ensures.rest) (ap (λ s. split_done s) c.into_iter-line-iterator.ensures.into_iter_gives ∙ c.split-line-items.ensures.done) (ap (λ s. split_callee s) c.into_iter-line-iterator.ensures.into_iter_gives ∙ c.split-line-items.ensures.closure) (λ x r q k. search (rules, tests))) c.loop-line.yielded _ c.loop-line.yielded_by _ _ c.in-Some.line c.in-Some.is c.next.ensures.steps in
    let more = length_push c.loop-line.yielded c.in-Some.line in
    let line : ScriptLine = record { number = c.loop-line.number + 1; command = c.in-Ok.command } in
    let items : c.push.new.self.items ≡ c.loop-line.lines.items ++ line ∷ [] = search rules in
    let read = sym c.is_passed_over.ensures ∙ c.if-is_passed_over.false in (
      c.loop-line.invariant.0,
      tt,
      omega (arith, more, c.loop-line.invariant.2),
      ap (λ xs. with_lines xs (lines_from (c.loop-line.number + 1 + 1) (drop (length (c.loop-line.yielded ++ c.in-Some.line ∷ [])) (lines_of c.args.text.now)))) (ap (map numbered) items ∙ map-append numbered c.loop-line.lines.items (line ∷ []))
          ∙ one_said (map numbered c.loop-line.lines.items) (c.loop-line.number + 1) (lines_of c.args.text.now) (length c.loop-line.yielded) _ c.in-Some.line.now (line_said c.in-Ok.command) turn.0 turn.1 more read c.in-Ok.ensures
          ∙ c.loop-line.invariant.3,
    )
