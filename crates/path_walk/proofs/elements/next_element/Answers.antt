use Rattle.plain_tree.proofs.Vocabulary.{◌≡◌, ◌+◌, ◌≤◌, ◌-◌, length, drop, take, [], refl, sym, ◌∙◌, arith, drop_all}
use Rattle.std.proofs.Common.{length-drop}
use Rattle.std.proofs.lemmas.List.{take_rest}
use Rattle.path_walk.proofs.ElementLemmas.{element_here, is_element}
use Rattle.plain_tree.proofs.PathLemmas.{no_elements}
use Rattle.path_walk.proofs.elements.next_element.Goals as goal

pub returns-then-len-gt0-clause-element : goal.returns-then-len-gt0-clause-element
returns-then-len-gt0-clause-element c =
    let path = c.args.path.now in
    let at = c.loop-at.at in
    let all : take (length path - at) (drop at path) ≡ drop at path = take_rest path at in
    let bound : c.name_len-len.result ≤ length (drop at path) = rw all at c.name_len-len.ensures.bound in
    let within : at + c.name_len-len.result ≤ length path = omega (arith, length-drop at path) in
    rw (c.min.ensures, c.min-then-len-gt0.ensures, c.name_len.ensures)
    (sym c.loop-at.invariant.0 ∙ element_here c.args.version path at c.name_len-len.result c.if-len-gt0.true within (rw all at c.name_len-len.ensures.cut c.args.version))

pub returns-then-len-gt0-clause-within : goal.returns-then-len-gt0-clause-within
returns-then-len-gt0-clause-within c =
    let path = c.args.path.now in
    let at = c.loop-at.at in
    let all : take (length path - at) (drop at path) ≡ drop at path = take_rest path at in
    let bound : c.name_len-len.result ≤ length (drop at path) = rw all at c.name_len-len.ensures.bound in
    let within : at + c.name_len-len.result ≤ length path = omega (arith, length-drop at path) in
    rw (c.min.ensures, c.min-then-len-gt0.ensures, c.name_len.ensures)
    (is_element c.args.version path at c.name_len-len.result c.if-len-gt0.true within (rw all at c.name_len-len.ensures.name) c.requires.nonzero)

pub returns-clause-element : goal.returns-clause-element
returns-clause-element c =
    let path = c.args.path.now in
    let end : length path ≤ c.loop-at.at = c.loop-at-test.false in
    sym c.loop-at.invariant.0 ∙ rw (drop_all c.loop-at.at path end) (no_elements c.args.version [] refl)
