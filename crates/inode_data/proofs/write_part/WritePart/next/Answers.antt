use Rattle.inode_data.proofs.Lemmas.{refl, sym, subst, ◌∙◌, Ret, bind, P, WriteResult, answer_in, Goes, goes_bind, locate_left, locate_asked, after_location, past_so}
use Rattle.inode_data.proofs.write_part.WritePart.next.Goals as goal

pub returns-in_ok-located-in-Locating-clause-goes : goal.returns-in_ok-located-in-Locating-clause-goes
returns-in_ok-located-in-Locating-clause-goes c before =
    let m = c.in-Locating.locate in
    let bytes = c.args.bytes.now in
    let on = after_location c.in-Locating.writing bytes in
    let answer = answer_in (locate_asked m) c.args.answer.now c.args.hand.now in
    rw c.in-Locating.is (λ ready after. subst (λ (p : P WriteResult). Goes (bind (locate_left m before) on) answer p) (sym (c.seek_on.ensures.program bytes c.next.new.hand))
    (goes_bind (locate_left m before) (Ret c.in_ok-located-in-Locating.located) on answer (c.in_ok-located-in-Locating.ensures.goes before ready.1 after)))

pub returns-in-There-clause-goes : goal.returns-in-There-clause-goes
returns-in-There-clause-goes c before = rw c.in-There.is (λ ready after. sym (c.pass.ensures.program c.args.bytes.now c.args.hand.now refl))
