use Rattle.directory.proofs.Lemmas.{Dinode, P, sym, ap, Searched, Unused, EnteredState, enter_at, answer_in, on_disk, record_in, search_left, search_asked, goes_with, record_kept}
use Rattle.directory.proofs.enter.EnterRoutine.next.Goals as goal

pub returns-in_err-found-in-Searching-clause-goes : goal.returns-in_err-found-in-Searching-clause-goes
returns-in_err-found-in-Searching-clause-goes c before =
    let e = c.in-Searching.entering in
    let m = c.in-Searching.search in
    let h = c.args.hand.now in
    let g = c.next.new.hand in
    let on : Dinode → Searched → P EnteredState = λ d. enter_at e.sizes e.number d (on_disk e.sizes.version e.entry) in
    rw (c.in-Searching.is, c.from_residual.ensures) (λ ready after.
    goes_with (search_left e.sizes.version Unused e.seat m before) (search_left e.sizes.version Unused e.seat c.next.new.self g) (on (record_in e.seat before)) (on (record_in e.seat g)) (answer_in (search_asked m) c.args.answer.now h)
    (ap on (sym (record_kept e.seat before g (c.in_err-found-in-Searching.ensures.beside before ready.1 after)))) (c.in_err-found-in-Searching.ensures.goes before ready.1 after))
