use Rattle.inode_data.proofs.Lemmas.{◌≡◌, ◌∙◌, sym, ap, subst, beside_freeing, Ret, bind, answer_in, truncate_left, truncate_asked, emptying_of, store_free, number_in, record_in, Emptying, goes_with, goes_to, freeing-kept, number-kept}
use Rattle.inode_data.proofs.free_inode.FreeInodeRoutine.next.Goals as goal

pub returns-in_err-emptying-in-Truncating-clause-goes : goal.returns-in_err-emptying-in-Truncating-clause-goes
returns-in_err-emptying-in-Truncating-clause-goes c before =
    let h = c.args.hand.now in
    let k = c.next.new.hand in
    let m = c.in-Truncating.truncate in
    let n = c.next.new.self in
    let e = emptying_of m in
    let did = c.in_err-emptying-in-Truncating.ensures in
    rw (c.in-Truncating.is, c.from_residual.ensures) (λ ready after.
    goes_with (truncate_left m before) (truncate_left n k) (store_free e.sizes (number_in e.seat before)) (store_free (emptying_of n).sizes (number_in (emptying_of n).seat k)) (answer_in (truncate_asked m) c.args.answer.now h)
    (ap (store_free e.sizes) (sym (number-kept e k before (freeing-kept e k before (did.beside before ready after)))) ∙ ap (λ (e : Emptying). store_free e.sizes (number_in e.seat k)) (sym did.about))
    (did.goes before ready after))

pub returns-in_ok-emptying-in-Truncating-clause-goes : goal.returns-in_ok-emptying-in-Truncating-clause-goes
returns-in_ok-emptying-in-Truncating-clause-goes c before =
    let h = c.args.hand.now in
    let k = c.next.new.hand in
    let m = c.in-Truncating.truncate in
    let out = c.in_ok-emptying-in-Truncating.emptying in
    let e = emptying_of m in
    let did = c.in_ok-emptying-in-Truncating.ensures in
    let answer = answer_in (truncate_asked m) c.args.answer.now h in
    rw c.in-Truncating.is (λ ready after.
    goes_to (bind (truncate_left m before) (store_free e.sizes (number_in e.seat before))) (store_free e.sizes (number_in e.seat k) (record_in out.seat k)) _ answer
    (goes_with (truncate_left m before) (Ret (record_in out.seat k)) (store_free e.sizes (number_in e.seat before)) (store_free e.sizes (number_in e.seat k)) answer
    (ap (store_free e.sizes) (sym (number-kept e k before (freeing-kept e k before (did.beside before ready after))))) (did.goes before ready after))
    (ap (λ (e : Emptying). store_free e.sizes (number_in e.seat k) (record_in out.seat k)) (sym did.ends.0) ∙ sym c.store_free.ensures.program))

pub returns-in_err-emptying-in-Truncating-clause-beside : goal.returns-in_err-emptying-in-Truncating-clause-beside
returns-in_err-emptying-in-Truncating-clause-beside c before =
    rw c.in-Truncating.is (λ ready after. freeing-kept (emptying_of c.in-Truncating.truncate) c.next.new.hand before (c.in_err-emptying-in-Truncating.ensures.beside before ready after))

pub returns-in_ok-emptying-in-Truncating-clause-beside : goal.returns-in_ok-emptying-in-Truncating-clause-beside
returns-in_ok-emptying-in-Truncating-clause-beside c before =
    let e = emptying_of c.in-Truncating.truncate in
    let did = c.in_ok-emptying-in-Truncating.ensures in
    rw c.in-Truncating.is (λ ready after.
    subst (λ (e : Emptying). beside_freeing e c.store_free.new.hand ≡ beside_freeing e c.next.new.hand) did.ends.0 c.store_free.ensures.beside
    ∙ freeing-kept e c.next.new.hand before (did.beside before ready after))
