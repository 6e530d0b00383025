use Rattle.inode_parts.proofs.Lemmas.{◌≡◌, ◌++◌, ℕ, List, [], Option, Some, None, refl, sym, subst, ◌∙◌, IfNone, Goes, answer_in, lock_file_left, lock_file_asked, stat_left, stat_asked, write_file_left, write_file_asked, WriteFileTold, having, heard_if, GoesOrLeaves, UnderWay, Part, take_left, take_asked, TakeTold, Heard, first_in, second_in, text_in, lock_file_after, stat_after, take_after, write_after, read_text, part_left_after, PartTold, InodePart, alone, step_leaves, claims, clears, empties, enters, fills, frees, lock_files, lock_opens, relocks, stats, stores, takes, writes}
use Rattle.inode_parts.specs.declared.part.InodePart.TheVariants as part
use Rattle.inode_parts.proofs.part.InodePart.next.Goals as goal

pub returns-in-LockFile-clause-goes : goal.returns-in-LockFile-clause-goes
returns-in-LockFile-clause-goes c before =
    let path = text_in c.args.call.now in
    let p = c.in-LockFile.part in
    let did = c.next-in-LockFile in
    rw c.in-LockFile.is (λ ready after.
    subst (λ (q : Part). Goes (lock_file_left path c.args.notes.now p before) (answer_in (lock_file_asked p) c.args.answer.now c.args.hand.now) q)
    (lock_file_after path did.new.notes (heard_if did.result did.new.heard) did.new.self did.new.hand) (did.ensures.goes path before ready after))

pub returns-in-One-clause-under : goal.returns-in-One-clause-under
returns-in-One-clause-under c version op start before =
    let did = c.next in
    rw c.in-One.is (λ under ready after.
    step_leaves version (text_in c.args.call.now) c.args.notes.now did.new.notes before c.args.hand.now c.args.answer.now did.new.heard op c.in-One.step start under after (did.ensures.goes (text_in c.args.call.now) before ready after) did.ensures.notes)

pub returns-in-Store-clause-under : goal.returns-in-Store-clause-under
returns-in-Store-clause-under c version op start before =
    let path = text_in c.args.call.now in
    let did = c.next-in-Store in
    rw c.in-Store.is (λ under ready after.
    stores version path start before did.new.hand c.args.notes.now did.new.notes (heard_if did.result did.new.heard) c.in-Store.part did.new.self (λ n count amid. did.ensures.leaves version path (n, count) start.hand before amid ready after) op under)

pub returns-in-Empty-clause-under : goal.returns-in-Empty-clause-under
returns-in-Empty-clause-under c version op start before =
    let path = text_in c.args.call.now in
    let did = c.next-in-Empty in
    rw c.in-Empty.is (λ under ready after.
    empties version path start before did.new.hand c.args.notes.now did.new.notes (heard_if did.result did.new.heard) c.in-Empty.part did.new.self (λ n amid. did.ensures.leaves version path n start.hand before amid ready after) op under)

pub returns-in-Enter-clause-under : goal.returns-in-Enter-clause-under
returns-in-Enter-clause-under c version op start before =
    let path = text_in c.args.call.now in
    let did = c.next-in-Enter in
    rw c.in-Enter.is (λ under ready after.
    enters version path start before did.new.hand c.args.notes.now did.new.notes (heard_if did.result did.new.heard) c.in-Enter.part did.new.self (λ n child e amid. did.ensures.leaves version path (n, child, e) start.hand before amid ready after) op under)

pub returns-in-Clear-clause-under : goal.returns-in-Clear-clause-under
returns-in-Clear-clause-under c version op start before =
    let path = text_in c.args.call.now in
    let did = c.next-in-Clear in
    rw c.in-Clear.is (λ under ready after.
    clears version path start before did.new.hand c.args.notes.now did.new.notes (heard_if did.result did.new.heard) c.in-Clear.part did.new.self (λ n e amid. did.ensures.leaves version path (n, e) start.hand before amid ready after) op under)

pub returns-in-Fill-clause-under : goal.returns-in-Fill-clause-under
returns-in-Fill-clause-under c version op start before =
    let path = text_in c.args.call.now in
    let did = c.next-in-Fill in
    rw c.in-Fill.is (λ under ready after.
    fills version path start before did.new.hand c.args.notes.now did.new.notes (heard_if did.result did.new.heard) c.in-Fill.part did.new.self (λ n d amid. did.ensures.leaves version path (n, d) start.hand before amid ready after) op under)

pub returns-in-Free-clause-under : goal.returns-in-Free-clause-under
returns-in-Free-clause-under c version op start before =
    let path = text_in c.args.call.now in
    let did = c.next-in-Free in
    rw c.in-Free.is (λ under ready after.
    frees version path start before did.new.hand c.args.notes.now did.new.notes (heard_if did.result did.new.heard) c.in-Free.part did.new.self (λ n amid. did.ensures.leaves version path n start.hand before amid ready after) op under)

pub returns-in-Claim-clause-under : goal.returns-in-Claim-clause-under
returns-in-Claim-clause-under c version op start before =
    let path = text_in c.args.call.now in
    let did = c.next-in-Claim in
    rw c.in-Claim.is (λ under ready after.
    claims version path start before did.new.hand c.args.notes.now did.new.notes (heard_if did.result did.new.heard) c.in-Claim.part did.new.self (λ inode_type amid. did.ensures.leaves version path inode_type start.hand before amid ready after) op under)

pub returns-in-LockOpen-clause-under : goal.returns-in-LockOpen-clause-under
returns-in-LockOpen-clause-under c version op start before =
    let path = text_in c.args.call.now in
    let did = c.next-in-LockOpen in
    rw c.in-LockOpen.is (λ under ready after.
    lock_opens version path start before did.new.hand c.args.notes.now did.new.notes (heard_if did.result did.new.heard) c.in-LockOpen.part did.new.self (λ fd n amid. did.ensures.leaves version path (fd, n) start.hand before amid ready after) op under)

pub returns-in-LockFile-clause-under : goal.returns-in-LockFile-clause-under
returns-in-LockFile-clause-under c version op start before =
    let path = text_in c.args.call.now in
    let did = c.next-in-LockFile in
    rw c.in-LockFile.is (λ under ready after.
    lock_files version path start before did.new.hand c.args.notes.now did.new.notes (heard_if did.result did.new.heard) c.in-LockFile.part did.new.self (λ fd amid. did.ensures.leaves version path fd start.hand before amid ready after) op under)

pub returns-in-Relock-clause-under : goal.returns-in-Relock-clause-under
returns-in-Relock-clause-under c version op start before =
    let path = text_in c.args.call.now in
    let did = c.next-in-Relock in
    rw c.in-Relock.is (λ under ready after.
    relocks version path start before did.new.hand c.args.notes.now did.new.notes (heard_if did.result did.new.heard) c.in-Relock.part did.new.self (λ n amid. did.ensures.leaves version path n start.hand before amid ready after) op under)

pub returns-in-StatFile-clause-under : goal.returns-in-StatFile-clause-under
returns-in-StatFile-clause-under c version op start before =
    let path = text_in c.args.call.now in
    let did = c.next-in-StatFile in
    rw c.in-StatFile.is (λ under ready after.
    stats version path start before did.new.hand c.args.notes.now did.new.notes (heard_if did.result did.new.heard) c.in-StatFile.part did.new.self (λ fd amid. did.ensures.leaves version path fd start.hand before amid ready after) op under)

pub returns-in-StatFile-clause-goes : goal.returns-in-StatFile-clause-goes
returns-in-StatFile-clause-goes c before =
    let path = text_in c.args.call.now in
    let p = c.in-StatFile.part in
    let did = c.next-in-StatFile in
    rw c.in-StatFile.is (λ ready after.
    subst (λ (q : Part). Goes (stat_left path c.args.notes.now p before) (answer_in (stat_asked p) c.args.answer.now c.args.hand.now) q)
    (stat_after path did.new.notes (heard_if did.result did.new.heard) did.new.self did.new.hand) (did.ensures.goes path before ready after))

pub returns-in-WriteFile-clause-under : goal.returns-in-WriteFile-clause-under
returns-in-WriteFile-clause-under c version op start before =
    let path = text_in c.args.call.now in
    let m = c.args.notes.now in
    let did = c.next-in-WriteFile in
    rw c.in-WriteFile.is (λ under ready after.
    writes version path start before did.new.hand m m (heard_if did.result did.new.heard) c.in-WriteFile.part did.new.self (λ fd n offset bytes amid. did.ensures.leaves version path m fd n offset bytes start.hand before amid ready after) op under)

-- ---- what reads the call's text

-- what holds if it isn't over, with more that holds
beside_none : (o : Option Heard) (A B : Type 0) → IfNone o A → B → IfNone o (A × B)
beside_none None A B a b = (a, b)
beside_none (Some x) A B a b = tt

pub next-requires-in-Take-clause-told : goal.next-requires-in-Take-clause-told
next-requires-in-Take-clause-told c =
    let w = c.args.call.now in
    let told = subst (λ (q : InodePart). PartTold (first_in w) (second_in w) q) c.in-Take.is c.requires.told in
    subst (λ (second : List ℕ). TakeTold c.text-path.result.now second c.in-Take.part) (sym c.second-second.ensures)
    (subst (λ (path : List ℕ). TakeTold path (second_in w) c.in-Take.part) (sym c.text-path.ensures) told)

pub returns-in-Take-clause-goes : goal.returns-in-Take-clause-goes
returns-in-Take-clause-goes c before =
    let w = c.args.call.now in
    let path = c.text-path.result.now ++ c.second-second.result.now in
    let m = c.args.notes.now in
    let p = c.in-Take.part in
    let did = c.next-in-Take in
    let o = heard_if did.result did.new.heard in
    let answer = answer_in (take_asked p) c.args.answer.now c.args.hand.now in
    rw c.in-Take.is (λ ready after.
    subst (λ (text : List ℕ). Goes (take_left text m p before) answer (part_left_after text did.new.notes o (part.Take did.new.self) did.new.hand))
    (read_text w c.text-path.result.now c.second-second.result.now c.text-path.ensures c.second-second.ensures)
    (subst (λ (q : Part). Goes (take_left path m p before) answer q)
    (take_after path did.new.notes o did.new.self did.new.hand) (did.ensures.goes before ready after)))

pub returns-in-Take-clause-under : goal.returns-in-Take-clause-under
returns-in-Take-clause-under c version op start before =
    let w = c.args.call.now in
    let m = c.args.notes.now in
    let p = c.in-Take.part in
    let did = c.next-in-Take in
    let o = heard_if did.result did.new.heard in
    let read = read_text w c.text-path.result.now c.second-second.result.now c.text-path.ensures c.second-second.ensures in
    rw c.in-Take.is (λ under ready after.
    subst (λ (text : List ℕ). GoesOrLeaves version text op start o (part.Take did.new.self) (having did.new.hand did.new.notes)) read
    (takes version (c.text-path.result.now ++ c.second-second.result.now) start before did.new.hand m did.new.notes o p did.new.self (λ n looking amid. did.ensures.leaves version n looking start.hand before amid ready after) op
    (subst (λ (text : List ℕ). UnderWay version text op start (part.Take p) (having before m)) (sym read) under)))

pub returns-in-Take-clause-told : goal.returns-in-Take-clause-told
returns-in-Take-clause-told c =
    let w = c.args.call.now in
    let did = c.next-in-Take in
    let o = heard_if did.result did.new.heard in
    subst (λ (second : List ℕ). IfNone o (TakeTold (first_in w) second did.new.self)) c.second-second.ensures
    (subst (λ (path : List ℕ). IfNone o (TakeTold path c.second-second.result.now did.new.self)) c.text-path.ensures did.ensures.told)

pub next-requires-in-WriteFile-clause-told : goal.next-requires-in-WriteFile-clause-told
next-requires-in-WriteFile-clause-told c =
    let w = c.args.call.now in
    let told = subst (λ (q : InodePart). PartTold (first_in w) (second_in w) q) c.in-WriteFile.is c.requires.told in
    subst (λ (text : List ℕ). WriteFileTold text c.in-WriteFile.part) (sym c.text.ensures) told.0

pub returns-in-WriteFile-clause-told : goal.returns-in-WriteFile-clause-told
returns-in-WriteFile-clause-told c =
    let w = c.args.call.now in
    let did = c.next-in-WriteFile in
    let o = heard_if did.result did.new.heard in
    let told = subst (λ (q : InodePart). PartTold (first_in w) (second_in w) q) c.in-WriteFile.is c.requires.told in
    let on = subst (λ (text : List ℕ). IfNone o (WriteFileTold text did.new.self)) c.text.ensures did.ensures.told in
    beside_none o (WriteFileTold (first_in w) did.new.self) (second_in w ≡ []) on told.1

pub returns-in-WriteFile-clause-goes : goal.returns-in-WriteFile-clause-goes
returns-in-WriteFile-clause-goes c before =
    let w = c.args.call.now in
    let path = c.text.result.now in
    let m = c.args.notes.now in
    let p = c.in-WriteFile.part in
    let did = c.next-in-WriteFile in
    let o = heard_if did.result did.new.heard in
    let answer = answer_in (write_file_asked p) c.args.answer.now c.args.hand.now in
    let told = subst (λ (q : InodePart). PartTold (first_in w) (second_in w) q) c.in-WriteFile.is c.requires.told in
    let text : path ≡ text_in w = c.text.ensures ∙ alone (first_in w) (second_in w) told.1 ∙ read_text w (first_in w) (second_in w) refl refl in
    rw c.in-WriteFile.is (λ ready after.
    subst (λ (text : List ℕ). Goes (write_file_left text p before) answer (part_left_after text m o (part.WriteFile did.new.self) did.new.hand)) text
    (subst (λ (q : Part). Goes (write_file_left path p before) answer q)
    (write_after path m o did.new.self did.new.hand) (did.ensures.goes m before ready after)))
