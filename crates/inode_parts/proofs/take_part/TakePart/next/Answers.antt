use Rattle.inode_parts.proofs.Lemmas.{◌++◌, ℕ, List, true, None, ap, refl, sym, subst, ◌∙◌, is_some, not, Ret, Entry, Named, Goes, answer_in, lock_left, lock_asked, lock_seat, search_left, search_asked, number_found, name_in, listed_ends, looked, named_ends, note_of, take_asked, take_seat, IsAfter, Sees, TakePart, TakeReady, Query, found_with, unindexed, face_unless_free, query_in, comes_on, comes_between, comes_on_search, begun_so, left_begun, sees_entries, sees_name, still_begun, take_leaves, is_taken, search_on, search_over, seen_over, take_on, take_over, taken_stays, IsSlot, Version}
use Rattle.inode_parts.specs.Leaving.{having, StaysOrLeaves}
use Rattle.inode_parts.specs.Takes.{TakeAmid, TakeTold}
use Rattle.inode_parts.specs.Vocabulary.{Take}
use Rattle.inode_parts.specs.declared.note.Note.TheVariants as note
use Rattle.inode_parts.proofs.take_part.TakePart.next.Goals as goal

pub returns-in-None-clause-goes : goal.returns-in-None-clause-goes
returns-in-None-clause-goes c before =
    let path = c.args.path.now ++ c.args.second.now in
    let r = c.in-Locking.lock in
    let h = c.next.new.hand in
    let s = c.next.new.self in
    let did = c.in-None.ensures in
    rw c.in-Locking.is (λ ready after.
    take_on (looked c.in-Locking.version path c.in-Locking.query) path c.args.notes.now (lock_seat r) before h (lock_left r before) (answer_in (lock_asked r) c.args.answer.now c.args.hand.now) (did.beside before ready.0 after) (lock_seat s) (lock_left s h) did.about (did.goes before ready.0 after))

pub returns-in-Some-clause-goes : goal.returns-in-Some-clause-goes
returns-in-Some-clause-goes c before =
    let path = c.args.path.now ++ c.args.second.now in
    let r = c.in-Locking.lock in
    let did = c.in-Some.ensures in
    rw c.in-Locking.is (λ ready after.
    take_over (looked c.in-Locking.version path c.in-Locking.query) path c.args.notes.now (lock_seat r) before c.next.new.hand (lock_left r before) (answer_in (lock_asked r) c.args.answer.now c.args.hand.now) (did.beside before ready.0 after) c.in-Some.seat _ did.ends.0
    (sym c.look.ensures.program ∙ left_begun path c.look.new.notes c.look.result c.look.new.self c.look.new.heard c.next.new.hand) (did.goes before ready.0 after))

pub returns-in-Some-clause-ready : goal.returns-in-Some-clause-ready
returns-in-Some-clause-ready c = still_begun c.look.result c.look.new.self c.look.new.heard (λ p. TakeReady p c.next.new.hand) c.look.ensures.ready

pub returns-in-Some-clause-told : goal.returns-in-Some-clause-told
returns-in-Some-clause-told c = still_begun c.look.result c.look.new.self c.look.new.heard (λ p. TakeTold c.args.path.now c.args.second.now p) c.look.ensures.told

pub returns-in-None-next-clause-goes : goal.returns-in-None-next-clause-goes
returns-in-None-next-clause-goes c before =
    let path = c.args.path.now ++ c.args.second.now in
    let h = c.next-in-Naming.new.hand in
    let k = c.in-Naming.seat in
    let e = c.in-Naming.element in
    let s = c.in-Naming.search in
    let t = c.next-in-Naming.new.self in
    let did = c.in-None-next.ensures in
    let answer = answer_in (search_asked s) c.args.answer.now c.args.hand.now in
    rw c.in-Naming.is (λ ready after.
    search_on c.in-Naming.version (λ c n d. named_ends path c n (unindexed d) e) path c.args.notes.now k before h (Named (name_in path e)) s answer (did.beside before ready.0 after) t
    (subst (λ (name : List ℕ). Goes (search_left c.in-Naming.version (Named name) k s before) answer (search_left c.in-Naming.version (Named name) k t h)) c.name.ensures (did.goes before ready.0 after)))

pub returns-in-Some-next-clause-goes : goal.returns-in-Some-next-clause-goes
returns-in-Some-next-clause-goes c before =
    let path = c.args.path.now ++ c.args.second.now in
    let m = c.args.notes.now in
    let h = c.next-in-Naming.new.hand in
    let k = c.in-Naming.seat in
    let e = c.in-Naming.element in
    let s = c.in-Naming.search in
    let found = c.in-Some-next.found in
    let did = c.in-Some-next.ensures in
    let answer = answer_in (search_asked s) c.args.answer.now c.args.hand.now in
    rw c.in-Naming.is (λ ready after.
    let same = did.beside before ready.0 after in
    search_over c.in-Naming.version (λ c n d. named_ends path c n (unindexed d) e) path m k before h (Named (name_in path e)) s answer same (found_with k found h) _
    (seen_over path m c.named.new.notes k h (note_of e found) c.record_at-inode.result.now (number_found found) true c.named.new.heard c.record_at-inode.ensures (taken_stays k before h same ready.1) c.named.ensures.heard c.named.ensures.notes)
    (subst (λ (name : List ℕ). Goes (search_left c.in-Naming.version (Named name) k s before) answer (Ret (found_with k found h))) c.name.ensures (did.goes before ready.0 after)))

pub returns-in-None-next-2-clause-goes : goal.returns-in-None-next-2-clause-goes
returns-in-None-next-2-clause-goes c before =
    let path = c.args.path.now ++ c.args.second.now in
    let s = c.in-Listing.search in
    let did = c.in-None-next-2.ensures in
    rw c.in-Listing.is (λ ready after.
    search_on c.in-Listing.version (λ c n d. listed_ends path c n (unindexed d)) path c.args.notes.now c.in-Listing.seat before c.next-in-Listing.new.hand Entry s (answer_in (search_asked s) c.args.answer.now c.args.hand.now) (did.beside before ready.0 after)
    c.next-in-Listing.new.self (did.goes before ready.0 after))

pub returns-in-Some-next-2-clause-goes : goal.returns-in-Some-next-2-clause-goes
returns-in-Some-next-2-clause-goes c before =
    let path = c.args.path.now ++ c.args.second.now in
    let m = c.args.notes.now in
    let h = c.next-in-Listing.new.hand in
    let k = c.in-Listing.seat in
    let s = c.in-Listing.search in
    let found = c.in-Some-next-2.found in
    let did = c.in-Some-next-2.ensures in
    rw c.in-Listing.is (λ ready after.
    let same = did.beside before ready.0 after in
    search_over c.in-Listing.version (λ c n d. listed_ends path c n (unindexed d)) path m k before h Entry s (answer_in (search_asked s) c.args.answer.now c.args.hand.now) same (found_with k found h) _
    (seen_over path m c.listed.new.notes k h note.Nothing c.record_at-inode-in-Some-next-2.result.now None (not (is_some found)) c.listed.new.heard c.record_at-inode-in-Some-next-2.ensures (taken_stays k before h same ready.1) c.listed.ensures.heard c.listed.ensures.notes)
    (did.goes before ready.0 after))

pub returns-in-None-clause-leaves : goal.returns-in-None-clause-leaves
returns-in-None-clause-leaves c v n looking start before =
    let r = c.in-Locking.lock in
    let did = c.in-None.ensures in
    rw c.in-Locking.is (λ amid ready after.
    ((amid.0, did.about ∙ amid.1, amid.2, comes_on (lock_seat r) (lock_seat c.next.new.self) start before c.next.new.hand did.about (did.beside before ready.0 after) amid.3, amid.4), refl))

pub returns-in-Some-clause-leaves : goal.returns-in-Some-clause-leaves
returns-in-Some-clause-leaves c v n looking start before =
    let path = c.args.path.now ++ c.args.second.now in
    let r = c.in-Locking.lock in
    let k = c.in-Some.seat in
    let h = c.next.new.hand in
    let m = c.args.notes.now in
    let m2 = c.look.new.notes in
    let part = c.look.new.self in
    let ends = c.in-Some.ensures.ends in
    rw c.in-Locking.is (λ amid ready after.
    let same = c.in-Some.ensures.beside before ready.0 after in
    begun_so c.look.result part c.look.new.heard _ _ (λ o. StaysOrLeaves v (TakeAmid v path n looking start part) path (Take n looking) o (having start m) (having h m2)) c.look.ensures.looks c.look.ensures.sees
    (λ looks.
    let at = looks.0 ∙ ends.0 in
    ((amid.0, at ∙ amid.1, ap (query_in path) looks.1 ∙ amid.2, comes_on (lock_seat r) (take_seat part) start before h at same amid.3, looks.3 ∙ amid.4), looks.2))
    (λ sees.
    take_leaves v path m m2 n looking start k h c.look.new.heard amid.0 (ends.0 ∙ amid.1) (comes_on (lock_seat r) k start before h ends.0 same amid.3) (is_taken (lock_seat r) k before h ends.0 same ready.1 ends.1) ends.1.2
    (subst (λ (v : Version). Sees v path looking k c.look.new.heard m m2) amid.4
    (subst (λ (looking : Query). Sees c.in-Locking.version path looking k c.look.new.heard m m2) amid.2 sees))))

pub returns-in-None-next-clause-leaves : goal.returns-in-None-next-clause-leaves
returns-in-None-next-clause-leaves c v n looking start before =
    let s = c.in-Naming.search in
    let t = c.next-in-Naming.new.self in
    let did = c.in-None-next.ensures in
    rw c.in-Naming.is (λ amid ready after.
    ((amid.0, amid.1, amid.2, comes_between c.in-Naming.version c.in-Naming.seat s t start before c.next-in-Naming.new.hand ready.0 did.ready (did.beside before ready.0 after) amid.3, amid.4), refl))

pub returns-in-Some-next-clause-leaves : goal.returns-in-Some-next-clause-leaves
returns-in-Some-next-clause-leaves c v n looking start before =
    let path = c.args.path.now ++ c.args.second.now in
    let m = c.args.notes.now in
    let m2 = c.named.new.notes in
    let h = c.next-in-Naming.new.hand in
    let k = c.in-Naming.seat in
    let e = c.in-Naming.element in
    let s = c.in-Naming.search in
    let found = c.in-Some-next.found in
    let x = c.named.new.heard in
    let did = c.in-Some-next.ensures in
    rw c.in-Naming.is (λ amid ready after.
    let same = did.beside before ready.0 after in
    take_leaves v path m m2 n looking start k h x amid.0 amid.1 (comes_on_search c.in-Naming.version k s start before h ready.0 did.over.1 same amid.3) (taken_stays k before h same ready.1) did.over.0
    (subst (λ (looking : Query). Sees v path looking k x m m2) amid.2
    (sees_name v path k x m m2 c.named.ensures.counted e (face_unless_free c.record_at-inode.result.now) found (subst (λ (v : Version). IsSlot v found) amid.4 did.slot) c.named.ensures.heard c.named.ensures.notes)))

pub returns-in-None-next-2-clause-leaves : goal.returns-in-None-next-2-clause-leaves
returns-in-None-next-2-clause-leaves c v n looking start before =
    let s = c.in-Listing.search in
    let t = c.next-in-Listing.new.self in
    let did = c.in-None-next-2.ensures in
    rw c.in-Listing.is (λ amid ready after.
    ((amid.0, amid.1, amid.2, comes_between c.in-Listing.version c.in-Listing.seat s t start before c.next-in-Listing.new.hand ready.0 did.ready (did.beside before ready.0 after) amid.3, amid.4), refl))

pub returns-in-Some-next-2-clause-leaves : goal.returns-in-Some-next-2-clause-leaves
returns-in-Some-next-2-clause-leaves c v n looking start before =
    let path = c.args.path.now ++ c.args.second.now in
    let m = c.args.notes.now in
    let m2 = c.listed.new.notes in
    let h = c.next-in-Listing.new.hand in
    let k = c.in-Listing.seat in
    let s = c.in-Listing.search in
    let x = c.listed.new.heard in
    let did = c.in-Some-next-2.ensures in
    rw c.in-Listing.is (λ amid ready after.
    let same = did.beside before ready.0 after in
    take_leaves v path m m2 n looking start k h x amid.0 amid.1 (comes_on_search c.in-Listing.version k s start before h ready.0 did.over.1 same amid.3) (taken_stays k before h same ready.1) did.over.0
    (subst (λ (looking : Query). Sees v path looking k x m m2) amid.2 (sees_entries v path k x m m2 c.listed.ensures.counted note.Nothing c.listed.ensures.notes)))

pub returns-in-None-next-clause-ready : goal.returns-in-None-next-clause-ready
returns-in-None-next-clause-ready c =
    let before = c.requires.came.0 in
    let h = c.next-in-Naming.new.hand in
    let did = c.in-None-next.ensures in
    let ready = subst (λ (p : TakePart). TakeReady p before) c.in-Naming.is c.requires.came.1 in
    let after = subst (λ (p : TakePart). IsAfter (take_asked p) before c.args.answer.now c.args.hand.now) c.in-Naming.is c.requires.came.2 in
    (did.ready, taken_stays c.in-Naming.seat before h (did.beside before ready.0 after) ready.1)

pub returns-in-None-next-2-clause-ready : goal.returns-in-None-next-2-clause-ready
returns-in-None-next-2-clause-ready c =
    let before = c.requires.came.0 in
    let h = c.next-in-Listing.new.hand in
    let did = c.in-None-next-2.ensures in
    let ready = subst (λ (p : TakePart). TakeReady p before) c.in-Listing.is c.requires.came.1 in
    let after = subst (λ (p : TakePart). IsAfter (take_asked p) before c.args.answer.now c.args.hand.now) c.in-Listing.is c.requires.came.2 in
    (did.ready, taken_stays c.in-Listing.seat before h (did.beside before ready.0 after) ready.1)
