-- The result of a call of the tables, in the whole.
use Rattle.fs_machine.proofs.Vocabulary.{◌≡◌, ◌≢◌, ◌∙◌, ℕ, List, [], ◌∷◌, Bool, true, false, cond, refl, sym, ap, Option, Some, None, same_Some, none-some, IfNone, IfSome, find, is_none, GuardState, LogState, Inode, Dropped, Ran, OpenFile, Want, Refused, TablesState, file_named, place_of, references_of, references_in, lock_file, lock_unless, with_file, lock_inode, refusal_of, Refuses, first_free, is_unreferenced, IsLocked, IfDying, Core, LogPart, join_log, State, RefusesJoin, in_log, joins, join_unless, with_open, lock_open, IsOwnInode, HasNone}
use Rattle.fs_machine.specs.declared.entries.Dropped.TheVariants as dropped
use Rattle.fs_machine.specs.declared.files.Want.TheVariants as want

pub still-in : {D : Type 0} (l : LogState D) (old new : TablesState) (r : Option (GuardState Inode)) → IfNone r (new ≡ old)
    → IfNone r (◌≡◌ {A = Core D} (record { log = l; tables = new }) (record { log = l; tables = old }))
still-in {D} l old new None same = ap (λ (t : TablesState). record { log = l; tables = t }) same
still-in l old new (Some guard) same = tt

pub own-in : (h n : ℕ) (l : LogPart) (t : TablesState) (r : Option (GuardState Inode)) → IfSome r (λ guard. (guard.hart ≡ h) × (guard.value.number ≡ n) × IsLocked guard t)
    → IfSome r (λ guard. IsOwnInode h n guard (record { log = l; tables = t }))
own-in h n l t None own = tt
own-in h n l t (Some guard) own = record { hand = own.0; number = own.1; locked = own.2 }

pub dying-in : (h n : ℕ) (l : LogPart) (t : TablesState) (r : Dropped) → IfDying r (λ m guard. (m ≡ n) × (guard.hart ≡ h) × (guard.value.number ≡ n) × IsLocked guard t)
    → IfDying r (λ m guard. (m ≡ n) × IsOwnInode h n guard (record { log = l; tables = t }))
dying-in h n l t dropped.Counted own = tt
dying-in h n l t (dropped.Dying m guard) own = (own.0, record { hand = own.1; number = own.2; locked = own.3 })

-- a lock that was had was in nobody's hand
none-own : (h n : ℕ) (l : LogPart) (t : TablesState) → ((guard : GuardState Inode) → IsLocked guard t → guard.value.number ≢ n) → HasNone n (IsOwnInode h) (record { log = l; tables = t })
none-own h n l t apart k held own e = apart held own.locked (own.number ∙ e)

pub lock-apart : (h n : ℕ) (l : LogPart) (t : TablesState) (r : Option (GuardState Inode)) → IfSome r (λ _. (guard : GuardState Inode) → IsLocked guard t → guard.value.number ≢ n)
    → IfSome r (λ _. HasNone n (IsOwnInode h) (record { log = l; tables = t }))
lock-apart h n l t None apart = tt
lock-apart h n l t (Some guard) apart = none-own h n l t apart

pub dying-apart : (h n : ℕ) (l : LogPart) (t : TablesState) (r : Dropped) → IfDying r (λ _ _. (guard : GuardState Inode) → IsLocked guard t → guard.value.number ≢ n)
    → IfDying r (λ _ _. HasNone n (IsOwnInode h) (record { log = l; tables = t }))
dying-apart h n l t dropped.Counted apart = tt
dying-apart h n l t (dropped.Dying m guard) apart = none-own h n l t apart

-- the lock of what a descriptor names
pub file_refused : (h fd : ℕ) (w : Want) (t : TablesState) (why : Refused) → refusal_of w (file_named h fd t) ≡ Some why → lock_file h w fd t ≡ Ran (Refuses why) t
unfolding lock_file
file_refused h fd w t why e = ap (lock_unless h t (file_named h fd t)) e

pub file_tried : (h fd : ℕ) (w : Want) (t : TablesState) (f : OpenFile) → refusal_of w (file_named h fd t) ≡ None → file_named h fd t ≡ Some f → lock_file h w fd t ≡ with_file f (lock_inode h f.number t)
unfolding lock_file
file_tried h fd w t f e is = ap (lock_unless h t (file_named h fd t)) e ∙ ap (λ o. lock_unless h t o None) is

pub open_tried : (h fd : ℕ) (t : TablesState) (f : OpenFile) → file_named h fd t ≡ Some f → lock_open h t (file_named h fd t) ≡ with_open f (lock_inode h f.number t)
open_tried h fd t f is = ap (lock_open h t) is

-- a join to write what a descriptor names
pub join_refused : (h : ℕ) (s : State) (o : Option OpenFile) (why : Refused) → refusal_of want.Write o ≡ Some why → join_unless h s o (refusal_of want.Write o) ≡ Ran (RefusesJoin why) s
join_refused h s o why e = ap (join_unless h s o) e ∙ at o
  where
    at : (o : Option OpenFile) → join_unless h s o (Some why) ≡ Ran (RefusesJoin why) s
    at None = refl
    at (Some f) = refl

pub join_tried : (h : ℕ) (s : State) (o : Option OpenFile) (f : OpenFile) → refusal_of want.Write o ≡ None → o ≡ Some f → join_unless h s o (refusal_of want.Write o) ≡ joins f (in_log s (join_log h s.log))
join_tried h s o f e is = ap (join_unless h s o) e ∙ ap (λ (q : Option OpenFile). join_unless h s q None) is

-- there is no reference to what is found
found_passes : {X : Type 0} (p : X → Bool) (xs : List X) (x : X) → find p xs ≡ Some x → p x ≡ true
found_passes p [] x e = absurd (none-some x e)
found_passes {X} p (y ∷ ys) x e = at (p y) refl e (λ f. found_passes p ys x f)
  where
    at : (b : Bool) → p y ≡ b → cond b (Some y) (find p ys) ≡ Some x → (find p ys ≡ Some x → p x ≡ true) → p x ≡ true
    at true is e more = ap p (sym (same_Some _ _ e)) ∙ is
    at false is e more = more e

none_there : (o : Option ℕ) → is_none o ≡ true → o ≡ None
none_there None e = refl
none_there (Some k) e = absurd (cc e)

pub unreferenced : (t : TablesState) (candidates : List ℕ) (n : ℕ) → first_free t.entries candidates ≡ Some n → references_of n t ≡ 0
unreferenced t candidates n e = ap (references_in t.entries) (none_there (place_of n t.entries) (found_passes (is_unreferenced t.entries) candidates n e))
