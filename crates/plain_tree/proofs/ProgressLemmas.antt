-- The next step of a call depends only on how many of its steps acted, and on the last answer.
use Rattle.plain_tree.proofs.Vocabulary.{◌≡◌, ◌≢◌, ℕ, suc, ◌+◌, ◌<◌, ◌≤◌, Bool, true, false, nat_lt, List, [], ◌∷◌, ◌++◌, length, ◌==◌, refl, sym, ◌∙◌, ap, subst, not, Decides, take, drop, get_or, append_assoc, drop-cons, inl, inr, arith, Option, Some, None, if◌then◌else◌, length_push, take-append-drop, take_all, take_more, cases_Bool, nat_tests, Cause, Call, OpenCall as Open, ReadCall as Read, Write, Link, UnlinkCall as Unlink, MkdirCall as Mkdir, ChdirCall as Chdir, DupCall as Dup, FstatCall as Fstat, CloseCall as Close, InheritCall as Inherit, Action, Bump as BumpStep, Enter as EnterStep, Unbump as UnbumpStep, WritePart as WritePartStep, StepAnswer, Opened, Bytes, Status, NewFd, Done, Failed, NoRoom, Placed, Nothing, Progress, act_of, acts_of, has, empty_it, is_nothing, Act, Follows, cause_of, if_done, if_failed, last_cause, next_link, next_of, next_open, next_piece, once, piece, piece_count, to_truncate, has_failed, is_done, last_of, link_next, next_at, next_where, only_next, open_next, progress_of, said, truncate_next}
use Rattle.std.proofs.lemmas.List.{append-nil}

equal_not : (m n : ℕ) → m ≢ n → (m == n) ≡ false
equal_not m n ne = grind (arith, nat_tests)

last_push : (acts : List Act) (a : Act) → last_of (acts ++ a ∷ []) ≡ said a.answer
unfolding last_of
last_push [] a = refl
last_push (b ∷ []) a = refl
last_push (b ∷ c ∷ cs) a = last_push (c ∷ cs) a

once_is : (s : Action) (acts : List Act) → once s acts ≡ only_next s (progress_of acts)
once_is s [] = refl
once_is s (a ∷ acts) = rw (equal_not (length (a ∷ acts)) 0 (λ e. omega arith)) refl

truncate_is : (flags : ℕ) (x : StepAnswer) → to_truncate flags x ≡ truncate_next flags (said x)
truncate_is flags (Opened fd id true) = elim (cases_Bool (has flags empty_it)) [ inl y ↦ rw y refl | inr y ↦ rw y refl ]
truncate_is flags (Opened fd id false) = elim (cases_Bool (has flags empty_it)) [ inl y ↦ rw y refl | inr y ↦ rw y refl ]
truncate_is flags (Bytes b) = refl
truncate_is flags (Status s) = refl
truncate_is flags (NewFd fd) = refl
truncate_is flags Done = refl
truncate_is flags (Failed k) = refl
truncate_is flags (NoRoom f) = refl

done_is : (x : StepAnswer) (s : Action) → if_done x s ≡ next_where (is_done (said x)) s
done_is Done s = refl
done_is (Opened fd id true) s = refl
done_is (Opened fd id false) s = refl
done_is (Bytes b) s = refl
done_is (Status t) s = refl
done_is (NewFd fd) s = refl
done_is (Failed k) s = refl
done_is (NoRoom f) s = refl

failed_is : (x : StepAnswer) (s : Action) → if_failed x s ≡ next_where (has_failed (said x)) s
failed_is (Failed k) s = refl
failed_is Done s = refl
failed_is (Opened fd id true) s = refl
failed_is (Opened fd id false) s = refl
failed_is (Bytes b) s = refl
failed_is (Status t) s = refl
failed_is (NewFd fd) s = refl
failed_is (NoRoom f) s = refl

open_is : (path : List ℕ) (flags : ℕ) (acts : List Act) → next_open path flags acts ≡ open_next path flags (progress_of acts)
unfolding last_of
open_is path flags [] = refl
open_is path flags (a ∷ []) = truncate_is flags a.answer
open_is path flags (a ∷ b ∷ bs) = rw (equal_not (length (a ∷ b ∷ bs)) 0 (λ e. omega arith), equal_not (length (a ∷ b ∷ bs)) 1 (λ e. omega arith)) refl

link_is : (old new : List ℕ) (acts : List Act) → next_link old new acts ≡ link_next old new (progress_of acts)
unfolding last_of
link_is old new [] = refl
link_is old new (a ∷ []) = done_is a.answer BumpStep
link_is old new (a ∷ b ∷ []) = done_is b.answer (EnterStep new)
link_is old new (a ∷ b ∷ c ∷ []) = failed_is c.answer UnbumpStep
link_is old new (a ∷ b ∷ c ∷ d ∷ ds) =
    let n : ℕ = length (a ∷ b ∷ c ∷ d ∷ ds) in
    rw (equal_not n 0 (λ e. omega arith), equal_not n 1 (λ e. omega arith), equal_not n 2 (λ e. omega arith), equal_not n 3 (λ e. omega arith)) refl

cause_is : (x : StepAnswer) → is_nothing (cause_of x) ≡ not (has_failed (said x))
cause_is (Failed k) = refl
cause_is Done = refl
cause_is (Opened fd id true) = refl
cause_is (Opened fd id false) = refl
cause_is (Bytes b) = refl
cause_is (Status t) = refl
cause_is (NewFd fd) = refl
cause_is (NoRoom f) = refl

last_cause_is : (acts : List Act) → is_nothing (last_cause acts) ≡ not (has_failed (last_of acts))
unfolding last_of last_cause
last_cause_is [] = refl
last_cause_is (a ∷ []) = cause_is a.answer
last_cause_is (a ∷ b ∷ bs) = last_cause_is (b ∷ bs)

piece_is : (fd : ℕ) (bytes : List ℕ) (acts : List Act) (k : Option Cause) (failed : Bool) → is_nothing k ≡ not failed → next_piece fd bytes acts k ≡ (if failed then None else if nat_lt (length acts) (piece_count bytes) then Some (WritePartStep fd (piece bytes (length acts))) else None)
piece_is fd bytes acts (Some k) true h = refl
piece_is fd bytes acts (Some k) false h = absurd cc
piece_is fd bytes acts None true h = absurd cc
piece_is fd bytes acts None false h = refl

-- what the acts say of the next step
next_is : (c : Call) (acts : List Act) → next_of c acts ≡ next_at c (progress_of acts)
unfolding next_of
next_is (Open path flags) acts = open_is path flags acts
next_is (Read fd buffer) acts = once_is _ acts
next_is (Write fd bytes) acts = piece_is fd bytes acts (last_cause acts) (has_failed (last_of acts)) (last_cause_is acts)
next_is (Link old new) acts = link_is old new acts
next_is (Unlink path) acts = once_is _ acts
next_is (Mkdir path) acts = once_is _ acts
next_is (Chdir path) acts = once_is _ acts
next_is (Dup fd) acts = once_is _ acts
next_is (Fstat fd) acts = once_is _ acts
next_is (Close fd) acts = once_is _ acts
next_is (Inherit child) acts = once_is _ acts

pub acts_append : (id : ℕ) (es fs : List Placed) → acts_of id (es ++ fs) ≡ acts_of id es ++ acts_of id fs
unfolding acts_of
acts_append id [] fs = refl
acts_append id (e ∷ es) fs = elim (cases_Bool (e.call == id)) [
  | inl y ↦ rw (y, acts_append id es fs) refl
  | inr y ↦ rw (y, acts_append id es fs) refl
]

acts_own : (id : ℕ) (e : Placed) (es : List Placed) → e.call ≡ id → acts_of id (e ∷ es) ≡ act_of e ∷ acts_of id es
unfolding acts_of
acts_own id e es h =
    let y : (e.call == id) ≡ true = grind (arith, nat_tests) in
    rw y refl

pub acts_other : (id : ℕ) (e : Placed) (es : List Placed) → e.call ≢ id → acts_of id (e ∷ es) ≡ acts_of id es
unfolding acts_of
acts_other id e es h = rw (equal_not e.call id h) refl

acts_none : (id : ℕ) → acts_of id [] ≡ []
unfolding acts_of
acts_none id = refl

take_next : (es : List Placed) (i : ℕ) (e : Placed) → i < length es → e ≡ get_or es i e → take (i + 1) es ≡ take i es ++ e ∷ []
take_next es i e lt is = take_more es i e lt ∙ ap (λ x. take i es ++ x ∷ []) (sym is)

own_more : (id : ℕ) (es : List Placed) (i : ℕ) (e : Placed) → i < length es → e ≡ get_or es i e → e.call ≡ id → acts_of id (take (i + 1) es) ≡ acts_of id (take i es) ++ act_of e ∷ []
own_more id es i e lt is h = rw (take_next es i e lt is, acts_append id (take i es) (e ∷ []), acts_own id e [] h, acts_none id) refl

other_more : (id : ℕ) (es : List Placed) (i : ℕ) (e : Placed) → i < length es → e ≡ get_or es i e → e.call ≢ id → acts_of id (take (i + 1) es) ≡ acts_of id (take i es)
other_more id es i e lt is h = rw (take_next es i e lt is, acts_append id (take i es) (e ∷ []), acts_other id e [] h, acts_none id) (append-nil (acts_of id (take i es)))

-- p: how far the call is after the first i entries of the list
pub record HasCome (p : Progress) (id : ℕ) (list : List Placed) (i : ℕ) : Type 0 where
  pub is : p ≡ progress_of (acts_of id (take i list))
  pub bound : p.count ≤ i

pub none_come : (id : ℕ) (list : List Placed) → HasCome (record { count = 0; last = Nothing }) id list 0
unfolding last_of
none_come id list = record { is = rw (acts_none id) refl; bound = omega arith }

progress_push : (acts : List Act) (a : Act) → progress_of (acts ++ a ∷ []) ≡ record { count = length acts + 1; last = said a.answer }
progress_push acts a = rw (length_push acts a, last_push acts a) refl

pub own_come : (p q : Progress) (id : ℕ) (list : List Placed) (i : ℕ) (e : Placed) → i < length list → e ≡ get_or list i e → e.call ≡ id → q ≡ record { count = p.count + 1; last = said e.answer } → HasCome p id list i → HasCome q id list (i + 1)
own_come p q id list i e lt is h made come =
    let old : p.count ≡ length (acts_of id (take i list)) = ap (λ (r : Progress). r.count) come.is in
    let more : progress_of (acts_of id (take (i + 1) list)) ≡ record { count = length (acts_of id (take i list)) + 1; last = said e.answer } = rw (own_more id list i e lt is h) (progress_push (acts_of id (take i list)) (act_of e)) in
    record { is = cc; bound = omega (arith, come.bound, ap (λ (r : Progress). r.count) made) }

pub other_come : (p : Progress) (id : ℕ) (list : List Placed) (i : ℕ) (e : Placed) → i < length list → e ≡ get_or list i e → e.call ≢ id → HasCome p id list i → HasCome p id list (i + 1)
other_come p id list i e lt is h come = record { is = rw (other_more id list i e lt is h) come.is; bound = omega (arith, come.bound) }

pub all_come : (p : Progress) (id : ℕ) (list : List Placed) (i : ℕ) → length list ≤ i → HasCome p id list i → p ≡ progress_of (acts_of id list)
all_come p id list i le come = come.is ∙ ap (λ xs. progress_of (acts_of id xs)) (take_all i list le)

-- What follows after what.

pub follows_none : (c : Call) (id : ℕ) (list : List Placed) → Follows c [] (acts_of id (take 0 list))
unfolding Follows
follows_none c id list = rw (acts_none id) tt

pub follows_push : (c : Call) (before acts : List Act) (a : Act) → Follows c before acts → next_of c (before ++ acts) ≡ Some a.step → Follows c before (acts ++ a ∷ [])
unfolding Follows
follows_push c before [] a f n = (rw (append-nil before) at n, tt)
follows_push c before (b ∷ bs) a f n = (f.0, follows_push c (before ++ b ∷ []) bs a f.1 (rw (append_assoc before (b ∷ []) bs) n))

-- a step of the sequence is the next one after the steps before it
pub follows_at : (c : Call) (before acts : List Act) (a : Act) (rest : List Act) → Follows c before (acts ++ a ∷ rest) → next_of c (before ++ acts) ≡ Some a.step
unfolding Follows
follows_at c before [] a rest f = rw (append-nil before) f.0
follows_at c before (b ∷ bs) a rest f = rw (← append_assoc before (b ∷ []) bs) (follows_at c (before ++ b ∷ []) bs a rest f.1)

pub own_follows : (c : Call) (p : Progress) (id : ℕ) (list : List Placed) (i : ℕ) (e : Placed) → i < length list → e ≡ get_or list i e → e.call ≡ id → HasCome p id list i → Follows c [] (acts_of id (take i list)) → next_at c p ≡ Some e.step.action → Follows c [] (acts_of id (take (i + 1) list))
own_follows c p id list i e lt is h come f n =
    let next : next_of c (acts_of id (take i list)) ≡ Some e.step.action = next_is c (acts_of id (take i list)) ∙ ap (next_at c) (sym come.is) ∙ n in
    rw (own_more id list i e lt is h) (follows_push c [] (acts_of id (take i list)) (act_of e) f next)

pub other_follows : (c : Call) (id : ℕ) (list : List Placed) (i : ℕ) (e : Placed) → i < length list → e ≡ get_or list i e → e.call ≢ id → Follows c [] (acts_of id (take i list)) → Follows c [] (acts_of id (take (i + 1) list))
other_follows c id list i e lt is h f = rw (other_more id list i e lt is h) f

pub all_follow : (c : Call) (id : ℕ) (list : List Placed) (i : ℕ) → length list ≤ i → Follows c [] (acts_of id (take i list)) → Follows c [] (acts_of id list)
all_follow c id list i le f = rw (take_all i list le) at f

cut_at : (es : List Placed) (i : ℕ) (e : Placed) → i < length es → e ≡ get_or es i e → es ≡ take i es ++ e ∷ drop (suc i) es
cut_at es i e lt is = sym (take-append-drop i es) ∙ ap (λ xs. take i es ++ xs) (drop-cons es i e lt ∙ ap (λ x. x ∷ drop (suc i) es) (sym is))

pub next_follows : (c : Call) (p : Progress) (id : ℕ) (list : List Placed) (i : ℕ) (e : Placed) → i < length list → e ≡ get_or list i e → e.call ≡ id → HasCome p id list i → Follows c [] (acts_of id list) → next_at c p ≡ Some e.step.action
next_follows c p id list i e lt is h come f =
    let rest : List Placed = drop (suc i) list in
    let cut : acts_of id list ≡ acts_of id (take i list) ++ act_of e ∷ acts_of id rest = ap (acts_of id) (cut_at list i e lt is) ∙ acts_append id (take i list) (e ∷ rest) ∙ ap (λ xs. acts_of id (take i list) ++ xs) (acts_own id e rest h) in
    let next : next_of c (acts_of id (take i list)) ≡ Some e.step.action = follows_at c [] (acts_of id (take i list)) (act_of e) (acts_of id rest) (subst (λ xs. Follows c [] xs) cut f) in
    ap (next_at c) come.is ∙ sym (next_is c (acts_of id (take i list))) ∙ next

nothing_decides : (x : Option Action) → Decides (is_nothing x) (x ≡ None)
nothing_decides None = (λ e. refl, λ e. refl)
nothing_decides (Some s) = (λ e. absurd cc, λ e. absurd cc)

-- the call goes on with no step
pub through_decides : (c : Call) (p : Progress) (acts : List Act) (r : Bool) → p ≡ progress_of acts → r ≡ is_nothing (next_at c p) → Decides r (next_of c acts ≡ None)
through_decides c p acts r e is =
    let next : next_of c acts ≡ next_at c p = next_is c acts ∙ ap (next_at c) (sym e) in
    let d : Decides (is_nothing (next_at c p)) (next_at c p ≡ None) = nothing_decides (next_at c p) in
    (λ t. next ∙ d.0 (sym is ∙ t), λ n. is ∙ d.1 (sym next ∙ n))
