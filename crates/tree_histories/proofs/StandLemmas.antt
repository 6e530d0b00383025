-- How far a call has come, by its steps.
use Rattle.tree_histories.proofs.Vocabulary.{◌≡◌, ◌≢◌, ℕ, ◌+◌, Bool, true, false, nat_lt, List, [], ◌∷◌, ◌++◌, length, ◌==◌, refl, sym, ◌∙◌, ap, not, inl, inr, arith, Option, Some, None, if◌then◌else◌, append-nil, cases_Bool, nat_tests, Cause, Call, Open, Read, Write, Link, Unlink, Mkdir, Chdir, Dup, Fstat, Close, Inherit, Action, Bump as BumpStep, Enter as EnterStep, Unbump as UnbumpStep, WritePart as WritePartStep, StepAnswer, Opened, Bytes, Status, NewFd, Done, Failed, NoRoom, Placed, act_of, acts_of, has, empty_it, is_nothing, next_where, Act, cause_of, first_cause, if_done, if_failed, last_cause, next_link, next_of, next_open, next_piece, once, piece, piece_count, to_truncate, Stand, after, first_of, link_from, next_from, open_from, opened_file, stand_from, stand_of, start, truncate_from, was_done, was_failed, write_from}
pub use Rattle.plain_tree.proofs.ProgressLemmas.{acts_append, acts_other}

pub equal_not : (m n : ℕ) → m ≢ n → (m == n) ≡ false
equal_not m n ne = grind (arith, nat_tests)

pub equal_is : (m n : ℕ) → m ≡ n → (m == n) ≡ true
equal_is m n e = grind (arith, nat_tests)

-- What a list has of a call.

pub acts_own : (id : ℕ) (e : Placed) (es : List Placed) → e.call ≡ id → acts_of id (e ∷ es) ≡ act_of e ∷ acts_of id es
unfolding acts_of
acts_own id e es h = rw (equal_is e.call id h) refl

pub acts_none : (id : ℕ) → acts_of id [] ≡ []
unfolding acts_of
acts_none id = refl

pub push_own : (id : ℕ) (es : List Placed) (e : Placed) → e.call ≡ id → acts_of id (es ++ e ∷ []) ≡ acts_of id es ++ act_of e ∷ []
push_own id es e h = rw (acts_append id es (e ∷ []), acts_own id e [] h, acts_none id) refl

pub push_other : (id : ℕ) (es : List Placed) (e : Placed) → e.call ≢ id → acts_of id (es ++ e ∷ []) ≡ acts_of id es
push_other id es e h = rw (acts_append id es (e ∷ []), acts_other id e [] h, acts_none id) (append-nil (acts_of id es))

-- How far it has come.

pub stand_push : (s : Stand) (acts : List Act) (a : Act) → stand_from s (acts ++ a ∷ []) ≡ after (stand_from s acts) a.answer
unfolding stand_from
stand_push s [] a = refl
stand_push s (b ∷ bs) a = stand_push (after s b.answer) bs a

pub stand_count : (s : Stand) (acts : List Act) → (stand_from s acts).count ≡ s.count + length acts
unfolding stand_from
stand_count s [] = omega arith
stand_count s (b ∷ bs) = let h : (stand_from (after s b.answer) bs).count ≡ (s.count + 1) + length bs = stand_count (after s b.answer) bs in omega arith

first_assoc : (i j k : Option Cause) → first_of (first_of i j) k ≡ first_of i (first_of j k)
first_assoc None j k = refl
first_assoc (Some x) j k = refl

first_none : (k : Option Cause) → k ≡ first_of k None
first_none None = refl
first_none (Some x) = refl

cause_here : (b : Act) (bs : List Act) → first_cause (b ∷ bs) ≡ first_of (cause_of b.answer) (first_cause bs)
unfolding first_cause
cause_here b bs = go (cause_of b.answer) refl where
  go : (k : Option Cause) → cause_of b.answer ≡ k → first_cause (b ∷ bs) ≡ first_of (cause_of b.answer) (first_cause bs)
  go None e = rw (e, first_cause) refl
  go (Some k) e = rw (e, first_cause) refl

pub stand_cause : (s : Stand) (acts : List Act) → (stand_from s acts).cause ≡ first_of s.cause (first_cause acts)
unfolding stand_from first_cause
stand_cause s [] = first_none s.cause
stand_cause s (b ∷ bs) = stand_cause (after s b.answer) bs ∙ (first_assoc s.cause (cause_of b.answer) (first_cause bs) ∙ ap (λ k. first_of s.cause k) (sym (cause_here b bs)))

failed_of : (x : StepAnswer) → is_nothing (cause_of x) ≡ not (was_failed x)
failed_of (Failed k) = refl
failed_of Done = refl
failed_of (Opened fd id f) = refl
failed_of (Bytes b) = refl
failed_of (Status t) = refl
failed_of (NewFd fd) = refl
failed_of (NoRoom f) = refl

stand_failed : (s : Stand) (a : Act) (acts : List Act) → is_nothing (last_cause (a ∷ acts)) ≡ not (stand_from s (a ∷ acts)).failed
unfolding stand_from last_cause
stand_failed s a [] = failed_of a.answer
stand_failed s a (b ∷ bs) = stand_failed (after s a.answer) b bs

-- What comes next.

once_is : (s : Action) (acts : List Act) → once s acts ≡ (if (stand_of acts).count == 0 then Some s else None)
unfolding stand_from
once_is s [] = refl
once_is s (a ∷ acts) =
    let n : (stand_from (after start a.answer) acts).count ≡ 1 + length acts = stand_count (after start a.answer) acts in
    rw (equal_not (stand_from (after start a.answer) acts).count 0 (λ e. omega arith)) refl

truncate_is : (flags : ℕ) (x : StepAnswer) → to_truncate flags x ≡ truncate_from flags (opened_file x)
truncate_is flags (Opened fd id true) = elim (cases_Bool (has flags empty_it)) [ inl y ↦ rw y refl | inr y ↦ rw y refl ]
truncate_is flags (Opened fd id false) = elim (cases_Bool (has flags empty_it)) [ inl y ↦ rw y refl | inr y ↦ rw y refl ]
truncate_is flags (Bytes b) = refl
truncate_is flags (Status s) = refl
truncate_is flags (NewFd fd) = refl
truncate_is flags Done = refl
truncate_is flags (Failed k) = refl
truncate_is flags (NoRoom f) = refl

open_is : (path : List ℕ) (flags : ℕ) (acts : List Act) → next_open path flags acts ≡ open_from path flags (stand_of acts)
unfolding stand_from
open_is path flags [] = refl
open_is path flags (a ∷ []) = truncate_is flags a.answer
open_is path flags (a ∷ b ∷ bs) =
    let s : Stand = stand_from (after (after start a.answer) b.answer) bs in
    let n : s.count ≡ 2 + length bs = stand_count (after (after start a.answer) b.answer) bs in
    rw (equal_not s.count 0 (λ e. omega arith), equal_not s.count 1 (λ e. omega arith)) refl

done_is : (x : StepAnswer) (s : Action) → if_done x s ≡ next_where (was_done x) s
done_is Done s = refl
done_is (Opened fd id f) s = refl
done_is (Bytes b) s = refl
done_is (Status t) s = refl
done_is (NewFd fd) s = refl
done_is (Failed k) s = refl
done_is (NoRoom f) s = refl

failed_is : (x : StepAnswer) (s : Action) → if_failed x s ≡ next_where (was_failed x) s
failed_is (Failed k) s = refl
failed_is Done s = refl
failed_is (Opened fd id f) s = refl
failed_is (Bytes b) s = refl
failed_is (Status t) s = refl
failed_is (NewFd fd) s = refl
failed_is (NoRoom f) s = refl

link_is : (old new : List ℕ) (acts : List Act) → next_link old new acts ≡ link_from old new (stand_of acts)
unfolding stand_from
link_is old new [] = refl
link_is old new (a ∷ []) = done_is a.answer BumpStep
link_is old new (a ∷ b ∷ []) = done_is b.answer (EnterStep new)
link_is old new (a ∷ b ∷ c ∷ []) = failed_is c.answer UnbumpStep
link_is old new (a ∷ b ∷ c ∷ d ∷ ds) =
    let before : Stand = after (after (after (after start a.answer) b.answer) c.answer) d.answer in
    let s : Stand = stand_from before ds in
    let n : s.count ≡ 4 + length ds = stand_count before ds in
    rw (equal_not s.count 0 (λ e. omega arith), equal_not s.count 1 (λ e. omega arith), equal_not s.count 2 (λ e. omega arith), equal_not s.count 3 (λ e. omega arith)) refl

piece_is : (fd : ℕ) (bytes : List ℕ) (acts : List Act) (k : Option Cause) (failed : Bool) (n : ℕ) → is_nothing k ≡ not failed → n ≡ length acts → next_piece fd bytes acts k ≡ (if failed then None else if nat_lt n (piece_count bytes) then Some (WritePartStep fd (piece bytes n)) else None)
piece_is fd bytes acts (Some k) true n h e = refl
piece_is fd bytes acts (Some k) false n h e = absurd cc
piece_is fd bytes acts None true n h e = absurd cc
piece_is fd bytes acts None false n h e = rw e refl

write_is : (fd : ℕ) (bytes : List ℕ) (acts : List Act) → next_piece fd bytes acts (last_cause acts) ≡ write_from fd bytes (stand_of acts)
unfolding stand_from last_cause
write_is fd bytes [] = refl
write_is fd bytes (a ∷ acts) = piece_is fd bytes (a ∷ acts) (last_cause (a ∷ acts)) (stand_from start (a ∷ acts)).failed (stand_from start (a ∷ acts)).count (stand_failed start a acts) (let h : (stand_from start (a ∷ acts)).count ≡ 0 + length (a ∷ acts) = stand_count start (a ∷ acts) in omega arith)

pub next_is : (c : Call) (acts : List Act) → next_of c acts ≡ next_from c (stand_of acts)
unfolding next_of
next_is (Open path flags) acts = open_is path flags acts
next_is (Read fd buffer) acts = once_is _ acts
next_is (Write fd bytes) acts = write_is fd bytes acts
next_is (Link old new) acts = link_is old new acts
next_is (Unlink path) acts = once_is _ acts
next_is (Mkdir path) acts = once_is _ acts
next_is (Chdir path) acts = once_is _ acts
next_is (Dup fd) acts = once_is _ acts
next_is (Fstat fd) acts = once_is _ acts
next_is (Close fd) acts = once_is _ acts
next_is (Inherit child) acts = once_is _ acts
