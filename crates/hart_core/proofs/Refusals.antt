-- What is wrong with a call, as its start finds it and as the calls have it.
use Rattle.hart_core.proofs.Vocabulary.{◌≡◌, ◌≢◌, ◌≤◌, ◌<◌, ℕ, zero, suc, Bool, true, false, ◌&&◌, ◌||◌, ◌==◌, nat_lt, List, [], ◌∷◌, length, Option, Some, None, refl, sym, ◌∙◌, ap, get_or, arith, if◌then◌else◌, nat_tests, list_any, hart_count, Call, Open, Read, Write, Link, Unlink, Mkdir, Chdir, Dup, Fstat, Close, Inherit, or_else, path_limit, has_zero, are_bytes, first_wrong, path_wrong, asks_wrong, SharedState, serves, has_file, StartRefused, Busy, NoSuchHart, NotEmptyHart, PathTooLong, ZeroInPath, TooLong, HartsOf, busy_in, children_in, shared_of, longest_part, longest_path, path_fault, part_fault, fault_of, is_child, child_refusal, others_refusal, refusal_of, reason_of, IsOfBytes}
use Rattle.std.specs.Prelude.{All}
use Rattle.inode_machine.specs.Exec.{is_nothing}
use Rattle.inode_machine.specs.Theory as calls
use Rattle.calls_on_blocks.specs.Theory as served

-- in the words of the calls
abbrev pub reason_for : Option StartRefused → Option calls.Refusal
reason_for None = None
reason_for (Some why) = Some (reason_of why)

any_zero : (path : List ℕ) → list_any (λ b. b == 0) path ≡ has_zero path
any_zero [] = refl
any_zero (b ∷ bs) = ap (λ (z : Bool). (b == 0) || z) (any_zero bs)

path_same : (path : List ℕ) → reason_for (path_fault path) ≡ served.path_fault path
path_same path = by (nat_lt path_limit (length path)) (list_any (λ b. b == 0) path) (has_zero path) (any_zero path)
  where
    by : (long seen' seen : Bool) → seen' ≡ seen
        → reason_for (if long then Some PathTooLong else (if seen' then Some ZeroInPath else None)) ≡ (if long then Some calls.PathTooLong else (if seen then Some calls.ZeroInPath else None))
    by true seen' seen e = refl
    by false true true e = refl
    by false true false e = absurd cc
    by false false true e = absurd cc
    by false false false e = refl

part_same : (bytes : List ℕ) → reason_for (part_fault bytes) ≡ asks_wrong (length bytes)
part_same bytes = by (nat_lt 524288 (length bytes))
  where
    by : (b : Bool) → reason_for (if b then Some TooLong else None) ≡ (if b then Some calls.TooLong else None)
    by true = refl
    by false = refl

or_same : (f g : Option StartRefused) → reason_for (or_else f g) ≡ or_else (reason_for f) (reason_for g)
or_same None g = refl
or_same (Some why) g = refl

fault_same : (call : Call) → reason_for (fault_of call) ≡ served.fault_of call
fault_same (Open path flags) = path_same path
fault_same (Read fd buffer) = part_same buffer
fault_same (Write fd bytes) = part_same bytes
fault_same (Link old new) = or_same (path_fault old) (path_fault new) ∙ (λ i. or_else (path_same old i) (path_same new i))
fault_same (Unlink path) = path_same path
fault_same (Mkdir path) = path_same path
fault_same (Chdir path) = path_same path
fault_same (Dup fd) = refl
fault_same (Fstat fd) = refl
fault_same (Close fd) = refl
fault_same (Inherit child) = refl

-- ---- a call without a fault is served: nothing else is asked of it

covered_path : (path : List ℕ) → path_fault path ≡ None → are_bytes path ≡ true → is_nothing (path_wrong path) ≡ true
covered_path path right bytes = by (nat_lt path_limit (length path)) (list_any (λ b. b == 0) path) (has_zero path) (any_zero path) (are_bytes path) right bytes
  where
    by : (long seen' seen : Bool) → seen' ≡ seen → (b : Bool) → (if long then Some PathTooLong else (if seen' then Some ZeroInPath else None)) ≡ None → b ≡ true
        → is_nothing (if long then Some calls.PathTooLong else (if seen then Some calls.ZeroInPath else (if b then None else Some calls.NotCovered))) ≡ true
    by true seen' seen e b r q = absurd cc
    by false true seen e b r q = absurd cc
    by false false true e b r q = absurd cc
    by false false false e true r q = refl
    by false false false e false r q = absurd cc

-- and of two paths
pub right_paths : (old new : List ℕ) → or_else (path_fault old) (path_fault new) ≡ None → (path_fault old ≡ None) × (path_fault new ≡ None)
right_paths old new right = by (path_fault old) (path_fault new) right
  where
    by : (f g : Option StartRefused) → or_else f g ≡ None → (f ≡ None) × (g ≡ None)
    by None g e = (refl, e)
    by (Some why) g e = absurd cc

covered_paths : (old new : List ℕ) → or_else (path_fault old) (path_fault new) ≡ None → (are_bytes old ≡ true) × (are_bytes new ≡ true) → is_nothing (first_wrong (path_wrong old) (path_wrong new)) ≡ true
covered_paths old new right bytes =
    let both = right_paths old new right in
    nothing_of (path_wrong old) (path_wrong new) (covered_path old both.0 bytes.0) (covered_path new both.1 bytes.1)
  where
    nothing_of : (o r : Option calls.Refusal) → is_nothing o ≡ true → is_nothing r ≡ true → is_nothing (first_wrong o r) ≡ true
    nothing_of None r a b = b
    nothing_of (Some why) r a b = absurd cc

covered_part : (bytes : List ℕ) → part_fault bytes ≡ None → is_nothing (asks_wrong (length bytes)) ≡ true
covered_part bytes right = ap (λ (o : Option calls.Refusal). is_nothing o) (sym (part_same bytes) ∙ ap reason_for right)

serves_right : (call : Call) → fault_of call ≡ None → IsOfBytes call → serves call ≡ true
serves_right (Open path flags) right bytes = λ i. covered_path path right bytes i && true
serves_right (Read fd buffer) right bytes = λ i. covered_part buffer right i && true
serves_right (Write fd bytes') right bytes = λ i. covered_part bytes' right i && bytes i
serves_right (Link old new) right bytes = λ i. covered_paths old new right bytes i && true
serves_right (Unlink path) right bytes = λ i. covered_path path right bytes i && true
serves_right (Mkdir path) right bytes = λ i. covered_path path right bytes i && true
serves_right (Chdir path) right bytes = λ i. covered_path path right bytes i && true
serves_right (Dup fd) right bytes = refl
serves_right (Fstat fd) right bytes = refl
serves_right (Close fd) right bytes = refl
serves_right (Inherit child) right bytes = refl

pub refusal_same : (call : Call) → (fault_of call ≡ None → IsOfBytes call) → reason_for (fault_of call) ≡ served.refusal_for call
refusal_same call bytes = by (fault_of call) refl
  where
    served_if : Bool → Option calls.Refusal
    served_if b = if b then None else Some calls.NotCovered

    by : (f : Option StartRefused) → fault_of call ≡ f → reason_for f ≡ served.refusal_for call
    by None e = ap served_if (sym (serves_right call e (bytes e))) ∙ ap (λ (f : Option calls.Refusal). or_else f (served_if (serves call))) (ap reason_for (sym e) ∙ fault_same call)
    by (Some why) e = ap (λ (f : Option calls.Refusal). or_else f (served_if (serves call))) (ap reason_for (sym e) ∙ fault_same call)

-- nothing is wrong with a call that may be started
pub may_start : {D : Type 0} (w : HartsOf D) (h : ℕ) (call : Call) → refusal_of w h call ≡ None → fault_of call ≡ None
may_start w h call e = by (nat_lt h hart_count) (busy_in w.calls h || is_child w h) (fault_of call) e
  where
    by : (hart taken : Bool) (o : Option StartRefused) → (if hart then (if taken then Some Busy else or_else o (others_refusal w h call)) else Some NoSuchHart) ≡ None → o ≡ None
    by true false None e = refl
    by true false (Some why) e = absurd cc
    by true true o e = absurd cc
    by false taken o e = absurd cc

-- ---- what the other harts do

module _ {D : Type 0} (contents : D → List (List ℕ)) (failures : D → ℕ) (w : HartsOf D) where
  -- as the calls have it
  abbrev pub now : SharedState
  now = record { state = shared_of contents failures w; children = children_in w.children }

  child_same : (h child : ℕ) → reason_for (child_refusal w h child) ≡ served.child_refusal h child (busy_in w.calls) now
  child_same h child = by (nat_lt child hart_count) ((child == h) || (busy_in w.calls child || is_child w child)) (has_file child w.core.tables)
    where
      by : (below taken full : Bool) → reason_for (if below then (if taken then Some Busy else (if full then Some NotEmptyHart else None)) else Some NoSuchHart)
          ≡ (if below then (if taken then Some calls.Busy else (if full then Some calls.NotEmptyHart else None)) else Some calls.NoSuchHart)
      by true true full = refl
      by true false true = refl
      by true false false = refl
      by false taken full = refl

  others_same : (h : ℕ) (call : Call) → reason_for (others_refusal w h call) ≡ served.others_refusal h call (busy_in w.calls) now
  others_same h (Open path flags) = refl
  others_same h (Read fd buffer) = refl
  others_same h (Write fd bytes) = refl
  others_same h (Link old new) = refl
  others_same h (Unlink path) = refl
  others_same h (Mkdir path) = refl
  others_same h (Chdir path) = refl
  others_same h (Dup fd) = refl
  others_same h (Fstat fd) = refl
  others_same h (Close fd) = refl
  others_same h (Inherit child) = child_same h child

  -- the call's own cause, and then that
  pub reasons_same : (h : ℕ) (call : Call) → (fault_of call ≡ None → IsOfBytes call) → reason_for (or_else (fault_of call) (others_refusal w h call)) ≡ or_else (served.refusal_for call) (served.others_refusal h call (busy_in w.calls) now)
  reasons_same h call bytes = or_same (fault_of call) (others_refusal w h call) ∙ (λ i. or_else (refusal_same call bytes i) (others_same h call i))

-- a path is short and has no zero byte
none_zero : (b : ℕ) (bs : List ℕ) → list_any (λ b. b == 0) (b ∷ bs) ≡ false → (b ≢ 0) × (list_any (λ b. b == 0) bs ≡ false)
none_zero b bs q = by (b == 0) refl q
  where
    by : (z : Bool) → (b == 0) ≡ z → (z || list_any (λ b. b == 0) bs) ≡ false → (b ≢ 0) × (list_any (λ b. b == 0) bs ≡ false)
    by true r q = absurd cc
    by false r q = ((λ is. absurd (let a : (b == 0) ≡ true = ap (λ (k : ℕ). k == 0) is in cc (a, r))), q)

nonzero : (bs : List ℕ) → list_any (λ b. b == 0) bs ≡ false → All (λ b. b ≢ 0) bs
nonzero [] q k d lt = absurd (omega (arith, lt))
nonzero (b ∷ bs) q zero d lt = (none_zero b bs q).0
nonzero (b ∷ bs) q (suc k) d lt = nonzero bs (none_zero b bs q).1 k d (omega (arith, lt))

pub right_path : (path : List ℕ) → path_fault path ≡ None → (length path ≤ longest_path) × All (λ b. b ≢ 0) path
right_path path e = by (nat_lt longest_path (length path)) refl (list_any (λ b. b == 0) path) refl e
  where
    by : (long : Bool) → nat_lt longest_path (length path) ≡ long → (seen : Bool) → list_any (λ b. b == 0) path ≡ seen → (if long then Some PathTooLong else (if seen then Some ZeroInPath else None)) ≡ None → (length path ≤ longest_path) × All (λ b. b ≢ 0) path
    by true l seen z e = absurd cc
    by false l true z e = absurd cc
    by false l false z e = (grind (arith, nat_tests), nonzero path z)

-- no more is asked for than may be
pub right_part : (bytes : List ℕ) → part_fault bytes ≡ None → length bytes ≤ longest_part
right_part bytes e = by (nat_lt longest_part (length bytes)) refl e
  where
    by : (long : Bool) → nat_lt longest_part (length bytes) ≡ long → (if long then Some TooLong else None) ≡ None → length bytes ≤ longest_part
    by true l e = absurd cc
    by false l e = grind (arith, nat_tests)

-- every item of a list of bytes is one
pub bytes_below : (path : List ℕ) → ((k : ℕ) → get_or path k 0 < 256) → are_bytes path ≡ true
bytes_below [] below = refl
bytes_below (b ∷ bs) below = λ i. first (below 0) i && bytes_below bs (λ k. below (suc k)) i
  where
    first : b < 256 → nat_lt b 256 ≡ true
    first lt = grind (arith, nat_tests)
