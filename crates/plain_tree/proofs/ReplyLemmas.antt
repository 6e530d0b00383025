-- What a list has of a call, entry after entry, and the reply that it makes.
use Rattle.plain_tree.proofs.Vocabulary.{◌≡◌, ◌≢◌, ℕ, ◌+◌, ◌<◌, ◌≤◌, Bool, true, false, List, [], ◌∷◌, length, drop, get_or, ◌==◌, refl, sym, ◌∙◌, ap, arith, Some, None, drop_all, nat_tests, Cause, Action, StepAnswer, Opened, Bytes, Status, NewFd, Done, Failed, NoRoom, Placed, Act, cause_of, first_cause, had_room, is_full, act_of, acts_of}
use Rattle.plain_tree.proofs.CheckLemmas.{drop_at}

same_number : (x y : ℕ) → x ≡ y → (x == y) ≡ true
same_number x y e = grind (arith, nat_tests)

other_number : (x y : ℕ) → x ≢ y → (x == y) ≡ false
other_number x y ne = grind (arith, nat_tests)

acts_of_own : (id : ℕ) (e : Placed) (es : List Placed) → e.call ≡ id → acts_of id (e ∷ es) ≡ act_of e ∷ acts_of id es
unfolding acts_of
acts_of_own id e es same = rw (same_number e.call id same) refl

acts_of_other : (id : ℕ) (e : Placed) (es : List Placed) → e.call ≢ id → acts_of id (e ∷ es) ≡ acts_of id es
unfolding acts_of
acts_of_other id e es ne = rw (other_number e.call id ne) refl

acts_of_none : (id : ℕ) → acts_of id [] ≡ []
unfolding acts_of
acts_of_none id = refl

-- the entry at i is the call's
pub acts_own : (id : ℕ) (es : List Placed) (i : ℕ) (e : Placed) → i < length es → e ≡ get_or es i e → e.call ≡ id → acts_of id (drop i es) ≡ act_of e ∷ acts_of id (drop (i + 1) es)
acts_own id es i e lt is same = ap (λ x. acts_of id x) (drop_at es i e lt is) ∙ acts_of_own id e (drop (i + 1) es) same

-- it is another's
pub acts_other : (id : ℕ) (es : List Placed) (i : ℕ) (e : Placed) → i < length es → e ≡ get_or es i e → e.call ≢ id → acts_of id (drop i es) ≡ acts_of id (drop (i + 1) es)
acts_other id es i e lt is ne = ap (λ x. acts_of id x) (drop_at es i e lt is) ∙ acts_of_other id e (drop (i + 1) es) ne

pub acts_end : (id : ℕ) (es : List Placed) (i : ℕ) → length es ≤ i → acts_of id (drop i es) ≡ []
acts_end id es i le = ap (λ x. acts_of id x) (drop_all i es le) ∙ acts_of_none id

-- Room.

room_full : (s : Action) (r : StepAnswer) (acts : List Act) → is_full r ≡ true → had_room (record { step = s; answer = r } ∷ acts) ≡ false
unfolding had_room
room_full s (NoRoom f) acts h = refl
room_full s (Opened fd id f) acts h = absurd cc
room_full s (Bytes b) acts h = absurd cc
room_full s (Status t) acts h = absurd cc
room_full s (NewFd fd) acts h = absurd cc
room_full s Done acts h = absurd cc
room_full s (Failed k) acts h = absurd cc

room_other : (s : Action) (r : StepAnswer) (acts : List Act) → is_full r ≡ false → had_room (record { step = s; answer = r } ∷ acts) ≡ had_room acts
unfolding had_room
room_other s (NoRoom f) acts h = absurd cc
room_other s (Opened fd id f) acts h = refl
room_other s (Bytes b) acts h = refl
room_other s (Status t) acts h = refl
room_other s (NewFd fd) acts h = refl
room_other s Done acts h = refl
room_other s (Failed k) acts h = refl

room_none : had_room [] ≡ true
unfolding had_room
room_none = refl

pub no_room : (id : ℕ) (es : List Placed) (i : ℕ) (e : Placed) (b : Bool) → i < length es → e ≡ get_or es i e → e.call ≡ id → b ≡ is_full e.answer → b ≡ true → had_room (acts_of id (drop i es)) ≡ had_room (acts_of id es) → false ≡ had_room (acts_of id es)
no_room id es i e b lt is same f h inv = sym (ap had_room (acts_own id es i e lt is same) ∙ room_full e.step.action e.answer (acts_of id (drop (i + 1) es)) (sym f ∙ h)) ∙ inv

pub room_own : (id : ℕ) (es : List Placed) (i : ℕ) (e : Placed) (b : Bool) → i < length es → e ≡ get_or es i e → e.call ≡ id → b ≡ is_full e.answer → b ≡ false → had_room (acts_of id (drop i es)) ≡ had_room (acts_of id es) → had_room (acts_of id (drop (i + 1) es)) ≡ had_room (acts_of id es)
room_own id es i e b lt is same f h inv = sym (ap had_room (acts_own id es i e lt is same) ∙ room_other e.step.action e.answer (acts_of id (drop (i + 1) es)) (sym f ∙ h)) ∙ inv

pub room_end : (id : ℕ) (es : List Placed) (i : ℕ) → length es ≤ i → had_room (acts_of id (drop i es)) ≡ had_room (acts_of id es) → true ≡ had_room (acts_of id es)
room_end id es i le inv = sym (ap had_room (acts_end id es i le) ∙ room_none) ∙ inv

-- The first cause.

cause_first : (s : Action) (r : StepAnswer) (acts : List Act) (k : Cause) → cause_of r ≡ Some k → first_cause (record { step = s; answer = r } ∷ acts) ≡ Some k
unfolding first_cause
cause_first s r acts k h = rw (h, first_cause) refl

cause_later : (s : Action) (r : StepAnswer) (acts : List Act) → cause_of r ≡ None → first_cause (record { step = s; answer = r } ∷ acts) ≡ first_cause acts
unfolding first_cause
cause_later s r acts h = rw (h, first_cause) refl

cause_none : first_cause [] ≡ None
unfolding first_cause
cause_none = refl

pub cause_own : (id : ℕ) (es : List Placed) (i : ℕ) (e : Placed) (k : Cause) → i < length es → e ≡ get_or es i e → e.call ≡ id → Some k ≡ cause_of e.answer → first_cause (acts_of id (drop i es)) ≡ first_cause (acts_of id es) → Some k ≡ first_cause (acts_of id es)
cause_own id es i e k lt is same h inv = sym (ap first_cause (acts_own id es i e lt is same) ∙ cause_first e.step.action e.answer (acts_of id (drop (i + 1) es)) k (sym h)) ∙ inv

pub cause_on : (id : ℕ) (es : List Placed) (i : ℕ) (e : Placed) → i < length es → e ≡ get_or es i e → e.call ≡ id → None ≡ cause_of e.answer → first_cause (acts_of id (drop i es)) ≡ first_cause (acts_of id es) → first_cause (acts_of id (drop (i + 1) es)) ≡ first_cause (acts_of id es)
cause_on id es i e lt is same h inv = sym (ap first_cause (acts_own id es i e lt is same) ∙ cause_later e.step.action e.answer (acts_of id (drop (i + 1) es)) (sym h)) ∙ inv

pub cause_end : (id : ℕ) (es : List Placed) (i : ℕ) → length es ≤ i → first_cause (acts_of id (drop i es)) ≡ first_cause (acts_of id es) → None ≡ first_cause (acts_of id es)
cause_end id es i le inv = sym (ap first_cause (acts_end id es i le) ∙ cause_none) ∙ inv
