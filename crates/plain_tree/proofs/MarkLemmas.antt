-- Marks on the numbers that paths from the root lead to.
use Rattle.plain_tree.proofs.Vocabulary.{◌≡◌, ◌≢◌, ℕ, zero, suc, ◌+◌, ◌<◌, ◌≤◌, Bool, true, false, ◌&&◌, List, [], ◌∷◌, ◌++◌, length, get_or, ◌==◌, ◌⊎◌, inl, inr, refl, sym, ◌∙◌, ap, subst, arith, Option, Some, None, if◌then◌else◌, replicate, get_or-set_other, get_or-set_same, set, length-set, get_or-eq_default, cases_eq, cases_Bool, nat_tests, Node, Slot, TreeData, Name, Tree, tree_of, same_name, first_slot, look, follow, and_then, file_in, resting, IsReached, IsNamedPart, FindsMarked, IsClosed, IsNext, MarksReached, MarksAll, is_marked, at_rest, fresh_hart, Hart, root, hart_count, descriptor_count}

eq_of : (x y : ℕ) → (x == y) ≡ true → x ≡ y
eq_of x y h = grind (arith, nat_tests)

and_left : (a b : Bool) → (a && b) ≡ true → a ≡ true
and_left true b h = refl
and_left false b h = h

and_right : (a b : Bool) → (a && b) ≡ true → b ≡ true
and_right true b h = h
and_right false b h = absurd cc

more_same : (x y : ℕ) (xs ys : Name) → x ≡ y → xs ≡ ys → x ∷ xs ≡ y ∷ ys
more_same x y xs ys e f = cc

pub same_is : (a b : Name) → same_name a b ≡ true → a ≡ b
unfolding same_name
same_is [] [] h = refl
same_is [] (y ∷ ys) h = absurd cc
same_is (x ∷ xs) [] h = absurd cc
same_is (x ∷ xs) (y ∷ ys) h = more_same x y xs ys (eq_of x y (and_left (x == y) (same_name xs ys) h)) (same_is xs ys (and_right (x == y) (same_name xs ys) h))

-- if a name is found, a slot has it
pub record FoundAt (ss : List (Option Slot)) (e : Name) : Type 0 where
  pub k : ℕ
  pub slot : Slot
  pub below : k < length ss
  pub at : get_or ss k None ≡ Some slot
  pub name : slot.name ≡ e

later : (s : Option Slot) (ss : List (Option Slot)) (e : Name) → FoundAt ss e → FoundAt (s ∷ ss) e
later s ss e f = record { k = suc f.k; slot = f.slot; below = omega (arith, f.below); at = f.at; name = f.name }

other_first : (s : Slot) (ss : List (Option Slot)) (e : Name) → same_name s.name e ≡ false → first_slot (Some s ∷ ss) e ≡ first_slot ss e
unfolding first_slot
other_first s ss e h = rw h refl

none_first : (ss : List (Option Slot)) (e : Name) → first_slot (None ∷ ss) e ≡ first_slot ss e
unfolding first_slot
none_first ss e = refl

empty_first : (e : Name) → first_slot [] e ≡ None
unfolding first_slot
empty_first e = refl

pub found_at : (ss : List (Option Slot)) (e : Name) (n : ℕ) → first_slot ss e ≡ Some n → FoundAt ss e
found_at [] e n h = absurd (let x : None ≡ Some n = sym (empty_first e) ∙ h in cc)
found_at (None ∷ ss) e n h = later None ss e (found_at ss e n (sym (none_first ss e) ∙ h))
found_at (Some s ∷ ss) e n h = elim (cases_Bool (same_name s.name e)) [
  | inl y ↦ record { k = 0; slot = s; below = omega arith; at = refl; name = same_is s.name e y }
  | inr y ↦ later (Some s) ss e (found_at ss e n (sym (other_first s ss e y) ∙ h))
]

pub all_found : (ss : List (Option Slot)) (marks : List Bool) → ((k : ℕ) (s : Slot) (n : ℕ) → k < length ss → get_or ss k None ≡ Some s → first_slot ss s.name ≡ Some n → is_marked marks n ≡ true) → FindsMarked ss marks
all_found ss marks all e n h =
    let f : FoundAt ss e = found_at ss e n h in
    all f.k f.slot n f.below f.at (ap (λ x. first_slot ss x) f.name ∙ h)

-- how many are not marked
unfoldable pub unmarked : List Bool → ℕ
unmarked [] = 0
unmarked (true ∷ bs) = unmarked bs
unmarked (false ∷ bs) = suc (unmarked bs)

pub fewer : (marks : List Bool) (n : ℕ) → n < length marks → get_or marks n true ≡ false → unmarked (set marks n true) < unmarked marks
unfolding unmarked
fewer [] n lt h = absurd (omega arith)
fewer (true ∷ bs) zero lt h = absurd cc
fewer (false ∷ bs) zero lt h = omega arith
fewer (true ∷ bs) (suc n) lt h = fewer bs n (omega arith) h
fewer (false ∷ bs) (suc n) lt h = omega (arith, fewer bs n (omega arith) h)

through : (r : Option ℕ) (f g : ℕ → Option ℕ) (m n : ℕ) → ((k : ℕ) → f k ≡ Some m → g k ≡ Some n) → and_then r f ≡ Some m → and_then r g ≡ Some n
through None f g m n all h = absurd cc
through (Some k) f g m n all h = all k h

-- a path more at its end
follow_more : (ns : ℕ → Option Node) (d m n : ℕ) (es : List Name) (e : Name) → follow ns d es ≡ Some m → look ns m e ≡ Some n → follow ns d (es ++ e ∷ []) ≡ Some n
unfolding follow
follow_more ns d m n [] e h l =
    let same : d ≡ m = cc in
    rw (same, l) refl
follow_more ns d m n (x ∷ es) e h l = through (look ns d x) (λ k. follow ns k es) (λ k. follow ns k (es ++ e ∷ [])) m n (λ k h'. follow_more ns k m n es e h' l) h

pub reached_more : (t : Tree) (m n : ℕ) (e : Name) → IsReached t m → look t.nodes m e ≡ Some n → IsReached t n
reached_more t m n e r l = (r.0 ++ e ∷ [], follow_more t.nodes root m n r.0 e r.1 l)

pub root_reached : (t : Tree) → IsReached t root
unfolding follow
root_reached t = ([], refl)

pub look_none : (ns : ℕ → Option Node) (d : ℕ) (e : Name) → ns d ≡ None → look ns d e ≡ None
unfolding look
look_none ns d e h = rw h refl

pub at_none : (d : TreeData) (n : ℕ) → length d.nodes ≤ n → (tree_of d).nodes n ≡ None
at_none d n h = get_or-eq_default d.nodes None h

cases_lt : (k n : ℕ) → (k < n) ⊎ (n ≤ k)
cases_lt k n = elim (cases_eq k n) [ inl e ↦ inr (omega arith) | inr ne ↦ omega_lt k n ne ] where
  omega_lt : (k n : ℕ) → k ≢ n → (k < n) ⊎ (n ≤ k)
  omega_lt zero zero ne = inr (omega arith)
  omega_lt zero (suc n) ne = inl (omega arith)
  omega_lt (suc k) zero ne = inr (omega arith)
  omega_lt (suc k) (suc n) ne = elim (omega_lt k n (λ e. ne (ap suc e))) [ inl h ↦ inl (omega arith) | inr h ↦ inr (omega arith) ]

past : (r : Option ℕ) (f : ℕ → Option ℕ) (n : ℕ) (P : Type 0) → ((j : ℕ) → r ≡ Some j → f j ≡ Some n → P) → and_then r f ≡ Some n → P
past None f n P all h = absurd cc
past (Some j) f n P all h = all j refl h

look_marked : (d : TreeData) (marks : List Bool) → length marks ≡ length d.nodes → IsClosed (tree_of d) marks → (k : ℕ) (e : Name) (j : ℕ) → is_marked marks k ≡ true → look (tree_of d).nodes k e ≡ Some j → is_marked marks j ≡ true
look_marked d marks size closed k e j m l = elim (cases_lt k (length marks)) [
  | inl lt ↦ closed k lt m e j l
  | inr ge ↦ absurd (let x : None ≡ Some j = sym (look_none (tree_of d).nodes k e (at_none d k (omega (arith, size, ge)))) ∙ l in cc)
]

-- if the marks are closed, whatever a path leads to from a marked number is marked
all_followed : (d : TreeData) (marks : List Bool) → length marks ≡ length d.nodes → IsClosed (tree_of d) marks → (k : ℕ) (es : List Name) (n : ℕ) → is_marked marks k ≡ true → follow (tree_of d).nodes k es ≡ Some n → is_marked marks n ≡ true
unfolding follow
all_followed d marks size closed k [] n m h =
    let same : k ≡ n = cc in
    ap (λ x. is_marked marks x) (sym same) ∙ m
all_followed d marks size closed k (e ∷ es) n m h =
    past (look (tree_of d).nodes k e) (λ j. follow (tree_of d).nodes j es) n (is_marked marks n ≡ true) (λ j l h'. all_followed d marks size closed j es n (look_marked d marks size closed k e j m l) h') h

pub marks_all : (d : TreeData) (marks : List Bool) → MarksReached d marks → IsClosed (tree_of d) marks → MarksAll d marks
marks_all d marks r closed = record {
  size = r.size;
  reached = r.reached;
  all = λ n p. all_followed d marks r.size closed root p.0 n r.start p.1;
}

set_same : (marks : List Bool) (n : ℕ) → is_marked (set marks n true) n ≡ true
set_same marks n = elim (cases_lt n (length marks)) [
  | inl lt ↦ get_or-set_same marks n true true lt
  | inr ge ↦ get_or-eq_default (set marks n true) true (omega (arith, length-set marks n true))
]

kept_marked : (marks : List Bool) (n k : ℕ) → is_marked marks k ≡ true → is_marked (set marks n true) k ≡ true
kept_marked marks n k h = elim (cases_eq k n) [
  | inl e ↦ ap (λ x. is_marked (set marks n true) x) e ∙ set_same marks n
  | inr ne ↦ get_or-set_other marks n k true true ne ∙ h
]

pub marks_more : (d : TreeData) (marks : List Bool) (n : ℕ) → MarksReached d marks → IsReached (tree_of d) n → MarksReached d (set marks n true)
marks_more d marks n r p = record {
  size = length-set marks n true ∙ r.size;
  reached = λ k lt h. elim (cases_eq k n) [
    | inl e ↦ subst (λ (x : ℕ). IsReached (tree_of d) x) (sym e) p
    | inr ne ↦ r.reached k (omega (arith, length-set marks n true, lt)) (sym (get_or-set_other marks n k true true ne) ∙ h)
  ];
  start = kept_marked marks n root r.start;
}

pub next_reached : (d : TreeData) (marks : List Bool) (n : ℕ) → MarksReached d marks → IsNext (tree_of d) marks n → IsReached (tree_of d) n
next_reached d marks n r x = reached_more (tree_of d) x.directory n x.new.name (r.reached x.directory x.within x.marked) x.new.finds

unmarked_at : (count n : ℕ) → n < count → get_or (replicate count false) n true ≡ false
unmarked_at zero n h = absurd (omega arith)
unmarked_at (suc count) zero h = refl
unmarked_at (suc count) (suc n) h = unmarked_at count n (omega arith)

length_same : (count : ℕ) → length (replicate count false) ≡ count
length_same zero = refl
length_same (suc count) = ap suc (length_same count)

none_reached : (t : Tree) (count n : ℕ) → n < length (replicate count false) → is_marked (replicate count false) n ≡ true → IsReached t n
none_reached t count n lt h = absurd (let x : true ≡ false = sym h ∙ unmarked_at count n (omega (arith, length_same count, lt)) in cc)

-- marks with the root alone, if it is in range
pub first_marks : (d : TreeData) (marks : List Bool) → marks ≡ set (replicate (length d.nodes) false) root true → MarksReached d marks
first_marks d marks e = subst (λ (m : List Bool). MarksReached d m) (sym e) (record {
  size = length-set (replicate (length d.nodes) false) root true ∙ length_same (length d.nodes);
  reached = λ k lt h. elim (cases_eq k root) [
    | inl e ↦ subst (λ (x : ℕ). IsReached (tree_of d) x) (sym e) (root_reached (tree_of d))
    | inr ne ↦ none_reached (tree_of d) (length d.nodes) k (omega (arith, length-set (replicate (length d.nodes) false) root true, lt)) (sym (get_or-set_other (replicate (length d.nodes) false) root k true true ne) ∙ h)
  ];
  start = set_same (replicate (length d.nodes) false) root;
})

pub no_root : (d : TreeData) (marks : List Bool) → marks ≡ replicate (length d.nodes) false → length marks ≤ root → MarksReached d marks
no_root d marks e le = record {
  size = ap length e ∙ length_same (length d.nodes);
  reached = λ k lt h. none_reached (tree_of d) (length d.nodes) k (subst (λ (m : List Bool). k < length m) e lt) (ap (λ m. is_marked m k) (sym e) ∙ h);
  start = get_or-eq_default marks true le;
}

pub next_fewer : (t : Tree) (marks seen : List Bool) (n m : ℕ) → seen ≡ marks → m ≡ n → IsNext t seen n → unmarked (set marks m true) < unmarked marks
next_fewer t marks seen n m e f x = subst (λ (k : ℕ). unmarked (set marks k true) < unmarked marks) (sym f) (subst (λ (s : List Bool). unmarked (set s n true) < unmarked s) e (fewer seen n x.new.below x.new.unmarked))

pub next_marks : (d : TreeData) (marks seen : List Bool) (n m : ℕ) → seen ≡ marks → m ≡ n → MarksReached d marks → IsNext (tree_of d) seen n → MarksReached d (set marks m true)
next_marks d marks seen n m e f r x =
    let y : IsNext (tree_of d) marks n = subst (λ (s : List Bool). IsNext (tree_of d) s n) e x in
    subst (λ (k : ℕ). MarksReached d (set marks k true)) (sym f) (marks_more d marks n r (next_reached d marks n r y))

pub closed_all : (d : TreeData) (marks seen : List Bool) → seen ≡ marks → MarksReached d marks → IsClosed (tree_of d) seen → MarksAll d marks
closed_all d marks seen e r closed = marks_all d marks r (subst (λ (s : List Bool). IsClosed (tree_of d) s) e closed)

pub first_marked : (d : TreeData) (marks none : List Bool) (count r : ℕ) → marks ≡ set none r true → none ≡ replicate count false → count ≡ length d.nodes → r ≡ root → MarksReached d marks
first_marked d marks none count r a b c e = first_marks d marks (rw (a, b, c, e) refl)

pub none_marked : (d : TreeData) (marks none : List Bool) (count r n : ℕ) → marks ≡ none → none ≡ replicate count false → count ≡ length d.nodes → r ≡ root → n ≡ length none → n ≤ r → MarksReached d marks
none_marked d marks none count r n a b c e f le = no_root d marks (rw (a, b, c) refl) (rw a (omega arith))

get_or_last : (xs : List (Option Node)) (v : Option Node) (n : ℕ) → length xs ≡ n → get_or (xs ++ v ∷ []) n None ≡ v
get_or_last [] v zero h = refl
get_or_last [] v (suc n) h = absurd (omega arith)
get_or_last (x ∷ xs) v zero h = absurd (omega arith)
get_or_last (x ∷ xs) v (suc n) h = get_or_last xs v n (omega arith)

get_or_front : (xs : List (Option Node)) (v : Option Node) (k : ℕ) → k < length xs → get_or (xs ++ v ∷ []) k None ≡ get_or xs k None
get_or_front [] v k h = absurd (omega arith)
get_or_front (x ∷ xs) v zero h = refl
get_or_front (x ∷ xs) v (suc k) h = get_or_front xs v k (omega arith)

hart_of : (P : Hart → Type 0) (n h : ℕ) → P fresh_hart → P resting → P (get_or (replicate n fresh_hart) h resting)
hart_of P zero h p q = q
hart_of P (suc n) zero p q = p
hart_of P (suc n) (suc h) p q = hart_of P n h p q

none_of : (n i : ℕ) → get_or {A = Option ℕ} (replicate n None) i None ≡ None
none_of zero i = refl
none_of (suc n) zero = refl
none_of (suc n) (suc i) = none_of n i

-- what is copied
abbrev pub part_at : Tree → List Bool → ℕ → Option Node
part_at t marks n = if is_marked marks n then t.nodes n else None

copied_in : (d : TreeData) (marks : List Bool) (n : ℕ) → is_marked marks n ≡ true → part_at (tree_of d) marks n ≡ (tree_of d).nodes n
copied_in d marks n h = rw h refl

none_either : (b : Bool) (v : Option Node) → v ≡ None → (if b then v else None) ≡ None
none_either true v e = e
none_either false v e = refl

pub named_part : (d : TreeData) (marks : List Bool) (nodes : List (Option Node)) (named : TreeData) → named ≡ record (at_rest nodes) { ninodes = d.ninodes } → MarksAll d marks → length nodes ≡ length marks → ((k : ℕ) → k < length marks → get_or nodes k None ≡ part_at (tree_of d) marks k) → IsNamedPart (tree_of d) (tree_of named)
unfolding file_in
named_part d marks nodes named is m size each = subst (λ (x : TreeData). IsNamedPart (tree_of d) (tree_of x)) (sym is) (record {
  ninodes = refl;
  reached = λ n p. elim (cases_lt n (length marks)) [
    | inl lt ↦ each n lt ∙ copied_in d marks n (m.all n p)
    | inr ge ↦ get_or-eq_default nodes None (omega (arith, size, ge)) ∙ sym (at_none d n (omega (arith, m.size, ge)))
  ];
  others = λ n no. elim (cases_lt n (length marks)) [
    | inl lt ↦ each n lt ∙ elim (cases_Bool (is_marked marks n)) [
      | inl y ↦ absurd (no (m.reached n lt y))
      | inr y ↦ rw y refl
    ]
    | inr ge ↦ get_or-eq_default nodes None (omega (arith, size, ge))
  ];
  files = λ id. refl;
  fds = λ h i. hart_of (λ x. get_or x.descriptors i None ≡ None) hart_count h (none_of descriptor_count i) refl;
  holds = λ h. hart_of (λ x. x.hold ≡ None) hart_count h refl refl;
  cwd = λ h. hart_of (λ x. x.directory ≡ root) hart_count h refl refl;
})

pub part_more : (t : Tree) (marks : List Bool) (nodes more : List (Option Node)) (n : ℕ) (v : Option Node) → more ≡ nodes ++ v ∷ [] → length nodes ≡ n → ((k : ℕ) → k < n → get_or nodes k None ≡ part_at t marks k) → v ≡ part_at t marks n → (k : ℕ) → k < n + 1 → get_or more k None ≡ part_at t marks k
part_more t marks nodes more n v is size each e k lt = rw is (elim (cases_eq k n) [
  | inl i ↦ rw i (get_or_last nodes v n size ∙ e)
  | inr ne ↦ get_or_front nodes v k (omega arith) ∙ each k (omega arith)
])

pub named_copy : (d : TreeData) (marks seen : List Bool) (n : ℕ) (nodes : List (Option Node)) (named : TreeData) → named ≡ record (at_rest nodes) { ninodes = d.ninodes } → seen ≡ marks → MarksAll d marks → n ≡ length seen → (length nodes ≡ n) × ((k : ℕ) → k < n → get_or nodes k None ≡ part_at (tree_of d) seen k) → IsNamedPart (tree_of d) (tree_of named)
named_copy d marks seen n nodes named is e m size x = named_part d seen nodes named is (subst (λ (s : List Bool). MarksAll d s) (sym e) m) (x.0 ∙ size) (λ k lt. x.1 k (omega (arith, size, lt)))
