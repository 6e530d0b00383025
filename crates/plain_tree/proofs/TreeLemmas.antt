-- A tree's data changed in one place, and what its functions then say.
use Rattle.plain_tree.proofs.Vocabulary.{◌^◌, ◌&&◌, nat_lt, Result, Ok, Err, MatchResult, ◌≡◌, ◌≢◌, ℕ, zero, suc, ◌+◌, ◌<◌, ◌≤◌, Bool, true, false, List, [], ◌∷◌, ◌++◌, length, take, get_or, ◌==◌, ◌⊎◌, inl, inr, refl, sym, ◌∙◌, ap, arith, Option, Some, None, replicate, get_or-set_other, get_or-set_same, fun_ext, set, get_or-eq_default, take_more, set-get_or, cases_eq, cases_Bool, nat_tests, Node, NodeKind, Directory, File, Device, OpenFile, OpenFileEntry, Hart, Hold, Advances, IsEntryOf, TreeData, Tree, tree_of, hart_at, resting, file_in, put, and_then, is_directory, live_directory, slots_of, at_node, node_or, node_at, with_nodes, moved}

pub eq_true : (n k : ℕ) → n ≡ k → (n == k) ≡ true
eq_true n k e = grind (arith, nat_tests)

pub eq_false : (n k : ℕ) → n ≢ k → (n == k) ≡ false
eq_false n k e = grind (arith, nat_tests)

pub put_same : {A : Type 0} (f : ℕ → A) (k : ℕ) (v : A) (n : ℕ) → n ≡ k → put f k v n ≡ v
unfolding put
put_same f k v n e = rw (eq_true n k e)

pub put_other : {A : Type 0} (f : ℕ → A) (k : ℕ) (v : A) (n : ℕ) → n ≢ k → put f k v n ≡ f n
unfolding put
put_other f k v n ne = rw (eq_false n k ne)

pub put_back : {A : Type 0} (f : ℕ → A) (k : ℕ) (v : A) → v ≡ f k → put f k v ≡ f
put_back f k v e = fun_ext (λ n. elim (cases_eq n k) [ inl i ↦ put_same f k v n i ∙ e ∙ ap f (sym i) | inr ne ↦ put_other f k v n ne ])

pub put_again : {A : Type 0} (f : ℕ → A) (k : ℕ) (v w : A) → put (put f k v) k w ≡ put f k w
put_again f k v w = fun_ext (λ n. elim (cases_eq n k) [ inl i ↦ put_same (put f k v) k w n i ∙ sym (put_same f k w n i) | inr ne ↦ put_other (put f k v) k w n ne ∙ (put_other f k v n ne ∙ sym (put_other f k w n ne)) ])

-- one place of a list is written
set_at : {A B : Type 0} (g : A → B) (xs : List A) (n : ℕ) (v : A) (d : A) → n < length xs → (k : ℕ) → g (get_or (set xs n v) k d) ≡ put (λ j. g (get_or xs j d)) n (g v) k
set_at {A} {B} g xs n v d h k =
    let f : ℕ → B = λ j. g (get_or xs j d) in
    elim (cases_eq k n) [
      | inl e ↦ (let F : ℕ → B = λ j. g (get_or (set xs n v) j d) in ap F e ∙ (ap g (get_or-set_same xs n v d h) ∙ sym (put_same f n (g v) k e)))
      | inr ne ↦ ap g (get_or-set_other xs n k v d ne) ∙ sym (put_other f n (g v) k ne)
    ]

pub set_put : {A B : Type 0} (g : A → B) (xs : List A) (n : ℕ) (v : A) (d : A) → n < length xs → let F : ℕ → B = λ k. g (get_or (set xs n v) k d) in F ≡ put (λ k. g (get_or xs k d)) n (g v)
set_put g xs n v d h = fun_ext (set_at g xs n v d h)

pub nodes_set : (d : TreeData) (n : ℕ) (v : Option Node) → n < length d.nodes → tree_of (record d { nodes = set d.nodes n v }) ≡ with_nodes (tree_of d) (put (tree_of d).nodes n v)
nodes_set d n v h = ap (λ (f : ℕ → Option Node). with_nodes (tree_of d) f) (set_put {A = Option Node} {B = Option Node} (λ x. x) d.nodes n v None h)

-- a table with more empty places says the same nodes
same_before : (ns : List (Option Node)) (n k : ℕ) → get_or (ns ++ replicate n None) k None ≡ get_or ns k None
same_before [] zero k = refl
same_before [] (suc n) zero = refl
same_before [] (suc n) (suc k) = same_before [] n k
same_before (v ∷ ns) n zero = refl
same_before (v ∷ ns) n (suc k) = same_before ns n k

pub nodes_grown : (d : TreeData) (ns : List (Option Node)) (n : ℕ) → ns ≡ d.nodes ++ replicate n None → tree_of (record d { nodes = ns }) ≡ tree_of d
nodes_grown d ns n is = ap (λ (f : ℕ → Option Node). with_nodes (tree_of d) f) (fun_ext (λ k. ap (λ (xs : List (Option Node)). get_or xs k None) is ∙ same_before d.nodes n k))

pub harts_set : (d : TreeData) (h : ℕ) (x : Hart) → h < length d.harts → tree_of (record d { harts = set d.harts h x }) ≡ record (tree_of d) { cwd = put (tree_of d).cwd h x.directory; fds = put (tree_of d).fds h (λ i. get_or x.descriptors i None); holds = put (tree_of d).holds h x.hold }
harts_set d h x lt =
    ap (λ (f : ℕ → ℕ). record (tree_of (record d { harts = set d.harts h x })) { cwd = f }) (set_put {A = Hart} {B = ℕ} (λ y. y.directory) d.harts h x resting lt)
    ∙ (ap (λ (f : ℕ → ℕ → Option ℕ). record (tree_of (record d { harts = set d.harts h x })) { cwd = put (tree_of d).cwd h x.directory; fds = f }) (set_put {A = Hart} {B = ℕ → Option ℕ} (λ y i. get_or y.descriptors i None) d.harts h x resting lt)
    ∙ ap (λ (f : ℕ → Option Hold). record (tree_of d) { cwd = put (tree_of d).cwd h x.directory; fds = put (tree_of d).fds h (λ i. get_or x.descriptors i None); holds = f }) (set_put {A = Hart} {B = Option Hold} (λ y. y.hold) d.harts h x resting lt))

-- an entry more at the end
pub file_first : (x : OpenFileEntry) (xs : List OpenFileEntry) (k : ℕ) → x.id ≡ k → file_in (x ∷ xs) k ≡ Some x.file
unfolding file_in
file_first x xs k e = rw (eq_true x.id k e)

pub file_later : (x : OpenFileEntry) (xs : List OpenFileEntry) (k : ℕ) → x.id ≢ k → file_in (x ∷ xs) k ≡ file_in xs k
unfolding file_in
file_later x xs k ne = rw (eq_false x.id k ne)

not_first : (x : OpenFileEntry) (xs : List OpenFileEntry) (k : ℕ) → file_in (x ∷ xs) k ≡ None → x.id ≢ k
not_first x xs k h e = absurd (let s : Some x.file ≡ None = sym (file_first x xs k e) ∙ h in cc)

pub file_added : (es : List OpenFileEntry) (e : OpenFileEntry) → file_in es e.id ≡ None → (k : ℕ) → file_in (es ++ e ∷ []) k ≡ put (λ j. file_in es j) e.id (Some e.file) k
file_added [] e h k = elim (cases_eq k e.id) [
  | inl i ↦ file_first e [] k (sym i) ∙ sym (put_same (λ j. file_in [] j) e.id (Some e.file) k i)
  | inr ne ↦ file_later e [] k (λ b. ne (sym b)) ∙ sym (put_other (λ j. file_in [] j) e.id (Some e.file) k ne)
]
file_added (x ∷ xs) e h k =
    let other : x.id ≢ e.id = not_first x xs e.id h in
    let rest : file_in (xs ++ e ∷ []) k ≡ put (λ j. file_in xs j) e.id (Some e.file) k = file_added xs e (sym (file_later x xs e.id other) ∙ h) k in
    elim (cases_eq k e.id) [
      | inl i ↦ file_later x (xs ++ e ∷ []) k (λ b. other (b ∙ i)) ∙ (rest ∙ (put_same (λ j. file_in xs j) e.id (Some e.file) k i ∙ sym (put_same (λ j. file_in (x ∷ xs) j) e.id (Some e.file) k i)))
      | inr ne ↦ elim (cases_eq x.id k) [
        | inl y ↦ file_first x (xs ++ e ∷ []) k y ∙ (sym (file_first x xs k y) ∙ sym (put_other (λ j. file_in (x ∷ xs) j) e.id (Some e.file) k ne))
        | inr nx ↦ file_later x (xs ++ e ∷ []) k nx ∙ (rest ∙ (put_other (λ j. file_in xs j) e.id (Some e.file) k ne ∙ (sym (file_later x xs k nx) ∙ sym (put_other (λ j. file_in (x ∷ xs) j) e.id (Some e.file) k ne))))
      ]
    ]

file_found : (es : List OpenFileEntry) (id i : ℕ) (d : OpenFileEntry) → i < length es → file_in (take i es) id ≡ None → (get_or es i d).id ≡ id → file_in es id ≡ Some (get_or es i d).file
file_found [] id i d lt h e = absurd (omega arith)
file_found (x ∷ xs) id zero d lt h e = file_first x xs id e
file_found (x ∷ xs) id (suc i) d lt h e =
    let other : x.id ≢ id = not_first x (take i xs) id h in
    file_later x xs id other ∙ file_found xs id i d (omega arith) (sym (file_later x (take i xs) id other) ∙ h) e

file_set : (es : List OpenFileEntry) (e : OpenFileEntry) (i : ℕ) (d : OpenFileEntry) → i < length es → file_in (take i es) e.id ≡ None → (get_or es i d).id ≡ e.id → (k : ℕ) → file_in (set es i e) k ≡ put (λ j. file_in es j) e.id (Some e.file) k
file_set [] e i d lt h s k = absurd (omega arith)
file_set (x ∷ xs) e zero d lt h s k = elim (cases_eq k e.id) [
  | inl i ↦ file_first e xs k (sym i) ∙ sym (put_same (λ j. file_in (x ∷ xs) j) e.id (Some e.file) k i)
  | inr ne ↦ file_later e xs k (λ b. ne (sym b)) ∙ (sym (file_later x xs k (λ b. ne (sym b ∙ s))) ∙ sym (put_other (λ j. file_in (x ∷ xs) j) e.id (Some e.file) k ne))
]
file_set (x ∷ xs) e (suc i) d lt h s k =
    let other : x.id ≢ e.id = not_first x (take i xs) e.id h in
    let rest : file_in (set xs i e) k ≡ put (λ j. file_in xs j) e.id (Some e.file) k = file_set xs e i d (omega arith) (sym (file_later x (take i xs) e.id other) ∙ h) s k in
    elim (cases_eq k e.id) [
      | inl y ↦ file_later x (set xs i e) k (λ b. other (b ∙ y)) ∙ (rest ∙ (put_same (λ j. file_in xs j) e.id (Some e.file) k y ∙ sym (put_same (λ j. file_in (x ∷ xs) j) e.id (Some e.file) k y)))
      | inr ne ↦ elim (cases_eq x.id k) [
        | inl y ↦ file_first x (set xs i e) k y ∙ (sym (file_first x xs k y) ∙ sym (put_other (λ j. file_in (x ∷ xs) j) e.id (Some e.file) k ne))
        | inr nx ↦ file_later x (set xs i e) k nx ∙ (rest ∙ (put_other (λ j. file_in xs j) e.id (Some e.file) k ne ∙ (sym (file_later x xs k nx) ∙ sym (put_other (λ j. file_in (x ∷ xs) j) e.id (Some e.file) k ne))))
      ]
    ]

pub none_more : (es : List OpenFileEntry) (e : OpenFileEntry) (k : ℕ) → file_in es k ≡ None → e.id ≢ k → file_in (es ++ e ∷ []) k ≡ None
none_more [] e k h ne = file_later e [] k ne ∙ h
none_more (x ∷ xs) e k h ne =
    let other : x.id ≢ k = not_first x xs k h in
    file_later x (xs ++ e ∷ []) k other ∙ none_more xs e k (sym (file_later x xs k other) ∙ h) ne

-- the offset of the entry at i is moved on
pub file_moved : (d : TreeData) (id i by offset : ℕ) (x : OpenFileEntry) → IsEntryOf d.files id i → x ≡ get_or d.files i x → offset ≡ x.file.offset + by → tree_of (record d { files = set d.files i (record { id = id; file = record x.file { offset = offset } }) }) ≡ moved (tree_of d) (Some id) by
file_moved d id i by offset x is xe o =
    let e : OpenFileEntry = record { id = id; file = record x.file { offset = offset } } in
    let was : file_in d.files id ≡ Some x.file = file_found d.files id i x is.below is.before (is.there x) ∙ ap (λ (y : OpenFileEntry). Some y.file) (sym xe) in
    let moves : and_then (file_in d.files id) (λ f. Some (record f { offset = f.offset + by })) ≡ Some e.file = rw (was, o) refl in
    ap (λ (g : ℕ → Option OpenFile). record (tree_of d) { files = g }) (fun_ext (file_set d.files e i x is.below is.before (is.there x)))
    ∙ ap (λ (v : Option OpenFile). record (tree_of d) { files = put (λ j. file_in d.files j) id v }) (sym moves)

pub file_stays : (d : TreeData) (id by : ℕ) → file_in d.files id ≡ None → tree_of d ≡ moved (tree_of d) (Some id) by
file_stays d id by h =
    let same : and_then (file_in d.files id) (λ f. Some (record f { offset = f.offset + by })) ≡ file_in d.files id = rw h refl in
    ap (λ (g : ℕ → Option OpenFile). record (tree_of d) { files = g }) (sym (put_back (λ j. file_in d.files j) id (and_then (file_in d.files id) (λ f. Some (record f { offset = f.offset + by }))) same))

pub none_next : (es : List OpenFileEntry) (i : ℕ) (d : OpenFileEntry) (k : ℕ) → i < length es → file_in (take i es) k ≡ None → (get_or es i d).id ≢ k → file_in (take (i + 1) es) k ≡ None
none_next es i d k lt h ne = rw (take_more es i d lt) (none_more (take i es) (get_or es i d) k h ne)

-- a node that was taken out is put back changed
pub set_again : (t t1 t2 : Tree) (n : ℕ) (v w : Option Node) → t1 ≡ with_nodes t (put t.nodes n w) → t2 ≡ with_nodes t1 (put t1.nodes n v) → t2 ≡ with_nodes t (put t.nodes n v)
set_again t t1 t2 n v w a b =
    b ∙ (ap (λ (x : Tree). with_nodes x (put x.nodes n v)) a ∙ ap (λ (f : ℕ → Option Node). with_nodes t f) (put_again t.nodes n w v))

-- t1: without the node, t2: with the changed one
pub changed : (t t1 t2 : Tree) (n : ℕ) (f : Node → Node) (x w : Node) → t1 ≡ with_nodes t (put t.nodes n None) → t2 ≡ with_nodes t1 (put t1.nodes n (Some w)) → x ≡ node_at t n → w ≡ f x → t2 ≡ at_node t n f
changed t t1 t2 n f x w a b is e = set_again t t1 t2 n (Some w) None a b ∙ ap (λ (y : Node). with_nodes t (put t.nodes n (Some y))) (e ∙ ap f is)

pub stays : (t : Tree) (n : ℕ) (w : Node) → t.nodes n ≡ Some w → t ≡ with_nodes t (put t.nodes n (Some w))
stays t n w h = ap (λ (f : ℕ → Option Node). with_nodes t f) (sym (put_back t.nodes n (Some w) (sym h)))

pub set_twice : {A : Type 0} (xs : List A) (n : ℕ) (a b : A) → set (set xs n a) n b ≡ set xs n b
set_twice [] n a b = refl
set_twice (x ∷ xs) zero a b = refl
set_twice (x ∷ xs) (suc n) a b = ap (λ ys. x ∷ ys) (set_twice xs n a b)

set_own : {A : Type 0} (xs : List A) (n : ℕ) (v d : A) → get_or xs n d ≡ v → set xs n v ≡ xs
set_own xs n v d h = ap (λ y. set xs n y) (sym h) ∙ set-get_or xs n d

-- the node that was taken out is put back
pub put_node_back : (d d1 d2 : TreeData) (n : ℕ) (v w : Option Node) → d1 ≡ record d { nodes = set d.nodes n v } → d2 ≡ record d1 { nodes = set d1.nodes n w } → get_or d.nodes n None ≡ w → d2 ≡ d
put_node_back d d1 d2 n v w a b h =
    b ∙ (ap (λ (x : TreeData). record x { nodes = set x.nodes n w }) a ∙ ap (λ (ns : List (Option Node)). record d { nodes = ns }) (set_twice d.nodes n v w ∙ set_own d.nodes n w None h))

not_and_false : (b : Bool) → (b && false) ≡ true → ⊥
not_and_false true h = absurd cc
not_and_false false h = absurd cc

live_kind : (k : ℕ) (kd : NodeKind) → (nat_lt 0 k && is_directory kd) ≡ true → kd ≡ Directory (slots_of kd)
live_kind k (Directory ss) h = refl
live_kind k (File bs) h = absurd (not_and_false (nat_lt 0 k) h)
live_kind k (Device x y z) h = absurd (not_and_false (nat_lt 0 k) h)

pub live_is : (v : Option Node) → live_directory v ≡ true → v ≡ Some (record { count = (node_or v).count; kind = Directory (slots_of (node_or v).kind) })
live_is None h = absurd cc
live_is (Some v) h = ap (λ (kd : NodeKind). Some (record v { kind = kd })) (live_kind v.count v.kind h)

cases_le : (m n : ℕ) → (m ≤ n) ⊎ (n < m)
cases_le m n = elim (cases_Bool (nat_lt n m)) [ inl y ↦ inr (grind (arith, nat_tests)) | inr y ↦ inl (grind (arith, nat_tests)) ]

pub live_below : (d : TreeData) (n : ℕ) → live_directory (get_or d.nodes n None) ≡ true → n < length d.nodes
live_below d n h = elim (cases_le (length d.nodes) n) [
  | inl le ↦ absurd (let e : false ≡ true = sym (ap live_directory (get_or-eq_default d.nodes None le)) ∙ h in cc)
  | inr lt ↦ lt
]

pub on_result : {E : Type 0} {A B A' B' : Type 0} (r : Result (Unit {0}) E) → (A → A') → (B → B') → MatchResult r (λ _. A) (λ _. B) → MatchResult r (λ _. A') (λ _. B')
on_result (Ok x) f g h = f h
on_result (Err e) f g h = g h

-- a hart's own parts are put in their place unchanged
cwd_back : (d : TreeData) (h : ℕ) (x : Hart) → x ≡ hart_at d h → put (tree_of d).cwd h x.directory ≡ (tree_of d).cwd
cwd_back d h x e = put_back (tree_of d).cwd h x.directory (ap (λ (y : Hart). y.directory) e)

fds_back : (d : TreeData) (h : ℕ) (x : Hart) → x ≡ hart_at d h → put (tree_of d).fds h (λ i. get_or x.descriptors i None) ≡ (tree_of d).fds
fds_back d h x e = put_back (tree_of d).fds h (λ i. get_or x.descriptors i None) (ap {B = ℕ → Option ℕ} (λ y i. get_or y.descriptors i None) e)

holds_back : (d : TreeData) (h : ℕ) (o : Option Hold) → o ≡ (tree_of d).holds h → put (tree_of d).holds h o ≡ (tree_of d).holds
holds_back d h o e = put_back (tree_of d).holds h o e

abbrev pub hart_put : TreeData → ℕ → Hart → Tree
hart_put d h x = record (tree_of d) { cwd = put (tree_of d).cwd h x.directory; fds = put (tree_of d).fds h (λ i. get_or x.descriptors i None); holds = put (tree_of d).holds h x.hold }

pub directory_set : (d : TreeData) (t : Tree) (h n : ℕ) (x : Hart) → x ≡ hart_at d h → t ≡ hart_put d h (record x { directory = n }) → t ≡ record (tree_of d) { cwd = put (tree_of d).cwd h n }
directory_set d t h n x e is =
    is ∙ (ap (λ (f : ℕ → ℕ → Option ℕ). record (tree_of d) { cwd = put (tree_of d).cwd h n; fds = f; holds = put (tree_of d).holds h x.hold }) (fds_back d h x e)
    ∙ ap (λ (f : ℕ → Option Hold). record (tree_of d) { cwd = put (tree_of d).cwd h n; holds = f }) (holds_back d h x.hold (ap (λ (y : Hart). y.hold) e)))

pub hold_set : (d : TreeData) (t : Tree) (h : ℕ) (o : Option Hold) (x : Hart) → x ≡ hart_at d h → t ≡ hart_put d h (record x { hold = o }) → t ≡ record (tree_of d) { holds = put (tree_of d).holds h o }
hold_set d t h o x e is =
    is ∙ (ap (λ (f : ℕ → ℕ → Option ℕ). record (tree_of d) { cwd = put (tree_of d).cwd h x.directory; fds = f; holds = put (tree_of d).holds h o }) (fds_back d h x e)
    ∙ ap (λ (f : ℕ → ℕ). record (tree_of d) { cwd = f; holds = put (tree_of d).holds h o }) (cwd_back d h x e))

pub descriptor_set : (d : TreeData) (t : Tree) (h fd : ℕ) (id : Option ℕ) (x : Hart) → fd < length x.descriptors → x ≡ hart_at d h → t ≡ hart_put d h (record x { descriptors = set x.descriptors fd id }) → t ≡ record (tree_of d) { fds = put (tree_of d).fds h (put ((tree_of d).fds h) fd id) }
descriptor_set d t h fd id x lt e is =
    is ∙ (ap (λ (f : ℕ → ℕ). record (hart_put d h (record x { descriptors = set x.descriptors fd id })) { cwd = f }) (cwd_back d h x e)
    ∙ (ap (λ (f : ℕ → Option Hold). record (tree_of d) { fds = put (tree_of d).fds h (λ i. get_or (set x.descriptors fd id) i None); holds = f }) (holds_back d h x.hold (ap (λ (y : Hart). y.hold) e))
    ∙ (ap (λ (f : ℕ → Option ℕ). record (tree_of d) { fds = put (tree_of d).fds h f }) (set_put {A = Option ℕ} {B = Option ℕ} (λ y. y) x.descriptors fd id None lt)
    ∙ ap (λ (y : Hart). record (tree_of d) { fds = put (tree_of d).fds h (put (λ i. get_or y.descriptors i None) fd id) }) e)))

pub inherited : (d : TreeData) (t : Tree) (h c : ℕ) (x : Hart) (o : Option Hold) → x ≡ hart_at d h → o ≡ (tree_of d).holds c → t ≡ hart_put d c (record x { hold = o }) → t ≡ record (tree_of d) { fds = put (tree_of d).fds c ((tree_of d).fds h); cwd = put (tree_of d).cwd c ((tree_of d).cwd h) }
inherited d t h c x o e oe is =
    is ∙ (ap (λ (f : ℕ → Option Hold). record (hart_put d c (record x { hold = o })) { holds = f }) (holds_back d c o oe)
    ∙ ap (λ (y : Hart). record (tree_of d) { cwd = put (tree_of d).cwd c y.directory; fds = put (tree_of d).fds c (λ i. get_or y.descriptors i None) }) e)

pub advances : (d : TreeData) (id i by : ℕ) (x : OpenFileEntry) → Advances (tree_of d) (Some id) by → IsEntryOf d.files id i → x ≡ get_or d.files i x → x.file.offset + by < 2 ^ 64
advances d id i by x h is xe = h x.file (file_found d.files id i x is.below is.before (is.there x) ∙ ap (λ (y : OpenFileEntry). Some y.file) (sym xe))
