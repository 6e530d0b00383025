-- What a step makes of a tree, from its parts.
use Rattle.plain_tree.proofs.Vocabulary.{◌≡◌, Version, ◌≢◌, ℕ, ◌+◌, ◌-◌, ◌^◌, ◌<◌, Bool, true, false, ◌||◌, not, nat_lt, List, inl, inr, refl, sym, ◌∙◌, ap, subst, Option, Some, None, if◌then◌else◌, arith, fun_ext, cases_Bool, nat_tests, TooManyLinks, Node, Directory, OpenFile, Hold, OpenFileEntry, Dup, Close, Inherit, StepAnswer, Name, Tree, file_in, is_directory, live_directory, look, put, slots_of, at_hold, at_node, bump_refusal, cleared, emptied, lowered, raise_hold, raised, read_refusal, removed, removed_child, truncated, mkdir_refusal, name_taken, or_else, fd_refusal, file_at, has, has_room, is_nothing, lowest, node_or, node_at, place_of, read_write, refusal_with, with_file, with_nodes, write_only, Advances, EndsWithin, HasFiles, read_count}
use Rattle.plain_tree.proofs.TreeLemmas.{put_same, put_other}

pub given_file : (t t1 t2 : Tree) (ns : ℕ → Option Node) (h id n flags : ℕ) (es : List OpenFileEntry) → t1 ≡ with_nodes t ns → has_room (t.fds h) ≡ true
    → HasFiles es (put t.files id (Some (record { number = n; offset = 0; readable = not (has flags write_only); writable = has flags write_only || has flags read_write })))
    → t2 ≡ record t1 { files = λ k. file_in es k; fds = put t1.fds h (put (t1.fds h) (lowest (t1.fds h)) (Some id)) }
    → t2 ≡ with_file (with_nodes t ns) h id n flags
given_file t t1 t2 ns h id n flags es a room f b =
    b ∙ (ap (λ (x : Tree). record x { files = λ k. file_in es k; fds = put x.fds h (put (x.fds h) (lowest (x.fds h)) (Some id)) }) a
    ∙ (ap (λ (g : ℕ → Option OpenFile). record (with_nodes t ns) { files = g; fds = put t.fds h (put (t.fds h) (lowest (t.fds h)) (Some id)) }) (fun_ext f)
    ∙ rw room refl))

pub not_given : (t t1 : Tree) (ns : ℕ → Option Node) (h id n flags : ℕ) → t1 ≡ with_nodes t ns → has_room (t.fds h) ≡ false → t1 ≡ with_file (with_nodes t ns) h id n flags
not_given t t1 ns h id n flags a room = a ∙ rw room refl

pub not_same : (t : Tree) (d n : ℕ) → live_directory (t.nodes d) ≡ true → t.nodes n ≡ None → d ≢ n
not_same t d n live none e = absurd (let u : false ≡ true = sym (ap live_directory none) ∙ (sym (ap (λ (k : ℕ). live_directory (t.nodes k)) e) ∙ live) in cc)

pub count_kept : (t t1 : Tree) (d n : ℕ) (v w : Node) → t1 ≡ with_nodes t (put (put t.nodes d (Some v)) n (Some w)) → d ≢ n → (node_at t1 d).count ≡ v.count
count_kept t t1 d n v w e ne =
    ap (λ (x : Tree). (node_at x d).count) e
    ∙ ap (λ (o : Option Node). (node_or o).count) (put_other (put t.nodes d (Some v)) n (Some w) d ne ∙ put_same t.nodes d (Some v) d refl)

pub few_still : (t t1 : Tree) (d n k : ℕ) (v w : Node) → t1 ≡ with_nodes t (put (put t.nodes d (Some v)) n (Some w)) → live_directory (t.nodes d) ≡ true → t.nodes n ≡ None → k ≡ d → v.count < 32767 → (node_at t1 k).count < 32767
few_still t t1 d n k v w e live none is few =
    let same : (node_at t1 k).count ≡ v.count = ap (λ (j : ℕ). (node_at t1 j).count) is ∙ count_kept t t1 d n v w e (not_same t d n live none) in
    omega arith

pub dup_room : (v : Version) (t : Tree) (h fd : ℕ) (res : Option ℕ) (par : Option (ℕ × Name)) → refusal_with v t h (Dup fd) res par ≡ None → place_of t h (Dup fd) ≡ true → has_room (t.fds h) ≡ true
unfolding refusal_with place_of
dup_room v t h fd res par none place = room (file_at t h fd) none place where
  room : (f : Option OpenFile) → fd_refusal f ≡ None → (is_nothing f || has_room (t.fds h)) ≡ true → has_room (t.fds h) ≡ true
  room None none place = absurd cc
  room (Some f) none place = place

pub close_below : (v : Version) (t : Tree) (h fd : ℕ) (res : Option ℕ) (par : Option (ℕ × Name)) → refusal_with v t h (Close fd) res par ≡ None → fd < 16
unfolding refusal_with
close_below v t h fd res par none = elim (cases_Bool (nat_lt fd 16)) [
  | inl y ↦ grind (arith, nat_tests)
  | inr y ↦ absurd (let x = rw y at none in cc)
]

pub child_below : (t : Tree) (h child : ℕ) → place_of t h (Inherit child) ≡ true → child < 8
unfolding place_of
child_below t h child place = elim (cases_Bool (nat_lt child 8)) [
  | inl y ↦ grind (arith, nat_tests)
  | inr y ↦ absurd (let x = rw y at place in cc)
]

-- a directory that isn't refused has room for a link
pub mkdir_few : (t : Tree) (d : ℕ) (e : Name) → mkdir_refusal t (Some (d, e)) ≡ None → (node_at t d).count < 32767
mkdir_few t d e none = go (look t.nodes d e) none
  where
    go : (r : Option ℕ) → or_else (name_taken r) (if nat_lt (node_at t d).count 32767 then None else Some TooManyLinks) ≡ None → (node_at t d).count < 32767
    go (Some n) h = absurd cc
    go None h = elim (cases_Bool (nat_lt (node_at t d).count 32767)) [
      | inl y ↦ grind (arith, nat_tests)
      | inr y ↦ absurd (let x = rw y at h in cc)
    ]

-- A node is changed after the table has grown to its place. t1: the grown tree.
pub changed_far : (g : Node → Node) (t t1 t2 : Tree) (n k : ℕ) → t1 ≡ t → t2 ≡ at_node t1 n g → n ≡ k → t2 ≡ at_node t k g
changed_far g t t1 t2 n k a b c = b ∙ (ap (λ (x : Tree). at_node x n g) a ∙ ap (λ (j : ℕ). at_node t j g) c)

pub emptied_far : (t t1 t2 : Tree) (n : ℕ) (f : OpenFile) (o : Option OpenFile) → t1 ≡ t → t2 ≡ at_node t1 n (λ v. record v { kind = emptied v.kind }) → n ≡ f.number → Some f ≡ o → t2 ≡ truncated t o
emptied_far t t1 t2 n f o a b c e = subst (λ (p : Option OpenFile). t2 ≡ truncated t p) e (changed_far (λ v. record v { kind = emptied v.kind }) t t1 t2 n f.number a b c)

pub held_far : (g : Node → Node) (t t1 t2 : Tree) (n : ℕ) (x : Hold) (o : Option Hold) → t1 ≡ t → t2 ≡ at_node t1 n g → n ≡ x.number → Some x ≡ o → t2 ≡ at_hold t o g
held_far g t t1 t2 n x o a b c e = subst (λ (p : Option Hold). t2 ≡ at_hold t p g) e (changed_far g t t1 t2 n x.number a b c)

pub few_far : (t t1 : Tree) (n : ℕ) (x : Hold) (o : Option Hold) → t1 ≡ t → n ≡ x.number → Some x ≡ o → bump_refusal t o ≡ None → (node_at t1 n).count < 32767
few_far t t1 n x o a c e none =
    let h : bump_refusal t (Some x) ≡ None = subst (λ (p : Option Hold). bump_refusal t p ≡ None) (sym e) none in
    let same : (node_at t1 n).count ≡ (node_at t x.number).count = ap (λ (y : Tree). (node_at y n).count) a ∙ ap (λ (j : ℕ). (node_at t j).count) c in
    elim (cases_Bool (nat_lt (node_at t x.number).count 32767)) [
      | inl y ↦ grind (arith, nat_tests)
      | inr y ↦ absurd (let z = rw y at h in cc)
    ]

pub raised_far : (t t1 t2 t3 : Tree) (h n : ℕ) (x : Hold) (o : Option Hold) → t1 ≡ t → t2 ≡ at_node t1 n raised → t3 ≡ record t2 { holds = put t2.holds h (Some (record { number = x.number; raised = true })) } → n ≡ x.number → Some x ≡ o
    → t3 ≡ record (at_hold t o raised) { holds = put t.holds h (raise_hold o) }
raised_far t t1 t2 t3 h n x o a b b' c e =
    subst (λ (p : Option Hold). t3 ≡ record (at_hold t p raised) { holds = put t.holds h (raise_hold p) }) e
    (b' ∙ ap (λ (y : Tree). record y { holds = put y.holds h (Some (record { number = x.number; raised = true })) }) (changed_far raised t t1 t2 n x.number a b c))

-- the directory without the name; its count is one lower if the name was a directory's
abbrev pub without_name : Name → Bool → Node → Node
without_name e lowers v = record v { kind = Directory (cleared (slots_of v.kind) e); count = if lowers then v.count - 1 else v.count }

pub removed_far : (t t1 t2 t3 : Tree) (d j n k : ℕ) (e : Name) (lowers : Bool) → t1 ≡ t → lowers ≡ is_directory (node_at t1 n).kind → t2 ≡ at_node t1 j (without_name e lowers) → t3 ≡ at_node t2 k lowered → j ≡ d → k ≡ n → Some n ≡ look t.nodes d e
    → t3 ≡ removed t (Some (d, e))
removed_far t t1 t2 t3 d j n k e lowers a l b b' c c' found =
    let is : lowers ≡ is_directory (node_at t n).kind = l ∙ ap (λ (x : Tree). is_directory (node_at x n).kind) a in
    let cleared_so = changed_far (without_name e lowers) t t1 t2 j d a b c ∙ ap (λ (z : Bool). at_node t d (without_name e z)) is in
    subst (λ (p : Option ℕ). t3 ≡ removed_child t d e p) found (changed_far lowered (at_node t d (without_name e (is_directory (node_at t n).kind))) t2 t3 k n cleared_so b' c')

-- if nothing refuses the read, it ends at a u64
pub read_advances : (t : Tree) (h fd by : ℕ) (a : StepAnswer) → read_refusal t (file_at t h fd) ≡ None → EndsWithin (file_at t h fd) (read_count a) → by ≡ read_count a → Advances t (t.fds h fd) by
read_advances t h fd by a none within e f is = elim (cases_Bool (nat_lt fd 16)) [
  | inl y ↦
      let there : file_at t h fd ≡ Some f = rw y is in
      let ends : f.offset + read_count a < 2 ^ 64 = rw there at within in
      omega arith
  | inr y ↦ absurd (let z = rw y at none in cc)
]
