-- What descriptors, open files, holds and current directories may become.
use Rattle.tree_laws.proofs.Vocabulary.{◌≡◌, ◌≢◌, ℕ, ◌+◌, ◌<◌, true, false, ◌||◌, not, ◌==◌, ◌⊎◌, inl, inr, refl, sym, ◌∙◌, ap, subst, arith, Option, Some, None, nat_lt, if◌then◌else◌, nat_tests, Node, OpenFile, Hold, hart_count, descriptor_count, Tree, put, any_below, is_directory, and_then, node_or, node_at, file_at, has_room, lowest, with_file, moved, has_fd, closed, at_dir, has, write_only, read_write, folders_of, links_in, raised_at, raises, IsForest, IsThere, IsWellFormed}
use Rattle.tree_laws.proofs.Basics.{either, eq_self, put_is, put_same, put_other, any_at, everywhere, well_held, well_cwd, well_files, raises_put}

abbrev pub new_open : ℕ → ℕ → OpenFile
new_open n flags = record { number = n; offset = 0; readable = not (has flags write_only); writable = has flags write_only || has flags read_write }

-- what a map of maps has after one was put
put_at : (fds : ℕ → ℕ → Option ℕ) (h g i : ℕ) (w : ℕ → Option ℕ) → ((g ≡ h) × (put fds h w g i ≡ w i)) ⊎ ((g ≢ h) × (put fds h w g i ≡ fds g i))
put_at fds h g i w = elim (put_is fds h w g) [
  | inl p ↦ inl (p.0, ap (λ (f : ℕ → Option ℕ). f i) p.1)
  | inr p ↦ inr (p.0, ap (λ (f : ℕ → Option ℕ). f i) p.1)
]

-- what an old descriptor has
abbrev There : Tree → (ℕ → Option OpenFile) → ℕ → Type 0
There t files id = (f : OpenFile) × (files id ≡ Some f) × (v : Node) × (t.nodes f.number ≡ Some v)

there_old : (t : Tree) (files : ℕ → Option OpenFile) (h i id : ℕ) → IsWellFormed t → h < hart_count → i < descriptor_count → t.fds h i ≡ Some id → ((f : OpenFile) → t.files id ≡ Some f → files id ≡ Some f) → There t files id
there_old t files h i id k lh li is keeps = let o = k.descriptors h i id lh li is in (o.file, keeps o.file o.is, o.node, o.there)

pub well_opened : (t : Tree) (h id n flags : ℕ) (v : Node) → IsWellFormed t → t.nodes n ≡ Some v → (has_room (t.fds h) ≡ true → t.files id ≡ None) → IsWellFormed (with_file t h id n flags)
well_opened t h id n flags v k is unused = elim (either (has_room (t.fds h))) [
  | inr y ↦ rw y k
  | inl y ↦ rw y (well_files t (put t.files id (Some (new_open n flags))) (put t.fds h (put (t.fds h) (lowest (t.fds h)) (Some id))) k (λ g i j lg li q.
      let old : t.fds g i ≡ Some j → There t (put t.files id (Some (new_open n flags))) j = (λ e.
      there_old t (put t.files id (Some (new_open n flags))) g i j k lg li e (λ f fis.
      put_other t.files id (Some (new_open n flags)) j (λ r. absurd (let a : t.files j ≡ None = subst (λ (z : ℕ). t.files z ≡ None) (sym r) (unused y) in cc (a, fis))) ∙ fis)) in
      elim (put_at t.fds h g i (put (t.fds h) (lowest (t.fds h)) (Some id))) [
        | inr p ↦ old (sym p.1 ∙ q)
        | inl p ↦ elim (put_is (t.fds h) (lowest (t.fds h)) (Some id) i) [
          | inr r ↦ old (subst (λ (z : ℕ). t.fds z i ≡ Some j) (sym p.0) (sym r.1 ∙ (sym p.1 ∙ q)))
          | inl r ↦
              let e : Some id ≡ Some j = sym r.1 ∙ (sym p.1 ∙ q) in
              let same : id ≡ j = cc in
              (new_open n flags, subst (λ (z : ℕ). put t.files id (Some (new_open n flags)) z ≡ Some (new_open n flags)) same (put_same t.files id (Some (new_open n flags))), v, is)
        ]
      ]))
]

pub well_moved : (t : Tree) (o : Option ℕ) (by : ℕ) → IsWellFormed t → IsWellFormed (moved t o by)
well_moved t None by k = k
well_moved t (Some id) by k =
    let g : OpenFile → Option OpenFile = (λ f. Some (record f { offset = f.offset + by })) in
    let files : ℕ → Option OpenFile = put t.files id (and_then (t.files id) g) in
    well_files t files t.fds k (λ h i j lh li is.
    let o = k.descriptors h i j lh li is in
    elim (put_is t.files id (and_then (t.files id) g) j) [
      | inr p ↦ (o.file, p.1 ∙ o.is, o.node, o.there)
      | inl p ↦ (record o.file { offset = o.file.offset + by }, p.1 ∙ ap (λ (z : Option OpenFile). and_then z g) (subst (λ (z : ℕ). t.files z ≡ Some o.file) p.0 o.is), o.node, o.there)
    ])

-- the open file of a descriptor
pub file_is : (t : Tree) (h fd : ℕ) (f : OpenFile) → file_at t h fd ≡ Some f → (fd < descriptor_count) × ((id : ℕ) × (t.fds h fd ≡ Some id) × (t.files id ≡ Some f))
file_is t h fd f is = elim (either (nat_lt fd descriptor_count)) [
  | inl y ↦ (less fd y, go (t.fds h fd) refl (let e : (if nat_lt fd descriptor_count then and_then (t.fds h fd) (λ id. t.files id) else None) ≡ Some f = is in rw y at e))
  | inr y ↦ absurd (let e : (if nat_lt fd descriptor_count then and_then (t.fds h fd) (λ id. t.files id) else None) ≡ Some f = is in let e' : None ≡ Some f = rw y at e in cc)
]
  where
    less : (a : ℕ) → nat_lt a descriptor_count ≡ true → a < descriptor_count
    less a h = grind (arith, nat_tests)

    go : (o : Option ℕ) → t.fds h fd ≡ o → and_then o (λ id. t.files id) ≡ Some f → (id : ℕ) × (t.fds h fd ≡ Some id) × (t.files id ≡ Some f)
    go None e q = absurd cc
    go (Some id) e q = (id, e, q)

pub well_dup : (t : Tree) (h fd : ℕ) (f : OpenFile) → IsWellFormed t → h < hart_count → file_at t h fd ≡ Some f → IsWellFormed (record t { fds = put t.fds h (put (t.fds h) (lowest (t.fds h)) (t.fds h fd)) })
well_dup t h fd f k lt is =
    let two = file_is t h fd f is in
    well_files t t.files (put t.fds h (put (t.fds h) (lowest (t.fds h)) (t.fds h fd))) k (λ g i j lg li q.
    elim (put_at t.fds h g i (put (t.fds h) (lowest (t.fds h)) (t.fds h fd))) [
      | inr p ↦ there_old t t.files g i j k lg li (sym p.1 ∙ q) (λ f fis. fis)
      | inl p ↦ elim (put_is (t.fds h) (lowest (t.fds h)) (t.fds h fd) i) [
        | inr r ↦ there_old t t.files g i j k lg li (subst (λ (z : ℕ). t.fds z i ≡ Some j) (sym p.0) (sym r.1 ∙ (sym p.1 ∙ q))) (λ f fis. fis)
        | inl r ↦ there_old t t.files h fd j k lt two.0 (sym r.1 ∙ (sym p.1 ∙ q)) (λ f fis. fis)
      ]
    ])

pub has_it : (t : Tree) (h i id : ℕ) → h < hart_count → i < descriptor_count → t.fds h i ≡ Some id → has_fd t id ≡ true
unfolding has_fd
has_it t h i id lh li is = any_at hart_count (λ h. any_below descriptor_count (λ i. elim (t.fds h i) [ None ↦ false | Some j ↦ j == id ])) h lh
    (any_at descriptor_count (λ i. elim (t.fds h i) [ None ↦ false | Some j ↦ j == id ]) i li (rw is (eq_self id)))

pub well_closed : (t : Tree) (h fd : ℕ) → IsWellFormed t → IsWellFormed (closed (record t { fds = put t.fds h (put (t.fds h) fd None) }))
well_closed t h fd k =
    let t1 : Tree = record t { fds = put t.fds h (put (t.fds h) fd None) } in
    well_files t (closed t1).files (put t.fds h (put (t.fds h) fd None)) k (λ g i j lg li q.
    let old : t.fds g i ≡ Some j → There t (closed t1).files j = (λ e. there_old t (closed t1).files g i j k lg li e (λ f fis. kept t1 j f (has_it t1 g i j lg li q) fis)) in
    elim (put_at t.fds h g i (put (t.fds h) fd None)) [
      | inr p ↦ old (sym p.1 ∙ q)
      | inl p ↦ elim (put_is (t.fds h) fd None i) [
        | inr r ↦ old (subst (λ (z : ℕ). t.fds z i ≡ Some j) (sym p.0) (sym r.1 ∙ (sym p.1 ∙ q)))
        | inl r ↦ absurd (let e : None ≡ Some j = sym r.1 ∙ (sym p.1 ∙ q) in cc)
      ]
    ])
  where
    kept : (u : Tree) (id : ℕ) (f : OpenFile) → has_fd u id ≡ true → u.files id ≡ Some f → (closed u).files id ≡ Some f
    kept u id f has is = rw has is

pub well_inherit : (t : Tree) (h child : ℕ) → IsWellFormed t → h < hart_count → IsWellFormed (record t { fds = put t.fds child (t.fds h); cwd = put t.cwd child (t.cwd h) })
well_inherit t h child k lt =
    let t1 : Tree = record t { fds = put t.fds child (t.fds h) } in
    let one : IsWellFormed t1 = well_files t t.files (put t.fds child (t.fds h)) k (λ g i j lg li q. elim (put_at t.fds child g i (t.fds h)) [
      | inr p ↦ there_old t t.files g i j k lg li (sym p.1 ∙ q) (λ f fis. fis)
      | inl p ↦ there_old t t.files h i j k lt li (sym p.1 ∙ q) (λ f fis. fis)
    ]) in
    well_cwd t1 (put t.cwd child (t.cwd h)) one (λ g lg. elim (put_is t.cwd child (t.cwd h) g) [
      | inr p ↦ subst (λ (z : ℕ). IsThere t.nodes z true) (sym p.1) (k.directories g lg)
      | inl p ↦ subst (λ (z : ℕ). IsThere t.nodes z true) (sym p.1) (k.directories h lt)
    ])

pub well_chdir : (t : Tree) (h n : ℕ) → IsWellFormed t → is_directory (node_at t n).kind ≡ true → IsWellFormed (at_dir t h (Some n))
well_chdir t h n k dir = well_cwd t (put t.cwd h n) k (λ g lg. elim (put_is t.cwd h n g) [
  | inr p ↦ subst (λ (z : ℕ). IsThere t.nodes z true) (sym p.1) (k.directories g lg)
  | inl p ↦ subst (λ (z : ℕ). IsThere t.nodes z true) (sym p.1) (go (t.nodes n) refl dir)
])
  where
    go : (o : Option Node) → t.nodes n ≡ o → is_directory (node_or o).kind ≡ true → IsThere t.nodes n true
    go None e q = absurd cc
    go (Some v) e q = record { node = v; is = e; inode_type = q }

-- a hold changes that isn't raised, before and after
pub well_hold : (t : Tree) (h : ℕ) (o : Option Hold) → IsWellFormed t → h < hart_count → ((n : ℕ) → raised_at o n ≡ 0) → ((n : ℕ) → raised_at (t.holds h) n ≡ 0) → ((q : Hold) → o ≡ Some q → IsThere t.nodes q.number false) → IsWellFormed (record t { holds = put t.holds h o })
well_hold t h o k lt new old there =
    let R : raises (put t.holds h o) ≡ raises t.holds = everywhere (raises (put t.holds h o)) (raises t.holds) (λ n. let a = raises_put t.holds h n o lt in let b = new n in let c = old n in omega (arith, a, b, c)) in
    well_held t t.nodes (put t.holds h o) k.depth k (λ n b th. th) k.range
    (subst (λ (r : ℕ → ℕ). IsForest (folders_of t.nodes) (links_in t.nodes) r t.ninodes k.depth) (sym R) k.forest)
    (λ g q gt gis. elim (put_is t.holds h o g) [
      | inl p ↦ there q (sym p.1 ∙ gis)
      | inr p ↦ k.holds g q gt (sym p.1 ∙ gis)
    ])
