-- A directory is made, and a name is removed.
use Rattle.tree_laws.proofs.Vocabulary.{◌≡◌, ◌≢◌, ℕ, suc, ◌+◌, ◌-◌, ◌<◌, ◌≤◌, Bool, true, false, ◌&&◌, ◌==◌, inl, inr, refl, sym, ◌∙◌, ap, subst, arith, [], drop, Option, Some, None, nat_lt, if◌then◌else◌, nat_tests, Cause, Slot, Node, NodeKind, Directory, File, Device, root, Name, Tree, put, same_name, dot, dotdot, is_directory, slots_of, live_directory, is_live, all_slots, first_slot, look, node_or, node_at, with_nodes, first_free, cleared, any_used, not_empty, raised, lowered, new_directory, Slots, Folders, folder, links_of, folders_of, links_in, up_in, past, count_in, one_if, mentions, children, raises, IsForest, IsWellFormed}
use Rattle.tree_laws.proofs.Basics.{either, same_or, eq_self, eq_not, put_is, put_same, put_other, and_true, one_yes, one_no, count_entered, count_unused, Dots, cleared_forest, grown_forest, shrunk_forest, apart, plain_or, mentions_part, childless, entered_shape, shape_rest, folder_live, folder_dead, folder_some, folder_none, folder_links, linked_live, live_some, some_node, everywhere, folders_put, put_self, InRange, Keeps, range_put, keeps_put, keeps_on, well_nodes, not_folder, with_new, new_apart, new_keeps, new_range, new_links, new_folders, file_forest}
use Rattle.tree_laws.proofs.Facts.{entry_found, entry_up, entry_apart, entry_linked}

both_true : (a b : Bool) → a ≡ true → b ≡ true → (a && b) ≡ true
both_true a b p q = grind arith

more_live : (c : ℕ) → nat_lt 0 (c + 1) ≡ true
more_live c = grind (arith, nat_tests)

pub raised_folder : (o : Option Node) → live_directory o ≡ true → folder o ≡ folder (Some (raised (node_or o)))
raised_folder None h = absurd cc
raised_folder (Some v) h = folder_live (Some v) h ∙ sym (folder_live (Some (raised v)) (both_true (nat_lt 0 (v.count + 1)) (is_directory v.kind) (more_live v.count) (and_true _ _ h).1))

raised_links : (o : Option Node) → live_directory o ≡ true → (node_or o).count ≡ links_of o
raised_links None h = absurd cc
raised_links (Some v) h = refl

raised_keeps : (ns : ℕ → Option Node) (d : ℕ) → Keeps ns (put ns d (Some (raised (node_or (ns d)))))
raised_keeps ns d = keeps_put ns d (raised (node_or (ns d))) (λ v is. ap (λ (o : Option Node). is_directory (node_or o).kind) is)

-- the nodes with a new directory
abbrev pub with_directory : (ℕ → Option Node) → ℕ → Name → ℕ → ℕ → Option Node
with_directory ns d e n = let ns2 = with_new ns d e n (new_directory n d) in put ns2 d (Some (raised (node_or (ns2 d))))

pub well_directory : (t : Tree) (d n : ℕ) (e : Name) → IsWellFormed t → live_directory (t.nodes d) ≡ true → first_slot (all_slots (t.nodes d)) e ≡ None → t.nodes n ≡ None → 1 ≤ n → n < t.ninodes → IsWellFormed (with_nodes t (with_directory t.nodes d e n))
well_directory t d n e k good none new low high =
    let ns = t.nodes in
    let v : Node = new_directory n d in
    let ns2 = with_new ns d e n v in
    let ns3 = put ns2 d (Some (raised (node_or (ns2 d)))) in
    let ss = all_slots (ns d) in
    let s : Slot = record { name = e; number = n } in
    let F = folders_of ns in
    let F1 : Folders = put F d (Some (first_free ss s)) in
    let nd = new_apart ns d n good new in
    let f1 = file_forest t d n e (links_in ns2) k good none new k (new_links ns d n e v good new refl) in
    let is1 : F1 d ≡ Some (first_free ss s) = put_same F d (Some (first_free ss s)) in
    let none1 : F1 n ≡ None = put_other F d (Some (first_free ss s)) n nd ∙ ap (λ (z : Option Node). folder z) new in
    let F2 : folders_of ns2 ≡ put F1 n (Some (Dots n d [])) = new_folders ns d n e v good in
    let two : folder (ns2 d) ≡ Some (first_free ss s) = ap (λ (G : Folders). G d) F2 ∙ (put_other F1 n (Some (Dots n d [])) d (λ q. nd (sym q)) ∙ is1) in
    let live2 : live_directory (ns2 d) ≡ true = (folder_some (ns2 d) (first_free ss s) two).0 in
    let F3 : folders_of ns3 ≡ folders_of ns2 = folders_put ns2 d (Some (raised (node_or (ns2 d)))) ∙ put_self (folders_of ns2) d (folder (Some (raised (node_or (ns2 d))))) (raised_folder (ns2 d) live2) in
    let C3 : (j : ℕ) → links_in ns3 j ≡ links_in ns2 j + one_if (d == j) = (λ j. elim (put_is ns2 d (Some (raised (node_or (ns2 d)))) j) [
      | inl p ↦
          let a : links_in ns3 j ≡ (node_or (ns2 d)).count + 1 = ap (λ (z : Option Node). links_of z) p.1 in
          let b : links_in ns2 j ≡ (node_or (ns2 d)).count = subst (λ (z : ℕ). links_in ns2 z ≡ (node_or (ns2 d)).count) (sym p.0) (sym (raised_links (ns2 d) live2)) in
          let c : one_if (d == j) ≡ 1 = one_yes (d == j) (subst (λ (z : ℕ). (d == z) ≡ true) (sym p.0) (eq_self d)) in
          omega (arith, a, b, c)
      | inr p ↦
          let a : links_in ns3 j ≡ links_in ns2 j = ap (λ (z : Option Node). links_of z) p.1 in
          let c : one_if (d == j) ≡ 0 = one_no (d == j) (eq_not d j (λ q. p.0 (sym q))) in
          omega (arith, a, c)
    ]) in
    let plain : folder (ns n) ≡ None = ap (λ (z : Option Node). folder z) new in
    let zero_links : links_in ns n ≡ 0 = ap (λ (z : Option Node). links_of z) new in
    let other = k.forest.other n plain in
    let mine = k.forest.directory d ss (folder_live (ns d) good) in
    let part : count_in (past (F d)) n ≤ mentions F t.ninodes n = mentions_part F t.ninodes d n mine.within in
    let past_d : count_in (past (F d)) n ≡ count_in (drop 2 ss) n = ap (λ (o : Option Slots). count_in (past o) n) (folder_live (ns d) good) in
    let rest : drop 2 (first_free ss s) ≡ first_free (drop 2 ss) s = shape_rest d (up_in ss) (first_free ss s) (first_free (drop 2 ss) s) (entered_shape d ss s mine.dots) in
    let here : one_if (n == n) ≡ 1 = one_yes (n == n) (eq_self n) in
    let count : count_in (drop 2 (first_free ss s)) n ≡ count_in (drop 2 ss) n + one_if (n == n) = ap (λ (z : Slots). count_in z n) rest ∙ count_entered (drop 2 ss) s n in
    let past_1 : count_in (past (F1 d)) n ≡ count_in (drop 2 (first_free ss s)) n = ap (λ (o : Option Slots). count_in (past o) n) is1 in
    let c2 = new_links ns d n e v good new refl n in
    let old = k.range d (node_or (ns d)) (some_node (ns d) good) in
    well_nodes t ns3 (put k.depth n (suc (k.depth d))) k
    (keeps_on ns ns2 ns3 (new_keeps ns d n e v good new) (raised_keeps ns2 d))
    (range_put ns2 d (raised (node_or (ns2 d))) t.ninodes (new_range ns d n t.ninodes e v good low high k.range) old.0 old.1)
    (subst (λ (G : Folders). IsForest G (links_in ns3) (raises t.holds) t.ninodes (put k.depth n (suc (k.depth d)))) (sym (F3 ∙ F2))
    (grown_forest F1 (links_in ns2) (links_in ns3) (raises t.holds) t.ninodes k.depth d n (first_free ss s) f1 is1 none1 high
    (omega (arith, c2, zero_links, here))
    (omega (arith, other, zero_links))
    (omega (arith, past_1, count, here, past_d, part, other, zero_links))
    C3))

-- Removal.

pub put_turn : {A : Type 0} → (f : ℕ → A) (a b : ℕ) (x y : A) → a ≢ b → put (put f a x) b y ≡ put (put f b y) a x
put_turn f a b x y ne = everywhere (put (put f a x) b y) (put (put f b y) a x) (λ k. elim (put_is (put f a x) b y k) [
  | inl p ↦
      let ka : k ≢ a = (λ q. ne (sym q ∙ p.0)) in
      p.1 ∙ sym (put_other (put f b y) a x k ka ∙ subst (λ (z : ℕ). put f b y z ≡ y) (sym p.0) (put_same f b y))
  | inr p ↦ elim (put_is f a x k) [
    | inl q ↦ p.1 ∙ (q.1 ∙ subst (λ (z : ℕ). x ≡ put (put f b y) a x z) (sym q.0) (sym (put_same (put f b y) a x)))
    | inr q ↦ p.1 ∙ (q.1 ∙ sym (put_other (put f b y) a x k q.0 ∙ put_other f b y k p.0))
  ]
])

abbrev pub less : Bool → Name → Node → Node
less b e v = record v { kind = Directory (cleared (slots_of v.kind) e); count = if b then v.count - 1 else v.count }

-- the nodes without the name; b: whether it named a directory
abbrev pub without : (ℕ → Option Node) → ℕ → Name → ℕ → Bool → ℕ → Option Node
without ns d e n b = let ns1 = put ns d (Some (less b e (node_or (ns d)))) in put ns1 n (Some (lowered (node_or (ns1 n))))

pub less_folder : (o : Option Node) (b : Bool) (e : Name) → live_directory o ≡ true → nat_lt 0 (less b e (node_or o)).count ≡ true → folder (Some (less b e (node_or o))) ≡ Some (cleared (all_slots o) e)
less_folder None b e h c = absurd cc
less_folder (Some v) b e h c = folder_live (Some (less b e v)) (both_true (nat_lt 0 (less b e v).count) true c refl)

less_keeps : (ns : ℕ → Option Node) (d : ℕ) (b : Bool) (e : Name) → live_directory (ns d) ≡ true → Keeps ns (put ns d (Some (less b e (node_or (ns d)))))
less_keeps ns d b e good = keeps_put ns d (less b e (node_or (ns d))) (λ v is. sym (and_true _ _ (subst (λ (o : Option Node). live_directory o ≡ true) is good)).1)

lowered_keeps : (ns : ℕ → Option Node) (d : ℕ) → Keeps ns (put ns d (Some (lowered (node_or (ns d)))))
lowered_keeps ns d = keeps_put ns d (lowered (node_or (ns d))) (λ v is. ap (λ (o : Option Node). is_directory (node_or o).kind) is)

without_keeps : (ns : ℕ → Option Node) (d n : ℕ) (b : Bool) (e : Name) → live_directory (ns d) ≡ true → Keeps ns (without ns d e n b)
without_keeps ns d n b e good = let ns1 = put ns d (Some (less b e (node_or (ns d)))) in keeps_on ns ns1 (without ns d e n b) (less_keeps ns d b e good) (lowered_keeps ns1 n)

without_range : (ns : ℕ → Option Node) (d n N : ℕ) (b : Bool) (e : Name) → (1 ≤ d) × (d < N) → (1 ≤ n) × (n < N) → InRange ns N → InRange (without ns d e n b) N
without_range ns d n N b e p q r =
    let ns1 = put ns d (Some (less b e (node_or (ns d)))) in
    range_put ns1 n (lowered (node_or (ns1 n))) N (range_put ns d (less b e (node_or (ns d))) N r p.0 p.1) q.0 q.1

-- folders and counts afterwards, if d and n differ
pub without_folders : (ns : ℕ → Option Node) (d n : ℕ) (b : Bool) (e : Name) → folders_of (without ns d e n b) ≡ put (put (folders_of ns) d (folder (Some (less b e (node_or (ns d)))))) n (folder (Some (lowered (node_or (put ns d (Some (less b e (node_or (ns d)))) n)))))
without_folders ns d n b e =
    let ns1 = put ns d (Some (less b e (node_or (ns d)))) in
    folders_put ns1 n (Some (lowered (node_or (ns1 n)))) ∙ ap (λ (G : Folders). put G n (folder (Some (lowered (node_or (ns1 n)))))) (folders_put ns d (Some (less b e (node_or (ns d)))))

without_links : (ns : ℕ → Option Node) (d n : ℕ) (b : Bool) (e : Name) (v w : Node) → d ≢ n → ns d ≡ Some v → ns n ≡ Some w → 1 ≤ w.count → (b ≡ true → 1 ≤ v.count) → (j : ℕ) → links_in (without ns d e n b) j + one_if (n == j) + one_if (b && d == j) ≡ links_in ns j
without_links ns d n b e v w ne dv nw live more j =
    let ns1 = put ns d (Some (less b e (node_or (ns d)))) in
    let at_n : ns1 n ≡ Some w = put_other ns d (Some (less b e (node_or (ns d)))) n (λ q. ne (sym q)) ∙ nw in
    elim (put_is ns1 n (Some (lowered (node_or (ns1 n)))) j) [
      | inl p ↦
          let a : links_in (without ns d e n b) j ≡ w.count - 1 = ap (λ (z : Option Node). links_of z) p.1 ∙ ap (λ (z : Option Node). (node_or z).count - 1) at_n in
          let c : links_in ns j ≡ w.count = subst (λ (z : ℕ). links_in ns z ≡ w.count) (sym p.0) (ap (λ (z : Option Node). links_of z) nw) in
          let o : one_if (n == j) ≡ 1 = one_yes (n == j) (subst (λ (z : ℕ). (n == z) ≡ true) (sym p.0) (eq_self n)) in
          let q : one_if (b && d == j) ≡ 0 = one_no (b && d == j) (right b (d == j) (eq_not d j (λ r. ne (r ∙ p.0)))) in
          omega (arith, a, c, o, q, live)
      | inr p ↦
          let o : one_if (n == j) ≡ 0 = one_no (n == j) (eq_not n j (λ q. p.0 (sym q))) in
          elim (put_is ns d (Some (less b e (node_or (ns d)))) j) [
            | inl q ↦
                let a : links_in (without ns d e n b) j ≡ (if b then v.count - 1 else v.count) = ap (λ (z : Option Node). links_of z) (p.1 ∙ q.1) ∙ ap (λ (z : Option Node). if b then (node_or z).count - 1 else (node_or z).count) dv in
                let c : links_in ns j ≡ v.count = subst (λ (z : ℕ). links_in ns z ≡ v.count) (sym q.0) (ap (λ (z : Option Node). links_of z) dv) in
                let s : one_if (b && d == j) ≡ one_if b = ap (λ (z : Bool). one_if z) (left b (d == j) (subst (λ (z : ℕ). (d == z) ≡ true) (sym q.0) (eq_self d))) in
                let m = split b v.count more in
                omega (arith, a, c, o, s, m)
            | inr q ↦
                let a : links_in (without ns d e n b) j ≡ links_in ns j = ap (λ (z : Option Node). links_of z) (p.1 ∙ q.1) in
                let s : one_if (b && d == j) ≡ 0 = one_no (b && d == j) (right b (d == j) (eq_not d j (λ r. q.0 (sym r)))) in
                omega (arith, a, o, s)
          ]
    ]
  where
    right : (a b : Bool) → b ≡ false → (a && b) ≡ false
    right a b h = grind arith

    left : (a b : Bool) → b ≡ true → (a && b) ≡ a
    left a b h = grind arith

    split : (b : Bool) (c : ℕ) → (b ≡ true → 1 ≤ c) → (if b then c - 1 else c) + one_if b ≡ c
    split true c h = let m : 1 ≤ c = h refl in let o : one_if true ≡ 1 = one_yes true refl in omega (arith, m, o)
    split false c h = let o : one_if false ≡ 0 = one_no false refl in omega (arith, o)

pub empty_slots : (o : Option Node) (ss : Slots) → folder o ≡ Some ss → not_empty (node_or o).kind ≡ None → any_used (drop 2 ss) ≡ false
empty_slots None ss h e = absurd cc
empty_slots (Some v) ss h e = let two = folder_some (Some v) ss h in subst (λ (z : Slots). any_used (drop 2 z) ≡ false) two.1 (go v.kind (and_true _ _ two.0).1 e)
  where
    test : (b : Bool) (c : Cause) → (if b then Some c else None) ≡ None → b ≡ false
    test true c h = absurd cc
    test false c h = refl

    go : (x : NodeKind) → is_directory x ≡ true → not_empty x ≡ None → any_used (drop 2 (slots_of x)) ≡ false
    go (Directory slots) d h = test (any_used (drop 2 slots)) _ h
    go (File bytes) d h = absurd cc
    go (Device a b c) d h = absurd cc

pub type_file : (o : Option Node) → is_live o ≡ true → folder o ≡ None → is_directory (node_or o).kind ≡ false
type_file None l h = absurd cc
type_file (Some v) l h = elim (either (is_directory v.kind)) [
  | inr y ↦ y
  | inl y ↦ absurd (let a : live_directory (Some v) ≡ true = both_true (nat_lt 0 v.count) (is_directory v.kind) l y in let b : live_directory (Some v) ≡ false = folder_none (Some v) h in cc (a, b))
]

pub type_folder : (o : Option Node) (ss : Slots) → folder o ≡ Some ss → is_directory (node_or o).kind ≡ true
type_folder None ss h = absurd cc
type_folder (Some v) ss h = (and_true _ _ (folder_some (Some v) ss h).0).1

pub positive : (c : ℕ) → 1 ≤ c → nat_lt 0 c ≡ true
positive c h = grind (arith, nat_tests)

pub gone : (c : ℕ) → c ≡ 0 → nat_lt 0 c ≡ false
gone c h = grind (arith, nat_tests)

left_false : (a b : Bool) → a ≡ false → (a && b) ≡ false
left_false a b h = grind arith

-- What well-formedness says if the directory d names n, which has no entries of its own.
pub record CanGo (t : Tree) (d n : ℕ) (e : Name) : Type 0 where
  pub good : live_directory (t.nodes d) ≡ true
  pub found : look t.nodes d e ≡ Some n
  pub apart : d ≢ n
  pub there : t.nodes n ≡ Some (node_at t n)
  pub live : 1 ≤ (node_at t n).count
  pub last : is_directory (node_at t n).kind ≡ true → (node_at t n).count ≡ 1
  pub spare : is_directory (node_at t n).kind ≡ true → 2 ≤ (node_at t d).count
  pub higher : is_directory (node_at t n).kind ≡ true → n ≢ root
  pub empty : (ss : Slots) → folder (t.nodes n) ≡ Some ss → any_used (drop 2 ss) ≡ false

pub links_node : (o : Option Node) → links_of o ≡ (node_or o).count
links_node None = refl
links_node (Some v) = refl

folder_or : (o : Option Node) → is_live o ≡ true → is_directory (node_or o).kind ≡ true → (ss : Slots) × (folder o ≡ Some ss)
folder_or None l d = absurd cc
folder_or (Some v) l d = (slots_of v.kind, folder_live (Some v) (both_true (nat_lt 0 v.count) (is_directory v.kind) l d))

-- an empty directory that d names: one link, d is its "..", and d has two
empty_child : (F : Folders) (C R : ℕ → ℕ) (N : ℕ) (D : ℕ → ℕ) (d n : ℕ) (ss ns : Slots) → IsForest F C R N D → F d ≡ Some ss → F n ≡ Some ns → 1 ≤ count_in (past (F d)) n → any_used (drop 2 ns) ≡ false
    → (n ≢ root) × (up_in ns ≡ d) × (C n ≡ 1) × (IsForest (put F n None) (λ j. C j - one_if (d == j)) R N D) × (2 ≤ C d)
empty_child F C R N D d n ss ns f is nis some used =
    let two = entry_up F C R N D d n ss ns f is nis some in
    let all : (k : ℕ) → count_in (drop 2 ns) k ≡ 0 = (λ k. count_unused (drop 2 ns) k used) in
    let none : children F N n ≡ 0 = childless F C R N D n f (λ k. ap (λ (o : Option Slots). count_in (past o) k) nis ∙ all k) in
    let mine = (f.directory n ns nis).counted in
    let big = (f.directory d ss is).counted in
    let smaller : (k : ℕ) → (C k - one_if (d == k)) + one_if (up_in ns == k) ≡ C k = (λ k. elim (same_or d k) [
      | inl q ↦
          let a : one_if (d == k) ≡ 1 = one_yes (d == k) (subst (λ (z : ℕ). (d == z) ≡ true) q (eq_self d)) in
          let b : one_if (up_in ns == k) ≡ 1 = one_yes (up_in ns == k) (subst (λ (z : ℕ). (up_in ns == z) ≡ true) (two.1 ∙ q) (eq_self (up_in ns))) in
          let c : 1 ≤ C k = subst (λ (z : ℕ). 1 ≤ C z) q (omega (arith, big)) in
          omega (arith, a, b, c)
      | inr q ↦
          let a : one_if (d == k) ≡ 0 = one_no (d == k) (eq_not d k q) in
          let b : one_if (up_in ns == k) ≡ 0 = one_no (up_in ns == k) (eq_not (up_in ns) k (λ r. q (sym two.1 ∙ r))) in
          omega (arith, a, b)
    ]) in
    let f2 = shrunk_forest F C (λ j. C j - one_if (d == j)) R N D n ns f nis two.0 all smaller in
    let nd = entry_apart F C R N D d n ss f is some in
    let after = (f2.directory d ss (put_other F n None d nd ∙ is)).counted in
    let o : one_if (d == d) ≡ 1 = one_yes (d == d) (eq_self d) in
    (two.0, two.1, omega (arith, mine, none), f2, omega (arith, after, o))

pub can_go : (t : Tree) (d n : ℕ) (e : Name) → IsWellFormed t → live_directory (t.nodes d) ≡ true → same_name e dot ≡ false → same_name e dotdot ≡ false → look t.nodes d e ≡ Some n → first_slot (all_slots (t.nodes d)) e ≡ Some n → not_empty (node_at t n).kind ≡ None → CanGo t d n e
can_go t d n e k good a b found first bare =
    let F = folders_of t.nodes in
    let C = links_in t.nodes in
    let R = raises t.holds in
    let ss = all_slots (t.nodes d) in
    let is : F d ≡ Some ss = folder_live (t.nodes d) good in
    let some = entry_found F C R t.ninodes k.depth d n ss e k.forest is a b first in
    let linked = entry_linked F C R t.ninodes k.depth d n ss k.forest is some in
    let live = linked_live (t.nodes n) linked in
    let ln = links_node (t.nodes n) in
    let ld = links_node (t.nodes d) in
    let child : is_directory (node_at t n).kind ≡ true → (n ≢ root) × ((node_at t n).count ≡ 1) × (2 ≤ (node_at t d).count) = (λ dir.
    let q = folder_or (t.nodes n) live dir in
    let c = empty_child F C R t.ninodes k.depth d n ss q.0 k.forest is q.1 some (empty_slots (t.nodes n) q.0 q.1 bare) in
    let one = c.2 in
    let two = c.4 in
    (c.0, omega (arith, one, ln), omega (arith, two, ld))) in
    record {
      good = good;
      found = found;
      apart = entry_apart F C R t.ninodes k.depth d n ss k.forest is some;
      there = live_some (t.nodes n) live;
      live = omega (arith, linked, ln);
      last = λ dir. (child dir).1;
      spare = λ dir. (child dir).2;
      higher = λ dir. (child dir).0;
      empty = λ ns nis. empty_slots (t.nodes n) ns nis bare;
    }

-- a name is removed
pub well_removed : (t : Tree) (d n : ℕ) (e : Name) → IsWellFormed t → live_directory (t.nodes d) ≡ true → same_name e dot ≡ false → same_name e dotdot ≡ false → look t.nodes d e ≡ Some n → first_slot (all_slots (t.nodes d)) e ≡ Some n → not_empty (node_at t n).kind ≡ None
    → IsWellFormed (with_nodes t (without t.nodes d e n (is_directory (node_at t n).kind)))
well_removed t d n e k good a b found first bare =
    let g = can_go t d n e k good a b found first bare in
    let ns = t.nodes in
    let dir : Bool = is_directory (node_at t n).kind in
    let ns2 = without ns d e n dir in
    let F = folders_of ns in
    let C = links_in ns in
    let R = raises t.holds in
    let N = t.ninodes in
    let D = k.depth in
    let ss = all_slots (ns d) in
    let is : F d ≡ Some ss = folder_live (ns d) good in
    let some = entry_found F C R N D d n ss e k.forest is a b first in
    let at_d = some_node (ns d) good in
    let at_n : put ns d (Some (less dir e (node_or (ns d)))) n ≡ ns n = put_other ns d (Some (less dir e (node_or (ns d)))) n (λ q. g.apart (sym q)) in
    let ld = links_node (ns d) in
    let cd = folder_links (ns d) good in
    let C2 : (j : ℕ) → links_in ns2 j + one_if (n == j) + one_if (dir && d == j) ≡ C j = without_links ns d n dir e (node_or (ns d)) (node_at t n) g.apart at_d g.there g.live (λ y. omega (arith, ld, cd)) in
    let kept : (count : ℕ) → count ≡ (less dir e (node_or (ns d))).count → 1 ≤ count → folder (Some (less dir e (node_or (ns d)))) ≡ Some (cleared ss e) = (λ count same pos. less_folder (ns d) dir e good (subst (λ (z : ℕ). nat_lt 0 z ≡ true) same (positive count pos))) in
    let low : folder (Some (lowered (node_or (put ns d (Some (less dir e (node_or (ns d)))) n)))) ≡ folder (Some (lowered (node_at t n))) = ap (λ (o : Option Node). folder (Some (lowered (node_or o)))) at_n in
    well_nodes t ns2 D k (without_keeps ns d n dir e good)
    (without_range ns d n N dir e (k.range d (node_or (ns d)) at_d) (k.range n (node_at t n) g.there) k.range)
    (elim (plain_or (F n)) [
      | inl plain ↦
          let file : dir ≡ false = type_file (ns n) (linked_live (ns n) (entry_linked F C R N D d n ss k.forest is some)) plain in
          let same : (less dir e (node_or (ns d))).count ≡ (node_or (ns d)).count = ap (λ (z : Bool). if z then (node_or (ns d)).count - 1 else (node_or (ns d)).count) file in
          let f1 : folder (Some (less dir e (node_or (ns d)))) ≡ Some (cleared ss e) = kept (node_or (ns d)).count (sym same) (omega (arith, ld, cd)) in
          let none : folder (Some (lowered (node_at t n))) ≡ None = not_folder (lowered (node_at t n)) file in
          let G : Folders = put F d (Some (cleared ss e)) in
          let out : G n ≡ None = put_other F d (Some (cleared ss e)) n (λ q. g.apart (sym q)) ∙ plain in
          let F2 : folders_of ns2 ≡ G = without_folders ns d n dir e ∙ (ap (λ (o : Option Slots). put (put F d o) n (folder (Some (lowered (node_or (put ns d (Some (less dir e (node_or (ns d)))) n)))))) f1 ∙ (ap (λ (o : Option Slots). put G n o) (low ∙ none) ∙ put_self G n None out)) in
          let no_dir : (j : ℕ) → one_if (dir && d == j) ≡ 0 = (λ j. one_no (dir && d == j) (left_false dir (d == j) file)) in
          subst (λ (H : Folders). IsForest H (links_in ns2) R N D) (sym F2)
          (cleared_forest F C (links_in ns2) R R N D d n ss e k.forest is a b first plain
          (λ j js jis. ((let c = C2 j in let z = no_dir j in let ne : one_if (n == j) ≡ 0 = one_no (n == j) (eq_not n j (apart F n j js plain jis)) in omega (arith, c, z, ne)), refl))
          (λ j jis. let c = C2 j in let z = no_dir j in omega (arith, c, z)))
      | inr q ↦
          let isdir : dir ≡ true = type_folder (ns n) q.0 q.1 in
          let child = empty_child F C R N D d n ss q.0 k.forest is q.1 some (g.empty q.0 q.1) in
          let more = child.4 in
          let one = child.2 in
          let same : (less dir e (node_or (ns d))).count ≡ (node_or (ns d)).count - 1 = ap (λ (z : Bool). if z then (node_or (ns d)).count - 1 else (node_or (ns d)).count) isdir in
          let f1 : folder (Some (less dir e (node_or (ns d)))) ≡ Some (cleared ss e) = kept ((node_or (ns d)).count - 1) (sym same) (omega (arith, ld, more)) in
          let last = g.last isdir in
          let none : folder (Some (lowered (node_at t n))) ≡ None = folder_dead (Some (lowered (node_at t n))) (left_false (nat_lt 0 ((node_at t n).count - 1)) (is_directory (node_at t n).kind) (gone ((node_at t n).count - 1) (omega (arith, last)))) in
          let G : Folders = put F d (Some (cleared ss e)) in
          let F2 : folders_of ns2 ≡ put (put F n None) d (Some (cleared ss e)) = without_folders ns d n dir e ∙ (ap (λ (o : Option Slots). put (put F d o) n (folder (Some (lowered (node_or (put ns d (Some (less dir e (node_or (ns d)))) n)))))) f1 ∙ (ap (λ (o : Option Slots). put G n o) (low ∙ none) ∙ put_turn F d n (Some (cleared ss e)) None g.apart)) in
          let both : (j : ℕ) → one_if (dir && d == j) ≡ one_if (d == j) = (λ j. ap (λ (z : Bool). one_if z) (left_true dir (d == j) isdir)) in
          let plain : put F n None n ≡ None = put_same F n None in
          subst (λ (H : Folders). IsForest H (links_in ns2) R N D) (sym F2)
          (cleared_forest (put F n None) (λ j. C j - one_if (d == j)) (links_in ns2) R R N D d n ss e child.3 (put_other F n None d g.apart ∙ is) a b first plain
          (λ j js jis. ((let c = C2 j in let z = both j in let ne : one_if (n == j) ≡ 0 = one_no (n == j) (eq_not n j (apart (put F n None) n j js plain jis)) in omega (arith, c, z, ne)), refl))
          (λ j jis. let c = C2 j in let z = both j in omega (arith, c, z)))
    ])
  where
    left_true : (a b : Bool) → a ≡ true → (a && b) ≡ b
    left_true a b h = grind arith
