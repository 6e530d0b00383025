-- One lemma for all operations: what a step of one hart leaves to the others, and what still holds.
use Rattle.inode_machine.proofs.Vocabulary.{◌≡◌, ◌≢◌, ◌⊎◌, inl, inr, ℕ, zero, suc, ◌+◌, ◌<◌, ◌≤◌, Bool, true, false, ◌==◌, ◌||◌, Option, Some, None, refl, sym, ◌∙◌, ap, subst, arith, if◌then◌else◌, OpenFile, hart_count, descriptor_count, Node, put, hold_names, Row, key_names, row_of, holds_raised, sum_below, IsWellFormed, either, or_left, or_right, eq_self, eq_is, eq_not, same_or, put_same, put_other, look_same, look_live, sum_part, sum_two, type_of, Walk, Mine, Entry, Note, Desk, World, is_at, child_of, given_of, key_in, Own, Rests, left_or, Stands, file_tables_of, FileTables, IsTied, own_names, Held, view, is_hart, if_kept, own_of, Found, IsReferredTo, IsReached, reference_limit, References, IsAlone, Has, KeepsFiles, HasType, Lends, Inv}

-- Functions changed at one place, and what is kept.

pub put_elim : {A : Type 0} (f : ℕ → A) (k : ℕ) (x : A) (n : ℕ) (P : A → Type 0) → (n ≡ k → P x) → (n ≢ k → P (f n)) → P (put f k x n)
put_elim f k x n P yes_ no_ = elim (same_or n k) [
  | inl e ↦ subst (λ z. P (put f k x z)) (sym e) (subst P (sym (put_same f k x)) (yes_ e))
  | inr ne ↦ subst P (sym (put_other f k x n ne)) (no_ ne)
]

pub is_put : {A : Type 0} (f g : ℕ → A) (k : ℕ) (x : A) → g k ≡ x → ((n : ℕ) → n ≢ k → g n ≡ f n) → g ≡ put f k x
is_put {A} f g k x here there = λ i n. each n i
  where
    each : (n : ℕ) → g n ≡ put f k x n
    each n = put_elim f k x n (λ z. g n ≡ z) (λ e. ap g e ∙ here) (λ ne. there n ne)

pub Ours : ℕ → Option ℕ → Type 0
Ours h o = (g : ℕ) → g ≢ h → o ≢ Some g

pub ours_none : (h : ℕ) (o : Option ℕ) → o ≡ None → Ours h o
unfolding Ours
ours_none h o is g ne e = cc

pub ours_some : (h : ℕ) (o : Option ℕ) → o ≡ Some h → Ours h o
unfolding Ours
ours_some h o is g ne e = ne (let s : Some g ≡ Some h = sym e ∙ is in cc)

pub not_ours : {A : Type 0} (h g : ℕ) (o : Option ℕ) → Ours h o → g ≢ h → o ≡ Some g → A
unfolding Ours
not_ours h g o ours ne e = absurd (ours g ne e)

pub not_kept : {A : Type 0} (h g : ℕ) (o : Option ℕ) (x : A) → Ours h o → g ≢ h → if_kept o g x ≡ None
unfolding Ours
not_kept h g None x ours ne = refl
not_kept {A} h g (Some k) x ours ne = rw (eq_not k g (λ e. ours g ne (ap (λ (z : ℕ). Some z) e))) refl

pub kept_is : {A : Type 0} (h : ℕ) (o : Option ℕ) (x y : A) → if_kept o h x ≡ Some y → (o ≡ Some h) × (x ≡ y)
kept_is h None x y e = absurd cc
kept_is {A} h (Some k) x y e = at (k == h) refl e
  where
    at : (t : Bool) → (k == h) ≡ t → (if t then Some x else None) ≡ Some y → (◌≡◌ {A = Option ℕ} (Some k) (Some h)) × (x ≡ y)
    at true t e = (ap (λ (z : ℕ). Some z) (eq_is k h t), cc)
    at false t e = absurd cc

pub kept_here : {A : Type 0} (h : ℕ) (o : Option ℕ) (x : A) → o ≡ Some h → if_kept o h x ≡ Some x
kept_here h o x is = rw (is, eq_self h) refl

pub none_is : {A : Type 0} (h : ℕ) (o : Option ℕ) (x : A) → if_kept o h x ≡ None → o ≢ Some h
none_is h o x e is = let a = kept_here h o x is in absurd (cc (a, e))

-- inode j is as it was
pub record Kept (j : ℕ) (v u : World) : Type 0 where
  pub lock : u.lock j ≡ v.lock j
  pub keeper : u.keeper j ≡ v.keeper j
  pub disk : u.disk j ≡ v.disk j
  pub node : u.all.nodes j ≡ v.all.nodes j
  pub alone : u.alone j ≡ v.alone j

-- no other hart keeps or kept it
pub record Changed (h j : ℕ) (v u : World) : Type 0 where
  pub before : Ours h (v.keeper j)
  pub after : Ours h (u.keeper j)
  pub whole : u.keeper j ≡ None → u.disk j ≡ u.all.nodes j
  pub keeps : (g : ℕ) → u.lock j ≡ Some g → u.keeper j ≡ Some g

-- whom a hart serves, how much that has, and which hart serves it
pub record Bond : Type 0 where
  pub child : Option ℕ
  pub given : Option ℕ
  pub lender : Option ℕ

abbrev pub bond_of : Desk → Bond
bond_of d = record { child = child_of d; given = given_of d; lender = d.lender }

-- An open file is as it was, or of the same inode, which is this hart's to change.
abbrev pub Stays : (ℕ → Type 0) → Entry → Entry → Type 0
Stays Mine e f = (f.file ≡ e.file) ⊎ (Mine e.file.number × (f.file.number ≡ e.file.number))

pub stays_number : (Mine : ℕ → Type 0) (e f : Entry) → Stays Mine e f → f.file.number ≡ e.file.number
stays_number Mine e f (inl same) = ap (λ (z : OpenFile). z.number) same
stays_number Mine e f (inr moved) = moved.1

-- what a step does to open files
pub record FilesStep (h : ℕ) (Mine : ℕ → Type 0) (v u : FileTables) : Type 0 where
  pub tied : IsTied u
  pub desks : (g : ℕ) → g ≢ h → u.desks g ≡ v.desks g
  -- what another hart's descriptor has is as it was, or of an inode that is this hart's to change; its type stays
  pub numbers : (g i k : ℕ) (e : Entry) → g < hart_count → g ≢ h → i < descriptor_count → (v.desks g).fds i ≡ Some k → v.files k ≡ Some e → (f : Entry) × (u.files k ≡ Some f) × (f.inode_type ≡ e.inode_type) × Stays Mine e f
  pub clean : u.clean ≡ true → v.clean ≡ true
  -- it serves whom it served, and has meanwhile its directory
  pub bond : bond_of (u.desks h) ≡ bond_of (v.desks h)
  pub stays : ((u.desks h).directory ≡ (v.desks h).directory) ⊎ (child_of (v.desks h) ≡ None)

pub file_tables_same : {Mine : ℕ → Type 0} (h : ℕ) (s : FileTables) → IsTied s → FilesStep h Mine s s
file_tables_same h s tied = record { tied = tied; desks = λ g ne. refl; numbers = λ g i k e lt ne li is at. (e, at, refl, inl refl); clean = λ c. c; bond = refl; stays = inl refl }

-- a step of hart h: only its own parts of the invariant, without the others'
pub record HartStep (h : ℕ) (v u : World) : Type 0 where
  pub hart : h < hart_count
  pub inodes : (j : ℕ) → Kept j v u ⊎ Changed h j v u
  pub mine : (g : ℕ) → g ≢ h → u.harts g ≡ v.harts g
  pub rows : (g : ℕ) → g ≢ h → row_of u.all g ≡ row_of v.all g
  pub size : u.all.ninodes ≡ v.all.ninodes
  pub ids : (k : ℕ) → u.next ≤ k → u.all.files k ≡ None
  pub file_tables : FilesStep h (λ n. Ours h (v.keeper n)) (file_tables_of v) (file_tables_of u)
  pub free : (u.desks h).lender ≡ None
  pub raised : holds_raised true (u.all.holds h) ≡ true → (u.desks h).joined ≡ true
  pub quiet : (j : ℕ) → u.keeper j ≡ Some h → (u.desks h).joined ≡ false → u.disk j ≡ u.all.nodes j
  -- types stay, but for what the hart keeps alone
  pub inode_type : (j : ℕ) → (type_of (u.all.nodes j) ≡ type_of (v.all.nodes j)) ⊎ ((v.keeper j ≡ Some h) × (v.alone j ≡ true))
  pub inode_types : (k : ℕ) (e : Entry) → u.files k ≡ Some e → HasType u.all.nodes e
  pub noted : (n : Note) → (u.desks h).noted ≡ Some n → IsReached u h n.number → u.alone n.number ≡ false → type_of (u.all.nodes n.number) ≡ n.inode_type
  pub directory : Stands (u.desks h) (u.all.cwd h) u.all.nodes
  pub well : IsWellFormed u.all
  pub counts : (i : ℕ) → u.refs i ≡ u.slots i + sum_below hart_count (λ g. (u.harts g).refs i)
  pub refers : References (u.harts h) (u.desks h)
  pub alone : (i : ℕ) → u.alone i ≡ true → IsAlone u.keeper u.all.nodes u.refs u.harts i
  pub kept : (j : ℕ) → u.keeper j ≡ Some h → IsReferredTo u.desks u.files u.harts h j
  pub held : (j : ℕ) → u.keeper j ≡ Some h → (u.lock j ≡ Some h) ⊎ (u.alone j ≡ true)
  pub named : (i : ℕ) → own_names (row_of u.all h) (u.desks h) i ≡ true → IsReached u h i
  pub pending : (i : ℕ) → (u.harts h).pending ≡ Some i → Found u.keeper u.all.nodes h i
  pub walks : (k : Walk) → (u.harts h).walk ≡ Some k → IsReached u h k.at

pinned_on : (h : ℕ) (v u : World) (g i : ℕ) → FilesStep h (λ n. Ours h (v.keeper n)) (file_tables_of v) (file_tables_of u) → g < hart_count → g ≢ h → u.harts g ≡ v.harts g → IsReferredTo v.desks v.files v.harts g i → IsReferredTo u.desks u.files u.harts g i
pinned_on h v u g i kin lt ne same (inl o) =
    let n = kin.numbers g o.fd o.slot o.entry lt ne o.below o.is o.at in
    inl (record { fd = o.fd; below = o.below; slot = o.slot; is = ap (λ (d : Desk). d.fds o.fd) (kin.desks g ne) ∙ o.is; entry = n.0; at = n.1; number = stays_number (λ n. Ours h (v.keeper n)) o.entry n.0 n.3 ∙ o.number })
pinned_on h v u g i kin lt ne same (inr p) = inr (let e = ap (λ (m : Mine). m.refs i) same in omega (arith, e, p))

found_on : (h : ℕ) (v u : World) (g i : ℕ) → HartStep h v u → g ≢ h → Found v.keeper v.all.nodes g i → Found u.keeper u.all.nodes g i
found_on h v u g i did ne f = at (did.inodes f.directory)
  where
    at : Kept f.directory v u ⊎ Changed h f.directory v u → Found u.keeper u.all.nodes g i
    at (inl k) = record { directory = f.directory; name = f.name; keeps = k.keeper ∙ f.keeps; finds = look_same v.all.nodes u.all.nodes f.directory f.name k.node ∙ f.finds }
    at (inr c) = not_ours h g (v.keeper f.directory) c.before ne f.keeps

reached_on : (h : ℕ) (v u : World) (g i : ℕ) → HartStep h v u → g ≢ h → IsReached v g i → IsReached u g i
reached_on h v u g i did ne (inl p) = inl (let e = ap (λ (m : Mine). m.refs i) (did.mine g ne) in omega (arith, e, p))
reached_on h v u g i did ne (inr f) = inr (ap (λ (m : Mine). m.pending) (did.mine g ne) ∙ f)

reached_back : (h : ℕ) (v u : World) (g i : ℕ) → HartStep h v u → g ≢ h → IsReached u g i → IsReached v g i
reached_back h v u g i did ne (inl p) = inl (let e = ap (λ (m : Mine). m.refs i) (did.mine g ne) in omega (arith, e, p))
reached_back h v u g i did ne (inr f) = inr (ap (λ (m : Mine). m.pending) (sym (did.mine g ne)) ∙ f)

-- two harts' references are among all
pub two_refs : (v : World) (g h i : ℕ) → Inv v → g < hart_count → h < hart_count → g ≢ h → (v.harts g).refs i + (v.harts h).refs i + v.slots i ≤ v.refs i
two_refs v g h i inv lg lh ne = let s = sum_two hart_count g h (λ k. (v.harts k).refs i) lg lh ne in let c = inv.counts i in omega (arith, s, c)

pub one_refs : (v : World) (g i : ℕ) → Inv v → g < hart_count → (v.harts g).refs i + v.slots i ≤ v.refs i
one_refs v g i inv lg = let s = sum_part hart_count g (λ k. (v.harts k).refs i) lg in let c = inv.counts i in omega (arith, s, c)

-- what a hart keeps alone no other hart reaches
pub lone_not : (h g i : ℕ) (v : World) → Inv v → g < hart_count → g ≢ h → v.keeper i ≡ Some h → v.alone i ≡ true → IsReached v g i → ⊥
lone_not h g i v inv lg ne keeps is reaches =
    let a = inv.alone i is in
    let s : Some a.hart ≡ Some h = sym a.kept ∙ keeps in
    let e : a.hart ≡ h = cc in
    let c : v.refs i ≡ (v.harts h).refs i = a.counts ∙ ap (λ (z : ℕ). (v.harts z).refs i) e in
    let two = two_refs v g h i inv lg (inv.kept i h keeps).0 ne in
    elim reaches [
      | inl p ↦ omega (arith, c, two, p)
      | inr p ↦ (let f = inv.pending g i lg p in let l = look_live v.all f.directory i f.name inv.well f.finds in let d = a.dead in cc (l, d))
    ]

-- The directory that a hart refers to.

-- it names it
pub directory_named : (r : Row) (d : Desk) → d.directory ≡ left_or d.left r.cwd → own_names r d d.directory ≡ true
directory_named r d e = at d.left e
  where
    at : (o : Option ℕ) → d.directory ≡ left_or o r.cwd → ((r.cwd == d.directory) || (hold_names r.hold d.directory || (key_names (key_in r.keys d.opening) d.directory || is_at o d.directory))) ≡ true
    at None q = or_left (r.cwd == d.directory) _ (ap (λ (z : ℕ). r.cwd == z) q ∙ eq_self r.cwd)
    at (Some k) q = or_right (r.cwd == d.directory) _ (or_right (hold_names r.hold d.directory) _ (or_right (key_names (key_in r.keys d.opening) d.directory) _ (ap (λ (z : ℕ). k == z) q ∙ eq_self k)))

-- what a hart that rests names is its current directory in the tree
pub resting_names : (r : Row) (d : Desk) (n : ℕ) → r.hold ≡ None → d.opening ≡ None → d.left ≡ None → own_names r d n ≡ true → r.cwd ≡ n
resting_names r d n hold opening left q = eq_is r.cwd n (at (r.cwd == n) refl)
  where
    at : (b : Bool) → (r.cwd == n) ≡ b → (r.cwd == n) ≡ true
    at true e = e
    at false e = absurd (let a : own_names r d n ≡ false = (λ z. e z || (hold_names (hold z) n || (key_names (key_in r.keys (opening z)) n || is_at (left z) n))) in cc (a, q))

-- it stays when the desk's other things change
pub stands_on : (d e : Desk) (cwd : ℕ) (nodes : ℕ → Option Node) → d.lender ≡ None → e.directory ≡ d.directory → e.left ≡ d.left → Stands d cwd nodes → Stands e cwd nodes
stands_on d e cwd nodes free same left s = record { at = λ _. same ∙ s.at free ∙ (λ z. left_or (sym left z) cwd); inode_type = ap (λ (n : ℕ). type_of (nodes n)) same ∙ s.inode_type }

-- and when its type stays
pub stands_in : (d : Desk) (cwd : ℕ) (nodes ns : ℕ → Option Node) → type_of (ns d.directory) ≡ type_of (nodes d.directory) → Stands d cwd nodes → Stands d cwd ns
stands_in d cwd nodes ns same s = record { at = s.at; inode_type = same ∙ s.inode_type }

-- an open file's type stays if its inode's does
pub type_on : (nodes ns : ℕ → Option Node) (e : Entry) → type_of (ns e.file.number) ≡ type_of (nodes e.file.number) → HasType nodes e → HasType ns e
type_on nodes ns e same t = record { inode_type = same ∙ t.inode_type; written = t.written }

-- the same references
pub refers_on : (m n : Mine) (d e : Desk) → ((i : ℕ) → n.refs i ≡ m.refs i) → e.directory ≡ d.directory → References m d → References n e
refers_on m n d e same at r = record {
  few = λ i. let a = r.few i in let b = same i in omega (arith, a, b);
  home = let a = r.home in let b : n.refs e.directory ≡ m.refs d.directory = same e.directory ∙ ap m.refs at in omega (arith, a, b);
}

-- of one inode so many
pub refers_put : (m n : Mine) (d e : Desk) (i r : ℕ) → n.refs ≡ put m.refs i r → e.directory ≡ d.directory → r ≤ reference_limit → (d.directory ≡ i → 0 < r) → References m d → References n e
refers_put m n d e i r is at little home a = record {
  few = λ j. subst (λ (f : ℕ → ℕ). f j ≤ reference_limit) (sym is) (put_elim m.refs i r j (λ z. z ≤ reference_limit) (λ q. little) (λ ne. a.few j));
  home = subst (λ (f : ℕ → ℕ). 0 < f e.directory) (sym is) (subst (λ (z : ℕ). 0 < put m.refs i r z) (sym at) (put_elim m.refs i r d.directory (λ z. 0 < z) (λ q. home q) (λ ne. a.home)));
}

pub did_others : (h : ℕ) (v u : World) → HartStep h v u → (g : ℕ) → g ≢ h → own_of g u ≡ own_of g v
did_others h v u did g ne = λ i. record { inodes = λ j. inode j (did.inodes j) i; mine = did.mine g ne i; row = did.rows g ne i; ninodes = did.size i; desk = did.file_tables.desks g ne i }
  where
    inode : (j : ℕ) → Kept j v u ⊎ Changed h j v u → if_kept (u.keeper j) g (view u g j) ≡ if_kept (v.keeper j) g (view v g j)
    inode j (inl k) =
        let same : view u g j ≡ view v g j = (λ i. record { disk = k.disk i; node = k.node i; alone = k.alone i; locked = is_hart (k.lock i) g }) in
        λ i. if_kept (k.keeper i) g (same i)
    inode j (inr c) = not_kept h g (u.keeper j) (view u g j) c.after ne ∙ sym (not_kept h g (v.keeper j) (view v g j) c.before ne)

-- no other hart's open file moves
pub did_opens : (h : ℕ) (v u : World) → HartStep h v u → (g : ℕ) → g ≢ h → KeepsFiles g v u
did_opens h v u did g ne i k e lt below is at =
    let n = did.file_tables.numbers g i k e lt ne below is at in
    (n.0, n.1, n.2, (λ keeps. elim n.3 [ inl same ↦ same | inr moved ↦ not_ours h g (v.keeper e.file.number) moved.0 ne keeps ]))

-- nor by two steps
pub files_then : (g : ℕ) (u v w : World) → own_of g v ≡ own_of g u → KeepsFiles g u v → KeepsFiles g v w → KeepsFiles g u w
files_then g u v w same first then_ i k e lt below is at =
    let a = first i k e lt below is at in
    let b = then_ i k a.0 lt below (ap (λ (o : Own). o.desk.fds i) same ∙ is) a.1 in (
      b.0,
      b.1,
      b.2 ∙ a.2,
      (λ keeps.
          let kept = (kept_is g (v.keeper e.file.number) (view v g e.file.number) (view u g e.file.number) (ap (λ (o : Own). o.inodes e.file.number) same ∙ kept_here g (u.keeper e.file.number) (view u g e.file.number) keeps)).0 in
          b.3 (ap (λ (z : OpenFile). v.keeper z.number) (a.3 keeps) ∙ kept) ∙ a.3 keeps),
    )

-- what a hart has of its lender's stays if nothing of it changes
has_on : (a b : Option ℕ) (fds : ℕ → Option ℕ) (cwd there mine lenders his : ℕ) → a ≡ b → cwd ≡ there → lenders ≡ his → Has a fds cwd mine lenders → Has b fds there mine his
has_on a b fds cwd there mine lenders his ab c l x =
    subst (λ (z : ℕ). Has b fds there mine z) l (subst (λ (z : ℕ). Has b fds z mine lenders) c (subst (λ (z : Option ℕ). Has z fds cwd mine lenders) ab x))

-- Its directory in the tree is its own, or by then its lender's.
pub child_directory : (w : World) (c g : ℕ) → Lends w c g → (w.all.cwd g ≡ (w.desks g).directory) ⊎ (w.all.cwd g ≡ (w.desks c).directory)
child_directory w c g l = at (given_of (w.desks c)) l.has
  where
    at : (o : Option ℕ) → Has o (w.desks g).fds (w.all.cwd g) (w.desks g).directory (w.desks c).directory → (w.all.cwd g ≡ (w.desks g).directory) ⊎ (w.all.cwd g ≡ (w.desks c).directory)
    at None x = inl x.1
    at (Some zero) x = inr x
    at (Some (suc k)) x = inl x

pub did_inv : (h : ℕ) (v u : World) → Inv v → HartStep h v u → Inv u
did_inv h v u inv did =
    record {
      well = did.well;
      ids = did.ids;
      whole = λ j. whole j (did.inodes j);
      quiet = λ j g is free. elim (same_or g h) [
        | inl e ↦ did.quiet j (is ∙ ap (λ (z : ℕ). Some z) e) (ap (λ (z : ℕ). (u.desks z).joined) (sym e) ∙ free)
        | inr ne ↦ quiet j g ne is free (did.inodes j)
      ];
      keeps = λ j g. keeps j g (did.inodes j);
      kept = λ j g is. elim (same_or g h) [
        | inl e ↦ (subst (λ (z : ℕ). z < hart_count) (sym e) did.hart, subst (λ (z : ℕ). IsReferredTo u.desks u.files u.harts z j) (sym e) (did.kept j (is ∙ ap (λ (z : ℕ). Some z) e)))
        | inr ne ↦ kept j g ne is (did.inodes j)
      ];
      held = λ j g is. elim (same_or g h) [
        | inl e ↦ subst (λ (z : ℕ). (u.lock j ≡ Some z) ⊎ (u.alone j ≡ true)) (sym e) (did.held j (is ∙ ap (λ (z : ℕ). Some z) e))
        | inr ne ↦ held j g ne is (did.inodes j)
      ];
      alone = did.alone;
      counts = did.counts;
      refers = λ g lt. elim (same_or g h) [
        | inl e ↦ subst (λ (z : ℕ). References (u.harts z) (u.desks z)) (sym e) did.refers
        | inr ne ↦ subst (λ (m : Mine). References m (u.desks g)) (sym (did.mine g ne)) (subst (λ (d : Desk). References (v.harts g) d) (sym (did.file_tables.desks g ne)) (inv.refers g lt))
      ];
      tied = did.file_tables.tied;
      inode_types = did.inode_types;
      named = λ g i lt free is. elim (same_or g h) [
        | inl e ↦ subst (λ (z : ℕ). IsReached u z i) (sym e) (did.named i (subst (λ (z : ℕ). own_names (row_of u.all z) (u.desks z) i ≡ true) e is))
        | inr ne ↦ reached_on h v u g i did ne (inv.named g i lt (ap (λ (d : Desk). d.lender) (sym (did.file_tables.desks g ne)) ∙ free) ((λ z. own_names (sym (did.rows g ne) z) (sym (did.file_tables.desks g ne) z) i) ∙ is))
      ];
      pending = λ g i lt is. elim (same_or g h) [
        | inl e ↦ subst (λ (z : ℕ). Found u.keeper u.all.nodes z i) (sym e) (did.pending i (subst (λ (z : ℕ). (u.harts z).pending ≡ Some i) e is))
        | inr ne ↦ found_on h v u g i did ne (inv.pending g i lt (ap (λ (m : Mine). m.pending) (sym (did.mine g ne)) ∙ is))
      ];
      walks = λ g k lt is. elim (same_or g h) [
        | inl e ↦ subst (λ (z : ℕ). IsReached u z k.at) (sym e) (did.walks k (subst (λ (z : ℕ). (u.harts z).walk ≡ Some k) e is))
        | inr ne ↦ reached_on h v u g k.at did ne (inv.walks g k lt (ap (λ (m : Mine). m.walk) (sym (did.mine g ne)) ∙ is))
      ];
      noted = λ g n lt is r s. elim (same_or g h) [
        | inl e ↦ did.noted n (ap (λ (z : ℕ). (u.desks z).noted) (sym e) ∙ is) (subst (λ (z : ℕ). IsReached u z n.number) e r) s
        | inr ne ↦ (let r2 = reached_back h v u g n.number did ne r in elim (did.inode_type n.number) [
          | inl e ↦ e ∙ inv.noted g n lt (ap (λ (d : Desk). d.noted) (sym (did.file_tables.desks g ne)) ∙ is) r2 (still_shared g n.number lt ne r2 s (did.inodes n.number))
          | inr a ↦ absurd (lone_not h g n.number v inv lt ne a.0 a.1 r2)
        ])
      ];
      directory = λ g lt. elim (same_or g h) [
        | inl e ↦ subst (λ (z : ℕ). Stands (u.desks z) (u.all.cwd z) u.all.nodes) (sym e) did.directory
        | inr ne ↦ subst (λ (d : Desk). Stands d (u.all.cwd g) u.all.nodes) (sym (did.file_tables.desks g ne)) (let s = inv.directory g lt in record {
          at = λ free. s.at free ∙ (λ z. left_or (v.desks g).left (sym (did.rows g ne) z).cwd);
          inode_type = elim (did.inode_type (v.desks g).directory) [
            | inl e ↦ e ∙ s.inode_type
            | inr a ↦ absurd (lone_not h g (v.desks g).directory v inv lt ne a.0 a.1 (inl (inv.refers g lt).home))
          ];
        })
      ];
      raised = λ g lt q. elim (same_or g h) [
        | inl e ↦ ap (λ (z : ℕ). (u.desks z).joined) e ∙ did.raised (ap (λ (z : ℕ). holds_raised true (u.all.holds z)) (sym e) ∙ q)
        | inr ne ↦ ap (λ (d : Desk). d.joined) (did.file_tables.desks g ne) ∙ inv.raised g lt (ap (λ (r : Row). holds_raised true r.hold) (sym (did.rows g ne)) ∙ q)
      ];
      lent = λ g c lt is. elim (same_or g h) [
        | inl e ↦ absurd (let a = ap (λ (z : ℕ). (u.desks z).lender) (sym e) ∙ is in let b = did.free in cc (a, b))
        | inr ne ↦ lent g c ne (inv.lent g c lt (ap (λ (d : Desk). d.lender) (sym (did.file_tables.desks g ne)) ∙ is))
      ];
      serves = λ c g lt is.
          let s = inv.serves c g lt (child_was c (same_or c h) ∙ is) in (
            s.0,
            elim (same_or g h) [
              | inl e ↦ absurd (let a : (v.desks h).lender ≡ Some c = ap (λ (z : ℕ). (v.desks z).lender) (sym e) ∙ s.1 in let b : (v.desks h).lender ≡ None = ap (λ (z : Bond). z.lender) (sym did.file_tables.bond) ∙ did.free in cc (a, b))
              | inr ne ↦ ap (λ (d : Desk). d.lender) (did.file_tables.desks g ne) ∙ s.1
            ],
          );
    }
  where
    whole : (j : ℕ) → Kept j v u ⊎ Changed h j v u → u.keeper j ≡ None → u.disk j ≡ u.all.nodes j
    whole j (inl k) none = k.disk ∙ inv.whole j (sym k.keeper ∙ none) ∙ sym k.node
    whole j (inr c) none = c.whole none

    quiet : (j g : ℕ) → g ≢ h → u.keeper j ≡ Some g → (u.desks g).joined ≡ false → Kept j v u ⊎ Changed h j v u → u.disk j ≡ u.all.nodes j
    quiet j g ne is free (inl k) = k.disk ∙ inv.quiet j g (sym k.keeper ∙ is) (ap (λ (d : Desk). d.joined) (sym (did.file_tables.desks g ne)) ∙ free) ∙ sym k.node
    quiet j g ne is free (inr c) = not_ours h g (u.keeper j) c.after ne is

    child_was : (c : ℕ) → ((c ≡ h) ⊎ (c ≢ h)) → child_of (v.desks c) ≡ child_of (u.desks c)
    child_was c (inl e) = ap (λ (z : ℕ). child_of (v.desks z)) e ∙ sym (ap (λ (z : Bond). z.child) did.file_tables.bond) ∙ ap (λ (z : ℕ). child_of (u.desks z)) (sym e)
    child_was c (inr nc) = ap (λ (d : Desk). child_of d) (sym (did.file_tables.desks c nc))

    given_was : (c : ℕ) → ((c ≡ h) ⊎ (c ≢ h)) → given_of (v.desks c) ≡ given_of (u.desks c)
    given_was c (inl e) = ap (λ (z : ℕ). given_of (v.desks z)) e ∙ sym (ap (λ (z : Bond). z.given) did.file_tables.bond) ∙ ap (λ (z : ℕ). given_of (u.desks z)) (sym e)
    given_was c (inr nc) = ap (λ (d : Desk). given_of d) (sym (did.file_tables.desks c nc))

    lent : (g c : ℕ) → g ≢ h → Lends v c g → Lends u c g
    lent g c ne l = record {
      hart = l.hart;
      free = elim (same_or c h) [ inl e ↦ ap (λ (z : ℕ). (u.desks z).lender) e ∙ did.free | inr nc ↦ ap (λ (d : Desk). d.lender) (did.file_tables.desks c nc) ∙ l.free ];
      child = sym (child_was c (same_or c h)) ∙ l.child;
      rests = subst (λ (o : Own). Rests o) (sym (did_others h v u did g ne)) l.rests;
      has = subst (λ (d : Desk). Has (given_of (u.desks c)) d.fds (u.all.cwd g) d.directory (u.desks c).directory) (sym (did.file_tables.desks g ne))
          (has_on (given_of (v.desks c)) (given_of (u.desks c)) (v.desks g).fds (v.all.cwd g) (u.all.cwd g) (v.desks g).directory (v.desks c).directory (u.desks c).directory (given_was c (same_or c h)) (sym cwd) (stays (same_or c h)) l.has);
    }
      where
        cwd : u.all.cwd g ≡ v.all.cwd g
        cwd = ap (λ (r : Row). r.cwd) (did.rows g ne)

        stays : ((c ≡ h) ⊎ (c ≢ h)) → (v.desks c).directory ≡ (u.desks c).directory
        stays (inr nc) = ap (λ (d : Desk). d.directory) (sym (did.file_tables.desks c nc))
        stays (inl e) = elim did.file_tables.stays [
          | inl q ↦ ap (λ (z : ℕ). (v.desks z).directory) e ∙ sym q ∙ ap (λ (z : ℕ). (u.desks z).directory) (sym e)
          | inr q ↦ absurd (let a = l.child in let b : child_of (v.desks c) ≡ None = ap (λ (z : ℕ). child_of (v.desks z)) e ∙ q in cc (a, b))
        ]

    -- what another hart reaches wasn't this one's alone
    still_shared : (g j : ℕ) → g < hart_count → g ≢ h → IsReached v g j → u.alone j ≡ false → Kept j v u ⊎ Changed h j v u → v.alone j ≡ false
    still_shared g j lg ne r s (inl k) = sym k.alone ∙ s
    still_shared g j lg ne r s (inr c) = elim (either (v.alone j)) [
      | inr y ↦ y
      | inl y ↦ (let a = inv.alone j y in elim (same_or a.hart h) [
        | inl e ↦ absurd (lone_not h g j v inv lg ne (a.kept ∙ ap (λ (z : ℕ). Some z) e) y r)
        | inr na ↦ not_ours h a.hart (v.keeper j) c.before na a.kept
      ])
    ]

    keeps : (j g : ℕ) → Kept j v u ⊎ Changed h j v u → u.lock j ≡ Some g → u.keeper j ≡ Some g
    keeps j g (inl k) is = k.keeper ∙ inv.keeps j g (sym k.lock ∙ is)
    keeps j g (inr c) is = c.keeps g is

    kept : (j g : ℕ) → g ≢ h → u.keeper j ≡ Some g → Kept j v u ⊎ Changed h j v u → (g < hart_count) × IsReferredTo u.desks u.files u.harts g j
    kept j g ne is (inl k) = let p = inv.kept j g (sym k.keeper ∙ is) in (p.0, pinned_on h v u g j did.file_tables p.0 ne (did.mine g ne) p.1)
    kept j g ne is (inr c) = not_ours h g (u.keeper j) c.after ne is

    held : (j g : ℕ) → g ≢ h → u.keeper j ≡ Some g → Kept j v u ⊎ Changed h j v u → (u.lock j ≡ Some g) ⊎ (u.alone j ≡ true)
    held j g ne is (inl k) = elim (inv.held j g (sym k.keeper ∙ is)) [ inl a ↦ inl (k.lock ∙ a) | inr a ↦ inr (k.alone ∙ a) ]
    held j g ne is (inr c) = not_ours h g (u.keeper j) c.after ne is

-- all that a step shows to the rest
pub record Fair (h : ℕ) (v u : World) : Type 0 where
  pub inv : Inv u
  pub others : (g : ℕ) → g ≢ h → own_of g u ≡ own_of g v
  pub opens : (g : ℕ) → g ≢ h → KeepsFiles g v u
  pub clean : u.clean ≡ true → v.clean ≡ true

pub fair : {h : ℕ} {v u : World} → Inv v → HartStep h v u → Fair h v u
fair {h} {v} {u} inv did = record { inv = did_inv h v u inv did; others = did_others h v u did; opens = did_opens h v u did; clean = did.file_tables.clean }

pub fair_then : {h : ℕ} {v u w : World} → Fair h v u → Fair h u w → Fair h v w
fair_then {h} {v} {u} {w} a b = record { inv = b.inv; others = λ g ne. b.others g ne ∙ a.others g ne; opens = λ g ne. files_then g v u w (a.others g ne) (a.opens g ne) (b.opens g ne); clean = λ c. a.clean (b.clean c) }

pub fair_same : {h : ℕ} {v : World} → Inv v → Fair h v v
fair_same inv = record { inv = inv; others = λ g ne. refl; opens = λ g ne i k e lt below is at. (e, at, refl, (λ keeps. refl)); clean = λ c. c }

-- what the hart owns, when one inode changed
pub own_inodes : (h i : ℕ) (v u : World) (O : Own) (y : Option Held) → own_of h v ≡ O → if_kept (u.keeper i) h (view u h i) ≡ y
    → ((j : ℕ) → j ≢ i → (u.keeper j ≡ v.keeper j) × (view u h j ≡ view v h j)) → (own_of h u).inodes ≡ put O.inodes i y
own_inodes h i v u O y ov here there =
    is_put O.inodes (own_of h u).inodes i y here
    (λ j ne. (let a = (there j ne).0 in let b = (there j ne).1 in let c : if_kept (u.keeper j) h (view u h j) ≡ if_kept (v.keeper j) h (view v h j) = (λ i. if_kept (a i) h (b i)) in c) ∙ ap (λ (o : Own). o.inodes j) ov)

pub has_inode : (h i : ℕ) (v : World) (O : Own) (x : Held) → own_of h v ≡ O → O.inodes i ≡ Some x → (v.keeper i ≡ Some h) × (view v h i ≡ x)
has_inode h i v O x ov is = kept_is h (v.keeper i) (view v h i) x (ap (λ (o : Own). o.inodes i) ov ∙ is)

pub has_none : (h i : ℕ) (v : World) (O : Own) → own_of h v ≡ O → O.inodes i ≡ None → v.keeper i ≢ Some h
has_none h i v O ov is = none_is h (v.keeper i) (view v h i) (ap (λ (o : Own). o.inodes i) ov ∙ is)

-- a directory that is found still is
pub found_more : (h : ℕ) (v u : World) (i : ℕ) → ((d : ℕ) → v.keeper d ≡ Some h → (u.keeper d ≡ Some h) × (u.all.nodes d ≡ v.all.nodes d)) → Found v.keeper v.all.nodes h i → Found u.keeper u.all.nodes h i
found_more h v u i more f = let m = more f.directory f.keeps in record { directory = f.directory; name = f.name; keeps = m.0; finds = look_same v.all.nodes u.all.nodes f.directory f.name m.1 ∙ f.finds }
