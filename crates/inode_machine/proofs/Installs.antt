-- The descriptor of an open: the slot in hand gets the open file, which the tree has had since the step, and the hart's reference.
use Rattle.image_versions.specs.declared.version.Version.{Version}
use Rattle.inode_machine.proofs.Vocabulary.{◌≡◌, ◌≢◌, ◌⊎◌, inl, inr, ℕ, ◌+◌, ◌-◌, ◌<◌, Bool, true, false, ◌==◌, nat_lt, List, Option, Some, None, refl, sym, ◌∙◌, ap, subst, arith, Do, ExecResult, Ran, P, own, onto, Good, Fine, Safe, Wp, Node, OpenFile, hart_count, descriptor_count, put, hold_names, settle, lowest, has_room, key_is, key_names, row_of, key_from, sum_below, one_if, eq_self, eq_not, either, same_or, put_same, put_other, sum_same, sum_changed, one_yes, one_no, Step, Mine, Entry, Desk, Mark, World, Install, InodeType, type_of, OfDirectory, file_count, install_if, installed, is_at, opening_id, or_zero, marked, places, with_mark, id_at, key_in, number_is, own_names, own_of, file_tables_of, uses, users, Held, IsOpening, Own, Inv, Opens, IsReached, FileTables, IsTied, machine, HasType}
use Rattle.inode_machine.proofs.Basics.{bond_of, put_elim, stands_on, has_inode, one_refs, HartStep, Fair, fair, refers_put, s-owned, quiet, each_refs, has_node, here_refs, my_refs, total_changed, total_same, walks_refs, not_home, spares, is_at_some, less_not, users_put, users_some, with_fd, not_one}
use Rattle.inode_machine.proofs.Tables.{less_is}
use Rattle.inode_machine.proofs.Unopens.{key_more}

-- the slot s in hand, and the descriptor that the tree has
pub record MayInstall (s : FileTables) (h fd k : ℕ) (f : OpenFile) (o : IsOpening s h fd) : Type 0 where
  pub hart : h < hart_count
  pub opening : (s.desks h).opening ≡ Some fd
  pub hand : (s.desks h).hand ≡ Some k
  pub file : o.file ≡ f

abbrev pub took : (ℕ → Desk) → ℕ → ℕ → ℕ → ℕ → Desk
took D h fd k = put D h (record (D h) { fds = put (D h).fds fd (Some k); hand = None; opening = None })

abbrev pub took_file_tables : FileTables → ℕ → ℕ → ℕ → OpenFile → InodeType → ℕ → FileTables
took_file_tables s h fd k f inode_type id = record { files = put s.files k (Some (record { file = f; inode_type = inode_type; references = 1 })); desks = took s.desks h fd k; ids = put s.ids k id; slots = put s.slots f.number (s.slots f.number + 1); clean = s.clean; tree_fds = s.tree_fds; tree_files = s.tree_files }

pub takes_tied : (s : FileTables) (h fd k : ℕ) (f : OpenFile) (inode_type : InodeType) (o : IsOpening s h fd) → IsTied s → MayInstall s h fd k f o → IsTied (took_file_tables s h fd k f inode_type o.id)
takes_tied s h fd k f inode_type o tied t =
    record {
      fds = λ g i lg li q. elim (same_or g h) [
        | inl r ↦ subst (λ (z : ℕ). s.tree_fds z i ≡ id_at I ((D z).fds i)) (sym r) (mine i li)
        | inr ne ↦ tied.fds g i lg li (ap (λ (z : Desk). is_at z.opening i) (sym (put_other s.desks h new g ne)) ∙ q) ∙ same_id g i lg li ((s.desks g).fds i) refl ∙ sym (ap (λ (z : Desk). id_at I (z.fds i)) (put_other s.desks h new g ne))
      ];
      fresh = λ g i lg q. elim (same_or g h) [
        | inl r ↦ absurd (let a : (D g).opening ≡ None = ap (λ (z : ℕ). (D z).opening) r ∙ ap (λ (z : Desk). z.opening) desk_is in cc (a, q))
        | inr ne ↦ let a = tied.fresh g i lg (ap (λ (z : Desk). z.opening) (sym (put_other s.desks h new g ne)) ∙ q) in record { below = a.below; free = ap (λ (z : Desk). z.fds i) (put_other s.desks h new g ne) ∙ a.free; id = a.id; is = a.is; file = a.file; at = a.at; offset = a.offset; only = a.only }
      ];
      used = λ g i j lg li q. elim (same_or j k) [
        | inl r ↦ (one, ap F r ∙ put_same s.files k (Some one))
        | inr ne ↦ let a = old g i j lg li ne q in let b = tied.used g i j lg li a in (b.0, put_other s.files k (Some one) j ne ∙ b.1)
      ];
      lends = λ g i j lg li q. elim (same_or g h) [
        | inr ne ↦ ap (λ (z : Desk). z.fds i) (put_other s.desks h new g ne) ∙ tied.lends g i j lg li (ap (λ (z : Desk). z.lent i) (sym (put_other s.desks h new g ne)) ∙ q)
        | inl r ↦
            let l : (s.desks h).lent i ≡ Some j = sym (ap (λ (z : Desk). z.lent i) desk_is) ∙ ap (λ (z : ℕ). (D z).lent i) (sym r) ∙ q in
            let d = tied.lends h i j t.hart li l in
            ap (λ (z : ℕ). (D z).fds i) r ∙ ap (λ (z : Desk). z.fds i) desk_is ∙ put_other (s.desks h).fds fd (Some k) i (λ e. absurd (let a : (s.desks h).fds i ≡ None = ap (s.desks h).fds e ∙ o.free in cc (a, d))) ∙ d
      ];
      hand = λ g j lg q. elim (same_or g h) [
        | inl r ↦ absurd (let a : (D g).hand ≡ None = ap (λ (z : ℕ). (D z).hand) r ∙ ap (λ (z : Desk). z.hand) desk_is in cc (a, q))
        | inr ne ↦
            let a = ap (λ (z : Desk). z.hand) (sym (put_other s.desks h new g ne)) ∙ q in
            let b = tied.hand g j lg a in
            (b.0, put_other s.files k (Some one) j (λ r. ne (tied.hands g h k lg t.hart (a ∙ ap (λ (z : ℕ). Some z) r) t.hand)) ∙ b.1)
      ];
      hands = λ g j m lg lj p q. tied.hands g j m lg lj (was_hand g m p) (was_hand j m q);
      within = λ j e q. elim (same_or j k) [ inl r ↦ subst (λ (z : ℕ). z < file_count) (sym r) (tied.hand h k t.hart t.hand).0 | inr ne ↦ tied.within j e (sym (put_other s.files k (Some one) j ne) ∙ q) ];
      files = λ j e q. elim (same_or j k) [
        | inl r ↦ ap s.tree_files (ap I r ∙ put_same s.ids k o.id) ∙ o.at ∙ ap (λ (z : OpenFile). Some z) t.file ∙ ap (λ (z : Entry). Some z.file) (here j e r q)
        | inr ne ↦ ap s.tree_files (put_other s.ids k o.id j ne) ∙ tied.files j e (sym (put_other s.files k (Some one) j ne) ∙ q)
      ];
      apart = λ j l e d p q r. apart j l e d p q r (same_or j k) (same_or l k);
      counted = λ j e q. elim (same_or j k) [
        | inl r ↦ (ap (λ (z : Entry). z.references) (sym (here j e r q)) ∙ (let a = users_is k in let b = unused in let c : one_if (k == k) ≡ 1 = one_yes (k == k) (eq_self k) in let d : 1 ≡ users D k = omega (arith, a, b, c) in d) ∙ ap (λ (z : ℕ). users D z) (sym r), subst (λ (z : Entry). 0 < z.references) (here j e r q) (omega arith))
        | inr ne ↦ let c = tied.counted j e (sym (put_other s.files k (Some one) j ne) ∙ q) in let a = users_is j in let b = not_one k j (λ z. ne (sym z)) in (omega (arith, a, b, (c.0)), c.1)
      ];
      slots = λ n. slots n;
      spoiled = λ g q. tied.spoiled g (put_elim s.desks h new g (λ d. d.full ≡ true → (s.desks g).full ≡ true) (λ r p. ap (λ (z : ℕ). (s.desks z).full) r ∙ p) (λ ne p. p) q);
    }
  where
    one : Entry
    one = record { file = f; inode_type = inode_type; references = 1 }

    new : Desk
    new = record (s.desks h) { fds = put (s.desks h).fds fd (Some k); hand = None; opening = None }

    D : ℕ → Desk
    D = took s.desks h fd k

    F : ℕ → Option Entry
    F = put s.files k (Some one)

    I : ℕ → ℕ
    I = put s.ids k o.id

    desk_is : D h ≡ new
    desk_is = put_same s.desks h new

    empty : s.files k ≡ None
    empty = (tied.hand h k t.hart t.hand).1

    not_k : (g i j : ℕ) → g < hart_count → i < descriptor_count → (s.desks g).fds i ≡ Some j → j ≢ k
    not_k g i j lg li q r = let u = tied.used g i j lg li q in let a : s.files j ≡ None = ap s.files r ∙ empty in absurd (let b = u.1 in cc (a, b))

    same_id : (g i : ℕ) → g < hart_count → i < descriptor_count → (x : Option ℕ) → (s.desks g).fds i ≡ x → id_at s.ids ((s.desks g).fds i) ≡ id_at I ((s.desks g).fds i)
    same_id g i lg li None q = ap (λ (z : Option ℕ). id_at s.ids z) q ∙ sym (ap (λ (z : Option ℕ). id_at I z) q)
    same_id g i lg li (Some j) q = ap (λ (z : Option ℕ). id_at s.ids z) q ∙ ap (λ (z : ℕ). Some z) (sym (put_other s.ids k o.id j (not_k g i j lg li q))) ∙ sym (ap (λ (z : Option ℕ). id_at I z) q)

    mine : (i : ℕ) → i < descriptor_count → s.tree_fds h i ≡ id_at I ((D h).fds i)
    mine i li = elim (same_or i fd) [
      | inl r ↦ ap (s.tree_fds h) r ∙ o.is ∙ ap (λ (z : ℕ). Some z) (sym (put_same s.ids k o.id)) ∙ sym (ap (λ (z : Option ℕ). id_at I z) (ap (λ (z : Desk). z.fds i) desk_is ∙ ap (put (s.desks h).fds fd (Some k)) r ∙ put_same (s.desks h).fds fd (Some k)))
      | inr ne ↦ tied.fds h i t.hart li (ap (λ (z : Option ℕ). is_at z i) t.opening ∙ eq_not fd i (λ z. ne (sym z))) ∙ same_id h i t.hart li ((s.desks h).fds i) refl ∙ sym (ap (λ (z : Option ℕ). id_at I z) (ap (λ (z : Desk). z.fds i) desk_is ∙ put_other (s.desks h).fds fd (Some k) i ne))
    ]

    old : (g i j : ℕ) → g < hart_count → i < descriptor_count → j ≢ k → (D g).fds i ≡ Some j → (s.desks g).fds i ≡ Some j
    old g i j lg li nk q = elim (same_or g h) [
      | inr ne ↦ ap (λ (z : Desk). z.fds i) (sym (put_other s.desks h new g ne)) ∙ q
      | inl r ↦
          let a : put (s.desks h).fds fd (Some k) i ≡ Some j = sym (ap (λ (z : Desk). z.fds i) desk_is) ∙ ap (λ (z : ℕ). (D z).fds i) (sym r) ∙ q in
          elim (same_or i fd) [
            | inl e ↦ absurd (let b : Some k ≡ Some j = sym (put_same (s.desks h).fds fd (Some k)) ∙ ap (put (s.desks h).fds fd (Some k)) (sym e) ∙ a in let c : k ≡ j = cc in nk (sym c))
            | inr ni ↦ ap (λ (z : ℕ). (s.desks z).fds i) r ∙ sym (put_other (s.desks h).fds fd (Some k) i ni) ∙ a
          ]
    ]

    was_hand : (g m : ℕ) → (D g).hand ≡ Some m → (s.desks g).hand ≡ Some m
    was_hand g m = put_elim s.desks h new g (λ d. d.hand ≡ Some m → (s.desks g).hand ≡ Some m) (λ r p. absurd cc) (λ ne p. p)

    here : (j : ℕ) (e : Entry) → j ≡ k → F j ≡ Some e → one ≡ e
    here j e r q = let a : Some one ≡ Some e = sym (put_same s.files k (Some one)) ∙ ap F (sym r) ∙ q in cc

    -- no slot of the table has the id of what is being opened
    other_id : (l : ℕ) (d : Entry) → s.files l ≡ Some d → s.ids l ≢ o.id
    other_id l d q e =
        let c = tied.counted l d q in
        let u = users_some s.desks l tied.lends (let a = c.0 in let b = c.1 in omega (arith, a, b)) in
        let not_open : is_at (s.desks u.0).opening u.2 ≡ false = (elim (either (is_at (s.desks u.0).opening u.2)) [
          | inr y ↦ y
          | inl y ↦ absurd (let a = (tied.fresh u.0 u.2 u.1 (at_some (s.desks u.0).opening u.2 y)).free in let b = u.4 in cc (a, b))
        ]) in
        let m = o.only u.0 u.2 u.1 u.3 (tied.fds u.0 u.2 u.1 u.3 not_open ∙ ap (λ (z : Option ℕ). id_at s.ids z) u.4 ∙ ap (λ (z : ℕ). Some z) e) in
        absurd (let a : (s.desks u.0).fds u.2 ≡ (s.desks h).fds fd = (λ r. (s.desks (m.0 r)).fds (m.1 r)) in let b = o.free in let x = u.4 in cc (a, b, x))
      where
        at_some : (x : Option ℕ) (j : ℕ) → is_at x j ≡ true → x ≡ Some j
        at_some x j y = is_at_some x j y

    apart : (j l : ℕ) (e d : Entry) → F j ≡ Some e → F l ≡ Some d → I j ≡ I l → ((j ≡ k) ⊎ (j ≢ k)) → ((l ≡ k) ⊎ (l ≢ k)) → j ≡ l
    apart j l e d p q r (inl a) (inl b) = a ∙ sym b
    apart j l e d p q r (inr a) (inr b) = tied.apart j l e d (sym (put_other s.files k (Some one) j a) ∙ p) (sym (put_other s.files k (Some one) l b) ∙ q) (sym (put_other s.ids k o.id j a) ∙ r ∙ put_other s.ids k o.id l b)
    apart j l e d p q r (inl a) (inr b) = absurd (other_id l d (sym (put_other s.files k (Some one) l b) ∙ q) (sym (put_other s.ids k o.id l b) ∙ sym r ∙ ap I a ∙ put_same s.ids k o.id))
    apart j l e d p q r (inr a) (inl b) = absurd (other_id j e (sym (put_other s.files k (Some one) j a) ∙ p) (sym (put_other s.ids k o.id j a) ∙ r ∙ ap I b ∙ put_same s.ids k o.id))

    users_is : (j : ℕ) → users D j ≡ users s.desks j + one_if (k == j)
    users_is j =
        let a = users_put s.desks h fd j (Some k) t.hart o.below in
        let b : one_if (is_at ((s.desks h).fds fd) j) ≡ 0 = ap (λ (z : Option ℕ). one_if (is_at z j)) o.free ∙ one_no false refl in
        let c : users D j ≡ users (with_fd s.desks h fd (Some k)) j = sum_same hart_count (λ g. uses (with_fd s.desks h fd (Some k) g) j) (λ g. uses (D g) j) (λ g lg. fds_same g) in
        omega (arith, a, b, c)
      where
        fds_same : (g : ℕ) → uses (D g) j ≡ uses (with_fd s.desks h fd (Some k) g) j
        fds_same g = elim (same_or g h) [
          | inl r ↦ ap (λ (z : ℕ). uses (D z) j) r ∙ ap (λ (z : Desk). uses z j) desk_is ∙ sym (ap (λ (z : Desk). uses z j) (put_same s.desks h (record (s.desks h) { fds = put (s.desks h).fds fd (Some k) }))) ∙ ap (λ (z : ℕ). uses (with_fd s.desks h fd (Some k) z) j) (sym r)
          | inr ne ↦ ap (λ (z : Desk). uses z j) (put_other s.desks h new g ne) ∙ sym (ap (λ (z : Desk). uses z j) (put_other s.desks h (record (s.desks h) { fds = put (s.desks h).fds fd (Some k) }) g ne))
        ]

    unused : users s.desks k ≡ 0
    unused = go (nat_lt 0 (users s.desks k)) refl
      where
        go : (b : Bool) → nat_lt 0 (users s.desks k) ≡ b → users s.desks k ≡ 0
        go false q = less_not (users s.desks k) q
        go true q = absurd (let u = users_some s.desks k tied.lends (less_is 0 (users s.desks k) q) in not_k u.0 u.2 k u.1 u.3 u.4 refl)

    slots : (n : ℕ) → put s.slots f.number (s.slots f.number + 1) n ≡ sum_below file_count (λ j. number_is (F j) n)
    slots n =
        let a = sum_changed file_count k (λ j. number_is (s.files j) n) (λ j. number_is (F j) n) (tied.hand h k t.hart t.hand).0 (λ j ne. ap (λ (z : Option Entry). number_is z n) (put_other s.files k (Some one) j ne)) in
        let b : number_is (F k) n ≡ one_if (f.number == n) = ap (λ (z : Option Entry). number_is z n) (put_same s.files k (Some one)) in
        let c : number_is (s.files k) n ≡ 0 = ap (λ (z : Option Entry). number_is z n) empty in
        let d = tied.slots n in
        elim (same_or n f.number) [
          | inl q ↦ (let p : put s.slots f.number (s.slots f.number + 1) n ≡ s.slots f.number + 1 = ap (put s.slots f.number (s.slots f.number + 1)) q ∙ put_same s.slots f.number (s.slots f.number + 1) in let x : one_if (f.number == n) ≡ 1 = one_yes (f.number == n) (ap (λ (z : ℕ). f.number == z) q ∙ eq_self f.number) in let r : s.slots n ≡ s.slots f.number = ap s.slots q in omega (arith, a, b, c, d, p, x, r))
          | inr ne ↦ (let p = put_other s.slots f.number (s.slots f.number + 1) n ne in let x = not_one f.number n (λ z. ne (sym z)) in omega (arith, a, b, c, d, p, x))
        ]

same_file : (a b : OpenFile) → key_is a ≡ key_is b → a.offset ≡ b.offset → a ≡ b
same_file a b k o = λ i. record { number = (k i).number; offset = o i; readable = (k i).readable; writable = (k i).writable }

-- what the hart has then
abbrev pub own_installed : Own → ℕ → ℕ → ℕ → Own
own_installed O j fd s = record O { mine = record { refs = put O.mine.refs j (O.mine.refs j - 1); walk = O.mine.walk; pending = O.mine.pending }; desk = record (O.desk) { fds = put O.desk.fds fd (Some s); hand = None; opening = None } }

pub record Installing (h fd s : ℕ) (f : OpenFile) (inode_type : InodeType) (O : Own) (v : World) : Type 0 where
  pub lands : Fair h v (installed h v f inode_type s fd)
  pub owned : own_of h (installed h v f inode_type s fd) ≡ own_installed O f.number fd s

-- The descriptor is taken: the open file is in the slot, and has the hart's reference.
pub installing : Version → (h fd s : ℕ) (f : OpenFile) (inode_type : InodeType) (x : Held) (v : World) (O : Own) → own_of h v ≡ O → O.desk.lender ≡ None → h < hart_count → Inv v → O.desk.opening ≡ Some fd → O.desk.hand ≡ Some s → O.row.keys fd ≡ Some (key_is f) → f.offset ≡ 0
    → O.mine.walk ≡ None → O.mine.pending ≡ None → O.inodes f.number ≡ Some x → x.alone ≡ false → type_of x.node ≡ Some inode_type → (f.writable ≡ true → inode_type ≢ OfDirectory) → 0 < O.mine.refs f.number → ((1 < O.mine.refs f.number) ⊎ (own_names O.row (record (O.desk) { opening = None }) f.number ≡ false))
    → Installing h fd s f inode_type O v
installing version h fd s f inode_type x v O ov free lt inv opens hand keyed start walks none isi shared typed written refers may = record { lands = fair inv did; owned = owned }
  where
    i0 : ℕ
    i0 = f.number

    u : World
    u = installed h v f inode_type s fd

    opened : (v.desks h).opening ≡ Some fd
    opened = ap (λ (o : Own). o.desk.opening) ov ∙ opens

    o : IsOpening (file_tables_of v) h fd
    o = inv.tied.fresh h fd lt opened

    file : o.file ≡ f
    file = same_file o.file f (let a : Some (key_is o.file) ≡ Some (key_is f) = sym (key_from v.all h fd o.id o.file lt o.below o.is o.at) ∙ ap (λ (p : Own). p.row.keys fd) ov ∙ keyed in cc) (o.offset ∙ sym start)

    id_is : opening_id v h ≡ o.id
    id_is = ap (λ (z : Option ℕ). or_zero (v.all.fds h (or_zero z))) opened ∙ ap (λ (z : Option ℕ). or_zero z) o.is

    tied : IsTied (file_tables_of u)
    tied = subst (λ (z : ℕ). IsTied (took_file_tables (file_tables_of v) h fd s f inode_type z)) (sym id_is) (takes_tied (file_tables_of v) h fd s f inode_type o inv.tied (record { hart = lt; opening = opened; hand = ap (λ (p : Own). p.desk.hand) ov ∙ hand; file = file }))

    new : Mine
    new = record { refs = put (v.harts h).refs i0 ((v.harts h).refs i0 - 1); walk = (v.harts h).walk; pending = (v.harts h).pending }

    desk : Desk
    desk = record (v.desks h) { fds = put (v.desks h).fds fd (Some s); hand = None; opening = None }

    desk_is : u.desks h ≡ desk
    desk_is = put_same v.desks h desk

    more : 0 < (v.harts h).refs i0
    more = let r = my_refs h v O i0 ov in omega (arith, r, refers)

    here : u.files s ≡ Some (record { file = f; inode_type = inode_type; references = 1 })
    here = put_same v.files s (Some (record { file = f; inode_type = inode_type; references = 1 }))

    grow : (j : ℕ) → ((j ≡ i0) → 1 < (v.harts h).refs i0) → 0 < (v.harts h).refs j → 0 < (u.harts h).refs j
    grow j ok a = elim (same_or j i0) [
      | inl q ↦ subst (λ (z : ℕ). 0 < (u.harts h).refs z) (sym q) (let r = here_refs v.harts h i0 ((v.harts h).refs i0 - 1) in let x = ok q in omega (arith, r, x))
      | inr ne ↦ (let r = each_refs v.harts h i0 ((v.harts h).refs i0 - 1) h j (inr ne) in omega (arith, r, a))
    ]

    new_pin : Opens (u.desks h).fds u.files i0
    new_pin = record { fd = fd; below = o.below; slot = s; is = ap (λ (d : Desk). d.fds fd) (put_same v.desks h desk) ∙ put_same (v.desks h).fds fd (Some s); entry = record { file = f; inode_type = inode_type; references = 1 }; at = here; number = refl }

    pend : (v.harts h).pending ≡ None
    pend = ap (λ (p : Own). p.mine.pending) ov ∙ none

    named : (j : ℕ) → own_names (row_of v.all h) (u.desks h) j ≡ true → IsReached u h j
    named j is =
        let bare : own_names (row_of v.all h) (record (v.desks h) { opening = None }) j ≡ true = (λ z. own_names (row_of v.all h) (sym (put_same v.desks h desk) z) j) ∙ is in
        elim (inv.named h j lt (ap (λ (o : Own). o.desk.lender) ov ∙ free) (key_more (v.all.cwd h == j) (hold_names (v.all.holds h) j) (key_names (key_in (row_of v.all h).keys (v.desks h).opening) j) (is_at (v.desks h).left j) bare)) [
          | inr p ↦ absurd (cc (p, pend))
          | inl p ↦ inl (grow j (λ q. elim may [
            | inl m ↦ (let r = my_refs h v O i0 ov in omega (arith, r, m))
            | inr m ↦ absurd (let a : own_names O.row (record (O.desk) { opening = None }) i0 ≡ true = ap (λ (p : Own). own_names p.row (record (p.desk) { opening = None }) i0) (sym ov) ∙ ap (own_names (row_of v.all h) (record (v.desks h) { opening = None })) (sym q) ∙ bare in cc (a, m))
          ]) p)
        ]

    -- what it reaches now it did before
    shrink : (j : ℕ) → IsReached u h j → IsReached v h j
    shrink j (inr p) = inr (sym (ap (λ (m : Mine). m.pending) (put_same v.harts h new)) ∙ p)
    shrink j (inl p) = elim (same_or j i0) [
      | inl q ↦ inl (subst (λ (z : ℕ). 0 < (v.harts h).refs z) (sym q) more)
      | inr ne ↦ inl (let r = each_refs v.harts h i0 ((v.harts h).refs i0 - 1) h j (inr ne) in omega (arith, r, p))
    ]

    stays : (j : ℕ) (e : Entry) → v.files j ≡ Some e → u.files j ≡ Some e
    stays j e a = put_other v.files s (Some (record { file = f; inode_type = inode_type; references = 1 })) j (λ q. absurd (let x = (inv.tied.hand h s lt (ap (λ (p : Own). p.desk.hand) ov ∙ hand)).1 in let y : v.files j ≡ v.files s = ap v.files q in cc (a, x, y))) ∙ a

    home : (v.desks h).directory ≡ i0 → 0 < (v.harts h).refs i0 - 1
    home q = elim may [
      | inl m ↦ (let r = my_refs h v O i0 ov in omega (arith, r, m))
      | inr m ↦ absurd (not_home h i0 v O None inv ov free lt m (ap (λ (p : Own). p.desk.directory) (sym ov) ∙ q))
    ]

    did : HartStep h v u
    did = record {
      hart = lt;
      inodes = λ j. inl (record { lock = refl; keeper = refl; disk = refl; node = refl; alone = refl });
      mine = λ g ne. put_other v.harts h new g ne;
      rows = λ g ne. refl;
      size = refl;
      ids = inv.ids;
      file_tables = record { tied = tied; desks = λ g ne. put_other v.desks h desk g ne; numbers = λ g i j e lg ne li r a. (e, stays j e a, refl, inl refl); clean = λ c. c; bond = ap (λ (d : Desk). bond_of d) desk_is; stays = inl (ap (λ (d : Desk). d.directory) desk_is) };
      free = ap (λ (d : Desk). d.lender) desk_is ∙ ap (λ (p : Own). p.desk.lender) ov ∙ free;
      raised = λ q. ap (λ (d : Desk). d.joined) desk_is ∙ inv.raised h lt q;
      quiet = λ j is g. inv.quiet j h is (sym (ap (λ (d : Desk). d.joined) desk_is) ∙ g);
      inode_type = λ j. inl refl;
      inode_types = λ k e is. elim (same_or k s) [
        | inl q ↦ (let a : Some (record { file = f; inode_type = inode_type; references = 1 }) ≡ Some e = sym here ∙ ap u.files (sym q) ∙ is in let b : record { file = f; inode_type = inode_type; references = 1 } ≡ e = cc in subst (λ (z : Entry). HasType v.all.nodes z) b (record { inode_type = ap (λ (z : Option Node). type_of z) (has_node h i0 v O x ov isi) ∙ typed; written = written }))
        | inr ne ↦ inv.inode_types k e (sym (put_other v.files s (Some (record { file = f; inode_type = inode_type; references = 1 })) k ne) ∙ is)
      ];
      noted = λ m q r g. inv.noted h m lt (sym (ap (λ (d : Desk). d.noted) desk_is) ∙ q) (shrink m.number r) g;
      directory = stands_on (v.desks h) (u.desks h) (v.all.cwd h) v.all.nodes (ap (λ (o : Own). o.desk.lender) ov ∙ free) (ap (λ (d : Desk). d.directory) desk_is) (ap (λ (d : Desk). d.left) desk_is) (inv.directory h lt);
      refers = refers_put (v.harts h) (u.harts h) (v.desks h) (u.desks h) i0 ((v.harts h).refs i0 - 1) (ap (λ (m : Mine). m.refs) (put_same v.harts h new)) (ap (λ (d : Desk). d.directory) desk_is) (let a = (inv.refers h lt).few i0 in omega (arith, a)) (λ q. home q) (inv.refers h lt);
      well = inv.well;
      counts = λ j. elim (same_or j i0) [
        | inl q ↦ subst (λ (z : ℕ). v.refs z ≡ put v.slots i0 (v.slots i0 + 1) z + sum_below hart_count (λ g. (u.harts g).refs z)) (sym q)
            (let t = total_changed v.harts h i0 ((v.harts h).refs i0 - 1) lt in let c = inv.counts i0 in let p = put_same v.slots i0 (v.slots i0 + 1) in let m = more in let x = one_refs v h i0 inv lt in omega (arith, t, c, p, m, x))
        | inr ne ↦ (let t = total_same v.harts h i0 ((v.harts h).refs i0 - 1) j ne in let c = inv.counts j in let p = put_other v.slots i0 (v.slots i0 + 1) j ne in omega (arith, t, c, p))
      ];
      alone = λ j is.
          let ne : j ≢ i0 = (λ q. absurd (let a : v.alone i0 ≡ false = ap (λ (y : Held). y.alone) (has_inode h i0 v O x ov isi).1 ∙ shared in let b : v.alone j ≡ v.alone i0 = ap v.alone q in cc (a, b, is))) in
          let a = inv.alone j is in
          record { hart = a.hart; kept = a.kept; dead = a.dead; counts = a.counts ∙ sym (each_refs v.harts h i0 ((v.harts h).refs i0 - 1) a.hart j (inr ne)) };
      kept = λ j is. elim (inv.kept j h is).1 [
        | inl x ↦ inl (record { fd = x.fd; below = x.below; slot = x.slot; is = ap (λ (d : Desk). d.fds x.fd) (put_same v.desks h desk) ∙ put_other (v.desks h).fds fd (Some s) x.fd (λ q. absurd (let y : (v.desks h).fds x.fd ≡ None = ap (v.desks h).fds q ∙ o.free in let z = x.is in cc (y, z))) ∙ x.is; entry = x.entry; at = stays x.slot x.entry x.at; number = x.number })
        | inr p ↦ elim (same_or j i0) [ inl q ↦ inl (subst (λ (z : ℕ). Opens (u.desks h).fds u.files z) (sym q) new_pin) | inr ne ↦ inr (grow j (λ q. absurd (ne q)) p) ]
      ];
      held = λ j is. inv.held j h is;
      named = λ j is. named j is;
      pending = λ j is. absurd (let p : (u.harts h).pending ≡ (v.harts h).pending = ap (λ (m : Mine). m.pending) (put_same v.harts h new) in cc (p, is, pend));
      walks = λ y is. absurd (let p : (u.harts h).walk ≡ (v.harts h).walk = ap (λ (m : Mine). m.walk) (put_same v.harts h new) in let q : (v.harts h).walk ≡ None = ap (λ (p : Own). p.mine.walk) ov ∙ walks in cc (p, is, q));
    }

    owned : own_of h u ≡ own_installed O f.number fd s
    owned = λ z. record {
      inodes = ap (λ (p : Own). p.inodes) ov z;
      mine = (put_same v.harts h new ∙ ap (λ (p : Own). record { refs = put p.mine.refs f.number (p.mine.refs f.number - 1); walk = p.mine.walk; pending = p.mine.pending }) ov) z;
      row = ap (λ (p : Own). p.row) ov z;
      ninodes = ap (λ (p : Own). p.ninodes) ov z;
      desk = (put_same v.desks h desk ∙ ap (λ (p : Own). record (p.desk) { fds = put p.desk.fds fd (Some s); hand = None; opening = None }) ov) z;
    }

pub s-install : (version : Version) {A : Type 0} {h : ℕ} {x : Held} (fd s : ℕ) (f : OpenFile) (inode_type : InodeType) {m : Option ℕ → Option Mark} {k : Option ℕ → P (machine version) A} {B : List Step → Type 0} {Q : A → List Step → World → Type 0} {n : ℕ} {es : List Step} {w : World} {O : Own}
    → own_of h w ≡ O → O.desk.lender ≡ None → h < hart_count → 0 < n → O.desk.opening ≡ Some fd → O.desk.hand ≡ Some s → has_room O.desk.fds ≡ true → lowest O.desk.fds ≡ fd → O.row.keys fd ≡ Some (key_is f) → f.offset ≡ 0 → m (Some fd) ≡ None
    → O.mine.walk ≡ None → O.mine.pending ≡ None → O.inodes f.number ≡ Some x → x.alone ≡ false → type_of x.node ≡ Some inode_type → (f.writable ≡ true → inode_type ≢ OfDirectory) → 0 < O.mine.refs f.number → ((1 < O.mine.refs f.number) ⊎ (own_names O.row (record (O.desk) { opening = None }) f.number ≡ false))
    → ((l : ℕ) (u : World) → l + 1 ≡ n
    → own_of h u ≡ own_installed O f.number fd s
    → Safe (machine version) h B Q (k (Some fd)) l es u)
    → Safe (machine version) h B Q (Do (Install f inode_type) m k) n es w
s-install version {A} {h} {x} fd s f inode_type {m} {k} {B} {Q} {n} {es} {w} {O} owns free lt pos opens hand room low keyed start unmarked walks none isi shared typed written refers may rest = s-owned version owns free pos (λ v inv ov.
    let a : (v.desks h).hand ≡ Some s = ap (λ (o : Own). o.desk.hand) ov ∙ hand in
    let b : has_room (v.desks h).fds ≡ true = ap (λ (o : Own). has_room o.desk.fds) ov ∙ room in
    let c : lowest (v.desks h).fds ≡ fd = ap (λ (o : Own). lowest o.desk.fds) ov ∙ low in (
      ((λ q. cc (a, q)), start, spares h f.number v O ov refers (elim may [ inl y ↦ inl y | inr y ↦ inr (not_home h f.number v O None inv ov free lt y) ])),
      (λ _ _. subst (λ (z : ExecResult (Option ℕ) World). Good (machine version) (Option ℕ) h (λ a. places version h (Install f inode_type) a (m a) v) 0 n B es v ⊥ (with_mark version h m z) (λ l a u. Wp (machine version) h B Q (k a) l (onto (own h (places version h (Install f inode_type) a (m a) v)) es) u))
          (sym ((λ i. install_if h v f inode_type (a i) (b i)) ∙ (λ i. Ran (Some (c i)) (installed h v f inode_type s (c i))))) (
          let at = installing version h fd s f inode_type x v O ov free lt inv opens hand keyed start walks none isi shared typed written refers may in
          subst (λ (z : Option Mark). Fine (machine version) h (places version h (Install f inode_type) (Some fd) z v) 0 n B es v (marked version h z (installed h v f inode_type s fd)) (λ l. Wp (machine version) h B Q (k (Some fd)) l (onto (own h (places version h (Install f inode_type) (Some fd) z v)) es) (marked version h z (installed h v f inode_type s fd)))) (sym unmarked)
          (quiet version at.lands (λ z. record { tree = settle v.all; walk = walks_refs v.harts h f.number ((v.harts h).refs f.number - 1) z }) pos (λ l q. (rest l (installed h v f inode_type s fd) q at.owned).wp)))),
    ))
