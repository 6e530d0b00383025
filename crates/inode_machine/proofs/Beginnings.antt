-- A walk begins at its path's start, to which a reference is counted.
use Rattle.image_versions.specs.declared.version.Version.{Version}
use Rattle.inode_machine.proofs.Vocabulary.{◌≡◌, ◌≢◌, inl, inr, ℕ, ◌+◌, ◌<◌, Bool, true, false, nat_lt, ◌==◌, ◌||◌, List, ◌∷◌, Option, Some, None, refl, sym, ◌∙◌, ap, subst, arith, if◌then◌else◌, Do, own, onto, Fine, Good, Safe, Wp, Reply, Node, NodeKind, Directory, File, Device, Action, hart_count, root, Name, Tree, is_directory, is_live, live_directory, put, elements, start_of, is_absolute, settle, hold_names, path_of, follows_path, IsInPlace, Row, key_names, row_of, settled_row, one_if, IsWellFormed, folder_dead, either, and_true, eq_self, same_or, put_same, put_other, Walk, Stage, Step, Begin, Note, World, stage_of, UpStart, OfDirectory, type_of, type_of_kind, counted_up, start_if, start_number, has_place, is_at, with_walk, begun as begun_by, marked, mended, new_id, places, with_mark, Own, Held, key_in, left_or, own_names, own_of, Inv, machine, ThisP as P, WalkStop, NoMemory, begins_unless_full, makes, start_on}
use Rattle.tree_laws.specs.Moves.{StartLeadsTo}
use Rattle.inode_machine.proofs.Basics.{AllNames, fair, fair_then, has_node, root_live, s-owned, locks_none, MayRefer, Ups, ups, walk_did, own_walk, stage_walk, moves_good, spoilt, KeepsHold, mends, IsListed, listed_held, times, one_at, one_else, listed_free, listed_on, stays_same, names_stay, On, Gone, Ready, few_listed, Known}

-- a live directory is one
live_type : (o : Option Node) → live_directory o ≡ true → type_of o ≡ Some OfDirectory
live_type None e = absurd cc
live_type (Some v) e = at v.kind (and_true (nat_lt 0 v.count) (is_directory v.kind) e).1
  where
    at : (k : NodeKind) → is_directory k ≡ true → Some (type_of_kind k) ≡ Some OfDirectory
    at (Directory slots) q = refl
    at (File bytes) q = absurd cc
    at (Device major minor size) q = absurd cc

pub root_type : (t : Tree) → IsWellFormed t → type_of (t.nodes root) ≡ Some OfDirectory
root_type t well = elim (either (live_directory (t.nodes root))) [
  | inl y ↦ live_type (t.nodes root) y
  | inr y ↦ absurd (well.forest.rooted (folder_dead (t.nodes root) y))
]

-- A reference was counted to the start, i. O: what the hart had before.
pub record Begun (h i : ℕ) (s : Action) (base : ℕ → ℕ) (ns : List ℕ) (O : Own) (v : World) : Type 0 where
  pub up : Ups h i O v
  pub start : i ≡ start_of v.all h (path_of s)
  pub inode_type : type_of (v.all.nodes i) ≡ Some OfDirectory
  pub refs : (j : ℕ) → put O.mine.refs i (O.mine.refs i + 1) j ≡ base j + times j ns + one_if (i == j)
  pub apart : (j : ℕ) → 0 < times j ns → j ≢ i
  pub out : O.inodes i ≡ None

pub s-begin : (version : Version) (h : ℕ) (s : Action) (B : List Step → Type 0) (Q : Reply → List Step → World → Type 0) (base : ℕ → ℕ) (O0 : Own) (ns : List ℕ) (n : ℕ) (es : List Step) (w : World) (O : Own) (go : ℕ → P Reply) (lost : WalkStop → List ℕ → P Reply)
    → h < hart_count → Ready base O0 → Gone h base ns O0 O w → 0 < n → ((m : Note) → O.desk.noted ≡ Some m → 0 < O.mine.refs m.number)
    → ((i : ℕ) (v : World) → Inv v → own_of h v ≡ O → Begun h i s base ns O v
    → Fine (machine version) h (places version h (UpStart (is_absolute (path_of s))) (Some i) (makes (Begin s 0)) v) 0 n B es v (marked version h (makes (Begin s 0)) (counted_up h i v)) (λ l. Wp (machine version) h B Q (go i) l (onto (own h (places version h (UpStart (is_absolute (path_of s))) (Some i) (makes (Begin s 0)) v)) es) (marked version h (makes (Begin s 0)) (counted_up h i v))))
    → ((l : ℕ) (u : World) (R : Own) → l + 1 ≡ n → Gone h base ns O0 R u → R.desk.full ≡ true → Safe (machine version) h B Q (lost NoMemory ns) l es u)
    → Safe (machine version) h B Q (Do (UpStart (is_absolute (path_of s))) (begins_unless_full s) (start_on go lost ns)) n es w
s-begin version h s B Q base O0 ns n es w O go lost lt ready at pos notes then_ full = s-owned version at.owns free pos (λ v inv ov. (locks_none h v O inv ov (listed_free O base ns at.listed), (λ _ _. tried v inv ov (has_place v (start_number (v.desks h) (is_absolute (path_of s)))))))
  where
    free : O.desk.lender ≡ None
    free = at.stays.lender ∙ ready.free

    tried : (v : World) → Inv v → own_of h v ≡ O → (p : Bool)
        → Good (machine version) (Option ℕ) h (λ a. places version h (UpStart (is_absolute (path_of s))) a (begins_unless_full s a) v) 0 n B es v ⊥ (with_mark version h (begins_unless_full s) (start_if h (start_number (v.desks h) (is_absolute (path_of s))) v p)) (λ l a u. Wp (machine version) h B Q (start_on go lost ns a) l (onto (own h (places version h (UpStart (is_absolute (path_of s))) a (begins_unless_full s a) v)) es) u)
    tried v inv ov false =
        let m = mends h v O ov free lt inv (at.stays.opening ∙ ready.opening) (at.stays.left ∙ ready.left) (subst (λ (z : Row). KeepsHold z.hold) (sym at.stays.row) ready.hold) (λ i q. let c = ready.spare i (sym (names_stay O O0 at.stays i) ∙ q) in let f = at.refs i in omega (arith, c, f)) in
        spoilt version m.fair m.bad pos (λ l q. (full l (mended h v) _ q (record {
          owns = m.owned;
          stays = record { row = at.stays.row; ninodes = at.stays.ninodes; fds = at.stays.fds; hand = at.stays.hand; joined = at.stays.joined; directory = at.stays.directory; lent = at.stays.lent; lender = at.stays.lender; opening = sym ready.opening; left = sym ready.left };
          walk = refl;
          pending = refl;
          refs = at.refs;
          listed = listed_on O (record O { desk = record (O.desk) { opening = None; left = None; full = true }; mine = record { refs = O.mine.refs; walk = None; pending = None } }) base ns at.listed (λ i. refl) (λ i t. refl) (λ i q. (λ z. (O.row.cwd == i) || (hold_names O.row.hold i || (key_names (key_in O.row.keys (sym (at.stays.opening ∙ ready.opening) z)) i || is_at (sym (at.stays.left ∙ ready.left) z) i))) ∙ q);
        }) refl).wp)
    tried v inv ov true = then_ i v inv ov (record { up = up; start = sym (number_is (is_absolute (path_of s)) v.all refl); inode_type = inode_type (is_absolute (path_of s)); refs = more_refs; apart = not_listed; out = out })
      where
        i : ℕ
        i = start_number (v.desks h) (is_absolute (path_of s))

        cwd_is : (v.desks h).directory ≡ v.all.cwd h
        cwd_is = (inv.directory h lt).at (ap (λ (o : Own). o.desk.lender) ov ∙ free) ∙ (λ z. left_or ((ap (λ (o : Own). o.desk.left) ov ∙ at.stays.left ∙ ready.left) z) (v.all.cwd h))

        number_is : (c : Bool) → (t : Tree) → t.cwd h ≡ v.all.cwd h → (if c then root else t.cwd h) ≡ start_number (v.desks h) c
        number_is true t q = refl
        number_is false t q = q ∙ sym cwd_is

        named : own_names O.row O.desk (v.desks h).directory ≡ true
        named =
            let q : (v.desks h).directory ≡ O.row.cwd = cwd_is ∙ ap (λ (o : Own). o.row.cwd) ov in
            (λ z. (O.row.cwd == q z) || (hold_names O.row.hold (v.desks h).directory || (key_names (key_in O.row.keys O.desk.opening) (v.desks h).directory || is_at O.desk.left (v.desks h).directory))) ∙ rw (eq_self O.row.cwd) refl

        -- what is listed is dead, and named by nothing
        not_start : (c : Bool) (j : ℕ) → IsListed O j → j ≡ start_number (v.desks h) c → ⊥
        not_start true j a q =
            let l : is_live (v.all.nodes j) ≡ true = ap (λ (z : ℕ). is_live (v.all.nodes z)) q ∙ root_live v.all inv.well in
            let n : is_live (v.all.nodes j) ≡ false = ap (λ (z : Option Node). is_live z) (has_node h j v O (listed_held a.node) ov a.is) ∙ a.dead in
            cc (l, n)
        not_start false j a q = let x : own_names O.row O.desk j ≡ true = ap (own_names O.row O.desk) q ∙ named in let y = a.unnamed in cc (x, y)

        mine : (c : Bool) → MayRefer O (start_number (v.desks h) c)
        mine true = inr (inl refl)
        mine false = inl (
            let c = ready.spare (v.desks h).directory (sym (names_stay O O0 at.stays (v.desks h).directory) ∙ named) in
            let f = at.refs (v.desks h).directory in
            omega (arith, c, f))

        inode_type : (c : Bool) → type_of (v.all.nodes (start_number (v.desks h) c)) ≡ Some OfDirectory
        inode_type true = root_type v.all inv.well
        inode_type false = (inv.directory h lt).inode_type

        up : Ups h i O v
        up = ups version h i O v inv ov free lt (mine (is_absolute (path_of s))) (inl at.pending) (λ m q x. inl (let c = notes m q in let f : O.mine.refs m.number ≡ O.mine.refs i = ap O.mine.refs x in omega (arith, c, f))) (let f = at.refs i in let c = few_listed ready at.listed i i in omega (arith, f, c))

        -- what is listed isn't referred to from anywhere else
        not_listed : (j : ℕ) → 0 < times j ns → j ≢ i
        not_listed j t q = not_start (is_absolute (path_of s)) j (at.listed.all j t) q

        more_refs : (j : ℕ) → put O.mine.refs i (O.mine.refs i + 1) j ≡ base j + times j ns + one_if (i == j)
        more_refs j = let f = at.refs j in elim (same_or j i) [
          | inl q ↦ (let a : put O.mine.refs i (O.mine.refs i + 1) j ≡ O.mine.refs i + 1 = ap (put O.mine.refs i (O.mine.refs i + 1)) q ∙ put_same O.mine.refs i (O.mine.refs i + 1) in let o : one_if (i == j) ≡ 1 = ap (λ (z : ℕ). one_if (i == z)) q ∙ one_at i in let g : O.mine.refs j ≡ O.mine.refs i = ap O.mine.refs q in omega (arith, f, a, o, g))
          | inr ne ↦ (let a = put_other O.mine.refs i (O.mine.refs i + 1) j ne in let o = one_else i j ne in omega (arith, f, a, o))
        ]

        out : O.inodes i ≡ None
        out = kept_not (O.inodes i) refl
          where
            kept_not : (o : Option Held) → O.inodes i ≡ o → o ≡ None
            kept_not None q = refl
            kept_not (Some x) q = absurd (not_start (is_absolute (path_of s)) i (at.listed.all i (at.listed.only i x q)) refl)

-- The start of a path with elements is looked into next.
pub s-start : (version : Version) (h : ℕ) (s : Action) (B : List Step → Type 0) (Q : Reply → List Step → World → Type 0) (base : ℕ → ℕ) (O0 : Own) (e : Name) (r : List Name) (ns : List ℕ) (n : ℕ) (es : List Step) (w : World) (O : Own) (go : ℕ → P Reply) (lost : WalkStop → List ℕ → P Reply)
    → h < hart_count → Ready base O0 → Gone h base ns O0 O w → 0 < n → follows_path s ≡ true → elements version (path_of s) ≡ e ∷ r → AllNames version (elements version (path_of s)) → ((t : Tree) → row_of t h ≡ O0.row → IsInPlace t h s) → ((m : Note) → O.desk.noted ≡ Some m → 0 < O.mine.refs m.number)
    → B (record { move = Begin s 0; told = None } ∷ es)
    → ((d l : ℕ) (u : World) (R : Own) → l + 1 ≡ n → On version h s d e r base ns O0 R u → Safe (machine version) h B Q (go d) l (record { move = Begin s 0; told = None } ∷ es) u)
    → ((l : ℕ) (u : World) (R : Own) → l + 1 ≡ n → Gone h base ns O0 R u → R.desk.full ≡ true → Safe (machine version) h B Q (lost NoMemory ns) l es u)
    → Safe (machine version) h B Q (Do (UpStart (is_absolute (path_of s))) (begins_unless_full s) (start_on go lost ns)) n es w
s-start version h s B Q base O0 e r ns n es w O go lost lt ready at pos follows path named place notes b then_ full = s-begin version h s B Q base O0 ns n es w O go lost lt ready at pos notes (λ i v inv ov begun. walks i v inv ov begun) full
  where
    walks : (i : ℕ) (v : World) → Inv v → own_of h v ≡ O → Begun h i s base ns O v
        → Fine (machine version) h (places version h (UpStart (is_absolute (path_of s))) (Some i) (makes (Begin s 0)) v) 0 n B es v (marked version h (makes (Begin s 0)) (counted_up h i v)) (λ l. Wp (machine version) h B Q (go i) l (onto (own h (places version h (UpStart (is_absolute (path_of s))) (Some i) (makes (Begin s 0)) v)) es) (marked version h (makes (Begin s 0)) (counted_up h i v)))
    walks i v inv ov begun =
        moves_good version h 0 n B Q es v u1 (Begin s 0) tt (go i) (begun_by version v.all h s (elements version (path_of s)) 0 (new_id v)) (record { all = v.all; walk = Some to; found = None; opened = None; entered = None; left = None; told = None })
        begun_at
        (fair_then up.fair (fair up.fair.inv (walk_did h (Some to) None u1 (ap (λ (o : Own). o.desk.lender) up.owned ∙ at.stays.lender ∙ ready.free) lt up.fair.inv (ap (λ (o : Own). o.mine.pending) up.owned) (λ m q x. absurd cc) (λ z q. inl (let c : to ≡ z = cc in subst (λ (o : Walk). 0 < (u1.harts h).refs o.at) c refs1)) (λ z q. absurd cc))))
        (record { follows = follows; rests = ap (λ (o : Own). o.mine.walk) ov ∙ at.walk; place = place (settle v.all) (settled_row v.all h ∙ ap (λ (o : Own). o.row) ov ∙ at.stays.row); begins = plays })
        b pos
        (λ l q. (then_ i l u _ q (record {
          owns = own_walk h (Some to) None u1 (record O { mine = record { refs = put O.mine.refs i (O.mine.refs i + 1); walk = O.mine.walk; pending = None } }) up.owned;
          stays = stays_same (record O { mine = record { refs = put O.mine.refs i (O.mine.refs i + 1); walk = Some to; pending = None } }) O O0 refl refl refl at.stays;
          walk = refl;
          pending = refl;
          refs = begun.refs;
          listed = listed_on O (record O { mine = record { refs = put O.mine.refs i (O.mine.refs i + 1); walk = Some to; pending = None } }) base ns at.listed (λ j. refl) (λ j t. put_other O.mine.refs i (O.mine.refs i + 1) j (begun.apart j t)) (λ j q. q);
          out = begun.out;
          notes = λ m q. let c = notes m q in elim (same_or m.number i) [
            | inl e ↦ (let r : put O.mine.refs i (O.mine.refs i + 1) m.number ≡ O.mine.refs i + 1 = ap (put O.mine.refs i (O.mine.refs i + 1)) e ∙ put_same O.mine.refs i (O.mine.refs i + 1) in omega (arith, r))
            | inr ne ↦ (let r = put_other O.mine.refs i (O.mine.refs i + 1) m.number ne in omega (arith, r, c))
          ];
          known = known (is_absolute (path_of s)) begun.start;
          names = subst (AllNames version) path named;
        })).wp)
      where
        known : (b : Bool) → i ≡ (if b then root else v.all.cwd h) → Known O i
        known true q = inl q
        known false q = inr (inl (q ∙ ap (λ (o : Own). o.row.cwd) ov))

        up : Ups h i O v
        up = begun.up

        to : Walk
        to = record { step = s; at = i; next = e; rest = r }

        u1 : World
        u1 = counted_up h i v

        u : World
        u = record u1 { harts = with_walk u1.harts h (Some to) None }

        begun_at : begun_by version v.all h s (elements version (path_of s)) 0 (new_id v) ≡ record { all = v.all; walk = Some to; found = None; opened = None; entered = None; left = None; told = None }
        begun_at = ap (λ (z : List Name). begun_by version v.all h s z 0 (new_id v)) path ∙ (λ z. record { all = v.all; walk = Some (record { step = s; at = sym begun.start z; next = e; rest = r }); found = None; opened = None; entered = None; left = None; told = None })

        refs1 : 0 < (u1.harts h).refs i
        refs1 = let a : (u1.harts h).refs i ≡ put O.mine.refs i (O.mine.refs i + 1) i = ap (λ (o : Own). o.mine.refs i) up.owned in let c = put_same O.mine.refs i (O.mine.refs i + 1) in omega (arith, a, c)

        start_settled : i ≡ start_of (settle v.all) h (path_of s)
        start_settled = begun.start ∙ (λ z. if is_absolute (path_of s) then root else (ap (λ (x : Row). x.cwd) (sym (settled_row v.all h)) z))

        plays : StartLeadsTo version (stage_of v) h s (elements version (path_of s)) 0 None (stage_of u)
        plays = subst (λ (z : List Name). StartLeadsTo version (stage_of v) h s z 0 None (stage_of u)) (sym path)
            (refl, stage_walk h (Some to) None u1 ∙ ap (λ (m : Stage). record { tree = m.tree; walk = put m.walk h (Some to) }) up.stage ∙ (λ z. record { tree = settle v.all; walk = put (λ g. (v.harts g).walk) h (Some (record { step = s; at = start_settled z; next = e; rest = r })) }))
