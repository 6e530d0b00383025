-- The moves of a walk: it begins, looks on, is refused at its last lookup, is given up; and a call that finds no room.
use Rattle.image_versions.specs.declared.version.Version.{Version}
use Rattle.inode_machine.proofs.Vocabulary.{◌≡◌, ◌≢◌, inl, inr, ℕ, ◌+◌, ◌-◌, ◌<◌, Bool, true, false, List, [], ◌∷◌, Option, Some, None, refl, sym, ◌∙◌, ap, subst, arith, nat_lt, ◌&&◌, Do, P, own, onto, Good, Fine, Safe, Wp, Node, NodeKind, Directory, File, Device, Hold, Action, Inherit, Cause, Failed, hart_count, Name, Tree, put, look, is_live, live_directory, settle, refusal_with, refused, IsInPlace, row_of, settle_live, settle_dead, settled_row, put_same, look_live, settle_at, look_same, Walk, Deed, Stage, Step, Move, Acts, LookupLeadsTo, fail, Look, GiveUpWalk, Desk, Note, World, Mark, stage_of, Makes, Frees, Orphans, Fills, Mends, Spoils, Take, Query, Sight, type_of, seen_in, face_of, is_live_face, is_directory_face, locked, lock_if, with_walk, marked, with_mark, with_made, mended, made_by, look_made, looked, acts, found_by, places, new_id, unopened, unmoved, unheld, Own, Held, own_of, Inv, IsOut, looking_cost, machine, own_names, Sought}
use Rattle.inode_machine.proofs.Frame.{Fair, fair, fair_then, has_inode}
use Rattle.inode_machine.proofs.Rules.{s-owned, others, fine_after, locking, is_out, live_typed, locks_not, locked_held, my_refs, has_node}
use Rattle.inode_machine.proofs.Walking.{walk_named_did, walk_did, own_walk, stage_walk, moves_good}
use Rattle.inode_machine.proofs.Dups.{with_new, Flagging, flagging}
use Rattle.inode_machine.proofs.FileTablesSteps.{names_less}

-- a face says whether anything may be found
pub live_face : (version : Version) (v : Option Node) → is_live_face (face_of version v) ≡ live_directory v
live_face version None = refl
live_face version (Some v) = by_kind v.kind
  where
    by_kind : (k : NodeKind) → is_live_face (face_of version (Some (record { count = v.count; kind = k }))) ≡ live_directory (Some (record { count = v.count; kind = k }))
    by_kind (Directory slots) = refl
    by_kind (File bytes) = refl
    by_kind (Device major minor size) = refl

-- what is no directory finds nothing
pub no_directory : (version : Version) (v : Option Node) → is_directory_face (face_of version v) ≡ false → live_directory v ≡ false
no_directory version None e = refl
no_directory version (Some v) e = by_kind v.kind e
  where
    by_kind : (k : NodeKind) → is_directory_face (face_of version (Some (record { count = v.count; kind = k }))) ≡ false → live_directory (Some (record { count = v.count; kind = k })) ≡ false
    by_kind (Directory slots) q = absurd cc
    by_kind (File bytes) q = none (nat_lt 0 v.count)
      where
        none : (b : Bool) → (b && false) ≡ false
        none true = refl
        none false = refl
    by_kind (Device major minor size) q = none (nat_lt 0 v.count)
      where
        none : (b : Bool) → (b && false) ≡ false
        none true = refl
        none false = refl

places_locked : (version : Version) (h d i : ℕ) (looking : Query) (a : Sight) (o : Option Mark) (v : World) → places version h (Take d looking) a o (locked h i v) ≡ places version h (Take d looking) a o v
places_locked version h d i looking a None v = refl
places_locked version h d i looking a (Some (Makes m)) v = refl
places_locked version h d i looking a (Some (Frees n)) v = refl
places_locked version h d i looking a (Some (Orphans n)) v = refl
places_locked version h d i looking a (Some Fills) v = refl
places_locked version h d i looking a (Some Mends) v = refl
places_locked version h d i looking a (Some (Spoils s)) v = refl

-- The lock is had, and then what is seen decides the move. u: the world in which the hart has it.
pub s-take-then : (version : Version) {A : Type 0} {h d : ℕ} {looking : Query} {m : Sight → Option Mark} {k : Sight → P (machine version) A} {B : List Step → Type 0} {Q : A → List Step → World → Type 0} {n : ℕ} {es : List Step} {w : World} {O : Own}
    → own_of h w ≡ O → O.desk.lender ≡ None → h < hart_count → looking_cost looking < n → O.inodes d ≡ None → 0 < O.mine.refs d → ((v : World) → Inv v → own_of h v ≡ O → v.all.nodes d ≢ None) → Sought version looking
    → ((u : World) (c : Option Node) → Inv u → own_of h u ≡ record O { inodes = put O.inodes d (Some (locked_held c)) }
    → Fine (machine version) h (places version h (Take d looking) (seen_in version d looking c) (m (seen_in version d looking c)) u) (looking_cost looking) n B es u (marked version h (m (seen_in version d looking c)) u)
    (λ l. Wp (machine version) h B Q (k (seen_in version d looking c)) l (onto (own h (places version h (Take d looking) (seen_in version d looking c) (m (seen_in version d looking c)) u)) es) (marked version h (m (seen_in version d looking c)) u)))
    → Safe (machine version) h B Q (Do (Take d looking) m k) n es w
s-take-then version {A} {h} {d} {looking} {m} {k} {B} {Q} {n} {es} {w} {O} owns free lt pos out refers there sought good = s-owned version owns free pos (λ v inv ov. (
  ((let r = my_refs h v O d ov in omega (arith, r, refers), locks_not h d v O inv ov out), (λ e z. there v inv ov (sym (locking version h d v O ov free lt inv out (inr (let r = my_refs h v O d ov in omega (arith, r, refers))) e).whole ∙ z)), sought),
  (λ _ _. at v inv ov (v.lock d) refl),
))
  where
    at : (v : World) → Inv v → own_of h v ≡ O → (r : Option ℕ) → v.lock d ≡ r
        → Good (machine version) Sight h (λ a. places version h (Take d looking) a (m a) v) (looking_cost looking) n B es v (IsOut h (v.lock d)) (with_mark version h m (lock_if h d (seen_in version d looking (v.disk d)) v (locked h d v) r)) (λ l a u. Wp (machine version) h B Q (k a) l (onto (own h (places version h (Take d looking) a (m a) v)) es) u)
    at v inv ov (Some g) e = is_out h d g v O inv ov out e
    at v inv ov None e =
        let a = locking version h d v O ov free lt inv out (inr (let r = my_refs h v O d ov in omega (arith, r, refers))) e in
        subst (λ (z : Option Node). Fine (machine version) h (places version h (Take d looking) (seen_in version d looking z) (m (seen_in version d looking z)) v) (looking_cost looking) n B es v (marked version h (m (seen_in version d looking z)) (locked h d v)) (λ l. Wp (machine version) h B Q (k (seen_in version d looking z)) l (onto (own h (places version h (Take d looking) (seen_in version d looking z) (m (seen_in version d looking z)) v)) es) (marked version h (m (seen_in version d looking z)) (locked h d v)))) (sym a.whole)
        (subst (λ (ps : List (ℕ × Step)). Fine (machine version) h ps (looking_cost looking) n B es v (marked version h (m (seen_in version d looking (v.all.nodes d))) (locked h d v)) (λ l. Wp (machine version) h B Q (k (seen_in version d looking (v.all.nodes d))) l (onto (own h ps) es) (marked version h (m (seen_in version d looking (v.all.nodes d))) (locked h d v)))) (places_locked version h d d looking (seen_in version d looking (v.all.nodes d)) (m (seen_in version d looking (v.all.nodes d))) v)
        (fine_after version a.fair refl (good (locked h d v) (v.all.nodes d) a.fair.inv a.owned)))

-- the step of a move
abbrev pub told_by : Version → ℕ → World → Move → List (ℕ × Step)
told_by version h v mv = (h, record { move = mv; told = (made_by version v.all h (new_id v) (v.harts h).walk mv).told }) ∷ []

abbrev pub after_move : Version → ℕ → Move → World → World
after_move version h mv v = with_made h (made_by version v.all h (new_id v) (v.harts h).walk mv) v

-- the move is well made, and the program that is left goes on
abbrev pub MoveFine : (version : Version) {A : Type 0} → ℕ → ℕ → ℕ → (List Step → Type 0) → (A → List Step → World → Type 0) → List Step → World → Move → P (machine version) A → Type 0
MoveFine version h more n B Q es v mv p = Fine (machine version) h (told_by version h v mv) more n B es v (after_move version h mv v) (λ l. Wp (machine version) h B Q p l (onto (own h (told_by version h v mv)) es) (after_move version h mv v))

-- A walk whose directory has died, or is none, is given up.
pub quit_good : (version : Version) {A : Type 0} (h more n d : ℕ) (B : List Step → Type 0) (Q : A → List Step → World → Type 0) (es : List Step) (v : World) (O : Own) (x : Held) (y : Walk) (p : P (machine version) A)
    → own_of h v ≡ O → O.desk.lender ≡ None → h < hart_count → Inv v → O.mine.walk ≡ Some y → O.mine.pending ≡ None → y.at ≡ d → O.inodes d ≡ Some x → live_directory x.node ≡ false
    → B (record { move = GiveUpWalk y.step; told = Some (fail y.step) } ∷ es) → more < n
    → ((l : ℕ) (u : World) → l + (more + 1) ≡ n → own_of h u ≡ record O { mine = record { refs = O.mine.refs; walk = None; pending = None } } → Safe (machine version) h B Q p l (record { move = GiveUpWalk y.step; told = Some (fail y.step) } ∷ es) u)
    → MoveFine version h more n B Q es v (GiveUpWalk y.step) p
quit_good version h more n d B Q es v O x y p ov free lt inv walks none at isd dead b pos then_ =
    let node_at : v.all.nodes y.at ≡ x.node = ap v.all.nodes at ∙ has_node h d v O x ov isd in
    moves_good version h more n B Q es v v (GiveUpWalk y.step) tt p (made_by version v.all h (new_id v) (v.harts h).walk (GiveUpWalk y.step)) (record { all = v.all; walk = None; found = None; opened = None; entered = None; left = None; told = Some (fail y.step) }) refl
    (fair inv (walk_did h None None v (ap (λ (o : Own). o.desk.lender) ov ∙ free) lt inv (ap (λ (o : Own). o.mine.pending) ov ∙ none) (λ m q e. absurd cc) (λ z q. absurd cc) (λ i q. absurd cc)))
    (record { walk = y; is = ap (λ (o : Own). o.mine.walk) ov ∙ walks; step = refl; lost = settle_dead v.all y.at (ap (λ (z : Option Node). live_directory z) node_at ∙ dead); deed = refl; stage = stage_walk h None None v })
    b pos
    (λ l q. (then_ l (record v { harts = with_walk v.harts h None None }) q (own_walk h None None v O ov)).wp)

-- What was found is noted, with its type.

abbrev pub note_of : Tree → ℕ → Note
note_of t j = record { number = j; inode_type = type_of (t.nodes j) }

pub noting : (h j : ℕ) (v : World) (O : Own) → own_of h v ≡ O → O.desk.lender ≡ None → h < hart_count → Inv v → Flagging h v O (record (v.desks h) { noted = Some (note_of v.all j) }) (record (O.desk) { noted = Some (note_of v.all j) }) v.clean
noting h j v O ov free lt inv = flagging h v O (record (v.desks h) { noted = Some (note_of v.all j) }) (record (O.desk) { noted = Some (note_of v.all j) }) v.clean ov free lt inv (ap (λ (o : Own). record (o.desk) { noted = Some (note_of v.all j) }) ov)
    (record { fds = refl; hand = refl; lent = refl; opening = refl; left = refl; directory = refl }) (ap (λ (o : Own). o.desk.lender) ov ∙ free) (λ f i is. inv.quiet i h is f) (inv.raised h lt)
    (λ m q r s. let a : note_of v.all j ≡ m = cc in (λ z. type_of (v.all.nodes (sym a z).number)) ∙ (λ z. (a z).inode_type))
    (λ q. inv.tied.spoiled h q) (λ q. q) (λ q. q)

-- The walk goes on to what was found.
pub look_on_good : (version : Version) {A : Type 0} (h more n d : ℕ) (B : List Step → Type 0) (Q : A → List Step → World → Type 0) (es : List Step) (v : World) (O : Own) (x : Held) (y : Walk) (e : Name) (r : List Name) (j : ℕ) (p : P (machine version) A)
    → own_of h v ≡ O → O.desk.lender ≡ None → h < hart_count → Inv v → O.mine.walk ≡ Some y → O.mine.pending ≡ None → y.at ≡ d → O.inodes d ≡ Some x → live_directory x.node ≡ true → y.rest ≡ e ∷ r → look (λ z. x.node) d y.next ≡ Some j
    → B (record { move = Look 0; told = None } ∷ es) → more < n
    → ((l : ℕ) (t : Option Note) (u : World) → l + (more + 1) ≡ n → ((z : Held) → O.inodes j ≡ Some z → is_live z.node ≡ true) → own_of h u ≡ record O { mine = record { refs = O.mine.refs; walk = Some (record { step = y.step; at = j; next = e; rest = r }); pending = Some j }; desk = record (O.desk) { noted = t } } → ((m : Note) → t ≡ Some m → m.number ≡ j) → ((m : Note) × (t ≡ Some m) × (m.number ≡ j) × (m.inode_type ≢ None))
    → Safe (machine version) h B Q p l (record { move = Look 0; told = None } ∷ es) u)
    → MoveFine version h more n B Q es v (Look 0) p
look_on_good version {A} h more n d B Q es v O x y e r j p ov free lt inv walks none at isd live rest finds b pos then_ =
    moves_good version h more n B Q es v v (Look 0) tt p (made_by version v.all h (new_id v) (v.harts h).walk (Look 0)) (record { all = v.all; walk = Some to; found = Some j; opened = None; entered = None; left = None; told = None })
    (ap (λ (z : Option Walk). look_made version v.all h z 0 (new_id v)) mine ∙ (λ i. looked version v.all h y (rest i) (look_is i) 0 (new_id v)))
    (fair_then note.fair (fair note.fair.inv (walk_did h (Some to) (Some j) u1 (ap (λ (o : Own). o.desk.lender) note.owned ∙ free) lt note.fair.inv idle
    (λ m q s. let a : note_of v.all j ≡ m = some_is (sym (ap (λ (z : Desk). z.noted) (put_same v.desks h (record (v.desks h) { noted = Some (note_of v.all j) }))) ∙ q) in (λ z. type_of (v.all.nodes (sym a z).number)) ∙ (λ z. (a z).inode_type))
    (λ z q. inr (let s : to ≡ z = cc in ap (λ (o : Walk). Some o.at) s))
    (λ i q. let s : j ≡ i = cc in record { directory = d; name = y.next; keeps = (has_inode h d v O x ov isd).0; finds = subst (λ (z : ℕ). look v.all.nodes z y.next ≡ Some j) at look_is ∙ ap (λ (z : ℕ). Some z) s }))))
    (record { walk = y; is = mine; live = ap (λ (z : Option Node). live_directory z) settled ∙ live_at; looks = plays })
    b pos
    (λ l q. (then_ l (Some (note_of v.all j)) (record u1 { harts = with_walk v.harts h (Some to) (Some j) }) q (λ z q. ap (λ (o : Option Node). is_live o) (sym (has_node h j v O z ov q)) ∙ look_live v.all y.at j y.next inv.well look_is)
    (own_walk h (Some to) (Some j) u1 (record O { desk = record (O.desk) { noted = Some (note_of v.all j) } }) note.owned) (λ m q. let a : note_of v.all j ≡ m = some_is q in ap (λ (z : Note). z.number) (sym a)) (note_of v.all j, refl, refl, live_typed (v.all.nodes j) (look_live v.all y.at j y.next inv.well look_is))).wp)
  where
    some_is : {m k : Note} → ◌≡◌ {A = Option Note} (Some m) (Some k) → m ≡ k
    some_is q = cc

    to : Walk
    to = record { step = y.step; at = j; next = e; rest = r }

    note : Flagging h v O (record (v.desks h) { noted = Some (note_of v.all j) }) (record (O.desk) { noted = Some (note_of v.all j) }) v.clean
    note = noting h j v O ov free lt inv

    u1 : World
    u1 = with_new v h (record (v.desks h) { noted = Some (note_of v.all j) }) v.clean

    mine : (v.harts h).walk ≡ Some y
    mine = ap (λ (o : Own). o.mine.walk) ov ∙ walks

    idle : (v.harts h).pending ≡ None
    idle = ap (λ (o : Own). o.mine.pending) ov ∙ none

    node_at : v.all.nodes y.at ≡ x.node
    node_at = ap v.all.nodes at ∙ has_node h d v O x ov isd

    live_at : live_directory (v.all.nodes y.at) ≡ true
    live_at = ap (λ (z : Option Node). live_directory z) node_at ∙ live

    settled : (settle v.all).nodes y.at ≡ v.all.nodes y.at
    settled = settle_live v.all y.at live_at

    look_is : look v.all.nodes y.at y.next ≡ Some j
    look_is = look_same (λ z. x.node) v.all.nodes y.at y.next node_at ∙ subst (λ (z : ℕ). look (λ i. x.node) z y.next ≡ Some j) (sym at) finds

    goes : LookupLeadsTo version (stage_of v) h y (e ∷ r) (Some j) 0 None (stage_of (record u1 { harts = with_walk v.harts h (Some to) (Some j) }))
    goes = (refl, stage_walk h (Some to) (Some j) v)

    plays : LookupLeadsTo version (stage_of v) h y y.rest (look (settle v.all).nodes y.at y.next) 0 None (stage_of (record u1 { harts = with_walk v.harts h (Some to) (Some j) }))
    plays = subst (λ (z : List Name). LookupLeadsTo version (stage_of v) h y z (look (settle v.all).nodes y.at y.next) 0 None (stage_of (record u1 { harts = with_walk v.harts h (Some to) (Some j) }))) (sym rest)
        (subst (λ (z : Option ℕ). LookupLeadsTo version (stage_of v) h y (e ∷ r) z 0 None (stage_of (record u1 { harts = with_walk v.harts h (Some to) (Some j) }))) (sym (look_same v.all.nodes (settle v.all).nodes y.at y.next settled ∙ look_is)) goes)

-- what a tree must have to agree with what the hart keeps
abbrev pub Agrees : Own → Tree → Type 0
Agrees O t = (i : ℕ) (x : Held) → O.inodes i ≡ Some x → is_live x.node ≡ true → t.nodes i ≡ x.node

settle_lives : (t : Tree) (n : ℕ) → is_live (t.nodes n) ≡ true → (settle t).nodes n ≡ t.nodes n
settle_lives t n live = elim (settle_at t n) [ inl e ↦ e | inr e ↦ absurd (let a = e.1 in cc (a, live)) ]

pub agrees_all : (h : ℕ) (v : World) (O : Own) → own_of h v ≡ O → Agrees O v.all
agrees_all h v O ov i x is live = has_node h i v O x ov is

pub agrees_settled : (h : ℕ) (v : World) (O : Own) → own_of h v ≡ O → Agrees O (settle v.all)
agrees_settled h v O ov i x is live =
    let e = has_node h i v O x ov is in
    settle_lives v.all i (ap (λ (o : Option Node). is_live o) e ∙ live) ∙ e

acts_refused : (version : Version) (b : Tree) (h : ℕ) (s : Action) (res : Option ℕ) (par : Option (ℕ × Name)) (new id : ℕ) (c : Cause) → refusal_with version b h s res par ≡ Some c → found_by s res ≡ None
    → acts version b h s res par new id ≡ record { all = b; walk = None; found = None; opened = None; entered = None; left = None; told = Some (record { act = record { step = s; answer = Failed c }; new = new }) }
acts_refused version b h s res par new id c r f = rw r (λ i. record { all = b; walk = None; found = f i; opened = None; entered = None; left = None; told = Some (record { act = record { step = s; answer = Failed c }; new = new }) })

-- A step is refused at a lookup that leaves nothing to be counted up. f: what the lookup gave.
pub look_refused_good : (version : Version) {A : Type 0} (h more n d : ℕ) (B : List Step → Type 0) (Q : A → List Step → World → Type 0) (es : List Step) (v : World) (O : Own) (x : Held) (y : Walk) (f : Option ℕ) (c : Cause) (res : Option ℕ) (par : Option (ℕ × Name)) (p : P (machine version) A)
    → own_of h v ≡ O → O.desk.lender ≡ None → h < hart_count → Inv v → O.mine.walk ≡ Some y → O.mine.pending ≡ None → y.at ≡ d → O.inodes d ≡ Some x → live_directory x.node ≡ true → look (λ z. x.node) d y.next ≡ f
    → ((b : Tree) (id : ℕ) → looked version b h y y.rest f 0 id ≡ acts version b h y.step res par 0 id)
    → ((m m' : Stage) (t : Option Deed) → Acts version m h y.step res par 0 t m' → LookupLeadsTo version m h y y.rest f 0 t m')
    → ((b : Tree) → Agrees O b → refusal_with version b h y.step res par ≡ Some c) → ((b : Tree) → refused b h y.step ≡ b)
    → ((t : Tree) → row_of t h ≡ O.row → IsInPlace t h y.step) → ((g : ℕ) → y.step ≡ Inherit g → ⊥) → found_by y.step res ≡ None
    → B (record { move = Look 0; told = Some (record { act = record { step = y.step; answer = Failed c }; new = 0 }) } ∷ es) → more < n
    → ((l : ℕ) (u : World) → l + (more + 1) ≡ n → own_of h u ≡ record O { mine = record { refs = O.mine.refs; walk = None; pending = None } } → Safe (machine version) h B Q p l (record { move = Look 0; told = Some (record { act = record { step = y.step; answer = Failed c }; new = 0 }) } ∷ es) u)
    → MoveFine version h more n B Q es v (Look 0) p
look_refused_good version {A} h more n d B Q es v O x y f c res par p ov free lt inv walks none at isd live finds same plays refusal stays place other found b pos then_ =
    moves_good version h more n B Q es v v (Look 0) tt p (made_by version v.all h (new_id v) (v.harts h).walk (Look 0)) (record { all = v.all; walk = None; found = None; opened = None; entered = None; left = None; told = Some (record { act = record { step = y.step; answer = Failed c }; new = 0 }) })
    (ap (λ (z : Option Walk). look_made version v.all h z 0 (new_id v)) walk_is ∙ (λ i. looked version v.all h y y.rest (look_is i) 0 (new_id v)) ∙ same v.all (new_id v) ∙ acts_refused version v.all h y.step res par 0 (new_id v) c (refusal v.all (agrees_all h v O ov)) found)
    (fair inv (walk_did h None None v (ap (λ (o : Own). o.desk.lender) ov ∙ free) lt inv (ap (λ (o : Own). o.mine.pending) ov ∙ none) (λ m q e. absurd cc) (λ z q. absurd cc) (λ i q. absurd cc)))
    (record { walk = y; is = walk_is; live = ap (λ (z : Option Node). live_directory z) settled ∙ live_at; looks = subst (λ (z : Option ℕ). LookupLeadsTo version (stage_of v) h y y.rest z 0 (Some (record { act = record { step = y.step; answer = Failed c }; new = 0 })) (stage_of (record v { harts = with_walk v.harts h None None }))) (sym look_settled) (plays (stage_of v) (stage_of (record v { harts = with_walk v.harts h None None })) (Some (record { act = record { step = y.step; answer = Failed c }; new = 0 })) takes) })
    b pos
    (λ l q. (then_ l (record v { harts = with_walk v.harts h None None }) q (own_walk h None None v O ov)).wp)
  where
    node_at : v.all.nodes y.at ≡ x.node
    node_at = ap v.all.nodes at ∙ has_node h d v O x ov isd

    live_at : live_directory (v.all.nodes y.at) ≡ true
    live_at = ap (λ (z : Option Node). live_directory z) node_at ∙ live

    settled : (settle v.all).nodes y.at ≡ v.all.nodes y.at
    settled = settle_live v.all y.at live_at

    look_is : look v.all.nodes y.at y.next ≡ f
    look_is = look_same (λ z. x.node) v.all.nodes y.at y.next node_at ∙ subst (λ (z : ℕ). look (λ i. x.node) z y.next ≡ f) (sym at) finds

    look_settled : look (settle v.all).nodes y.at y.next ≡ f
    look_settled = look_same v.all.nodes (settle v.all).nodes y.at y.next settled ∙ look_is

    walk_is : (v.harts h).walk ≡ Some y
    walk_is = ap (λ (o : Own). o.mine.walk) ov ∙ walks

    takes : Acts version (stage_of v) h y.step res par 0 (Some (record { act = record { step = y.step; answer = Failed c }; new = 0 })) (stage_of (record v { harts = with_walk v.harts h None None }))
    takes = record {
      answer = Failed c;
      id = new_id v;
      deed = refl;
      step = (refusal (settle v.all) (agrees_settled h v O ov), sym (stays (settle v.all)), place (settle v.all) (settled_row v.all h ∙ ap (λ (o : Own). o.row) ov));
      walk = ap (λ (z : Stage). z.walk) (stage_walk h None None v);
      alone = λ ok. absurd (let r = refusal (settle v.all) (agrees_settled h v O ov) in cc (r, ok));
      idle = λ g l q. absurd (other g q);
    }

-- A call finds no room, and the tree has nothing of it that the tables have not.

-- it placed nothing, and no list explains the run from here
pub spoilt : (version : Version) {h more n : ℕ} {B : List Step → Type 0} {es : List Step} {v u : World} {Next : ℕ → Type 0} → Fair h v u → u.clean ≡ false → more < n → ((l : ℕ) → l + (more + 1) ≡ n → Next l) → Fine (machine version) h [] more n B es v u Next
spoilt version {h} {more} {n} f bad pos next =
    record { inv = f.inv; kept = λ g ne. others f g ne; goes = λ c. absurd (cc (c, bad)); clean = f.clean; begun = λ c. inl refl; left = n - (more + 1); falls = omega (arith, pos); next = next (n - (more + 1)) (omega (arith, pos)) }

-- no hold, or a raised one
abbrev pub KeepsHold : Option Hold → Type 0
KeepsHold None = Unit {0}
KeepsHold (Some o) = o.raised ≡ true

pub unheld_is : (t : Tree) (h : ℕ) (o : Option Hold) → KeepsHold o → unheld t h o ≡ t
unheld_is t h None k = refl
unheld_is t h (Some o) k = rw k refl

pub record MendingOf (h : ℕ) (v : World) (O : Own) (u : World) : Type 0 where
  pub fair : Fair h v u
  pub bad : u.clean ≡ false
  pub owned : own_of h u ≡ record O { desk = record (O.desk) { opening = None; left = None; full = true }; mine = record { refs = O.mine.refs; walk = None; pending = None } }

pub mends : (h : ℕ) (v : World) (O : Own) → own_of h v ≡ O → O.desk.lender ≡ None → h < hart_count → Inv v → O.desk.opening ≡ None → O.desk.left ≡ None → KeepsHold O.row.hold → ((i : ℕ) → own_names O.row O.desk i ≡ true → 0 < O.mine.refs i) → MendingOf h v O (mended h v)
mends h v O ov free lt inv opening left hold names = subst (λ (z : World). MendingOf h v O z) (sym is) (record { bad = refl; fair = fair_then f.fair (fair f.fair.inv (walk_named_did h None None u1 (ap (λ (o : Own). o.desk.lender) f.owned ∙ free) lt f.fair.inv names_own (λ m q e. absurd cc) (λ z q. absurd cc) (λ i q. absurd cc))); owned = own_walk h None None u1 (record O { desk = record (O.desk) { opening = None; left = None; full = true } }) f.owned })
  where
    new : Desk
    new = record (v.desks h) { opening = None; left = None; full = true }

    f : Flagging h v O new (record (O.desk) { opening = None; left = None; full = true }) false
    f = flagging h v O new (record (O.desk) { opening = None; left = None; full = true }) false ov free lt inv (ap (λ (o : Own). record (o.desk) { opening = None; left = None; full = true }) ov)
        (record { fds = refl; hand = refl; lent = refl; opening = sym (ap (λ (o : Own). o.desk.opening) ov ∙ opening); left = sym (ap (λ (o : Own). o.desk.left) ov ∙ left); directory = refl }) (ap (λ (o : Own). o.desk.lender) ov ∙ free) (λ q j is. inv.quiet j h is q) (inv.raised h lt)
        (λ m q r s. inv.noted h m lt q r s) (λ q. refl) (λ q. refl) (λ q. absurd cc)

    u1 : World
    u1 = with_new v h new false

    names_own : (j : ℕ) → own_names (row_of v.all h) (u1.desks h) j ≡ true → 0 < (v.harts h).refs j
    names_own j is =
        let r = my_refs h v O j ov in
        let d : u1.desks h ≡ record (O.desk) { opening = None; left = None; full = true } = ap (λ (o : Own). o.desk) f.owned in
        let a = names j (sym (names_less (row_of v.all h) O.row (u1.desks h) O.desk j (ap (λ (o : Own). o.row.cwd) ov) (ap (λ (o : Own). o.row.hold) ov) (ap (λ (z : Desk). z.opening) d) opening (ap (λ (z : Desk). z.left) d ∙ sym left)) ∙ is) in
        omega (arith, r, a)

    is : mended h v ≡ record u1 { harts = with_walk v.harts h None None }
    is = λ z. record u1 { harts = with_walk v.harts h None None; all = tree z }
      where
        tree : unheld (unmoved (unopened v.all h (v.desks h).opening) h (v.desks h).left) h (v.all.holds h) ≡ v.all
        tree = (λ z. unheld (unmoved (unopened v.all h ((ap (λ (o : Own). o.desk.opening) ov ∙ opening) z)) h ((ap (λ (o : Own). o.desk.left) ov ∙ left) z)) h (v.all.holds h)) ∙ unheld_is v.all h (v.all.holds h) (subst KeepsHold (sym (ap (λ (o : Own). o.row.hold) ov)) hold)
