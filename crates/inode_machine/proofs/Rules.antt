-- The rules of the operations that place nothing.
use Rattle.image_versions.specs.declared.version.Version.{Version}
use Rattle.inode_machine.proofs.Vocabulary.{◌≡◌, ◌≢◌, ◌⊎◌, inl, inr, ℕ, ◌+◌, ◌<◌, true, false, ◌==◌, List, [], ◌∷◌, Option, Some, None, refl, sym, ◌∙◌, ap, subst, arith, ◌-◌, Bool, Do, unmarked, P, own, onto, Good, Fine, Safe, Wp, Goes, Node, hart_count, root, Tree, put, look, is_live, settle, sum_below, one_if, folders_of, links_in, raises, IsWellFormed, eq_self, eq_is, eq_not, either, same_or, put_same, put_other, one_yes, sum_same, sum_changed, sum_part, look_live, folder_linked, linked_live, look_same, Walk, Step, TakesMove, Stage, Mine, Entry, World, Op, Answer, Mark, stage_of, Note, Outside, file_count, with_refs, lock_if, counted_up, locked, up_if, has_place, marked, go, places, with_mark, Up, Own, file_tables_of, Opens, number_is, Held, view, is_hart, own_of, Found, IsReferredTo, IsReached, IsAlone, reference_limit, Inv, IsOut, MayWait, machine, more, Others, LocksNone, Asks, Rests, looking_cost, Honest, KeepsFiles, Sought, Query, Sight, InodeType, seen_in, type_of}
use Rattle.inode_machine.specs.World.{Take}
use Rattle.inode_machine.proofs.Frame.{file_tables_same, put_elim, ours_none, ours_some, kept_here, HartStep, Fair, fair, files_then, own_inodes, has_inode, has_none, found_more, two_refs, refers_put}

-- an operation: what the hart owns stays until it runs, and what it has open of an inode that it keeps
pub s-owned-from : (version : Version) {A : Type 0} {h : ℕ} {op : Op} {m : Answer op → Option Mark} {k : Answer op → P (machine version) A} {B : List Step → Type 0} {Q : A → List Step → World → Type 0} {n : ℕ} {es : List Step} {w : World} {O : Own}
    → own_of h w ≡ O → O.desk.lender ≡ None → more op < n
    → ((v : World) → Inv v → own_of h v ≡ O → KeepsFiles h w v → Asks version h op v × ((x : Outside) → Honest h op v x
    → Good (machine version) (Answer op) h (λ a. places version h op a (m a) v) (more op) n B es v (MayWait h op v) (go version h x op m v) (λ l a u. Wp (machine version) h B Q (k a) l (onto (own h (places version h op a (m a) v)) es) u)))
    → Safe (machine version) h B Q (Do op m k) n es w
s-owned-from version {A} {h} {op} {m} {k} {B} {Q} {n} {es} {w} {O} owns free pos rule =
    record { wp = λ v xs o inv. let unlent = ap (λ (z : Own). z.desk.lender) owns ∙ free in let ov = o.same unlent ∙ owns in let r = rule v inv ov (o.opens unlent) in ((λ y. inl o.none), (ap (λ (z : Own). z.desk.lender) ov ∙ free, r.0), (λ x honest. at v xs x o.none (r.1 x honest)), pos) }
  where
    at : (v : World) (xs : List Step) (x : Outside) → xs ≡ []
        → Good (machine version) (Answer op) h (λ a. places version h op a (m a) v) (more op) n B es v (MayWait h op v) (go version h x op m v) (λ l a u. Wp (machine version) h B Q (k a) l (onto (own h (places version h op a (m a) v)) es) u)
        → Good (machine version) (Answer op) h (λ a. places version h op a (m a) v) (more op) n B (onto xs es) v (MayWait h op v) (go version h x op m v) (λ l a u. Wp (machine version) h B Q (k a) l (onto (own h (places version h op a (m a) v)) (onto xs es)) u)
    at v xs x e g = subst (λ (zs : List Step). Good (machine version) (Answer op) h (λ a. places version h op a (m a) v) (more op) n B (onto zs es) v (MayWait h op v) (go version h x op m v) (λ l a u. Wp (machine version) h B Q (k a) l (onto (own h (places version h op a (m a) v)) (onto zs es)) u)) (sym e) g

-- what the hart owns alone
pub s-owned : (version : Version) {A : Type 0} {h : ℕ} {op : Op} {m : Answer op → Option Mark} {k : Answer op → P (machine version) A} {B : List Step → Type 0} {Q : A → List Step → World → Type 0} {n : ℕ} {es : List Step} {w : World} {O : Own}
    → own_of h w ≡ O → O.desk.lender ≡ None → more op < n
    → ((v : World) → Inv v → own_of h v ≡ O → Asks version h op v × ((x : Outside) → Honest h op v x
    → Good (machine version) (Answer op) h (λ a. places version h op a (m a) v) (more op) n B es v (MayWait h op v) (go version h x op m v) (λ l a u. Wp (machine version) h B Q (k a) l (onto (own h (places version h op a (m a) v)) es) u)))
    → Safe (machine version) h B Q (Do op m k) n es w
s-owned version owns free pos rule = s-owned-from version owns free pos (λ v inv ov keeps. rule v inv ov)

-- what a step leaves to another hart
pub others : {h : ℕ} {v u : World} → Fair h v u → (g : ℕ) → g ≢ h → Others g v [] u
others f g ne = record { none = refl; same = λ free. f.others g ne; opens = λ free. f.opens g ne; rests = λ i. subst (λ (o : Own). Rests o) (sym (f.others g ne)) i; clean = f.clean }

-- all that a step shows to the rest, also one that changes what a hart has that rests
pub record FairTo (h : ℕ) (v u : World) : Type 0 where
  pub inv : Inv u
  pub kept : (g : ℕ) → g ≢ h → Others g v [] u
  pub clean : u.clean ≡ true → v.clean ≡ true

pub fair_to : {h : ℕ} {v u : World} → Fair h v u → FairTo h v u
fair_to f = record { inv = f.inv; kept = others f; clean = f.clean }

-- it placed nothing
pub quiet_to : (version : Version) {h more n : ℕ} {B : List Step → Type 0} {es : List Step} {v u : World} {Next : ℕ → Type 0} → FairTo h v u → stage_of u ≡ stage_of v → more < n → ((l : ℕ) → l + (more + 1) ≡ n → Next l) → Fine (machine version) h [] more n B es v u Next
quiet_to version {h} {more} {n} f same pos next =
    record { inv = f.inv; kept = f.kept; goes = λ c. same; clean = f.clean; begun = λ c. inl refl; left = n - (more + 1); falls = omega (arith, pos); next = next (n - (more + 1)) (omega (arith, pos)) }

pub quiet : (version : Version) {h more n : ℕ} {B : List Step → Type 0} {es : List Step} {v u : World} {Next : ℕ → Type 0} → Fair h v u → stage_of u ≡ stage_of v → more < n → ((l : ℕ) → l + (more + 1) ≡ n → Next l) → Fine (machine version) h [] more n B es v u Next
quiet version f same pos next = quiet_to version (fair_to f) same pos next

-- it made a move
pub acted_to : (version : Version) {h more n : ℕ} {B : List Step → Type 0} {es : List Step} {v u : World} {e : Step} {Next : ℕ → Type 0} → FairTo h v u → TakesMove version (stage_of v) h e (stage_of u) → B (e ∷ es) → more < n
    → ((l : ℕ) → l + (more + 1) ≡ n → Next l) → Fine (machine version) h ((h, e) ∷ []) more n B es v u Next
acted_to version {h} {more} {n} {B} {es} {v} {u} {e} f takes b pos next =
    record {
      inv = f.inv;
      kept = λ g ne. subst (λ (zs : List Step). Others g v zs u) (sym (rw (eq_not h g (λ q. ne (sym q))) refl)) (f.kept g ne);
      goes = λ c. (stage_of u, takes, refl);
      clean = f.clean;
      begun = λ c. inr (rw (eq_self h) b);
      left = n - (more + 1);
      falls = omega (arith, pos);
      next = next (n - (more + 1)) (omega (arith, pos));
    }

pub acted : (version : Version) {h more n : ℕ} {B : List Step → Type 0} {es : List Step} {v u : World} {e : Step} {Next : ℕ → Type 0} → Fair h v u → TakesMove version (stage_of v) h e (stage_of u) → B (e ∷ es) → more < n
    → ((l : ℕ) → l + (more + 1) ≡ n → Next l) → Fine (machine version) h ((h, e) ∷ []) more n B es v u Next
acted version f takes b pos next = acted_to version (fair_to f) takes b pos next

-- after a change that no other hart sees
pub fine_after : (version : Version) {h more n : ℕ} {B : List Step → Type 0} {es : List Step} {ps : List (ℕ × Step)} {v w u : World} {Next : ℕ → Type 0} → Fair h v w → stage_of w ≡ stage_of v → Fine (machine version) h ps more n B es w u Next → Fine (machine version) h ps more n B es v u Next
fine_after version {h} {ps = ps} {v = v} {w = w} {u = u} f same g =
    record {
      inv = g.inv;
      kept = λ j ne. let a = others f j ne in let b = g.kept j ne in record { none = b.none; same = λ free. b.same (ap (λ (o : Own). o.desk.lender) (f.others j ne) ∙ free) ∙ a.same free; opens = λ free. files_then j v w u (f.others j ne) (f.opens j ne) (b.opens (ap (λ (o : Own). o.desk.lender) (f.others j ne) ∙ free)); rests = λ i. b.rests (a.rests i); clean = λ c. a.clean (b.clean c) };
      goes = λ c. subst (λ (z : Stage). Goes (machine version) z ps (stage_of u)) same (g.goes c);
      clean = λ c. f.clean (g.clean c);
      begun = g.begun;
      left = g.left;
      falls = g.falls;
      next = g.next;
    }

-- Locks.

pub is_me : (h : ℕ) (o : Option ℕ) → o ≡ Some h → is_hart o h ≡ true
is_me h o e = rw e (eq_self h)

pub is_mine : (h : ℕ) (o : Option ℕ) → is_hart o h ≡ true → o ≡ Some h
is_mine h None e = absurd cc
is_mine h (Some g) e = ap (λ (z : ℕ). Some z) (eq_is g h e)

-- the lock that the hart has
pub locks_it : (h i : ℕ) (v : World) (O : Own) (x : Held) → own_of h v ≡ O → O.inodes i ≡ Some x → x.locked ≡ true → v.lock i ≡ Some h
locks_it h i v O x ov is e = is_mine h (v.lock i) (ap (λ (y : Held). y.locked) (has_inode h i v O x ov is).1 ∙ e)

-- it has none of what it doesn't keep
pub locks_not : (h i : ℕ) (v : World) (O : Own) → Inv v → own_of h v ≡ O → O.inodes i ≡ None → v.lock i ≢ Some h
locks_not h i v O inv ov is e = has_none h i v O ov is (inv.keeps i h e)

abbrev pub UnlocksAll : Own → Type 0
UnlocksAll O = (i : ℕ) (x : Held) → O.inodes i ≡ Some x → x.locked ≡ false

pub locks_none : (h : ℕ) (v : World) (O : Own) → Inv v → own_of h v ≡ O → UnlocksAll O → LocksNone h v
locks_none h v O inv ov none i e =
    let k = kept_here h (v.keeper i) (view v h i) (inv.keeps i h e) in
    let a = none i (view v h i) (ap (λ (o : Own). o.inodes i) (sym ov) ∙ k) in
    let b : is_hart (v.lock i) h ≡ true = is_me h (v.lock i) e in
    cc (a, b)

-- References.

pub each_refs : (harts : ℕ → Mine) (h n r g i : ℕ) → ((g ≢ h) ⊎ (i ≢ n)) → (with_refs harts h n r g).refs i ≡ (harts g).refs i
each_refs harts h n r g i (inl ne) = ap (λ (m : Mine). m.refs i) (put_other harts h (record { refs = put (harts h).refs n r; walk = (harts h).walk; pending = (harts h).pending }) g ne)
each_refs harts h n r g i (inr ne) = put_elim harts h (record { refs = put (harts h).refs n r; walk = (harts h).walk; pending = (harts h).pending }) g (λ m. m.refs i ≡ (harts g).refs i)
    (λ e. put_other (harts h).refs n r i ne ∙ ap (λ (z : ℕ). (harts z).refs i) (sym e)) (λ q. refl)

pub here_refs : (harts : ℕ → Mine) (h n r : ℕ) → (with_refs harts h n r h).refs n ≡ r
here_refs harts h n r = ap (λ (m : Mine). m.refs n) (put_same harts h (record { refs = put (harts h).refs n r; walk = (harts h).walk; pending = (harts h).pending })) ∙ put_same (harts h).refs n r

pub walks_refs : (harts : ℕ → Mine) (h n r : ℕ) → ◌≡◌ {A = ℕ → Option Walk} (λ g. (with_refs harts h n r g).walk) (λ g. (harts g).walk)
walks_refs harts h n r = λ i g. each g i
  where
    each : (g : ℕ) → (with_refs harts h n r g).walk ≡ (harts g).walk
    each g = put_elim harts h (record { refs = put (harts h).refs n r; walk = (harts h).walk; pending = (harts h).pending }) g (λ m. m.walk ≡ (harts g).walk) (λ e. ap (λ (z : ℕ). (harts z).walk) (sym e)) (λ q. refl)

abbrev pub total : (ℕ → Mine) → ℕ → ℕ
total harts i = sum_below hart_count (λ g. (harts g).refs i)

pub total_same : (harts : ℕ → Mine) (h n r i : ℕ) → i ≢ n → total (with_refs harts h n r) i ≡ total harts i
total_same harts h n r i ne = sum_same hart_count (λ g. (harts g).refs i) (λ g. (with_refs harts h n r g).refs i) (λ g lt. each_refs harts h n r g i (inr ne))

pub total_changed : (harts : ℕ → Mine) (h n r : ℕ) → h < hart_count → total (with_refs harts h n r) n + (harts h).refs n ≡ total harts n + r
total_changed harts h n r lt =
    let s = sum_changed hart_count h (λ g. (harts g).refs n) (λ g. (with_refs harts h n r g).refs n) lt (λ g ne. each_refs harts h n r g n (inl ne)) in
    let e = here_refs harts h n r in
    omega (arith, s, e)

pub my_refs : (h : ℕ) (v : World) (O : Own) (i : ℕ) → own_of h v ≡ O → (v.harts h).refs i ≡ O.mine.refs i
my_refs h v O i ov = ap (λ (o : Own). o.mine.refs i) ov

-- an open file is among those counted
pub opens_slots : (v : World) (g i : ℕ) → Inv v → Opens (v.desks g).fds v.files i → 0 < v.slots i
opens_slots v g i inv o =
    let s = inv.tied.slots i in
    let p = sum_part file_count o.slot (λ k. number_is (v.files k) i) (inv.tied.within o.slot o.entry o.at) in
    let a : number_is (v.files o.slot) i ≡ one_if (o.entry.file.number == i) = ap (λ (z : Option Entry). number_is z i) o.at in
    let b : one_if (o.entry.file.number == i) ≡ 1 = one_yes (o.entry.file.number == i) (ap (λ (z : ℕ). z == i) o.number ∙ eq_self i) in
    omega (arith, s, p, a, b)

-- An inode that the hart refers to, and doesn't keep, is kept alone by nobody.
pub not_alone : (h g i : ℕ) (v : World) → Inv v → h < hart_count → g ≢ h → IsReferredTo v.desks v.files v.harts h i → v.alone i ≡ true → v.keeper i ≡ Some g → ⊥
not_alone h g i v inv lt ne pos is kept =
    let a = inv.alone i is in
    let same : Some a.hart ≡ Some g = sym a.kept ∙ kept in
    let e : a.hart ≡ g = cc in
    let c : v.refs i ≡ (v.harts g).refs i = a.counts ∙ ap (λ (z : ℕ). (v.harts z).refs i) e in
    let two = two_refs v g h i inv (inv.kept i g kept).0 lt ne in
    elim pos [ inl o ↦ (let p = opens_slots v h i inv o in omega (arith, c, two, p)) | inr p ↦ omega (arith, c, two, p) ]

-- what has a type is there
pub type_there : (o : Option Node) (s : InodeType) → type_of o ≡ Some s → o ≢ None
type_there o s q e = let a : type_of o ≡ None = ap (λ (z : Option Node). type_of z) e in cc (a, q)

-- and what is live has one
pub live_typed : (o : Option Node) → is_live o ≡ true → type_of o ≢ None
live_typed None q e = cc
live_typed (Some v) q e = cc

-- What was found has the type that it had then.
pub noted_type : (h j : ℕ) (R : Own) (m : Note) → R.desk.noted ≡ Some m → m.number ≡ j → R.inodes j ≡ None → 0 < R.mine.refs j → h < hart_count → (v : World) → Inv v → own_of h v ≡ R → type_of (v.all.nodes j) ≡ m.inode_type
noted_type h j R m is number out refers lt v inv ov =
    ap (λ (z : ℕ). type_of (v.all.nodes z)) (sym number)
    ∙ inv.noted h m lt (ap (λ (o : Own). o.desk.noted) ov ∙ is) (inl (let r = my_refs h v R j ov in let e : (v.harts h).refs m.number ≡ (v.harts h).refs j = ap (v.harts h).refs number in omega (arith, r, e, refers))) (ap v.alone number ∙ shared)
  where
    mine : 0 < (v.harts h).refs j
    mine = let r = my_refs h v R j ov in omega (arith, r, refers)

    shared : v.alone j ≡ false
    shared = elim (either (v.alone j)) [
      | inr y ↦ y
      | inl y ↦ (let a = inv.alone j y in elim (same_or a.hart h) [
        | inl e ↦ absurd (has_none h j v R ov out (a.kept ∙ ap (λ (z : ℕ). Some z) e))
        | inr ne ↦ absurd (not_alone h a.hart j v inv lt ne (inr mine) y a.kept)
      ])
    ]

abbrev pub locked_held : Option Node → Held
locked_held s = record { disk = s; node = s; alone = false; locked = true }

-- The lock of an inode that nobody else keeps, to which there is a reference.
pub record Locking (h i : ℕ) (v : World) (O : Own) : Type 0 where
  pub fair : Fair h v (locked h i v)
  pub whole : v.disk i ≡ v.all.nodes i
  pub owned : own_of h (locked h i v) ≡ record O { inodes = put O.inodes i (Some (locked_held (v.all.nodes i))) }

pub locking : Version → (h i : ℕ) (v : World) (O : Own) → own_of h v ≡ O → O.desk.lender ≡ None → h < hart_count → Inv v → O.inodes i ≡ None → IsReferredTo v.desks v.files v.harts h i → v.lock i ≡ None → Locking h i v O
locking version h i v O ov free lt inv out mine e = record { fair = fair inv did; whole = inv.whole i nobody; owned = owned }
  where
    nobody : v.keeper i ≡ None
    nobody = none (v.keeper i) refl
      where
        none : (o : Option ℕ) → v.keeper i ≡ o → o ≡ None
        none None q = refl
        none (Some g) q = elim (inv.held i g q) [
          | inl a ↦ absurd (let b : None ≡ Some g = sym e ∙ a in cc)
          | inr a ↦ absurd (not_alone h g i v inv lt (λ z. has_none h i v O ov out (q ∙ ap (λ (x : ℕ). Some x) z)) mine a q)
        ]

    u : World
    u = locked h i v

    more_kept : (d : ℕ) → v.keeper d ≡ Some h → (put v.keeper i (Some h) d ≡ Some h) × (v.all.nodes d ≡ v.all.nodes d)
    more_kept d q = (put_elim v.keeper i (Some h) d (λ z. z ≡ Some h) (λ y. refl) (λ y. q), refl)

    did : HartStep h v u
    did =
        record {
          hart = lt;
          inodes = λ j. elim (same_or j i) [
            | inl q ↦ inr (record {
              before = ours_none h (v.keeper j) (ap v.keeper q ∙ nobody);
              after = ours_some h (u.keeper j) (ap u.keeper q ∙ put_same v.keeper i (Some h));
              whole = λ f. absurd (let s : u.keeper j ≡ Some h = ap u.keeper q ∙ put_same v.keeper i (Some h) in cc);
              keeps = λ g is. let a : u.lock j ≡ Some h = ap u.lock q ∙ put_same v.lock i (Some h) in let s : u.keeper j ≡ Some h = ap u.keeper q ∙ put_same v.keeper i (Some h) in s ∙ sym a ∙ is;
            })
            | inr ne ↦ inl (record { lock = put_other v.lock i (Some h) j ne; keeper = put_other v.keeper i (Some h) j ne; disk = refl; node = refl; alone = refl })
          ];
          mine = λ g ne. refl;
          rows = λ g ne. refl;
          size = refl;
          ids = inv.ids;
          file_tables = file_tables_same h (file_tables_of v) inv.tied;
          free = ap (λ (o : Own). o.desk.lender) ov ∙ free;
          raised = inv.raised h lt;
          quiet = λ j. put_elim v.keeper i (Some h) j (λ z. z ≡ Some h → (v.desks h).joined ≡ false → v.disk j ≡ v.all.nodes j) (λ q is f. inv.whole j (ap v.keeper q ∙ nobody)) (λ q is f. inv.quiet j h is f);
          inode_type = λ j. inl refl;
          inode_types = inv.inode_types;
          noted = λ n is r s. inv.noted h n lt is r s;
          directory = inv.directory h lt;
          refers = inv.refers h lt;
          well = inv.well;
          counts = inv.counts;
          alone = λ j is. let a = inv.alone j is in record {
            hart = a.hart;
            kept = put_elim v.keeper i (Some h) j (λ z. z ≡ Some a.hart) (λ q. absurd (let b : v.keeper j ≡ None = ap v.keeper q ∙ nobody in let c = a.kept in cc)) (λ q. a.kept);
            dead = a.dead;
            counts = a.counts;
          };
          kept = λ j. put_elim v.keeper i (Some h) j (λ z. z ≡ Some h → IsReferredTo v.desks v.files v.harts h j) (λ q is. subst (λ (z : ℕ). IsReferredTo v.desks v.files v.harts h z) (sym q) mine) (λ q is. (inv.kept j h is).1);
          held = λ j is. put_elim v.lock i (Some h) j (λ z. (z ≡ Some h) ⊎ (v.alone j ≡ true)) (λ q. inl refl) (λ q. inv.held j h (sym (put_other v.keeper i (Some h) j q) ∙ is));
          named = λ j is. inv.named h j lt (ap (λ (o : Own). o.desk.lender) ov ∙ free) is;
          pending = λ j is. found_more h v u j more_kept (inv.pending h j lt is);
          walks = λ x is. inv.walks h x lt is;
        }

    alone_not : v.alone i ≡ false
    alone_not = elim (either (v.alone i)) [ inr y ↦ y | inl y ↦ absurd (let a = inv.alone i y in let b = a.kept in cc (b, nobody)) ]

    seen : view u h i ≡ locked_held (v.all.nodes i)
    seen = λ z. record { disk = inv.whole i nobody z; node = v.all.nodes i; alone = alone_not z; locked = is_me h (u.lock i) (put_same v.lock i (Some h)) z }

    owned : own_of h u ≡ record O { inodes = put O.inodes i (Some (locked_held (v.all.nodes i))) }
    owned = λ z. record {
      inodes = own_inodes h i v u O (Some (locked_held (v.all.nodes i))) ov (kept_here h (u.keeper i) (view u h i) (put_same v.keeper i (Some h)) ∙ ap (λ (y : Held). Some y) seen)
          (λ j ne. (put_other v.keeper i (Some h) j ne, (λ r. record { disk = v.disk j; node = v.all.nodes j; alone = v.alone j; locked = is_hart (put_other v.lock i (Some h) j ne r) h }))) z;
      mine = ap (λ (o : Own). o.mine) ov z;
      row = ap (λ (o : Own). o.row) ov z;
      ninodes = ap (λ (o : Own). o.ninodes) ov z;
      desk = ap (λ (o : Own). o.desk) ov z;
    }

-- a lock that is out is another hart's
pub is_out : (h i g : ℕ) (v : World) (O : Own) → Inv v → own_of h v ≡ O → O.inodes i ≡ None → v.lock i ≡ Some g → IsOut h (v.lock i)
is_out h i g v O inv ov out e = (g, (λ q. has_none h i v O ov out (inv.keeps i h (e ∙ ap (λ (z : ℕ). Some z) q))), e)

-- The lock is taken and the inode seen; F: what the invariant says of it, and that it has a type.
pub s-take : (version : Version) {A : Type 0} {h i : ℕ} {looking : Query} {k : Sight → P (machine version) A} {B : List Step → Type 0} {Q : A → List Step → World → Type 0} {n : ℕ} {es : List Step} {w : World} {O : Own} (F : Option Node → Type 0) (there : (o : Option Node) → F o → o ≢ None) (sought : Sought version looking)
    → own_of h w ≡ O → O.desk.lender ≡ None → h < hart_count → looking_cost looking < n → O.inodes i ≡ None → 0 < O.mine.refs i → ((v : World) → Inv v → own_of h v ≡ O → F (v.all.nodes i))
    → ((l : ℕ) (s : Option Node) (u : World) → l + (looking_cost looking + 1) ≡ n → F s → own_of h u ≡ record O { inodes = put O.inodes i (Some (locked_held s)) } → Safe (machine version) h B Q (k (seen_in version i looking s)) l es u)
    → Safe (machine version) h B Q (Do (Take i looking) unmarked k) n es w
s-take version {A} {h} {i} {looking} {k} {B} {Q} {n} {es} {w} {O} F there sought owns free lt pos out refers fact rest = s-owned version owns free pos (λ v inv ov. (
  ((let r = my_refs h v O i ov in omega (arith, r, refers), locks_not h i v O inv ov out), (λ e z. there (v.all.nodes i) (fact v inv ov) (sym (locking version h i v O ov free lt inv out (inr (let r = my_refs h v O i ov in omega (arith, r, refers))) e).whole ∙ z)), sought),
  (λ x honest. at v inv ov (v.lock i) refl),
))
  where
    at : (v : World) → Inv v → own_of h v ≡ O → (r : Option ℕ) → v.lock i ≡ r
        → Good (machine version) Sight h (λ a. []) (looking_cost looking) n B es v (IsOut h (v.lock i)) (with_mark version h unmarked (lock_if h i (seen_in version i looking (v.disk i)) v (locked h i v) r)) (λ l a u. Wp (machine version) h B Q (k a) l es u)
    at v inv ov (Some g) e = is_out h i g v O inv ov out e
    at v inv ov None e =
        let a = locking version h i v O ov free lt inv out (inr (let r = my_refs h v O i ov in omega (arith, r, refers))) e in
        quiet version a.fair refl pos (λ l q. subst (λ (z : Option Node). Wp (machine version) h B Q (k (seen_in version i looking z)) l es (locked h i v)) (sym a.whole) (rest l (v.all.nodes i) (locked h i v) q (fact v inv ov) a.owned).wp)

pub has_disk : (h i : ℕ) (v : World) (O : Own) (x : Held) → own_of h v ≡ O → O.inodes i ≡ Some x → v.disk i ≡ x.disk
has_disk h i v O x ov is = ap (λ (y : Held). y.disk) (has_inode h i v O x ov is).1

pub has_node : (h i : ℕ) (v : World) (O : Own) (x : Held) → own_of h v ≡ O → O.inodes i ≡ Some x → v.all.nodes i ≡ x.node
has_node h i v O x ov is = ap (λ (y : Held). y.node) (has_inode h i v O x ov is).1

pub root_live : (t : Tree) → IsWellFormed t → is_live (t.nodes root) ≡ true
root_live t k = linked_live (t.nodes root) (folder_linked (folders_of t.nodes) (links_in t.nodes) (raises t.holds) t.ninodes k.depth root k.forest k.forest.rooted)

-- what the hart has found in a directory that it keeps
abbrev pub HasFound : Own → ℕ → Type 0
HasFound O i = (O.mine.pending ≡ Some i) ⊎ ((d : ℕ) × (x : Held) × (e : List ℕ) × (O.inodes d ≡ Some x) × (look (λ j. x.node) d e ≡ Some i))

pub found_at : (h i : ℕ) (v : World) (O : Own) → Inv v → own_of h v ≡ O → h < hart_count → HasFound O i → Found v.keeper v.all.nodes h i
found_at h i v O inv ov lt (inl p) = inv.pending h i lt (ap (λ (o : Own). o.mine.pending) ov ∙ p)
found_at h i v O inv ov lt (inr (d, x, e, is, f)) = record { directory = d; name = e; keeps = (has_inode h d v O x ov is).0; finds = look_same (λ j. x.node) v.all.nodes d e (has_node h d v O x ov is) ∙ f }

-- a reference more, if the hart has one of its own, or something was found
abbrev pub MayRefer : Own → ℕ → Type 0
MayRefer O i = (0 < O.mine.refs i) ⊎ ((i ≡ root) ⊎ HasFound O i)

pub one_up : (r : ℕ) → 0 < r + 1
one_up r = omega arith

-- what it noted it reaches
abbrev pub NotesOwn : Own → ℕ → Type 0
NotesOwn O i = (m : Note) → O.desk.noted ≡ Some m → m.number ≡ i → (0 < O.mine.refs i) ⊎ (O.mine.pending ≡ Some i)

pub record Ups (h i : ℕ) (O : Own) (v : World) : Type 0 where
  pub fair : Fair h v (counted_up h i v)
  pub stage : stage_of (counted_up h i v) ≡ stage_of v
  pub owned : own_of h (counted_up h i v) ≡ record O { mine = record { refs = put O.mine.refs i (O.mine.refs i + 1); walk = O.mine.walk; pending = None } }

pub ups : Version → (h i : ℕ) (O : Own) (v : World) → Inv v → own_of h v ≡ O → O.desk.lender ≡ None → h < hart_count → MayRefer O i → ((O.mine.pending ≡ None) ⊎ (O.mine.pending ≡ Some i)) → NotesOwn O i → O.mine.refs i < reference_limit → Ups h i O v
ups version h i O v0 inv0 ov0 free0 lt may only notes room = record { fair = fair inv0 (did v0 inv0 ov0); stage = stage v0; owned = owned v0 ov0 }
  where
    after : World → World
    after v = counted_up h i v

    new : World → Mine
    new v = record { refs = put (v.harts h).refs i ((v.harts h).refs i + 1); walk = (v.harts h).walk; pending = None }

    refs_other : (v : World) (g j : ℕ) → (g ≢ h) ⊎ (j ≢ i) → (put v.harts h (new v) g).refs j ≡ (v.harts g).refs j
    refs_other v g j (inl ne) = ap (λ (m : Mine). m.refs j) (put_other v.harts h (new v) g ne)
    refs_other v g j (inr ne) = put_elim v.harts h (new v) g (λ m. m.refs j ≡ (v.harts g).refs j) (λ e. put_other (v.harts h).refs i ((v.harts h).refs i + 1) j ne ∙ ap (λ (z : ℕ). (v.harts z).refs j) (sym e)) (λ q. refl)

    refs_here : (v : World) → (put v.harts h (new v) h).refs i ≡ (v.harts h).refs i + 1
    refs_here v = ap (λ (m : Mine). m.refs i) (put_same v.harts h (new v)) ∙ put_same (v.harts h).refs i ((v.harts h).refs i + 1)

    stage : (v : World) → stage_of (after v) ≡ stage_of v
    stage v = λ r. record { tree = settle v.all; walk = λ g. each g r }
      where
        each : (g : ℕ) → (put v.harts h (new v) g).walk ≡ (v.harts g).walk
        each g = put_elim v.harts h (new v) g (λ m. m.walk ≡ (v.harts g).walk) (λ e. ap (λ (z : ℕ). (v.harts z).walk) (sym e)) (λ q. refl)

    -- nobody else keeps it alone
    free : (v : World) → Inv v → own_of h v ≡ O → (a : IsAlone v.keeper v.all.nodes v.refs v.harts i) → a.hart ≡ h
    free v inv ov a = elim (same_or a.hart h) [
      | inl e ↦ e
      | inr ne ↦ absurd (elim may [
        | inl p ↦ (let two = two_refs v a.hart h i inv (inv.kept i a.hart a.kept).0 lt ne in let c = a.counts in let r = my_refs h v O i ov in omega (arith, two, c, r, p))
        | inr (inl p) ↦ (let l = root_live v.all inv.well in let b = subst (λ (z : ℕ). is_live (v.all.nodes z) ≡ false) p a.dead in cc (l, b))
        | inr (inr (inl p)) ↦ found (inv.pending h i lt (ap (λ (o : Own). o.mine.pending) ov ∙ p))
        | inr (inr (inr p)) ↦ (let f : look v.all.nodes p.0 p.2 ≡ Some i = look_as p.0 p.2 p.1.node (has_node h p.0 v O p.1 ov p.3) p.4 in live_not p.0 p.2 f)
      ])
    ]
      where
        live_not : (d : ℕ) (e : List ℕ) → look v.all.nodes d e ≡ Some i → ⊥
        live_not d e f = let l = look_live v.all d i e inv.well f in let b = a.dead in cc (l, b)

        found : Found v.keeper v.all.nodes h i → ⊥
        found f = live_not f.directory f.name f.finds

        look_as : (d : ℕ) (e : List ℕ) (x : Option Node) → v.all.nodes d ≡ x → look (λ j. x) d e ≡ Some i → look v.all.nodes d e ≡ Some i
        look_as d e x same is = look_same (λ j. x) v.all.nodes d e same ∙ is

    grow : (v : World) (j : ℕ) → 0 < (v.harts h).refs j → 0 < (put v.harts h (new v) h).refs j
    grow v j p = elim (same_or j i) [
      | inl e ↦ subst (λ (z : ℕ). 0 < (put v.harts h (new v) h).refs z) (sym e) (let a = refs_here v in omega (arith, a))
      | inr ne ↦ (let a = refs_other v h j (inr ne) in omega (arith, a, p))
    ]

    pin : (v : World) (j : ℕ) → IsReferredTo v.desks v.files v.harts h j → IsReferredTo v.desks v.files (put v.harts h (new v)) h j
    pin v j (inl p) = inl p
    pin v j (inr p) = inr (grow v j p)

    reach : (v : World) (j : ℕ) → own_of h v ≡ O → IsReached v h j → IsReached (after v) h j
    reach v j ov (inl p) = inl (grow v j p)
    reach v j ov (inr p) = inl (elim only [
      | inl e ↦ absurd (let a = ap (λ (o : Own). o.mine.pending) ov in cc (a, e, p))
      | inr e ↦ (let a : (v.harts h).pending ≡ O.mine.pending = ap (λ (o : Own). o.mine.pending) ov in let b : Some i ≡ Some j = sym e ∙ sym a ∙ p in let c : i ≡ j = cc in
          subst (λ (z : ℕ). 0 < (put v.harts h (new v) h).refs z) c (let d = refs_here v in omega (arith, d)))
    ])

    -- what it reaches now it did before
    back : (v : World) (m : Note) → (v.desks h).noted ≡ Some m → own_of h v ≡ O → IsReached (after v) h m.number → IsReached v h m.number
    back v m is ov r = elim (same_or m.number i) [
      | inl e ↦ elim (notes m (ap (λ (o : Own). o.desk.noted) (sym ov) ∙ is) e) [
        | inl p ↦ inl (let a = my_refs h v O i ov in let b : (v.harts h).refs m.number ≡ (v.harts h).refs i = ap (v.harts h).refs e in omega (arith, a, b, p))
        | inr p ↦ inr (ap (λ (o : Own). o.mine.pending) ov ∙ p ∙ ap (λ (z : ℕ). Some z) (sym e))
      ]
      | inr ne ↦ elim r [
        | inl p ↦ inl (let a = refs_other v h m.number (inr ne) in omega (arith, a, p))
        | inr p ↦ absurd (let a : (put v.harts h (new v) h).pending ≡ None = ap (λ (x : Mine). x.pending) (put_same v.harts h (new v)) in cc (a, p))
      ]
    ]

    did : (v : World) → Inv v → own_of h v ≡ O → HartStep h v (after v)
    did v inv ov =
        record {
          hart = lt;
          inodes = λ j. inl (record { lock = refl; keeper = refl; disk = refl; node = refl; alone = refl });
          mine = λ g ne. put_other v.harts h (new v) g ne;
          rows = λ g ne. refl;
          size = refl;
          ids = inv.ids;
          file_tables = file_tables_same h (file_tables_of v) inv.tied;
          free = ap (λ (o : Own). o.desk.lender) ov ∙ free0;
          raised = inv.raised h lt;
          quiet = λ j is f. inv.quiet j h is f;
          inode_type = λ j. inl refl;
          inode_types = inv.inode_types;
          noted = λ n is r s. inv.noted h n lt is (back v n is ov r) s;
          directory = inv.directory h lt;
          refers = refers_put (v.harts h) (put v.harts h (new v) h) (v.desks h) (v.desks h) i ((v.harts h).refs i + 1) (ap (λ (m : Mine). m.refs) (put_same v.harts h (new v))) refl (let r = my_refs h v O i ov in omega (arith, r, room)) (λ q. omega arith) (inv.refers h lt);
          well = inv.well;
          counts = λ j. elim (same_or j i) [
            | inl e ↦ subst (λ (z : ℕ). (after v).refs z ≡ v.slots z + sum_below hart_count (λ g. (put v.harts h (new v) g).refs z)) (sym e)
                (let s = sum_changed hart_count h (λ g. (v.harts g).refs i) (λ g. (put v.harts h (new v) g).refs i) lt (λ g ne. refs_other v g i (inl ne)) in let r = refs_here v in let c = inv.counts i in let p = put_same v.refs i (v.refs i + 1) in omega (arith, s, r, c, p))
            | inr ne ↦ put_other v.refs i (v.refs i + 1) j ne ∙ inv.counts j ∙ ap (λ (z : ℕ). v.slots j + z) (sym (sum_same hart_count (λ g. (v.harts g).refs j) (λ g. (put v.harts h (new v) g).refs j) (λ g l. refs_other v g j (inr ne))))
          ];
          alone = λ j is. let a = inv.alone j is in record {
            hart = a.hart;
            kept = a.kept;
            dead = a.dead;
            counts = elim (same_or j i) [
              | inl e ↦
                  let b : IsAlone v.keeper v.all.nodes v.refs v.harts i = subst (IsAlone v.keeper v.all.nodes v.refs v.harts) e a in
                  let me : a.hart ≡ h = free v inv ov (record { hart = a.hart; kept = subst (λ (z : ℕ). v.keeper z ≡ Some a.hart) e a.kept; dead = subst (λ (z : ℕ). is_live (v.all.nodes z) ≡ false) e a.dead; counts = subst (λ (z : ℕ). v.refs z ≡ (v.harts a.hart).refs z) e a.counts }) in
                  let c : v.refs i ≡ (v.harts h).refs i = subst (λ (z : ℕ). v.refs z ≡ (v.harts a.hart).refs z) e a.counts ∙ ap (λ (z : ℕ). (v.harts z).refs i) me in
                  ap (put v.refs i (v.refs i + 1)) e ∙ put_same v.refs i (v.refs i + 1) ∙ ap (λ (z : ℕ). z + 1) c ∙ sym (refs_here v) ∙ ap (λ (z : ℕ). (put v.harts h (new v) z).refs i) (sym me) ∙ ap (λ (z : ℕ). (put v.harts h (new v) a.hart).refs z) (sym e)
              | inr ne ↦ put_other v.refs i (v.refs i + 1) j ne ∙ a.counts ∙ sym (refs_other v a.hart j (inr ne))
            ];
          };
          kept = λ j is. pin v j (inv.kept j h is).1;
          held = λ j is. inv.held j h is;
          named = λ j is. reach v j ov (inv.named h j lt (ap (λ (o : Own). o.desk.lender) ov ∙ free0) is);
          pending = λ j is. absurd (let a : (put v.harts h (new v) h).pending ≡ None = ap (λ (m : Mine). m.pending) (put_same v.harts h (new v)) in cc (a, is));
          walks = λ x is. reach v x.at ov (inv.walks h x lt (sym (ap (λ (m : Mine). m.walk) (put_same v.harts h (new v))) ∙ is));
        }

    owned : (v : World) → own_of h v ≡ O → own_of h (after v) ≡ record O { mine = record { refs = put O.mine.refs i (O.mine.refs i + 1); walk = O.mine.walk; pending = None } }
    owned v ov = λ z. record {
      inodes = ap (λ (o : Own). o.inodes) ov z;
      mine = (put_same v.harts h (new v) ∙ ap (λ (o : Own). record { refs = put o.mine.refs i (o.mine.refs i + 1); walk = o.mine.walk; pending = None }) ov) z;
      row = ap (λ (o : Own). o.row) ov z;
      ninodes = ap (λ (o : Own). o.ninodes) ov z;
      desk = ap (λ (o : Own). o.desk) ov z;
    }

-- a reference more, if there is a place in memory
pub s-up : (version : Version) {A : Type 0} {h i : ℕ} {m : Bool → Option Mark} {k : Bool → P (machine version) A} {B : List Step → Type 0} {Q : A → List Step → World → Type 0} {n : ℕ} {es : List Step} {w : World} {O : Own}
    → own_of h w ≡ O → O.desk.lender ≡ None → h < hart_count → 0 < n → m true ≡ None → HasFound O i → ((O.mine.pending ≡ None) ⊎ (O.mine.pending ≡ Some i)) → NotesOwn O i → O.mine.refs i < reference_limit
    → ((l : ℕ) (u : World) → l + 1 ≡ n → own_of h u ≡ record O { mine = record { refs = put O.mine.refs i (O.mine.refs i + 1); walk = O.mine.walk; pending = None } } → Safe (machine version) h B Q (k true) l es u)
    → ((v : World) → Inv v → own_of h v ≡ O → Fine (machine version) h (places version h (Up i) false (m false) v) 0 n B es v (marked version h (m false) v) (λ l. Wp (machine version) h B Q (k false) l (onto (own h (places version h (Up i) false (m false) v)) es) (marked version h (m false) v)))
    → Safe (machine version) h B Q (Do (Up i) m k) n es w
s-up version {A} {h} {i} {m} {k} {B} {Q} {n} {es} {w} {O} owns free lt pos quietly found only notes room rest full = s-owned version owns free pos (λ v inv ov. (found_at h i v O inv ov lt found, (λ x honest. at v inv ov (has_place v i))))
  where
    at : (v : World) → Inv v → own_of h v ≡ O → (b : Bool) → Good (machine version) Bool h (λ a. places version h (Up i) a (m a) v) 0 n B es v ⊥ (with_mark version h m (up_if h i v b)) (λ l a u. Wp (machine version) h B Q (k a) l (onto (own h (places version h (Up i) a (m a) v)) es) u)
    at v inv ov false = full v inv ov
    at v inv ov true =
        let x = ups version h i O v inv ov free lt (inr (inr found)) only notes room in
        subst (λ (z : Option Mark). Fine (machine version) h (places version h (Up i) true z v) 0 n B es v (marked version h z (counted_up h i v)) (λ l. Wp (machine version) h B Q (k true) l (onto (own h (places version h (Up i) true z v)) es) (marked version h z (counted_up h i v)))) (sym quietly)
        (quiet version x.fair x.stage pos (λ l q. (rest l (counted_up h i v) q x.owned).wp))
