-- A step of the tree acts at a walk's last lookup: what it leaves of the world.
use Rattle.image_versions.specs.declared.version.Version.{Version}
use Rattle.inode_machine.proofs.Vocabulary.{◌≡◌, ◌≢◌, ◌⊎◌, inl, inr, ℕ, ◌+◌, ◌<◌, ◌≤◌, Bool, true, false, List, [], ◌∷◌, Option, Some, None, refl, sym, ◌∙◌, ap, subst, arith, P, own, onto, Fine, Wp, Node, Action, Inherit, StepAnswer, hart_count, Name, Tree, put, look, is_live, live_directory, settle, makes_node, opens_one, refusal_with, effect_with, answer_with, StepWith, AsksForWhatStays, row_of, settle_alive, settle_live, settle_again, settled_step, settled_makes, IsWellFormed, same_or, put_same, put_other, sum_same, look_live, look_same, Walk, Deed, Stage, Step, walks_at, Look, Mine, Note, Desk, World, stage_of, IsOfRange, type_of, with_walk, Made, acts, act_entered, act_left, found_by, look_made, looked, made_by, new_id, with_made, own_names, Stands, file_tables_of, Found, IsReferredTo, IsReached, IsAlone, Inv, machine}
use Rattle.inode_machine.proofs.Frame.{ours_some, FilesStep, HartStep, Ours, Fair, two_refs, refers_on, type_on}
use Rattle.inode_machine.proofs.Freeing.{lone_file}
use Rattle.inode_machine.proofs.Walking.{refs_walk, moves_good}

-- What an act by hart h needs of its change, and then leaves. p: what it found, and has not counted up yet.
pub record Fits (h : ℕ) (v : World) (all : Tree) (p : Option ℕ) (alone : ℕ → Bool) (next : ℕ) (D : ℕ → Desk) (c : Bool) : Type 0 where
  pub ids : (k : ℕ) → next ≤ k → all.files k ≡ None
  pub file_tables : FilesStep h (λ n. Ours h (v.keeper n)) (file_tables_of v) (record { files = v.files; desks = D; ids = v.ids; slots = v.slots; clean = c; tree_fds = all.fds; tree_files = all.files })
  pub fds : (D h).fds ≡ (v.desks h).fds
  pub free : (D h).lender ≡ None
  pub unlent : (v.desks h).lender ≡ None
  pub joined : (D h).joined ≡ true
  pub directory : Stands (D h) (all.cwd h) all.nodes
  pub home : (D h).directory ≡ (v.desks h).directory
  pub well : IsWellFormed all
  pub size : all.ninodes ≡ v.all.ninodes
  pub rows : (g : ℕ) → g ≢ h → row_of all g ≡ row_of v.all g
  -- the hart keeps each node that changes, and keeps it alone if its type changes
  pub nodes : (j : ℕ) → ((all.nodes j ≡ v.all.nodes j) × (alone j ≡ v.alone j)) ⊎ (v.keeper j ≡ Some h)
  pub inode_type : (j : ℕ) → (type_of (all.nodes j) ≡ type_of (v.all.nodes j)) ⊎ ((v.keeper j ≡ Some h) × (v.alone j ≡ true))
  pub noted : (m : Note) → (D h).noted ≡ Some m → (0 < (v.harts h).refs m.number) ⊎ (p ≡ Some m.number) → alone m.number ≡ false → type_of (all.nodes m.number) ≡ m.inode_type
  pub lone : (j : ℕ) → alone j ≡ true → (v.alone j ≡ true) × (is_live (all.nodes j) ≡ false)
  pub held : (j : ℕ) → v.keeper j ≡ Some h → (v.lock j ≡ Some h) ⊎ (alone j ≡ true)
  pub named : (j : ℕ) → own_names (row_of all h) (D h) j ≡ true → (own_names (row_of v.all h) (v.desks h) j ≡ true) ⊎ ((0 < (v.harts h).refs j) ⊎ (p ≡ Some j))
  pub found : (j : ℕ) → p ≡ Some j → Found v.keeper all.nodes h j

pub acts_did : (h : ℕ) (v : World) (all : Tree) (p : Option ℕ) (alone : ℕ → Bool) (next : ℕ) (D : ℕ → Desk) (c : Bool) → h < hart_count → Inv v → (v.harts h).pending ≡ None → Fits h v all p alone next D c
    → HartStep h v (record v { clean = c; desks = D; all = all; alone = alone; next = next; harts = with_walk v.harts h None p })
acts_did h v all p alone next D c lt inv none fits =
    record {
      hart = lt;
      inodes = λ j. elim (fits.nodes j) [
        | inl e ↦ inl (record { lock = refl; keeper = refl; disk = refl; node = e.0; alone = e.1 })
        | inr e ↦ inr (record { before = ours_some h (v.keeper j) e; after = ours_some h (v.keeper j) e; whole = λ f. absurd (cc (e, f)); keeps = λ g is. inv.keeps j g is })
      ];
      mine = λ g ne. put_other v.harts h new g ne;
      rows = fits.rows;
      size = fits.size;
      ids = fits.ids;
      file_tables = fits.file_tables;
      free = fits.free;
      raised = λ q. fits.joined;
      quiet = λ j is f. absurd (let e = fits.joined in cc (e, f));
      inode_type = fits.inode_type;
      inode_types = λ k e is. elim (fits.inode_type e.file.number) [ inl q ↦ type_on v.all.nodes all.nodes e q (inv.inode_types k e is) | inr q ↦ absurd (lone_file h e.file.number k e v inv lt q.1 q.0 is refl) ];
      noted = λ m is r s. fits.noted m is (elim r [
        | inl a ↦ inl (let e = refs_walk v.harts h None p h m.number in omega (arith, e, a))
        | inr a ↦ inr (sym (ap (λ (z : Mine). z.pending) (put_same v.harts h new)) ∙ a)
      ]) s;
      directory = fits.directory;
      refers = refers_on (v.harts h) (with_walk v.harts h None p h) (v.desks h) (D h) (λ j. refs_walk v.harts h None p h j) fits.home (inv.refers h lt);
      well = fits.well;
      counts = λ j. inv.counts j ∙ ap (λ (z : ℕ). v.slots j + z) (sym (sum_same hart_count (λ g. (v.harts g).refs j) (λ g. (with_walk v.harts h None p g).refs j) (λ g l. refs_walk v.harts h None p g j)));
      alone = λ j is. let q = fits.lone j is in let a = inv.alone j q.0 in record { hart = a.hart; kept = a.kept; dead = q.1; counts = a.counts ∙ sym (refs_walk v.harts h None p a.hart j) };
      kept = λ j is. pin j (inv.kept j h is).1;
      held = λ j is. fits.held j is;
      named = λ j is. elim (fits.named j is) [
        | inl a ↦ elim (inv.named h j lt fits.unlent a) [ inl b ↦ inl (grow j b) | inr b ↦ absurd (cc (b, none)) ]
        | inr (inl a) ↦ inl (grow j a)
        | inr (inr a) ↦ inr (ap (λ (m : Mine). m.pending) (put_same v.harts h new) ∙ a)
      ];
      pending = λ j is. fits.found j (sym (ap (λ (m : Mine). m.pending) (put_same v.harts h new)) ∙ is);
      walks = λ x is. absurd (let q : (with_walk v.harts h None p h).walk ≡ None = ap (λ (m : Mine). m.walk) (put_same v.harts h new) in cc (q, is));
    }
  where
    new : Mine
    new = record { refs = (v.harts h).refs; walk = None; pending = p }

    grow : (j : ℕ) → 0 < (v.harts h).refs j → 0 < (with_walk v.harts h None p h).refs j
    grow j a = let r = refs_walk v.harts h None p h j in omega (arith, r, a)

    pin : (j : ℕ) → IsReferredTo v.desks v.files v.harts h j → IsReferredTo D v.files (with_walk v.harts h None p) h j
    pin j (inl o) = inl (record { fd = o.fd; below = o.below; slot = o.slot; is = ap (λ (f : ℕ → Option ℕ). f o.fd) fits.fds ∙ o.is; entry = o.entry; at = o.at; number = o.number })
    pin j (inr a) = inr (grow j a)

-- A step that isn't refused, as the machine makes it.
pub acts_gone : (version : Version) (b : Tree) (h : ℕ) (s : Action) (res : Option ℕ) (par : Option (ℕ × Name)) (new id : ℕ) → refusal_with version b h s res par ≡ None
    → acts version b h s res par new id ≡ record {
      all = effect_with version b h s res par new id;
      walk = None;
      found = found_by s res;
      opened = act_entered None (opens_one b h s) id;
      entered = act_entered None (makes_node b s par) new;
      left = act_left None s (b.cwd h);
      told = Some (record { act = record { step = s; answer = answer_with version b h s res par id }; new = new });
    }
acts_gone version b h s res par new id goes = rw goes refl

abbrev pub told_step : ℕ → Action → StepAnswer → Step
told_step new s a = record { move = Look new; told = Some (record { act = record { step = s; answer = a }; new = new }) }

-- what a walk at its last name asks for stays when the tree settles
asks : (t : Tree) (d : ℕ) (e : Name) (f : Option ℕ) → IsWellFormed t → live_directory (t.nodes d) ≡ true → look t.nodes d e ≡ f → AsksForWhatStays t f (Some (d, e))
asks t d e f well live is = record {
  node = λ n q. settle_alive t n (look_live t d n e well (is ∙ q));
  directory = λ q r. let s : (d, e) ≡ q = cc in subst (λ (p : ℕ × Name). (settle t).nodes p.0 ≡ t.nodes p.0) s (settle_live t d live);
  child = λ q n r l. let s : (d, e) ≡ q = cc in settle_alive t n (look_live t d n e well (subst (λ (p : ℕ × Name). look t.nodes p.0 p.1 ≡ Some n) (sym s) l));
}

-- The step acts at the last lookup, when the walk is at d. u: the world once the disk is changed; x: what the move
-- makes; T: the tree after the step.
pub act_good_to : (version : Version) {A : Type 0} (h more n : ℕ) (B : List Step → Type 0) (Q : A → List Step → World → Type 0) (es : List Step) (v u : World) (s : Action) (d new : ℕ) (range : IsOfRange (stage_of v) (Look new)) (e : Name) (f : Option ℕ) (a : StepAnswer) (x : Made) (T : Tree) (p : P (machine version) A)
    → h < hart_count → Inv v → (v.harts h).walk ≡ Some (record { step = s; at = d; next = e; rest = [] }) → live_directory (v.all.nodes d) ≡ true → look v.all.nodes d e ≡ f → ((g : ℕ) → s ≡ Inherit g → ⊥)
    → acts version v.all h s f (Some (d, e)) new (new_id v) ≡ x → x.told ≡ Some (record { act = record { step = s; answer = a }; new = new })
    → StepWith version v.all h s f (Some (d, e)) a new (new_id v) T → settle T ≡ settle x.all
    → (makes_node v.all s (Some (d, e)) ≡ true → (g : ℕ) → g < hart_count → g ≢ h → walks_at (v.harts g).walk new → ⊥)
    → Fair h v (with_made h x u) → stage_of (with_made h x u) ≡ record { tree = settle x.all; walk = put (λ g. (v.harts g).walk) h None } → B (told_step new s a ∷ es) → more < n
    → ((l : ℕ) → l + (more + 1) ≡ n → Wp (machine version) h B Q p l (told_step new s a ∷ es) (with_made h x u))
    → Fine (machine version) h ((h, record { move = Look new; told = (made_by version v.all h (new_id v) (v.harts h).walk (Look new)).told }) ∷ []) more n B es v (with_made h (made_by version v.all h (new_id v) (v.harts h).walk (Look new)) u)
    (λ l. Wp (machine version) h B Q p l (onto (own h ((h, record { move = Look new; told = (made_by version v.all h (new_id v) (v.harts h).walk (Look new)).told }) ∷ [])) es) (with_made h (made_by version v.all h (new_id v) (v.harts h).walk (Look new)) u))
act_good_to version {A} h more n B Q es v u s d new range e f a x T p lt inv mine live is inherits made told step same alone f2 stage b pos next =
    moves_good version h more n B Q es v u (Look new) range p (made_by version v.all h (new_id v) (v.harts h).walk (Look new)) x
    (ap (λ (o : Option Walk). look_made version v.all h o new (new_id v)) mine ∙ (λ i. looked version v.all h y [] (is i) new (new_id v)) ∙ made)
    f2
    (record {
      walk = y;
      is = mine;
      live = ap (λ (o : Option Node). live_directory o) settled ∙ live;
      looks = record {
        answer = a;
        id = new_id v;
        deed = told;
        step = subst (λ (g : Option ℕ). StepWith version (settle v.all) h s g (Some (d, e)) a new (new_id v) (stage_of (with_made h x u)).tree) (sym look_is)
            (subst (λ (t : Tree). StepWith version (settle v.all) h s f (Some (d, e)) a new (new_id v) t) (same ∙ sym (ap (λ (m : Stage). m.tree) stage)) (settled_step version v.all h s f (Some (d, e)) a new (new_id v) T (asks v.all d e f inv.well live is) step));
        walk = ap (λ (m : Stage). m.walk) stage;
        alone = λ ok q. alone (sym (settled_makes v.all h s f (Some (d, e)) lt (asks v.all d e f inv.well live is)) ∙ q);
        idle = λ g l q. absurd (inherits g q);
      };
    })
    (subst (λ (o : Option Deed). B (record { move = Look new; told = o } ∷ es)) (sym told) b) pos
    (λ l q. subst (λ (o : Option Deed). Wp (machine version) h B Q p l (record { move = Look new; told = o } ∷ es) (with_made h x u)) (sym told) (next l q))
  where
    y : Walk
    y = record { step = s; at = d; next = e; rest = [] }

    settled : (settle v.all).nodes d ≡ v.all.nodes d
    settled = settle_live v.all d live

    look_is : look (settle v.all).nodes d e ≡ f
    look_is = look_same v.all.nodes (settle v.all).nodes d e settled ∙ is

-- the same of a step that isn't refused
pub act_good : (version : Version) {A : Type 0} (h more n : ℕ) (B : List Step → Type 0) (Q : A → List Step → World → Type 0) (es : List Step) (v u : World) (s : Action) (d new : ℕ) (range : IsOfRange (stage_of v) (Look new)) (e : Name) (f : Option ℕ) (a : StepAnswer) (x : Made) (p : P (machine version) A)
    → h < hart_count → Inv v → (v.harts h).walk ≡ Some (record { step = s; at = d; next = e; rest = [] }) → live_directory (v.all.nodes d) ≡ true → look v.all.nodes d e ≡ f → ((g : ℕ) → s ≡ Inherit g → ⊥)
    → acts version v.all h s f (Some (d, e)) new (new_id v) ≡ x → x.told ≡ Some (record { act = record { step = s; answer = a }; new = new }) → refusal_with version v.all h s f (Some (d, e)) ≡ None
    → StepWith version v.all h s f (Some (d, e)) a new (new_id v) (settle x.all)
    → (makes_node v.all s (Some (d, e)) ≡ true → (g : ℕ) → g < hart_count → g ≢ h → walks_at (v.harts g).walk new → ⊥)
    → Fair h v (with_made h x u) → stage_of (with_made h x u) ≡ record { tree = settle x.all; walk = put (λ g. (v.harts g).walk) h None } → B (told_step new s a ∷ es) → more < n
    → ((l : ℕ) → l + (more + 1) ≡ n → Wp (machine version) h B Q p l (told_step new s a ∷ es) (with_made h x u))
    → Fine (machine version) h ((h, record { move = Look new; told = (made_by version v.all h (new_id v) (v.harts h).walk (Look new)).told }) ∷ []) more n B es v (with_made h (made_by version v.all h (new_id v) (v.harts h).walk (Look new)) u)
    (λ l. Wp (machine version) h B Q p l (onto (own h ((h, record { move = Look new; told = (made_by version v.all h (new_id v) (v.harts h).walk (Look new)).told }) ∷ [])) es) (with_made h (made_by version v.all h (new_id v) (v.harts h).walk (Look new)) u))
act_good version h more n B Q es v u s d new range e f a x p lt inv mine live is inherits made told goes step alone f2 stage b pos next = act_good_to version h more n B Q es v u s d new range e f a x (settle x.all) p lt inv mine live is inherits made told step (sym (settle_again x.all)) alone f2 stage b pos next

-- nobody's walk is at an inode that one hart keeps alone
pub no_walk : (h i g : ℕ) (v : World) → Inv v → h < hart_count → v.alone i ≡ true → v.keeper i ≡ Some h → g < hart_count → g ≢ h → walks_at (v.harts g).walk i → ⊥
no_walk h i g v inv lt lone kept lg ne walks = at (v.harts g).walk refl walks
  where
    a : IsAlone v.keeper v.all.nodes v.refs v.harts i
    a = inv.alone i lone

    counts : v.refs i ≡ (v.harts h).refs i
    counts = let s : Some a.hart ≡ Some h = sym a.kept ∙ kept in let e : a.hart ≡ h = cc in a.counts ∙ ap (λ (z : ℕ). (v.harts z).refs i) e

    reached : IsReached v g i → ⊥
    reached (inl p) = let o = two_refs v g h i inv lg lt ne in let c = counts in omega (arith, o, c, p)
    reached (inr p) = let f = inv.pending g i lg p in let l = look_live v.all f.directory i f.name inv.well f.finds in let u = a.dead in absurd (cc (l, u))

    at : (o : Option Walk) → (v.harts g).walk ≡ o → walks_at o i → ⊥
    at None q w = w
    at (Some k) q w = reached (subst (λ (z : ℕ). IsReached v g z) w (inv.walks g k lg q))

pub two_put : {A : Type 0} (f g : ℕ → A) (d c : ℕ) (x y : A) → g d ≡ x → g c ≡ y → ((n : ℕ) → n ≢ d → n ≢ c → g n ≡ f n) → g ≡ put (put f d x) c y
two_put f g d c x y gd gc there = λ i n. each n i
  where
    each : (n : ℕ) → g n ≡ put (put f d x) c y n
    each n = elim (same_or n c) [
      | inl q ↦ ap g q ∙ gc ∙ sym (ap (put (put f d x) c y) q ∙ put_same (put f d x) c y)
      | inr nc ↦ elim (same_or n d) [
        | inl q ↦ ap g q ∙ gd ∙ sym (put_other (put f d x) c y n nc ∙ ap (put f d x) q ∙ put_same f d x)
        | inr nd ↦ there n nd nc ∙ sym (put_other (put f d x) c y n nc ∙ put_other f d x n nd)
      ]
    ]
