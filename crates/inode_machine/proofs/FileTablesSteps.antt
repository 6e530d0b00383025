-- Steps on the open-file table: what they leave, and the steps of the tree that they make.
use Rattle.image_versions.specs.declared.version.Version.{Version}
use Rattle.inode_machine.proofs.Vocabulary.{◌≡◌, ◌≢◌, inl, inr, ℕ, ◌+◌, ◌<◌, ◌≤◌, true, false, ◌==◌, ◌||◌, [], Option, Some, None, refl, sym, ◌∙◌, ap, subst, arith, Node, Action, Inherit, StepAnswer, hart_count, Name, Tree, put, hold_names, is_live, settle, resolve, parent, path_of, follows_path, makes_node, StepWith, holds_raised, row_of, Row, key_names, Hold, sum_below, IsWellFormed, PlaysStep, OwnMove, Mine, Entry, Desk, World, stage_of, Note, file_tables_of, Opens, own_names, IsReferredTo, IsAlone, reference_limit, HasType, Inv, key_in, Stands, new_id, type_of, is_at}
use Rattle.inode_machine.proofs.Frame.{FilesStep, HartStep, Ours, stands_in, type_on}

-- What a step on the table needs of its change.
pub record Sells (h : ℕ) (v : World) (F : ℕ → Option Entry) (D : ℕ → Desk) (S : ℕ → ℕ) (T : Tree) (H : ℕ → Mine) : Type 0 where
  pub kin : FilesStep h (λ n. Ours h (v.keeper n)) (file_tables_of v) (record { files = F; desks = D; ids = v.ids; slots = S; clean = v.clean; tree_fds = T.fds; tree_files = T.files })
  pub free : (D h).lender ≡ None
  pub unlent : (v.desks h).lender ≡ None
  pub joined : (D h).joined ≡ (v.desks h).joined
  pub holds : T.holds ≡ v.all.holds
  pub inode_types : (k : ℕ) (e : Entry) → F k ≡ Some e → HasType v.all.nodes e
  pub noted : (m : Note) → (D h).noted ≡ Some m → ((v.desks h).noted ≡ Some m) × (0 < (H h).refs m.number → 0 < (v.harts h).refs m.number)
  pub directory : Stands (D h) (T.cwd h) v.all.nodes
  pub home : (D h).directory ≡ (v.desks h).directory
  pub few : (j : ℕ) → (H h).refs j ≤ reference_limit
  pub well : IsWellFormed T
  pub nodes : T.nodes ≡ v.all.nodes
  pub size : T.ninodes ≡ v.all.ninodes
  pub rows : (g : ℕ) → g ≢ h → row_of T g ≡ row_of v.all g
  pub ids : (k : ℕ) → v.next ≤ k → T.files k ≡ None
  pub others : (g : ℕ) → g ≢ h → H g ≡ v.harts g
  pub refs : (j : ℕ) → (v.harts h).refs j ≤ (H h).refs j
  pub counts : (j : ℕ) → v.refs j ≡ S j + sum_below hart_count (λ g. (H g).refs j)
  pub pinned : (j : ℕ) → v.keeper j ≡ Some h → Opens (v.desks h).fds v.files j → IsReferredTo D F H h j
  pub names : (j : ℕ) → own_names (row_of T h) (D h) j ≡ true → own_names (row_of v.all h) (v.desks h) j ≡ true
  pub still : (v.harts h).pending ≡ None
  pub found : (H h).pending ≡ None
  pub walk : (H h).walk ≡ None
  pub lone : (i : ℕ) (a : IsAlone v.keeper v.all.nodes v.refs v.harts i) → v.refs i ≡ (H a.hart).refs i

pub sells_did : (h : ℕ) (v : World) (F : ℕ → Option Entry) (D : ℕ → Desk) (S : ℕ → ℕ) (T : Tree) (H : ℕ → Mine) → h < hart_count → Inv v → Sells h v F D S T H → HartStep h v (record v { files = F; desks = D; slots = S; all = T; harts = H })
sells_did h v F D S T H lt inv s =
    record {
      hart = lt;
      inodes = λ j. inl (record { lock = refl; keeper = refl; disk = refl; node = ap (λ (f : ℕ → Option Node). f j) s.nodes; alone = refl });
      mine = s.others;
      rows = s.rows;
      size = s.size;
      ids = s.ids;
      file_tables = s.kin;
      free = s.free;
      raised = λ q. s.joined ∙ inv.raised h lt (ap (λ (f : ℕ → Option Hold). holds_raised true (f h)) (sym s.holds) ∙ q);
      quiet = λ j is f. inv.quiet j h is (sym s.joined ∙ f) ∙ sym (ap (λ (f : ℕ → Option Node). f j) s.nodes);
      inode_type = λ j. inl (ap (λ (f : ℕ → Option Node). type_of (f j)) s.nodes);
      inode_types = λ k e is. type_on v.all.nodes T.nodes e (ap (λ (f : ℕ → Option Node). type_of (f e.file.number)) s.nodes) (s.inode_types k e is);
      noted = λ m is r t. let a = s.noted m is in ap (λ (f : ℕ → Option Node). type_of (f m.number)) s.nodes ∙ inv.noted h m lt a.0 (elim r [ inl p ↦ inl (a.1 p) | inr p ↦ absurd (let e = s.found in cc (e, p)) ]) t;
      directory = stands_in (D h) (T.cwd h) v.all.nodes T.nodes (ap (λ (f : ℕ → Option Node). type_of (f (D h).directory)) s.nodes) s.directory;
      refers = record { few = s.few; home = subst (λ (z : ℕ). 0 < (H h).refs z) (sym s.home) (let a = (inv.refers h lt).home in let r = s.refs (v.desks h).directory in omega (arith, a, r)) };
      well = s.well;
      counts = s.counts;
      alone = λ j is. let a = inv.alone j is in record { hart = a.hart; kept = a.kept; dead = ap (λ (f : ℕ → Option Node). is_live (f j)) s.nodes ∙ a.dead; counts = s.lone j a };
      kept = λ j is. elim (inv.kept j h is).1 [ inl o ↦ s.pinned j is o | inr p ↦ inr (let r = s.refs j in omega (arith, r, p)) ];
      held = λ j is. inv.held j h is;
      named = λ j is. elim (inv.named h j lt s.unlent (s.names j is)) [ inl p ↦ inl (let r = s.refs j in omega (arith, r, p)) | inr p ↦ absurd (let e = s.still in cc (e, p)) ];
      pending = λ j is. absurd (let e = s.found in cc (e, is));
      walks = λ x is. absurd (let e = s.walk in cc (e, is));
    }

-- A step of the call's own, made at once.
pub own_takes : (version : Version) (h : ℕ) (v u : World) (s : Action) (a : StepAnswer) → follows_path s ≡ false → path_of s ≡ [] → (v.harts h).walk ≡ None → ((q : Option (ℕ × Name)) → makes_node (settle v.all) s q ≡ false) → ((g : ℕ) → s ≡ Inherit g → ⊥)
    → StepWith version (settle v.all) h s (resolve version (settle v.all) h (path_of s)) (parent version (settle v.all) h (path_of s)) a 0 (new_id v) (stage_of u).tree → (stage_of u).walk ≡ put (λ g. (v.harts g).walk) h None
    → PlaysStep version (stage_of v) h (record { move = OwnMove s 0; told = Some (record { act = record { step = s; answer = a }; new = 0 }) }) (stage_of u)
own_takes version h v u s a follows path walk makes inherits step walks = record {
  follows = follows;
  rests = walk;
  acts = record {
    answer = a;
    id = new_id v;
    deed = refl;
    step = step;
    walk = walks;
    alone = λ ok q. absurd (let m = makes (parent version (settle v.all) h (path_of s)) in cc (m, q));
    idle = λ g l q. absurd (inherits g q);
  };
}

-- what a hart names itself, if it is opening nothing
pub names_less : (r s : Row) (d e : Desk) (n : ℕ) → r.cwd ≡ s.cwd → r.hold ≡ s.hold → d.opening ≡ None → e.opening ≡ None → d.left ≡ e.left → own_names r d n ≡ own_names s e n
names_less r s d e n cwd hold od oe left =
    (λ i. (r.cwd == n) || (hold_names r.hold n || (key_names (key_in r.keys (od i)) n || is_at d.left n)))
    ∙ (λ i. (cwd i == n) || (hold_names (hold i) n || is_at (left i) n))
    ∙ sym (λ i. (s.cwd == n) || (hold_names s.hold n || (key_names (key_in s.keys (oe i)) n || is_at e.left n)))
