-- A step that acts at the end of its walk: at the last lookup, or at the start of a path without elements.
use Rattle.image_versions.specs.declared.version.Version.{Version}
use Rattle.inode_machine.proofs.Vocabulary.{◌≡◌, inl, inr, ℕ, ◌<◌, true, false, List, [], Option, Some, None, refl, sym, ◌∙◌, ap, subst, Cause, Node, Action, Inherit, StepAnswer, Failed, AsksForWhatStays, hart_count, root, Name, Tree, put, look, live_directory, is_absolute, start_of, elements, settle, path_of, follows_path, makes_node, refusal_with, IsInPlace, StepWith, settle_alive, settle_live, settle_named, settled_step, IsWellFormed, look_live, cwd_named, look_same, either, put_same, Walk, Acts, LookupLeadsTo, PlaysStep, Begin, Look, Desk, Note, World, stage_of, type_of, with_walk, found_by, acts, looked, look_made, begun, Own, Held, own_of, Inv}
use Rattle.tree_laws.specs.Moves.{StartLeadsTo}
use Rattle.inode_machine.proofs.Frame.{Fair, fair, fair_then}
use Rattle.inode_machine.proofs.Rules.{root_live, has_node}
use Rattle.inode_machine.proofs.Walking.{walk_did, own_walk}
use Rattle.inode_machine.proofs.Dups.{Flagging}
use Rattle.inode_machine.proofs.Looks.{note_of, noting}

-- What the machine makes of it.

pub last_made : (version : Version) (b : Tree) (h : ℕ) (k : Option Walk) (y : Walk) (new id j : ℕ) → k ≡ Some y → y.rest ≡ [] → look b.nodes y.at y.next ≡ Some j → look_made version b h k new id ≡ acts version b h y.step (Some j) (Some (y.at, y.next)) new id
last_made version b h k y new id j is rest found = ap (λ (z : Option Walk). look_made version b h z new id) is ∙ (λ i. looked version b h y (rest i) (found i) new id)

pub start_made : (version : Version) (b : Tree) (h : ℕ) (s : Action) (new id : ℕ) → elements version (path_of s) ≡ [] → begun version b h s (elements version (path_of s)) new id ≡ record (acts version b h s (Some (start_of b h (path_of s))) None new id) { found = None }
start_made version b h s new id path = ap (λ (z : List Name). begun version b h s z new id) path

pub refused_made : (version : Version) (b : Tree) (h : ℕ) (s : Action) (res : Option ℕ) (par : Option (ℕ × Name)) (new id : ℕ) (c : Cause) → refusal_with version b h s res par ≡ Some c
    → acts version b h s res par new id ≡ record { all = b; walk = None; found = found_by s res; opened = None; entered = None; left = None; told = Some (record { act = record { step = s; answer = Failed c }; new = new }) }
refused_made version b h s res par new id c r = rw r refl

-- The step of the tree.

-- it follows a path and makes no node
pub record Finder (s : Action) : Type 0 where
  pub follows : follows_path s ≡ true
  pub makes : (t : Tree) (q : Option (ℕ × Name)) → makes_node t s q ≡ false
  pub inherits : (g : ℕ) → s ≡ Inherit g → ⊥

acts_takes : (version : Version) (h : ℕ) (v u : World) (s : Action) (res : Option ℕ) (par : Option (ℕ × Name)) (a : StepAnswer) (id : ℕ) (T : Tree) → Finder s → AsksForWhatStays v.all res par → StepWith version v.all h s res par a 0 id T → settle T ≡ settle u.all → (stage_of u).walk ≡ put (λ g. (v.harts g).walk) h None
    → Acts version (stage_of v) h s res par 0 (Some (record { act = record { step = s; answer = a }; new = 0 })) (stage_of u)
acts_takes version h v u s res par a id T finder asks step same walks = record {
  answer = a;
  id = id;
  deed = refl;
  step = subst (λ (z : Tree). StepWith version (settle v.all) h s res par a 0 id z) same (settled_step version v.all h s res par a 0 id T asks step);
  walk = walks;
  alone = λ ok m. absurd (let f = finder.makes (settle v.all) par in cc (f, m));
  idle = λ g l q. absurd (finder.inherits g q);
}

pub last_takes : (version : Version) (h d : ℕ) (v u : World) (O : Own) (x : Held) (y : Walk) (j : ℕ) (a : StepAnswer) (id : ℕ) (T : Tree) → Finder y.step → own_of h v ≡ O → Inv v → O.mine.walk ≡ Some y → y.at ≡ d → O.inodes d ≡ Some x → live_directory x.node ≡ true → y.rest ≡ [] → look v.all.nodes y.at y.next ≡ Some j
    → StepWith version v.all h y.step (Some j) (Some (y.at, y.next)) a 0 id T → settle T ≡ settle u.all → (stage_of u).walk ≡ put (λ g. (v.harts g).walk) h None
    → PlaysStep version (stage_of v) h (record { move = Look 0; told = Some (record { act = record { step = y.step; answer = a }; new = 0 }) }) (stage_of u)
last_takes version h d v u O x y j a id T finder ov inv walks at isd live rest found step same after = record {
  walk = y;
  is = ap (λ (o : Own). o.mine.walk) ov ∙ walks;
  live = ap (λ (z : Option Node). live_directory z) settled ∙ live_at;
  looks = subst (λ (z : List Name). LookupLeadsTo version (stage_of v) h y z (look (settle v.all).nodes y.at y.next) 0 (Some (record { act = record { step = y.step; answer = a }; new = 0 })) (stage_of u)) (sym rest)
      (subst (λ (z : Option ℕ). LookupLeadsTo version (stage_of v) h y [] z 0 (Some (record { act = record { step = y.step; answer = a }; new = 0 })) (stage_of u)) (sym (look_same v.all.nodes (settle v.all).nodes y.at y.next settled ∙ found))
      (acts_takes version h v u y.step (Some j) (Some (y.at, y.next)) a id T finder asks step same after));
}
  where
    live_at : live_directory (v.all.nodes y.at) ≡ true
    live_at = ap (λ (z : Option Node). live_directory z) (ap v.all.nodes at ∙ has_node h d v O x ov isd) ∙ live

    settled : (settle v.all).nodes y.at ≡ v.all.nodes y.at
    settled = settle_live v.all y.at live_at

    stays : (settle v.all).nodes j ≡ v.all.nodes j
    stays = settle_alive v.all j (look_live v.all y.at j y.next inv.well found)

    asks : AsksForWhatStays v.all (Some j) (Some (y.at, y.next))
    asks = record {
      node = λ n q. let e : j ≡ n = cc in subst (λ (z : ℕ). (settle v.all).nodes z ≡ v.all.nodes z) e stays;
      directory = λ p q. let e : (y.at, y.next) ≡ p = cc in subst (λ (z : ℕ × Name). (settle v.all).nodes z.0 ≡ v.all.nodes z.0) e settled;
      child = λ p n q r.
          let e : (y.at, y.next) ≡ p = cc in
          let f : look v.all.nodes y.at y.next ≡ Some n = ap (λ (z : ℕ × Name). look v.all.nodes z.0 z.1) e ∙ r in
          let g : j ≡ n = cc (f, found) in
          subst (λ (z : ℕ). (settle v.all).nodes z ≡ v.all.nodes z) g stays;
    }

-- the start stays when the tree settles
start_stays : (t : Tree) (h : ℕ) (path : List ℕ) → IsWellFormed t → h < hart_count → (settle t).nodes (start_of t h path) ≡ t.nodes (start_of t h path)
start_stays t h path well lt = elim (either (is_absolute path)) [
  | inl y ↦ rw y (settle_alive t root (root_live t well))
  | inr y ↦ rw y (settle_named t (t.cwd h) (cwd_named t h lt))
]

pub start_takes : (version : Version) (h : ℕ) (v u : World) (s : Action) (a : StepAnswer) (id : ℕ) (T : Tree) → Finder s → h < hart_count → Inv v → (v.harts h).walk ≡ None → elements version (path_of s) ≡ [] → IsInPlace (settle v.all) h s
    → StepWith version v.all h s (Some (start_of v.all h (path_of s))) None a 0 id T → settle T ≡ settle u.all → (stage_of u).walk ≡ put (λ g. (v.harts g).walk) h None
    → PlaysStep version (stage_of v) h (record { move = Begin s 0; told = Some (record { act = record { step = s; answer = a }; new = 0 }) }) (stage_of u)
unfolding settle
start_takes version h v u s a id T finder lt inv rests path place step same after = record {
  follows = finder.follows;
  rests = rests;
  place = place;
  begins = subst (λ (z : List Name). StartLeadsTo version (stage_of v) h s z 0 (Some (record { act = record { step = s; answer = a }; new = 0 })) (stage_of u)) (sym path)
      (acts_takes version h v u s (Some (start_of v.all h (path_of s))) None a id T finder (record {
        node = λ n q. let e : start_of v.all h (path_of s) ≡ n = cc in subst (λ (z : ℕ). (settle v.all).nodes z ≡ v.all.nodes z) e (start_stays v.all h (path_of s) inv.well lt);
        directory = λ p q. absurd cc;
        child = λ p n q r. absurd cc;
      }) step same after);
}

-- What was found is noted, and waits to be counted up.

abbrev pub found_world : ℕ → ℕ → World → World
found_world h j v = record v { desks = put v.desks h (record (v.desks h) { noted = Some (note_of v.all j) }); harts = with_walk v.harts h None (Some j) }

pub record Finding (h j : ℕ) (v : World) (O : Own) : Type 0 where
  pub fair : Fair h v (found_world h j v)
  pub owned : own_of h (found_world h j v) ≡ record O { mine = record { refs = O.mine.refs; walk = None; pending = Some j }; desk = record (O.desk) { noted = Some (note_of v.all j) } }

pub finding : (h d j : ℕ) (e : Name) (v : World) (O : Own) → own_of h v ≡ O → O.desk.lender ≡ None → h < hart_count → Inv v → O.mine.pending ≡ None → v.keeper d ≡ Some h → look v.all.nodes d e ≡ Some j → Finding h j v O
finding h d j e v O ov free lt inv none keeps finds = record {
  fair = fair_then note.fair (fair note.fair.inv (walk_did h None (Some j) u1 (ap (λ (o : Own). o.desk.lender) note.owned ∙ free) lt note.fair.inv (ap (λ (o : Own). o.mine.pending) ov ∙ none)
      (λ m q s. let a : note_of v.all j ≡ m = some_is (sym (ap (λ (z : Desk). z.noted) (put_same v.desks h (record (v.desks h) { noted = Some (note_of v.all j) }))) ∙ q) in (λ z. type_of (v.all.nodes (sym a z).number)) ∙ (λ z. (a z).inode_type))
      (λ z q. absurd cc)
      (λ i q. let s : j ≡ i = cc in record { directory = d; name = e; keeps = keeps; finds = finds ∙ ap (λ (z : ℕ). Some z) s })));
  owned = own_walk h None (Some j) u1 (record O { desk = record (O.desk) { noted = Some (note_of v.all j) } }) note.owned;
}
  where
    some_is : {m k : Note} → ◌≡◌ {A = Option Note} (Some m) (Some k) → m ≡ k
    some_is q = cc

    note : Flagging h v O (record (v.desks h) { noted = Some (note_of v.all j) }) (record (O.desk) { noted = Some (note_of v.all j) }) v.clean
    note = noting h j v O ov free lt inv

    u1 : World
    u1 = record v { desks = put v.desks h (record (v.desks h) { noted = Some (note_of v.all j) }) }
