-- A hart's hold changes in the tree, alone or with an inode that it keeps: what that leaves, and the steps of link that it makes.
use Rattle.image_versions.specs.declared.version.Version.{Version}
use Rattle.inode_machine.proofs.Vocabulary.{◌≡◌, ◌⊎◌, inl, inr, ℕ, ◌<◌, Bool, true, false, ◌==◌, ◌||◌, nat_lt, [], Option, Some, None, refl, sym, ◌∙◌, ap, subst, if◌then◌else◌, TooManyLinks, Node, Hold, Action, Bump, Unbump, StepAnswer, Done, Failed, AsksForWhatStays, count_limit, hart_count, Name, Tree, put, hold_names, is_live, settle, resolve, parent, answer_with, answer_by, at_hold, bump_refusal, drop_hold, effect_with, effect_by, holds_raised, lowered, makes_node, node_or, opens_one, place_of, raise_hold, raised, refusal_with, refusal_by, IsInPlace, StepWith, key_names, row_of, settle_again, settled_step, IsWellFormed, raised_at, either, put_same, put_other, not_raised, well_hold, effect_well, OwnMove, World, type_of, is_at, act_left, acts, found_by, made_by, new_id, own_made, Own, Held, key_in, own_of, file_tables_of, view, is_hart, Found, IsReached, Inv}
use Rattle.inode_machine.proofs.Frame.{file_tables_same, put_elim, ours_some, kept_here, HartStep, Fair, fair, own_inodes, has_inode, stands_in, type_on}
use Rattle.inode_machine.proofs.Rows.{below_is}
use Rattle.inode_machine.proofs.Acting.{acts_gone}

-- A hold of this node, not raised yet, and raised.

abbrev pub low : ℕ → Hold
low j = record { number = j; raised = false }

abbrev pub high : ℕ → Hold
high j = record { number = j; raised = true }

-- other nodes, and another hold of the hart's
abbrev pub held_tree : Tree → (ℕ → Option Node) → ℕ → Option Hold → Tree
held_tree t ns h o = record t { nodes = ns; holds = put t.holds h o }

abbrev pub held_world : (ℕ → Option Node) → ℕ → Option Hold → World → World
held_world ns h o v = record v { all = held_tree v.all ns h o }

-- What such a change asks: the hart keeps the nodes that change, and refers to what its hold names.
pub record Turns (h : ℕ) (v : World) (ns : ℕ → Option Node) (o : Option Hold) : Type 0 where
  pub well : IsWellFormed (held_tree v.all ns h o)
  pub nodes : (j : ℕ) → (ns j ≡ v.all.nodes j) ⊎ ((v.keeper j ≡ Some h) × (v.alone j ≡ false))
  pub inode_types : (j : ℕ) → type_of (ns j) ≡ type_of (v.all.nodes j)
  pub names : (j : ℕ) → hold_names o j ≡ true → IsReached v h j
  pub found : (j : ℕ) → (v.harts h).pending ≡ Some j → Found v.keeper ns h j

pub turns_did : (h : ℕ) (v : World) (ns : ℕ → Option Node) (o : Option Hold) → (v.desks h).lender ≡ None → (v.desks h).joined ≡ true → h < hart_count → Inv v → Turns h v ns o → HartStep h v (held_world ns h o v)
turns_did h v ns o free joined lt inv t = record {
  hart = lt;
  inodes = λ j. elim (t.nodes j) [
    | inl e ↦ inl (record { lock = refl; keeper = refl; disk = refl; node = e; alone = refl })
    | inr e ↦ inr (record { before = ours_some h (v.keeper j) e.0; after = ours_some h (v.keeper j) e.0; whole = λ f. absurd (let a = e.0 in cc (a, f)); keeps = λ g is. inv.keeps j g is })
  ];
  mine = λ g ne. refl;
  rows = λ g ne. λ i. record { cwd = v.all.cwd g; hold = put_other v.all.holds h o g ne i; fds = v.all.fds g; keys = (row_of v.all g).keys };
  size = refl;
  ids = inv.ids;
  file_tables = file_tables_same h (file_tables_of v) inv.tied;
  free = free;
  raised = λ q. joined;
  quiet = λ j is f. absurd (cc (joined, f));
  inode_type = λ j. inl (t.inode_types j);
  inode_types = λ k e is. type_on v.all.nodes ns e (t.inode_types e.file.number) (inv.inode_types k e is);
  noted = λ m is r s. t.inode_types m.number ∙ inv.noted h m lt is r s;
  directory = stands_in (v.desks h) (v.all.cwd h) v.all.nodes ns (t.inode_types (v.desks h).directory) (inv.directory h lt);
  refers = inv.refers h lt;
  well = t.well;
  counts = inv.counts;
  alone = λ j is. let a = inv.alone j is in record { hart = a.hart; kept = a.kept; dead = ap (λ (z : Option Node). is_live z) (same j is (t.nodes j)) ∙ a.dead; counts = a.counts };
  kept = λ j is. (inv.kept j h is).1;
  held = λ j is. inv.held j h is;
  named = λ j is. named j ((λ z. (v.all.cwd h == j) || (hold_names (sym (put_same v.all.holds h o) z) j || (key_names (key_in (row_of v.all h).keys (v.desks h).opening) j || is_at (v.desks h).left j))) ∙ is);
  pending = λ j is. t.found j is;
  walks = λ y is. inv.walks h y lt is;
}
  where
    same : (j : ℕ) → v.alone j ≡ true → (ns j ≡ v.all.nodes j) ⊎ ((v.keeper j ≡ Some h) × (v.alone j ≡ false)) → ns j ≡ v.all.nodes j
    same j is (inl e) = e
    same j is (inr e) = absurd (let a = e.1 in cc (a, is))

    more : (a b c d : Bool) → b ≡ false → (a || (b || c)) ≡ true → (a || (d || c)) ≡ true
    more true b c d e q = refl
    more false true c d e q = absurd cc
    more false false true true e q = refl
    more false false true false e q = refl
    more false false false d e q = absurd cc

    named : (j : ℕ) → ((v.all.cwd h == j) || (hold_names o j || (key_names (key_in (row_of v.all h).keys (v.desks h).opening) j || is_at (v.desks h).left j))) ≡ true → IsReached v h j
    named j is = elim (either (hold_names o j)) [
      | inl y ↦ t.names j y
      | inr y ↦ inv.named h j lt free (more (v.all.cwd h == j) (hold_names o j) (key_names (key_in (row_of v.all h).keys (v.desks h).opening) j || is_at (v.desks h).left j) (hold_names (v.all.holds h) j) y is)
    ]

-- The hold alone changes.
pub record Rehold (h : ℕ) (o : Option Hold) (v : World) (O : Own) : Type 0 where
  pub fair : Fair h v (held_world v.all.nodes h o v)
  pub owned : own_of h (held_world v.all.nodes h o v) ≡ record O { row = record (O.row) { hold = o } }

pub reholds : (h : ℕ) (o : Option Hold) (v : World) (O : Own) → own_of h v ≡ O → O.desk.lender ≡ None → O.desk.joined ≡ true → h < hart_count → Inv v → ((j : ℕ) → hold_names o j ≡ true → IsReached v h j) → IsWellFormed (held_tree v.all v.all.nodes h o) → Rehold h o v O
reholds h o v O ov free joined lt inv names well = record {
  fair = fair inv (turns_did h v v.all.nodes o (ap (λ (z : Own). z.desk.lender) ov ∙ free) (ap (λ (z : Own). z.desk.joined) ov ∙ joined) lt inv (record { well = well; nodes = λ j. inl refl; inode_types = λ j. refl; names = names; found = λ j q. inv.pending h j lt q }));
  owned = λ z. record {
    inodes = ap (λ (x : Own). x.inodes) ov z;
    mine = ap (λ (x : Own). x.mine) ov z;
    row = record { cwd = ap (λ (x : Own). x.row.cwd) ov z; hold = put_same v.all.holds h o z; fds = ap (λ (x : Own). x.row.fds) ov z; keys = ap (λ (x : Own). x.row.keys) ov z };
    ninodes = ap (λ (x : Own). x.ninodes) ov z;
    desk = ap (λ (x : Own). x.desk) ov z;
  };
}

-- With it the node of an inode that the hart keeps does.
pub record Turned (h i : ℕ) (y : Node) (o : Option Hold) (x : Held) (v : World) (O : Own) : Type 0 where
  pub fair : Fair h v (held_world (put v.all.nodes i (Some y)) h o v)
  pub owned : own_of h (held_world (put v.all.nodes i (Some y)) h o v) ≡ record O { inodes = put O.inodes i (Some (record x { node = Some y })); row = record (O.row) { hold = o } }

pub turned : (h i : ℕ) (y : Node) (o : Option Hold) (x : Held) (v : World) (O : Own) → own_of h v ≡ O → O.desk.lender ≡ None → O.desk.joined ≡ true → h < hart_count → Inv v → O.mine.pending ≡ None → O.inodes i ≡ Some x → x.alone ≡ false → type_of (Some y) ≡ type_of (v.all.nodes i)
    → ((j : ℕ) → hold_names o j ≡ true → IsReached v h j) → IsWellFormed (held_tree v.all (put v.all.nodes i (Some y)) h o) → Turned h i y o x v O
turned h i y o x v O ov free joined lt inv none isi shared inode_type names well = record { fair = fair inv did; owned = owned }
  where
    ns : ℕ → Option Node
    ns = put v.all.nodes i (Some y)

    u : World
    u = held_world ns h o v

    did : HartStep h v u
    did = turns_did h v ns o (ap (λ (z : Own). z.desk.lender) ov ∙ free) (ap (λ (z : Own). z.desk.joined) ov ∙ joined) lt inv (record {
      well = well;
      nodes = λ j. put_elim v.all.nodes i (Some y) j (λ z. (z ≡ v.all.nodes j) ⊎ ((v.keeper j ≡ Some h) × (v.alone j ≡ false)))
          (λ q. inr (ap v.keeper q ∙ (has_inode h i v O x ov isi).0, ap v.alone q ∙ ap (λ (z : Held). z.alone) (has_inode h i v O x ov isi).1 ∙ shared)) (λ ne. inl refl);
      inode_types = λ j. put_elim v.all.nodes i (Some y) j (λ z. type_of z ≡ type_of (v.all.nodes j)) (λ q. inode_type ∙ ap (λ (z : ℕ). type_of (v.all.nodes z)) (sym q)) (λ ne. refl);
      names = names;
      found = λ j q. absurd (let a : (v.harts h).pending ≡ None = ap (λ (z : Own). z.mine.pending) ov ∙ none in cc (a, q));
    })

    now : view u h i ≡ record x { node = Some y }
    now = (λ r. record { disk = v.disk i; node = put_same v.all.nodes i (Some y) r; alone = v.alone i; locked = is_hart (v.lock i) h }) ∙ ap (λ (z : Held). record z { node = Some y }) (has_inode h i v O x ov isi).1

    owned : own_of h u ≡ record O { inodes = put O.inodes i (Some (record x { node = Some y })); row = record (O.row) { hold = o } }
    owned = λ z. record {
      inodes = own_inodes h i v u O (Some (record x { node = Some y })) ov (kept_here h (u.keeper i) (view u h i) (has_inode h i v O x ov isi).0 ∙ ap (λ (q : Held). Some q) now)
          (λ j ne. (refl, (λ r. record { disk = v.disk j; node = put_other v.all.nodes i (Some y) j ne r; alone = v.alone j; locked = is_hart (v.lock j) h }))) z;
      mine = ap (λ (q : Own). q.mine) ov z;
      row = record { cwd = ap (λ (q : Own). q.row.cwd) ov z; hold = put_same v.all.holds h o z; fds = ap (λ (q : Own). q.row.fds) ov z; keys = ap (λ (q : Own). q.row.keys) ov z };
      ninodes = ap (λ (q : Own). q.ninodes) ov z;
      desk = ap (λ (q : Own). q.desk) ov z;
    }

-- The steps of the tree.

-- a step of the hart's own that acts, as the machine makes it
pub gone_made : (version : Version) (t : Tree) (h : ℕ) (s : Action) (res : Option ℕ) (par : Option (ℕ × Name)) (id : ℕ) (T : Tree) → refusal_with version t h s res par ≡ None → effect_with version t h s res par 0 id ≡ T → answer_with version t h s res par id ≡ Done → found_by s res ≡ None → opens_one t h s ≡ false → makes_node t s par ≡ false → act_left None s (t.cwd h) ≡ None
    → acts version t h s res par 0 id ≡ record { all = T; walk = None; found = None; opened = None; entered = None; left = None; told = Some (record { act = record { step = s; answer = Done }; new = 0 }) }
gone_made version t h s res par id T goes effect answer found opens makes left = acts_gone version t h s res par 0 id goes ∙ (λ z. record {
  all = effect z;
  walk = None;
  found = found z;
  opened = if opens z then Some id else None;
  entered = if makes z then Some 0 else None;
  left = left z;
  told = Some (record { act = record { step = s; answer = answer z }; new = 0 });
})

asks_nothing : (t : Tree) → AsksForWhatStays t None None
asks_nothing t = record { node = λ n q. absurd cc; directory = λ q e. absurd cc; child = λ q n e r. absurd cc }

in_place : (t : Tree) (h : ℕ) (s : Action) → h < hart_count → place_of t h s ≡ true → IsInPlace t h s
in_place t h s lt placed = rw (below_is h hart_count lt) placed

-- Bump.

pub bump_cause : (version : Version) (t : Tree) (h j : ℕ) (b : Bool) (X : Node) (res : Option ℕ) (par : Option (ℕ × Name)) → t.holds h ≡ Some (low j) → t.nodes j ≡ Some X → nat_lt X.count count_limit ≡ b → refusal_with version t h Bump res par ≡ (if b then None else Some TooManyLinks)
unfolding refusal_by
bump_cause version t h j b X res par held there few = (λ z. bump_refusal t (held z)) ∙ (λ z. if nat_lt (node_or (there z)).count count_limit then None else Some TooManyLinks) ∙ (λ z. if few z then None else Some TooManyLinks)

bump_effect : (version : Version) (t : Tree) (h j id : ℕ) (X : Node) (res : Option ℕ) (par : Option (ℕ × Name)) → t.holds h ≡ Some (low j) → t.nodes j ≡ Some X → effect_with version t h Bump res par 0 id ≡ held_tree t (put t.nodes j (Some (raised X))) h (Some (high j))
unfolding effect_by
bump_effect version t h j id X res par held there = (λ z. record (at_hold t (held z) raised) { holds = put t.holds h (raise_hold (held z)) }) ∙ (λ z. held_tree t (put t.nodes j (Some (raised (node_or (there z))))) h (Some (high j)))

bump_placed : (t : Tree) (h j : ℕ) → t.holds h ≡ Some (low j) → place_of t h Bump ≡ true
unfolding place_of
bump_placed t h j held = λ z. holds_raised false (held z)

bump_made : (version : Version) (t : Tree) (h j id : ℕ) (X : Node) (res : Option ℕ) (par : Option (ℕ × Name)) → t.holds h ≡ Some (low j) → t.nodes j ≡ Some X → nat_lt X.count count_limit ≡ true
    → own_made (refusal_with version t h Bump res par) t h Bump (acts version t h Bump res par 0 id) ≡ record { all = held_tree t (put t.nodes j (Some (raised X))) h (Some (high j)); walk = None; found = None; opened = None; entered = None; left = None; told = Some (record { act = record { step = Bump; answer = Done }; new = 0 }) }
unfolding answer_by
bump_made version t h j id X res par held there few =
    (λ z. own_made (bump_cause version t h j true X res par held there few z) t h Bump (acts version t h Bump res par 0 id))
    ∙ gone_made version t h Bump res par id (held_tree t (put t.nodes j (Some (raised X))) h (Some (high j))) (bump_cause version t h j true X res par held there few) (bump_effect version t h j id X res par held there) refl refl refl refl refl

-- it asks for no path
bump_settled : (version : Version) (t T : Tree) (h id : ℕ) (res : Option ℕ) (par : Option (ℕ × Name)) → refusal_with version t h Bump None None ≡ None → settle T ≡ settle (effect_with version t h Bump None None 0 id) → IsInPlace t h Bump → StepWith version (settle t) h Bump res par Done 0 id (settle (settle T))
unfolding refusal_by effect_by answer_by
bump_settled version t T h id res par goes same place =
    let y = settled_step version t h Bump None None Done 0 id (settle T) (asks_nothing t) (goes, refl, record { node = λ z. absurd cc; file = λ z. absurd cc }, same, place) in
    (y.0, y.1, record { node = λ z. absurd cc; file = λ z. absurd cc }, y.3, y.4)

bump_stopped : (version : Version) (t : Tree) (h id : ℕ) (res : Option ℕ) (par : Option (ℕ × Name)) → refusal_with version t h Bump None None ≡ Some TooManyLinks → IsInPlace t h Bump → StepWith version (settle t) h Bump res par (Failed TooManyLinks) 0 id (settle (settle (drop_hold t h)))
unfolding refusal_by
bump_stopped version t h id res par stops place = let y = settled_step version t h Bump None None (Failed TooManyLinks) 0 id (settle (drop_hold t h)) (asks_nothing t) (stops, refl, place) in (y.0, y.1, y.2)

-- Unbump.

unbump_goes : (version : Version) (t : Tree) (h : ℕ) (res : Option ℕ) (par : Option (ℕ × Name)) → refusal_with version t h Unbump res par ≡ None
unfolding refusal_by
unbump_goes version t h res par = refl

unbump_effect : (version : Version) (t : Tree) (h j id : ℕ) (X : Node) (res : Option ℕ) (par : Option (ℕ × Name)) → t.holds h ≡ Some (high j) → t.nodes j ≡ Some X → effect_with version t h Unbump res par 0 id ≡ held_tree t (put t.nodes j (Some (lowered X))) h None
unfolding effect_by
unbump_effect version t h j id X res par held there = (λ z. drop_hold (at_hold t (held z) lowered) h) ∙ (λ z. held_tree t (put t.nodes j (Some (lowered (node_or (there z))))) h None)

unbump_placed : (t : Tree) (h j : ℕ) → t.holds h ≡ Some (high j) → place_of t h Unbump ≡ true
unfolding place_of
unbump_placed t h j held = λ z. holds_raised true (held z)

unbump_made : (version : Version) (t : Tree) (h j id : ℕ) (X : Node) (res : Option ℕ) (par : Option (ℕ × Name)) → t.holds h ≡ Some (high j) → t.nodes j ≡ Some X
    → own_made (refusal_with version t h Unbump res par) t h Unbump (acts version t h Unbump res par 0 id) ≡ record { all = held_tree t (put t.nodes j (Some (lowered X))) h None; walk = None; found = None; opened = None; entered = None; left = None; told = Some (record { act = record { step = Unbump; answer = Done }; new = 0 }) }
unfolding refusal_by answer_by
unbump_made version t h j id X res par held there = gone_made version t h Unbump res par id (held_tree t (put t.nodes j (Some (lowered X))) h None) (unbump_goes version t h res par) (unbump_effect version t h j id X res par held there) refl refl refl refl refl

unbump_settled : (version : Version) (t T : Tree) (h id : ℕ) (res : Option ℕ) (par : Option (ℕ × Name)) → settle T ≡ settle (effect_with version t h Unbump None None 0 id) → IsInPlace t h Unbump → StepWith version (settle t) h Unbump res par Done 0 id (settle (settle T))
unfolding refusal_by effect_by answer_by
unbump_settled version t T h id res par same place =
    let y = settled_step version t h Unbump None None Done 0 id (settle T) (asks_nothing t) (refl, refl, record { node = λ z. absurd cc; file = λ z. absurd cc }, same, place) in
    (y.0, y.1, record { node = λ z. absurd cc; file = λ z. absurd cc }, y.3, y.4)

-- What a move of the hart's own asks, which changes its hold and the nodes ns.
pub record Moves (version : Version) (h : ℕ) (v : World) (s : Action) (a : StepAnswer) (ns : ℕ → Option Node) (o : Option Hold) : Type 0 where
  pub made : made_by version v.all h (new_id v) (v.harts h).walk (OwnMove s 0) ≡ record { all = held_tree v.all ns h o; walk = None; found = None; opened = None; entered = None; left = None; told = Some (record { act = record { step = s; answer = a }; new = 0 }) }
  pub well : IsWellFormed (held_tree v.all ns h o)
  pub steps : (res : Option ℕ) (par : Option (ℕ × Name)) → StepWith version (settle v.all) h s res par a 0 (new_id v) (settle (held_tree v.all ns h o))

pub bumps : (version : Version) (h j : ℕ) (X : Node) (v : World) → h < hart_count → Inv v → v.all.holds h ≡ Some (low j) → v.all.nodes j ≡ Some X → nat_lt X.count count_limit ≡ true → Moves version h v Bump Done (put v.all.nodes j (Some (raised X))) (Some (high j))
bumps version h j X v lt inv held there few = record {
  made = bump_made version v.all h j (new_id v) X (resolve version v.all h []) (parent version v.all h []) held there few;
  well = subst (λ (z : Tree). IsWellFormed z) (bump_effect version v.all h j (new_id v) X None None held there) (effect_well version v.all h Bump None None 0 (new_id v) inv.well lt (bump_placed v.all h j held) (λ m q. absurd cc) (λ q e. absurd cc) (bump_cause version v.all h j true X None None held there few) (record { node = λ z. absurd cc; file = λ z. absurd cc }));
  steps = λ res par. subst (λ (z : Tree). StepWith version (settle v.all) h Bump res par Done 0 (new_id v) z) (sym (settle_again T)) (bump_settled version v.all T h (new_id v) res par (bump_cause version v.all h j true X None None held there few) (ap settle (sym (bump_effect version v.all h j (new_id v) X None None held there))) (in_place v.all h Bump lt (bump_placed v.all h j held)));
}
  where
    T : Tree
    T = held_tree v.all (put v.all.nodes j (Some (raised X))) h (Some (high j))

pub unbumps : (version : Version) (h j : ℕ) (X : Node) (v : World) → h < hart_count → Inv v → v.all.holds h ≡ Some (high j) → v.all.nodes j ≡ Some X → Moves version h v Unbump Done (put v.all.nodes j (Some (lowered X))) None
unbumps version h j X v lt inv held there = record {
  made = unbump_made version v.all h j (new_id v) X (resolve version v.all h []) (parent version v.all h []) held there;
  well = subst (λ (z : Tree). IsWellFormed z) (unbump_effect version v.all h j (new_id v) X None None held there) (effect_well version v.all h Unbump None None 0 (new_id v) inv.well lt (unbump_placed v.all h j held) (λ m q. absurd cc) (λ q e. absurd cc) (unbump_goes version v.all h None None) (record { node = λ z. absurd cc; file = λ z. absurd cc }));
  steps = λ res par. subst (λ (z : Tree). StepWith version (settle v.all) h Unbump res par Done 0 (new_id v) z) (sym (settle_again T)) (unbump_settled version v.all T h (new_id v) res par (ap settle (sym (unbump_effect version v.all h j (new_id v) X None None held there))) (in_place v.all h Unbump lt (unbump_placed v.all h j held)));
}
  where
    T : Tree
    T = held_tree v.all (put v.all.nodes j (Some (lowered X))) h None

-- a refused bump drops its hold
pub bump_stops : (version : Version) (h j : ℕ) (X : Node) (v : World) → h < hart_count → Inv v → v.all.holds h ≡ Some (low j) → v.all.nodes j ≡ Some X → nat_lt X.count count_limit ≡ false → Moves version h v Bump (Failed TooManyLinks) v.all.nodes None
bump_stops version h j X v lt inv held there full = record {
  made = (λ z. own_made (stops (resolve version v.all h []) (parent version v.all h []) z) v.all h Bump (acts version v.all h Bump (resolve version v.all h []) (parent version v.all h []) 0 (new_id v)))
      ∙ (λ z. record (acts_stop (resolve version v.all h []) (parent version v.all h []) z) { all = drop_hold v.all h });
  well = well_hold v.all h None inv.well lt (λ n. refl) (λ n. ap (λ (z : Option Hold). raised_at z n) held ∙ not_raised (low j) n refl) (λ q e. absurd cc);
  steps = λ res par. subst (λ (z : Tree). StepWith version (settle v.all) h Bump res par (Failed TooManyLinks) 0 (new_id v) z) (sym (settle_again (drop_hold v.all h))) (bump_stopped version v.all h (new_id v) res par (stops None None) (in_place v.all h Bump lt (bump_placed v.all h j held)));
}
  where
    stops : (res : Option ℕ) (par : Option (ℕ × Name)) → refusal_with version v.all h Bump res par ≡ Some TooManyLinks
    stops res par = bump_cause version v.all h j false X res par held there full

    acts_stop : (res : Option ℕ) (par : Option (ℕ × Name)) → acts version v.all h Bump res par 0 (new_id v) ≡ record { all = v.all; walk = None; found = None; opened = None; entered = None; left = None; told = Some (record { act = record { step = Bump; answer = Failed TooManyLinks }; new = 0 }) }
    acts_stop res par = rw (stops res par) refl
