-- A link's count is raised at its record's put, and lowered again if its name can't be entered; or it has all the
-- links that it may have.
use Rattle.image_versions.specs.declared.version.Version.{Version}
use Rattle.inode_machine.proofs.Vocabulary.{◌≡◌, ◌⊎◌, inl, inr, ℕ, ◌+◌, ◌<◌, ◌≤◌, true, false, nat_lt, List, [], ◌∷◌, Option, Some, None, refl, sym, ◌∙◌, ap, subst, arith, Do, P, own, onto, Fine, Safe, Wp, TooManyLinks, Node, Hold, Action, Bump, Inherit, Done, Failed, count_limit, hart_count, Name, Tree, put, hold_names, settle, resolve, parent, follows_path, makes_node, node_or, path_of, put_same, Stage, Step, PlaysStep, OwnMove, World, stage_of, Store, type_of, with_count, with_walk, Made, made_by, marked, new_id, places, Own, Held, own_of, Inv, machine, own_step}
use Rattle.inode_machine.proofs.Basics.{Fair, fair, fair_then, s-owned, has_disk, has_node, locks_it, my_refs, Writes, writes, moves_good, own_walk, stage_walk, walk_did, own_takes, fails, MoveFine, Moves, Rehold, Turned, bump_stops, held_tree, held_world, low, reholds, turned}
use Rattle.inode_machine.proofs.Writings.{put_twice}
use Rattle.inode_machine.proofs.Opens.{moves_full}

abbrev pub done_step : Action → Step
done_step s = record { move = OwnMove s 0; told = Some (record { act = record { step = s; answer = Done }; new = 0 }) }

-- a step of the call's own, that follows no path
pub record Plain (s : Action) : Type 0 where
  pub follows : follows_path s ≡ false
  pub path : path_of s ≡ []
  pub makes : (t : Tree) (q : Option (ℕ × Name)) → makes_node t s q ≡ false
  pub inherits : (g : ℕ) → s ≡ Inherit g → ⊥

-- A count is stored, and with it the hart's hold changes in the tree. `told`: the call found no room before, or the
-- step comes next in it.
pub s-store-move : (version : Version) {A : Type 0} {h : ℕ} (i c : ℕ) (s : Action) (o : Option Hold) {x : Held} (y : Node) {k : Unit {0} → P (machine version) A} {B : List Step → Type 0} {Q : A → List Step → World → Type 0} {n : ℕ} {es : List Step} {w : World} {O : Own}
    → own_of h w ≡ O → O.desk.lender ≡ None → h < hart_count → 2 < n → O.desk.joined ≡ true → O.mine.walk ≡ None → O.mine.pending ≡ None → O.inodes i ≡ Some x → x.locked ≡ true → x.alone ≡ false → x.disk ≡ Some y → x.node ≡ Some y → ((c ≤ count_limit) ⊎ (c ≤ y.count)) → Plain s
    → ((v : World) → Inv v → own_of h v ≡ O → Moves version h v s Done (put v.all.nodes i (Some (with_count c y))) o) → ((j : ℕ) → hold_names o j ≡ true → 0 < O.mine.refs j) → ((O.desk.full ≡ true) ⊎ B (done_step s ∷ es))
    → ((l : ℕ) (u : World) → l + 3 ≡ n → own_of h u ≡ record O { inodes = put O.inodes i (Some (record x { disk = Some (with_count c y); node = Some (with_count c y) })); row = record (O.row) { hold = o }; mine = record { refs = O.mine.refs; walk = None; pending = None } } → Safe (machine version) h B Q (k tt) l (done_step s ∷ es) u)
    → Safe (machine version) h B Q (Do (Store i c) (λ _. own_step s) k) n es w
s-store-move version {A} {h} i c s o {x} y {k} {B} {Q} {n} {es} {w} {O} owns free lt pos joined walks none isi has shared xd xn count plain moves names told rest = s-owned version owns free pos (λ v inv ov. (
  ((locks_it h i v O x ov isi has, ap (λ (z : Own). z.desk.joined) ov ∙ joined), record { node = y; is = has_disk h i v O x ov isi ∙ xd; fits = count }),
  (λ _ _. subst (λ (z : Option Node). Goal v (record v { disk = put v.disk i (Some (with_count c (node_or z))) })) (sym (has_disk h i v O x ov isi ∙ xd)) (good v inv ov)),
))
  where
    Goal : World → World → Type 0
    Goal v u = Fine (machine version) h (places version h (Store i c) tt (own_step s) v) 2 n B es v (marked version h (own_step s) u) (λ l. Wp (machine version) h B Q (k tt) l (onto (own h (places version h (Store i c) tt (own_step s) v)) es) (marked version h (own_step s) u))

    y2 : Node
    y2 = with_count c y

    good : (v : World) → Inv v → own_of h v ≡ O → Goal v (record v { disk = put v.disk i (Some (with_count c y)) })
    good v inv ov = by told
      where
        m : Moves version h v s Done (put v.all.nodes i (Some y2)) o
        m = moves v inv ov

        u1 : World
        u1 = record v { disk = put v.disk i (Some y2) }

        wr : Writes h i (Some y2) x O v
        wr = writes version h i (Some y2) x O v free lt joined inv ov isi

        O1 : Own
        O1 = record O { inodes = put O.inodes i (Some (record x { disk = Some y2 })) }

        t : Turned h i y2 o (record x { disk = Some y2 }) u1 O1
        t = turned h i y2 o (record x { disk = Some y2 }) u1 O1 wr.owned free joined lt wr.fair.inv none (put_same O.inodes i (Some (record x { disk = Some y2 }))) shared
            (ap (λ (z : Option Node). type_of z) (sym (has_node h i v O x ov isi ∙ xn)))
            (λ j q. inl (let a = names j q in let r = my_refs h v O j ov in omega (arith, a, r))) m.well

        u2 : World
        u2 = held_world (put v.all.nodes i (Some y2)) h o u1

        u3 : World
        u3 = record u2 { harts = with_walk v.harts h None None }

        ends : Fair h v u3
        ends = fair_then wr.fair (fair_then t.fair (fair t.fair.inv (walk_did h None None u2 (ap (λ (z : Own). z.desk.lender) t.owned ∙ free) lt t.fair.inv (ap (λ (z : Own). z.mine.pending) t.owned ∙ none) (λ q r e. absurd cc) (λ q r. absurd cc) (λ q r. absurd cc))))

        owned : own_of h u3 ≡ record O { inodes = put O.inodes i (Some (record x { disk = Some y2; node = Some y2 })); row = record (O.row) { hold = o }; mine = record { refs = O.mine.refs; walk = None; pending = None } }
        owned = own_walk h None None u2 (record O1 { inodes = put O1.inodes i (Some (record x { disk = Some y2; node = Some y2 })); row = record (O.row) { hold = o } }) t.owned
            ∙ (λ z. record O { inodes = put_twice O.inodes i (Some (record x { disk = Some y2 })) (Some (record x { disk = Some y2; node = Some y2 })) z; row = record (O.row) { hold = o }; mine = record { refs = O.mine.refs; walk = None; pending = None } })

        made : Made
        made = record { all = held_tree v.all (put v.all.nodes i (Some y2)) h o; walk = None; found = None; opened = None; entered = None; left = None; told = (done_step s).told }

        takes : PlaysStep version (stage_of v) h (done_step s) (stage_of u3)
        takes = own_takes version h v u3 s Done plain.follows plain.path (ap (λ (z : Own). z.mine.walk) ov ∙ walks) (plain.makes (settle v.all)) plain.inherits (m.steps (resolve version (settle v.all) h (path_of s)) (parent version (settle v.all) h (path_of s))) (ap (λ (z : Stage). z.walk) (stage_walk h None None u2))

        next : (l : ℕ) → l + 3 ≡ n → Wp (machine version) h B Q (k tt) l (done_step s ∷ es) u3
        next l q = (rest l u3 q owned).wp

        by : ((O.desk.full ≡ true) ⊎ B (done_step s ∷ es)) → Goal v u1
        by (inl f) = moves_full version h 2 n B Q es v u1 (OwnMove s 0) (k tt) (made_by version v.all h (new_id v) (v.harts h).walk (OwnMove s 0)) made m.made ends (inv.tied.spoiled h (ap (λ (z : Own). z.desk.full) ov ∙ f)) pos next
        by (inr b) = moves_good version h 2 n B Q es v u1 (OwnMove s 0) tt (k tt) (made_by version v.all h (new_id v) (v.harts h).walk (OwnMove s 0)) made m.made ends takes b pos next

-- A link that has all its links already is refused, and the hart holds nothing.
pub bump_stopped : (version : Version) {A : Type 0} (h j more n : ℕ) (B : List Step → Type 0) (Q : A → List Step → World → Type 0) (es : List Step) (v : World) (O : Own) (X : Node) (p : P (machine version) A)
    → own_of h v ≡ O → O.desk.lender ≡ None → O.desk.joined ≡ true → h < hart_count → Inv v → O.mine.walk ≡ None → O.mine.pending ≡ None → O.row.hold ≡ Some (low j) → v.all.nodes j ≡ Some X → nat_lt X.count count_limit ≡ false → B (fails Bump TooManyLinks ∷ es) → more < n
    → ((l : ℕ) (u : World) → l + (more + 1) ≡ n → own_of h u ≡ record O { row = record (O.row) { hold = None }; mine = record { refs = O.mine.refs; walk = None; pending = None } } → Safe (machine version) h B Q p l (fails Bump TooManyLinks ∷ es) u)
    → MoveFine version h more n B Q es v (OwnMove Bump 0) p
bump_stopped version {A} h j more n B Q es v O X p ov free joined lt inv walks none holds there full b pos rest =
    moves_good version h more n B Q es v v (OwnMove Bump 0) tt p (made_by version v.all h (new_id v) (v.harts h).walk (OwnMove Bump 0)) (record { all = held_tree v.all v.all.nodes h None; walk = None; found = None; opened = None; entered = None; left = None; told = (fails Bump TooManyLinks).told }) m.made
    (fair_then r.fair (fair r.fair.inv (walk_did h None None u1 (ap (λ (z : Own). z.desk.lender) r.owned ∙ free) lt r.fair.inv (ap (λ (z : Own). z.mine.pending) r.owned ∙ none) (λ q e f. absurd cc) (λ q e. absurd cc) (λ q e. absurd cc))))
    (own_takes version h v u2 Bump (Failed TooManyLinks) refl refl (ap (λ (z : Own). z.mine.walk) ov ∙ walks) (λ q. refl) (λ g q. absurd cc) (m.steps (resolve version (settle v.all) h []) (parent version (settle v.all) h [])) (ap (λ (z : Stage). z.walk) (stage_walk h None None u1)))
    b pos
    (λ l q. (rest l u2 q (own_walk h None None u1 (record O { row = record (O.row) { hold = None } }) r.owned)).wp)
  where
    m : Moves version h v Bump (Failed TooManyLinks) v.all.nodes None
    m = bump_stops version h j X v lt inv (ap (λ (z : Own). z.row.hold) ov ∙ holds) there full

    u1 : World
    u1 = held_world v.all.nodes h None v

    u2 : World
    u2 = record u1 { harts = with_walk v.harts h None None }

    r : Rehold h None v O
    r = reholds h None v O ov free joined lt inv (λ i q. absurd cc) m.well
