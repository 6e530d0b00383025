-- The descriptor of a file that an open made: if the file must be emptied, it is empty.
use Rattle.image_versions.specs.declared.version.Version.{Version}
use Rattle.inode_machine.proofs.Vocabulary.{◌≡◌, ◌≢◌, ◌⊎◌, inl, inr, ℕ, ◌+◌, ◌-◌, ◌<◌, true, false, List, [], ◌∷◌, Option, Some, None, refl, sym, ◌∙◌, ap, subst, Do, ExecResult, Ran, P, own, onto, Good, Fine, Safe, Wp, Node, NodeKind, Directory, File, Device, OpenFile, Truncate, Done, hart_count, Tree, put, settle, resolve, parent, effect_with, is_file, lowest, has_room, place_of, with_nodes, StepWith, Key, key_is, Behind, behind, settle_again, put_self, Stage, Step, OwnMove, Mark, World, Install, InodeType, OfDirectory, type_of, type_of_kind, install_if, installed, with_walk, made_by, marked, new_id, places, with_mark, own_names, own_of, Own, Inv, machine, own_step}
use Rattle.inode_machine.proofs.Basics.{fair, fair_then, s-owned, has_node, locked_held, walks_refs, not_home, spares, below_is, moves_good, own_walk, stage_walk, walk_did, own_takes}
use Rattle.inode_machine.proofs.Empties.{empty_step, emptied_node, trunc_effect, trunc_made, trunc_place, trunc_settled}
use Rattle.inode_machine.proofs.Installs.{own_installed, installing, Installing}

file_no_directory : (k : NodeKind) (s : InodeType) → ◌≡◌ {A = Option InodeType} (Some (type_of_kind k)) (Some s) → is_file k ≡ true → s ≢ OfDirectory
file_no_directory (Directory slots) s e f q = absurd cc
file_no_directory (File bytes) s e f q = cc
file_no_directory (Device major minor size) s e f q = absurd cc

pub s-install-empty : (version : Version) {A : Type 0} {h : ℕ} (fd s : ℕ) (f : OpenFile) (inode_type : InodeType) (y : Node) {m : Option ℕ → Option Mark} {k : Option ℕ → P (machine version) A} {B : List Step → Type 0} {Q : A → List Step → World → Type 0} {n : ℕ} {es : List Step} {w : World} {O : Own}
    → own_of h w ≡ O → O.desk.lender ≡ None → h < hart_count → 0 < n → O.desk.opening ≡ Some fd → O.desk.hand ≡ Some s → has_room O.desk.fds ≡ true → lowest O.desk.fds ≡ fd → O.row.keys fd ≡ Some (key_is f) → f.offset ≡ 0 → m (Some fd) ≡ own_step (Truncate fd)
    → O.mine.walk ≡ None → O.mine.pending ≡ None → O.inodes f.number ≡ Some (locked_held (Some y)) → type_of (Some y) ≡ Some inode_type → is_file y.kind ≡ true → emptied_node y ≡ y → 0 < O.mine.refs f.number → ((1 < O.mine.refs f.number) ⊎ (own_names O.row (record (O.desk) { opening = None }) f.number ≡ false)) → B (empty_step fd ∷ es)
    → ((l : ℕ) (u : World) → l + 1 ≡ n → own_of h u ≡ own_installed O f.number fd s → Safe (machine version) h B Q (k (Some fd)) l (empty_step fd ∷ es) u)
    → Safe (machine version) h B Q (Do (Install f inode_type) m k) n es w
s-install-empty version {A} {h} fd s f inode_type y {m} {k} {B} {Q} {n} {es} {w} {O} owns free lt pos opens hand room low keyed start marks walks none isi typed isf empty refers may b rest = s-owned version owns free pos (λ v inv ov.
    let p : (v.desks h).hand ≡ Some s = ap (λ (o : Own). o.desk.hand) ov ∙ hand in
    let q : has_room (v.desks h).fds ≡ true = ap (λ (o : Own). has_room o.desk.fds) ov ∙ room in
    let c : lowest (v.desks h).fds ≡ fd = ap (λ (o : Own). lowest o.desk.fds) ov ∙ low in (
      ((λ z. cc (p, z)), start, spares h f.number v O ov refers (elim may [ inl x ↦ inl x | inr x ↦ inr (not_home h f.number v O None inv ov free lt x) ])),
      (λ _ _. subst (λ (z : ExecResult (Option ℕ) World). Good (machine version) (Option ℕ) h (λ a. places version h (Install f inode_type) a (m a) v) 0 n B es v ⊥ (with_mark version h m z) (λ l a u. Wp (machine version) h B Q (k a) l (onto (own h (places version h (Install f inode_type) a (m a) v)) es) u))
          (sym ((λ i. install_if h v f inode_type (p i) (q i)) ∙ (λ i. Ran (Some (c i)) (installed h v f inode_type s (c i)))))
          (subst (λ (z : Option Mark). Fine (machine version) h (places version h (Install f inode_type) (Some fd) z v) 0 n B es v (marked version h z (installed h v f inode_type s fd)) (λ l. Wp (machine version) h B Q (k (Some fd)) l (onto (own h (places version h (Install f inode_type) (Some fd) z v)) es) (marked version h z (installed h v f inode_type s fd)))) (sym marks) (good v inv ov))),
    ))
  where
    good : (v : World) → Inv v → own_of h v ≡ O
        → Fine (machine version) h (places version h (Install f inode_type) (Some fd) (own_step (Truncate fd)) v) 0 n B es v (marked version h (own_step (Truncate fd)) (installed h v f inode_type s fd)) (λ l. Wp (machine version) h B Q (k (Some fd)) l (onto (own h (places version h (Install f inode_type) (Some fd) (own_step (Truncate fd)) v)) es) (marked version h (own_step (Truncate fd)) (installed h v f inode_type s fd)))
    good v inv ov =
        moves_good version h 0 n B Q es v u (OwnMove (Truncate fd) 0) tt (k (Some fd)) (made_by version v.all h (new_id v) (v.harts h).walk (OwnMove (Truncate fd) 0)) (record { all = v.all; walk = None; found = None; opened = None; entered = None; left = None; told = (empty_step fd).told })
        (trunc_made version v.all h fd 0 (new_id v) f.number at.file y (resolve version v.all h []) (parent version v.all h []) at.at file_is there ∙ (λ z. record { all = stays z; walk = None; found = None; opened = None; entered = None; left = None; told = (empty_step fd).told }))
        (fair_then c.lands (fair c.lands.inv (walk_did h None None u (ap (λ (o : Own). o.desk.lender) c.owned ∙ free) lt c.lands.inv (ap (λ (o : Own). o.mine.pending) c.owned ∙ none) (λ m q e. absurd cc) (λ z q. absurd cc) (λ i q. absurd cc))))
        (own_takes version h v u1 (Truncate fd) Done refl refl (ap (λ (o : Own). o.mine.walk) ov ∙ walks) (λ q. refl) (λ g q. absurd cc)
        (subst (λ (z : Tree). StepWith version (settle v.all) h (Truncate fd) (resolve version (settle v.all) h []) (parent version (settle v.all) h []) Done 0 (new_id v) z) (sym (settle_again v.all))
        (trunc_settled version v.all v.all h fd (new_id v) (resolve version (settle v.all) h []) (parent version (settle v.all) h []) (ap settle (sym effect_is)) (rw (below_is h hart_count lt) placed)))
        (ap (λ (m : Stage). m.walk) (stage_walk h None None u) ∙ (λ z. put (walks_refs v.harts h f.number ((v.harts h).refs f.number - 1) z) h None)))
        b pos
        (λ l q. (rest l u1 q (own_walk h None None u (own_installed O f.number fd s) c.owned ∙ kept)).wp)
      where
        u : World
        u = installed h v f inode_type s fd

        u1 : World
        u1 = record u { harts = with_walk u.harts h None None }

        c : Installing h fd s f inode_type O v
        c = installing version h fd s f inode_type (locked_held (Some y)) v O ov free lt inv opens hand keyed start walks none isi refl typed (λ _. file_no_directory y.kind inode_type typed isf) refers may

        at : Behind v.all h fd (key_is f)
        at = behind v.all h fd (key_is f) (ap (λ (o : Own). o.row.keys fd) ov ∙ keyed)

        file_is : at.file.number ≡ f.number
        file_is = ap (λ (z : Key). z.number) at.same

        there : v.all.nodes f.number ≡ Some y
        there = has_node h f.number v O (locked_held (Some y)) ov isi

        placed : place_of v.all h (Truncate fd) ≡ true
        placed = trunc_place v.all h fd f.number at.file y lt at.at file_is there isf

        stays : with_nodes v.all (put v.all.nodes f.number (Some (emptied_node y))) ≡ v.all
        stays = λ z. with_nodes v.all (put_self v.all.nodes f.number (Some (emptied_node y)) (there ∙ (λ j. Some (sym empty j))) z)

        effect_is : effect_with version v.all h (Truncate fd) None None 0 (new_id v) ≡ v.all
        effect_is = trunc_effect version v.all h fd 0 (new_id v) f.number at.file y None None at.at file_is there ∙ stays

        kept : record (own_installed O f.number fd s) { mine = record { refs = put O.mine.refs f.number (O.mine.refs f.number - 1); walk = None; pending = None } } ≡ own_installed O f.number fd s
        kept = λ z. record (own_installed O f.number fd s) { mine = record { refs = put O.mine.refs f.number (O.mine.refs f.number - 1); walk = sym walks z; pending = sym none z } }
