-- Fstat: a descriptor's inode is locked, and its state reported.
use Rattle.image_versions.specs.declared.version.Version.{Version}
use Rattle.inode_machine.proofs.Vocabulary.{◌≡◌, inl, inr, ℕ, ◌+◌, ◌<◌, List, [], ◌∷◌, Option, Some, None, refl, sym, ◌∙◌, ap, subst, arith, nat_tests, Do, ExecResult, P, own, onto, Good, Safe, Wp, BadDescriptor, Node, NodeKind, Directory, File, Device, OpenFile, Fstat, Status, hart_count, Name, Tree, put, settle, resolve, parent, node_or, node_at, stat_of, file_at, refusal_with, refusal_by, effect_with, effect_by, answer_with, answer_by, place_of, IsInPlace, file_settled, settle_or, settle_again, file_named, Deed, Stage, Step, OwnMove, World, Entry, Mark, Face, face_of, face_or, type_of, stat_of_face, Own, Opens, EntryOut, Inv, machine, own_of, own_step, entry_at, entry_of, lock_if, locked, slot_at, stat_at, with_walk, made_by, new_id, places, with_mark, StatFile}
use Rattle.inode_machine.proofs.Basics.{Locking, fine_after, is_out, locked_held, locking, locks_none, s-owned, moves_good, own_walk, stage_walk, walk_did, Behind, behind, behind_none, fails, refused_good, Refused, fair}

-- an open file of the hart keeps its node when the tree settles
pub node_settled : (h fd : ℕ) (v : World) (e : Entry) (s : ℕ) → Inv v → h < hart_count → Behind h fd s e v → (settle v.all).nodes e.file.number ≡ v.all.nodes e.file.number
node_settled h fd v e s inv lt hit = elim (settle_or v.all e.file.number) [
  | inl q ↦ q
  | inr q ↦ absurd (let a = file_named v.all h fd (v.ids s) e.file lt hit.below hit.tree (inv.tied.files s e hit.at) in let b = q.2 in cc (a, b))
]

stat_goes : (version : Version) (t : Tree) (h fd : ℕ) (f : OpenFile) (res : Option ℕ) (par : Option (ℕ × Name)) → file_at t h fd ≡ Some f → refusal_with version t h (Fstat fd) res par ≡ None
unfolding refusal_by
stat_goes version t h fd f res par e = rw e refl

stat_effect : (version : Version) (t : Tree) (h fd new id : ℕ) (res : Option ℕ) (par : Option (ℕ × Name)) → effect_with version t h (Fstat fd) res par new id ≡ t
unfolding effect_by
stat_effect version t h fd new id res par = refl

stat_is : (version : Version) (t : Tree) (h fd id n : ℕ) (f : OpenFile) (v : Node) (res : Option ℕ) (par : Option (ℕ × Name)) → file_at t h fd ≡ Some f → f.number ≡ n → t.nodes n ≡ Some v → answer_with version t h (Fstat fd) res par id ≡ Status (stat_of version n v)
unfolding answer_by
stat_is version t h fd id n f v res par e q r = rw e ((λ i. Status (stat_of version (q i) (node_at t (q i)))) ∙ (λ i. Status (stat_of version n (node_or (r i)))))

stat_place : (t : Tree) (h fd : ℕ) → h < hart_count → IsInPlace t h (Fstat fd)
unfolding place_of
stat_place t h fd lt = grind (arith, nat_tests)

stat_none : (version : Version) (t : Tree) (h fd : ℕ) (res : Option ℕ) (par : Option (ℕ × Name)) → file_at t h fd ≡ None → refusal_with version t h (Fstat fd) res par ≡ Some BadDescriptor
unfolding refusal_by
stat_none version t h fd res par e = rw e refl

stat_is_refused : (version : Version) (h fd : ℕ) (v : World) → h < hart_count → file_at v.all h fd ≡ None → Refused version h (Fstat fd) BadDescriptor v
stat_is_refused version h fd v lt e = record {
  follows = refl;
  path = refl;
  now = λ res par. stat_none version v.all h fd res par e;
  then_ = λ res par. stat_none version (settle v.all) h fd res par (file_settled v.all h fd ∙ e);
  found = λ res. refl;
  stays = refl;
  place = stat_place (settle v.all) h fd lt;
  makes = λ q. refl;
  keeps = refl;
  inherits = λ g q. absurd cc;
}

abbrev pub stat_step : Version → ℕ → ℕ → Node → Step
stat_step version fd i v = record { move = OwnMove (Fstat fd) 0; told = Some (record { act = record { step = Fstat fd; answer = Status (stat_of version i v) }; new = 0 }) }

-- a face tells a node's state
pub stat_face : (version : Version) (i : ℕ) (v : Node) → stat_of_face i (face_or (face_of version (Some v))) ≡ stat_of version i v
stat_face version i v = by_kind v.kind
  where
    by_kind : (k : NodeKind) → stat_of_face i (face_or (face_of version (Some (record { count = v.count; kind = k })))) ≡ stat_of version i (record { count = v.count; kind = k })
    by_kind (Directory slots) = refl
    by_kind (File bytes) = refl
    by_kind (Device major minor size) = refl

-- an open file's inode is there
pub node_there : (v : World) (s : ℕ) (e : Entry) → Inv v → v.files s ≡ Some e → (x : Node) × (v.all.nodes e.file.number ≡ Some x)
node_there v s e inv at = go (v.all.nodes e.file.number) refl
  where
    go : (o : Option Node) → v.all.nodes e.file.number ≡ o → (x : Node) × (v.all.nodes e.file.number ≡ Some x)
    go None q = absurd (let a = (inv.inode_types s e at).inode_type in let b : type_of (v.all.nodes e.file.number) ≡ None = ap (λ (z : Option Node). type_of z) q in cc (a, b))
    go (Some x) q = (x, q)

-- what a descriptor names has the hart's reference
pub behind_opens : (h fd s : ℕ) (e : Entry) (v : World) → Behind h fd s e v → Opens (v.desks h).fds v.files e.file.number
behind_opens h fd s e v hit = record { fd = fd; below = hit.below; slot = s; is = hit.is; entry = e; at = hit.at; number = refl }

pub entry_is : (h fd s : ℕ) (e : Entry) (v : World) → slot_at v h fd ≡ Some s → Behind h fd s e v → entry_of v h fd ≡ Some e
entry_is h fd s e v q hit = ap (λ (o : Option ℕ). entry_at v.files o) q ∙ hit.at

pub s-stat-file : (version : Version) {A : Type 0} {h : ℕ} (fd : ℕ) {k : Option (ℕ × Face) → P (machine version) A} {B : List Step → Type 0} {Q : A → List Step → World → Type 0} {n : ℕ} {es : List Step} {w : World} {O : Own}
    → own_of h w ≡ O → O.desk.lender ≡ None → h < hart_count → 3 < n → O.mine.walk ≡ None → O.mine.pending ≡ None → O.desk.opening ≡ None → ((j : ℕ) → O.inodes j ≡ None)
    → B (fails (Fstat fd) BadDescriptor ∷ es) → ((i : ℕ) (x : Node) → B (stat_step version fd i x ∷ es))
    → ((l : ℕ) (u : World) → l + 4 ≡ n → own_of h u ≡ record O { mine = record { refs = O.mine.refs; walk = None; pending = None } } → Safe (machine version) h B Q (k None) l (fails (Fstat fd) BadDescriptor ∷ es) u)
    → ((l i : ℕ) (x : Node) (u : World) → l + 4 ≡ n → own_of h u ≡ record O { inodes = put O.inodes i (Some (locked_held (Some x))); mine = record { refs = O.mine.refs; walk = None; pending = None } } → Safe (machine version) h B Q (k (Some (i, face_or (face_of version (Some x))))) l (stat_step version fd i x ∷ es) u)
    → Safe (machine version) h B Q (Do (StatFile fd) (λ a. own_step (Fstat fd)) k) n es w
s-stat-file version {A} {h} fd {k} {B} {Q} {n} {es} {w} {O} owns free lt pos walks none idle empty bf bd bad then_ = s-owned version owns free pos (λ v inv ov. (locks_none h v O inv ov (λ i x q. absurd (let a = empty i in cc (a, q))), (λ _ _. at v inv ov (slot_at v h fd) refl)))
  where
    m : Option (ℕ × Face) → Option Mark
    m a = own_step (Fstat fd)

    Goal : World → ExecResult (Option (ℕ × Face)) World → Type 0
    Goal v z = Good (machine version) (Option (ℕ × Face)) h (λ a. places version h (StatFile fd) a (own_step (Fstat fd)) v) 3 n B es v (EntryOut h v (entry_of v h fd)) (with_mark version h (λ (_ : Option (ℕ × Face)). own_step (Fstat fd)) z) (λ l a u. Wp (machine version) h B Q (k a) l (onto (own h (places version h (StatFile fd) a (own_step (Fstat fd)) v)) es) u)

    opening_none : (v : World) → own_of h v ≡ O → (v.desks h).opening ≡ None
    opening_none v ov = ap (λ (o : Own). o.desk.opening) ov ∙ idle

    told : (v : World) → Inv v → own_of h v ≡ O → (s : ℕ) (e : Entry) → slot_at v h fd ≡ Some s → Behind h fd s e v → (r : Option ℕ) → v.lock e.file.number ≡ r → Goal v (lock_if h e.file.number (Some (e.file.number, face_or (face_of version (v.disk e.file.number)))) v (locked h e.file.number v) r)
    told v inv ov s e q hit (Some g) r = subst (λ (z : Option Entry). EntryOut h v z) (sym (entry_is h fd s e v q hit)) (is_out h e.file.number g v O inv ov (empty e.file.number) r)
    told v inv ov s e q hit None r =
        fine_after version a.fair refl
        (moves_good version h 3 n B Q es u u (OwnMove (Fstat fd) 0) tt (k (Some (e.file.number, face_or (face_of version (v.disk e.file.number))))) (made_by version v.all h (new_id v) (v.harts h).walk (OwnMove (Fstat fd) 0)) (record { all = v.all; walk = None; found = None; opened = None; entered = None; left = None; told = Some deed })
        made_is
        (fair a.fair.inv (walk_did h None None u (ap (λ (o : Own). o.desk.lender) ov ∙ free) lt a.fair.inv (ap (λ (o : Own). o.mine.pending) ov ∙ none) (λ y z p. absurd cc) (λ z p. absurd cc) (λ j p. absurd cc))) (record {
          follows = refl;
          rests = ap (λ (o : Own). o.mine.walk) ov ∙ walks;
          acts = record {
            id = new_id v;
            answer = Status (stat_of version e.file.number x.0);
            deed = refl;
            step = (
              stat_goes version (settle v.all) h fd e.file (resolve version (settle v.all) h []) (parent version (settle v.all) h []) (file_settled v.all h fd ∙ hit.file),
              sym (stat_is version (settle v.all) h fd (new_id v) e.file.number e.file x.0 (resolve version (settle v.all) h []) (parent version (settle v.all) h []) (file_settled v.all h fd ∙ hit.file) refl (node_settled h fd v e s inv lt hit ∙ x.1)),
              record { node = λ z. absurd cc; file = λ z. absurd cc },
              settle_again v.all ∙ ap (λ (t : Tree). settle t) (sym (stat_effect version (settle v.all) h fd 0 (new_id v) (resolve version (settle v.all) h []) (parent version (settle v.all) h []))),
              stat_place (settle v.all) h fd lt,
            );
            walk = ap (λ (z : Stage). z.walk) (stage_walk h None None u);
            alone = λ ok z. absurd cc;
            idle = λ g l z. absurd cc;
          };
        })
        (bd e.file.number x.0) pos
        (λ l p. subst (λ (z : Option Node). Wp (machine version) h B Q (k (Some (e.file.number, face_or (face_of version z)))) l (stat_step version fd e.file.number x.0 ∷ es) (record u { harts = with_walk v.harts h None None })) (sym (a.whole ∙ x.1))
        (then_ l e.file.number x.0 (record u { harts = with_walk v.harts h None None }) p (own_walk h None None u (record O { inodes = put O.inodes e.file.number (Some (locked_held (Some x.0))) }) (a.owned ∙ (λ z. record O { inodes = put O.inodes e.file.number (Some (locked_held (x.1 z))) })))).wp))
      where
        u : World
        u = locked h e.file.number v

        a : Locking h e.file.number v O
        a = locking version h e.file.number v O ov free lt inv (empty e.file.number) (inl (behind_opens h fd s e v hit)) r

        x : (x : Node) × (v.all.nodes e.file.number ≡ Some x)
        x = node_there v s e inv hit.at

        deed : Deed
        deed = record { act = record { step = Fstat fd; answer = Status (stat_of version e.file.number x.0) }; new = 0 }

        made_is : made_by version v.all h (new_id v) (v.harts h).walk (OwnMove (Fstat fd) 0) ≡ record { all = v.all; walk = None; found = None; opened = None; entered = None; left = None; told = Some deed }
        made_is = rw (stat_goes version v.all h fd e.file (resolve version v.all h []) (parent version v.all h []) hit.file)
            (λ z. record { all = stat_effect version v.all h fd 0 (new_id v) (resolve version v.all h []) (parent version v.all h []) z; walk = None; found = None; opened = None; entered = None; left = None; told = Some (record { act = record { step = Fstat fd; answer = stat_is version v.all h fd (new_id v) e.file.number e.file x.0 (resolve version v.all h []) (parent version v.all h []) hit.file refl x.1 z }; new = 0 }) })

    at : (v : World) → Inv v → own_of h v ≡ O → (o : Option ℕ) → slot_at v h fd ≡ o → Goal v (stat_at version h v (entry_at v.files o))
    at v inv ov None q = refused_good version h 3 n B Q es v O (Fstat fd) BadDescriptor (k None) ov free lt inv walks none (stat_is_refused version h fd v lt (behind_none h fd v inv lt (opening_none v ov) q)) bf pos bad
    at v inv ov (Some s) q =
        let b = behind h fd s v inv lt (opening_none v ov) q in
        subst (λ (z : Option Entry). Goal v (stat_at version h v z)) (sym b.1.at) (told v inv ov s b.0 q b.1 (v.lock b.0.file.number) refl)
