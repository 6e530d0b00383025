-- Read: a descriptor's inode is locked, a part read at the offset, and the offset moves, with the lock given up.
use Rattle.inode_machine.proofs.Vocabulary.{◌≡◌, inl, inr, ℕ, ◌+◌, ◌<◌, ◌≤◌, true, false, ◌==◌, ◌&&◌, nat_lt, List, [], ◌∷◌, take, length, Option, Some, None, refl, sym, ◌∙◌, ap, subst, arith, if◌then◌else◌, Bool, Do, Ran, ExecResult, P, own, onto, Good, Fine, Safe, Wp, Cause, BadDescriptor, BadMode, Node, NodeKind, Directory, File, Device, own_step, InodeType, no_driver_for, type_of, type_of_kind, OpenFile, Read, Bytes, hart_count, descriptor_count, Name, Tree, put, fd_names, file_names, and_then, settle, resolve, parent, node_or, node_at, content, part, no_driver, file_at, refusal_with, refusal_by, effect_with, effect_by, answer_with, answer_by, place_of, IsInPlace, Key, key_of, Row, key_at, row_of, key_is, key_from, with_open, NamesLess, settle_less, file_settled, IsWellFormed, same_or, put_same, put_other, sum_same, well_moved, Stage, Step, OwnMove, Mine, Entry, World, LockResult as Lockup, NotLocked, LocksIt, places, with_mark, made_by, new_id, with_made, refused_read, with_walk, slot_at, entry_at, entry_moved, part_of, entry_of, lock_at, offset_of, lock_if, locked, mode_refusal, read_at, read_refused, unlocked, with_offset, Own, own_names, Held, own_of, Inv, machine, EntryOut, asked_limit, KeepsFiles, StandsAt, LockFile, ReadFile, search_cost}
use Rattle.std.proofs.Common.{drop}
use Rattle.image_versions.specs.declared.version.Version.{Version}
use Rattle.plain_tree.specs.Steps.{moved}
use Rattle.inode_machine.proofs.Basics.{Ours, ours_none, put_elim, Fair, fair, has_inode, s-owned, s-owned-from, quiet, has_disk, has_node, fine_after, is_out, locked_held, locking, locks_it, locks_none, after_unlock, gives, below_is, refs_walk, stage_walk, moves_good, Sells, sells_did, own_takes, Behind, behind, behind_none, Refused, renewed_slots, renewed_at, fails, refused_good, renewed_types}
use Rattle.inode_machine.proofs.Frame.{Stays}
use Rattle.inode_machine.proofs.Stats.{behind_opens, entry_is, node_settled}

-- Refusals.

read_none : (version : Version) (t : Tree) (h fd n : ℕ) (res : Option ℕ) (par : Option (ℕ × Name)) → file_at t h fd ≡ None → refusal_with version t h (Read fd n) res par ≡ Some BadDescriptor
unfolding refusal_by
read_none version t h fd n res par e = rw e refl

read_mode : (version : Version) (t : Tree) (h fd n : ℕ) (f : OpenFile) (res : Option ℕ) (par : Option (ℕ × Name)) → file_at t h fd ≡ Some f → f.readable ≡ false → refusal_with version t h (Read fd n) res par ≡ Some BadMode
unfolding refusal_by
read_mode version t h fd n f res par e r = rw (e, r) refl

read_kind : (version : Version) (t : Tree) (h fd n : ℕ) (f : OpenFile) (k : Option Cause) (res : Option ℕ) (par : Option (ℕ × Name)) → file_at t h fd ≡ Some f → f.readable ≡ true → no_driver (node_at t f.number).kind ≡ k → refusal_with version t h (Read fd n) res par ≡ k
unfolding refusal_by
read_kind version t h fd n f k res par e r q = rw (e, r) q

read_place : (t : Tree) (h fd n : ℕ) → h < hart_count → IsInPlace t h (Read fd n)
unfolding place_of
read_place t h fd n lt = rw (below_is h hart_count lt) refl

pub read_refused_at : (version : Version) (h fd n : ℕ) (c : Cause) (v : World) → h < hart_count → ((res : Option ℕ) (par : Option (ℕ × Name)) → refusal_with version v.all h (Read fd n) res par ≡ Some c) → ((res : Option ℕ) (par : Option (ℕ × Name)) → refusal_with version (settle v.all) h (Read fd n) res par ≡ Some c) → Refused version h (Read fd n) c v
read_refused_at version h fd n c v lt now then_ = record {
  follows = refl;
  path = refl;
  now = now;
  then_ = then_;
  found = λ res. refl;
  stays = refl;
  place = read_place (settle v.all) h fd n lt;
  makes = λ q. refl;
  keeps = refl;
  inherits = λ g q. absurd cc;
}

pub refused_none : (version : Version) (h fd n : ℕ) (v : World) → h < hart_count → file_at v.all h fd ≡ None → Refused version h (Read fd n) BadDescriptor v
refused_none version h fd n v lt e = read_refused_at version h fd n BadDescriptor v lt (λ res par. read_none version v.all h fd n res par e) (λ res par. read_none version (settle v.all) h fd n res par (file_settled v.all h fd ∙ e))

pub refused_mode : (version : Version) (h fd n : ℕ) (f : OpenFile) (v : World) → h < hart_count → file_at v.all h fd ≡ Some f → f.readable ≡ false → Refused version h (Read fd n) BadMode v
refused_mode version h fd n f v lt e r = read_refused_at version h fd n BadMode v lt (λ res par. read_mode version v.all h fd n f res par e r) (λ res par. read_mode version (settle v.all) h fd n f res par (file_settled v.all h fd ∙ e) r)

-- The act.

abbrev pub offset_on : OpenFile → ℕ → OpenFile
offset_on f by = record f { offset = f.offset + by }

read_effect : (version : Version) (t : Tree) (h fd n new id new_id : ℕ) (f : OpenFile) (b : List ℕ) (res : Option ℕ) (par : Option (ℕ × Name)) → t.fds h fd ≡ Some id → t.files id ≡ Some f → part version t (file_at t h fd) n ≡ b → effect_with version t h (Read fd n) res par new new_id ≡ with_open t t.fds (put t.files id (Some (offset_on f (length b))))
unfolding effect_by
read_effect version t h fd n new id new_id f b res par e q p = (λ i. moved t (e i) (length (p i))) ∙ (λ i. record t { files = put t.files id (and_then (q i) (λ g. Some (record g { offset = g.offset + length b }))) })

read_effect_settled : (version : Version) (t : Tree) (h fd n new id new_id : ℕ) (f : OpenFile) (b : List ℕ) (res : Option ℕ) (par : Option (ℕ × Name)) → t.fds h fd ≡ Some id → t.files id ≡ Some f → part version (settle t) (file_at (settle t) h fd) n ≡ b → effect_with version (settle t) h (Read fd n) res par new new_id ≡ with_open (settle t) t.fds (put t.files id (Some (offset_on f (length b))))
unfolding effect_by settle
read_effect_settled version t h fd n new id new_id f b res par e q p = (λ i. moved (settle t) (e i) (length (p i))) ∙ (λ i. record (settle t) { files = put t.files id (and_then (q i) (λ g. Some (record g { offset = g.offset + length b }))) })

read_answer : (version : Version) (t : Tree) (h fd n id : ℕ) (b : List ℕ) (res : Option ℕ) (par : Option (ℕ × Name)) → part version t (file_at t h fd) n ≡ b → answer_with version t h (Read fd n) res par id ≡ Bytes b
unfolding answer_by
read_answer version t h fd n id b res par p = ap (λ (z : List ℕ). Bytes z) p

part_is : (version : Version) (t : Tree) (h fd n : ℕ) (f : OpenFile) (x : Option Node) → file_at t h fd ≡ Some f → t.nodes f.number ≡ x → part version t (file_at t h fd) n ≡ part_of version x f.offset n
part_is version t h fd n f x e q = ap (λ (z : Option OpenFile). part version t z n) e ∙ ap (λ (z : Option Node). take n (drop f.offset (content version (node_or z).kind))) q

-- another offset: keys stay
moved_keys : (files : ℕ → Option OpenFile) (id : ℕ) (f g : OpenFile) (o : Option ℕ) → files id ≡ Some f → key_is g ≡ key_is f → key_at (put files id (Some g)) o ≡ key_at files o
moved_keys files id f g None e q = refl
moved_keys files id f g (Some j) e q = put_elim files id (Some g) j (λ z. key_of z ≡ key_of (files j)) (λ r. ap (λ (z : Key). Some z) q ∙ sym (ap (λ (z : Option OpenFile). key_of z) (ap files r ∙ e))) (λ ne. refl)

pub moved_row : (t : Tree) (h id : ℕ) (f g : OpenFile) → t.files id ≡ Some f → key_is g ≡ key_is f → row_of (with_open t t.fds (put t.files id (Some g))) h ≡ row_of t h
moved_row t h id f g e q = λ r. record { cwd = t.cwd h; hold = t.holds h; fds = t.fds h; keys = λ i. if nat_lt h hart_count && nat_lt i descriptor_count then moved_keys t.files id f g (t.fds h i) e q r else None }

pub moved_names : (t : Tree) (id : ℕ) (f g : OpenFile) → t.files id ≡ Some f → g.number ≡ f.number → NamesLess t t.fds (put t.files id (Some g))
moved_names t id f g e q n k i lk li out = at (t.fds k i) refl
  where
    at : (o : Option ℕ) → t.fds k i ≡ o → fd_names (with_open t t.fds (put t.files id (Some g))) (t.fds k i) n ≡ false
    at None r = ap (λ (z : Option ℕ). fd_names (with_open t t.fds (put t.files id (Some g))) z n) r
    at (Some j) r =
        let was : file_names (t.files j) n ≡ false = sym (ap (λ (z : Option ℕ). fd_names t z n) r) ∙ out k i lk li in
        ap (λ (z : Option ℕ). fd_names (with_open t t.fds (put t.files id (Some g))) z n) r
        ∙ put_elim t.files id (Some g) j (λ z. file_names z n ≡ false) (λ p. ap (λ (z : ℕ). z == n) q ∙ sym (ap (λ (z : Option OpenFile). file_names z n) (ap t.files p ∙ e)) ∙ was) (λ ne. was)

abbrev pub read_step : ℕ → ℕ → List ℕ → Step
read_step fd n b = record { move = OwnMove (Read fd n) 0; told = Some (record { act = record { step = Read fd n; answer = Bytes b }; new = 0 }) }

-- The offset of a slot's open file moves.

abbrev pub moved_world : ℕ → ℕ → ℕ → Entry → World → World
moved_world h s by e v = record v { files = put v.files s (Some (entry_moved e by)); all = with_open v.all v.all.fds (put v.all.files (v.ids s) (Some (offset_on e.file by))); harts = with_walk v.harts h None None }

pub record Moving (h s by : ℕ) (e : Entry) (v : World) (O : Own) : Type 0 where
  pub fair : Fair h v (moved_world h s by e v)
  pub owned : own_of h (moved_world h s by e v) ≡ record O { mine = record { refs = O.mine.refs; walk = None; pending = None } }

pub moving : (h fd s by : ℕ) (e : Entry) (v : World) (O : Own) → own_of h v ≡ O → O.desk.lender ≡ None → h < hart_count → Inv v → O.mine.pending ≡ None → Behind h fd s e v → Ours h (v.keeper e.file.number) → Moving h s by e v O
moving h fd s by e v O ov free lt inv none hit ours = record { fair = fair inv (sells_did h v F v.desks v.slots T (with_walk v.harts h None None) lt inv sells); owned = owned }
  where
    f : OpenFile
    f = offset_on e.file by

    F : ℕ → Option Entry
    F = put v.files s (Some (entry_moved e by))

    T : Tree
    T = with_open v.all v.all.fds (put v.all.files (v.ids s) (Some f))

    opened : v.all.files (v.ids s) ≡ Some e.file
    opened = inv.tied.files s e hit.at

    back : (j : ℕ) (d : Entry) → F j ≡ Some d → (c : Entry) × (v.files j ≡ Some c) × (d.references ≡ c.references) × (put v.all.files (v.ids s) (Some f) (v.ids j) ≡ Some d.file)
    back j d q = elim (same_or j s) [
      | inl r ↦
          let a : Some (entry_moved e by) ≡ Some d = sym (put_same v.files s (Some (entry_moved e by))) ∙ ap F (sym r) ∙ q in
          let c : entry_moved e by ≡ d = cc in
          (e, ap v.files r ∙ hit.at, ap (λ (z : Entry). z.references) (sym c), ap (λ (z : ℕ). put v.all.files (v.ids s) (Some f) (v.ids z)) r ∙ put_same v.all.files (v.ids s) (Some f) ∙ ap (λ (z : Entry). Some z.file) c)
      | inr ne ↦
          let a : v.files j ≡ Some d = sym (put_other v.files s (Some (entry_moved e by)) j ne) ∙ q in
          (d, a, refl, put_other v.all.files (v.ids s) (Some f) (v.ids j) (λ z. ne (inv.tied.apart j s d e a hit.at z)) ∙ inv.tied.files j d a)
    ]

    -- another open file is as it was; this one is of an inode that no other hart keeps
    moved_stays : (j : ℕ) (d : Entry) → v.files j ≡ Some d → (c : Entry) × (F j ≡ Some c) × (c.inode_type ≡ d.inode_type) × Stays (λ n. Ours h (v.keeper n)) d c
    moved_stays j d q = elim (same_or j s) [
      | inl r ↦
          let a : Some e ≡ Some d = sym hit.at ∙ ap v.files (sym r) ∙ q in
          let c : e ≡ d = cc in
          (entry_moved e by, ap F r ∙ put_same v.files s (Some (entry_moved e by)), ap (λ (z : Entry). z.inode_type) c, inr (subst (λ (z : Entry). Ours h (v.keeper z.file.number) × (e.file.number ≡ z.file.number)) c (ours, refl)))
      | inr ne ↦ (d, put_other v.files s (Some (entry_moved e by)) j ne ∙ q, refl, inl refl)
    ]

    empty : (j : ℕ) → v.files j ≡ None → (o : Option Entry) → F j ≡ o → F j ≡ None
    empty j q None r = r
    empty j q (Some d) r = absurd (let a = (back j d r).1 in cc (a, q))

    on : (j : ℕ) (d : Entry) → v.files j ≡ Some d → (c : Entry) × (F j ≡ Some c) × (c.file.number ≡ d.file.number)
    on j d q = renewed_at v.files s e (entry_moved e by) j d hit.at refl q

    sells : Sells h v F v.desks v.slots T (with_walk v.harts h None None)
    sells = record {
      kin = record {
        tied = record {
          fds = inv.tied.fds;
          fresh = λ g j lg o. let z = inv.tied.fresh g j lg o in record {
            below = z.below;
            free = z.free;
            id = z.id;
            is = z.is;
            file = z.file;
            at = put_other v.all.files (v.ids s) (Some f) z.id (λ q. absurd (let m = z.only h fd lt hit.below (hit.tree ∙ ap (λ (y : ℕ). Some y) (sym q)) in let a : (v.desks h).fds fd ≡ (v.desks g).fds j = (λ r. (v.desks (m.0 r)).fds (m.1 r)) in let b = z.free in let c = hit.is in cc (a, b, c))) ∙ z.at;
            offset = z.offset;
            only = z.only;
          };
          lends = inv.tied.lends;
          used = λ g j c lg lj q. let a = inv.tied.used g j c lg lj q in let o = on c a.0 a.1 in (o.0, o.1);
          hand = λ g c lg q. let a = inv.tied.hand g c lg q in (a.0, empty c a.1 (F c) refl);
          hands = inv.tied.hands;
          within = λ j d q. let a = back j d q in inv.tied.within j a.0 a.1;
          files = λ j d q. (back j d q).3;
          apart = λ j l c d p q r. let a = back j c p in let z = back l d q in inv.tied.apart j l a.0 z.0 a.1 z.1 r;
          counted = λ j d q. let a = back j d q in let c = inv.tied.counted j a.0 a.1 in (a.2 ∙ c.0, (let z = a.2 in let y = c.1 in omega (arith, z, y)));
          slots = λ j. inv.tied.slots j ∙ sym (renewed_slots v.files s e (entry_moved e by) j hit.at refl);
          spoiled = inv.tied.spoiled;
        };
        desks = λ g ne. refl;
        numbers = λ g j c d lg ne lj q a. moved_stays c d a;
        clean = λ c. c;
        bond = refl;
        stays = inl refl;
      };
      free = ap (λ (o : Own). o.desk.lender) ov ∙ free;
      unlent = ap (λ (o : Own). o.desk.lender) ov ∙ free;
      joined = refl;
      holds = refl;
      inode_types = λ j d q. renewed_types v s e (entry_moved e by) inv hit.at refl refl refl j d q;
      noted = λ m q. (q, (λ z. let r = refs_walk v.harts h None None h m.number in omega (arith, r, z)));
      directory = inv.directory h lt;
      home = refl;
      few = λ j. let r = refs_walk v.harts h None None h j in let a = (inv.refers h lt).few j in omega (arith, r, a);
      well = subst (λ (z : Tree). IsWellFormed z) (λ r. record (v.all) { files = put v.all.files (v.ids s) (and_then (opened r) (λ g. Some (record g { offset = g.offset + by }))) }) (well_moved v.all (Some (v.ids s)) by inv.well);
      nodes = refl;
      size = refl;
      rows = λ g ne. moved_row v.all g (v.ids s) e.file f opened refl;
      ids = λ j le. put_other v.all.files (v.ids s) (Some f) j (λ z. absurd (let a = inv.ids j le in let c : v.all.files j ≡ Some e.file = ap v.all.files z ∙ opened in cc (a, c))) ∙ inv.ids j le;
      others = λ g ne. put_other v.harts h (record { refs = (v.harts h).refs; walk = None; pending = None }) g ne;
      refs = λ j. let r = refs_walk v.harts h None None h j in omega (arith, r);
      counts = λ j. inv.counts j ∙ ap (λ (z : ℕ). v.slots j + z) (sym (sum_same hart_count (λ g. (v.harts g).refs j) (λ g. (with_walk v.harts h None None g).refs j) (λ g l. refs_walk v.harts h None None g j)));
      pinned = λ j kept o. let z = on o.slot o.entry o.at in inl (record { fd = o.fd; below = o.below; slot = o.slot; is = o.is; entry = z.0; at = z.1; number = z.2 ∙ o.number });
      names = λ j is. ap (λ (r : Row). own_names r (v.desks h) j) (sym (moved_row v.all h (v.ids s) e.file f opened refl)) ∙ is;
      still = ap (λ (o : Own). o.mine.pending) ov ∙ none;
      found = ap (λ (z : Mine). z.pending) (put_same v.harts h (record { refs = (v.harts h).refs; walk = None; pending = None }));
      walk = ap (λ (z : Mine). z.walk) (put_same v.harts h (record { refs = (v.harts h).refs; walk = None; pending = None }));
      lone = λ j a. a.counts ∙ sym (refs_walk v.harts h None None a.hart j);
    }

    owned : own_of h (moved_world h s by e v) ≡ record O { mine = record { refs = O.mine.refs; walk = None; pending = None } }
    owned = λ z. record {
      inodes = ap (λ (o : Own). o.inodes) ov z;
      mine = (put_same v.harts h (record { refs = (v.harts h).refs; walk = None; pending = None }) ∙ ap (λ (o : Own). record { refs = o.mine.refs; walk = None; pending = None }) ov) z;
      row = (moved_row v.all h (v.ids s) e.file f opened refl ∙ ap (λ (o : Own). o.row) ov) z;
      ninodes = ap (λ (o : Own). o.ninodes) ov z;
      desk = ap (λ (o : Own). o.desk) ov z;
    }

-- The part is read in a world in which the inode's record is its node.
pub part_good : (version : Version) {A : Type 0} (h more n : ℕ) (B : List Step → Type 0) (Q : A → List Step → World → Type 0) (es : List Step) (v : World) (O : Own) (fd count s : ℕ) (e : Entry) (b : List ℕ) (p : P (machine version) A)
    → own_of h v ≡ O → O.desk.lender ≡ None → h < hart_count → Inv v → O.mine.walk ≡ None → O.mine.pending ≡ None → Behind h fd s e v → Ours h (v.keeper e.file.number) → v.disk e.file.number ≡ v.all.nodes e.file.number → b ≡ part_of version (v.disk e.file.number) e.file.offset count
    → ((t : Tree) → file_at t h fd ≡ Some e.file → t.nodes e.file.number ≡ v.all.nodes e.file.number → (res : Option ℕ) (par : Option (ℕ × Name)) → refusal_with version t h (Read fd count) res par ≡ None)
    → B (read_step fd count b ∷ es) → more < n
    → ((l : ℕ) (u : World) → l + (more + 1) ≡ n → own_of h u ≡ record O { mine = record { refs = O.mine.refs; walk = None; pending = None } } → Safe (machine version) h B Q p l (read_step fd count b ∷ es) u)
    → Fine (machine version) h ((h, record { move = OwnMove (Read fd count) 0; told = (made_by version v.all h (new_id v) (v.harts h).walk (OwnMove (Read fd count) 0)).told }) ∷ []) more n B es v (with_made h (made_by version v.all h (new_id v) (v.harts h).walk (OwnMove (Read fd count) 0)) (record v { files = put v.files s (Some (entry_moved e (length b))) }))
    (λ l. Wp (machine version) h B Q p l (onto (own h ((h, record { move = OwnMove (Read fd count) 0; told = (made_by version v.all h (new_id v) (v.harts h).walk (OwnMove (Read fd count) 0)).told }) ∷ [])) es) (with_made h (made_by version v.all h (new_id v) (v.harts h).walk (OwnMove (Read fd count) 0)) (record v { files = put v.files s (Some (entry_moved e (length b))) })))
part_good version {A} h more n B Q es v O fd count s e b p ov free lt inv walks none hit ours whole b_is goes bd pos then_ =
    moves_good version h more n B Q es v (record v { files = put v.files s (Some (entry_moved e (length b))) }) (OwnMove (Read fd count) 0) tt p (made_by version v.all h (new_id v) (v.harts h).walk (OwnMove (Read fd count) 0)) (record { all = u.all; walk = None; found = None; opened = None; entered = None; left = None; told = (read_step fd count b).told })
    made_is
    m.fair
    (own_takes version h v u (Read fd count) (Bytes b) refl refl (ap (λ (o : Own). o.mine.walk) ov ∙ walks) (λ z. refl) (λ g z. absurd cc) (
      goes (settle v.all) (file_settled v.all h fd ∙ hit.file) settled (resolve version (settle v.all) h []) (parent version (settle v.all) h []),
      sym (read_answer version (settle v.all) h fd count (new_id v) b (resolve version (settle v.all) h []) (parent version (settle v.all) h []) part_settled),
      record { node = λ z. absurd cc; file = λ z. absurd cc },
      settle_less v.all v.all.fds (put v.all.files (v.ids s) (Some f)) (moved_names v.all (v.ids s) e.file f opened refl) ∙ ap (λ (z : Tree). settle z) (sym (read_effect_settled version v.all h fd count 0 (v.ids s) (new_id v) e.file b (resolve version (settle v.all) h []) (parent version (settle v.all) h []) hit.tree opened part_settled)),
      read_place (settle v.all) h fd count lt,
    )
    (ap (λ (z : Stage). z.walk) (stage_walk h None None v)))
    bd pos
    (λ l r. (then_ l u r m.owned).wp)
  where
    f : OpenFile
    f = offset_on e.file (length b)

    u : World
    u = moved_world h s (length b) e v

    m : Moving h s (length b) e v O
    m = moving h fd s (length b) e v O ov free lt inv none hit ours

    opened : v.all.files (v.ids s) ≡ Some e.file
    opened = inv.tied.files s e hit.at

    settled : (settle v.all).nodes e.file.number ≡ v.all.nodes e.file.number
    settled = node_settled h fd v e s inv lt hit

    part_now : part version v.all (file_at v.all h fd) count ≡ b
    part_now = part_is version v.all h fd count e.file (v.disk e.file.number) hit.file (sym whole) ∙ sym b_is

    part_settled : part version (settle v.all) (file_at (settle v.all) h fd) count ≡ b
    part_settled = part_is version (settle v.all) h fd count e.file (v.disk e.file.number) (file_settled v.all h fd ∙ hit.file) (settled ∙ sym whole) ∙ sym b_is

    made_is : made_by version v.all h (new_id v) (v.harts h).walk (OwnMove (Read fd count) 0) ≡ record { all = u.all; walk = None; found = None; opened = None; entered = None; left = None; told = (read_step fd count b).told }
    made_is = rw (goes v.all hit.file refl (resolve version v.all h []) (parent version v.all h []))
        (λ r. record { all = read_effect version v.all h fd count 0 (v.ids s) (new_id v) e.file b (resolve version v.all h []) (parent version v.all h []) hit.tree opened part_now r; walk = None; found = None; opened = None; entered = None; left = None; told = Some (record { act = record { step = Read fd count; answer = read_answer version v.all h fd count (new_id v) b (resolve version v.all h []) (parent version v.all h []) part_now r }; new = 0 }) })

-- What the table says of a descriptor is what the tree does.

type_driver : (x : Option Node) (s : InodeType) → type_of x ≡ Some s → no_driver (node_or x).kind ≡ no_driver_for s
type_driver None s e = absurd cc
type_driver (Some v) s e = by_kind v.kind s cc
  where
    by_kind : (k : NodeKind) (s : InodeType) → type_of_kind k ≡ s → no_driver k ≡ no_driver_for s
    by_kind (Directory slots) s e = ap (λ (z : InodeType). no_driver_for z) e
    by_kind (File bytes) s e = ap (λ (z : InodeType). no_driver_for z) e
    by_kind (Device major minor size) s e = ap (λ (z : InodeType). no_driver_for z) e

read_as_table : (version : Version) (t : Tree) (h fd n : ℕ) (e : Entry) (res : Option ℕ) (par : Option (ℕ × Name)) → file_at t h fd ≡ Some e.file → type_of (t.nodes e.file.number) ≡ Some e.inode_type → refusal_with version t h (Read fd n) res par ≡ read_refused (Some e)
read_as_table version t h fd n e res par file inode_type = go e.file.readable refl
  where
    go : (b : Bool) → e.file.readable ≡ b → refusal_with version t h (Read fd n) res par ≡ mode_refusal e.file.readable e.inode_type
    go false q = read_mode version t h fd n e.file res par file q ∙ (λ i. mode_refusal (sym q i) e.inode_type)
    go true q = read_kind version t h fd n e.file (no_driver_for e.inode_type) res par file q (type_driver (t.nodes e.file.number) e.inode_type inode_type) ∙ (λ i. mode_refusal (sym q i) e.inode_type)

-- A descriptor of the hart's own, with its inode.
pub record IsOpenAt (O : Own) (fd n : ℕ) : Type 0 where
  pub slot : ℕ
  pub below : fd < descriptor_count
  pub is : O.desk.fds fd ≡ Some slot
  pub key : Key
  pub at : O.row.keys fd ≡ Some key
  pub number : key.number ≡ n

pub slot_is : (h fd n : ℕ) (v : World) (O : Own) (k : IsOpenAt O fd n) → own_of h v ≡ O → slot_at v h fd ≡ Some k.slot
slot_is h fd n v O k ov = rw (below_is fd descriptor_count k.below) (ap (λ (o : Own). o.desk.fds fd) ov ∙ k.is)

pub entry_here : (h fd n : ℕ) (v : World) (O : Own) (k : IsOpenAt O fd n) → Inv v → own_of h v ≡ O → h < hart_count → O.desk.opening ≡ None → (e : Entry) × Behind h fd k.slot e v × (key_is e.file ≡ k.key)
entry_here h fd n v O k inv ov lt idle =
    let b = behind h fd k.slot v inv lt (ap (λ (o : Own). o.desk.opening) ov ∙ idle) (slot_is h fd n v O k ov) in
    let here = key_from v.all h fd (v.ids k.slot) b.0.file lt k.below b.1.tree (inv.tied.files k.slot b.0 b.1.at) in
    let same : Some (key_is b.0.file) ≡ Some k.key = sym here ∙ ap (λ (o : Own). o.row.keys fd) ov ∙ k.at in
    (b.0, b.1, cc)

abbrev pub open_from : (h fd s : ℕ) (e : Entry) (v : World) (O : Own) → Inv v → own_of h v ≡ O → h < hart_count → Behind h fd s e v → IsOpenAt O fd e.file.number
open_from h fd s e v O inv ov lt hit = record {
  slot = s;
  below = hit.below;
  is = ap (λ (o : Own). o.desk.fds fd) (sym ov) ∙ hit.is;
  key = key_is e.file;
  at = ap (λ (o : Own). o.row.keys fd) (sym ov) ∙ key_from v.all h fd (v.ids s) e.file lt hit.below hit.tree (inv.tied.files s e hit.at);
  number = refl;
}

-- The file that it names is at this offset.
pub record StandsBy (w : World) (slot n offset : ℕ) : Type 0 where
  pub entry : Entry
  pub at : w.files slot ≡ Some entry
  pub number : entry.file.number ≡ n
  pub offset_is : entry.file.offset ≡ offset

-- so it does while the hart keeps the inode
pub stands_still : (h fd n offset : ℕ) (x : Held) (w v : World) (O : Own) (k : IsOpenAt O fd n) → own_of h w ≡ O → own_of h v ≡ O → h < hart_count → O.inodes n ≡ Some x → KeepsFiles h w v → StandsBy w k.slot n offset → StandsAt h fd offset v
stands_still h fd n offset x w v O k ow ov lt isn keeps s =
    let y = keeps fd k.slot s.entry lt k.below (ap (λ (o : Own). o.desk.fds fd) ow ∙ k.is) s.at in
    (λ r. offset_of (entry_at v.files (slot_is h fd n v O k ov r))) ∙ ap offset_of y.1 ∙ ap (λ (f : OpenFile). f.offset) (y.3 (ap w.keeper s.number ∙ (has_inode h n w O x ow isn).0)) ∙ s.offset_is

-- That is open for reading, if its inode has this node.
pub record IsReadable (O : Own) (fd n : ℕ) (x : Option Node) : Type 0 where
  pub opened : IsOpenAt O fd n
  pub readable : opened.key.readable ≡ true
  pub read : (s : InodeType) → type_of x ≡ Some s → no_driver_for s ≡ None

some_node : (x : Option Node) (s : InodeType) → type_of x ≡ Some s → (y : Node) × (x ≡ Some y)
some_node None s e = absurd cc
some_node (Some y) s e = (y, refl)

pub reads_from : (r : Bool) (s : InodeType) → mode_refusal r s ≡ None → (r ≡ true) × (no_driver_for s ≡ None)
reads_from true s e = (refl, e)
reads_from false s e = absurd cc

-- The lock of what a descriptor names is taken to read it; or the read is refused.
pub s-lock-file : (version : Version) {A : Type 0} {h : ℕ} (fd count : ℕ) {k : Lockup → P (machine version) A} {B : List Step → Type 0} {Q : A → List Step → World → Type 0} {n : ℕ} {es : List Step} {w : World} {O : Own}
    → own_of h w ≡ O → O.desk.lender ≡ None → h < hart_count → 3 < n → O.mine.walk ≡ None → O.mine.pending ≡ None → O.desk.opening ≡ None → ((j : ℕ) → O.inodes j ≡ None)
    → ((c : Cause) → B (fails (Read fd count) c ∷ es))
    → ((l : ℕ) (c : Cause) (u : World) → l + 4 ≡ n → own_of h u ≡ record O { mine = record { refs = O.mine.refs; walk = None; pending = None } } → Safe (machine version) h B Q (k (NotLocked c)) l (fails (Read fd count) c ∷ es) u)
    → ((l i offset : ℕ) (x : Option Node) (u : World) → l + 4 ≡ n → (key : IsReadable O fd i x) → StandsBy u key.opened.slot i offset → own_of h u ≡ record O { inodes = put O.inodes i (Some (locked_held x)) } → Safe (machine version) h B Q (k (LocksIt i offset)) l es u)
    → Safe (machine version) h B Q (Do (LockFile fd) (refused_read fd count) k) n es w
s-lock-file version {A} {h} fd count {k} {B} {Q} {n} {es} {w} {O} owns free lt pos walks none idle empty bf bad then_ = s-owned version owns free pos (λ v inv ov. (locks_none h v O inv ov (λ i x q. absurd (let a = empty i in cc (a, q))), (λ _ _. at v inv ov (slot_at v h fd) refl)))
  where
    Goal : World → ExecResult Lockup World → Type 0
    Goal v z = Good (machine version) Lockup h (λ a. places version h (LockFile fd) a (refused_read fd count a) v) 3 n B es v (EntryOut h v (entry_of v h fd)) (with_mark version h (refused_read fd count) z) (λ l a u. Wp (machine version) h B Q (k a) l (onto (own h (places version h (LockFile fd) a (refused_read fd count a) v)) es) u)

    opening_none : (v : World) → own_of h v ≡ O → (v.desks h).opening ≡ None
    opening_none v ov = ap (λ (o : Own). o.desk.opening) ov ∙ idle

    had : (v : World) → Inv v → own_of h v ≡ O → (s : ℕ) (e : Entry) → slot_at v h fd ≡ Some s → Behind h fd s e v → read_refused (Some e) ≡ None → (r : Option ℕ) → v.lock e.file.number ≡ r
        → Goal v (lock_if h e.file.number (LocksIt e.file.number e.file.offset) v (locked h e.file.number v) r)
    had v inv ov s e q hit goes (Some g) r = subst (λ (z : Option Entry). EntryOut h v z) (sym (entry_is h fd s e v q hit)) (is_out h e.file.number g v O inv ov (empty e.file.number) r)
    had v inv ov s e q hit goes None r =
        let a = locking version h e.file.number v O ov free lt inv (empty e.file.number) (inl (behind_opens h fd s e v hit)) r in
        let m = reads_from e.file.readable e.inode_type goes in
        quiet version a.fair refl pos (λ l p. (then_ l e.file.number e.file.offset (v.all.nodes e.file.number) (locked h e.file.number v) p
        (record {
          opened = open_from h fd s e v O inv ov lt hit;
          readable = m.0;
          read = λ z is. let same : Some z ≡ Some e.inode_type = sym is ∙ (inv.inode_types s e hit.at).inode_type in let eq : z ≡ e.inode_type = cc in ap no_driver_for eq ∙ m.1;
        })
        (record { entry = e; at = hit.at; number = refl; offset_is = refl }) a.owned).wp)

    by_cause : (v : World) → Inv v → own_of h v ≡ O → (s : ℕ) (e : Entry) → slot_at v h fd ≡ Some s → Behind h fd s e v → (o : Option Cause) → read_refused (Some e) ≡ o → Goal v (lock_at h v (Some e) o)
    by_cause v inv ov s e q hit None goes = had v inv ov s e q hit goes (v.lock e.file.number) refl
    by_cause v inv ov s e q hit (Some c) stops =
        refused_good version h 3 n B Q es v O (Read fd count) c (k (NotLocked c)) ov free lt inv walks none
        (read_refused_at version h fd count c v lt
        (λ res par. read_as_table version v.all h fd count e res par hit.file (inv.inode_types s e hit.at).inode_type ∙ stops)
        (λ res par. read_as_table version (settle v.all) h fd count e res par (file_settled v.all h fd ∙ hit.file) (ap (λ (z : Option Node). type_of z) (node_settled h fd v e s inv lt hit) ∙ (inv.inode_types s e hit.at).inode_type) ∙ stops))
        (bf c) pos (λ l u p own2. bad l c u p own2)

    at : (v : World) → Inv v → own_of h v ≡ O → (o : Option ℕ) → slot_at v h fd ≡ o → Goal v (lock_at h v (entry_at v.files o) (read_refused (entry_at v.files o)))
    at v inv ov None q = refused_good version h 3 n B Q es v O (Read fd count) BadDescriptor (k (NotLocked BadDescriptor)) ov free lt inv walks none (refused_none version h fd count v lt (behind_none h fd v inv lt (opening_none v ov) q)) (bf BadDescriptor) pos (λ l u p own2. bad l BadDescriptor u p own2)
    at v inv ov (Some s) q =
        let b = behind h fd s v inv lt (opening_none v ov) q in
        subst (λ (z : Option Entry). Goal v (lock_at h v z (read_refused z))) (sym b.1.at) (by_cause v inv ov s b.0 q b.1 (read_refused (Some b.0)) refl)

-- The part is read, the offset moves, and the lock is given up.
pub s-read-file : (version : Version) {A : Type 0} {h : ℕ} (fd i offset count : ℕ) (x : Option Node) {k : List ℕ → P (machine version) A} {B : List Step → Type 0} {Q : A → List Step → World → Type 0} {n : ℕ} {es : List Step} {w : World} {O : Own}
    → own_of h w ≡ O → O.desk.lender ≡ None → h < hart_count → search_cost < n → count ≤ asked_limit → O.mine.walk ≡ None → O.mine.pending ≡ None → O.desk.opening ≡ None → O.inodes i ≡ Some (locked_held x) → (key : IsReadable O fd i x) → StandsBy w key.opened.slot i offset
    → ((b : List ℕ) → B (read_step fd count b ∷ es))
    → ((l : ℕ) (b : List ℕ) (u : World) → l + 1609 ≡ n → own_of h u ≡ record O { inodes = put O.inodes i None; mine = record { refs = O.mine.refs; walk = None; pending = None } } → Safe (machine version) h B Q (k b) l (read_step fd count b ∷ es) u)
    → Safe (machine version) h B Q (Do (ReadFile fd i offset count) (λ b. own_step (Read fd count)) k) n es w
s-read-file version {A} {h} fd i offset count x {k} {B} {Q} {n} {es} {w} {O} owns free lt pos asked walks none idle isi key stands bd then_ = s-owned-from version owns free pos (λ v inv ov keeps.
    let z = entry_here h fd i v O key.opened inv ov lt idle in
    let e : Entry = z.0 in
    let number : e.file.number ≡ i = ap (λ (q : Key). q.number) z.2 ∙ key.opened.number in
    let readable : e.file.readable ≡ true = ap (λ (q : Key). q.readable) z.2 ∙ key.readable in
    let inode_type : type_of (v.all.nodes e.file.number) ≡ Some e.inode_type = (inv.inode_types key.opened.slot e z.1.at).inode_type in
    let typed : type_of x ≡ Some e.inode_type = ap (λ (o : Option Node). type_of o) (sym (ap v.all.nodes number ∙ has_node h i v O (locked_held x) ov isi)) ∙ inode_type in
    let y = some_node x e.inode_type typed in
    let plain : no_driver_for e.inode_type ≡ None = key.read e.inode_type typed in
    let goes : read_refused (Some e) ≡ None = (λ r. mode_refusal (readable r) e.inode_type) ∙ plain in
    ((locks_it h i v O (locked_held x) ov isi refl, record { entry = e; at = entry_is h fd key.opened.slot e v (slot_is h fd i v O key.opened ov) z.1; number = number; readable = goes }, stands_still h fd i offset (locked_held x) w v O key.opened owns ov lt isi keeps stands, record { node = y.0; is = has_disk h i v O (locked_held x) ov isi ∙ y.1; fits = type_driver (Some y.0) e.inode_type (ap (λ (o : Option Node). type_of o) (sym y.1) ∙ typed) ∙ plain }, asked), (λ _ _. at v inv ov e z.1 number goes)))
  where
    Goal : World → ExecResult (List ℕ) World → Type 0
    Goal v z = Good (machine version) (List ℕ) h (λ a. places version h (ReadFile fd i offset count) a (own_step (Read fd count)) v) search_cost n B es v ⊥ (with_mark version h (λ (_ : List ℕ). own_step (Read fd count)) z) (λ l a u. Wp (machine version) h B Q (k a) l (onto (own h (places version h (ReadFile fd i offset count) a (own_step (Read fd count)) v)) es) u)

    O1 : Own
    O1 = record O { inodes = put O.inodes i None }

    told : (v : World) → Inv v → own_of h v ≡ O → (e : Entry) → Behind h fd key.opened.slot e v → e.file.number ≡ i → read_refused (Some e) ≡ None
        → Goal v (Ran (part_of version (v.disk i) e.file.offset count) (with_offset (after_unlock i v) (Some key.opened.slot) e (length (part_of version (v.disk i) e.file.offset count))))
    told v inv ov e hit number goes =
        let g = gives version h i (locked_held x) O v free lt inv ov isi refl refl none in
        let here : v.disk i ≡ v.all.nodes i = has_disk h i v O (locked_held x) ov isi ∙ sym (has_node h i v O (locked_held x) ov isi) in
        fine_after version g.fair refl
        (part_good version h search_cost n B Q es (after_unlock i v) O1 fd count key.opened.slot e (part_of version (v.disk i) e.file.offset count) (k (part_of version (v.disk i) e.file.offset count))
        g.owned free lt g.fair.inv walks none
        (record { below = hit.below; is = hit.is; at = hit.at; tree = hit.tree; file = hit.file }) (ours_none h (put v.keeper i None e.file.number) (ap (put v.keeper i None) number ∙ put_same v.keeper i None)) (ap v.disk number ∙ here ∙ sym (ap v.all.nodes number)) (λ r. part_of version (v.disk (sym number r)) e.file.offset count)
        (λ t file nodes res par. read_as_table version t h fd count e res par file (ap (λ (z : Option Node). type_of z) nodes ∙ (inv.inode_types key.opened.slot e hit.at).inode_type) ∙ goes)
        (bd (part_of version (v.disk i) e.file.offset count)) pos
        (λ l u p own2. then_ l (part_of version (v.disk i) e.file.offset count) u p own2))

    at : (v : World) → Inv v → own_of h v ≡ O → (e : Entry) → Behind h fd key.opened.slot e v → e.file.number ≡ i → read_refused (Some e) ≡ None → Goal v (read_at version v i count (slot_at v h fd) (entry_of v h fd))
    at v inv ov e hit number goes =
        let shared : v.alone i ≡ false = ap (λ (y : Held). y.alone) (has_inode h i v O (locked_held x) ov isi).1 in
        subst (λ (o : Option ℕ). Goal v (read_at version v i count o (entry_at v.files o))) (sym (slot_is h fd i v O key.opened ov))
        (subst (λ (o : Option Entry). Goal v (read_at version v i count (Some key.opened.slot) o)) (sym hit.at)
        (subst (λ (b : Bool). Goal v (Ran (part_of version (v.disk i) e.file.offset count) (with_offset (unlocked i v b) (Some key.opened.slot) e (length (part_of version (v.disk i) e.file.offset count))))) (sym shared)
        (told v inv ov e hit number goes)))
