-- Close: a descriptor goes, and with the last one its open file, whose reference is the hart's then.
use Rattle.image_versions.specs.declared.version.Version.{Version}
use Rattle.inode_machine.proofs.Vocabulary.{◌≡◌, ◌≢◌, ◌⊎◌, inl, inr, ℕ, ◌+◌, ◌-◌, ◌<◌, ◌≤◌, Bool, true, false, ◌==◌, ◌&&◌, nat_lt, List, [], ◌∷◌, Option, Some, None, refl, sym, ◌∙◌, ap, subst, arith, if◌then◌else◌, Do, P, own, onto, Good, Safe, Wp, BadDescriptor, OpenFile, Close, Done, hart_count, descriptor_count, Name, Tree, put, fd_names, file_names, settle, resolve, parent, file_at, refusal_with, refusal_by, effect_with, effect_by, answer_with, answer_by, place_of, IsInPlace, has_fd, closed, Row, key_at, key_of, row_of, with_open, NamesLess, settle_less, file_settled, sum_below, one_if, eq_self, eq_is, eq_isnt, either, same_or, put_same, put_other, sum_same, sum_changed, one_no, one_yes, well_closed, Walk, Stage, Step, PlaysStep, OwnMove, is_at, file_count, with_refs, with_walk, slot_at, entry_at, close_at, close_if, close_less, close_last, Mine, Entry, Desk, World, stage_of, places, with_mark, made_by, new_id, Shut, Own, file_tables_of, number_is, users, own_names, own_of, IsAlone, Inv, machine, nothing, reference_limit, HasType, own_step}
use Rattle.inode_machine.proofs.Basics.{bond_of, put_elim, stands_on, Fair, fair, has_none, one_refs, s-owned, my_refs, each_refs, here_refs, walks_refs, total_same, total_changed, opens_slots, locks_none, below_is, refs_walk, stage_walk, moves_good, with_fd, users_put, users_fd, Changes, changes, changed_file_tables, tied_closed, kept_open, sells_did, own_takes, names_less, Behind, behind, behind_none, Refused, fails, refused_good, renewed, renewed_slots, renewed_at, renewed_same, SameRow, SameDesk, less_is, not_one, renewed_types, same_desk}

-- The tree without the descriptor.

abbrev pub fewer : Tree → ℕ → ℕ → ℕ → ℕ → Option ℕ
fewer t h fd = put t.fds h (put (t.fds h) fd None)

abbrev pub left_open : Tree → ℕ → ℕ → ℕ → Option OpenFile
left_open t h fd = (closed (record t { fds = fewer t h fd })).files

abbrev pub without_fd : Tree → ℕ → ℕ → Tree
without_fd t h fd = with_open t (fewer t h fd) (left_open t h fd)

close_goes : (version : Version) (t : Tree) (h fd : ℕ) (f : OpenFile) (res : Option ℕ) (par : Option (ℕ × Name)) → file_at t h fd ≡ Some f → refusal_with version t h (Close fd) res par ≡ None
unfolding refusal_by
close_goes version t h fd f res par e = rw e refl

close_refused : (version : Version) (t : Tree) (h fd : ℕ) (res : Option ℕ) (par : Option (ℕ × Name)) → file_at t h fd ≡ None → refusal_with version t h (Close fd) res par ≡ Some BadDescriptor
unfolding refusal_by
close_refused version t h fd res par e = rw e refl

close_effect : (version : Version) (t : Tree) (h fd new id : ℕ) (res : Option ℕ) (par : Option (ℕ × Name)) → effect_with version t h (Close fd) res par new id ≡ without_fd t h fd
unfolding effect_by
close_effect version t h fd new id res par = refl

close_effect_settled : (version : Version) (t : Tree) (h fd new id : ℕ) (res : Option ℕ) (par : Option (ℕ × Name)) → effect_with version (settle t) h (Close fd) res par new id ≡ with_open (settle t) (fewer t h fd) (left_open t h fd)
unfolding effect_by settle has_fd
close_effect_settled version t h fd new id res par = refl

close_answer : (version : Version) (t : Tree) (h fd id : ℕ) (res : Option ℕ) (par : Option (ℕ × Name)) → answer_with version t h (Close fd) res par id ≡ Done
unfolding answer_by
close_answer version t h fd id res par = refl

close_place : (t : Tree) (h fd : ℕ) → h < hart_count → IsInPlace t h (Close fd)
unfolding place_of
close_place t h fd lt = rw (below_is h hart_count lt) refl

pub close_is_refused : (version : Version) (h fd : ℕ) (v : World) → h < hart_count → file_at v.all h fd ≡ None → Refused version h (Close fd) BadDescriptor v
close_is_refused version h fd v lt e = record {
  follows = refl;
  path = refl;
  now = λ res par. close_refused version v.all h fd res par e;
  then_ = λ res par. close_refused version (settle v.all) h fd res par (file_settled v.all h fd ∙ e);
  found = λ res. refl;
  stays = refl;
  place = close_place (settle v.all) h fd lt;
  makes = λ q. refl;
  keeps = refl;
  inherits = λ g q. absurd cc;
}

pub closed_or : (u : Tree) (id : ℕ) → ((closed u).files id ≡ u.files id) ⊎ ((closed u).files id ≡ None)
closed_or u id = go (has_fd u id)
  where
    go : (b : Bool) → ((if b then u.files id else None) ≡ u.files id) ⊎ ((if b then u.files id else None) ≡ None)
    go true = inl refl
    go false = inr refl

closed_names : (u : Tree) (o : Option ℕ) (n : ℕ) → fd_names u o n ≡ false → fd_names (closed u) o n ≡ false
closed_names u None n e = refl
closed_names u (Some id) n e = elim (closed_or u id) [ inl q ↦ ap (λ (z : Option OpenFile). file_names z n) q ∙ e | inr q ↦ ap (λ (z : Option OpenFile). file_names z n) q ]

pub fewer_same : (t : Tree) (h fd g i : ℕ) → ((g ≢ h) ⊎ (i ≢ fd)) → fewer t h fd g i ≡ t.fds g i
fewer_same t h fd g i (inl ne) = ap (λ (z : ℕ → Option ℕ). z i) (put_other t.fds h (put (t.fds h) fd None) g ne)
fewer_same t h fd g i (inr ne) = put_elim t.fds h (put (t.fds h) fd None) g (λ z. z i ≡ t.fds g i) (λ e. put_other (t.fds h) fd None i ne ∙ ap (λ (z : ℕ). t.fds z i) (sym e)) (λ q. refl)

pub fewer_gone : (t : Tree) (h fd : ℕ) → fewer t h fd h fd ≡ None
fewer_gone t h fd = ap (λ (z : ℕ → Option ℕ). z fd) (put_same t.fds h (put (t.fds h) fd None)) ∙ put_same (t.fds h) fd None

fewer_names : (t : Tree) (h fd : ℕ) → NamesLess t (fewer t h fd) (left_open t h fd)
fewer_names t h fd n g i lg li out = closed_names (record t { fds = fewer t h fd }) (fewer t h fd g i) n (at (same_or g h) (same_or i fd))
  where
    same : ((g ≢ h) ⊎ (i ≢ fd)) → fd_names t (fewer t h fd g i) n ≡ false
    same ne = ap (λ (z : Option ℕ). fd_names t z n) (fewer_same t h fd g i ne) ∙ out g i lg li

    at : ((g ≡ h) ⊎ (g ≢ h)) → ((i ≡ fd) ⊎ (i ≢ fd)) → fd_names t (fewer t h fd g i) n ≡ false
    at (inr ne) b = same (inl ne)
    at (inl e) (inr ne) = same (inr ne)
    at (inl e) (inl r) = ap (λ (z : Option ℕ). fd_names t z n) ((λ j. fewer t h fd (e j) (r j)) ∙ fewer_gone t h fd)

-- another hart's row stays
pub rows_stay : (t : Tree) (h fd g : ℕ) → g ≢ h → row_of (without_fd t h fd) g ≡ row_of t g
rows_stay t h fd g ne = λ r. record { cwd = t.cwd g; hold = t.holds g; fds = put_other t.fds h (put (t.fds h) fd None) g ne r; keys = λ i. each i (nat_lt g hart_count) (nat_lt i descriptor_count) refl refl r }
  where
    at : (i : ℕ) → g < hart_count → i < descriptor_count → (o : Option ℕ) → t.fds g i ≡ o → key_at (left_open t h fd) o ≡ key_at t.files o
    at i lg li None q = refl
    at i lg li (Some id) q = ap (λ (z : Option OpenFile). key_of z) (kept_open (record t { fds = fewer t h fd }) g i id lg li (fewer_same t h fd g i (inl ne) ∙ q))

    each : (i : ℕ) (a b : Bool) → nat_lt g hart_count ≡ a → nat_lt i descriptor_count ≡ b → (if a && b then key_at (left_open t h fd) (fewer t h fd g i) else None) ≡ (if a && b then key_at t.files (t.fds g i) else None)
    each i true true p q = ap (λ (z : Option ℕ). key_at (left_open t h fd) z) (fewer_same t h fd g i (inl ne)) ∙ at i (less_is g hart_count p) (less_is i descriptor_count q) (t.fds g i) refl
    each i true false p q = refl
    each i false true p q = refl
    each i false false p q = refl

-- What both ends of a close show of the table and of references.
pub record Closing (h fd : ℕ) (v : World) (F : ℕ → Option Entry) (S : ℕ → ℕ) (H : ℕ → Mine) : Type 0 where
  pub changes : Changes (file_tables_of v) h fd None None F S
  pub others : (g : ℕ) → g ≢ h → H g ≡ v.harts g
  pub refs : (j : ℕ) → (v.harts h).refs j ≤ (H h).refs j
  pub few : (j : ℕ) → (H h).refs j ≤ reference_limit
  pub counts : (j : ℕ) → v.refs j ≡ S j + sum_below hart_count (λ g. (H g).refs j)
  pub lone : (i : ℕ) (a : IsAlone v.keeper v.all.nodes v.refs v.harts i) → v.refs i ≡ (H a.hart).refs i
  pub inode_types : (k : ℕ) (x : Entry) → F k ≡ Some x → HasType v.all.nodes x
  pub types : (k : ℕ) (d x : Entry) → v.files k ≡ Some d → F k ≡ Some x → x.inode_type ≡ d.inode_type
  pub found : (H h).pending ≡ None
  pub walk : (H h).walk ≡ None
  pub walks : ◌≡◌ {A = ℕ → Option Walk} (λ g. (H g).walk) (put (λ g. (v.harts g).walk) h None)

abbrev pub shut_world : ℕ → ℕ → World → (ℕ → Option Entry) → (ℕ → ℕ) → (ℕ → Mine) → World
shut_world h fd v F S H = record v { files = F; desks = with_fd v.desks h fd None; slots = S; all = without_fd v.all h fd; harts = H }

abbrev pub shut_step : ℕ → Step
shut_step fd = record { move = OwnMove (Close fd) 0; told = Some (record { act = record { step = Close fd; answer = Done }; new = 0 }) }

pub record Shuts (version : Version) (h fd : ℕ) (v : World) (O : Own) (F : ℕ → Option Entry) (S : ℕ → ℕ) (H : ℕ → Mine) : Type 0 where
  pub fair : Fair h v (shut_world h fd v F S H)
  pub takes : PlaysStep version (stage_of v) h (shut_step fd) (stage_of (shut_world h fd v F S H))
  pub row : SameRow (row_of (without_fd v.all h fd) h) O.row
  pub desk : SameDesk (with_fd v.desks h fd None h) O.desk

pub shuts : (version : Version) (h fd s : ℕ) (e : Entry) (v : World) (O : Own) (F : ℕ → Option Entry) (S : ℕ → ℕ) (H : ℕ → Mine) → Inv v → own_of h v ≡ O → O.desk.lender ≡ None → h < hart_count → (v.harts h).walk ≡ None → (v.harts h).pending ≡ None → (v.desks h).opening ≡ None → ((j : ℕ) → O.inodes j ≡ None) → O.desk.noted ≡ None
    → Behind h fd s e v → Closing h fd v F S H → Shuts version h fd v O F S H
shuts version h fd s e v O F S H inv ov free lt walk still idle empty unnoted hit c = record {
  fair = fair inv (sells_did h v F D S T H lt inv (record {
    kin = record {
      tied = tied_closed (changed_file_tables (file_tables_of v) h fd None None F S) (record (v.all) { fds = fewer v.all h fd }) (changes (file_tables_of v) h fd None None F S inv.tied c.changes) refl refl;
      desks = λ g ne. put_other v.desks h new g ne;
      numbers = λ g i j d lg ne li q a.
          let x = c.changes.used j d a (users_fd D g i j lg li (ap (λ (z : Desk). z.fds i) (put_other v.desks h new g ne) ∙ q)) in
          let y = c.changes.keep j x.0 x.1 in
          (x.0, x.1, c.types j d x.0 a x.1, inl (y.2 ∙ (let r : Some y.0 ≡ Some d = sym y.1 ∙ a in let t : y.0 ≡ d = cc in ap (λ (z : Entry). z.file) t)));
      clean = λ q. q;
      bond = ap (λ (z : Desk). bond_of z) desk_is;
      stays = inl (ap (λ (z : Desk). z.directory) desk_is);
    };
    free = same.lender ∙ free;
    unlent = (ap (λ (o : Own). o.desk.lender) ov ∙ free);
    joined = ap (λ (z : Desk). z.joined) desk_is;
    holds = refl;
    inode_types = c.inode_types;
    noted = λ m q. absurd (let a = same.noted in cc (a, q, unnoted));
    directory = stands_on (v.desks h) (D h) (v.all.cwd h) v.all.nodes (ap (λ (o : Own). o.desk.lender) ov ∙ free) (ap (λ (z : Desk). z.directory) desk_is) (ap (λ (z : Desk). z.left) desk_is) (inv.directory h lt);
    well = well_closed v.all h fd inv.well;
    nodes = refl;
    size = refl;
    rows = λ g ne. rows_stay v.all h fd g ne;
    ids = λ k le. elim (closed_or (record (v.all) { fds = fewer v.all h fd }) k) [ inl q ↦ q ∙ inv.ids k le | inr q ↦ q ];
    others = c.others;
    home = ap (λ (z : Desk). z.directory) desk_is;
    few = c.few;
    refs = c.refs;
    counts = c.counts;
    pinned = λ j kept o. absurd (has_none h j v O ov (empty j) kept);
    names = λ j is. names j is;
    still = still;
    found = c.found;
    walk = c.walk;
    lone = c.lone;
  }));
  takes = own_takes version h v (shut_world h fd v F S H) (Close fd) Done refl refl walk (λ z. refl) (λ g z. absurd cc) (
    close_goes version (settle v.all) h fd e.file (resolve version (settle v.all) h []) (parent version (settle v.all) h []) (file_settled v.all h fd ∙ hit.file),
    sym (close_answer version (settle v.all) h fd (new_id v) (resolve version (settle v.all) h []) (parent version (settle v.all) h [])),
    record { node = λ z. absurd cc; file = λ z. absurd cc },
    settle_less v.all (fewer v.all h fd) (left_open v.all h fd) (fewer_names v.all h fd) ∙ ap (λ (z : Tree). settle z) (sym (close_effect_settled version v.all h fd 0 (new_id v) (resolve version (settle v.all) h []) (parent version (settle v.all) h []))),
    close_place (settle v.all) h fd lt,
  ) c.walks;
  row = record { cwd = ap (λ (o : Own). o.row.cwd) ov; hold = ap (λ (o : Own). o.row.hold) ov };
  desk = same;
}
  where
    new : Desk
    new = record (v.desks h) { fds = put (v.desks h).fds fd None }

    D : ℕ → Desk
    D = with_fd v.desks h fd None

    T : Tree
    T = without_fd v.all h fd

    desk_is : D h ≡ new
    desk_is = put_same v.desks h new

    same : SameDesk (D h) O.desk
    same = same_desk h fd None v O ov

    names : (j : ℕ) → own_names (row_of T h) (D h) j ≡ true → own_names (row_of v.all h) (v.desks h) j ≡ true
    names j is = sym (names_less (row_of T h) (row_of v.all h) (D h) (v.desks h) j refl refl (ap (λ (z : Desk). z.opening) desk_is ∙ idle) idle (ap (λ (z : Desk). z.left) desk_is)) ∙ is

-- how often slots are used without the descriptor
fewer_users : (h fd s k : ℕ) (e : Entry) (v : World) → h < hart_count → Behind h fd s e v → users (with_fd v.desks h fd None) k + one_if (s == k) ≡ users v.desks k
fewer_users h fd s k e v lt hit =
    let a = users_put v.desks h fd k None lt hit.below in
    let b : one_if (is_at ((v.desks h).fds fd) k) ≡ one_if (s == k) = ap (λ (z : Option ℕ). one_if (is_at z k)) hit.is in
    let c : one_if (is_at None k) ≡ 0 = one_no false refl in
    omega (arith, a, b, c)

fewer_here : (h fd s : ℕ) (e : Entry) (v : World) → h < hart_count → Behind h fd s e v → users (with_fd v.desks h fd None) s + 1 ≡ users v.desks s
fewer_here h fd s e v lt hit = let a = fewer_users h fd s s e v lt hit in let b : one_if (s == s) ≡ 1 = one_yes (s == s) (eq_self s) in omega (arith, a, b)

fewer_there : (h fd s k : ℕ) (e : Entry) (v : World) → h < hart_count → Behind h fd s e v → k ≢ s → users (with_fd v.desks h fd None) k ≡ users v.desks k
fewer_there h fd s k e v lt hit ne = let a = fewer_users h fd s k e v lt hit in let b = not_one s k (λ z. ne (sym z)) in omega (arith, a, b)

-- Another descriptor has the open file still.
closing_less : (h fd s : ℕ) (e : Entry) (v : World) → Inv v → h < hart_count → (v.desks h).opening ≡ None → (v.desks h).lent ≡ nothing → Behind h fd s e v → e.references ≢ 1 → Closing h fd v (put v.files s (Some (record { file = e.file; inode_type = e.inode_type; references = e.references - 1 }))) v.slots (with_walk v.harts h None None)
closing_less h fd s e v inv lt idle unlent hit many = record {
  changes = record {
    hart = lt;
    below = hit.below;
    opening = idle;
    same = refl;
    keep = renewed (file_tables_of v) s e f (with_fd v.desks h fd None) inv.tied (record { at = hit.at; same = refl; counted = (let a = fewer_here h fd s e v lt hit in let b = counted.0 in omega (arith, a, b)); more = (let b = counted.1 in omega (arith, b, many)); other = λ j ne. fewer_there h fd s j e v lt hit ne });
    used = λ j d a more. let z = renewed_at v.files s e f j d hit.at refl a in (z.0, z.1);
    has = λ j z. absurd cc;
    slots = λ j. inv.tied.slots j ∙ sym (renewed_slots v.files s e f j hit.at refl);
    lent = λ k q. absurd (let a = ap (λ (g : ℕ → Option ℕ). g fd) unlent in cc (a, q));
  };
  inode_types = λ k x q. renewed_types v s e f inv hit.at refl refl refl k x q;
  types = λ k d x p q. let z = renewed_same v.files s e f k d hit.at refl refl p in let a : Some z.0 ≡ Some x = sym z.1 ∙ q in let b : z.0 ≡ x = cc in ap (λ (y : Entry). y.inode_type) (sym b) ∙ z.2;
  others = λ g ne. put_other v.harts h new g ne;
  refs = λ j. let r = refs_walk v.harts h None None h j in omega (arith, r);
  few = λ j. let r = refs_walk v.harts h None None h j in let a = (inv.refers h lt).few j in omega (arith, r, a);
  counts = λ j. inv.counts j ∙ ap (λ (z : ℕ). v.slots j + z) (sym (sum_same hart_count (λ g. (v.harts g).refs j) (λ g. (with_walk v.harts h None None g).refs j) (λ g l. refs_walk v.harts h None None g j)));
  lone = λ i a. a.counts ∙ sym (refs_walk v.harts h None None a.hart i);
  found = ap (λ (m : Mine). m.pending) (put_same v.harts h new);
  walk = ap (λ (m : Mine). m.walk) (put_same v.harts h new);
  walks = ap (λ (m : Stage). m.walk) (stage_walk h None None v);
}
  where
    new : Mine
    new = record { refs = (v.harts h).refs; walk = None; pending = None }

    f : Entry
    f = record { file = e.file; inode_type = e.inode_type; references = e.references - 1 }

    counted : (e.references ≡ users v.desks s) × (0 < e.references)
    counted = inv.tied.counted s e hit.at

abbrev pub last_refs : ℕ → World → ℕ → ℕ → Mine
last_refs h v n = with_walk (with_refs v.harts h n ((v.harts h).refs n + 1)) h None None

-- It was the last one.
closing_last : (h fd s : ℕ) (e : Entry) (v : World) → Inv v → h < hart_count → (v.desks h).opening ≡ None → (v.desks h).lent ≡ nothing → Behind h fd s e v → e.references ≡ 1 → (v.harts h).refs e.file.number < reference_limit → Closing h fd v (put v.files s None) (put v.slots e.file.number (v.slots e.file.number - 1)) (last_refs h v e.file.number)
closing_last h fd s e v inv lt idle unlent hit one room = record {
  changes = record {
    hart = lt;
    below = hit.below;
    opening = idle;
    same = refl;
    keep = λ j x q. elim (same_or j s) [
      | inl t ↦ absurd (let a : put v.files s None j ≡ None = ap (put v.files s None) t ∙ put_same v.files s None in cc (a, q))
      | inr ne ↦ let a : v.files j ≡ Some x = sym (put_other v.files s None j ne) ∙ q in let c = inv.tied.counted j x a in (x, a, refl, c.0 ∙ sym (fewer_there h fd s j e v lt hit ne), c.1)
    ];
    used = λ j d a more. elim (same_or j s) [
      | inl t ↦ absurd (let b : 0 < users (with_fd v.desks h fd None) s = subst (λ (z : ℕ). 0 < users (with_fd v.desks h fd None) z) t more in let c = fewer_here h fd s e v lt hit in let r = counted.0 in omega (arith, b, c, r, one))
      | inr ne ↦ (d, put_other v.files s None j ne ∙ a)
    ];
    has = λ j z. absurd cc;
    slots = λ j. slots j;
    lent = λ k q. absurd (let a = ap (λ (g : ℕ → Option ℕ). g fd) unlent in cc (a, q));
  };
  inode_types = λ k x q. put_elim v.files s None k (λ z. z ≡ Some x → HasType v.all.nodes x) (λ e p. absurd cc) (λ ne p. inv.inode_types k x p) q;
  types = λ k d x p q. put_elim v.files s None k (λ z. z ≡ Some x → x.inode_type ≡ d.inode_type) (λ e r. absurd cc) (λ ne r. let a : Some x ≡ Some d = sym r ∙ p in let b : x ≡ d = cc in ap (λ (y : Entry). y.inode_type) b) q;
  others = λ g ne. put_other W h new g ne ∙ put_other v.harts h mid g ne;
  refs = λ j. let r = refs_walk W h None None h j in elim (same_or j n) [
    | inl q ↦ (let a = subst (λ (z : ℕ). (W h).refs z ≡ (v.harts h).refs z + 1) (sym q) (here_refs v.harts h n ((v.harts h).refs n + 1)) in omega (arith, r, a))
    | inr ne ↦ (let a = each_refs v.harts h n ((v.harts h).refs n + 1) h j (inr ne) in omega (arith, r, a))
  ];
  few = λ j. let r = refs_walk W h None None h j in elim (same_or j n) [
    | inl q ↦ (let a = subst (λ (z : ℕ). (W h).refs z ≡ (v.harts h).refs n + 1) (sym q) (here_refs v.harts h n ((v.harts h).refs n + 1)) in omega (arith, r, a, room))
    | inr ne ↦ (let a = each_refs v.harts h n ((v.harts h).refs n + 1) h j (inr ne) in let b = (inv.refers h lt).few j in omega (arith, r, a, b))
  ];
  counts = λ j. let t = sum_same hart_count (λ g. (W g).refs j) (λ g. (last_refs h v n g).refs j) (λ g l. refs_walk W h None None g j) in elim (same_or j n) [
    | inl q ↦ subst (λ (z : ℕ). v.refs z ≡ put v.slots n (v.slots n - 1) z + sum_below hart_count (λ g. (last_refs h v n g).refs z)) (sym q)
        (let t2 = sum_same hart_count (λ g. (W g).refs n) (λ g. (last_refs h v n g).refs n) (λ g l. refs_walk W h None None g n) in let a = total_changed v.harts h n ((v.harts h).refs n + 1) lt in let b = inv.counts n in let c = put_same v.slots n (v.slots n - 1) in let p = open_now in omega (arith, t2, a, b, c, p))
    | inr ne ↦ (let a = total_same v.harts h n ((v.harts h).refs n + 1) j ne in let b = inv.counts j in let c = put_other v.slots n (v.slots n - 1) j ne in omega (arith, t, a, b, c))
  ];
  lone = λ i a. elim (same_or i n) [
    | inl q ↦ absurd (let o = one_refs v a.hart i inv (inv.kept i a.hart a.kept).0 in let c = a.counts in let p = subst (λ (z : ℕ). 0 < v.slots z) (sym q) open_now in omega (arith, o, c, p))
    | inr ne ↦ a.counts ∙ sym (refs_walk W h None None a.hart i ∙ each_refs v.harts h n ((v.harts h).refs n + 1) a.hart i (inr ne))
  ];
  found = ap (λ (m : Mine). m.pending) (put_same W h new);
  walk = ap (λ (m : Mine). m.walk) (put_same W h new);
  walks = ap (λ (m : Stage). m.walk) (stage_walk h None None (record v { harts = W })) ∙ (λ r. put (walks_refs v.harts h n ((v.harts h).refs n + 1) r) h None);
}
  where
    n : ℕ
    n = e.file.number

    W : ℕ → Mine
    W = with_refs v.harts h n ((v.harts h).refs n + 1)

    mid : Mine
    mid = record { refs = put (v.harts h).refs n ((v.harts h).refs n + 1); walk = (v.harts h).walk; pending = (v.harts h).pending }

    new : Mine
    new = record { refs = (W h).refs; walk = None; pending = None }

    counted : (e.references ≡ users v.desks s) × (0 < e.references)
    counted = inv.tied.counted s e hit.at

    open_now : 0 < v.slots n
    open_now = opens_slots v h n inv (record { fd = fd; below = hit.below; slot = s; is = hit.is; entry = e; at = hit.at; number = refl })

    slots : (j : ℕ) → put v.slots n (v.slots n - 1) j ≡ sum_below file_count (λ k. number_is (put v.files s None k) j)
    slots j =
        let a = sum_changed file_count s (λ k. number_is (v.files k) j) (λ k. number_is (put v.files s None k) j) (inv.tied.within s e hit.at) (λ k ne. ap (λ (z : Option Entry). number_is z j) (put_other v.files s None k ne)) in
        let b : number_is (put v.files s None s) j ≡ 0 = ap (λ (z : Option Entry). number_is z j) (put_same v.files s None) in
        let c : number_is (v.files s) j ≡ one_if (n == j) = ap (λ (z : Option Entry). number_is z j) hit.at in
        let d = inv.tied.slots j in
        elim (same_or j n) [
          | inl q ↦ (let p : put v.slots n (v.slots n - 1) j ≡ v.slots n - 1 = ap (put v.slots n (v.slots n - 1)) q ∙ put_same v.slots n (v.slots n - 1) in let o : one_if (n == j) ≡ 1 = one_yes (n == j) (ap (λ (z : ℕ). n == z) q ∙ eq_self n) in let r : v.slots j ≡ v.slots n = ap v.slots q in omega (arith, a, b, c, d, p, o, r))
          | inr ne ↦ (let p = put_other v.slots n (v.slots n - 1) j ne in let o = not_one n j (λ z. ne (sym z)) in omega (arith, a, b, c, d, p, o))
        ]

pub s-shut : (version : Version) {A : Type 0} {h : ℕ} (fd : ℕ) {k : Option (Option ℕ) → P (machine version) A} {B : List Step → Type 0} {Q : A → List Step → World → Type 0} {n : ℕ} {es : List Step} {w : World} {O : Own}
    → own_of h w ≡ O → O.desk.lender ≡ None → h < hart_count → 0 < n → O.mine.walk ≡ None → O.mine.pending ≡ None → O.desk.opening ≡ None → ((j : ℕ) → O.inodes j ≡ None) → O.desk.noted ≡ None → O.desk.lent ≡ nothing → ((j : ℕ) → O.mine.refs j < reference_limit)
    → B (fails (Close fd) BadDescriptor ∷ es) → B (shut_step fd ∷ es)
    → ((l : ℕ) (u : World) → l + 1 ≡ n → own_of h u ≡ record O { mine = record { refs = O.mine.refs; walk = None; pending = None } } → Safe (machine version) h B Q (k None) l (fails (Close fd) BadDescriptor ∷ es) u)
    → ((l : ℕ) (r : Row) (d : Desk) (u : World) → l + 1 ≡ n → SameRow r O.row → SameDesk d O.desk → own_of h u ≡ record O { row = r; desk = d; mine = record { refs = O.mine.refs; walk = None; pending = None } } → Safe (machine version) h B Q (k (Some None)) l (shut_step fd ∷ es) u)
    → ((l m : ℕ) (r : Row) (d : Desk) (u : World) → l + 1 ≡ n → SameRow r O.row → SameDesk d O.desk → ((0 < O.mine.refs m) ⊎ (own_names r d m ≡ false)) → own_of h u ≡ record O { row = r; desk = d; mine = record { refs = put O.mine.refs m (O.mine.refs m + 1); walk = None; pending = None } } → Safe (machine version) h B Q (k (Some (Some m))) l (shut_step fd ∷ es) u)
    → Safe (machine version) h B Q (Do (Shut fd) (λ (_ : Option (Option ℕ)). own_step (Close fd)) k) n es w
s-shut version {A} {h} fd {k} {B} {Q} {n} {es} {w} {O} owns free lt pos walks none idle empty unnoted unlent room bf bd bad less last = s-owned version owns free pos (λ v inv ov. ((locks_none h v O inv ov (λ i x q. absurd (let a = empty i in cc (a, q))), ap (λ (o : Own). o.desk.lent) ov ∙ unlent), (λ _ _. at v inv ov (slot_at v h fd) refl)))
  where
    opening_none : (v : World) → own_of h v ≡ O → (v.desks h).opening ≡ None
    opening_none v ov = ap (λ (o : Own). o.desk.opening) ov ∙ idle

    still : (v : World) → own_of h v ≡ O → (v.harts h).pending ≡ None
    still v ov = ap (λ (o : Own). o.mine.pending) ov ∙ none

    walk : (v : World) → own_of h v ≡ O → (v.harts h).walk ≡ None
    walk v ov = ap (λ (o : Own). o.mine.walk) ov ∙ walks

    named : (v : World) → Inv v → own_of h v ≡ O → (m : ℕ) → (with_fd v.desks h fd None h).opening ≡ O.desk.opening → (0 < O.mine.refs m) ⊎ (own_names (row_of (without_fd v.all h fd) h) (with_fd v.desks h fd None h) m ≡ false)
    named v inv ov m same = elim (either (own_names (row_of v.all h) (v.desks h) m)) [
      | inl y ↦ inl (elim (inv.named h m lt (ap (λ (o : Own). o.desk.lender) ov ∙ free) y) [ inl p ↦ (let r = my_refs h v O m ov in omega (arith, r, p)) | inr p ↦ absurd (let e = still v ov in cc (e, p)) ])
      | inr y ↦ inr (names_less (row_of (without_fd v.all h fd) h) (row_of v.all h) (with_fd v.desks h fd None h) (v.desks h) m refl refl (same ∙ idle) (opening_none v ov) (ap (λ (z : Desk). z.left) (put_same v.desks h (record (v.desks h) { fds = put (v.desks h).fds fd None }))) ∙ y)
    ]

    made_is : (v : World) (s : ℕ) (e : Entry) → Behind h fd s e v → made_by version v.all h (new_id v) (v.harts h).walk (OwnMove (Close fd) 0) ≡ record { all = without_fd v.all h fd; walk = None; found = None; opened = None; entered = None; left = None; told = (shut_step fd).told }
    made_is v s e hit = rw (close_goes version v.all h fd e.file (resolve version v.all h []) (parent version v.all h []) hit.file)
        (λ r. record { all = close_effect version v.all h fd 0 (new_id v) (resolve version v.all h []) (parent version v.all h []) r; walk = None; found = None; opened = None; entered = None; left = None; told = Some (record { act = record { step = Close fd; answer = close_answer version v.all h fd (new_id v) (resolve version v.all h []) (parent version v.all h []) r }; new = 0 }) })

    rest : (v : World) → Inv v → own_of h v ≡ O → (s : ℕ) (e : Entry) → Behind h fd s e v → (b : Bool) → (e.references == 1) ≡ b
        → Good (machine version) (Option (Option ℕ)) h (λ a. places version h (Shut fd) a (own_step (Close fd)) v) 0 n B es v ⊥ (with_mark version h (λ (_ : Option (Option ℕ)). own_step (Close fd)) (close_if h v fd s e b)) (λ l a u. Wp (machine version) h B Q (k a) l (onto (own h (places version h (Shut fd) a (own_step (Close fd)) v)) es) u)
    rest v inv ov s e hit false q =
        let c = closing_less h fd s e v inv lt (opening_none v ov) (ap (λ (o : Own). o.desk.lent) ov ∙ unlent) hit (eq_isnt e.references 1 q) in
        let x = shuts version h fd s e v O _ _ _ inv ov free lt (walk v ov) (still v ov) (opening_none v ov) empty unnoted hit c in
        moves_good version h 0 n B Q es v (close_less h v fd s e) (OwnMove (Close fd) 0) tt (k (Some None)) (made_by version v.all h (new_id v) (v.harts h).walk (OwnMove (Close fd) 0)) (record { all = without_fd v.all h fd; walk = None; found = None; opened = None; entered = None; left = None; told = (shut_step fd).told })
        (made_is v s e hit) x.fair x.takes bd pos
        (λ l r. (less l (row_of (without_fd v.all h fd) h) (with_fd v.desks h fd None h) (shut_world h fd v (put v.files s (Some (record { file = e.file; inode_type = e.inode_type; references = e.references - 1 }))) v.slots (with_walk v.harts h None None)) r x.row x.desk
        (λ z. record {
          inodes = ap (λ (o : Own). o.inodes) ov z;
          mine = (put_same v.harts h (record { refs = (v.harts h).refs; walk = None; pending = None }) ∙ ap (λ (o : Own). record { refs = o.mine.refs; walk = None; pending = None }) ov) z;
          row = row_of (without_fd v.all h fd) h;
          ninodes = ap (λ (o : Own). o.ninodes) ov z;
          desk = with_fd v.desks h fd None h;
        })).wp)
    rest v inv ov s e hit true q =
        let c = closing_last h fd s e v inv lt (opening_none v ov) (ap (λ (o : Own). o.desk.lent) ov ∙ unlent) hit (eq_is e.references 1 q) (let r = my_refs h v O e.file.number ov in let a = room e.file.number in omega (arith, r, a)) in
        let x = shuts version h fd s e v O _ _ _ inv ov free lt (walk v ov) (still v ov) (opening_none v ov) empty unnoted hit c in
        moves_good version h 0 n B Q es v (close_last h v fd s e) (OwnMove (Close fd) 0) tt (k (Some (Some e.file.number))) (made_by version v.all h (new_id v) (v.harts h).walk (OwnMove (Close fd) 0)) (record { all = without_fd v.all h fd; walk = None; found = None; opened = None; entered = None; left = None; told = (shut_step fd).told })
        (made_is v s e hit) x.fair x.takes bd pos
        (λ l r. (last l e.file.number (row_of (without_fd v.all h fd) h) (with_fd v.desks h fd None h) (shut_world h fd v (put v.files s None) (put v.slots e.file.number (v.slots e.file.number - 1)) (last_refs h v e.file.number)) r x.row x.desk (named v inv ov e.file.number x.desk.opening)
        (λ z. record {
          inodes = ap (λ (o : Own). o.inodes) ov z;
          mine = (put_same (with_refs v.harts h e.file.number ((v.harts h).refs e.file.number + 1)) h (record { refs = (with_refs v.harts h e.file.number ((v.harts h).refs e.file.number + 1) h).refs; walk = None; pending = None })
              ∙ ap (λ (m : Mine). record { refs = m.refs; walk = None; pending = None }) (put_same v.harts h (record { refs = put (v.harts h).refs e.file.number ((v.harts h).refs e.file.number + 1); walk = (v.harts h).walk; pending = (v.harts h).pending }))
              ∙ ap (λ (o : Own). record { refs = put o.mine.refs e.file.number (o.mine.refs e.file.number + 1); walk = None; pending = None }) ov) z;
          row = row_of (without_fd v.all h fd) h;
          ninodes = ap (λ (o : Own). o.ninodes) ov z;
          desk = with_fd v.desks h fd None h;
        })).wp)

    at : (v : World) → Inv v → own_of h v ≡ O → (o : Option ℕ) → slot_at v h fd ≡ o
        → Good (machine version) (Option (Option ℕ)) h (λ a. places version h (Shut fd) a (own_step (Close fd)) v) 0 n B es v ⊥ (with_mark version h (λ (_ : Option (Option ℕ)). own_step (Close fd)) (close_at h v fd o (entry_at v.files o))) (λ l a u. Wp (machine version) h B Q (k a) l (onto (own h (places version h (Shut fd) a (own_step (Close fd)) v)) es) u)
    at v inv ov None q = refused_good version h 0 n B Q es v O (Close fd) BadDescriptor (k None) ov free lt inv walks none (close_is_refused version h fd v lt (behind_none h fd v inv lt (opening_none v ov) q)) bf pos bad
    at v inv ov (Some s) q =
        let b = behind h fd s v inv lt (opening_none v ov) q in
        subst (λ (z : Option Entry). Good (machine version) (Option (Option ℕ)) h (λ a. places version h (Shut fd) a (own_step (Close fd)) v) 0 n B es v ⊥ (with_mark version h (λ (_ : Option (Option ℕ)). own_step (Close fd)) (close_at h v fd (Some s) z)) (λ l a u. Wp (machine version) h B Q (k a) l (onto (own h (places version h (Shut fd) a (own_step (Close fd)) v)) es) u)) (sym b.1.at)
        (rest v inv ov s b.0 b.1 (b.0.references == 1) refl)
