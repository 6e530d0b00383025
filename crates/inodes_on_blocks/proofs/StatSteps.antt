-- An operation that locks an inode and loads it acts when the lock is taken: so the one that answers a descriptor's
-- state.
use Rattle.inodes_on_blocks.proofs.Vocabulary.{◌≡◌, ◌≢◌, inl, inr, ℕ, pos, ◌<◌, Bool, false, List, Option, Some, None, refl, sym, ◌∙◌, ap, subst, arith, if◌then◌else◌, IsSome, option_map, MatchOption, none-some, Dinode, Super, Node, NodeKind, Directory, File, Device, put, hart_count, same_or, put_same, put_other, is_number, is_free, IsInode, IsRecord, type_in, ExecResult, Waits, Ran, exec_result_in, Laws, Wp, Both, joined, Below, Lasts, Acting, acted, s-act, TablesState, file_named, lock_holder, LockedState, Refuses, Locks, refusal_of, lock_file, lock_unless, lock_inode, with_file, Outside, LockFile, MayLockFile, IsElsewhere, Face, face_of, face_or, Entry, StatFile, entry_at, slot_at, lock_if, locked, stat_at, marked, with_mark, Inv, ours_none, ours_some, lone_file, opens_slots, node_there, loaded, file_of, World, log_of, tables_of, inode_in, exec, Shows, NothingMore, Had, Has, Carry, IsLoaded, InHand, Base, Stands, below, Labels, labelled, Keeps, IsOpened, ActsOnceAt, face_in, inode_type_at, natural, stat_file, stat_locked, stat_loaded, Loaded, unindexed, IsIndexOf, unwrap_or, Version, disk_of, sizes_of}
use Rattle.fs_machine.specs.declared.files.Want.TheVariants as want
use Rattle.fs_machine.specs.declared.files.OpenFile as files
use Rattle.fs_machine.specs.declared.files.Refused.TheVariants as refused
use Rattle.fs_machine.specs.Steps as steps
use Rattle.fs_machine.specs.Premises as premises
use Rattle.inode_machine.specs.World as above
use Rattle.inode_machine.specs.Exec as above_exec
use Rattle.inode_machine.specs.Exec.{entry_of}
use Rattle.inode_machine.specs.Rules as rules
use Rattle.inodes_on_blocks.specs.ShownTables as tables
use Rattle.inodes_on_blocks.proofs.Basics.{by_lock, place_there, names_at, file_is, none_new, below_laws, base_marked, tables_left, s-load, SameCode, marked_same, shows_marked, Came, with_tables, unlocked_holds, shows_then, base_then, open_alike, indexed_none, indexed_less, seen_sizes}
use Rattle.inodes_on_blocks.proofs.SlotSteps.{in_tables_is, came_quiet, all_same}

-- ---- a record shows its node's face

pub face_is : (version : Version) (d : Dinode) (v : Node) → IsInode version d v → face_in d ≡ face_or (face_of version (Some v))
face_is version d v is = by_kind v.kind v.count is
  where
    by_kind : (k : NodeKind) (count : ℕ) → IsInode version d (record { count = count; kind = k }) → face_in d ≡ face_or (face_of version (Some (record { count = count; kind = k })))
    by_kind (Directory slots) count is = λ i. record { inode_type = inode_type_at (is.kind i) d.major; count = natural (is.count i); size = is.size i }
    by_kind (File bytes) count is = λ i. record { inode_type = inode_type_at (is.kind i) d.major; count = natural (is.count i); size = is.size i }
    by_kind (Device major minor size) count is = λ i. record { inode_type = inode_type_at (is.kind i) (is.device.0 i); count = natural (is.count i); size = is.size i }

-- so it does of an inode that has a type
pub face_held : (version : Version) (d : Dinode) (o : Option Node) → IsRecord version d o → o ≢ None → face_in d ≡ face_or (face_of version o)
face_held version d None is typed = absurd (typed refl)
face_held version d (Some v) is typed = face_is version d v is

-- an inode that has a type isn't free
pub in_use : (version : Version) (d : Dinode) (v : Node) → IsInode version d v → is_free d ≡ false
in_use version d v is = ap (is_number 0) is.kind ∙ by_kind v.kind
  where
    by_kind : (k : NodeKind) → is_number 0 (pos (type_in k)) ≡ false
    by_kind (Directory slots) = refl
    by_kind (File bytes) = refl
    by_kind (Device major minor size) = refl

pub face_seen : (version : Version) (d : Dinode) (o : Option Node) → IsRecord version d o → o ≢ None → (if is_free d then None else Some (face_in d)) ≡ face_of version o
face_seen version d None is typed = absurd (typed refl)
face_seen version d (Some v) is typed = ap (λ (b : Bool). if b then None else Some (face_in d)) (in_use version d v is) ∙ ap (λ (f : Face). Some f) (face_is version d v is)

-- ---- what an open file is of

-- has a type, if nobody has its lock
pub file_typed : (v : above.World) (s : ℕ) (e : Entry) → Inv v → v.files s ≡ Some e → v.lock e.file.number ≡ None → v.disk e.file.number ≢ None
file_typed v s e inv at free none = by (v.keeper n) refl
  where
    n : ℕ
    n = e.file.number

    by : (o : Option ℕ) → v.keeper n ≡ o → ⊥
    by None kept = let x = node_there v s e inv at in none-some x.0 (sym none ∙ inv.whole n kept ∙ x.1)
    by (Some g) kept = elim (inv.held n g kept) [
      | inl mine ↦ none-some g (sym free ∙ mine)
      | inr lone ↦ absurd (lone_file g n s e v inv (inv.kept n g kept).0 lone kept at refl)
    ]

-- and isn't new
pub file_old : (r : World) (v : above.World) → Shows r v → (s : ℕ) (e : Entry) → Inv v → v.files s ≡ Some e → r.new e.file.number ≡ None
file_old r v shows s e inv at =
    none_new r v shows e.file.number
    (λ g q.
    let is = shows.news e.file.number g q in
    elim (inv.held e.file.number g is.kept) [
      | inl mine ↦ none-some g (sym is.unlocked ∙ mine)
      | inr lone ↦ lone_file g e.file.number s e v inv (inv.kept e.file.number g is.kept).0 lone is.kept at refl
    ])

-- is referred to
pub file_referred : (h fd : ℕ) (v : above.World) (e : Entry) → Inv v → h < hart_count → entry_of v h fd ≡ Some e → (s : ℕ) × (v.files s ≡ Some e) × (0 < v.refs e.file.number)
file_referred h fd v e inv lt is = by_slot (slot_at v h fd) refl
  where
    by_slot : (o : Option ℕ) → slot_at v h fd ≡ o → (s : ℕ) × (v.files s ≡ Some e) × (0 < v.refs e.file.number)
    by_slot None q = absurd (none-some e (sym (ap (entry_at v.files) q) ∙ is))
    by_slot (Some s) q =
        let m = names_at h fd s v inv lt q in
        let there : v.files s ≡ Some e = sym (ap (entry_at v.files) q) ∙ is in
        let a = opens_slots v h e.file.number inv (record { fd = fd; below = m.below; slot = s; is = m.is; entry = e; at = there; number = refl }) in
        let c = inv.counts e.file.number in
        (s, there, omega (arith, a, c))

-- ---- what a hart has of an inode whose lock it gets

-- what is loaded of it, else its record, whose names aren't indexed
abbrev pub loads_of : World → ℕ → Loaded
loads_of v n = unwrap_or (loaded (tables_of v) n) (unindexed (inode_in (log_of v) n))

-- it is as it is seen, and its index is right
pub loads_right : (v : World) (g : above.World) → Shows v g → (n : ℕ) → ((loads_of v n).inode ≡ inode_in (log_of v) n) × IsIndexOf (log_of v).sizes.version (loads_of v n).index (g.disk n)
loads_right v g shows n = by (loaded (tables_of v) n) refl
  where
    by : (o : Option Loaded) → loaded (tables_of v) n ≡ o → ((unwrap_or o (unindexed (inode_in (log_of v) n))).inode ≡ inode_in (log_of v) n) × IsIndexOf (log_of v).sizes.version (unwrap_or o (unindexed (inode_in (log_of v) n))).index (g.disk n)
    by None e = (refl, indexed_none (log_of v).sizes.version (g.disk n))
    by (Some x) e = (shows.loads.seen n x e, shows.loads.indexed n x e)

module _ (sizes : Super) (l : Labels) (laws : Laws (labelled sizes.version l)) (keeps : Keeps l) (h : ℕ) (lt : h < hart_count) where
  abbrev W : Type 0
  W = Both World above.World

  -- ---- a lock that was taken

  -- of an inode that has a type: its record is in hand from there on, though it may have to be read yet
  pub lock_came : (op : above.Op) (n : ℕ) (v : W) (c : Carry) (b : above.Answer op) (t : TablesState) → Shows v.real v.seen → Base h v.real v.seen c → (v.seen.desks h).lender ≡ None → 0 < v.seen.refs n
      → v.seen.lock n ≡ None → v.real.new n ≡ None → v.seen.disk n ≢ None → above_exec.exec sizes.version h above.Room op v.seen ≡ Ran b (locked h n v.seen) → tables.Shows t (locked h n v.seen) (put (loaded (tables_of v.real)) n None)
      → Came sizes l laws keeps h op v b (with_tables v.real t) (put c n (Has (loads_of v.real n) NothingMore))
  lock_came op n v c b t shows base free some unlocked old typed ran after = record {
    then_ = locked h n v.seen;
    ran = ran;
    free = free;
    shows = shows_then h lt v.real v.seen shows t (locked h n v.seen) (put load n None) after refl refl (λ j. refl)
        (λ i. elim (same_or i n) [
          | inl q ↦ inr (inl (ap v.seen.lock q ∙ unlocked, ap (put v.seen.lock n (Some h)) q ∙ put_same v.seen.lock n (Some h)))
          | inr ne ↦ inl (put_other v.seen.lock n (Some h) i ne)
        ])
        (λ i k e. elim (same_or i n) [
          | inl q ↦ absurd (none-some k (sym old ∙ ap v.real.new (sym q) ∙ e))
          | inr ne ↦ (put_other v.seen.lock n (Some h) i ne ∙ (shows.news i k e).unlocked, put_other v.seen.keeper n (Some h) i ne ∙ (shows.news i k e).kept, put_other load n None i ne ∙ (shows.news i k e).unloaded)
        ])
        (record {
          seen = λ i d e. elim (same_or i n) [
            | inl q ↦ absurd (none-some d (sym (ap (put load n None) q ∙ put_same load n None) ∙ e))
            | inr ne ↦ shows.loads.seen i d (sym (put_other load n None i ne) ∙ e)
          ];
          dead = λ i referred none loose dead. elim (same_or i n) [
            | inl q ↦ absurd (none-some h (sym none ∙ ap (put v.seen.lock n (Some h)) q ∙ put_same v.seen.lock n (Some h)))
            | inr ne ↦ subst IsSome (sym (put_other load n None i ne)) (shows.loads.dead i referred (sym (put_other v.seen.lock n (Some h) i ne) ∙ none) (sym (put_other v.seen.keeper n (Some h) i ne) ∙ loose) dead)
          ];
          typed = λ i e. elim (same_or i n) [
            | inl q ↦ ap (put load n None) q ∙ put_same load n None
            | inr ne ↦ put_other load n None i ne ∙ shows.loads.typed i e
          ];
          indexed = indexed_less (log_of v.real).sizes.version load n v.seen.disk shows.loads.indexed;
        }) shows.offsets;
    same = tables_left h v.real t v.seen (locked h n v.seen) load (put load n None) shows.tables after
        (λ i. elim (same_or i n) [
          | inl q ↦ inr (ours_none h (v.seen.lock i) (ap v.seen.lock q ∙ unlocked), ours_some h (put v.seen.lock n (Some h) i) (ap (put v.seen.lock n (Some h)) q ∙ put_same v.seen.lock n (Some h)))
          | inr ne ↦ inl (put_other v.seen.lock n (Some h) i ne)
        ]);
    base = base_then h lt v.real v.seen shows c (put c n (Has x NothingMore)) t (locked h n v.seen) (put load n None) base after free
        (λ i e. elim (same_or i n) [
          | inl q ↦ inr (subst (λ (k : ℕ). InHand h k (put c n (Has x NothingMore) k) v.real (locked h n v.seen)) (sym q) hand)
          | inr ne ↦
              let was : v.seen.lock i ≡ Some h = sym (put_other v.seen.lock n (Some h) i ne) ∙ e in
              inl (was, put_other v.seen.keeper n (Some h) i ne ∙ (base.inodes i (sym (shows.tables.places.holders i) ∙ was)).keeps, refl, put_other c n (Has x NothingMore) i ne, open_alike h i v.seen (locked h n v.seen) refl refl)
        ]);
  }
    where
      load : ℕ → Option Loaded
      load = loaded (tables_of v.real)

      x : Loaded
      x = loads_of v.real n

      hand : InHand h n (put c n (Has x NothingMore) n) v.real (locked h n v.seen)
      hand = record {
        keeps = put_same v.seen.keeper n (Some h);
        loaded_is = let right = loads_right v.real v.seen shows n in subst (λ (o : Had). IsLoaded (log_of v.real).sizes.version o (v.seen.disk n) (inode_in (log_of v.real) n)) (sym (put_same c n (Has x NothingMore))) (right.0, typed, tt, right.1);
        holds = let range = shows.tables.range n some in unlocked_holds h lt v.real v.seen shows n unlocked old range.0 range.1;
        opened = subst (λ (o : Had). IsOpened h n o (locked h n v.seen)) (sym (put_same c n (Has x NothingMore))) tt;
      }

  -- ---- an operation acts if its step came so

  module _ (op : above.Op) (m : above.Answer op → Option above.Mark) (B : List l.Step → Type 0) (C : above.Answer op → List l.Step → above.World → Type 0) (lasts : Lasts (labelled sizes.version l) h B C) where
    pub came_acting : {A : Type 0} (v : W) (wait : Type 0) (a : A) (r : World) (b : above.Answer op) (c : Carry) (N : A → above.Answer op → World → above.World → Type 0) → rules.Honest h op v.seen above.Room → (log_of r).sizes ≡ sizes
        → (came : Came sizes l laws keeps h op v b r c) → ((g : above.World) → SameCode came.then_ g → Stands sizes h r g c → N a b r g)
        → Acting (labelled sizes.version l) (below sizes) laws (below_laws sizes l keeps) h B op m C lasts above.Room v wait (Ran a r) N
    came_acting v wait a r b c N honest at came next =
        let s = marked_same sizes.version h (m b) came.then_ in (
          b,
          marked sizes.version h (m b) came.then_,
          ap (with_mark sizes.version h m) came.ran,
          honest,
          (λ inv. shows_marked r came.then_ (marked sizes.version h (m b) came.then_) s came.shows),
          came.same,
          next (marked sizes.version h (m b) came.then_) s (base_marked h r came.then_ (marked sizes.version h (m b) came.then_) c s came.free came.base, at),
        )

  -- ---- the state of what a descriptor names

  module _ (fd : ℕ) (m : Option (ℕ × Face) → Option above.Mark) where
    pub stat_acts : ActsOnceAt sizes l h (StatFile fd) m (stat_file sizes fd)
    unfolding steps.exec premises.May premises.MayWait lock_file
    stat_acts c B C es w lasts todo stands =
        s-act (labelled sizes.version l) (below sizes) laws (below_laws sizes l keeps) h B (StatFile fd) m C lasts above.Room (LockFile want.Stat fd) (stat_locked sizes c) (Below (labelled sizes.version l) (below sizes) h C) 3 es w todo
        (λ v fs here may. by v here.shows here.inv ((below_laws sizes l keeps).base h w.real v.real w.seen v.seen c here.same here.kept stands) may (entry_of v.seen h fd) refl)
      where
        Next : LockedState → Option (ℕ × Face) → World → above.World → Type 0
        Next a b u g = (gs : List l.Step) → Inv g → C b gs g → Wp (joined (labelled sizes.version l) (below sizes)) h B (Below (labelled sizes.version l) (below sizes) h C) (stat_locked sizes c a) 3 gs (record { real = u; seen = g })

        IsActing : W → ExecResult LockedState World → Type 0
        IsActing v d = Acting (labelled sizes.version l) (below sizes) laws (below_laws sizes l keeps) h B (StatFile fd) m C lasts above.Room v (premises.MayWait h (LockFile want.Stat fd) v.real.state) d Next

        -- by what the tables answer
        on_tables : (v : W) (x : Outside) (d : ExecResult LockedState TablesState) → lock_file h want.Stat fd (tables_of v.real) ≡ d → IsActing v (exec_result_in (with_tables v.real) d) → IsActing v (exec h x (LockFile want.Stat fd) v.real)
        on_tables v x d is acting =
            subst (λ (z : ExecResult LockedState World). IsActing v z) (sym (in_tables_is h (LockFile want.Stat fd) v.real (λ a o. refl) (λ s. refl) (λ a l. refl) (lock_file h want.Stat fd (tables_of v.real)) ∙ ap (exec_result_in (with_tables v.real)) is)) acting

        by : (v : W) → Shows v.real v.seen → Inv v.seen → Stands sizes h v.real v.seen c → rules.May sizes.version h (StatFile fd) v.seen → (o : Option Entry) → entry_of v.seen h fd ≡ o
            → premises.May h (LockFile want.Stat fd) v.real.state × ((x : Outside) → premises.Honest h (LockFile want.Stat fd) v.real.state x → IsActing v (exec h x (LockFile want.Stat fd) v.real))
        by v shows inv stands_v may None e =
            let named : file_named h fd (tables_of v.real) ≡ None = file_is h fd (tables_of v.real) v.seen (loaded (tables_of v.real)) shows.tables inv (record { below = lt; free = may.0 }) ∙ ap (option_map file_of) e in (
              (lt, subst (λ (z : Option files.OpenFile). MayLockFile h z (tables_of v.real)) (sym named) tt),
              λ x t.
                  on_tables v x (Ran (Refuses refused.BadDescriptor) (tables_of v.real)) (ap (λ (z : Option files.OpenFile). lock_unless h (tables_of v.real) z (refusal_of want.Stat z)) named)
                  (came_acting (StatFile fd) m B C lasts v (premises.MayWait h (LockFile want.Stat fd) v.real.state) (Refuses refused.BadDescriptor) (with_tables v.real (tables_of v.real)) None c Next tt stands_v.1
                  (came_quiet sizes l laws keeps h lt (StatFile fd) v None (tables_of v.real) v.seen c shows stands_v.0 may.0 (ap (stat_at sizes.version h v.seen) e) shows.tables (all_same h v.seen))
                  (λ g same_g stands_g gs inv_g done. (done, stands_g))),
            )
        by v shows inv stands_v may (Some e) is =
            let n = e.file.number in
            let named : file_named h fd (tables_of v.real) ≡ Some (file_of e) = file_is h fd (tables_of v.real) v.seen (loaded (tables_of v.real)) shows.tables inv (record { below = lt; free = may.0 }) ∙ ap (option_map file_of) is in
            let referred = file_referred h fd v.seen e inv lt is in
            let range = shows.tables.range n referred.2 in
            let many = shows.blocks.seen.good.many_inodes in
            let size = shows.size in
            let lower : lock_file h want.Stat fd (tables_of v.real) ≡ with_file (file_of e) (lock_inode h n (tables_of v.real)) = ap (λ (z : Option files.OpenFile). lock_unless h (tables_of v.real) z (refusal_of want.Stat z)) named in
            let p = place_there n (tables_of v.real) v.seen (loaded (tables_of v.real)) shows.tables referred.2 in (
              (lt, subst (λ (z : Option files.OpenFile). MayLockFile h z (tables_of v.real)) (sym named) (let top = range.1 in omega (arith, top, size, many), λ q. may.1 n (shows.tables.places.holders n ∙ q))),
              λ x t.
                  by_lock h n p.0 (tables_of v.real) v.seen (loaded (tables_of v.real)) shows.tables p.1 (IsActing v (exec h x (LockFile want.Stat fd) v.real))
                  (λ waits g out.
                  on_tables v x Waits (lower ∙ ap (with_file (file_of e)) waits)
                  (subst (λ (z : Option files.OpenFile). MatchOption z ⊥ (λ f. IsElsewhere h (lock_holder f.number (tables_of v.real)))) (sym named)
                  (g, (λ q. may.1 n (out ∙ ap (λ (z : ℕ). Some z) q)), sym (shows.tables.places.holders n) ∙ out)))
                  (λ u ran free after.
                  on_tables v x (Ran (Locks (file_of e) (loaded (tables_of v.real) n)) u) (lower ∙ ap (with_file (file_of e)) ran)
                  (came_acting (StatFile fd) m B C lasts v (premises.MayWait h (LockFile want.Stat fd) v.real.state) (Locks (file_of e) (loaded (tables_of v.real) n)) (with_tables v.real u) (Some (n, face_or (face_of sizes.version (v.seen.disk n)))) (put c n (Has (loads_of v.real n) NothingMore)) Next tt stands_v.1
                  (lock_came (StatFile fd) n v c (Some (n, face_or (face_of sizes.version (v.seen.disk n)))) u shows stands_v.0 may.0 referred.2 free (file_old v.real v.seen shows referred.0 e inv referred.1) (file_typed v.seen referred.0 e inv referred.1 free)
                  (ap (stat_at sizes.version h v.seen) is ∙ ap (lock_if h n (Some (n, face_or (face_of sizes.version (v.seen.disk n)))) v.seen (locked h n v.seen)) free) after)
                  (λ g same_g stands_g gs inv_g done. loads v e shows free (file_old v.real v.seen shows referred.0 e inv referred.1) referred.2 (file_typed v.seen referred.0 e inv referred.1 free) u g after stands_g gs done))),
            )
          where
            loads : (v : W) (e : Entry) → Shows v.real v.seen → v.seen.lock e.file.number ≡ None → v.real.new e.file.number ≡ None → 0 < v.seen.refs e.file.number → v.seen.disk e.file.number ≢ None → (u : TablesState) (g : above.World)
                → tables.Shows u (locked h e.file.number v.seen) (put (loaded (tables_of v.real)) e.file.number None)
                → Stands sizes h (with_tables v.real u) g (put c e.file.number (Has (loads_of v.real e.file.number) NothingMore)) → (gs : List l.Step) → C (Some (e.file.number, face_or (face_of sizes.version (v.seen.disk e.file.number)))) gs g
                → Wp (joined (labelled sizes.version l) (below sizes)) h B (Below (labelled sizes.version l) (below sizes) h C) (stat_locked sizes c (Locks (file_of e) (loaded (tables_of v.real) e.file.number))) 3 gs (record { real = with_tables v.real u; seen = g })
            loads v e shows free old some typed u g after stands_g gs done =
                let n = e.file.number in
                let x = loads_of v.real n in
                let range = shows.tables.range n some in
                let b : Option (ℕ × Face) = Some (n, face_or (face_of sizes.version (v.seen.disk n))) in
                let holds = unlocked_holds h lt v.real v.seen shows n free old range.0 range.1 in
                let at : sizes_of (disk_of (log_of v.real)) ≡ sizes = seen_sizes v.real v.seen shows ∙ stands_g.1 in
                let answer : ◌≡◌ {A = Option (ℕ × Face)} (Some (n, face_in x.inode)) b =
                ap (λ (d : Dinode). Some (n, face_in d)) (loads_right v.real v.seen shows n).0 ∙ ap (λ (f : Face). Some (n, f)) (face_held sizes.version (inode_in (log_of v.real) n) (v.seen.disk n) (subst (λ (z : Super). IsRecord z.version (inode_in (log_of v.real) n) (v.seen.disk n)) at holds.inode) typed) in
                s-load sizes l laws keeps h lt B (Below (labelled sizes.version l) (below sizes) h C) (C b) (acted (labelled sizes.version l) (below sizes) laws (below_laws sizes l keeps) h B (StatFile fd) m C lasts b)
                n (loaded (tables_of v.real) n) (put c n (Has x NothingMore)) (stat_loaded c n) 0 gs (record { real = with_tables v.real u; seen = g }) done stands_g
                (sym (after.places.holders n) ∙ put_same v.seen.lock n (Some h)) (let top = range.1 in let size = shows.size in subst (λ (s : Super). n < s.ninodes) stands_g.1 (omega (arith, top, size)))
                (λ z fs same_z kept_z stage stands_z. (subst (λ (a : Option (ℕ × Face)). C a fs z.seen) (sym answer) stage, stands_z))
