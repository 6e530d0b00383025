-- The operation that locks an inode, loads it and looks at it acts when the lock is taken.
use Rattle.inode_machine.specs.Rules.{search_cost}
use Rattle.inodes_on_blocks.proofs.Vocabulary.{◌≡◌, ◌≢◌, inl, inr, ℕ, suc, ◌<◌, nat_lt, ◌&&◌, Bool, true, false, not, List, Option, Some, None, is_some, refl, sym, ◌∙◌, ap, subst, arith, if◌then◌else◌, none-some, Found, Aim, Named, block_count, Dinode, Super, Node, Name, put, live_directory, hart_count, same_or, put_same, put_other, is_free, HoldsAt, Ret, bind, ExecResult, Waits, Ran, exec_result_in, Machine, Laws, P, Wp, Both, Handover, joined, Below, Lasts, Acting, acted, s-act, Wp-more, TablesState, lock_holder, lock_inode, Outside, Lock, Sight, Query, AtNothing, AtName, AtEntries, Take, lock_if, locked, Inv, looking_cost, one_refs, two_refs, loaded, World, log_of, tables_of, disk_of, inode_in, exec, Shows, Same, Kept, Knowledge, NothingMore, Had, Has, Carry, IsKnown, IsLoaded, InHand, Base, Stands, below, Labels, labelled, Keeps, IsOpened, ActsOnceAt, face_in, number_found, learned, seen_record, looked, take_inode as take, load_unless, version_in, IsInode, sizes_of}
use Rattle.directory.specs.Programs.{Entry, Searched, search}
use Rattle.fs_machine.specs.InMemory.{IndexState, Loaded}
use Rattle.plain_tree.specs.Tree as tree
use Rattle.fs_machine.specs.Steps as steps
use Rattle.fs_machine.specs.Premises as premises
use Rattle.inode_machine.specs.Inodes.{seen_in}
use Rattle.inode_machine.specs.World as above
use Rattle.inodes_on_blocks.specs.Indexes.{IsIndexOf}
use Rattle.inodes_on_blocks.specs.ShownTables as tables
use Rattle.inodes_on_blocks.proofs.Basics.{by_lock, place_there, none_new, below_laws, kept_disk, s-load, directory_is, live_is, search_finds, name_found, slot_found, name_lost, entries_found, no_entries, block_within, few_blocks, with_tables, unlocked_holds, seen_sizes}
use Rattle.inodes_on_blocks.proofs.ContentReads.{touches, touches_are}
use Rattle.inodes_on_blocks.proofs.DirectorySearches.{s-search}
use Rattle.inodes_on_blocks.proofs.Looks.{still_right}
use Rattle.inodes_on_blocks.proofs.SlotSteps.{in_tables_is}
use Rattle.inodes_on_blocks.proofs.StatSteps.{in_use, face_seen, loads_of, loads_right, lock_came, came_acting}

-- the steps after the load: six a block
abbrev steps_of : Query → ℕ
steps_of AtNothing = 0
steps_of (AtName e) = search_cost
steps_of AtEntries = search_cost

same_ran : (b : Sight) (g u : above.World) → Ran b g ≡ Ran b u → g ≡ u
same_ran b g u e = cc e

-- an inode that a hart refers to isn't new, if none is new by it
referred_old : (h n : ℕ) (r : World) (g : above.World) → h < hart_count → Shows r g → Inv g → ((m : ℕ) → r.new m ≢ Some h) → 0 < (g.harts h).refs n → r.new n ≡ None
referred_old h n r g lt shows inv through some =
    none_new r g shows n
    (λ k e.
    let is = shows.news n k e in
    elim (inv.held n k is.kept) [
      | inl mine ↦ none-some k (sym is.unlocked ∙ mine)
      | inr lone ↦
          let a = inv.alone n lone in
          elim (same_or a.hart h) [
            | inl q ↦ through n (e ∙ sym is.kept ∙ a.kept ∙ ap (λ (z : ℕ). Some z) q)
            | inr ne ↦ absurd (let two = two_refs g a.hart h n inv (inv.kept n a.hart a.kept).0 lt ne in let c = a.counts in omega (arith, two, c, some))
          ]
    ])

-- what was learned of an inode beside its record, and of its names
pub learned_index : (h n : ℕ) (r : World) (g : above.World) (c : Carry) (x : Loaded) (index : IndexState) (learns : Knowledge) → (IsIndexOf (log_of r).sizes.version x.index (g.disk n) → IsIndexOf (log_of r).sizes.version index (g.disk n)) → IsKnown learns (g.disk n)
    → IsOpened h n (Has (record { inode = x.inode; index = index }) learns) g → Base h r g (put c n (Has x NothingMore)) → Base h r g (put c n (Has (record { inode = x.inode; index = index }) learns))
learned_index h n r g c x index learns right known opened base = record {
  free = base.free;
  taken = base.taken;
  through = base.through;
  inodes = λ i e. elim (same_or i n) [
    | inl q ↦ subst (λ (k : ℕ). InHand h k (put c n (Has y learns) k) r g) (sym q) (here (subst (λ (k : ℕ). InHand h k (put c n (Has x NothingMore) k) r g) q (base.inodes i e)))
    | inr ne ↦ subst (λ (o : Had). InHand h i o r g) (put_other c n (Has x NothingMore) i ne ∙ sym (put_other c n (Has y learns) i ne)) (base.inodes i e)
  ];
  lent = base.lent;
}
  where
    y : Loaded
    y = record { inode = x.inode; index = index }

    here : InHand h n (put c n (Has x NothingMore) n) r g → InHand h n (put c n (Has y learns) n) r g
    here was =
        let is = subst (λ (o : Had). IsLoaded (log_of r).sizes.version o (g.disk n) (inode_in (log_of r) n)) (put_same c n (Has x NothingMore)) was.loaded_is in
        record {
          keeps = was.keeps;
          loaded_is = subst (λ (o : Had). IsLoaded (log_of r).sizes.version o (g.disk n) (inode_in (log_of r) n)) (sym (put_same c n (Has y learns))) (is.0, is.1, known, right is.3);
          holds = was.holds;
          opened = subst (λ (o : Had). IsOpened h n o g) (sym (put_same c n (Has y learns))) opened;
        }

pub learned_base : (h n : ℕ) (r : World) (g : above.World) (c : Carry) (x : Loaded) (learns : Knowledge) → IsKnown learns (g.disk n) → IsOpened h n (Has x learns) g → Base h r g (put c n (Has x NothingMore)) → Base h r g (put c n (Has x learns))
learned_base h n r g c x learns known opened base = learned_index h n r g c x x.index learns (λ right. right) known opened base

module _ (sizes : Super) (l : Labels) (laws : Laws (labelled sizes.version l)) (keeps : Keeps l) (h : ℕ) (lt : h < hart_count) (n : ℕ) where
  abbrev W : Type 0
  W = Both World above.World

  abbrev M : Machine
  M = joined (labelled sizes.version l) (below sizes)

  -- ---- the lock was taken, in w, and the inode is loaded

  module _ (m : Sight → Option above.Mark) (c : Carry) (B : List l.Step → Type 0) (C : Sight → List l.Step → above.World → Type 0) (lasts : Lasts (labelled sizes.version l) h B C) (w : W) (node : Node)
      (is : w.seen.disk n ≡ Some node) (holds : HoldsAt (disk_of (log_of w.real)) w.real.owner n (Some node)) (mine : lock_holder n (tables_of w.real) ≡ Some h) (at : sizes_of (disk_of (log_of w.real)) ≡ sizes) where
    abbrev d : Dinode
    d = inode_in (log_of w.real) n

    abbrev Q : Handover Sight Carry → List l.Step → W → Type 0
    Q = Below (labelled sizes.version l) (below sizes) h C

    abbrev Goes : P M (Handover Sight Carry) → ℕ → Query → Type 0
    Goes p j looking = (v : W) (fs : List l.Step) → Same h w.real v.real → Kept h w.seen v.seen → C (seen_in sizes.version n looking (Some node)) fs v.seen → Wp M h B Q p j fs v

    used : is_free d ≡ false
    used = in_use (version_in (disk_of (log_of w.real))) d node holds.inode

    -- with an index
    abbrev with_it : IndexState → Loaded
    with_it x = record { inode = d; index = x }

    abbrev StandsWith : Loaded → Type 0
    StandsWith x = Stands sizes h w.real w.seen (put c n (Has x NothingMore))

    learned_apart : (e : Name) (x : Loaded) (o : Option Found) (g : above.World) → IsOpened h n (Has x (learned e o)) g
    learned_apart e x None g = tt
    learned_apart e x (Some f) g = tt

    live_directories : live_directory (Some node) ≡ true → tree.is_directory node.kind ≡ true
    live_directories = by (nat_lt 0 node.count)
      where
        by : (b : Bool) → (b && tree.is_directory node.kind) ≡ true → tree.is_directory node.kind ≡ true
        by true live = live
        by false live = absurd (let no : false ≡ true = live in cc)

    module _ (y : IndexState) (right : IsIndexOf sizes.version y (Some node)) (stands : StandsWith (with_it y)) where
      abbrev finds : Aim → Searched
      finds = search_finds sizes (disk_of (log_of w.real)) at w.real.owner n node holds used y right

      -- what is answered is what is seen above
      ends : (looking : Query) (index : IndexState) → IsIndexOf sizes.version index (Some node) → (learns : Knowledge) (found : Option ℕ) (empty : Bool) → ((g : above.World) → IsOpened h n (Has (with_it index) learns) g) → IsKnown learns (Some node)
          → found ≡ (seen_in sizes.version n looking (Some node)).found → empty ≡ (seen_in sizes.version n looking (Some node)).empty → Goes (seen_record c n (with_it index) learns found empty) 0 looking
      ends looking index right_then learns found empty apart known found_is empty_is v fs same kept stage =
          let face_is = face_seen sizes.version d (Some node) (subst (λ (z : Super). IsInode z.version d node) at holds.inode) (λ e. none-some node (sym e)) in
          let answer : record { face = if is_free d then None else Some (face_in d); found = found; empty = empty } ≡ seen_in sizes.version n looking (Some node) = λ i. record { face = face_is i; found = found_is i; empty = empty_is i } in
          let there = (below_laws sizes l keeps).base h w.real v.real w.seen v.seen (put c n (Has (with_it y) NothingMore)) same kept stands in
          let still = (kept_disk h n w.seen v.seen kept stands.0.lent (stands.0.inodes n mine).keeps).1 ∙ is in (
            subst (λ (a : Sight). C a fs v.seen) (sym answer) stage,
            (learned_index h n v.real v.seen c (with_it y) index learns (λ before. subst (λ (z : Super). IsIndexOf z.version index (v.seen.disk n)) (sym there.1) (subst (IsIndexOf sizes.version index) (sym still) right_then)) (subst (IsKnown learns) (sym still) known) (apart v.seen) there.0, there.1),
          )

      -- a search, and what is answered by what it finds
      searches : (looking : Query) (aim : Aim) → tree.is_directory node.kind ≡ true → (learns : Option Found → Knowledge) (found : Option Found → Option ℕ) (empty : Option Found → Bool)
          → ((x : Loaded) (o : Option Found) (g : above.World) → IsOpened h n (Has x (learns o)) g) → IsKnown (learns (finds aim).found) (Some node) → found (finds aim).found ≡ (seen_in sizes.version n looking (Some node)).found
          → empty (finds aim).found ≡ (seen_in sizes.version n looking (Some node)).empty → Goes (bind (search sizes.version aim (with_it y)) (λ o. seen_record c n (with_it o.index) (learns o.found) (found o.found) (empty o.found))) search_cost looking
      searches looking aim directory learns found empty apart known found_is empty_is v fs same kept stage =
          let few = few_blocks sizes.version d in
          let steps = touches_are (block_count sizes.version d) 0 in
          Wp-more M h (bind (search sizes.version aim (with_it y)) goes) B Q (touches (block_count sizes.version d) 0) search_cost fs v (omega (arith, few, steps))
          (s-search sizes l laws keeps h lt B Q (C (seen_in sizes.version n looking (Some node))) (acted (labelled sizes.version l) (below sizes) laws (below_laws sizes l keeps) h B (Take n looking) m C lasts (seen_in sizes.version n looking (Some node)))
          n (Some node) aim goes 0 w holds used mine stands.0.free y v fs same kept stage (block_within sizes (disk_of (log_of w.real)) at w.real.owner n node holds used)
          (ends looking (finds aim).index (still_right sizes (disk_of (log_of w.real)) at w.real.owner n node holds used y right aim directory) (learns (finds aim).found) (found (finds aim).found) (empty (finds aim).found)
          (apart (with_it (finds aim).index) (finds aim).found) known found_is empty_is))
        where
          goes : Searched → P M (Handover Sight Carry)
          goes o = seen_record c n (with_it o.index) (learns o.found) (found o.found) (empty o.found)

      looks_so : (looking : Query) → Goes (looked sizes.version looking c n (with_it y)) (steps_of looking) looking
      looks_so AtNothing = ends AtNothing y right NothingMore None true (λ g. tt) tt refl refl
      looks_so (AtName e) = by (live_directory (Some node)) refl
        where
          by : (b : Bool) → live_directory (Some node) ≡ b → Goes (looked sizes.version (AtName e) c n (with_it y)) search_cost (AtName e)
          by true live v fs same kept stage =
              subst (λ (b : Bool). Wp M h B Q (bind (if b then search sizes.version (Named e) (with_it y) else Ret (record { found = None; index = y })) (λ o. seen_record c n (with_it o.index) (learned e o.found) (number_found o.found) true)) search_cost fs v)
              (sym (live_is sizes (disk_of (log_of w.real)) at w.real.owner n node holds used ∙ live))
              (searches (AtName e) (Named e) (live_directories live) (learned e) number_found (λ o. true) (learned_apart e) (slot_found sizes (disk_of (log_of w.real)) at w.real.owner n node holds used y right e live)
              (name_found sizes (disk_of (log_of w.real)) at w.real.owner n node holds used y right e live) refl v fs same kept stage)
          by false dead v fs same kept stage =
              subst (λ (b : Bool). Wp M h B Q (bind (if b then search sizes.version (Named e) (with_it y) else Ret (record { found = None; index = y })) (λ o. seen_record c n (with_it o.index) (learned e o.found) (number_found o.found) true)) search_cost fs v)
              (sym (live_is sizes (disk_of (log_of w.real)) at w.real.owner n node holds used ∙ dead))
              (Wp-more M h (seen_record c n (with_it y) NothingMore None true) B Q 0 search_cost fs v (omega arith)
              (ends (AtName e) y right NothingMore None true (λ g. tt) tt (name_lost sizes (disk_of (log_of w.real)) at w.real.owner n node holds used e dead) refl v fs same kept stage))
      looks_so AtEntries = by (tree.is_directory node.kind) refl
        where
          by : (b : Bool) → tree.is_directory node.kind ≡ b → Goes (looked sizes.version AtEntries c n (with_it y)) search_cost AtEntries
          by true directory v fs same kept stage =
              subst (λ (b : Bool). Wp M h B Q (bind (if b then search sizes.version Entry (with_it y) else Ret (record { found = None; index = y })) (λ o. seen_record c n (with_it o.index) NothingMore None (not (is_some o.found)))) search_cost fs v)
              (sym (directory_is sizes (disk_of (log_of w.real)) at w.real.owner n node holds used ∙ directory))
              (searches AtEntries Entry directory (λ o. NothingMore) (λ o. None) (λ o. not (is_some o)) (λ x o g. tt) tt refl (entries_found sizes (disk_of (log_of w.real)) at w.real.owner n node holds used y right directory) v fs same kept stage)
          by false other v fs same kept stage =
              subst (λ (b : Bool). Wp M h B Q (bind (if b then search sizes.version Entry (with_it y) else Ret (record { found = None; index = y })) (λ o. seen_record c n (with_it o.index) NothingMore None (not (is_some o.found)))) search_cost fs v)
              (sym (directory_is sizes (disk_of (log_of w.real)) at w.real.owner n node holds used ∙ other))
              (Wp-more M h (seen_record c n (with_it y) NothingMore None true) B Q 0 search_cost fs v (omega arith)
              (ends AtEntries y right NothingMore None true (λ g. tt) tt refl (no_entries sizes (disk_of (log_of w.real)) at w.real.owner n node holds used other) v fs same kept stage))

    -- by what was loaded
    s-looked : (looking : Query) (x : Loaded) → x.inode ≡ d → IsIndexOf sizes.version x.index (Some node) → StandsWith x → Goes (looked sizes.version looking c n x) (steps_of looking) looking
    s-looked looking x inode_is right =
        let is_it : with_it x.index ≡ x = (λ i. record { inode = sym inode_is i; index = x.index }) in
        subst (λ (z : Loaded). StandsWith z → Goes (looked sizes.version looking c n z) (steps_of looking) looking) is_it (λ stands. looks_so x.index right stands looking)

  -- ---- the operation

  module _ (looking : Query) (m : Sight → Option above.Mark) (c : Carry) (B : List l.Step → Type 0) (C : Sight → List l.Step → above.World → Type 0) (lasts : Lasts (labelled sizes.version l) h B C) where
    abbrev rest : Option Loaded → P M (Handover Sight Carry)
    rest content = bind (load_unless sizes.inodestart n content) (looked sizes.version looking c n)

    abbrev Next : Option Loaded → Sight → World → above.World → Type 0
    Next a b u g = (gs : List l.Step) → Inv g → C b gs g → Wp M h B (Below (labelled sizes.version l) (below sizes) h C) (rest a) (suc (suc (suc (steps_of looking)))) gs (record { real = u; seen = g })

    abbrev IsActing : W → ExecResult (Option Loaded) World → Type 0
    IsActing v d = Acting (labelled sizes.version l) (below sizes) laws (below_laws sizes l keeps) h B (Take n looking) m C lasts above.Room v (premises.MayWait h (Lock n) v.real.state) d Next

    on_tables : (v : W) (x : Outside) (d : ExecResult (Option Loaded) TablesState) → lock_inode h n (tables_of v.real) ≡ d → IsActing v (exec_result_in (with_tables v.real) d) → IsActing v (exec h x (Lock n) v.real)
    unfolding steps.exec
    on_tables v x d is acting =
        subst (λ (z : ExecResult (Option Loaded) World). IsActing v z) (sym (in_tables_is h (Lock n) v.real (λ a o. refl) (λ s. refl) (λ a l. refl) (lock_inode h n (tables_of v.real)) ∙ ap (exec_result_in (with_tables v.real)) is)) acting

    -- the lock was taken
    loads : (v : W) → Shows v.real v.seen → v.seen.lock n ≡ None → v.real.new n ≡ None → 0 < v.seen.refs n → v.seen.disk n ≢ None → (u : TablesState) (g : above.World)
        → tables.Shows u (locked h n v.seen) (put (loaded (tables_of v.real)) n None)
        → Stands sizes h (with_tables v.real u) g (put c n (Has (loads_of v.real n) NothingMore)) → (gs : List l.Step) → g.disk n ≡ v.seen.disk n → C (seen_in sizes.version n looking (v.seen.disk n)) gs g
        → Wp M h B (Below (labelled sizes.version l) (below sizes) h C) (rest (loaded (tables_of v.real) n)) (suc (suc (suc (steps_of looking)))) gs (record { real = with_tables v.real u; seen = g })
    loads v shows free old some there u g after stands gs same_disk done =
        let range = shows.tables.range n some in
        by (v.seen.disk n) refl same_disk there (unlocked_holds h lt v.real v.seen shows n free old range.0 range.1) done
      where
        mine : lock_holder n u ≡ Some h
        mine = sym (after.places.holders n) ∙ put_same v.seen.lock n (Some h)

        right : ((loads_of v.real n).inode ≡ inode_in (log_of v.real) n) × IsIndexOf (log_of v.real).sizes.version (loads_of v.real n).index (v.seen.disk n)
        right = loads_right v.real v.seen shows n

        by : (o : Option Node) → v.seen.disk n ≡ o → g.disk n ≡ o → o ≢ None → HoldsAt (disk_of (log_of v.real)) v.real.owner n o → C (seen_in sizes.version n looking o) gs g
            → Wp M h B (Below (labelled sizes.version l) (below sizes) h C) (rest (loaded (tables_of v.real) n)) (suc (suc (suc (steps_of looking)))) gs (record { real = with_tables v.real u; seen = g })
        by None seen is there holds done = absurd (there refl)
        by (Some node) seen is there holds done =
            s-load sizes l laws keeps h lt B (Below (labelled sizes.version l) (below sizes) h C) (C (seen_in sizes.version n looking (Some node)))
            (acted (labelled sizes.version l) (below sizes) laws (below_laws sizes l keeps) h B (Take n looking) m C lasts (seen_in sizes.version n looking (Some node)))
            n (loaded (tables_of v.real) n) (put c n (Has (loads_of v.real n) NothingMore)) (looked sizes.version looking c n) (steps_of looking) gs (record { real = with_tables v.real u; seen = g }) done stands mine
            (let range = shows.tables.range n some in let top = range.1 in let size = shows.size in subst (λ (s : Super). n < s.ninodes) stands.1 (omega (arith, top, size)))
            (λ z fs same kept stage stands_z. s-looked m c B C lasts (record { real = with_tables v.real u; seen = g }) node is holds mine (seen_sizes v.real v.seen shows ∙ stands.1) looking (loads_of v.real n) right.0
            (subst (λ (s : Super). IsIndexOf s.version (loads_of v.real n).index (Some node)) stands.1 (subst (IsIndexOf (log_of v.real).sizes.version (loads_of v.real n).index) seen right.1)) stands z fs same kept stage)

  module _ (looking : Query) (m : Sight → Option above.Mark) where
    cost : (asked : Query) → suc (suc (suc (steps_of asked))) ≡ looking_cost asked
    cost AtNothing = refl
    cost (AtName e) = refl
    cost AtEntries = refl

    pub take_acts : ActsOnceAt sizes l h (Take n looking) m (take sizes n looking)
    unfolding steps.exec premises.May premises.MayWait
    take_acts c B C es w lasts todo stands =
        subst (λ (k : ℕ). Wp M h B (Below (labelled sizes.version l) (below sizes) h C) (take sizes n looking c m) (suc k) es w) (cost looking)
        (s-act (labelled sizes.version l) (below sizes) laws (below_laws sizes l keeps) h B (Take n looking) m C lasts above.Room (Lock n) (rest looking m c B C lasts) (Below (labelled sizes.version l) (below sizes) h C) (suc (suc (suc (steps_of looking)))) es w todo
        (λ v fs here may.
        let stands_v = (below_laws sizes l keeps).base h w.real v.real w.seen v.seen c here.same here.kept stands in
        let shows = here.shows in
        let refers = may.1.0 in
        let typed = may.1.1 in
        let some : 0 < v.seen.refs n = let all = one_refs v.seen h n here.inv lt in let own = refers.0 in omega (arith, all, own) in
        let p = place_there n (tables_of v.real) v.seen (loaded (tables_of v.real)) shows.tables some in
        let old : v.real.new n ≡ None = referred_old h n v.real v.seen lt shows here.inv stands_v.0.through.new refers.0 in
        let b = seen_in sizes.version n looking (v.seen.disk n) in (
          (subst (λ (k : ℕ). 0 < k) (shows.tables.places.counts n) some, λ q. refers.1 (shows.tables.places.holders n ∙ q)),
          λ x t.
              by_lock h n p.0 (tables_of v.real) v.seen (loaded (tables_of v.real)) shows.tables p.1 (IsActing looking m c B C lasts v (exec h x (Lock n) v.real))
              (λ waits g out. on_tables looking m c B C lasts v x Waits waits (g, (λ q. refers.1 (out ∙ ap (λ (z : ℕ). Some z) q)), sym (shows.tables.places.holders n) ∙ out))
              (λ u ran free after.
              let came = lock_came sizes l laws keeps h lt (Take n looking) n v c b u shows stands_v.0 may.0 some free old (typed free) (ap (lock_if h n b v.seen (locked h n v.seen)) free) after in
              let then_is : came.then_ ≡ locked h n v.seen = same_ran b came.then_ (locked h n v.seen) (sym came.ran ∙ ap (lock_if h n b v.seen (locked h n v.seen)) free) in
              on_tables looking m c B C lasts v x (Ran (loaded (tables_of v.real) n) u) ran
              (came_acting sizes l laws keeps h lt (Take n looking) m B C lasts v (premises.MayWait h (Lock n) v.real.state) (loaded (tables_of v.real) n) (with_tables v.real u) b (put c n (Has (loads_of v.real n) NothingMore)) (Next looking m c B C lasts) tt stands_v.1 came
              (λ g same_g stands_g gs inv_g done. loads looking m c B C lasts v shows free old some (typed free) u g after stands_g gs ((λ z. same_g.disk z n) ∙ ap (λ (x : above.World). x.disk n) then_is) done))),
        )))
