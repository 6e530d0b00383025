-- An operation that puts an inode's record acts at the put.
use Rattle.inodes_on_blocks.proofs.Vocabulary.{◌≡◌, ◌≢◌, inl, inr, ℕ, suc, pos, ◌<◌, true, false, List, length, Option, Some, None, refl, sym, ◌∙◌, ap, subst, arith, unwrap_or, none-some, Super, Dinode, IsDinode, sizes_of, IsOutsideLog, holder_of, has, HasRoom, Node, node_or, put, hart_count, same_or, put_same, put_other, UpToLog, numbers_of, HoldsAt, NamesOwned, IsInodePut, IsLaidOut, Ret, bind, once, Ran, Laws, Machine, Wp, Both, joined, Below, Lasts, Handover, Here, ToAct, to_act, may_act, Acting, s-act, lock_holder, LogPart, Outside, put_block, fetch, seen_of, Put, no_record, inode_block, with_dinode, Store, with_record, with_count, marked, with_mark, Inv, more, Owners, World, log_of, tables_of, disk_of, inode_in, owners_of, exec, CanPut, Shows, NothingMore, Had, Apart, Has, Emptied, Carry, record_had, IsLoaded, InHand, Base, Stands, below, Labels, labelled, Keeps, IsOpened, IsThrough, in_hand, HasBuffer, IsFetched, GivesRoom, record_in, put_record, store, unindexed, index_in, recorded_had, all_slots, block_len, Version}
use Rattle.inodes_on_blocks.proofs.Basics.{laid_before, node_held, count_laid, good_seen, marked_same, shows_marked, below_laws, base_marked, AllInHand, in_hand_then, lent_then, through_then, through_put, back_hand, buffer_then, buffer_seen, s-fetch, count_fits, may_put, after, lock_range, quiet_owners, node_then, AllBut, LastsInHand, Ready, inode_home, seen_dinode, untaken, place_in, can_record, then_, is_put, same_then, inode_then, others_then, none_then, open_alike, indexed_file, indexed_in}
use Rattle.fs_machine.specs.Steps as steps
use Rattle.fs_machine.specs.Premises as premises
use Rattle.inode_machine.specs.World as above
use Rattle.inode_machine.specs.Exec as above_exec
use Rattle.inode_machine.specs.Rules as rules
use Rattle.inodes_on_blocks.proofs.RecordThen.{shows_then}

-- What a hart knows of inode n, whose lock it has, before it puts this record for it. It has `had` of the inode from
-- then on. The operation above makes this node of it.
pub record PutsRecord (version : Version) (h : ℕ) (op : above.Op) (n : ℕ) (answer : above.Answer op) (d : Dinode) (had : Had) (r : World) (g : above.World) : Type 0 where
  pub node : Option Node
  pub ran : above_exec.exec version h above.Room op g ≡ Ran answer (with_record g n node)
  pub mine : g.lock n ≡ Some h
  pub keeps : g.keeper n ≡ Some h
  pub joined : (g.desks h).joined ≡ true
  pub free : (g.desks h).lender ≡ None
  pub is : IsDinode d
  pub has : IsLoaded (log_of r).sizes.version had node d
  -- and by no descriptor
  pub closed : (w : above.World) → IsOpened h n had w
  -- with the record in its block the inode holds that
  pub holds : (new : List (List ℕ)) → IsInodePut (disk_of (log_of r)) new n d → HoldsAt new r.owner n node

module _ (sizes : Super) (l : Labels) (laws : Laws (labelled sizes.version l)) (keeps : Keeps l) (h : ℕ) (lt : h < hart_count) (n : ℕ) where
  abbrev W : Type 0
  W = Both World above.World

  abbrev M : Machine
  M = joined (labelled sizes.version l) (below sizes)

  -- the block of an inode
  abbrev at : World → ℕ
  at = place_in n

  -- ---- the put, at the world where it is made

  module _ (op : above.Op) (answer : above.Answer op) (d : Dinode) (had : Had) (c : Carry) (r : World) (g : above.World) (shows : Shows r g) (all : AllBut n h c r g) (one : in_hand h r ≡ 1) (none : (k : ℕ) → r.taken k ≢ Some h)
      (through : IsThrough h r) (p : PutsRecord sizes.version h op n answer d had r g) (can : CanPut h (at r) (with_dinode n d (seen_of (log_of r) (at r))) (log_of r)) (long : length (seen_of (log_of r) (at r)) ≡ block_len) where
    abbrev put_then : World
    put_then = then_ h n d c r g shows p.mine p.joined p.is can long

    abbrev seen_then : above.World
    seen_then = with_record g n p.node

    shows_both : Shows put_then seen_then
    shows_both = node_then h n put_then g p.node (shows_then h n d c r g shows p.mine p.joined p.is can long) p.mine p.joined

    all_then : AllInHand h (put c n had) put_then seen_then
    all_then i e = elim (same_or i n) [
      | inl q ↦ subst (λ (j : ℕ). InHand h j (put c n had j) put_then seen_then) (sym q) this
      | inr ne ↦ subst (λ (o : Had). InHand h i o put_then seen_then) (sym (put_other c n had i ne)) (others_then h n d c r g shows p.mine p.joined p.is can long all seen_then (λ k apart. put_other g.disk n p.node k apart) (λ k. refl) (λ k. open_alike h k g seen_then refl refl) i ne e)
    ]
      where
        this : InHand h n (put c n had n) put_then seen_then
        this = record {
          keeps = p.keeps;
          loaded_is =
              subst (λ (o : Had). IsLoaded (log_of put_then).sizes.version o (put g.disk n p.node n) (inode_in (log_of put_then) n)) (sym (put_same c n had))
              (subst (λ (v : Option Node). IsLoaded (log_of put_then).sizes.version had v (inode_in (log_of put_then) n)) (sym (put_same g.disk n p.node))
              (subst (λ (x : Dinode). IsLoaded (log_of put_then).sizes.version had p.node x) (sym (inode_then h n d c r g shows p.mine p.joined p.is can long)) p.has));
          holds = subst (λ (o : Option Node). HoldsAt (disk_of (log_of put_then)) r.owner n o) (sym (put_same g.disk n p.node))
              (p.holds (disk_of (log_of put_then)) (is_put h n d c r g shows p.mine p.joined p.is can long));
          opened = subst (λ (o : Had). IsOpened h n o seen_then) (sym (put_same c n had)) (p.closed seen_then);
        }

    base_then : Base h put_then seen_then (put c n had)
    base_then = record {
      free = none_then h n d c r g shows p.mine p.joined p.is can long one;
      taken = none;
      through = through_put h r put_then (log_of put_then) refl refl through;
      inodes = all_then;
      lent = λ some. absurd (some p.free);
    }

  -- ---- the whole program

  -- a hart without a buffer has none of any block
  none_held : (b : ℕ) (r : World) → in_hand h r ≡ 0 → holder_of b (log_of r).seats ≢ Some h
  none_held b r none out = let back = (back_hand h b (log_of r).seats out).count in omega (arith, back, none)

  module _ (op : above.Op) (m : above.Answer op → Option above.Mark) (answer : above.Answer op) (d : Dinode) (had : Had) (c : Carry) (honest : (v : W) → rules.Honest h op v.seen above.Room)
      (This : World → above.World → Type 0) (this_lasts : LastsInHand h This) (others : (r : World) (g : above.World) → This r g → AllBut n h c r g)
      (puts : (v : W) → (log_of v.real).sizes ≡ sizes → Shows v.real v.seen → Inv v.seen → rules.May sizes.version h op v.seen → This v.real v.seen → PutsRecord sizes.version h op n answer d had v.real v.seen)
      (Knows : World → Type 0) (gives : GivesRoom h (inode_block sizes.inodestart n) Knows)
      (B : List l.Step → Type 0) (C : above.Answer op → List l.Step → above.World → Type 0) (lasts : Lasts (labelled sizes.version l) h B C) where
    abbrev b : ℕ
    b = inode_block sizes.inodestart n

    abbrev Q : Handover (above.Answer op) Carry → List l.Step → W → Type 0
    Q = Below (labelled sizes.version l) (below sizes) h C

    abbrev Todo : List l.Step → above.World → Type 0
    Todo = ToAct (labelled sizes.version l) (below sizes) laws (below_laws sizes l keeps) h B op m C lasts

    abbrev Acts : (v : W) → ℕ → List ℕ → Type 0
    Acts v k bytes =
        premises.May h (Put k (Some bytes)) v.real.state × ((x : Outside) → premises.Honest h (Put k (Some bytes)) v.real.state x
        → Acting (labelled sizes.version l) (below sizes) laws (below_laws sizes l keeps) h B op m C lasts above.Room v (premises.MayWait h (Put k (Some bytes)) v.real.state) (exec h x (Put k (Some bytes)) v.real)
        (λ a o u g. (gs : List l.Step) → Inv g → C o gs g → Wp M h B Q (Ret (record { answer = answer; carry = put c n had })) 0 gs (record { real = u; seen = g })))

    -- the put, with the buffer in hand
    acts_there : (v : W) → Shows v.real v.seen → AllBut n h c v.real v.seen → in_hand h v.real ≡ 1 → ((k : ℕ) → v.real.taken k ≢ Some h) → IsThrough h v.real → PutsRecord sizes.version h op n answer d had v.real v.seen
        → CanPut h (at v.real) (with_dinode n d (seen_of (log_of v.real) (at v.real))) (log_of v.real) → length (seen_of (log_of v.real) (at v.real)) ≡ block_len → (log_of v.real).sizes ≡ sizes
        → Acts v (at v.real) (with_dinode n d (seen_of (log_of v.real) (at v.real)))
    unfolding steps.exec premises.MayWait premises.Honest
    acts_there v shows all one none through p can long here =
        let r = v.real in
        let stored_ : List ℕ = with_dinode n d (seen_of (log_of r) (at r)) in
        let now : LogPart = put_block h (at r) (Some stored_) (log_of r) in
        let then_all : (o : Owners) → World = (λ o. after h (at r) n stored_ r v.seen shows p.mine p.joined can o) in
        let g = marked sizes.version h (m answer) (with_record v.seen n p.node) in
        let s = marked_same sizes.version h (m answer) (with_record v.seen n p.node) in
        let base_ = base_then op answer d had c r v.seen shows all one none through p can long in
        let same_owners = quiet_owners (λ i. lock_holder i (tables_of r)) h (disk_of now) (owners_of r) none (log_of r).sizes.bmapstart (at r) (disk_of (log_of r)) (before v shows p.mine) in (
          may_put h (at r) stored_ r.state shows.whole shows.blocks.seen can,
          λ x t.
              subst (λ (o : Owners). Acting (labelled sizes.version l) (below sizes) laws (below_laws sizes l keeps) h B op m C lasts above.Room v ⊥ (Ran (tt {0}) (then_all o))
              (λ a o' u f. (gs : List l.Step) → Inv f → C o' gs f → Wp M h B Q (Ret (record { answer = answer; carry = put c n had })) 0 gs (record { real = u; seen = f }))) (sym same_owners) (
                answer,
                g,
                ap (with_mark sizes.version h m) p.ran,
                honest v,
                (λ inv. shows_marked (then_all (owners_of r)) (with_record v.seen n p.node) g s (shows_both op answer d had c r v.seen shows all one none through p can long)),
                same_then h n d c r v.seen shows p.mine p.joined p.is can long,
                λ gs inv done. (done, (base_marked h (then_all (owners_of r)) (with_record v.seen n p.node) g (put c n had) s p.free base_, here)),
              ),
        )
      where
        before : (v : W) → Shows v.real v.seen → v.seen.lock n ≡ Some h → at v.real ≢ (log_of v.real).sizes.bmapstart
        before v shows mine e =
            let inodes = shows.blocks.seen.good.inodes in let bound = (lock_range n h v.real v.seen shows mine).1 in absurd (omega (arith, inodes, bound, e))

    -- and from the fetch of the block on
    puts_then : (w v : W) (fs : List l.Step) → Ready sizes h This w.real w.seen → Knows w.real → IsFetched h b (Todo fs) w v → Wp M h B Q (put_record op m answer b n d had c (seen_of (log_of v.real) b)) 1 fs v
    puts_then w v fs ready knows got =
        s-act (labelled sizes.version l) (below sizes) laws (below_laws sizes l keeps) h B op m C lasts above.Room (Put b (Some (with_dinode n d (seen_of (log_of v.real) b))))
        (λ a. Ret (record { answer = answer; carry = put c n had })) Q 0 fs v got.stage
        (λ u gs here may.
        let middle = this_lasts w.real v.real w.seen v.seen got.since.sizes got.since.inodes got.since.no_more got.kept ready.lent ready.this in
        let this : This u.real u.seen = this_lasts v.real u.real v.seen u.seen here.same.sizes here.same.inodes here.same.no_more here.kept (lent_then h w.seen v.seen got.kept ready.lent) middle in
        let p = puts u (here.same.sizes ∙ got.since.sizes ∙ ready.at) here.shows here.inv may this in
        let where_ : b ≡ at u.real = ap (λ (s : Super). inode_block s.inodestart n) (sym (here.same.sizes ∙ got.since.sizes ∙ ready.at)) in
        let buffer = buffer_then h b (seen_of (log_of v.real) b) v.real u.real (here.same.buffers b) got.buffer in
        let bytes : seen_of (log_of u.real) (at u.real) ≡ seen_of (log_of v.real) b = ap (seen_of (log_of u.real)) (sym where_) ∙ buffer_seen h b (seen_of (log_of v.real) b) u.real buffer in
        let knows_there : Knows u.real = gives.lasts v.real u.real here.same (gives.fetched b w.real v.real got.since knows) in
        let can = can_record h n d (seen_of (log_of v.real) b) u.real u.seen lt here.shows p.mine p.joined p.is (subst (λ (k : ℕ). HasBuffer h k (seen_of (log_of v.real) b) u.real) where_ buffer)
        (subst (λ (k : ℕ). has (log_of u.real).group k ≡ false → HasRoom (log_of u.real).members h) where_ (gives.room u.real knows_there (sym (here.shows.members h lt) ∙ p.joined))) in
        let none = untaken h v.real u.real here.same.taken (untaken h w.real v.real got.since.taken ready.taken) in
        let through : IsThrough h u.real = through_then h v.real u.real here.same.begun (through_then h w.real v.real got.since.begun ready.through) in
        subst (λ (q : ℕ × List ℕ). Acts u q.0 q.1) (λ z. (sym where_ z, with_dinode n d (bytes z)))
        (acts_there u here.shows (others u.real u.seen this) (here.same.held ∙ got.count ∙ ap suc ready.free) none through p can.0 can.1 (here.same.sizes ∙ got.since.sizes ∙ ready.at)))

    pub record_acts : (es : List l.Step) (w : W) → Todo es w.seen → Ready sizes h This w.real w.seen → Knows w.real → Wp M h B Q (bind (fetch b) (put_record op m answer b n d had c)) 3 es w
    record_acts es w todo ready knows =
        s-fetch sizes l laws keeps h lt B Q Todo (to_act (labelled sizes.version l) (below sizes) laws (below_laws sizes l keeps) h B op m C lasts) b (put_record op m answer b n d had c) 1 es w todo (omega (arith, few)) place
        (none_held b w.real ready.free) (λ v fs got. puts_then w v fs ready knows got)
      where
        few : in_hand h w.real ≡ 0
        few = ready.free

        place : (v : W) (fs : List l.Step) → Here (labelled sizes.version l) (below sizes) laws (below_laws sizes l keeps) h B Todo w v fs → IsOutsideLog (log_of v.real).sizes b × (b < (log_of v.real).sizes.size)
        place v fs here =
            let may = may_act (labelled sizes.version l) (below sizes) laws (below_laws sizes l keeps) h B op m C lasts fs v.seen here.stage here.inv in
            let p = puts v (here.same.sizes ∙ ready.at) here.shows here.inv may (this_lasts w.real v.real w.seen v.seen here.same.sizes here.same.inodes here.same.no_more here.kept ready.lent ready.this) in
            let range = lock_range n h v.real v.seen here.shows p.mine in
            let home = inode_home (log_of v.real) n here.shows.blocks.seen.good here.shows.blocks.seen.sized range.1 in
            let where_ : at v.real ≡ b = ap (λ (s : Super). inode_block s.inodestart n) (here.same.sizes ∙ ready.at) in
            subst (λ (k : ℕ). IsOutsideLog (log_of v.real).sizes k × (k < (log_of v.real).sizes.size)) where_ (home.outside, home.sized)

  -- ---- a count

  -- the record in hand is the one that is seen, and the node's
  count_puts : (count : ℕ) (c : Carry) (v : W) → Shows v.real v.seen → rules.May sizes.version h (Store n count) v.seen → AllInHand h c v.real v.seen
      → PutsRecord sizes.version h (Store n count) n tt (record (record_in c n) { nlink = pos count }) (Has (recorded_had c n (record (record_in c n) { nlink = pos count })) NothingMore) v.real v.seen
  count_puts count c v shows may all = by (c n) refl hand
    where
      mine : lock_holder n (tables_of v.real) ≡ Some h
      mine = sym (shows.tables.places.holders n) ∙ may.1.0.0

      hand : InHand h n (c n) v.real v.seen
      hand = all n mine

      old : Dinode
      old = inode_in (log_of v.real) n

      node : Node
      node = may.1.1.node

      held : HoldsAt (disk_of (log_of v.real)) v.real.owner n (Some node)
      held = subst (λ (o : Option Node). HoldsAt (disk_of (log_of v.real)) v.real.owner n o) may.1.1.is hand.holds

      is_old : IsDinode old
      is_old = seen_dinode v.real v.seen shows n (lock_range n h v.real v.seen shows may.1.0.0).1

      by : (o : Had) → c n ≡ o → InHand h n o v.real v.seen
          → PutsRecord sizes.version h (Store n count) n tt (record (record_in c n) { nlink = pos count }) (Has (recorded_had c n (record (record_in c n) { nlink = pos count })) NothingMore) v.real v.seen
      by Apart e none = absurd none.loaded_is
      by Emptied e none = absurd (none-some node (sym none.loaded_is.0 ∙ may.1.1.is))
      by (Has e l) is some =
          let laid = laid_before (disk_of (log_of v.real)) v.real.owner n node held in
          let same : record_in c n ≡ old = ap (λ (o : Had). (unwrap_or (record_had o) (unindexed no_record)).inode) is ∙ some.loaded_is.0 in
          let becomes = count_laid (disk_of (log_of v.real)) v.real.owner n count old node laid.0 in
          let new_ : record (record_in c n) { nlink = pos count } ≡ record old { nlink = pos count } = ap (λ (x : Dinode). record x { nlink = pos count }) same in
          let laid_there : IsLaidOut (disk_of (log_of v.real)) v.real.owner n (record (record_in c n) { nlink = pos count }) (record node { count = count }) =
          subst (λ (x : Dinode). IsLaidOut (disk_of (log_of v.real)) v.real.owner n x (record node { count = count })) (sym new_) becomes.laid in
          let named_there : NamesOwned (disk_of (log_of v.real)) v.real.owner n (numbers_of (disk_of (log_of v.real)) (record (record_in c n) { nlink = pos count })) =
          subst (λ (x : Dinode). NamesOwned (disk_of (log_of v.real)) v.real.owner n (numbers_of (disk_of (log_of v.real)) x)) (sym new_) (subst (NamesOwned (disk_of (log_of v.real)) v.real.owner n) (sym becomes.numbers) laid.1) in
          record {
            node = Some (record node { count = count });
            ran = (λ z. Ran tt (with_record v.seen n (Some (with_count count (node_or (may.1.1.is z))))));
            closed = λ w. tt;
            mine = may.1.0.0;
            keeps = hand.keeps;
            joined = may.1.0.1;
            free = may.0;
            is = subst IsDinode (sym new_) (count_fits old count node.count laid.0.inode.count is_old may.1.1.fits);
            has = (refl, (λ z. none-some (record node { count = count }) (sym z)), tt, indexed_file (log_of v.real).sizes.version (index_in c n) (v.seen.disk n) (Some (record node { count = count })) (ap all_slots may.1.1.is) (indexed_in (log_of v.real).sizes.version (c n) (v.seen.disk n) old hand.loaded_is));
            holds = λ new put_. node_held (disk_of (log_of v.real)) new v.real.owner n (record (record_in c n) { nlink = pos count }) (record node { count = count }) v_front bound put_ laid_there named_there;
          }
        where
          bound : n < (sizes_of (disk_of (log_of v.real))).ninodes
          bound =
              subst (λ (s : Super). n < s.ninodes) (sym (good_seen (log_of v.real).sizes (seen_of (log_of v.real)) (length (log_of v.real).contents) shows.blocks.seen).sizes_are)
              (lock_range n h v.real v.seen shows may.1.0.0).1

          v_front : UpToLog (disk_of (log_of v.real))
          v_front = shows.blocks.running.front

  pub store_acts : (count : ℕ) (m : Unit {0} → Option above.Mark) (Knows : World → Type 0) → GivesRoom h (inode_block sizes.inodestart n) Knows → (c : Carry) (B : List l.Step → Type 0) (C : Unit {0} → List l.Step → above.World → Type 0) (es : List l.Step) (w : W)
      → Lasts (labelled sizes.version l) h B C → Wp (labelled sizes.version l) h B C (once (Store n count) m) (suc (more (Store n count))) es w.seen → Stands sizes h w.real w.seen c → Knows w.real
      → Wp M h B (Below (labelled sizes.version l) (below sizes) h C) (store sizes n count c m) (suc (more (Store n count))) es w
  store_acts count m Knows gives c B C es w lasts todo stands knows =
      let d : Dinode = record (record_in c n) { nlink = pos count } in
      record_acts (Store n count) m tt d (Has (recorded_had c n d) NothingMore) c (λ v. tt) (AllInHand h c) (in_hand_then h c) (λ r g all i ne e. all i e) (λ v at_ shows inv may all. count_puts count c v shows may all) Knows gives B C lasts es w todo
      (record { free = stands.0.free; taken = stands.0.taken; through = stands.0.through; lent = stands.0.lent; this = stands.0.inodes; at = stands.1 }) knows
