-- An operation that puts the record of an inode that the hart was changing acts at the put.
use Rattle.inodes_on_blocks.proofs.Vocabulary.{◌≡◌, ◌≢◌, ℕ, suc, ◌<◌, false, List, length, Option, Some, None, is_some, sym, ◌∙◌, ap, subst, arith, Super, Dinode, IsDinode, IsOutsideLog, holder_of, kept, has, HasRoom, Node, put, hart_count, Ret, bind, Ran, Laws, Machine, Wp, Both, joined, Below, Lasts, Handover, Wp-weaker, Here, ToAct, to_act, may_act, Acting, s-act, Outside, fetch, seen_of, Put, inode_block, with_dinode, marked, with_mark, Inv, World, log_of, exec, KeepsRoom, world_with, in_hand, IsFetched, NothingMore, Has, Carry, below, Labels, labelled, Keeps, put_named, CanPut, IsChanging, owners_with, GivesRoom, Shows, block_len}
use Rattle.fs_machine.specs.Steps as steps
use Rattle.fs_machine.specs.Premises as premises
use Rattle.fs_machine.specs.InMemory.{IndexState, Loaded}
use Rattle.inode_machine.specs.World as above
use Rattle.inodes_on_blocks.specs.Indexes.{IsIndexOf}
use Rattle.inode_machine.specs.Exec as above_exec
use Rattle.inode_machine.specs.Rules as rules
use Rattle.inodes_on_blocks.specs.Recording.{with_record}
use Rattle.inodes_on_blocks.proofs.Changing.{Changing, left_but, left_same, changing_then}
use Rattle.inodes_on_blocks.proofs.Basics.{buffer_then, buffer_seen, s-fetch, back_hand, below_laws, base_marked, inode_place, marked_same, shows_marked, same_put, lock_range, may_put, stored_long, stored_bytes, inode_home}
use Rattle.inodes_on_blocks.proofs.NamingPuts.{naming_leaves, shows_both, base_then}

module _ (sizes : Super) (l : Labels) (laws : Laws (labelled sizes.version l)) (keeps : Keeps l) (h : ℕ) (lt : h < hart_count) (n : ℕ) where
  abbrev W : Type 0
  W = Both World above.World

  abbrev M : Machine
  M = joined (labelled sizes.version l) (below sizes)

  -- the block of an inode
  abbrev at : World → ℕ
  at r = inode_block (log_of r).sizes.inodestart n

  module _ (op : above.Op) (outside : above.Outside) (m : above.Answer op → Option above.Mark) (answer : above.Answer op) (c : Carry) (o : Option Node) (d : Dinode) (x : Node) (index : IndexState) (right : IsIndexOf sizes.version index (Some x)) (fits : IsDinode d)
      (honest : (v : W) → rules.Honest h op v.seen outside) (asks : (g : above.World) → rules.May sizes.version h op g → IsChanging h n g × ((g.desks h).lender ≡ None))
      (ran : (g : above.World) → rules.May sizes.version h op g → g.disk n ≡ o → above_exec.exec sizes.version h outside op g ≡ Ran answer (above_exec.with_record g n (Some x)))
      (Knows Then : World → Type 0) (room : KeepsRoom h (inode_block sizes.inodestart n) Knows Then)
      (B : List l.Step → Type 0) (C : above.Answer op → List l.Step → above.World → Type 0) (lasts : Lasts (labelled sizes.version l) h B C) where
    abbrev b : ℕ
    b = inode_block sizes.inodestart n

    abbrev loads : Loaded
    loads = record { inode = d; index = index }

    abbrev Q : Handover (above.Answer op) Carry → List l.Step → W → Type 0
    Q r fs u = Below (labelled sizes.version l) (below sizes) h C r fs u × Then u.real

    abbrev Todo : List l.Step → above.World → Type 0
    Todo = ToAct (labelled sizes.version l) (below sizes) laws (below_laws sizes l keeps) h B op m C lasts

    abbrev IsChanged : W → Type 0
    IsChanged v = Changing h n c o d x v.real v.seen

    abbrev Acts : (v : W) → ℕ → List ℕ → Type 0
    Acts v k bytes =
        premises.May h (Put k (Some bytes)) v.real.state × ((y : Outside) → premises.Honest h (Put k (Some bytes)) v.real.state y
        → Acting (labelled sizes.version l) (below sizes) laws (below_laws sizes l keeps) h B op m C lasts outside v (premises.MayWait h (Put k (Some bytes)) v.real.state) (exec h y (Put k (Some bytes)) v.real)
        (λ a z u g. (gs : List l.Step) → Inv g → C z gs g → Wp M h B Q (Ret (record { answer = answer; carry = put c n (Has loads NothingMore) })) 0 gs (record { real = u; seen = g })))

    -- the put, with the buffer in hand
    acts_there : (v : W) → Shows v.real v.seen → rules.May sizes.version h op v.seen → IsChanged v → in_hand h v.real ≡ 1 → CanPut h (at v.real) (with_record n d v.real) (log_of v.real) → (log_of v.real).sizes ≡ sizes → Then (world_with h (at v.real) (with_record n d v.real) v.real) → Acts v (at v.real) (with_record n d v.real)
    unfolding steps.exec premises.MayWait premises.Honest
    acts_there v shows may changing one can here spent =
        let r = v.real in
        let is = (asks v.seen may).0 in
        let free = (asks v.seen may).1 in
        let put_then = world_with h (at r) (with_record n d r) r in
        let then_ = above_exec.with_record v.seen n (Some x) in
        let g = marked sizes.version h (m answer) then_ in
        let s = marked_same sizes.version h (m answer) then_ in (
          may_put h (at r) (with_record n d r) r.state shows.whole shows.blocks.seen can,
          λ y t. (
            answer,
            g,
            ap (with_mark sizes.version h m) (ran v.seen may changing.was),
            honest v,
            (λ inv. shows_marked put_then then_ g s (shows_both h n c o d x r v.seen shows changing is fits can)),
            same_put h (at r) n (with_record n d r) r v.seen shows is.lock is.joined can (owners_with h (at r) (with_record n d r) r) (naming_leaves h n c o d x r v.seen shows changing is fits can),
            λ gs inv done. ((done, (base_marked h put_then then_ g (put c n (Has loads NothingMore)) s free (base_then h n c o d x r v.seen shows changing is fits can index (subst (λ (z : Super). IsIndexOf z.version index (Some x)) (sym here) right) one free), here)), spent),
          ),
        )

    -- and from the fetch of the block on
    names_then : (w v : W) (fs : List l.Step) → Shows w.real w.seen → IsChanged w → in_hand h w.real ≡ 0 → (log_of w.real).sizes ≡ sizes → Knows w.real → IsFetched h b (Todo fs) w v
        → Wp M h B Q (put_named op outside m answer b n loads c (seen_of (log_of v.real) b)) 1 fs v
    names_then w v fs shows changing none here_ knows got =
        s-act (labelled sizes.version l) (below sizes) laws (below_laws sizes l keeps) h B op m C lasts outside (Put b (Some (with_dinode n d (seen_of (log_of v.real) b))))
        (λ a. Ret (record { answer = answer; carry = put c n (Has loads NothingMore) })) Q 0 fs v got.stage
        (λ u gs here may.
        let middle = changing_then h n c o d x w.real v.real w.seen v.seen shows got.shows (left_but h b w.real v.real got.since) got.kept changing in
        let there = changing_then h n c o d x v.real u.real v.seen u.seen got.shows here.shows (left_same h v.real u.real here.same) here.kept middle in
        let is = (asks u.seen may).0 in
        let where_ : b ≡ at u.real = ap (λ (s : Super). inode_block s.inodestart n) (sym (here.same.sizes ∙ got.since.sizes ∙ here_)) in
        let buffer = buffer_then h b (seen_of (log_of v.real) b) v.real u.real (here.same.buffers b) got.buffer in
        let bytes : seen_of (log_of u.real) (at u.real) ≡ seen_of (log_of v.real) b = ap (seen_of (log_of u.real)) (sym where_) ∙ buffer_seen h b (seen_of (log_of v.real) b) u.real buffer in
        let range = lock_range n h u.real u.seen here.shows is.lock in
        let home = inode_home (log_of u.real) n here.shows.blocks.seen.good here.shows.blocks.seen.sized range.1 in
        let long : length (seen_of (log_of u.real) (at u.real)) ≡ block_len = here.shows.blocks.seen.whole (at u.real) home.within home.outside in
        let knows_there : Knows u.real = room.gives.lasts v.real u.real here.same (room.gives.fetched b w.real v.real got.since knows) in
        let can : CanPut h (at u.real) (with_record n d u.real) (log_of u.real) = record {
          holder = subst (λ (k : ℕ). holder_of k (log_of u.real).seats ≡ Some h) where_ buffer.holder;
          valid = ap (λ (z : Option (List ℕ)). is_some z) (subst (λ (k : ℕ). kept k (log_of u.real).seats ≡ Some (seen_of (log_of v.real) b)) where_ buffer.has);
          joined = sym (here.shows.members h lt) ∙ is.joined;
          runs = here.shows.runs;
          home = home;
          room = subst (λ (k : ℕ). has (log_of u.real).group k ≡ false → HasRoom (log_of u.real).members h) where_ (room.gives.room u.real knows_there (sym (here.shows.members h lt) ∙ is.joined));
          long = stored_long n d (seen_of (log_of u.real) (at u.real)) fits long;
          are = stored_bytes n d (seen_of (log_of u.real) (at u.real)) (here.shows.bytes (at u.real) home.within home.outside);
        } in
        subst (λ (q : ℕ × List ℕ). Acts u q.0 q.1) (λ z. (sym where_ z, with_dinode n d (bytes z)))
        (acts_there u here.shows may there (here.same.held ∙ got.count ∙ ap suc none) can (here.same.sizes ∙ got.since.sizes ∙ here_) (subst (λ (k : ℕ). Then (world_with h k (with_record n d u.real) u.real)) where_ (room.put (with_record n d u.real) u.real knows_there))))

    pub naming_keeps : (es : List l.Step) (w : W) → Todo es w.seen → Shows w.real w.seen → IsChanged w → in_hand h w.real ≡ 0 → (log_of w.real).sizes ≡ sizes → Knows w.real → Wp M h B Q (bind (fetch b) (put_named op outside m answer b n loads c)) 3 es w
    naming_keeps es w todo shows changing none here_ knows =
        s-fetch sizes l laws keeps h lt B Q Todo (to_act (labelled sizes.version l) (below sizes) laws (below_laws sizes l keeps) h B op m C lasts) b (put_named op outside m answer b n loads c) 1 es w todo (omega (arith, none)) place none_held
        (λ v fs got. names_then w v fs shows changing none here_ knows got)
      where
        none_held : holder_of b (log_of w.real).seats ≢ Some h
        none_held out = let back = (back_hand h b (log_of w.real).seats out).count in omega (arith, back, none)

        place : (v : W) (fs : List l.Step) → Here (labelled sizes.version l) (below sizes) laws (below_laws sizes l keeps) h B Todo w v fs → IsOutsideLog (log_of v.real).sizes b × (b < (log_of v.real).sizes.size)
        place v fs here =
            let may = may_act (labelled sizes.version l) (below sizes) laws (below_laws sizes l keeps) h B op m C lasts fs v.seen here.stage here.inv in
            let range = lock_range n h v.real v.seen here.shows ((asks v.seen may).0.lock) in
            subst (λ (s : Super). IsOutsideLog (log_of v.real).sizes (inode_block s.inodestart n) × (inode_block s.inodestart n < (log_of v.real).sizes.size)) (here.same.sizes ∙ here_) (inode_place v.real v.seen here.shows n range.1)

  -- the same, if no more is asked of what was spent
  module _ (op : above.Op) (outside : above.Outside) (m : above.Answer op → Option above.Mark) (answer : above.Answer op) (c : Carry) (o : Option Node) (d : Dinode) (x : Node) (index : IndexState) (right : IsIndexOf sizes.version index (Some x)) (fits : IsDinode d)
      (honest : (v : W) → rules.Honest h op v.seen outside) (asks : (g : above.World) → rules.May sizes.version h op g → IsChanging h n g × ((g.desks h).lender ≡ None))
      (ran : (g : above.World) → rules.May sizes.version h op g → g.disk n ≡ o → above_exec.exec sizes.version h outside op g ≡ Ran answer (above_exec.with_record g n (Some x)))
      (Knows : World → Type 0) (gives : GivesRoom h (inode_block sizes.inodestart n) Knows)
      (B : List l.Step → Type 0) (C : above.Answer op → List l.Step → above.World → Type 0) (lasts : Lasts (labelled sizes.version l) h B C) (es : List l.Step) (w : W) where
    pub naming_acts : ToAct (labelled sizes.version l) (below sizes) laws (below_laws sizes l keeps) h B op m C lasts es w.seen → Shows w.real w.seen → Changing h n c o d x w.real w.seen → in_hand h w.real ≡ 0 → (log_of w.real).sizes ≡ sizes → Knows w.real
        → Wp M h B (Below (labelled sizes.version l) (below sizes) h C) (bind (fetch (inode_block sizes.inodestart n)) (put_named op outside m answer (inode_block sizes.inodestart n) n (record { inode = d; index = index }) c)) 3 es w
    naming_acts todo shows changing none here_ knows =
        Wp-weaker M h (bind (fetch (inode_block sizes.inodestart n)) (put_named op outside m answer (inode_block sizes.inodestart n) n (record { inode = d; index = index }) c)) B B (λ r fs u. Below (labelled sizes.version l) (below sizes) h C r fs u × Unit {0}) (Below (labelled sizes.version l) (below sizes) h C) 3 es w (λ fs e. e) (λ r fs u e. e.0)
        (naming_keeps op outside m answer c o d x index right fits honest asks ran Knows (λ u. Unit {0}) (record { gives = gives; put = λ bytes r known. tt }) B C lasts es w todo shows changing none here_ knows)
