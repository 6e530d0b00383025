-- A directory that has all its slots, and none free. The operation acts when the last block that is searched is given
-- back, and changes nothing.
use Rattle.inode_machine.specs.Exec as above_exec
use Rattle.inodes_on_blocks.proofs.Vocabulary.{◌≡◌, ℕ, zero, suc, ◌+◌, ◌*◌, ◌<◌, false, List, Option, Some, None, refl, sym, ◌∙◌, ap, subst, arith, Found, Unused, found_in, look_at, Dinode, Super, IsOutsideLog, block_len, holder_of, given_back, is_free, numbers_of, block_number, content_block, HoldsAt, Node, hart_count, Do, bind, unmarked, Ran, Machine, Laws, P, Wp, Both, joined, Lasts, ToAct, to_act, s-act, bind-assoc, Wp-more, lock_holder, Passes, Put, keeps_whole, leaves_own, shows_its_puts, BlockInHand, fetch_block, marked, with_mark, World, log_of, tables_of, disk_of, inode_in, if_none, look_last, search_full, Acts, acts, in_hand, SameBut, IsFetched, KeepsInode, Same, Kept, below, Labels, labelled, Keeps}
use Rattle.directory.proofs.Indexed.{else_searched, searched_from}
use Rattle.directory.specs.Indexes.{raised}
use Rattle.directory.specs.Programs.{Searched, or_next}
use Rattle.fs_machine.specs.InMemory.{IndexState}
use Rattle.fs_machine.specs.Premises as premises
use Rattle.fs_machine.specs.Steps as steps
use Rattle.inode_machine.specs.World as above
use Rattle.inode_machine.specs.Rules as rules
use Rattle.inodes_on_blocks.proofs.Basics.{kept_then, same_inode, holds_now, used_now, block_stays, content_stays, IsQuiet, with_buffers, but_same, but_then, held_then, quiet_shows, quiet_others, quiet_but, s-back, back_hand, below_laws, same_again, marked_same, shows_marked}
use Rattle.inodes_on_blocks.proofs.ContentFetch.{s-content, s-touch}
use Rattle.inodes_on_blocks.proofs.ContentReads.{touches, touches_are}

-- nothing is found after the last block
abbrev none_behind : IndexState → Searched
none_behind x = record { found = None; index = x }

module _ (sizes : Super) (l : Labels) (laws : Laws (labelled sizes.version l)) (keeps : Keeps l) (h : ℕ) (lt : h < hart_count) (B : List l.Step → Type 0) where
  abbrev W : Type 0
  W = Both World above.World

  abbrev M : Machine
  M = joined (labelled sizes.version l) (below sizes)

  module _ (op : above.Op) (m : above.Answer op → Option above.Mark) (C : above.Answer op → List l.Step → above.World → Type 0) (lasts : Lasts (labelled sizes.version l) h B C) (outside : above.Outside) (answer : above.Answer op)
      (honest : (v : W) → rules.Honest h op v.seen outside) where
    abbrev Todo : List l.Step → above.World → Type 0
    Todo = ToAct (labelled sizes.version l) (below sizes) laws (below_laws sizes l keeps) h B op m C lasts

    -- How it goes on, from w, with this below: it acted in the world v above, and block b's buffer is back.
    pub record ActedAt (b : ℕ) (w v : W) (r : World) (gs : List l.Step) : Type 0 where
      pub since : SameBut h b w.real r
      pub kept : Kept h w.seen v.seen
      pub may : rules.May sizes.version h op v.seen
      pub done : C answer gs (marked sizes.version h (m answer) v.seen)
      pub count : in_hand h w.real ≡ suc (in_hand h r)

    -- A buffer is given back as it was, and there the operation acts, which changes nothing above but for its mark.
    pub s-back-acts : {A : Type 0} (Q : A → List l.Step → W → Type 0) (b : ℕ) (k : Unit {0} → P M A) (j : ℕ) (es : List l.Step) (w : W) → Todo es w.seen → holder_of b (log_of w.real).seats ≡ Some h → IsOutsideLog (log_of w.real).sizes b
        → ((v : W) → Kept h w.seen v.seen → rules.May sizes.version h op v.seen → above_exec.exec sizes.version h outside op v.seen ≡ Ran answer v.seen)
        → ((v : W) (r : World) (gs : List l.Step) → ActedAt b w v r gs → Wp M h B Q (k tt) j gs (record { real = r; seen = marked sizes.version h (m answer) v.seen }))
        → Wp M h B Q (Do (Put b None) (λ a. acts op outside m) k) (suc j) es w
    unfolding steps.exec premises.May premises.MayWait premises.Honest
    s-back-acts Q b k j es w todo out outside_log still rest =
        s-act (labelled sizes.version l) (below sizes) laws (below_laws sizes l keeps) h B op m C lasts outside (Put b None) k Q j es w todo
        (λ v fs here asked.
        let may : premises.May h (Put b None) v.real.state = ((held_then h b w.real v.real (here.same.buffers b) out).0, subst (λ (s : Super). IsOutsideLog s b) (sym here.same.sizes) outside_log, tt) in
        let ss = given_back b (log_of v.real).seats in
        let quiet : IsQuiet h (log_of v.real) ss = record {
          whole = keeps_whole h Passes (Put b None) v.real.state here.shows.whole may tt;
          alike = shows_its_puts h Passes (Put b None) v.real.state here.shows.whole may tt;
          own = λ g ne. leaves_own h g Passes (Put b None) v.real.state ne here.shows.whole may tt;
        } in
        let back = back_hand h b (log_of v.real).seats may.0 in
        let g = marked sizes.version h (m answer) v.seen in (
          may,
          λ y t. (
            answer,
            g,
            ap (with_mark sizes.version h m) (still v here.kept asked),
            honest v,
            (λ inv. shows_marked (with_buffers v.real ss) v.seen g (marked_same sizes.version h (m answer) v.seen) (quiet_shows h v.real v.seen here.shows ss quiet)),
            quiet_others h v.real v.seen here.shows ss quiet,
            λ gs inv done.
                rest v (with_buffers v.real ss) gs (record {
                  since = but_then h b w.real v.real (with_buffers v.real ss) (but_same h b w.real v.real here.same) (quiet_but h v.real v.seen here.shows ss quiet b back.others);
                  kept = here.kept;
                  may = asked;
                  done = done;
                  count = sym here.same.held ∙ back.count;
                }),
          ),
        ))

    -- ---- the search

    module _ {A : Type 0} (Q : A → List l.Step → W → Type 0) (i : ℕ) (o : Option Node) (g : Searched → P M A) (j : ℕ) (w : W)
        (holds : HoldsAt (disk_of (log_of w.real)) w.real.owner i o) (used : is_free (inode_in (log_of w.real) i) ≡ false) (mine : lock_holder i (tables_of w.real) ≡ Some h) (empty : in_hand h w.real ≡ 0) where
      abbrev d : Dinode
      d = inode_in (log_of w.real) i

      abbrev content : ℕ → List ℕ
      content q = content_block (disk_of (log_of w.real)) d q

      abbrev act : Option Acts
      act = acts op outside m

      -- if a free slot was found it must still act; else it has acted
      pub record Rests (found : Searched) : Type 0 where
        pub some : (f : Found) → found.found ≡ Some f → (v : W) (fs : List l.Step) → Same h w.real v.real → Kept h w.seen v.seen → Todo fs v.seen → Wp M h B Q (g found) j fs v
        pub none : found.found ≡ None → (v : W) (r : World) (gs : List l.Step) → Same h w.real r → Kept h w.seen v.seen → rules.May sizes.version h op v.seen → C answer gs (marked sizes.version h (m answer) v.seen) → Wp M h B Q (g found) j gs (record { real = r; seen = marked sizes.version h (m answer) v.seen })
        -- nothing was found: what is above stays
        pub stays : found.found ≡ None → (v : W) → Kept h w.seen v.seen → rules.May sizes.version h op v.seen → above_exec.exec sizes.version h outside op v.seen ≡ Ran answer v.seen

      -- at u, in the same way
      module _ (u : W) (same : Same h w.real u.real) (kept : Kept h w.seen u.seen) (k : ℕ) (within : block_len * k < d.size) where
        stays_u : KeepsInode h i w.real u.real
        stays_u = same.inodes i mine

        inode : inode_in (log_of u.real) i ≡ d
        inode = same_inode h i w.real u.real stays_u o holds used

        holds_u : HoldsAt (disk_of (log_of u.real)) u.real.owner i o
        holds_u = holds_now h i w.real u.real stays_u o holds used

        used_u : is_free (inode_in (log_of u.real) i) ≡ false
        used_u = used_now h i w.real u.real stays_u o holds used

        within_u : block_len * k < (inode_in (log_of u.real) i).size
        within_u = subst (λ (x : Dinode). block_len * k < x.size) (sym inode) within

        block_is : content_block (disk_of (log_of u.real)) (inode_in (log_of u.real) i) k ≡ content k
        block_is = ap (λ (x : Dinode). content_block (disk_of (log_of u.real)) x k) inode ∙ content_stays h i w.real u.real stays_u o holds used k within

        none_u : in_hand h u.real ≡ 0
        none_u = same.held ∙ empty

        -- the last block
        last : (x : IndexState) (es : List l.Step) → Todo es u.seen → Rests (else_searched (found_in sizes.version Unused d k (content k)) (raised sizes.version d k (content k) x) none_behind)
            → Wp M h B Q (bind (bind (fetch_block d k) (look_last sizes.version act d k x)) g) (suc (suc (suc (suc (suc (suc j)))))) es u
        last x es todo rests =
            subst (λ (p : P M A). Wp M h B Q p (suc (suc (suc (suc (suc (suc j)))))) es u) (sym (bind-assoc (fetch_block d k) (look_last sizes.version act d k x) g))
            (subst (λ (y : Dinode). Wp M h B Q (bind (fetch_block y k) (λ f. bind (look_last sizes.version act d k x f) g)) (suc (suc (suc (suc (suc (suc j)))))) es u) inode
            (s-content sizes l laws keeps h lt B Q Todo (to_act (labelled sizes.version l) (below sizes) laws (below_laws sizes l keeps) h B op m C lasts) i k o (λ f. bind (look_last sizes.version act d k x f) g) (suc j) u holds_u used_u stays_u.lock within_u none_u
            (λ v fs got.
            let stays_v = got.since.inodes i stays_u.lock in
            let there = block_stays h i u.real v.real stays_v o holds_u used_u v.seen got.shows k within_u in
            subst (λ (bytes : List ℕ). Wp M h B Q (bind (look_last sizes.version act d k x (record { number = b; bytes = bytes })) g) (suc j) fs v) (sym block_is)
            (by v fs got there.place.0 (found_in sizes.version Unused d k (content k)) (raised sizes.version d k (content k) x) rests))
            es todo))
          where
            b : ℕ
            b = block_number (numbers_of (disk_of (log_of u.real)) (inode_in (log_of u.real) i)) k

            by : (v : W) (fs : List l.Step) → IsFetched h b (Todo fs) u v → IsOutsideLog (log_of v.real).sizes b → (here : Option Found) (y : IndexState) → Rests (else_searched here y none_behind)
                → Wp M h B Q (Do (Put b None) (λ _. if_none here act) (λ _. g (record { found = here; index = y }))) (suc j) fs v
            by v fs got out (Some f) y rests =
                s-back sizes l laws keeps h lt B Q Todo (to_act (labelled sizes.version l) (below sizes) laws (below_laws sizes l keeps) h B op m C lasts) b (λ _. g (record { found = Some f; index = y })) j fs v got.stage got.buffer.holder out
                (λ z gs back.
                let same_z = same_again h b u.real z.real (but_then h b u.real v.real z.real got.since back.since) none_u (let up = got.count in let down = back.count in let zero_ = none_u in omega (arith, up, down, zero_)) in
                rests.some f refl z gs ((below_laws sizes l keeps).trans h w.real u.real z.real same same_z) (kept_then h w.seen u.seen z.seen kept (kept_then h u.seen v.seen z.seen got.kept back.kept)) back.stage)
            by v fs got out None y rests =
                s-back-acts Q b (λ _. g (record { found = None; index = y })) j fs v got.stage got.buffer.holder out
                (λ z kept_z asked. rests.stays refl z (kept_then h w.seen u.seen z.seen kept (kept_then h u.seen v.seen z.seen got.kept kept_z)) asked)
                (λ z r gs acted.
                let same_r = same_again h b u.real r (but_then h b u.real v.real r got.since acted.since) none_u (let up = got.count in let down = acted.count in let zero_ = none_u in omega (arith, up, down, zero_)) in
                rests.none refl z r gs ((below_laws sizes l keeps).trans h w.real u.real r same same_r) (kept_then h w.seen u.seen z.seen kept (kept_then h u.seen v.seen z.seen got.kept acted.kept)) acted.may acted.done)

      pub s-full : (n k : ℕ) (x : IndexState) (u : W) (es : List l.Step) → Same h w.real u.real → Kept h w.seen u.seen → Todo es u.seen → ((q : ℕ) → q < suc n → block_len * (k + q) < d.size) → Rests (searched_from sizes.version (suc n) Unused d content k x)
          → Wp M h B Q (bind (search_full sizes.version act n d k x) g) (touches (suc n) j) es u
      unfolding search_full touches searched_from
      s-full zero k x u es same kept todo within rests = last u same kept k (let b = within 0 (omega arith) in omega (arith, b)) x es todo rests
      s-full (suc n) k x u es same kept todo within rests =
          subst (λ (p : P M A). Wp M h B Q p (touches (suc (suc n)) j) es u) (sym (bind-assoc (fetch_block d k) (look_at sizes.version Unused d k x (search_full sizes.version act n d (k + 1))) g))
          (subst (λ (y : Dinode). Wp M h B Q (bind (fetch_block y k) (λ f. Do (Put f.number None) unmarked (λ _. next f))) (touches (suc (suc n)) j) es u) (inode u same kept k first)
          (s-touch sizes l laws keeps h lt B Q Todo (to_act (labelled sizes.version l) (below sizes) laws (below_laws sizes l keeps) h B op m C lasts) i k o next (touches (suc n) j) u (holds_u u same kept k first) (used_u u same kept k first) (stays_u u same kept k first).lock
          (within_u u same kept k first) (none_u u same kept k first)
          (λ v fs t.
          let same_v = (below_laws sizes l keeps).trans h w.real u.real v.real same t.same in
          let kept_v = kept_then h w.seen u.seen v.seen kept t.kept in
          subst (λ (bytes : List ℕ). Wp M h B Q (bind (or_next (found_in sizes.version Unused d k bytes) (raised sizes.version d k bytes x) (search_full sizes.version act n d (k + 1))) g) (touches (suc n) j) fs v) (sym (block_is u same kept k first))
          (by v fs same_v kept_v t.stage (found_in sizes.version Unused d k (content k)) (raised sizes.version d k (content k) x) rests
          (λ behind. s-full n (k + 1) (raised sizes.version d k (content k) x) v fs same_v kept_v t.stage (λ q lt_q. let b = within (q + 1) (omega (arith, lt_q)) in omega (arith, b)) behind)))
          es todo))
        where
          first : block_len * k < d.size
          first = let b = within 0 (omega arith) in omega (arith, b)

          next : BlockInHand → P M A
          next f = bind (or_next (found_in sizes.version Unused d k f.bytes) (raised sizes.version d k f.bytes x) (search_full sizes.version act n d (k + 1))) g

          by : (v : W) (fs : List l.Step) → Same h w.real v.real → Kept h w.seen v.seen → Todo fs v.seen → (here : Option Found) (y : IndexState) → Rests (else_searched here y (searched_from sizes.version (suc n) Unused d content (k + 1)))
              → (Rests (searched_from sizes.version (suc n) Unused d content (k + 1) y) → Wp M h B Q (bind (search_full sizes.version act n d (k + 1) y) g) (touches (suc n) j) fs v) → Wp M h B Q (bind (or_next here y (search_full sizes.version act n d (k + 1))) g) (touches (suc n) j) fs v
          by v fs same kept stage (Some f) y rests behind =
              Wp-more M h (g (record { found = Some f; index = y })) B Q j (touches (suc n) j) fs v (let more = touches_are (suc n) j in omega (arith, more)) (rests.some f refl v fs same kept stage)
          by v fs same kept stage None y rests behind = behind rests
