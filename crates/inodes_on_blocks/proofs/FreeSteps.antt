-- An inode without links is freed: its content is given back, and its record goes into its block without that. Then
-- the record is put once more without a type, and with this the operation acts.
use Rattle.inode_machine.specs.Rules as rules
use Rattle.inodes_on_blocks.proofs.Vocabulary.{◌≡◌, ◌≢◌, ℕ, suc, ◌<◌, false, List, [], length, Option, Some, None, refl, sym, ◌∙◌, ap, subst, arith, Super, Dinode, IsDinode, IsOutsideLog, has, HasRoom, Node, hart_count, bind, once, Laws, Machine, P, Wp, Both, joined, Below, Lasts, Handover, Here, ToAct, to_act, may_act, Stable, bind-assoc, Wp-more, lock_holder, LogPart, put_block, fetch, seen_of, without_content, freed, inode_block, put_inode, with_dinode, store_inode, Inv, Idle, more, Owners, World, log_of, tables_of, disk_of, owners_of, KeepsRoom, world_with, in_hand, HasBuffer, IsFetched, Emptied, Carry, Stands, below, Labels, labelled, Keeps, IsThrough, CanPut, IsChanging, Shows, record_in, put_record, had_in, block_len}
use Rattle.inodes_on_blocks.proofs.Basics.{freed_held, buffer_then, buffer_seen, s-fetch, below_laws, lent_then, through_then, through_put, empty_hand, after, lock_range, quiet_owners, Ready, inode_home, untaken, place_in, can_record, others_then, none_then, named_then, open_same}
use Rattle.inode_machine.specs.World as above
use Rattle.inode_machine.specs.World.Op.{Free}
use Rattle.inodes_on_blocks.specs.Emptying.{free}
use Rattle.inodes_on_blocks.proofs.EmptySteps.{HasNone, none_lasts, Begins, s-none}
use Rattle.inodes_on_blocks.proofs.ContentGiven.{content_steps}
use Rattle.inodes_on_blocks.proofs.PutLaws.{record_puts_leave}
use Rattle.inodes_on_blocks.proofs.PutSteps.{Putting, s-put}
use Rattle.inodes_on_blocks.proofs.StoreSteps.{PutsRecord, record_acts}

freed_fits : (d : Dinode) → IsDinode d → IsDinode (freed d)
freed_fits d is = record { kind = omega arith; major = is.major; minor = is.minor; nlink = is.nlink; size = is.size; thirteen = is.thirteen; addrs = is.addrs }

module _ (sizes : Super) (l : Labels) (laws : Laws (labelled sizes.version l)) (keeps : Keeps l) (h : ℕ) (lt : h < hart_count) where
  abbrev W : Type 0
  W = Both World above.World

  abbrev M : Machine
  M = joined (labelled sizes.version l) (below sizes)

  -- ---- a record stored on the way

  module _ (n : ℕ) (Knows : World → Type 0) (room : KeepsRoom h (inode_block sizes.inodestart n) Knows Knows) (B : List l.Step → Type 0) {A : Type 0} (c : Carry) (d : Dinode) (is : IsDinode d) (o : Option Node) (k : P M A) (j : ℕ) (Q : A → List l.Step → W → Type 0)
      (G : List l.Step → above.World → Type 0) (stable : Stable (labelled sizes.version l) (below sizes) laws (below_laws sizes l keeps) h B G) (changing : (fs : List l.Step) (g : above.World) → G fs g → Inv g → IsChanging h n g)
      (rest : (y : W) (gs : List l.Step) → G gs y.seen → Knows y.real → Ready sizes h (HasNone h n c o) y.real y.seen → Wp M h B Q k j gs y) where
    abbrev b : ℕ
    b = inode_block sizes.inodestart n

    abbrev IsHere : W → W → List l.Step → Type 0
    IsHere w v fs = Here (labelled sizes.version l) (below sizes) laws (below_laws sizes l keeps) h B G w v fs

    abbrev IsPutting : (at : ℕ) → List ℕ → List l.Step → W → Type 0
    IsPutting at bytes gs u = Putting sizes l laws keeps h lt B Q G stable n at bytes (λ _. k) j gs u

    -- the put, with the buffer in hand
    there : (u : W) (gs : List l.Step) → G gs u.seen → Shows u.real u.seen → IsChanging h n u.seen → HasNone h n c o u.real u.seen
        → CanPut h (place_in n u.real) (with_dinode n d (seen_of (log_of u.real) (place_in n u.real))) (log_of u.real) × (length (seen_of (log_of u.real) (place_in n u.real)) ≡ block_len)
        → ((i : ℕ) → u.real.taken i ≢ Some h) → IsThrough h u.real → (((u.seen.desks h).lender ≡ None → ⊥) → Idle h u.seen) → in_hand h u.real ≡ 1 → (log_of u.real).sizes ≡ sizes
        → Knows (world_with h (place_in n u.real) (with_dinode n d (seen_of (log_of u.real) (place_in n u.real))) u.real)
        → IsPutting (place_in n u.real) (with_dinode n d (seen_of (log_of u.real) (place_in n u.real))) gs u
    there u gs stage shows changes this can none through lent one at knows =
        let r = u.real in
        let stored_ : List ℕ = with_dinode n d (seen_of (log_of r) (place_in n r)) in
        let now : LogPart = put_block h (place_in n r) (Some stored_) (log_of r) in
        let then_all : (ow : Owners) → World = (λ ow. after h (place_in n r) n stored_ r u.seen shows changes.lock changes.joined can.0 ow) in
        let same_owners = quiet_owners (λ i. lock_holder i (tables_of r)) h (disk_of now) (owners_of r) none (log_of r).sizes.bmapstart (place_in n r) (disk_of (log_of r)) before in
        record {
          changing = changes;
          can = can.0;
          leaves = record_puts_leave h n d r u.seen shows changes is none can.0;
          goes_on = λ shows_then count.
              subst (λ (ow : Owners). Wp M h B Q k j gs (record { real = then_all ow; seen = u.seen })) (sym same_owners)
              (rest (record { real = then_all (owners_of r); seen = u.seen }) gs stage (subst (λ (ow : Owners). Knows (then_all ow)) same_owners knows)
              (record {
                free = none_then h n d c r u.seen shows changes.lock changes.joined is can.0 can.1 one;
                taken = none;
                through = through_put h r (then_all (owners_of r)) now refl refl through;
                lent = lent;
                this = record {
                  others = others_then h n d c r u.seen shows changes.lock changes.joined is can.0 can.1 this.others u.seen (λ i ne. refl) (λ i. refl) (λ i. open_same h i u.seen);
                  mine = this.mine;
                  keeps = this.keeps;
                  node = this.node;
                  none = named_then h n d c r u.seen shows changes.lock changes.joined is can.0 can.1 [] this.none;
                };
                at = at;
              }));
        }
      where
        before : place_in n u.real ≢ (log_of u.real).sizes.bmapstart
        before e = let inodes = shows.blocks.seen.good.inodes in let bound = (lock_range n h u.real u.seen shows changes.lock).1 in absurd (omega (arith, inodes, bound, e))

    -- and from the fetch of the block on
    puts : (x v u : W) (fs gs : List l.Step) → Ready sizes h (HasNone h n c o) x.real x.seen → Knows x.real → IsFetched h b (G fs) x v → IsHere v u gs → IsPutting b (with_dinode n d (seen_of (log_of v.real) b)) gs u
    puts x v u fs gs ready knows got here =
        let changes = changing gs u.seen here.stage here.inv in
        let middle = none_lasts h n c o x.real v.real x.seen v.seen got.since.sizes got.since.inodes got.since.no_more got.kept ready.lent ready.this in
        let lent = lent_then h x.seen v.seen got.kept ready.lent in
        let this = none_lasts h n c o v.real u.real v.seen u.seen here.same.sizes here.same.inodes here.same.no_more here.kept lent middle in
        let where_ : b ≡ place_in n u.real = ap (λ (s : Super). inode_block s.inodestart n) (sym (here.same.sizes ∙ got.since.sizes ∙ ready.at)) in
        let buffer = buffer_then h b (seen_of (log_of v.real) b) v.real u.real (here.same.buffers b) got.buffer in
        let bytes : seen_of (log_of u.real) (place_in n u.real) ≡ seen_of (log_of v.real) b = ap (seen_of (log_of u.real)) (sym where_) ∙ buffer_seen h b (seen_of (log_of v.real) b) u.real buffer in
        let stored_ : List ℕ = with_dinode n d (seen_of (log_of u.real) (place_in n u.real)) in
        let knows_there : Knows u.real = room.gives.lasts v.real u.real here.same (room.gives.fetched b x.real v.real got.since knows) in
        let can = can_record h n d (seen_of (log_of v.real) b) u.real u.seen lt here.shows changes.lock changes.joined is (subst (λ (i : ℕ). HasBuffer h i (seen_of (log_of v.real) b) u.real) where_ buffer)
        (subst (λ (i : ℕ). has (log_of u.real).group i ≡ false → HasRoom (log_of u.real).members h) where_ (room.gives.room u.real knows_there (sym (here.shows.members h lt) ∙ changes.joined))) in
        let none = untaken h v.real u.real here.same.taken (untaken h x.real v.real got.since.taken ready.taken) in
        let through : IsThrough h u.real = through_then h v.real u.real here.same.begun (through_then h x.real v.real got.since.begun ready.through) in
        subst (λ (q : ℕ × List ℕ). IsPutting q.0 q.1 gs u) (λ z. (sym where_ z, with_dinode n d (bytes z)))
        (there u gs here.stage here.shows changes this can none through (lent_then h v.seen u.seen here.kept lent) (here.same.held ∙ got.count ∙ ap suc ready.free) (here.same.sizes ∙ got.since.sizes ∙ ready.at)
        (subst (λ (i : ℕ). Knows (world_with h i stored_ u.real)) where_ (room.put stored_ u.real knows_there)))

    pub s-stored : (es : List l.Step) (x : W) → G es x.seen → Ready sizes h (HasNone h n c o) x.real x.seen → Knows x.real → Wp M h B Q (bind (store_inode sizes.inodestart n d) (λ _. k)) (suc (suc (suc j))) es x
    s-stored es x stage ready knows =
        subst (λ (p : P M A). Wp M h B Q p (suc (suc (suc j))) es x) (sym (bind-assoc (fetch b) (put_inode b n d) (λ _. k)))
        (s-fetch sizes l laws keeps h lt B Q G stable b (λ block. bind (put_inode b n d block) (λ _. k)) (suc j) es x stage (let none = ready.free in omega (arith, none)) place (empty_hand h b x.real ready.free)
        (λ v fs got. s-put sizes l laws keeps h lt B Q G stable n b (with_dinode n d (seen_of (log_of v.real) b)) (λ _. k) j fs v got.stage (λ u gs here. puts x v u fs gs ready knows got here)))
      where
        place : (v : W) (fs : List l.Step) → IsHere x v fs → IsOutsideLog (log_of v.real).sizes b × (b < (log_of v.real).sizes.size)
        place v fs here =
            let range = lock_range n h v.real v.seen here.shows (changing fs v.seen here.stage here.inv).lock in
            let home = inode_home (log_of v.real) n here.shows.blocks.seen.good here.shows.blocks.seen.sized range.1 in
            subst (λ (i : ℕ). IsOutsideLog (log_of v.real).sizes i × (i < (log_of v.real).sizes.size)) (ap (λ (s : Super). inode_block s.inodestart n) (here.same.sizes ∙ ready.at)) (home.outside, home.sized)

  -- ---- the whole program

  pub free_acts : (n : ℕ) (m : Unit {0} → Option above.Mark) (Knows : World → Type 0) → KeepsRoom h sizes.bmapstart Knows Knows → KeepsRoom h (inode_block sizes.inodestart n) Knows Knows
      → (c : Carry) (B : List l.Step → Type 0) (C : Unit {0} → List l.Step → above.World → Type 0) (es : List l.Step) (w : W)
      → Lasts (labelled sizes.version l) h B C → Wp (labelled sizes.version l) h B C (once (Free n) m) (suc (more (Free n))) es w.seen → Stands sizes h w.real w.seen c → Knows w.real
      → Wp M h B (Below (labelled sizes.version l) (below sizes) h C) (free sizes n c m) (suc (more (Free n))) es w
  free_acts n m Knows room record_room c B C es w lasts todo stands knows =
      Wp-more M h (free sizes n c m) B Q (content_steps (suc (suc (suc 3)))) (suc (more (Free n))) es w (omega arith)
      (s-none sizes l laws keeps h lt n Knows room B c stored 6 Q Todo todo_stays changing es w tt todo stands knows
      (λ u begin_ x gs stage_x knows_x ready.
      s-stored n Knows record_room B c d begin_.fits (u.seen.disk n) last 3 Q Todo todo_stays changing
      (λ y hs stage_y knows_y ready_y.
      record_acts sizes l laws keeps h lt n (Free n) m tt (freed d) Emptied c (λ z. tt) (HasNone h n c (u.seen.disk n)) (none_lasts h n c (u.seen.disk n)) (λ r g has. has.others)
      (λ z at shows inv_z may has. puts u begin_ z at shows may has) Knows record_room.gives B C lasts hs y stage_y ready_y knows_y)
      gs x stage_x ready knows_x))
    where
      d : Dinode
      d = without_content (record_in c n)

      Q : Handover (Unit {0}) Carry → List l.Step → W → Type 0
      Q = Below (labelled sizes.version l) (below sizes) h C

      Todo : List l.Step → above.World → Type 0
      Todo = ToAct (labelled sizes.version l) (below sizes) laws (below_laws sizes l keeps) h B (Free n) m C lasts

      todo_stays : Stable (labelled sizes.version l) (below sizes) laws (below_laws sizes l keeps) h B Todo
      todo_stays = to_act (labelled sizes.version l) (below sizes) laws (below_laws sizes l keeps) h B (Free n) m C lasts

      last : P M (Handover (Unit {0}) Carry)
      last = bind (fetch (inode_block sizes.inodestart n)) (put_record (Free n) m tt (inode_block sizes.inodestart n) n (freed d) Emptied c)

      stored : P M (Handover (Unit {0}) Carry)
      stored = bind (store_inode sizes.inodestart n d) (λ _. last)

      changing : (fs : List l.Step) (g : above.World) → Todo fs g → Inv g → IsChanging h n g
      changing fs g stage inv =
          let may = may_act (labelled sizes.version l) (below sizes) laws (below_laws sizes l keeps) h B (Free n) m C lasts fs g stage inv in record { lock = may.1.0.0; joined = may.1.0.1 }

      puts : (u : W) → Begins sizes l laws keeps h lt n (had_in c n) (u.seen.disk n) u.real u.seen → (z : W) → (log_of z.real).sizes ≡ sizes → Shows z.real z.seen → rules.May sizes.version h (Free n) z.seen → HasNone h n c (u.seen.disk n) z.real z.seen → PutsRecord sizes.version h (Free n) n tt (freed d) Emptied z.real z.seen
      puts u begin_ z at shows may has = record {
        node = None;
        ran = refl;
        closed = λ w. tt;
        mine = may.1.0.0;
        keeps = has.keeps;
        joined = may.1.0.1;
        free = may.0;
        is = freed_fits d begin_.fits;
        has = (refl, refl);
        holds = λ new put_. freed_held (disk_of (log_of z.real)) new z.real.owner n (freed d) put_ refl has.none;
      }
