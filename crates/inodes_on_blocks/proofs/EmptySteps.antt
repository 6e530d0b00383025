-- A file's content is given back: the operation acts when its record is put without it.
use Rattle.inode_machine.specs.Rules as rules
use Rattle.inodes_on_blocks.proofs.Vocabulary.{◌≡◌, ℕ, zero, suc, pos, ◌^◌, ◌<◌, ◌≤◌, ◌==◌, Bool, true, false, List, [], ◌∷◌, length, take, replicate, Option, Some, None, refl, sym, ◌∙◌, ap, subst, arith, if◌then◌else◌, AllByRecursion, Version, version_in, unwrap_or, none-some, same_Some, Super, Dinode, IsDinode, sizes_of, Node, NodeKind, Directory, File, Device, emptied, node_or, hart_count, HoldsAt, IsInode, NamesOwned, size_in, type_in, numbers_by_free, bind, once, Ran, Laws, Machine, P, Wp, Both, joined, Below, Lasts, Handover, ToAct, to_act, may_act, Stable, Wp-more, lock_holder, fetch, free_block, table_of, free_numbers, free_indirect, free_in_table, without_content, direct, no_record, inode_block, Empty, with_record, with_no_bytes, Inv, Idle, more, World, log_of, tables_of, disk_of, inode_in, empty, Owns, KeepsRoom, KeepsInode, Kept, NothingMore, Had, Apart, Has, Emptied, Carry, record_had, IsLoaded, InHand, Base, Stands, below, Labels, labelled, Keeps, IsChanging, GivesRoom, Shows, record_in, put_record, Loaded, unindexed, IsIndexOf, index_in, recorded_had, all_slots, had_in, addresses}
use Rattle.plain_tree.specs.Steps.{is_file}
use Rattle.inodes_on_blocks.proofs.Basics.{laid_before, node_held, empty_laid, empty_named, seen_sizes, kept_same, below_laws, hand_then, kept_disk, lent_then, untouched_same, through_then, given_order, order_owned, order_named, lock_range, TakesStep, s-here, AllBut, Ready, seen_dinode, untaken, indexed_file, indexed_none, emptied_slots}
use Rattle.inode_machine.specs.World as above
use Rattle.inodes_on_blocks.proofs.ContentGiven.{Between, content_steps, named_kept, s-content}
use Rattle.inodes_on_blocks.proofs.StoreSteps.{PutsRecord, record_acts}
use Rattle.inodes_on_blocks.proofs.NewInodes.{all_zero}

-- ---- a record without content

zero_addrs : (k : ℕ) → AllByRecursion (λ b. b < 2 ^ 32) (replicate k 0)
zero_addrs zero = tt
zero_addrs (suc k) = (omega arith, zero_addrs k)

emptied_fits : (d : Dinode) → IsDinode d → IsDinode (without_content d)
emptied_fits d is = record { kind = is.kind; major = is.major; minor = is.minor; nlink = is.nlink; size = omega arith; thirteen = refl; addrs = zero_addrs addresses }

no_record_fits : IsDinode (without_content no_record)
no_record_fits = record { kind = omega arith; major = omega arith; minor = omega arith; nlink = omega arith; size = omega arith; thirteen = refl; addrs = zero_addrs addresses }

-- an inode has no more than twelve numbers of blocks of its content
few_numbers : (d : Dinode) → length (take direct d.addrs) ≤ direct
few_numbers d = least direct d.addrs
  where
    least : (n : ℕ) (xs : List ℕ) → length (take n xs) ≤ n
    least zero xs = omega arith
    least (suc n) [] = omega arith
    least (suc n) (x ∷ xs) = let le = least n xs in omega (arith, le)

-- of a file it is one without bytes
empty_inode : (version : Version) (d : Dinode) (v : Node) → is_file v.kind ≡ true → IsInode version d v → IsInode version (without_content d) (with_no_bytes v) × (size_in version (with_no_bytes v).kind ≡ 0)
empty_inode version d v file is = by v.kind file is.kind
  where
    by : (k : NodeKind) → is_file k ≡ true → d.kind ≡ pos (type_in k) → IsInode version (without_content d) (record v { kind = emptied k }) × (size_in version (emptied k) ≡ 0)
    by (Directory slots) e kind = absurd (cc e)
    by (File bytes) e kind = (record { kind = kind; count = is.count; size = refl; device = tt }, refl)
    by (Device major minor size) e kind = absurd (cc e)

-- ---- what lasts until the record is put

-- The hart has the inode's lock, and its other inodes, and that one no blocks; above it is this.
pub record HasNone (h n : ℕ) (c : Carry) (v : Option Node) (r : World) (g : above.World) : Type 0 where
  pub others : AllBut n h c r g
  pub mine : lock_holder n (tables_of r) ≡ Some h
  pub keeps : g.keeper n ≡ Some h
  pub node : g.disk n ≡ v
  pub none : NamesOwned (disk_of (log_of r)) r.owner n []

pub none_lasts : (h n : ℕ) (c : Carry) (o : Option Node) (v w : World) (g u : above.World) → (log_of w).sizes ≡ (log_of v).sizes → ((i : ℕ) → lock_holder i (tables_of v) ≡ Some h → KeepsInode h i v w)
    → ((i : ℕ) → lock_holder i (tables_of w) ≡ Some h → lock_holder i (tables_of v) ≡ Some h) → Kept h g u → (((g.desks h).lender ≡ None → ⊥) → Idle h g) → HasNone h n c o v g → HasNone h n c o w u
none_lasts h n c o v w g u sized inodes no_more kept lent has =
    let this = inodes n has.mine in
    let now = kept_disk h n g u kept lent has.keeps in
    record {
      others = λ i ne e. let before = no_more i e in hand_then h i (c i) v w g u sized (inodes i before) kept lent (has.others i ne before);
      mine = this.lock;
      keeps = now.0;
      node = now.1 ∙ has.node;
      none = named_kept (disk_of (log_of v)) (disk_of (log_of w)) v.owner w.owner n [] this.untouched has.none;
    }

-- ---- the rule

module _ (sizes : Super) (l : Labels) (laws : Laws (labelled sizes.version l)) (keeps : Keeps l) (h : ℕ) (lt : h < hart_count) where
  abbrev W : Type 0
  W = Both World above.World

  abbrev M : Machine
  M = joined (labelled sizes.version l) (below sizes)

  -- what gives a content back takes a step if what comes after it does
  numbers_step : {A : Type 0} (B : List l.Step → Type 0) (bitmap : ℕ) (bs : List ℕ) (k : P M A) → TakesStep sizes l laws keeps h lt B k → TakesStep sizes l laws keeps h lt B (free_numbers bitmap bs k)
  numbers_step B bitmap [] k step = step
  numbers_step B bitmap (b ∷ bs) k step = by (b == 0) (numbers_step B bitmap bs k step)
    where
      by : (z : Bool) → TakesStep sizes l laws keeps h lt B (free_numbers bitmap bs k) → TakesStep sizes l laws keeps h lt B (if z then free_numbers bitmap bs k else bind (free_block bitmap b) (λ _. free_numbers bitmap bs k))
      by true rest = rest
      by false rest = tt

  pub content_step : {A : Type 0} (B : List l.Step → Type 0) (d : Dinode) (k : P M A) → TakesStep sizes l laws keeps h lt B k
      → TakesStep sizes l laws keeps h lt B (free_numbers sizes.bmapstart (take direct d.addrs) (free_indirect sizes.bmapstart (table_of d) k))
  content_step B d k step = numbers_step B sizes.bmapstart (take direct d.addrs) (free_indirect sizes.bmapstart (table_of d) k) (by (table_of d == 0))
    where
      by : (z : Bool) → TakesStep sizes l laws keeps h lt B (if z then k else bind (fetch (table_of d)) (free_in_table sizes.bmapstart (table_of d) k))
      by true = step
      by false = tt

  -- an inode that the hart has in hand, with this record, before it gives the content back
  pub record Begins (n : ℕ) (x : Loaded) (v : Option Node) (r : World) (g : above.World) : Type 0 where
    pub mine : lock_holder n (tables_of r) ≡ Some h
    pub kept : g.keeper n ≡ Some h
    pub node : g.disk n ≡ v
    pub inode : (u : Node) → v ≡ Some u → IsInode sizes.version x.inode u
    pub fits : IsDinode (without_content x.inode)
    pub owns : Owns sizes r.owner n (given_order (disk_of (log_of r)) x.inode)
    pub named : NamesOwned (disk_of (log_of r)) r.owner n (given_order (disk_of (log_of r)) x.inode)
    pub indexed : IsIndexOf sizes.version x.index v

  begins : (n : ℕ) (c : Carry) (r : World) (g : above.World) → Shows r g → (log_of r).sizes ≡ sizes → g.lock n ≡ Some h → InHand h n (c n) r g → Begins n (had_in c n) (g.disk n) r g
  begins n c r g shows at lock hand = by (c n) refl (g.disk n) refl hand.loaded_is
    where
      old : Dinode
      old = inode_in (log_of r) n

      here : sizes_of (disk_of (log_of r)) ≡ sizes
      here = seen_sizes r g shows ∙ at

      by : (o : Had) → c n ≡ o → (v : Option Node) → g.disk n ≡ v → IsLoaded (log_of r).sizes.version o v old → Begins n (unwrap_or (record_had o) (unindexed no_record)) v r g
      by Apart e v is none = absurd none
      by Emptied e v is none =
          let unused : NamesOwned (disk_of (log_of r)) r.owner n [] =
          subst (NamesOwned (disk_of (log_of r)) r.owner n) (numbers_by_free (disk_of (log_of r)) n old refl none.1) hand.holds.blocks.named in
          record {
            mine = sym (shows.tables.places.holders n) ∙ lock;
            kept = hand.keeps;
            node = is;
            inode = λ u some. absurd (none-some u (sym none.0 ∙ some));
            fits = no_record_fits;
            owns = (λ some. absurd (some refl), tt);
            named = λ b block own. absurd (let l = (unused b block own).1 in omega (arith, l));
            indexed = indexed_none sizes.version v;
          }
      by (Has d l) e None is some = absurd (some.1 refl)
      by (Has d l) e (Some v) is some =
          let laid = laid_before (disk_of (log_of r)) r.owner n v (subst (λ (o : Option Node). HoldsAt (disk_of (log_of r)) r.owner n o) is hand.holds) in
          let dinode = seen_dinode r g shows n (lock_range n h r g shows lock).1 in
          subst (λ (x : Dinode). Begins n (record { inode = x; index = d.index }) (Some v) r g) (sym some.0)
          (record {
            mine = sym (shows.tables.places.holders n) ∙ lock;
            kept = hand.keeps;
            node = is;
            inode = λ u same. subst (IsInode sizes.version old) (same_Some v u same) (subst (λ (s : Super). IsInode s.version old v) here laid.0.inode);
            fits = emptied_fits old dinode;
            owns = order_owned (disk_of (log_of r)) old dinode.thirteen sizes r.owner n v laid.0 here;
            named = order_named (disk_of (log_of r)) old dinode.thirteen r.owner n laid.1;
            indexed = subst (λ (s : Super). IsIndexOf s.version d.index (Some v)) at some.3;
          })

  module _ (n : ℕ) (Knows : World → Type 0) (room : KeepsRoom h sizes.bmapstart Knows Knows) (B : List l.Step → Type 0) where
    -- with its blocks given back
    none_left : (c : Carry) (d : Loaded) (v : Option Node) {A : Type 0} (Q : A → List l.Step → W → Type 0) (G : List l.Step → above.World → Type 0) (stable : Stable (labelled sizes.version l) (below sizes) laws (below_laws sizes l keeps) h B G)
        (changing : (fs : List l.Step) (g : above.World) → G fs g → Inv g → IsChanging h n g) (w x : W) (gs : List l.Step) → Base h w.real w.seen c → Begins n d v w.real w.seen
        → Between sizes l laws keeps h lt B Q G stable n changing Knows room w [] gs x → Ready sizes h (HasNone h n c v) x.real x.seen
    none_left c d v Q G stable changing w x gs base begin_ between =
        let now = kept_disk h n w.seen x.seen between.kept base.lent begin_.kept in
        record {
          free = between.none;
          taken = untaken h w.real x.real between.gone.taken base.taken;
          through = through_then h w.real x.real between.gone.begun base.through;
          lent = lent_then h w.seen x.seen between.kept base.lent;
          this = record {
            others = λ i ne e.
                let before = between.gone.no_more i e in
                hand_then h i (c i) w.real x.real w.seen x.seen between.gone.sizes (between.gone.inodes i ne before) between.kept base.lent (base.inodes i before);
            mine = between.gone.lock;
            keeps = now.0;
            node = now.1 ∙ begin_.node;
            none = between.named;
          };
          at = between.at;
        }

    -- The content is given back from the first step on. The operation that does it may be made only if the hart has
    -- the lock and is in a transaction.
    pub s-none : {A : Type 0} (c : Carry) (k : P M A) (j : ℕ) (Q : A → List l.Step → W → Type 0) (G : List l.Step → above.World → Type 0) (stable : Stable (labelled sizes.version l) (below sizes) laws (below_laws sizes l keeps) h B G)
        (changing : (fs : List l.Step) (g : above.World) → G fs g → Inv g → IsChanging h n g) (es : List l.Step) (w : W) → TakesStep sizes l laws keeps h lt B k → G es w.seen → Stands sizes h w.real w.seen c → Knows w.real
        → ((u : W) → Begins n (had_in c n) (u.seen.disk n) u.real u.seen → (x : W) (gs : List l.Step) → G gs x.seen → Knows x.real → Ready sizes h (HasNone h n c (u.seen.disk n)) x.real x.seen → Wp M h B Q k j gs x)
        → Wp M h B Q (free_numbers sizes.bmapstart (take direct (record_in c n).addrs) (free_indirect sizes.bmapstart (table_of (record_in c n)) k)) (content_steps j) es w
    s-none c k j Q G stable changing es w step stage stands knows rest =
        s-here sizes l laws keeps h lt B (free_numbers sizes.bmapstart (take direct (record_in c n).addrs) (free_indirect sizes.bmapstart (table_of (record_in c n)) k)) Q G stable (content_step B (record_in c n) k step) (content_steps j) es w stage
        (λ u fs here.
        let base = (below_laws sizes l keeps).base h w.real u.real w.seen u.seen c here.same here.kept stands in
        let lock = (changing fs u.seen here.stage here.inv).lock in
        let begin_ = begins n c u.real u.seen here.shows base.1 lock (base.0.inodes n (sym (here.shows.tables.places.holders n) ∙ lock)) in
        s-content sizes l laws keeps h lt B Q G stable n changing Knows room u (record_in c n) k j fs u (few_numbers (record_in c n))
        (record {
          stage = here.stage;
          gone = record {
            inodes = λ i ne e. record { lock = e; untouched = untouched_same (disk_of (log_of u.real)) u.real.owner i };
            lock = begin_.mine;
            no_more = λ i e. e;
            sizes = refl;
            inode = refl;
            taken = λ b. refl;
            begun = refl;
          };
          kept = kept_same h u.seen;
          none = base.0.free;
          at = base.1;
          owns = begin_.owns;
          named = begin_.named;
          knows = room.gives.lasts w.real u.real here.same knows;
        })
        (λ x gs between. rest u begin_ x gs between.stage between.knows (none_left c (had_in c n) (u.seen.disk n) Q G stable changing u x gs base.0 begin_ between)))

  -- ---- the record is put

  pub empty_acts : (n : ℕ) (m : Unit {0} → Option above.Mark) (Knows : World → Type 0) → KeepsRoom h sizes.bmapstart Knows Knows → GivesRoom h (inode_block sizes.inodestart n) Knows
      → (c : Carry) (B : List l.Step → Type 0) (C : Unit {0} → List l.Step → above.World → Type 0) (es : List l.Step) (w : W)
      → Lasts (labelled sizes.version l) h B C → Wp (labelled sizes.version l) h B C (once (Empty n) m) (suc (more (Empty n))) es w.seen → Stands sizes h w.real w.seen c → Knows w.real
      → Wp M h B (Below (labelled sizes.version l) (below sizes) h C) (empty sizes n c m) (suc (more (Empty n))) es w
  empty_acts n m Knows room gives c B C es w lasts todo stands knows =
      Wp-more M h (empty sizes n c m) B Q (content_steps 3) (suc (more (Empty n))) es w (omega arith)
      (s-none n Knows room B c last 3 Q Todo todo_stays changing es w tt todo stands knows
      (λ u begin_ x gs stage_x knows_x ready.
      record_acts sizes l laws keeps h lt n (Empty n) m tt d (Has (recorded_had c n d) NothingMore) c (λ z. tt) (HasNone h n c (u.seen.disk n)) (none_lasts h n c (u.seen.disk n)) (λ r g has. has.others)
      (λ z at shows inv_z may has. puts u begin_ z at shows may has) Knows gives B C lasts gs x stage_x ready knows_x))
    where
      d : Dinode
      d = without_content (record_in c n)

      Q : Handover (Unit {0}) Carry → List l.Step → W → Type 0
      Q = Below (labelled sizes.version l) (below sizes) h C

      Todo : List l.Step → above.World → Type 0
      Todo = ToAct (labelled sizes.version l) (below sizes) laws (below_laws sizes l keeps) h B (Empty n) m C lasts

      todo_stays : Stable (labelled sizes.version l) (below sizes) laws (below_laws sizes l keeps) h B Todo
      todo_stays = to_act (labelled sizes.version l) (below sizes) laws (below_laws sizes l keeps) h B (Empty n) m C lasts

      last : P M (Handover (Unit {0}) Carry)
      last = bind (fetch (inode_block sizes.inodestart n)) (put_record (Empty n) m tt (inode_block sizes.inodestart n) n d (Has (recorded_had c n d) NothingMore) c)

      may_there : (fs : List l.Step) (g : above.World) → Todo fs g → Inv g → rules.May sizes.version h (Empty n) g
      may_there fs g stage inv = may_act (labelled sizes.version l) (below sizes) laws (below_laws sizes l keeps) h B (Empty n) m C lasts fs g stage inv

      changing : (fs : List l.Step) (g : above.World) → Todo fs g → Inv g → IsChanging h n g
      changing fs g stage inv = let may = may_there fs g stage inv in record { lock = may.1.0.0; joined = may.1.0.1 }

      puts : (u : W) → Begins n (had_in c n) (u.seen.disk n) u.real u.seen → (z : W) → (log_of z.real).sizes ≡ sizes → Shows z.real z.seen → rules.May sizes.version h (Empty n) z.seen → HasNone h n c (u.seen.disk n) z.real z.seen → PutsRecord sizes.version h (Empty n) n tt d (Has (recorded_had c n d) NothingMore) z.real z.seen
      puts u begin_ z at shows may has =
          let disk = disk_of (log_of z.real) in
          let v : Node = may.1.1.node in
          let here : sizes_of disk ≡ sizes = seen_sizes z.real z.seen shows ∙ at in
          let begun = subst (λ (s : Super). IsInode s.version (record_in c n) v) (sym here) (begin_.inode v (sym has.node ∙ may.1.1.is)) in
          let empty_ = empty_inode (version_in disk) (record_in c n) v may.1.1.fits begun in
          let laid = empty_laid disk z.real.owner n d (with_no_bytes v) empty_.0 empty_.1 (all_zero addresses) in
          let named = empty_named disk z.real.owner n d (with_no_bytes v) empty_.0 empty_.1 (all_zero addresses) has.none in
          let bound : n < (sizes_of disk).ninodes =
          subst (λ (s : Super). n < s.ninodes) (sym (seen_sizes z.real z.seen shows))
          (lock_range n h z.real z.seen shows may.1.0.0).1 in
          record {
            node = Some (with_no_bytes v);
            ran = (λ i. Ran tt (with_record z.seen n (Some (with_no_bytes (node_or (may.1.1.is i))))));
            closed = λ w. tt;
            mine = may.1.0.0;
            keeps = has.keeps;
            joined = may.1.0.1;
            free = may.0;
            is = begin_.fits;
            has = (refl, (λ e. none-some (with_no_bytes v) (sym e)), tt, subst (λ (s : Super). IsIndexOf s.version (index_in c n) (Some (with_no_bytes v))) (sym at) (indexed_file sizes.version (index_in c n) (u.seen.disk n) (Some (with_no_bytes v)) (ap all_slots (sym has.node ∙ may.1.1.is) ∙ sym (emptied_slots v)) begin_.indexed));
            holds = λ new put_. node_held disk new z.real.owner n d (with_no_bytes v) shows.blocks.running.front bound put_ laid named;
          }
