-- The steps on the tables, each as an operation above.
use Rattle.inodes_on_blocks.proofs.Vocabulary.{◌≡◌, ◌⊎◌, inl, inr, ℕ, ◌<◌, ◌≤◌, Bool, true, false, Option, Some, None, refl, sym, ◌∙◌, ap, subst, if◌then◌else◌, IsSome, none-some, same_Some, Super, sizes_of, seen_in, Node, hart_count, HoldsAt, IsRunning, TablesState, loaded, is_joined, World, log_of, disk_of, inode_in, tables_of, Shows, LoadsShow, OffsetsShow, if_joined, on_blocks, unless_new, Had, Carry, IsLoaded, InHand, Base, IsOpened, Loaded}
use Rattle.inodes_on_blocks.proofs.SeenDisks.{good_seen}
use Rattle.inode_machine.specs.World as above
use Rattle.inodes_on_blocks.specs.ShownTables as tables
use Rattle.inodes_on_blocks.proofs.News.{old_node, new_kept}
use Rattle.inodes_on_blocks.proofs.OpenFiles.{OpenStays, open_then}

-- the tables after a step
abbrev pub with_tables : World → TablesState → World
with_tables v t = record v { state = record (v.state) { tables = t } }

-- what is loaded is what the tables have
loads_so : (t : TablesState) (u : above.World) (load : ℕ → Option Loaded) → tables.Shows t u load → tables.Shows t u (loaded t)
loads_so t u load s = record { sound = s.sound; places = record { counts = s.places.counts; holders = s.places.holders; loads = λ n. refl }; files = s.files; desks = s.desks; lenders = s.lenders; range = s.range }

module _ (h : ℕ) (lt : h < hart_count) (v : World) (g : above.World) (shows : Shows v g) where
  sizes_here : sizes_of (disk_of (log_of v)) ≡ (log_of v).sizes
  sizes_here = (good_seen (log_of v).sizes (seen_in (log_of v).contents (log_of v).seats) _ shows.blocks.seen).sizes_are

  -- an inode that nobody has the lock of, and that isn't new, holds its node
  pub unlocked_holds : (i : ℕ) → g.lock i ≡ None → v.new i ≡ None → 1 ≤ i → i < g.all.ninodes → HoldsAt (disk_of (log_of v)) v.owner i (g.disk i)
  unlocked_holds i free old low below =
      subst (λ (n : Option Node). HoldsAt (disk_of (log_of v)) v.owner i n) (old_node v.new g.disk i old)
      (shows.blocks.running.inodes i low (subst (λ (s : Super). i < s.ninodes) (sym sizes_here) (subst (λ (n : ℕ). i < n) shows.size below)) (ap (if_joined g.desks) free))

  -- a lock that is as it was, came into the hart's hand, or was given back with what the inode holds
  abbrev pub LockStep : above.World → ℕ → Type 0
  LockStep u i = (u.lock i ≡ g.lock i) ⊎ (((g.lock i ≡ None) × (u.lock i ≡ Some h)) ⊎ ((u.lock i ≡ None) × HoldsAt (disk_of (log_of v)) v.owner i (on_blocks v.new g.disk i)))

  pub shows_then : (t : TablesState) (u : above.World) (load : ℕ → Option Loaded) → tables.Shows t u load → u.disk ≡ g.disk → u.all.ninodes ≡ g.all.ninodes → ((j : ℕ) → (u.desks j).joined ≡ (g.desks j).joined) → ((i : ℕ) → LockStep u i)
      -- a new inode is kept and not loaded, and nobody has its lock
      → ((n k : ℕ) → v.new n ≡ Some k → (u.lock n ≡ None) × (u.keeper n ≡ Some k) × (load n ≡ None)) → LoadsShow load (log_of v) u.refs u.lock u.keeper u.disk → OffsetsShow u.files → Shows (with_tables v t) u
  shows_then t u load after disk size joined locks kept loads offsets =
      record {
        whole = shows.whole;
        runs = shows.runs;
        size = size ∙ shows.size;
        tables = loads_so t u load after;
        members = λ j lj. joined j ∙ shows.members j lj;
        blocks = record {
          seen = shows.blocks.seen;
          running = record {
            front = old.front;
            whole = old.whole;
            range = λ i n e. old.range i n ((λ z. unless_new (v.new i) (sym disk z i)) ∙ e);
            inodes = λ i low below none. subst (λ (n : Option Node). HoldsAt (disk_of (log_of v)) v.owner i n) (λ z. unless_new (v.new i) (sym disk z i)) (holds i low below (locks i) none);
            bits = old.bits;
            no_others = old.no_others;
            owners = old.owners;
            changes = λ i k e. changes i k (locks i) e;
          };
        };
        bytes = shows.bytes;
        taken = shows.taken;
        commit = shows.commit;
        news = λ n k e. let now = kept n k e in new_kept n k (log_of v) g.lock g.keeper u.lock u.keeper (loaded (tables_of v)) (loaded t) now.0 now.1 (sym (after.places.loads n) ∙ now.2) (shows.news n k e);
        loads = record { seen = λ n d e. loads.seen n d (after.places.loads n ∙ e); dead = λ n some free loose dead. subst IsSome (after.places.loads n) (loads.dead n some free loose dead); typed = λ n e. sym (after.places.loads n) ∙ loads.typed n e; indexed = λ n d e. loads.indexed n d (after.places.loads n ∙ e) };
        offsets = offsets;
      }
    where
      old : IsRunning (disk_of (log_of v)) (on_blocks v.new g.disk) v.owner v.left (λ i. if_joined g.desks (g.lock i)) (is_joined (log_of v).members)
      old = shows.blocks.running

      same_change : (o : Option ℕ) → if_joined u.desks o ≡ if_joined g.desks o
      same_change None = refl
      same_change (Some k) = ap (λ (b : Bool). if b then Some k else None) (joined k)

      is_changed : (o : Option ℕ) (k : ℕ) → if_joined u.desks o ≡ Some k → (o ≡ Some k) × ((u.desks k).joined ≡ true)
      is_changed None k e = absurd (none-some k e)
      is_changed (Some j) k e = by (u.desks j).joined refl e
        where
          by : (b : Bool) → (u.desks j).joined ≡ b → (if b then Some j else None) ≡ Some k → (Some j ≡ Some k) × ((u.desks k).joined ≡ true)
          by true q e = (e, ap (λ (z : ℕ). (u.desks z).joined) (sym (same_Some j k e)) ∙ q)
          by false q e = absurd (none-some k e)

      holds : (i : ℕ) → 1 ≤ i → i < (sizes_of (disk_of (log_of v))).ninodes → LockStep u i → if_joined u.desks (u.lock i) ≡ None → HoldsAt (disk_of (log_of v)) v.owner i (on_blocks v.new g.disk i)
      holds i low below (inl same) none = old.inodes i low below (sym (ap (if_joined u.desks) same ∙ same_change (g.lock i)) ∙ none)
      holds i low below (inr (inl mine)) none = old.inodes i low below (ap (if_joined g.desks) mine.0)
      holds i low below (inr (inr back)) none = back.1

      changes : (i k : ℕ) → LockStep u i → if_joined u.desks (u.lock i) ≡ Some k → is_joined (log_of v).members k ≡ true
      changes i k (inl same) e = old.changes i k (sym (ap (if_joined u.desks) same ∙ same_change (g.lock i)) ∙ e)
      changes i k (inr (inl mine)) e =
          let a = is_changed (u.lock i) k e in
          let q : h ≡ k = same_Some h k (sym mine.1 ∙ a.0) in
          sym (shows.members k (subst (λ (z : ℕ). z < hart_count) q lt)) ∙ sym (joined k) ∙ a.1
      changes i k (inr (inr back)) e = absurd (none-some k (sym (ap (if_joined u.desks) back.0) ∙ e))

  -- what the hart has then
  pub base_then : (c d : Carry) (t : TablesState) (u : above.World) (load : ℕ → Option Loaded) → Base h v g c → tables.Shows t u load → (u.desks h).lender ≡ None
      → ((i : ℕ) → u.lock i ≡ Some h → ((g.lock i ≡ Some h) × (u.keeper i ≡ Some h) × (u.disk i ≡ g.disk i) × (d i ≡ c i) × OpenStays h i g u) ⊎ InHand h i (d i) v u) → Base h (with_tables v t) u d
  base_then c d t u load base after free each = record {
    free = base.free;
    taken = base.taken;
    through = record { commits = base.through.commits; new = base.through.new };
    inodes = λ i e. by i (each i (after.places.holders i ∙ e));
    lent = λ some. absurd (some free);
  }
    where
      by : (i : ℕ) → ((g.lock i ≡ Some h) × (u.keeper i ≡ Some h) × (u.disk i ≡ g.disk i) × (d i ≡ c i) × OpenStays h i g u) ⊎ InHand h i (d i) v u → InHand h i (d i) (with_tables v t) u
      by i (inr hand) = record { keeps = hand.keeps; loaded_is = hand.loaded_is; holds = hand.holds; opened = hand.opened }
      by i (inl same) =
          let was = base.inodes i (sym (shows.tables.places.holders i) ∙ same.0) in
          record {
            keeps = same.1;
            loaded_is = (λ (z : IsLoaded (log_of v).sizes.version (c i) (g.disk i) (inode_in (log_of v) i)). subst (λ (o : Had). IsLoaded (log_of v).sizes.version o (u.disk i) (inode_in (log_of v) i)) (sym same.3) (subst (λ (n : Option Node). IsLoaded (log_of v).sizes.version (c i) n (inode_in (log_of v) i)) (sym same.2) z)) was.loaded_is;
            holds = subst (λ (n : Option Node). HoldsAt (disk_of (log_of v)) v.owner i n) (sym same.2) was.holds;
            opened = subst (λ (o : Had). IsOpened h i o u) (sym same.3) (open_then h i (c i) g u same.4 was.opened);
          }
