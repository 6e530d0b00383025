-- Programs below do beside the children as they do without: who has a lender stays the child of that one's call.
use Rattle.calls_on_blocks.proofs.Vocabulary.{ℕ, List, [], ◌∷◌, Option, suc, Super, Ret, Do, ExecResult, Waits, Ran, Stops, exec_result_in, PartOf as P, onto, Goes, placed_with, Good, Wp, LowerLaws, ActOf, Both, both, Handlers, Below, Budget, AtomicWithin, Machine, machine, Blocks, exec_blocks, below, World, Reserves, layer}
use Rattle.atomic_programs.specs.Joined.{joined}
use Rattle.inode_machine.specs.World as above
use Rattle.calls_on_blocks.proofs.Lenders.{acts_reserve}

module _ (sizes : Super) where
  abbrev M : Machine
  M = machine sizes.version

  abbrev alone : Both World above.World → Both Blocks above.World
  alone w = record { real = w.real.blocks; seen = w.seen }

  goes_on : (t : M.Tree) (ps : List (ℕ × M.Step)) (u : M.Tree) → Goes (joined M (below sizes)) t ps u → Goes (joined M (layer sizes)) t ps u
  goes_on t [] u g = g
  goes_on t (p ∷ ps) u g = (g.0, g.1, goes_on g.0 ps u g.2)

  good_on : {A : Type 0} (h : ℕ) (m : A → Option (ActOf M)) (ps : A → List (ℕ × M.Step)) (n : ℕ) (B : List M.Step → Type 0) (es : List M.Step) (v : Both World above.World) (wait : Type 0) (d : ExecResult A Blocks)
      (L : ℕ → A → Both Blocks above.World → Type 0) (N : ℕ → A → Both World above.World → Type 0) → Reserves v.real.children v.seen
      → ((l : ℕ) (a : A) (w : Both World above.World) → L l a (alone w) → N l a w)
      → Good (joined M (below sizes)) A h ps 0 n B es (alone v) wait (both M h m v.seen d) L
      → Good (joined M (layer sizes)) A h ps 0 n B es v wait (both M h m v.seen (exec_result_in (λ r. record (v.real) { blocks = r }) d)) N
  good_on h m ps n B es v wait Waits L N r f g = g
  good_on h m ps n B es v wait (Ran a u) L N r f g = record {
    inv = ((g.inv.0, acts_reserve sizes.version v.real.children h (m a) v.seen r), g.inv.1);
    kept = g.kept;
    goes = λ y. goes_on (M.tree v.seen) (ps a) _ (g.goes y);
    clean = g.clean;
    begun = g.begun;
    left = g.left;
    falls = g.falls;
    next = f g.left a _ g.next;
  }
  good_on h m ps n B es v wait (Stops u) L N r f g = record { halted = ((g.halted.0, r), g.halted.1); kept = g.kept; tree = g.tree; clean = g.clean }

  pub Wp-beside : {A : Type 0} (h : ℕ) (p : P (joined M (below sizes)) A) (B : List M.Step → Type 0) (Q : A → List M.Step → Both Blocks above.World → Type 0) (n : ℕ) (es : List M.Step) (w : Both World above.World)
      → Wp (joined M (below sizes)) h B Q p n es (alone w) → Wp (joined M (layer sizes)) h B (λ a fs u. Q a fs (alone u)) p n es w
  Wp-beside h (Ret a) B Q n es w g = g
  Wp-beside {A} h (Do op m k) B Q n es w g =
      λ v xs o i.
      let s = g (alone v) xs o (i.0.0, i.1) in (
        s.0,
        s.1,
        λ x t. good_on h m (placed_with (joined M (below sizes)) h op m (alone v)) n B (onto xs es) v ((below sizes).MayWait h op v.real.blocks) (exec_blocks h x op v.real.blocks) _ _ i.0.1
            (λ l a u. Wp-beside h (k a) B Q l _ u) (s.2 x t),
        s.3,
      )

  -- an operation's program acts at one moment still
  pub within_beside : (handler : Handlers M (below sizes)) (h : ℕ) (b : Budget M) (Has : Blocks → b.Spent → Type 0) (op : above.Op) (m : above.Answer op → Option above.Mark)
      → AtomicWithin M (below sizes) handler b Has h op m → AtomicWithin M (layer sizes) handler b (λ r s. Has r.blocks s) h op m
  within_beside handler h b Has op m within c s B C es w lasts todo base few has =
      Wp-beside h (handler c op m) B (λ r fs u. Below M (below sizes) h C r fs u × Has u.real (b.after op s)) (suc (M.more op)) es w (within c s B C es (alone w) lasts todo base few has)

  -- what the others leave of it
  pub laws_beside : LowerLaws M (below sizes) → LowerLaws M (layer sizes)
  laws_beside laws = record {
    same = λ h w. laws.same h w.blocks;
    trans = λ h u v w. laws.trans h u.blocks v.blocks w.blocks;
    kept = laws.kept;
    base = λ h v w. laws.base h v.blocks w.blocks;
    idle = λ h w. laws.idle h w.blocks;
  }
