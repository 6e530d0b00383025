-- Programs below do beside the children as they do without, under any history: who has a lender stays the child of that one's call.
use Rattle.run_laws.proofs.Vocabulary.{ℕ, List, [], ◌∷◌, Option, Some, None, suc, Super, Ret, Do, ExecResult, Waits, Ran, Stops, exec_result_in, PartOf as P, onto, Goes, placed_with, Good, Wp, ActOf, Both, joined, both, seen_after, Handlers, Below, Budget, AtomicWithin, more, exec_blocks, Labels, labelled, below, World, Reserves, layer, acts_reserve}
use Rattle.inode_machine.specs.World as above
use Rattle.inodes_on_blocks.specs.Below.{World as Blocks}

module _ (sizes : Super) (l : Labels) where
  abbrev alone : Both World above.World → Both Blocks above.World
  alone w = record { real = w.real.blocks; seen = w.seen }

  still_reserve : (children : ℕ → Option ℕ) (h : ℕ) (t : Option (ActOf (labelled sizes.version l))) (w : above.World) → Reserves children w → Reserves children (seen_after (labelled sizes.version l) h t w)
  still_reserve children h None w r = r
  still_reserve children h (Some t) w r = acts_reserve sizes.version children h (Some t) w r

  goes_on : (t : l.Tree) (ps : List (ℕ × l.Step)) (u : l.Tree) → Goes (joined (labelled sizes.version l) (below sizes)) t ps u
      → Goes (joined (labelled sizes.version l) (layer sizes)) t ps u
  goes_on t [] u g = g
  goes_on t (p ∷ ps) u g = (g.0, g.1, goes_on g.0 ps u g.2)

  good_on : {A : Type 0} (h : ℕ) (m : A → Option (ActOf (labelled sizes.version l))) (ps : A → List (ℕ × l.Step)) (n : ℕ) (B : List l.Step → Type 0) (es : List l.Step) (v : Both World above.World) (wait : Type 0) (d : ExecResult A Blocks)
      (M : ℕ → A → Both Blocks above.World → Type 0) (N : ℕ → A → Both World above.World → Type 0) → Reserves v.real.children v.seen
      → ((k : ℕ) (a : A) (w : Both World above.World) → M k a (alone w) → N k a w)
      → Good (joined (labelled sizes.version l) (below sizes)) A h ps 0 n B es (alone v) wait (both (labelled sizes.version l) h m v.seen d) M
      → Good (joined (labelled sizes.version l) (layer sizes)) A h ps 0 n B es v wait
      (both (labelled sizes.version l) h m v.seen (exec_result_in (λ r. record (v.real) { blocks = r }) d)) N
  good_on h m ps n B es v wait Waits M N r f g = g
  good_on h m ps n B es v wait (Ran a u) M N r f g = record {
    inv = ((g.inv.0, still_reserve v.real.children h (m a) v.seen r), g.inv.1);
    kept = g.kept;
    goes = λ y. goes_on (l.tree v.seen) (ps a) _ (g.goes y);
    clean = g.clean;
    begun = g.begun;
    left = g.left;
    falls = g.falls;
    next = f g.left a _ g.next;
  }
  good_on h m ps n B es v wait (Stops u) M N r f g = record { halted = ((g.halted.0, r), g.halted.1); kept = g.kept; tree = g.tree; clean = g.clean }

  Wp-beside : {A : Type 0} (h : ℕ) (p : P (joined (labelled sizes.version l) (below sizes)) A) (B : List l.Step → Type 0) (Q : A → List l.Step → Both Blocks above.World → Type 0) (n : ℕ) (es : List l.Step) (w : Both World above.World)
      → Wp (joined (labelled sizes.version l) (below sizes)) h B Q p n es (alone w)
      → Wp (joined (labelled sizes.version l) (layer sizes)) h B (λ a fs u. Q a fs (alone u)) p n es w
  Wp-beside h (Ret a) B Q n es w g = g
  Wp-beside {A} h (Do op m k) B Q n es w g =
      λ v xs o i.
      let s = g (alone v) xs o (i.0.0, i.1) in (
        s.0,
        s.1,
        λ x t. good_on h m (placed_with (joined (labelled sizes.version l) (below sizes)) h op m (alone v)) n B (onto xs es) v ((below sizes).MayWait h op v.real.blocks) (exec_blocks h x op v.real.blocks) _ _ i.0.1
            (λ k' a u. Wp-beside h (k a) B Q k' _ u) (s.2 x t),
        s.3,
      )

  -- an operation's program acts at one moment still
  pub within_beside : (handler : Handlers (labelled sizes.version l) (below sizes)) (h : ℕ) (b : Budget (labelled sizes.version l)) (Has : Blocks → b.Spent → Type 0) (op : above.Op) (m : above.Answer op → Option above.Mark)
      → AtomicWithin (labelled sizes.version l) (below sizes) handler b Has h op m
      → AtomicWithin (labelled sizes.version l) (layer sizes) handler b (λ r s. Has r.blocks s) h op m
  within_beside handler h b Has op m within c s B C es w lasts todo base few has =
      Wp-beside h (handler c op m) B (λ r fs u. Below (labelled sizes.version l) (below sizes) h C r fs u × Has u.real (b.after op s)) (suc (more op)) es w (within c s B C es (alone w) lasts todo base few has)
