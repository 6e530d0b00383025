-- A program of one step on the tables acts at it.
use Rattle.inodes_on_blocks.proofs.Vocabulary.{◌≡◌, ◌≢◌, ℕ, suc, List, Option, None, ap, ◌∙◌, arith, Super, Ret, once, ExecResult, Waits, Ran, Stops, Laws, Wp, Both, joined, Below, Lasts, Acting, s-act, Outside, Own, own_of, IsWholeLog, After, leaves_own, marked, with_mark, Inv, more, World, log_of, owners_after, commits_after, came_to, exec, new_after, Shows, Same, Kept, Carry, Base, Stands, below, Labels, labelled, Keeps, one, ActsOnceAt}
use Rattle.fs_machine.specs.Steps as steps
use Rattle.fs_machine.specs.Premises as premises
use Rattle.inode_machine.specs.World as above
use Rattle.inode_machine.specs.Exec as above_exec
use Rattle.inode_machine.specs.Rules as rules
use Rattle.inodes_on_blocks.proofs.Marked.{marked_same, shows_marked}
use Rattle.inodes_on_blocks.proofs.Layer.{below_laws, base_marked}

-- the sizes stay
pub same_sizes : (h : ℕ) (x : Outside) (op : steps.Op) (s : steps.State) → IsWholeLog s.log → premises.May h op s → premises.Honest h op s x → After (λ t. t.log.sizes ≡ s.log.sizes) (steps.exec h x op s)
same_sizes h x op s whole may honest = of_own (steps.exec h x op s) (leaves_own h (suc h) x op s (λ e. absurd (omega (arith, e))) whole may honest)
  where
    of_own : {A : Type 0} (d : ExecResult A steps.State) → After (λ t. own_of (suc h) t.log ≡ own_of (suc h) s.log) d → After (λ t. t.log.sizes ≡ s.log.sizes) d
    of_own Waits e = tt
    of_own (Ran a t) e = ap (λ (o : Own). o.sizes) e
    of_own (Stops t) e = ap (λ (o : Own). o.sizes) e

module _ (sizes : Super) (l : Labels) (laws : Laws (labelled sizes.version l)) (keeps : Keeps l) (h : ℕ) where
  abbrev W : Type 0
  W = Both World above.World

  -- the step ran, and the operation above did
  pub record Came (op : above.Op) (v : W) (b : above.Answer op) (r : World) (c : Carry) : Type 0 where
    pub then_ : above.World
    pub ran : above_exec.exec sizes.version h above.Room op v.seen ≡ Ran b then_
    pub free : (then_.desks h).lender ≡ None
    pub shows : Shows r then_
    pub same : (other : ℕ) → other ≢ h → Same other v.real r
    pub base : Base h r then_ c

  abbrev pub CameTo : (op : above.Op) {A : Type 0} → W → Type 0 → ExecResult A World → (A → above.Answer op) → (A → Carry) → Type 0
  CameTo op v wait Waits answer carry = wait
  CameTo op v wait (Ran a r) answer carry = Came op v (answer a) r (carry a)
  CameTo op v wait (Stops r) answer carry = ⊥

  -- from this world on, of which the hart's own stays above
  pub one_step_from : (op : above.Op) (m : above.Answer op → Option above.Mark) (lop : steps.Op) (answer : steps.Answer lop → above.Answer op) (carry : steps.Answer lop → Carry) → ((v : W) → rules.Honest h op v.seen above.Room)
      → (c : Carry) (B : List l.Step → Type 0) (C : above.Answer op → List l.Step → above.World → Type 0) (es : List l.Step) (w : W)
      → ((v : W) → Kept h w.seen v.seen → Shows v.real v.seen → Inv v.seen → Base h v.real v.seen c → rules.May sizes.version h op v.seen
      → premises.May h lop v.real.state × ((x : Outside) → premises.Honest h lop v.real.state x → CameTo op v (premises.MayWait h lop v.real.state) (exec h x lop v.real) answer carry))
      → Lasts (labelled sizes.version l) h B C → Wp (labelled sizes.version l) h B C (once op m) (suc (more op)) es w.seen → Stands sizes h w.real w.seen c
      → Wp (joined (labelled sizes.version l) (below sizes)) h B (Below (labelled sizes.version l) (below sizes) h C) (one op m lop answer carry) (suc (more op)) es w
  one_step_from op m lop answer carry honest c B C es w rule lasts todo stands =
      s-act (labelled sizes.version l) (below sizes) laws (below_laws sizes l keeps) h B op m C lasts above.Room lop (λ a. Ret (record { answer = answer a; carry = carry a })) (Below (labelled sizes.version l) (below sizes) h C) (more op) es w todo
      (λ v fs here may.
      let b = (below_laws sizes l keeps).base h w.real v.real w.seen v.seen c here.same here.kept stands in
      let r = rule v here.kept here.shows here.inv b.0 may in
      (r.0, λ x t. by v (steps.exec h x lop v.real.state) (same_sizes h x lop v.real.state here.shows.whole r.0 t) b.1 (r.1 x t)))
    where
      by : (v : W) (d : ExecResult (steps.Answer lop) steps.State) → After (λ s. s.log.sizes ≡ v.real.state.log.sizes) d → (log_of v.real).sizes ≡ sizes → CameTo op v (premises.MayWait h lop v.real.state) (came_to h lop v.real d) answer carry
          → Acting (labelled sizes.version l) (below sizes) laws (below_laws sizes l keeps) h B op m C lasts above.Room v (premises.MayWait h lop v.real.state) (came_to h lop v.real d)
          (λ a b u g. (gs : List l.Step) → Inv g → C b gs g → Wp (joined (labelled sizes.version l) (below sizes)) h B (Below (labelled sizes.version l) (below sizes) h C) (Ret (record { answer = answer a; carry = carry a })) (more op) gs (record { real = u; seen = g }))
      by v Waits kept at came = came
      by v (Stops s) kept at came = absurd came
      by v (Ran a s) kept at came =
          let o = owners_after h lop v.real s in
          let r : World = record { state = s; owner = o.owner; left = o.left; taken = o.taken; commits = commits_after h lop a v.real.commits; new = new_after h lop a s.log v.real.new } in
          let m' = marked_same sizes.version h (m (answer a)) came.then_ in (
            answer a,
            marked sizes.version h (m (answer a)) came.then_,
            ap (with_mark sizes.version h m) came.ran,
            honest v,
            (λ inv. shows_marked r came.then_ (marked sizes.version h (m (answer a)) came.then_) m' came.shows),
            came.same,
            λ gs inv done. (done, (base_marked h r came.then_ (marked sizes.version h (m (answer a)) came.then_) (carry a) m' came.free came.base, kept ∙ at)),
          )

  pub one_step : (op : above.Op) (m : above.Answer op → Option above.Mark) (lop : Carry → steps.Op) (answer : (c : Carry) → steps.Answer (lop c) → above.Answer op) (carry : (c : Carry) → steps.Answer (lop c) → Carry)
      → ((v : W) → rules.Honest h op v.seen above.Room)
      → ((v : W) (c : Carry) → Shows v.real v.seen → Inv v.seen → Base h v.real v.seen c → rules.May sizes.version h op v.seen
      → premises.May h (lop c) v.real.state × ((x : Outside) → premises.Honest h (lop c) v.real.state x → CameTo op v (premises.MayWait h (lop c) v.real.state) (exec h x (lop c) v.real) (answer c) (carry c)))
      → ActsOnceAt sizes l h op m (λ c m. one op m (lop c) (answer c) (carry c))
  one_step op m lop answer carry honest rule c B C es w lasts todo stands = one_step_from op m (lop c) (answer c) (carry c) honest c B C es w (λ v kept shows inv base may. rule v c shows inv base may) lasts todo stands
