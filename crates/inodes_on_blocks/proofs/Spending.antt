-- What the steps of a hart make of what its transaction has spent.
use Rattle.inodes_on_blocks.proofs.Vocabulary.{◌≡◌, ◌≢◌, inl, inr, ℕ, zero, suc, Bool, true, false, List, [], ◌∷◌, length, Option, Some, None, sym, ◌∙◌, ap, subst, arith, slice_get, slice_set, same_Some, Super, get_of, SeatState, Got, joined_count, limit_of, turn_is_out, join_waits, Open, Halted, open_of, Ret, Do, ExecResult, Waits, Ran, Stops, Machine, Wp, ActOf, Both, both, joined, ran_to, Below, Leads, Tracks, Wp-tracks, Refused, TablesState, file_named, refusal_of, lock_inode, lock_file, settle_inode, up_inode, first_free, take_place, open_file, double_descriptor, shut_descriptor, give_next, LogPart, Outside, Passes, Fails, join_if, got_by, read_block, put_block, commit_if, State, in_log, in_tables, joins, join_unless, lock_opened as lock_open, claims, claim_first, up_whom, drop_which, IsWholeLog, After, more, Spent, spent_after, Accounts, World, log_of, came_to, Handler, Carry, below, Labels, labelled, alone, IsDone, Answers, HasSpent, NoMore, LeadsTo, Records, Spends, ProgramsStayWithin}
use Rattle.buffer_cache.specs.declared.got.Got.TheVariants as got
use Rattle.fs_machine.specs.declared.files.OpenFile.{OpenFile}
use Rattle.fs_machine.specs.declared.files.Want.TheVariants as want
use Rattle.fs_machine.specs.Premises as premises
use Rattle.fs_machine.specs.Steps as steps
use Rattle.inode_machine.specs.World as above
use Rattle.inodes_on_blocks.specs.Handlers.{P}
use Rattle.inodes_on_blocks.proofs.Basics.{other_put, set_at, spent_put, has_members, spent_stays, same_sizes}

-- ---- one step of what all harts share

-- of a hart that is in no transaction nothing is said
unset_at : (ms : List (Option ℕ)) (h k : ℕ) → slice_get (slice_set ms h None) h ≡ Some (Some k) → ⊥
unset_at [] h k e = cc e
unset_at (m ∷ ms) zero k e = cc e
unset_at (m ∷ ms) (suc h) k e = unset_at ms h k e

module _ (h : ℕ) (st : State) (whole_ : IsWholeLog st.log) where
  -- no more than r was spent if it was no more than s before
  abbrev Account : Spent → Spent → LogPart → Type 0
  Account s r l = Accounts h st.log s → Accounts h l r

  abbrev Keeps : {A : Type 0} → Spent → Spent → ExecResult A State → Type 0
  Keeps s r d = After (λ t. Account s r t.log) d

  tables_keep : {A : Type 0} (s : Spent) (d : ExecResult A TablesState) → Keeps s s (in_tables st d)
  tables_keep s Waits = tt
  tables_keep s (Ran a t) = λ z. z
  tables_keep s (Stops t) = λ z. z

  join_keeps : (s r : Spent) (b : Bool) → Keeps s r (in_log st (join_if h st.log b))
  join_keeps s r true = tt
  join_keeps s r false = λ z k e. let none = set_at st.log.members h k e in omega (arith, none)

  joins_keep : (s r : Spent) (f : OpenFile) (b : Bool) → Keeps s r (joins f (in_log st (join_if h st.log b)))
  joins_keep s r f true = tt
  joins_keep s r f false = join_keeps s r false

  -- who joins is in none yet
  outside_keeps : (s r : Spent) → slice_get st.log.members h ≡ Some None → Account s r st.log
  outside_keeps s r out z k e = absurd (let q : None ≡ Some k = same_Some None (Some k) (sym out ∙ e) in cc q)

  unless_keeps : (s r : Spent) → slice_get st.log.members h ≡ Some None → (f : Option OpenFile) (why : Option Refused) → Keeps s r (join_unless h st f why)
  unless_keeps s r out None (Some why) = outside_keeps s r out
  unless_keeps s r out (Some f) (Some why) = outside_keeps s r out
  unless_keeps s r out None None = tt
  unless_keeps s r out (Some f) None = joins_keep s r f (join_waits st.log.phase (length st.log.group) (joined_count st.log.members) (limit_of st.log.sizes))

  get_keeps : (s : Spent) (x : List SeatState × Got) → Keeps s s (in_log st (got_by st.log x))
  get_keeps s (zs, got.Held guard) = λ z. z
  get_keeps s (zs, got.Waits) = tt

  read_keeps : (s : Spent) (b : ℕ) (x : Outside) → Keeps s s (in_log st (read_block b x st.log))
  read_keeps s b Passes = λ z. z
  read_keeps s b (Fails after) = λ z. z

  claims_keep : (s : Spent) (d : ExecResult (Option ℕ) TablesState) → Keeps s s (claims (in_tables st d))
  claims_keep s Waits = tt
  claims_keep s (Ran None t) = λ z. z
  claims_keep s (Ran (Some m) t) = λ z. z
  claims_keep s (Stops t) = λ z. z

  claim_keeps : (s : Spent) (b : ℕ) (o : Option ℕ) → Keeps s s (claim_first h b st o)
  claim_keeps s b None = λ z. z
  claim_keeps s b (Some n) = claims_keep s (up_inode n st.tables)

  -- while a commit runs nobody is in a transaction
  commit_keeps : (s : Spent) (x : Outside) → st.log.phase ≢ Open → st.log.phase ≢ Halted → (b : Bool) → Keeps s s (in_log st (commit_if x st.log b))
  commit_keeps s x begun runs true = tt
  commit_keeps s Passes begun runs false = λ z k e. absurd (begun (open_of st.log.phase st.log.members h whole_.log.quiet runs (has_members st.log.members h k e)))
  commit_keeps s (Fails after) begun runs false = λ z k e. absurd (begun (open_of st.log.phase st.log.members h whole_.log.quiet runs (has_members st.log.members h k e)))

  put_keeps : (b : ℕ) (bytes : List ℕ) (s r : Spent) → LeadsTo st.log.sizes s (steps.Put b (Some bytes)) r → Account s r (put_block h b (Some bytes) st.log)
  put_keeps b bytes s r (inl p) = λ z. subst (λ (q : Spent). Accounts h (put_block h b (Some bytes) st.log) q) (sym p.1) (spent_put h st.log b bytes s z p.0)
  put_keeps b bytes s r (inr e) = λ z. subst (λ (q : Spent). Accounts h (put_block h b (Some bytes) st.log) q) (sym e) (other_put h st.log b bytes s z)

  -- a step that records nothing
  quiet : {A : Type 0} (s r : Spent) (d : ExecResult A State) → r ≡ s → Keeps s s d → Keeps s r d
  quiet s r d e keeps = subst (λ (q : Spent). Keeps s q d) (sym e) keeps

  step_keeps : (x : Outside) (op : steps.Op) (s r : Spent) → premises.May h op st → LeadsTo st.log.sizes s op r → Keeps s r (steps.exec h x op st)
  unfolding steps.exec premises.May
  step_keeps x steps.Join s r may to = join_keeps s r (join_waits st.log.phase (length st.log.group) (joined_count st.log.members) (limit_of st.log.sizes))
  step_keeps x (steps.JoinToWrite fd) s r may to = unless_keeps s r may.1 (file_named h fd st.tables) (refusal_of want.Write (file_named h fd st.tables))
  step_keeps x steps.Leave s r may to = λ z k e. absurd (unset_at st.log.members h k e)
  step_keeps x (steps.Get b) s r may to = quiet s r (in_log st (got_by st.log (get_of h b st.log.seats))) to (get_keeps s (get_of h b st.log.seats))
  step_keeps x (steps.Read b) s r may to = quiet s r (in_log st (read_block b x st.log)) to (read_keeps s b x)
  step_keeps x (steps.Put b None) s r may to = λ z. subst (λ (q : Spent). Accounts h st.log q) (sym to) z
  step_keeps x (steps.Put b (Some bytes)) s r may to = put_keeps b bytes s r to
  step_keeps x steps.Commit s r may to = quiet s r (in_log st (commit_if x st.log (turn_is_out st.log.seats st.log.group st.log.phase))) to (commit_keeps s x may.2 may.3 (turn_is_out st.log.seats st.log.group st.log.phase))
  step_keeps x (steps.Lock n) s r may to = quiet s r (in_tables st (lock_inode h n st.tables)) to (tables_keep s (lock_inode h n st.tables))
  step_keeps x (steps.LockFile w fd) s r may to = quiet s r (in_tables st (lock_file h w fd st.tables)) to (tables_keep s (lock_file h w fd st.tables))
  step_keeps x (steps.LockOpen fd) s r may to = quiet s r (in_tables st (lock_open h st.tables (file_named h fd st.tables))) to (tables_keep s (lock_open h st.tables (file_named h fd st.tables)))
  step_keeps x (steps.Unlock v moved) s r may to = λ z. subst (λ (q : Spent). Accounts h st.log q) (sym to) z
  step_keeps x (steps.SetDirectory v) s r may to = quiet s r (in_tables st (settle_inode h v st.tables)) to (tables_keep s (settle_inode h v st.tables))
  step_keeps x (steps.Up whom) s r may to = quiet s r (in_tables st (up_whom h whom st.tables)) to (tables_keep s (up_whom h whom st.tables))
  step_keeps x (steps.Claim b candidates) s r may to = quiet s r (claim_first h b st (first_free st.tables.entries candidates)) to (claim_keeps s b (first_free st.tables.entries candidates))
  step_keeps x (steps.Down drop) s r may to = quiet s r (in_tables st (drop_which h drop st.tables)) to (tables_keep s (drop_which h drop st.tables))
  step_keeps x (steps.CheckFile w fd) s r may to = λ z. subst (λ (q : Spent). Accounts h st.log q) (sym to) z
  step_keeps x steps.TakePlace s r may to = quiet s r (in_tables st (take_place h st.tables)) to (tables_keep s (take_place h st.tables))
  step_keeps x (steps.TakeDescriptor n file) s r may to = quiet s r (in_tables st (open_file h n file st.tables)) to (tables_keep s (open_file h n file st.tables))
  step_keeps x (steps.Double fd) s r may to = quiet s r (in_tables st (double_descriptor h fd st.tables)) to (tables_keep s (double_descriptor h fd st.tables))
  step_keeps x (steps.Close fd) s r may to = quiet s r (in_tables st (shut_descriptor h fd st.tables)) to (tables_keep s (shut_descriptor h fd st.tables))
  step_keeps x (steps.GiveDescriptor child from) s r may to = quiet s r (in_tables st (give_next h child from st.tables)) to (tables_keep s (give_next h child from st.tables))
  step_keeps x steps.Reply s r may to = λ z. subst (λ (q : Spent). Accounts h st.log q) (sym to) z

-- ---- the steps of a program

module _ (sizes : Super) (l : Labels) (h : ℕ) where
  abbrev W : Type 0
  W = Both World above.World

  abbrev M : Machine
  M = joined (labelled sizes.version l) (below sizes)

  -- what the hart has spent at most
  abbrev pub Has : W → Spent → Type 0
  Has w s = HasSpent sizes h s w.real

  more_spent : (s t : Spent) (w : W) → NoMore s t → Has w s → Has w t
  more_spent s t w less has = (has.0, λ k e. let few = has.1 k e in let up = less (log_of w.real) in omega (arith, few, up))

  leads : (op : steps.Op) (mark : steps.Answer op → Option (ActOf (labelled sizes.version l))) (a : steps.Answer op) (s r : Spent) → LeadsTo sizes s op r → Leads M h Has op mark a s r
  leads op mark a s r to x v w inv may honest e has =
      ran (steps.exec h x op v.real.state) (step_keeps h v.real.state inv.0.whole x op s r may (subst (λ (z : Super). LeadsTo z s op r) (sym has.0) to)) (same_sizes h x op v.real.state inv.0.whole may honest) e
    where
      ran : (d : ExecResult (steps.Answer op) State) → After (λ t. Accounts h v.real.state.log s → Accounts h t.log r) d → After (λ t. t.log.sizes ≡ v.real.state.log.sizes) d
          → both (labelled sizes.version l) h mark v.seen (came_to h op v.real d) ≡ Ran a w → HasSpent sizes h r w.real
      ran Waits keeps same e = absurd (cc e)
      ran (Stops t) keeps same e = absurd (cc e)
      ran (Ran b t) keeps same e = subst (λ (y : W). HasSpent sizes h r y.real) (ap (λ (d : ExecResult (steps.Answer op) W). ran_to w d) e) (same ∙ has.0, keeps has.1)

  tracks : {A : Type 0} (p : P A) (s t : Spent) → Records sizes s p t → Tracks M h Has s p t
  tracks (Ret a) s t less = λ w has. more_spent s t w less has
  tracks (Do op mark k) s t rec = λ a.
      let step = rec.2 a in (
        step.0,
        (λ x v w inv may honest e has. leads op mark a rec.0 step.0 step.1 x v w inv may honest e (more_spent s rec.0 v rec.1 has)),
        tracks (k a) step.0 t step.2,
      )

  -- A program that records so leaves no more spent, beside all else that is shown of it.
  pub ends_within : {A : Type 0} (p : P A) (s t : Spent) → Records sizes s p t → (B : List l.Step → Type 0) (Q : A → List l.Step → W → Type 0) (n : ℕ) (es : List l.Step) (w : W) → Wp M h B Q p n es w → Has w s → Wp M h B (λ r fs u. Q r fs u × Has u t) p n es w
  ends_within p s t records B Q n es w goes has = Wp-tracks M h Has (λ v u xs r o known. spent_stays sizes h r v.real u.real o.0 known) B p Q s t n es w (tracks p s t records) goes has

  -- So does an operation's that records what the operation spends.
  pub stays_within : (op : above.Op) (m : above.Answer op → Option above.Mark) (p : Handler op) → Spends sizes op p → (c : Carry) (s : Spent) (B : List l.Step → Type 0) (C : above.Answer op → List l.Step → above.World → Type 0) (n : ℕ) (es : List l.Step) (w : W)
      → Wp M h B (Below (labelled sizes.version l) (below sizes) h C) (p c m) n es w → Has w s → Wp M h B (λ r fs u. Below (labelled sizes.version l) (below sizes) h C r fs u × Has u (spent_after op s)) (p c m) n es w
  stays_within op m p spends c s B C n es w goes has = ends_within (p c m) s (spent_after op s) (spends c m s) B (Below (labelled sizes.version l) (below sizes) h C) n es w goes has

pub programs_stay_within : ProgramsStayWithin
programs_stay_within sizes op p spends does h s m c w lt few todo stands accounts =
    stays_within sizes alone h op m p spends c s (IsDone op) (Answers op) (suc (more op)) [] w (does h s m c w lt few todo stands accounts) (stands.1, accounts)
