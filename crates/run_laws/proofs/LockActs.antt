-- An operation that acts in the first step of its program does so when that step ran: the tables show that a lock was
-- taken.
use Rattle.run_laws.proofs.Vocabulary.{◌≡◌, ℕ, Option, Some, None, List, [], refl, sym, ◌∙◌, ap, subst, put_same, Super, Prog, Ret, Do, ExecResult, Waits, Ran, Stops, exec_result_in, ActOf, Both, both, ran_to, act_places, acts, seen_after, own, own_one, Outside, AnswerBelow, LockedState, file_named, lock_file, lock_inode, lock_open, refusal_of, came_to, in_tables, loaded, Loaded, Carry, handlers, file_locked, stat_locked, machine, Mark, Take, StatFile, LockFile, LockOpen, World, block_calls, IsAtEnd, InFirst, time_of, Operation, whole_inodes, told_by, Version}
use Rattle.fs_machine.specs.Inodes as inodes
use Rattle.fs_machine.specs.Steps as steps
use Rattle.fs_machine.specs.Tables.{TablesState, holder_in, place_of}
use Rattle.fs_machine.specs.declared.files.OpenFile.{OpenFile}
use Rattle.fs_machine.specs.declared.files.Refused.{Refused}
use Rattle.fs_machine.specs.declared.files.Want.TheVariants as want
use Rattle.inode_machine.specs.World as above
use Rattle.inode_machine.specs.World.Op.{Leave}
use Rattle.inodes_on_blocks.specs.Shown.{Shows}
use Rattle.inodes_on_blocks.specs.ShownTables as tables
use Rattle.inodes_on_blocks.proofs.Locks.{by_lock}
use Rattle.run_laws.proofs.ActedSo.{never_ran, none_is, none_made}
use Rattle.run_laws.proofs.Whole.{answer_or}

-- ---- tables

-- if a lock was taken, the tables don't show the same world as before
lock_taken : (h n : ℕ) (t u : TablesState) (w : above.World) (load later : ℕ → Option Loaded) (content : Option Loaded) → tables.Shows t w load → tables.Shows u w later → lock_inode h n t ≡ Ran content u → ⊥
unfolding lock_inode
lock_taken h n t u w load later content shows after ran = at (place_of n t.entries) refl
  where
    at : (o : Option ℕ) → place_of n t.entries ≡ o → ⊥
    at None e = never_ran content u (sym (ap (inodes.lock_at h t) e) ∙ ran)
    at (Some k) e =
        by_lock h n k t w load shows e ⊥ (λ waits g out. never_ran content u (sym waits ∙ ran))
        (λ z had free taken.
        let same : z ≡ u = ap (ran_to t) (sym had ∙ ran) in
        let mine : Some h ≡ holder_in z.locks (place_of n z.entries) = sym (put_same w.lock n (Some h)) ∙ taken.places.holders n in
        let none : holder_in u.locks (place_of n u.entries) ≡ None = sym (after.places.holders n) ∙ free in
        let q : Some h ≡ None = mine ∙ ap (λ (y : TablesState). holder_in y.locks (place_of n y.entries)) same ∙ none in
        cc)

-- that of what a descriptor names
file_taken : (h : ℕ) (t u : TablesState) (w : above.World) (load later : ℕ → Option Loaded) (b : LockedState) → tables.Shows t w load → tables.Shows u w later → (f : Option OpenFile) (why : Option Refused) → inodes.lock_unless h t f why ≡ Ran b u
    → ((r : Refused) → b ≡ inodes.Refuses r → ⊥) → ⊥
file_taken h t u w load later b shows after f (Some r) ran isnt = isnt r (sym (ap (answer_or b) ran))
file_taken h t u w load later b shows after None None ran isnt = never_ran b u ran
file_taken h t u w load later b shows after (Some f) None ran isnt = at (lock_inode h f.number t) refl ran
  where
    at : (d : ExecResult (Option Loaded) TablesState) → lock_inode h f.number t ≡ d → inodes.with_file f d ≡ Ran b u → ⊥
    at Waits is e = never_ran b u e
    at (Stops z) is e = (let q : Stops z ≡ Ran b u = e in cc)
    at (Ran content z) is e = lock_taken h f.number t u w load later content shows after (is ∙ ap (λ (y : TablesState). Ran content y) (ap (ran_to t) e))

open_taken : (h : ℕ) (t u : TablesState) (w : above.World) (load later : ℕ → Option Loaded) (b : OpenFile × Option Loaded) → tables.Shows t w load → tables.Shows u w later → (f : Option OpenFile) → steps.lock_open h t f ≡ Ran b u → ⊥
open_taken h t u w load later b shows after None ran = never_ran b u ran
open_taken h t u w load later b shows after (Some f) ran = at (lock_inode h f.number t) refl ran
  where
    at : (d : ExecResult (Option Loaded) TablesState) → lock_inode h f.number t ≡ d → steps.with_open f d ≡ Ran b u → ⊥
    at Waits is e = never_ran b u e
    at (Stops z) is e = (let q : Stops z ≡ Ran b u = e in cc)
    at (Ran content z) is e = lock_taken h f.number t u w load later content shows after (is ∙ ap (λ (y : TablesState). Ran content y) (ap (ran_to t) e))

-- ---- the joined machine

abbrev pub W : Type 0
W = Both World above.World

-- what is seen after a step that ran
pub seen_is : (version : Version) {A : Type 0} (h : ℕ) (m : A → Option (ActOf (machine version))) (g : above.World) (d : ExecResult A World) (b : A) (u : W) → both (machine version) h m g d ≡ Ran b u → u.seen ≡ seen_after (machine version) h (m b) g
seen_is version h m g Waits b u e = absurd (never_ran b u e)
seen_is version h m g (Stops r) b u e = absurd (let q : Stops (record { real = r; seen = g }) ≡ Ran b u = e in cc)
seen_is version {A} h m g (Ran a r) b u e =
    sym (ap (λ (z : ExecResult A W). (ran_to u z).seen) e) ∙ ap (λ (z : A). seen_after (machine version) h (m z) g) (ap (answer_or b) e)

-- a step of the tables
on_tables : (version : Version) (h : ℕ) (op : steps.Op) (m : AnswerBelow op → Option (ActOf (machine version))) (w : W) (d : ExecResult (AnswerBelow op) TablesState)
    (b : AnswerBelow op) (u : W)
    → both (machine version) h m w.seen (exec_result_in (λ v. record (w.real) { blocks = v }) (came_to h op w.real.blocks (in_tables w.real.blocks.state d))) ≡ Ran b u → d ≡ Ran b u.real.blocks.state.tables
on_tables version h op m w Waits b u e = absurd (never_ran b u e)
on_tables version h op m w (Stops t) b u e = (let q : Stops _ ≡ Ran b u = e in cc)
on_tables version h op m w (Ran a t) b u e = λ i. Ran (answer_or b (e i)) ((ran_to u (e i)).real.blocks.state.tables)

module _ (sizes : Super) (h : ℕ) (w : W) where
  -- The program's first step ran, which noted nothing, and the program goes on. That can't be.
  abbrev pub ActsAtOnce : {A : Type 0} → Prog steps.Op AnswerBelow (ActOf (machine sizes.version)) A → Type 0
  ActsAtOnce (Ret a) = Unit {0}
  ActsAtOnce (Do op m k) =
      (x : Outside) (b : AnswerBelow op) (u : W) → (block_calls sizes).M.go h x op m w ≡ Ran b u → ◌≡◌ {A = List Operation} (own h (act_places (whole_inodes sizes.version) h (m b) w.seen)) [] → Shows w.real.blocks w.seen → Shows u.real.blocks u.seen
      → (IsAtEnd (k b) → ⊥) → ⊥

  abbrev now : TablesState
  now = w.real.blocks.state.tables

  -- a step of the tables ran, and the world above is seen as before
  on_seen : (op : above.Op) (m : above.Answer op → Option Mark) (lop : steps.Op) (d : ExecResult (AnswerBelow lop) TablesState) (b : AnswerBelow lop) (u : W)
      → both (machine sizes.version) h (λ _. acts op above.Room m) w.seen (exec_result_in (λ v. record (w.real) { blocks = v }) (came_to h lop w.real.blocks (in_tables w.real.blocks.state d))) ≡ Ran b u
      → ◌≡◌ {A = List Operation} (own h (act_places (whole_inodes sizes.version) h (acts op above.Room m) w.seen)) [] → Shows u.real.blocks u.seen
      → (d ≡ Ran b u.real.blocks.state.tables) × tables.Shows u.real.blocks.state.tables w.seen (loaded u.real.blocks.state.tables)
  on_seen op m lop d b u ran none after = (
    on_tables sizes.version h lop (λ _. acts op above.Room m) w d b u ran,
    subst (λ (g : above.World). tables.Shows u.real.blocks.state.tables g (loaded u.real.blocks.state.tables))
        (seen_is sizes.version h (λ _. acts op above.Room m) w.seen (exec_result_in (λ v. record (w.real) { blocks = v }) (came_to h lop w.real.blocks (in_tables w.real.blocks.state d))) b u ran ∙ (none_made sizes.version h w.seen (acts op above.Room m) none).0) after.tables,
  )

  pub acts_at_once : (op : above.Op) (c : Carry) (m : above.Answer op → Option Mark) → time_of op ≡ InFirst → ActsAtOnce (handlers sizes c op m)
  unfolding steps.exec lock_file
  acts_at_once (Take n looking) c m e = λ x b u ran none shows after goes.
      let r = on_seen (Take n looking) m (steps.Lock n) (lock_inode h n now) b u ran none after in
      lock_taken h n now u.real.blocks.state.tables w.seen (loaded now) (loaded u.real.blocks.state.tables) b shows.tables r.1 r.0
  acts_at_once (StatFile fd) c m e = λ x b u ran none shows after goes.
      let r = on_seen (StatFile fd) m (steps.LockFile want.Stat fd) (lock_file h want.Stat fd now) b u ran none after in
      file_taken h now u.real.blocks.state.tables w.seen (loaded now) (loaded u.real.blocks.state.tables) b shows.tables r.1 (file_named h fd now) (refusal_of want.Stat (file_named h fd now)) r.0
      (λ y is. goes (subst (λ (z : LockedState). IsAtEnd (stat_locked sizes c z)) (sym is) tt))
  acts_at_once (LockFile fd) c m e = λ x b u ran none shows after goes.
      let r = on_seen (LockFile fd) m (steps.LockFile want.Read fd) (lock_file h want.Read fd now) b u ran none after in
      file_taken h now u.real.blocks.state.tables w.seen (loaded now) (loaded u.real.blocks.state.tables) b shows.tables r.1 (file_named h fd now) (refusal_of want.Read (file_named h fd now)) r.0
      (λ y is. goes (subst (λ (z : LockedState). IsAtEnd (file_locked sizes fd c z)) (sym is) tt))
  acts_at_once (LockOpen fd n) c m e = λ x b u ran none shows after goes.
      let r = on_seen (LockOpen fd n) m (steps.LockOpen fd) (steps.lock_open h now (file_named h fd now)) b u ran none after in
      open_taken h now u.real.blocks.state.tables w.seen (loaded now) (loaded u.real.blocks.state.tables) b shows.tables r.1 (file_named h fd now) r.0
  acts_at_once Leave c m e = λ x b u ran none shows after goes.
      none_is _ [] (sym (own_one {A = Operation} h (record { op = Leave; answer = tt; mark = m tt; told = told_by sizes.version h (m tt) w.seen })) ∙ none)
  acts_at_once op c m e = absurd cc
