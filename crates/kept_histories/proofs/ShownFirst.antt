-- What a tree that has settled shows of an inode whose lock is taken, if the operation's program goes on after that
-- step. It is what the operation is answered, if its mark depends on that.
use Rattle.std.specs.Prelude.{◌≡◌, ◌⊎◌, ◌<◌, ◌≤◌, ◌^◌, ℕ, ◌+◌, ◌==◌, Bool, true, false, List, [], ◌∷◌, ◌++◌, length, is_some, Option, Some, None}
use Rattle.calls_on_blocks.proofs.Vocabulary.{refl, sym, ◌∙◌, ap, subst, inl, inr, arith}
use Rattle.atomic_programs.proofs.Explains as explained
use Rattle.atomic_programs.proofs.Explains.{Some-inj, sound_keeps}
use Rattle.atomic_programs.specs.Calls.{AllHonest, Begun, Ends, Event, Made, Run, Sound, State, Theory, fresh, run}
use Rattle.atomic_programs.specs.Joined.{Handover, lowered}
use Rattle.atomic_programs.specs.Logic.{Wp}
use Rattle.atomic_programs.specs.Prog.{Do, Ran, bind}
use Rattle.calls_on_blocks.proofs.Lawful.{lawful}
use Rattle.calls_on_blocks.specs.Layer.{layer}
use Rattle.calls_on_blocks.specs.Theory.{block_calls}
use Rattle.fs_layout.specs.declared.superblock.Super.{Super}
use Rattle.fs_machine.specs.Steps as steps
use Rattle.inode_machine.proofs.Vocabulary.{look_live}
use Rattle.inode_machine.specs.Exec.{entry_of, lock_at, lock_if, locked, read_refused}
use Rattle.inode_machine.specs.Inodes.{AtEntries, AtName, AtNothing, Query, Sight}
use Rattle.inode_machine.specs.Inodes.{seen_in}
use Rattle.inode_machine.specs.Marks.{go, with_mark}
use Rattle.inode_machine.specs.Rules.{Inv}
use Rattle.inode_machine.specs.Rules.{machine}
use Rattle.inode_machine.specs.World.{Answer, Entry, LockResult, LocksIt, Mark, NotLocked, Op, World}
use Rattle.inode_machine.specs.World as above
use Rattle.inode_machine.specs.World.Op.{LockFile, LockOpen, StatFile, Take}
use Rattle.inodes_on_blocks.specs.Handlers.{Acts, P}
use Rattle.inodes_on_blocks.specs.Lowering.{Carry}
use Rattle.inodes_on_blocks.specs.Programs.{handlers}
use Rattle.inodes_on_blocks.specs.Shown.{Shows}
use Rattle.path_walk.specs.Asks.{answer_to}
use Rattle.path_walk.specs.declared.asks.Heard.{Heard}
use Rattle.plain_tree.specs.Tree.{Tree, is_live, settle}
use Rattle.plain_tree.specs.declared.answer.Cause.{Cause}
use Rattle.plain_tree.specs.declared.answer.Reply.{Reply}
use Rattle.plain_tree.specs.declared.call.Call.{Call}
use Rattle.run_laws.specs.Searches.{AnsweredStep}
use Rattle.run_laws.specs.UnderWay.{Fits, GoesOnAsItActs, HasActed, IsInOperation, IsMadeBy, LeadTo, RunsAStep, SeesTruly, UnderWay, none_ran, time_of}
use Rattle.run_laws.specs.Vocabulary.{Outside, or_else}
use Rattle.tree_histories.specs.Sights.{FewSlotsIn, SeenFor, acts_first}
use Rattle.kept_histories.proofs.FirstStep.{GoesOn, ShownAlike, W, file_goes, take_goes}
use Rattle.kept_histories.proofs.HandRuns.{in_hands, sound_here}
use Rattle.kept_histories.proofs.HandSteps.{InHands, Left, TakesOn}
use Rattle.kept_histories.proofs.Hands.{AsksSo, Hands, IsAlike, TakesInHand, TakesSo, one}
use Rattle.kept_histories.proofs.InHand.{Holds}
use Rattle.kept_histories.proofs.Controls.{at_end}
use Rattle.image_versions.specs.declared.version.Version.{Version}

-- Of the world above: if a mark depends on what is seen of an inode, the tree has it as it is on disk. An open file's
-- inode is locked, and marked the same whatever inode and offset it has. And a descriptor's state is marked the same,
-- whatever it is.
abbrev pub ShowsTruly : Version → Tree → World → (op : Op) → (Answer op → Option Mark) → Answer op → Type 0
ShowsTruly version t w (Take n looking) m a = IsAlike m ⊎ ((t.nodes n ≡ w.disk n) × (n < t.ninodes) × FewSlotsIn version (t.nodes n))
ShowsTruly version t w (LockFile fd) m (NotLocked why) = ⊥
ShowsTruly version t w (LockFile fd) m (LocksIt n offset) = (k at : ℕ) → m (LocksIt n offset) ≡ m (LocksIt k at)
ShowsTruly version t w (StatFile fd) m a = IsAlike m
ShowsTruly version t w (LockOpen fd n) m a = IsAlike m
ShowsTruly version t w op m a = Unit {0}

-- ---- the first step of an operation's program

-- an operation that acts first hasn't acted before it
not_yet : {A : Type 0} (o : Option A) → is_some o ≡ false → o ≡ None
not_yet None e = refl
not_yet (Some a) e = absurd (let q : true ≡ false = e in cc)

acts_now : {A : Type 0} (o acted : Option A) (a : A) → acted ≡ None → or_else o acted ≡ Some a → o ≡ Some a
acts_now None acted a none e = absurd (let q : None ≡ Some a = sym none ∙ e in cc)
acts_now (Some b) acted a none e = e

-- the world above locks what may be read
never_refused : (version : Version) (h : ℕ) (w u : World) (m : LockResult → Option Mark) (e : Option Entry) (r : Option Cause) (why : Cause) → read_refused e ≡ None → r ≡ None → with_mark version h m (lock_at h w e r) ≡ Ran (NotLocked why) u → ⊥
never_refused version h w u m e (Some c) why may none ran = (let q : Some c ≡ None = none in cc)
never_refused version h w u m None None why may none ran = (let q : ◌≡◌ {A = Option Cause} (read_refused None) None = may in cc)
never_refused version h w u m (Some e) None why may none ran = by (w.lock e.file.number) ran
  where
    by : (o : Option ℕ) → with_mark version h m (lock_if h e.file.number (LocksIt e.file.number e.file.offset) w (locked h e.file.number w) o) ≡ Ran (NotLocked why) u → ⊥
    by None q = cc q
    by (Some g) q = cc q

module _ (sizes : Super) (h : ℕ) (w : W) (shows : Shows w.real.blocks w.seen) (inv : Inv w.seen) where
  -- what is in hand is shared, and what was counted up last is alive
  seen_taken : (n : ℕ) (looking : Query) (c : Carry) (m : Sight → Option Mark) (g : Option Hands) → TakesInHand g n looking → Holds h g w.seen
      → GoesOn sizes h w (ShownAlike sizes.version (settle w.seen.all) w.seen n) (handlers sizes c (Take n looking) m)
  seen_taken n looking c m None takes holds = absurd takes
  seen_taken n looking c m (Some g) takes holds =
      take_goes sizes h n w holds.hart shows inv (holds.shared n (let low = in_hand looking takes in more (one ((w.seen.desks h).directory == n)) (g.has n) low)) looking c m (λ e. live (subst (TakesInHand (Some g) n) e takes))
    where
      more : (a b : ℕ) → 1 ≤ b → 1 ≤ a + b
      more a b low = omega (arith, low)

      in_hand : (looking : Query) → TakesInHand (Some g) n looking → 1 ≤ g.has n
      in_hand AtNothing low = low
      in_hand (AtName e) low = low
      in_hand AtEntries low = low.0

      live : TakesInHand (Some g) n AtEntries → is_live (w.seen.all.nodes n) ≡ true
      live t = let f = holds.stands n t.1 in look_live w.seen.all f.directory n f.name inv.well f.finds

  module _ (x : Outside) (lop : steps.Op) (lm : steps.Answer lop → Option Acts) (b : steps.Answer lop) (to : W) (may : (block_calls sizes).M.May h lop w) (ran : (block_calls sizes).M.go h x lop lm w ≡ Ran b to) where
    there : {A : Type 0} (Goal : Type 0) (p : P A) (lk : steps.Answer lop → P A) → p ≡ Do lop lm lk → at_end (lk b) ≡ false → GoesOn sizes h w Goal p → Goal
    there {A} Goal p lk is goes says = (subst (λ (z : P A). GoesOn sizes h w Goal z) is says) x b to may ran goes

    shows_first : (op : Op) (m : Answer op → Option Mark) (c : Carry) (lk : steps.Answer lop → P (Handover (Answer op) Carry)) (acts acted : Option (Answer op)) (a : Answer op)
        → handlers sizes c op m ≡ Do lop lm lk → at_end (lk b) ≡ false → HasActed (time_of op) true (is_some acted)
        → (acted ≡ None → (g : Option Hands) × AsksSo g op m × Holds h g w.seen)
        → (acts ≡ Some a → (y : above.Outside) × (to : World) × (go sizes.version h y op m w.seen ≡ Ran a to)) → or_else acts acted ≡ Some a
        → ShowsTruly sizes.version (settle w.seen.all) w.seen op m a
    shows_first (Take n looking) m c lk acts acted a is goes has asks does e = by (asks (not_yet acted has))
      where
        by : (g : Option Hands) × (IsAlike m ⊎ TakesInHand g n looking) × Holds h g w.seen → ShowsTruly sizes.version (settle w.seen.all) w.seen (Take n looking) m a
        by t = elim t.1 [
          | inl alike ↦ inl alike
          | inr takes ↦ inr (let s = there (ShownAlike sizes.version (settle w.seen.all) w.seen n) (handlers sizes c (Take n looking) m) lk is goes (seen_taken n looking c m t.0 takes t.2) in (s.same, s.below, s.few))
        ]
    shows_first (LockFile fd) m c lk acts acted (LocksIt n offset) is goes has asks does e = λ k at. (asks (not_yet acted has)).1.1 n k offset at
    shows_first (LockFile fd) m c lk acts acted (NotLocked why) is goes has asks does e = by (asks none).0 (asks none).1 (asks none).2
      where
        none : acted ≡ None
        none = not_yet acted has

        by : (g : Option Hands) → AsksSo g (LockFile fd) m → Holds h g w.seen → ⊥
        by None t holds = t.0
        by (Some g) t holds =
            let may_read = there (read_refused (entry_of w.seen h fd) ≡ None) (handlers sizes c (LockFile fd) m) lk is goes (file_goes sizes h fd w holds.hart holds.free shows inv c m) in
            let d = does (acts_now acts acted (NotLocked why) none e) in
            never_refused sizes.version h w.seen d.1 m (entry_of w.seen h fd) (read_refused (entry_of w.seen h fd)) why may_read may_read d.2
    shows_first (StatFile fd) m c lk acts acted a is goes has asks does e = (asks (not_yet acted has)).1
    shows_first (LockOpen fd n) m c lk acts acted a is goes has asks does e = (asks (not_yet acted has)).1
    shows_first op m c lk acts acted a is goes has asks does e = tt

-- ---- the mark

-- so an operation that acts first has the mark of what such a tree shows
pub marks_alike : (version : Version) (t : Tree) (w : World) → t.ninodes ≤ 2 ^ 16 → (op : Op) (m : Answer op → Option Mark) (a : Answer op) (y : Heard) → acts_first op ≡ true → ShowsTruly version t w op m a → SeesTruly version op a w → SeenFor version t (Some op) y
    → m a ≡ m (answer_to [] op y)
marks_alike version t w few (Take n looking) m a y first (inl alike) sees seen = alike a (answer_to [] (Take n looking) y)
marks_alike version t w few (Take n looking) m a y first (inr s) sees seen =
    ap m (sees ∙ ap (seen_in version n looking) (sym s.0) ∙ sym (seen (let low = s.1 in omega (arith, low, few)) s.2))
marks_alike version t w few (StatFile fd) m a y first shows sees seen = shows a (answer_to [] (StatFile fd) y)
marks_alike version t w few (LockOpen fd n) m a y first shows sees seen = shows a (answer_to [] (LockOpen fd n) y)
marks_alike version t w few (LockFile fd) m (NotLocked why) y first shows sees seen = absurd shows
marks_alike version t w few (LockFile fd) m (LocksIt n offset) y first shows sees seen = shows 0 0 ∙ ap (λ (z : Heard). m (answer_to [] (LockFile fd) z)) (sym seen)
marks_alike version t w few op m a y first shows sees seen = absurd (let q : false ≡ true = first in cc)

-- ---- along a run

-- before its first step all of a program is left
all_left : {A : Type 0} (p : P A) (es : List AnsweredStep) (q : P A) → none_ran es ≡ true → LeadTo p es q → p ≡ q
all_left p [] q f t = t
all_left p (e ∷ es) q f t = absurd (let x : false ≡ true = f in cc)

module _ (sizes : Super) where
  abbrev L : Theory
  L = block_calls sizes

  -- the call that a hart is in
  record Here (s : State (block_calls sizes)) (h : ℕ) (u : UnderWay) : Type 0 where
    call : Run (block_calls sizes)
    is : s.running h ≡ Some call
    in_ : IsInOperation sizes call.prog u

  call_here : (s : State (block_calls sizes)) (h : ℕ) (u : UnderWay) (o : Option (Run (block_calls sizes))) → s.running h ≡ o → Fits sizes o (Some u) → Here s h u
  call_here s h u None is fits = absurd fits
  call_here s h u (Some r) is fits = record { call = r; is = is; in_ = fits }

  module _ (start : (block_calls sizes).M.World) (events : List (Event Call Outside)) (goes : GoesOnAsItActs sizes start events)
      (holds : (block_calls sizes).M.Inv start) (idle : (h : ℕ) → (block_calls sizes).M.Idle h start) (honest : AllHonest (block_calls sizes) events (fresh (block_calls sizes) start))
      (es rest : List (Event Call Outside)) (is : es ++ rest ≡ events) (off : (run (block_calls sizes) es (fresh (block_calls sizes) start)).stopped ≡ false) where
    abbrev s : State (block_calls sizes)
    s = run (block_calls sizes) es (fresh (block_calls sizes) start)

    abbrev was : ℕ → Option UnderWay
    was = goes.under (length es)

    -- A step that is the first of its operation's program and doesn't end it, if the operation is answered this.
    pub shows_truly : (h : ℕ) (x : Outside) (made : Made (block_calls sizes)) (now : ℕ → Option UnderWay)
        (r : RunsAStep sizes h x (run (block_calls sizes) es (fresh (block_calls sizes) start)) made (goes.under (length es)) now)
        → none_ran r.under.ran ≡ true → at_end (r.rest r.answer) ≡ false → (a : Answer r.under.op) → or_else r.acts r.under.acted ≡ Some a
        → let w = (run (block_calls sizes) es (fresh (block_calls sizes) start)).world.seen in ShowsTruly sizes.version (settle w.all) w r.under.op r.under.mark a
    shows_truly h x made now r first goes_on a acts =
        shows_first sizes h s.world now_holds.0.0 now_holds.1 x r.op r.mark r.answer made.after.world may r.ran u.op u.mark u.hand r.rest r.acts u.acted a
        (all_left (handlers sizes u.hand u.op u.mark) u.ran u.left first call.in_.leads ∙ r.asks) goes_on
        (subst (λ (z : Bool). HasActed (time_of u.op) z (is_some u.acted)) first call.in_.acted)
        (λ none. let t : TakesSo hands.hands (Do u.op u.mark u.rest) = subst (Left hands.hands u) none hands.left in (hands.hands, t.0, hands.holds))
        (λ e. let d = (subst (λ (o : Option (Answer u.op)). IsMadeBy sizes.version h u o s.world.seen made.after.world.seen) e r.does).0 in
        (d.0, made.after.world.seen, d.1))
        acts
      where
        u : UnderWay
        u = r.under

        call : Here s h u
        call = call_here s h u (s.running h) refl (subst (Fits sizes (s.running h)) r.is (goes.fits es rest is h))

        sound : Sound L s
        sound = sound_here sizes start events goes holds idle honest es rest is

        keeps : explained.Keeps L (L.M.tree sound.first) s
        keeps = sound_keeps L (lawful sizes) s sound

        now_holds : L.M.Inv s.world
        now_holds = explained.inv_of L s.stopped s.world keeps.holds off

        hands : TakesOn h s.world.seen u u.acted
        hands = subst (InHands h s.world.seen) r.is (in_hands sizes start events goes holds idle honest es rest is off h)

        after_this : Handover (Answer u.op) Carry → P Reply
        after_this z = lowered (machine sizes.version) (layer sizes) (handlers sizes) z.carry (u.rest z.answer)

        may : L.M.May h r.op s.world
        may =
            let g = keeps.going h call.call call.is in
            let asks_it = call.in_.is ∙ ap (λ (z : P (Handover (Answer u.op) Carry)). bind z after_this) r.asks in
            ((subst (λ (p : P Reply). Wp L.M h (Begun L call.call.call) (Ends L h call.call.call) p g.left call.call.done s.world) asks_it (g.wp off)) s.world [] ((lawful sizes).laws.same h s.world) now_holds).1

    -- there are fewer inodes than an entry can name
    pub few_inodes : (settle (run (block_calls sizes) es (fresh (block_calls sizes) start)).world.seen.all).ninodes ≤ 2 ^ 16
    unfolding settle
    few_inodes = let sound = sound_here sizes start events goes holds idle honest es rest is in
        let now_holds : L.M.Inv s.world = explained.inv_of L s.stopped s.world (sound_keeps L (lawful sizes) s sound).holds off in
        let size = now_holds.0.0.size in
        let many = now_holds.0.0.blocks.seen.good.many_inodes in
        omega (arith, size, many)

    -- So what such a tree shows has the mark of what the operation is answered.
    pub sees_rightly : (t : Tree) → t ≡ settle (run (block_calls sizes) es (fresh (block_calls sizes) start)).world.seen.all → (h : ℕ) (x : Outside) (made : Made (block_calls sizes)) (now : ℕ → Option UnderWay)
        (r : RunsAStep sizes h x (run (block_calls sizes) es (fresh (block_calls sizes) start)) made (goes.under (length es)) now)
        → acts_first r.under.op ≡ true → none_ran r.under.ran ≡ true → at_end (r.rest r.answer) ≡ false → (y : Heard) (a : Answer r.under.op) → SeenFor sizes.version t (Some r.under.op) y
        → SeesTruly sizes.version r.under.op a (run (block_calls sizes) es (fresh (block_calls sizes) start)).world.seen → or_else r.acts r.under.acted ≡ Some a → r.under.mark a ≡ r.under.mark (answer_to [] r.under.op y)
    sees_rightly t same h x made now r acting first goes_on y a seen sees acts =
        marks_alike sizes.version (settle s.world.seen.all) s.world.seen few_inodes r.under.op r.under.mark a y acting (shows_truly h x made now r first goes_on a acts) sees (subst (λ (z : Tree). SeenFor sizes.version z (Some r.under.op) y) same seen)
