-- The mark that the kept tree has for a step is that at which the step placed a move. If the step found room, it
-- doesn't say that there was none.
use Rattle.std.specs.Prelude.{◌≡◌, ◌⊎◌, ℕ, Bool, true, false, not, List, [], Option, Some, None}
use Rattle.calls_on_blocks.proofs.Vocabulary.{refl, sym, ◌∙◌, ap, subst, inl, inr}
use Rattle.atomic_programs.proofs.Explains.{Some-inj}
use Rattle.atomic_programs.specs.Calls.{Made, State, Step}
use Rattle.atomic_programs.specs.Joined.{Handover}
use Rattle.atomic_programs.specs.Prog.{Ret, Do, asks}
use Rattle.calls_on_blocks.specs.History.{block_moves}
use Rattle.calls_on_blocks.specs.Theory.{block_calls}
use Rattle.fs_layout.specs.declared.superblock.Super.{Super}
use Rattle.inode_machine.specs.Kept.{placed}
use Rattle.inode_machine.specs.Marks.{places}
use Rattle.inode_machine.specs.Parts as programs
use Rattle.inode_machine.specs.Vocabulary.{MoveStep}
use Rattle.inode_machine.specs.World as above
use Rattle.inode_machine.specs.World.Op.{Claim, Leave, LockFile, LockOpen, ReadFile, StatFile, Take}
use Rattle.inode_parts.specs.Calls.{IsReading}
use Rattle.inodes_on_blocks.specs.Handlers.{P}
use Rattle.inodes_on_blocks.specs.Lowering.{Carry}
use Rattle.path_walk.specs.Asks.{answer_to, mark_at, marked_as}
use Rattle.path_walk.specs.declared.asks.Heard.{Heard}
use Rattle.path_walk.specs.declared.asks.Heard.TheVariants as heard
use Rattle.path_walk.specs.declared.asks.Mark.{Mark}
use Rattle.plain_tree.specs.Tree.{Tree}
use Rattle.plain_tree.specs.declared.answer.Reply.{Reply}
use Rattle.call_programs.specs.Asks.{spoils}
use Rattle.run_laws.specs.UnderWay.{EndsAsActed, InFirst, InLast, PlacesAt, RunsAStep, SeesTruly, StepsPlaceInTime, UnderWay, none_ran, placed_by, time_of}
use Rattle.run_laws.specs.Vocabulary.{Outside, or_else}
use Rattle.tree_histories.specs.Keeping.{Under}
use Rattle.tree_histories.specs.Sights.{MarksAt, MarksBy, MarksIn, SeenFor, acts_first}
use Rattle.whole_calls.specs.Wholes.{WholeFits, action_in, whole_of}
use Rattle.whole_calls.specs.declared.reading.Read.TheVariants as reading
use Rattle.whole_calls.specs.declared.whole.Whole.{Whole}
use Rattle.whole_calls.specs.declared.whole.Whole.TheVariants as whole
use Rattle.kept_histories.proofs.Heads.{IsFine, IsFineOp, MakesNone, reads_or_fine}
use Rattle.kept_histories.proofs.KeptCalls.{KeptAs, same_asked, same_heard}
use Rattle.kept_histories.proofs.Marks.{PlacesAlike, alike, none_placed}
use Rattle.kept_histories.proofs.ReadRooms.{asks_read, is_read}
use Rattle.kept_histories.proofs.Controls.{at_end}
use Rattle.image_versions.specs.declared.version.Version.{Version}

-- ---- the mark of a program's operation

-- at this answer, in a call with this text
abbrev pub mark_with : List ℕ → programs.P Reply → Heard → Option above.Mark
mark_with text (Ret r) x = None
mark_with text (Do op m k) x = m (answer_to text op x)

fine_marks : (text other : List ℕ) (x : Heard) (p : programs.P Reply) → IsFine p → mark_with text p x ≡ mark_with other p x
fine_marks text other x (Ret r) fine = refl
fine_marks text other x (Do op m k) fine = ap m (same_heard op m fine text other x)

-- a read that is under way
reads_marks : (version : Version) (text other : List ℕ) (x : Heard) (ns : List ℕ) (w : Whole) → IsReading w → (mark_with text (whole_of version ns w) x ≡ mark_with other (whole_of version ns w) x) × (asks_read (asks (whole_of version ns w)) ≡ true)
reads_marks version text other x ns (whole.Read fd buf (reading.Part n offset)) t = (refl, refl)
reads_marks version text other x ns (whole.Read fd buf reading.Lock) t = absurd t
reads_marks version text other x ns (whole.Read fd buf (reading.Says count)) t = absurd t
reads_marks version text other x ns (whole.Open path flags c) t = absurd t
reads_marks version text other x ns (whole.Write fd bytes c) t = absurd t
reads_marks version text other x ns (whole.Link old new c) t = absurd t
reads_marks version text other x ns (whole.Unlink path c) t = absurd t
reads_marks version text other x ns (whole.Mkdir path c) t = absurd t
reads_marks version text other x ns (whole.Chdir path c) t = absurd t
reads_marks version text other x ns (whole.Dup fd c) t = absurd t
reads_marks version text other x ns (whole.Fstat fd c) t = absurd t
reads_marks version text other x ns (whole.Close fd c) t = absurd t
reads_marks version text other x ns (whole.Inherit child c) t = absurd t

module _ (version : Version) (p : programs.P Reply) (v : Under) (kept : KeptAs version p v) where
  pub same_marks : (x : Heard) → mark_with [] p x ≡ mark_at (whole_of version v.listed v.whole) x
  same_marks x = elim kept [
    | inl e ↦ ap (λ (z : programs.P Reply). mark_with [] z x) e ∙ by (whole_of version v.listed v.whole)
    | inr s ↦ ap (λ (z : programs.P Reply). mark_with [] z x) s.2 ∙ sym (ap (λ (z : programs.P Reply). mark_at z x) s.3)
  ]
    where
      by : (z : programs.P Reply) → mark_with [] z x ≡ mark_at z x
      by (Ret r) = refl
      by (Do op m k) = refl

  pub text_marks : (text other : List ℕ) (x : Heard) → mark_with text p x ≡ mark_with other p x
  text_marks text other x = elim kept [
    | inl e ↦ ap (λ (z : programs.P Reply). mark_with text z x) e ∙ by e (reads_or_fine version v.listed v.whole)
        ∙ sym (ap (λ (z : programs.P Reply). mark_with other z x) e)
    | inr s ↦ ap (λ (z : programs.P Reply). mark_with text z x) s.2 ∙ sym (ap (λ (z : programs.P Reply). mark_with other z x) s.2)
  ]
    where
      by : p ≡ whole_of version v.listed v.whole → IsReading v.whole ⊎ IsFine (whole_of version v.listed v.whole) → mark_with text (whole_of version v.listed v.whole) x ≡ mark_with other (whole_of version v.listed v.whole) x
      by e (inl reads) = (reads_marks version text other x v.listed v.whole reads).0
      by e (inr fine) = fine_marks text other x (whole_of version v.listed v.whole) fine

  pub fine_unless : asks_read (asks p) ≡ false → IsFine p
  fine_unless unread = elim kept [
    | inl e ↦ by e (reads_or_fine version v.listed v.whole)
    | inr s ↦ subst IsFine (sym s.2) tt
  ]
    where
      by : p ≡ whole_of version v.listed v.whole → IsReading v.whole ⊎ IsFine (whole_of version v.listed v.whole) → IsFine p
      by e (inl reads) =
          absurd (let q : true ≡ false = sym (reads_marks version [] [] heard.WasDone v.listed v.whole reads).1 ∙ sym (ap (λ (z : programs.P Reply). asks_read (asks z)) e) ∙ unread in cc)
      by e (inr fine) = subst IsFine (sym e) fine

-- ---- when the operation acts

-- it takes a lock, in its first step; or it acts last; or no mark of it makes a move
abbrev Sort : above.Op → Type 0
Sort op =
    ((time_of op ≡ InFirst) × (acts_first op ≡ true)) ⊎ (((time_of op ≡ InLast) × (acts_first op ≡ false))
    ⊎ ((acts_first op ≡ false) × (is_read op ≡ false) × ((m : above.Answer op → Option above.Mark) → IsFineOp op m → (a : above.Answer op) → MakesNone (m a))))

sort : (op : above.Op) → Sort op
sort (Take n looking) = inl (refl, refl)
sort (StatFile fd) = inl (refl, refl)
sort (LockFile fd) = inl (refl, refl)
sort (LockOpen fd n) = inl (refl, refl)
sort Leave = inr (inr (refl, refl, λ m fine a. fine a))
sort (Claim inode_type) = inr (inr (refl, refl, λ m fine a. fine a))
sort op = inr (inl (refl, refl))

-- what was heard in the step: nothing, and the operation isn't at its end, or what it is answered
abbrev pub HeardAt : (u : UnderWay) → P (Handover (above.Answer u.op) Carry) → Option Heard → Type 0
HeardAt u left None = at_end left ≡ false
HeardAt u left (Some x) = (z : Handover (above.Answer u.op) Carry) × (left ≡ Ret z) × (text : List ℕ) × (z.answer ≡ answer_to text u.op x)

-- it acts in its first step, and isn't at its end then; what the tree shows has the mark of what it was answered, in this world
abbrev pub SeesAlike : Version → (u : UnderWay) → Tree → above.World → P (Handover (above.Answer u.op) Carry) → Option (above.Answer u.op) → Type 0
SeesAlike version u t w left acted =
    acts_first u.op ≡ true → none_ran u.ran ≡ true → at_end left ≡ false → (y : Heard) (a : above.Answer u.op)
    → SeenFor version t (Some u.op) y → SeesTruly version u.op a w → acted ≡ Some a → u.mark a ≡ u.mark (answer_to [] u.op y)

module _ (sizes : Super) (h : ℕ) (x : Outside) (s : State (block_calls sizes)) (made : Made (block_calls sizes)) (was now : ℕ → Option UnderWay)
    (r : RunsAStep sizes h x s made was now) (v : Under) (kept : KeptAs sizes.version (Do r.under.op r.under.mark r.under.rest) v) (t : Tree) (came : Option Heard)
    (o : Option Mark)
    (heard_at : HeardAt r.under (r.rest r.answer) came) (found : (a : above.Answer r.under.op) → or_else r.acts r.under.acted ≡ Some a → spoils (r.under.mark a) ≡ false) where
  abbrev u : UnderWay
  u = r.under

  abbrev left : P (Handover (above.Answer u.op) Carry)
  left = r.rest r.answer

  abbrev Placed : List (ℕ × MoveStep) → Type 0
  Placed ps = placed sizes.version (block_moves sizes) (Step h x) s ≡ ps

  abbrev Alike : Type 0
  Alike = PlacesAlike h (placed sizes.version (block_moves sizes) (Step h x) s) (action_in v.whole) o

  -- the same mark, at an answer of the operation
  marked_at : (y : Heard) (text : List ℕ) → MarksAt sizes.version v y o → marked_as (action_in v.whole) o ≡ u.mark (answer_to text u.op y)
  marked_at y text m =
      sym (m v.listed) ∙ sym (same_marks sizes.version (Do u.op u.mark u.rest) v kept y) ∙ text_marks sizes.version (Do u.op u.mark u.rest) v kept [] text y

  -- if it ends, it has acted with that answer
  ended : (z : Handover (above.Answer u.op) Carry) → left ≡ Ret z → or_else r.acts u.acted ≡ Some z.answer
  ended z is = subst (EndsAsActed u (or_else r.acts u.acted)) is r.ends

  abbrev Nothing : Type 0
  Nothing = MakesNone (marked_as (action_in v.whole) o) × (spoils (marked_as (action_in v.whole) o) ≡ false)

  no_mark : o ≡ None → Nothing
  no_mark none = (
    subst (λ (z : Option Mark). MakesNone (marked_as (action_in v.whole) z)) (sym none) tt,
    ap (λ (z : Option Mark). spoils (marked_as (action_in v.whole) z)) none,
  )

  none_marked : Placed [] → o ≡ None → Alike
  none_marked is none = let n = no_mark none in inl (is, n.0, n.1)

  -- no mark of it makes a move
  quiet : (begun : Bool) (y : Option Heard) → HeardAt u left y → ((m : above.Answer u.op → Option above.Mark) → IsFineOp u.op m → (a : above.Answer u.op) → MakesNone (m a)) → IsFineOp u.op u.mark
      → MarksIn sizes.version t v (Some u.op) false begun y o → Alike
  quiet begun y at none fine m = let n = marks begun y at m in inl (r.places ∙ by r.acts, n.0, n.1)
    where
      by : (acts : Option (above.Answer u.op)) → placed_by sizes.version h u acts s.world.seen ≡ []
      by None = refl
      by (Some a) = none_placed sizes.version h u.op a s.world.seen (u.mark a) (none u.mark fine a)

      heard_mark : (y : Heard) → HeardAt u left (Some y) → MarksAt sizes.version v y o → Nothing
      heard_mark y at m =
          let is : marked_as (action_in v.whole) o ≡ u.mark at.0.answer = marked_at y at.2 m ∙ sym (ap u.mark at.3) in
          (subst MakesNone (sym is) (none u.mark fine at.0.answer), ap spoils is ∙ found at.0.answer (ended at.0 at.1))

      marks : (begun : Bool) (y : Option Heard) → HeardAt u left y → MarksIn sizes.version t v (Some u.op) false begun y o → Nothing
      marks true None at m = no_mark m
      marks false None at m = no_mark m
      marks true (Some y) at m = heard_mark y at m
      marks false (Some y) at m = heard_mark y at m

  -- it acts in its last step
  last : (begun : Bool) (y : Option Heard) → HeardAt u left y → PlacesAt sizes h x s made was now InLast (none_ran u.ran) r left → MarksIn sizes.version t v (Some u.op) false begun y o → Alike
  last begun (Some y) at places_ m = by begun m
    where
      is : Placed (places sizes.version h u.op at.0.answer (u.mark at.0.answer) s.world.seen)
      is = subst (λ (z : P (Handover (above.Answer u.op) Carry)). PlacesAt sizes h x s made was now InLast (none_ran u.ran) r z) at.1 places_

      here : MarksAt sizes.version v y o → Alike
      here m = alike sizes.version h u.op at.0.answer s.world.seen (placed sizes.version (block_moves sizes) (Step h x) s) (action_in v.whole) o (u.mark at.0.answer) is (marked_at y at.2 m ∙ sym (ap u.mark at.3)) (found at.0.answer (ended at.0 at.1))

      by : (begun : Bool) → MarksIn sizes.version t v (Some u.op) false begun (Some y) o → Alike
      by true m = here m
      by false m = here m
  last begun None at places_ m = none_marked (by left at places_) (marks begun m)
    where
      by : (z : P (Handover (above.Answer u.op) Carry)) → at_end z ≡ false → PlacesAt sizes h x s made was now InLast (none_ran u.ran) r z → Placed []
      by (Ret z) e p = absurd (let q : true ≡ false = e in cc)
      by (Do op m k) e p = p

      marks : (begun : Bool) → MarksIn sizes.version t v (Some u.op) false begun None o → o ≡ None
      marks true m = m
      marks false m = m

  -- it acts in its first step, if what is seen of the inode is the same in the kept tree
  first : (at_end left ≡ false → (y : Heard) (a : above.Answer u.op) → SeenFor sizes.version t (Some u.op) y → SeesTruly sizes.version u.op a s.world.seen → or_else r.acts u.acted ≡ Some a → u.mark a ≡ u.mark (answer_to [] u.op y))
      → (y : Option Heard) → HeardAt u left y → PlacesAt sizes h x s made was now InFirst true r left → MarksIn sizes.version t v (Some u.op) true false y o → Alike
  first sees (Some y) at p m =
      let same : p.0 ≡ at.0.answer = Some-inj p.0 at.0.answer (sym p.3 ∙ ended at.0 at.1) in
      alike sizes.version h u.op p.0 s.world.seen (placed sizes.version (block_moves sizes) (Step h x) s) (action_in v.whole) o (u.mark p.0) p.1
      (marked_at y at.2 m ∙ sym (ap u.mark at.3) ∙ ap u.mark (sym same)) (found p.0 p.3)
  first sees None at p m =
      alike sizes.version h u.op p.0 s.world.seen (placed sizes.version (block_moves sizes) (Step h x) s) (action_in v.whole) o (u.mark p.0) p.1
      (marked_at m.0 [] m.2 ∙ sym (sees at m.0 p.0 m.1 p.2 p.3)) (found p.0 p.3)

  -- .. or has acted already
  first_or_not : acts_first u.op ≡ true → SeesAlike sizes.version u t s.world.seen left (or_else r.acts u.acted) → (b : Bool) → none_ran u.ran ≡ b → (y : Option Heard) → HeardAt u left y
      → PlacesAt sizes h x s made was now InFirst b r left → MarksIn sizes.version t v (Some u.op) true (not b) y o → Alike
  first_or_not acts sees true none y at p m = first (sees acts none) y at p m
  first_or_not acts sees false none y at p m = none_marked p.0 m

  pub step_alike : StepsPlaceInTime → WholeFits sizes.version v.listed v.whole → v.has_begun ≡ not (none_ran u.ran) → MarksBy sizes.version t (Some v) came o → SeesAlike sizes.version u t s.world.seen left (or_else r.acts u.acted) → Alike
  step_alike in_time fits begun marks sees = by (sort u.op)
    where
      here : MarksIn sizes.version t v (Some u.op) (acts_first u.op) v.has_begun came o
      here = marks v.listed u.op fits (same_asked sizes.version (Do u.op u.mark u.rest) v kept u.op refl)

      by : Sort u.op → Alike
      by (inl f) =
          first_or_not f.1 sees (none_ran u.ran) refl came heard_at
          (subst (λ z. PlacesAt sizes h x s made was now z (none_ran u.ran) r left) f.0 (in_time sizes h x s made was now r))
          (subst (λ (b : Bool). MarksIn sizes.version t v (Some u.op) b (not (none_ran u.ran)) came o) f.1
          (subst (λ (b : Bool). MarksIn sizes.version t v (Some u.op) (acts_first u.op) b came o) begun here))
      by (inr (inl f)) =
          last v.has_begun came heard_at
          (subst (λ z. PlacesAt sizes h x s made was now z (none_ran u.ran) r left) f.0 (in_time sizes h x s made was now r))
          (subst (λ (b : Bool). MarksIn sizes.version t v (Some u.op) b v.has_begun came o) f.1 here)
      by (inr (inr f)) =
          quiet v.has_begun came heard_at f.2 (fine_unless sizes.version (Do u.op u.mark u.rest) v kept f.1)
          (subst (λ (b : Bool). MarksIn sizes.version t v (Some u.op) b v.has_begun came o) f.0 here)
