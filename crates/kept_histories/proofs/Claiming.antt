-- A claim whose inode has no place in memory stays under way for one step more: it gives its block back, and then it
-- is answered so. A claim that finds no room otherwise ends in that step. And while each step finds room no claim is
-- at that point.
use Rattle.std.specs.Prelude.{◌≡◌, ◌≢◌, ◌⊎◌, ℕ, zero, suc, ◌+◌, ◌<◌, Bool, true, false, nat_lt, if◌then◌else◌, List, [], ◌∷◌, ◌++◌, length, Option, Some, None, is_some, is_none, slice_get, position}
use Rattle.calls_on_blocks.proofs.Vocabulary.{refl, sym, ◌∙◌, ap, subst, inl, inr, arith, append_assoc, append-nil, put}
use Rattle.atomic_programs.proofs.Explains as explained
use Rattle.atomic_programs.proofs.Explains.{Some-inj, changed_other, changed_same, sound_keeps}
use Rattle.atomic_programs.proofs.Lowered.{begun_both}
use Rattle.atomic_programs.proofs.Maps.{same_or}
use Rattle.atomic_programs.specs.Calls.{AllHonest, Began, Begins, DidEnd, DidRun, Event, EventOutcome, Made, Refuses, Run, Start, Started, State, Step, Theory, begun, busy_in, changed, fresh, makes, run, start_run}
use Rattle.atomic_programs.specs.Joined.{Handover, both, ran_to, seen_after}
use Rattle.atomic_programs.specs.Lowered.{began_to}
use Rattle.atomic_programs.specs.Prog.{Do, ExecResult, Ran, Ret, Stops, Waits, asks, bind, exec_result_in, unmarked}
use Rattle.calls_on_blocks.proofs.Lawful.{lawful, served_is}
use Rattle.calls_on_blocks.proofs.Starting.{begun_here}
use Rattle.calls_on_blocks.specs.Layer.{World, exec, shared_of}
use Rattle.calls_on_blocks.specs.Theory.{begins, block_calls, child_of, served_calls, serves}
use Rattle.fs_layout.specs.declared.superblock.Super.{Super}
use Rattle.fs_machine.proofs.Beginning.{up_full}
use Rattle.fs_machine.proofs.Places.{placed}
use Rattle.fs_machine.specs.Inodes.{first_free, is_unreferenced, up_inode}
use Rattle.fs_machine.specs.Programs.{fetch, read_unless}
use Rattle.fs_machine.specs.Steps as steps
use Rattle.fs_machine.specs.Tables.{TablesState, is_unused, place_of, references_in, references_at}
use Rattle.fs_machine.specs.declared.entries.Entry.{Entry}
use Rattle.inode_machine.specs.Exec.{claimed, place_count, referenced}
use Rattle.inode_machine.specs.Marks.{marked, with_mark}
use Rattle.inode_machine.specs.Parts as programs
use Rattle.inode_machine.specs.Programs.{program}
use Rattle.inode_machine.specs.Rooms.{says_no_room}
use Rattle.inode_machine.specs.Rules.{machine}
use Rattle.inode_machine.specs.World as above
use Rattle.inode_machine.specs.World.Mark.{Fills, Frees, Makes, Mends, Orphans, Spoils}
use Rattle.inode_machine.specs.World.Op.{Claim}
use Rattle.inodes_on_blocks.proofs.Counts.{room_is}
use Rattle.inodes_on_blocks.proofs.NewInodes.{found_passes}
use Rattle.inodes_on_blocks.specs.Below.{came_to}
use Rattle.inodes_on_blocks.specs.Handlers.{Acts, P, acts}
use Rattle.inodes_on_blocks.specs.Lowering.{Carry, nothing}
use Rattle.inodes_on_blocks.specs.Making.{answers, claim_at, claim_from, claim_in, claim_mark}
use Rattle.inodes_on_blocks.specs.Programs.{handlers}
use Rattle.inodes_on_blocks.specs.Shown.{Shows}
use Rattle.inodes_on_blocks.specs.ShownTables as tables
use Rattle.inodes_on_blocks.specs.ShownTables.{kind_of}
use Rattle.plain_tree.specs.declared.answer.Reply.{Reply}
use Rattle.plain_tree.specs.declared.call.Call.{Call}
use Rattle.inode_machine.specs.Inodes.{InodeType}
use Rattle.inodes_on_blocks.specs.Vocabulary.{free_in, inode_blocks}
use Rattle.run_laws.proofs.ActedSo.{never_ran}
use Rattle.run_laws.proofs.CallFits.{call_fits, most_written}
use Rattle.run_laws.proofs.Fits.{AllFitUpTo}
use Rattle.run_laws.proofs.LockActs.{W, seen_is}
use Rattle.call_programs.specs.Asks.{spoils}
use Rattle.run_laws.proofs.Whole.{answer_or}
use Rattle.run_laws.specs.Searches.{AnsweredStep}
use Rattle.run_laws.specs.UnderWay.{EventDoes, Fits, GoesOnAsItActs, InOne, LeadTo, RunsAStep, StartDoes, StepDoes, UnderWay, at_beginning, gone_on, time_of}
use Rattle.run_laws.specs.Vocabulary.{Outside, or_else}
use Rattle.kept_histories.proofs.HandRuns.{sound_here}
use Rattle.kept_histories.proofs.Heads.{MakesNone}
use Rattle.kept_histories.proofs.Basics.{longer, none_some, not_both}
use Rattle.image_versions.specs.declared.version.Version.{Version}

-- ---- what is left

-- the rest of a claim for which there was no place: its block is given back, and that is the answer
pub record GivesBack (left : P (Handover above.ClaimResult Carry)) : Type 0 where
  pub block : ℕ
  pub carry : Carry
  pub is : left ≡ Do (steps.Put block None) unmarked (λ _. answers above.NoPlace carry)

abbrev pub GivesBackOf : (op : above.Op) → P (Handover (above.Answer op) Carry) → Type 0
GivesBackOf (Claim inode_type) left = GivesBack left
GivesBackOf op left = ⊥

-- the operation ends in this step with an answer whose mark says that there was no room
abbrev pub EndsShort : (u : UnderWay) → P (Handover (above.Answer u.op) Carry) → Type 0
EndsShort u left = (z : Handover (above.Answer u.op) Carry) × (left ≡ Ret z) × (spoils (u.mark z.answer) ≡ true)

-- a program that asks for something else next doesn't give back
gets_on : (b : ℕ) (m : Option (List ℕ) → Option Acts) (k : Option (List ℕ) → P (Handover above.ClaimResult Carry)) → GivesBack (Do (steps.Get b) m k) → ⊥
gets_on b m k g = (let q : Some (steps.Get b) ≡ Some (steps.Put g.block None) = ap asks g.is in cc)

reads_on : (b : ℕ) (m : List ℕ → Option Acts) (k : List ℕ → P (Handover above.ClaimResult Carry)) → GivesBack (Do (steps.Read b) m k) → ⊥
reads_on b m k g = (let q : Some (steps.Read b) ≡ Some (steps.Put g.block None) = ap asks g.is in cc)

claims_on : (b : ℕ) (ns : List ℕ) (m : steps.ClaimResult → Option Acts) (k : steps.ClaimResult → P (Handover above.ClaimResult Carry)) → GivesBack (Do (steps.Claim b ns) m k) → ⊥
claims_on b ns m k g = (let q : Some (steps.Claim b ns) ≡ Some (steps.Put g.block None) = ap asks g.is in cc)

puts_on : (b : ℕ) (text : List ℕ) (m : Unit {0} → Option Acts) (k : Unit {0} → P (Handover above.ClaimResult Carry)) → GivesBack (Do (steps.Put b (Some text)) m k) → ⊥
puts_on b text m k g = (let q : Some (steps.Put b (Some text)) ≡ Some (steps.Put g.block None) = ap asks g.is in cc)

ends_on : (z : Handover above.ClaimResult Carry) → GivesBack (Ret z) → ⊥
ends_on z g = (let q : None ≡ Some (steps.Put g.block None) = ap asks g.is in cc)

-- ---- a place in memory

no_place : {A : Type 0} (o : Option A) → is_none o ≡ true → o ≡ None
no_place None e = refl
no_place (Some x) e = absurd (let q : false ≡ true = e in cc)

module _ (t : TablesState) (w : above.World) (shows : tables.Shows t w (tables.loaded t)) where
  -- what is referred to is an inode
  below : (k : ℕ) (e : Entry) → slice_get t.entries k ≡ Some e → 0 < e.references → e.number < w.all.ninodes
  below k e there lt =
      let at = placed e.number t.entries k shows.sound.inodes.once (record { entry = e; there = there; number = refl; referenced = lt }) in
      let c : w.refs e.number ≡ e.references = shows.places.counts e.number ∙ ap (references_in t.entries) at ∙ ap references_at there in
      (shows.range e.number (omega (arith, c, lt))).1

  -- if the table has a free place, the world above has one
  has_place : (k : ℕ) → position is_unused t.entries ≡ Some k → nat_lt (referenced w) place_count ≡ true
  has_place k e =
      ap (nat_lt (referenced w)) (sym shows.sound.inodes.places)
      ∙ sym (room_is w.all.ninodes t.entries w.refs shows.sound.inodes.once below shows.places.counts)
      ∙ ap is_some e

  -- if an inode was claimed, there was a place
  claimed_place : (h b : ℕ) (s s' : steps.State) (ns : List ℕ) (i : ℕ) → s.tables ≡ t → (o : Option ℕ) → first_free t.entries ns ≡ o → steps.claim_first h b s o ≡ Ran (steps.Claims i) s'
      → nat_lt (referenced w) place_count ≡ true
  claimed_place h b s s' ns i same None e ran = absurd cc
  claimed_place h b s s' ns i same (Some n) e ran = by (position is_unused t.entries) refl
    where
      unplaced : place_of n t.entries ≡ None
      unplaced = no_place (place_of n t.entries) (found_passes (is_unreferenced t.entries) ns n e).0

      by : (o : Option ℕ) → position is_unused t.entries ≡ o → nat_lt (referenced w) place_count ≡ true
      by (Some k) q = has_place k q
      by None q =
          let full : steps.claims (steps.in_tables s (up_inode n s.tables)) ≡ Ran steps.NoPlace (record s { tables = t }) =
          ap (λ (z : TablesState). steps.claims (steps.in_tables s (up_inode n z))) same ∙ ap (λ (d : ExecResult (Option ℕ) TablesState). steps.claims (steps.in_tables s d)) (up_full n t unplaced q) in
          let no : Ran steps.NoPlace (record s { tables = t }) ≡ Ran (steps.Claims i) s' = sym full ∙ ran in
          absurd cc

-- the outcome of a step in all that harts share
ran_state : (version : Version) (h : ℕ) (op : steps.Op) (m : steps.Answer op → Option Acts) (w : W) (d : ExecResult (steps.Answer op) steps.State) (b : steps.Answer op)
    (u : W)
    → both (machine version) h m w.seen (exec_result_in (λ v. record (w.real) { blocks = v }) (came_to h op w.real.blocks d)) ≡ Ran b u → d ≡ Ran b u.real.blocks.state
ran_state version h op m w Waits b u e = absurd (never_ran b u e)
ran_state version h op m w (Stops t) b u e = (let q : Stops _ ≡ Ran b u = e in cc)
ran_state version h op m w (Ran a t) b u e = λ i. Ran (answer_or b (e i)) ((ran_to u (e i)).real.blocks.state)

-- ---- a claim's program

-- a step with this answer runs only if there is a place
abbrev FindsPlace : Super → (op : steps.Op) → (steps.Answer op → Option Acts) → steps.Answer op → Type 0
FindsPlace sizes op mark b =
    (h : ℕ) (x : Outside) (w u : W) → (block_calls sizes).M.go h x op mark w ≡ Ran b u → Shows w.real.blocks w.seen → nat_lt (referenced w.seen) place_count ≡ true

finds_place : (sizes : Super) (b : ℕ) (ns : List ℕ) (mark : steps.ClaimResult → Option Acts) (i : ℕ) → FindsPlace sizes (steps.Claim b ns) mark (steps.Claims i)
unfolding steps.exec
finds_place sizes b ns mark i = λ h x w u ran shows.
    let s : steps.State = w.real.blocks.state in
    claimed_place s.tables w.seen shows.tables h b s u.real.blocks.state ns i refl (first_free s.tables.entries ns) refl
    (ran_state sizes.version h (steps.Claim b ns) mark w (steps.claim_first h b s (first_free s.tables.entries ns)) (steps.Claims i) u ran)

-- What one of its steps does above: nothing; or an inode is taken, for which there is a place; or there is no place,
-- or no inode. Only if there is no place it gives back then.
data Turn (sizes : Super) (inode_type : InodeType) (m : above.ClaimResult → Option above.Mark) (op : steps.Op) (mark : steps.Answer op → Option Acts) (b : steps.Answer op)
    (left : P (Handover above.ClaimResult Carry)) : Type 0 where
  Quiet : mark b ≡ None → (GivesBack left → ⊥) → Turn sizes inode_type m op mark b left
  Takes : (i : ℕ) → mark b ≡ acts (Claim inode_type) (above.Picks i) m → FindsPlace sizes op mark b → (GivesBack left → ⊥) → Turn sizes inode_type m op mark b left
  FindsNoPlace : mark b ≡ acts (Claim inode_type) (above.RoomFor 0) m → GivesBack left → Turn sizes inode_type m op mark b left
  FindsNone : mark b ≡ acts (Claim inode_type) above.Room m → (c : Carry) → left ≡ answers above.NoInode c → Turn sizes inode_type m op mark b left

module _ (sizes : Super) (inode_type : InodeType) (m : above.ClaimResult → Option above.Mark) where
  -- whatever its steps are answered
  abbrev EachTurn : P (Handover above.ClaimResult Carry) → Type 0
  EachTurn (Ret z) = Unit {0}
  EachTurn (Do op mark k) = (b : steps.Answer op) → Turn sizes inode_type m op mark b (k b) × EachTurn (k b)

  -- a block comes into hand
  each_fetch : (b : ℕ) (f : List ℕ → P (Handover above.ClaimResult Carry)) → ((bytes : List ℕ) → GivesBack (f bytes) → ⊥) → ((bytes : List ℕ) → EachTurn (f bytes)) → EachTurn (bind (fetch b) f)
  each_fetch b f on each = λ o. by o
    where
      by : (o : Option (List ℕ)) → Turn sizes inode_type m (steps.Get b) unmarked o (bind (read_unless b o) f) × EachTurn (bind (read_unless b o) f)
      by (Some bytes) = (Quiet refl (on bytes), each bytes)
      by None = (Quiet refl (reads_on b unmarked f), λ bytes. (Quiet refl (on bytes), each bytes))

  module _ (c : Carry) where
    -- it goes on with the next block, if there is one
    more_on : (k q : ℕ) → GivesBack (claim_from k sizes inode_type c m q) → ⊥
    unfolding claim_from
    more_on zero q g = ends_on _ g
    more_on (suc n) q g = gets_on (sizes.inodestart + q) unmarked _ g

    none_here : (n b q : ℕ) (ns : List ℕ) → Turn sizes inode_type m (steps.Claim b ns) (claim_mark inode_type m n) steps.NoInode (claim_from n sizes inode_type c m q)
    unfolding claim_from
    none_here zero b q ns = FindsNone refl c refl
    none_here (suc n) b q ns = Quiet refl (more_on (suc n) q)

    -- a block is looked through
    each_block : (n q b : ℕ) (block : List ℕ) → EachTurn (claim_from n sizes inode_type c m (q + 1))
        → EachTurn (claim_at (claim_from n sizes inode_type c m (q + 1)) sizes inode_type c m n q b block)
    each_block n q b block each = λ a. by a
      where
        by : (a : steps.ClaimResult)
            → Turn sizes inode_type m (steps.Claim b (free_in sizes.ninodes q block)) (claim_mark inode_type m n) a (claim_in (claim_from n sizes inode_type c m (q + 1)) (kind_of inode_type) b block c a)
            × EachTurn (claim_in (claim_from n sizes inode_type c m (q + 1)) (kind_of inode_type) b block c a)
        by (steps.Claims i) = (
          Takes i refl (finds_place sizes b (free_in sizes.ninodes q block) (claim_mark inode_type m n) i) (puts_on b _ unmarked _),
          λ a. (Quiet refl (ends_on _), tt),
        )
        by steps.NoPlace = (FindsNoPlace refl (record { block = b; carry = c; is = refl }), λ a. (Quiet refl (ends_on _), tt))
        by steps.NoInode = (none_here n b (q + 1) (free_in sizes.ninodes q block), each)

    each_from : (n q : ℕ) → EachTurn (claim_from n sizes inode_type c m q)
    unfolding claim_from
    each_from zero q = tt
    each_from (suc n) q =
        each_fetch (sizes.inodestart + q) (claim_at (claim_from n sizes inode_type c m (q + 1)) sizes inode_type c m n q (sizes.inodestart + q))
        (λ bytes. claims_on (sizes.inodestart + q) (free_in sizes.ninodes q bytes) (claim_mark inode_type m n) _)
        (λ bytes. each_block n q (sizes.inodestart + q) bytes (each_from n (q + 1)))

  each_lead : (p : P (Handover above.ClaimResult Carry)) (es : List AnsweredStep) (q : P (Handover above.ClaimResult Carry)) → LeadTo p es q → EachTurn p → EachTurn q
  each_lead p [] q lead each = subst EachTurn lead each
  each_lead (Ret a) (e ∷ es) q lead each = absurd lead
  each_lead (Do op mark k) (e ∷ es) q lead each = each_lead (k lead.0) es q lead.2 (each lead.0).1

  -- wherever it is
  turn_there : (c : Carry) (es : List AnsweredStep) (left : P (Handover above.ClaimResult Carry)) (op : steps.Op) (mark : steps.Answer op → Option Acts)
      (rest : steps.Answer op → P (Handover above.ClaimResult Carry)) → LeadTo (handlers sizes c (Claim inode_type) m) es left → left ≡ Do op mark rest
      → (b : steps.Answer op) → Turn sizes inode_type m op mark b (rest b)
  turn_there c es left op mark rest lead asks_it b =
      ((subst EachTurn asks_it (each_lead (handlers sizes c (Claim inode_type) m) es left lead (each_from c (inode_blocks sizes.ninodes) 0))) b).0

-- as it begins
begins_on : (sizes : Super) (c : Carry) (op : above.Op) (m : above.Answer op → Option above.Mark) → GivesBackOf op (handlers sizes c op m) → ⊥
begins_on sizes c (Claim inode_type) m g = more_on sizes inode_type m c (inode_blocks sizes.ninodes) 0 g
begins_on sizes c op m g = g

-- ---- a step of it

-- a mark that says that there was no room leaves the world so
spoilt : (version : Version) (h : ℕ) (k : Option above.Mark) (w : above.World) → spoils k ≡ true → (marked version h k w).clean ≡ false
spoilt version h None w e = absurd (let q : false ≡ true = e in cc)
spoilt version h (Some (Makes v)) w e = absurd (let q : false ≡ true = e in cc)
spoilt version h (Some (Frees n)) w e = absurd (let q : false ≡ true = e in cc)
spoilt version h (Some (Orphans n)) w e = absurd (let q : false ≡ true = e in cc)
spoilt version h (Some Fills) w e = refl
spoilt version h (Some Mends) w e = refl
spoilt version h (Some (Spoils s)) w e = refl

-- another one that makes no move leaves it as it was
unspoilt : (version : Version) (h : ℕ) (k : Option above.Mark) (w : above.World) → MakesNone k → spoils k ≡ false → (marked version h k w).clean ≡ w.clean
unspoilt version h None w none e = refl
unspoilt version h (Some (Makes v)) w none e = absurd none
unspoilt version h (Some (Frees n)) w none e = refl
unspoilt version h (Some (Orphans n)) w none e = refl
unspoilt version h (Some Fills) w none e = absurd (let q : true ≡ false = e in cc)
unspoilt version h (Some Mends) w none e = absurd (let q : true ≡ false = e in cc)
unspoilt version h (Some (Spoils s)) w none e = absurd (let q : true ≡ false = e in cc)

module _ (sizes : Super) (h : ℕ) (x : Outside) (w u : W) (op : steps.Op) (mark : steps.Answer op → Option Acts) (b : steps.Answer op) (ran : (block_calls sizes).M.go h x op mark w ≡ Ran b u) where
  sees : (k : Option Acts) → mark b ≡ k → u.seen ≡ seen_after (machine sizes.version) h k w.seen
  sees k is = seen_is sizes.version h mark w.seen (exec h x op w.real) b u ran ∙ ap (λ (z : Option Acts). seen_after (machine sizes.version) h z w.seen) is

  module _ (inode_type : InodeType) (m : above.ClaimResult → Option above.Mark) (left : P (Handover above.ClaimResult Carry)) where
    took : (i : ℕ) → mark b ≡ acts (Claim inode_type) (above.Picks i) m → nat_lt (referenced w.seen) place_count ≡ true → u.seen ≡ marked sizes.version h (m (above.New i)) (claimed h inode_type w.seen i)
    took i is room =
        sees (acts (Claim inode_type) (above.Picks i) m) is
        ∙ ap (λ (e : Bool). ran_to w.seen (with_mark sizes.version h m (if e then Ran (above.New i) (claimed h inode_type w.seen i) else Ran above.NoPlace w.seen))) room

    -- if it finds no room, it ends, or gives back next
    turn_short : ((a : above.ClaimResult) → MakesNone (m a)) → ((a : above.ClaimResult) → spoils (m a) ≡ says_no_room (Claim inode_type) a) → Shows w.real.blocks w.seen
        → w.seen.clean ≡ true → u.seen.clean ≡ false → Turn sizes inode_type m op mark b left
        → ((z : Handover above.ClaimResult Carry) × (left ≡ Ret z) × (spoils (m z.answer) ≡ true)) ⊎ GivesBack left
    turn_short none tells shows clean short (Quiet is on) = not_both u.seen.clean (ap (λ (z : above.World). z.clean) (sees None is) ∙ clean) short
    turn_short none tells shows clean short (Takes i is place on) =
        not_both u.seen.clean
        (ap (λ (z : above.World). z.clean) (took i is (place h x w u ran shows))
        ∙ unspoilt sizes.version h (m (above.New i)) (claimed h inode_type w.seen i) (none (above.New i)) (tells (above.New i)) ∙ clean) short
    turn_short none tells shows clean short (FindsNoPlace is gives) = inr gives
    turn_short none tells shows clean short (FindsNone is c ends) = inl (record { answer = above.NoInode; carry = c }, ends, tells above.NoInode)

    -- if it gives back next, it has found none
    turn_gives : spoils (m above.NoPlace) ≡ true → Turn sizes inode_type m op mark b left → GivesBack left → u.seen.clean ≡ false
    turn_gives tells (Quiet is on) gives = absurd (on gives)
    turn_gives tells (Takes i is place on) gives = absurd (on gives)
    turn_gives tells (FindsNoPlace is back) gives = ap (λ (z : above.World). z.clean) (sees (acts (Claim inode_type) (above.RoomFor 0) m) is) ∙ spoilt sizes.version h (m above.NoPlace) w.seen tells
    turn_gives tells (FindsNone is c ends) gives = absurd (ends_on _ (subst GivesBack ends gives))

  -- of whichever operation: a claim alone acts in one of its steps, and gives back
  op_short : (o : above.Op) (m : above.Answer o → Option above.Mark) (c : Carry) (es : List AnsweredStep) (left : P (Handover (above.Answer o) Carry))
      (rest : steps.Answer op → P (Handover (above.Answer o) Carry)) → LeadTo (handlers sizes c o m) es left → left ≡ Do op mark rest → time_of o ≡ InOne
      → Shows w.real.blocks w.seen → ((a : above.Answer o) → MakesNone (m a)) → ((a : above.Answer o) → spoils (m a) ≡ says_no_room o a)
      → w.seen.clean ≡ true → u.seen.clean ≡ false
      → ((z : Handover (above.Answer o) Carry) × (rest b ≡ Ret z) × (spoils (m z.answer) ≡ true)) ⊎ GivesBackOf o (rest b)
  op_short (Claim inode_type) m c es left rest lead asks_it time shows none tells clean short =
      turn_short inode_type m (rest b) none tells shows clean short (turn_there sizes inode_type m c es left op mark rest lead asks_it b)
  op_short o m c es left rest lead asks_it time shows none tells clean short = absurd cc

  op_gives : (o : above.Op) (m : above.Answer o → Option above.Mark) (c : Carry) (es : List AnsweredStep) (left : P (Handover (above.Answer o) Carry))
      (rest : steps.Answer op → P (Handover (above.Answer o) Carry)) → LeadTo (handlers sizes c o m) es left → left ≡ Do op mark rest
      → ((a : above.Answer o) → spoils (m a) ≡ says_no_room o a) → GivesBackOf o (rest b) → u.seen.clean ≡ false
  op_gives (Claim inode_type) m c es left rest lead asks_it tells gives =
      turn_gives inode_type m (rest b) (tells above.NoPlace) (turn_there sizes inode_type m c es left op mark rest lead asks_it b) gives
  op_gives o m c es left rest lead asks_it tells gives = absurd gives

module _ (sizes : Super) (h : ℕ) (x : Outside) (s : State (block_calls sizes)) (made : Made (block_calls sizes)) (was now : ℕ → Option UnderWay) (r : RunsAStep sizes h x s made was now)
    (lead : LeadTo (handlers sizes r.under.hand r.under.op r.under.mark) r.under.ran r.under.left) (tells : (a : above.Answer r.under.op) → spoils (r.under.mark a) ≡ says_no_room r.under.op a) where
  -- A claim that finds no room in this step ends in it, or gives its block back next. If an inode was taken, what the
  -- tables show of the world above counts.
  pub claim_short : time_of r.under.op ≡ InOne → Shows s.world.real.blocks s.world.seen → ((a : above.Answer r.under.op) → MakesNone (r.under.mark a))
      → s.world.seen.clean ≡ true → made.after.world.seen.clean ≡ false → EndsShort r.under (r.rest r.answer) ⊎ GivesBackOf r.under.op (r.rest r.answer)
  claim_short time shows none clean short =
      op_short sizes h x s.world made.after.world r.op r.mark r.answer r.ran r.under.op r.under.mark r.under.hand r.under.ran r.under.left r.rest lead r.asks time shows none tells clean short

  -- .. and what gives back next has found no room
  pub gives_short : GivesBackOf r.under.op (r.rest r.answer) → made.after.world.seen.clean ≡ false
  gives_short gives =
      op_gives sizes h x s.world made.after.world r.op r.mark r.answer r.ran r.under.op r.under.mark r.under.hand r.under.ran r.under.left r.rest lead r.asks tells gives

-- ---- of all that are under way

-- it is so of each
abbrev OfEach : (UnderWay → Type 0) → (ℕ → Option UnderWay) → Type 0
OfEach Is under = (h : ℕ) (u : UnderWay) → under h ≡ Some u → Is u

changed_each : (Is : UnderWay → Type 0) (was now : ℕ → Option UnderWay) (h : ℕ) (o : Option UnderWay) → now ≡ changed was h o → ((u : UnderWay) → o ≡ Some u → Is u) → OfEach Is was → OfEach Is now
changed_each Is was now h o is new all j u e = by (same_or j h)
  where
    at : now j ≡ changed was h o j
    at = ap (λ (f : ℕ → Option UnderWay). f j) is

    by : (j ≡ h) ⊎ (j ≢ h) → Is u
    by (inl same) = new u (sym (changed_same was h o j same) ∙ sym at ∙ e)
    by (inr ne) = all j u (sym (changed_other was h o j ne) ∙ sym at ∙ e)

none_each : (Is : UnderWay → Type 0) (under : ℕ → Option UnderWay) → ((h : ℕ) → under h ≡ None) → OfEach Is under
none_each Is under none h u e = none_some u (sym (none h) ∙ e)

-- ---- marks

-- the rest of the call from this operation on fits
pub record FitsOn (version : Version) (u : UnderWay) : Type 0 where
  pub most : ℕ
  pub fits : AllFitUpTo version most (Do u.op u.mark u.rest)

-- so its mark says that there was no room when its answer says so
pub says_so : (version : Version) (u : UnderWay) → FitsOn version u → (a : above.Answer u.op) → spoils (u.mark a) ≡ says_no_room u.op a
says_so version u f = f.fits.1

abbrev pub AllSpoil : Version → (ℕ → Option UnderWay) → Type 0
AllSpoil version under = (h : ℕ) (u : UnderWay) → under h ≡ Some u → FitsOn version u

-- it is so if no call is under way
pub none_spoil : (version : Version) (under : ℕ → Option UnderWay) → ((h : ℕ) → under h ≡ None) → AllSpoil version under
none_spoil version under none = none_each (FitsOn version) under none

begun_fits : (sizes : Super) (most : ℕ) (c : Carry) (p : programs.P Reply) → AllFitUpTo sizes.version most p → (u : UnderWay) → at_beginning sizes c p ≡ Some u
    → FitsOn sizes.version u
begun_fits sizes most c (Ret r) f u e = none_some u e
begun_fits sizes most c (Do op m k) f u e = subst (FitsOn sizes.version) (Some-inj _ u e) (record { most = most; fits = f })

gone_fits : (sizes : Super) (u : UnderWay) (acted : Option (above.Answer u.op)) (step : AnsweredStep) (left : P (Handover (above.Answer u.op) Carry)) (v : UnderWay)
    → FitsOn sizes.version u → gone_on sizes u acted step left ≡ Some v → FitsOn sizes.version v
gone_fits sizes u acted step (Ret z) v f e = begun_fits sizes f.most z.carry (u.rest z.answer) (f.fits.2 z.answer) v e
gone_fits sizes u acted step (Do op m k) v f e = subst (FitsOn sizes.version) (Some-inj _ v e) (record { most = f.most; fits = f.fits })

module _ (sizes : Super) (s : State (block_calls sizes)) (was now : ℕ → Option UnderWay) where
  abbrev L : Theory
  L = block_calls sizes

  -- a call that begins is served
  begun_serves : (h : ℕ) (call : Call) (u : W) → (block_calls sizes).start h call (busy_in (block_calls sizes) s) s.world ≡ Begins u → serves call ≡ true
  begun_serves h call u is =
      let t : World = record (s.world.real) { children = put s.world.real.children h (child_of call) } in
      let b = begun_both (began_to s.world.seen ((served_calls sizes.version).start h call (busy_in L s) s.world.seen))
      (begins sizes h call (busy_in L s) s.world.real) u is in
      (begun_here h call (busy_in L s) (shared_of s.world.real) t u.real b.0).serves_it

  begun_spoils : (h : ℕ) (call : Call) (d : Began (block_calls sizes).Refusal W) → (block_calls sizes).start h call (busy_in (block_calls sizes) s) s.world ≡ d
      → StartDoes sizes h call (begun (block_calls sizes) h call s d).came was now → AllSpoil sizes.version was → AllSpoil sizes.version now
  begun_spoils h call (Refuses why) is does all = subst (AllSpoil sizes.version) (sym does) all
  begun_spoils h call (Begins u) is does all =
      changed_each (FitsOn sizes.version) was now h (at_beginning sizes nothing (program sizes.version call)) does
      (λ v. begun_fits sizes (most_written call) nothing (program sizes.version call) (call_fits sizes.version call (served_is call (begun_serves h call u is))) v) all

  start_spoils : (h : ℕ) (call : Call) (o : Option (Run (block_calls sizes))) → StartDoes sizes h call (start_run (block_calls sizes) h call s o).came was now → AllSpoil sizes.version was → AllSpoil sizes.version now
  start_spoils h call (Some r) does all = subst (AllSpoil sizes.version) (sym does) all
  start_spoils h call None does all = begun_spoils h call (L.start h call (busy_in L s) s.world) refl does all

  step_spoils : (h : ℕ) (x : Outside) (made : Made (block_calls sizes)) → RunsAStep sizes h x s made was now → AllSpoil sizes.version was → AllSpoil sizes.version now
  step_spoils h x made r all =
      changed_each (FitsOn sizes.version) was now h (gone_on sizes r.under (or_else r.acts r.under.acted) (r.op, r.answer) (r.rest r.answer)) r.goes_on
      (λ v. gone_fits sizes r.under (or_else r.acts r.under.acted) (r.op, r.answer) (r.rest r.answer) v (all h r.under r.is)) all

  stepped_spoils : (h : ℕ) (x : Outside) (made : Made (block_calls sizes)) (came : EventOutcome (block_calls sizes)) → StepDoes sizes h x s made came was now → AllSpoil sizes.version was → AllSpoil sizes.version now
  stepped_spoils h x made (DidRun did) does all = step_spoils h x made does all
  stepped_spoils h x made (DidEnd reply) does all = step_spoils h x made does all
  stepped_spoils h x made came does all = subst (AllSpoil sizes.version) (sym does.0) all

  -- .. and so after each event
  pub event_spoils : (f : Event Call Outside) → EventDoes sizes f s (makes (block_calls sizes) f s) was now → AllSpoil sizes.version was → AllSpoil sizes.version now
  event_spoils (Start h call) does all = start_spoils h call (s.running h) does all
  event_spoils (Step h x) does all = stepped_spoils h x (makes L (Step h x) s) (makes L (Step h x) s).came does all

-- ---- none gives back

abbrev pub NoneGivesBack : (ℕ → Option UnderWay) → Type 0
NoneGivesBack under = (h : ℕ) (u : UnderWay) → under h ≡ Some u → GivesBackOf u.op u.left → ⊥

-- what doesn't give back
abbrev KeepsOn : UnderWay → Type 0
KeepsOn u = GivesBackOf u.op u.left → ⊥

-- none does if no call is under way
pub none_gives : (under : ℕ → Option UnderWay) → ((h : ℕ) → under h ≡ None) → NoneGivesBack under
none_gives under none = none_each KeepsOn under none

begun_gives : (sizes : Super) (c : Carry) (p : programs.P Reply) (u : UnderWay) → at_beginning sizes c p ≡ Some u → KeepsOn u
begun_gives sizes c (Ret r) u e = none_some u e
begun_gives sizes c (Do op m k) u e = subst KeepsOn (Some-inj _ u e) (begins_on sizes c op m)

gone_gives : (sizes : Super) (u : UnderWay) (acted : Option (above.Answer u.op)) (step : AnsweredStep) (left : P (Handover (above.Answer u.op) Carry)) (v : UnderWay)
    → (GivesBackOf u.op left → ⊥) → gone_on sizes u acted step left ≡ Some v → KeepsOn v
gone_gives sizes u acted step (Ret z) v on e = begun_gives sizes z.carry (u.rest z.answer) v e
gone_gives sizes u acted step (Do op m k) v on e = subst KeepsOn (Some-inj _ v e) on

pub leads_there : (sizes : Super) (o : Option (Run (block_calls sizes))) (u : UnderWay) → Fits sizes o (Some u) → LeadTo (handlers sizes u.hand u.op u.mark) u.ran u.left
leads_there sizes None u fits = absurd fits
leads_there sizes (Some r) u fits = fits.leads

module _ (sizes : Super) (s : State (block_calls sizes)) (made : Made (block_calls sizes)) (was now : ℕ → Option UnderWay) (fits : (h : ℕ) → Fits sizes (s.running h) (was h))
    (clean : made.after.world.seen.clean ≡ true) (spoil : AllSpoil sizes.version was) where
  step_gives : (h : ℕ) (x : Outside) → RunsAStep sizes h x s made was now → NoneGivesBack was → NoneGivesBack now
  step_gives h x r all =
      changed_each KeepsOn was now h (gone_on sizes r.under (or_else r.acts r.under.acted) (r.op, r.answer) (r.rest r.answer)) r.goes_on
      (λ v. gone_gives sizes r.under (or_else r.acts r.under.acted) (r.op, r.answer) (r.rest r.answer) v on) all
    where
      lead : LeadTo (handlers sizes r.under.hand r.under.op r.under.mark) r.under.ran r.under.left
      lead = leads_there sizes (s.running h) r.under (subst (Fits sizes (s.running h)) r.is (fits h))

      on : GivesBackOf r.under.op (r.rest r.answer) → ⊥
      on gives = not_both made.after.world.seen.clean clean (gives_short sizes h x s made was now r lead (says_so sizes.version r.under (spoil h r.under r.is)) gives)

  stepped_gives : (h : ℕ) (x : Outside) (came : EventOutcome (block_calls sizes)) → StepDoes sizes h x s made came was now → NoneGivesBack was → NoneGivesBack now
  stepped_gives h x (DidRun did) does all = step_gives h x does all
  stepped_gives h x (DidEnd reply) does all = step_gives h x does all
  stepped_gives h x came does all = subst NoneGivesBack (sym does.0) all

  started_gives : (h : ℕ) (call : Call) (came : EventOutcome (block_calls sizes)) → StartDoes sizes h call came was now → NoneGivesBack was → NoneGivesBack now
  started_gives h call Started does all = changed_each KeepsOn was now h _ does (λ u e. begun_gives sizes _ _ u e) all
  started_gives h call came does all = subst NoneGivesBack (sym does) all

  -- None does after an event that found room.
  pub event_gives_none : (f : Event Call Outside) → EventDoes sizes f s made was now → NoneGivesBack was → NoneGivesBack now
  event_gives_none (Start h call) does all = started_gives h call made.came does all
  event_gives_none (Step h x) does all = stepped_gives h x made.came does all

-- ---- along a run

module _ (sizes : Super) (start : (block_calls sizes).M.World) (events : List (Event Call Outside)) (goes : GoesOnAsItActs sizes start events) where
  abbrev SpoilAfter : List (Event Call Outside) → Type 0
  SpoilAfter es = AllSpoil sizes.version (goes.under (length es))

  spoil_next : (es : List (Event Call Outside)) (e : Event Call Outside) (rest : List (Event Call Outside)) → es ++ e ∷ rest ≡ events → SpoilAfter es → SpoilAfter (es ++ e ∷ [])
  spoil_next es e rest is all =
      subst (λ (n : ℕ). AllSpoil sizes.version (goes.under n)) (sym (longer es e))
      (event_spoils sizes (run (block_calls sizes) es (fresh (block_calls sizes) start)) (goes.under (length es)) (goes.under (suc (length es))) e (goes.leads_on es e rest is) all)

  spoil_on : (done es rest : List (Event Call Outside)) → done ++ (es ++ rest) ≡ events → SpoilAfter done → SpoilAfter (done ++ es)
  spoil_on done [] rest is all = subst SpoilAfter (sym (append-nil done)) all
  spoil_on done (e ∷ es) rest is all =
      subst SpoilAfter (append_assoc done (e ∷ []) es)
      (spoil_on (done ++ e ∷ []) es rest (append_assoc done (e ∷ []) (es ++ rest) ∙ is) (spoil_next done e (es ++ rest) is all))

  -- So the marks under way say at each place of a run what their answers say.
  pub all_spoil : (es rest : List (Event Call Outside)) → es ++ rest ≡ events → AllSpoil sizes.version (goes.under (length es))
  all_spoil es rest is = spoil_on [] es rest is (none_spoil sizes.version (goes.under 0) goes.none_yet)

  -- And as long as the device hasn't failed the blocks show the world above there.
  pub shows_there : (block_calls sizes).M.Inv start → ((h : ℕ) → (block_calls sizes).M.Idle h start) → AllHonest (block_calls sizes) events (fresh (block_calls sizes) start)
      → (es rest : List (Event Call Outside)) → es ++ rest ≡ events → let s = run (block_calls sizes) es (fresh (block_calls sizes) start) in s.stopped ≡ false → Shows s.world.real.blocks s.world.seen
  shows_there holds idle honest es rest is off =
      let s = run (block_calls sizes) es (fresh (block_calls sizes) start) in
      (explained.inv_of (block_calls sizes) s.stopped s.world (sound_keeps (block_calls sizes) (lawful sizes) s (sound_here sizes start events goes holds idle honest es rest is)).holds off).0.0
