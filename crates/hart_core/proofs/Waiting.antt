-- A step waits only when it must.
use Rattle.hart_core.proofs.Vocabulary.{◌≡◌, ◌≢◌, ◌==◌, if◌then◌else◌, ℕ, Bool, true, false, List, length, Option, Some, None, Some-inj, is_some, refl, sym, ◌∙◌, ap, subst, inl, inr, get_or, MatchOption, Super, Theory, Step, EventOutcome, Started, Refused, WasIdle, DidWait, DidRun, DidEnd, DidStop, WasStopped, makes, Run, step_run, step_unless, Do, asks, plain, OfNext, Code, Plain, PlainMade, PlainHonest, P, Reply, Running, running_of, program_at, prog_of, by_kind, plain_makes, erase-makes, honest_event, OpenFile, file_named, holder_of, IsElsewhere, May, MayWait, turn_is_out, empty_hand, block_calls, block_code, is_code, HartsOf, MustWait, NextMustWait, WaitsByTheRule, copied_next, IsWorld}
use Rattle.hart_core.specs.Vocabulary.{TablesState, Phase, option_map, buffer_holder}
use Rattle.std.specs.Prelude.{slice_index}
use Rattle.atomic_programs.specs.Prog.{unmarked}
use Rattle.atomic_programs.specs.Calls.{State as TheoryState}
use Rattle.atomic_programs.specs.Logic.{P as TheoryP}
use Rattle.inodes_on_blocks.specs.Vocabulary.{SeatState}
use Rattle.inodes_on_blocks.specs.Below.{World as Blocks}
use Rattle.group_log.specs.declared.phase.Phase.TheVariants as phases
use Rattle.fs_machine.specs.Steps as steps
use Rattle.hart_core.proofs.Keeping.{same, sound, state, told}

-- who waited in the words of the code did so
waited : (L : Theory) (C : Code L) (c : EventOutcome L) → by_kind L C c ≡ DidWait → c ≡ DidWait
waited L C Started e = absurd (cc e)
waited L C (Refused why) e = absurd (cc e)
waited L C WasIdle e = absurd (cc e)
waited L C DidWait e = refl
waited L C (DidRun did) e = absurd (cc e)
waited L C (DidEnd reply) e = absurd (cc e)
waited L C DidStop e = absurd (cc e)
waited L C WasStopped e = absurd (cc e)

-- a world in which a step waited hadn't stopped
runs_on : (L : Theory) (h : ℕ) (x : L.M.Outside) (s : TheoryState L) → (makes L (Step h x) s).came ≡ DidWait → s.stopped ≡ false
runs_on L h x s came = at (s.running h) came
  where
    unless : (r : Run L) (b : Bool) → (step_unless L h x s b r).came ≡ DidWait → b ≡ false
    unless r false came = refl
    unless r true came = cc

    at : (r : Option (Run L)) → (step_run L h x s r).came ≡ DidWait → s.stopped ≡ false
    at None came = cc
    at (Some r) came = unless r s.stopped came

-- what a hart without a buffer finds out is in another hart's hand
elsewhere : (h : ℕ) (o : Option ℕ) → is_some o ≡ true → o ≢ Some h → IsElsewhere h o
elsewhere h None is ne = absurd (let q : false ≡ true = is in cc)
elsewhere h (Some g) is ne = (g, λ e. ne (ap (λ (z : ℕ). Some z) e), refl)

-- the buffer for which a commit waits
copied : (h : ℕ) (seats : List SeatState) (group : List ℕ) (p : Phase) → ((b : ℕ) → buffer_holder b seats ≢ Some h) → turn_is_out seats group p ≡ true
    → (b : ℕ) × (copied_next group p ≡ Some b) × IsElsewhere h (buffer_holder b seats)
copied h seats group p none = by p
  where
    at : (i : ℕ) (last : Bool) → (if last then false else is_some (buffer_holder (slice_index group i) seats)) ≡ true
        → (b : ℕ) × ((if last then None else Some (slice_index group i)) ≡ Some b) × IsElsewhere h (buffer_holder b seats)
    at i true out = absurd (let q : false ≡ true = out in cc)
    at i false out = (slice_index group i, refl, elsewhere h (buffer_holder (slice_index group i) seats) out (none (slice_index group i)))

    by : (p : Phase) → turn_is_out seats group p ≡ true → (b : ℕ) × (copied_next group p ≡ Some b) × IsElsewhere h (buffer_holder b seats)
    by phases.Open out = absurd (let q : false ≡ true = out in cc)
    by (phases.Staging i) out = at i (i == length group) out
    by (phases.Installing i) out = at i (i == length group) out
    by phases.Halted out = absurd (let q : false ≡ true = out in cc)

-- the file's inode for whose lock an operation waits
locked : (h : ℕ) (t : TablesState) (o : Option OpenFile) → MatchOption o ⊥ (λ f. IsElsewhere h (holder_of f.number t))
    → (n : ℕ) × (option_map (λ (f : OpenFile). f.number) o ≡ Some n) × IsElsewhere h (holder_of n t)
locked h t None may = absurd may
locked h t (Some f) may = (f.number, refl, may)

-- an operation that may be made, and may wait, is one that must
must : (h : ℕ) (op : steps.Op) (r : Blocks) → May h op r.state → MayWait h op r.state → MustWait h r.state op
unfolding May MayWait
must h steps.Join r asked may = inr (inr (refl, may))
must h (steps.JoinToWrite fd) r asked may = inr (inr (refl, may))
must h (steps.Get b) r asked may = inr (inl (b, refl, may))
must h steps.Commit r asked may = inr (inl (copied h r.state.log.seats r.state.log.group r.state.log.phase (λ b. empty_hand h b r asked.1) may))
must h (steps.Lock n) r asked may = inl (n, refl, may)
must h (steps.LockFile want fd) r asked may = inl (locked h r.state.tables (file_named h fd r.state.tables) may)
must h (steps.LockOpen fd) r asked may = inl (locked h r.state.tables (file_named h fd r.state.tables) may)
must h op r asked may = absurd may

-- the operation of the program that is a call's next
next_must : (h : ℕ) (s : steps.State) (op : steps.Op) (m : steps.Answer op → Option ⊥) (k : steps.Answer op → P Reply) (call : Option Running)
    → program_at running_of call ≡ Some (Do op m k) → MustWait h s op → NextMustWait h s call
next_must h s op m k None is why = absurd (cc is)
next_must h s op m k (Some call) is why =
    subst (λ (p : P Reply). MatchOption (asks p) ⊥ (MustWait h s)) (sym (Some-inj (running_of call) (Do op m k) is)) why

module _ {D : Type 0} (contents : D → List (List ℕ)) (failures : D → ℕ) (sizes : Super) (w : HartsOf D) (is : IsWorld contents failures sizes w) where
  abbrev L : Theory
  L = block_calls sizes

  abbrev C : Code L
  C = block_code sizes

  pub waits_by_the_rule : WaitsByTheRule contents failures sizes w
  waits_by_the_rule h x v honest makes_so =
      let s = state contents failures sizes w is in
      let q = sound contents failures sizes w is in
      let came : by_kind L C (makes L (Step h x) s).came ≡ DidWait = ap (λ (m : PlainMade L C). m.came) (sym (erase-makes L C (is_code sizes) (Step h x) s) ∙ ap (plain_makes L C (Step h x)) q.is ∙ makes_so) in
      let did_wait = waited L C (makes L (Step h x) s).came came in
      let explained = told contents failures sizes w is in
      let blocked = explained.waits h x (honest_event L C (is_code sizes) (Step h x) s (subst (PlainHonest L C (Step h x)) (sym q.is) honest)) did_wait in
      let may : May h blocked.op s.world.real.blocks.state =
      subst (λ (p : TheoryP L.M L.Reply). OfNext (L.M.May h) (asks p) s.world) blocked.asks (explained.may h blocked.call (runs_on L h x s did_wait) blocked.is) in
      let program : program_at running_of (get_or w.calls h None) ≡ Some (plain (Do blocked.op blocked.mark blocked.rest)) =
      sym (ap (λ (p : Plain L C). p.running h) q.is) ∙ ap (prog_of L C) blocked.is ∙ ap (λ (p : TheoryP L.M L.Reply). Some (plain p)) blocked.asks in
      subst (λ (t : steps.State). NextMustWait h t (get_or w.calls h None)) (same contents failures sizes w is)
      (next_must h s.world.real.blocks.state blocked.op unmarked (λ a. plain (blocked.rest a)) (get_or w.calls h None) program
      (must h blocked.op s.world.real.blocks may blocked.may))
