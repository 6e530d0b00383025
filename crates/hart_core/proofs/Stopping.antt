-- What a stop leaves of a run.
use Rattle.hart_core.proofs.Vocabulary.{◌≡◌, ◌⊎◌, inl, inr, ℕ, ◌+◌, ◌≤◌, false, List, [], ◌∷◌, ◌++◌, length, Some, take, refl, sym, ◌∙◌, ap, subst, arith, Super, Version, version_in, sizes_of, tree_in, Call, call_climbs, Chain, Explains, IsNamedPart, Shown, trace_of, tree_of, TreeData, Marks, joined, is_point, no_marks, IsMarked, before, Theory, State, EventOf, AllHonest, fresh, next, run, with_answer, Code, Plain, PlainMade, plain_run, erase, erase-makes, erase-run, Outside, Passes, block_moves, first, block_calls, block_code, is_code, marks_told, at_point, noted, log_at, told_between, LeavesABeginning, disk_after, marks_at, stops_leave_a_beginning, one_hart_leaves_a_beginning, next_now, marks_of_mounts, Event, Came, event_of, came_of, HartsOf, Rests, trace_in, IsHistory, IsMounted, NoneClimbs, OneHart, last_of, doubt_of, HoldsABeginning, log_of, next_of, marks_in, HasMarks, marks_of, RunLeavesABeginning, WorldOf, calls_of, Makes, Answers}
use Rattle.hart_core.proofs.Calming.{Calmed}
use Rattle.hart_core.proofs.Counts.{marked_by}
use Rattle.hart_core.proofs.Histories.{no_history, history_more, long_history, none_past, calm, runs, shown_is, started}
use Rattle.hart_core.proofs.Resting.{mountable, rests_erased}
use Rattle.hart_core.proofs.Returning.{returned}
use Rattle.hart_core.proofs.Storing.{apart_here, honest_run, stored_here}

-- ---- one event more

module _ (sizes : Super) where
  marks_more : (n k : ℕ) (es : List (EventOf Call Outside)) (e : EventOf Call Outside) (p : Plain (block_calls sizes) (block_code sizes)) (m : Marks) → k ≡ n + length es + 1
      → marks_in sizes n (es ++ e ∷ []) p m
      ≡ marks_told k (log_of sizes (plain_run (block_calls sizes) (block_code sizes) es p)).phase (at_point (log_of sizes (plain_run (block_calls sizes) (block_code sizes) es p)))
      (log_of sizes (next_of sizes e (plain_run (block_calls sizes) (block_code sizes) es p))).phase (marks_in sizes n es p m)
  marks_more n k [] e p m is =
      let same : n + 1 ≡ k = omega (arith, is) in ap (λ (z : ℕ). marks_told z (log_of sizes p).phase (at_point (log_of sizes p)) (log_of sizes (next_of sizes e p)).phase m) same
  marks_more n k (x ∷ es) e p m is =
      marks_more (n + 1) k es e (next_of sizes x p) (marks_told (n + 1) (log_of sizes p).phase (at_point (log_of sizes p)) (log_of sizes (next_of sizes x p)).phase m) (omega (arith, is))

module _ {D : Type 0} (contents : D → List (List ℕ)) (failures : D → ℕ) (sizes : Super) where
  pub first_marks : (w : HartsOf D) (m : Marks) → m ≡ no_marks → HasMarks contents failures sizes w [] [] w m
  first_marks w m is = ([], no_history contents failures sizes w, sym is)

  pub next_marks : (old mid new : HartsOf D) (events : List Event) (e : Event) (cs : List Came) (c : Came) (x : Outside) (m m' : Marks) (k : ℕ) → HasMarks contents failures sizes old events cs mid m
      → Answers contents failures sizes (with_answer (event_of e) x) mid → Makes contents failures sizes (with_answer (event_of e) x) mid (came_of c) new → k ≡ length cs + 1
      → m' ≡ marks_told k mid.core.log.phase (is_point (length mid.core.log.group) mid.core.log.phase) new.core.log.phase m → HasMarks contents failures sizes old (events ++ e ∷ []) (cs ++ c ∷ []) new m'
  next_marks old mid new events e cs c x m m' k h honest makes_ count is =
      let f : EventOf Call Outside = with_answer (event_of e) x in
      let p : Plain (block_calls sizes) (block_code sizes) = calls_of contents failures sizes old in
      let long : length h.0 ≡ length cs = long_history contents failures sizes old mid events cs h.0 h.1 in
      let made : next_of sizes f (plain_run (block_calls sizes) (block_code sizes) h.0 p) ≡ calls_of contents failures sizes new =
      ap (next_of sizes f) h.1.makes ∙ ap (λ (z : PlainMade (block_calls sizes) (block_code sizes)). z.after) makes_ in (
        h.0 ++ f ∷ [],
        history_more contents failures sizes old mid new events e cs c h.0 x h.1 honest makes_,
        marks_more sizes 0 k h.0 f p no_marks (omega (arith, long, count))
            ∙ (λ i. marks_told k (log_of sizes (h.1.makes i)).phase (at_point (log_of sizes (h.1.makes i))) (log_of sizes (made i)).phase (h.2 i))
            ∙ sym is,
      )

-- ---- a run of a mounted world

module _ {D : Type 0} (contents : D → List (List ℕ)) (failures : D → ℕ) (device : D) (w : HartsOf D) (rests : Rests contents failures device w) where
  abbrev disk : List (List ℕ)
  disk = contents w.core.log.cache.device

  abbrev count : ℕ
  count = failures w.core.log.cache.device

  abbrev sizes : Super
  sizes = sizes_of disk

  abbrev L : Theory
  L = block_calls sizes

  abbrev C : Code L
  C = block_code sizes

  abbrev start : State L
  start = fresh L (first disk count)

  -- the marks by the calls' states are those by what the code has
  told_in : (es : List (EventOf Call Outside)) (s : State L) (m : Marks) → noted L (told_between sizes) es s m ≡ marks_in sizes s.now es (erase L C s) m
  told_in [] s m = refl
  told_in (e ∷ es) s m =
      let t : State L = next L e s in
      let q : erase L C t ≡ next_of sizes e (erase L C s) = ap (λ (z : PlainMade L C). z.after) (sym (erase-makes L C (is_code sizes) e s)) in
      told_in es t (told_between sizes s t m)
      ∙ (λ i. marks_in sizes (next_now sizes e s i) es (q i) (marks_told (s.now + 1) (log_at sizes s).phase (at_point (log_at sizes s)) (log_of sizes (q i)).phase m))

  module _ (events : List Event) (cs : List Came) (new : HartsOf D) (history : List (EventOf Call Outside)) (is : IsHistory contents failures sizes w events cs new history) where
    abbrev honest : AllHonest L history start
    honest = honest_run contents failures device w rests events cs new history is

    told : noted L (told_between sizes) history start no_marks ≡ marks_at disk count history
    told = marks_of_mounts disk count history (record { mountable = mountable contents failures device w rests; honest = honest })

    pub marks_are : (m : Marks) → marks_in sizes 0 history (calls_of contents failures sizes w) no_marks ≡ m → marks_at disk count history ≡ m
    marks_are m e =
        sym told ∙ told_in history start no_marks
        ∙ ap (λ (p : Plain L C). marks_in sizes 0 history p no_marks) (rests_erased contents failures device w rests) ∙ e

    module _ (clean : L.M.Clean (run L history start).world) where
      abbrev calmly : Calmed (version_in disk) (block_moves sizes) 8 (none_past sizes) Passes history start
      calmly = calm contents failures device w rests events cs new history is clean

      left : NoneClimbs (trace_in events cs) ⊎ OneHart (trace_in events cs) → LeavesABeginning disk count calmly.events
      left (inl a) =
          stops_leave_a_beginning disk count calmly.events (runs contents failures device w rests events cs new history is clean)
          (calmly.climbs (started contents failures device w rests events cs new history is clean (λ h call. call_climbs call ≡ false) a))
      left (inr a) =
          one_hart_leaves_a_beginning disk count a.0 calmly.events (runs contents failures device w rests events cs new history is clean)
          (calmly.alone a.0 (started contents failures device w rests events cs new history is clean (λ k call. k ≡ a.0) a.1))

      -- starts that were refused mark nothing
      marks_same : marks_at disk count calmly.events ≡ marks_at disk count history
      marks_same =
          sym (marks_of_mounts disk count calmly.events (record { mountable = mountable contents failures device w rests; honest = calmly.honest honest })) ∙ calmly.notes (told_between sizes) no_marks
          ∙ told

      disk_same : disk_after disk count calmly.events ≡ contents new.core.log.cache.device
      disk_same =
          ap (λ (s : State L). s.world.real.blocks.state.log.contents) calmly.after
          ∙ ap (λ (p : Plain L C). p.shared.state.log.contents) (sym (erase-run L C (is_code sizes) history start) ∙ ap (plain_run L C history) (rests_erased contents failures device w rests) ∙ is.makes)

      pub holds_here : (m : Marks) → marks_at disk count history ≡ m → NoneClimbs (trace_in events cs) ⊎ OneHart (trace_in events cs)
          → HoldsABeginning (version_in disk) (tree_in (contents device)) (trace_in events cs) (contents new.core.log.cache.device) (last_of m.cut) (doubt_of m.doubt)
      holds_here m e a =
          let l = left a in
          let same : marks_at disk count calmly.events ≡ m = marks_same ∙ e in
          let explains : Explains (version_in disk) (tree_in (contents device)) (trace_in events cs) l.history.list =
          subst (λ (base : TreeData). Explains (version_in disk) base (trace_in events cs) l.history.list) rests.disk.tree
          (subst (λ (ss : List Shown). Explains (version_in disk) (tree_in disk) (trace_of ss) l.history.list) (calmly.shown ∙ shown_is contents failures device w rests events cs new history is clean) l.history.explains) in
          record {
            list = l.history.list;
            explains = explains;
            k = l.k;
            marked = marked_by m.cut m.doubt l.k (subst (λ (z : Marks). (j : ℕ) → z.doubt ≡ Some j → z.cut ≤ j) same l.after) (subst (λ (z : Marks). IsMarked z l.k) same l.marked);
            rest = l.rest;
            begins = l.begins;
            tree = l.tree;
            leads = subst (λ (base : TreeData). Chain (version_in disk) (tree_of base) (before l.k l.history.list) l.tree) rests.disk.tree l.leads;
            named = subst (λ (d : List (List ℕ)). IsNamedPart l.tree (tree_of (tree_in d))) disk_same l.named;
            returned = λ id c now reply at finished early. returned (trace_in events cs) l.k id c (now, reply) at finished early l.history.list explains.belongs;
          }

pub leaves_a_beginning : {D : Type 0} (contents : D → List (List ℕ)) (failures : D → ℕ) (w : WorldOf D) (events : List Event) (cs : List Came) (new : HartsOf D) (m : Marks) → HasMarks contents failures w.sizes w.harts events cs new m
    → RunLeavesABeginning contents failures w events cs new (last_of m.cut) (doubt_of m.doubt)
leaves_a_beginning {D} contents failures w events cs new m h = record {
  history = h.0;
  is = h.1;
  cut_is = λ device mounted. ap (λ (z : Marks). last_of z.cut) (sym (marks device mounted));
  doubt_is = λ device mounted. ap (λ (z : Marks). doubt_of z.doubt) (sym (marks device mounted));
  apart = λ device mounted k marked.
      subst (λ (z : Super). joined (plain_run (block_calls z) (block_code z) (take k h.0) (calls_of contents failures z w.harts)).shared.state.log.members ≡ 0) (sym (same device mounted))
      (apart_here contents failures device w.harts mounted.rests events cs new h.0 (is device mounted) m (marks device mounted) k marked);
  stored = λ device mounted i j hart reply at_i begun lt at_j done.
      stored_here contents failures device w.harts mounted.rests events cs new h.0 (is device mounted) m (marks device mounted) i j hart reply at_i begun lt at_j done;
  holds = λ device mounted clean a.
      subst (λ (v : Version). HoldsABeginning v (tree_in (contents device)) (trace_in events cs) (contents new.core.log.cache.device) (last_of m.cut) (doubt_of m.doubt)) (ap (λ (s : Super). s.version) (sym (same device mounted)))
      (holds_here contents failures device w.harts mounted.rests events cs new h.0 (is device mounted)
      (subst (λ (s : Super). (block_calls s).M.Clean (run (block_calls s) h.0 (fresh (block_calls s) (first disk (failures w.harts.core.log.cache.device)))).world) (same device mounted) clean) m (marks device mounted) a);
}
  where
    disk : List (List ℕ)
    disk = contents w.harts.core.log.cache.device

    same : (device : D) (mounted : IsMounted contents failures device w) → w.sizes ≡ sizes_of disk
    same device mounted = mounted.sizes ∙ sym mounted.rests.disk.sizes

    is : (device : D) (mounted : IsMounted contents failures device w) → IsHistory contents failures (sizes_of disk) w.harts events cs new h.0
    is device mounted = subst (λ (s : Super). IsHistory contents failures s w.harts events cs new h.0) (same device mounted) h.1

    marks : (device : D) (mounted : IsMounted contents failures device w) → marks_of contents failures w h.0 ≡ m
    marks device mounted =
        marks_are contents failures device w.harts mounted.rests events cs new h.0 (is device mounted) m
        (subst (λ (s : Super). marks_in s 0 h.0 (calls_of contents failures s w.harts) no_marks ≡ m) (same device mounted) h.2)
