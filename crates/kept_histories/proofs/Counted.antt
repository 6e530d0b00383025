-- Of a history of fewer events than a number can count. Its calls are no more than its events, and each of its
-- entries has the number of its event as code has it.
use Rattle.std.specs.Prelude.{◌≡◌, ◌≤◌, ◌<◌, ◌^◌, ℕ, zero, suc, List, [], ◌∷◌, ◌++◌, length, map, Option, Some, None}
use Rattle.calls_on_blocks.proofs.Vocabulary.{refl, sym, ◌∙◌, ap, subst, arith}
use Rattle.std.proofs.Math.Nat.{min-eq_left}
use Rattle.std.proofs.lemmas.List.{length_push, map-append}
use Rattle.atomic_programs.specs.Calls.{Event, EventOutcome, Start, Started, State, Step, DidEnd, DidRun}
use Rattle.calls_on_blocks.specs.History.{block_moves}
use Rattle.calls_on_blocks.specs.Theory.{block_calls}
use Rattle.fs_layout.specs.declared.superblock.Super.{Super}
use Rattle.inode_machine.specs.Kept.{kept_by, kept_start, kept_step, nothing_yet}
use Rattle.inode_machine.specs.Kept.{kept_on}
use Rattle.plain_tree.specs.declared.answer.Reply.{Reply}
use Rattle.plain_tree.specs.declared.call.Call.{Call}
use Rattle.plain_tree.specs.declared.trace.Placed.{Placed}
use Rattle.run_laws.specs.Vocabulary.{Outside}
use Rattle.tree_histories.specs.Books.{capped_entry}
use Rattle.tree_laws.proofs.Lists.{map_length}
use Rattle.tree_laws.specs.History.{HartStanding, History, entry_of, passes, replies, starts, tells, tells_any, writes, writes_any}
use Rattle.tree_laws.specs.History.HartStanding.{Busy, Free}
use Rattle.tree_laws.specs.Moves.{Deed, Stage}
use Rattle.tree_laws.specs.Runs.{all_fall, falls, finishes, lost_of, moves_on, unless}
use Rattle.tree_laws.specs.Vocabulary.{hart_count}

-- n: the number of its events so far
pub record IsCounted (n : ℕ) (b : History) : Type 0 where
  pub events : b.trace.events ≡ n
  pub calls : length b.trace.calls ≤ n
  pub plain : map capped_entry b.list ≡ b.list

pub counted_first : IsCounted 0 nothing_yet
counted_first = record { events = refl; calls = omega arith; plain = refl }

-- ---- what an event writes

module _ (n : ℕ) (few : n < 2 ^ 64) where
  abbrev Counts : History → Type 0
  Counts b = IsCounted n b

  entry_plain : (e : ℕ) (id h : ℕ) (d : Deed) → e ≡ n → capped_entry (entry_of e id h d) ≡ entry_of e id h d
  entry_plain e id h d is = ap (λ (k : ℕ). entry_of k id h d) (min-eq_left (omega (arith, few, is)))

  writes_counts : (s : HartStanding) (b : History) (h : ℕ) (d : Deed) → Counts b → Counts (writes s b h d)
  writes_counts Free b h d c = c
  writes_counts (Busy id call told) b h d c =
      let e : Placed = entry_of b.trace.events id h d in
      record {
        events = c.events;
        calls = c.calls;
        plain = map-append capped_entry b.list (e ∷ [])
            ∙ ap (λ (es : List Placed). es ++ capped_entry e ∷ []) c.plain
            ∙ ap (λ (x : Placed). b.list ++ x ∷ []) (entry_plain b.trace.events id h d c.events);
      }

  writes_any_counts : (d : Option Deed) (h : ℕ) (b : History) → Counts b → Counts (writes_any d h b)
  writes_any_counts None h b c = c
  writes_any_counts (Some d) h b c = writes_counts (b.calls h) b h d c

  tells_counts : (s : HartStanding) (b : History) (h : ℕ) (d : Deed) → Counts b → Counts (tells s b h d)
  tells_counts Free b h d c = c
  tells_counts (Busy id call told) b h d c = record { events = c.events; calls = c.calls; plain = c.plain }

  tells_any_counts : (d : Option Deed) (h : ℕ) (b : History) → Counts b → Counts (tells_any d h b)
  tells_any_counts None h b c = c
  tells_any_counts (Some d) h b c = tells_counts (b.calls h) b h d c

  fall_counts : (m m' : Stage) (count : ℕ) (b : History) → Counts b → Counts (all_fall m m' count b)
  unfolding all_fall
  fall_counts m m' zero b c = c
  fall_counts m m' (suc k) b c = writes_any_counts (falls m m' k) k (all_fall m m' k b) (fall_counts m m' k b c)

  moves_count : (m m' : Stage) (h : ℕ) (told : Option Deed) (b : History) → Counts b → Counts (moves_on m m' h told b)
  moves_count m m' h told b c =
      fall_counts m m' hart_count (tells_any told h (writes_any (unless (lost_of m h) told) h b))
      (tells_any_counts told h (writes_any (unless (lost_of m h) told) h b) (writes_any_counts (unless (lost_of m h) told) h b c))

-- ---- the event's end

passes_counted : (n : ℕ) (b : History) → IsCounted n b → IsCounted (suc n) (passes b)
passes_counted n b c = record { events = omega (arith, c.events); calls = (let few = c.calls in omega (arith, few)); plain = c.plain }

starts_counted : (n : ℕ) (b : History) (h : ℕ) (call : Call) → IsCounted n b → IsCounted (suc n) (starts b h call)
starts_counted n b h call c = record {
  events = omega (arith, c.events);
  calls = subst (λ (k : ℕ). k ≤ suc n) (sym (length_push b.trace.calls _)) (let few = c.calls in omega (arith, few));
  plain = c.plain;
}

replies_counted : (n : ℕ) (b : History) (h : ℕ) (r : Reply) → IsCounted n b → IsCounted (suc n) (replies b h r)
replies_counted n b h r c = record {
  events = omega (arith, c.events);
  calls = subst (λ (k : ℕ). k ≤ suc n) (sym (map_length _ b.trace.calls)) (let few = c.calls in omega (arith, few));
  plain = c.plain;
}

finishes_counted : (n : ℕ) (r : Option Reply) (h : ℕ) (b : History) → IsCounted n b → IsCounted (suc n) (finishes r h b)
finishes_counted n None h b c = passes_counted n b c
finishes_counted n (Some r) h b c = replies_counted n b h r c

-- ---- an event

module _ (sizes : Super) (n : ℕ) (few : n < 2 ^ 64) (b : History) (c : IsCounted n b) where
  start_counted : (h : ℕ) (call : Call) (came : EventOutcome (block_calls sizes)) → IsCounted (suc n) (kept_start (block_moves sizes) h call came b)
  start_counted h call Started = starts_counted n b h call c
  start_counted h call came = passes_counted n b c

  step_counted : (h : ℕ) (came : EventOutcome (block_calls sizes)) (m m' : Stage) (d : Option Deed) → IsCounted (suc n) (kept_step (block_moves sizes) h came m m' d b)
  step_counted h (DidRun did) m m' d = finishes_counted n None h (moves_on m m' h d b) (moves_count n few m m' h d b c)
  step_counted h (DidEnd reply) m m' d = finishes_counted n (Some reply) h (moves_on m m' h d b) (moves_count n few m m' h d b c)
  step_counted h came m m' d = passes_counted n b c

  event_counted : (f : Event Call Outside) (came : EventOutcome (block_calls sizes)) (m m' : Stage) (d : Option Deed) → IsCounted (suc n) (kept_by (block_moves sizes) f came m m' d b)
  event_counted (Start h call) came m m' d = start_counted h call came
  event_counted (Step h x) came m m' d = step_counted h came m m' d

  -- So it is after it.
  pub counted_on : (f : Event Call Outside) (s : State (block_calls sizes)) → IsCounted (suc n) (kept_on sizes.version (block_moves sizes) f s b)
  counted_on f s = event_counted f _ _ _ _
