-- A mounted world is one.
use Rattle.hart_core.proofs.Vocabulary.{◌≡◌, ℕ, List, [], Option, None, sym, ◌∙◌, ap, subst, get_or, replicate, arith, Super, sizes_of, buffer_count, hart_count, unused_from, IsPlaced, IsGoodSuper, IsWellFormed, fresh as fresh_state, Both, program_at, erase, CameTo, came_none, part_of, P, Running, running_of, IsSized, Reply, IsMountable, first_world, mounted, resting_log, World, block_calls, block_code, is_code, HartsOf, children_in, Rests, IsWorld, calls_of}
use Rattle.group_log.specs.declared.phase.Phase.TheVariants.{Open}
use Rattle.inode_machine.specs.World as above
use Rattle.hart_core.proofs.Stepping.{nones, none_of}

-- calls run on a well-formed image
sized : (disk : List (List ℕ)) → IsWellFormed disk → IsSized (sizes_of disk)
sized disk well =
    let good : IsGoodSuper (sizes_of disk) = (let a = well.0 in let b = a.0 in let c = b.0 in let f = c.0 in let g = f.0 in let h = g.0 in let i = h.0 in let j = i.0 in let k = j.0 in let l = k.0 in let m = l.0 in m.1.1) in
    let inodes = good.inodes in
    let bitmap = good.bitmap in
    let size = good.size in
    let some = good.few_inodes in
    let few = good.many_inodes in
    record { early = omega (arith, inodes, bitmap, size); size = omega (arith, size); some = omega (arith, some); few = omega (arith, few) }

module _ {D : Type 0} (contents : D → List (List ℕ)) (failures : D → ℕ) (device : D) (w : HartsOf D) (rests : Rests contents failures device w) where
  abbrev disk : List (List ℕ)
  disk = contents w.core.log.cache.device

  abbrev count : ℕ
  count = failures w.core.log.cache.device

  pub mountable : IsMountable disk
  mountable = record {
    whole = rests.whole;
    bytes = rests.bytes;
    placed = subst (λ (s : Super). IsPlaced disk s) (sym rests.disk.sizes) rests.placed;
    well = rests.disk.well;
    empty = rests.disk.empty;
  }

  -- the first world of the calls
  abbrev pub first : Both World above.World
  first = record { real = record { blocks = mounted disk count; children = λ h. None }; seen = first_world disk }

  log_same : resting_log disk count ≡ part_of contents failures w.core.log
  log_same =
      (λ i. record { contents = disk; failures = count; seats = unused_from 0 buffer_count; sizes = rests.disk.sizes i; group = []; members = replicate hart_count None; phase = Open })
      ∙ sym (ap (part_of contents failures) rests.log)

  none_runs : (h : ℕ) → ◌≡◌ {A = Option (P Reply)} None (program_at running_of (get_or w.calls h None))
  none_runs h = sym (ap (λ (calls : List (Option Running)). program_at running_of (get_or calls h None)) rests.idle ∙ ap (program_at running_of) (nones 8 h))

  no_child : (h : ℕ) → ◌≡◌ {A = Option ℕ} None (children_in w.children h)
  no_child h = sym (ap (λ (children : List (Option ℕ)). children_in children h) rests.children ∙ none_of 8 h)

  -- nothing has happened in it
  pub rests_erased : erase (block_calls (sizes_of disk)) (block_code (sizes_of disk)) (fresh_state (block_calls (sizes_of disk)) first) ≡ calls_of contents failures (sizes_of disk) w
  rests_erased = λ i. record { shared = record { state = record { log = log_same i; tables = sym rests.tables i }; children = λ h. no_child h i }; stopped = sym rests.runs i; running = λ h. none_runs h i }

  pub world_mounted : (s : Super) → s ≡ sizes_of (contents device) → IsWorld contents failures s w
  world_mounted s e =
      let same : s ≡ sizes_of disk = e ∙ sym rests.disk.sizes in
      record {
        disk = disk;
        count = count;
        mountable = mountable;
        sizes_are = same;
        asks = [];
        came = [];
        events =
            subst (λ (z : Super). CameTo (block_calls z) (block_code z) (fresh_state (block_calls z) first) [] [] (calls_of contents failures z w)) (sym same)
            (came_none (block_calls (sizes_of disk)) (block_code (sizes_of disk)) (is_code (sizes_of disk)) (fresh_state (block_calls (sizes_of disk)) first) (calls_of contents failures (sizes_of disk) w) rests_erased);
        sized = subst IsSized (sym same) (sized disk rests.disk.well);
      }
