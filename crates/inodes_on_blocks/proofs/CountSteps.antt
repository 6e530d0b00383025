-- The operations that count references act at their one step.
use Rattle.inodes_on_blocks.proofs.Vocabulary.{◌≡◌, ◌≢◌, inl, inr, ℕ, pos, ◌+◌, ◌-◌, ◌^◌, ◌<◌, ◌==◌, nat_lt, Bool, true, false, Option, Some, None, refl, sym, ◌∙◌, ap, subst, arith, if◌then◌else◌, IsSome, is_some, slice_get, nat_tests, none-some, Dinode, Node, put, hart_count, root, same_or, and_true, eq_is, eq_not, put_same, put_other, sum_part, HoldsAt, IsRecord, ExecResult, Waits, Ran, Stops, exec_result_in, Laws, Both, TablesState, references_of, up_inode, up_directory, directory_of, dead_of, DroppedState, Counts, Stays, Dies, drop_inode, drop_walked, Number, Walked, UpStart, Up, WalkDown, Down, counted_up, has_place, up_if, start_if, counted_down, reserved, is_last, walk_down_if, down_if, Inv, put_elim, ours_none, ours_some, two_refs, opens_slots, Numbered, found_number, start_is_number, loaded, BothCame, MayDie, load_after, World, log_of, tables_of, disk_of, inode_in, Shows, Had, Carry, IsLoaded, Base, Labels, labelled, Keeps, IsOpened, up_start, walk_down, down, is_listed, is_dying, had_of, with_dying, ActsOnceAt, Loaded, IsIndexOf, Super, version_in}
use Rattle.fs_machine.specs.Inodes.{is_positive}
use Rattle.fs_machine.specs.Steps as steps
use Rattle.fs_machine.specs.Steps.{Directory, Held}
use Rattle.fs_machine.specs.Premises as premises
use Rattle.inode_machine.specs.World as above
use Rattle.inode_machine.specs.Exec as above_exec
use Rattle.inode_machine.specs.Rules as rules
use Rattle.inodes_on_blocks.specs.ShownTables as tables
use Rattle.inodes_on_blocks.proofs.Basics.{by_place, directories_are_starts, unkept_old, tables_left, Came, CameTo, one_step, with_tables, unlocked_holds, shows_then, base_then, fewer_owed, open_alike, indexed_less}
use Rattle.inodes_on_blocks.proofs.Drops.{walks_drop_references, references_are_dropped}
use Rattle.inodes_on_blocks.specs.Handlers.{up}
use Rattle.inodes_on_blocks.proofs.SlotSteps.{in_tables_is, came_quiet, all_same}

module _ (sizes : Super) (l : Labels) (laws : Laws (labelled sizes.version l)) (keeps : Keeps l) (h : ℕ) (lt : h < hart_count) where
  abbrev W : Type 0
  W = Both World above.World

  -- an inode's number fits its word
  in_word : (n : ℕ) (v : W) → Shows v.real v.seen → n < v.seen.all.ninodes → n < 2 ^ 32
  in_word n v shows below = let a = shows.size in let b = shows.blocks.seen.good.many_inodes in omega (arith, a, b, below)

  -- ---- up

  counted_came : (op : above.Op) (n : ℕ) (v : W) (c : Carry) (b : above.Answer op) (t : TablesState) → Shows v.real v.seen → Base h v.real v.seen c → (v.seen.desks h).lender ≡ None → Numbered n v.seen
      → above_exec.exec sizes.version h above.Room op v.seen ≡ Ran b (counted_up h n v.seen) → tables.Shows t (counted_up h n v.seen) (loaded (tables_of v.real)) → Came sizes l laws keeps h op v b (with_tables v.real t) c
  counted_came op n v c b t shows base free range ran after = record {
    then_ = counted_up h n v.seen;
    ran = ran;
    free = free;
    shows = shows_then h lt v.real v.seen shows t (counted_up h n v.seen) (loaded (tables_of v.real)) after refl refl (λ j. refl) (λ i. inl refl)
        (λ i k e. let is = shows.news i k e in (is.unlocked, is.kept, is.unloaded))
        (record {
          seen = shows.loads.seen;
          dead = λ i some unlocked loose dead. elim (same_or i n) [
            | inl q ↦ elim (same_or (v.seen.refs n) 0) [
              | inl z ↦ absurd (let e : false ≡ true = sym (range.live z) ∙ ap (λ (k : ℕ). above_exec.is_dead (v.seen.disk k)) (sym q) ∙ dead in cc)
              | inr z ↦ shows.loads.dead i (subst (λ (k : ℕ). 0 < v.seen.refs k) (sym q) (omega (arith, z))) unlocked loose dead
            ]
            | inr ne ↦ shows.loads.dead i (subst (λ (k : ℕ). 0 < k) (put_other v.seen.refs n (v.seen.refs n + 1) i ne) some) unlocked loose dead
          ];
          typed = shows.loads.typed;
          indexed = shows.loads.indexed;
        }) shows.offsets;
    same = tables_left h v.real t v.seen (counted_up h n v.seen) (loaded (tables_of v.real)) (loaded (tables_of v.real)) shows.tables after (λ i. inl refl);
    base = base_then h lt v.real v.seen shows c c t (counted_up h n v.seen) (loaded (tables_of v.real)) base after free
        (λ i e. inl (e, (base.inodes i (sym (shows.tables.places.holders i) ∙ e)).keeps, refl, refl, open_alike h i v.seen (counted_up h n v.seen) refl refl));
  }

  up_to : (op : above.Op) (n : ℕ) (v : W) (c : Carry) (answer : Option ℕ → above.Answer op) (yes_ no_ : above.Answer op) → answer (Some n) ≡ yes_ → answer None ≡ no_ → Shows v.real v.seen → Base h v.real v.seen c → (v.seen.desks h).lender ≡ None → Numbered n v.seen
      → (has_place v.seen n ≡ true → above_exec.exec sizes.version h above.Room op v.seen ≡ Ran yes_ (counted_up h n v.seen)) → (has_place v.seen n ≡ false → above_exec.exec sizes.version h above.Room op v.seen ≡ Ran no_ v.seen)
      → CameTo sizes l laws keeps h op v ⊥ (exec_result_in (with_tables v.real) (up_inode n (tables_of v.real))) answer (λ a. c)
  up_to op n v c answer yes_ no_ is_yes is_no shows base free range goes stays =
      by_place h n (tables_of v.real) v.seen (loaded (tables_of v.real)) shows.tables range.low range.size _
      (λ t ran there after.
      subst (λ (d : ExecResult (Option ℕ) TablesState). CameTo sizes l laws keeps h op v ⊥ (exec_result_in (with_tables v.real) d) answer (λ a. c)) (sym ran)
      (counted_came op n v c (answer (Some n)) t shows base free range (goes there ∙ ap (λ (b : above.Answer op). Ran b (counted_up h n v.seen)) (sym is_yes)) after))
      (λ ran there.
      subst (λ (d : ExecResult (Option ℕ) TablesState). CameTo sizes l laws keeps h op v ⊥ (exec_result_in (with_tables v.real) d) answer (λ a. c)) (sym ran)
      (came_quiet sizes l laws keeps h lt op v (answer None) (tables_of v.real) v.seen c shows base free (stays there ∙ ap (λ (b : above.Answer op). Ran b v.seen) (sym is_no)) shows.tables (all_same h v.seen)))

  pub up_acts : (n : ℕ) (m : Bool → Option above.Mark) → ActsOnceAt sizes l h (Up n) m (up n)
  unfolding steps.exec premises.May premises.MayWait
  up_acts n m =
      one_step sizes l laws keeps h (Up n) m (λ c. steps.Up (Number n)) (λ c. is_some) (λ c a. c) (λ v. tt)
      (λ v c shows inv base may.
      let range = found_number h n v.seen inv may.1 in (
        (in_word n v shows range.size, subst (λ (k : ℕ). k + 1 < 2 ^ 32) (shows.tables.places.counts n) range.room),
        λ x t.
            subst (λ (d : ExecResult (Option ℕ) World). CameTo sizes l laws keeps h (Up n) v ⊥ d is_some (λ a. c)) (sym (in_tables_is h (steps.Up (Number n)) v.real (λ a o. refl) (λ s. refl) (λ a l. refl) (up_inode n (tables_of v.real))))
            (up_to (Up n) n v c is_some true false refl refl shows base may.0 range (λ e. ap (up_if h n v.seen) e) (λ e. ap (up_if h n v.seen) e)),
      ))

  -- there is room for one reference more to the hart's directory
  pub may_up_directory : (v : W) → Shows v.real v.seen → Inv v.seen → premises.MayUp (directory_of (slice_get (tables_of v.real).desks h)) (tables_of v.real)
  may_up_directory v shows inv =
      let range = start_is_number h false v.seen lt inv in
      let d = shows.tables.desks h lt in
      let is : directory_of (slice_get (tables_of v.real).desks h) ≡ (v.seen.desks h).directory = ap directory_of d.1 ∙ d.2.directory in (
        subst (λ (k : ℕ). k < 2 ^ 32) (sym is) (in_word (v.seen.desks h).directory v shows range.size),
        subst (λ (k : ℕ). references_of k (tables_of v.real) + 1 < 2 ^ 32) (sym is) (subst (λ (k : ℕ). k + 1 < 2 ^ 32) (shows.tables.places.counts (v.seen.desks h).directory) range.room),
      )

  pub up_start_acts : (absolute : Bool) (m : Option ℕ → Option above.Mark) → ActsOnceAt sizes l h (UpStart absolute) m (up_start absolute)
  unfolding steps.exec premises.May premises.MayWait
  up_start_acts true m =
      one_step sizes l laws keeps h (UpStart true) m (λ c. steps.Up (Number root)) (λ c a. a) (λ c a. c) (λ v. tt)
      (λ v c shows inv base may.
      let range = start_is_number h true v.seen lt inv in (
        (in_word root v shows range.size, subst (λ (k : ℕ). k + 1 < 2 ^ 32) (shows.tables.places.counts root) range.room),
        λ x t.
            subst (λ (d : ExecResult (Option ℕ) World). CameTo sizes l laws keeps h (UpStart true) v ⊥ d (λ a. a) (λ a. c)) (sym (in_tables_is h (steps.Up (Number root)) v.real (λ a o. refl) (λ s. refl) (λ a l. refl) (up_inode root (tables_of v.real))))
            (up_to (UpStart true) root v c (λ a. a) (Some root) None refl refl shows base may.0 range (λ e. ap (start_if h root v.seen) e) (λ e. ap (start_if h root v.seen) e)),
      ))
  up_start_acts false m =
      one_step sizes l laws keeps h (UpStart false) m (λ c. steps.Up Directory) (λ c a. a) (λ c a. c) (λ v. tt)
      (λ v c shows inv base may.
      let range = start_is_number h false v.seen lt inv in (
        (lt, may_up_directory v shows inv),
        λ x t.
            subst (λ (d : ExecResult (Option ℕ) World). CameTo sizes l laws keeps h (UpStart false) v ⊥ d (λ a. a) (λ a. c))
            (sym (in_tables_is h (steps.Up Directory) v.real (λ a o. refl) (λ s. refl) (λ a l. refl) (up_directory h (tables_of v.real)) ∙ ap (exec_result_in (with_tables v.real)) (directories_are_starts h (tables_of v.real) v.seen (loaded (tables_of v.real)) shows.tables lt)))
            (up_to (UpStart false) (v.seen.desks h).directory v c (λ a. a) (Some (v.seen.desks h).directory) None refl refl shows base may.0 range (λ e. ap (start_if h (v.seen.desks h).directory v.seen) e) (λ e. ap (start_if h (v.seen.desks h).directory v.seen) e)),
      ))

  -- ---- down

  refers : (n : ℕ) (w : above.World) → Inv w → 0 < (w.harts h).refs n → 0 < w.refs n
  refers n w inv some = let c = inv.counts n in let p = sum_part hart_count h (λ g. (w.harts g).refs n) lt in omega (arith, c, p, some)

  -- nobody has the lock if the reference is the last one
  pub last_free : (n : ℕ) (w : above.World) → Inv w → 0 < (w.harts h).refs n → w.lock n ≢ Some h → w.refs n ≡ 1 → w.lock n ≡ None
  last_free n w inv some not_mine one = by (w.lock n) refl
    where
      by : (o : Option ℕ) → w.lock n ≡ o → w.lock n ≡ None
      by None e = e
      by (Some g) e =
          let kept = inv.kept n g (inv.keeps n g e) in
          let ne : g ≢ h = λ q. not_mine (e ∙ ap (λ (z : ℕ). Some z) q) in
          absurd (elim kept.1 [
            | inl o ↦ (let a = opens_slots w g n inv o in let c = inv.counts n in let p = sum_part hart_count h (λ j. (w.harts j).refs n) lt in omega (arith, a, c, p, some, one))
            | inr p ↦ (let two = two_refs w g h n inv kept.0 lt ne in omega (arith, two, p, some, one))
          ])

  -- nobody keeps it then
  pub last_loose : (n : ℕ) (w : above.World) → Inv w → 0 < (w.harts h).refs n → w.keeper n ≢ Some h → w.refs n ≡ 1 → w.keeper n ≡ None
  last_loose n w inv some not_mine one = by (w.keeper n) refl
    where
      by : (o : Option ℕ) → w.keeper n ≡ o → w.keeper n ≡ None
      by None e = e
      by (Some g) e =
          let kept = inv.kept n g e in
          let ne : g ≢ h = λ q. not_mine (e ∙ ap (λ (z : ℕ). Some z) q) in
          absurd (elim kept.1 [
            | inl o ↦ (let a = opens_slots w g n inv o in let c = inv.counts n in let p = sum_part hart_count h (λ j. (w.harts j).refs n) lt in omega (arith, a, c, p, some, one))
            | inr p ↦ (let two = two_refs w g h n inv kept.0 lt ne in omega (arith, two, p, some, one))
          ])

  count_is : (k : ℕ) (d : Loaded) → is_some (if nat_lt 0 k then None else Some d) ≡ (k == 0)
  count_is k d = elim (same_or k 0) [
    | inl e ↦ subst (λ (z : ℕ). is_some (if nat_lt 0 z then None else Some d) ≡ (z == 0)) (sym e) refl
    | inr ne ↦ ap (λ (b : Bool). is_some (if b then None else Some d)) (positive k ne) ∙ sym (eq_not k 0 ne)
  ]
    where
      positive : (k : ℕ) → k ≢ 0 → nat_lt 0 k ≡ true
      positive k ne = grind (arith, nat_tests)

  dies_alike : (n : ℕ) (v : W) → Shows v.real v.seen → v.real.new n ≡ None → 0 < v.seen.refs n → v.seen.lock n ≡ None → (above_exec.is_dead (v.seen.disk n) ≡ true → v.seen.keeper n ≡ None) → is_some (dead_of (loaded (tables_of v.real) n)) ≡ above_exec.is_dead (v.seen.disk n)
  dies_alike n v shows old some free loose = by (loaded (tables_of v.real) n) refl (v.seen.disk n) refl (unlocked_holds h lt v.real v.seen shows n free old (shows.tables.range n some).0 (shows.tables.range n some).1).inode
    where
      by : (o : Option Loaded) → loaded (tables_of v.real) n ≡ o → (x : Option Node) → v.seen.disk n ≡ x → IsRecord (version_in (disk_of (log_of v.real))) (inode_in (log_of v.real) n) (v.seen.disk n) → is_some (dead_of o) ≡ above_exec.is_dead x
      by None e x q r = alive (above_exec.is_dead x) refl
        where
          alive : (b : Bool) → above_exec.is_dead x ≡ b → false ≡ above_exec.is_dead x
          alive false z = sym z
          alive true z = absurd (let s : IsSome {T = Loaded} None = subst IsSome e (shows.loads.dead n some free (loose (ap above_exec.is_dead q ∙ z)) (ap above_exec.is_dead q ∙ z)) in cc s)
      by (Some d) e None q r = absurd (none-some d (sym (shows.loads.typed n q) ∙ e))
      by (Some d) e (Some x) q r =
          let in_ : IsRecord (version_in (disk_of (log_of v.real))) (inode_in (log_of v.real) n) (Some x) = subst (IsRecord (version_in (disk_of (log_of v.real))) (inode_in (log_of v.real) n)) q r in
          let link : d.inode.nlink ≡ pos x.count = ap (λ (y : Dinode). y.nlink) (shows.loads.seen n d e) ∙ in_.count in
          (λ z. is_some (if is_positive (link z) then None else Some d)) ∙ count_is x.count d

  pub some_here : (n : ℕ) (w : above.World) → rules.Spares h n w → 0 < (w.harts h).refs n
  some_here n w spares = omega (arith, spares)

  pub may_die : (n : ℕ) (v : W) → Shows v.real v.seen → Inv v.seen → (v.seen.refs n ≡ 1 → v.real.new n ≡ None) → rules.Spares h n v.seen × (v.seen.lock n ≢ Some h) → (v.seen.refs n ≡ 1 → above_exec.is_dead (v.seen.disk n) ≡ true → v.seen.keeper n ≡ None) → MayDie n v.seen (loaded (tables_of v.real))
  may_die n v shows inv old may loose =
      let mine = some_here n v.seen may.0 in
      let some = refers n v.seen inv mine in
      record { some = some; free = last_free n v.seen inv mine may.1; alike = λ one. dies_alike n v shows (old one) some (last_free n v.seen inv mine may.1 one) (loose one) }

  pub counted_down_came : (op : above.Op) (n : ℕ) (v : W) (c : Carry) (b : above.Answer op) (t : TablesState) → Shows v.real v.seen → Base h v.real v.seen c → (v.seen.desks h).lender ≡ None → v.seen.lock n ≢ Some h → (v.seen.alone n ≡ true → above_exec.is_dead (v.seen.disk n) ≡ false) → (v.seen.alone n ≡ true → v.real.new n ≡ None)
      → above_exec.exec sizes.version h above.Room op v.seen ≡ Ran b (counted_down h n v.seen) → tables.Shows t (counted_down h n v.seen) (load_after n (v.seen.refs n) (loaded (tables_of v.real)) Counts) → Came sizes l laws keeps h op v b (with_tables v.real t) c
  counted_down_came op n v c b t shows base free not_mine lone old ran after = record {
    then_ = counted_down h n v.seen;
    ran = ran;
    free = free;
    shows = shows_then h lt v.real v.seen shows t (counted_down h n v.seen) (left (v.seen.refs n == 1)) after refl refl (λ j. refl) (λ i. inl refl)
        (λ i k e. ((shows.news i k e).unlocked, kept_new (v.seen.alone n) refl i k e, unloaded_left (v.seen.refs n == 1) i (shows.news i k e).unloaded))
        (record {
          seen = λ i d e. seen (v.seen.refs n == 1) i d e;
          dead = λ i some unlocked loose dead. elim (same_or i n) [
            | inl q ↦
                let more : 0 < v.seen.refs n - 1 = subst (λ (z : ℕ). 0 < z) (ap (put v.seen.refs n (v.seen.refs n - 1)) q ∙ put_same v.seen.refs n (v.seen.refs n - 1)) some in
                subst (λ (b : Bool). IsSome (left b i)) (sym (eq_not (v.seen.refs n) 1 (λ one. absurd (omega (arith, more, one))))) (shows.loads.dead i (subst (λ (z : ℕ). 0 < v.seen.refs z) (sym q) (omega (arith, more))) unlocked (still (v.seen.alone n) refl i q loose dead) dead)
            | inr ne ↦ subst IsSome (sym (other (v.seen.refs n == 1) i ne)) (shows.loads.dead i (subst (λ (z : ℕ). 0 < z) (put_other v.seen.refs n (v.seen.refs n - 1) i ne) some) unlocked (sym (keeper (v.seen.alone n) i ne) ∙ loose) dead)
          ];
          typed = λ i e. typed (v.seen.refs n == 1) i e;
          indexed = λ i d e. indexed (v.seen.refs n == 1) i d e;
        }) shows.offsets;
    same = tables_left h v.real t v.seen (counted_down h n v.seen) load (left (v.seen.refs n == 1)) shows.tables after (λ i. inl refl);
    base = base_then h lt v.real v.seen shows c c t (counted_down h n v.seen) (left (v.seen.refs n == 1)) base after free
        (λ i e. inl (e, keeper (v.seen.alone n) i (λ q. not_mine (ap v.seen.lock (sym q) ∙ e)) ∙ (base.inodes i (sym (shows.tables.places.holders i) ∙ e)).keeps, refl, refl, open_alike h i v.seen (counted_down h n v.seen) refl refl));
  }
    where
      load : ℕ → Option Loaded
      load = loaded (tables_of v.real)

      left : Bool → ℕ → Option Loaded
      left b = if b then put load n None else load

      keeper : (b : Bool) (i : ℕ) → i ≢ n → (if b then put v.seen.keeper n None else v.seen.keeper) i ≡ v.seen.keeper i
      keeper true i ne = put_other v.seen.keeper n None i ne
      keeper false i ne = refl

      -- an inode that isn't loaded stays so
      unloaded_left : (b : Bool) (i : ℕ) → load i ≡ None → left b i ≡ None
      unloaded_left false i none = none
      unloaded_left true i none = elim (same_or i n) [ inl q ↦ ap (put load n None) q ∙ put_same load n None | inr ne ↦ put_other load n None i ne ∙ none ]

      -- nor is it new
      kept_new : (b : Bool) → v.seen.alone n ≡ b → (i k : ℕ) → v.real.new i ≡ Some k → (if b then put v.seen.keeper n None else v.seen.keeper) i ≡ Some k
      kept_new true e i k is = elim (same_or i n) [
        | inl q ↦ absurd (none-some k (sym (old e) ∙ ap v.real.new (sym q) ∙ is))
        | inr ne ↦ put_other v.seen.keeper n None i ne ∙ (shows.news i k is).kept
      ]
      kept_new false e i k is = (shows.news i k is).kept

      -- what was kept alone isn't dead
      still : (b : Bool) → v.seen.alone n ≡ b → (i : ℕ) → i ≡ n → (if b then put v.seen.keeper n None else v.seen.keeper) i ≡ None → above_exec.is_dead (v.seen.disk i) ≡ true → v.seen.keeper i ≡ None
      still true e i q loose dead = absurd (let z : false ≡ true = sym (lone e) ∙ ap (λ (k : ℕ). above_exec.is_dead (v.seen.disk k)) (sym q) ∙ dead in cc z)
      still false e i q loose dead = loose

      other : (b : Bool) (i : ℕ) → i ≢ n → left b i ≡ load i
      other true i ne = put_other load n None i ne
      other false i ne = refl

      seen : (b : Bool) (i : ℕ) (d : Loaded) → left b i ≡ Some d → d.inode ≡ inode_in (log_of v.real) i
      seen false i d e = shows.loads.seen i d e
      seen true i d e = elim (same_or i n) [
        | inl q ↦ absurd (none-some d (sym (ap (put load n None) q ∙ put_same load n None) ∙ e))
        | inr ne ↦ shows.loads.seen i d (sym (put_other load n None i ne) ∙ e)
      ]

      typed : (b : Bool) (i : ℕ) → v.seen.disk i ≡ None → left b i ≡ None
      typed false i e = shows.loads.typed i e
      typed true i e = elim (same_or i n) [ inl q ↦ ap (put load n None) q ∙ put_same load n None | inr ne ↦ put_other load n None i ne ∙ shows.loads.typed i e ]

      indexed : (b : Bool) (i : ℕ) (d : Loaded) → left b i ≡ Some d → IsIndexOf (log_of v.real).sizes.version d.index (v.seen.disk i)
      indexed false i d e = shows.loads.indexed i d e
      indexed true i d e = indexed_less (log_of v.real).sizes.version load n v.seen.disk shows.loads.indexed i d e

  -- it stays, for the hart to free
  reserved_came : (op : above.Op) (n : ℕ) (v : W) (c : Carry) (b : above.Answer op) (t : TablesState) → Shows v.real v.seen → Base h v.real v.seen c → (v.seen.desks h).lender ≡ None → v.real.new n ≡ None
      → above_exec.exec sizes.version h above.Room op v.seen ≡ Ran b (reserved h n v.seen) → tables.Shows t (reserved h n v.seen) (loaded (tables_of v.real)) → Came sizes l laws keeps h op v b (with_tables v.real t) c
  reserved_came op n v c b t shows base free old ran after = record {
    then_ = reserved h n v.seen;
    ran = ran;
    free = free;
    shows = shows_then h lt v.real v.seen shows t (reserved h n v.seen) (loaded (tables_of v.real)) after refl refl (λ j. refl) (λ i. inl refl)
        (λ i k e. ((shows.news i k e).unlocked, put_elim v.seen.keeper n (Some h) i (λ (z : Option ℕ). z ≡ Some k) (λ q. absurd (none-some k (sym old ∙ ap v.real.new (sym q) ∙ e))) (λ ne. (shows.news i k e).kept), (shows.news i k e).unloaded))
        (record { seen = shows.loads.seen; dead = λ i some unlocked loose dead. shows.loads.dead i some unlocked (was_loose i loose) dead; typed = shows.loads.typed; indexed = shows.loads.indexed }) shows.offsets;
    same = tables_left h v.real t v.seen (reserved h n v.seen) (loaded (tables_of v.real)) (loaded (tables_of v.real)) shows.tables after (λ i. inl refl);
    base = base_then h lt v.real v.seen shows c c t (reserved h n v.seen) (loaded (tables_of v.real)) base after free
        (λ i e. inl (e, put_elim v.seen.keeper n (Some h) i (λ (z : Option ℕ). z ≡ Some h) (λ q. refl) (λ ne. (base.inodes i (sym (shows.tables.places.holders i) ∙ e)).keeps), refl, refl, open_alike h i v.seen (reserved h n v.seen) refl refl));
  }
    where
      was_loose : (i : ℕ) → put v.seen.keeper n (Some h) i ≡ None → v.seen.keeper i ≡ None
      was_loose i = put_elim v.seen.keeper n (Some h) i (λ (z : Option ℕ). z ≡ None → v.seen.keeper i ≡ None) (λ q e. absurd (none-some h (sym e))) (λ ne e. e)

  -- its lock is taken, to free it
  dying_came : (op : above.Op) (n : ℕ) (v : W) (c : Carry) (b : above.Answer op) (t : TablesState) → Shows v.real v.seen → Base h v.real v.seen c → (v.seen.desks h).lender ≡ None → 0 < v.seen.refs n → v.seen.lock n ≡ None → v.seen.keeper n ≡ None → above_exec.is_dead (v.seen.disk n) ≡ true
      → above_exec.exec sizes.version h above.Room op v.seen ≡ Ran b (record (reserved h n v.seen) { lock = put v.seen.lock n (Some h) }) → tables.Shows t (record (reserved h n v.seen) { lock = put v.seen.lock n (Some h) }) (put (loaded (tables_of v.real)) n None)
      → Came sizes l laws keeps h op v b (with_tables v.real t) (put c n (had_of (loaded (tables_of v.real) n)))
  dying_came op n v c b t shows base free some unlocked unkept dead ran after = record {
    then_ = record (reserved h n v.seen) { lock = put v.seen.lock n (Some h) };
    ran = ran;
    free = free;
    shows = shows_then h lt v.real v.seen shows t (record (reserved h n v.seen) { lock = put v.seen.lock n (Some h) }) (put load n None) after refl refl (λ j. refl)
        (λ i. elim (same_or i n) [
          | inl q ↦ inr (inl (ap v.seen.lock q ∙ unlocked, ap (put v.seen.lock n (Some h)) q ∙ put_same v.seen.lock n (Some h)))
          | inr ne ↦ inl (put_other v.seen.lock n (Some h) i ne)
        ])
        (λ i k e. elim (same_or i n) [
          | inl q ↦ absurd (none-some k (sym (unkept_old v.real v.seen shows n unkept) ∙ ap v.real.new (sym q) ∙ e))
          | inr ne ↦ (put_other v.seen.lock n (Some h) i ne ∙ (shows.news i k e).unlocked, put_other v.seen.keeper n (Some h) i ne ∙ (shows.news i k e).kept, put_other load n None i ne ∙ (shows.news i k e).unloaded)
        ])
        (record {
          seen = λ i d e. elim (same_or i n) [
            | inl q ↦ absurd (none-some d (sym (ap (put load n None) q ∙ put_same load n None) ∙ e))
            | inr ne ↦ shows.loads.seen i d (sym (put_other load n None i ne) ∙ e)
          ];
          dead = λ i more loose lax gone. elim (same_or i n) [
            | inl q ↦ absurd (none-some h (sym loose ∙ ap (put v.seen.lock n (Some h)) q ∙ put_same v.seen.lock n (Some h)))
            | inr ne ↦ subst IsSome (sym (put_other load n None i ne)) (shows.loads.dead i more (sym (put_other v.seen.lock n (Some h) i ne) ∙ loose) (sym (put_other v.seen.keeper n (Some h) i ne) ∙ lax) gone)
          ];
          typed = λ i e. elim (same_or i n) [ inl q ↦ ap (put load n None) q ∙ put_same load n None | inr ne ↦ put_other load n None i ne ∙ shows.loads.typed i e ];
          indexed = indexed_less (log_of v.real).sizes.version load n v.seen.disk shows.loads.indexed;
        }) shows.offsets;
    same = tables_left h v.real t v.seen (record (reserved h n v.seen) { lock = put v.seen.lock n (Some h) }) load (put load n None) shows.tables after
        (λ i. elim (same_or i n) [
          | inl q ↦ inr (ours_none h (v.seen.lock i) (ap v.seen.lock q ∙ unlocked), ours_some h (put v.seen.lock n (Some h) i) (ap (put v.seen.lock n (Some h)) q ∙ put_same v.seen.lock n (Some h)))
          | inr ne ↦ inl (put_other v.seen.lock n (Some h) i ne)
        ]);
    base = base_then h lt v.real v.seen shows c (put c n (had_of (load n))) t (record (reserved h n v.seen) { lock = put v.seen.lock n (Some h) }) (put load n None) base after free
        (λ i e. elim (same_or i n) [
          | inl q ↦ inr (record {
            keeps = ap (put v.seen.keeper n (Some h)) q ∙ put_same v.seen.keeper n (Some h);
            loaded_is = subst (λ (z : ℕ). IsLoaded (log_of v.real).sizes.version (put c n (had_of (load n)) z) (v.seen.disk z) (inode_in (log_of v.real) z)) (sym q) (subst (λ (o : Had). IsLoaded (log_of v.real).sizes.version o (v.seen.disk n) (inode_in (log_of v.real) n)) (sym (put_same c n (had_of (load n)))) (is_loaded (load n) refl));
            holds = subst (λ (z : ℕ). HoldsAt (disk_of (log_of v.real)) v.real.owner z (v.seen.disk z)) (sym q) (unlocked_holds h lt v.real v.seen shows n unlocked (unkept_old v.real v.seen shows n unkept) (shows.tables.range n some).0 (shows.tables.range n some).1);
            opened = subst (λ (z : ℕ). IsOpened h z (put c n (had_of (load n)) z) (record (reserved h n v.seen) { lock = put v.seen.lock n (Some h) })) (sym q) (subst (λ (o : Had). IsOpened h n o (record (reserved h n v.seen) { lock = put v.seen.lock n (Some h) })) (sym (put_same c n (had_of (load n)))) (nothing_open (load n)));
          })
          | inr ne ↦
              let was : v.seen.lock i ≡ Some h = sym (put_other v.seen.lock n (Some h) i ne) ∙ e in
              inl (was, put_other v.seen.keeper n (Some h) i ne ∙ (base.inodes i (sym (shows.tables.places.holders i) ∙ was)).keeps, refl, put_other c n (had_of (load n)) i ne, open_alike h i v.seen (record (reserved h n v.seen) { lock = put v.seen.lock n (Some h) }) refl refl)
        ]);
  }
    where
      load : ℕ → Option Loaded
      load = loaded (tables_of v.real)

      nothing_open : (o : Option Loaded) → IsOpened h n (had_of o) (record (reserved h n v.seen) { lock = put v.seen.lock n (Some h) })
      nothing_open None = tt
      nothing_open (Some d) = tt

      is_loaded : (o : Option Loaded) → load n ≡ o → IsLoaded (log_of v.real).sizes.version (had_of o) (v.seen.disk n) (inode_in (log_of v.real) n)
      is_loaded None e = absurd (let s : IsSome {T = Loaded} None = subst IsSome e (shows.loads.dead n some unlocked unkept dead) in cc s)
      is_loaded (Some d) e = (shows.loads.seen n d e, (λ z. none-some d (sym (shows.loads.typed n z) ∙ e)), tt, shows.loads.indexed n d e)

  last_is : (n : ℕ) (w : above.World) → is_last w n ≡ true → (w.refs n ≡ 1) × (above_exec.is_dead (w.disk n) ≡ true)
  last_is n w e = let both = and_true (w.refs n == 1) (above_exec.is_dead (w.disk n)) e in (eq_is (w.refs n) 1 both.0, both.1)

  -- what it doesn't keep no hart keeps alone
  unlone : {A : Type 0} (n : ℕ) (v : W) → Inv v.seen → 0 < (v.seen.harts h).refs n → v.seen.keeper n ≢ Some h → v.seen.alone n ≡ true → A
  unlone n v inv some not_kept lone =
      let a = inv.alone n lone in
      elim (same_or a.hart h) [
        | inl q ↦ absurd (not_kept (a.kept ∙ ap (λ (z : ℕ). Some z) q))
        | inr ne ↦ absurd (let two = two_refs v.seen a.hart h n inv (inv.kept n a.hart a.kept).0 lt ne in let c = a.counts in omega (arith, two, c, some))
      ]

  -- what it doesn't keep it hasn't locked
  unheld : (n : ℕ) (v : W) → Inv v.seen → v.seen.keeper n ≢ Some h → v.seen.lock n ≢ Some h
  unheld n v inv not_kept e = not_kept (inv.keeps n h e)

  pub walk_down_acts : (n : ℕ) (m : Bool → Option above.Mark) → ActsOnceAt sizes l h (WalkDown n) m (walk_down n)
  unfolding steps.exec premises.May premises.MayWait
  walk_down_acts n m =
      one_step sizes l laws keeps h (WalkDown n) m (λ c. steps.Down (Walked n)) (λ c. is_listed) (λ c a. c) (λ v. tt)
      (λ v c shows inv base may. (
        (fewer_owed n (tables_of v.real) v.seen (loaded (tables_of v.real)) shows.tables inv h lt may.1.0, λ one. sym (shows.tables.places.holders n) ∙ last_free n v.seen inv (some_here n v.seen may.1.0) (unheld n v inv may.1.1) (shows.tables.places.counts n ∙ one)),
        λ x t.
            subst (λ (d : ExecResult DroppedState World). CameTo sizes l laws keeps h (WalkDown n) v ⊥ d is_listed (λ a. c)) (sym (in_tables_is h (steps.Down (Walked n)) v.real (λ a o. refl) (λ s. refl) (λ a l. refl) (drop_walked n (tables_of v.real))))
            (by v c shows base may.0 (unheld n v inv may.1.1) (unlone n v inv (some_here n v.seen may.1.0) may.1.1) (unlone n v inv (some_here n v.seen may.1.0) may.1.1) (λ one. unkept_old v.real v.seen shows n (last_loose n v.seen inv (some_here n v.seen may.1.0) may.1.1 one)) (is_last v.seen n) refl (drop_walked n (tables_of v.real)) (walks_drop_references sizes.version h n (tables_of v.real) v.seen (loaded (tables_of v.real)) shows.tables (may_die n v shows inv (λ one. unkept_old v.real v.seen shows n (last_loose n v.seen inv (some_here n v.seen may.1.0) may.1.1 one)) (may.1.0, unheld n v inv may.1.1) (λ one _. last_loose n v.seen inv (some_here n v.seen may.1.0) may.1.1 one)))),
      ))
    where
      by : (v : W) (c : Carry) → Shows v.real v.seen → Base h v.real v.seen c → (v.seen.desks h).lender ≡ None → v.seen.lock n ≢ Some h → (v.seen.alone n ≡ true → above_exec.is_dead (v.seen.disk n) ≡ false) → (v.seen.alone n ≡ true → v.real.new n ≡ None) → (v.seen.refs n ≡ 1 → v.real.new n ≡ None) → (b : Bool) → is_last v.seen n ≡ b → (d : ExecResult DroppedState TablesState)
          → BothCame (λ a last. a ≡ (if last then Stays else Counts)) (load_after n (v.seen.refs n) (loaded (tables_of v.real))) d (walk_down_if h n v.seen (is_last v.seen n)) → CameTo sizes l laws keeps h (WalkDown n) v ⊥ (exec_result_in (with_tables v.real) d) is_listed (λ a. c)
      by v c shows base free not_mine lone lone_old old b e d both = at b e d (subst (λ (z : Bool). BothCame (λ a last. a ≡ (if last then Stays else Counts)) (load_after n (v.seen.refs n) (loaded (tables_of v.real))) d (walk_down_if h n v.seen z)) e both)
        where
          at : (b : Bool) → is_last v.seen n ≡ b → (d : ExecResult DroppedState TablesState) → BothCame (λ a last. a ≡ (if last then Stays else Counts)) (load_after n (v.seen.refs n) (loaded (tables_of v.real))) d (walk_down_if h n v.seen b)
              → CameTo sizes l laws keeps h (WalkDown n) v ⊥ (exec_result_in (with_tables v.real) d) is_listed (λ a. c)
          at true e Waits both = absurd both
          at true e (Stops t) both = absurd both
          at true e (Ran a t) both =
              reserved_came (WalkDown n) n v c (is_listed a) t shows base free (old (last_is n v.seen e).0) (ap (walk_down_if h n v.seen) e ∙ ap (λ (z : DroppedState). Ran (is_listed z) (reserved h n v.seen)) (sym both.0))
              (subst (λ (z : DroppedState). tables.Shows t (reserved h n v.seen) (load_after n (v.seen.refs n) (loaded (tables_of v.real)) z)) both.0 both.1)
          at false e Waits both = absurd both
          at false e (Stops t) both = absurd both
          at false e (Ran a t) both =
              counted_down_came (WalkDown n) n v c (is_listed a) t shows base free not_mine lone lone_old (ap (walk_down_if h n v.seen) e ∙ ap (λ (z : DroppedState). Ran (is_listed z) (counted_down h n v.seen)) (sym both.0))
              (subst (λ (z : DroppedState). tables.Shows t (counted_down h n v.seen) (load_after n (v.seen.refs n) (loaded (tables_of v.real)) z)) both.0 both.1)

  pub down_acts : (n : ℕ) (m : Bool → Option above.Mark) → ActsOnceAt sizes l h (Down n) m (down n)
  unfolding steps.exec premises.May premises.MayWait
  down_acts n m =
      one_step sizes l laws keeps h (Down n) m (λ c. steps.Down (Held n)) (λ c. is_dying) (with_dying n) (λ v. tt)
      (λ v c shows inv base may. (
        (fewer_owed n (tables_of v.real) v.seen (loaded (tables_of v.real)) shows.tables inv h lt may.1.0, λ one. sym (shows.tables.places.holders n) ∙ last_free n v.seen inv (some_here n v.seen may.1.0) (unheld n v inv may.1.1) (shows.tables.places.counts n ∙ one)),
        λ x t.
            subst (λ (d : ExecResult DroppedState World). CameTo sizes l laws keeps h (Down n) v ⊥ d is_dying (with_dying n c)) (sym (in_tables_is h (steps.Down (Held n)) v.real (λ a o. refl) (λ s. refl) (λ a l. refl) (drop_inode h n (tables_of v.real))))
            (by v c shows base may.0 (may_die n v shows inv (λ one. unkept_old v.real v.seen shows n (last_loose n v.seen inv (some_here n v.seen may.1.0) may.1.1 one)) (may.1.0, unheld n v inv may.1.1) (λ one _. last_loose n v.seen inv (some_here n v.seen may.1.0) may.1.1 one)) (λ one. last_loose n v.seen inv (some_here n v.seen may.1.0) may.1.1 one) (unheld n v inv may.1.1) (unlone n v inv (some_here n v.seen may.1.0) may.1.1) (unlone n v inv (some_here n v.seen may.1.0) may.1.1) (is_last v.seen n) refl (drop_inode h n (tables_of v.real)) (references_are_dropped sizes.version h n (tables_of v.real) v.seen (loaded (tables_of v.real)) shows.tables (may_die n v shows inv (λ one. unkept_old v.real v.seen shows n (last_loose n v.seen inv (some_here n v.seen may.1.0) may.1.1 one)) (may.1.0, unheld n v inv may.1.1) (λ one _. last_loose n v.seen inv (some_here n v.seen may.1.0) may.1.1 one)))),
      ))
    where
      by : (v : W) (c : Carry) → Shows v.real v.seen → Base h v.real v.seen c → (v.seen.desks h).lender ≡ None → MayDie n v.seen (loaded (tables_of v.real)) → (v.seen.refs n ≡ 1 → v.seen.keeper n ≡ None) → v.seen.lock n ≢ Some h → (v.seen.alone n ≡ true → above_exec.is_dead (v.seen.disk n) ≡ false) → (v.seen.alone n ≡ true → v.real.new n ≡ None) → (b : Bool) → is_last v.seen n ≡ b → (d : ExecResult DroppedState TablesState)
          → BothCame (λ a last. a ≡ (if last then Dies n (loaded (tables_of v.real) n) else Counts)) (load_after n (v.seen.refs n) (loaded (tables_of v.real))) d (down_if h n v.seen (is_last v.seen n)) → CameTo sizes l laws keeps h (Down n) v ⊥ (exec_result_in (with_tables v.real) d) is_dying (with_dying n c)
      by v c shows base free die unkept not_mine lone lone_old b e d both = at b e d (subst (λ (z : Bool). BothCame (λ a last. a ≡ (if last then Dies n (loaded (tables_of v.real) n) else Counts)) (load_after n (v.seen.refs n) (loaded (tables_of v.real))) d (down_if h n v.seen z)) e both)
        where
          at : (b : Bool) → is_last v.seen n ≡ b → (d : ExecResult DroppedState TablesState) → BothCame (λ a last. a ≡ (if last then Dies n (loaded (tables_of v.real) n) else Counts)) (load_after n (v.seen.refs n) (loaded (tables_of v.real))) d (down_if h n v.seen b)
              → CameTo sizes l laws keeps h (Down n) v ⊥ (exec_result_in (with_tables v.real) d) is_dying (with_dying n c)
          at true e Waits both = absurd both
          at true e (Stops t) both = absurd both
          at true e (Ran a t) both =
              let last = last_is n v.seen e in
              subst (λ (z : DroppedState). Came sizes l laws keeps h (Down n) v (is_dying z) (with_tables v.real t) (with_dying n c z)) (sym both.0)
              (dying_came (Down n) n v c true t shows base free die.some (die.free last.0) (unkept last.0) last.1 (ap (down_if h n v.seen) e)
              (subst (λ (z : DroppedState). tables.Shows t (record (reserved h n v.seen) { lock = put v.seen.lock n (Some h) }) (load_after n (v.seen.refs n) (loaded (tables_of v.real)) z)) both.0 both.1))
          at false e Waits both = absurd both
          at false e (Stops t) both = absurd both
          at false e (Ran a t) both =
              subst (λ (z : DroppedState). Came sizes l laws keeps h (Down n) v (is_dying z) (with_tables v.real t) (with_dying n c z)) (sym both.0)
              (counted_down_came (Down n) n v c false t shows base free not_mine lone lone_old (ap (down_if h n v.seen) e)
              (subst (λ (z : DroppedState). tables.Shows t (counted_down h n v.seen) (load_after n (v.seen.refs n) (loaded (tables_of v.real)) z)) both.0 both.1))
