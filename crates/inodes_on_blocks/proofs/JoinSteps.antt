-- A transaction is joined in one step, which may wait below.
use Rattle.inodes_on_blocks.proofs.Vocabulary.{◌≡◌, inl, inr, ℕ, ◌<◌, Bool, true, false, length, get_or, get_or-set_other, is_some, Option, Some, None, refl, sym, ◌∙◌, ap, subst, if◌then◌else◌, slice_get, slice_set, slice_get-get_or, slice_get-set_other, put, hart_count, same_or, put_same, put_other, joined_count as joined, limit_of, join_waits, Ran, Laws, Both, join_if, IsWholeLog, After, keeps_whole, Desk, Join, LocksNone, loaded, is_joined, Ghost, AreOnBlocks, World, log_of, tables_of, disk_of, came_to, Shows, if_joined, ghost_of, on_blocks, Carry, Base, Labels, labelled, Keeps, join, ActsOnceAt, Super}
use Rattle.std.proofs.lemmas.List.{get_or-set_same}
use Rattle.inode_machine.specs.Rules as rules
use Rattle.fs_machine.specs.Steps as steps
use Rattle.fs_machine.specs.Premises as premises
use Rattle.inode_machine.specs.World as above
use Rattle.inode_machine.specs.Exec as above_exec
use Rattle.inodes_on_blocks.proofs.Basics.{part_same, join_keeps, still_joined, untouched_same, Came, CameTo, one_step}
use Rattle.inodes_on_blocks.proofs.LeaveSteps.{tables_desk}

module _ (sizes : Super) (l : Labels) (laws : Laws (labelled sizes.version l)) (keeps : Keeps l) (h : ℕ) (lt : h < hart_count) where
  abbrev W : Type 0
  W = Both World above.World

  -- the log with the hart in a transaction
  abbrev pub with_member : World → World
  with_member r = record r { state = record (r.state) { log = record (r.state.log) { members = slice_set r.state.log.members h (Some 0) } } }

  within : (v : W) → Shows v.real v.seen → h < length (log_of v.real).members
  within v shows = subst (λ (n : ℕ). h < n) (sym shows.whole.log.eight) lt

  pub alone : (v : W) → Shows v.real v.seen → (v.seen.desks h).joined ≡ false → slice_get (log_of v.real).members h ≡ Some None
  alone v shows out = slice_get-get_or (log_of v.real).members h None (within v shows) ∙ ap (λ (o : Option ℕ). Some o) (none (get_or (log_of v.real).members h None) (sym (shows.members h lt) ∙ out))
    where
      none : (o : Option ℕ) → is_some o ≡ false → o ≡ None
      none None e = refl
      none (Some k) e = absurd (let q : true ≡ false = e in cc)

  joined_shows : (v : W) → Shows v.real v.seen → LocksNone h v.seen → IsWholeLog (log_of (with_member v.real)) → Shows (with_member v.real) (above_exec.with_joined v.seen h true)
  joined_shows v shows none whole = record {
    whole = whole;
    runs = shows.runs;
    size = shows.size;
    tables = tables_desk h (record (v.seen.desks h) { joined = true }) (tables_of v.real) v.seen (loaded (tables_of v.real)) refl refl refl refl refl shows.tables;
    members = λ g lg. elim (same_or g h) [
      | inl q ↦ ap (λ (z : ℕ). (put v.seen.desks h (record (v.seen.desks h) { joined = true }) z).joined) q ∙ ap (λ (d : Desk). d.joined) (put_same v.seen.desks h (record (v.seen.desks h) { joined = true }))
          ∙ sym (ap is_some (get_or-set_same (log_of v.real).members h (Some 0) None (within v shows))) ∙ ap (is_joined (slice_set (log_of v.real).members h (Some 0))) (sym q)
      | inr ne ↦ ap (λ (d : Desk). d.joined) (put_other v.seen.desks h (record (v.seen.desks h) { joined = true }) g ne) ∙ shows.members g lg ∙ sym (ap is_some (get_or-set_other (log_of v.real).members h g (Some 0) None ne))
    ];
    blocks = subst (λ (x : Ghost). AreOnBlocks (log_of v.real).contents (log_of v.real).seats (log_of v.real).sizes (slice_set (log_of v.real).members h (Some 0)) x) (sym ghost)
        (join_keeps (log_of v.real).contents (log_of v.real).seats (log_of v.real).sizes (log_of v.real).members (ghost_of v.real.owner v.real.left (on_blocks v.real.new v.seen.disk) v.seen.lock v.seen.desks) shows.blocks h 0);
    bytes = shows.bytes;
    taken = shows.taken;
    commit = shows.commit;
    news = λ n k e. let is = shows.news n k e in record { low = is.low; bound = is.bound; free = is.free; unlocked = is.unlocked; kept = is.kept; joined = still_joined (log_of v.real).members h 0 k is.joined; unloaded = is.unloaded };
    loads = record { seen = shows.loads.seen; dead = shows.loads.dead; typed = shows.loads.typed; indexed = shows.loads.indexed };
    offsets = shows.offsets;
  }
    where
      change : (o : Option ℕ) → (o ≡ Some h → ⊥) → if_joined (put v.seen.desks h (record (v.seen.desks h) { joined = true })) o ≡ if_joined v.seen.desks o
      change None ne = refl
      change (Some g) ne = ap (λ (d : Desk). if d.joined then Some g else None) (put_other v.seen.desks h (record (v.seen.desks h) { joined = true }) g (λ q. ne (ap (λ (z : ℕ). Some z) q)))

      ghost : ghost_of v.real.owner v.real.left (on_blocks v.real.new v.seen.disk) v.seen.lock (put v.seen.desks h (record (v.seen.desks h) { joined = true })) ≡ ghost_of v.real.owner v.real.left (on_blocks v.real.new v.seen.disk) v.seen.lock v.seen.desks
      ghost = λ z. record { nodes = on_blocks v.real.new v.seen.disk; owner = v.real.owner; left = v.real.left; changing = λ i. change (v.seen.lock i) (none i) z }

  -- an operation that joins, and has this answer
  pub join_came : (op : above.Op) (a : above.Answer op) (v : W) (c : Carry) → above_exec.exec sizes.version h above.Room op v.seen ≡ Ran a (above_exec.with_joined v.seen h true) → Shows v.real v.seen → Base h v.real v.seen c
      → (v.seen.desks h).lender ≡ None → LocksNone h v.seen → IsWholeLog (log_of (with_member v.real)) → Came sizes l laws keeps h op v a (with_member v.real) c
  join_came op a v c ran shows base free none whole = record {
    then_ = above_exec.with_joined v.seen h true;
    ran = ran;
    free = part_same (λ d. d.lender) v.seen.desks h (record (v.seen.desks h) { joined = true }) h refl ∙ free;
    shows = joined_shows v shows none whole;
    same = λ other ne. record {
      inodes = λ i e. record { lock = e; untouched = untouched_same (disk_of (log_of v.real)) v.real.owner i };
      no_more = λ i e. e;
      buffers = λ b. refl;
      held = refl;
      sizes = refl;
      taken = λ b. refl;
      member = slice_get-set_other (log_of v.real).members h other (Some 0) ne;
      group = λ b k m e. e;
      begun = refl;
    };
    base = record {
      free = base.free;
      taken = base.taken;
      through = record { commits = base.through.commits; new = base.through.new };
      inodes = λ i e. absurd (none i (shows.tables.places.holders i ∙ e));
      lent = λ some. absurd (some (part_same (λ d. d.lender) v.seen.desks h (record (v.seen.desks h) { joined = true }) h refl ∙ free));
    };
  }

  pub join_acts : (m : Unit {0} → Option above.Mark) → ActsOnceAt sizes l h Join m join
  unfolding steps.exec premises.May premises.MayWait premises.Honest
  join_acts m =
      one_step sizes l laws keeps h Join m (λ c. steps.Join) (λ c a. a) (λ c a. c) (λ v. tt)
      (λ v c shows inv base may. ((lt, alone v shows may.1.1), λ x t. by v c shows base may (join_waits (log_of v.real).phase (length (log_of v.real).group) (joined (log_of v.real).members) (limit_of (log_of v.real).sizes)) refl (keeps_whole h x steps.Join v.real.state shows.whole (lt, alone v shows may.1.1) tt)))
    where
      by : (v : W) (c : Carry) → Shows v.real v.seen → Base h v.real v.seen c → rules.May sizes.version h Join v.seen → (b : Bool) → join_waits (log_of v.real).phase (length (log_of v.real).group) (joined (log_of v.real).members) (limit_of (log_of v.real).sizes) ≡ b
          → After (λ t. IsWholeLog t.log) (steps.in_log v.real.state (join_if h (log_of v.real) b))
          → CameTo sizes l laws keeps h Join v (join_waits (log_of v.real).phase (length (log_of v.real).group) (joined (log_of v.real).members) (limit_of (log_of v.real).sizes) ≡ true) (came_to h steps.Join v.real (steps.in_log v.real.state (join_if h (log_of v.real) b))) (λ a. a) (λ a. c)
      by v c shows base may true e whole = e
      by v c shows base may false e whole = join_came Join tt v c refl shows base may.0 may.1.0 whole
