-- What a stop leaves, for any list of events.
use Rattle.calls_on_blocks.proofs.Vocabulary.{◌≡◌, inl, ℕ, false, List, [], ◌∷◌, length, refl, sym, subst, ◌∙◌, arith, Super, sizes_of, IsOutsideLog, recovered-empty, Call, Placed, IsNamedPart, tree_of, IsGoodSuper, IsWellFormed, tree_in, IsRecoveredSo, Marks, AgreeOutside, joined, recovered_of, seen_of, no_marks, Theory, Event, State, AllHonest, IsHonest, fresh, next, run, Sound, inv_of, sound_keeps, sound_fresh, sound_run, LogPart, Outside, IsWholeLog, IsMountable, ShowsItsTree, mounts_show_their_trees, first, block_calls, marks_after, marks_next, log_at, SizesStay, StopsLeaveImages}
use Rattle.group_log.specs.CrashLaw.{Blocks}
use Rattle.calls_on_blocks.proofs.Heads.{logs_leave_good_heads}
use Rattle.calls_on_blocks.proofs.History.{first_holds, first_idle}
use Rattle.calls_on_blocks.proofs.Lawful.{lawful}
use Rattle.calls_on_blocks.proofs.Moves.{itself, log_in}
use Rattle.calls_on_blocks.proofs.Events.{event_goes, goes_sizes, next_now}
use Rattle.calls_on_blocks.proofs.Following.{Followed, followed_on}
use Rattle.calls_on_blocks.proofs.Quiet.{quiet_stands}

module _ (disk : List (List ℕ)) (failures : ℕ) (mountable : IsMountable disk) where
  abbrev pub sizes : Super
  sizes = sizes_of disk

  abbrev pub T : Theory
  T = block_calls sizes

  shows : ShowsItsTree disk failures
  shows = mounts_show_their_trees disk failures mountable

  abbrev log : State T → LogPart
  log s = log_at sizes s

  -- the disks that recovery would leave so
  abbrev Stored : (List (List ℕ) → Type 0) → Blocks → Type 0
  Stored P blocks = (d : List (List ℕ)) → length d ≡ length disk → IsRecoveredSo sizes blocks d → P d

  pub stored_respects : (P : List (List ℕ) → Type 0) (a b : Blocks) → AgreeOutside sizes a b → Stored P a → Stored P b
  stored_respects P a b agree stored d long so = stored d long (record { sizes_are = so.sizes_are; good = so.good; blocks = λ k lt out. so.blocks k lt out ∙ agree k out })

  good : IsGoodSuper sizes
  unfolding sizes_of
  good = let up_to_log = mountable.well.0.0.0.0.0.0.0.0.0 in up_to_log.0.0.1.1

  -- of the disk as it is, recovery would make the recovered blocks
  pub itself_stored : (l : LogPart) → IsWholeLog l → l.sizes ≡ sizes → IsRecoveredSo sizes (recovered_of itself (log_in l)) l.contents
  itself_stored l whole same = record {
    sizes_are = whole.log.place.sizes_are ∙ same;
    good = logs_leave_good_heads l.contents l.seats l.sizes l.group l.members l.phase whole.log (subst (λ (z : Super). IsGoodSuper z) (sym same) good);
    blocks = λ b lt out. refl;
  }

  -- if nobody is in a transaction, and the device hasn't failed
  pub quiet_stored : (s : State T) → Sound T s → s.stopped ≡ false → (log s).sizes ≡ sizes → length (log s).contents ≡ length disk → joined (log s).members ≡ 0
      → Stored (λ d. IsWellFormed d × IsNamedPart (T.M.tree s.world).tree (tree_of (tree_in d))) (seen_of itself (log_in (log s)))
  quiet_stored s sound runs same long none d long_d so =
      let inv = inv_of T s.stopped s.world (sound_keeps T (lawful sizes) s sound).holds runs in
      quiet_stands s.world.real.blocks s.world.seen inv.0.0 inv.1 none d (long_d ∙ sym long)
      (record { sizes_are = so.sizes_are ∙ sym same; good = so.good; blocks = λ b lt out. so.blocks b lt (subst (λ (z : Super). IsOutsideLog z b) same out) })

  -- ---- the beginning

  abbrev pub first_state : State T
  first_state = fresh T (first disk failures)

  pub first_sound : Sound T first_state
  first_sound = sound_fresh T (first disk failures) (first_holds disk failures shows) (first_idle disk failures shows)

  -- nothing is recorded: recovery would leave what is seen
  pub first_agrees : AgreeOutside sizes (seen_of itself (log_in (log first_state))) (recovered_of itself (log_in (log first_state)))
  first_agrees b out = recovered-empty disk b mountable.empty ∙ shows.shows.whole.log.blocks.1 b out (λ k low lt. absurd (omega (arith, lt)))

  pub nobody : joined (log first_state).members ≡ 0
  nobody = refl

  pub first_followed : (Image : List Placed → Blocks → Type 0) → ((list : List Placed) (a b : Blocks) → AgreeOutside sizes a b → Image list a → Image list b) → Image [] (seen_of itself (log_in (log first_state)))
      → Followed sizes (length disk) Image first_state [] no_marks
  first_followed Image respects image = record {
    sound = first_sound;
    whole = shows.shows.whole;
    long = refl;
    kept = record {
      same = refl;
      numbers = tt;
      order = omega arith;
      past = omega arith;
      stored = (0, inl refl, respects [] (seen_of itself (log_in (log first_state))) (recovered_of itself (log_in (log first_state))) first_agrees image);
      pending = λ way. absurd cc;
      settled = λ is. refl;
      certain = λ is. refl;
    };
    doubtful = λ k is. absurd cc;
    after = λ k is. absurd cc;
  }

  pub first_image : Stored (λ d. IsWellFormed d × IsNamedPart (T.M.tree first_state.world).tree (tree_of (tree_in d))) (seen_of itself (log_in (log first_state)))
  first_image = quiet_stored first_state first_sound refl refl refl nobody

  -- the sizes and the length stay
  pub next_same : {Image : List Placed → Blocks → Type 0} {list : List Placed} (e : Event Call Outside) (s : State T) (m : Marks) → Followed sizes (length disk) Image s list m → IsHonest T e s
      → ((log (next T e s)).sizes ≡ sizes) × (length (log (next T e s)).contents ≡ length disk)
  next_same e s m f honest = let g = event_goes sizes e s m f.sound f.whole honest in (goes_sizes sizes s (next T e s) m (marks_next sizes e s m) g ∙ f.kept.same, g.long ∙ f.long)

  -- ---- always

  abbrev AnyImage : List Placed → Blocks → Type 0
  AnyImage list blocks = Stored (λ d. IsWellFormed d) blocks

  follow : (events : List (Event Call Outside)) (s : State T) (m : Marks) → Followed sizes (length disk) AnyImage s [] m → AllHonest T events s → Followed sizes (length disk) AnyImage (run T events s) [] (marks_after sizes events s m)
  follow [] s m f honest = f
  follow (e ∷ es) s m f honest =
      let after : Sound T (next T e s) = sound_run T (e ∷ []) s f.sound (honest.0, tt) in
      let quiet : (next T e s).stopped ≡ false → joined (log (next T e s)).members ≡ 0 → AnyImage [] (seen_of itself (log_in (log (next T e s)))) =
      (λ runs none d long so. (quiet_stored (next T e s) after runs (next_same e s m f honest.0).0 (next_same e s m f honest.0).1 none d long so).0) in
      follow es (next T e s) (marks_next sizes e s m)
      (followed_on sizes (length disk) AnyImage (λ list a b agree. stored_respects (λ d. IsWellFormed d) a b agree) e s [] [] m f honest.0 tt (next_now sizes e s) quiet) honest.1

  followed : (events : List (Event Call Outside)) → AllHonest T events first_state
      → Followed sizes (length disk) AnyImage (run T events first_state) [] (marks_after sizes events first_state no_marks)
  followed events honest =
      follow events first_state no_marks (first_followed AnyImage (λ list a b agree. stored_respects (λ d. IsWellFormed d) a b agree) (λ d long so. (first_image d long so).0)) honest

  pub images : (events : List (Event Call Outside)) → AllHonest T events first_state → IsWellFormed (log (run T events first_state)).contents
  images events honest =
      let f = followed events honest in
      let l = log (run T events first_state) in
      f.kept.stored.2 l.contents f.long (itself_stored l f.whole f.kept.same)

  pub same_sizes : (events : List (Event Call Outside)) → AllHonest T events first_state → sizes_of (log (run T events first_state)).contents ≡ sizes
  same_sizes events honest = let f = followed events honest in f.whole.log.place.sizes_are ∙ f.kept.same

pub stops_leave_images : StopsLeaveImages
stops_leave_images disk failures events on = images disk failures on.mountable events on.honest

pub sizes_stay : SizesStay
sizes_stay disk failures events on = same_sizes disk failures on.mountable events on.honest
