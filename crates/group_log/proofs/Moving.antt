-- What each call's clauses say of a stop.
use Rattle.group_log.proofs.Vocabulary.{◌≡◌, ◌≢◌, ◌⊎◌, inl, inr, ℕ, zero, suc, ◌+◌, ◌<◌, ◌≤◌, ◌==◌, List, [], ◌∷◌, length, Bool, true, false, if◌then◌else◌, refl, sym, ◌∙◌, ap, subst, arith, add-one, eqb-true, Super, recovered, IsOutsideLog, seen, Phase, Open, Staging, Installing, Halted, AfterLeave, Free, Commits, Progress, WaitsFor as Waits, Wrote, Ended, Failed, joined, is_point, next_phase, phase_at_leave, LogState, left_at, progress_at, IfWaits, IfMade, IfFailed, StaysOrBecomes, Blocks, AgreeOutside, commit_cut, IsLoggedRun, recovered_of, seen_of, is_under_way, is_settled, is_running, IsMove, begins_at, Stands, IsCommitMove, IsRunOfLog, LogsAreLoggedRuns, LogsStopAtACut, MovesCompose}
use Rattle.group_log.proofs.Basics.{pick, stops_at_a_cut}

pub never : {P : Type 0} → false ≡ true → P
never e = absurd (cc e)

pub under_way_of : (p : Phase) → (p ≢ Open) × (p ≢ Halted) → is_under_way p ≡ true
under_way_of Open begun = absurd (begun.0 refl)
under_way_of (Staging i) begun = refl
under_way_of (Installing i) begun = refl
under_way_of Halted begun = absurd (begun.1 refl)

running_of : (p : Phase) → (p ≢ Open) × (p ≢ Halted) → is_running p ≡ true
running_of Open begun = refl
running_of (Staging i) begun = refl
running_of (Installing i) begun = refl
running_of Halted begun = absurd (begun.1 refl)

-- a write that leads to a settled phase was that of the head, or came after it
next_settled : (n : ℕ) (p : Phase) → (p ≢ Open) × (p ≢ Halted) → is_settled (next_phase n p) ≡ true → (is_point n p ≡ true) ⊎ (is_settled p ≡ true)
next_settled n Open begun now = absurd (begun.0 refl)
next_settled n Halted begun now = absurd (begun.1 refl)
next_settled n (Installing i) begun now = inr refl
next_settled n (Staging i) begun now =
    pick (i == n) (λ t. is_settled (if t then Installing 0 else Staging (i + 1)) ≡ true → (t ≡ true) ⊎ (false ≡ true))
    (λ _ _. inl refl) (λ _ now. never now) now

-- what follows a leave
pub leave_facts : (n : ℕ) (ks : List ℕ) (r : AfterLeave) (p : Phase) → r ≡ left_at n ks → p ≡ phase_at_leave n ks
    → ((begins_at r ≡ true) × (n ≡ 0) × (p ≡ Staging 0)) ⊎ ((begins_at r ≡ false) × (p ≡ Open))
leave_facts n [] r p left phase = inr (ap begins_at left, phase)
leave_facts n (b ∷ ks) r p left phase =
    pick (n == 0)
    (λ t. (n == 0) ≡ t → r ≡ (if t then Commits else Free) → p ≡ (if t then Staging 0 else Open) → ((begins_at r ≡ true) × (n ≡ 0) × (p ≡ Staging 0)) ⊎ ((begins_at r ≡ false) × (p ≡ Open)))
    (λ _ at left phase. inl (ap begins_at left, eqb-true n 0 at, phase))
    (λ _ isnt left phase. inr (ap begins_at left, phase))
    refl left phase

module _ {D : Type 0} (contents : D → List (List ℕ)) (old new : LogState D) (sizes : new.sizes ≡ old.sizes) where
  -- nothing is seen or recovered otherwise
  pub still_move : contents new.cache.device ≡ contents old.cache.device → new.phase ≡ old.phase → ((b : ℕ) → seen contents new.cache b ≡ seen contents old.cache b) → IsMove contents false false old new
  still_move disk phase see = record {
    sizes = sizes;
    becomes = λ b out. ap (λ (d : List (List ℕ)). recovered d b) disk;
    still = λ now b out. see b;
    in_commit = λ e. never e;
    begun_before = λ now e. ap is_under_way (sym phase) ∙ now;
    settles = λ now. (refl, inr (ap is_settled (sym phase) ∙ now));
    alone = λ e. never e;
    runs = λ now. ap is_running (sym phase) ∙ now;
  }

  -- no commit runs, and nothing is written
  pub open_move : contents new.cache.device ≡ contents old.cache.device → old.phase ≡ Open → new.phase ≡ Open → IsMove contents false false old new
  open_move disk before after = record {
    sizes = sizes;
    becomes = λ b out. ap (λ (d : List (List ℕ)). recovered d b) disk;
    still = λ now. never (sym (ap is_under_way after) ∙ now);
    in_commit = λ e. never e;
    begun_before = λ now. never (sym (ap is_under_way after) ∙ now);
    settles = λ now. (refl, inr (ap is_settled before));
    alone = λ e. never e;
    runs = λ now. ap is_running before;
  }

  pub leave_move : (begins : Bool) → contents new.cache.device ≡ contents old.cache.device → ((b : ℕ) → seen contents new.cache b ≡ seen contents old.cache b) → old.phase ≡ Open
      → ((begins ≡ true) × (joined new.members ≡ 0) × (new.phase ≡ Staging 0)) ⊎ ((begins ≡ false) × (new.phase ≡ Open)) → IsMove contents begins false old new
  leave_move begins disk see before facts = record {
    sizes = sizes;
    becomes = λ b out. ap (λ (d : List (List ℕ)). recovered d b) disk;
    still = λ now b out. see b;
    in_commit = λ e. never e;
    begun_before = λ now isnt. elim facts [ inl f ↦ never (sym isnt ∙ f.0) | inr f ↦ never (sym (ap is_under_way f.1) ∙ now) ];
    settles = λ now. elim facts [ inl f ↦ never (sym (ap is_settled f.2) ∙ now) | inr f ↦ (f.0, inr (ap is_settled before)) ];
    alone = λ e. elim facts [ inl f ↦ f.1 | inr f ↦ never (sym f.0 ∙ e) ];
    runs = λ now. ap is_running before;
  }

  module _ (begun : (old.phase ≢ Open) × (old.phase ≢ Halted)) where
    pub made_move : (n : ℕ) → new.phase ≡ next_phase n old.phase → ((b : ℕ) → IsOutsideLog old.sizes b → seen contents new.cache b ≡ seen contents old.cache b)
        → ((b : ℕ) → IsOutsideLog old.sizes b → recovered_of contents new b ≡ (if is_point n old.phase then seen_of contents old b else recovered_of contents old b))
        → IsMove contents false (is_point n old.phase) old new
    made_move n phase see becomes = record {
      sizes = sizes;
      becomes = becomes;
      still = λ now. see;
      in_commit = λ e. under_way_of old.phase begun;
      begun_before = λ now e. under_way_of old.phase begun;
      settles = λ now. (refl, next_settled n old.phase begun (sym (ap is_settled phase) ∙ now));
      alone = λ e. never e;
      runs = λ now. running_of old.phase begun;
    }

    pub halted_move : (stands : Bool) → new.phase ≡ Halted → ((b : ℕ) → IsOutsideLog old.sizes b → recovered_of contents new b ≡ (if stands then seen_of contents old b else recovered_of contents old b))
        → IsMove contents false stands old new
    halted_move stands phase becomes = record {
      sizes = sizes;
      becomes = becomes;
      still = λ now. never (sym (ap is_under_way phase) ∙ now);
      in_commit = λ e. under_way_of old.phase begun;
      begun_before = λ now e. under_way_of old.phase begun;
      settles = λ now. never (sym (ap is_settled phase) ∙ now);
      alone = λ e. never e;
      runs = λ now. running_of old.phase begun;
    }

-- a commit's step, from the clauses of its answer
pub commit_move : {D : Type 0} (contents : D → List (List ℕ)) (old new : LogState D) (r : Progress) → new.sizes ≡ old.sizes → (old.phase ≢ Open) × (old.phase ≢ Halted)
    → IfWaits r (new ≡ old)
    → IfMade r (new.phase ≡ next_phase (length old.group) old.phase)
    → IfMade r ((b : ℕ) → IsOutsideLog old.sizes b → recovered (contents new.cache.device) b ≡ (if is_point (length old.group) old.phase then seen contents old.cache b else recovered (contents old.cache.device) b))
    → IfFailed r (new.phase ≡ Halted)
    → IfFailed r (StaysOrBecomes old.sizes (recovered (contents old.cache.device)) (λ b. if is_point (length old.group) old.phase then seen contents old.cache b else recovered (contents old.cache.device) b) (recovered (contents new.cache.device)))
    → ((b : ℕ) → IsOutsideLog old.sizes b → seen contents new.cache b ≡ seen contents old.cache b)
    → IsCommitMove contents r old new
commit_move contents old new Waits sizes begun same phase becomes halted kept see = record {
  stands = false;
  says = refl;
  move = still_move contents old new sizes (ap (λ l. contents l.cache.device) same) (ap (λ l. l.phase) same) (λ b. ap (λ l. seen contents l.cache b) same);
  halts = tt;
}
commit_move contents old new Wrote sizes begun same phase becomes halted kept see = record { stands = is_point (length old.group) old.phase; says = refl; move = made_move contents old new sizes begun (length old.group) phase see becomes; halts = tt }
commit_move contents old new Ended sizes begun same phase becomes halted kept see = record { stands = is_point (length old.group) old.phase; says = refl; move = made_move contents old new sizes begun (length old.group) phase see becomes; halts = tt }
commit_move contents old new Failed sizes begun same phase becomes halted kept see = elim kept [
  | inl stays ↦ record { stands = false; says = λ e. never e; move = halted_move contents old new sizes begun false halted stays; halts = ap is_running halted }
  | inr came ↦ record { stands = is_point (length old.group) old.phase; says = λ e. e; move = halted_move contents old new sizes begun (is_point (length old.group) old.phase) halted came; halts = ap is_running halted }
]

-- the run of a log is a run that the crash law speaks of
module _ {D : Type 0} (contents : D → List (List ℕ)) (n : ℕ) (states : ℕ → LogState D) (begins stands : ℕ → Bool) (run : IsRunOfLog contents n states begins stands) where
  same_sizes : (i : ℕ) → i ≤ n → (states i).sizes ≡ (states 0).sizes
  same_sizes zero le = refl
  same_sizes (suc i) le =
      subst (λ (j : ℕ). (states j).sizes ≡ (states 0).sizes) (add-one i)
      ((run.calls i (omega (arith, le))).sizes ∙ same_sizes i (omega (arith, le)))

  over : (i : ℕ) → i < n → (a b : Blocks) → AgreeOutside (states i).sizes a b → AgreeOutside (states 0).sizes a b
  over i lt a b agree = subst (λ (s : Super). AgreeOutside s a b) (same_sizes i (omega (arith, lt))) agree

  chosen : (t : Bool) (f g : Blocks) (b : ℕ) → (if t then f b else g b) ≡ (if t then f else g) b
  chosen true f g b = refl
  chosen false f g b = refl

  logged_run : IsLoggedRun (states 0).sizes n (λ i. seen_of contents (states i)) (λ i. recovered_of contents (states i)) (λ i. is_under_way (states i).phase) begins stands
  logged_run = record {
    fresh = run.fresh;
    idle = ap is_under_way run.idle;
    moves = λ i lt b out.
        over i lt (λ k. if stands i then seen_of contents (states i) k else recovered_of contents (states i) k) (recovered_of contents (states (i + 1))) (run.calls i lt).becomes b out
        ∙ chosen (stands i) (seen_of contents (states i)) (recovered_of contents (states i)) b;
    still = λ i lt now. over i lt (seen_of contents (states i)) (seen_of contents (states (i + 1))) ((run.calls i lt).still now);
    in_commit = λ i lt. (run.calls i lt).in_commit;
    begun_before = λ i lt. (run.calls i lt).begun_before;
  }

  stops : AgreeOutside (states 0).sizes (seen_of contents (states (commit_cut begins stands n))) (recovered_of contents (states n))
  stops = stops_at_a_cut (states 0).sizes n (λ i. seen_of contents (states i)) (λ i. recovered_of contents (states i)) (λ i. is_under_way (states i).phase) begins stands logged_run

pub logs_are_logged_runs : {D : Type 0} (contents : D → List (List ℕ)) → LogsAreLoggedRuns contents
logs_are_logged_runs contents n states begins stands run = logged_run contents n states begins stands run

pub logs_stop_at_a_cut : {D : Type 0} (contents : D → List (List ℕ)) → LogsStopAtACut contents
logs_stop_at_a_cut contents n states begins stands run = stops contents n states begins stands run

made_says : (p : Phase) (r : Progress) (t : Bool) → r ≡ progress_at p → Stands r t t
made_says p r t e = subst (λ (x : Progress). Stands x t t) (sym e) (at p)
  where
    at : (p : Phase) → Stands (progress_at p) t t
    at Open = refl
    at (Staging i) = refl
    at (Installing i) = refl
    at Halted = refl

made_halts : (p : Phase) (r : Progress) (P : Type 0) → r ≡ progress_at p → IfFailed r P
made_halts p r P e = subst (λ (x : Progress). IfFailed x P) (sym e) (at p)
  where
    at : (p : Phase) → IfFailed (progress_at p) P
    at Open = tt
    at (Staging i) = tt
    at (Installing i) = tt
    at Halted = tt

-- a write that was made
pub done_move : {D : Type 0} (contents : D → List (List ℕ)) (old new : LogState D) (p : Phase) (r : Progress) → new.sizes ≡ old.sizes → (old.phase ≢ Open) × (old.phase ≢ Halted) → r ≡ progress_at p
    → new.phase ≡ next_phase (length old.group) old.phase → ((b : ℕ) → IsOutsideLog old.sizes b → seen contents new.cache b ≡ seen contents old.cache b)
    → ((b : ℕ) → IsOutsideLog old.sizes b → recovered (contents new.cache.device) b ≡ (if is_point (length old.group) old.phase then seen contents old.cache b else recovered (contents old.cache.device) b))
    → IsCommitMove contents r old new
done_move contents old new p r sizes begun answer phase see becomes = record {
  stands = is_point (length old.group) old.phase;
  says = made_says p r (is_point (length old.group) old.phase) answer;
  move = made_move contents old new sizes begun (length old.group) phase see becomes;
  halts = made_halts p r (is_running new.phase ≡ false) answer;
}

-- an event may make further calls before one
pub then_move : {D : Type 0} (contents : D → List (List ℕ)) → MovesCompose contents
then_move contents stands first mid last a b = record {
  sizes = b.sizes ∙ a.sizes;
  becomes = λ k out.
      let out_mid : IsOutsideLog mid.sizes k = subst (λ (s : Super). IsOutsideLog s k) (sym a.sizes) out in
      pick stands (λ t. stands ≡ t → recovered_of contents last k ≡ (if t then seen_of contents mid k else recovered_of contents mid k) → recovered_of contents last k ≡ (if t then seen_of contents first k else recovered_of contents first k))
      (λ _ is e. e ∙ a.still (b.in_commit is) k out)
      (λ _ _ e. e ∙ a.becomes k out)
      refl (b.becomes k out_mid);
  still = λ now k out. b.still now k (subst (λ (s : Super). IsOutsideLog s k) (sym a.sizes) out) ∙ a.still (b.begun_before now refl) k out;
  in_commit = λ is. a.begun_before (b.in_commit is) refl;
  begun_before = λ now e. a.begun_before (b.begun_before now refl) refl;
  settles = λ now. (refl, elim (b.settles now).1 [ inl e ↦ inl e | inr e ↦ elim (a.settles e).1 [ inl f ↦ never f | inr f ↦ inr f ] ]);
  alone = λ e. never e;
  runs = λ now. a.runs (b.runs now);
}
