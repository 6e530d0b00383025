-- The parts of calls ask so: what drops an inode, what ends a call, and a walk along a path. After the walk an inode
-- is in hand.
use Rattle.call_programs.proofs.Vocabulary.{◌≡◌, inl, inr, ℕ, Bool, true, false, if◌then◌else◌, List, [], ◌∷◌, Option, Some, None, refl, Call, Action, Reply, MemInodes, Name, elements, is_directory_face, failed, free_all, give_up, leave_directory, say, see_parent, start, start_on, stopped, tail, walk, walk_parent, walk_step, with_last, NoEntry, WalkStop, NotThere, NoMemory, Version, P, in_parent, AsksSo, Because, Before, HandsBack, Held, IsIn, IsShort, Lacks, MayRecord, Nothing, Spending, Wants, fresh, holding, loose, naming, or_still, saw, sighting, started, upped, without, Change, Sighting, Stands, wanted_without}
use Rattle.inode_machine.proofs.Vocabulary.{drop}
use Rattle.plain_tree.specs.declared.call.Call.TheVariants as calls
use Rattle.call_programs.proofs.Marks.{looks_tell, mends_tell, quits_tell, starts_tell}
use Rattle.call_programs.proofs.Names.{AllShort, elements_short}

-- the same
pub back : (asked given : Call) → given ≡ asked → HandsBack asked given
back (calls.Read fd buffer) given e = tt
back asked given e = e

named_now : (b : Spending) (n : ℕ) (may : MayRecord b n) → IsIn n (naming b n may).named
named_now b n (inl at) = at
named_now b n (inr room) = inl refl

pub stopped_call : (call : Call) (why : WalkStop) → (stopped call why).call ≡ call
stopped_call call NotThere = refl
stopped_call call NoMemory = refl

-- what is missing when a walk stops
abbrev pub stop_wants : WalkStop → Wants
stop_wants NotThere = Nothing
stop_wants NoMemory = Lacks MemInodes

pub stopped_because : (call : Call) (cs : List Change) → Stands MemInodes call cs → (why : WalkStop) → Because call (stop_wants why) cs (stopped call why).answer
stopped_because call cs stands NotThere = tt
stopped_because call cs stands NoMemory = (refl, stands)

abbrev pub stopping : List ℕ → Spending → List Change → WalkStop → Before
stopping has b cs why = record { held = Some (record { has = has; last = None }); spending = b; wants = stop_wants why; seen = None; changed = cs }

-- a walk is lost, and the call ends
abbrev pub lost : Call → WalkStop → List ℕ → P Reply
lost call why ns = tail ns (stopped call why)

module _ (version : Version) (call : Call) where
  abbrev pub Asking : Before → P Reply → Type 0
  Asking s p = AsksSo version call s p

  -- one of two, from a state that may depend on which
  pub either : (s : Bool → Before) (b : Bool) (p q : P Reply) → Asking (s true) p → Asking (s false) q → Asking (s b) (if b then p else q)
  either s true p q yes_ no_ = yes_
  either s false p q yes_ no_ = no_

  -- ---- ends: what is held and was seen doesn't count for them, so that each goes from a state that holds anything

  -- what a call ends with, if room was wanted so
  abbrev pub Fine : Wants → List Change → Reply → Type 0
  Fine w cs r = (r.call ≡ call) × Because call w cs r.answer

  pub say_asks : (w : Wants) (cs : List Change) (r : Reply) → Fine w cs r → Asking (loose fresh w cs) (say r)
  say_asks w cs r e = ((λ _. refl, tt), λ _. (back call r.call e.0, e.1))

  module _ (w : Wants) (cs : List Change) where
    -- what is dropped may be freed
    pub drop_asks : (b : Spending) (n : ℕ) (k : P Reply) (may : MayRecord b n) → Asking (loose (naming b n may) w cs) k → Asking (loose b w cs) (drop n k)
    drop_asks b n k may rest =
        let at = named_now b n may in
        ((λ _. refl, may), λ last. either (λ _. loose (naming b n may) w cs) last _ k ((λ _. refl, (inl at, refl)), λ _. ((λ _. refl, tt), λ _. ((λ _. refl, tt), λ _. rest))) rest)

    pub give_up_asks : (b : Spending) (n : ℕ) (k : P Reply) (may : MayRecord b n) → Asking (loose (naming b n may) w cs) k → Asking (loose b w cs) (give_up n k)
    give_up_asks b n k may rest = ((λ _. refl, tt), λ _. drop_asks b n k may rest)

    free_all_asks : (b : Spending) (ns : List ℕ) (r : Reply) → Fine w cs r → Asking (loose b w cs) (free_all ns (say r))
    free_all_asks b [] r e = say_asks w cs r e
    free_all_asks b (n ∷ ns) r e = (
      (λ _. refl, tt),
      λ _. (
        (λ _. refl, inl (λ a b. refl)),
        λ _. ((λ _. refl, (inr refl, refl)), λ _. ((λ _. refl, tt), λ _. ((λ _. refl, tt), λ _. ((λ _. refl, tt), λ _. free_all_asks (record { named = n ∷ []; bound = 2 }) ns r e)))),
      ),
    )

    pub tail_asks : (b : Spending) (ns : List ℕ) (r : Reply) → Fine w cs r → Asking (loose b w cs) (tail ns r)
    tail_asks b ns r e = ((λ _. refl, tt), λ _. free_all_asks b ns r e)

    -- an inode is given up, and the call ends
    pub refused_asks : (b : Spending) (n : ℕ) (ns : List ℕ) (r : Reply) → MayRecord b n → Fine w cs r → Asking (loose b w cs) (give_up n (tail ns r))
    refused_asks b n ns r may e = give_up_asks b n (tail ns r) may (tail_asks (naming b n may) ns r e)

  -- ---- walks, in which nothing changes

  leave_asks : (x : Held) (b : Spending) (w : Wants) (cs : List Change) (d : ℕ) (ns : List ℕ) (k : List ℕ → P Reply) (at : IsIn d x.has)
      → ((ms : List ℕ) → Asking (record { held = Some (record { has = without x.has d at; last = None }); spending = b; wants = w; seen = None; changed = cs }) (k ms))
      → Asking (record { held = Some x; spending = b; wants = w; seen = None; changed = cs }) (leave_directory d ns k)
  leave_asks x b w cs d ns k at goes = ((λ _. refl, tt), λ _. ((λ _. refl, at), λ last. goes (with_last ns d last)))

  -- beside these it has one inode more in hand, its directory; b: what was recorded before, and is after
  module _ (kept : List ℕ) (b : Spending) (cs : List Change) (gone : WalkStop → List ℕ → P Reply) (gone_asks : (why : WalkStop) (ms : List ℕ) → Asking (stopping kept b cs why) (gone why ms)) where
    step_asks : (seen : Option Sighting) (d : ℕ) (ns : List ℕ) (go : ℕ → List ℕ → P Reply) → ((j : ℕ) (ms : List ℕ) → Asking (holding (j ∷ kept) b cs) (go j ms)) → (o : Option ℕ)
        → Asking (sighting (d ∷ kept) b seen cs) (walk_step d ns go gone o)
    step_asks seen d ns go goes None = leave_asks (record { has = d ∷ kept; last = None }) b Nothing cs d ns (gone NotThere) (inl refl) (gone_asks NotThere)
    step_asks seen d ns go goes (Some j) = ((mends_tell, refl), λ there. by there)
      where
        by : (there : Bool) → Asking (upped j (d ∷ kept) b cs there) (leave_directory d ns (if there then go j else gone NoMemory))
        by true = leave_asks (record { has = j ∷ d ∷ kept; last = Some j }) b Nothing cs d ns (go j) (inr (inl refl)) (goes j)
        by false = leave_asks (record { has = d ∷ kept; last = None }) b (Lacks MemInodes) cs d ns (gone NoMemory) (inl refl) (gone_asks NoMemory)

    start_asks : (s : Action) (path ns : List ℕ) (go : ℕ → P Reply) → ((d : ℕ) → Asking (holding (d ∷ kept) b cs) (go d)) → Asking (holding kept b cs) (start s path ns go gone)
    start_asks s path ns go goes = ((starts_tell s, tt), λ o. by o)
      where
        by : (o : Option ℕ)
            → Asking (record { held = started o (Some (record { has = kept; last = None })); spending = b; wants = or_still (wanted_without MemInodes o) Nothing; seen = None; changed = cs }) (start_on go gone ns o)
        by None = gone_asks NoMemory ns
        by (Some d) = goes d

    module _ (s : Action) (found : ℕ → List ℕ → P Reply) (found_asks : (n : ℕ) (ms : List ℕ) → Asking (holding (n ∷ kept) b cs) (found n ms)) where
      walk_asks : (es : List Name) (d : ℕ) (ns : List ℕ) → Asking (holding (d ∷ kept) b cs) (walk s d es ns found gone)
      walk_asks [] d ns = found_asks d ns
      walk_asks (e ∷ es) d ns = ((looks_tell s, inr (inl refl)), λ a. step_asks (saw d a) d ns (λ j ms. walk s j es ms found gone) (walk_asks es) a.found)

      pub path_asks : (path ns : List ℕ) → Asking (holding kept b cs) (start s path ns (λ d. walk s d (elements version path) ns found gone) gone)
      path_asks path ns = start_asks s path ns _ (λ d. walk_asks (elements version path) d ns)

    module _ (s : Action) (found : ℕ → Name → List ℕ → P Reply) (found_asks : (n : ℕ) (e : Name) (ms : List ℕ) → IsShort version e → Asking (holding (n ∷ kept) b cs) (found n e ms)) where
      see_asks : (e : Name) (short : IsShort version e) (d : ℕ) (ns : List ℕ) → Asking (holding (d ∷ kept) b cs) (see_parent s d ns (found d e) gone)
      see_asks e short d ns = (
        (λ a. quits_tell s (is_directory_face a.face), inr (inl refl)),
        λ a. either (λ _. sighting (d ∷ kept) b (saw d a) cs) (is_directory_face a.face) _ _ ((λ _. refl, tt), λ _. found_asks d e ns short)
            (leave_asks (record { has = d ∷ kept; last = None }) b Nothing cs d ns (gone NotThere) (inl refl) (gone_asks NotThere)),
      )

      parent_walk_asks : (e : Name) (es : List Name) → AllShort version (e ∷ es) → (d : ℕ) (ns : List ℕ) → Asking (holding (d ∷ kept) b cs) (walk_parent s d e es ns found gone)
      parent_walk_asks e [] short d ns = see_asks e short.0 d ns
      parent_walk_asks e (e' ∷ es) short d ns =
          ((looks_tell s, inr (inl refl)), λ a. step_asks (saw d a) d ns (λ j ms. walk_parent s j e' es ms found gone) (parent_walk_asks e' es short.1) a.found)

      pub parent_asks : (path ns : List ℕ) (e : Name) (es : List Name) → AllShort version (e ∷ es) → Asking (holding kept b cs) (start s path ns (λ d. walk_parent s d e es ns found gone) gone)
      parent_asks path ns e es short = start_asks s path ns _ (λ d. parent_walk_asks e es short d ns)

  -- ---- a path alone, before anything is changed

  module _ (stands : Stands MemInodes call []) where
    pub lost_asks : (why : WalkStop) (ms : List ℕ) → Asking (stopping [] fresh [] why) (lost call why ms)
    lost_asks why ms = tail_asks (stop_wants why) [] fresh ms (stopped call why) (stopped_call call why, stopped_because call [] stands why)

    -- its last name is looked for
    pub in_parent_asks : (s : Action) (path : List ℕ) (k : ℕ → Name → List ℕ → P Reply) → ((d : ℕ) (e : Name) (ms : List ℕ) → IsShort version e → Asking (holding (d ∷ []) fresh []) (k d e ms))
        → Asking (holding [] fresh []) (in_parent call s path k (elements version path))
    in_parent_asks s path k k_asks = by (elements version path) (elements_short version path)
      where
        by : (es : List Name) → AllShort version es → Asking (holding [] fresh []) (in_parent call s path k es)
        by [] short = ((λ _. refl, tt), λ _. tail_asks Nothing [] fresh [] (failed call NoEntry) (refl, tt))
        by (e ∷ es) short = ((λ _. refl, tt), λ _. parent_asks [] fresh [] (lost call) lost_asks s k k_asks path [] e es short)
