-- The operation that takes a new inode acts when a block of the table is looked through. A step of its own puts the
-- inode's record.
use Rattle.inodes_on_blocks.proofs.Vocabulary.{◌≡◌, ◌≢◌, inl, inr, ℕ, zero, suc, ℤ, pos, negsuc, ◌+◌, ◌*◌, ◌/◌, ◌<◌, ◌≤◌, ◌||◌, ◌&&◌, Bool, true, false, List, Option, Some, None, is_some, refl, sym, ◌∙◌, ap, subst, arith, if◌then◌else◌, [], IsSome, nat_lt, is_none, nat_tests, Super, dinode_at, IsOutsideLog, SeatState, kept, given_back, holder_of, has, HasRoom, is_free, is_number, hart_count, and_true, put_same, put_other, Do, unmarked, ExecResult, Ran, Machine, Laws, P, Wp, Both, joined, Below, Handover, Lasts, Here, Silent, ToAct, to_act, acted, s-silent, Wp-more, TablesState, references_in, up_inode, first_free, is_unreferenced, Outside, Passes, seen_of, keeps_whole, leaves_own, shows_its_puts, free_in, inode_blocks, new_record, inode_block, with_dinode, Spent, size, most_recorded, InodeType, Claim, claimed, counted_up, has_place, place_count, referenced, blank, marked, with_mark, Idle, Inv, more, loaded, kind_of, World, log_of, tables_of, inode_in, came_to, exec, alone, Answers, IsDone, in_hand, HasBuffer, SameBut, Carry, IsThrough, Keeps, Kept, Labels, Same, Stands, below, labelled, IsMade, answers, claim, claim_at, claim_from, claim_in, claim_mark, HasInodes, Owners, GivesRoom, HasSpent, Shows, ActsWithin, DoesItWithin, inodes_per_block}
use Rattle.std.specs.Prelude.{Contains}
use Rattle.inode_machine.specs.Rules as rules
use Rattle.fs_machine.specs.Tables as places
use Rattle.fs_machine.specs.Premises as premises
use Rattle.fs_machine.specs.Steps as steps
use Rattle.inode_table.specs.NewInodes.{is_zero}
use Rattle.inode_table.specs.Programs.{place_of}
use Rattle.inode_machine.specs.World as above
use Rattle.inodes_on_blocks.specs.ShownTables as tables
use Rattle.inodes_on_blocks.proofs.Basics.{by_place, alone_keeps, alone_laws, lasts_done, kept_same, Answered, s-answered, IsQuiet, buffer_seen, buffer_then, quiet_but, quiet_others, quiet_shows, s-back, s-fetch, with_buffers, back_hand, AllInHand, base_marked, below_laws, in_hand_then, lent_then, through_then, hands_marked, empty_hand, inode_place, inode_read, marked_same, shows_marked, among_free, found_passes, may_put, untaken, other_spends}
use Rattle.inodes_on_blocks.proofs.Changing.{LeftTo, left_but, left_same}
use Rattle.inodes_on_blocks.proofs.ClaimPuts.{HasClaimed, can_put_new, claimed_below, claimed_hands, claimed_marked, claimed_same, claimed_shows, claimed_then, free_above, put_base, put_owners, put_same_others, put_shows, put_with, stored}
use Rattle.inodes_on_blocks.proofs.Spending.{stays_within}
use Rattle.inodes_on_blocks.proofs.Spends.{programs_spend}

-- ---- an inode that is picked

zero_is : (k : ℤ) → is_zero k ≡ is_number 0 k
zero_is (pos n) = refl
zero_is (negsuc n) = refl

-- it is one that can be used, and its block says that it is free
pub record Picked (ninodes q : ℕ) (block : List ℕ) (i : ℕ) : Type 0 where
  pub low : 1 ≤ i
  pub bound : i < ninodes
  pub free : is_free (dinode_at (place_of i) block) ≡ true
  pub block_is : i / inodes_per_block ≡ q

pub picked : (ninodes q : ℕ) (block : List ℕ) (i : ℕ) → Contains (free_in ninodes q block) i → Picked ninodes q block i
picked ninodes q block i has_ =
    let a = among_free ninodes (inodes_per_block * q) block inodes_per_block i has_ in
    let both = and_true (nat_lt 0 i && nat_lt i ninodes) (is_zero (dinode_at (place_of i) block).kind) a.0 in
    let range = and_true (nat_lt 0 i) (nat_lt i ninodes) both.0 in
    let from_ = a.1 in
    let upto = a.2 in
    record {
      low = positive range.0;
      bound = less i ninodes range.1;
      free = sym (zero_is (dinode_at (place_of i) block).kind) ∙ both.1;
      block_is = omega (arith, from_, upto);
    }
  where
    positive : nat_lt 0 i ≡ true → 1 ≤ i
    positive e = grind (arith, nat_tests)

    less : (a b : ℕ) → nat_lt a b ≡ true → a < b
    less a b e = grind (arith, nat_tests)

no_place : {A : Type 0} (o : Option A) → is_none o ≡ true → o ≡ None
no_place None e = refl
no_place (Some x) e = absurd (let z : false ≡ true = e in cc z)

-- ---- the operation

-- three steps a block, and the put
unfoldable claim_steps : ℕ → ℕ
claim_steps zero = 1
claim_steps (suc n) = suc (suc (suc (claim_steps n)))

steps_are : (n : ℕ) → claim_steps n ≡ 3 * n + 1
unfolding claim_steps
steps_are zero = refl
steps_are (suc n) = let more_ = steps_are n in omega (arith, more_)

module _ (sizes : Super) (l : Labels) (laws : Laws (labelled sizes.version l)) (keeps : Keeps l) (h : ℕ) (lt : h < hart_count) (inode_type : InodeType) (made : IsMade inode_type) (m : above.ClaimResult → Option above.Mark) (c : Carry) (s : Spent) (few : size s < most_recorded)
    (B : List l.Step → Type 0) (C : above.ClaimResult → List l.Step → above.World → Type 0) (lasts : Lasts (labelled sizes.version l) h B C) where
  abbrev W : Type 0
  W = Both World above.World

  abbrev M : Machine
  M = joined (labelled sizes.version l) (below sizes)

  abbrev Q : Handover above.ClaimResult Carry → List l.Step → W → Type 0
  Q = Below (labelled sizes.version l) (below sizes) h C

  abbrev Todo : List l.Step → above.World → Type 0
  Todo = ToAct (labelled sizes.version l) (below sizes) laws (below_laws sizes l keeps) h B (Claim inode_type) m C lasts

  abbrev kind : ℤ
  kind = kind_of inode_type

  -- what it has while it looks through the blocks, beside the buffer
  record Looks (r : World) (g : above.World) : Type 0 where
    taken : (b : ℕ) → r.taken b ≢ Some h
    through : IsThrough h r
    hands : AllInHand h c r g
    lent : ((g.desks h).lender ≡ None → ⊥) → Idle h g
    knows : HasSpent sizes h s r

  gives : (b : ℕ) → GivesRoom h b (HasSpent sizes h s)
  gives b = (other_spends sizes h b s few).gives

  looks_left : (v w : World) (g u : above.World) → LeftTo h v w → Kept h g u → HasSpent sizes h s w → Looks v g → Looks w u
  looks_left v w g u left kept_ knows is = record {
    taken = untaken h v w left.taken is.taken;
    through = through_then h v w left.begun is.through;
    hands = in_hand_then h c v w g u left.sizes left.inodes left.no_more kept_ is.lent is.hands;
    lent = lent_then h g u kept_ is.lent;
    knows = knows;
  }

  looks_same : (v w : World) (g u : above.World) → Same h v w → Kept h g u → Looks v g → Looks w u
  looks_same v w g u same kept_ is = looks_left v w g u (left_same h v w same) kept_ ((gives 0).lasts v w same is.knows) is

  looks_but : (b : ℕ) (v w : World) (g u : above.World) → SameBut h b v w → Kept h g u → Looks v g → Looks w u
  looks_but b v w g u but kept_ is = looks_left v w g u (left_but h b v w but) kept_ ((gives 0).fetched b v w but is.knows) is

  -- without a buffer it has what it has between two operations
  ends : (r : World) (g : above.World) → in_hand h r ≡ 0 → Looks r g → Stands sizes h r g c
  ends r g none is = (record { free = none; taken = is.taken; through = is.through; inodes = is.hands; lent = is.lent }, is.knows.0)

  -- the blocks after this one, by their count
  abbrev Again : ℕ → ℕ → Type 0
  Again zero q = Unit {0}
  Again (suc n) q = (z : W) (fs : List l.Step) → Todo fs z.seen → Looks z.real z.seen → in_hand h z.real ≡ 0 → Wp M h B Q (claim_from (suc n) sizes inode_type c m q) (claim_steps (suc n)) fs z

  -- ---- a block in hand, at u

  module _ (q : ℕ) (bytes : List ℕ) (u : W) (gs : List l.Step) (todo : Todo gs u.seen) (shows : Shows u.real u.seen) (inv : Inv u.seen) (may : rules.May sizes.version h (Claim inode_type) u.seen) (looks : Looks u.real u.seen)
      (buffer : HasBuffer h (sizes.inodestart + q) bytes u.real) (one : in_hand h u.real ≡ 1) (out : IsOutsideLog (log_of u.real).sizes (sizes.inodestart + q)) where
    abbrev b : ℕ
    b = sizes.inodestart + q

    abbrev r : World
    r = u.real

    abbrev g : above.World
    g = u.seen

    abbrev candidates : List ℕ
    candidates = free_in sizes.ninodes q bytes

    abbrev Came : (n : ℕ) → P M (Handover above.ClaimResult Carry) → steps.ClaimResult → World → Type 0
    Came n rest a z = Answered (labelled sizes.version l) (below sizes) laws (below_laws sizes l keeps) h B (Claim inode_type) m C lasts u z gs (claim_mark inode_type m n a) (λ fs y f. Wp M h B Q (claim_in rest kind b bytes c a) (claim_steps n) fs (record { real = y; seen = f }))

    lower_may : premises.May h (steps.Claim b candidates) r.state
    unfolding premises.May
    lower_may = (buffer.holder, out, tt)

    -- none of them is free: the buffer was given back
    abbrev ss : List SeatState
    ss = given_back b (log_of r).seats

    quiet : IsQuiet h (log_of r) ss
    unfolding steps.exec premises.May premises.Honest
    quiet =
        let back_may : premises.May h (steps.Put b None) r.state = (buffer.holder, out, tt) in
        record {
          whole = keeps_whole h Passes (steps.Put b None) r.state shows.whole back_may tt;
          alike = shows_its_puts h Passes (steps.Put b None) r.state shows.whole back_may tt;
          own = λ k ne. leaves_own h k Passes (steps.Put b None) r.state ne shows.whole back_may tt;
        }

    none_then : in_hand h (with_buffers r ss) ≡ 0
    none_then = let back = (back_hand h b (log_of r).seats buffer.holder).count in omega (arith, back, one)

    looks_then : Looks (with_buffers r ss) g
    looks_then = looks_but b r (with_buffers r ss) g g (quiet_but h r g shows ss quiet b (back_hand h b (log_of r).seats buffer.holder).others) (kept_same h g) looks

    no_inode : (n : ℕ) → Again n (q + 1) → Came n (claim_from n sizes inode_type c m (q + 1)) steps.NoInode (with_buffers r ss)
    unfolding claim_from
    no_inode zero again =
        let s_ = marked_same sizes.version h (m above.NoInode) g in
        inr (
          above.Room,
          above.NoInode,
          marked sizes.version h (m above.NoInode) g,
          refl,
          refl,
          tt,
          (λ i. shows_marked (with_buffers r ss) g (marked sizes.version h (m above.NoInode) g) s_ (quiet_shows h r g shows ss quiet)),
          quiet_others h r g shows ss quiet,
          λ fs i done. (done, (base_marked h (with_buffers r ss) g (marked sizes.version h (m above.NoInode) g) c s_ may.0 (ends (with_buffers r ss) g none_then looks_then).0, looks.knows.0)),
        )
    no_inode (suc n) again = inl (refl, quiet_shows h r g shows ss quiet, quiet_others h r g shows ss quiet, again (record { real = with_buffers r ss; seen = g }) gs todo looks_then none_then)

    -- there is no place for it
    some_steps : (n : ℕ) → 1 ≤ claim_steps n
    some_steps n = let e = steps_are n in omega (arith, e)

    gives_back : (n : ℕ) (rest : P M (Handover above.ClaimResult Carry)) → nat_lt (referenced g) place_count ≡ false → Came n rest steps.NoPlace r
    gives_back n rest full =
        let s_ = marked_same sizes.version h (m above.NoPlace) g in
        let g' = marked sizes.version h (m above.NoPlace) g in
        let base : Looks r g' = record { taken = looks.taken; through = looks.through; hands = hands_marked h r g g' c s_ looks.hands; lent = λ some. absurd (some ((s_.desks h).lender ∙ may.0)); knows = looks.knows } in
        inr (
          above.RoomFor 0,
          above.NoPlace,
          g',
          refl,
          refl,
          full,
          (λ i. shows_marked r g g' s_ shows),
          (λ other ne. (below_laws sizes l keeps).same other r),
          λ fs i done.
              Wp-more M h (Do (steps.Put b None) unmarked (λ _. answers above.NoPlace c)) B Q 1 (claim_steps n) fs (record { real = r; seen = g' }) (some_steps n)
              (s-back sizes l laws keeps h lt B Q (C above.NoPlace) (acted (labelled sizes.version l) (below sizes) laws (below_laws sizes l keeps) h B (Claim inode_type) m C lasts above.NoPlace) b (λ _. answers above.NoPlace c) 0 fs (record { real = r; seen = g' }) done buffer.holder out
              (λ v es back. (back.stage, ends v.real v.seen (let down = back.count in omega (arith, down, one)) (looks_but b r v.real g' v.seen back.since back.kept base)))),
        )

    -- ---- one is free

    module _ (i : ℕ) (is : Picked sizes.ninodes q bytes i) (unplaced : places.place_of i (tables_of r).entries ≡ None) where
      bound : i < (log_of r).sizes.ninodes
      bound = subst (λ (z : Super). i < z.ninodes) (sym looks.knows.0) is.bound

      where_ : b ≡ inode_block (log_of r).sizes.inodestart i
      where_ = ap (λ (k : ℕ). sizes.inodestart + k) (sym is.block_is) ∙ ap (λ (z : Super). inode_block z.inodestart i) (sym looks.knows.0)

      free : is_free (inode_in (log_of r) i) ≡ true
      free =
          ap is_free (sym (inode_read r g shows i bound) ∙ ap (λ (k : ℕ). dinode_at (place_of i) (seen_of (log_of r) k)) (sym where_) ∙ ap (dinode_at (place_of i)) (buffer_seen h b bytes r buffer))
          ∙ is.free

      zero_refs : g.refs i ≡ 0
      zero_refs = shows.tables.places.counts i ∙ ap (references_in (tables_of r).entries) unplaced

      module _ (t : TablesState) (after : tables.Shows t (counted_up h i g) (loaded (tables_of r))) where
        abbrev then_ : World
        then_ = claimed_below h lt inode_type r g shows inv i is.low bound free zero_refs may.1 t after

        abbrev g' : above.World
        g' = marked sizes.version h (m (above.New i)) (claimed h inode_type g i)

        has_claimed : HasClaimed h i inode_type c then_ g'
        has_claimed =
            claimed_marked h i inode_type c then_ (claimed h inode_type g i) g' (marked_same sizes.version h (m (above.New i)) (claimed h inode_type g i))
            (record {
              new = put_same r.new i (Some h);
              only = λ k ne e. looks.through.new k (sym (put_other r.new i (Some h) k ne) ∙ e);
              commits = looks.through.commits;
              taken = looks.taken;
              keeps = put_same g.keeper i (Some h);
              node = put_same g.disk i (Some (blank inode_type));
              hands = claimed_hands h lt inode_type r g shows inv i is.low bound free zero_refs may.1 t after c looks.hands;
              free = may.0;
            })

        -- its record is put
        puts : (z : W) (es fs : List l.Step) → Here (labelled sizes.version l) (below sizes) laws (below_laws sizes l keeps) h B (C (above.New i)) (record { real = then_; seen = g' }) z fs
            → premises.May h (steps.Put b (Some (with_dinode i (new_record kind) bytes))) z.real.state
            × ((x : Outside) → premises.Honest h (steps.Put b (Some (with_dinode i (new_record kind) bytes))) z.real.state x
            → Silent (labelled sizes.version l) (below sizes) laws (below_laws sizes l keeps) h B z (premises.MayWait h (steps.Put b (Some (with_dinode i (new_record kind) bytes))) z.real.state)
            (exec h x (steps.Put b (Some (with_dinode i (new_record kind) bytes))) z.real) (λ a y. Wp M h B Q (answers (above.New i) c) 0 fs (record { real = y; seen = z.seen })))
        unfolding steps.exec premises.MayWait premises.Honest
        puts z es fs here =
            let v = z.real in
            let claims = claimed_then h i inode_type c then_ v g' z.seen here.same here.kept has_claimed in
            let buffer_v = buffer_then h b bytes then_ v (here.same.buffers b) (record { holder = buffer.holder; has = buffer.has }) in
            let size : (log_of v).sizes ≡ sizes = here.same.sizes ∙ looks.knows.0 in
            let there : b ≡ inode_block (log_of v).sizes.inodestart i = where_ ∙ ap (λ (y : Super). inode_block y.inodestart i) (sym here.same.sizes) in
            let same_bytes : seen_of (log_of v) (inode_block (log_of v).sizes.inodestart i) ≡ bytes = ap (seen_of (log_of v)) (sym there) ∙ buffer_seen h b bytes v buffer_v in
            let knows : HasSpent sizes h s v = (gives b).lasts then_ v here.same looks.knows in
            let can = can_put_new h i inode_type c v z.seen here.shows claims (subst (λ (k : ℕ). holder_of k (log_of v).seats ≡ Some h) there buffer_v.holder)
            (subst (λ (k : ℕ). IsSome (kept k (log_of v).seats)) there (ap (λ (o : Option (List ℕ)). is_some o) buffer_v.has))
            (subst (λ (k : ℕ). has (log_of v).group k ≡ false → HasRoom (log_of v).members h) there ((gives b).room v knows (here.shows.news i h claims.new).joined)) in
            let at = inode_block (log_of v).sizes.inodestart i in
            let stored_ = stored h i inode_type c v z.seen here.shows claims in
            let one_v : in_hand h v ≡ 1 = here.same.held ∙ one in
            subst
            (λ (p : ℕ × List ℕ). premises.May h (steps.Put p.0 (Some (with_dinode i (new_record kind) p.1))) v.state
            × ((x : Outside) → Unit {0}
            → Silent (labelled sizes.version l) (below sizes) laws (below_laws sizes l keeps) h B z ⊥ (exec h x (steps.Put p.0 (Some (with_dinode i (new_record kind) p.1))) v) (λ a y. Wp M h B Q (answers (above.New i) c) 0 fs (record { real = y; seen = z.seen }))))
            (λ y. (sym there y, same_bytes y)) (
              may_put h at stored_ v.state here.shows.whole here.shows.blocks.seen can,
              λ x t_.
                  subst (λ (o : Owners). Silent (labelled sizes.version l) (below sizes) laws (below_laws sizes l keeps) h B z ⊥ (Ran (tt {0}) (put_with h i inode_type c v z.seen here.shows claims can o)) (λ a y. Wp M h B Q (answers (above.New i) c) 0 fs (record { real = y; seen = z.seen })))
                  (sym (put_owners h i inode_type c v z.seen here.shows claims can))
                  (put_shows h i inode_type c v z.seen here.shows claims can made, put_same_others h i inode_type c v z.seen here.shows claims can, (here.stage, (put_base h i inode_type c v z.seen here.shows claims can one_v, size))),
            )

        takes : (n : ℕ) (rest : P M (Handover above.ClaimResult Carry)) → nat_lt (referenced g) place_count ≡ true → Came n rest (steps.Claims i) then_
        takes n rest room =
            let low = is.low in
            inr (
              above.Picks i,
              above.New i,
              g',
              refl,
              ap (λ (e : Bool). with_mark sizes.version h m (if e then Ran (above.New i) (claimed h inode_type g i) else Ran above.NoPlace g)) room,
              (is.low, subst (λ (k : ℕ). i < k) (sym shows.size) bound, free_above h lt inode_type r g shows inv i is.low bound free zero_refs),
              (λ j. shows_marked then_ (claimed h inode_type g i) g' (marked_same sizes.version h (m (above.New i)) (claimed h inode_type g i)) (claimed_shows h lt inode_type r g shows inv i is.low bound free zero_refs may.1 t after)),
              claimed_same h lt inode_type r g shows inv i is.low bound free zero_refs may.1 t after,
              λ fs j done.
                  Wp-more M h (Do (steps.Put b (Some (with_dinode i (new_record kind) bytes))) unmarked (λ _. answers (above.New i) c)) B Q 1 (claim_steps n) fs (record { real = then_; seen = g' }) (some_steps n)
                  (s-silent (labelled sizes.version l) (below sizes) laws (below_laws sizes l keeps) h B (steps.Put b (Some (with_dinode i (new_record kind) bytes))) (λ _. answers (above.New i) c) Q (C (above.New i)) 0 fs (record { real = then_; seen = g' })
                  (acted (labelled sizes.version l) (below sizes) laws (below_laws sizes l keeps) h B (Claim inode_type) m C lasts (above.New i)) done (λ z es here. puts z fs es here)),
            )

    -- what the step does
    abbrev Comes : (n : ℕ) → P M (Handover above.ClaimResult Carry) → Outside → Type 0
    Comes n rest x = (a : steps.ClaimResult) × (z : World) × (exec h x (steps.Claim b candidates) r ≡ Ran a z) × Came n rest a z

    comes : (n : ℕ) (x : Outside) → Again n (q + 1) → (o : Option ℕ) → first_free (tables_of r).entries candidates ≡ o → Comes n (claim_from n sizes inode_type c m (q + 1)) x
    unfolding steps.exec
    comes n x again None e = (steps.NoInode, with_buffers r ss, ap (λ (o : Option ℕ). came_to h (steps.Claim b candidates) r (steps.claim_first h b r.state o)) e, no_inode n again)
    comes n x again (Some i) e =
        let found = found_passes (is_unreferenced (tables_of r).entries) candidates i e in
        let is = picked sizes.ninodes q bytes i found.1 in
        let unplaced = no_place (places.place_of i (tables_of r).entries) found.0 in
        let inside = bound i is unplaced in
        let ran : exec h x (steps.Claim b candidates) r ≡ came_to h (steps.Claim b candidates) r (steps.claims (steps.in_tables r.state (up_inode i (tables_of r)))) = ap (λ (o : Option ℕ). came_to h (steps.Claim b candidates) r (steps.claim_first h b r.state o)) e in
        let none = zero_refs i is unplaced in
        let room : has_place g i ≡ nat_lt (referenced g) place_count = ap (λ (k : ℕ). nat_lt 0 k || nat_lt (referenced g) place_count) none in
        by_place h i (tables_of r) g (loaded (tables_of r)) shows.tables is.low (subst (λ (k : ℕ). i < k) (sym shows.size) inside) (Comes n (claim_from n sizes inode_type c m (q + 1)) x)
        (λ t there has_room after. (
          steps.Claims i,
          claimed_below h lt inode_type r g shows inv i is.low inside (free i is unplaced) none may.1 t after,
          ran ∙ ap (λ (d : ExecResult (Option ℕ) TablesState). came_to h (steps.Claim b candidates) r (steps.claims (steps.in_tables r.state d))) there,
          takes i is unplaced t after n (claim_from n sizes inode_type c m (q + 1)) (sym room ∙ has_room),
        ))
        (λ there full.
        (steps.NoPlace, r, ran ∙ ap (λ (d : ExecResult (Option ℕ) TablesState). came_to h (steps.Claim b candidates) r (steps.claims (steps.in_tables r.state d))) there, gives_back n (claim_from n sizes inode_type c m (q + 1)) (sym room ∙ full)))

  -- ---- all blocks

  module _ (n q : ℕ) (sum : q + suc n ≡ inode_blocks sizes.ninodes) (again : Again n (q + 1)) (es : List l.Step) (w : W) (todo : Todo es w.seen) (looks : Looks w.real w.seen) (none : in_hand h w.real ≡ 0) where
    abbrev at : ℕ
    at = sizes.inodestart + q

    -- the block is one of the table's
    place : (v : World) (g : above.World) → Shows v g → (log_of v).sizes ≡ sizes → IsOutsideLog (log_of v).sizes at × (at < (log_of v).sizes.size)
    place v g shows size =
        let first : inodes_per_block * q < sizes.ninodes = omega (arith, sum) in
        let here : inode_block (log_of v).sizes.inodestart (inodes_per_block * q) ≡ at = ap (λ (z : Super). inode_block z.inodestart (inodes_per_block * q)) size ∙ ap (λ (k : ℕ). sizes.inodestart + k) (let e : (inodes_per_block * q) / inodes_per_block ≡ q = omega arith in e) in
        subst (λ (k : ℕ). IsOutsideLog (log_of v).sizes k × (k < (log_of v).sizes.size)) here (inode_place v g shows (inodes_per_block * q) (subst (λ (z : Super). inodes_per_block * q < z.ninodes) (sym size) first))

    one_block : Wp M h B Q (claim_from (suc n) sizes inode_type c m q) (claim_steps (suc n)) es w
    unfolding claim_from claim_steps
    one_block =
        s-fetch sizes l laws keeps h lt B Q Todo (to_act (labelled sizes.version l) (below sizes) laws (below_laws sizes l keeps) h B (Claim inode_type) m C lasts) at (claim_at (claim_from n sizes inode_type c m (q + 1)) sizes inode_type c m n q at) (suc (claim_steps n)) es w todo (omega (arith, none))
        (λ v fs here. place v.real v.seen here.shows (here.same.sizes ∙ looks.knows.0)) (empty_hand h at w.real none)
        (λ v fs got.
        let looks_v = looks_but at w.real v.real w.seen v.seen got.since got.kept looks in
        s-answered (labelled sizes.version l) (below sizes) laws (below_laws sizes l keeps) h B (Claim inode_type) m C lasts (steps.Claim at (free_in sizes.ninodes q (seen_of (log_of v.real) at))) (claim_mark inode_type m n) (claim_in (claim_from n sizes inode_type c m (q + 1)) kind at (seen_of (log_of v.real) at) c) Q (claim_steps n) fs v got.stage
        (λ u gs here may.
        let looks_u = looks_same v.real u.real v.seen u.seen here.same here.kept looks_v in
        let buffer = buffer_then h at (seen_of (log_of v.real) at) v.real u.real (here.same.buffers at) got.buffer in
        let one : in_hand h u.real ≡ 1 = here.same.held ∙ got.count ∙ ap suc none in
        let out = (place u.real u.seen here.shows looks_u.knows.0).0 in (
          lower_may q (seen_of (log_of v.real) at) u gs here.stage here.shows here.inv may looks_u buffer one out,
          λ x t. comes q (seen_of (log_of v.real) at) u gs here.stage here.shows here.inv may looks_u buffer one out n x again (first_free (tables_of u.real).entries (free_in sizes.ninodes q (seen_of (log_of v.real) at))) refl,
        )))

  all_blocks : (n q : ℕ) (es : List l.Step) (w : W) → q + suc n ≡ inode_blocks sizes.ninodes → Todo es w.seen → Looks w.real w.seen → in_hand h w.real ≡ 0 → Wp M h B Q (claim_from (suc n) sizes inode_type c m q) (claim_steps (suc n)) es w
  all_blocks zero q es w sum todo looks none = one_block zero q sum tt es w todo looks none
  all_blocks (suc n) q es w sum todo looks none = one_block (suc n) q sum (λ z fs next looks_z none_z. all_blocks n (q + 1) fs z (omega (arith, sum)) next looks_z none_z) es w todo looks none

  pub claim_acts : 0 < sizes.ninodes → sizes.ninodes < 65536 → (es : List l.Step) (w : W) → Todo es w.seen → Stands sizes h w.real w.seen c → HasSpent sizes h s w.real → Wp M h B Q (claim sizes inode_type c m) (suc (more (Claim inode_type))) es w
  claim_acts some most es w todo stands knows = by (inode_blocks sizes.ninodes) refl
    where
      looks : Looks w.real w.seen
      looks = record { taken = stands.0.taken; through = stands.0.through; hands = stands.0.inodes; lent = stands.0.lent; knows = knows }

      by : (k : ℕ) → inode_blocks sizes.ninodes ≡ k → Wp M h B Q (claim_from k sizes inode_type c m 0) (suc (more (Claim inode_type))) es w
      by zero e = absurd (omega (arith, e, some))
      by (suc n) e =
          let fewer = steps_are (suc n) in
          Wp-more M h (claim_from (suc n) sizes inode_type c m 0) B Q (claim_steps (suc n)) (suc (more (Claim inode_type))) es w (omega (arith, fewer, e, most)) (all_blocks n 0 es w (omega (arith, e)) todo looks stands.0.free)

-- and within what the operation spends
pub claim_within : (sizes : Super) (l : Labels) → Laws (labelled sizes.version l) → Keeps l → (h : ℕ) → h < hart_count → (inode_type : InodeType) → IsMade inode_type → HasInodes sizes → (m : above.ClaimResult → Option above.Mark) → ActsWithin sizes l h (Claim inode_type) m (claim sizes inode_type)
claim_within sizes l laws keeps h lt inode_type made inodes m c s B C es w lasts todo stands few has_ =
    stays_within sizes l h (Claim inode_type) m (claim sizes inode_type) ((programs_spend sizes).claim inode_type) c s B C (suc (more (Claim inode_type))) es w
    (claim_acts sizes l laws keeps h lt inode_type made m c s (omega (arith, few)) B C lasts inodes.some inodes.few es w todo stands has_) has_

pub claims_within : (sizes : Super) (inode_type : InodeType) → IsMade inode_type → HasInodes sizes → DoesItWithin sizes (Claim inode_type) (claim sizes inode_type)
claims_within sizes inode_type made inodes h s m c w lt few todo stands known =
    claim_within sizes alone (alone_laws sizes.version) alone_keeps h lt inode_type made inodes m c s (IsDone (Claim inode_type)) (Answers (Claim inode_type)) [] w (lasts_done sizes.version (Claim inode_type) h) todo stands few (stands.1, known)
