-- The walks that a move loses fail, and what is kept is what the theory keeps.
use Rattle.tree_histories.proofs.Vocabulary.{◌≡◌, ℕ, ◌+◌, ◌⊎◌, inl, inr, ◌<◌, Bool, true, false, ◌&&◌, ◌||◌, not, List, length, get_or, Option, Some, None, Result, Ok, Err, IfOk, refl, sym, ◌∙◌, ap, subst, arith, add-one, if◌then◌else◌, option_map, length-set, cases_eq, Action, is_nothing, live_directory, hart_count, History, HartStanding, tells_any, writes_any, Free, Busy, Move, Stage, fail, all_fall, falls, lost, lost_of, unless, Makes, stage_by, told_by_move, mark_in, Mark, action_in, call_in, Walk, Deed, IsBook, StandsAs, KeptTree, Under, hart_in, is_lost, stage_of, walk_under, walking, written, HaveFallen, IsMoved, MayMake, MovesBy, NoneFalls, OnlyMoves, StaysFor, Tells, TellsOf, WereLost, makes_none, told_in, walk_of, spoils, KeepsRest, SameCalls, written_by, written_unless}
use Rattle.path_walk.specs.declared.asks.Mark.TheVariants as mark
use Rattle.std.proofs.Common.{get_or-set_other, get_or-set_same}
use Rattle.std.proofs.Math.ListN.{set}
use Rattle.tree_histories.proofs.Booked.{book_tells, book_written}
use Rattle.tree_histories.proofs.Harts.{stage_written}

-- ---- a lost walk

is_some : {A : Type 0} (o : Option A) → not (is_nothing o) ≡ true → (x : A) × (o ≡ Some x)
is_some None h = absurd cc
is_some (Some x) h = (x, refl)

is_none : {A : Type 0} (o : Option A) → not (is_nothing o) ≡ false → o ≡ None
is_none None h = refl
is_none (Some x) h = absurd cc

pub lost_nobody : (k : KeptTree) (h : ℕ) → hart_in k h ≡ None → false ≡ is_lost (stage_of k) h
lost_nobody k h is = sym (ap (λ (o : Option Under). not (is_nothing (lost (stage_of k).tree (walk_under k.version o)))) is)

-- who has lost a walk has a call
has_call : (k : KeptTree) (h : ℕ) → is_lost (stage_of k) h ≡ true → (u : Under) × (hart_in k h ≡ Some u)
has_call k h is = go (hart_in k h) refl
  where
    go : (o : Option Under) → hart_in k h ≡ o → (u : Under) × (hart_in k h ≡ Some u)
    go None q = absurd (let z : false ≡ true = lost_nobody k h q ∙ is in cc)
    go (Some u) q = (u, q)

-- ---- the walks that fall

unless_lost : (a b : Option Deed) → not (is_nothing a) ≡ true → unless a b ≡ None
unless_lost None b h = absurd cc
unless_lost (Some x) b h = refl

unless_none : (a : Option Deed) → unless a None ≡ None
unless_none None = refl
unless_none (Some x) = refl

unless_new : (a b : Option Deed) → not (is_nothing a) ≡ false → unless a b ≡ b
unless_new None b h = refl
unless_new (Some x) b h = absurd cc

all_more : (m m' : Stage) (n : ℕ) (b : History) → all_fall m m' (n + 1) b ≡ writes_any (falls m m' n) n (all_fall m m' n b)
unfolding all_fall
all_more m m' n b = rw (add-one n) refl

-- one test for both
two_true : (a b : Bool) → (not a && b) ≡ true → (a ≡ false) × (b ≡ true)
two_true true b h = absurd cc
two_true false b h = (refl, h)

one_false : (a b : Bool) → (not a && b) ≡ false → (a ≡ true) ⊎ (b ≡ false)
one_false true b h = inl refl
one_false false b h = inr h

-- an entry changes the list alone
written_by_rest : (k : KeptTree) (h : ℕ) (d : Deed) (o : Option Under) → KeepsRest k (written_by k h d o)
written_by_rest k h d None = (refl, refl, refl)
written_by_rest k h d (Some u) = (refl, refl, refl)

written_rest : (k : KeptTree) (h : ℕ) (d : Deed) → KeepsRest k (written k h d)
written_rest k h d = written_by_rest k h d (hart_in k h)

unless_rest : (k : KeptTree) (h : ℕ) (o : Option Deed) (was : Bool) → KeepsRest k (written_unless k h o was)
unless_rest k h None was = (refl, refl, refl)
unless_rest k h (Some d) true = (refl, refl, refl)
unless_rest k h (Some d) false = written_rest k h d

-- k0: as the walks begin to fail; k1: with those of the harts below n
pub record Fallen (before : List Bool) (k0 k1 : KeptTree) (n : ℕ) : Type 0 where
  pub stage : stage_of k1 ≡ stage_of k0
  pub book : (m : Stage) (b : History) → WereLost before m → IsBook k0 b → IsBook k1 (all_fall m (stage_of k0) n b)
  pub none : WereLost before (stage_of k0) → k1 ≡ k0
  pub rest : KeepsRest k0 k1

module _ (before : List Bool) (k0 k1 : KeptTree) (n : ℕ) (lt : n < hart_count) (so_far : Fallen before k0 k1 n) where
  now : is_lost (stage_of k1) n ≡ is_lost (stage_of k0) n
  now = ap (λ (x : Stage). is_lost x n) so_far.stage

  stays : (m : Stage) (b : History) → WereLost before m → IsBook k0 b → falls m (stage_of k0) n ≡ None → IsBook k1 (all_fall m (stage_of k0) (n + 1) b)
  stays m b were B none =
      subst (λ (x : History). IsBook k1 x) (sym (all_more m (stage_of k0) n b))
      (subst (λ (o : Option Deed). IsBook k1 (writes_any o n (all_fall m (stage_of k0) n b))) (sym none) (so_far.book m b were B))

  none_of : (get_or before n false ≡ true) ⊎ (is_lost (stage_of k1) n ≡ false) → (m : Stage) → WereLost before m → falls m (stage_of k0) n ≡ None
  none_of (inl is) m were = unless_lost (lost_of m n) (lost_of (stage_of k0) n) (sym (were n lt) ∙ is)
  none_of (inr is) m were = ap (unless (lost_of m n)) (is_none (lost_of (stage_of k0) n) (sym now ∙ is)) ∙ unless_none (lost_of m n)

  -- the walk was lost before, or isn't
  pub fallen_not : (r : Bool) → r ≡ (not (get_or before n false) && is_lost (stage_of k1) n) → r ≡ false → Fallen before k0 k1 (n + 1)
  fallen_not r tests is =
      let why = one_false (get_or before n false) (is_lost (stage_of k1) n) (sym tests ∙ is) in
      record { stage = so_far.stage; book = λ m b were B. stays m b were B (none_of why m were); none = so_far.none; rest = so_far.rest }

  module _ (k2 : KeptTree) (not_yet : get_or before n false ≡ false) (is : is_lost (stage_of k1) n ≡ true) (d : Deed) (fails : lost_of (stage_of k1) n ≡ Some d) (kept : k2 ≡ written k1 n d) where
    fell : (m : Stage) → WereLost before m → falls m (stage_of k0) n ≡ Some d
    fell m were =
        unless_new (lost_of m n) (lost_of (stage_of k0) n) (sym (were n lt) ∙ not_yet) ∙ (sym (ap (λ (x : Stage). lost_of x n) so_far.stage) ∙ fails)

    book_now : (m : Stage) (b : History) → WereLost before m → IsBook k0 b → IsBook k2 (all_fall m (stage_of k0) (n + 1) b)
    book_now m b were B =
        let u : (x : Under) × (hart_in k1 n ≡ Some x) = has_call k1 n is in
        subst (λ (x : KeptTree). IsBook x (all_fall m (stage_of k0) (n + 1) b)) (sym kept)
        (subst (λ (x : History). IsBook (written k1 n d) x) (sym (all_more m (stage_of k0) n b))
        (subst (λ (o : Option Deed). IsBook (written k1 n d) (writes_any o n (all_fall m (stage_of k0) n b))) (sym (fell m were))
        (book_written k1 (all_fall m (stage_of k0) n b) n d u.0 lt u.1 (so_far.book m b were B))))

    falls_now : Fallen before k0 k2 (n + 1)
    falls_now = record {
      stage = ap stage_of kept ∙ (stage_written k1 n d ∙ so_far.stage);
      book = book_now;
      none = λ were. absurd (let z : false ≡ true = sym not_yet ∙ (were n lt ∙ (sym now ∙ is)) in cc);
      rest = let w = written_rest k1 n d in (
        ap (λ (x : KeptTree). x.harts) kept ∙ (w.0 ∙ so_far.rest.0),
        ap (λ (x : KeptTree). x.full) kept ∙ (w.1 ∙ so_far.rest.1),
        ap (λ (x : KeptTree). x.version) kept ∙ (w.2 ∙ so_far.rest.2),
      );
    }

  pub fallen_now : (k2 : KeptTree) (r : Bool) → r ≡ (not (get_or before n false) && is_lost (stage_of k1) n) → r ≡ true
      → ((d : Deed) → lost_of (stage_of k1) n ≡ Some d → k2 ≡ written k1 n d) → Fallen before k0 k2 (n + 1)
  fallen_now k2 r tests is kept =
      let both : (get_or before n false ≡ false) × (is_lost (stage_of k1) n ≡ true) = two_true (get_or before n false) (is_lost (stage_of k1) n) (sym tests ∙ is) in
      let d : (x : Deed) × (lost_of (stage_of k1) n ≡ Some x) = is_some (lost_of (stage_of k1) n) both.1 in
      falls_now k2 both.0 both.1 d.0 d.1 (kept d.0 d.1)

-- the failing step of a lost walk is the walk's own
lost_is : (k : KeptTree) (h : ℕ) (u : Under) (w : Walk) (d : Deed) → hart_in k h ≡ Some u → u.walk ≡ Some w → lost_of (stage_of k) h ≡ Some d
    → fail (walk_of k.version (call_in u.whole) w).step ≡ d
lost_is k h u w d there on fails =
    by_live (live_directory ((stage_of k).tree.nodes w.directory))
    (sym (ap (λ (o : Option Under). lost (stage_of k).tree (walk_under k.version o)) there ∙ ap (λ (o : Option Walk). lost (stage_of k).tree (option_map (walk_of k.version (call_in u.whole)) o)) on) ∙ fails)
  where
    by_live : (b : Bool) → ◌≡◌ {A = Option Deed} (if b then None else Some (fail (walk_of k.version (call_in u.whole) w).step)) (Some d) → fail (walk_of k.version (call_in u.whole) w).step ≡ d
    by_live true q = absurd cc
    by_live false q = cc

pub walk_fails : {E : Type 0} (r : Result (Unit {0}) E) (k k' : KeptTree) (h : ℕ) (u : Under) (w : Walk) (a : Action) (x : Deed) → hart_in k h ≡ Some u → u.walk ≡ Some w
    → a ≡ (walk_of k.version (call_in u.whole) w).step → x ≡ fail a → IfOk r (λ _. k' ≡ written k h x) → (d : Deed) → lost_of (stage_of k) h ≡ Some d → IfOk r (λ _. k' ≡ written k h d)
walk_fails (Err e) k k' h u w a x there on is failed kept d fails = tt
walk_fails (Ok v) k k' h u w a x there on is failed kept d fails =
    kept ∙ ap (λ (y : Deed). written k h y) (failed ∙ (ap fail is ∙ lost_is k h u w d there on fails))

pub fallen_first : (before : List Bool) (k : KeptTree) → Fallen before k k 0
unfolding all_fall
fallen_first before k = record { stage = refl; book = λ m b were B. B; none = λ were. refl; rest = (refl, refl, refl) }

-- the walks that are lost, as far as they were looked at
pub lost_more : (m : Stage) (xs : List Bool) (n i : ℕ) (b : Bool) → i ≡ n → n < 8 → b ≡ is_lost m n → (length xs ≡ 8) × ((h : ℕ) → h < n → get_or xs h false ≡ is_lost m h)
    → (length (set xs i b) ≡ 8) × ((h : ℕ) → h < n + 1 → get_or (set xs i b) h false ≡ is_lost m h)
lost_more m xs n i b at lt is so_far = (length-set xs i b ∙ so_far.0, each)
  where
    each : (h : ℕ) → h < n + 1 → get_or (set xs i b) h false ≡ is_lost m h
    each h le = elim (cases_eq h i) [
      | inl e ↦ ap (λ (j : ℕ). get_or (set xs i b) j false) e ∙ (get_or-set_same xs i b false (let l = so_far.0 in omega arith) ∙ (is ∙ ap (is_lost m) (sym at ∙ sym e)))
      | inr ne ↦ get_or-set_other xs i h b false ne ∙ so_far.1 h (omega arith)
    ]

-- ---- a move

stands_same : (o p : Option Under) (s : HartStanding) → option_map (walking None) o ≡ option_map (walking None) p → StandsAs p s → StandsAs o s
stands_same None p s h x = tt
stands_same (Some u) None s h x = absurd cc
stands_same (Some u) (Some v) Free h x = x
stands_same (Some u) (Some v) (Busy id c told) h x =
    let same : walking None u ≡ walking None v = (let q : Some (walking None u) ≡ Some (walking None v) = h in cc) in
    ap (λ (y : Under). y.id) same ∙ x

there_before : (o p : Option Under) (u : Under) → option_map (walking None) o ≡ option_map (walking None) p → o ≡ Some u → (v : Under) × (p ≡ Some v)
there_before None p u h q = absurd cc
there_before (Some x) None u h q = absurd cc
there_before (Some x) (Some v) u h q = (v, refl)

book_only : (k0 k1 : KeptTree) (b : History) → OnlyMoves k0 k1 → IsBook k0 b → IsBook k1 b
book_only k0 k1 b only B = record {
  harts = only.count ∙ B.harts;
  list = only.list ∙ B.list;
  events = only.events ∙ B.events;
  calls = only.calls ∙ B.calls;
  stands = λ g gt. stands_same (hart_in k1 g) (hart_in k0 g) (b.calls g) (only.harts g) (B.stands g gt);
}

module _ (k0 k1 : KeptTree) (h : ℕ) (lt : h < hart_count) (u : Under) (is : hart_in k0 h ≡ Some u) (only : OnlyMoves k0 k1) (b : History) (B : IsBook k0 b) where
  told_book : (told : Option Deed) (d : Option Deed) (was : Bool) → d ≡ told → was ≡ is_lost (stage_of k0) h
      → IsBook (written_unless k1 h d was) (writes_any (unless (lost_of (stage_of k0) h) told) h b)
  told_book None d was is_told is_was =
      subst (λ (o : Option Deed). IsBook (written_unless k1 h o was) (writes_any (unless (lost_of (stage_of k0) h) None) h b)) (sym is_told)
      (subst (λ (o : Option Deed). IsBook k1 (writes_any o h b)) (sym (unless_none (lost_of (stage_of k0) h))) (book_only k0 k1 b only B))
  told_book (Some x) d true is_told is_was =
      subst (λ (o : Option Deed). IsBook (written_unless k1 h o true) (writes_any (unless (lost_of (stage_of k0) h) (Some x)) h b)) (sym is_told)
      (subst (λ (o : Option Deed). IsBook k1 (writes_any o h b)) (sym (unless_lost (lost_of (stage_of k0) h) (Some x) (sym is_was))) (book_only k0 k1 b only B))
  told_book (Some x) d false is_told is_was =
      let there = there_before (hart_in k0 h) (hart_in k1 h) u (sym (only.harts h)) is in
      subst (λ (o : Option Deed). IsBook (written_unless k1 h o false) (writes_any (unless (lost_of (stage_of k0) h) (Some x)) h b)) (sym is_told)
      (subst (λ (o : Option Deed). IsBook (written k1 h x) (writes_any o h b)) (sym (unless_new (lost_of (stage_of k0) h) (Some x) (sym is_was)))
      (book_written k1 b h x there.0 lt there.1 (book_only k0 k1 b only B)))

told_stage : (k : KeptTree) (h : ℕ) (m : Mark) (d : Option Deed) (was : Bool) → stage_of (told_in k h m d was) ≡ stage_of k
told_stage k h m None was = refl
told_stage k h m (Some d) true = refl
told_stage k h m (Some d) false = stage_written k h d

-- whether there was no room is in no book
book_full : (k : KeptTree) (b : History) (full : Bool) → IsBook k b → IsBook (record k { full = full }) b
book_full k b full B = record { harts = B.harts; list = B.list; events = B.events; calls = B.calls; stands = B.stands }

-- a move's mark says nothing of room
makes_room : (s : Action) (m : Mark) (v : Move) → mark_in s m ≡ Makes v → spoils m ≡ false
makes_room s mark.Begin v e = refl
makes_room s (mark.Look new) v e = refl
makes_room s mark.GiveUpWalk v e = refl
makes_room s mark.Own v e = refl
makes_room s (mark.Truncate fd) v e = refl
makes_room s mark.Bump v e = refl
makes_room s mark.Unbump v e = refl
makes_room s (mark.Piece i) v e = refl
makes_room s (mark.PartOfPiece i n) v e = absurd cc
makes_room s (mark.Frees n) v e = refl
makes_room s (mark.Orphans n) v e = refl
makes_room s mark.Mends v e = absurd cc
makes_room s mark.Fills v e = absurd cc

or_false : (b : Bool) → (b || false) ≡ b
or_false true = refl
or_false false = refl

-- k0: before the move; k1: the tree has made it; k2: what it tells is written; k3: the walks that it loses have failed
module _ (k0 k1 k2 k3 : KeptTree) (h : ℕ) (m : Mark) (d : Option Deed) (was : Bool) (before : List Bool) (were : WereLost before (stage_of k0)) (kept : k2 ≡ told_in k1 h m d was) where
  makes_so : OnlyMoves k0 k1 → TellsOf k0 h m d k1 → was ≡ is_lost (stage_of k0) h → stage_of k3 ≡ stage_of k2 → HaveFallen before k2 k3 → KeepsRest k2 k3
      → (u : Under) (v : Move) → hart_in k0 h ≡ Some u → mark_in (action_in u.whole) m ≡ Makes v → MayMake k0.version (stage_of k0) h v → IsMoved k0 h v k3
  makes_so only tells is_was same fallen rest u v is made may =
      let t : Tells k0 h v d k1 = tells u v is made may in
      let stage2 : stage_of k2 ≡ stage_by k0.version (stage_of k0) h t.id v = ap stage_of kept ∙ (told_stage k1 h m d was ∙ t.stage) in
      record {
        id = t.id;
        least = t.least;
        stage = same ∙ stage2;
        full = rest.1 ∙ (ap (λ (x : KeptTree). x.full) kept
            ∙ ((λ i. t.full i || makes_room (action_in u.whole) m v made i) ∙ or_false k0.full));
        book = λ b B.
            let told : Option Deed = told_by_move k0.version (stage_of k0) h t.id v in
            let book2 : IsBook k2 (writes_any (unless (lost_of (stage_of k0) h) told) h b) =
            subst (λ (x : KeptTree). IsBook x (writes_any (unless (lost_of (stage_of k0) h) told) h b)) (sym kept)
            (book_full (written_unless k1 h d was) _ (k1.full || spoils m) (told_book k0 k1 h may.hart u is only b B told d was t.told is_was)) in
            subst (λ (n : Stage). IsBook k3 (all_fall (stage_of k0) n hart_count (tells_any told h (writes_any (unless (lost_of (stage_of k0) h) told) h b)))) stage2
            (fallen (stage_of k0) (tells_any told h (writes_any (unless (lost_of (stage_of k0) h) told) h b)) were
            (book_tells k2 (writes_any (unless (lost_of (stage_of k0) h) told) h b) h told may.hart book2));
      }

  still_so : StaysFor k0 m d k1 → NoneFalls before k2 k3 → makes_none m ≡ true → k3 ≡ record k0 { full = k0.full || spoils m }
  still_so stays none makes =
      let x = stays makes in
      let same : k2 ≡ record k0 { full = k0.full || spoils m } =
      kept ∙ (ap (λ (o : Option Deed). told_in k1 h m o was) x.0 ∙ ap (λ (k : KeptTree). told_in k h m None was) x.1) in
      none (λ g lt. were g lt ∙ ap (λ (k : KeptTree). is_lost (stage_of k) g) (sym same)) ∙ same

  calls_so : OnlyMoves k0 k1 → KeepsRest k2 k3 → SameCalls k0 k3
  calls_so only rest g =
      ap (λ (x : List (Option Under)). option_map (walking None) (get_or x g None)) (rest.0 ∙ (ap (λ (x : KeptTree). x.harts) kept ∙ (unless_rest k1 h d was).0))
      ∙ only.harts g

  full_is : KeepsRest k2 k3 → k3.full ≡ (k1.full || spoils m)
  full_is rest = rest.1 ∙ ap (λ (x : KeptTree). x.full) kept

  pub moved_so : OnlyMoves k0 k1 → TellsOf k0 h m d k1 → StaysFor k0 m d k1 → was ≡ is_lost (stage_of k0) h → stage_of k3 ≡ stage_of k2
      → HaveFallen before k2 k3 → NoneFalls before k2 k3 → KeepsRest k2 k3 → MovesBy k0 h m k3
  moved_so only tells stays is_was same fallen none rest = record {
    makes = makes_so only tells is_was same fallen rest;
    still = still_so stays none;
    calls = calls_so only rest;
    grows = λ known. full_is rest ∙ ap (λ (b : Bool). b || spoils m) (only.grows known);
    version = rest.2 ∙ (ap (λ (x : KeptTree). x.version) kept ∙ ((unless_rest k1 h d was).2 ∙ only.version));
  }

pub moves_on_so : {E : Type 0} (r : Result (Unit {0}) E) (k0 k1 k2 k3 : KeptTree) (h : ℕ) (m : Mark) (d : Option Deed) (was : Bool) (before : List Bool) → WereLost before (stage_of k0) → k2 ≡ told_in k1 h m d was
    → length k1.harts ≡ hart_count → OnlyMoves k0 k1 → TellsOf k0 h m d k1 → StaysFor k0 m d k1 → was ≡ is_lost (stage_of k0) h → IfOk r (λ _. stage_of k3 ≡ stage_of k2) → IfOk r (λ _. HaveFallen before k2 k3) → IfOk r (λ _. NoneFalls before k2 k3)
    → IfOk r (λ _. KeepsRest k2 k3) → IfOk r (λ _. MovesBy k0 h m k3)
moves_on_so (Err e) k0 k1 k2 k3 h m d was before were kept count only tells stays is_was same fallen none rest = tt
moves_on_so (Ok x) k0 k1 k2 k3 h m d was before were kept count only tells stays is_was same fallen none rest =
    moved_so k0 k1 k2 k3 h m d was before were kept only tells stays is_was same fallen none rest
