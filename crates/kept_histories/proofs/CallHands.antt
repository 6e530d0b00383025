-- Each call's program takes so: what its program asks for names inodes that are in hand.
use Rattle.std.specs.Prelude.{◌≡◌, ◌≤◌, ℕ, ◌+◌, ◌==◌, Bool, true, false, List, [], ◌∷◌, Option, Some, None}
use Rattle.calls_on_blocks.proofs.Vocabulary.{ap, subst, inl, inr, arith}
use Rattle.atomic_programs.specs.Prog.{Ret, Do}
use Rattle.inode_machine.specs.Inodes.{Query, AtNothing, AtName, AtEntries}
use Rattle.inode_machine.specs.Parts.{P}
use Rattle.inode_machine.specs.Programs.{program}
use Rattle.inode_machine.specs.World.{Op, Answer, Mark}
use Rattle.inode_machine.specs.World.Op.{Take, UnlockInode, UpStart, Up, WalkDown, Store, StatFile, LockFile, LockOpen, Join}
use Rattle.plain_tree.specs.declared.answer.Reply.{Reply}
use Rattle.plain_tree.specs.declared.call.Call.{Call}
use Rattle.inode_machine.proofs.Vocabulary.{eq_self}
use Rattle.call_programs.specs.Asks as asks
use Rattle.call_programs.specs.Asks.{Before, DropsFrom, Follows, Held, InHand, IsIn, May, fresh, holding, without}
use Rattle.call_programs.proofs.Calls.{calls_ask}
use Rattle.kept_histories.proofs.Hands.{AsksSo, DropsInHand, Hands, IsFollowed, TakesInHand, TakesSo, after, down, one, started, still, up}
use Rattle.image_versions.specs.declared.version.Version.{Version}

-- ---- a list of what is in hand

count : ℕ → List ℕ → ℕ
count n [] = 0
count n (k ∷ ks) = one (k == n) + count n ks

in_counts : (n : ℕ) (ks : List ℕ) → IsIn n ks → 1 ≤ count n ks
unfolding count
in_counts n [] at = absurd at
in_counts n (k ∷ ks) (inl is) = let here : (k == n) ≡ true = subst (λ (z : ℕ). (z == n) ≡ true) is (eq_self n) in rw here (omega arith)
in_counts n (k ∷ ks) (inr at) = let low = in_counts n ks at in omega (arith, low)

less_one : (n j : ℕ) (ks : List ℕ) (at : IsIn n ks) → count j (without ks n at) + one (n == j) ≡ count j ks
unfolding count
less_one n j [] at = absurd at
less_one n j (k ∷ ks) (inl is) = let same : one (n == j) ≡ one (k == j) = ap (λ (z : ℕ). one (z == j)) is in omega (arith, same)
less_one n j (k ∷ ks) (inr at) = let rest = less_one n j ks at in omega (arith, rest)

-- ---- what is in hand by the program's text is in hand

Shows : Option Held → Option Hands → Type 0
Shows None None = Unit {0}
Shows (Some x) (Some g) = ((n : ℕ) → count n x.has ≤ g.has n) × ((n : ℕ) → x.last ≡ Some n → g.last ≡ Some n)
Shows h g = ⊥

none_last : (n : ℕ) (g : Option ℕ) → ◌≡◌ {A = Option ℕ} None (Some n) → g ≡ Some n
none_last n g e = absurd cc

shows_still : (h : Option Held) (g : Option Hands) → Shows h g → Shows (asks.still h) (still g)
unfolding Shows
shows_still None None is = is
shows_still None (Some g) is = absurd is
shows_still (Some x) None is = absurd is
shows_still (Some x) (Some g) is = (is.0, λ n e. none_last n None e)

shows_up : (n : ℕ) (b : Bool) (h : Option Held) (g : Option Hands) → Shows h g → Shows (asks.up n b h) (up n b g)
unfolding Shows count
shows_up n b None None is = is
shows_up n b None (Some g) is = absurd is
shows_up n b (Some x) None is = absurd is
shows_up n true (Some x) (Some g) is = (λ k. let low = is.0 k in omega (arith, low), λ k e. e)
shows_up n false (Some x) (Some g) is = (is.0, λ k e. none_last k None e)

shows_started : (o : Option ℕ) (h : Option Held) (g : Option Hands) → Shows h g → Shows (asks.started o h) (started o g)
unfolding Shows count
shows_started o None None is = is
shows_started o None (Some g) is = absurd is
shows_started o (Some x) None is = absurd is
shows_started None (Some x) (Some g) is = (is.0, λ k e. none_last k None e)
shows_started (Some d) (Some x) (Some g) is = (λ k. let low = is.0 k in omega (arith, low), λ k e. none_last k None e)

shows_down : (n : ℕ) (h : Option Held) (g : Option Hands) (at : DropsFrom h n) → Shows h g → Shows (asks.down n h at) (down n g)
unfolding Shows
shows_down n None None at is = is
shows_down n None (Some g) at is = absurd is
shows_down n (Some x) None at is = absurd is
shows_down n (Some x) (Some g) at is = (λ k. (let low = is.0 k in let less = less_one n k x.has at in omega (arith, low, less)), λ k e. none_last k None e)

-- ---- what is asked

takes_in : (n : ℕ) (looking : Query) (h : Option Held) (g : Option Hands) → Shows h g → InHand h n looking → TakesInHand g n looking
unfolding Shows
takes_in n looking None g is at = absurd at
takes_in n looking (Some x) None is at = absurd is
takes_in n AtNothing (Some x) (Some g) is at = let low = in_counts n x.has at in let more = is.0 n in omega (arith, low, more)
takes_in n (AtName e) (Some x) (Some g) is at = let low = in_counts n x.has at in let more = is.0 n in omega (arith, low, more)
takes_in n AtEntries (Some x) (Some g) is at = ((let low = in_counts n x.has at.0 in let more = is.0 n in omega (arith, low, more)), is.1 n at.1)

follows : (h : Option Held) (g : Option Hands) → Shows h g → Follows h → IsFollowed g
unfolding Shows
follows None g is on = absurd on
follows (Some x) None is on = absurd is
follows (Some x) (Some g) is on = tt

drops : (n : ℕ) (h : Option Held) (g : Option Hands) → Shows h g → DropsFrom h n → DropsInHand g n
unfolding Shows
drops n h None is at = tt
drops n None (Some g) is at = absurd is
drops n (Some x) (Some g) is at = let low = in_counts n x.has at in let more = is.0 n in omega (arith, low, more)

module _ (version : Version) (call : Call) where
  asks_so : (s : Before) (g : Option Hands) → Shows s.held g → (op : Op) (m : Answer op → Option Mark) (k : Answer op → P Reply) → May version call s op m k
      → AsksSo g op m
  asks_so s g is (Take n looking) m k (inl alike) = inl alike
  asks_so s g is (Take n looking) m k (inr at) = inr (takes_in n looking s.held g is at)
  asks_so s g is (Up n) m k may = may
  asks_so s g is (WalkDown n) m k may = drops n s.held g is may
  asks_so s g is (StatFile fd) m k may = may
  asks_so s g is (LockOpen fd n) m k may = may
  asks_so s g is (LockFile fd) m k may = (follows s.held g is may.0, may.1)
  asks_so s g is op m k may = tt

  goes_on : (s : Before) (g : Option Hands) → Shows s.held g → (op : Op) (m : Answer op → Option Mark) (k : Answer op → P Reply) (may : asks.Asks version call s op m k) (a : Answer op)
      → Shows (asks.after version call s op m k may a).held (after op a g)
  unfolding Shows
  goes_on s g is (Take n looking) m k may a = shows_still s.held g is
  goes_on s g is (UnlockInode n) m k may a = shows_still s.held g is
  goes_on s g is (UpStart absolute) m k may a = shows_started a s.held g is
  goes_on s g is (Up n) m k may a = shows_up n a s.held g is
  goes_on s g is (WalkDown n) m k may a = shows_down n s.held g may.1 is
  goes_on s g is (Store n number) m k may a = shows_still s.held g is
  goes_on s g is Join m k may a = shows_still s.held g is
  goes_on s g is op m k may a = tt

  takes : (s : Before) (g : Option Hands) → Shows s.held g → (p : P Reply) → asks.AsksSo version call s p → TakesSo g p
  takes s g is (Ret r) so = tt
  takes s g is (Do op m k) so = (asks_so s g is op m k so.0.1, λ a. takes (asks.after version call s op m k so.0 a) (after op a g) (goes_on s g is op m k so.0 a) (k a) (so.1 a))

pub takes_so : (version : Version) (g : Hands) (call : Call) → TakesSo (Some g) (program version call)
unfolding Shows count
takes_so version g call =
    takes version call (holding [] fresh []) (Some g) (λ n. omega arith, λ n e. none_last n g.last e) (program version call) (calls_ask version call)
