-- No transaction of a call records more than ten blocks: from what the calls' programs ask for.
use Rattle.call_programs.proofs.Vocabulary.{Version, ◌≡◌, inl, inr, ℕ, ◌+◌, ◌≤◌, ◌==◌, List, [], ◌∷◌, length, Bool, true, false, Option, refl, subst, arith, if◌then◌else◌, either, eq_self, Ret, Do, Call, Reply, Op, Answer, Mark, program, Down, Free, Claim, Store, Fill, Enter, Clear, Empty, JoinFile, WriteFile, Join, P, HasRoom, Spent, TransactionsAreSmall, size, spent_after, unspent, with_bitmap, with_contents, with_record, nat_tests, Asks, AsksSo, Before, HasRoomFor, IsIn, MayRecord, Spending, after, fresh, holding, more, naming, spending_after}
use Rattle.inode_machine.proofs.Counting.{one_most}
use Rattle.inode_machine.specs.Budget.{has}
use Rattle.call_programs.proofs.Calls.{calls_ask}

-- how many of these aren't recorded yet
missing : List ℕ → List ℕ → ℕ
missing [] ks = 0
missing (n ∷ ns) ks = (if has ks n then 0 else 1) + missing ns ks

-- of these inodes, the bitmap and other blocks no more than b
abbrev Within : List ℕ → ℕ → Spent → Type 0
Within ns b s = missing ns s.records + length s.records + 1 + s.contents ≤ b

one_at_most : (t : Bool) → (if t then 0 else 1) ≤ 1
one_at_most true = omega arith
one_at_most false = omega arith

missing_less : (ns ks : List ℕ) (n : ℕ) → missing ns (n ∷ ks) ≤ missing ns ks
unfolding missing
missing_less [] ks n = omega arith
missing_less (k ∷ ns) ks n = let more = missing_less ns ks n in elim (either (k == n)) [
  | inl is ↦ rw is (let a = one_at_most (has ks k) in omega (arith, more))
  | inr isnt ↦ rw isnt (omega (arith, more))
]

missing_one : (ns ks : List ℕ) (n : ℕ) → IsIn n ns → has ks n ≡ false → missing ns (n ∷ ks) + 1 ≤ missing ns ks
unfolding missing
missing_one [] ks n at none = absurd at
missing_one (k ∷ ns) ks n (inl is) none =
    let here : (k == n) ≡ true = subst (λ (z : ℕ). (z == n) ≡ true) is (eq_self n) in
    let out : has ks k ≡ false = subst (λ (z : ℕ). has ks z ≡ false) is none in
    let more = missing_less ns ks n in
    rw (here, out) (omega (arith, more))
missing_one (k ∷ ns) ks n (inr at) none = let more = missing_one ns ks n at none in elim (either (k == n)) [
  | inl is ↦ rw is (let a = one_at_most (has ks k) in omega (arith, more))
  | inr isnt ↦ rw isnt (omega (arith, more))
]

fits : (ns : List ℕ) (b : ℕ) (s : Spent) → Within ns b s → b ≤ 10 → size s ≤ 10
fits ns b s within le = let a = one_most s.bitmap in omega (arith, a, within, le)

recorded : (ns : List ℕ) (b n : ℕ) (s : Spent) → IsIn n ns → Within ns b s → Within ns b (with_record n s)
recorded ns b n s at within = elim (either (has s.records n)) [
  | inl is ↦ rw is within
  | inr isnt ↦ let less = missing_one ns s.records n at isnt in rw isnt (omega (arith, less, within))
]

named : (ns : List ℕ) (b n : ℕ) (s : Spent) → Within ns b s → Within (n ∷ ns) (b + 1) s
unfolding missing
named ns b n s within = let a = one_at_most (has s.records n) in omega (arith, a, within)

start_within : Within [] 1 unspent
unfolding missing
start_within = omega arith

-- ---- what a program asks for

-- what was recorded is of what was named
abbrev Fits : Spending → Spent → Type 0
Fits b t = Within b.named b.bound t × (b.bound ≤ 10)

at_most : (k : ℕ) → HasRoomFor k → k ≤ 10
at_most k e = grind (arith, nat_tests)

small : (b : Spending) (t : Spent) → Fits b t → size t ≤ 10
small b t f = fits b.named b.bound t f.0 f.1

names : (b : Spending) (n : ℕ) (may : MayRecord b n) (t : Spent) → Fits b t → Fits (naming b n may) t
names b n (inl at) t f = f
names b n (inr room) t f = (named b.named b.bound n t f.0, at_most (b.bound + 1) room)

records : (b : Spending) (n : ℕ) (may : MayRecord b n) (t : Spent) → Fits b t → Fits (naming b n may) (with_record n t)
records b n (inl at) t f = (recorded b.named b.bound n t at f.0, f.1)
records b n (inr room) t f = (recorded (n ∷ b.named) (b.bound + 1) n t (inl refl) (named b.named b.bound n t f.0), at_most (b.bound + 1) room)

adds : (k : ℕ) (b : Spending) (t : Spent) → HasRoomFor (b.bound + k) → Fits b t → Fits (more k b) (with_contents k t)
adds k b t room f = (let w = f.0 in omega (arith, w), at_most (b.bound + k) room)

begins : Fits fresh unspent
begins = (start_within, omega arith)

module _ (version : Version) (call : Call) where
  -- .. after each operation
  spends : (s : Before) (t : Spent) → Fits s.spending t → (op : Op) (m : Answer op → Option Mark) (k : Answer op → P Reply) (is : Asks version call s op m k) → Fits (spending_after version call s op m k is) (spent_after op t)
  spends s t f (Down n) m k is = names s.spending n is.1 t f
  spends s t f (Free n) m k is = records s.spending n is.1.0 (with_bitmap t) f
  spends s t f (Claim inode_type) m k is = adds 1 s.spending t is.1.1 f
  spends s t f (Store n count) m k is = records s.spending n is.1 t f
  spends s t f (Fill n d) m k is = adds 1 (naming s.spending n is.1.0) (with_record n (with_bitmap t)) is.1.1 (records s.spending n is.1.0 (with_bitmap t) f)
  spends s t f (Enter d e n) m k is = adds 2 (naming s.spending d is.1.1.0) (with_record d (with_bitmap t)) is.1.1.1 (records s.spending d is.1.1.0 (with_bitmap t) f)
  spends s t f (Clear d e) m k is = adds 1 (naming s.spending d is.1.0) (with_record d t) is.1.1 (records s.spending d is.1.0 t f)
  spends s t f (Empty n) m k is = records s.spending n is.1 (with_bitmap t) f
  spends s t f (WriteFile fd n offset bytes) m k is = adds 5 (naming s.spending n is.1.1.0) (with_record n (with_bitmap t)) is.1.1.1 (records s.spending n is.1.1.0 (with_bitmap t) f)
  spends s t f Join m k is = begins
  spends s t f (JoinFile fd) m k is = begins
  spends s t f op m k is = f

  room : (s : Before) (t : Spent) → Fits s.spending t → (p : P Reply) → AsksSo version call s p → HasRoom t p
  room s t f (Ret r) so = tt
  room s t f (Do op m k) so =
      let g = spends s t f op m k so.0 in (small (spending_after version call s op m k so.0) (spent_after op t) g, λ a. room (after version call s op m k so.0 a) (spent_after op t) g (k a) (so.1 a))

pub transactions_are_small : (version : Version) → TransactionsAreSmall version
transactions_are_small version call = room version call (holding [] fresh []) unspent begins (program version call) (calls_ask version call)
