-- What a program records in its hart's transaction, by its text: the blocks that it names, and a count of more.
use Rattle.run_laws.proofs.Vocabulary.{◌≡◌, ◌≤◌, ◌&&◌, ℕ, Bool, true, false, List, [], ◌∷◌, ◌++◌, length, Option, Some, None, if◌then◌else◌, refl, sym, ap, subst, arith, length-append, slice_get, Super, one_if, Open, has, members_with, one_more, with_block, pick, Ret, Do, bind, LogPart, AnswerBelow as Answer, JoinToWrite, Op, Put, inode_block, Spent, size, with_contents, Accounts, IsSpent, recorded_in, used, Acts, NoMore, other_put, spent_put, has_last, put_grows, AreAtMostTen, recorded_after}
use Rattle.fs_machine.specs.Steps.{Join}
use Rattle.inodes_on_blocks.specs.Handlers.{P}
use Rattle.inode_machine.proofs.Counting.{one_most}

abbrev pub Recorded : Type 0
Recorded = Option (List ℕ)

-- ---- whatever its steps are answered

-- a transaction is joined by a hart that is in none
abbrev pub JoinsApart : Op → Recorded → Type 0
JoinsApart Join o = o ≡ None
JoinsApart (JoinToWrite fd) o = o ≡ None
JoinsApart op o = Unit {0}

-- From here on the hart's transaction has recorded at most ten blocks before each step, and Q is of its end.
abbrev pub StaysSmall : {A : Type 0} → Recorded → P A → (A → Recorded → Type 0) → Type 0
StaysSmall o (Ret a) Q = Q a o
StaysSmall o (Do op m k) Q = AreAtMostTen o × (JoinsApart op o → (a : Answer op) → StaysSmall (recorded_after op a o) (k a) Q)

pub small_bind : {A B : Type 0} (p : P A) (f : A → P B) (Q : A → Recorded → Type 0) (R : B → Recorded → Type 0) (o : Recorded) → StaysSmall o p Q
    → ((a : A) (u : Recorded) → Q a u → StaysSmall u (f a) R) → StaysSmall o (bind p f) R
small_bind (Ret a) f Q R o stays then_ = then_ a o stays
small_bind (Do op m k) f Q R o stays then_ = (stays.0, λ apart a. small_bind (k a) f Q R (recorded_after op a o) (stays.1 apart a) then_)

pub small_to : {A : Type 0} (p : P A) (Q R : A → Recorded → Type 0) (o : Recorded) → StaysSmall o p Q → ((a : A) (u : Recorded) → Q a u → R a u)
    → StaysSmall o p R
small_to (Ret a) Q R o stays to = to a o stays
small_to (Do op m k) Q R o stays to = (stays.0, λ apart a. small_to (k a) Q R (recorded_after op a o) (stays.1 apart a) to)

-- ---- amounts

one_less : (t u : Bool) → one_if (t && u) ≤ one_if t
unfolding one_if
one_less true u = one_most u
one_less false u = let z : 0 ≤ 0 = omega arith in z

few_records : (sizes : Super) (ks ns : List ℕ) → recorded_in sizes ks ns ≤ length ns
few_records sizes ks [] = omega arith
few_records sizes ks (n ∷ ns) =
    let a = one_most (has ks (inode_block sizes.inodestart n)) in
    let more = few_records sizes ks ns in
    omega (arith, a, more)

module _ (sizes : Super) where
  -- a log in which the transaction is alone, so that the group has what it recorded
  abbrev pub alone : List ℕ → LogPart
  alone blocks = record {
    contents = [];
    failures = 0;
    seats = [];
    sizes = sizes;
    group = blocks;
    members = Some (length blocks) ∷ [];
    phase = Open;
  }

  -- what was spent covers what was recorded
  abbrev pub Covers : Recorded → Spent → Type 0
  Covers None s = Unit {0}
  Covers (Some blocks) s = length blocks ≤ used (alone blocks) s

  -- the block was recorded
  abbrev pub Has : ℕ → Recorded → Type 0
  Has b None = Unit {0}
  Has b (Some blocks) = has blocks b ≡ true

  abbrev pub put_on : ℕ → Recorded → Recorded
  put_on b o = recorded_after (Put b (Some [])) tt o

  pub small_of : (o : Recorded) (s : Spent) → Covers o s → size s ≤ 10 → AreAtMostTen o
  small_of None s covers few = tt
  small_of (Some blocks) s covers few =
      let a = few_records sizes blocks s.records in
      let b = one_less s.bitmap (has blocks sizes.bmapstart) in
      omega (arith, a, b, covers, few)

  pub covers_more : (s t : Spent) (o : Recorded) → NoMore s t → Covers o s → Covers o t
  covers_more s t None more covers = tt
  covers_more s t (Some blocks) more covers = let m = more (alone blocks) in omega (arith, covers, m)

  -- as an account of that log
  accounts : (blocks : List ℕ) (s : Spent) → length blocks ≤ used (alone blocks) s → Accounts 0 (alone blocks) s
  accounts blocks s covers k e = let same : length blocks ≡ k = cc e in omega (arith, covers, same)

  counted : (blocks : List ℕ) (b : ℕ)
      → slice_get (members_with blocks b (Some (length blocks) ∷ []) 0) 0 ≡ Some (Some (length (with_block blocks b)))
  counted blocks b = by (has blocks b)
    where
      by : (there : Bool)
          → slice_get (if there then Some (length blocks) ∷ [] else one_more (Some (length blocks) ∷ []) 0) 0
          ≡ Some (Some (length (if there then blocks else blocks ++ b ∷ [])))
      by true = refl
      by false = ap (λ (n : ℕ). Some (Some n)) (sym (length-append blocks (b ∷ [])))

  pub covers_named : (b : ℕ) (s : Spent) (o : Recorded) → IsSpent sizes s b → Covers o s → Covers (put_on b o) s
  covers_named b s None is covers = tt
  covers_named b s (Some blocks) is covers =
      spent_put 0 (alone blocks) b [] s (accounts blocks s covers) is (length (with_block blocks b)) (counted blocks b)

  pub covers_other : (b : ℕ) (s : Spent) (o : Recorded) → Covers o s → Covers (put_on b o) (with_contents 1 s)
  covers_other b s None covers = tt
  covers_other b s (Some blocks) covers =
      other_put 0 (alone blocks) b [] s (accounts blocks s covers) (length (with_block blocks b)) (counted blocks b)

  -- one that was recorded before
  pub covers_again : (b : ℕ) (s : Spent) (o : Recorded) → Has b o → Covers o s → Covers (put_on b o) s
  covers_again b s None had covers = tt
  covers_again b s (Some blocks) had covers =
      subst (λ (t : Bool). length (if t then blocks else blocks ++ b ∷ []) ≤ used (alone (if t then blocks else blocks ++ b ∷ [])) s)
      (sym had) covers

  pub put_has : (b : ℕ) (o : Recorded) → Has b (put_on b o)
  put_has b None = tt
  put_has b (Some blocks) =
      pick (has blocks b) (λ t. has (if t then blocks else blocks ++ b ∷ []) b ≡ true) (λ e. e) (λ _. has_last blocks b)

  pub has_still : (b c : ℕ) (o : Recorded) → Has c o → Has c (put_on b o)
  has_still b c None had = tt
  has_still b c (Some blocks) had = put_grows blocks b c had

  -- ---- programs

  -- if s covers what was recorded, t does after the program
  pub record Within (s : Spent) {A : Type 0} (p : P A) (t : Spent) : Type 0 where
    pub stays : (o : Recorded) → Covers o s → StaysSmall o p (λ a u. Covers u t)

  abbrev pub IsStill : Op → Type 0
  IsStill op = (a : Answer op) (o : Recorded) → recorded_after op a o ≡ o

  pub ended : {A : Type 0} {a : A} {s : Spent} → Within s (Ret a) s
  ended = record { stays = λ o covers. covers }

  pub ended_with : {A : Type 0} {a : A} {s t : Spent} → NoMore s t → Within s (Ret a) t
  ended_with {s} {t} more = record { stays = λ o covers. covers_more s t o more covers }

  pub from : {A : Type 0} {p : P A} {s t u : Spent} → NoMore s t → Within t p u → Within s p u
  from {s} {t} more within = record { stays = λ o covers. within.stays o (covers_more s t o more covers) }

  pub upto : {A : Type 0} (p : P A) {s t u : Spent} → NoMore t u → Within s p t → Within s p u
  upto p {s} {t} {u} more within = record {
    stays = λ o covers. small_to p (λ a v. Covers v t) (λ a v. Covers v u) o (within.stays o covers) (λ a v c. covers_more t u v more c);
  }

  pub then_ : {A B : Type 0} (p : P A) (f : A → P B) {s t u : Spent} → Within s p t → ((a : A) → Within t (f a) u) → Within s (bind p f) u
  then_ p f {s} {t} {u} first rest = record {
    stays = λ o covers. small_bind p f (λ a v. Covers v t) (λ a v. Covers v u) o (first.stays o covers) (λ a v c. (rest a).stays v c);
  }

  pub either_way : {A : Type 0} (b : Bool) (p q : P A) {s t : Spent} → Within s p t → Within s q t → Within s (if b then p else q) t
  either_way true p q yes_ no_ = yes_
  either_way false p q yes_ no_ = no_

  -- a step that records nothing
  pub quiet : {A : Type 0} {op : Op} {m : Answer op → Option Acts} {k : Answer op → P A} {s t : Spent} → size s ≤ 10 → IsStill op
      → ((a : Answer op) → Within s (k a) t) → Within s (Do op m k) t
  quiet {k} {s} {t} few still rest = record {
    stays = λ o covers. (
      small_of o s covers few,
      λ _ a. subst (λ (z : Recorded). StaysSmall z (k a) (λ x u. Covers u t)) (sym (still a o)) ((rest a).stays o covers),
    );
  }

  -- one that records a block that s names
  pub records : {A : Type 0} {b : ℕ} {bytes : List ℕ} {m : Unit {0} → Option Acts} {k : Unit {0} → P A} {s t : Spent} → size s ≤ 10
      → IsSpent sizes s b → ((a : Unit {0}) → Within s (k a) t) → Within s (Do (Put b (Some bytes)) m k) t
  records {b} {s} few is rest = record {
    stays = λ o covers. (small_of o s covers few, λ _ a. (rest a).stays (put_on b o) (covers_named b s o is covers));
  }

  -- and one more
  pub records_one : {A : Type 0} {b : ℕ} {bytes : List ℕ} {m : Unit {0} → Option Acts} {k : Unit {0} → P A} {s t : Spent} → size s ≤ 10
      → ((a : Unit {0}) → Within (with_contents 1 s) (k a) t) → Within s (Do (Put b (Some bytes)) m k) t
  records_one {b} {s} few rest = record {
    stays = λ o covers. (small_of o s covers few, λ _ a. (rest a).stays (put_on b o) (covers_other b s o covers));
  }
