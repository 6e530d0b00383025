-- A program that has an operation to make.
use Rattle.fs_machine.proofs.Vocabulary.{Ret, Do, bind, P, ◌<◌, ℕ, zero, suc, arith, commits, Hand, fetch_left, finish_left, FinishReady, Fetch, Finish}
use Rattle.fs_machine.specs.declared.fetch.Fetch.TheVariants as fetch
use Rattle.fs_machine.specs.declared.finish.Finish.TheVariants as finish

abbrev pub HasOne : {A : Type 0} → P A → Type 0
HasOne (Ret a) = ⊥
HasOne (Do op m k) = Unit {0}

-- so has one that begins with it
pub first : {A B : Type 0} (p : P A) (f : A → P B) → HasOne p → HasOne (bind p f)
first (Ret a) f has = absurd has
first (Do op m k) f has = tt

commits_has : (n : ℕ) → 0 < n → HasOne (commits n)
commits_has zero some = absurd (omega (arith, some))
commits_has (suc n) some = tt

pub finish_has : (m : Finish) (h : Hand) → FinishReady m h → HasOne (finish_left m h)
finish_has finish.Leave h ready = tt
finish_has (finish.Commit left) h ready = commits_has left ready.0

pub fetch_has : (m : Fetch) (h : Hand) → HasOne (fetch_left m h)
fetch_has (fetch.Get p b) h = tt
fetch_has (fetch.Read p b) h = tt
