-- How programs in one another go on.
use Rattle.fs_machine.proofs.Vocabulary.{◌≡◌, ℕ, List, [], Option, Some, None, refl, ap, IsSome, is_some, true, false, option_map_or, MatchOption, unwrap_or, Ret, Do, bind, once, unmarked, GuardState, BufferState, P, fetch, read_unless, bytes_of, Hand, Place, Answer, buffer_at, block_at, bytes_at, answer_in, content_at, Goes}
use Rattle.fs_machine.specs.Steps as steps
use Rattle.fs_machine.specs.declared.op.Op.TheVariants as ops

-- a program that goes on does so within another
pub goes_bind : {A B : Type 0} (p q : P A) (f : A → P B) (answer : (o : steps.Op) → steps.Answer o) → Goes p answer q → Goes (bind p f) answer (bind q f)
goes_bind (Ret a) q f answer goes = absurd goes
goes_bind (Do o m k) q f answer goes = ap (λ (p : P _). bind p f) goes

-- a buffer was got
pub got_valid : (p : Place) (b : ℕ) (a : Answer) (h : Hand) → is_some (content_at p h) ≡ true → Goes (fetch b) (answer_in (ops.Get p b) a h) (Ret (bytes_at p h))
unfolding answer_in
got_valid p b a h valid = at (buffer_at p h) valid
  where
    at : (o : Option (GuardState BufferState)) → is_some (option_map_or (λ (g : GuardState BufferState). g.value.content) o None) ≡ true
        → let got : P (List ℕ) = read_unless b (option_map_or (λ (g : GuardState BufferState). g.value.content) o None) in got ≡ Ret (option_map_or bytes_of o [])
    at None e = absurd (cc e)
    at (Some g) e = within g.value.content e
      where
        within : (o : Option (List ℕ)) → is_some o ≡ true → let got : P (List ℕ) = read_unless b o in got ≡ Ret (unwrap_or o [])
        within None e = absurd (cc e)
        within (Some x) e = refl

pub got_unread : (p : Place) (b : ℕ) (a : Answer) (h : Hand) → is_some (content_at p h) ≡ false → Goes (fetch b) (answer_in (ops.Get p b) a h) (once (steps.Read b) unmarked)
unfolding answer_in
got_unread p b a h invalid = there (content_at p h) invalid
  where
    there : (o : Option (List ℕ)) → is_some o ≡ false → let got : P (List ℕ) = read_unless b o in got ≡ once (steps.Read b) unmarked
    there None e = refl
    there (Some x) e = absurd (cc e)

pub was_read : (p : Place) (b : ℕ) (a : Answer) (h : Hand) → let p_read : P (List ℕ) = once (steps.Read b) unmarked in Goes p_read (answer_in (ops.Read p) a h) (Ret (bytes_at p h))
unfolding answer_in
was_read p b a h = refl

-- a valid buffer of this block is there
pub block_of : (p : Place) (h : Hand) (b : ℕ) → MatchOption (buffer_at p h) ⊥ (λ g. IsSome g.value.content × (g.value.block ≡ b)) → block_at p h ≡ b
block_of p h b there = at (buffer_at p h) there
  where
    at : (o : Option (GuardState BufferState)) → MatchOption o ⊥ (λ g. IsSome g.value.content × (g.value.block ≡ b)) → option_map_or (λ (g : GuardState BufferState). g.value.block) o 0 ≡ b
    at None there = absurd there
    at (Some g) there = there.1
