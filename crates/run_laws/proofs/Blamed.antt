-- What a call has wanted when it ends for want of a room: while it goes on, one of its operations so far, or of those that are left.
use Rattle.run_laws.proofs.Vocabulary.{◌≡◌, ◌⊎◌, inl, inr, ℕ, List, [], ◌∷◌, Option, None, refl, subst, Full, Reply, In, Wp, onto, Ret, Do, MoveStep, counted_down, P, Inv, machine, Answer, Mark, Room, laws, HasWanted, IsRunOf, Operation, Version}
use Rattle.plain_tree.specs.declared.answer.Answer.TheVariants as answers
use Rattle.inode_machine.specs.World.{World}
use Rattle.run_laws.proofs.Running.{some_answer}
use Rattle.call_programs.specs.Asks.{GivesBack}
use Rattle.run_laws.proofs.WantsCalls.{Blames, goes_or}

-- ---- lists

pub in_front : {A : Type 0} (x : A) (xs ys : List A) → In x ys → In x (onto xs ys)
in_front x [] ys i = i
in_front x (z ∷ zs) ys i = in_front x zs (z ∷ ys) (inr i)

pub in_back : {A : Type 0} (x : A) (xs ys : List A) → In x xs → In x (onto xs ys)
in_back x [] ys i = absurd i
in_back x (z ∷ zs) ys (inl q) = in_front x zs (z ∷ ys) (inl q)
in_back x (z ∷ zs) ys (inr i) = in_back x zs (z ∷ ys) i

-- ---- what doesn't come about

-- Who forgets an inode has no lock of it, and who gives its lock up has that.
never_comes : (version : Version) (h : ℕ) (B : List MoveStep → Type 0) (Q : Reply → List MoveStep → World → Type 0) (i n : ℕ) (p : P Reply)
    (es : List MoveStep) (w : World) → GivesBack i p → Inv w → Wp (machine version) h B Q p n es w → ⊥
never_comes version h B Q i n p es w g inv runs =
    let u : World = counted_down h i w in
    let forgets = subst (λ (z : P Reply). Wp (machine version) h B Q z n es w) g.forgets runs in
    let first = forgets w [] ((laws version).same h w) inv in
    let f = first.2 Room tt in
    let gives = subst (λ (z : P Reply). Wp (machine version) h B Q z f.left es u) g.gives f.next in
    let second = gives u [] ((laws version).same h u) f.inv in
    first.1.1.1 second.1.1

-- ---- as a call goes on

-- some run of a program
pub some_run : {A : Type 0} (p : P A) → (es : List Operation) × (r : A) × IsRunOf p es r
some_run (Ret a) = ([], a, refl)
some_run (Do op m k) =
    let x = some_run (k (some_answer op)) in (
      record { op = op; answer = some_answer op; mark = m (some_answer op); told = None } ∷ x.0,
      x.1,
      (some_answer op, None, refl, x.2),
    )

module _ (version : Version) (room : Full) where
  -- these operations were made, the newest first, and p is left: if the call ends for want of the room, one wanted it
  abbrev pub IsBlamed : P Reply → List Operation → Type 0
  IsBlamed p fs = HasWanted fs room ⊎ Blames version room p

  -- in that run one of its operations did
  pub some_wanted : (p : P Reply) → Blames version room p → (some_run p).1.answer ≡ answers.Full room → HasWanted (some_run p).0 room
  unfolding some_run
  some_wanted (Ret r) b full = absurd (b full)
  some_wanted (Do op m k) b full = elim (b.1 (some_answer op)) [
    | inl want ↦ (record { op = op; answer = some_answer op; mark = m (some_answer op); told = None }, inl refl, want)
    | inr later ↦ elim (goes_or version room op (some_answer op) (k (some_answer op)) (Blames version room (k (some_answer op))) later) [
      | inl never ↦ absurd (never.3 refl)
      | inr does ↦ let x = some_wanted (k (some_answer op)) does full in (x.0, inr x.1, x.2)
    ]
  ]

  pub ends_wanted : (fs : List Operation) (r : Reply) → IsBlamed (Ret r) fs → r.answer ≡ answers.Full room → HasWanted (onto fs []) room
  ends_wanted fs r (inl w) full = (w.0, in_back w.0 fs [] w.1, w.2)
  ends_wanted fs r (inr b) full = absurd (b full)

  pub begun_wanted : (p : P Reply) (fs : List Operation) → IsBlamed p fs → (some_run p).1.answer ≡ answers.Full room
      → HasWanted (onto fs (some_run p).0) room
  begun_wanted p fs (inl w) full = (w.0, in_back w.0 fs (some_run p).0 w.1, w.2)
  begun_wanted p fs (inr b) full = let x = some_wanted p b full in (x.0, in_front x.0 fs (some_run p).0 x.1, x.2)

  -- an operation was made, after which the program is right still
  pub blamed_on : (h : ℕ) (B : List MoveStep → Type 0) (Q : Reply → List MoveStep → World → Type 0) (fs : List Operation) (e : Operation)
      (m : Answer e.op → Option Mark) (k : Answer e.op → P Reply) (n : ℕ) (es : List MoveStep) (w : World)
      → IsBlamed (Do e.op m k) fs → Inv w → Wp (machine version) h B Q (k e.answer) n es w → IsBlamed (k e.answer) (e ∷ fs)
  blamed_on h B Q fs e m k n es w (inl x) inv runs = inl (x.0, inr x.1, x.2)
  blamed_on h B Q fs e m k n es w (inr b) inv runs = elim (b.1 e.answer) [
    | inl want ↦ inl (e, inl refl, want)
    | inr later ↦ elim (goes_or version room e.op e.answer (k e.answer) (Blames version room (k e.answer)) later) [
      | inl never ↦ absurd (never_comes version h B Q never.1 n (k e.answer) es w never.2 inv runs)
      | inr does ↦ inr does
    ]
  ]
