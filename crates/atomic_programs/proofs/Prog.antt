-- Laws of programs.
use Rattle.atomic_programs.proofs.Vocabulary.{◌≡◌, Option, Some, refl, ap, ◌∙◌, Prog, Ret, Do, bind, unmarked, marked, plain, ExecResult, Waits, Ran, Stops, OperationResult, Ended, StillWaits, WentOn, Broke, went, advance, asks, OfNext, exec_result_in, moved_in}

pub bind-assoc : {Op : Type 0} {Answer : Op → Type 0} {M A B C : Type 0} (p : Prog Op Answer M A) (f : A → Prog Op Answer M B) (g : B → Prog Op Answer M C) → bind (bind p f) g ≡ bind p (λ a. bind (f a) g)
bind-assoc (Ret a) f g = refl
bind-assoc (Do op m k) f g = λ i. Do op m (λ x. bind-assoc (k x) f g i)

-- a mark at the end changes nothing but marks
pub plain-marked : {Op : Type 0} {Answer : Op → Type 0} {M A : Type 0} (p : Prog Op Answer M A) (f : A → Option M) → plain (marked p f) ≡ plain p
plain-marked (Ret a) f = refl
plain-marked (Do op m k) f = λ i. Do op unmarked (λ x. plain-marked (k x) f i)

-- of a program in parts the marks go part by part
pub plain-bind : {Op : Type 0} {Answer : Op → Type 0} {M A B : Type 0} (p : Prog Op Answer M A) (f : A → Prog Op Answer M B) → plain (bind p f) ≡ bind (plain p) (λ a. plain (f a))
plain-bind (Ret a) f = refl
plain-bind (Do op m k) f = λ i. Do op unmarked (λ x. plain-bind (k x) f i)

pub asks-plain : {Op : Type 0} {Answer : Op → Type 0} {M A : Type 0} (p : Prog Op Answer M A) → asks (plain p) ≡ asks p
asks-plain (Ret a) = refl
asks-plain (Do op m k) = refl

module _ {Op : Type 0} {Answer : Op → Type 0} {K S : Type 0} (kind : (op : Op) → Answer op → K) (exec : (op : Op) → S → ExecResult (Answer op) S) {M A B : Type 0} where
  -- what a program moves to, in a larger one
  abbrev pub moved_bind : (A → Prog Op Answer M B) → OperationResult K (Prog Op Answer M A) S → OperationResult K (Prog Op Answer M B) S
  moved_bind f Ended = Ended
  moved_bind f StillWaits = StillWaits
  moved_bind f (WentOn k p s) = WentOn k (bind p f) s
  moved_bind f (Broke s) = Broke s

  -- a program in a larger one moves as it does alone
  pub advance-bind : (p : Prog Op Answer M A) (f : A → Prog Op Answer M B) (s : S) (op : Op) → asks p ≡ Some op → advance kind exec (bind p f) s ≡ moved_bind f (advance kind exec p s)
  advance-bind (Ret a) f s op e = cc
  advance-bind (Do op' m k) f s op e = go (exec op' s)
    where
      go : (r : ExecResult (Answer op') S) → went op' (kind op') (λ x. bind (k x) f) r ≡ moved_bind f (went op' (kind op') k r)
      go Waits = refl
      go (Ran a t) = refl
      go (Stops t) = refl

-- a program whose next operation is of a part of the state moves the whole as it moves the part
pub advance-within : {Op : Type 0} {Answer : Op → Type 0} {K M A S T : Type 0} (kind : (op : Op) → Answer op → K) (exec : (op : Op) → S → ExecResult (Answer op) S) (whole : (op : Op) → T → ExecResult (Answer op) T) (into : S → T) (p : Prog Op Answer M A) (s : S)
    → ((op : Op) → asks p ≡ Some op → whole op (into s) ≡ exec_result_in into (exec op s)) → advance kind whole p (into s) ≡ moved_in into (advance kind exec p s)
advance-within kind exec whole into (Ret a) s same = refl
advance-within {Op} {Answer} {K} {M} {A} {S} {T} kind exec whole into (Do op m k) s same = ap (went op (kind op) k) (same op refl) ∙ go (exec op s)
  where
    go : (r : ExecResult (Answer op) S) → went op (kind op) k (exec_result_in into r) ≡ moved_in into (went op (kind op) k r)
    go Waits = refl
    go (Ran a t) = refl
    go (Stops t) = refl

-- A premise of the next operation, in a larger program and in a part of the state.
pub next-bind : {Op : Type 0} {Answer : Op → Type 0} {M A B S : Type 0} (Premise : Op → S → Type 0) (p : Prog Op Answer M A) (f : A → Prog Op Answer M B) (s : S) → OfNext Premise (asks (bind p f)) s → OfNext Premise (asks p) s
next-bind Premise (Ret a) f s t = tt
next-bind Premise (Do op m k) f s t = t

pub bind-next : {Op : Type 0} {Answer : Op → Type 0} {M A B S : Type 0} (Premise : Op → S → Type 0) (p : Prog Op Answer M A) (f : A → Prog Op Answer M B) (s : S) (op : Op) → asks p ≡ Some op → OfNext Premise (asks p) s → OfNext Premise (asks (bind p f)) s
bind-next Premise (Ret a) f s op e t = cc
bind-next Premise (Do op' m k) f s op e t = t

pub next-marked : {Op : Type 0} {Answer : Op → Type 0} {M A S : Type 0} (Premise : Op → S → Type 0) (p : Prog Op Answer M A) (f : A → Option M) (s : S) → OfNext Premise (asks p) s → OfNext Premise (asks (marked p f)) s
next-marked Premise (Ret a) f s t = tt
next-marked Premise (Do op m k) f s t = t

-- a premise of a part of the state is one of the whole, and the other way round
pub next-map : {Op : Type 0} {Answer : Op → Type 0} {M A S T : Type 0} (Here : Op → S → Type 0) (There : Op → T → Type 0) (p : Prog Op Answer M A) (s : S) (t : T)
    → ((op : Op) → asks p ≡ Some op → Here op s → There op t) → OfNext Here (asks p) s → OfNext There (asks p) t
next-map Here There (Ret a) s t same x = tt
next-map Here There (Do op m k) s t same x = same op refl x
