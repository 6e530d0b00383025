-- What is in the grammar is read.
use Rattle.script.proofs.Vocabulary.{◌≡◌, ℕ, Bool, true, false, List, cond, Option, Some, None, refl, ap, sym, ◌∙◌, none-some, bytes_eq-Decides, option_and_then, bytes_eq, codes, Kind, number_in, hart_in, bytes_in, value_after, Call, Open, Read, Write, Fill, Link, Unlink, Mkdir, Chdir, Dup, Fstat, Close, Inherit, Line, Start, Run, Step, Upto, End, All, line_in, call_in, kind_in, one_operand, two_operands, hart_with_call, with_one, with_two, HasCall, SaysCall, SaysLine, kind_word}
use Rattle.fs_machine.specs.declared.kind.Kind.TheVariants as kinds

one : {A C : Type 0} (f : A → C) (o : Option A) (a : A) → o ≡ Some a → with_one f o ≡ Some (f a)
one f o a is = ap (with_one f) is

two : {A B C : Type 0} (f : A → B → C) (o : Option A) (p : Option B) (a : A) (b : B) → o ≡ Some a → p ≡ Some b → with_two f o p ≡ Some (f a b)
two f o p a b is also = ap (λ x. with_two f x p) is ∙ ap (λ y. with_two f (Some a) y) also

kind_read : (kind : Kind) → kind_in (kind_word kind) ≡ Some kind
unfolding kind_in
kind_read kinds.Lock = refl
kind_read kinds.Unlock = refl
kind_read kinds.Get = refl
kind_read kinds.Read = refl
kind_read kinds.Put = refl
kind_read kinds.Join = refl
kind_read kinds.Leave = refl
kind_read kinds.Commit = refl
kind_read kinds.Up = refl
kind_read kinds.Down = refl
kind_read kinds.Slot = refl
kind_read kinds.Reply = refl

call_read : (call : Call) (words : List (List ℕ)) → SaysCall call words → call_in words ≡ Some call
unfolding call_in one_operand two_operands
call_read (Open path flags) words s = ap call_in s.words ∙ two Open (bytes_in s.one) (number_in s.two) path flags s.first s.second
call_read (Read fd count) words s = ap call_in s.words ∙ two Read (number_in s.one) (number_in s.two) fd count s.first s.second
call_read (Write fd bytes) words s = ap call_in s.words ∙ two Write (number_in s.one) (bytes_in s.two) fd bytes s.first s.second
call_read (Fill fd count) words s = ap call_in s.words ∙ two Fill (number_in s.one) (number_in s.two) fd count s.first s.second
call_read (Link old new) words s = ap call_in s.words ∙ two Link (bytes_in s.one) (bytes_in s.two) old new s.first s.second
call_read (Unlink path) words s = ap call_in s.words ∙ one Unlink (bytes_in s.one) path s.first
call_read (Mkdir path) words s = ap call_in s.words ∙ one Mkdir (bytes_in s.one) path s.first
call_read (Chdir path) words s = ap call_in s.words ∙ one Chdir (bytes_in s.one) path s.first
call_read (Dup fd) words s = ap call_in s.words ∙ one Dup (number_in s.one) fd s.first
call_read (Fstat fd) words s = ap call_in s.words ∙ one Fstat (number_in s.one) fd s.first
call_read (Close fd) words s = ap call_in s.words ∙ one Close (number_in s.one) fd s.first
call_read (Inherit child) words s = ap call_in s.words ∙ one Inherit (hart_in s.one) child s.first

hart_call_read : (h : ℕ) (call : Call) (words : List (List ℕ)) → HasCall h call words → hart_with_call words ≡ Some (h, call)
hart_call_read h call words s = ap hart_with_call s.words ∙ two (λ x c. (x, c)) (hart_in s.one) (call_in s.rest) h call s.hart (call_read call s.rest s.call)

upto_read : (h : ℕ) (k : Kind) (n : ℕ) (hart : Option ℕ) (kind : Option Kind) (steps : Option ℕ) → hart ≡ Some h → kind ≡ Some k → steps ≡ Some n
    → option_and_then (λ x. with_two (Upto x) kind steps) hart ≡ Some (Upto h k n)
upto_read h k n hart kind steps a b c = ap (λ o. option_and_then (λ x. with_two (Upto x) kind steps) o) a ∙ two (Upto h) kind steps k n b c

-- a word that says a hart is no verb
no_word : (word verb : List ℕ) (h : ℕ) → hart_in verb ≡ None → hart_in word ≡ Some h → bytes_eq word verb ≡ false
no_word word verb h none some = by (bytes_eq word verb) refl
  where
    by : (b : Bool) → bytes_eq word verb ≡ b → b ≡ false
    by false same = refl
    by true same = absurd (none-some h (sym none ∙ sym (ap hart_in ((bytes_eq-Decides word verb).0 same)) ∙ some))

else_ : {A : Type 0} (b : Bool) (x y z : A) → b ≡ false → y ≡ z → cond b x y ≡ z
else_ b x y z is same = ap (λ c. cond c x y) is ∙ same

pub line_read : (said : Line) (words : List (List ℕ)) → SaysLine said words → line_in words ≡ Some said
unfolding line_in value_after
line_read (Start h call) words s =
    ap line_in s.words
    ∙ else_ (bytes_eq s.one (codes "do")) _ _ _ (no_word s.one (codes "do") h refl s.hart)
    (else_ (bytes_eq s.one (codes "step")) _ _ _ (no_word s.one (codes "step") h refl s.hart)
    (else_ (bytes_eq s.one (codes "upto")) _ _ _ (no_word s.one (codes "upto") h refl s.hart)
    (else_ (bytes_eq s.one (codes "end")) _ _ _ (no_word s.one (codes "end") h refl s.hart)
    (else_ (bytes_eq s.one (codes "all")) _ _ _ (no_word s.one (codes "all") h refl s.hart)
    (ap (with_one (λ x. Start x.0 x.1)) (two (λ x c. (x, c)) (hart_in s.one) (call_in s.rest) h call s.hart (call_read call s.rest s.call)))))))
line_read (Run h call) words s = ap line_in s.words ∙ ap (with_one (λ x. Run x.0 x.1)) (hart_call_read h call s.rest s.call)
line_read (Step h n) words s = ap line_in s.words ∙ two Step (hart_in s.one) (number_in s.two) h n s.first s.second
line_read (Upto h k n) words s = ap line_in s.words ∙ upto_read h k n (hart_in s.one) (kind_in s.two) (number_in s.three) s.hart (ap kind_in s.kind ∙ kind_read k) s.steps
line_read (End h) words s = ap line_in s.words ∙ one End (hart_in s.one) h s.first
line_read All words s = ap line_in s
