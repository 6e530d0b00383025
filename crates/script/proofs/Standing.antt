-- What is read is in the grammar.
use Rattle.script.proofs.Vocabulary.{◌≡◌, ℕ, Bool, true, false, List, [], ◌∷◌, cond, Option, Some, None, refl, ap, sym, ◌∙◌, subst, none-some, same_Some, bytes_eq-Decides, option_and_then, bytes_eq, codes, Kind, number_in, hart_in, bytes_in, Call, Open, Read, Write, Fill, Link, Unlink, Mkdir, Chdir, Dup, Fstat, Close, Inherit, Line, Start, Run, Step, Upto, End, line_in, call_in, kind_in, one_operand, two_operands, hart_with_call, do_in, start_in, step_in, upto_in, end_in, all_in, with_one, with_two, HasCall, SaysCall, SaysLine, IsKind, kind_word}

-- ---- what an answer came from

nothing : {A : Type 0} (a : A) {P : Type 0} → None ≡ Some a → P
nothing a is = absurd (none-some a is)

of_one : {A C : Type 0} (f : A → C) (o : Option A) (c : C) (P : C → Type 0) → with_one f o ≡ Some c → ((a : A) → o ≡ Some a → P (f a)) → P c
of_one f None c P is k = nothing c is
of_one f (Some a) c P is k = subst P (same_Some _ _ is) (k a refl)

of_two : {A B C : Type 0} (f : A → B → C) (o : Option A) (p : Option B) (c : C) (P : C → Type 0) → with_two f o p ≡ Some c → ((a : A) (b : B) → o ≡ Some a → p ≡ Some b → P (f a b)) → P c
of_two f None p c P is k = nothing c is
of_two f (Some a) None c P is k = nothing c is
of_two f (Some a) (Some b) c P is k = subst P (same_Some _ _ is) (k a b refl refl)

of_bind : {A C : Type 0} (o : Option A) (f : A → Option C) (c : C) {P : Type 0} → option_and_then f o ≡ Some c → ((a : A) → o ≡ Some a → f a ≡ Some c → P) → P
of_bind None f c is k = nothing c is
of_bind (Some a) f c is k = k a refl is

-- of two answers the one that was given
given : {A : Type 0} (b : Bool) (x y : Option A) (a : A) {P : Type 0} → cond b x y ≡ Some a → (b ≡ true → x ≡ Some a → P) → (y ≡ Some a → P) → P
given true x y a is first second = first refl is
given false x y a is first second = second is

same : (word verb : List ℕ) → bytes_eq word verb ≡ true → word ≡ verb
same word verb = (bytes_eq-Decides word verb).0

-- ---- calls

one_says : (verb a : List ℕ) (call : Call) → one_operand verb a ≡ Some call → SaysCall call (verb ∷ a ∷ [])
unfolding one_operand
one_says verb a call is =
    given (bytes_eq verb (codes "unlink")) _ _ call is (λ t s. of_one Unlink (bytes_in a) call (λ c. SaysCall c (verb ∷ a ∷ [])) s (λ x r. record { one = a; words = ap (λ v. v ∷ a ∷ []) (same verb (codes "unlink") t); first = r })) (λ is1.
    given (bytes_eq verb (codes "mkdir")) _ _ call is1 (λ t s. of_one Mkdir (bytes_in a) call (λ c. SaysCall c (verb ∷ a ∷ [])) s (λ x r. record { one = a; words = ap (λ v. v ∷ a ∷ []) (same verb (codes "mkdir") t); first = r })) (λ is2.
    given (bytes_eq verb (codes "chdir")) _ _ call is2 (λ t s. of_one Chdir (bytes_in a) call (λ c. SaysCall c (verb ∷ a ∷ [])) s (λ x r. record { one = a; words = ap (λ v. v ∷ a ∷ []) (same verb (codes "chdir") t); first = r })) (λ is3.
    given (bytes_eq verb (codes "dup")) _ _ call is3 (λ t s. of_one Dup (number_in a) call (λ c. SaysCall c (verb ∷ a ∷ [])) s (λ x r. record { one = a; words = ap (λ v. v ∷ a ∷ []) (same verb (codes "dup") t); first = r })) (λ is4.
    given (bytes_eq verb (codes "fstat")) _ _ call is4 (λ t s. of_one Fstat (number_in a) call (λ c. SaysCall c (verb ∷ a ∷ [])) s (λ x r. record { one = a; words = ap (λ v. v ∷ a ∷ []) (same verb (codes "fstat") t); first = r })) (λ is5.
    given (bytes_eq verb (codes "close")) _ _ call is5 (λ t s. of_one Close (number_in a) call (λ c. SaysCall c (verb ∷ a ∷ [])) s (λ x r. record { one = a; words = ap (λ v. v ∷ a ∷ []) (same verb (codes "close") t); first = r })) (λ is6.
    given (bytes_eq verb (codes "inherit")) _ _ call is6 (λ t s. of_one Inherit (hart_in a) call (λ c. SaysCall c (verb ∷ a ∷ [])) s (λ x r. record { one = a; words = ap (λ v. v ∷ a ∷ []) (same verb (codes "inherit") t); first = r })) (λ is7.
    nothing call is7)))))))

two_say : (verb a b : List ℕ) (call : Call) → two_operands verb a b ≡ Some call → SaysCall call (verb ∷ a ∷ b ∷ [])
unfolding two_operands
two_say verb a b call is =
    given (bytes_eq verb (codes "open")) _ _ call is (λ t s. of_two Open (bytes_in a) (number_in b) call (λ c. SaysCall c (verb ∷ a ∷ b ∷ [])) s (λ x y r q. record { one = a; two = b; words = ap (λ v. v ∷ a ∷ b ∷ []) (same verb (codes "open") t); first = r; second = q })) (λ is1.
    given (bytes_eq verb (codes "read")) _ _ call is1 (λ t s. of_two Read (number_in a) (number_in b) call (λ c. SaysCall c (verb ∷ a ∷ b ∷ [])) s (λ x y r q. record { one = a; two = b; words = ap (λ v. v ∷ a ∷ b ∷ []) (same verb (codes "read") t); first = r; second = q })) (λ is2.
    given (bytes_eq verb (codes "write")) _ _ call is2 (λ t s. of_two Write (number_in a) (bytes_in b) call (λ c. SaysCall c (verb ∷ a ∷ b ∷ [])) s (λ x y r q. record { one = a; two = b; words = ap (λ v. v ∷ a ∷ b ∷ []) (same verb (codes "write") t); first = r; second = q })) (λ is3.
    given (bytes_eq verb (codes "fill")) _ _ call is3 (λ t s. of_two Fill (number_in a) (number_in b) call (λ c. SaysCall c (verb ∷ a ∷ b ∷ [])) s (λ x y r q. record { one = a; two = b; words = ap (λ v. v ∷ a ∷ b ∷ []) (same verb (codes "fill") t); first = r; second = q })) (λ is4.
    given (bytes_eq verb (codes "link")) _ _ call is4 (λ t s. of_two Link (bytes_in a) (bytes_in b) call (λ c. SaysCall c (verb ∷ a ∷ b ∷ [])) s (λ x y r q. record { one = a; two = b; words = ap (λ v. v ∷ a ∷ b ∷ []) (same verb (codes "link") t); first = r; second = q })) (λ is5.
    nothing call is5)))))

call_says : (words : List (List ℕ)) (call : Call) → call_in words ≡ Some call → SaysCall call words
unfolding call_in
call_says [] call is = nothing call is
call_says (verb ∷ []) call is = nothing call is
call_says (verb ∷ a ∷ []) call is = one_says verb a call is
call_says (verb ∷ a ∷ b ∷ []) call is = two_say verb a b call is
call_says (verb ∷ a ∷ b ∷ c ∷ more) call is = nothing call is

hart_call_says : (words : List (List ℕ)) (x : ℕ × Call) → hart_with_call words ≡ Some x → HasCall x.0 x.1 words
hart_call_says [] x is = nothing x is
hart_call_says (hart ∷ rest) x is = of_two (λ h c. (h, c)) (hart_in hart) (call_in rest) x (λ y. HasCall y.0 y.1 (hart ∷ rest)) is (λ h c r q. record { one = hart; rest = rest; words = refl; hart = r; call = call_says rest c q })

-- ---- kinds

kind_says : (word : List ℕ) (kind : Kind) → kind_in word ≡ Some kind → IsKind word kind
unfolding kind_in
kind_says word kind is =
    given (bytes_eq word (codes "lock")) _ _ kind is (λ t s. same word (codes "lock") t ∙ ap kind_word (same_Some _ _ s)) (λ is1.
    given (bytes_eq word (codes "unlock")) _ _ kind is1 (λ t s. same word (codes "unlock") t ∙ ap kind_word (same_Some _ _ s)) (λ is2.
    given (bytes_eq word (codes "get")) _ _ kind is2 (λ t s. same word (codes "get") t ∙ ap kind_word (same_Some _ _ s)) (λ is3.
    given (bytes_eq word (codes "read")) _ _ kind is3 (λ t s. same word (codes "read") t ∙ ap kind_word (same_Some _ _ s)) (λ is4.
    given (bytes_eq word (codes "put")) _ _ kind is4 (λ t s. same word (codes "put") t ∙ ap kind_word (same_Some _ _ s)) (λ is5.
    given (bytes_eq word (codes "join")) _ _ kind is5 (λ t s. same word (codes "join") t ∙ ap kind_word (same_Some _ _ s)) (λ is6.
    given (bytes_eq word (codes "leave")) _ _ kind is6 (λ t s. same word (codes "leave") t ∙ ap kind_word (same_Some _ _ s)) (λ is7.
    given (bytes_eq word (codes "commit")) _ _ kind is7 (λ t s. same word (codes "commit") t ∙ ap kind_word (same_Some _ _ s)) (λ is8.
    given (bytes_eq word (codes "up")) _ _ kind is8 (λ t s. same word (codes "up") t ∙ ap kind_word (same_Some _ _ s)) (λ is9.
    given (bytes_eq word (codes "down")) _ _ kind is9 (λ t s. same word (codes "down") t ∙ ap kind_word (same_Some _ _ s)) (λ is10.
    given (bytes_eq word (codes "slot")) _ _ kind is10 (λ t s. same word (codes "slot") t ∙ ap kind_word (same_Some _ _ s)) (λ is11.
    given (bytes_eq word (codes "reply")) _ _ kind is11 (λ t s. same word (codes "reply") t ∙ ap kind_word (same_Some _ _ s)) (λ is12.
    nothing kind is12))))))))))))

-- ---- lines

do_says : (words : List (List ℕ)) (said : Line) → do_in words ≡ Some said → SaysLine said (codes "do" ∷ words)
do_says words said is = of_one (λ x. Run x.0 x.1) (hart_with_call words) said (λ l. SaysLine l (codes "do" ∷ words)) is (λ x r. record { rest = words; words = refl; call = hart_call_says words x r })

start_says : (words : List (List ℕ)) (said : Line) → start_in words ≡ Some said → SaysLine said words
start_says words said is = of_one (λ x. Start x.0 x.1) (hart_with_call words) said (λ l. SaysLine l words) is (λ x r. hart_call_says words x r)

step_says : (words : List (List ℕ)) (said : Line) → step_in words ≡ Some said → SaysLine said (codes "step" ∷ words)
step_says [] said is = nothing said is
step_says (a ∷ []) said is = nothing said is
step_says (a ∷ b ∷ []) said is = of_two Step (hart_in a) (number_in b) said (λ l. SaysLine l (codes "step" ∷ a ∷ b ∷ [])) is (λ h n r q. record { one = a; two = b; words = refl; first = r; second = q })
step_says (a ∷ b ∷ c ∷ more) said is = nothing said is

upto_says : (words : List (List ℕ)) (said : Line) → upto_in words ≡ Some said → SaysLine said (codes "upto" ∷ words)
upto_says [] said is = nothing said is
upto_says (a ∷ []) said is = nothing said is
upto_says (a ∷ b ∷ []) said is = nothing said is
upto_says (a ∷ b ∷ c ∷ []) said is =
    of_bind (hart_in a) (λ h. with_two (Upto h) (kind_in b) (number_in c)) said is (λ h r s. of_two (Upto h) (kind_in b) (number_in c) said (λ l. SaysLine l (codes "upto" ∷ a ∷ b ∷ c ∷ [])) s (λ k n q p. record { one = a; two = b; three = c; words = refl; hart = r; kind = kind_says b k q; steps = p }))
upto_says (a ∷ b ∷ c ∷ d ∷ more) said is = nothing said is

end_says : (words : List (List ℕ)) (said : Line) → end_in words ≡ Some said → SaysLine said (codes "end" ∷ words)
end_says [] said is = nothing said is
end_says (a ∷ []) said is = of_one End (hart_in a) said (λ l. SaysLine l (codes "end" ∷ a ∷ [])) is (λ h r. record { one = a; words = refl; first = r })
end_says (a ∷ b ∷ more) said is = nothing said is

all_says : (words : List (List ℕ)) (said : Line) → all_in words ≡ Some said → SaysLine said (codes "all" ∷ words)
all_says [] said is = subst (λ l. SaysLine l (codes "all" ∷ [])) (same_Some _ _ is) refl
all_says (a ∷ more) said is = nothing said is

-- a verb is the text that it is compared with
with_verb : (verb text : List ℕ) (rest : List (List ℕ)) (said : Line) → bytes_eq verb text ≡ true → SaysLine said (text ∷ rest) → SaysLine said (verb ∷ rest)
with_verb verb text rest said t says = subst (λ v. SaysLine said (v ∷ rest)) (sym (same verb text t)) says

pub line_says : (said : Line) (words : List (List ℕ)) → line_in words ≡ Some said → SaysLine said words
unfolding line_in
line_says said [] is = nothing said is
line_says said (verb ∷ rest) is =
    given (bytes_eq verb (codes "do")) _ _ said is (λ t s. with_verb verb (codes "do") rest said t (do_says rest said s)) (λ is1.
    given (bytes_eq verb (codes "step")) _ _ said is1 (λ t s. with_verb verb (codes "step") rest said t (step_says rest said s)) (λ is2.
    given (bytes_eq verb (codes "upto")) _ _ said is2 (λ t s. with_verb verb (codes "upto") rest said t (upto_says rest said s)) (λ is3.
    given (bytes_eq verb (codes "end")) _ _ said is3 (λ t s. with_verb verb (codes "end") rest said t (end_says rest said s)) (λ is4.
    given (bytes_eq verb (codes "all")) _ _ said is4 (λ t s. with_verb verb (codes "all") rest said t (all_says rest said s)) (λ is5.
    start_says (verb ∷ rest) said is5)))))
