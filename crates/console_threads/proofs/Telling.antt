-- What is printed and noted of a list of events, one after the other.
use Rattle.console_threads.proofs.Vocabulary.{◌≡◌, ℕ, ◌+◌, ◌<◌, ◌≤◌, min, List, [], ◌∷◌, ◌++◌, length, drop, get_or, Option, Some, None, refl, ap, sym, ◌∙◌, subst, arith, length-drop, Appends, at_drop_all, at_drop_more, Came, Event, appends_both, appends_nothing, What, KeptRun, NotesOf, copy_for, with_note, with_what, hart_in, hart_text, harts_text, line_for, noted_in, what_in}

split : {X : Type 0} (xs : List X) (i : ℕ) (x : X) → i < length xs → x ≡ get_or xs i x → drop i xs ≡ x ∷ drop (i + 1) xs
split xs i x lt is = at_drop_more (λ ys. ys) xs i x lt ∙ ap (λ y. y ∷ drop (i + 1) xs) (sym is)

-- ---- lines

-- event i, and then the others
pub line_more : (hart : ℕ) (known next end : Option (List ℕ)) (es : List Event) (cs : List Came) (i : ℕ) (e : Event) (c : Came) → i < length es → i < length cs → e ≡ get_or es i e → c ≡ get_or cs i c
    → Appends known next (line_for hart e c) → Appends next end (hart_text hart (drop (i + 1) es) (drop (i + 1) cs)) → Appends known end (hart_text hart (drop i es) (drop i cs))
unfolding hart_text
line_more hart known next end es cs i e c lt lt' is is' first rest =
    let both : hart_text hart (drop i es) (drop i cs) ≡ line_for hart e c ++ hart_text hart (drop (i + 1) es) (drop (i + 1) cs) = λ j. hart_text hart (split es i e lt is j) (split cs i c lt' is' j) in
    subst (λ xs. Appends known end xs) (sym both) (appends_both known next end (line_for hart e c) (hart_text hart (drop (i + 1) es) (drop (i + 1) cs)) first rest)

no_text : (hart : ℕ) (es : List Event) (cs : List Came) → min (length es) (length cs) ≤ 0 → hart_text hart es cs ≡ []
unfolding hart_text
no_text hart [] cs le = refl
no_text hart (e ∷ es) [] le = refl
no_text hart (e ∷ es) (c ∷ cs) le = absurd (omega (arith, le))

pub line_end : (hart : ℕ) (known : Option (List ℕ)) (es : List Event) (cs : List Came) (i : ℕ) → min (length es) (length cs) ≤ i → Appends known known (hart_text hart (drop i es) (drop i cs))
line_end hart known es cs i le =
    subst (λ xs. Appends known known xs) (sym (no_text hart (drop i es) (drop i cs) (omega (arith, le, length-drop i es, length-drop i cs)))) (appends_nothing known)

-- a hart, and then the others
pub hart_more : (es : List Event) (cs : List Came) (known next end : Option (List ℕ)) (hs : List ℕ) (i : ℕ) → i < length hs → Appends known next (hart_text (get_or hs i 0) es cs) → Appends next end (harts_text es cs (drop (i + 1) hs)) → Appends known end (harts_text es cs (drop i hs))
unfolding harts_text
hart_more es cs known next end hs i lt first rest =
    subst (λ ks. Appends known end (harts_text es cs ks)) (sym (at_drop_more (λ ks. ks) hs i 0 lt)) (appends_both known next end (hart_text (get_or hs i 0) es cs) (harts_text es cs (drop (i + 1) hs)) first rest)

pub hart_end : (es : List Event) (cs : List Came) (known : Option (List ℕ)) (hs : List ℕ) (i : ℕ) → length hs ≤ i → Appends known known (harts_text es cs (drop i hs))
unfolding harts_text
hart_end es cs known hs i le = subst (λ ks. Appends known known (harts_text es cs ks)) (sym (at_drop_all (λ ks. ks) hs i le)) (appends_nothing known)

-- ---- notes

-- the copy is kept if events are
pub with_copy : (n : NotesOf) (hart : ℕ) (what : What) (event : Event) (came : Came) → with_note n hart what (copy_for n.kept event) came ≡ with_note n hart what (Some event) came
with_copy n hart what event came = by n.kept
  where
    by : (kept : Option KeptRun) → with_note (record n { kept = kept }) hart what (copy_for kept event) came ≡ with_note (record n { kept = kept }) hart what (Some event) came
    by None = refl
    by (Some run) = refl

pub note_more : (n : NotesOf) (es : List Event) (cs : List Came) (i : ℕ) (e : Event) (c : Came) → i < length es → i < length cs → e ≡ get_or es i e → c ≡ get_or cs i c
    → noted_in (with_what n (hart_in e) (what_in e c) (Some e) c) (drop (i + 1) es) (drop (i + 1) cs) ≡ noted_in n (drop i es) (drop i cs)
unfolding noted_in
note_more n es cs i e c lt lt' is is' = sym (λ j. noted_in n (split es i e lt is j) (split cs i c lt' is' j))

no_notes_more : (n : NotesOf) (es : List Event) (cs : List Came) → min (length es) (length cs) ≤ 0 → noted_in n es cs ≡ n
unfolding noted_in
no_notes_more n [] cs le = refl
no_notes_more n (e ∷ es) [] le = refl
no_notes_more n (e ∷ es) (c ∷ cs) le = absurd (omega (arith, le))

pub note_end : (n : NotesOf) (es : List Event) (cs : List Came) (i : ℕ) → min (length es) (length cs) ≤ i → noted_in n (drop i es) (drop i cs) ≡ n
note_end n es cs i le = no_notes_more n (drop i es) (drop i cs) (omega (arith, le, length-drop i es, length-drop i cs))
