-- What a writer holds after one part and then another.
use Rattle.console.proofs.Vocabulary.{◌≡◌, ◌<◌, ◌≤◌, ◌+◌, ℕ, List, [], ◌∷◌, ◌++◌, take, drop, get_or, length, ◌*◌, min, arith, replicate, Option, Result, Ok, Err, ap, sym, ◌∙◌, subst, at_drop_all, at_drop_more, take-replicate, OnOk, Appends, Note, Open, Placed, entries_text, last_line, last_text, timeline_line, timeline_rows, entry_line, appends_nothing, appends_both}
use Rattle.console.specs.declared.notes.What.TheVariants.{Start}

pub tells_five : {E : Type 0} (known a b c d end : Option (List ℕ)) (result : Result (Unit {0}) E) (vs ws xs ys zs : List ℕ) → Appends known a vs → Appends a b ws → Appends b c xs → Appends c d ys → OnOk result (Appends d end zs) → OnOk result (Appends known end (vs ++ ws ++ xs ++ ys ++ zs))
tells_five known a b c d end (Ok u) vs ws xs ys zs one two three four five =
    appends_both known d end (vs ++ ws ++ xs ++ ys) zs (appends_both known c d (vs ++ ws ++ xs) ys (appends_both known b c (vs ++ ws) xs (appends_both known a b vs ws one two) three) four) five
tells_five known a b c d end (Err e) vs ws xs ys zs one two three four five = tt

-- ---- the lines after a script

pub row_more : (known next end : Option (List ℕ)) (items more : List Note) (note : Note) → items ≡ note ∷ more → Appends known next (timeline_line note) → Appends next end (timeline_rows more) → Appends known end (timeline_rows items)
unfolding timeline_rows
row_more known next end items more note is first rest = subst (λ xs. Appends known end (timeline_rows xs)) (sym is) (appends_both known next end (timeline_line note) (timeline_rows more) first rest)

pub rows_end : (known : Option (List ℕ)) (items : List Note) → items ≡ [] → Appends known known (timeline_rows items)
unfolding timeline_rows
rows_end known items is = subst (λ xs. Appends known known (timeline_rows xs)) (sym is) (appends_nothing known)

-- what a place past the end of a list of notes is read as
abbrev pub past_end : Note
past_end = record { number = 0; hart = 0; what = Start Open }

pub row_at : (known next end : Option (List ℕ)) (rows : List Note) (i : ℕ) → i < length rows → Appends known next (timeline_line (get_or rows i past_end)) → Appends next end (timeline_rows (drop (i + 1) rows)) → Appends known end (timeline_rows (drop i rows))
row_at known next end rows i lt line rest = row_more known next end (drop i rows) (drop (i + 1) rows) (get_or rows i past_end) (at_drop_more (λ notes. notes) rows i past_end lt) line rest

pub rows_over : (known : Option (List ℕ)) (rows : List Note) (i : ℕ) → length rows ≤ i → Appends known known (timeline_rows (drop i rows))
rows_over known rows i le = rows_end known (drop i rows) (at_drop_all (λ notes. notes) rows i le)

pub last_more : (known next end : Option (List ℕ)) (items more : List Note) (note : Note) → items ≡ note ∷ more → Appends known next (last_line note) → Appends next end (last_text more) → Appends known end (last_text items)
unfolding last_text
last_more known next end items more note is line rest = subst (λ xs. Appends known end (last_text xs)) (sym is) (appends_both known next end (last_line note) (last_text more) line rest)

pub last_end : (known : Option (List ℕ)) (items : List Note) → items ≡ [] → Appends known known (last_text items)
unfolding last_text
last_end known items is = subst (λ xs. Appends known known (last_text xs)) (sym is) (appends_nothing known)

pub spaces_are : (before hart : ℕ) → before ≡ min (8 * hart) 56 → take {A = ℕ} before (replicate 56 32) ≡ replicate {A = ℕ} (min (8 * hart) 56) 32
spaces_are before hart is = take-replicate {X = ℕ} before 56 32 (omega (arith, is)) ∙ ap (λ n. replicate {A = ℕ} n 32) is

-- ---- the lines of a history

pub entries_more : (known next end : Option (List ℕ)) (entries : List Placed) (i : ℕ) (entry : Placed) → i < length entries → entry ≡ get_or entries i entry → Appends known next (entry_line entry) → Appends next end (entries_text (drop (i + 1) entries))
    → Appends known end (entries_text (drop i entries))
unfolding entries_text
entries_more known next end entries i entry lt is line rest =
    let split : drop i entries ≡ entry ∷ drop (i + 1) entries = at_drop_more (λ es. es) entries i entry lt ∙ ap (λ e. e ∷ drop (i + 1) entries) (sym is) in
    subst (λ es. Appends known end (entries_text es)) (sym split) (appends_both known next end (entry_line entry) (entries_text (drop (i + 1) entries)) line rest)

pub entries_end : (known : Option (List ℕ)) (entries : List Placed) (i : ℕ) → length entries ≤ i → Appends known known (entries_text (drop i entries))
unfolding entries_text
entries_end known entries i le = subst (λ es. Appends known known (entries_text es)) (sym (at_drop_all (λ es. es) entries i le)) (appends_nothing known)
