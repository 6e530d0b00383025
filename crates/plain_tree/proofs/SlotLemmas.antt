-- Slots of a directory, one after another.
use Rattle.plain_tree.proofs.Vocabulary.{◌≡◌, Version, ℕ, suc, ◌+◌, ◌<◌, ◌≤◌, true, false, List, [], ◌∷◌, ◌++◌, length, take, drop, get_or, refl, sym, ◌∙◌, ap, add-one, drop-cons, append_assoc, append-nil, Option, Some, None, set, take_more, take_all, drop_all, set_split, Slot, Name, same_name, cleared, entries, entry_bytes, first_free}

free_some : (x : Slot) (ss : List (Option Slot)) (s : Slot) → first_free (Some x ∷ ss) s ≡ Some x ∷ first_free ss s
unfolding first_free
free_some x ss s = refl

free_none : (ss : List (Option Slot)) (s : Slot) → first_free (None ∷ ss) s ≡ Some s ∷ ss
unfolding first_free
free_none ss s = refl

free_nil : (s : Slot) → first_free [] s ≡ Some s ∷ []
unfolding first_free
free_nil s = refl

pub free_next : (ss : List (Option Slot)) (i : ℕ) (v : Option Slot) (x : Slot) → i < length ss → v ≡ get_or ss i v → v ≡ Some x → ((s : Slot) → first_free ss s ≡ take i ss ++ first_free (drop i ss) s) → (s : Slot) → first_free ss s ≡ take (i + 1) ss ++ first_free (drop (i + 1) ss) s
free_next ss i v x lt is e inv s =
    let split : drop i ss ≡ Some x ∷ drop (suc i) ss = drop-cons ss i v lt ∙ ap (λ y. y ∷ drop (suc i) ss) (sym is ∙ e) in
    let front : take (i + 1) ss ≡ take i ss ++ Some x ∷ [] = take_more ss i v lt ∙ ap (λ y. take i ss ++ y ∷ []) (sym is ∙ e) in
    inv s ∙ (ap (λ y. take i ss ++ first_free y s) split ∙ (ap (λ y. take i ss ++ y) (free_some x (drop (suc i) ss) s) ∙ rw (front, add-one i) (sym (append_assoc (take i ss) (Some x ∷ []) (first_free (drop (suc i) ss) s)))))

pub free_found : (ss : List (Option Slot)) (i : ℕ) (v : Option Slot) → i < length ss → v ≡ get_or ss i v → v ≡ None → ((s : Slot) → first_free ss s ≡ take i ss ++ first_free (drop i ss) s) → (i < length ss) × ((s : Slot) → first_free ss s ≡ set ss i (Some s))
free_found ss i v lt is e inv =
    let split : drop i ss ≡ None ∷ drop (suc i) ss = drop-cons ss i v lt ∙ ap (λ y. y ∷ drop (suc i) ss) (sym is ∙ e) in
    (lt, λ s. inv s ∙ (ap (λ y. take i ss ++ first_free y s) split ∙ (ap (λ y. take i ss ++ y) (free_none (drop (suc i) ss) s) ∙ sym (set_split ss i (Some s) lt))))

pub free_end : (ss : List (Option Slot)) (i : ℕ) → length ss ≤ i → ((s : Slot) → first_free ss s ≡ take i ss ++ first_free (drop i ss) s) → (s : Slot) → first_free ss s ≡ ss ++ Some s ∷ []
free_end ss i le inv s = inv s ∙ rw (take_all i ss le, drop_all i ss le, free_nil s) refl

cleared_none : (ss : List (Option Slot)) (e : Name) → cleared (None ∷ ss) e ≡ None ∷ cleared ss e
unfolding cleared
cleared_none ss e = refl

cleared_other : (x : Slot) (ss : List (Option Slot)) (e : Name) → same_name x.name e ≡ false → cleared (Some x ∷ ss) e ≡ Some x ∷ cleared ss e
unfolding cleared
cleared_other x ss e h = rw h refl

cleared_same : (x : Slot) (ss : List (Option Slot)) (e : Name) → same_name x.name e ≡ true → cleared (Some x ∷ ss) e ≡ None ∷ ss
unfolding cleared
cleared_same x ss e h = rw h refl

cleared_nil : (e : Name) → cleared [] e ≡ []
unfolding cleared
cleared_nil e = refl

pub pass : (ss : List (Option Slot)) (e : Name) (i : ℕ) (v : Option Slot) → i < length ss → v ≡ get_or ss i v → cleared (v ∷ drop (suc i) ss) e ≡ v ∷ cleared (drop (suc i) ss) e → cleared ss e ≡ take i ss ++ cleared (drop i ss) e → cleared ss e ≡ take (i + 1) ss ++ cleared (drop (i + 1) ss) e
pass ss e i v lt is step inv =
    let split : drop i ss ≡ v ∷ drop (suc i) ss = drop-cons ss i v lt ∙ ap (λ y. y ∷ drop (suc i) ss) (sym is) in
    let front : take (i + 1) ss ≡ take i ss ++ v ∷ [] = take_more ss i v lt ∙ ap (λ y. take i ss ++ y ∷ []) (sym is) in
    inv ∙ (ap (λ y. take i ss ++ cleared y e) split ∙ (ap (λ y. take i ss ++ y) step ∙ rw (front, add-one i) (sym (append_assoc (take i ss) (v ∷ []) (cleared (drop (suc i) ss) e)))))

pub pass_none : (ss : List (Option Slot)) (e : Name) (i : ℕ) (v : Option Slot) → i < length ss → v ≡ get_or ss i v → v ≡ None → cleared ss e ≡ take i ss ++ cleared (drop i ss) e → cleared ss e ≡ take (i + 1) ss ++ cleared (drop (i + 1) ss) e
pass_none ss e i v lt is n inv = pass ss e i v lt is (rw n (cleared_none (drop (suc i) ss) e)) inv

pub pass_other : (ss : List (Option Slot)) (e : Name) (i : ℕ) (v : Option Slot) (x : Slot) → i < length ss → v ≡ get_or ss i v → v ≡ Some x → same_name x.name e ≡ false → cleared ss e ≡ take i ss ++ cleared (drop i ss) e → cleared ss e ≡ take (i + 1) ss ++ cleared (drop (i + 1) ss) e
pass_other ss e i v x lt is n h inv = pass ss e i v lt is (rw n (cleared_other x (drop (suc i) ss) e h)) inv

pub clears_found : (ss : List (Option Slot)) (e : Name) (i : ℕ) (v : Option Slot) (x : Slot) → i < length ss → v ≡ get_or ss i v → v ≡ Some x → same_name x.name e ≡ true → cleared ss e ≡ take i ss ++ cleared (drop i ss) e → (i < length ss) × (cleared ss e ≡ set ss i None)
clears_found ss e i v x lt is n h inv =
    let split : drop i ss ≡ Some x ∷ drop (suc i) ss = drop-cons ss i v lt ∙ ap (λ y. y ∷ drop (suc i) ss) (sym is ∙ n) in
    (lt, inv ∙ (ap (λ y. take i ss ++ cleared y e) split ∙ (ap (λ y. take i ss ++ y) (cleared_same x (drop (suc i) ss) e h) ∙ sym (set_split ss i None lt))))

pub clears_none : (ss : List (Option Slot)) (e : Name) (i : ℕ) → length ss ≤ i → cleared ss e ≡ take i ss ++ cleared (drop i ss) e → cleared ss e ≡ ss
clears_none ss e i le inv = inv ∙ rw (take_all i ss le, drop_all i ss le, cleared_nil e) (append-nil ss)

entries_snoc : (v : Version) (ss : List (Option Slot)) (o : Option Slot) → entries v (ss ++ o ∷ []) ≡ entries v ss ++ entry_bytes v o
unfolding entries
entries_snoc v [] o = append-nil (entry_bytes v o)
entries_snoc v (x ∷ xs) o = ap (λ y. entry_bytes v x ++ y) (entries_snoc v xs o) ∙ sym (append_assoc (entry_bytes v x) (entries v xs) (entry_bytes v o))

pub entries_more : (v : Version) (ss : List (Option Slot)) (i : ℕ) (o : Option Slot) → i < length ss → o ≡ get_or ss i o → entries v (take (i + 1) ss) ≡ entries v (take i ss) ++ entry_bytes v o
entries_more v ss i o lt is = ap (λ y. entries v y) (take_more ss i o lt ∙ ap (λ y. take i ss ++ y ∷ []) (sym is)) ∙ entries_snoc v (take i ss) o

pub entries_nil : (v : Version) → entries v [] ≡ []
unfolding entries
entries_nil v = refl
