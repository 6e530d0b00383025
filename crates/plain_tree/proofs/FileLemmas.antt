-- Open files that no descriptor has leave the tree one after another.
use Rattle.plain_tree.proofs.Vocabulary.{◌≡◌, ◌≢◌, ℕ, zero, suc, ◌<◌, true, false, List, [], ◌∷◌, length, get_or, inl, inr, refl, sym, ◌∙◌, ap, arith, Option, Some, None, remove, fun_ext, cases_eq, cases_Bool, OpenFile, OpenFileEntry, TreeData, Tree, tree_of, file_in, has_fd, closed, IsOrphan}
use Rattle.plain_tree.proofs.TreeLemmas.{file_first, file_later}

removed_other : (es : List OpenFileEntry) (i k : ℕ) (d : OpenFileEntry) → i < length es → (get_or es i d).id ≢ k → file_in (remove es i) k ≡ file_in es k
removed_other [] i k d lt ne = absurd (omega arith)
removed_other (x ∷ xs) zero k d lt ne = sym (file_later x xs k ne)
removed_other (x ∷ xs) (suc i) k d lt ne =
    let rest : file_in (remove xs i) k ≡ file_in xs k = removed_other xs i k d (omega arith) ne in
    elim (cases_eq x.id k) [
      | inl e ↦ file_first x (remove xs i) k e ∙ sym (file_first x xs k e)
      | inr nx ↦ file_later x (remove xs i) k nx ∙ (rest ∙ sym (file_later x xs k nx))
    ]

has_fd_files : (d : TreeData) (fs : List OpenFileEntry) (k : ℕ) → has_fd (tree_of (record d { files = fs })) k ≡ has_fd (tree_of d) k
unfolding has_fd
has_fd_files d fs k = refl

closed_true : (t : Tree) (k : ℕ) → has_fd t k ≡ true → (closed t).files k ≡ t.files k
closed_true t k h = rw h refl

closed_false : (t : Tree) (k : ℕ) → has_fd t k ≡ false → (closed t).files k ≡ None
closed_false t k h = rw h refl

without : (d : TreeData) (i k : ℕ) → IsOrphan d (Some i) → has_fd (tree_of d) k ≡ true → file_in (remove d.files i) k ≡ file_in d.files k
without d i k o y = (let e : OpenFileEntry = record { id = 0; file = record { number = 0; offset = 0; readable = false; writable = false } } in removed_other d.files i k e o.0 (λ is. absurd (let u : false ≡ true = sym (o.1 e) ∙ (ap (λ (n : ℕ). has_fd (tree_of d) n) is ∙ y) in cc)))

pub closed_without : (d d' : TreeData) (i : ℕ) → d' ≡ record d { files = remove d.files i } → IsOrphan d (Some i) → closed (tree_of d') ≡ closed (tree_of d)
closed_without d d' i is o =
    let d'' : TreeData = record d { files = remove d.files i } in
    ap (λ (y : TreeData). closed (tree_of y)) is
    ∙ ap (λ (f : ℕ → Option OpenFile). record (tree_of d) { files = f }) (fun_ext {f = (closed (tree_of d'')).files} {g = (closed (tree_of d)).files} (λ k. elim (cases_Bool (has_fd (tree_of d) k)) [
      | inl y ↦ closed_true (tree_of d'') k (has_fd_files d (remove d.files i) k ∙ y) ∙ (without d i k o y ∙ sym (closed_true (tree_of d) k y))
      | inr y ↦ closed_false (tree_of d'') k (has_fd_files d (remove d.files i) k ∙ y) ∙ sym (closed_false (tree_of d) k y)
    ]))

absent : (es : List OpenFileEntry) (k : ℕ) → ((j : ℕ) (e : OpenFileEntry) → j < length es → (get_or es j e).id ≢ k) → file_in es k ≡ None
unfolding file_in
absent [] k h = refl
absent (x ∷ xs) k h = file_later x xs k (h 0 x (omega arith)) ∙ absent xs k (λ j e lt. h (suc j) e (omega arith))

pub no_orphan : (d : TreeData) → IsOrphan d None → tree_of d ≡ closed (tree_of d)
no_orphan d o = ap (λ (f : ℕ → Option OpenFile). record (tree_of d) { files = f }) (fun_ext {f = (tree_of d).files} {g = (closed (tree_of d)).files} (λ k. elim (cases_Bool (has_fd (tree_of d) k)) [
  | inl y ↦ sym (closed_true (tree_of d) k y)
  | inr y ↦ absent d.files k (λ j e lt is. absurd (let u : true ≡ false = sym (o j e lt) ∙ (ap (λ (n : ℕ). has_fd (tree_of d) n) is ∙ y) in cc)) ∙ sym (closed_false (tree_of d) k y)
]))
