-- What a write has written so far: the bytes before a piece.
use Rattle.call_programs.proofs.Vocabulary.{◌≡◌, ◌+◌, ◌*◌, ℕ, List, [], ◌∷◌, ◌++◌, take, refl, sym, ◌∙◌, ap, subst, arith, append_assoc, take-append-drop, piece_len, drop-drop, piece, Change, WroteFrom}
use Rattle.std.proofs.Common.{drop}
use Rattle.call_programs.specs.Changes.{Wrote}

module _ (fd : ℕ) (bytes : List ℕ) where
  -- the bytes from piece i on
  abbrev rest_from : ℕ → List ℕ
  rest_from i = drop (piece_len * i) bytes

  -- these wrote all pieces before piece i: what writes the bytes from there on writes, after them, all
  abbrev pub WroteBefore : ℕ → List Change → Type 0
  WroteBefore i cs = (ds : List Change) → WroteFrom fd (rest_from i) ds → WroteFrom fd bytes (cs ++ ds)

  rest_splits : (i : ℕ) → rest_from i ≡ piece bytes i ++ rest_from (i + 1)
  rest_splits i =
      sym (take-append-drop piece_len (rest_from i))
      ∙ ap (λ (z : List ℕ). piece bytes i ++ z)
      (drop-drop piece_len (piece_len * i) bytes ∙ ap (λ (k : ℕ). drop k bytes) (omega arith))

  pub none_before : WroteBefore 0 []
  none_before ds w = w

  pub one_more : (i : ℕ) (cs : List Change) → WroteBefore i cs → WroteBefore (i + 1) (cs ++ Wrote fd (piece bytes i) ∷ [])
  one_more i cs before ds w =
      subst (λ (z : List Change). WroteFrom fd bytes z) (sym (append_assoc cs (Wrote fd (piece bytes i) ∷ []) ds))
      (before (Wrote fd (piece bytes i) ∷ ds) (refl, rest_from (i + 1), rest_splits i, w))

  -- of this piece the bytes before a block that wasn't there
  pub a_part : (i : ℕ) (cs : List Change) → WroteBefore i cs → (k : ℕ) → WroteFrom fd bytes (cs ++ Wrote fd (take k (piece bytes i)) ∷ [])
  a_part i cs before k =
      let p : List ℕ = piece bytes i in
      let split : rest_from i ≡ take k p ++ (drop k p ++ rest_from (i + 1)) =
      rest_splits i ∙ ap (λ (z : List ℕ). z ++ rest_from (i + 1)) (sym (take-append-drop k p))
      ∙ append_assoc (take k p) (drop k p) (rest_from (i + 1)) in
      before (Wrote fd (take k p) ∷ []) (refl, drop k p ++ rest_from (i + 1), split, tt)
