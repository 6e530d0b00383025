-- Lines that were typed on a file system that is mounted.
use Rattle.console.proofs.Vocabulary.{◌≡◌, ℕ, ◌+◌, ◌<◌, ◌≤◌, List, ◌∷◌, length, drop, get_or, Option, Result, ap, sym, ◌∙◌, subst, inl, at_drop_all, at_drop_more, Appends, Mode, appends_nothing, appends_both, Doing, ConsoleFault, state, HistoryBeside, NotesOf, no_notes, PromptsAll, PromptsReader, calls_text, doing_text, QueuedCalls, none_left, EndsSo, KeptTree, None, SessionOf, doing_at, with_beside, known_at}

-- ---- calls under way

pub calls_more : (known next end : Option (List ℕ)) (harts : List ℕ) (doing : List (Option Doing)) (i hart : ℕ) → i < length harts → hart ≡ get_or harts i 0 → Appends known next (doing_text hart (doing_at hart doing))
    → Appends next end (calls_text (drop (i + 1) harts) doing) → Appends known end (calls_text (drop i harts) doing)
unfolding calls_text
calls_more known next end harts doing i hart lt is line rest =
    let split : drop i harts ≡ hart ∷ drop (i + 1) harts = at_drop_more (λ hs. hs) harts i 0 lt ∙ ap (λ h. h ∷ drop (i + 1) harts) (sym is) in
    subst (λ hs. Appends known end (calls_text hs doing)) (sym split) (appends_both known next end (doing_text hart (doing_at hart doing)) (calls_text (drop (i + 1) harts) doing) line rest)

pub calls_end : (known : Option (List ℕ)) (harts : List ℕ) (doing : List (Option Doing)) (i : ℕ) → length harts ≤ i → Appends known known (calls_text (drop i harts) doing)
unfolding calls_text
calls_end known harts doing i le = subst (λ hs. Appends known known (calls_text hs doing)) (sym (at_drop_all (λ hs. hs) harts i le)) (appends_nothing known)

-- ---- all lines, and what comes after them

module _ {D : Type 0} (contents : D → List (List ℕ)) (failures : D → ℕ) (help : List ℕ) where
  pub lines_answered : (mode : Mode) (history : HistoryBeside) (s from to t : SessionOf D) (typed : Option (List ℕ)) (queues left : QueuedCalls) (beside shown : Option KeptTree) (ends result : Result (Unit {0}) ConsoleFault) (out between out' : Option (List ℕ)) (first notes : NotesOf)
      → queues ≡ none_left → first ≡ no_notes mode → from ≡ with_beside beside s → t ≡ with_beside None to → shown ≡ known_at to to.beside
      → PromptsAll contents failures help 1 typed (state from queues) out first ends (state to left) between notes → EndsSo mode (history beside shown) notes ends between result out' → PromptsReader contents failures help mode history s typed result t out out'
  lines_answered mode history s from to t typed queues left beside shown ends result out between out' first notes none is begins gone has answers end =
      let over : with_beside to.beside t ≡ to = ap (with_beside to.beside) gone in
      let known : shown ≡ known_at t to.beside = has ∙ sym (ap (λ (u : SessionOf D). known_at u to.beside) gone) in
      inl (record {
        left = left;
        ends = ends;
        between = between;
        notes = notes;
        first = beside;
        kept = to.beside;
        answers = subst (λ (v : SessionOf D). PromptsAll contents failures help 1 typed (state (with_beside beside s) none_left) out (no_notes mode) ends (state v left) between notes) (sym over)
            (subst (λ (u : SessionOf D). PromptsAll contents failures help 1 typed (state u none_left) out (no_notes mode) ends (state to left) between notes) begins
            (subst (λ n. PromptsAll contents failures help 1 typed (state from none_left) out n ends (state to left) between notes) is
            (subst (λ q. PromptsAll contents failures help 1 typed (state from q) out first ends (state to left) between notes) none answers)));
        end = subst (λ (k : Option KeptTree). EndsSo mode (history beside k) notes ends between result out') known end;
      })
