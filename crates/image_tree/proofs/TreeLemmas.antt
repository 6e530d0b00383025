-- What the tables say of the live directories.
use Rattle.image_tree.proofs.Vocabulary.{Version, ◌≡◌, ◌≢◌, ◌↔◌, ◌∙◌, ap, sym, refl, subst, ℕ, ◌<◌, ◌≤◌, Bool, true, false, IsTrue, List, length, get_or, arith, ⊎_elim, Option, Some, None, All, get_or_past, get_or_default, cases_lt, Dirent, Free, Used, gathered, times, is_node, is_live_directory, last, slots_in, slot_number, number_in, up, further_in, proper_in, Reaches, HasGoodSlots, IsDotDot, IsOneTree, Tallies, IsUpTable, IsLinks, Links}
use Rattle.image_tree.proofs.Nodes.{node_is, directory_is}
use Rattle.image_tree.proofs.SlotNumbers.{All-at}
use Rattle.image_tree.proofs.LinkLemmas.{up_none, no_directory_zero}
use Rattle.image_tree.proofs.Climbs.{climb-same}

dotdot_number : (p : ℕ → Type 0) (slot : Option Dirent) → IsDotDot slot → All p (slot_number slot) → p (number_in slot)
dotdot_number p None h all = absurd h
dotdot_number p (Some Free) h all = absurd h
dotdot_number p (Some (Used number name)) h all = all 0 0 (omega arith)

-- the ".." of a live directory is a node
pub up_node : (v : Version) (disk : List (List ℕ)) (i : ℕ) → HasGoodSlots v disk → is_live_directory disk i ≡ true → is_node disk (up v disk i) ≡ true
up_node v disk i good live =
    let slots : List (Option Dirent) = slots_in v disk i in
    let h = good i live in
    ⊎_elim
    (λ (l : 1 < length slots).
    dotdot_number (λ n. is_node disk n ≡ true) (get_or slots 1 None) h.second
    (All-at (λ n. is_node disk n ≡ true) slot_number slots 1 (get_or slots 1 None) l (get_or_default slots 1 None (get_or slots 1 None) l) h.nodes))
    (λ (l : length slots ≤ 1). absurd (subst IsDotDot (get_or_past slots 1 None l) h.second))
    (cases_lt 1 (length slots))

live_up : (v : Version) (disk : List (List ℕ)) (i : ℕ) → HasGoodSlots v disk → is_live_directory disk i ≡ true → up v disk i ≢ 0
live_up v disk i good live e = let low = (node_is disk (up v disk i) (up_node v disk i good live)).low in omega arith

up_live : (v : Version) (disk : List (List ℕ)) (i : ℕ) → up v disk i ≢ 0 → is_live_directory disk i ≡ true
up_live v disk i ne = elim_live (is_live_directory disk i) refl
  where
    elim_live : (b : Bool) → is_live_directory disk i ≡ b → is_live_directory disk i ≡ true
    elim_live true e = e
    elim_live false e = absurd (ne (up_none v disk i e))

-- the tables of an image, as the code sees them
pub record Tables (v : Version) (disk : List (List ℕ)) (ups further proper : List ℕ) : Type 0 where
  pub up_table : IsUpTable v disk ups
  pub further_table : Tallies further (gathered (further_in v disk) (last disk))
  pub proper_table : Tallies proper (gathered (proper_in v disk) (last disk))
  pub further_length : length further ≡ length ups
  pub proper_length : length proper ≡ length ups

abbrev Named : List ℕ → List ℕ → List ℕ → Type 0
Named ups further proper = (i : ℕ) → 2 ≤ i → i < length ups → get_or ups i 0 ≢ 0 → (get_or further i 0 ≡ 1) × (get_or proper i 0 ≡ 1)

tallied : (table xs : List ℕ) (i n : ℕ) → Tallies table xs → i < length table → n < 65535 → times i xs ≡ n → get_or table i 0 ≡ n
tallied table xs i n t l small e = let s = t.says i l in omega arith

counted : (table xs : List ℕ) (i n : ℕ) → Tallies table xs → i < length table → n < 65535 → get_or table i 0 ≡ n → times i xs ≡ n
counted table xs i n t l small e = let s = t.says i l in omega arith

pub unnamed_no_tree : (v : Version) (disk : List (List ℕ)) (ups further proper : List ℕ) → Tables v disk ups further proper → HasGoodSlots v disk
    → (((i : ℕ) → 2 ≤ i → i < length ups → get_or ups i 0 ≢ 0 → (get_or further i 0 ≡ 1) × (get_or proper i 0 ≡ 1)) → ⊥) → IsOneTree v disk → ⊥
unnamed_no_tree v disk ups further proper t good bad one =
    bad (λ i two l ne.
    let live = up_live v disk i (λ e. ne (t.up_table.says i ∙ e)) in
    let fl = t.further_length in
    let pl = t.proper_length in (
      tallied further (gathered (further_in v disk) (last disk)) i 1 t.further_table (omega arith) (omega arith) (one.named i live (λ e. omega arith)),
      tallied proper (gathered (proper_in v disk) (last disk)) i 1 t.proper_table (omega arith) (omega arith) (one.proper i live (λ e. omega arith)),
    ))

reaches_same : (f g : ℕ → ℕ) (i : ℕ) → ((n : ℕ) → f n ≡ g n) → Reaches f i → Reaches g i
reaches_same f g i same r = record { steps = (r.steps.0, sym (climb-same f g r.steps.0 i same) ∙ r.steps.1) }

pub tree_told : (v : Version) (disk : List (List ℕ)) (ups further proper : List ℕ) (told : Bool) → Tables v disk ups further proper → HasGoodSlots v disk → 2 ≤ length ups
    → get_or ups 1 0 ≡ 1 → get_or further 1 0 ≡ 0
    → ((i : ℕ) → 2 ≤ i → i < length ups → get_or ups i 0 ≢ 0 → (get_or further i 0 ≡ 1) × (get_or proper i 0 ≡ 1))
    → (IsTrue told ↔ ((i : ℕ) → get_or ups i 0 ≢ 0 → Reaches (λ n. get_or ups n 0) i))
    → IsTrue told ↔ IsOneTree v disk
tree_told v disk ups further proper told t good two root unnamed named says = (
  λ yes.
      let fl = t.further_length in
      let pl = t.proper_length in
      let n = t.up_table.length in
      record {
        root = sym (t.up_table.says 1) ∙ root;
        root_unnamed = counted further (gathered (further_in v disk) (last disk)) 1 0 t.further_table (omega arith) (omega arith) unnamed;
        named = λ i live ne.
            let is = directory_is disk i live in
            let low = is.low in
            let bound = is.bound in
            let at = named i (at_least_two i low ne) (omega arith) (λ e. live_up v disk i good live (sym (t.up_table.says i) ∙ e)) in
            counted further (gathered (further_in v disk) (last disk)) i 1 t.further_table (omega arith) (omega arith) at.0;
        proper = λ i live ne.
            let is = directory_is disk i live in
            let low = is.low in
            let bound = is.bound in
            let at = named i (at_least_two i low ne) (omega arith) (λ e. live_up v disk i good live (sym (t.up_table.says i) ∙ e)) in
            counted proper (gathered (proper_in v disk) (last disk)) i 1 t.proper_table (omega arith) (omega arith) at.1;
        reaches = λ i live.
            reaches_same (λ n. get_or ups n 0) (up v disk) i t.up_table.says (says.0 yes i (λ e. live_up v disk i good live (sym (t.up_table.says i) ∙ e)));
      },
  λ one.
      says.1 (λ i ne. reaches_same (up v disk) (λ n. get_or ups n 0) i (λ n. sym (t.up_table.says n)) (one.reaches i (up_live v disk i (λ e. ne (t.up_table.says i ∙ e))))),
)
  where
    at_least_two : (i : ℕ) → 1 ≤ i → i ≢ 1 → 2 ≤ i
    at_least_two i low ne = ⊎_elim (λ (h : 1 < i). omega arith) (λ (h : i ≤ 1). absurd (ne (omega arith))) (cases_lt 1 i)

pub tables_of : (v : Version) (disk : List (List ℕ)) (links : Links) (ups further proper : List ℕ) → IsLinks v disk links → ups ≡ links.ups.items → further ≡ links.further.items
    → proper ≡ links.proper.items → Tables v disk ups further proper
tables_of v disk links ups further proper h u f p = record {
  up_table = subst (IsUpTable v disk) (sym u) h.ups;
  further_table = subst (λ (xs : List ℕ). Tallies xs (gathered (further_in v disk) (last disk))) (sym f) h.further;
  proper_table = subst (λ (xs : List ℕ). Tallies xs (gathered (proper_in v disk) (last disk))) (sym p) h.proper;
  further_length = ap length f ∙ h.further_length ∙ sym h.ups.length ∙ sym (ap length u);
  proper_length = ap length p ∙ h.proper_length ∙ sym h.ups.length ∙ sym (ap length u);
}

pub up_zero : (v : Version) (disk : List (List ℕ)) → up v disk 0 ≡ 0
up_zero v disk = up_none v disk 0 (no_directory_zero disk)
