-- A step of one hart leaves the rows of the others.
use Rattle.plain_tree.proofs.Vocabulary.{◌≡◌, Version, ◌≢◌, inl, inr, ℕ, ◌+◌, ◌<◌, Bool, true, false, ◌&&◌, ◌==◌, nat_lt, List, [], ◌∷◌, length, Option, Some, None, refl, sym, ◌∙◌, ap, if◌then◌else◌, OpenFile, Hold, Action, TreeStep, StepAnswer, Failed, Open, Truncate, Read, WritePart, Find, Bump, Enter, Unbump, Unlink, Mkdir, Chdir, Dup, Close, Fstat, Inherit, hart_count, descriptor_count, Name, Tree, put, and_then, any_below, look, parent, resolve, at_dir, at_hold, closed, creates, drop_hold, effect_with, enter_hold, entered, file_at, has_fd, has_room, held, lowered, lowest, made, moved, new_file, opened_at, opened_in, opened_new, opens_one, part, path_of, raise_hold, raised, refused, removed, removed_child, truncated, with_file, with_nodes, written, wrote, Step, key_at, key_of, row_of}
use Rattle.plain_tree.specs.Laws.{HasFiles}
use Rattle.plain_tree.proofs.Maps.{any_at, either, eq_self, put_is, put_other}
use Rattle.plain_tree.proofs.RowLemmas.{less_is}
use Rattle.plain_tree.proofs.Settling.{settled_row}

-- the hart has no descriptor of that open file
abbrev pub HasNot : Tree → ℕ → ℕ → Type 0
HasNot t g id = (i k : ℕ) → g < hart_count → i < descriptor_count → t.fds g i ≡ Some k → k ≢ id

same_row : (u t : Tree) (g : ℕ) → u.cwd g ≡ t.cwd g → u.holds g ≡ t.holds g → u.fds g ≡ t.fds g → ((i : ℕ) → g < hart_count → i < descriptor_count → key_at u.files (u.fds g i) ≡ key_at t.files (t.fds g i)) → row_of u g ≡ row_of t g
same_row u t g cwd hold fds keys = λ r. record { cwd = cwd r; hold = hold r; fds = fds r; keys = λ i. each i (nat_lt g hart_count) (nat_lt i descriptor_count) refl refl r }
  where
    each : (i : ℕ) (a b : Bool) → nat_lt g hart_count ≡ a → nat_lt i descriptor_count ≡ b → (if a && b then key_at u.files (u.fds g i) else None) ≡ (if a && b then key_at t.files (t.fds g i) else None)
    each i true true p q = keys i (less_is g hart_count p) (less_is i descriptor_count q)
    each i true false p q = refl
    each i false true p q = refl
    each i false false p q = refl

-- a hold, a current directory or descriptors of another hart

hold_row : (t : Tree) (h : ℕ) (o : Option Hold) (g : ℕ) → g ≢ h → row_of (record t { holds = put t.holds h o }) g ≡ row_of t g
hold_row t h o g ne = same_row (record t { holds = put t.holds h o }) t g refl (put_other t.holds h o g ne) refl (λ i lg li. refl)

cwd_row : (t : Tree) (h d g : ℕ) → g ≢ h → row_of (record t { cwd = put t.cwd h d }) g ≡ row_of t g
cwd_row t h d g ne = same_row (record t { cwd = put t.cwd h d }) t g (put_other t.cwd h d g ne) refl refl (λ i lg li. refl)

fds_row : (t : Tree) (h : ℕ) (x : ℕ → Option ℕ) (g : ℕ) → g ≢ h → row_of (record t { fds = put t.fds h x }) g ≡ row_of t g
fds_row t h x g ne =
    let same = put_other t.fds h x g ne in
    same_row (record t { fds = put t.fds h x }) t g refl refl same (λ i lg li. ap (λ (f : ℕ → Option ℕ). key_at t.files (f i)) same)

-- an open file that the hart doesn't have
file_row : (t : Tree) (h id : ℕ) (f : OpenFile) (x : ℕ → Option ℕ) (g : ℕ) → g ≢ h → HasNot t g id → row_of (record t { files = put t.files id (Some f); fds = put t.fds h x }) g ≡ row_of t g
file_row t h id f x g ne not' = same_row u t g refl refl same (λ i lg li. ap (λ (y : ℕ → Option ℕ). key_at u.files (y i)) same ∙ at i lg li (t.fds g i) refl)
  where
    u : Tree
    u = record t { files = put t.files id (Some f); fds = put t.fds h x }

    same : put t.fds h x g ≡ t.fds g
    same = put_other t.fds h x g ne

    at : (i : ℕ) → g < hart_count → i < descriptor_count → (r : Option ℕ) → t.fds g i ≡ r → key_at (put t.files id (Some f)) r ≡ key_at t.files r
    at i lg li None q = refl
    at i lg li (Some k) q = ap (λ (o : Option OpenFile). key_of o) (put_other t.files id (Some f) k (not' i k lg li q))

opened_row : (t : Tree) (h id k flags g : ℕ) → g ≢ h → (has_room (t.fds h) ≡ true → HasNot t g id) → row_of (with_file t h id k flags) g ≡ row_of t g
opened_row t h id k flags g ne not' = elim (either (has_room (t.fds h))) [
  | inl y ↦ rw y (file_row t h id _ (put (t.fds h) (lowest (t.fds h)) (Some id)) g ne (not' y))
  | inr y ↦ rw y refl
]

at_row : (t : Tree) (h id flags : ℕ) (r : Option ℕ) (new g : ℕ) → g ≢ h → (has_room (t.fds h) ≡ true → HasNot t g id) → row_of (opened_at t h id flags r new) g ≡ row_of t g
at_row t h id flags None new g ne not' = refl
at_row t h id flags (Some k) new g ne not' = opened_row t h id k flags g ne not'

in_row : (t : Tree) (h id flags d : ℕ) (e : Name) (r : Option ℕ) (new g : ℕ) → g ≢ h → (has_room (t.fds h) ≡ true → HasNot t g id) → row_of (opened_in t h id flags d e r new) g ≡ row_of t g
in_row t h id flags d e (Some k) new g ne not' = opened_row t h id k flags g ne not'
in_row t h id flags d e None new g ne not' = opened_row (with_nodes (entered t d e new) (put (entered t d e new).nodes new (Some new_file))) h id new flags g ne not'

new_row : (t : Tree) (h id flags : ℕ) (par : Option (ℕ × Name)) (new g : ℕ) → g ≢ h → (has_room (t.fds h) ≡ true → HasNot t g id) → row_of (opened_new t h id flags par new) g ≡ row_of t g
new_row t h id flags None new g ne not' = refl
new_row t h id flags (Some q) new g ne not' = in_row t h id flags q.0 q.1 (look t.nodes q.0 q.1) new g ne not'

-- no row has an offset, so a moved offset changes none
moved_row : (t : Tree) (o : Option ℕ) (by g : ℕ) → row_of (moved t o by) g ≡ row_of t g
moved_row t None by g = refl
moved_row t (Some id) by g = same_row (moved t (Some id) by) t g refl refl refl (λ i lg li. at (t.fds g i))
  where
    key : (r : Option OpenFile) → key_of (and_then r (λ f. Some (record f { offset = f.offset + by }))) ≡ key_of r
    key None = refl
    key (Some f) = refl

    at : (r : Option ℕ) → key_at (moved t (Some id) by).files r ≡ key_at t.files r
    at None = refl
    at (Some k) = elim (put_is t.files id (and_then (t.files id) (λ f. Some (record f { offset = f.offset + by }))) k) [
      | inl w ↦ ap (λ (x : Option OpenFile). key_of x) w.1 ∙ (key (t.files id) ∙ ap (λ (j : ℕ). key_of (t.files j)) (sym w.0))
      | inr w ↦ ap (λ (x : Option OpenFile). key_of x) w.1
    ]

truncated_row : (t : Tree) (o : Option OpenFile) (g : ℕ) → row_of (truncated t o) g ≡ row_of t g
truncated_row t None g = refl
truncated_row t (Some f) g = refl

written_row : (t : Tree) (o : Option OpenFile) (b : List ℕ) (r : Option ℕ) (g : ℕ) → row_of (moved (written t o b) r (length b)) g ≡ row_of t g
written_row t None b r g = moved_row t r (length b) g
written_row t (Some f) b r g = moved_row (written t (Some f) b) r (length b) g

wrote_row : (t : Tree) (h fd : ℕ) (b : List ℕ) (g : ℕ) → row_of (wrote t h fd b) g ≡ row_of t g
wrote_row t h fd [] g = refl
wrote_row t h fd (x ∷ xs) g = written_row t (file_at t h fd) (x ∷ xs) (t.fds h fd) g

held_row : (t : Tree) (h : ℕ) (r : Option ℕ) (g : ℕ) → g ≢ h → row_of (held t h r) g ≡ row_of t g
held_row t h None g ne = refl
held_row t h (Some k) g ne = hold_row t h (Some (record { number = k; raised = false })) g ne

bump_row : (t : Tree) (h : ℕ) (r : Option Hold) (g : ℕ) → g ≢ h → row_of (record (at_hold t r raised) { holds = put t.holds h (raise_hold r) }) g ≡ row_of t g
bump_row t h None g ne = hold_row t h None g ne
bump_row t h (Some o) g ne = hold_row t h (Some (record { number = o.number; raised = true })) g ne

unbump_row : (t : Tree) (h : ℕ) (r : Option Hold) (g : ℕ) → g ≢ h → row_of (drop_hold (at_hold t r lowered) h) g ≡ row_of t g
unbump_row t h None g ne = hold_row t h None g ne
unbump_row t h (Some o) g ne = hold_row t h None g ne

enter_row : (t : Tree) (h : ℕ) (par : Option (ℕ × Name)) (r : Option Hold) (g : ℕ) → g ≢ h → row_of (drop_hold (enter_hold t par r) h) g ≡ row_of t g
enter_row t h None r g ne = hold_row t h None g ne
enter_row t h (Some q) None g ne = hold_row t h None g ne
enter_row t h (Some q) (Some o) g ne = hold_row t h None g ne

child_row : (t : Tree) (d : ℕ) (e : Name) (r : Option ℕ) (g : ℕ) → row_of (removed_child t d e r) g ≡ row_of t g
child_row t d e None g = refl
child_row t d e (Some n) g = refl

removed_row : (t : Tree) (par : Option (ℕ × Name)) (g : ℕ) → row_of (removed t par) g ≡ row_of t g
removed_row t None g = refl
removed_row t (Some q) g = child_row t q.0 q.1 (look t.nodes q.0 q.1) g

made_row : (t : Tree) (par : Option (ℕ × Name)) (new g : ℕ) → row_of (made t par new) g ≡ row_of t g
made_row t None new g = refl
made_row t (Some q) new g = refl

dir_row : (t : Tree) (h : ℕ) (r : Option ℕ) (g : ℕ) → g ≢ h → row_of (at_dir t h r) g ≡ row_of t g
dir_row t h None g ne = refl
dir_row t h (Some n) g ne = cwd_row t h n g ne

-- a descriptor's open file stays when open files without a descriptor go
kept_file : (t : Tree) (g i k : ℕ) → g < hart_count → i < descriptor_count → t.fds g i ≡ Some k → (closed t).files k ≡ t.files k
unfolding has_fd
kept_file t g i k lg li q = rw (any_at hart_count (λ h. any_below descriptor_count (λ j. elim (t.fds h j) [ None ↦ false | Some l ↦ l == k ])) g lg (any_at descriptor_count (λ j. elim (t.fds g j) [ None ↦ false | Some l ↦ l == k ]) i li (rw q (eq_self k)))) refl

closed_row : (t : Tree) (g : ℕ) → row_of (closed t) g ≡ row_of t g
closed_row t g = same_row (closed t) t g refl refl refl (λ i lg li. at i lg li (t.fds g i) refl)
  where
    at : (i : ℕ) → g < hart_count → i < descriptor_count → (r : Option ℕ) → t.fds g i ≡ r → key_at (closed t).files r ≡ key_at t.files r
    at i lg li None q = refl
    at i lg li (Some k) q = ap (λ (o : Option OpenFile). key_of o) (kept_file t g i k lg li q)

pub effect_row : (v : Version) (t : Tree) (h : ℕ) (s : Action) (res : Option ℕ) (par : Option (ℕ × Name)) (new id g : ℕ) → g ≢ h → (s ≡ Inherit g → ⊥) → (opens_one t h s ≡ true → HasNot t g id) → row_of (effect_with v t h s res par new id) g ≡ row_of t g
unfolding effect_with
effect_row v t h (Open path flags) res par new id g ne child not' = elim (either (creates flags)) [
  | inl y ↦ rw y (new_row t h id flags par new g ne not')
  | inr y ↦ rw y (at_row t h id flags res new g ne not')
]
effect_row v t h (Truncate fd) res par new id g ne child not' = truncated_row t (file_at t h fd) g
effect_row v t h (Read fd n) res par new id g ne child not' = moved_row t (t.fds h fd) (length (part v t (file_at t h fd) n)) g
effect_row v t h (WritePart fd b) res par new id g ne child not' = wrote_row t h fd b g
effect_row v t h (Find old) res par new id g ne child not' = held_row t h res g ne
effect_row v t h Bump res par new id g ne child not' = bump_row t h (t.holds h) g ne
effect_row v t h (Enter name) res par new id g ne child not' = enter_row t h par (t.holds h) g ne
effect_row v t h Unbump res par new id g ne child not' = unbump_row t h (t.holds h) g ne
effect_row v t h (Unlink path) res par new id g ne child not' = removed_row t par g
effect_row v t h (Mkdir path) res par new id g ne child not' = made_row t par new g
effect_row v t h (Chdir path) res par new id g ne child not' = dir_row t h res g ne
effect_row v t h (Dup fd) res par new id g ne child not' = fds_row t h (put (t.fds h) (lowest (t.fds h)) (t.fds h fd)) g ne
effect_row v t h (Close fd) res par new id g ne child not' =
    closed_row (record t { fds = put t.fds h (put (t.fds h) fd None) }) g ∙ fds_row t h (put (t.fds h) fd None) g ne
effect_row v t h (Fstat fd) res par new id g ne child not' = refl
effect_row v t h (Inherit c) res par new id g ne child not' =
    let other : g ≢ c = λ e. child (ap (λ (z : ℕ). Inherit z) (sym e)) in
    cwd_row (record t { fds = put t.fds c (t.fds h) }) c (t.cwd h) g other ∙ fds_row t c (t.fds h) g other

refused_row : (t : Tree) (h : ℕ) (s : Action) (g : ℕ) → g ≢ h → row_of (refused t h s) g ≡ row_of t g
refused_row t h Bump g ne = settled_row (drop_hold t h) g ∙ hold_row t h None g ne
refused_row t h s g ne = refl

-- if a hart's descriptors have their open files, an unused id is none of theirs
new_id : (t : Tree) (g id : ℕ) → HasFiles t g → t.files id ≡ None → HasNot t g id
new_id t g id own none i k lg li q e = own i k lg li q (ap t.files e ∙ none)

pub rows_stay : (v : Version) (t : Tree) (s : TreeStep) (a : StepAnswer) (t' : Tree) (g : ℕ) → Step v t s a t' → g ≢ s.hart → (s.action ≡ Inherit g → ⊥) → HasFiles t g → row_of t' g ≡ row_of t g
rows_stay v t s (Failed k) t' g x ne child own = ap (λ (u : Tree). row_of u g) x.1.1 ∙ refused_row t s.hart s.action g ne
rows_stay v t s a t' g x ne child own =
    let res : Option ℕ = resolve v t s.hart (path_of s.action) in
    let par : Option (ℕ × Name) = parent v t s.hart (path_of s.action) in
    ap (λ (u : Tree). row_of u g) x.1.3
    ∙ (settled_row (effect_with v t s.hart s.action res par s.new x.0) g ∙ effect_row v t s.hart s.action res par s.new x.0 g ne child (λ o. new_id t g x.0 own (x.1.2.file o).unused))
