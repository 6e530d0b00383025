-- A step of a settled tree is that of the unsettled one.
use Rattle.plain_tree.proofs.Vocabulary.{◌≡◌, Version, ◌≢◌, ◌⊎◌, inl, inr, ℕ, ◌+◌, ◌-◌, ◌<◌, Bool, true, false, ◌&&◌, ◌||◌, not, ◌==◌, nat_lt, List, [], ◌∷◌, length, take, drop, Option, Some, None, refl, sym, ◌∙◌, ap, subst, if◌then◌else◌, Cause, IsDirectory, BadMode, TooManyLinks, DotName, NotDirectory, Descriptors, Node, Directory, OpenFile, Hold, Action, Open, Truncate, Read, WritePart, Find, Bump, Enter, Unbump, Unlink, Mkdir, Chdir, Dup, Close, Fstat, Inherit, StepAnswer, Opened, Bytes, Status, Failed, NoRoom, hart_count, descriptor_count, count_limit, Name, Tree, put, and_then, all_slots, dot, dotdot, fd_names, file_names, first_slot, hold_names, is_directory, is_live, is_named, live_directory, look, same_name, settle, slots_of, IsInPlace, IsNewNode, MayChoose, StepWith, answer_with, at_dir, at_hold, at_node, bump_refusal, chdir_refusal, child_refusal, cleared, closed, content, creates, drop_hold, effect_with, emptied, enter_hold, enter_refusal, fd_refusal, file_at, find_refusal, first_free, has, has_fd, has_room, held, is_absent, is_file, is_nothing, is_open_file, lowered, lowest, made, makes_node, mkdir_refusal, moved, name_taken, new_directory, new_file, no_driver, node_or, not_empty, open_kind, open_new, open_old, open_there, opened, opened_at, opened_in, opened_new, opens_file, or_else, part, place_of, raise_hold, raised, read_refusal, read_write, refusal_with, refused, removed, removed_child, stat_answer, stat_of, truncated, unlink_refusal, with_file, with_nodes, write_kind, write_only, write_refusal, written, written_kind, wrote, Stays, AsksForWhatStays}
use Rattle.plain_tree.proofs.Maps.{and_true, either, eq_not, eq_self, same_or, put_is, put_same, put_other}
use Rattle.plain_tree.proofs.Settling.{Unnamed, unnamed, is_unnamed, settle_nodes, settle_or, settle_again, settle_named, settle_none, named_fd, named_hold}
use Rattle.plain_tree.proofs.RowLemmas.{less_is}

-- Nodes ms in place of a tree's: what a step of hart h asks for is the same in both.
pub record Asked (t : Tree) (ms : ℕ → Option Node) (h : ℕ) (res : Option ℕ) (par : Option (ℕ × Name)) : Type 0 where
  pub node : (n : ℕ) → res ≡ Some n → ms n ≡ t.nodes n
  pub directory : (q : ℕ × Name) → par ≡ Some q → ms q.0 ≡ t.nodes q.0
  pub child : (q : ℕ × Name) (n : ℕ) → par ≡ Some q → look t.nodes q.0 q.1 ≡ Some n → ms n ≡ t.nodes n
  pub file : (fd : ℕ) (f : OpenFile) → file_at t h fd ≡ Some f → ms f.number ≡ t.nodes f.number
  pub hold : (o : Hold) → t.holds h ≡ Some o → ms o.number ≡ t.nodes o.number

look_at : (ns ms : ℕ → Option Node) (d : ℕ) (e : Name) → ms d ≡ ns d → look ms d e ≡ look ns d e
unfolding look
look_at ns ms d e same = ap (λ (o : Option Node). if live_directory o then first_slot (all_slots o) e else None) same

-- the same in a function of the node that is there
kind_at : {A : Type 0} (f : Node → A) (x y : Option Node) → x ≡ y → f (node_or x) ≡ f (node_or y)
kind_at f x y e = ap (λ (o : Option Node). f (node_or o)) e

-- Causes.

there_same : (t : Tree) (ms : ℕ → Option Node) (flags : ℕ) (r : Option ℕ) → ((n : ℕ) → r ≡ Some n → ms n ≡ t.nodes n) → open_there (with_nodes t ms) flags r ≡ open_there t flags r
there_same t ms flags None same = refl
there_same t ms flags (Some n) same = kind_at (λ v. open_kind flags v.kind) (ms n) (t.nodes n) (same n refl)

old_same : (t : Tree) (ms : ℕ → Option Node) (flags : ℕ) (r : Option ℕ) → ((n : ℕ) → r ≡ Some n → ms n ≡ t.nodes n) → open_old (with_nodes t ms) flags r ≡ open_old t flags r
old_same t ms flags None same = refl
old_same t ms flags (Some n) same = kind_at (λ v. open_kind flags v.kind) (ms n) (t.nodes n) (same n refl)

new_same : (t : Tree) (ms : ℕ → Option Node) (h flags : ℕ) (res : Option ℕ) (par : Option (ℕ × Name)) → Asked t ms h res par → open_new (with_nodes t ms) flags par ≡ open_new t flags par
new_same t ms h flags res None a = refl
new_same t ms h flags res (Some q) a =
    ap (λ (r : Option ℕ). open_there (with_nodes t ms) flags r) (look_at t.nodes ms q.0 q.1 (a.directory q refl))
    ∙ there_same t ms flags (look t.nodes q.0 q.1) (λ n e. a.child q n refl e)

read_same : (t : Tree) (ms : ℕ → Option Node) (o : Option OpenFile) → ((f : OpenFile) → o ≡ Some f → ms f.number ≡ t.nodes f.number) → read_refusal (with_nodes t ms) o ≡ read_refusal t o
read_same t ms None same = refl
read_same t ms (Some f) same = kind_at (λ w. if f.readable then no_driver w.kind else Some BadMode) (ms f.number) (t.nodes f.number) (same f refl)

write_same : (v : Version) (t : Tree) (ms : ℕ → Option Node) (b : List ℕ) (o : Option OpenFile) → ((f : OpenFile) → o ≡ Some f → ms f.number ≡ t.nodes f.number) → write_refusal v (with_nodes t ms) b o ≡ write_refusal v t b o
write_same v t ms b None same = refl
write_same v t ms b (Some f) same = kind_at (λ w. if f.writable then write_kind v w.kind f.offset b else Some BadMode) (ms f.number) (t.nodes f.number) (same f refl)

find_same : (t : Tree) (ms : ℕ → Option Node) (r : Option ℕ) → ((n : ℕ) → r ≡ Some n → ms n ≡ t.nodes n) → find_refusal (with_nodes t ms) r ≡ find_refusal t r
find_same t ms None same = refl
find_same t ms (Some n) same = kind_at (λ v. if is_directory v.kind then Some IsDirectory else None) (ms n) (t.nodes n) (same n refl)

chdir_same : (t : Tree) (ms : ℕ → Option Node) (r : Option ℕ) → ((n : ℕ) → r ≡ Some n → ms n ≡ t.nodes n) → chdir_refusal (with_nodes t ms) r ≡ chdir_refusal t r
chdir_same t ms None same = refl
chdir_same t ms (Some n) same = kind_at (λ v. if is_directory v.kind then None else Some NotDirectory) (ms n) (t.nodes n) (same n refl)

bump_same : (t : Tree) (ms : ℕ → Option Node) (r : Option Hold) → ((o : Hold) → r ≡ Some o → ms o.number ≡ t.nodes o.number) → bump_refusal (with_nodes t ms) r ≡ bump_refusal t r
bump_same t ms None same = refl
bump_same t ms (Some o) same = kind_at (λ v. if nat_lt v.count count_limit then None else Some TooManyLinks) (ms o.number) (t.nodes o.number) (same o refl)

enter_same : (t : Tree) (ms : ℕ → Option Node) (h : ℕ) (res : Option ℕ) (par : Option (ℕ × Name)) → Asked t ms h res par → enter_refusal (with_nodes t ms) par ≡ enter_refusal t par
enter_same t ms h res None a = refl
enter_same t ms h res (Some q) a = ap name_taken (look_at t.nodes ms q.0 q.1 (a.directory q refl))

child_same : (t : Tree) (ms : ℕ → Option Node) (r : Option ℕ) → ((n : ℕ) → r ≡ Some n → ms n ≡ t.nodes n) → child_refusal (with_nodes t ms) r ≡ child_refusal t r
child_same t ms None same = refl
child_same t ms (Some n) same = kind_at (λ v. not_empty v.kind) (ms n) (t.nodes n) (same n refl)

unlink_same : (t : Tree) (ms : ℕ → Option Node) (h : ℕ) (res : Option ℕ) (par : Option (ℕ × Name)) → Asked t ms h res par → unlink_refusal (with_nodes t ms) par ≡ unlink_refusal t par
unlink_same t ms h res None a = refl
unlink_same t ms h res (Some q) a =
    ap (λ (k : Option Cause). if same_name q.1 dot || same_name q.1 dotdot then Some DotName else k)
    (ap (λ (r : Option ℕ). child_refusal (with_nodes t ms) r) (look_at t.nodes ms q.0 q.1 (a.directory q refl)) ∙ child_same t ms (look t.nodes q.0 q.1) (λ n e. a.child q n refl e))

mkdir_same : (t : Tree) (ms : ℕ → Option Node) (h : ℕ) (res : Option ℕ) (par : Option (ℕ × Name)) → Asked t ms h res par → mkdir_refusal (with_nodes t ms) par ≡ mkdir_refusal t par
mkdir_same t ms h res None a = refl
mkdir_same t ms h res (Some q) a = λ i. or_else (name_taken (look_at t.nodes ms q.0 q.1 (a.directory q refl) i)) (if nat_lt (node_or (a.directory q refl i)).count count_limit then None else Some TooManyLinks)

pub refusal_same : (v : Version) (t : Tree) (ms : ℕ → Option Node) (h : ℕ) (s : Action) (res : Option ℕ) (par : Option (ℕ × Name)) → Asked t ms h res par → refusal_with v (with_nodes t ms) h s res par ≡ refusal_with v t h s res par
unfolding refusal_with
refusal_same v t ms h (Open path flags) res par a = λ i. if creates flags then new_same t ms h flags res par a i else old_same t ms flags res a.node i
refusal_same v t ms h (Read fd n) res par a = read_same t ms (file_at t h fd) (a.file fd)
refusal_same v t ms h (WritePart fd b) res par a = write_same v t ms b (file_at t h fd) (a.file fd)
refusal_same v t ms h (Find old) res par a = find_same t ms res a.node
refusal_same v t ms h Bump res par a = bump_same t ms (t.holds h) a.hold
refusal_same v t ms h (Enter name) res par a = enter_same t ms h res par a
refusal_same v t ms h (Unlink path) res par a = unlink_same t ms h res par a
refusal_same v t ms h (Mkdir path) res par a = mkdir_same t ms h res par a
refusal_same v t ms h (Chdir path) res par a = chdir_same t ms res a.node
refusal_same v t ms h s res par a = refl

-- Answers, places, and whether a node is made.

looked : (t : Tree) (ms : ℕ → Option Node) (h : ℕ) (res : Option ℕ) (par : Option (ℕ × Name)) → Asked t ms h res par → and_then par (λ q. look ms q.0 q.1) ≡ and_then par (λ q. look t.nodes q.0 q.1)
looked t ms h res None a = refl
looked t ms h res (Some q) a = look_at t.nodes ms q.0 q.1 (a.directory q refl)

there : (t : Tree) (ms : ℕ → Option Node) (h : ℕ) (res : Option ℕ) (par : Option (ℕ × Name)) (n : ℕ) → Asked t ms h res par → and_then par (λ q. look t.nodes q.0 q.1) ≡ Some n → ms n ≡ t.nodes n
there t ms h res None n a e = absurd cc
there t ms h res (Some q) n a e = a.child q n refl e

opens_same : (t : Tree) (ms : ℕ → Option Node) (r : Option ℕ) → ((n : ℕ) → r ≡ Some n → ms n ≡ t.nodes n) → opens_file (with_nodes t ms) r ≡ opens_file t r
opens_same t ms None same = refl
opens_same t ms (Some n) same = kind_at (λ v. is_file v.kind) (ms n) (t.nodes n) (same n refl)

opened_same : (t : Tree) (ms : ℕ → Option Node) (h id : ℕ) (x y : Option ℕ) → x ≡ y → ((n : ℕ) → y ≡ Some n → ms n ≡ t.nodes n) → opened (with_nodes t ms) h id x ≡ opened t h id y
opened_same t ms h id x y e same = ap (λ (r : Option ℕ). opened (with_nodes t ms) h id r) e ∙ (λ i. if has_room (t.fds h) then Opened (lowest (t.fds h)) id (opens_same t ms y same i) else NoRoom Descriptors)

part_same : (v : Version) (t : Tree) (ms : ℕ → Option Node) (o : Option OpenFile) (n : ℕ) → ((f : OpenFile) → o ≡ Some f → ms f.number ≡ t.nodes f.number) → part v (with_nodes t ms) o n ≡ part v t o n
part_same v t ms None n same = refl
part_same v t ms (Some f) n same = kind_at (λ w. take n (drop f.offset (content v w.kind))) (ms f.number) (t.nodes f.number) (same f refl)

stat_same : (v : Version) (t : Tree) (ms : ℕ → Option Node) (o : Option OpenFile) → ((f : OpenFile) → o ≡ Some f → ms f.number ≡ t.nodes f.number) → stat_answer v (with_nodes t ms) o ≡ stat_answer v t o
stat_same v t ms None same = refl
stat_same v t ms (Some f) same = kind_at (λ w. Status (stat_of v f.number w)) (ms f.number) (t.nodes f.number) (same f refl)

pub answer_same : (v : Version) (t : Tree) (ms : ℕ → Option Node) (h : ℕ) (s : Action) (res : Option ℕ) (par : Option (ℕ × Name)) (id : ℕ) → Asked t ms h res par → answer_with v (with_nodes t ms) h s res par id ≡ answer_with v t h s res par id
unfolding answer_with
answer_same v t ms h (Open path flags) res par id a = elim (either (creates flags)) [
  | inl y ↦ rw y (opened_same t ms h id (and_then par (λ q. look ms q.0 q.1)) (and_then par (λ q. look t.nodes q.0 q.1)) (looked t ms h res par a) (λ n e. there t ms h res par n a e))
  | inr y ↦ rw y (opened_same t ms h id res res refl a.node)
]
answer_same v t ms h (Read fd n) res par id a = ap (λ (b : List ℕ). Bytes b) (part_same v t ms (file_at t h fd) n (a.file fd))
answer_same v t ms h (Fstat fd) res par id a = stat_same v t ms (file_at t h fd) (a.file fd)
answer_same v t ms h s res par id a = refl

open_place : (t : Tree) (ms : ℕ → Option Node) (o : Option OpenFile) → ((f : OpenFile) → o ≡ Some f → ms f.number ≡ t.nodes f.number) → is_open_file (with_nodes t ms) o ≡ is_open_file t o
open_place t ms None same = refl
open_place t ms (Some f) same = kind_at (λ v. is_file v.kind) (ms f.number) (t.nodes f.number) (same f refl)

pub place_same : (t : Tree) (ms : ℕ → Option Node) (h : ℕ) (s : Action) (res : Option ℕ) (par : Option (ℕ × Name)) → Asked t ms h res par → place_of (with_nodes t ms) h s ≡ place_of t h s
unfolding place_of
place_same t ms h (Truncate fd) res par a = open_place t ms (file_at t h fd) (a.file fd)
place_same t ms h s res par a = refl

absent_same : (t : Tree) (ms : ℕ → Option Node) (h : ℕ) (res : Option ℕ) (par : Option (ℕ × Name)) → Asked t ms h res par → is_absent (with_nodes t ms) par ≡ is_absent t par
absent_same t ms h res None a = refl
absent_same t ms h res (Some q) a = ap (λ (r : Option ℕ). is_nothing r) (look_at t.nodes ms q.0 q.1 (a.directory q refl))

pub makes_same : (t : Tree) (ms : ℕ → Option Node) (h : ℕ) (s : Action) (res : Option ℕ) (par : Option (ℕ × Name)) → Asked t ms h res par → makes_node (with_nodes t ms) s par ≡ makes_node t s par
makes_same t ms h (Open path flags) res par a = ap (λ (b : Bool). creates flags && b) (absent_same t ms h res par a)
makes_same t ms h s res par a = refl

-- Changes. If tree b has nodes ns, it settles to the same tree with nodes ms.
abbrev pub Agrees : Tree → (ℕ → Option Node) → (ℕ → Option Node) → Type 0
Agrees b ms ns = (n : ℕ) → (ms n ≡ ns n) ⊎ ((ms n ≡ None) × (is_live (ns n) ≡ false) × (is_named b n ≡ false))

agrees_put : (b : Tree) (ms ns : ℕ → Option Node) (d : ℕ) (x y : Option Node) → x ≡ y → Agrees b ms ns → Agrees b (put ms d x) (put ns d y)
agrees_put b ms ns d x y same a n = elim (same_or n d) [
  | inl e ↦ inl (subst (λ (k : ℕ). put ms d x k ≡ put ns d y k) (sym e) (put_same ms d x ∙ (same ∙ sym (put_same ns d y))))
  | inr ne ↦ elim (a n) [
    | inl e ↦ inl (put_other ms d x n ne ∙ (e ∙ sym (put_other ns d y n ne)))
    | inr e ↦ inr (put_other ms d x n ne ∙ e.0, ap (λ (o : Option Node). is_live o) (put_other ns d y n ne) ∙ e.1, e.2)
  ]
]

-- a node that both have is changed
agrees_at : (b : Tree) (ms ns : ℕ → Option Node) (d : ℕ) (f : Node → Node) → ms d ≡ ns d → Agrees b ms ns → Agrees b (put ms d (Some (f (node_or (ms d))))) (put ns d (Some (f (node_or (ns d)))))
agrees_at b ms ns d f e a = agrees_put b ms ns d (Some (f (node_or (ms d)))) (Some (f (node_or (ns d)))) (kind_at (λ v. Some (f v)) (ms d) (ns d) e) a

put_at : (ms ns : ℕ → Option Node) (d : ℕ) (x y : Option Node) (n : ℕ) → x ≡ y → ms n ≡ ns n → put ms d x n ≡ put ns d y n
put_at ms ns d x y n same e = elim (same_or n d) [
  | inl q ↦ subst (λ (k : ℕ). put ms d x k ≡ put ns d y k) (sym q) (put_same ms d x ∙ (same ∙ sym (put_same ns d y)))
  | inr ne ↦ put_other ms d x n ne ∙ (e ∙ sym (put_other ns d y n ne))
]

settles : (b : Tree) (ms : ℕ → Option Node) → Agrees b ms b.nodes → settle (with_nodes b ms) ≡ settle b
settles b ms a = settle_nodes b ms b.nodes a

-- ms has all nodes of t except some that no hart names and that have no count
abbrev pub Leaves : Tree → (ℕ → Option Node) → Type 0
Leaves t ms = (n : ℕ) → (ms n ≡ t.nodes n) ⊎ ((ms n ≡ None) × (is_live (t.nodes n) ≡ false) × Unnamed t n)

-- if the harts of b name no more than those of t, except what ms has
begins : (t b : Tree) (ms : ℕ → Option Node) → Leaves t ms → ((n : ℕ) → Unnamed t n → Unnamed b n ⊎ (ms n ≡ t.nodes n)) → Agrees b ms t.nodes
begins t b ms leaves less n = elim (leaves n) [
  | inl e ↦ inl e
  | inr e ↦ elim (less n e.2) [ inl u ↦ inr (e.0, e.1, is_unnamed b n u) | inr s ↦ inl s ]
]

-- Names that a change leaves or adds.

nodes_unnamed : (t : Tree) (ns : ℕ → Option Node) (n : ℕ) → Unnamed t n → Unnamed (with_nodes t ns) n
nodes_unnamed t ns n u = record { cwd = u.cwd; hold = u.hold; fds = u.fds }

hold_unnamed : (t : Tree) (h : ℕ) (o : Option Hold) (n : ℕ) → Unnamed t n → hold_names o n ≡ false → Unnamed (record t { holds = put t.holds h o }) n
hold_unnamed t h o n u away = record {
  cwd = u.cwd;
  hold = λ g lt. elim (put_is t.holds h o g) [ inl w ↦ ap (λ (x : Option Hold). hold_names x n) w.1 ∙ away | inr w ↦ ap (λ (x : Option Hold). hold_names x n) w.1 ∙ u.hold g lt ];
  fds = u.fds;
}

cwd_unnamed : (t : Tree) (h d n : ℕ) → Unnamed t n → (d == n) ≡ false → Unnamed (record t { cwd = put t.cwd h d }) n
cwd_unnamed t h d n u away = record {
  cwd = λ g lt. elim (put_is t.cwd h d g) [ inl w ↦ ap (λ (x : ℕ). x == n) w.1 ∙ away | inr w ↦ ap (λ (x : ℕ). x == n) w.1 ∙ u.cwd g lt ];
  hold = u.hold;
  fds = u.fds;
}

moved_unnamed : (t : Tree) (o : Option ℕ) (by n : ℕ) → Unnamed t n → Unnamed (moved t o by) n
moved_unnamed t None by n u = u
moved_unnamed t (Some id) by n u = record { cwd = u.cwd; hold = u.hold; fds = λ g i lt li. at (t.fds g i) (u.fds g i lt li) }
  where
    on : Option OpenFile → Option OpenFile
    on r = and_then r (λ f. Some (record f { offset = f.offset + by }))

    names : (r : Option OpenFile) → file_names (and_then r (λ f. Some (record f { offset = f.offset + by }))) n ≡ file_names r n
    names None = refl
    names (Some f) = refl

    at : (r : Option ℕ) → fd_names t r n ≡ false → fd_names (moved t (Some id) by) r n ≡ false
    at None e = refl
    at (Some k) e = elim (put_is t.files id (and_then (t.files id) (λ f. Some (record f { offset = f.offset + by }))) k) [
      | inl w ↦ ap (λ (x : Option OpenFile). file_names x n) w.1 ∙ (names (t.files id) ∙ (ap (λ (j : ℕ). file_names (t.files j) n) (sym w.0) ∙ e))
      | inr w ↦ ap (λ (x : Option OpenFile). file_names x n) w.1 ∙ e
    ]

-- a file more
abbrev one_more : Tree → ℕ → ℕ → OpenFile → Tree
one_more t h id f = record t { files = put t.files id (Some f); fds = put t.fds h (put (t.fds h) (lowest (t.fds h)) (Some id)) }

more_unnamed : (t : Tree) (h id : ℕ) (f : OpenFile) (n : ℕ) → h < hart_count → Unnamed t n → (f.number == n) ≡ false → Unnamed (one_more t h id f) n
more_unnamed t h id f n lt u away = record { cwd = u.cwd; hold = u.hold; fds = λ g i lg li. at g i li (put_is t.fds h (put (t.fds h) (lowest (t.fds h)) (Some id)) g) (u.fds g i lg li) (u.fds h i lt li) }
  where
    old : (r : Option ℕ) → fd_names t r n ≡ false → fd_names (one_more t h id f) r n ≡ false
    old None e = refl
    old (Some k) e = elim (put_is t.files id (Some f) k) [
      | inl w ↦ ap (λ (x : Option OpenFile). file_names x n) w.1 ∙ away
      | inr w ↦ ap (λ (x : Option OpenFile). file_names x n) w.1 ∙ e
    ]

    at : (g i : ℕ) → i < descriptor_count → ((g ≡ h) × (put t.fds h (put (t.fds h) (lowest (t.fds h)) (Some id)) g ≡ put (t.fds h) (lowest (t.fds h)) (Some id))) ⊎ ((g ≢ h) × (put t.fds h (put (t.fds h) (lowest (t.fds h)) (Some id)) g ≡ t.fds g)) → fd_names t (t.fds g i) n ≡ false → fd_names t (t.fds h i) n ≡ false → fd_names (one_more t h id f) ((one_more t h id f).fds g i) n ≡ false
    at g i li (inr w) e d = ap (λ (x : ℕ → Option ℕ). fd_names (one_more t h id f) (x i) n) w.1 ∙ old (t.fds g i) e
    at g i li (inl w) e d = ap (λ (x : ℕ → Option ℕ). fd_names (one_more t h id f) (x i) n) w.1 ∙ elim (put_is (t.fds h) (lowest (t.fds h)) (Some id) i) [
      | inl v ↦ ap (λ (x : Option ℕ). fd_names (one_more t h id f) x n) v.1 ∙ (ap (λ (x : Option OpenFile). file_names x n) (put_same t.files id (Some f)) ∙ away)
      | inr v ↦ ap (λ (x : Option ℕ). fd_names (one_more t h id f) x n) v.1 ∙ old (t.fds h i) d
    ]

fds_unnamed : (t : Tree) (h : ℕ) (x : ℕ → Option ℕ) (n : ℕ) → Unnamed t n → ((i : ℕ) → i < descriptor_count → fd_names t (x i) n ≡ false) → Unnamed (record t { fds = put t.fds h x }) n
fds_unnamed t h x n u away = record {
  cwd = u.cwd;
  hold = u.hold;
  fds = λ g i lg li. elim (put_is t.fds h x g) [
    | inl w ↦ ap (λ (y : ℕ → Option ℕ). fd_names t (y i) n) w.1 ∙ away i li
    | inr w ↦ ap (λ (y : ℕ → Option ℕ). fd_names t (y i) n) w.1 ∙ u.fds g i lg li
  ];
}

-- a descriptor changes
fd_unnamed : (t : Tree) (h fd : ℕ) (x : Option ℕ) (n : ℕ) → h < hart_count → Unnamed t n → fd_names t x n ≡ false → Unnamed (record t { fds = put t.fds h (put (t.fds h) fd x) }) n
fd_unnamed t h fd x n lt u away = fds_unnamed t h (put (t.fds h) fd x) n u (λ i li. elim (put_is (t.fds h) fd x i) [
  | inl w ↦ ap (λ (y : Option ℕ). fd_names t y n) w.1 ∙ away
  | inr w ↦ ap (λ (y : Option ℕ). fd_names t y n) w.1 ∙ u.fds h i lt li
])

closed_unnamed : (t : Tree) (n : ℕ) → Unnamed t n → Unnamed (closed t) n
closed_unnamed t n u = record { cwd = u.cwd; hold = u.hold; fds = λ g i lg li. at (t.fds g i) (u.fds g i lg li) }
  where
    stays : (b : Bool) (r : Option OpenFile) → file_names r n ≡ false → file_names (if b then r else None) n ≡ false
    stays true r e = e
    stays false r e = refl

    at : (r : Option ℕ) → fd_names t r n ≡ false → fd_names (closed t) r n ≡ false
    at None e = refl
    at (Some k) e = stays (has_fd t k) (t.files k) e

-- Each action.

-- ms in place of t's nodes, when t's harts change to those of b
abbrev Grows : Tree → (ℕ → Option Node) → ℕ → Type 0
Grows t ms k = (b : Tree) → ((n : ℕ) → n ≢ k → Unnamed t n → Unnamed b n) → Agrees b ms t.nodes

grows : (t : Tree) (ms : ℕ → Option Node) (k : ℕ) → Leaves t ms → ms k ≡ t.nodes k → Grows t ms k
grows t ms k leaves same b less = begins t b ms leaves (λ n u. elim (same_or n k) [
  | inl e ↦ inr (subst (λ (j : ℕ). ms j ≡ t.nodes j) (sym e) same)
  | inr ne ↦ inl (less n ne u)
])

base : (t : Tree) (ms : ℕ → Option Node) → Leaves t ms → settle (with_nodes t ms) ≡ settle t
base t ms leaves = settles t ms (begins t t ms leaves (λ n u. inl u))

abbrev just_opened : ℕ → ℕ → OpenFile
just_opened k flags = record { number = k; offset = 0; readable = not (has flags write_only); writable = has flags write_only || has flags read_write }

file_settles : (t : Tree) (ms : ℕ → Option Node) (h id k flags : ℕ) → h < hart_count → Grows t ms k → settle (with_file (with_nodes t ms) h id k flags) ≡ settle (with_file t h id k flags)
file_settles t ms h id k flags lt a = elim (either (has_room (t.fds h))) [
  | inl y ↦ rw y (settles (one_more t h id (just_opened k flags)) ms (a (one_more t h id (just_opened k flags)) (λ n ne u. more_unnamed t h id (just_opened k flags) n lt u (eq_not k n (λ e. ne (sym e))))))
  | inr y ↦ rw y (settles t ms (a t (λ n ne u. u)))
]

at_settles : (t : Tree) (ms : ℕ → Option Node) (opened_one : Option ℕ) (h id flags new : ℕ) → h < hart_count → Leaves t ms → ((n : ℕ) → opened_one ≡ Some n → ms n ≡ t.nodes n) → settle (opened_at (with_nodes t ms) h id flags opened_one new) ≡ settle (opened_at t h id flags opened_one new)
at_settles t ms None h id flags new lt leaves same = base t ms leaves
at_settles t ms (Some k) h id flags new lt leaves same = file_settles t ms h id k flags lt (grows t ms k leaves (same k refl))

abbrev with_name : Name → ℕ → Node → Node
with_name e n v = record v { kind = Directory (first_free (slots_of v.kind) (record { name = e; number = n })) }

-- with a node under a new name
abbrev with_new : (ℕ → Option Node) → ℕ → Name → ℕ → Node → ℕ → Option Node
with_new ns d e n v = put (put ns d (Some (with_name e n (node_or (ns d))))) n (Some v)

new_agrees : (b : Tree) (ms ns : ℕ → Option Node) (d : ℕ) (e : Name) (n : ℕ) (v : Node) → ms d ≡ ns d → Agrees b ms ns → Agrees b (with_new ms d e n v) (with_new ns d e n v)
new_agrees b ms ns d e n v same a = agrees_put b (put ms d (Some (with_name e n (node_or (ms d))))) (put ns d (Some (with_name e n (node_or (ns d))))) n (Some v) (Some v) refl (agrees_at b ms ns d (with_name e n) same a)

in_settles : (t : Tree) (ms : ℕ → Option Node) (h id flags d : ℕ) (e : Name) (r : Option ℕ) (new : ℕ) → h < hart_count → Leaves t ms → ms d ≡ t.nodes d → ((n : ℕ) → r ≡ Some n → ms n ≡ t.nodes n) → (r ≡ None → ms new ≡ t.nodes new)
    → settle (opened_in (with_nodes t ms) h id flags d e r new) ≡ settle (opened_in t h id flags d e r new)
in_settles t ms h id flags d e (Some k) new lt leaves dir same fresh = file_settles t ms h id k flags lt (grows t ms k leaves (same k refl))
in_settles t ms h id flags d e None new lt leaves dir same fresh =
    file_settles (with_nodes t (with_new t.nodes d e new new_file)) (with_new ms d e new new_file) h id new flags lt
    (λ b less. new_agrees b ms t.nodes d e new new_file dir (grows t ms new leaves (fresh refl) b (λ n ne u. less n ne (nodes_unnamed t (with_new t.nodes d e new new_file) n u))))

new_settles : (t : Tree) (ms : ℕ → Option Node) (h id flags : ℕ) (res : Option ℕ) (par : Option (ℕ × Name)) (new : ℕ) → h < hart_count → Asked t ms h res par → Leaves t ms → (is_absent t par ≡ true → ms new ≡ t.nodes new)
    → settle (opened_new (with_nodes t ms) h id flags par new) ≡ settle (opened_new t h id flags par new)
new_settles t ms h id flags res None new lt a leaves fresh = base t ms leaves
new_settles t ms h id flags res (Some q) new lt a leaves fresh =
    ap (λ (r : Option ℕ). settle (opened_in (with_nodes t ms) h id flags q.0 q.1 r new)) (look_at t.nodes ms q.0 q.1 (a.directory q refl))
    ∙ in_settles t ms h id flags q.0 q.1 (look t.nodes q.0 q.1) new lt leaves (a.directory q refl) (λ n e. a.child q n refl e) (λ e. fresh (ap (λ (r : Option ℕ). is_nothing r) e))

node_settles : (t : Tree) (ms : ℕ → Option Node) (k : ℕ) (f : Node → Node) → Leaves t ms → ms k ≡ t.nodes k → settle (at_node (with_nodes t ms) k f) ≡ settle (at_node t k f)
node_settles t ms k f leaves same =
    let b : Tree = at_node t k f in
    settles b (put ms k (Some (f (node_or (ms k))))) (agrees_at b ms t.nodes k f same (begins t b ms leaves (λ n u. inl (nodes_unnamed t b.nodes n u))))

truncate_settles : (t : Tree) (ms : ℕ → Option Node) (o : Option OpenFile) → Leaves t ms → ((f : OpenFile) → o ≡ Some f → ms f.number ≡ t.nodes f.number) → settle (truncated (with_nodes t ms) o) ≡ settle (truncated t o)
truncate_settles t ms None leaves same = base t ms leaves
truncate_settles t ms (Some f) leaves same = node_settles t ms f.number (λ v. record v { kind = emptied v.kind }) leaves (same f refl)

moved_settles : (t : Tree) (ms : ℕ → Option Node) (o : Option ℕ) (by : ℕ) → ((b : Tree) → ((n : ℕ) → Unnamed t n → Unnamed b n) → Agrees b ms t.nodes) → settle (moved (with_nodes t ms) o by) ≡ settle (moved t o by)
moved_settles t ms None by a = settles t ms (a t (λ n u. u))
moved_settles t ms (Some id) by a = settles (moved t (Some id) by) ms (a (moved t (Some id) by) (λ n u. moved_unnamed t (Some id) by n u))

write_settles : (t : Tree) (ms : ℕ → Option Node) (r : Option ℕ) (o : Option OpenFile) (b : List ℕ) → Leaves t ms → ((f : OpenFile) → o ≡ Some f → ms f.number ≡ t.nodes f.number)
    → settle (moved (written (with_nodes t ms) o b) r (length b)) ≡ settle (moved (written t o b) r (length b))
write_settles t ms r None b leaves same = moved_settles t ms r (length b) (λ c less. begins t c ms leaves (λ n u. inl (less n u)))
write_settles t ms r (Some f) b leaves same =
    let g : Node → Node = λ v. record v { kind = written_kind v.kind f.offset b } in
    let T : Tree = at_node t f.number g in
    moved_settles T (put ms f.number (Some (g (node_or (ms f.number))))) r (length b) (λ c less. agrees_at c ms t.nodes f.number g (same f refl) (begins t c ms leaves (λ n u. inl (less n (nodes_unnamed t T.nodes n u)))))

wrote_settles : (t : Tree) (ms : ℕ → Option Node) (h fd : ℕ) (b : List ℕ) → Leaves t ms → ((f : OpenFile) → file_at t h fd ≡ Some f → ms f.number ≡ t.nodes f.number) → settle (wrote (with_nodes t ms) h fd b) ≡ settle (wrote t h fd b)
wrote_settles t ms h fd [] leaves same = base t ms leaves
wrote_settles t ms h fd (x ∷ xs) leaves same = write_settles t ms (t.fds h fd) (file_at t h fd) (x ∷ xs) leaves same

find_settles : (t : Tree) (ms : ℕ → Option Node) (h : ℕ) (r : Option ℕ) → Leaves t ms → ((n : ℕ) → r ≡ Some n → ms n ≡ t.nodes n) → settle (held (with_nodes t ms) h r) ≡ settle (held t h r)
find_settles t ms h None leaves same = base t ms leaves
find_settles t ms h (Some k) leaves same = settles (held t h (Some k)) ms (grows t ms k leaves (same k refl) (held t h (Some k)) (λ n ne u. hold_unnamed t h (Some (record { number = k; raised = false })) n u (eq_not k n (λ e. ne (sym e)))))

-- the hart's hold changes to one of the same node, or goes, and nodes that both have change
hold_settles : (t : Tree) (ms ks ns : ℕ → Option Node) (h : ℕ) (o : Option Hold) → h < hart_count → Leaves t ms → ((n : ℕ) → hold_names (t.holds h) n ≡ false → hold_names o n ≡ false) → ((b : Tree) → Agrees b ms t.nodes → Agrees b ks ns)
    → settle (record t { nodes = ks; holds = put t.holds h o }) ≡ settle (record t { nodes = ns; holds = put t.holds h o })
hold_settles t ms ks ns h o lt leaves less a =
    let b : Tree = record t { nodes = ns; holds = put t.holds h o } in
    settles b ks (a b (begins t b ms leaves (λ n u. inl (nodes_unnamed (record t { holds = put t.holds h o }) ns n (hold_unnamed t h o n u (less n (u.hold h lt)))))))

bump_settles : (t : Tree) (ms : ℕ → Option Node) (h : ℕ) (r : Option Hold) → t.holds h ≡ r → h < hart_count → Leaves t ms → ((o : Hold) → r ≡ Some o → ms o.number ≡ t.nodes o.number)
    → settle (record (at_hold (with_nodes t ms) r raised) { holds = put t.holds h (raise_hold r) }) ≡ settle (record (at_hold t r raised) { holds = put t.holds h (raise_hold r) })
bump_settles t ms h None is lt leaves same = hold_settles t ms ms t.nodes h None lt leaves (λ n e. refl) (λ b a. a)
bump_settles t ms h (Some o) is lt leaves same =
    hold_settles t ms (put ms o.number (Some (raised (node_or (ms o.number))))) (put t.nodes o.number (Some (raised (node_or (t.nodes o.number))))) h (Some (record { number = o.number; raised = true })) lt leaves
    (λ n e. ap (λ (x : Option Hold). hold_names x n) (sym is) ∙ e) (λ b a. agrees_at b ms t.nodes o.number raised (same o refl) a)

unbump_settles : (t : Tree) (ms : ℕ → Option Node) (h : ℕ) (r : Option Hold) → h < hart_count → Leaves t ms → ((o : Hold) → r ≡ Some o → ms o.number ≡ t.nodes o.number) → settle (drop_hold (at_hold (with_nodes t ms) r lowered) h) ≡ settle (drop_hold (at_hold t r lowered) h)
unbump_settles t ms h None lt leaves same = hold_settles t ms ms t.nodes h None lt leaves (λ n e. refl) (λ b a. a)
unbump_settles t ms h (Some o) lt leaves same =
    hold_settles t ms (put ms o.number (Some (lowered (node_or (ms o.number))))) (put t.nodes o.number (Some (lowered (node_or (t.nodes o.number))))) h None lt leaves (λ n e. refl) (λ b a. agrees_at b ms t.nodes o.number lowered (same o refl) a)

enter_settles : (t : Tree) (ms : ℕ → Option Node) (h : ℕ) (res : Option ℕ) (par : Option (ℕ × Name)) (r : Option Hold) → h < hart_count → Asked t ms h res par → Leaves t ms → settle (drop_hold (enter_hold (with_nodes t ms) par r) h) ≡ settle (drop_hold (enter_hold t par r) h)
enter_settles t ms h res None r lt a leaves = hold_settles t ms ms t.nodes h None lt leaves (λ n e. refl) (λ b x. x)
enter_settles t ms h res (Some q) None lt a leaves = hold_settles t ms ms t.nodes h None lt leaves (λ n e. refl) (λ b x. x)
enter_settles t ms h res (Some q) (Some o) lt a leaves =
    hold_settles t ms (put ms q.0 (Some (with_name q.1 o.number (node_or (ms q.0))))) (put t.nodes q.0 (Some (with_name q.1 o.number (node_or (t.nodes q.0))))) h None lt leaves (λ n e. refl)
    (λ b x. agrees_at b ms t.nodes q.0 (with_name q.1 o.number) (a.directory q refl) x)

-- only nodes change
only_nodes : (t : Tree) (ms ks ns : ℕ → Option Node) → Leaves t ms → ((b : Tree) → Agrees b ms t.nodes → Agrees b ks ns) → settle (with_nodes t ks) ≡ settle (with_nodes t ns)
only_nodes t ms ks ns leaves a = settles (with_nodes t ns) ks (a (with_nodes t ns) (begins t (with_nodes t ns) ms leaves (λ n u. inl (nodes_unnamed t ns n u))))

abbrev less : Node → Name → Node → Node
less c e v = record v { kind = Directory (cleared (slots_of v.kind) e); count = if is_directory c.kind then v.count - 1 else v.count }

child_settles : (t : Tree) (ms : ℕ → Option Node) (d : ℕ) (e : Name) (r : Option ℕ) → Leaves t ms → ms d ≡ t.nodes d → ((n : ℕ) → r ≡ Some n → ms n ≡ t.nodes n) → settle (removed_child (with_nodes t ms) d e r) ≡ settle (removed_child t d e r)
child_settles t ms d e None leaves dir same = base t ms leaves
child_settles t ms d e (Some n) leaves dir same =
    let x : Option Node = Some (less (node_or (ms n)) e (node_or (ms d))) in
    let y : Option Node = Some (less (node_or (t.nodes n)) e (node_or (t.nodes d))) in
    let xy : x ≡ y = (λ i. Some (less (node_or (same n refl i)) e (node_or (dir i)))) in
    only_nodes t ms (put (put ms d x) n (Some (lowered (node_or (put ms d x n))))) (put (put t.nodes d y) n (Some (lowered (node_or (put t.nodes d y n))))) leaves
    (λ b a. agrees_at b (put ms d x) (put t.nodes d y) n lowered (put_at ms t.nodes d x y n xy (same n refl)) (agrees_put b ms t.nodes d x y xy a))

unlink_settles : (t : Tree) (ms : ℕ → Option Node) (h : ℕ) (res : Option ℕ) (par : Option (ℕ × Name)) → Asked t ms h res par → Leaves t ms → settle (removed (with_nodes t ms) par) ≡ settle (removed t par)
unlink_settles t ms h res None a leaves = base t ms leaves
unlink_settles t ms h res (Some q) a leaves =
    ap (λ (r : Option ℕ). settle (removed_child (with_nodes t ms) q.0 q.1 r)) (look_at t.nodes ms q.0 q.1 (a.directory q refl))
    ∙ child_settles t ms q.0 q.1 (look t.nodes q.0 q.1) leaves (a.directory q refl) (λ n e. a.child q n refl e)

mkdir_settles : (t : Tree) (ms : ℕ → Option Node) (h : ℕ) (res : Option ℕ) (par : Option (ℕ × Name)) (new : ℕ) → Asked t ms h res par → Leaves t ms → settle (made (with_nodes t ms) par new) ≡ settle (made t par new)
mkdir_settles t ms h res None new a leaves = base t ms leaves
mkdir_settles t ms h res (Some q) new a leaves =
    let d : ℕ = q.0 in
    let v : Node = new_directory new d in
    let dir : ms d ≡ t.nodes d = a.directory q refl in
    let x : Option Node = Some (with_name q.1 new (node_or (ms d))) in
    let y : Option Node = Some (with_name q.1 new (node_or (t.nodes d))) in
    let xy : x ≡ y = kind_at (λ z. Some (with_name q.1 new z)) (ms d) (t.nodes d) dir in
    let at : with_new ms d q.1 new v d ≡ with_new t.nodes d q.1 new v d = put_at (put ms d x) (put t.nodes d y) new (Some v) (Some v) d refl (put_at ms t.nodes d x y d xy dir) in
    only_nodes t ms (put (with_new ms d q.1 new v) d (Some (raised (node_or (with_new ms d q.1 new v d))))) (put (with_new t.nodes d q.1 new v) d (Some (raised (node_or (with_new t.nodes d q.1 new v d))))) leaves
    (λ b w. agrees_at b (with_new ms d q.1 new v) (with_new t.nodes d q.1 new v) d raised at (new_agrees b ms t.nodes d q.1 new v dir w))

chdir_settles : (t : Tree) (ms : ℕ → Option Node) (h : ℕ) (r : Option ℕ) → Leaves t ms → ((n : ℕ) → r ≡ Some n → ms n ≡ t.nodes n) → settle (at_dir (with_nodes t ms) h r) ≡ settle (at_dir t h r)
chdir_settles t ms h None leaves same = base t ms leaves
chdir_settles t ms h (Some k) leaves same = settles (at_dir t h (Some k)) ms (grows t ms k leaves (same k refl) (at_dir t h (Some k)) (λ n ne u. cwd_unnamed t h k n u (eq_not k n (λ e. ne (sym e)))))

low_fd : (t : Tree) (h fd : ℕ) → fd_refusal (file_at t h fd) ≡ None → fd < descriptor_count
low_fd t h fd e = elim (either (nat_lt fd descriptor_count)) [
  | inl y ↦ less_is fd descriptor_count y
  | inr y ↦ absurd (let f = rw y at e in cc)
]

close_settles : (t : Tree) (ms : ℕ → Option Node) (h fd : ℕ) → h < hart_count → Leaves t ms → settle (closed (record (with_nodes t ms) { fds = put t.fds h (put (t.fds h) fd None) })) ≡ settle (closed (record t { fds = put t.fds h (put (t.fds h) fd None) }))
unfolding has_fd
close_settles t ms h fd lt leaves =
    let c : Tree = record t { fds = put t.fds h (put (t.fds h) fd None) } in
    settles (closed c) ms (begins t (closed c) ms leaves (λ n u. inl (closed_unnamed c n (fd_unnamed t h fd None n lt u refl))))

inherit_settles : (t : Tree) (ms : ℕ → Option Node) (h child : ℕ) → h < hart_count → Leaves t ms
    → settle (record (with_nodes t ms) { fds = put t.fds child (t.fds h); cwd = put t.cwd child (t.cwd h) }) ≡ settle (record t { fds = put t.fds child (t.fds h); cwd = put t.cwd child (t.cwd h) })
inherit_settles t ms h child lt leaves =
    let b : Tree = record t { fds = put t.fds child (t.fds h); cwd = put t.cwd child (t.cwd h) } in
    settles b ms (begins t b ms leaves (λ n u. inl (cwd_unnamed (record t { fds = put t.fds child (t.fds h) }) child (t.cwd h) n (fds_unnamed t child (t.fds h) n u (λ i li. u.fds h i lt li)) (u.cwd h lt))))

pub effect_same : (v : Version) (t : Tree) (ms : ℕ → Option Node) (h : ℕ) (s : Action) (res : Option ℕ) (par : Option (ℕ × Name)) (new id : ℕ) → h < hart_count → Asked t ms h res par → Leaves t ms → refusal_with v t h s res par ≡ None → (makes_node t s par ≡ true → ms new ≡ t.nodes new)
    → settle (effect_with v (with_nodes t ms) h s res par new id) ≡ settle (effect_with v t h s res par new id)
unfolding effect_with refusal_with
effect_same v t ms h (Open path flags) res par new id lt a leaves goes fresh = elim (either (creates flags)) [
  | inl y ↦ rw y (new_settles t ms h id flags res par new lt a leaves (λ e. fresh (rw (y, e) refl)))
  | inr y ↦ rw y (at_settles t ms res h id flags new lt leaves a.node)
]
effect_same v t ms h (Truncate fd) res par new id lt a leaves goes fresh = truncate_settles t ms (file_at t h fd) leaves (a.file fd)
effect_same v t ms h (Read fd n) res par new id lt a leaves goes fresh =
    ap (λ (b : List ℕ). settle (moved (with_nodes t ms) (t.fds h fd) (length b))) (part_same v t ms (file_at t h fd) n (a.file fd))
    ∙ moved_settles t ms (t.fds h fd) (length (part v t (file_at t h fd) n)) (λ c less'. begins t c ms leaves (λ k u. inl (less' k u)))
effect_same v t ms h (WritePart fd b) res par new id lt a leaves goes fresh = wrote_settles t ms h fd b leaves (a.file fd)
effect_same v t ms h (Find old) res par new id lt a leaves goes fresh = find_settles t ms h res leaves a.node
effect_same v t ms h Bump res par new id lt a leaves goes fresh = bump_settles t ms h (t.holds h) refl lt leaves a.hold
effect_same v t ms h (Enter name) res par new id lt a leaves goes fresh = enter_settles t ms h res par (t.holds h) lt a leaves
effect_same v t ms h Unbump res par new id lt a leaves goes fresh = unbump_settles t ms h (t.holds h) lt leaves a.hold
effect_same v t ms h (Unlink path) res par new id lt a leaves goes fresh = unlink_settles t ms h res par a leaves
effect_same v t ms h (Mkdir path) res par new id lt a leaves goes fresh = mkdir_settles t ms h res par new a leaves
effect_same v t ms h (Chdir path) res par new id lt a leaves goes fresh = chdir_settles t ms h res leaves a.node
effect_same v t ms h (Dup fd) res par new id lt a leaves goes fresh =
    let b : Tree = record t { fds = put t.fds h (put (t.fds h) (lowest (t.fds h)) (t.fds h fd)) } in
    settles b ms (begins t b ms leaves (λ n u. inl (fd_unnamed t h (lowest (t.fds h)) (t.fds h fd) n lt u (u.fds h fd lt (low_fd t h fd goes)))))
effect_same v t ms h (Close fd) res par new id lt a leaves goes fresh = close_settles t ms h fd lt leaves
effect_same v t ms h (Fstat fd) res par new id lt a leaves goes fresh = base t ms leaves
effect_same v t ms h (Inherit child) res par new id lt a leaves goes fresh = inherit_settles t ms h child lt leaves

-- A tree that settles has such nodes.

as_settled : (t : Tree) → settle t ≡ with_nodes t (settle t).nodes
unfolding settle
as_settled t = refl

leaves : (t : Tree) → Leaves t (settle t).nodes
leaves t n = elim (settle_or t n) [ inl e ↦ inl e | inr e ↦ inr (e.0, e.1, unnamed t n e.2) ]

pub file_stays : (t : Tree) (h fd : ℕ) (f : OpenFile) → h < hart_count → file_at t h fd ≡ Some f → Stays t f.number
file_stays t h fd f lt e = elim (either (nat_lt fd descriptor_count)) [
  | inl y ↦ go (less_is fd descriptor_count y) (t.fds h fd) refl (rw y at e)
  | inr y ↦ absurd (let g = rw y at e in cc)
]
  where
    go : fd < descriptor_count → (r : Option ℕ) → t.fds h fd ≡ r → and_then r (λ id. t.files id) ≡ Some f → Stays t f.number
    go low None q g = absurd cc
    go low (Some id) q g = settle_named t f.number (named_fd t h fd f.number lt low (ap (λ (r : Option ℕ). fd_names t r f.number) q ∙ (ap (λ (r : Option OpenFile). file_names r f.number) g ∙ eq_self f.number)))

pub hold_stays : (t : Tree) (h : ℕ) (o : Hold) → h < hart_count → t.holds h ≡ Some o → Stays t o.number
hold_stays t h o lt e = settle_named t o.number (named_hold t h o.number lt (ap (λ (r : Option Hold). hold_names r o.number) e ∙ eq_self o.number))

asked : (t : Tree) (h : ℕ) (res : Option ℕ) (par : Option (ℕ × Name)) → h < hart_count → AsksForWhatStays t res par → Asked t (settle t).nodes h res par
asked t h res par lt a = record { node = a.node; directory = a.directory; child = a.child; file = λ fd f e. file_stays t h fd f lt e; hold = λ o e. hold_stays t h o lt e }

-- What a step finds and changes in a settled tree.

pub settled_refusal : (v : Version) (t : Tree) (h : ℕ) (s : Action) (res : Option ℕ) (par : Option (ℕ × Name)) → h < hart_count → AsksForWhatStays t res par → refusal_with v (settle t) h s res par ≡ refusal_with v t h s res par
settled_refusal v t h s res par lt a = ap (λ (u : Tree). refusal_with v u h s res par) (as_settled t) ∙ refusal_same v t (settle t).nodes h s res par (asked t h res par lt a)

pub settled_answer : (v : Version) (t : Tree) (h : ℕ) (s : Action) (res : Option ℕ) (par : Option (ℕ × Name)) (id : ℕ) → h < hart_count → AsksForWhatStays t res par → answer_with v (settle t) h s res par id ≡ answer_with v t h s res par id
settled_answer v t h s res par id lt a = ap (λ (u : Tree). answer_with v u h s res par id) (as_settled t) ∙ answer_same v t (settle t).nodes h s res par id (asked t h res par lt a)

pub settled_place : (t : Tree) (h : ℕ) (s : Action) (res : Option ℕ) (par : Option (ℕ × Name)) → h < hart_count → AsksForWhatStays t res par → place_of (settle t) h s ≡ place_of t h s
settled_place t h s res par lt a = ap (λ (u : Tree). place_of u h s) (as_settled t) ∙ place_same t (settle t).nodes h s res par (asked t h res par lt a)

pub settled_makes : (t : Tree) (h : ℕ) (s : Action) (res : Option ℕ) (par : Option (ℕ × Name)) → h < hart_count → AsksForWhatStays t res par → makes_node (settle t) s par ≡ makes_node t s par
settled_makes t h s res par lt a = ap (λ (u : Tree). makes_node u s par) (as_settled t) ∙ makes_same t (settle t).nodes h s res par (asked t h res par lt a)

-- A step that isn't refused changes both to trees that settle to one.
pub settled_effect : (v : Version) (t : Tree) (h : ℕ) (s : Action) (res : Option ℕ) (par : Option (ℕ × Name)) (new id : ℕ) → h < hart_count → AsksForWhatStays t res par → refusal_with v t h s res par ≡ None → (makes_node t s par ≡ true → t.nodes new ≡ None)
    → settle (effect_with v (settle t) h s res par new id) ≡ settle (effect_with v t h s res par new id)
settled_effect v t h s res par new id lt a goes fresh =
    ap (λ (u : Tree). settle (effect_with v u h s res par new id)) (as_settled t)
    ∙ effect_same v t (settle t).nodes h s res par new id lt (asked t h res par lt a) (leaves t) goes (λ y. settle_none t new (fresh y))

refused_same : (t : Tree) (h : ℕ) (s : Action) → h < hart_count → settle (refused t h s) ≡ refused (settle t) h s
refused_same t h Bump lt =
    sym (settle_again (drop_hold t h))
    ∙ sym (ap (λ (u : Tree). settle (drop_hold u h)) (as_settled t) ∙ hold_settles t (settle t).nodes (settle t).nodes t.nodes h None lt (leaves t) (λ n e. refl) (λ b a. a))
refused_same t h s lt = refl

-- the number and the id that a step may take in an unsettled tree it may take in the settled one
settled_choice : (t : Tree) (h : ℕ) (s : Action) (res : Option ℕ) (par : Option (ℕ × Name)) (new id : ℕ) → h < hart_count → AsksForWhatStays t res par → MayChoose t h s par new id → MayChoose (settle t) h s par new id
settled_choice t h s res par new id lt a may = subst (λ (u : Tree). MayChoose u h s par new id) (sym (as_settled t)) (record {
  node = λ y. fresh (may.node (sym (makes_same t (settle t).nodes h s res par (asked t h res par lt a)) ∙ y));
  file = λ y. record { unused = (may.file y).unused; least = (may.file y).least };
})
  where
    fresh : IsNewNode t new → IsNewNode (with_nodes t (settle t).nodes) new
    fresh n = record { from = n.from; below = n.below; unused = settle_none t new n.unused ∙ n.unused }

hart_of : (t : Tree) (h : ℕ) (s : Action) → IsInPlace t h s → h < hart_count
hart_of t h s p = less_is h hart_count (and_true (nat_lt h hart_count) (place_of t h s) p).0

in_place : (t : Tree) (h : ℕ) (s : Action) (res : Option ℕ) (par : Option (ℕ × Name)) → AsksForWhatStays t res par → IsInPlace t h s → IsInPlace (settle t) h s
in_place t h s res par a p = ap (λ (b : Bool). nat_lt h hart_count && b) (settled_place t h s res par (hart_of t h s p) a) ∙ p

pub settled_step : (v : Version) (t : Tree) (h : ℕ) (s : Action) (res : Option ℕ) (par : Option (ℕ × Name)) (a : StepAnswer) (new id : ℕ) (t' : Tree) → AsksForWhatStays t res par → StepWith v t h s res par a new id t' → StepWith v (settle t) h s res par a new id (settle t')
settled_step v t h s res par (Failed k) new id t' asks x =
    let lt = hart_of t h s x.2 in
    (settled_refusal v t h s res par lt asks ∙ x.0, ap settle x.1 ∙ refused_same t h s lt, in_place t h s res par asks x.2)
settled_step v t h s res par a new id t' asks x =
    let lt = hart_of t h s x.4 in (
      settled_refusal v t h s res par lt asks ∙ x.0,
      x.1 ∙ sym (settled_answer v t h s res par id lt asks),
      settled_choice t h s res par new id lt asks x.2,
      ap settle x.3 ∙ (sym (settle_again (effect_with v t h s res par new id)) ∙ sym (settled_effect v t h s res par new id lt asks x.0 (λ y. (x.2.node y).unused))),
      in_place t h s res par asks x.4,
    )
