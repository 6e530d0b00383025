-- A walk's path so far leads to its node while that is a live directory. If another hart's step kills the directory,
-- the walk fails at that step.
use Rattle.image_versions.specs.declared.version.Version.{Version}
use Rattle.tree_laws.proofs.Vocabulary.{◌≡◌, ℕ, Bool, true, false, ◌&&◌, not, ◌⊎◌, inl, inr, refl, sym, ◌∙◌, ap, subst, List, [], ◌∷◌, ◌++◌, length, Option, Some, None, nat_lt, Cause, NoEntry, Call, OpenCall, ReadCall, WriteCall, LinkCall, UnlinkCall, MkdirCall, ChdirCall, DupCall, FstatCall, CloseCall, InheritCall, Action, Open, Truncate, Read, WritePart, Find, Bump, Enter, Unbump, Unlink, Mkdir, Chdir, Dup, Close, Fstat, Inherit, StepAnswer, Opened, Bytes, Status, NewFd, Done, Failed, NoRoom, Hold, hart_count, Name, Tree, elements, climbs, climbs_in, pieces, live_directory, follow, start_of, resolve, parent, parent_of, path_of, follows_path, refusal_with, refusal_by, refused, place_of, holds_raised, IsInPlace, Step, creates, has, empty_it, Act, next_of, call_climbs, last_cause, next_piece, once, to_truncate, if_done, if_failed, piece, piece_count, Deed, Walk, fail}
use Rattle.tree_laws.proofs.Maps.{either, or_none}
use Rattle.plain_tree.proofs.Lemmas.{climbs_the_same}
use Rattle.tree_laws.proofs.Walks.{follow_on, follow_off, follow_stop, look_bad, parent_on, parent_off, parent_bad, climbs_front}

-- The call's next step is the walk's, and while the walk's node is a live directory the path so far leads to it.
pub record WalkOk (version : Version) (t : Tree) (h : ℕ) (c : Call) (x : List Act) (w : Walk) : Type 0 where
  pub done : List Name
  pub path : elements version (path_of w.step) ≡ done ++ w.next ∷ w.rest
  pub follows : follows_path w.step ≡ true
  pub place : IsInPlace t h w.step
  pub next : next_of c x ≡ Some w.step
  pub here : live_directory (t.nodes w.at) ≡ true → follow t.nodes (start_of t h (path_of w.step)) done ≡ Some w.at

-- what another hart's event leaves to a walk at a node
pub record LeavesWalk (t t' : Tree) (g at : ℕ) : Type 0 where
  pub paths : (a x : ℕ) (w : List Name) → climbs_in w ≡ false → follow t.nodes a w ≡ Some x → (follow t'.nodes a w ≡ Some x) ⊎ ((live_directory (t'.nodes x) ≡ false) × (follow t'.nodes a w ≡ None))
  pub dead : live_directory (t.nodes at) ≡ false → live_directory (t'.nodes at) ≡ false
  pub cwd : t'.cwd g ≡ t.cwd g
  pub hold : t'.holds g ≡ t.holds g

pub left_same : (t t' : Tree) (g at : ℕ) → t' ≡ t → LeavesWalk t t' g at
left_same t t' g at e = subst (λ (z : Tree). LeavesWalk t z g at) (sym e) (record { paths = λ a x w c is. inl is; dead = λ b. b; cwd = refl; hold = refl })

start_same : (t t' : Tree) (h : ℕ) (p : List ℕ) → t'.cwd h ≡ t.cwd h → start_of t' h p ≡ start_of t h p
start_same t t' h p e = rw e refl

place_same : (t t' : Tree) (h : ℕ) (s : Action) → follows_path s ≡ true → t'.holds h ≡ t.holds h → place_of t' h s ≡ place_of t h s
unfolding place_of
place_same t t' h (Open path flags) f e = refl
place_same t t' h (Find old) f e = ap (λ (o : Option Hold). not (holds_raised true o)) e
place_same t t' h (Enter new) f e = ap (λ (o : Option Hold). holds_raised true o) e
place_same t t' h (Unlink path) f e = refl
place_same t t' h (Mkdir path) f e = refl
place_same t t' h (Chdir path) f e = refl
place_same t t' h (Truncate fd) f e = absurd cc
place_same t t' h (Read fd n) f e = absurd cc
place_same t t' h (WritePart fd b) f e = absurd cc
place_same t t' h Bump f e = absurd cc
place_same t t' h Unbump f e = absurd cc
place_same t t' h (Dup fd) f e = absurd cc
place_same t t' h (Close fd) f e = absurd cc
place_same t t' h (Fstat fd) f e = absurd cc
place_same t t' h (Inherit child) f e = absurd cc

place_kept : (t t' : Tree) (h : ℕ) (s : Action) → follows_path s ≡ true → t'.holds h ≡ t.holds h → IsInPlace t h s → IsInPlace t' h s
place_kept t t' h s f e is = ap (λ (b : Bool). nat_lt h hart_count && b) (place_same t t' h s f e) ∙ is

-- A path that leads nowhere is refused, as a name that isn't there.

none_refused : (version : Version) (t : Tree) (h : ℕ) (s : Action) → follows_path s ≡ true → refusal_with version t h s None None ≡ Some NoEntry
unfolding refusal_by
none_refused version t h (Open path flags) f = elim (either (creates flags)) [ inl y ↦ rw y refl | inr y ↦ rw y refl ]
none_refused version t h (Find old) f = refl
none_refused version t h (Enter new) f = refl
none_refused version t h (Unlink path) f = refl
none_refused version t h (Mkdir path) f = refl
none_refused version t h (Chdir path) f = refl
none_refused version t h (Truncate fd) f = absurd cc
none_refused version t h (Read fd n) f = absurd cc
none_refused version t h (WritePart fd b) f = absurd cc
none_refused version t h Bump f = absurd cc
none_refused version t h Unbump f = absurd cc
none_refused version t h (Dup fd) f = absurd cc
none_refused version t h (Close fd) f = absurd cc
none_refused version t h (Fstat fd) f = absurd cc
none_refused version t h (Inherit child) f = absurd cc

refused_same : (t : Tree) (h : ℕ) (s : Action) → follows_path s ≡ true → refused t h s ≡ t
refused_same t h (Open path flags) f = refl
refused_same t h (Find old) f = refl
refused_same t h (Enter new) f = refl
refused_same t h (Unlink path) f = refl
refused_same t h (Mkdir path) f = refl
refused_same t h (Chdir path) f = refl
refused_same t h (Truncate fd) f = refl
refused_same t h (Read fd n) f = refl
refused_same t h (WritePart fd b) f = refl
refused_same t h Bump f = absurd cc
refused_same t h Unbump f = refl
refused_same t h (Dup fd) f = refl
refused_same t h (Close fd) f = refl
refused_same t h (Fstat fd) f = refl
refused_same t h (Inherit child) f = refl

-- the step by a hart
abbrev pub StepBy : Version → Tree → ℕ → Deed → Tree → Type 0
StepBy version t h d t' = Step version t (record { hart = h; new = d.new; action = d.act.step }) d.act.answer t'

fails : (version : Version) (t : Tree) (h : ℕ) (s : Action) → follows_path s ≡ true → IsInPlace t h s → resolve version t h (path_of s) ≡ None → parent version t h (path_of s) ≡ None → StepBy version t h (fail s) t
fails version t h s f place r q = (0, (rw (r, q) (none_refused version t h s f), sym (refused_same t h s f), place))

-- the path so far leads nowhere, or to no live directory
pub lost_fails : (version : Version) (t : Tree) (h d : ℕ) (e : Name) (done rest : List Name) (s : Action) → follows_path s ≡ true → IsInPlace t h s → elements version (path_of s) ≡ done ++ e ∷ rest
    → ((follow t.nodes (start_of t h (path_of s)) done ≡ Some d) × (live_directory (t.nodes d) ≡ false)) ⊎ (follow t.nodes (start_of t h (path_of s)) done ≡ None)
    → StepBy version t h (fail s) t
lost_fails version t h d e done rest s f place path (inl w) =
    let a : ℕ = start_of t h (path_of s) in
    fails version t h s f place
    (subst (λ (z : List Name). follow t.nodes a z ≡ None) (sym path) (follow_on t.nodes a d done (e ∷ rest) w.0 ∙ follow_stop t.nodes d e rest (look_bad t.nodes d e w.1)))
    (subst (λ (z : List Name). parent_of t.nodes a z ≡ None) (sym path) (parent_on t.nodes a d e done rest w.0 ∙ parent_bad t.nodes d e rest w.1))
lost_fails version t h d e done rest s f place path (inr w) =
    let a : ℕ = start_of t h (path_of s) in
    fails version t h s f place
    (subst (λ (z : List Name). follow t.nodes a z ≡ None) (sym path) (follow_off t.nodes a done (e ∷ rest) w))
    (subst (λ (z : List Name). parent_of t.nodes a z ≡ None) (sym path) (parent_off t.nodes a e done rest w))

-- Paths of a call that climbs nowhere.

nothing_climbs : climbs [] ≡ false
unfolding pieces climbs_in
nothing_climbs = refl

once_is : (s s' : Action) (x : List Act) → once s x ≡ Some s' → s ≡ s'
once_is s s' [] h = cc
once_is s s' (a ∷ x) h = absurd cc

truncates : (flags : ℕ) (a : StepAnswer) (s : Action) → to_truncate flags a ≡ Some s → path_of s ≡ []
truncates flags (Opened fd id f) s h = elim (either (has flags empty_it && f)) [
  | inl y ↦ let q : Some (Truncate fd) ≡ Some s = rw y at h in let same : Truncate fd ≡ s = cc in subst (λ (z : Action). path_of z ≡ []) same refl
  | inr y ↦ absurd (let q : None ≡ Some s = rw y at h in cc)
]
truncates flags (Bytes b) s h = absurd cc
truncates flags (Status x) s h = absurd cc
truncates flags (NewFd fd) s h = absurd cc
truncates flags Done s h = absurd cc
truncates flags (Failed k) s h = absurd cc
truncates flags (NoRoom f) s h = absurd cc

done_is : (a : StepAnswer) (s s' : Action) → if_done a s ≡ Some s' → s ≡ s'
done_is Done s s' h = cc
done_is (Opened fd id f) s s' h = absurd cc
done_is (Bytes b) s s' h = absurd cc
done_is (Status x) s s' h = absurd cc
done_is (NewFd fd) s s' h = absurd cc
done_is (Failed k) s s' h = absurd cc
done_is (NoRoom f) s s' h = absurd cc

failed_is : (a : StepAnswer) (s s' : Action) → if_failed a s ≡ Some s' → s ≡ s'
failed_is (Failed k) s s' h = cc
failed_is Done s s' h = absurd cc
failed_is (Opened fd id f) s s' h = absurd cc
failed_is (Bytes b) s s' h = absurd cc
failed_is (Status x) s s' h = absurd cc
failed_is (NewFd fd) s s' h = absurd cc
failed_is (NoRoom f) s s' h = absurd cc

pieces_path : (fd : ℕ) (b : List ℕ) (x : List Act) (o : Option Cause) (s : Action) → next_piece fd b x o ≡ Some s → path_of s ≡ []
pieces_path fd b x (Some k) s h = absurd cc
pieces_path fd b x None s h = elim (either (nat_lt (length x) (piece_count b))) [
  | inl y ↦ let q : Some (WritePart fd (piece b (length x))) ≡ Some s = rw y at h in let same : WritePart fd (piece b (length x)) ≡ s = cc in subst (λ (z : Action). path_of z ≡ []) same refl
  | inr y ↦ absurd (let q : None ≡ Some s = rw y at h in cc)
]

-- each step of a call that climbs nowhere has a path that doesn't climb
pub calm_step : (c : Call) (x : List Act) (s : Action) → call_climbs c ≡ false → next_of c x ≡ Some s → climbs (path_of s) ≡ false
unfolding next_of
calm_step (OpenCall path flags) [] s calm h = let same : Open path flags ≡ s = cc in subst (λ (z : Action). climbs (path_of z) ≡ false) same calm
calm_step (OpenCall path flags) (a ∷ []) s calm h = ap (λ (p : List ℕ). climbs p) (truncates flags a.answer s h) ∙ nothing_climbs
calm_step (OpenCall path flags) (a ∷ b ∷ bs) s calm h = absurd cc
calm_step (ReadCall fd buffer) x s calm h = subst (λ (z : Action). climbs (path_of z) ≡ false) (once_is (Read fd (length buffer)) s x h) nothing_climbs
calm_step (WriteCall fd bytes) x s calm h = ap (λ (p : List ℕ). climbs p) (pieces_path fd bytes x (last_cause x) s h) ∙ nothing_climbs
calm_step (LinkCall old new) [] s calm h = let same : Find old ≡ s = cc in subst (λ (z : Action). climbs (path_of z) ≡ false) same (or_none (climbs old) (climbs new) calm).0
calm_step (LinkCall old new) (a ∷ []) s calm h = subst (λ (z : Action). climbs (path_of z) ≡ false) (done_is a.answer Bump s h) nothing_climbs
calm_step (LinkCall old new) (a ∷ b ∷ []) s calm h = subst (λ (z : Action). climbs (path_of z) ≡ false) (done_is b.answer (Enter new) s h) (or_none (climbs old) (climbs new) calm).1
calm_step (LinkCall old new) (a ∷ b ∷ d ∷ []) s calm h = subst (λ (z : Action). climbs (path_of z) ≡ false) (failed_is d.answer Unbump s h) nothing_climbs
calm_step (LinkCall old new) (a ∷ b ∷ d ∷ e ∷ es) s calm h = absurd cc
calm_step (UnlinkCall path) x s calm h = subst (λ (z : Action). climbs (path_of z) ≡ false) (once_is (Unlink path) s x h) calm
calm_step (MkdirCall path) x s calm h = subst (λ (z : Action). climbs (path_of z) ≡ false) (once_is (Mkdir path) s x h) calm
calm_step (ChdirCall path) x s calm h = subst (λ (z : Action). climbs (path_of z) ≡ false) (once_is (Chdir path) s x h) calm
calm_step (DupCall fd) x s calm h = subst (λ (z : Action). climbs (path_of z) ≡ false) (once_is (Dup fd) s x h) nothing_climbs
calm_step (FstatCall fd) x s calm h = subst (λ (z : Action). climbs (path_of z) ≡ false) (once_is (Fstat fd) s x h) nothing_climbs
calm_step (CloseCall fd) x s calm h = subst (λ (z : Action). climbs (path_of z) ≡ false) (once_is (Close fd) s x h) nothing_climbs
calm_step (InheritCall child) x s calm h = subst (λ (z : Action). climbs (path_of z) ≡ false) (once_is (Inherit child) s x h) nothing_climbs

-- Another hart's event.

calm_done : (version : Version) (t : Tree) (h : ℕ) (c : Call) (x : List Act) (w : Walk) → (k : WalkOk version t h c x w) → climbs (path_of w.step) ≡ false → climbs_in k.done ≡ false
calm_done version t h c x w k calm = climbs_front k.done (w.next ∷ w.rest) (subst (λ (z : List Name). climbs_in z ≡ false) k.path (climbs_the_same version (path_of w.step) ∙ calm))

-- the node to which the path so far leads in the tree that the event leaves
still_at : (version : Version) (t t' : Tree) (g : ℕ) (c : Call) (x : List Act) (w : Walk) → call_climbs c ≡ false → (k : WalkOk version t g c x w) → LeavesWalk t t' g w.at → live_directory (t.nodes w.at) ≡ true
    → (follow t'.nodes (start_of t' g (path_of w.step)) k.done ≡ Some w.at) ⊎ ((live_directory (t'.nodes w.at) ≡ false) × (follow t'.nodes (start_of t' g (path_of w.step)) k.done ≡ None))
still_at version t t' g c x w calm k f good =
    let at : follow t.nodes (start_of t' g (path_of w.step)) k.done ≡ Some w.at = subst (λ (z : ℕ). follow t.nodes z k.done ≡ Some w.at) (sym (start_same t t' g (path_of w.step) f.cwd)) (k.here good) in
    f.paths (start_of t' g (path_of w.step)) w.at k.done (calm_done version t g c x w k (calm_step c x w.step calm k.next)) at

-- a walk whose directory died in this event fails in it
pub walk_falls : (version : Version) (t t' : Tree) (g : ℕ) (c : Call) (x : List Act) (w : Walk) → call_climbs c ≡ false → WalkOk version t g c x w → LeavesWalk t t' g w.at → live_directory (t.nodes w.at) ≡ true → live_directory (t'.nodes w.at) ≡ false → StepBy version t' g (fail w.step) t'
walk_falls version t t' g c x w calm k f good bad =
    lost_fails version t' g w.at w.next k.done w.rest w.step k.follows (place_kept t t' g w.step k.follows f.hold k.place) k.path (elim (still_at version t t' g c x w calm k f good) [ inl p ↦ inl (p, bad) | inr p ↦ inr p.1 ])

-- the walk stays right
pub walk_kept : (version : Version) (t t' : Tree) (g : ℕ) (c : Call) (x : List Act) (w : Walk) → call_climbs c ≡ false → WalkOk version t g c x w → LeavesWalk t t' g w.at → WalkOk version t' g c x w
walk_kept version t t' g c x w calm k f = record {
  done = k.done;
  path = k.path;
  follows = k.follows;
  place = place_kept t t' g w.step k.follows f.hold k.place;
  next = k.next;
  here = λ live. elim (either (live_directory (t.nodes w.at))) [
    | inl good ↦ elim (still_at version t t' g c x w calm k f good) [ inl p ↦ p | inr p ↦ let dead : live_directory (t'.nodes w.at) ≡ false = p.0 in absurd (cc (live, dead)) ]
    | inr bad ↦ let dead : live_directory (t'.nodes w.at) ≡ false = f.dead bad in absurd (cc (live, dead))
  ];
}
