-- No step changes the range of a tree's numbers.
use Rattle.image_versions.specs.declared.version.Version.{Version}
use Rattle.inode_machine.proofs.Vocabulary.{◌≡◌, inl, inr, ℕ, List, [], ◌∷◌, length, Option, Some, None, refl, sym, ◌∙◌, ap, Action, StepAnswer, Failed, Opened, Bytes, Status, NewFd, Done, NoRoom, Node, OpenFile, Hold, Name, Tree, look, has_room, file_at, part, refused, effect_with, effect_by, creates, settle, at_hold, raised, lowered, enter_hold, wrote, written, StepWith, either, Walk, Stage, Move, Deed, Acts, LookupLeadsTo, Begin, Look, GiveUpWalk, OwnMove, PlaysAny, Turn, Starts, Steps, Nothing, Told, Happens, Goings}
use Rattle.plain_tree.specs.declared.step.Action.TheVariants as steps
use Rattle.plain_tree.specs.Steps.{at_dir, held, made, moved, opened_at, opened_in, opened_new, removed, removed_child, truncated, with_file}
use Rattle.tree_laws.specs.Moves.{StartLeadsTo, Plays}

settled_range : (t : Tree) → (settle t).ninodes ≡ t.ninodes
unfolding settle
settled_range t = refl

file_range : (t : Tree) (h id n flags : ℕ) → (with_file t h id n flags).ninodes ≡ t.ninodes
file_range t h id n flags = elim (either (has_room (t.fds h))) [ inl y ↦ rw y refl | inr y ↦ rw y refl ]

at_range : (t : Tree) (h id flags n : ℕ) (res : Option ℕ) → (opened_at t h id flags res n).ninodes ≡ t.ninodes
at_range t h id flags n None = refl
at_range t h id flags n (Some k) = file_range t h id k flags

in_range : (t : Tree) (h id flags d n : ℕ) (e : Name) (found : Option ℕ) → (opened_in t h id flags d e found n).ninodes ≡ t.ninodes
in_range t h id flags d n e (Some k) = file_range t h id k flags
in_range t h id flags d n e None = elim (either (has_room (t.fds h))) [ inl y ↦ rw y refl | inr y ↦ rw y refl ]

new_range : (t : Tree) (h id flags n : ℕ) (par : Option (ℕ × Name)) → (opened_new t h id flags par n).ninodes ≡ t.ninodes
new_range t h id flags n None = refl
new_range t h id flags n (Some q) = in_range t h id flags q.0 n q.1 (look t.nodes q.0 q.1)

moved_range : (t : Tree) (o : Option ℕ) (by : ℕ) → (moved t o by).ninodes ≡ t.ninodes
moved_range t None by = refl
moved_range t (Some id) by = refl

written_range : (t : Tree) (o : Option OpenFile) (b : List ℕ) → (written t o b).ninodes ≡ t.ninodes
written_range t None b = refl
written_range t (Some f) b = refl

wrote_range : (t : Tree) (h fd : ℕ) (b : List ℕ) → (wrote t h fd b).ninodes ≡ t.ninodes
wrote_range t h fd [] = refl
wrote_range t h fd (b ∷ bs) = moved_range (written t (file_at t h fd) (b ∷ bs)) (t.fds h fd) (length (b ∷ bs)) ∙ written_range t (file_at t h fd) (b ∷ bs)

truncated_range : (t : Tree) (o : Option OpenFile) → (truncated t o).ninodes ≡ t.ninodes
truncated_range t None = refl
truncated_range t (Some f) = refl

held_range : (t : Tree) (h : ℕ) (res : Option ℕ) → (held t h res).ninodes ≡ t.ninodes
held_range t h None = refl
held_range t h (Some n) = refl

hold_range : (t : Tree) (o : Option Hold) (f : Node → Node) → (at_hold t o f).ninodes ≡ t.ninodes
hold_range t None f = refl
hold_range t (Some o) f = refl

enter_range : (t : Tree) (par : Option (ℕ × Name)) (o : Option Hold) → (enter_hold t par o).ninodes ≡ t.ninodes
enter_range t None o = refl
enter_range t (Some q) None = refl
enter_range t (Some q) (Some o) = refl

child_range : (t : Tree) (d : ℕ) (e : Name) (found : Option ℕ) → (removed_child t d e found).ninodes ≡ t.ninodes
child_range t d e None = refl
child_range t d e (Some n) = refl

removed_range : (t : Tree) (par : Option (ℕ × Name)) → (removed t par).ninodes ≡ t.ninodes
removed_range t None = refl
removed_range t (Some q) = child_range t q.0 q.1 (look t.nodes q.0 q.1)

made_range : (t : Tree) (par : Option (ℕ × Name)) (n : ℕ) → (made t par n).ninodes ≡ t.ninodes
made_range t None n = refl
made_range t (Some q) n = refl

dir_range : (t : Tree) (h : ℕ) (res : Option ℕ) → (at_dir t h res).ninodes ≡ t.ninodes
dir_range t h None = refl
dir_range t h (Some n) = refl

effect_range : (version : Version) (t : Tree) (h : ℕ) (s : Action) (res : Option ℕ) (par : Option (ℕ × Name)) (new id : ℕ) → (effect_with version t h s res par new id).ninodes ≡ t.ninodes
unfolding effect_by
effect_range version t h (steps.Open path flags) res par new id = elim (either (creates flags)) [
  | inl y ↦ rw y (new_range t h id flags new par)
  | inr y ↦ rw y (at_range t h id flags new res)
]
effect_range version t h (steps.Truncate fd) res par new id = truncated_range t (file_at t h fd)
effect_range version t h (steps.Read fd n) res par new id = moved_range t (t.fds h fd) (length (part version t (file_at t h fd) n))
effect_range version t h (steps.WritePart fd b) res par new id = wrote_range t h fd b
effect_range version t h (steps.Find old) res par new id = held_range t h res
effect_range version t h steps.Bump res par new id = hold_range t (t.holds h) raised
effect_range version t h (steps.Enter name) res par new id = enter_range t par (t.holds h)
effect_range version t h steps.Unbump res par new id = hold_range t (t.holds h) lowered
effect_range version t h (steps.Unlink path) res par new id = removed_range t par
effect_range version t h (steps.Mkdir path) res par new id = made_range t par new
effect_range version t h (steps.Chdir path) res par new id = dir_range t h res
effect_range version t h (steps.Dup fd) res par new id = refl
effect_range version t h (steps.Close fd) res par new id = refl
effect_range version t h (steps.Fstat fd) res par new id = refl
effect_range version t h (steps.Inherit child) res par new id = refl

refused_range : (t : Tree) (h : ℕ) (s : Action) → (refused t h s).ninodes ≡ t.ninodes
refused_range t h steps.Bump = settled_range _
refused_range t h s = refl

done_range : (version : Version) (t t' : Tree) (h : ℕ) (s : Action) (res : Option ℕ) (par : Option (ℕ × Name)) (new id : ℕ) → t' ≡ settle (effect_with version t h s res par new id) → t'.ninodes ≡ t.ninodes
done_range version t t' h s res par new id e = ap (λ (z : Tree). z.ninodes) e ∙ (settled_range (effect_with version t h s res par new id) ∙ effect_range version t h s res par new id)

step_range : (version : Version) (t t' : Tree) (h : ℕ) (s : Action) (res : Option ℕ) (par : Option (ℕ × Name)) (a : StepAnswer) (new id : ℕ) → StepWith version t h s res par a new id t' → t'.ninodes ≡ t.ninodes
step_range version t t' h s res par (Failed k) new id x = ap (λ (z : Tree). z.ninodes) x.1 ∙ refused_range t h s
step_range version t t' h s res par (Opened fd j f) new id x = done_range version t t' h s res par new id x.3
step_range version t t' h s res par (Bytes b) new id x = done_range version t t' h s res par new id x.3
step_range version t t' h s res par (Status y) new id x = done_range version t t' h s res par new id x.3
step_range version t t' h s res par (NewFd fd) new id x = done_range version t t' h s res par new id x.3
step_range version t t' h s res par Done new id x = done_range version t t' h s res par new id x.3
step_range version t t' h s res par (NoRoom f) new id x = done_range version t t' h s res par new id x.3

-- ---- moves

abbrev Same : Stage → Stage → Type 0
Same m m' = m'.tree.ninodes ≡ m.tree.ninodes

acts_range : (version : Version) (m m' : Stage) (h : ℕ) (s : Action) (res : Option ℕ) (par : Option (ℕ × Name)) (new : ℕ) (told : Option Deed) → Acts version m h s res par new told m' → Same m m'
acts_range version m m' h s res par new told k = step_range version m.tree m'.tree h s res par k.answer new k.id k.step

begun_range : (version : Version) (m m' : Stage) (h : ℕ) (s : Action) (es : List Name) (new : ℕ) (told : Option Deed) → StartLeadsTo version m h s es new told m' → Same m m'
begun_range version m m' h s [] new told k = acts_range version m m' h s _ None new told k
begun_range version m m' h s (e ∷ es) new told k = ap (λ (z : Stage). z.tree.ninodes) k.1

looked_range : (version : Version) (m m' : Stage) (h : ℕ) (w : Walk) (es : List Name) (found : Option ℕ) (new : ℕ) (told : Option Deed) → LookupLeadsTo version m h w es found new told m' → Same m m'
looked_range version m m' h w [] found new told k = acts_range version m m' h w.step found _ new told k
looked_range version m m' h w (e ∷ es) None new told k = acts_range version m m' h w.step None None new told k
looked_range version m m' h w (e ∷ es) (Some n) new told k = ap (λ (z : Stage). z.tree.ninodes) k.1

plays_range : (version : Version) (m m' : Stage) (h : ℕ) (v : Move) (told : Option Deed) → Plays version m h v told m' → Same m m'
plays_range version m m' h (Begin s new) told k = begun_range version m m' h s _ new told k.begins
plays_range version m m' h (Look new) told k = looked_range version m m' h k.walk k.walk.rest _ new told k.looks
plays_range version m m' h (GiveUpWalk s) told k = ap (λ (z : Stage). z.tree.ninodes) k.stage
plays_range version m m' h (OwnMove s new) told k = acts_range version m m' h s _ _ new told k.acts

any_range : (version : Version) (m m' : Stage) (h : ℕ) (v : Option Move) (told : Option Deed) → PlaysAny version m h v told m' → Same m m'
any_range version m m' h None told k = ap (λ (z : Stage). z.tree.ninodes) k.1
any_range version m m' h (Some v) told k = plays_range version m m' h v told k

happens_range : (version : Version) (t t' : Told) (e : Turn) → Happens version t e t' → Same t.stage t'.stage
happens_range version t t' (Starts h c) o = ap (λ (z : Told). z.stage.tree.ninodes) o.world
happens_range version t t' (Steps h v r) o = ap (λ (z : Told). z.stage.tree.ninodes) o.world ∙ any_range version t.stage o.stage h v o.told o.plays
happens_range version t t' Nothing o = ap (λ (z : Told). z.stage.tree.ninodes) o

-- ---- runs

pub run_range : (version : Version) (t t' : Told) (es : List Turn) → Goings version t es t' → Same t.stage t'.stage
unfolding Goings
run_range version t t' [] r = sym (ap (λ (z : Told). z.stage.tree.ninodes) r)
run_range version t t' (e ∷ es) r = run_range version r.0 t' es r.2 ∙ happens_range version t r.0 e r.1
