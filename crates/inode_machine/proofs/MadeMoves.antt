-- A move that is played in a settled tree is the one that code makes.
use Rattle.image_versions.specs.declared.version.Version.{Version}
use Rattle.inode_machine.proofs.Vocabulary.{◌≡◌, inl, inr, ℕ, Bool, true, false, List, [], ◌∷◌, nat_lt, nat_tests, Option, Some, None, refl, sym, ◌∙◌, ap, subst, arith, if◌then◌else◌, Cause, Action, StepAnswer, Failed, Opened, Bytes, Status, NewFd, Done, NoRoom, Name, Tree, put, elements, look, start_of, resolve, parent, path_of, follows_path, has_room, opens_one, refused, refusal_with, effect_with, effect_by, answer_with, answer_by, creates, settle, IsLeastUnused, MayChoose, StepWith, either, same_or, Walk, Stage, Move, Deed, Acts, LookupLeadsTo, Begin, Look, GiveUpWalk, OwnMove, Made, act_entered, acts, begun, looked, look_made, made_by, own_made, refused_all}
use Rattle.plain_tree.specs.declared.step.Action.TheVariants as steps
use Rattle.tree_laws.specs.Moves.{GoesTo, StartLeadsTo, Plays}
use Rattle.plain_tree.specs.Steps.{opened_at, opened_in, opened_new, with_file}
use Rattle.inode_machine.specs.Marks.{act_all, act_answer}
use Rattle.inode_machine.specs.Making.{OpensLeast}
use Rattle.plain_tree.specs.Steps.{refusal}

-- ---- the least id that is unused

one_least : (t : Tree) (i j : ℕ) → IsLeastUnused t i → IsLeastUnused t j → i ≡ j
one_least t i j a b = elim (same_or i j) [
  | inl e ↦ e
  | inr ne ↦ elim (either (nat_lt i j)) [
    | inl y ↦ absurd (b.least i (grind (arith, nat_tests)) a.unused)
    | inr y ↦ absurd (a.least j (grind (arith, nat_tests)) b.unused)
  ]
]

-- a step that opens no file is the same with each

no_file : (t : Tree) (h i j k flags : ℕ) → has_room (t.fds h) ≡ false → with_file t h i k flags ≡ with_file t h j k flags
no_file t h i j k flags full = rw full refl

none_at : (t : Tree) (h i j flags new : ℕ) (res : Option ℕ) → has_room (t.fds h) ≡ false → opened_at t h i flags res new ≡ opened_at t h j flags res new
none_at t h i j flags new None full = refl
none_at t h i j flags new (Some k) full = no_file t h i j k flags full

none_in : (t : Tree) (h i j flags d new : ℕ) (e : Name) (found : Option ℕ) → has_room (t.fds h) ≡ false → opened_in t h i flags d e found new ≡ opened_in t h j flags d e found new
none_in t h i j flags d new e (Some k) full = no_file t h i j k flags full
none_in t h i j flags d new e None full = rw full refl

none_new : (t : Tree) (h i j flags new : ℕ) (par : Option (ℕ × Name)) → has_room (t.fds h) ≡ false → opened_new t h i flags par new ≡ opened_new t h j flags par new
none_new t h i j flags new None full = refl
none_new t h i j flags new (Some q) full = none_in t h i j flags q.0 new q.1 (look t.nodes q.0 q.1) full

effect_any : (version : Version) (t : Tree) (h : ℕ) (s : Action) (res : Option ℕ) (par : Option (ℕ × Name)) (new i j : ℕ) → opens_one t h s ≡ false → effect_with version t h s res par new i ≡ effect_with version t h s res par new j
unfolding effect_by
effect_any version t h (steps.Open path flags) res par new i j full = elim (either (creates flags)) [
  | inl y ↦ rw y (none_new t h i j flags new par full)
  | inr y ↦ rw y (none_at t h i j flags new res full)
]
effect_any version t h (steps.Truncate fd) res par new i j full = refl
effect_any version t h (steps.Read fd n) res par new i j full = refl
effect_any version t h (steps.WritePart fd b) res par new i j full = refl
effect_any version t h (steps.Find old) res par new i j full = refl
effect_any version t h steps.Bump res par new i j full = refl
effect_any version t h (steps.Enter name) res par new i j full = refl
effect_any version t h steps.Unbump res par new i j full = refl
effect_any version t h (steps.Unlink path) res par new i j full = refl
effect_any version t h (steps.Mkdir path) res par new i j full = refl
effect_any version t h (steps.Chdir path) res par new i j full = refl
effect_any version t h (steps.Dup fd) res par new i j full = refl
effect_any version t h (steps.Close fd) res par new i j full = refl
effect_any version t h (steps.Fstat fd) res par new i j full = refl
effect_any version t h (steps.Inherit child) res par new i j full = refl

answer_any : (version : Version) (t : Tree) (h : ℕ) (s : Action) (res : Option ℕ) (par : Option (ℕ × Name)) (i j : ℕ) → opens_one t h s ≡ false → answer_with version t h s res par i ≡ answer_with version t h s res par j
unfolding answer_by
answer_any version t h (steps.Open path flags) res par i j full = rw full refl
answer_any version t h (steps.Truncate fd) res par i j full = refl
answer_any version t h (steps.Read fd n) res par i j full = refl
answer_any version t h (steps.WritePart fd b) res par i j full = refl
answer_any version t h (steps.Find old) res par i j full = refl
answer_any version t h steps.Bump res par i j full = refl
answer_any version t h (steps.Enter name) res par i j full = refl
answer_any version t h steps.Unbump res par i j full = refl
answer_any version t h (steps.Unlink path) res par i j full = refl
answer_any version t h (steps.Mkdir path) res par i j full = refl
answer_any version t h (steps.Chdir path) res par i j full = refl
answer_any version t h (steps.Dup fd) res par i j full = refl
answer_any version t h (steps.Close fd) res par i j full = refl
answer_any version t h (steps.Fstat fd) res par i j full = refl
answer_any version t h (steps.Inherit child) res par i j full = refl

-- ---- a step of the tree, by its cause

abbrev left_by : Version → Option Cause → Tree → ℕ → Action → Option ℕ → Option (ℕ × Name) → ℕ → ℕ → Tree
left_by version (Some k) t h s res par new id = refused t h s
left_by version None t h s res par new id = settle (effect_with version t h s res par new id)

-- the step's answer and tree, with this id for a new open file
record StepsSo (version : Version) (t : Tree) (h : ℕ) (s : Action) (res : Option ℕ) (par : Option (ℕ × Name)) (a : StepAnswer) (new id : ℕ) (t' : Tree) : Type 0 where
  pub answer : a ≡ act_answer version (refusal_with version t h s res par) t h s res par id
  pub tree : t' ≡ left_by version (refusal_with version t h s res par) t h s res par new id

-- the id is the least unused if the step opens a file
abbrev pub Takes : Version → Tree → ℕ → Action → Option ℕ → Option (ℕ × Name) → ℕ → Type 0
Takes version t h s res par id = act_entered (refusal_with version t h s res par) (opens_one t h s) id ≡ Some id → IsLeastUnused t id

steps_done : (version : Version) (t t' : Tree) (h : ℕ) (s : Action) (res : Option ℕ) (par : Option (ℕ × Name)) (a : StepAnswer) (new i id : ℕ) → refusal_with version t h s res par ≡ None → a ≡ answer_with version t h s res par i → MayChoose t h s par new i
    → t' ≡ settle (effect_with version t h s res par new i) → Takes version t h s res par id → StepsSo version t h s res par a new id t'
steps_done version t t' h s res par a new i id none answer may tree least = record {
  answer = answer ∙ (same.0 ∙ sym (ap (λ (r : Option Cause). act_answer version r t h s res par id) none));
  tree = tree ∙ (ap settle same.1 ∙ sym (ap (λ (r : Option Cause). left_by version r t h s res par new id) none));
}
  where
    same : (answer_with version t h s res par i ≡ answer_with version t h s res par id) × (effect_with version t h s res par new i ≡ effect_with version t h s res par new id)
    same = elim (either (opens_one t h s)) [
      | inl y ↦
          let e : i ≡ id = one_least t i id (may.file y) (least (ap (λ (r : Option Cause). act_entered r (opens_one t h s) id) none ∙ ap (λ (b : Bool). if b then Some id else None) y)) in
          (ap (answer_with version t h s res par) e, ap (effect_with version t h s res par new) e)
      | inr y ↦ (answer_any version t h s res par i id y, effect_any version t h s res par new i id y)
    ]

steps_so : (version : Version) (t t' : Tree) (h : ℕ) (s : Action) (res : Option ℕ) (par : Option (ℕ × Name)) (a : StepAnswer) (new i id : ℕ) → StepWith version t h s res par a new i t' → Takes version t h s res par id → StepsSo version t h s res par a new id t'
steps_so version t t' h s res par (Failed k) new i id x least = record {
  answer = sym (ap (λ (r : Option Cause). act_answer version r t h s res par id) x.0);
  tree = x.1 ∙ sym (ap (λ (r : Option Cause). left_by version r t h s res par new id) x.0);
}
steps_so version t t' h s res par (Opened fd j f) new i id x least = steps_done version t t' h s res par (Opened fd j f) new i id x.0 x.1 x.2 x.3 least
steps_so version t t' h s res par (Bytes b) new i id x least = steps_done version t t' h s res par (Bytes b) new i id x.0 x.1 x.2 x.3 least
steps_so version t t' h s res par (Status y) new i id x least = steps_done version t t' h s res par (Status y) new i id x.0 x.1 x.2 x.3 least
steps_so version t t' h s res par (NewFd fd) new i id x least = steps_done version t t' h s res par (NewFd fd) new i id x.0 x.1 x.2 x.3 least
steps_so version t t' h s res par Done new i id x least = steps_done version t t' h s res par Done new i id x.0 x.1 x.2 x.3 least
steps_so version t t' h s res par (NoRoom f) new i id x least = steps_done version t t' h s res par (NoRoom f) new i id x.0 x.1 x.2 x.3 least

-- what a refused step leaves, settled
pub refused_settles : (t : Tree) (h : ℕ) (s : Action) → settle t ≡ t → refused t h s ≡ settle (refused_all t h s)
refused_settles t h steps.Bump q = refl
refused_settles t h (steps.Open path flags) q = sym q
refused_settles t h (steps.Truncate fd) q = sym q
refused_settles t h (steps.Read fd n) q = sym q
refused_settles t h (steps.WritePart fd b) q = sym q
refused_settles t h (steps.Find old) q = sym q
refused_settles t h (steps.Enter new) q = sym q
refused_settles t h steps.Unbump q = sym q
refused_settles t h (steps.Unlink path) q = sym q
refused_settles t h (steps.Mkdir path) q = sym q
refused_settles t h (steps.Chdir path) q = sym q
refused_settles t h (steps.Dup fd) q = sym q
refused_settles t h (steps.Close fd) q = sym q
refused_settles t h (steps.Fstat fd) q = sym q
refused_settles t h (steps.Inherit child) q = sym q

-- a step with a path changes nothing where it is refused
refused_stays : (t : Tree) (h : ℕ) (s : Action) → follows_path s ≡ true → refused t h s ≡ t
refused_stays t h (steps.Open path flags) f = refl
refused_stays t h (steps.Find old) f = refl
refused_stays t h (steps.Enter new) f = refl
refused_stays t h (steps.Unlink path) f = refl
refused_stays t h (steps.Mkdir path) f = refl
refused_stays t h (steps.Chdir path) f = refl
refused_stays t h (steps.Truncate fd) f = absurd cc
refused_stays t h (steps.Read fd n) f = absurd cc
refused_stays t h (steps.WritePart fd b) f = absurd cc
refused_stays t h steps.Bump f = absurd cc
refused_stays t h steps.Unbump f = absurd cc
refused_stays t h (steps.Dup fd) f = absurd cc
refused_stays t h (steps.Close fd) f = absurd cc
refused_stays t h (steps.Fstat fd) f = absurd cc
refused_stays t h (steps.Inherit child) f = absurd cc

-- ---- a move

-- the stage and what is reported are those that were made
pub record IsSo (m : Stage) (h : ℕ) (x : Made) (told : Option Deed) (m' : Stage) : Type 0 where
  pub stage : m' ≡ record { tree = settle x.all; walk = put m.walk h x.walk }
  pub tells : told ≡ x.told

-- a refused step opens what it would have opened
pub own_opened : (t : Tree) (h : ℕ) (s : Action) (x : Made) (r : Option Cause) → (own_made r t h s x).opened ≡ x.opened
own_opened t h s x None = refl
own_opened t h s x (Some k) = refl

module _ (version : Version) (m : Stage) (h : ℕ) (settled : settle m.tree ≡ m.tree) where
  stage_is : (m' : Stage) (t : Tree) (f : ℕ → Option Walk) → m'.tree ≡ t → m'.walk ≡ f → m' ≡ record { tree = t; walk = f }
  stage_is m' t f a b = λ i. record { tree = a i; walk = b i }

  deed_is : (s : Action) (a b : StepAnswer) (new : ℕ) → a ≡ b → ◌≡◌ {A = Option Deed} (Some (record { act = record { step = s; answer = a }; new = new })) (Some (record { act = record { step = s; answer = b }; new = new }))
  deed_is s a b new e = λ i. Some (record { act = record { step = s; answer = e i }; new = new })

  walk_tree : (s : Action) (res : Option ℕ) (par : Option (ℕ × Name)) (new id : ℕ) (r : Option Cause) → refused m.tree h s ≡ m.tree → left_by version r m.tree h s res par new id ≡ settle (act_all version r m.tree h s res par new id)
  walk_tree s res par new id None same = refl
  walk_tree s res par new id (Some k) same = same ∙ sym settled

  -- a step of a walk
  acts_so : (s : Action) (res : Option ℕ) (par : Option (ℕ × Name)) (new id : ℕ) (told : Option Deed) (m' : Stage) → follows_path s ≡ true → Acts version m h s res par new told m' → Takes version m.tree h s res par id → IsSo m h (acts version m.tree h s res par new id) told m'
  acts_so s res par new id told m' f k least =
      let x = steps_so version m.tree m'.tree h s res par k.answer new k.id id k.step least in
      record {
        stage = stage_is m' _ _ (x.tree ∙ walk_tree s res par new id (refusal_with version m.tree h s res par) (refused_stays m.tree h s f)) k.walk;
        tells = k.deed ∙ deed_is s _ _ new x.answer;
      }

  own_so_by : (s : Action) (new id : ℕ) (told : Option Deed) (m' : Stage) (r : Option Cause) → m'.walk ≡ put m.walk h None
      → told ≡ Some (record { act = record { step = s; answer = act_answer version (refusal version m.tree h s) m.tree h s (resolve version m.tree h (path_of s)) (parent version m.tree h (path_of s)) id }; new = new })
      → refusal version m.tree h s ≡ r → m'.tree ≡ left_by version r m.tree h s (resolve version m.tree h (path_of s)) (parent version m.tree h (path_of s)) new id
      → IsSo m h (own_made r m.tree h s (acts version m.tree h s (resolve version m.tree h (path_of s)) (parent version m.tree h (path_of s)) new id)) told m'
  own_so_by s new id told m' None walk deed is tree = record {
    stage = stage_is m' _ _ (tree ∙ sym (ap (λ (r : Option Cause). settle (act_all version r m.tree h s (resolve version m.tree h (path_of s)) (parent version m.tree h (path_of s)) new id)) is)) walk;
    tells = deed;
  }
  own_so_by s new id told m' (Some k) walk deed is tree = record { stage = stage_is m' _ _ (tree ∙ refused_settles m.tree h s settled) walk; tells = deed }

  -- a step without a path
  own_so : (s : Action) (new id : ℕ) (told : Option Deed) (m' : Stage) → Acts version m h s (resolve version m.tree h (path_of s)) (parent version m.tree h (path_of s)) new told m' → OpensLeast version m h id (OwnMove s new) → IsSo m h (made_by version m.tree h id (m.walk h) (OwnMove s new)) told m'
  own_so s new id told m' k least =
      let x = steps_so version m.tree m'.tree h s (resolve version m.tree h (path_of s)) (parent version m.tree h (path_of s)) k.answer new k.id id k.step (λ q. least (own_opened m.tree h s (acts version m.tree h s (resolve version m.tree h (path_of s)) (parent version m.tree h (path_of s)) new id) (refusal version m.tree h s) ∙ q)) in
      own_so_by s new id told m' (refusal version m.tree h s) k.walk (k.deed ∙ deed_is s _ _ new x.answer) refl x.tree

  goes_so : (w : Walk) (told : Option Deed) (m' : Stage) → GoesTo m h w told m' → (found : Option ℕ) → IsSo m h (record { all = m.tree; walk = Some w; found = found; opened = None; entered = None; left = None; told = None }) told m'
  goes_so w told m' k found = record { stage = k.1 ∙ (λ i. record { tree = sym settled i; walk = put m.walk h (Some w) }); tells = k.0 }

  begun_so : (s : Action) (es : List Name) (new id : ℕ) (told : Option Deed) (m' : Stage) → follows_path s ≡ true → StartLeadsTo version m h s es new told m' → ((begun version m.tree h s es new id).opened ≡ Some id → IsLeastUnused m.tree id)
      → IsSo m h (begun version m.tree h s es new id) told m'
  begun_so s [] new id told m' f k least = let x = acts_so s (Some (start_of m.tree h (path_of s))) None new id told m' f k least in record { stage = x.stage; tells = x.tells }
  begun_so s (e ∷ es) new id told m' f k least = goes_so (record { step = s; at = start_of m.tree h (path_of s); next = e; rest = es }) told m' k None

  looked_so : (w : Walk) (es : List Name) (found : Option ℕ) (new id : ℕ) (told : Option Deed) (m' : Stage) → follows_path w.step ≡ true → LookupLeadsTo version m h w es found new told m'
      → ((looked version m.tree h w es found new id).opened ≡ Some id → IsLeastUnused m.tree id) → IsSo m h (looked version m.tree h w es found new id) told m'
  looked_so w [] found new id told m' f k least = acts_so w.step found (Some (w.at, w.next)) new id told m' f k least
  looked_so w (e ∷ es) None new id told m' f k least = acts_so w.step None None new id told m' f k least
  looked_so w (e ∷ es) (Some n) new id told m' f k least = goes_so (record { step = w.step; at = n; next = e; rest = es }) told m' k (Some n)

  look_so : (w : Walk) (o : Option Walk) (new id : ℕ) (told : Option Deed) (m' : Stage) → o ≡ Some w → follows_path w.step ≡ true → LookupLeadsTo version m h w w.rest (look m.tree.nodes w.at w.next) new told m'
      → ((look_made version m.tree h o new id).opened ≡ Some id → IsLeastUnused m.tree id) → IsSo m h (look_made version m.tree h o new id) told m'
  look_so w None new id told m' is f k least = absurd cc
  look_so w (Some v) new id told m' is f k least =
      let same : w ≡ v = (let q : Some v ≡ Some w = is in cc) in
      looked_so v v.rest (look m.tree.nodes v.at v.next) new id told m' (ap (λ (y : Walk). follows_path y.step) (sym same) ∙ f)
      (subst (λ (y : Walk). LookupLeadsTo version m h y y.rest (look m.tree.nodes y.at y.next) new told m') same k) least

  -- the hart's walk, if it has one, is for a step with a path
  pub plays_so : (v : Move) (id : ℕ) (told : Option Deed) (m' : Stage) → ((w : Walk) → m.walk h ≡ Some w → follows_path w.step ≡ true) → Plays version m h v told m' → OpensLeast version m h id v → IsSo m h (made_by version m.tree h id (m.walk h) v) told m'
  plays_so (Begin s new) id told m' f k least = begun_so s (elements version (path_of s)) new id told m' k.follows k.begins least
  plays_so (Look new) id told m' f k least = look_so k.walk (m.walk h) new id told m' k.is (f k.walk k.is) k.looks least
  plays_so (GiveUpWalk s) id told m' f k least = record { stage = k.stage ∙ (λ i. record { tree = sym settled i; walk = put m.walk h None }); tells = k.deed }
  plays_so (OwnMove s new) id told m' f k least = own_so s new id told m' k.acts least
