-- What a hart's own move does.
use Rattle.image_versions.specs.declared.version.Version.{Version}
use Rattle.tree_laws.proofs.Vocabulary.{◌≡◌, ◌≢◌, ℕ, ◌<◌, true, false, inl, refl, sym, ◌∙◌, ap, subst, List, [], ◌∷◌, ◌++◌, append_assoc, Option, Some, None, Call, Action, hart_count, Name, Tree, put, elements, live_directory, look, follow, start_of, resolve, parent, parent_of, path_of, follows_path, IsInPlace, Act, next_of, IsWellFormed, Deed, Walk, Stage, Move, Acts, GoesTo, StartLeadsTo, LookupLeadsTo, Plays, fail, walks_at, after, Begin, Look, GiveUpWalk, Own, lost, lost_of, PlaysAny, BeginsNext}
use Rattle.tree_laws.proofs.Basics.{put_same, put_other, follow_on, follow_stop, follow_end, follow_one, parent_nil, parent_on, parent_stop, parent_here, WalkOk, LeavesWalk, left_same, StepBy, lost_fails}
use Rattle.tree_laws.proofs.Kept.{step_well, step_hart, path_found}
use Rattle.tree_laws.proofs.Frames.{step_frame}

abbrev pub WalkAt : Version → Tree → ℕ → Call → List Act → Option Walk → Type 0
WalkAt version t h c x None = Unit {0}
WalkAt version t h c x (Some w) = WalkOk version t h c x w

-- a: what the call is handed; x: what it was handed before
pub data MoveResult (version : Version) (m : Stage) (h : ℕ) (c : Call) (x : List Act) (a : Option Deed) (m' : Stage) : Type 0 where
  Stays : a ≡ None → m' ≡ m → MoveResult version m h c x a m'
  ActsThere : (d : Deed) → a ≡ Some d → lost_of m h ≡ None → m'.walk h ≡ None → next_of c x ≡ Some d.act.step → StepBy version m.tree h d m'.tree → MoveResult version m h c x a m'
  Went : (w : Walk) → a ≡ None → lost_of m h ≡ None → m'.walk h ≡ Some w → m'.tree ≡ m.tree → next_of c x ≡ Some w.step → (live_directory (m'.tree.nodes w.at) ≡ false → StepBy version m'.tree h (fail w.step) m'.tree) → MoveResult version m h c x a m'
  GivesWalkUp : (d : Deed) → a ≡ Some d → lost_of m h ≡ Some d → m'.walk h ≡ None → m'.tree ≡ m.tree → MoveResult version m h c x a m'

pub record HasMoved (version : Version) (m : Stage) (h : ℕ) (c : Call) (x : List Act) (a : Option Deed) (m' : Stage) : Type 0 where
  pub good : IsWellFormed m'.tree
  pub way : MoveResult version m h c x a m'
  pub own : WalkAt version m'.tree h c (after a x) (m'.walk h)
  pub walks : (g : ℕ) → g ≢ h → m'.walk g ≡ m.walk g
  pub others : (g : ℕ) (w : Walk) → g < hart_count → g ≢ h → m.walk g ≡ Some w → LeavesWalk m.tree m'.tree g w.at

pub no_walk : (m : Stage) (h : ℕ) → m.walk h ≡ None → lost_of m h ≡ None
no_walk m h e = ap (λ (o : Option Walk). lost m.tree o) e

pub lost_live : (t : Tree) (w : Walk) → live_directory (t.nodes w.at) ≡ true → lost t (Some w) ≡ None
lost_live t w l = rw l refl

pub lost_dead : (t : Tree) (w : Walk) → live_directory (t.nodes w.at) ≡ false → lost t (Some w) ≡ Some (fail w.step)
lost_dead t w l = rw l refl

stays_moved : (version : Version) (m m' : Stage) (h : ℕ) (c : Call) (x : List Act) (a : Option Deed) → IsWellFormed m.tree → WalkAt version m.tree h c x (m.walk h) → a ≡ None → m' ≡ m → HasMoved version m h c x a m'
stays_moved version m m' h c x a good own none same = subst (λ (z : Option Deed). HasMoved version m h c x z m') (sym none) (subst (λ (z : Stage). HasMoved version m h c x None z) (sym same) (record {
  good = good;
  way = Stays refl refl;
  own = own;
  walks = λ g ne. refl;
  others = λ g w lg ne is. left_same m.tree m.tree g w.at refl;
}))

quit_moved : (version : Version) (m m' : Stage) (h : ℕ) (c : Call) (x : List Act) (a : Option Deed) (w : Walk) (s : Action) → IsWellFormed m.tree → m.walk h ≡ Some w → w.step ≡ s → live_directory (m.tree.nodes w.at) ≡ false → a ≡ Some (fail s)
    → m' ≡ record { tree = m.tree; walk = put m.walk h None } → HasMoved version m h c x a m'
quit_moved version m m' h c x a w s good is step dead deed stage = subst (λ (z : Stage). HasMoved version m h c x a z) (sym stage) (record {
  good = good;
  way = GivesWalkUp (fail s) deed (ap (λ (o : Option Walk). lost m.tree o) is ∙ (lost_dead m.tree w dead ∙ ap (λ (z : Action). Some (fail z)) step)) (put_same m.walk h None) refl;
  own = subst (λ (z : Option Walk). WalkAt version m.tree h c (after a x) z) (sym (put_same m.walk h None)) tt;
  walks = λ g ne. put_other m.walk h None g ne;
  others = λ g v lg ne i. left_same m.tree m.tree g v.at refl;
})

-- the step acts by what the whole path says
acts_moved : (version : Version) (m m' : Stage) (h : ℕ) (c : Call) (x : List Act) (s : Action) (new : ℕ) (a : Option Deed) → IsWellFormed m.tree → next_of c x ≡ Some s → lost_of m h ≡ None
    → Acts version m h s (resolve version m.tree h (path_of s)) (parent version m.tree h (path_of s)) new a m' → HasMoved version m h c x a m'
acts_moved version m m' h c x s new a good next none k =
    let found = path_found version m.tree h (path_of s) (step_hart version m.tree m'.tree h s _ _ k.answer new k.id k.step) good in
    let frame = step_frame version m.tree m'.tree h s _ _ k.answer new k.id good found k.step in
    let ended : m'.walk h ≡ None = ap (λ (f : ℕ → Option Walk). f h) k.walk ∙ put_same m.walk h None in
    record {
      good = step_well version m.tree m'.tree h s _ _ k.answer new k.id good found k.step;
      way = ActsThere (record { act = record { step = s; answer = k.answer }; new = new }) k.deed none ended next (k.id, k.step);
      own = subst (λ (z : Option Walk). WalkAt version m'.tree h c (after a x) z) (sym ended) tt;
      walks = λ g ne. ap (λ (f : ℕ → Option Walk). f g) k.walk ∙ put_other m.walk h None g ne;
      others = λ g w lg ne is. record {
        paths = frame.paths;
        dead = λ bad. frame.dead w.at (λ made makes q. k.alone made makes g lg ne (subst (λ (z : Option Walk). walks_at z new) (sym is) q)) bad;
        cwd = frame.cwds g ne (λ q. let none : m.walk g ≡ None = k.idle g lg q in absurd (cc (none, is)));
        hold = frame.holds g ne;
      };
    }

-- the walk goes on to a node, and is lost there if that is no live directory
goes_moved : (version : Version) (m m' : Stage) (h : ℕ) (c : Call) (x : List Act) (w : Walk) (done : List Name) (a : Option Deed) → IsWellFormed m.tree → lost_of m h ≡ None → next_of c x ≡ Some w.step
    → follows_path w.step ≡ true → IsInPlace m.tree h w.step → elements version (path_of w.step) ≡ done ++ w.next ∷ w.rest → follow m.tree.nodes (start_of m.tree h (path_of w.step)) done ≡ Some w.at
    → GoesTo m h w a m' → HasMoved version m h c x a m'
goes_moved version m m' h c x w done a good none next f place path at k =
    subst (λ (z : Stage). HasMoved version m h c x a z) (sym k.1) (subst (λ (z : Option Deed). HasMoved version m h c x z there) (sym k.0) (record {
      good = good;
      way = Went w refl none (put_same m.walk h (Some w)) refl next (λ dead. lost_fails version m.tree h w.at w.next done w.rest w.step f place path (inl (at, dead)));
      own = subst (λ (z : Option Walk). WalkAt version m.tree h c x z) (sym (put_same m.walk h (Some w))) (record { done = done; path = path; follows = f; place = place; next = next; here = λ l. at });
      walks = λ g ne. put_other m.walk h (Some w) g ne;
      others = λ g v lg ne is. left_same m.tree m.tree g v.at refl;
    }))
  where
    there : Stage
    there = record { tree = m.tree; walk = put m.walk h (Some w) }

-- The results of a lookup are those of the whole path.

begins_moved : (version : Version) (m m' : Stage) (h : ℕ) (c : Call) (x : List Act) (s : Action) (es : List Name) (new : ℕ) (a : Option Deed) → IsWellFormed m.tree → m.walk h ≡ None → next_of c x ≡ Some s → follows_path s ≡ true → IsInPlace m.tree h s
    → elements version (path_of s) ≡ es → StartLeadsTo version m h s es new a m' → HasMoved version m h c x a m'
begins_moved version m m' h c x s [] new a good rests next f place path k =
    let start : ℕ = start_of m.tree h (path_of s) in
    let res : resolve version m.tree h (path_of s) ≡ Some start = subst (λ (z : List Name). follow m.tree.nodes start z ≡ Some start) (sym path) (follow_end m.tree.nodes start) in
    let par : parent version m.tree h (path_of s) ≡ None = subst (λ (z : List Name). parent_of m.tree.nodes start z ≡ None) (sym path) (parent_nil m.tree.nodes start) in
    acts_moved version m m' h c x s new a good next (no_walk m h rests) (subst (λ (z : Option (ℕ × Name)). Acts version m h s (resolve version m.tree h (path_of s)) z new a m') (sym par) (subst (λ (z : Option ℕ). Acts version m h s z None new a m') (sym res) k))
begins_moved version m m' h c x s (e ∷ es) new a good rests next f place path k =
    goes_moved version m m' h c x (record { step = s; at = start_of m.tree h (path_of s); next = e; rest = es }) [] a good (no_walk m h rests) next f place path (follow_end m.tree.nodes (start_of m.tree h (path_of s))) k

looks_moved : (version : Version) (m m' : Stage) (h : ℕ) (c : Call) (x : List Act) (w : Walk) (rest : List Name) (r : Option ℕ) (new : ℕ) (a : Option Deed) → IsWellFormed m.tree → lost_of m h ≡ None → WalkOk version m.tree h c x w → live_directory (m.tree.nodes w.at) ≡ true
    → w.rest ≡ rest → look m.tree.nodes w.at w.next ≡ r → LookupLeadsTo version m h w rest r new a m' → HasMoved version m h c x a m'
looks_moved version m m' h c x w [] r new a good none k live rest found l =
    let here = k.here live in
    let start : ℕ = start_of m.tree h (path_of w.step) in
    let path : elements version (path_of w.step) ≡ k.done ++ w.next ∷ [] = k.path ∙ ap (λ (z : List Name). k.done ++ w.next ∷ z) rest in
    let res : resolve version m.tree h (path_of w.step) ≡ r = subst (λ (z : List Name). follow m.tree.nodes start z ≡ r) (sym path) (follow_on m.tree.nodes start w.at k.done (w.next ∷ []) here ∙ follow_one m.tree.nodes w.at w.next r found) in
    let par : parent version m.tree h (path_of w.step) ≡ Some (w.at, w.next) = subst (λ (z : List Name). parent_of m.tree.nodes start z ≡ Some (w.at, w.next)) (sym path) (parent_on m.tree.nodes start w.at w.next k.done [] here ∙ parent_here m.tree.nodes w.at w.next live) in
    acts_moved version m m' h c x w.step new a good k.next none (subst (λ (z : Option (ℕ × Name)). Acts version m h w.step (resolve version m.tree h (path_of w.step)) z new a m') (sym par) (subst (λ (z : Option ℕ). Acts version m h w.step z (Some (w.at, w.next)) new a m') (sym res) l))
looks_moved version m m' h c x w (e ∷ es) None new a good none k live rest found l =
    let here = k.here live in
    let start : ℕ = start_of m.tree h (path_of w.step) in
    let path : elements version (path_of w.step) ≡ k.done ++ w.next ∷ e ∷ es = k.path ∙ ap (λ (z : List Name). k.done ++ w.next ∷ z) rest in
    let res : resolve version m.tree h (path_of w.step) ≡ None = subst (λ (z : List Name). follow m.tree.nodes start z ≡ None) (sym path) (follow_on m.tree.nodes start w.at k.done (w.next ∷ e ∷ es) here ∙ follow_stop m.tree.nodes w.at w.next (e ∷ es) found) in
    let par : parent version m.tree h (path_of w.step) ≡ None = subst (λ (z : List Name). parent_of m.tree.nodes start z ≡ None) (sym path) (parent_on m.tree.nodes start w.at w.next k.done (e ∷ es) here ∙ parent_stop m.tree.nodes w.at w.next e es found) in
    acts_moved version m m' h c x w.step new a good k.next none (subst (λ (z : Option (ℕ × Name)). Acts version m h w.step (resolve version m.tree h (path_of w.step)) z new a m') (sym par) (subst (λ (z : Option ℕ). Acts version m h w.step z None new a m') (sym res) l))
looks_moved version m m' h c x w (e ∷ es) (Some n) new a good none k live rest found l =
    goes_moved version m m' h c x (record { step = w.step; at = n; next = e; rest = es }) (k.done ++ w.next ∷ []) a good none k.next k.follows k.place
    (k.path ∙ (ap (λ (z : List Name). k.done ++ w.next ∷ z) rest ∙ sym (append_assoc k.done (w.next ∷ []) (e ∷ es))))
    (follow_on m.tree.nodes (start_of m.tree h (path_of w.step)) w.at k.done (w.next ∷ []) (k.here live) ∙ follow_one m.tree.nodes w.at w.next (Some n) found) l

plays_moved : (version : Version) (m m' : Stage) (h : ℕ) (c : Call) (x : List Act) (v : Move) (a : Option Deed) → IsWellFormed m.tree → WalkAt version m.tree h c x (m.walk h) → BeginsNext c x (Some v) → Plays version m h v a m' → HasMoved version m h c x a m'
plays_moved version m m' h c x (Begin s new) a good own next k = begins_moved version m m' h c x s (elements version (path_of s)) new a good k.rests next k.follows k.place refl k.begins
plays_moved version m m' h c x (Look new) a good own next k =
    looks_moved version m m' h c x k.walk k.walk.rest (look m.tree.nodes k.walk.at k.walk.next) new a good (ap (λ (o : Option Walk). lost m.tree o) k.is ∙ lost_live m.tree k.walk k.live) (subst (λ (z : Option Walk). WalkAt version m.tree h c x z) k.is own) k.live refl refl k.looks
plays_moved version m m' h c x (GiveUpWalk s) a good own next k = quit_moved version m m' h c x a k.walk s good k.is k.step k.lost k.deed k.stage
plays_moved version m m' h c x (Own s new) a good own next k = acts_moved version m m' h c x s new a good next (no_walk m h k.rests) k.acts

pub any_moved : (version : Version) (m m' : Stage) (h : ℕ) (c : Call) (x : List Act) (v : Option Move) (a : Option Deed) → IsWellFormed m.tree → WalkAt version m.tree h c x (m.walk h) → BeginsNext c x v → PlaysAny version m h v a m' → HasMoved version m h c x a m'
any_moved version m m' h c x None a good own next k = stays_moved version m m' h c x a good own k.0 k.1
any_moved version m m' h c x (Some v) a good own next k = plays_moved version m m' h c x v a good own next k
