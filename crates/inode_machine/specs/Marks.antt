-- What an operation's mark makes of the tree, and which steps are placed.
use Rattle.std.specs.Prelude.{ℕ, ◌+◌, Bool, true, false, List, [], ◌∷◌, if◌then◌else◌, Option, Some, None}
use Rattle.image_versions.specs.declared.version.Version.{Version}
use Rattle.inode_machine.specs.Vocabulary.{Cause, Action, OpenStep as Open, Truncate, ReadStep as Read, WritePart, Find, Bump, Enter, Unbump, UnlinkStep as Unlink, MkdirStep as Mkdir, ChdirStep as Chdir, DupStep as Dup, CloseStep as Close, FstatStep as Fstat, InheritStep as Inherit, StepAnswer, Opened, Bytes, Status, NewFd, Done, Failed, NoRoom, Hold, Name, Tree, put, elements, look, start_of, resolve, parent, path_of, refusal, refusal_with, effect_with, answer_with, makes_node, opens_one, lowest, closed, drop_hold, ExecResult, Waits, Ran, Stops, Walk, fail, Deed, Move, MoveStep as Step, Begin, Look, GiveUpWalk, Own}
use Rattle.inode_machine.specs.Basics.{type_of, Desk, World, Op, Answer, Outside, Mark, is_nothing, first_from, or_zero, with_walk, exec}
use Rattle.inode_machine.specs.World.Mark.{Makes, Frees, Orphans, Fills, Mends, Spoils}

-- The step acts, or is refused; a tree that isn't settled stays so.

abbrev pub act_all : Version → Option Cause → Tree → ℕ → Action → Option ℕ → Option (ℕ × Name) → ℕ → ℕ → Tree
act_all version (Some k) b h s res par new id = b
act_all version None b h s res par new id = effect_with version b h s res par new id

abbrev pub act_answer : Version → Option Cause → Tree → ℕ → Action → Option ℕ → Option (ℕ × Name) → ℕ → StepAnswer
act_answer version (Some k) b h s res par id = Failed k
act_answer version None b h s res par id = answer_with version b h s res par id

abbrev pub act_entered : Option Cause → Bool → ℕ → Option ℕ
act_entered (Some k) m new = None
act_entered None m new = if m then Some new else None

-- what a move makes of the tree, of the hart's walk, and what it tells
pub record Made : Type 0 where
  pub all : Tree
  pub walk : Option Walk
  pub found : Option ℕ
  pub opened : Option ℕ  -- the id of a new open file
  pub entered : Option ℕ  -- a new node that was alone until now
  pub left : Option ℕ  -- the directory that a change of directory leaves
  pub told : Option Deed

-- what the step leaves to be counted up: an open, a change of directory and a find have it named at once
abbrev pub found_by : Action → Option ℕ → Option ℕ
found_by (Open path flags) res = res
found_by (Find old) res = res
found_by (Chdir path) res = res
found_by (Truncate fd) res = None
found_by (Read fd n) res = None
found_by (WritePart fd b) res = None
found_by Bump res = None
found_by (Enter new) res = None
found_by Unbump res = None
found_by (Unlink path) res = None
found_by (Mkdir path) res = None
found_by (Dup fd) res = None
found_by (Close fd) res = None
found_by (Fstat fd) res = None
found_by (Inherit child) res = None

-- a change of directory leaves the old one
abbrev pub left_by : Action → ℕ → Option ℕ
left_by (Open path flags) d = None
left_by (Find old) d = None
left_by (Chdir path) d = Some d
left_by (Truncate fd) d = None
left_by (Read fd n) d = None
left_by (WritePart fd b) d = None
left_by Bump d = None
left_by (Enter new) d = None
left_by Unbump d = None
left_by (Unlink path) d = None
left_by (Mkdir path) d = None
left_by (Dup fd) d = None
left_by (Close fd) d = None
left_by (Fstat fd) d = None
left_by (Inherit child) d = None

abbrev pub act_left : Option Cause → Action → ℕ → Option ℕ
act_left (Some k) s d = None
act_left None s d = left_by s d

abbrev pub acts : Version → Tree → ℕ → Action → Option ℕ → Option (ℕ × Name) → ℕ → ℕ → Made
acts version b h s res par new id = record {
  all = act_all version (refusal_with version b h s res par) b h s res par new id;
  walk = None;
  found = found_by s res;
  opened = act_entered (refusal_with version b h s res par) (opens_one b h s) id;
  entered = act_entered (refusal_with version b h s res par) (makes_node b s par) new;
  left = act_left (refusal_with version b h s res par) s (b.cwd h);
  told = Some
      (record { act = record { step = s; answer = act_answer version (refusal_with version b h s res par) b h s res par id }; new = new });
}

-- what a path's start is, is counted already, so nothing is left to be
abbrev pub begun : Version → Tree → ℕ → Action → List Name → ℕ → ℕ → Made
begun version b h s [] new id = record (acts version b h s (Some (start_of b h (path_of s))) None new id) { found = None }
begun version b h s (e ∷ es) new id = record {
  all = b;
  walk = Some (record { step = s; at = start_of b h (path_of s); next = e; rest = es });
  found = None;
  opened = None;
  entered = None;
  left = None;
  told = None;
}

abbrev pub looked : Version → Tree → ℕ → Walk → List Name → Option ℕ → ℕ → ℕ → Made
looked version b h w [] r new id = acts version b h w.step r (Some (w.at, w.next)) new id
looked version b h w (e ∷ es) None new id = acts version b h w.step None None new id
looked version b h w (e ∷ es) (Some n) new id = record {
  all = b;
  walk = Some (record { step = w.step; at = n; next = e; rest = es });
  found = Some n;
  opened = None;
  entered = None;
  left = None;
  told = None;
}

abbrev pub look_made : Version → Tree → ℕ → Option Walk → ℕ → ℕ → Made
look_made version b h None new id = record { all = b; walk = None; found = None; opened = None; entered = None; left = None; told = None }
look_made version b h (Some w) new id = looked version b h w w.rest (look b.nodes w.at w.next) new id

-- what a refused step changes: a refused bump drops its hold
abbrev pub refused_all : Tree → ℕ → Action → Tree
refused_all b h Bump = drop_hold b h
refused_all b h (Open path flags) = b
refused_all b h (Truncate fd) = b
refused_all b h (Read fd n) = b
refused_all b h (WritePart fd c) = b
refused_all b h (Find old) = b
refused_all b h (Enter new) = b
refused_all b h Unbump = b
refused_all b h (Unlink path) = b
refused_all b h (Mkdir path) = b
refused_all b h (Chdir path) = b
refused_all b h (Dup fd) = b
refused_all b h (Close fd) = b
refused_all b h (Fstat fd) = b
refused_all b h (Inherit child) = b

-- the hart's own step, where it is refused
abbrev pub own_made : Option Cause → Tree → ℕ → Action → Made → Made
own_made (Some k) b h s m = record m { all = refused_all b h s }
own_made None b h s m = m

abbrev pub made_by : Version → Tree → ℕ → ℕ → Option Walk → Move → Made
made_by version b h id k (Begin s new) = begun version b h s (elements version (path_of s)) new id
made_by version b h id k (Look new) = look_made version b h k new id
made_by version b h id k (GiveUpWalk s) =
    record { all = b; walk = None; found = None; opened = None; entered = None; left = None; told = Some (fail s) }
made_by version b h id k (Own s new) =
    own_made (refusal version b h s) b h s (acts version b h s (resolve version b h (path_of s)) (parent version b h (path_of s)) new id)

-- the least id that no open file has
abbrev pub new_id : World → ℕ
new_id w = or_zero (first_from (w.next + 1) 0 (λ k. is_nothing (w.all.files k)))

abbrev pub above : ℕ → Option ℕ → ℕ
above n None = n
above n (Some id) = n + 1

abbrev pub clear : (ℕ → Bool) → Option ℕ → ℕ → Bool
clear f None = f
clear f (Some n) = put f n false

-- whether a step's answer had room
abbrev pub has_answer_room : StepAnswer → Bool
has_answer_room (NoRoom f) = false
has_answer_room (Opened fd id f) = true
has_answer_room (Bytes b) = true
has_answer_room (Status s) = true
has_answer_room (NewFd fd) = true
has_answer_room Done = true
has_answer_room (Failed k) = true

abbrev pub roomy : Option Deed → Bool
roomy None = true
roomy (Some d) = has_answer_room d.act.answer

-- the tree has a new descriptor, and the table has it not yet
abbrev pub with_opened : (ℕ → Desk) → ℕ → ℕ → Option ℕ → ℕ → Desk
with_opened desks h fd None = desks
with_opened desks h fd (Some id) = put desks h (record (desks h) { opening = Some fd })

-- what was found had this type then
abbrev pub with_noted : Tree → (ℕ → Desk) → ℕ → Option ℕ → ℕ → Desk
with_noted b desks h None = desks
with_noted b desks h (Some n) =
    put desks h (record (desks h) { noted = Some (record { number = n; inode_type = type_of (b.nodes n) }) })

abbrev pub with_left : (ℕ → Desk) → ℕ → Option ℕ → ℕ → Desk
with_left desks h None = desks
with_left desks h (Some d) = put desks h (record (desks h) { left = Some d })

abbrev pub with_made : ℕ → Made → World → World
with_made h x w = record w {
  desks = with_left (with_noted w.all (with_opened w.desks h (lowest (w.all.fds h)) x.opened) h x.found) h x.left;
  all = x.all;
  alone = clear w.alone x.entered;
  next = above w.next x.opened;
  harts = with_walk w.harts h x.walk x.found;
}

-- the call found no room
abbrev pub spoiled : ℕ → World → World
spoiled h w = record w { clean = false; desks = put w.desks h (record (w.desks h) { full = true }) }

-- What the tree has and the tables have not is taken back: a new descriptor, a change of directory, a hold.

abbrev pub unopened : Tree → ℕ → Option ℕ → Tree
unopened t h None = t
unopened t h (Some fd) = closed (record t { fds = put t.fds h (put (t.fds h) fd None) })

abbrev pub unmoved : Tree → ℕ → Option ℕ → Tree
unmoved t h None = t
unmoved t h (Some d) = record t { cwd = put t.cwd h d }

-- a raised hold stays, until its raise is taken back
abbrev pub unheld : Tree → ℕ → Option Hold → Tree
unheld t h None = t
unheld t h (Some o) = if o.raised then t else drop_hold t h

abbrev pub mended : ℕ → World → World
mended h w = record w {
  clean = false;
  desks = put w.desks h (record (w.desks h) { opening = None; left = None; full = true });
  all = unheld (unmoved (unopened w.all h (w.desks h).opening) h (w.desks h).left) h (w.all.holds h);
  harts = with_walk w.harts h None None;
}

abbrev pub marked : Version → ℕ → Option Mark → World → World
marked version h None w = w
marked version h (Some (Makes v)) w = with_made h (made_by version w.all h (new_id w) (w.harts h).walk v) w
marked version h (Some (Frees n)) w = record w { all = record (w.all) { nodes = put w.all.nodes n None } }
marked version h (Some (Orphans n)) w =
    record w { all = record (w.all) { nodes = put w.all.nodes n (w.disk n) }; alone = put w.alone n false }
marked version h (Some Fills) w = spoiled h w
marked version h (Some Mends) w = mended h w
marked version h (Some (Spoils s)) w = spoiled h (with_made h (made_by version w.all h (new_id w) (w.harts h).walk (Own s 0)) w)

abbrev pub with_mark : Version → {A : Type 0} → ℕ → (A → Option Mark) → ExecResult A World → ExecResult A World
with_mark version h m Waits = Waits
with_mark version h m (Ran a w) = Ran a (marked version h (m a) w)
with_mark version h m (Stops w) = Stops w

abbrev pub go : Version → ℕ → Outside → (op : Op) → (Answer op → Option Mark) → World → ExecResult (Answer op) World
go version h x op m w = with_mark version h m (exec version h x op w)

abbrev pub places : Version → ℕ → (op : Op) → Answer op → Option Mark → World → List (ℕ × Step)
places version h op a None w = []
places version h op a (Some (Makes v)) w =
    (h, record { move = v; told = (made_by version w.all h (new_id w) (w.harts h).walk v).told }) ∷ []
places version h op a (Some (Frees n)) w = []
places version h op a (Some (Orphans n)) w = []
places version h op a (Some Fills) w = []
places version h op a (Some Mends) w = []
places version h op a (Some (Spoils s)) w = []
