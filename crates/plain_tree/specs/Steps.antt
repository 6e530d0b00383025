-- One step of the plain tree: its causes in order, its answer, what it changes.
use Rattle.std.specs.Prelude.{◌≡◌, ◌≢◌, ℕ, zero, suc, ◌+◌, ◌-◌, ◌*◌, ◌/◌, ◌%◌, ◌<◌, ◌≤◌, ℤ, pos, negsuc, Bool, true, false, ◌&&◌, ◌||◌, not, List, [], ◌∷◌, ◌++◌, take, drop, length, replicate, ◌==◌, nat_lt, if◌then◌else◌, Option, Some, None, bit_and}
use Rattle.image_versions.specs.declared.version.Version.{Version}
use Rattle.image_versions.specs.Versions.{dirent_len_of, name_len_of}
use Rattle.plain_tree.specs.declared.answer.Cause.{Cause}
use Rattle.plain_tree.specs.declared.answer.Cause.TheVariants.{NoEntry, Exists, IsDirectory, NotEmpty, DotName, BadDescriptor, BadMode, TooBig, NoDriver, TooManyLinks, BadOffset, NotDirectory}
use Rattle.plain_tree.specs.declared.answer.Full.TheVariants.{Descriptors}
use Rattle.plain_tree.specs.declared.answer.NodeType.{NodeType}
use Rattle.plain_tree.specs.declared.answer.NodeType.TheVariants.{Directory as DirectoryType, File as FileType, Device as DeviceType}
use Rattle.plain_tree.specs.declared.answer.Stat.{Stat}
use Rattle.plain_tree.specs.declared.node.Slot.{Slot}
use Rattle.plain_tree.specs.declared.node.Node.{Node}
use Rattle.plain_tree.specs.declared.node.NodeKind.{NodeKind}
use Rattle.plain_tree.specs.declared.node.NodeKind.TheVariants.{Directory, File, Device}
use Rattle.plain_tree.specs.declared.tree.OpenFile.{OpenFile}
use Rattle.plain_tree.specs.declared.tree.Hold.{Hold}
use Rattle.plain_tree.specs.declared.step.Action.{Action}
use Rattle.plain_tree.specs.declared.step.Action.TheVariants.{Open, Truncate, Read, WritePart, Find, Bump, Enter, Unbump, Unlink, Mkdir, Chdir, Dup, Close, Fstat, Inherit}
use Rattle.plain_tree.specs.declared.step.TreeStep.{TreeStep}
use Rattle.plain_tree.specs.declared.step.StepAnswer.{StepAnswer}
use Rattle.plain_tree.specs.declared.step.StepAnswer.TheVariants.{Opened, Bytes, Stat as Status, Fd as NewFd, Done, Failed, Full as NoRoom}
use Rattle.plain_tree.specs.Tree.{Name, Tree, put, any_below, same_name, dot, dotdot, is_directory, slots_of, look, and_then, resolve, parent, settle}
use Rattle.plain_tree.specs.Widths.{largest_size, count_limit, hart_count, descriptor_count, major_limit, root_device}

-- Flags of open: write only, read and write, make the file, empty it.

abbrev pub write_only : ℕ
write_only = 1

abbrev pub read_write : ℕ
read_write = 2

abbrev pub create : ℕ
create = 512

abbrev pub empty_it : ℕ
empty_it = 1024

abbrev pub has : ℕ → ℕ → Bool
has flags bit = not (bit_and flags bit == 0)

abbrev pub creates : ℕ → Bool
creates flags = has flags create

-- Contents and sizes.

abbrev pub entry_bytes : Version → Option Slot → List ℕ
entry_bytes v None = replicate (dirent_len_of v) 0
entry_bytes v (Some s) = (s.number % 256) ∷ (s.number / 256) ∷ s.name ++ replicate (name_len_of v - length s.name) 0

unfoldable pub entries : Version → List (Option Slot) → List ℕ
entries v [] = []
entries v (s ∷ ss) = entry_bytes v s ++ entries v ss

abbrev pub content : Version → NodeKind → List ℕ
content v (Directory slots) = entries v slots
content v (File bytes) = bytes
content v (Device major minor size) = []

abbrev pub size_of : Version → NodeKind → ℕ
size_of v (Directory slots) = dirent_len_of v * length slots
size_of v (File bytes) = length bytes
size_of v (Device major minor size) = size

abbrev pub type_of : NodeKind → NodeType
type_of (Directory slots) = DirectoryType
type_of (File bytes) = FileType
type_of (Device major minor size) = DeviceType

abbrev pub is_file : NodeKind → Bool
is_file (Directory slots) = false
is_file (File bytes) = true
is_file (Device major minor size) = false

-- Descriptors.

unfoldable pub lowest_from : ℕ → ℕ → (ℕ → Option ℕ) → ℕ
lowest_from zero i used = i
lowest_from (suc more) i used = elim (used i) [ None ↦ i | Some id ↦ lowest_from more (i + 1) used ]

-- the lowest free descriptor; 16 if there is none
abbrev pub lowest : (ℕ → Option ℕ) → ℕ
lowest used = lowest_from descriptor_count 0 used

-- a descriptor is free
abbrev pub has_room : (ℕ → Option ℕ) → Bool
has_room used = nat_lt (lowest used) descriptor_count

abbrev pub file_at : Tree → ℕ → ℕ → Option OpenFile
file_at t h fd = if nat_lt fd descriptor_count then and_then (t.fds h fd) (λ id. t.files id) else None

-- a node that is there, or an empty one that nobody asks for
abbrev pub node_or : Option Node → Node
node_or None = record { count = 0; kind = File [] }
node_or (Some v) = v

abbrev pub node_at : Tree → ℕ → Node
node_at t n = node_or (t.nodes n)

-- Causes, in order.

abbrev pub has_driver : ℤ → Bool
has_driver (pos n) = nat_lt n major_limit
has_driver (negsuc n) = false

abbrev pub open_kind : ℕ → NodeKind → Option Cause
open_kind flags (Directory slots) = if flags == 0 then None else Some IsDirectory
open_kind flags (File bytes) = None
open_kind flags (Device major minor size) = if has_driver major then None else Some NoDriver

abbrev pub open_old : Tree → ℕ → Option ℕ → Option Cause
open_old t flags None = Some NoEntry
open_old t flags (Some n) = open_kind flags (node_at t n).kind

-- if the file may be made, a name that isn't there is no fault
abbrev pub open_there : Tree → ℕ → Option ℕ → Option Cause
open_there t flags None = None
open_there t flags (Some n) = open_kind flags (node_at t n).kind

abbrev pub open_new : Tree → ℕ → Option (ℕ × Name) → Option Cause
open_new t flags None = Some NoEntry
open_new t flags (Some q) = open_there t flags (look t.nodes q.0 q.1)

abbrev pub no_driver : NodeKind → Option Cause
no_driver (Directory slots) = None
no_driver (File bytes) = None
no_driver (Device major minor size) = Some NoDriver

abbrev pub read_refusal : Tree → Option OpenFile → Option Cause
read_refusal t None = Some BadDescriptor
read_refusal t (Some f) = if f.readable then no_driver (node_at t f.number).kind else Some BadMode

abbrev pub part_refusal : ℕ → ℕ → List ℕ → Option Cause
part_refusal offset size [] = None
part_refusal offset size (b ∷ bs) =
    if nat_lt size offset then Some BadOffset else (if nat_lt largest_size (offset + length (b ∷ bs)) then Some TooBig else None)

abbrev pub write_kind : Version → NodeKind → ℕ → List ℕ → Option Cause
write_kind v (Directory slots) offset b = part_refusal offset (size_of v (Directory slots)) b
write_kind v (File bytes) offset b = part_refusal offset (length bytes) b
write_kind v (Device major minor size) offset b = Some NoDriver

abbrev pub write_refusal : Version → Tree → List ℕ → Option OpenFile → Option Cause
write_refusal v t b None = Some BadDescriptor
write_refusal v t b (Some f) = if f.writable then write_kind v (node_at t f.number).kind f.offset b else Some BadMode

abbrev pub find_refusal : Tree → Option ℕ → Option Cause
find_refusal t None = Some NoEntry
find_refusal t (Some n) = if is_directory (node_at t n).kind then Some IsDirectory else None

abbrev pub bump_refusal : Tree → Option Hold → Option Cause
bump_refusal t None = None
bump_refusal t (Some o) = if nat_lt (node_at t o.number).count count_limit then None else Some TooManyLinks

abbrev pub name_taken : Option ℕ → Option Cause
name_taken None = None
name_taken (Some n) = Some Exists

abbrev pub enter_refusal : Tree → Option (ℕ × Name) → Option Cause
enter_refusal t None = Some NoEntry
enter_refusal t (Some q) = name_taken (look t.nodes q.0 q.1)

abbrev pub is_used : Option Slot → Bool
is_used None = false
is_used (Some s) = true

unfoldable pub any_used : List (Option Slot) → Bool
any_used [] = false
any_used (s ∷ ss) = is_used s || any_used ss

abbrev pub not_empty : NodeKind → Option Cause
not_empty (Directory slots) = if any_used (drop 2 slots) then Some NotEmpty else None
not_empty (File bytes) = None
not_empty (Device major minor size) = None

abbrev pub child_refusal : Tree → Option ℕ → Option Cause
child_refusal t None = Some NoEntry
child_refusal t (Some n) = not_empty (node_at t n).kind

abbrev pub unlink_refusal : Tree → Option (ℕ × Name) → Option Cause
unlink_refusal t None = Some NoEntry
unlink_refusal t (Some q) = if same_name q.1 dot || same_name q.1 dotdot then Some DotName else child_refusal t (look t.nodes q.0 q.1)

abbrev pub is_nothing : {A : Type 0} → Option A → Bool
is_nothing None = true
is_nothing (Some n) = false

abbrev pub or_else : Option Cause → Option Cause → Option Cause
or_else None b = b
or_else (Some k) b = Some k

abbrev pub mkdir_refusal : Tree → Option (ℕ × Name) → Option Cause
mkdir_refusal t None = Some NoEntry
mkdir_refusal t (Some q) =
    or_else (name_taken (look t.nodes q.0 q.1)) (if nat_lt (node_at t q.0).count count_limit then None else Some TooManyLinks)

abbrev pub chdir_refusal : Tree → Option ℕ → Option Cause
chdir_refusal t None = Some NoEntry
chdir_refusal t (Some n) = if is_directory (node_at t n).kind then None else Some NotDirectory

abbrev pub fd_refusal : Option OpenFile → Option Cause
fd_refusal None = Some BadDescriptor
fd_refusal (Some f) = None

-- the path that a step follows; empty if it follows none
abbrev pub path_of : Action → List ℕ
path_of (Open path flags) = path
path_of (Find old) = old
path_of (Enter new) = new
path_of (Unlink path) = path
path_of (Mkdir path) = path
path_of (Chdir path) = path
path_of s = []

abbrev pub follows_path : Action → Bool
follows_path (Open path flags) = true
follows_path (Find old) = true
follows_path (Enter new) = true
follows_path (Unlink path) = true
follows_path (Mkdir path) = true
follows_path (Chdir path) = true
follows_path s = false

-- The first cause that applies. res: what the path resolves to; par: its parent, with the last element.
unfoldable pub refusal_with : Version → Tree → ℕ → Action → Option ℕ → Option (ℕ × Name) → Option Cause
refusal_with v t h (Open path flags) res par = if creates flags then open_new t flags par else open_old t flags res
refusal_with v t h (Read fd n) res par = read_refusal t (file_at t h fd)
refusal_with v t h (WritePart fd b) res par = write_refusal v t b (file_at t h fd)
refusal_with v t h (Find old) res par = find_refusal t res
refusal_with v t h Bump res par = bump_refusal t (t.holds h)
refusal_with v t h (Enter new) res par = enter_refusal t par
refusal_with v t h (Unlink path) res par = unlink_refusal t par
refusal_with v t h (Mkdir path) res par = mkdir_refusal t par
refusal_with v t h (Chdir path) res par = chdir_refusal t res
refusal_with v t h (Dup fd) res par = fd_refusal (file_at t h fd)
refusal_with v t h (Close fd) res par = fd_refusal (file_at t h fd)
refusal_with v t h (Fstat fd) res par = fd_refusal (file_at t h fd)
refusal_with v t h s res par = None

abbrev pub refusal : Version → Tree → ℕ → Action → Option Cause
refusal v t h s = refusal_with v t h s (resolve v t h (path_of s)) (parent v t h (path_of s))

-- When a step is in its place.

abbrev pub is_open_file : Tree → Option OpenFile → Bool
is_open_file t None = false
is_open_file t (Some f) = is_file (node_at t f.number).kind

abbrev pub holds_raised : Bool → Option Hold → Bool
holds_raised r None = false
holds_raised r (Some o) = if r then o.raised else not o.raised

abbrev pub has_descriptors : Tree → ℕ → Bool
has_descriptors t h = any_below descriptor_count (λ i. not (is_nothing (t.fds h i)))

-- Truncate is of an open file. A find is made by a hart that holds nothing raised, and the other steps of a link have
-- their hold. An inherit is to another hart without descriptors, and dup has a free descriptor.
unfoldable pub place_of : Tree → ℕ → Action → Bool
place_of t h (Truncate fd) = is_open_file t (file_at t h fd)
place_of t h (Find old) = not (holds_raised true (t.holds h))
place_of t h Bump = holds_raised false (t.holds h)
place_of t h (Enter new) = holds_raised true (t.holds h)
place_of t h Unbump = holds_raised true (t.holds h)
place_of t h (Dup fd) = is_nothing (file_at t h fd) || has_room (t.fds h)
place_of t h (Inherit child) = nat_lt child hart_count && (not (child == h) && not (has_descriptors t child))
place_of t h s = true

abbrev pub IsInPlace : Tree → ℕ → Action → Type 0
IsInPlace t h s = (nat_lt h hart_count && place_of t h s) ≡ true

-- Changes.

abbrev pub with_nodes : Tree → (ℕ → Option Node) → Tree
with_nodes t ns = record t { nodes = ns }

abbrev pub at_node : Tree → ℕ → (Node → Node) → Tree
at_node t n f = with_nodes t (put t.nodes n (Some (f (node_at t n))))

-- the slot takes the first free place, else a new last one
unfoldable pub first_free : List (Option Slot) → Slot → List (Option Slot)
first_free [] s = Some s ∷ []
first_free (None ∷ ss) s = Some s ∷ ss
first_free (Some s' ∷ ss) s = Some s' ∷ first_free ss s

-- the first slot of that name is free
unfoldable pub cleared : List (Option Slot) → Name → List (Option Slot)
cleared [] e = []
cleared (None ∷ ss) e = None ∷ cleared ss e
cleared (Some s ∷ ss) e = if same_name s.name e then None ∷ ss else Some s ∷ cleared ss e

abbrev pub entered : Tree → ℕ → Name → ℕ → Tree
entered t d e n = at_node t d (λ v. record v { kind = Directory (first_free (slots_of v.kind) (record { name = e; number = n })) })

abbrev pub raised : Node → Node
raised v = record v { count = v.count + 1 }

abbrev pub lowered : Node → Node
lowered v = record v { count = v.count - 1 }

abbrev pub new_file : Node
new_file = record { count = 1; kind = File [] }

abbrev pub new_directory : ℕ → ℕ → Node
new_directory n d =
    record { count = 1; kind = Directory (Some (record { name = dot; number = n }) ∷ Some (record { name = dotdot; number = d }) ∷ []) }

-- a new open file; none if the hart's descriptors are taken
abbrev pub with_file : Tree → ℕ → ℕ → ℕ → ℕ → Tree
with_file t h id n flags = if has_room (t.fds h) then record t {
  files = put t.files id (Some
      (record { number = n; offset = 0; readable = not (has flags write_only); writable = has flags write_only || has flags read_write }));
  fds = put t.fds h (put (t.fds h) (lowest (t.fds h)) (Some id));
} else t

abbrev pub moved : Tree → Option ℕ → ℕ → Tree
moved t None by = t
moved t (Some id) by = record t { files = put t.files id (and_then (t.files id) (λ f. Some (record f { offset = f.offset + by }))) }

-- the part of the content that a read gives
abbrev pub part : Version → Tree → Option OpenFile → ℕ → List ℕ
part v t None n = []
part v t (Some f) n = take n (drop f.offset (content v (node_at t f.number).kind))

abbrev pub written_kind : NodeKind → ℕ → List ℕ → NodeKind
written_kind (File bytes) offset b = File (take offset bytes ++ b ++ drop (offset + length b) bytes)
written_kind (Directory slots) offset b = Directory slots
written_kind (Device major minor size) offset b = Device major minor size

abbrev pub written : Tree → Option OpenFile → List ℕ → Tree
written t None b = t
written t (Some f) b = at_node t f.number (λ v. record v { kind = written_kind v.kind f.offset b })

-- a piece at the offset; an empty one changes nothing
abbrev pub wrote : Tree → ℕ → ℕ → List ℕ → Tree
wrote t h fd [] = t
wrote t h fd (b ∷ bs) = moved (written t (file_at t h fd) (b ∷ bs)) (t.fds h fd) (length (b ∷ bs))

abbrev pub emptied : NodeKind → NodeKind
emptied (File bytes) = File []
emptied (Directory slots) = Directory slots
emptied (Device major minor size) = Device major minor size

abbrev pub truncated : Tree → Option OpenFile → Tree
truncated t None = t
truncated t (Some f) = at_node t f.number (λ v. record v { kind = emptied v.kind })

abbrev pub drop_hold : Tree → ℕ → Tree
drop_hold t h = record t { holds = put t.holds h None }

abbrev pub at_hold : Tree → Option Hold → (Node → Node) → Tree
at_hold t None f = t
at_hold t (Some o) f = at_node t o.number f

abbrev pub raise_hold : Option Hold → Option Hold
raise_hold None = None
raise_hold (Some o) = Some (record { number = o.number; raised = true })

abbrev pub enter_hold : Tree → Option (ℕ × Name) → Option Hold → Tree
enter_hold t None o = t
enter_hold t (Some q) None = t
enter_hold t (Some q) (Some o) = entered t q.0 q.1 o.number

-- the slot is free; a directory's parent loses one, then the node loses one
abbrev pub removed_child : Tree → ℕ → Name → Option ℕ → Tree
removed_child t d e None = t
removed_child t d e (Some n) =
    let t1 : Tree = at_node t d
    (λ v. record v {
      kind = Directory (cleared (slots_of v.kind) e);
      count = if is_directory (node_at t n).kind then v.count - 1
          else v.count;
    }) in
    at_node t1 n lowered

abbrev pub removed : Tree → Option (ℕ × Name) → Tree
removed t None = t
removed t (Some q) = removed_child t q.0 q.1 (look t.nodes q.0 q.1)

abbrev pub made : Tree → Option (ℕ × Name) → ℕ → Tree
made t None n = t
made t (Some q) n = at_node (with_nodes (entered t q.0 q.1 n) (put (entered t q.0 q.1 n).nodes n (Some (new_directory n q.0)))) q.0 raised

abbrev pub opened_at : Tree → ℕ → ℕ → ℕ → Option ℕ → ℕ → Tree
opened_at t h id flags None n = t
opened_at t h id flags (Some k) n = with_file t h id k flags

abbrev pub opened_in : Tree → ℕ → ℕ → ℕ → ℕ → Name → Option ℕ → ℕ → Tree
opened_in t h id flags d e (Some k) n = with_file t h id k flags
opened_in t h id flags d e None n = with_file (with_nodes (entered t d e n) (put (entered t d e n).nodes n (Some new_file))) h id n flags

abbrev pub opened_new : Tree → ℕ → ℕ → ℕ → Option (ℕ × Name) → ℕ → Tree
opened_new t h id flags None n = t
opened_new t h id flags (Some q) n = opened_in t h id flags q.0 q.1 (look t.nodes q.0 q.1) n

abbrev pub at_dir : Tree → ℕ → Option ℕ → Tree
at_dir t h None = t
at_dir t h (Some n) = record t { cwd = put t.cwd h n }

abbrev pub held : Tree → ℕ → Option ℕ → Tree
held t h None = t
held t h (Some n) = record t { holds = put t.holds h (Some (record { number = n; raised = false })) }

-- an open file without a descriptor goes
unfoldable pub has_fd : Tree → ℕ → Bool
has_fd t id = any_below hart_count (λ h. any_below descriptor_count (λ i. elim (t.fds h i) [ None ↦ false | Some j ↦ j == id ]))

abbrev pub closed : Tree → Tree
closed t = record t { files = λ id. if has_fd t id then t.files id else None }

-- The tree after the step, before the nodes that nothing keeps are removed. The number of a new node is new, the id
-- of a new open file is id.
unfoldable pub effect_with : Version → Tree → ℕ → Action → Option ℕ → Option (ℕ × Name) → ℕ → ℕ → Tree
effect_with v t h (Open path flags) res par new id =
    if creates flags then opened_new t h id flags par new else opened_at t h id flags res new
effect_with v t h (Truncate fd) res par new id = truncated t (file_at t h fd)
effect_with v t h (Read fd n) res par new id = moved t (t.fds h fd) (length (part v t (file_at t h fd) n))
effect_with v t h (WritePart fd b) res par new id = wrote t h fd b
effect_with v t h (Find old) res par new id = held t h res
effect_with v t h Bump res par new id = record (at_hold t (t.holds h) raised) { holds = put t.holds h (raise_hold (t.holds h)) }
effect_with v t h (Enter name) res par new id = drop_hold (enter_hold t par (t.holds h)) h
effect_with v t h Unbump res par new id = drop_hold (at_hold t (t.holds h) lowered) h
effect_with v t h (Unlink path) res par new id = removed t par
effect_with v t h (Mkdir path) res par new id = made t par new
effect_with v t h (Chdir path) res par new id = at_dir t h res
effect_with v t h (Dup fd) res par new id = record t { fds = put t.fds h (put (t.fds h) (lowest (t.fds h)) (t.fds h fd)) }
effect_with v t h (Close fd) res par new id = closed (record t { fds = put t.fds h (put (t.fds h) fd None) })
effect_with v t h (Fstat fd) res par new id = t
effect_with v t h (Inherit child) res par new id = record t { fds = put t.fds child (t.fds h); cwd = put t.cwd child (t.cwd h) }

-- Answers.

abbrev pub stat_of : Version → ℕ → Node → Stat
stat_of v n node = record { device = root_device; inode = n; kind = type_of node.kind; nlink = node.count; size = size_of v node.kind }

abbrev pub stat_answer : Version → Tree → Option OpenFile → StepAnswer
stat_answer v t None = Done
stat_answer v t (Some f) = Status (stat_of v f.number (node_at t f.number))

-- a name that isn't there is made, and is a file
abbrev pub opens_file : Tree → Option ℕ → Bool
opens_file t None = true
opens_file t (Some n) = is_file (node_at t n).kind

-- If the hart's descriptors are taken, an open answers so; a file that it made stays.
abbrev pub opened : Tree → ℕ → ℕ → Option ℕ → StepAnswer
opened t h id n = if has_room (t.fds h) then Opened (lowest (t.fds h)) id (opens_file t n) else NoRoom Descriptors

unfoldable pub answer_with : Version → Tree → ℕ → Action → Option ℕ → Option (ℕ × Name) → ℕ → StepAnswer
answer_with v t h (Open path flags) res par id = opened t h id (if creates flags then and_then par (λ q. look t.nodes q.0 q.1) else res)
answer_with v t h (Read fd n) res par id = Bytes (part v t (file_at t h fd) n)
answer_with v t h (Dup fd) res par id = NewFd (lowest (t.fds h))
answer_with v t h (Fstat fd) res par id = stat_answer v t (file_at t h fd)
answer_with v t h s res par id = Done

-- what a refused step changes: a refused bump drops its hold
abbrev pub refused : Tree → ℕ → Action → Tree
refused t h Bump = settle (drop_hold t h)
refused t h s = t

-- any number of the range that is not in the tree
pub record IsNewNode (t : Tree) (new : ℕ) : Type 0 where
  pub from : 1 ≤ new
  pub below : new < t.ninodes
  pub unused : t.nodes new ≡ None

abbrev pub is_absent : Tree → Option (ℕ × Name) → Bool
is_absent t None = false
is_absent t (Some q) = is_nothing (look t.nodes q.0 q.1)

-- the step makes a node, if it isn't refused
abbrev pub makes_node : Tree → Action → Option (ℕ × Name) → Bool
makes_node t (Open path flags) par = creates flags && is_absent t par
makes_node t (Mkdir path) par = true
makes_node t s par = false

-- the step opens a file, if it isn't refused
abbrev pub opens_one : Tree → ℕ → Action → Bool
opens_one t h (Open path flags) = has_room (t.fds h)
opens_one t h s = false

-- the least unused id
pub record IsLeastUnused (t : Tree) (id : ℕ) : Type 0 where
  pub unused : t.files id ≡ None
  pub least : (j : ℕ) → j < id → t.files j ≢ None

-- What a step may take: for a new node any number that isn't in the tree, for a new open file the least unused id.
pub record MayChoose (t : Tree) (h : ℕ) (s : Action) (par : Option (ℕ × Name)) (new id : ℕ) : Type 0 where
  pub node : makes_node t s par ≡ true → IsNewNode t new
  pub file : opens_one t h s ≡ true → IsLeastUnused t id

-- The step, if its path was found to resolve to res and its parent is par.
abbrev pub StepWith : Version → Tree → ℕ → Action → Option ℕ → Option (ℕ × Name) → StepAnswer → ℕ → ℕ → Tree → Type 0
StepWith v t h s res par (Failed k) new id t' = (refusal_with v t h s res par ≡ Some k) × (t' ≡ refused t h s) × IsInPlace t h s
StepWith v t h s res par a new id t' = (refusal_with v t h s res par ≡ None) × (a ≡ answer_with v t h s res par id)
    × MayChoose t h s par new id × (t' ≡ settle (effect_with v t h s res par new id)) × IsInPlace t h s

-- From t the step may give this answer and go on to t'.
abbrev pub Step : Version → Tree → TreeStep → StepAnswer → Tree → Type 0
Step v t s a t' =
    (id : ℕ) × StepWith v t s.hart s.action (resolve v t s.hart (path_of s.action)) (parent v t s.hart (path_of s.action)) a s.new id t'
