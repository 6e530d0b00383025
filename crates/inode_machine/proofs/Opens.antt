-- The tree's step of an open without CREATE, and what it leaves if it acts.
use Rattle.image_versions.specs.declared.version.Version.{Version}
use Rattle.inode_machine.proofs.Vocabulary.{◌≡◌, ℕ, ◌+◌, ◌-◌, ◌<◌, true, false, ◌==◌, List, [], ◌∷◌, Option, Some, None, refl, sym, ◌∙◌, ap, subst, arith, P, own, onto, Fine, Wp, Cause, NoEntry, Descriptors, Node, NodeKind, Directory, File, Device, Open, Failed, Opened, NoRoom, hart_count, Name, Tree, settle, IsLeastUnused, answer_by, creates, effect_by, has_room, is_file, lowest, makes_node, node_at, node_or, open_kind, place_of, refusal_with, refusal_by, IsInPlace, StepWith, eq_not, eq_self, Step, Move, World, InodeType, face_of, face_or, is_file_type, open_refusal, type_of, type_of_kind, Made, acts, with_made, Others, machine}
use Rattle.inode_machine.proofs.Basics.{Fair, others, below_is, Finder, opened_tree}

pub open_finder : (path : List ℕ) (flags : ℕ) → creates flags ≡ false → Finder (Open path flags)
open_finder path flags plain = record { follows = refl; makes = λ t q. rw plain refl; inherits = λ g q. absurd cc }

pub open_place : (t : Tree) (h : ℕ) (path : List ℕ) (flags : ℕ) → h < hart_count → IsInPlace t h (Open path flags)
unfolding place_of
open_place t h path flags lt = rw (below_is h hart_count lt) refl

pub open_missing : (version : Version) (t : Tree) (h : ℕ) (path : List ℕ) (flags : ℕ) (par : Option (ℕ × Name)) → creates flags ≡ false → refusal_with version t h (Open path flags) None par ≡ Some NoEntry
unfolding refusal_by
open_missing version t h path flags par plain = rw plain refl

pub open_kind_is : (version : Version) (t : Tree) (h j : ℕ) (path : List ℕ) (flags : ℕ) (par : Option (ℕ × Name)) → creates flags ≡ false → refusal_with version t h (Open path flags) (Some j) par ≡ open_kind flags (node_at t j).kind
unfolding refusal_by
open_kind_is version t h j path flags par plain = rw plain refl

pub open_refused_step : (version : Version) (t : Tree) (h j id : ℕ) (path : List ℕ) (flags : ℕ) (par : Option (ℕ × Name)) (k : Cause) → h < hart_count → creates flags ≡ false → open_kind flags (node_at t j).kind ≡ Some k → StepWith version t h (Open path flags) (Some j) par (Failed k) 0 id t
open_refused_step version t h j id path flags par k lt plain e = (open_kind_is version t h j path flags par plain ∙ e, refl, open_place t h path flags lt)

-- With a descriptor free.

pub open_made : (version : Version) (t : Tree) (h j new id : ℕ) (path : List ℕ) (flags : ℕ) (par : Option (ℕ × Name)) → creates flags ≡ false → open_kind flags (node_at t j).kind ≡ None → has_room (t.fds h) ≡ true
    → acts version t h (Open path flags) (Some j) par new id ≡ record {
      all = opened_tree t h (lowest (t.fds h)) id j flags;
      walk = None;
      found = Some j;
      opened = Some id;
      entered = None;
      left = None;
      told = Some (record { act = record { step = Open path flags; answer = Opened (lowest (t.fds h)) id (is_file (node_at t j).kind) }; new = new });
    }
unfolding effect_by answer_by
open_made version t h j new id path flags par plain goes room = rw (open_kind_is version t h j path flags par plain ∙ goes) (rw (plain, room) refl)

pub open_step : (version : Version) (t : Tree) (h j id : ℕ) (path : List ℕ) (flags : ℕ) (par : Option (ℕ × Name)) → h < hart_count → creates flags ≡ false → open_kind flags (node_at t j).kind ≡ None → has_room (t.fds h) ≡ true → IsLeastUnused t id
    → StepWith version t h (Open path flags) (Some j) par (Opened (lowest (t.fds h)) id (is_file (node_at t j).kind)) 0 id (settle (opened_tree t h (lowest (t.fds h)) id j flags))
unfolding effect_by answer_by
open_step version t h j id path flags par lt plain goes room least = (
  open_kind_is version t h j path flags par plain ∙ goes,
  rw (plain, room) refl,
  record { node = λ z. absurd (let a : makes_node t (Open path flags) par ≡ false = rw plain refl in cc (a, z)); file = λ _. least },
  rw (plain, room) refl,
  open_place t h path flags lt,
)

-- With none it finds no room, and nothing changes.
pub open_full : (version : Version) (t : Tree) (h j new id : ℕ) (path : List ℕ) (flags : ℕ) (par : Option (ℕ × Name)) → creates flags ≡ false → open_kind flags (node_at t j).kind ≡ None → has_room (t.fds h) ≡ false
    → acts version t h (Open path flags) (Some j) par new id ≡ record { all = t; walk = None; found = Some j; opened = None; entered = None; left = None; told = Some (record { act = record { step = Open path flags; answer = NoRoom Descriptors }; new = new }) }
unfolding effect_by answer_by
open_full version t h j new id path flags par plain goes room = rw (open_kind_is version t h j path flags par plain ∙ goes) (rw (plain, room) refl)

pub open_full_step : (version : Version) (t : Tree) (h j id : ℕ) (path : List ℕ) (flags : ℕ) (par : Option (ℕ × Name)) → h < hart_count → creates flags ≡ false → open_kind flags (node_at t j).kind ≡ None → has_room (t.fds h) ≡ false
    → StepWith version t h (Open path flags) (Some j) par (NoRoom Descriptors) 0 id (settle t)
unfolding effect_by answer_by
open_full_step version t h j id path flags par lt plain goes room = (
  open_kind_is version t h j path flags par plain ∙ goes,
  rw (plain, room) refl,
  record { node = λ z. absurd (let a : makes_node t (Open path flags) par ≡ false = rw plain refl in cc (a, z)); file = λ q. absurd (cc (q, room)) },
  rw (plain, room) refl,
  open_place t h path flags lt,
)

-- The type tells the cause.

pub refusal_by_type : (o : Option Node) (flags : ℕ) (inode_type : InodeType) → type_of o ≡ Some inode_type → open_kind flags (node_or o).kind ≡ open_refusal (flags == 0) inode_type
refusal_by_type None flags inode_type e = absurd cc
refusal_by_type (Some v) flags inode_type e = at v.kind ∙ ap (λ (z : InodeType). open_refusal (flags == 0) z) (some_is e)
  where
    some_is : {a b : InodeType} → ◌≡◌ {A = Option InodeType} (Some a) (Some b) → a ≡ b
    some_is q = cc

    at : (k : NodeKind) → open_kind flags k ≡ open_refusal (flags == 0) (type_of_kind k)
    at (Directory slots) = refl
    at (File bytes) = refl
    at (Device major minor size) = refl

pub file_by_type : (o : Option Node) (inode_type : InodeType) → type_of o ≡ Some inode_type → is_file (node_or o).kind ≡ is_file_type inode_type
file_by_type None inode_type e = absurd cc
file_by_type (Some v) inode_type e = at v.kind ∙ ap (λ (z : InodeType). is_file_type z) (some_is e)
  where
    some_is : {a b : InodeType} → ◌≡◌ {A = Option InodeType} (Some a) (Some b) → a ≡ b
    some_is q = cc

    at : (k : NodeKind) → is_file k ≡ is_file_type (type_of_kind k)
    at (Directory slots) = refl
    at (File bytes) = refl
    at (Device major minor size) = refl

pub face_or_type : (version : Version) (o : Option Node) (inode_type : InodeType) → type_of o ≡ Some inode_type → (face_or (face_of version o)).inode_type ≡ inode_type
face_or_type version None inode_type e = absurd cc
face_or_type version (Some v) inode_type e = cc

pub type_there : (o : Option Node) → o ≡ Some (node_or o) → type_of o ≡ Some (type_of_kind (node_or o).kind)
type_there o e = ap (λ (z : Option Node). type_of z) e

-- A step of a call that found no room before: no list explains the run.

pub moves_full : (version : Version) {A : Type 0} (h more n : ℕ) (B : List Step → Type 0) (Q : A → List Step → World → Type 0) (es : List Step) (v u : World) (mv : Move) (p : P (machine version) A) (made x : Made)
    → made ≡ x → Fair h v (with_made h x u) → (with_made h x u).clean ≡ false → more < n → ((l : ℕ) → l + (more + 1) ≡ n → Wp (machine version) h B Q p l (record { move = mv; told = x.told } ∷ es) (with_made h x u))
    → Fine (machine version) h ((h, record { move = mv; told = made.told }) ∷ []) more n B es v (with_made h made u) (λ l. Wp (machine version) h B Q p l (onto (own h ((h, record { move = mv; told = made.told }) ∷ [])) es) (with_made h made u))
moves_full version {A} h more n B Q es v u mv p made x is f bad pos next =
    subst (λ (z : Made). Fine (machine version) h ((h, record { move = mv; told = z.told }) ∷ []) more n B es v (with_made h z u) (λ l. Wp (machine version) h B Q p l (onto (own h ((h, record { move = mv; told = z.told }) ∷ [])) es) (with_made h z u))) (sym is)
    (record {
      inv = f.inv;
      kept = λ g ne. subst (λ (zs : List Step). Others g v zs (with_made h x u)) (sym (rw (eq_not h g (λ q. ne (sym q))) refl)) (others f g ne);
      goes = λ c. absurd (cc (c, bad));
      clean = f.clean;
      begun = λ c. absurd (cc (c, bad));
      left = n - (more + 1);
      falls = omega (arith, pos);
      next = rw (eq_self h) (next (n - (more + 1)) (omega (arith, pos)));
    })
