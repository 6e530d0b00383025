-- A read alone asks to read, and as much as its buffer has room for: so no more is heard than that.
use Rattle.std.specs.Prelude.{◌≡◌, ◌≤◌, ℕ, Bool, true, false, List, Option, Some, None, length}
use Rattle.calls_on_blocks.proofs.Vocabulary.{refl, sym, ◌∙◌, ap, subst, arith, inl, inr}
use Rattle.atomic_programs.proofs.Explains.{Some-inj}
use Rattle.atomic_programs.specs.Prog.{Ret, Do, asks}
use Rattle.inode_machine.specs.Parts as programs
use Rattle.inode_machine.specs.World as above
use Rattle.inode_machine.specs.World.Op.{ReadFile}
use Rattle.inode_parts.specs.Calls.{IsReading}
use Rattle.path_walk.specs.Asks.{count_in}
use Rattle.path_walk.specs.declared.asks.Heard.{Heard}
use Rattle.plain_tree.specs.declared.answer.Reply.{Reply}
use Rattle.tree_histories.specs.Keeping.{ReadsTooMuch}
use Rattle.whole_calls.specs.Wholes.{HasRoomFor, whole_of}
use Rattle.whole_calls.specs.declared.reading.Read.TheVariants as reading
use Rattle.whole_calls.specs.declared.whole.Whole.{Whole}
use Rattle.whole_calls.specs.declared.whole.Whole.TheVariants as whole
use Rattle.kept_histories.proofs.Heads.{IsFine, IsFineOp, reads_or_fine}
use Rattle.image_versions.specs.declared.version.Version.{Version}

-- no more is read than the operation asks for
abbrev pub RoomOf : above.Op → Heard → Type 0
RoomOf (ReadFile fd n offset count) x = count_in x ≤ count
RoomOf op x = Unit {0}

-- ---- which operation reads

abbrev pub is_read : above.Op → Bool
is_read (ReadFile fd n offset count) = true
is_read op = false

abbrev pub asks_read : Option above.Op → Bool
asks_read None = false
asks_read (Some op) = is_read op

room_unread : (op : above.Op) (x : Heard) → is_read op ≡ false → RoomOf op x
room_unread (ReadFile fd n offset count) x e = absurd cc
room_unread op x e = tt

fine_unread : (op : above.Op) (m : above.Answer op → Option above.Mark) → IsFineOp op m → is_read op ≡ false
fine_unread (ReadFile fd n offset count) m fine = absurd fine
fine_unread op m fine = refl

fine_asks : (p : programs.P Reply) (op : above.Op) → IsFine p → asks p ≡ Some op → is_read op ≡ false
fine_asks (Ret r) op fine e = absurd cc
fine_asks (Do o m k) op fine e = ap is_read (sym (Some-inj o op e)) ∙ fine_unread o m fine

-- ---- the operation that a call asks

reads_room : (version : Version) (ns : List ℕ) (w : Whole) (op : above.Op) (x : Heard) → IsReading w → asks (whole_of version ns w) ≡ Some op → HasRoomFor x w
    → RoomOf op x
reads_room version ns (whole.Read fd buf (reading.Part n offset)) op x t e room = subst (λ (o : above.Op). RoomOf o x) (Some-inj (ReadFile fd n offset (length buf.items)) op e) room
reads_room version ns w op x t e room = absurd t

-- at what the call has room for
pub room_asked : (version : Version) (ns : List ℕ) (w : Whole) (op : above.Op) → asks (whole_of version ns w) ≡ Some op → (x : Heard) → HasRoomFor x w → RoomOf op x
room_asked version ns w op e x room = elim (reads_or_fine version ns w) [
  | inl reads ↦ reads_room version ns w op x reads e room
  | inr fine ↦ room_unread op x (fine_asks (whole_of version ns w) op fine e)
]

-- so it doesn't read too much
pub none_too_much : (version : Version) (ns : List ℕ) (w : Whole) (op : above.Op) (x : Heard) → asks (whole_of version ns w) ≡ Some op → RoomOf op x → ReadsTooMuch x w
    → ⊥
none_too_much version ns (whole.Read fd buf (reading.Part n offset)) op x e room much =
    let fits : count_in x ≤ length buf.items = subst (λ (o : above.Op). RoomOf o x) (sym (Some-inj (ReadFile fd n offset (length buf.items)) op e)) room in
    omega (arith, fits, much)
none_too_much version ns w op x e room much = much
