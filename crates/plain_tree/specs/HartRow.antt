-- What a tree has of one hart: its current directory, its hold, and its descriptors with their open files.
use Rattle.std.specs.Prelude.{ℕ, Bool, false, ◌&&◌, ◌||◌, ◌==◌, nat_lt, if◌then◌else◌, Option, Some, None}
use Rattle.plain_tree.specs.declared.tree.OpenFile.{OpenFile}
use Rattle.plain_tree.specs.declared.tree.Hold.{Hold}
use Rattle.plain_tree.specs.Basics.{Tree, any_below, hold_names, hart_count, descriptor_count}

-- an open file without its offset, which harts may share
pub record Key : Type 0 where
  pub number : ℕ
  pub readable : Bool
  pub writable : Bool

abbrev pub key_is : OpenFile → Key
key_is f = record { number = f.number; readable = f.readable; writable = f.writable }

abbrev pub key_of : Option OpenFile → Option Key
key_of None = None
key_of (Some f) = Some (key_is f)

abbrev pub key_at : (ℕ → Option OpenFile) → Option ℕ → Option Key
key_at files None = None
key_at files (Some id) = key_of (files id)

pub record Row : Type 0 where
  pub cwd : ℕ
  pub hold : Option Hold
  pub fds : ℕ → Option ℕ
  pub keys : ℕ → Option Key

abbrev pub row_of : Tree → ℕ → Row
row_of t h = record {
  cwd = t.cwd h;
  hold = t.holds h;
  fds = t.fds h;
  keys = λ i. if nat_lt h hart_count && nat_lt i descriptor_count
      then key_at t.files (t.fds h i) else None;
}

abbrev pub key_names : Option Key → ℕ → Bool
key_names None n = false
key_names (Some k) n = k.number == n

abbrev pub row_names : Row → ℕ → Bool
row_names r n = (r.cwd == n) || (hold_names r.hold n || any_below descriptor_count (λ i. key_names (r.keys i) n))
