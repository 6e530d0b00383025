-- How a program over the blocks of a content goes on.
use Rattle.inode_data.proofs.Vocabulary.{◌≡◌, ℕ, List, Option, refl, sym, ap, ◌∙◌, [], None, option_map, option_map_or, index_at, index_of, number_in, recorded, stands_so, unloaded, with_record, without_content, beside_emptying, beside_freeing, no_record, Emptying, Loaded, BufferState, Dinode, bytes_of, look_up, located, name_in_table, take_one, Super, numbers_in, slice_index, if◌then◌else◌, ◌==◌, Some, Located, InodePlace, One, Two, First, Second, GuardState, Inode, Do, bind, unmarked, P, Hand, no_inode, with_buffer}
use Rattle.fs_machine.specs.Steps as steps

-- the indirect block by its buffer
abbrev pub table_in : ℕ → Dinode → Option (GuardState BufferState) → Option ℕ → P Located
table_in i d o = name_in_table i d (option_map_or (λ (g : GuardState BufferState). g.value.block) o 0) (option_map_or bytes_of o [])

-- the indirect block has no number at this place
pub missing : (sizes : Super) (i : ℕ) (d : Dinode) (table : ℕ) (bytes : List ℕ) → slice_index (numbers_in bytes) i ≡ 0 → let p : P Located = look_up sizes i d table bytes in p ≡ bind (take_one sizes) (name_in_table i d table bytes)
missing sizes i d table bytes e =
    ap (λ (n : ℕ). let p : P Located = if n == 0 then bind (take_one sizes) (name_in_table i d table bytes) else Do (steps.Put table None) unmarked (λ _. located d (Some n)) in p) e

-- ---- what stays while a record changes

-- whatever was loaded is gone, or is another record
bared : (d : Dinode) (o : Option (GuardState Inode)) → option_map without_content (option_map (recorded d) o) ≡ option_map without_content o
bared d None = refl
bared d (Some g) = refl

unloaded-kept : (k : InodePlace) (h : Hand) → unloaded k (with_buffer First None (with_buffer Second None (with_record k no_record h))) ≡ with_buffer First None (with_buffer Second None (unloaded k h))
unloaded-kept One h = λ i. record (with_buffer First None (with_buffer Second None (unloaded One h))) { one = bared no_record h.one i }
unloaded-kept Two h = λ i. record (with_buffer First None (with_buffer Second None (unloaded Two h))) { two = bared no_record h.two i }

-- beside the record, then beside all that is loaded
pub freeing-kept : (e : Emptying) (h g : Hand) → beside_emptying e h ≡ beside_emptying e g → beside_freeing e h ≡ beside_freeing e g
freeing-kept e h g same = sym (unloaded-kept e.seat h) ∙ ap (unloaded e.seat) same ∙ unloaded-kept e.seat g

-- the number of the inode stays
pub number-kept : (e : Emptying) (h g : Hand) → beside_freeing e h ≡ beside_freeing e g → number_in e.seat h ≡ number_in e.seat g
number-kept e h g same = sym (bare-number e.seat h) ∙ ap (number_in e.seat) same ∙ bare-number e.seat g
  where
    numbered : (o : Option (GuardState Inode)) → (option_map_or (λ (g : GuardState Inode). g.value) (option_map without_content o) no_inode).number ≡ (option_map_or (λ (g : GuardState Inode). g.value) o no_inode).number
    numbered None = refl
    numbered (Some g) = refl

    bare-number : (k : InodePlace) (h : Hand) → number_in k (with_buffer First None (with_buffer Second None (unloaded k h))) ≡ number_in k h
    bare-number One h = numbered h.one
    bare-number Two h = numbered h.two

-- its index does
index-under : (o : Option (GuardState Inode)) → index_of (option_map_or (λ (g : GuardState Inode). g.value) (option_map (recorded no_record) o) no_inode) ≡ index_of (option_map_or (λ (g : GuardState Inode). g.value) o no_inode)
index-under None = refl
index-under (Some g) = at g.value.content
  where
    at : (c : Option Loaded) → let v : Inode = record { number = g.value.number; content = c } in index_of (stands_so no_record v) ≡ index_of v
    at None = refl
    at (Some l) = refl

bare-index : (k : InodePlace) (h : Hand) → index_at k (with_buffer First None (with_buffer Second None (with_record k no_record h))) ≡ index_at k h
bare-index One h = index-under h.one
bare-index Two h = index-under h.two

pub index-kept : (e : Emptying) (h g : Hand) → beside_emptying e h ≡ beside_emptying e g → index_at e.seat h ≡ index_at e.seat g
index-kept e h g same = sym (bare-index e.seat h) ∙ ap (index_at e.seat) same ∙ bare-index e.seat g

-- a record that is set over another one
set-over : (d : Dinode) (o : Option (GuardState Inode)) → option_map (recorded no_record) (option_map (recorded d) o) ≡ option_map (recorded no_record) o
set-over d None = refl
set-over d (Some g) = at g.value.content
  where
    at : (c : Option Loaded) → let f : GuardState Inode = record g { value = record { number = g.value.number; content = c } } in Some (recorded no_record (recorded d f)) ≡ Some (recorded no_record f)
    at None = refl
    at (Some l) = refl

pub record-beside : (e : Emptying) (d : Dinode) (h : Hand) → beside_emptying e (with_record e.seat d h) ≡ beside_emptying e h
record-beside e d h = at e.seat
  where
    at : (k : InodePlace) → let e : Emptying = record { seat = k; sizes = e.sizes } in beside_emptying e (with_record k d h) ≡ beside_emptying e h
    at One = λ i. record (with_buffer First None (with_buffer Second None h)) { one = set-over d h.one i }
    at Two = λ i. record (with_buffer First None (with_buffer Second None h)) { two = set-over d h.two i }
