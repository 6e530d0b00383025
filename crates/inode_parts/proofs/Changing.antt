-- What is in hand after an inode was changed whose lock is in hand.
use Rattle.inode_parts.proofs.Vocabulary.{◌≡◌, ℕ, List, Bool, true, false, Option, Some, None, refl, sym, ap, ◌∙◌, subst, ◌==◌, if◌then◌else◌, IsSome, MatchOption, option_map, option_map_or, put, eq_is, Ret, GuardState, Dinode, IndexState, Loaded, Inode, loaded_of, index_of, with_index_of, Hand, InodePlace, One, Two, bare, without_record, index_at, inode_at, no_inode, indexed, recorded, with_index, with_record, beside_emptying, beside_freeing, freeing-kept, index-kept, loaded_in, record_in, without_content, IsLoadedAt, Emptying, beside_buffers, NothingMore, Had, Apart, Has, Heard, reindexed, carry_index, carry_in, had_at, had_of, with_note, changed, loads, recorded_at, with_loaded, IsAlone, locks, Note, Notes}
use Rattle.inode_parts.specs.declared.note.Note.TheVariants as note
use Rattle.inode_parts.proofs.Handing.{elsewhere, still_in}

-- a lock of inode n is one of those that equal it
same_lock : (n i : ℕ) (o : Option (GuardState Inode)) → locks n o ≡ true → locks i o ≡ (i == n)
same_lock n i None e = absurd (cc e)
same_lock n i (Some g) e = ap (λ (k : ℕ). i == k) (sym (eq_is n g.value.number e))

-- whatever is loaded
still_locks : (l : Loaded) (i : ℕ) (o : Option (GuardState Inode)) → locks i (option_map (loads l) o) ≡ locks i o
still_locks l i None = refl
still_locks l i (Some g) = refl

-- this seat has it, with so much loaded
with_it : (path : List ℕ) (l : Loaded) (i : ℕ) (o : Option (GuardState Inode)) (x : Had) → locks i o ≡ true → had_at path note.Nothing (option_map (loads l) o) i x ≡ Has l NothingMore
with_it path l i None x e = absurd (cc e)
with_it path l i (Some g) x e = ap (λ (b : Bool). if b then Has l NothingMore else x) e

-- of the inode that is had, and nothing more
pub changes : (path : List ℕ) (m : Notes) (k : InodePlace) (n : ℕ) (l : Loaded) (h : Hand) → locks n (inode_at k h) ≡ true → IsAlone n k h
    → put (carry_in path m h) n (Has l NothingMore) ≡ carry_in path (with_note k note.Nothing m) (with_loaded k l h)
unfolding put
changes path m One n l h e alone = λ j i. at i (i == n) refl j
  where
    at : (i : ℕ) (b : Bool) → (i == n) ≡ b
        → let x : Had = if b then Has l NothingMore else carry_in path m h i in x ≡ had_at path note.Nothing (option_map (loads l) h.one) i (had_at path m.two h.two i Apart)
    at i true is = sym (with_it path l i h.one (had_at path m.two h.two i Apart) (same_lock n i h.one e ∙ is))
    at i false is =
        elsewhere path m.one i h.one (had_at path m.two h.two i Apart) (same_lock n i h.one e ∙ is)
        ∙ sym (elsewhere path note.Nothing i (option_map (loads l) h.one) (had_at path m.two h.two i Apart) (still_locks l i h.one ∙ same_lock n i h.one e ∙ is))
changes path m Two n l h e alone = λ j i. at i (i == n) refl j
  where
    at : (i : ℕ) (b : Bool) → (i == n) ≡ b
        → let x : Had = if b then Has l NothingMore else carry_in path m h i in x ≡ had_at path m.one h.one i (had_at path note.Nothing (option_map (loads l) h.two) i Apart)
    at i true is =
        sym (elsewhere path m.one i h.one (had_at path note.Nothing (option_map (loads l) h.two) i Apart) (subst (λ (i : ℕ). locks i h.one ≡ false) (sym (eq_is i n is)) alone)
        ∙ with_it path l i h.two Apart (same_lock n i h.two e ∙ is))
    at i false is =
        ap (had_at path m.one h.one i) (elsewhere path m.two i h.two Apart (same_lock n i h.two e ∙ is)
        ∙ sym (elsewhere path note.Nothing i (option_map (loads l) h.two) Apart (still_locks l i h.two ∙ same_lock n i h.two e ∙ is)))

-- ---- its index alone changes

reindexes : (path : List ℕ) (m : Note) (x : IndexState) (o : Option Loaded) → had_of path m (option_map (λ (l : Loaded). record l { index = x }) o) ≡ reindexed x (had_of path m o)
reindexes path note.Nothing x None = refl
reindexes path note.Nothing x (Some l) = refl
reindexes path (note.Finds e s) x None = refl
reindexes path (note.Finds e s) x (Some l) = refl
reindexes path (note.Opened fd offset) x None = refl
reindexes path (note.Opened fd offset) x (Some l) = refl
reindexes path note.Freed x None = refl
reindexes path note.Freed x (Some l) = refl

-- this seat has it, with that index
with_index_there : (path : List ℕ) (m : Note) (x : IndexState) (i : ℕ) (o : Option (GuardState Inode)) (y z : Had) → locks i o ≡ true
    → had_at path m (option_map (indexed x) o) i y ≡ reindexed x (had_at path m o i z)
with_index_there path m x i None y z e = absurd (cc e)
with_index_there path m x i (Some g) y z e =
    ap (λ (b : Bool). if b then had_of path m (with_index_of x g.value).content else y) e
    ∙ reindexes path m x g.value.content
    ∙ sym (ap (λ (b : Bool). reindexed x (if b then had_of path m g.value.content else z)) e)

index_locks : (x : IndexState) (i : ℕ) (o : Option (GuardState Inode)) → locks i (option_map (indexed x) o) ≡ locks i o
index_locks x i None = refl
index_locks x i (Some g) = refl

pub indexes : (path : List ℕ) (m : Notes) (k : InodePlace) (n : ℕ) (x : IndexState) (h : Hand) → locks n (inode_at k h) ≡ true → IsAlone n k h
    → carry_index (carry_in path m h) n x ≡ carry_in path m (with_index k x h)
unfolding put
indexes path m One n x h e alone = λ j i. at i (i == n) refl j
  where
    there : reindexed x (carry_in path m h n) ≡ carry_in path m (with_index One x h) n
    there = sym (with_index_there path m.one x n h.one (had_at path m.two h.two n Apart) (had_at path m.two h.two n Apart) e)

    at : (i : ℕ) (b : Bool) → (i == n) ≡ b
        → let y : Had = if b then reindexed x (carry_in path m h n) else carry_in path m h i in y ≡ carry_in path m (with_index One x h) i
    at i true is = subst (λ (i : ℕ). reindexed x (carry_in path m h n) ≡ carry_in path m (with_index One x h) i) (sym (eq_is i n is)) there
    at i false is =
        elsewhere path m.one i h.one (had_at path m.two h.two i Apart) (same_lock n i h.one e ∙ is)
        ∙ sym (elsewhere path m.one i (option_map (indexed x) h.one) (had_at path m.two h.two i Apart) (index_locks x i h.one ∙ same_lock n i h.one e ∙ is))
indexes path m Two n x h e alone = λ j i. at i (i == n) refl j
  where
    there : reindexed x (carry_in path m h n) ≡ carry_in path m (with_index Two x h) n
    there =
        ap (reindexed x) (elsewhere path m.one n h.one (had_at path m.two h.two n Apart) alone)
        ∙ sym (elsewhere path m.one n h.one (had_at path m.two (option_map (indexed x) h.two) n Apart) alone ∙ with_index_there path m.two x n h.two Apart Apart e)

    at : (i : ℕ) (b : Bool) → (i == n) ≡ b
        → let y : Had = if b then reindexed x (carry_in path m h n) else carry_in path m h i in y ≡ carry_in path m (with_index Two x h) i
    at i true is = subst (λ (i : ℕ). reindexed x (carry_in path m h n) ≡ carry_in path m (with_index Two x h) i) (sym (eq_is i n is)) there
    at i false is =
        ap (had_at path m.one h.one i) (elsewhere path m.two i h.two Apart (same_lock n i h.two e ∙ is)
        ∙ sym (elsewhere path m.two i (option_map (indexed x) h.two) Apart (index_locks x i h.two ∙ same_lock n i h.two e ∙ is)))

-- ---- of a part whose hand changes beside

-- what is loaded is the same, whatever it was before
set_over : (l : Loaded) (o : Option (GuardState Inode)) → option_map (loads l) (option_map without_content o) ≡ option_map (loads l) o
set_over l None = refl
set_over l (Some g) = refl

set_same : (l : Loaded) (o r : Option (GuardState Inode)) → option_map without_content o ≡ option_map without_content r → option_map (loads l) o ≡ option_map (loads l) r
set_same l o r e = sym (set_over l o) ∙ ap (option_map (loads l)) e ∙ set_over l r

carried_beside : (path : List ℕ) (m : Notes) (e : Emptying) (l : Loaded) (before h : Hand) → beside_freeing e h ≡ beside_freeing e before
    → carry_in path m (with_loaded e.seat l before) ≡ carry_in path m (with_loaded e.seat l h)
carried_beside path m e l before h same = at e.seat same
  where
    at : (k : InodePlace) → let e : Emptying = record { seat = k; sizes = e.sizes } in beside_freeing e h ≡ beside_freeing e before → carry_in path m (with_loaded k l before) ≡ carry_in path m (with_loaded k l h)
    at One same = still_in path m (with_loaded One l before) (with_loaded One l h) (sym (set_same l h.one before.one (ap (λ (h : Hand). h.one) same))) (sym (ap (λ (h : Hand). h.two) same))
    at Two same = still_in path m (with_loaded Two l before) (with_loaded Two l h) (sym (ap (λ (h : Hand). h.one) same)) (sym (set_same l h.two before.two (ap (λ (h : Hand). h.two) same)))

-- when its index stays
pub rewritten_beside : (path : List ℕ) (m : Notes) (e : Emptying) (d : Dinode) (before h : Hand) → beside_emptying e h ≡ beside_emptying e before
    → carry_in path m (with_loaded e.seat (recorded_at e.seat before d) before) ≡ carry_in path m (with_loaded e.seat (recorded_at e.seat h d) h)
rewritten_beside path m e d before h same =
    (λ i. carry_in path m (with_loaded e.seat (record { inode = d; index = index-kept e before h (sym same) i }) before))
    ∙ carried_beside path m e (recorded_at e.seat h d) before h (freeing-kept e h before same)

-- when buffers alone change
module _ (path : List ℕ) (m : Notes) (before h : Hand) (beside : beside_buffers tt h ≡ beside_buffers tt before) where
  loaded_beside : (k : InodePlace) (l : Loaded) → carry_in path m (with_loaded k l before) ≡ carry_in path m (with_loaded k l h)
  loaded_beside One l = still_in path m (with_loaded One l before) (with_loaded One l h) (sym (ap (λ (h : Hand). option_map (loads l) h.one) beside)) (sym (ap (λ (h : Hand). h.two) beside))
  loaded_beside Two l = still_in path m (with_loaded Two l before) (with_loaded Two l h) (sym (ap (λ (h : Hand). h.one) beside)) (sym (ap (λ (h : Hand). option_map (loads l) h.two) beside))

pub changed_same : (path : List ℕ) (m : Notes) (k : InodePlace) (x : Heard) (before h : Hand) → beside_buffers tt h ≡ beside_buffers tt before → changed path m k x before ≡ changed path m k x h
changed_same path m k x before h beside = λ i l. Ret (record { answer = (path, x); carry = loaded_beside path (with_note k note.Nothing m) before h beside k l i })

pub index_same : (k : InodePlace) (before h : Hand) → beside_buffers tt h ≡ beside_buffers tt before → index_at k before ≡ index_at k h
index_same One before h beside = sym (ap (λ (h : Hand). index_at One h) beside)
index_same Two before h beside = sym (ap (λ (h : Hand). index_at Two h) beside)

-- ---- by which means it is loaded

abbrev value_of : Option (GuardState Inode) → Inode
value_of o = option_map_or (λ (g : GuardState Inode). g.value) o no_inode

-- a record is set, and the index kept
set_record : (d : Dinode) (o : Option (GuardState Inode)) → option_map (recorded d) o ≡ option_map (loads (record { inode = d; index = index_of (value_of o) })) o
set_record d None = refl
set_record d (Some g) = at g.value.content
  where
    at : (c : Option Loaded) → let v : Inode = record { number = g.value.number; content = c } in Some (recorded d (record g { value = v })) ≡ Some (loads (record { inode = d; index = index_of v }) (record g { value = v }))
    at None = refl
    at (Some l) = refl

pub record_set : (k : InodePlace) (d : Dinode) (h : Hand) → with_record k d h ≡ with_loaded k (recorded_at k h d) h
record_set One d h = λ i. record h { one = set_record d h.one i }
record_set Two d h = λ i. record h { two = set_record d h.two i }

-- an index too
set_both : (d : Dinode) (x : IndexState) (o : Option (GuardState Inode)) → MatchOption o ⊥ (λ g. IsSome g.value.content)
    → option_map (recorded d) (option_map (indexed x) o) ≡ option_map (loads (record { inode = d; index = x })) o
set_both d x None there = absurd there
set_both d x (Some g) there = at g.value.content there
  where
    at : (c : Option Loaded) → IsSome c → let v : Inode = record { number = g.value.number; content = c } in
        Some (recorded d (indexed x (record g { value = v }))) ≡ Some (loads (record { inode = d; index = x }) (record g { value = v }))
    at None some = absurd (cc some)
    at (Some l) some = refl

pub both_set : (k : InodePlace) (d : Dinode) (x : IndexState) (h : Hand) → IsLoadedAt k h → with_record k d (with_index k x h) ≡ with_loaded k (record { inode = d; index = x }) h
both_set One d x h there = λ i. record h { one = set_both d x h.one there i }
both_set Two d x h there = λ i. record h { two = set_both d x h.two there i }

-- what an inode has loaded
set_own : (o : Option (GuardState Inode)) → MatchOption o ⊥ (λ g. IsSome g.value.content) → option_map (loads (loaded_of (value_of o))) o ≡ o
set_own None there = absurd there
set_own (Some g) there = at g.value.content there
  where
    at : (c : Option Loaded) → IsSome c → let v : Inode = record { number = g.value.number; content = c } in Some (loads (loaded_of v) (record g { value = v })) ≡ Some (record g { value = v })
    at None some = absurd (cc some)
    at (Some l) some = refl

same_loaded : (k : InodePlace) (h : Hand) → IsLoadedAt k h → with_loaded k (loaded_in k h) h ≡ h
same_loaded One h there = λ i. record h { one = set_own h.one there i }
same_loaded Two h there = λ i. record h { two = set_own h.two there i }

-- its index, and its record with that
index_loaded : (v : Inode) → index_of v ≡ (loaded_of v).index
index_loaded v = at v.content
  where
    at : (c : Option Loaded) → let v : Inode = record { number = v.number; content = c } in index_of v ≡ (loaded_of v).index
    at None = refl
    at (Some l) = refl

pub index_there : (k : InodePlace) (h : Hand) → index_at k h ≡ (loaded_in k h).index
index_there One h = index_loaded (value_of h.one)
index_there Two h = index_loaded (value_of h.two)

-- so its record alone changes
pub rewrites : (path : List ℕ) (m : Notes) (k : InodePlace) (n : ℕ) (d : Dinode) (h : Hand) → locks n (inode_at k h) ≡ true → IsAlone n k h
    → put (carry_in path m h) n (Has (record { inode = d; index = (loaded_in k h).index }) NothingMore) ≡ carry_in path (with_note k note.Nothing m) (with_loaded k (recorded_at k h d) h)
rewrites path m k n d h e alone = (λ i. put (carry_in path m h) n (Has (record { inode = d; index = sym (index_there k h) i }) NothingMore)) ∙ changes path m k n (recorded_at k h d) h e alone

pub same_record : (k : InodePlace) (h : Hand) → IsLoadedAt k h → with_loaded k (recorded_at k h (record_in k h)) h ≡ h
same_record k h there = (λ i. with_loaded k (record { inode = record_in k h; index = index_there k h i }) h) ∙ same_loaded k h there

-- a record set changes nothing else
bare_set : (d : Dinode) (o : Option (GuardState Inode)) → option_map without_record (option_map (recorded d) o) ≡ option_map without_record o
bare_set d None = refl
bare_set d (Some g) = refl

pub bare_record : (k : InodePlace) (d : Dinode) (h : Hand) → bare (with_record k d h) ≡ bare h
bare_record One d h = λ i. record (bare h) { one = bare_set d h.one i }
bare_record Two d h = λ i. record (bare h) { two = bare_set d h.two i }

bare_indexed : (x : IndexState) (o : Option (GuardState Inode)) → option_map without_record (option_map (indexed x) o) ≡ option_map without_record o
bare_indexed x None = refl
bare_indexed x (Some g) = refl

pub bare_index : (k : InodePlace) (x : IndexState) (h : Hand) → bare (with_index k x h) ≡ bare h
bare_index One x h = λ i. record (bare h) { one = bare_indexed x h.one i }
bare_index Two x h = λ i. record (bare h) { two = bare_indexed x h.two i }
