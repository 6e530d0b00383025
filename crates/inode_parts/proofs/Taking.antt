-- How an inode that is taken is looked at.
use Rattle.inode_parts.proofs.Vocabulary.{◌≡◌, ℕ, List, Option, Some, None, true, false, refl, sym, ap, subst, ◌∙◌, Bool, Dinode, Loaded, Searched, Version, Ret, bind, P, Aim, Goes, number_at, Hand, InodePlace, One, Two, index_at, loaded_in, record_in, beside_index, beside_lock, HasLocked, goes_to, goes_with, search_left, Search, Carry, Heard, carry_in, handed, with_note, face_unless_free, IsAlone, Part, beside_in, seen, IsTaken, Note, Notes, TakePart, take_left, left_after}
use Rattle.std.specs.Prelude.{IfNone}
use Rattle.inode_parts.specs.Takes.{begun_if, taken_left}
use Rattle.inode_parts.specs.Vocabulary.{IfBegun}
use Rattle.inode_parts.specs.Leaving.{heard_if}
use Rattle.fs_machine.specs.Steps as steps
use Rattle.path_walk.specs.declared.asks.Heard.TheVariants as heard
use Rattle.inode_parts.proofs.Basics.{had_now, index_there, lock_on, lock_over, number_over, other_stays, alone_still, record_over, side_over}

-- ---- while it is locked the reference stays

pub number_same : (k : InodePlace) (before h : Hand) → beside_lock k h ≡ beside_lock k before → number_at k before ≡ number_at k h
number_same One before h same = sym (ap (number_at One) same)
number_same Two before h same = sym (ap (number_at Two) same)

pub alone_locked : (k l : InodePlace) (before h : Hand) → l ≡ k → beside_lock k h ≡ beside_lock k before → IsAlone (number_at k before) k before → IsAlone (number_at l h) l h
alone_locked k l before h is same alone =
    subst (λ (l : InodePlace). IsAlone (number_at l h) l h) (sym is)
    (subst (λ (n : ℕ). IsAlone n k h) (number_same k before h same) (alone_still k before h (number_at k before) (other_stays k before h same) alone))

pub is_taken : (k l : InodePlace) (before h : Hand) → l ≡ k → beside_lock k h ≡ beside_lock k before → IsAlone (number_at k before) k before → HasLocked l h → IsTaken l h
is_taken k l before h is same alone has = (has.0, has.1, alone_locked k l before h is same alone)

-- then this is said of it
module _ (ends : Carry → ℕ → Loaded → Part) (path : List ℕ) (m : Notes) (k : InodePlace) (before h : Hand) (p : P Loaded) (answer : (o : steps.Op) → steps.Answer o) (same : beside_lock k h ≡ beside_lock k before) where
  pub take_on : (l : InodePlace) (r : P Loaded) → l ≡ k → Goes p answer r
      → Goes (bind p (ends (beside_in path m k before) (number_at k before))) answer (bind r (ends (beside_in path m l h) (number_at l h)))
  take_on l r at goes =
      goes_to (bind p (ends (beside_in path m k before) (number_at k before))) (bind r (ends (beside_in path m l h) (number_at k before))) (bind r (ends (beside_in path m l h) (number_at l h))) answer
      (lock_on (λ c. ends c (number_at k before)) path m k before h p answer same l r at goes)
      (λ i. bind r (ends (beside_in path m l h) ((number_same k before h same ∙ (λ j. number_at (sym at j) h)) i)))

  pub take_over : (l : InodePlace) (r : Part) → l ≡ k → ends (beside_in path m l h) (number_at l h) (loaded_in l h) ≡ r → Goes p answer (Ret (loaded_in l h)) → Goes (bind p (ends (beside_in path m k before) (number_at k before))) answer r
  take_over l r at e goes =
      lock_over (λ c. ends c (number_at k before)) path m k before h p answer same (loaded_in l h) r
      ((λ i. ends (beside_in path m (sym at i) h) ((number_same k before h same ∙ (λ j. number_at (sym at j) h)) i) (loaded_in l h)) ∙ e) goes

-- ---- while it is searched all stays but the buffers, and its index

-- the ends count the index that the search left alone
module _ (v : Version) (ends : Carry → ℕ → Dinode → Searched → Part) (path : List ℕ) (m : Notes) (k : InodePlace) (before h : Hand) (aim : Aim) (s : Search) (answer : (o : steps.Op) → steps.Answer o) (same : beside_index k h ≡ beside_index k before) where
  abbrev at : Hand → Searched → Part
  at h = ends (beside_in path m k h) (number_at k h) (record_in k h)

  at_same : at before ≡ at h
  at_same = λ i. ends (side_over k before h same path m i) (number_over k before h same i) (record_over k before h same i)

  pub search_on : (t : Search) → Goes (search_left v aim k s before) answer (search_left v aim k t h) → Goes (bind (search_left v aim k s before) (at before)) answer (bind (search_left v aim k t h) (at h))
  search_on t goes = goes_with (search_left v aim k s before) (search_left v aim k t h) (at before) (at h) answer at_same goes

  pub search_over : (o : Searched) (r : Part) → at h o ≡ r → Goes (search_left v aim k s before) answer (Ret o) → Goes (bind (search_left v aim k s before) (at before)) answer r
  search_over o r e goes =
      goes_to (bind (search_left v aim k s before) (at before)) (at h o) r answer (goes_with (search_left v aim k s before) (Ret o) (at before) (at h) answer at_same goes) e

-- ---- what was seen

pub seen_ends : (path : List ℕ) (m m2 : Notes) (k : InodePlace) (h : Hand) (l : Note) (d : Dinode) (found : Option ℕ) (empty : Bool) (x : Heard) → d ≡ record_in k h → IsTaken k h
    → x ≡ heard.Saw (record { face = face_unless_free d; found = found; empty = empty }) → m2 ≡ with_note k l m → seen path (beside_in path m k h) (number_at k h) (loaded_in k h) l found empty ≡ Ret (handed path m2 x h)
seen_ends path m m2 k h l d found empty x is taken heard_so noted =
    λ i. Ret (record {
      answer = (path, (ap (λ (d : Dinode). heard.Saw (record { face = face_unless_free d; found = found; empty = empty })) (sym is) ∙ sym heard_so) i);
      carry = (had_now path m k h l (number_at k h) taken.0 taken.1 taken.2 ∙ ap (λ (m : Notes). carry_in path m h) (sym noted)) i;
    })

-- .. with the index in hand
pub seen_over : (path : List ℕ) (m m2 : Notes) (k : InodePlace) (h : Hand) (l : Note) (d : Dinode) (found : Option ℕ) (empty : Bool) (x : Heard) → d ≡ record_in k h → IsTaken k h
    → x ≡ heard.Saw (record { face = face_unless_free d; found = found; empty = empty }) → m2 ≡ with_note k l m
    → seen path (beside_in path m k h) (number_at k h) (record { inode = record_in k h; index = index_at k h }) l found empty ≡ Ret (handed path m2 x h)
seen_over path m m2 k h l d found empty x is taken heard_so noted =
    (λ i. seen path (beside_in path m k h) (number_at k h) (record { inode = record_in k h; index = index_there k h i }) l found empty)
    ∙ seen_ends path m m2 k h l d found empty x is taken heard_so noted

-- ---- begun, or seen at once

pub left_begun : (path : List ℕ) (m : Notes) (r : Bool) (p : TakePart) (x : Heard) (h : Hand) → taken_left path m (begun_if r p x) h ≡ left_after (take_left path m) (handed path m) (heard_if r x) p h
left_begun path m true p x h = refl
left_begun path m false p x h = refl

pub still_begun : (r : Bool) (p : TakePart) (x : Heard) (On : TakePart → Type 0) → IfBegun On (λ _. Unit {0}) (begun_if r p x) → IfNone (heard_if r x) (On p)
still_begun true p x On on = tt
still_begun false p x On on = on

pub begun_so : (r : Bool) (p : TakePart) (x : Heard) (On : TakePart → Type 0) (Over : Heard → Type 0) (Q : Option Heard → Type 0) → IfBegun On (λ _. Unit {0}) (begun_if r p x) → IfBegun (λ _. Unit {0}) Over (begun_if r p x)
    → (On p → Q None) → (Over x → Q (Some x)) → Q (heard_if r x)
begun_so true p x On Over Q on over goes_on ends = ends over
begun_so false p x On Over Q on over goes_on ends = goes_on on
