-- What is left in hand of an inode that is taken, and what was seen in it.
use Rattle.inode_parts.proofs.Vocabulary.{◌≡◌, ℕ, List, [], true, Option, Some, None, sym, ap, subst, ◌∙◌, ◌<◌, ◌^◌, IsSome, IfSome, option_map, unwrap_or, same_self, IsSlot, Found, number_at, Hand, InodePlace, Version, beside_index, beside_lock, SearchReady, Search, Fetching, Giving, AtEntries, AtName, AtNothing, number_found, answer_to, face_of, sight_in, name_in, Face, Heard, Element, having, note_at, with_note, HasFound, Comes, CameTo, IsCounted, Learns, LearnsBy, Leaves, HasReference, IsAlone, other, seat_of_lock, seat_of_reference, note_of, IsTaken, Sees, Note, Notes}
use Rattle.inode_machine.specs.Inodes as whole
use Rattle.inode_machine.specs.World.{Take}
use Rattle.path_walk.specs.declared.asks.Heard.TheVariants as heard
use Rattle.inode_parts.proofs.Basics.{locks_over}
use Rattle.inode_parts.proofs.Coming.{came, its_seat, noted_apart, noted_there}
use Rattle.inode_parts.proofs.Taking.{number_same}

-- ---- while it is searched

search_second : (v : Version) (k : InodePlace) (s : Search) (h : Hand) → SearchReady v k s h → h.second ≡ None
search_second v k (Fetching at m) h ready = ready.1.2
search_second v k (Giving at found) h ready = ready.3

pub comes_on_search : (v : Version) (k : InodePlace) (s : Search) (start before h : Hand) → SearchReady v k s before → h.second ≡ None → beside_index k h ≡ beside_index k before → Comes k start before → Comes k start h
comes_on_search v k s start before h ready over same comes = (comes.0, comes.1, locks_over k before h same (search_second v k s before ready) over ∙ comes.2)

pub comes_between : (v : Version) (k : InodePlace) (s t : Search) (start before h : Hand) → SearchReady v k s before → SearchReady v k t h → beside_index k h ≡ beside_index k before → Comes k start before → Comes k start h
comes_between v k s t start before h ready then same comes = comes_on_search v k s start before h ready (search_second v k t h then) same comes

-- ---- what was seen

pub counted_face : (o : Option Face) → IfSome o (λ (f : Face). f.count < 2 ^ 15) → IfSome (option_map face_of o) (λ (f : whole.Face). f.count < 2 ^ 15)
counted_face None few = few
counted_face (Some f) few = few

not_found : (o : Option ℕ) → IsSome o → o ≡ None → ⊥
not_found None is e = cc is
not_found (Some n) is e = cc e

module _ (v : Version) (path : List ℕ) (k : InodePlace) (x : Heard) (m m2 : Notes) (counted : IsCounted (sight_in x)) where
  apart : (l : Note) → m2 ≡ with_note k l m → note_at (other k) m2 ≡ note_at (other k) m
  apart l noted = ap (note_at (other k)) noted ∙ noted_apart k l m

  pub sees_nothing : (l : Note) → m2 ≡ with_note k l m → Sees v path AtNothing k x m m2
  sees_nothing l noted = (counted, apart l noted, tt)

  pub sees_entries : (l : Note) → m2 ≡ with_note k l m → Sees v path AtEntries k x m m2
  sees_entries l noted = (counted, apart l noted, tt)

  module _ (e : Element) (face : Option Face) where
    finds : (o : Option Found) → IsSlot v o → x ≡ heard.Saw (record { face = face; found = number_found o; empty = true }) → m2 ≡ with_note k (note_of e o) m
        → IsSome (sight_in x).found → HasFound v path (name_in path e) (note_at k m2)
    finds None slot saw noted is = absurd (not_found (sight_in x).found is (ap (λ (x : Heard). (sight_in x).found) saw))
    finds (Some f) slot saw noted is =
        subst (λ (l : Note). HasFound v path (name_in path e) l) (sym (ap (note_at k) noted ∙ noted_there k (note_of e (Some f)) m)) (same_self (name_in path e), slot)

    pub sees_name : (o : Option Found) → IsSlot v o → x ≡ heard.Saw (record { face = face; found = number_found o; empty = true }) → m2 ≡ with_note k (note_of e o) m → Sees v path (AtName (name_in path e)) k x m m2
    sees_name o slot saw noted = (counted, apart (note_of e o) noted, finds o slot saw noted)

-- ---- what is left

number_kept : (k : InodePlace) (n : ℕ) (start h : Hand) → k ≡ seat_of_reference n start → HasReference n start → beside_lock k h ≡ beside_lock k start → number_at k h ≡ n
number_kept k n start h at has same =
    sym (number_same k start h same) ∙ ap (λ (k : InodePlace). number_at k start) at ∙ ap (λ (o : Option ℕ). unwrap_or o 0) has

-- what comes of a lock at a seat beside which all is as it was, and of what was seen there
pub taken_leaves : (v : Version) (path : List ℕ) (m m2 : Notes) (n : ℕ) (looking : whole.Query) (start from : Hand) (k : InodePlace) (h : Hand) (x : Heard) → number_at k h ≡ n → Comes k from h
    → IsTaken k h → h.first ≡ None → Sees v path looking k x m m2 → CameTo k n from h × LearnsBy v path n looking (sight_in x) (having start m) (having h m2)
taken_leaves v path m m2 n looking start from k h x kept comes taken over sees =
    let named = taken.1 ∙ kept in
    let seat = its_seat n k h taken.0 named (subst (λ (i : ℕ). IsAlone i k h) kept taken.2) in
    let back : k ≡ seat_of_lock n h = sym seat in (
      came k n from h comes over taken.0 named,
      (subst (λ (k : InodePlace). note_at (other k) m2 ≡ note_at (other k) m) back sees.1, subst (λ (k : InodePlace). Learns v path looking (sight_in x) (note_at k m2)) back sees.2),
    )

pub take_leaves : (v : Version) (path : List ℕ) (m m2 : Notes) (n : ℕ) (looking : whole.Query) (start : Hand) (k : InodePlace) (h : Hand) (x : Heard) → HasReference n start → k ≡ seat_of_reference n start → Comes k start h
    → IsTaken k h → h.first ≡ None → Sees v path looking k x m m2 → Leaves v path (Take n looking) (answer_to [] (Take n looking) x) (having start m) (having h m2)
take_leaves v path m m2 n looking start k h x has at comes taken over sees =
    let left = taken_leaves v path m m2 n looking start start k h x (number_kept k n start h at has comes.2) comes taken over sees in
    ((((λ is. subst (λ (k : InodePlace). CameTo k n start h) at left.0), (λ none. absurd (none has))), sees.0), left.1)
