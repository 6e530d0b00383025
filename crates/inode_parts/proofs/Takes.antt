-- An inode locked and looked at: the operation is its part.
use Rattle.inode_parts.proofs.Vocabulary.{◌≡◌, ℕ, List, Bool, true, false, if◌then◌else◌, Option, Some, None, refl, sym, ap, subst, ◌∙◌, ◌<◌, ◌^◌, is_some, not, IsSome, option_map, unwrap_or, put, Dinode, Loaded, Searched, Super, Version, Ret, Do, bind, plain, unmarked, Handover, bind-assoc, is_free, inode_block, load_unless, lookup, entries, inode_at, number_at, reference_at, InodePlace, Hand, lock_left, lock_loaded, lock_seat, LockInode, Sight, Take, Carry, NothingMore, Knowledge, Finds, Has, face_in, learned, number_found, search_entries, seen_record, face_of, query_in, sight_in, name_in, Element, carry_in, had_of, face_by, face_unless_free, IsAlone, seat_of_reference, IsPart, Message, beside_in, listed_ends, looked, named_ends, seen, TakeBegins, Note, Notes}
use Rattle.fs_machine.specs.Machines as code
use Rattle.fs_machine.specs.Steps as steps
use Rattle.inode_machine.specs.Inodes.{Face}
use Rattle.directory.specs.declared.found.Found.{Found}
use Rattle.inodes_on_blocks.specs.Handlers as programs
use Rattle.inodes_on_blocks.specs.Reading as handlers
use Rattle.path_walk.specs.declared.asks.Query.{Query}
use Rattle.path_walk.specs.declared.asks.Query.TheVariants as query
use Rattle.inode_parts.specs.declared.note.Note.TheVariants as note
use Rattle.inode_parts.proofs.Basics.{load_then, face_same, none_beside}
use Rattle.inode_parts.proofs.Afterwards.{then_plain}
use Rattle.inode_parts.proofs.Searched.{plain_entries, plain_lookup}

-- what is heard of it is what is answered
faces_same : (d : Dinode) → option_map face_of (face_unless_free d) ≡ (if is_free d then None else Some (face_in d))
faces_same d = by (is_free d)
  where
    by : (b : Bool) → option_map face_of (if b then None else Some (face_by d)) ≡ (if b then None else Some (face_in d))
    by true = refl
    by false = ap (λ (f : Face). Some f) (face_same d)

abbrev answers : Handover Message Carry → code.P (Handover Sight Carry)
answers r = Ret (record { answer = sight_in r.answer.1; carry = r.carry })

module _ (v : Version) (path : List ℕ) (c : Carry) (n : ℕ) where
  -- and what is learned is noted so
  seen_so : (l : Loaded) (m : Note) (k : Knowledge) (found : Option ℕ) (empty : Bool) → had_of path m (Some l) ≡ Has l k → plain (seen_record c n l k found empty) ≡ bind (seen path c n l m found empty) answers
  seen_so l m k found empty e = λ i. Ret (record { answer = record { face = sym (faces_same l.inode) i; found = found; empty = empty }; carry = put c n (sym e i) })

  -- its index is as the search left it
  abbrev named : Loaded → Element → Searched → programs.P (Handover Sight Carry)
  named l e o = seen_record c n (record l { index = o.index }) (learned (name_in path e) o.found) (number_found o.found) true

  abbrev listed : Loaded → Searched → programs.P (Handover Sight Carry)
  listed l o = seen_record c n (record l { index = o.index }) NothingMore None (not (is_some o.found))

  named_so : (l : Loaded) (e : Element) (o : Searched) → plain (named l e o) ≡ bind (named_ends path c n l e o) answers
  named_so l e o = at o.found
    where
      at : (f : Option Found) → let o : Searched = record { found = f; index = o.index } in plain (named l e o) ≡ bind (named_ends path c n l e o) answers
      at None = seen_so (record l { index = o.index }) note.Nothing NothingMore None true refl
      at (Some f) = seen_so (record l { index = o.index }) (note.Finds e f.slot) (Finds (name_in path e) f.slot) (Some f.number) true refl

  looked_so : (q : Query) (l : Loaded) → plain (handlers.looked v (query_in path q) c n l) ≡ bind (looked v path q c n l) answers
  looked_so query.Nothing l = seen_so l note.Nothing NothingMore None true refl
  looked_so (query.Name e) l =
      then_plain (lookup v (name_in path e) l) (lookup v (name_in path e) l) (named l e) (λ o. bind (named_ends path c n l e o) answers) (plain_lookup v (name_in path e) l) (named_so l e)
      ∙ sym (bind-assoc (lookup v (name_in path e) l) (named_ends path c n l e) answers)
  looked_so query.Entries l =
      then_plain (search_entries v l) (entries v l) (listed l) (λ o. bind (listed_ends path c n l o) answers) (plain_entries v l) (λ o. seen_so (record l { index = o.index }) note.Nothing NothingMore None (not (is_some o.found)) refl)
      ∙ sym (bind-assoc (entries v l) (listed_ends path c n l) answers)

-- once its lock is taken, by whichever reference
pub locked_is_part : (sizes : Super) (path : List ℕ) (m : Notes) (n : ℕ) (q : Query) (h : Hand) (k : InodePlace) (p : code.P Loaded) (j : ℕ) → p ≡ lock_loaded sizes.inodestart n → j ≡ n → inode_at k h ≡ None
    → IsPart sizes (carry_in path m h) (Take n (query_in path q)) (bind p (looked sizes.version path q (beside_in path m k h) j))
locked_is_part sizes path m n q h k p j program named free =
    let c : Carry = beside_in path m k h in
    subst (λ (b : Carry). IsPart sizes b (Take n (query_in path q)) (bind p (looked sizes.version path q c j))) (sym (none_beside path m h k free))
    (subst (λ (j : ℕ). IsPart sizes c (Take n (query_in path q)) (bind p (looked sizes.version path q c j))) (sym named)
    (subst (λ (p : code.P Loaded). IsPart sizes c (Take n (query_in path q)) (bind p (looked sizes.version path q c n))) (sym program)
    (λ mark i. Do (steps.Lock n) unmarked (λ content. loads c content i))))
  where
    loads : (c : Carry) (content : Option Loaded) → plain (bind (load_unless sizes.inodestart n content) (handlers.looked sizes.version (query_in path q) c n)) ≡ bind (bind (load_unless sizes.inodestart n content) (looked sizes.version path q c n)) answers
    loads c content =
        load_then sizes.inodestart n content (handlers.looked sizes.version (query_in path q) c n) (λ l. bind (looked sizes.version path q c n l) answers) (λ l. looked_so sizes.version path c n q l)
        ∙ sym (bind-assoc (load_unless sizes.inodestart n content) (looked sizes.version path q c n) answers)

pub take_is_part : (sizes : Super) (path : List ℕ) (m : Notes) (n : ℕ) (q : Query) (h : Hand) (r : LockInode) → lock_left r h ≡ lock_loaded sizes.inodestart n → number_at (lock_seat r) h ≡ n → inode_at (lock_seat r) h ≡ None
    → IsPart sizes (carry_in path m h) (Take n (query_in path q)) (bind (lock_left r h) (looked sizes.version path q (beside_in path m (lock_seat r) h) (number_at (lock_seat r) h)))
take_is_part sizes path m n q h r program named free = locked_is_part sizes path m n q h (lock_seat r) (lock_left r h) (number_at (lock_seat r) h) program named free

-- ---- what its routine asks of the hand

pub take_asks : (sizes : Super) (n : ℕ) (k l : InodePlace) (h : Hand) → k ≡ seat_of_reference n h → l ≡ k → TakeBegins sizes n h
    → IsSome (reference_at k h) × (inode_at k h ≡ None) × (inode_block sizes.inodestart (number_at k h) < 2 ^ 32) × (number_at l h ≡ n) × (inode_at l h ≡ None) × IsAlone (number_at l h) l h
take_asks sizes n k l h is at begins =
    let there : reference_at k h ≡ Some n = subst (λ (k : InodePlace). reference_at k h ≡ Some n) (sym is) begins.0 in
    let free : inode_at k h ≡ None = subst (λ (k : InodePlace). inode_at k h ≡ None) (sym is) begins.1 in
    let alone : IsAlone n k h = subst (λ (k : InodePlace). IsAlone n k h) (sym is) begins.2 in
    let named : number_at k h ≡ n = ap (λ (o : Option ℕ). unwrap_or o 0) there in
    let named_there : number_at l h ≡ n = (λ i. number_at (at i) h) ∙ named in (
      ap (λ (o : Option ℕ). is_some o) there,
      free,
      subst (λ (n : ℕ). inode_block sizes.inodestart n < 2 ^ 32) (sym named) begins.4,
      named_there,
      subst (λ (k : InodePlace). inode_at k h ≡ None) (sym at) free,
      subst (λ (n : ℕ). IsAlone n l h) (sym named_there) (subst (λ (k : InodePlace). IsAlone n k h) (sym at) alone),
    )
