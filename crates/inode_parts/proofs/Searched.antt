-- A directory searched, without marks.
use Rattle.inode_parts.proofs.Vocabulary.{◌≡◌, ℕ, Bool, true, false, if◌then◌else◌, List, None, refl, Loaded, Searched, Version, Ret, plain, Entry, Named, is_directory, is_live_directory, lookup, search, entries, Acts, search_entries}
use Rattle.inode_parts.proofs.PlainContents.{plain_search}

abbrev none : Loaded → Searched
none l = record { found = None; index = l.index }

pub plain_lookup : (v : Version) (name : List ℕ) (l : Loaded) → plain (lookup {M = Acts} v name l) ≡ lookup v name l
plain_lookup v name l = by (is_live_directory l.inode)
  where
    by : (b : Bool) → plain (if b then search {M = Acts} v (Named name) l else Ret (none l)) ≡ (if b then search v (Named name) l else Ret (none l))
    by true = plain_search v (Named name) l
    by false = refl

pub plain_entries : (v : Version) (l : Loaded) → plain (search_entries v l) ≡ entries v l
plain_entries v l = by (is_directory l.inode)
  where
    by : (b : Bool) → plain (if b then search {M = Acts} v Entry l else Ret (none l)) ≡ (if b then search v Entry l else Ret (none l))
    by true = plain_search v Entry l
    by false = refl
