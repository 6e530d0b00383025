-- What a search finds.
use Rattle.directory.proofs.Vocabulary.{Version, ◌≡◌, ℕ, zero, suc, ◌+◌, ◌-◌, List, [], ◌++◌, Option, Some, None, refl, sym, ap, ◌∙◌, arith, append_assoc, subst, slice_index, numbers_in, Dinode, Ret, Do, bind, P, fetch, read_unless, Get, Oracle, outcome, recorded, recording, Address, Direct, InTable, address, table_of, FetchedBlock, fetch_at, fetch_block, fetch_named, fetch_number, give_fetched, Found, IndexState, IsIndex, first_of, raised, Aim, Searched, block_count, slot_count, found_in, look_at, or_next, search_from, Shows, IsFirst, FindsTheFirst, FindsNothingInTheDead}
use Rattle.directory.proofs.Indexed.{else_searched, searched_from, searched_right}

-- ---- one program after the other

module _ (answer : Oracle) where
  record Later {A B : Type 0} (n : ℕ) (p : P A) (f : A → P B) : Type 0 where
    at : ℕ
    ends : outcome answer n (bind p f) ≡ outcome answer at (f (outcome answer n p))
    records : recorded answer n (bind p f) ≡ recorded answer n p ++ recorded answer at (f (outcome answer n p))

  later : {A B : Type 0} (n : ℕ) (p : P A) (f : A → P B) → Later n p f
  later n (Ret a) f = record { at = n; ends = refl; records = refl }
  later n (Do op m k) f =
      let r = later (n + 1) (k (answer n op)) f in
      record {
        at = r.at;
        ends = r.ends;
        records = ap (λ xs. recording op ++ xs) r.records ∙ sym (append_assoc (recording op) (recorded answer (n + 1) (k (answer n op))) (recorded answer r.at (f (outcome answer (n + 1) (k (answer n op))))));
      }

  silent : {A B : Type 0} (n : ℕ) (p : P A) (f : A → P B) → recorded answer n p ≡ [] → ((m : ℕ) (a : A) → recorded answer m (f a) ≡ []) → recorded answer n (bind p f) ≡ []
  silent n p f none each =
      let r = later n p f in
      r.records ∙ rw (none, each r.at (outcome answer n p)) refl

  fetch-silent : (n b : ℕ) → let p : P (List ℕ) = fetch b in recorded answer n p ≡ []
  fetch-silent n b = at (answer n (Get b))
    where
      at : (o : Option (List ℕ)) → let p : P (List ℕ) = read_unless b o in recorded answer (n + 1) p ≡ []
      at (Some bytes) = refl
      at None = refl

  number-silent : (n b : ℕ) → let p : P FetchedBlock = fetch_number b in recorded answer n p ≡ []
  number-silent n b = silent n (fetch b) (give_fetched b) (fetch-silent n b) (λ m bytes. refl)

  at-silent : (n : ℕ) (d : Dinode) (a : Address) → let p : P FetchedBlock = fetch_at d a in recorded answer n p ≡ []
  at-silent n d (Direct i) = number-silent n (slice_index d.addrs i)
  at-silent n d (InTable i) =
      silent n (fetch (table_of d)) (fetch_named (table_of d) i) (fetch-silent n (table_of d)) (λ m bytes. number-silent (m + 1) (slice_index (numbers_in bytes) i))

-- ---- a search

module _ (v : Version) (content : ℕ → List ℕ) (aim : Aim) (answer : Oracle) (d : Dinode) (shows : Shows v answer d content) where
  -- a program finds this, and records nothing
  abbrev Finds : ℕ → P Searched → Searched → Type 0
  Finds m p o = (outcome answer m p ≡ o) × (recorded answer m p ≡ [])

  or_behind : (m : ℕ) (here : Option Found) (x : IndexState) (next : IndexState → P Searched) (behind : IndexState → Searched)
      → ((n : ℕ) (y : IndexState) → Finds n (next y) (behind y)) → Finds m (or_next here x next) (else_searched here x behind)
  or_behind m (Some f) x next behind rest = (refl, refl)
  or_behind m None x next behind rest = rest m x

  from : (n k : ℕ) → n ≡ block_count v d - k → (m : ℕ) (x : IndexState) → Finds m (search_from v n aim d k x) (searched_from v n aim d content k x)
  unfolding search_from searched_from
  from zero k e m x = (refl, refl)
  from (suc n) k e m x =
      let p : P FetchedBlock = fetch_block d k in
      let next : IndexState → P Searched = search_from v n aim d (k + 1) in
      let r = later answer m p (look_at v aim d k x next) in
      let same : (outcome answer m p).bytes ≡ content k = shows m k (omega arith) in
      let there = or_behind (r.at + 1) (found_in v aim d k (content k)) (raised v d k (content k) x) next (searched_from v n aim d content (k + 1)) (λ i y. from n (k + 1) (omega arith) i y) in (
        r.ends ∙ ap (λ (bytes : List ℕ). outcome answer (r.at + 1) (or_next (found_in v aim d k bytes) (raised v d k bytes x) next)) same ∙ there.0,
        r.records ∙ ap (λ xs. xs ++ recorded answer r.at (look_at v aim d k x next (outcome answer m p))) (at-silent answer m d (address k))
            ∙ ap (λ (bytes : List ℕ). recorded answer (r.at + 1) (or_next (found_in v aim d k bytes) (raised v d k bytes x) next)) same ∙ there.1,
      )

pub dead_finds : FindsNothingInTheDead
dead_finds v name d dead = rw dead refl

pub finds_first : FindsTheFirst
finds_first v answer l content slots aim shows are right =
    let d : Dinode = l.inode in
    let x : IndexState = l.index in
    let next : IndexState → P Searched = search_from v (block_count v d - x.blocks) aim d x.blocks in
    let found = or_behind v content aim answer d shows 0 (first_of v aim d x) x next (searched_from v (block_count v d - x.blocks) aim d content x.blocks)
    (λ m y. from v content aim answer d shows (block_count v d - x.blocks) x.blocks refl m y) in
    let is = searched_right v content l slots are right aim in (
      subst (λ (s : Searched). IsFirst aim slots (slot_count v d) s.found) (sym found.0) is.0,
      subst (λ (s : Searched). IsIndex v s.index slots) (sym found.0) is.1,
      found.1,
    )
