-- What stays in hand when buffers change, and the index of the inode at a seat.
use Rattle.inode_parts.proofs.Vocabulary.{◌≡◌, ℕ, List, Option, Some, None, refl, sym, ap, ◌∙◌, subst, IsSome, MatchOption, option_map, option_map_or, Ret, GuardState, IndexState, Loaded, Inode, no_index, record_of, Hand, InodePlace, One, Two, inode_at, no_inode, number_at, indexed, with_index, number_in, record_in, IsLoadedAt, beside_index, beside_lock, without_content, Heard, carry_in, with_note, beside_inode, changed, loads, with_loaded, IsAlone, other, beside_in, IsTaken, Notes}
use Rattle.inode_parts.specs.declared.note.Note.TheVariants as note
use Rattle.inode_parts.proofs.Handing.{still_in}
use Rattle.inode_parts.proofs.Sides.{alone_still, same_beside}

loads_over : (l : Loaded) (o : Option (GuardState Inode)) → option_map (loads l) (option_map (indexed no_index) o) ≡ option_map (loads l) o
loads_over l None = refl
loads_over l (Some g) = refl

index_over : (x : IndexState) (o : Option (GuardState Inode)) → option_map (indexed x) (option_map (indexed no_index) o) ≡ option_map (indexed x) o
index_over x None = refl
index_over x (Some g) = at g.value.content
  where
    at : (c : Option Loaded) → let f : GuardState Inode = record g { value = record { number = g.value.number; content = c } } in Some (indexed x (indexed no_index f)) ≡ Some (indexed x f)
    at None = refl
    at (Some l) = refl

module _ (path : List ℕ) (m : Notes) where
  loaded_over : (k : InodePlace) (l : Loaded) (before h : Hand) → beside_index k h ≡ beside_index k before → carry_in path m (with_loaded k l before) ≡ carry_in path m (with_loaded k l h)
  loaded_over One l before h beside =
      still_in path m (with_loaded One l before) (with_loaded One l h)
      (sym (loads_over l before.one) ∙ sym (ap (λ (h : Hand). option_map (loads l) h.one) beside) ∙ loads_over l h.one) (sym (ap (λ (h : Hand). h.two) beside))
  loaded_over Two l before h beside =
      still_in path m (with_loaded Two l before) (with_loaded Two l h)
      (sym (ap (λ (h : Hand). h.one) beside)) (sym (loads_over l before.two) ∙ sym (ap (λ (h : Hand). option_map (loads l) h.two) beside) ∙ loads_over l h.two)

  pub indexed_over : (k : InodePlace) (x : IndexState) (before h : Hand) → beside_index k h ≡ beside_index k before → carry_in path m (with_index k x before) ≡ carry_in path m (with_index k x h)
  indexed_over One x before h beside =
      still_in path m (with_index One x before) (with_index One x h)
      (sym (index_over x before.one) ∙ sym (ap (λ (h : Hand). option_map (indexed x) h.one) beside) ∙ index_over x h.one) (sym (ap (λ (h : Hand). h.two) beside))
  indexed_over Two x before h beside =
      still_in path m (with_index Two x before) (with_index Two x h)
      (sym (ap (λ (h : Hand). h.one) beside)) (sym (index_over x before.two) ∙ sym (ap (λ (h : Hand). option_map (indexed x) h.two) beside) ∙ index_over x h.two)

pub changed_over : (path : List ℕ) (m : Notes) (k : InodePlace) (x : Heard) (before h : Hand) → beside_index k h ≡ beside_index k before → changed path m k x before ≡ changed path m k x h
changed_over path m k x before h beside = λ i l. Ret (record { answer = (path, x); carry = loaded_over path (with_note k note.Nothing m) k l before h beside i })

-- ---- what is at the seat, but for its index

record_under : (o : Option (GuardState Inode)) → record_of (option_map_or (λ (g : GuardState Inode). g.value) (option_map (indexed no_index) o) no_inode) ≡ record_of (option_map_or (λ (g : GuardState Inode). g.value) o no_inode)
record_under None = refl
record_under (Some g) = at g.value.content
  where
    at : (c : Option Loaded) → let v : Inode = record { number = g.value.number; content = c } in record_of (indexed no_index (record g { value = v })).value ≡ record_of v
    at None = refl
    at (Some l) = refl

number_under : (o : Option (GuardState Inode)) → (option_map_or (λ (g : GuardState Inode). g.value) (option_map (indexed no_index) o) no_inode).number ≡ (option_map_or (λ (g : GuardState Inode). g.value) o no_inode).number
number_under None = refl
number_under (Some g) = refl

loaded_under : (o : Option (GuardState Inode)) → MatchOption o ⊥ (λ g. IsSome g.value.content) → MatchOption (option_map (indexed no_index) o) ⊥ (λ g. IsSome g.value.content)
loaded_under None there = absurd there
loaded_under (Some g) there = at g.value.content there
  where
    at : (c : Option Loaded) → IsSome c → IsSome (indexed no_index (record g { value = record { number = g.value.number; content = c } })).value.content
    at None some = absurd (cc some)
    at (Some l) some = refl

loaded_over_it : (o : Option (GuardState Inode)) → MatchOption (option_map (indexed no_index) o) ⊥ (λ g. IsSome g.value.content) → MatchOption o ⊥ (λ g. IsSome g.value.content)
loaded_over_it None there = absurd there
loaded_over_it (Some g) there = at g.value.content there
  where
    at : (c : Option Loaded) → IsSome (indexed no_index (record g { value = record { number = g.value.number; content = c } })).value.content → IsSome c
    at None some = absurd (cc some)
    at (Some l) some = refl

module _ (k : InodePlace) (before h : Hand) (same : beside_index k h ≡ beside_index k before) where
  pub record_over : record_in k before ≡ record_in k h
  record_over = at k same
    where
      at : (k : InodePlace) → beside_index k h ≡ beside_index k before → record_in k before ≡ record_in k h
      at One same = sym (record_under before.one) ∙ sym (ap (record_in One) same) ∙ record_under h.one
      at Two same = sym (record_under before.two) ∙ sym (ap (record_in Two) same) ∙ record_under h.two

  locked_over : number_in k before ≡ number_in k h
  locked_over = at k same
    where
      at : (k : InodePlace) → beside_index k h ≡ beside_index k before → number_in k before ≡ number_in k h
      at One same = sym (number_under before.one) ∙ sym (ap (number_in One) same) ∙ number_under h.one
      at Two same = sym (number_under before.two) ∙ sym (ap (number_in Two) same) ∙ number_under h.two

  pub number_over : number_at k before ≡ number_at k h
  number_over = at k same
    where
      at : (k : InodePlace) → beside_index k h ≡ beside_index k before → number_at k before ≡ number_at k h
      at One same = sym (ap (number_at One) same)
      at Two same = sym (ap (number_at Two) same)

  pub other_over : inode_at (other k) before ≡ inode_at (other k) h
  other_over = at k same
    where
      at : (k : InodePlace) → beside_index k h ≡ beside_index k before → inode_at (other k) before ≡ inode_at (other k) h
      at One same = sym (ap (λ (h : Hand). h.two) same)
      at Two same = sym (ap (λ (h : Hand). h.one) same)

  still_loaded : IsLoadedAt k before → IsLoadedAt k h
  still_loaded = at k same
    where
      at : (k : InodePlace) → beside_index k h ≡ beside_index k before → IsLoadedAt k before → IsLoadedAt k h
      at One same there = loaded_over_it h.one (subst (λ (h : Hand). IsLoadedAt One h) (sym same) (loaded_under before.one there))
      at Two same there = loaded_over_it h.two (subst (λ (h : Hand). IsLoadedAt Two h) (sym same) (loaded_under before.two there))

  pub taken_stays : IsTaken k before → IsTaken k h
  taken_stays is = (
    still_loaded is.0,
    sym locked_over ∙ is.1 ∙ number_over,
    subst (λ (n : ℕ). IsAlone n k h) number_over (alone_still k before h (number_at k before) other_over is.2),
  )

  pub side_over : (path : List ℕ) (m : Notes) → beside_in path m k before ≡ beside_in path m k h
  side_over path m = same_beside path m k before h other_over

  -- beside the inode all is the same
  pub inode_over : beside_inode k h ≡ beside_inode k before
  inode_over = sym (at k h) ∙ ap (beside_inode k) same ∙ at k before
    where
      under : (o : Option (GuardState Inode)) → option_map without_content (option_map (indexed no_index) o) ≡ option_map without_content o
      under None = refl
      under (Some g) = refl

      at : (k : InodePlace) (h : Hand) → beside_inode k (beside_index k h) ≡ beside_inode k h
      at One h = λ i. record (beside_inode One h) { one = under h.one i }
      at Two h = λ i. record (beside_inode Two h) { two = under h.two i }

  pub locks_over : before.second ≡ None → h.second ≡ None → beside_lock k h ≡ beside_lock k before
  locks_over empty over = at k same
    where
      at : (k : InodePlace) → beside_index k h ≡ beside_index k before → beside_lock k h ≡ beside_lock k before
      at One same = λ i. record (same i) { one = None; second = (over ∙ sym empty) i }
      at Two same = λ i. record (same i) { two = None; second = (over ∙ sym empty) i }
