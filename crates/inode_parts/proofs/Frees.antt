-- How an inode is freed, as a part.
use Rattle.inode_parts.proofs.Vocabulary.{◌≡◌, ℕ, List, Option, Some, None, refl, sym, ap, subst, ◌∙◌, IsSome, MatchOption, option_map, option_map_or, Ret, bind, put, GuardState, Inode, Goes, inode_at, inode_in, no_inode, Hand, InodePlace, One, Two, beside_freeing, freeing_left, freeing_of, IsUnloadedAt, number_in, without_content, FreeInode, Emptying, goes_to, goes_with, number-kept, Emptied, carry_in, handed, had_of, with_note, free_ends, IsAlone, other, Part, beside_in, Notes}
use Rattle.fs_machine.specs.Steps as steps
use Rattle.path_walk.specs.declared.asks.Heard.TheVariants as heard
use Rattle.inode_parts.specs.declared.note.Note.TheVariants as note
use Rattle.inode_parts.proofs.Basics.{alone_still, held_beside, same_beside}

-- while an inode is emptied the other seat stays
other_kept : (e : Emptying) (before h : Hand) → beside_freeing e h ≡ beside_freeing e before → inode_at (other e.seat) before ≡ inode_at (other e.seat) h
other_kept e before h same = sym (at e.seat before) ∙ sym (ap (inode_at (other e.seat)) same) ∙ at e.seat h
  where
    at : (k : InodePlace) (h : Hand) → inode_at (other k) (beside_freeing (record { seat = k; sizes = e.sizes }) h) ≡ inode_at (other k) h
    at One h = refl
    at Two h = refl

module _ (e : Emptying) (before h : Hand) (same : beside_freeing e h ≡ beside_freeing e before) where
  number_same : number_in e.seat before ≡ number_in e.seat h
  number_same = sym (number-kept e h before same)

  pub ends_same : (path : List ℕ) (m : Notes) → free_ends path (beside_in path m e.seat before) (number_in e.seat before) ≡ free_ends path (beside_in path m e.seat h) (number_in e.seat h)
  ends_same path m = λ i. free_ends path (same_beside path m e.seat before h (other_kept e before h same) i) (number_same i)

  pub there_still : IsSome (inode_at e.seat before) → IsSome (inode_at e.seat h)
  there_still there = at e.seat (ap (inode_at e.seat) same) there
    where
      some : (o p : Option (GuardState Inode)) → option_map without_content p ≡ option_map without_content o → IsSome o → IsSome p
      some o None e is = absurd (at_none o e is)
        where
          at_none : (o : Option (GuardState Inode)) → None ≡ option_map without_content o → IsSome o → ⊥
          at_none None e is = absurd (cc is)
          at_none (Some g) e is = absurd (cc e)
      some o (Some g) e is = refl

      at : (k : InodePlace) → let d : Emptying = record { seat = k; sizes = e.sizes } in inode_at k (beside_freeing d h) ≡ inode_at k (beside_freeing d before) → IsSome (inode_at k before) → IsSome (inode_at k h)
      at One e is = some before.one h.one e is
      at Two e is = some before.two h.two e is

  pub alone_so : IsAlone (number_in e.seat before) e.seat before → IsAlone (number_in e.seat h) e.seat h
  alone_so alone = subst (λ (n : ℕ). IsAlone n e.seat h) number_same (alone_still e.seat before h (number_in e.seat before) (other_kept e before h same) alone)

-- nothing is loaded of it
unloaded_in : (k : InodePlace) (h : Hand) → IsUnloadedAt k h → (inode_in k h).content ≡ None
unloaded_in One h is = unloaded h.one is
  where
    unloaded : (o : Option (GuardState Inode)) → MatchOption o ⊥ (λ g. g.value.content ≡ None) → (option_map_or (λ (g : GuardState Inode). g.value) o no_inode).content ≡ None
    unloaded None is = refl
    unloaded (Some g) is = is
unloaded_in Two h is = unloaded h.two is
  where
    unloaded : (o : Option (GuardState Inode)) → MatchOption o ⊥ (λ g. g.value.content ≡ None) → (option_map_or (λ (g : GuardState Inode). g.value) o no_inode).content ≡ None
    unloaded None is = refl
    unloaded (Some g) is = is

module _ (path : List ℕ) (m : Notes) (k : InodePlace) (f : FreeInode) (before h : Hand) (answer : (o : steps.Op) → steps.Answer o) (at : (freeing_of f).seat ≡ k) (same : beside_freeing (freeing_of f) h ≡ beside_freeing (freeing_of f) before) where
  abbrev ends : Hand → Unit {0} → Part
  ends h = free_ends path (beside_in path m k h) (number_in k h)

  ends_on : ends before ≡ ends h
  ends_on = subst (λ (k : InodePlace). free_ends path (beside_in path m k before) (number_in k before) ≡ free_ends path (beside_in path m k h) (number_in k h)) at (ends_same (freeing_of f) before h same path m)

  -- it goes on
  pub free_on : (g : FreeInode) → Goes (freeing_left f before) answer (freeing_left g h) → Goes (bind (freeing_left f before) (ends before)) answer (bind (freeing_left g h) (ends h))
  free_on g goes = goes_with (freeing_left f before) (freeing_left g h) (ends before) (ends h) answer ends_on goes

  pub free_stays : (g : FreeInode) → freeing_of g ≡ freeing_of f → IsSome (inode_at k before) → IsAlone (number_in k before) k before → ((freeing_of g).seat ≡ k) × IsSome (inode_at k h) × IsAlone (number_in k h) k h
  free_stays g about there alone = (
    ap (λ (e : Emptying). e.seat) about ∙ at,
    subst (λ (k : InodePlace). IsSome (inode_at k before) → IsSome (inode_at k h)) at (there_still (freeing_of f) before h same) there,
    subst (λ (k : InodePlace). IsAlone (number_in k before) k before → IsAlone (number_in k h) k h) at (alone_so (freeing_of f) before h same) alone,
  )

  -- it is over
  pub free_over : (m2 : Notes) → m2 ≡ with_note k note.Freed m → IsSome (inode_at k before) → IsAlone (number_in k before) k before → IsUnloadedAt (freeing_of f).seat h → Goes (freeing_left f before) answer (Ret tt)
      → Goes (bind (freeing_left f before) (ends before)) answer (Ret (handed path m2 heard.WasDone h))
  free_over m2 noted there alone unloaded goes =
      let still = free_stays f refl there alone in
      let empty : (inode_in k h).content ≡ None = unloaded_in k h (subst (λ (k : InodePlace). IsUnloadedAt k h) at unloaded) in
      let had : put (beside_in path m k h) (number_in k h) Emptied ≡ carry_in path m2 h =
      (λ i. put (beside_in path m k h) (number_in k h) (had_of path note.Freed (sym empty i))) ∙ held_beside path m h k note.Freed still.1 still.2 ∙ ap (λ (m : Notes). carry_in path m h) (sym noted)
      in
      goes_to (bind (freeing_left f before) (ends before)) (ends h tt) (Ret (handed path m2 heard.WasDone h)) answer
      (goes_with (freeing_left f before) (Ret tt) (ends before) (ends h) answer ends_on goes)
      (λ i. Ret (record { answer = (path, heard.WasDone); carry = had i }))
