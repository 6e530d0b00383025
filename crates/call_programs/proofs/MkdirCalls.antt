-- Mkdir asks so.
use Rattle.call_programs.proofs.Vocabulary.{◌⊎◌, NoEntry, MemInodes, DiskInodes, Blocks, DirectoryFull, done, failed, full, tail, inl, inr, ℕ, ◌==◌, List, [], ◌∷◌, Option, Some, None, refl, Call, Name, Reply, Face, face_or, is_live_face, Cause, EntryResult, InPlace, NoBlock, NoSlot, ClaimResult, New, NoInode, NoPlace, Version, ◌+◌, OfDirectory, P, is_refused, mkdir_in, mkdir_on, mkdir_other, mkdir_program, mkdir_refused, mkdir_with, name_directory, Before, GivesBack, IsIn, IsShort, Lacks, Nothing, Spending, claim_wants, fresh, holding, loose, or_still, saw, sighting, Change, Claimed, Counted, Entered, Filled, Sighting, wanted_to_enter, wanted_unless, with_more, by_entry, where_there}
use Rattle.plain_tree.specs.declared.call.Call.TheVariants as calls
use Rattle.plain_tree.specs.declared.step.Action.TheVariants as steps
use Rattle.call_programs.proofs.Parts as parts
use Rattle.call_programs.proofs.Marks.{entry_tells, mends_tell, new_tells, where_tells}
use Rattle.call_programs.proofs.OpenCalls.{claimed, made_by, own, own_asks, unmake_asks}
use Rattle.call_programs.proofs.Parts.{either, give_up_asks, in_parent_asks, refused_asks}

module _ (version : Version) (path : List ℕ) where
  abbrev c : Call
  c = calls.Mkdir path

  abbrev Asking : Before → P Reply → Type 0
  Asking s p = parts.Asking version c s p

  named_asks : (b : Spending) (d : ℕ) (e : Name) (f : Face) (n : ℕ) (ns : List ℕ) → IsIn n b.named → IsIn d b.named → (a : EntryResult)
      → Asking (loose b (or_still (wanted_to_enter a) Nothing) (with_more (Claimed n ∷ Counted n 1 ∷ Filled n ∷ []) (by_entry d e n a))) (name_directory path d f n ns a)
  named_asks b d e f n ns new old InPlace =
      let cs : List Change = Claimed n ∷ Counted n 1 ∷ Filled n ∷ Entered d e n ∷ Counted d (f.count + 1) ∷ [] in
      ((λ _. refl, inl old), λ _. give_up_asks version c Nothing cs b d _ (inl old) (refused_asks version c Nothing cs b n ns (done c) (inl new) (refl, tt)))
  named_asks b d e f n ns new old NoBlock =
      unmake_asks version c b (Lacks Blocks) (Claimed n ∷ Counted n 1 ∷ Filled n ∷ []) n d ns (full c Blocks) new (inl old) (refl, (refl, (n, Counted n 1 ∷ Filled n ∷ [], (refl, (refl, tt)), refl)))
  named_asks b d e f n ns new old NoSlot =
      unmake_asks version c b (Lacks DirectoryFull) (Claimed n ∷ Counted n 1 ∷ Filled n ∷ []) n d ns (full c DirectoryFull) new (inl old) (refl, (refl, (n, Counted n 1 ∷ Filled n ∷ [], (refl, (refl, tt)), refl)))

  module _ (d : ℕ) (e : Name) (ns : List ℕ) (f : Face) (short : IsShort version e) where
    other_asks : (n : ℕ) → Asking (loose claimed Nothing (Claimed n ∷ [])) (mkdir_other path d e ns f n)
    other_asks n = (
      (λ _. refl, inl (λ a b. refl)),
      λ _. (
        (λ _. refl, inr refl),
        λ _. (
          (mends_tell, (inl (inl refl), refl)),
          λ there. either version c (λ there. loose (record { named = n ∷ []; bound = 4 }) (or_still (wanted_unless Blocks there) Nothing) (with_more (Claimed n ∷ Counted n 1 ∷ []) (where_there (Filled n) there))) there _ _
              ((entry_tells n, (short, (inr refl, refl))), λ r. named_asks (record { named = d ∷ n ∷ []; bound = 7 }) d e f n ns (inr (inl refl)) (inl refl) r)
              (unmake_asks version c (record { named = n ∷ []; bound = 4 }) (Lacks Blocks) (Claimed n ∷ Counted n 1 ∷ []) n d ns (full c Blocks) (inl refl) (inr refl) (refl, (refl, (n, Counted n 1 ∷ [], (refl, tt), refl)))),
        ),
      ),
    )

    abbrev back : (n : ℕ) → GivesBack n (mkdir_with path d e ns f (New n)) ⊎ Unit {0}
    back n = own n d (tail ns (full c MemInodes)) (mkdir_other path d e ns f n) (n == d) refl

    claimed_asks : (a : ClaimResult) → Asking (loose claimed (claim_wants back Nothing a) (made_by OfDirectory a)) (mkdir_with path d e ns f a)
    claimed_asks NoInode = refused_asks version c (Lacks DiskInodes) [] claimed d ns (full c DiskInodes) (inr refl) (refl, (refl, refl))
    claimed_asks NoPlace = refused_asks version c (Lacks MemInodes) [] claimed d ns (full c MemInodes) (inr refl) (refl, (refl, refl))
    claimed_asks (New n) = own_asks version c n d ns (mkdir_other path d e ns f n) (other_asks n) (n == d) refl

    on_asks : (seen : Option Sighting) (o : Option Cause) → Asking (sighting (d ∷ []) fresh seen []) (mkdir_on path d e ns f o)
    on_asks seen (Some why) = refused_asks version c Nothing [] fresh d ns (failed c why) (inr refl) (refl, tt)
    on_asks seen None = ((new_tells, (inl refl, refl, back)), λ a. claimed_asks a)

  in_asks : (d : ℕ) (e : Name) (ns : List ℕ) → IsShort version e → Asking (holding (d ∷ []) fresh []) (mkdir_in path d e ns)
  in_asks d e ns short = (
    (where_tells (steps.Mkdir path) (λ a. is_refused (mkdir_refused a.found (face_or a.face))), inr (inl refl)),
    λ a. either version c (λ _. sighting (d ∷ []) fresh (saw d a) []) (is_live_face a.face) _ _ (on_asks d e ns (face_or a.face) short (saw d a) (mkdir_refused a.found (face_or a.face)))
        (refused_asks version c Nothing [] fresh d ns (failed c NoEntry) (inr refl) (refl, tt)),
  )

  pub mkdir_asks : Asking (holding [] fresh []) (mkdir_program version path)
  mkdir_asks = in_parent_asks version c refl (steps.Mkdir path) path (mkdir_in path) in_asks
