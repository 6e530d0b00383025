-- Link asks so.
use Rattle.call_programs.proofs.Vocabulary.{Blocks, DirectoryFull, done, failed, full, inl, inr, ℕ, List, [], ◌∷◌, Option, Some, None, refl, Call, Name, Reply, elements, Face, face_or, is_directory_type, is_live_face, Cause, EntryResult, InPlace, NoBlock, NoSlot, is_there, stopped, Version, P, bump_refused, link_at, link_found, link_in, link_name, link_program, link_raise, lower, named_on, Before, Held, IsIn, IsShort, Lacks, Nothing, Spending, Wants, fresh, holding, loose, or_still, saw, sighting, Change, Entered, Sighting, lowered, raised_by, wanted_to_enter, with_more, by_entry, MemInodes, NoMemory, NotThere, WalkStop, Exists, IsDirectory, NoEntry}
use Rattle.plain_tree.specs.declared.call.Call.TheVariants as calls
use Rattle.plain_tree.specs.declared.step.Action.TheVariants as steps
use Rattle.call_programs.proofs.Parts as parts
use Rattle.call_programs.proofs.Marks.{bump_tells, link_tells, where_tells}
use Rattle.call_programs.proofs.Names.{AllShort, elements_short}
use Rattle.call_programs.proofs.Parts.{Fine, drop_asks, either, give_up_asks, lost, lost_asks, parent_asks, path_asks, refused_asks, stopping, tail_asks}

module _ (version : Version) (old new : List ℕ) where
  abbrev c : Call
  c = calls.Link old new

  abbrev Asking : Before → P Reply → Type 0
  Asking s p = parts.Asking version c s p

  -- its count was raised
  abbrev raised : ℕ → Spending
  raised n = record { named = n ∷ []; bound = 2 }

  -- inode n had this count when the call raised it
  module _ (n count : ℕ) where
    abbrev so_far : List Change
    so_far = raised_by n count ∷ []

    -- the link is taken back
    lower_asks : (held : Option Held) (b : Spending) (w : Wants) (r : Reply) (ns : List ℕ) → IsIn n b.named → ((k : ℕ) → Fine version c w (raised_by n count ∷ lowered n k ∷ []) r)
        → Asking (record { held = held; spending = b; wants = w; seen = None; changed = so_far }) (lower old new n r ns)
    lower_asks held b w r ns at e = (
      (λ _. refl, inl (λ a b. refl)),
      λ a. ((λ _. refl, inl at), λ _. refused_asks version c w (raised_by n count ∷ lowered n (face_or a.face).count ∷ []) b n ns r (inl at) (e (face_or a.face).count)),
    )

    module _ (d : ℕ) (e : Name) (ns : List ℕ) where
      abbrev five : Spending
      five = record { named = d ∷ n ∷ []; bound = 5 }

      undone : (k : ℕ) (w : Wants) (r : Reply) → ((k : ℕ) → Fine version c w (raised_by n count ∷ lowered n k ∷ []) r) → Asking (loose (record { named = d ∷ n ∷ []; bound = k }) w so_far) (lower old new n r ns)
      undone k w r e = lower_asks None (record { named = d ∷ n ∷ []; bound = k }) w r ns (inr (inl refl)) e

      named_asks : (a : EntryResult) → Asking (loose five (or_still (wanted_to_enter a) Nothing) (with_more so_far (by_entry d e n a))) (named_on old new n d ns a)
      named_asks InPlace =
          let cs : List Change = raised_by n count ∷ Entered d e n ∷ [] in
          give_up_asks version c Nothing cs five d _ (inl (inl refl)) (drop_asks version c Nothing cs five n _ (inl (inr (inl refl))) (tail_asks version c Nothing cs five ns (done c) (refl, tt)))
      named_asks NoBlock = give_up_asks version c (Lacks Blocks) so_far five d _ (inl (inl refl)) (undone 5 (Lacks Blocks) (full c Blocks) (λ k. (refl, (refl, (n, count, k, refl)))))
      named_asks NoSlot = give_up_asks version c (Lacks DirectoryFull) so_far five d _ (inl (inl refl)) (undone 5 (Lacks DirectoryFull) (full c DirectoryFull) (λ k. (refl, (refl, (n, count, k, refl)))))

      found_asks : IsShort version e → (seen : Option Sighting) (o : Option ℕ) → Asking (sighting (d ∷ n ∷ []) (raised n) seen so_far) (link_found old new n d e ns o)
      found_asks short seen (Some m) = give_up_asks version c Nothing so_far (raised n) d _ (inr refl) (undone 3 Nothing (failed c Exists) (λ k. (refl, tt)))
      found_asks short seen None = ((link_tells, (short, (inr refl, refl))), λ a. named_asks a)

      in_asks : IsShort version e → Asking (holding (d ∷ n ∷ []) (raised n) so_far) (link_in old new n d e ns)
      in_asks short = (
        (where_tells (steps.Enter new) is_there, inr (inl refl)),
        λ a. either version c (λ _. sighting (d ∷ n ∷ []) (raised n) (saw d a) so_far) (is_live_face a.face) _ _ (found_asks short (saw d a) a.found)
            (give_up_asks version c Nothing so_far (raised n) d _ (inr refl) (undone 3 Nothing (failed c NoEntry) (λ k. (refl, tt)))),
      )

    abbrev own_ref : Option Held
    own_ref = Some (record { has = n ∷ []; last = None })

    gone_asks : (why : WalkStop) (ms : List ℕ) → Asking (stopping (n ∷ []) (raised n) so_far why) (lower old new n (stopped c why) ms)
    gone_asks NotThere ms = lower_asks own_ref (raised n) Nothing (failed c NoEntry) ms (inl refl) (λ k. (refl, tt))
    gone_asks NoMemory ms = lower_asks own_ref (raised n) (Lacks MemInodes) (full c MemInodes) ms (inl refl) (λ k. (refl, (refl, inr (n, count, k, refl))))

    name_asks : (ns : List ℕ) (es : List Name) → AllShort version es → Asking (holding (n ∷ []) (raised n) so_far) (link_name old new n ns es)
    name_asks ns [] short = ((λ _. refl, tt), λ _. lower_asks own_ref (raised n) Nothing (failed c NoEntry) ns (inl refl) (λ k. (refl, tt)))
    name_asks ns (e ∷ es) short = (
      (λ _. refl, tt),
      λ _. parent_asks version c (n ∷ []) (raised n) so_far (λ why ms. lower old new n (stopped c why) ms) gone_asks (steps.Enter new) (link_in old new n) (λ d e ms is. in_asks d e ms is) new ns e es short,
    )

  raise_asks : (n : ℕ) (ns : List ℕ) (f : Face) (o : Option Cause) → Asking (sighting (n ∷ []) fresh (Some (record { number = n; count = f.count })) []) (link_raise version old new n ns f o)
  raise_asks n ns f (Some why) = refused_asks version c Nothing [] fresh n ns (failed c why) (inr refl) (refl, tt)
  raise_asks n ns f None = ((λ _. refl, inr refl), λ _. name_asks n f.count ns (elements version new) (elements_short version new))

  at_asks : (n : ℕ) (ns : List ℕ) → Asking (holding (n ∷ []) fresh []) (link_at version old new n ns)
  at_asks n ns = (
    (λ a. bump_tells (face_or a.face), inr (inl refl)),
    λ a. either version c (λ _. sighting (n ∷ []) fresh (saw n a) []) (is_directory_type (face_or a.face).inode_type) _ _ (refused_asks version c Nothing [] fresh n ns (failed c IsDirectory) (inr refl) (refl, tt))
        (raise_asks n ns (face_or a.face) (bump_refused (face_or a.face))),
  )

  pub link_asks : Asking (holding [] fresh []) (link_program version old new)
  link_asks = ((λ _. refl, tt), λ _. path_asks version c [] fresh [] (lost c) (lost_asks version c (inl refl)) (steps.Find old) (link_at version old new) at_asks old [])
