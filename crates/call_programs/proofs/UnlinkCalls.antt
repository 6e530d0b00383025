-- Unlink asks so.
use Rattle.call_programs.proofs.Vocabulary.{inl, inr, ℕ, ◌-◌, ◌==◌, ◌||◌, true, not, List, [], ◌∷◌, ◌++◌, Option, Some, None, refl, Call, Name, same_name, dot, dotdot, Face, face_or, is_directory_type, NotEmpty, NoEntry, DotName, is_live_face, MemInodes, done, failed, full, give_up, tail, Do, unmarked, Store, Version, P, always, clear_name, is_missing, unlink_child, unlink_found, unlink_in, unlink_other, unlink_program, or_missing, Reply, Before, IsShort, Lacks, Nothing, Spending, Wants, fresh, holding, loose, saw, sighting, upped, Change, Cleared, Counted, Sighting}
use Rattle.plain_tree.specs.declared.call.Call.TheVariants as calls
use Rattle.plain_tree.specs.declared.step.Action.TheVariants as steps
use Rattle.call_programs.proofs.Parts as parts
use Rattle.call_programs.proofs.Marks.{if_tells, mends_tell, where_tells}
use Rattle.call_programs.proofs.Parts.{Fine, either, give_up_asks, in_parent_asks, refused_asks}

module _ (version : Version) (path : List ℕ) where
  abbrev c : Call
  c = calls.Unlink path

  abbrev Asking : Before → P Reply → Type 0
  Asking s p = parts.Asking version c s p

  module _ (d : ℕ) (e : Name) (ns : List ℕ) (f : Face) where
    refuses : (w : Wants) (r : Reply) → Fine version c w [] r → Asking (loose fresh w []) (give_up d (tail ns r))
    refuses w r e = refused_asks version c w [] fresh d ns r (inr refl) e

    -- what was recorded once the name is cleared
    abbrev cleared : Spending
    cleared = record { named = d ∷ []; bound = 3 }

    clears : (seen : Option Sighting) (n : ℕ) (g : Face) → Asking (sighting (n ∷ d ∷ []) fresh seen []) (clear_name path d e ns f n g)
    clears seen n g = (
      (λ _. refl, (inr refl, refl)),
      λ _. either version c (λ _. loose cleared Nothing (Cleared d e ∷ [])) (is_directory_type g.inode_type) _ _ ((λ _. refl, inl (inl refl)), λ _. rest (Cleared d e ∷ Counted d (f.count - 1) ∷ []))
          (rest (Cleared d e ∷ [])),
    )
      where
        rest : (cs : List Change) → Asking (loose cleared Nothing cs) (give_up d (Do (Store n (g.count - 1)) unmarked (λ _. give_up n (tail ns (done c)))))
        rest cs = give_up_asks version c Nothing cs cleared d (Do (Store n (g.count - 1)) unmarked (λ _. give_up n (tail ns (done c)))) (inl (inl refl))
            ((λ _. refl, inr refl), λ _. refused_asks version c Nothing (cs ++ Counted n (g.count - 1) ∷ []) (record { named = n ∷ d ∷ []; bound = 4 }) n ns (done c) (inl (inl refl)) (refl, tt))

    child : (n : ℕ) → Asking (upped n (d ∷ []) fresh [] true) (unlink_child path d e ns f n)
    child n = (
      (λ a. if_tells (not a.empty), inr (inl refl, refl)),
      λ a. either version c (λ _. sighting (n ∷ d ∷ []) fresh (saw n a) []) a.empty _ _ (clears (saw n a) n (face_or a.face))
          (give_up_asks version c Nothing [] fresh n _ (inr refl) (refused_asks version c Nothing [] (record { named = n ∷ []; bound = 2 }) d ns (failed c NotEmpty) (inr refl) (refl, tt))),
    )

    other : (n : ℕ) → Asking (holding (d ∷ []) fresh []) (unlink_other path d e ns f n)
    other n = ((mends_tell, refl), λ there. either version c (upped n (d ∷ []) fresh []) there _ _ (child n) (refuses (Lacks MemInodes) (full c MemInodes) (refl, (refl, refl))))

    found : (seen : Option Sighting) (o : Option ℕ) → Asking (sighting (d ∷ []) fresh seen []) (unlink_found path d e ns f o)
    found seen None = refuses Nothing (failed c NoEntry) (refl, tt)
    found seen (Some n) = either version c (λ _. sighting (d ∷ []) fresh seen []) (n == d) _ _ (refuses Nothing (failed c NoEntry) (refl, tt)) (other n)

  pub in_asks : (d : ℕ) (e : Name) (ns : List ℕ) → IsShort version e → Asking (holding (d ∷ []) fresh []) (unlink_in path d e ns)
  in_asks d e ns short = either version c (λ _. holding (d ∷ []) fresh []) (same_name e dot || same_name e dotdot) _ _
      ((where_tells (steps.Unlink path) always, inr (inl refl)), λ a. refuses d e ns (face_or a.face) Nothing (failed c (or_missing DotName (is_live_face a.face))) (refl, tt))
      ((where_tells (steps.Unlink path) is_missing, inr (inl refl)), λ a. found d e ns (face_or a.face) (saw d a) a.found)

  pub unlink_asks : Asking (holding [] fresh []) (unlink_program version path)
  unlink_asks = in_parent_asks version c refl (steps.Unlink path) path (unlink_in path) in_asks
