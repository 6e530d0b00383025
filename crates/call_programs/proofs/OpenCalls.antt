-- Open asks so.
use Rattle.call_programs.proofs.Vocabulary.{◌≡◌, ◌⊎◌, inl, inr, ℕ, ◌==◌, if◌then◌else◌, sym, ap, eq_is, Do, unmarked, Bool, true, false, List, [], ◌∷◌, ◌++◌, append_assoc, Option, Some, None, refl, Call, Name, Reply, elements, creates, InodeType, face_or, is_live_face, Cause, NoEntry, MemInodes, OpenFiles, Descriptors, DiskInodes, Blocks, DirectoryFull, EntryResult, InPlace, NoBlock, NoSlot, ClaimResult, New, NoInode, NoPlace, Mark, failed, full, give_up, tail, is_there, open_refusal, create_found, create_in, empties, installed_on, make_on, make_other, make_with, open_at, open_end, open_face, open_new, open_old, open_program, opened_reply, take_descriptor, truncates, unmake, Version, file_for, OfFile, P, Before, GivesBack, Held, IsIn, IsShort, Lacks, MayRecord, Nothing, Spending, Wants, claim_wants, fresh, holding, loose, naming, or_still, saw, sighting, spoils, still, upped, wants_back, Change, Claimed, Counted, Entered, GaveBack, MadeFileAtMost, Sighting, TookPlace, changed_by, wanted_to_enter, wanted_unless, wanted_without, Excused, with_more, Emptied, by_entry, by_install, where_there, Claim, Forget, Install}
use Rattle.call_programs.specs.Changes.{Moved}
use Rattle.plain_tree.specs.declared.call.Call.TheVariants as calls
use Rattle.plain_tree.specs.declared.step.Action.TheVariants as steps
use Rattle.call_programs.proofs.Parts as parts
use Rattle.call_programs.proofs.Marks.{entry_tells, install_tells, mends_tell, new_tells, truncate_tells, where_tells}
use Rattle.call_programs.proofs.Names.{AllShort, elements_short}
use Rattle.call_programs.proofs.Parts.{Fine, drop_asks, either, give_up_asks, lost, lost_asks, parent_asks, path_asks, refused_asks, tail_asks}

-- a new inode gets no name
pub unmake_asks : (version : Version) (call : Call) (b : Spending) (w : Wants) (cs : List Change) (n d : ℕ) (ns : List ℕ) (r : Reply) → IsIn n b.named → MayRecord b d → Fine version call w (cs ++ Counted n 0 ∷ []) r
    → parts.Asking version call (loose b w cs) (unmake n d ns r)
unmake_asks version call b w cs n d ns r at may e =
    let ds : List Change = cs ++ Counted n 0 ∷ [] in
    ((λ _. refl, inl at), λ _. give_up_asks version call w ds b n (give_up d (tail ns r)) (inl at) (refused_asks version call w ds b d ns r may e))

-- what was claimed may be the directory itself, which is forgotten at once
abbrev pub own : (n d : ℕ) (last p : P Reply) (b : Bool) → (n == d) ≡ b → GivesBack n (if b then Do (Forget n) unmarked (λ _. give_up d last) else p) ⊎ Unit {0}
own n d last p true e = inl (record { rest = λ _. give_up d last; forgets = refl; last = last; gives = ap (λ (z : ℕ). give_up z last) (sym (eq_is n d e)) })
own n d last p false e = inr tt

-- after a claim, with only the new record's block recorded
abbrev pub claimed : Spending
claimed = record { named = []; bound = 2 }

pub own_asks : (version : Version) (call : Call) (n d : ℕ) (ns : List ℕ) (p : P Reply) → parts.Asking version call (loose claimed Nothing (Claimed n ∷ [])) p → (b : Bool) (e : (n == d) ≡ b)
    → parts.Asking version call (loose claimed (wants_back Nothing (own n d (tail ns (full call MemInodes)) p b e)) (Claimed n ∷ [])) (if b then Do (Forget n) unmarked (λ _. give_up d (tail ns (full call MemInodes))) else p)
own_asks version call n d ns p goes true e = ((λ _. refl, tt), λ _. refused_asks version call Excused (Claimed n ∷ []) claimed d ns (full call MemInodes) (inr refl) (refl, refl))
own_asks version call n d ns p goes false e = goes

-- what a claim makes of what has changed
abbrev pub made_by : InodeType → ClaimResult → List Change
made_by inode_type a = with_more [] (changed_by None (Claim inode_type) a None)

module _ (version : Version) (path : List ℕ) (flags : ℕ) where
  abbrev c : Call
  c = calls.Open path flags

  abbrev Asking : Before → P Reply → Type 0
  Asking s p = parts.Asking version c s p

  end_asks : (b : Spending) (cs : List Change) (n : ℕ) (ns : List ℕ) (fd : ℕ) → Asking (loose b Nothing cs) (open_end path flags n ns fd)
  end_asks b cs n ns fd = ((λ _. refl, tt), λ _. tail_asks version c Nothing cs b ns (opened_reply path flags fd) (refl, tt))

  -- a place for an open file, and a descriptor, with what was made so far
  descriptor_asks : (b : Spending) (cs : List Change) → MadeFileAtMost flags cs → (n : ℕ) (inode_type : InodeType) (ns : List ℕ) (mark : ℕ → Option Mark) (k : ℕ → P Reply) → MayRecord b n
      → ((fd : ℕ) → spoils (mark fd) ≡ false) → ((ds : List Change) (fd : ℕ) → Asking (loose b Nothing ds) (k fd)) → Asking (loose b Nothing cs) (take_descriptor path flags n inode_type ns mark k)
  descriptor_asks b cs made n inode_type ns mark k may none goes = (
    (mends_tell, tt),
    λ there. either version c (λ there. loose b (or_still (wanted_unless OpenFiles there) Nothing) (with_more cs (where_there TookPlace there))) there _ _
        ((install_tells mark none, tt), λ o. by o) (refused_asks version c (Lacks OpenFiles) cs b n ns (full c OpenFiles) may (refl, (refl, made))),
  )
    where
      by : (o : Option ℕ)
          → Asking (loose b (or_still (wanted_without Descriptors o) Nothing) (with_more (cs ++ TookPlace ∷ []) (by_install (Install (file_for n flags) inode_type) o))) (installed_on path flags n ns k o)
      by None =
          let ds : List Change = (cs ++ TookPlace ∷ []) ++ GaveBack ∷ [] in
          refused_asks version c (Lacks Descriptors) ds b n ns (full c Descriptors) may (refl, (refl, (cs, made, append_assoc cs (TookPlace ∷ []) (GaveBack ∷ []))))
      by (Some fd) = goes ((cs ++ TookPlace ∷ []) ++ Moved (Install (file_for n flags) inode_type) ∷ []) fd

  face_asks : (held : Option Held) (b : Spending) (seen : Option Sighting) (n : ℕ) (ns : List ℕ) (inode_type : InodeType) (o : Option Cause) → MayRecord b n
      → Asking (record { held = held; spending = b; wants = Nothing; seen = seen; changed = [] }) (open_face path flags n ns inode_type o)
  face_asks held b seen n ns inode_type (Some why) may = refused_asks version c Nothing [] b n ns (failed c why) may (refl, tt)
  face_asks held b seen n ns inode_type None may =
      descriptor_asks b [] (inl refl) n inode_type ns (λ fd. None) _ may (λ fd. refl)
      (λ ds fd. either version c (λ _. loose b Nothing ds) (empties flags inode_type) _ _ ((λ _. refl, may), λ _. end_asks (naming b n may) (ds ++ Emptied n ∷ []) n ns fd) (end_asks b ds n ns fd))

  at_asks : (held : Option Held) (b : Spending) (n : ℕ) (ns : List ℕ) → MayRecord b n → Asking (record { held = held; spending = b; wants = Nothing; seen = None; changed = [] }) (open_at path flags n ns)
  at_asks held b n ns may = ((λ _. refl, inl (λ a b. refl)), λ a. face_asks (still held) b (saw n a) n ns (face_or a.face).inode_type (open_refusal (flags == 0) (face_or a.face).inode_type) may)

  old_asks : Asking (holding [] fresh []) (open_old version path flags)
  old_asks = (
    (λ _. refl, tt),
    λ _. path_asks version c [] fresh [] (lost c) (lost_asks version c refl) (steps.Open path flags) (open_at path flags) (λ n ms. at_asks (Some (record { has = n ∷ []; last = None })) fresh n ms (inr refl)) path [],
  )

  -- ---- with CREATE

  module _ (asks : creates flags ≡ true) where
    named_asks : (b : Spending) (n : ℕ) (inode_type : InodeType) (d : ℕ) (e : Name) (ns : List ℕ) → IsIn n b.named → IsIn d b.named → (a : EntryResult)
        → Asking (loose b (or_still (wanted_to_enter a) Nothing) (with_more (Claimed n ∷ Counted n 1 ∷ []) (by_entry d e n a))) (make_on path flags n inode_type d ns a)
    named_asks b n inode_type d e ns new old InPlace =
        let made : List Change = Claimed n ∷ Counted n 1 ∷ Entered d e n ∷ [] in (
          (λ _. refl, tt),
          λ _. drop_asks version c Nothing made b d _ (inl old)
              (descriptor_asks b made (inr (asks, (n, d, e, refl))) n inode_type ns (truncates flags) (open_end path flags n ns) (inl new) (truncate_tells flags) (λ ds fd. end_asks b ds n ns fd)),
        )
    named_asks b n inode_type d e ns new old NoBlock = unmake_asks version c b (Lacks Blocks) (Claimed n ∷ Counted n 1 ∷ []) n d ns (full c Blocks) new (inl old) (refl, (refl, (n, Counted n 1 ∷ [], (refl, tt), refl)))
    named_asks b n inode_type d e ns new old NoSlot =
        unmake_asks version c b (Lacks DirectoryFull) (Claimed n ∷ Counted n 1 ∷ []) n d ns (full c DirectoryFull) new (inl old) (refl, (refl, (n, Counted n 1 ∷ [], (refl, tt), refl)))

    module _ (d : ℕ) (e : Name) (ns : List ℕ) (short : IsShort version e) where
      other_asks : (n : ℕ) → Asking (loose claimed Nothing (Claimed n ∷ [])) (make_other path flags d e ns n)
      other_asks n = (
        (λ _. refl, inl (λ a b. refl)),
        λ a. (
          (λ _. refl, inr refl),
          λ _. ((entry_tells n, (short, (inr refl, refl))), λ r. named_asks (record { named = d ∷ n ∷ []; bound = 6 }) n (face_or a.face).inode_type d e ns (inr (inl refl)) (inl refl) r),
        ),
      )

      abbrev back : (n : ℕ) → GivesBack n (make_with path flags d e ns (New n)) ⊎ Unit {0}
      back n = own n d (tail ns (full c MemInodes)) (make_other path flags d e ns n) (n == d) refl

      claimed_asks : (a : ClaimResult) → Asking (loose claimed (claim_wants back Nothing a) (made_by OfFile a)) (make_with path flags d e ns a)
      claimed_asks NoInode = refused_asks version c (Lacks DiskInodes) [] claimed d ns (full c DiskInodes) (inr refl) (refl, (refl, refl))
      claimed_asks NoPlace = refused_asks version c (Lacks MemInodes) [] claimed d ns (full c MemInodes) (inr refl) (refl, (refl, refl))
      claimed_asks (New n) = own_asks version c n d ns (make_other path flags d e ns n) (other_asks n) (n == d) refl

      found_asks : (seen : Option Sighting) (o : Option ℕ) → Asking (sighting (d ∷ []) fresh seen []) (create_found path flags d e ns o)
      found_asks seen None = ((new_tells, (inr refl, refl, back)), λ a. claimed_asks a)
      found_asks seen (Some n) = (
        (mends_tell, refl),
        λ there. either version c (upped n (d ∷ []) fresh []) there _ _
            (give_up_asks version c Nothing [] fresh d _ (inr refl) (at_asks None (record { named = d ∷ []; bound = 2 }) n ns (inr refl)))
            (refused_asks version c (Lacks MemInodes) [] fresh d ns (full c MemInodes) (inr refl) (refl, (refl, refl))),
      )

    in_asks : (d : ℕ) (e : Name) (ns : List ℕ) → IsShort version e → Asking (holding (d ∷ []) fresh []) (create_in path flags d e ns)
    in_asks d e ns short = (
      (where_tells (steps.Open path flags) is_there, inr (inl refl)),
      λ a. either version c (λ _. sighting (d ∷ []) fresh (saw d a) []) (is_live_face a.face) _ _ (found_asks d e ns short (saw d a) a.found)
          (refused_asks version c Nothing [] fresh d ns (failed c NoEntry) (inr refl) (refl, tt)),
    )

    new_asks : (es : List Name) → AllShort version es → Asking (holding [] fresh []) (open_new path flags es)
    new_asks [] short = ((λ _. refl, tt), λ _. tail_asks version c Nothing [] fresh [] (failed c NoEntry) (refl, tt))
    new_asks (e ∷ es) short = ((λ _. refl, tt), λ _. parent_asks version c [] fresh [] (lost c) (lost_asks version c refl) (steps.Open path flags) (create_in path flags) in_asks path [] e es short)

  pub open_asks : Asking (holding [] fresh []) (open_program version path flags)
  open_asks = by (creates flags) refl
    where
      by : (b : Bool) → creates flags ≡ b → Asking (holding [] fresh []) (if b then open_new path flags (elements version path) else open_old version path flags)
      by true asks = new_asks asks (elements version path) (elements_short version path)
      by false asks = old_asks
