-- If no place in memory was left for an inode that a call claims, the claim gives its block back next, and that is
-- its answer. So it is in code exactly if it is so in the theory, and no other part ends with that.
use Rattle.std.specs.Prelude.{◌≡◌, ◌⊎◌, ℕ, zero, suc, ◌+◌, ℤ, Bool, true, false, List, [], ◌∷◌, Option, Some, None}
use Rattle.calls_on_blocks.proofs.Vocabulary.{refl, sym, ◌∙◌, ap, subst, inl, inr}
use Rattle.atomic_programs.proofs.Explains.{Some-inj}
use Rattle.atomic_programs.specs.Joined.{Handover}
use Rattle.atomic_programs.specs.Prog.{Ret, Do, asks as asks_below, bind, plain, unmarked}
use Rattle.fs_layout.specs.declared.inode.Dinode.{Dinode}
use Rattle.fs_layout.specs.declared.superblock.Super.{Super}
use Rattle.fs_machine.specs.Fetching.{fetch_block, fetch_left}
use Rattle.fs_machine.specs.Hands.{block_at, bytes_at}
use Rattle.fs_machine.specs.InMemory.{IndexState, Loaded}
use Rattle.fs_machine.specs.Inodes.{LockedState, Refuses, Locks}
use Rattle.fs_machine.specs.Machines as code
use Rattle.fs_machine.specs.Programs.{fetch, read_unless}
use Rattle.fs_machine.specs.Steps as steps
use Rattle.fs_machine.specs.declared.hand.Hand.{Hand}
use Rattle.fs_machine.specs.declared.hand.InodePlace.{InodePlace}
use Rattle.fs_machine.specs.declared.hand.Place.TheVariants.{First}
use Rattle.fs_machine.specs.declared.slots.Given.{Given}
use Rattle.fs_machine.specs.declared.slots.Given.TheVariants as given
use Rattle.inode_machine.specs.Inodes as whole
use Rattle.inode_machine.specs.World as above
use Rattle.inode_parts.specs.Calls.{LoweredReady, whole_with}
use Rattle.inode_parts.specs.Carries.{carry_in, handed as ends_so, with_note}
use Rattle.inode_parts.specs.Claims.{claim_ends}
use Rattle.inode_parts.specs.Enters.{enter_part_seat, entered, entered_so}
use Rattle.inode_parts.specs.FileLocks.{file_ends, open_ends}
use Rattle.inode_parts.specs.FileReads.{read_file_left, read_over}
use Rattle.inode_parts.specs.FileStats.{stat_ends}
use Rattle.inode_parts.specs.FileWrites.{write_file_left, write_over}
use Rattle.inode_parts.specs.Holding.{Having}
use Rattle.inode_parts.specs.InodeParts.{ends_with, part_left}
use Rattle.inode_parts.specs.OneSteps.{joining_heard, loan_heard, step_left}
use Rattle.inode_parts.specs.Parts.{Part}
use Rattle.inode_parts.specs.Relocks.{relock_left}
use Rattle.inode_parts.specs.Takes.{listed_ends, looked, named_ends, only_seen, take_left}
use Rattle.inode_parts.specs.Telling.{finds_no_place, gives_back, lacks_place, part_of}
use Rattle.inode_parts.specs.UnderWay.{LongAmid, UnderWay as IsUnderWay}
use Rattle.inode_parts.specs.declared.lowered.Lowered.{Lowered}
use Rattle.inode_parts.specs.declared.note.Note.TheVariants as note
use Rattle.inode_parts.specs.declared.note.Notes.{Notes}
use Rattle.inode_parts.specs.declared.one_step.OneStep.{OneStep}
use Rattle.inode_parts.specs.declared.one_step.OneStep.TheVariants as step
use Rattle.inode_parts.specs.declared.part.InodePart.{InodePart}
use Rattle.inode_parts.specs.declared.part.InodePart.TheVariants as part
use Rattle.inode_parts.specs.declared.file_bytes.ReadFilePart.{ReadFilePart}
use Rattle.inode_parts.specs.declared.file_bytes.ReadFilePart.TheVariants as reads
use Rattle.inode_parts.specs.declared.relock_part.RelockPart.{RelockPart}
use Rattle.inode_parts.specs.declared.relock_part.RelockPart.TheVariants as relock
use Rattle.inode_parts.specs.declared.take_part.TakePart.{TakePart}
use Rattle.inode_parts.specs.declared.take_part.TakePart.TheVariants as take
use Rattle.inode_parts.specs.declared.file_bytes.WriteFilePart.{WriteFilePart}
use Rattle.inode_parts.specs.declared.file_bytes.WriteFilePart.TheVariants as writes
use Rattle.inode_table.specs.Making.{new_left, rest_of}
use Rattle.inode_table.specs.NewInodes.{inode_blocks, look_in, make_in}
unfoldable use Rattle.inode_table.specs.NewInodes.{new_from}
use Rattle.inode_table.specs.declared.new_inode.Made.{Made}
use Rattle.inode_table.specs.declared.new_inode.NewInode.{NewInode}
use Rattle.inode_table.specs.declared.new_inode.NewInode.TheVariants as new
use Rattle.inodes_on_blocks.specs.Handlers.{Acts, P}
use Rattle.inodes_on_blocks.specs.Lowering.{Carry}
use Rattle.inodes_on_blocks.specs.Making.{claim_at, claim_in}
unfoldable use Rattle.inodes_on_blocks.specs.Making.{claim_from}
use Rattle.inodes_on_blocks.specs.Programs.{handlers}
use Rattle.inodes_on_blocks.specs.ShownTables.{kind_of}
use Rattle.path_walk.specs.Asks.{asks, claimed_in}
use Rattle.path_walk.specs.declared.asks.Claimed.TheVariants as claimed
use Rattle.path_walk.specs.declared.asks.Heard.TheVariants as heard
use Rattle.path_walk.specs.declared.asks.Query.{Query}
use Rattle.path_walk.specs.declared.asks.Query.TheVariants as query
use Rattle.run_laws.specs.Searches.{AnsweredStep}
use Rattle.run_laws.specs.UnderWay.{LeadTo, UnderWay}
use Rattle.whole_calls.specs.Wholes.{text_in, whole_of}
use Rattle.whole_calls.specs.declared.reading.Read.TheVariants as reading
use Rattle.whole_calls.specs.declared.whole.Whole.{Whole}
use Rattle.whole_calls.specs.declared.whole.Whole.TheVariants as wholes
use Rattle.inode_parts.specs.Changes.{rewritten}
use Rattle.inode_parts.specs.Clears.{cleared_at}
use Rattle.inode_parts.specs.Empties.{empty_seat}
use Rattle.inode_parts.specs.Fills.{filled}
use Rattle.inode_parts.specs.Frees.{free_ends}
use Rattle.inode_parts.specs.Sides.{beside_in}
use Rattle.inode_parts.specs.Vocabulary.{Entry, Named, NoBlock, NoSlot, Room, There, clear_left, enter_left, entries, file_left, file_seat, fill_left, finish_left, first_listed, freeing_left, inode_in, loaded_in, lock_left, lock_loaded, lock_seat, lookup, name_in, number_at, number_in, open_left, open_seat, piece, read_left, record_in, record_left, search_left, truncate_left, write_left}
use Rattle.kept_histories.proofs.Claiming.{GivesBack, GivesBackOf}
use Rattle.kept_histories.proofs.Controls.{at_end, plain_end}
use Rattle.kept_histories.proofs.Standing.{StandsAt, handed}
use Rattle.image_versions.specs.declared.version.Version.{Version}

-- ---- what is heard at a part's end

abbrev is_no_place : above.ClaimResult → Bool
is_no_place (above.New n) = false
is_no_place above.NoInode = false
is_no_place above.NoPlace = true

-- if it has ended, it doesn't hear that there was no place
abbrev HearsElse : Part → Type 0
HearsElse (Ret r) = is_no_place (claimed_in (r.answer.1)) ≡ false
HearsElse (Do o m k) = Unit {0}

-- .. nor if it ends in its next step
abbrev NextElse : Part → Type 0
NextElse (Ret r) = Unit {0}
NextElse (Do o m k) = (a : steps.Answer o) → HearsElse (k a)

-- .. nor in either
abbrev IsElse : Part → Type 0
IsElse p = HearsElse p × NextElse p

bound_else : {A : Type 0} (p : code.P A) (f : A → Part) → ((a : A) → IsElse (f a)) → IsElse (bind p f)
bound_else (Ret a) f each = each a
bound_else (Do o m k) f each = (tt, λ a. (bound_else (k a) f each).0)

next_else : {A : Type 0} (p : code.P A) (f : A → Part) → ((a : A) → IsElse (f a)) → NextElse (bind p f)
next_else p f each = (bound_else p f each).1

-- ---- each part

one_else : (path : List ℕ) (m : Notes) (s : OneStep) (h : Hand) → NextElse (step_left path m s h)
one_else path m (step.JoinFile fd) h = by
  where
    by : (a : steps.JoinResult) → is_no_place (claimed_in (joining_heard a)) ≡ false
    by (steps.RefusesJoin why) = refl
    by (steps.Joins n) = refl
one_else path m (step.Lend k child from) h = by
  where
    by : (a : Given) → is_no_place (claimed_in (loan_heard a)) ≡ false
    by (given.Descriptor fd more) = refl
    by (given.Directory n) = refl
one_else path m s h = λ a. refl

entered_else : (path : List ℕ) (m : Notes) (k : InodePlace) (h : Hand) (d : Dinode) (x : IndexState) (r : Room) → IsElse (entered_so path m k h d x r)
entered_else path m k h d x There = (refl, tt)
entered_else path m k h d x NoBlock = (refl, tt)
entered_else path m k h d x NoSlot = (refl, tt)

file_else : (path : List ℕ) (fd : ℕ) (c : Carry) (a : LockedState) → IsElse (file_ends path fd c a)
file_else path fd c (Refuses why) = (refl, tt)
file_else path fd c (Locks f content) = (refl, tt)

stat_else : (path : List ℕ) (c : Carry) (a : LockedState) → IsElse (stat_ends path c a)
stat_else path c (Refuses why) = (refl, tt)
stat_else path c (Locks f content) = (refl, tt)

looked_else : (version : Version) (path : List ℕ) (q : Query) (c : Carry) (n : ℕ) (l : Loaded) → IsElse (looked version path q c n l)
looked_else version path query.Nothing c n l = (refl, tt)
looked_else version path (query.Name e) c n l = bound_else (lookup version (name_in path e) l) (named_ends path c n l e) (λ o. (refl, tt))
looked_else version path query.Entries c n l = bound_else (entries version l) (listed_ends path c n l) (λ o. (refl, tt))

take_else : (path : List ℕ) (m : Notes) (p : TakePart) (h : Hand) → NextElse (take_left path m p h)
take_else path m (take.Locking version q r) h =
    let c = beside_in path m (lock_seat r) h in
    let n = number_at (lock_seat r) h in
    next_else (lock_left r h) (looked version path q c n) (looked_else version path q c n)
take_else path m (take.Naming version k e s) h =
    next_else (search_left version (Named (name_in path e)) k s h) (named_ends path (beside_in path m k h) (number_at k h) (loaded_in k h) e) (λ o. (refl, tt))
take_else path m (take.Listing version k s) h =
    next_else (search_left version Entry k s h) (listed_ends path (beside_in path m k h) (number_at k h) (loaded_in k h)) (λ o. (refl, tt))

relock_else : (path : List ℕ) (m : Notes) (p : RelockPart) (h : Hand) → NextElse (relock_left path m p h)
relock_else path m (relock.Locking k inodestart) h =
    next_else (lock_loaded inodestart (first_listed h)) (only_seen path (beside_in path m k h) (first_listed h)) (λ d. (refl, tt))
relock_else path m (relock.Loading r) h =
    next_else (lock_left r h) (only_seen path (beside_in path m (lock_seat r) h) (number_at (lock_seat r) h)) (λ d. (refl, tt))

read_else : (path : List ℕ) (p : ReadFilePart) (h : Hand) → NextElse (read_file_left path p h)
read_else path (reads.Reading f p) h = next_else (read_left (record_in f.seat h) path p h) (read_over f h) (λ m. (tt, λ a. refl))
read_else path (reads.Ending f count) h = λ a. refl

write_else : (path : List ℕ) (p : WriteFilePart) (h : Hand) → NextElse (write_file_left path p h)
write_else path (writes.Denied k why) h = λ a. refl
write_else path (writes.Writing f i p) h =
    next_else (write_left (piece path i) p h) (write_over path f (piece path i) (inode_in f.seat h)) (λ w. (tt, λ a. refl))
write_else path (writes.Ending f upto w) h = λ a. refl

-- ---- a claim

module _ (text : List ℕ) (c : Carry) where
  more_else : (n : ℕ) (kind : ℤ) (sizes : Super) (q : ℕ) → HearsElse (bind (new_from n kind sizes q) (claim_ends text c))
  unfolding new_from
  more_else zero kind sizes q = refl
  more_else (suc n) kind sizes q = tt

  module _ (more : code.P Made) (hears : HearsElse (bind more (claim_ends text c))) (kind : ℤ) (ninodes q b : ℕ) where
    look_else : (block : List ℕ) → NextElse (bind (look_in more kind ninodes q b block) (claim_ends text c))
    look_else block = by
      where
        by : (a : steps.ClaimResult) → HearsElse (bind (make_in more kind b block a) (claim_ends text c))
        by (steps.Claims n) = tt
        by steps.NoPlace = tt
        by steps.NoInode = hears

    fetched_else : (p : code.P (List ℕ)) → NextElse (bind (bind p (look_in more kind ninodes q b)) (claim_ends text c))
    fetched_else (Ret block) = look_else block
    fetched_else (Do o m k) = λ a. by (k a)
      where
        by : (p : code.P (List ℕ)) → HearsElse (bind (bind p (look_in more kind ninodes q b)) (claim_ends text c))
        by (Ret block) = tt
        by (Do o m k) = tt

  new_else : (n : NewInode) (h : Hand) → (gives_back n ≡ true) ⊎ NextElse (bind (new_left n h) (claim_ends text c))
  new_else (new.Fetching k l f) h = inr (fetched_else (rest_of l) (more_else l.left l.kind l.sizes (l.before + 1)) l.kind l.sizes.ninodes l.before (fetch_block f) (fetch_left f h))
  new_else (new.Look k l) h = inr (look_else (rest_of l) (more_else l.left l.kind l.sizes (l.before + 1)) l.kind l.sizes.ninodes l.before (block_at First h) (bytes_at First h))
  new_else (new.Record k l n) h = inr (λ a. refl)
  new_else (new.GiveBack k l) h = inl refl

-- .. alone ends so
part_else : (path : List ℕ) (m : Notes) (q : InodePart) (h : Hand) → (finds_no_place q ≡ true) ⊎ NextElse (part_left path m q h)
part_else path m (part.One s) h = inr (one_else path m s h)
part_else path m (part.Leave f) h = inr (next_else (finish_left f h) (ends_with path m h) (λ a. (refl, tt)))
part_else path m (part.Store p) h =
    inr (next_else (record_left p.store h) (λ a. Ret (ends_so path (with_note p.seat note.Nothing m) heard.WasDone h)) (λ a. (refl, tt)))
part_else path m (part.Empty p) h = inr (next_else (truncate_left p.truncate h) (rewritten path m (empty_seat p) heard.WasDone h) (λ d. (refl, tt)))
part_else path m (part.Enter p) h =
    inr (next_else (enter_left p.enter h) (entered path m (enter_part_seat p) h) (λ r. entered_else path m (enter_part_seat p) h r.inode r.index r.room))
part_else path m (part.Clear p) h = inr (next_else (clear_left p.clear h) (cleared_at path m p.seat p.slot h) (λ d. (refl, tt)))
part_else path m (part.Fill p) h = inr (next_else (fill_left p.fill h) (filled path m p.seat h) (λ f. (refl, tt)))
part_else path m (part.Free p) h =
    inr (next_else (freeing_left p.free h) (free_ends path (beside_in path m p.seat h) (number_in p.seat h)) (λ a. (refl, tt)))
part_else path m (part.Claim p) h = new_else path (carry_in path m h) p.claim h
part_else path m (part.LockOpen p) h =
    inr (next_else (open_left p.lock h) (open_ends path p.fd (beside_in path m (open_seat p.lock) h)) (λ a. (refl, tt)))
part_else path m (part.LockFile p) h =
    let c = beside_in path m (file_seat p.lock) h in
    inr (next_else (file_left p.lock h) (file_ends path p.fd c) (file_else path p.fd c))
part_else path m (part.StatFile p) h =
    let c = beside_in path m (file_seat p.lock) h in
    inr (next_else (file_left p.lock h) (stat_ends path c) (stat_else path c))
part_else path m (part.Take p) h = inr (take_else path m p h)
part_else path m (part.Relock p) h = inr (relock_else path m p h)
part_else path m (part.ReadFile p) h = inr (read_else path p h)
part_else path m (part.WriteFile p) h = inr (write_else path p h)

-- ---- from the theory to code

-- the same of what the operation is answered
abbrev AnswersElse : code.P (Handover above.ClaimResult Carry) → Type 0
AnswersElse (Ret r) = is_no_place r.answer ≡ false
AnswersElse (Do o m k) = Unit {0}

abbrev NextAnswersElse : code.P (Handover above.ClaimResult Carry) → Type 0
NextAnswersElse (Ret r) = Unit {0}
NextAnswersElse (Do o m k) = (a : steps.Answer o) → AnswersElse (k a)

module _ (s : whole.InodeType) where
  answers_else : (p : Part) → HearsElse p → AnswersElse (bind p (λ r. Ret (handed (above.Claim s) r)))
  answers_else (Ret r) hears = hears
  answers_else (Do o m k) hears = tt

  next_answers_else : (p : Part) → NextElse p → NextAnswersElse (bind p (λ r. Ret (handed (above.Claim s) r)))
  next_answers_else (Ret r) next = tt
  next_answers_else (Do o m k) next = λ a. answers_else (k a) (next a)

-- A claim that gives its block back is such a part in code.
pub gives_lacks : (version : Version) (u : UnderWay) (l : Lowered) (h : Hand) → StandsAt version u l h → GivesBackOf u.op u.left → lacks_place l ≡ true
gives_lacks version u l h stands gives = by u.op u.left stands.part gives (part_else (text_in l.call) l.notes l.part h)
  where
    by : (op : above.Op) (left : P (Handover (above.Answer op) Carry)) → plain left ≡ bind (part_of l h) (λ r. Ret (handed op r)) → GivesBackOf op left
        → (lacks_place l ≡ true) ⊎ NextElse (part_of l h) → lacks_place l ≡ true
    by (above.Claim s) left is gives (inl lacks) = lacks
    by (above.Claim s) left is gives (inr next) =
        absurd (let told : true ≡ false = subst NextAnswersElse (sym is ∙ ap plain gives.is) (next_answers_else s (part_of l h) next) tt in cc)
    by op left is gives o = absurd gives

-- ---- from code to the theory

-- it gives a block back, and ends in that step
abbrev GivesNext : Part → Type 0
GivesNext p = (block : ℕ) × (text : List ℕ) × (carry : Carry)
    × (p ≡ Do (steps.Put block None) unmarked (λ _. Ret (record { answer = (text, heard.Claimed claimed.NoPlace); carry = carry })))

claim_gives : (text : List ℕ) (c : Carry) (n : NewInode) (h : Hand) → gives_back n ≡ true → GivesNext (bind (new_left n h) (claim_ends text c))
claim_gives text c (new.GiveBack k l) h e = (block_at First h, text, c, refl)
claim_gives text c n h e = absurd cc

part_gives : (path : List ℕ) (m : Notes) (q : InodePart) (h : Hand) → finds_no_place q ≡ true → GivesNext (part_left path m q h)
part_gives path m (part.Claim p) h e = claim_gives path (carry_in path m h) p.claim h e
part_gives path m q h e = absurd cc

-- So the part's next step ends it, and hears that there was no place.
pub lacks_next : (l : Lowered) (h : Hand) → lacks_place l ≡ true → (block : ℕ) × (text : List ℕ) × (carry : Carry)
    × (part_of l h ≡ Do (steps.Put block None) unmarked (λ _. Ret (record { answer = (text, heard.Claimed claimed.NoPlace); carry = carry })))
lacks_next l h lacks = part_gives (text_in l.call) l.notes l.part h lacks

-- its operation is a claim
abbrev pub Claims : above.Op → Type 0
Claims op = (s : whole.InodeType) × (op ≡ above.Claim s)

part_claims : (version : Version) (path : List ℕ) (op : above.Op) (start : Having) (q : InodePart) (now : Having) → finds_no_place q ≡ true
    → IsUnderWay version path op start q now → Claims op
part_claims version path op start (part.Claim p) now e under = by op under.0
  where
    by : (op : above.Op) → LongAmid version path op start.hand (part.Claim p) now.hand → Claims op
    by (above.Claim s) a = (s, refl)
    by op a = absurd a
part_claims version path op start q now e under = absurd cc

-- the call asks to claim, whatever text it has by then
claim_with : (version : Version) (ns : List ℕ) (w : Whole) (text : List ℕ) (s : whole.InodeType) → asks (whole_of version ns w) ≡ Some (above.Claim s) → asks (whole_with version ns w text) ≡ Some (above.Claim s)
claim_with version ns (wholes.Read fd buf (reading.Part n offset)) text s e = absurd cc
claim_with version ns (wholes.Read fd buf reading.Lock) text s e = e
claim_with version ns (wholes.Read fd buf (reading.Says count)) text s e = e
claim_with version ns w text s e = e

-- so the operation under way is a claim
pub lacks_claims : (sizes : Super) (u : UnderWay) (l : Lowered) (h : Hand) → l.sizes ≡ sizes → StandsAt sizes.version u l h → LoweredReady l h → lacks_place l ≡ true
    → Claims u.op
lacks_claims sizes u l h sized stands ready lacks =
    let claims = part_claims l.sizes.version (text_in l.call) ready.way.op ready.way.start l.part _ lacks ready.way.under in
    let asked : asks (whole_of sizes.version l.list l.call) ≡ Some (above.Claim claims.0) =
    subst (λ (s : Super). asks (whole_of s.version l.list l.call) ≡ Some (above.Claim claims.0)) sized (ready.way.asked ∙ ap Some claims.1) in
    (claims.0, Some-inj u.op (above.Claim claims.0) (ap asks stands.program ∙ claim_with sizes.version l.list l.call stands.text claims.0 asked))

-- the rest of it, but for the marks
abbrev pub GivesBackPlainly : (op : above.Op) → P (Handover (above.Answer op) Carry) → Type 0
GivesBackPlainly (above.Claim s) left = (block : ℕ) × (carry : Carry)
    × (plain left ≡ Do (steps.Put block None) unmarked (λ _. Ret (record { answer = above.NoPlace; carry = carry })))
GivesBackPlainly op left = ⊥

pub lacks_gives_plainly : (sizes : Super) (u : UnderWay) (l : Lowered) (h : Hand) → l.sizes ≡ sizes → StandsAt sizes.version u l h → LoweredReady l h
    → lacks_place l ≡ true → GivesBackPlainly u.op u.left
lacks_gives_plainly sizes u l h sized stands ready lacks = by u.op u.left (lacks_claims sizes u l h sized stands ready lacks) stands.part
  where
    by : (op : above.Op) (left : P (Handover (above.Answer op) Carry)) → Claims op → plain left ≡ bind (part_of l h) (λ r. Ret (handed op r)) → GivesBackPlainly op left
    by (above.Claim s) left claims is =
        let next = lacks_next l h lacks in
        (next.0, next.2, is ∙ ap (λ (p : Part). bind p (λ r. Ret (handed (above.Claim s) r))) next.3)
    by op left claims is = absurd (let e = claims.1 in cc)

-- ---- nothing is marked as a block is given back

abbrev IsSilent : (o : steps.Op) → (steps.Answer o → Option Acts) → Type 0
IsSilent (steps.Put b change) m = m tt ≡ None
IsSilent o m = Unit {0}

abbrev GivesSilently : {A : Type 0} → P A → Type 0
GivesSilently (Ret a) = Unit {0}
GivesSilently (Do o m k) = IsSilent o m × ((a : steps.Answer o) → GivesSilently (k a))

silent_bound : {A B : Type 0} (p : P A) (f : A → P B) → GivesSilently p → ((a : A) → GivesSilently (f a)) → GivesSilently (bind p f)
silent_bound (Ret a) f silent then_ = then_ a
silent_bound (Do o m k) f silent then_ = (silent.0, λ a. silent_bound (k a) f (silent.1 a) then_)

silent_after : {A : Type 0} (p : P A) (es : List AnsweredStep) (q : P A) → LeadTo p es q → GivesSilently p → GivesSilently q
silent_after p [] q leads silent = subst GivesSilently leads silent
silent_after (Ret a) (e ∷ es) q leads silent = absurd leads
silent_after (Do o m k) (e ∷ es) q leads silent = silent_after (k leads.0) es q leads.2 (silent.1 leads.0)

silent_fetch : (b : ℕ) → let p : P (List ℕ) = fetch b in GivesSilently p
silent_fetch b = (tt, by)
  where
    by : (o : Option (List ℕ)) → let p : P (List ℕ) = read_unless b o in GivesSilently p
    by (Some bytes) = tt
    by None = (tt, λ a. tt)

module _ (sizes : Super) (s : whole.InodeType) (c : Carry) (m : above.ClaimResult → Option above.Mark) where
  looks_silently : (more : P (Handover above.ClaimResult Carry)) → GivesSilently more → (n q b : ℕ) (block : List ℕ) → GivesSilently (claim_at more sizes s c m n q b block)
  looks_silently more silent n q b block = (tt, by)
    where
      by : (a : steps.ClaimResult) → GivesSilently (claim_in more (kind_of s) b block c a)
      by (steps.Claims i) = (refl, λ a. tt)
      by steps.NoPlace = (refl, λ a. tt)
      by steps.NoInode = silent

  silent_claim : (n q : ℕ) → GivesSilently (claim_from n sizes s c m q)
  unfolding claim_from
  silent_claim zero q = tt
  silent_claim (suc n) q =
      let more = claim_from n sizes s c m (q + 1) in
      let b = sizes.inodestart + q in
      silent_bound (fetch b) (claim_at more sizes s c m n q b) (silent_fetch b) (looks_silently more (silent_claim n (q + 1)) n q b)

-- how a program goes on that gives a block back
abbrev past : {A : Type 0} → code.P A → code.P A
past (Do (steps.Put b change) m k) = k tt
past p = p

gives_so : (left : P (Handover above.ClaimResult Carry)) (b : ℕ) (c : Carry) → plain left ≡ Do (steps.Put b None) unmarked (λ _. Ret (record { answer = above.NoPlace; carry = c }))
    → GivesSilently left → GivesBack left
gives_so (Ret r) b c e silent = absurd (let q : true ≡ false = ap at_end e in cc)
gives_so (Do (steps.Put d None) m k) b c e silent =
    let ends = plain_end (k tt) (record { answer = above.NoPlace; carry = c }) (ap past e) in
    record { block = d; carry = c; is = λ i. Do (steps.Put d None) (λ x. silent.0 i) (λ x. ends i) }
gives_so (Do o m k) b c e silent = absurd (let q : Some o ≡ Some (steps.Put b None) = ap asks_below e in cc)

-- Such a part in code is that of a claim that gives its block back, if the rest of it is what its steps led to.
pub lacks_gives : (sizes : Super) (u : UnderWay) (l : Lowered) (h : Hand) → LeadTo (handlers sizes u.hand u.op u.mark) u.ran u.left → l.sizes ≡ sizes
    → StandsAt sizes.version u l h → LoweredReady l h → lacks_place l ≡ true → GivesBackOf u.op u.left
lacks_gives sizes u l h leads sized stands ready lacks = by u.op u.mark u.left leads (lacks_gives_plainly sizes u l h sized stands ready lacks)
  where
    by : (op : above.Op) (m : above.Answer op → Option above.Mark) (left : P (Handover (above.Answer op) Carry)) → LeadTo (handlers sizes u.hand op m) u.ran left → GivesBackPlainly op left
        → GivesBackOf op left
    by (above.Claim s) m left leads gives = gives_so left gives.0 gives.1 gives.2 (silent_after (handlers sizes u.hand (above.Claim s) m) u.ran left leads (silent_claim sizes s u.hand m (inode_blocks sizes.ninodes) 0))
    by op m left leads gives = absurd gives
