-- A write of a commit changes nothing that is seen outside the log, and nothing of the other harts.
use Rattle.inodes_on_blocks.proofs.Vocabulary.{◌≡◌, ◌≢◌, ◌⊎◌, inl, inr, ℕ, zero, suc, ◌+◌, ◌<◌, ◌≤◌, ◌==◌, Bool, true, false, List, [], ◌∷◌, Option, Some, None, length, refl, sym, ◌∙◌, ap, subst, arith, is_some, if◌then◌else◌, option_and_then, nat_tests, nat_lt, Super, IsOutsideLog, IsBytes, SeatState, seat_of, holder_of, kept, Phase, Open, Staging, Installing, Halted, IsMember, PinsFit, pick, open_of, eq_not, inode_of, seen_blocks, LogPart, Own, own_of, mine_of, seen_of, IsWholeLog, if_kept, is_hart, is_joined, loaded, World, log_of, disk_of, tables_of, Shows, CommitShows, ghost_of, on_blocks, Same, commit_in, buffer_in}
use Rattle.buffer_cache.specs.Seats.{is_number}
use Rattle.inodes_on_blocks.proofs.SeenDisks.{seen_stays}
use Rattle.inode_machine.specs.World as above
use Rattle.inodes_on_blocks.proofs.Groups.{has_members}
use Rattle.inodes_on_blocks.proofs.Layer.{kept_alike}
use Rattle.inodes_on_blocks.proofs.News.{new_alike}
use Rattle.inodes_on_blocks.proofs.Quiet.{unseen_keeps}

-- ---- who commits

pub is_member : (members : List (Option ℕ)) (h : ℕ) → is_joined members h ≡ true → IsMember members h
is_member [] h e = absurd (let q : false ≡ true = e in cc)
is_member (None ∷ ms) zero e = absurd (let q : false ≡ true = e in cc)
is_member (Some k ∷ ms) zero e = tt
is_member (None ∷ ms) (suc h) e = is_member ms h e
is_member (Some k ∷ ms) (suc h) e = is_member ms h e

-- while a hart is in a transaction nobody commits
pub nobody_commits : (h : ℕ) (r : World) (g : above.World) → Shows r g → IsMember (log_of r).members h → r.commits ≡ None
nobody_commits h r g shows member = at r.commits shows.commit
  where
    at : (o : Option ℕ) → CommitShows o (log_of r).phase → o ≡ None
    at None shown = refl
    at (Some k) shown = absurd (shown (open_of (log_of r).phase (log_of r).members h shows.whole.log.quiet shows.runs member))

pub commit_none : {A : Type 0} (k : ℕ) (o : Option ℕ) (x y : A) → o ≡ None → if_kept o k x ≡ if_kept o k y
commit_none {A} k None x y e = refl
commit_none {A} k (Some g) x y e = absurd (cc e)

pub commit_other : {A : Type 0} (k h : ℕ) (x : A) → k ≢ h → if_kept (Some h) k x ≡ None
commit_other {A} k h x ne = ap (λ (t : Bool). if t then Some x else None) (eq_not h k (λ e. ne (sym e)))

-- ---- buffers in a hand

abbrev held_with : Option (Option (List ℕ)) → List ℕ → Option (List ℕ × Bool)
held_with None bytes = None
held_with (Some content) bytes = Some (bytes, is_some content)

view_with : (g b : ℕ) (ss : List SeatState) (bytes : List ℕ) → if_kept (holder_of b ss) g (bytes, is_some (kept b ss)) ≡ held_with (mine_of g (seat_of b ss)) bytes
view_with g b ss bytes = at (seat_of b ss)
  where
    by : (s : SeatState) (o : Option ℕ) → if_kept o g (bytes, is_some s.content) ≡ held_with (if is_number g o then Some s.content else None) bytes
    by s None = refl
    by s (Some k) =
        pick (k == g) (λ t. ◌≡◌ {A = Option (List ℕ × Bool)} (if t then Some (bytes, is_some s.content) else None) (held_with (if t then Some s.content else None) bytes))
        (λ _. refl) (λ _. refl)

    at : (o : Option SeatState)
        → if_kept (option_and_then (λ (s : SeatState). s.holder) o) g (bytes, is_some (option_and_then (λ (s : SeatState). s.content) o)) ≡ held_with (mine_of g o) bytes
    at None = refl
    at (Some s) = by s s.holder

-- a block is outside the log, or in it
in_or_out : (sizes : Super) (b : ℕ) → IsOutsideLog sizes b ⊎ ((sizes.logstart ≤ b) × (b < sizes.logstart + sizes.nlog))
in_or_out sizes b = by_start (nat_lt b sizes.logstart) refl
  where
    by_end : sizes.logstart ≤ b → (t : Bool) → nat_lt b (sizes.logstart + sizes.nlog) ≡ t → IsOutsideLog sizes b ⊎ ((sizes.logstart ≤ b) × (b < sizes.logstart + sizes.nlog))
    by_end low true e = inr (low, grind (arith, e, nat_tests))
    by_end low false e = inl (inr (grind (arith, e, nat_tests)))

    by_start : (t : Bool) → nat_lt b sizes.logstart ≡ t → IsOutsideLog sizes b ⊎ ((sizes.logstart ≤ b) × (b < sizes.logstart + sizes.nlog))
    by_start true e = inl (inl (grind (arith, e, nat_tests)))
    by_start false e = by_end (grind (arith, e, nat_tests)) (nat_lt b (sizes.logstart + sizes.nlog)) refl

-- no buffer has a block of the log
pins_apart : (sizes : Super) (ss : List SeatState) (group : List ℕ) (p : Phase) → p ≢ Halted → PinsFit sizes ss group p → (b : ℕ) → sizes.logstart ≤ b → b < sizes.logstart + sizes.nlog → seat_of b ss ≡ None
pins_apart sizes ss group Open runs fits = fits.apart
pins_apart sizes ss group (Staging i) runs fits = fits.apart
pins_apart sizes ss group (Installing i) runs fits = fits.apart
pins_apart sizes ss group Halted runs fits = λ b low high. absurd (runs refl)

-- ---- a step of hart h after which the log is m, and nothing else is seen outside it

abbrev pub with_log : World → LogPart → Option ℕ → World
with_log v m commits = record v { state = record (v.state) { log = m }; commits = commits }

abbrev pub written_to : LogPart → List (List ℕ) → ℕ → List SeatState → List ℕ → Phase → LogPart
written_to l contents failures seats group phase = record l { contents = contents; failures = failures; seats = seats; group = group; phase = phase }

pub record LeavesSeen (h : ℕ) (l m : LogPart) : Type 0 where
  pub alike : (k : ℕ) → IsOutsideLog l.sizes k → seen_of m k ≡ seen_of l k
  pub own : (g : ℕ) → g ≢ h → own_of g m ≡ own_of g l

module _ (h : ℕ) (v : World) (g : above.World) (shows : Shows v g) (contents : List (List ℕ)) (failures : ℕ) (seats : List SeatState) (group : List ℕ) (phase : Phase) (commits : Option ℕ)
    (leaves : LeavesSeen h (log_of v) (written_to (log_of v) contents failures seats group phase)) where
  abbrev l : LogPart
  l = log_of v

  abbrev m : LogPart
  m = written_to (log_of v) contents failures seats group phase

  abbrev pub after : World
  after = with_log v m commits

  long_same : length contents ≡ length l.contents
  long_same = ap (λ (o : Own). o.blocks) (leaves.own (suc h) (λ e. absurd (omega (arith, e))))

  disk_same : disk_of m ≡ disk_of l
  disk_same = ap (λ (n : ℕ). seen_blocks l.sizes (seen_of m) n) long_same ∙ (seen_stays l.sizes (seen_of l) (seen_of m) (length l.contents) shows.blocks.seen (λ k lt out. leaves.alike k out)).1

  pub written_shows : IsWholeLog m → phase ≢ Halted → CommitShows commits phase → Shows after g
  written_shows whole runs commit = record {
    whole = whole;
    runs = runs;
    size = shows.size;
    tables = shows.tables;
    members = shows.members;
    blocks = unseen_keeps l.contents l.seats l.sizes l.members (ghost_of v.owner v.left (on_blocks v.new g.disk) g.lock g.desks) shows.blocks contents seats long_same (λ k lt out. leaves.alike k out);
    bytes = λ b lt out. subst IsBytes (sym (leaves.alike b out)) (shows.bytes b (subst (λ (n : ℕ). b < n) long_same lt) out);
    taken = shows.taken;
    commit = commit;
    news = λ n k e. new_alike n k l m g.lock g.keeper (loaded (tables_of v)) refl refl (ap (λ (x : List (List ℕ)). inode_of x n) disk_same) (shows.news n k e);
    loads = record { seen = λ n d e. shows.loads.seen n d e ∙ sym (ap (λ (x : List (List ℕ)). inode_of x n) disk_same); dead = shows.loads.dead; typed = shows.loads.typed; indexed = shows.loads.indexed };
    offsets = shows.offsets;
  }

  buffers_same : (other b : ℕ) → other ≢ h → if_kept (holder_of b seats) other (buffer_in m b) ≡ if_kept (holder_of b l.seats) other (buffer_in l b)
  buffers_same other b ne =
      let seat : mine_of other (seat_of b seats) ≡ mine_of other (seat_of b l.seats) = ap (λ (o : Own). o.buffers b) (leaves.own other ne) in
      view_with other b seats (seen_of m b)
      ∙ elim (in_or_out l.sizes b) [
        | inl out ↦ ap (λ (o : Option (Option (List ℕ))). held_with o (seen_of m b)) seat ∙ ap (held_with (mine_of other (seat_of b l.seats))) (leaves.alike b out)
        | inr inside ↦
            let none : mine_of other (seat_of b l.seats) ≡ None = ap (mine_of other) (pins_apart l.sizes l.seats l.group l.phase shows.runs shows.whole.log.buffers b inside.0 inside.1) in
            ap (λ (o : Option (Option (List ℕ))). held_with o (seen_of m b)) (seat ∙ none) ∙ sym (ap (λ (o : Option (Option (List ℕ))). held_with o (seen_of l b)) none)
      ]
      ∙ sym (view_with other b l.seats (seen_of l b))

  taken_same : (other b : ℕ) → (o : Option ℕ) → v.taken b ≡ o → if_kept o other (seen_of m b) ≡ if_kept o other (seen_of l b)
  taken_same other b None e = refl
  taken_same other b (Some k) e = ap (λ (x : List ℕ). if_kept (Some k) other x) (leaves.alike b (shows.taken b k e).2)

  pub written_same : (other : ℕ) → other ≢ h → v.commits ≢ None → if_kept commits other (commit_in m) ≡ if_kept v.commits other (commit_in l) → Same other v after
  written_same other ne under commit = record {
    inodes = λ i e. kept_alike other i v after e disk_same refl;
    no_more = λ i e. e;
    buffers = λ b. buffers_same other b ne;
    held = ap (λ (o : Own). o.count) (leaves.own other ne);
    member = refl;
    group = λ b k at e. absurd (under (nobody_commits other v g shows (has_members l.members other k at)));
    sizes = refl;
    taken = λ b. taken_same other b (v.taken b) refl;
    begun = λ z. (commit z, λ n. is_hart (v.new n) other);
  }
