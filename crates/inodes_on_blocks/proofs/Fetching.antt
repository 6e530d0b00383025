-- A block's buffer is taken, and given back, below: nothing of it is seen above.
use Rattle.inodes_on_blocks.proofs.Vocabulary.{◌≡◌, ◌≢◌, ℕ, suc, ◌<◌, ◌≤◌, Bool, true, false, List, Option, Some, None, length, refl, sym, ◌∙◌, ap, subst, arith, is_some, IsSome, unwrap_or, Super, IsBytes, IsOutsideLog, block_at, get_of, SeatState, seat_of, holder_of, kept, seen_in, with_seat, with_content, given_back, Got, GetLaws, get_laws, hart_count, inode_of, Do, bind, unmarked, ExecResult, Machine, Laws, P, Wp, Both, joined, Stable, Here, Silent, s-silent, Wp-more, lock_holder, LogPart, Outside, Passes, Fails, with_seats, failed, got_by, own_of, mine_of, Own, fetch, read_unless, seen_of, Get, Read, Put, IsElsewhere, IsWholeLog, After, keeps_whole, leaves_own, shows_its_puts, if_kept, Inv, kept_is, kept_here, loaded, World, log_of, tables_of, disk_of, came_to, exec, shown, Shows, ghost_of, on_blocks, KeepsInode, Same, Kept, below, buffer_in, Labels, labelled, Keeps, in_hand, HasBuffer, SameBut, IsFetched, PutBack}
use Rattle.buffer_cache.specs.declared.got.Got.TheVariants as got
use Rattle.inodes_on_blocks.proofs.SeenDisks.{seen_stays}
use Rattle.fs_machine.specs.Steps as steps
use Rattle.fs_machine.specs.Premises as premises
use Rattle.inode_machine.specs.World as above
use Rattle.inodes_on_blocks.proofs.Alone.{kept_then}
use Rattle.inodes_on_blocks.proofs.Hands.{CameInHand, IfGot, got_hand, IsRead, read_hand, GivenBack, back_hand, same_view}
use Rattle.inodes_on_blocks.proofs.Layer.{below_laws, held_back, untouched_then, kept_alike}
use Rattle.inodes_on_blocks.proofs.News.{new_alike}
use Rattle.inodes_on_blocks.proofs.Quiet.{unseen_keeps}

-- ---- what a hart has, over its own steps and those of others

pub but_same : (h b : ℕ) (v w : World) → Same h v w → SameBut h b v w
but_same h b v w s = record { inodes = s.inodes; no_more = s.no_more; buffers = λ k ne. s.buffers k; member = s.member; group = s.group; taken = s.taken; begun = s.begun; sizes = s.sizes }

pub but_then : (h b : ℕ) (u v w : World) → SameBut h b u v → SameBut h b v w → SameBut h b u w
but_then h b u v w p q = record {
  inodes = λ i e. let x = p.inodes i e in let y = q.inodes i x.lock in record { lock = y.lock; untouched = untouched_then (disk_of (log_of u)) (disk_of (log_of v)) (disk_of (log_of w)) u.owner v.owner w.owner i x.untouched y.untouched };
  no_more = λ i e. p.no_more i (q.no_more i e);
  buffers = λ k ne. q.buffers k ne ∙ p.buffers k ne;
  member = q.member ∙ p.member;
  group = λ b k m e. q.group b k (p.member ∙ m) (p.group b k m e);
  taken = λ k. q.taken k ∙ p.taken k;
  begun = q.begun ∙ p.begun;
  sizes = q.sizes ∙ p.sizes;
}

-- what is known of one buffer's seat
abbrev pub SameBuffer : ℕ → ℕ → World → World → Type 0
SameBuffer h b v w = if_kept (holder_of b (log_of w).seats) h (buffer_in (log_of w) b) ≡ if_kept (holder_of b (log_of v).seats) h (buffer_in (log_of v) b)

-- a buffer in hand stays so
pub held_then : (h b : ℕ) (v w : World) → SameBuffer h b v w → holder_of b (log_of v).seats ≡ Some h → (holder_of b (log_of w).seats ≡ Some h) × (buffer_in (log_of w) b ≡ buffer_in (log_of v) b)
held_then h b v w same out = kept_is h (holder_of b (log_of w).seats) (buffer_in (log_of w) b) (buffer_in (log_of v) b) (same ∙ kept_here h (holder_of b (log_of v).seats) (buffer_in (log_of v) b) out)

-- and so do its bytes
pub buffer_then : (h b : ℕ) (bytes : List ℕ) (v w : World) → SameBuffer h b v w → HasBuffer h b bytes v → HasBuffer h b bytes w
buffer_then h b bytes v w same buffer =
    let now = held_then h b v w same buffer.holder in
    record {
      holder = now.0;
      has = by_kept (kept b (log_of w).seats) (block_at (log_of w).contents b) (now.1 ∙ ap (λ (o : Option (List ℕ)). (unwrap_or o (block_at (log_of v).contents b), is_some o)) buffer.has);
    }
  where
    by_kept : (o : Option (List ℕ)) (d : List ℕ) → ◌≡◌ {A = List ℕ × Bool} (unwrap_or o d, is_some o) (bytes, true) → o ≡ Some bytes
    by_kept None d e = let clash : false ≡ true = ap (λ (p : List ℕ × Bool). p.1) e in absurd (cc clash)
    by_kept (Some x) d e = ap (λ (y : List ℕ). Some y) (ap (λ (p : List ℕ × Bool). p.0) e)

pub buffer_but : (h b k : ℕ) (bytes : List ℕ) (v w : World) → SameBut h b v w → k ≢ b → HasBuffer h k bytes v → HasBuffer h k bytes w
buffer_but h b k bytes v w s ne buffer = buffer_then h k bytes v w (s.buffers k ne) buffer

-- what is seen of its block
pub buffer_seen : (h b : ℕ) (bytes : List ℕ) (v : World) → HasBuffer h b bytes v → seen_of (log_of v) b ≡ bytes
buffer_seen h b bytes v buffer = ap (λ (o : Option (List ℕ)). unwrap_or o (block_at (log_of v).contents b)) buffer.has

unread_then : (h b : ℕ) (v w : World) → SameBuffer h b v w → holder_of b (log_of v).seats ≡ Some h → kept b (log_of v).seats ≡ None → kept b (log_of w).seats ≡ None
unread_then h b v w same out unread =
    let now = held_then h b v w same out in
    by_kept (kept b (log_of w).seats) (ap (λ (p : List ℕ × Bool). p.1) now.1 ∙ ap (λ (o : Option (List ℕ)). is_some o) unread)
  where
    by_kept : (o : Option (List ℕ)) → is_some o ≡ false → o ≡ None
    by_kept None e = refl
    by_kept (Some x) e = absurd (cc e)

-- ---- a step that changes buffers alone

abbrev pub with_buffers : World → List SeatState → World
with_buffers v ss = record v { state = record (v.state) { log = with_seats (log_of v) ss } }

-- nothing else that is seen, and nothing of the other harts
pub record IsQuiet (h : ℕ) (l : LogPart) (ss : List SeatState) : Type 0 where
  pub whole : IsWholeLog (with_seats l ss)
  pub alike : (k : ℕ) → IsOutsideLog l.sizes k → seen_in l.contents ss k ≡ seen_in l.contents l.seats k
  pub own : (g : ℕ) → g ≢ h → own_of g (with_seats l ss) ≡ own_of g l

module _ (h : ℕ) (v : World) (g : above.World) (shows : Shows v g) (ss : List SeatState) (quiet : IsQuiet h (log_of v) ss) where
  quiet_disk : disk_of (with_seats (log_of v) ss) ≡ disk_of (log_of v)
  quiet_disk =
      (seen_stays (log_of v).sizes (seen_in (log_of v).contents (log_of v).seats) (seen_in (log_of v).contents ss) (length (log_of v).contents) shows.blocks.seen (λ k l out. quiet.alike k out)).1

  quiet_inode : (k i : ℕ) → lock_holder i (tables_of v) ≡ Some k → KeepsInode k i v (with_buffers v ss)
  quiet_inode k i e = kept_alike k i v (with_buffers v ss) e quiet_disk refl

  -- what a hart has taken is outside the log
  quiet_taken : (k b : ℕ) → if_kept (v.taken b) k (seen_of (with_seats (log_of v) ss) b) ≡ if_kept (v.taken b) k (seen_of (log_of v) b)
  quiet_taken k b = by (v.taken b) refl
    where
      by : (t : Option ℕ) → v.taken b ≡ t → if_kept t k (seen_of (with_seats (log_of v) ss) b) ≡ if_kept t k (seen_of (log_of v) b)
      by None e = refl
      by (Some j) e = ap (λ (x : List ℕ). if_kept (Some j) k x) (quiet.alike b (shows.taken b j e).2)

  pub quiet_shows : Shows (with_buffers v ss) g
  quiet_shows = record {
    whole = quiet.whole;
    runs = shows.runs;
    size = shows.size;
    tables = shows.tables;
    members = shows.members;
    blocks = unseen_keeps (log_of v).contents (log_of v).seats (log_of v).sizes (log_of v).members (ghost_of v.owner v.left (on_blocks v.new g.disk) g.lock g.desks) shows.blocks (log_of v).contents ss refl (λ k l out. quiet.alike k out);
    bytes = λ b within out. subst IsBytes (sym (quiet.alike b out)) (shows.bytes b within out);
    taken = shows.taken;
    commit = shows.commit;
    news = λ n k e. new_alike n k (log_of v) (with_seats (log_of v) ss) g.lock g.keeper (loaded (tables_of v)) refl refl (ap (λ (x : List (List ℕ)). inode_of x n) quiet_disk) (shows.news n k e);
    loads = record { seen = λ n d e. shows.loads.seen n d e ∙ sym (ap (λ (x : List (List ℕ)). inode_of x n) quiet_disk); dead = shows.loads.dead; typed = shows.loads.typed; indexed = shows.loads.indexed };
    offsets = shows.offsets;
  }

  pub quiet_others : (other : ℕ) → other ≢ h → Same other v (with_buffers v ss)
  quiet_others other ne =
      let own = quiet.own other ne in
      record {
        inodes = λ i e. quiet_inode other i e;
        no_more = λ i e. e;
        buffers = λ b. same_view other b (log_of v) (with_seats (log_of v) ss) (ap (λ (o : Own). o.buffers b) own) refl;
        held = ap (λ (o : Own). o.count) own;
        member = refl;
        group = λ b k m e. e;
        taken = quiet_taken other;
        begun = refl;
        sizes = refl;
      }

  -- of the hart's own all but the buffer that it changed
  pub quiet_but : (b : ℕ) → ((k : ℕ) → k ≢ b → mine_of h (seat_of k ss) ≡ mine_of h (seat_of k (log_of v).seats)) → SameBut h b v (with_buffers v ss)
  quiet_but b others = record {
    inodes = λ i e. quiet_inode h i e;
    no_more = λ i e. e;
    buffers = λ k ne. same_view h k (log_of v) (with_seats (log_of v) ss) (others k ne) refl;
    member = refl;
    group = λ b k m e. e;
    taken = quiet_taken h;
    begun = refl;
    sizes = refl;
  }

-- the device failed, and left the blocks as they were
failed_others : (v : World) (after : List (List ℕ)) → after ≡ (log_of v).contents → (other : ℕ) → Same other v (record v { state = record (v.state) { log = failed (log_of v) after } })
failed_others v after is other =
    record {
      inodes = λ i e. kept_alike other i v (record v { state = record (v.state) { log = failed (log_of v) after } }) e (ap (λ (d : List (List ℕ)). shown d (log_of v).seats (log_of v).sizes) is) refl;
      no_more = λ i e. e;
      buffers = λ b. ap (λ (d : List (List ℕ)). if_kept (holder_of b (log_of v).seats) other (seen_in d (log_of v).seats b, is_some (kept b (log_of v).seats))) is;
      held = refl;
      member = refl;
      group = λ b k m e. e;
      taken = λ b. ap (λ (d : List (List ℕ)). if_kept (v.taken b) other (seen_in d (log_of v).seats b)) is;
      begun = refl;
      sizes = refl;
    }

-- ---- the rules

module _ (sizes : Super) (l : Labels) (laws : Laws (labelled sizes.version l)) (keeps : Keeps l) (h : ℕ) (lt : h < hart_count) (B : List l.Step → Type 0) where
  abbrev W : Type 0
  W = Both World above.World

  abbrev M : Machine
  M = joined (labelled sizes.version l) (below sizes)

  elsewhere : (o : Option ℕ) → IsSome o → (o ≢ Some h) → IsElsewhere h o
  elsewhere None is ne = let isnt : IsSome {T = ℕ} None = is in absurd (cc isnt)
  elsewhere (Some g) is ne = (g, λ e. ne (ap (λ (z : ℕ). Some z) e), refl)

  abbrev IsSilent : {A : Type 0} → W → Type 0 → ExecResult A World → (A → World → Type 0) → Type 0
  IsSilent v wait d N = Silent (labelled sizes.version l) (below sizes) laws (below_laws sizes l keeps) h B v wait d N

  -- a buffer is got, or another hart has it
  get_silent : (x : Outside) (b : ℕ) (v : W) (N : Option (List ℕ) → World → Type 0) → Shows v.real v.seen → premises.May h (Get b) v.real.state
      → ((ss : List SeatState) (content : Option (List ℕ)) → CameInHand h b (log_of v.real).seats ss content → IsQuiet h (log_of v.real) ss → N content (with_buffers v.real ss))
      → IsSilent v (premises.MayWait h (Get b) v.real.state) (exec h x (Get b) v.real) N
  unfolding steps.exec premises.May premises.MayWait premises.Honest
  get_silent x b v N shows may rest =
      by (get_of h b (log_of v.real).seats) (get_laws (log_of v.real).contents h b (log_of v.real).seats may.0 may.1 shows.whole.cache) (got_hand h b (log_of v.real).seats shows.whole.cache.once)
      (keeps_whole h x (Get b) v.real.state shows.whole may tt) (shows_its_puts h x (Get b) v.real.state shows.whole may tt) (λ g ne. leaves_own h g x (Get b) v.real.state ne shows.whole may tt)
    where
      by : (r : List SeatState × Got) → GetLaws (log_of v.real).contents h b (log_of v.real).seats r → IfGot h b (log_of v.real).seats r
          → After (λ t. IsWholeLog t.log) (steps.in_log v.real.state (got_by (log_of v.real) r))
          → After (λ t. (k : ℕ) → IsOutsideLog (log_of v.real).sizes k → seen_of t.log k ≡ seen_of (log_of v.real) k) (steps.in_log v.real.state (got_by (log_of v.real) r))
          → ((g : ℕ) → g ≢ h → After (λ t. own_of g t.log ≡ own_of g (log_of v.real)) (steps.in_log v.real.state (got_by (log_of v.real) r)))
          → IsSilent v (IsElsewhere h (holder_of b (log_of v.real).seats)) (came_to h (Get b) v.real (steps.in_log v.real.state (got_by (log_of v.real) r))) N
      by (ss, got.Held guard) laws_ came whole alike own =
          let quiet : IsQuiet h (log_of v.real) ss = record { whole = whole; alike = alike; own = own } in
          (quiet_shows h v.real v.seen shows ss quiet, quiet_others h v.real v.seen shows ss quiet, rest ss guard.value.content came quiet)
      by (ss, got.Waits) laws_ came whole alike own = elsewhere (holder_of b (log_of v.real).seats) (laws_.waits.0 refl) may.3

  -- a block is read into it, or the device fails
  read_silent : (x : Outside) (b : ℕ) (v : W) (N : List ℕ → World → Type 0) → Shows v.real v.seen → premises.May h (Read b) v.real.state → premises.Honest h (Read b) v.real.state x
      → ((ss : List SeatState) (bytes : List ℕ) → IsRead h b bytes (log_of v.real).seats ss → IsQuiet h (log_of v.real) ss → N bytes (with_buffers v.real ss))
      → IsSilent v (premises.MayWait h (Read b) v.real.state) (exec h x (Read b) v.real) N
  unfolding steps.exec premises.May premises.MayWait premises.Honest
  read_silent Passes b v N shows may honest rest =
      let bytes = block_at (log_of v.real).contents b in
      let ss = with_seat b (with_content bytes) (log_of v.real).seats in
      let quiet : IsQuiet h (log_of v.real) ss = record {
        whole = keeps_whole h Passes (Read b) v.real.state shows.whole may honest;
        alike = shows_its_puts h Passes (Read b) v.real.state shows.whole may honest;
        own = λ g ne. leaves_own h g Passes (Read b) v.real.state ne shows.whole may honest;
      } in
      (quiet_shows h v.real v.seen shows ss quiet, quiet_others h v.real v.seen shows ss quiet, rest ss bytes (read_hand h b bytes (log_of v.real).seats may.0) quiet)
  read_silent (Fails after) b v N shows may honest rest = (record { tables = shows.tables; members = shows.members }, λ g ne. failed_others v.real after honest g)

  -- it is given back as it was
  back_silent : (x : Outside) (b : ℕ) (v : W) (N : Unit {0} → World → Type 0) → Shows v.real v.seen → premises.May h (Put b None) v.real.state
      → ((ss : List SeatState) → GivenBack h b (log_of v.real).seats ss → IsQuiet h (log_of v.real) ss → N tt (with_buffers v.real ss))
      → IsSilent v (premises.MayWait h (Put b None) v.real.state) (exec h x (Put b None) v.real) N
  unfolding steps.exec premises.May premises.MayWait premises.Honest
  back_silent x b v N shows may rest =
      let ss = given_back b (log_of v.real).seats in
      let quiet : IsQuiet h (log_of v.real) ss = record {
        whole = keeps_whole h x (Put b None) v.real.state shows.whole may tt;
        alike = shows_its_puts h x (Put b None) v.real.state shows.whole may tt;
        own = λ g ne. leaves_own h g x (Put b None) v.real.state ne shows.whole may tt;
      } in
      (quiet_shows h v.real v.seen shows ss quiet, quiet_others h v.real v.seen shows ss quiet, rest ss (back_hand h b (log_of v.real).seats may.0) quiet)

  module _ {A : Type 0} (Q : A → List l.Step → W → Type 0) (G : List l.Step → above.World → Type 0) (stable : Stable (labelled sizes.version l) (below sizes) laws (below_laws sizes l keeps) h B G) where
    -- A hart with at most one buffer in hand, and not this one, takes it. From there on its bytes are those seen of
    -- the block.
    pub s-fetch : (b : ℕ) (k : List ℕ → P M A) (n : ℕ) (es : List l.Step) (w : W) → G es w.seen → in_hand h w.real ≤ 1 → ((v : W) (fs : List l.Step) → Here (labelled sizes.version l) (below sizes) laws (below_laws sizes l keeps) h B G w v fs → IsOutsideLog (log_of v.real).sizes b × (b < (log_of v.real).sizes.size))
        → (holder_of b (log_of w.real).seats ≢ Some h) → ((v : W) (fs : List l.Step) → IsFetched h b (G fs) w v → Wp M h B Q (k (seen_of (log_of v.real) b)) n fs v)
        → Wp M h B Q (bind (fetch b) k) (suc (suc n)) es w
    unfolding premises.May
    s-fetch b k n es w stage few place free rest =
        s-silent (labelled sizes.version l) (below sizes) laws (below_laws sizes l keeps) h B (Get b) (λ a. bind (read_unless b a) k) Q G (suc n) es w stable stage
        (λ v fs here.
        let may : premises.May h (Get b) v.real.state = (
          lt,
          subst (λ (z : ℕ). z ≤ 1) (sym here.same.held) few,
          (place v fs here).0,
          λ e. free (held_back (holder_of b (log_of v.real).seats) (holder_of b (log_of w.real).seats) h (buffer_in (log_of v.real) b) (buffer_in (log_of w.real) b) (here.same.buffers b) e).0,
        ) in
        (may, λ x t. get_silent x b v (λ a u. Wp M h B Q (bind (read_unless b a) k) (suc n) fs (record { real = u; seen = v.seen })) here.shows may (λ ss content came quiet. by v fs here ss content came quiet)))
      where
        IsHere : W → W → List l.Step → Type 0
        IsHere u v fs = Here (labelled sizes.version l) (below sizes) laws (below_laws sizes l keeps) h B G u v fs

        bytes_seen : (v : World) (bytes : List ℕ) → kept b (log_of v).seats ≡ Some bytes → seen_of (log_of v) b ≡ bytes
        bytes_seen v bytes has = ap (λ (o : Option (List ℕ)). unwrap_or o (block_at (log_of v).contents b)) has

        ends : (v : W) (fs : List l.Step) (bytes : List ℕ) → holder_of b (log_of v.real).seats ≡ Some h → kept b (log_of v.real).seats ≡ Some bytes → SameBut h b w.real v.real → Kept h w.seen v.seen → Shows v.real v.seen → Inv v.seen → G fs v.seen
            → in_hand h v.real ≡ suc (in_hand h w.real) → Wp M h B Q (k bytes) n fs v
        ends v fs bytes out has since kept_ shows inv stage_ count =
            subst (λ (x : List ℕ). Wp M h B Q (k x) n fs v) (bytes_seen v.real bytes has)
            (rest v fs (record {
              since = since;
              kept = kept_;
              shows = shows;
              inv = inv;
              stage = stage_;
              count = count;
              buffer = record { holder = out; has = has ∙ ap (λ (x : List ℕ). Some x) (sym (bytes_seen v.real bytes has)) };
            }))

        reads : (v : W) (fs : List l.Step) → IsHere w v fs → (ss : List SeatState) → CameInHand h b (log_of v.real).seats ss None → IsQuiet h (log_of v.real) ss → (u : W) (gs : List l.Step) → IsHere (record { real = with_buffers v.real ss; seen = v.seen }) u gs
            → (now : List SeatState) (bytes : List ℕ) → IsRead h b bytes (log_of u.real).seats now → IsQuiet h (log_of u.real) now → Wp M h B Q (k bytes) n gs (record { real = with_buffers u.real now; seen = u.seen })
        reads v fs here ss came quiet u gs here_u now bytes read quiet_u =
            let got_ = with_buffers v.real ss in
            ends (record { real = with_buffers u.real now; seen = u.seen }) gs bytes read.holder read.has
            (but_then h b w.real u.real (with_buffers u.real now)
            (but_then h b w.real got_ u.real (but_then h b w.real v.real got_ (but_same h b w.real v.real here.same) (quiet_but h v.real v.seen here.shows ss quiet b came.others)) (but_same h b got_ u.real here_u.same))
            (quiet_but h u.real u.seen here_u.shows now quiet_u b read.others))
            (kept_then h w.seen v.seen u.seen here.kept here_u.kept) (quiet_shows h u.real u.seen here_u.shows now quiet_u) here_u.inv here_u.stage
            (read.count ∙ here_u.same.held ∙ came.count ∙ ap suc here.same.held)

        by : (v : W) (fs : List l.Step) → IsHere w v fs → (ss : List SeatState) (content : Option (List ℕ)) → CameInHand h b (log_of v.real).seats ss content → IsQuiet h (log_of v.real) ss
            → Wp M h B Q (bind (read_unless b content) k) (suc n) fs (record { real = with_buffers v.real ss; seen = v.seen })
        by v fs here ss (Some bytes) came quiet =
            let u : W = record { real = with_buffers v.real ss; seen = v.seen } in
            Wp-more M h (k bytes) B Q n (suc n) fs u (omega arith)
            (ends u fs bytes came.holder came.has (but_then h b w.real v.real u.real (but_same h b w.real v.real here.same) (quiet_but h v.real v.seen here.shows ss quiet b came.others)) here.kept
            (quiet_shows h v.real v.seen here.shows ss quiet) here.inv here.stage (came.count ∙ ap suc here.same.held))
        by v fs here ss None came quiet =
            let got_ : W = record { real = with_buffers v.real ss; seen = v.seen } in
            s-silent (labelled sizes.version l) (below sizes) laws (below_laws sizes l keeps) h B (Read b) k Q G n fs got_ stable here.stage
            (λ u gs here_u.
            let same : (log_of u.real).sizes ≡ (log_of v.real).sizes = here_u.same.sizes in
            let may : premises.May h (Read b) u.real.state = (
              (held_then h b got_.real u.real (here_u.same.buffers b) came.holder).0,
              subst (λ (s : Super). IsOutsideLog s b) (sym same) (place v fs here).0,
              unread_then h b got_.real u.real (here_u.same.buffers b) came.holder came.has,
              let all = here_u.shows.blocks.seen.sized in let some : b < (log_of u.real).sizes.size = subst (λ (s : Super). b < s.size) (sym same) (place v fs here).1 in omega (arith, all, some),
            ) in
            (may, λ x t. read_silent x b u (λ bytes r. Wp M h B Q (k bytes) n gs (record { real = r; seen = u.seen })) here_u.shows may t (λ now bytes read quiet_u. reads v fs here ss came quiet u gs here_u now bytes read quiet_u)))

    -- A hart gives a buffer back as it was.
    pub s-back : (b : ℕ) (k : Unit {0} → P M A) (n : ℕ) (es : List l.Step) (w : W) → G es w.seen → holder_of b (log_of w.real).seats ≡ Some h → IsOutsideLog (log_of w.real).sizes b
        → ((v : W) (fs : List l.Step) → PutBack h b (G fs) w v → Wp M h B Q (k tt) n fs v)
        → Wp M h B Q (Do (Put b None) unmarked k) (suc n) es w
    unfolding premises.May
    s-back b k n es w stage out outside rest =
        s-silent (labelled sizes.version l) (below sizes) laws (below_laws sizes l keeps) h B (Put b None) k Q G n es w stable stage
        (λ v fs here.
        let may : premises.May h (Put b None) v.real.state = ((held_then h b w.real v.real (here.same.buffers b) out).0, subst (λ (s : Super). IsOutsideLog s b) (sym here.same.sizes) outside, tt) in (
          may,
          λ x t. back_silent x b v (λ a u. Wp M h B Q (k a) n fs (record { real = u; seen = v.seen })) here.shows may
              (λ ss back quiet.
              rest (record { real = with_buffers v.real ss; seen = v.seen }) fs (record {
                since = but_then h b w.real v.real (with_buffers v.real ss) (but_same h b w.real v.real here.same) (quiet_but h v.real v.seen here.shows ss quiet b back.others);
                kept = here.kept;
                shows = quiet_shows h v.real v.seen here.shows ss quiet;
                inv = here.inv;
                stage = here.stage;
                count = sym here.same.held ∙ back.count;
              })),
        ))
