-- A hart is answered no block that is longer than a block.
use Rattle.locked_world.proofs.Vocabulary.{◌≡◌, ◌≢◌, ℕ, ◌<◌, ◌≤◌, Bool, true, false, List, [], length, Option, Some, None, refl, sym, ◌∙◌, ap, subst, arith, IfSome, nat_lt, unwrap_or, nat_tests, get_or_past, IsOutsideLog, block_len, block_at, get_of, SeatState, kept, Got, GetLaws, get_laws, Phase, Open, Staging, Installing, Halted, CleanFrom, DiskFits, ExecResult, Waits, Ran, Stops, exec_result_in, LogPart, Outside, Passes, Fails, got_by, read_block, May, seen_of, State, Op, Answer, exec, in_log, IsWholeLog, FitsBlock}
use Rattle.buffer_cache.specs.declared.got.Got.TheVariants as got
use Rattle.fs_machine.specs.Steps as steps

-- the blocks of the disk are seen whole
abbrev pub SeesWhole : LogPart → Type 0
SeesWhole l = (b : ℕ) → b < length l.contents → IsOutsideLog l.sizes b → length (seen_of l b) ≡ block_len

module _ (s : State) (whole : IsWholeLog s.log) (runs : s.log.phase ≢ Halted) (long : SeesWhole s.log) where
  abbrev l : LogPart
  l = s.log

  -- past the disk's end is no block of the group
  past_clean : (b n : ℕ) → IsOutsideLog l.sizes b → length l.contents ≤ b → CleanFrom l.sizes l.contents (seen_of l) l.group n → block_at l.contents b ≡ seen_of l b
  past_clean b n outside past clean = clean b outside (λ k from lt same. absurd (omega (arith, same, (whole.log.homes k lt).within, past)))

  past_fits : (b : ℕ) → IsOutsideLog l.sizes b → length l.contents ≤ b → (phase : Phase) → phase ≢ Halted → DiskFits l.sizes l.contents (seen_of l) l.group phase → block_at l.contents b ≡ seen_of l b
  past_fits b outside past Open on fits = past_clean b 0 outside past fits.1
  past_fits b outside past (Staging i) on fits = past_clean b 0 outside past fits.2
  past_fits b outside past (Installing i) on fits = past_clean b i outside past fits.2
  past_fits b outside past Halted on fits = absurd (on refl)

  -- so nothing is seen there
  short : (b : ℕ) → IsOutsideLog l.sizes b → length (seen_of l b) ≤ block_len
  short b outside = by (nat_lt b (length l.contents)) refl
    where
      by : (here : Bool) → nat_lt b (length l.contents) ≡ here → length (seen_of l b) ≤ block_len
      by true e = let within : b < length l.contents = grind (arith, nat_tests) in omega (arith, long b within outside)
      by false e =
          let past : length l.contents ≤ b = grind (arith, nat_tests) in
          let none : seen_of l b ≡ [] = sym (past_fits b outside past l.phase runs whole.log.blocks) ∙ get_or_past l.contents b [] past in
          omega (arith, ap length none)

  got_fits : (h b : ℕ) (r : List SeatState × Got) → GetLaws l.contents h b l.seats r → IsOutsideLog l.sizes b → (a : Option (List ℕ)) (t : State) → in_log s (got_by l r) ≡ Ran a t → IfSome a (λ bytes. length bytes ≤ block_len)
  got_fits h b (seats, got.Held guard) laws outside a t e =
      let same : guard.value.content ≡ a = (let z = e in cc (z)) in
      subst (λ (o : Option (List ℕ)). IfSome o (λ bytes. length bytes ≤ block_len)) same (by guard.value.content laws.bytes)
    where
      by : (o : Option (List ℕ)) → IfSome o (λ bytes. bytes ≡ seen_of l b) → IfSome o (λ bytes. length bytes ≤ block_len)
      by None is = tt
      by (Some bytes) is = omega (arith, ap length is, short b outside)
  got_fits h b (seats, got.Waits) laws outside a t e = absurd (let z = e in cc (z))

  read_fits : (b : ℕ) (x : Outside) → kept b l.seats ≡ None → IsOutsideLog l.sizes b → (a : List ℕ) (t : State) → in_log s (read_block b x l) ≡ Ran a t → length a ≤ block_len
  read_fits b Passes unread outside a t e =
      let same : block_at l.contents b ≡ a = (let z = e in cc (z)) in
      let seen : seen_of l b ≡ block_at l.contents b = ap (λ (o : Option (List ℕ)). unwrap_or o (block_at l.contents b)) unread in
      omega (arith, ap length same, ap length seen, short b outside)
  read_fits b (Fails after) unread outside a t e = absurd (let z = e in cc (z))

  pub op_fits : (h : ℕ) (x : Outside) (op : Op) (a : Answer op) (t : State) → May h op s → exec h x op s ≡ Ran a t → FitsBlock op a
  unfolding May exec
  op_fits h x steps.Join a t may e = tt
  op_fits h x (steps.JoinToWrite fd) a t may e = tt
  op_fits h x steps.Leave a t may e = tt
  op_fits h x (steps.Get b) a t may e = got_fits h b (get_of h b l.seats) (get_laws l.contents h b l.seats may.0 may.1 whole.cache) may.2 a t e
  op_fits h x (steps.Read b) a t may e = read_fits b x may.2 may.1 a t e
  op_fits h x (steps.Put b change) a t may e = tt
  op_fits h x steps.Commit a t may e = tt
  op_fits h x (steps.Lock n) a t may e = tt
  op_fits h x (steps.LockFile want fd) a t may e = tt
  op_fits h x (steps.LockOpen fd) a t may e = tt
  op_fits h x (steps.Unlock v moved) a t may e = tt
  op_fits h x (steps.SetDirectory v) a t may e = tt
  op_fits h x (steps.Up whom) a t may e = tt
  op_fits h x (steps.Claim b candidates) a t may e = tt
  op_fits h x (steps.Down drop) a t may e = tt
  op_fits h x (steps.CheckFile want fd) a t may e = tt
  op_fits h x steps.TakePlace a t may e = tt
  op_fits h x (steps.TakeDescriptor n file) a t may e = tt
  op_fits h x (steps.Double fd) a t may e = tt
  op_fits h x (steps.Close fd) a t may e = tt
  op_fits h x (steps.GiveDescriptor child from) a t may e = tt
  op_fits h x steps.Reply a t may e = tt

pub ran_in : {A S T : Type 0} (f : S → T) (d : ExecResult A S) (a : A) (t : T) → exec_result_in f d ≡ Ran a t → (u : S) × (d ≡ Ran a u)
ran_in f Waits a t e = absurd (let z = e in cc (z))
ran_in f (Ran b u) a t e =
    let same : b ≡ a = (let z = e in cc (z)) in
    (u, ap (λ c. Ran c u) same)
ran_in f (Stops u) a t e = absurd (let z = e in cc (z))
