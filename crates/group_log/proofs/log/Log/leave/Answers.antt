use Rattle.group_log.proofs.Lemmas.{◌≡◌, ◌≢◌, ◌∙◌, ◌+◌, ap, sym, subst, ℕ, List, Option, None, slice_set, arith, Staging, Phase, Open, Halted, Free, joined, IsMember, phase_at_leave, left_at, LogState, IsSoundLog, member_below, member_leaves, open_of, commits_none, free_stays, left_good, begun_good, slots_begun}
use Rattle.group_log.proofs.log.Log.leave.Goals as goal

pub leave-requires-clause-within : goal.leave-requires-clause-within
leave-requires-clause-within g c =
    let l = c.self.inside in
    let member : IsMember l.members c.args.txn = subst (λ v. IsMember v.members c.args.txn) (sym c.self.view_is) c.requires.member in
    let below = member_below l.members c.args.txn member in
    let is : c.end-hart.result ≡ c.args.txn = c.end-hart.ensures in
    omega (arith, below, is, c.self.invariant.log.eight)

pub leave-requires-clause-member : goal.leave-requires-clause-member
leave-requires-clause-member g c =
    let l = c.self.inside in
    let member : IsMember l.members c.args.txn = subst (λ v. IsMember v.members c.args.txn) (sym c.self.view_is) c.requires.member in
    subst (λ (h : ℕ). IsMember l.members h) (sym c.end-hart.ensures) member

pub invariant_of-self : goal.invariant_of-self
invariant_of-self g c =
    let l = c.self.inside in
    let d = g.D.Device.contents l.cache.device in
    let member : IsMember l.members c.args.txn = subst (λ v. IsMember v.members c.args.txn) (sym c.self.view_is) c.requires.member in
    let running : l.phase ≢ Halted = subst (λ v. v.phase ≢ Halted) (sym c.self.view_is) c.requires.running in
    let is_open : l.phase ≡ Open = open_of l.phase l.members c.args.txn c.self.invariant.log.quiet running member in
    let sound : IsSoundLog d l.cache.seats l.sizes l.group.items l.members Open = subst (λ (p : Phase). IsSoundLog d l.cache.seats l.sizes l.group.items l.members p) is_open c.self.invariant.log in
    let leaves : c.leave.new.self ≡ slice_set l.members c.end-hart.result None = c.leave.ensures in
    record {
      log = subst (λ (ms : List (Option ℕ)). IsSoundLog d l.cache.seats l.sizes l.group.items ms l.phase) (sym leaves)
          (subst (λ (p : Phase). IsSoundLog d l.cache.seats l.sizes l.group.items (slice_set l.members c.end-hart.result None) p) (sym is_open)
          (left_good d l.cache.seats l.sizes l.group.items l.members c.end-hart.result sound));
      placed = c.self.invariant.placed;
    }

pub invariant_of-self-in-Commits : goal.invariant_of-self-in-Commits
invariant_of-self-in-Commits g c =
    let l = c.self.inside in
    let d = g.D.Device.contents l.cache.device in
    let member : IsMember l.members c.args.txn = subst (λ v. IsMember v.members c.args.txn) (sym c.self.view_is) c.requires.member in
    let running : l.phase ≢ Halted = subst (λ v. v.phase ≢ Halted) (sym c.self.view_is) c.requires.running in
    let is_open : l.phase ≡ Open = open_of l.phase l.members c.args.txn c.self.invariant.log.quiet running member in
    let sound : IsSoundLog d l.cache.seats l.sizes l.group.items l.members Open = subst (λ (p : Phase). IsSoundLog d l.cache.seats l.sizes l.group.items l.members p) is_open c.self.invariant.log in
    let none : c.outstanding.result ≡ 0 = commits_none c.outstanding.result c.deref.result.now (sym c.what_follows.ensures ∙ c.in-Commits.is) in
    let leaves : c.leave.new.self ≡ slice_set l.members c.end-hart.result None = c.leave.ensures in
    record {
      log = subst (λ (ms : List (Option ℕ)). IsSoundLog d l.cache.seats l.sizes l.group.items ms (Staging 0)) (sym leaves)
          (begun_good d l.cache.seats l.sizes l.group.items l.members c.end-hart.result sound (sym (c.outstanding.ensures ∙ ap joined leaves) ∙ none));
      placed = slots_begun l.cache.seats l.group.items l.slots.items l.phase is_open c.self.invariant.placed;
    }

pub returns-in-Free-clause-open : goal.returns-in-Free-clause-open
returns-in-Free-clause-open g c =
    let l = c.self.inside in
    let member : IsMember l.members c.args.txn = subst (λ v. IsMember v.members c.args.txn) (sym c.self.view_is) c.requires.member in
    let running : l.phase ≢ Halted = subst (λ v. v.phase ≢ Halted) (sym c.self.view_is) c.requires.running in
    ap (λ v. v.phase) (sym c.self.view_is) ∙ open_of l.phase l.members c.args.txn c.self.invariant.log.quiet running member

pub returns-in-Commits-clause-open : goal.returns-in-Commits-clause-open
returns-in-Commits-clause-open g c =
    let l = c.self.inside in
    let member : IsMember l.members c.args.txn = subst (λ v. IsMember v.members c.args.txn) (sym c.self.view_is) c.requires.member in
    let running : l.phase ≢ Halted = subst (λ v. v.phase ≢ Halted) (sym c.self.view_is) c.requires.running in
    ap (λ v. v.phase) (sym c.self.view_is) ∙ open_of l.phase l.members c.args.txn c.self.invariant.log.quiet running member

pub returns-in-Free-clause-falls : goal.returns-in-Free-clause-falls
returns-in-Free-clause-falls g c =
    let l = c.self.inside in
    let member : IsMember l.members c.args.txn = subst (λ v. IsMember v.members c.args.txn) (sym c.self.view_is) c.requires.member in
    ap (λ (ms : List (Option ℕ)). joined ms + 1) c.leave.ensures ∙ ap (λ (h : ℕ). joined (slice_set l.members h None) + 1) c.end-hart.ensures ∙ member_leaves l.members c.args.txn member ∙ ap (λ v. joined v.members) c.self.view_is

pub returns-in-Commits-clause-falls : goal.returns-in-Commits-clause-falls
returns-in-Commits-clause-falls g c =
    let l = c.self.inside in
    let member : IsMember l.members c.args.txn = subst (λ v. IsMember v.members c.args.txn) (sym c.self.view_is) c.requires.member in
    ap (λ (ms : List (Option ℕ)). joined ms + 1) c.leave.ensures ∙ ap (λ (h : ℕ). joined (slice_set l.members h None) + 1) c.end-hart.ensures ∙ member_leaves l.members c.args.txn member ∙ ap (λ v. joined v.members) c.self.view_is

left_as : {D : Type 0} (v : LogState D) (h hart n : ℕ) (ks : List ℕ) → v.phase ≡ Open → h ≡ hart → n ≡ joined (slice_set v.members h None) → ks ≡ v.group → left_at n ks ≡ Free
    → record v { members = slice_set v.members h None } ≡ record v { members = slice_set v.members hart None; phase = phase_at_leave (joined (slice_set v.members hart None)) v.group }
left_as v h hart n ks is_open same counted group free =
    let stays : phase_at_leave (joined (slice_set v.members hart None)) v.group ≡ Open =
    ap (λ (m : ℕ). phase_at_leave m v.group) (sym (counted ∙ ap (λ (k : ℕ). joined (slice_set v.members k None)) same)) ∙ ap (λ (l : List ℕ). phase_at_leave n l) (sym group) ∙ free_stays n ks free in
    let phase : v.phase ≡ phase_at_leave (joined (slice_set v.members hart None)) v.group = is_open ∙ sym stays in
    λ i. record v { members = slice_set v.members (same i) None; phase = phase i }

pub returns-in-Free-clause-leaves : goal.returns-in-Free-clause-leaves
returns-in-Free-clause-leaves g c =
    let l = c.self.inside in
    let member : IsMember l.members c.args.txn = subst (λ v. IsMember v.members c.args.txn) (sym c.self.view_is) c.requires.member in
    let running : l.phase ≢ Halted = subst (λ v. v.phase ≢ Halted) (sym c.self.view_is) c.requires.running in
    let is_open : l.phase ≡ Open = open_of l.phase l.members c.args.txn c.self.invariant.log.quiet running member in
    let now = c.args.self.now in
    let begin : now.phase ≡ Open = ap (λ v. v.phase) (sym c.self.view_is) ∙ is_open in
    let counted : c.outstanding.result ≡ joined (slice_set now.members c.end-hart.result None) = c.outstanding.ensures ∙ ap joined c.leave.ensures ∙ ap (λ v. joined (slice_set v.members c.end-hart.result None)) c.self.view_is in
    let group : c.deref.result.now ≡ now.group = c.deref.ensures.0 ∙ ap (λ v. v.group) c.self.view_is in
    ap (λ (ms : List (Option ℕ)). let v : LogState g.row.D.Denot = record { cache = l.cache; sizes = l.sizes; group = l.group.items; members = ms; phase = l.phase } in v) c.leave.ensures
    ∙ ap (λ (v : LogState g.row.D.Denot). record v { members = slice_set v.members c.end-hart.result None }) c.self.view_is
    ∙ left_as now c.end-hart.result c.args.txn c.outstanding.result c.deref.result.now begin c.end-hart.ensures counted group (sym c.what_follows.ensures ∙ c.in-Free.is)
