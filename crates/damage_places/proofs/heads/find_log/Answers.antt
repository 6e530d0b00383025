use Rattle.image_tree.proofs.Lemmas.{◌≡◌, ◌∙◌, ◌≤◌, ◌<◌, ◌-◌, sym, ap, ℕ, List, subst, arith, refl, block_at, sizes_of, log_count, HasGoodLog, IsOnce, All, logged}
use Rattle.image_tree.proofs.Vocabulary.{Super, u32_at}
use Rattle.image_tree.proofs.SuperAndLog.{head_is}
use Rattle.damage_places.specs.Places.{IsFirstPlace, IsCounted, IsListFault, IsLoggable}
use Rattle.damage_places.proofs.NumberLemmas.{first_number, no_room}
use Rattle.damage_places.proofs.PlaceLemmas.{list_place}
use Rattle.damage_places.proofs.heads.find_log.Goals as goal

pub returns-in_default-clause-found : goal.returns-in_default-clause-found
returns-in_default-clause-found g c =
    let disk : List (List ℕ) = g.D.Device.contents c.args.device.now in
    let at : c.read.new.to ≡ block_at disk (sizes_of disk).logstart = rw (← c.requires.sizes) c.in_ok-read.ensures.read in
    let n : c.read_number-count.result ≡ log_count disk = c.read_number-count.ensures ∙ first_number c.read.new.to ∙ ap (λ (b : List ℕ). u32_at b 0) at in
    let none = no_room c.read.new.to (sym c.read_log_head.ensures ∙ c.in_default.is) in
    subst (IsFirstPlace c.args.version disk) (sym c.too_many.ensures)
    (c.requires.passed, (n, λ counted. none (subst (λ (k : ℕ). k ≤ 255) (sym (ap (λ (b : List ℕ). u32_at b 0) at)) counted.1)))

pub returns-then-count-sizes-clause-found : goal.returns-then-count-sizes-clause-found
returns-then-count-sizes-clause-found g c =
    let disk : List (List ℕ) = g.D.Device.contents c.args.device.now in
    let at : c.read.new.to ≡ block_at disk (sizes_of disk).logstart = rw (← c.requires.sizes) c.in_ok-read.ensures.read in
    let n : c.read_number-count.result ≡ log_count disk = c.read_number-count.ensures ∙ first_number c.read.new.to ∙ ap (λ (b : List ℕ). u32_at b 0) at in
    let nlog : c.args.sizes.nlog ≡ (sizes_of disk).nlog = ap (λ (s : Super). s.nlog) c.requires.sizes in
    let low : 11 ≤ (sizes_of disk).nlog = c.requires.passed.0.1.1.nlog in
    let many : c.args.sizes.nlog ≤ c.read_number-count.result = c.if-count-sizes.true in
    subst (IsFirstPlace c.args.version disk) (sym c.too_many-then-count-sizes.ensures)
    (c.requires.passed, (n, λ counted. (let few : log_count disk ≤ (sizes_of disk).nlog - 1 = counted.0 in omega arith)))

pub returns-in-Some-list_fault-clause-found : goal.returns-in-Some-list_fault-clause-found
returns-in-Some-list_fault-clause-found g c =
    let disk : List (List ℕ) = g.D.Device.contents c.args.device.now in
    let at : c.read.new.to ≡ block_at disk (sizes_of disk).logstart = rw (← c.requires.sizes) c.in_ok-read.ensures.read in
    let is = head_is disk c.read.new.to c.in-Some.head at (sym c.read_log_head.ensures ∙ c.in-Some.is) in
    let n : c.read_number-count.result ≡ log_count disk = c.read_number-count.ensures ∙ first_number c.read.new.to ∙ ap (λ (b : List ℕ). u32_at b 0) at in
    let nlog : c.args.sizes.nlog ≡ (sizes_of disk).nlog = ap (λ (s : Super). s.nlog) c.requires.sizes in
    let few : c.read_number-count.result < c.args.sizes.nlog = c.if-count-sizes.false in
    let counted : IsCounted disk = (omega arith, is.0) in
    let blocks = c.as_slice.ensures.value ∙ is.1 in
    let fault = c.in-Some-list_fault.fault in (
      c.requires.passed,
      list_place disk fault counted
          (subst (λ (s : Super). IsListFault s (logged disk) fault) c.requires.sizes
          (subst (λ (xs : List ℕ). IsListFault c.args.sizes xs fault) blocks c.in-Some-list_fault.ensures)),
    )

pub returns-in-None-clause-found : goal.returns-in-None-clause-found
returns-in-None-clause-found g c =
    let disk : List (List ℕ) = g.D.Device.contents c.args.device.now in
    let at : c.read.new.to ≡ block_at disk (sizes_of disk).logstart = rw (← c.requires.sizes) c.in_ok-read.ensures.read in
    let is = head_is disk c.read.new.to c.in-Some.head at (sym c.read_log_head.ensures ∙ c.in-Some.is) in
    let n : c.read_number-count.result ≡ log_count disk = c.read_number-count.ensures ∙ first_number c.read.new.to ∙ ap (λ (b : List ℕ). u32_at b 0) at in
    let nlog : c.args.sizes.nlog ≡ (sizes_of disk).nlog = ap (λ (s : Super). s.nlog) c.requires.sizes in
    let few : c.read_number-count.result < c.args.sizes.nlog = c.if-count-sizes.false in
    let blocks = c.as_slice.ensures.value ∙ is.1 in
    let log : HasGoodLog disk = record {
      count = omega arith;
      room = is.0;
      within = subst (λ (s : Super). All (IsLoggable s) (logged disk)) c.requires.sizes (subst (All (IsLoggable c.args.sizes)) blocks c.in-None.ensures.0);
      once = subst IsOnce blocks c.in-None.ensures.1;
    } in
    (record { sizes = c.requires.sizes; blocks = is.1; good = (c.requires.passed, log) }, refl)
