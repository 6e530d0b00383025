use Rattle.image_tree.proofs.Lemmas.{◌≡◌, ◌∙◌, ◌≤◌, ◌<◌, sym, ap, ℕ, List, subst, arith, length, refl, iff_false, both_ways, block_at, sizes_of, log_count, HasGoodLog, IsOnce, no_head, length-logged}
use Rattle.image_tree.proofs.SuperAndLog.{head_is}
use Rattle.image_tree.proofs.heads.find_log.Goals as goal

pub returns-in_default-clause-judges : goal.returns-in_default-clause-judges
returns-in_default-clause-judges g c =
    let disk : List (List ℕ) = g.D.Device.contents c.args.device.now in
    let at : c.read.new.to ≡ block_at disk (sizes_of disk).logstart = rw (← c.requires.sizes) c.in_ok-read.ensures.read in
    (c.requires.passed, no_head disk c.read.new.to at (sym c.read_log_head.ensures ∙ c.in_default.is))

pub returns-then-blocks-sizes-clause-judges : goal.returns-then-blocks-sizes-clause-judges
returns-then-blocks-sizes-clause-judges g c =
    let disk : List (List ℕ) = g.D.Device.contents c.args.device.now in
    let at : c.read.new.to ≡ block_at disk (sizes_of disk).logstart = rw (← c.requires.sizes) c.in_ok-read.ensures.read in
    let is = head_is disk c.read.new.to c.in-Some.head at (sym c.read_log_head.ensures ∙ c.in-Some.is) in
    let n : length c.as_slice-blocks.result.now ≡ log_count disk = ap length (c.as_slice-blocks.ensures.value ∙ is.1) ∙ length-logged disk in
    let s : c.args.sizes.nlog ≤ length c.as_slice-blocks.result.now = c.if-blocks-sizes.true in
    let e = c.requires.sizes in
    let nlog : c.args.sizes.nlog ≡ (sizes_of disk).nlog = rw e refl in
    let low = c.requires.passed.0.1.1.nlog in
    (c.requires.passed, λ h. absurd (omega (arith, h.count)))

pub returns-then-not-are_between-clause-judges : goal.returns-then-not-are_between-clause-judges
returns-then-not-are_between-clause-judges g c =
    let disk : List (List ℕ) = g.D.Device.contents c.args.device.now in
    let at : c.read.new.to ≡ block_at disk (sizes_of disk).logstart = rw (← c.requires.sizes) c.in_ok-read.ensures.read in
    let is = head_is disk c.read.new.to c.in-Some.head at (sym c.read_log_head.ensures ∙ c.in-Some.is) in
    (c.requires.passed, λ h. iff_false c.are_between.ensures c.if-not-are_between.true (rw (c.requires.sizes, c.as_slice-blocks.ensures.value, is.1) h.within))

pub returns-then-has_repeat-clause-judges : goal.returns-then-has_repeat-clause-judges
returns-then-has_repeat-clause-judges g c =
    let disk : List (List ℕ) = g.D.Device.contents c.args.device.now in
    let at : c.read.new.to ≡ block_at disk (sizes_of disk).logstart = rw (← c.requires.sizes) c.in_ok-read.ensures.read in
    let is = head_is disk c.read.new.to c.in-Some.head at (sym c.read_log_head.ensures ∙ c.in-Some.is) in
    (c.requires.passed, λ h. both_ways _ (c.has_repeat.ensures.1 (subst IsOnce (sym (c.as_slice-blocks.ensures.value ∙ is.1)) h.once)) c.if-has_repeat.true)

pub returns-clause-judges : goal.returns-clause-judges
returns-clause-judges g c =
    let disk : List (List ℕ) = g.D.Device.contents c.args.device.now in
    let at : c.read.new.to ≡ block_at disk (sizes_of disk).logstart = rw (← c.requires.sizes) c.in_ok-read.ensures.read in
    let is = head_is disk c.read.new.to c.in-Some.head at (sym c.read_log_head.ensures ∙ c.in-Some.is) in
    let all = c.as_slice-blocks.ensures.value ∙ is.1 in
    let n : length c.as_slice-blocks.result.now ≡ log_count disk = ap length all ∙ length-logged disk in
    let s : length c.as_slice-blocks.result.now < c.args.sizes.nlog = c.if-blocks-sizes.false in
    let e = c.requires.sizes in
    let nlog : c.args.sizes.nlog ≡ (sizes_of disk).nlog = rw e refl in
    let log : HasGoodLog disk = record {
      count = omega arith;
      room = is.0;
      within = rw (← c.requires.sizes, ← all) (c.are_between.ensures.0 c.if-not-are_between.false);
      once = subst IsOnce all (c.has_repeat.ensures.0 c.if-has_repeat.false);
    } in
    (record { sizes = c.requires.sizes; blocks = is.1; good = (c.requires.passed, log) }, refl)
