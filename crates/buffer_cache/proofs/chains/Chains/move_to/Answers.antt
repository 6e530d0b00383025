use Rattle.buffer_cache.proofs.Lemmas.{ℕ, List, Some, refl, sym, subst, arith, AreGrouped, unlinked, moved_to}
use Rattle.buffer_cache.proofs.chains.Chains.move_to.Goals as goal

pub unlink-requires-clause-before : goal.unlink-requires-clause-before
unlink-requires-clause-before c =
    let in_ = c.self.inside in
    let out = (unlinked 59 in_.next in_.previous c.args.number _ _ c.self.invariant (omega arith) (omega arith) (omega arith) refl refl).before in
    omega (arith, out)

pub unlink-requires-clause-behind : goal.unlink-requires-clause-behind
unlink-requires-clause-behind c =
    let in_ = c.self.inside in
    let out = (unlinked 59 in_.next in_.previous c.args.number _ _ c.self.invariant (omega arith) (omega arith) (omega arith) refl refl).behind in
    omega (arith, out)

pub link_behind-requires-clause-behind : goal.link_behind-requires-clause-behind
link_behind-requires-clause-behind c =
    let in_ = c.self.inside in
    let x = c.unlink.new.next in
    let y = c.unlink.new.previous in
    let out = unlinked 59 in_.next in_.previous c.args.number x y c.self.invariant (omega arith) (omega arith) (omega arith) c.unlink.ensures.next c.unlink.ensures.previous in
    let lt = (moved_to in_.next in_.previous c.args.number c.chain_of.result x y _ _ c.self.invariant out (omega arith) (omega arith) (omega arith) (omega (arith, c.chain_of.ensures)) (omega (arith, c.chain_of.ensures)) refl refl).behind in
    omega (arith, lt)

pub invariant_of-self : goal.invariant_of-self
invariant_of-self c =
    let in_ = c.self.inside in
    let x = c.unlink.new.next in
    let y = c.unlink.new.previous in
    let out = unlinked 59 in_.next in_.previous c.args.number x y c.self.invariant (omega arith) (omega arith) (omega arith) c.unlink.ensures.next c.unlink.ensures.previous in
    (moved_to in_.next in_.previous c.args.number c.chain_of.result x y c.link_behind.new.next c.link_behind.new.previous c.self.invariant out (omega arith) (omega arith) (omega arith) (omega (arith, c.chain_of.ensures)) (omega (arith, c.chain_of.ensures)) c.link_behind.ensures.next c.link_behind.ensures.previous).ring

pub returns : goal.returns
returns c blocks within grouped =
    let in_ = c.self.inside in
    let x = c.unlink.new.next in
    let y = c.unlink.new.previous in
    let out = unlinked 59 in_.next in_.previous c.args.number x y c.self.invariant (omega arith) (omega arith) (omega arith) c.unlink.ensures.next c.unlink.ensures.previous in
    (moved_to in_.next in_.previous c.args.number c.chain_of.result x y c.link_behind.new.next c.link_behind.new.previous c.self.invariant out (omega arith) (omega arith) (omega arith) (omega (arith, c.chain_of.ensures)) (omega (arith, c.chain_of.ensures)) c.link_behind.ensures.next c.link_behind.ensures.previous).grouped
    blocks (Some c.args.b) within (sym c.chain_of.ensures) (subst (λ (l : List ℕ). AreGrouped blocks 59 l) (sym c.self.view_is) grouped)
