use Rattle.buffer_cache.proofs.Lemmas.{ℕ, List, refl, sym, ◌∙◌, ap, arith, change_to_end, is_same, unlinked, moved_last, youngest_stays}
use Rattle.buffer_cache.proofs.order.Order.move_last.Goals as goal

pub unlink-requires-clause-before : goal.unlink-requires-clause-before
unlink-requires-clause-before c =
    let in_ = c.self.inside in
    let out = (unlinked 46 in_.younger in_.older c.args.number _ _ c.self.invariant (omega arith) (omega arith) c.requires refl refl).before in
    omega (arith, out)

pub unlink-requires-clause-behind : goal.unlink-requires-clause-behind
unlink-requires-clause-behind c =
    let in_ = c.self.inside in
    let out = (unlinked 46 in_.younger in_.older c.args.number _ _ c.self.invariant (omega arith) (omega arith) c.requires refl refl).behind in
    omega (arith, out)

pub link_behind-requires-clause-before : goal.link_behind-requires-clause-before
link_behind-requires-clause-before c =
    let in_ = c.self.inside in
    let x = c.unlink.new.next in
    let y = c.unlink.new.previous in
    let out = unlinked 46 in_.younger in_.older c.args.number x y c.self.invariant (omega arith) (omega arith) c.requires c.unlink.ensures.next c.unlink.ensures.previous in
    let lt = (moved_last 46 in_.younger in_.older c.args.number x y _ _ c.self.invariant out (omega arith) (omega arith) c.requires refl refl).before in
    omega (arith, lt)

pub link_behind-requires-clause-behind : goal.link_behind-requires-clause-behind
link_behind-requires-clause-behind c =
    let in_ = c.self.inside in
    let x = c.unlink.new.next in
    let y = c.unlink.new.previous in
    let out = unlinked 46 in_.younger in_.older c.args.number x y c.self.invariant (omega arith) (omega arith) c.requires c.unlink.ensures.next c.unlink.ensures.previous in
    let lt = (moved_last 46 in_.younger in_.older c.args.number x y _ _ c.self.invariant out (omega arith) (omega arith) c.requires refl refl).behind in
    omega (arith, lt)

pub invariant_of-self : goal.invariant_of-self
invariant_of-self c =
    let in_ = c.self.inside in
    let x = c.unlink.new.next in
    let y = c.unlink.new.previous in
    let out = unlinked 46 in_.younger in_.older c.args.number x y c.self.invariant (omega arith) (omega arith) c.requires c.unlink.ensures.next c.unlink.ensures.previous in
    (moved_last 46 in_.younger in_.older c.args.number x y c.link_behind.new.next c.link_behind.new.previous c.self.invariant out (omega arith) (omega arith) c.requires c.link_behind.ensures.next c.link_behind.ensures.previous).ring

pub returns : goal.returns
returns c =
    let in_ = c.self.inside in
    let x = c.unlink.new.next in
    let y = c.unlink.new.previous in
    let out = unlinked 46 in_.younger in_.older c.args.number x y c.self.invariant (omega arith) (omega arith) c.requires c.unlink.ensures.next c.unlink.ensures.previous in
    (moved_last 46 in_.younger in_.older c.args.number x y c.link_behind.new.next c.link_behind.new.previous c.self.invariant out (omega arith) (omega arith) c.requires c.link_behind.ensures.next c.link_behind.ensures.previous).view
    ∙ ap (λ (l : List ℕ). change_to_end (is_same c.args.number) (λ k. k) l) c.self.view_is

pub returns-then-self-number : goal.returns-then-self-number
returns-then-self-number c =
    let in_ = c.self.inside in
    let stays = youngest_stays 46 in_.younger in_.older c.args.number c.self.invariant c.requires c.if-self-number.true in
    sym c.self.view_is ∙ stays ∙ ap (λ (l : List ℕ). change_to_end (is_same c.args.number) (λ k. k) l) c.self.view_is
