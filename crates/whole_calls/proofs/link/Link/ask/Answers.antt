use Rattle.whole_calls.proofs.Lemmas.{◌≡◌, ℕ, ◌+◌, ◌++◌, List, length, Some, refl, sym, subst, ap, ◌∙◌, arith, ◌<◌, ◌^◌, Name, AtName, Enter, Take, name_in, shifted, IsElement, IsInOne, new_after, old_after, Element, element_shifted, name_shifted, named_front, op_front, shifted_in_one}
use Rattle.image_versions.specs.declared.version.Version.{Version}
use Rattle.plain_tree.specs.declared.step.Action.TheVariants as steps
use Rattle.inode_machine.specs.World as world
use Rattle.path_walk.specs.declared.walk.Goal.TheVariants as goals
use Rattle.whole_calls.proofs.link.Link.ask.Goals as goal

-- an element of the new path, after the old one
module _ (v : Version) (old new : List ℕ) (e x : Element) (few : length old + length new < 2 ^ 64)
    (is : length old + e.start < 2 ^ 64 → length old + e.end < 2 ^ 64 → length old + e.rest < 2 ^ 64 → x ≡ shifted (length old) e) (stands : IsElement v new e) where
  behind : x ≡ shifted (length old) e
  behind =
      let ordered = stands.ordered in
      let within = stands.within in
      let rest = stands.rest in
      is (omega arith) (omega arith) (omega arith)

  same_name : name_in new e ≡ name_in (old ++ new) x
  same_name = sym (name_shifted old new e) ∙ ap (name_in (old ++ new)) (sym behind)

  in_both : IsElement v (old ++ new) x × IsInOne old x
  in_both = subst (λ (x : Element). IsElement v (old ++ new) x × IsInOne old x) (sym behind) (element_shifted old new e v stands, shifted_in_one old new e)

pub returns-in-WalksOld-clause-asks : goal.returns-in-WalksOld-clause-asks
returns-in-WalksOld-clause-asks c v list =
    let old = c.args.old.now in
    let new = c.args.new.now in
    let a = c.ask.result in
    rw c.in-WalksOld.is (λ fits.
    c.ask.ensures.asks v (steps.Find old) (old_after v old new) goals.Inside list
    ∙ ap (λ (op : world.Op). Some op) (sym (op_front old new v a c.ask.ensures.seeks (c.ask.ensures.named v fits.0))))

pub returns-in-WalksOld-clause-named : goal.returns-in-WalksOld-clause-named
returns-in-WalksOld-clause-named c v list = rw c.in-WalksOld.is (λ fits. named_front c.args.old.now c.args.new.now v c.ask.result (c.ask.ensures.named v fits.0))

pub returns-in-WalksNew-clause-asks : goal.returns-in-WalksNew-clause-asks
returns-in-WalksNew-clause-asks c v list =
    let old = c.args.old.now in
    let new = c.args.new.now in
    let few : length old + length new < 2 ^ 64 = omega arith in
    let asked = c.ask-in-WalksNew.ensures in
    rw c.in-WalksNew.is (λ fits.
    asked.asks v (steps.Enter new) (new_after old new c.in-WalksNew.field-1) goals.Parent list
    ∙ ap (λ (op : world.Op). Some op) (sym (c.shifted.ensures.op v old new refl few asked.seeks (asked.named v fits.0))))

pub returns-in-WalksNew-clause-named : goal.returns-in-WalksNew-clause-named
returns-in-WalksNew-clause-named c v list =
    let old = c.args.old.now in
    let new = c.args.new.now in
    let few : length old + length new < 2 ^ 64 = omega arith in
    let asked = c.ask-in-WalksNew.ensures in
    rw c.in-WalksNew.is (λ fits. c.shifted.ensures.named v old new refl few asked.seeks (asked.named v fits.0))

pub returns-in-Look-clause-asks : goal.returns-in-Look-clause-asks
returns-in-Look-clause-asks c v list =
    let old = c.args.old.now in
    let new = c.args.new.now in
    let few : length old + length new < 2 ^ 64 = omega arith in
    rw c.in-Look.is (λ stands.
    ap (λ (name : Name). Some (Take c.in-Look.directory (AtName name))) (same_name v old new c.in-Look.element c.shifted-in-Look.result few c.shifted-in-Look.ensures stands))

pub returns-in-Look-clause-named : goal.returns-in-Look-clause-named
returns-in-Look-clause-named c v list =
    let old = c.args.old.now in
    let new = c.args.new.now in
    let few : length old + length new < 2 ^ 64 = omega arith in
    rw c.in-Look.is (λ stands. in_both v old new c.in-Look.element c.shifted-in-Look.result few c.shifted-in-Look.ensures stands)

pub returns-in-Enter-clause-asks : goal.returns-in-Enter-clause-asks
returns-in-Enter-clause-asks c v list =
    let old = c.args.old.now in
    let new = c.args.new.now in
    let few : length old + length new < 2 ^ 64 = omega arith in
    rw c.in-Enter.is (λ stands.
    ap (λ (name : Name). Some (Enter c.in-Enter.directory name c.in-Enter.number)) (same_name v old new c.in-Enter.element c.shifted-in-Enter.result few c.shifted-in-Enter.ensures stands))

pub returns-in-Enter-clause-named : goal.returns-in-Enter-clause-named
returns-in-Enter-clause-named c v list =
    let old = c.args.old.now in
    let new = c.args.new.now in
    let few : length old + length new < 2 ^ 64 = omega arith in
    rw c.in-Enter.is (λ stands. in_both v old new c.in-Enter.element c.shifted-in-Enter.result few c.shifted-in-Enter.ensures stands)

pub returns-in-GiveNamed-clause-named : goal.returns-in-GiveNamed-clause-named
returns-in-GiveNamed-clause-named c v list fits = named_front c.args.old.now c.args.new.now v c.ask-in-GiveNamed.result (c.ask-in-GiveNamed.ensures.named v c.args.old.now)

pub returns-in-GiveFailed-clause-named : goal.returns-in-GiveFailed-clause-named
returns-in-GiveFailed-clause-named c v list fits = named_front c.args.old.now c.args.new.now v c.ask-in-GiveFailed.result (c.ask-in-GiveFailed.ensures.named v c.args.old.now)

pub returns-in-Ends-clause-named : goal.returns-in-Ends-clause-named
returns-in-Ends-clause-named c v list fits = named_front c.args.old.now c.args.new.now v c.ask-in-Ends.result (c.ask-in-Ends.ensures.named v c.args.old.now)
