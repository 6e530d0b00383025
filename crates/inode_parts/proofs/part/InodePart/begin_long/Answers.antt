use Rattle.std.specs.Prelude.{◌*◌, ◌≤◌, length}
use Rattle.inode_parts.proofs.Lemmas.{[], ◌++◌, ◌∙◌, ◌<◌, ◌^◌, ℕ, List, ap, rules, refl, sym, subst, Ask, Name, first_in, second_in, BeginsWith, carry_in, part_left, AskTold, PartReady, PartTold, having, step_for, IsPart, Enter, WriteFile, InodePart, PartHasBegun, UnderWay, is_part, is_ready, other_fills, short_begins, told_for, under_way, may_change, may_free, may_claim, may_lock, may_write, name_in, alone, piece, piece_len}
use Rattle.inode_parts.specs.Vocabulary.{IsName}
use Rattle.path_walk.specs.Asks.{op_in}
use Rattle.inode_parts.proofs.part.InodePart.begin_long.Goals as goal

pub begin_store-requires : goal.begin_store-requires
begin_store-requires c =
    let may = rw c.in-Store.is at c.requires in
    let few : c.in-Store.number < 2 ^ 32 = search rules in
    (may_change c.args.sizes.now may.sized c.in-Store.number c.args.hand.now few may.begins.0, may.begins.1)

pub returns-in-Store : goal.returns-in-Store
returns-in-Store c =
    let path = first_in c.args.call.now ++ second_in c.args.call.now in
    let m = c.args.notes.now in
    let did = c.begin_store.ensures in
    rw c.in-Store.is (record { part = did.part path m; ready = did.ready; told = did.told (first_in c.args.call.now) (second_in c.args.call.now); fills = tt; known = λ none. absurd none; under = did.under path m; hand = did.hand })

pub begin_empty-requires : goal.begin_empty-requires
begin_empty-requires c =
    let may = rw c.in-Empty.is at c.requires in
    let few : c.in-Empty.number < 2 ^ 32 = search rules in
    may_change c.args.sizes.now may.sized c.in-Empty.number c.args.hand.now few may.begins

pub returns-in-Empty : goal.returns-in-Empty
returns-in-Empty c =
    let path = first_in c.args.call.now ++ second_in c.args.call.now in
    let m = c.args.notes.now in
    let did = c.begin_empty.ensures in
    rw c.in-Empty.is (record { part = did.part path m; ready = did.ready; told = did.told (first_in c.args.call.now) (second_in c.args.call.now); fills = tt; known = λ none. absurd none; under = did.under path m; hand = did.hand })

pub begin_fill-requires : goal.begin_fill-requires
begin_fill-requires c =
    let may = rw c.in-Fill.is at c.requires in
    let few : c.in-Fill.number < 2 ^ 32 = search rules in
    (may_change c.args.sizes.now may.sized c.in-Fill.number c.args.hand.now few may.begins, may.sized.size)

pub returns-in-Fill : goal.returns-in-Fill
returns-in-Fill c =
    let path = first_in c.args.call.now ++ second_in c.args.call.now in
    let m = c.args.notes.now in
    let did = c.begin_fill.ensures in
    rw c.in-Fill.is (record { part = did.part path m; ready = did.ready; told = did.told (first_in c.args.call.now) (second_in c.args.call.now); fills = tt; known = λ none. absurd none; under = did.under path m; hand = did.hand })

pub begin_free-requires : goal.begin_free-requires
begin_free-requires c =
    let may = rw c.in-Free.is at c.requires in
    let few : c.in-Free.number < 2 ^ 32 = search rules in
    may_free c.args.sizes.now may.sized c.in-Free.number c.args.hand.now few may.begins

pub returns-in-Free : goal.returns-in-Free
returns-in-Free c =
    let path = first_in c.args.call.now ++ second_in c.args.call.now in
    let m = c.args.notes.now in
    let did = c.begin_free.ensures in
    rw c.in-Free.is (record { part = did.part path m; ready = did.ready; told = did.told (first_in c.args.call.now) (second_in c.args.call.now); fills = tt; known = λ none. absurd none; under = did.under path m; hand = did.hand })

pub begin_claim-requires : goal.begin_claim-requires
begin_claim-requires c =
    let may = rw c.in-Claim.is at c.requires in
    may_claim c.args.sizes.now may.sized c.args.hand.now may.begins

pub returns-in-Claim : goal.returns-in-Claim
returns-in-Claim c =
    let path = first_in c.args.call.now ++ second_in c.args.call.now in
    let m = c.args.notes.now in
    let did = c.begin_claim.ensures in
    rw c.in-Claim.is (record { part = did.part path m; ready = did.ready; told = did.told (first_in c.args.call.now) (second_in c.args.call.now); fills = tt; known = λ none. absurd none; under = did.under path m; hand = did.hand })

pub begin_lock_file-requires : goal.begin_lock_file-requires
begin_lock_file-requires c =
    let may = rw c.in-LockFile.is at c.requires in
    may_lock c.args.sizes.now may.sized c.args.hand.now may.begins

pub returns-in-LockFile : goal.returns-in-LockFile
returns-in-LockFile c =
    let path = first_in c.args.call.now ++ second_in c.args.call.now in
    let m = c.args.notes.now in
    let did = c.begin_lock_file.ensures in
    rw c.in-LockFile.is (record { part = did.part path m; ready = did.ready; told = did.told (first_in c.args.call.now) (second_in c.args.call.now); fills = tt; known = λ none. absurd none; under = did.under path m; hand = did.hand })

pub begin_stat_file-requires : goal.begin_stat_file-requires
begin_stat_file-requires c =
    let may = rw c.in-StatFile.is at c.requires in
    may_lock c.args.sizes.now may.sized c.args.hand.now may.begins

pub returns-in-StatFile : goal.returns-in-StatFile
returns-in-StatFile c =
    let path = first_in c.args.call.now ++ second_in c.args.call.now in
    let m = c.args.notes.now in
    let did = c.begin_stat_file.ensures in
    rw c.in-StatFile.is (record { part = did.part path m; ready = did.ready; told = did.told (first_in c.args.call.now) (second_in c.args.call.now); fills = tt; known = λ none. absurd none; under = did.under path m; hand = did.hand })

pub begin_lock_open-requires : goal.begin_lock_open-requires
begin_lock_open-requires c =
    let may = rw c.in-LockOpen.is at c.requires in
    may_lock c.args.sizes.now may.sized c.args.hand.now may.begins

pub returns-in-LockOpen : goal.returns-in-LockOpen
returns-in-LockOpen c =
    let path = first_in c.args.call.now ++ second_in c.args.call.now in
    let m = c.args.notes.now in
    let did = c.begin_lock_open.ensures c.in-LockOpen.field-1 in
    rw c.in-LockOpen.is (record { part = did.part path m; ready = did.ready; told = did.told (first_in c.args.call.now) (second_in c.args.call.now); fills = tt; known = λ none. absurd none; under = did.under path m; hand = did.hand })

pub begin_clear-requires : goal.begin_clear-requires
begin_clear-requires c =
    let may = rw c.in-Clear.is at c.requires in
    let path = first_in c.args.call.now ++ second_in c.args.call.now in
    let few : c.in-Clear.number < 2 ^ 32 = search rules in
    record { begins = (path, name_in path c.in-Clear.field-1, (may_change c.args.sizes.now may.sized c.in-Clear.number c.args.hand.now few may.begins.0, may.begins.1)) }

pub returns-in-Clear : goal.returns-in-Clear
returns-in-Clear c =
    let may = rw c.in-Clear.is at c.requires in
    let path = first_in c.args.call.now ++ second_in c.args.call.now in
    let name = name_in path c.in-Clear.field-1 in
    let few : c.in-Clear.number < 2 ^ 32 = search rules in
    let did = c.begin_clear.ensures in
    rw c.in-Clear.is (record { part = did.part path name (may_change c.args.sizes.now may.sized c.in-Clear.number c.args.hand.now few may.begins.0, may.begins.1); ready = did.ready; told = did.told (first_in c.args.call.now) (second_in c.args.call.now); fills = tt; known = λ none. absurd none; under = did.under path name; hand = refl })

pub begin_enter-requires : goal.begin_enter-requires
begin_enter-requires c =
    let may = rw c.in-Enter.is at c.requires in
    let few : c.in-Enter.number < 2 ^ 32 = search rules in
    let first = first_in c.args.call.now in
    let is = c.name-name.ensures ∙ ap (λ (t : List ℕ). name_in (t ++ c.second.result.now) c.in-Enter.element) c.text.ensures ∙ ap (λ (t : List ℕ). name_in (first ++ t) c.in-Enter.element) c.second.ensures in
    (may_change c.args.sizes.now may.sized c.in-Enter.number c.args.hand.now few may.begins.0, may.sized.size, subst (λ (name : Name). IsName c.args.sizes.now.version name) (sym is) may.begins.1)

pub returns-in-Enter : goal.returns-in-Enter
returns-in-Enter c =
    let first = first_in c.args.call.now in
    let path = first ++ second_in c.args.call.now in
    let m = c.args.notes.now in
    let h = c.args.hand.now in
    let did = c.begin_enter.ensures in
    let p = c.begin_enter.new.self in
    let is = c.name-name.ensures ∙ ap (λ (t : List ℕ). name_in (t ++ c.second.result.now) c.in-Enter.element) c.text.ensures ∙ ap (λ (t : List ℕ). name_in (first ++ t) c.in-Enter.element) c.second.ensures in
    let part = subst (λ (name : Name). IsPart c.args.sizes.now (carry_in path m h) (Enter c.in-Enter.number name c.in-Enter.child) (part_left path m p h)) is (did.part path m) in
    let under = subst (λ (name : Name). UnderWay c.args.sizes.now.version path (Enter c.in-Enter.number name c.in-Enter.child) (having h m) p (having h m)) is (did.under path m) in
    rw c.in-Enter.is (record { part = part; ready = did.ready; told = did.told (first_in c.args.call.now) (second_in c.args.call.now); fills = tt; known = λ none. absurd none; under = under; hand = did.hand })

pub begin_read_file-requires : goal.begin_read_file-requires
begin_read_file-requires c = let may = rw c.in-ReadFile.is at c.requires in record { count = may.stands.1; begins = (c.in-ReadFile.field-2, may.begins) }

pub returns-in-ReadFile : goal.returns-in-ReadFile
returns-in-ReadFile c =
    let may = rw c.in-ReadFile.is at c.requires in
    let first = first_in c.args.call.now in
    let second = second_in c.args.call.now in
    let path = first ++ second in
    let offset = c.in-ReadFile.field-2 in
    let did = c.begin_read_file.ensures in
    let told = subst (λ (t : List ℕ). PartTold first t c.begin_read_file.new.self) (sym may.stands.2) (did.told first may.stands.0) in
    rw c.in-ReadFile.is (record { part = did.part c.args.sizes.now path offset may.begins; ready = did.ready; told = told; fills = did.fills path; known = λ none. absurd none; under = did.under c.args.sizes.now.version path offset; hand = refl })

pub begin_write_file-requires : goal.begin_write_file-requires
begin_write_file-requires c =
    let may = rw c.in-WriteFile.is at c.requires in
    let n = c.in-WriteFile.number in
    let few : n < 2 ^ 32 = search rules in
    let offset = c.in-WriteFile.field-2 in
    record {
      stands = subst (λ (t : List ℕ). piece_len * c.in-WriteFile.index ≤ length t) (sym c.text-in-WriteFile.ensures) may.stands.0;
      begins = (offset, may_write c.args.sizes.now may.sized n c.in-WriteFile.fd offset (having c.args.hand.now c.args.notes.now) few may.begins);
    }

pub returns-in-WriteFile : goal.returns-in-WriteFile
returns-in-WriteFile c =
    let may = rw c.in-WriteFile.is at c.requires in
    let w = c.in-WriteFile in
    let first = first_in c.args.call.now in
    let second = second_in c.args.call.now in
    let path = first ++ second in
    let m = c.args.notes.now in
    let h = c.args.hand.now in
    let few : w.number < 2 ^ 32 = search rules in
    let offset = c.in-WriteFile.field-2 in
    let did = c.begin_write_file.ensures in
    let p = c.begin_write_file.new.self in
    let part = subst (λ (t : List ℕ). IsPart c.args.sizes.now (carry_in t m h) (WriteFile w.fd w.number offset (piece t w.index)) (part_left t m p h))
    (c.text-in-WriteFile.ensures ∙ alone first second may.stands.1) (did.part offset (may_write c.args.sizes.now may.sized w.number w.fd offset (having h m) few may.begins)) in
    let told = subst (λ (t : List ℕ). PartTold first t p) (sym may.stands.1) (subst (λ (t : List ℕ). PartTold t [] p) c.text-in-WriteFile.ensures did.told) in
    rw c.in-WriteFile.is (record { part = part; ready = did.ready; told = told; fills = tt; known = λ none. absurd none; under = did.under c.args.sizes.now.version path (piece path w.index) offset; hand = refl })

pub begin_take-requires : goal.begin_take-requires
begin_take-requires c =
    let path = first_in c.args.call.now ++ second_in c.args.call.now in
    let m = c.args.notes.now in
    record { sizes = c.requires.sized; begins = (path, m, subst (λ (a : Ask). BeginsWith c.args.sizes.now.version path (op_in path a) (having c.args.hand.now m)) c.in-Take.is c.requires.begins) }

pub returns-in-Take : goal.returns-in-Take
returns-in-Take c =
    let first = first_in c.args.call.now in
    let second = second_in c.args.call.now in
    let path = first ++ second in
    let m = c.args.notes.now in
    let h = c.args.hand.now in
    let p = c.begin_take.new.self in
    subst (λ (a : Ask). BeginsWith c.args.sizes.now.version path (op_in path a) (having h m) → AskTold c.args.sizes.now.version first second a → PartHasBegun c.args.sizes.now first second a m h p h) (sym c.in-Take.is)
    (λ begins told.
    record {
      part = c.begin_take.ensures.part path m begins;
      ready = c.begin_take.ensures.ready;
      told = c.begin_take.ensures.told first second told;
      fills = tt;
      known = λ none. absurd none;
      under = c.begin_take.ensures.under path m begins;
      hand = refl;
    }) c.requires.begins c.requires.told

pub returns-in_default : goal.returns-in_default
returns-in_default c =
    let sizes = c.args.sizes.now in
    let path = first_in c.args.call.now ++ second_in c.args.call.now in
    let m = c.args.notes.now in
    let h = c.args.hand.now in
    let op = op_in path c.args.ask in
    let no = c.in_default in
    let has = short_begins sizes.version path m c.args.ask h c.requires.begins no.not-Store no.not-Empty no.not-Enter no.not-Clear no.not-Fill no.not-Free no.not-Claim no.not-LockOpen no.not-LockFile no.not-StatFile no.not-Take no.not-ReadFile no.not-WriteFile in
    let is = c.begin_short.ensures.is path in
    record {
      part = subst (λ (p : InodePart). IsPart sizes (carry_in path m h) op (part_left path m p h)) (sym is) (is_part sizes path m h op has);
      ready = subst (λ (p : InodePart). PartReady p h) (sym is) (is_ready op h has);
      told = subst (λ (p : InodePart). PartTold (first_in c.args.call.now) (second_in c.args.call.now) p) (sym is) (told_for (first_in c.args.call.now) (second_in c.args.call.now) (step_for op h));
      fills = other_fills path c.args.ask _ no.not-ReadFile;
      known = λ begins. (is, refl);
      under = subst (λ (p : InodePart). UnderWay sizes.version path op (having h m) p (having h m)) (sym is) (under_way sizes.version path op h m has);
      hand = refl;
    }
