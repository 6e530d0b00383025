use Rattle.mkfs.proofs.Lemmas.{ℕ, ◌<◌, List, length, refl, sym, ◌∙◌, arith, length-map, NewFile, names_of, seen-none, seen-more, seen-all, seen-double, contains-has, not-true, not-false, name-at}
use denote.Bor.{Bor}
use Rattle.mkfs.proofs.judges.has_no_double.Goals as goal

pub loop-file-init : goal.loop-file-init
loop-file-init c = seen-none (λ (k : Bor (List ℕ)). k.now) (names_of c.args.files.now) c.new-seen.result.keys c.new-seen.ensures.empty

pub loop-file-preserved : goal.loop-file-preserved
loop-file-preserved c =
    let files : List NewFile = c.args.files.now in
    let i : ℕ = c.loop-file.file-index in
    let same = name-at files i c.file-item.result _ c.as_slice-name.ensures.value c.loop-file-test.true c.file-item.is in
    let v : Bor (List ℕ) → List ℕ = λ k. k.now in
    let keys : List (Bor (List ℕ)) = c.loop-file.seen.keys in
    let fresh = sym (contains-has v keys c.as_slice-name.result) ∙ not-true _ c.in_ok-insert.field-0 c.in_ok-insert.ensures.added c.if-not-branch.false in
    seen-more v (names_of files) keys c.insert.new.self.keys c.as_slice-name.result i c.in_ok-insert.ensures.keys same fresh c.loop-file.invariant

pub returns-then-not-branch : goal.returns-then-not-branch
returns-then-not-branch c =
    let files : List NewFile = c.args.files.now in
    let i : ℕ = c.loop-file.file-index in
    let same = name-at files i c.file-item.result _ c.as_slice-name.ensures.value c.loop-file-test.true c.file-item.is in
    let v : Bor (List ℕ) → List ℕ = λ k. k.now in
    let keys : List (Bor (List ℕ)) = c.loop-file.seen.keys in
    let there = sym (contains-has v keys c.as_slice-name.result) ∙ not-false _ c.in_ok-insert.field-0 c.in_ok-insert.ensures.added c.if-not-branch.true in
    let within : i < length (names_of files) = omega (arith, length-map files (λ (f : NewFile). f.name.items)) in
    ((λ t. (cc)), λ all. absurd (seen-double v (names_of files) keys c.as_slice-name.result i within same there c.loop-file.invariant all))

pub returns : goal.returns
returns c =
    let files : List NewFile = c.args.files.now in (
      λ _. seen-all (λ (k : Bor (List ℕ)). k.now) (names_of files) c.loop-file.seen.keys c.loop-file.file-index (omega (arith, length-map files (λ (f : NewFile). f.name.items))) c.loop-file.invariant,
      λ _. refl,
    )
