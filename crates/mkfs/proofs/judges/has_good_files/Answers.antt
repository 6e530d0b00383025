use Rattle.image_versions.specs.Shared.{largest_size}
use Rattle.mkfs.proofs.Lemmas.{some-slots, arith, refl, ℕ, List, length, ◌≤◌, length-map, All-map, NewFile, size-at}
use Rattle.mkfs.proofs.judges.has_good_files.Goals as goal

pub returns-then-content-gt-LARGEST_SIZE : goal.returns-then-content-gt-LARGEST_SIZE
returns-then-content-gt-LARGEST_SIZE c = (
  λ t. (cc),
  λ g. absurd (omega (arith, size-at c.args.files.now c.loop-file.file-index c.file-item.result _ c.as_slice-content.ensures.value g.each c.loop-file-test.true c.file-item.is)),
)

pub returns : goal.returns
returns c = (
  λ _. record {
    each = All-map (λ (content : List ℕ). length content ≤ largest_size) (λ (f : NewFile). f.content.items) c.args.files.now (λ i d l. c.loop-file.invariant i d (omega arith));
    few = omega (arith, length-map c.args.files.now (λ (f : NewFile). f.content.items), some-slots c.args.version);
  },
  λ _. refl,
)
