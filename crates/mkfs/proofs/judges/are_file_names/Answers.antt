use Rattle.mkfs.proofs.Lemmas.{arith, refl, subst, sym, ◌∙◌, All-map, NewFile, IsFileName, at-file}
use Rattle.mkfs.proofs.judges.are_file_names.Goals as goal

pub returns-then-not-is_file_name : goal.returns-then-not-is_file_name
returns-then-not-is_file_name c = (
  λ t. (cc),
  λ all.
      let this = at-file (λ (f : NewFile). f.name.items) (IsFileName c.args.version) c.args.files.now c.loop-file.file-index c.file-item.result all c.loop-file-test.true c.file-item.is in
      sym c.if-not-is_file_name.true ∙ c.is_file_name.ensures.1 (subst (IsFileName c.args.version) (sym c.as_slice-name.ensures.value) this),
)

pub returns : goal.returns
returns c =
    (λ _. All-map (IsFileName c.args.version) (λ (f : NewFile). f.name.items) c.args.files.now (λ i d l. c.loop-file.invariant i d (omega arith)), λ _. refl)
