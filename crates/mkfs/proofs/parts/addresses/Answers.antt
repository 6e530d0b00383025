use Rattle.image_versions.specs.Shared.{addresses}
use Rattle.mkfs.proofs.Lemmas.{◌∙◌, ap, ℕ, range_with_len, padded, range-padded}
use Rattle.mkfs.proofs.parts.addresses.Goals as goal

pub returns : goal.returns
returns c =
    c.set_rising.ensures ∙ range-padded addresses c.min.result c.args.first ∙ ap (λ (k : ℕ). padded addresses (range_with_len c.args.first k)) c.min.ensures
