-- The value for the outcome of a call of the device.
use Rattle.group_log.proofs.Vocabulary.{◌≡◌, ap, Result, Ok, Err, Written, by_outcome, outcome_of}

pub same_seats : {A T E : Type 0} (r : Result T E) (o : Written) (waits ran : A) → o ≡ outcome_of r → by_outcome o waits ran ran ≡ ran
same_seats {A} (Ok x) o waits ran e = ap (λ (o : Written). by_outcome {A = A} o waits ran ran) e
same_seats {A} (Err x) o waits ran e = ap (λ (o : Written). by_outcome {A = A} o waits ran ran) e
