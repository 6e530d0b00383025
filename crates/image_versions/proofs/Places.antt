-- The laws of the widths, version by version: no other proof asks which version it is.
use Rattle.std.proofs.Common.{◌≡◌, zero, suc, Bool, true, false, ◌==◌, ◌⊎◌, Some, None, refl, arith, inl, inr, cond, ⊎_elim}
use Rattle.std.proofs.lemmas.Bool.{eqb-true}
use Rattle.image_versions.specs.declared.version.Version.{Version}
use Rattle.image_versions.specs.declared.version.Version.TheVariants.{One, Two}
use Rattle.image_versions.specs.Versions.{magic_of}
use Rattle.image_versions.specs.Laws.{MagicsTellVersions, MagicsAreOfTheirVersion, NumbersTellVersions, NumbersAreOfVersions, WidthsAreInRange, EntriesFillBlocks, EntriesLieInBlocks, EntriesLieApart, SlotsLieInTheirBlocks, SlotsLieInTheirContent, LengthsCountSlots, ContentsHoldTheMostSlots, NewDirectoriesFit, BlocksHoldEntries, MostSlotsFit, LaterNamesAreLonger, EntriesAreWords, PlacesLieInTheirBlocks, BlocksHaveTheSlotsBelow, SlotsTakeBlocks, DirectoriesHaveWholeBlocks}

pub magics_tell : MagicsTellVersions
magics_tell One = refl
magics_tell Two = refl

pub numbers_tell : NumbersTellVersions
numbers_tell One = refl
numbers_tell Two = refl

pub between : NumbersAreOfVersions
between zero low high = absurd (omega arith)
between (suc zero) low high = (One, refl)
between (suc (suc zero)) low high = (Two, refl)
between (suc (suc (suc n))) low high = absurd (omega arith)

pub in_range : WidthsAreInRange
in_range One = (omega arith, omega arith, omega arith, omega arith, omega arith, omega arith, omega arith, omega arith)
in_range Two = (omega arith, omega arith, omega arith, omega arith, omega arith, omega arith, omega arith, omega arith)

pub fill : EntriesFillBlocks
fill One = refl
fill Two = refl

pub inside : EntriesLieInBlocks
inside One place low = omega arith
inside Two place low = omega arith

pub lie_apart : EntriesLieApart
lie_apart One p q low = omega arith
lie_apart Two p q low = omega arith

pub in_their_blocks : SlotsLieInTheirBlocks
in_their_blocks One s = (omega arith, omega arith)
in_their_blocks Two s = (omega arith, omega arith)

pub in_their_content : SlotsLieInTheirContent
in_their_content One s size low = (omega arith, omega arith)
in_their_content Two s size low = (omega arith, omega arith)

pub count_slots : LengthsCountSlots
count_slots One n = (omega arith, omega arith)
count_slots Two n = (omega arith, omega arith)

pub hold_most : ContentsHoldTheMostSlots
hold_most One = refl
hold_most Two = refl

pub new_fits : NewDirectoriesFit
new_fits One = (omega arith, omega arith)
new_fits Two = (omega arith, omega arith)

pub hold_entries : BlocksHoldEntries
hold_entries One n blocks low = (omega arith, omega arith, omega arith)
hold_entries Two n blocks low = (omega arith, omega arith, omega arith)

pub most_fit : MostSlotsFit
most_fit One n few = omega arith
most_fit Two n few = omega arith

pub are_words : EntriesAreWords
are_words One = refl
are_words Two = refl

pub in_block : PlacesLieInTheirBlocks
in_block One k place low = (omega arith, omega arith)
in_block Two k place low = (omega arith, omega arith)

pub have_below : BlocksHaveTheSlotsBelow
have_below One s blocks = (λ h. omega arith, λ h. omega arith)
have_below Two s blocks = (λ h. omega arith, λ h. omega arith)

pub take_blocks : SlotsTakeBlocks
take_blocks One n k = (λ h. omega arith, λ h. omega arith)
take_blocks Two n k = (λ h. omega arith, λ h. omega arith)

pub whole_blocks : DirectoriesHaveWholeBlocks
whole_blocks One = (λ k low. omega arith, λ n few. omega arith)
whole_blocks Two = (λ k low. omega arith, λ n few. omega arith)

pub longer : LaterNamesAreLonger
longer One One less = omega arith
longer One Two less = omega arith
longer Two One less = omega arith
longer Two Two less = omega arith

some_same : (v w : Version) → Some v ≡ Some w → v ≡ w
some_same v w e = cc

-- which of two choices gave the version
chosen : (b c : Bool) (v : Version) → cond b (Some One) (cond c (Some Two) None) ≡ Some v → ((b ≡ true) × (v ≡ One)) ⊎ ((c ≡ true) × (v ≡ Two))
chosen true c v e = inl (refl, cc)
chosen false true v e = inr (refl, cc)
chosen false false v e = cc

pub magics_only : MagicsAreOfTheirVersion
magics_only m v is =
    ⊎_elim
    (λ (y : ((m == magic_of One) ≡ true) × (v ≡ One)). let e : m ≡ magic_of One = eqb-true m (magic_of One) y.0 in rw y.1 e)
    (λ (y : ((m == magic_of Two) ≡ true) × (v ≡ Two)). let e : m ≡ magic_of Two = eqb-true m (magic_of Two) y.0 in rw y.1 e)
    (chosen (m == magic_of One) (m == magic_of Two) v is)
