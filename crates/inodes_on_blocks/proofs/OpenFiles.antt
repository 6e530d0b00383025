-- The open file by which a hart has locked an inode: its descriptor names it still, with its offset.
use Rattle.inodes_on_blocks.proofs.Vocabulary.{◌≡◌, ℕ, ◌<◌, Some, None, refl, ◌∙◌, ap, OpenFile, put, descriptor_count, put_same, Desk, Entry, Kept, NothingMore, Finds, Opened, Had, Apart, Has, Emptied, IsOpened}
use Rattle.inode_machine.specs.World as above
use Rattle.inode_machine.specs.Rules.{Own}

-- A descriptor of hart h that has inode i open has it open still, by the same file.
abbrev pub OpenStays : ℕ → ℕ → above.World → above.World → Type 0
OpenStays h i g u = (fd k : ℕ) (e : Entry) → fd < descriptor_count → (g.desks h).fds fd ≡ Some k → g.files k ≡ Some e → e.file.number ≡ i → ((u.desks h).fds fd ≡ Some k) × (f : Entry) × (u.files k ≡ Some f) × (f.file ≡ e.file)

pub open_same : (h i : ℕ) (g : above.World) → OpenStays h i g g
open_same h i g fd k e below is at number = (is, e, at, refl)

-- if neither changes
pub open_alike : (h i : ℕ) (g u : above.World) → (u.desks h).fds ≡ (g.desks h).fds → u.files ≡ g.files → OpenStays h i g u
open_alike h i g u fds files fd k e below is at number = ((λ z. fds z fd) ∙ is, e, (λ z. files z k) ∙ at, refl)

-- by what became of the hart's desk, and of the open files
pub open_put : (h i : ℕ) (g u : above.World) (new : Desk) → u.desks ≡ put g.desks h new → ((fd k : ℕ) → (g.desks h).fds fd ≡ Some k → new.fds fd ≡ Some k)
    → ((k : ℕ) (e : Entry) → g.files k ≡ Some e → (f : Entry) × (u.files k ≡ Some f) × (f.file ≡ e.file)) → OpenStays h i g u
open_put h i g u new desks fds files fd k e below is at number = let x = files k e at in ((λ z. (desks z h).fds fd) ∙ ap (λ (d : Desk). d.fds fd) (put_same g.desks h new) ∙ fds fd k is, x.0, x.1, x.2)

pub open_twice : (h i : ℕ) (g v u : above.World) → OpenStays h i g v → OpenStays h i v u → OpenStays h i g u
open_twice h i g v u first then_ fd k e below is at number =
    let a = first fd k e below is at number in
    let b = then_ fd k a.1 below a.0 a.2 (ap (λ (f : OpenFile). f.number) a.3 ∙ number) in
    (b.0, b.1, b.2, b.3 ∙ a.3)

pub open_then : (h i : ℕ) (had : Had) (g u : above.World) → OpenStays h i g u → IsOpened h i had g → IsOpened h i had u
open_then h i Apart g u stays is = tt
open_then h i Emptied g u stays is = tt
open_then h i (Has d NothingMore) g u stays is = tt
open_then h i (Has d (Finds e s)) g u stays is = tt
open_then h i (Has d (Opened fd offset)) g u stays is =
    let x = stays fd is.slot is.entry is.below is.is is.at is.number in
    record { hart = is.hart; below = is.below; slot = is.slot; is = x.0; entry = x.1; at = x.2; number = ap (λ (f : OpenFile). f.number) x.3 ∙ is.number; offset_is = ap (λ (f : OpenFile). f.offset) x.3 ∙ is.offset_is }

-- while the others step, of an inode that the hart keeps
pub open_kept : (h i : ℕ) (had : Had) (g u : above.World) → (g.desks h).lender ≡ None → Kept h g u → g.keeper i ≡ Some h → IsOpened h i had g → IsOpened h i had u
open_kept h i Apart g u free kept keeps is = tt
open_kept h i Emptied g u free kept keeps is = tt
open_kept h i (Has d NothingMore) g u free kept keeps is = tt
open_kept h i (Has d (Finds e s)) g u free kept keeps is = tt
open_kept h i (Has d (Opened fd offset)) g u free kept keeps is =
    open_then h i (Has d (Opened fd offset)) g u
    (λ by k e below at_fd at_k number. let x = kept.opens free by k e is.hart below at_fd at_k in (ap (λ (o : Own). o.desk.fds by) (kept.same free) ∙ at_fd, x.0, x.1, x.3 (ap g.keeper number ∙ keeps))) is
