use Rattle.whole_calls.proofs.Lemmas.{ℕ, List, sym, subst, IsNamed, IsNamedInTwo, Fits, chdir_stage, unlink_stage, LinkFits, link_stage, mkdir_stage, open_stage, ReadAsks, WriteAsks, WriteFits}
use Rattle.whole_calls.proofs.whole.Whole.ask.Goals as goal

pub returns-in-Open-clause-named : goal.returns-in-Open-clause-named
returns-in-Open-clause-named c v list =
    let e = c.as_slice.ensures in
    rw c.in-Open.is (λ fits. subst (λ (path : List ℕ). IsNamed v path c.ask.result) e (c.ask.ensures.named v list (subst (λ (path : List ℕ). Fits v path list (open_stage c.in-Open.at)) (sym e) fits.1)))

pub returns-in-Read-clause-named : goal.returns-in-Read-clause-named
returns-in-Read-clause-named c v list =
    let e = c.as_slice-in-Read.ensures.value in
    rw c.in-Read.is (λ fits. subst (λ (buffer : List ℕ). ReadAsks v buffer c.in-Read.at c.ask-in-Read.result) e (c.ask-in-Read.ensures.named v))

pub returns-in-Write-clause-named : goal.returns-in-Write-clause-named
returns-in-Write-clause-named c v list =
    let e = c.as_slice-in-Write.ensures in
    rw c.in-Write.is (λ fits. subst (λ (bytes : List ℕ). WriteAsks v bytes c.ask-in-Write.result) e (c.ask-in-Write.ensures.named v (subst (λ (bytes : List ℕ). WriteFits bytes c.in-Write.at) (sym e) fits.1)))

pub returns-in-Link-clause-named : goal.returns-in-Link-clause-named
returns-in-Link-clause-named c v list =
    let at = c.in-Link.at in
    let a = c.ask-in-Link.result in
    let old = c.as_slice-in-Link.ensures in
    let new = c.as_slice-in-Link-2.ensures in
    let read = c.as_slice-in-Link.result.now in
    rw c.in-Link.is (λ fits.
    subst (λ (path : List ℕ). IsNamedInTwo v path c.in-Link.new a) old
    (subst (λ (path : List ℕ). IsNamedInTwo v read path a) new
    (c.ask-in-Link.ensures.named v list
    (subst (λ (path : List ℕ). LinkFits v read path list (link_stage at)) (sym new)
    (subst (λ (path : List ℕ). LinkFits v path c.in-Link.new list (link_stage at)) (sym old) fits.2)))))

pub returns-in-Unlink-clause-named : goal.returns-in-Unlink-clause-named
returns-in-Unlink-clause-named c v list =
    let e = c.as_slice-in-Unlink.ensures in
    rw c.in-Unlink.is (λ fits. subst (λ (path : List ℕ). IsNamed v path c.ask-in-Unlink.result) e (c.ask-in-Unlink.ensures.named v list (subst (λ (path : List ℕ). Fits v path list (unlink_stage c.in-Unlink.at)) (sym e) fits.1)))

pub returns-in-Mkdir-clause-named : goal.returns-in-Mkdir-clause-named
returns-in-Mkdir-clause-named c v list =
    let e = c.as_slice-in-Mkdir.ensures in
    rw c.in-Mkdir.is (λ fits. subst (λ (path : List ℕ). IsNamed v path c.ask-in-Mkdir.result) e (c.ask-in-Mkdir.ensures.named v list (subst (λ (path : List ℕ). Fits v path list (mkdir_stage c.in-Mkdir.at)) (sym e) fits.1)))

pub returns-in-Chdir-clause-named : goal.returns-in-Chdir-clause-named
returns-in-Chdir-clause-named c v list =
    let e = c.as_slice-in-Chdir.ensures in
    rw c.in-Chdir.is (λ fits. subst (λ (path : List ℕ). IsNamed v path c.ask-in-Chdir.result) e (c.ask-in-Chdir.ensures.named v list (subst (λ (path : List ℕ). Fits v path list (chdir_stage c.in-Chdir.at)) (sym e) fits.1)))
