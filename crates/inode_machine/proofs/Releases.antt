-- A child that has all of its lender's starts again.
use Rattle.inode_machine.proofs.Vocabulary.{◌≡◌, ◌+◌, ℕ, inr, Option, Some, None, refl, sym, ◌∙◌, ap, subst, arith, descriptor_count, put, put_same, put_other, Desk, World, released, serving, Own, own_of, file_tables_of, Has, Inv, nothing}
use Rattle.inode_machine.proofs.Basics.{FairTo, put_elim, SameTied, same_tied, tied_as}
use Rattle.inode_machine.proofs.Turnings.{Server, Kid, kid, Turns, turned_fair, turned_own, serving_given, serving_none}

-- The child starts again: its directory in the tree is its own.
module _ (h c : ℕ) (v : World) (O : Own) (inv : Inv v) (ov : own_of h v ≡ O) (srv : Server h c O) (done : O.desk.lent ≡ serving c (Some 1)) where
  k : Kid h c v
  k = kid h c v O inv ov srv

  abbrev x : Desk
  x = record (v.desks h) { lent = nothing }

  abbrev y : Desk
  y = record (v.desks c) { lender = None }

  abbrev D : ℕ → Desk
  D = put (put v.desks h x) c y

  lent_is : (v.desks h).lent ≡ serving c (Some 1)
  lent_is = ap (λ (o : Own). o.desk.lent) ov ∙ done

  same : (g : ℕ) → SameTied (D g) (v.desks g)
  same g = put_elim (put v.desks h x) c y g (λ d. SameTied d (v.desks g))
      (λ e. subst (λ (z : ℕ). SameTied y (v.desks z)) (sym e) (record { fds = λ i l. refl; lent = λ i l. refl; hand = refl; opening = refl; full = refl }))
      (λ nc. put_elim v.desks h x g (λ d. SameTied d (v.desks g))
      (λ e. subst (λ (z : ℕ). SameTied x (v.desks z)) (sym e) (record { fds = λ i l. refl; lent = λ i l. sym (ap (λ (f : ℕ → Option ℕ). f i) lent_is ∙ serving_none c (Some 1) i l); hand = refl; opening = refl; full = refl }))
      (λ nh. same_tied (v.desks g)))

  at : v.all.cwd c ≡ (v.desks c).directory
  at = subst (λ (z : Option ℕ). Has z (v.desks c).fds (v.all.cwd c) (v.desks c).directory (v.desks h).directory) (ap (λ (f : ℕ → Option ℕ). f (descriptor_count + 1)) lent_is ∙ serving_given c (Some 1)) k.lends.has

  turns : Turns h c v v.files D v.refs v.harts v.all.fds v.all.cwd nothing y
  turns = record {
    mine = put_other (put v.desks h x) c y h (λ q. k.apart (sym q)) ∙ put_same v.desks h x;
    his = put_same (put v.desks h x) c y;
    desks = λ g nh nc. put_other (put v.desks h x) c y g nc ∙ put_other v.desks h x g nh;
    others = λ g nh nc. refl;
    fds = λ g nc. refl;
    cwd = λ g nc. refl;
    numbers = λ l d q. (d, q, refl, refl);
    tied = tied_as (file_tables_of v) D same inv.tied;
    inode_types = inv.inode_types;
    well = inv.well;
    counts = inv.counts;
    apart = λ i g kept q. refl;
    few = (inv.refers h srv.hart).few;
    refs = λ i. omega arith;
    walk = ap (λ (o : Own). o.mine.walk) ov ∙ srv.walk;
    found = ap (λ (o : Own). o.mine.pending) ov ∙ srv.pending;
    his_refs = k.lends.rests.refs;
    his_walk = k.lends.rests.walk;
    his_found = k.lends.rests.pending;
    hand = k.lends.rests.hand;
    joined = k.lends.rests.joined;
    lent = k.lends.rests.lent;
    opening = k.lends.rests.opening;
    left = k.lends.rests.left;
    noted = k.lends.rests.noted;
    inode_type = (inv.directory c k.below).inode_type;
    phase = inr (refl, refl, at);
  }

  pub released_fair : FairTo h v (released v h c)
  released_fair = turned_fair h c v O v.files D v.refs v.harts v.all.fds v.all.cwd nothing y inv ov srv turns

  pub released_owns : own_of h (released v h c) ≡ record O { desk = record (O.desk) { lent = nothing } }
  released_owns = turned_own h c v O v.files D v.refs v.harts v.all.fds v.all.cwd nothing y inv ov srv turns ∙ (λ z. record O { mine = (ov z).mine; desk = record (O.desk) { lent = nothing } })
