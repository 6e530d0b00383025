use Rattle.fs_machine.proofs.Lemmas.{◌≡◌, refl, sym, ap, ◌∙◌, subst, Ran, Ret, Passes, Fails, state_of, exec, kind_of, Honest, Hand, Op, op_in, answer_in, IsAfter, ran-step, waits-step, stops-step, of-next, after-prepared, prepared-waits, prepared-stops, bare-fits, ran-asked}
use Rattle.fs_machine.proofs.control.Machine.step.Goals as goal

pub returns-in-Waits-clause-steps : goal.returns-in-Waits-clause-steps
returns-in-Waits-clause-steps g c =
    let old = state_of g.D.Device.contents g.D.Device.failures c.args.core.now in
    let control = c.args.self.now.control in
    let p = g.C.Control.left control c.args.self.now.hand in
    let o = op_in c.op-op.new.hand c.op-op.result in
    let did = c.in-Waits.ensures in
    let is = c.op-op.ensures.asks in
    let same : c.perform.new.self ≡ c.args.self.now.hand = did.still.0 ∙ prepared-waits c.op-op.result c.args.hart Passes old c.args.self.now.hand c.op-op.new.hand c.op-op.ensures.prepared did.ran in
    record {
      moves = waits-step c.args.hart Passes old o p is did.ran;
      honest = of-next (λ op s. Honest c.args.hart op s Passes) p o old is did.honest;
      still = (ap (g.C.Control.left control) same, did.still.1);
      fits = subst (λ (h : Hand). g.C.Control.Ready control h) (sym same) c.requires.ready;
      ended = tt;
      others = did.others;
      called = did.called;
    }

pub returns-in-Waits-clause-tells : goal.returns-in-Waits-clause-tells
returns-in-Waits-clause-tells g c =
    let did = c.in-Waits.ensures in (
      refl,
      did.still.0 ∙ prepared-waits c.op-op.result c.args.hart Passes (state_of g.D.Device.contents g.D.Device.failures c.args.core.now) c.args.self.now.hand c.op-op.new.hand c.op-op.ensures.prepared did.ran,
    )

pub returns-in-Stopped-clause-tells : goal.returns-in-Stopped-clause-tells
returns-in-Stopped-clause-tells g c =
    let new = state_of g.D.Device.contents g.D.Device.failures c.perform.new.core in
    let did = c.in-Stopped.ensures in (
      refl,
      did.still
          ∙ prepared-stops c.op-op.result c.args.hart (Fails new.log.contents) (state_of g.D.Device.contents g.D.Device.failures c.args.core.now) new c.args.self.now.hand c.op-op.new.hand c.op-op.ensures.prepared did.ran,
    )

pub returns-in-Stopped-clause-steps : goal.returns-in-Stopped-clause-steps
returns-in-Stopped-clause-steps g c =
    let old = state_of g.D.Device.contents g.D.Device.failures c.args.core.now in
    let new = state_of g.D.Device.contents g.D.Device.failures c.perform.new.core in
    let control = c.args.self.now.control in
    let p = g.C.Control.left control c.args.self.now.hand in
    let o = op_in c.op-op.new.hand c.op-op.result in
    let x = Fails new.log.contents in
    let did = c.in-Stopped.ensures in
    let is = c.op-op.ensures.asks in
    let same : c.perform.new.self ≡ c.args.self.now.hand = did.still ∙ prepared-stops c.op-op.result c.args.hart x old new c.args.self.now.hand c.op-op.new.hand c.op-op.ensures.prepared did.ran in
    record {
      moves = stops-step c.args.hart x old o p new is did.ran;
      honest = of-next (λ op s. Honest c.args.hart op s x) p o old is did.honest;
      still = ap (g.C.Control.left control) same;
      fits = subst (λ (h : Hand). g.C.Control.Ready control h) (sym same) c.requires.ready;
      ended = tt;
      others = did.others;
      called = did.called;
    }

pub returns-in-None-clause-steps : goal.returns-in-None-clause-steps
returns-in-None-clause-steps g c =
    let old = state_of g.D.Device.contents g.D.Device.failures c.args.core.now in
    let new = state_of g.D.Device.contents g.D.Device.failures c.perform.new.core in
    let before = c.args.self.now.hand in
    let control = c.args.self.now.control in
    let p = g.C.Control.left control before in
    let q = g.C.Control.left c.next.new.self c.next.new.hand in
    let o = op_in c.op-op.new.hand c.op-op.result in
    let a = c.perform.new.told in
    let did = c.in-Ran.ensures in
    let is = c.op-op.ensures.asks in
    let asked = g.C.Control.asked control in
    let after : IsAfter asked before a c.perform.new.self = subst (λ (op : Op). IsAfter op before a c.perform.new.self) c.op-op.ensures.op
    (after-prepared c.op-op.result before c.op-op.new.hand c.perform.new.self a c.op-op.ensures.prepared did.hand) in
    record {
      moves = ran-step c.args.hart Passes old o p q new c.in-Ran.kind (answer_in asked a c.perform.new.self) is (c.in-None.ensures.goes before c.requires.ready after)
          (subst (λ (op : Op). exec c.args.hart Passes o old ≡ Ran (answer_in op a c.perform.new.self o) new) c.op-op.ensures.op did.ran)
          (subst (λ (op : Op). kind_of o (answer_in op a c.perform.new.self o) ≡ c.in-Ran.kind) c.op-op.ensures.op did.kind);
      honest = of-next (λ op s. Honest c.args.hart op s Passes) p o old is did.honest;
      still = tt;
      fits = c.in-None.ensures.ready;
      ended = tt;
      others = did.others;
      called = did.called;
    }

pub returns-in-None-clause-fits : goal.returns-in-None-clause-fits
returns-in-None-clause-fits g c =
    bare-fits c.args.hart (state_of g.D.Device.contents g.D.Device.failures c.perform.new.core) c.perform.new.self c.next.new.hand c.in-None.ensures.hand c.in-Ran.ensures.fits

pub returns-in-Some-clause-steps : goal.returns-in-Some-clause-steps
returns-in-Some-clause-steps g c =
    let old = state_of g.D.Device.contents g.D.Device.failures c.args.core.now in
    let new = state_of g.D.Device.contents g.D.Device.failures c.perform.new.core in
    let before = c.args.self.now.hand in
    let control = c.args.self.now.control in
    let p = g.C.Control.left control before in
    let q = Ret (g.C.Control.value c.next.new.self c.in-Some.out c.next.new.hand) in
    let o = op_in c.op-op.new.hand c.op-op.result in
    let a = c.perform.new.told in
    let did = c.in-Ran.ensures in
    let is = c.op-op.ensures.asks in
    let asked = g.C.Control.asked control in
    let after : IsAfter asked before a c.perform.new.self = subst (λ (op : Op). IsAfter op before a c.perform.new.self) c.op-op.ensures.op
    (after-prepared c.op-op.result before c.op-op.new.hand c.perform.new.self a c.op-op.ensures.prepared did.hand) in
    record {
      moves = ran-step c.args.hart Passes old o p q new c.in-Ran.kind (answer_in asked a c.perform.new.self) is (c.in-Some.ensures.goes before c.requires.ready after)
          (subst (λ (op : Op). exec c.args.hart Passes o old ≡ Ran (answer_in op a c.perform.new.self o) new) c.op-op.ensures.op did.ran)
          (subst (λ (op : Op). kind_of o (answer_in op a c.perform.new.self o) ≡ c.in-Ran.kind) c.op-op.ensures.op did.kind);
      honest = of-next (λ op s. Honest c.args.hart op s Passes) p o old is did.honest;
      still = tt;
      fits = c.in-Some.ensures.ends;
      ended = refl;
      others = did.others;
      called = did.called;
    }

pub returns-in-Some-clause-fits : goal.returns-in-Some-clause-fits
returns-in-Some-clause-fits g c =
    bare-fits c.args.hart (state_of g.D.Device.contents g.D.Device.failures c.perform.new.core) c.perform.new.self c.next.new.hand c.in-Some.ensures.hand c.in-Ran.ensures.fits

pub returns-in-None-clause-tells : goal.returns-in-None-clause-tells
returns-in-None-clause-tells g c =
    let old = state_of g.D.Device.contents g.D.Device.failures c.args.core.now in
    let new = state_of g.D.Device.contents g.D.Device.failures c.perform.new.core in
    let before = c.args.self.now.hand in
    let control = c.args.self.now.control in
    let o = op_in c.op-op.new.hand c.op-op.result in
    let a = c.perform.new.told in
    let did = c.in-Ran.ensures in
    let asked = g.C.Control.asked control in
    let after : IsAfter asked before a c.perform.new.self = subst (λ (op : Op). IsAfter op before a c.perform.new.self) c.op-op.ensures.op
    (after-prepared c.op-op.result before c.op-op.new.hand c.perform.new.self a c.op-op.ensures.prepared did.hand) in
    record {
      answer = answer_in asked a c.perform.new.self;
      ran = ran-asked c.args.hart Passes old o (g.C.Control.left control before) new (answer_in asked a c.perform.new.self) c.op-op.ensures.asks
          (subst (λ (op : Op). exec c.args.hart Passes o old ≡ Ran (answer_in op a c.perform.new.self o) new) c.op-op.ensures.op did.ran);
      tells = c.in-None.ensures.tells before c.requires.ready after;
    }

pub returns-in-Some-clause-tells : goal.returns-in-Some-clause-tells
returns-in-Some-clause-tells g c =
    let old = state_of g.D.Device.contents g.D.Device.failures c.args.core.now in
    let new = state_of g.D.Device.contents g.D.Device.failures c.perform.new.core in
    let before = c.args.self.now.hand in
    let control = c.args.self.now.control in
    let o = op_in c.op-op.new.hand c.op-op.result in
    let a = c.perform.new.told in
    let did = c.in-Ran.ensures in
    let asked = g.C.Control.asked control in
    let after : IsAfter asked before a c.perform.new.self = subst (λ (op : Op). IsAfter op before a c.perform.new.self) c.op-op.ensures.op
    (after-prepared c.op-op.result before c.op-op.new.hand c.perform.new.self a c.op-op.ensures.prepared did.hand) in
    record {
      answer = answer_in asked a c.perform.new.self;
      ran = ran-asked c.args.hart Passes old o (g.C.Control.left control before) new (answer_in asked a c.perform.new.self) c.op-op.ensures.asks
          (subst (λ (op : Op). exec c.args.hart Passes o old ≡ Ran (answer_in op a c.perform.new.self o) new) c.op-op.ensures.op did.ran);
      tells = c.in-Some.ensures.tells before c.requires.ready after;
    }

pub next-requires : goal.next-requires
next-requires g c =
    let before = c.args.self.now.hand in
    let a = c.perform.new.told in
    record {
      came = (
        before,
        c.requires.ready,
        subst (λ (op : Op). IsAfter op before a c.perform.new.self) c.op-op.ensures.op
            (after-prepared c.op-op.result before c.op-op.new.hand c.perform.new.self a c.op-op.ensures.prepared c.in-Ran.ensures.hand),
      );
    }
