use Rattle.tree_histories.proofs.Lemmas.{refl, sym, ◌∙◌, ap, subst, tree_of, Leads, Chain, acts_of, stand_of, got, leads_front, snoc_front, undone}
use Rattle.tree_histories.proofs.position.Position.undo.Goals as goal

pub tree_after-requires : goal.tree_after-requires
tree_after-requires c = subst (λ l. Leads c.args.version (tree_of c.args.base.now) l) (sym c.deref-2.ensures.value) (leads_front c.args.version (tree_of c.args.base.now) (tree_of c.args.self.now.tree) c.pop.new.self.items c.in-Some.entry c.args.self.now.list.items c.in-Some.ensures.items c.requires.chain)

pub returns : goal.returns
returns c = record {
  at = undone c.args.version c.args.base.now c.args.trace.now c.args.self.now c.pop.new.self.items c.in-Some.entry c.in-Some-get.traced.now c.stand_in-stand.result c.end_of.result _ (record {
    at = c.requires;
    was = c.in-Some.ensures.items;
    is = got c.args.trace.now.calls c.as_slice.result.now c.in-Some.entry.call c.in-Some-get.traced.now c.as_slice.ensures c.in-Some-get.ensures.lookup.3.0 c.in-Some-get.ensures.lookup.1;
    stand = c.stand_in-stand.ensures ∙ ap (λ l. stand_of (acts_of c.in-Some.entry.call l)) c.deref.ensures.value;
    end = c.end_of.ensures;
    list = refl;
    stands = refl;
    ends = c.in_ok-restore.ensures;
    chain = subst (λ l. Chain c.args.version (tree_of c.args.base.now) l (tree_of c.in_ok-self.field-0)) c.deref-2.ensures.value c.in_ok-self.ensures;
  });
  list = λ front e h. snoc_front c.pop.new.self.items front c.in-Some.entry e (sym c.in-Some.ensures.items ∙ h);
}
