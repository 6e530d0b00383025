use Rattle.image_tree.proofs.Lemmas.{◌≡◌, ◌∙◌, ℕ, List, ap, Super, sizes_of, gathered, last, named_in, further_in, proper_in, parent_of, children_are, table_kept, tallies_kept, length_kept}
use Rattle.damage_places.proofs.links.find_links.Goals as goal

pub returns-clause-links : goal.returns-clause-links
returns-clause-links g c =
    let disk : List (List ℕ) = g.D.Device.contents c.args.device.now in
    let same = c.in_ok-ups.ensures.device.contents in
    let n : c.args.layout.now.sizes.ninodes ≡ (sizes_of disk).ninodes = ap (λ (s : Super). s.ninodes) c.requires.layout.sizes in
    let names = table_kept c.in_ok-names.names c.deref_mut.result.now c.count_names.new.names (sizes_of disk).ninodes c.count_names.auto.names c.deref_mut.ensures.len (c.in_ok-names.ensures.length ∙ n) in
    let further = table_kept c.in_ok-further.further c.deref_mut-2.result.now c.count_names.new.further (sizes_of disk).ninodes c.count_names.auto.further c.deref_mut-2.ensures.len (c.in_ok-further.ensures.length ∙ n) in
    let proper = table_kept c.in_ok-proper.proper c.deref_mut-3.result.now c.count_names.new.proper (sizes_of disk).ninodes c.count_names.auto.proper c.deref_mut-3.ensures.len (c.in_ok-proper.ensures.length ∙ n) in
    let children = table_kept c.in_ok-children.children c.deref_mut-4.result.now c.count_children.new.children (sizes_of disk).ninodes c.count_children.auto.children c.deref_mut-4.ensures.len (c.in_ok-children.ensures.length ∙ n) in
    record {
      ups = c.in_ok-ups.ensures.table;
      names = tallies_kept c.in_ok-names.names c.count_names.new.names (gathered (named_in c.args.layout.now.version disk) (last disk)) names.0 (rw same at c.in_ok-count_names.ensures.names);
      further = tallies_kept c.in_ok-further.further c.count_names.new.further (gathered (further_in c.args.layout.now.version disk) (last disk)) further.0 (rw same at c.in_ok-count_names.ensures.further);
      proper = tallies_kept c.in_ok-proper.proper c.count_names.new.proper (gathered (proper_in c.args.layout.now.version disk) (last disk)) proper.0 (rw same at c.in_ok-count_names.ensures.proper);
      children = tallies_kept c.in_ok-children.children c.count_children.new.children (gathered (parent_of c.args.layout.now.version disk) (last disk)) children.0
          (children_are c.args.layout.now.version disk c.in_ok-ups.ups.items c.as_slice-2.result.now c.count_children.new.children c.in_ok-ups.ensures.table c.as_slice-2.ensures.value
          c.count_children.ensures);
      names_length = length_kept c.in_ok-names.names c.count_names.new.names (sizes_of disk).ninodes names.0 names.1;
      further_length = length_kept c.in_ok-further.further c.count_names.new.further (sizes_of disk).ninodes further.0 further.1;
      proper_length = length_kept c.in_ok-proper.proper c.count_names.new.proper (sizes_of disk).ninodes proper.0 proper.1;
      children_length = length_kept c.in_ok-children.children c.count_children.new.children (sizes_of disk).ninodes children.0 children.1;
    }
