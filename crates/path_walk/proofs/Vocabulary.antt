-- What this crate's proofs speak of: its own definitions, and what the crates below and the library call things.
pub use Rattle.path_walk.specs.Vocabulary.{Action, AtName, Do, Name, Take, elements, list_all, looks_or_quits, walk_step, with_element}
pub use Rattle.plain_tree.proofs.Vocabulary.{Bool, List, [], ap, arith, drop, drop_all, get_or, length, nat_lt, not, refl, suc, sym, take, take_all, true, ℕ, ◌&&◌, ◌+◌, ◌-◌, ◌<◌, ◌∙◌, ◌∷◌, ◌≡◌, ◌≢◌, ◌≤◌}
pub use Rattle.path_walk.specs.Elements.{name_in, IsElement}
pub use Rattle.path_walk.specs.Names.{is_name_byte}
pub use Rattle.path_walk.specs.Walks.{After, onward, walk_of}
pub use Rattle.path_walk.specs.declared.elements.Element.{Element}
pub use Rattle.std.proofs.Common.{All, eqb, length-drop, min, nat_le, ⊎_elim}
pub use Rattle.std.proofs.lemmas.Bool.{and_from, cases_lt, le-leb, lt-ltb, ne_eqb, not_from_false}
pub use Rattle.std.proofs.lemmas.List.{drop-drop, get_or-drop, get_or-take, length-take-le, take-take}
pub use Rattle.std.proofs.lemmas.List.Elements.{All-get_or}
pub use Rattle.std.specs.Prelude.{slice_range}
