-- Maps, and tests on all harts: plain_tree's lemmas, under this crate's name too.
pub use Rattle.plain_tree.proofs.Maps.{eq_self, eq_is, eq_not, eq_isnt, either, same_or, put_same, put_other, put_is, and_true, or_none, or_left, or_right, any_none, none_any, any_same, any_at}
