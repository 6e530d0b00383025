-- Each part has an operation to make.
use Rattle.directory.proofs.Vocabulary.{HasOne, Version, first, Hand, InodePlace, block_left, store_left, Aim, clear_left, enter_left, fill_left, write_left, search_left, Clear, Enter, Fill, Search, store_has, block_has, write_has, on_disk, dots_in}
use Rattle.directory.specs.declared.clear.Clear.TheVariants as clear
use Rattle.directory.specs.declared.enter.Enter.TheVariants as enter
use Rattle.directory.specs.declared.search.Search.TheVariants as search

pub search_has : (v : Version) (aim : Aim) (k : InodePlace) (m : Search) (h : Hand) → HasOne (search_left v aim k m h)
search_has v aim k (search.Fetching at m) h = first (block_left m h) _ (block_has m h)
search_has v aim k (search.Giving at found) h = tt

pub clear_has : (m : Clear) (h : Hand) → HasOne (clear_left m h)
clear_has (clear.Fetching s m) h = first (block_left m h) _ (block_has m h)
clear_has (clear.Write s) h = tt
clear_has (clear.Storing d m) h = first (store_left m h) _ (store_has m h)

pub enter_has : (m : Enter) (h : Hand) → HasOne (enter_left m h)
enter_has (enter.Searching e m) h = first (search_left _ _ _ m h) _ (search_has _ _ _ m h)
enter_has (enter.Writing p m) h = first (write_left (on_disk p.version p.entry) m h) _ (write_has (on_disk p.version p.entry) m h)

pub fill_has : (m : Fill) (h : Hand) → HasOne (fill_left m h)
fill_has m h = first (write_left (dots_in m) m.part h) _ (write_has (dots_in m) m.part h)
