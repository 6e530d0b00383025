use Rattle.explain.proofs.Lemmas.{◌<◌, ◌^◌, ◌∙◌, Bool, KeptTree, Option, length, arith, ap, refl, sym, blocks_of, ended, never, keeps_from, option_map, some_lacks_place, was_told}
use Rattle.explain.proofs.play.play.Goals as goal

pub returns-in-Ok-run_noted : goal.returns-in-Ok-run_noted
returns-in-Ok-run_noted c =
    let world = c.in_ok-world.world in
    let run = c.in-Ok-run_noted.run' in
    let few : length c.args.events.now < 2 ^ 64 = omega arith in
    record {
      run = record {
        world = world;
        outcomes = run.outcomes.items;
        new = run.world.harts;
        starts = c.in_ok-world.ensures;
        history = c.in-Ok-run_noted.ensures.history;
      };
      outcomes = refl;
      keeps = λ k is.
          let before : Option KeptTree = c.run_noted.new.observer.keeper in
          let told = was_told before k (some_lacks_place run.world.harts) (sym (c.ends.ensures ∙ ap (λ (b : Bool). option_map (ended b) before) c.lacks_place.ensures) ∙ is) in
          record {
            kept = told.kept;
            keeps = keeps_from blocks_of never world.sizes world.harts _ c.args.events.now run.outcomes.items run.world.harts _ told.kept refl refl few c.in-Ok-run_noted.ensures.notes told.was _ _ c.in_ok-version.ensures.0 _ _ c.in_ok-version.ensures.1 c.in-Ok.ensures;
            is = told.is;
          };
    }
