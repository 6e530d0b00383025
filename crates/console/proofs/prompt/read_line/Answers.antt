use Rattle.console.proofs.Lemmas.{rules, arith, List, ℕ, false, true≢false, ◌≡◌, ◌++◌, ◌∷◌, [], sym, ◌∙◌, Decides-eqb, ends_is, read_ended, read_endless, read_none}
use Rattle.console.proofs.prompt.read_line.Goals as goal

pub returns-in-Ok-eq0-clause-line : goal.returns-in-Ok-eq0-clause-line
returns-in-Ok-eq0-clause-line g c = read_none (g.R.Read.remaining c.args.typed.now) (c.in-Ok-eq0.ensures.end c.in-Ok-eq0.field-0-test)

pub returns-in-Ok-clause-line : goal.returns-in-Ok-clause-line
returns-in-Ok-clause-line g c =
    let all : c.deref.result.now ≡ c.read_until.new.buf.items = search rules in
    let ends = (ends_is Decides-eqb c.deref.result.now (10 ∷ []) c.ends_with.result c.ends_with.ensures.value).0 c.if-ends_with.true in
    let items : c.read_until.new.buf.items ≡ c.pop.new.self.items ++ 10 ∷ [] = search rules in
    read_ended (g.R.Read.remaining c.args.typed.now) (g.R.Read.remaining c.read_until.new.self) c.clear.new.self.items c.read_until.new.buf.items c.pop.new.self.items c.clear.ensures.items c.in-Ok.ensures.bytes c.in-Ok.ensures.rest items

pub returns-in-Ok-2-clause-line : goal.returns-in-Ok-2-clause-line
returns-in-Ok-2-clause-line g c =
    let all : c.deref.result.now ≡ c.read_until.new.buf.items = search rules in
    let none : c.ends_with.result ≡ false = c.if-ends_with.false in
    let without : (body : List ℕ) → c.read_until.new.buf.items ≡ body ++ 10 ∷ [] → ⊥ = λ body e. true≢false (sym ((ends_is Decides-eqb c.deref.result.now (10 ∷ []) c.ends_with.result c.ends_with.ensures.value).1 body (all ∙ e)) ∙ none) in
    read_endless (g.R.Read.remaining c.args.typed.now) (g.R.Read.remaining c.read_until.new.self) c.clear.new.self.items c.read_until.new.buf.items c.clear.ensures.items c.in-Ok.ensures.bytes c.in-Ok.ensures.rest
    (λ no. c.in-Ok.field-0-test.1 (omega (arith, no, c.in-Ok.ensures.ok, c.clear.ensures.len))) without
