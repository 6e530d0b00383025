use Rattle.console.proofs.Lemmas.{rules, ◌≡◌, Ok, Err, ℕ, List, ap, subst, inr, blocks_of, IsWellFormed, history_at, PromptsReader, image_prompted, not_taken, prompted_on}
use Rattle.console.proofs.prompt.run_prompt.Goals as goal

pub returns-in_err-base-clause-prompts : goal.returns-in_err-base-clause-prompts
returns-in_err-base-clause-prompts g c =
    let is : c.from_residual-in_err-base.result ≡ Err c.in_err-base.field-0.0 = search rules in
    inr (not_taken _ c.in_err-base.field-0.0 _ (g.W.Write.contents c.args.out.now) is c.in_err-base.ensures.refused)

pub returns-in_err-ended-clause-prompts : goal.returns-in_err-ended-clause-prompts
returns-in_err-ended-clause-prompts g c =
    let is : c.from_residual-in_err-ended.result ≡ Err c.in_err-ended.field-0.0 = search rules in
    let was : c.prompt_on-ended.result ≡ Err c.in_err-ended.field-0.0 = search rules in
    let ran = subst (λ r. PromptsReader blocks_of (λ d. 0) _ c.args.mode (history_at blocks_of (λ d. 0) c.in_ok-base.field-0.session c.in_ok-base.field-0.base) c.in_ok-base.field-0.session (g.R.Read.remaining c.args.typed.now) r c.prompt_on-ended.new.session (g.W.Write.contents c.args.out.now) (g.W.Write.contents c.prompt_on-ended.new.out)) was c.prompt_on-ended.ensures in
    image_prompted _ c.args.mode c.args.image c.in_ok-disk.disk (g.R.Read.remaining c.args.typed.now) _ _ _ c.in_ok-disk.ensures.disk
    (prompted_on c.args.mode c.in_ok-disk.disk c.in_ok-base.field-0.base c.in_ok-base.field-0.session c.prompt_on-ended.new.session c.in_ok-base.ensures.mounted _ (g.R.Read.remaining c.args.typed.now) (Err c.in_err-ended.field-0.0) _ _ _ ran is)

pub returns-clause-prompts : goal.returns-clause-prompts
returns-clause-prompts g c =
    let was : c.prompt_on-ended.result ≡ Ok tt = search rules in
    let ran = subst (λ r. PromptsReader blocks_of (λ d. 0) _ c.args.mode (history_at blocks_of (λ d. 0) c.in_ok-base.field-0.session c.in_ok-base.field-0.base) c.in_ok-base.field-0.session (g.R.Read.remaining c.args.typed.now) r c.prompt_on-ended.new.session (g.W.Write.contents c.args.out.now) (g.W.Write.contents c.prompt_on-ended.new.out)) was c.prompt_on-ended.ensures in
    image_prompted _ c.args.mode c.args.image c.in_ok-disk.disk (g.R.Read.remaining c.args.typed.now) _ _ _ c.in_ok-disk.ensures.disk
    (prompted_on c.args.mode c.in_ok-disk.disk c.in_ok-base.field-0.base c.in_ok-base.field-0.session c.prompt_on-ended.new.session c.in_ok-base.ensures.mounted _ (g.R.Read.remaining c.args.typed.now) (Ok tt) _ _ _ ran (ap Ok c.unmount-disk.ensures))

pub returns-clause-mounted : goal.returns-clause-mounted
returns-clause-mounted g c = subst (λ (d : List ℕ). IsWellFormed (blocks_of d)) c.in_ok-disk.ensures.disk c.in_ok-base.ensures.mounted.starts.well
