use Rattle.std.proofs.Common.{◌≡◌, ◌∙◌, false, refl, sym, true≢false}
use Rattle.registry.specs.Requests.{is_allowed}
use Rattle.derivations.proofs.Asking.{asked_all, asked_more, asked_none, asked_one}
use Rattle.derivations.proofs.causes.is_none_allowed.Goals as goal

pub loop-ordinal-init : goal.loop-ordinal-init
loop-ordinal-init c = (
  tt,
  tt,
  asked_none (λ k. is_allowed c.args.registry.now.packages c.args.request.now c.args.pkg k ≡ false) c.args.versions.now c.into_iter-ordinal-iterator.result
      (c.into_iter-ordinal-iterator.ensures.into_iter_gives ∙ c.iter-ordinal-items.ensures.same),
)

pub loop-ordinal-preserved : goal.loop-ordinal-preserved
loop-ordinal-preserved c = (
  tt,
  tt,
  asked_more (λ k. is_allowed c.args.registry.now.packages c.args.request.now c.args.pkg k ≡ false) c.args.versions.now c.loop-ordinal.ordinal-iterator c.next.new.self c.in-Some.ordinal
      c.in-Some.ensures.steps (sym c.allowed.ensures ∙ c.if-allowed.false) c.loop-ordinal.invariant.2,
)

pub returns-then-allowed : goal.returns-then-allowed
returns-then-allowed c =
    let own = asked_one (λ k. is_allowed c.args.registry.now.packages c.args.request.now c.args.pkg k ≡ false) c.args.versions.now c.loop-ordinal.ordinal-iterator c.next.new.self c.in-Some.ordinal
    c.in-Some.ensures.steps c.loop-ordinal.invariant.2 in
    (λ t. absurd (true≢false (sym t)), λ none. absurd (true≢false (sym (sym c.allowed.ensures ∙ c.if-allowed.true) ∙ none c.in-Some.ordinal own)))

pub returns : goal.returns
returns c = (
  λ t. asked_all (λ k. is_allowed c.args.registry.now.packages c.args.request.now c.args.pkg k ≡ false) c.args.versions.now c.loop-ordinal.ordinal-iterator c.in-None.ensures.steps.0 c.loop-ordinal.invariant.2,
  λ none. refl,
)
