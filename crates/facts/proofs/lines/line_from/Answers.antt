use Rattle.std.proofs.Common.{◌≡◌, ◌∙◌, ap, length, refl, subst, sym, true}
use Rattle.std.proofs.lemmas.Bool.{or_right}
use Rattle.std.proofs.lemmas.Option.{get_or_from_slice_get, slice_get_read}
use Rattle.std.specs.Prelude.{Some}
use Rattle.terms.specs.Incompats.{has_term}
use Rattle.derivations.specs.declared.known.CausedIncompatibility.{CausedIncompatibility}
use Rattle.std.proofs.lemmas.Result.{IfOk-from_err}
use Rattle.facts.proofs.lines.line_from.Goals as goal

pub returns-clause-follows : goal.returns-clause-follows
returns-clause-follows c =
    let known = c.args.known.now in
    let one = c.index-known-i.result in
    let two = c.index-known-j.result in
    let there = c.requires.second in
    let same : two ≡ there.0 = c.index-known-j.is ∙ get_or_from_slice_get known c.args.j there.0 two there.1 in
    let has : has_term two.conclusion c.args.pivot ≡ true = subst (λ (line : CausedIncompatibility). has_term line.conclusion c.args.pivot ≡ true) (sym same) there.2 in
    record {
      one = one;
      two = two;
      one_at = slice_get_read known (length known) c.args.i one refl c.requires.first c.index-known-i.is;
      two_at = there.1 ∙ ap Some (sym same);
      on_pivot = or_right (has_term one.conclusion c.args.pivot) (has_term two.conclusion c.args.pivot) has;
      follows = c.in_ok-conclusion.ensures.follows;
    }

-- where memory is refused

pub returns-in_err-conclusion : goal.returns-in_err-conclusion
returns-in_err-conclusion c = let failed = c.from_residual in record { follows = IfOk-from_err failed.result _ failed.ensures.0; reason = IfOk-from_err failed.result _ failed.ensures.0; lawful = IfOk-from_err failed.result _ failed.ensures.0 }
