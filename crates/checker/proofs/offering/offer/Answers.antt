use Rattle.std.proofs.Common.{List, subst, sym}
use Rattle.std.proofs.lemmas.Option.{IfSome_then}
use Rattle.std.specs.Prelude.{IfSome}
use Rattle.checker.specs.Cutting.{ShowsLine}
use Rattle.derivations.specs.Lines.{Line}
use Rattle.checker.proofs.Offered.{learnt_by}
use Rattle.checker.proofs.offering.offer.Goals as goal

pub learnable-requires-clause-learnt : goal.learnable-requires-clause-learnt
learnable-requires-clause-learnt c =
    learnt_by c.args.known.now c.args.place c.in-Some.lines.items c.requires.lawful
    (subst (λ found. IfSome found (λ lines. ShowsLine c.args.known.now c.args.place lines.items)) c.in-Some.is c.in_ok-found.ensures.shows)

pub returns-in_ok-learnable-in-Some-clause-shows : goal.returns-in_ok-learnable-in-Some-clause-shows
returns-in_ok-learnable-in-Some-clause-shows c =
    let shows = subst (λ found. IfSome found (λ lines. ShowsLine c.args.known.now c.args.place lines.items)) c.in-Some.is c.in_ok-found.ensures.shows in
    IfSome_then c.in_ok-learnable-in-Some.field-0 c.in_ok-learnable-in-Some.ensures.same
    (λ learnt same. subst (λ (lines : List Line). ShowsLine c.args.known.now c.args.place lines) (sym same) shows)
