use Rattle.std.proofs.Common.{arith, refl, slice_get}
use Rattle.std.specs.Prelude.{Some}
use Rattle.std.proofs.lemmas.Option.{slice_get_within}
use Rattle.search.proofs.Satisfiers.{step-within, step-falls, step-on, step-holds, step-ends}
use Rattle.search.proofs.satisfier.step_back.Goals as goal

pub said_at-requires-clause-within : goal.said_at-requires-clause-within
said_at-requires-clause-within c =
    let l = c.args.trail.now in
    step-within l.made.items l.notes.items (λ p. slice_get l.heads.items p) c.requires.kept.0 c.args.entry.now.0 c.args.entry.now.1 (Some c.args.at) c.requires.on c.args.at refl c.index.result.now c.index.ensures

pub returns-then-implies-clause-some : goal.returns-then-implies-clause-some
returns-then-implies-clause-some c =
    let l = c.args.trail.now in
    let less = step-falls l.made.items l.notes.items (λ p. slice_get l.heads.items p) c.requires.kept.0 c.args.entry.now.0 c.args.entry.now.1 (Some c.args.at) c.requires.on c.args.at refl c.index.result.now c.index.ensures in
    record {
      on = step-on l.made.items l.notes.items (λ p. slice_get l.heads.items p) c.requires.kept.0 c.args.entry.now.0 c.args.entry.now.1 (Some c.args.at) c.requires.on c.args.at refl c.index.result.now c.index.ensures;
      before = omega (arith, less);
      holds = step-holds l.made.items l.notes.items (λ p. slice_get l.heads.items p) c.requires.kept.0 c.args.entry.now.0 c.args.entry.now.1 (Some c.args.at) c.requires.on c.args.at refl c.index.result.now c.index.ensures
          c.said_at.result.now c.said_at.ensures (c.if-implies.ensures.yes refl);
    }

pub returns-else-implies-clause-none : goal.returns-else-implies-clause-none
returns-else-implies-clause-none c =
    let l = c.args.trail.now in
    step-ends l.made.items l.notes.items (λ p. slice_get l.heads.items p) c.requires.kept.0 c.args.entry.now.0 c.args.entry.now.1 (Some c.args.at) c.requires.on c.args.at refl c.index.result.now c.index.ensures
    c.said_at.result.now c.said_at.ensures c.requires.holds (c.if-implies.ensures.no refl)

pub index-requires : goal.index-requires
index-requires c =
    let l = c.args.trail.now in
    let within = slice_get_within l.made.items c.args.at c.requires.on.0 c.requires.on.1 in
    omega (arith, within, c.requires.kept.0.lengths, l.notes.ok.0)

pub returns-in-Some-clause-some : goal.returns-in-Some-clause-some
returns-in-Some-clause-some c = c.in-Some.ensures
