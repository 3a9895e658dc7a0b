use Rattle.std.proofs.Common.{◌∙◌, arith, refl}
use Rattle.std.proofs.lemmas.Option.{slice_get_within}
use Rattle.search.proofs.Places.{through-within}
use Rattle.search.proofs.satisfier.jump.Goals as goal

pub index-note-requires : goal.index-note-requires
index-note-requires c =
    let l = c.args.trail.now in
    let within = slice_get_within l.made.items c.args.at c.requires.on.0 c.requires.on.1 in
    omega (arith, within, c.requires.kept.0.lengths, l.notes.ok.0)

pub said_at-requires-clause-within : goal.said_at-requires-clause-within
said_at-requires-clause-within c =
    through-within c.args.trail.now.made.items c.args.entry.now.0 c.index-note.result.now.jump.far (c.is_before.ensures c.if-not-is_before.false).0

pub returns-then-implies : goal.returns-then-implies
returns-then-implies c =
    let before = c.is_before.ensures c.if-not-is_before.false in
    record {
      on = before.0;
      before = before.1;
      holds = λ choice said. c.if-implies.ensures.yes refl choice (c.said_at.ensures c.args.entry.now.0 choice before.0 ∙ said);
    }
