use Rattle.answers.proofs.LawfulLemmas.{lawful_answered, lawful_bad}
use Rattle.answers.proofs.answer.answer_read.Goals as goal

pub returns-in-Ok-Command : goal.returns-in-Ok-Command
returns-in-Ok-Command g c = λ settings line is.
    let said = rw c.in-Ok-Command.field-0-is at (rw c.in-Ok-Command.is at is) in
    lawful_answered g.L.Backend.ways settings line _ _ _ _ said c.enter.ensures

pub returns-in-Ok-Resolve : goal.returns-in-Ok-Resolve
returns-in-Ok-Resolve g c = λ settings line is.
    let said = rw c.in-Ok-Resolve.field-0-is at (rw c.in-Ok-Resolve.is at is) in
    lawful_answered g.L.Backend.ways settings line _ _ _ _ said c.resolve.ensures

pub returns-in-Ok-Check : goal.returns-in-Ok-Check
returns-in-Ok-Check g c = λ settings line is.
    let said = rw c.in-Ok-Check.field-0-is at (rw c.in-Ok-Check.is at is) in
    lawful_answered g.L.Backend.ways settings line _ _ _ _ said c.judge.ensures

pub returns-in-Ok-Listing : goal.returns-in-Ok-Listing
returns-in-Ok-Listing g c = λ settings line is.
    let said = rw c.in-Ok-Listing.field-0-is at (rw c.in-Ok-Listing.is at is) in
    lawful_answered g.L.Backend.ways settings line _ _ _ _ said c.list.ensures

pub returns-in-Err : goal.returns-in-Err
returns-in-Err g c = λ settings line is.
    let said = rw c.in-Err.is at is in
    lawful_bad g.L.Backend.ways settings line _ c.in-Err.fault said
