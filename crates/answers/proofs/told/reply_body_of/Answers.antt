use Rattle.std.proofs.Common.{inl, inr, refl}
use Rattle.answers.proofs.OutcomeLemmas.{told_explained}
use Rattle.answers.proofs.told.reply_body_of.Goals as goal

pub returns-in-Selection : goal.returns-in-Selection
returns-in-Selection c = let lawful = rw c.in-Selection.is at c.requires in inl (c.in-Selection.list.items, lawful.0, refl)

pub returns-in-NoSelection : goal.returns-in-NoSelection
returns-in-NoSelection c = let lawful = rw c.in-NoSelection.is at c.requires in rw lawful.0 (inr (lawful.1, refl))

pub explained-requires : goal.explained-requires
explained-requires c = let lawful = rw c.in-Refused.is at c.requires in lawful.1

pub returns-in_ok-reason-in-Refused : goal.returns-in_ok-reason-in-Refused
returns-in_ok-reason-in-Refused c =
    let lawful = rw c.in-Refused.is at c.requires in
    let reason = c.in_ok-reason-in-Refused.reason in
    let ensures = c.in_ok-reason-in-Refused.ensures in
    rw lawful.0 (inr (told_explained c.derivations_refute.ensures c.args.registry.now.packages c.args.request.now c.in-Refused.derivation reason.lines reason.texts lawful.1 ensures.named ensures.told))
