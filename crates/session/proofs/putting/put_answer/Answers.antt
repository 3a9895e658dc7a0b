use Rattle.std.proofs.Common.{[], append-nil, subst, sym}
use Rattle.registry.specs.Registry.{Packages}
use Rattle.pool.specs.Answering.{IsAnswerTo}
use Rattle.replies.specs.Replied.{body_of}
use Rattle.session.proofs.BatchLemmas.{tells_one, told_found, told_stopped}
use Rattle.session.proofs.putting.put_answer.Goals as goal

pub told_to-requires : goal.told_to-requires
told_to-requires g c = subst (λ (packages : Packages). IsAnswerTo packages c.args.asked.now c.args.answer) (sym c.registry.ensures) c.requires

pub returns-in-Ok : goal.returns-in-Ok
returns-in-Ok g c =
    let asked = c.args.asked.now in
    let tells = rw c.registry.ensures at c.in-Ok.ensures.told in
    let added = c.add_offers.ensures in
    tells_one c.put_reply.result _ _ _ _ _ c.args.served.now _ _ added.0 _ added.1
    (told_found c.lawful_replies_add_up.ensures asked c.args.served.now (body_of c.in-Ok.body) tells added.0) (rw c.standing.ensures at c.put_reply.ensures)

pub returns-in-Err : goal.returns-in-Err
returns-in-Err g c =
    let asked = c.args.asked.now in
    let stops = rw c.registry.ensures at c.in-Err.ensures.only in
    tells_one c.put_reply-in-Err.result _ _ _ _ _ c.args.served.now _ _ [] _ (sym (append-nil _))
    (told_stopped c.lawful_replies_add_up.ensures asked c.args.served.now c.in-Err.e stops) (rw c.standing-in-Err.ensures at c.put_reply-in-Err.ensures)
