use Rattle.std.proofs.Common.{◌≤◌, ap, arith, length, refl, take, ◌∙◌}
use Rattle.session.proofs.BatchLemmas.{part_within}
use Rattle.session.proofs.KeptLemmas.{tells_on_whole}
use Rattle.session.proofs.batch.Batch.reply_next.Goals as goal

pub leave_out-requires : goal.leave_out-requires
leave_out-requires g c =
    let most = c.if-self-lt2.most in
    let first = c.first_of-asked.result.now in
    let part = c.first_of-asked.ensures ∙ ap (take most) c.as_slice.ensures.value ∙ ap (take most) c.self.view_is in
    let all : length first ≤ length first = omega arith in
    rw c.self.view_is (part_within first _ most (length first) part all)

pub returns : goal.returns
returns g c =
    let most = c.if-self-lt2.most in
    let first = c.first_of-asked.result.now in
    let part = c.first_of-asked.ensures ∙ ap (take most) c.as_slice.ensures.value ∙ ap (take most) c.self.view_is in
    rw c.leave_out.ensures (rw c.self.view_is (tells_on_whole c.tell_in_order-put.result _ _ _ _ _ first _ most (length first) _ _ part refl c.tell_in_order-put.ensures))
