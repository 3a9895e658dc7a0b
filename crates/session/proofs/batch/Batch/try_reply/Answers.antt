use Rattle.std.proofs.Common.{◌∙◌, ap, take}
use Rattle.session.proofs.BatchLemmas.{part_within, tells_part}
use Rattle.session.proofs.batch.Batch.try_reply.Goals as goal

pub leave_out-requires : goal.leave_out-requires
leave_out-requires g c =
    let part = c.first_of.ensures ∙ ap (take c.args.most) c.as_slice.ensures.value ∙ ap (take c.args.most) c.self.view_is in
    rw c.self.view_is (part_within c.first_of.result.now _ c.args.most c.try_put-put.new.count part c.try_put-put.ensures.within)

pub returns : goal.returns
returns g c =
    let part = c.first_of.ensures ∙ ap (take c.args.most) c.as_slice.ensures.value ∙ ap (take c.args.most) c.self.view_is in
    rw c.leave_out.ensures (rw c.self.view_is (tells_part c.try_put-put.result _ _ _ _ c.first_of.result.now _ c.args.most c.try_put-put.new.count _ _ _ part c.try_put-put.ensures.within c.try_put-put.ensures.told))
