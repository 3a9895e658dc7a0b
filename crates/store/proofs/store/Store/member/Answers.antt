use Rattle.std.proofs.Common.{subst}
use Rattle.std.specs.Prelude.{Contains, IfSome}
use Rattle.store.specs.Slots.{IsMemberAt, Slots}
use Rattle.store.specs.Stored.{Stored}
use Rattle.store.proofs.Finding.{if_weaker}
use Rattle.store.proofs.Thinning.{kept_contains}
use Rattle.store.proofs.store.Store.member.Goals as goal

pub returns : goal.returns
returns c =
    subst (λ (s : Stored). IfSome c.member_at.result (λ member. Contains s.members member.now)) c.self.view_is
    (if_weaker (λ member. IsMemberAt c.self.inside.slots.items c.args.place member.now) _ (λ member is. kept_contains c.self.inside.slots.items c.args.place member.now is) c.member_at.result
    (subst (λ (l : Slots). IfSome c.member_at.result (λ member. IsMemberAt l c.args.place member.now)) c.deref.ensures.value c.member_at.ensures))
