use Rattle.std.proofs.lemmas.List.Elements.{All-contains}
use Rattle.std.proofs.lemmas.Option.{IfSome_then}
use Rattle.derivations.specs.Learning.{AllStand}
use Rattle.checker.proofs.members.member_of.Goals as goal

pub returns : goal.returns
returns c =
    IfSome_then c.member.result c.member.ensures
    (λ learnt is. All-contains (AllStand c.args.task.now.registry.now.packages) c.args.task.now.store.now.members learnt.now c.requires is)
