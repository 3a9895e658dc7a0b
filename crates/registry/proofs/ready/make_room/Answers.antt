use Rattle.std.proofs.Common.{refl}
use Rattle.std.proofs.lemmas.Result.{IfOk-from_err}
use Rattle.registry.proofs.PlaceLemmas.{extends-none, extends-same, extends-then}
use Rattle.registry.proofs.ready.make_room.Goals as goal

pub returns-in_err-reserve-clause-extends : goal.returns-in_err-reserve-clause-extends
returns-in_err-reserve-clause-extends c = λ names. extends-none names c.args.lists.now.items

pub returns-in_err-reserve-2-clause-extends : goal.returns-in_err-reserve-2-clause-extends
returns-in_err-reserve-2-clause-extends c = λ names.
    extends-same names names c.args.lists.now.items c.reserve-2.new.self.items refl c.reserve-2.ensures.items

pub returns-clause-extends : goal.returns-clause-extends
returns-clause-extends c = λ names.
    extends-then names names names c.args.lists.now.items c.reserve-2.new.self.items c.make_list_room.new.lists.items
    (extends-same names names c.args.lists.now.items c.reserve-2.new.self.items refl c.reserve-2.ensures.items)
    (c.make_list_room.ensures.extends names)

pub returns-in_err-reserve-clause-names_room : goal.returns-in_err-reserve-clause-names_room
returns-in_err-reserve-clause-names_room c = IfOk-from_err c.from_residual.result _ c.from_residual.ensures.0

pub returns-in_err-reserve-clause-lists_room : goal.returns-in_err-reserve-clause-lists_room
returns-in_err-reserve-clause-lists_room c = IfOk-from_err c.from_residual.result _ c.from_residual.ensures.0

pub returns-in_err-reserve-clause-room : goal.returns-in_err-reserve-clause-room
returns-in_err-reserve-clause-room c = IfOk-from_err c.from_residual.result _ c.from_residual.ensures.0

pub returns-in_err-reserve-2-clause-names_room : goal.returns-in_err-reserve-2-clause-names_room
returns-in_err-reserve-2-clause-names_room c = IfOk-from_err c.from_residual-in_err-reserve-2.result _ c.from_residual-in_err-reserve-2.ensures.0

pub returns-in_err-reserve-2-clause-lists_room : goal.returns-in_err-reserve-2-clause-lists_room
returns-in_err-reserve-2-clause-lists_room c = IfOk-from_err c.from_residual-in_err-reserve-2.result _ c.from_residual-in_err-reserve-2.ensures.0

pub returns-in_err-reserve-2-clause-room : goal.returns-in_err-reserve-2-clause-room
returns-in_err-reserve-2-clause-room c = IfOk-from_err c.from_residual-in_err-reserve-2.result _ c.from_residual-in_err-reserve-2.ensures.0
