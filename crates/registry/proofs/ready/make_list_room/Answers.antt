use Rattle.std.proofs.Common.{◌<◌, sym, subst, rules, length, set}
use Rattle.std.proofs.lemmas.Result.{IfOk-from_err}
use Rattle.registry.proofs.GrowthLemmas.{lists_of-set_same, room-grown}
use Rattle.registry.specs.Publications.{rooms_of}
use Rattle.registry.specs.Rooms.{room_where}
use Rattle.registry.proofs.PlaceLemmas.{extends-none, extends-set}
use Rattle.registry.proofs.ready.make_list_room.Goals as goal

pub returns-in_err-reserve-in-Some-clause-lists : goal.returns-in_err-reserve-in-Some-clause-lists
returns-in_err-reserve-in-Some-clause-lists c =
    lists_of-set_same c.args.lists.now.items c.in-Some.index c.index_mut-list.result.now c.reserve-in-Some.new.self c.index_mut-list.ensures.value c.reserve-in-Some.ensures.same

pub returns-in_ok-reserve-in-Some-clause-lists : goal.returns-in_ok-reserve-in-Some-clause-lists
returns-in_ok-reserve-in-Some-clause-lists c =
    lists_of-set_same c.args.lists.now.items c.in-Some.index c.index_mut-list.result.now c.reserve-in-Some.new.self c.index_mut-list.ensures.value c.reserve-in-Some.ensures.same

pub returns-in_ok-reserve-in-Some-clause-room : goal.returns-in_ok-reserve-in-Some-clause-room
returns-in_ok-reserve-in-Some-clause-room c =
    let within : c.in-Some.index < length c.args.lists.now.items = search rules in
    let grown = room-grown c.args.lists.now.items c.in-Some.index c.reserve-in-Some.new.self within in
    subst (λ o. 0 < room_where (rooms_of (set c.args.lists.now.items c.in-Some.index c.reserve-in-Some.new.self)) c.args.own.now.room o) (sym c.in-Some.is)
    (subst (λ n. 0 < n) (sym grown) c.in_ok-reserve-in-Some.ensures.ok)

pub returns-in_err-reserve-in-Some-clause-extends : goal.returns-in_err-reserve-in-Some-clause-extends
returns-in_err-reserve-in-Some-clause-extends c = λ names.
    let within : c.in-Some.index < length c.args.lists.now.items = search rules in
    extends-set names c.args.lists.now.items c.in-Some.index c.index_mut-list.result.now c.reserve-in-Some.new.self within c.index_mut-list.ensures.value c.reserve-in-Some.ensures.grown

pub returns-in_ok-reserve-in-Some-clause-extends : goal.returns-in_ok-reserve-in-Some-clause-extends
returns-in_ok-reserve-in-Some-clause-extends c = λ names.
    let within : c.in-Some.index < length c.args.lists.now.items = search rules in
    extends-set names c.args.lists.now.items c.in-Some.index c.index_mut-list.result.now c.reserve-in-Some.new.self within c.index_mut-list.ensures.value c.reserve-in-Some.ensures.grown

pub returns-in_err-reserve-in-None-clause-extends : goal.returns-in_err-reserve-in-None-clause-extends
returns-in_err-reserve-in-None-clause-extends c = λ names. extends-none names c.args.lists.now.items

pub returns-in_ok-reserve-in-None-clause-extends : goal.returns-in_ok-reserve-in-None-clause-extends
returns-in_ok-reserve-in-None-clause-extends c = λ names. extends-none names c.args.lists.now.items

pub returns-in_err-reserve-in-None-clause-room : goal.returns-in_err-reserve-in-None-clause-room
returns-in_err-reserve-in-None-clause-room c = IfOk-from_err c.from_residual.result _ c.from_residual.ensures.0

pub returns-in_err-reserve-in-Some-clause-room : goal.returns-in_err-reserve-in-Some-clause-room
returns-in_err-reserve-in-Some-clause-room c = IfOk-from_err c.from_residual-in_err-reserve-in-Some.result _ c.from_residual-in_err-reserve-in-Some.ensures.0
