use Rattle.std.proofs.Common.{◌∙◌, List, [], ap, arith, subst, sym}
use Rattle.std.specs.Prelude.{Some, position}
use Rattle.std.proofs.lemmas.List.Quantifiers.{position-Some}
use Rattle.versions.specs.Words.{Text}
use Rattle.std.specs.List.{list_any}
use Rattle.std.specs.Str.{bytes_eq}
use Rattle.std.proofs.lemmas.Result.{IfOk-from_err}
use Rattle.registry.specs.Places.{Extends}
use Rattle.registry.specs.Rooms.{unknown_names}
use Rattle.registry.proofs.PlaceLemmas.{extends-none, extends-then}
use Rattle.registry.proofs.ready.make_ready.Goals as goal

pub make_room-requires : goal.make_room-requires
make_room-requires c = record {
  within = λ i is.
      let stands = position-Some (bytes_eq c.args.name.now) c.args.names.now.keys i [] (sym c.in_ok-place.ensures.place ∙ is) in
      omega (arith, stands.0, c.requires.paired, c.named_needs.ensures.length);
}

pub returns-in-Ok-clause-ready : goal.returns-in-Ok-clause-ready
returns-in-Ok-clause-ready c = record {
  placed =
      c.in_ok-place.ensures.place ∙ ap (λ ks. position (bytes_eq c.args.name.now) ks) (sym c.make_room.ensures.keys)
      ∙ ap (λ n. position (bytes_eq n) c.make_room.new.names.keys) (sym c.in_ok-place.ensures.same);
  named =
      c.in_ok-needs.ensures.named
      ∙ ap (λ ks. unknown_names (λ name. list_any (bytes_eq name) ks) c.args.needs.now) (sym c.make_room.ensures.keys)
      ∙ ap (λ needs. unknown_names (λ name. list_any (bytes_eq name) c.make_room.new.names.keys) needs) (sym c.in_ok-needs.ensures.same);
  names_fit = omega (arith, c.in-Ok.ensures.names_room, c.len.ensures, c.in_ok-needs.added.ok.0);
  lists_fit = omega (arith, c.in-Ok.ensures.lists_room, c.len.ensures, c.in_ok-needs.added.ok.0);
  own = c.make_room.ensures.own ∙ c.new-own.ensures;
  empty = c.in_ok-needs.ensures.empty;
  room = c.in-Ok.ensures.room;
}

pub returns-in-Err-clause-lists : goal.returns-in-Err-clause-lists
returns-in-Err-clause-lists c = c.make_room.ensures.lists ∙ c.named_needs.ensures.lists

pub returns-in-Err-clause-length : goal.returns-in-Err-clause-length
returns-in-Err-clause-length c = c.make_room.ensures.length ∙ c.named_needs.ensures.length

pub returns-in-Ok-clause-lists : goal.returns-in-Ok-clause-lists
returns-in-Ok-clause-lists c = c.make_room.ensures.lists ∙ c.named_needs.ensures.lists

pub returns-in-Ok-clause-length : goal.returns-in-Ok-clause-length
returns-in-Ok-clause-length c = c.make_room.ensures.length ∙ c.named_needs.ensures.length

pub returns-in-Ok-clause-publication : goal.returns-in-Ok-clause-publication
returns-in-Ok-clause-publication c =
    ap (λ (name : Text). Some (name, c.in_ok-needs.needs)) c.in_ok-place.ensures.same
    ∙ ap (λ (needs : List (Text × Text)). Some (c.args.name.now, needs)) c.in_ok-needs.ensures.same

pub returns-in-Ok-clause-keys : goal.returns-in-Ok-clause-keys
returns-in-Ok-clause-keys c = c.make_room.ensures.keys

pub returns-in-Err-clause-keys : goal.returns-in-Err-clause-keys
returns-in-Err-clause-keys c = c.make_room.ensures.keys

pub returns-in-Err-clause-extends : goal.returns-in-Err-clause-extends
returns-in-Err-clause-extends c =
    let names = c.args.names.now.keys in
    subst (λ ks. Extends names c.args.lists.now.items ks c.make_room.new.lists.items) (sym c.make_room.ensures.keys)
    (extends-then names names names c.args.lists.now.items c.named_needs.new.lists.items c.make_room.new.lists.items c.named_needs.ensures.extends (c.make_room.ensures.extends names))

pub returns-in-Ok-clause-extends : goal.returns-in-Ok-clause-extends
returns-in-Ok-clause-extends c =
    let names = c.args.names.now.keys in
    subst (λ ks. Extends names c.args.lists.now.items ks c.make_room.new.lists.items) (sym c.make_room.ensures.keys)
    (extends-then names names names c.args.lists.now.items c.named_needs.new.lists.items c.make_room.new.lists.items c.named_needs.ensures.extends (c.make_room.ensures.extends names))

pub returns-in_err-place-clause-extends : goal.returns-in_err-place-clause-extends
returns-in_err-place-clause-extends c = extends-none c.args.names.now.keys c.args.lists.now.items

pub returns-in_err-needs-clause-extends : goal.returns-in_err-needs-clause-extends
returns-in_err-needs-clause-extends c = c.named_needs.ensures.extends

pub returns-in_err-place-clause-ready : goal.returns-in_err-place-clause-ready
returns-in_err-place-clause-ready c = IfOk-from_err c.from_residual.result _ c.from_residual.ensures.0

pub returns-in_err-place-clause-publication : goal.returns-in_err-place-clause-publication
returns-in_err-place-clause-publication c = IfOk-from_err c.from_residual.result _ c.from_residual.ensures.0

pub returns-in_err-needs-clause-ready : goal.returns-in_err-needs-clause-ready
returns-in_err-needs-clause-ready c = IfOk-from_err c.from_residual-in_err-needs.result _ c.from_residual-in_err-needs.ensures.0

pub returns-in_err-needs-clause-publication : goal.returns-in_err-needs-clause-publication
returns-in_err-needs-clause-publication c = IfOk-from_err c.from_residual-in_err-needs.result _ c.from_residual-in_err-needs.ensures.0
