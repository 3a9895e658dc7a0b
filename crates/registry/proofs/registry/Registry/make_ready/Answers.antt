use Rattle.std.proofs.Common.{◌≡◌, ◌∙◌, ap, length, subst, sym, List}
use Rattle.std.proofs.lemmas.Result.{IfOk-from_err}
use Rattle.versions.specs.Words.{Text}
use Rattle.registry.specs.Lawful.{IsRegistry}
use Rattle.registry.specs.Publications.{PublicationList, lists_of, packages_in, packages_of}
use Rattle.registry.specs.Registry.{Publication}
use Rattle.registry.specs.Rooms.{State}
use Rattle.registry.proofs.registry.Registry.make_ready.Goals as goal

same_packages : (names names' : List Text) (lists lists' : List PublicationList) → names' ≡ names → lists_of lists' ≡ lists_of lists → packages_in names' lists' ≡ packages_in names lists
same_packages names names' lists lists' keys listed =
    ap (λ (ks : List Text). packages_of ks (lists_of lists')) keys ∙ ap (λ (ls : List (List Publication)). packages_of names ls) listed

pub returns-in_err-ready-clause-packages : goal.returns-in_err-ready-clause-packages
returns-in_err-ready-clause-packages c =
    same_packages c.self.inside.names.keys c.make_ready.new.names.keys c.self.inside.lists.items c.make_ready.new.lists.items c.make_ready.ensures.keys c.make_ready.ensures.lists
    ∙ ap (λ (s : State). s.packages) c.self.view_is

pub returns-clause-packages : goal.returns-clause-packages
returns-clause-packages c =
    same_packages c.self.inside.names.keys c.make_ready.new.names.keys c.self.inside.lists.items c.make_ready.new.lists.items c.make_ready.ensures.keys c.make_ready.ensures.lists
    ∙ ap (λ (s : State). s.packages) c.self.view_is

pub invariant_of-self : goal.invariant_of-self
invariant_of-self c = (
  ap length c.make_ready.ensures.keys ∙ c.self.invariant.0 ∙ sym c.make_ready.ensures.length,
  subst IsRegistry (sym (same_packages c.self.inside.names.keys c.make_ready.new.names.keys c.self.inside.lists.items c.make_ready.new.lists.items c.make_ready.ensures.keys c.make_ready.ensures.lists)) c.self.invariant.1,
  rw c.take.ensures.after tt,
  c.make_ready.ensures.extends.placed c.self.invariant.3,
)

pub invariant_of-self-2 : goal.invariant_of-self-2
invariant_of-self-2 c = (
  ap length c.make_ready.ensures.keys ∙ c.self.invariant.0 ∙ sym c.make_ready.ensures.length,
  subst IsRegistry (sym (same_packages c.self.inside.names.keys c.make_ready.new.names.keys c.self.inside.lists.items c.make_ready.new.lists.items c.make_ready.ensures.keys c.make_ready.ensures.lists)) c.self.invariant.1,
  rw c.replace.ensures.after c.in_ok-ready.ensures.ready,
  c.make_ready.ensures.extends.placed c.self.invariant.3,
)

pub returns-in_err-ready-clause-ok : goal.returns-in_err-ready-clause-ok
returns-in_err-ready-clause-ok c = IfOk-from_err c.from_residual.result _ c.from_residual.ensures.0
