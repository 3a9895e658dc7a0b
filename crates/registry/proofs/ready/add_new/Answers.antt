use Rattle.std.proofs.Common.{◌≡◌, ◌∙◌, ◌∷◌, ◌++◌, [], ap, List}
use Rattle.std.proofs.lemmas.List.{map-append}
use Rattle.std.proofs.lemmas.Result.{IfOk-from_err, IfOk-equal}
use Rattle.versions.specs.Words.{Text}
use Rattle.registry.specs.Publications.{PublicationList}
use Rattle.registry.specs.Rooms.{AreEmpty, names_in}
use Rattle.registry.proofs.ReadyLemmas.{AreEmpty-push, on_ok}
use Rattle.registry.proofs.ready.add_new.Goals as goal

pub returns-clause-empty : goal.returns-clause-empty
returns-clause-empty c =
    on_ok c.push-2.result (AreEmpty c.args.named.now.added.items → AreEmpty c.push.new.self.items)
    (λ all. rw c.in_ok-push.ensures.items (AreEmpty-push c.args.named.now.added.items _ all c.in_ok-new_package.ensures.empty))

pub returns-clause-same : goal.returns-clause-same
returns-clause-same c =
    IfOk-equal c.push-2.result _ _ _ c.push-2.ensures (ap (λ (need : Text × Text). c.args.named.now.needs ++ need ∷ []) c.in_ok-copied.ensures)

pub returns-clause-added : goal.returns-clause-added
returns-clause-added c =
    on_ok c.push-2.result (names_in c.push.new.self.items ≡ names_in c.args.named.now.added.items ++ c.args.need.now.0 ∷ [])
    (ap (λ (added : List (Text × PublicationList)). names_in added) c.in_ok-push.ensures.items ∙ map-append (λ (p : Text × PublicationList). p.0) c.args.named.now.added.items _
    ∙ ap (λ (name : Text). names_in c.args.named.now.added.items ++ name ∷ []) c.in_ok-new_package.ensures.name)

pub returns-in_err-new_package : goal.returns-in_err-new_package
returns-in_err-new_package c = let failed = c.from_residual in record { same = IfOk-from_err failed.result _ failed.ensures.0; added = IfOk-from_err failed.result _ failed.ensures.0; empty = IfOk-from_err failed.result _ failed.ensures.0 }

pub returns-in_err-push : goal.returns-in_err-push
returns-in_err-push c = let failed = c.from_residual-in_err-push in record { same = IfOk-from_err failed.result _ failed.ensures.0; added = IfOk-from_err failed.result _ failed.ensures.0; empty = IfOk-from_err failed.result _ failed.ensures.0 }

pub returns-in_err-copied : goal.returns-in_err-copied
returns-in_err-copied c = let failed = c.from_residual-in_err-copied in record { same = IfOk-from_err failed.result _ failed.ensures.0; added = IfOk-from_err failed.result _ failed.ensures.0; empty = IfOk-from_err failed.result _ failed.ensures.0 }
