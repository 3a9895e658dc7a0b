use Rattle.std.proofs.Common.{◌∙◌, Option, ap, codes, option_map, sym}
use Rattle.serde_json.specs.View.{view}
use Rattle.versions.specs.Words.{Text}
use Rattle.registry.specs.Step.{Unyank, Yank}
use Rattle.wire.specs.Shapes.{command}
use Rattle.wire.proofs.RequestLemmas.{listing_of, shape_said, shape_unsaid}
use Rattle.wire.proofs.request.shape.shape_of.Goals as goal

pub returns-in_err-text_at : goal.returns-in_err-text_at
returns-in_err-text_at c = rw c.from_residual.ensures (shape_unsaid (view c.args.value.now) c.in_err-text_at.ensures)

pub returns-in-publish : goal.returns-in-publish
returns-in-publish c = c.publication_in.ensures ∙ shape_said (view c.args.value.now) _ (codes "publish") c.in_ok-text_at.ensures c.in-publish.is

pub returns-in_err-name-in-yank : goal.returns-in_err-name-in-yank
returns-in_err-name-in-yank c =
    rw c.from_residual-in_err-name-in-yank.ensures
    (ap (λ (found : Option (Text × Text)). option_map (λ (p : Text × Text). command (Yank p.0 p.1)) found) c.in_err-name-in-yank.ensures
    ∙ shape_said (view c.args.value.now) _ (codes "yank") c.in_ok-text_at.ensures c.in-yank.is)

pub returns-in_ok-name-in-yank : goal.returns-in_ok-name-in-yank
returns-in_ok-name-in-yank c =
    ap (λ (found : Option (Text × Text)). option_map (λ (p : Text × Text). command (Yank p.0 p.1)) found) c.in_ok-name-in-yank.ensures
    ∙ shape_said (view c.args.value.now) _ (codes "yank") c.in_ok-text_at.ensures c.in-yank.is

pub returns-in_err-name-in-unyank : goal.returns-in_err-name-in-unyank
returns-in_err-name-in-unyank c =
    rw c.from_residual-in_err-name-in-unyank.ensures
    (ap (λ (found : Option (Text × Text)). option_map (λ (p : Text × Text). command (Unyank p.0 p.1)) found) c.in_err-name-in-unyank.ensures
    ∙ shape_said (view c.args.value.now) _ (codes "unyank") c.in_ok-text_at.ensures c.in-unyank.is)

pub returns-in_ok-name-in-unyank : goal.returns-in_ok-name-in-unyank
returns-in_ok-name-in-unyank c =
    ap (λ (found : Option (Text × Text)). option_map (λ (p : Text × Text). command (Unyank p.0 p.1)) found) c.in_ok-name-in-unyank.ensures
    ∙ shape_said (view c.args.value.now) _ (codes "unyank") c.in_ok-text_at.ensures c.in-unyank.is

pub returns-in-resolve : goal.returns-in-resolve
returns-in-resolve c = c.resolution_in.ensures ∙ shape_said (view c.args.value.now) _ (codes "resolve") c.in_ok-text_at.ensures c.in-resolve.is

pub returns-in-check : goal.returns-in-check
returns-in-check c = c.checking_in.ensures ∙ shape_said (view c.args.value.now) _ (codes "check") c.in_ok-text_at.ensures c.in-check.is

pub returns-in-list : goal.returns-in-list
returns-in-list c =
    listing_of (view c.args.value.now) (sym c.member_count.ensures ∙ c.if-member_count-eq1.true)
    ∙ shape_said (view c.args.value.now) _ (codes "list") c.in_ok-text_at.ensures c.in-list.is
